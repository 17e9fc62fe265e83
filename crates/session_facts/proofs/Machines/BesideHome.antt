-- A checkpoint's call beside its home's lease: of its leases those are in hand behind it that the call leaves outstanding.
use Rattle.std.proofs.Common.{◌≡◌, ◌⊎◌, inl, inr, zero, suc, List, [], ◌∷◌, Some, sym, ap, ◌∙◌}
use Rattle.ckpt_parts.specs.Leasing.{outstanding_after}
use Rattle.cloud_facts.specs.Words.{Answer, CloudState, called, Caller, Claim, Ask, Take, Renew, Release, IsIn}
use Rattle.cloud_facts.proofs.Book.Places.{get_single}
use Rattle.cloud_facts.specs.Calls.Acting.{exchange, Handles}
use Rattle.cloud_facts.specs.Leases.Guards.{IsGuarded}
use Rattle.cloud_facts.specs.Leases.Leases.{AreOne, KeptBy, GainedBy, Owns, RenewedTo}
use Rattle.cloud_trait.specs.declared.answer.Answer.TheVariants.{Given}
use Rattle.cloud_trait.specs.Ask.{MovesNoLock}

pub quiet_renews : (who : Caller) (ask : Ask) (x : Claim) (b t : CloudState) → MovesNoLock ask → RenewedTo who ask x b t
quiet_renews who (Renew l ticks) x b t never = absurd never
quiet_renews who ask x b t quiet = tt

pub quiet_keeps : (ask : Ask) (x : Claim) → MovesNoLock ask → KeptBy ask x
quiet_keeps (Renew l ticks) x never = absurd never
quiet_keeps (Release l) x never = absurd never
quiet_keeps ask x quiet = tt

-- what is outstanding was so before, or the call gave it
outstanding_own : (ask : Ask) (a : Answer) (renewed : Claim) (cs : List Claim) (x : Claim) → (IsIn (outstanding_after ask a cs) x → KeptBy ask x) → IsIn (outstanding_after ask a cs) x
    → (IsIn cs x × KeptBy ask x) ⊎ GainedBy ask a renewed x
outstanding_own (Take k ticks) (Given l) renewed cs x kept (zero, is) = inr (sym (get_single l 0 x is))
outstanding_own (Take k ticks) (Given l) renewed cs x kept (suc place, is) = inl ((place, is), tt)
outstanding_own (Take k ticks) a renewed cs x kept there = inl (there, tt)
outstanding_own (Release l) a renewed [] x kept there = inl (there, kept there)
outstanding_own (Release l) a renewed (c ∷ cs) x kept there = inl ((suc there.0, there.1), kept there)
outstanding_own ask a renewed cs x kept there = inl (there, kept there)

module _ (who : Caller) (s t : CloudState) (home : Claim) (reply : Answer) (after : List Claim) where
  -- a lease that is in hand then is the home's, or outstanding
  abbrev pub AreLeft : Ask → List Claim → Type 0
  AreLeft ask mine = (x : Claim) → IsIn after x → (home ≡ x) ⊎ IsIn (outstanding_after ask reply mine) x

  -- the home's lease stays in hand, and of the others what is outstanding
  pub hand : (ask : Ask) (mine : List Claim) → Owns (λ n. home ∷ mine) who.session ask → IsGuarded s t.now ask → RenewedTo who ask home (called who t.now s) t
      → ((x : Claim) → IsIn (home ∷ outstanding_after ask reply mine) x → KeptBy ask x) → AreLeft ask mine → Handles (exchange who s t ask reply) (home ∷ mine) after
  hand ask mine owns guarded renews kept left = record {
    owns = owns;
    guarded = guarded;
    renewed = home;
    renews = renews;
    own = λ x there. on x (left x there);
  }
    where
      behind : (x : Claim) → (IsIn mine x × KeptBy ask x) ⊎ GainedBy ask reply home x → (IsIn (home ∷ mine) x × KeptBy ask x) ⊎ GainedBy ask reply home x
      behind x (inl old) = inl ((suc old.0.0, old.0.1), old.1)
      behind x (inr new) = inr new

      on : (x : Claim) → (home ≡ x) ⊎ IsIn (outstanding_after ask reply mine) x → (IsIn (home ∷ mine) x × KeptBy ask x) ⊎ GainedBy ask reply home x
      on x (inl same) = let first : Some home ≡ Some x = ap (λ (l : Claim). Some l) same in inl ((zero, first), kept x (zero, first))
      on x (inr there) = behind x (outstanding_own ask reply home mine x (λ is. kept x (suc is.0, is.1)) there)

  -- none of them is of the lock of a lease that is given back
  pub apart_from : (l : Claim) (ls : List Claim) → (home.lock ≡ l.lock → ⊥) → ((x : Claim) → IsIn ls x → x.lock ≡ l.lock → ⊥) → (x : Claim) → IsIn (home ∷ ls) x → AreOne l x → ⊥
  apart_from l ls home_apart rest x (zero, is) one = home_apart (ap (λ (c : Claim). c.lock) (get_single home 0 x is) ∙ sym one.lock)
  apart_from l ls home_apart rest x (suc place, is) one = rest x (place, is) (sym one.lock)

-- A call that handles its leases beside any other one handles them alone.
use Rattle.std.proofs.Common.{◌≡◌, ◌<◌, ◌+◌, ◌⊎◌, inl, inr, ℕ, zero, suc, List, [], ◌∷◌, ◌++◌, Some, None, refl, ap, arith}
use Rattle.cloud_facts.specs.Calls.Acting.{exchange, Handles}
use Rattle.cloud_facts.specs.Words.{Answer, CloudState, Caller, Claim, Ask, Get, GetHeld, PutHeld, Send, Receive, Delete, Take, Renew, Release, IsIn}
use Rattle.cloud_trait.specs.Ask.{ListHeld, RemoveHeld}
use Rattle.db_base.specs.declared.names.Lock.TheVariants as lock
use Rattle.cloud_facts.specs.Leases.Leases.{Owns, KeptBy, GainedBy}
use Rattle.cloud_facts.proofs.Book.Places.{in_front, in_behind}

-- ---- a lease that is none of these

-- a generation above theirs
abbrev above : List Claim → ℕ
above [] = 0
above (l ∷ ls) = l.generation + 1 + above ls

below_above : (ls : List Claim) (x : Claim) → IsIn ls x → x.generation < above ls
below_above [] x (zero, is) = absurd (cc)
below_above [] x (suc place, is) = absurd (cc)
below_above (l ∷ ls) x (zero, is) = let same : l ≡ x = cc in let equal : l.generation ≡ x.generation = ap (λ (c : Claim). c.generation) same in omega (arith, equal)
below_above (l ∷ ls) x (suc place, is) = let less = below_above ls x (place, is) in omega (arith, less)

-- the leases that a call names
abbrev named : Ask → List Claim
named (GetHeld name l) = l ∷ []
named (ListHeld tree l) = l ∷ []
named (RemoveHeld name l) = l ∷ []
named (PutHeld name bytes one None) = one ∷ []
named (PutHeld name bytes one (Some two)) = one ∷ two ∷ []
named (Renew l ticks) = l ∷ []
named (Release l) = l ∷ []
named (Get name) = []
named (Send queue bytes) = []
named (Receive queue most) = []
named (Delete queue id) = []
named (Take lock ticks) = []

module _ (home : Claim) (mine : List Claim) where
  -- what is not that lease is among the others
  other : (x : Claim) → IsIn (home ∷ mine) x → (home ≡ x → ⊥) → IsIn mine x
  other x (zero, is) ne = let same : home ≡ x = cc in absurd (ne same)
  other x (suc place, is) ne = (place, is)

  owns_alone : (session : ℕ) (ask : Ask) → ((x : Claim) → IsIn (named ask) x → home ≡ x → ⊥) → Owns (λ n. home ∷ mine) session ask → Owns (λ n. mine) session ask
  owns_alone session (GetHeld name l) ne o = other l o (ne l (zero, refl))
  owns_alone session (ListHeld tree l) ne o = other l o (ne l (zero, refl))
  owns_alone session (RemoveHeld name l) ne o = other l o (ne l (zero, refl))
  owns_alone session (PutHeld name bytes one None) ne o = (other one o.0 (ne one (zero, refl)), tt)
  owns_alone session (PutHeld name bytes one (Some two)) ne o = (other one o.0 (ne one (zero, refl)), other two o.1 (ne two (suc zero, refl)))
  owns_alone session (Renew l ticks) ne o = other l o (ne l (zero, refl))
  owns_alone session (Release l) ne o = other l o (ne l (zero, refl))
  owns_alone session (Get name) ne o = tt
  owns_alone session (Send queue bytes) ne o = tt
  owns_alone session (Receive queue most) ne o = tt
  owns_alone session (Delete queue id) ne o = tt
  owns_alone session (Take lock ticks) ne o = tt

-- what is handled beside a lease of a client, whichever that is, is handled without one: beside a lease that is not among those in question
pub handles_alone : (who : Caller) (s t : CloudState) (ask : Ask) (reply : Answer) (mine after : List Claim) (client : ℕ)
    → ((home : Claim) → home.lock ≡ lock.Client client → Handles (exchange who s t ask reply) (home ∷ mine) (home ∷ after)) → Handles (exchange who s t ask reply) mine after
handles_alone who s t ask reply mine after client handles = record {
  owns = owns_alone home mine who.session ask (λ x is. apart x (in_front (named ask) after x is)) h.owns;
  guarded = h.guarded;
  renewed = h.renewed;
  renews = h.renews;
  own = λ x is. on x (apart x (in_behind (named ask) after x is)) (h.own x (suc is.0, is.1));
}
  where
    home : Claim
    home = record { lock = lock.Client client; generation = above (named ask ++ after); end = 0 }

    h : Handles (exchange who s t ask reply) (home ∷ mine) (home ∷ after)
    h = handles home refl

    apart : (x : Claim) → IsIn (named ask ++ after) x → home ≡ x → ⊥
    apart x is same =
        let less = below_above (named ask ++ after) x is in
        let equal : above (named ask ++ after) ≡ x.generation = ap (λ (c : Claim). c.generation) same in
        omega (arith, less, equal)

    on : (x : Claim) → (home ≡ x → ⊥) → (IsIn (home ∷ mine) x × KeptBy ask x) ⊎ GainedBy ask reply h.renewed x → (IsIn mine x × KeptBy ask x) ⊎ GainedBy ask reply h.renewed x
    on x ne (inl kept) = inl (other home mine x kept.0 ne, kept.1)
    on x ne (inr gained) = inr gained

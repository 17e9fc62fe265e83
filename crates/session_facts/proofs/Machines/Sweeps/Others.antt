-- What a sweep knows survives the calls of others.
use Rattle.std.proofs.Common.{◌≡◌, ◌≢◌, ◌≤◌, inl, ℕ, zero, List, [], ◌∷◌, ◌++◌, Option, Some, None, refl, sym, subst, ◌∙◌, arith}
use Rattle.cloud_facts.specs.Words.{Claim, Lasts, Link, Store, IsIn}
use Rattle.cloud_facts.specs.Book.Growth.{Grows}
use Rattle.cloud_facts.specs.Calls.Acting.{HasLeaseOf}
use Rattle.cloud_facts.specs.Calls.Links.{SameGone}
use Rattle.cloud_facts.specs.Calls.Others.{Others}
use Rattle.cloud_facts.specs.Chains.Chain.{IsUnlinked}
use Rattle.cloud_facts.specs.Homes.Homes.{Part}
use Rattle.cloud_facts.proofs.Calls.Guarding.{others_itself}
use Rattle.cloud_trait.specs.Growth.{BeginsWith}
use Rattle.db_base.specs.declared.names.Lock.TheVariants as lock
use Rattle.orphan_sweep.specs.declared.stage.Stage.{Stage}
use Rattle.orphan_sweep.specs.declared.stage.Stage.TheVariants.{TakingTree, GettingTree, Reading, Listing, Removing, Releasing, Finished}
use Rattle.orphan_sweep.specs.Leases.{claims_of}
use Rattle.orphan_sweep.specs.Sweeping.{Sweeping}
use Rattle.session_facts.specs.Machines.Sweeps.Places.{IsReading, AreAll}
use Rattle.session_facts.specs.Machines.Sweeps.Knows.{IsClearing, Under, KnowsAt, KnowsSweep, leases_of_sweep}

-- a list that something begins is not empty where that is not
pub still_some : {A : Type 0} (xs ys : List A) → BeginsWith xs ys → xs ≢ [] → ys ≢ []
still_some [] ys begins some e = some refl
still_some (x ∷ xs) ys begins some e = let no : x ∷ (xs ++ begins.0) ≡ [] = sym begins.1 ∙ e in absurd (cc (no))

-- ---- orphans

-- they are as they were where the links of the tree are, and the pages that were removed, and where no absent page but page 1 landed
pub clearing_stays : (st su : Store) (tree : ℕ) (visited orphans : List ℕ) (removed : ℕ) → Grows st su → su.book.chain tree ≡ st.book.chain tree → SameGone st su tree
    → ((page : ℕ) → page ≢ 1 → st.tally.nodes tree page ≡ [] → su.tally.nodes tree page ≡ []) → IsClearing st tree visited orphans removed
    → IsClearing su tree visited orphans removed
clearing_stays st su tree visited orphans removed grows chain gone absent k = record {
  all = subst (λ (c : ℕ → List Link). AreAll c visited) (sym chain) k.all;
  ascending = k.ascending;
  gone = λ place page before there. grows.gone tree page (k.gone place page before there);
  left = λ place page from there.
      let r = k.left place page from there in
      record {
        unlinked = subst (λ (c : ℕ → List Link). IsUnlinked c page) (sym chain) r.unlinked;
        landed = still_some (st.tally.nodes tree page) (su.tally.nodes tree page) (grows.nodes tree page) r.landed;
        there = gone page ∙ r.there;
      };
  whole = λ page other r.
      k.whole page other (record {
        unlinked = subst (λ (c : ℕ → List Link). IsUnlinked c page) chain r.unlinked;
        landed = λ none. r.landed (absent page other none);
        there = sym (gone page) ∙ r.there;
      });
}

-- ---- under the lease

-- what is known while the lease lasts comes to something else at a later time
pub under_leads : (tree now later : ℕ) (held : Option Claim) (K L : Type 0) → now ≤ later
    → ((l : Claim) → IsIn (claims_of held) l → l.lock ≡ lock.Tree tree → Lasts later l → K → L) → Under tree now held K → Under tree later held L
under_leads tree now later (Some l) K L after step k = (k.0, λ lasts. step l (zero, refl) k.0 lasts (k.1 (omega (arith, lasts, after))))
under_leads tree now later None K L after step never = absurd never

module _ (st su : Store) (now later : ℕ) (s : Sweeping) (after : now ≤ later) (o : Others (leases_of_sweep s) later st su) where
  -- the links of the tree are as they were
  same : (l : Claim) → IsIn (leases_of_sweep s) l → l.lock ≡ lock.Tree s.tree → Lasts later l → su.book.chain s.tree ≡ st.book.chain s.tree
  same l held is lasts = λ i level. o.links l s.tree held is lasts level i

  -- no absent page but page 1 landed
  absent : (l : Claim) → IsIn (leases_of_sweep s) l → l.lock ≡ lock.Tree s.tree → Lasts later l → (page : ℕ) → page ≢ 1 → st.tally.nodes s.tree page ≡ []
      → su.tally.nodes s.tree page ≡ []
  absent l held is lasts page other none = o.page l s.tree page held is lasts (inl (none, other)) ∙ none

  clears : (l : Claim) → IsIn (leases_of_sweep s) l → l.lock ≡ lock.Tree s.tree → Lasts later l → IsClearing st s.tree s.visited s.orphans s.removed
      → IsClearing su s.tree s.visited s.orphans s.removed
  clears l held is lasts k =
      clearing_stays st su s.tree s.visited s.orphans s.removed o.passes.grows (same l held is lasts) (o.gone l s.tree held is lasts) (absent l held is lasts) k

  at_stays : (stage : Stage) → KnowsAt stage st now s → KnowsAt stage su later s
  at_stays TakingTree a = a
  at_stays GettingTree a = (under_leads s.tree now later s.held (Unit {0}) (Unit {0}) after (λ l held is lasts x. x) a.0, a.1)
  at_stays Reading a =
      under_leads s.tree now later s.held (IsReading (st.book.chain s.tree) s.at s.visited) (IsReading (su.book.chain s.tree) s.at s.visited) after
      (λ l held is lasts k. subst (λ (c : ℕ → List Link). IsReading c s.at s.visited) (sym (same l held is lasts)) k) a
  at_stays Listing a =
      under_leads s.tree now later s.held (AreAll (st.book.chain s.tree) s.visited) (AreAll (su.book.chain s.tree) s.visited) after
      (λ l held is lasts k. subst (λ (c : ℕ → List Link). AreAll c s.visited) (sym (same l held is lasts)) k) a
  at_stays Removing a = (
    under_leads s.tree now later s.held (IsClearing st s.tree s.visited s.orphans s.removed) (IsClearing su s.tree s.visited s.orphans s.removed) after clears a.0,
    a.1,
  )
  at_stays Releasing a =
      under_leads s.tree now later s.held _ _ after (λ l held is lasts k none. (clears l held is lasts (k none).0, (k none).1)) a
  at_stays Finished never = never

pub sweep_others : (st su : Store) (now later : ℕ) (s : Sweeping) (part : Part) → now ≤ later → Others (leases_of_sweep s) later st su → KnowsSweep st now s part
    → KnowsSweep su later s part
sweep_others st su now later s part after o k =
    record { tree = k.tree; away = k.away; may = k.may; quiet = k.quiet; at = at_stays st su now later s after o s.stage k.at }

-- time goes on
pub sweep_later : (st : Store) (now later : ℕ) (s : Sweeping) (part : Part) → now ≤ later → KnowsSweep st now s part → KnowsSweep st later s part
sweep_later st now later s part after k = sweep_others st st now later s part after (others_itself (leases_of_sweep s) later st) k

-- it has no client
pub sweep_lease : (st : Store) (now : ℕ) (s : Sweeping) (part : Part) → KnowsSweep st now s part → HasLeaseOf (leases_of_sweep s) part
sweep_lease st now s part k = subst (HasLeaseOf (leases_of_sweep s)) (sym k.away) tt

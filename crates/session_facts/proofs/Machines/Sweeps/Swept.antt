-- At its end a sweep has removed exactly the listed pages that are in no chain.
use Rattle.std.proofs.Common.{◌≡◌, ℕ, Bool, true, false, List, Option, Some, None, refl, sym, ap, subst, ◌∙◌, arith}
use Rattle.std.specs.Prelude.{slice_get}
use Rattle.std.proofs.lemmas.Option.{slice_get_within}
use Rattle.cloud_facts.specs.Words.{IsTree, Entry, Answer, CloudState, Claim, Lasts, Goes, Ends, Stops, Book, Link, Store, IsIn, store_of, StandsUnder}
use Rattle.cloud_facts.specs.Chains.Chain.{IsUnlinked}
use Rattle.cloud_facts.specs.Chains.Links.{first_link}
use Rattle.cloud_facts.specs.Homes.Homes.{Part}
use Rattle.cloud_facts.proofs.Chains.Pieces.{in_first}
use Rattle.orphan_sweep.proofs.Lists.{stray_at}
use Rattle.orphan_sweep.proofs.Outcomes.{Comes, takes, refused, stops, reads_on, has_read, removes, rests, ends, stopped, nothing, came_by}
use Rattle.orphan_sweep.specs.declared.stage.Stage.{Stage}
use Rattle.orphan_sweep.specs.declared.stage.Stage.TheVariants.{Releasing}
use Rattle.orphan_sweep.specs.declared.swept.Swept.{Swept}
use Rattle.orphan_sweep.specs.Meaning.{Calls, HasListed}
use Rattle.orphan_sweep.specs.Sweeping.{Sweeping, Step, is_among, strays, sweep_next}
use Rattle.session_facts.specs.Machines.Sweeps.Knows.{IsSwept, Under, IsCleared, KnowsAt, KnowsSweep}
use Rattle.session_facts.specs.Machines.Sweeps.Swept.{WasSwept}
use Rattle.session_facts.proofs.Machines.Sweeps.Clears.{stray_in, all_swept}
use Rattle.session_facts.proofs.Machines.Sweeps.Places.{among_in, in_among}

-- ---- where it ends

-- its lease is given back, and no trouble is kept
abbrev pub EndsSwept : Sweeping → Step → Type 0
EndsSwept s (Goes n) = Unit {0}
EndsSwept s (Ends n x) = (s.stage ≡ Releasing) × (s.trouble ≡ None)
EndsSwept s (Stops n t) = Unit {0}

pub ended_at : (s : Sweeping) (a : Answer) (next : Step) → Comes s a next → EndsSwept s next
ended_at _ _ _ (ends s held a e) = (refl, e)
ended_at _ _ _ (takes s held l) = tt
ended_at _ _ _ (refused s held a t e) = tt
ended_at s a _ (stops t f) = tt
ended_at s a _ (reads_on spot on new) = tt
ended_at s a _ (has_read on) = tt
ended_at s a _ (removes q page c e) = tt
ended_at s a _ (rests q c e) = tt
ended_at _ _ _ (stopped s held a t e) = tt
ended_at _ _ _ (nothing s held a) = tt

-- ---- what was removed

module _ (book : Book) (order : List Entry) (s : CloudState) (stands : StandsUnder book order s) (m : Sweeping) (of_tree : IsTree m.tree) (k : IsCleared (store_of book order s) m) where
  abbrev st : Store
  st = store_of book order s

  -- page 1 is in a chain
  first_linked : IsUnlinked (book.chain m.tree) 1 → ⊥
  first_linked out =
      let leaves = (stands.holds.chains m.tree of_tree).levels.leaves in
      out 0 first_link (subst (λ (ls : List Link). IsIn ls first_link) (sym leaves.1) (in_first first_link leaves.0)) refl

  none_left : IsSwept st m.tree
  none_left page r =
      all_swept st m.tree m.visited m.orphans m.removed k.0 k.1 page (λ first. first_linked (subst (IsUnlinked (book.chain m.tree)) first r.unlinked)) r

  -- a page was come to exactly where it is in a chain
  unlinked : (page : ℕ) → is_among m.visited page ≡ false → IsUnlinked (book.chain m.tree) page
  unlinked page apart level link linked e =
      let no : true ≡ false = sym (in_among m.visited link.page (k.0.all.pages level link linked)) ∙ (ap (is_among m.visited) e ∙ apart) in
      absurd (cc (no))

  apart_from : (page : ℕ) → IsUnlinked (book.chain m.tree) page → is_among m.visited page ≡ false
  apart_from page out = on (is_among m.visited page) refl
    where
      on : (b : Bool) → is_among m.visited page ≡ b → b ≡ false
      on true e = let o = k.0.all.only page (among_in m.visited page e) in absurd (out o.level o.link o.linked o.page_is)
      on false e = refl

  was_swept : (listed : List ℕ) → m.orphans ≡ strays m.visited listed → WasSwept st m.tree listed m.orphans
  was_swept listed are = record {
    only = λ page is.
        let stray = stray_at m.visited listed is.0 page (ap (λ (ps : List ℕ). slice_get ps is.0) (sym are) ∙ is.1) in
        (among_in listed page stray.0, unlinked page stray.1);
    all = λ page is out. subst (λ (ps : List ℕ). IsIn ps page) (sym are) (stray_in m.visited listed page is (apart_from page out));
    gone = λ page is. let within = slice_get_within m.orphans is.0 page is.1 in let all = k.1 in k.0.gone is.0 page (omega (arith, all, within)) is.1;
    none = none_left;
  }

-- ---- the end

pub under_known : (tree now : ℕ) (held : Option Claim) (K : Type 0) → Under tree now held K → (l : Claim) × (held ≡ Some l) × (Lasts now l → K)
under_known tree now (Some l) K u = (l, refl, u.1)
under_known tree now None K never = absurd never

-- before the release that it ends with, while its lease lasts
pub sweep_swept : (book : Book) (order : List Entry) (s : CloudState) (m : Sweeping) (part : Part) (reply : Answer) (n : Sweeping) (x : Swept) (calls : Calls)
    → StandsUnder book order s → KnowsSweep (store_of book order s) s.now m part → sweep_next m reply ≡ Ends n x → (h : HasListed m calls)
    → (l : Claim) × (m.held ≡ Some l) × (Lasts s.now l → WasSwept (store_of book order s) m.tree h.listed m.orphans)
sweep_swept book order s m part reply n x calls stands k leads h =
    let end = ended_at m reply (Ends n x) (came_by m reply (Ends n x) leads) in
    let at : KnowsAt Releasing (store_of book order s) s.now m = subst (λ (stage : Stage). KnowsAt stage (store_of book order s) s.now m) end.0 k.at in
    let u = under_known m.tree s.now m.held (m.trouble ≡ None → IsCleared (store_of book order s) m) at in
    (u.0, u.1, λ lasts. was_swept book order s stands m k.tree (u.2 lasts end.1) h.listed h.orphans)

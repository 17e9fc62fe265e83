-- A sweep stops for each trouble that an answer shows.
use Rattle.std.proofs.Common.{◌≡◌, ◌≢◌, ◌⊎◌, ℕ, Bool, true, false, cond, List, Option, Some, None, Result, Ok, Err, refl, sym, subst, ap, inl, inr, ◌∙◌}
use Rattle.std.specs.Prelude.{◌==◌}
use Rattle.std.proofs.lemmas.Bool.{eqb-true}
use Rattle.db_base.specs.declared.names.Lock.{Lock}
use Rattle.db_base.specs.declared.names.Lock.TheVariants as lock
use Rattle.db_base.specs.declared.names.ObjName.TheVariants as object
use Rattle.db_base.specs.declared.names.Place.{Place}
use Rattle.db_base.specs.declared.names.Place.TheVariants as place
use Rattle.db_base.specs.declared.trouble.Trouble.TheVariants as trouble
use Rattle.byte_format.specs.Order.{bytes_same}
use Rattle.byte_format.specs.Whole.{offset}
use Rattle.leaf_view.specs.Leaf.{Leaf, leaf}
use Rattle.leaf_view.specs.Lookup.{empty_leaf}
use Rattle.node_codec.specs.Inner.{Inner, inner_of, inner_format}
use Rattle.node_codec.specs.Tree.{tree_of, tree_format}
use Rattle.cloud_trait.specs.declared.answer.Answer.TheVariants as call
use Rattle.cloud_trait.specs.Ask.{Take}
use Rattle.tree_phases.specs.Read.{damaged, leaf_or, inner_or}
use Rattle.orphan_sweep.specs.Causes.{BreaksLeaf, BreaksInner, BreaksLevel, HasLow, LeadsTo, Shows, IsShown}
use Rattle.orphan_sweep.specs.Demands.{Owes}
use Rattle.orphan_sweep.specs.Pages.{root_or, root_held, leaf_paths, inner_paths, leaf_held, inner_held, fenced, leaf_at, levelled, inner_at, paths_of}
use Rattle.orphan_sweep.specs.Leases.{HasOrphan, HoldsAt}
use Rattle.orphan_sweep.specs.Sweeping.{Sweeping, Step, sweep_ask, ask_at, remove_next, next_orphan, is_among, sweep_next, KeepsLease}
use Rattle.orphan_sweep.proofs.Causes.{HoldsNeeded}
use Rattle.orphan_sweep.proofs.Calm.{IsQuiet}
use Rattle.orphan_sweep.proofs.Lists.{itself}
use Rattle.orphan_sweep.proofs.Outcomes as step
use Rattle.orphan_sweep.proofs.Outcomes.{leased, Onward, Fails, fails_stop, refused_stops, kept_stops}
use Rattle.orphan_sweep.proofs.Words.{Trouble, Answer, Turn, More, Ended, Stopped, Claim, Goes, Ends, Stops, LeadsBy, Took, Fits, given_of, Paths, Spot, Stage, TakingTree, GettingTree, Reading, Listing, Removing, Releasing, Finished, Swept}

-- the trouble is kept while the lease is given back, or answered
abbrev NextOwes : Step → Trouble → Type 0
NextOwes (Goes n) t = n.trouble ≡ Some t
NextOwes (Ends n x) t = ⊥
NextOwes (Stops n u) t = u ≡ t

fails_owe : {s : Sweeping} {a : Answer} {t : Trouble} → Fails s a t → NextOwes (sweep_next s a) t
fails_owe {t = t} fails = subst (λ (next : Step). NextOwes next t) (sym (fails_stop fails)) refl

refused_owes : (s : Sweeping) (held : Option Claim) (a : Answer) (t : Trouble) → given_of (lock.Tree s.tree) a ≡ Err t → NextOwes (sweep_next (leased s TakingTree held) a) t
refused_owes s held a t e = subst (λ (next : Step). NextOwes next t) (sym (refused_stops s held a t e)) refl

-- at a stage, where the lease that the call needs is held and the answer fits the call
abbrev OwesAt : Stage → Sweeping → Option Claim → Answer → Trouble → Type 0
OwesAt stage s held a t =
    HoldsAt stage (leased s stage held) held → Fits (ask_at stage (leased s stage held)) a → Shows (leased s stage held) a t → NextOwes (sweep_next (leased s stage held) a) t

-- ---- calls that failed

removal_waits : {X : Type 0} (s : Sweeping) (l : Claim) (until : ℕ) → HasOrphan s → Fits (remove_next s l (next_orphan s)) (call.Held until) → X
removal_waits s l until (page, next) fits = absurd (subst (λ (o : Option ℕ). Fits (remove_next s l o) (call.Held until)) next fits)

failed_owes : (stage : Stage) (s : Sweeping) (held : Option Claim) → OwesAt stage s held call.Failed trouble.Failed
failed_owes TakingTree s held own fits shown = refused_owes s held call.Failed trouble.Failed refl
failed_owes GettingTree s held own fits shown = fails_owe (step.no_root s held call.Failed trouble.Failed refl)
failed_owes Reading s held own fits shown = fails_owe (step.no_page s held call.Failed trouble.Failed refl)
failed_owes Listing s held own fits shown = fails_owe (step.no_list s held call.Failed trouble.Failed refl)
failed_owes Removing s held own fits shown = fails_owe (step.not_removed s held call.Failed trouble.Failed refl)
failed_owes Releasing s (Some l) own fits shown = absurd shown.1
failed_owes Releasing s None own fits shown = absurd own
failed_owes Finished s held own fits shown = absurd own

late_owes : (stage : Stage) (s : Sweeping) (held : Option Claim) (end now : ℕ) → OwesAt stage s held (call.Late end now) (trouble.Late end now)
late_owes TakingTree s held end now own fits shown = absurd fits
late_owes GettingTree s held end now own fits shown = fails_owe (step.no_root s held (call.Late end now) (trouble.Late end now) refl)
late_owes Reading s held end now own fits shown = fails_owe (step.no_page s held (call.Late end now) (trouble.Late end now) refl)
late_owes Listing s held end now own fits shown = fails_owe (step.no_list s held (call.Late end now) (trouble.Late end now) refl)
late_owes Removing s held end now own fits shown = fails_owe (step.not_removed s held (call.Late end now) (trouble.Late end now) refl)
late_owes Releasing s (Some l) end now own fits shown = absurd fits
late_owes Releasing s None end now own fits shown = absurd own
late_owes Finished s held end now own fits shown = absurd own

busy_is : (tree : ℕ) (mine : Lock) (until : ℕ) → Take (lock.Tree tree) 60 ≡ Take mine 60 → given_of (lock.Tree tree) (call.Held until) ≡ Err (trouble.Busy mine until)
busy_is tree mine until e = let same : lock.Tree tree ≡ mine = cc (e) in ap (λ (x : Lock). Err (trouble.Busy x until)) same

busy_owes : (stage : Stage) (s : Sweeping) (held : Option Claim) (mine : Lock) (until : ℕ) → OwesAt stage s held (call.Held until) (trouble.Busy mine until)
busy_owes TakingTree s held mine until own fits shown = refused_owes s held (call.Held until) (trouble.Busy mine until) (busy_is s.tree mine until shown.0)
busy_owes GettingTree s (Some l) mine until own fits shown = absurd fits
busy_owes GettingTree s None mine until own fits shown = absurd own
busy_owes Reading s (Some l) mine until own fits shown = absurd fits
busy_owes Reading s None mine until own fits shown = absurd own
busy_owes Listing s (Some l) mine until own fits shown = absurd fits
busy_owes Listing s None mine until own fits shown = absurd own
busy_owes Removing s (Some l) mine until own fits shown = removal_waits s l until own.1 fits
busy_owes Removing s None mine until own fits shown = absurd own.0
busy_owes Releasing s (Some l) mine until own fits shown = absurd fits
busy_owes Releasing s None mine until own fits shown = absurd own
busy_owes Finished s held mine until own fits shown = absurd own

-- ---- objects that are wrong

-- a leaf is read at level 0, and an inner node above it
at_leaf : (s : Sweeping) (got : Option (List ℕ)) → s.at.level ≡ 0 → paths_of s.tree s.at got ≡ leaf_at s.at (leaf_held s.tree s.at.page got)
at_leaf s got level =
    ap (λ (n : ℕ). cond (n == 0) (leaf_at s.at (leaf_held s.tree s.at.page got)) (inner_at s.tree s.at (inner_held s.tree s.at.page got))) level

at_inner : (s : Sweeping) (got : Option (List ℕ)) → s.at.level ≢ 0 → paths_of s.tree s.at got ≡ inner_at s.tree s.at (inner_held s.tree s.at.page got)
at_inner s got level = on (s.at.level == 0) refl where
  on : (b : Bool) → (s.at.level == 0) ≡ b
      → cond b (leaf_at s.at (leaf_held s.tree s.at.page got)) (inner_at s.tree s.at (inner_held s.tree s.at.page got))
      ≡ inner_at s.tree s.at (inner_held s.tree s.at.page got)
  on true is = absurd (level (eqb-true s.at.level 0 is))
  on false is = refl

not_same : (m n : ℕ) → m ≢ n → (m == n) ≡ false
not_same m n other = on (m == n) refl where
  on : (b : Bool) → (m == n) ≡ b → b ≡ false
  on true is = absurd (other (eqb-true m n is))
  on false is = refl

-- an absent page
absent_read : (s : Sweeping) → s.at.page ≢ 1 → paths_of s.tree s.at None ≡ Err (trouble.Absent s.at.page)
absent_read s other = on (s.at.level == 0) where
  none : (s.at.page == 1) ≡ false
  none = not_same s.at.page 1 other

  on : (b : Bool) → cond b (leaf_at s.at (leaf_held s.tree s.at.page None)) (inner_at s.tree s.at (inner_held s.tree s.at.page None)) ≡ Err (trouble.Absent s.at.page)
  on true = ap (λ (b : Bool). leaf_at s.at (cond b (Ok empty_leaf) (Err (trouble.Absent s.at.page)))) none
  on false = ap (λ (b : Bool). inner_at s.tree s.at (Err (cond b (damaged s.tree s.at.page 0) (trouble.Absent s.at.page)))) none

-- a page of damage
breaks_leaf : (s : Sweeping) (a : Answer) (at : ℕ) → BreaksLeaf s.at a at
    → (got : Option (List ℕ)) × (a ≡ call.Got got) × (paths_of s.tree s.at got ≡ Err (damaged s.tree s.at.page at))
breaks_leaf s a at (level, (bytes, (left, is, broken, place_is))) = (
  Some bytes,
  is,
  at_leaf s (Some bytes) level
      ∙ (ap (λ (r : Result Leaf ℕ). leaf_at s.at (leaf_or s.tree s.at.page (offset leaf bytes) r)) broken
      ∙ ap (λ (n : ℕ). Err (damaged s.tree s.at.page n)) (sym place_is)),
)

breaks_inner : (s : Sweeping) (a : Answer) (at : ℕ) → BreaksInner s.at a at
    → (got : Option (List ℕ)) × (a ≡ call.Got got) × (paths_of s.tree s.at got ≡ Err (damaged s.tree s.at.page at))
breaks_inner s a at (level, (bytes, is, broken, place_is)) = (
  Some bytes,
  is,
  at_inner s (Some bytes) level
      ∙ (ap (λ (o : Option Inner). inner_at s.tree s.at (inner_or s.tree s.at.page (offset inner_format bytes) o)) broken
      ∙ ap (λ (n : ℕ). Err (damaged s.tree s.at.page n)) (sym place_is)),
)

-- an inner node that was read
inner_is_read : (s : Sweeping) (bytes : List ℕ) (n : Inner) → s.at.level ≢ 0 → inner_of bytes ≡ Some n → paths_of s.tree s.at (Some bytes) ≡ levelled s.tree s.at n
inner_is_read s bytes n level spelled =
    at_inner s (Some bytes) level
    ∙ ap (λ (o : Option Inner). inner_at s.tree s.at (inner_or s.tree s.at.page (offset inner_format bytes) o)) spelled

breaks_level : (s : Sweeping) (a : Answer) (at : ℕ) → BreaksLevel s.at a at
    → (got : Option (List ℕ)) × (a ≡ call.Got got) × (paths_of s.tree s.at got ≡ Err (damaged s.tree s.at.page at))
breaks_level s a at (level, inl (first, is, place_is)) = (
  None,
  is,
  at_inner s None level
      ∙ (ap (λ (page : ℕ). inner_at s.tree s.at (Err (cond (page == 1) (damaged s.tree s.at.page 0) (trouble.Absent s.at.page)))) first
      ∙ ap (λ (n : ℕ). Err (damaged s.tree s.at.page n)) (sym place_is)),
)
breaks_level s a at (level, inr (bytes, (n, is, spelled, other, place_is))) = (
  Some bytes,
  is,
  inner_is_read s bytes n level spelled
      ∙ (ap (λ (b : Bool). cond b (fenced s.at n.low (inner_paths n)) (Err (damaged s.tree s.at.page 10))) (not_same n.level s.at.level other)
      ∙ ap (λ (k : ℕ). Err (damaged s.tree s.at.page k)) (sym place_is)),
)

-- a fence that differs
fence_read : (s : Sweeping) (low : List ℕ) (paths : Paths) → bytes_same s.at.low low ≡ false
    → fenced s.at low paths ≡ Err (trouble.BadFence s.at.page s.at.low low)
fence_read s low paths differs = ap (λ (b : Bool). cond b (Ok paths) (Err (trouble.BadFence s.at.page s.at.low low))) differs

breaks_fence : (s : Sweeping) (a : Answer) (found : List ℕ) → bytes_same s.at.low found ≡ false → HasLow s a found
    → (got : Option (List ℕ)) × (a ≡ call.Got got) × (paths_of s.tree s.at got ≡ Err (trouble.BadFence s.at.page s.at.low found))
breaks_fence s a found differs (inl (level, (got, (l, is, held, low)))) = (
  got,
  is,
  at_leaf s got level
      ∙ (ap (leaf_at s.at) held
      ∙ (ap (λ (k : List ℕ). fenced s.at k (leaf_paths l)) (sym low) ∙ fence_read s found (leaf_paths l) differs)),
)
breaks_fence s a found differs (inr (level, (bytes, (n, is, spelled, of_level, low)))) = (
  Some bytes,
  is,
  inner_is_read s bytes n level spelled
      ∙ (ap (λ (k : ℕ). cond (k == s.at.level) (fenced s.at n.low (inner_paths n)) (Err (damaged s.tree s.at.page 10))) of_level
      ∙ (same_level (s.at.level)
      ∙ (ap (λ (k : List ℕ). fenced s.at k (inner_paths n)) (sym low) ∙ fence_read s found (inner_paths n) differs))),
)
  where
    same_level : (k : ℕ) → cond (k == k) (fenced s.at n.low (inner_paths n)) (Err (damaged s.tree s.at.page 10)) ≡ fenced s.at n.low (inner_paths n)
    same_level k = ap (λ (b : Bool). cond b (fenced s.at n.low (inner_paths n)) (Err (damaged s.tree s.at.page 10))) (itself k)

-- ---- at a stage

-- what a held get brought of the page at hand shows this trouble
reads_owes : (stage : Stage) (s : Sweeping) (held : Option Claim) (a : Answer) (t : Trouble) → stage ≡ Reading
    → ((got : Option (List ℕ)) × (a ≡ call.Got got) × (paths_of s.tree s.at got ≡ Err t)) → NextOwes (sweep_next (leased s stage held) a) t
reads_owes stage s held a t is (got, answer, e) =
    subst (λ (x : Stage). NextOwes (sweep_next (leased s x held) a) t) (sym is)
    (subst (λ (x : Answer). NextOwes (sweep_next (leased s Reading held) x) t) (sym answer) (fails_owe (step.bad_page s held got t e)))

-- .. and of the tree object
gets_owes : (stage : Stage) (s : Sweeping) (held : Option Claim) (a : Answer) (t : Trouble) → stage ≡ GettingTree
    → ((got : Option (List ℕ)) × (a ≡ call.Got got) × (root_held s.tree got ≡ Err t)) → NextOwes (sweep_next (leased s stage held) a) t
gets_owes stage s held a t is (got, answer, e) =
    subst (λ (x : Stage). NextOwes (sweep_next (leased s x held) a) t) (sym is)
    (subst (λ (x : Answer). NextOwes (sweep_next (leased s GettingTree held) x) t) (sym answer) (fails_owe (step.bad_root s held got t e)))

absent_owes : (stage : Stage) (s : Sweeping) (held : Option Claim) (a : Answer) (page : ℕ) → OwesAt stage s held a (trouble.Absent page)
absent_owes stage s held a page own fits (is, page_is, other, answer) =
    subst (λ (p : ℕ). NextOwes (sweep_next (leased s stage held) a) (trouble.Absent p)) (sym page_is)
    (reads_owes stage s held a (trouble.Absent s.at.page) is (None, answer, absent_read s (λ e. other (page_is ∙ e))))

root_breaks : (s : Sweeping) (bytes : List ℕ) (at : ℕ) → tree_of bytes ≡ None → at ≡ offset tree_format bytes
    → root_held s.tree (Some bytes) ≡ Err (trouble.Damaged (place.Object (object.Tree s.tree)) at)
root_breaks s bytes at none is =
    ap (root_or s.tree bytes) none ∙ ap (λ (n : ℕ). Err (trouble.Damaged (place.Object (object.Tree s.tree)) n)) (sym is)

page_breaks : (s : Sweeping) (a : Answer) (at : ℕ) → (BreaksLeaf s.at a at ⊎ (BreaksInner s.at a at ⊎ BreaksLevel s.at a at))
    → (got : Option (List ℕ)) × (a ≡ call.Got got) × (paths_of s.tree s.at got ≡ Err (damaged s.tree s.at.page at))
page_breaks s a at (inl h) = breaks_leaf s a at h
page_breaks s a at (inr (inl h)) = breaks_inner s a at h
page_breaks s a at (inr (inr h)) = breaks_level s a at h

damaged_owes : (stage : Stage) (s : Sweeping) (held : Option Claim) (a : Answer) (where_it_is : Place) (at : ℕ) → OwesAt stage s held a (trouble.Damaged where_it_is at)
damaged_owes stage s held a where_it_is at own fits (inl (there, (is, (bytes, answer, none, at_is)))) =
    subst (λ (p : Place). NextOwes (sweep_next (leased s stage held) a) (trouble.Damaged p at)) (sym there)
    (gets_owes stage s held a (trouble.Damaged (place.Object (object.Tree s.tree)) at) is (Some bytes, answer, root_breaks s bytes at none at_is))
damaged_owes stage s held a where_it_is at own fits (inr (there, (is, breaks))) =
    subst (λ (p : Place). NextOwes (sweep_next (leased s stage held) a) (trouble.Damaged p at)) (sym there)
    (reads_owes stage s held a (damaged s.tree s.at.page at) is (page_breaks s a at breaks))

fence_owes : (stage : Stage) (s : Sweeping) (held : Option Claim) (a : Answer) (page : ℕ) (expected found : List ℕ)
    → OwesAt stage s held a (trouble.BadFence page expected found)
fence_owes stage s held a page expected found own fits (is, page_is, expected_is, differs, has) =
    subst (λ (p : ℕ). NextOwes (sweep_next (leased s stage held) a) (trouble.BadFence p expected found)) (sym page_is)
    (subst (λ (k : List ℕ). NextOwes (sweep_next (leased s stage held) a) (trouble.BadFence s.at.page k found)) (sym expected_is)
    (reads_owes stage s held a (trouble.BadFence s.at.page s.at.low found) is
    (breaks_fence s a found (subst (λ (k : List ℕ). bytes_same k found ≡ false) expected_is differs) has)))

-- a page that was come to before
leads_on : (stage : Stage) (s : Sweeping) (held : Option Claim) (a : Answer) (spot : Spot) → LeadsTo (leased s stage held) a spot → Onward (leased s stage held) a (Some spot)
leads_on stage s held a spot (inl (is, (got, (root, answer, read, spot_is)))) =
    subst (λ (x : Stage). Onward (leased s x held) a (Some spot)) (sym is)
    (subst (λ (x : Answer). Onward (leased s GettingTree held) x (Some spot)) (sym answer)
    (subst (λ (x : Spot). Onward (leased s GettingTree held) (call.Got got) (Some x)) (sym spot_is) (step.from_root s held got root read)))
leads_on stage s held a spot (inr (is, (got, (paths, answer, read, on)))) =
    subst (λ (x : Stage). Onward (leased s x held) a (Some spot)) (sym is)
    (subst (λ (x : Answer). Onward (leased s Reading held) x (Some spot)) (sym answer)
    (subst (Onward (leased s Reading held) (call.Got got)) on (step.from_page s held got paths read)))

loop_owes : (stage : Stage) (s : Sweeping) (held : Option Claim) (a : Answer) (page : ℕ) → OwesAt stage s held a (trouble.Loop page)
loop_owes stage s held a page own fits (seen, (spot, leads, same)) =
    subst (λ (p : ℕ). NextOwes (sweep_next (leased s stage held) a) (trouble.Loop p)) (sym same)
    (fails_owe (step.round spot (leads_on stage s held a spot leads) (subst (λ (p : ℕ). is_among s.visited p ≡ true) same seen)))

-- .. where the answer is this one
answered : (stage : Stage) (s : Sweeping) (held : Option Claim) (a given : Answer) (t : Trouble) → a ≡ given → OwesAt stage s held given t → OwesAt stage s held a t
answered stage s held a given t is owes = subst (λ (x : Answer). OwesAt stage s held x t) (sym is) owes

shown_owes : (stage : Stage) (s : Sweeping) (held : Option Claim) (a : Answer) (t : Trouble) → t ≢ trouble.Memory → OwesAt stage s held a t
shown_owes stage s held a trouble.Failed other own fits shown = answered stage s held a call.Failed trouble.Failed shown.0 (failed_owes stage s held) own fits shown
shown_owes stage s held a (trouble.Late end now) other own fits shown =
    answered stage s held a (call.Late end now) (trouble.Late end now) shown (late_owes stage s held end now) own fits shown
shown_owes stage s held a (trouble.Busy mine until) other own fits shown =
    answered stage s held a (call.Held until) (trouble.Busy mine until) shown.1 (busy_owes stage s held mine until) own fits shown
shown_owes stage s held a (trouble.Absent page) other own fits shown = absent_owes stage s held a page own fits shown
shown_owes stage s held a (trouble.NotALeaf page) other own fits shown = absurd shown
shown_owes stage s held a (trouble.Damaged where_it_is at) other own fits shown = damaged_owes stage s held a where_it_is at own fits shown
shown_owes stage s held a (trouble.BadFence page expected found) other own fits shown = fence_owes stage s held a page expected found own fits shown
shown_owes stage s held a (trouble.Loop page) other own fits shown = loop_owes stage s held a page own fits shown
shown_owes stage s held a (trouble.Exhausted what) other own fits shown = absurd shown
shown_owes stage s held a (trouble.Waiting have need) other own fits shown = absurd shown
shown_owes stage s held a (trouble.Stale page least got) other own fits shown = absurd shown
shown_owes stage s held a trouble.Memory other own fits shown = absurd (other refl)

-- a trouble that was kept is answered with the release
kept_owes : (s : Sweeping) (a : Answer) (t : Trouble) → IsQuiet s → s.trouble ≡ Some t → NextOwes (sweep_next s a) t
kept_owes s a t (inl stage) kept =
    subst (λ (x : Stage). NextOwes (sweep_next (leased s x s.held) a) t) (sym stage)
    (subst (λ (next : Step). NextOwes next t) (sym (kept_stops s s.held a t kept)) refl)
kept_owes s a t (inr none) kept = absurd (cc (none, kept))

owes_next : (s : Sweeping) (a : Answer) (t : Trouble) → HoldsNeeded s → IsQuiet s → Fits (sweep_ask s) a → t ≢ trouble.Memory → IsShown s a t → NextOwes (sweep_next s a) t
owes_next s a t own quiet fits other (inl kept) = kept_owes s a t quiet kept
owes_next s a t own quiet fits other (inr shown) = shown_owes s.stage s s.held a t other own fits shown

pub took_owes : (old new : Sweeping) (a : Answer) (turn : Turn Swept) (t : Trouble) → HoldsNeeded old → IsQuiet old → Fits (sweep_ask old) a
    → Took (LeadsBy sweep_next) KeepsLease old a new turn → t ≢ trouble.Memory → IsShown old a t → Owes new turn t
took_owes old new a More t own quiet fits took other shown = subst (λ (next : Step). NextOwes next t) took (owes_next old a t own quiet fits other shown)
took_owes old new a (Ended x) t own quiet fits took other shown = subst (λ (next : Step). NextOwes next t) took (owes_next old a t own quiet fits other shown)
took_owes old new a (Stopped u) t own quiet fits took other shown = λ k.
    subst (λ (next : Step). NextOwes next t) (took.0 k) (owes_next old a t own quiet fits other shown)

-- Why a sweep stops: each trouble that it keeps or answers is shown by an answer.
use Rattle.std.proofs.Common.{◌≡◌, ◌≢◌, ℕ, Bool, true, false, cond, List, Option, Some, None, Result, Ok, Err, refl, sym, subst, ap, inl, inr, ◌∙◌}
use Rattle.std.specs.Prelude.{◌==◌}
use Rattle.std.proofs.lemmas.Bool.{eqb-true, eqb-false}
use Rattle.db_base.specs.declared.names.Lock.{Lock}
use Rattle.db_base.specs.declared.names.Lock.TheVariants as lock
use Rattle.db_base.specs.declared.names.ObjName.{ObjName}
use Rattle.db_base.specs.declared.names.ObjName.TheVariants as object
use Rattle.db_base.specs.declared.trouble.Trouble.TheVariants as trouble
use Rattle.byte_format.specs.Order.{bytes_same}
use Rattle.byte_format.specs.Whole.{whole, offset}
use Rattle.leaf_view.specs.Leaf.{Leaf, leaf}
use Rattle.leaf_view.specs.Lookup.{empty_leaf}
use Rattle.node_codec.specs.Inner.{Inner, inner_of, inner_format}
use Rattle.node_codec.specs.Tree.{tree_of}
use Rattle.cloud_trait.specs.declared.answer.Answer.TheVariants as call
use Rattle.cloud_trait.specs.Ask.{Ask, GetHeld, ListHeld, RemoveHeld, Take}
use Rattle.tree_phases.specs.Read.{damaged, leaf_or, inner_or}
use Rattle.orphan_sweep.specs.Causes.{Matters, Shows, IsShown, Tells, HasLow, LeadsTo}
use Rattle.orphan_sweep.specs.Pages.{root_damage, root_or, root_held, top_spot, leaf_paths, inner_paths, leaf_held, absent_inner, inner_held, fenced, leaf_at, inner_at, paths_of}
use Rattle.orphan_sweep.specs.Leases.{HasOrphan, HoldsAt}
use Rattle.orphan_sweep.specs.Sweeping.{Sweeping, Step, sweep_ask, remove_next, next_orphan, sweep_next, KeepsLease}
use Rattle.orphan_sweep.proofs.Outcomes.{leased, Onward, Clears, Fails, Comes, came_by}
use Rattle.orphan_sweep.proofs.Outcomes as step
use Rattle.orphan_sweep.proofs.Words.{Trouble, Answer, Turn, More, Ended, Stopped, Claim, Goes, Ends, Stops, LeadsBy, Took, given_of, got_of, listed_of, done_of, Fits, Tree, Paths, Spot, GettingTree, Reading, Swept}

-- the lease that the call needs is held
abbrev pub HoldsNeeded : Sweeping → Type 0
HoldsNeeded s = HoldsAt s.stage s s.held

-- ---- calls that brought nothing

pub err_is : {A : Type 0} (t u : Trouble) → ◌≡◌ {A = Result A Trouble} (Err t) (Err u) → t ≡ u
err_is t u e = cc (e)

take_missed : (s : Sweeping) (mine : Lock) (a : Answer) (t : Trouble) → sweep_ask s ≡ Take mine 60 → Matters (sweep_ask s) → Fits (Take mine 60) a
    → given_of mine a ≡ Err t → Shows s a t
take_missed s mine call.Failed t asks matters fits e = subst (Shows s call.Failed) (err_is trouble.Failed t e) (refl, matters)
take_missed s mine call.Memory t asks matters fits e = subst (Shows s call.Memory) (err_is trouble.Memory t e) tt
take_missed s mine (call.Held until) t asks matters fits e = subst (Shows s (call.Held until)) (err_is (trouble.Busy mine until) t e) (asks, refl)
take_missed s mine (call.Given l) t asks matters fits e = absurd (cc (e))
take_missed s mine a t asks matters fits e = absurd fits

get_missed : (s : Sweeping) (name : ObjName) (l : Claim) (a : Answer) (t : Trouble) → Matters (sweep_ask s) → Fits (GetHeld name l) a → got_of a ≡ Err t → Shows s a t
get_missed s name l call.Failed t matters fits e = subst (Shows s call.Failed) (err_is trouble.Failed t e) (refl, matters)
get_missed s name l call.Memory t matters fits e = subst (Shows s call.Memory) (err_is trouble.Memory t e) tt
get_missed s name l (call.Late end now) t matters fits e = subst (Shows s (call.Late end now)) (err_is (trouble.Late end now) t e) refl
get_missed s name l (call.Got v) t matters fits e = absurd (cc (e))
get_missed s name l a t matters fits e = absurd fits

list_missed : (s : Sweeping) (tree : ℕ) (l : Claim) (a : Answer) (t : Trouble) → Matters (sweep_ask s) → Fits (ListHeld tree l) a → listed_of a ≡ Err t → Shows s a t
list_missed s tree l call.Failed t matters fits e = subst (Shows s call.Failed) (err_is trouble.Failed t e) (refl, matters)
list_missed s tree l call.Memory t matters fits e = subst (Shows s call.Memory) (err_is trouble.Memory t e) tt
list_missed s tree l (call.Late end now) t matters fits e = subst (Shows s (call.Late end now)) (err_is (trouble.Late end now) t e) refl
list_missed s tree l (call.Listed pages) t matters fits e = absurd (cc (e))
list_missed s tree l a t matters fits e = absurd fits

remove_missed : (s : Sweeping) (name : ObjName) (l : Claim) (a : Answer) (t : Trouble) → Matters (sweep_ask s) → Fits (RemoveHeld name l) a → done_of a ≡ Err t → Shows s a t
remove_missed s name l call.Failed t matters fits e = subst (Shows s call.Failed) (err_is trouble.Failed t e) (refl, matters)
remove_missed s name l call.Memory t matters fits e = subst (Shows s call.Memory) (err_is trouble.Memory t e) tt
remove_missed s name l (call.Late end now) t matters fits e = subst (Shows s (call.Late end now)) (err_is (trouble.Late end now) t e) refl
remove_missed s name l call.Done t matters fits e = absurd (cc (e))
remove_missed s name l a t matters fits e = absurd fits

-- the removal of an orphan that is left
removal_missed : (s : Sweeping) (l : Claim) (a : Answer) (t : Trouble) → sweep_ask s ≡ remove_next s l (next_orphan s) → HasOrphan s
    → Fits (remove_next s l (next_orphan s)) a → done_of a ≡ Err t → Shows s a t
removal_missed s l a t asks (page, next) fits e =
    let is : remove_next s l (next_orphan s) ≡ RemoveHeld (object.Page s.tree page) l = ap (remove_next s l) next in
    remove_missed s (object.Page s.tree page) l a t (subst Matters (sym (asks ∙ is)) tt) (subst (λ (ask : Ask). Fits ask a) is fits) e

-- ---- objects that are wrong

root_or_shows : (s : Sweeping) (held : Option Claim) (bytes : List ℕ) (o : Option Tree) (t : Trouble) → tree_of bytes ≡ o → root_or s.tree bytes o ≡ Err t
    → Shows (leased s GettingTree held) (call.Got (Some bytes)) t
root_or_shows s held bytes (Some root) t is e = absurd (cc (e))
root_or_shows s held bytes None t is e =
    subst (Shows (leased s GettingTree held) (call.Got (Some bytes))) (err_is (root_damage s.tree bytes) t e) (inl (refl, (refl, (bytes, refl, is, refl))))

root_shows : (s : Sweeping) (held : Option Claim) (got : Option (List ℕ)) (t : Trouble) → root_held s.tree got ≡ Err t
    → Shows (leased s GettingTree held) (call.Got got) t
root_shows s held None t e = absurd (cc (e))
root_shows s held (Some bytes) t e = root_or_shows s held bytes (tree_of bytes) t refl e

-- a fence that differs
fence_shows : (s : Sweeping) (held : Option Claim) (a : Answer) (low : List ℕ) (paths : Paths) (t : Trouble) (b : Bool) → bytes_same s.at.low low ≡ b
    → HasLow (leased s Reading held) a low → cond b (Ok paths) (Err (trouble.BadFence s.at.page s.at.low low)) ≡ Err t → Shows (leased s Reading held) a t
fence_shows s held a low paths t true is has e = absurd (cc (e))
fence_shows s held a low paths t false is has e =
    subst (Shows (leased s Reading held) a) (err_is (trouble.BadFence s.at.page s.at.low low) t e) (refl, refl, refl, is, has)

leaf_absent_shows : (s : Sweeping) (held : Option Claim) (t : Trouble) → (b : Bool) → (s.at.page == 1) ≡ b
    → ◌≡◌ {A = Result Leaf Trouble} (cond b (Ok empty_leaf) (Err (trouble.Absent s.at.page))) (Err t) → Shows (leased s Reading held) (call.Got None) t
leaf_absent_shows s held t true is e = absurd (cc (e))
leaf_absent_shows s held t false is e =
    subst (Shows (leased s Reading held) (call.Got None)) (err_is (trouble.Absent s.at.page) t e) (refl, refl, eqb-false s.at.page 1 is, refl)

leaf_or_shows : (s : Sweeping) (held : Option Claim) (bytes : List ℕ) (r : Result Leaf ℕ) (t : Trouble) → s.at.level ≡ 0 → whole leaf bytes ≡ r
    → leaf_or s.tree s.at.page (offset leaf bytes) r ≡ Err t → Shows (leased s Reading held) (call.Got (Some bytes)) t
leaf_or_shows s held bytes (Ok l) t level is e = absurd (cc (e))
leaf_or_shows s held bytes (Err left) t level is e =
    subst (Shows (leased s Reading held) (call.Got (Some bytes))) (err_is (damaged s.tree s.at.page (offset leaf bytes)) t e)
    (inr (refl, (refl, inl (level, (bytes, (left, refl, is, refl))))))

leaf_held_shows : (s : Sweeping) (held : Option Claim) (got : Option (List ℕ)) (t : Trouble) → s.at.level ≡ 0 → leaf_held s.tree s.at.page got ≡ Err t
    → Shows (leased s Reading held) (call.Got got) t
leaf_held_shows s held None t level e = leaf_absent_shows s held t (s.at.page == 1) refl e
leaf_held_shows s held (Some bytes) t level e = leaf_or_shows s held bytes (whole leaf bytes) t level refl e

leaf_shows : (s : Sweeping) (held : Option Claim) (got : Option (List ℕ)) (r : Result Leaf Trouble) (t : Trouble) → s.at.level ≡ 0
    → leaf_held s.tree s.at.page got ≡ r → leaf_at s.at r ≡ Err t → Shows (leased s Reading held) (call.Got got) t
leaf_shows s held got (Ok l) t level is e =
    fence_shows s held (call.Got got) l.low (leaf_paths l) t (bytes_same s.at.low l.low) refl (inl (level, (got, (l, refl, is, refl)))) e
leaf_shows s held got (Err u) t level is e =
    subst (Shows (leased s Reading held) (call.Got got)) (err_is u t e) (leaf_held_shows s held got u level is)

inner_absent_shows : (s : Sweeping) (held : Option Claim) (t : Trouble) (b : Bool) → (s.at.page == 1) ≡ b → s.at.level ≢ 0
    → cond b (damaged s.tree s.at.page 0) (trouble.Absent s.at.page) ≡ t → Shows (leased s Reading held) (call.Got None) t
inner_absent_shows s held t true is level e =
    subst (Shows (leased s Reading held) (call.Got None)) e
    (inr (refl, (refl, inr (inr (level, inl (eqb-true s.at.page 1 is, refl, refl))))))
inner_absent_shows s held t false is level e =
    subst (Shows (leased s Reading held) (call.Got None)) e (refl, refl, eqb-false s.at.page 1 is, refl)

inner_or_shows : (s : Sweeping) (held : Option Claim) (bytes : List ℕ) (o : Option Inner) (t : Trouble) → s.at.level ≢ 0 → inner_of bytes ≡ o
    → inner_or s.tree s.at.page (offset inner_format bytes) o ≡ Err t → Shows (leased s Reading held) (call.Got (Some bytes)) t
inner_or_shows s held bytes (Some n) t level is e = absurd (cc (e))
inner_or_shows s held bytes None t level is e =
    subst (Shows (leased s Reading held) (call.Got (Some bytes))) (err_is (damaged s.tree s.at.page (offset inner_format bytes)) t e)
    (inr (refl, (refl, inr (inl (level, (bytes, refl, is, refl))))))

inner_held_shows : (s : Sweeping) (held : Option Claim) (got : Option (List ℕ)) (t : Trouble) → s.at.level ≢ 0 → inner_held s.tree s.at.page got ≡ Err t
    → Shows (leased s Reading held) (call.Got got) t
inner_held_shows s held None t level e =
    inner_absent_shows s held t (s.at.page == 1) refl level (err_is (absent_inner s.tree s.at.page) t e)
inner_held_shows s held (Some bytes) t level e = inner_or_shows s held bytes (inner_of bytes) t level refl e

-- the bytes of an inner node that was read
pub bytes_of_inner : (tree page : ℕ) (got : Option (List ℕ)) (n : Inner) → inner_held tree page got ≡ Ok n
    → (bytes : List ℕ) × (got ≡ Some bytes) × (inner_of bytes ≡ Some n)
bytes_of_inner tree page None n e = absurd (cc (e))
bytes_of_inner tree page (Some bytes) n e = on (inner_of bytes) refl e where
  on : (o : Option Inner) → inner_of bytes ≡ o → inner_or tree page (offset inner_format bytes) o ≡ Ok n
      → (found : List ℕ) × (Some bytes ≡ Some found) × (inner_of found ≡ Some n)
  on (Some m) is f = let same : m ≡ n = cc (f) in (bytes, refl, is ∙ ap (λ (x : Inner). Some x) same)
  on None is f = absurd (cc (f))

level_shows : (s : Sweeping) (held : Option Claim) (bytes : List ℕ) (n : Inner) (t : Trouble) (b : Bool) → (n.level == s.at.level) ≡ b → s.at.level ≢ 0
    → inner_of bytes ≡ Some n → cond b (fenced s.at n.low (inner_paths n)) (Err (damaged s.tree s.at.page 10)) ≡ Err t
    → Shows (leased s Reading held) (call.Got (Some bytes)) t
level_shows s held bytes n t true same level is e =
    fence_shows s held (call.Got (Some bytes)) n.low (inner_paths n) t (bytes_same s.at.low n.low) refl
    (inr (level, (bytes, (n, refl, is, eqb-true n.level s.at.level same, refl)))) e
level_shows s held bytes n t false other level is e =
    subst (Shows (leased s Reading held) (call.Got (Some bytes))) (err_is (damaged s.tree s.at.page 10) t e)
    (inr (refl, (refl, inr (inr (level, inr (bytes, (n, refl, is, eqb-false n.level s.at.level other, refl)))))))

inner_shows : (s : Sweeping) (held : Option Claim) (got : Option (List ℕ)) (r : Result Inner Trouble) (t : Trouble) → s.at.level ≢ 0
    → inner_held s.tree s.at.page got ≡ r → inner_at s.tree s.at r ≡ Err t → Shows (leased s Reading held) (call.Got got) t
inner_shows s held got (Ok n) t level is e =
    let (bytes, some, spelled) = bytes_of_inner s.tree s.at.page got n is in
    subst (λ (g : Option (List ℕ)). Shows (leased s Reading held) (call.Got g) t) (sym some)
    (level_shows s held bytes n t (n.level == s.at.level) refl level spelled e)
inner_shows s held got (Err u) t level is e =
    subst (Shows (leased s Reading held) (call.Got got)) (err_is u t e) (inner_held_shows s held got u level is)

page_shows : (s : Sweeping) (held : Option Claim) (got : Option (List ℕ)) (t : Trouble) → paths_of s.tree s.at got ≡ Err t
    → Shows (leased s Reading held) (call.Got got) t
page_shows s held got t e = on (s.at.level == 0) refl e where
  on : (b : Bool) → (s.at.level == 0) ≡ b
      → cond b (leaf_at s.at (leaf_held s.tree s.at.page got)) (inner_at s.tree s.at (inner_held s.tree s.at.page got)) ≡ Err t
      → Shows (leased s Reading held) (call.Got got) t
  on true is f = leaf_shows s held got (leaf_held s.tree s.at.page got) t (eqb-true s.at.level 0 is) refl f
  on false is f = inner_shows s held got (inner_held s.tree s.at.page got) t (eqb-false s.at.level 0 is) refl f

-- ---- where it leads

pub onward_leads : {s : Sweeping} {a : Answer} {o : Option Spot} (spot : Spot) → Onward s a o → o ≡ Some spot → LeadsTo s a spot
onward_leads spot (step.from_root s held got root e) is = inl (refl, (got, (root, refl, e, spot_is)))
  where
    spot_is : spot ≡ top_spot root
    spot_is = cc (is)
onward_leads spot (step.from_page s held got paths e) is = inr (refl, (got, (paths, refl, e, is)))

-- ---- a step

fails_shows : {s : Sweeping} {a : Answer} {t : Trouble} → HoldsNeeded s → Fits (sweep_ask s) a → Fails s a t → Shows s a t
fails_shows {s = from} own fits (step.no_root s (Some l) a t e) = get_missed from (object.Tree s.tree) l a t tt fits e
fails_shows {s = from} own fits (step.no_page s (Some l) a t e) = get_missed from (object.Page s.tree s.at.page) l a t tt fits e
fails_shows {s = from} own fits (step.no_list s (Some l) a t e) = list_missed from s.tree l a t tt fits e
fails_shows {s = from} own fits (step.not_removed s (Some l) a t e) = removal_missed from l a t refl own.1 fits e
fails_shows own fits (step.not_removed s None a t e) = absurd own.0
fails_shows own fits (step.bad_root s held got t e) = root_shows s held got t e
fails_shows own fits (step.bad_page s held got t e) = page_shows s held got t e
fails_shows own fits (step.round spot on seen) = (seen, (spot, onward_leads spot on refl, refl))
fails_shows own fits f = absurd own

-- what a step tells of its trouble
abbrev pub NextTells : Sweeping → Answer → Step → Type 0
NextTells s a (Goes n) = (t : Trouble) → n.trouble ≡ Some t → IsShown s a t
NextTells s a (Ends n x) = s.trouble ≡ None
NextTells s a (Stops n t) = t ≢ trouble.Memory → IsShown s a t

some_is : (t u : Trouble) → Some t ≡ Some u → t ≡ u
some_is t u e = cc (e)

clears_keeps : {s q : Sweeping} {a : Answer} → Clears s a q → s.trouble ≡ q.trouble
clears_keeps (step.listed s held pages) = refl
clears_keeps (step.removed s held) = refl

tells : {s : Sweeping} {a : Answer} {next : Step} → HoldsNeeded s → Fits (sweep_ask s) a → Comes s a next → NextTells s a next
tells own fits (step.takes s held l) = λ t e. inl e
tells {s = from} own fits (step.refused s held a t e) = λ k. inr (take_missed from (lock.Tree s.tree) a t refl tt fits e)
tells {s = s} {a = a} own fits (step.stops t f) = λ u e. inr (subst (Shows s a) (some_is t u e) (fails_shows own fits f))
tells own fits (step.reads_on spot on new) = λ t e. inl e
tells own fits (step.has_read on) = λ t e. inl e
tells own fits (step.removes q page c e) = λ t kept. inl (clears_keeps c ∙ kept)
tells own fits (step.rests q c e) = λ t kept. inl (clears_keeps c ∙ kept)
tells own fits (step.ends s held a none) = none
tells own fits (step.stopped s held a t kept) = λ k. inl kept
tells own fits (step.nothing s held a) = absurd own

pub step_tells : (s : Sweeping) (a : Answer) (next : Step) → HoldsNeeded s → Fits (sweep_ask s) a → sweep_next s a ≡ next → NextTells s a next
step_tells s a next own fits leads = tells own fits (came_by s a next leads)

pub took_tells : (old new : Sweeping) (a : Answer) (turn : Turn Swept) → HoldsNeeded old → Fits (sweep_ask old) a
    → Took (LeadsBy sweep_next) KeepsLease old a new turn → Tells old a new turn
took_tells old new a More own fits took = step_tells old a (Goes new) own fits took
took_tells old new a (Ended x) own fits took = step_tells old a (Ends new x) own fits took
took_tells old new a (Stopped t) own fits took = λ k. step_tells old a (Stops new t) own fits (took.0 k) k

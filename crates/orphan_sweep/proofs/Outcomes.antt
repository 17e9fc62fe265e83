-- What a step of a sweep comes to, whatever branches led there.
use Rattle.std.proofs.Common.{◌≡◌, ℕ, Bool, true, false, cond, List, Option, Some, None, Result, Ok, Err, refl, sym, ap, subst, ◌∙◌}
use Rattle.db_base.specs.declared.names.Lock.TheVariants as lock
use Rattle.db_base.specs.declared.trouble.Trouble.TheVariants as trouble
use Rattle.cloud_trait.specs.declared.answer.Answer.TheVariants as call
use Rattle.cloud_trait.proofs.ViewLemmas.{given_of-ok, got_of-ok, done_of-ok}
use Rattle.orphan_sweep.specs.Pages.{root_held, top_spot, paths_of, onward}
use Rattle.orphan_sweep.specs.Sweeping.{Sweeping, Step, next_orphan, handed, stopping, taken_by, is_among, to_page, goes_on, root_found, root_got, page_found, page_got, removes_by, with_list, listed_by, one_removed, removed_by, swept_of, finished_by, absorbed_at, sweep_next}
use Rattle.orphan_sweep.proofs.Words.{Trouble, Answer, Claim, Goes, Ends, Stops, given_of, got_of, listed_of, done_of, Tree, Paths, Spot, Stage, TakingTree, GettingTree, Reading, Listing, Removing, Releasing, Finished}

-- a machine saw pages exactly where the answer brought them
pub listed_of-ok : (a : Answer) (pages : List ℕ) → listed_of a ≡ Ok pages → a ≡ call.Listed pages
listed_of-ok (call.Listed x) pages h = cc
listed_of-ok a pages h = absurd (cc)

-- at a stage with this lease
abbrev pub leased : Sweeping → Stage → Option Claim → Sweeping
leased s stage held = record s { stage = stage; held = held }

-- ---- local work between the call and where the step ends

-- The tree object or a page was read, and it leads to this page next, or to none.
pub data Onward : Sweeping → Answer → Option Spot → Type 0 where
  from_root : (s : Sweeping) (held : Option Claim) (got : Option (List ℕ)) (root : Tree) → root_held s.tree got ≡ Ok root
      → Onward (leased s GettingTree held) (call.Got got) (Some (top_spot root))
  from_page : (s : Sweeping) (held : Option Claim) (got : Option (List ℕ)) (paths : Paths) → paths_of s.tree s.at got ≡ Ok paths
      → Onward (leased s Reading held) (call.Got got) (onward s.at paths)

-- The pages were listed, or an orphan was removed.
pub data Clears : Sweeping → Answer → Sweeping → Type 0 where
  listed : (s : Sweeping) (held : Option Claim) (pages : List ℕ)
      → Clears (leased s Listing held) (call.Listed pages) (with_list (leased s Listing held) pages)
  removed : (s : Sweeping) (held : Option Claim) → Clears (leased s Removing held) call.Done (one_removed (leased s Removing held))

-- A trouble stops it: the call brought none of what it asked for, what it brought is wrong, or it leads round.
pub data Fails : Sweeping → Answer → Trouble → Type 0 where
  no_root : (s : Sweeping) (held : Option Claim) (a : Answer) (t : Trouble) → got_of a ≡ Err t → Fails (leased s GettingTree held) a t
  no_page : (s : Sweeping) (held : Option Claim) (a : Answer) (t : Trouble) → got_of a ≡ Err t → Fails (leased s Reading held) a t
  no_list : (s : Sweeping) (held : Option Claim) (a : Answer) (t : Trouble) → listed_of a ≡ Err t → Fails (leased s Listing held) a t
  not_removed : (s : Sweeping) (held : Option Claim) (a : Answer) (t : Trouble) → done_of a ≡ Err t → Fails (leased s Removing held) a t
  bad_root : (s : Sweeping) (held : Option Claim) (got : Option (List ℕ)) (t : Trouble) → root_held s.tree got ≡ Err t
      → Fails (leased s GettingTree held) (call.Got got) t
  bad_page : (s : Sweeping) (held : Option Claim) (got : Option (List ℕ)) (t : Trouble) → paths_of s.tree s.at got ≡ Err t
      → Fails (leased s Reading held) (call.Got got) t
  round : {s : Sweeping} {a : Answer} (spot : Spot) → Onward s a (Some spot) → is_among s.visited spot.page ≡ true → Fails s a (trouble.Loop spot.page)

-- ---- where it ends

pub data Comes : Sweeping → Answer → Step → Type 0 where
  takes : (s : Sweeping) (held : Option Claim) (l : Claim)
      → Comes (leased s TakingTree held) (call.Given l) (Goes (leased s GettingTree (Some l)))
  refused : (s : Sweeping) (held : Option Claim) (a : Answer) (t : Trouble) → given_of (lock.Tree s.tree) a ≡ Err t
      → Comes (leased s TakingTree held) a (Stops (leased s TakingTree held) t)
  stops : {s : Sweeping} {a : Answer} (t : Trouble) → Fails s a t → Comes s a (stopping s t)
  reads_on : {s : Sweeping} {a : Answer} (spot : Spot) → Onward s a (Some spot) → is_among s.visited spot.page ≡ false → Comes s a (to_page s spot)
  has_read : {s : Sweeping} {a : Answer} → Onward s a None → Comes s a (Goes (record s { stage = Listing }))
  removes : {s : Sweeping} {a : Answer} (q : Sweeping) (page : ℕ) → Clears s a q → next_orphan q ≡ Some page → Comes s a (Goes (record q { stage = Removing }))
  rests : {s : Sweeping} {a : Answer} (q : Sweeping) → Clears s a q → next_orphan q ≡ None → Comes s a (Goes (record q { stage = Releasing }))
  ends : (s : Sweeping) (held : Option Claim) (a : Answer) → s.trouble ≡ None
      → Comes (leased s Releasing held) a (Ends (leased s Finished None) (swept_of s))
  stopped : (s : Sweeping) (held : Option Claim) (a : Answer) (t : Trouble) → s.trouble ≡ Some t
      → Comes (leased s Releasing held) a (Stops (record (leased s Finished None) { trouble = None }) t)
  nothing : (s : Sweeping) (held : Option Claim) (a : Answer) → Comes (leased s Finished held) a (Stops (leased s Finished held) trouble.Failed)

-- ---- a step, taken apart

by_answer : {s : Sweeping} {next : Step} (a given : Answer) → a ≡ given → Comes s given next → Comes s a next
by_answer {s = s} {next = next} a given e c = subst (λ (x : Answer). Comes s x next) (sym e) c

taken : (s : Sweeping) (held : Option Claim) (a : Answer) (g : Result Claim Trouble) → given_of (lock.Tree s.tree) a ≡ g
    → Comes (leased s TakingTree held) a (taken_by (leased s TakingTree held) g)
taken s held a (Ok l) e = by_answer a _ (given_of-ok (lock.Tree s.tree) a l e) (takes s held l)
taken s held a (Err t) e = refused s held a t e

goes : {s : Sweeping} {a : Answer} (o : Option Spot) → Onward s a o → Comes s a (goes_on s o)
goes None on = has_read on
goes {s = s} {a = a} (Some spot) on = at (is_among s.visited spot.page) refl where
  at : (b : Bool) → is_among s.visited spot.page ≡ b → Comes s a (cond b (stopping s (trouble.Loop spot.page)) (to_page s spot))
  at true seen = stops (trouble.Loop spot.page) (round spot on seen)
  at false new = reads_on spot on new

root_read : (s : Sweeping) (held : Option Claim) (got : Option (List ℕ)) (found : Result Tree Trouble) → root_held s.tree got ≡ found
    → Comes (leased s GettingTree held) (call.Got got) (root_found (leased s GettingTree held) found)
root_read s held got (Ok root) e = goes (Some (top_spot root)) (from_root s held got root e)
root_read s held got (Err t) e = stops t (bad_root s held got t e)

gets_root : (s : Sweeping) (held : Option Claim) (a : Answer) (g : Result (Option (List ℕ)) Trouble) → got_of a ≡ g
    → Comes (leased s GettingTree held) a (root_got (leased s GettingTree held) g)
gets_root s held a (Ok got) e = by_answer a _ (got_of-ok a got e) (root_read s held got (root_held s.tree got) refl)
gets_root s held a (Err t) e = stops t (no_root s held a t e)

page_read : (s : Sweeping) (held : Option Claim) (got : Option (List ℕ)) (found : Result Paths Trouble) → paths_of s.tree s.at got ≡ found
    → Comes (leased s Reading held) (call.Got got) (page_found (leased s Reading held) found)
page_read s held got (Ok paths) e = goes (onward s.at paths) (from_page s held got paths e)
page_read s held got (Err t) e = stops t (bad_page s held got t e)

gets_page : (s : Sweeping) (held : Option Claim) (a : Answer) (g : Result (Option (List ℕ)) Trouble) → got_of a ≡ g
    → Comes (leased s Reading held) a (page_got (leased s Reading held) g)
gets_page s held a (Ok got) e = by_answer a _ (got_of-ok a got e) (page_read s held got (paths_of s.tree s.at got) refl)
gets_page s held a (Err t) e = stops t (no_page s held a t e)

clears : {s : Sweeping} {a : Answer} (q : Sweeping) (o : Option ℕ) → next_orphan q ≡ o → Clears s a q → Comes s a (removes_by q o)
clears q (Some page) e c = removes q page c e
clears q None e c = rests q c e

lists : (s : Sweeping) (held : Option Claim) (a : Answer) (g : Result (List ℕ) Trouble) → listed_of a ≡ g
    → Comes (leased s Listing held) a (listed_by (leased s Listing held) g)
lists s held a (Ok pages) e =
    by_answer a _ (listed_of-ok a pages e) (clears (with_list (leased s Listing held) pages) (next_orphan (with_list (leased s Listing held) pages)) refl (listed s held pages))
lists s held a (Err t) e = stops t (no_list s held a t e)

takes_one : (s : Sweeping) (held : Option Claim) (a : Answer) (g : Result (Unit {0}) Trouble) → done_of a ≡ g
    → Comes (leased s Removing held) a (removed_by (leased s Removing held) g)
takes_one s held a (Ok x) e =
    by_answer a _ (done_of-ok a e) (clears (one_removed (leased s Removing held)) (next_orphan (one_removed (leased s Removing held))) refl (removed s held))
takes_one s held a (Err t) e = stops t (not_removed s held a t e)

finishes : (s : Sweeping) (held : Option Claim) (a : Answer) (o : Option Trouble) → s.trouble ≡ o
    → Comes (leased s Releasing held) a (finished_by (leased s Releasing None) o)
finishes s held a (Some t) e = stopped s held a t e
finishes s held a None e = ends s held a e

comes_at : (stage : Stage) (s : Sweeping) (held : Option Claim) (a : Answer)
    → Comes (leased s stage held) a (absorbed_at stage (handed (leased s stage held)) a)
comes_at TakingTree s held a = taken s held a (given_of (lock.Tree s.tree) a) refl
comes_at GettingTree s held a = gets_root s held a (got_of a) refl
comes_at Reading s held a = gets_page s held a (got_of a) refl
comes_at Listing s held a = lists s held a (listed_of a) refl
comes_at Removing s held a = takes_one s held a (done_of a) refl
comes_at Releasing s held a = finishes s held a s.trouble refl
comes_at Finished s held a = nothing s held a

pub comes : (s : Sweeping) (a : Answer) → Comes s a (sweep_next s a)
comes s a = comes_at s.stage s s.held a

-- .. where the answer leads
pub came_by : (s : Sweeping) (a : Answer) (next : Step) → sweep_next s a ≡ next → Comes s a next
came_by s a next e = subst (Comes s a) e (comes s a)

-- ---- .. and back: a step by what it comes to

onward_goes : {s : Sweeping} {a : Answer} {o : Option Spot} → Onward s a o → sweep_next s a ≡ goes_on s o
onward_goes (from_root s held got root e) = ap (root_found (leased s GettingTree held)) e
onward_goes (from_page s held got paths e) = ap (page_found (leased s Reading held)) e

pub fails_stop : {s : Sweeping} {a : Answer} {t : Trouble} → Fails s a t → sweep_next s a ≡ stopping s t
fails_stop (no_root s held a t e) = ap (root_got (leased s GettingTree held)) e
fails_stop (no_page s held a t e) = ap (page_got (leased s Reading held)) e
fails_stop (no_list s held a t e) = ap (listed_by (leased s Listing held)) e
fails_stop (not_removed s held a t e) = ap (removed_by (leased s Removing held)) e
fails_stop (bad_root s held got t e) = ap (root_found (leased s GettingTree held)) e
fails_stop (bad_page s held got t e) = ap (page_found (leased s Reading held)) e
fails_stop {s = s} (round spot on seen) = onward_goes on ∙ ap (λ (b : Bool). cond b (stopping s (trouble.Loop spot.page)) (to_page s spot)) seen

pub refused_stops : (s : Sweeping) (held : Option Claim) (a : Answer) (t : Trouble) → given_of (lock.Tree s.tree) a ≡ Err t
    → sweep_next (leased s TakingTree held) a ≡ Stops (leased s TakingTree held) t
refused_stops s held a t e = ap (taken_by (leased s TakingTree held)) e

pub kept_stops : (s : Sweeping) (held : Option Claim) (a : Answer) (t : Trouble) → s.trouble ≡ Some t
    → sweep_next (leased s Releasing held) a ≡ Stops (record (leased s Finished None) { trouble = None }) t
kept_stops s held a t e = ap (finished_by (leased s Releasing None)) e

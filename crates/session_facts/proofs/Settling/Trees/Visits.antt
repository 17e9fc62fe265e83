-- A tree checkpoint comes to no page twice on its way to the leaf of a key.
use Rattle.std.proofs.Common.{◌≡◌, ◌≢◌, ℕ, true, false, List, [], ◌∷◌, ◌++◌, Option, Result, sym, subst, ◌∙◌}
use Rattle.std.specs.Prelude.{◌==◌}
use Rattle.std.proofs.lemmas.Bool.{eq-eqb}
use Rattle.cloud_facts.proofs.Copies.Tops.{any_of}
use Rattle.cloud_facts.specs.Words.{Trouble, Answer, Next, Goes, Ends, Stops, got_of, IsIn}
use Rattle.cloud_facts.specs.Book.Records.{Apart}
use Rattle.tree_phases.specs.declared.folding.Folding.{Folding}
use Rattle.tree_phases.specs.declared.folding.Left.{Left}
use Rattle.tree_phases.specs.declared.folding.Left.TheVariants.{Right, Handled}
use Rattle.tree_phases.specs.Folding as fold
use Rattle.run_cursor.specs.Covered.{is_seen}
use Rattle.session_facts.proofs.Settling.Trees.Lists.{apart_more}
use Rattle.session_facts.specs.Machines.TreeCheckpoints.Counting.{Once}
use Rattle.tree_ckpt.proofs.WayOutcomes.{Arrives, arrives, Gets, gets}
use Rattle.tree_ckpt.proofs.WayOutcomes as way
use Rattle.tree_ckpt.proofs.LeafOutcomes.{works}
use Rattle.tree_ckpt.proofs.LeafOutcomes as leaf
use Rattle.tree_ckpt.proofs.Outcomes.{Descends, Comes, comes}
use Rattle.tree_ckpt.proofs.Outcomes as step
use Rattle.tree_phases.specs.declared.descent.Descent.{Descent}
use Rattle.tree_phases.specs.declared.fork.Fork.{Fork}
use Rattle.tree_phases.specs.declared.fork.Fork.TheVariants as fork
use Rattle.tree_phases.specs.Descent.{passed, begun, with_node}
use Rattle.tree_ckpt.specs.declared.work.Held.{Held}
use Rattle.tree_ckpt.specs.declared.work.Work.{Work}
use Rattle.tree_ckpt.specs.declared.work.Work.TheVariants as work
use Rattle.tree_ckpt.specs.Moves.{Step, root_entry, onward_from, Leads}
use Rattle.tree_phases.specs.declared.chart.Chart.{Chart}
use Rattle.tree_phases.specs.Placing.{has_nothing}

abbrev pub OnceNext : Step → Type 0
OnceNext (Goes w) = Once w
OnceNext (Ends w a) = Unit {0}
OnceNext (Stops w t) = Unit {0}

-- the page at hand was not visited
abbrev pub IsUnvisited : Work → Type 0
IsUnvisited (work.Descending h d) = is_seen d.visited d.page ≡ false
IsUnvisited (work.Folding h f) = has_nothing f.placing ≡ true → is_seen f.visited f.page ≡ false
IsUnvisited w = Unit {0}

-- with one more page that was not visited
one_more : (visited : List ℕ) (page : ℕ) → is_seen visited page ≡ false → Apart visited → Apart (visited ++ page ∷ [])
one_more visited page unseen apart = apart_more visited page apart new
  where
    never : true ≡ false → ⊥
    never e = cc

    new : (p : ℕ) → IsIn visited p → p ≢ page
    new p is same = never (sym (any_of (λ (m : ℕ). m == page) visited is.0 p is.1 (eq-eqb p page same)) ∙ unseen)

-- ---- down

abbrev WayOnce : {A : Type 0} → Next Descent A → Type 0
WayOnce (Goes d) = Apart d.visited
WayOnce (Ends d x) = Apart d.visited
WayOnce (Stops d t) = Unit {0}

passed_once : (d : Descent) (f : Fork) → is_seen d.visited d.page ≡ false → Apart d.visited → Apart (passed d f).visited
passed_once d (fork.Right low page) unseen apart = one_more d.visited d.page unseen apart
passed_once d (fork.Down low page) unseen apart = one_more d.visited d.page unseen apart

arrives_once : {d : Descent} {s : Next Descent (Unit {0})} → Arrives d s → Apart d.visited → WayOnce s
arrives_once (way.at_leaf d level) apart = apart
arrives_once (way.at_node d fresh none) apart = apart
arrives_once (way.further d k f p on) apart = arrives_once on (passed_once d f p.fresh.1 apart)
arrives_once w apart = tt

gets_once : {d : Descent} {g : Result (Option (List ℕ)) Trouble} {s : Next Descent (Unit {0})} → Gets d g s → is_seen d.visited d.page ≡ false → Apart d.visited → WayOnce s
gets_once {d = d} (way.goes_on bytes n f is leads on) unseen apart = arrives_once on (passed_once (with_node d bytes) f unseen apart)
gets_once w unseen apart = tt

-- the way begins with no page, and goes on from one that was not visited
descends_once : {tree : ℕ} {w : Work} {a : Answer} {h : Held} {next : Next Descent (Unit {0})} → Once w → IsUnvisited w → Descends tree w a h next → WayOnce next
descends_once is new (step.begins {c = c} key s e) =
    let to : Chart = record c { key = key } in
    arrives_once (arrives (begun to (root_entry to).0 (root_entry to).1)) tt
descends_once is new (step.goes_on h d a) = gets_once (gets d (got_of a)) new is

-- ---- a leaf

abbrev LeafOnce : Next Folding Left → Type 0
LeafOnce (Goes f) = Apart f.visited
LeafOnce (Ends f (Right low page)) = Apart f.visited
LeafOnce (Ends f Handled) = Unit {0}
LeafOnce (Stops f t) = Unit {0}

reads_once : {f : Folding} {g : Result (Option (List ℕ)) Trouble} {next : Next Folding Left} → is_seen f.visited f.page ≡ false → Apart f.visited → leaf.Reads f g next → LeafOnce next
reads_once {f = f} unseen apart (leaf.passes got l high right behind e) = one_more f.visited f.page unseen apart
reads_once unseen apart (leaf.plans got l x xs p here some e) = apart
reads_once unseen apart c = tt

lands_once : {f : Folding} {done : Result (Unit {0}) Trouble} {next : Next Folding Left} → Apart f.visited → leaf.Lands f done next → LeafOnce next
lands_once apart (leaf.lands x e) = apart
lands_once apart c = tt

folding_once : (h : Held) (f : Folding) (a : Answer) → IsUnvisited (work.Folding h f) → Apart f.visited → LeafOnce (fold.folding_next f a)
folding_once h f a new apart = on (works f a) where
  on : {next : Next Folding Left} → leaf.Works f a next → LeafOnce next
  on (leaf.gets e r) = reads_once (new e) apart r
  on (leaf.puts e l) = lands_once apart l

onward_once : (h : Held) (f : Folding) (out : Left) → LeafOnce (Ends f out) → Once (work.ReleasingPage h f.lease (onward_from f out))
onward_once h f (Right low page) apart = apart
onward_once h f Handled apart = tt

-- ---- wherever it stands

next_once : {tree : ℕ} {w : Work} {a : Answer} {next : Step} → Once w → IsUnvisited w → Comes tree w a next → OnceNext next
next_once is new (step.descends h d down) = descends_once is new down
next_once is new (step.arrives h d x down) = descends_once is new down
next_once is new (step.takes_page h c l) = is
next_once is new (step.folds h f g a e) = subst LeafOnce e (folding_once h f a new is)
next_once is new (step.leaves h f g out a e) = onward_once h g out (subst LeafOnce e (folding_once h f a new is))
next_once is new (step.turns h l c a) = is
next_once is new (step.turns_alone h c a) = is
next_once is new c = tt

pub once_goes : (tree : ℕ) (w : Work) (a : Answer) (next : Step) → Once w → IsUnvisited w → Leads tree w a next → OnceNext next
once_goes tree w a next is new leads = next_once is new (comes tree w a next leads)

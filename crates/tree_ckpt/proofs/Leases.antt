-- Which leases a tree checkpoint holds after each of its calls, which it names and gives back.
use Rattle.std.proofs.Common.{◌≡◌, ◌≢◌, ℕ, List, [], ◌∷◌, Option, Some, None, Result, Ok, Err, refl, sym, subst, ap, ◌∙◌}
use Rattle.std.specs.Prelude.{unwrap_or}
use Rattle.db_base.specs.declared.names.Lock.TheVariants as lock
use Rattle.db_base.specs.declared.names.ObjName.TheVariants as object
use Rattle.cloud_trait.specs.declared.answer.Answer.TheVariants as call
use Rattle.cloud_trait.specs.Ask.{Take, GetHeld}
use Rattle.ckpt_parts.specs.Deleting.{next_id}
use Rattle.ckpt_parts.specs.Leasing.{claims_of, newest_lease, without_newest, outstanding, outstanding_after}
use Rattle.tree_phases.specs.Placing.{put_in_hand, put_first, put_next}
use Rattle.tree_phases.specs.Folding.{folding_ask, folding_next}
use Rattle.tree_phases.specs.Rising.{last_ask}
use Rattle.tree_ckpt.specs.declared.work.Work.TheVariants as work
use Rattle.tree_ckpt.specs.Work.{work_ask, delete_ask, release_ask, claims_in}
use Rattle.tree_ckpt.specs.Moves.{Step, Leads}
use Rattle.tree_ckpt.specs.Making.{Making, new_making, making_ask, MakingLeads, KeepsLeases}
use Rattle.tree_ckpt.specs.Leases.{Went, OfTree, OfLeaf, HasIds, HoldsOne, HoldsAt, StandsAt, Stands, Names, GivesBack, AreReturned}
use Rattle.tree_ckpt.proofs.Words.{Trouble, Lock, Answer, CkptAnswer, Turn, More, Ended, Stopped, Claim, Next, Goes, Ends, Stops, Took, Deed, Came, given_of, Fits, Ask, PagePut, Leases, Chart, Placing, Descent, Folding, Left, Rising, Held, Work}
use Rattle.tree_ckpt.proofs.Outcomes.{Seeks, Descends, Ascends, Clears, Fails, Comes, comes, has_ids}
use Rattle.tree_ckpt.proofs.Outcomes as step
use Rattle.tree_ckpt.proofs.Folds.{PlansAfter, plans_after}
use Rattle.tree_ckpt.proofs.Leaving.{SameLeaf, LeavesLeaf, next_leaves}

-- where a step goes on, it stands so; where it ends, nothing is held and nothing is outstanding
abbrev NextStands : ℕ → List Claim → Step → Type 0
NextStands tree claims (Goes w) = StandsAt tree w claims
NextStands tree claims (Ends w a) = (claims_in w ≡ []) × (claims ≡ [])
NextStands tree claims (Stops w t) = (claims_in w ≡ []) × (claims ≡ [])

-- what is outstanding behind the call
abbrev after : ℕ → Work → Answer → List Claim
after tree w a = outstanding_after (work_ask tree w) a (claims_in w)

-- ---- calls

-- a take that gave nothing
not_given : (mine : Lock) (ticks : ℕ) (a : Answer) (t : Trouble) (claims : List Claim) → given_of mine a ≡ Err t → outstanding_after (Take mine ticks) a claims ≡ claims
not_given mine ticks (call.Given l) t claims e = absurd (cc (e))
not_given mine ticks a t claims e = refl

-- a put leaves the leases
put_keeps : (p : Placing) (tree : ℕ) (l : Claim) (second : Option Claim) (ask : Ask) (a : Answer) (cs : List Claim) → outstanding_after ask a cs ≡ cs
    → outstanding_after (unwrap_or (put_in_hand p tree l second) ask) a cs ≡ cs
put_keeps p tree l second ask a cs h = on p.reserved p.puts where
  on : (reserved : Option (List ℕ)) (puts : List PagePut) → outstanding_after (unwrap_or (put_first tree l (put_next tree l second puts) reserved) ask) a cs ≡ cs
  on (Some bytes) puts = refl
  on None [] = h
  on None (x ∷ xs) = refl

last_keeps : (r : Rising) (l : Claim) (last : Option (List ℕ)) (a : Answer) (cs : List Claim) → outstanding_after (last_ask r l last) a cs ≡ cs
last_keeps r l (Some bytes) a cs = refl
last_keeps r l None a cs = refl

delete_keeps : (tree : ℕ) (ids : List ℕ) (a : Answer) (cs : List Claim) → HasIds ids → outstanding_after (delete_ask tree (next_id ids)) a cs ≡ cs
delete_keeps tree [] a cs has = absurd has
delete_keeps tree (id ∷ ids) a cs has = refl

-- a release leaves the other lease
release_leaves : (tree : ℕ) (first second : Option Claim) (end : Result CkptAnswer Trouble) (a : Answer) → HoldsOne (newest_lease (record { first = first; second = second }))
    → claims_of (without_newest (record { first = first; second = second })) ≡ after tree (work.Releasing (record { first = first; second = second }) end) a
release_leaves tree (Some l) (Some r) end a own = refl
release_leaves tree (Some l) None end a own = refl
release_leaves tree None (Some r) end a own = refl
release_leaves tree None None end a own = absurd own

none_left : (first second : Option Claim) → newest_lease (record { first = first; second = second }) ≡ None → claims_of (record { first = first; second = second }) ≡ []
none_left None None e = refl
none_left (Some l) None e = absurd (cc (e))
none_left first (Some r) e = absurd (cc (e))

-- ---- local work

-- the tree's lease alone is held
record IsOne (tree : ℕ) (w : Work) (a : Answer) (h : Held) : Type 0 where
  held : h.lease ∷ [] ≡ after tree w a
  own : OfTree tree h.lease

seeks_one : {tree : ℕ} {w : Work} {a : Answer} {h : Held} {c : Chart} → HoldsAt tree w → Seeks tree w a h c → IsOne tree w a h
seeks_one own (step.with_run l root ms i takes some) = record { held = refl; own = own }
seeks_one own (step.from_leaf h l c a) = record { held = refl; own = own }
seeks_one own (step.alone h c a) = absurd own

descends_one : {tree : ℕ} {w : Work} {a : Answer} {h : Held} {next : Next Descent (Unit {0})} → HoldsAt tree w → Descends tree w a h next → IsOne tree w a h
descends_one own (step.begins key s e) = seeks_one own s
descends_one own (step.goes_on h d a) = record { held = refl; own = own }

ascends_one : {tree : ℕ} {w : Work} {a : Answer} {h : Held} {next : Next Rising (Unit {0})} → HoldsAt tree w → Ascends tree w a h next → IsOne tree w a h
ascends_one own (step.begins_up s e) = seeks_one own s
ascends_one own (step.goes_up h r a) =
    record { held = sym (put_keeps r.placing r.chart.tree h.lease None _ a (h.lease ∷ []) (last_keeps r h.lease r.last a (h.lease ∷ []))); own = own }

clears_one : {tree : ℕ} {w : Work} {a : Answer} {h : Held} {applied : ℕ} → HoldsAt tree w → Clears tree w a h applied → IsOne tree w a h
clears_one own (step.no_run l root ms i takes none) = record { held = refl; own = own }
clears_one own (step.risen r x up) = ascends_one own up
clears_one {tree = tree} own (step.one_tried h applied a) = record { held = sym (delete_keeps tree h.deletions.ids a (h.lease ∷ []) own.1); own = own.0 }

-- the work at a leaf keeps both leases
folding_keeps : (h : Held) (f g : Folding) (a : Answer) → SameLeaf f g → g.lease ∷ h.lease ∷ [] ≡ outstanding_after (folding_ask f h.lease) a (f.lease ∷ h.lease ∷ [])
folding_keeps h f g a s =
    ap (λ (l : Claim). l ∷ h.lease ∷ []) s.lease ∙ sym (put_keeps f.placing f.chart.tree h.lease (Some f.lease) _ a (f.lease ∷ h.lease ∷ []) refl)

leaf_stays : (f : Folding) (a : Answer) (next : Next Folding Left) → folding_next f a ≡ next → LeavesLeaf f next
leaf_stays f a next e = subst (LeavesLeaf f) e (next_leaves f a)

of_leaf : (f g : Folding) → SameLeaf f g → OfLeaf f → OfLeaf g
of_leaf f g s own = ap (λ (l : Claim). l.lock) s.lease ∙ own ∙ ap (λ (p : ℕ). lock.Page f.chart.tree p) (sym s.page) ∙ ap (λ (t : ℕ). lock.Page t g.page) (sym s.tree)

fails_stands : {tree : ℕ} {w : Work} {a : Answer} {held : Leases} {t : Trouble} → HoldsAt tree w → Fails tree w a held t
    → StandsAt tree (work.Releasing held (Err t)) (after tree w a)
fails_stands own (step.no_lease h c a t e) = record { held = sym (not_given (lock.Page c.chart.tree c.page) 30 a t (h.lease ∷ []) e); own = tt }
fails_stands own (step.no_way d t way) = record { held = (descends_one own way).held; own = tt }
fails_stands own (step.no_ascent r t up) = record { held = (ascends_one own up).held; own = tt }
fails_stands own (step.no_leaf h f g a t e) = record { held = folding_keeps h f g a (leaf_stays f a (Stops g t) e); own = tt }
fails_stands own (step.no_tree l a t e) = record { held = refl; own = tt }
fails_stands own (step.bad_tree l bytes e) = record { held = refl; own = tt }
fails_stands own (step.no_messages l root a t e) = record { held = refl; own = tt }
fails_stands own (step.bad_message l root ms t takes) = record { held = refl; own = tt }

-- ---- a step

stands_after : {tree : ℕ} {w : Work} {a : Answer} {next : Step} → HoldsAt tree w → Fits (work_ask tree w) a → Comes tree w a next → NextStands tree (after tree w a) next
stands_after own fits (step.takes_tree l) = record { held = refl; own = fits }
stands_after {tree = tree} own fits (step.refused a t e) = (refl, not_given (lock.Tree tree) 60 a t [] e)
stands_after own fits (step.reads_tree l got is) = record { held = refl; own = own }
stands_after own fits (step.stops held t f) = fails_stands own f
stands_after own fits (step.descends h d way) = let one = descends_one own way in record { held = one.held; own = one.own }
stands_after own fits (step.arrives h d x way) = let one = descends_one own way in record { held = one.held; own = one.own }
stands_after own fits (step.takes_page h c l) = record { held = refl; own = (own, fits, λ e. absurd (cc (e))) }
stands_after own fits (step.folds h f g a e) =
    let s : SameLeaf f g = leaf_stays f a (Goes g) e in
    record { held = folding_keeps h f g a s; own = (own.0, of_leaf f g s own.1, subst PlansAfter e (plans_after f a own.2)) }
stands_after own fits (step.leaves h f g out a e) = record { held = folding_keeps h f g a (leaf_stays f a (Ends g out) e); own = own.0 }
stands_after own fits (step.turns h l c a) = record { held = refl; own = own }
stands_after own fits (step.ascends h r up) = let one = ascends_one own up in record { held = one.held; own = one.own }
stands_after own fits (step.deletes h applied id c e) = let one = clears_one own c in record { held = one.held; own = (one.own, has_ids h.deletions.ids id e) }
stands_after own fits (step.rests h applied c e) = record { held = (clears_one own c).held; own = tt }
stands_after {tree = tree} own fits (step.gives_back held l end a e) =
    record { held = release_leaves tree held.first held.second end a own; own = subst HoldsOne (sym e) tt }
stands_after {tree = tree} own fits (step.ends held x a e) =
    (refl, sym (release_leaves tree held.first held.second (Ok x) a own) ∙ none_left (without_newest held).first (without_newest held).second e)
stands_after {tree = tree} own fits (step.stopped held t a e) =
    (refl, sym (release_leaves tree held.first held.second (Err t) a own) ∙ none_left (without_newest held).first (without_newest held).second e)
stands_after own fits c = absurd own

step_stands : (tree : ℕ) (w : Work) (claims : List Claim) (a : Answer) (next : Step) → StandsAt tree w claims → Fits (work_ask tree w) a → Leads tree w a next
    → NextStands tree (outstanding_after (work_ask tree w) a claims) next
step_stands tree w claims a next s fits leads =
    subst (λ (cs : List Claim). NextStands tree (outstanding_after (work_ask tree w) a cs) next) s.held (stands_after s.own fits (comes tree w a next leads))

-- ---- histories

pub came_stands : (tree : ℕ) (h : List Deed) (m : Making) → Came making_ask MakingLeads (new_making tree) h m → Stands m h
came_stands tree [] m came = subst (λ (n : Making). StandsAt n.tree n.work []) (sym came) (record { held = refl; own = tt })
came_stands tree (d ∷ h) m came =
    let from : Making = came.0 in
    let before : Stands from h = came_stands tree h from came.1 in
    let fits : Fits (making_ask from) d.answer = subst (λ (ask : Ask). Fits ask d.answer) came.2 came.3.fits in
    let after : StandsAt from.tree m.work (outstanding_after (making_ask from) d.answer (outstanding h)) =
    step_stands from.tree from.work (outstanding h) d.answer (Goes m.work) before fits came.4.1 in
    let asked : StandsAt from.tree m.work (outstanding (d ∷ h)) =
    subst (λ (ask : Ask). StandsAt from.tree m.work (outstanding_after ask d.answer (outstanding h))) (sym came.2) after in
    subst (λ (t : ℕ). StandsAt t m.work (outstanding (d ∷ h))) (sym came.4.0.0) asked

pub went_stands : (m : Making) (h : List Deed) → Went h m → Stands m h
went_stands m h came = came_stands m.tree h m came

-- ---- what the call in hand names

not_page : (tree other page : ℕ) (l : Claim) → OfTree tree l → l.lock ≢ lock.Page other page
not_page tree other page l own e = never (sym own ∙ e) where
  never : lock.Tree tree ≡ lock.Page other page → ⊥
  never f = absurd (cc (f))

leaf_names : (p : Placing) (tree page : ℕ) (l leaf : Claim) → Names (unwrap_or (put_in_hand p tree l (Some leaf)) (GetHeld (object.Page tree page) leaf)) (leaf ∷ l ∷ [])
leaf_names p tree page l leaf = on p.reserved p.puts where
  on : (reserved : Option (List ℕ)) (puts : List PagePut)
      → Names (unwrap_or (put_first tree l (put_next tree l (Some leaf) puts) reserved) (GetHeld (object.Page tree page) leaf)) (leaf ∷ l ∷ [])
  on (Some bytes) puts = refl
  on None [] = refl
  on None (x ∷ xs) = refl

last_names : (r : Rising) (l : Claim) (last : Option (List ℕ)) → Names (last_ask r l last) (l ∷ [])
last_names r l (Some bytes) = refl
last_names r l None = refl

node_names : (p : Placing) (tree : ℕ) (l : Claim) (ask : Ask) → Names ask (l ∷ []) → Names (unwrap_or (put_in_hand p tree l None) ask) (l ∷ [])
node_names p tree l ask h = on p.reserved p.puts where
  on : (reserved : Option (List ℕ)) (puts : List PagePut) → Names (unwrap_or (put_first tree l (put_next tree l None puts) reserved) ask) (l ∷ [])
  on (Some bytes) puts = refl
  on None [] = h
  on None (x ∷ xs) = refl

delete_names : (tree : ℕ) (ids : List ℕ) (cs : List Claim) → HasIds ids → Names (delete_ask tree (next_id ids)) cs
delete_names tree [] cs has = absurd has
delete_names tree (id ∷ ids) cs has = tt

release_names : (tree : ℕ) (first second : Option Claim) → HoldsOne (newest_lease (record { first = first; second = second }))
    → Names (release_ask tree (newest_lease (record { first = first; second = second }))) (claims_of (record { first = first; second = second }))
release_names tree (Some l) (Some r) own = refl
release_names tree (Some l) None own = refl
release_names tree None (Some r) own = refl
release_names tree None None own = absurd own

names_by : (tree : ℕ) (w : Work) → HoldsAt tree w → Names (work_ask tree w) (claims_in w)
names_by tree work.TakingTree own = tt
names_by tree (work.GettingTree l) own = refl
names_by tree (work.Receiving l root) own = tt
names_by tree (work.Descending k d) own = refl
names_by tree (work.TakingPage k c) own = (not_page tree c.chart.tree c.page k.lease own, tt)
names_by tree (work.Folding k f) own = leaf_names f.placing f.chart.tree f.page k.lease f.lease
names_by tree (work.ReleasingPage k l o) own = refl
names_by tree (work.LeftPage k o) own = absurd own
names_by tree (work.Rising k r) own = node_names r.placing r.chart.tree k.lease _ (last_names r k.lease r.last)
names_by tree (work.Deleting k applied) own = delete_names tree k.deletions.ids (k.lease ∷ []) own.1
names_by tree (work.Releasing held end) own = release_names tree held.first held.second own
names_by tree work.Finished own = absurd own

pub stands_names : (m : Making) (h : List Deed) → Stands m h → Names (making_ask m) (outstanding h)
stands_names m h s = subst (λ (cs : List Claim). Names (making_ask m) cs) s.held (names_by m.tree m.work s.own)

-- ---- an end gives all back

pub stands_gives : (old new : Making) (h : List Deed) (a : Answer) (turn : Turn CkptAnswer) → Stands old h → Fits (making_ask old) a
    → Took MakingLeads KeepsLeases old a new turn → GivesBack new turn
stands_gives old new h a More s fits took = tt
stands_gives old new h a (Ended x) s fits took =
    let ends : NextStands old.tree (outstanding_after (making_ask old) a (outstanding h)) (Ends new.work x) =
    step_stands old.tree old.work (outstanding h) a (Ends new.work x) s fits took.1 in ends.0
stands_gives old new h a (Stopped t) s fits took = λ memory.
    let stops : NextStands old.tree (outstanding_after (making_ask old) a (outstanding h)) (Stops new.work t) =
    step_stands old.tree old.work (outstanding h) a (Stops new.work t) s fits (took.0 memory).1 in stops.0

-- and by its calls all were given back
pub stands_returns : (old new : Making) (h : List Deed) (a : Answer) (turn : Turn CkptAnswer) → Stands old h → Fits (making_ask old) a
    → Took MakingLeads KeepsLeases old a new turn → AreReturned (outstanding_after (making_ask old) a (outstanding h)) turn
stands_returns old new h a More s fits took = tt
stands_returns old new h a (Ended x) s fits took =
    let ends : NextStands old.tree (outstanding_after (making_ask old) a (outstanding h)) (Ends new.work x) =
    step_stands old.tree old.work (outstanding h) a (Ends new.work x) s fits took.1 in ends.1
stands_returns old new h a (Stopped t) s fits took = λ memory.
    let stops : NextStands old.tree (outstanding_after (making_ask old) a (outstanding h)) (Stops new.work t) =
    step_stands old.tree old.work (outstanding h) a (Stops new.work t) s fits (took.0 memory).1 in stops.1

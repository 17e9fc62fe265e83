-- What a tree checkpoint knows of its calls.
use Rattle.std.proofs.Common.{◌≡◌, ◌+◌, ℕ, Bool, true, false, List, [], ◌∷◌, ◌++◌, length, Option, Some, None, Result, Ok, Err, refl, sym, ap, subst, ◌∙◌, inl, inr, arith}
use Rattle.std.specs.Prelude.{◌==◌, unwrap_or}
use Rattle.db_base.specs.declared.names.ObjName.TheVariants as object
use Rattle.db_base.specs.declared.names.QueueName.TheVariants as queue
use Rattle.node_codec.specs.Tree.{tree_bytes}
use Rattle.run_cursor.specs.Covered.{covered_ids}
use Rattle.leaf_edit.specs.Merging.{Rises}
use Rattle.leaf_edit.proofs.InOrder.{Rises-sorted}
use Rattle.cloud_trait.specs.declared.answer.Answer.TheVariants as call
use Rattle.cloud_trait.specs.Ask.{GetHeld, Receive, Delete, Release, PutHeld}
use Rattle.ckpt_parts.specs.Deleting.{Deleting, to_delete, next_id, tried}
use Rattle.ckpt_parts.specs.Intakes.{has_items, items_of, intake_of, TakesItems}
use Rattle.ckpt_parts.specs.Leasing.{newest_lease, without_newest}
use Rattle.tree_phases.specs.Placing.{has_nothing, put_first, put_next}
use Rattle.tree_phases.specs.Read.{tree_held}
use Rattle.tree_phases.specs.Descent.{descent_ask, descent_next}
use Rattle.tree_phases.specs.Folding.{folding_ask, folding_next}
use Rattle.tree_phases.specs.Folding as fold
use Rattle.tree_phases.specs.Rising as rise
use Rattle.tree_ckpt.specs.declared.work.Onward.TheVariants as onward
use Rattle.tree_ckpt.specs.declared.work.Work.TheVariants as work
use Rattle.tree_ckpt.specs.Work.{work_ask, take_tree, one_lease, delete_ask, release_ask}
use Rattle.tree_ckpt.specs.Moves.{Step, answer_of, went, leaf_of, root_entry, down_from, onward_from, chart_of, Leads}
use Rattle.tree_ckpt.specs.Making.{Making, new_making, making_ask, MakingLeads, KeepsLeases}
use Rattle.tree_ckpt.specs.Leases.{Went, HasIds}
use Rattle.tree_ckpt.specs.Causes.{Calls}
use Rattle.tree_ckpt.specs.Working.{Visit, Worked, WorksBy, leaf_place, below_root, IsLeftFor, applied_count}
use Rattle.tree_ckpt.specs.Meaning.{Opening, opening_calls, IsOpened, IsAtWork, AreAtWork, IsRootPut, Works, Tried, deletes_over, tried_before, one_more, one_less, went_count, failed_count, IsDone, MeansDone}
use Rattle.tree_phases.specs.declared.folding.Left.TheVariants.{Right, Handled}
use Rattle.tree_phases.specs.Descent.{begun}
use Rattle.tree_ckpt.proofs.Words.{Trouble, QueueName, PuItem, Taken, Answer, Message, CkptAnswer, Turn, More, Ended, Stopped, Claim, Next, Goes, Ends, Stops, Took, Deed, Came, calls_of, done_of, Ask, PagePut, Intake, Leases, Chart, Descent, Folding, Left, Rising, Coming, Held, Onward, Work}
use Rattle.tree_ckpt.proofs.Outcomes.{Seeks, Descends, Ascends, Clears, Comes, comes, has_ids}
use Rattle.tree_ckpt.proofs.Outcomes as step
use Rattle.tree_ckpt.proofs.Brought.{AreKept, Charted, chart_more}
use Rattle.tree_ckpt.proofs.Charts.{GoesFurther, arrive_further, descent_further}
use Rattle.tree_ckpt.proofs.Leaving.{LeavesLeaf, next_leaves}
use Rattle.tree_ckpt.proofs.Lasts.{IsLastRoot, LastIs, UpKeeps, none_last, rise_keeps, risen_keeps}
use Rattle.tree_ckpt.proofs.Causes.{KnowsAt, came_brought}
use Rattle.tree_ckpt.proofs.Climbs.{kept_at_work, Climbs, UpClimbs, RiseClimbs, Risen, begun_climbs, rising_climbs}
use Rattle.tree_ckpt.proofs.Covers.{IsLeast, least_is}
use Rattle.tree_ckpt.proofs.Lows.{IsUpto, ComesUpto, begun_upto}
use Rattle.tree_ckpt.proofs.ReceivedIds.{went_told}
use Rattle.tree_ckpt.proofs.Turns.{place_of, begun_turned}
use Rattle.tree_ckpt.proofs.Tours.{RestsAt, ToursAt, WayTours, AtLeaf, VisitsAt, LeavesUpto, LeafTours, rests_tours, first_rests, way_tours, descent_tours, leaf_tours, taken_tours, left_rests}
use Rattle.tree_ckpt.proofs.Folds.{not_empty}
use Rattle.tree_ckpt.proofs.RiseOutcomes.{IsRising, Lands, lands}
use Rattle.tree_ckpt.proofs.RiseOutcomes as climb
use Rattle.tree_ckpt.proofs.Answers.{done_is}

-- ---- what is known

-- while leaves and nodes are worked on, where such work was done
pub record Amid (tree : ℕ) (h : Held) (run : Taken) (Is : Opening → Calls → Type 0) (cs : Calls) : Type 0 where
  pub opening : Opening
  pub same : opening.run ≡ run
  pub opened : IsOpened opening
  pub some : has_items opening.run.items ≡ true
  pub ids : h.deletions ≡ to_delete (covered_ids opening.run.top opening.items)
  pub work : Calls
  pub works : AreAtWork work
  pub is : Is opening work
  pub calls : cs ≡ work ++ opening_calls tree h.lease opening

-- once the tree object was put, or where the run is empty
pub record Late (tree : ℕ) (lease : Claim) (deletions : Deleting) (applied : ℕ) (cs : Calls) : Type 0 where
  pub opening : Opening
  pub opened : IsOpened opening
  pub work : Calls
  pub works : Works tree lease opening.run work
  pub tries : Tried
  pub calls : cs ≡ deletes_over tree tries (work ++ opening_calls tree lease opening)
  pub covered : tried_before tries deletions.ids ≡ covered_ids opening.run.top opening.items
  pub deleted : deletions.deleted ≡ went_count tries
  pub left : deletions.left ≡ failed_count tries
  pub worked : Option Worked
  pub each : WorksBy tree lease opening.run opening.got work worked
  pub counted : applied ≡ applied_count opening.run worked

-- an end is kept
pub record Ending (tree : ℕ) (held : Leases) (x : CkptAnswer) (cs : Calls) : Type 0 where
  pub lease : Claim
  pub deletions : Deleting
  pub applied : ℕ
  pub one : held ≡ one_lease lease
  pub late : Late tree lease deletions applied cs
  pub done : deletions.ids ≡ []
  pub answer : x ≡ answer_of applied deletions

abbrev KnowsEnd : ℕ → Leases → Result CkptAnswer Trouble → Calls → Type 0
KnowsEnd tree held (Ok x) cs = Ending tree held x cs
KnowsEnd tree held (Err t) cs = Unit {0}

abbrev chart_onward : Onward → Chart
chart_onward (onward.Right c) = c.chart
chart_onward (onward.Handled c) = c

-- a leaf on the right has a low key not above the least key that is not handled
abbrev GoesUpto : Onward → List Visit → Type 0
GoesUpto (onward.Right c) vs = IsLeast c.chart.run.items c.chart.from c.chart.key × IsUpto c.low c.chart.key × IsLeftFor c.chart.key (leaf_place c.low c.page) vs
GoesUpto (onward.Handled c) vs = Unit {0}

abbrev pub DoneAt : ℕ → Work → Calls → Type 0
DoneAt tree work.TakingTree cs = cs ≡ []
DoneAt tree (work.GettingTree l) cs = cs ≡ (take_tree tree, call.Given l) ∷ []
DoneAt tree (work.Receiving l root) cs = cs ≡ (GetHeld (object.Tree tree) l, call.Got root) ∷ (take_tree tree, call.Given l) ∷ []
DoneAt tree (work.Descending h d) cs = Amid tree h d.chart.run (λ o w. ToursAt h.lease d.chart (place_of d) o w × ComesUpto d) cs
DoneAt tree (work.TakingPage h c) cs = Amid tree h c.chart.run (λ o w. ToursAt h.lease c.chart (leaf_place c.low c.page) o w × IsUpto c.low c.chart.key) cs
DoneAt tree (work.Folding h f) cs = Amid tree h f.chart.run (λ o w. AtLeaf h.lease f o w) cs
DoneAt tree (work.ReleasingPage h l x) cs = Amid tree h (chart_onward x).run (λ o w. (k : VisitsAt h.lease l (chart_onward x) o w) × GoesUpto x (k.visit ∷ k.visits)) cs
DoneAt tree (work.LeftPage h x) cs = ⊥
DoneAt tree (work.Rising h r) cs = Amid tree h r.chart.run (λ o w. Climbs h.lease r o w) cs × LastIs r
DoneAt tree (work.Deleting h applied) cs = Late tree h.lease h.deletions applied cs × HasIds h.deletions.ids
DoneAt tree (work.Releasing held end) cs = KnowsEnd tree held end cs
DoneAt tree work.Finished cs = ⊥

-- it ends by this call after the others
pub record EndsBy (tree : ℕ) (cs : Calls) (ask : Ask) (x : CkptAnswer) : Type 0 where
  pub held : Leases
  pub ending : Ending tree held x cs
  pub last : ask ≡ Release ending.lease

-- where a step goes on it knows the calls so far
abbrev NextDone : ℕ → Calls → Ask → Answer → Step → Type 0
NextDone tree cs ask a (Goes w) = DoneAt tree w ((ask, a) ∷ cs)
NextDone tree cs ask a (Ends w x) = EndsBy tree cs ask x
NextDone tree cs ask a (Stops w t) = Unit {0}

-- ---- the deletions

deleted_done : (tree : ℕ) (l : Claim) (id : ℕ) (ids : List ℕ) (deleted left applied : ℕ) (a : Answer) (b : Bool) (cs : Calls) → went (done_of a) ≡ b
    → Late tree l (record { ids = id ∷ ids; deleted = deleted; left = left }) applied cs
    → Late tree l (tried (record { ids = id ∷ ids; deleted = deleted; left = left }) b) applied ((Delete (queue.TreePu tree) id, a) ∷ cs)
deleted_done tree l id ids deleted left applied a true cs e k = record {
  opening = k.opening;
  opened = k.opened;
  work = k.work;
  works = k.works;
  tries = (id, a) ∷ k.tries;
  calls = ap (λ (xs : Calls). (Delete (queue.TreePu tree) id, a) ∷ xs) k.calls;
  covered = k.covered;
  deleted = ap (λ (n : ℕ). n + 1) k.deleted ∙ ap (λ (b : Bool). one_more b (went_count k.tries)) (sym e);
  left = k.left ∙ ap (λ (b : Bool). one_less b (failed_count k.tries)) (sym e);
  worked = k.worked;
  each = k.each;
  counted = k.counted;
}
deleted_done tree l id ids deleted left applied a false cs e k = record {
  opening = k.opening;
  opened = k.opened;
  work = k.work;
  works = k.works;
  tries = (id, a) ∷ k.tries;
  calls = ap (λ (xs : Calls). (Delete (queue.TreePu tree) id, a) ∷ xs) k.calls;
  covered = k.covered;
  deleted = k.deleted ∙ ap (λ (b : Bool). one_more b (went_count k.tries)) (sym e);
  left = ap (λ (n : ℕ). n + 1) k.left ∙ ap (λ (b : Bool). one_less b (failed_count k.tries)) (sym e);
  worked = k.worked;
  each = k.each;
  counted = k.counted;
}

tried_done : (tree : ℕ) (l : Claim) (ids : List ℕ) (deleted left applied : ℕ) (a : Answer) (cs : Calls) → HasIds ids
    → Late tree l (record { ids = ids; deleted = deleted; left = left }) applied cs
    → Late tree l (tried (record { ids = ids; deleted = deleted; left = left }) (went (done_of a))) applied ((delete_ask tree (next_id ids), a) ∷ cs)
tried_done tree l [] deleted left applied a cs has k = absurd has
tried_done tree l (id ∷ ids) deleted left applied a cs has k = deleted_done tree l id ids deleted left applied a (went (done_of a)) cs refl k

-- ---- the work

-- one call more
amid_more : (tree : ℕ) (h : Held) (run : Taken) (Is Js : Opening → Calls → Type 0) (ask : Ask) (a : Answer) (cs : Calls) → IsAtWork ask
    → ((o : Opening) (w : Calls) → cs ≡ w ++ opening_calls tree h.lease o → Is o w → Js o ((ask, a) ∷ w)) → Amid tree h run Is cs → Amid tree h run Js ((ask, a) ∷ cs)
amid_more tree h run Is Js ask a cs at step k = record {
  opening = k.opening;
  same = k.same;
  opened = k.opened;
  some = k.some;
  ids = k.ids;
  work = (ask, a) ∷ k.work;
  works = (at, k.works);
  is = step k.opening k.work k.calls k.is;
  calls = ap (λ (xs : Calls). (ask, a) ∷ xs) k.calls;
}

-- the run stays, and more is known of the work
amid_as : (tree : ℕ) (h : Held) (run other : Taken) (Is Js : Opening → Calls → Type 0) (cs : Calls) → other ≡ run
    → ((o : Opening) (w : Calls) → cs ≡ w ++ opening_calls tree h.lease o → Rises run.items → Is o w → Js o w) → Amid tree h run Is cs → Amid tree h other Js cs
amid_as tree h run other Is Js cs e step k = record {
  opening = k.opening;
  same = k.same ∙ sym e;
  opened = k.opened;
  some = k.some;
  ids = k.ids;
  work = k.work;
  works = k.works;
  is = step k.opening k.work k.calls (subst (λ (r : Taken). Rises r.items) k.same (Rises-sorted k.opening.run.items k.opened.run.sorted)) k.is;
  calls = k.calls;
}

amid_same : (tree : ℕ) (h : Held) (run other : Taken) (Is : Opening → Calls → Type 0) (cs : Calls) → other ≡ run → Amid tree h run Is cs → Amid tree h other Is cs
amid_same tree h run other Is cs e k = amid_as tree h run other Is Is cs e (λ o w same rises is. is) k

-- the nodes of a chart were got
abbrev HasGot : Chart → Calls → Type 0
HasGot c cs = AreKept c.tree c.nodes cs

-- as its tree is the tree
chart_got : (tree : ℕ) (c : Chart) (cs : Calls) → Charted tree c cs → HasGot c cs
chart_got tree c cs k = subst (λ (t : ℕ). AreKept t c.nodes cs) (sym k.same) k.nodes

-- where a way down leads, it knows the calls so far
abbrev DescentDone : ℕ → Held → Calls → Next Descent (Unit {0}) → Type 0
DescentDone tree h cs (Goes d) = DoneAt tree (work.Descending h d) cs
DescentDone tree h cs (Ends d x) = DoneAt tree (work.TakingPage h (leaf_of d)) cs
DescentDone tree h cs (Stops d t) = Unit {0}

descending_done : (tree : ℕ) (h : Held) (c : Chart) (n : ℕ) (cs : Calls) (next : Next Descent (Unit {0})) → GoesFurther n c next
    → Amid tree h c.run (λ o w. WayTours h.lease next o w) cs → DescentDone tree h cs next
descending_done tree h c n cs (Goes d) f k = amid_same tree h c.run d.chart.run (λ o w. ToursAt h.lease d.chart (place_of d) o w × ComesUpto d) cs f.run k
descending_done tree h c n cs (Ends d x) f k = amid_same tree h c.run d.chart.run (λ o w. ToursAt h.lease d.chart (leaf_place d.low d.page) o w × ComesUpto d) cs f.run k
descending_done tree h c n cs (Stops d t) f k = tt

-- where the way up leads
abbrev AscentDone : ℕ → Held → Calls → Next Rising (Unit {0}) → Type 0
AscentDone tree h cs (Goes r) = DoneAt tree (work.Rising h r) cs
AscentDone tree h cs (Ends r x) = Late tree h.lease h.deletions r.chart.applied cs
AscentDone tree h cs (Stops r t) = Unit {0}

rising_begun : (tree : ℕ) (h : Held) (r : Rising) (cs : Calls) (next : Next Rising (Unit {0})) → UpKeeps r next → Amid tree h r.chart.run (λ o w. UpClimbs h.lease next o w) cs
    → AscentDone tree h cs next
rising_begun tree h r cs (Goes e) keeps k = (amid_same tree h r.chart.run e.chart.run (λ o w. Climbs h.lease e o w) cs keeps.0 k, keeps.1)
rising_begun tree h r cs (Ends e x) keeps k = absurd k.is
rising_begun tree h r cs (Stops e t) keeps k = tt

-- ---- the way up

-- a put of the tree object that was done
abbrev IsPutOf : ℕ → Claim → List ℕ → Ask × Answer → Type 0
IsPutOf tree l bytes c = c ≡ (PutHeld (object.Tree tree) bytes l None, call.Done)

-- it ends by such a put
abbrev UpEnds : Rising → Claim → Answer → Next Rising (Unit {0}) → Type 0
UpEnds r l a (Goes e) = Unit {0}
UpEnds r l a (Ends e x) = (bytes : List ℕ) × IsPutOf r.chart.tree l bytes (rise.rising_ask r l, a) × (r.last ≡ Some bytes)
UpEnds r l a (Stops e t) = Unit {0}

-- no lie of an empty run where there is one
never_empty : {X : Type 0} (b : Bool) → b ≡ true → b ≡ false → X
never_empty true e f = absurd (cc (f))
never_empty false e f = absurd (cc (e))

-- the last call of the way up is such a put
last_put : (l : Claim) (r : Rising) → IsRising r → has_nothing r.placing ≡ true → UpEnds r l call.Done (Ends r tt)
last_put l r some nothing = on r.placing.reserved r.placing.puts r.last some nothing where
  with_placing : Option (List ℕ) → List PagePut → Option (List ℕ) → Rising
  with_placing reserved puts last = record r { placing = record { reserved = reserved; puts = puts }; last = last }

  on : (reserved : Option (List ℕ)) (puts : List PagePut) (last : Option (List ℕ)) → IsRising (with_placing reserved puts last) → has_nothing (with_placing reserved puts last).placing ≡ true
      → UpEnds (with_placing reserved puts last) l call.Done (Ends (with_placing reserved puts last) tt)
  on (Some bytes) puts last some nothing = absurd (cc (nothing))
  on None (x ∷ xs) last some nothing = absurd (let one : (length (x ∷ xs) == 0) ≡ false = not_empty (x ∷ xs) (omega arith) in never_empty (length (x ∷ xs) == 0) nothing one)
  on None [] (Some bytes) some nothing = (bytes, refl, refl)
  on None [] None some nothing = absurd (cc (some))

rises_end : {up : Rising} {next : Next Rising (Unit {0})} (r : Rising) (l : Claim) (a : Answer) → climb.Rises up next → UpEnds r l a next
rises_end r l a (climb.node_due k p at e) = tt
rises_end r l a c = tt

lands_end : {r : Rising} {done : Result (Unit {0}) Trouble} {next : Next Rising (Unit {0})} (l : Claim) (a : Answer) → IsRising r → done_of a ≡ done → Lands r done next → UpEnds r l a next
lands_end {r = r} l a some e (climb.is_last x nothing) = subst (λ (b : Answer). UpEnds r l b (Ends r tt)) (sym (done_is a x e)) (last_put l r some nothing)
lands_end {r = r} l a some e (climb.goes_on x more nothing between on) = rises_end r l a on
lands_end l a some e c = tt

amid_late : (tree : ℕ) (h : Held) (run : Taken) (Is : Opening → Calls → Type 0) (c : Ask × Answer) (cs : Calls) (applied : ℕ) (k : Amid tree h run Is cs)
    → IsRootPut tree h.lease run c → Risen h.lease tree run applied k.opening (c ∷ k.work) → Late tree h.lease h.deletions applied (c ∷ cs)
amid_late tree h run Is c cs applied k put ended =
    let end : Risen h.lease tree k.opening.run applied k.opening (c ∷ k.work) =
    subst (λ (r : Taken). Risen h.lease tree r applied k.opening (c ∷ k.work)) (sym k.same) ended in
    record {
      opening = k.opening;
      opened = k.opened;
      work = c ∷ k.work;
      works = (k.some, subst (λ (r : Taken). IsRootPut tree h.lease r c) (sym k.same) put, k.works);
      tries = [];
      calls = ap (λ (xs : Calls). c ∷ xs) k.calls;
      covered = ap (λ (d : Deleting). d.ids) k.ids;
      deleted = ap (λ (d : Deleting). d.deleted) k.ids;
      left = ap (λ (d : Deleting). d.left) k.ids;
      worked = Some end.worked;
      each = (k.some, end.calls, end.is);
      counted = end.applied;
    }

root_put_is : (tree : ℕ) (l : Claim) (r : Rising) (a : Answer) (bytes : List ℕ) → IsPutOf r.chart.tree l bytes (rise.rising_ask r l, a)
    → r.last ≡ Some bytes → LastIs r → r.chart.tree ≡ tree → IsRootPut tree l r.chart.run (rise.rising_ask r l, a)
root_put_is tree l r a bytes e last known same =
    let is : IsLastRoot r.chart.run bytes = known bytes last in (
      is.0,
      is.1,
      e ∙ (ap (λ (bs : List ℕ). (PutHeld (object.Tree r.chart.tree) bs l None, call.Done)) is.2
          ∙ ap (λ (t : ℕ). (PutHeld (object.Tree t) (tree_bytes is.0) l None, call.Done)) same),
      is.3,
    )

rising_done : (tree : ℕ) (h : Held) (a : Answer) (cs : Calls) (r : Rising) (next : Next Rising (Unit {0})) → Amid tree h r.chart.run (λ o w. Climbs h.lease r o w) cs → LastIs r
    → IsAtWork (rise.rising_ask r h.lease) → r.chart.tree ≡ tree → UpKeeps r next → UpEnds r h.lease a next
    → ((o : Opening) (w : Calls) → cs ≡ w ++ opening_calls tree h.lease o → Climbs h.lease r o w → RiseClimbs h.lease r next o ((rise.rising_ask r h.lease, a) ∷ w))
    → AscentDone tree h ((rise.rising_ask r h.lease, a) ∷ cs) next
rising_done tree h a cs r (Goes e) k last at same keeps up step = (
  amid_same tree h r.chart.run e.chart.run (λ o w. Climbs h.lease e o w) ((rise.rising_ask r h.lease, a) ∷ cs) keeps.0
      (amid_more tree h r.chart.run (λ o w. Climbs h.lease r o w) (λ o w. Climbs h.lease e o w) (rise.rising_ask r h.lease) a cs at step k),
  keeps.1,
)
rising_done tree h a cs r (Ends e x) k last at same keeps up step =
    amid_late tree h r.chart.run (λ o w. Climbs h.lease r o w) (rise.rising_ask r h.lease, a) cs e.chart.applied k (root_put_is tree h.lease r a up.0 up.1 up.2 last same)
    (subst (λ (t : ℕ). Risen h.lease t r.chart.run e.chart.applied k.opening ((rise.rising_ask r h.lease, a) ∷ k.work)) same (step k.opening k.work k.calls k.is))
rising_done tree h a cs r (Stops e t) k last at same keeps up step = tt

put_at_work : (reserved : Option (List ℕ)) (puts : List PagePut) (tree : ℕ) (l : Claim) (second : Option Claim) (ask : Ask) → IsAtWork ask
    → IsAtWork (unwrap_or (put_first tree l (put_next tree l second puts) reserved) ask)
put_at_work (Some bytes) puts tree l second ask h = tt
put_at_work None [] tree l second ask h = h
put_at_work None (x ∷ xs) tree l second ask h = tt

last_at_work : (r : Rising) (l : Claim) (last : Option (List ℕ)) → IsAtWork (rise.last_ask r l last)
last_at_work r l (Some bytes) = tt
last_at_work r l None = tt

-- ---- the opening

-- a run that was taken in, with what was read for it
record OpensRun (root : Option (List ℕ)) (ms : List Message) (i : Intake) : Type 0 where
  items : List PuItem
  run : Taken
  opened : IsOpened (record { got = root; messages = ms; items = items; run = run })
  is : i ≡ intake_of items run

opens : (q : QueueName) (root : Option (List ℕ)) (ms : List Message) (i : Intake) (read : Result (List PuItem) Message) → items_of ms ≡ read
    → TakesItems q (tree_held root).cursor read (Ok i) → OpensRun root ms i
opens q root ms i (Err m) e h = absurd (cc (h))
opens q root ms i (Ok items) e h = record { items = items; run = h.0; opened = record { read = e; run = h.1 }; is = cc (h.2) }

-- ---- local work

-- the next key is sought: the leaves so far rest, and the nodes of the chart were got
record IsSought (tree : ℕ) (h : Held) (c : Chart) (cs : Calls) : Type 0 where
  got : HasGot c cs
  rests : Amid tree h c.run (λ o w. RestsAt h.lease c o w) cs

seeks_done : {tree : ℕ} {w : Work} {a : Answer} {h : Held} {c : Chart} (cs : Calls) → KnowsAt tree w cs → DoneAt tree w cs → Seeks tree w a h c
    → IsSought tree h c ((work_ask tree w, a) ∷ cs)
seeks_done {tree = tree} cs k d (step.with_run l root ms i takes some) =
    let o : OpensRun root ms i = opens (queue.TreePu tree) root ms i (items_of ms) refl takes in
    let opening : Opening = record { got = root; messages = ms; items = o.items; run = o.run } in
    let same : o.run ≡ i.run = sym (ap (λ (j : Intake). j.run) o.is) in record {
      got = tt;
      rests = record {
        opening = opening;
        same = same;
        opened = o.opened;
        some = ap (λ (r : Taken). has_items r.items) same ∙ some;
        ids = ap (λ (j : Intake). j.deletions) o.is;
        work = [];
        works = tt;
        is = first_rests l (chart_of tree root i.run) opening refl refl refl refl refl;
        calls = ap (λ (xs : Calls). (Receive (queue.TreePu tree) 256, call.Received ms) ∷ xs) d;
      };
    }
seeks_done {tree = tree} cs k d (step.from_leaf h l c a) = record {
  got = chart_got tree c ((Release l, a) ∷ cs) (chart_more tree c (Release l, a) cs k);
  rests = amid_more tree h c.run (λ o w. (v : VisitsAt h.lease l c o w) × GoesUpto (onward.Handled c) (v.visit ∷ v.visits)) (λ o w. RestsAt h.lease c o w) (Release l) a cs tt
      (λ o w same is. (left_rests h.lease l c a o w is.0).0) d;
}
seeks_done cs k d (step.alone h c a) = absurd k

descends_done : {tree : ℕ} {w : Work} {a : Answer} {h : Held} {next : Next Descent (Unit {0})} (cs : Calls) → KnowsAt tree w cs → DoneAt tree w cs → Descends tree w a h next
    → DescentDone tree h ((work_ask tree w, a) ∷ cs) next
descends_done {tree = tree} {w = w} {a = a} {h = h} cs k d (step.begins {c = c} key s e) =
    let keyed : Chart = record c { key = key } in
    let next : Next Descent (Unit {0}) = down_from keyed (root_entry keyed) in
    let further : GoesFurther 0 keyed next = arrive_further (begun keyed (root_entry keyed).0 (root_entry keyed).1) in
    let sought : IsSought tree h c ((work_ask tree w, a) ∷ cs) = seeks_done cs k d s in
    descending_done tree h keyed 0 ((work_ask tree w, a) ∷ cs) next further
    (amid_as tree h c.run c.run (λ o x. RestsAt h.lease c o x) (λ o x. WayTours h.lease next o x) ((work_ask tree w, a) ∷ cs) refl
    (λ o x same rises is. way_tours h.lease 0 keyed keyed.nodes (below_root key c.root) [] next o x further (begun_upto keyed)
    (begun_turned c.tree x keyed (kept_at_work c.tree c.nodes tree h.lease o x (subst (HasGot c) same sought.got)))
    (rests_tours h.lease keyed (below_root key c.root) o x (least_is c.from key c.run.items rises e) is (inl refl))) sought.rests)
descends_done {tree = tree} cs k d (step.goes_on h w a) =
    descending_done tree h w.chart 1 ((descent_ask w h.lease, a) ∷ cs) (descent_next w a) (descent_further w a)
    (amid_more tree h w.chart.run (λ o x. ToursAt h.lease w.chart (place_of w) o x × ComesUpto w) (λ o x. WayTours h.lease (descent_next w a) o x) (descent_ask w h.lease) a cs tt
    (λ o x same is. descent_tours h.lease w a o x (kept_at_work w.chart.tree w.chart.nodes tree h.lease o x (subst (HasGot w.chart) same (chart_got tree w.chart cs k.chart))) is.0) d)

ascends_done : {tree : ℕ} {w : Work} {a : Answer} {h : Held} {next : Next Rising (Unit {0})} (cs : Calls) → KnowsAt tree w cs → DoneAt tree w cs → Ascends tree w a h next
    → AscentDone tree h ((work_ask tree w, a) ∷ cs) next
ascends_done {tree = tree} {w = w} {a = a} {h = h} cs k d (step.begins_up {c = c} s e) =
    let next : Next Rising (Unit {0}) = rise.rise (rise.begun c) in
    let sought : IsSought tree h c ((work_ask tree w, a) ∷ cs) = seeks_done cs k d s in
    rising_begun tree h (rise.begun c) ((work_ask tree w, a) ∷ cs) next (rise_keeps (rise.begun c) (none_last (rise.begun c) refl))
    (amid_as tree h c.run c.run (λ o x. RestsAt h.lease c o x) (λ o x. UpClimbs h.lease next o x) ((work_ask tree w, a) ∷ cs) refl
    (λ o x same rises is. begun_climbs h.lease c o x e (kept_at_work c.tree c.nodes tree h.lease o x (subst (HasGot c) same sought.got)) is) sought.rests)
ascends_done {tree = tree} cs k d (step.goes_up h r a) =
    rising_done tree h a cs r (rise.rising_next r a) d.0 d.1
    (put_at_work r.placing.reserved r.placing.puts r.chart.tree h.lease None (rise.last_ask r h.lease r.last) (last_at_work r h.lease r.last)) k.0.same
    (risen_keeps r (done_of a) d.1) (lands_end h.lease a k.1 refl (lands r (done_of a))) (λ o w same is. rising_climbs h.lease r a o w k.1 is)

clears_done : {tree : ℕ} {w : Work} {a : Answer} {h : Held} {applied : ℕ} (cs : Calls) → KnowsAt tree w cs → DoneAt tree w cs → Clears tree w a h applied
    → Late tree h.lease h.deletions applied ((work_ask tree w, a) ∷ cs)
clears_done {tree = tree} cs k d (step.no_run l root ms i takes none) =
    let o : OpensRun root ms i = opens (queue.TreePu tree) root ms i (items_of ms) refl takes in
    let empty : has_items o.run.items ≡ false = sym (ap (λ (j : Intake). has_items j.run.items) o.is) ∙ none in record {
      opening = record { got = root; messages = ms; items = o.items; run = o.run };
      opened = o.opened;
      work = [];
      works = empty;
      tries = [];
      calls = ap (λ (xs : Calls). (Receive (queue.TreePu tree) 256, call.Received ms) ∷ xs) d;
      covered = ap (λ (j : Intake). j.deletions.ids) o.is;
      deleted = ap (λ (j : Intake). j.deletions.deleted) o.is;
      left = ap (λ (j : Intake). j.deletions.left) o.is;
      worked = None;
      each = (empty, refl);
      counted = refl;
    }
clears_done cs k d (step.risen r x up) = ascends_done cs k d up
clears_done {tree = tree} cs k d (step.one_tried h applied a) =
    tried_done tree h.lease h.deletions.ids h.deletions.deleted h.deletions.left applied a cs d.1 d.0

-- the work at a leaf
folds_done : (tree : ℕ) (h : Held) (f : Folding) (a : Answer) (cs : Calls) (next : Next Folding Left) → folding_next f a ≡ next → DoneAt tree (work.Folding h f) cs
    → Amid tree h f.chart.run (λ o w. LeafTours h.lease next o w) ((folding_ask f h.lease, a) ∷ cs) × LeavesLeaf f next
folds_done tree h f a cs next e d =
    subst (λ (n : Next Folding Left). Amid tree h f.chart.run (λ o w. LeafTours h.lease n o w) ((folding_ask f h.lease, a) ∷ cs) × LeavesLeaf f n) e (
      amid_more tree h f.chart.run (λ o x. AtLeaf h.lease f o x) (λ o x. LeafTours h.lease (folding_next f a) o x) (folding_ask f h.lease) a cs
          (put_at_work f.placing.reserved f.placing.puts f.chart.tree h.lease (Some f.lease) (GetHeld (object.Page f.chart.tree f.page) f.lease) tt)
          (λ o w same is. leaf_tours h.lease f a o w is) d,
      next_leaves f a,
    )

leaves_done : (tree : ℕ) (h : Held) (f g : Folding) (cs : Calls) (out : Left) → Amid tree h f.chart.run (λ o w. LeafTours h.lease (Ends g out) o w) cs × LeavesLeaf f (Ends g out)
    → DoneAt tree (work.ReleasingPage h g.lease (onward_from g out)) cs
leaves_done tree h f g cs (Right low page) k =
    amid_same tree h f.chart.run g.chart.run (λ o w. (v : VisitsAt h.lease g.lease g.chart o w) × LeavesUpto g.chart (Right low page) (v.visit ∷ v.visits)) cs k.1.run k.0
leaves_done tree h f g cs Handled k =
    amid_same tree h f.chart.run g.chart.run (λ o w. (v : VisitsAt h.lease g.lease g.chart o w) × LeavesUpto g.chart Handled (v.visit ∷ v.visits)) cs k.1.run k.0

-- to the leaf on the right
turns_done : (tree : ℕ) (h : Held) (l : Claim) (c : Coming) (a : Answer) (cs : Calls) → DoneAt tree (work.ReleasingPage h l (onward.Right c)) cs
    → DoneAt tree (work.TakingPage h c) ((Release l, a) ∷ cs)
turns_done tree h l c a cs d =
    amid_as tree h c.chart.run c.chart.run (λ o w. (r : RestsAt h.lease c.chart o w) × GoesUpto (onward.Right c) r.visits)
    (λ o w. ToursAt h.lease c.chart (leaf_place c.low c.page) o w × IsUpto c.low c.chart.key) ((Release l, a) ∷ cs) refl
    (λ o w same rises is. (rests_tours h.lease c.chart (leaf_place c.low c.page) o w is.1.0 is.0 (inr is.1.2), is.1.1))
    (amid_more tree h c.chart.run (λ o w. (v : VisitsAt h.lease l c.chart o w) × GoesUpto (onward.Right c) (v.visit ∷ v.visits))
    (λ o w. (r : RestsAt h.lease c.chart o w) × GoesUpto (onward.Right c) r.visits) (Release l) a cs tt
    (λ o w same is. let rests = left_rests h.lease l c.chart a o w is.0 in
    (rests.0, subst (GoesUpto (onward.Right c)) (sym rests.1) is.1)) d)

-- an end is kept while one lease is held alone
gives_done : (tree : ℕ) (held : Leases) (l : Claim) (end : Result CkptAnswer Trouble) (cs more : Calls) → newest_lease (without_newest held) ≡ Some l → KnowsEnd tree held end cs
    → KnowsEnd tree (without_newest held) end more
gives_done tree held l (Err t) cs more e k = tt
gives_done tree held l (Ok x) cs more e k = absurd (never (sym (ap (λ (m : Leases). newest_lease (without_newest m)) k.one) ∙ e)) where
  never : None ≡ Some l → ⊥
  never f = absurd (cc (f))

no_ids : (ids : List ℕ) → next_id ids ≡ None → ids ≡ []
no_ids [] e = refl
no_ids (id ∷ ids) e = absurd (cc (e))

-- ---- a step

done_after : {tree : ℕ} {w : Work} {a : Answer} {next : Step} (cs : Calls) → KnowsAt tree w cs → DoneAt tree w cs → Comes tree w a next
    → NextDone tree cs (work_ask tree w) a next
done_after {tree = tree} cs k d (step.takes_tree l) = ap (λ (xs : Calls). (take_tree tree, call.Given l) ∷ xs) d
done_after cs k d (step.refused a t e) = tt
done_after {tree = tree} cs k d (step.reads_tree l got is) = ap (λ (xs : Calls). (GetHeld (object.Tree tree) l, call.Got got) ∷ xs) d
done_after cs k d (step.stops held t f) = tt
done_after cs k d (step.descends h e way) = descends_done cs k d way
done_after cs k d (step.arrives h e x way) = descends_done cs k d way
done_after {tree = tree} cs k d (step.takes_page h c l) =
    amid_more tree h c.chart.run (λ o w. ToursAt h.lease c.chart (leaf_place c.low c.page) o w × IsUpto c.low c.chart.key)
    (λ o w. AtLeaf h.lease (fold.begun c.chart l c.page c.low c.visited) o w) (work_ask tree (work.TakingPage h c)) (call.Given l) cs tt
    (λ o w same is. taken_tours h.lease c.chart l c.page c.low c.visited o w is.1 is.0) d
done_after {tree = tree} cs k d (step.folds h f g a e) =
    let folded = folds_done tree h f a cs (Goes g) e d in amid_same tree h f.chart.run g.chart.run (λ o w. AtLeaf h.lease g o w) _ folded.1.run folded.0
done_after {tree = tree} cs k d (step.leaves h f g out a e) = leaves_done tree h f g _ out (folds_done tree h f a cs (Ends g out) e d)
done_after {tree = tree} cs k d (step.turns h l c a) = turns_done tree h l c a cs d
done_after cs k d (step.ascends h r up) = ascends_done cs k d up
done_after cs k d (step.deletes h applied id c e) = (clears_done cs k d c, has_ids h.deletions.ids id e)
done_after cs k d (step.rests h applied c e) =
    record { lease = h.lease; deletions = h.deletions; applied = applied; one = refl; late = clears_done cs k d c; done = no_ids h.deletions.ids e; answer = refl }
done_after {tree = tree} cs k d (step.gives_back held l end a e) = gives_done tree held l end cs _ e d
done_after {tree = tree} cs k d (step.ends held x a e) = record { held = held; ending = d; last = ap (λ (m : Leases). release_ask tree (newest_lease m)) d.one }
done_after cs k d (step.stopped held t a e) = tt
done_after cs k d c = absurd k

step_done : (m : Making) (cs : Calls) (a : Answer) (next : Step) → KnowsAt m.tree m.work cs → DoneAt m.tree m.work cs → Leads m.tree m.work a next
    → NextDone m.tree cs (making_ask m) a next
step_done m cs a next k d leads = done_after cs k d (comes m.tree m.work a next leads)

-- ---- histories

came_done : (tree : ℕ) (h : List Deed) (m : Making) → Came making_ask MakingLeads (new_making tree) h m → DoneAt m.tree m.work (calls_of h)
came_done tree [] m came = subst (λ (n : Making). DoneAt n.tree n.work []) (sym came) refl
came_done tree (d ∷ h) m came =
    let from : Making = came.0 in
    let before : DoneAt from.tree from.work (calls_of h) = came_done tree h from came.1 in
    let after : DoneAt from.tree m.work ((making_ask from, d.answer) ∷ calls_of h) =
    step_done from (calls_of h) d.answer (Goes m.work) (came_brought tree h from came.1) before came.4.1 in
    let asked : DoneAt from.tree m.work (calls_of (d ∷ h)) = subst (λ (ask : Ask). DoneAt from.tree m.work ((ask, d.answer) ∷ calls_of h)) (sym came.2) after in
    subst (λ (t : ℕ). DoneAt t m.work (calls_of (d ∷ h))) (sym came.4.0.0) asked

pub went_done : (m : Making) (h : List Deed) → Went h m → DoneAt m.tree m.work (calls_of h)
went_done m h came = came_done m.tree h m came

-- ---- an end

ends_done : (ask : Ask) (m : Making) (h : List Deed) (x : CkptAnswer) → Went h m → EndsBy m.tree (calls_of h) ask x → IsDone ask m.tree m.received h x
ends_done ask m h x went k =
    let end : Ending m.tree k.held x (calls_of h) = k.ending in
    let late : Late m.tree end.lease end.deletions end.applied (calls_of h) = end.late in
    record {
      lease = end.lease;
      opening = late.opening;
      opened = late.opened;
      told = went_told m h end.lease late.opening late.work late.tries went late.works late.calls;
      work = late.work;
      works = late.works;
      worked = late.worked;
      each = late.each;
      tried = late.tries;
      calls = late.calls;
      last = k.last;
      covered = subst (λ (ids : List ℕ). tried_before late.tries ids ≡ covered_ids late.opening.run.top late.opening.items) end.done late.covered;
      deleted = ap (λ (y : CkptAnswer). y.deleted) end.answer ∙ late.deleted;
      left = ap (λ (y : CkptAnswer). y.left) end.answer ∙ late.left;
      applied = ap (λ (y : CkptAnswer). y.applied) end.answer ∙ late.counted;
    }

pub took_done : (old new : Making) (h : List Deed) (a : Answer) (turn : Turn CkptAnswer) → Went h old → KnowsAt old.tree old.work (calls_of h) → DoneAt old.tree old.work (calls_of h)
    → Took MakingLeads KeepsLeases old a new turn → MeansDone (making_ask old) old h turn
took_done old new h a More went k d took = tt
took_done old new h a (Ended x) went k d took = ends_done (making_ask old) old h x went (step_done old (calls_of h) a (Ends new.work x) k d took.1)
took_done old new h a (Stopped t) went k d took = tt

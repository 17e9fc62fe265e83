-- What a page checkpoint knows of its calls, stage by stage.
use Rattle.std.proofs.Common.{◌≡◌, ℕ, ◌+◌, Bool, true, false, List, [], ◌∷◌, length, Option, Some, None, Result, Ok, Err, inl, inr, refl, sym, ap, subst, ◌∙◌, arith}
use Rattle.db_base.specs.declared.names.QueueName.{QueueName}
use Rattle.leaf_view.specs.Leaf.{Leaf, IsLeaf}
use Rattle.run_cursor.specs.Run.{IsRun}
use Rattle.run_cursor.specs.Covered.{covered_ids}
use Rattle.cloud_trait.specs.declared.answer.Answer.TheVariants as call
use Rattle.cloud_trait.specs.Ask.{Ask, GetHeld, Receive, Delete, Release}
use Rattle.ckpt_parts.specs.Deleting.{Deleting, to_delete, next_id, tried}
use Rattle.ckpt_parts.specs.Intakes.{has_items, ids_of, items_of, intake_of, TakesItems}
use Rattle.ckpt_parts.specs.Leaves.{HoldsLinked}
use Rattle.page_ckpt.specs.declared.stage.Stage.TheVariants.{TakingHome, GettingHome, Receiving, TakingRight, GettingRight, PuttingRight, ReleasingRight, PuttingHome, Deleting as DeletingNext, Releasing, Finished}
use Rattle.page_ckpt.specs.Paging.{Paging, Step, new_paging, paging_ask, own_queue, delete_next, HoldsNamed, link_of, with_intake, went, answer_of, PagingLeads, KeepsLeases}
use Rattle.page_ckpt.specs.Leases.{Went, HasIds}
use Rattle.page_ckpt.specs.Meaning.{Calls, Scene, scene, page_name, take_page, scene_queue, lacked_by, applied_to, Opening, opening_calls, IsOpened, Visit, put_over, right_put, home_put, visits_over, PutsLacked, LeadsOn, lacked_on, Works, applied_count, Tried, deletes_over, tried_before, one_more, one_less, went_count, failed_count, main_calls, IsDone, MeansDone}
use Rattle.page_ckpt.specs.Demands.{WasGot, HomeWasGot, OnwardWasGot, WasBrought}
use Rattle.page_ckpt.proofs.Words.{Trouble, PuItem, Answer, Message, CkptAnswer, Turn, More, Ended, Stopped, Claim, Goes, Ends, Stops, Took, Deed, Came, calls_of, done_of, Intake, Link, Stage}
use Rattle.page_ckpt.proofs.Outcomes.{leased, noted, IsLast, AreRead, Onward, Clears, Comes, comes}
use Rattle.page_ckpt.proofs.Outcomes as step
use Rattle.page_ckpt.proofs.Links.{link_taken, takes_link}

-- ---- what is known

-- while right pages are visited
pub record Middle (s : Scene) (received : List ℕ) (deletions : Deleting) (n : ℕ) (l : Claim) (visits : List Visit) (cs : Calls) : Type 0 where
  pub opening : Opening
  pub opened : IsOpened s received opening
  pub some : has_items s.run.items ≡ true
  pub calls : cs ≡ visits_over s l visits (opening_calls s l opening)
  pub count : n ≡ lacked_on s visits
  pub ids : deletions ≡ to_delete (covered_ids s.run.top opening.items)

-- at a right page that was read
pub record At (s : Scene) (at : Link) (onward : Option Link) (r : Claim) (leaf : Leaf) (rest cs : Calls) : Type 0 where
  pub got : Option (List ℕ)
  pub holds : HoldsLinked s.tree at.page at.low got (Ok leaf)
  pub calls : cs ≡ (GetHeld (page_name s at.page) r, call.Got got) ∷ (take_page s at.page, call.Given r) ∷ rest
  pub leads : onward ≡ link_of leaf s.run.items

-- once the page was put, or where the run is empty
pub record Late (s : Scene) (received : List ℕ) (deletions : Deleting) (n : ℕ) (l : Claim) (cs : Calls) : Type 0 where
  pub opening : Opening
  pub opened : IsOpened s received opening
  pub visits : List Visit
  pub out : Option (List ℕ)
  pub works : Works s visits out
  pub tries : Tried
  pub calls : cs ≡ deletes_over s tries (main_calls s l opening visits out)
  pub covered : tried_before tries deletions.ids ≡ covered_ids s.run.top opening.items
  pub count : n ≡ applied_count s visits out
  pub deleted : deletions.deleted ≡ went_count tries
  pub left : deletions.left ≡ failed_count tries

abbrev WithHome : (Claim → Type 0) → Option Claim → Option Claim → Type 0
WithHome F (Some l) None = F l
WithHome F (Some l) (Some r) = ⊥
WithHome F None second = ⊥

abbrev WithBoth : (Claim → Claim → Type 0) → Option Claim → Option Claim → Type 0
WithBoth F (Some l) (Some r) = F l r
WithBoth F (Some l) None = ⊥
WithBoth F None second = ⊥

abbrev MiddleOf : Paging → Claim → List Visit → Calls → Type 0
MiddleOf p l visits cs = Middle (scene p) p.received p.deletions p.applied l visits cs

abbrev LateOf : Paging → Calls → Claim → Type 0
LateOf p cs l = Late (scene p) p.received p.deletions p.applied l cs

abbrev Quiet : Paging → Type 0
Quiet p = p.trouble ≡ None

abbrev AtGettingHome : Paging → Calls → Claim → Type 0
AtGettingHome p cs l = (cs ≡ (take_page (scene p) p.page, call.Given l) ∷ []) × (p.applied ≡ 0) × Quiet p

abbrev AtReceiving : Paging → Calls → Claim → Type 0
AtReceiving p cs l =
    (got : Option (List ℕ)) × HoldsNamed p.tree p.page got (Ok p.home)
    × (cs ≡ (GetHeld (page_name (scene p) p.page) l, call.Got got) ∷ (take_page (scene p) p.page, call.Given l) ∷ []) × (p.applied ≡ 0) × Quiet p

-- this link leads on from the last right page that was visited
abbrev OnTheWay : Paging → Option Link → Calls → Claim → Type 0
OnTheWay p link cs l = (visits : List Visit) × MiddleOf p l visits cs × LeadsOn (scene p) visits link × Quiet p

abbrev AtGettingRight : Paging → Calls → Claim → Claim → Type 0
AtGettingRight p cs l r =
    (visits : List Visit) × ((rest : Calls) × MiddleOf p l visits rest × LeadsOn (scene p) visits (Some p.at)
    × (cs ≡ (take_page (scene p) p.at.page, call.Given r) ∷ rest) × Quiet p)

abbrev AtPuttingRight : Paging → Calls → Claim → Claim → Type 0
AtPuttingRight p cs l r =
    (visits : List Visit) × ((rest : Calls) × ((leaf : Leaf) × MiddleOf p l visits rest × LeadsOn (scene p) visits (Some p.at)
    × At (scene p) p.at p.onward r leaf rest cs × PutsLacked (scene p) leaf (Some p.out) × (p.applying ≡ lacked_by (scene p) leaf) × Quiet p))

abbrev AtReleasingRight : Paging → Calls → Claim → Claim → Type 0
AtReleasingRight p cs l r =
    (visits : List Visit) × ((rest : Calls) × ((leaf : Leaf) × ((before : Calls) × ((out : Option (List ℕ)) × ((n : ℕ)
    × Middle (scene p) p.received p.deletions n l visits rest × LeadsOn (scene p) visits (Some p.at)
    × At (scene p) p.at p.onward r leaf rest before × (cs ≡ put_over out (right_put (scene p) l p.at.page r) before)
    × PutsLacked (scene p) leaf out × (p.applied ≡ n + length (lacked_by (scene p) leaf)) × Quiet p)))))

abbrev AtPuttingHome : Paging → Calls → Claim → Type 0
AtPuttingHome p cs l =
    (visits : List Visit) × MiddleOf p l visits cs × LeadsOn (scene p) visits None × IsLeaf p.out (applied_to (scene p) p.home)
    × (p.applying ≡ lacked_by (scene p) p.home) × Quiet p

abbrev AtReleasing : Option Trouble → Paging → Calls → Option Claim → Option Claim → Type 0
AtReleasing (Some t) p cs first second = Unit {0}
AtReleasing None p cs first second = WithHome (λ l. LateOf p cs l × (p.deletions.ids ≡ [])) first second

abbrev pub KnowsAt : Stage → Paging → Option Claim → Option Claim → Calls → Type 0
KnowsAt TakingHome p first second cs = (cs ≡ []) × (p.applied ≡ 0) × Quiet p
KnowsAt GettingHome p first second cs = WithHome (AtGettingHome p cs) first second
KnowsAt Receiving p first second cs = WithHome (AtReceiving p cs) first second
KnowsAt TakingRight p first second cs = WithHome (OnTheWay p (Some p.at) cs) first second
KnowsAt GettingRight p first second cs = WithBoth (AtGettingRight p cs) first second
KnowsAt PuttingRight p first second cs = WithBoth (AtPuttingRight p cs) first second
KnowsAt ReleasingRight p first second cs = WithBoth (AtReleasingRight p cs) first second
KnowsAt PuttingHome p first second cs = WithHome (AtPuttingHome p cs) first second
KnowsAt DeletingNext p first second cs = WithHome (λ l. LateOf p cs l × HasIds p.deletions.ids × Quiet p) first second
KnowsAt Releasing p first second cs = AtReleasing p.trouble p cs first second
KnowsAt Finished p first second cs = ⊥

abbrev pub Knows : Paging → Calls → Type 0
Knows p cs = KnowsAt p.stage p p.held.first p.held.second cs

-- where a step goes on it knows the calls so far, or it ends by this call after the others
abbrev pub NextKnows : Calls → Ask → Answer → Step → Type 0
NextKnows cs ask a (Goes n) = Knows n ((ask, a) ∷ cs)
NextKnows cs ask a (Ends n x) = (l : Claim) × LateOf n cs l × (n.deletions.ids ≡ []) × (ask ≡ Release l) × (x ≡ answer_of n)
NextKnows cs ask a (Stops n t) = Unit {0}

map_home : (F G : Claim → Type 0) (first second : Option Claim) → ((l : Claim) → F l → G l) → WithHome F first second → WithHome G first second
map_home F G (Some l) None f k = f l k
map_home F G (Some l) (Some r) f k = absurd k
map_home F G None second f k = absurd k

-- one more call, before others that are known
over : (ask : Ask) (a : Answer) (cs known : Calls) → cs ≡ known → (ask, a) ∷ cs ≡ (ask, a) ∷ known
over ask a cs known e = ap (λ (xs : Calls). (ask, a) ∷ xs) e

-- ---- the opening

-- what an intake is
pub record Taking (cursor : List (ℕ × ℕ)) (ms : List Message) (i : Intake) : Type 0 where
  pub items : List PuItem
  pub read : items_of ms ≡ Ok items
  pub run : IsRun cursor items i.run.items i.run.top
  pub ids : i.deletions ≡ to_delete (covered_ids i.run.top items)

takes : (q : QueueName) (cursor : List (ℕ × ℕ)) (ms : List Message) (read : Result (List PuItem) Message) (i : Intake) → items_of ms ≡ read
    → TakesItems q cursor read (Ok i) → Taking cursor ms i
takes q cursor ms (Err m) i e h = absurd (cc (h))
takes q cursor ms (Ok items) i e h =
    let same : i ≡ intake_of items h.0 = cc (h.2) in
    subst (λ (j : Intake). Taking cursor ms j) (sym same) (record { items = items; read = e; run = h.1; ids = refl })

-- the calls up to the receive
record OpensPage (p : Paging) (l : Claim) (ms : List Message) (i : Intake) (cs : Calls) : Type 0 where
  opening : Opening
  opened : IsOpened (scene (with_intake (noted p ms) i)) (ids_of ms) opening
  calls : (Receive (scene_queue (scene p)) 256, call.Received ms) ∷ cs ≡ opening_calls (scene p) l opening
  ids : i.deletions ≡ to_delete (covered_ids i.run.top opening.items)

opens : (p : Paging) (l : Claim) (ms : List Message) (i : Intake) (cs : Calls) → AreRead p ms (Ok i) → AtReceiving p cs l → OpensPage p l ms i cs
opens p l ms i cs read k =
    let taking : Taking read.cursor ms i = takes (own_queue p) read.cursor ms (items_of ms) i refl read.takes in
    record {
      opening = record { got = k.0; messages = ms; items = taking.items; cursor = read.cursor };
      opened = record { home = k.1; told = refl; read = taking.read; own = read.own; run = taking.run };
      calls = over (Receive (scene_queue (scene p)) 256) (call.Received ms) cs _ k.2;
      ids = taking.ids;
    }

-- ---- right pages

none_length : (xs : List PuItem) → has_items xs ≡ false → length xs ≡ 0
none_length [] e = refl
none_length (x ∷ xs) e = absurd (cc (e))

at_right : (p : Paging) (r : Claim) (got : Option (List ℕ)) (leaf : Leaf) (rest cs : Calls) → HoldsLinked p.tree p.at.page p.at.low got (Ok leaf)
    → cs ≡ (take_page (scene p) p.at.page, call.Given r) ∷ rest
    → At (scene p) p.at (link_of leaf p.run.items) r leaf rest ((GetHeld (page_name (scene p) p.at.page) r, call.Got got) ∷ cs)
at_right p r got leaf rest cs holds calls =
    record { got = got; holds = holds; calls = over (GetHeld (page_name (scene p) p.at.page) r) (call.Got got) cs _ calls; leads = refl }

released_knows : (p : Paging) (l r : Claim) (a : Answer) (cs : Calls) → AtReleasingRight p cs l r → OnTheWay p p.onward ((Release r, a) ∷ cs) l
released_knows p l r a cs (visits, (rest, (leaf, (before, (out, (n, mid, leads, at, calls, puts, count, quiet)))))) =
    let whole : before ≡ (GetHeld (page_name (scene p) p.at.page) r, call.Got at.got) ∷ (take_page (scene p) p.at.page, call.Given r) ∷ visits_over (scene p) l visits (opening_calls (scene p) l mid.opening) =
    at.calls ∙ ap (λ (xs : Calls). (GetHeld (page_name (scene p) p.at.page) r, call.Got at.got) ∷ (take_page (scene p) p.at.page, call.Given r) ∷ xs) mid.calls in
    let v : Visit = record { link = p.at; lease = r; got = at.got; leaf = leaf; out = out; freed = a } in
    let more : MiddleOf p l (v ∷ visits) ((Release r, a) ∷ cs) = record {
      opening = mid.opening;
      opened = mid.opened;
      some = mid.some;
      calls = over (Release r) a cs _ (calls ∙ ap (put_over out (right_put (scene p) l p.at.page r)) whole);
      count = count ∙ ap (λ (m : ℕ). m + length (lacked_by (scene p) leaf)) mid.count;
      ids = mid.ids;
    } in
    (v ∷ visits, more, (takes_link leaf p.run.items p.onward at.leads, record { holds = at.holds; puts = puts }, leads), quiet)

onward_knows : {p q : Paging} {a : Answer} {o : Option Link} (cs : Calls) → Knows p cs → Onward p a q o
    → WithHome (OnTheWay q o ((paging_ask p, a) ∷ cs)) q.held.first q.held.second
onward_knows cs k (step.with_run p (Some l) None ms i read some) =
    let opened : OpensPage p l ms i cs = opens p l ms i cs read k in
    ([], record { opening = opened.opening; opened = opened.opened; some = some; calls = opened.calls; count = k.3; ids = opened.ids }, link_taken p.home i.run.items, k.4)
onward_knows cs k (step.from_right p (Some l) (Some r) a) = released_knows p l r a cs k
onward_knows cs k on = absurd k

-- ---- the page itself and the deletions

home_put_late : (p : Paging) (l : Claim) (cs : Calls) → AtPuttingHome p cs l
    → Late (scene p) p.received p.deletions (p.applied + length p.applying) l ((home_put (scene p) l p.out, call.Done) ∷ cs)
home_put_late p l cs (visits, mid, leads, is, applying, quiet) = record {
  opening = mid.opening;
  opened = mid.opened;
  visits = visits;
  out = Some p.out;
  works = (mid.some, leads, is);
  tries = [];
  calls = over (home_put (scene p) l p.out) call.Done cs _ mid.calls;
  covered = ap (λ (d : Deleting). d.ids) mid.ids;
  count = ap (λ (xs : List PuItem). p.applied + length xs) applying ∙ ap (λ (m : ℕ). m + length (lacked_by (scene p) p.home)) mid.count;
  deleted = ap (λ (d : Deleting). d.deleted) mid.ids;
  left = ap (λ (d : Deleting). d.left) mid.ids;
}

tried_late : (p : Paging) (l : Claim) (ids : List ℕ) (deleted left : ℕ) (a : Answer) (b : Bool) (cs : Calls) → HasIds ids → went (done_of a) ≡ b
    → Late (scene p) p.received (record { ids = ids; deleted = deleted; left = left }) p.applied l cs
    → Late (scene p) p.received (tried (record { ids = ids; deleted = deleted; left = left }) b) p.applied l ((delete_next p (next_id ids), a) ∷ cs)
tried_late p l [] deleted left a b cs has e late = absurd has
tried_late p l (id ∷ ids) deleted left a true cs has e late = record {
  opening = late.opening;
  opened = late.opened;
  visits = late.visits;
  out = late.out;
  works = late.works;
  tries = (id, a) ∷ late.tries;
  calls = over (Delete (scene_queue (scene p)) id) a cs _ late.calls;
  covered = late.covered;
  count = late.count;
  deleted = subst (λ (w : Bool). deleted + 1 ≡ one_more w (went_count late.tries)) (sym e) (ap (λ (m : ℕ). m + 1) late.deleted);
  left = subst (λ (w : Bool). left ≡ one_less w (failed_count late.tries)) (sym e) late.left;
}
tried_late p l (id ∷ ids) deleted left a false cs has e late = record {
  opening = late.opening;
  opened = late.opened;
  visits = late.visits;
  out = late.out;
  works = late.works;
  tries = (id, a) ∷ late.tries;
  calls = over (Delete (scene_queue (scene p)) id) a cs _ late.calls;
  covered = late.covered;
  count = late.count;
  deleted = subst (λ (w : Bool). deleted ≡ one_more w (went_count late.tries)) (sym e) late.deleted;
  left = subst (λ (w : Bool). left + 1 ≡ one_less w (failed_count late.tries)) (sym e) (ap (λ (m : ℕ). m + 1) late.left);
}

clears_knows : {p q : Paging} {a : Answer} (cs : Calls) → Knows p cs → Clears p a q
    → WithHome (λ l. LateOf q ((paging_ask p, a) ∷ cs) l × Quiet q) q.held.first q.held.second
clears_knows cs k (step.no_run p (Some l) None ms i read none) =
    let opened : OpensPage p l ms i cs = opens p l ms i cs read k in (
      record {
        opening = opened.opening;
        opened = opened.opened;
        visits = [];
        out = None;
        works = (none, refl);
        tries = [];
        calls = opened.calls;
        covered = ap (λ (d : Deleting). d.ids) opened.ids;
        count = k.3;
        deleted = ap (λ (d : Deleting). d.deleted) opened.ids;
        left = ap (λ (d : Deleting). d.left) opened.ids;
      },
      k.4,
    )
clears_knows cs k (step.home_put p (Some l) None) = (home_put_late p l cs k, k.5)
clears_knows cs k (step.one_tried p (Some l) None a) =
    (tried_late (leased p DeletingNext (Some l) None) l p.deletions.ids p.deletions.deleted p.deletions.left a (went (done_of a)) cs k.1 refl k.0, k.2)
clears_knows cs k c = absurd k

has_ids : (ids : List ℕ) (id : ℕ) → next_id ids ≡ Some id → HasIds ids
has_ids [] id e = absurd (cc (e))
has_ids (x ∷ ids) id e = tt

no_ids : (ids : List ℕ) → next_id ids ≡ None → ids ≡ []
no_ids [] e = refl
no_ids (x ∷ ids) e = absurd (cc (e))

-- all was done, and the leases are given back
rests_knows : (q : Paging) (first second : Option Claim) (cs : Calls) → next_id q.deletions.ids ≡ None → WithHome (λ l. LateOf q cs l × Quiet q) first second
    → AtReleasing q.trouble (record q { stage = Releasing }) cs first second
rests_knows q (Some l) None cs none k = subst (λ (t : Option Trouble). AtReleasing t (record q { stage = Releasing }) cs (Some l) None) (sym k.1) (k.0, no_ids q.deletions.ids none)
rests_knows q (Some l) (Some r) cs none k = absurd k
rests_knows q None second cs none k = absurd k

-- a second lease is held only where a trouble is kept
gives_back_knows : (p n : Paging) (t : Option Trouble) (l r : Claim) (cs more : Calls) → AtReleasing t p cs (Some l) (Some r) → AtReleasing t n more (Some l) None
gives_back_knows p n (Some t) l r cs more k = tt
gives_back_knows p n None l r cs more k = absurd k

ends_knows : (p : Paging) (first second : Option Claim) (a : Answer) (cs : Calls) → IsLast first second → AtReleasing None p cs first second
    → NextKnows cs (paging_ask (leased p Releasing first second)) a (Ends (leased p Finished None None) (answer_of p))
ends_knows p (Some l) None a cs last k = (l, k.0, k.1, refl, refl)
ends_knows p (Some l) (Some r) a cs last k = absurd last
ends_knows p None second a cs last k = absurd k

-- ---- a step

knows_after : {p : Paging} {a : Answer} {next : Step} (cs : Calls) → Comes p a next → Knows p cs → NextKnows cs (paging_ask p) a next
knows_after cs (step.takes_home p first second l) k = (over (take_page (scene p) p.page) (call.Given l) cs _ k.0, k.1, k.2)
knows_after cs (step.refused p first second a t e) k = tt
knows_after cs (step.stops q t f) k = tt
knows_after cs (step.reads_home p (Some l) None got home holds) k = (got, holds, over (GetHeld (page_name (scene p) p.page) l) (call.Got got) cs _ k.0, k.1, k.2)
knows_after cs (step.turns q link on new) k = onward_knows cs k on
knows_after cs (step.takes_right p (Some l) None r) k = (k.0, (cs, k.1, k.2, refl, k.3))
knows_after cs (step.puts_right p (Some l) (Some r) got leaf out holds some fresh is) (visits, (rest, mid, leads, calls, quiet)) =
    (visits, (rest, (leaf, mid, leads, at_right p r got leaf rest cs holds calls, (some, is), refl, quiet)))
knows_after cs (step.leaves_right p (Some l) (Some r) got leaf holds none) (visits, (rest, mid, leads, calls, quiet)) =
    let count : p.applied ≡ p.applied + length (lacked_by (scene p) leaf) = omega (arith, none_length (lacked_by (scene p) leaf) none) in
    (visits, (rest, (leaf, (_, (None, (p.applied, mid, leads, at_right p r got leaf rest cs holds calls, refl, none, count, quiet))))))
knows_after cs (step.right_put p (Some l) (Some r)) (visits, (rest, (leaf, mid, leads, at, puts, applying, quiet))) =
    (visits, (rest, (leaf, (cs, (Some p.out, (p.applied, mid, leads, at, refl, puts, ap (λ (xs : List PuItem). p.applied + length xs) applying, quiet))))))
knows_after {p = p} {a = a} cs (step.puts_home q out on fresh is) k =
    map_home (OnTheWay q None ((paging_ask p, a) ∷ cs)) (AtPuttingHome (record q { applying = _; out = out }) ((paging_ask p, a) ∷ cs)) q.held.first q.held.second
    (λ l way. (way.0, way.1, way.2, is, refl, way.3)) (onward_knows cs k on)
knows_after {p = p} {a = a} cs (step.deletes q id c some) k =
    map_home (λ l. LateOf q ((paging_ask p, a) ∷ cs) l × Quiet q) (λ l. LateOf q ((paging_ask p, a) ∷ cs) l × HasIds q.deletions.ids × Quiet q) q.held.first q.held.second
    (λ l late. (late.0, has_ids q.deletions.ids id some, late.1)) (clears_knows cs k c)
knows_after {p = p} {a = a} cs (step.rests q c none) k = rests_knows q q.held.first q.held.second ((paging_ask p, a) ∷ cs) none (clears_knows cs k c)
knows_after {p = from} cs (step.gives_back p l r a) k = gives_back_knows from (leased p Releasing (Some l) None) p.trouble l r cs _ k
knows_after {p = from} cs (step.ends p first second a last none) k =
    ends_knows p first second a cs last (subst (λ (t : Option Trouble). AtReleasing t from cs first second) none k)
knows_after cs (step.stopped p first second a t last kept) k = tt
knows_after cs (step.nothing p first second a) k = tt
knows_after cs c k = absurd k

step_knows : (p : Paging) (cs : Calls) (a : Answer) (next : Step) → Knows p cs → PagingLeads p a next → NextKnows cs (paging_ask p) a next
step_knows p cs a next k leads = knows_after cs (comes p a next leads) k

-- ---- histories

came_knows : (tree page : ℕ) (h : List Deed) (p : Paging) → Came paging_ask PagingLeads (new_paging tree page) h p → Knows p (calls_of h)
came_knows tree page [] p came = subst (λ (q : Paging). Knows q []) (sym came) (refl, refl, refl)
came_knows tree page (d ∷ h) p came =
    let from : Paging = came.0 in
    let before : Knows from (calls_of h) = came_knows tree page h from came.1 in
    let after : Knows p ((paging_ask from, d.answer) ∷ calls_of h) = step_knows from (calls_of h) d.answer (Goes p) before came.4 in
    subst (λ (ask : Ask). Knows p ((ask, d.answer) ∷ calls_of h)) (sym came.2) after

pub went_knows : (p : Paging) (h : List Deed) → Went h p → Knows p (calls_of h)
went_knows p h came = came_knows p.tree p.page h p came

-- ---- an end

answer_is : (a b c d e f : ℕ) → a ≡ d → b ≡ e → c ≡ f → ◌≡◌ {A = CkptAnswer} (record { applied = a; deleted = b; left = c }) (record { applied = d; deleted = e; left = f })
answer_is a b c d e f p q r =
    ap (λ (n : ℕ). record { applied = n; deleted = b; left = c }) p
    ∙ (ap (λ (n : ℕ). record { applied = d; deleted = n; left = c }) q ∙ ap (λ (n : ℕ). record { applied = d; deleted = e; left = n }) r)

ends_done : (ask : Ask) (n : Paging) (h : List Deed) (a : Answer) (x : CkptAnswer) → NextKnows (calls_of h) ask a (Ends n x) → IsDone ask n h x
ends_done ask n h a x k =
    let late : LateOf n (calls_of h) k.0 = k.1 in
    record {
      lease = k.0;
      opening = late.opening;
      opened = late.opened;
      visits = late.visits;
      out = late.out;
      works = late.works;
      tried = late.tries;
      calls = late.calls;
      last = k.3;
      covered = subst (λ (ids : List ℕ). tried_before late.tries ids ≡ covered_ids n.run.top late.opening.items) k.2 late.covered;
      answers = k.4 ∙ answer_is n.applied n.deletions.deleted n.deletions.left (applied_count (scene n) late.visits late.out) (went_count late.tries) (failed_count late.tries) late.count late.deleted late.left;
    }

pub knows_done : (old new : Paging) (h : List Deed) (a : Answer) (turn : Turn CkptAnswer) → Knows old (calls_of h)
    → Took PagingLeads KeepsLeases old a new turn → MeansDone (paging_ask old) new h turn
knows_done old new h a More k took = tt
knows_done old new h a (Ended x) k took = ends_done (paging_ask old) new h a x (step_knows old (calls_of h) a (Ends new x) k took)
knows_done old new h a (Stopped t) k took = tt

-- ---- the leaves in hand were brought by gets

put_later : (tree page : ℕ) (got : Option (List ℕ)) (s : Scene) (home right : Claim) (at : ℕ) (out : Option (List ℕ)) (cs : Calls) → WasGot tree page got cs
    → WasGot tree page got (put_over out (right_put s home at right) cs)
put_later tree page got s home right at (Some out) cs k = inr k
put_later tree page got s home right at None cs k = k

visits_later : (tree page : ℕ) (got : Option (List ℕ)) (s : Scene) (home : Claim) (vs : List Visit) (cs : Calls) → WasGot tree page got cs
    → WasGot tree page got (visits_over s home vs cs)
visits_later tree page got s home [] cs k = k
visits_later tree page got s home (v ∷ vs) cs k =
    inr (put_later tree page got s home v.lease v.link.page v.out _ (inr (inr (visits_later tree page got s home vs cs k))))

received_brought : (p : Paging) (first second : Option Claim) (cs : Calls) → KnowsAt Receiving p first second cs → HomeWasGot p cs
received_brought p (Some l) None cs k = (k.0, subst (WasGot p.tree p.page k.0) (sym k.2) (inl (l, refl)), k.1)
received_brought p (Some l) (Some r) cs k = absurd k
received_brought p None second cs k = absurd k

released_brought : (p : Paging) (first second : Option Claim) (cs : Calls) → KnowsAt ReleasingRight p first second cs → HomeWasGot p cs × OnwardWasGot p cs
released_brought p (Some l) (Some r) cs (visits, (rest, (leaf, (before, (out, (n, middle, on, at, calls, puts, count, none)))))) =
    let home : WasGot p.tree p.page middle.opening.got rest =
    subst (WasGot p.tree p.page middle.opening.got) (sym middle.calls) (visits_later p.tree p.page middle.opening.got (scene p) l visits _ (inr (inl (l, refl)))) in
    let home_before : WasGot p.tree p.page middle.opening.got before = subst (WasGot p.tree p.page middle.opening.got) (sym at.calls) (inr (inr home)) in
    let home_now : WasGot p.tree p.page middle.opening.got cs =
    subst (WasGot p.tree p.page middle.opening.got) (sym calls) (put_later p.tree p.page middle.opening.got (scene p) l r p.at.page out before home_before) in
    let right_before : WasGot p.tree p.at.page at.got before = subst (WasGot p.tree p.at.page at.got) (sym at.calls) (inl (r, refl)) in
    let right_now : WasGot p.tree p.at.page at.got cs =
    subst (WasGot p.tree p.at.page at.got) (sym calls) (put_later p.tree p.at.page at.got (scene p) l r p.at.page out before right_before) in
    ((middle.opening.got, home_now, middle.opened.home), (at.got, (leaf, right_now, at.holds, takes_link leaf p.run.items p.onward at.leads)))
released_brought p (Some l) None cs k = absurd k
released_brought p None second cs k = absurd k

pub knows_brought : (p : Paging) (cs : Calls) → Knows p cs → WasBrought p cs
knows_brought p cs k = (
  λ e. received_brought p p.held.first p.held.second cs (subst (λ (s : Stage). KnowsAt s p p.held.first p.held.second cs) e k),
  λ e. released_brought p p.held.first p.held.second cs (subst (λ (s : Stage). KnowsAt s p p.held.first p.held.second cs) e k),
)

-- The checkpoint of a page runs whole within a settling: it marks what it received, makes few calls, and no right page changes.
use Rattle.std.proofs.Common.{◌≡◌, ◌+◌, ◌*◌, ◌<◌, ◌≤◌, ◌⊎◌, inl, inr, ℕ, Bool, true, false, cond, List, [], ◌∷◌, ◌++◌, length, map, filter, Option, Some, None, Ok, refl, sym, ap, subst, ◌∙◌, arith, mul-add, mul-le-mul_right}
use Rattle.std.proofs.lemmas.Bool.{cases_lt}
use Rattle.std.proofs.lemmas.List.{length-map, nil_from_length}
use Rattle.std.proofs.lemmas.List.Sums.{length-filter, count_by-le-length}
use Rattle.ckpt_parts.specs.Intakes.{has_items, items_of}
use Rattle.cloud_facts.proofs.Chains.Pieces.{none_in}
use Rattle.cloud_facts.specs.Words.{IsTree, PuItem, Answer, Claim, Ask, Goes, Ends, Deed, calls_of, done_of, Link, Store, IsIn}
use Rattle.cloud_facts.specs.Book.Growth.{Grows}
use Rattle.cloud_trait.specs.declared.message.Message.{Message}
use Rattle.page_ckpt.proofs.Meaning.{KnowsAt, Knows, went_knows}
use Rattle.page_ckpt.proofs.Leases.{went_stands, stands_few}
use Rattle.page_ckpt.specs.Meaning.{Calls, Scene, Opening, Visit, Works, Tried, scene, tried_before, one_more, one_less, went_count, failed_count, deletes_over, main_calls}
use Rattle.page_ckpt.specs.Paging.{Paging, new_paging, went}
use Rattle.page_ckpt.specs.Leases.{tries}
use Rattle.page_ckpt.specs.declared.stage.Stage.{Stage}
use Rattle.page_ckpt.specs.declared.stage.Stage.TheVariants.{TakingRight, Releasing}
use Rattle.run_cursor.specs.Covered.{is_covered, is_seen, new_ones, covered_ids}
use Rattle.run_cursor.specs.Run.{IsRun}
use Rattle.session_facts.proofs.Machines.Runs.Taken.{run_in}
use Rattle.session_facts.proofs.Settling.Distinct.{distinct_none}
use Rattle.session_facts.proofs.Settling.Drains.{item_ids}
use Rattle.session_facts.proofs.Settling.Pages.Drains.{ending, story, turn, known, went as went_there, done, page_drains, right_read, same_rights}
use Rattle.session_facts.proofs.Settling.Pages.Stories.{GoesFrom, goes_from, turn_page}
use Rattle.session_facts.proofs.Settling.Pages.Visits.{Visits, step_visits, came_apart}
use Rattle.session_facts.proofs.Settling.Trees.Lists.{pages_fit}
use Rattle.session_facts.proofs.Settling.Trees.Receives.{covered_fits}
use Rattle.session_facts.specs.Machines.TreeCheckpoints.Few.{distinct, next_page, IsFew}
use Rattle.session_facts.specs.Machines.PageCheckpoints.Knows.{KnowsPagingAt}
use Rattle.session_facts.specs.Settling.Runs.{PagesRun}
use Rattle.session_facts.specs.Settling.Story.{Moment, store_at, IsTurn, PartStory, PartRan}
use Rattle.session_facts.specs.Machines.Settlings.Knows.{MakesPage}
use Rattle.settle_run.specs.declared.part.Part.{Part}
use Rattle.settle_run.specs.declared.part.Part.TheVariants.{Page}
use Rattle.cloud_facts.proofs.Orders.Filters.{nothing_in}

-- ---- the right pages that it came to are of the leaf chain

abbrev HasLink : Store → ℕ → ℕ → Type 0
HasLink st tree page = (l : Link) × IsIn (st.book.chain tree 0) l × (l.page ≡ page)

abbrev AreLinked : Store → ℕ → List ℕ → Type 0
AreLinked st tree pages = (page : ℕ) → IsIn pages page → HasLink st tree page

linked_on : (st su : Store) (tree : ℕ) (pages : List ℕ) → Grows st su → AreLinked st tree pages → AreLinked su tree pages
linked_on st su tree pages grows linked page is = let l = linked page is in (l.0, grows.links tree 0 l.0 l.1, l.2)

-- before a take of a right page's lock each is known
taking_linked : (d : Deed) (tree page : ℕ) (p : Paging) (from to : Moment) → IsTurn d (Page tree page p) from to → p.stage ≡ TakingRight → AreLinked (store_at from) tree p.visited
taking_linked d tree page p from to turning stage = subst (λ (k : ℕ). AreLinked (store_at from) k p.visited) k.tree_is (on (subst (λ (g : Stage). KnowsPagingAt g (store_at from) from.state.now p) stage k.knows.at))
  where
    k : MakesPage (store_at from) from.state.now tree page p (from.stand.parts 0)
    k = turn_page d tree page p from to turning

    on : KnowsPagingAt TakingRight (store_at from) from.state.now p → AreLinked (store_at from) p.tree p.visited
    on (has, comes) q is = let u = comes.behind q is in (u.link, u.linked, u.page_is)

story_linked : (first : Moment) (h : List Deed) (tree page : ℕ) (p : Paging) (now : Moment) → PartStory first h (Page tree page p) now
    → (p.stage ≡ TakingRight) ⊎ AreLinked (store_at now) tree p.visited
story_linked first [] tree page p now told =
    let begun : new_paging tree page ≡ p = cc (told.0) in
    inr (subst (λ (x : Paging). AreLinked (store_at now) tree x.visited) begun (λ q is. absurd (none_in q is)))
story_linked first (d ∷ h) tree page p now (from, (before, (told, turning, leads))) =
    on (step_visits f.was d.answer (Goes p) f.leads) (linked_before (story_linked first h tree page f.was before (subst (λ (w : Part). PartStory first h w before) f.is told)))
  where
    f : GoesFrom tree page from d.answer p
    f = goes_from tree page p from d.answer leads

    turned : IsTurn d (Page tree page f.was) before now
    turned = subst (λ (w : Part). IsTurn d w before now) f.is turning

    linked_before : (f.was.stage ≡ TakingRight) ⊎ AreLinked (store_at before) tree f.was.visited → AreLinked (store_at now) tree f.was.visited
    linked_before (inl stage) = linked_on (store_at before) (store_at now) tree f.was.visited turned.grows (taking_linked d tree page f.was before now turned stage)
    linked_before (inr linked) = linked_on (store_at before) (store_at now) tree f.was.visited turned.grows linked

    on : Visits f.was (Goes p) → AreLinked (store_at now) tree f.was.visited → (p.stage ≡ TakingRight) ⊎ AreLinked (store_at now) tree p.visited
    on (inl same) linked = inr (subst (AreLinked (store_at now) tree) (sym same) linked)
    on (inr more) linked = inl more.0

-- ---- as many deletions as messages at most

new_few : (seen ns : List ℕ) → length (new_ones seen ns) ≤ length ns
new_few seen [] = omega arith
new_few seen (n ∷ ns) = on (is_seen seen n) (new_few seen ns) (new_few (seen ++ n ∷ []) ns)
  where
    on : (b : Bool) → length (new_ones seen ns) ≤ length ns → length (new_ones (seen ++ n ∷ []) ns) ≤ length ns
        → length (cond b (new_ones seen ns) (n ∷ new_ones (seen ++ n ∷ []) ns)) ≤ length (n ∷ ns)
    on true one other = omega (arith, one)
    on false one other = omega (arith, other)

covered_few : (top : List (ℕ × ℕ)) (items : List PuItem) → length (covered_ids top items) ≤ length items
covered_few top items =
    let new = new_few [] (map (λ (x : PuItem). x.id) (filter (is_covered top) items)) in
    let ids = length-map (filter (is_covered top) items) (λ (x : PuItem). x.id) in
    let passed = length-filter (is_covered top) items in
    let few = count_by-le-length (is_covered top) items in
    omega (arith, new, ids, passed, few)

items_long : (ms : List Message) (items : List PuItem) → items_of ms ≡ Ok items → length items ≡ length ms
items_long ms items e = sym (length-map items (λ (x : PuItem). x.id)) ∙ (ap length (item_ids ms items e) ∙ length-map ms (λ (m : Message). m.id))

counted : (b : Bool) (n k : ℕ) → one_more b n + one_less b k ≡ n + k + 1
counted true n k = omega arith
counted false n k = omega arith

before_long : (ts : Tried) (ids : List ℕ) → length (tried_before ts ids) ≡ went_count ts + failed_count ts + length ids
before_long [] ids = omega arith
before_long (t ∷ ts) ids =
    let rest = before_long ts (t.0 ∷ ids) in
    let one = counted (went (done_of t.1)) (went_count ts) (failed_count ts) in
    omega (arith, rest, one)

deletes_long : (s : Scene) (ts : Tried) (rest : Calls) → length (deletes_over s ts rest) ≡ went_count ts + failed_count ts + length rest
deletes_long s [] rest = omega arith
deletes_long s (t ∷ ts) rest =
    let more = deletes_long s ts rest in
    let one = counted (went (done_of t.1)) (went_count ts) (failed_count ts) in
    omega (arith, more, one)

-- so many deletions were tried and are left, where the leases are given back and no trouble waits
tried_few : (p : Paging) (cs : Calls) → Knows p cs → p.stage ≡ Releasing → p.trouble ≡ None
    → tries p.deletions + length p.deletions.ids ≤ length (distinct p.received)
tried_few p cs knows stage none = on p.held.first p.held.second quiet
  where
    releasing : KnowsAt Releasing p p.held.first p.held.second cs
    releasing = subst (λ (g : Stage). KnowsAt g p p.held.first p.held.second cs) stage knows

    quiet : KnowsAt Releasing (record p { trouble = None }) p.held.first p.held.second cs
    quiet = subst (λ o. KnowsAt Releasing (record p { trouble = o }) p.held.first p.held.second cs) none releasing

    on : (first second : Option Claim) → KnowsAt Releasing (record p { trouble = None }) first second cs
        → tries p.deletions + length p.deletions.ids ≤ length (distinct p.received)
    on (Some l) None (late, all) =
        let long = before_long late.tries p.deletions.ids in
        let went_is = late.deleted in
        let left_is = late.left in
        let covered = ap length late.covered in
        let few = covered_fits late.opening.messages late.opening.items p.run.top late.opened.read in
        let told = ap (λ (ids : List ℕ). length (distinct ids)) late.opened.told in
        omega (arith, long, went_is, left_is, covered, few, told)
    on (Some l) (Some r) k = absurd k
    on None second k = absurd k

-- ---- where nothing was received

no_items : (items : List PuItem) → has_items items ≡ true → items ≡ [] → ⊥
no_items [] has none = cc (has)
no_items (x ∷ items) has none = cc (none)

main_short : (s : Scene) (lease : Claim) (o : Opening) (visits : List Visit) (out : Option (List ℕ)) → Works s visits out → s.run.items ≡ [] → length (main_calls s lease o visits out) ≡ 3
main_short s lease o visits (Some out) works none = absurd (no_items s.run.items works.0 none)
main_short s lease o visits None works none = subst (λ (vs : List Visit). length (main_calls s lease o vs None) ≡ 3) (sym works.1) refl

run_none : (cursor : List (ℕ × ℕ)) (items run : List PuItem) (top : List (ℕ × ℕ)) → IsRun cursor items run top → items ≡ [] → run ≡ []
run_none cursor items run top is_run none = nothing_in run (λ x is. none_in x (subst (λ (xs : List PuItem). IsIn xs x) none (run_in cursor items run top is_run x is)))

few_with : (calls d tried visits pages : ℕ) → calls ≤ 5 + tried + 4 * visits → tried ≤ d → visits ≤ pages → 1 ≤ d → calls ≤ 16 + d * (8 * pages + 16)
few_with calls d tried visits pages few most fits some =
    let split : d * (8 * pages + 16) ≡ d * (8 * pages) + d * 16 = mul-add d (8 * pages) 16 in
    let once : 1 * (8 * pages) ≤ d * (8 * pages) = mul-le-mul_right (8 * pages) some in
    omega (arith, few, most, fits, some, split, once)

-- ---- a whole run

module _ (tree page : ℕ) (m : Paging) (h : List Deed) (first last : Moment) (ran : PartRan (Page tree page m) h first last) where
  abbrev was : Paging
  was = (ending tree page m h first last ran).was

  over : Visits was (Ends m (ending tree page m h first last ran).answer)
  over = step_visits was ran.end.answer (Ends m (ending tree page m h first last ran).answer) (ending tree page m h first last ran).leads

  linked : AreLinked (store_at last) tree was.visited
  linked = on (story_linked first ran.earlier tree page was ran.before (story tree page m h first last ran))
    where
      not_both : was.stage ≡ Releasing → was.stage ≡ TakingRight → ⊥
      not_both e f = cc (e, f)

      on : (was.stage ≡ TakingRight) ⊎ AreLinked (store_at ran.before) tree was.visited → AreLinked (store_at last) tree was.visited
      on (inl stage) = absurd (not_both over.0 stage)
      on (inr there) = linked_on (store_at ran.before) (store_at last) tree was.visited (turn tree page m h first last ran).grows there

  visits_few : (pages : ℕ) → next_page last.state tree ≤ pages + 1 → length was.visited ≤ pages
  visits_few pages room =
      pages_fit was.visited pages (next_page last.state tree) (came_apart was.tree was.page ran.earlier was (went_there tree page m h first last ran)) within room
    where
      of_tree : IsTree tree
      of_tree = subst IsTree (known tree page m h first last ran).tree_is (known tree page m h first last ran).knows.tree

      within : (q : ℕ) → IsIn was.visited q → (1 ≤ q) × (q < next_page last.state tree)
      within q is =
          let l = linked q is in
          subst (λ (n : ℕ). (1 ≤ n) × (n < next_page last.state tree)) l.2 ((last.stand.cloud.holds.chains tree of_tree).pages.linked 0 l.0 l.1)

  calls_few : length h ≤ 5 + (tries was.deletions + length was.deletions.ids) + 4 * length was.visited
  calls_few =
      let few = stands_few was ran.earlier (went_stands was ran.earlier (went_there tree page m h first last ran)) in
      let long = ap length ran.is in
      omega (arith, few, long)

  deletions_few : tries was.deletions + length was.deletions.ids ≤ length (distinct m.received)
  deletions_few =
      let few = tried_few was (calls_of ran.earlier) (went_knows was ran.earlier (went_there tree page m h first last ran)) over.0 over.1 in
      let same = ap (λ (ids : List ℕ). length (distinct ids)) over.2 in
      omega (arith, few, same)

  none_few : length m.received ≡ 0 → length h ≡ 4
  none_few none =
      let d = done tree page m h first last ran in
      let told = ap length d.opened.told in
      let ids = length-map d.opening.messages (λ (x : Message). x.id) in
      let items = items_long d.opening.messages d.opening.items d.opened.read in
      let empty : d.opening.items ≡ [] = nil_from_length d.opening.items (omega (arith, told, ids, items, none)) in
      let main = main_short (scene m) d.lease d.opening d.visits d.out d.works (run_none d.opening.cursor d.opening.items m.run.items m.run.top d.opened.run empty) in
      let shape = ap length d.calls in
      let deletes = deletes_long (scene m) d.tried (main_calls (scene m) d.lease d.opening d.visits d.out) in
      let before = before_long d.tried [] in
      let covered = ap length d.covered in
      let few = covered_few m.run.top d.opening.items in
      let calls = length-map {B = Ask × Answer} ran.earlier (λ (x : Deed). (x.ask, x.answer)) in
      let long = ap length ran.is in
      omega (arith, none, told, ids, items, main, shape, deletes, before, covered, few, calls, long)

  is_few : IsFew (length h) m.received last.state tree
  is_few pages room = on (cases_lt 0 (length (distinct m.received)))
    where
      on : (0 < length (distinct m.received)) ⊎ (length (distinct m.received) ≤ 0) → length h ≤ 16 + length (distinct m.received) * (8 * pages + 16)
      on (inl some) =
          few_with (length h) (length (distinct m.received)) (tries was.deletions + length was.deletions.ids) (length was.visited) pages calls_few deletions_few
          (visits_few pages room) (omega (arith, some))
      on (inr none) = let four = none_few (distinct_none m.received (omega (arith, none))) in omega (arith, four)

pub pages_run : PagesRun
pages_run tree page m h first last ran = record {
  drains = λ well. page_drains tree page m h first last ran well;
  few = λ calm had. is_few tree page m h first last ran;
  right = right_read tree page m h first last ran;
  rights = same_rights tree page m h first last ran;
}

-- A page's checkpoint that is done, of any session and with nobody else at work, marks just what it received; where at most 256 waited it leaves none.
use Rattle.std.proofs.Common.{◌≡◌, ◌≤◌, ℕ, List, [], ◌∷◌, ◌++◌, length, Ok, sym, ap, subst, ◌∙◌, arith}
use Rattle.std.specs.List.{AllByRecursion}
use Rattle.ckpt_parts.specs.Intakes.{ids_of}
use Rattle.cloud_facts.specs.Words.{IsClient, IsTree, QueueName, Leaf, Ended, Posted, CloudState, called, Ask, Release, Ends, Deed, Store, IsIn, nodes_of, IsCall}
use Rattle.cloud_facts.specs.Book.Telling.{leaf_in, queue_of}
use Rattle.cloud_trait.proofs.RowLemmas.{row_messages}
use Rattle.cloud_trait.specs.Delivery.{unmarked, WasSent, IsDelivering}
use Rattle.cloud_trait.specs.declared.message.Message.{Message}
use Rattle.cloud_trait.specs.declared.turn.CkptAnswer.{CkptAnswer}
use Rattle.db_base.specs.Cursor.{number_of}
use Rattle.db_base.specs.Ids.{IsPage}
use Rattle.db_base.specs.declared.names.Lock.TheVariants as lock
use Rattle.db_base.specs.declared.names.ObjName.TheVariants as object
use Rattle.db_base.specs.declared.names.QueueName.TheVariants as queue
use Rattle.leaf_view.specs.Lookup.{number_of as done_number}
use Rattle.page_ckpt.proofs.Meaning.{went_knows, knows_done}
use Rattle.page_ckpt.specs.Meaning.{scene, opening_calls, failed_count, main_calls, IsDone}
use Rattle.page_ckpt.specs.Paging.{Paging, paging_ask, PagingLeads}
use Rattle.page_ckpt.specs.Leases.{Went}
use Rattle.session_facts.proofs.Machines.PageCheckpoints.Reads.{named_is}
use Rattle.session_facts.proofs.Machines.Runs.Leaves.{own_cursor, own_queue}
use Rattle.session_facts.proofs.Settling.Drains.{left_by, marked_over, waiting_over, left_count, left_kept, all_covered, covered_received}
use Rattle.session_facts.proofs.Settling.Pages.Calls.{uptake, IsOver, main_quiet, ids_tried, deletes_done, ids_there, ids_only, OpensQueue, opens}
use Rattle.session_facts.proofs.Settling.Trees.Emptied.{drained}
use Rattle.session_facts.proofs.Settling.Trails.{Calls, AreQuiet, IsBetween, Trail, between_call, deletions_of, Splits, splits, trail_messages, trail_deletes}
use Rattle.session_facts.specs.Machines.PageCheckpoints.Rights.{IsNewestLeaf}
use Rattle.session_facts.specs.Settling.Runs.{AreDelivered, Drains, waiting}
use Rattle.session_facts.specs.Settling.Story.{Moment, store_at}

delivered_part : (xs ys : List Deed) → AreDelivered (xs ++ ys) → AreDelivered ys
delivered_part [] ys well = well
delivered_part (d ∷ xs) ys well = delivered_part xs ys well.1

module _ (first : Moment) (was m : Paging) (earlier : List Deed) (end : Deed) (answer : CkptAnswer) (before last : CloudState) (went : Went earlier was)
    (trail : Trail earlier first.state before) (turn : IsBetween end before last) (asked : end.ask ≡ paging_ask was)
    (leads : PagingLeads was end.answer (Ends m answer)) (none : answer.left ≡ 0) (of_tree : IsTree m.tree) (of_page : IsPage m.page) where
  done : IsDone (paging_ask was) m earlier answer
  done = knows_done was m earlier end.answer (Ended answer) (went_knows was earlier went) leads

  none_failed : failed_count done.tried ≡ 0
  none_failed = sym (ap (λ (x : CkptAnswer). x.left) done.answers) ∙ none

  -- ---- its calls, in three parts

  abbrev q : QueueName
  q = queue.PagePu m.tree m.page

  abbrev ids : List ℕ
  ids = ids_tried done.tried

  abbrev main : Calls
  main = main_calls (scene m) done.lease done.opening done.visits done.out

  abbrev messages : List Message
  messages = (done.opening).messages

  over : IsOver main (opening_calls (scene m) done.lease done.opening)
  over = main_quiet (scene m) done.lease done.opening done.visits done.out

  late : Splits earlier (deletions_of q ids) main first.state before
  late =
      splits earlier (deletions_of q ids) main first.state before trail
      (done.calls ∙ deletes_done (scene m) done.tried main none_failed)

  early : Splits late.before over.0 (opening_calls (scene m) done.lease done.opening) first.state late.mid
  early = splits late.before over.0 (opening_calls (scene m) done.lease done.opening) first.state late.mid late.first (late.earlier_are ∙ over.1)

  opened : OpensQueue (uptake q 256 (object.Page m.tree m.page) messages (done.opening).got) early.before first.state early.mid
  opened =
      opens q 256 (object.Page m.tree m.page) messages (done.opening).got done.lease (lock.Page m.tree m.page) 30 early.before first.state early.mid early.first early.earlier_are

  -- ---- the messages

  before_deleting : late.mid.messages ≡ first.state.messages
  before_deleting = trail_messages early.behind early.mid late.mid early.second (subst AreQuiet (sym early.later_are) over.2) ∙ opened.messages

  release : IsCall end.who (Release done.lease) end.answer before last
  release =
      subst (λ (ask : Ask). IsCall end.who ask end.answer before last) done.last (subst (λ (ask : Ask). IsCall end.who ask end.answer before last) asked (between_call end before last turn))

  at_last : last.messages q ≡ marked_over (first.state.messages q) ids
  at_last =
      ap (λ (f : QueueName → List Posted). f q)
      (row_messages end.who (Release done.lease) end.answer release.before release.after (called end.who last.now before) last release.row tt)
      ∙ (trail_deletes q ids late.behind late.mid before late.second late.later_are ∙ ap (λ (f : QueueName → List Posted). marked_over (f q) ids) before_deleting)

  delivered : AreDelivered (end ∷ earlier) → IsDelivering (first.state.messages q) 256 messages
  delivered well =
      opened.delivers
      (delivered_part early.behind early.before
      (subst AreDelivered early.all (delivered_part late.behind late.before (subst AreDelivered late.all well.1))))

  -- ---- the page

  -- its newest version at the begin is the leaf that was read
  pub home_newest : IsNewestLeaf (nodes_of first.state m.tree) m.page m.home
  home_newest =
      named_is first.book first.order first.state first.stand.cloud m.tree of_tree m.page (done.opening).got (Ok m.home) (sym opened.seen) (done.opened).home

  -- ---- what the run covers

  abbrev st : Store
  st = store_at first

  behind : (client : ℕ) → IsClient client → st.tally.cursor m.tree m.page client ≤ number_of (done.opening).cursor client
  behind client is =
      let own = own_cursor first.state m.tree m.page client of_page in
      let home = ap (λ (l : Leaf). done_number l.done m.page client) (ap leaf_in home_newest.is) in
      let read = ((done.opened).own).each client in
      omega (arith, own, home, read)

  queue_is : queue_of m.tree m.page ≡ q
  queue_is = own_queue m.tree m.page of_page

  module _ (well : AreDelivered (end ∷ earlier)) where
    covers : (id : ℕ) → IsIn (ids_of messages) id → IsIn ids id
    covers id is =
        ids_there done.tried id
        (subst (λ (l : List ℕ). IsIn l id) (sym done.covered)
        (all_covered st first.stand.cloud.holds.copies m.tree m.page 256 messages (done.opening).items m.run.items (done.opening).cursor m.run.top
        (subst (λ (k : QueueName). AllByRecursion (WasSent (first.state.messages k)) messages) (sym queue_is) opened.sent)
        (subst (λ (k : QueueName). IsDelivering (first.state.messages k) 256 messages) (sym queue_is) (delivered well)) (done.opened).read (done.opened).run behind id is))

    only : (id : ℕ) → IsIn ids id → IsIn (ids_of messages) id
    only id there =
        covered_received messages (done.opening).items m.run.top (done.opened).read id (subst (λ (l : List ℕ). IsIn l id) done.covered (ids_only done.tried id there))

    waiting_is : waiting last q ≡ left_by ids (waiting first.state q)
    waiting_is = ap unmarked at_last ∙ waiting_over (first.state.messages q) ids

    pub page_drained : Drains q m.received first.state last
    page_drained = record {
      messages = messages;
      delivered = delivered well;
      told = (done.opened).told;
      kept = λ x is.
          let k = left_kept (first.state.messages q) 256 messages ids (delivered well) covers only x (subst (λ (l : List Message). IsIn l x) waiting_is is) in
          (k.0, λ there. k.1 (subst (λ (l : List ℕ). IsIn l x.id) (done.opened).told there));
      count =
          let left = ap length waiting_is in
          let all = left_count (first.state.messages q) 256 messages ids (delivered well) covers only in
          let told = ap length (done.opened).told in
          omega (arith, left, all, told);
    }

    -- and leaves none, where at most 256 waited
    pub page_emptied : length (waiting first.state q) ≤ 256 → waiting last q ≡ []
    page_emptied few = drained q m.received first.state last page_drained few

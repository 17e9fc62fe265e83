-- A line that works off what is due to a writer, and passes nothing over, leaves few messages.
use Rattle.std.proofs.Common.{◌≡◌, ◌≤◌, ◌+◌, ◌-◌, ℕ, Bool, cond, List, [], ◌∷◌, ◌++◌, length, Option, Some, refl, sym, ap, subst, ◌∙◌, arith, ne_eqb}
use Rattle.std.specs.Prelude.{slice_get}
use Rattle.ckpt_policy.specs.declared.note.Note.{Note}
use Rattle.ckpt_policy.specs.declared.note.Note.TheVariants.{Kept}
use Rattle.ckpt_policy.specs.declared.place.Place.{Place}
use Rattle.ckpt_policy.specs.declared.role.Role.{Role}
use Rattle.ckpt_policy.specs.declared.role.Role.TheVariants.{Writer}
use Rattle.ckpt_policy.specs.Due.{due}
use Rattle.ckpt_policy.specs.Ledger.{Account}
use Rattle.ckpt_policy.specs.Notes.{IsPending, queue_at}
use Rattle.client_work.specs.declared.answer.Answer.{Answer}
use Rattle.client_work.specs.declared.answer.Answer.TheVariants as answer
use Rattle.client_work.specs.declared.work.Work.{Work}
use Rattle.client_work.specs.declared.work.Work.TheVariants.{Folding, Paging}
use Rattle.client_work.specs.Session.{Acting}
use Rattle.cloud_facts.proofs.Book.Names.{at_same}
use Rattle.cloud_trait.specs.declared.turn.CkptAnswer.{CkptAnswer}
use Rattle.cloud_facts.specs.Words.{QueueName, CloudState, Caller, Seen}
use Rattle.cloud_trait.specs.Delivery.{unmarked}
use Rattle.db_base.specs.Limits.{most_changes}
use Rattle.db_base.specs.declared.names.QueueName.TheVariants.{Atomic, TreePu, PagePu}
use Rattle.db_base.specs.declared.wish.Wish.TheVariants.{Plain}
use Rattle.page_ckpt.specs.Paging.{new_paging, paging_ask, PagingLeads}
use Rattle.recover_run.specs.declared.home.Home.{Home}
use Rattle.replay_meaning.specs.Standing.{Line}
use Rattle.session_facts.proofs.Rows.CallKinds.{IsWorkersRow}
use Rattle.session_facts.proofs.Lines.Outcome.{wish_holds}
use Rattle.session_facts.specs.Lines.Facts.{session_at, CloudHolds}
use Rattle.session_facts.specs.Sessions.Knows.{Sessions, IsRightOp}
use Rattle.session_facts.specs.Settling.Story.{Moment}
use Rattle.session_notes.proofs.MeterLemmas.{all_less, works_below}
use Rattle.session_notes.specs.declared.notebook.Notebook.{Notebook}
use Rattle.session_notes.specs.Metered.{AllKept, IsMetered, SendNoMore, sent_since, waiting_at}
use Rattle.session_notes.specs.Notebook.{AreDue, IsDue}
use Rattle.tree_ckpt.specs.Making.{new_making, making_ask, MakingLeads}
use Rattle.session_facts.proofs.Writers.Coming.{comes_first}
use Rattle.session_facts.proofs.Writers.Emptying.{page_empties, page_sends, tree_empties, tree_sends}
use Rattle.session_facts.specs.Writers.Sending.{SendsAtMost}
use Rattle.world_core.proofs.Ledgers.{book_after, book_before, writer_same}
use Rattle.world_core.proofs.MeteredCheckpoints.{AtItsEnd, OnCheckpoint, comes_through, folding_ends, folding_more, more_less, paging_ends, paging_more}
use Rattle.world_core.proofs.MeteredSteps.{MetersSeen}
use Rattle.world_core.proofs.StandsLemmas.{changed_at}
use Rattle.world_core.proofs.Workers.{HoldsWithin, IsBetween, holds_works, within_works, worker}
use Rattle.world_core.specs.EachStep.{EachCome, EachWork}
use Rattle.world_core.specs.Handled.{BeginsCheckpoint, Checkpoints, IsPassable, Works, checkpoint_more, checkpoint_of, no_checkpoint, passed_by, gone_through}
use Rattle.world_core.specs.Metered.{HasLedger, IsWriters, Meters, StepGoesThrough}
use Rattle.world_core.specs.World.{World}
use Rattle.world_core.specs.Span.{span_of}

-- ---- queues

-- where the queue of a checkpoint stands
pub record StandsSo (queue : QueueName) : Type 0 where
  pub place : Place
  pub is : queue_at place ≡ queue

stands_so : (queue : QueueName) → IsPending queue → IsRightOp (checkpoint_of queue) → StandsSo queue
stands_so (TreePu tree) pending right = record { place = record { tree = tree; page = 0 }; is = refl }
stands_so (PagePu tree page) pending right = record {
  place = record { tree = tree; page = page };
  is = ap (λ (b : Bool). cond b (TreePu tree) (PagePu tree page)) (ne_eqb page 0 (λ e. none right.1 e));
}
  where
    none : 1 ≤ page → page ≡ 0 → ⊥
    none some e = omega (arith, some, e)
stands_so (Atomic client) pending right = absurd pending

-- a checkpoint that is not passed over is done
done_of : (a : Answer) → IsPassable a → passed_by a ≡ 0 → (x : CkptAnswer) × (a ≡ answer.Done x)
done_of (answer.Done x) passes none = (x, refl)
done_of (answer.Trouble t) passes none = absurd (cc (none))
done_of a passes none = absurd passes

-- ---- one checkpoint

module _ (n k session : ℕ) (lines : List Line) where
  abbrev who : Caller
  who = worker session n

  -- the moment at which it begins, once the wish for its first call is set
  abbrev first_moment : (world : World) (seen : Seen) → HoldsWithin n lines world seen → Moment
  first_moment world seen h =
      let w : CloudHolds n lines (session_at world.sessions) world.audit world.blind (record h.state { wish = Plain }) =
      wish_holds n lines (session_at world.sessions) world.audit world.blind h.state Plain h.holds in
      record { state = record h.state { wish = Plain }; book = w.book; order = w.order; sessions = session_at world.sessions; stand = w.stand }

  module _ (before after : Seen) (old new : World) (h : HoldsWithin n lines old before) (notes : List Note) (ledger : HasLedger session k notes old.notes) (metered : IsMetered notes h.state)
      (x : CkptAnswer) where
    abbrev first : Moment
    first = first_moment old before h

    begun_session : (queue : QueueName) (begun : World) (b : BeginsCheckpoint session queue old begun) → session_at begun.sessions session ≡ b.session.after
    begun_session queue begun b =
        changed_at session _ old.sessions begun.sessions b.session session ∙ at_same session b.session.after (session_at old.sessions) session refl

    begun_ledger : (queue : QueueName) (begun : World) (b : BeginsCheckpoint session queue old begun) → IsWriters k notes b.notes.after
    begun_ledger queue begun b =
        writer_same k notes b.notes.before b.notes.after (ap (λ (z : Notebook). z.ledger) b.notes.does)
        (subst (IsWriters k notes) (sym (book_before session _ old.notes begun.notes ledger.book b.notes ledger.there)) ledger.is)

    folds : (tree : ℕ) (c : Checkpoints who (TreePu tree) (span_of before after old new) (answer.Done x)) → waiting_at h.state (record { tree = tree; page = 0 }) ≤ 256
        → EachCome StepGoesThrough who (span_of before after c.begun new) (answer.Done x) c.comes → AtItsEnd (TreePu tree) session k notes new after
    folds tree c few each =
        comes_through making_ask MakingLeads Folding (new_making tree) (TreePu tree) (λ home m. refl) tree_sends folding_more folding_ends first
        (λ m z s t comes end y between asked leads delivers short. tree_empties first tree m z s t comes end y between asked leads delivers short)
        who k notes (record { tree = tree; page = 0 }) refl few before after c.begun new x begun c.comes each
      where
        b : BeginsCheckpoint session (TreePu tree) old c.begun
        b = c.begins

        begun : OnCheckpoint making_ask MakingLeads Folding (new_making tree) (TreePu tree) first.state session k notes c.begun before
        begun = record {
          home = b.session.does.0;
          machine = new_making tree;
          works = ap (λ (a : Acting). a.work) (begun_session (TreePu tree) c.begun b) ∙ ap (λ (a : Acting). a.work) b.session.does.2.1;
          state = h.state;
          told = h.told;
          comes = comes_first making_ask MakingLeads (new_making tree) first.state;
          notes = notes;
          less = λ place. omega arith;
          book = b.notes.after;
          there = book_after session _ old.notes c.begun.notes b.notes;
          is = begun_ledger (TreePu tree) c.begun b;
          queue_is = ap (λ (z : Notebook). z.queue) b.notes.does;
          metered = metered;
        }

    pages : (tree page : ℕ) (own : StandsSo (PagePu tree page)) (c : Checkpoints who (PagePu tree page) (span_of before after old new) (answer.Done x)) → waiting_at h.state own.place ≤ 256
        → EachCome StepGoesThrough who (span_of before after c.begun new) (answer.Done x) c.comes → AtItsEnd (PagePu tree page) session k notes new after
    pages tree page own c few each =
        comes_through paging_ask PagingLeads Paging (new_paging tree page) (PagePu tree page) (λ home m. refl) page_sends paging_more paging_ends first
        (λ m z s t comes end y between asked leads delivers short.
        page_empties first tree page m z s t comes end y between asked leads b.right.0 b.right.1 delivers short)
        who k notes own.place own.is (subst (λ (q : QueueName). length (unmarked (h.state.messages q)) ≤ 256) own.is few) before after c.begun new x begun c.comes each
      where
        b : BeginsCheckpoint session (PagePu tree page) old c.begun
        b = c.begins

        begun : OnCheckpoint paging_ask PagingLeads Paging (new_paging tree page) (PagePu tree page) first.state session k notes c.begun before
        begun = record {
          home = b.session.does.0;
          machine = new_paging tree page;
          works = ap (λ (a : Acting). a.work) (begun_session (PagePu tree page) c.begun b) ∙ ap (λ (a : Acting). a.work) b.session.does.2.1;
          state = h.state;
          told = h.told;
          comes = comes_first paging_ask PagingLeads (new_paging tree page) first.state;
          notes = notes;
          less = λ place. omega arith;
          book = b.notes.after;
          there = book_after session _ old.notes c.begun.notes b.notes;
          is = begun_ledger (PagePu tree page) c.begun b;
          queue_is = ap (λ (z : Notebook). z.queue) b.notes.does;
          metered = metered;
        }

    pub checkpoint_keeps : (queue : QueueName) (c : Checkpoints who queue (span_of before after old new) (answer.Done x)) → ((place : Place) → sent_since notes place ≤ 255)
        → EachCome StepGoesThrough who (span_of before after c.begun new) (answer.Done x) c.comes → AtItsEnd queue session k notes new after
    checkpoint_keeps (TreePu tree) c short each = folds tree c (few (record { tree = tree; page = 0 })) each
      where
        few : (place : Place) → waiting_at h.state place ≤ 256
        few place =
            let wait = metered place in
            let sent = short place in
            omega (arith, wait, sent)
    checkpoint_keeps (PagePu tree page) c short each =
        let own = stands_so (PagePu tree page) c.begins.pending c.begins.right in
        pages tree page own c (few own.place) each
      where
        few : (place : Place) → waiting_at h.state place ≤ 256
        few place =
            let wait = metered place in
            let sent = short place in
            omega (arith, wait, sent)
    checkpoint_keeps (Atomic client) c short each = absurd c.begins.pending

  -- ---- all that are due

  -- behind checkpoints of these queues the notes meter the cloud
  pub record HasWorked (queues : List QueueName) (earlier : List Note) (world : World) (seen : Seen) : Type 0 where
    pub notes : List Note
    pub kept : AllKept queues earlier notes
    pub ledger : HasLedger session k notes world.notes
    pub state : CloudState
    pub told : seen.state ≡ Some state
    pub metered : IsMetered notes state

  one_kept : (queues : List QueueName) (queue : QueueName) (earlier notes mid : List Note) → AllKept queues earlier notes → SendNoMore notes mid
      → AllKept (queues ++ queue ∷ []) earlier (mid ++ Kept queue ∷ [])
  one_kept [] queue earlier notes mid kept less = (mid, more_less earlier notes mid kept less, λ place. omega arith)
  one_kept (q ∷ queues) queue earlier notes mid (between, less_first, rest) less =
      (between, less_first, one_kept queues queue (between ++ Kept q ∷ []) notes mid rest less)

  module _ (home : Home) (row : IsWorkersRow lines who) (first : Sessions) (before : Seen) (old : World) (rest : IsBetween session home first old) (h : HoldsWithin n lines old before)
      (earlier : List Note) (ledger : HasLedger session k earlier old.notes) (metered : IsMetered earlier h.state) (short : (place : Place) → sent_since earlier place ≤ 255) where
    -- one more
    one_off : (others : List QueueName) (kept left : ℕ) (mid : Seen) (world : World) (queue : QueueName) (a : Answer) (after : Seen) (new : World)
        → Works who before old (gone_through others kept left) mid world → (makes : Checkpoints who queue (span_of mid after world new) a) → IsPassable a → passed_by a ≡ 0
        → EachCome StepGoesThrough who (span_of mid after makes.begun new) a makes.comes → HasWorked others earlier world mid → HasWorked (others ++ queue ∷ []) earlier new after
    one_off others kept left mid world queue a after new works makes passes none each was = record {
      notes = end.notes ++ Kept queue ∷ [];
      kept = one_kept others queue earlier was.notes end.notes was.kept end.less;
      ledger = end.ledger;
      state = end.state;
      told = end.told;
      metered = end.metered;
    }
      where
        here : HoldsWithin n lines world mid
        here = holds_works n session lines home row first before old others kept left mid world rest h works

        same : was.state ≡ here.state
        same = let e : Some was.state ≡ Some here.state = sym was.told ∙ here.told in cc (e)

        done_is : (x : CkptAnswer) × (a ≡ answer.Done x)
        done_is = done_of a passes none

        shorter : (place : Place) → sent_since was.notes place ≤ 255
        shorter place =
            let less = all_less others earlier was.notes was.kept place in
            let top = short place in
            omega (arith, less, top)

        Ends : Answer → Type 0
        Ends z = (c : Checkpoints who queue (span_of mid after world new) z) → EachCome StepGoesThrough who (span_of mid after c.begun new) z c.comes → AtItsEnd queue session k was.notes new after

        done_ends : Ends (answer.Done done_is.0)
        done_ends c steps = checkpoint_keeps mid after world new here was.notes was.ledger (subst (IsMetered was.notes) same was.metered) done_is.0 queue c shorter steps

        end : AtItsEnd queue session k was.notes new after
        end = subst Ends (sym done_is.1) done_ends makes each

    -- what is not passed over leaves none
    none_first : (left own : ℕ) → left + own ≡ 0 → left ≡ 0
    none_first left own none = omega (arith, none)

    none_last : (left own : ℕ) → left + own ≡ 0 → own ≡ 0
    none_last left own none = omega (arith, none)

    pub works_off : (queues : List QueueName) (done passed : ℕ) (after : Seen) (new : World) (works : Works who before old (gone_through queues done passed) after new) → passed ≡ 0
        → EachWork StepGoesThrough works → HasWorked queues earlier new after
    works_off queues done passed after new no_checkpoint none each =
        record { notes = earlier; kept = λ place. omega arith; ledger = ledger; state = h.state; told = h.told; metered = metered }
    works_off queues done passed after new (checkpoint_more others kept left mid world queue a _ _ works makes passes) none each =
        one_off others kept left mid world queue a after new works makes passes (none_last left (passed_by a) none) each.1
        (works_off others kept left mid world works (none_first left (passed_by a) none) each.0)

-- ---- the line

-- the queues that are due to a writer
pub due_to : (k : ℕ) (notes : List Note) (book : Notebook) (queues : List QueueName) → (is : IsWriters k notes book) → IsDue book queues → queues ≡ due Writer k is.account.client notes
due_to k notes book queues is due_so =
    let so : AreDue (Some is.account) queues = subst (λ (o : Option Account). AreDue o queues) is.ledger due_so in
    so notes is.stands
    ∙ ap (λ (r : Role). due r is.account.k is.account.client notes) is.role ∙ ap (λ (j : ℕ). due Writer j is.account.client notes) is.number

module _ (n k session bound : ℕ) (lines : List Line) (row : IsWorkersRow lines (worker session n)) (before after : Seen) (old new : World) (d_done d_passed : ℕ)
    (h : HoldsWithin n lines old before) (m : Meters session k bound old h.state) (limit : bound ≤ k - 1 + most_changes) where
  pub works_down_few : (home : Home) → IsBetween session home (session_at old.sessions) old → (queues : List QueueName) → ((book : Notebook) → slice_get old.notes session ≡ Some book → IsDue book queues)
      → (works : Works (worker session n) before old (gone_through queues d_done d_passed) after new) → d_passed ≡ 0 → EachWork StepGoesThrough works
      → MetersSeen session k (k - 1) new after
  works_down_few home rest queues due_so works none each = record {
    state = w.state;
    told = w.told;
    meters = record {
      notes = w.notes;
      ledger = w.ledger;
      number = m.number;
      metered = w.metered;
      left = 0;
      sends = subst (λ (z : Work). SendsAtMost 0 z) (sym last.works) tt;
      within = λ place.
          let few = works_below k m.ledger.is.account.client m.notes w.notes m.number.0 kept place in
          omega (arith, few);
    };
  }
    where
      short : (place : Place) → sent_since m.notes place ≤ 255
      short place =
          let within = m.within place in
          let top = m.number.1 in
          let some = m.number.0 in
          omega (arith, within, top, some, limit)

      w : HasWorked n k session lines queues m.notes new after
      w = works_off n k session lines home row (session_at old.sessions) before old rest h m.notes m.ledger m.metered short queues d_done d_passed after new works none each

      kept : AllKept (due Writer k m.ledger.is.account.client m.notes) m.notes w.notes
      kept =
          subst (λ (qs : List QueueName). AllKept qs m.notes w.notes)
          (due_to k m.notes m.ledger.book queues m.ledger.is (due_so m.ledger.book m.ledger.there)) w.kept

      last : IsBetween session home (session_at old.sessions) new
      last = within_works (worker session n) home (session_at old.sessions) before old queues d_done d_passed after new rest works

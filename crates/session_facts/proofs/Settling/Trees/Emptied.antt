-- A tree's checkpoint that is done, of any session and with nobody else at work, marks just what it received; where at most 256 waited it leaves none.
use Rattle.std.proofs.Common.{◌≡◌, ◌≤◌, ℕ, List, [], ◌∷◌, length, take, refl, sym, ap, subst, ◌∙◌, arith}
use Rattle.std.proofs.lemmas.List.{length-map, length-take}
use Rattle.std.proofs.lemmas.List.Sorted.{length_permutation}
use Rattle.cloud_facts.specs.Words.{QueueName, Ended, CloudState, called, Ask, Release, Ends, Deed, calls_of, IsCall}
use Rattle.cloud_trait.proofs.RowLemmas.{row_messages}
use Rattle.cloud_trait.specs.Delivery.{unmarked}
use Rattle.cloud_trait.specs.Machine.{Came}
use Rattle.cloud_trait.specs.Weather.{Fits}
use Rattle.cloud_trait.specs.declared.message.Message.{Message}
use Rattle.cloud_trait.specs.declared.turn.CkptAnswer.{CkptAnswer}
use Rattle.db_base.specs.declared.names.QueueName.TheVariants as queue
use Rattle.session_facts.proofs.Settling.Trees.Drains.{SendsNothing, LedBy, all_drained}
use Rattle.session_facts.proofs.Settling.Trees.Receives.{quiet_kept}
use Rattle.session_facts.proofs.Settling.Trails.{IsBetween, Trail, between_call}
use Rattle.session_facts.proofs.Settling.Trees.Runs.{delivers_of, work_sends}
use Rattle.session_facts.specs.Settling.Runs.{AreDelivered, Drains, waiting}
use Rattle.session_facts.specs.Settling.Story.{Moment}
use Rattle.tree_ckpt.proofs.Causes.{went_brought}
use Rattle.tree_ckpt.proofs.Meaning.{went_done, took_done}
use Rattle.tree_ckpt.specs.Causes.{Calls}
use Rattle.tree_ckpt.specs.Making.{Making, making_ask, MakingLeads}
use Rattle.tree_ckpt.specs.Meaning.{IsDone}
use Rattle.tree_ckpt.specs.Leases.{Went, fresh}

nothing : {X : Type 0} (xs : List X) → length xs ≡ 0 → xs ≡ []
nothing [] none = refl
nothing (x ∷ xs) none = absurd (cc (none))

-- a checkpoint that marked just what it received left nothing, where at most as many waited as it receives
pub drained : (q : QueueName) (received : List ℕ) (first last : CloudState) → Drains q received first last → length (waiting first q) ≤ 256 → waiting last q ≡ []
drained q received first last d few =
    let same = length_permutation (take 256 (unmarked (first.messages q))) d.messages d.delivered in
    let taken = length-take 256 (unmarked (first.messages q)) in
    let told = ap length d.told in
    let ids = length-map d.messages (λ (m : Message). m.id) in
    let count = d.count in
    let none : length (waiting last q) ≡ 0 = omega (arith, same, taken, told, ids, count, few) in
    nothing (waiting last q) none

-- the calls of a checkpoint lead from state to state, and send nothing
came_led : (start : Making) (first last : CloudState) (h : List Deed) (m : Making) → Came making_ask MakingLeads start h m → Trail h first last → AreDelivered h
    → LedBy first (calls_of h) last
came_led start first last [] m came trail delivered = trail
came_led start first last (d ∷ h) m (from, came, asked, made, leads, follows) (mid, trail, between) delivered = (
  mid,
  came_led start first mid h from came trail delivered.1,
  record {
    who = d.who;
    call = between_call d mid last between;
    delivers = delivers_of d.who d.ask d.answer d.before.counts d.after.counts mid d.after.state (between.made.state mid between.told) delivered.0;
    sends = subst SendsNothing (sym asked) (work_sends from.tree from.work);
  },
)

module _ (first : Moment) (was m : Making) (earlier : List Deed) (end : Deed) (answer : CkptAnswer) (before last : CloudState) (went : Went earlier was)
    (trail : Trail earlier first.state before) (turn : IsBetween end before last) (asked : end.ask ≡ making_ask was)
    (leads : MakingLeads was end.answer (Ends m answer)) (none : answer.left ≡ 0) where
  done : IsDone (making_ask was) was.tree was.received earlier answer
  done = took_done was m earlier end.answer (Ended answer) went (went_brought was earlier went) (went_done was earlier went) leads

  -- its last call gives the tree back
  gives : end.ask ≡ Release done.lease
  gives = asked ∙ done.last

  same_received : m.received ≡ was.received
  same_received = leads.0.1 ∙ quiet_kept (Release done.lease) end.answer was.received tt (subst (λ (ask : Ask). Fits ask end.answer) gives turn.made.fits)

  same_messages : last.messages ≡ before.messages
  same_messages =
      let call : IsCall end.who (Release done.lease) end.answer before last =
      subst (λ (ask : Ask). IsCall end.who ask end.answer before last) gives (between_call end before last turn) in
      row_messages end.who (Release done.lease) end.answer call.before call.after (called end.who last.now before) last call.row tt

  -- it marks just what it received
  pub tree_drained : AreDelivered (end ∷ earlier) → Drains (queue.TreePu was.tree) m.received first.state last
  tree_drained delivered =
      all_drained first.book first.order first.state before last first.stand.cloud.holds.copies was.tree done.lease done.opening done.opened done.work done.works done.tried
      (subst (λ (cs : Calls). LedBy first.state cs before) done.calls (came_led (fresh was) first.state before earlier was went trail delivered.1))
      done.covered (sym done.left ∙ none) same_messages m.received (same_received ∙ done.told)

  -- and leaves none, where at most 256 waited
  pub tree_emptied : AreDelivered (end ∷ earlier) → length (waiting first.state (queue.TreePu was.tree)) ≤ 256 → waiting last (queue.TreePu was.tree) ≡ []
  tree_emptied delivered few = drained (queue.TreePu was.tree) m.received first.state last (tree_drained delivered) few

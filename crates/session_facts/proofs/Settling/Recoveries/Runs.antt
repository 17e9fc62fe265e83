-- What the recovery of a client in a settling leaves, and how many calls it makes.
use Rattle.std.proofs.Common.{◌≡◌, ◌+◌, ◌*◌, ◌≤◌, ℕ, List, [], ◌∷◌, length, Option, Some, None, refl, ap, subst, ◌∙◌, arith}
use Rattle.std.specs.Prelude.{unwrap_or}
use Rattle.cloud_trait.specs.Calm.{AreCalm, AreAlone}
use Rattle.cloud_trait.specs.Plenty.{HadMemory}
use Rattle.cloud_facts.proofs.Calls.Heads.{head_at, newest_head}
use Rattle.cloud_facts.proofs.Decoding.Values.{message_decodes}
use Rattle.cloud_facts.specs.Book.Messages.{IsLogMessage}
use Rattle.cloud_facts.specs.Decoding.Decodes.{Decodes}
use Rattle.cloud_facts.specs.Words.{IsClient, AtomicRec, Head, Answer, CloudState, newest, Next, Goes, Ends, Stops, Deed}
use Rattle.cloud_trait.specs.declared.message.Message.{Message}
use Rattle.cloud_trait.specs.declared.turn.CkptAnswer.{CkptAnswer}
use Rattle.cloud_trait.specs.Delivery.{WasSent, unmarked}
use Rattle.cloud_trait.specs.Machine.{LeadsBy}
use Rattle.db_base.specs.declared.names.ObjName.TheVariants as object
use Rattle.db_base.specs.declared.names.QueueName.TheVariants as queue
use Rattle.head_codec.specs.Head.{empty_head}
use Rattle.head_codec.specs.Spelling.{head_of}
use Rattle.log_codec.proofs.AtomicLaws.{atomic_of-some}
use Rattle.page_ckpt.specs.Paging.{Paging}
use Rattle.recover_run.specs.declared.stage.Aim.TheVariants.{Settling}
use Rattle.recover_run.specs.declared.stage.RecoverAnswer.{RecoverAnswer}
use Rattle.recover_run.specs.Calls.{head_in}
use Rattle.recover_run.specs.Emptying.{IsBeginning, HasNoLater}
use Rattle.recover_run.specs.Gathering.{count_of}
use Rattle.recover_run.specs.Recovery.{Recovery, new_recovery, recovery_next}
use Rattle.recover_run.specs.Leases.{Went}
use Rattle.recover_run.specs.Within.{count_in}
use Rattle.recover_run.proofs.Finding.{unmarked_sent}
use Rattle.recover_run.proofs.KeptRecords.{all_so}
use Rattle.session_facts.specs.Settling.Runs.{waiting, RecoveryRun, RecoveriesRun}
use Rattle.session_facts.specs.Settling.Story.{Moment, store_at, IsAtWork, PartStory, PartRan}
use Rattle.session_facts.specs.Machines.Settlings.Knows.{Recovers, KnowsAtWork}
use Rattle.session_facts.proofs.Machines.Openings.Complete.{no_later}
use Rattle.session_facts.proofs.Machines.Openings.Messages.{sent_message}
use Rattle.session_facts.proofs.Settling.Recoveries.Calls.{LeadsOver, few_calls}
use Rattle.session_facts.proofs.Settling.Recoveries.Ends.{IsSettled, SettledAt, nothing_left, leaves_none, step_settles, end_settles}
use Rattle.session_facts.proofs.Settling.Stories.{part_known, story_went, ran_alone}
use Rattle.settle_run.specs.declared.part.Part.{Part}
use Rattle.settle_run.specs.declared.part.Part.TheVariants.{Client, Tree, Page}
use Rattle.settle_run.specs.Parts.{part_ask, recovers, makes, pages, PartLeads}
use Rattle.tree_ckpt.specs.Making.{Making}

-- ---- a part that recovers a client

-- a step of a part that leads to the recovery of a client is a step of one
pub record LeadsRecovery (client : ℕ) (from : Part) (next : Next Recovery RecoverAnswer) (a : Answer) : Type 0 where
  pub of : Recovery
  pub is : from ≡ Client client of
  pub leads : recovery_next of a ≡ next

goes_from : (client : ℕ) (m : Recovery) (from : Part) (a : Answer) → PartLeads from a (Goes (Client client m)) → LeadsRecovery client from (Goes m) a
goes_from client m (Client c r) a (n, l, e) = on n l e
  where
    on : (n : Next Recovery RecoverAnswer) → LeadsBy recovery_next r a n → (let x : Next Part ℕ = Goes (Client client m) in x ≡ recovers c n) → LeadsRecovery client (Client c r) (Goes m) a
    on (Goes k) l e =
        let same_client : c ≡ client = cc in
        let same : k ≡ m = cc in
        record { of = r; is = ap (λ (x : ℕ). Client x r) same_client; leads = l ∙ ap Goes same }
    on (Ends k x) l e = absurd (cc)
    on (Stops k t) l e = absurd (cc)
goes_from client m (Tree tree k) a (n, l, e) = absurd (on n e)
  where
    on : (n : Next Making CkptAnswer) → (let x : Next Part ℕ = Goes (Client client m) in x ≡ makes tree n) → ⊥
    on (Goes k) e = cc
    on (Ends k x) e = cc
    on (Stops k t) e = cc
goes_from client m (Page tree page k) a (n, l, e) = absurd (on n e)
  where
    on : (n : Next Paging CkptAnswer) → (let x : Next Part ℕ = Goes (Client client m) in x ≡ pages tree page n) → ⊥
    on (Goes k) e = cc
    on (Ends k x) e = cc
    on (Stops k t) e = cc

-- and the last step
pub record EndsRecovery (client : ℕ) (m : Recovery) (from : Part) (a : Answer) : Type 0 where
  pub of : Recovery
  pub answer : RecoverAnswer
  pub is : from ≡ Client client of
  pub ends : recovery_next of a ≡ Ends m answer

ends_from : (client : ℕ) (m : Recovery) (from : Part) (a : Answer) → PartLeads from a (Ends (Client client m) 0) → EndsRecovery client m from a
ends_from client m (Client c r) a (n, l, e) = on n l e
  where
    on : (n : Next Recovery RecoverAnswer) → LeadsBy recovery_next r a n → (let x : Next Part ℕ = Ends (Client client m) 0 in x ≡ recovers c n) → EndsRecovery client m (Client c r) a
    on (Ends k x) l e =
        let same_client : c ≡ client = cc in
        let same : k ≡ m = cc in
        record { of = r; answer = x; is = ap (λ (y : ℕ). Client y r) same_client; ends = l ∙ ap (λ (y : Recovery). Ends y x) same }
    on (Goes k) l e = absurd (cc)
    on (Stops k t) l e = absurd (cc)
ends_from client m (Tree tree k) a (n, l, e) = absurd (on n e)
  where
    on : (n : Next Making CkptAnswer) → (let x : Next Part ℕ = Ends (Client client m) 0 in x ≡ makes tree n) → ⊥
    on (Goes k) e = cc
    on (Ends k x) e = cc
    on (Stops k t) e = cc
ends_from client m (Page tree page k) a (n, l, e) = absurd (on n e)
  where
    on : (n : Next Paging CkptAnswer) → (let x : Next Part ℕ = Ends (Client client m) 0 in x ≡ pages tree page n) → ⊥
    on (Goes k) e = cc
    on (Ends k x) e = cc
    on (Stops k t) e = cc

-- ---- its story

story_leads : (first : Moment) (h : List Deed) (w : Part) (now : Moment) → PartStory first h w now → LeadsOver first.state h now.state
story_leads first [] w now story = ap (λ (m : Moment). m.state) story.1
story_leads first (d ∷ h) w now (from, (before, (story, turn, leads))) = (before.state, story_leads first h from before story, turn.made, turn.told, turn.left)

story_begins : (first : Moment) (h : List Deed) (w : Part) (now : Moment) (d : Deed) → PartStory first h w now → d.before.state ≡ Some now.state → IsBeginning (d ∷ h) first.state
story_begins first [] w now d story told = told ∙ ap (λ (m : Moment). Some m.state) story.1
story_begins first (e ∷ h) w now d (from, (before, (story, turn, leads))) told = story_begins first h from before e story turn.told

recovers_at : (client : ℕ) (r : Recovery) (from : Part) (now : Moment) → from ≡ Client client r → IsAtWork now from → Recovers (store_at now) now.state.now client r (now.stand.parts 0)
recovers_at client r from now is at = subst (λ w. KnowsAtWork (store_at now) now.state.now w (now.stand.parts 0)) is (part_known now from at)

asks_of : (client : ℕ) (r : Recovery) (from : Part) (d : Deed) → from ≡ Client client r → d.ask ≡ part_ask from → d.ask ≡ part_ask (Client client r)
asks_of client r from d is asks = asks ∙ ap part_ask is

-- once its head was put none is open, and where it found none none is
story_settled : (client : ℕ) (first : Moment) (h : List Deed) (m : Recovery) (now : Moment) → PartStory first h (Client client m) now → IsAtWork now (Client client m)
    → SettledAt m.stage m.ending (IsSettled client now.state)
story_settled client first [] m now story at = subst (λ (r : Recovery). SettledAt r.stage r.ending (IsSettled client now.state)) same tt
  where
    same : new_recovery client Settling None ≡ m
    same = let e : Client client (new_recovery client Settling None) ≡ Client client m = story.0 in cc
story_settled client first (d ∷ h) m now (from, (before, (story, turn, leads))) at =
    on (goes_from client m from d.answer leads) (λ r is. story_settled client first h r before (subst (λ w. PartStory first h w before) is story) (subst (IsAtWork before) is turn.at_work))
  where
    on : LeadsRecovery client from (Goes m) d.answer
        → ((r : Recovery) → from ≡ Client client r → SettledAt r.stage r.ending (IsSettled client before.state)) → SettledAt m.stage m.ending (IsSettled client now.state)
    on l again =
        let k = recovers_at client l.of from before l.is turn.at_work in
        step_settles client d l.of before.state now.state (asks_of client l.of from d l.is turn.asked) turn.made turn.told turn.left k.client_is now.book now.order
        (now.stand.parts 0) m l.leads k.aim_is (again l.of l.is) (recovers_at client m (Client client m) now refl at).knows

-- ---- what it begins with

-- the head that is read is the one that is told
told_head : (s : CloudState) (client : ℕ) (h : Head) → head_in (newest s (object.Head client)) ≡ Some h → head_at (newest s (object.Head client)) ≡ h
told_head s client h e = on (newest s (object.Head client)) e
  where
    on : (v : Option (List ℕ)) → head_in v ≡ Some h → head_at v ≡ h
    on None f = cc
    on (Some bytes) f = ap (λ (o : Option Head). unwrap_or o empty_head) f

count_told : (v : Option (List ℕ)) → count_in (head_in v) ≤ count_of (head_at v).phase
count_told None = omega arith
count_told (Some bytes) = on (head_of bytes)
  where
    on : (o : Option Head) → count_in o ≤ count_of (unwrap_or o empty_head).phase
    on (Some h) = omega arith
    on None = omega arith

-- where no message is a record of an epoch from 1 on, there is none
none_sent : (s : CloudState) (client : ℕ) → Decodes s → ((id : ℕ) (r : AtomicRec) → IsLogMessage (s.messages (queue.Atomic client)) id r → r.epoch ≤ 0)
    → unmarked (s.messages (queue.Atomic client)) ≡ []
none_sent s client decodes early =
    nothing_left (unmarked (s.messages (queue.Atomic client)))
    (all_so (WasSent (s.messages (queue.Atomic client))) (λ (m : Message). ⊥) never (unmarked (s.messages (queue.Atomic client))) (unmarked_sent (s.messages (queue.Atomic client))))
  where
    never : (m : Message) → WasSent (s.messages (queue.Atomic client)) m → ⊥
    never m was =
        let r = message_decodes s (queue.Atomic client) m.id m.bytes decodes was in
        let some = (atomic_of-some m.bytes r.0 r.1).0.epoch in
        let none = early m.id r.0 (sent_message (s.messages (queue.Atomic client)) m r.0 was r.1) in
        omega (arith, some, none)

-- ---- the whole

module _ (client : ℕ) (m : Recovery) (h : List Deed) (first last : Moment) (ran : PartRan (Client client m) h first last) where
  l : EndsRecovery client m ran.from ran.end.answer
  l = ends_from client m ran.from ran.end.answer ran.ends

  story : PartStory first ran.earlier (Client client l.of) ran.before
  story = subst (λ w. PartStory first ran.earlier w ran.before) l.is ran.story

  at : IsAtWork ran.before (Client client l.of)
  at = subst (IsAtWork ran.before) l.is ran.turn.at_work

  k : Recovers (store_at ran.before) ran.before.state.now client l.of (ran.before.stand.parts 0)
  k = recovers_at client l.of (Client client l.of) ran.before refl at

  is_client : IsClient client
  is_client = subst IsClient k.client_is k.knows.client

  asks : ran.end.ask ≡ part_ask (Client client l.of)
  asks = asks_of client l.of ran.from ran.end l.is ran.turn.asked

  went : Went client Settling None ran.earlier l.of
  went = story_went first ran.earlier (Client client l.of) ran.before story

  leads : LeadsOver first.state (ran.end ∷ ran.earlier) last.state
  leads = (ran.before.state, story_leads first ran.earlier (Client client l.of) ran.before story, ran.turn.made, ran.turn.told, ran.turn.left)

  begins : IsBeginning (ran.end ∷ ran.earlier) first.state
  begins = story_begins first ran.earlier (Client client l.of) ran.before ran.end story ran.turn.told

  alone : AreAlone (ran.end ∷ ran.earlier)
  alone = subst AreAlone ran.is (ran_alone (Client client m) h first last ran)

  settled : IsSettled client last.state
  settled =
      end_settles client ran.end l.of ran.before.state last.state asks ran.turn.made ran.turn.told ran.turn.left k.client_is m l.answer l.ends k.aim_is
      (story_settled client first ran.earlier l.of ran.before story at)

  head_told : (s : Moment) → (store_at s).tally.head client ≡ head_at (newest s.state (object.Head client))
  head_told s = newest_head (s.state.versions (object.Head client))

  upto : (head : Head) → head_in (newest first.state (object.Head client)) ≡ Some head → HasNoLater head.epoch (first.state.messages (queue.Atomic client))
  upto head e = no_later (store_at first) client head first.stand.cloud.holds.leaves is_client (head_told first ∙ told_head first.state client head e)

  none : newest first.state (object.Head client) ≡ None → unmarked (first.state.messages (queue.Atomic client)) ≡ []
  none absent = none_sent first.state client first.stand.cloud.decodes early
    where
      head : (store_at first).tally.head client ≡ empty_head
      head = head_told first ∙ ap head_at absent

      early : (id : ℕ) (r : AtomicRec) → IsLogMessage (first.state.messages (queue.Atomic client)) id r → r.epoch ≤ 0
      early id r m = subst (λ (g : Head). r.epoch ≤ g.epoch) head ((first.stand.cloud.holds.leaves.logged client is_client).early id r m)

  calm_so : AreCalm h → AreCalm (ran.end ∷ ran.earlier)
  calm_so calm = subst AreCalm ran.is calm

  pub recovery_run : RecoveryRun client h first last
  recovery_run = record {
    settles = ap (λ (g : Head). g.phase) (head_told last) ∙ settled;
    empties = λ calm memory.
        leaves_none client first.state last.state ran.earlier ran.end l.of m l.answer went asks l.ends leads (subst HadMemory ran.is memory).1 (calm_so calm) alone begins upto none;
    few = λ calm memory. few (calm_so calm);
  }
    where
      few : AreCalm (ran.end ∷ ran.earlier) → length h ≤ 8 + (4 * length (waiting first.state (queue.Atomic client)) + count_of ((store_at first).tally.head client).phase)
      few calm =
          let calls = few_calls client first.state leads.0 ran.earlier ran.end l.of went leads.1 calm.1 alone.1 begins in
          let same = ap (λ (x : List Deed). length x) ran.is in
          let told = count_told (newest first.state (object.Head client)) in
          let head = ap (λ (g : Head). count_of g.phase) (head_told first) in
          omega (arith, calls, same, told, head)

pub recoveries_run : RecoveriesRun
recoveries_run client m h first last ran = recovery_run client m h first last ran

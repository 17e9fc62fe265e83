-- The states that calls lead through, where nobody else acts: what stays over calls that do not touch it, and what deletions leave.
use Rattle.std.proofs.Common.{◌≡◌, ℕ, List, [], ◌∷◌, ◌++◌, Some, refl, ap, subst, ◌∙◌}
use Rattle.cloud_facts.proofs.Calls.Calls.{call_of}
use Rattle.cloud_facts.specs.Words.{QueueName, Answer, Posted, CloudState, called, Ask, Delete, Deed, calls_of, IsCall}
use Rattle.cloud_trait.proofs.NameLemmas.{queue_cmp-total}
use Rattle.cloud_trait.proofs.RowLemmas.{row_messages}
use Rattle.cloud_trait.proofs.StateLemmas.{put_at_same}
use Rattle.cloud_trait.specs.Ask.{Lands, TouchesNoMessage}
use Rattle.cloud_trait.specs.Machine.{IsMade}
use Rattle.cloud_trait.specs.Names.{queue_cmp}
use Rattle.cloud_trait.specs.State.{marked}
use Rattle.cloud_trait.specs.declared.answer.Answer.TheVariants.{Done}
use Rattle.session_facts.proofs.Settling.Drains.{marked_over}

-- a call was made between two told states
pub record IsBetween (d : Deed) (s t : CloudState) : Type 0 where
  pub made : IsMade d
  pub told : d.before.state ≡ Some s
  pub left : d.after.state ≡ Some t

-- calls, the newest first, lead from a state to another
abbrev pub Trail : List Deed → CloudState → CloudState → Type 0
Trail [] s t = t ≡ s
Trail (d ∷ h) s t = (u : CloudState) × Trail h s u × IsBetween d u t

pub between_call : (d : Deed) (s t : CloudState) → IsBetween d s t → IsCall d.who d.ask d.answer s t
between_call d s t b = call_of d.who d.ask d.answer d.before d.after s t b.made b.told b.left

abbrev pub Calls : Type 0
Calls = List (Ask × Answer)

-- none of the calls touches a message
abbrev pub AreQuiet : Calls → Type 0
AreQuiet [] = Unit {0}
AreQuiet (c ∷ cs) = TouchesNoMessage c.0 × AreQuiet cs

pub trail_messages : (h : List Deed) (s t : CloudState) → Trail h s t → AreQuiet (calls_of h) → t.messages ≡ s.messages
trail_messages [] s t trail quiet = ap (λ (u : CloudState). u.messages) trail
trail_messages (d ∷ h) s t (u, trail, between) quiet =
    let call = between_call d u t between in
    row_messages d.who d.ask d.answer call.before call.after (called d.who t.now u) t call.row quiet.0 ∙ trail_messages h s u trail quiet.1

-- ---- earlier and later calls

-- calls in two parts, with the state in between
pub record Splits (h : List Deed) (later earlier : Calls) (s t : CloudState) : Type 0 where
  pub behind : List Deed
  pub before : List Deed
  pub all : h ≡ behind ++ before
  pub later_are : calls_of behind ≡ later
  pub earlier_are : calls_of before ≡ earlier
  pub mid : CloudState
  pub first : Trail before s mid
  pub second : Trail behind mid t

pub first_is : (c d : Ask × Answer) (cs ds : Calls) → c ∷ cs ≡ d ∷ ds → c ≡ d
first_is c d cs ds e = cc

pub ask_is : {c d : Ask × Answer} → c ≡ d → c.0 ≡ d.0
ask_is e = ap (λ (x : Ask × Answer). x.0) e

pub answer_is : {c d : Ask × Answer} → c ≡ d → c.1 ≡ d.1
answer_is e = ap (λ (x : Ask × Answer). x.1) e

pub rest_is : (c d : Ask × Answer) (cs ds : Calls) → c ∷ cs ≡ d ∷ ds → cs ≡ ds
rest_is c d cs ds e = cc

pub splits : (h : List Deed) (later earlier : Calls) (s t : CloudState) → Trail h s t → calls_of h ≡ later ++ earlier → Splits h later earlier s t
splits h [] earlier s t trail are = record { behind = []; before = h; all = refl; later_are = refl; earlier_are = are; mid = t; first = trail; second = refl }
splits [] (c ∷ later) earlier s t trail are = absurd (cc (are))
splits (d ∷ h) (c ∷ later) earlier s t (u, trail, between) are =
    on (splits h later earlier s u trail (rest_is (d.ask, d.answer) c (calls_of h) (later ++ earlier) are))
  where
    on : Splits h later earlier s u → Splits (d ∷ h) (c ∷ later) earlier s t
    on r = record {
      behind = d ∷ r.behind;
      before = r.before;
      all = ap (λ (l : List Deed). d ∷ l) r.all;
      later_are =
          ap (λ (l : Calls). (d.ask, d.answer) ∷ l) r.later_are
          ∙ ap (λ (x : Ask × Answer). x ∷ later) (first_is (d.ask, d.answer) c (calls_of h) (later ++ earlier) are);
      earlier_are = r.earlier_are;
      mid = r.mid;
      first = r.first;
      second = (u, r.second, between);
    }

-- ---- deletions

-- deletions of messages of a queue that were all done, the newest first
abbrev pub deletions_of : QueueName → List ℕ → Calls
deletions_of q [] = []
deletions_of q (id ∷ ids) = (Delete q id, Done) ∷ deletions_of q ids

deleted_one : (d : Deed) (s t : CloudState) (q : QueueName) (id : ℕ) → IsBetween d s t → d.ask ≡ Delete q id → d.answer ≡ Done → t.messages q ≡ marked (s.messages q) id
deleted_one d s t q id between asks answers =
    ap (λ (u : CloudState). u.messages q) lands.0 ∙ put_at_same queue_cmp queue_cmp-total s.messages q (marked (s.messages q) id)
  where
    call : IsCall d.who (Delete q id) Done s t
    call =
        subst (λ (a : Answer). IsCall d.who (Delete q id) a s t) answers
        (subst (λ (ask : Ask). IsCall d.who ask d.answer s t) asks (between_call d s t between))

    lands : Lands d.who (Delete q id) (called d.who t.now s) t
    lands = call.row

-- they leave the queue with these messages marked
pub trail_deletes : (q : QueueName) (ids : List ℕ) (h : List Deed) (s t : CloudState) → Trail h s t → calls_of h ≡ deletions_of q ids
    → t.messages q ≡ marked_over (s.messages q) ids
trail_deletes q [] [] s t trail are = ap (λ (u : CloudState). u.messages q) trail
trail_deletes q [] (d ∷ h) s t trail are = absurd (cc (are))
trail_deletes q (id ∷ ids) [] s t trail are = absurd (cc (are))
trail_deletes q (id ∷ ids) (d ∷ h) s t (u, trail, between) are =
    deleted_one d u t q id between (ask_is (first_is (d.ask, d.answer) (Delete q id, Done) (calls_of h) (deletions_of q ids) are))
    (answer_is (first_is (d.ask, d.answer) (Delete q id, Done) (calls_of h) (deletions_of q ids) are))
    ∙ ap (λ (ps : List Posted). marked ps id) (trail_deletes q ids h s u trail (rest_is (d.ask, d.answer) (Delete q id, Done) (calls_of h) (deletions_of q ids) are))

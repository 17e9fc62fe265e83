-- What a commit did with what it writes, by its whole run.
use Rattle.std.specs.Prelude.{ℕ, ◌≡◌, ◌⊎◌, List, [], ◌∷◌, ◌++◌, length, take, slice_get, Some}
use Rattle.std.specs.List.{AllByRecursion}
use Rattle.db_base.specs.declared.trouble.Trouble.{Trouble}
use Rattle.db_base.specs.declared.trouble.Trouble.TheVariants as trouble
use Rattle.db_base.specs.declared.trouble.CommitAnswer.{CommitAnswer}
use Rattle.db_base.specs.declared.trouble.CommitAnswer.TheVariants.{Committed, NotCommitted, InDoubt, CommittedOpen}
use Rattle.log_codec.specs.declared.record.AtomicRec.{AtomicRec}
use Rattle.cloud_trait.specs.declared.answer.Answer.{Answer}
use Rattle.cloud_trait.specs.declared.answer.Answer.TheVariants.{Done, Late, Failed}
use Rattle.cloud_trait.specs.declared.turn.Turn.{Turn}
use Rattle.cloud_trait.specs.declared.turn.Turn.TheVariants.{More, Ended, Stopped}
use Rattle.cloud_trait.specs.Machine.{Goes, LeadsBy, Came, Deed}
use Rattle.txn_buffer.specs.Noted.{Noted}
use Rattle.recover_run.specs.declared.home.Home.{Home}
use Rattle.commit_writes.specs.Writing.{Writing, with_head, waiting, begun, writing_ask, writing_next}
use Rattle.commit_writes.specs.Calls.{Calls, told, log_of, logged_calls, post_of, put_of, deleted_calls, opened_of, settled_of, all_logged, all_posted, all_settled}

-- a deletion was done, or it failed
abbrev pub WasTried : Answer → Type 0
WasTried a = (a ≡ Done) ⊎ (a ≡ Failed)

-- the four things landed in their order: each record in the ATOMIC queue, the head that commits, each record in its pending
-- update queue, the head that settles; then each ATOMIC message was deleted, whatever that answered
pub record IsCommitted (home : Home) (records : List AtomicRec) (calls : Calls) : Type 0 where
  pub ids : List ℕ
  pub posts : List ℕ
  pub answers : List Answer
  pub logged : length ids ≡ length records
  pub posted : length posts ≡ length records
  pub deleted : length answers ≡ length records
  pub tried : AllByRecursion WasTried answers
  pub are : calls ≡ all_settled home records ids posts ++ deleted_calls home.client ids answers

-- a send to the ATOMIC queue failed behind the sends of the records before it
pub record IsLogFailed (home : Home) (records : List AtomicRec) (calls : Calls) : Type 0 where
  pub sent : ℕ
  pub last : AtomicRec
  pub here : slice_get records sent ≡ Some last
  pub ids : List ℕ
  pub are : calls ≡ logged_calls home.client (take sent records) ids ++ (log_of home.client last, Failed) ∷ []

-- the put of the head that commits answered so behind all sends to the ATOMIC queue
pub record IsOpenAnswered (home : Home) (records : List AtomicRec) (calls : Calls) (a : Answer) : Type 0 where
  pub ids : List ℕ
  pub logged : length ids ≡ length records
  pub are : calls ≡ all_logged home records ids ++ (put_of home (opened_of home records), a) ∷ []

-- the head that commits landed, and a send of a record to its pending update queue failed
pub record IsPostFailed (home : Home) (records : List AtomicRec) (calls : Calls) : Type 0 where
  pub sent : ℕ
  pub last : AtomicRec
  pub here : slice_get records sent ≡ Some last
  pub ids : List ℕ
  pub posts : List ℕ
  pub logged : length ids ≡ length records
  pub are : calls ≡ all_posted home records ids (take sent records) posts ++ (post_of last, Failed) ∷ []

-- the head that commits landed, all records are in their queues, and the put of the head that settles answered so
pub record IsSettleAnswered (home : Home) (records : List AtomicRec) (calls : Calls) (a : Answer) : Type 0 where
  pub ids : List ℕ
  pub posts : List ℕ
  pub logged : length ids ≡ length records
  pub posted : length posts ≡ length records
  pub are : calls ≡ all_posted home records ids records posts ++ (put_of home (settled_of home records), a) ∷ []

-- the answer of a put that did not do it, and its trouble
abbrev pub Refuses : Trouble → Answer → Type 0
Refuses t a = ((t ≡ trouble.Failed) × (a ≡ Failed)) ⊎ ((end : ℕ) × (now : ℕ) × (t ≡ trouble.Late end now) × (a ≡ Late end now))

-- nothing was committed: a send to the ATOMIC queue failed, or the put of the head that commits was late
abbrev pub WhyNot : Home → List AtomicRec → Calls → Trouble → Type 0
WhyNot home records calls t =
    ((t ≡ trouble.Failed) × IsLogFailed home records calls)
    ⊎ ((end : ℕ) × (now : ℕ) × (t ≡ trouble.Late end now) × IsOpenAnswered home records calls (Late end now))

-- the head stays open: a later send failed, or a later put failed or was late; the home that is left has the head of the newest put
abbrev pub WhyOpen : Home → List AtomicRec → Calls → Home → Trouble → Type 0
WhyOpen home records calls left t =
    ((t ≡ trouble.Failed) × IsPostFailed home records calls × (left ≡ with_head home (opened_of home records)))
    ⊎ ((a : Answer) × Refuses t a × IsSettleAnswered home records calls a × (left ≡ with_head home (settled_of home records)))

-- what an answer says of the calls up to it, and of the home that the commit leaves: but for its head it is the home that was handed in
abbrev pub Means : Home → List AtomicRec → Calls → Home → CommitAnswer → Type 0
Means home records calls left (Committed x) =
    (x ≡ home.attempt) × IsCommitted home records calls × (left ≡ with_head home (settled_of home records))
Means home records calls left (NotCommitted t) = WhyNot home records calls t × (left ≡ home)
Means home records calls left InDoubt = IsOpenAnswered home records calls Failed × (left ≡ with_head home (opened_of home records))
Means home records calls left (CommittedOpen t) = WhyOpen home records calls left t

-- the same of a turn; a stop is want of memory
abbrev pub MeansTurn : Home → List AtomicRec → Calls → Home → Turn CommitAnswer → Type 0
MeansTurn home records calls left More = Unit {0}
MeansTurn home records calls left (Ended a) = Means home records calls left a
MeansTurn home records calls left (Stopped t) = t ≡ trouble.Memory

-- what a step means by the whole run: of the commit of records by a home, the calls so far with this step's
abbrev pub Meant : Writing → Answer → Writing → Turn CommitAnswer → Type 0
Meant old answer new turn =
    (home : Home) (changes : List Noted) (records : List AtomicRec) (start : Writing) (h : List Deed) → begun (waiting home changes) records ≡ Goes start
    → Came writing_ask (LeadsBy writing_next) start h old → MeansTurn home records (told h ++ (writing_ask old, answer) ∷ []) new.home turn

-- What an opening or a recovery knows of a cloud at each of its calls.
use Rattle.std.specs.Prelude.{ℕ, ◌≡◌, ◌⊎◌, ◌<◌, ◌≤◌, Bool, true, List, [], ◌∷◌, ◌++◌, length, take, Option, Some, None, Result, Ok, Err}
use Rattle.std.specs.List.{AllByRecursion}
use Rattle.cloud_facts.specs.Calls.Acting.{opened_client, of_option}
use Rattle.cloud_facts.specs.Calls.Others.{WasSentOn}
use Rattle.cloud_facts.specs.Words.{IsClient, Trouble, AtomicRec, Head, Claim, Goes, Ends, Stops, Store, IsIn, StandsAt}
use Rattle.db_base.specs.declared.names.Lock.TheVariants as lock
use Rattle.db_base.specs.declared.trouble.Trouble.TheVariants as trouble
use Rattle.head_codec.specs.Head.{next_head}
use Rattle.cloud_facts.specs.Homes.Homes.{Opening, Part, Away, Opens}
use Rattle.cloud_facts.specs.Lefts.Left.{IsCopied}
use Rattle.recover_run.specs.declared.home.Home.{Home}
use Rattle.recover_run.specs.declared.items.AtomicItem.{AtomicItem}
use Rattle.recover_run.specs.declared.stage.RecoverAnswer.{RecoverAnswer}
use Rattle.recover_run.specs.declared.stage.Stage.{Stage}
use Rattle.recover_run.specs.declared.stage.Stage.TheVariants.{ReleasingOld, Taking, Getting, Receiving, Deleting, Sending, Putting, Clearing, Sweeping, Releasing, Finished}
use Rattle.recover_run.specs.declared.wanted.Wanted.{Wanted}
use Rattle.recover_run.specs.Gathering.{Gathered, nothing_gathered, wanted_of, is_lost, is_past}
use Rattle.recover_run.specs.Ids.{has_id}
use Rattle.recover_run.specs.Meaning.{head_behind}
use Rattle.recover_run.specs.Recovery.{Recovery, Step, home_of}
use Rattle.recover_run.proofs.Knows.{IsRising}
use Rattle.session_facts.specs.Machines.Openings.Client.{KnowsClient}
use Rattle.session_facts.specs.Sessions.Spent.{IsOfOpening}
use Rattle.cloud_facts.specs.Book.Messages.{IsLogMessage, IsDeleted}

-- ---- leases

-- those in hand
abbrev pub leases_of_recovery : Recovery → List Claim
leases_of_recovery r = of_option r.former ++ of_option r.lease

-- the old lease alone is in hand
pub record HasFormer (former lease : Option Claim) : Type 0 where
  pub old : Claim
  pub is : former ≡ Some old
  pub none : lease ≡ None

-- the client's lease alone is in hand
pub record HasLease (client : ℕ) (former lease : Option Claim) : Type 0 where
  pub now : Claim
  pub is : lease ≡ Some now
  pub lock : now.lock ≡ lock.Client client
  pub none : former ≡ None

-- ---- before the put

-- the log has a record of the client's transaction that is wanted
pub record IsCommitted (log : List AtomicRec) (client : ℕ) (w : Wanted) : Type 0 where
  pub of : AtomicRec
  pub logged : IsIn log of
  pub client_is : of.client ≡ client
  pub epoch_is : of.epoch ≡ w.epoch
  pub txn_is : of.txn ≡ w.txn

-- an item is an ATOMIC message that was sent, and one of the wanted records, which is committed
pub record IsWanted (st : Store) (client : ℕ) (w : Wanted) (x : AtomicItem) : Type 0 where
  pub message : IsLogMessage (st.tally.logged client) x.id x.rec
  pub logged : IsIn st.book.log x.rec
  pub client_is : x.rec.client ≡ client
  pub epoch_is : x.rec.epoch ≡ w.epoch
  pub txn_is : x.rec.txn ≡ w.txn
  pub within : x.rec.index ≤ w.count

-- the ATOMIC message of this number was sent, and its record passes a test
pub record IsMessageThat (st : Store) (client : ℕ) (test : AtomicRec → Bool) (id : ℕ) : Type 0 where
  pub of : AtomicRec
  pub message : IsLogMessage (st.tally.logged client) id of
  pub passes : test of ≡ true

abbrev pub opening_with : ℕ → Head → Claim → Opening
opening_with client read lease = record { client = client; read = read; lease = lease }

-- who opens: the client, the leases in hand, and the records that are wanted of its last transaction
pub record Opener : Type 0 where
  pub client : ℕ
  pub former : Option Claim
  pub lease : Option Claim
  pub wanted : Wanted

abbrev pub opener : ℕ → Option Claim → Option Claim → Wanted → Opener
opener client former lease w = record { client = client; former = former; lease = lease; wanted = w }

abbrev pub opener_of : Recovery → Opener
opener_of r = opener r.client r.former r.lease r.wanted

-- a head was read under the client's lease; some of the records that it counts are kept, by index
pub record HasRead (st : Store) (by : Opener) (kept : List AtomicItem) (part : Part) : Type 0 where
  pub held : HasLease by.client by.former by.lease
  pub before : Head
  pub part_is : part ≡ Opens (opening_with by.client before held.now)
  pub wanted_is : by.wanted ≡ wanted_of before
  pub committed : 1 ≤ by.wanted.count → IsCommitted st.book.log by.client by.wanted
  pub kept_are : AllByRecursion (IsWanted st by.client by.wanted) kept
  pub rising : IsRising 1 kept

-- no record was sent on yet
pub record Gathers (st : Store) (by : Opener) (head : Head) (kept : List AtomicItem) (part : Part) : Type 0 where
  pub read : HasRead st by kept part
  pub head_is : head ≡ next_head read.before

-- an ATOMIC message that was received; where its record is lost its number is noted
pub record WasSifted (st : Store) (client : ℕ) (w : Wanted) (lost : List ℕ) (id : ℕ) : Type 0 where
  pub of : AtomicRec
  pub message : IsLogMessage (st.tally.logged client) id of
  pub noted : is_lost w of ≡ true → has_id lost id ≡ true

-- of the lost records that were received these are still to be deleted, and the others are
pub record HasSifted (st : Store) (client : ℕ) (w : Wanted) (ids : List ℕ) (g : Gathered) : Type 0 where
  pub seen : (id : ℕ) → has_id g.seen id ≡ true → WasSifted st client w g.lost id
  pub deleted : (id : ℕ) → has_id g.lost id ≡ true → (has_id ids id ≡ true) ⊎ IsDeleted (st.tally.logged client) id

-- all records are kept that the head counts, and the first so many were sent on: they are pending in the head that is to be put
pub record SendsOn (st : Store) (by : Opener) (head : Head) (kept : List AtomicItem) (part : Part) (sent : ℕ) : Type 0 where
  pub read : HasRead st by kept part
  pub whole : length kept ≡ by.wanted.count
  pub head_is : head ≡ head_behind read.before (take sent kept)
  pub was_sent : (place : ℕ) (x : AtomicItem) → place < sent → StandsAt kept place x → WasSentOn st.tally x.rec × IsCopied st.tally x.rec

-- ---- behind it

-- the head of the next epoch landed: the client is open, and works on no commit
pub record HasPut (st : Store) (now : ℕ) (by : Opener) (head : Head) (part : Part) : Type 0 where
  pub held : HasLease by.client by.former by.lease
  pub home : KnowsClient st now (opened_client by.client held.now head 0) part
  pub later : by.wanted.epoch < head.epoch

-- ---- why it stops

-- a call failed or came too late, the lease was held, records were not received, the last epoch is reached, or memory ran out: no head and no
-- message is damaged
abbrev pub MayStopOpening : Trouble → Type 0
MayStopOpening trouble.Failed = Unit {0}
MayStopOpening (trouble.Late end now) = Unit {0}
MayStopOpening (trouble.Busy lock until) = Unit {0}
MayStopOpening (trouble.Waiting have need) = Unit {0}
MayStopOpening (trouble.Exhausted what) = IsOfOpening what
MayStopOpening trouble.Memory = Unit {0}
MayStopOpening t = ⊥

-- once its lease is given back it ends, or stops so
abbrev pub EndsWell : Result RecoverAnswer Trouble → Type 0
EndsWell (Ok a) = Unit {0}
EndsWell (Err t) = MayStopOpening t

abbrev pub MayEnd : Option (Result RecoverAnswer Trouble) → Type 0
MayEnd (Some ending) = EndsWell ending
MayEnd None = ⊥

-- ---- by the stage

abbrev pub KnowsGathering : Store → Recovery → Part → Type 0
KnowsGathering st r part = Gathers st (opener_of r) r.head r.gathered.kept part

abbrev pub KnowsSifted : Store → Recovery → List ℕ → Type 0
KnowsSifted st r ids = HasSifted st r.client r.wanted ids r.gathered

-- the newest receive brought lost records: they are new
abbrev pub KnowsLost : Store → Recovery → Type 0
KnowsLost st r = AllByRecursion (IsMessageThat st r.client (is_lost r.wanted)) r.ids × (r.gathered.fresh ≡ true)

abbrev pub KnowsSending : Store → Recovery → Part → ℕ → Type 0
KnowsSending st r part sent = SendsOn st (opener_of r) r.head r.gathered.kept part sent

abbrev pub KnowsPut : Store → ℕ → Recovery → Part → Type 0
KnowsPut st now r part = HasPut st now (opener_of r) r.head part

-- nothing was read yet
abbrev pub HasReadNothing : Recovery → Part → Type 0
HasReadNothing r part = (r.gathered ≡ nothing_gathered) × (part ≡ Away)

abbrev pub KnowsOpeningAt : Stage → Store → ℕ → Recovery → Part → Type 0
KnowsOpeningAt ReleasingOld st now r part = HasFormer r.former r.lease × HasReadNothing r part
KnowsOpeningAt Taking st now r part = (r.former ≡ None) × (r.lease ≡ None) × HasReadNothing r part
KnowsOpeningAt Getting st now r part = HasLease r.client r.former r.lease × HasReadNothing r part
KnowsOpeningAt Receiving st now r part = KnowsGathering st r part × KnowsSifted st r []
KnowsOpeningAt Deleting st now r part = KnowsGathering st r part × KnowsSifted st r r.ids × KnowsLost st r
KnowsOpeningAt Sending st now r part = KnowsSending st r part r.sent
KnowsOpeningAt Putting st now r part = KnowsSending st r part (length r.gathered.kept)
KnowsOpeningAt Clearing st now r part = KnowsPut st now r part × AllByRecursion (IsMessageThat st r.client (is_past r.wanted)) r.ids
KnowsOpeningAt Sweeping st now r part = KnowsPut st now r part
KnowsOpeningAt Releasing st now r part = HasLease r.client r.former r.lease × (part ≡ Away) × MayEnd r.ending
KnowsOpeningAt Finished st now r part = ⊥

pub record KnowsOpening (st : Store) (now : ℕ) (r : Recovery) (part : Part) : Type 0 where
  pub client : IsClient r.client
  pub at : KnowsOpeningAt r.stage st now r part

-- ---- where an answer leads

abbrev pub KnowsEnd : Option Home → Store → ℕ → Part → Type 0
KnowsEnd (Some h) st now part = KnowsClient st now (opened_client h.client h.lease h.head h.attempt) part
KnowsEnd None st now part = part ≡ Away

abbrev pub KnowsNext : Step → Store → ℕ → Part → Type 0
KnowsNext (Goes r) st now part = KnowsOpening st now r part
KnowsNext (Ends r a) st now part = KnowsEnd (home_of r) st now part
KnowsNext (Stops r t) st now part = part ≡ Away

-- the leases in hand there
abbrev pub leases_of_end : Option Home → List Claim
leases_of_end (Some h) = h.lease ∷ []
leases_of_end None = []

abbrev pub leases_of_next : Step → List Claim
leases_of_next (Goes r) = leases_of_recovery r
leases_of_next (Ends r a) = leases_of_end (home_of r)
leases_of_next (Stops r t) = []

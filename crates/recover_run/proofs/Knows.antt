-- What is known of a recovery at each stage by its calls so far, the newest first.
use Rattle.std.proofs.Common.{◌≡◌, ◌+◌, ◌≤◌, ℕ, List, [], ◌∷◌, ◌++◌, length, take, true, Option, Some, None, Result, Ok, Err, Bool}
use Rattle.std.specs.Prelude.{slice_get}
use Rattle.std.specs.List.{AllByRecursion}
use Rattle.db_base.specs.declared.names.Lock.TheVariants as lock
use Rattle.db_base.specs.declared.trouble.Trouble.{Trouble}
use Rattle.head_codec.specs.declared.head.Head.{Head}
use Rattle.head_codec.specs.Head.{next_head}
use Rattle.head_codec.specs.Spelling.{head_bytes}
use Rattle.log_codec.specs.declared.record.AtomicRec.{AtomicRec}
use Rattle.log_codec.specs.Pu.{pu_bytes}
use Rattle.route_plan.specs.Record.{pu_record_of}
use Rattle.cloud_trait.specs.declared.answer.Answer.TheVariants.{Given, Done}
use Rattle.cloud_trait.specs.Ask.{Take}
use Rattle.cloud_trait.specs.Claim.{Claim}
use Rattle.cloud_trait.specs.Machine.{Goes, Ends, Stops}
use Rattle.recover_run.specs.declared.items.AtomicItem.{AtomicItem}
use Rattle.recover_run.specs.declared.stage.Aim.{Aim}
use Rattle.recover_run.specs.declared.stage.Aim.TheVariants.{Settling}
use Rattle.recover_run.specs.declared.stage.Stage.{Stage}
use Rattle.recover_run.specs.declared.stage.Stage.TheVariants.{ReleasingOld, Taking, Getting, Receiving, Deleting, Sending, Putting, Clearing, Sweeping, Releasing, Finished}
use Rattle.recover_run.specs.declared.stage.RecoverAnswer.{RecoverAnswer}
use Rattle.recover_run.specs.declared.stage.RecoverAnswer.TheVariants.{Opened, Nothing}
use Rattle.recover_run.specs.declared.wanted.Wanted.{Wanted}
use Rattle.recover_run.specs.Calls.{Calls, Brought, IsStart, Reading, AreGathers, AreSends, AreSweeps}
use Rattle.recover_run.specs.Gathering.{is_lost, is_past, wanted_of}
use Rattle.recover_run.specs.Meaning.{IsKeptRecord, head_behind, put_of, Means}
use Rattle.recover_run.specs.Recovery.{Recovery, Step, new_recovery}

-- indices ascend strictly, from n on
abbrev pub IsRising : ℕ → List AtomicItem → Type 0
IsRising n [] = Unit {0}
IsRising n (x ∷ xs) = (n ≤ x.rec.index) × IsRising (x.rec.index + 1) xs

-- an id is that of a record which the calls brought, of these records
abbrev pub IsNamed : (AtomicRec → Bool) → Calls → ℕ → Type 0
IsNamed test cs id = (x : AtomicItem) × (x.id ≡ id) × (test x.rec ≡ true) × Brought x cs

-- the head was read, and these of its records were brought
pub record Known (old : Option Claim) (client : ℕ) (lease : Option Claim) (w : Wanted) (kept : List AtomicItem) : Type 0 where
  pub front : Calls
  pub reading : Reading client old front
  pub lease_is : lease ≡ Some reading.lease
  pub wanted_is : w ≡ wanted_of reading.head
  pub gathers : Calls
  pub gathered : AreGathers client w gathers
  pub brought : AllByRecursion (IsKeptRecord w gathers) kept
  pub rising : IsRising 1 kept

-- no record was sent yet
pub record KnowsGathering (old : Option Claim) (cs : Calls) (client : ℕ) (lease : Option Claim) (w : Wanted) (kept : List AtomicItem) (h : Head) : Type 0 where
  pub known : Known old client lease w kept
  pub head_is : h ≡ next_head known.reading.head
  pub calls : cs ≡ known.gathers ++ known.front

-- all records are kept, and so many of them were sent
pub record KnowsSent (old : Option Claim) (cs : Calls) (client : ℕ) (lease : Option Claim) (w : Wanted) (kept : List AtomicItem) (h : Head) (sent : ℕ) : Type 0 where
  pub known : Known old client lease w kept
  pub whole : length kept ≡ w.count
  pub sends : Calls
  pub sent_are : AreSends kept sent sends
  pub within : sent ≤ length kept
  pub head_is : h ≡ head_behind known.reading.head (take sent kept)
  pub calls : cs ≡ sends ++ (known.gathers ++ known.front)

-- all were
pub record KnowsPutting (old : Option Claim) (cs : Calls) (client : ℕ) (lease : Option Claim) (w : Wanted) (kept : List AtomicItem) (h : Head) : Type 0 where
  pub known : Known old client lease w kept
  pub whole : length kept ≡ w.count
  pub sends : Calls
  pub sent_are : AreSends kept (length kept) sends
  pub head_is : h ≡ head_behind known.reading.head kept
  pub calls : cs ≡ sends ++ (known.gathers ++ known.front)

-- and the head behind them was put
pub record KnowsPut (old : Option Claim) (cs : Calls) (client : ℕ) (lease : Option Claim) (w : Wanted) (kept : List AtomicItem) (h : Head) : Type 0 where
  pub known : Known old client lease w kept
  pub whole : length kept ≡ w.count
  pub sends : Calls
  pub sent_are : AreSends kept (length kept) sends
  pub head_is : h ≡ head_behind known.reading.head kept
  pub sweeps : Calls
  pub swept : AreSweeps client w known.gathers sweeps
  pub calls : cs ≡ sweeps ++ (put_of client known.reading.lease h, Done) ∷ (sends ++ (known.gathers ++ known.front))

abbrev pub Gathering : Option Claim → Calls → Recovery → Type 0
Gathering old cs r = KnowsGathering old cs r.client r.lease r.wanted r.gathered.kept r.head

abbrev pub SentSome : Option Claim → Calls → Recovery → Type 0
SentSome old cs r = KnowsSent old cs r.client r.lease r.wanted r.gathered.kept r.head r.sent

abbrev pub SentAll : Option Claim → Calls → Recovery → Type 0
SentAll old cs r = KnowsPutting old cs r.client r.lease r.wanted r.gathered.kept r.head

abbrev pub Put : Option Claim → Calls → Recovery → Type 0
Put old cs r = KnowsPut old cs r.client r.lease r.wanted r.gathered.kept r.head

-- a recovery with the client's lease, before it reads the head
abbrev pub getting : ℕ → Aim → Claim → Recovery
getting client aim l = record (new_recovery client aim None) { stage = Getting; lease = Some l }

pub record KnowsTaken (old : Option Claim) (cs : Calls) (r : Recovery) : Type 0 where
  pub lease : Claim
  pub start : Calls
  pub started : IsStart old start
  pub is : r ≡ getting r.client r.aim lease
  pub calls : cs ≡ (Take (lock.Client r.client) 600, Given lease) ∷ start

-- the next record is in hand
pub record KnowsSending (old : Option Claim) (cs : Calls) (r : Recovery) (o : Option AtomicItem) : Type 0 where
  pub so_far : SentSome old cs r
  pub item : AtomicItem
  pub here : o ≡ Some item
  pub out : r.out ≡ pu_bytes (pu_record_of item.rec)

-- a settling found no head
pub record KnowsNone (old : Option Claim) (cs : Calls) (r : Recovery) : Type 0 where
  pub front : Calls
  pub reading : Reading r.client old front
  pub lease_is : r.lease ≡ Some reading.lease
  pub settles : r.aim ≡ Settling
  pub none : reading.bytes ≡ None
  pub calls : cs ≡ front

abbrev pub KnowsEnding : Option (Result RecoverAnswer Trouble) → Option Claim → Calls → Recovery → Type 0
KnowsEnding (Some (Ok (Opened epoch))) old cs r = Put old cs r × (r.aim ≡ Settling) × (epoch ≡ r.head.epoch)
KnowsEnding (Some (Ok Nothing)) old cs r = KnowsNone old cs r
KnowsEnding (Some (Err t)) old cs r = Unit {0}
KnowsEnding None old cs r = Unit {0}

pub record KnowsDeleting (old : Option Claim) (cs : Calls) (r : Recovery) (ids : List ℕ) : Type 0 where
  pub so_far : Gathering old cs r
  pub some : 1 ≤ length ids
  pub named : AllByRecursion (IsNamed (is_lost r.wanted) so_far.known.gathers) ids

pub record KnowsClearing (old : Option Claim) (cs : Calls) (r : Recovery) (ids : List ℕ) : Type 0 where
  pub so_far : Put old cs r
  pub some : 1 ≤ length ids
  pub named : AllByRecursion (IsNamed (is_past r.wanted) (so_far.sweeps ++ so_far.known.gathers)) ids

abbrev pub KnowsAt : Stage → Option Claim → Calls → Recovery → Type 0
KnowsAt ReleasingOld old cs r = (l : Claim) × (old ≡ Some l) × (cs ≡ []) × (r ≡ new_recovery r.client r.aim (Some l))
KnowsAt Taking old cs r = IsStart old cs × (r ≡ new_recovery r.client r.aim None)
KnowsAt Getting old cs r = KnowsTaken old cs r
KnowsAt Receiving old cs r = Gathering old cs r
KnowsAt Deleting old cs r = KnowsDeleting old cs r r.ids
KnowsAt Sending old cs r = KnowsSending old cs r (slice_get r.gathered.kept r.sent)
KnowsAt Putting old cs r = SentAll old cs r × (r.out ≡ head_bytes r.head)
KnowsAt Clearing old cs r = KnowsClearing old cs r r.ids
KnowsAt Sweeping old cs r = Put old cs r
KnowsAt Releasing old cs r = KnowsEnding r.ending old cs r
KnowsAt Finished old cs r = Unit {0}

-- what is known where a step of a client's recovery leads
abbrev pub KnowsNext : ℕ → Aim → Option Claim → Calls → Step → Type 0
KnowsNext client aim old cs (Goes m) = (m.client ≡ client) × (m.aim ≡ aim) × KnowsAt m.stage old cs m
KnowsNext client aim old cs (Ends m a) = Means client aim old cs m a
KnowsNext client aim old cs (Stops m t) = Unit {0}

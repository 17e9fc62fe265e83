-- What a recovery did, by its whole run.
use Rattle.std.specs.Prelude.{ℕ, ◌≡◌, ◌≢◌, ◌+◌, true, List, [], ◌∷◌, ◌++◌, length, map, Option, Some, None}
use Rattle.std.specs.List.{AllByRecursion}
use Rattle.db_base.specs.declared.names.ObjName.TheVariants as object
use Rattle.db_base.specs.declared.trouble.Trouble.TheVariants as trouble
use Rattle.head_codec.specs.declared.head.Head.{Head}
use Rattle.head_codec.specs.Head.{next_head}
use Rattle.head_codec.specs.Spelling.{head_bytes}
use Rattle.route_plan.specs.Heads.{settled_head}
use Rattle.cloud_trait.specs.declared.answer.Answer.{Answer}
use Rattle.cloud_trait.specs.declared.answer.Answer.TheVariants.{Done}
use Rattle.cloud_trait.specs.declared.turn.Turn.{Turn}
use Rattle.cloud_trait.specs.declared.turn.Turn.TheVariants.{More, Ended, Stopped}
use Rattle.cloud_trait.specs.Ask.{Ask, PutHeld, Release}
use Rattle.cloud_trait.specs.Claim.{Claim}
use Rattle.recover_run.specs.declared.home.Home.{Home}
use Rattle.recover_run.specs.declared.items.AtomicItem.{AtomicItem}
use Rattle.recover_run.specs.declared.stage.Aim.{Aim}
use Rattle.recover_run.specs.declared.stage.Aim.TheVariants.{Opening, Settling}
use Rattle.recover_run.specs.declared.stage.RecoverAnswer.{RecoverAnswer}
use Rattle.recover_run.specs.declared.stage.RecoverAnswer.TheVariants.{Opened, Nothing}
use Rattle.recover_run.specs.declared.wanted.Wanted.{Wanted}
use Rattle.recover_run.specs.Calls.{Calls, Brought, Reading, AreGathers, AreSends, AreSweeps}
use Rattle.recover_run.specs.Gathering.{is_counted, wanted_of}
use Rattle.recover_run.specs.Recovery.{Recovery, home_of}

-- the records have the indices from n on, one behind the other
abbrev pub AreNumbered : ℕ → List AtomicItem → Type 0
AreNumbered n [] = Unit {0}
AreNumbered n (x ∷ xs) = (x.rec.index ≡ n) × AreNumbered (n + 1) xs

-- one of the records that the head counts, which the calls brought
abbrev pub IsKeptRecord : Wanted → Calls → AtomicItem → Type 0
IsKeptRecord w cs x = (is_counted w x.rec ≡ true) × Brought x cs

-- the head of the next epoch, with the records pending behind what was
abbrev pub head_behind : Head → List AtomicItem → Head
head_behind h kept = settled_head (next_head h) (map (λ (x : AtomicItem). x.rec) kept)

abbrev pub put_of : ℕ → Claim → Head → Ask
put_of client lease h = PutHeld (object.Head client) (head_bytes h) lease None

-- a settling gives the lease back at its end
abbrev pub IsClosing : Aim → Claim → Calls → Type 0
IsClosing Opening lease cs = cs ≡ []
IsClosing Settling lease cs = (a : Answer) × (cs ≡ (Release lease, a) ∷ [])

-- what is handed out behind Opened: in an opening the home of the client, under its lease and with its head, and none in a settling
abbrev pub home_opened : Aim → ℕ → Claim → Head → Option Home
home_opened Opening client lease h = Some (record { client = client; lease = lease; head = h; attempt = 0 })
home_opened Settling client lease h = None

-- the client was opened: every record that its head counts was received and sent on, in order of index, and no other; then the head was
-- put in the next epoch with them pending; and then messages of past epochs were deleted; an opening alone hands out a home, which is that client's
pub record IsOpened (client : ℕ) (aim : Aim) (old : Option Claim) (calls : Calls) (left : Recovery) (epoch : ℕ) : Type 0 where
  pub front : Calls
  pub reading : Reading client old front
  pub gathers : Calls
  pub gathered : AreGathers client (wanted_of reading.head) gathers
  pub kept : List AtomicItem
  pub brought : AllByRecursion (IsKeptRecord (wanted_of reading.head) gathers) kept
  pub numbered : AreNumbered 1 kept
  pub whole : length kept ≡ (wanted_of reading.head).count
  pub sends : Calls
  pub sent : AreSends kept (length kept) sends
  pub sweeps : Calls
  pub swept : AreSweeps client (wanted_of reading.head) gathers sweeps
  pub closing : Calls
  pub closes : IsClosing aim reading.lease closing
  pub are : calls ≡ closing ++ (sweeps ++ (put_of client reading.lease (head_behind reading.head kept), Done) ∷ (sends ++ (gathers ++ front)))
  pub head : left.head ≡ head_behind reading.head kept
  pub epoch_is : epoch ≡ reading.head.epoch + 1
  pub home : home_of left ≡ home_opened aim client reading.lease (head_behind reading.head kept)

-- a settling found no head, and gave the lease back
pub record IsNothing (client : ℕ) (aim : Aim) (old : Option Claim) (calls : Calls) : Type 0 where
  pub front : Calls
  pub reading : Reading client old front
  pub settles : aim ≡ Settling
  pub none : reading.bytes ≡ None
  pub answer : Answer
  pub are : calls ≡ (Release reading.lease, answer) ∷ front

-- what an answer says of the calls up to it, and of what the recovery leaves
abbrev pub Means : ℕ → Aim → Option Claim → Calls → Recovery → RecoverAnswer → Type 0
Means client aim old calls left (Opened epoch) = IsOpened client aim old calls left epoch
Means client aim old calls left Nothing = IsNothing client aim old calls

abbrev pub MeansTurn : ℕ → Aim → Option Claim → Calls → Recovery → Turn RecoverAnswer → Type 0
MeansTurn client aim old calls left More = Unit {0}
MeansTurn client aim old calls left (Ended a) = Means client aim old calls left a
MeansTurn client aim old calls left (Stopped t) = Unit {0}

-- no home is handed out but behind Opened
abbrev pub HandsNone : Recovery → Turn RecoverAnswer → Type 0
HandsNone left More = home_of left ≡ None
HandsNone left (Ended (Opened epoch)) = Unit {0}
HandsNone left (Ended Nothing) = home_of left ≡ None
HandsNone left (Stopped t) = t ≢ trouble.Memory → home_of left ≡ None

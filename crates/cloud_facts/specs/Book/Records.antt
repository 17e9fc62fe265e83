-- The records of the log: of which queue and key they are, whether they are applied, and whether they are under way.
use Rattle.std.specs.Prelude.{ℕ, ◌≡◌, ◌≢◌, ◌≤◌, ◌==◌, ◌&&◌, Bool, true, false, List, [], ◌∷◌, length, filter, map, slice_get, Some}
use Rattle.std.specs.Str.{bytes_eq}
use Rattle.db_base.specs.Change.{key_of}
use Rattle.head_codec.specs.declared.head.Head.{Head}
use Rattle.head_codec.specs.declared.head.Phase.{Phase}
use Rattle.head_codec.specs.declared.head.Phase.TheVariants.{Settled, Open}
use Rattle.log_codec.specs.declared.record.AtomicRec.{AtomicRec}
use Rattle.report_types.specs.declared.entry.Entry.{Entry}
use Rattle.route_plan.specs.Route.{goes_to}
use Rattle.cloud_facts.specs.Book.Tally.{Tally}

-- something stands at a place of a list, and somewhere in it
abbrev pub StandsAt : {A : Type 0} → List A → ℕ → A → Type 0
StandsAt xs place x = slice_get xs place ≡ Some x

abbrev pub IsIn : {A : Type 0} → List A → A → Type 0
IsIn xs x = (place : ℕ) × StandsAt xs place x

-- nothing comes twice
abbrev pub Apart : {A : Type 0} → List A → Type 0
Apart [] = Unit {0}
Apart {A} (x ∷ xs) = ((y : A) → IsIn xs y → y ≢ x) × Apart xs

-- ---- which records

abbrev pub key_in : AtomicRec → List ℕ
key_in r = key_of r.change

-- the client's records of a queue, in the order of commit
abbrev pub is_of_queue : ℕ → ℕ → ℕ → AtomicRec → Bool
is_of_queue tree page client r = (r.client == client) && goes_to tree page r

abbrev pub of_queue : ℕ → ℕ → ℕ → List AtomicRec → List AtomicRec
of_queue tree page client log = filter (is_of_queue tree page client) log

abbrev pub count_of : ℕ → ℕ → ℕ → List AtomicRec → ℕ
count_of tree page client log = length (of_queue tree page client log)

-- the client's records of a tree and key, in the order of commit
abbrev pub is_of_key : ℕ → List ℕ → ℕ → AtomicRec → Bool
is_of_key tree key client r = ((r.client == client) && (r.tree == tree)) && bytes_eq (key_in r) key

abbrev pub of_key : ℕ → List ℕ → ℕ → List AtomicRec → List AtomicRec
of_key tree key client log = filter (is_of_key tree key client) log

-- the committed entry of a record, and the committed entries of a log
abbrev pub entry_of : AtomicRec → Entry
entry_of r = record { client = r.client; epoch = r.epoch; txn = r.txn; tree = r.tree; change = r.change }

abbrev pub entries_of : List AtomicRec → List Entry
entries_of log = map entry_of log

-- ---- how a record stands

-- the leaf that holds its key has applied it
abbrev pub IsApplied : Tally → AtomicRec → Type 0
IsApplied t r = r.number ≤ t.done r.tree (key_in r) r.page r.client

abbrev pub is_open : Phase → Bool
is_open (Open count) = true
is_open Settled = false

-- it is of the epoch and transaction of a head
abbrev pub is_of_head : Head → AtomicRec → Bool
is_of_head h r = (r.epoch == h.epoch) && (r.txn == h.txn)

-- its client's newest head is open, and it is of its transaction
abbrev pub is_under_way : Tally → AtomicRec → Bool
is_under_way t r = is_open (t.head r.client).phase && is_of_head (t.head r.client) r

abbrev pub IsUnderWay : Tally → AtomicRec → Type 0
IsUnderWay t r = is_under_way t r ≡ true

abbrev pub IsPast : Tally → AtomicRec → Type 0
IsPast t r = is_under_way t r ≡ false

-- the client's records that are under way, in the order of commit
abbrev pub under_way : Tally → ℕ → List AtomicRec → List AtomicRec
under_way t client log = filter (λ r. (r.client == client) && is_under_way t r) log

-- The records of a commit.
use Rattle.std.specs.Prelude.{ℕ, ◌+◌, ◌^◌, ◌<◌, ◌≤◌, ◌==◌, ◌&&◌, Bool, List, [], ◌∷◌, ◌++◌, length, count_by, All, Any, if◌then◌else◌}
use Rattle.head_codec.specs.declared.head.Head.{Head}
use Rattle.log_codec.specs.declared.record.AtomicRec.{AtomicRec}
use Rattle.txn_buffer.specs.Noted.{Noted}
use Rattle.route_plan.specs.Queue.{number_of_queue, queue_of}

-- whether a record goes to a queue
abbrev pub goes_to : ℕ → ℕ → AtomicRec → Bool
goes_to tree page r = (r.tree == tree) && (r.page == page)

-- the number of the next record of a queue: one more than the head's counter and the earlier records of the queue
abbrev pub next_number : Head → List AtomicRec → ℕ → ℕ → ℕ
next_number head earlier tree page = number_of_queue head.counters tree page + 1 + count_by (goes_to tree page) earlier

-- what the records of a commit have in common: whose it is, under which epoch, the number of its transaction, and how many they are
pub record Transaction : Type 0 where
  pub client : ℕ
  pub epoch : ℕ
  pub txn : ℕ
  pub count : ℕ

abbrev pub transaction : ℕ → ℕ → ℕ → ℕ → Transaction
transaction client epoch txn count = record { client = client; epoch = epoch; txn = txn; count = count }

-- the record of a change behind the earlier ones of a commit
abbrev pub record_behind : Transaction → Head → List AtomicRec → Noted → ℕ → AtomicRec
record_behind own head earlier noted leaf =
    let page = queue_of head.pending noted.tree noted.change leaf in
    record {
      client = own.client;
      epoch = own.epoch;
      txn = own.txn;
      index = length earlier + 1;
      count = own.count;
      tree = noted.tree;
      page = page;
      number = next_number head earlier noted.tree page;
      change = noted.change;
    }

-- the records of changes behind the earlier ones of the commit; each change has the leaf that the client's walk came to
abbrev pub routed_behind : Transaction → Head → List AtomicRec → List Noted → List ℕ → List AtomicRec
routed_behind own head earlier [] leaves = []
routed_behind own head earlier (noted ∷ changes) [] = []
routed_behind own head earlier (noted ∷ changes) (leaf ∷ leaves) =
    record_behind own head earlier noted leaf ∷ routed_behind own head (earlier ++ record_behind own head earlier noted leaf ∷ []) changes leaves

-- the records of a commit's changes
abbrev pub routed : ℕ → ℕ → ℕ → Head → List Noted → List ℕ → List AtomicRec
routed client epoch txn head changes leaves = routed_behind (transaction client epoch txn (length changes)) head [] changes leaves

-- a number would pass the greatest u64
abbrev pub PassesGreatest : List AtomicRec → Type 0
PassesGreatest records = Any (λ r. 2 ^ 64 ≤ r.number) records

-- every number is a u64
abbrev pub AllFit : List AtomicRec → Type 0
AllFit records = All (λ r. r.number < 2 ^ 64) records

-- the number of the last record of a queue, or the one before where there is none
abbrev pub last_number : ℕ → ℕ → ℕ → List AtomicRec → ℕ
last_number tree page before [] = before
last_number tree page before (r ∷ records) = last_number tree page (if goes_to tree page r then r.number else before) records

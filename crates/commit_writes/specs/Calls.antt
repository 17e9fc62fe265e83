-- The calls of a commit with what it writes, the oldest first, each with its answer.
use Rattle.std.specs.Prelude.{ℕ, List, [], ◌∷◌, ◌++◌, None}
use Rattle.db_base.specs.declared.names.ObjName.TheVariants as object
use Rattle.db_base.specs.declared.names.QueueName.TheVariants as queue
use Rattle.head_codec.specs.declared.head.Head.{Head}
use Rattle.head_codec.specs.Spelling.{head_bytes}
use Rattle.log_codec.specs.declared.record.AtomicRec.{AtomicRec}
use Rattle.log_codec.specs.Atomic.{atomic_bytes}
use Rattle.log_codec.specs.Pu.{pu_bytes}
use Rattle.route_plan.specs.Queue.{queue_name}
use Rattle.route_plan.specs.Record.{pu_record_of}
use Rattle.route_plan.specs.Heads.{opened_head, settled_head}
use Rattle.cloud_trait.specs.declared.answer.Answer.{Answer}
use Rattle.cloud_trait.specs.declared.answer.Answer.TheVariants.{Sent, Done}
use Rattle.cloud_trait.specs.Ask.{Ask, PutHeld, Send, Delete}
use Rattle.cloud_trait.specs.Machine.{Deed}
use Rattle.recover_run.specs.declared.home.Home.{Home}

-- what calls asked and answered
abbrev pub Calls : Type 0
Calls = List (Ask × Answer)

-- the calls of a history, the oldest first
abbrev pub told : List Deed → Calls
told [] = []
told (d ∷ h) = told h ++ (d.ask, d.answer) ∷ []

-- a record is sent to the client's ATOMIC queue
abbrev pub log_of : ℕ → AtomicRec → Ask
log_of client r = Send (queue.Atomic client) (atomic_bytes r)

-- records are sent to the client's ATOMIC queue, in their order, and the messages have these ids
abbrev pub logged_calls : ℕ → List AtomicRec → List ℕ → Calls
logged_calls client [] ids = []
logged_calls client (r ∷ rs) [] = []
logged_calls client (r ∷ rs) (id ∷ ids) = (log_of client r, Sent id) ∷ logged_calls client rs ids

-- a record is sent to its pending update queue
abbrev pub post_of : AtomicRec → Ask
post_of r = Send (queue_name r.tree r.page) (pu_bytes (pu_record_of r))

-- records are sent to their pending update queues, in their order, and the messages have these ids
abbrev pub posted_calls : List AtomicRec → List ℕ → Calls
posted_calls [] ids = []
posted_calls (r ∷ rs) [] = []
posted_calls (r ∷ rs) (id ∷ ids) = (post_of r, Sent id) ∷ posted_calls rs ids

-- messages of the client's ATOMIC queue are deleted, in their order, with these answers
abbrev pub deleted_calls : ℕ → List ℕ → List Answer → Calls
deleted_calls client [] answers = []
deleted_calls client (id ∷ ids) [] = []
deleted_calls client (id ∷ ids) (a ∷ answers) = (Delete (queue.Atomic client) id, a) ∷ deleted_calls client ids answers

-- a head is put under the home's lease
abbrev pub put_of : Home → Head → Ask
put_of home head = PutHeld (object.Head home.client) (head_bytes head) home.lease None

-- the head that commits records at the home's attempt
abbrev pub opened_of : Home → List AtomicRec → Head
opened_of home records = opened_head home.head home.attempt records

-- the head that settles them
abbrev pub settled_of : Home → List AtomicRec → Head
settled_of home records = settled_head (opened_of home records) records

-- all records are in the ATOMIC queue
abbrev pub all_logged : Home → List AtomicRec → List ℕ → Calls
all_logged home records ids = logged_calls home.client records ids

-- .. and the head that commits them landed
abbrev pub all_opened : Home → List AtomicRec → List ℕ → Calls
all_opened home records ids = all_logged home records ids ++ (put_of home (opened_of home records), Done) ∷ []

-- .. and so many of them are in their pending update queues
abbrev pub all_posted : Home → List AtomicRec → List ℕ → List AtomicRec → List ℕ → Calls
all_posted home records ids sent posts = all_opened home records ids ++ posted_calls sent posts

-- .. all of them, and the head that settles them landed
abbrev pub all_settled : Home → List AtomicRec → List ℕ → List ℕ → Calls
all_settled home records ids posts = all_posted home records ids records posts ++ (put_of home (settled_of home records), Done) ∷ []

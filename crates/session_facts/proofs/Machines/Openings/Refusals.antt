-- Why an answer stops an opening: a call failed, came too late or ran out of memory, and the lease may be held. No head and no message is damaged.
use Rattle.std.proofs.Common.{◌≡◌, ℕ, List, [], ◌∷◌, map, Option, Some, None, Result, Ok, Err, refl, subst, ◌∙◌}
use Rattle.std.specs.List.{AllByRecursion}
use Rattle.cloud_facts.specs.Words.{AtomicRec, Head, CloudState, newest}
use Rattle.cloud_trait.specs.declared.message.Message.{Message}
use Rattle.cloud_trait.specs.Delivery.{WasSent}
use Rattle.db_base.specs.declared.names.ObjName.TheVariants as object
use Rattle.db_base.specs.declared.names.QueueName.TheVariants as queue
use Rattle.cloud_facts.specs.Decoding.Decodes.{Decodes}
use Rattle.cloud_facts.proofs.Decoding.Values.{newest_head_decodes, message_decodes}
use Rattle.head_codec.specs.Head.{empty_head}
use Rattle.head_codec.specs.Spelling.{head_of}
use Rattle.log_codec.specs.Atomic.{atomic_of}
use Rattle.session_facts.specs.Machines.Openings.Knows.{MayStopOpening}
use Rattle.recover_run.specs.declared.items.AtomicItem.{AtomicItem}
use Rattle.recover_run.specs.Items.{items_of, with_first}
use Rattle.cloud_facts.specs.Book.Telling.{last_or, head_in}
use Rattle.session_facts.proofs.Machines.Refusals.{TakesRefusals}

-- an answer that brings no value stops it
pub opening_refusals : TakesRefusals MayStopOpening
opening_refusals = record { failed = tt; late = λ until now. tt; memory = tt }

-- ---- what is read

-- bytes that are there spell a head
abbrev pub ReadsHead : Option (List ℕ) → Type 0
ReadsHead None = Unit {0}
ReadsHead (Some bytes) = (h : Head) × (head_of bytes ≡ Some h)

-- each message is a record
abbrev pub AllRead : List Message → Type 0
AllRead ms = (bad : Message) → items_of ms ≡ Err bad → ⊥

-- the newest head of a client decodes
pub newest_reads : (s : CloudState) (client : ℕ) (v : Option (List ℕ)) → Decodes s → newest s (object.Head client) ≡ v → ReadsHead v
newest_reads s client None decodes e = tt
newest_reads s client (Some bytes) decodes e = (last_or empty_head (map head_in (s.versions (object.Head client))), newest_head_decodes s client bytes decodes e)

-- messages that were sent are records
pub all_read : (s : CloudState) (client : ℕ) → Decodes s → (ms : List Message) → AllByRecursion (WasSent (s.messages (queue.Atomic client))) ms → AllRead ms
all_read s client decodes [] was bad e = cc
all_read s client decodes (m ∷ ms) was bad e = on (λ q. all_read s client decodes ms was.1 bad q) (items_of ms) refl e
  where
    record_of : (r : AtomicRec) × (atomic_of m.bytes ≡ Some r) × (r.client ≡ client)
    record_of = message_decodes s (queue.Atomic client) m.id m.bytes decodes was.0

    at : (g : Result (List AtomicItem) Message) → with_first m (Some record_of.0) g ≡ Err bad → g ≡ Err bad
    at (Ok items) h = absurd (cc)
    at (Err b) h = cc

    on : (items_of ms ≡ Err bad → ⊥) → (g : Result (List AtomicItem) Message) → items_of ms ≡ g → with_first m (atomic_of m.bytes) g ≡ Err bad → ⊥
    on again g q h = again (q ∙ at g (subst (λ (o : Option AtomicRec). with_first m o g ≡ Err bad) record_of.1 h))

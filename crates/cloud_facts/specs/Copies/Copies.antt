-- The copies of the committed records in the pending update queues: a client's are sent in the order of their numbers.
use Rattle.std.specs.Prelude.{ℕ, ◌≡◌, ◌+◌, ◌<◌, ◌≤◌, ◌&&◌, true, false, List, Some}
use Rattle.db_base.specs.Ids.{IsClient}
use Rattle.cloud_trait.specs.declared.message.Message.{Message}
use Rattle.cloud_trait.specs.declared.state.Posted.{Posted}
use Rattle.head_codec.specs.declared.head.Head.{Head}
use Rattle.log_codec.specs.Pu.{pu_of}
use Rattle.log_codec.specs.declared.record.AtomicRec.{AtomicRec}
use Rattle.log_codec.specs.declared.record.PuItem.{PuItem}
use Rattle.log_codec.specs.declared.record.PuRec.{PuRec}
use Rattle.route_plan.specs.Record.{pu_record_of}
use Rattle.cloud_facts.specs.Book.Messages.{HasCopy}
use Rattle.cloud_facts.specs.Book.Records.{StandsAt, IsIn, IsPast, is_open, is_of_head}
use Rattle.cloud_facts.specs.Book.Tally.{Tally, Store}

-- the message at a place of a queue is a client's record of a number
pub record IsCopy (posts : List Posted) (client number place : ℕ) : Type 0 where
  pub message : Posted
  pub rec : PuRec
  pub there : StandsAt posts place message
  pub reads : pu_of message.bytes ≡ Some rec
  pub client_is : rec.client ≡ client
  pub number_is : rec.number ≡ number

-- it is the first copy: no earlier message is that record
pub record IsFirst (posts : List Posted) (client number place : ℕ) : Type 0 where
  pub copy : IsCopy posts client number place
  pub earliest : (i : ℕ) → IsCopy posts client number i → place ≤ i

-- a copy stands before a place
pub record HasBefore (posts : List Posted) (client number place : ℕ) : Type 0 where
  pub at : ℕ
  pub copy : IsCopy posts client number at
  pub before : at < place

-- a record was sent on to its queue
abbrev pub IsSentOn : Tally → AtomicRec → Type 0
IsSentOn t r = HasCopy (t.posts r.tree r.page) (pu_record_of r)

-- of two records of one client that are under way, the first stands before the second in the log
pub record WayBefore (head : ℕ → Head) (log : List AtomicRec) (q r : AtomicRec) : Type 0 where
  pub i : ℕ
  pub j : ℕ
  pub before : i < j
  pub one : StandsAt log i q
  pub other : StandsAt log j r
  pub client_is : q.client ≡ r.client
  pub way_one : is_open (head q.client).phase && is_of_head (head q.client) q ≡ true
  pub way_other : is_open (head r.client).phase && is_of_head (head r.client) r ≡ true

pub record Copies (st : Store) : Type 0 where
  -- before each copy of a number, the number before was sent
  pub in_turn : (tree page client number place : ℕ) → 1 ≤ number → IsCopy (st.tally.posts tree page) client (number + 1) place
      → HasBefore (st.tally.posts tree page) client number place
  -- the first copy of a number above the cursor is not deleted
  pub unmarked : (tree page client number place : ℕ) → IsClient client → st.tally.cursor tree page client < number
      → (first : IsFirst (st.tally.posts tree page) client number place) → first.copy.message.deleted ≡ false
  -- of a client's records under way those sent are a first part, in the log's order
  pub ways : (q r : AtomicRec) → WayBefore st.tally.head st.book.log q r → IsSentOn st.tally r → IsSentOn st.tally q

-- a record under way is sent only behind those under way of its client before it in the log
abbrev pub SendsInTurn : Store → AtomicRec → Type 0
SendsInTurn st r = (q : AtomicRec) → WayBefore st.tally.head st.book.log q r → IsSentOn st.tally q

-- a record that is not under way was sent
abbrev pub PastIsSent : Store → Type 0
PastIsSent st = (r : AtomicRec) → IsIn st.book.log r → IsPast st.tally r → IsSentOn st.tally r

-- ---- what settling rests on

-- the first copies of a client's numbers above a cursor
pub record FirstCopies (posts : List Posted) (client cursor : ℕ) : Type 0 where
  -- where a number was sent, so was each above the cursor and below it
  pub no_gap : (number upto place : ℕ) → cursor < number → number ≤ upto → IsCopy posts client upto place → (i : ℕ) × IsFirst posts client number i
  -- they stand in the order of their numbers
  pub in_order : (a b i j : ℕ) → cursor < a → a < b → IsFirst posts client a i → IsFirst posts client b j → i < j
  pub unmarked : (number place : ℕ) → cursor < number → (first : IsFirst posts client number place) → first.copy.message.deleted ≡ false

-- a client's record of a number is among messages
pub record IsAmong (messages : List Message) (client number : ℕ) : Type 0 where
  pub message : Message
  pub rec : PuRec
  pub there : IsIn messages message
  pub reads : pu_of message.bytes ≡ Some rec
  pub client_is : rec.client ≡ client
  pub number_is : rec.number ≡ number

-- items are the records of messages
pub record AreItems (messages : List Message) (items : List PuItem) : Type 0 where
  pub of : (x : PuItem) → IsIn items x → (m : Message) × IsIn messages m × (pu_of m.bytes ≡ Some x.rec)
  pub all : (m : Message) (rec : PuRec) → IsIn messages m → pu_of m.bytes ≡ Some rec → (x : PuItem) × IsIn items x × (x.rec ≡ rec)

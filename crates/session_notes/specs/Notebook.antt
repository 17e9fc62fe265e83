-- What is kept of a session for the choice of its checkpoints, and how it goes on.
use Rattle.std.specs.Prelude.{ℕ, ◌≡◌, Bool, true, false, List, [], ◌∷◌, ◌++◌, slice_get, slice_set, Option, Some, None}
use Rattle.cloud_trait.specs.Ask.{Ask, Get, GetHeld, PutHeld, ListHeld, RemoveHeld, Send, Receive, Delete, Take, Renew, Release}
use Rattle.db_base.specs.declared.names.ObjName.{ObjName}
use Rattle.db_base.specs.declared.names.ObjName.TheVariants as object
use Rattle.db_base.specs.declared.names.QueueName.{QueueName}
use Rattle.db_base.specs.declared.names.QueueName.TheVariants.{Atomic, TreePu, PagePu}
use Rattle.ckpt_policy.specs.declared.note.Note.{Note}
use Rattle.ckpt_policy.specs.declared.note.Note.TheVariants.{Sent, Got, Kept}
use Rattle.ckpt_policy.specs.Due.{due}
use Rattle.ckpt_policy.specs.Ledger.{Account, StandsFor}
use Rattle.session_notes.specs.declared.notebook.Notebook.{Notebook}

-- ---- the notes of calls

-- a send counts where its queue is one of pending updates
abbrev pub note_of_send : QueueName → Option Note
note_of_send (Atomic client) = None
note_of_send (TreePu tree) = Some (Sent (TreePu tree))
note_of_send (PagePu tree page) = Some (Sent (PagePu tree page))

-- a get counts where it is of a page
abbrev pub note_of_get : ObjName → Option Note
note_of_get (object.Head client) = None
note_of_get (object.Tree tree) = None
note_of_get (object.Page tree page) = Some (Got (PagePu tree page))

-- whatever it is answered
abbrev pub note_of_ask : Ask → Option Note
note_of_ask (Get name) = note_of_get name
note_of_ask (Send queue bytes) = note_of_send queue
note_of_ask (GetHeld name lease) = None
note_of_ask (PutHeld name bytes one two) = None
note_of_ask (ListHeld tree lease) = None
note_of_ask (RemoveHeld name lease) = None
note_of_ask (Receive queue most) = None
note_of_ask (Delete queue id) = None
note_of_ask (Take lock ticks) = None
note_of_ask (Renew lease ticks) = None
note_of_ask (Release lease) = None

-- the note of a checkpoint of a queue that was done
abbrev pub note_of_done : Option QueueName → Option Note
note_of_done None = None
note_of_done (Some queue) = Some (Kept queue)

-- that of an operation's end, where it was a checkpoint that was done
abbrev pub note_of_end : Bool → Option QueueName → Option Note
note_of_end true queue = note_of_done queue
note_of_end false queue = None

-- ---- one session

-- no ledger, and no checkpoint in hand
abbrev pub blank : Notebook
blank = record { ledger = None; queue = None }

-- notes with one more, where there is one
abbrev pub with_note : List Note → Option Note → List Note
with_note notes None = notes
with_note notes (Some note) = notes ++ note ∷ []

-- an account by the rule of another
pub record IsByRuleOf (old new : Account) : Type 0 where
  pub role : new.role ≡ old.role
  pub k : new.k ≡ old.k
  pub client : new.client ≡ old.client

-- a ledger stands for each list of notes for which it stood, with the note at its end; its rule stays
pub record TakesNote (note : Option Note) (old new : Account) : Type 0 where
  pub rule : IsByRuleOf old new
  pub stands : (notes : List Note) → StandsFor old notes → StandsFor new (with_note notes note)

abbrev pub LedgerTakes : Option Note → Option Account → Option Account → Type 0
LedgerTakes taken None new = new ≡ None
LedgerTakes taken (Some old) None = ⊥
LedgerTakes taken (Some old) (Some new) = TakesNote taken old new

-- a notebook goes on by a note: its ledger takes it, and the checkpoint in hand stays
pub record GoesOnBy (note : Option Note) (old new : Notebook) : Type 0 where
  pub ledger : LedgerTakes note old.ledger new.ledger
  pub queue : new.queue ≡ old.queue

-- the checkpoint in hand was done
abbrev pub GoesOnKept : Notebook → Notebook → Type 0
GoesOnKept old new = GoesOnBy (note_of_done old.queue) old new

-- what it had in hand came to its end
abbrev pub GoesOnEnded : Bool → Notebook → Notebook → Type 0
GoesOnEnded done old new = GoesOnBy (note_of_end done old.queue) old new

-- the queues that are due by its ledger, whatever notes it stands for; none without one
abbrev pub AreDue : Option Account → List QueueName → Type 0
AreDue None queues = queues ≡ []
AreDue (Some account) queues = (notes : List Note) → StandsFor account notes → queues ≡ due account.role account.k account.client notes

abbrev pub IsDue : Notebook → List QueueName → Type 0
IsDue book queues = AreDue book.ledger queues

-- ---- all sessions

-- the notebook of a session does this, and the others stay
pub record ChangesBook (number : ℕ) (Does : Notebook → Notebook → Type 0) (old new : List Notebook) : Type 0 where
  pub before : Notebook
  pub after : Notebook
  pub there : slice_get old number ≡ Some before
  pub does : Does before after
  pub rest : new ≡ slice_set old number after

-- the queues that are due to the session of a number
pub record IsDueAt (number : ℕ) (books : List Notebook) (queues : List QueueName) : Type 0 where
  pub book : Notebook
  pub there : slice_get books number ≡ Some book
  pub due : IsDue book queues

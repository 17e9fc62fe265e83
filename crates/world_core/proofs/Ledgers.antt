-- A writer's ledger, as the steps and lines of its session leave it.
use Rattle.std.proofs.Common.{◌≡◌, ◌<◌, ℕ, Bool, true, false, List, [], ◌∷◌, ◌++◌, length, Option, Some, None, refl, sym, ap, subst, ◌∙◌}
use Rattle.std.specs.Prelude.{slice_get, slice_set}
use Rattle.std.proofs.lemmas.List.{get_or-set_same, length-set}
use Rattle.std.proofs.lemmas.Option.{slice_get_within, slice_get-get_or, same_Some}
use Rattle.ckpt_policy.specs.declared.note.Note.{Note}
use Rattle.ckpt_policy.specs.declared.note.Note.TheVariants.{Kept}
use Rattle.ckpt_policy.specs.Ledger.{Account}
use Rattle.client_work.specs.declared.answer.Answer.{Answer}
use Rattle.client_work.specs.declared.work.Work.{Work}
use Rattle.client_work.specs.Session.{ask_of_work}
use Rattle.cloud_trait.specs.declared.turn.Turn.{Turn}
use Rattle.db_base.specs.declared.names.QueueName.{QueueName}
use Rattle.session_notes.specs.declared.notebook.Notebook.{Notebook}
use Rattle.session_notes.specs.Notebook.{ChangesBook, GoesOnBy, LedgerTakes, note_of_done, note_of_end, with_note}
use Rattle.world_core.specs.Handled.{NotesStep, is_done, note_of_hand}
use Rattle.world_core.specs.Metered.{IsWriters, HasLedger}

-- ---- the notebooks

set_there : (books : List Notebook) (place : ℕ) (before after : Notebook) → slice_get books place ≡ Some before → slice_get (slice_set books place after) place ≡ Some after
set_there books place before after there =
    let within : place < length books = slice_get_within books place before there in
    let more : place < length (slice_set books place after) = subst (λ (n : ℕ). place < n) (sym (length-set books place after)) within in
    slice_get-get_or (slice_set books place after) place after more ∙ ap (λ (b : Notebook). Some b) (get_or-set_same books place after after within)

-- the one of a number behind a change
pub book_after : (number : ℕ) (Does : Notebook → Notebook → Type 0) (old new : List Notebook) → (c : ChangesBook number Does old new) → slice_get new number ≡ Some c.after
book_after number Does old new c = ap (λ (l : List Notebook). slice_get l number) c.rest ∙ set_there old number c.before c.after c.there

-- and before it
pub book_before : (number : ℕ) (Does : Notebook → Notebook → Type 0) (old new : List Notebook) (book : Notebook) → (c : ChangesBook number Does old new) → slice_get old number ≡ Some book
    → c.before ≡ book
book_before number Does old new book c there = same_Some c.before book (sym c.there ∙ there)

-- a ledger where the notebook changes
pub ledger_changed : (number k : ℕ) (notes later : List Note) (Does : Notebook → Notebook → Type 0) (old new : List Notebook) → ChangesBook number Does old new
    → ((a b : Notebook) → Does a b → IsWriters k notes a → IsWriters k later b) → HasLedger number k notes old → HasLedger number k later new
ledger_changed number k notes later Does old new c goes has = record {
  book = c.after;
  there = book_after number Does old new c;
  is = goes c.before c.after c.does (subst (IsWriters k notes) (sym (book_before number Does old new has.book c has.there)) has.is);
}

-- ---- a note

-- the ledger takes it
pub writer_notes : (k : ℕ) (notes : List Note) (note : Option Note) (a b : Notebook) → GoesOnBy note a b → IsWriters k notes a → IsWriters k (with_note notes note) b
writer_notes k notes note a b goes is = on b.ledger refl (subst (λ (o : Option Account). LedgerTakes note o b.ledger) is.ledger goes.ledger)
  where
    on : (o : Option Account) → b.ledger ≡ o → LedgerTakes note (Some is.account) o → IsWriters k (with_note notes note) b
    on None e takes = absurd takes
    on (Some new) e takes = record {
      account = new;
      ledger = e;
      role = takes.rule.role ∙ is.role;
      number = takes.rule.k ∙ is.number;
      stands = takes.stands notes is.stands;
    }

-- ---- a step

-- one that does not bring a checkpoint to its end notes its call
pub writer_steps : (k : ℕ) (notes : List Note) (w : Work) (turn : Turn Answer) (a b : Notebook) → is_done turn ≡ false → NotesStep w turn a b → IsWriters k notes a
    → IsWriters k (with_note notes (note_of_hand (ask_of_work w))) b
writer_steps k notes w turn a b none step is =
    let called = writer_notes k notes (note_of_hand (ask_of_work w)) a step.called step.call is in
    writer_notes k (with_note notes (note_of_hand (ask_of_work w))) None step.called b
    (subst (λ (done : Bool). GoesOnBy (note_of_end done step.called.queue) step.called b) none step.end) called

-- and the checkpoint in hand stays
pub queue_stays : (w : Work) (turn : Turn Answer) (a b : Notebook) → NotesStep w turn a b → b.queue ≡ a.queue
queue_stays w turn a b step = step.end.queue ∙ step.call.queue

-- one that does notes its call, and then the checkpoint of its queue
pub writer_keeps : (k : ℕ) (notes : List Note) (w : Work) (turn : Turn Answer) (queue : QueueName) (a b : Notebook) → is_done turn ≡ true → a.queue ≡ Some queue → NotesStep w turn a b
    → IsWriters k notes a → IsWriters k (with_note notes (note_of_hand (ask_of_work w)) ++ Kept queue ∷ []) b
writer_keeps k notes w turn queue a b done own step is =
    let called = writer_notes k notes (note_of_hand (ask_of_work w)) a step.called step.call is in
    writer_notes k (with_note notes (note_of_hand (ask_of_work w))) (Some (Kept queue)) step.called b
    (subst (λ (note : Option Note). GoesOnBy note step.called b) (ap note_of_done (step.call.queue ∙ own))
    (subst (λ (x : Bool). GoesOnBy (note_of_end x step.called.queue) step.called b) done step.end)) called

-- one whose ledger is the same
pub writer_same : (k : ℕ) (notes : List Note) (a b : Notebook) → b.ledger ≡ a.ledger → IsWriters k notes a → IsWriters k notes b
writer_same k notes a b same is = record { account = is.account; ledger = same ∙ is.ledger; role = is.role; number = is.number; stands = is.stands }

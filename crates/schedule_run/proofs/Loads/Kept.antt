-- Each transaction of a load that was answered as committed is among what was committed.
use Rattle.std.proofs.Common.{◌≡◌, ℕ, List, take, subst}
use Rattle.std.specs.Prelude.{slice_get, Some, All}
use Rattle.cloud_trait.specs.State.{CloudState}
use Rattle.db_base.specs.declared.trouble.CommitAnswer.TheVariants.{Committed}
use Rattle.replay_meaning.specs.Committed.{committed}
use Rattle.replay_meaning.specs.Kinds.{IsOfKind}
use Rattle.replay_meaning.specs.Standing.{Line, Working, Committing, Standing, standing, session_of}
use Rattle.report_types.specs.declared.entry.Entry.{Entry}
use Rattle.reply_text.specs.declared.reply.Reply.TheVariants as reply
use Rattle.session_facts.specs.Lines.Acknowledged.{HasEntries, IsKeptReply}
use Rattle.txn_buffer.specs.Noted.{Noted}
use Rattle.schedule_run.proofs.Loads.Lines.{WasCommitted, IsLoading}
use Rattle.schedule_run.proofs.Loads.Parts.{AreCommitted}
use Rattle.schedule_run.proofs.Loads.Transactions.{committed_of}

-- what any of the lines acknowledged is among the entries
abbrev pub AllKept : List Line → List Entry → Type 0
AllKept lines entries =
    (k : ℕ) (line : Line) → slice_get lines k ≡ Some line
    → IsKeptReply entries (standing (take k lines) (session_of line.event)).client (standing (take k lines) (session_of line.event)).posture line.reply

kept_entries : (lines : List Line) (entries : List Entry) (changes : List Noted) → AllKept lines entries → (index : ℕ) → (w : WasCommitted lines index changes) → HasEntries entries 1 w.txn changes
kept_entries lines entries changes kept index w =
    let ls : List Line = take w.place lines in
    let one : IsKeptReply entries (standing ls 1).client (standing ls 1).posture w.line.reply =
    subst (λ k. IsKeptReply entries (standing ls k).client (standing ls k).posture w.line.reply) w.own (kept w.place w.line w.there) in
    let two : IsKeptReply entries (standing ls 1).client (standing ls 1).posture (reply.Commit (Committed w.txn)) =
    subst (λ r. IsKeptReply entries (standing ls 1).client (standing ls 1).posture r) w.answer one in
    let three : IsKeptReply entries (standing ls 1).client (Working (Committing changes)) (reply.Commit (Committed w.txn)) =
    subst (λ p. IsKeptReply entries (standing ls 1).client p (reply.Commit (Committed w.txn))) w.works two in
    subst (λ c. IsKeptReply entries c (Working (Committing changes)) (reply.Commit (Committed w.txn))) w.client three

-- what the lines of a load committed is the inserts of its transactions
pub load_committed : (parts : List (List Noted)) (lines : List Line) (own : Standing) (t : CloudState) → IsLoading parts lines own → All (IsOfKind lines t) t.trace
    → AllKept lines (committed lines t) → AreCommitted parts (committed lines t)
load_committed parts lines own t h kinds kept = record {
  alone = λ e is. committed_of parts lines own t h kinds e is;
  each = λ changes is.
      let w = h.done is.0 changes is.1 in
      let k = kept_entries lines (committed lines t) changes kept is.0 w in
      (k.epoch, w.txn, k.each);
}

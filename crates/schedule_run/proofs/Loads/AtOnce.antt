-- What no line is answered at once: only the run of an operation can say it.
use Rattle.std.proofs.Common.{◌≡◌, ◌≤◌, ◌<◌, ◌+◌, ℕ, List, ◌∷◌, ◌++◌, length, take, Some, refl, subst, ◌∙◌, arith}
use Rattle.std.specs.Prelude.{slice_get}
use Rattle.std.proofs.lemmas.List.{take-append-le, take_all}
use Rattle.cloud_facts.proofs.Book.Places.{get_front, get_behind, get_within}
use Rattle.db_base.specs.declared.trouble.CommitAnswer.TheVariants.{Committed}
use Rattle.event_text.specs.declared.event.Event.{Event}
use Rattle.event_text.specs.declared.event.Event.TheVariants as event
use Rattle.replay_meaning.specs.Standing.{Line, standing}
use Rattle.reply_text.specs.declared.reply.Reply.{Reply}
use Rattle.reply_text.specs.declared.reply.Reply.TheVariants as reply
use Rattle.txn_buffer.specs.Noted.{Noted}

-- an opening is not answered at once, nor is an insert or a settling begun, nor a commit of anything answered at once as committed
abbrev pub IsFair : Event → List Noted → Reply → Type 0
IsFair (event.Open session client) buffer r = (epoch : ℕ) → r ≡ reply.Opened epoch → ⊥
IsFair (event.Insert session tree key payload attr) buffer r = r ≡ reply.Begun → ⊥
IsFair (event.Commit session) buffer r = session ≡ 1 → 1 ≤ length buffer → (txn : ℕ) → r ≡ reply.Commit (Committed txn) → ⊥
IsFair event.Settle buffer r = r ≡ reply.Begun → ⊥
IsFair e buffer r = Unit {0}

-- a line is so by those before it, and so is each of lines
abbrev pub FairLine : List Line → Line → Type 0
FairLine before line = IsFair line.event (standing before 1).buffer line.reply

abbrev pub AllFair : List Line → Type 0
AllFair lines = (k : ℕ) (line : Line) → slice_get lines k ≡ Some line → FairLine (take k lines) line

-- lines that are fair are so in front
pub fair_front : (lines more : List Line) → AllFair (lines ++ more) → AllFair lines
fair_front lines more fair k line at =
    let within : k < length lines = get_within lines k line at in
    subst (λ ls. FairLine ls line) (take-append-le k lines more (omega arith)) (fair k line (get_front lines more k line at))

-- the line behind some is fair by them
pub fair_next : (lines : List Line) (line : Line) (more : List Line) → AllFair (lines ++ line ∷ more) → FairLine lines line
fair_next lines line more fair =
    let at : slice_get (lines ++ line ∷ more) (length lines + 0) ≡ Some line = get_behind lines (line ∷ more) 0 line refl in
    let long : length lines + 0 ≡ length lines = omega arith in
    subst (λ ls. FairLine ls line) (take-append-le (length lines + 0) lines (line ∷ more) (omega arith) ∙ take_all (length lines + 0) lines (omega arith)) (fair (length lines + 0) line at)

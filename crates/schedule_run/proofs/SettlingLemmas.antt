-- The end of a settling.
use Rattle.std.proofs.Common.{◌≡◌, ◌≤◌, ◌-◌, ◌+◌, ◌∙◌, ℕ, List, [], ◌∷◌, take, Some, Result, Bool, true, false, Ok, Err, if◌then◌else◌, refl, sym, ap, subst, arith}
use Rattle.std.specs.Prelude.{slice_get}
use Rattle.std.proofs.lemmas.List.{append_cancel_left}
use Rattle.cloud_facts.specs.Words.{Head, CloudState, Seen}
use Rattle.cloud_trait.specs.State.{version_at}
use Rattle.cloud_trait.specs.declared.state.Landing.{Landing}
use Rattle.db_base.specs.declared.names.ObjName.TheVariants as object
use Rattle.db_io.specs.Writes.{Written}
use Rattle.event_text.specs.declared.event.Event.TheVariants.{Settle}
use Rattle.head_codec.specs.Spelling.{head_of}
use Rattle.db_io.specs.declared.output.OutputFault.{OutputFault}
use Rattle.db_io.specs.declared.output.OutputFault.TheVariants as output
use Rattle.db_io.specs.Output.{WasWritten}
use Rattle.replay_meaning.specs.Kinds.{CommitsCount, MayPutPhase, MayPutHead, MayPutBytes, IsOfKindAt, IsOfKind, LandsOpen}
use Rattle.replay_meaning.specs.Standing.{Line, Closed, Working, Committing, standing, standing_of_row}
use Rattle.session_facts.specs.Rows.Added.{AddsKinds, AddsTo}
use Rattle.session_facts.proofs.Rows.Once.{at_place}
use Rattle.reply_text.specs.declared.reply.Reply.{Reply}
use Rattle.schedule_run.proofs.BehindLemmas.{new_on_book, settles_so}
use Rattle.schedule_run.specs.Outside.{effects}
use Rattle.schedule_run.specs.InPlay.{Play}
use Rattle.schedule_run.specs.declared.settling.SettleFault.TheVariants.{NotSettled}
use Rattle.schedule_run.specs.Play.{IsFresh, IsNext, RanOut, Played, StoppedAt}
use Rattle.schedule_run.specs.Settling.{is_settled, settled_by, settle_end_of, OpensNothing, WasSettled, ShowsSettling, out_writing, SettleEnded}
use Rattle.schedule_run.specs.Written.{reply_line}
use Rattle.world_core.specs.Handled.{Handled}
use Rattle.world_core.specs.Span.{span_of}
use Rattle.txn_buffer.specs.Noted.{Noted}
use Rattle.schedule_run.proofs.PlayLemmas.{played_nothing, played_more, stopped_at}

-- a row of the first line opens nothing: no line before it began a commit
row_opens : (line : Line) (u : CloudState) (row : Landing) (client : ℕ) (head : Head) → row.who.event ≤ 1 → IsOfKind (line ∷ []) u row → LandsOpen u row client head → ⊥
row_opens line u row client head early kind o = never commits.changes (sym closed ∙ commits.commits)
  where
    lines : List Line
    lines = line ∷ []

    put : MayPutBytes lines row client (version_at (u.versions (object.Head client)) row.position)
    put = subst (IsOfKindAt lines u row) o.site kind

    spelled : MayPutHead lines row client (head_of o.bytes)
    spelled = subst (MayPutBytes lines row client) o.put put

    commits : CommitsCount client o.count (standing_of_row lines row)
    commits = subst (MayPutPhase lines row client) o.opens (subst (MayPutHead lines row client) o.spells spelled)

    first : row.who.event - 1 ≡ 0
    first = omega (arith, early)

    closed : (standing_of_row lines row).posture ≡ Closed
    closed = ap (λ n. (standing (take n lines) row.who.session).posture) first

    never : (changes : List Noted) → Closed ≡ Working (Committing changes) → ⊥
    never changes e = absurd (cc)

settled_opens : (line : Line) (s t : Seen) (play : Play) → Played true (line ∷ []) s t play → OpensNothing s t
settled_opens line s t play p x u added from to rows place row client head there o =
    row_opens line u row client head (at_place (λ (r : Landing). r.who.event ≤ 1) a.added place row a.early at)
    (subst (λ z. IsOfKind (line ∷ []) z row) same (at_place (IsOfKind (line ∷ []) w.state) a.added place row a.kinds at)) o
  where
    w : AddsTo 1 (line ∷ []) x t
    w = (p.kinds x from).rows

    a : AddsKinds 1 (line ∷ []) x w.state
    a = w.adds

    same : w.state ≡ u
    same = let e : Some w.state ≡ Some u = sym w.told ∙ to in cc

    whole : added ≡ a.added
    whole = append_cancel_left x.trace added a.added (sym rows ∙ ap (λ (z : CloudState). z.trace) (sym same) ∙ a.trace)

    at : slice_get a.added place ≡ Some row
    at = ap (λ rs. slice_get rs place) (sym whole) ∙ there

pub was_settled : (reply : Reply) (s t : Seen) (old new : Play) → IsFresh true old → IsNext Settle reply s t old new → WasSettled reply s t
was_settled reply s t old new fresh next =
    let played = played_more [] Settle reply s s t old new (played_nothing s old fresh) (λ b tree asked. absurd (cc)) next in
    let none : old.handled ≡ 0 = fresh.none in
    let count : new.handled ≡ old.handled + 1 = next.count in
    let first : new.handled ≡ 1 = omega arith in
    let handled : Handled 1 Settle (span_of s t old.world new.world) (Ok reply) = subst (λ (n : ℕ). Handled n Settle (span_of s t old.world new.world) (Ok reply)) first next.handled in
    record {
      play = new;
      played = played;
      first = old.world;
      fresh = fresh.world;
      handled = handled;
      settles = λ x told runs. settles_so [] Settle reply s t old.world new.world x told (new_on_book old.world x fresh.world runs) handled;
      opens = settled_opens (record { event = Settle; reply = reply }) s t new played;
    }

-- a settling ends as its reply says
pub settle_end : (reply : Reply) (w u : Written) (s t : Seen) → ShowsSettling reply (effects w s) (effects u t) → SettleEnded (settled_by reply) (effects w s) (effects u t)
settle_end reply w u s t shows = on (is_settled reply) refl where
  on : (b : Bool) → is_settled reply ≡ b → SettleEnded (if b then Ok tt else Err NotSettled) (effects w s) (effects u t)
  on true is = (reply, is, shows)
  on false is = (reply, is, shows)

pub settle_stopped : (s t : Seen) (old new : Play) → IsFresh true old → RanOut Settle s t old new → StoppedAt true Settle [] s t
settle_stopped s t old new fresh out = stopped_at [] Settle s s t old new (played_nothing s old fresh) out

-- a settling whose reply was written, or a part of it, ends so
pub settle_shown : (reply : Reply) (w u : Written) (s t : Seen) (old new : Play) (written : Result (Unit {0}) OutputFault) → IsFresh true old → IsNext Settle reply s t old new
    → WasWritten w u (reply_line 1 reply) written → SettleEnded (settle_end_of written reply) (effects w s) (effects u t)
settle_shown reply w u s t old new (Ok done) fresh next p = settle_end reply w u s t (record { handled = was_settled reply s t old new fresh next; wrote = p.0 })
settle_shown reply w u s t old new (Err output.WriteFault) fresh next p = record { reply = reply; handled = was_settled reply s t old new fresh next; wrote = p.0 }
settle_shown reply w u s t old new (Err output.Memory) fresh next p =
    out_writing (record { reply = reply; handled = was_settled reply s t old new fresh next; wrote = p.0 })

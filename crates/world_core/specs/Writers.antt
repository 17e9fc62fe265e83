-- A session that works as a writer, by the lines alone: it is given a ledger before it commits, and works behind each of its commits.
use Rattle.std.specs.Prelude.{ℕ, ◌==◌, if◌then◌else◌, List, [], ◌∷◌}
use Rattle.ckpt_policy.specs.declared.role.Role.{Role}
use Rattle.ckpt_policy.specs.declared.role.Role.TheVariants.{Writer, Reader, Watchdog, Owner}
use Rattle.event_text.specs.declared.event.Event.{Event}
use Rattle.event_text.specs.declared.event.Event.TheVariants as event
use Rattle.replay_meaning.specs.Standing.{Line, session_of}
use Rattle.reply_text.specs.declared.reply.Reply.{Reply}
use Rattle.reply_text.specs.declared.reply.Reply.TheVariants as reply

-- it has no ledger yet, and nothing was committed; it has one, and worked behind its last commit; it began a commit since; or it is no such session
pub data Stage : Type 0 where
  Unbound : Stage
  Even : Stage
  Owing : Stage
  Astray : Stage

-- by the ledger that it was given
abbrev pub given : ℕ → Role → ℕ → Stage
given k Writer number = if number == k then Even else Unbound
given k Reader number = Unbound
given k Watchdog number = Unbound
given k Owner number = Unbound

-- behind a line of its own, before it has the ledger of a writer of k
abbrev pub unbound_line : ℕ → Event → Reply → Stage
unbound_line k (event.Policy session role number) reply.Noted = given k role number
unbound_line k (event.Policy session role number) r = Unbound
unbound_line k (event.Commit session) r = Astray
unbound_line k e r = Unbound

-- only one commit is begun before it works
abbrev pub commits : Stage → Stage
commits Even = Owing
commits stage = Astray

-- no checkpoint is to be passed over; a line that is refused changes nothing
abbrev pub works : Reply → Stage → Stage
works (reply.Worked done passed) stage = if passed == 0 then Even else Astray
works (reply.Refused rule) stage = stage
works r stage = Astray

-- behind a line of its own, once it has it: it makes no checkpoint but by its ledger, which it keeps
abbrev pub bound_line : Event → Reply → Stage → Stage
bound_line (event.Commit session) r stage = commits stage
bound_line (event.Work session) r stage = works r stage
bound_line (event.Policy session role number) r stage = Astray
bound_line (event.Open session client) r stage = Astray
bound_line (event.Close session) r stage = Astray
bound_line (event.Crash session done) r stage = Astray
bound_line (event.Page session tree page) r stage = Astray
bound_line (event.Tree session tree) r stage = Astray
bound_line e r stage = stage

abbrev pub own_line : ℕ → Event → Reply → Stage → Stage
own_line k e r Unbound = unbound_line k e r
own_line k e r Even = bound_line e r Even
own_line k e r Owing = bound_line e r Owing
own_line k e r Astray = Astray

-- no other session has a line, and nobody settles or sweeps; waits and reports change nothing
abbrev pub by_line : ℕ → ℕ → Event → Reply → Stage → Stage
by_line session k (event.Wait ticks) r stage = stage
by_line session k (event.Report tree) r stage = stage
by_line session k event.Settle r stage = Astray
by_line session k (event.Sweep tree) r stage = Astray
by_line session k e r stage = if session_of e == session then own_line k e r stage else Astray

abbrev pub stage_from : ℕ → ℕ → Stage → List Line → Stage
stage_from session k stage [] = stage
stage_from session k stage (line ∷ lines) = stage_from session k (by_line session k line.event line.reply stage) lines

-- how a session stands as a writer of k after lines
abbrev pub stage_of : ℕ → ℕ → List Line → Stage
stage_of session k lines = stage_from session k Unbound lines

use Rattle.std.proofs.Common.{◌≡◌, replicate, map}
use Rattle.client_work.specs.Session.{closed_session}
use Rattle.world_core.proofs.sessions.Sessions.new.Given as goal

-- the sessions so far are closed ones
abbrev pub invariant-loop-count : goal.invariant-loop-count
invariant-loop-count g l = map g.S.SessionCalls.acting l.list.items ≡ replicate l._count closed_session

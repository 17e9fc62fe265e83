-- What a look-up finds where all is applied and it gets nothing old: every record with the attribute.
use Rattle.std.specs.Prelude.{ℕ, ◌≡◌, ◌+◌, List, [], length, Some, Result, Ok}
use Rattle.attr_index.specs.Look.{Query, Look, look_ready}
use Rattle.attr_index.specs.Tagged.{tagged}
use Rattle.client_work.specs.Session.{Acting}
use Rattle.client_work.specs.declared.work.Work.TheVariants.{Looking}
use Rattle.cloud_trait.specs.Machine.{Goes}
use Rattle.cloud_trait.specs.State.{CloudState}
use Rattle.event_text.specs.declared.event.Event.{Event}
use Rattle.event_text.specs.declared.event.Event.TheVariants as event
use Rattle.page_cache.specs.Cache.{Cache}
use Rattle.recover_run.specs.declared.home.Home.{Home}
use Rattle.replay_meaning.specs.Committed.{committed}
use Rattle.replay_meaning.specs.Standing.{Line}
use Rattle.reply_text.specs.declared.reply.Reply.{Reply}
use Rattle.reply_text.specs.declared.reply.Reply.TheVariants as reply
use Rattle.report_types.specs.declared.stored.Stored.{Stored}
use Rattle.session_facts.specs.Lines.Facts.{session_at}
use Rattle.session_facts.specs.Index.NewestLeaves.{AreContents}
use Rattle.session_facts.specs.Index.Whole.{IsIndexWhole}
use Rattle.world_core.specs.declared.world.WorldFault.{WorldFault}
use Rattle.world_core.specs.Stands.{WorldStands}
use Rattle.world_core.specs.Span.{Span}

-- a session has a look-up in hand as its begin left it, and noted no change
pub record HasBegun (session : Acting) (q : Query) : Type 0 where
  pub home : Home
  pub look : Look
  pub works : session.work ≡ Looking home look
  pub first : Cache
  pub ready : look_ready q first ≡ Goes (look, session.cache)
  pub unchanged : session.buffer ≡ []

-- Whatever lines a world and a cloud stood for before a run that made a whole look-up: where the index was whole and no get was stale, the reply shows of
-- the tree's contents all records with the attribute, in the order of their keys, and no other.
abbrev pub ShowsTagged : ℕ → Event → Span → Result Reply WorldFault → Type 0
ShowsTagged n (event.Run session) span (Ok (reply.Scan pairs)) =
    (lines : List Line) (t : CloudState) → length lines + 1 ≡ n → span.before.state ≡ Some t → WorldStands lines span.old t
    → (q : Query) → HasBegun (session_at span.old.sessions session) q → IsIndexWhole (committed lines t) t q.tree → span.after.counts.stale ≡ span.before.counts.stale
    → (contents : List Stored) → AreContents t q.tree contents → pairs ≡ tagged contents q.attr
ShowsTagged n event span result = Unit {0}

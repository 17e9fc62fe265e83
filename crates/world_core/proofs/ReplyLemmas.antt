-- The reply to a step shows what its session has then.
use Rattle.std.proofs.Common.{◌≡◌, ℕ, List, Some, Result, Ok, Err, subst, sym, ap, ◌∙◌}
use Rattle.std.specs.Prelude.{slice_get, slice_set}
use Rattle.std.proofs.lemmas.List.{set-set}
use Rattle.cloud_facts.specs.Words.{Turn, Caller, Seen}
use Rattle.db_base.specs.declared.refusal.Refused.{Refused}
use Rattle.db_base.specs.declared.wish.Wish.{Wish}
use Rattle.reply_text.specs.declared.reply.Reply.{Reply}
use Rattle.client_work.specs.declared.answer.Answer.{Answer}
use Rattle.client_work.specs.declared.answer.Begun.{Begun}
use Rattle.client_work.specs.declared.op.Op.{Op}
use Rattle.client_work.specs.BrokenOff.{broken_off}
use Rattle.client_work.specs.Session.{Acting, Begins}
use Rattle.world_core.specs.World.{World}
use Rattle.world_core.specs.declared.world.WorldFault.{WorldFault}
use Rattle.world_core.specs.Sessions.{Changes}
use Rattle.world_core.specs.Replying.{RepliesBegun, RepliesTo, RepliesTurn}
use Rattle.world_core.specs.Handled.{LeavesReplied, BeginsOp, StepsLooked, StepsTold, StepsTo, ComesTo, RunsTold, RunsTo}
use Rattle.world_core.specs.Span.{span_of}
use Rattle.world_core.proofs.Going.{same_session, after_there}

-- the session of a number that changed is the changed one
left_there : (number : ℕ) (Does : Acting → Acting → Type 0) (old new : List Acting) (a : Acting) → (c : Changes number Does old new) → slice_get new number ≡ Some a → a ≡ c.after
left_there number Does old new a c there = same_session new number a c.after there (after_there number Does old new c)

-- whoever the reply is of, the session that stepped is meant
mine_of : (other number : ℕ) (sessions : List Acting) (left : Acting) → other ≡ number → slice_get sessions other ≡ Some left → slice_get sessions number ≡ Some left
mine_of other number sessions left same there = subst (λ n. slice_get sessions n ≡ Some left) same there

pub steps_to : (who : Caller) (wish : Wish) (before after : Seen) (old world new : World) (turn : Turn Answer) (other : ℕ) (left : Acting) (result : Result Reply WorldFault)
    → other ≡ who.session → StepsLooked who wish (span_of before after old world) turn → slice_get world.sessions other ≡ Some left → RepliesTurn turn left result
    → LeavesReplied who.session result world new → StepsTo who wish (span_of before after old new) result
steps_to who wish before after old world new turn other left result same p there replies leaves =
    by_reply result (subst (λ a. RepliesTurn turn a result) (left_there who.session _ old.sessions world.sessions left p.session (mine_of other who.session world.sessions left same there)) replies)
    leaves
  where
    by_reply : (r : Result Reply WorldFault) → RepliesTurn turn p.session.after r → LeavesReplied who.session r world new → StepsTo who wish (span_of before after old new) r
    by_reply (Ok reply) replies stays =
        subst (λ w. StepsTold who wish (span_of before after old w) reply) (sym stays) (record { turn = turn; steps = p; replies = replies })
    by_reply (Err why) replies breaks = record { left = world; turn = turn; steps = p; replies = replies; breaks = breaks }

pub runs_to : (who : Caller) (before after : Seen) (old world new : World) (answer : Answer) (other : ℕ) (left : Acting) (result : Result Reply WorldFault) → other ≡ who.session
    → ComesTo who (span_of before after old world) answer → slice_get world.sessions other ≡ Some left → RepliesTo answer left result → LeavesReplied who.session result world new
    → RunsTo who (span_of before after old new) result
runs_to who before after old world new answer other left result same comes there replies leaves =
    by_reply result
    (subst (λ a. RepliesTo answer a result)
    (left_there who.session _ comes.world.sessions world.sessions left comes.steps.session (mine_of other who.session world.sessions left same there)) replies)
    leaves
  where
    by_reply : (r : Result Reply WorldFault) → RepliesTo answer comes.steps.session.after r → LeavesReplied who.session r world new → RunsTo who (span_of before after old new) r
    by_reply (Ok reply) replies stays =
        subst (λ w. RunsTold who (span_of before after old w) reply) (sym stays) (record { answer = answer; comes = comes; replies = replies })
    by_reply (Err why) replies breaks = record { left = world; answer = answer; comes = comes; replies = replies; breaks = breaks }

pub begins_to : (number : ℕ) (o : Op) (old world new : World) (begun : Result Begun Refused) (left : Acting) (result : Result Reply WorldFault)
    → Changes number (λ a b. Begins o a b begun) old.sessions world.sessions → slice_get world.sessions number ≡ Some left → RepliesBegun begun left result
    → LeavesReplied number result world new → Changes number (BeginsOp o result) old.sessions new.sessions
begins_to number o old world new begun left result c there replies leaves =
    by_reply result (subst (λ a. RepliesBegun begun a result) (left_there number _ old.sessions world.sessions left c there) replies) leaves
  where
    by_reply : (r : Result Reply WorldFault) → RepliesBegun begun c.after r → LeavesReplied number r world new → Changes number (BeginsOp o r) old.sessions new.sessions
    by_reply (Ok reply) replies stays = record {
      before = c.before;
      after = c.after;
      there = c.there;
      does = record { begun = begun; begins = c.does; replies = replies };
      rest = ap (λ (w : World). w.sessions) stays ∙ c.rest;
    }
    by_reply (Err why) replies breaks =
        let off = breaks.session in
        let same : off.before ≡ c.after = left_there number _ old.sessions world.sessions off.before c off.there in
        record {
          before = c.before;
          after = off.after;
          there = c.there;
          does = record { left = c.after; begun = begun; begins = c.does; replies = replies; breaks = off.does ∙ ap broken_off same };
          rest = off.rest ∙ ap (λ l. slice_set l number off.after) c.rest ∙ set-set old.sessions number c.after off.after;
        }

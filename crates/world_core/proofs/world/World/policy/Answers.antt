use Rattle.std.proofs.Common.{rules, inr, refl, sym, ◌∙◌}
use Rattle.world_core.proofs.world.World.policy.Goals as goal

pub returns-in-Ok : goal.returns-in-Ok
returns-in-Ok g c = λ seen. inr (inr (record {
  number_is = c.if-not-is_number.ensures.number.0 (search rules);
  opened = record { session = _; there = c.session.ensures; client = c.in-Ok.client; opened = sym c.client.ensures ∙ c.in-Ok.is };
  quiet = record { seen = refl; audit = c.give_ledger.ensures.audit; blind = c.give_ledger.ensures.blind };
  sessions = c.give_ledger.ensures.sessions;
  notes = c.give_ledger.ensures.notes;
  replies = c.give_ledger.ensures.replies;
}))

use Rattle.ckpt_policy.proofs.Limits.{stays_short}
use Rattle.ckpt_policy.proofs.ledger.is_number.Goals as goal

pub returns-then-k-ge1-clause-short : goal.returns-then-k-ge1-clause-short
returns-then-k-ge1-clause-short c = stays_short c.args.k

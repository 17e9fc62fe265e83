use Rattle.std.proofs.Common.{sym, ◌∙◌, ap}
use Rattle.std.proofs.lemmas.Result.{IfOk-weaker}
use Rattle.ckpt_policy.specs.declared.role.Role.TheVariants.{Writer, Reader, Owner}
use Rattle.ckpt_policy.proofs.DueLemmas.{picked-due, ranked-due}
use Rattle.ckpt_policy.proofs.Pending.{picked-pending, ranked-pending}
use Rattle.ckpt_policy.proofs.ledger.Ledger.due.Goals as goal

pub returns-in-Writer-clause-due : goal.returns-in-Writer-clause-due
returns-in-Writer-clause-due c =
    let is = sym (ap (λ a. a.role) c.self.view_is) ∙ c.in-Writer.is in
    IfOk-weaker c.picked.result _ _ (λ queues e notes h. e ∙ picked-due c.args.self.now notes h Writer is (λ e. absurd (cc))) c.picked.ensures.ok

pub returns-in-Reader-clause-due : goal.returns-in-Reader-clause-due
returns-in-Reader-clause-due c =
    let is = sym (ap (λ a. a.role) c.self.view_is) ∙ c.in-Reader.is in
    IfOk-weaker c.picked-in-Reader.result _ _ (λ queues e notes h. e ∙ picked-due c.args.self.now notes h Reader is (λ e. absurd (cc))) c.picked-in-Reader.ensures.ok

pub returns-in-Watchdog-clause-due : goal.returns-in-Watchdog-clause-due
returns-in-Watchdog-clause-due c =
    let is = sym (ap (λ a. a.role) c.self.view_is) ∙ c.in-Watchdog.is in
    IfOk-weaker c.least_kept.result _ _ (λ queues e notes h. e ∙ ranked-due c.args.self.now notes h is) c.least_kept.ensures.ok

pub returns-in-Owner-clause-due : goal.returns-in-Owner-clause-due
returns-in-Owner-clause-due c =
    let is = sym (ap (λ a. a.role) c.self.view_is) ∙ c.in-Owner.is in
    IfOk-weaker c.picked-in-Owner.result _ _ (λ queues e notes h. e ∙ picked-due c.args.self.now notes h Owner is (λ e. absurd (cc))) c.picked-in-Owner.ensures.ok

pub returns-in-Writer-clause-pending : goal.returns-in-Writer-clause-pending
returns-in-Writer-clause-pending c = IfOk-weaker c.picked.result _ _ (λ queues e. picked-pending c.args.self.now queues.items e) c.picked.ensures.ok

pub returns-in-Reader-clause-pending : goal.returns-in-Reader-clause-pending
returns-in-Reader-clause-pending c = IfOk-weaker c.picked-in-Reader.result _ _ (λ queues e. picked-pending c.args.self.now queues.items e) c.picked-in-Reader.ensures.ok

pub returns-in-Watchdog-clause-pending : goal.returns-in-Watchdog-clause-pending
returns-in-Watchdog-clause-pending c = IfOk-weaker c.least_kept.result _ _ (λ queues e. ranked-pending c.args.self.now queues.items e) c.least_kept.ensures.ok

pub returns-in-Owner-clause-pending : goal.returns-in-Owner-clause-pending
returns-in-Owner-clause-pending c = IfOk-weaker c.picked-in-Owner.result _ _ (λ queues e. picked-pending c.args.self.now queues.items e) c.picked-in-Owner.ensures.ok

use Rattle.std.proofs.Common.{◌∙◌, ◌<◌, ◌≤◌, arith, sym}
use Rattle.memory_cloud.proofs.QueueLemmas.{marks, marks-none, of-given, stands-within}
use Rattle.memory_cloud.proofs.queue.Queue.mark.Goals as goal

pub invariant_of-self : goal.invariant_of-self
invariant_of-self c =
    let some : 1 ≤ c.get-number.result = omega (arith, c.get-number.ensures.range, c.if-number-eq0.false) in
    let found = sym c.place_of.ensures ∙ c.in-Some.is in
    let stands = stands-within c.args.self.now.kept.items c.get-number.result c.in-Some.place found in
    let within : c.in-Some.place < c.args.self.now.kept.len = omega (arith, c.args.self.now.kept.ok.0, stands) in
    record {
      kept_are = of-given c.remove.result _ _ (c.remove.ensures.succeeds 0 within) c.remove.ensures.items ∙ rw c.mark_in.ensures
          (marks c.args.self.now.messages.items c.args.self.now.kept.items c.get-number.result c.in-Some.place c.args.self.now.kept_are some found);
    }

pub returns-in_default : goal.returns-in_default
returns-in_default c =
    let some : 1 ≤ c.get-number.result = omega (arith, c.get-number.ensures.range, c.if-number-eq0.false) in
    rw (sym c.get-number.ensures.number)
    (marks-none c.args.self.now.messages.items c.args.self.now.kept.items c.get-number.result c.args.self.now.kept_are some (sym c.place_of.ensures ∙ c.in_default.is))

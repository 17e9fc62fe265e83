use Rattle.std.proofs.Common.{ap, ◌∙◌}
use Rattle.split_plan.specs.Part.{part_of_leaf, record_key}
use Rattle.split_plan.specs.Plan.{leaf_bytes, IsLeafPart}
use Rattle.split_plan.proofs.Buffers.{left-leaf, right-leaf}
use Rattle.split_plan.proofs.Underway.{goes_on, ends}
use Rattle.split_plan.proofs.leaf.cut.Goals as goal

pub pieces-preserved : goal.pieces-preserved
pieces-preserved c =
    goes_on record_key leaf_bytes IsLeafPart c.args.page c.args.first_free (part_of_leaf c.args.buf) c.pieces.plan.puts c.add.new.plan.puts
    c.pieces.plan.entries c.add.new.plan.entries c.in-Some.size c.pieces.sizes c.next.new.self c.pieces.at c.pieces.free
    c.page_behind-free.result (part_of_leaf c.pieces.rest) (part_of_leaf c.in_ok-left.left) (part_of_leaf c.in_ok-left.right)
    c.pieces.invariant c.in-Some.ensures
    (ap part_of_leaf c.in_ok-left.ensures.left ∙ left-leaf c.in-Some.size c.pieces.free c.pieces.rest)
    (ap part_of_leaf c.in_ok-left.ensures.right ∙ right-leaf c.in-Some.size c.pieces.rest) c.page_behind-free.ensures
    c.in_ok-add.ensures.puts c.in_ok-add.ensures.entries c.in_ok-add.ensures.fits

pub returns-clause-puts : goal.returns-clause-puts
returns-clause-puts c =
    (ends record_key leaf_bytes IsLeafPart c.args.page c.args.first_free (part_of_leaf c.args.buf) c.pieces.plan.puts c.add-2.new.plan.puts c.pieces.plan.entries
    c.add-2.new.plan.entries c.pieces.sizes c.pieces.at c.pieces.free (part_of_leaf c.pieces.rest) c.pieces.invariant c.in_default.ensures
    c.in_ok-add-2.ensures.puts c.in_ok-add-2.ensures.entries c.in_ok-add-2.ensures.fits).0

pub returns-clause-entries : goal.returns-clause-entries
returns-clause-entries c =
    (ends record_key leaf_bytes IsLeafPart c.args.page c.args.first_free (part_of_leaf c.args.buf) c.pieces.plan.puts c.add-2.new.plan.puts c.pieces.plan.entries
    c.add-2.new.plan.entries c.pieces.sizes c.pieces.at c.pieces.free (part_of_leaf c.pieces.rest) c.pieces.invariant c.in_default.ensures
    c.in_ok-add-2.ensures.puts c.in_ok-add-2.ensures.entries c.in_ok-add-2.ensures.fits).1

pub returns-clause-fit : goal.returns-clause-fit
returns-clause-fit c =
    (ends record_key leaf_bytes IsLeafPart c.args.page c.args.first_free (part_of_leaf c.args.buf) c.pieces.plan.puts c.add-2.new.plan.puts c.pieces.plan.entries
    c.add-2.new.plan.entries c.pieces.sizes c.pieces.at c.pieces.free (part_of_leaf c.pieces.rest) c.pieces.invariant c.in_default.ensures
    c.in_ok-add-2.ensures.puts c.in_ok-add-2.ensures.entries c.in_ok-add-2.ensures.fits).2

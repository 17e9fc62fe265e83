use Rattle.std.proofs.Common.{ℕ, List, ◌∷◌, length, ap, subst, ◌∙◌}
use Rattle.split_plan.specs.Part.{part_of_node, entry_key}
use Rattle.split_plan.specs.Plan.{node_bytes, IsNodePart}
use Rattle.split_plan.specs.Sizes.{CanCut}
use Rattle.split_plan.proofs.Buffers.{left-inner, right-inner}
use Rattle.split_plan.proofs.Underway.{goes_on, ends}
use Rattle.split_plan.proofs.inner.cut.Goals as goal

pub pieces-preserved : goal.pieces-preserved
pieces-preserved c =
    let n = c.in-Some.size in
    let node = c.pieces.rest in
    let last = c.pieces.invariant.last in
    let room : CanCut (n ∷ c.next.new.self) last (length node.entries) = subst (λ (s : List ℕ). CanCut s last (length node.entries)) c.in-Some.ensures c.pieces.invariant.room in
    goes_on entry_key node_bytes IsNodePart c.args.page c.args.first_free (part_of_node c.args.buf) c.pieces.plan.puts c.add.new.plan.puts
    c.pieces.plan.entries c.add.new.plan.entries n c.pieces.sizes c.next.new.self c.pieces.at c.pieces.free c.page_behind-free.result
    (part_of_node node) (part_of_node c.in_ok-left.left) (part_of_node c.in_ok-left.right) c.pieces.invariant c.in-Some.ensures
    (ap part_of_node c.in_ok-left.ensures.left ∙ left-inner n c.pieces.free node room.1)
    (ap part_of_node c.in_ok-left.ensures.right ∙ right-inner n node) c.page_behind-free.ensures c.in_ok-add.ensures.puts
    c.in_ok-add.ensures.entries c.in_ok-add.ensures.fits

pub returns-clause-puts : goal.returns-clause-puts
returns-clause-puts c =
    (ends entry_key node_bytes IsNodePart c.args.page c.args.first_free (part_of_node c.args.buf) c.pieces.plan.puts c.add-2.new.plan.puts c.pieces.plan.entries
    c.add-2.new.plan.entries c.pieces.sizes c.pieces.at c.pieces.free (part_of_node c.pieces.rest) c.pieces.invariant c.in_default.ensures
    c.in_ok-add-2.ensures.puts c.in_ok-add-2.ensures.entries c.in_ok-add-2.ensures.fits).0

pub returns-clause-entries : goal.returns-clause-entries
returns-clause-entries c =
    (ends entry_key node_bytes IsNodePart c.args.page c.args.first_free (part_of_node c.args.buf) c.pieces.plan.puts c.add-2.new.plan.puts c.pieces.plan.entries
    c.add-2.new.plan.entries c.pieces.sizes c.pieces.at c.pieces.free (part_of_node c.pieces.rest) c.pieces.invariant c.in_default.ensures
    c.in_ok-add-2.ensures.puts c.in_ok-add-2.ensures.entries c.in_ok-add-2.ensures.fits).1

pub returns-clause-fit : goal.returns-clause-fit
returns-clause-fit c =
    (ends entry_key node_bytes IsNodePart c.args.page c.args.first_free (part_of_node c.args.buf) c.pieces.plan.puts c.add-2.new.plan.puts c.pieces.plan.entries
    c.add-2.new.plan.entries c.pieces.sizes c.pieces.at c.pieces.free (part_of_node c.pieces.rest) c.pieces.invariant c.in_default.ensures
    c.in_ok-add-2.ensures.puts c.in_ok-add-2.ensures.entries c.in_ok-add-2.ensures.fits).2

use Rattle.std.proofs.Common.{refl, sym, ◌∙◌, ap, arith}
use Rattle.std.specs.Int.{w64, from_be_bytes}
use Rattle.byte_format.proofs.Steps.{IsBytes-drop}
use Rattle.byte_format.proofs.Words.{by_word, decides, passes}
use Rattle.byte_format.proofs.order.compare.Goals as goal

pub loop-left-init : goal.loop-left-init
loop-left-init c = record { left = λ i. omega (arith, c.type_inv.a i); right = λ i. omega (arith, c.type_inv.b i); same = refl }

pub returns-then-x-y : goal.returns-then-x-y
returns-then-x-y c =
    let kept = c.loop-left.invariant in
    let x = c.word-x.ensures ∙ ap (from_be_bytes w64) c.split_at.ensures.front in
    let y = c.word-y.ensures ∙ ap (from_be_bytes w64) c.split_at-in-loop-left.ensures.front in
    c.cmp.ensures ∙ sym (decides c.word-x.result c.word-y.result _ c.if-x-y.true)
    ∙ by_word c.loop-left.left.now c.loop-left.right.now _ _ c.loop-left-test.true c.if-right-ge8.true kept.left kept.right x y ∙ kept.same

pub loop-left-preserved : goal.loop-left-preserved
loop-left-preserved c =
    let kept = c.loop-left.invariant in
    let x = c.word-x.ensures ∙ ap (from_be_bytes w64) c.split_at.ensures.front in
    let y = c.word-y.ensures ∙ ap (from_be_bytes w64) c.split_at-in-loop-left.ensures.front in
    rw (c.split_at.ensures.back, c.split_at-in-loop-left.ensures.back) record {
      left = IsBytes-drop 8 c.loop-left.left.now kept.left;
      right = IsBytes-drop 8 c.loop-left.right.now kept.right;
      same = sym (passes c.word-x.result c.word-y.result _ c.if-x-y.false)
          ∙ by_word c.loop-left.left.now c.loop-left.right.now _ _ c.loop-left-test.true c.if-right-ge8.true kept.left kept.right x y ∙ kept.same;
    }

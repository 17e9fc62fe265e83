use Rattle.std.proofs.Common.{◌≡◌, ◌<◌, ◌∙◌, ap, [], ◌∷◌, ◌++◌, List, ℕ, arith}
use Rattle.std.specs.Int.{w64, to_be_bytes}
use Rattle.change_codec.specs.Change.{change_bytes}
use Rattle.change_codec.proofs.Appends.{append_five}
use Rattle.log_codec.specs.Pu.{pu_with}
use Rattle.log_codec.proofs.PuLaws.{pu_bytes-fields}
use Rattle.log_codec.proofs.pu.add_parts.Goals as goal

pub returns-clause-spelling : goal.returns-clause-spelling
returns-clause-spelling c =
    let r = pu_with c.args.client c.args.epoch c.args.txn c.args.number c.args.change.now in
    let small : r.client < 256 = omega (arith, c.get.ensures.range.most) in
    let first : c.try_add.new.out.items ≡ c.args.out.now.items ++ 80 ∷ 1 ∷ r.client ∷ [] = c.in_ok-try_add.ensures ∙ ap (λ (n : ℕ). c.args.out.now.items ++ 80 ∷ 1 ∷ n ∷ []) c.get.ensures.number in
    let all = append_five c.args.out.now.items c.try_add.new.out.items c.try_add_u64.new.out.items c.try_add_u64-2.new.out.items c.try_add_u64-3.new.out.items c.add_change.new.out.items
    (80 ∷ 1 ∷ r.client ∷ []) (to_be_bytes w64 r.epoch) (to_be_bytes w64 r.txn) (to_be_bytes w64 r.number) (change_bytes r.change)
    first c.in_ok-try_add_u64.ensures c.in_ok-try_add_u64-2.ensures c.in_ok-try_add_u64-3.ensures c.in_ok-add_change.ensures.spelling in
    all ∙ ap (λ (bytes : List ℕ). c.args.out.now.items ++ bytes) (pu_bytes-fields r small)

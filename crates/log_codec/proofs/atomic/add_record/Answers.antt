use Rattle.std.proofs.Common.{◌≡◌, ◌<◌, ◌∙◌, ap, [], ◌∷◌, ◌++◌, List, ℕ, arith}
use Rattle.std.specs.Int.{w64, to_be_bytes}
use Rattle.change_codec.specs.Change.{change_bytes}
use Rattle.change_codec.proofs.Appends.{append_more, append_three}
use Rattle.log_codec.proofs.AtomicLaws.{atomic_bytes-fields}
use Rattle.log_codec.proofs.atomic.add_record.Goals as goal

pub returns-clause-spelling : goal.returns-clause-spelling
returns-clause-spelling c =
    let r = c.args.rec.now in
    let old = c.args.out.now.items in
    let mid = c.try_add_u64-2.new.out.items in
    let client : r.client < 256 = omega (arith, c.get.ensures.range.most) in
    let tree : r.tree < 256 = omega (arith, c.get-2.ensures.range.most) in
    let index : r.index < 256 = omega (arith, c.requires.position.within, c.requires.position.few) in
    let count : r.count < 256 = omega (arith, c.requires.position.few) in
    let first : c.try_add.new.out.items ≡ old ++ 65 ∷ 1 ∷ r.client ∷ [] = c.in_ok-try_add.ensures ∙ ap (λ (n : ℕ). old ++ 65 ∷ 1 ∷ n ∷ []) c.get.ensures.number in
    let fourth : c.try_add-2.new.out.items ≡ mid ++ r.index ∷ r.count ∷ r.tree ∷ [] = c.in_ok-try_add-2.ensures ∙ ap (λ (n : ℕ). mid ++ r.index ∷ r.count ∷ n ∷ []) c.get-2.ensures.number in
    let fields : List ℕ = (r.index ∷ r.count ∷ r.tree ∷ []) ++ (to_be_bytes w64 r.page ++ (to_be_bytes w64 r.number ++ change_bytes r.change)) in
    let last : c.add_change.new.out.items ≡ mid ++ fields =
    append_more mid c.try_add-2.new.out.items c.add_change.new.out.items (r.index ∷ r.count ∷ r.tree ∷ []) (to_be_bytes w64 r.page ++ (to_be_bytes w64 r.number ++ change_bytes r.change)) fourth
    (append_three c.try_add-2.new.out.items c.try_add_u64-3.new.out.items c.try_add_u64-4.new.out.items c.add_change.new.out.items (to_be_bytes w64 r.page) (to_be_bytes w64 r.number) (change_bytes r.change)
    c.in_ok-try_add_u64-3.ensures c.in_ok-try_add_u64-4.ensures c.in_ok-add_change.ensures.spelling) in
    append_more old c.try_add.new.out.items c.add_change.new.out.items (65 ∷ 1 ∷ r.client ∷ []) (to_be_bytes w64 r.epoch ++ (to_be_bytes w64 r.txn ++ fields)) first
    (append_three c.try_add.new.out.items c.try_add_u64.new.out.items mid c.add_change.new.out.items (to_be_bytes w64 r.epoch) (to_be_bytes w64 r.txn) fields c.in_ok-try_add_u64.ensures c.in_ok-try_add_u64-2.ensures last)
    ∙ ap (λ (bytes : List ℕ). old ++ bytes) (atomic_bytes-fields r client index count tree)

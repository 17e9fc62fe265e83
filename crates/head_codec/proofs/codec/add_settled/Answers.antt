use Rattle.std.proofs.Common.{◌≡◌, ◌∙◌, ap, subst, ◌-◌, [], ◌∷◌, ◌++◌, None, List, ℕ, drop, length, arith}
use Rattle.std.specs.List.{AllByRecursion}
use Rattle.byte_format.specs.Format.{list_spelling}
use Rattle.change_codec.proofs.Appends.{append_four}
use Rattle.head_codec.specs.declared.lists.Pending.{Pending}
use Rattle.head_codec.specs.Pending.{pending_entry, FitsPending}
use Rattle.head_codec.proofs.Settling.{long_enough, settled_written, settled_fits}
use Rattle.head_codec.proofs.codec.add_settled.Goals as goal

pub split_at-requires : goal.split_at-requires
split_at-requires c = omega (arith, long_enough c.args.of.now c.args.before.now c.args.count c.requires)

pub split_at-requires-2 : goal.split_at-requires-2
split_at-requires-2 c = omega (arith, long_enough c.args.of.now c.args.before.now c.args.count c.requires, c.split_at.ensures.back_len)

pub overflow_sub-rest : goal.overflow_sub-rest
overflow_sub-rest c = omega (arith, long_enough c.args.of.now c.args.before.now c.args.count c.requires, c.split_at.ensures.back_len, c.split_at-2.ensures.back_len)

pub returns-clause-spelling : goal.returns-clause-spelling
returns-clause-spelling c =
    let h = c.args.of.now in
    let old = c.args.out.now.items in
    let more : c.split_at-4.result.1.now ≡ drop (length h.pending - c.args.count) h.pending =
    c.split_at-4.ensures.back ∙ ap (λ (ps : List Pending). drop (length ps - c.args.count) ps) c.as_slice-pending.ensures in
    append_four old c.try_add.new.out.items c.try_add_u8.new.out.items c.try_add-2.new.out.items c.add_pending.new.out.items
    c.split_at.result.0.now (0 ∷ []) c.split_at-3.result.0.now (list_spelling pending_entry None c.split_at-4.result.1.now)
    c.in_ok-try_add.ensures c.in_ok-try_add_u8.ensures c.in_ok-try_add-2.ensures c.in_ok-add_pending.ensures.spelling
    ∙ ap (λ (bytes : List ℕ). old ++ bytes) (settled_written h c.args.before.now c.args.count
    c.split_at.result.0.now c.split_at.result.1.now c.split_at-2.result.1.now c.split_at-3.result.0.now c.split_at-4.result.1.now
    c.requires c.split_at.ensures.front c.split_at.ensures.back c.split_at-2.ensures.back c.split_at-3.ensures.front more)

pub returns-clause-valid : goal.returns-clause-valid
returns-clause-valid c =
    let h = c.args.of.now in
    let more : c.split_at-4.result.1.now ≡ drop (length h.pending - c.args.count) h.pending =
    c.split_at-4.ensures.back ∙ ap (λ (ps : List Pending). drop (length ps - c.args.count) ps) c.as_slice-pending.ensures in
    settled_fits h c.args.before.now c.args.count c.requires (subst (λ (ps : List Pending). AllByRecursion FitsPending ps) more c.in_ok-add_pending.ensures.valid)

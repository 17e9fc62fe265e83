use Rattle.std.proofs.Common.{◌≡◌, ◌∙◌, ap, List, ℕ, ◌++◌}
use Rattle.log_codec.specs.Pu.{pu_bytes, pu_with}
use Rattle.log_codec.specs.declared.record.PuRec.{PuRec}
use Rattle.log_codec.proofs.PuLaws.{pu_spells, pu_of-spelling}
use Rattle.log_codec.proofs.record.AtomicRec.write_pending.Goals as goal

pub returns-clause-bytes : goal.returns-clause-bytes
returns-clause-bytes c =
    let r : PuRec = pu_with c.args.self.now.client c.args.self.now.epoch c.args.self.now.txn c.args.self.now.number c.args.self.now.change in
    c.of.ensures ∙ c.in_ok-add_parts.ensures.spelling ∙ ap (λ (old : List ℕ). old ++ pu_bytes r) c.in_ok-out.ensures.items

pub returns-clause-decoded : goal.returns-clause-decoded
returns-clause-decoded c =
    let r : PuRec = pu_with c.args.self.now.client c.args.self.now.epoch c.args.self.now.txn c.args.self.now.number c.args.self.now.change in
    let same : c.of.result ≡ pu_bytes r = c.of.ensures ∙ c.in_ok-add_parts.ensures.spelling ∙ ap (λ (old : List ℕ). old ++ pu_bytes r) c.in_ok-out.ensures.items in
    pu_of-spelling c.of.result r (pu_spells r c.of.result c.in_ok-add_parts.ensures.valid same)

use Rattle.std.proofs.Common.{◌≡◌, ◌∙◌, ap, List, ℕ, ◌++◌}
use Rattle.log_codec.specs.Atomic.{atomic_bytes}
use Rattle.log_codec.proofs.AtomicLaws.{atomic_spells, atomic_of-spelling}
use Rattle.log_codec.proofs.record.AtomicRec.write.Goals as goal

pub returns-clause-spelling : goal.returns-clause-spelling
returns-clause-spelling c =
    let same : c.of.result ≡ atomic_bytes c.args.self.now = c.of.ensures ∙ c.in_ok-add_record.ensures.spelling ∙ ap (λ (old : List ℕ). old ++ atomic_bytes c.args.self.now) c.in_ok-out.ensures.items in
    (c.in_ok-add_record.ensures.valid, atomic_spells c.args.self.now c.of.result c.in_ok-add_record.ensures.valid same)

pub returns-clause-decoded : goal.returns-clause-decoded
returns-clause-decoded c =
    let same : c.of.result ≡ atomic_bytes c.args.self.now = c.of.ensures ∙ c.in_ok-add_record.ensures.spelling ∙ ap (λ (old : List ℕ). old ++ atomic_bytes c.args.self.now) c.in_ok-out.ensures.items in
    atomic_of-spelling c.of.result c.args.self.now (atomic_spells c.args.self.now c.of.result c.in_ok-add_record.ensures.valid same)

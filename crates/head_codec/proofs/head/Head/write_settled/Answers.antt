use Rattle.std.proofs.Common.{◌≡◌, ◌∙◌, ap, List, ℕ, ◌++◌}
use Rattle.head_codec.specs.Spelling.{head_bytes}
use Rattle.head_codec.proofs.HeadLaws.{head_spells, head_of-spelling}
use Rattle.head_codec.proofs.head.Head.write_settled.Goals as goal

pub returns-clause-spelling : goal.returns-clause-spelling
returns-clause-spelling c =
    let same : c.of.result ≡ head_bytes c.args.self.now = c.of.ensures ∙ c.in_ok-add_settled.ensures.spelling ∙ ap (λ (old : List ℕ). old ++ head_bytes c.args.self.now) c.in_ok-out.ensures.items in
    (c.in_ok-add_settled.ensures.valid, head_spells c.args.self.now c.of.result c.requires.spelling c.in_ok-add_settled.ensures.valid same)

pub returns-clause-decoded : goal.returns-clause-decoded
returns-clause-decoded c =
    let same : c.of.result ≡ head_bytes c.args.self.now = c.of.ensures ∙ c.in_ok-add_settled.ensures.spelling ∙ ap (λ (old : List ℕ). old ++ head_bytes c.args.self.now) c.in_ok-out.ensures.items in
    head_of-spelling c.of.result c.args.self.now (head_spells c.args.self.now c.of.result c.requires.spelling c.in_ok-add_settled.ensures.valid same)

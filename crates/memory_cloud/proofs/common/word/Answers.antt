use Rattle.std.proofs.Common.{◌≡◌, arith, rules}
use Rattle.std.specs.Int.{w64, from_le_bytes}
use Rattle.std.proofs.lemmas.Nat.{le_bytes_8}
use Rattle.memory_cloud.proofs.common.word.Goals as goal

pub returns : goal.returns
returns c =
    let spelled : c.from_le_bytes.result ≡ from_le_bytes w64 c.args.bytes.now = search rules in
    le_bytes_8 c.args.bytes.now c.from_le_bytes.result c.requires (λ i. omega (arith, c.type_inv.bytes i)) spelled

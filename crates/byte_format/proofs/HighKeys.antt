-- The format of a high key is exact.
use Rattle.std.proofs.Common.{ℕ, List, lit<}
use Rattle.byte_format.specs.Whole.{IsExact}
use Rattle.byte_format.specs.HighKey.{high_key}
use Rattle.byte_format.proofs.Fields.{text8_exact}
use Rattle.byte_format.proofs.Exact.{ruled_exact, only_where_exact}

pub high_key_exact : (low : List ℕ) (right : ℕ) → IsExact (high_key low right)
high_key_exact low right = only_where_exact _ _ (ruled_exact _ _ (text8_exact 1 64 (lit< tt)))

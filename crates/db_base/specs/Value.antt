-- What a record holds.
use Rattle.std.specs.Prelude.{ℕ, List, Option, None}
use Rattle.db_base.specs.declared.value.Held.{Held}
use Rattle.db_base.specs.declared.value.Held.TheVariants.{Kept, Sum}

-- a payload, and an attribute or none
pub record Value : Type 0 where
  pub payload : List ℕ
  pub attr : Option (List ℕ)

-- a payload without attribute
abbrev pub plain : List ℕ → Value
plain bytes = record { payload = bytes; attr = None }

-- the payload's bytes, kept or computed
abbrev pub held_bytes : Held → List ℕ
held_bytes (Kept bytes) = bytes.now
held_bytes (Sum bytes) = bytes

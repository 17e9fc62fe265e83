-- What keys, payloads and attributes are.
use Rattle.std.specs.Prelude.{ℕ, ◌≤◌, ◌<◌, List, length}
use Rattle.db_base.specs.Limits.{longest_key, longest_payload, longest_attr}

-- 1 to 64 bytes are a key
pub record IsKey (bytes : List ℕ) : Type 0 where
  pub some : 0 < length bytes
  pub short : length bytes ≤ longest_key

-- at most 1,024 bytes are a payload
abbrev pub IsPayload : List ℕ → Type 0
IsPayload bytes = length bytes ≤ longest_payload

-- 1 to 32 bytes are an attribute
pub record IsAttr (bytes : List ℕ) : Type 0 where
  pub some : 0 < length bytes
  pub short : length bytes ≤ longest_attr

-- The keys of an index: a record's attribute before its key.
use Rattle.std.specs.Prelude.{◌≡◌, ℕ, ◌≤◌, ◌<◌, List, [], ◌∷◌, ◌++◌, length, None}
use Rattle.db_base.specs.Key.{IsAttr}
use Rattle.db_base.specs.Limits.{longest_key}
use Rattle.db_base.specs.declared.change.Change.{Change}
use Rattle.db_base.specs.declared.change.Change.TheVariants.{Insert}

-- the length of the attribute as one byte, the attribute, the key
abbrev pub entry_bytes : List ℕ → List ℕ → List ℕ
entry_bytes attr key = length attr ∷ (attr ++ key)

-- bytes are the entry of an attribute and a key, and are a key themselves
pub record IsEntry (bytes attr key : List ℕ) : Type 0 where
  pub is_attr : IsAttr attr
  pub some : 0 < length key
  pub short : length bytes ≤ longest_key
  pub spelled : bytes ≡ entry_bytes attr key

-- the insert by which a record joins the index: the entry alone
abbrev pub index_insert : List ℕ → List ℕ → Change
index_insert attr key = Insert (entry_bytes attr key) [] None

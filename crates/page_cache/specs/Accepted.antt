-- An answer of a get that a cache took.
use Rattle.std.specs.Prelude.{ℕ, ◌≡◌, ◌≤◌, ◌⊎◌, Bool, List, Option, None, Ok}
use Rattle.db_base.specs.declared.names.ObjName.{ObjName}
use Rattle.page_cache.specs.Cache.{Cache, kept_at, served_at, accepts}

-- the cache before, the object, whether it was asked for as a leaf, what the get gave, and the version and the cache to which that led
pub record Accept : Type 0 where
  pub before : Cache
  pub name : ObjName
  pub as_leaf : Bool
  pub got : Option (List ℕ)
  pub version : ℕ
  pub after : Cache
  pub is : accepts before name as_leaf got ≡ Ok (version, after)

-- what is kept of each other object is as it was, or gone
abbrev pub OthersStayOrGo : Accept → Type 0
OthersStayOrGo a =
    (other : ObjName) → (other ≡ a.name → ⊥) → (kept_at a.after other ≡ kept_at a.before other) ⊎ (kept_at a.after other ≡ None)

-- the greatest version served of an object is not below what it was
abbrev pub NoVersionFalls : Cache → Cache → Type 0
NoVersionFalls before after = (other : ObjName) → served_at before other ≤ served_at after other

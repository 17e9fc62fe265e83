-- Why a cache refuses what a get answered.
use Rattle.std.specs.Prelude.{◌≡◌, ℕ, ◌<◌, max, Bool, if◌then◌else◌, List, Option, Some, Err}
use Rattle.db_base.specs.declared.names.ObjName.{ObjName}
use Rattle.db_base.specs.declared.names.ObjName.TheVariants as object
use Rattle.db_base.specs.declared.names.Place.TheVariants as place
use Rattle.db_base.specs.declared.trouble.Trouble.{Trouble}
use Rattle.db_base.specs.declared.trouble.Trouble.TheVariants as trouble
use Rattle.page_cache.specs.Spelled.{version_read}
use Rattle.page_cache.specs.Cache.{Cache, served_at}

-- the least version of a page that a session may see, where it is got at all: of a leaf the greatest one served, and at least 1
abbrev pub least_of : Cache → ObjName → Bool → ℕ
least_of c name as_leaf = if as_leaf then max 1 (served_at c name) else 1

-- the page was absent, or its version is below the least
pub record IsStale (c : Cache) (name : ObjName) (as_leaf : Bool) (t : Trouble) : Type 0 where
  pub tree : ℕ
  pub page : ℕ
  pub found : ℕ
  pub of : name ≡ object.Page tree page
  pub is : t ≡ trouble.Stale page (least_of c name as_leaf) found
  pub below : found < least_of c name as_leaf

-- the bytes are in no spelling of their kind
pub record IsDamaged (name : ObjName) (as_leaf : Bool) (got : Option (List ℕ)) (t : Trouble) : Type 0 where
  pub bytes : List ℕ
  pub offset : ℕ
  pub were : got ≡ Some bytes
  pub fault : version_read name as_leaf bytes ≡ Err offset
  pub is : t ≡ trouble.Damaged (place.Object name) offset

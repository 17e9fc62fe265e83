-- A session's cache: the objects that it keeps, and the greatest version of each leaf that it was served.
use Rattle.std.specs.Prelude.{◌≡◌, ◌≢◌, ℕ, ◌≤◌, max, Bool, ◌&&◌, ◌==◌, if◌then◌else◌, nat_lt, List, [], ◌∷◌, length, take, Option, Some, None, unwrap_or, Result, Ok, Err}
use Rattle.std.specs.List.{AllByRecursion, IsDistinct}
use Rattle.std.specs.Map.{keys_of, lookup, remove_entry}
use Rattle.indexmap.specs.IndexMap.{insert_entry}
use Rattle.db_base.specs.declared.names.ObjName.{ObjName}
use Rattle.db_base.specs.declared.names.ObjName.TheVariants as object
use Rattle.db_base.specs.declared.names.Place.TheVariants as place
use Rattle.db_base.specs.declared.trouble.Trouble.{Trouble}
use Rattle.db_base.specs.declared.trouble.Trouble.TheVariants as trouble
use Rattle.page_cache.specs.Names.{same_name}
use Rattle.page_cache.specs.Spelled.{version_read, IsSpelled}

-- the objects that are kept, the newest accepted first, each with its bytes or as absent; and of each leaf that was served
-- the greatest version served, in the order of first service
pub record Cache : Type 0 where
  pub objects : List (ObjName × Option (List ℕ))
  pub versions : List (ObjName × ℕ)

abbrev pub empty_cache : Cache
empty_cache = record { objects = []; versions = [] }

-- what is kept of an object: None where it is not kept, Some None where it is kept as absent
abbrev pub kept_at : Cache → ObjName → Option (Option (List ℕ))
kept_at c name = lookup (same_name name) c.objects

-- the greatest version served of a leaf, 0 where none was
abbrev pub served_at : Cache → ObjName → ℕ
served_at c name = unwrap_or (lookup (same_name name) c.versions) 0

-- ---- what changes

-- how many objects are kept at most
abbrev pub most_kept : ℕ
most_kept = 64

-- an object goes first among those that are kept, and of one too many the last goes
abbrev pub placed_in : List (ObjName × Option (List ℕ)) → ObjName → Option (List ℕ) → List (ObjName × Option (List ℕ))
placed_in objects name bytes = take most_kept ((name, bytes) ∷ remove_entry (same_name name) objects)

abbrev pub placed : Cache → ObjName → Option (List ℕ) → Cache
placed c name bytes = record c { objects = placed_in c.objects name bytes }

-- a version of a leaf is served
abbrev pub served : Cache → ObjName → ℕ → Cache
served c name version = record c { versions = insert_entry same_name c.versions name version }

-- the bytes of an object are forgotten, and not its version
abbrev pub dropped : Cache → ObjName → Cache
dropped c name = record c { objects = remove_entry (same_name name) c.objects }

-- ---- what an answer of a get comes to: the version and the cache after it, or the trouble

-- an absent leaf: page 1 is kept as absent where no version of it was served; else the leaf is stale
abbrev pub accepts_no_leaf : Cache → ObjName → ℕ → ℕ → Result (ℕ × Cache) Trouble
accepts_no_leaf c name page least = if (page == 1) && (least == 0) then Ok (0, placed c name None) else Err (trouble.Stale page (max 1 least) 0)

-- an absent root is kept as absent; an absent inner node is stale
abbrev pub accepts_none : Cache → ObjName → Bool → Result (ℕ × Cache) Trouble
accepts_none c (object.Head client) as_leaf = Ok (0, placed c (object.Head client) None)
accepts_none c (object.Tree tree) as_leaf = Ok (0, placed c (object.Tree tree) None)
accepts_none c (object.Page tree page) as_leaf =
    if as_leaf then accepts_no_leaf c (object.Page tree page) page (served_at c (object.Page tree page)) else Err (trouble.Stale page 1 0)

-- a version of a leaf is served where it is not below the greatest one served
abbrev pub accepts_leaf : Cache → ObjName → ℕ → List ℕ → ℕ → ℕ → Result (ℕ × Cache) Trouble
accepts_leaf c name page bytes least version =
    if nat_lt version least then Err (trouble.Stale page least version) else Ok (version, served (placed c name (Some bytes)) name version)

-- a version of a root or of an inner node is kept
abbrev pub accepts_version : Cache → ObjName → Bool → List ℕ → ℕ → Result (ℕ × Cache) Trouble
accepts_version c (object.Head client) as_leaf bytes version = Ok (version, placed c (object.Head client) (Some bytes))
accepts_version c (object.Tree tree) as_leaf bytes version = Ok (version, placed c (object.Tree tree) (Some bytes))
accepts_version c (object.Page tree page) as_leaf bytes version =
    if as_leaf then accepts_leaf c (object.Page tree page) page bytes (served_at c (object.Page tree page)) version else Ok (version, placed c (object.Page tree page) (Some bytes))

-- bytes in no spelling of their kind are damaged
abbrev pub accepts_read : Cache → ObjName → Bool → List ℕ → Result ℕ ℕ → Result (ℕ × Cache) Trouble
accepts_read c name as_leaf bytes (Ok version) = accepts_version c name as_leaf bytes version
accepts_read c name as_leaf bytes (Err offset) = Err (trouble.Damaged (place.Object name) offset)

-- the answer of a get of an object, which is asked for as a leaf or, where it is a page, as an inner node
abbrev pub accepts : Cache → ObjName → Bool → Option (List ℕ) → Result (ℕ × Cache) Trouble
accepts c name as_leaf None = accepts_none c name as_leaf
accepts c name as_leaf (Some bytes) = accepts_read c name as_leaf bytes (version_read name as_leaf bytes)

-- the same of any answer to a get
abbrev pub accepts_got : Cache → ObjName → Bool → Result (Option (List ℕ)) Trouble → Result (ℕ × Cache) Trouble
accepts_got c name as_leaf (Ok got) = accepts c name as_leaf got
accepts_got c name as_leaf (Err t) = Err t

-- the code did so, unless memory ran out; a refusal leaves the cache as it was
abbrev pub Did : Result (ℕ × Cache) Trouble → Cache → Cache → Result ℕ Trouble → Type 0
Did outcome old new (Ok version) = outcome ≡ Ok (version, new)
Did outcome old new (Err t) = (t ≢ trouble.Memory → outcome ≡ Err t) × (new ≡ old)

-- ---- what holds of every cache

-- at most so many objects are kept, each once, and in a spelling of its kind
pub record AreObjects (objects : List (ObjName × Option (List ℕ))) : Type 0 where
  pub few : length objects ≤ most_kept
  pub distinct : IsDistinct same_name (keys_of objects)
  pub spelled : AllByRecursion (λ (o : ObjName × Option (List ℕ)). IsSpelled o.0 o.1) objects

abbrev pub IsCache : Cache → Type 0
IsCache c = AreObjects c.objects

-- The pages of a tree, read off the map of objects.
use Rattle.std.specs.Prelude.{ℕ, ◌==◌, ◌&&◌, cond, List, [], ◌∷◌, All, Contains, flat_map, is_some, IsSome}
use Rattle.std.specs.BTreeMap.{BTreeMap}
use Rattle.std.specs.Global.{Vec}
use Rattle.db_base.specs.declared.names.ObjName.{ObjName}
use Rattle.db_base.specs.declared.names.ObjName.TheVariants.{Page}
use Rattle.cloud_trait.specs.declared.state.Version.{Version}
use Rattle.cloud_trait.specs.Listing.{AscendAbove}
use Rattle.cloud_trait.specs.State.{newest_of}
use Rattle.memory_cloud.specs.Maps.{versions_in}

-- the page that an object is, where it is one of the tree and its newest version has bytes
abbrev pub page_at : ℕ → ObjName → List Version → List ℕ
page_at tree (Page of page) vs = cond ((of == tree) && is_some (newest_of vs)) (page ∷ []) []
page_at tree name vs = []

-- those of a list of objects, in its order
abbrev pub pages_of : ℕ → List (ObjName × Vec Version) → List ℕ
pages_of tree objects = flat_map (λ (e : ObjName × Vec Version). page_at tree e.0 e.1.items) objects

-- these are just the pages of the tree whose newest version has bytes, in ascending order
pub record IsListed (m : BTreeMap ObjName (Vec Version)) (tree : ℕ) (pages : List ℕ) : Type 0 where
  pub ascending : AscendAbove 0 pages
  pub have : All (λ page. IsSome (newest_of (versions_in m (Page tree page)))) pages
  pub whole : (page : ℕ) → IsSome (newest_of (versions_in m (Page tree page))) → Contains pages page

-- What a listing of a tree's pages answers.
use Rattle.std.specs.Prelude.{ℕ, ◌<◌, List, [], ◌∷◌, All, Contains, IsSome}
use Rattle.db_base.specs.declared.names.ObjName.TheVariants.{Page}
use Rattle.cloud_trait.specs.State.{CloudState, newest}

-- the numbers ascend, each once, from above this one
abbrev pub AscendAbove : ℕ → List ℕ → Type 0
AscendAbove low [] = Unit {0}
AscendAbove low (n ∷ ns) = low < n × AscendAbove n ns

-- these are just the pages of the tree whose newest version has bytes, in ascending order
pub record IsListing (s : CloudState) (tree : ℕ) (pages : List ℕ) : Type 0 where
  pub ascending : AscendAbove 0 pages
  pub have : All (λ page. IsSome (newest s (Page tree page))) pages
  pub whole : (page : ℕ) → IsSome (newest s (Page tree page)) → Contains pages page

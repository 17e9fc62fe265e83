-- What a load looks at before it opens a session.
use Rattle.std.specs.Prelude.{ℕ, zero, suc, ◌≡◌, ◌+◌, List, [], ◌∷◌, ◌++◌, map, Option, Some, None, Result, Ok, Err}
use Rattle.cloud_trait.specs.Bench.{IsShown}
use Rattle.cloud_trait.specs.Seen.{Seen}
use Rattle.cloud_trait.specs.State.{CloudState, newest}
use Rattle.cloud_trait.specs.Weather.{Rose}
use Rattle.db_base.specs.Limits.{last_client, last_tree}
use Rattle.db_base.specs.declared.names.ObjName.{ObjName}
use Rattle.db_base.specs.declared.names.ObjName.TheVariants.{Head, Tree, Page}
use Rattle.reply_text.specs.Name.{object_word}
use Rattle.load_plan.specs.declared.first_look.LookStop.{LookStop}
use Rattle.load_plan.specs.declared.first_look.LookStop.TheVariants.{NotEmpty, Failed, Memory}

-- so many numbers from one on
abbrev pub numbers : ℕ → ℕ → List ℕ
numbers first zero = []
numbers first (suc n) = first ∷ numbers (first + 1) n

abbrev pub tree_names : List ℕ → List ObjName
tree_names [] = []
tree_names (tree ∷ trees) = Tree tree ∷ Page tree 1 ∷ tree_names trees

-- the heads of all clients, and then for each tree its object and its page 1
abbrev pub first_names : List ObjName
first_names = map Head (numbers 1 last_client) ++ tree_names (numbers 1 last_tree)

-- an object has these bytes, or none, by the state that is told, and by what the cloud tells that looks show
pub record ShowsOf (seen : Seen) (name : ObjName) (bytes : Option (List ℕ)) : Type 0 where
  pub told : (s : CloudState) → seen.state ≡ Some s → bytes ≡ newest s name
  pub shown : IsShown seen name bytes

-- none of these objects is there
abbrev pub NoneThere : Seen → List ObjName → Type 0
NoneThere seen [] = Unit {0}
NoneThere seen (name ∷ names) = ShowsOf seen name None × NoneThere seen names

-- looks changed nothing but the count of failed looks
pub record Looked (before after : Seen) : Type 0 where
  pub faults : after.counts.faults ≡ before.counts.faults
  pub withheld : after.counts.withheld ≡ before.counts.withheld
  pub stale : after.counts.stale ≡ before.counts.stale
  pub heard : after.heard ≡ before.heard
  pub shown : after.shown ≡ before.shown
  pub stays : (s : CloudState) → before.state ≡ Some s → after.state ≡ Some s

-- and none of them failed
pub record LookedOn (before after : Seen) : Type 0 where
  pub looked : Looked before after
  pub seeing : after.counts.dark ≡ before.counts.dark

-- one of them failed
pub record LookedDark (before after : Seen) : Type 0 where
  pub looked : Looked before after
  pub rose : Rose before.counts.dark after.counts.dark

-- the look at this object ended the looks: it is there, the look failed, or memory ran out
abbrev pub EndsLooks : LookStop → ObjName → Seen → Seen → Type 0
EndsLooks (NotEmpty text) name before after = (text ≡ object_word name) × ((bytes : List ℕ) × ShowsOf before name (Some bytes)) × LookedOn before after
EndsLooks Failed name before after = LookedDark before after
EndsLooks Memory name before after = LookedOn before after

-- the looks at these objects ended by the first that did not show that none is there
pub record LooksEnded (names : List ObjName) (stop : LookStop) (before after : Seen) : Type 0 where
  pub earlier : List ObjName
  pub name : ObjName
  pub later : List ObjName
  pub at : names ≡ earlier ++ name ∷ later
  pub none : NoneThere before earlier
  pub ends : EndsLooks stop name before after

-- all of these objects were looked at, and none is there
pub record LookedAtAll (names : List ObjName) (before after : Seen) : Type 0 where
  pub none : NoneThere before names
  pub looked : LookedOn before after

abbrev pub LooksAt : List ObjName → Result (Unit {0}) LookStop → Seen → Seen → Type 0
LooksAt names (Ok done) before after = LookedAtAll names before after
LooksAt names (Err stop) before after = LooksEnded names stop before after

-- What remains of a cloud behind a sweep of a tree, by the cloud that it began over.
use Rattle.std.specs.Prelude.{ℕ, ◌≡◌, ◌≢◌, ◌⊎◌, [], ◌∷◌, ◌++◌, None}
use Rattle.cloud_facts.specs.Words.{QueueName, Version, CloudState}
use Rattle.db_base.specs.declared.names.ObjName.TheVariants as object
use Rattle.session_facts.specs.Machines.Sweeps.Reached.{HasBytes, IsReached}

-- behind the versions of a page that had bytes and that nothing reached is one without bytes
pub record WasRemoved (s t : CloudState) (tree page : ℕ) : Type 0 where
  pub last : Version
  pub bare : last.bytes ≡ None
  pub added : t.versions (object.Page tree page) ≡ s.versions (object.Page tree page) ++ last ∷ []
  pub had : HasBytes s tree page
  pub unreached : IsReached s tree page → ⊥

-- a page of the tree has the versions that it had, or it was removed
abbrev pub PageRemains : CloudState → CloudState → ℕ → ℕ → Type 0
PageRemains s t tree page = (t.versions (object.Page tree page) ≡ s.versions (object.Page tree page)) ⊎ WasRemoved s t tree page

-- all heads, tree objects, pages of other trees, and messages with their marks are as they were, and so are the pages of the tree but for removed ones
pub record Remains (s t : CloudState) (tree : ℕ) : Type 0 where
  pub heads : (client : ℕ) → t.versions (object.Head client) ≡ s.versions (object.Head client)
  pub roots : (of : ℕ) → t.versions (object.Tree of) ≡ s.versions (object.Tree of)
  pub others : (of page : ℕ) → of ≢ tree → t.versions (object.Page of page) ≡ s.versions (object.Page of page)
  pub pages : (page : ℕ) → PageRemains s t tree page
  pub messages : (queue : QueueName) → t.messages queue ≡ s.messages queue

-- the pages of the tree that have bytes then are just those that had bytes before and were reached
pub record AreJustReached (s t : CloudState) (tree : ℕ) : Type 0 where
  pub only : (page : ℕ) → HasBytes t tree page → HasBytes s tree page × IsReached s tree page
  pub all : (page : ℕ) → IsReached s tree page → HasBytes t tree page

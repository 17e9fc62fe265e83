-- The ranges of the identifiers.
use Rattle.std.specs.Prelude.{ℕ, ◌≤◌, ◌+◌}
use Rattle.db_base.specs.Limits.{last_client, last_tree, last_session, last_indexed}

-- clients are 1 to 64
pub record IsClient (n : ℕ) : Type 0 where
  pub some : 1 ≤ n
  pub most : n ≤ last_client

-- trees are 1 to 16
pub record IsTree (n : ℕ) : Type 0 where
  pub some : 1 ≤ n
  pub most : n ≤ last_tree

-- the tree of the index by attribute of a tree from 1 to 8
abbrev pub index_of : ℕ → ℕ
index_of tree = tree + last_indexed

-- pages are 1 and above
abbrev pub IsPage : ℕ → Type 0
IsPage n = 1 ≤ n

-- sessions that lines name are 1 to 16
pub record IsSession (n : ℕ) : Type 0 where
  pub some : 1 ≤ n
  pub most : n ≤ last_session

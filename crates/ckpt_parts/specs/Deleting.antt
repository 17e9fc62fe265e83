-- Deletions under way.
use Rattle.std.specs.Prelude.{ℕ, ◌+◌, Bool, true, false, List, [], ◌∷◌, Option, Some, None}

-- the ids whose deletion was not tried yet, and how many deletions went and how many failed
pub record Deleting : Type 0 where
  pub ids : List ℕ
  pub deleted : ℕ
  pub left : ℕ

-- all of these ids are to be deleted
abbrev pub to_delete : List ℕ → Deleting
to_delete ids = record { ids = ids; deleted = 0; left = 0 }

-- the id that is deleted next
abbrev pub next_id : List ℕ → Option ℕ
next_id [] = None
next_id (id ∷ ids) = Some id

-- the deletion of the first id went, or it failed
abbrev pub tried_first : List ℕ → Deleting → Bool → Deleting
tried_first ids d true = record d { ids = ids; deleted = d.deleted + 1 }
tried_first ids d false = record d { ids = ids; left = d.left + 1 }

abbrev pub tried_of : List ℕ → Deleting → Bool → Deleting
tried_of [] d went = d
tried_of (id ∷ ids) d went = tried_first ids d went

-- after the next deletion, where one was left
abbrev pub tried : Deleting → Bool → Deleting
tried d went = tried_of d.ids d went

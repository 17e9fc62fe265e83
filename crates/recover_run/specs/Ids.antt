-- Sets of message ids, in the order in which they came.
use Rattle.std.specs.Prelude.{ℕ, ◌==◌, ◌++◌, List, [], ◌∷◌, Bool, true, false, if◌then◌else◌, drop}
use Rattle.std.specs.List.{list_any}

-- whether an id is in the set
abbrev pub has_id : List ℕ → ℕ → Bool
has_id set id = list_any (λ other. other == id) set

-- the ids that are not in the set, each at its first place
abbrev pub new_ids : List ℕ → List ℕ → List ℕ
new_ids set [] = []
new_ids set (id ∷ ids) = if has_id set id then new_ids set ids else id ∷ new_ids (set ++ id ∷ []) ids

-- whether there is one
abbrev pub has_some : List ℕ → Bool
has_some [] = false
has_some (id ∷ ids) = true

-- the ids behind the first
abbrev pub rest_of : List ℕ → List ℕ
rest_of ids = drop 1 ids

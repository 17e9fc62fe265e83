-- The entries of one attribute in an index: those that begin with its length and its bytes. They stand together in the order of bytes.
use Rattle.std.specs.Prelude.{◌≡◌, ℕ, ◌+◌, ◌==◌, nat_lt, length, List, [], ◌∷◌, ◌++◌, Option, Some, None, if◌then◌else◌}
use Rattle.db_base.specs.Limits.{longest_key}
use Rattle.leaf_view.specs.Leaf.{Entry}

-- what each entry of an attribute begins with
abbrev pub prefix_of : List ℕ → List ℕ
prefix_of attr = length attr ∷ attr

-- bytes begin with others
abbrev pub BeginsWith : List ℕ → List ℕ → Type 0
BeginsWith prefix bytes = (rest : List ℕ) × (bytes ≡ prefix ++ rest)

-- the last byte raised by one, where it is not the greatest
abbrev pub raised : ℕ → Option (List ℕ)
raised b = if nat_lt b 255 then Some ((b + 1) ∷ []) else None

abbrev pub next_behind : ℕ → Option (List ℕ) → Option (List ℕ)
next_behind b (Some next) = Some (b ∷ next)
next_behind b None = raised b

-- the least bytes above all that begin so; none where each byte is the greatest
abbrev pub next_of : List ℕ → Option (List ℕ)
next_of [] = None
next_of (b ∷ bs) = next_behind b (next_of bs)

-- what is behind a prefix, where the bytes begin so and go on
abbrev pub behind : List ℕ → List ℕ → Option (List ℕ)
behind [] [] = None
behind [] (b ∷ bs) = Some (b ∷ bs)
behind (p ∷ ps) [] = None
behind (p ∷ ps) (b ∷ bs) = if p == b then behind ps bs else None

-- the record's key of an entry of this attribute; none for bytes that are no such entry
abbrev pub record_key : List ℕ → List ℕ → Option (List ℕ)
record_key attr bytes = if nat_lt longest_key (length bytes) then None else behind (prefix_of attr) bytes

abbrev pub joined : Option (List ℕ) → List (List ℕ) → List (List ℕ)
joined None keys = keys
joined (Some key) keys = key ∷ keys

-- the record's keys of those entries of an index that are of this attribute
abbrev pub entry_keys : List ℕ → List Entry → List (List ℕ)
entry_keys attr [] = []
entry_keys attr (e ∷ es) = joined (record_key attr e.key) (entry_keys attr es)

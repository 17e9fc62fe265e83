-- What changes make of the value at a key.
use Rattle.std.specs.Prelude.{ℕ, List, [], ◌∷◌, Option, if◌then◌else◌}
use Rattle.db_base.specs.Change.{key_of, act}
use Rattle.db_base.specs.Value.{Value}
use Rattle.db_base.specs.declared.change.Change.{Change}
use Rattle.byte_format.specs.Order.{bytes_same}
use Rattle.log_codec.specs.declared.record.PuItem.{PuItem}

-- a change acts on the value at its key, and leaves those at others
abbrev pub acted_at : List ℕ → Option Value → Change → Option Value
acted_at key value c = if bytes_same key (key_of c) then act value c else value

-- the changes of items act one after another
abbrev pub acted_by : List ℕ → Option Value → List PuItem → Option Value
acted_by key value [] = value
acted_by key value (x ∷ xs) = acted_by key (acted_at key value x.rec.change) xs

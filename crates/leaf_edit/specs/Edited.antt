-- Records after changes.
use Rattle.std.specs.Prelude.{ℕ, List, [], ◌∷◌, Option, Some, None}
use Rattle.std.specs.declared.cmp.Ordering.{Ordering}
use Rattle.std.specs.declared.cmp.Ordering.TheVariants.{Less, Equal, Greater}
use Rattle.db_base.specs.Change.{key_of, act}
use Rattle.db_base.specs.Value.{Value}
use Rattle.db_base.specs.declared.change.Change.{Change}
use Rattle.byte_format.specs.Order.{bytes_cmp}
use Rattle.leaf_view.specs.Leaf.{Entry}
use Rattle.log_codec.specs.declared.record.PuItem.{PuItem}

-- a record in front of the others, where there is a value
abbrev pub with_value : List ℕ → Option Value → List Entry → List Entry
with_value key None es = es
with_value key (Some value) es = record { key = key; value = value } ∷ es

-- where the front record stands against the change's key: `behind` are the others after the change
abbrev pub edited_at : Ordering → Entry → List Entry → List Entry → Change → List Entry
edited_at Less e es behind c = e ∷ behind
edited_at Equal e es behind c = with_value (key_of c) (act (Some e.value) c) es
edited_at Greater e es behind c = with_value (key_of c) (act None c) (e ∷ es)

-- records in key order after one change: the record of its key is as the change acts, the others stay
abbrev pub edited : List Entry → Change → List Entry
edited [] c = with_value (key_of c) (act None c) []
edited (e ∷ es) c = edited_at (bytes_cmp e.key (key_of c)) e es (edited es c) c

-- after the changes of the items, one after another
abbrev pub edited_by : List Entry → List PuItem → List Entry
edited_by es [] = es
edited_by es (x ∷ xs) = edited_by (edited es x.rec.change) xs

-- Records and changes on their way into each other.
use Rattle.std.specs.Prelude.{◌≡◌, ℕ, ◌+◌, ◌<◌, ◌≤◌, false, IsTrue, List, [], ◌∷◌, ◌++◌, length, Option, Some, None}
use Rattle.std.specs.List.{AllByRecursion}
use Rattle.std.specs.Option.{option_to_list, IfSome}
use Rattle.db_base.specs.Key.{IsKey, IsPayload, IsAttr}
use Rattle.db_base.specs.Value.{Value}
use Rattle.db_base.specs.Change.{key_of}
use Rattle.byte_format.specs.Order.{bytes_below}
use Rattle.leaf_view.specs.Leaf.{Entry}
use Rattle.leaf_view.specs.Fits.{Ascend, entry_below}
use Rattle.log_codec.specs.declared.record.PuItem.{PuItem}
use Rattle.log_codec.specs.Order.{IsItem}
use Rattle.leaf_edit.specs.Edited.{edited_by, with_value}

-- the key stands before the first record, where there is one
abbrev pub KeyBefore : List ℕ → List Entry → Type 0
KeyBefore key [] = Unit {0}
KeyBefore key (e ∷ es) = IsTrue (bytes_below key e.key)

-- the record of a key, where there is a value
abbrev pub entry_at : List ℕ → Option Value → Option Entry
entry_at key None = None
entry_at key (Some value) = Some (record { key = key; value = value })

-- no item has a key below that of an earlier one
abbrev pub Rises : List PuItem → Type 0
Rises [] = Unit {0}
Rises (x ∷ xs) = AllByRecursion (λ y. bytes_below (key_of y.rec.change) (key_of x.rec.change) ≡ false) xs × Rises xs

-- a value that has a spelling
pub record IsValue (v : Value) : Type 0 where
  pub payload : IsPayload v.payload
  pub attr : IfSome v.attr IsAttr

-- a record that has a spelling
pub record IsSized (e : Entry) : Type 0 where
  pub key : IsKey e.key
  pub value : IsValue e.value

-- records in order
pub record AreRecords (es : List Entry) : Type 0 where
  pub ascend : Ascend entry_below None es
  pub sized : AllByRecursion IsSized es

-- changes in order
pub record AreChanges (xs : List PuItem) : Type 0 where
  pub rise : Rises xs
  pub items : AllByRecursion IsItem xs

-- no change is at a key below this one, all are at keys below it, or all at keys above it
abbrev pub AllFrom : List ℕ → List PuItem → Type 0
AllFrom key xs = AllByRecursion (λ y. bytes_below (key_of y.rec.change) key ≡ false) xs

abbrev pub AllBelow : List ℕ → List PuItem → Type 0
AllBelow key xs = AllByRecursion (λ y. IsTrue (bytes_below (key_of y.rec.change) key)) xs

abbrev pub AllAbove : List ℕ → List PuItem → Type 0
AllAbove key xs = AllByRecursion (λ y. IsTrue (bytes_below key (key_of y.rec.change))) xs

-- the changes of the key that come first make `new` of the value `old`, and `rest` are those behind them
pub record Folds (key : List ℕ) (old : Option Value) (xs : List PuItem) (new : Option Value) (rest : List PuItem) : Type 0 where
  pub is : (es : List Entry) → KeyBefore key es → edited_by (with_value key old es) xs ≡ edited_by (with_value key new es) rest
  pub above : AllAbove key rest
  pub changes : AreChanges rest
  pub shorter : length rest ≤ length xs
  pub value : IfSome new IsValue

-- one record more is known of the records under the changes, or none where a change removed it
pub record Steps (es : List Entry) (xs : List PuItem) (known : Option Entry) (es' : List Entry) (xs' : List PuItem) : Type 0 where
  pub is : edited_by es xs ≡ option_to_list known ++ edited_by es' xs'
  pub sized : IfSome known IsSized
  pub records : AreRecords es'
  pub changes : AreChanges xs'
  pub shorter : length es' + length xs' < length es + length xs

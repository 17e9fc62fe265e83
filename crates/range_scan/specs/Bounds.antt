-- The bounds of what is asked for in a leaf, and the places of keys in lists that ascend.
use Rattle.std.specs.Prelude.{ℕ, suc, ◌≡◌, Bool, not, ◌&&◌, List, [], ◌∷◌, Option, Some, None, if◌then◌else◌}
use Rattle.byte_format.specs.Order.{bytes_below, bytes_same, below_bound}
use Rattle.db_base.specs.Value.{Value}
use Rattle.leaf_view.specs.Leaf.{Entry}
use Rattle.range_scan.specs.Pairs.{Sight, is_listed}

-- from which key on, and below which, where there is one
pub record Bounds : Type 0 where
  pub from : List ℕ
  pub to : Option (List ℕ)

-- whether a key lies between the bounds
abbrev pub is_between : Bounds → List ℕ → Bool
is_between b key = not (bytes_below key b.from) && below_bound key b.to

-- those keys lie between them that are asked for, and the leaf's
abbrev pub AreBoundsOf : Sight → Bounds → Type 0
AreBoundsOf s b = (key : List ℕ) → is_between b key ≡ is_listed s key

-- the bound `to` where it lies in the range of a leaf, below the leaf's high key
abbrev pub cut_at : Option (List ℕ) → Option (List ℕ) → Option (List ℕ)
cut_at high None = None
cut_at high (Some to) = if below_bound to high then Some to else None

-- ---- pairs that ascend

-- those from the first one on that is not below a key
abbrev pub from_on : List ℕ → List Entry → List Entry
from_on key [] = []
from_on key (e ∷ es) = if bytes_below e.key key then from_on key es else e ∷ es

-- those before the first one that is not below a bound
abbrev pub up_to : Option (List ℕ) → List Entry → List Entry
up_to bound [] = []
up_to bound (e ∷ es) = if below_bound e.key bound then e ∷ up_to bound es else []

-- how many are below a key: where it has its place
abbrev pub place_of : List ℕ → List Entry → ℕ
place_of key [] = 0
place_of key (e ∷ es) = if bytes_below e.key key then suc (place_of key es) else 0

-- the value of the first pair, where it is of this key
abbrev pub first_value : List ℕ → List Entry → Option Value
first_value key [] = None
first_value key (e ∷ es) = if bytes_same e.key key then Some e.value else None

-- the pairs without the first one, where it is of this key
abbrev pub without_first : List ℕ → List Entry → List Entry
without_first key [] = []
without_first key (e ∷ es) = if bytes_same e.key key then es else e ∷ es

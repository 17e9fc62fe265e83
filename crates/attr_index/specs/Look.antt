-- A look-up by attribute as a machine beside the cache: walks from leaf to leaf of an index, and then a walk to each record that is listed there.
use Rattle.std.specs.Prelude.{ℕ, Bool, false, List, [], ◌∷◌, ◌++◌, Option, Some, None, if◌then◌else◌}
use Rattle.byte_format.specs.Order.{bytes_same, below_bound}
use Rattle.db_base.specs.Ids.{index_of}
use Rattle.db_base.specs.Value.{Value}
use Rattle.db_base.specs.declared.pair.Pair.{Pair}
use Rattle.db_base.specs.declared.trouble.Trouble.TheVariants as trouble
use Rattle.head_codec.specs.declared.head.Head.{Head}
use Rattle.leaf_view.specs.Leaf.{Leaf}
use Rattle.txn_buffer.specs.Noted.{Noted}
use Rattle.route_plan.specs.Seen.{seen}
use Rattle.cloud_trait.specs.declared.answer.Answer.{Answer}
use Rattle.cloud_trait.specs.declared.turn.Turn.{Turn}
use Rattle.cloud_trait.specs.declared.turn.Turn.TheVariants.{More, Ended, Stopped}
use Rattle.cloud_trait.specs.Ask.{Ask}
use Rattle.cloud_trait.specs.Machine.{Next, Goes, Ends, Stops}
use Rattle.page_cache.specs.Cache.{Cache}
use Rattle.page_cache.specs.Held.{leaf_at}
use Rattle.tree_walk.specs.Walk.{Walk, new_walk, object_of, sought, walk_ask, walk_ready, walk_next}
use Rattle.range_scan.specs.Pairs.{Sight, items_of}
use Rattle.attr_index.specs.declared.stage.Stage.{Stage}
use Rattle.attr_index.specs.declared.stage.Stage.TheVariants.{Index, Records}
use Rattle.attr_index.specs.Prefix.{prefix_of, next_of, entry_keys}

-- what is asked for: the records of a tree that have an attribute
pub record Query : Type 0 where
  pub tree : ℕ
  pub attr : List ℕ

-- what a client sees beside the leaves: its own changes, those that it committed and those in its buffer
pub record Own : Type 0 where
  pub client : ℕ
  pub head : Head
  pub buffer : List Noted

-- a look-up: whether its walk is in the index or to a record, the listed keys that are to be read behind it, and the records found so far
pub record Look : Type 0 where
  pub query : Query
  pub stage : Stage
  pub walk : Walk
  pub listed : List (List ℕ)
  pub pairs : List Pair

-- the call in hand: that of its walk
abbrev pub look_ask : Look → Ask
look_ask l = walk_ask l.walk

-- the same beside the cache
abbrev pub look_asks : Look × Cache → Ask
look_asks m = look_ask m.0

-- the bytes above all entries of the attribute, where there are some
abbrev pub bound_of : Query → Option (List ℕ)
bound_of q = next_of (prefix_of q.attr)

-- ---- walks

-- a walk to the leaf of the index that holds a key
abbrev pub index_walk : Query → List ℕ → Walk
index_walk q key = new_walk (index_of q.tree) (Some key) false

-- a walk to a record
abbrev pub record_walk : Query → List ℕ → Walk
record_walk q key = new_walk q.tree (Some key) false

-- a new walk is in hand, or it stops at once; it never ends without a call, since a leaf is always got
abbrev pub set_out : Look → Next (Walk × Cache) ℕ → Next (Look × Cache) (Unit {0})
set_out l (Goes m) = Goes (record l { walk = m.0 }, m.1)
set_out l (Ends m page) = Stops (record l { walk = m.0 }, m.1) trouble.Failed
set_out l (Stops m t) = Stops (record l { walk = m.0 }, m.1) t

abbrev pub walks : Look → Walk → Cache → Next (Look × Cache) (Unit {0})
walks l w c = set_out l (walk_ready (w, c))

-- a look-up that lists and found nothing yet
abbrev pub new_look : Query → Look
new_look q = record { query = q; stage = Index; walk = index_walk q (prefix_of q.attr); listed = []; pairs = [] }

-- before the first call: a walk to the leaf of the index that holds the length and the bytes of the attribute
abbrev pub look_ready : Query → Cache → Next (Look × Cache) (Unit {0})
look_ready q c = walks (new_look q) (index_walk q (prefix_of q.attr)) c

-- ---- at the end of a walk

-- to the next listed record; at the last one the look-up ends
abbrev pub to_first : Look → List (List ℕ) → Cache → Next (Look × Cache) (Unit {0})
to_first l [] c = Ends (l, c) tt
to_first l (key ∷ keys) c = walks (record l { stage = Records; listed = keys }) (record_walk l.query key) c

abbrev pub to_record : Look → Cache → Next (Look × Cache) (Unit {0})
to_record l c = to_first l l.listed c

-- what the client sees of a leaf of the index, from the key on to which the walk led
abbrev pub index_sight : Query → Own → List ℕ → Leaf → Sight
index_sight q own from leaf =
    record { leaf = leaf; tree = index_of q.tree; from = from; to = bound_of q; client = own.client; head = own.head; buffer = own.buffer }

-- the keys of the records that a leaf of the index lists
abbrev pub keys_in : Query → Own → List ℕ → Leaf → List (List ℕ)
keys_in q own from leaf = entry_keys q.attr (items_of (index_sight q own from leaf))

-- behind a leaf of the index: to the leaf that holds its high key, where that is below the bound, else to the records
abbrev pub behind_leaf : Look → Option (List ℕ) → Cache → Next (Look × Cache) (Unit {0})
behind_leaf l None c = to_record l c
behind_leaf l (Some high) c = if below_bound high (bound_of l.query) then walks l (index_walk l.query high) c else to_record l c

abbrev pub with_keys : Look → Own → Leaf → Look
with_keys l own leaf = record l { listed = l.listed ++ keys_in l.query own (sought l.walk) leaf }

-- whether a value has the attribute
abbrev pub has_attr : List ℕ → Option (List ℕ) → Bool
has_attr attr None = false
has_attr attr (Some of) = bytes_same of attr

-- a record joins those found where the client sees it there with the attribute
abbrev pub found_with : List ℕ → List ℕ → Option Value → List Pair
found_with attr key None = []
found_with attr key (Some value) = if has_attr attr value.attr then record { key = key; payload = value.payload } ∷ [] else []

abbrev pub found_in_leaf : Query → Own → List ℕ → Leaf → List Pair
found_in_leaf q own key leaf = found_with q.attr key (seen leaf q.tree key own.client own.head own.buffer)

abbrev pub with_found : Look → Own → Leaf → Look
with_found l own leaf = record l { pairs = l.pairs ++ found_in_leaf l.query own (sought l.walk) leaf }

-- by what the walk was for
abbrev pub leaf_read_at : Stage → Look → Own → Leaf → Cache → Next (Look × Cache) (Unit {0})
leaf_read_at Index l own leaf c = behind_leaf (with_keys l own leaf) leaf.high c
leaf_read_at Records l own leaf c = to_record (with_found l own leaf) c

-- at the leaf at which the walk ended; the cache always keeps it
abbrev pub leaf_read : Look → Own → Option Leaf → Cache → Next (Look × Cache) (Unit {0})
leaf_read l own None c = Stops (l, c) trouble.Failed
leaf_read l own (Some leaf) c = leaf_read_at l.stage l own leaf c

abbrev pub read_here : Look → Own → Cache → Next (Look × Cache) (Unit {0})
read_here l own c = leaf_read l own (leaf_at c (object_of l.walk)) c

-- where a turn of its walk leads
abbrev pub walked_on : Look → Own → Cache → Turn ℕ → Next (Look × Cache) (Unit {0})
walked_on l own c More = Goes (l, c)
walked_on l own c (Ended page) = read_here l own c
walked_on l own c (Stopped t) = Stops (l, c) t

-- the look-up with the walk in hand as a turn left it
abbrev pub walked_by : Look → Own → Walk × Cache → Turn ℕ → Next (Look × Cache) (Unit {0})
walked_by l own n turn = walked_on (record l { walk = n.0 }) own n.1 turn

abbrev pub walked : Look → Own → Next (Walk × Cache) ℕ → Next (Look × Cache) (Unit {0})
walked l own (Goes n) = walked_by l own n More
walked l own (Ends n page) = walked_by l own n (Ended page)
walked l own (Stops n t) = walked_by l own n (Stopped t)

-- where an answer leads
abbrev pub look_next : Own → Look × Cache → Answer → Next (Look × Cache) (Unit {0})
look_next own m a = walked m.0 own (walk_next (m.0.walk, m.1) a)

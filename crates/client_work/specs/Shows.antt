-- What a session shows at the end of a read, of a scan and of a look-up, by all the calls of the operation.
use Rattle.std.specs.Prelude.{◌≡◌, true, List, [], ◌∷◌, map, Option, unwrap_or}
use Rattle.attr_index.specs.Look.{Own, Look, look_ask}
use Rattle.attr_index.specs.Meaning.{Visit, Looked, IsFound, leaf_by, visited}
use Rattle.std.specs.List.{AllByRecursion}
use Rattle.db_base.specs.declared.pair.Pair.{Pair}
use Rattle.db_base.specs.Value.{Value}
use Rattle.leaf_view.specs.Leaf.{Entry, Leaf}
use Rattle.leaf_view.specs.Lookup.{holds}
use Rattle.txn_buffer.specs.Noted.{Noted}
use Rattle.route_plan.specs.Seen.{seen}
use Rattle.cloud_trait.specs.declared.answer.Answer.{Answer}
use Rattle.cloud_trait.specs.Caller.{Caller}
use Rattle.cloud_trait.specs.Machine.{Deed, IsMade}
use Rattle.cloud_trait.specs.Seen.{Seen}
use Rattle.page_cache.specs.Cache.{Cache}
use Rattle.tree_walk.specs.Walk.{Walk, sought, walk_ask}
use Rattle.range_scan.specs.Scan.{Scan, scan_ask}
use Rattle.range_scan.specs.Meaning.{Range, range_of, Move, Scanned, IsServed, AreServed, leaves_of, AreMeeting, IsPast}
use Rattle.range_scan.specs.Pairs.{Sight}
use Rattle.range_scan.specs.Whole.{Listed, leaves_in, all_pairs, IsListed, IsWhole}
use Rattle.recover_run.specs.declared.home.Home.{Home}
use Rattle.client_work.specs.InHand.{InHand}
use Rattle.client_work.specs.declared.listing.Listing.{Listing}
use Rattle.client_work.specs.declared.work.Work.{Work}
use Rattle.client_work.specs.declared.work.Work.TheVariants.{Scanning, Looking}

-- what the client of a home sees beside the leaves
abbrev pub own_of : Home → List Noted → Own
own_of home buffer = record { client = home.client; head = home.head; buffer = buffer }

-- ---- a read

-- the call that a read makes
abbrev pub read_deed : Caller → Walk → Answer → Seen → Seen → Deed
read_deed who w answer before after = record { who = who; ask = walk_ask w; answer = answer; before = before; after = after }

-- the value behind the last step of a read: what its client sees of the key in a leaf whose range holds it, as this step's own call served it
pub record ShowsValue (who : Caller) (before after : Seen) (own : Own) (w : Walk) (value : Option Value) : Type 0 where
  pub answer : Answer
  pub made : IsMade (read_deed who w answer before after)
  pub leaf : Leaf
  pub served : IsServed w.tree (read_deed who w answer before after) leaf
  pub holds_key : holds leaf (sought w) ≡ true
  pub value_is : value ≡ seen leaf w.tree (sought w) own.client own.head own.buffer

-- ---- a scan

-- a record of a leaf, as a scan shows it: without its attribute
abbrev pub pair_of : Entry → Pair
pair_of e = record { key = e.key; payload = e.value.payload }

-- what a client looks at in a leaf for a range
abbrev pub sight_in : Range → Home → List Noted → Leaf → Sight
sight_in r home buffer l = record { leaf = l; tree = r.tree; from = unwrap_or r.from []; to = r.to; client = home.client; head = home.head; buffer = buffer }

-- of a leaf all pairs are listed that its client sees there
pub record IsSeen (r : Range) (home : Home) (buffer : List Noted) (x : Listed) : Type 0 where
  pub sight_is : x.sight ≡ sight_in r home buffer x.sight.leaf
  pub is_listed : IsListed x

-- the records are those of these leaves, from the first one on
pub record Lists (r : Range) (home : Home) (buffer : List Noted) (leaves : List Leaf) (records : List Pair) : Type 0 where
  pub listed : List Listed
  pub of : leaves_in listed ≡ leaves
  pub seen_so : AllByRecursion (IsSeen r home buffer) listed
  pub records_are : records ≡ map pair_of (all_pairs listed)

-- a scan in hand came from its begin by some calls, and listed the leaves behind which it went on
pub record IsUnderWay (home : Home) (buffer : List Noted) (m : Listing) (c : Cache) : Type 0 where
  pub moves : List Move
  pub came : Scanned (range_of m.scan) moves (m.scan, c)
  pub lists : Lists (range_of m.scan) home buffer (leaves_of moves) m.pairs

-- the call that a scan makes
abbrev pub scan_deed : Caller → Scan → Answer → Seen → Seen → Deed
scan_deed who s answer before after = record { who = who; ask = scan_ask s; answer = answer; before = before; after = after }

-- The records behind the last step of a scan: those of its leaves, each as a call of this scan served it, the last one by this step's own. The
-- first leaf has the first key, each next one begins where the one before it ends, and nothing that is asked for is behind the last. So each key
-- is there once, in ascending order, with the payload that the client sees in the leaf whose range has it, and no other.
pub record ShowsRecords (who : Caller) (before after : Seen) (buffer : List Noted) (held : InHand Listing) (records : List Pair) : Type 0 where
  pub moves : List Move
  pub came : Scanned (range_of held.machine.scan) moves (held.machine.scan, held.cache)
  pub answer : Answer
  pub made : IsMade (scan_deed who held.machine.scan answer before after)
  pub leaf : Leaf
  pub served : IsServed (range_of held.machine.scan).tree (scan_deed who held.machine.scan answer before after) leaf
  pub earlier : AreServed (range_of held.machine.scan).tree moves
  pub meeting : AreMeeting (range_of held.machine.scan) (leaf ∷ leaves_of moves)
  pub last : IsPast (range_of held.machine.scan).to leaf.high
  pub lists : Lists (range_of held.machine.scan) held.home buffer (leaf ∷ leaves_of moves) records
  pub whole : IsWhole lists.listed

-- ---- a look-up

-- a look-up in hand came from its begin by some calls, and by these its walks ended at some leaves
pub record IsLooking (home : Home) (buffer : List Noted) (m : Look) (c : Cache) : Type 0 where
  pub calls : List Deed
  pub visits : List Visit
  pub came : Looked m.query (own_of home buffer) calls visits (m, c)

-- the call that a look-up makes
abbrev pub look_deed : Caller → Look → Answer → Seen → Seen → Deed
look_deed who l answer before after = record { who = who; ask = look_ask l; answer = answer; before = before; after = after }

-- The records behind the last step of a look-up: those found in the leaves at which its walks ended, each as a call of this look-up served it, the last
-- one by this step's own.
pub record ShowsFound (who : Caller) (before after : Seen) (buffer : List Noted) (held : InHand Look) (records : List Pair) : Type 0 where
  pub calls : List Deed
  pub visits : List Visit
  pub came : Looked held.machine.query (own_of held.home buffer) calls visits (held.machine, held.cache)
  pub answer : Answer
  pub made : IsMade (look_deed who held.machine answer before after)
  pub found :
      (let call : Deed = look_deed who held.machine answer before after
      in IsFound held.machine.query (own_of held.home buffer) (visited held.machine call (leaf_by (held.machine, held.cache) call) visits) records)

-- ---- what holds of a session at any time

-- a scan or a look-up in hand is under way beside the changes and the cache
abbrev pub IsKnown : List Noted → Work → Cache → Type 0
IsKnown buffer (Scanning home m) c = IsUnderWay home buffer m c
IsKnown buffer (Looking home m) c = IsLooking home buffer m c
IsKnown buffer work c = Unit {0}

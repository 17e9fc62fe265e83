-- A look-up ends: it has fewer calls left behind each call from which it goes on.
use Rattle.std.proofs.Common.{◌≡◌, ℕ, ◌+◌, ◌*◌, ◌^◌, ◌<◌, ◌≤◌, Bool, true, false, List, [], ◌∷◌, length, Option, Some, None, unwrap_or, refl, ap, sym, subst, ◌∙◌, arith, mul-le-mul_right}
use Rattle.std.specs.Prelude.{IfSome, if◌then◌else◌}
use Rattle.std.proofs.lemmas.Bool.{and_parts}
use Rattle.byte_format.specs.Order.{bytes_below, below_bound}
use Rattle.byte_format.specs.Whole.{IsBytes}
use Rattle.db_base.specs.Ids.{index_of}
use Rattle.attr_index.proofs.Words.{Stage, Index, Records, Caller, Ends, Goes, Next, Stops, Seen, Turn, Ended, More, Stopped, Leaf, holds}
use Rattle.page_cache.specs.Cache.{Cache}
use Rattle.page_cache.specs.Held.{leaf_at}
use Rattle.tree_walk.specs.Moves.{Moves}
use Rattle.tree_walk.specs.Stepped.{Stepped as StepsWalk}
use Rattle.tree_walk.specs.Walk.{Walk, new_walk, object_of, sought, walk_ready, IsAtLeaf}
use Rattle.tree_walk.specs.Walk.{calls_left as walk_calls_left}
use Rattle.tree_walk.proofs.Stays.{WalksBeside, ready_walks}
use Rattle.attr_index.specs.Look.{Own, Look, bound_of, set_out, to_first, to_record, behind_leaf, with_keys, with_found, leaf_read, leaf_read_at, walked_by}
use Rattle.attr_index.specs.End.{keys_above, walks_left, calls_left}
use Rattle.attr_index.proofs.Highs.{kept_short}
use Rattle.attr_index.proofs.Ranks.{fewer_above}

-- ---- a walk less is worth more than any walk's calls

worth : (few many calls left most : ℕ) → few < many → calls ≤ most → few * (most + 1) + calls < many * (most + 1) + left
worth few many calls left most less within =
    let whole : (few + 1) * (most + 1) ≤ many * (most + 1) = mul-le-mul_right (most + 1) (omega (arith, less)) in
    omega (arith, whole, within)

walk_most : (w : Walk) → walk_calls_left w ≤ 2 ^ 66
walk_most w = omega arith

walk_less : (old new : Look) → walks_left new.stage new < walks_left old.stage old → calls_left new < calls_left old
walk_less old new less =
    worth (walks_left new.stage new) (walks_left old.stage old) (walk_calls_left new.walk) (walk_calls_left old.walk) (2 ^ 66) less (walk_most new.walk)

-- ---- where a look-up goes on to a new walk

-- the new one is to this key, and what is to be read behind it stays
record SetsOut (l : Look) (key : List ℕ) (n : Look) : Type 0 where
  stage : n.stage ≡ l.stage
  listed : n.listed ≡ l.listed
  seeks : sought n.walk ≡ key

sets_out : (l : Look) (tree : ℕ) (key : List ℕ) (c : Cache) (n : Look × Cache)
    → set_out l (walk_ready (new_walk tree (Some key) false, c)) ≡ Goes n → SetsOut l key n.0
sets_out l tree key c n = on (walk_ready (new_walk tree (Some key) false, c)) (ready_walks tree (Some key) false c) where
  on : (x : Next (Walk × Cache) ℕ) → WalksBeside tree (Some key) x → set_out l x ≡ Goes n → SetsOut l key n.0
  on (Goes m) to goes =
      let same : ◌≡◌ {A = Look × Cache} (record l { walk = m.0 }, m.1) n = cc (goes) in
      let seeks : sought m.0 ≡ key = ap (λ (k : Option (List ℕ)). unwrap_or k []) to.1.1 in
      subst (λ (k : Look × Cache). SetsOut l key k.0) same (record { stage = refl; listed = refl; seeks = seeks })
  on (Ends m page) to goes = absurd (cc (goes))
  on (Stops m t) to goes = absurd (cc (goes))

-- one listed key less is to be read
record ReadsOn (l n : Look) : Type 0 where
  stage : n.stage ≡ Records
  listed : length l.listed ≡ length n.listed + 1

reads_on : (l : Look) (c : Cache) (n : Look × Cache) → to_record l c ≡ Goes n → ReadsOn l n.0
reads_on l c n = on l.listed where
  on : (keys : List (List ℕ)) → to_first l keys c ≡ Goes n → (let k : Look = record l { listed = keys } in ReadsOn k n.0)
  on [] goes = absurd (cc (goes))
  on (key ∷ keys) goes =
      let left : Look = record l { stage = Records; listed = keys } in
      let out : SetsOut left key n.0 = sets_out left l.query.tree key c n goes in
      let same : length n.0.listed ≡ length keys = ap (λ (ks : List (List ℕ)). length ks) out.listed in
      record { stage = out.stage; listed = omega (arith, same) }

-- ---- what that leaves

records_left : (n : Look) → n.stage ≡ Records → walks_left n.stage n ≡ length n.listed
records_left n is = ap (λ (s : Stage). walks_left s n) is

index_left : (n : Look) → n.stage ≡ Index → walks_left n.stage n ≡ keys_above (sought n.walk) + 2 ^ 64
index_left n is = ap (λ (s : Stage). walks_left s n) is

-- behind a leaf of the index that holds the key
behind_less : (l : Look) (key : List ℕ) (high : Option (List ℕ)) (c : Cache) (n : Look × Cache) → l.stage ≡ Index → below_bound key high ≡ true
    → IfSome high (λ h. length h ≤ 64) → IsBytes (sought n.0.walk) → length n.0.listed < 2 ^ 64 → behind_leaf l high c ≡ Goes n
    → walks_left n.0.stage n.0 < keys_above key + 2 ^ 64
behind_less l key high c n of_index below short fits few = on high below short where
  to_records : to_record l c ≡ Goes n → walks_left n.0.stage n.0 < keys_above key + 2 ^ 64
  to_records goes = omega (arith, few, records_left n.0 (reads_on l c n goes).stage)

  to_leaf : (h : List ℕ) → bytes_below key h ≡ true → length h ≤ 64 → SetsOut l h n.0 → walks_left n.0.stage n.0 < keys_above key + 2 ^ 64
  to_leaf h below short out =
      let same : sought n.0.walk ≡ h = out.seeks in
      let fewer : keys_above h < keys_above key = fewer_above 64 key h short (subst IsBytes same fits) below in
      let left : walks_left n.0.stage n.0 ≡ keys_above h + 2 ^ 64 =
      index_left n.0 (out.stage ∙ of_index) ∙ ap (λ (k : List ℕ). keys_above k + 2 ^ 64) same in
      omega (arith, fewer, left)

  on : (o : Option (List ℕ)) → below_bound key o ≡ true → IfSome o (λ h. length h ≤ 64) → behind_leaf l o c ≡ Goes n
      → walks_left n.0.stage n.0 < keys_above key + 2 ^ 64
  on None below short goes = to_records goes
  on (Some h) below short goes = by (below_bound h (bound_of l.query)) goes where
    by : (b : Bool) → (if b then set_out l (walk_ready (new_walk (index_of l.query.tree) (Some h) false, c)) else to_record l c) ≡ Goes n
        → walks_left n.0.stage n.0 < keys_above key + 2 ^ 64
    by true goes = to_leaf h below short (sets_out l (index_of l.query.tree) h c n goes)
    by false goes = to_records goes

-- behind the leaf at which its walk ended
read_less : (l : Look) (own : Own) (leaf : Leaf) (c : Cache) (n : Look × Cache) → holds leaf (sought l.walk) ≡ true
    → IfSome leaf.high (λ h. length h ≤ 64) → IsBytes (sought n.0.walk) → length n.0.listed < 2 ^ 64 → leaf_read_at l.stage l own leaf c ≡ Goes n
    → walks_left n.0.stage n.0 < walks_left l.stage l
read_less l own leaf c n holds short fits few = on l.stage refl where
  on : (s : Stage) → l.stage ≡ s → leaf_read_at s l own leaf c ≡ Goes n → walks_left n.0.stage n.0 < walks_left s l
  on Index is goes = behind_less (with_keys l own leaf) (sought l.walk) leaf.high c n is (and_parts _ _ holds).1 short fits few goes
  on Records is goes =
      let more : ReadsOn (with_found l own leaf) n.0 = reads_on (with_found l own leaf) c n goes in
      omega (arith, more.listed, records_left n.0 more.stage)

-- a walk to the same key leaves as many walks
same_left : (s : Stage) (l : Look) (w : Walk) → sought w ≡ sought l.walk → (let k : Look = record l { walk = w } in walks_left s k ≡ walks_left s l)
same_left Index l w same = ap (λ (key : List ℕ). keys_above key + 2 ^ 64) same
same_left Records l w same = refl

-- the same walk goes on
on_less : (l : Look) (w : Walk) → sought w ≡ sought l.walk → walk_calls_left w < walk_calls_left l.walk
    → (let k : Look = record l { walk = w } in calls_left k < calls_left l)
on_less l w same less = rw (same_left l.stage l w same) (omega (arith, less))

-- Each step from which a look-up goes on leaves it fewer calls: its walk went on, or it set out on one of the walks that were left.
pub fewer : (own : Own) (who : Caller) (before after : Seen) (old new : Look × Cache) (walk : Walk × Cache) (moved : Turn ℕ)
    → StepsWalk who before after (old.0.walk, old.1) walk moved
    → (moved ≡ More → walk_calls_left walk.0 < walk_calls_left old.0.walk)
    → ((page : ℕ) → moved ≡ Ended page → IsAtLeaf walk.0 walk.1 page)
    → Moves (walked_by old.0 own walk moved) new More
    → IsBytes (sought new.0.walk)
    → length new.0.listed < 2 ^ 64
    → calls_left new.0 < calls_left old.0
fewer own who before after old new walk More walked less at_leaf goes fits few =
    let same : ◌≡◌ {A = Look × Cache} (record old.0 { walk = walk.0 }, walk.1) new = cc (goes) in
    let key : sought walk.0 ≡ sought old.0.walk = ap (λ (k : Option (List ℕ)). unwrap_or k []) (walked.aim (λ e. absurd (cc (e)))).key in
    subst (λ (k : Look × Cache). calls_left k.0 < calls_left old.0) same (on_less old.0 walk.0 key (less refl))
fewer own who before after old new walk (Ended page) walked less at_leaf goes fits few =
    let at : IsAtLeaf walk.0 walk.1 page = at_leaf page refl in
    let key : sought walk.0 ≡ sought old.0.walk = ap (λ (k : Option (List ℕ)). unwrap_or k []) (walked.aim (λ e. absurd (cc (e)))).key in
    let l : Look = record old.0 { walk = walk.0 } in
    let kept : leaf_at walk.1 (object_of walk.0) ≡ Some at.leaf = ap (leaf_at walk.1) at.in_hand ∙ at.kept in
    let read : leaf_read_at l.stage l own at.leaf walk.1 ≡ Goes new = ap (λ (o : Option Leaf). leaf_read l own o walk.1) (sym kept) ∙ goes in
    let short = kept_short walk.1 walk.0.tree page at.leaf at.kept in
    let fall : walks_left new.0.stage new.0 < walks_left l.stage l = read_less l own at.leaf walk.1 new at.holds short fits few read in
    walk_less old.0 new.0 (subst (λ (k : ℕ). walks_left new.0.stage new.0 < k) (same_left old.0.stage old.0 walk.0 key) fall)
fewer own who before after old new walk (Stopped t) walked less at_leaf goes fits few = absurd (cc (goes))

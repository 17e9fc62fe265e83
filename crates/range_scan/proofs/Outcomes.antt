-- What a step of a scan comes to, whatever branches led there.
use Rattle.std.proofs.Common.{◌≡◌, ℕ, Bool, true, false, List, [], ◌∷◌, ◌++◌, Option, Some, None, Result, Ok, Err, refl, ap, sym, subst, ◌∙◌}
use Rattle.std.specs.Prelude.{◌&&◌, if◌then◌else◌}
use Rattle.byte_format.specs.Order.{bytes_same, below_bound}
use Rattle.db_base.specs.declared.names.ObjName.TheVariants as object
use Rattle.range_scan.proofs.Words.{Ends, Goes, Next, Stops, Answer, Trouble, Leaf, page_at}
use Rattle.db_base.specs.declared.trouble.Trouble.TheVariants as trouble
use Rattle.cloud_trait.specs.declared.answer.Answer.TheVariants as answer
use Rattle.cloud_trait.specs.Views.{got_of}
use Rattle.cloud_trait.proofs.ViewLemmas.{got_of-ok}
use Rattle.page_cache.specs.Cache.{Cache, accepts}
use Rattle.page_cache.specs.Held.{leaf_at}
use Rattle.page_cache.proofs.ViewLemmas.{accept_leaf}
use Rattle.tree_walk.specs.Walk.{Spot, Walk, object_of, walk_ready, walk_next}
use Rattle.tree_walk.proofs.Outcomes.{readies}
use Rattle.tree_walk.proofs.Outcomes.{Readies as WalkReadies}
use Rattle.range_scan.specs.Scan.{Scan, scan_object_at, scan_object, scan_came_to, right_behind, ended_at, leaf_ended, first_in, scan_beside, walked_by, right_read_in, right_accepted, right_got, scan_ready, next_at, scan_next}

-- ---- at the end of a leaf

-- The page to the right is noted; where it is one to go on to, the scan had not come to it.
pub record Leaves (s : Scan) (l : Leaf) (page : ℕ) (n : Scan) (p : ℕ) : Type 0 where
  pub is : n ≡ record s { next = right_behind l.high (page_at l.right) }
  pub page_is : p ≡ page
  pub new : (next : Spot) → right_behind l.high (page_at l.right) ≡ Some next → below_bound next.low s.to ≡ true → scan_came_to s next.page ≡ false

-- The scan stops there, since it had.
pub record Loops (s : Scan) (l : Leaf) (n : Scan) (t : Trouble) : Type 0 where
  pub next : Spot
  pub linked : right_behind l.high (page_at l.right) ≡ Some next
  pub wanted : below_bound next.low s.to ≡ true
  pub came : scan_came_to s next.page ≡ true
  pub is : t ≡ trouble.Loop next.page
  pub stays : n ≡ s

abbrev pub AtEnd : Scan → Leaf → ℕ → Next Scan ℕ → Type 0
AtEnd s l page (Goes n) = ⊥
AtEnd s l page (Ends n p) = Leaves s l page n p
AtEnd s l page (Stops n t) = Loops s l n t

one_spot : (a b : Spot) → Some a ≡ Some b → a ≡ b
one_spot a b e = cc (e)

at_end : (s : Scan) (l : Leaf) (page : ℕ) → AtEnd s l page (leaf_ended s l page)
at_end s l page = on (right_behind l.high (page_at l.right)) refl where
  behind : (next : Spot) → right_behind l.high (page_at l.right) ≡ Some next → (a : Bool) → below_bound next.low s.to ≡ a → (b : Bool) → scan_came_to s next.page ≡ b
      → AtEnd s l page (if a && b then Stops s (trouble.Loop next.page) else Ends (record s { next = Some next }) page)
  behind next linked true wanted true came = record { next = next; linked = linked; wanted = wanted; came = came; is = refl; stays = refl }
  behind next linked true wanted false new = record {
    is = ap (λ (o : Option Spot). record s { next = o }) (sym linked);
    page_is = refl;
    new = λ x is below. subst (λ (y : Spot). scan_came_to s y.page ≡ false) (one_spot next x (sym linked ∙ is)) new;
  }
  behind next linked false past b came = record {
    is = ap (λ (o : Option Spot). record s { next = o }) (sym linked);
    page_is = refl;
    new = λ x is below. let same : next ≡ x = one_spot next x (sym linked ∙ is) in absurd (cc (past, below, same));
  }

  on : (o : Option Spot) → right_behind l.high (page_at l.right) ≡ o → AtEnd s l page (ended_at s page o)
  on None last = record { is = ap (λ (o : Option Spot). record s { next = o }) (sym last); page_is = refl; new = λ x is below. absurd (cc (last, is)) }
  on (Some next) linked = behind next linked (below_bound next.low s.to) refl (scan_came_to s next.page) refl

-- ---- a step

-- the right page in hand was got, and the cache keeps its leaf
pub record IsRead (m : Scan × Cache) (a : Answer) (spot : Spot) (c : Cache) (l : Leaf) : Type 0 where
  pub in_hand : m.0.spot ≡ Some spot
  pub got : Option (List ℕ)
  pub version : ℕ
  pub answered : a ≡ answer.Got got
  pub accepted : accepts m.1 (scan_object m.0) true got ≡ Ok (version, c)
  pub kept : leaf_at c (scan_object m.0) ≡ Some l

-- It came to the end of a leaf: the one at which its walk ended, or the one of the right page in hand, which is as promised.
pub data Reaches (m : Scan × Cache) (a : Answer) : Scan → Cache → Leaf → ℕ → Type 0 where
  first : (w : Walk × Cache) (page : ℕ) (l : Leaf) → m.0.spot ≡ None → walk_next (m.0.walk, m.1) a ≡ Ends w page → leaf_at w.1 (object_of w.0) ≡ Some l
      → Reaches m a (record m.0 { walk = w.0 }) w.1 l page
  right : (spot : Spot) (c : Cache) (l : Leaf) → IsRead m a spot c l → bytes_same l.low spot.low ≡ true
      → Reaches m a (record m.0 { passed = m.0.passed ++ spot.page ∷ [] }) c l spot.page

-- a step that goes on is one of its walk
pub record GoesOn (m : Scan × Cache) (a : Answer) (n : Scan × Cache) : Type 0 where
  pub none : m.0.spot ≡ None
  pub walk : walk_next (m.0.walk, m.1) a ≡ Goes (n.0.walk, n.1)
  pub is : n.0 ≡ record m.0 { walk = n.0.walk }

-- one that ends does so at a leaf
pub record EndsAt (m : Scan × Cache) (a : Answer) (n : Scan × Cache) (page : ℕ) : Type 0 where
  pub at : Scan
  pub leaf : Leaf
  pub at_page : ℕ
  pub reached : Reaches m a at n.1 leaf at_page
  pub leaves : Leaves at leaf at_page n.0 page

-- one that stops does so with its walk, for the answer, for the leaf's low key, or for its link
pub data StopsFor (m : Scan × Cache) (a : Answer) : Scan × Cache → Trouble → Type 0 where
  walk_stops : (w : Walk × Cache) (t : Trouble) → m.0.spot ≡ None → walk_next (m.0.walk, m.1) a ≡ Stops w t → StopsFor m a (record m.0 { walk = w.0 }, w.1) t
  -- a walk does not end so
  no_leaf : (w : Walk × Cache) (page : ℕ) → m.0.spot ≡ None → walk_next (m.0.walk, m.1) a ≡ Ends w page → leaf_at w.1 (object_of w.0) ≡ None
      → StopsFor m a (record m.0 { walk = w.0 }, w.1) trouble.Failed
  fails : (spot : Spot) (t : Trouble) → m.0.spot ≡ Some spot → got_of a ≡ Err t → StopsFor m a m t
  refuses : (spot : Spot) (got : Option (List ℕ)) (t : Trouble) → m.0.spot ≡ Some spot → a ≡ answer.Got got → accepts m.1 (scan_object m.0) true got ≡ Err t → StopsFor m a m t
  breaks : (spot : Spot) (c : Cache) (l : Leaf) → IsRead m a spot c l → bytes_same l.low spot.low ≡ false
      → StopsFor m a (m.0, c) (trouble.BadFence spot.page spot.low l.low)
  loops : (s n : Scan) (c : Cache) (l : Leaf) (page : ℕ) (t : Trouble) → Reaches m a s c l page → Loops s l n t → StopsFor m a (n, c) t

abbrev pub Comes : Scan × Cache → Answer → Next (Scan × Cache) ℕ → Type 0
Comes m a (Goes n) = GoesOn m a n
Comes m a (Ends n page) = EndsAt m a n page
Comes m a (Stops n t) = StopsFor m a n t

ends_by : (m : Scan × Cache) (a : Answer) (s : Scan) (c : Cache) (l : Leaf) (page : ℕ) → Reaches m a s c l page → (x : Next Scan ℕ) → AtEnd s l page x → Comes m a (scan_beside (x, c))
ends_by m a s c l page reached (Goes n) never = absurd never
ends_by m a s c l page reached (Ends n p) leaves = record { at = s; leaf = l; at_page = page; reached = reached; leaves = leaves }
ends_by m a s c l page reached (Stops n t) loop = loops s n c l page t reached loop

walked : (m : Scan × Cache) (a : Answer) → m.0.spot ≡ None → (x : Next (Walk × Cache) ℕ) → walk_next (m.0.walk, m.1) a ≡ x → Comes m a (walked_by m.0 x)
walked m a none (Goes w) e = record { none = none; walk = e; is = refl }
walked m a none (Stops w t) e = walk_stops w t none e
walked m a none (Ends w page) e = on (leaf_at w.1 (object_of w.0)) refl where
  on : (o : Option Leaf) → leaf_at w.1 (object_of w.0) ≡ o → Comes m a (scan_beside (first_in (record m.0 { walk = w.0 }) page o, w.1))
  on None lost = no_leaf w page none e lost
  on (Some l) kept = ends_by m a (record m.0 { walk = w.0 }) w.1 l page (first w page l none e kept) (leaf_ended (record m.0 { walk = w.0 }) l page) (at_end (record m.0 { walk = w.0 }) l page)

right_comes : (s : Scan) (c : Cache) (spot : Spot) (a : Answer) → (let m : Scan × Cache = (record s { spot = Some spot }, c) in Comes m a (scan_beside (right_got m.0 c (got_of a))))
right_comes s c spot a = by_got (got_of a) refl where
  m : Scan × Cache
  m = (record s { spot = Some spot }, c)

  passed : Scan
  passed = record m.0 { passed = s.passed ++ spot.page ∷ [] }

  fence : (d : Cache) (l : Leaf) → IsRead m a spot d l → (b : Bool) → bytes_same l.low spot.low ≡ b
      → Comes m a (scan_beside (if b then leaf_ended passed l spot.page else Stops m.0 (trouble.BadFence spot.page spot.low l.low), d))
  fence d l read false differs = breaks spot d l read differs
  fence d l read true same = ends_by m a passed d l spot.page (right spot d l read same) (leaf_ended passed l spot.page) (at_end passed l spot.page)

  by_accept : (got : Option (List ℕ)) → a ≡ answer.Got got → (r : Result (ℕ × Cache) Trouble) → accepts c (object.Page s.walk.tree spot.page) true got ≡ r
      → Comes m a (scan_beside (right_accepted m.0 c r))
  by_accept got answered (Err t) e = refuses spot got t refl answered e
  by_accept got answered (Ok (version, d)) e =
      let (l, kept, same) = accept_leaf c s.walk.tree spot.page got version d e in
      let read : IsRead m a spot d l = record { in_hand = refl; got = got; version = version; answered = answered; accepted = e; kept = kept } in
      subst (λ (o : Option Leaf). Comes m a (scan_beside (right_read_in m.0 o, d))) (sym kept) (fence d l read (bytes_same l.low spot.low) refl)

  by_got : (g : Result (Option (List ℕ)) Trouble) → got_of a ≡ g → Comes m a (scan_beside (right_got m.0 c g))
  by_got (Err t) e = fails spot t refl e
  by_got (Ok got) e = by_accept got (got_of-ok a got e) (accepts c (object.Page s.walk.tree spot.page) true got) refl

pub comes : (m : Scan × Cache) (a : Answer) → Comes m a (scan_next m a)
comes m a = on m.0.spot where
  on : (o : Option Spot) → (let k : Scan × Cache = (record m.0 { spot = o }, m.1) in Comes k a (next_at o k a))
  on None = let k : Scan × Cache = (record m.0 { spot = None }, m.1) in walked k a refl (walk_next (m.0.walk, m.1) a) refl
  on (Some spot) = right_comes m.0 m.1 spot a

-- .. where its answer leads so
pub came_by : (m : Scan × Cache) (a : Answer) (next : Next (Scan × Cache) ℕ) → scan_next m a ≡ next → Comes m a next
came_by m a next leads = subst (Comes m a) leads (comes m a)

-- the cache keeps the leaf that is in hand
pub reached_kept : (m : Scan × Cache) (a : Answer) (s : Scan) (c : Cache) (l : Leaf) (page : ℕ) → Reaches m a s c l page → leaf_at c (scan_object s) ≡ Some l
reached_kept m a _ _ _ _ (first w page l none ends kept) = ap (λ (o : Option Spot). leaf_at w.1 (scan_object_at (record m.0 { walk = w.0 }) o)) none ∙ kept
reached_kept m a _ _ _ _ (right spot c l read same) = read.kept

-- ---- the local work before the first call

-- it is that of the walk, which does not end so
abbrev pub Readies : Scan × Cache → Next (Scan × Cache) ℕ → Type 0
Readies m (Goes n) = (walk_ready (m.0.walk, m.1) ≡ Goes (n.0.walk, n.1)) × (n.0 ≡ record m.0 { walk = n.0.walk })
Readies m (Ends n page) = ⊥
Readies m (Stops n t) = walk_ready (m.0.walk, m.1) ≡ Stops (n.0.walk, n.1) t

pub scan_readies : (m : Scan × Cache) → Readies m (scan_ready m)
scan_readies m = on (walk_ready (m.0.walk, m.1)) refl (readies (m.0.walk, m.1)) where
  on : (x : Next (Walk × Cache) ℕ) → walk_ready (m.0.walk, m.1) ≡ x → WalkReadies (m.0.walk, m.1) x → Readies m (walked_by m.0 x)
  on (Goes w) e ready = (e, refl)
  on (Ends w page) e never = absurd never
  on (Stops w t) e ready = e

-- .. so no scan ends before its first call
pub unended_ready : (m n : Scan × Cache) (page : ℕ) → scan_ready m ≡ Ends n page → ⊥
unended_ready m n page ends = subst (Readies m) ends (scan_readies m)

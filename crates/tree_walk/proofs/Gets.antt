-- A walk gets what the cache does not keep, leaves, and the tree object where it is fresh: it passes no kept object twice, and 64 are kept at most.
use Rattle.std.proofs.Common.{◌≡◌, ℕ, zero, suc, ◌<◌, ◌≤◌, Bool, true, false, cond, not, List, [], ◌∷◌, ◌++◌, length, take, Option, Some, None, Ok, refl, ap, sym, subst, ◌∙◌, inl, inr, ◌⊎◌, arith}
use Rattle.std.specs.Prelude.{if◌then◌else◌, IfSome, ◌==◌, ◌||◌}
use Rattle.std.specs.Option.{option_map}
use Rattle.std.specs.Map.{lookup, remove_entry}
use Rattle.tree_walk.proofs.Words.{Ends, Goes, Next, Stops, Answer, Turn, More, ObjName, Trouble, Inner, Tree}
use Rattle.db_base.specs.declared.names.ObjName.TheVariants as object
use Rattle.page_cache.specs.Cache.{Cache, IsCache, accepts, kept_at}
use Rattle.page_cache.specs.Held.{leaf_at, inner_at, root_at, as_inner, as_root}
use Rattle.page_cache.specs.Names.{same_name}
use Rattle.page_cache.proofs.CacheLemmas.{accept_first}
use Rattle.page_cache.proofs.NameLemmas.{same_name-is}
use Rattle.tree_walk.specs.Moves.{Moves}
use Rattle.tree_walk.specs.Walk.{Spot, Walk, new_walk, is_leaf, is_got, is_got_at, is_among, object_of, use_of, root_read, node_read, leaf_read, read_at, read_kept, follow, onward, goes_through, goes_on, rested, walk_ready, walk_next}
use Rattle.tree_walk.specs.Causes.{HasLow, BreaksLevel, BreaksFence}
use Rattle.tree_walk.specs.Served.{IsMissing, MustGet}
use Rattle.tree_walk.proofs.Causes.{among_last}
use Rattle.tree_walk.proofs.Within.{among_push, link_free}
use Rattle.tree_walk.proofs.Outcomes as step
use Rattle.tree_walk.proofs.Outcomes.{Passes, Links, KeptReads, kept_reads, GoesOn, came_by, Readies, readies}

-- ---- how many objects pass a test

counted : Bool → ℕ → ℕ
counted true n = suc n
counted false n = n

count : (ObjName → Bool) → List (ObjName × Option (List ℕ)) → ℕ
count test [] = 0
count test (o ∷ os) = counted (test o.0) (count test os)

count_few : (test : ObjName → Bool) (os : List (ObjName × Option (List ℕ))) → count test os ≤ length os
unfolding count counted
count_few test [] = omega arith
count_few test (o ∷ os) = on (test o.0) (count_few test os) where
  on : (b : Bool) → count test os ≤ length os → counted b (count test os) ≤ suc (length os)
  on true h = omega (arith, h)
  on false h = omega (arith, h)

counted_most : (a b : Bool) (m n : ℕ) → (a ≡ true → b ≡ true) → m ≤ n → counted a m ≤ counted b n
unfolding counted
counted_most true true m n h few = omega (arith, few)
counted_most true false m n h few = absurd (cc (h refl))
counted_most false true m n h few = omega (arith, few)
counted_most false false m n h few = few

counted_less : (a b : Bool) (m n : ℕ) → (a ≡ true → b ≡ true) → m < n → counted a m < counted b n
unfolding counted
counted_less true true m n h less = omega (arith, less)
counted_less true false m n h less = absurd (cc (h refl))
counted_less false true m n h less = omega (arith, less)
counted_less false false m n h less = less

count_most : (f g : ObjName → Bool) → ((x : ObjName) → f x ≡ true → g x ≡ true) → (os : List (ObjName × Option (List ℕ))) → count f os ≤ count g os
unfolding count
count_most f g sub [] = omega arith
count_most f g sub (o ∷ os) = counted_most (f o.0) (g o.0) (count f os) (count g os) (sub o.0) (count_most f g sub os)

-- one that is kept passes the one test and not the other
count_less : (f g : ObjName → Bool) → ((x : ObjName) → f x ≡ true → g x ≡ true) → (name : ObjName) → g name ≡ true → f name ≡ false
    → (os : List (ObjName × Option (List ℕ))) (v : Option (List ℕ)) → lookup (same_name name) os ≡ Some v → count f os < count g os
unfolding count counted
count_less f g sub name waits gone [] v h = absurd (cc (h))
count_less f g sub name waits gone (o ∷ os) v h = on (count_less f g sub name waits gone os v) (same_name name o.0) refl h where
  first : name ≡ o.0 → counted (f o.0) (count f os) < counted (g o.0) (count g os)
  first same =
      let most : count f os ≤ count g os = count_most f g sub os in
      subst (λ (b : Bool). counted (f o.0) (count f os) < counted b (count g os)) (sym (sym (ap g same) ∙ waits))
      (subst (λ (b : Bool). counted b (count f os) < suc (count g os)) (sym (sym (ap f same) ∙ gone)) (omega (arith, most)))

  on : (lookup (same_name name) os ≡ Some v → count f os < count g os) → (b : Bool) → same_name name o.0 ≡ b → cond b (Some o.1) (lookup (same_name name) os) ≡ Some v
      → counted (f o.0) (count f os) < counted (g o.0) (count g os)
  on less true same h = first (same_name-is name o.0 same)
  on less false other h = counted_less (f o.0) (g o.0) (count f os) (count g os) (sub o.0) (less h)

take_few : (n : ℕ) (os : List (ObjName × Option (List ℕ))) → length (take n os) ≤ n
take_few zero os = omega arith
take_few (suc n) [] = omega arith
take_few (suc n) (o ∷ os) = let few = take_few n os in omega (arith, few)

-- ---- what a walk has not passed

no_spot : Option Spot → Bool
no_spot None = true
no_spot (Some s) = false

unpassed : Option Spot → List ℕ → ObjName → Bool
unpassed o nodes (object.Head client) = false
unpassed o nodes (object.Tree tree) = no_spot o
unpassed o nodes (object.Page tree page) = not (is_among nodes page)

-- how many kept objects it has not passed
left_in : Cache → Walk → ℕ
left_in c w = count (unpassed w.spot w.nodes) c.objects

-- the page in hand was not passed
abbrev pub IsFree : Walk → Type 0
IsFree w = (s : Spot) → w.spot ≡ Some s → is_among w.nodes s.page ≡ false

or_false : (a b : Bool) → (a || b) ≡ false → (a ≡ false) × (b ≡ false)
or_false true b h = absurd (cc (h))
or_false false b h = (refl, h)

linked_free : (c : Cache) (w v : Walk) → Links c w v → IsFree v
linked_free c w v link s at = (or_false (is_among v.nodes s.page) (is_among v.leaves s.page) (link_free c w v link s at)).0

-- ---- an object that is read without a call

-- what is handed out is kept
root_kept : (o : Option (Option (List ℕ))) (t : Tree) → as_root o ≡ Some t → (v : Option (List ℕ)) × (o ≡ Some v)
root_kept None t h = absurd (cc (h))
root_kept (Some v) t h = (v, refl)

inner_kept : (o : Option (Option (List ℕ))) (n : Inner) → as_inner o ≡ Some n → (v : Option (List ℕ)) × (o ≡ Some v)
inner_kept None n h = absurd (cc (h))
inner_kept (Some v) n h = (v, refl)

nothing : ObjName → Bool
nothing x = false

some_left : (c : Cache) (w : Walk) (name : ObjName) (v : Option (List ℕ)) → unpassed w.spot w.nodes name ≡ true → kept_at c name ≡ Some v → 0 < left_in c w
unfolding left_in nothing
some_left c w name v waits kept =
    let less : count nothing c.objects < count (unpassed w.spot w.nodes) c.objects =
    count_less nothing (unpassed w.spot w.nodes) (λ x e. absurd (cc (e))) name waits refl c.objects v kept in
    omega (arith, less)

root_sub : (o : Option Spot) (s : Spot) (nodes : List ℕ) (x : ObjName) → unpassed (Some s) nodes x ≡ true → unpassed o nodes x ≡ true
unfolding unpassed no_spot
root_sub o s nodes (object.Head client) h = h
root_sub o s nodes (object.Tree tree) h = absurd (cc (h))
root_sub o s nodes (object.Page tree page) h = h

root_waits : (w : Walk) → w.spot ≡ None → unpassed w.spot w.nodes (object.Tree w.tree) ≡ true
unfolding unpassed no_spot
root_waits w none = ap no_spot none

root_gone : (s : Spot) (nodes : List ℕ) (tree : ℕ) → unpassed (Some s) nodes (object.Tree tree) ≡ false
unfolding unpassed no_spot
root_gone s nodes tree = refl

not_either : (a b : Bool) → not (a || (b || false)) ≡ true → not a ≡ true
not_either true b h = h
not_either false b h = refl

node_sub : (o : Option Spot) (s : Spot) (nodes : List ℕ) (p : ℕ) (x : ObjName) → unpassed (Some s) (nodes ++ p ∷ []) x ≡ true → unpassed o nodes x ≡ true
unfolding unpassed no_spot
node_sub o s nodes p (object.Head client) h = h
node_sub o s nodes p (object.Tree tree) h = absurd (cc (h))
node_sub o s nodes p (object.Page tree q) h = not_either (is_among nodes q) (p == q) (ap not (sym (among_push nodes p q)) ∙ h)

node_waits : (o : Option Spot) (nodes : List ℕ) (tree p : ℕ) → is_among nodes p ≡ false → unpassed o nodes (object.Page tree p) ≡ true
unfolding unpassed
node_waits o nodes tree p h = ap not h

node_gone : (s : Spot) (nodes : List ℕ) (tree p : ℕ) → unpassed (Some s) (nodes ++ p ∷ []) (object.Page tree p) ≡ false
unfolding unpassed
node_gone s nodes tree p = ap not (among_last nodes p)

-- one object less is left behind it
LessIn : Cache → Walk → Walk → Type 0
LessIn c w v = (0 < left_in c w) × (left_in c v < left_in c w)

fewer : (c : Cache) (w v : Walk) (name : ObjName) (got : Option (List ℕ)) → kept_at c name ≡ Some got
    → ((x : ObjName) → unpassed v.spot v.nodes x ≡ true → unpassed w.spot w.nodes x ≡ true) → unpassed w.spot w.nodes name ≡ true → unpassed v.spot v.nodes name ≡ false → LessIn c w v
unfolding left_in LessIn
fewer c w v name got kept sub waits gone =
    (some_left c w name got waits kept, count_less (unpassed v.spot v.nodes) (unpassed w.spot w.nodes) sub name waits gone c.objects got kept)

never_leaf : (w : Walk) (s : Spot) → w.spot ≡ Some s → (s.level == 0) ≡ true → is_got w ≡ false → ⊥
never_leaf w s at bottom free = absurd (cc (at, bottom, free))

passed_less : (c : Cache) (w v : Walk) (s : Spot) → is_got w ≡ false → IsFree w → Passes c w v s → LessIn c w (record v { spot = Some s })
passed_less c w _ s kept free (step.by_root t none root) =
    let (got, is) = root_kept (kept_at c (object.Tree w.tree)) t root in
    fewer c w (record (use_of w) { spot = Some s }) (object.Tree w.tree) got is (root_sub w.spot s w.nodes) (root_waits w none) (root_gone s w.nodes w.tree)
passed_less c w _ s kept free (step.by_node h n turned at) =
    let (got, is) = inner_kept (kept_at c (object.Page w.tree h.page)) n at.kept in
    fewer c w (record w { nodes = w.nodes ++ h.page ∷ []; turned = turned; spot = Some s }) (object.Page w.tree h.page) got is (node_sub w.spot s w.nodes h.page)
    (node_waits w.spot w.nodes w.tree h.page (free h at.in_hand)) (node_gone s w.nodes w.tree h.page)
passed_less c w _ _ kept free (step.by_leaf h l next at right) = absurd (never_leaf w h at.in_hand at.bottom kept)

link_less : (c : Cache) (w v : Walk) → is_got w ≡ false → IsFree w → Links c w v → LessIn c w v
link_less c w _ kept free (step.links v s passes new) = passed_less c w v s kept free passes

-- what is read so is kept and was not passed
node_some : (c : Cache) (w : Walk) (s : Spot) (n : Inner) → IsFree w → w.spot ≡ Some s → inner_at c (object.Page w.tree s.page) ≡ Some n → 0 < left_in c w
node_some c w s n free at kept =
    let (got, is) = inner_kept (kept_at c (object.Page w.tree s.page)) n kept in some_left c w (object.Page w.tree s.page) got (node_waits w.spot w.nodes w.tree s.page (free s at)) is

broken_some : (c : Cache) (w : Walk) (s : Spot) (t : Trouble) → is_got w ≡ false → IsFree w → w.spot ≡ Some s → BreaksLevel c w.tree s t ⊎ BreaksFence c w.tree s t → 0 < left_in c w
broken_some c w s t kept free at (inl level) = node_some c w s level.node free at level.kept
broken_some c w s t kept free at (inr fence) = on fence.found fence.has where
  on : (low : List ℕ) → HasLow c w.tree s low → 0 < left_in c w
  on low (inl (l, bottom, leaf, is)) = absurd (never_leaf w s at bottom kept)
  on low (inr (n, above, node, level, is)) = node_some c w s n free at node

some_read : (c : Cache) (w : Walk) (x : Next Walk ℕ) → KeptReads c w x → IsFree w → 0 < left_in c w
unfolding LessIn
some_read c w (Goes v) (kept, link) free = (link_less c w v kept free link).0
some_read c w (Ends _ _) (kept, step.arrives s l at right) free = absurd (never_leaf w s at.in_hand at.bottom kept)
some_read c w (Stops _ _) (kept, step.loops v s passes came) free = (passed_less c w v s kept free passes).0
some_read c w (Stops _ _) (kept, step.breaks s t at shown) free = broken_some c w s t kept free at shown

-- ---- through kept objects

map_none : {X : Type 0} (f : X → Next Walk ℕ) (o : Option X) → option_map f o ≡ None → o ≡ None
map_none f None h = refl
map_none f (Some x) h = absurd (cc (h))

-- what is not read has to be got
must_none : (c : Cache) (w : Walk) → read_kept w c ≡ None → MustGet w c
must_none c w h = on w.spot h where
  root : (b : Bool) → (if b then None else option_map (root_read w) (root_at c (object.Tree w.tree))) ≡ None → (b ≡ true) ⊎ (root_at c (object.Tree w.tree) ≡ None)
  root true h = inl refl
  root false h = inr (map_none (root_read w) (root_at c (object.Tree w.tree)) h)

  page : (s : Spot) (b : Bool)
      → (if b then None else (if b then option_map (leaf_read w) (leaf_at c (object.Page w.tree s.page)) else option_map (node_read w) (inner_at c (object.Page w.tree s.page)))) ≡ None
      → (b ≡ true) ⊎ (inner_at c (object.Page w.tree s.page) ≡ None)
  page s true h = inl refl
  page s false h = inr (map_none (node_read w) (inner_at c (object.Page w.tree s.page)) h)

  on : (o : Option Spot) → (if is_got_at w.fresh o then None else read_at w c o) ≡ None → (is_got_at w.fresh o ≡ true) ⊎ IsMissing c w.tree o
  on None h = root w.fresh h
  on (Some s) h = page s (s.level == 0) h

-- where it goes on, what is in hand has to be got
abbrev pub MustIn : Cache → Next Walk ℕ → Type 0
MustIn c (Goes v) = MustGet v c
MustIn c (Ends v page) = Unit {0}
MustIn c (Stops v t) = Unit {0}

through_must : (c : Cache) (k : ℕ) (w : Walk) → left_in c w ≤ k → IsFree w → MustIn c (goes_through c k w)
unfolding goes_through LessIn
through_must c zero w few free = on (read_kept w c) refl (kept_reads c w) where
  on : (o : Option (Next Walk ℕ)) → read_kept w c ≡ o → IfSome o (KeptReads c w) → MustGet w c
  on None e h = must_none c w e
  on (Some x) e h = let some : 0 < left_in c w = some_read c w x h free in absurd (omega (arith, few, some))
through_must c (suc k) w few free = onwards (through_must c k) (read_kept w c) refl (kept_reads c w) where
  follows : ((v : Walk) → left_in c v ≤ k → IsFree v → MustIn c (goes_through c k v)) → (x : Next Walk ℕ) → KeptReads c w x → MustIn c (follow (goes_through c k) x)
  follows more (Goes v) (kept, link) =
      let less : left_in c v < left_in c w = (link_less c w v kept free link).1 in more v (omega (arith, few, less)) (linked_free c w v link)
  follows more (Ends v page) h = tt
  follows more (Stops v t) h = tt

  onwards : ((v : Walk) → left_in c v ≤ k → IsFree v → MustIn c (goes_through c k v)) → (o : Option (Next Walk ℕ)) → read_kept w c ≡ o → IfSome o (KeptReads c w)
      → MustIn c (onward (goes_through c k) w o)
  onwards more None e h = must_none c w e
  onwards more (Some x) e h = follows more x h

pub on_must : (c : Cache) (w : Walk) → length c.objects ≤ 64 → IsFree w → MustIn c (goes_on c w)
unfolding left_in
on_must c w few free = through_must c 64 w (most few) free where
  most : length c.objects ≤ 64 → left_in c w ≤ 64
  most few = let h : count (unpassed w.spot w.nodes) c.objects ≤ length c.objects = count_few (unpassed w.spot w.nodes) c.objects in omega (arith, few, h)

-- ---- what is got next

-- an accept keeps 64 objects at most
accepted_few : (c : Cache) (name : ObjName) (as_leaf : Bool) (got : Option (List ℕ)) (version : ℕ) (d : Cache) → accepts c name as_leaf got ≡ Ok (version, d) → length d.objects ≤ 64
accepted_few c name as_leaf got version d e =
    subst (λ (os : List (ObjName × Option (List ℕ))). length os ≤ 64) (sym (accept_first c name as_leaf got version d e))
    (take_few 64 ((name, got) ∷ remove_entry (same_name name) c.objects))

pub goes_must : (m : Walk × Cache) (a : Answer) (n : Walk × Cache) → GoesOn m a n → MustGet n.0 n.1
goes_must m a n o =
    let b = o.brought in
    subst (MustIn n.1) o.ran (on_must n.1 o.next (accepted_few m.1 (object_of m.0) (is_leaf m.0) b.got b.version n.1 b.accepted) (linked_free n.1 (rested m.0) o.next o.link))

pub moved_gets : (m n : Walk × Cache) (a : Answer) (turn : Turn ℕ) → Moves (walk_next m a) n turn → turn ≡ More → MustGet n.0 n.1
moved_gets m n a turn moved more = let At : Turn ℕ → Type 0 = Moves (walk_next m a) n in goes_must m a n (came_by m a (Goes n) (subst At more moved))

pub ready_must : (tree : ℕ) (key : Option (List ℕ)) (fresh : Bool) (c : Cache) (n : Walk × Cache) → IsCache c → walk_ready (new_walk tree key fresh, c) ≡ Goes n → MustGet n.0 n.1
ready_must tree key fresh c n ok leads =
    let w = new_walk tree key fresh in
    let (same, ran, way) = subst (Readies (w, c)) leads (readies (w, c)) in
    subst (MustGet n.0) (sym same) (subst (MustIn c) ran (on_must c (rested w) ok.few (λ s e. refl)))

pub ready_gets : (tree : ℕ) (key : Option (List ℕ)) (fresh : Bool) (c : Cache) (n : Walk × Cache) (turn : Turn ℕ) → IsCache c
    → Moves (walk_ready (new_walk tree key fresh, c)) n turn → turn ≡ More → MustGet n.0 n.1
ready_gets tree key fresh c n turn ok moved more =
    let At : Turn ℕ → Type 0 = Moves (walk_ready (new_walk tree key fresh, c)) n in
    ready_must tree key fresh c n ok (subst At more moved)

-- What a step of a walk comes to, whatever branches led there.
use Rattle.std.proofs.Common.{◌≡◌, ℕ, zero, suc, Bool, true, false, List, [], ◌∷◌, ◌++◌, Option, Some, None, Result, Ok, Err, unwrap_or, refl, ap, sym, subst, ◌∙◌, inl, inr, ◌⊎◌}
use Rattle.std.specs.Prelude.{if◌then◌else◌, IfSome, ◌==◌}
use Rattle.std.specs.Option.{option_map}
use Rattle.std.proofs.lemmas.Bool.{eqb-true}
use Rattle.byte_format.specs.Order.{bytes_same}
use Rattle.db_base.specs.declared.names.ObjName.TheVariants as object
use Rattle.tree_walk.proofs.Words.{Ends, Goes, Next, Stops, got_of, Answer, Trouble, Leaf, Inner, page_at as node_at, Tree}
use Rattle.db_base.specs.declared.trouble.Trouble.TheVariants as trouble
use Rattle.leaf_view.specs.Lookup.{page_at}
use Rattle.cloud_trait.specs.declared.answer.Answer.TheVariants as answer
use Rattle.cloud_trait.proofs.ViewLemmas.{got_of-ok}
use Rattle.page_cache.specs.Cache.{Cache, accepts}
use Rattle.page_cache.specs.Held.{leaf_at, inner_at, root_at}
use Rattle.page_cache.proofs.ViewLemmas.{accept_leaf, accept_inner, accept_root}
use Rattle.tree_walk.specs.Walk.{Spot, Walk, sought, is_leaf, is_leaf_at, is_got, object_at, object_of, came_to, use_of, entry_for, right_of, linked, bad_fence, bad_level, node_left, node_passed, leaf_left, leaf_passed, root_read, node_read, leaf_read, read_at, read_from, read_kept, follow, onward, goes_through, goes_on, got_read, accepted_by, got_by, left_by, beside, rested, walk_ready, walk_next}
use Rattle.tree_walk.specs.Causes.{below, aside, node_link, node_link_by, BreaksLevel, BreaksFence}

-- ---- one object

-- the inner node in hand is as its link promised
pub record IsNodeAt (c : Cache) (w : Walk) (s : Spot) (n : Inner) : Type 0 where
  pub in_hand : w.spot ≡ Some s
  pub above : (s.level == 0) ≡ false
  pub kept : inner_at c (object.Page w.tree s.page) ≡ Some n
  pub level : (n.level == s.level) ≡ true
  pub low : bytes_same n.low s.low ≡ true

-- .. and so is the leaf in hand
pub record IsLeafAt (c : Cache) (w : Walk) (s : Spot) (l : Leaf) : Type 0 where
  pub in_hand : w.spot ≡ Some s
  pub bottom : (s.level == 0) ≡ true
  pub kept : leaf_at c (object.Page w.tree s.page) ≡ Some l
  pub low : bytes_same l.low s.low ≡ true

-- The object in hand links to a page: the walk that passed the object, and that page.
pub data Passes (c : Cache) (w : Walk) : Walk → Spot → Type 0 where
  by_root : (t : Tree) → w.spot ≡ None → root_at c (object.Tree w.tree) ≡ Some t → Passes c w (use_of w) (below t.level (entry_for (sought w) t.entries))
  by_node : (s : Spot) (n : Inner) (turned : Bool) → IsNodeAt c w s n
      → Passes c w (record w { nodes = w.nodes ++ s.page ∷ []; turned = turned }) (node_link (sought w) n)
  by_leaf : (s : Spot) (l : Leaf) (next : ℕ × List ℕ) → IsLeafAt c w s l → right_of (sought w) l.high (page_at l.right) ≡ Some next
      → Passes c w (record (use_of w) { leaves = w.leaves ++ s.page ∷ []; turned = true }) (aside 0 next)

-- The walk stops at the object in hand, with what it left then.
pub data Halts (c : Cache) (w : Walk) : Walk → Trouble → Type 0 where
  loops : (v : Walk) (s : Spot) → Passes c w v s → came_to v s.page ≡ true → Halts c w v (trouble.Loop s.page)
  breaks : (s : Spot) (t : Trouble) → w.spot ≡ Some s → BreaksLevel c w.tree s t ⊎ BreaksFence c w.tree s t → Halts c w w t

-- The walk goes on to a page that it had not come to.
pub data Links (c : Cache) (w : Walk) : Walk → Type 0 where
  links : (v : Walk) (s : Spot) → Passes c w v s → came_to v s.page ≡ false → Links c w (record v { spot = Some s })

-- It ends at the leaf in hand.
pub data Arrives (c : Cache) (w : Walk) : Walk → ℕ → Type 0 where
  arrives : (s : Spot) (l : Leaf) → IsLeafAt c w s l → right_of (sought w) l.high (page_at l.right) ≡ None → Arrives c w (use_of w) s.page

abbrev pub Reads : Cache → Walk → Next Walk ℕ → Type 0
Reads c w (Goes v) = Links c w v
Reads c w (Ends v page) = Arrives c w v page
Reads c w (Stops v t) = Halts c w v t

reads_link : (c : Cache) (w v : Walk) (s : Spot) → Passes c w v s → Reads c w (linked v s)
reads_link c w v s passes = on (came_to v s.page) refl where
  on : (b : Bool) → came_to v s.page ≡ b → Reads c w (if b then Stops v (trouble.Loop s.page) else Goes (record v { spot = Some s }))
  on true came = loops v s passes came
  on false new = links v s passes new

reads_node : (c : Cache) (w : Walk) (s : Spot) (n : Inner) → (s.level == 0) ≡ false → inner_at c (object.Page w.tree s.page) ≡ Some n
    → (let v : Walk = record w { spot = Some s } in Reads c v (node_read v n))
reads_node c w s n above kept = on (n.level == s.level) refl (bytes_same n.low s.low) refl (right_of (sought w) n.high (node_at n.right)) refl where
  v : Walk
  v = record w { spot = Some s }

  by : (turned : Bool) (to : Spot) → (n.level == s.level) ≡ true → bytes_same n.low s.low ≡ true → node_link (sought w) n ≡ to
      → Reads c v (linked (record (node_passed v) { turned = turned }) to)
  by turned to level low is =
      reads_link c v (record (node_passed v) { turned = turned }) to
      (subst (Passes c v (record (node_passed v) { turned = turned })) is (by_node s n turned (record { in_hand = refl; above = above; kept = kept; level = level; low = low })))

  on : (a : Bool) → (n.level == s.level) ≡ a → (b : Bool) → bytes_same n.low s.low ≡ b → (o : Option (ℕ × List ℕ)) → right_of (sought w) n.high (node_at n.right) ≡ o
      → Reads c v (if a then (if b then node_left (node_passed v) n o else Stops v (bad_fence v n.low)) else Stops v (bad_level v))
  on false e b f o r = breaks s (bad_level v) refl (inl (record { node = n; above = above; kept = kept; differs = e; is = refl }))
  on true e false f o r = breaks s (bad_fence v n.low) refl (inr (record { found = n.low; has = inr (n, above, kept, e, refl); differs = f; is = refl }))
  on true e true f (Some next) r = by true (aside s.level next) e f (ap (node_link_by (sought w) n) r ∙ ap (λ (k : ℕ). aside k next) (eqb-true n.level s.level e))
  on true e true f None r =
      by w.turned (below s.level (entry_for (sought w) n.entries)) e f
      (ap (node_link_by (sought w) n) r ∙ ap (λ (k : ℕ). below k (entry_for (sought w) n.entries)) (eqb-true n.level s.level e))

reads_leaf : (c : Cache) (w : Walk) (s : Spot) (l : Leaf) → (s.level == 0) ≡ true → leaf_at c (object.Page w.tree s.page) ≡ Some l
    → (let v : Walk = record w { spot = Some s } in Reads c v (leaf_read v l))
reads_leaf c w s l bottom kept = on (bytes_same l.low s.low) refl (right_of (sought w) l.high (page_at l.right)) refl where
  v : Walk
  v = record w { spot = Some s }

  is_at : bytes_same l.low s.low ≡ true → IsLeafAt c v s l
  is_at low = record { in_hand = refl; bottom = bottom; kept = kept; low = low }

  on : (b : Bool) → bytes_same l.low s.low ≡ b → (o : Option (ℕ × List ℕ)) → right_of (sought w) l.high (page_at l.right) ≡ o
      → Reads c v (if b then leaf_left (use_of v) o else Stops v (bad_fence v l.low))
  on false f o r = breaks s (bad_fence v l.low) refl (inr (record { found = l.low; has = inl (l, bottom, kept, refl); differs = f; is = refl }))
  on true f None r = arrives s l (is_at f) r
  on true f (Some next) r =
      reads_link c v (record (leaf_passed (use_of v)) { turned = true }) (aside s.level next)
      (subst (Passes c v (record (leaf_passed (use_of v)) { turned = true })) (ap (λ (k : ℕ). aside k next) (sym (eqb-true s.level 0 bottom))) (by_leaf s l next (is_at f) r))

if_map : {X : Type 0} (P : Next Walk ℕ → Type 0) (f : X → Next Walk ℕ) (o : Option X) → ((x : X) → o ≡ Some x → P (f x)) → IfSome (option_map f o) P
if_map P f None h = tt
if_map P f (Some x) h = h x refl

pub reads : (c : Cache) (w : Walk) → IfSome (read_from w c) (Reads c w)
reads c w = on w.spot where
  page : (s : Spot) (b : Bool) → (s.level == 0) ≡ b → (let v : Walk = record w { spot = Some s } in
      IfSome (if b then option_map (leaf_read v) (leaf_at c (object.Page w.tree s.page)) else option_map (node_read v) (inner_at c (object.Page w.tree s.page))) (Reads c v))
  page s true bottom = let v : Walk = record w { spot = Some s } in if_map (Reads c v) (leaf_read v) (leaf_at c (object.Page w.tree s.page)) (λ l kept. reads_leaf c w s l bottom kept)
  page s false above = let v : Walk = record w { spot = Some s } in if_map (Reads c v) (node_read v) (inner_at c (object.Page w.tree s.page)) (λ n kept. reads_node c w s n above kept)

  on : (o : Option Spot) → (let v : Walk = record w { spot = o } in IfSome (read_from v c) (Reads c v))
  on None =
      let v : Walk = record w { spot = None } in
      if_map (Reads c v) (root_read v) (root_at c (object.Tree w.tree)) (λ t kept. reads_link c v (use_of v) (below t.level (entry_for (sought w) t.entries)) (by_root t refl kept))
  on (Some s) = page s (s.level == 0) refl

-- ---- through kept objects

-- what is kept and is no leaf is read without a call
abbrev pub KeptReads : Cache → Walk → Next Walk ℕ → Type 0
KeptReads c w next = (is_got w ≡ false) × Reads c w next

pub kept_reads : (c : Cache) (w : Walk) → IfSome (read_kept w c) (KeptReads c w)
kept_reads c w = on (is_got w) refl where
  with_free : is_got w ≡ false → (o : Option (Next Walk ℕ)) → IfSome o (Reads c w) → IfSome o (KeptReads c w)
  with_free free None h = tt
  with_free free (Some next) h = (free, h)

  on : (b : Bool) → is_got w ≡ b → IfSome (if b then None else read_from w c) (KeptReads c w)
  on true got = tt
  on false free = with_free free (read_from w c) (reads c w)

-- the way from one page to the next, and so on
pub data Way (c : Cache) : Walk → Walk → Type 0 where
  here : (w : Walk) → Way c w w
  on : (w v u : Walk) → Links c w v → Way c v u → Way c w u

-- where the way leads that needs no call: it never ends
abbrev pub Runs : Cache → Walk → Next Walk ℕ → Type 0
Runs c w (Goes v) = Way c w v
Runs c w (Ends v page) = ⊥
Runs c w (Stops v t) = (u : Walk) × Way c w u × Halts c u v t

never_bottom : (w : Walk) (s : Spot) → w.spot ≡ Some s → (s.level == 0) ≡ true → is_got w ≡ false → ⊥
never_bottom w s at bottom free = absurd (cc (at, bottom, free))

runs_on : (c : Cache) (w v : Walk) (next : Next Walk ℕ) → Links c w v → Runs c v next → Runs c w next
runs_on c w v (Goes u) link way = on w v u link way
runs_on c w v (Ends u page) link never = never
runs_on c w v (Stops u t) link (x, way, halts) = (x, on w v x link way, halts)

pub runs : (c : Cache) (k : ℕ) (w : Walk) → Runs c w (goes_through c k w)
unfolding goes_through
runs c zero w = here w
runs c (suc k) w = onwards (runs c k) (read_kept w c) (kept_reads c w) where
  follows : ((v : Walk) → Runs c v (goes_through c k v)) → (next : Next Walk ℕ) → KeptReads c w next → Runs c w (follow (goes_through c k) next)
  follows more (Goes v) (free, link) = runs_on c w v (goes_through c k v) link (more v)
  follows more (Ends _ _) (free, arrives s l leaf right) = never_bottom w s leaf.in_hand leaf.bottom free
  follows more (Stops v t) (free, halts) = (w, here w, halts)

  onwards : ((v : Walk) → Runs c v (goes_through c k v)) → (o : Option (Next Walk ℕ)) → IfSome o (KeptReads c w) → Runs c w (onward (goes_through c k) w o)
  onwards more None h = here w
  onwards more (Some next) h = follows more next h

-- ---- a step

-- the cache with the object that the call brought
pub record Brought (m : Walk × Cache) (a : Answer) (d : Cache) : Type 0 where
  pub got : Option (List ℕ)
  pub version : ℕ
  pub answered : a ≡ answer.Got got
  pub accepted : accepts m.1 (object_of m.0) (is_leaf m.0) got ≡ Ok (version, d)

-- a step that goes on has passed the object that was got, and what the cache keeps behind it
pub record GoesOn (m : Walk × Cache) (a : Answer) (n : Walk × Cache) : Type 0 where
  pub brought : Brought m a n.1
  pub next : Walk
  pub link : Links n.1 (rested m.0) next
  pub ran : goes_on n.1 next ≡ Goes n.0

-- one that ends does so at the leaf that was got
pub record EndsAt (m : Walk × Cache) (a : Answer) (n : Walk × Cache) (page : ℕ) : Type 0 where
  pub cache : Cache
  pub brought : Brought m a cache
  pub arrives : Arrives cache (rested m.0) n.0 page
  pub left : n.1 ≡ left_by n.0 cache

-- one that stops does so for the answer, or for what was read behind it
pub data StopsFor (m : Walk × Cache) (a : Answer) : Walk × Cache → Trouble → Type 0 where
  fails : (t : Trouble) → got_of a ≡ Err t → StopsFor m a (rested m.0, left_by (rested m.0) m.1) t
  refuses : (got : Option (List ℕ)) (t : Trouble) → a ≡ answer.Got got → accepts m.1 (object_of m.0) (is_leaf m.0) got ≡ Err t
      → StopsFor m a (rested m.0, left_by (rested m.0) m.1) t
  halts : (d : Cache) (u v : Walk) (t : Trouble) → Brought m a d → Way d (rested m.0) u → Halts d u v t → StopsFor m a (v, left_by v d) t

abbrev pub Comes : Walk × Cache → Answer → Next (Walk × Cache) ℕ → Type 0
Comes m a (Goes n) = GoesOn m a n
Comes m a (Ends n page) = EndsAt m a n page
Comes m a (Stops n t) = StopsFor m a n t

ran_from : (m : Walk × Cache) (a : Answer) (d : Cache) (v : Walk) → Brought m a d → Links d (rested m.0) v → (next : Next Walk ℕ) → goes_on d v ≡ next → Runs d v next → Comes m a (beside (next, d))
ran_from m a d v brought link (Goes u) ran way = record { brought = brought; next = v; link = link; ran = ran }
ran_from m a d v brought link (Ends u page) ran never = absurd never
ran_from m a d v brought link (Stops u t) ran (x, way, halt) = halts d x u t brought (on (rested m.0) v x link way) halt

read_from_got : (m : Walk × Cache) (a : Answer) (d : Cache) → Brought m a d → (next : Next Walk ℕ) → Reads d (rested m.0) next → Comes m a (beside (follow (goes_on d) next, d))
read_from_got m a d brought (Goes v) link = ran_from m a d v brought link (goes_on d v) refl (runs d 64 v)
read_from_got m a d brought (Ends v page) end = record { cache = d; brought = brought; arrives = end; left = refl }
read_from_got m a d brought (Stops v t) halt = halts d (rested m.0) v t brought (here (rested m.0)) halt

-- what was accepted is kept, so it is read
abbrev pub IsThere : {X : Type 0} → Option X → Type 0
IsThere None = ⊥
IsThere (Some x) = Unit {0}

there_by : {X Y : Type 0} (f : X → Y) (o : Option X) (x : X) → o ≡ Some x → IsThere (option_map f o)
there_by f o x e = rw e tt

got_there : (w : Walk) (c : Cache) (got : Option (List ℕ)) (version : ℕ) (d : Cache) → accepts c (object_of w) (is_leaf w) got ≡ Ok (version, d) → IsThere (read_from w d)
got_there w c got version d e = at_spot w.spot e where
  page : (s : Spot) (b : Bool) → accepts c (object.Page w.tree s.page) b got ≡ Ok (version, d)
      → IsThere (if b then option_map (leaf_read w) (leaf_at d (object.Page w.tree s.page)) else option_map (node_read w) (inner_at d (object.Page w.tree s.page)))
  page s true h = let l = accept_leaf c w.tree s.page got version d h in there_by (leaf_read w) (leaf_at d (object.Page w.tree s.page)) l.0 l.1
  page s false h = let n = accept_inner c w.tree s.page got version d h in there_by (node_read w) (inner_at d (object.Page w.tree s.page)) n.0 n.1

  at_spot : (o : Option Spot) → accepts c (object_at w.tree o) (is_leaf_at o) got ≡ Ok (version, d) → IsThere (read_at w d o)
  at_spot None h = let t = accept_root c w.tree false got version d h in there_by (root_read w) (root_at d (object.Tree w.tree)) t.0 t.1
  at_spot (Some s) h = page s (s.level == 0) h

accepted_comes : (m : Walk × Cache) (a : Answer) (d : Cache) → Brought m a d → Comes m a (beside (got_read (rested m.0) d, d))
accepted_comes m a d b = on_read (read_from (rested m.0) d) (got_there (rested m.0) m.1 b.got b.version d b.accepted) (reads d (rested m.0)) where
  on_read : (o : Option (Next Walk ℕ)) → IsThere o → IfSome o (Reads d (rested m.0)) → Comes m a (beside (follow (goes_on d) (unwrap_or o (Stops (rested m.0) trouble.Failed)), d))
  on_read None is_there read = absurd is_there
  on_read (Some next) is_there read = read_from_got m a d b next read

got_comes : (m : Walk × Cache) (got : Option (List ℕ)) (r : Result (ℕ × Cache) Trouble) → accepts m.1 (object_of m.0) (is_leaf m.0) got ≡ r
    → Comes m (answer.Got got) (beside (accepted_by (rested m.0) m.1 r))
got_comes m got (Err t) e = refuses got t refl e
got_comes m got (Ok served) e = accepted_comes m (answer.Got got) served.1 (record { got = got; version = served.0; answered = refl; accepted = e })

pub comes : (m : Walk × Cache) (a : Answer) → Comes m a (walk_next m a)
comes m a = by (got_of a) refl where
  by : (g : Result (Option (List ℕ)) Trouble) → got_of a ≡ g → Comes m a (beside (got_by (rested m.0) m.1 g))
  by (Err t) e = fails t e
  by (Ok got) e =
      let is : a ≡ answer.Got got = got_of-ok a got e in
      subst (λ (x : Answer). Comes m x (beside (got_by (rested m.0) m.1 (Ok got)))) (sym is) (got_comes m got (accepts m.1 (object_of m.0) (is_leaf m.0) got) refl)

-- .. where its answer leads so
pub came_by : (m : Walk × Cache) (a : Answer) (next : Next (Walk × Cache) ℕ) → walk_next m a ≡ next → Comes m a next
came_by m a next leads = subst (Comes m a) leads (comes m a)

-- the way of a step that goes on, behind the object that it got
pub way_behind : (m : Walk × Cache) (a : Answer) (n : Walk × Cache) (o : GoesOn m a n) → Way n.1 o.next n.0
way_behind m a n o = subst (Runs n.1 o.next) o.ran (runs n.1 64 o.next)

-- ---- the local work before the first call

abbrev pub Readies : Walk × Cache → Next (Walk × Cache) ℕ → Type 0
Readies m (Goes n) = (n.1 ≡ m.1) × (goes_on m.1 (rested m.0) ≡ Goes n.0) × Way m.1 (rested m.0) n.0
Readies m (Ends n page) = ⊥
Readies m (Stops n t) = (n.1 ≡ left_by n.0 m.1) × ((u : Walk) × Way m.1 (rested m.0) u × Halts m.1 u n.0 t)

pub readies : (m : Walk × Cache) → Readies m (walk_ready m)
readies m = by (goes_on m.1 (rested m.0)) refl (runs m.1 64 (rested m.0)) where
  by : (x : Next Walk ℕ) → goes_on m.1 (rested m.0) ≡ x → Runs m.1 (rested m.0) x → Readies m (beside (x, m.1))
  by (Goes v) ran way = (refl, ran, way)
  by (Ends v page) ran never = never
  by (Stops v t) ran halt = (refl, halt)

-- .. so it ends no walk
pub unended_ready : (m n : Walk × Cache) (page : ℕ) → walk_ready m ≡ Ends n page → ⊥
unended_ready m n page ends = subst (Readies m) ends (readies m)

-- What is noted on the way down are right links of nodes that were got.
use Rattle.std.proofs.Common.{◌≡◌, ℕ, ◌+◌, ◌-◌, true, false, List, [], ◌∷◌, ◌++◌, Some, refl, sym, ap, subst, ◌∙◌, inl, inr, append_assoc}
use Rattle.std.proofs.lemmas.List.{append-nil}
use Rattle.byte_format.specs.Order.{bytes_below, below_bound}
use Rattle.byte_format.proofs.OrderLemmas.{same_is}
use Rattle.db_base.specs.declared.names.ObjName.TheVariants as object
use Rattle.node_codec.specs.Inner.{Inner, inner_of}
use Rattle.node_codec.specs.Node.{Entry, child_of}
use Rattle.tree_phases.specs.Kept.{with_kept}
use Rattle.tree_phases.specs.declared.fork.Fork.TheVariants.{Right, Down}
use Rattle.tree_phases.specs.Descent.{begun, passed, arrive, with_node}
use Rattle.tree_ckpt.specs.Moves.{entry_or, root_entry}
use Rattle.tree_ckpt.specs.Causes.{Calls, WasGot, WasNode}
use Rattle.tree_ckpt.specs.Working.{IsAmong, AreTurns, Place, below_root, link_to, LeadsOn, seeking, IsWay}
use Rattle.tree_ckpt.proofs.Words.{Answer, Next, Goes, Ends, Stops, Ask, Chart, KeptNode, Link, Descent, Fork}
use Rattle.tree_ckpt.proofs.Brought.{AreKept, kept_with, kept_node}
use Rattle.tree_ckpt.proofs.WayOutcomes.{Leads, Arrives, arrives}
use Rattle.tree_ckpt.proofs.WayOutcomes as way

-- ---- lists of turns

pub turns_more : (tree : ℕ) (ls : List Link) (c : Ask × Answer) (cs : Calls) → AreTurns tree cs ls → AreTurns tree (c ∷ cs) ls
turns_more tree [] c cs h = tt
turns_more tree (l ∷ ls) c cs h = ((h.0.0, h.0.1, (h.0.2.0, h.0.2.1, inr h.0.2.2), h.0.3, h.0.4), turns_more tree ls c cs h.1)

pub turns_both : (tree : ℕ) (xs ys : List Link) (cs : Calls) → AreTurns tree cs xs → AreTurns tree cs ys → AreTurns tree cs (xs ++ ys)
turns_both tree [] ys cs h k = k
turns_both tree (x ∷ xs) ys cs h k = (h.0, turns_both tree xs ys cs h.1 k)

-- ---- ways

-- a call more
pub way_more : (tree : ℕ) (key : List ℕ) (start : Place) (ns : List Inner) (q : Place) (turns : List Link) (c : Ask × Answer) (cs : Calls) → IsWay (seeking tree key cs) start ns q turns
    → IsWay (seeking tree key (c ∷ cs)) start ns q turns
way_more tree key start [] q turns c cs h = h
way_more tree key start (n ∷ ns) q turns c cs h =
    (h.0, h.1, way_more tree key start ns h.0 h.1 c cs h.2, (h.3.0, h.3.1, inr h.3.2), h.4, h.5, h.6)

leads_behind : (key : List ℕ) (n : Inner) (level : ℕ) (first before : List Link) (q : Place) (turns : List Link) → LeadsOn key n level before q turns
    → LeadsOn key n level (first ++ before) q (first ++ turns)
leads_behind key n level first before q turns (inl h) =
    inl (h.0, h.1, h.2, ap (λ (ls : List Link). first ++ ls) h.3 ∙ sym (append_assoc first before (link_to q ∷ [])))
leads_behind key n level first before q turns (inr h) = inr (h.0, h.1, ap (λ (ls : List Link). first ++ ls) h.2)

-- one way behind another
pub way_both : (tree : ℕ) (key : List ℕ) (cs : Calls) (start : Place) (ms : List Inner) (p : Place) (first : List Link) (ns : List Inner) (q : Place) (turns : List Link)
    → IsWay (seeking tree key cs) start ms p first → IsWay (seeking tree key cs) p ns q turns → IsWay (seeking tree key cs) start (ns ++ ms) q (first ++ turns)
way_both tree key cs start ms p first [] q turns h k =
    subst (λ (x : Place). IsWay (seeking tree key cs) start ms x (first ++ turns)) (sym k.0)
    (subst (λ (ls : List Link). IsWay (seeking tree key cs) start ms p ls) (sym (append-nil first) ∙ ap (λ (ls : List Link). first ++ ls) (sym k.1)) h)
way_both tree key cs start ms p first (n ∷ ns) q turns h k =
    (k.0, first ++ k.1, way_both tree key cs start ms p first ns k.0 k.1 h k.2, k.3, k.4, k.5, leads_behind key n k.0.level first k.1 q turns k.6)

-- where a way down stands
abbrev pub place_of : Descent → Place
place_of d = record { level = d.level; low = d.low; page = d.page }

-- a child at a level
child_at : Entry → ℕ → Place
child_at e level = record { level = level; low = e.0; page = e.1 }

module _ (tree : ℕ) (cs : Calls) (links : List Link) (nodes : List KeptNode) (key : List ℕ) (start : Place) (first : List Inner) where
  -- on the way down from such links and this place, over this first node, with nodes that were got
  pub record Turned (d : Descent) : Type 0 where
    pub kept : AreKept tree d.chart.nodes cs
    pub same : d.chart.nodes ≡ nodes
    pub asks : d.chart.key ≡ key
    pub rest : List Link
    pub linked : d.chart.links ≡ links ++ rest
    pub are : AreTurns tree cs rest
    pub over : List Inner
    pub way : IsWay (seeking tree key cs) start over (place_of d) rest
    pub seen : (n : Inner) → IsAmong n first → IsAmong n over

  -- where it goes on, and where it ends at a leaf
  abbrev pub WayTurned : Next Descent (Unit {0}) → Type 0
  WayTurned (Goes d) = Turned d
  WayTurned (Ends d x) = Turned d × (d.level ≡ 0)
  WayTurned (Stops d t) = Unit {0}

  turn_of : Descent → List ℕ → ℕ → Link
  turn_of d low page = record { level = d.level + 1; low = low; page = page }

  passed_turned : (d : Descent) (n : Inner) (f : Fork) → Turned d → WasNode tree d.page n cs → Leads d n f → Turned (passed d f)
  unfolding turn_of child_at
  passed_turned d n (Right low page) k w l = record {
    kept = k.kept;
    same = k.same;
    asks = k.asks;
    rest = k.rest ++ turn_of d low page ∷ [];
    linked = ap (λ (ls : List Link). ls ++ turn_of d low page ∷ []) k.linked ∙ append_assoc links k.rest (turn_of d low page ∷ []);
    are = turns_both tree k.rest (turn_of d low page ∷ []) cs k.are ((d.page, n, w, ap (λ (m : ℕ). m + 1) (sym l.promised.0), l.leads.0), tt);
    over = n ∷ k.over;
    way = (
      place_of d,
      k.rest,
      k.way,
      w,
      l.promised.0,
      same_is n.low d.low l.promised.1,
      inl (l.leads.0, subst (λ (x : List ℕ). bytes_below x low ≡ false) k.asks l.leads.1, refl, refl),
    );
    seen = λ m b. inr (k.seen m b);
  }
  passed_turned d n (Down low page) k w l = record {
    kept = k.kept;
    same = k.same;
    asks = k.asks;
    rest = k.rest;
    linked = k.linked;
    are = k.are;
    over = n ∷ k.over;
    way = (
      place_of d,
      k.rest,
      k.way,
      w,
      l.promised.0,
      same_is n.low d.low l.promised.1,
      inr (
        subst (λ (x : List ℕ). below_bound x n.high ≡ true) k.asks l.leads.0,
        sym (ap (λ (e : Entry). child_at e (d.level - 1)) (subst (λ (x : List ℕ). entry_or (child_of x n.entries) ≡ (low, page)) k.asks l.leads.1)),
        refl,
      ),
    );
    seen = λ m b. inr (k.seen m b);
  }

  way_turned : {d : Descent} {next : Next Descent (Unit {0})} → Turned d → Arrives d next → WayTurned next
  way_turned k (way.at_leaf d level) = (k, level)
  way_turned k (way.at_node d fresh none) = k
  way_turned k (way.further d n f p on) = way_turned (passed_turned d p.node f k (kept_node tree cs d n p.node k.kept p.kept p.reads) p.leads) on
  way_turned k w = tt

-- the node that is got
abbrev pub node_got : Descent → List ℕ → KeptNode
node_got d bytes = record { page = d.page; level = d.level; low = d.low; bytes = bytes }

-- the way from where a node is got
abbrev GotTurned : ℕ → Calls → Descent → List ℕ → List Inner → Next Descent (Unit {0}) → Type 0
GotTurned tree cs d bytes first next = WayTurned tree cs d.chart.links (with_kept (node_got d bytes) d.chart.nodes) d.chart.key (place_of d) first next

-- it leads over that node first
first_turned : (tree : ℕ) (cs : Calls) (d : Descent) (bytes : List ℕ) (n : Inner) (f : Fork) → AreKept tree (with_kept (node_got d bytes) d.chart.nodes) cs
    → WasNode tree d.page n cs → Leads d n f
    → Turned tree cs d.chart.links (with_kept (node_got d bytes) d.chart.nodes) d.chart.key (place_of d) (n ∷ []) (passed (with_node d bytes) f)
unfolding child_at
first_turned tree cs d bytes n (Right low page) kept w l =
    let turn : Link = record { level = d.level + 1; low = low; page = page } in
    record {
      kept = kept;
      same = refl;
      asks = refl;
      rest = turn ∷ [];
      linked = refl;
      are = ((d.page, n, w, ap (λ (m : ℕ). m + 1) (sym l.promised.0), l.leads.0), tt);
      over = n ∷ [];
      way = (place_of d, [], (refl, refl), w, l.promised.0, same_is n.low d.low l.promised.1, inl (l.leads.0, l.leads.1, refl, refl));
      seen = λ m b. b;
    }
first_turned tree cs d bytes n (Down low page) kept w l = record {
  kept = kept;
  same = refl;
  asks = refl;
  rest = [];
  linked = sym (append-nil d.chart.links);
  are = tt;
  over = n ∷ [];
  way = (
    place_of d,
    [],
    (refl, refl),
    w,
    l.promised.0,
    same_is n.low d.low l.promised.1,
    inr (l.leads.0, sym (ap (λ (e : Entry). child_at e (d.level - 1)) l.leads.1), refl),
  );
  seen = λ m b. b;
}

-- from the tree object
pub begun_turned : (tree : ℕ) (cs : Calls) (c : Chart) → AreKept tree c.nodes cs
    → WayTurned tree cs c.links c.nodes c.key (below_root c.key c.root) [] (arrive (begun c (root_entry c).0 (root_entry c).1))
begun_turned tree cs c kept =
    way_turned tree cs c.links c.nodes c.key (below_root c.key c.root) []
    (record { kept = kept; same = refl; asks = refl; rest = []; linked = sym (append-nil c.links); are = tt; over = []; way = (refl, refl); seen = λ m b. b })
    (arrives (begun c (root_entry c).0 (root_entry c).1))

-- behind the get of a node
pub got_turned : {next : Next Descent (Unit {0})} (tree : ℕ) (cs : Calls) (d : Descent) (bytes : List ℕ) (n : Inner) (f : Fork) → inner_of bytes ≡ Some n → Leads d n f
    → AreKept tree d.chart.nodes cs → WasGot (object.Page tree d.page) (Some bytes) cs → Arrives (passed (with_node d bytes) f) next → GotTurned tree cs d bytes (n ∷ []) next
got_turned tree cs d bytes n f is l kept got on =
    way_turned tree cs d.chart.links (with_kept (node_got d bytes) d.chart.nodes) d.chart.key (place_of d) (n ∷ [])
    (first_turned tree cs d bytes n f (kept_with tree (node_got d bytes) d.chart.nodes cs (got, (n, is, l.promised.0)) kept) (bytes, is, got) l) on

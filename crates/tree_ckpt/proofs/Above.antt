-- Each page that was come to by a right link is named above, and the pages of new pieces were reserved.
use Rattle.std.proofs.Common.{◌≡◌, ◌<◌, ◌≤◌, ◌+◌, ◌-◌, ◌⊎◌, ℕ, Bool, true, false, List, [], ◌∷◌, ◌++◌, length, Option, Some, refl, sym, ap, subst, ◌∙◌, inl, inr, arith}
use Rattle.std.specs.Prelude.{◌&&◌, not, map, drop}
use Rattle.byte_format.specs.Order.{bytes_below, below_bound}
use Rattle.leaf_view.specs.Leaf.{Leaf}
use Rattle.leaf_edit.proofs.InOrder.{below_upto}
use Rattle.db_base.specs.declared.names.ObjName.TheVariants as object
use Rattle.leaf_view.specs.Lookup.{holds}
use Rattle.node_codec.specs.Inner.{Inner, inner_of}
use Rattle.split_plan.specs.Part.{Part}
use Rattle.split_plan.specs.Plan.{entry_of, on_pages}
use Rattle.tree_phases.specs.Kept.{links_at}
use Rattle.tree_phases.specs.Placing.{landed_root}
use Rattle.tree_phases.specs.Read.{tree_held}
use Rattle.tree_ckpt.specs.Causes.{Calls, WasGot}
use Rattle.tree_ckpt.specs.Working.{IsAmong, PutsPieces, form_of, Outcome, Planned, Spared, Passed, Visit, AreVisits, IsLeft, placing_of, root_behind, links_from, links_behind, Climb, AreClimbs, root_above, links_above, IsFollowed, IsPieceOf, IsLeafPiece, IsNodePiece, Worked, last_root, last_links, looks_of, IsUnder, IsInRange, IsOfRoot, IsNamed, HasClimbed, HasRisen, HoldsLow, HoldsLeaf, HasLevel, IsNamedAbove, IsNewNamed, leaf_place, node_place, link_to, visits_over}
use Rattle.tree_ckpt.proofs.Words.{Taken, Claim, NewEntry, Placing, Link}
use Rattle.tree_ckpt.proofs.Entries.{among_front, among_back}
use Rattle.tree_ckpt.proofs.Inside.{node_piece_holds, leaf_piece_holds}
use Rattle.tree_ckpt.proofs.Named.{level_of, same_node}
use Rattle.tree_ckpt.proofs.Under.{on_ways}
use Rattle.tree_ckpt.proofs.Roots.{held_after}

-- ---- what is known

from_before : (l : Link) (outcome : Outcome) (links : List Link) → IsAmong l links → IsAmong l (links_from outcome links)
from_before l (Planned p) links h = among_front l links (links_at 1 p.entries) h
from_before l Spared links h = h
from_before l (Passed link) links h = among_front l links (link ∷ []) h

from_passed : (l : Link) (outcome : Outcome) (links : List Link) → outcome ≡ Passed l → IsAmong l (links_from outcome links)
from_passed l (Planned p) links e = absurd (cc (e))
from_passed l Spared links e = absurd (cc (e))
from_passed l (Passed link) links e = among_back l links (link ∷ []) (inl (cc (e)))

from_piece : (l : Link) (outcome : Outcome) (links : List Link) → IsPieceOf l outcome → IsAmong l (links_from outcome links)
from_piece l (Planned p) links h = among_back l links (links_at 1 p.entries) h
from_piece l Spared links h = absurd h
from_piece l (Passed link) links h = absurd h

followed_known : (l : Link) (vs : List Visit) → IsFollowed l vs → IsAmong l (links_behind vs)
followed_known l [] h = absurd h
followed_known l (v ∷ vs) (inl (inl h)) = from_before l v.outcome (links_behind vs ++ v.turns) (among_back l (links_behind vs) v.turns h)
followed_known l (v ∷ vs) (inl (inr e)) = from_passed l v.outcome (links_behind vs ++ v.turns) e
followed_known l (v ∷ vs) (inr h) = from_before l v.outcome (links_behind vs ++ v.turns) (among_front l (links_behind vs) v.turns (followed_known l vs h))

piece_known : (l : Link) (vs : List Visit) → IsLeafPiece l vs → IsAmong l (links_behind vs)
piece_known l [] h = absurd h
piece_known l (v ∷ vs) (inl h) = from_piece l v.outcome (links_behind vs ++ v.turns) h
piece_known l (v ∷ vs) (inr h) = from_before l v.outcome (links_behind vs ++ v.turns) (among_front l (links_behind vs) v.turns (piece_known l vs h))

known_above : (l : Link) (links : List Link) (us : List Climb) → IsAmong l links → IsAmong l (links_above links us)
known_above l links [] h = h
known_above l links (u ∷ us) h = among_front l (links_above links us) (links_at (u.node.level + 1) u.plan.entries) (known_above l links us h)

node_known : (l : Link) (links : List Link) (us : List Climb) → IsNodePiece l us → IsAmong l (links_above links us)
node_known l links [] h = absurd h
node_known l links (u ∷ us) (inl h) = among_back l (links_above links us) (links_at (u.node.level + 1) u.plan.entries) h
node_known l links (u ∷ us) (inr h) = among_front l (links_above links us) (links_at (u.node.level + 1) u.plan.entries) (node_known l links us h)

pub right_known : (l : Link) (vs : List Visit) (us : List Climb) → IsFollowed l vs → IsAmong l (links_above (links_behind vs) us)
right_known l vs us h = known_above l (links_behind vs) us (followed_known l vs h)

pub new_known : (l : Link) (vs : List Visit) (us : List Climb) → IsLeafPiece l vs ⊎ IsNodePiece l us → IsAmong l (links_above (links_behind vs) us)
new_known l vs us (inl h) = known_above l (links_behind vs) us (piece_known l vs h)
new_known l vs us (inr h) = node_known l (links_behind vs) us h

-- ---- the pages of pieces

-- pieces behind the first stand on the numbers from the first free one on
pages_of : {A X : Type 0} (level : ℕ) (l : Link) (free : ℕ) (ps : List (Part A X)) → IsAmong l (links_at level (map entry_of (on_pages free (free + 1) ps))) → l.page < free + length ps
pages_of level l free [] h = absurd h
pages_of {A} {X} level l free (p ∷ ps) (inl same) =
    let at : free ≡ l.page = ap (λ (m : Link). m.page) same in
    omega (arith, at)
pages_of level l free (p ∷ ps) (inr h) = let rest : l.page < free + 1 + length ps = pages_of level l (free + 1) ps h in omega (arith, rest)

new_pages : {A X : Type 0} (level : ℕ) (l : Link) (page first : ℕ) (ps : List (Part A X)) → IsAmong l (links_at level (drop 1 (map entry_of (on_pages page first ps))))
    → (1 ≤ length ps - 1) × (l.page < first + (length ps - 1))
new_pages level l page first [] h = absurd h
new_pages level l page first (p ∷ []) h = absurd h
new_pages level l page first (p ∷ q ∷ ps) h = let under : l.page < first + length (q ∷ ps) = pages_of level l first (q ∷ ps) h in (omega arith, omega (arith, under))

-- so they are below the next number of the tree object that stands behind the reservation
put_page : {A X : Type 0} (key : A → List ℕ) (bytes : Part A X → List ℕ) (root : Option (List ℕ)) (page : ℕ) (whole : Part A X) (placing : Placing) (entries : List NewEntry)
    (level : ℕ) (l : Link) → PutsPieces (form_of key bytes) (tree_held root) page whole placing entries → IsAmong l (links_at level entries) → l.page < (tree_held (landed_root placing root)).next
put_page key bytes root page whole placing entries level l put h =
    let new = new_pages level l page put.first put.pieces (subst (λ (es : List NewEntry). IsAmong l (links_at level es)) put.entries h) in
    let behind = held_after root put.first (length put.pieces - 1) placing.reserved put.numbers in
    omega (arith, new.1, behind.beyond new.0)

-- ---- numbers that were reserved stay so

module _ (tree : ℕ) (one : Claim) (run : Taken) (got : Option (List ℕ)) where
  left_next : (v : Visit) (vs : List Visit) (outcome : Outcome) → IsLeft run (root_behind got vs) v.page v.leaf outcome
      → (tree_held (root_behind got vs)).next ≤ (tree_held (landed_root (placing_of outcome) (root_behind got vs))).next
  left_next v vs (Planned plan) h = (held_after (root_behind got vs) h.1.first (length h.1.pieces - 1) plan.placing.reserved h.1.numbers).next
  left_next v vs Spared h = omega arith
  left_next v vs (Passed link) h = omega arith

  piece_page : (v : Visit) (vs : List Visit) (l : Link) (outcome : Outcome) → IsLeft run (root_behind got vs) v.page v.leaf outcome → IsPieceOf l outcome
      → l.page < (tree_held (landed_root (placing_of outcome) (root_behind got vs))).next
  piece_page v vs l (Planned plan) h g = put_page _ _ (root_behind got vs) v.page _ plan.placing plan.entries 1 l h.1 g
  piece_page v vs l Spared h g = absurd g
  piece_page v vs l (Passed link) h g = absurd g

  leaf_page : (vs : List Visit) (l : Link) → AreVisits tree one run got vs → IsLeafPiece l vs → l.page < (tree_held (root_behind got vs)).next
  leaf_page [] l are h = absurd h
  leaf_page (v ∷ vs) l are (inl h) = piece_page v vs l v.outcome are.0.left h
  leaf_page (v ∷ vs) l are (inr h) =
      let before : l.page < (tree_held (root_behind got vs)).next = leaf_page vs l are.1 h in
      omega (arith, before, left_next v vs v.outcome are.0.left)

climb_next : (tree : ℕ) (cs : Calls) (root : Option (List ℕ)) (links : List Link) (us : List Climb) → AreClimbs tree cs root links us
    → (tree_held root).next ≤ (tree_held (root_above root us)).next
climb_next tree cs root links [] are = omega arith
climb_next tree cs root links (u ∷ us) are =
    omega (
      arith,
      climb_next tree cs root links us are.4,
      (held_after (root_above root us) are.3.2.first (length are.3.2.pieces - 1) u.plan.placing.reserved are.3.2.numbers).next,
    )

node_page : (tree : ℕ) (cs : Calls) (root : Option (List ℕ)) (links : List Link) (us : List Climb) (l : Link) → AreClimbs tree cs root links us → IsNodePiece l us
    → l.page < (tree_held (root_above root us)).next
node_page tree cs root links [] l are h = absurd h
node_page tree cs root links (u ∷ us) l are (inl h) =
    put_page _ _ (root_above root us) u.node.page _ u.plan.placing u.plan.entries (u.node.level + 1) l are.3.2 h
node_page tree cs root links (u ∷ us) l are (inr h) =
    let before : l.page < (tree_held (root_above root us)).next = node_page tree cs root links us l are.4 h in
    omega (
      arith,
      before,
      (held_after (root_above root us) are.3.2.first (length are.3.2.pieces - 1) u.plan.placing.reserved are.3.2.numbers).next,
    )

pub new_page : (tree : ℕ) (one : Claim) (run : Taken) (got : Option (List ℕ)) (cs : Calls) (links : List Link) (vs : List Visit) (us : List Climb) (l : Link)
    → AreVisits tree one run got vs → AreClimbs tree cs (root_behind got vs) links us → IsLeafPiece l vs ⊎ IsNodePiece l us
    → l.page < (tree_held (root_above (root_behind got vs) us)).next
new_page tree one run got cs links vs us l are climbs (inl h) =
    let under : l.page < (tree_held (root_behind got vs)).next = leaf_page tree one run got vs l are h in
    omega (arith, under, climb_next tree cs (root_behind got vs) links us climbs)
new_page tree one run got cs links vs us l are climbs (inr h) = node_page tree cs (root_behind got vs) links us l climbs h

-- a link that lies under the level above is named there
pub named_above : (tree : ℕ) (got : Option (List ℕ)) (w : Worked) (l : Link) → IsUnder tree (last_root got w) (looks_of w.visits) l
    → ((page : ℕ) (bytes : List ℕ) (n : Inner) → WasGot (object.Page tree page) (Some bytes) (looks_of w.visits) → inner_of bytes ≡ Some n → IsInRange n l
    → IsNamed (HasClimbed page l.level w.climbs) n.entries (last_links w) l)
    → (IsOfRoot (last_root got w) l → IsNamed (HasRisen l.level w.last) (last_root got w).entries (last_links w) l) → IsNamedAbove tree got w l
named_above tree got w l (inl h) node root = inr (h.0, λ page. root (record { level = h.0; short = h.1; page = page }))
named_above tree got w l (inr h) node root = inl (h.0, h.1, h.2, h.3, node h.0 h.2.0 h.1 h.2.2 h.2.1 h.3)

-- the low key of a piece of a node lies in the node's range
pub climb_holds : (tree : ℕ) (cs : Calls) (root : Option (List ℕ)) (links : List Link) (us : List Climb) (u : Climb) (l : Link) → AreClimbs tree cs root links us → IsAmong u us
    → IsAmong l (links_at (u.node.level + 1) u.plan.entries) → (n : Inner) × (inner_of u.node.bytes ≡ Some n) × HoldsLow n l.low
climb_holds tree cs root links [] u l are h g = absurd h
climb_holds tree cs root links (x ∷ us) u l are (inr h) g = climb_holds tree cs root links us u l are.4 h g
climb_holds tree cs root links (x ∷ us) u l are (inl same) g =
    subst (λ (y : Climb). IsAmong l (links_at (y.node.level + 1) y.plan.entries) → (n : Inner) × (inner_of y.node.bytes ≡ Some n) × HoldsLow n l.low) same
    (λ k. (
      are.3.0,
      are.3.1,
      node_piece_holds (tree_held (root_above root us)) x.node.page x.node.bytes are.3.0 (links_above links us) x.plan.placing x.plan.entries (x.node.level + 1) l are.3.1 are.3.2 k,
    )) g

-- and that of a piece of a leaf lies in the leaf's
visit_holds : (run : Taken) (v : Visit) (l : Link) (outcome : Outcome) (held : Option (List ℕ)) → HoldsLeaf v.page v.leaf v.got → IsLeft run held v.page v.leaf outcome
    → IsPieceOf l outcome → holds v.leaf l.low ≡ true
visit_holds run v l (Planned plan) held is h g = leaf_piece_holds (tree_held held) v.page v.leaf v.got run.items plan 1 l is h.1 g
visit_holds run v l Spared held is h g = absurd g
visit_holds run v l (Passed link) held is h g = absurd g

pub leaf_holds : (tree : ℕ) (one : Claim) (run : Taken) (got : Option (List ℕ)) (vs : List Visit) (v : Visit) (l : Link) → AreVisits tree one run got vs → IsAmong v vs
    → IsPieceOf l v.outcome → holds v.leaf l.low ≡ true
leaf_holds tree one run got [] v l are h g = absurd h
leaf_holds tree one run got (x ∷ vs) v l are (inr h) g = leaf_holds tree one run got vs v l are.1 h g
leaf_holds tree one run got (x ∷ vs) v l are (inl same) g =
    subst (λ (y : Visit). IsPieceOf l y.outcome → holds y.leaf l.low ≡ true) same
    (λ k. visit_holds run x l x.outcome (root_behind got vs) are.0.holds are.0.left k) g

-- ---- new pieces are named above

not_under_either : (low base from : List ℕ) → bytes_below low base ≡ false → bytes_below base from ≡ false → bytes_below low from ≡ false
not_under_either low base from h k = on (bytes_below low from) refl where
  on : (b : Bool) → bytes_below low from ≡ b → bytes_below low from ≡ false
  on false e = e
  on true e = absurd (let other : bytes_below low base ≡ true = below_upto low from base e k in cc)

-- where the page that they are cut from lies under the level above
new_named : (tree : ℕ) (got : Option (List ℕ)) (w : Worked) (base l : Link) → IsUnder tree (last_root got w) (looks_of w.visits) base → l.level ≡ base.level
    → bytes_below l.low base.low ≡ false → l.page < (last_root got w).next
    → ((page : ℕ) (bytes : List ℕ) (n : Inner) → WasGot (object.Page tree page) (Some bytes) (looks_of w.visits) → inner_of bytes ≡ Some n → IsInRange n l
    → IsNamed (HasClimbed page l.level w.climbs) n.entries (last_links w) l)
    → (IsOfRoot (last_root got w) l → IsNamed (HasRisen l.level w.last) (last_root got w).entries (last_links w) l) → IsNewNamed tree got w l
new_named tree got w base l (inl h) level from page node root =
    inl (level ∙ h.0, λ short. root (record { level = level ∙ h.0; short = short; page = page }))
new_named tree got w base l (inr h) level from page node root =
    let above : bytes_below l.low h.1.low ≡ false = not_under_either l.low base.low h.1.low from h.3.from in
    inr (
      h.0,
      h.1,
      h.2,
      level ∙ h.3.level,
      above,
      λ short to. node h.0 h.2.0 h.1 h.2.2 h.2.1 (record { level = level ∙ h.3.level; short = short; from = above; to = to }),
    )

piece_level : (l : Link) (outcome : Outcome) → IsPieceOf l outcome → l.level ≡ 1
piece_level l (Planned p) h = level_of 1 l p.entries h
piece_level l Spared h = absurd h
piece_level l (Passed link) h = absurd h

cut_leaf : (l : Link) (vs : List Visit) → IsLeafPiece l vs → (v : Visit) × IsAmong v vs × IsPieceOf l v.outcome
cut_leaf l [] h = absurd h
cut_leaf l (v ∷ vs) (inl h) = (v, inl refl, h)
cut_leaf l (v ∷ vs) (inr h) = let rest = cut_leaf l vs h in (rest.0, inr rest.1, rest.2)

cut_node : (l : Link) (us : List Climb) → IsNodePiece l us → (u : Climb) × IsAmong u us × IsAmong l (links_at (u.node.level + 1) u.plan.entries)
cut_node l [] h = absurd h
cut_node l (u ∷ us) (inl h) = (u, inl refl, h)
cut_node l (u ∷ us) (inr h) = let rest = cut_node l us h in (rest.0, inr rest.1, rest.2)

climb_got : (tree : ℕ) (cs : Calls) (root : Option (List ℕ)) (links : List Link) (us : List Climb) (u : Climb) → AreClimbs tree cs root links us → IsAmong u us
    → WasGot (object.Page tree u.node.page) (Some u.node.bytes) cs × HasLevel u.node
climb_got tree cs root links [] u are h = absurd h
climb_got tree cs root links (x ∷ us) u are (inr h) = climb_got tree cs root links us u are.4 h
climb_got tree cs root links (x ∷ us) u are (inl same) =
    subst (λ (y : Climb). WasGot (object.Page tree y.node.page) (Some y.node.bytes) cs × HasLevel y.node) same (are.0, are.1)

held_low : (l : Leaf) (low : List ℕ) → holds l low ≡ true → bytes_below low l.low ≡ false
held_low l low h = on (bytes_below low l.low) refl h where
  on : (b : Bool) → bytes_below low l.low ≡ b → (not b && below_bound low l.high) ≡ true → bytes_below low l.low ≡ false
  on false e g = e
  on true e g = absurd (cc (g))

module _ (tree : ℕ) (one : Claim) (run : Taken) (got : Option (List ℕ)) (w : Worked) (are : AreVisits tree one run got w.visits)
    (climbs : AreClimbs tree (visits_over tree one w.visits []) (root_behind got w.visits) (links_behind w.visits) w.climbs)
    (under : (v : Visit) → IsAmong v w.visits → IsUnder tree (last_root got w) (looks_of w.visits) (link_to (leaf_place v.leaf.low v.page)))
    (under_nodes : (page : ℕ) (bytes : List ℕ) (n : Inner) → WasGot (object.Page tree page) (Some bytes) (looks_of w.visits) → inner_of bytes ≡ Some n
    → IsUnder tree (last_root got w) (looks_of w.visits) (link_to (node_place page n))) (l : Link)
    (named : (page : ℕ) (bytes : List ℕ) (n : Inner) → WasGot (object.Page tree page) (Some bytes) (looks_of w.visits) → inner_of bytes ≡ Some n → IsInRange n l
    → IsNamed (HasClimbed page l.level w.climbs) n.entries (last_links w) l)
    (named_last : IsOfRoot (last_root got w) l → IsNamed (HasRisen l.level w.last) (last_root got w).entries (last_links w) l) where
  pub news_named : IsLeafPiece l w.visits ⊎ IsNodePiece l w.climbs → IsNewNamed tree got w l
  news_named (inl h) =
      let cut = cut_leaf l w.visits h in
      new_named tree got w (link_to (leaf_place cut.0.leaf.low cut.0.page)) l (under cut.0 cut.1) (piece_level l cut.0.outcome cut.2)
      (held_low cut.0.leaf l.low (leaf_holds tree one run got w.visits cut.0 l are cut.1 cut.2))
      (new_page tree one run got (visits_over tree one w.visits []) (links_behind w.visits) w.visits w.climbs l are climbs (inl h)) named named_last
  news_named (inr h) =
      let cut = cut_node l w.climbs h in
      let cs : Calls = visits_over tree one w.visits [] in
      let node = climb_got tree cs (root_behind got w.visits) (links_behind w.visits) w.climbs cut.0 climbs cut.1 in
      let n : Inner = node.1.0 in
      let inside = climb_holds tree cs (root_behind got w.visits) (links_behind w.visits) w.climbs cut.0 l climbs cut.1 cut.2 in
      let same : inside.0 ≡ n = same_node cut.0.node.bytes inside.0 n inside.1 node.1.1 in
      let looked : WasGot (object.Page tree cut.0.node.page) (Some cut.0.node.bytes) (looks_of w.visits) =
      on_ways tree one run got cut.0.node.page cut.0.node.bytes n w.visits are node.1.1 node.0 in
      new_named tree got w (link_to (node_place cut.0.node.page n)) l (under_nodes cut.0.node.page cut.0.node.bytes n looked node.1.1)
      (level_of (cut.0.node.level + 1) l cut.0.plan.entries cut.2 ∙ ap (λ (m : ℕ). m + 1) (sym node.1.2))
      (subst (λ (m : Inner). bytes_below l.low m.low ≡ false) same inside.2.from)
      (new_page tree one run got cs (links_behind w.visits) w.visits w.climbs l are climbs (inr h)) named named_last

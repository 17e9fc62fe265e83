-- Behind a checkpoint that is done each new piece is named by the level above.
use Rattle.std.proofs.Common.{◌≡◌, ◌<◌, ◌≤◌, ◌+◌, ◌⊎◌, inl, inr, ℕ, true, List, [], ◌∷◌, ◌++◌, length, Option, Some, None, refl, sym, ap, subst, ◌∙◌, arith}
use Rattle.std.specs.Prelude.{not}
use Rattle.std.proofs.lemmas.Bool.{and_parts, not-true}
use Rattle.byte_format.specs.Order.{bytes_below, below_bound}
use Rattle.cloud_facts.specs.Words.{ObjName, Inner, Answer, Claim, Ask, GetHeld, Take, Deed, calls_of}
use Rattle.cloud_trait.specs.declared.answer.Answer.TheVariants.{Got, Done, Given}
use Rattle.cloud_trait.specs.declared.turn.CkptAnswer.{CkptAnswer}
use Rattle.db_base.specs.declared.names.Lock.TheVariants as lock
use Rattle.db_base.specs.declared.names.ObjName.TheVariants as object
use Rattle.leaf_view.specs.Lookup.{holds}
use Rattle.node_codec.specs.Inner.{inner_of}
use Rattle.run_cursor.specs.Run.{Taken}
use Rattle.session_facts.proofs.Machines.TreeCheckpoints.Noted.{got_front, got_back, got_either}
use Rattle.session_facts.proofs.Machines.TreeCheckpoints.Shortness.{AreShortItems, run_short, piece_short}
use Rattle.session_facts.proofs.Machines.Folds.Plans.{not_below}
use Rattle.session_facts.specs.Machines.TreeCheckpoints.Named.{HasAbove}
use Rattle.session_facts.specs.Machines.TreeCheckpoints.Nesting.{Nests, NestsOver, AreNested}
use Rattle.tree_ckpt.proofs.Above.{leaf_holds}
use Rattle.tree_ckpt.proofs.Named.{level_of, same_node}
use Rattle.tree_ckpt.proofs.Under.{on_ways, visits_level, leaves_under, climbs_level}
use Rattle.tree_ckpt.specs.Causes.{Calls, WasGot, WasNode}
use Rattle.tree_ckpt.specs.Meaning.{Tried, deletes_over, IsDone, opening_calls}
use Rattle.tree_ckpt.specs.Working.{IsAmong, Visit, Outcome, Planned, Spared, Passed, AreVisits, IsPieceOf, IsLeafPiece, IsNodePiece, IsUnder, Climb, AreClimbs, HasLevel, Worked, IsWorked, WorksBy, HoldsLow, leaf_place, node_place, link_to, done_over, puts_of, placing_of, visits_over, looks_of, root_behind, links_behind, climbs_over, fold_calls, worked_calls, last_root, last_links}
use Rattle.tree_phases.specs.declared.link.Link.{Link}
use Rattle.tree_phases.specs.Kept.{links_at}
use Rattle.tree_phases.specs.Read.{tree_held}

-- ---- earlier calls nest too

over_fewer : (tree : ℕ) (c : Ask × Answer) (cs ds : Calls) → ((page : ℕ) (n : Inner) → WasNode tree page n cs → WasNode tree page n ds) → NestsOver tree c ds → NestsOver tree c cs
over_fewer tree c cs ds into k = record {
  keys = k.keys;
  leaf = λ l b page a was. k.leaf l b page a (into page a was);
  below = λ n b page a was. k.below n b page a (into page a was);
  above = λ n b page a was. k.above n b page a (into page a was);
}

nested_front : (tree : ℕ) (xs ys : Calls) → AreNested tree (xs ++ ys) → AreNested tree xs
nested_front tree [] ys h = tt
nested_front tree (x ∷ xs) ys h =
    (over_fewer tree x xs (xs ++ ys) (λ page n was. (was.0, was.1, got_front (object.Page tree page) (Some was.0) xs ys was.2)) h.0, nested_front tree xs ys h.1)

nested_back : (tree : ℕ) (xs ys : Calls) → AreNested tree (xs ++ ys) → AreNested tree ys
nested_back tree [] ys h = h
nested_back tree (x ∷ xs) ys h = nested_back tree xs ys h.1

nested_done : (tree : ℕ) (asks : List Ask) (rest : Calls) → AreNested tree (done_over asks rest) → AreNested tree rest
nested_done tree [] rest h = h
nested_done tree (ask ∷ asks) rest h = (nested_done tree asks ((ask, Done) ∷ rest) h).1

nested_deletes : (tree of : ℕ) (tried : Tried) (rest : Calls) → AreNested tree (deletes_over of tried rest) → AreNested tree rest
nested_deletes tree of [] rest h = h
nested_deletes tree of (t ∷ ts) rest h = nested_deletes tree of ts rest h.1

nested_climbs : (tree : ℕ) (one : Claim) (us : List Climb) (rest : Calls) → AreNested tree (climbs_over tree one us rest) → AreNested tree rest
nested_climbs tree one [] rest h = h
nested_climbs tree one (u ∷ us) rest h = nested_climbs tree one us rest (nested_done tree (puts_of tree one None u.plan.placing) (climbs_over tree one us rest) h)

-- ---- what was got on ways down was got

got_done : (name : ObjName) (v : Option (List ℕ)) (asks : List Ask) (cs : Calls) → WasGot name v cs → WasGot name v (done_over asks cs)
got_done name v [] cs h = h
got_done name v (ask ∷ asks) cs h = got_done name v asks ((ask, Done) ∷ cs) (inr h)

looks_got : (name : ObjName) (val : Option (List ℕ)) (tree : ℕ) (one : Claim) (vs : List Visit) → WasGot name val (looks_of vs) → WasGot name val (visits_over tree one vs [])
looks_got name val tree one [] h = h
looks_got name val tree one (v ∷ vs) h =
    inr (got_done name val (puts_of tree one (Some v.lease) (placing_of v.outcome))
    ((GetHeld (object.Page tree v.page) v.lease, Got v.got) ∷ (Take (lock.Page tree v.page) 30, Given v.lease) ∷ v.looks ++ visits_over tree one vs [])
    (inr (inr (on (got_either name val v.looks (looks_of vs) h) (λ g. looks_got name val tree one vs g)))))
  where
    on : WasGot name val v.looks ⊎ WasGot name val (looks_of vs) → (WasGot name val (looks_of vs) → WasGot name val (visits_over tree one vs []))
        → WasGot name val (v.looks ++ visits_over tree one vs [])
    on (inl g) again = got_front name val v.looks (visits_over tree one vs []) g
    on (inr g) again = got_back name val v.looks (visits_over tree one vs []) (again g)

-- ---- two nodes

nodes_nest : (tree : ℕ) (cs : Calls) → AreNested tree cs → (p q : ℕ) (u a : Inner) → WasNode tree p u cs → WasNode tree q a cs → a.level ≡ u.level + 1 → Nests a.high u.low u.high
nodes_nest tree [] h p q u a (bytes, spelt, none) other up = absurd none
nodes_nest tree (c ∷ cs) h p q u a (bytes, spelt, inl b) (more, read, inr g) up = h.0.below u (p, bytes, b, spelt) q a (more, read, g) up
nodes_nest tree (c ∷ cs) h p q u a (bytes, spelt, inr f) (more, read, inl b) up = h.0.above a (q, more, b, read) p u (bytes, spelt, f) up
nodes_nest tree (c ∷ cs) h p q u a (bytes, spelt, inr f) (more, read, inr g) up = nodes_nest tree cs h.1 p q u a (bytes, spelt, f) (more, read, g) up
nodes_nest tree (c ∷ cs) h p q u a (bytes, spelt, inl b) (more, read, inl d) up =
    let answers : Got (Some bytes) ≡ Got (Some more) = ap (λ (x : Ask × Answer). x.1) (sym b.1 ∙ d.1) in
    let same : bytes ≡ more = cc (answers) in
    let one : u ≡ a = same_node bytes u a spelt (subst (λ (bs : List ℕ). inner_of bs ≡ Some a) (sym same) read) in
    let level : u.level ≡ a.level = ap (λ (n : Inner). n.level) one in
    absurd (omega (arith, up, level))

-- ---- the work

module _ (tree : ℕ) (one : Claim) (run : Taken) (got : Option (List ℕ)) (w : Worked) (is : IsWorked tree one run got w) (items : AreShortItems run.items)
    (nested : AreNested tree (visits_over tree one w.visits [])) where
  root_level : (tree_held got).level ≡ (last_root got w).level
  root_level =
      sym (climbs_level tree (fold_calls tree one w) (root_behind got w.visits) (links_behind w.visits) w.climbs is.climbs ∙ visits_level tree one run got w.visits is.visits)

  under_more : (xs cs : Calls) (l : Link) → IsUnder tree (last_root got w) cs l → IsUnder tree (last_root got w) (xs ++ cs) l
  under_more xs cs l (inl h) = inl h
  under_more xs cs l (inr a) = inr (a.0, a.1, (a.2.0, a.2.1, got_back (object.Page tree a.0) (Some a.2.0) xs cs a.2.2), a.3)

  piece_level : (l : Link) (outcome : Outcome) → IsPieceOf l outcome → l.level ≡ 1
  piece_level l (Planned p) h = level_of 1 l p.entries h
  piece_level l Spared h = absurd h
  piece_level l (Passed link) h = absurd h

  -- a piece of a leaf lies where the leaf does
  module _ (v : Visit) (vs : List Visit) (are : AreVisits tree one run got (v ∷ vs)) (nest : AreNested tree (visits_over tree one (v ∷ vs) [])) (l : Link) (piece : IsPieceOf l v.outcome) where
    abbrev behind : Calls
    behind = (Take (lock.Page tree v.page) 30, Given v.lease) ∷ v.looks ++ visits_over tree one vs []

    here : AreNested tree ((GetHeld (object.Page tree v.page) v.lease, Got v.got) ∷ behind)
    here = nested_done tree (puts_of tree one (Some v.lease) (placing_of v.outcome)) ((GetHeld (object.Page tree v.page) v.lease, Got v.got) ∷ behind) nest.1

    within : holds v.leaf l.low ≡ true
    within = leaf_holds tree one run got (v ∷ vs) v l are (inl refl) piece

    short : length l.low ≤ 64
    short = piece_short run (root_behind got vs) v.page v.leaf v.outcome l are.0.left piece (here.0.keys v.leaf (v.page, v.got, (v.lease, refl), are.0.holds)) items

    looked : (page : ℕ) (n : Inner) → WasNode tree page n (v.looks ++ looks_of vs) → WasNode tree page n behind
    looked page n was = (was.0, was.1, inr (on (got_either (object.Page tree page) (Some was.0) v.looks (looks_of vs) was.2)))
      where
        on : WasGot (object.Page tree page) (Some was.0) v.looks ⊎ WasGot (object.Page tree page) (Some was.0) (looks_of vs)
            → WasGot (object.Page tree page) (Some was.0) (v.looks ++ visits_over tree one vs [])
        on (inl g) = got_front (object.Page tree page) (Some was.0) v.looks (visits_over tree one vs []) g
        on (inr g) = got_back (object.Page tree page) (Some was.0) v.looks (visits_over tree one vs []) (looks_got (object.Page tree page) (Some was.0) tree one vs g)

    leaf_piece : IsUnder tree (last_root got w) (looks_of (v ∷ vs)) (link_to (leaf_place v.leaf.low v.page)) → IsUnder tree (last_root got w) (looks_of (v ∷ vs)) l
    leaf_piece (inl h) = inl (piece_level l v.outcome piece ∙ h.0, short)
    leaf_piece (inr a) =
        let parts = and_parts (not (bytes_below l.low v.leaf.low)) (below_bound l.low v.leaf.high) within in
        inr (
          a.0,
          a.1,
          a.2,
          record {
            level = piece_level l v.outcome piece ∙ a.3.level;
            short = short;
            from = not_below l.low v.leaf.low a.1.low (not-true (bytes_below l.low v.leaf.low) parts.0) a.3.from;
            to = here.0.leaf v.leaf (v.page, v.got, (v.lease, refl), are.0.holds) a.0 a.1 (looked a.0 a.1 a.2) (sym a.3.level) a.3.to l.low parts.1;
          },
        )

  leaves : (vs : List Visit) → AreVisits tree one run got vs → AreNested tree (visits_over tree one vs []) → (l : Link) → IsLeafPiece l vs
      → IsUnder tree (last_root got w) (looks_of vs) l
  leaves [] are nest l h = absurd h
  leaves (v ∷ vs) are nest l (inl piece) = leaf_piece v vs are nest l piece (leaves_under tree one run got (last_root got w) root_level (v ∷ vs) v are (inl refl))
  leaves (v ∷ vs) are nest l (inr rest) = under_more v.looks (looks_of vs) l (leaves vs are.1 (nested_back tree v.looks (visits_over tree one vs []) below) l rest)
    where
      below : AreNested tree (v.looks ++ visits_over tree one vs [])
      below =
          (nested_done tree (puts_of tree one (Some v.lease) (placing_of v.outcome))
          ((GetHeld (object.Page tree v.page) v.lease, Got v.got) ∷ (Take (lock.Page tree v.page) 30, Given v.lease) ∷ v.looks ++ visits_over tree one vs []) nest.1).1.1

  -- a piece of a node lies where the node does
  cut_node : (us : List Climb) (l : Link) → IsNodePiece l us → (u : Climb) × IsAmong u us × IsAmong l (links_at (u.node.level + 1) u.plan.entries)
  cut_node [] l h = absurd h
  cut_node (u ∷ us) l (inl h) = (u, inl refl, h)
  cut_node (u ∷ us) l (inr h) = let rest = cut_node us l h in (rest.0, inr rest.1, rest.2)

  climb_got : (root : Option (List ℕ)) (links : List Link) (us : List Climb) (u : Climb) → AreClimbs tree (fold_calls tree one w) root links us → IsAmong u us
      → WasGot (object.Page tree u.node.page) (Some u.node.bytes) (fold_calls tree one w) × HasLevel u.node
  climb_got root links [] u are h = absurd h
  climb_got root links (x ∷ us) u are (inr h) = climb_got root links us u are.4 h
  climb_got root links (x ∷ us) u are (inl same) =
      subst (λ (y : Climb). WasGot (object.Page tree y.node.page) (Some y.node.bytes) (fold_calls tree one w) × HasLevel y.node) same (are.0, are.1)

  node_piece : (u : Climb) (n : Inner) (l : Link) → WasGot (object.Page tree u.node.page) (Some u.node.bytes) (fold_calls tree one w) → inner_of u.node.bytes ≡ Some n → HoldsLow n l.low
      → l.level ≡ n.level + 1 → IsUnder tree (last_root got w) (looks_of w.visits) (link_to (node_place u.node.page n)) → IsUnder tree (last_root got w) (looks_of w.visits) l
  node_piece u n l was spelt inside level (inl k) = inl (level ∙ k.0, inside.short)
  node_piece u n l was spelt inside level (inr a) = inr (
    a.0,
    a.1,
    a.2,
    record {
      level = level ∙ a.3.level;
      short = inside.short;
      from = not_below l.low n.low a.1.low inside.from a.3.from;
      to =
          nodes_nest tree (visits_over tree one w.visits []) nested u.node.page a.0 n a.1 (u.node.bytes, spelt, was)
          (a.2.0, a.2.1, looks_got (object.Page tree a.0) (Some a.2.0) tree one w.visits a.2.2) (sym a.3.level) a.3.to l.low inside.to;
    },
  )

  nodes : (l : Link) → IsNodePiece l w.climbs → IsUnder tree (last_root got w) (looks_of w.visits) l
  nodes l h =
      let cut = cut_node w.climbs l h in
      let inside = is.inside cut.0 l cut.1 cut.2 in
      let was = climb_got (root_behind got w.visits) (links_behind w.visits) w.climbs cut.0 is.climbs cut.1 in
      let same : was.1.0 ≡ inside.0 = same_node cut.0.node.bytes was.1.0 inside.0 was.1.1 inside.1 in
      let level : l.level ≡ inside.0.level + 1 =
      level_of (cut.0.node.level + 1) l cut.0.plan.entries cut.2 ∙ ap (λ (m : ℕ). m + 1) (sym was.1.2 ∙ ap (λ (m : Inner). m.level) same) in
      node_piece cut.0 inside.0 l was.0 inside.1 inside.2 level
      (is.under_nodes cut.0.node.page cut.0.node.bytes inside.0
      (on_ways tree one run got cut.0.node.page cut.0.node.bytes inside.0 w.visits is.visits inside.1 was.0) inside.1)

  -- so each is named there
  under : (l : Link) → IsLeafPiece l w.visits ⊎ IsNodePiece l w.climbs → IsUnder tree (last_root got w) (looks_of w.visits) l
  under l (inl piece) = leaves w.visits is.visits nested l piece
  under l (inr piece) = nodes l piece

  named_by : (l : Link) → IsAmong l (last_links w) → l.page < (last_root got w).next → IsUnder tree (last_root got w) (looks_of w.visits) l → HasAbove tree got w l
  named_by l known page (inl h) = inr (h.0, is.named_last l known (record { level = h.0; short = h.1; page = page }))
  named_by l known page (inr a) = inl (a.0, a.1, a.2, a.3, is.named l known a.0 a.2.0 a.1 a.2.2 a.2.1 a.3)

  pub pieces_named : (l : Link) → IsLeafPiece l w.visits ⊎ IsNodePiece l w.climbs → HasAbove tree got w l
  pieces_named l new = let known = is.reserved l new in named_by l known.0 known.1 (under l new)

-- ---- the whole

pub works_is : (tree : ℕ) (one : Claim) (run : Taken) (got : Option (List ℕ)) (cs : Calls) (worked : Option Worked) (w : Worked) → worked ≡ Some w → WorksBy tree one run got cs worked
    → (cs ≡ worked_calls tree one w) × IsWorked tree one run got w
works_is tree one run got cs (Some v) w e k =
    let same : v ≡ w = cc (e) in
    subst (λ (x : Worked). (cs ≡ worked_calls tree one x) × IsWorked tree one run got x) same (k.1, k.2)
works_is tree one run got cs None w e k = absurd (cc (e))

fold_nested : (ask : Ask) (tree : ℕ) (received : List ℕ) (h : List Deed) (answer : CkptAnswer) (d : IsDone ask tree received h answer) (w : Worked) → AreNested tree (calls_of h)
    → d.work ≡ worked_calls tree d.lease w → AreNested tree (visits_over tree d.lease w.visits [])
fold_nested ask tree received h answer d w nested is =
    nested_climbs tree d.lease w.climbs (fold_calls tree d.lease w)
    (nested_done tree (puts_of tree d.lease None w.last.placing) (climbs_over tree d.lease w.climbs (fold_calls tree d.lease w)) works.1)
  where
    works : AreNested tree (worked_calls tree d.lease w)
    works =
        subst (AreNested tree) is
        (nested_front tree d.work (opening_calls tree d.lease d.opening)
        (nested_deletes tree tree d.tried (d.work ++ opening_calls tree d.lease d.opening) (subst (AreNested tree) d.calls nested)))

pub done_names : (ask : Ask) (tree : ℕ) (received : List ℕ) (h : List Deed) (answer : CkptAnswer) (d : IsDone ask tree received h answer) → AreNested tree (calls_of h)
    → (w : Worked) → d.worked ≡ Some w → (l : Link) → IsLeafPiece l w.visits ⊎ IsNodePiece l w.climbs → HasAbove tree d.opening.got w l
done_names ask tree received h answer d nested w e =
    let k = works_is tree d.lease d.opening.run d.opening.got d.work d.worked w e d.each in
    pieces_named tree d.lease d.opening.run d.opening.got w k.1 (run_short d.opening d.opened) (fold_nested ask tree received h answer d w nested k.0)

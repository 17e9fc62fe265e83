-- Each page that was come to lies under the level above it.
use Rattle.std.proofs.Common.{◌≡◌, ◌≤◌, ◌+◌, ◌-◌, ◌⊎◌, ℕ, Bool, true, false, List, [], ◌∷◌, ◌++◌, length, Option, Some, None, refl, sym, ap, subst, ◌∙◌, inl, inr, arith}
use Rattle.byte_format.specs.Order.{bytes_below, below_bound}
use Rattle.leaf_edit.proofs.InOrder.{below_upto}
use Rattle.db_base.specs.declared.names.Lock.TheVariants as lock
use Rattle.db_base.specs.declared.names.ObjName.TheVariants as object
use Rattle.node_codec.specs.Inner.{Inner, inner_of}
use Rattle.node_codec.specs.Node.{Entry, child_of}
use Rattle.node_codec.specs.Tree.{Tree}
use Rattle.node_codec.proofs.NodeLemmas.{in_range_parts}
use Rattle.cloud_trait.specs.declared.answer.Answer.TheVariants as call
use Rattle.cloud_trait.specs.Ask.{GetHeld, PutHeld, Take, Release}
use Rattle.tree_ckpt.specs.Moves.{entry_or}
use Rattle.tree_phases.specs.Read.{tree_held}
use Rattle.tree_ckpt.specs.Causes.{Calls, WasGot, WasNode}
use Rattle.tree_ckpt.specs.Working.{Place, child_place, below_root, leaf_place, link_to, LeadsOn, seeking, IsWay, IsLeftFor, IsStart, IsCome, Visit, Outcome, Planned, Spared, Passed, IsVisit, AreVisits, IsAmong, IsOver, node_place, IsUnder, IsFollowed, HoldsLeaf, IsLeft, IsFor, placing_of, root_behind, looks_of, visits_over, done_over, page_puts, reserved_before, Climb, AreClimbs, root_above}
use Rattle.tree_ckpt.proofs.Words.{ObjName, Taken, Answer, Claim, Ask, PagePut, Link}
use Rattle.tree_ckpt.proofs.Entries.{among_either}
use Rattle.tree_ckpt.proofs.Named.{same_node}
use Rattle.tree_ckpt.proofs.Lows.{IsUpto, child_upto, entry_upto}
use Rattle.tree_ckpt.proofs.Nodes.{IsAbove, not_under}
use Rattle.tree_ckpt.proofs.Roots.{IsHeldRoot, is_held, held_after, child_all, entries_short}
use Rattle.tree_ckpt.proofs.Sound.{IsSoundNode, node_sound, child_sound, leaf_above, leaf_no_node}

-- what is not above a key that is below a bound is below it
in_bound : (low key : List ℕ) (high : Option (List ℕ)) → IsUpto low key → below_bound key high ≡ true → below_bound low high ≡ true
in_bound low key None upto under = refl
in_bound low key (Some high) upto under = on (bytes_below low high) refl where
  on : (b : Bool) → bytes_below low high ≡ b → bytes_below low high ≡ true
  on true e = e
  on false e = absurd (let other : bytes_below key low ≡ true = below_upto key high low under e in cc)

-- ---- along a way

module _ (tree : ℕ) (key : List ℕ) (cs : Calls) (root : Tree) where
  -- a place for the key that lies under the level above
  pub record Lies (q : Place) : Type 0 where
    pub upto : IsUpto q.low key
    pub short : length q.low ≤ 64
    pub above : (q.level + 1 ≡ root.level)
        ⊎ ((page : ℕ) × (n : Inner) × WasNode tree page n cs × (n.level ≡ q.level + 1) × (bytes_below q.low n.low ≡ false) × (below_bound key n.high ≡ true))

  pub lies_under : (q : Place) → Lies q → IsUnder tree root cs (link_to q)
  lies_under q k = on k.above where
    on : (q.level + 1 ≡ root.level)
        ⊎ ((page : ℕ) × (n : Inner) × WasNode tree page n cs × (n.level ≡ q.level + 1) × (bytes_below q.low n.low ≡ false) × (below_bound key n.high ≡ true))
        → IsUnder tree root cs (link_to q)
    on (inl e) = inl (e, k.short)
    on (inr a) = inr (a.0, a.1, a.2, record { level = sym a.3; short = k.short; from = a.4; to = in_bound q.low key a.1.high k.upto a.5 })

  -- to the right of it
  lies_right : (p q : Place) → Lies p → q.level ≡ p.level → bytes_below p.low q.low ≡ true → length q.low ≤ 64 → IsUpto q.low key → Lies q
  lies_right p q k level more short upto = record { upto = upto; short = short; above = on k.above } where
    on : (p.level + 1 ≡ root.level)
        ⊎ ((page : ℕ) × (n : Inner) × WasNode tree page n cs × (n.level ≡ p.level + 1) × (bytes_below p.low n.low ≡ false) × (below_bound key n.high ≡ true))
        → (q.level + 1 ≡ root.level)
        ⊎ ((page : ℕ) × (n : Inner) × WasNode tree page n cs × (n.level ≡ q.level + 1) × (bytes_below q.low n.low ≡ false) × (below_bound key n.high ≡ true))
    on (inl e) = inl (ap (λ (m : ℕ). m + 1) level ∙ e)
    on (inr a) = inr (a.0, a.1, a.2, a.3 ∙ ap (λ (m : ℕ). m + 1) (sym level), not_under p.low q.low a.1.low more a.4, a.5)

  lies_on : (n : Inner) (p q : Place) (before turns : List Link) → Lies p → IsSoundNode n → WasNode tree p.page n cs → n.level ≡ p.level → n.low ≡ p.low
      → LeadsOn key n p.level before q turns → Lies q
  lies_on n p q before turns k sound was level low (inl h) =
      let above : IsAbove n.low (Some q.low) = subst (IsAbove n.low) h.0.0 sound.high in
      lies_right p q k h.2 (subst (λ (x : List ℕ). bytes_below x q.low ≡ true) low above.0) above.1 h.1
  lies_on n p q before turns k sound was level low (inr h) =
      let from : bytes_below key n.low ≡ false = subst (λ (x : List ℕ). bytes_below key x ≡ false) (sym low) k.upto in
      let child = child_sound n key sound from in
      let some : 1 ≤ n.level = sound.level in
      let lies : Lies (child_place key n.entries (p.level - 1)) = record {
        upto = entry_upto key (child_of key n.entries) (child_upto key n.entries);
        short = child.1;
        above = inr (p.page, n, was, omega (arith, some, level), child.0, h.0);
      } in
      subst Lies (sym h.1) lies

  way_lies : (start : Place) (ns : List Inner) (q : Place) (turns : List Link) → Lies start → IsWay (seeking tree key cs) start ns q turns → Lies q
  way_lies start [] q turns k h = subst Lies (sym h.0) k
  way_lies start (n ∷ ns) q turns k h =
      lies_on n h.0 q h.1 turns (way_lies start ns h.0 h.1 k h.2) (node_sound h.3.0 n h.3.1) h.3 h.4 h.5 h.6

  turns_under : (start : Place) (ns : List Inner) (q : Place) (turns : List Link) (l : Link) → Lies start → IsWay (seeking tree key cs) start ns q turns → IsAmong l turns
      → IsUnder tree root cs l
  turns_under start [] q turns l k h g = absurd (subst (λ (ls : List Link). IsAmong l ls) h.1 g)
  turns_under start (n ∷ ns) q turns l k h g =
      on h.6 (λ x. turns_under start ns h.0 h.1 l k h.2 x) (way_lies start (n ∷ ns) q turns k h) where
        newest : IsAmong l (link_to q ∷ []) → Lies q → IsUnder tree root cs l
        newest (inl same) lies = subst (IsUnder tree root cs) same (lies_under q lies)
        newest (inr none) lies = absurd none

        apart : (before : List Link) → IsAmong l before ⊎ IsAmong l (link_to q ∷ []) → (IsAmong l before → IsUnder tree root cs l) → Lies q → IsUnder tree root cs l
        apart before (inl x) rest lies = rest x
        apart before (inr x) rest lies = newest x lies

        on : LeadsOn key n h.0.level h.1 q turns → (IsAmong l h.1 → IsUnder tree root cs l) → Lies q → IsUnder tree root cs l
        on (inl a) rest lies = apart h.1 (among_either l h.1 (link_to q ∷ []) (subst (λ (ls : List Link). IsAmong l ls) a.3 g)) rest lies
        on (inr a) rest lies = rest (subst (λ (ls : List Link). IsAmong l ls) a.2 g)

-- a link's page is not looked at
other_page : (tree : ℕ) (root : Tree) (cs : Calls) (l m : Link) → m.level ≡ l.level → m.low ≡ l.low → IsUnder tree root cs l → IsUnder tree root cs m
other_page tree root cs l m level low (inl h) = inl (level ∙ h.0, subst (λ (x : List ℕ). length x ≤ 64) (sym low) h.1)
other_page tree root cs l m level low (inr h) = inr (
  h.0,
  h.1,
  h.2,
  record {
    level = level ∙ h.3.level;
    short = subst (λ (x : List ℕ). length x ≤ 64) (sym low) h.3.short;
    from = subst (λ (x : List ℕ). bytes_below x h.1.low ≡ false) (sym low) h.3.from;
    to = subst (λ (x : List ℕ). below_bound x h.1.high ≡ true) (sym low) h.3.to;
  },
)

-- each node that a way led over
over_under : (tree : ℕ) (key : List ℕ) (cs : Calls) (root : Tree) (start : Place) (ns : List Inner) (q : Place) (turns : List Link) (page : ℕ) (n : Inner)
    → Lies tree key cs root start → IsWay (seeking tree key cs) start ns q turns → IsAmong n ns → IsUnder tree root cs (link_to (node_place page n))
over_under tree key cs root start [] q turns page n k h g = absurd g
over_under tree key cs root start (m ∷ ns) q turns page n k h (inr g) = over_under tree key cs root start ns h.0 h.1 page n k h.2 g
over_under tree key cs root start (m ∷ ns) q turns page n k h (inl same) =
    other_page tree root cs (link_to h.0) (link_to (node_place page n)) (ap (λ (x : Inner). x.level + 1) (sym same) ∙ ap (λ (x : ℕ). x + 1) h.4)
    (ap (λ (x : Inner). x.low) (sym same) ∙ h.5) (lies_under tree key cs root h.0 (way_lies tree key cs root start ns h.0 h.1 k h.2))

-- below the tree object
root_lies : (tree : ℕ) (key : List ℕ) (cs : Calls) (root : Tree) (held : Option (List ℕ)) → (tree_held held).level ≡ root.level → Lies tree key cs root (below_root key held)
root_lies tree key cs root held same =
    let t : Tree = tree_held held in
    let is : IsHeldRoot t = is_held held in
    let some : 1 ≤ t.level = (in_range_parts 1 255 t.level is.fits.level).0 in
    record {
      upto = entry_upto key (child_of key t.entries) (child_upto key t.entries);
      short = on (child_of key t.entries) refl;
      above = inl (omega (arith, some, same));
    } where
      on : (o : Option Entry) → child_of key (tree_held held).entries ≡ o → length (entry_or o).0 ≤ 64
      on (Some e) at =
          child_all key (λ (x : Entry). length x.0 ≤ 64) (tree_held held).entries e
          (entries_short [] None ((tree_held held).next - 1) false None (tree_held held).entries (is_held held).fits.entries) at
      on None at = omega arith

-- ---- what was got on the ways down

got_front : (name : ObjName) (v : Option (List ℕ)) (xs ys : Calls) → WasGot name v xs → WasGot name v (xs ++ ys)
got_front name v [] ys h = absurd h
got_front name v (x ∷ xs) ys (inl b) = inl b
got_front name v (x ∷ xs) ys (inr h) = inr (got_front name v xs ys h)

got_back : (name : ObjName) (v : Option (List ℕ)) (xs ys : Calls) → WasGot name v ys → WasGot name v (xs ++ ys)
got_back name v [] ys h = h
got_back name v (x ∷ xs) ys h = inr (got_back name v xs ys h)

got_either : (name : ObjName) (v : Option (List ℕ)) (xs ys : Calls) → WasGot name v (xs ++ ys) → WasGot name v xs ⊎ WasGot name v ys
got_either name v [] ys h = inr h
got_either name v (x ∷ xs) ys (inl b) = inl (inl b)
got_either name v (x ∷ xs) ys (inr h) = on (got_either name v xs ys h) where
  on : WasGot name v xs ⊎ WasGot name v ys → WasGot name v (x ∷ xs) ⊎ WasGot name v ys
  on (inl g) = inl (inr g)
  on (inr g) = inr g

-- no put is a get
got_pages : (name : ObjName) (v : Option (List ℕ)) (tree : ℕ) (one : Claim) (two : Option Claim) (xs : List PagePut) (cs : Calls)
    → WasGot name v (done_over (page_puts tree one two xs) cs) → WasGot name v cs
got_pages name v tree one two [] cs h = h
got_pages name v tree one two (x ∷ xs) cs h = on (got_pages name v tree one two xs ((PutHeld (object.Page tree x.page) x.bytes one two, call.Done) ∷ cs) h) where
  on : WasGot name v ((PutHeld (object.Page tree x.page) x.bytes one two, call.Done) ∷ cs) → WasGot name v cs
  on (inl b) = absurd (let e : PutHeld (object.Page tree x.page) x.bytes one two ≡ GetHeld name b.0 = ap (λ (c : Ask × Answer). c.0) b.1 in cc (e))
  on (inr g) = g

got_puts : (name : ObjName) (v : Option (List ℕ)) (tree : ℕ) (one : Claim) (two : Option Claim) (reserved : Option (List ℕ)) (xs : List PagePut) (cs : Calls)
    → WasGot name v (done_over (reserved_before tree one reserved (page_puts tree one two xs)) cs) → WasGot name v cs
got_puts name v tree one two None xs cs h = got_pages name v tree one two xs cs h
got_puts name v tree one two (Some bytes) xs cs h = on (got_pages name v tree one two xs ((PutHeld (object.Tree tree) bytes one None, call.Done) ∷ cs) h) where
  on : WasGot name v ((PutHeld (object.Tree tree) bytes one None, call.Done) ∷ cs) → WasGot name v cs
  on (inl b) = absurd (let e : PutHeld (object.Tree tree) bytes one None ≡ GetHeld name b.0 = ap (λ (c : Ask × Answer). c.0) b.1 in cc (e))
  on (inr g) = g

module _ (tree : ℕ) (one : Claim) (run : Taken) (got : Option (List ℕ)) where
  -- an inner node that was got was got on a way down
  pub on_ways : (page : ℕ) (bytes : List ℕ) (n : Inner) (vs : List Visit) → AreVisits tree one run got vs → inner_of bytes ≡ Some n
      → WasGot (object.Page tree page) (Some bytes) (visits_over tree one vs []) → WasGot (object.Page tree page) (Some bytes) (looks_of vs)
  on_ways page bytes n [] are e h = h
  on_ways page bytes n (v ∷ vs) are e (inl b) = absurd (let f : Release v.lease ≡ GetHeld (object.Page tree page) b.0 = ap (λ (c : Ask × Answer). c.0) b.1 in cc (f))
  on_ways page bytes n (v ∷ vs) are e (inr h) =
      held (got_puts (object.Page tree page) (Some bytes) tree one (Some v.lease) (placing_of v.outcome).reserved (placing_of v.outcome).puts
      ((GetHeld (object.Page tree v.page) v.lease, call.Got v.got) ∷ (Take (lock.Page tree v.page) 30, call.Given v.lease) ∷ v.looks ++ visits_over tree one vs []) h)
      (λ g. on_ways page bytes n vs are.1 e g) where
        leaf_got : (o : Option (List ℕ)) → HoldsLeaf v.page v.leaf o → o ≡ Some bytes → ⊥
        leaf_got (Some bs) h f = let same : bs ≡ bytes = cc (f) in leaf_no_node bytes v.leaf n (subst (λ (x : List ℕ). HoldsLeaf v.page v.leaf (Some x)) same h) e
        leaf_got None h f = absurd (cc (f))

        answered : (a b : Option (List ℕ)) → call.Got a ≡ call.Got b → a ≡ b
        answered a b f = cc (f)

        behind : (WasGot (object.Page tree page) (Some bytes) (visits_over tree one vs []) → WasGot (object.Page tree page) (Some bytes) (looks_of vs))
            → WasGot (object.Page tree page) (Some bytes) v.looks ⊎ WasGot (object.Page tree page) (Some bytes) (visits_over tree one vs [])
            → WasGot (object.Page tree page) (Some bytes) (v.looks ++ looks_of vs)
        behind rest (inl g) = got_front (object.Page tree page) (Some bytes) v.looks (looks_of vs) g
        behind rest (inr g) = got_back (object.Page tree page) (Some bytes) v.looks (looks_of vs) (rest g)

        held : WasGot (object.Page tree page) (Some bytes)
            ((GetHeld (object.Page tree v.page) v.lease, call.Got v.got) ∷ (Take (lock.Page tree v.page) 30, call.Given v.lease) ∷ v.looks ++ visits_over tree one vs [])
            → (WasGot (object.Page tree page) (Some bytes) (visits_over tree one vs []) → WasGot (object.Page tree page) (Some bytes) (looks_of vs))
            → WasGot (object.Page tree page) (Some bytes) (v.looks ++ looks_of vs)
        held (inl b) rest = absurd (leaf_got v.got are.0.holds (answered v.got (Some bytes) (ap (λ (c : Ask × Answer). c.1) b.1)))
        held (inr (inl b)) rest = absurd (let f : Take (lock.Page tree v.page) 30 ≡ GetHeld (object.Page tree page) b.0 = ap (λ (c : Ask × Answer). c.0) b.1 in cc (f))
        held (inr (inr g)) rest = behind rest (got_either (object.Page tree page) (Some bytes) v.looks (visits_over tree one vs []) g)

  -- a way over nodes that were got is one over nodes that were got on ways down
  way_by : (key : List ℕ) (cs ds : Calls) → ((page : ℕ) (n : Inner) → WasNode tree page n cs → WasNode tree page n ds) → (start : Place) (ns : List Inner) (q : Place) (turns : List Link)
      → IsWay (seeking tree key cs) start ns q turns → IsWay (seeking tree key ds) start ns q turns
  way_by key cs ds into start [] q turns h = h
  way_by key cs ds into start (n ∷ ns) q turns h = (h.0, h.1, way_by key cs ds into start ns h.0 h.1 h.2, into h.0.page n h.3, h.4, h.5, h.6)

  looks_into : (v : Visit) (vs : List Visit) → AreVisits tree one run got vs → (page : ℕ) (n : Inner) → WasNode tree page n (v.looks ++ visits_over tree one vs [])
      → WasNode tree page n (looks_of (v ∷ vs))
  looks_into v vs are page n h = (h.0, h.1, on (got_either (object.Page tree page) (Some h.0) v.looks (visits_over tree one vs []) h.2)) where
    on : WasGot (object.Page tree page) (Some h.0) v.looks ⊎ WasGot (object.Page tree page) (Some h.0) (visits_over tree one vs [])
        → WasGot (object.Page tree page) (Some h.0) (v.looks ++ looks_of vs)
    on (inl g) = got_front (object.Page tree page) (Some h.0) v.looks (looks_of vs) g
    on (inr g) = got_back (object.Page tree page) (Some h.0) v.looks (looks_of vs) (on_ways page h.0 n vs are h.1 g)

  -- ---- the tree object's level stays

  left_level : (v : Visit) (vs : List Visit) (outcome : Outcome) → IsLeft run (root_behind got vs) v.page v.leaf outcome
      → (tree_held (root_behind got (record v { outcome = outcome } ∷ vs))).level ≡ (tree_held (root_behind got vs)).level
  left_level v vs (Planned plan) h = (held_after (root_behind got vs) h.1.first (length h.1.pieces - 1) plan.placing.reserved h.1.numbers).level
  left_level v vs Spared h = refl
  left_level v vs (Passed link) h = refl

  pub visits_level : (vs : List Visit) → AreVisits tree one run got vs → (tree_held (root_behind got vs)).level ≡ (tree_held got).level
  visits_level [] are = refl
  visits_level (v ∷ vs) are = left_level v vs v.outcome are.0.left ∙ visits_level vs are.1

  -- ---- from leaf to leaf

  module _ (root : Tree) (level : (tree_held got).level ≡ root.level) where
    more_calls : (key : List ℕ) (xs cs : Calls) (q : Place) → Lies tree key cs root q → Lies tree key (xs ++ cs) root q
    more_calls key xs cs q k = record { upto = k.upto; short = k.short; above = on k.above } where
      on : (q.level + 1 ≡ root.level)
          ⊎ ((page : ℕ) × (n : Inner) × WasNode tree page n cs × (n.level ≡ q.level + 1) × (bytes_below q.low n.low ≡ false) × (below_bound key n.high ≡ true))
          → (q.level + 1 ≡ root.level)
          ⊎ ((page : ℕ) × (n : Inner) × WasNode tree page n (xs ++ cs) × (n.level ≡ q.level + 1) × (bytes_below q.low n.low ≡ false) × (below_bound key n.high ≡ true))
      on (inl e) = inl e
      on (inr a) = inr (a.0, a.1, (a.2.0, a.2.1, got_back (object.Page tree a.0) (Some a.2.0) xs cs a.2.2), a.3, a.4, a.5)

    under_more : (xs cs : Calls) (l : Link) → IsUnder tree root cs l → IsUnder tree root (xs ++ cs) l
    under_more xs cs l (inl h) = inl h
    under_more xs cs l (inr a) = inr (a.0, a.1, (a.2.0, a.2.1, got_back (object.Page tree a.0) (Some a.2.0) xs cs a.2.2), a.3)

    abbrev Leaf_lies : Visit → Calls → Type 0
    Leaf_lies v cs = Lies tree v.key cs root (leaf_place v.leaf.low v.page)

    abbrev Newest_lies : List Visit → Type 0
    Newest_lies [] = Unit {0}
    Newest_lies (v ∷ vs) = Leaf_lies v (looks_of (v ∷ vs))

    -- the page for which a leaf was left
    passed_lies : (v : Visit) (vs : List Visit) (link : Link) → IsFor v.key v.leaf (Passed link) → IsLeft run (root_behind got vs) v.page v.leaf (Passed link)
        → IsAbove v.leaf.low v.leaf.high → (cs : Calls) → Leaf_lies v cs → Lies tree v.key cs root (leaf_place link.low link.page)
    passed_lies v vs link is_for left above cs k =
        let more : IsAbove v.leaf.low (Some link.low) = subst (IsAbove v.leaf.low) left.1.0 above in
        lies_right tree v.key cs root (leaf_place v.leaf.low v.page) (leaf_place link.low link.page) k refl more.0 more.1 is_for

    left_lies : (key : List ℕ) (p : Place) (v : Visit) (vs : List Visit) (outcome : Outcome) → v.key ≡ key → IsVisit tree one run got vs (record v { outcome = outcome })
        → IsLeftFor key p (record v { outcome = outcome } ∷ vs) → (cs : Calls) → Leaf_lies v cs → Lies tree key cs root p
    left_lies key p v vs (Planned plan) same is h cs k = absurd h.1
    left_lies key p v vs Spared same is h cs k = absurd h.1
    left_lies key p v vs (Passed link) same is h cs k =
        subst (λ (x : List ℕ). Lies tree x cs root p) same
        (subst (Lies tree v.key cs root) (sym h.1) (passed_lies v vs link is.is_for is.left (leaf_above v.page v.leaf v.got is.holds) cs k))

    start_lies : (key : List ℕ) (vs : List Visit) (p : Place) (looks : Calls) → AreVisits tree one run got vs → Newest_lies vs → IsStart (root_behind got vs) key vs p
        → Lies tree key (looks ++ looks_of vs) root p
    start_lies key vs p looks are k (inl e) =
        subst (Lies tree key (looks ++ looks_of vs) root) (sym e) (root_lies tree key (looks ++ looks_of vs) root (root_behind got vs) (visits_level vs are ∙ level))
    start_lies key [] p looks are k (inr h) = absurd h
    start_lies key (v ∷ vs) p looks are k (inr h) = more_calls key looks (looks_of (v ∷ vs)) p (left_lies key p v vs v.outcome h.0 are.0 h (looks_of (v ∷ vs)) k)

    newest_lies : (vs : List Visit) → AreVisits tree one run got vs → Newest_lies vs
    newest_lies [] are = tt
    newest_lies (v ∷ vs) are =
        let come : IsCome (root_behind got vs) (seeking tree v.key (v.looks ++ visits_over tree one vs [])) vs v.turns (leaf_place v.leaf.low v.page) = are.0.come in
        way_lies tree v.key (looks_of (v ∷ vs)) root come.0 come.2.0 (leaf_place v.leaf.low v.page) v.turns
        (start_lies v.key vs come.0 v.looks are.1 (newest_lies vs are.1) come.1)
        (way_by v.key (v.looks ++ visits_over tree one vs []) (looks_of (v ∷ vs)) (looks_into v vs are.1) come.0 come.2.0 (leaf_place v.leaf.low v.page) v.turns come.2.1)

    -- ---- the two claims

    pub leaves_under : (vs : List Visit) (v : Visit) → AreVisits tree one run got vs → IsAmong v vs
        → IsUnder tree root (looks_of vs) (link_to (leaf_place v.leaf.low v.page))
    leaves_under [] v are h = absurd h
    leaves_under (x ∷ vs) v are (inl e) =
        subst (λ (y : Visit). IsUnder tree root (looks_of (x ∷ vs)) (link_to (leaf_place y.leaf.low y.page))) e
        (lies_under tree x.key (looks_of (x ∷ vs)) root (leaf_place x.leaf.low x.page) (newest_lies (x ∷ vs) are))
    leaves_under (x ∷ vs) v are (inr h) = under_more x.looks (looks_of vs) (link_to (leaf_place v.leaf.low v.page)) (leaves_under vs v are.1 h)

    turn_under : (v : Visit) (vs : List Visit) (l : Link) → AreVisits tree one run got (v ∷ vs) → IsAmong l v.turns → IsUnder tree root (looks_of (v ∷ vs)) l
    turn_under v vs l are h =
        let come : IsCome (root_behind got vs) (seeking tree v.key (v.looks ++ visits_over tree one vs [])) vs v.turns (leaf_place v.leaf.low v.page) = are.0.come in
        turns_under tree v.key (looks_of (v ∷ vs)) root come.0 come.2.0 (leaf_place v.leaf.low v.page) v.turns l
        (start_lies v.key vs come.0 v.looks are.1 (newest_lies vs are.1) come.1)
        (way_by v.key (v.looks ++ visits_over tree one vs []) (looks_of (v ∷ vs)) (looks_into v vs are.1) come.0 come.2.0 (leaf_place v.leaf.low v.page) v.turns come.2.1) h

    link_of : ℕ → Link → Link
    link_of n l = record { level = n; low = l.low; page = l.page }

    passed_under : (v : Visit) (vs : List Visit) (l : Link) (outcome : Outcome) → IsVisit tree one run got vs (record v { outcome = outcome }) → outcome ≡ Passed l
        → (cs : Calls) → Leaf_lies v cs → IsUnder tree root cs l
    unfolding link_of
    passed_under v vs l (Planned plan) is e cs k = absurd (cc (e))
    passed_under v vs l Spared is e cs k = absurd (cc (e))
    passed_under v vs l (Passed link) is e cs k =
        let same : link ≡ l = cc (e) in
        let under : IsUnder tree root cs (link_to (leaf_place link.low link.page)) =
        lies_under tree v.key cs root (leaf_place link.low link.page) (passed_lies v vs link is.is_for is.left (leaf_above v.page v.leaf v.got is.holds) cs k) in
        subst (IsUnder tree root cs) same (subst (λ (n : ℕ). IsUnder tree root cs (link_of n link)) (sym is.left.0) under)

    pub followed_under : (vs : List Visit) (l : Link) → AreVisits tree one run got vs → IsFollowed l vs → IsUnder tree root (looks_of vs) l
    followed_under [] l are h = absurd h
    followed_under (v ∷ vs) l are (inr h) = under_more v.looks (looks_of vs) l (followed_under vs l are.1 h)
    followed_under (v ∷ vs) l are (inl (inl h)) = turn_under v vs l are h
    followed_under (v ∷ vs) l are (inl (inr h)) = passed_under v vs l v.outcome are.0 h (looks_of (v ∷ vs)) (newest_lies (v ∷ vs) are)

    -- each inner node that was got
    pub nodes_under : (vs : List Visit) (page : ℕ) (bytes : List ℕ) (n : Inner) → AreVisits tree one run got vs → WasGot (object.Page tree page) (Some bytes) (looks_of vs)
        → inner_of bytes ≡ Some n → IsUnder tree root (looks_of vs) (link_to (node_place page n))
    nodes_under [] page bytes n are h e = absurd h
    nodes_under (v ∷ vs) page bytes n are h e =
        on (got_either (object.Page tree page) (Some bytes) v.looks (looks_of vs) h) (λ g. nodes_under vs page bytes n are.1 g e) where
          here : IsOver bytes are.0.come.2.0 → IsUnder tree root (looks_of (v ∷ vs)) (link_to (node_place page n))
          here o =
              let come : IsCome (root_behind got vs) (seeking tree v.key (v.looks ++ visits_over tree one vs [])) vs v.turns (leaf_place v.leaf.low v.page) = are.0.come in
              let same : o.0 ≡ n = same_node bytes o.0 n o.1 e in
              over_under tree v.key (looks_of (v ∷ vs)) root come.0 come.2.0 (leaf_place v.leaf.low v.page) v.turns page n
              (start_lies v.key vs come.0 v.looks are.1 (newest_lies vs are.1) come.1)
              (way_by v.key (v.looks ++ visits_over tree one vs []) (looks_of (v ∷ vs)) (looks_into v vs are.1) come.0 come.2.0 (leaf_place v.leaf.low v.page) v.turns come.2.1)
              (subst (λ (m : Inner). IsAmong m come.2.0) same o.2)

          on : WasGot (object.Page tree page) (Some bytes) v.looks ⊎ WasGot (object.Page tree page) (Some bytes) (looks_of vs)
              → (WasGot (object.Page tree page) (Some bytes) (looks_of vs) → IsUnder tree root (looks_of vs) (link_to (node_place page n)))
              → IsUnder tree root (v.looks ++ looks_of vs) (link_to (node_place page n))
          on (inl g) rest = here (are.0.over page bytes g)
          on (inr g) rest = under_more v.looks (looks_of vs) (link_to (node_place page n)) (rest g)

-- so does a put of an inner node
pub climbs_level : (tree : ℕ) (cs : Calls) (root : Option (List ℕ)) (links : List Link) (climbs : List Climb) → AreClimbs tree cs root links climbs
    → (tree_held (root_above root climbs)).level ≡ (tree_held root).level
climbs_level tree cs root links [] are = refl
climbs_level tree cs root links (u ∷ us) are =
    (held_after (root_above root us) are.3.2.first (length are.3.2.pieces - 1) u.plan.placing.reserved are.3.2.numbers).level
    ∙ climbs_level tree cs root links us are.4

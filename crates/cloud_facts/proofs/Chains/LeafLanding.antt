-- A leaf lands with a run: its table, and those of its pieces, say no more than what is done then.
use Rattle.std.proofs.Common.{◌≡◌, ◌+◌, ◌≤◌, ℕ, max, List, [], ◌∷◌, Option, Some, refl, sym, ap, subst, ◌∙◌, ◌⊎◌, inl, inr, Bool, true, false, not, arith}
use Rattle.std.specs.Prelude.{slice_get, ◌==◌, ◌&&◌}
use Rattle.std.proofs.lemmas.Bool.{and_parts, not-true, cond_both, true_from_ne_false}
use Rattle.byte_format.specs.Order.{bytes_below, below_bound}
use Rattle.leaf_edit.specs.Raised.{greatest_of}
use Rattle.cloud_facts.specs.Words.{Leaf, Link, Store, Node, Leafy, Branch, IsIn, StandsAt}
use Rattle.leaf_view.specs.Lookup.{holds}
use Rattle.node_codec.proofs.EntryLemmas.{below_chain}
use Rattle.cloud_facts.specs.Book.Effects.{Taking, done_after}
use Rattle.cloud_facts.specs.Book.Premises.{Ranges, Takes}
use Rattle.cloud_facts.specs.Book.Tally.{low_of, high_of}
use Rattle.cloud_facts.specs.Chains.Chain.{AreLevels, IsCovered}
use Rattle.cloud_facts.specs.Chains.Landing.{IsPiece, ArePieces, LandsOn, LandsLeaf, first_or}
use Rattle.cloud_facts.specs.Chains.Links.{low_after}
use Rattle.cloud_facts.proofs.Chains.Joining.{Covers, level_apart}
use Rattle.cloud_facts.proofs.Chains.Pieces.{Apart, one_place, none_in, in_first, in_rest, in_cases, ascend_all}

-- what a node ends before: what is behind all pieces, or one of them
abbrev pub IsBound : Option Link → List Link → Option Link → Type 0
IsBound after pieces next = (next ≡ after) ⊎ ((b : Link) × IsIn pieces b × (next ≡ Some b))

first_bound : (after : Option Link) (pieces : List Link) → IsBound after pieces (first_or after pieces)
first_bound after [] = inl refl
first_bound after (p ∷ pieces) = inr (p, in_first p pieces, refl)

more_bound : (after : Option Link) (p : Link) (pieces : List Link) (next : Option Link) → IsBound after pieces next → IsBound after (p ∷ pieces) next
more_bound after p pieces next (inl e) = inl e
more_bound after p pieces next (inr q) = inr (q.0, in_rest p pieces q.0 q.1, q.2)

record Bounded (nodes : ℕ → List Node) (level : ℕ) (pieces : List Link) (after : Option Link) (a : Link) : Type 0 where
  next : Option Link
  piece : IsPiece nodes level a next
  bound : IsBound after pieces next

piece_bound : (nodes : ℕ → List Node) (level : ℕ) (pieces : List Link) (after : Option Link) → ArePieces nodes level pieces after → (a : Link) → IsIn pieces a
    → Bounded nodes level pieces after a
piece_bound nodes level [] after are a h = absurd (none_in a h)
piece_bound nodes level (p ∷ pieces) after are a h = on (piece_bound nodes level pieces after are.1 a) (in_cases p pieces a h)
  where
    on : (IsIn pieces a → Bounded nodes level pieces after a) → (p ≡ a) ⊎ IsIn pieces a → Bounded nodes level (p ∷ pieces) after a
    on again (inl e) = record {
      next = first_or after pieces;
      piece = subst (λ (x : Link). IsPiece nodes level x (first_or after pieces)) e are.0;
      bound = more_bound after p pieces (first_or after pieces) (first_bound after pieces);
    }
    on again (inr k) = let old = again k in record { next = old.next; piece = old.piece; bound = more_bound after p pieces old.next old.bound }

-- ---- the keys of a range

never : (b : Bool) → b ≡ true → b ≡ false → ⊥
never b e f = let no : true ≡ false = sym e ∙ f in absurd (cc)

-- from a low key on that is at least another's
from_low : (key low least : List ℕ) → (low ≡ least) ⊎ (bytes_below least low ≡ true) → bytes_below key low ≡ false → bytes_below key least ≡ true → ⊥
from_low key low least (inl e) out under = never (bytes_below key least) under (ap (bytes_below key) (sym e) ∙ out)
from_low key low least (inr h) out under = never (bytes_below key low) (below_chain key least low under h) out

-- up to a bound that is at most another one
to_high : (key : List ℕ) (high : Option (List ℕ)) (after : Option Link) (pieces : List Link) (next : Option Link) (last : Link)
    → high ≡ low_after next → IsBound after pieces next
    → ((piece last : Link) → IsIn pieces piece → after ≡ Some last → bytes_below piece.low last.low ≡ true) → after ≡ Some last
    → below_bound key high ≡ true → bytes_below key last.low ≡ true
to_high key high after pieces next last e (inl is) within a below =
    let is_high : high ≡ Some last.low = e ∙ ap low_after (is ∙ a) in
    ap (below_bound key) (sym is_high) ∙ below
to_high key high after pieces next last e (inr p) within a below =
    let is_high : high ≡ Some p.0.low = e ∙ ap low_after p.2 in
    below_chain key p.0.low last.low (ap (below_bound key) (sym is_high) ∙ below) (within p.0 last p.1 a)

-- a key that a leaf holds, from a low key in a range on and up to a bound in it, is in the range
in_range : (range : List ℕ → Bool) (link : Link) (after : Option Link) (pieces : List Link) (l : Leaf) (next : Option Link) (key : List ℕ)
    → (l.low ≡ link.low) ⊎ (bytes_below link.low l.low ≡ true) → l.high ≡ low_after next → IsBound after pieces next
    → ((piece last : Link) → IsIn pieces piece → after ≡ Some last → bytes_below piece.low last.low ≡ true)
    → (range key ≡ false → (bytes_below key link.low ≡ true) ⊎ ((last : Link) × (after ≡ Some last) × (bytes_below key last.low ≡ false)))
    → holds l key ≡ true → range key ≡ true
in_range range link after pieces l next key low high bound within whole held =
    true_from_ne_false (range key) (λ out. on (whole out))
  where
    parts : (not (bytes_below key l.low) ≡ true) × (below_bound key l.high ≡ true)
    parts = and_parts (not (bytes_below key l.low)) (below_bound key l.high) held

    on : (bytes_below key link.low ≡ true) ⊎ ((last : Link) × (after ≡ Some last) × (bytes_below key last.low ≡ false)) → ⊥
    on (inl under) = from_low key l.low link.low low (not-true (bytes_below key l.low) parts.0) under
    on (inr p) = never (bytes_below key p.0.low) (to_high key l.high after pieces next p.0 high bound within p.1 parts.1) p.2

-- ---- the leaf and its pieces

pub done_rises : (p : Taking) (done : ℕ → List ℕ → ℕ → ℕ → ℕ) (tree : ℕ) (key : List ℕ) (page client : ℕ)
    → done tree key page client ≤ done_after p done tree key page client
done_rises p done tree key page client =
    cond_both (((tree == p.tree) && (page == p.queue)) && p.range key) (max (done tree key page client) (greatest_of p.run client)) (done tree key page client)
    (λ (n : ℕ). done tree key page client ≤ n) (λ e. omega arith) (λ e. omega arith)

-- the place of the range is the one at which the leaf lands
same_link : (links : List Link) → Apart links → (i j : ℕ) (a b : Link) → StandsAt links i a → StandsAt links j b → a.page ≡ b.page → (i ≡ j) × (a ≡ b)
same_link links apart i j a b h k e =
    let place : i ≡ j = one_place links apart i j a b h k e in
    let both : Some a ≡ Some b = sym h ∙ ap (slice_get links) place ∙ k in
    (place, (cc))

pub leaf_covers : (st : Store) (p : Taking) (height : ℕ) → AreLevels (st.book.chain p.tree) height → Takes st p → LandsLeaf st p
    → Covers (st.tally.nodes p.tree) 0 (Leafy p.leaf) p.pieces (st.tally.done p.tree) (done_after p st.tally.done p.tree)
leaf_covers st p height lv takes leaf = record {
  rises = λ key page client c. done_rises p st.tally.done p.tree key page client;
  node_is = λ z key held page client c. let e = takes.table key (whole_is key held) page client c in omega (arith, e);
  pieces_are = λ z piece n h k. piece_is piece n h k;
}
  where
    lands : LandsOn (st.book.chain p.tree) (st.tally.nodes p.tree) 0 p.page (Leafy p.leaf) p.pieces
    lands = leaf.lands

    range : Ranges st.book p.tree p.page p.range
    range = takes.ranges

    same : (range.place ≡ lands.place) × (range.link ≡ lands.link)
    same = same_link (st.book.chain p.tree 0)
        (level_apart (st.book.chain p.tree) height lv 0) range.place lands.place range.link lands.link range.linked lands.linked
        (range.page_is ∙ sym lands.page_is)

    whole_at : (key : List ℕ) → (bytes_below key range.link.low ≡ true) ⊎
        ((last : Link) × StandsAt (st.book.chain p.tree 0) (range.place + 1) last × (bytes_below key last.low ≡ false))
        → (bytes_below key lands.link.low ≡ true) ⊎ ((last : Link) × (slice_get (st.book.chain p.tree 0) (lands.place + 1) ≡ Some last) ×
        (bytes_below key last.low ≡ false))
    whole_at key (inl h) = inl (ap (λ (x : Link). bytes_below key x.low) (sym same.1) ∙ h)
    whole_at key (inr q) = inr (q.0, ap (λ (n : ℕ). slice_get (st.book.chain p.tree 0) (n + 1)) (sym same.0) ∙ q.1, q.2)

    whole : (key : List ℕ) → p.range key ≡ false
        → (bytes_below key lands.link.low ≡ true) ⊎ ((last : Link) × (slice_get (st.book.chain p.tree 0) (lands.place + 1) ≡ Some last) ×
        (bytes_below key last.low ≡ false))
    whole key out = whole_at key (range.whole key out)

    whole_is : (key : List ℕ) → holds p.leaf key ≡ true → p.range key ≡ true
    whole_is key held =
        in_range p.range lands.link (slice_get (st.book.chain p.tree 0) (lands.place + 1)) p.pieces p.leaf
        (first_or (slice_get (st.book.chain p.tree 0) (lands.place + 1)) p.pieces) key (inl lands.low) lands.ends.high
        (first_bound (slice_get (st.book.chain p.tree 0) (lands.place + 1)) p.pieces) lands.within (whole key) held

    piece_is : (piece : Link) (n : Node) → IsIn p.pieces piece → st.tally.nodes p.tree piece.page ≡ n ∷ [] → IsCovered (done_after p st.tally.done p.tree) n
    piece_is piece (Branch b) h k = tt
    piece_is piece (Leafy l) h k = λ key held page client c.
        let b = piece_bound (st.tally.nodes p.tree) 0 p.pieces (slice_get (st.book.chain p.tree 0) (lands.place + 1)) lands.pieces_are piece h in
        let there : st.tally.nodes p.tree piece.page ≡ b.piece.node ∷ [] = b.piece.landed in
        let is : b.piece.node ≡ Leafy l = cc in
        let low : l.low ≡ piece.low = ap low_of (sym is) ∙ b.piece.low in
        let high : l.high ≡ low_after b.next = ap high_of (sym is) ∙ b.piece.ends.high in
        let above : bytes_below lands.link.low l.low ≡ true = ap (bytes_below lands.link.low) low ∙ ascend_all lands.link p.pieces piece lands.ascends h in
        let ranged : p.range key ≡ true =
        in_range p.range lands.link (slice_get (st.book.chain p.tree 0) (lands.place + 1)) p.pieces l b.next key
        (inr above) high b.bound lands.within (whole key) held in
        let e = takes.table key ranged page client c in
        let t = leaf.table piece l h k page client in
        omega (arith, e, t)

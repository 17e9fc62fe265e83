-- What was put for a node, or for the tree object, names the links that go to it.
use Rattle.std.proofs.Common.{◌≡◌, ◌<◌, ◌+◌, ◌⊎◌, ℕ, Bool, true, false, cond, List, [], ◌∷◌, ◌++◌, length, refl, sym, ap, subst, ◌∙◌, inl, inr}
use Rattle.std.specs.Prelude.{◌==◌, ◌&&◌, not, map, reverse, nat_le, nat_lt}
use Rattle.std.specs.List.{AllByRecursion, flat_map}
use Rattle.std.proofs.lemmas.Grind.{reverse_onto}
use Rattle.std.proofs.lemmas.Bool.{eqb-true, eq-eqb, lt-ltb, le-leb}
use Rattle.byte_format.specs.Order.{bytes_below, bytes_same, below_bound}
use Rattle.byte_format.proofs.OrderLemmas.{same_is}
use Rattle.node_codec.specs.Inner.{Inner, node_of_root}
use Rattle.node_codec.specs.Node.{Entry, raised, with_entry}
use Rattle.node_codec.specs.Tree.{Tree, with_child}
use Rattle.split_plan.specs.Cut.{IsCut}
use Rattle.split_plan.specs.Part.{NodePart, entry_key, part_of_node}
use Rattle.split_plan.specs.Plan.{put_of, on_pages, node_bytes}
use Rattle.tree_phases.specs.Nodes.{goes_to, with_links}
use Rattle.tree_phases.specs.Root.{is_named, with_named}
use Rattle.tree_ckpt.specs.Working.{IsAmong, PutsEntry, PutsPieces, form_of, PutsRoot, HasRisen, IsNamed, IsInRange, IsOfRoot, linked_node, raised_root}
use Rattle.tree_ckpt.proofs.Words.{PagePut, NewEntry, Placing, Link, RootPlan}

-- ---- lists

pub among_front : {A : Type 0} (x : A) (xs ys : List A) → IsAmong x xs → IsAmong x (xs ++ ys)
among_front x [] ys h = absurd h
among_front x (y ∷ xs) ys (inl e) = inl e
among_front x (y ∷ xs) ys (inr h) = inr (among_front x xs ys h)

pub among_back : {A : Type 0} (x : A) (xs ys : List A) → IsAmong x ys → IsAmong x (xs ++ ys)
among_back x [] ys h = h
among_back x (y ∷ xs) ys h = inr (among_back x xs ys h)

pub among_either : {A : Type 0} (x : A) (xs ys : List A) → IsAmong x (xs ++ ys) → IsAmong x xs ⊎ IsAmong x ys
among_either x [] ys h = inr h
among_either x (y ∷ xs) ys (inl e) = inl (inl e)
among_either x (y ∷ xs) ys (inr h) = on (among_either x xs ys h) where
  on : IsAmong x xs ⊎ IsAmong x ys → IsAmong x (y ∷ xs) ⊎ IsAmong x ys
  on (inl g) = inl (inr g)
  on (inr g) = inr g

-- ---- entries

keeps : (e : Entry) (low : List ℕ) (page : ℕ) (es : List Entry) → IsAmong e es → IsAmong e (with_entry low page es)
keeps e low page [] h = absurd h
keeps e low page (x ∷ xs) h = on (bytes_below low x.0) (bytes_same low x.0) (λ g. keeps e low page xs g) where
  behind : (IsAmong e xs → IsAmong e (with_entry low page xs)) → IsAmong e (x ∷ xs) → IsAmong e (x ∷ with_entry low page xs)
  behind rest (inl g) = inl g
  behind rest (inr g) = inr (rest g)

  on : (b c : Bool) → (IsAmong e xs → IsAmong e (with_entry low page xs)) → IsAmong e (cond b ((low, page) ∷ x ∷ xs) (cond c (x ∷ xs) (x ∷ with_entry low page xs)))
  on true c rest = inr h
  on false true rest = h
  on false false rest = behind rest h

-- its low key stands there then, with its page or with that which was there
has : (low : List ℕ) (page : ℕ) (es : List Entry) → (p : ℕ) × IsAmong (low, p) (with_entry low page es) × ((p ≡ page) ⊎ IsAmong (low, p) es)
has low page [] = (page, inl refl, inl refl)
has low page (x ∷ xs) = on (bytes_below low x.0) (bytes_same low x.0) refl (has low page xs) where
  behind : (p : ℕ) → (p ≡ page) ⊎ IsAmong (low, p) xs → (p ≡ page) ⊎ IsAmong (low, p) (x ∷ xs)
  behind p (inl g) = inl g
  behind p (inr g) = inr (inr g)

  on : (b c : Bool) → bytes_same low x.0 ≡ c → ((p : ℕ) × IsAmong (low, p) (with_entry low page xs) × ((p ≡ page) ⊎ IsAmong (low, p) xs))
      → (p : ℕ) × IsAmong (low, p) (cond b ((low, page) ∷ x ∷ xs) (cond c (x ∷ xs) (x ∷ with_entry low page xs))) × ((p ≡ page) ⊎ IsAmong (low, p) (x ∷ xs))
  on true c e rest = (page, inl refl, inl refl)
  on false true e rest =
      let same : x ≡ (low, x.1) = ap (λ (k : List ℕ). (k, x.1)) (sym (same_is low x.0 e)) in
      (x.1, inl same, inr (inl same))
  on false false e rest = (rest.0, inr rest.1, behind rest.0 rest.2)

abbrev pub entry_at : List ℕ → ℕ → Entry
entry_at low page = (low, page)

-- what stands there stood there, or is the new one
pub with_from : (e : Entry) (low : List ℕ) (page : ℕ) (es : List Entry) → IsAmong e (with_entry low page es) → IsAmong e es ⊎ (entry_at low page ≡ e)
with_from e low page [] (inl g) = inr g
with_from e low page [] (inr g) = absurd g
with_from e low page (x ∷ xs) h = on (bytes_below low x.0) (bytes_same low x.0) (λ g. with_from e low page xs g) h where
  later : IsAmong e xs ⊎ (entry_at low page ≡ e) → IsAmong e (x ∷ xs) ⊎ (entry_at low page ≡ e)
  later (inl g) = inl (inr g)
  later (inr g) = inr g

  first : IsAmong e ((low, page) ∷ x ∷ xs) → IsAmong e (x ∷ xs) ⊎ (entry_at low page ≡ e)
  first (inl g) = inr g
  first (inr g) = inl g

  behind : (IsAmong e (with_entry low page xs) → IsAmong e xs ⊎ (entry_at low page ≡ e)) → IsAmong e (x ∷ with_entry low page xs) → IsAmong e (x ∷ xs) ⊎ (entry_at low page ≡ e)
  behind rest (inl g) = inl (inl g)
  behind rest (inr g) = later (rest g)

  on : (b c : Bool) → (IsAmong e (with_entry low page xs) → IsAmong e xs ⊎ (entry_at low page ≡ e))
      → IsAmong e (cond b ((low, page) ∷ x ∷ xs) (cond c (x ∷ xs) (x ∷ with_entry low page xs))) → IsAmong e (x ∷ xs) ⊎ (entry_at low page ≡ e)
  on true c rest g = first g
  on false true rest g = inl g
  on false false rest g = behind rest g

-- ---- the links of a node

abbrev Named : List Entry → List Entry → List Link → Link → Type 0
Named new old ls l = IsNamed (λ (e : Entry). IsAmong e new) old ls l

one : Inner → Link → List Entry → List Entry
one n l es = cond (goes_to n l) (with_entry l.low l.page es) es

one_keeps : (n : Inner) (l : Link) (e : Entry) (es : List Entry) → IsAmong e es → IsAmong e (one n l es)
unfolding one
one_keeps n l e es h = on (goes_to n l) where
  on : (b : Bool) → IsAmong e (cond b (with_entry l.low l.page es) es)
  on true = keeps e l.low l.page es h
  on false = h

links_keep : (n : Inner) (ls : List Link) (e : Entry) (es : List Entry) → IsAmong e es → IsAmong e (with_links n ls es)
unfolding one
links_keep n [] e es h = h
links_keep n (l ∷ ls) e es h = links_keep n ls e (one n l es) (one_keeps n l e es h)

both_true : (a b : Bool) → (a && b) ≡ true → (a ≡ true) × (b ≡ true)
both_true true b e = (refl, e)
both_true false b e = absurd (cc (e))

goes_level : (n : Inner) (l : Link) → goes_to n l ≡ true → l.level ≡ n.level
goes_level n l e = eqb-true l.level n.level (both_true (l.level == n.level) (nat_le (length l.low) 64 && (not (bytes_below l.low n.low) && below_bound l.low n.high)) e).0

-- two links of one level, low key and page
link_same : (x l : Link) (page : ℕ) → x.level ≡ l.level → entry_at x.low x.page ≡ entry_at l.low page → x ≡ record l { page = page }
link_same x l page e f = made_of x.level x.low x.page e (ap (λ (p : Entry). p.0) f) (ap (λ (p : Entry). p.1) f) where
  link : ℕ → List ℕ → ℕ → Link
  link a b c = record { level = a; low = b; page = c }

  made_of : (a : ℕ) (b : List ℕ) (c : ℕ) → a ≡ l.level → b ≡ l.low → c ≡ page → link a b c ≡ link l.level l.low page
  made_of a b c e f g = ap (λ (m : ℕ). link m b c) e ∙ (ap (λ (k : List ℕ). link l.level k c) f ∙ ap (λ (m : ℕ). link l.level l.low m) g)

-- an entry for a link's low key is that of another link of this level, where it was not there before
one_from : (n : Inner) (x l : Link) (page : ℕ) (es : List Entry) → l.level ≡ n.level → IsAmong (l.low, page) (one n x es)
    → IsAmong (l.low, page) es ⊎ (x ≡ record l { page = page })
unfolding one
one_from n x l page es level h = on (goes_to n x) refl h where
  found : x.level ≡ n.level → IsAmong (l.low, page) es ⊎ (entry_at x.low x.page ≡ entry_at l.low page) → IsAmong (l.low, page) es ⊎ (x ≡ record l { page = page })
  found e (inl g) = inl g
  found e (inr g) = inr (link_same x l page (e ∙ sym level) g)

  on : (b : Bool) → goes_to n x ≡ b → IsAmong (l.low, page) (cond b (with_entry x.low x.page es) es) → IsAmong (l.low, page) es ⊎ (x ≡ record l { page = page })
  on true e g = found (goes_level n x e) (with_from (l.low, page) x.low x.page es g)
  on false e g = inl g

named_here : (n : Inner) (l : Link) (ls : List Link) (es : List Entry) → goes_to n l ≡ true → Named (with_links n (l ∷ ls) es) es (l ∷ ls) l
unfolding one
named_here n l ls es goes = on (has l.low l.page es) where
  put : one n l es ≡ with_entry l.low l.page es
  put = ap (λ (b : Bool). cond b (with_entry l.low l.page es) es) goes

  which : (p : ℕ) → (p ≡ l.page) ⊎ IsAmong (l.low, p) es → IsAmong (l.low, p) es ⊎ IsAmong (record l { page = p }) (l ∷ ls)
  which p (inl e) = inr (inl (ap (λ (m : ℕ). record l { page = m }) (sym e)))
  which p (inr h) = inl h

  on : (p : ℕ) × IsAmong (l.low, p) (with_entry l.low l.page es) × ((p ≡ l.page) ⊎ IsAmong (l.low, p) es) → Named (with_links n (l ∷ ls) es) es (l ∷ ls) l
  on h = (h.0, links_keep n ls (l.low, h.0) (one n l es) (subst (λ (xs : List Entry). IsAmong (l.low, h.0) xs) (sym put) h.1), which h.0 h.2)

pub links_named : (n : Inner) (l : Link) (ls : List Link) (es : List Entry) → goes_to n l ≡ true → IsAmong l ls → Named (with_links n ls es) es ls l
unfolding one
links_named n l [] es goes h = absurd h
links_named n l (x ∷ ls) es goes (inl e) = subst (λ (m : Link). Named (with_links n (x ∷ ls) es) es (x ∷ ls) m) e (named_here n x ls es (ap (goes_to n) e ∙ goes))
links_named n l (x ∷ ls) es goes (inr h) = on (links_named n l ls (one n x es) goes h) where
  which : (p : ℕ) → IsAmong (l.low, p) (one n x es) ⊎ IsAmong (record l { page = p }) ls → IsAmong (l.low, p) es ⊎ IsAmong (record l { page = p }) (x ∷ ls)
  which p (inr g) = inr (inr g)
  which p (inl g) = apart (one_from n x l p es (goes_level n l goes) g) where
    apart : IsAmong (l.low, p) es ⊎ (x ≡ record l { page = p }) → IsAmong (l.low, p) es ⊎ IsAmong (record l { page = p }) (x ∷ ls)
    apart (inl k) = inl k
    apart (inr k) = inr (inl k)

  on : Named (with_links n ls (one n x es)) (one n x es) ls l → Named (with_links n (x ∷ ls) es) es (x ∷ ls) l
  on k = (k.0, k.1, which k.0 k.2)

-- ---- the links of a tree object

one_named : ℕ → Link → Tree → Tree
one_named level l t = cond (is_named level l) (with_child l.low l.page t) t

child_next : (low : List ℕ) (page : ℕ) (t : Tree) → (with_child low page t).next ≡ t.next
child_next low page t = on (nat_lt page t.next) where
  on : (b : Bool) → (cond b (record t { entries = with_entry low page t.entries }) t).next ≡ t.next
  on true = refl
  on false = refl

child_level : (low : List ℕ) (page : ℕ) (t : Tree) → (with_child low page t).level ≡ t.level
child_level low page t = on (nat_lt page t.next) where
  on : (b : Bool) → (cond b (record t { entries = with_entry low page t.entries }) t).level ≡ t.level
  on true = refl
  on false = refl

one_next : (level : ℕ) (l : Link) (t : Tree) → (one_named level l t).next ≡ t.next
unfolding one_named
one_next level l t = on (is_named level l) where
  on : (b : Bool) → (cond b (with_child l.low l.page t) t).next ≡ t.next
  on true = child_next l.low l.page t
  on false = refl

one_level : (level : ℕ) (l : Link) (t : Tree) → (one_named level l t).level ≡ t.level
unfolding one_named
one_level level l t = on (is_named level l) where
  on : (b : Bool) → (cond b (with_child l.low l.page t) t).level ≡ t.level
  on true = child_level l.low l.page t
  on false = refl

pub named_level : (level : ℕ) (ls : List Link) (t : Tree) → (with_named level ls t).level ≡ t.level
unfolding one_named
named_level level [] t = refl
named_level level (l ∷ ls) t = named_level level ls (one_named level l t) ∙ one_level level l t

child_keeps : (e : Entry) (low : List ℕ) (page : ℕ) (t : Tree) → IsAmong e t.entries → IsAmong e (with_child low page t).entries
child_keeps e low page t h = on (nat_lt page t.next) where
  on : (b : Bool) → IsAmong e (cond b (record t { entries = with_entry low page t.entries }) t).entries
  on true = keeps e low page t.entries h
  on false = h

child_from : (e : Entry) (low : List ℕ) (page : ℕ) (t : Tree) → IsAmong e (with_child low page t).entries → IsAmong e t.entries ⊎ (entry_at low page ≡ e)
child_from e low page t h = on (nat_lt page t.next) h where
  on : (b : Bool) → IsAmong e (cond b (record t { entries = with_entry low page t.entries }) t).entries → IsAmong e t.entries ⊎ (entry_at low page ≡ e)
  on true g = with_from e low page t.entries g
  on false g = inl g

named_keep : (level : ℕ) (ls : List Link) (e : Entry) (t : Tree) → IsAmong e t.entries → IsAmong e (with_named level ls t).entries
unfolding one_named
named_keep level [] e t h = h
named_keep level (l ∷ ls) e t h = named_keep level ls e (one_named level l t) (on (is_named level l)) where
  on : (b : Bool) → IsAmong e (cond b (with_child l.low l.page t) t).entries
  on true = child_keeps e l.low l.page t h
  on false = h

named_at : (level : ℕ) (l : Link) → is_named level l ≡ true → l.level ≡ level
named_at level l e = eqb-true l.level level (both_true (l.level == level) (nat_le (length l.low) 64) e).0

one_named_from : (level : ℕ) (x l : Link) (page : ℕ) (t : Tree) → l.level ≡ level → IsAmong (l.low, page) (one_named level x t).entries
    → IsAmong (l.low, page) t.entries ⊎ (x ≡ record l { page = page })
unfolding one_named
one_named_from level x l page t same h = on (is_named level x) refl h where
  found : x.level ≡ level → IsAmong (l.low, page) t.entries ⊎ (entry_at x.low x.page ≡ entry_at l.low page) → IsAmong (l.low, page) t.entries ⊎ (x ≡ record l { page = page })
  found e (inl g) = inl g
  found e (inr g) = inr (link_same x l page (e ∙ sym same) g)

  on : (b : Bool) → is_named level x ≡ b → IsAmong (l.low, page) (cond b (with_child x.low x.page t) t).entries
      → IsAmong (l.low, page) t.entries ⊎ (x ≡ record l { page = page })
  on true e g = found (named_at level x e) (child_from (l.low, page) x.low x.page t g)
  on false e g = inl g

child_here : (low : List ℕ) (page : ℕ) (t : Tree) → page < t.next → (with_child low page t).entries ≡ with_entry low page t.entries
child_here low page t under = ap (λ (b : Bool). (cond b (record t { entries = with_entry low page t.entries }) t).entries) (lt-ltb page t.next under)

root_here : (level : ℕ) (l : Link) (ls : List Link) (t : Tree) → is_named level l ≡ true → l.page < t.next
    → Named (with_named level (l ∷ ls) t).entries t.entries (l ∷ ls) l
unfolding one_named
root_here level l ls t is under = on (has l.low l.page t.entries) where
  put : (one_named level l t).entries ≡ with_entry l.low l.page t.entries
  put = ap (λ (b : Bool). (cond b (with_child l.low l.page t) t).entries) is ∙ child_here l.low l.page t under

  which : (p : ℕ) → (p ≡ l.page) ⊎ IsAmong (l.low, p) t.entries → IsAmong (l.low, p) t.entries ⊎ IsAmong (record l { page = p }) (l ∷ ls)
  which p (inl e) = inr (inl (ap (λ (m : ℕ). record l { page = m }) (sym e)))
  which p (inr h) = inl h

  on : (p : ℕ) × IsAmong (l.low, p) (with_entry l.low l.page t.entries) × ((p ≡ l.page) ⊎ IsAmong (l.low, p) t.entries)
      → Named (with_named level (l ∷ ls) t).entries t.entries (l ∷ ls) l
  on h = (h.0, named_keep level ls (l.low, h.0) (one_named level l t) (subst (λ (xs : List Entry). IsAmong (l.low, h.0) xs) (sym put) h.1), which h.0 h.2)

pub root_named : (level : ℕ) (l : Link) (ls : List Link) (t : Tree) → is_named level l ≡ true → l.page < t.next → IsAmong l ls
    → Named (with_named level ls t).entries t.entries ls l
unfolding one_named
root_named level l [] t is under h = absurd h
root_named level l (x ∷ ls) t is under (inl e) =
    subst (λ (m : Link). Named (with_named level (x ∷ ls) t).entries t.entries (x ∷ ls) m) e
    (root_here level x ls t (ap (is_named level) e ∙ is) (subst (λ (m : Link). m.page < t.next) (sym e) under))
root_named level l (x ∷ ls) t is under (inr h) =
    on (root_named level l ls (one_named level x t) is (subst (λ (n : ℕ). l.page < n) (sym (one_next level x t)) under) h) where
      apart : (p : ℕ) → IsAmong (l.low, p) t.entries ⊎ (x ≡ record l { page = p }) → IsAmong (l.low, p) t.entries ⊎ IsAmong (record l { page = p }) (x ∷ ls)
      apart p (inl k) = inl k
      apart p (inr k) = inr (inl k)

      which : (p : ℕ) → IsAmong (l.low, p) (one_named level x t).entries ⊎ IsAmong (record l { page = p }) ls
          → IsAmong (l.low, p) t.entries ⊎ IsAmong (record l { page = p }) (x ∷ ls)
      which p (inr g) = inr (inr g)
      which p (inl g) = apart p (one_named_from level x l p t (named_at level l is) g)

      on : Named (with_named level ls (one_named level x t)).entries (one_named level x t).entries ls l → Named (with_named level (x ∷ ls) t).entries t.entries (x ∷ ls) l
      on k = (k.0, k.1, which k.0 k.2)

-- ---- the pieces

puts_back : (level : ℕ) (e : Entry) (xs ys : List PagePut) → PutsEntry level e ys → PutsEntry level e (xs ++ ys)
puts_back level e [] ys h = h
puts_back level e (x ∷ xs) ys h = inr (puts_back level e xs ys h)

puts_front : (level : ℕ) (e : Entry) (xs ys : List PagePut) → PutsEntry level e xs → PutsEntry level e (xs ++ ys)
puts_front level e [] ys h = absurd h
puts_front level e (x ∷ xs) ys (inl h) = inl h
puts_front level e (x ∷ xs) ys (inr h) = inr (puts_front level e xs ys h)

puts_turned : (level : ℕ) (e : Entry) (xs : List PagePut) → PutsEntry level e xs → PutsEntry level e (reverse xs)
puts_turned level e [] h = absurd h
puts_turned level e (x ∷ xs) (inl h) = subst (PutsEntry level e) (sym (reverse_onto xs x [])) (puts_back level e (reverse xs) (x ∷ []) (inl h))
puts_turned level e (x ∷ xs) (inr h) =
    subst (PutsEntry level e) (sym (reverse_onto xs x [])) (puts_front level e (reverse xs) (x ∷ []) (puts_turned level e xs h))

puts_piece : (level : ℕ) (e : Entry) (page free : ℕ) (ps : List NodePart) → AllByRecursion (λ (p : NodePart). p.common ≡ level) ps → IsAmong e (flat_map (λ (p : NodePart). p.items) ps)
    → PutsEntry level e (map (put_of node_bytes) (on_pages page free ps))
puts_piece level e page free [] all h = absurd h
puts_piece level e page free (p ∷ ps) all h =
    on (among_either e p.items (flat_map (λ (q : NodePart). q.items) ps) h) (λ g. puts_piece level e free (free + 1) ps all.1 g) where
      on : IsAmong e p.items ⊎ IsAmong e (flat_map (λ (q : NodePart). q.items) ps)
          → (IsAmong e (flat_map (λ (q : NodePart). q.items) ps) → PutsEntry level e (map (put_of node_bytes) (on_pages free (free + 1) ps)))
          → PutsEntry level e (map (put_of node_bytes) (on_pages page free (p ∷ ps)))
      on (inl g) rest = inl (p, refl, all.0, g)
      on (inr g) rest = inr (rest g)

-- pieces that are put have the entries of the whole
cut_puts : (e : Entry) (page first free : ℕ) (whole : NodePart) (ps : List NodePart) → IsCut entry_key free whole ps → IsAmong e whole.items
    → PutsEntry whole.common e (reverse (map (put_of node_bytes) (on_pages page first ps)))
cut_puts e page first free whole ps cut h =
    puts_turned whole.common e (map (put_of node_bytes) (on_pages page first ps))
    (puts_piece whole.common e page first ps cut.common (subst (λ (xs : List Entry). IsAmong e xs) (sym cut.items) h))

-- what is put for a node names each link that goes to it
pub goes : (n : Inner) (l : Link) → IsInRange n l → goes_to n l ≡ true
goes n l k =
    ap (λ (m : ℕ). (m == n.level) && (nat_le (length l.low) 64 && (not (bytes_below l.low n.low) && below_bound l.low n.high))) k.level
    ∙ (ap (λ (b : Bool). b && (nat_le (length l.low) 64 && (not (bytes_below l.low n.low) && below_bound l.low n.high))) (eq-eqb n.level n.level refl)
    ∙ (ap (λ (b : Bool). b && (not (bytes_below l.low n.low) && below_bound l.low n.high)) (le-leb (length l.low) 64 k.short)
    ∙ (ap (λ (b : Bool). not b && below_bound l.low n.high) k.from ∙ k.to)))

pub node_names : (root : Tree) (page : ℕ) (n : Inner) (ls : List Link) (placing : Placing) (entries : List NewEntry) (l : Link)
    → PutsPieces (form_of entry_key node_bytes) root page (part_of_node (linked_node n ls)) placing entries → IsInRange n l → IsAmong l ls
    → IsNamed (λ (e : Entry). PutsEntry n.level e placing.puts) n.entries ls l
node_names root page n ls placing entries l put k h = on (links_named n l ls n.entries (goes n l k) h) where
  on : Named (with_links n ls n.entries) n.entries ls l → IsNamed (λ (e : Entry). PutsEntry n.level e placing.puts) n.entries ls l
  on m = (
    m.0,
    subst (PutsEntry n.level (l.low, m.0)) (sym put.puts)
        (cut_puts (l.low, m.0) page put.first put.first (part_of_node (linked_node n ls)) put.pieces put.cut m.1),
    m.2,
  )

-- and so does what is put for the tree object
pub root_names : (root : Tree) (ls : List Link) (top : List (ℕ × ℕ)) (p : RootPlan) (l : Link) → PutsRoot root (raised_root root ls top) p → IsOfRoot root l → IsAmong l ls
    → IsNamed (HasRisen l.level p) root.entries ls l
root_names root ls top p l put k h = on (root_named root.level l ls start named k.page h) where
  start : Tree
  start = record (record root { version = root.version + 1 }) { cursor = raised root.cursor top }

  named : is_named root.level l ≡ true
  named = ap (λ (b : Bool). b && nat_le (length l.low) 64) (ap (λ (m : ℕ). m == root.level) k.level ∙ eq-eqb root.level root.level refl) ∙ le-leb (length l.low) 64 k.short

  t : Tree
  t = raised_root root ls top

  level : t.level ≡ l.level
  level = named_level root.level ls start ∙ sym k.level

  has_it : (e : Entry) → IsAmong e t.entries → PutsRoot root t p → HasRisen l.level p e
  has_it e g (inl w) = inl (t, w.1.1, level, g)
  has_it e g (inr w) =
      inr (subst (λ (m : ℕ). PutsEntry m e p.placing.puts) level
      (subst (PutsEntry t.level e) (sym w.2.puts) (cut_puts e t.next (t.next + 1) (t.next + 1) (part_of_node (node_of_root t)) w.2.pieces w.2.cut g)))

  on : Named (with_named root.level ls start).entries root.entries ls l → IsNamed (HasRisen l.level p) root.entries ls l
  on m = (m.0, has_it (l.low, m.0) m.1 put, m.2)

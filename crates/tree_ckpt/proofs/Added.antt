-- How many entries links add to a node or a tree object: at most as many as they have low keys.
use Rattle.std.proofs.Common.{◌≡◌, ◌≤◌, ◌+◌, ℕ, Bool, true, false, cond, List, [], ◌∷◌, length, refl, sym, ap, ◌∙◌, inl, inr, arith}
use Rattle.std.specs.Prelude.{nat_lt}
use Rattle.byte_format.specs.Order.{bytes_below, bytes_same}
use Rattle.byte_format.proofs.OrderLemmas.{same_itself}
use Rattle.leaf_edit.proofs.Ascends.{below_trans}
use Rattle.node_codec.specs.Inner.{Inner}
use Rattle.node_codec.specs.Node.{Entry, with_entry}
use Rattle.node_codec.specs.Tree.{Tree, with_child}
use Rattle.tree_phases.specs.Nodes.{goes_to, with_links}
use Rattle.tree_phases.specs.Root.{is_named, with_named}
use Rattle.tree_ckpt.specs.Working.{IsAmong}
use Rattle.tree_ckpt.proofs.Words.{Link}
use Rattle.tree_ckpt.proofs.Keys.{not_itself}

-- the entry of a low key would be a new one
abbrev is_new : List ℕ → List Entry → Bool
is_new low [] = true
is_new low (e ∷ es) = cond (bytes_below low e.0) true (cond (bytes_same low e.0) false (is_new low es))

abbrev one_if : Bool → ℕ
one_if b = cond b 1 0

added_is : (low : List ℕ) (page : ℕ) (es : List Entry) → length (with_entry low page es) ≡ length es + one_if (is_new low es)
added_is low page [] = refl
added_is low page (e ∷ es) = on (bytes_below low e.0) (bytes_same low e.0) (added_is low page es) where
  on : (b c : Bool) → length (with_entry low page es) ≡ length es + one_if (is_new low es)
      → length (cond b ((low, page) ∷ e ∷ es) (cond c (e ∷ es) (e ∷ with_entry low page es))) ≡ length (e ∷ es) + one_if (cond b true (cond c false (is_new low es)))
  on true c rest = omega arith
  on false true rest = omega arith
  on false false rest = omega (arith, rest)

-- behind it the low key is there
known_in_front : (low : List ℕ) (page : ℕ) (es : List Entry) → is_new low ((low, page) ∷ es) ≡ false
known_in_front low page es = on (bytes_below low low) (not_itself low) (bytes_same low low) (same_itself low) where
  on : (b : Bool) → b ≡ false → (c : Bool) → c ≡ true → cond b true (cond c false (is_new low es)) ≡ false
  on true e c f = absurd (cc (e))
  on false e true f = refl
  on false e false f = absurd (cc (f))

known_behind : (low : List ℕ) (page : ℕ) (es : List Entry) → is_new low (with_entry low page es) ≡ false
known_behind low page [] = known_in_front low page []
known_behind low page (e ∷ es) = on (bytes_below low e.0) refl (bytes_same low e.0) refl (known_behind low page es) where
  on : (b : Bool) → bytes_below low e.0 ≡ b → (c : Bool) → bytes_same low e.0 ≡ c → is_new low (with_entry low page es) ≡ false
      → is_new low (cond b ((low, page) ∷ e ∷ es) (cond c (e ∷ es) (e ∷ with_entry low page es))) ≡ false
  on true f c g rest = known_in_front low page (e ∷ es)
  on false f true g rest =
      ap (λ (b : Bool). cond b true (cond (bytes_same low e.0) false (is_new low es))) f ∙ ap (λ (b : Bool). cond b false (is_new low es)) g
  on false f false g rest =
      ap (λ (b : Bool). cond b true (cond (bytes_same low e.0) false (is_new low (with_entry low page es)))) f
      ∙ (ap (λ (b : Bool). cond b false (is_new low (with_entry low page es))) g ∙ rest)

-- and so is each that was there
known_stays : (key low : List ℕ) (page : ℕ) (es : List Entry) → is_new key es ≡ false → is_new key (with_entry low page es) ≡ false
known_stays key low page [] known = absurd (cc (known))
known_stays key low page (e ∷ es) known =
    on (bytes_below low e.0) refl (bytes_same low e.0) (bytes_below key e.0) refl (bytes_same key e.0) refl known (λ there. known_stays key low page es there) where
      -- it is not below one that stands in front of those that it is not below
      in_front : (b : Bool) → bytes_below key low ≡ b → bytes_below low e.0 ≡ true → bytes_below key e.0 ≡ false → b ≡ false
      in_front true under less least = absurd (let chain : bytes_below key e.0 ≡ true = below_trans key low e.0 under less in cc (chain, least))
      in_front false under less least = refl

      on : (b : Bool) → bytes_below low e.0 ≡ b → (c u : Bool) → bytes_below key e.0 ≡ u → (v : Bool) → bytes_same key e.0 ≡ v
          → cond u true (cond v false (is_new key es)) ≡ false → (is_new key es ≡ false → is_new key (with_entry low page es) ≡ false)
          → is_new key (cond b ((low, page) ∷ e ∷ es) (cond c (e ∷ es) (e ∷ with_entry low page es))) ≡ false
      on b f c true least v g here rest = absurd (cc (here))
      on true f c false least v g here rest =
          let under : bytes_below key low ≡ false = in_front (bytes_below key low) refl f least in
          ap (λ (w : Bool). cond w true (cond (bytes_same key low) false (is_new key (e ∷ es)))) under ∙ same_or (bytes_same key low) known
        where
          same_or : (w : Bool) → is_new key (e ∷ es) ≡ false → cond w false (is_new key (e ∷ es)) ≡ false
          same_or true there = refl
          same_or false there = there
      on false f true false least v g here rest = known
      on false f false false least true g here rest =
          ap (λ (w : Bool). cond w true (cond (bytes_same key e.0) false (is_new key (with_entry low page es)))) least
          ∙ ap (λ (w : Bool). cond w false (is_new key (with_entry low page es))) g
      on false f false false least false g here rest =
          ap (λ (w : Bool). cond w true (cond (bytes_same key e.0) false (is_new key (with_entry low page es)))) least
          ∙ (ap (λ (w : Bool). cond w false (is_new key (with_entry low page es))) g ∙ rest here)

-- ---- how many of some low keys are new

abbrev new_among : List (List ℕ) → List Entry → ℕ
new_among [] es = 0
new_among (low ∷ lows) es = one_if (is_new low es) + new_among lows es

few_new : (lows : List (List ℕ)) (es : List Entry) → new_among lows es ≤ length lows
few_new [] es = omega arith
few_new (low ∷ lows) es = on (is_new low es) (few_new lows es) where
  on : (b : Bool) → new_among lows es ≤ length lows → one_if b + new_among lows es ≤ length (low ∷ lows)
  on true rest = omega (arith, rest)
  on false rest = omega (arith, rest)

one_fewer : (b c : Bool) → (b ≡ false → c ≡ false) → one_if c ≤ one_if b
one_fewer true true h = omega arith
one_fewer true false h = omega arith
one_fewer false true h = absurd (let e : true ≡ false = h refl in cc (e))
one_fewer false false h = omega arith

fewer_new : (low : List ℕ) (page : ℕ) (lows : List (List ℕ)) (es : List Entry) → new_among lows (with_entry low page es) ≤ new_among lows es
fewer_new low page [] es = omega arith
fewer_new low page (key ∷ lows) es =
    let rest = fewer_new low page lows es in
    let here = one_fewer (is_new key es) (is_new key (with_entry low page es)) (known_stays key low page es) in
    omega (arith, rest, here)

-- a new entry of one of them makes one fewer
added_few : (low : List ℕ) (page : ℕ) (lows : List (List ℕ)) (es : List Entry) → IsAmong low lows
    → one_if (is_new low es) + new_among lows (with_entry low page es) ≤ new_among lows es
added_few low page [] es is = absurd is
added_few low page (key ∷ lows) es (inl same) =
    let rest = fewer_new low page lows es in
    let known : one_if (is_new key (with_entry low page es)) ≡ 0 =
    ap (λ (k : List ℕ). one_if (is_new k (with_entry low page es))) same ∙ ap one_if (known_behind low page es) in
    let own : one_if (is_new low es) ≡ one_if (is_new key es) = ap (λ (k : List ℕ). one_if (is_new k es)) (sym same) in
    omega (arith, rest, known, own)
added_few low page (key ∷ lows) es (inr is) =
    let rest = added_few low page lows es is in
    let here = one_fewer (is_new key es) (is_new key (with_entry low page es)) (known_stays key low page es) in
    omega (arith, rest, here)

entry_adds : (low : List ℕ) (page : ℕ) (lows : List (List ℕ)) (es : List Entry) → IsAmong low lows
    → length (with_entry low page es) + new_among lows (with_entry low page es) ≤ length es + new_among lows es
entry_adds low page lows es is =
    let many = added_is low page es in
    let few = added_few low page lows es is in
    omega (arith, many, few)

-- ---- links

-- the low keys of links are among these
abbrev pub AreWithin : List (List ℕ) → List Link → Type 0
AreWithin lows ls = (l : Link) → IsAmong l ls → IsAmong l.low lows

links_add : (n : Inner) (lows : List (List ℕ)) (ls : List Link) (es : List Entry) → AreWithin lows ls
    → length (with_links n ls es) + new_among lows (with_links n ls es) ≤ length es + new_among lows es
links_add n lows [] es within = omega arith
links_add n lows (l ∷ ls) es within = on (goes_to n l) (λ fs. links_add n lows ls fs (λ m is. within m (inr is))) where
  on : (b : Bool) → ((fs : List Entry) → length (with_links n ls fs) + new_among lows (with_links n ls fs) ≤ length fs + new_among lows fs)
      → length (with_links n ls (cond b (with_entry l.low l.page es) es)) + new_among lows (with_links n ls (cond b (with_entry l.low l.page es) es)) ≤ length es + new_among lows es
  on true rest =
      let more = rest (with_entry l.low l.page es) in
      let one = entry_adds l.low l.page lows es (within l (inl refl)) in
      omega (arith, more, one)
  on false rest = rest es

-- a node with links has at most as many entries more as these have low keys
pub node_entries : (n : Inner) (lows : List (List ℕ)) (ls : List Link) → AreWithin lows ls → length (with_links n ls n.entries) ≤ length n.entries + length lows
node_entries n lows ls within =
    let added = links_add n lows ls n.entries within in
    let few = few_new lows n.entries in
    omega (arith, added, few)

child_adds : (low : List ℕ) (page : ℕ) (lows : List (List ℕ)) (t : Tree) → IsAmong low lows
    → length (with_child low page t).entries + new_among lows (with_child low page t).entries ≤ length t.entries + new_among lows t.entries
child_adds low page lows t is = on (nat_lt page t.next) where
  on : (b : Bool)
      → length (cond b (record t { entries = with_entry low page t.entries }) t).entries + new_among lows (cond b (record t { entries = with_entry low page t.entries }) t).entries
      ≤ length t.entries + new_among lows t.entries
  on true = entry_adds low page lows t.entries is
  on false = omega arith

named_add : (level : ℕ) (lows : List (List ℕ)) (ls : List Link) (t : Tree) → AreWithin lows ls
    → length (with_named level ls t).entries + new_among lows (with_named level ls t).entries ≤ length t.entries + new_among lows t.entries
named_add level lows [] t within = omega arith
named_add level lows (l ∷ ls) t within = on (is_named level l) (λ u. named_add level lows ls u (λ m is. within m (inr is))) where
  on : (b : Bool) → ((u : Tree) → length (with_named level ls u).entries + new_among lows (with_named level ls u).entries ≤ length u.entries + new_among lows u.entries)
      → length (with_named level ls (cond b (with_child l.low l.page t) t)).entries + new_among lows (with_named level ls (cond b (with_child l.low l.page t) t)).entries
      ≤ length t.entries + new_among lows t.entries
  on true rest =
      let more = rest (with_child l.low l.page t) in
      let one = child_adds l.low l.page lows t (within l (inl refl)) in
      omega (arith, more, one)
  on false rest = rest t

-- so has a tree object
pub root_entries : (level : ℕ) (lows : List (List ℕ)) (ls : List Link) (t : Tree) → AreWithin lows ls → length (with_named level ls t).entries ≤ length t.entries + length lows
root_entries level lows ls t within =
    let added = named_add level lows ls t within in
    let few = few_new lows t.entries in
    omega (arith, added, few)

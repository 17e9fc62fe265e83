-- The list of noted changes, and the map of a buffer that is seen as it.
use Rattle.std.proofs.Common.{◌≡◌, ℕ, zero, suc, ◌+◌, ◌≤◌, ◌<◌, Bool, true, false, ◌&&◌, cond, nat_eq, List, [], ◌∷◌, length, map, Option, Some, None, is_some, refl, sym, ap, ◌∙◌, subst, arith}
use Rattle.std.specs.Str.{bytes_eq}
use Rattle.std.specs.Bool.{Decides}
use Rattle.std.specs.List.{position_from, slice_get}
use Rattle.std.proofs.lemmas.Iterator.Adapters.{position_from-zero}
use Rattle.std.specs.Map.{keys_of, lookup}
use Rattle.std.proofs.lemmas.List.{length-map}
use Rattle.std.proofs.lemmas.Bool.Decides.{Decides-and, Decides-eqb}
use Rattle.std.proofs.lemmas.Slice.Eq.{bytes_eq-Decides}
use Rattle.indexmap.specs.IndexMap.{IndexMap, index_of_by, insert_entry, spare, values, with_entries, with_value_at}
use Rattle.db_base.specs.Change.{key_of, net}
use Rattle.db_base.specs.declared.change.Change.{Change}
use Rattle.db_base.specs.declared.change.Change.TheVariants.{Insert, Update, Delete, Add}
use Rattle.txn_buffer.specs.Noted.{Noted, is_of, found_in, noted_in, AreDistinct, AreNoted}
use Rattle.txn_buffer.specs.Kept.{noted_of, KeyMatches, KeysMatch, IsKept, joined_to}
use Rattle.txn_buffer.specs.declared.noted_key.NotedKey.{NotedKey}

-- a test of tree and key says that both are the entry's
pub is_of-Decides : (tree : ℕ) (key : List ℕ) (entry : Noted) → Decides (is_of tree key entry) ((tree ≡ entry.tree) × (key ≡ key_of entry.change))
is_of-Decides tree key entry = Decides-and _ _ (Decides-eqb tree entry.tree) (bytes_eq-Decides key (key_of entry.change))

-- a net change is of the key of both
pub key_of-net : (first second : Change) → key_of first ≡ key_of second → key_of (net first second) ≡ key_of second
key_of-net first (Insert key payload attr) h = refl
key_of-net (Insert old other attr) (Update key payload) h = h
key_of-net (Update old other) (Update key payload) h = h
key_of-net (Delete old) (Update key payload) h = h
key_of-net (Add old amount) (Update key payload) h = refl
key_of-net first (Delete key) h = refl
key_of-net (Insert old payload attr) (Add key amount) h = h
key_of-net (Update old payload) (Add key amount) h = h
key_of-net (Delete old) (Add key amount) h = h
key_of-net (Add old amount) (Add key more) h = h

-- what is found is of the key
pub key_of-found : (list : List Noted) (tree : ℕ) (key : List ℕ) (change : Change) → found_in list tree key ≡ Some change → key_of change ≡ key
key_of-found [] tree key change h = cc
key_of-found (entry ∷ rest) tree key change h = on (is_of tree key entry) refl h (key_of-found rest tree key change)
  where
    on : (b : Bool) → is_of tree key entry ≡ b → cond b (Some entry.change) (found_in rest tree key) ≡ Some change
        → (found_in rest tree key ≡ Some change → key_of change ≡ key) → key_of change ≡ key
    on true here same later =
        let is : entry.change ≡ change = cc in
        ap key_of (sym is) ∙ sym ((is_of-Decides tree key entry).0 here).1
    on false here same later = later same

-- an entry that is not of this tree and key is none of them
not_of : (entry : Noted) (tree : ℕ) (key : List ℕ) → ((tree ≡ entry.tree) × (key ≡ key_of entry.change) → ⊥) → is_of tree key entry ≡ false
not_of entry tree key other = on (is_of tree key entry) refl
  where
    on : (b : Bool) → is_of tree key entry ≡ b → is_of tree key entry ≡ false
    on true here = absurd (other ((is_of-Decides tree key entry).0 here))
    on false here = here

-- an entry that is not of this tree and key is passed over
passes : (entry : Noted) (rest : List Noted) (tree : ℕ) (key : List ℕ) → ((tree ≡ entry.tree) × (key ≡ key_of entry.change) → ⊥)
    → found_in (entry ∷ rest) tree key ≡ found_in rest tree key
passes entry rest tree key other = ap (λ (b : Bool). cond b (Some entry.change) (found_in rest tree key)) (not_of entry tree key other)

-- noting one tree and key leaves what is found of another
found_still : (list : List Noted) (tree : ℕ) (change : Change) (other : ℕ) (key : List ℕ) → ((other ≡ tree) × (key ≡ key_of change) → ⊥)
    → found_in (noted_in list tree change) other key ≡ found_in list other key
found_still [] tree change other key apart = passes (record { tree = tree; change = change }) [] other key apart
found_still (entry ∷ rest) tree change other key apart =
    on (is_of tree (key_of change) entry) refl (found_still rest tree change other key apart)
  where
    on : (b : Bool) → is_of tree (key_of change) entry ≡ b → found_in (noted_in rest tree change) other key ≡ found_in rest other key
        → found_in (cond b (record { tree = entry.tree; change = net entry.change change } ∷ rest) (entry ∷ noted_in rest tree change)) other key
        ≡ found_in (entry ∷ rest) other key
    on true here deep =
        let same = (is_of-Decides tree (key_of change) entry).0 here in
        passes (record { tree = entry.tree; change = net entry.change change }) rest other key
        (λ h. apart (h.0 ∙ sym same.0, h.1 ∙ key_of-net entry.change change (sym same.1)))
        ∙ sym (passes entry rest other key (λ h. apart (h.0 ∙ sym same.0, h.1 ∙ sym same.1)))
    on false here deep = ap (λ (o : Option Change). cond (is_of other key entry) (Some entry.change) o) deep

-- noting one tree and key brings no other
stays_new : (list : List Noted) (tree : ℕ) (change : Change) (other : ℕ) (key : List ℕ) → ((other ≡ tree) × (key ≡ key_of change) → ⊥)
    → found_in list other key ≡ None → found_in (noted_in list tree change) other key ≡ None
stays_new list tree change other key apart none = found_still list tree change other key apart ∙ none

-- noting keeps trees and keys apart
pub AreDistinct-noted : (list : List Noted) (tree : ℕ) (change : Change) → AreDistinct list → AreDistinct (noted_in list tree change)
AreDistinct-noted [] tree change apart = (refl, tt)
AreDistinct-noted (entry ∷ rest) tree change apart = on (is_of tree (key_of change) entry) refl (AreDistinct-noted rest tree change apart.1)
  where
    on : (b : Bool) → is_of tree (key_of change) entry ≡ b → AreDistinct (noted_in rest tree change)
        → AreDistinct (cond b (record { tree = entry.tree; change = net entry.change change } ∷ rest) (entry ∷ noted_in rest tree change))
    on true here later =
        let same = (is_of-Decides tree (key_of change) entry).0 here in
        let key : key_of (net entry.change change) ≡ key_of entry.change = key_of-net entry.change change (sym same.1) ∙ same.1 in
        (ap (found_in rest entry.tree) key ∙ apart.0, apart.1)
    on false here later =
        let other : (entry.tree ≡ tree) × (key_of entry.change ≡ key_of change) → ⊥ =
        λ h. let bad : true ≡ false = sym ((is_of-Decides tree (key_of change) entry).1 (sym h.0, sym h.1)) ∙ here in cc in
        (stays_new rest tree change entry.tree (key_of entry.change) other apart.0, later)

-- noting adds an entry exactly where its tree and key are new
pub length-noted : (list : List Noted) (tree : ℕ) (change : Change)
    → length (noted_in list tree change) ≡ cond (is_some (found_in list tree (key_of change))) (length list) (length list + 1)
length-noted [] tree change = refl
length-noted (entry ∷ rest) tree change = on (is_of tree (key_of change) entry) (found_in rest tree (key_of change)) (length-noted rest tree change)
  where
    on : (b : Bool) (o : Option Change) → length (noted_in rest tree change) ≡ cond (is_some o) (length rest) (length rest + 1)
        → length (cond b (record { tree = entry.tree; change = net entry.change change } ∷ rest) (entry ∷ noted_in rest tree change))
        ≡ cond (is_some (cond b (Some entry.change) o)) (length (entry ∷ rest)) (length (entry ∷ rest) + 1)
    on true o later = refl
    on false None later = omega arith
    on false (Some first) later = omega arith

-- how many entries noting two changes of different trees adds: one for each whose tree and key are new
pub length-both : (list : List Noted) (tree : ℕ) (change : Change) (other_tree : ℕ) (other : Change) → (tree ≡ other_tree → ⊥)
    → length (noted_in (noted_in list tree change) other_tree other)
    ≡ length list + (cond (is_some (found_in list tree (key_of change))) 0 1 + cond (is_some (found_in list other_tree (key_of other))) 0 1)
length-both list tree change other_tree other apart =
    on (found_in list tree (key_of change)) (found_in list other_tree (key_of other)) (found_in (noted_in list tree change) other_tree (key_of other))
    (found_still list tree change other_tree (key_of other) (λ h. apart (sym h.0))) (length-noted list tree change) (length-noted (noted_in list tree change) other_tree other)
  where
    on : (one two more : Option Change) → more ≡ two → length (noted_in list tree change) ≡ cond (is_some one) (length list) (length list + 1)
        → length (noted_in (noted_in list tree change) other_tree other) ≡ cond (is_some more) (length (noted_in list tree change)) (length (noted_in list tree change) + 1)
        → length (noted_in (noted_in list tree change) other_tree other) ≡ length list + (cond (is_some one) 0 1 + cond (is_some two) 0 1)
    on None None None same first second = omega arith
    on None (Some y) (Some z) same first second = omega arith
    on (Some x) None None same first second = omega arith
    on (Some x) (Some y) (Some z) same first second = omega arith
    on one None (Some z) same first second = absurd cc
    on one (Some y) None same first second = absurd cc

-- noting where there is room, or where the tree and key are there, keeps a buffer's list
pub AreNoted-noted : (list : List Noted) (tree : ℕ) (change : Change) → AreNoted list
    → (found_in list tree (key_of change) ≡ None → length list < 200) → AreNoted (noted_in list tree change)
AreNoted-noted list tree change noted room = record {
  most = on (found_in list tree (key_of change)) refl (length-noted list tree change);
  distinct = AreDistinct-noted list tree change noted.distinct;
}
  where
    on : (o : Option Change) → found_in list tree (key_of change) ≡ o
        → length (noted_in list tree change) ≡ cond (is_some o) (length list) (length list + 1) → length (noted_in list tree change) ≤ 200
    on None none long = let few : length list < 200 = room none in omega arith
    on (Some first) there long = let few : length list ≤ 200 = noted.most in omega arith

-- whether two keys of the map are one
abbrev pub same_key : NotedKey → NotedKey → Bool
same_key one two = nat_eq one.tree two.tree && bytes_eq one.key.items two.key.items

-- a key of the map tests an entry as its tree and key test the noted change
same_is_of : (k : NotedKey) (e : NotedKey × Change) → e.0.key.items ≡ key_of e.1 → same_key k e.0 ≡ is_of k.tree k.key.items (noted_of e)
same_is_of k e key = ap (λ (bytes : List ℕ). nat_eq k.tree e.0.tree && bytes_eq k.key.items bytes) key

-- a look-up in the map is the look-up in the list
pub found : (k : NotedKey) (es : List (NotedKey × Change)) → KeysMatch es → lookup (same_key k) es ≡ found_in (map noted_of es) k.tree k.key.items
found k [] keys = refl
found k (e ∷ es) keys =
    ap (λ (b : Bool). cond b (Some e.1) (lookup (same_key k) es)) (same_is_of k e keys.0.0)
    ∙ ap (λ (o : Option Change). cond (is_of k.tree k.key.items (noted_of e)) (Some e.1) o) (found k es keys.1)

-- bytes that are too long for a key are not found
pub too_long : (tree : ℕ) (key : List ℕ) (es : List (NotedKey × Change)) → KeysMatch es → 64 < length key → found_in (map noted_of es) tree key ≡ None
too_long tree key [] keys long = refl
too_long tree key (e ∷ es) keys long =
    passes (noted_of e) (map noted_of es) tree key
    (λ h. let same : length key ≡ length e.0.key.items = ap length (h.1 ∙ sym keys.0.0) in let short : length e.0.key.items ≤ 64 = keys.0.1 in absurd (omega arith))
    ∙ too_long tree key es keys.1 long

-- storing the joined change in the map is noting it in the list
pub inserted : (k : NotedKey) (es : List (NotedKey × Change)) (change : Change) → KeysMatch es → k.key.items ≡ key_of change
    → map noted_of (insert_entry same_key es k (joined_to (found_in (map noted_of es) k.tree (key_of change)) change)) ≡ noted_in (map noted_of es) k.tree change
inserted k [] change keys key = refl
inserted k (e ∷ es) change keys key =
    on (is_of k.tree (key_of change) (noted_of e)) (same_key k e.0)
    (same_is_of k e keys.0.0 ∙ ap (λ (bytes : List ℕ). is_of k.tree bytes (noted_of e)) key) (inserted k es change keys.1 key)
  where
    on : (b s : Bool) → s ≡ b
        → map noted_of (insert_entry same_key es k (joined_to (found_in (map noted_of es) k.tree (key_of change)) change)) ≡ noted_in (map noted_of es) k.tree change
        → map noted_of (cond s ((e.0, joined_to (cond b (Some e.1) (found_in (map noted_of es) k.tree (key_of change))) change) ∷ es)
        (e ∷ insert_entry same_key es k (joined_to (cond b (Some e.1) (found_in (map noted_of es) k.tree (key_of change))) change)))
        ≡ cond b (record { tree = e.0.tree; change = net e.1 change } ∷ map noted_of es) (noted_of e ∷ noted_in (map noted_of es) k.tree change)
    on true true same rest = refl
    on false false same rest = ap (λ (l : List Noted). noted_of e ∷ l) rest
    on true false same rest = cc
    on false true same rest = cc

later : (t : NotedKey → Bool) (ks : List NotedKey) (start n : ℕ) → position_from t start ks ≡ Some n → start ≤ n
later t [] start n h = absurd cc
later t (k ∷ ks) start n h = on (t k) h (λ h. later t ks (start + 1) n h)
  where
    on : (b : Bool) → cond b (Some start) (position_from t (start + 1) ks) ≡ Some n → (position_from t (start + 1) ks ≡ Some n → start + 1 ≤ n) → start ≤ n
    on true h deep = let is : start ≡ n = cc in omega (arith, is)
    on false h deep = let more : start + 1 ≤ n = deep h in omega (arith, more)

-- the entries with the value at an index written
written : {S : Type 0} → IndexMap NotedKey Change S → List (NotedKey × Change) → ℕ → Change → List (NotedKey × Change)
written m es i w = (with_value_at (with_entries m es) i w).entries

-- to write the value at the index of a key is to store it there
at_place : {S : Type 0} (m : IndexMap NotedKey Change S) (k : NotedKey) (es : List (NotedKey × Change)) (start i : ℕ) (w : Change)
    → position_from (same_key k) start (keys_of es) ≡ Some (start + i) → written m es i w ≡ insert_entry same_key es k w
unfolding written
at_place m k [] start i w h = absurd cc
at_place {S = S} m k (e ∷ es) start i w h = on (same_key k e.0) i h (λ j h. at_place m k es (start + 1) j w h)
  where
    Deep : Type 0
    Deep = (j : ℕ) → position_from (same_key k) (start + 1) (keys_of es) ≡ Some (start + 1 + j) → written m es j w ≡ insert_entry same_key es k w

    on : (b : Bool) (i : ℕ) → cond b (Some start) (position_from (same_key k) (start + 1) (keys_of es)) ≡ Some (start + i) → Deep
        → written m (e ∷ es) i w ≡ cond b ((e.0, w) ∷ es) (e ∷ insert_entry same_key es k w)
    on true zero h deep = refl
    on true (suc j) h deep = absurd (let is : start ≡ start + suc j = cc in omega (arith, is))
    on false zero h deep = absurd (let more : start + 1 ≤ start + 0 = later (same_key k) (keys_of es) (start + 1) (start + 0) h in omega (arith, more))
    on false (suc j) h deep =
        let same : start + suc j ≡ start + 1 + j = omega arith in
        ap (λ (l : List (NotedKey × Change)). e ∷ l) (deep j (h ∙ ap Some same))

pub at_index : {S : Type 0} (m : IndexMap NotedKey Change S) (k : NotedKey) (i : ℕ) (w : Change) → index_of_by (same_key k) m ≡ Some i
    → (with_value_at m i w).entries ≡ insert_entry same_key m.entries k w
unfolding written
at_index m k i w h =
    let same : i ≡ 0 + i = omega arith in
    at_place m k m.entries 0 i w (sym (position_from-zero (same_key k) (keys_of m.entries)) ∙ h ∙ ap Some same)

-- a stored change of its key keeps each entry's key that of its change
pub KeysMatch-inserted : (k : NotedKey) (es : List (NotedKey × Change)) (v : Change) → KeysMatch es → KeyMatches k v → KeysMatch (insert_entry same_key es k v)
KeysMatch-inserted k [] v keys key = (key, tt)
KeysMatch-inserted k (e ∷ es) v keys key = on (same_key k e.0) refl (KeysMatch-inserted k es v keys.1 key)
  where
    on : (s : Bool) → same_key k e.0 ≡ s → KeysMatch (insert_entry same_key es k v)
        → KeysMatch (cond s ((e.0, v) ∷ es) (e ∷ insert_entry same_key es k v))
    on true same rest =
        let bytes : k.key.items ≡ e.0.key.items = ((Decides-and _ _ (Decides-eqb k.tree e.0.tree) (bytes_eq-Decides k.key.items e.0.key.items)).0 same).1 in
        ((sym bytes ∙ key.0, keys.0.1), keys.1)
    on false same rest = (keys.0, rest)

-- the joined change is of the key
pub key_of-joined : (list : List Noted) (tree : ℕ) (change : Change) → key_of (joined_to (found_in list tree (key_of change)) change) ≡ key_of change
key_of-joined list tree change = on (found_in list tree (key_of change)) refl
  where
    on : (o : Option Change) → found_in list tree (key_of change) ≡ o → key_of (joined_to o change) ≡ key_of change
    on None none = refl
    on (Some first) there = key_of-net first change (key_of-found list tree (key_of change) first there)

-- the map after a note is a buffer's map
pub IsKept-inserted : (k : NotedKey) (es : List (NotedKey × Change)) (change : Change) → IsKept es → k.key.items ≡ key_of change → length k.key.items ≤ 64
    → (found_in (map noted_of es) k.tree (key_of change) ≡ None → length es < 200)
    → IsKept (insert_entry same_key es k (joined_to (found_in (map noted_of es) k.tree (key_of change)) change))
IsKept-inserted k es change kept key short room = record {
  keys = KeysMatch-inserted k es (joined_to (found_in (map noted_of es) k.tree (key_of change)) change) kept.keys
      (key ∙ sym (key_of-joined (map noted_of es) k.tree change), short);
  noted = subst AreNoted (sym (inserted k es change kept.keys key)) (AreNoted-noted (map noted_of es) k.tree change kept.noted (λ none. rw length-map (room none)));
}

-- a change that is joined in its place is stored there
pub joined : {S : Type 0} (m n : IndexMap NotedKey Change S) (k : NotedKey) (i : ℕ) (change : Change) → KeysMatch m.entries → k.key.items ≡ key_of change
    → index_of_by (same_key k) m ≡ Some i → is_some (lookup (same_key k) m.entries) ≡ true → slice_get (values m) i ≡ lookup (same_key k) m.entries
    → ((first : Change) → slice_get (values m) i ≡ Some first → n ≡ with_value_at m i (net first change))
    → n.entries ≡ insert_entry same_key m.entries k (joined_to (found_in (map noted_of m.entries) k.tree (key_of change)) change)
joined m n k i change keys key index there value join = on (found_in (map noted_of m.entries) k.tree (key_of change)) refl
  where
    is : lookup (same_key k) m.entries ≡ found_in (map noted_of m.entries) k.tree (key_of change)
    is = found k m.entries keys ∙ ap (found_in (map noted_of m.entries) k.tree) key

    on : (o : Option Change) → found_in (map noted_of m.entries) k.tree (key_of change) ≡ o
        → n.entries ≡ insert_entry same_key m.entries k (joined_to (found_in (map noted_of m.entries) k.tree (key_of change)) change)
    on None e = absurd (let bad : false ≡ true = sym (ap is_some (is ∙ e)) ∙ there in cc)
    on (Some first) e =
        ap (λ (x : IndexMap NotedKey Change _). x.entries) (join first (value ∙ is ∙ e)) ∙ at_index m k i (net first change) index
        ∙ ap (λ (o : Option Change). insert_entry same_key m.entries k (joined_to o change)) (sym e)

-- a change whose key is not there is stored as it is
pub alone : (k : NotedKey) (es : List (NotedKey × Change)) (change : Change) → KeysMatch es → k.key.items ≡ key_of change → is_some (lookup (same_key k) es) ≡ false
    → insert_entry same_key es k change ≡ insert_entry same_key es k (joined_to (found_in (map noted_of es) k.tree (key_of change)) change)
alone k es change keys key none = on (found_in (map noted_of es) k.tree (key_of change)) refl
  where
    is : lookup (same_key k) es ≡ found_in (map noted_of es) k.tree (key_of change)
    is = found k es keys ∙ ap (found_in (map noted_of es) k.tree) key

    on : (o : Option Change) → found_in (map noted_of es) k.tree (key_of change) ≡ o
        → insert_entry same_key es k change ≡ insert_entry same_key es k (joined_to (found_in (map noted_of es) k.tree (key_of change)) change)
    on None e = ap (λ (o : Option Change). insert_entry same_key es k (joined_to o change)) (sym e)
    on (Some first) e = absurd (let bad : true ≡ false = sym (ap is_some (is ∙ e)) ∙ none in cc)

-- joining a change in its place leaves the room of the map
pub joined_spare : {S : Type 0} (m n : IndexMap NotedKey Change S) (k : NotedKey) (i : ℕ) (change : Change)
    → is_some (lookup (same_key k) m.entries) ≡ true → slice_get (values m) i ≡ lookup (same_key k) m.entries
    → ((first : Change) → slice_get (values m) i ≡ Some first → n ≡ with_value_at m i (net first change)) → spare m ≤ spare n + 1
joined_spare m n k i change there value join = on (lookup (same_key k) m.entries) refl
  where
    on : (o : Option Change) → lookup (same_key k) m.entries ≡ o → spare m ≤ spare n + 1
    on None e = absurd (let bad : false ≡ true = sym (ap is_some e) ∙ there in cc)
    on (Some first) e = let same : spare n ≡ spare m = ap spare (join first (value ∙ e)) in omega (arith, same)

-- how many changes there are behind two notes of different trees, by what is counted before them
pub both_count : (list : List Noted) (es : List (NotedKey × Change)) (one two : NotedKey) (tree : ℕ) (change : Change) (other_tree : ℕ) (other : Change) (first second : ℕ)
    → map noted_of es ≡ list → (tree ≡ other_tree → ⊥) → one.tree ≡ tree → one.key.items ≡ key_of change → two.tree ≡ other_tree → two.key.items ≡ key_of other
    → first ≡ cond (is_some (found_in (map noted_of es) one.tree one.key.items)) 0 1 → second ≡ cond (is_some (found_in (map noted_of es) two.tree two.key.items)) 0 1
    → length (noted_in (noted_in list tree change) other_tree other) ≡ length es + (first + second)
both_count list es one two tree change other_tree other first second seen apart t k t2 k2 f g =
    let a : first ≡ cond (is_some (found_in list tree (key_of change))) 0 1 = f ∙ ap (λ (o : Option Change). cond (is_some o) 0 1) (cc) in
    let b : second ≡ cond (is_some (found_in list other_tree (key_of other))) 0 1 = g ∙ ap (λ (o : Option Change). cond (is_some o) 0 1) (cc) in
    let n : length list ≡ length es = ap length (sym seen) ∙ length-map es noted_of in
    let both = length-both list tree change other_tree other apart in
    rw (both, ← a, ← b, n) refl

-- where the second of two keys is new, there is room for it behind the first
pub both_room : (list : List Noted) (after : List (NotedKey × Change)) (tree : ℕ) (change : Change) (other_tree : ℕ) (other : Change) → (tree ≡ other_tree → ⊥)
    → map noted_of after ≡ noted_in list tree change → length (noted_in (noted_in list tree change) other_tree other) ≤ 200
    → found_in (map noted_of after) other_tree (key_of other) ≡ None → length after < 200
both_room list after tree change other_tree other apart is few none =
    let new : found_in (noted_in list tree change) other_tree (key_of other) ≡ None = ap (λ (l : List Noted). found_in l other_tree (key_of other)) (sym is) ∙ none in
    let n : length after ≡ length (noted_in list tree change) = sym (length-map after noted_of) ∙ ap length is in
    let long : length (noted_in (noted_in list tree change) other_tree other) ≡ length (noted_in list tree change) + 1 =
    length-noted (noted_in list tree change) other_tree other
    ∙ ap (λ (o : Option Change). cond (is_some o) (length (noted_in list tree change)) (length (noted_in list tree change) + 1)) new in
    omega (arith, n, long, few)

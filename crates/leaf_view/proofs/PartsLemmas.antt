-- Each part of a leaf is a piece of its spelling.
use Rattle.std.proofs.Common.{◌≡◌, ℕ, Bool, true, false, cond, eqb, List, [], ◌∷◌, ◌++◌, length, Option, Some, None, refl, sym, ap, subst, ◌∙◌, append_assoc}
use Rattle.std.specs.Prelude.{IfSome}
use Rattle.std.specs.List.{AllByRecursion}
use Rattle.std.specs.Int.{w8, w16, w64, to_be_bytes}
use Rattle.std.proofs.lemmas.List.{append-nil}
use Rattle.byte_format.specs.Format.{only_where, maybe, option_spelling, list_spelling}
use Rattle.byte_format.specs.HighKey.{key_above}
use Rattle.leaf_view.specs.Leaf.{Entry, Leaf, IsLeaf, leaf, leaf_head, attr_text, attribute, record_item, done_item}
use Rattle.leaf_view.specs.Parts.{LiesIn, PartsLieIn}

itself : (p : List ℕ) → LiesIn p p
itself p = ([], [], sym (append-nil p))

in_front : (a b p : List ℕ) → LiesIn a p → LiesIn (a ++ b) p
in_front a b p h = (h.0, h.1 ++ b, ap (λ (x : List ℕ). x ++ b) h.2 ∙ append_assoc (h.0 ++ p) h.1 b)

behind : (a b p : List ℕ) → LiesIn b p → LiesIn (a ++ b) p
behind a b p h = (a ++ h.0, h.1, ap (λ (x : List ℕ). a ++ x) h.2 ∙ sym (append_assoc a (h.0 ++ p) h.1) ∙ ap (λ (x : List ℕ). x ++ h.1) (sym (append_assoc a h.0 p)))

each_behind : {A : Type 0} (part : A → List ℕ) (a b : List ℕ) (xs : List A) → AllByRecursion (λ x. LiesIn b (part x)) xs → AllByRecursion (λ x. LiesIn (a ++ b) (part x)) xs
each_behind part a b [] h = tt
each_behind part a b (x ∷ xs) h = (behind a b (part x) h.0, each_behind part a b xs h.1)

-- a payload with its length before it, and what stands behind it
abbrev value_bytes : ℕ → Entry → List ℕ
value_bytes format e = (to_be_bytes w16 (length e.value.payload) ++ e.value.payload) ++ (attribute format).spelling e.value.attr

keys_in : (format : ℕ) (low : List ℕ) (high : Option (List ℕ)) (before : Option Entry) (es : List Entry) → AllByRecursion (λ e. LiesIn (list_spelling (record_item format low high) before es) e.key) es
unfolding record_item
keys_in format low high before [] = tt
keys_in format low high before (e ∷ es) =
    let rest = list_spelling (record_item format low high) (Some e) es in
    let key = to_be_bytes w8 (length e.key) ++ e.key in
    let value = value_bytes format e in
    let item = key ++ value in (
      in_front (1 ∷ item) rest e.key (behind (1 ∷ []) item e.key (in_front key value e.key (behind (to_be_bytes w8 (length e.key)) e.key e.key (itself e.key)))),
      each_behind (λ (x : Entry). x.key) (1 ∷ item) rest es (keys_in format low high (Some e) es),
    )

payloads_in : (format : ℕ) (low : List ℕ) (high : Option (List ℕ)) (before : Option Entry) (es : List Entry) → AllByRecursion (λ e. LiesIn (list_spelling (record_item format low high) before es) e.value.payload) es
unfolding record_item
payloads_in format low high before [] = tt
payloads_in format low high before (e ∷ es) =
    let rest = list_spelling (record_item format low high) (Some e) es in
    let key = to_be_bytes w8 (length e.key) ++ e.key in
    let p = e.value.payload in
    let payload = to_be_bytes w16 (length p) ++ p in
    let attr = (attribute format).spelling e.value.attr in (
      in_front (1 ∷ key ++ (payload ++ attr)) rest p (behind (1 ∷ key) (payload ++ attr) p (in_front payload attr p (behind (to_be_bytes w16 (length p)) p p (itself p)))),
      each_behind (λ (x : Entry). x.value.payload) (1 ∷ key ++ (payload ++ attr)) rest es (payloads_in format low high (Some e) es),
    )

some_behind : (a b : List ℕ) (part : Option (List ℕ)) → IfSome part (LiesIn b) → IfSome part (LiesIn (a ++ b))
some_behind a b None h = tt
some_behind a b (Some k) h = behind a b k h

some_in_front : (a b : List ℕ) (part : Option (List ℕ)) → IfSome part (LiesIn a) → IfSome part (LiesIn (a ++ b))
some_in_front a b None h = tt
some_in_front a b (Some k) h = in_front a b k h

each_some_behind : (a b : List ℕ) (es : List Entry) → AllByRecursion (λ e. IfSome e.value.attr (LiesIn b)) es → AllByRecursion (λ e. IfSome e.value.attr (LiesIn (a ++ b))) es
each_some_behind a b [] h = tt
each_some_behind a b (e ∷ es) h = (some_behind a b e.value.attr h.0, each_some_behind a b es h.1)

attr_in : (format : ℕ) (attr : Option (List ℕ)) → IfSome attr (LiesIn ((attribute format).spelling attr))
attr_in format attr = of (eqb format 2) attr
  where
    of : (b : Bool) (attr : Option (List ℕ)) → IfSome attr (LiesIn ((cond b (maybe attr_text) (only_where false attr_text)).spelling attr))
    of b None = tt
    of true (Some a) = behind (1 ∷ to_be_bytes w8 (length a)) a a (itself a)
    of false (Some a) = behind (to_be_bytes w8 (length a)) a a (itself a)

attrs_in : (format : ℕ) (low : List ℕ) (high : Option (List ℕ)) (before : Option Entry) (es : List Entry) → AllByRecursion (λ e. IfSome e.value.attr (LiesIn (list_spelling (record_item format low high) before es))) es
unfolding record_item
attrs_in format low high before [] = tt
attrs_in format low high before (e ∷ es) =
    let rest = list_spelling (record_item format low high) (Some e) es in
    let key = to_be_bytes w8 (length e.key) ++ e.key in
    let payload = to_be_bytes w16 (length e.value.payload) ++ e.value.payload in
    let attr = (attribute format).spelling e.value.attr in (
      some_in_front (1 ∷ key ++ (payload ++ attr)) rest e.value.attr (some_behind (1 ∷ key) (payload ++ attr) e.value.attr (some_behind payload attr e.value.attr (attr_in format e.value.attr))),
      each_some_behind (1 ∷ key ++ (payload ++ attr)) rest es (attrs_in format low high (Some e) es),
    )

high_in : (f : List ℕ) (high : Option (List ℕ)) (low : List ℕ) → IfSome high (LiesIn (f ++ option_spelling (key_above low) high))
high_in f None low = tt
high_in f (Some k) low = behind f (to_be_bytes w8 (length k) ++ k) k (behind (to_be_bytes w8 (length k)) k k (itself k))

-- the head of a leaf: mark and format, version, low, right, high
abbrev high_bytes : Leaf → List ℕ
high_bytes l = option_spelling (key_above l.low) l.high

abbrev low_bytes : Leaf → List ℕ
low_bytes l = to_be_bytes w8 (length l.low) ++ l.low

abbrev head_bytes : Leaf → List ℕ
head_bytes l = 76 ∷ to_be_bytes w8 l.format ++ to_be_bytes w64 l.version ++ (low_bytes l ++ (to_be_bytes w64 l.right ++ high_bytes l))

abbrev lists_bytes : Leaf → List ℕ
lists_bytes l = list_spelling done_item None l.done ++ list_spelling (record_item l.format l.low l.high) None l.records

spelled : (l : Leaf) → leaf.spelling l ≡ head_bytes l ++ lists_bytes l
unfolding leaf leaf_head
spelled l = refl

parts : (l : Leaf) → PartsLieIn (head_bytes l ++ lists_bytes l) l
parts l =
    let front = 76 ∷ to_be_bytes w8 l.format ++ to_be_bytes w64 l.version in
    let right = to_be_bytes w64 l.right in
    let done = list_spelling done_item None l.done in
    let records = list_spelling (record_item l.format l.low l.high) None l.records in
    let high : IfSome l.high (LiesIn (head_bytes l)) = some_behind front (low_bytes l ++ (right ++ high_bytes l)) l.high (some_behind (low_bytes l) (right ++ high_bytes l) l.high (high_in right l.high l.low)) in
    record {
      low = in_front (head_bytes l) (lists_bytes l) l.low (behind front (low_bytes l ++ (right ++ high_bytes l)) l.low (in_front (low_bytes l) (right ++ high_bytes l) l.low (behind (to_be_bytes w8 (length l.low)) l.low l.low (itself l.low))));
      high = some_in_front (head_bytes l) (lists_bytes l) l.high high;
      keys = each_behind (λ (e : Entry). e.key) (head_bytes l) (lists_bytes l) l.records (each_behind (λ (e : Entry). e.key) done records l.records (keys_in l.format l.low l.high None l.records));
      attrs = each_some_behind (head_bytes l) (lists_bytes l) l.records (each_some_behind done records l.records (attrs_in l.format l.low l.high None l.records));
      payloads = each_behind (λ (e : Entry). e.value.payload) (head_bytes l) (lists_bytes l) l.records (each_behind (λ (e : Entry). e.value.payload) done records l.records (payloads_in l.format l.low l.high None l.records));
    }

pub parts_lie_in : (bytes : List ℕ) (l : Leaf) → IsLeaf bytes l → PartsLieIn bytes l
parts_lie_in bytes l is = subst (λ (bs : List ℕ). PartsLieIn bs l) (sym (is.is ∙ spelled l)) (parts l)

-- Laws that crates above use: spellings and what they are read as, parts that lie in the bytes, raised numbers.
use Rattle.std.proofs.Common.{◌≡◌, ℕ, zero, suc, ◌+◌, ◌-◌, ◌<◌, ◌≤◌, Bool, true, false, cond, eqb, List, [], ◌∷◌, ◌++◌, length, Option, Some, None, Result, Ok, Err, refl, sym, ap, ◌∙◌, append_assoc, arith, inl, inr}
use Rattle.std.specs.Prelude.{max, IfSome}
use Rattle.std.specs.List.{AllByRecursion}
use Rattle.std.specs.Result.{result_ok}
use Rattle.std.specs.Int.{w8, w64, to_be_bytes}
use Rattle.std.specs.Ordering.{nat_cmp, is_eq}
use Rattle.std.specs.declared.cmp.Ordering.TheVariants.{Less, Equal, Greater}
use Rattle.std.specs.Cmp.{nat_cmp_is}
use Rattle.std.proofs.lemmas.Bool.{eqb-true, cases_lt}
use Rattle.db_base.specs.Cursor.{number_of}
use Rattle.byte_format.specs.Format.{greatest, text, option_spelling, list_spelling}
use Rattle.byte_format.specs.Whole.{IsBytes, whole}
use Rattle.byte_format.proofs.Wholes.{whole_found, whole_only}
use Rattle.node_codec.specs.Node.{Entry, entry, client_number, pairs_from, pairs_of, raised, LiesIn}
use Rattle.node_codec.specs.Tree.{Tree, tree_format, IsTree, HasTreeSpelling, tree_bytes, tree_of}
use Rattle.node_codec.specs.Inner.{Inner, inner_format, IsInner, HasInnerSpelling, inner_bytes, inner_of}
use Rattle.node_codec.proofs.TreeLemmas.{tree_exact}
use Rattle.node_codec.proofs.InnerLemmas.{inner_exact}

ok_part : {A : Type 0} (r : Result A ℕ) (x : A) → result_ok r ≡ Some x → r ≡ Ok x
ok_part (Ok y) x h = cc
ok_part (Err d) x h = absurd cc

pub tree_only : (bytes : List ℕ) (t : Tree) → IsTree bytes t → tree_of bytes ≡ Some t
unfolding tree_of
tree_only bytes t s = ap result_ok (whole_only tree_format tree_exact bytes t s)

pub tree_again : (t : Tree) → HasTreeSpelling t → tree_of (tree_bytes t) ≡ Some t
unfolding tree_bytes
tree_again t h = tree_only (tree_bytes t) t (record { fits = h; is = refl })

pub tree_found : (bytes : List ℕ) (t : Tree) → IsBytes bytes → tree_of bytes ≡ Some t → IsTree bytes t
unfolding tree_of
tree_found bytes t fits h = whole_found tree_format tree_exact bytes t fits (ok_part (whole tree_format bytes) t h)

pub inner_only : (bytes : List ℕ) (n : Inner) → IsInner bytes n → inner_of bytes ≡ Some n
unfolding inner_of
inner_only bytes n s = ap result_ok (whole_only inner_format inner_exact bytes n s)

pub inner_again : (n : Inner) → HasInnerSpelling n → inner_of (inner_bytes n) ≡ Some n
unfolding inner_bytes
inner_again n h = inner_only (inner_bytes n) n (record { fits = h; is = refl })

pub inner_found : (bytes : List ℕ) (n : Inner) → IsBytes bytes → inner_of bytes ≡ Some n → IsInner bytes n
unfolding inner_of
inner_found bytes n fits h = whole_found inner_format inner_exact bytes n fits (ok_part (whole inner_format bytes) n h)

-- ---- parts

abbrev AllLieIn : List ℕ → List Entry → Type 0
AllLieIn bytes xs = AllByRecursion (λ e. LiesIn e.0 bytes) xs

-- what lies behind a front lies in the whole
lies_behind : (front bytes whole part : List ℕ) → whole ≡ front ++ bytes → LiesIn part bytes → LiesIn part whole
lies_behind front bytes whole part is l = (front ++ l.0, l.1, is ∙ ap (λ b. front ++ b) l.2 ∙ regroup front l.0 part l.1)
  where
    regroup : (a b c d : List ℕ) → a ++ ((b ++ c) ++ d) ≡ ((a ++ b) ++ c) ++ d
    regroup a b c d = simp append_assoc

all_behind : (front bytes whole : List ℕ) (xs : List Entry) → whole ≡ front ++ bytes → AllLieIn bytes xs → AllLieIn whole xs
all_behind front bytes whole [] is h = h
all_behind front bytes whole (x ∷ xs) is h = (lies_behind front bytes whole x.0 is h.0, all_behind front bytes whole xs is h.1)

listed_lie : (low : List ℕ) (high : Option (List ℕ)) (last : ℕ) (before : Option Entry) (xs : List Entry) → AllLieIn (list_spelling (entry low high last) before xs) xs
listed_lie low high last before [] = tt
listed_lie low high last before (x ∷ xs) =
    let rest = list_spelling (entry low high last) (Some x) xs in
    let front = (1 ∷ to_be_bytes w8 (length x.0)) ++ x.0 ++ to_be_bytes w64 x.1 in (
      (1 ∷ to_be_bytes w8 (length x.0), to_be_bytes w64 x.1 ++ rest, regroup (1 ∷ to_be_bytes w8 (length x.0)) x.0 (to_be_bytes w64 x.1) rest),
      all_behind front rest (front ++ rest) xs refl (listed_lie low high last (Some x) xs),
    )
  where
    regroup : (a b c d : List ℕ) → (a ++ b ++ c) ++ d ≡ (a ++ b) ++ (c ++ d)
    regroup a b c d = simp append_assoc

pub tree_parts_lie : (bytes : List ℕ) (t : Tree) → IsTree bytes t → AllByRecursion (λ e. LiesIn e.0 bytes) t.entries
tree_parts_lie bytes t s =
    let listed = list_spelling (entry [] None (t.next - 1)) None t.entries in
    let front = (((0x54 ∷ 1 ∷ to_be_bytes w64 t.version) ++ to_be_bytes w64 t.next) ++ to_be_bytes w8 t.level) ++ list_spelling client_number None t.cursor in
    all_behind front listed bytes t.entries (s.is ∙ refl) (listed_lie [] None (t.next - 1) None t.entries)

pub inner_parts_lie : (bytes : List ℕ) (n : Inner) → IsInner bytes n → AllByRecursion (λ e. LiesIn e.0 bytes) n.entries
inner_parts_lie bytes n s =
    let listed = list_spelling (entry n.low n.high greatest) None n.entries in
    let front = ((((0x49 ∷ 1 ∷ to_be_bytes w64 n.version) ++ to_be_bytes w8 n.level) ++ (to_be_bytes w8 (length n.low) ++ n.low)) ++ to_be_bytes w64 n.right) ++ option_spelling (text w8 1 64) n.high in
    all_behind front listed bytes n.entries (s.is ∙ sym (regroup (0x49 ∷ 1 ∷ to_be_bytes w64 n.version) (to_be_bytes w8 n.level) (to_be_bytes w8 (length n.low) ++ n.low) (to_be_bytes w64 n.right) (option_spelling (text w8 1 64) n.high) listed)) (listed_lie n.low n.high greatest None n.entries)
  where
    regroup : (a b c d e f : List ℕ) → ((((a ++ b) ++ c) ++ d) ++ e) ++ f ≡ a ++ (b ++ (c ++ (d ++ (e ++ f))))
    regroup a b c d e f = simp append_assoc

-- a high key, where there is one, lies behind what stands before it
high_lies : (front rest bytes : List ℕ) (high : Option (List ℕ)) → bytes ≡ front ++ (option_spelling (text w8 1 64) high ++ rest) → IfSome high (λ k. LiesIn k bytes)
high_lies front rest bytes None is = tt
high_lies front rest bytes (Some k) is = (front ++ to_be_bytes w8 (length k), rest, is ∙ regroup front (to_be_bytes w8 (length k)) k rest)
  where
    regroup : (a b c d : List ℕ) → a ++ ((b ++ c) ++ d) ≡ ((a ++ b) ++ c) ++ d
    regroup a b c d = simp append_assoc

pub inner_low_lies : (bytes : List ℕ) (n : Inner) → IsInner bytes n → LiesIn n.low bytes
inner_low_lies bytes n s =
    let front = 0x49 ∷ 1 ∷ to_be_bytes w64 n.version in
    let level = to_be_bytes w8 n.level in
    let size = to_be_bytes w8 (length n.low) in
    let rest = to_be_bytes w64 n.right ++ (option_spelling (text w8 1 64) n.high ++ list_spelling (entry n.low n.high greatest) None n.entries) in
    ((front ++ level) ++ size, rest, s.is ∙ regroup front level size n.low rest)
  where
    regroup : (a b c d e : List ℕ) → a ++ (b ++ ((c ++ d) ++ e)) ≡ (((a ++ b) ++ c) ++ d) ++ e
    regroup a b c d e = simp append_assoc

pub inner_high_lies : (bytes : List ℕ) (n : Inner) → IsInner bytes n → IfSome n.high (λ k. LiesIn k bytes)
inner_high_lies bytes n s =
    let front = 0x49 ∷ 1 ∷ to_be_bytes w64 n.version in
    let level = to_be_bytes w8 n.level in
    let low = to_be_bytes w8 (length n.low) ++ n.low in
    let right = to_be_bytes w64 n.right in
    let listed = list_spelling (entry n.low n.high greatest) None n.entries in
    high_lies (((front ++ level) ++ low) ++ right) listed bytes n.high (s.is ∙ regroup front level low right (option_spelling (text w8 1 64) n.high ++ listed))
  where
    regroup : (a b c d e : List ℕ) → a ++ (b ++ (c ++ (d ++ e))) ≡ (((a ++ b) ++ c) ++ d) ++ e
    regroup a b c d e = simp append_assoc

-- ---- raised numbers

less_differs : (k c : ℕ) → k < c → is_eq (nat_cmp k c) ≡ false
less_differs k c h = ap is_eq (sym (nat_cmp_is k c Less h))

more_differs : (k c : ℕ) → c < k → is_eq (nat_cmp k c) ≡ false
more_differs k c h = ap is_eq (sym (nat_cmp_is k c Greater h))

same_is_eq : (k c : ℕ) → k ≡ c → is_eq (nat_cmp k c) ≡ true
same_is_eq k c h = ap is_eq (sym (nat_cmp_is k c Equal h))

number_before : (number : ℕ → ℕ) (count c k : ℕ) → k < c → number_of (pairs_from number c count) k ≡ 0
unfolding pairs_from
number_before number zero c k h = refl
number_before number (suc count) c k h = on (number_before number count (suc c) k (omega arith)) (eqb (number c) 0)
  where
    on : number_of (pairs_from number (suc c) count) k ≡ 0 → (b : Bool) → number_of (cond b (pairs_from number (suc c) count) ((c, number c) ∷ pairs_from number (suc c) count)) k ≡ 0
    on ih true = ih
    on ih false = rw (less_differs k c h) ih

number_at : (number : ℕ → ℕ) (count c k : ℕ) → c ≤ k → k < c + count → number_of (pairs_from number c count) k ≡ number k
unfolding pairs_from
number_at number zero c k low high = absurd (omega arith)
number_at number (suc count) c k low high = on (λ less. number_at number count (suc c) k less (omega arith)) (number_before number count (suc c) k) (eqb (number c) 0) refl
  where
    on : (suc c ≤ k → number_of (pairs_from number (suc c) count) k ≡ number k) → (k < suc c → number_of (pairs_from number (suc c) count) k ≡ 0) → (b : Bool) → eqb (number c) 0 ≡ b
        → number_of (cond b (pairs_from number (suc c) count) ((c, number c) ∷ pairs_from number (suc c) count)) k ≡ number k
    on ih none true is =
        elim (cases_lt c k) [
          | inl lt ↦ ih (omega arith)
          | inr le ↦ let e : k ≡ c = omega arith in none (omega arith) ∙ sym (ap number e ∙ eqb-true (number c) 0 is)
        ]
    on ih none false is =
        elim (cases_lt c k) [
          | inl lt ↦ rw (more_differs k c lt) (ih (omega arith))
          | inr le ↦ let e : k ≡ c = omega arith in rw (same_is_eq k c e) (ap number (sym e))
        ]

pub number_of-raised : (numbers others : List (ℕ × ℕ)) (c : ℕ) → 1 ≤ c → c ≤ 64 → number_of (raised numbers others) c ≡ max (number_of numbers c) (number_of others c)
unfolding raised pairs_of
number_of-raised numbers others c some most = number_at (λ k. max (number_of numbers k) (number_of others k)) 64 1 c some (omega arith)

-- What inserts of distinct trees and keys leave in a buffer: them, in their order.
use Rattle.std.proofs.Common.{◌≡◌, ℕ, zero, suc, Bool, true, false, cond, List, [], ◌∷◌, ◌++◌, Some, None, refl, sym, ap, ◌∙◌, append_assoc, subst}
use Rattle.std.specs.Prelude.{slice_get}
use Rattle.std.proofs.lemmas.List.{append-nil}
use Rattle.db_base.specs.Change.{key_of, net}
use Rattle.txn_buffer.specs.Noted.{Noted, is_of, found_in, noted_in, AreDistinct}
use Rattle.txn_buffer.proofs.NotedLemmas.{is_of-Decides}

-- changes noted one behind another
abbrev pub noted_all : List Noted → List Noted → List Noted
noted_all buffer [] = buffer
noted_all buffer (n ∷ more) = noted_all (noted_in buffer n.tree n.change) more

-- what is not found stands nowhere
found_none : (list : List Noted) (tree : ℕ) (key : List ℕ) (place : ℕ) (n : Noted) → found_in list tree key ≡ None → slice_get list place ≡ Some n → is_of tree key n ≡ false
found_none [] tree key place n none at = absurd (cc)
found_none (m ∷ list) tree key place n none at = on (is_of tree key m) refl none place at (λ k g h. found_none list tree key k n g h)
  where
    on : (b : Bool) → is_of tree key m ≡ b → cond b (Some m.change) (found_in list tree key) ≡ None → (place : ℕ) → slice_get (m ∷ list) place ≡ Some n
        → ((k : ℕ) → found_in list tree key ≡ None → slice_get list k ≡ Some n → is_of tree key n ≡ false) → is_of tree key n ≡ false
    on true e h place at later = absurd (cc)
    on false e h zero at later = let same : m ≡ n = cc in ap (is_of tree key) (sym same) ∙ e
    on false e h (suc k) at later = later k h at

-- neither is of the other's tree and key
other_way : (a b : Noted) → is_of a.tree (key_of a.change) b ≡ false → is_of b.tree (key_of b.change) a ≡ false
other_way a b apart = on (is_of b.tree (key_of b.change) a) refl
  where
    on : (t : Bool) → is_of b.tree (key_of b.change) a ≡ t → t ≡ false
    on true e =
        let same = (is_of-Decides b.tree (key_of b.change) a).0 e in
        let back : is_of a.tree (key_of a.change) b ≡ true = (is_of-Decides a.tree (key_of a.change) b).1 (sym same.0, sym same.1) in
        sym back ∙ apart
    on false e = refl

middle : (front : List Noted) (n : Noted) (more : List Noted) → (place : ℕ) × (slice_get (front ++ n ∷ more) place ≡ Some n)
middle [] n more = (zero, refl)
middle (m ∷ front) n more = let p = middle front n more in (suc p.0, p.1)

-- one of another tree and key goes to the end
pub noted_last : (buffer : List Noted) (n : Noted) (more : List Noted) → AreDistinct (buffer ++ n ∷ more) → noted_in buffer n.tree n.change ≡ buffer ++ n ∷ []
noted_last [] n more distinct = refl
noted_last (m ∷ buffer) n more distinct =
    let p = middle buffer n more in
    let apart : is_of m.tree (key_of m.change) n ≡ false = found_none (buffer ++ n ∷ more) m.tree (key_of m.change) p.0 n distinct.0 p.1 in
    ap (λ (b : Bool). cond b (record { tree = m.tree; change = net m.change n.change } ∷ buffer) (m ∷ noted_in buffer n.tree n.change)) (other_way m n apart)
    ∙ ap (λ (ns : List Noted). m ∷ ns) (noted_last buffer n more distinct.1)

-- so do all
pub noted_all_last : (buffer more : List Noted) → AreDistinct (buffer ++ more) → noted_all buffer more ≡ buffer ++ more
noted_all_last buffer [] distinct = sym (append-nil buffer)
noted_all_last buffer (n ∷ more) distinct =
    ap (λ (b : List Noted). noted_all b more) (noted_last buffer n more distinct)
    ∙ noted_all_last (buffer ++ n ∷ []) more (subst AreDistinct (sym (append_assoc buffer (n ∷ []) more)) distinct)
    ∙ append_assoc buffer (n ∷ []) more

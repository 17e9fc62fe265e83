-- A word spells one list of bytes.
use Rattle.std.proofs.Common.{◌≡◌, ◌≢◌, ◌<◌, ◌^◌, ℕ, zero, suc, List, [], ◌∷◌, Option, Some, None, Err, refl, sym, subst, ap, ◌∙◌, arith, length, drop, ◌%◌}
use Rattle.words.specs.declared.fault.TextFault.{TextFault}
use Rattle.words.specs.Word.{hexadecimal, bytes_of, AreBytes, Reads}
use Rattle.std.specs.Int.{w64, to_be_bytes, from_be_bytes}
use Rattle.std.proofs.Math.Nat.{mod-lt}
use Rattle.std.proofs.lemmas.Nat.{from_be_bytes-to_be_bytes_8}
use Rattle.db_base.specs.Ids.{IsClient, IsTree, IsPage}
use Rattle.db_base.specs.declared.names.ObjName.TheVariants.{Page}
use Rattle.folder_names.specs.Names.{file_text, only, place_bytes, place_text}
use Rattle.words.proofs.Hexadecimal.{bytes_of-hexadecimal}

pub unspelled : (word : List ℕ) → bytes_of word ≡ None → (bytes : List ℕ) → AreBytes bytes → word ≢ hexadecimal bytes
unspelled word none bytes are is =
    let some : bytes_of word ≡ Some bytes = ap bytes_of is ∙ bytes_of-hexadecimal bytes are in
    absurd cc

pub same_bytes : (word xs ys : List ℕ) → AreBytes xs → AreBytes ys → word ≡ hexadecimal xs → word ≡ hexadecimal ys → xs ≡ ys
same_bytes word xs ys a b is other =
    let one : bytes_of word ≡ Some xs = ap bytes_of is ∙ bytes_of-hexadecimal xs a in
    let two : bytes_of word ≡ Some ys = ap bytes_of other ∙ bytes_of-hexadecimal ys b in
    cc

pub one_byte : (n : ℕ) → n < 256 → AreBytes (n ∷ [])
one_byte n h zero = h
one_byte n h (suc i) = omega arith

pub not_one : (word bytes : List ℕ) (n : ℕ) → AreBytes bytes → n < 256 → word ≡ hexadecimal bytes → word ≡ hexadecimal (n ∷ []) → only bytes ≡ None → ⊥
not_one word bytes n are h is e none =
    let one : only bytes ≡ Some n = ap only (same_bytes word bytes (n ∷ []) are (one_byte n h) is e) in
    absurd cc

abbrev head_or : ℕ → List ℕ → ℕ
head_or n [] = n
head_or n (x ∷ xs) = x

pub same_number : (word : List ℕ) (m n : ℕ) → m < 256 → n < 256 → word ≡ hexadecimal (m ∷ []) → word ≡ hexadecimal (n ∷ []) → m ≡ n
same_number word m n h k is e = ap (head_or 0) (same_bytes word (m ∷ []) (n ∷ []) (one_byte m h) (one_byte n k) is e)

pub no_client : (word : List ℕ) (m n : ℕ) → m < 256 → (IsClient m → ⊥) → word ≡ hexadecimal (m ∷ []) → IsClient n → word ≡ hexadecimal (n ∷ []) → ⊥
no_client word m n h not_it is client e = not_it (subst IsClient (sym (same_number word m n h (let k = client.most in omega arith) is e)) client)

pub no_tree : (word : List ℕ) (m n : ℕ) → m < 256 → (IsTree m → ⊥) → word ≡ hexadecimal (m ∷ []) → IsTree n → word ≡ hexadecimal (n ∷ []) → ⊥
no_tree word m n h not_it is tree e = not_it (subst IsTree (sym (same_number word m n h (let k = tree.most in omega arith) is e)) tree)

pub unread : {A : Type 0} (fault : TextFault) (read : Option A) → fault ≡ TextFault.NotInGrammar → Reads (Err fault) read → read ≡ None
unread TextFault.NotInGrammar read is reads = reads
unread TextFault.Memory read is reads = absurd cc

-- ---- a page of a tree

pub place_is : (tree page : ℕ) → place_bytes tree page ≡ tree ∷ to_be_bytes w64 page
unfolding place_bytes
place_is tree page = refl

byte : (n : ℕ) → n % 256 < 256
byte n = mod-lt n (omega arith)

bytes_are : (tree page : ℕ) → tree < 256 → AreBytes (tree ∷ to_be_bytes w64 page)
bytes_are tree page h zero = h
bytes_are tree page h (suc zero) = byte _
bytes_are tree page h (suc (suc zero)) = byte _
bytes_are tree page h (suc (suc (suc zero))) = byte _
bytes_are tree page h (suc (suc (suc (suc zero)))) = byte _
bytes_are tree page h (suc (suc (suc (suc (suc zero))))) = byte _
bytes_are tree page h (suc (suc (suc (suc (suc (suc zero)))))) = byte _
bytes_are tree page h (suc (suc (suc (suc (suc (suc (suc zero))))))) = byte _
bytes_are tree page h (suc (suc (suc (suc (suc (suc (suc (suc zero)))))))) = byte page
bytes_are tree page h (suc (suc (suc (suc (suc (suc (suc (suc (suc i))))))))) = omega arith

pub place_are : (tree page : ℕ) → IsTree tree → AreBytes (place_bytes tree page)
place_are tree page is = subst AreBytes (sym (place_is tree page)) (bytes_are tree page (let k = is.most in omega arith))

-- bytes of another length spell no page
pub no_place : (word bytes : List ℕ) (tree page : ℕ) → AreBytes bytes → IsTree tree → word ≡ hexadecimal bytes → word ≡ place_text tree page → length bytes ≢ 9 → ⊥
no_place word bytes tree page are is e at other = other (ap length (same_bytes word bytes (place_bytes tree page) are (place_are tree page is) e at ∙ place_is tree page))

-- a word spells one page
pub one_place : (word bytes : List ℕ) (tree page t p : ℕ) → AreBytes bytes → IsTree tree → page < 2 ^ 64 → p < 2 ^ 64 → word ≡ hexadecimal bytes → word ≡ place_text tree page
    → bytes ≡ place_bytes t p → (t ≡ tree) × (p ≡ page)
one_place word bytes tree page t p are is h k e at there =
    let same : t ∷ to_be_bytes w64 p ≡ tree ∷ to_be_bytes w64 page =
    sym (place_is t p) ∙ sym there ∙ same_bytes word bytes (place_bytes tree page) are (place_are tree page is) e at ∙ place_is tree page in
    (ap (head_or 0) same, sym (from_be_bytes-to_be_bytes_8 p k) ∙ ap (λ (xs : List ℕ). from_be_bytes w64 (drop 1 xs)) same ∙ from_be_bytes-to_be_bytes_8 page h)

pub no_numbers : (t p tree page : ℕ) → (IsTree t → IsPage p → ⊥) → (t ≡ tree) × (p ≡ page) → IsTree tree → IsPage page → ⊥
no_numbers t p tree page not_it same is at = not_it (subst IsTree (sym same.0) is) (subst IsPage (sym same.1) at)

-- ---- the file of a page

-- a file is of a page of one tree alone
pub one_tree : (t p tree page : ℕ) → IsTree t → IsTree tree → file_text (Page t p) ≡ file_text (Page tree page) → t ≡ tree
one_tree t p tree page is of e =
    let same : place_text t p ≡ place_text tree page = ap (drop 5) e in
    let bytes : place_bytes t p ≡ place_bytes tree page = same_bytes (place_text t p) (place_bytes t p) (place_bytes tree page) (place_are t p is) (place_are tree page of) refl same in
    ap (head_or 0) (sym (place_is t p) ∙ bytes ∙ place_is tree page)

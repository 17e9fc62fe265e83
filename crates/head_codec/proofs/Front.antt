-- The bytes of a counter, and those before a pending entry's change, in one array.
use Rattle.std.proofs.Common.{◌≡◌, ◌<◌, ◌∷◌, [], ◌++◌, ℕ, List, ◌∙◌, ap, sym, slice_index_or}
use Rattle.std.specs.Int.{w8, w64, to_be_bytes}
use Rattle.change_codec.proofs.Appends.{to_be_bytes-byte}

-- the first eight of some bytes
abbrev eight : List ℕ → List ℕ
eight bytes =
    slice_index_or bytes 0 0 ∷ slice_index_or bytes 1 0 ∷ slice_index_or bytes 2 0 ∷ slice_index_or bytes 3 0 ∷ slice_index_or bytes 4 0
    ∷ slice_index_or bytes 5 0 ∷ slice_index_or bytes 6 0 ∷ slice_index_or bytes 7 0 ∷ []

-- the byte that says that an entry follows, its tree, its page and its number behind other bytes
pub front_bytes : (old : List ℕ) (byte tree page number : ℕ) (pages numbers : List ℕ) → byte ≡ tree → tree < 256
    → pages ≡ to_be_bytes w64 page → numbers ≡ to_be_bytes w64 number
    → old ++ (1 ∷ (byte ∷ (eight pages ++ eight numbers))) ≡ old ++ (1 ∷ (to_be_bytes w8 tree ++ (to_be_bytes w64 page ++ to_be_bytes w64 number)))
front_bytes old byte tree page number pages numbers tree_is small pages_are numbers_are =
    ap (λ (bytes : List ℕ). old ++ (1 ∷ (byte ∷ (eight bytes ++ eight numbers)))) pages_are
    ∙ ap (λ (bytes : List ℕ). old ++ (1 ∷ (byte ∷ (to_be_bytes w64 page ++ eight bytes)))) numbers_are
    ∙ ap (λ (n : ℕ). old ++ (1 ∷ (n ∷ (to_be_bytes w64 page ++ to_be_bytes w64 number)))) tree_is
    ∙ ap (λ (bytes : List ℕ). old ++ (1 ∷ (bytes ++ (to_be_bytes w64 page ++ to_be_bytes w64 number)))) (sym (to_be_bytes-byte tree small))

-- Records whose bytes lie one behind the other, with one more behind them.
use Rattle.std.proofs.Common.{◌≡◌, ◌≤◌, ℕ, List, [], ◌∷◌, ◌++◌, length, take, drop, refl, ap, ◌∙◌, arith}
use Rattle.std.proofs.lemmas.List.{drop-append-le, take-append-le, length-append}
use Rattle.std.proofs.Math.Seq.{drop-append_seam, take-append_seam, drop-length}
use Rattle.std.specs.Prelude.{Result, Ok, Err, OnOk, OnErr}
use Rattle.db_base.specs.declared.pair.Pair.{Pair}
use Rattle.report_types.specs.declared.pair_list.Lengths.{Lengths}
use Rattle.report_types.specs.PairList.{pairs_in, AreLaid}

-- there are as many records as lengths
pub length_of_pairs : (bytes : List ℕ) (ls : List Lengths) → length (pairs_in bytes ls) ≡ length ls
length_of_pairs bytes [] = refl
length_of_pairs bytes (l ∷ ls) = let e = length_of_pairs (drop l.payload (drop l.key bytes)) ls in omega (arith, e)

-- the bytes behind the first record, where there are more behind all of them
rest_with : (l : Lengths) (bytes more : List ℕ) → l.key ≤ length bytes → l.payload ≤ length (drop l.key bytes) → drop l.payload (drop l.key (bytes ++ more)) ≡ drop l.payload (drop l.key bytes) ++ more
rest_with l bytes more h p =
    ap (λ (t : List ℕ). drop l.payload t) (drop-append-le l.key bytes more h) ∙ drop-append-le l.payload (drop l.key bytes) more p

-- the payload of the first record
payload_with : (l : Lengths) (bytes more : List ℕ) → l.key ≤ length bytes → l.payload ≤ length (drop l.key bytes) → take l.payload (drop l.key (bytes ++ more)) ≡ take l.payload (drop l.key bytes)
payload_with l bytes more h p =
    ap (λ (t : List ℕ). take l.payload t) (drop-append-le l.key bytes more h) ∙ take-append-le l.payload (drop l.key bytes) more p

take_whole : (xs : List ℕ) → take (length xs) xs ≡ xs
take_whole [] = refl
take_whole (x ∷ xs) = ap (λ (t : List ℕ). x ∷ t) (take_whole xs)

-- the records with one more
pub pairs_added : (bytes : List ℕ) (ls : List Lengths) (k p : List ℕ) → AreLaid bytes ls
    → pairs_in (bytes ++ (k ++ p)) (ls ++ record { key = length k; payload = length p } ∷ []) ≡ pairs_in bytes ls ++ record { key = k; payload = p } ∷ []
pairs_added bytes [] k p h = rw (h, take-append_seam k p, drop-append_seam k p, take_whole p) refl
pairs_added bytes (l ∷ ls) k p h =
    let first : Pair = record { key = take l.key bytes; payload = take l.payload (drop l.key bytes) } in
    rw (take-append-le l.key bytes (k ++ p) h.0, payload_with l bytes (k ++ p) h.0 h.1, rest_with l bytes (k ++ p) h.0 h.1)
    (ap (λ (t : List Pair). first ∷ t) (pairs_added (drop l.payload (drop l.key bytes)) ls k p h.2))

-- .. whose bytes lie so too
pub laid_added : (bytes : List ℕ) (ls : List Lengths) (k p : List ℕ) → AreLaid bytes ls
    → AreLaid (bytes ++ (k ++ p)) (ls ++ record { key = length k; payload = length p } ∷ [])
laid_added bytes [] k p h = rw (h, drop-append_seam k p, drop-length p, length-append k p) (omega arith, omega arith, refl)
laid_added bytes (l ∷ ls) k p h = (
  rw (length-append bytes (k ++ p)) (omega (arith, h.0)),
  rw (drop-append-le l.key bytes (k ++ p) h.0, length-append (drop l.key bytes) (k ++ p)) (omega (arith, h.1)),
  rw (rest_with l bytes (k ++ p) h.0 h.1) (laid_added (drop l.payload (drop l.key bytes)) ls k p h.2),
)

-- .. and where that one did not go in, as before
pub laid_after : {E : Type 0} (result : Result (Unit {0}) E) (bytes after k p : List ℕ) (ls ls_after : List Lengths)
    → OnOk result (after ≡ bytes ++ (k ++ p)) → OnOk result (ls_after ≡ ls ++ record { key = length k; payload = length p } ∷ [])
    → OnErr result ((after ≡ bytes) × (ls_after ≡ ls)) → AreLaid bytes ls → AreLaid after ls_after
laid_after (Ok _) bytes after k p ls ls_after b l same h = rw (b, l) (laid_added bytes ls k p h)
laid_after (Err e) bytes after k p ls ls_after b l same h = rw (same.0, same.1) h

-- the records then, where it went in
pub pairs_after : {E : Type 0} (result : Result (Unit {0}) E) (bytes after k p : List ℕ) (ls ls_after : List Lengths)
    → OnOk result (after ≡ bytes ++ (k ++ p)) → OnOk result (ls_after ≡ ls ++ record { key = length k; payload = length p } ∷ [])
    → AreLaid bytes ls → OnOk result (pairs_in after ls_after ≡ pairs_in bytes ls ++ record { key = k; payload = p } ∷ [])
pairs_after (Ok _) bytes after k p ls ls_after b l h = rw (b, l) (pairs_added bytes ls k p h)
pairs_after (Err e) bytes after k p ls ls_after b l h = tt

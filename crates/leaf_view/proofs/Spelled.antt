-- The bytes of records that were read.
use Rattle.std.proofs.Common.{◌≡◌, ℕ, true, List, [], ◌∷◌, ◌++◌, length, drop, Option, Some, None, Ok, refl, sym, ap, ◌∙◌, arith}
use Rattle.std.proofs.Math.Seq.{drop-append_seam}
use Rattle.std.proofs.lemmas.List.{append-nil}
use Rattle.byte_format.specs.Format.{Format, list_at, list_spelling, more_at}
use Rattle.byte_format.specs.Plain.{items_in, IsListed}
use Rattle.byte_format.specs.Whole.{IsBytes}
use Rattle.byte_format.proofs.Steps.{IsBytes-along, IsBytes-rest}
use Rattle.byte_format.proofs.Lists.{more_takes, list_exact}
use Rattle.byte_format.proofs.Plain.{listed_of, split_is}
use Rattle.leaf_view.specs.Leaf.{Entry, plain_entry}
use Rattle.leaf_view.specs.Spelled.{records_spelling, IsAll}
use Rattle.leaf_view.proofs.Exact.{plain_entry_exact}

none : (rest : List ℕ) → length rest ≡ 0 → rest ≡ []
none [] h = refl
none (x ∷ rest) h = absurd (omega arith)

-- the record before makes no difference
alike : (f : Format Entry) (b : Option Entry) (es : List Entry) → list_spelling (λ _. f) b es ≡ list_spelling (λ _. f) None es
alike f b [] = refl
alike f b (e ∷ es) = refl

-- of a list behind which nothing is left
pub all-read : (format : ℕ) (bytes : List ℕ) (es : List Entry) (rest : List ℕ) → IsBytes bytes → list_at true (λ _. plain_entry format) None bytes ≡ Ok (es, rest)
    → length rest ≡ 0 → IsAll format bytes
all-read format bytes es rest fits read end =
    let takes = ((list_exact true (λ (_ : Option Entry). plain_entry format) None (λ _. plain_entry_exact format)).takes bytes (es, rest) fits read).1 in
    takes ∙ (ap (λ rest. records_spelling format es ++ rest) (none rest end)
    ∙ (append-nil (records_spelling format es) ∙ ap (records_spelling format) (sym (listed_of (plain_entry format) bytes (es, rest) read).1)))

-- of the records behind the first
pub all-behind : (format : ℕ) (bytes behind : List ℕ) (x : Entry × List ℕ) → IsBytes bytes → IsListed (plain_entry format) bytes → more_at true bytes ≡ Ok (true, behind)
    → (plain_entry format).reading behind ≡ Ok x → IsAll format bytes → IsAll format x.1
all-behind format bytes behind x fits listed more read all =
    sym (drop-append_seam front x.1) ∙ (ap (λ l. drop (length front) l) same ∙ (drop-append_seam front (list_spelling (λ _. plain_entry format) (Some x.0) items) ∙ alike (plain_entry format) (Some x.0) items))
  where
    items : List Entry
    items = items_in (plain_entry format) x.1

    front : List ℕ
    front = 1 ∷ (plain_entry format).spelling x.0

    is : bytes ≡ 1 ∷ behind
    is = (more_takes true bytes (true, behind) more).0

    same : front ++ x.1 ≡ front ++ list_spelling (λ _. plain_entry format) (Some x.0) items
    same = ap (λ l. 1 ∷ l) (sym ((plain_entry_exact format).takes behind x (IsBytes-rest 1 behind (IsBytes-along bytes _ is fits)) read).1)
        ∙ (sym is ∙ (all ∙ ap (records_spelling format) (split_is (plain_entry format) (plain_entry_exact format) bytes behind x fits listed more read).1))

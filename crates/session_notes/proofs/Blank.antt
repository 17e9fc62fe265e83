-- Lists of blank notebooks.
use Rattle.std.proofs.Common.{◌≡◌, ◌+◌, ℕ, List, [], ◌∷◌, ◌++◌, length, ap, ◌∙◌}
use Rattle.std.specs.Prelude.{replicate}
use Rattle.std.proofs.lemmas.List.{length-replicate, replicate-append-replicate}
use Rattle.session_notes.specs.Notebook.{blank}
use Rattle.session_notes.specs.declared.notebook.Notebook.{Notebook}

-- one more
pub one_more : (n : ℕ) (books : List Notebook) (book : Notebook) → books ≡ replicate n blank → book ≡ blank → books ++ book ∷ [] ≡ replicate (n + 1) blank
one_more n books book e f = ap (λ l. l ++ book ∷ []) e ∙ ap (λ z. replicate n blank ++ z ∷ []) f ∙ replicate-append-replicate n 1 blank

pub seventeen : (books : List Notebook) → books ≡ replicate 17 blank → length books ≡ 17
seventeen books e = ap length e ∙ length-replicate 17 blank

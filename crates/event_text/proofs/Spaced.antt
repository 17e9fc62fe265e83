-- Words behind a space each.
use Rattle.std.proofs.Common.{◌≡◌, ℕ, List, [], ◌∷◌, ◌++◌, map, sym, ap, ◌∙◌, append_assoc, append-nil}
use Rattle.std.specs.Prelude.{codes}
use Rattle.event_text.specs.Event.{line_of}
use Rattle.std.specs.Fmt.{decimal}
use Rattle.words.specs.Line.{text_of}

-- numbers behind a space each
abbrev pub spaced : List ℕ → List ℕ
spaced [] = []
spaced (n ∷ numbers) = 32 ∷ (decimal n ++ spaced numbers)

-- a word and numbers behind it
pub text_of-spaced : (word : List ℕ) (numbers : List ℕ) → text_of 32 (word ∷ map decimal numbers) ≡ word ++ spaced numbers
text_of-spaced word [] = sym (append-nil word)
text_of-spaced word (n ∷ numbers) = ap (λ (t : List ℕ). word ++ 32 ∷ t) (text_of-spaced (decimal n) numbers)

-- the line of a `give`, from its parts
pub give_whole : (session : ℕ) (positions start line out : List ℕ) → start ≡ codes "step" ++ (32 ∷ decimal session ++ (32 ∷ codes "give")) → line ≡ start ++ spaced positions → out ≡ line ++ 10 ∷ [] → out ≡ line_of (codes "step" ∷ decimal session ∷ codes "give" ∷ map decimal positions)
give_whole session positions start line out s l o =
    let text : text_of 32 (codes "step" ∷ decimal session ∷ codes "give" ∷ map decimal positions) ≡ line =
    rw (l, s, text_of-spaced (codes "give") positions) (ap (λ (t : List ℕ). codes "step" ++ 32 ∷ t) (sym (append_assoc (decimal session) (32 ∷ codes "give") (spaced positions)))) in
    o ∙ ap (λ (t : List ℕ). t ++ 10 ∷ []) (sym text)

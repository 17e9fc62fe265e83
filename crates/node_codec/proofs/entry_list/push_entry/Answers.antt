use Rattle.std.proofs.Common.{◌≡◌, ◌++◌, ◌∷◌, [], List, ℕ, ap, ◌∙◌, append_assoc}
use Rattle.node_codec.proofs.entry_list.push_entry.Goals as goal

-- over plain lists, since the bytes of a number are long terms
pushed : (out one two three text number : List ℕ) → one ≡ out ++ 1 ∷ [] → two ≡ one ++ text → three ≡ two ++ number → three ≡ out ++ (1 ∷ (text ++ number))
pushed out one two three text number e f g =
    g ∙ ap (λ (s : List ℕ). s ++ number) (f ∙ ap (λ (s : List ℕ). s ++ text) e) ∙ append_assoc (out ++ 1 ∷ []) text number ∙ append_assoc out (1 ∷ []) (text ++ number)

pub returns : goal.returns
returns c = pushed _ _ _ _ _ _ c.in_ok-try_add_u8.ensures c.in_ok-try_add_text8.ensures c.in_ok-try_add_u64.ensures

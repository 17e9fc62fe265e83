-- The newest head that a cloud tells.
use Rattle.std.proofs.Common.{◌≡◌, ◌⊎◌, inl, inr, ℕ, List, [], map, Option, Some, None, Ok, refl, sym, ap, subst, ◌∙◌}
use Rattle.std.specs.Option.{option_and_then}
use Rattle.std.specs.Prelude.{unwrap_or}
use Rattle.cloud_facts.specs.Words.{ObjName, Head, Answer, Version, CloudState, newest, Caller, Claim, GetHeld, got_of, IsCall}
use Rattle.cloud_trait.specs.declared.answer.Answer.TheVariants.{Got}
use Rattle.cloud_trait.specs.State.{newest_of}
use Rattle.cloud_facts.proofs.Decoding.Newest.{IsLast, last_cases, last_map}
use Rattle.head_codec.specs.Head.{empty_head}
use Rattle.head_codec.specs.Spelling.{head_of}
use Rattle.cloud_facts.specs.Book.Telling.{last_or, head_in}

-- the head that the newest bytes spell, the empty one where there are none
abbrev pub head_at : Option (List ℕ) → Head
head_at None = empty_head
head_at (Some bytes) = unwrap_or (head_of bytes) empty_head

by_bytes : (bytes : Option (List ℕ)) → unwrap_or (option_and_then head_of bytes) empty_head ≡ head_at bytes
by_bytes None = refl
by_bytes (Some bytes) = refl

pub newest_head : (vs : List Version) → last_or empty_head (map head_in vs) ≡ head_at (newest_of vs)
newest_head vs = on (last_cases vs)
  where
    on : (vs ≡ []) ⊎ ((v : Version) × IsLast vs v) → last_or empty_head (map head_in vs) ≡ head_at (newest_of vs)
    on (inl e) = subst (λ (ws : List Version). last_or empty_head (map head_in ws) ≡ head_at (newest_of ws)) (sym e) refl
    on (inr (v, last)) =
        last_map head_in empty_head vs v last ∙ by_bytes v.bytes
        ∙ sym (ap (λ (o : Option Version). head_at (option_and_then (λ (w : Version). w.bytes) o)) last)

-- a held get that was answered saw the newest bytes
pub held_seen : (who : Caller) (name : ObjName) (l : Claim) (answer : Answer) (s t : CloudState) → IsCall who (GetHeld name l) answer s t → (v : Option (List ℕ)) → got_of answer ≡ Ok v
    → v ≡ newest s name
held_seen who name l (Got w) s t call v e =
    let same : w ≡ v = cc in
    sym same ∙ call.row.2
held_seen who name l answer s t call v e = absurd (cc)

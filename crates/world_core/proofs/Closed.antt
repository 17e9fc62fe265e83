-- Lists of closed sessions.
use Rattle.std.proofs.Common.{◌≡◌, ◌+◌, ℕ, List, [], ◌∷◌, ◌++◌, length, map, ap, sym, ◌∙◌}
use Rattle.std.specs.Prelude.{replicate}
use Rattle.std.proofs.lemmas.List.{length-map, length-replicate, map_push, replicate-append-replicate}
use Rattle.client_work.specs.Session.{Acting, closed_session}
use Rattle.world_core.specs.World.{all_sessions}

-- one more closed session
pub replicate_more : {X : Type 0} (acting : X → Acting) (n : ℕ) (xs : List X) (x : X) → map acting xs ≡ replicate n closed_session → acting x ≡ closed_session
    → map acting (xs ++ x ∷ []) ≡ replicate (n + 1) closed_session
replicate_more acting n xs x e f =
    map_push acting xs x ∙ ap (λ l. l ++ acting x ∷ []) e ∙ ap (λ z. replicate n closed_session ++ z ∷ []) f ∙ replicate-append-replicate n 1 closed_session

-- as many as there are
pub as_many : {X : Type 0} (acting : X → Acting) (xs : List X) → map acting xs ≡ replicate all_sessions closed_session → length xs ≡ all_sessions
as_many acting xs e = sym (length-map xs acting) ∙ ap length e ∙ length-replicate all_sessions closed_session

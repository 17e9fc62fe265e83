-- What is due, read off the account and off the notes.
use Rattle.std.proofs.Common.{◌≡◌, Bool, true, false, if◌then◌else◌, List, [], ◌∷◌, map, take, refl, sym, ap, ◌∙◌}
use Rattle.std.specs.List.{filter, take-map}
use Rattle.ckpt_policy.specs.declared.counts.Counts.{Counts}
use Rattle.ckpt_policy.specs.declared.note.Note.{Note}
use Rattle.ckpt_policy.specs.declared.place.Place.{Place}
use Rattle.ckpt_policy.specs.declared.role.Role.{Role}
use Rattle.ckpt_policy.specs.declared.role.Role.TheVariants.{Writer, Reader, Watchdog, Owner}
use Rattle.ckpt_policy.specs.Due.{due, place_of_rank, ranked_with}
use Rattle.ckpt_policy.specs.Ledger.{Account, StandsFor}
use Rattle.ckpt_policy.specs.Notes.{counts_at, known, queue_at}
use Rattle.ckpt_policy.specs.Picking.{picked_from, picks, rank_at, ranked_from}

-- the queues picked of so many places
picks-of : (f : Place → Counts) (test : Place → Counts → Bool) (ps : List Place)
    → map (λ e. queue_at e.0) (filter (λ e. test e.0 e.1) (map {B = Place × Counts} (λ p. (p, f p)) ps)) ≡ map queue_at (filter (λ p. test p (f p)) ps)
picks-of f test [] = refl
picks-of f test (p ∷ ps) = on (picks-of f test ps) (test p (f p))
  where
    Same : List Place → Type 0
    Same ps = map (λ e. queue_at e.0) (filter (λ e. test e.0 e.1) (map {B = Place × Counts} (λ p. (p, f p)) ps)) ≡ map queue_at (filter (λ p. test p (f p)) ps)

    on : Same ps → (b : Bool)
        → map (λ e. queue_at e.0) (if b then (p, f p) ∷ filter (λ e. test e.0 e.1) (map {B = Place × Counts} (λ p. (p, f p)) ps) else filter (λ e. test e.0 e.1) (map {B = Place × Counts} (λ p. (p, f p)) ps))
        ≡ map queue_at (if b then p ∷ filter (λ p. test p (f p)) ps else filter (λ p. test p (f p)) ps)
    on deep true = ap (λ l. queue_at p ∷ l) deep
    on deep false = deep

ranks-of : (f : Place → Counts) (ps : List Place) → map rank_at (map {B = Place × Counts} (λ p. (p, f p)) ps) ≡ map (λ p. rank_at (p, f p)) ps
ranks-of f [] = refl
ranks-of f (p ∷ ps) = ap (λ l. rank_at (p, f p) ∷ l) (ranks-of f ps)

-- a role that picks queue by queue
pub picked-due : (a : Account) (ns : List Note) → StandsFor a ns → (role : Role) → a.role ≡ role → (role ≡ Watchdog → ⊥) → picked_from a ≡ due a.role a.k a.client ns
picked-due a ns h role is other =
    ap (λ counts. map (λ e. queue_at e.0) (filter (λ e. picks a.role a.k a.client e.0 e.1) counts)) h
    ∙ picks-of (counts_at ns) (picks a.role a.k a.client) (known ns)
    ∙ ap (λ r. map queue_at (filter (λ p. picks r a.k a.client p (counts_at ns p)) (known ns))) is
    ∙ on role other
    ∙ ap (λ r. due r a.k a.client ns) (sym is)
  where
    on : (role : Role) → (role ≡ Watchdog → ⊥) → map queue_at (filter (λ p. picks role a.k a.client p (counts_at ns p)) (known ns)) ≡ due role a.k a.client ns
    on Writer other = refl
    on Reader other = refl
    on Watchdog other = absurd (other refl)
    on Owner other = refl

-- the watchdog
pub ranked-due : (a : Account) (ns : List Note) → StandsFor a ns → a.role ≡ Watchdog → take a.k (map queue_at (ranked_from a.counts)) ≡ due a.role a.k a.client ns
ranked-due a ns h is =
    take-map queue_at a.k (ranked_from a.counts)
    ∙ ap (λ counts. map queue_at (take a.k (ranked_from counts))) h
    ∙ ap (λ ranks. map queue_at (take a.k (map place_of_rank (ranked_with [] ranks)))) (ranks-of (counts_at ns) (known ns))
    ∙ ap (λ r. due r a.k a.client ns) (sym is)

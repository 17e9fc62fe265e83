-- A walk looks for the key that it began with, in the tree that it began with.
use Rattle.std.proofs.Common.{◌≡◌, ℕ, false, List, [], Option, Some, unwrap_or, refl, ap, subst}
use Rattle.cloud_trait.specs.declared.answer.Answer.{Answer}
use Rattle.cloud_trait.specs.Machine.{Goes}
use Rattle.page_cache.specs.Cache.{Cache}
use Rattle.tree_walk.specs.Walk.{Walk, new_walk, sought, walk_ready, walk_next}
use Rattle.tree_walk.proofs.Stays.{WalksBeside, ready_walks, next_walks}

-- a read that begins looks for its key
pub reading_begins : (tree : ℕ) (key : List ℕ) (c d : Cache) (m : Walk) → walk_ready (new_walk tree (Some key) false, c) ≡ Goes (m, d) → (m.tree ≡ tree) × (sought m ≡ key)
reading_begins tree key c d m ready =
    let walks = subst (WalksBeside tree (Some key)) ready (ready_walks tree (Some key) false c) in
    (walks.1.0, ap (λ (k : Option (List ℕ)). unwrap_or k []) walks.1.1)

-- and goes on to look for it
pub reading_goes : (m n : Walk) (c d : Cache) (a : Answer) → walk_next (m, c) a ≡ Goes (n, d) → (n.tree ≡ m.tree) × (sought n ≡ sought m)
reading_goes m n c d a next =
    let walks = subst (WalksBeside m.tree m.key) next (next_walks m.tree m.key (m, c) a (refl, refl)) in
    (walks.1.0, ap (λ (k : Option (List ℕ)). unwrap_or k []) walks.1.1)

-- The leases of the tree and of a leaf guard what is put under them.
use Rattle.std.proofs.Common.{◌≡◌, ◌+◌, ◌⊎◌, inl, inr, ℕ, Bool, false, List, [], ◌∷◌, ◌++◌, length, map, reverse, Option, Some, None, refl, sym, ap, subst, ◌∙◌, arith, length-append}
use Rattle.cloud_facts.specs.Chains.Cuts.{leaf_node}
use Rattle.cloud_facts.specs.Chains.Links.{top_of}
use Rattle.cloud_facts.specs.Words.{Entry, CloudState, Claim, Lasts, Book, Link, Node, nodes_of, roots_of, store_of, StandsUnder}
use Rattle.db_base.specs.declared.names.Lock.TheVariants as lock
use Rattle.tree_phases.specs.declared.folding.Folding.{Folding}
use Rattle.tree_phases.specs.Folding.{folding_ask}
use Rattle.cloud_facts.specs.Leases.Guards.{IsGuarded}
use Rattle.split_plan.specs.Part.{Part, LeafPart}
use Rattle.split_plan.specs.Plan.{put_of, on_pages, leaf_bytes}
use Rattle.cloud_facts.specs.Book.Telling.{gone_of}
use Rattle.session_facts.specs.Machines.Trees.Leaves.{IsPutting}
use Rattle.session_facts.specs.Machines.Folds.Knows.{Reserves, PutsPieces}
use Rattle.session_facts.specs.Machines.Trees.Placings.{AreReserved, numbered}
use Rattle.cloud_facts.specs.Calls.Pages.{IsTreePage}
use Rattle.session_facts.proofs.Machines.Folds.Puts.{page_asked, root_asked}
use Rattle.session_facts.proofs.Machines.Trees.Placings.{last_cases, puts_more}
use Rattle.cloud_facts.proofs.Calls.Guarding.{leaf_guard, tree_guard}
use Rattle.session_facts.proofs.Machines.Runs.Leaves.{linked_kept}
use Rattle.tree_phases.specs.Read.{tree_held}

-- a number that is reserved and was not put yet is a page of the tree's, and was not removed
pub reserved_page : {A X : Type 0} (node : Part A X → Node) (chain : ℕ → List Link) (nodes : ℕ → List Node) (gone : ℕ → Bool) (next first : ℕ) (middle : List (Part A X)) (last : Part A X)
    (behind : List (Part A X)) → AreReserved node chain nodes gone next (numbered first (middle ++ last ∷ []) behind)
    → (gone (first + length middle) ≡ false) × IsTreePage nodes (first + length middle)
reserved_page node chain nodes gone next first middle last behind r = (
  r.there (first + length middle) (omega arith) (omega (arith, more)),
  inl (r.absent (first + length middle) (omega arith) (omega (arith, more)), λ e. let above = r.above (first + length middle) (omega arith) (omega (arith, more)) in absurd (omega (arith, above, e))),
)
  where
    more : length (middle ++ last ∷ []) ≡ length middle + 1
    more = length-append middle (last ∷ [])

-- ---- at a leaf

module _ (book : Book) (order : List Entry) (s : CloudState) (stands : StandsUnder book order s) (now : ℕ) (lease : Claim) (f : Folding) (ids : List ℕ)
    (lock_is : lease.lock ≡ lock.Tree f.chart.tree) (p : IsPutting (store_of book order s) now lease f ids) where
  abbrev tree : ℕ
  tree = f.chart.tree

  abbrev k : PutsPieces (store_of book order s) now lease f f.chart.run.items
  k = p.puts

  pub leaf_guarded : IsGuarded s now (folding_ask f lease)
  leaf_guarded = on f.placing.reserved refl
    where
      left : f.placing.reserved ≡ None → k.placing.middle ≡ [] → IsGuarded s now (folding_ask f lease)
      left none is =
          subst (IsGuarded s now) (sym (page_asked f lease (record { page = f.page; bytes = leaf_bytes k.placing.front }) [] none lone))
          (λ lasts. let newest = k.newest lasts.1 in
          inr (p.lock_is ∙ sym (leaf_guard s tree f.page stands.decodes (linked_kept (store_of book order s) stands.holds.gones tree 0 f.page k.linked)
          (record { leaf = k.leaf; is = newest.is; absent = newest.absent }))))
        where
          lone : f.placing.puts ≡ record { page = f.page; bytes = leaf_bytes k.placing.front } ∷ []
          lone = k.placing.puts_are ∙ ap (λ (m : List LeafPart). reverse (map (put_of leaf_bytes) (on_pages f.page k.first (k.placing.front ∷ m)))) is

      piece : f.placing.reserved ≡ None → (middle : List LeafPart) (last : LeafPart) → k.placing.middle ≡ middle ++ last ∷ [] → IsGuarded s now (folding_ask f lease)
      piece none middle last is =
          subst (IsGuarded s now)
          (sym (page_asked f lease (record { page = k.first + length middle; bytes = leaf_bytes last }) (reverse (map (put_of leaf_bytes) (on_pages f.page k.first (k.placing.front ∷ middle)))) none puts))
          (λ lasts.
          let own = reserved_page leaf_node (book.chain tree) (nodes_of s tree) (gone_of s tree) (top_of (roots_of s tree)).next k.first middle last k.placing.behind (reserved lasts.0) in
          inl (lock_is ∙ sym (tree_guard s tree (k.first + length middle) stands.decodes own.0 own.1)))
        where
          puts : f.placing.puts
              ≡ record { page = k.first + length middle; bytes = leaf_bytes last } ∷ reverse (map (put_of leaf_bytes) (on_pages f.page k.first (k.placing.front ∷ middle)))
          puts =
              k.placing.puts_are
              ∙ (ap (λ (m : List LeafPart). reverse (map (put_of leaf_bytes) (on_pages f.page k.first (k.placing.front ∷ m)))) is
              ∙ puts_more leaf_bytes f.page k.first k.placing.front middle last)

          reserved : Lasts now lease → AreReserved leaf_node (book.chain tree) (nodes_of s tree) (gone_of s tree) (top_of (roots_of s tree)).next (numbered k.first (middle ++ last ∷ []) k.placing.behind)
          reserved lasts =
              subst (λ (m : List LeafPart). AreReserved leaf_node (book.chain tree) (nodes_of s tree) (gone_of s tree) (top_of (roots_of s tree)).next (numbered k.first m k.placing.behind)) is
              (subst (λ (o : Option (List ℕ)). Reserves (store_of book order s) (Lasts now lease) tree (tree_held f.chart.root) (numbered k.first k.placing.middle k.placing.behind) o) none k.reserves lasts)

      by_pieces : f.placing.reserved ≡ None → (k.placing.middle ≡ []) ⊎ ((front : List LeafPart) × (last : LeafPart) × (k.placing.middle ≡ front ++ last ∷ []))
          → IsGuarded s now (folding_ask f lease)
      by_pieces none (inl is) = left none is
      by_pieces none (inr (front, last, is)) = piece none front last is

      on : (o : Option (List ℕ)) → f.placing.reserved ≡ o → IsGuarded s now (folding_ask f lease)
      on (Some bytes) some = subst (IsGuarded s now) (sym (root_asked f lease bytes some)) (λ lasts. inl lock_is)
      on None none = by_pieces none (last_cases k.placing.middle)

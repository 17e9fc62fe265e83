-- What a walk used prunes the head of a commit by entries that are applied.
use Rattle.std.proofs.Common.{◌≡◌, ℕ, Option, Some, None, refl, sym, subst, ◌∙◌, arith}
use Rattle.cloud_facts.specs.Calls.Acting.{opened_client, IsPruned, KnowsHome}
use Rattle.cloud_facts.proofs.Calls.OthersLemmas.{pruned_again}
use Rattle.cloud_facts.specs.Words.{IsTree, ObjName, Head, Leaf, Tree, Lasts, Store, IsIn}
use Rattle.session_facts.specs.Machines.Openings.Client.{AreOfRecords, AreCounted}
use Rattle.session_facts.specs.Machines.Commits.Knows.{KnowsTaken}
use Rattle.commit_run.specs.Draft.{Draft, pruned_by_root, pruned_by_kept, pruned_with, pruned_behind}
use Rattle.session_facts.specs.Machines.CommitRuns.Knows.{KnowsDraft}
use Rattle.commit_writes.specs.Writing.{pruned}
use Rattle.db_base.specs.declared.names.ObjName.TheVariants as object
use Rattle.head_codec.specs.declared.lists.Pending.{Pending}
use Rattle.cloud_facts.specs.Homes.Homes.{Part}
use Rattle.cloud_facts.specs.Landings.Holding.{Holds}
use Rattle.page_cache.specs.Cache.{Cache}
use Rattle.page_cache.specs.Held.{leaf_at, root_at}
use Rattle.recover_run.specs.declared.home.Home.{Home as Held}
use Rattle.route_plan.specs.Prune.{is_applied_in, pruned_by_leaf, is_covered_by, pruned_by_tree}
use Rattle.cloud_facts.specs.Book.Premises.{IsLeafAtMost}
use Rattle.tree_walk.specs.Walk.{Walk, sought}
use Rattle.session_facts.specs.Machines.Walks.Caches.{KnowsCache}
use Rattle.session_facts.specs.Machines.Walks.Knows.{WasUsed, KnowsWalk}
use Rattle.session_facts.proofs.Machines.Walks.Caches.{seen_root, seen_leaf}
use Rattle.session_facts.proofs.Machines.Walks.Prunings.{kept_from, own_entries, leaf_prunes, root_prunes}

-- ---- a draft

-- while the lease lasts the pending entries are of committed records, and so of trees
pub taken_entries : (st : Store) (now : ℕ) (home : Held) (part : Part) → Holds st → KnowsTaken st now home part → Lasts now home.lease
    → AreOfRecords st.book.log home.client home.head.pending
taken_entries st now home part h t lasts = own_entries st home.client home.head h.pends t.home.at.is_client (t.home.at.newest lasts)

module _ (st : Store) (now : ℕ) (h : Holds st) (part : Part) (d : Draft) (k : KnowsDraft st now d part) where
  -- with a head that is pruned once more
  with_pruned : (head : Head) → head.epoch ≡ d.writes.home.head.epoch → head.txn ≡ d.writes.home.head.txn → head.phase ≡ d.writes.home.head.phase
      → head.counters ≡ d.writes.home.head.counters → (Lasts now d.writes.home.lease → IsPruned st.tally d.writes.home.client d.writes.home.head head)
      → ((p : Pending) → IsIn head.pending p → IsIn d.writes.home.head.pending p) → KnowsDraft st now (record d { writes = pruned d.writes head }) part
  with_pruned head epoch txn phase counters prunes from = record {
    taken = record { before = k.taken.before; taken = k.taken.taken; home = record { at = home; trees = λ p is. k.taken.home.trees p (from p is); of_records = λ p is. k.taken.home.of_records p (from p is); counted = subst (AreCounted st.book.log d.writes.home.client) (sym counters) k.taken.home.counted } };
    may = k.may;
    some = k.some;
    none = k.none;
    plan = k.plan;
  }
    where
      home : KnowsHome st now (opened_client d.writes.home.client d.writes.home.lease head k.taken.before) part
      home = record {
        is_client = k.taken.home.at.is_client;
        lock_is = k.taken.home.at.lock_is;
        within = let within = k.taken.home.at.within in omega (arith, within, txn);
        settled = phase ∙ k.taken.home.at.settled;
        newest = λ lasts.
            pruned_again st.tally d.writes.home.client (st.tally.head d.writes.home.client) d.writes.home.head head (k.taken.home.at.newest lasts) (prunes lasts);
        home = k.taken.home.at.home;
        part_is = k.taken.home.at.part_is;
        client_is = k.taken.home.at.client_is;
        lease_is = k.taken.home.at.lease_is;
        epoch_is = k.taken.home.at.epoch_is ∙ sym epoch;
        begun = k.taken.home.at.begun;
      }

  own : Lasts now d.writes.home.lease → AreOfRecords st.book.log d.writes.home.client d.writes.home.head.pending
  own lasts = taken_entries st now d.writes.home part h k.taken lasts

  module _ (w : Walk) (c : Cache) (walk : KnowsWalk st w) (cache : KnowsCache st c) where
    abbrev Behind : Option ObjName → Type 0
    Behind used = KnowsDraft st now (record d { writes = pruned_with d.writes c used }) part

    abbrev Used : Option ObjName → Type 0
    Used used = WasUsed st.book w.tree (sought w) used

    by_root : (tree : ℕ) → Used (Some (object.Tree tree)) → (o : Option Tree) → root_at c (object.Tree tree) ≡ o
        → KnowsDraft st now (record d { writes = pruned_by_root d.writes tree o }) part
    by_root tree used None e = k
    by_root tree used (Some root) e =
        with_pruned (pruned_by_tree d.writes.home.head d.writes.home.client tree root) refl refl refl refl
        (λ lasts. root_prunes st h.chains d.writes.home.client tree k.taken.home.at.is_client (subst IsTree (sym used) walk.tree) h.numbers d.writes.home.head
        (own lasts) root (seen_root st c tree root cache e))
        (λ p is. kept_from (is_covered_by root d.writes.home.client tree) d.writes.home.head.pending p is)

    by_leaf : (tree page : ℕ) → Used (Some (object.Page tree page)) → (o : Option Leaf) → leaf_at c (object.Page tree page) ≡ o
        → KnowsDraft st now (record d { writes = pruned_by_kept d.writes tree o }) part
    by_leaf tree page used None e = k
    by_leaf tree page used (Some leaf) e =
        with_pruned (pruned_by_leaf d.writes.home.head d.writes.home.client tree leaf) refl refl refl refl
        (λ lasts. leaf_prunes st h.chains d.writes.home.client tree k.taken.home.at.is_client (subst IsTree (sym used.0) walk.tree) d.writes.home.head page (sought w)
        leaf
        (subst (λ t. IsLeafAtMost st.book t page (sought w)) (sym used.0) used.1) (seen_leaf st c tree page leaf cache e))
        (λ p is. kept_from (is_applied_in leaf d.writes.home.client tree) d.writes.home.head.pending p is)

    by_used : (used : Option ObjName) → Used used → Behind used
    by_used None used = k
    by_used (Some (object.Head client)) used = k
    by_used (Some (object.Tree tree)) used = by_root tree used (root_at c (object.Tree tree)) refl
    by_used (Some (object.Page tree page)) used = by_leaf tree page used (leaf_at c (object.Page tree page)) refl

    pub draft_prunes : KnowsDraft st now (pruned_behind d w c) part
    draft_prunes = by_used w.used walk.used

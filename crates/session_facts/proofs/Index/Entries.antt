-- Where nothing is left to apply, the index finds what all committed entries come to, and the index by attribute has an entry for each record with one.
use Rattle.std.proofs.Common.{◌≡◌, ◌⊎◌, inl, inr, ℕ, List, [], Some, None, Bool, refl, subst, arith, eqb-true, eq-eqb}
use Rattle.std.specs.Prelude.{◌==◌}
use Rattle.cloud_facts.proofs.Meanings.Reports.{leaves_in, store_reads}
use Rattle.cloud_facts.proofs.Landings.ReportLemmas.{reportable}
use Rattle.cloud_facts.proofs.Numbers.Lists.{filter_there, filter_at}
use Rattle.cloud_facts.specs.Words.{IsTree, Entry, CloudState, Store, IsIn, store_of}
use Rattle.cloud_facts.specs.Landings.Reporting.{IsReportable}
use Rattle.cloud_facts.specs.Meanings.Contents.{IsRead}
use Rattle.db_base.specs.Entry.{entry_bytes, index_insert}
use Rattle.db_base.specs.Ids.{index_of}
use Rattle.db_base.specs.Key.{IsKey}
use Rattle.db_base.specs.Value.{Value}
use Rattle.history.specs.Audited.{Audited}
use Rattle.history.specs.Fold.{no_records, fold, of_tree}
use Rattle.history.specs.Legal.{IsLegal}
use Rattle.replay_meaning.specs.Committed.{committed}
use Rattle.replay_meaning.specs.Index.{Finds}
use Rattle.replay_meaning.specs.Right.{HoldsAll}
use Rattle.replay_meaning.specs.Standing.{Line}
use Rattle.session_facts.proofs.Index.Once.{finds_once, found_key}
use Rattle.session_facts.proofs.Index.Folds.{HasAttr, Inserts, attr_from, inserted}
use Rattle.session_facts.proofs.Index.NewestLeaves.{all_left}
use Rattle.session_facts.specs.Lines.Facts.{CloudHolds}
use Rattle.session_facts.specs.Index.Entries.{AreIndexed, HasNoDelete, IsWholeOrder, HasEntry}
use Rattle.session_facts.specs.Machines.Looks.Knows.{IsIndexed}
use Rattle.session_facts.specs.Index.NewestLeaves.{IsAllApplied}
use Rattle.session_facts.specs.Sessions.Knows.{Sessions}

-- the entries of a tree are among all
in_all : (tree : ℕ) (entries : List Entry) (e : Entry) → IsIn (of_tree tree entries) e → IsIn entries e × (e.tree ≡ tree)
in_all tree entries e there =
    let at = filter_there (λ (x : Entry). x.tree == tree) entries there.0 e there.1 in
    ((at.place, at.there), eqb-true e.tree tree at.test)

in_tree : (tree : ℕ) (entries : List Entry) (e : Entry) → IsIn entries e → e.tree ≡ tree → IsIn (of_tree tree entries) e
in_tree tree entries e there own = filter_at (λ (x : Entry). x.tree == tree) entries there.0 e (eq-eqb e.tree tree own) there.1

module _ (n : ℕ) (lines : List Line) (sessions : Sessions) (audit : Audited) (blind : Bool) (t : CloudState)
    (h : CloudHolds n lines sessions audit blind t) where
  abbrev st : Store
  st = store_of h.book h.order t

  abbrev ordered : ℕ → List Entry
  ordered tree = of_tree tree h.order

  report : (tree : ℕ) → IsReportable st tree
  report tree = reportable st h.stand.cloud.holds tree

  legal : (tree : ℕ) → IsLegal (ordered tree) (of_tree tree (committed lines t))
  legal tree = subst (λ (es : List Entry). IsLegal (ordered tree) (of_tree tree es)) h.cloud.committed (report tree).legal

  -- where nothing is left the order holds all
  whole : (tree : ℕ) → IsTree tree → IsAllApplied (committed lines t) t tree → HoldsAll (ordered tree) (of_tree tree (committed lines t))
  whole tree is all =
      subst (λ (es : List Entry). HoldsAll (ordered tree) (of_tree tree es)) h.cloud.committed
      ((report tree).complete (all_left n lines sessions audit blind t h tree is all))

  -- the index finds what it comes to
  found : (tree : ℕ) → IsTree tree → (key : List ℕ) → Finds t tree key (fold (ordered tree) tree key)
  found tree is key =
      let read : IsRead t tree (leaves_in st tree) (st.tally.value tree) = store_reads t st tree refl h.stand.cloud.holds.chains h.stand.cloud.holds.gones is h.stand.cloud.decodes in
      subst (Finds t tree key) ((report tree).folded key) (read.found key)

  -- an order of all that was committed comes to what is found
  pub whole_order : (tree : ℕ) → IsTree tree → IsAllApplied (committed lines t) t tree → (order : List Entry) × IsWholeOrder (committed lines t) t tree order
  whole_order tree is all = (ordered tree, record { legal = legal tree; whole = whole tree is all; found = found tree is })

  -- what stands in the order was committed
  in_committed : (tree : ℕ) (e : Entry) → IsIn (ordered tree) e → IsIn (committed lines t) e × (e.tree ≡ tree)
  in_committed tree e there = in_all tree (committed lines t) e ((legal tree).all_committed there.0 e there.1)

  module _ (tree : ℕ) (is : IsIndexed tree) (all : IsAllApplied (committed lines t) t (index_of tree))
      (indexed : AreIndexed (committed lines t) tree) (kept : HasNoDelete (committed lines t) (index_of tree)) where
    own_tree : IsTree tree
    own_tree = let few = is.most in record { some = is.some; most = omega (arith, few) }

    index_tree : IsTree (index_of tree)
    index_tree = let few = is.most in record { some = omega arith; most = omega (arith, few) }

    -- an insert of a record with an attribute was applied, and so that of its entry
    entry_for : (key attr : List ℕ) → IsKey key → Inserts (ordered tree) tree key attr → HasEntry t tree attr key
    entry_for key attr own_key i = record {
      some = own_key.some;
      short = (found_key t (index_of tree) (entry_bytes attr key) stays.0 there).short;
      value = stays.0;
      found = there;
    }
      where
        insert : Entry
        insert = record i.entry { tree = index_of tree; change = index_insert attr key }

        joined : IsIn (committed lines t) insert
        joined = indexed i.entry key i.payload attr (in_committed tree i.entry i.is).0 i.own i.change

        applied : IsIn (ordered (index_of tree)) insert
        applied = let place = in_tree (index_of tree) (committed lines t) insert joined refl in whole (index_of tree) index_tree all place.0 insert place.1

        none_deleted : HasNoDelete (ordered (index_of tree)) (index_of tree)
        none_deleted e k in_order own deletes = kept e k (in_committed (index_of tree) e in_order).0 own deletes

        stays : (v : Value) × (fold (ordered (index_of tree)) (index_of tree) (entry_bytes attr key) ≡ Some v)
        stays = inserted no_records (ordered (index_of tree)) (index_of tree) insert (entry_bytes attr key) [] None none_deleted applied refl refl

        there : Finds t (index_of tree) (entry_bytes attr key) (Some stays.0)
        there = subst (Finds t (index_of tree) (entry_bytes attr key)) stays.1 (found (index_of tree) index_tree (entry_bytes attr key))

    -- the index by attribute has an entry for each record with one
    pub entry_found : (key attr : List ℕ) (v : Value) → Finds t tree key (Some v) → v.attr ≡ Some attr → HasEntry t tree attr key
    entry_found key attr v finds has =
        on (attr_from no_records (ordered tree) tree key attr (record { value = v; there = folded; has = has }))
      where
        folded : fold (ordered tree) tree key ≡ Some v
        folded = finds_once t tree key (fold (ordered tree) tree key) (Some v) (found tree own_tree key) finds

        on : HasAttr None attr ⊎ Inserts (ordered tree) tree key attr → HasEntry t tree attr key
        on (inl before) = let no : None ≡ Some before.value = before.there in absurd (cc (no))
        on (inr i) = entry_for key attr (found_key t tree key v finds) i

-- Where all is applied and the index has all entries, newest leaves show a look-up everything still.
use Rattle.std.proofs.Common.{◌≡◌, ℕ, true, Bool, List, [], Option, Some, None, ap, subst, ◌∙◌, arith}
use Rattle.std.specs.List.{AllByRecursion}
use Rattle.attr_index.proofs.Ascents.{each_by}
use Rattle.attr_index.specs.Meaning.{Visit, tree_at}
use Rattle.attr_index.specs.Look.{Query, Own, has_attr}
use Rattle.attr_index.specs.Tagged.{IsIndexed, ShowsAll, ShowsAt, ShowsVisit, IsStill}
use Rattle.attr_index.specs.declared.stage.Stage.{Stage}
use Rattle.attr_index.specs.declared.stage.Stage.TheVariants.{Index, Records}
use Rattle.byte_format.proofs.OrderLemmas.{same_is}
use Rattle.client_work.specs.Shows.{own_of}
use Rattle.cloud_facts.specs.Words.{IsTree, Leaf, CloudState}
use Rattle.db_base.specs.Entry.{entry_bytes}
use Rattle.db_base.specs.Ids.{index_of}
use Rattle.db_base.specs.Value.{Value}
use Rattle.history.specs.Audited.{Audited}
use Rattle.recover_run.specs.declared.home.Home.{Home}
use Rattle.replay_meaning.specs.Chain.{Walked}
use Rattle.replay_meaning.specs.Committed.{committed}
use Rattle.replay_meaning.specs.Index.{Finds}
use Rattle.replay_meaning.specs.Right.{value_at}
use Rattle.replay_meaning.specs.Standing.{Line}
use Rattle.report_types.specs.declared.stored.Stored.{Stored}
use Rattle.session_facts.proofs.Index.Once.{finds_once}
use Rattle.session_facts.proofs.Index.Entries.{entry_found}
use Rattle.session_facts.proofs.Index.NewestLeaves.{newest_seen, contents_are, has_contents}
use Rattle.session_facts.proofs.Index.Stored.{are_records, found_is_key}
use Rattle.session_facts.specs.Lines.Facts.{CloudHolds}
use Rattle.session_facts.specs.Index.Entries.{HasEntry as FindsEntry}
use Rattle.session_facts.specs.Machines.Looks.Knows.{IsIndexed as HasIndex}
use Rattle.session_facts.specs.Index.NewestLeaves.{IsAllApplied, IsNewestAt, AreContents}
use Rattle.session_facts.specs.Sessions.Knows.{Sessions}
use Rattle.session_facts.specs.Index.Whole.{IsIndexWhole}

-- a value has the attribute
has_it : (attr : List ℕ) (o : Option (List ℕ)) → has_attr attr o ≡ true → o ≡ Some attr
has_it attr None h = absurd (cc (h))
has_it attr (Some of) h = ap Some (same_is of attr h)

module _ (n : ℕ) (lines : List Line) (sessions : Sessions) (audit : Audited) (blind : Bool) (t : CloudState)
    (h : CloudHolds n lines sessions audit blind t) (home : Home) (q : Query)
    (has : HasIndex q.tree) (whole : IsIndexWhole (committed lines t) t q.tree) (contents : List Stored) (are : AreContents t q.tree contents) where
  abbrev pub own : Own
  own = own_of home []

  abbrev pub value : List ℕ → Option Value
  value key = value_at key contents

  pub is_tree : IsTree (index_of q.tree)
  is_tree = let some = has.some in let most = has.most in record { some = omega (arith, some); most = omega (arith, most) }

  -- the records of the index
  pub entries : (records : List Stored) × Walked t (index_of q.tree) 0 records
  entries = has_contents n lines sessions audit blind t h (index_of q.tree) is_tree

  entries_are : AreContents t (index_of q.tree) entries.0
  entries_are = contents_are n lines sessions audit blind t h (index_of q.tree) is_tree entries.0 entries.1

  abbrev pub index : List ℕ → Option Value
  index key = value_at key entries.0

  shows_all : (tree : ℕ) (leaf : Leaf) (records : List Stored) → IsAllApplied (committed lines t) t tree → AreContents t tree records
      → IsNewestAt (committed lines t) t tree home leaf → ShowsAll own tree (λ key. value_at key records) leaf
  shows_all tree leaf records all contain is key held =
      newest_seen (committed lines t) t tree home leaf is all key held ∙ finds_once t tree key _ _ (is.finds key held) (contain.found key)

  shows_at : (stage : Stage) (leaf : Leaf) → IsNewestAt (committed lines t) t (tree_at q stage) home leaf → ShowsAt q own value index stage leaf
  shows_at Index leaf is = shows_all (index_of q.tree) leaf entries.0 whole.index entries_are is
  shows_at Records leaf is = shows_all q.tree leaf contents whole.records are is

  has_entries : IsIndexed q value index
  has_entries key v at with_attr =
      let found : Finds t q.tree key (Some v) = subst_found v at in
      let e : FindsEntry t q.tree q.attr key =
      entry_found n lines sessions audit blind t h q.tree has whole.index whole.entries whole.undeleted key q.attr v found (has_it q.attr v.attr with_attr) in
      record {
        some = (found_is_key t q.tree key v found).some;
        short = e.short;
        entry = e.value;
        there = finds_once t (index_of q.tree) (entry_bytes q.attr key) _ _ (entries_are.found (entry_bytes q.attr key)) e.found;
      }
    where
      subst_found : (w : Value) → value_at key contents ≡ Some w → Finds t q.tree key (Some w)
      subst_found w is = subst (Finds t q.tree key) is (are.found key)

  pub still : (vs : List Visit) → AllByRecursion (λ (v : Visit). IsNewestAt (committed lines t) t (tree_at q v.stage) home v.leaf) vs
      → IsStill q own contents value index vs
  still vs each = record {
    are = are_records contents are.ascending;
    indexed = has_entries;
    shown = each_by (λ (v : Visit). IsNewestAt (committed lines t) t (tree_at q v.stage) home v.leaf) (ShowsVisit q own value index)
        (λ v is. shows_at v.stage v.leaf is) vs each;
  }

-- What a tree has where nothing of it is left and all that was committed of it are inserts of distinct keys.
use Rattle.std.proofs.Common.{◌≡◌, ℕ, Bool, List, None, refl, sym, ap, subst, ◌∙◌}
use Rattle.cloud_facts.proofs.Meanings.Reports.{leaves_in, store_reads}
use Rattle.cloud_facts.specs.Words.{IsTree, Entry, CloudState, Book, Store, store_of}
use Rattle.cloud_facts.specs.Book.Records.{entries_of}
use Rattle.cloud_facts.specs.Landings.Reporting.{IsReportable}
use Rattle.cloud_facts.specs.Meanings.Contents.{IsRead}
use Rattle.history.specs.Audited.{Audited}
use Rattle.history.specs.Fold.{of_tree}
use Rattle.history.specs.Legal.{IsLegal}
use Rattle.leaf_view.specs.Fits.{Ascend}
use Rattle.report_types.specs.declared.stored.Stored.{Stored}
use Rattle.replay_meaning.specs.Committed.{committed}
use Rattle.replay_meaning.specs.Right.{HoldsAll, stored_below}
use Rattle.replay_meaning.specs.Standing.{Line}
use Rattle.session_facts.proofs.Reports.Left.{nothing_left}
use Rattle.session_facts.proofs.Sessions.Laws.{reports, chains, decodes, gones, numbers}
use Rattle.session_facts.specs.Lines.Facts.{Stands}
use Rattle.session_facts.specs.Sessions.Knows.{Sessions, SessionsStand}
use Rattle.replay_meaning.specs.Chain.{Walked, records_of}
use Rattle.world_audit.specs.Counts.{heads_upto, AreWaiting}
use Rattle.schedule_run.specs.Loads.Inserts.{InsertAll}
use Rattle.schedule_run.proofs.Loads.Folds.{inserts_fold}
use Rattle.schedule_run.proofs.Loads.SameRecords.{ascending_distinct, ascending_same}

pub contents_are : (lines : List Line) (sessions : Sessions) (a : Audited) (blind : Bool) (t : CloudState) (tree : ℕ) (records : List Stored) → Stands lines sessions a blind t → IsTree tree
    → heads_upto t tree (of_tree tree (committed lines t)) 64 ≡ 0 → AreWaiting t tree 0 → Ascend stored_below None records → InsertAll tree records (of_tree tree (committed lines t))
    → Walked t tree 0 records
contents_are lines sessions a blind t tree records stands is heads messages up inserts =
    record { leaves = leaves_in st tree; lead = read.chain; are = sym same }
  where
    book : Book
    book = stands.holds.book

    order : List Entry
    order = stands.holds.order

    st : Store
    st = store_of book order t

    stand : SessionsStand book order t sessions
    stand = stands.holds.stand

    read : IsRead t tree (leaves_in st tree) (st.tally.value tree)
    read = store_reads t st tree refl (chains book order t sessions stand) (gones book order t sessions stand) is (decodes book order t sessions stand)

    reportable : IsReportable st tree
    reportable = reports book order t sessions stand tree

    by_log : of_tree tree (entries_of book.log) ≡ of_tree tree (committed lines t)
    by_log = ap (of_tree tree) stands.holds.cloud.committed

    complete : HoldsAll (of_tree tree order) (of_tree tree (committed lines t))
    complete =
        subst (HoldsAll (of_tree tree order)) by_log
        (reportable.complete (nothing_left book order t tree (chains book order t sessions stand) (numbers book order t sessions stand) (ap (λ es. heads_upto t tree es 64) by_log ∙ heads) messages))

    legal : IsLegal (of_tree tree order) (of_tree tree (committed lines t))
    legal = subst (IsLegal (of_tree tree order)) by_log reportable.legal

    all : InsertAll tree records (of_tree tree order)
    all = record {
      alone = λ place e at own. let c = legal.all_committed place e at in inserts.alone c.0 e c.1 own;
      each = λ place stored at. let e = inserts.each place stored at in let o = complete e.0 e.1 e.2 in (o.0, e.1, o.1, e.3, e.4);
    }

    same : records_of (leaves_in st tree) ≡ records
    same =
        ascending_same None None (records_of (leaves_in st tree)) records read.ascending up
        (λ key. read.contents key ∙ reportable.folded key ∙ inserts_fold tree records (of_tree tree order) (ascending_distinct None records up) all key)

-- A report by an audit that saw all, and by looks at a cloud that stands, is right.
use Rattle.std.proofs.Common.{◌≡◌, ℕ, List, None, length, refl, sym, ap, subst, ◌∙◌, false}
use Rattle.cloud_facts.specs.Words.{IsTree, Entry, CloudState, Book, Store, store_of}
use Rattle.cloud_trait.specs.Growth.{BeginsWith}
use Rattle.history.specs.Audited.{Audited}
use Rattle.leaf_view.specs.Fits.{Ascend}
use Rattle.history.specs.Fold.{fold, of_tree}
use Rattle.history.specs.Legal.{IsLegal}
use Rattle.report_types.specs.declared.report.Report.{Report}
use Rattle.report_types.specs.declared.stored.Stored.{Stored}
use Rattle.reply_text.specs.declared.reply.Reply.{Reply}
use Rattle.reply_text.specs.declared.reply.Reply.TheVariants as reply
use Rattle.session_facts.proofs.Rows.Sent.{order_sent}
use Rattle.cloud_facts.specs.Landings.Reporting.{IsReportable}
use Rattle.cloud_facts.specs.Meanings.Contents.{IsRead}
use Rattle.cloud_facts.proofs.Meanings.Reports.{leaves_in, store_reads, all_leaves, finds_contents}
use Rattle.replay_meaning.specs.Chain.{AreLeaves, Walked}
use Rattle.replay_meaning.specs.Index.{Finds}
use Rattle.cloud_facts.specs.Book.Records.{entries_of}
use Rattle.world_audit.specs.Counts.{heads_upto, AreWaiting}
use Rattle.cloud_facts.specs.Calls.Looks.{audit_of}
use Rattle.session_facts.specs.Sessions.Knows.{Sessions, SessionsStand}
use Rattle.session_facts.proofs.Sessions.Laws.{reports as reports_well, chains, gones, decodes, numbers}
use Rattle.replay_meaning.specs.Standing.{Line}
use Rattle.replay_meaning.specs.Committed.{committed}
use Rattle.replay_meaning.specs.Kinds.{KeepsKinds}
use Rattle.replay_meaning.specs.Right.{IsRight, HoldsAll, GoesOnFrom, stored_below, value_at}
use Rattle.session_facts.specs.Lines.Facts.{CloudStands, IsFrontOf, Reported, Stands}
use Rattle.session_facts.proofs.Reports.Left.{nothing_left}

-- what a report shows of a tree, by the audit and by what the cloud tells
pub record ShowsTree (tree : ℕ) (t : CloudState) (a : Audited) (r : Report) : Type 0 where
  pub tree_is : r.tree ≡ tree
  pub committed : r.committed ≡ of_tree tree a.committed
  pub order : r.order ≡ of_tree tree a.order
  pub contents : Walked t tree 0 r.contents
  pub heads : r.heads ≡ heads_upto t tree (of_tree tree a.committed) 64
  pub messages : AreWaiting t tree r.messages

-- under a book and an order that the audit saw
shown_right : (n : ℕ) (lines : List Line) (tree : ℕ) (book : Book) (order : List Entry) (sessions : Sessions) (t : CloudState) (r : Report) → SessionsStand book order t sessions
    → CloudStands n lines book t → Reported lines order → IsTree tree → ShowsTree tree t (audit_of book order) r → IsRight lines t r
shown_right n lines tree book order sessions t r stand cloud reported is shown = record {
  committed = shown.committed ∙ ap (of_tree tree) cloud.committed ∙ ap (λ k. of_tree k (committed lines t)) at;
  leaves = w.leaves;
  chain = subst (λ k. AreLeaves t k w.leaves) at w.lead;
  contents = w.are;
  ascending = subst (λ (ps : List Stored). Ascend stored_below None ps) (sym w.are) read.ascending;
  found = λ key. subst (λ k. Finds t k key (value_at key r.contents)) at (found key);
  folded = λ key. folded key ∙ ap (λ es. fold es tree key) (sym shown.order) ∙ ap (λ k. fold r.order k key) at;
  legal = of_lists IsLegal reportable.legal;
  complete = λ heads messages. of_lists HoldsAll
      (reportable.complete (nothing_left book order t tree (chains book order t sessions stand) (numbers book order t sessions stand) (sym shown.heads ∙ heads) (subst (AreWaiting t tree) messages shown.messages)));
  grown = λ k line there. grown line.reply (reported k line there);
  kinds = subst (KeepsKinds lines t) (sym shown.order) (record {
    kinds = cloud.kinds;
    once = cloud.once;
    sent = λ place entry. order_sent book order t tree stand.cloud.holds place entry;
  });
}
  where
    at : tree ≡ r.tree
    at = sym shown.tree_is

    st : Store
    st = store_of book order t

    w : Walked t tree 0 r.contents
    w = shown.contents

    reportable : IsReportable st tree
    reportable = reports_well book order t sessions stand tree

    read : IsRead t tree w.leaves (st.tally.value tree)
    read =
        all_leaves t tree (leaves_in st tree) w.leaves (st.tally.value tree)
        (store_reads t st tree refl (chains book order t sessions stand) (gones book order t sessions stand) is (decodes book order t sessions stand)) w.lead

    found : (key : List ℕ) → Finds t tree key (value_at key r.contents)
    found key = subst (λ (ps : List Stored). Finds t tree key (value_at key ps)) (sym w.are) (finds_contents t tree w.leaves (st.tally.value tree) read key)

    folded : (key : List ℕ) → value_at key r.contents ≡ fold (of_tree tree order) tree key
    folded key = ap (λ (ps : List Stored). value_at key ps) w.are ∙ read.contents key ∙ reportable.folded key

    of_lists : (P : List Entry → List Entry → Type 0) → P (of_tree tree order) (of_tree tree (entries_of book.log)) → P r.order r.committed
    of_lists P h = subst (λ os. P os r.committed) (sym shown.order) (subst (P (of_tree tree order)) (sym shown.committed) h)

    grown : (q : Reply) → IsFrontOf order q → GoesOnFrom r.tree r.order q
    grown (reply.Report q) front = λ same. subst (BeginsWith q.order) (ap (λ k. of_tree k order) (same ∙ shown.tree_is) ∙ sym shown.order) front
    grown q front = tt

pub report_right : (lines : List Line) (tree : ℕ) (sessions : Sessions) (a : Audited) (t : CloudState) (r : Report) → Stands lines sessions a false t → IsTree tree → ShowsTree tree t a r
    → IsRight lines t r
report_right lines tree sessions a t r stands is shown =
    let h = stands.holds in
    shown_right (length lines) lines tree h.book h.order sessions t r h.stand h.cloud h.reported is (subst (λ z. ShowsTree tree t z r) (h.seen refl) shown)

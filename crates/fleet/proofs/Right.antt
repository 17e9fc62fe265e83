-- A store that stands is right at each tree.
use Rattle.std.proofs.Common.{List, refl, ap, subst, ◌∙◌}
use Rattle.cloud_facts.proofs.Meanings.Reports.{leaves_in, store_reads, finds_contents}
use Rattle.cloud_facts.specs.Calls.Looks.{audit_of}
use Rattle.cloud_facts.specs.Landings.Reporting.{IsReportable}
use Rattle.cloud_facts.specs.Meanings.Contents.{IsRead}
use Rattle.cloud_facts.specs.Numbers.Numbers.{IsOnce}
use Rattle.cloud_facts.specs.Words.{Book, CloudState, Entry, Store, store_of}
use Rattle.fleet.proofs.Stands.{Standing, course_stands}
use Rattle.fleet.specs.Course.{Done, now, Course, history}
use Rattle.fleet.specs.Fleet.{Fleet, IsNew}
use Rattle.fleet.specs.Right.{IsRightAt}
use Rattle.history.proofs.FoldLemmas.{fold_onto-of_tree}
use Rattle.history.specs.Audited.{Audited}
use Rattle.history.specs.Fold.{no_records}
use Rattle.session_facts.proofs.Reports.Left.{nothing_left}
use Rattle.session_facts.proofs.Sessions.Laws.{reports, chains, gones, decodes, numbers}
use Rattle.session_facts.specs.Sessions.Knows.{Sessions, SessionsStand}

module _ (book : Book) (order : List Entry) (s : CloudState) (sessions : Sessions) (stand : SessionsStand book order s sessions) where
  stands_right : IsRightAt s (audit_of book order)
  stands_right tree is = record {
    legal = reportable.legal;
    leaves = leaves_in st tree;
    chain = read.chain;
    ascending = read.ascending;
    found = λ key. finds_contents s tree (leaves_in st tree) (st.tally.value tree) read key;
    folded = λ key. read.contents key ∙ (reportable.folded key ∙ ap (λ records. records key) (fold_onto-of_tree no_records order tree));
    complete = λ waits. reportable.complete (nothing_left book order s tree (chains book order s sessions stand) (numbers book order s sessions stand) waits.heads waits.messages);
  }
    where
      st : Store
      st = store_of book order s

      reportable : IsReportable st tree
      reportable = reports book order s sessions stand tree

      read : IsRead s tree (leaves_in st tree) (st.tally.value tree)
      read = store_reads s st tree refl (chains book order s sessions stand) (gones book order s sessions stand) is (decodes book order s sessions stand)

standing_right : (f : Fleet) (a : Audited) → Standing f a → IsRightAt f.state a
standing_right f a s = subst (IsRightAt f.state) s.seen (stands_right s.book s.order f.state f.sessions s.stand)

standing_once : (f : Fleet) (a : Audited) → Standing f a → IsOnce a.committed
standing_once f a s = subst (λ (b : Audited). IsOnce b.committed) s.seen s.stand.cloud.holds.numbers.once

pub right_at : (start : Fleet) (h : List Done) → IsNew start → Course start h → IsRightAt (now start h).state (history start h)
right_at start h new course = standing_right (now start h) (history start h) (course_stands start h new course)

pub once_at : (start : Fleet) (h : List Done) → IsNew start → Course start h → IsOnce (history start h).committed
once_at start h new course = standing_once (now start h) (history start h) (course_stands start h new course)

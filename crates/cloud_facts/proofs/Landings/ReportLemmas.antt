-- What holds of a store makes its reports right, and an earlier report's order is where a later one begins.
use Rattle.std.proofs.Common.{ℕ, ◌==◌, ap, ◌∙◌}
use Rattle.std.proofs.lemmas.List.Elements.{filter-append}
use Rattle.cloud_facts.specs.Words.{Entry, Caller, Ask, Store}
use Rattle.cloud_trait.specs.Growth.{BeginsWith}
use Rattle.history.specs.Fold.{of_tree}
use Rattle.cloud_facts.specs.Landings.Holding.{Holds}
use Rattle.cloud_facts.specs.Landings.Landing.{Landing}
use Rattle.cloud_facts.specs.Landings.Reporting.{IsReportable}
use Rattle.cloud_facts.proofs.Landings.LandingLemmas.{landing_grows}
use Rattle.cloud_facts.proofs.Lefts.StaysLemmas.{all_applied}
use Rattle.cloud_facts.proofs.Orders.Legality.{order_is_legal, value_is, order_holds_all}

pub reportable : (st : Store) → Holds st → (tree : ℕ) → IsReportable st tree
reportable st h tree = record {
  legal = order_is_legal st h.order h.numbers tree;
  folded = value_is st h.order tree;
  complete = λ nothing. order_holds_all st h.order h.numbers tree (λ r logged is. all_applied st tree h.leaves nothing r logged is);
}

-- the order of a tree goes on through a call that lands
pub order_goes_on : (who : Caller) (st : Store) (ask : Ask) (su : Store) → Holds st → Landing who st ask su → (tree : ℕ) → BeginsWith (of_tree tree st.order) (of_tree tree su.order)
order_goes_on who st ask su h landing tree =
    let more = (landing_grows who st ask su h landing).order in
    (of_tree tree more.0, ap (λ es. of_tree tree es) more.1 ∙ filter-append (λ (e : Entry). e.tree == tree) st.order more.0)

-- The way over inner nodes that were got: it comes to a node that was not, or to a leaf, and to no page twice.
use Rattle.std.proofs.Common.{◌≡◌, ◌==◌, ℕ, true, List, Some, Result, Ok, sym, ap, subst, ◌∙◌, arith}
use Rattle.std.proofs.lemmas.Bool.{eqb-true}
use Rattle.cloud_facts.specs.Chains.Chain.{ChainHolds}
use Rattle.cloud_facts.proofs.Meanings.Steps.{not_passed}
use Rattle.cloud_facts.proofs.Calls.Searching.{found}
use Rattle.cloud_facts.specs.Words.{Trouble, Inner, Claim, Next, Store, Branch, IsIn}
use Rattle.run_cursor.specs.Covered.{is_seen}
use Rattle.tree_phases.specs.declared.descent.Descent.{Descent}
use Rattle.tree_phases.specs.declared.fork.Fork.{Fork}
use Rattle.tree_phases.specs.Descent.{forked_by, fork_of, passed, kept_at, arrive}
use Rattle.tree_phases.specs.Fork.{forked_on}
use Rattle.tree_phases.proofs.Reading.{inner_is}
use Rattle.tree_phases.specs.declared.kept.KeptNode.{KeptNode}
use Rattle.tree_phases.specs.Read.{inner_read}
use Rattle.tree_ckpt.proofs.WayOutcomes.{Passes, Arrives}
use Rattle.tree_ckpt.proofs.WayOutcomes as way
use Rattle.session_facts.specs.Machines.Trees.Charts.{KnowsNode}
use Rattle.session_facts.specs.Machines.Trees.Ways.{KnowsWay, WayLeads}
use Rattle.session_facts.proofs.Machines.Trees.Forks.{is_forked, fork_leads, passed_known}
use Rattle.session_facts.proofs.Machines.Trees.Seen.{seen_in}

module _ (st : Store) (now : ℕ) (lease : Claim) (h : ChainHolds st) where
  -- a node's bytes lead on where the node landed
  pub bytes_lead : (d : Descent) (bytes : List ℕ) (n : Inner) → KnowsWay st now lease d → Ok n ≡ inner_read d.chart.tree d.page bytes → IsIn (st.tally.nodes d.chart.tree d.page) (Branch n)
      → (fork_of d bytes ≡ Ok (forked_on d.chart.key n)) × KnowsWay st now lease (passed d (forked_on d.chart.key n))
  bytes_lead d bytes n k reads landed = (
    ap (forked_by d) (sym reads)
        ∙ is_forked (st.book.chain d.chart.tree) (st.tally.nodes d.chart.tree) (st.tally.roots d.chart.tree) (st.tally.done d.chart.tree) (st.tally.cursor d.chart.tree 0)
        (h d.chart.tree k.chart.tree) d n k.way landed,
    passed_known st now lease d (forked_on d.chart.key n) k.chart
        (fork_leads (st.book.chain d.chart.tree) (st.tally.nodes d.chart.tree) (st.tally.roots d.chart.tree) (st.tally.done d.chart.tree) (st.tally.cursor d.chart.tree 0)
        (h d.chart.tree k.chart.tree) d n k.way landed),
  )

  -- ---- over nodes that were got

  -- no page is come to twice
  never_seen : (d : Descent) → KnowsWay st now lease d → is_seen d.visited d.page ≡ true → ⊥
  never_seen d k seen =
      not_passed (st.book.chain d.chart.tree) (st.tally.nodes d.chart.tree) (st.tally.roots d.chart.tree) (st.tally.done d.chart.tree) (st.tally.cursor d.chart.tree 0)
      (h d.chart.tree k.chart.tree) d.level d.page d.low d.chart.key k.way.at (k.way.behind d.page (seen_in d.visited d.page seen))

  -- where one that was got leads
  leads_over : (d : Descent) → KnowsWay st now lease d → (kept : KeptNode) → kept_at d ≡ Some kept
      → (n : Inner) × (fork_of d kept.bytes ≡ Ok (forked_on d.chart.key n)) × KnowsWay st now lease (passed d (forked_on d.chart.key n))
  leads_over d k kept e = (known.inner, leads.0, leads.1)
    where
      there : IsIn d.chart.nodes kept × ((kept.page == d.page) ≡ true)
      there = found (λ (n : KeptNode). n.page == d.page) d.chart.nodes kept e

      known : KnowsNode st now lease d.chart.tree kept
      known = k.chart.nodes kept there.0

      leads : (fork_of d kept.bytes ≡ Ok (forked_on d.chart.key known.inner)) × KnowsWay st now lease (passed d (forked_on d.chart.key known.inner))
      leads =
          bytes_lead d kept.bytes known.inner k (inner_is d.chart.tree d.page kept.bytes known.inner known.spells)
          (subst (λ (p : ℕ). IsIn (st.tally.nodes d.chart.tree p) (Branch known.inner)) (eqb-true kept.page d.page there.1) known.landed)

  -- it leads on to another link
  passes_on : (d : Descent) (kept : KeptNode) (fork : Fork) → Passes d kept fork → KnowsWay st now lease d → KnowsWay st now lease (passed d fork)
  passes_on d kept fork p k = subst (λ (f : Fork). KnowsWay st now lease (passed d f)) (same_Ok (forked_on d.chart.key leads.0) fork (sym leads.1 ∙ p.forks)) leads.2
    where
      leads : (n : Inner) × (fork_of d kept.bytes ≡ Ok (forked_on d.chart.key n)) × KnowsWay st now lease (passed d (forked_on d.chart.key n))
      leads = leads_over d k kept p.kept

      same_Ok : (f g : Fork) → ◌≡◌ {A = Result Fork Trouble} (Ok f) (Ok g) → f ≡ g
      same_Ok f g e = cc (e)

  -- the way ends at a node that is to be got, or at a leaf; it stops for nothing
  pub arrives_on : (May : Trouble → Type 0) {d : Descent} {x : Next Descent (Unit {0})} → Arrives d x → KnowsWay st now lease d → WayLeads st now lease May x
  arrives_on May (way.at_leaf d level) k = (k, level)
  arrives_on May (way.at_node d fresh none) k = let above = fresh.0 in (k, omega (arith, above))
  arrives_on May (way.round d above seen) k = absurd (never_seen d k seen)
  arrives_on May (way.breaks d kept t fresh at e reads) k = absurd (let clash = sym (leads_over d k kept at).1 ∙ e in cc (clash))
  arrives_on May (way.further d kept fork p on) k = arrives_on May on (passes_on d kept fork p k)

  pub arrives : (May : Trouble → Type 0) (d : Descent) → KnowsWay st now lease d → WayLeads st now lease May (arrive d)
  arrives May d k = arrives_on May (way.arrives d) k

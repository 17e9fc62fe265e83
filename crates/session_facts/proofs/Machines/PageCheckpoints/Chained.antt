-- A page whose queue brought a run is in the leaf chain, with no key of the run below it.
use Rattle.std.proofs.Common.{◌≤◌, inl, inr, ℕ, List, sym, ap, subst, ◌∙◌, arith}
use Rattle.byte_format.specs.Order.{bytes_below}
use Rattle.cloud_facts.specs.Chains.Chain.{AreLevels, AreVersions}
use Rattle.db_base.specs.Change.{key_of}
use Rattle.cloud_facts.specs.Words.{PuItem, Leaf, Store, IsIn}
use Rattle.log_codec.specs.declared.record.PuRec.{PuRec}
use Rattle.cloud_facts.specs.Numbers.Numbers.{Numbers}
use Rattle.run_cursor.specs.Run.{Taken}
use Rattle.session_facts.proofs.Machines.Runs.Taken.{run_in}
use Rattle.session_facts.specs.Machines.Runs.Knows.{TookRun}
use Rattle.cloud_facts.specs.Book.Premises.{IsItemOf, IsRouted, IsLeafAtMost}
use Rattle.cloud_facts.specs.Book.Records.{key_in}
use Rattle.session_facts.specs.Machines.PageCheckpoints.Rights.{IsLanded, HasRun}
use Rattle.session_facts.proofs.Machines.PageCheckpoints.Fences.{HasFences, landed_fences}

module _ (u : Store) (tree page height : ℕ) (some : 1 ≤ page) (levels : AreLevels (u.book.chain tree) height) (versions : AreVersions (u.book.chain tree) (u.tally.nodes tree)) where
  -- an item of the queue of a page was routed to the page's leaf
  routed : Numbers u → (x : PuItem) → IsItemOf u tree page x → IsLeafAtMost u.book tree page (key_of x.rec.change)
  routed numbers x i = on (numbers.placed i.of i.logged).routed
    where
      on : IsRouted u.book i.of → IsLeafAtMost u.book tree page (key_of x.rec.change)
      on (inl tree_queue) = let page_is = i.page_is in absurd (omega (arith, tree_queue, page_is, some))
      on (inr l) =
          subst (λ (key : List ℕ). IsLeafAtMost u.book tree page key) (sym (ap (λ (r : PuRec). key_of r.change) i.rec_is))
          (subst (λ (t : ℕ). IsLeafAtMost u.book t page (key_in i.of)) i.tree_is (subst (λ (p : ℕ). IsLeafAtMost u.book i.of.tree p (key_in i.of)) i.page_is l))

  module _ (home : Leaf) (landed : IsLanded (u.tally.nodes tree) page home) where
    pub has_run : Numbers u → (from : List (ℕ × ℕ)) (run : Taken) (ids : List ℕ) → TookRun u tree page from run ids → (x : PuItem) → IsIn run.items x → HasRun u tree page home run ids
    has_run numbers from run ids took x is = record {
      from = from;
      took = took;
      linked = record { place = first.linked.0; link = first.link; linked = first.linked.1; page_is = first.page_is };
      low = fences.low;
      keys = λ y there.
          let l = leaf_at y there in
          let same = (levels.once 0 0 l.link first.link l.linked first.linked (l.page_is ∙ sym first.page_is)).1 in
          ap (bytes_below (key_of y.rec.change)) (fences.low ∙ sym same) ∙ l.low;
    }
      where
        leaf_at : (y : PuItem) → IsIn run.items y → IsLeafAtMost u.book tree page (key_of y.rec.change)
        leaf_at y there = routed numbers y (took.items y (run_in from took.received run.items run.top took.is_run y there))

        first : IsLeafAtMost u.book tree page (key_of x.rec.change)
        first = leaf_at x is

        fences : HasFences (u.book.chain tree 0) first.link home
        fences =
            landed_fences (u.book.chain tree) (u.tally.nodes tree) height levels versions first.link first.linked home
            (subst (λ (p : ℕ). IsLanded (u.tally.nodes tree) p home) (sym first.page_is) landed)

    -- the leaf has the fences of the page's link
    pub home_fences : (run : Taken) (ids : List ℕ) (k : HasRun u tree page home run ids) → HasFences (u.book.chain tree 0) k.linked.link home
    home_fences run ids k =
        landed_fences (u.book.chain tree) (u.tally.nodes tree) height levels versions k.linked.link (k.linked.place, k.linked.linked) home
        (subst (λ (p : ℕ). IsLanded (u.tally.nodes tree) p home) (sym k.linked.page_is) landed)

-- Why the work at a leaf stops: what the calls brought, and what the leaf breaks or has spent.
use Rattle.std.proofs.Common.{◌≡◌, ℕ, Bool, true, false, List, Option, Some, None, Ok, refl, sym, ap, subst, ◌∙◌, inl, inr, ◌⊎◌}
use Rattle.std.specs.Prelude.{◌==◌, ◌||◌}
use Rattle.std.proofs.lemmas.Bool.{eqb-true, eqb-false}
use Rattle.byte_format.specs.Order.{below_bound, bytes_same}
use Rattle.db_base.specs.declared.names.ObjName.TheVariants as object
use Rattle.db_base.specs.declared.names.Place.TheVariants as place
use Rattle.db_base.specs.declared.trouble.Trouble.TheVariants as trouble
use Rattle.db_base.specs.declared.trouble.Counter.TheVariants as counter
use Rattle.leaf_view.specs.Leaf.{Leaf}
use Rattle.leaf_edit.specs.Lacked.{lacked}
use Rattle.cloud_trait.specs.declared.answer.Answer.TheVariants as call
use Rattle.run_cursor.specs.Covered.{is_seen}
use Rattle.ckpt_parts.specs.Intakes.{has_items}
use Rattle.tree_phases.specs.Placing.{root_after, landed_root}
use Rattle.tree_phases.specs.Read.{tree_held}
use Rattle.tree_phases.specs.declared.folding.Left.TheVariants.{Right, Handled}
use Rattle.tree_phases.specs.Folding.{FoldingStep, landed}
use Rattle.tree_ckpt.specs.Causes.{Calls, Brings, WasGot, WasPut, WasRoot, WasLeaf, WasRead, IsLink, Shows}
use Rattle.tree_ckpt.specs.Working.{HoldsLeaf}
use Rattle.tree_ckpt.specs.Due.{Due, LeafDue, GetsLeaf}
use Rattle.tree_ckpt.specs.Demands.{BreaksLeaf}
use Rattle.tree_ckpt.proofs.Words.{Trouble, Answer, Goes, Ends, Stops, Ask, Chart, Placing, Folding}
use Rattle.tree_ckpt.proofs.Brought.{Charted, AreRead, OnWay, read_behind, seen_read}
use Rattle.tree_ckpt.proofs.LeafOutcomes.{Lands, put_lands, IsBehind, Reads, reads}
use Rattle.tree_ckpt.proofs.LeafOutcomes as step
use Rattle.tree_ckpt.proofs.Spent.{IsSpentFor, PlanTells, leaf_plan_tells}

-- at a leaf under its lease
pub record KnowsLeaf (tree : ℕ) (f : Folding) (cs : Calls) : Type 0 where
  pub chart : Charted tree f.chart cs
  pub way : OnWay tree 0 f.low f.page f.visited cs

-- what is due at the leaf has something spent
pub record LeafSpends (f : Folding) (a : Answer) (t : Trouble) : Type 0 where
  pub l : Leaf
  pub gets : GetsLeaf f.page a l
  pub promised : bytes_same l.low f.low ≡ true
  pub stays : below_bound f.chart.key l.high ≡ true
  pub lacks : has_items (lacked l 0 f.chart.run.items) ≡ true
  pub spent : IsSpentFor (LeafDue (tree_held f.chart.root) l f.chart.run.items) t

-- nothing of the calls shows what is spent
pub spent_shows : (tree : ℕ) (cs : Calls) (ask : Ask) (a : Answer) (due : Due) (t : Trouble) → IsSpentFor due t → Shows tree cs ask a t
spent_shows tree cs ask a due (trouble.Exhausted counter.Version) h = tt
spent_shows tree cs ask a due (trouble.Exhausted counter.Pages) h = tt
spent_shows tree cs ask a due (trouble.Exhausted what) h = absurd h
spent_shows tree cs ask a due t h = absurd h

module _ (tree : ℕ) (cs : Calls) (ask : Ask) (a : Answer) where
  -- ---- a leaf

  -- the leaf breaks what led to it, or what is due there has something spent
  abbrev pub LeafBreaks : Folding → Trouble → Type 0
  LeafBreaks f t = BreaksLeaf tree f a t ⊎ LeafSpends f a t

  -- where the work at a leaf leads, the tree is known; what it stops for is shown
  abbrev pub LeafTells : Folding → FoldingStep → Type 0
  LeafTells f (Goes g) = KnowsLeaf tree g cs
  LeafTells f (Ends g (Right low page)) = Charted tree g.chart cs × OnWay tree 0 low page g.visited cs
  LeafTells f (Ends g Handled) = Charted tree g.chart cs
  LeafTells f (Stops g t) = Shows tree cs ask a t × LeafBreaks f t

  -- a leaf with a high key was read
  leaf_read_from : (page : ℕ) (l : Leaf) (high : List ℕ) → WasLeaf tree page l cs → l.high ≡ Some high → WasRead tree page cs
  leaf_read_from page l high (inl w) h = (w.0, w.2)
  leaf_read_from page l high (inr w) h = absurd (let none : None ≡ Some high = sym (ap (λ (m : Leaf). m.high) w.1) ∙ h in cc (none))

  either_read : (f : Folding) (right : ℕ) → AreRead tree f.visited cs → WasRead tree f.page cs → (one : Bool) → (right == f.page) ≡ one → (other : Bool)
      → is_seen f.visited right ≡ other → (one || other) ≡ true → WasRead tree right cs
  either_read f right seen here true e other g h = subst (λ (p : ℕ). WasRead tree p cs) (sym (eqb-true right f.page e)) here
  either_read f right seen here false e true g h = seen_read tree f.visited right cs seen g
  either_read f right seen here false e false g h = absurd (cc (h))

  -- a link leads to a page that the way came to before
  either_seen : (f : Folding) (right : ℕ) (one : Bool) → (right == f.page) ≡ one → (other : Bool) → is_seen f.visited right ≡ other → (one || other) ≡ true
      → (right ≡ f.page) ⊎ (is_seen f.visited right ≡ true)
  either_seen f right true e other g h = inl (eqb-true right f.page e)
  either_seen f right false e true g h = inr g
  either_seen f right false e false g h = absurd (cc (h))

  -- the leaf was got
  leaf_gets : (page : ℕ) (l : Leaf) (got : Option (List ℕ)) → HoldsLeaf page l got → a ≡ call.Got got → GetsLeaf page a l
  leaf_gets page l (Some bytes) e brought = inl (bytes, brought, e)
  leaf_gets page l None e brought = inr (e.0, brought, e.1)

  was_leaf : (page : ℕ) (l : Leaf) (got : Option (List ℕ)) → HoldsLeaf page l got → WasGot (object.Page tree page) got cs → WasLeaf tree page l cs
  was_leaf page l (Some bytes) e got = inl (bytes, e, got)
  was_leaf page l None e got = inr (e.0, e.1, got)

  -- where it is left by its right link, the link is known
  right_link : (f : Folding) (got : Option (List ℕ)) (l : Leaf) (high : List ℕ) (right : ℕ) → IsBehind f got l high right → WasGot (object.Page tree f.page) got cs
      → IsLink tree 0 high right cs × WasRead tree f.page cs
  right_link f got l high right behind g =
      let w : WasLeaf tree f.page l cs = was_leaf f.page l got behind.holds g in
      (inr (inr (f.page, l, w, refl, behind.goes)), leaf_read_from f.page l high w behind.goes.0)

  pub reads_tell : {f : Folding} {next : FoldingStep} (got : Option (List ℕ)) → KnowsLeaf tree f cs → WasGot (object.Page tree f.page) got cs → Brings (object.Page tree f.page) got (ask, a)
      → a ≡ call.Got got → Reads f (Ok got) next → LeafTells f next
  reads_tell {f = f} got k g new brought (step.absent other) = ((eqb-false f.page 1 other, new, (0, f.low, k.way.link)), inl (refl, eqb-false f.page 1 other, brought))
  reads_tell {f = f} got k g new brought (step.wrong bytes left e) = (
    inl (object.Page f.chart.tree f.page, refl, (k.chart.same, inl (bytes, new, inl (left, e, refl)))),
    inl (ap (λ (t : ℕ). place.Object (object.Page t f.page)) k.chart.same, (bytes, (left, brought, e, refl))),
  )
  reads_tell {f = f} got k g new brought (step.misled same l holds low) =
      ((low, (0, k.way.link, inr (l, was_leaf f.page l got holds g, refl))), inl (refl, refl, (l, leaf_gets f.page l got holds brought, refl, low)))
  reads_tell {f = f} got k g new brought (step.loops same l high right behind seen) =
      let link = right_link f got l high right behind g in (
        (either_read f right k.way.seen link.1 (right == f.page) refl (is_seen f.visited right) refl seen, (0, high, link.0)),
        inl (
          l,
          high,
          leaf_gets f.page l got behind.holds brought,
          behind.promised,
          behind.goes,
          behind.beyond,
          either_seen f right (right == f.page) refl (is_seen f.visited right) refl seen,
        ),
      )
  reads_tell {f = f} got k g new brought (step.passes same l high right behind fresh) =
      let link = right_link f got l high right behind g in (
        record { same = k.chart.same; root = k.chart.root; nodes = k.chart.nodes },
        record { link = link.0; seen = read_behind tree f.visited f.page cs k.way.seen link.1 },
      )
  reads_tell got k g new brought (step.spares same l here none) = record { same = k.chart.same; root = k.chart.root; nodes = k.chart.nodes }
  reads_tell got k g new brought (step.plans same l x xs p here some e) =
      record { chart = record { same = k.chart.same; root = k.chart.root; nodes = k.chart.nodes }; way = k.way }
  reads_tell {f = f} got k g new brought (step.unplanned same l x xs t here some e) =
      let spent : IsSpentFor (LeafDue (tree_held f.chart.root) l f.chart.run.items) t =
      subst (PlanTells (LeafDue (tree_held f.chart.root) l f.chart.run.items)) e (leaf_plan_tells (tree_held f.chart.root) f.page l f.chart.run.items) in (
        spent_shows tree cs ask a (LeafDue (tree_held f.chart.root) l f.chart.run.items) t spent,
        inr (record { l = l; gets = leaf_gets f.page l got here.holds brought; promised = here.promised; stays = here.below; lacks = ap has_items some; spent = spent }),
      )

  -- ---- puts

  -- where a reservation landed, it is the newest tree object
  abbrev pub HasPut : Option (List ℕ) → Type 0
  HasPut (Some bytes) = WasPut (object.Tree tree) bytes cs
  HasPut None = Unit {0}

  landed_known : (reserved : Option (List ℕ)) (root : Option (List ℕ)) → HasPut reserved → WasRoot tree (tree_held root) cs → WasRoot tree (tree_held (root_after reserved root)) cs
  landed_known (Some bytes) root put w = inr (bytes, refl, put)
  landed_known None root put w = w

  pub chart_landed : (c : Chart) (p : Placing) → Charted tree c cs → HasPut p.reserved → Charted tree (record c { root = landed_root p c.root }) cs
  chart_landed c p k put = record { same = k.same; root = landed_known p.reserved c.root put k.root; nodes = k.nodes }

  -- once a put landed the tree is known
  abbrev pub PlacedTells : FoldingStep → Type 0
  PlacedTells (Goes g) = KnowsLeaf tree g cs
  PlacedTells (Ends g (Right low page)) = ⊥
  PlacedTells (Ends g Handled) = Charted tree g.chart cs
  PlacedTells (Stops g t) = ⊥

  pub lands_tell : {f : Folding} {next : FoldingStep} → KnowsLeaf tree f cs → HasPut f.placing.reserved → Lands f (Ok tt) next → PlacedTells next
  lands_tell {f = f} k put (step.lands x e) = record { chart = chart_landed f.chart f.placing k.chart put; way = k.way }
  lands_tell {f = f} k put (step.is_put x e) =
      let after : Charted tree (landed f).chart cs = chart_landed f.chart f.placing k.chart put in record { same = after.same; root = after.root; nodes = after.nodes }

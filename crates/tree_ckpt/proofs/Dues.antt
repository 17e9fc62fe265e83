-- What is due was got, or put by the checkpoint.
use Rattle.std.proofs.Common.{◌≡◌, ℕ, true, List, ◌∷◌, Option, Some, None, sym, ap, subst, ◌∙◌, inl, inr}
use Rattle.db_base.specs.declared.names.ObjName.TheVariants as object
use Rattle.cloud_trait.specs.declared.answer.Answer.TheVariants as call
use Rattle.cloud_trait.specs.Ask.{GetHeld}
use Rattle.leaf_view.specs.Leaf.{Leaf}
use Rattle.tree_phases.specs.Placing.{has_nothing}
use Rattle.tree_phases.specs.Folding.{folding_ask}
use Rattle.tree_phases.specs.Rising.{rising_ask, landed, next_touched}
use Rattle.tree_ckpt.specs.declared.work.Work.TheVariants as work
use Rattle.tree_ckpt.specs.Work.{work_ask}
use Rattle.tree_ckpt.specs.Making.{Making, making_ask}
use Rattle.tree_ckpt.specs.Causes.{Calls, WasGot, WasRoot, WasLeaf}
use Rattle.tree_ckpt.specs.Due.{Due, LeafDue, NodeDue, RootDue, GetsLeaf, IsUp, IsDue, IsCutShort, WasBrought, WasLastButOne}
use Rattle.tree_ckpt.specs.Stepped.{calls_with}
use Rattle.tree_ckpt.proofs.Words.{Answer, Claim, Deed, calls_of, Ask, Folding, Rising, Work}
use Rattle.tree_ckpt.proofs.Brought.{Charted, IsKeptNode, root_more, chart_more}
use Rattle.tree_ckpt.proofs.Causes.{KnowsAt, root_put, got_next}
use Rattle.tree_ckpt.proofs.Plots.{HasPut, chart_landed}
use Rattle.tree_ckpt.proofs.Rises.{kept_at}

module _ (tree : ℕ) (cs : Calls) (a : Answer) where
  -- with the call of the work in hand
  abbrev after : Work → Calls
  after w = (work_ask tree w, a) ∷ cs

  page_got : (f : Folding) (l : Claim) (got : Option (List ℕ)) → f.chart.tree ≡ tree → has_nothing f.placing ≡ true → a ≡ call.Got got
      → WasGot (object.Page tree f.page) got ((folding_ask f l, a) ∷ cs)
  page_got f l got same nothing e =
      inl (
        f.lease,
        ap (λ (ask : Ask). (ask, a)) (got_next f l nothing ∙ ap (λ (t : ℕ). GetHeld (object.Page t f.page) f.lease) same)
            ∙ ap (λ (x : Answer). (GetHeld (object.Page tree f.page) f.lease, x)) e,
      )

  leaf_got : (f : Folding) (l : Claim) (x : Leaf) → f.chart.tree ≡ tree → has_nothing f.placing ≡ true → GetsLeaf f.page a x → WasLeaf tree f.page x ((folding_ask f l, a) ∷ cs)
  leaf_got f l x same nothing (inl (bytes, e, reads)) = inl (bytes, reads, page_got f l (Some bytes) same nothing e)
  leaf_got f l x same nothing (inr (first, e, is)) = inr (first, is, page_got f l None same nothing e)

  -- the reservation in hand is put
  reserved_put : (r : Rising) (l : Claim) → r.chart.tree ≡ tree → a ≡ call.Done → HasPut tree ((rising_ask r l, a) ∷ cs) (rising_ask r l) a r.placing.reserved
  reserved_put r l same done = on r.placing.reserved where
    on : (reserved : Option (List ℕ))
        → (let s : Rising = record r { placing = record r.placing { reserved = reserved } } in HasPut tree ((rising_ask s l, a) ∷ cs) (rising_ask s l) a reserved)
    on (Some bytes) = root_put tree r.chart.tree cs bytes l a same done
    on None = tt

  up_charted : (w : Work) (up : Rising) → KnowsAt tree w cs → IsUp w a up → Charted tree up.chart (after w)
  up_charted w up k (inl b) =
      let known : Charted tree b.chart cs = subst (λ (x : Work). KnowsAt tree x cs) b.stands k in
      subst (λ (u : Rising). Charted tree u.chart (after w)) (sym b.is) (chart_more tree b.chart (work_ask tree w, a) cs known)
  up_charted w up k (inr g) =
      let known : Charted tree g.from.chart cs = (subst (λ (x : Work). KnowsAt tree x cs) g.stands k).0 in
      let there : Charted tree (landed g.from).chart (after (work.Rising g.held g.from)) =
      chart_landed tree (after (work.Rising g.held g.from)) (rising_ask g.from g.held.lease) a g.from.chart g.from.placing
      (chart_more tree g.from.chart (rising_ask g.from g.held.lease, a) cs known) (reserved_put g.from g.held.lease known.same g.put) in
      subst (λ (u : Rising). Charted tree u.chart (after w)) (sym g.is)
      (subst (λ (x : Work). Charted tree (landed g.from).chart (after x)) (sym g.stands) there)

  brought_at : (w : Work) → KnowsAt tree w cs → (due : Due) → IsDue w a due → WasBrought tree due (after w)
  brought_at w k (LeafDue root l run) is =
      let known = subst (λ (x : Work). KnowsAt tree x cs) is.stands k in
      let charted : Charted tree is.from.chart (after (work.Folding is.held is.from)) =
      chart_more tree is.from.chart (folding_ask is.from is.held.lease, a) cs known.chart in
      subst (λ (x : Work). WasBrought tree (LeafDue root l run) (after x)) (sym is.stands) (
        subst (λ (t : _). WasRoot tree t (after (work.Folding is.held is.from))) (sym is.root_is) charted.root,
        (is.from.page, leaf_got is.from is.held.lease l known.chart.same is.nothing is.gets),
      )
  brought_at w k (NodeDue root n links) is =
      let charted : Charted tree is.up.chart (after w) = up_charted w is.up k is.is_up in
      let kept : IsKeptNode tree is.kept (after w) = kept_at tree is.up.chart.nodes (next_touched is.up) is.kept (after w) charted.nodes is.next in
      (subst (λ (t : _). WasRoot tree t (after w)) (sym is.root_is) charted.root, (is.kept.page, (is.kept.bytes, is.reads, kept.0)))
  brought_at w k (RootDue root links top) is =
      let charted : Charted tree is.up.chart (after w) = up_charted w is.up k is.is_up in
      subst (λ (t : _). WasRoot tree t (after w)) (sym is.root_is) charted.root

pub cut_last_but_one : (m : Making) (h : List Deed) (a : Answer) → KnowsAt m.tree m.work (calls_of h) → IsCutShort m.work a → WasLastButOne m.tree (calls_with m h a)
cut_last_but_one m h a k is =
    let root : WasLastButOne m.tree (calls_of h) = (subst (λ (x : Work). KnowsAt m.tree x (calls_of h)) is.stands k).2 is.spent in
    (root.0, root_more m.tree root.0 (making_ask m, a) (calls_of h) root.1, root.2)

pub due_brought : (m : Making) (h : List Deed) (a : Answer) → KnowsAt m.tree m.work (calls_of h) → (due : Due) → IsDue m.work a due → WasBrought m.tree due (calls_with m h a)
due_brought m h a k due is = brought_at m.tree (calls_of h) a m.work k due is

-- Each part of a settling hands on what the parts before it left; at the end nothing is left.
use Rattle.std.proofs.Common.{◌≡◌, ◌≢◌, ◌+◌, ◌<◌, ◌⊎◌, inl, inr, ℕ, zero, suc, Bool, true, false, List, [], ◌∷◌, ◌++◌, map, Some, None, refl, sym, ap, subst, ◌∙◌, arith}
use Rattle.std.proofs.lemmas.Bool.{cases_eq}
use Rattle.cloud_facts.proofs.Book.Places.{get_single, in_either, in_behind}
use Rattle.cloud_facts.specs.Words.{IsTree, QueueName, Version, Goes, Deed, Store, IsIn}
use Rattle.cloud_facts.specs.Book.Telling.{queue_of, head_in, last_or}
use Rattle.cloud_facts.specs.Homes.Homes.{Part as Place}
use Rattle.cloud_trait.specs.Delivery.{unmarked}
use Rattle.db_base.specs.Ids.{IsPage}
use Rattle.db_base.specs.declared.names.ObjName.TheVariants as object
use Rattle.db_base.specs.declared.names.QueueName.TheVariants as queue
use Rattle.head_codec.specs.Head.{empty_head}
use Rattle.head_codec.specs.declared.head.Phase.TheVariants.{Settled}
use Rattle.leaf_view.specs.Lookup.{page_at}
use Rattle.page_ckpt.specs.Paging.{Paging}
use Rattle.recover_run.specs.Ids.{new_ids}
use Rattle.recover_run.specs.Recovery.{Recovery}
use Rattle.session_facts.proofs.Settling.Along.{Each, Handed, Hands, behind_part}
use Rattle.session_facts.proofs.Settling.Frames.{stock_of, ClientKeeps, QueueKeeps, ran_keeps}
use Rattle.session_facts.proofs.Settling.Lefts.{HeadsRest, NoneWaits, TreesRest, PagesRest, LeftAt, Left, NothingWaits, again_left, left_again, leads_more, tree_rests}
use Rattle.session_facts.proofs.Settling.Queues.{none_received, none_left, news_left}
use Rattle.session_facts.proofs.Settling.Stories.{part_known}
use Rattle.session_facts.specs.Settling.Bound.{LeadAlong}
use Rattle.session_facts.specs.Settling.Runs.{AreDelivered, waiting, right_at, Drains, TreeRun, PageRun, RecoveryRun, TreesRun, PagesRun, RecoveriesRun}
use Rattle.session_facts.specs.Settling.Story.{Moment, store_at, IsAtWork, PartRan}
use Rattle.session_facts.specs.Machines.Settlings.Knows.{KnowsAtWork}
use Rattle.settle_run.proofs.Outcomes.{Passes, passes}
use Rattle.settle_run.proofs.Outcomes as step
use Rattle.settle_run.specs.Parts.{part_again, part_received, part_of_tree, part_of_page}
use Rattle.settle_run.specs.Settling.{Settling, Step, to_page}
use Rattle.settle_run.specs.declared.part.Part.{Part}
use Rattle.settle_run.specs.declared.part.Part.TheVariants.{Client, Tree, Page}
use Rattle.tree_ckpt.specs.Making.{Making}

-- in a call no message was withheld
abbrev pub IsDelivered : Deed → Type 0
IsDelivered d = d.after.counts.withheld ≡ d.before.counts.withheld

pub each_delivered : (h : List Deed) → Each IsDelivered h → AreDelivered h
each_delivered [] each = tt
each_delivered (d ∷ h) each = (each.0, each_delivered h each.1)

-- ---- the tree of a part

abbrev pub IsOfTree : Part → Type 0
IsOfTree (Client client m) = Unit {0}
IsOfTree (Tree tree m) = IsTree tree
IsOfTree (Page tree page m) = IsTree tree

known_tree : (st : Store) (now : ℕ) (w : Part) (place : Place) → KnowsAtWork st now w place → IsOfTree w
known_tree st now (Client client m) place k = tt
known_tree st now (Tree tree m) place k = subst IsTree k.tree_is k.knows.tree
known_tree st now (Page tree page m) place k = subst IsTree k.tree_is k.knows.tree

again_tree : (w : Part) → IsOfTree w → IsOfTree (part_again w)
again_tree (Client client m) is = is
again_tree (Tree tree m) is = is
again_tree (Page tree page m) is = is

tree_again : (w : Part) → IsOfTree (part_again w) → IsOfTree w
tree_again (Client client m) is = is
tree_again (Tree tree m) is = is
tree_again (Page tree page m) is = is

pub works_tree : (m : Moment) (v w : Part) → part_again w ≡ part_again v → IsAtWork m v → IsOfTree w
works_tree m v w place works =
    tree_again w (subst IsOfTree (sym place) (again_tree v (known_tree (store_at m) m.state.now v (m.stand.parts 0) (part_known m v works))))

-- ---- what stays

abbrev tree_of : QueueName → ℕ
tree_of (queue.Atomic client) = 0
tree_of (queue.TreePu tree) = tree
tree_of (queue.PagePu tree page) = tree

tree_of_queue : (tree page : ℕ) → tree_of (queue_of tree page) ≡ tree
tree_of_queue tree zero = refl
tree_of_queue tree (suc page) = refl

other_tree : (own : QueueName) (t page : ℕ) → t < tree_of own → own ≡ queue_of t page → ⊥
other_tree own t page less e = let same : tree_of own ≡ t = ap tree_of e ∙ tree_of_queue t page in omega (arith, less, same)

pub head_stays : (first last : Moment) (k : ℕ) → last.state.versions (object.Head k) ≡ first.state.versions (object.Head k)
    → ((store_at first).tally.head k).phase ≡ Settled → ((store_at last).tally.head k).phase ≡ Settled
head_stays first last k same settled = ap (λ (vs : List Version). (last_or empty_head (map head_in vs)).phase) same ∙ settled

module _ (own : Bool) (tree : ℕ) (q : QueueName) (first last : Moment)
    (keeps : QueueKeeps own tree q (stock_of first.state) (stock_of last.state)) where
  heads_stay : HeadsRest 65 first → HeadsRest 65 last
  heads_stay rest k is less = head_stays first last k (keeps.heads k) (rest k is less)

  waiting_stays : (x : QueueName) → (q ≡ x → ⊥) → waiting last.state x ≡ waiting first.state x
  waiting_stays x other = ap unmarked (keeps.queues x other)

  trees_stay : tree_of q ≡ tree → TreesRest tree first.state → TreesRest tree last.state
  trees_stay is rest t is_tree less page =
      waiting_stays (queue_of t page) (other_tree q t page (omega (arith, less, is))) ∙ rest t is_tree less page

pub page_zero : (n : ℕ) → page_at n ≡ None → n ≡ 0
page_zero zero e = refl
page_zero (suc n) e = absurd (cc (e))

pub page_some : (n q : ℕ) → page_at n ≡ Some q → n ≡ q
page_some zero q e = absurd (cc (e))
page_some (suc n) q e = cc (e)

page_is : (n q : ℕ) → page_at n ≡ Some q → IsPage q
page_is zero q e = absurd (cc (e))
page_is (suc n) q e = let same : suc n ≡ q = cc (e) in omega (arith, same)

-- ---- each part

module _ (trees : TreesRun) (pages : PagesRun) (clients : RecoveriesRun) (h : List Deed) (first last : Moment) (delivered : AreDelivered h) where
  abbrev HandsOn : Step → Type 0
  HandsOn next = Handed Left NothingWaits next last

  -- the heads of one client more are settled
  one_more : (client : ℕ) (r : Recovery) → HeadsRest client first → PartRan (Client client r) h first last → HeadsRest (client + 1) last
  one_more client r rest ran k is less = by (cases_eq client k)
    where
      run : RecoveryRun client h first last
      run = clients client r h first last ran

      keeps : ClientKeeps client (stock_of first.state) (stock_of last.state)
      keeps = ran_keeps (Client client r) h first last ran

      by : (client ≡ k) ⊎ (client ≢ k) → ((store_at last).tally.head k).phase ≡ Settled
      by (inl e) = subst (λ (n : ℕ). ((store_at last).tally.head n).phase ≡ Settled) e run.settles
      by (inr other) = head_stays first last k (keeps.heads k (λ e. absurd (other e))) (rest k is (omega (arith, less, other)))

  module _ (s : Settling) (tree : ℕ) (r : Making) (left : LeftAt (Tree tree r) s.known s.visited first) (ran : PartRan (Tree tree r) h first last) where
    run : TreeRun tree r h first last
    run = trees tree r h first last ran

    drains : Drains (queue.TreePu tree) r.received first.state last.state
    drains = run.drains delivered

    keeps : QueueKeeps true tree (queue.TreePu tree) (stock_of first.state) (stock_of last.state)
    keeps = ran_keeps (Tree tree r) h first last ran

    heads : HeadsRest 65 last
    heads = heads_stay true tree (queue.TreePu tree) first last keeps left.0

    before : TreesRest tree last.state
    before = trees_stay true tree (queue.TreePu tree) first last keeps refl left.1.0

    more_left : (id : ℕ) (ids : List ℕ) → new_ids s.known r.received ≡ id ∷ ids → HandsOn (Goes (record s { part = part_of_tree tree; known = s.known ++ id ∷ ids }))
    more_left id ids e = (heads, (before, news_left (queue.TreePu tree) s.known r.received first.state last.state left.1.1 drains (id ∷ ids) e))

    tree_left : new_ids s.known r.received ≡ [] → HandsOn (to_page (record s { visited = [] }) tree 1)
    tree_left e = (
      heads,
      (
        before,
        (
          none_received (queue.PagePu tree 1) last.state,
          record {
            own = none_left (queue.TreePu tree) s.known r.received first.state last.state left.1.1 drains e;
            leads = (omega arith, (refl, refl));
            here = (zero, refl);
            behind = λ p is other. absurd (other (get_single 1 is.0 p is.1));
          },
        ),
      ),
    )

  module _ (s : Settling) (tree page : ℕ) (r : Paging) (is_tree : IsTree tree) (left : LeftAt (Page tree page r) s.known s.visited first) (ran : PartRan (Page tree page r) h first last) where
    page_run : PageRun tree page r h first last
    page_run = pages tree page r h first last ran

    page_drains : Drains (queue.PagePu tree page) r.received first.state last.state
    page_drains = page_run.drains delivered

    page_keeps : QueueKeeps false tree (queue.PagePu tree page) (stock_of first.state) (stock_of last.state)
    page_keeps = ran_keeps (Page tree page r) h first last ran

    page_heads : HeadsRest 65 last
    page_heads = heads_stay false tree (queue.PagePu tree page) first last page_keeps left.0

    page_before : TreesRest tree last.state
    page_before = trees_stay false tree (queue.PagePu tree page) first last page_keeps refl left.1.0

    was : PagesRest tree page s.visited first.state
    was = left.1.1.1

    same_rights : right_at first.state tree ≡ right_at last.state tree
    same_rights = λ i p. (sym (page_run.rights p)) i

    rest : PagesRest tree page s.visited last.state
    rest = record {
      own = waiting_stays false tree (queue.PagePu tree page) first last page_keeps (queue.TreePu tree) (λ e. cc (e)) ∙ was.own;
      leads = subst (λ (right : ℕ → ℕ). LeadAlong right 1 s.visited (right page)) same_rights was.leads;
      here = was.here;
      behind = λ p is other. waiting_stays false tree (queue.PagePu tree page) first last page_keeps (queue.PagePu tree p) (λ e. other (cc (e))) ∙ was.behind p is other;
    }

    drained : new_ids s.known r.received ≡ [] → waiting last.state (queue.PagePu tree page) ≡ []
    drained none = none_left (queue.PagePu tree page) s.known r.received first.state last.state left.1.1.0 page_drains none

    -- behind the last page the tree is empty
    tree_done : new_ids s.known r.received ≡ [] → page_at r.home.right ≡ None → TreesRest (tree + 1) last.state
    tree_done none e t is less = by (cases_eq t tree)
      where
        by : (t ≡ tree) ⊎ (t ≢ tree) → NoneWaits t last.state
        by (inl same) =
            subst (λ (n : ℕ). NoneWaits n last.state) (sym same)
            (tree_rests last tree page s.visited is_tree rest (page_run.right ∙ page_zero r.home.right e) (drained none))
        by (inr other) = page_before t is (omega (arith, less, other))

    -- what was behind the right page
    further : new_ids s.known r.received ≡ [] → (q : ℕ) → page_at r.home.right ≡ Some q → PagesRest tree q (s.visited ++ q ∷ []) last.state
    further none q e = record {
      own = rest.own;
      leads = leads_more (right_at last.state tree) 1 q s.visited
          (subst (LeadAlong (right_at last.state tree) 1 s.visited) (page_run.right ∙ page_some r.home.right q e) rest.leads) (page_is r.home.right q e);
      here = in_behind s.visited (q ∷ []) q (zero, refl);
      behind = λ p is other. at p other (in_either s.visited (q ∷ []) p is);
    }
      where
        at : (p : ℕ) → (q ≡ p → ⊥) → IsIn s.visited p ⊎ IsIn (q ∷ []) p → waiting last.state (queue.PagePu tree p) ≡ []
        at p other (inr is) = absurd (other (get_single q is.0 p is.1))
        at p other (inl is) = own (cases_eq page p)
          where
            own : (page ≡ p) ⊎ (page ≢ p) → waiting last.state (queue.PagePu tree p) ≡ []
            own (inl same) = subst (λ (n : ℕ). waiting last.state (queue.PagePu tree n) ≡ []) same (drained none)
            own (inr apart) = rest.behind p is (λ f. absurd (apart f))

    page_again : (id : ℕ) (ids : List ℕ) → new_ids s.known r.received ≡ id ∷ ids → HandsOn (Goes (record s { part = part_of_page tree page; known = s.known ++ id ∷ ids }))
    page_again id ids e = (page_heads, (page_before, (news_left (queue.PagePu tree page) s.known r.received first.state last.state left.1.1.0 page_drains (id ∷ ids) e, rest)))

  again_on : (s : Settling) (w : Part) → IsOfTree w → LeftAt w s.known s.visited first → PartRan w h first last → (id : ℕ) (ids : List ℕ) → new_ids s.known (part_received w) ≡ id ∷ ids
      → HandsOn (Goes (record s { part = part_again w; known = s.known ++ id ∷ ids }))
  again_on s (Client client r) is left ran id ids e = absurd (cc (e))
  again_on s (Tree tree r) is left ran id ids e = more_left s tree r left ran id ids e
  again_on s (Page tree page r) is left ran id ids e = page_again s tree page r is left ran id ids e

  left_on : {m : Settling} {next : Step} → Passes m next → IsOfTree m.part → LeftAt m.part m.known m.visited first → PartRan m.part h first last → HandsOn next
  left_on (step.again s id ids news) is left ran = again_on s s.part is left ran id ids news
  left_on (step.next_client s client r less) is left ran = one_more client r left ran
  left_on (step.first_tree s client r most) is left ran = (
    λ k own less. let upto = own.most in one_more client r left ran k own (omega (arith, most, upto)),
    (λ t own less. let some = own.some in absurd (omega (arith, some, less)), none_received (queue.TreePu 1) last.state),
  )
  left_on (step.first_page s tree r none) is left ran = tree_left s tree r left ran none
  left_on (step.right_page s tree page r right none link new) is left ran =
      (page_heads s tree page r is left ran, (page_before s tree page r is left ran, (none_received (queue.PagePu tree right) last.state, further s tree page r is left ran none right link)))
  left_on (step.round s tree page r right none link seen) is left ran = tt
  left_on (step.next_tree s tree page r none end less) is left ran =
      (page_heads s tree page r is left ran, (tree_done s tree page r is left ran none end, none_received (queue.TreePu (tree + 1)) last.state))
  left_on (step.all_done s tree page r none end most) is left ran =
      (page_heads s tree page r is left ran, λ t own less. let upto = own.most in tree_done s tree page r is left ran none end t own (omega (arith, most, upto)))

pub left_hands : TreesRun → PagesRun → RecoveriesRun → Hands Left NothingWaits IsDelivered
left_hands trees pages clients s w h first last left place ran each works =
    left_on trees pages clients h first last (each_delivered h each) (passes (behind_part s w h)) (works_tree first s.part w place works)
    (left_again w s.known s.visited first (subst (λ (x : Part). LeftAt x s.known s.visited first) (sym place) (again_left s.part s.known s.visited first left))) ran

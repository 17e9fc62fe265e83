-- What a settling leaves behind each of its parts: settled heads, and queues of which no message waits.
use Rattle.std.proofs.Common.{◌≡◌, ◌≢◌, ◌+◌, ◌<◌, ◌⊎◌, inl, inr, ℕ, zero, suc, List, [], ◌∷◌, ◌++◌, length, Option, Some, None, refl, sym, ap, subst, ◌∙◌, arith}
use Rattle.std.specs.Prelude.{slice_get}
use Rattle.std.proofs.lemmas.Bool.{cases_eq}
use Rattle.cloud_facts.proofs.Book.Places.{in_none, get_within}
use Rattle.cloud_facts.proofs.Copies.Receives.{IsLeft, left_of}
use Rattle.cloud_facts.specs.Words.{IsClient, IsTree, CloudState, Link, IsIn, StandsAt}
use Rattle.cloud_facts.specs.Book.Telling.{queue_of}
use Rattle.cloud_facts.specs.Chains.Chain.{IsChained}
use Rattle.cloud_facts.specs.Chains.Links.{first_link, page_after}
use Rattle.cloud_facts.specs.Numbers.Numbers.{IsOfRecord}
use Rattle.cloud_facts.specs.Book.Premises.{IsRouted}
use Rattle.cloud_trait.specs.Delivery.{unmarked}
use Rattle.cloud_trait.specs.declared.message.Message.{Message}
use Rattle.db_base.specs.Ids.{IsPage}
use Rattle.db_base.specs.declared.names.QueueName.TheVariants as queue
use Rattle.head_codec.specs.declared.head.Phase.TheVariants.{Settled}
use Rattle.session_facts.proofs.Settling.Queues.{AreNews}
use Rattle.session_facts.specs.Settling.Bound.{LeadAlong}
use Rattle.session_facts.specs.Settling.Runs.{waiting, right_at}
use Rattle.session_facts.specs.Settling.Story.{Moment, store_at}
use Rattle.settle_run.specs.Parts.{part_again}
use Rattle.settle_run.specs.Settling.{Settling}
use Rattle.settle_run.specs.declared.part.Part.{Part}
use Rattle.settle_run.specs.declared.part.Part.TheVariants.{Client, Tree, Page}
use Rattle.settle_run.specs.declared.settled.Settled.{Settled as Answered}
use Rattle.cloud_facts.proofs.Chains.Pieces.{in_rest}
use Rattle.cloud_facts.proofs.Orders.Filters.{nothing_in}

-- ---- what is left

-- the heads of the clients below a number are settled
abbrev pub HeadsRest : ℕ → Moment → Type 0
HeadsRest upto m = (k : ℕ) → IsClient k → k < upto → ((store_at m).tally.head k).phase ≡ Settled

-- no message of a tree's queues waits
abbrev pub NoneWaits : ℕ → CloudState → Type 0
NoneWaits tree s = (page : ℕ) → waiting s (queue_of tree page) ≡ []

-- .. of the trees below a number
abbrev pub TreesRest : ℕ → CloudState → Type 0
TreesRest upto s = (t : ℕ) → IsTree t → t < upto → NoneWaits t s

-- of a tree whose page is at work: its own queue and those of the pages before it are empty, and right pages lead along these from page 1, the
-- page at work among them, to its right page
pub record PagesRest (tree page : ℕ) (visited : List ℕ) (s : CloudState) : Type 0 where
  pub own : waiting s (queue.TreePu tree) ≡ []
  pub leads : LeadAlong (right_at s tree) 1 visited (right_at s tree page)
  pub here : IsIn visited page
  pub behind : (p : ℕ) → IsIn visited p → (page ≡ p → ⊥) → waiting s (queue.PagePu tree p) ≡ []

-- where a part begins
abbrev pub LeftAt : Part → List ℕ → List ℕ → Moment → Type 0
LeftAt (Client client r) known visited m = HeadsRest client m
LeftAt (Tree tree r) known visited m = HeadsRest 65 m × (TreesRest tree m.state × AreNews known (queue.TreePu tree) m.state)
LeftAt (Page tree page r) known visited m = HeadsRest 65 m × (TreesRest tree m.state × (AreNews known (queue.PagePu tree page) m.state × PagesRest tree page visited m.state))

abbrev pub Left : Settling → Moment → Type 0
Left s m = LeftAt s.part s.known s.visited m

-- at the end
abbrev pub NothingWaits : Settling → Answered → Moment → Type 0
NothingWaits s x m = HeadsRest 65 m × TreesRest 17 m.state

pub again_left : (w : Part) (known visited : List ℕ) (m : Moment) → LeftAt w known visited m → LeftAt (part_again w) known visited m
again_left (Client client r) known visited m k = k
again_left (Tree tree r) known visited m k = k
again_left (Page tree page r) known visited m k = k

pub left_again : (w : Part) (known visited : List ℕ) (m : Moment) → LeftAt (part_again w) known visited m → LeftAt w known visited m
left_again (Client client r) known visited m k = k
left_again (Tree tree r) known visited m k = k
left_again (Page tree page r) known visited m k = k

-- ---- the way along the pages

leads_first : (right : ℕ → ℕ) (from to : ℕ) (ps : List ℕ) (p : ℕ) → LeadAlong right from ps to → IsIn ps p → IsIn ps from
leads_first right from to [] p leads is = absurd (cc (is.1))
leads_first right from to (x ∷ ps) p leads is = (zero, ap (λ (n : ℕ). Some n) leads.1.0)

-- each page leads to one of them, or to where they all do
leads_on : (right : ℕ → ℕ) (from to : ℕ) (ps : List ℕ) (p : ℕ) → LeadAlong right from ps to → IsIn ps p → (right p ≡ to) ⊎ IsIn ps (right p)
leads_on right from to [] p leads (place, e) = absurd (cc (e))
leads_on right from to (x ∷ ps) p leads (suc place, e) = on (leads_on right (right x) to ps p leads.1.1 (place, e))
  where
    on : (right p ≡ to) ⊎ IsIn ps (right p) → (right p ≡ to) ⊎ IsIn (x ∷ ps) (right p)
    on (inl same) = inl same
    on (inr is) = inr (in_rest x ps (right p) is)
leads_on right from to (x ∷ []) p leads (zero, e) = let same : x ≡ p = cc (e) in inl (sym (ap right same) ∙ leads.1.1)
leads_on right from to (x ∷ y ∷ ps) p leads (zero, e) =
    let same : x ≡ p = cc (e) in
    inr (in_rest x (y ∷ ps) (right p) (zero, ap (λ (n : ℕ). Some n) (leads.1.1.1.0 ∙ ap right same)))

pub leads_more : (right : ℕ → ℕ) (from to : ℕ) (ps : List ℕ) → LeadAlong right from ps to → IsPage to → LeadAlong right from (ps ++ to ∷ []) (right to)
leads_more right from to [] leads is = (is, (sym leads, refl))
leads_more right from to (p ∷ ps) leads is = (leads.0, (leads.1.0, leads_more right (right p) to ps leads.1.1 is))

-- ---- a tree whose pages are all behind

module _ (m : Moment) (tree page : ℕ) (visited : List ℕ) (is_tree : IsTree tree) (rest : PagesRest tree page visited m.state)
    (ends : right_at m.state tree page ≡ 0) (drained : waiting m.state (queue.PagePu tree page) ≡ []) where
  abbrev s : CloudState
  s = m.state

  chained : IsChained (m.book.chain tree) ((store_at m).tally.nodes tree) ((store_at m).tally.roots tree) ((store_at m).tally.done tree) ((store_at m).tally.cursor tree 0)
  chained = m.stand.cloud.holds.chains tree is_tree

  -- each link of the leaf chain is of a page that was come to
  link_in : (place : ℕ) (link : Link) → StandsAt (m.book.chain tree 0) place link → IsIn visited link.page
  link_in zero link there =
      let first : slice_get (m.book.chain tree 0) 0 ≡ Some first_link = ap (λ (ls : List Link). slice_get ls 0) chained.levels.leaves.1 in
      let same : first_link ≡ link = cc (first, there) in
      subst (λ (x : Link). IsIn visited x.page) same (leads_first (right_at s tree) 1 (right_at s tree page) visited page rest.leads rest.here)
  link_in (suc place) link there = before (slice_get (m.book.chain tree 0) place) refl (λ last e. link_in place last e)
    where
      before : (o : Option Link) → slice_get (m.book.chain tree 0) place ≡ o → ((last : Link) → StandsAt (m.book.chain tree 0) place last → IsIn visited last.page) → IsIn visited link.page
      before None e again =
          let within = get_within (m.book.chain tree 0) (suc place) link there in
          absurd (none_before (m.book.chain tree 0) place (omega (arith, within)) e)
        where
          none_before : (ls : List Link) (k : ℕ) → k < length ls → slice_get ls k ≡ None → ⊥
          none_before [] k less f = absurd (omega (arith, less))
          none_before (l ∷ ls) zero less f = absurd (cc (f))
          none_before (l ∷ ls) (suc k) less f = none_before ls k (omega (arith, less)) f
      before (Some last) e again =
          let next : place + 1 ≡ suc place = omega arith in
          let there_next : slice_get (m.book.chain tree 0) (place + 1) ≡ Some link = ap (slice_get (m.book.chain tree 0)) next ∙ there in
          let right : right_at s tree last.page ≡ link.page =
          (chained.newest.ends 0 place last e).right ∙ ap page_after there_next in
          on right (leads_on (right_at s tree) 1 (right_at s tree page) visited last.page rest.leads (again last e))
        where
          on : right_at s tree last.page ≡ link.page → (right_at s tree last.page ≡ right_at s tree page) ⊎ IsIn visited (right_at s tree last.page) → IsIn visited link.page
          on right (inl same) =
              let some = (chained.pages.linked 0 link (suc place, there)).0 in
              let zero_is : link.page ≡ 0 = sym right ∙ (same ∙ ends) in
              absurd (omega (arith, some, zero_is))
          on right (inr is) = subst (IsIn visited) right is

  empty_page : (p : ℕ) → IsIn visited p → waiting s (queue.PagePu tree p) ≡ []
  empty_page p is = on (cases_eq page p)
    where
      on : (page ≡ p) ⊎ (page ≢ p) → waiting s (queue.PagePu tree p) ≡ []
      on (inl e) = subst (λ (n : ℕ). waiting s (queue.PagePu tree n) ≡ []) e drained
      on (inr other) = rest.behind p is (λ e. absurd (other e))

  -- what waits is a record that goes to its queue, which is the tree's or that of a leaf of the chain
  pub tree_rests : NoneWaits tree s
  tree_rests zero = rest.own
  tree_rests (suc n) = nothing_in (waiting s (queue.PagePu tree (suc n))) (λ x is. none x is)
    where
      none : (x : Message) → IsIn (waiting s (queue.PagePu tree (suc n))) x → ⊥
      none x is = by (m.stand.cloud.holds.numbers.placed r.of r.logged).routed
        where
          left : IsLeft (s.messages (queue.PagePu tree (suc n))) (unmarked (s.messages (queue.PagePu tree (suc n)))) is.0 x
          left = left_of (s.messages (queue.PagePu tree (suc n))) 1 is.0 x is.1

          r : IsOfRecord m.book.log tree (suc n) left.message.bytes
          r = m.stand.cloud.holds.numbers.sent tree (suc n) left.place left.message left.there

          linked : (place : ℕ) (link : Link) → StandsAt (m.book.chain r.of.tree 0) place link → link.page ≡ r.of.page → ⊥
          linked place link there e =
              let here : IsIn visited link.page = link_in place link (subst (λ (t : ℕ). StandsAt (m.book.chain t 0) place link) r.tree_is there) in
              in_none (waiting s (queue.PagePu tree (suc n))) x (empty_page (suc n) (subst (IsIn visited) (e ∙ r.page_is) here)) is

          by : IsRouted m.book r.of → ⊥
          by (inl e) = let never : suc n ≡ 0 = sym r.page_is ∙ e in absurd (omega (arith, never))
          by (inr at) = linked at.linked.0 at.link at.linked.1 at.page_is

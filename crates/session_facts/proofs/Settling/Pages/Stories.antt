-- The story of a page's checkpoint within a settling: what led there, and the states that it went through.
use Rattle.std.proofs.Common.{◌≡◌, ℕ, List, [], ◌∷◌, refl, sym, ap, subst, ◌∙◌}
use Rattle.cloud_trait.specs.Machine.{Next, Goes, Ends, Stops, Deed, Came}
use Rattle.cloud_trait.specs.declared.answer.Answer.{Answer}
use Rattle.cloud_trait.specs.declared.turn.CkptAnswer.{CkptAnswer}
use Rattle.page_ckpt.specs.Paging.{Paging, new_paging, paging_ask, PagingLeads}
use Rattle.page_ckpt.specs.Leases.{Went}
use Rattle.recover_run.specs.declared.stage.RecoverAnswer.{RecoverAnswer}
use Rattle.recover_run.specs.Recovery.{Recovery}
use Rattle.session_facts.proofs.Settling.Pages.Rights.{SameRights, paging_rights}
use Rattle.session_facts.proofs.Settling.Stories.{turn_known, turn_asks, story_went}
use Rattle.session_facts.proofs.Settling.Trails.{IsBetween, Trail}
use Rattle.session_facts.specs.Settling.Story.{Moment, store_at, IsTurn, PartStory}
use Rattle.session_facts.specs.Machines.Settlings.Knows.{MakesPage}
use Rattle.settle_run.specs.Parts.{recovers, makes, pages, PartLeads}
use Rattle.settle_run.specs.declared.part.Part.{Part}
use Rattle.settle_run.specs.declared.part.Part.TheVariants.{Client, Tree, Page}
use Rattle.tree_ckpt.specs.Making.{Making}

-- ---- what leads to a checkpoint of a page

pub record GoesFrom (tree page : ℕ) (from : Part) (a : Answer) (m : Paging) : Type 0 where
  pub was : Paging
  pub is : from ≡ Page tree page was
  pub leads : PagingLeads was a (Goes m)

pub goes_from : (tree page : ℕ) (m : Paging) (from : Part) (a : Answer) → PartLeads from a (Goes (Page tree page m)) → GoesFrom tree page from a m
goes_from tree page m (Client client r) a leads = absurd (never leads.0 leads.2)
  where
    never : (n : Next Recovery RecoverAnswer) → Goes (Page tree page m) ≡ recovers client n → ⊥
    never (Goes x) e = cc (e)
    never (Ends x y) e = cc (e)
    never (Stops x t) e = cc (e)
goes_from tree page m (Tree other r) a leads = absurd (never leads.0 leads.2)
  where
    never : (n : Next Making CkptAnswer) → Goes (Page tree page m) ≡ makes other n → ⊥
    never (Goes x) e = cc (e)
    never (Ends x y) e = cc (e)
    never (Stops x t) e = cc (e)
goes_from tree page m (Page other right was) a leads = on leads.0 leads.1 leads.2
  where
    on : (n : Next Paging CkptAnswer) → PagingLeads was a n → Goes (Page tree page m) ≡ pages other right n → GoesFrom tree page (Page other right was) a m
    on (Goes x) l e =
        let tree_is : other ≡ tree = cc (e) in
        let page_is : right ≡ page = cc (e) in
        let same : m ≡ x = cc (e) in
        record { was = was; is = λ i. Page (tree_is i) (page_is i) was; leads = subst (λ (y : Paging). PagingLeads was a (Goes y)) (sym same) l }
    on (Ends x y) l e = absurd (cc (e))
    on (Stops x t) l e = absurd (cc (e))

pub record EndsFrom (tree page : ℕ) (from : Part) (a : Answer) (m : Paging) : Type 0 where
  pub was : Paging
  pub answer : CkptAnswer
  pub is : from ≡ Page tree page was
  pub leads : PagingLeads was a (Ends m answer)
  pub left : answer.left ≡ 0

pub ends_from : (tree page : ℕ) (m : Paging) (from : Part) (a : Answer) → PartLeads from a (Ends (Page tree page m) 0) → EndsFrom tree page from a m
ends_from tree page m (Client client r) a leads = absurd (never leads.0 leads.2)
  where
    never : (n : Next Recovery RecoverAnswer) → Ends (Page tree page m) 0 ≡ recovers client n → ⊥
    never (Goes x) e = cc (e)
    never (Ends x y) e = cc (e)
    never (Stops x t) e = cc (e)
ends_from tree page m (Tree other r) a leads = absurd (never leads.0 leads.2)
  where
    never : (n : Next Making CkptAnswer) → Ends (Page tree page m) 0 ≡ makes other n → ⊥
    never (Goes x) e = cc (e)
    never (Ends x y) e = cc (e)
    never (Stops x t) e = cc (e)
ends_from tree page m (Page other right was) a leads = on leads.0 leads.1 leads.2
  where
    on : (n : Next Paging CkptAnswer) → PagingLeads was a n → Ends (Page tree page m) 0 ≡ pages other right n → EndsFrom tree page (Page other right was) a m
    on (Ends x answer) l e =
        let tree_is : other ≡ tree = cc (e) in
        let page_is : right ≡ page = cc (e) in
        let same : m ≡ x = cc (e) in
        let none : answer.left ≡ 0 = cc (e) in
        record {
          was = was;
          answer = answer;
          is = λ i. Page (tree_is i) (page_is i) was;
          leads = subst (λ (y : Paging). PagingLeads was a (Ends y answer)) (sym same) l;
          left = none;
        }
    on (Goes x) l e = absurd (cc (e))
    on (Stops x t) l e = absurd (cc (e))

-- ---- a turn

pub turn_page : (d : Deed) (tree page : ℕ) (p : Paging) (from to : Moment) → IsTurn d (Page tree page p) from to
    → MakesPage (store_at from) from.state.now tree page p (from.stand.parts 0)
turn_page d tree page p from to turn = turn_known d (Page tree page p) from to turn

pub turn_rights : (d : Deed) (tree page : ℕ) (p : Paging) (from to : Moment) → IsTurn d (Page tree page p) from to → SameRights from.state to.state
turn_rights d tree page p from to turn =
    paging_rights d.who from.state to.state from.book from.order p d.answer (turn_page d tree page p from to turn).knows (turn_asks d (Page tree page p) from to turn)

pub turn_between : (d : Deed) (w : Part) (from to : Moment) → IsTurn d w from to → IsBetween d from.state to.state
turn_between d w from to turn = record { made = turn.made; told = turn.told; left = turn.left }

-- ---- a story

pub story_trail : (first : Moment) (h : List Deed) (w : Part) (now : Moment) → PartStory first h w now → Trail h first.state now.state
story_trail first [] w now story = ap (λ (m : Moment). m.state) story.1
story_trail first (d ∷ h) w now (from, (before, (story, turn, leads))) = (before.state, story_trail first h from before story, turn_between d from before now turn)

-- no right page changes
pub story_rights : (first : Moment) (h : List Deed) (tree page : ℕ) (p : Paging) (now : Moment) → PartStory first h (Page tree page p) now → SameRights first.state now.state
story_rights first [] tree page p now story = subst (λ (m : Moment). SameRights first.state m.state) (sym story.1) (λ t q. refl)
story_rights first (d ∷ h) tree page p now (from, (before, (story, turn, leads))) =
    let f = goes_from tree page p from d.answer leads in
    let earlier = story_rights first h tree page f.was before (subst (λ (w : Part). PartStory first h w before) f.is story) in
    let later = turn_rights d tree page f.was before now (subst (λ (w : Part). IsTurn d w before now) f.is turn) in
    λ t q. later t q ∙ earlier t q

-- what the machine went
pub page_went : (first : Moment) (h : List Deed) (tree page : ℕ) (p : Paging) (now : Moment) → p.tree ≡ tree → p.page ≡ page → PartStory first h (Page tree page p) now → Went h p
page_went first h tree page p now tree_is page_is story =
    subst (λ (q : ℕ). Came paging_ask PagingLeads (new_paging p.tree q) h p) (sym page_is)
    (subst (λ (k : ℕ). Came paging_ask PagingLeads (new_paging k page) h p) (sym tree_is) (story_went first h (Page tree page p) now story))

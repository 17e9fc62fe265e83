-- A checkpoint that is done while nobody else acts, and no call of which failed, leaves none of at most 256 messages; and it sends none.
use Rattle.std.proofs.Common.{◌≡◌, ◌≢◌, ◌≤◌, ℕ, List, [], ◌∷◌, length, Option, Some, None, refl, sym, ap, subst, ◌∙◌}
use Rattle.cloud_facts.specs.Words.{IsTree, QueueName, Answer, Ended, CloudState, Claim, Ask, Send, Delete, Release, Goes, Ends, Stops, Deed, calls_of, done_of}
use Rattle.cloud_trait.specs.declared.answer.Answer.TheVariants.{Failed, Memory, Done}
use Rattle.cloud_trait.specs.declared.turn.CkptAnswer.{CkptAnswer}
use Rattle.cloud_trait.specs.Machine.{Came}
use Rattle.cloud_trait.specs.Weather.{Fits}
use Rattle.db_base.specs.Ids.{IsPage}
use Rattle.db_base.specs.declared.names.QueueName.TheVariants as queue
use Rattle.page_ckpt.proofs.Meaning.{went_knows, knows_done}
use Rattle.page_ckpt.proofs.Outcomes.{Comes as PageStep, comes as page_step}
use Rattle.page_ckpt.proofs.Outcomes as step
use Rattle.page_ckpt.specs.Meaning.{IsDone as IsPageDone, Scene, scene, deletes_over as page_deletes_over, failed_count as page_failed_count, Tried as PageTried}
use Rattle.page_ckpt.specs.Paging.{Paging, Step as PageNext, new_paging, paging_ask, PagingLeads, ask_at as page_ask_at, delete_next, under}
use Rattle.page_ckpt.specs.declared.stage.Stage.{Stage}
use Rattle.page_ckpt.specs.declared.stage.Stage.TheVariants as stage
use Rattle.page_ckpt.specs.Leases.{Went as PageWent}
use Rattle.ckpt_parts.specs.Deleting.{next_id}
use Rattle.ckpt_parts.specs.Leasing.{newest_lease}
use Rattle.session_facts.proofs.Machines.PageCheckpoints.Stays.{same_page}
use Rattle.session_facts.proofs.Settling.Trees.Emptied.{tree_emptied}
use Rattle.session_facts.proofs.Settling.Pages.Emptied.{page_emptied}
use Rattle.session_facts.proofs.Settling.Trails.{Calls, IsBetween, Trail, first_is, rest_is, ask_is, answer_is}
use Rattle.session_facts.proofs.Settling.Trees.Drains.{SendsNothing}
use Rattle.session_facts.proofs.Settling.Trees.Runs.{work_sends}
use Rattle.session_facts.specs.Settling.Runs.{waiting}
use Rattle.session_facts.specs.Settling.Story.{Moment}
use Rattle.tree_ckpt.proofs.Causes.{went_brought}
use Rattle.tree_ckpt.proofs.Meaning.{went_done, took_done}
use Rattle.tree_ckpt.specs.Making.{Making, new_making, making_ask, MakingLeads}
use Rattle.tree_ckpt.specs.Meaning.{IsDone as IsTreeDone, deletes_over, failed_count, one_less, Tried}
use Rattle.tree_ckpt.specs.Leases.{Went}
use Rattle.tree_ckpt.specs.Moves.{went}
use Rattle.session_facts.specs.Writers.Alone.{AreAnswered}
use Rattle.session_facts.proofs.Writers.Coming.{Comes}

-- ---- deletions that were answered went

delete_done : (q : QueueName) (id : ℕ) (a : Answer) → Fits (Delete q id) a → (a ≢ Failed) × (a ≢ Memory) → a ≡ Done
delete_done q id Failed fits answered = absurd (answered.0 refl)
delete_done q id Memory fits answered = absurd (answered.1 refl)
delete_done q id Done fits answered = refl
delete_done q id a fits answered = absurd fits

-- the answer of such a call
done_so : (d : Deed) (q : QueueName) (id : ℕ) (a : Answer) (s t : CloudState) → IsBetween d s t → (d.answer ≢ Failed) × (d.answer ≢ Memory) → d.ask ≡ Delete q id → d.answer ≡ a → a ≡ Done
done_so d q id a s t between answered asked is =
    sym is ∙ delete_done q id d.answer (subst (λ (ask : Ask). Fits ask d.answer) asked between.made.fits) answered

tree_none_failed : (tree : ℕ) (tried : Tried) (rest : Calls) (h : List Deed) (s t : CloudState) → Trail h s t → AreAnswered h → calls_of h ≡ deletes_over tree tried rest
    → failed_count tried ≡ 0
tree_none_failed tree [] rest h s t trail answered are = refl
tree_none_failed tree (x ∷ tried) rest [] s t trail answered are = absurd (cc (are))
tree_none_failed tree (x ∷ tried) rest (d ∷ h) s t (u, trail, between) (own, others) are =
    ap (λ (a : Answer). one_less (went (done_of a)) (failed_count tried)) is
    ∙ tree_none_failed tree tried rest h s u trail others (rest_is (d.ask, d.answer) (Delete (queue.TreePu tree) x.0, x.1) (calls_of h) (deletes_over tree tried rest) are)
  where
    call_is : ◌≡◌ {A = Ask × Answer} (d.ask, d.answer) (Delete (queue.TreePu tree) x.0, x.1)
    call_is = first_is (d.ask, d.answer) (Delete (queue.TreePu tree) x.0, x.1) (calls_of h) (deletes_over tree tried rest) are

    is : x.1 ≡ Done
    is = done_so d (queue.TreePu tree) x.0 x.1 u t between own (ask_is call_is) (answer_is call_is)

page_none_failed : (p : Scene) (tried : PageTried) (rest : Calls) (h : List Deed) (s t : CloudState) → Trail h s t → AreAnswered h → calls_of h ≡ page_deletes_over p tried rest
    → page_failed_count tried ≡ 0
page_none_failed p [] rest h s t trail answered are = refl
page_none_failed p (x ∷ tried) rest [] s t trail answered are = absurd (cc (are))
page_none_failed p (x ∷ tried) rest (d ∷ h) s t (u, trail, between) (own, others) are =
    ap (λ (a : Answer). one_less (went (done_of a)) (page_failed_count tried)) is
    ∙ page_none_failed p tried rest h s u trail others (rest_is (d.ask, d.answer) (Delete (queue.PagePu p.tree p.page) x.0, x.1) (calls_of h) (page_deletes_over p tried rest) are)
  where
    call_is : ◌≡◌ {A = Ask × Answer} (d.ask, d.answer) (Delete (queue.PagePu p.tree p.page) x.0, x.1)
    call_is = first_is (d.ask, d.answer) (Delete (queue.PagePu p.tree p.page) x.0, x.1) (calls_of h) (page_deletes_over p tried rest) are

    is : x.1 ≡ Done
    is = done_so d (queue.PagePu p.tree p.page) x.0 x.1 u t between own (ask_is call_is) (answer_is call_is)

-- ---- a tree's checkpoint

came_tree : (tree : ℕ) (h : List Deed) (m : Making) → Came making_ask MakingLeads (new_making tree) h m → m.tree ≡ tree
came_tree tree [] m came = ap (λ (x : Making). x.tree) came
came_tree tree (d ∷ h) m (from, came, asked, made, leads, follows) = leads.0.0 ∙ came_tree tree h from came

module _ (first : Moment) (tree : ℕ) (m n : Making) (s t : CloudState) (comes : Comes making_ask MakingLeads (new_making tree) first.state m s) (end : Deed) (answer : CkptAnswer)
    (between : IsBetween end s t) (asked : end.ask ≡ making_ask m) (leads : MakingLeads m end.answer (Ends n answer)) where
  tree_is : m.tree ≡ tree
  tree_is = came_tree tree comes.calls m comes.came

  tree_went : Went comes.calls m
  tree_went = subst (λ (k : ℕ). Came making_ask MakingLeads (new_making k) comes.calls m) (sym tree_is) comes.came

  tree_done : IsTreeDone (making_ask m) m.tree m.received comes.calls answer
  tree_done = took_done m n comes.calls end.answer (Ended answer) tree_went (went_brought m comes.calls tree_went) (went_done m comes.calls tree_went) leads

  tree_left : answer.left ≡ 0
  tree_left = tree_done.left ∙ tree_none_failed m.tree tree_done.tried _ comes.calls first.state s comes.trail comes.answered tree_done.calls

  pub tree_empties : end.after.counts.withheld ≡ end.before.counts.withheld → length (waiting first.state (queue.TreePu tree)) ≤ 256 → waiting t (queue.TreePu tree) ≡ []
  tree_empties delivers few =
      subst (λ (k : ℕ). waiting t (queue.TreePu k) ≡ []) tree_is
      (tree_emptied first m n comes.calls end answer s t tree_went comes.trail between asked leads tree_left (delivers, comes.delivered)
      (subst (λ (k : ℕ). length (waiting first.state (queue.TreePu k)) ≤ 256) (sym tree_is) few))

-- ---- a page's checkpoint

-- it ends at the page of the checkpoint
abbrev EndsAtPage : Paging → PageNext → Type 0
EndsAtPage p (Goes n) = Unit {0}
EndsAtPage p (Ends n x) = (n.tree ≡ p.tree) × (n.page ≡ p.page)
EndsAtPage p (Stops n t) = Unit {0}

ends_at : {p : Paging} {a : Answer} {next : PageNext} → PageStep p a next → EndsAtPage p next
ends_at (step.ends p first second a last none) = (refl, refl)
ends_at (step.refused p first second a t e) = tt
ends_at c = tt

came_page : (tree page : ℕ) (h : List Deed) (m : Paging) → Came paging_ask PagingLeads (new_paging tree page) h m → (m.tree ≡ tree) × (m.page ≡ page)
came_page tree page [] m came = (ap (λ (x : Paging). x.tree) came, ap (λ (x : Paging). x.page) came)
came_page tree page (d ∷ h) m (from, came, asked, made, leads, follows) =
    let own = same_page from m d.answer leads in
    let rest = came_page tree page h from came in
    (own.0 ∙ rest.0, own.1 ∙ rest.1)

module _ (first : Moment) (tree page : ℕ) (m n : Paging) (s t : CloudState) (comes : Comes paging_ask PagingLeads (new_paging tree page) first.state m s) (end : Deed) (answer : CkptAnswer)
    (between : IsBetween end s t) (asked : end.ask ≡ paging_ask m) (leads : PagingLeads m end.answer (Ends n answer)) (of_tree : IsTree tree) (of_page : IsPage page) where
  page_is : (m.tree ≡ tree) × (m.page ≡ page)
  page_is = came_page tree page comes.calls m comes.came

  end_is : (n.tree ≡ m.tree) × (n.page ≡ m.page)
  end_is = ends_at (page_step m end.answer (Ends n answer) leads)

  n_tree : n.tree ≡ tree
  n_tree = end_is.0 ∙ page_is.0

  n_page : n.page ≡ page
  n_page = end_is.1 ∙ page_is.1

  page_went : PageWent comes.calls m
  page_went =
      subst (λ (k : ℕ). Came paging_ask PagingLeads (new_paging m.tree k) comes.calls m) (sym page_is.1)
      (subst (λ (k : ℕ). Came paging_ask PagingLeads (new_paging k page) comes.calls m) (sym page_is.0) comes.came)

  page_done : IsPageDone (paging_ask m) n comes.calls answer
  page_done = knows_done m n comes.calls end.answer (Ended answer) (went_knows m comes.calls page_went) leads

  page_left : answer.left ≡ 0
  page_left =
      ap (λ (x : CkptAnswer). x.left) page_done.answers
      ∙ page_none_failed (scene n) page_done.tried _ comes.calls first.state s comes.trail comes.answered page_done.calls

  abbrev Emptied : ℕ → ℕ → Type 0
  Emptied a b = length (waiting first.state (queue.PagePu a b)) ≤ 256 → waiting t (queue.PagePu a b) ≡ []

  pub page_empties : end.after.counts.withheld ≡ end.before.counts.withheld → Emptied tree page
  page_empties delivers =
      subst (λ (k : ℕ). Emptied k page) n_tree
      (subst (λ (k : ℕ). Emptied n.tree k) n_page
      (page_emptied first m n comes.calls end answer s t page_went comes.trail between asked leads page_left (subst IsTree (sym n_tree) of_tree) (subst IsPage (sym n_page) of_page)
      (delivers, comes.delivered)))

-- ---- no checkpoint sends

pub is_no_send : (ask : Ask) → SendsNothing ask → (q : QueueName) (bytes : List ℕ) → ask ≢ Send q bytes
is_no_send ask none q bytes e = subst SendsNothing e none

pub tree_sends : (m : Making) → SendsNothing (making_ask m)
tree_sends m = work_sends m.tree m.work

under_sends : (p : Paging) (lease : Option Claim) (ask : Claim → Ask) → ((l : Claim) → SendsNothing (ask l)) → SendsNothing (under p lease ask)
under_sends p (Some l) ask none = none l
under_sends p None ask none = tt

delete_sends : (p : Paging) (id : Option ℕ) → SendsNothing (delete_next p id)
delete_sends p (Some id) = tt
delete_sends p None = tt

at_sends : (st : Stage) (p : Paging) → SendsNothing (page_ask_at st p)
at_sends stage.TakingHome p = tt
at_sends stage.GettingHome p = under_sends p p.held.first _ (λ l. tt)
at_sends stage.Receiving p = tt
at_sends stage.TakingRight p = tt
at_sends stage.GettingRight p = under_sends p p.held.second _ (λ l. tt)
at_sends stage.PuttingRight p = under_sends p p.held.first _ (λ l. under_sends p p.held.second _ (λ r. tt))
at_sends stage.ReleasingRight p = under_sends p p.held.second Release (λ l. tt)
at_sends stage.PuttingHome p = under_sends p p.held.first _ (λ l. tt)
at_sends stage.Deleting p = delete_sends p (next_id p.deletions.ids)
at_sends stage.Releasing p = under_sends p (newest_lease p.held) Release (λ l. tt)
at_sends stage.Finished p = tt

pub page_sends : (p : Paging) → SendsNothing (paging_ask p)
page_sends p = at_sends p.stage p

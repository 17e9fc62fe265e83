-- The checkpoint of a tree runs whole within a settling: it marks what it received, and makes few calls.
use Rattle.std.proofs.Common.{◌≡◌, ◌+◌, ◌*◌, ◌≤◌, ◌⊎◌, inl, inr, ℕ, List, [], ◌∷◌, length, Option, Some, None, sym, ap, subst, ◌∙◌, arith}
use Rattle.std.proofs.lemmas.List.{length-map}
use Rattle.ckpt_parts.specs.Deleting.{next_id}
use Rattle.cloud_facts.specs.Words.{Answer, Ended, CloudState, called, Caller, Ask, Get, GetHeld, PutHeld, Send, Receive, Delete, Take, Renew, Release, Next, Goes, Ends, Stops, Deed, calls_of, IsCall}
use Rattle.cloud_trait.proofs.RowLemmas.{row_messages}
use Rattle.cloud_trait.specs.Ask.{ListHeld, RemoveHeld}
use Rattle.cloud_trait.specs.Delivery.{IsDelivering}
use Rattle.cloud_trait.specs.Machine.{Came}
use Rattle.cloud_trait.specs.State.{Counts}
use Rattle.cloud_trait.specs.Weather.{counted, Fits, Leaves, Rose}
use Rattle.cloud_trait.specs.declared.answer.Answer.TheVariants.{Received}
use Rattle.cloud_trait.specs.declared.turn.CkptAnswer.{CkptAnswer}
use Rattle.db_base.specs.declared.names.QueueName.TheVariants as queue
use Rattle.page_ckpt.specs.Paging.{Paging}
use Rattle.recover_run.specs.declared.stage.RecoverAnswer.{RecoverAnswer}
use Rattle.recover_run.specs.Recovery.{Recovery}
use Rattle.session_facts.proofs.Settling.Stories.{part_known, turn_known, turn_call, turn_asks, story_went}
use Rattle.session_facts.proofs.Settling.Trees.Drains.{Delivers, SendsNothing, LedBy, all_drained}
use Rattle.session_facts.proofs.Settling.Trees.Receives.{quiet_kept, IsReceiving}
use Rattle.session_facts.proofs.Settling.Trees.Steps.{TouchesNoQueue, TouchesQueue, work_quiet}
use Rattle.session_facts.proofs.Settling.Trees.Turns.{first_few, ends_few, few_on}
use Rattle.session_facts.specs.Machines.TreeCheckpoints.Few.{distinct, next_page, IsFew}
use Rattle.session_facts.specs.Settling.Runs.{AreDelivered, Drains, TreeRun, TreesRun}
use Rattle.session_facts.specs.Settling.Story.{Moment, store_at, IsAtWork, IsTurn, PartStory}
use Rattle.session_facts.specs.Machines.Settlings.Knows.{MakesTree}
use Rattle.session_facts.specs.Machines.TreeCheckpoints.Knows.{KnowsWork}
use Rattle.session_facts.specs.Machines.TreeCheckpoints.Counting.{MadeFew}
use Rattle.settle_run.specs.Parts.{recovers, makes, pages, PartLeads}
use Rattle.settle_run.specs.declared.part.Part.{Part}
use Rattle.settle_run.specs.declared.part.Part.TheVariants.{Client, Tree, Page}
use Rattle.tree_ckpt.proofs.Causes.{went_brought}
use Rattle.tree_ckpt.proofs.Meaning.{DoneAt, went_done, took_done}
use Rattle.tree_ckpt.specs.Causes.{Calls}
use Rattle.tree_ckpt.specs.Making.{Making, new_making, making_ask, MakingLeads}
use Rattle.tree_ckpt.specs.Meaning.{IsDone}
use Rattle.tree_ckpt.specs.Leases.{Went}
use Rattle.tree_ckpt.specs.Moves.{Leads}
use Rattle.tree_ckpt.specs.Work.{delete_ask, work_ask}
use Rattle.tree_ckpt.specs.declared.work.Work.{Work}
use Rattle.tree_ckpt.specs.declared.work.Work.TheVariants as work

-- ---- what leads to a checkpoint of a tree

record GoesFrom (tree : ℕ) (from : Part) (a : Answer) (m : Making) : Type 0 where
  was : Making
  is : from ≡ Tree tree was
  leads : MakingLeads was a (Goes m)

goes_from : (tree : ℕ) (m : Making) (from : Part) (a : Answer) → PartLeads from a (Goes (Tree tree m)) → GoesFrom tree from a m
goes_from tree m (Client client r) a leads = absurd (never leads.0 leads.2)
  where
    never : (n : Next Recovery RecoverAnswer) → Goes (Tree tree m) ≡ recovers client n → ⊥
    never (Goes x) e = cc (e)
    never (Ends x y) e = cc (e)
    never (Stops x t) e = cc (e)
goes_from tree m (Page other page p) a leads = absurd (never leads.0 leads.2)
  where
    never : (n : Next Paging CkptAnswer) → Goes (Tree tree m) ≡ pages other page n → ⊥
    never (Goes x) e = cc (e)
    never (Ends x y) e = cc (e)
    never (Stops x t) e = cc (e)
goes_from tree m (Tree other was) a leads = on leads.0 leads.1 leads.2
  where
    on : (n : Next Making CkptAnswer) → MakingLeads was a n → Goes (Tree tree m) ≡ makes other n → GoesFrom tree (Tree other was) a m
    on (Goes x) l e =
        let tree_is : tree ≡ other = cc (e) in
        let same : m ≡ x = cc (e) in
        record { was = was; is = ap (λ (k : ℕ). Tree k was) (sym tree_is); leads = subst (λ (y : Making). MakingLeads was a (Goes y)) (sym same) l }
    on (Ends x y) l e = absurd (cc (e))
    on (Stops x t) l e = absurd (cc (e))

record EndsFrom (tree : ℕ) (from : Part) (a : Answer) (m : Making) : Type 0 where
  was : Making
  answer : CkptAnswer
  is : from ≡ Tree tree was
  leads : MakingLeads was a (Ends m answer)
  left : answer.left ≡ 0

ends_from : (tree : ℕ) (m : Making) (from : Part) (a : Answer) → PartLeads from a (Ends (Tree tree m) 0) → EndsFrom tree from a m
ends_from tree m (Client client r) a leads = absurd (never leads.0 leads.2)
  where
    never : (n : Next Recovery RecoverAnswer) → Ends (Tree tree m) 0 ≡ recovers client n → ⊥
    never (Goes x) e = cc (e)
    never (Ends x y) e = cc (e)
    never (Stops x t) e = cc (e)
ends_from tree m (Page other page p) a leads = absurd (never leads.0 leads.2)
  where
    never : (n : Next Paging CkptAnswer) → Ends (Tree tree m) 0 ≡ pages other page n → ⊥
    never (Goes x) e = cc (e)
    never (Ends x y) e = cc (e)
    never (Stops x t) e = cc (e)
ends_from tree m (Tree other was) a leads = on leads.0 leads.1 leads.2
  where
    on : (n : Next Making CkptAnswer) → MakingLeads was a n → Ends (Tree tree m) 0 ≡ makes other n → EndsFrom tree (Tree other was) a m
    on (Ends x answer) l e =
        let tree_is : tree ≡ other = cc (e) in
        let same : m ≡ x = cc (e) in
        let none : 0 ≡ answer.left = cc (e) in
        record {
          was = was;
          answer = answer;
          is = ap (λ (k : ℕ). Tree k was) (sym tree_is);
          leads = subst (λ (y : Making). MakingLeads was a (Ends y answer)) (sym same) l;
          left = sym none;
        }
    on (Goes x) l e = absurd (cc (e))
    on (Stops x t) l e = absurd (cc (e))

-- ---- a turn

receive_calls : (tree : ℕ) (w : Work) (cs : Calls) → DoneAt tree w cs → IsReceiving w → length cs ≡ 2
receive_calls tree (work.Receiving l root) cs done is = ap length done
receive_calls tree w cs done is = absurd is

module _ (d : Deed) (tree : ℕ) (was : Making) (before now : Moment) (turn : IsTurn d (Tree tree was) before now) where
  making_known : MakesTree (store_at before) before.state.now tree was (before.stand.parts 0)
  making_known = turn_known d (Tree tree was) before now turn

  work_known : KnowsWork (store_at before) before.state.now tree was.work
  work_known = subst (λ (k : ℕ). KnowsWork (store_at before) before.state.now k was.work) making_known.tree_is making_known.knows.work

  work_call : IsCall d.who (work_ask tree was.work) d.answer before.state now.state
  work_call =
      subst (λ (k : ℕ). IsCall d.who (work_ask k was.work) d.answer before.state now.state) making_known.tree_is
      (turn_asks d (Tree tree was) before now turn)

  asks_fit : Fits (making_ask was) d.answer
  asks_fit = subst (λ (ask : Ask). Fits ask d.answer) turn.asked turn.made.fits

  work_fit : Fits (work_ask tree was.work) d.answer
  work_fit = subst (λ (k : ℕ). Fits (work_ask k was.work) d.answer) making_known.tree_is asks_fit

went_of : (first : Moment) (h : List Deed) (tree : ℕ) (m : Making) (now : Moment) → m.tree ≡ tree → PartStory first h (Tree tree m) now → Went h m
went_of first h tree m now is story =
    subst (λ (k : ℕ). Came making_ask MakingLeads (new_making k) h m) (sym is) (story_went first h (Tree tree m) now story)

turn_few : (first : Moment) (d : Deed) (h : List Deed) (tree : ℕ) (was m : Making) (before now : Moment) → IsTurn d (Tree tree was) before now
    → IsAtWork now (Tree tree m)
    → MakingLeads was d.answer (Goes m) → PartStory first h (Tree tree was) before → MadeFew tree (length h) before.state was.work was.received
    → MadeFew tree (length h + 1) now.state m.work m.received
turn_few first d h tree was m before now turn at leads story k =
    few_on tree (length h) before.state now.state d.who d.answer was.work was.received before.book before.order before.stand.cloud
    (work_known d tree was before now turn) (work_call d tree was before now turn) (turn.grows.next tree) k m.work m.received now.book now.order now.stand.cloud
    (subst (λ (t : ℕ). KnowsWork (store_at now) now.state.now t m.work) there.tree_is there.knows.work)
    (work_fit d tree was before now turn)
    (subst (λ (t : ℕ). Leads t was.work d.answer (Goes m.work)) here.tree_is leads.1) leads.0.1
    (λ receives.
    let two = sym (length-map h (λ (e : Deed). (e.ask, e.answer))) ∙ receive_calls was.tree was.work (calls_of h) (went_done was h went) receives in
    omega (arith, two))
  where
    here : MakesTree (store_at before) before.state.now tree was (before.stand.parts 0)
    here = making_known d tree was before now turn

    there : MakesTree (store_at now) now.state.now tree m (now.stand.parts 0)
    there = part_known now (Tree tree m) at

    went : Went h was
    went = went_of first h tree was before here.tree_is story

-- ---- a story

story_few : (first : Moment) (h : List Deed) (tree : ℕ) (m : Making) (now : Moment) → PartStory first h (Tree tree m) now → IsAtWork now (Tree tree m)
    → MadeFew tree (length h) now.state m.work m.received
story_few first [] tree m now story at =
    let begun : new_making tree ≡ m = cc (story.0) in
    subst (λ (n : Moment). MadeFew tree 0 n.state m.work m.received) (sym story.1)
    (subst (λ (n : Making). MadeFew tree 0 first.state n.work n.received) begun (first_few tree first.state))
story_few first (d ∷ h) tree m now (from, (before, (story, turn, leads))) at =
    let f = goes_from tree m from d.answer leads in
    let told = subst (λ (w : Part). PartStory first h w before) f.is story in
    let turned = subst (λ (w : Part). IsTurn d w before now) f.is turn in
    let long : length h + 1 ≡ length (d ∷ h) = omega arith in
    subst (λ (n : ℕ). MadeFew tree n now.state m.work m.received) long
    (turn_few first d h tree f.was m before now turned at f.leads told (story_few first h tree f.was before told turned.at_work))

-- the next free page never falls
story_grows : (tree : ℕ) (first : Moment) (h : List Deed) (w : Part) (now : Moment) → PartStory first h w now → next_page first.state tree ≤ next_page now.state tree
story_grows tree first [] w now story = subst (λ (n : Moment). next_page first.state tree ≤ next_page n.state tree) (sym story.1) (omega arith)
story_grows tree first (d ∷ h) w now (from, (before, (story, turn, leads))) =
    let was = story_grows tree first h from before story in
    let more = turn.grows.next tree in
    omega (arith, was, more)

-- ---- its calls, as they led from state to state

pub delivers_of : (who : Caller) (ask : Ask) (a : Answer) (c e : Counts) (s : CloudState) (new : Option CloudState) → Leaves who ask a (counted c s) e new
    → e.withheld ≡ c.withheld → Delivers ask a s
delivers_of who (Receive q most) (Received ms) c e s new l same = on l.row.2
  where
    on : IsDelivering (s.messages q) most ms ⊎ Rose c.withheld e.withheld → IsDelivering (s.messages q) most ms
    on (inl is) = is
    on (inr rose) = absurd (omega (arith, rose, same))
delivers_of who ask a c e s new l same = tt

quiet_sends : (ask : Ask) → TouchesNoQueue ask → SendsNothing ask
quiet_sends (Get name) quiet = tt
quiet_sends (GetHeld name l) quiet = tt
quiet_sends (ListHeld tree l) quiet = tt
quiet_sends (RemoveHeld name l) quiet = tt
quiet_sends (PutHeld name bytes one two) quiet = tt
quiet_sends (Send q bytes) quiet = quiet
quiet_sends (Receive q most) quiet = tt
quiet_sends (Delete q id) quiet = tt
quiet_sends (Take l ticks) quiet = tt
quiet_sends (Renew l ticks) quiet = tt
quiet_sends (Release l) quiet = tt

delete_sends : (tree : ℕ) (id : Option ℕ) → SendsNothing (delete_ask tree id)
delete_sends tree (Some id) = tt
delete_sends tree None = tt

touch_sends : (tree : ℕ) (w : Work) → TouchesQueue w → SendsNothing (work_ask tree w)
touch_sends tree (work.Receiving l root) is = tt
touch_sends tree (work.Deleting h applied) is = delete_sends tree (next_id h.deletions.ids)
touch_sends tree w is = absurd is

pub work_sends : (tree : ℕ) (w : Work) → SendsNothing (work_ask tree w)
work_sends tree w = on (work_quiet tree w)
  where
    on : TouchesQueue w ⊎ TouchesNoQueue (work_ask tree w) → SendsNothing (work_ask tree w)
    on (inl touches) = touch_sends tree w touches
    on (inr quiet) = quiet_sends (work_ask tree w) quiet

story_led : (first : Moment) (h : List Deed) (tree : ℕ) (m : Making) (now : Moment) → PartStory first h (Tree tree m) now → AreDelivered h
    → LedBy first.state (calls_of h) now.state
story_led first [] tree m now story delivered = ap (λ (n : Moment). n.state) story.1
story_led first (d ∷ h) tree m now (from, (before, (story, turn, leads))) delivered =
    let f = goes_from tree m from d.answer leads in
    let told = subst (λ (w : Part). PartStory first h w before) f.is story in
    let turned = subst (λ (w : Part). IsTurn d w before now) f.is turn in (
      before.state,
      story_led first h tree f.was before told delivered.1,
      record {
        who = d.who;
        call = turn_call d (Tree tree f.was) before now turned;
        delivers = delivers_of d.who d.ask d.answer d.before.counts d.after.counts before.state d.after.state (turned.made.state before.state turned.told) delivered.0;
        sends = subst SendsNothing (sym turned.asked) (work_sends f.was.tree f.was.work);
      },
    )

-- ---- the whole

module _ (tree : ℕ) (m : Making) (first last : Moment) (end : Deed) (earlier : List Deed) (was : Making) (answer : CkptAnswer) (before : Moment)
    (story : PartStory first earlier (Tree tree was) before) (turn : IsTurn end (Tree tree was) before last) (leads : MakingLeads was end.answer (Ends m answer))
    (left : answer.left ≡ 0) where
  here : MakesTree (store_at before) before.state.now tree was (before.stand.parts 0)
  here = making_known end tree was before last turn

  went : Went earlier was
  went = went_of first earlier tree was before here.tree_is story

  done : IsDone (making_ask was) was.tree was.received earlier answer
  done = took_done was m earlier end.answer (Ended answer) went (went_brought was earlier went) (went_done was earlier went) leads

  same_received : m.received ≡ was.received
  same_received =
      leads.0.1
      ∙ quiet_kept (Release done.lease) end.answer was.received tt
      (subst (λ (ask : Ask). Fits ask end.answer) done.last (asks_fit end tree was before last turn))

  same_messages : last.state.messages ≡ before.state.messages
  same_messages =
      let call = subst (λ (ask : Ask). IsCall end.who ask end.answer before.state last.state) done.last (turn_asks end (Tree tree was) before last turn) in
      row_messages end.who (Release done.lease) end.answer call.before call.after (called end.who last.state.now before.state) last.state call.row tt

  made : MadeFew tree (length earlier) before.state was.work was.received
  made = story_few first earlier tree was before story turn.at_work

  whole_drains : AreDelivered (end ∷ earlier) → Drains (queue.TreePu tree) m.received first.state last.state
  whole_drains delivered =
      subst (λ (k : ℕ). Drains (queue.TreePu k) m.received first.state last.state) here.tree_is
      (all_drained first.book first.order first.state before.state last.state first.stand.cloud.holds.copies was.tree done.lease done.opening done.opened done.work done.works done.tried
      (subst (λ (cs : Calls). LedBy first.state cs before.state) done.calls (story_led first earlier tree was before story delivered.1))
      done.covered (sym done.left ∙ left) same_messages m.received (same_received ∙ done.told))

  whole_grows : next_page first.state tree ≤ next_page last.state tree
  whole_grows = let was = story_grows tree first earlier (Tree tree was) before story in let more = turn.grows.next tree in omega (arith, was, more)

  whole_few : IsFew (length (end ∷ earlier)) m.received last.state tree
  whole_few p room =
      let few =
      ends_few tree (length earlier) before.state last.state end.who end.answer was.work was.received before.book before.order before.stand.cloud
      (work_known end tree was before last turn) (work_call end tree was before last turn) (turn.grows.next tree) made p room in
      let long = ap (λ (l : List ℕ). length (distinct l) * (8 * p + 16)) same_received in
      omega (arith, few, long)

  whole_run : TreeRun tree m (end ∷ earlier) first last
  whole_run = record { drains = whole_drains; few = λ calm had. whole_few; grows = whole_grows }

-- every checkpoint of a tree that a settling makes runs so
pub trees_run : TreesRun
trees_run tree m h first last r =
    let e = ends_from tree m r.from r.end.answer r.ends in
    subst (λ (l : List Deed). TreeRun tree m l first last) (sym r.is)
    (whole_run tree m first last r.end r.earlier e.was e.answer r.before
    (subst (λ (w : Part). PartStory first r.earlier w r.before) e.is r.story) (subst (λ (w : Part). IsTurn r.end w r.before last) e.is r.turn) e.leads e.left)

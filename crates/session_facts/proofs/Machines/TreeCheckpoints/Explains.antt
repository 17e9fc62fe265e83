-- Why a checkpoint of a tree meets a trouble, that it keeps it, and which deletions it counts as failed.
use Rattle.std.proofs.Common.{◌≡◌, ◌≢◌, ◌≤◌, ◌⊎◌, inl, inr, ℕ, true, false, List, [], ◌∷◌, length, map, Option, Some, None, Result, Ok, Err, refl, sym, ap, subst, ◌∙◌, arith}
use Rattle.std.proofs.lemmas.Bool.{eqb-true}
use Rattle.std.proofs.lemmas.List.{length-reverse, length-map}
use Rattle.ckpt_parts.specs.declared.leases.Leases.{Leases}
use Rattle.ckpt_parts.specs.declared.intake.Intake.{Intake}
use Rattle.ckpt_parts.specs.Deleting.{next_id, tried}
use Rattle.ckpt_parts.specs.Intakes.{items_of, intake_of, message_damage, TakesItems}
use Rattle.ckpt_parts.specs.Leasing.{without_newest}
use Rattle.cloud_facts.specs.Words.{IsTree, Trouble, QueueName, PuItem, Answer, CloudState, called, newest, Caller, Seen, Claim, Ask, GetHeld, Receive, Next, Goes, Ends, Stops, done_of, got_of, Store}
use Rattle.cloud_trait.specs.declared.answer.Answer.TheVariants.{Memory}
use Rattle.cloud_trait.specs.declared.message.Message.{Message}
use Rattle.cloud_trait.specs.declared.turn.CkptAnswer.{CkptAnswer}
use Rattle.cloud_trait.specs.Weather.{Makes, Rose}
use Rattle.db_base.specs.declared.names.Lock.TheVariants as lock
use Rattle.db_base.specs.declared.names.ObjName.TheVariants as object
use Rattle.db_base.specs.declared.names.QueueName.TheVariants as queue
use Rattle.db_base.specs.declared.trouble.Counter.{Counter}
use Rattle.tree_phases.specs.declared.folding.Folding.{Folding}
use Rattle.tree_phases.specs.Folding.{folding_ask, folding_next}
use Rattle.session_facts.specs.Sessions.Explains.{trouble_of_ending, ending_of, trouble_of_making, left_in_tree, MeetsNext, IsShown}
use Rattle.session_facts.specs.Sessions.Spent.{IsSpentInTree}
use Rattle.session_facts.specs.Machines.TreeCheckpoints.Knows.{KnowsWork, KnowsMaking}
use Rattle.session_facts.specs.Machines.Risings.Knows.{PutsNode, PutsOf, KnowsRising}
use Rattle.session_facts.proofs.Sessions.Shows.{IsFree, free_shown, held_before, held_newest, row_of, got_shown, put_shown, delete_fails, received_shown, given_shown}
use Rattle.session_facts.proofs.Sessions.Spent.{IsToldBy}
use Rattle.session_facts.proofs.Machines.TreeCheckpoints.Spent.{spends_bare, spends_begun, spends_behind, spends_leaf}
use Rattle.session_facts.proofs.Machines.TreeCheckpoints.Troubles.{StopsFor, SpendsUp, gets_for, down_for, folding_for, rises_for, lands_for}
use Rattle.split_plan.specs.declared.put_list.PagePut.{PagePut}
use Rattle.split_plan.specs.Plan.{put_of, on_pages, node_bytes}
use Rattle.tree_ckpt.specs.Making.{Making, making_ask, MakingLeads}
use Rattle.tree_ckpt.specs.Leases.{HasIds}
use Rattle.tree_ckpt.proofs.Outcomes.{Seeks, Descends, Ascends, Clears, Fails, Comes, comes}
use Rattle.tree_ckpt.proofs.Outcomes as step
use Rattle.tree_ckpt.proofs.Failing.{kept_leads}
use Rattle.tree_ckpt.proofs.RiseOutcomes.{rises, lands}
use Rattle.tree_ckpt.proofs.WayOutcomes.{gets}
use Rattle.tree_phases.specs.declared.descent.Descent.{Descent}
use Rattle.tree_ckpt.specs.declared.work.Held.{Held}
use Rattle.tree_ckpt.specs.declared.work.Work.{Work}
use Rattle.tree_ckpt.specs.declared.work.Work.TheVariants as work
use Rattle.tree_ckpt.specs.Moves.{Step, stopping, went, tree_damage, Leads}
use Rattle.tree_ckpt.specs.Work.{take_tree, delete_ask, work_ask}
use Rattle.tree_phases.specs.declared.chart.Chart.{Chart}
use Rattle.tree_phases.specs.Placing.{has_nothing}
use Rattle.tree_phases.specs.Read.{tree_held}
use Rattle.tree_phases.specs.declared.rising.Rising.{Rising}
use Rattle.tree_phases.specs.Rising.{rising_ask}
use Rattle.tree_phases.specs.Rising as up

-- ---- the put in hand on the way up

-- something is to be put
abbrev HasPut : Option (List ℕ) → List PagePut → Option (List ℕ) → Type 0
HasPut (Some bytes) puts last = Unit {0}
HasPut None (x ∷ xs) last = Unit {0}
HasPut None [] (Some bytes) = Unit {0}
HasPut None [] None = ⊥

node_put : (st : Store) (now : ℕ) (lease : Claim) (r : Rising) → PutsNode st now lease r → HasPut r.placing.reserved r.placing.puts None
node_put st now lease r p = on r.placing.reserved r.placing.puts some
  where
    some : 1 ≤ length r.placing.puts
    some =
        let pages = on_pages p.kept.page p.first (p.placing.front ∷ p.placing.middle) in
        let e : length r.placing.puts ≡ length pages =
        ap (λ (xs : List PagePut). length xs) p.placing.puts_are ∙ (length-reverse (map (put_of node_bytes) pages) ∙ length-map pages (put_of node_bytes)) in
        omega (arith, e)

    on : (reserved : Option (List ℕ)) (puts : List PagePut) → 1 ≤ length puts → HasPut reserved puts None
    on (Some bytes) puts there = tt
    on None (x ∷ xs) there = tt
    on None [] there = absurd (omega (arith, there))

last_put : (bytes : List ℕ) (reserved : Option (List ℕ)) (puts : List PagePut) → HasPut reserved puts (Some bytes)
last_put bytes (Some reserving) puts = tt
last_put bytes None (x ∷ xs) = tt
last_put bytes None [] = tt

rising_put : (st : Store) (now : ℕ) (lease : Claim) (r : Rising) (ids : List ℕ) → KnowsRising st now lease r ids → HasPut r.placing.reserved r.placing.puts r.last
rising_put st now lease r ids k = on r.last k.puts
  where
    on : (last : Option (List ℕ)) → PutsOf st now lease r last → HasPut r.placing.reserved r.placing.puts last
    on None p = node_put st now lease r p
    on (Some bytes) p = last_put bytes r.placing.reserved r.placing.puts

-- how many failed deletions a step tells
abbrev pub left_next : Next Making CkptAnswer → ℕ
left_next (Goes n) = left_in_tree n.work
left_next (Ends n a) = a.left
left_next (Stops n q) = 0

abbrev left_at : Step → ℕ
left_at (Goes w) = left_in_tree w
left_at (Ends w a) = a.left
left_at (Stops w q) = 0

abbrev trouble_at : Work → Option Trouble
trouble_at w = trouble_of_ending (ending_of w)

-- ---- what is taken in

-- a message that is no record is damaged
pub message_free : (q : QueueName) (cursor : List (ℕ × ℕ)) (read : Result (List PuItem) Message) (k : Trouble) → TakesItems q cursor read (Err k) → IsFree k
message_free q cursor (Err m) k is = let same : message_damage q m ≡ k = cc in subst IsFree same tt
message_free q cursor (Ok items) k (run, is_run, is) = absurd (cc (is))

-- and no deletion was tried
pub none_tried : (q : QueueName) (cursor : List (ℕ × ℕ)) (read : Result (List PuItem) Message) (i : Intake) → TakesItems q cursor read (Ok i) → i.deletions.left ≡ 0
none_tried q cursor (Err m) i is = absurd (cc (is))
none_tried q cursor (Ok items) i (run, is_run, is) = let same : i ≡ intake_of items run = cc in ap (λ (x : Intake). x.deletions.left) same

-- ---- one call

module _ (who : Caller) (before after : Seen) (s t : CloudState) (told : before.state ≡ Some s) (told_after : after.state ≡ Some t) (held : List Claim) (Spent : CloudState → Counter → Type 0) where
  abbrev Call : Ask → Answer → Type 0
  Call ask a = Makes who ask a before after

  abbrev Shows : Ask → Trouble → Type 0
  Shows ask k = IsShown ask held Spent (before.counts, s) (after.counts, t) k

  free_shows : (ask : Ask) (k : Trouble) → IsFree k → Shows ask k
  free_shows ask k is = free_shown ask held Spent before.counts after.counts s t k is

  -- ---- what a leaf and the way up ask

  -- a leaf is got where nothing is to be put
  leaf_asks : (f : Folding) (l : Claim) → has_nothing f.placing ≡ true → folding_ask f l ≡ GetHeld (object.Page f.chart.tree f.page) f.lease
  leaf_asks f l none = on f.placing.reserved f.placing.puts none
    where
      with_placing : Option (List ℕ) → List PagePut → Folding
      with_placing reserved puts = record f { placing = record { reserved = reserved; puts = puts } }

      on : (reserved : Option (List ℕ)) (puts : List PagePut) → has_nothing (with_placing reserved puts).placing ≡ true
          → folding_ask (with_placing reserved puts) l ≡ GetHeld (object.Page f.chart.tree f.page) f.lease
      on (Some bytes) puts none = absurd (cc (none))
      on None (x ∷ xs) none = let empty : length (x ∷ xs) ≡ 0 = eqb-true (length (x ∷ xs)) 0 none in absurd (omega (arith, empty))
      on None [] none = refl

  leaf_call : (f : Folding) (l : Claim) (a : Answer) → Call (folding_ask f l) a → has_nothing f.placing ≡ true → Call (GetHeld (object.Page f.chart.tree f.page) f.lease) a
  leaf_call f l a call none = subst (λ (ask : Ask). Call ask a) (leaf_asks f l none) call

  leaf_got : (f : Folding) (l : Claim) (a : Answer) → Call (folding_ask f l) a → has_nothing f.placing ≡ true → (k : Trouble) → got_of a ≡ Err k → Shows (folding_ask f l) k
  leaf_got f l a call none k e =
      subst (λ (ask : Ask). Shows ask k) (sym (leaf_asks f l none))
      (got_shown who before after s t told told_after held Spent (object.Page f.chart.tree f.page) f.lease a (leaf_call f l a call none) k e)

  leaf_put : (f : Folding) (l : Claim) (a : Answer) → Call (folding_ask f l) a → has_nothing f.placing ≡ false → (k : Trouble) → done_of a ≡ Err k → Shows (folding_ask f l) k
  leaf_put f l a call some k e = on f.placing.reserved f.placing.puts call some
    where
      with_placing : Option (List ℕ) → List PagePut → Folding
      with_placing reserved puts = record f { placing = record { reserved = reserved; puts = puts } }

      on : (reserved : Option (List ℕ)) (puts : List PagePut) → Call (folding_ask (with_placing reserved puts) l) a → has_nothing (with_placing reserved puts).placing ≡ false
          → Shows (folding_ask (with_placing reserved puts) l) k
      on (Some bytes) puts call some = put_shown who before after s t told told_after held Spent (object.Tree f.chart.tree) bytes l None a call k e
      on None (x ∷ xs) call some = put_shown who before after s t told told_after held Spent (object.Page f.chart.tree x.page) x.bytes l (Some f.lease) a call k e
      on None [] call some = absurd (cc)

  up_put : (r : Rising) (l : Claim) (a : Answer) → HasPut r.placing.reserved r.placing.puts r.last → Call (rising_ask r l) a → (k : Trouble) → done_of a ≡ Err k → Shows (rising_ask r l) k
  up_put r l a some call k e = on r.placing.reserved r.placing.puts r.last some call
    where
      with_placing : Option (List ℕ) → List PagePut → Option (List ℕ) → Rising
      with_placing reserved puts last = record r { placing = record { reserved = reserved; puts = puts }; last = last }

      on : (reserved : Option (List ℕ)) (puts : List PagePut) (last : Option (List ℕ)) → HasPut reserved puts last → Call (rising_ask (with_placing reserved puts last) l) a
          → Shows (rising_ask (with_placing reserved puts last) l) k
      on (Some bytes) puts last some call = put_shown who before after s t told told_after held Spent (object.Tree r.chart.tree) bytes l None a call k e
      on None (x ∷ xs) last some call = put_shown who before after s t told told_after held Spent (object.Page r.chart.tree x.page) x.bytes l None a call k e
      on None [] (Some bytes) some call = put_shown who before after s t told told_after held Spent (object.Tree r.chart.tree) bytes l None a call k e
      on None [] None some call = absurd some

  -- the get of a leaf answers the newest version of its page
  leaf_newest : (tree : ℕ) (f : Folding) (l : Claim) (a : Answer) → f.chart.tree ≡ tree → Call (folding_ask f l) a → has_nothing f.placing ≡ true → (got : Option (List ℕ)) → got_of a ≡ Ok got
      → newest t (object.Page tree f.page) ≡ got
  leaf_newest tree f l a same call none got e =
      let get : Ask = GetHeld (object.Page f.chart.tree f.page) f.lease in
      subst (λ (n : ℕ). newest t (object.Page n f.page) ≡ got) same
      (held_newest who (object.Page f.chart.tree f.page) f.lease a before.counts after.counts (called who t.now s) t
      (row_of who before after s t told told_after held Spent get a (leaf_call f l a call none)) got e)

  -- it was so before the call
  leaf_before : (tree : ℕ) (f : Folding) (l : Claim) (a : Answer) → f.chart.tree ≡ tree → Call (folding_ask f l) a → has_nothing f.placing ≡ true → (got : Option (List ℕ)) → got_of a ≡ Ok got
      → newest s (object.Page tree f.page) ≡ got
  leaf_before tree f l a same call none got e =
      let get : Ask = GetHeld (object.Page f.chart.tree f.page) f.lease in
      subst (λ (n : ℕ). newest s (object.Page n f.page) ≡ got) same
      (held_before who (object.Page f.chart.tree f.page) f.lease a before.counts after.counts (called who t.now s) t
      (row_of who before after s t told told_after held Spent get a (leaf_call f l a call none)) got e)

  -- ---- the deletions that failed

  abbrev FaultsRose : Type 0
  FaultsRose = Rose before.counts.faults after.counts.faults

  -- a deletion went, or its call failed
  tried_left : (tree : ℕ) (h : Held) (a : Answer) (ids : List ℕ) → HasIds ids → Call (delete_ask tree (next_id ids)) a → a ≢ Memory
      → ((tried h.deletions (went (done_of a))).left ≤ h.deletions.left) ⊎ FaultsRose
  tried_left tree h a [] never call other = absurd never
  tried_left tree h a (id ∷ ids) has call other = on (done_of a) refl
    where
      kept : (l : List ℕ) → (tried (record h.deletions { ids = l }) true).left ≤ h.deletions.left
      kept [] = omega arith
      kept (y ∷ ys) = omega arith

      on : (g : Result (Unit {0}) Trouble) → done_of a ≡ g → ((tried h.deletions (went g)).left ≤ h.deletions.left) ⊎ FaultsRose
      on (Ok x) f = inl (kept h.deletions.ids)
      on (Err k) f = inr (delete_fails who before after s t told told_after held Spent (queue.TreePu tree) id a call k f other)

  -- ---- wherever it stands

  module _ (st : Store) (now tree : ℕ) where
    seeks_left : {w : Work} {a : Answer} {h : Held} {c : Chart} → Seeks tree w a h c → h.deletions.left ≤ left_in_tree w
    seeks_left (step.with_run l root ms i takes some) = let none = none_tried (queue.TreePu tree) (tree_held root).cursor (items_of ms) i takes in omega (arith, none)
    seeks_left (step.from_leaf h l c a) = omega arith
    seeks_left (step.alone h c a) = omega arith

    descends_left : {w : Work} {a : Answer} {h : Held} {next : Next Descent (Unit {0})} → Descends tree w a h next → h.deletions.left ≤ left_in_tree w
    descends_left (step.begins key s e) = seeks_left s
    descends_left (step.goes_on h d a) = omega arith

    ascends_left : {w : Work} {a : Answer} {h : Held} {next : Next Rising (Unit {0})} → Ascends tree w a h next → h.deletions.left ≤ left_in_tree w
    ascends_left (step.begins_up s e) = seeks_left s
    ascends_left (step.goes_up h r a) = omega arith

    clears_left : {w : Work} {a : Answer} {h : Held} {applied : ℕ} → KnowsWork st now tree w → Call (work_ask tree w) a → a ≢ Memory → Clears tree w a h applied
        → (h.deletions.left ≤ left_in_tree w) ⊎ FaultsRose
    clears_left k call other (step.no_run l root ms i takes none) =
        let untried = none_tried (queue.TreePu tree) (tree_held root).cursor (items_of ms) i takes in inl (omega (arith, untried))
    clears_left k call other (step.risen r x up) = inl (ascends_left up)
    clears_left k call other (step.one_tried h applied a) = tried_left tree h a h.deletions.ids k.2 call other

    -- those that are told are those of before, unless the call failed
    step_left : {w : Work} {a : Answer} {next : Step} → KnowsWork st now tree w → Call (work_ask tree w) a → a ≢ Memory → Comes tree w a next → (left_at next ≤ left_in_tree w) ⊎ FaultsRose
    step_left k call other (step.descends h d way) = inl (descends_left way)
    step_left k call other (step.arrives h d x way) = inl (descends_left way)
    step_left k call other (step.ascends h r up) = inl (ascends_left up)
    step_left k call other (step.deletes h applied id c some) = clears_left k call other c
    step_left k call other (step.rests h applied c none) = clears_left k call other c
    step_left k call other c = inl (omega arith)

    module _ (of_tree : IsTree tree) (tells : IsToldBy st s t) (own : (what : Counter) → IsSpentInTree tree t what → Spent t what) where
      seeks_spends : {w : Work} {a : Answer} {h : Held} {c : Chart} (ask : Ask) → KnowsWork st now tree w → Seeks tree w a h c → SpendsUp (Shows ask) (free_shows ask) (up.begun c)
      seeks_spends ask k (step.with_run l root ms i takes some) = spends_bare st now s t tells tree of_tree l (Shows ask) (free_shows ask) own root i.run k.1
      seeks_spends ask k (step.from_leaf h l c a) = spends_begun st now s t tells tree of_tree h.lease (Shows ask) (free_shows ask) own c (k.1.0).tree_is (k.1.1).chart
      seeks_spends ask k (step.alone h c a) = absurd k

      descends_shows : {w : Work} {a : Answer} {h : Held} {next : Next Descent (Unit {0})} → Call (work_ask tree w) a → Descends tree w a h next → StopsFor (Shows (work_ask tree w)) next
      descends_shows {w = w} call (step.begins {c = c} key s e) = down_for (Shows (work_ask tree w)) (free_shows (work_ask tree w)) (record c { key = key })
      descends_shows call (step.goes_on h d a) =
          let ask : Ask = GetHeld (object.Page d.chart.tree d.page) h.lease in
          gets_for (Shows ask) (free_shows ask) (gets d (got_of a)) (λ q e. got_shown who before after s t told told_after held Spent (object.Page d.chart.tree d.page) h.lease a call q e)

      ascends_shows : {w : Work} {a : Answer} {h : Held} {next : Next Rising (Unit {0})} → KnowsWork st now tree w → Call (work_ask tree w) a → Ascends tree w a h next
          → StopsFor (Shows (work_ask tree w)) next
      ascends_shows {w = w} k call (step.begins_up {c = c} s e) = rises_for (Shows (work_ask tree w)) (free_shows (work_ask tree w)) (seeks_spends (work_ask tree w) k s) (rises (up.begun c))
      ascends_shows k call (step.goes_up h r a) =
          let ask : Ask = rising_ask r h.lease in
          lands_for (Shows ask) (free_shows ask) (λ q e. up_put r h.lease a (rising_put st now h.lease r h.deletions.ids k.1) call q e)
          (spends_behind st now s t tells tree of_tree h.lease (Shows ask) (free_shows ask) own r h.deletions.ids (k.0).tree_is k.1) (lands r (done_of a))

      folding_shows : (h : Held) (f : Folding) (a : Answer) → KnowsWork st now tree (work.Folding h f) → Call (folding_ask f h.lease) a → StopsFor (Shows (folding_ask f h.lease)) (folding_next f a)
      folding_shows h f a k call =
          let ask : Ask = folding_ask f h.lease in
          folding_for (Shows ask) (free_shows ask) f a (leaf_got f h.lease a call) (leaf_put f h.lease a call)
          (λ none got e. spends_leaf st now s t tells tree of_tree h.lease (Shows ask) (free_shows ask) own f h.deletions.ids (k.0).tree_is k.1 got
          (leaf_newest tree f h.lease a (k.0).tree_is call none got e) (leaf_before tree f h.lease a (k.0).tree_is call none got e))

      -- the call in hand shows why it fails
      fails_shows : {w : Work} {a : Answer} {leases : Leases} {q : Trouble} → KnowsWork st now tree w → Call (work_ask tree w) a → Fails tree w a leases q → Shows (work_ask tree w) q
      fails_shows k call (step.no_tree l a q e) = got_shown who before after s t told told_after held Spent (object.Tree tree) l a call q e
      fails_shows k call (step.bad_tree l bytes e) = free_shows (GetHeld (object.Tree tree) l) (tree_damage tree bytes) tt
      fails_shows k call (step.no_messages l root a q e) = received_shown who before after s t told told_after held Spent (queue.TreePu tree) 256 a call q e
      fails_shows k call (step.bad_message l root ms q takes) =
          free_shows (Receive (queue.TreePu tree) 256) q (message_free (queue.TreePu tree) (tree_held root).cursor (items_of ms) q takes)
      fails_shows k call (step.no_lease h c a q e) = given_shown who before after s t told told_after held Spent (lock.Page c.chart.tree c.page) 30 a call q e
      fails_shows k call (step.no_way d q way) = descends_shows call way
      fails_shows k call (step.no_leaf h f g a q e) = subst (StopsFor (Shows (folding_ask f h.lease))) e (folding_shows h f a k call)
      fails_shows k call (step.no_ascent r q rising) = ascends_shows k call rising

      -- where none was kept, the call shows the trouble
      step_shows : {w : Work} {a : Answer} {next : Step} → KnowsWork st now tree w → Call (work_ask tree w) a → trouble_at w ≡ None → Comes tree w a next → (q : Trouble)
          → MeetsNext trouble_at next q → Shows (work_ask tree w) q
      step_shows k call none (step.refused a u e) q met =
          subst (Shows (take_tree tree)) met (given_shown who before after s t told told_after held Spent (lock.Tree tree) 60 a call u e)
      step_shows {w = w} k call none (step.stops leases u f) q met = let same : u ≡ q = cc in subst (Shows (work_ask tree w)) same (fails_shows k call f)
      step_shows k call none (step.gives_back leases l (Ok x) a e) q met = absurd (cc (met))
      step_shows k call none (step.gives_back leases l (Err u) a e) q met = absurd (cc (none))
      step_shows k call none (step.ends leases x a e) q met = absurd met
      step_shows k call none (step.stopped leases u a e) q met = absurd (cc (none))
      step_shows k call none (step.nothing a) q met = absurd k
      step_shows k call none c q met = absurd (cc (met))

  -- ---- a call of a checkpoint

  module _ (reply : Answer) (st : Store) (now : ℕ) (m : Making) (knows : KnowsMaking st now m) (call : Call (making_ask m) reply) (tells : IsToldBy st s t)
      (own : (what : Counter) → IsSpentInTree m.tree t what → Spent t what) where
    pub making_shows : (next : Next Making CkptAnswer) → MakingLeads m reply next → trouble_of_making m ≡ None → (k : Trouble) → MeetsNext trouble_of_making next k
        → Shows (making_ask m) k
    making_shows (Goes n) leads none k e = step_shows st now m.tree knows.tree tells own knows.work call none (comes m.tree m.work reply (Goes n.work) leads.1) k e
    making_shows (Ends n a) leads none k never = absurd never
    making_shows (Stops n q) leads none k e = step_shows st now m.tree knows.tree tells own knows.work call none (comes m.tree m.work reply (Stops n.work q) leads.1) k e

    pub making_left : (next : Next Making CkptAnswer) → MakingLeads m reply next → reply ≢ Memory → (left_next next ≤ left_in_tree m.work) ⊎ FaultsRose
    making_left (Goes n) leads other = step_left st now m.tree knows.work call other (comes m.tree m.work reply (Goes n.work) leads.1)
    making_left (Ends n a) leads other = step_left st now m.tree knows.work call other (comes m.tree m.work reply (Ends n.work a) leads.1)
    making_left (Stops n q) leads other = inl (omega arith)

-- ---- a trouble that waits

-- it waits where leases are given back, and nowhere else
work_keeps : (tree : ℕ) (w : Work) (a : Answer) (next : Step) → Leads tree w a next → (k : Trouble) → trouble_at w ≡ Some k → MeetsNext trouble_at next k
work_keeps tree (work.Releasing held (Err q)) a next leads k e = on (kept_leads tree held q a leads) where
  on : (next ≡ stopping (without_newest held) q) ⊎ (next ≡ Stops work.Finished q) → MeetsNext trouble_at next k
  on (inl is) = subst (λ (x : Step). MeetsNext trouble_at x k) (sym is) e
  on (inr is) = subst (λ (x : Step). MeetsNext trouble_at x k) (sym is) (cc (e))
work_keeps tree w a next leads k e = absurd (cc (e))

pub making_keeps : (m : Making) (a : Answer) (next : Next Making CkptAnswer) → MakingLeads m a next → (k : Trouble) → trouble_of_making m ≡ Some k → MeetsNext trouble_of_making next k
making_keeps m a (Goes n) leads k e = work_keeps m.tree m.work a (Goes n.work) leads.1 k e
making_keeps m a (Ends n x) leads k e = work_keeps m.tree m.work a (Ends n.work x) leads.1 k e
making_keeps m a (Stops n q) leads k e = work_keeps m.tree m.work a (Stops n.work q) leads.1 k e

-- What a page checkpoint knows where its answers lead, and why it stops where it does, by what its step comes to.
use Rattle.std.proofs.Common.{◌≡◌, ◌≤◌, ◌⊎◌, inl, inr, ℕ, zero, suc, Bool, true, false, not, List, [], ◌∷◌, ◌++◌, Option, Some, None, Result, Ok, Err, refl, sym, ap, subst, ◌∙◌, arith}
use Rattle.std.specs.List.{AllByRecursion}
use Rattle.std.proofs.lemmas.Bool.{and_from}
use Rattle.std.proofs.lemmas.Option.{same_Some}
use Rattle.byte_format.specs.Order.{bytes_below, below_bound}
use Rattle.cloud_facts.specs.Chains.Chain.{AreLevels, AreVersions}
use Rattle.cloud_facts.proofs.Chains.Pieces.{not_itself}
use Rattle.ckpt_parts.specs.Deleting.{Deleting, next_id, tried, tried_of}
use Rattle.ckpt_parts.specs.Intakes.{items_of, has_items, intake_of, TakesItems}
use Rattle.ckpt_parts.specs.Leasing.{without_newest}
use Rattle.ckpt_parts.specs.Leaves.{HoldsLinked}
use Rattle.ckpt_parts.specs.declared.intake.Intake.{Intake}
use Rattle.ckpt_parts.specs.declared.leases.Leases.{Leases}
use Rattle.cloud_facts.specs.Words.{IsClient, IsTree, Trouble, QueueName, PuItem, Leaf, Answer, Claim, Goes, Ends, Stops, done_of, Link, Store, Node, IsIn}
use Rattle.cloud_trait.specs.Delivery.{WasSent}
use Rattle.cloud_trait.specs.declared.answer.Answer.TheVariants.{Got, Received, Done, Given}
use Rattle.cloud_trait.specs.declared.message.Message.{Message}
use Rattle.db_base.specs.Change.{key_of}
use Rattle.db_base.specs.Cursor.{number_of}
use Rattle.db_base.specs.Ids.{IsPage}
use Rattle.db_base.specs.declared.names.Lock.TheVariants as lock
use Rattle.leaf_edit.specs.Lacked.{lacked}
use Rattle.leaf_view.specs.Lookup.{holds, number_of as done_number}
use Rattle.cloud_facts.specs.Numbers.Numbers.{Numbers}
use Rattle.page_ckpt.proofs.Calm.{NextRests}
use Rattle.page_ckpt.proofs.Outcomes.{leased, AreRead, Onward, Clears, Fails, Comes}
use Rattle.page_ckpt.proofs.Outcomes as step
use Rattle.page_ckpt.specs.Paging.{Paging, Step, HoldsNamed, own_queue, link_of, is_visited, without_right, went}
use Rattle.page_ckpt.specs.declared.link.Link.{Link as Found}
use Rattle.page_ckpt.specs.declared.stage.Stage.{Stage}
use Rattle.page_ckpt.specs.declared.stage.Stage.TheVariants.{TakingHome, GettingHome, Receiving, TakingRight, GettingRight, PuttingRight, ReleasingRight, PuttingHome, Deleting as DeletingNext, Releasing, Finished}
use Rattle.run_cursor.specs.Run.{Taken}
use Rattle.session_facts.proofs.Machines.Runs.Marks.{covered_more}
use Rattle.session_facts.proofs.Machines.Runs.Received.{each_in, items_sent, item_of, item_client, ids_covered, none_damaged}
use Rattle.session_facts.proofs.Machines.Runs.Taken.{run_in, empty_top}
use Rattle.session_facts.specs.Machines.Runs.Knows.{IsSentItem, TookRun, MayDelete}
use Rattle.cloud_facts.specs.Book.Telling.{leaf_in, newest_leaf}
use Rattle.session_facts.specs.Machines.PageCheckpoints.Knows.{right_of, work_of, HoldsPage, HoldsRight, HasPage, HasRight, HasLeases, MayStopPage, ReadHome, ComesOn, TroubleWaits, KnowsPagingAt, KnowsNext}
use Rattle.session_facts.specs.Machines.PageCheckpoints.Rights.{IsLanded, IsNewestLeaf, ReadLeaf, HasRun, IsDone, AreDone, IsUptoLink, RunLeads, LeavesRight}
use Rattle.session_facts.proofs.Machines.PageCheckpoints.Chained.{has_run, home_fences}
use Rattle.session_facts.proofs.Machines.PageCheckpoints.Fences.{HasFences, landed_fences, newest_landed, link_leads, another, upto_next, upto_more, not_visited}
use Rattle.session_facts.proofs.Machines.PageCheckpoints.Reads.{IsNamed}
use Rattle.session_facts.proofs.Machines.Refusals.{TakesRefusals, got_may, received_may, done_may, given_may}

-- an answer without its value stops it, and is no fault of the tree
pub page_refusals : (page : ℕ) → TakesRefusals (MayStopPage page)
page_refusals page = record { failed = tt; late = λ until now. tt; memory = tt }

-- ---- local work

-- an id that is left to be deleted was to be deleted
still_there : (d : Deleting) (went : Bool) (id : ℕ) → IsIn (tried d went).ids id → IsIn d.ids id
still_there d w id is = on d.ids refl w is
  where
    on : (ids : List ℕ) → d.ids ≡ ids → (b : Bool) → IsIn (tried_of ids d b).ids id → IsIn d.ids id
    on [] e b there = there
    on (x ∷ ids) e true there = subst (λ ns. IsIn ns id) (sym e) (suc there.0, there.1)
    on (x ∷ ids) e false there = subst (λ ns. IsIn ns id) (sym e) (suc there.0, there.1)

no_items : (items : List PuItem) → has_items items ≡ false → items ≡ []
no_items [] e = refl
no_items (x ∷ items) e = absurd (cc)

first_item : (items : List PuItem) → has_items items ≡ true → (x : PuItem) × IsIn items x
first_item [] e = absurd (cc)
first_item (x ∷ items) e = (x, (zero, refl))

some_ids : (ids : List ℕ) (id : ℕ) → next_id ids ≡ Some id → (first : ℕ) × (rest : List ℕ) × (ids ≡ first ∷ rest)
some_ids [] id e = absurd (cc (e))
some_ids (x ∷ ids) id e = (x, ids, refl)

-- the page's lease is left of two
first_left : (tree page : ℕ) (l r : Claim) → HoldsPage tree page (record { first = Some l; second = Some r }) ⊎ ((right : ℕ) × HoldsRight tree page right (record { first = Some l; second = Some r }))
    → HoldsPage tree page (record { first = Some l; second = None })
first_left tree page l r (inl has) = let clash : Some r ≡ None = ap (λ (h : Leases). h.second) has.is in absurd (cc (clash))
first_left tree page l r (inr (right, has)) = record { lease = has.lease; is = ap without_newest has.is; lock_is = has.lock_is }

-- no message is damaged, and a run that is taken is one of sent records behind the cursor
module _ (u : Store) (tree page : ℕ) (q : QueueName) (numbers : Numbers u) (ms : List Message) (was : AllByRecursion (WasSent (u.tally.posts tree page)) ms) (cursor : List (ℕ × ℕ)) where
  none_bad : (g : Result (List PuItem) Message) (t : Trouble) → items_of ms ≡ g → TakesItems q cursor g (Err t) → ⊥
  none_bad (Err m) t e is = none_damaged u tree page ms m numbers was e
  none_bad (Ok items) t e (run, is_run, is) = absurd (cc (is))

  took : ((client : ℕ) → IsClient client → number_of cursor client ≤ u.tally.cursor tree page client) → (g : Result (List PuItem) Message) (i : Intake) → items_of ms ≡ g → TakesItems q cursor g (Ok i)
      → TookRun u tree page cursor i.run i.deletions.ids
  took behind (Err m) i e is = absurd (none_damaged u tree page ms m numbers was e)
  took behind (Ok items) i e (run, is_run, is) =
      let same : i ≡ intake_of items run = cc in
      subst (λ (j : Intake). TookRun u tree page cursor j.run j.deletions.ids) (sym same) (record {
        received = items;
        is_run = is_run;
        behind = behind;
        clients = λ x there. item_client (u.tally.posts tree page) x (sent x (run_in cursor items run.items run.top is_run x there));
        items = λ x there. item_of u tree page x numbers (sent x there);
        covers = ids_covered u tree page run.top items all_sent;
      })
    where
      all_sent : AllByRecursion (IsSentItem (u.tally.posts tree page)) items
      all_sent = items_sent (u.tally.posts tree page) ms items was e

      sent : (x : PuItem) → IsIn items x → IsSentItem (u.tally.posts tree page) x
      sent = each_in (IsSentItem (u.tally.posts tree page)) items all_sent

-- where a run is empty the queue's cursor covers what is to be deleted
empty_deletes : (u : Store) (tree page : ℕ) (from : List (ℕ × ℕ)) (run : Taken) (ids : List ℕ) → TookRun u tree page from run ids → run.items ≡ [] → MayDelete u tree page ids
empty_deletes u tree page from run ids k none id is =
    covered_more u tree page id (number_of run.top) (u.tally.cursor tree page)
    (λ client c. let top = empty_top from k.received run.top run.items k.is_run none client in let below = k.behind client c in omega (arith, top, below)) (k.covers id is)

-- ---- what is known behind a call

-- the tree and the page are such, and no trouble is kept that may not be answered
abbrev pub IsOfPage : Paging → Type 0
IsOfPage p = IsTree p.tree × IsPage p.page × ((t : Trouble) → p.trouble ≡ Some t → MayStopPage p.page t)

-- the links and the versions of a tree stand
pub record IsCharted (u : Store) (tree : ℕ) : Type 0 where
  pub height : ℕ
  pub levels : AreLevels (u.book.chain tree) height
  pub versions : AreVersions (u.book.chain tree) (u.tally.nodes tree)

-- the get of a right page comes to its newest leaf
abbrev pub IsRight : (ℕ → List Node) → ℕ → Result Leaf Trouble → Type 0
IsRight nodes page (Ok l) = IsNewestLeaf nodes page l
IsRight nodes page (Err t) = ⊥

-- by the stage: the leases, what was known before, and what this answer shows
abbrev pub Shows : Stage → Store → ℕ → Paging → Answer → Type 0
Shows TakingHome u now p a = (p.visited ≡ []) × ((l : Claim) → a ≡ Given l → l.lock ≡ lock.Page p.tree p.page)
Shows GettingHome u now p a =
    HasPage p × (p.visited ≡ []) × ((got : Option (List ℕ)) (found : Result Leaf Trouble) → a ≡ Got got → HoldsNamed p.tree p.page got found → IsNamed (u.tally.nodes p.tree) p.page found)
    × ((client : ℕ) → u.tally.cursor p.tree p.page client ≡ done_number (newest_leaf u.tally.nodes p.tree p.page).done p.page client)
Shows Receiving u now p a =
    ReadHome u now p × IsCharted u p.tree × Numbers u × ((ms : List Message) → a ≡ Received ms → AllByRecursion (WasSent (u.tally.posts p.tree p.page)) ms)
Shows TakingRight u now p a = (has : HasPage p) × ComesOn u now p has.lease × ((l : Claim) → a ≡ Given l → l.lock ≡ lock.Page p.tree p.at.page)
Shows GettingRight u now p a =
    (has : HasRight p) × ComesOn u now p has.lease × IsCharted u p.tree
    × ((got : Option (List ℕ)) (found : Result Leaf Trouble) → a ≡ Got got → HoldsLinked p.tree p.at.page p.at.low got found → IsRight (u.tally.nodes p.tree) p.at.page found)
    × ((l : Leaf) → IsNewestLeaf (u.tally.nodes p.tree) p.at.page l → lacked l p.page p.run.items ≡ [] → (x : PuItem) → IsIn p.run.items x → holds l (key_of x.rec.change) ≡ true
    → IsDone u p.tree p.page x)
Shows PuttingRight u now p a =
    (has : HasRight p) × (a ≡ Done → ComesOn u now p has.lease × LeavesRight u (work_of p) (right_of p))
Shows ReleasingRight u now p a = (has : HasRight p) × ComesOn u now p has.lease × LeavesRight u (work_of p) (right_of p) × IsCharted u p.tree
Shows PuttingHome u now p a = HasPage p × (a ≡ Done → MayDelete u p.tree p.page p.deletions.ids)
Shows DeletingNext u now p a = HasPage p × MayDelete u p.tree p.page p.deletions.ids
Shows Releasing u now p a = HasLeases p
Shows Finished u now p a = ⊥

-- what is known then, wherever a step leads, but that a trouble waits only while leases are given back
abbrev pub StandsWherever : Store → ℕ → ℕ → Step → Type 0
StandsWherever u now page (Goes n) = IsOfPage n × KnowsPagingAt n.stage u now n
StandsWherever u now page (Ends n a) = Unit {0}
StandsWherever u now page (Stops n t) = MayStopPage page t

-- that it does behind every answer
pub stands_knows : (u : Store) (now : ℕ) (p : Paging) (next : Step) → TroubleWaits p → NextRests p next → StandsWherever u now p.page next → KnowsNext u now p.page next
stands_knows u now p (Goes n) waits rests (of_page, at) = record { tree = of_page.0; page = of_page.1; may = of_page.2; waits = on waits rests; at = at }
  where
    on : TroubleWaits p → NextRests p (Goes n) → TroubleWaits n
    on w (inl h) = inl h.0
    on (inl stage) (inr h) = absurd (h.0 stage)
    on (inr none) (inr h) = inr (h.1 ∙ none)
stands_knows u now p (Ends n a) waits rests known = known
stands_knows u now p (Stops n t) waits rests known = known

-- a link leads on from here, or none does: the page was read and its run taken, no page that it came to is further right than a low key,
-- and the items up to a bound are applied
record IsOn (u : Store) (now : ℕ) (q : Paging) (o : Option Found) : Type 0 where
  has : HasPage q
  read : ReadLeaf u now q.tree q.page has.lease q.home
  runs : HasRun u q.tree q.page q.home q.run q.deletions.ids
  charted : IsCharted u q.tree
  low : List ℕ
  upto : Option (List ℕ)
  home : IsUptoLink (u.book.chain q.tree 0) low q.page
  behind : (page : ℕ) → IsIn q.visited page → IsUptoLink (u.book.chain q.tree 0) low page
  done : AreDone u q.tree q.page q.run.items q.home.high upto
  leads : RunLeads (u.book.chain q.tree 0) low upto q.run.items o

module _ (u : Store) (now : ℕ) where
  -- the run is taken behind the page's own numbers of its queue, which are behind the queue's cursor
  run_taken : (p : Paging) (first second : Option Claim) (ms : List Message) (i : Intake) (read : AreRead p ms (Ok i)) → ReadHome u now (leased p Receiving first second) → Numbers u
      → AllByRecursion (WasSent (u.tally.posts p.tree p.page)) ms → TookRun u p.tree p.page read.cursor i.run i.deletions.ids
  run_taken p first second ms i read k numbers was = took u p.tree p.page (own_queue p) numbers ms was read.cursor behind (items_of ms) i refl read.takes
    where
      behind : (client : ℕ) → IsClient client → number_of read.cursor client ≤ u.tally.cursor p.tree p.page client
      behind client is =
          let same = read.own.each client in
          let covered : done_number p.home.done p.page client ≤ u.tally.cursor p.tree p.page client = k.covered client is in
          omega (arith, same, covered)

  onward : {p q : Paging} {a : Answer} {o : Option Found} → Onward p a q o → IsOfPage p → Shows p.stage u now p a → IsOn u now q o
  onward (step.with_run p first second ms i read some) of_page (k, charted, numbers, was) = record {
    has = k.has;
    read = k.read;
    runs = runs;
    charted = charted;
    low = runs.linked.link.low;
    upto = p.home.high;
    home = record { link = runs.linked.link; linked = (runs.linked.place, runs.linked.linked); page_is = runs.linked.page_is; upto = not_itself runs.linked.link.low };
    behind = λ page there. absurd (none page (subst (λ (pages : List ℕ). IsIn pages page) k.fresh there));
    done = λ x there beyond below. absurd (both (below_bound (key_of x.rec.change) p.home.high) beyond below);
    leads = link_leads (u.book.chain p.tree 0) runs.linked.link p.home i.run.items
        (home_fences u p.tree p.page charted.height of_page.1 charted.levels charted.versions p.home k.read.landed i.run i.deletions.ids runs);
  }
    where
      runs : HasRun u p.tree p.page p.home i.run i.deletions.ids
      runs =
          let x = first_item i.run.items some in
          has_run u p.tree p.page charted.height of_page.1 charted.levels charted.versions p.home k.read.landed numbers read.cursor i.run i.deletions.ids
          (run_taken p first second ms i read k numbers (was ms refl)) x.0 x.1

      none : (page : ℕ) → IsIn [] page → ⊥
      none page (place, there) = cc

      both : (b : Bool) → b ≡ false → b ≡ true → ⊥
      both b f g = cc
  onward (step.from_right p first second a) of_page (has, comes, leaves, charted) = record {
    has = record { lease = has.lease; is = ap without_right has.is; lock_is = has.lock_is };
    read = comes.read;
    runs = comes.runs;
    charted = charted;
    low = p.at.low;
    upto = leaves.upto;
    home = comes.home_behind;
    behind = comes.behind;
    done = leaves.applied;
    leads = leaves.leads;
  }

  onward_page : {p q : Paging} {a : Answer} {o : Option Found} → Onward p a q o → IsOfPage p → IsOfPage q
  onward_page (step.with_run p first second ms i read some) of_page = of_page
  onward_page (step.from_right p first second a) of_page = of_page

  -- no page is come to twice
  not_round : (q : Paging) (link : Found) → IsOn u now q (Some link) → is_visited q link.page ≡ false
  not_round q link k =
      not_visited (u.book.chain q.tree) k.charted.height k.charted.levels k.low link.low link.page k.leads.0 k.leads.1 q.page q.visited k.home k.behind

  -- so it comes on to the page of the link
  onto : (q : Paging) (link : Found) (k : IsOn u now q (Some link)) → (has : HasPage q) × ComesOn u now (record q { at = link; visited = q.visited ++ link.page ∷ [] }) has.lease
  onto q link k = (
    k.has,
    record {
      read = k.read;
      runs = k.runs;
      linked = k.leads.0;
      elsewhere = another (u.book.chain q.tree) k.charted.height k.charted.levels k.low link.low link.page k.leads.0 k.leads.1 q.page k.home;
      home_behind = upto_next (u.book.chain q.tree) k.charted.height k.charted.levels k.low link.low link.page k.leads.0 k.leads.1 q.page k.home;
      behind = upto_more (u.book.chain q.tree) k.charted.height k.charted.levels k.low link.low link.page k.leads.0 k.leads.1 q.visited k.behind;
      applied = λ x there beyond below. k.done x there beyond (ap (below_bound (key_of x.rec.change)) k.leads.2 ∙ below);
    },
  )

  cleared : {p q : Paging} {a : Answer} → Clears p a q → Shows p.stage u now p a → HasPage q × MayDelete u q.tree q.page q.deletions.ids
  cleared (step.no_run p first second ms i read none) (k, charted, numbers, was) =
      (k.has, empty_deletes u p.tree p.page read.cursor i.run i.deletions.ids (run_taken p first second ms i read k numbers (was ms refl)) (no_items i.run.items none))
  cleared (step.home_put p first second) (has, each) = (has, each refl)
  cleared (step.one_tried p first second a) (has, each) = (has, λ id is. each id (still_there p.deletions (went (done_of a)) id is))

  clears_page : {p q : Paging} {a : Answer} → Clears p a q → IsOfPage p → IsOfPage q
  clears_page (step.no_run p first second ms i read none) of_page = of_page
  clears_page c of_page = of_page

  fails_page : {p q : Paging} {a : Answer} {t : Trouble} → Fails p a q t → IsOfPage p → IsOfPage q
  fails_page (step.round link on seen) of_page = onward_page on of_page
  fails_page (step.home_spent on last) of_page = onward_page on of_page
  fails_page f of_page = of_page

  -- it fails for no fault of the tree, and gives back what it has
  fails : {p q : Paging} {a : Answer} {t : Trouble} → Fails p a q t → IsOfPage p → Shows p.stage u now p a → HasLeases q × MayStopPage q.page t
  fails (step.no_home p first second a t e) of_page (has, fresh, named, covers) = (inl has, got_may (page_refusals p.page) a t e)
  fails (step.no_messages p first second a t e) of_page (k, charted, numbers, was) = (inl k.has, received_may (page_refusals p.page) a t e)
  fails (step.no_lease p first second a t e) of_page (has, comes, is) = (inl has, given_may (page_refusals p.page) (λ k until. tt) (lock.Page p.tree p.at.page) a t e)
  fails (step.no_right p first second a t e) of_page (has, comes, charted, found, none) = (inr (p.at.page, has), got_may (page_refusals p.page) a t e)
  fails (step.right_not_put p first second a t e) of_page (has, k) = (inr (p.at.page, has), done_may (page_refusals p.page) a t e)
  fails (step.home_not_put p first second a t e) of_page (has, k) = (inl has, done_may (page_refusals p.page) a t e)
  fails (step.bad_home p first second got t reads) of_page (has, fresh, named, covers) = (inl has, named got (Err t) refl reads)
  fails (step.bad_message p first second ms t read) of_page (k, charted, numbers, was) =
      absurd (none_bad u p.tree p.page (own_queue p) numbers ms (was ms refl) read.cursor (items_of ms) t refl read.takes)
  fails (step.bad_right p first second got t reads) of_page (has, comes, charted, found, none) = absurd (found got (Err t) refl reads)
  fails {q = q} (step.round link on seen) of_page k =
      let new = not_round q link (onward on of_page k) in
      absurd (cc (new, seen))
  fails (step.home_spent on last) of_page k = (inl (onward on of_page k).has, tt)
  fails (step.right_spent p first second got l reads some last) of_page (has, comes, charted, found, none) = (inr (p.at.page, has), tt)

  -- ---- the leaf of a right page

  module _ (p : Paging) (lease : Claim) (comes : ComesOn u now p lease) (charted : IsCharted u p.tree) (l : Leaf) (newest : IsNewestLeaf (u.tally.nodes p.tree) p.at.page l) where
    abbrev link : Link
    link = record { low = p.at.low; page = p.at.page }

    landed : IsLanded (u.tally.nodes p.tree) p.at.page l
    landed = newest_landed (u.tally.nodes p.tree) p.at.page l newest

    fences : HasFences (u.book.chain p.tree 0) link l
    fences = landed_fences (u.book.chain p.tree) (u.tally.nodes p.tree) charted.height charted.levels charted.versions link comes.linked l landed

    leads : RunLeads (u.book.chain p.tree 0) p.at.low l.high p.run.items (link_of l p.run.items)
    leads = link_leads (u.book.chain p.tree 0) link l p.run.items fences

    -- where it lacks nothing it has applied its items
    lacks_none : ((x : PuItem) → IsIn p.run.items x → holds l (key_of x.rec.change) ≡ true → IsDone u p.tree p.page x) → AreDone u p.tree p.page p.run.items p.home.high l.high
    lacks_none done x there beyond below = on (bytes_below (key_of x.rec.change) p.at.low) refl
      where
        on : (b : Bool) → bytes_below (key_of x.rec.change) p.at.low ≡ b → IsDone u p.tree p.page x
        on true less = comes.applied x there beyond less
        on false from =
            done x there
            (and_from (not (bytes_below (key_of x.rec.change) l.low)) (below_bound (key_of x.rec.change) l.high)
            (ap not (ap (bytes_below (key_of x.rec.change)) fences.low ∙ from)) below)

  -- ---- a step

  pub stands : {p : Paging} {a : Answer} {next : Step} → Comes p a next → IsOfPage p → Shows p.stage u now p a → StandsWherever u now p.page next
  stands (step.takes_home p first second l) of_page (fresh, is) = (of_page, (record { lease = l; is = refl; lock_is = is l refl }, fresh))
  stands (step.refused p first second a t e) of_page k = given_may (page_refusals p.page) (λ k until. tt) (lock.Page p.tree p.page) a t e
  stands (step.stops q t f) of_page k =
      let kept = fails_page f of_page in
      let gives = fails f of_page k in
      ((kept.0, kept.1, λ other e. subst (MayStopPage q.page) (same_Some t other e) gives.1), gives.0)
  stands (step.reads_home p first second got home reads) of_page (has, fresh, named, covers) =
      let newest : IsNewestLeaf (u.tally.nodes p.tree) p.page home = named got (Ok home) refl reads in (
        of_page,
        record {
          has = has;
          fresh = fresh;
          read = record { landed = newest_landed (u.tally.nodes p.tree) p.page home newest; newest = λ lasts. newest };
          covered = λ client c.
              let same : u.tally.cursor p.tree p.page client ≡ done_number home.done p.page client = covers client ∙ ap (λ (m : Leaf). done_number m.done p.page client) (ap leaf_in newest.is) in
              omega (arith, same);
        },
      )
  stands (step.turns q link on new) of_page k = (onward_page on of_page, onto q link (onward on of_page k))
  stands (step.takes_right p first second r) of_page (has, comes, is) = (
    of_page,
    (
      record {
        lease = has.lease;
        second = r;
        is = ap (λ (h : Leases). record h { second = Some r }) has.is;
        lock_is = has.lock_is;
        second_is = is r refl;
        elsewhere = comes.elsewhere;
      },
      comes,
    ),
  )
  stands (step.puts_right p first second got l out reads some fresh is) of_page (has, comes, charted, found, none) =
      let here : Paging = leased p GettingRight first second in
      let newest : IsNewestLeaf (u.tally.nodes p.tree) p.at.page l = found got (Ok l) refl reads in (
        of_page,
        (
          has,
          comes,
          record {
            leaf = l;
            read = record { landed = landed here has.lease comes charted l newest; newest = λ lasts. newest };
            low = (fences here has.lease comes charted l newest).low;
            leads = leads here has.lease comes charted l newest;
            puts = is;
            applies = refl;
          },
        ),
      )
  stands (step.leaves_right p first second got l reads lacks) of_page (has, comes, charted, found, none) =
      let here : Paging = leased p GettingRight first second in
      let newest : IsNewestLeaf (u.tally.nodes p.tree) p.at.page l = found got (Ok l) refl reads in (
        of_page,
        (
          has,
          comes,
          record {
            upto = l.high;
            leads = leads here has.lease comes charted l newest;
            applied = lacks_none here has.lease comes charted l newest (none l newest (no_items (lacked l p.page p.run.items) lacks));
          },
        ),
      )
  stands (step.right_put p first second) of_page (has, knows) = let k = knows refl in (of_page, (has, k.0, k.1))
  stands (step.puts_home q out on fresh is) of_page k =
      let o : IsOn u now q None = onward on of_page k in (
        onward_page on of_page,
        (o.has, record { read = o.read; runs = o.runs; rest = λ x there beyond below. o.done x there beyond (o.leads x there); puts = is; applies = refl }),
      )
  stands (step.deletes q id c some) of_page k = let each = cleared c k in (clears_page c of_page, (each.0, each.1, some_ids q.deletions.ids id some))
  stands (step.rests q c none) of_page k = (clears_page c of_page, inl (cleared c k).0)
  stands (step.gives_back p l r a) of_page k = (of_page, inl (first_left p.tree p.page l r k))
  stands (step.ends p first second a last none) of_page k = tt
  stands (step.stopped p first second a t last kept) of_page k = of_page.2 t kept
  stands (step.nothing p first second a) of_page k = absurd k

-- What a page checkpoint knows after each of its calls.
use Rattle.std.proofs.Common.{◌≡◌, ◌⊎◌, inl, inr, ℕ, zero, Bool, true, false, not, List, [], ◌∷◌, ◌++◌, map, Option, Some, None, Result, Ok, refl, sym, ap, subst, ◌∙◌, arith}
use Rattle.std.specs.List.{AllByRecursion}
use Rattle.std.proofs.lemmas.Bool.{and_from, and_cases, not-false}
use Rattle.std.proofs.lemmas.List.Elements.{recursion_from_All}
use Rattle.byte_format.specs.Order.{bytes_below, below_bound}
use Rattle.cloud_facts.specs.Chains.Chain.{IsChained}
use Rattle.cloud_facts.proofs.Chains.Pieces.{none_in}
use Rattle.ckpt_parts.specs.Deleting.{next_id}
use Rattle.ckpt_parts.specs.Leaves.{HoldsLinked}
use Rattle.ckpt_parts.specs.declared.leases.Leases.{Leases}
use Rattle.cloud_facts.specs.Calls.Acting.{footing, actor, Setting, Outcome, Aside}
use Rattle.cloud_facts.specs.Words.{Trouble, QueueName, Lock, Entry, PuItem, Leaf, Answer, CloudState, called, Caller, Claim, Ask, GetHeld, PutHeld, Receive, Delete, Take, Release, Stops, done_of, got_of, Book, Link, Store, Leafy, at, IsIn, nodes_of, roots_of, store_of, IsCall}
use Rattle.cloud_facts.specs.Calls.Looks.{audit_of}
use Rattle.cloud_facts.proofs.Calls.Calls.{landed_or_not, permitted, put_cases, put_lasts}
use Rattle.cloud_facts.proofs.Calls.Heads.{held_seen}
use Rattle.cloud_facts.proofs.Calls.Outcomes.{stays, put_landed, other_landed, quiet}
use Rattle.cloud_facts.proofs.Calls.Passing.{landing_passes}
use Rattle.cloud_trait.specs.Ask.{Lands, PutsNothing, TouchesNoMessage}
use Rattle.cloud_trait.specs.Delivery.{WasSent}
use Rattle.cloud_trait.specs.declared.answer.Answer.TheVariants.{Got, Received, Done, Given}
use Rattle.cloud_trait.specs.declared.message.Message.{Message}
use Rattle.db_base.specs.Change.{key_of}
use Rattle.db_base.specs.Cursor.{number_of}
use Rattle.db_base.specs.declared.names.Lock.TheVariants as lock
use Rattle.db_base.specs.declared.names.ObjName.TheVariants as object
use Rattle.db_base.specs.declared.names.QueueName.TheVariants as queue
use Rattle.history.specs.Audited.{applied_entry}
use Rattle.cloud_facts.specs.Homes.Homes.{Part, Parts, HomesHold}
use Rattle.cloud_facts.proofs.Homes.HomeLemmas.{aside_keeps, keeps_part}
use Rattle.cloud_facts.specs.Landings.Landing.{Landing, marks_post, puts_leaf}
use Rattle.leaf_edit.specs.Applied.{applied}
use Rattle.leaf_edit.specs.Lacked.{lacked}
use Rattle.leaf_view.specs.Leaf.{IsLeaf}
use Rattle.leaf_view.specs.Lookup.{holds}
use Rattle.page_ckpt.proofs.Calm.{step_rests}
use Rattle.page_ckpt.proofs.Outcomes.{comes}
use Rattle.page_ckpt.specs.Paging.{Paging, Step, ask_at, paging_ask, delete_next, take_home, take_right, home_name, right_name, HoldsNamed, PagingLeads}
use Rattle.page_ckpt.specs.declared.stage.Stage.{Stage}
use Rattle.page_ckpt.specs.declared.stage.Stage.TheVariants.{TakingHome, GettingHome, Receiving, TakingRight, GettingRight, PuttingRight, ReleasingRight, PuttingHome, Deleting as DeletingNext, Releasing, Finished}
use Rattle.session_facts.proofs.Machines.Runs.Leaves.{own_cursor, own_queue}
use Rattle.session_facts.proofs.Machines.Runs.Marks.{covered_stays, covered_more, delete_stays, may_mark}
use Rattle.session_facts.proofs.Machines.Runs.Takes.{taken, is_taken, leaf_lands, takes, lacking_is, nothing_lacked, run_applied, cursor_upto}
use Rattle.session_facts.specs.Machines.Runs.Knows.{TookRun, MayDelete}
use Rattle.cloud_facts.specs.Book.Effects.{Taking, after_leaf, after_post_mark}
use Rattle.cloud_facts.specs.Book.Growth.{Grows}
use Rattle.cloud_facts.specs.Book.Telling.{leaf_in, queue_of, newest_leaf, newest_root}
use Rattle.cloud_facts.specs.Tellings.Taking.{IsLinked}
use Rattle.cloud_facts.proofs.Tellings.Names.{at2_beside}
use Rattle.session_facts.specs.Machines.PageCheckpoints.Knows.{leaf_put, right_of, work_of, HasPage, HasRight, MayStopPage, ComesOn, KnowsPagingAt, KnowsPaging, KnowsAfter, paging_note}
use Rattle.session_facts.specs.Machines.PageCheckpoints.Rights.{IsNewestLeaf, IsDone, AreDone, PutsRight, LeavesRight, PutsHome}
use Rattle.session_facts.proofs.Machines.PageCheckpoints.Nexts as nexts
use Rattle.session_facts.proofs.Machines.PageCheckpoints.Others.{paging_later, read_stays, leads_stays, comes_stays}
use Rattle.session_facts.proofs.Machines.PageCheckpoints.Reads.{IsNamed, named_is, linked_is}
use Rattle.session_facts.proofs.Machines.TreeCheckpoints.Outcome.{less_known}

-- ---- what an answer shows

-- a lease that was given is of the lock that was asked for
given : (who : Caller) (k : Lock) (ticks : ℕ) (a : Answer) (s t : CloudState) → IsCall who (Take k ticks) a s t → (l : Claim) → a ≡ Given l → l.lock ≡ k
given who k ticks a s t call l e =
    let answered : IsCall who (Take k ticks) (Given l) s t = subst (λ (b : Answer). IsCall who (Take k ticks) b s t) e call in
    ap (λ (x : Claim). x.lock) answered.row.1

-- and messages that were received were sent
sent : (who : Caller) (q : QueueName) (most : ℕ) (a : Answer) (s t : CloudState) → IsCall who (Receive q most) a s t → (ms : List Message) → a ≡ Received ms
    → AllByRecursion (WasSent (s.messages q)) ms
sent who q most a s t call ms e =
    let answered : IsCall who (Receive q most) (Received ms) s t = subst (λ (b : Answer). IsCall who (Receive q most) b s t) e call in
    recursion_from_All (WasSent (s.messages q)) ms answered.row.1

module _ (who : Caller) (s t : CloudState) (book : Book) (order : List Entry) (parts : Parts) (leases : List Claim) (p : Paging) (reply : Answer)
    (setting : Setting (footing book order s) t.now (actor parts who.session leases)) (of_page : nexts.IsOfPage p) where
  abbrev st : Store
  st = store_of book order s

  abbrev own : Part
  own = parts who.session

  abbrev here : Stage → Paging
  here stage = record p { stage = stage }

  -- what is known behind a call at a stage, wherever the answer leads
  abbrev After : Stage → Store → ℕ → Type 0
  After stage u now = (next : Step) → PagingLeads (here stage) reply next → nexts.StandsWherever u now p.page next

  -- what a call leaves there
  abbrev By : Stage → Ask → Type 0
  By stage ask = IsCall who ask reply s t → Outcome (footing book order s) t (actor parts who.session leases) ask (paging_note (here stage) ask) (Aside st own (After stage))

  abbrev Out : Stage → Type 0
  Out stage = By stage (ask_at stage (here stage))

  -- by the leases that are held
  by_held : (stage : Stage) {held : Leases} → p.held ≡ held → By stage (ask_at stage (record p { stage = stage; held = held })) → Out stage
  by_held stage e = subst (λ (h : Leases). By stage (ask_at stage (record p { stage = stage; held = h }))) (sym e)

  -- the session's part stays
  homes_at : (u : Store) → HomesHold u.tally t.now parts → HomesHold u.tally t.now (at who.session own parts)
  homes_at u h = keeps_part u.tally t.now parts who.session own refl h

  -- where this is shown
  aside : (stage : Stage) (u : Store) → ((client : ℕ) → u.tally.head client ≡ st.tally.head client) → nexts.Shows stage u t.now (here stage) reply → Aside st own (After stage) u t.now own
  aside stage u heads shows = record {
    part_is = refl;
    heads = heads;
    knows = λ next leads. nexts.stands u t.now (comes (here stage) reply next leads) of_page shows;
  }

  quiet_at : (stage : Stage) (ask : Ask) → PutsNothing ask → TouchesNoMessage ask → (IsCall who ask reply s t → nexts.Shows stage st t.now (here stage) reply) → By stage ask
  quiet_at stage ask puts touches shows call =
      quiet who book order s t parts leases ask (paging_note (here stage) ask) (Aside st own (After stage)) reply call puts touches setting.cloud own (homes_at st setting.homes)
      (aside stage st (λ c. refl) (shows call))

  charted : nexts.IsCharted st p.tree
  charted =
      let chained : IsChained (book.chain p.tree) (nodes_of s p.tree) (roots_of s p.tree) (st.tally.done p.tree) (st.tally.cursor p.tree 0) = setting.cloud.holds.chains p.tree of_page.0 in
      record { height = (newest_root (roots_of s) p.tree).level; levels = chained.levels; versions = chained.versions }

  -- ---- reads

  -- a held get shows the newest version of its page
  named : (lease : Claim) → IsCall who (GetHeld (home_name p) lease) reply s t → (got : Option (List ℕ)) (found : Result Leaf Trouble) → reply ≡ Got got → HoldsNamed p.tree p.page got found
      → IsNamed (nodes_of s p.tree) p.page found
  named lease call got found e = named_is book order s setting.cloud p.tree of_page.0 p.page got found (sym (held_seen who (home_name p) lease reply s t call got (ap got_of e)))

  was_sent : IsCall who (Receive (queue.PagePu p.tree p.page) 256) reply s t → (ms : List Message) → reply ≡ Received ms → AllByRecursion (WasSent (st.tally.posts p.tree p.page)) ms
  was_sent call ms e =
      subst (λ (q : QueueName). AllByRecursion (WasSent (s.messages q)) ms) (sym (own_queue p.tree p.page of_page.1)) (sent who (queue.PagePu p.tree p.page) 256 reply s t call ms e)

  -- the page at hand is that of a link
  abbrev link : Link
  link = record { low = p.at.low; page = p.at.page }

  module _ {lease : Claim} (on : ComesOn st t.now p lease) where
    abbrev right_linked : IsLinked (book.chain p.tree 0) p.at.page
    right_linked = record { place = on.linked.0; link = link; linked = on.linked.1; page_is = refl }

    right : (second : Claim) → IsCall who (GetHeld (right_name p) second) reply s t → (got : Option (List ℕ)) (found : Result Leaf Trouble) → reply ≡ Got got
        → HoldsLinked p.tree p.at.page p.at.low got found → nexts.IsRight (nodes_of s p.tree) p.at.page found
    right second call got found e holds_linked =
        let k = linked_is book order s setting.cloud p.tree of_page.0 link on.linked got found (sym (held_seen who (right_name p) second reply s t call got (ap got_of e))) holds_linked in
        subst (nexts.IsRight (nodes_of s p.tree) p.at.page) (sym k.is) k.newest

    none_lacked : (l : Leaf) → IsNewestLeaf (nodes_of s p.tree) p.at.page l → lacked l p.page p.run.items ≡ [] → (x : PuItem) → IsIn p.run.items x → holds l (key_of x.rec.change) ≡ true
        → IsDone st p.tree p.page x
    none_lacked l newest =
        subst
        (λ (m : Leaf). lacked m p.page p.run.items ≡ [] → (x : PuItem) → IsIn p.run.items x → holds m (key_of x.rec.change) ≡ true → IsDone st p.tree p.page x)
        (ap leaf_in newest.is)
        (nothing_lacked book order s setting.cloud p.tree p.at.page p.page of_page.0 right_linked p.run.items on.runs.took.clients)

  -- ---- the put of a leaf of the chain, with the run applied

  module _ (stage : Stage) (page : ℕ) (linked : IsLinked (book.chain p.tree 0) page) (from : List (ℕ × ℕ)) (took : TookRun st p.tree p.page from p.run p.deletions.ids) (one : Claim)
      (two : Option Claim) where
    abbrev put : Ask
    put = PutHeld (object.Page p.tree page) p.out one two

    abbrev old : Leaf
    old = newest_leaf (nodes_of s) p.tree page

    abbrev leaf_taken : Taking
    leaf_taken = taken book order s setting.cloud p.tree page p.page of_page.0 linked p.run.items took.clients

    abbrev su : Store
    su = after_leaf leaf_taken st

    -- where the leaf is the newest that was read, and the items of other pages' keys are applied if it is that of the run's own page
    module _ (leaf : Leaf) (newest_is : old ≡ leaf) (puts : IsLeaf p.out (applied leaf p.page p.run.items))
        (last : p.page ≡ page → (x : PuItem) → IsIn p.run.items x → holds old (key_of x.rec.change) ≡ false → IsDone st p.tree p.page x) where
      spells : IsLeaf p.out (applied old p.page p.run.items)
      spells = subst (λ (l : Leaf). IsLeaf p.out (applied l p.page p.run.items)) (sym newest_is) puts

      abbrev landing : Landing who st put su
      landing = puts_leaf leaf_taken p.out one two spells
          (takes book order s setting.cloud p.tree page p.page of_page.0 linked p.run.items took.clients who p.out spells from took.received p.run.top took.is_run took.behind took.items last)
          (leaf_lands book order s setting.cloud p.tree page p.page of_page.0 linked p.run.items took.clients who p.out spells)
          (λ piece is. absurd (none_in piece is))

      grows : Grows st su
      grows = (landing_passes who st put su setting.cloud.holds landing).grows

      lands : Lands who put (called who t.now s) t → p.applying ≡ lacked leaf p.page p.run.items → nexts.Shows stage su t.now (here stage) reply
          → Outcome (footing book order s) t (actor parts who.session leases) put (paging_note (here stage) put) (Aside st own (After stage))
      lands landed applies shows =
          put_landed who book order s t parts leases (paging_note (here stage) put) (Aside st own (After stage)) (object.Page p.tree page) p.out one two su landed setting.cloud landing
          (is_taken book order s setting.cloud p.tree page p.page of_page.0 linked p.run.items took.clients) tt (inl refl) own
          (homes_at su (aside_keeps st.tally su.tally t.now parts refl refl setting.homes)) (aside stage su (λ c. refl) shows)
          (ap (λ (xs : List PuItem). audit_of book (order ++ map (applied_entry p.tree) xs))
          (applies
          ∙ (ap (λ (l : Leaf). lacked l p.page p.run.items) (sym newest_is)
          ∙ sym (lacking_is book order s setting.cloud p.tree page p.page of_page.0 linked p.run.items took.clients))))

    -- it landed, or it was not done
    puts_by : ((reply ≡ Done → ⊥) → nexts.Shows stage st t.now (here stage) reply)
        → (Lands who put (called who t.now s) t → Outcome (footing book order s) t (actor parts who.session leases) put (paging_note (here stage) put) (Aside st own (After stage))) → By stage put
    puts_by stayed landed call = on (put_cases who (object.Page p.tree page) p.out one two reply s t call)
      where
        on : ((t ≡ called who t.now s) × (done_of reply ≡ Ok tt → ⊥)) ⊎ Lands who put (called who t.now s) t
            → Outcome (footing book order s) t (actor parts who.session leases) put (paging_note (here stage) put) (Aside st own (After stage))
        on (inl q) =
            stays who book order s t parts leases put (paging_note (here stage) put) (Aside st own (After stage)) q.0 setting.cloud own (homes_at st setting.homes)
            (aside stage st (λ c. refl) (stayed (λ e. q.1 (ap done_of e))))
        on (inr lands) = landed lands

  -- a right page
  puts_right : (has : HasRight p) (on : ComesOn st t.now p has.lease) → PutsRight st t.now (work_of p) has.second (right_of p) (leaf_put p)
      → By PuttingRight (PutHeld (right_name p) p.out has.lease (Some has.second))
  puts_right has on puts = puts_by PuttingRight p.at.page linked on.runs.from on.runs.took has.lease (Some has.second) (λ never. (has, λ done. absurd (never done))) landed
    where
      linked : IsLinked (book.chain p.tree 0) p.at.page
      linked = right_linked on

      landed : Lands who (PutHeld (right_name p) p.out has.lease (Some has.second)) (called who t.now s) t
          → Outcome (footing book order s) t (actor parts who.session leases) (PutHeld (right_name p) p.out has.lease (Some has.second)) (paging_note (here PuttingRight) (PutHeld (right_name p) p.out has.lease (Some has.second)))
          (Aside st own (After PuttingRight))
      landed lands_so =
          lands PuttingRight p.at.page linked on.runs.from on.runs.took has.lease (Some has.second) puts.leaf right_is puts.puts elsewhere lands_so puts.applies (has, λ done. (comes_on, leaves))
        where
          right_is : newest_leaf (nodes_of s) p.tree p.at.page ≡ puts.leaf
          right_is = ap leaf_in (puts.read.newest (permitted who (PutHeld (right_name p) p.out has.lease (Some has.second)) (called who t.now s) t lands_so).1).is

          elsewhere : p.page ≡ p.at.page → (x : PuItem) → IsIn p.run.items x → holds (newest_leaf (nodes_of s) p.tree p.at.page) (key_of x.rec.change) ≡ false → IsDone st p.tree p.page x
          elsewhere same = absurd (on.elsewhere (sym same))

          right_taken : Taking
          right_taken = leaf_taken PuttingRight p.at.page linked on.runs.from on.runs.took has.lease (Some has.second)

          ru : Store
          ru = after_leaf right_taken st

          right_grows : Grows st ru
          right_grows = grows PuttingRight p.at.page linked on.runs.from on.runs.took has.lease (Some has.second) puts.leaf right_is puts.puts elsewhere

          comes_on : ComesOn ru t.now p has.lease
          comes_on =
              comes_stays st ru t.now t.now p.tree p.page has.lease p.home p.run p.deletions.ids p.visited p.at right_grows
              (read_stays st ru t.now t.now p.tree p.page has.lease p.home (omega arith) right_grows
              (λ lasts newest. at2_beside p.tree p.at.page (nodes_of s p.tree p.at.page ++ Leafy right_taken.leaf ∷ []) (nodes_of s) p.tree p.page (λ same. on.elsewhere (sym same))) on.read) on

          -- the items of its keys are applied now, and those before it were
          done : AreDone ru p.tree p.page p.run.items p.home.high puts.leaf.high
          done x there beyond below = by (bytes_below (key_of x.rec.change) p.at.low) refl
            where
              by : (b : Bool) → bytes_below (key_of x.rec.change) p.at.low ≡ b → IsDone ru p.tree p.page x
              by true less = comes_on.applied x there beyond less
              by false low =
                  run_applied book order s setting.cloud p.tree p.at.page p.page of_page.0 linked p.run.items on.runs.took.clients x there
                  (ap (λ (l : Leaf). holds l (key_of x.rec.change)) right_is
                  ∙ and_from (not (bytes_below (key_of x.rec.change) puts.leaf.low)) (below_bound (key_of x.rec.change) puts.leaf.high)
                  (ap not (ap (bytes_below (key_of x.rec.change)) puts.low ∙ low)) below)

          leaves : LeavesRight ru (work_of p) (right_of p)
          leaves = record {
            upto = puts.leaf.high;
            leads = leads_stays (book.chain p.tree 0) (ru.book.chain p.tree 0) (right_grows.links p.tree 0) p.at.low puts.leaf.high p.run.items p.onward puts.leads;
            applied = done;
          }

  -- the page itself
  puts_home : (has : HasPage p) → PutsHome st t.now (work_of p) has.lease (leaf_put p) → By PuttingHome (PutHeld (home_name p) p.out has.lease None)
  puts_home has puts = puts_by PuttingHome p.page puts.runs.linked puts.runs.from puts.runs.took has.lease None (λ never. (has, λ done. absurd (never done))) landed
    where
      landed : Lands who (PutHeld (home_name p) p.out has.lease None) (called who t.now s) t
          → Outcome (footing book order s) t (actor parts who.session leases) (PutHeld (home_name p) p.out has.lease None) (paging_note (here PuttingHome) (PutHeld (home_name p) p.out has.lease None))
          (Aside st own (After PuttingHome))
      landed lands_so =
          lands PuttingHome p.page puts.runs.linked puts.runs.from puts.runs.took has.lease None p.home newest_is puts.puts (λ same. others) lands_so puts.applies (has, λ done. covered)
        where
          newest_is : newest_leaf (nodes_of s) p.tree p.page ≡ p.home
          newest_is = ap leaf_in (puts.read.newest (put_lasts who (home_name p) p.out has.lease None (called who t.now s) t lands_so)).is

          -- the items of other pages' keys are beyond the page's high key
          others : (x : PuItem) → IsIn p.run.items x → holds (newest_leaf (nodes_of s) p.tree p.page) (key_of x.rec.change) ≡ false → IsDone st p.tree p.page x
          others x there out =
              by (and_cases (not (bytes_below (key_of x.rec.change) p.home.low)) (below_bound (key_of x.rec.change) p.home.high)
              (ap (λ (l : Leaf). holds l (key_of x.rec.change)) (sym newest_is) ∙ out))
            where
              never : false ≡ true → ⊥
              never q = cc

              by : (not (bytes_below (key_of x.rec.change) p.home.low) ≡ false) ⊎ (below_bound (key_of x.rec.change) p.home.high ≡ false) → IsDone st p.tree p.page x
              by (inl less) = absurd (never (sym (puts.runs.keys x there) ∙ not-false (bytes_below (key_of x.rec.change) p.home.low) less))
              by (inr beyond) = puts.rest x there beyond refl

          hu : Store
          hu = su PuttingHome p.page puts.runs.linked puts.runs.from puts.runs.took has.lease None

          -- the cursor covers the run now
          covered : MayDelete hu p.tree p.page p.deletions.ids
          covered id is =
              covered_more hu p.tree p.page id (number_of p.run.top) (hu.tally.cursor p.tree p.page)
              (cursor_upto book order s setting.cloud p.tree p.page p.page of_page.0 puts.runs.linked p.run.items puts.runs.took.clients refl puts.runs.from puts.runs.took.received p.run.top
              puts.runs.took.is_run puts.runs.took.behind)
              (covered_stays st hu p.tree p.page (number_of p.run.top) id
              (grows PuttingHome p.page puts.runs.linked puts.runs.from puts.runs.took has.lease None p.home newest_is puts.puts (λ same. others)) (puts.runs.took.covers id is))

  -- ---- a deletion

  deletes : HasPage p → MayDelete st p.tree p.page p.deletions.ids → (id : ℕ) → IsIn p.deletions.ids id → By DeletingNext (Delete (queue_of p.tree p.page) id)
  deletes has each id there call = on (landed_or_not who delete reply s t call)
    where
      delete : Ask
      delete = Delete (queue_of p.tree p.page) id

      landing : Landing who st delete (after_post_mark p.tree p.page id st)
      landing = marks_post p.tree p.page id (may_mark st p.tree p.page id (each id there))

      du : Store
      du = after_post_mark p.tree p.page id st

      on : (t ≡ called who t.now s) ⊎ Lands who delete (called who t.now s) t → Outcome (footing book order s) t (actor parts who.session leases) delete (paging_note (here DeletingNext) delete) (Aside st own (After DeletingNext))
      on (inl q) =
          stays who book order s t parts leases delete (paging_note (here DeletingNext) delete) (Aside st own (After DeletingNext)) q setting.cloud own (homes_at st setting.homes)
          (aside DeletingNext st (λ c. refl) (has, each))
      on (inr lands) =
          other_landed who book order s t parts leases delete (paging_note (here DeletingNext) delete) (Aside st own (After DeletingNext)) du lands setting.cloud landing tt tt tt own
          (homes_at du (aside_keeps st.tally du.tally t.now parts refl refl setting.homes))
          (aside DeletingNext du (λ c. refl) (has, delete_stays st du p.tree p.page p.deletions.ids (landing_passes who st delete du setting.cloud.holds landing).grows each))
          (λ look new. refl) refl

  -- ---- the whole

  outcome_at : (stage : Stage) → KnowsPagingAt stage st t.now p → Out stage
  outcome_at TakingHome (none, fresh) = quiet_at TakingHome (take_home p) tt tt (λ call. (fresh, given who (lock.Page p.tree p.page) 30 reply s t call))
  outcome_at GettingHome (has, fresh) =
      by_held GettingHome has.is
      (quiet_at GettingHome (GetHeld (home_name p) has.lease) tt tt (λ call. (has, fresh, named has.lease call, λ c. own_cursor s p.tree p.page c of_page.1)))
  outcome_at Receiving k =
      quiet_at Receiving (Receive (queue.PagePu p.tree p.page) 256) tt tt
      (λ call. (record { has = k.has; fresh = k.fresh; read = k.read; covered = k.covered }, charted, setting.cloud.holds.numbers, was_sent call))
  outcome_at TakingRight (has, on) = quiet_at TakingRight (take_right p) tt tt (λ call. (has, on, given who (lock.Page p.tree p.at.page) 30 reply s t call))
  outcome_at GettingRight (has, on) =
      by_held GettingRight has.is
      (quiet_at GettingRight (GetHeld (right_name p) has.second) tt tt (λ call. (has, on, charted, right on has.second call, none_lacked on)))
  outcome_at PuttingRight (has, on, puts) = by_held PuttingRight has.is (puts_right has on puts)
  outcome_at ReleasingRight (has, on, leaves) = by_held ReleasingRight has.is (quiet_at ReleasingRight (Release has.second) tt tt (λ call. (has, on, leaves, charted)))
  outcome_at PuttingHome (has, puts) = by_held PuttingHome has.is (puts_home has puts)
  outcome_at DeletingNext (has, each, (id, rest, ids_are)) =
      subst (λ (ids : List ℕ). By DeletingNext (delete_next (here DeletingNext) (next_id ids))) (sym ids_are)
      (subst (λ (q : QueueName). By DeletingNext (Delete q id)) (own_queue p.tree p.page of_page.1) (deletes has each id (subst (λ ids. IsIn ids id) (sym ids_are) (zero, refl))))
  outcome_at Releasing (inl has) = by_held Releasing has.is (quiet_at Releasing (Release has.lease) tt tt (λ call. inl has))
  outcome_at Releasing (inr (right, has)) = by_held Releasing has.is (quiet_at Releasing (Release has.second) tt tt (λ call. inr (right, has)))
  outcome_at Finished never = absurd never

-- a call of a page checkpoint: whatever was answered, and whether it landed or not
pub paging_outcome : (who : Caller) (s t : CloudState) (book : Book) (order : List Entry) (parts : Parts) (leases : List Claim) (p : Paging) (reply : Answer)
    → Setting (footing book order s) t.now (actor parts who.session leases) → KnowsPaging (store_of book order s) s.now p → IsCall who (paging_ask p) reply s t
    → Outcome (footing book order s) t (actor parts who.session leases) (paging_ask p) (paging_note p (paging_ask p)) (Aside (store_of book order s) (parts who.session) (KnowsAfter p reply))
paging_outcome who s t book order parts leases p reply setting k call =
    less_known who book order s t parts leases (paging_ask p) (paging_note p (paging_ask p)) (λ u now. (next : Step) → PagingLeads p reply next → nexts.StandsWherever u now p.page next) (KnowsAfter p reply)
    (λ u stands next leads. nexts.stands_knows u t.now p next k.waits (step_rests p reply next leads) (stands next leads))
    (outcome_at who s t book order parts leases p reply setting (k.tree, k.page, k.may) p.stage (paging_later (store_of book order s) s.now t.now p call.later k).at call)

-- why it stops: for no message, page, fence or way that is broken, nor for a page that a link named
pub paging_stops : (who : Caller) (s t : CloudState) (book : Book) (order : List Entry) (parts : Parts) (leases : List Claim) (p : Paging) (reply : Answer)
    → Setting (footing book order s) t.now (actor parts who.session leases) → KnowsPaging (store_of book order s) s.now p → IsCall who (paging_ask p) reply s t → (q : Paging) (trouble : Trouble)
    → PagingLeads p reply (Stops q trouble) → MayStopPage p.page trouble
paging_stops who s t book order parts leases p reply setting k call q trouble leads =
    (paging_outcome who s t book order parts leases p reply setting k call).knows.knows (Stops q trouble) leads

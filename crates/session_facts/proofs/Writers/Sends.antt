-- A commit sends no more messages to pending update queues than it has changes.
use Rattle.std.proofs.Common.{◌≡◌, ◌≤◌, ◌+◌, ◌-◌, ℕ, true, false, List, length, Option, Some, None, refl, ap, sym, subst, inl, inr, arith}
use Rattle.std.specs.Prelude.{slice_get}
use Rattle.std.proofs.lemmas.Option.{slice_get_within}
use Rattle.cloud_facts.specs.Words.{CommitAnswer, ObjName, QueueName, AtomicRec, Answer, Ask, Get, Next, Goes, Ends, Stops}
use Rattle.commit_run.specs.declared.hand.Hand.{Hand}
use Rattle.commit_run.specs.declared.hand.Hand.TheVariants.{Writes, First, Change}
use Rattle.commit_run.specs.Draft.{Draft}
use Rattle.commit_run.specs.Run.{Run, new_run, wrote, walked, run_ask, run_ready, next_at as run_next_at, run_next, ask_at as run_ask_at}
use Rattle.commit_run.proofs.Outcomes as step
use Rattle.commit_run.proofs.Outcomes.{NextRun, Leads, BeginsWith, records_of, taken, walked_leads, ready_leads}
use Rattle.commit_writes.proofs.Outcomes as written
use Rattle.commit_writes.proofs.Outcomes.{Logs, Comes, begins, comes}
use Rattle.commit_writes.specs.declared.stage.Stage.{Stage}
use Rattle.commit_writes.specs.declared.stage.Stage.TheVariants.{Waiting, Logging, Opening, Sending, Settling, Deleting, Finished}
use Rattle.commit_writes.specs.Writing.{Writing, ask_at, delete_ask, send_ask, begun, writing_next}
use Rattle.db_base.specs.declared.names.ObjName.TheVariants as object
use Rattle.db_base.specs.declared.names.QueueName.TheVariants as queue
use Rattle.page_cache.specs.Cache.{Cache}
use Rattle.recover_run.specs.declared.home.Home.{Home}
use Rattle.route_plan.specs.Queue.{queue_name}
use Rattle.session_facts.proofs.Machines.Commits.Routes.{count_is}
use Rattle.session_notes.specs.Metered.{sends_of}
use Rattle.session_notes.specs.Notebook.{note_of_send}
use Rattle.tree_walk.specs.Walk.{object_of}
use Rattle.txn_buffer.specs.Noted.{Noted}
use Rattle.session_facts.specs.Writers.Sending.{ask_sends, sends_at, sends_left}

-- ---- what a call sends

send_one : (q : QueueName) → sends_of (note_of_send q) ≤ 1
send_one (queue.Atomic client) = omega arith
send_one (queue.TreePu tree) = omega arith
send_one (queue.PagePu tree page) = omega arith

pub get_none : (name : ObjName) → ask_sends (Get name) ≡ 0
get_none (object.Head client) = refl
get_none (object.Tree tree) = refl
get_none (object.Page tree page) = refl

delete_none : (w : Writing) (id : Option ℕ) → ask_sends (delete_ask w id) ≡ 0
delete_none w (Some id) = refl
delete_none w None = refl

-- with so many left before a call, this holds with as many as it leaves
pub record Spends (n : ℕ) (ask : Ask) (Leaves : ℕ → Type 0) : Type 0 where
  pub left : ℕ
  pub spent : left + ask_sends ask ≤ n
  pub leaves : Leaves left

-- ---- the writes

abbrev LeavesAtMost : ℕ → Next Writing CommitAnswer → Type 0
LeavesAtMost n (Goes w) = sends_at w.stage w ≤ n
LeavesAtMost n (Ends w a) = Unit {0}
LeavesAtMost n (Stops w t) = Unit {0}

logs_left : (n : ℕ) (w : Writing) (x : Next Writing CommitAnswer) → length w.records ≤ n → Logs w x → LeavesAtMost n x
logs_left n w x few (written.logs r e) = few
logs_left n w x few (written.opens e) = few

-- how many are left behind the call in hand
abbrev behind : Stage → Writing → ℕ
behind Sending w = length w.records - (w.place + 1)
behind stage w = sends_at stage w

writes_leave : (n : ℕ) (w : Writing) (a : Answer) (x : Next Writing CommitAnswer) → behind w.stage w ≤ n → Comes w a x → LeavesAtMost n x
writes_leave n v a x few (written.goes_on w id next first) = logs_left n (written.logged v id) x few first
writes_leave n v a x few (written.sends k r (written.opened w) e) = omega (arith, few)
writes_leave n v a x few (written.sends k r (written.one_sent w id) e) = few
writes_leave n w a x few (written.settles k posts e) = omega arith
writes_leave n w a x few (written.deletes k id clears e) = omega arith
writes_leave n v a x few (written.not_logged w y failed) = tt
writes_leave n v a x few (written.late w end now) = tt
writes_leave n v a x few (written.doubts w y failed) = tt
writes_leave n w a x few (written.stays_open leaves) = tt
writes_leave n w a x few (written.ends k clears e) = tt
writes_leave n w a x few (written.lacks v under) = tt
writes_leave n v a x few (written.waits w y) = tt
writes_leave n v a x few (written.rests w y) = tt

-- a record that is sent is one less
spends_one : (n : ℕ) (w : Writing) (o : Option AtomicRec) → slice_get w.records w.place ≡ o → length w.records - w.place ≤ n → Spends n (send_ask w o) (λ left. behind Sending w ≤ left)
spends_one n w (Some r) is few =
    let within = slice_get_within w.records w.place r is in
    let one = send_one (queue_name r.tree r.page) in
    record { left = length w.records - (w.place + 1); spent = omega (arith, within, one, few); leaves = omega arith }
spends_one n w None is few = record { left = n; spent = omega arith; leaves = omega (arith, few) }

spends_at : (n : ℕ) (w : Writing) (stage : Stage) → sends_at stage w ≤ n → Spends n (ask_at stage w) (λ left. behind stage w ≤ left)
spends_at n w Waiting few = record { left = n; spent = omega arith; leaves = few }
spends_at n w Logging few = record { left = n; spent = omega arith; leaves = few }
spends_at n w Opening few = record { left = n; spent = omega arith; leaves = few }
spends_at n w Sending few = spends_one n w (slice_get w.records w.place) refl few
spends_at n w Settling few = record { left = n; spent = omega arith; leaves = few }
spends_at n w Deleting few = let none = delete_none w (slice_get w.ids w.place) in record { left = n; spent = omega (arith, none); leaves = few }
spends_at n w Finished few = record { left = n; spent = omega arith; leaves = few }

-- ---- the whole commit

abbrev pub RunsLeft : ℕ → Next (Run × Cache) CommitAnswer → Type 0
RunsLeft n (Goes m) = sends_left m.0 ≤ n
RunsLeft n (Ends m a) = Unit {0}
RunsLeft n (Stops m t) = Unit {0}

wrote_left : (n : ℕ) (d : Draft) (c : Cache) (next : Next Writing CommitAnswer) → LeavesAtMost n next → RunsLeft n (wrote d c next)
wrote_left n d c (Goes w) few = few
wrote_left n d c (Ends w a) few = tt
wrote_left n d c (Stops w t) few = tt

module _ (n : ℕ) where
  leads_left : (w : Writing) (x : NextRun) → length w.changes ≤ n → Leads w x → RunsLeft n x
  leads_left w x few (step.walks true e v k kept) = let same = ap length kept.changes in omega (arith, same, few)
  leads_left w x few (step.walks false e v k kept) = let same = ap length kept.changes in omega (arith, same, few)
  leads_left w x few (step.writes e k v kept paged starts) =
      let same = ap length kept.changes in
      let many = count_is e.writes.home.client e.writes.home.head.epoch e.writes.home.attempt e.writes.home.head e.writes.changes e.plan.pages paged in
      subst (LeavesAtMost n) starts
      (logs_left n (record e.writes { records = records_of e; place = 0 }) (begun e.writes (records_of e)) (omega (arith, many, same, few)) (begins e.writes (records_of e)))
  leads_left w x few (step.refuses e k t kept other) = tt
  leads_left w x few (step.lacks e k kept) = tt

  -- one that begins sends no more than its changes
  pub run_begins_left : (home : Home) (changes : List Noted) (c : Cache) → length changes ≤ n → RunsLeft n (run_ready (new_run home changes, c))
  run_begins_left home changes c few = on (ready_leads home changes c) where
    on : BeginsWith home changes c (run_ready (new_run home changes, c)) → RunsLeft n (run_ready (new_run home changes, c))
    on (inl spent) = subst (RunsLeft n) (sym spent.1) tt
    on (inr so) = leads_left (taken home changes).writes (run_ready (new_run home changes, c)) few so.1

  -- a call leaves no more than before but what it sent
  pub run_spends : (m : Run × Cache) (a : Answer) → sends_left m.0 ≤ n → Spends n (run_ask m.0) (λ left. RunsLeft left (run_next m a))
  run_spends m a = on m.0.hand
    where
      d : Draft
      d = m.0.draft

      on : (hand : Hand) → sends_left (record { draft = d; hand = hand }) ≤ n → Spends n (run_ask_at hand d.writes) (λ left. RunsLeft left (run_next_at hand d m.1 a))
      on Writes few =
          let s = spends_at n d.writes d.writes.stage few in
          record { left = s.left; spent = s.spent; leaves = wrote_left s.left d m.1 (writing_next d.writes a) (writes_leave s.left d.writes a (writing_next d.writes a) s.leaves (comes d.writes a)) }
      on (First w) few =
          let none = get_none (object_of w) in
          record { left = n; spent = omega (arith, none); leaves = leads_left d.writes (walked true d w m.1 a) few (walked_leads d true w m.1 a) }
      on (Change w) few =
          let none = get_none (object_of w) in
          record { left = n; spent = omega (arith, none); leaves = leads_left d.writes (walked false d w m.1 a) few (walked_leads d false w m.1 a) }

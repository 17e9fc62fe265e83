-- Which replies lines never have: no line says at once what only the run of an operation can.
use Rattle.std.proofs.Common.{◌≡◌, ◌≤◌, inl, inr, ℕ, List, length, Option, Result, Ok, Err, sym, ap, subst, ◌∙◌, arith}
use Rattle.client_work.specs.Session.{Acting, Begins, CommitsNoted}
use Rattle.client_work.specs.declared.answer.Answer.{Answer}
use Rattle.client_work.specs.declared.answer.Answer.TheVariants as answer
use Rattle.client_work.specs.declared.answer.Begun.{Begun}
use Rattle.client_work.specs.declared.answer.Begun.TheVariants.{Working, Answered}
use Rattle.client_work.specs.declared.op.Op.TheVariants as op
use Rattle.cloud_facts.specs.Words.{Trouble, Seen, Ends}
use Rattle.db_base.specs.declared.refusal.Refusal.{Refusal}
use Rattle.db_base.specs.declared.refusal.Refusal.TheVariants.{BadNumber}
use Rattle.db_base.specs.declared.refusal.Refused.{Refused}
use Rattle.db_base.specs.declared.refusal.Refused.TheVariants as refused
use Rattle.db_base.specs.declared.trouble.CommitAnswer.TheVariants.{Committed, NotCommitted}
use Rattle.db_base.specs.declared.trouble.Trouble.TheVariants as trouble
use Rattle.event_text.specs.declared.event.Event.{Event}
use Rattle.event_text.specs.declared.event.Event.TheVariants as event
use Rattle.page_cache.specs.Cache.{Cache}
use Rattle.recover_run.specs.declared.home.Home.{Home}
use Rattle.replay_meaning.specs.Standing.{Standing}
use Rattle.reply_text.specs.declared.reply.Reply.{Reply}
use Rattle.reply_text.specs.declared.reply.Reply.TheVariants as reply
use Rattle.session_facts.proofs.Machines.CommitRuns.Stays.{RunsFor, IsRefusal, run_begins}
use Rattle.session_facts.specs.Lines.Errands.{settles}
use Rattle.session_facts.specs.Lines.Facts.{ActsAs, session_at}
use Rattle.txn_buffer.specs.Noted.{Noted}
use Rattle.schedule_run.proofs.Loads.AtOnce.{IsFair}
use Rattle.world_core.proofs.EveryLine.{does_own, asked_is}
use Rattle.world_core.proofs.StandsLemmas.{changed_was, no_memory}
use Rattle.world_core.proofs.Texts.{commit_is}
use Rattle.world_core.specs.Asked.{Asks}
use Rattle.world_core.specs.Handled.{Answers, Handled, SettlesOn}
use Rattle.world_core.specs.Replying.{declined, done_reply, RepliesBegun, RepliesSettled, trouble_reply, unsettled_reply}
use Rattle.world_core.specs.World.{World}
use Rattle.world_core.specs.declared.asked.Asked.{Asked}
use Rattle.world_core.specs.declared.asked.Asked.TheVariants.{Session, Wait, Report, Settle, Sweep}
use Rattle.world_core.specs.declared.asked.Request.TheVariants.{Begin, Note, Abort, Policy, Work as WorksDue, Step, Run, Crash}
use Rattle.world_core.specs.declared.world.WorldFault.{WorldFault}
use Rattle.world_core.specs.Span.{span_of}

-- a refusal is none of these
pub declined_not : (r q : Reply) (why : Refused) → (let own : Result Reply WorldFault = Ok r in own ≡ declined why) → ((rule : Refusal) → q ≡ reply.Refused rule → ⊥) → r ≡ q → ⊥
declined_not r q (refused.Rule rule) e other is = let same : q ≡ reply.Refused rule = cc in other rule same
declined_not r q refused.Memory e other is = absurd (cc)

module _ (n : ℕ) (before after : Seen) (old new : World) (r : Reply) where
  -- ---- an opening

  opens_not : (client epoch : ℕ) (a b : Acting) (begun : Result Begun Refused) → Begins (op.Open client) a b begun → RepliesBegun begun b (Ok r) → r ≡ reply.Opened epoch → ⊥
  opens_not client epoch a b (Ok Working) begins e is = absurd (cc)
  opens_not client epoch a b (Ok (Answered x)) never e is = never
  opens_not client epoch a b (Err why) begins e is = declined_not r (reply.Opened epoch) why e (λ rule same. cc) is

  open_fair : (session client : ℕ) (asked : Asked) → Asks (event.Open session client) asked → Answers n asked (span_of before after old new) (Ok r) → (epoch : ℕ) → r ≡ reply.Opened epoch → ⊥
  open_fair session client (Session k (Ok request)) asks (inl p) epoch is =
      let d = does_own n k request (Begin (op.Open client)) before after old new r asks.1.1 p.1 in
      let c = d.1 in
      opens_not client epoch c.before c.after c.does.begun c.does.begins c.does.replies is
  open_fair session client (Session k (Err why)) asks (inl p) epoch is = declined_not r (reply.Opened epoch) why p.1.reply (λ rule same. cc) is
  open_fair session client (Session k request) asks (inr none) epoch is = declined_not r (reply.Opened epoch) (refused.Rule BadNumber) none.declines.reply (λ rule same. cc) is
  open_fair session client (Wait ticks) asks p epoch is = asks
  open_fair session client (Report tree) asks p epoch is = asks
  open_fair session client Settle asks p epoch is = asks
  open_fair session client (Sweep t) asks p epoch is = asks

  -- ---- an insert

  notes_not : (noted : Result (Unit {0}) Refused) → (let own : Result Reply WorldFault = Ok r in own ≡ done_reply reply.Noted noted) → r ≡ reply.Begun → ⊥
  notes_not (Ok done) e is = absurd (cc)
  notes_not (Err why) e is = declined_not r reply.Begun why e (λ rule same. cc) is

  insert_fair : (session tree : ℕ) (key payload : List ℕ) (attr : Option (List ℕ)) (asked : Asked) → Asks (event.Insert session tree key payload attr) asked
      → Answers n asked (span_of before after old new) (Ok r) → r ≡ reply.Begun → ⊥
  insert_fair session tree key payload attr (Session k (Ok (Note noting))) asks (inl p) is = let c = p.1.1 in notes_not c.does.noted c.does.replies is
  insert_fair session tree key payload attr (Session k (Ok (Begin o))) asks (inl p) is = asks.1
  insert_fair session tree key payload attr (Session k (Ok Abort)) asks (inl p) is = asks.1
  insert_fair session tree key payload attr (Session k (Ok (Policy role kept))) asks (inl p) is = asks.1
  insert_fair session tree key payload attr (Session k (Ok WorksDue)) asks (inl p) is = asks.1
  insert_fair session tree key payload attr (Session k (Ok (Step wish))) asks (inl p) is = asks.1
  insert_fair session tree key payload attr (Session k (Ok Run)) asks (inl p) is = asks.1
  insert_fair session tree key payload attr (Session k (Ok (Crash done))) asks (inl p) is = asks.1
  insert_fair session tree key payload attr (Session k (Err why)) asks (inl p) is = declined_not r reply.Begun why p.1.reply (λ rule same. cc) is
  insert_fair session tree key payload attr (Session k request) asks (inr none) is = declined_not r reply.Begun (refused.Rule BadNumber) none.declines.reply (λ rule same. cc) is
  insert_fair session tree key payload attr (Wait ticks) asks p is = asks
  insert_fair session tree key payload attr (Report t) asks p is = asks
  insert_fair session tree key payload attr Settle asks p is = asks
  insert_fair session tree key payload attr (Sweep t) asks p is = asks

  -- ---- a commit

  commits_not : (txn : ℕ) (home : Home) (buffer : List Noted) (c : Cache) (b : Acting) (begun : Begun) → 1 ≤ length buffer → CommitsNoted home buffer c b.cache b.work begun
      → RepliesBegun (Ok begun) b (Ok r) → r ≡ reply.Commit (Committed txn) → ⊥
  commits_not txn home buffer c b begun some (inl nothing) e is = let none : length buffer ≡ 0 = ap length nothing.none in absurd (omega arith)
  commits_not txn home buffer c b Working some (inr h) e is = absurd (cc)
  commits_not txn home buffer c b (Answered (answer.Commit a)) some (inr h) e is =
      let end : RunsFor IsRefusal buffer home.client (Ends (h.1.0, b.cache) a) = subst (RunsFor IsRefusal buffer home.client) h.1.1 (run_begins home buffer c) in
      let f : r ≡ reply.Commit (NotCommitted end.1.0) = (commit_is a r e).0 ∙ ap (λ z. reply.Commit z) end.1.1 in
      absurd (cc)
  commits_not txn home buffer c b (Answered (answer.Trouble t)) some (inr h) e is =
      let never : (let own : Result Reply WorldFault = Ok r in own ≡ trouble_reply trouble.Memory) = e ∙ ap trouble_reply h.1.0 in
      absurd (cc)
  commits_not txn home buffer c b (Answered (answer.Opened epoch)) some (inr h) e is = h.1
  commits_not txn home buffer c b (Answered answer.Closed) some (inr h) e is = h.1
  commits_not txn home buffer c b (Answered (answer.Renewed end)) some (inr h) e is = h.1
  commits_not txn home buffer c b (Answered (answer.Done k)) some (inr h) e is = h.1
  commits_not txn home buffer c b (Answered answer.Value) some (inr h) e is = h.1
  commits_not txn home buffer c b (Answered answer.Scan) some (inr h) e is = h.1
  commits_not txn home buffer c b (Answered (answer.Settled s)) some (inr h) e is = h.1
  commits_not txn home buffer c b (Answered (answer.Swept x)) some (inr h) e is = h.1

  begun_not : (txn : ℕ) (a b : Acting) (begun : Result Begun Refused) → 1 ≤ length a.buffer → Begins op.Commit a b begun → RepliesBegun begun b (Ok r) → r ≡ reply.Commit (Committed txn) → ⊥
  begun_not txn a b (Ok begun) some begins e is = commits_not txn begins.0 a.buffer a.cache b begun some begins.2.1 e is
  begun_not txn a b (Err why) some begins e is = declined_not r (reply.Commit (Committed txn)) why e (λ rule same. cc) is

  commit_fair : (session : ℕ) (s : Standing) (asked : Asked) → ActsAs (session_at old.sessions 1) s → Asks (event.Commit session) asked → Answers n asked (span_of before after old new) (Ok r)
      → session ≡ 1 → 1 ≤ length s.buffer → (txn : ℕ) → r ≡ reply.Commit (Committed txn) → ⊥
  commit_fair session s (Session k (Ok request)) acts asks (inl p) one some txn is =
      let d = does_own n k request (Begin op.Commit) before after old new r (asked_is request (Begin op.Commit) asks.1) p.1 in
      let c = d.1 in
      let own : session_at old.sessions 1 ≡ c.before = ap (session_at old.sessions) (sym (asks.0 ∙ one)) ∙ changed_was k _ old.sessions new.sessions c in
      let same : length s.buffer ≡ length c.before.buffer = ap length (sym acts.buffer) ∙ ap (λ (x : Acting). length x.buffer) own in
      begun_not txn c.before c.after c.does.begun (omega arith) c.does.begins c.does.replies is
  commit_fair session s (Session k (Err why)) acts asks (inl p) one some txn is = declined_not r (reply.Commit (Committed txn)) why p.1.reply (λ rule same. cc) is
  commit_fair session s (Session k request) acts asks (inr none) one some txn is = declined_not r (reply.Commit (Committed txn)) (refused.Rule BadNumber) none.declines.reply (λ rule same. cc) is
  commit_fair session s (Wait ticks) acts asks p one some txn is = asks
  commit_fair session s (Report tree) acts asks p one some txn is = asks
  commit_fair session s Settle acts asks p one some txn is = asks
  commit_fair session s (Sweep t) acts asks p one some txn is = asks

  -- ---- a settling

  unsettled_not : (t : Trouble) → (let own : Result Reply WorldFault = Ok r in own ≡ unsettled_reply t) → r ≡ reply.Begun → ⊥
  unsettled_not trouble.Memory e is = absurd (cc)
  unsettled_not t e is = absurd (cc)

  settled_not : (a : Answer) → RepliesSettled a (Ok r) → r ≡ reply.Begun → ⊥
  settled_not (answer.Settled s) e is = absurd (cc)
  settled_not (answer.Trouble t) e is = unsettled_not t e is
  settled_not a never is = never

  settles_on_not : (begun : World) → SettlesOn settles (record { session = 0; event = n }) (span_of before after begun new) (Ok r) → r ≡ reply.Begun → ⊥
  settles_on_not begun (inl s) is = settled_not s.answer s.replies is
  settles_on_not begun (inr memory) is = absurd (no_memory r memory.0)

  settle_fair : (asked : Asked) → Asks event.Settle asked → Answers n asked (span_of before after old new) (Ok r) → r ≡ reply.Begun → ⊥
  settle_fair Settle asks (inl s) is = settles_on_not s.begun s.settles is
  settle_fair Settle asks (inr memory) is = absurd (no_memory r memory.0)
  settle_fair (Session k request) asks p is = absurd (cc)
  settle_fair (Wait ticks) asks p is = absurd (cc)
  settle_fair (Report tree) asks p is = absurd (cc)
  settle_fair (Sweep t) asks p is = absurd (cc)

  -- ---- every line

  pub handled_fair : (e : Event) (s : Standing) → ActsAs (session_at old.sessions 1) s → Handled n e (span_of before after old new) (Ok r) → IsFair e s.buffer r
  handled_fair (event.Open session client) s acts h = open_fair session client h.asked h.asks h.answers
  handled_fair (event.Insert session tree key payload attr) s acts h = insert_fair session tree key payload attr h.asked h.asks h.answers
  handled_fair (event.Commit session) s acts h = commit_fair session s h.asked acts h.asks h.answers
  handled_fair event.Settle s acts h = settle_fair h.asked h.asks h.answers
  handled_fair e s acts h = tt

-- One step of a session's commit, walks and writes.
use Rattle.std.proofs.Common.{◌≡◌, ◌≢◌, ◌≤◌, ◌⊎◌, inl, inr, ℕ, List, [], ◌∷◌, Option, Some, None, refl, sym, ap, subst, ◌∙◌}
use Rattle.std.specs.Prelude.{Bool, true, false, slice_get}
use Rattle.client_work.specs.Session.{committed_work}
use Rattle.client_work.specs.declared.answer.Answer.{Answer}
use Rattle.client_work.specs.declared.answer.Answer.TheVariants as answer
use Rattle.client_work.specs.declared.work.Work.{Work}
use Rattle.client_work.specs.declared.work.Work.TheVariants.{Committing, Broken}
use Rattle.cloud_facts.specs.Calls.Acting.{footing, exchange, actor, Setting, Outcome, Handles}
use Rattle.cloud_facts.specs.Words.{CommitAnswer, Entry, AtomicRec, Head, Answer as Reply, Turn, More, Ended, Stopped, CloudState, Caller, Seen, Claim, Ask, Get, GetHeld, PutHeld, Send, Receive, Delete, Take, Renew, Release, Next, Goes, Ends, Stops, Book, Store, store_of, IsCall}
use Rattle.cloud_facts.proofs.Calls.Calls.{call_of}
use Rattle.cloud_facts.proofs.Calls.Outcomes.{gives_up, weaker}
use Rattle.cloud_trait.specs.Ask.{ListHeld, RemoveHeld}
use Rattle.cloud_trait.specs.Weather.{Makes}
use Rattle.session_facts.specs.Machines.Commits.Knows.{KnowsEnd}
use Rattle.session_facts.specs.Machines.Commits.Audited.{noted_head as adds_head}
use Rattle.commit_run.specs.declared.hand.Hand.{Hand}
use Rattle.commit_run.specs.declared.hand.Hand.TheVariants.{Writes, First, Change}
use Rattle.commit_run.specs.Draft.{Draft}
use Rattle.commit_run.specs.Run.{Run, ask_at as run_ask_at, home_of, run_ask, run_next, run_opens, KeepsHome}
use Rattle.commit_run.specs.Sound.{IsSoundRun}
use Rattle.session_facts.specs.Machines.CommitRuns.Audited.{noted_in, run_note}
use Rattle.session_facts.specs.Machines.CommitRuns.Knows.{KnowsRun, KnowsRunNext}
use Rattle.session_facts.proofs.Machines.CommitRuns.Hands.{run_handles}
use Rattle.session_facts.proofs.Machines.CommitRuns.Leases.{RunLeaseStays, run_lease}
use Rattle.session_facts.proofs.Machines.CommitRuns.Outcome.{run_outcome}
use Rattle.commit_writes.specs.declared.stage.Stage.{Stage}
use Rattle.commit_writes.specs.declared.stage.Stage.TheVariants.{Waiting, Logging, Opening, Sending, Settling, Deleting, Finished}
use Rattle.commit_writes.specs.Writing.{Writing, send_ask, delete_ask, ask_at, opens_at}
use Rattle.db_base.specs.declared.names.ObjName.TheVariants as object
use Rattle.db_base.specs.declared.trouble.Trouble.TheVariants as trouble
use Rattle.db_base.specs.declared.trouble.CommitAnswer.TheVariants.{Committed, NotCommitted, InDoubt, CommittedOpen}
use Rattle.history.specs.Audited.{Audited}
use Rattle.cloud_facts.specs.Homes.Homes.{Part, Away, Parts}
use Rattle.page_cache.specs.Cache.{Cache}
use Rattle.recover_run.specs.declared.home.Home.{Home}
use Rattle.session_facts.specs.Sessions.Audited.{noted_head, noted_at}
use Rattle.session_facts.specs.Sessions.Knows.{leases_of, KnowsWork}
use Rattle.session_facts.specs.Sessions.Led.{LedCommit}
use Rattle.session_facts.proofs.Sessions.Kept.{KnowsBoth, kept_from}
use Rattle.session_facts.proofs.Sessions.Steps.Leases.{passage, IsStepOf}
use Rattle.session_facts.proofs.Sessions.Troubles.{memory_or}
use Rattle.txn_buffer.specs.Noted.{Noted}

-- ---- what the audit takes

head_noted : (client : ℕ) (o : Option Head) (changes : List Noted) (a : Audited) → noted_head client o (Some changes) a ≡ adds_head client o changes a
head_noted client (Some head) changes a = refl
head_noted client None changes a = refl

-- a commit puts no page
abbrev puts_page : Ask → Bool
puts_page (PutHeld (object.Page tree page) bytes one two) = true
puts_page ask = false

send_none : (w : Writing) (o : Option AtomicRec) → puts_page (send_ask w o) ≡ false
send_none w (Some r) = refl
send_none w None = refl

delete_none : (w : Writing) (o : Option ℕ) → puts_page (delete_ask w o) ≡ false
delete_none w (Some id) = refl
delete_none w None = refl

asks_none : (w : Writing) (stage : Stage) → puts_page (ask_at stage w) ≡ false
asks_none w Waiting = refl
asks_none w Logging = refl
asks_none w Opening = refl
asks_none w Sending = send_none w (slice_get w.records w.place)
asks_none w Settling = refl
asks_none w Deleting = delete_none w (slice_get w.ids w.place)
asks_none w Finished = refl

hands_none : (hand : Hand) (w : Writing) → puts_page (run_ask_at hand w) ≡ false
hands_none Writes w = asks_none w w.stage
hands_none (First walk) w = refl
hands_none (Change walk) w = refl

no_page : (r : Run) (tree page : ℕ) (bytes : List ℕ) (one : Claim) (two : Option Claim) → run_ask r ≡ PutHeld (object.Page tree page) bytes one two → ⊥
no_page r tree page bytes one two e = never (sym (ap puts_page e) ∙ hands_none r.hand r.draft.writes)
  where
    never : true ≡ false → ⊥
    never same = cc

-- while it walks nothing is opened
opens_noted : (client : ℕ) (hand : Hand) (d : Draft) (bytes : List ℕ) (one : Claim) (two : Option Claim) (a : Audited)
    → noted_head client (run_opens (record { draft = d; hand = hand })) (Some d.writes.changes) a ≡ noted_in hand d.writes (PutHeld (object.Head client) bytes one two) a
opens_noted client Writes d bytes one two a = head_noted client (opens_at d.writes.stage d.writes) d.writes.changes a
opens_noted client (First walk) d bytes one two a = refl
opens_noted client (Change walk) d bytes one two a = refl

tree_noted : (hand : Hand) (w : Writing) (tree : ℕ) (bytes : List ℕ) (one : Claim) (two : Option Claim) (a : Audited) → a ≡ noted_in hand w (PutHeld (object.Tree tree) bytes one two) a
tree_noted Writes w tree bytes one two a = refl
tree_noted (First walk) w tree bytes one two a = refl
tree_noted (Change walk) w tree bytes one two a = refl

-- an ask that is no put adds nothing
abbrev puts_none : Ask → Bool
puts_none (PutHeld name bytes one two) = false
puts_none ask = true

none_noted : (hand : Hand) (w : Writing) (ask : Ask) (a : Audited) → puts_none ask ≡ true → a ≡ noted_in hand w ask a
none_noted (First walk) w ask a e = refl
none_noted (Change walk) w ask a e = refl
none_noted Writes w (PutHeld name bytes one two) a e = absurd (cc)
none_noted Writes w (Get name) a e = refl
none_noted Writes w (GetHeld name l) a e = refl
none_noted Writes w (ListHeld tree l) a e = refl
none_noted Writes w (RemoveHeld name l) a e = refl
none_noted Writes w (Send queue bytes) a e = refl
none_noted Writes w (Receive queue most) a e = refl
none_noted Writes w (Delete queue id) a e = refl
none_noted Writes w (Take lock ticks) a e = refl
none_noted Writes w (Renew l ticks) a e = refl
none_noted Writes w (Release l) a e = refl

-- so all that it adds is at the put of a head
pub run_noted : (r : Run) (ask : Ask) (a : Audited) → run_ask r ≡ ask → noted_at (Committing r) ask a ≡ run_note r ask a
run_noted r (PutHeld (object.Head client) bytes one two) a is = opens_noted client r.hand r.draft bytes one two a
run_noted r (PutHeld (object.Page tree page) bytes one two) a is = absurd (no_page r tree page bytes one two is)
run_noted r (PutHeld (object.Tree tree) bytes one two) a is = tree_noted r.hand r.draft.writes tree bytes one two a
run_noted r (Get name) a is = none_noted r.hand r.draft.writes (Get name) a refl
run_noted r (GetHeld name l) a is = none_noted r.hand r.draft.writes (GetHeld name l) a refl
run_noted r (ListHeld tree l) a is = none_noted r.hand r.draft.writes (ListHeld tree l) a refl
run_noted r (RemoveHeld name l) a is = none_noted r.hand r.draft.writes (RemoveHeld name l) a refl
run_noted r (Send queue bytes) a is = none_noted r.hand r.draft.writes (Send queue bytes) a refl
run_noted r (Receive queue most) a is = none_noted r.hand r.draft.writes (Receive queue most) a refl
run_noted r (Delete queue id) a is = none_noted r.hand r.draft.writes (Delete queue id) a refl
run_noted r (Take lock ticks) a is = none_noted r.hand r.draft.writes (Take lock ticks) a refl
run_noted r (Renew l ticks) a is = none_noted r.hand r.draft.writes (Renew l ticks) a refl
run_noted r (Release l) a is = none_noted r.hand r.draft.writes (Release l) a refl

-- ---- where a step leads

-- what is in hand where a step leads, and the cache that is left there
abbrev pub LeadsTo : Next (Run × Cache) CommitAnswer → Cache → Work → Type 0
LeadsTo (Goes m) d work = (work ≡ Committing m.0) × (m.1 ≡ d)
LeadsTo (Ends m a) d work = (work ≡ committed_work a (home_of m.0)) × (m.1 ≡ d)
LeadsTo (Stops m t) d work = (work ≡ Broken (home_of m.0).lease) × (m.1 ≡ d)

end_known : (home : Home) (a : CommitAnswer) (c : Cache) (st : Store) (now : ℕ) (part : Part) → KnowsEnd st now home a part → KnowsWork st now c (committed_work a home) part
end_known home (Committed txn) c st now part k = k
end_known home (NotCommitted t) c st now part k = k
end_known home InDoubt c st now part k = k
end_known home (CommittedOpen t) c st now part k = k

next_known : (step : Next (Run × Cache) CommitAnswer) (d : Cache) (work : Work) → LeadsTo step d work → (st : Store) (now : ℕ) (part : Part) → KnowsRunNext step st now part
    → KnowsBoth d work st now part
next_known (Goes m) d work (is, same) st now part k =
    subst (λ (c : Cache). KnowsBoth c work st now part) same (subst (λ (w : Work). KnowsBoth m.1 w st now part) (sym is) (k, k.cache))
next_known (Ends m a) d work (is, same) st now part k =
    subst (λ (c : Cache). KnowsBoth c work st now part) same
    (subst (λ (w : Work). KnowsBoth m.1 w st now part) (sym is)
    (end_known (home_of m.0) a m.1 st now part k.0, kept_from st m.1 (committed_work a (home_of m.0)) k.1))
next_known (Stops m t) d work (is, same) st now part k = subst (λ (w : Work). KnowsBoth d w st now part) (sym is) (k.0, tt)

end_leases : (home : Home) (a : CommitAnswer) → leases_of (committed_work a home) ≡ home.lease ∷ []
end_leases home (Committed txn) = refl
end_leases home (NotCommitted t) = refl
end_leases home InDoubt = refl
end_leases home (CommittedOpen t) = refl

-- the home's lease is in hand still
pub next_leases : (l : Claim) (step : Next (Run × Cache) CommitAnswer) (d : Cache) (work : Work) → LeadsTo step d work → RunLeaseStays l step → leases_of work ≡ l ∷ []
next_leases l (Goes m) d work (is, same) stays = ap leases_of is ∙ ap (λ (x : Claim). x ∷ []) stays
next_leases l (Ends m a) d work (is, same) stays = ap leases_of is ∙ (end_leases (home_of m.0) a ∙ ap (λ (x : Claim). x ∷ []) stays)
next_leases l (Stops m t) d work (is, same) stays = ap leases_of is ∙ ap (λ (x : Claim). x ∷ []) stays

module _ (who : Caller) (before after : Seen) (book : Book) (order : List Entry) (s t : CloudState) (parts : Parts) (r : Run) (c d : Cache)
    (setting : s.now ≤ t.now → Setting (footing book order s) t.now (actor parts who.session ((home_of r).lease ∷ [])))
    (knows : s.now ≤ t.now → KnowsRun (store_of book order s) t.now (r, c) (parts who.session)) (sound : IsSoundRun r) (e : before.state ≡ Some s) (f : after.state ≡ Some t) where
  abbrev mine : List Claim
  mine = (home_of r).lease ∷ []

  abbrev note : Audited → Audited
  note = run_note r (run_ask r)

  abbrev Stepped : Work → Type 0
  Stepped work = IsStepOf (footing book order s) t parts (run_ask r) note (passage who (Committing r) work d)

  module _ (reply : Reply) (made : Makes who (run_ask r) reply before after) where
    call : IsCall who (run_ask r) reply s t
    call = call_of who (run_ask r) reply before after s t made e f

    outcome : Outcome (footing book order s) t (actor parts who.session mine) (run_ask r) note (KnowsRunNext (run_next (r, c) reply))
    outcome = run_outcome who book order s t parts (r, c) reply (parts who.session) (setting call.later) refl (knows call.later) sound call

    handles : Handles (exchange who s t (run_ask r) reply) mine mine
    handles = run_handles who s t (r, c) reply (store_of book order s) t.now (parts who.session) (knows call.later) sound

    by_next : (step : Next (Run × Cache) CommitAnswer) → run_next (r, c) reply ≡ step → (work : Work) → LeadsTo step d work → Stepped work
    by_next step is work leads = record {
      reply = reply;
      call = call;
      handles = subst (Handles (exchange who s t (run_ask r) reply) mine)
          (sym (next_leases (home_of r).lease step d work leads (subst (RunLeaseStays (home_of r).lease) is (run_lease (r, c) reply)))) handles;
      outcome = weaker who book order s t parts mine (run_ask r) note (KnowsRunNext (run_next (r, c) reply)) (KnowsBoth d work)
          (λ st now part k. next_known step d work leads st now part (subst (λ n. KnowsRunNext n st now part) is k)) outcome;
    }

    -- memory ran out: the lease alone is left
    by_memory : (m : Run) → KeepsHome (r, c) reply (m, d) → (work : Work) → work ≡ Broken (home_of m).lease → Stepped work
    by_memory m keeps work is = subst Stepped (sym (is ∙ ap (λ (h : Home). Broken h.lease) keeps)) (record {
      reply = reply;
      call = call;
      handles = handles;
      outcome = weaker who book order s t parts mine (run_ask r) note (λ su now part. part ≡ Away) (KnowsBoth d (Broken (home_of r).lease)) (λ su now part away. (away, tt))
          (gives_up who book order s t parts mine (run_ask r) note (KnowsRunNext (run_next (r, c) reply)) outcome);
    })

    pub commit_step : (work : Work) (turn : Turn Answer) → LedCommit (r, c) reply (work, d) turn → Stepped work
    commit_step work More (m, led, is) = by_next (Goes (m, d)) led work (is, refl)
    commit_step work (Ended (answer.Commit a)) (m, led, is) = by_next (Ends (m, d) a) led work (is, refl)
    commit_step work (Ended (answer.Trouble k)) (m, led, is) = on (memory_or k)
      where
        on : (k ≡ trouble.Memory) ⊎ (k ≢ trouble.Memory) → Stepped work
        on (inl memory) = by_memory m (led.1 memory) work is
        on (inr other) = by_next (Stops (m, d) k) (led.0 other) work (is, refl)
    commit_step work (Stopped k) never = absurd never
    commit_step work (Ended answer.Closed) never = absurd never
    commit_step work (Ended (answer.Renewed end)) never = absurd never
    commit_step work (Ended (answer.Opened epoch)) never = absurd never
    commit_step work (Ended (answer.Done n)) never = absurd never
    commit_step work (Ended answer.Value) never = absurd never
    commit_step work (Ended answer.Scan) never = absurd never
    commit_step work (Ended (answer.Settled n)) never = absurd never
    commit_step work (Ended (answer.Swept x)) never = absurd never

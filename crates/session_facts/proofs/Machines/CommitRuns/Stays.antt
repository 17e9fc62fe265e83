-- A commit, walks and writes, goes on with the same changes of the same client, or ends for it.
use Rattle.std.proofs.Common.{◌≡◌, ℕ, List, refl, sym, subst, ◌∙◌, inl, inr, Bool, true, false}
use Rattle.cloud_facts.specs.Words.{Trouble, CommitAnswer, Answer, Next, Goes, Ends, Stops}
use Rattle.commit_run.specs.declared.hand.Hand.{Hand}
use Rattle.commit_run.specs.declared.hand.Hand.TheVariants.{Writes, First, Change}
use Rattle.commit_run.specs.Draft.{Draft}
use Rattle.commit_run.specs.Run.{Run, new_run, home_of, wrote, walked, run_ready, next_at, run_next}
use Rattle.commit_writes.proofs.Outcomes.{begins}
use Rattle.commit_writes.specs.Writing.{Writing, begun, writing_next}
use Rattle.commit_run.proofs.Outcomes as step
use Rattle.commit_run.proofs.Outcomes.{NextRun, Leads, BeginsWith, records_of, taken, walked_leads, ready_leads}
use Rattle.db_base.specs.declared.trouble.Trouble.TheVariants as trouble
use Rattle.db_base.specs.declared.trouble.Counter.TheVariants as counter
use Rattle.db_base.specs.declared.trouble.CommitAnswer.TheVariants.{NotCommitted}
use Rattle.page_cache.specs.Cache.{Cache}
use Rattle.recover_run.specs.declared.home.Home.{Home}
use Rattle.session_facts.proofs.Machines.Commits.Routes.{count_is}
use Rattle.tree_walk.specs.Walk.{Walk}
use Rattle.txn_buffer.specs.Noted.{Noted}
use Rattle.session_facts.specs.Lines.Running.{IsRunning}
use Rattle.session_facts.proofs.Machines.Commits.Stays.{WritesFor, logs_for, writes_on}

-- where a turn leads it goes on with these changes of this client, or ends for it with such an answer; it stops for want of memory alone
abbrev pub RunsFor : (CommitAnswer → Type 0) → List Noted → ℕ → Next (Run × Cache) CommitAnswer → Type 0
RunsFor May changes client (Goes m) = (m.0.draft.writes.changes ≡ changes) × ((home_of m.0).client ≡ client) × IsRunning m.0
RunsFor May changes client (Ends m a) = ((home_of m.0).client ≡ client) × May a
RunsFor May changes client (Stops m t) = t ≡ trouble.Memory

-- nothing was committed
abbrev pub IsRefusal : CommitAnswer → Type 0
IsRefusal a = (t : Trouble) × (a ≡ NotCommitted t)

abbrev pub AnyAnswer : CommitAnswer → Type 0
AnyAnswer a = Unit {0}

any : (changes : List Noted) (client : ℕ) (next : Next (Run × Cache) CommitAnswer) → RunsFor IsRefusal changes client next → RunsFor AnyAnswer changes client next
any changes client (Goes m) k = k
any changes client (Ends m a) k = (k.0, tt)
any changes client (Stops m t) k = k

module _ (changes : List Noted) (client : ℕ) where
  -- the writes are of these changes and this client
  pub record IsFor (w : Writing) : Type 0 where
    pub changes_are : w.changes ≡ changes
    pub client_is : w.home.client ≡ client

  abbrev Refuses : Next (Run × Cache) CommitAnswer → Type 0
  Refuses = RunsFor IsRefusal changes client

  leads : (w : Writing) (x : NextRun) → IsFor w → Leads w x → Refuses x
  leads w x f (step.walks true e v k kept) = (kept.changes ∙ f.changes_are, kept.client ∙ f.client_is, tt)
  leads w x f (step.walks false e v k kept) = (kept.changes ∙ f.changes_are, kept.client ∙ f.client_is, tt)
  leads w x f (step.writes e k v kept paged starts) =
      let as_many = count_is e.writes.home.client e.writes.home.head.epoch e.writes.home.attempt e.writes.home.head e.writes.changes e.plan.pages paged in
      let so : WritesFor e.writes.changes e.writes.home.client (Goes v) =
      subst (WritesFor e.writes.changes e.writes.home.client) starts
      (logs_for (record e.writes { records = records_of e; place = 0 }) (begun e.writes (records_of e)) as_many (begins e.writes (records_of e))) in
      (so.0 ∙ (kept.changes ∙ f.changes_are), so.1 ∙ (kept.client ∙ f.client_is), so.2)
  leads w x f (step.refuses e k t kept other) = (kept.client ∙ f.client_is, (t, refl))
  leads w x f (step.lacks e k kept) = refl

  pub turns : (first : Bool) (d : Draft) (w : Walk) (c : Cache) (a : Answer) → IsFor d.writes → Refuses (walked first d w c a)
  turns first d w c a f = leads d.writes (walked first d w c a) f (walked_leads d first w c a)

  -- after a write
  writes : (d : Draft) (c : Cache) (n : Next Writing CommitAnswer) → WritesFor changes client n → RunsFor AnyAnswer changes client (wrote d c n)
  writes d c (Goes w) k = k
  writes d c (Ends w a) k = (k, tt)
  writes d c (Stops w t) k = k

pub run_begins : (home : Home) (changes : List Noted) (c : Cache) → RunsFor IsRefusal changes home.client (run_ready (new_run home changes, c))
run_begins home changes c = on (ready_leads home changes c) where
  on : BeginsWith home changes c (run_ready (new_run home changes, c)) → RunsFor IsRefusal changes home.client (run_ready (new_run home changes, c))
  on (inl spent) = subst (RunsFor IsRefusal changes home.client) (sym spent.1) (refl, (trouble.Exhausted counter.Txn, refl))
  on (inr so) = leads changes home.client (taken home changes).writes (run_ready (new_run home changes, c)) (record { changes_are = refl; client_is = refl }) so.1

pub runs_on : (m : Run × Cache) (a : Answer) → IsRunning m.0 → RunsFor AnyAnswer m.0.draft.writes.changes (home_of m.0).client (run_next m a)
runs_on m a is = on m.0.hand is
  where
    changes : List Noted
    changes = m.0.draft.writes.changes

    client : ℕ
    client = (home_of m.0).client

    same : IsFor changes client m.0.draft.writes
    same = record { changes_are = refl; client_is = refl }

    on : (hand : Hand) → IsRunning (record { draft = m.0.draft; hand = hand }) → RunsFor AnyAnswer changes client (next_at hand m.0.draft m.1 a)
    on Writes at = writes changes client m.0.draft m.1 (writing_next m.0.draft.writes a) (writes_on m.0.draft.writes a at)
    on (First w) at = any changes client _ (turns changes client true m.0.draft w m.1 a same)
    on (Change w) at = any changes client _ (turns changes client false m.0.draft w m.1 a same)

-- An opening or a recovery that waits for records under a lease that is over gives this lease back next.
use Rattle.std.proofs.Common.{◌≡◌, ℕ, zero, suc, List, [], ◌∷◌, ◌++◌, Option, Some, None, Err, refl, sym, ap, subst, ◌∙◌}
use Rattle.std.specs.Prelude.{slice_get}
use Rattle.cloud_facts.proofs.Book.Places.{in_none}
use Rattle.cloud_facts.specs.Words.{Trouble, Lock, Answer, Claim, Ask, GetHeld, PutHeld, Release, Goes, Ends, Stops, given_of, Store, IsIn}
use Rattle.cloud_facts.specs.Calls.Acting.{of_option}
use Rattle.cloud_facts.specs.Homes.Homes.{Part}
use Rattle.cloud_trait.specs.declared.answer.Answer.TheVariants.{Got, Sent, Received, Listed, Done, Given, Held, Renewed, Late, Failed, Memory}
use Rattle.cloud_trait.specs.Claim.{IsOver}
use Rattle.db_base.specs.declared.names.Lock.TheVariants as lock
use Rattle.db_base.specs.declared.names.ObjName.TheVariants as object
use Rattle.db_base.specs.declared.trouble.Trouble.TheVariants as trouble
use Rattle.recover_run.specs.declared.items.AtomicItem.{AtomicItem}
use Rattle.recover_run.specs.declared.stage.Stage.{Stage}
use Rattle.recover_run.specs.declared.stage.Stage.TheVariants.{ReleasingOld, Taking, Getting, Receiving, Deleting, Sending, Putting, Clearing, Sweeping, Releasing, Finished}
use Rattle.recover_run.specs.Recovery.{Recovery, Step, recovery_ask, recovery_next, ask_at, under, delete_next, send_next}
use Rattle.session_facts.specs.Machines.Openings.Knows.{leases_of_recovery, HasLease, MayEnd, KnowsOpeningAt, KnowsOpening}
use Rattle.session_facts.specs.Sessions.Explains.{trouble_at, trouble_of_ending, trouble_of_recovery, MeetsNext, HasOver, ReceivesLate}
use Rattle.recover_run.proofs.Turns.{Turns, turns_to}
use Rattle.recover_run.proofs.Turns as turn
use Rattle.std.proofs.lemmas.Option.{none-some}

-- no records are waited for
abbrev IsNoWait : Trouble → Type 0
IsNoWait (trouble.Waiting have need) = ⊥
IsNoWait t = Unit {0}

given_waits : (lock : Lock) (a : Answer) (q : Trouble) → given_of lock a ≡ Err q → IsNoWait q
given_waits lock (Given l) q e = absurd (cc)
given_waits lock (Held until) q e = let same : trouble.Busy lock until ≡ q = cc in subst IsNoWait same tt
given_waits lock (Late end now) q e = let same : trouble.Late end now ≡ q = cc in subst IsNoWait same tt
given_waits lock Memory q e = let same : trouble.Memory ≡ q = cc in subst IsNoWait same tt
given_waits lock Failed q e = let same : trouble.Failed ≡ q = cc in subst IsNoWait same tt
given_waits lock (Got v) q e = let same : trouble.Failed ≡ q = cc in subst IsNoWait same tt
given_waits lock (Sent id) q e = let same : trouble.Failed ≡ q = cc in subst IsNoWait same tt
given_waits lock (Received ms) q e = let same : trouble.Failed ≡ q = cc in subst IsNoWait same tt
given_waits lock (Listed pages) q e = let same : trouble.Failed ≡ q = cc in subst IsNoWait same tt
given_waits lock Done q e = let same : trouble.Failed ≡ q = cc in subst IsNoWait same tt
given_waits lock (Renewed end) q e = let same : trouble.Failed ≡ q = cc in subst IsNoWait same tt

-- ---- a trouble that is kept leaves the lease as it is

-- a step that keeps a trouble has this lease, and one that stops waits for nothing
abbrev KeepsLease : Option Claim → Step → Type 0
KeepsLease o (Goes n) = (k : Trouble) → trouble_of_recovery n ≡ Some k → n.lease ≡ o
KeepsLease o (Ends n a) = Unit {0}
KeepsLease o (Stops n q) = IsNoWait q

keeps : (st : Store) (now : ℕ) (part : Part) {r : Recovery} {a : Answer} {next : Step} → Turns r a next → KnowsOpeningAt r.stage st now r part → trouble_of_recovery r ≡ None
    → KeepsLease r.lease next
keeps st now part (turn.gives_old r a) k none = λ t e. absurd (none-some t e)
keeps st now part (turn.takes r l) k none = λ t e. absurd (none-some t e)
keeps st now part (turn.refused r a t e) k none = given_waits (lock.Client r.client) a t e
keeps st now part (turn.works n w goes) k none = λ t e. w.lease
keeps st now part (turn.halts q ending w may) k none = λ t e. w.lease
keeps st now part (turn.stopped r a t e) k none = absurd (none-some t (sym none ∙ ap trouble_of_ending e))
keeps st now part (turn.astray r a e) k none = absurd (subst MayEnd e k.2)
keeps st now part (turn.nothing r a) k none = absurd k
keeps st now part c k none = tt

-- ---- a call

module _ (st : Store) (now : ℕ) (r : Recovery) (part : Part) (reply : Answer) (knows : KnowsOpening st now r part) where
  -- the lease in hand at a receive is the client's
  abbrev IsLateOne : Type 0
  IsLateOne = (l : Claim) × (r.lease ≡ Some l) × IsOver now l

  abbrev Receives : Ask → Type 0
  Receives ask = ReceivesLate ask (leases_of_recovery r) now

  under_none : (o : Option Claim) (make : Claim → Ask) → ((l : Claim) → Receives (make l) → ⊥) → Receives (under r o make) → ⊥
  under_none (Some l) make quiet late = quiet l late
  under_none None make quiet late = late

  deletes_none : (ids : List ℕ) → Receives (delete_next r ids) → ⊥
  deletes_none [] late = late
  deletes_none (id ∷ ids) late = late

  sends_none : (x : Option AtomicItem) → Receives (send_next r x) → ⊥
  sends_none (Some x) late = late
  sends_none None late = late

  held_over : (has : HasLease r.client r.former r.lease) → HasOver (leases_of_recovery r) now → IsLateOne
  held_over has (l, in_hand, over) = (l, has.is ∙ ap (λ (x : Claim). Some x) (sym (one (subst (λ (cs : List Claim). IsIn cs l) alone in_hand))), over)
    where
      alone : leases_of_recovery r ≡ has.now ∷ []
      alone = ap (λ (o : Option Claim). of_option o ++ of_option r.lease) has.none ∙ ap (λ (o : Option Claim). of_option o) has.is

      one : IsIn (has.now ∷ []) l → l ≡ has.now
      one (zero, there) = cc
      one (suc place, there) = absurd (in_none [] l refl (place, there))

  late_one : Receives (recovery_ask r) → IsLateOne
  late_one late = on r.stage knows.at late
    where
      on : (stage : Stage) → KnowsOpeningAt stage st now r part → Receives (ask_at stage r) → IsLateOne
      on ReleasingOld a late = absurd (under_none r.former Release (λ l is. is) late)
      on Taking a late = absurd late
      on Getting a late = absurd (under_none r.lease (λ l. GetHeld (object.Head r.client) l) (λ l is. is) late)
      on Receiving a late = held_over a.0.read.held late
      on Deleting a late = absurd (deletes_none r.ids late)
      on Sending a late = absurd (sends_none (slice_get r.gathered.kept r.sent) late)
      on Putting a late = absurd (under_none r.lease (λ l. PutHeld (object.Head r.client) r.out l None) (λ l is. is) late)
      on Clearing a late = absurd (deletes_none r.ids late)
      on Sweeping a late = held_over a.held late
      on Releasing a late = absurd (under_none r.lease Release (λ l is. is) late)
      on Finished a late = absurd a

  -- behind the step it is about to give back a lease that is over
  abbrev pub GivesLateBack : Step → Type 0
  GivesLateBack (Goes n) = (l : Claim) × (recovery_ask n ≡ Release l) × IsOver now l
  GivesLateBack (Ends n a) = ⊥
  GivesLateBack (Stops n q) = ⊥

  pub recovery_late : trouble_of_recovery r ≡ None → (next : Step) → recovery_next r reply ≡ next → (have need : ℕ)
      → MeetsNext trouble_of_recovery next (trouble.Waiting have need) → ReceivesLate (recovery_ask r) (leases_of_recovery r) now → GivesLateBack next
  recovery_late none next e have need meets late = on next (keeps st now part (turns_to r reply next e) knows.at none) meets
    where
      gives : (n : Recovery) (l : Claim) → n.lease ≡ Some l → (stage : Stage) → trouble_at stage n.ending ≡ Some (trouble.Waiting have need) → ask_at stage n ≡ Release l
      gives n l held Releasing kept = ap (λ (o : Option Claim). under n o Release) held
      gives n l held stage kept = absurd (none-some _ kept)

      on : (n : Step) → KeepsLease r.lease n → MeetsNext trouble_of_recovery n (trouble.Waiting have need) → GivesLateBack n
      on (Goes n) keeps kept =
          let one = late_one late in
          (one.0, gives n one.0 (keeps (trouble.Waiting have need) kept ∙ one.1) n.stage kept, one.2)
      on (Ends n a) keeps is = absurd is
      on (Stops n q) keeps is = absurd (subst IsNoWait is keeps)

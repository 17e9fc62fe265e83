-- The leases of a client's recovery, and of its opening: the one that it took and did not give back; it takes none while it has one.
use Rattle.std.proofs.Common.{◌≡◌, ◌≤◌, ℕ, List, [], ◌∷◌, ◌++◌, length, Option, Some, None, refl, sym, ap, subst, ◌∙◌, arith}
use Rattle.std.specs.Prelude.{slice_get}
use Rattle.ckpt_parts.specs.Leasing.{outstanding_after}
use Rattle.cloud_facts.specs.Words.{Answer, Claim, Ask, GetHeld, PutHeld, Release, Goes, Ends, Stops, Store}
use Rattle.cloud_facts.specs.Calls.Acting.{of_option}
use Rattle.cloud_facts.specs.Homes.Homes.{Part}
use Rattle.cloud_trait.specs.Ask.{MovesNoLock}
use Rattle.db_base.specs.declared.names.Lock.TheVariants as lock
use Rattle.db_base.specs.declared.names.ObjName.TheVariants as object
use Rattle.recover_run.specs.declared.items.AtomicItem.{AtomicItem}
use Rattle.recover_run.specs.declared.stage.Aim.TheVariants as aim
use Rattle.recover_run.specs.declared.stage.Stage.{Stage}
use Rattle.recover_run.specs.declared.stage.Stage.TheVariants.{ReleasingOld, Taking, Getting, Receiving, Deleting, Sending, Putting, Clearing, Sweeping, Releasing, Finished}
use Rattle.recover_run.specs.Recovery.{Recovery, Step, ask_at, recovery_ask, under, delete_next, send_next, recovery_next, home_with, IsSoundAt, IsSound, SendsRecord}
use Rattle.session_facts.specs.Machines.Openings.Knows.{leases_of_recovery, leases_of_end, leases_of_next, HasFormer, HasLease, KnowsOpeningAt, KnowsOpening}
use Rattle.session_facts.specs.Settling.Locks.{HasNone, UsesOwn}
use Rattle.recover_run.proofs.Turns.{AtWork, Works, Turns, turns_to}
use Rattle.recover_run.proofs.Turns as turn
use Rattle.session_facts.proofs.Machines.Settlings.Recoveries.{KeepsClient, recovery_keeps}
use Rattle.session_facts.proofs.Settling.Locks.{HoldsNext, not_given, quiet_after, quiet_uses, none_of}

-- ---- leases that are taken or given back

abbrev in_hand : Option Claim → Option Claim → List Claim
in_hand former lease = of_option former ++ of_option lease

-- the old lease is given back
old_uses : (r : Recovery) (former lease : Option Claim) → HasFormer former lease → UsesOwn (under r former Release) (in_hand former lease)
old_uses r (Some l) None has = refl
old_uses r (Some l) (Some m) has = absurd (let none : Some m ≡ None = has.none in cc (none))
old_uses r None lease has = absurd (let some : None ≡ Some has.old = has.is in cc (some))

old_gone : (r : Recovery) (a : Answer) (former lease : Option Claim) → HasFormer former lease → of_option lease ≡ outstanding_after (under r former Release) a (in_hand former lease)
old_gone r a (Some l) None has = refl
old_gone r a (Some l) (Some m) has = absurd (let none : Some m ≡ None = has.none in cc (none))
old_gone r a None lease has = absurd (let some : None ≡ Some has.old = has.is in cc (some))

-- none is in hand
no_lease : (r : Recovery) → r.former ≡ None → r.lease ≡ None → leases_of_recovery r ≡ []
no_lease r old none = ap (λ (o : Option Claim). in_hand o r.lease) old ∙ ap (λ (o : Option Claim). of_option o) none

-- an opening keeps its client's lease
home_leases : (r : Recovery) (o : Option Claim) → leases_of_end (home_with r o) ≡ of_option o
home_leases r (Some l) = refl
home_leases r None = refl

-- ---- by the stage

module _ (st : Store) (now : ℕ) (part : Part) where
  -- while it is at work the client's lease alone is in hand
  alone_at : (stage : Stage) (r : Recovery) → AtWork stage → KnowsOpeningAt stage st now r part → HasLease r.client r.former r.lease
  alone_at Getting r work k = k.0
  alone_at Receiving r work k = k.0.read.held
  alone_at Deleting r work k = k.0.read.held
  alone_at Sending r work k = k.read.held
  alone_at Putting r work k = k.read.held
  alone_at Clearing r work k = k.0.held
  alone_at Sweeping r work k = k.held
  alone_at ReleasingOld r work k = absurd work
  alone_at Taking r work k = absurd work
  alone_at Releasing r work k = absurd work
  alone_at Finished r work k = absurd work

  alone_is : (r : Recovery) → (has : HasLease r.client r.former r.lease) → leases_of_recovery r ≡ has.now ∷ []
  alone_is r has = ap (λ (o : Option Claim). in_hand o r.lease) has.none ∙ ap (λ (o : Option Claim). of_option o) has.is

  -- and its calls move no lock
  under_quiet : (r : Recovery) (make : Claim → Ask) → ((l : Claim) → MovesNoLock (make l)) → HasLease r.client r.former r.lease → MovesNoLock (under r r.lease make)
  under_quiet r make quiet has = subst (λ (o : Option Claim). MovesNoLock (under r o make)) (sym has.is) (quiet has.now)

  delete_quiet : (r : Recovery) (ids : List ℕ) → 1 ≤ length ids → MovesNoLock (delete_next r ids)
  delete_quiet r [] some = absurd (omega (arith, some))
  delete_quiet r (id ∷ ids) some = tt

  send_quiet : (r : Recovery) (o : Option AtomicItem) → SendsRecord r o → MovesNoLock (send_next r o)
  send_quiet r (Some x) sends = tt
  send_quiet r None never = absurd never

  quiet_at : (stage : Stage) (r : Recovery) → AtWork stage → KnowsOpeningAt stage st now r part → IsSoundAt stage r → MovesNoLock (ask_at stage r)
  quiet_at Getting r work k sound = under_quiet r (λ l. GetHeld (object.Head r.client) l) (λ l. tt) k.0
  quiet_at Receiving r work k sound = tt
  quiet_at Deleting r work k sound = delete_quiet r r.ids sound.1
  quiet_at Sending r work k sound = send_quiet r (slice_get r.gathered.kept r.sent) sound.1
  quiet_at Putting r work k sound = under_quiet r (λ l. PutHeld (object.Head r.client) r.out l None) (λ l. tt) k.read.held
  quiet_at Clearing r work k sound = delete_quiet r r.ids sound.1
  quiet_at Sweeping r work k sound = tt
  quiet_at ReleasingOld r work k sound = absurd work
  quiet_at Taking r work k sound = absurd work
  quiet_at Releasing r work k sound = absurd work
  quiet_at Finished r work k sound = absurd work

  release_is : (r : Recovery) → (has : HasLease r.client r.former r.lease) → under r r.lease Release ≡ Release has.now
  release_is r has = ap (λ (o : Option Claim). under r o Release) has.is

  uses_at : (stage : Stage) (r : Recovery) → KnowsOpeningAt stage st now r part → IsSoundAt stage r → UsesOwn (ask_at stage r) (leases_of_recovery r)
  uses_at ReleasingOld r k sound = old_uses r r.former r.lease k.0
  uses_at Taking r k sound = subst (λ (cs : List Claim). HasNone cs (lock.Client r.client)) (sym (no_lease r k.0 k.1)) (none_of (lock.Client r.client))
  uses_at Releasing r k sound =
      subst (λ (cs : List Claim). UsesOwn (under r r.lease Release) cs) (sym (alone_is r k.0))
      (subst (λ (ask : Ask). UsesOwn ask (k.0.now ∷ [])) (sym (release_is r k.0)) refl)
  uses_at Finished r k sound = absurd k
  uses_at stage r k sound = quiet_uses (ask_at stage r) (leases_of_recovery r) (quiet_at stage r tt k sound)

  -- the client's lease is given back
  gone : (r : Recovery) (a : Answer) → (has : HasLease r.client r.former r.lease) → outstanding_after (under r r.lease Release) a (leases_of_recovery r) ≡ []
  gone r a has =
      ap (λ (cs : List Claim). outstanding_after (under r r.lease Release) a cs) (alone_is r has)
      ∙ ap (λ (ask : Ask). outstanding_after ask a (has.now ∷ [])) (release_is r has)

  -- a call that moves no lock leaves the leases as they are
  still : (r : Recovery) (a : Answer) → AtWork r.stage → KnowsOpeningAt r.stage st now r part → IsSoundAt r.stage r
      → leases_of_recovery r ≡ outstanding_after (recovery_ask r) a (leases_of_recovery r)
  still r a work k sound = sym (quiet_after (recovery_ask r) a (leases_of_recovery r) (quiet_at r.stage r work k sound))

  works_same : (r q : Recovery) → Works r q → leases_of_recovery q ≡ leases_of_recovery r
  works_same r q w = ap (λ (o : Option Claim). of_option o ++ of_option q.lease) w.former ∙ ap (λ (o : Option Claim). of_option r.former ++ of_option o) w.lease

  leaves : {r : Recovery} {a : Answer} {next : Step} → Turns r a next → KnowsOpeningAt r.stage st now r part → IsSoundAt r.stage r
      → leases_of_next next ≡ outstanding_after (recovery_ask r) a (leases_of_recovery r)
  leaves {r = r} {a = a} (turn.gives_old m b) k sound = old_gone r a r.former r.lease k.0
  leaves {r = r} (turn.takes m l) k sound = ap (λ (o : Option Claim). of_option o ++ l ∷ []) k.0 ∙ sym (ap (λ (cs : List Claim). l ∷ cs) (no_lease r k.0 k.1))
  leaves {r = r} {a = a} (turn.refused m b t e) k sound = sym (not_given (lock.Client r.client) 600 a (leases_of_recovery r) t e ∙ no_lease r k.0 k.1)
  leaves {r = r} {a = a} (turn.works n w goes) k sound = works_same r n w ∙ still r a w.at_work k sound
  leaves {r = r} {a = a} (turn.halts q ending w may) k sound = works_same r q w ∙ still r a w.at_work k sound
  leaves {r = r} {a = a} (turn.opens q epoch w is) k sound =
      home_leases (record q { stage = Finished }) q.lease
      ∙ (ap (λ (o : Option Claim). of_option o) w.lease
      ∙ (sym (ap (λ (o : Option Claim). in_hand o r.lease) (alone_at r.stage r w.at_work k).none)
      ∙ still r a w.at_work k sound))
  leaves (turn.nothing r a) k sound = absurd k
  leaves {r = r} {a = a} c k sound = sym (gone r a k.0)

pub recovery_uses : (st : Store) (now : ℕ) (r : Recovery) (part : Part) → KnowsOpening st now r part → IsSound r → UsesOwn (recovery_ask r) (leases_of_recovery r)
recovery_uses st now r part k sound = uses_at st now part r.stage r k.at sound

-- whatever its aim, these are in hand where an answer leads
pub recovery_leaves : (st : Store) (now : ℕ) (r : Recovery) (part : Part) → KnowsOpening st now r part → IsSound r → (a : Answer) (next : Step) → recovery_next r a ≡ next
    → leases_of_next next ≡ outstanding_after (recovery_ask r) a (leases_of_recovery r)
recovery_leaves st now r part k sound a next e = leaves st now part (turns_to r a next e) k.at sound

-- a settling ends with none
holds_next : (r : Recovery) (held : List Claim) (next : Step) → r.aim ≡ aim.Settling → KeepsClient r next → leases_of_next next ≡ held → HoldsNext leases_of_recovery held next
holds_next r held (Goes n) settles keeps is = is
holds_next r held (Ends n a) settles keeps is = sym is ∙ ap leases_of_end (keeps settles)
holds_next r held (Stops n t) settles keeps is = sym is

pub recovery_holds : (st : Store) (now : ℕ) (r : Recovery) (part : Part) → r.aim ≡ aim.Settling → KnowsOpening st now r part → IsSound r
    → (a : Answer) (next : Step) → recovery_next r a ≡ next
    → HoldsNext leases_of_recovery (outstanding_after (recovery_ask r) a (leases_of_recovery r)) next
recovery_holds st now r part settles k sound a next e =
    holds_next r (outstanding_after (recovery_ask r) a (leases_of_recovery r)) next settles (subst (KeepsClient r) e (recovery_keeps r a)) (recovery_leaves st now r part k sound a next e)

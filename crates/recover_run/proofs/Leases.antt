-- The leases that a recovery holds are those that it was handed and took and has not given back, and its calls name those alone.
use Rattle.std.proofs.Common.{◌≡◌, ◌≢◌, ◌≤◌, ℕ, List, [], ◌∷◌, length, Option, Some, None, Result, Ok, Err, inl, inr, refl, ap, sym, subst, ◌∙◌, arith}
use Rattle.std.specs.Prelude.{slice_get}
use Rattle.db_base.specs.declared.names.Lock.{Lock}
use Rattle.db_base.specs.declared.names.Lock.TheVariants as lock
use Rattle.db_base.specs.declared.names.ObjName.TheVariants as object
use Rattle.db_base.specs.declared.names.QueueName.TheVariants as queue
use Rattle.cloud_trait.specs.declared.answer.Answer.TheVariants as call
use Rattle.cloud_trait.specs.Seen.{Seen}
use Rattle.recover_run.specs.Meaning.{HandsNone}
use Rattle.recover_run.specs.Recovery.{new_recovery, ask_at, under, delete_next, send_next, home_at, home_of}
use Rattle.recover_run.specs.Leases.{leases_of, outstanding_after, outstanding, IsClients, Names, Leaves, GivesBack, LeavesOf, AreReturned}
use Rattle.recover_run.proofs.Knows.{KnowsAt}
use Rattle.recover_run.proofs.Meaning.{came_known}
use Rattle.recover_run.proofs.Outcomes.{at}
use Rattle.recover_run.proofs.Turns.{AtWork, Works, MayHalt, Turns, turns_to}
use Rattle.recover_run.proofs.Turns as step
use Rattle.recover_run.proofs.Words.{Trouble, Answer, Turn, More, Ended, Stopped, Ask, GetHeld, PutHeld, Take, Release, Claim, Goes, Ends, Stops, LeadsBy, Took, Deed, calls_of, given_of, Fits, AtomicItem, Aim, Opening, Settling, Stage, ReleasingOld, Taking, Getting, Receiving, Deleting, Sending, Putting, Clearing, Sweeping, Releasing, Finished, RecoverAnswer, Opened, Nothing, Recovery, Step, recovery_ask, recovery_next, KeepsLeases, Went}

-- ---- what is held at a stage

-- the client's lease is held, and no other
pub record HoldsClient (client : ℕ) (aim : Aim) (old : Option Claim) (h : List Deed) (own : ℕ) (aims : Aim) (former held : Option Claim) : Type 0 where
  pub client_is : own ≡ client
  pub aim_is : aims ≡ aim
  pub former_is : former ≡ None
  pub lease : Claim
  pub lease_is : held ≡ Some lease
  pub clients : IsClients client old h lease

abbrev pub Has : ℕ → Aim → Option Claim → List Deed → Recovery → Type 0
Has client aim old h r = HoldsClient client aim old h r.client r.aim r.former r.lease

-- a settling alone gives the lease back before Opened
abbrev pub EndsSo : Option (Result RecoverAnswer Trouble) → Aim → Type 0
EndsSo (Some (Ok (Opened epoch))) aim = aim ≡ Settling
EndsSo (Some (Ok Nothing)) aim = Unit {0}
EndsSo (Some (Err t)) aim = Unit {0}
EndsSo None aim = ⊥

-- the client's lease was not taken yet, and the one that was handed in is held or was not
pub record IsAtBegin (client : ℕ) (aim : Aim) (former : Option Claim) (r : Recovery) : Type 0 where
  pub client_is : r.client ≡ client
  pub aim_is : r.aim ≡ aim
  pub former_is : r.former ≡ former
  pub lease_is : r.lease ≡ None
  pub ending_is : r.ending ≡ None

abbrev pub StandsAt : Stage → ℕ → Aim → Option Claim → List Deed → Recovery → Type 0
StandsAt ReleasingOld client aim old h r = (l : Claim) × IsAtBegin client aim (Some l) r × (h ≡ []) × (old ≡ Some l)
StandsAt Taking client aim old h r = IsAtBegin client aim None r × (outstanding old h ≡ [])
StandsAt Releasing client aim old h r = Has client aim old h r × EndsSo r.ending aim
StandsAt Finished client aim old h r = ⊥
StandsAt stage client aim old h r = Has client aim old h r × (r.ending ≡ None)

abbrev pub Stands : ℕ → Aim → Option Claim → List Deed → Recovery → Type 0
Stands client aim old h r = StandsAt r.stage client aim old h r

-- where a call more leads
abbrev pub NextStands : ℕ → Aim → Option Claim → Deed → List Deed → Step → Type 0
NextStands client aim old d h (Goes n) = Stands client aim old (d ∷ h) n
NextStands client aim old d h (Ends n x) = Leaves client aim h n x × LeavesOf client aim old (d ∷ h) x × HandsNone n (Ended x)
NextStands client aim old d h (Stops n t) = (leases_of n ≡ []) × (outstanding old (d ∷ h) ≡ []) × (home_of n ≡ None)

-- an ending is kept while the lease is given back, and there alone
abbrev pub KeepsEnding : Stage → Option (Result RecoverAnswer Trouble) → Type 0
KeepsEnding Releasing ending = ending ≢ None
KeepsEnding Finished ending = ⊥
KeepsEnding stage ending = ending ≡ None

pub stands_ends : (st : Stage) (client : ℕ) (aim : Aim) (old : Option Claim) (h : List Deed) (r : Recovery) → StandsAt st client aim old h r → KeepsEnding st r.ending
stands_ends ReleasingOld client aim old h r s = s.1.ending_is
stands_ends Taking client aim old h r s = s.0.ending_is
stands_ends Getting client aim old h r s = s.1
stands_ends Receiving client aim old h r s = s.1
stands_ends Deleting client aim old h r s = s.1
stands_ends Sending client aim old h r s = s.1
stands_ends Putting client aim old h r s = s.1
stands_ends Clearing client aim old h r s = s.1
stands_ends Sweeping client aim old h r s = s.1
stands_ends Releasing client aim old h r s = some r.ending s.1 where
  some : (o : Option (Result RecoverAnswer Trouble)) → EndsSo o aim → o ≢ None
  some (Some x) is = λ e. absurd (cc (e))
  some None is = absurd is
stands_ends Finished client aim old h r s = absurd s

-- ---- while the client's lease is held

work_has : (st : Stage) (client : ℕ) (aim : Aim) (old : Option Claim) (h : List Deed) (r : Recovery) → AtWork st → StandsAt st client aim old h r
    → Has client aim old h r × (r.ending ≡ None)
work_has ReleasingOld client aim old h r work s = absurd work
work_has Taking client aim old h r work s = absurd work
work_has Releasing client aim old h r work s = absurd work
work_has Finished client aim old h r work s = absurd work
work_has st client aim old h r work s = s

work_stands : (st : Stage) (client : ℕ) (aim : Aim) (old : Option Claim) (h : List Deed) (r : Recovery) → AtWork st → Has client aim old h r × (r.ending ≡ None)
    → StandsAt st client aim old h r
work_stands ReleasingOld client aim old h r work has = absurd work
work_stands Taking client aim old h r work has = absurd work
work_stands Releasing client aim old h r work has = absurd work
work_stands Finished client aim old h r work has = absurd work
work_stands st client aim old h r work has = has

may_end : (aim : Aim) (ending : Result RecoverAnswer Trouble) → MayHalt aim ending → EndsSo (Some ending) aim
may_end aim (Ok (Opened epoch)) may = may
may_end aim (Ok Nothing) may = tt
may_end aim (Err t) may = tt

-- ---- calls that move no lease

still_held : (r : Recovery) (o : Option Claim) (l : Claim) (a : Answer) (claims : List Claim) → o ≡ Some l
    → outstanding_after (under r o (λ k. GetHeld (object.Head r.client) k)) a claims ≡ claims
still_held r (Some k) l a claims e = refl
still_held r None l a claims e = absurd (cc (e))

still_put : (r : Recovery) (o : Option Claim) (l : Claim) (a : Answer) (claims : List Claim) → o ≡ Some l
    → outstanding_after (under r o (λ k. PutHeld (object.Head r.client) r.out k None)) a claims ≡ claims
still_put r (Some k) l a claims e = refl
still_put r None l a claims e = absurd (cc (e))

still_delete : (r : Recovery) (ids : List ℕ) (a : Answer) (claims : List Claim) → 1 ≤ length ids → outstanding_after (delete_next r ids) a claims ≡ claims
still_delete r [] a claims some = absurd (omega (arith, some))
still_delete r (id ∷ ids) a claims some = refl

still_send : (r : Recovery) (o : Option AtomicItem) (x : AtomicItem) (a : Answer) (claims : List Claim) → o ≡ Some x → outstanding_after (send_next r o) a claims ≡ claims
still_send r (Some y) x a claims e = refl
still_send r None x a claims e = absurd (cc (e))

work_still : (st : Stage) (client : ℕ) (aim : Aim) (old : Option Claim) (h : List Deed) (r : Recovery) (a : Answer) → AtWork st → KnowsAt st old (calls_of h) r
    → Has client aim old h r → outstanding_after (ask_at st r) a (outstanding old h) ≡ outstanding old h
work_still ReleasingOld client aim old h r a work k has = absurd work
work_still Taking client aim old h r a work k has = absurd work
work_still Releasing client aim old h r a work k has = absurd work
work_still Finished client aim old h r a work k has = absurd work
work_still Getting client aim old h r a work k has = still_held r r.lease has.lease a (outstanding old h) has.lease_is
work_still Receiving client aim old h r a work k has = refl
work_still Deleting client aim old h r a work k has = still_delete r r.ids a (outstanding old h) k.some
work_still Sending client aim old h r a work k has = still_send r (slice_get r.gathered.kept r.sent) k.item a (outstanding old h) k.here
work_still Putting client aim old h r a work k has = still_put r r.lease has.lease a (outstanding old h) has.lease_is
work_still Clearing client aim old h r a work k has = still_delete r r.ids a (outstanding old h) k.some
work_still Sweeping client aim old h r a work k has = refl

-- what the calls leave with one more
after : (old : Option Claim) (d : Deed) (h : List Deed) (q : Ask) → d.ask ≡ q → outstanding old (d ∷ h) ≡ outstanding_after q d.answer (outstanding old h)
after old d h q asks = ap (λ (p : Ask). outstanding_after p d.answer (outstanding old h)) asks

worked : (client : ℕ) (aim : Aim) (old : Option Claim) (d : Deed) (h : List Deed) (r q : Recovery) → Stands client aim old h r → KnowsAt r.stage old (calls_of h) r
    → d.ask ≡ recovery_ask r → Works r q → Has client aim old (d ∷ h) q × (q.ending ≡ None)
worked client aim old d h r q s k asks w =
    let was = work_has r.stage client aim old h r w.at_work s in
    let has : Has client aim old h r = was.0 in
    let same : outstanding old (d ∷ h) ≡ outstanding old h =
    after old d h (recovery_ask r) asks ∙ work_still r.stage client aim old h r d.answer w.at_work k has in (
      record {
        client_is = w.client ∙ has.client_is;
        aim_is = w.aim ∙ has.aim_is;
        former_is = w.former ∙ has.former_is;
        lease = has.lease;
        lease_is = w.lease ∙ has.lease_is;
        clients = record { own = has.clients.own; taken = inr has.clients.taken; alone = same ∙ has.clients.alone };
      },
      w.ending ∙ was.1,
    )

leases_are : (n : Recovery) (l : Claim) → n.former ≡ None → n.lease ≡ Some l → leases_of n ≡ l ∷ []
leases_are n l former lease =
    ap (λ (o : Option Claim). leases_of (record n { former = o })) former ∙ ap (λ (o : Option Claim). leases_of (record n { former = None; lease = o })) lease

free_of : (n : Recovery) → n.former ≡ None → n.lease ≡ None → leases_of n ≡ []
free_of n former lease =
    ap (λ (o : Option Claim). leases_of (record n { former = o })) former ∙ ap (λ (o : Option Claim). leases_of (record n { former = None; lease = o })) lease

not_given : (mine : Lock) (a : Answer) (t : Trouble) (claims : List Claim) → given_of mine a ≡ Err t → outstanding_after (Take mine 600) a claims ≡ claims
not_given mine (call.Given l) t claims e = absurd (cc (e))
not_given mine a t claims e = refl

-- the release of the lease leaves none
released : (client : ℕ) (aim : Aim) (old : Option Claim) (d : Deed) (h : List Deed) (r : Recovery) → Has client aim old h r → d.ask ≡ under r r.lease Release
    → outstanding old (d ∷ h) ≡ []
released client aim old d h r has asks =
    after old d h (Release has.lease) (asks ∙ ap (λ (o : Option Claim). under r o Release) has.lease_is)
    ∙ ap (λ (cs : List Claim). outstanding_after (Release has.lease) d.answer cs) has.clients.alone

-- ---- a step

opens_with : (client : ℕ) (aim : Aim) (old : Option Claim) (d : Deed) (h : List Deed) (r n : Recovery) (epoch : ℕ) → aim ≡ Opening → (was : Has client aim old h r)
    → leases_of n ≡ was.lease ∷ [] → Has client aim old (d ∷ h) n
    → Leaves client aim h n (Opened epoch) × LeavesOf client aim old (d ∷ h) (Opened epoch) × Unit {0}
opens_with client Opening old d h r n epoch e was held has = ((was.lease, was.clients.own, was.clients.taken, held), (has.lease, has.clients), tt)
opens_with client Settling old d h r n epoch e was held has = absurd (cc (e))

ends_with : (client : ℕ) (aim : Aim) (old : Option Claim) (d : Deed) (h : List Deed) (n : Recovery) (x : RecoverAnswer) → EndsSo (Some (Ok x)) aim → leases_of n ≡ []
    → outstanding old (d ∷ h) ≡ [] → home_of n ≡ None → Leaves client aim h n x × LeavesOf client aim old (d ∷ h) x × HandsNone n (Ended x)
ends_with client Opening old d h n (Opened epoch) is free none homeless = absurd (cc (is))
ends_with client Settling old d h n (Opened epoch) is free none homeless = (free, none, tt)
ends_with client Opening old d h n Nothing is free none homeless = (free, none, homeless)
ends_with client Settling old d h n Nothing is free none homeless = (free, none, homeless)

stands_after : (client : ℕ) (aim : Aim) (old : Option Claim) (d : Deed) (h : List Deed) {r : Recovery} {a : Answer} {next : Step} → d.answer ≡ a
    → Stands client aim old h r → KnowsAt r.stage old (calls_of h) r → d.ask ≡ recovery_ask r → Fits (recovery_ask r) a → Turns r a next
    → NextStands client aim old d h next
stands_after client aim old d h e s k asks fits (step.gives_old r a) = (
  record { client_is = s.1.client_is; aim_is = s.1.aim_is; former_is = refl; lease_is = s.1.lease_is; ending_is = s.1.ending_is },
  after old d h (Release s.0) (asks ∙ ap (λ (o : Option Claim). under (at r ReleasingOld) o Release) s.1.former_is)
      ∙ ap (λ (cs : List Claim). outstanding_after (Release s.0) d.answer cs) (ap (λ (g : List Deed). outstanding old g) s.2 ∙ ap (λ (o : Option Claim). outstanding o []) s.3),
)
stands_after client aim old d h e s k asks fits (step.takes r l) = (
  record {
    client_is = s.0.client_is;
    aim_is = s.0.aim_is;
    former_is = s.0.former_is;
    lease = l;
    lease_is = refl;
    clients = record {
      own = fits ∙ ap lock.Client s.0.client_is;
      taken = inl (asks ∙ ap (λ (c : ℕ). Take (lock.Client c) 600) s.0.client_is, e);
      alone =
          after old d h (Take (lock.Client r.client) 600) asks
          ∙ (ap (λ (x : Answer). outstanding_after (Take (lock.Client r.client) 600) x (outstanding old h)) e ∙ ap (λ (cs : List Claim). l ∷ cs) s.1);
    };
  },
  s.0.ending_is,
)
stands_after client aim old d h e s k asks fits (step.refused r a t u) = (
  free_of (at r Taking) s.0.former_is s.0.lease_is,
  after old d h (Take (lock.Client r.client) 600) asks
      ∙ (ap (λ (x : Answer). outstanding_after (Take (lock.Client r.client) 600) x (outstanding old h)) e
      ∙ (not_given (lock.Client r.client) a t (outstanding old h) u ∙ s.1)),
  refl,
)
stands_after client aim old d h {r = r} e s k asks fits (step.works n w goes) = work_stands n.stage client aim old (d ∷ h) n goes (worked client aim old d h r n s k asks w)
stands_after client aim old d h {r = r} e s k asks fits (step.halts q ending w may) =
    let was = work_has r.stage client aim old h r w.at_work s in
    ((worked client aim old d h r q s k asks w).0, may_end aim ending (subst (λ (a : Aim). MayHalt a ending) was.0.aim_is may))
stands_after client aim old d h {r = r} e s k asks fits (step.opens q epoch w is) =
    let was = work_has r.stage client aim old h r w.at_work s in
    let has = (worked client aim old d h r q s k asks w).0 in
    opens_with client aim old d h r (at q Finished) epoch (sym was.0.aim_is ∙ is) was.0 (leases_are (at q Finished) was.0.lease (w.former ∙ was.0.former_is) (w.lease ∙ was.0.lease_is)) has
stands_after client aim old d h e s k asks fits (step.ends r a x is) =
    ends_with client aim old d h (record (at r Finished) { lease = None; ending = None }) x (subst (λ (o : Option (Result RecoverAnswer Trouble)). EndsSo o aim) is s.1)
    (free_of (record (at r Finished) { lease = None; ending = None }) s.0.former_is refl) (released client aim old d h (at r Releasing) s.0 asks) refl
stands_after client aim old d h e s k asks fits (step.stopped r a t is) =
    (free_of (record (at r Finished) { lease = None; ending = None }) s.0.former_is refl, released client aim old d h (at r Releasing) s.0 asks, refl)
stands_after client aim old d h e s k asks fits (step.astray r a is) = absurd (subst (λ (o : Option (Result RecoverAnswer Trouble)). EndsSo o aim) is s.1)
stands_after client aim old d h e s k asks fits (step.nothing r a) = absurd s

-- ---- a whole history

start_stands : (client : ℕ) (aim : Aim) (old : Option Claim) → Stands client aim old [] (new_recovery client aim old)
start_stands client aim None = (record { client_is = refl; aim_is = refl; former_is = refl; lease_is = refl; ending_is = refl }, refl)
start_stands client aim (Some l) = (l, record { client_is = refl; aim_is = refl; former_is = refl; lease_is = refl; ending_is = refl }, refl, refl)

pub went_stands : (client : ℕ) (aim : Aim) (old : Option Claim) (h : List Deed) (r : Recovery) → Went client aim old h r → Stands client aim old h r
went_stands client aim old [] r is = subst (λ (m : Recovery). Stands client aim old [] m) (sym is) (start_stands client aim old)
went_stands client aim old (d ∷ h) r (from, came, asks, made, leads, follows) =
    let fits : Fits (recovery_ask from) d.answer = subst (λ (q : Ask). Fits q d.answer) asks made.fits in
    stands_after client aim old d h refl (went_stands client aim old h from came) (came_known client aim old h from came).at asks fits (turns_to from d.answer (Goes r) leads)

-- ---- what is held is what a history leaves

has_leases : (client : ℕ) (aim : Aim) (old : Option Claim) (h : List Deed) (r : Recovery) → Has client aim old h r → leases_of r ≡ outstanding old h
has_leases client aim old h r has = leases_are r has.lease has.former_is has.lease_is ∙ sym has.clients.alone

leases_at : (st : Stage) (client : ℕ) (aim : Aim) (old : Option Claim) (h : List Deed) (r : Recovery) → StandsAt st client aim old h r → leases_of r ≡ outstanding old h
leases_at ReleasingOld client aim old h r (l, b, nil, was) =
    ap (λ (o : Option Claim). leases_of (record r { former = o })) b.former_is
    ∙ (ap (λ (o : Option Claim). leases_of (record r { former = Some l; lease = o })) b.lease_is
    ∙ (sym (ap (λ (g : List Deed). outstanding (Some l) g) nil) ∙ sym (ap (λ (o : Option Claim). outstanding o h) was)))
leases_at Taking client aim old h r (b, none) = free_of r b.former_is b.lease_is ∙ sym none
leases_at Getting client aim old h r (has, none) = has_leases client aim old h r has
leases_at Receiving client aim old h r (has, none) = has_leases client aim old h r has
leases_at Deleting client aim old h r (has, none) = has_leases client aim old h r has
leases_at Sending client aim old h r (has, none) = has_leases client aim old h r has
leases_at Putting client aim old h r (has, none) = has_leases client aim old h r has
leases_at Clearing client aim old h r (has, none) = has_leases client aim old h r has
leases_at Sweeping client aim old h r (has, none) = has_leases client aim old h r has
leases_at Releasing client aim old h r (has, ends) = has_leases client aim old h r has
leases_at Finished client aim old h r stands = absurd stands

pub stands_leases : (client : ℕ) (aim : Aim) (old : Option Claim) (h : List Deed) (r : Recovery) → Went client aim old h r → leases_of r ≡ outstanding old h
stands_leases client aim old h r went = leases_at r.stage client aim old h r (went_stands client aim old h r went)

-- ---- what a call names

get_names : (client : ℕ) (old : Option Claim) (h : List Deed) (r : Recovery) (l : Claim) (o : Option Claim) → r.client ≡ client → o ≡ Some l → IsClients client old h l
    → Names client old h (under r o (λ k. GetHeld (object.Head r.client) k))
get_names client old h r l (Some k) e is clients = (ap object.Head e, subst (IsClients client old h) (let same : l ≡ k = cc (is) in same) clients)
get_names client old h r l None e is clients = absurd (cc (is))

put_names : (client : ℕ) (old : Option Claim) (h : List Deed) (r : Recovery) (l : Claim) (o : Option Claim) → r.client ≡ client → o ≡ Some l → IsClients client old h l
    → Names client old h (under r o (λ k. PutHeld (object.Head r.client) r.out k None))
put_names client old h r l (Some k) e is clients = (ap object.Head e, subst (IsClients client old h) (let same : l ≡ k = cc (is) in same) clients)
put_names client old h r l None e is clients = absurd (cc (is))

release_names : (client : ℕ) (old : Option Claim) (h : List Deed) (r : Recovery) (l : Claim) (o : Option Claim) → o ≡ Some l → IsClients client old h l
    → Names client old h (under r o Release)
release_names client old h r l (Some k) is clients = inr (subst (IsClients client old h) (let same : l ≡ k = cc (is) in same) clients)
release_names client old h r l None is clients = absurd (cc (is))

delete_names : (client : ℕ) (old : Option Claim) (h : List Deed) (r : Recovery) (ids : List ℕ) → r.client ≡ client → 1 ≤ length ids → Names client old h (delete_next r ids)
delete_names client old h r [] e some = absurd (omega (arith, some))
delete_names client old h r (id ∷ ids) e some = ap queue.Atomic e

send_names : (client : ℕ) (old : Option Claim) (h : List Deed) (r : Recovery) (o : Option AtomicItem) (x : AtomicItem) → o ≡ Some x → Names client old h (send_next r o)
send_names client old h r (Some y) x e = tt
send_names client old h r None x e = absurd (cc (e))

names_at : (st : Stage) (client : ℕ) (aim : Aim) (old : Option Claim) (h : List Deed) (r : Recovery) → KnowsAt st old (calls_of h) r → StandsAt st client aim old h r
    → Names client old h (ask_at st r)
names_at ReleasingOld client aim old h r k (l, b, nil, was) =
    subst (λ (o : Option Claim). Names client old h (under r o Release)) (sym b.former_is) (inl (nil, was))
names_at Taking client aim old h r k (b, none) = (ap lock.Client b.client_is, refl, none)
names_at Getting client aim old h r k (has, none) = get_names client old h r has.lease r.lease has.client_is has.lease_is has.clients
names_at Receiving client aim old h r k (has, none) = (ap queue.Atomic has.client_is, refl)
names_at Deleting client aim old h r k (has, none) = delete_names client old h r r.ids has.client_is k.some
names_at Sending client aim old h r k (has, none) = send_names client old h r (slice_get r.gathered.kept r.sent) k.item k.here
names_at Putting client aim old h r k (has, none) = put_names client old h r has.lease r.lease has.client_is has.lease_is has.clients
names_at Clearing client aim old h r k (has, none) = delete_names client old h r r.ids has.client_is k.some
names_at Sweeping client aim old h r k (has, none) = (ap queue.Atomic has.client_is, refl)
names_at Releasing client aim old h r k (has, ends) = release_names client old h r has.lease r.lease has.lease_is has.clients
names_at Finished client aim old h r k stands = absurd stands

pub stands_names : (client : ℕ) (aim : Aim) (old : Option Claim) (h : List Deed) (r : Recovery) → Went client aim old h r → Names client old h (recovery_ask r)
stands_names client aim old h r went =
    names_at r.stage client aim old h r (came_known client aim old h r went).at (went_stands client aim old h r went)

-- ---- what an end leaves

next_stands : (client : ℕ) (aim : Aim) (old : Option Claim) (d : Deed) (h : List Deed) (r : Recovery) (next : Step) → Went client aim old h r → d.ask ≡ recovery_ask r
    → Fits (recovery_ask r) d.answer → recovery_next r d.answer ≡ next → NextStands client aim old d h next
next_stands client aim old d h r next went asks fits leads =
    stands_after client aim old d h refl (went_stands client aim old h r went) (came_known client aim old h r went).at asks fits (turns_to r d.answer next leads)

-- a deed that asked and answered this
abbrev asked : Ask → Answer → Deed
asked q a =
    let none : Seen = record { counts = record { faults = 0; withheld = 0; stale = 0; dark = 0 }; state = None; heard = None; shown = None } in
    record { who = record { session = 0; event = 0 }; ask = q; answer = a; before = none; after = none }

pub stands_gives : (client : ℕ) (aim : Aim) (old : Option Claim) (h : List Deed) (r n : Recovery) (a : Answer) (turn : Turn RecoverAnswer) → Went client aim old h r
    → Fits (recovery_ask r) a → Took (LeadsBy recovery_next) KeepsLeases r a n turn → GivesBack client aim h n turn
stands_gives client aim old h r n a More went fits took = tt
stands_gives client aim old h r n a (Ended x) went fits took = (next_stands client aim old (asked (recovery_ask r) a) h r (Ends n x) went refl fits took).0
stands_gives client aim old h r n a (Stopped t) went fits took = λ k. (next_stands client aim old (asked (recovery_ask r) a) h r (Stops n t) went refl fits (took.0 k)).0

-- .. by its calls
pub took_returns : (client : ℕ) (aim : Aim) (old : Option Claim) (h : List Deed) (d : Deed) (r n : Recovery) (turn : Turn RecoverAnswer) → Went client aim old h r
    → d.ask ≡ recovery_ask r → Fits (recovery_ask r) d.answer → Took (LeadsBy recovery_next) KeepsLeases r d.answer n turn
    → AreReturned client aim old (d ∷ h) turn
took_returns client aim old h d r n More went asks fits took = tt
took_returns client aim old h d r n (Ended x) went asks fits took = (next_stands client aim old d h r (Ends n x) went asks fits took).1
took_returns client aim old h d r n (Stopped t) went asks fits took = λ k. (next_stands client aim old d h r (Stops n t) went asks fits (took.0 k)).1

-- ---- no home is handed out but behind Opened

homeless : (st : Stage) (client : ℕ) (aim : Aim) (old : Option Claim) (h : List Deed) (n : Recovery) → StandsAt st client aim old h n → home_at st n ≡ None
homeless ReleasingOld client aim old h n s = refl
homeless Taking client aim old h n s = refl
homeless Getting client aim old h n s = refl
homeless Receiving client aim old h n s = refl
homeless Deleting client aim old h n s = refl
homeless Sending client aim old h n s = refl
homeless Putting client aim old h n s = refl
homeless Clearing client aim old h n s = refl
homeless Sweeping client aim old h n s = refl
homeless Releasing client aim old h n s = refl
homeless Finished client aim old h n s = absurd s

pub took_hands : (client : ℕ) (aim : Aim) (old : Option Claim) (h : List Deed) (r n : Recovery) (a : Answer) (turn : Turn RecoverAnswer) → Went client aim old h r
    → Fits (recovery_ask r) a → Took (LeadsBy recovery_next) KeepsLeases r a n turn → HandsNone n turn
took_hands client aim old h r n a More went fits took =
    homeless n.stage client aim old (asked (recovery_ask r) a ∷ h) n (next_stands client aim old (asked (recovery_ask r) a) h r (Goes n) went refl fits took)
took_hands client aim old h r n a (Ended x) went fits took = (next_stands client aim old (asked (recovery_ask r) a) h r (Ends n x) went refl fits took).2
took_hands client aim old h r n a (Stopped t) went fits took =
    λ k. (next_stands client aim old (asked (recovery_ask r) a) h r (Stops n t) went refl fits (took.0 k)).2

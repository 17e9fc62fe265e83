-- A step of a session, taken apart: what its call was, and what the answer led to.
use Rattle.std.proofs.Common.{◌≡◌, List, [], ◌∷◌, ap, subst, ◌∙◌}
use Rattle.client_work.specs.Session.{StepsAt, ShowsAt, acting_of, stopped_work}
use Rattle.client_work.specs.declared.answer.Answer.{Answer}
use Rattle.client_work.specs.declared.answer.Answer.TheVariants as answer
use Rattle.client_work.specs.declared.shown.Shown.{Shown}
use Rattle.client_work.specs.declared.work.Work.{Work}
use Rattle.client_work.specs.declared.work.Work.TheVariants.{Closed, Idle, Opening, Committing, Reading, Scanning, Looking, Folding, Paging, Closing, Renewing, Settling, Sweeping, Broken}
use Rattle.cloud_facts.proofs.Book.Places.{get_single}
use Rattle.cloud_facts.specs.Words.{Answer as Reply, Turn, More, Ended, Caller, Seen, Claim, Ask, Deed, IsIn}
use Rattle.cloud_trait.specs.Weather.{leased, RenewsLease}
use Rattle.page_cache.specs.Cache.{Cache}
use Rattle.recover_run.specs.declared.home.Home.{Home}
use Rattle.session_facts.proofs.Sessions.AloneLeases.{stopped_leases}
use Rattle.session_facts.proofs.Sessions.Replied.{IsReplied, replied}
use Rattle.session_facts.specs.Sessions.Calls.{SessionStep, IsMade, calling_of, reply_at, reply_of}
use Rattle.session_facts.specs.Sessions.HeadPuts.{IsSoundWork}
use Rattle.session_facts.specs.Sessions.Knows.{leases_of}
use Rattle.session_facts.specs.Sessions.Led.{LedTo, LedOn, exchange_of, IsRow, RenewsHand}
use Rattle.txn_buffer.specs.Noted.{Noted}

-- what is at work has the bytes in hand that it is to put or send
pub sound_of : (who : Caller) (before after : Seen) (w new : Work) (turn : Turn Answer) → StepsAt who before after w new turn → IsSoundWork w
sound_of who before after (Opening m) new turn p = p.0
sound_of who before after (Committing m) new turn p = p.0
sound_of who before after (Reading home m) new turn p = tt
sound_of who before after (Scanning home m) new turn p = tt
sound_of who before after (Looking home m) new turn p = tt
sound_of who before after (Paging home m) new turn p = tt
sound_of who before after (Folding home f) new turn p = tt
sound_of who before after (Closing lease) new turn p = tt
sound_of who before after (Renewing home) new turn p = tt
sound_of who before after (Settling m) new turn p = p.0
sound_of who before after (Sweeping m) new turn p = tt
sound_of who before after Closed new turn p = absurd p
sound_of who before after (Idle home) new turn p = absurd p
sound_of who before after (Broken lease) new turn p = absurd p

module _ (who : Caller) (before after : Seen) where
  -- ---- what the answer led to

  led_at : (buffer : List Noted) (old : Work) (c d : Cache) (new : Work) (shown : Shown) (turn : Turn Answer) → (p : StepsAt who before after old new turn)
      → (q : ShowsAt who before after (old, c) (acting_of buffer new d shown) turn)
      → LedTo (old, c) (reply_at (calling_of who before after) (old, c) (acting_of buffer new d shown) turn p q) (acting_of buffer new d shown) turn
  led_at buffer (Opening m) c d new shown More p q = ((p.1.0, p.1.1.took, p.1.2), q.0, q.1)
  led_at buffer (Opening m) c d new shown (Ended (answer.Opened epoch)) p q = ((p.1.0, p.1.1.took, p.1.2), q.0, q.1)
  led_at buffer (Opening m) c d new shown (Ended (answer.Trouble k)) p q = ((p.1.0, p.1.1.took, p.1.2), q.0, q.1)
  led_at buffer (Opening m) c d new shown turn p q = absurd p.1
  led_at buffer (Committing m) c d new shown More p q = ((q.0.0, q.0.1.took, q.0.2), q.1)
  led_at buffer (Committing m) c d new shown (Ended (answer.Commit a)) p q = ((q.0.0, q.0.1.took, q.0.2), q.1)
  led_at buffer (Committing m) c d new shown (Ended (answer.Trouble k)) p q = ((q.0.0, q.0.1.took, q.0.2), q.1)
  led_at buffer (Committing m) c d new shown turn p q = absurd p.3
  led_at buffer (Reading home m) c d new shown More p q = (q.0, q.1.took, q.2, q.3)
  led_at buffer (Reading home m) c d new shown (Ended answer.Value) p q = (q.0, q.1, q.2.took, q.4, q.5)
  led_at buffer (Reading home m) c d new shown (Ended (answer.Trouble k)) p q = (q.0, q.1.took, q.2, q.3)
  led_at buffer (Reading home m) c d new shown turn p q = absurd p
  led_at buffer (Scanning home m) c d new shown turn p q = record { scan = q.scan; moved = q.moved; led = q.steps.took; follows = q.follows }
  led_at buffer (Looking home m) c d new shown More p q = (q.0, q.1.took, q.2, q.3)
  led_at buffer (Looking home m) c d new shown (Ended answer.Scan) p q = (q.0, q.1.took, q.2, q.3)
  led_at buffer (Looking home m) c d new shown (Ended (answer.Trouble k)) p q = (q.0, q.1.took, q.2, q.3)
  led_at buffer (Looking home m) c d new shown turn p q = absurd q
  led_at buffer (Paging home m) c d new shown More p q = ((p.0, p.1.took, p.2), q.0, q.1)
  led_at buffer (Paging home m) c d new shown (Ended (answer.Done n)) p q = ((p.0, p.1.took, p.2), q.0, q.1)
  led_at buffer (Paging home m) c d new shown (Ended (answer.Trouble k)) p q = ((p.0, p.1.took, p.2), q.0, q.1)
  led_at buffer (Paging home m) c d new shown turn p q = absurd p
  led_at buffer (Folding home m) c d new shown More p q = ((p.0, p.1.took, p.2), q.0, q.1)
  led_at buffer (Folding home m) c d new shown (Ended (answer.Done n)) p q = ((p.0, p.1.took, p.2), q.0, q.1)
  led_at buffer (Folding home m) c d new shown (Ended (answer.Trouble k)) p q = ((p.0, p.1.took, p.2), q.0, q.1)
  led_at buffer (Folding home m) c d new shown turn p q = absurd p
  led_at buffer (Closing lease) c d new shown (Ended answer.Closed) p q = ((p.0.took, p.1), q.0, q.1)
  led_at buffer (Closing lease) c d new shown (Ended (answer.Trouble k)) p q = ((p.0.took, p.1), q.0, q.1)
  led_at buffer (Closing lease) c d new shown turn p q = absurd p
  led_at buffer (Renewing home) c d new shown (Ended (answer.Renewed end)) p q = ((p.0.lease, p.1.took, p.2 ∙ ap (λ (h : Home). Idle h) p.1.home), q.0, q.1)
  led_at buffer (Renewing home) c d new shown (Ended (answer.Trouble k)) p q = ((p.0.lease, p.1.took, p.2 ∙ ap (stopped_work k) p.1.home), q.0, q.1)
  led_at buffer (Renewing home) c d new shown turn p q = absurd p
  led_at buffer (Settling m) c d new shown More p q = ((p.1.0, p.1.1.did.took, p.1.2), q.0, q.1)
  led_at buffer (Settling m) c d new shown (Ended (answer.Settled n)) p q = ((p.1.0, p.1.1.did.took, p.1.2), q.0, q.1)
  led_at buffer (Settling m) c d new shown (Ended (answer.Trouble k)) p q = ((p.1.0, p.1.1.did.took, p.1.2), q.0, q.1)
  led_at buffer (Settling m) c d new shown turn p q = absurd p.1
  led_at buffer (Sweeping m) c d new shown More p q = ((p.0, p.1.did.took, p.2), q.0, q.1)
  led_at buffer (Sweeping m) c d new shown (Ended (answer.Swept x)) p q = ((p.0, p.1.did.took, p.2), q.0, q.1)
  led_at buffer (Sweeping m) c d new shown (Ended (answer.Trouble k)) p q = ((p.0, p.1.did.took, p.2), q.0, q.1)
  led_at buffer (Sweeping m) c d new shown turn p q = absurd p
  led_at buffer Closed c d new shown turn p q = absurd p
  led_at buffer (Idle home) c d new shown turn p q = absurd p
  led_at buffer (Broken lease) c d new shown turn p q = absurd p

  -- ---- what it left of the lease

  abbrev deed_by : Ask → Reply → Deed
  deed_by ask reply = record { who = who; ask = ask; answer = reply; before = before; after = after }

  -- one lease is in hand, and that is the home's
  only_lease : (home : Home) (new : Work) (l : Claim) → leases_of new ≡ home.lease ∷ [] → IsIn (leases_of new) l → home.lease ≡ l
  only_lease home new l is there = let one : IsIn (home.lease ∷ []) l = subst (λ (ls : List Claim). IsIn ls l) is there in get_single home.lease one.0 l one.1

  renewed_at : (ask : Ask) (buffer : List Noted) (old : Work) (c d : Cache) (new : Work) (shown : Shown) (turn : Turn Answer) → (p : StepsAt who before after old new turn)
      → (q : ShowsAt who before after (old, c) (acting_of buffer new d shown) turn)
      → RenewsHand (deed_by ask (reply_at (calling_of who before after) (old, c) (acting_of buffer new d shown) turn p q)) old (leases_of new)
  renewed_at ask buffer (Renewing home) c d new shown (Ended (answer.Renewed end)) p q =
      λ l there. subst (λ (k : Claim). RenewsLease who 600 p.1.answer (leased home.lease before) (leased k after)) (only_lease p.0 new l (ap leases_of p.2) there) p.1.lease
  renewed_at ask buffer (Renewing home) c d new shown (Ended (answer.Trouble k)) p q =
      λ l there.
      subst (λ (x : Claim). RenewsLease who 600 p.1.answer (leased home.lease before) (leased x after))
      (only_lease p.0 new l (ap leases_of p.2 ∙ stopped_leases k p.0) there) p.1.lease
  renewed_at ask buffer (Renewing home) c d new shown turn p q = absurd p
  renewed_at ask buffer old c d new shown turn p q = tt

-- what its answer led a session to
pub led_of : (x : SessionStep) (p : IsMade x) → (let r : IsReplied x.who x.before x.after x.old.work (reply_of x p) = replied x.who x.before x.after x.old x.new x.turn p in
    LedOn (exchange_of r.ask (reply_of x p) x.turn) x.old x.new)
led_of x p = record {
  hand = (replied x.who x.before x.after x.old x.new x.turn p).hand;
  sound = sound_of x.who x.before x.after x.old.work x.new.work x.turn p.work;
  buffer = p.buffer;
  cache = p.shown.0;
  led = led_at x.who x.before x.after x.new.buffer x.old.work x.old.cache p.shown.0 x.new.work x.new.shown x.turn p.work p.shown.1;
  kept = p.shown.2;
}

-- its call, as it was answered
abbrev pub deed_of_step : (x : SessionStep) → IsMade x → Deed
deed_of_step x p =
    record { who = x.who; ask = (replied x.who x.before x.after x.old x.new x.turn p).ask; answer = reply_of x p; before = x.before; after = x.after }

-- its call was a row of the cloud that it saw
pub row_of : (x : SessionStep) (p : IsMade x) → IsRow (deed_of_step x p) x.old.work x.new.work
row_of x p = record {
  made = (replied x.who x.before x.after x.old x.new x.turn p).made;
  renewed =
      renewed_at x.who x.before x.after (replied x.who x.before x.after x.old x.new x.turn p).ask x.new.buffer x.old.work x.old.cache p.shown.0 x.new.work x.new.shown x.turn p.work
      p.shown.1;
}

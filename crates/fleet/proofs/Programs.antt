-- A step of a session is a deal; and over a cloud that tells its state its call is a row of that.
use Rattle.std.proofs.Common.{◌≡◌, ◌≤◌, ℕ, length, Some, None, refl, sym, subst, ◌∙◌}
use Rattle.std.proofs.lemmas.Option.{same_Some}
use Rattle.client_work.specs.Session.{Acting, HasDropped, HasNoted}
use Rattle.client_work.specs.declared.work.Work.{Work}
use Rattle.client_work.specs.declared.work.Work.TheVariants.{Renewing}
use Rattle.cloud_facts.specs.Book.Tally.{at}
use Rattle.cloud_facts.specs.Words.{Answer as Reply, Ask, Claim, IsTree, Seen}
use Rattle.cloud_trait.specs.declared.answer.Answer.TheVariants.{Failed, Renewed}
use Rattle.cloud_trait.specs.Weather.{leased, Makes, RenewsLease}
use Rattle.db_base.specs.Change.{IsChange}
use Rattle.db_base.specs.declared.change.Change.{Change}
use Rattle.fleet.specs.Acts.{Does, IsAlone, IsDeal, calls, deed_of, notes, told}
use Rattle.fleet.specs.Fleet.{Fleet}
use Rattle.fleet.specs.Programs.{Tells, deal_of}
use Rattle.session_facts.proofs.Machines.Commits.Noted.{may_none, may_note}
use Rattle.session_facts.proofs.Sessions.Led.{deed_of_step, row_of}
use Rattle.session_facts.proofs.Sessions.Replied.{IsReplied, replied}
use Rattle.session_facts.specs.Machines.Commits.Knows.{MayCommit}
use Rattle.session_facts.specs.Sessions.Calls.{IsMade, SessionStep, reply_of}
use Rattle.session_facts.specs.Sessions.Knows.{leases_of}
use Rattle.session_facts.specs.Sessions.Led.{RenewsHand}

module _ (x : SessionStep) (p : IsMade x) where
  reply : IsReplied x.who x.before x.after x.old.work (reply_of x p)
  reply = replied x.who x.before x.after x.old x.new x.turn p

  is_deal : (program : ℕ) → IsDeal (deal_of program x reply.ask (reply_of x p))
  is_deal program = record { who = x.who; before = x.before; after = x.after; steps = p; hand = reply.hand; answered = refl }

  pub deals : (program : ℕ) → (ask : Ask) × IsDeal (deal_of program x ask (reply_of x p))
  deals program = (reply.ask, is_deal program)

  -- ---- over a cloud that tells its state

  module _ (from to : Fleet) (before : Tells x.before from) (after : Tells x.after to) where
    made_told : Makes x.who reply.ask (reply_of x p) (told from.counts from.state None) (told to.counts to.state (Some (reply_of x p)))
    made_told = record {
      fits = m.fits;
      heard = λ a e. same_Some (reply_of x p) a e;
      counts = m.counts;
      dark = m.dark;
      failed = m.failed;
      memory = m.memory;
      shown = λ showing never. absurd (cc (never));
      state = m.state;
    }
      where
        m : Makes x.who reply.ask (reply_of x p)
            (record { counts = from.counts; state = Some from.state; heard = x.before.heard; shown = x.before.shown })
            (record { counts = to.counts; state = Some to.state; heard = x.after.heard; shown = x.after.shown })
        m =
            subst (λ (s : Seen). Makes x.who reply.ask (reply_of x p) (record { counts = from.counts; state = Some from.state; heard = x.before.heard; shown = x.before.shown }) s)
            (λ i. record { counts = after.counts i; state = after.state i; heard = x.after.heard; shown = x.after.shown })
            (subst (λ (s : Seen). Makes x.who reply.ask (reply_of x p) s x.after)
            (λ i. record { counts = before.counts i; state = before.state i; heard = x.before.heard; shown = x.before.shown }) reply.made)

    lease_told : (a : Reply) (l m : Claim) → RenewsLease x.who 600 a (leased l x.before) (leased m x.after)
        → RenewsLease x.who 600 a (leased l (told from.counts from.state None)) (leased m (told to.counts to.state (Some (reply_of x p))))
    lease_told (Renewed end) l m k = k
    lease_told Failed l m k = (k.0, λ s t e f. k.1 s t (before.state ∙ e) (after.state ∙ f))
    lease_told a l m k = k

    hand_told : (w : Work) → RenewsHand (deed_of_step x p) w (leases_of x.new.work)
        → RenewsHand (deed_of (deal_of x.who.session x reply.ask (reply_of x p)) x.who.event from to) w (leases_of x.new.work)
    hand_told (Renewing home) k = λ l there. lease_told (reply_of x p) home.lease l (k l there)
    hand_told w k = tt

    pub rows : from.sessions x.who.session ≡ x.old → to.sessions ≡ at x.who.session x.new from.sessions
        → (ask : Ask) × Does (calls (deal_of x.who.session x ask (reply_of x p))) from to
    rows old new = (
      reply.ask,
      record {
        deal = is_deal x.who.session;
        event = x.who.event;
        row = record { made = made_told; renewed = hand_told x.old.work (row_of x p).renewed };
        old = old;
        sessions = new;
      },
    )

-- ---- what is noted

pub noted : (tree : ℕ) (change : Change) (old new : Acting) → IsTree tree → IsChange change → length new.buffer ≤ 200 → MayCommit old.buffer → HasNoted tree change old new → IsAlone old new
noted tree change old new is_tree is few may n =
    subst (IsAlone old) (sym n.0)
    (notes _ n.1 (may_note old.buffer tree change is_tree is (subst (λ (a : Acting). length a.buffer ≤ 200) n.0 few) may))

pub dropped : (old new : Acting) → HasDropped old new → IsAlone old new
dropped old new n = subst (IsAlone old) (sym n.0) (notes _ n.1 may_none)

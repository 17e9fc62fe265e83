-- The steps of a session that has no checkpoint in hand keep what its notes meter.
use Rattle.std.proofs.Common.{◌≡◌, ◌≤◌, ◌+◌, ℕ, false, List, [], ◌∷◌, Option, Some, refl, sym, ap, subst, ◌∙◌, arith}
use Rattle.ckpt_policy.specs.declared.note.Note.{Note}
use Rattle.ckpt_policy.specs.declared.place.Place.{Place}
use Rattle.client_work.specs.declared.answer.Answer.{Answer}
use Rattle.client_work.specs.declared.answer.Answer.TheVariants as answer
use Rattle.client_work.specs.declared.work.Work.{Work}
use Rattle.client_work.specs.Session.{Acting, ask_of_work}
use Rattle.cloud_facts.proofs.Book.Names.{at_same}
use Rattle.cloud_facts.specs.Words.{Turn, More, Ended, CloudState, called, Caller, Seen, Ask}
use Rattle.cloud_trait.specs.Weather.{counted, Leaves}
use Rattle.db_base.specs.declared.wish.Wish.{Wish}
use Rattle.db_base.specs.declared.wish.Wish.TheVariants.{Plain}
use Rattle.session_facts.proofs.Lines.Outcome.{MadeCall, made_call}
use Rattle.session_facts.specs.Lines.Facts.{session_at}
use Rattle.session_notes.proofs.MeterLemmas.{adds_sends, call_metered}
use Rattle.session_notes.specs.Metered.{IsMetered, sent_since}
use Rattle.session_notes.specs.Notebook.{with_note}
use Rattle.session_facts.proofs.Writers.WorkSends.{IsNoDone, SendsOn, step_spends}
use Rattle.session_facts.specs.Writers.Sending.{SendsAtMost, ask_sends, hand_sends}
use Rattle.world_core.proofs.Ledgers.{ledger_changed, writer_steps}
use Rattle.world_core.proofs.StandsLemmas.{changed_at, changed_was}
use Rattle.world_core.specs.Handled.{ComesTo, NotesStep, StepsLooked, Went, further, is_done, note_of_hand, start}
use Rattle.world_core.specs.Metered.{Meters}
use Rattle.world_core.specs.World.{World}
use Rattle.world_core.specs.Span.{span_of}

-- a told cloud is metered so
pub record MetersSeen (session k bound : ℕ) (world : World) (seen : Seen) : Type 0 where
  pub state : CloudState
  pub told : seen.state ≡ Some state
  pub meters : Meters session k bound world state

not_done : (turn : Turn Answer) → IsNoDone turn → is_done turn ≡ false
not_done (Ended (answer.Done n)) none = absurd none
not_done turn none = refl

-- one call adds to a queue's sends no more than it sends
pub adds_call : (ask : Ask) (notes : List Note) (place : Place) → sent_since (with_note notes (note_of_hand (Some ask))) place ≤ sent_since notes place + ask_sends ask
adds_call ask notes place = let all = adds_sends (ask ∷ []) notes place in omega (arith, all)

module _ (who : Caller) (k bound : ℕ) (wish : Wish) (before after : Seen) (old new : World) (turn : Turn Answer) (p : StepsLooked who wish (span_of before after old new) turn) (t : CloudState)
    (told : before.state ≡ Some t) where
  abbrev wished : CloudState
  wished = record t { wish = wish }

  abbrev work : Work
  work = p.session.before.work

  pub told_wished : p.under.state ≡ Some wished
  told_wished = p.wishes.set t (p.look_before.stays t told)

  pub own_was : session_at old.sessions who.session ≡ p.session.before
  own_was = changed_was who.session _ old.sessions new.sessions p.session

  pub own_is : session_at new.sessions who.session ≡ p.session.after
  own_is = changed_at who.session _ old.sessions new.sessions p.session who.session ∙ at_same who.session p.session.after (session_at old.sessions) who.session refl

  made : MadeCall who p.under p.to work
  made = made_call who p.under p.to work p.session.after.work turn p.session.does.work

  left : Leaves who made.ask made.answer (counted p.under.counts wished) p.to.counts p.to.state
  left = made.made.state wished told_wished

  module _ (m : Meters who.session k bound old t) where
    spends : SendsOn m.left work p.session.after.work turn
    spends =
        step_spends m.left who p.under p.to work p.session.after.work turn p.session.does.work (subst (λ (a : Acting). SendsAtMost m.left a.work) own_was m.sends)

    abbrev later : List Note
    later = with_note m.notes (note_of_hand (ask_of_work work))

    later_is : later ≡ with_note m.notes (note_of_hand (Some made.ask))
    later_is = ap (λ (o : Option Ask). with_note m.notes (note_of_hand o)) made.hand

    metered : IsMetered later left.after
    metered =
        subst (λ (notes : List Note). IsMetered notes left.after) (sym later_is)
        (call_metered who made.ask made.answer p.under.counts p.to.counts (called who left.after.now wished) left.after left.row m.notes m.metered)

    within : (place : Place) → sent_since later place + spends.left ≤ bound
    within place =
        let adds : sent_since later place ≤ sent_since m.notes place + hand_sends (ask_of_work work) =
        subst (λ (o : Option Ask). sent_since (with_note m.notes (note_of_hand o)) place ≤ sent_since m.notes place + hand_sends o) (sym made.hand)
        (adds_call made.ask m.notes place) in
        let before_it = m.within place in
        let spent = spends.spent in
        omega (arith, adds, before_it, spent)

    pub meter_step : MetersSeen who.session k bound new after
    meter_step = record {
      state = left.after;
      told = p.look_after.stays left.after left.told;
      meters = record {
        notes = later;
        ledger = ledger_changed who.session k m.notes later (NotesStep work turn) old.notes new.notes p.notes
            (λ a b step is. writer_steps k m.notes work turn a b (not_done turn spends.none_done) step is) m.ledger;
        number = m.number;
        metered = metered;
        left = spends.left;
        sends = subst (λ (a : Acting). SendsAtMost spends.left a.work) (sym own_is) spends.leaves;
        within = within;
      };
    }

pub meter_went : (who : Caller) (k bound : ℕ) (before : Seen) (old : World) (after : Seen) (new : World) → MetersSeen who.session k bound old before → Went who before old after new
    → MetersSeen who.session k bound new after
meter_went who k bound before old after new m start = m
meter_went who k bound before old after new m (further mid _ world _ went step) =
    let here = meter_went who k bound before old mid world m went in
    meter_step who k bound Plain mid after world new More step here.state here.told here.meters

pub meter_comes : (who : Caller) (k bound : ℕ) (before after : Seen) (old new : World) (a : Answer) → MetersSeen who.session k bound old before → ComesTo who (span_of before after old new) a
    → MetersSeen who.session k bound new after
meter_comes who k bound before after old new a m c =
    let here = meter_went who k bound before old c.mid c.world m c.went in
    meter_step who k bound Plain c.mid after c.world new (Ended a) c.steps here.state here.told here.meters

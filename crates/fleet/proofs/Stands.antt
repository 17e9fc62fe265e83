-- At every moment of a course the store stands, with all sessions, for what was committed and applied.
use Rattle.std.proofs.Common.{◌≡◌, ℕ, List, [], ◌∷◌, refl, sym, ap, subst, ◌∙◌}
use Rattle.std.proofs.lemmas.Option.{same_Some}
use Rattle.client_work.specs.Session.{Acting, closed_session}
use Rattle.cloud_facts.specs.Book.Book.{Book, empty_book}
use Rattle.cloud_facts.specs.Book.Tally.{at}
use Rattle.cloud_facts.specs.Calls.Looks.{audit_of}
use Rattle.cloud_facts.specs.Words.{Entry, newest}
use Rattle.fleet.specs.Acts.{Act, Deal, calls, alone, dies, passes, begins, notes, settles, sweeps, IsDeal, IsAlone, Calls, Changes, Passes, Does, deed_of}
use Rattle.fleet.specs.Course.{Done, now, Course, history_by, history}
use Rattle.fleet.specs.Fleet.{Fleet, IsNew}
use Rattle.history.specs.Audited.{Audited}
use Rattle.session_facts.proofs.Sessions.Begins.{begins_keeps, settling_begins_session, sweeping_begins_session}
use Rattle.session_facts.proofs.Sessions.Laws.{buffer_keeps, crash_keeps, rest_keeps, same_sessions, starts}
use Rattle.session_facts.proofs.Sessions.Led.{led_of}
use Rattle.session_facts.proofs.Sessions.Outcome.{led_keeps}
use Rattle.session_facts.proofs.Sessions.Replied.{IsReplied, replied}
use Rattle.session_facts.specs.Sessions.Audited.{audited}
use Rattle.session_facts.specs.Sessions.Calls.{SessionStep, session_step, reply_of}
use Rattle.session_facts.specs.Sessions.Knows.{ground, Sessions, SessionsStand, Goes}
use Rattle.session_facts.specs.Sessions.Led.{LedOn, exchange_of, IsRow}

-- a store stands with all sessions under some book, and an audit has what is committed by it and the order
pub record Standing (f : Fleet) (a : Audited) : Type 0 where
  pub book : Book
  pub order : List Entry
  pub stand : SessionsStand book order f.state f.sessions
  pub seen : audit_of book order ≡ a

-- ---- a call

-- what the answer of a deal led its session to
pub deal_led : (d : Deal) → IsDeal d → LedOn (exchange_of d.ask d.answer d.turn) d.old d.new
deal_led d is = subst (λ a. LedOn (exchange_of d.ask a d.turn) d.old d.new) is.answered (subst (λ q. LedOn (exchange_of q (reply_of x is.steps) d.turn) d.old d.new) asked (led_of x is.steps))
  where
    x : SessionStep
    x = session_step is.who is.before is.after d.old d.new d.turn

    r : IsReplied is.who is.before is.after d.old.work (reply_of x is.steps)
    r = replied is.who is.before is.after d.old d.new d.turn is.steps

    asked : r.ask ≡ d.ask
    asked = same_Some r.ask d.ask (sym r.hand ∙ is.hand)

module _ (from to : Fleet) (a : Audited) (s : Standing from a) where
  pub call_goes : (d : Deal) → Calls d from to → Goes (ground s.book s.order from.state from.sessions) to.state d.program d.new
  call_goes d c =
      led_keeps (deed_of d c.event from to) from.state to.state s.book s.order from.sessions d.new d.turn refl refl s.stand
      (subst (λ old. LedOn (exchange_of d.ask d.answer d.turn) old d.new) (sym c.old) (deal_led d c.deal))
      (subst (λ (old : Acting). IsRow (deed_of d c.event from to) old.work d.new.work) (sym c.old) c.row)

  call_stands : (d : Deal) → Calls d from to → Standing to (history_by (calls d) from to a)
  call_stands d c =
      let goes : Goes (ground s.book s.order from.state from.sessions) to.state d.program d.new = call_goes d c in
      record {
        book = goes.book_after;
        order = goes.order_after;
        stand = subst (λ (f : Sessions). SessionsStand goes.book_after goes.order_after to.state f) (sym c.sessions) goes.stand;
        seen = sym goes.noted
            ∙ (ap (λ (old : Acting). audited (newest from.state) (newest to.state) old.work (audit_of s.book s.order)) c.old
            ∙ ap (λ b. audited (newest from.state) (newest to.state) d.old.work b) s.seen);
      }

  -- ---- without a call

  changed : (program : ℕ) (new : Acting) → SessionsStand s.book s.order from.state (at program new from.sessions) → Changes program new from to → Standing to a
  changed program new stand is = subst (λ f. Standing f a) (sym is) (record { book = s.book; order = s.order; stand = stand; seen = s.seen })

  alone_stands : (program : ℕ) (new : Acting) → IsAlone (from.sessions program) new → SessionsStand s.book s.order from.state (at program new from.sessions)
  alone_stands program new (begins op result n right b) = begins_keeps op s.book s.order from.state from.sessions program n result right s.stand b
  alone_stands program new (notes buffer ready may) = buffer_keeps s.book s.order from.state from.sessions program buffer may s.stand
  alone_stands program new (settles closed) = settling_begins_session s.book s.order from.state from.sessions program closed s.stand
  alone_stands program new (sweeps tree is closed) = sweeping_begins_session tree is s.book s.order from.state from.sessions program closed s.stand

  passed : Passes from to → Standing to a
  passed p = record {
    book = s.book;
    order = s.order;
    stand = subst (λ (f : Sessions). SessionsStand s.book s.order to.state f) (sym p.sessions)
        (rest_keeps s.book s.order from.state to.state from.sessions p.versions p.messages p.trace p.locks p.later s.stand);
    seen = s.seen;
  }

  pub act_stands : (x : Act) → Does x from to → Standing to (history_by x from to a)
  act_stands (calls d) c = call_stands d c
  act_stands (alone program new) (is, changes) = changed program new (alone_stands program new is) changes
  act_stands (dies program) changes = changed program closed_session (crash_keeps s.book s.order from.state from.sessions program s.stand) changes
  act_stands passes p = passed p

-- ---- along a course

begun : (start : Fleet) → IsNew start → Standing start (history start [])
begun start new = record {
  book = empty_book;
  order = [];
  stand = same_sessions empty_book [] start.state (λ n. closed_session) start.sessions new.closed (starts start.state new.empty);
  seen = refl;
}

pub course_stands : (start : Fleet) (h : List Done) → IsNew start → Course start h → Standing (now start h) (history start h)
course_stands start [] new course = begun start new
course_stands start (x ∷ h) new (course, does) = act_stands (now start h) x.fleet (history start h) (course_stands start h new course) x.act does

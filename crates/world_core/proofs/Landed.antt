-- What a session's notes say that it sent landed, where its steps were undisturbed, and stays.
use Rattle.std.proofs.Common.{◌≡◌, ◌≢◌, ◌≤◌, ◌⊎◌, inl, inr, ℕ, Bool, true, false, Ordering, List, [], ◌∷◌, ◌++◌, Option, Some, None, refl, sym, ap, subst, arith}
use Rattle.std.specs.declared.cmp.Ordering.TheVariants.{Less, Equal, Greater}
use Rattle.std.specs.Ordering.{is_eq}
use Rattle.ckpt_policy.proofs.NoteLemmas.{counts-other, one-place}
use Rattle.ckpt_policy.specs.declared.note.Note.{Note}
use Rattle.ckpt_policy.specs.declared.note.Note.TheVariants.{Sent as NotesSent}
use Rattle.ckpt_policy.specs.declared.place.Place.{Place}
use Rattle.ckpt_policy.specs.Notes.{is_here, place_cmp, place_of}
use Rattle.client_work.specs.declared.answer.Answer.{Answer}
use Rattle.client_work.specs.declared.work.Work.{Work}
use Rattle.client_work.specs.Session.{ask_of_work}
use Rattle.cloud_trait.proofs.NameLemmas.{queue_cmp-total}
use Rattle.cloud_trait.proofs.RowLemmas.{leaves_grown}
use Rattle.cloud_trait.proofs.StateLemmas.{put_at_same}
use Rattle.cloud_facts.specs.Words.{QueueName, Answer as Reply, Turn, Posted, CloudState, called, Caller, Seen, Ask, Get, GetHeld, PutHeld, Send, Receive, Delete, Take, Renew, Release}
use Rattle.cloud_trait.specs.Ask.{ListHeld, RemoveHeld}
use Rattle.cloud_trait.specs.Growth.{BeginsWith, HasGrown}
use Rattle.cloud_trait.specs.Names.{queue_cmp}
use Rattle.cloud_trait.specs.State.{Counts}
use Rattle.cloud_trait.specs.Upto.{posts_of}
use Rattle.cloud_trait.specs.Weather.{counted, Leaves, Weather}
use Rattle.cloud_trait.specs.declared.answer.Answer.TheVariants as call
use Rattle.db_base.specs.declared.names.QueueName.TheVariants.{Atomic, TreePu, PagePu}
use Rattle.db_base.specs.declared.wish.Wish.{Wish}
use Rattle.session_facts.proofs.Sessions.Replied.{IsReplied, replied}
use Rattle.session_facts.specs.Sessions.Calls.{session_step, reply_of}
use Rattle.session_notes.proofs.MeterLemmas.{adds_none, kept_less}
use Rattle.session_notes.specs.Metered.{SendNoMore, sent_since}
use Rattle.session_notes.specs.Notebook.{note_of_ask, note_of_end, with_note}
use Rattle.world_core.proofs.Ledgers.{book_after, book_before, writer_notes, writer_same}
use Rattle.world_core.specs.Alone.{StepIsUndisturbed}
use Rattle.world_core.specs.EachStep.{EachCome, EachWent, EachWork}
use Rattle.world_core.specs.Handled.{BeginsCheckpoint, ComesTo, StepsLooked, Went, Works, checkpoint_more, further, is_done, no_checkpoint, note_of_hand, start, gone_through}
use Rattle.world_core.specs.Metered.{HasLedger, IsWriters}
use Rattle.world_core.specs.Spared.{HasSent, HaveLanded}
use Rattle.world_core.specs.World.{World}
use Rattle.world_core.specs.Span.{span_of}

-- ---- messages

-- a queue that had a message has one
pub kept_some : (xs ys : List Posted) → BeginsWith (posts_of xs) (posts_of ys) → xs ≢ [] → ys ≢ []
kept_some [] ys begins some e = some refl
kept_some (x ∷ xs) [] (more, is) some e = absurd (cc (is))
kept_some (x ∷ xs) (y ∷ ys) begins some e = absurd (cc (e))

pushed_some : {X : Type 0} (xs : List X) (x : X) → xs ++ x ∷ [] ≢ []
pushed_some [] x e = absurd (cc (e))
pushed_some (y ∷ ys) x e = absurd (cc (e))

-- a send that found memory and did not fail leaves one
send_lands : (who : Caller) (queue : QueueName) (bytes : List ℕ) (a : Reply) (c d : Counts) (b t : CloudState) → Weather who (Send queue bytes) a (counted c b) (counted d t) → a ≢ call.Failed → a ≢ call.Memory
    → t.messages queue ≢ []
send_lands who queue bytes (call.Sent id) c d b t row failed memory =
    subst (λ (x : CloudState). x.messages queue ≢ []) (sym row.0.0)
    (subst (λ (ms : List Posted). ms ≢ [])
    (sym (put_at_same queue_cmp queue_cmp-total b.messages queue (b.messages queue ++ record { who = who; bytes = bytes; deleted = false } ∷ [])))
    (pushed_some (b.messages queue) (record { who = who; bytes = bytes; deleted = false })))
send_lands who queue bytes call.Failed c d b t row failed memory = absurd (failed refl)
send_lands who queue bytes call.Memory c d b t row failed memory = absurd (memory refl)
send_lands who queue bytes (call.Got v) c d b t row failed memory = absurd row
send_lands who queue bytes (call.Received ms) c d b t row failed memory = absurd row
send_lands who queue bytes (call.Listed ps) c d b t row failed memory = absurd row
send_lands who queue bytes call.Done c d b t row failed memory = absurd row
send_lands who queue bytes (call.Given l) c d b t row failed memory = absurd row
send_lands who queue bytes (call.Held until) c d b t row failed memory = absurd row
send_lands who queue bytes (call.Renewed e) c d b t row failed memory = absurd row
send_lands who queue bytes (call.Late e n) c d b t row failed memory = absurd row

-- ---- one note more

at_place : (place other : Place) → is_here place (Some other) ≡ true → place ≡ other
at_place place other is = one-place place other (on (place_cmp place other) is)
  where
    on : (o : Ordering) → is_eq o ≡ true → o ≡ Equal
    on Less h = absurd (cc (h))
    on Equal h = refl
    on Greater h = absurd (cc (h))

-- the queue of a page counts no send more, or the call is one
abbrev AddsNoSend : Ask → List Note → Place → Type 0
AddsNoSend ask notes place =
    (sent_since (with_note notes (note_of_ask ask)) place ≤ sent_since notes place) ⊎ ((bytes : List ℕ) × (ask ≡ Send (PagePu place.tree place.page) bytes))

tree_adds : (tree : ℕ) (bytes : List ℕ) (notes : List Note) (place : Place) → 1 ≤ place.page → AddsNoSend (Send (TreePu tree) bytes) notes place
tree_adds tree bytes notes place some = on (is_here place (place_of (TreePu tree))) refl
  where
    on : (b : Bool) → is_here place (place_of (TreePu tree)) ≡ b → AddsNoSend (Send (TreePu tree) bytes) notes place
    on true e =
        let none : place.page ≡ 0 = ap (λ (p : Place). p.page) (at_place place (record { tree = tree; page = 0 }) e) in
        absurd (omega (arith, none, some))
    on false e =
        let same : sent_since (notes ++ NotesSent (TreePu tree) ∷ []) place ≡ sent_since notes place = ap (λ c. c.sent) (counts-other (NotesSent (TreePu tree)) place e notes) in
        inl (omega (arith, same))

page_adds : (tree page : ℕ) (bytes : List ℕ) (notes : List Note) (place : Place) → AddsNoSend (Send (PagePu tree page) bytes) notes place
page_adds tree page bytes notes place = on (is_here place (place_of (PagePu tree page))) refl
  where
    on : (b : Bool) → is_here place (place_of (PagePu tree page)) ≡ b → AddsNoSend (Send (PagePu tree page) bytes) notes place
    on true e = inr (bytes, ap (λ (p : Place). Send (PagePu p.tree p.page) bytes) (sym (at_place place (record { tree = tree; page = page }) e)))
    on false e =
        let same : sent_since (notes ++ NotesSent (PagePu tree page) ∷ []) place ≡ sent_since notes place =
        ap (λ c. c.sent) (counts-other (NotesSent (PagePu tree page)) place e notes) in
        inl (omega (arith, same))

adds_so : (ask : Ask) (notes : List Note) (place : Place) → 1 ≤ place.page → AddsNoSend ask notes place
adds_so (Send (Atomic client) bytes) notes place some = inl (omega arith)
adds_so (Send (TreePu tree) bytes) notes place some = tree_adds tree bytes notes place some
adds_so (Send (PagePu tree page) bytes) notes place some = page_adds tree page bytes notes place
adds_so (Get name) notes place some = inl (adds_none (Get name) notes (λ q b e. absurd (cc (e))) place)
adds_so (GetHeld name l) notes place some = inl (omega arith)
adds_so (PutHeld name bytes one two) notes place some = inl (omega arith)
adds_so (ListHeld tree l) notes place some = inl (omega arith)
adds_so (RemoveHeld name l) notes place some = inl (omega arith)
adds_so (Receive queue most) notes place some = inl (omega arith)
adds_so (Delete queue id) notes place some = inl (omega arith)
adds_so (Take lock ticks) notes place some = inl (omega arith)
adds_so (Renew l ticks) notes place some = inl (omega arith)
adds_so (Release l) notes place some = inl (omega arith)

-- the end of a checkpoint counts none
end_less : (done : Bool) (queue : Option QueueName) (notes : List Note) → SendNoMore notes (with_note notes (note_of_end done queue))
end_less true (Some queue) notes = kept_less queue notes
end_less true None notes = λ place. omega arith
end_less false queue notes = λ place. omega arith

-- ---- one step

-- over a told cloud what a session's notes say that it sent landed
pub record HasSentSeen (session k : ℕ) (world : World) (seen : Seen) : Type 0 where
  pub state : CloudState
  pub told : seen.state ≡ Some state
  pub sent : HasSent session k world state

module _ (who : Caller) (wish : Wish) (before after : Seen) (old new : World) (turn : Turn Answer) (p : StepsLooked who wish (span_of before after old new) turn) (k : ℕ)
    (undisturbed : StepIsUndisturbed who wish (span_of before after old new) turn p) (h : HasSentSeen who.session k old before) where
  abbrev wished : CloudState
  wished = record h.state { wish = wish }

  abbrev w : Work
  w = p.session.before.work

  abbrev reply : Reply
  reply = reply_of (session_step who p.under p.to p.session.before p.session.after turn) p.session.does

  made : IsReplied who p.under p.to w reply
  made = replied who p.under p.to p.session.before p.session.after turn p.session.does

  left : Leaves who made.ask reply (counted p.under.counts wished) p.to.counts p.to.state
  left = made.made.state wished (p.wishes.set h.state (p.look_before.stays h.state h.told))

  grown : HasGrown wished left.after
  grown = leaves_grown who made.ask reply p.under.counts p.to.counts wished p.to.state left

  not_failed : reply ≢ call.Failed
  not_failed e =
      let rose = made.made.failed e in
      let same : p.to.counts.faults ≡ p.under.counts.faults = ap (λ (c : Counts). c.faults) undisturbed.counts in
      absurd (omega (arith, rose, same))

  abbrev notes : List Note
  notes = h.sent.notes

  abbrev mid : List Note
  mid = with_note notes (note_of_hand (ask_of_work w))

  abbrev later : List Note
  later = with_note mid (note_of_end (is_done turn) p.notes.does.called.queue)

  mid_is : mid ≡ with_note notes (note_of_ask made.ask)
  mid_is = ap (λ (o : Option Ask). with_note notes (note_of_hand o)) made.hand

  landed : HaveLanded later left.after
  landed place some many = on (adds_so made.ask notes place some)
    where
      sent_mid : 1 ≤ sent_since (with_note notes (note_of_ask made.ask)) place
      sent_mid =
          let less = end_less (is_done turn) p.notes.does.called.queue mid place in
          subst (λ (ns : List Note). 1 ≤ sent_since ns place) mid_is (omega (arith, less, many))

      on : AddsNoSend made.ask notes place → left.after.messages (PagePu place.tree place.page) ≢ []
      on (inl less) =
          let before_it : 1 ≤ sent_since notes place = omega (arith, less, sent_mid) in
          kept_some (h.state.messages (PagePu place.tree place.page)) (left.after.messages (PagePu place.tree place.page)) (grown.messages (PagePu place.tree place.page))
          (h.sent.landed place some before_it)
      on (inr (bytes, is)) =
          send_lands who (PagePu place.tree place.page) bytes reply p.under.counts p.to.counts (called who left.after.now wished) left.after
          (subst (λ (ask : Ask). Weather who ask reply (counted p.under.counts (called who left.after.now wished)) (counted p.to.counts left.after)) is left.row) not_failed undisturbed.heard

  was : IsWriters k notes p.notes.before
  was = subst (IsWriters k notes) (sym (book_before who.session _ old.notes new.notes h.sent.ledger.book p.notes h.sent.ledger.there)) h.sent.ledger.is

  ledger : HasLedger who.session k later new.notes
  ledger = record {
    book = p.notes.after;
    there = book_after who.session _ old.notes new.notes p.notes;
    is = writer_notes k mid (note_of_end (is_done turn) p.notes.does.called.queue) p.notes.does.called p.notes.after p.notes.does.end
        (writer_notes k notes (note_of_hand (ask_of_work w)) p.notes.before p.notes.does.called p.notes.does.call was);
  }

  pub step_sent : HasSentSeen who.session k new after
  step_sent = record {
    state = left.after;
    told = p.look_after.stays left.after left.told;
    sent = record { notes = later; ledger = ledger; number = h.sent.number; landed = landed };
  }

-- ---- steps

module _ (who : Caller) (k : ℕ) where
  went_sent : (before : Seen) (old : World) (after : Seen) (new : World) → (went : Went who before old after new) → EachWent StepIsUndisturbed went
      → HasSentSeen who.session k old before → HasSentSeen who.session k new after
  went_sent before old after new start undisturbed h = h
  went_sent before old after new (further mid _ world _ went step) undisturbed h =
      step_sent who _ mid after world new _ step k undisturbed.1 (went_sent before old mid world went undisturbed.0 h)

  pub comes_sent : (before after : Seen) (old new : World) (a : Answer) → (comes : ComesTo who (span_of before after old new) a) → EachCome StepIsUndisturbed who (span_of before after old new) a comes
      → HasSentSeen who.session k old before → HasSentSeen who.session k new after
  comes_sent before after old new a comes undisturbed h =
      step_sent who _ comes.mid after comes.world new _ comes.steps k undisturbed.1 (went_sent before old comes.mid comes.world comes.went undisturbed.0 h)

  begun_sent : (queue : QueueName) (seen : Seen) (old begun : World) → BeginsCheckpoint who.session queue old begun → HasSentSeen who.session k old seen → HasSentSeen who.session k begun seen
  begun_sent queue seen old begun b h = record {
    state = h.state;
    told = h.told;
    sent = record {
      notes = h.sent.notes;
      ledger = record {
        book = b.notes.after;
        there = book_after who.session _ old.notes begun.notes b.notes;
        is = writer_same k h.sent.notes b.notes.before b.notes.after (ap (λ z. z.ledger) b.notes.does)
            (subst (IsWriters k h.sent.notes) (sym (book_before who.session _ old.notes begun.notes h.sent.ledger.book b.notes h.sent.ledger.there)) h.sent.ledger.is);
      };
      number = h.sent.number;
      landed = h.sent.landed;
    };
  }

  pub works_sent : (before : Seen) (old : World) (queues : List QueueName) (done passed : ℕ) (after : Seen) (new : World) → (works : Works who before old (gone_through queues done passed) after new)
      → EachWork StepIsUndisturbed works → HasSentSeen who.session k old before → HasSentSeen who.session k new after
  works_sent before old queues done passed after new no_checkpoint undisturbed h = h
  works_sent before old queues done passed after new (checkpoint_more others kept left mid world queue a _ _ works makes passes) undisturbed h =
      comes_sent mid after makes.begun new a makes.comes undisturbed.1 (begun_sent queue mid world makes.begun makes.begins (works_sent before old others kept left mid world works undisturbed.0 h))

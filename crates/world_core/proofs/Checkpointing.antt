-- The checkpoints of a session's work, as the world makes them; and what its steps leave of the session's notes.
use Rattle.std.proofs.Common.{◌≡◌, ◌≤◌, ◌<◌, ◌+◌, ◌⊎◌, inl, inr, ℕ, Bool, true, false, List, [], ◌∷◌, ◌++◌, length, Option, Some, None, Result, Ok, Err, refl, sym, ap, subst, ◌∙◌, arith, append_assoc}
use Rattle.std.specs.Prelude.{All, OnErr, not, slice_get, slice_set}
use Rattle.std.proofs.lemmas.List.Elements.{All-tail}
use Rattle.db_base.specs.declared.wish.Wish.{Wish}
use Rattle.db_base.specs.declared.wish.Wish.TheVariants.{Plain}
use Rattle.std.proofs.lemmas.List.{get_or-set_same, length-set, set-set}
use Rattle.std.proofs.lemmas.Option.{slice_get_within, slice_get-get_or}
use Rattle.ckpt_policy.specs.Notes.{IsPending}
use Rattle.client_work.specs.declared.answer.Answer.{Answer}
use Rattle.client_work.specs.declared.answer.Answer.TheVariants as answer
use Rattle.client_work.specs.declared.answer.Begun.{Begun}
use Rattle.client_work.specs.declared.answer.Begun.TheVariants.{Working}
use Rattle.client_work.specs.declared.work.Work.{Work}
use Rattle.client_work.specs.declared.work.Work.TheVariants.{Idle, Paging, Folding}
use Rattle.client_work.specs.Session.{Acting, Begins, StepsAt, StepsSession, ask_of_work, open_client, rule_of}
use Rattle.cloud_facts.specs.Words.{Trouble, QueueName, Turn, Ended, newest, Caller, Seen, Ask, PutHeld}
use Rattle.ckpt_policy.specs.Ledger.{Account}
use Rattle.cloud_trait.specs.declared.turn.CkptAnswer.{CkptAnswer}
use Rattle.db_base.specs.declared.names.QueueName.TheVariants.{Atomic, TreePu, PagePu}
use Rattle.db_base.specs.declared.refusal.Refused.{Refused}
use Rattle.db_base.specs.declared.refusal.Refused.TheVariants as refused
use Rattle.recover_run.specs.declared.home.Home.{Home}
use Rattle.session_facts.specs.Lines.Facts.{session_at}
use Rattle.session_facts.specs.Sessions.Knows.{Sessions}
use Rattle.session_facts.proofs.Rows.CallKinds.{HasCheckpoint}
use Rattle.session_facts.proofs.Sessions.Lists.{session_there}
use Rattle.session_notes.specs.declared.notebook.Notebook.{Notebook}
use Rattle.session_notes.specs.Notebook.{ChangesBook, GoesOnBy, GoesOnEnded, LedgerTakes}
use Rattle.world_core.specs.World.{World}
use Rattle.world_core.specs.Put.{Put, put_of, put_of_hand}
use Rattle.world_core.specs.Sessions.{Changes, HasPut, IsAtWork}
use Rattle.world_core.specs.Stands.{Grows}
use Rattle.world_core.specs.Handled.{BeginsCheckpoint, ComesTo, IsOpen, FallsShort, MakesOne, NotesCall, NotesEnd, NotesStep, SetsWish, StepsLooked, Works, no_checkpoint, checkpoint_more, as_one, checkpoint_of, done_by, is_done, note_of_hand, gone_through}
use Rattle.world_core.specs.Span.{Span, span_of}
use Rattle.world_core.proofs.Going.{after_there, put_before, same_session}
use Rattle.world_core.proofs.GrowthLemmas.{grows_between}
use Rattle.world_core.proofs.Landing.{audited_none}
use Rattle.world_core.proofs.Marks.{newest_call}
use Rattle.world_audit.proofs.Looks.{looked_not}
use Rattle.world_core.proofs.StandsLemmas.{changed_was}
use Rattle.world_core.proofs.Workers.{IsBetween, IsIdle, IsInside, begun_has, open_home, open_rests, within_begun, within_made, within_went}

-- ---- what a session has

-- the session of a number is open, where it is between two checkpoints
pub between_open : (number : ℕ) (home : Home) (first : Sessions) (world : World) (a : Acting) → slice_get world.sessions number ≡ Some a → IsBetween number home first world
    → IsOpen number world.sessions
between_open number home first world a there w = record {
  session = a;
  there = there;
  client = home.client;
  opened = ap open_client (ap (λ (x : Acting). x.work) (sym (session_there world.sessions number a there)) ∙ w.works);
}

-- ---- a begin

-- the begin of a checkpoint of an open session is not refused
begins_open : (queue : QueueName) (a b : Acting) (home : Home) (result : Result Begun Refused) → IsPending queue → IsIdle home a.work → Begins (checkpoint_of queue) a b result
    → result ≡ Ok Working
begins_open (TreePu tree) a b home (Ok begun) pending idle begins = ap (λ (x : Begun). Ok x) begins.2.0
begins_open (PagePu tree page) a b home (Ok begun) pending idle begins = ap (λ (x : Begun). Ok x) begins.2.0
begins_open (TreePu tree) a b home (Err (refused.Rule rule)) pending idle begins = absurd (let e : rule_of (Idle home) ≡ Some rule = subst (λ w. rule_of w ≡ Some rule) idle begins.0 in cc)
begins_open (PagePu tree page) a b home (Err (refused.Rule rule)) pending idle begins = absurd (let e : rule_of (Idle home) ≡ Some rule = subst (λ w. rule_of w ≡ Some rule) idle begins.0 in cc)
begins_open (TreePu tree) a b home (Err refused.Memory) pending idle begins = absurd begins
begins_open (PagePu tree page) a b home (Err refused.Memory) pending idle begins = absurd begins
begins_open (Atomic client) a b home result pending idle begins = absurd pending

checkpoint_hand : (home : Home) (w : Work) → HasCheckpoint home w → (ask : Ask) × (ask_of_work w ≡ Some ask)
checkpoint_hand home (Paging h m) is = (_, refl)
checkpoint_hand home (Folding h f) is = (_, refl)
checkpoint_hand home w is = absurd is

-- an open session whose checkpoint begins has it in hand
module _ (number : ℕ) (queue : QueueName) (old new : List Acting) (result : Result Begun Refused) (opened : IsOpen number old) (pending : IsPending queue)
    (c : Changes number (λ a b. Begins (checkpoint_of queue) a b result) old new) where
  home_before : (home : Home) × IsIdle home c.before.work
  home_before =
      let h = open_home opened.session.work opened.client opened.opened in
      (h.0, subst (λ (a : Acting). IsIdle h.0 a.work) (same_session old number opened.session c.before opened.there c.there) h.1)

  pub begins_working : Changes number (λ a b. Begins (checkpoint_of queue) a b (Ok Working)) old new
  begins_working = record {
    before = c.before;
    after = c.after;
    there = c.there;
    does = subst (λ (x : Result Begun Refused). Begins (checkpoint_of queue) c.before c.after x)
        (begins_open queue c.before c.after home_before.0 result pending home_before.1 c.does) c.does;
    rest = c.rest;
  }

  pub begun_works : IsAtWork number new
  unfolding begins_working home_before
  begun_works =
      let b = begins_working in
      let hand = checkpoint_hand home_before.0 b.after.work (begun_has home_before.0 queue b.before b.after pending b.does home_before.1).0 in
      record { session = b.after; there = after_there number _ old new b; ask = hand.0; hand = hand.1 }

-- ---- an answer

-- the answer of a checkpoint
abbrev pub IsOfCheckpoint : Answer → Type 0
IsOfCheckpoint (answer.Done n) = Unit {0}
IsOfCheckpoint (answer.Trouble t) = Unit {0}
IsOfCheckpoint a = ⊥

checkpoint_answers : (who : Caller) (before after : Seen) (home : Home) (w new : Work) (a : Answer) → StepsAt who before after w new (Ended a) → HasCheckpoint home w → IsOfCheckpoint a
checkpoint_answers who before after home (Paging h m) new (answer.Done n) p is = tt
checkpoint_answers who before after home (Paging h m) new (answer.Trouble t) p is = tt
checkpoint_answers who before after home (Paging h m) new a p is = absurd p
checkpoint_answers who before after home (Folding h f) new (answer.Done n) p is = tt
checkpoint_answers who before after home (Folding h f) new (answer.Trouble t) p is = tt
checkpoint_answers who before after home (Folding h f) new a p is = absurd p
checkpoint_answers who before after home w new a p is = absurd is

pub answers_checkpoint : (who : Caller) (queue : QueueName) (before after : Seen) (old begun new : World) (a : Answer) → IsOpen who.session old.sessions
    → BeginsCheckpoint who.session queue old begun → ComesTo who (span_of before after begun new) a → IsOfCheckpoint a
answers_checkpoint who queue before after old begun new a opened b c =
    checkpoint_answers who p.under p.to rest.0 p.session.before.work p.session.after.work a p.session.does.work
    (subst (λ (x : Acting). HasCheckpoint rest.0 x.work) (changed_was who.session _ c.world.sessions new.sessions p.session) inside.works)
  where
    p : StepsLooked who Plain (span_of c.mid after c.world new) (Ended a)
    p = c.steps

    rest : (home : Home) × (home.client ≡ opened.client) × IsBetween who.session home (session_at old.sessions) old
    rest = open_rests who.session old opened

    inside : IsInside who.session rest.0 (session_at old.sessions) c.world
    inside =
        within_went who rest.0 (session_at old.sessions) before begun c.mid c.world (within_begun who.session rest.0 (session_at old.sessions) queue old begun rest.2 b) c.went

-- one was made, and the session is open behind it
pub stays_open : (who : Caller) (queue : QueueName) (done : Bool) (before after : Seen) (old new : World) → IsOpen who.session old.sessions → MakesOne who queue done (span_of before after old new)
    → IsOpen who.session new.sessions
stays_open who queue done before after old new opened m =
    between_open who.session rest.0 (session_at old.sessions) new p.session.after (after_there who.session _ m.makes.comes.world.sessions new.sessions p.session)
    (within_made who rest.0 (session_at old.sessions) queue before after old new m.answer m.passes rest.2 m.makes)
  where
    p : StepsLooked who Plain (span_of m.makes.comes.mid after m.makes.comes.world new) (Ended m.answer)
    p = m.makes.comes.steps

    rest : (home : Home) × (home.client ≡ opened.client) × IsBetween who.session home (session_at old.sessions) old
    rest = open_rests who.session old opened

-- ---- one after another

-- of at most so many checkpoints so many were done, and so many passed over
pub record Headway : Type 0 where
  pub most : ℕ
  pub done : ℕ
  pub passed : ℕ

abbrev pub headway : ℕ → ℕ → ℕ → Headway
headway most done passed = record { most = most; done = done; passed = passed }

-- some checkpoints are made, and these queues are left
pub record IsGoing (who : Caller) (queues left : List QueueName) (so : Headway) (span : Span) : Type 0 where
  pub gone : List QueueName
  pub whole : queues ≡ gone ++ left
  pub works : Works who span.before span.old (gone_through gone so.done so.passed) span.after span.new
  pub opened : IsOpen who.session span.new.sessions
  pub pending : All IsPending left
  pub done_most : so.done + length left ≤ so.most
  pub passed_most : so.passed + length left ≤ so.most

pub going_first : (who : Caller) (queues : List QueueName) (most : ℕ) (before : Seen) (old : World) → most ≡ length queues → IsOpen who.session old.sessions → All IsPending queues
    → IsGoing who queues queues (headway most 0 0) (span_of before before old old)
going_first who queues most before old is opened pending = record {
  gone = [];
  whole = refl;
  works = no_checkpoint;
  opened = opened;
  pending = pending;
  done_most = omega (arith, is);
  passed_most = omega (arith, is);
}

pub going_more : (who : Caller) (queues left rest : List QueueName) (queue : QueueName) (most done passed done_after passed_after : ℕ) (kept : Bool) (before mid after : Seen) (old world new : World)
    → left ≡ queue ∷ rest → IsGoing who queues left (headway most done passed) (span_of before mid old world) → MakesOne who queue kept (span_of mid after world new)
    → done_after ≡ done + as_one kept → passed_after ≡ passed + as_one (not kept) → IsGoing who queues rest (headway most done_after passed_after) (span_of before after old new)
going_more who queues left rest queue most done passed done_after passed_after kept before mid after old world new is g m d p = record {
  gone = g.gone ++ queue ∷ [];
  whole = g.whole ∙ ap (λ l. g.gone ++ l) is ∙ sym (append_assoc g.gone (queue ∷ []) rest);
  works = subst (λ j. Works who before old (gone_through (g.gone ++ queue ∷ []) j passed_after) after new) (sym (d ∙ ap (λ i. done + i) (sym m.kept)))
      (subst (λ j. Works who before old (gone_through (g.gone ++ queue ∷ []) (done + done_by m.answer) j) after new) (sym (p ∙ ap (λ i. passed + i) (sym m.passed)))
      (checkpoint_more g.gone done passed mid world queue m.answer after new g.works m.makes m.passes));
  opened = stays_open who queue kept mid after world new g.opened m;
  pending = All-tail IsPending queue rest (subst (All IsPending) is g.pending);
  done_most = less done done_after (as_one kept) d (one_at_most kept) (subst (λ l. done + length l ≤ most) is g.done_most);
  passed_most = less passed passed_after (as_one (not kept)) p (one_at_most (not kept)) (subst (λ l. passed + length l ≤ most) is g.passed_most);
}
  where
    one_at_most : (b : Bool) → as_one b ≤ 1
    one_at_most true = omega arith
    one_at_most false = omega arith

    less : (n m i : ℕ) → m ≡ n + i → i ≤ 1 → n + length (queue ∷ rest) ≤ most → m + length rest ≤ most
    less n m i e one within = omega (arith, e, one, within)

-- ---- notes

set_there : {X : Type 0} (items : List X) (place : ℕ) (before after : X) → slice_get items place ≡ Some before → slice_get (slice_set items place after) place ≡ Some after
set_there items place before after there =
    let within : place < length items = slice_get_within items place before there in
    let more : place < length (slice_set items place after) = subst (λ n. place < n) (sym (length-set items place after)) within in
    slice_get-get_or (slice_set items place after) place after more ∙ ap Some (get_or-set_same items place after after within)

same_book : (books : List Notebook) (place : ℕ) (a b : Notebook) → slice_get books place ≡ Some a → slice_get books place ≡ Some b → a ≡ b
same_book books place a b e f = let g : Some a ≡ Some b = sym e ∙ f in cc

-- a call noted before it was made, and what came of it behind it
pub notes_step : (number : ℕ) (old : World) (w : Work) (mid new : List Notebook) (noted : World) (turn : Turn Answer) (done : Bool) (a : Acting) → NotesCall number old noted → noted.notes ≡ mid
    → slice_get old.sessions number ≡ Some a → a.work ≡ w → done ≡ is_done turn → ChangesBook number (GoesOnEnded done) mid new → ChangesBook number (NotesStep w turn) old.notes new
notes_step number old w mid new noted turn done a n is there work same c = record {
  before = n.notes.before;
  after = c.after;
  there = n.notes.there;
  does = record {
    called = n.notes.after;
    call = subst (λ (x : Work). GoesOnBy (note_of_hand (ask_of_work x)) n.notes.before n.notes.after) own n.notes.does;
    end = subst (λ b. GoesOnEnded b n.notes.after c.after) same (subst (λ x. GoesOnEnded done x c.after) matched c.does);
  };
  rest = c.rest ∙ ap (λ l. slice_set l number c.after) middle ∙ set-set old.notes number n.notes.after c.after;
}
  where
    own : n.session.work ≡ w
    own = ap (λ (x : Acting). x.work) (same_session old.sessions number n.session a n.there there) ∙ work

    middle : mid ≡ slice_set old.notes number n.notes.after
    middle = sym is ∙ n.notes.rest

    matched : c.before ≡ n.notes.after
    matched = same_book mid number c.before n.notes.after c.there (ap (λ l. slice_get l number) middle ∙ set_there old.notes number n.notes.before n.notes.after n.notes.there)

-- a put is not noted
goes_nothing : (b : Notebook) → GoesOnBy None b b
goes_nothing b = record { ledger = on b.ledger; queue = refl }
  where
    on : (ledger : Option Account) → LedgerTakes None ledger ledger
    on None = refl
    on (Some a) = record { rule = record { role = refl; k = refl; client = refl }; stands = λ notes h. h }

put_unnoted : (ask : Option Ask) (put : Put) → put_of_hand ask ≡ Some put → note_of_hand ask ≡ None
put_unnoted (Some (PutHeld name bytes one two)) put e = refl
put_unnoted (Some ask) put e = absurd (cc)
put_unnoted None put e = absurd (cc)

pub notes_put : (number : ℕ) (books new : List Notebook) (w : Work) (put : Put) (turn : Turn Answer) (done : Bool) → put_of w ≡ Some put → done ≡ is_done turn
    → ChangesBook number (GoesOnEnded done) books new → ChangesBook number (NotesStep w turn) books new
notes_put number books new w put turn done is same c = record {
  before = c.before;
  after = c.after;
  there = c.there;
  does = record {
    called = c.before;
    call = subst (λ n. GoesOnBy n c.before c.before) (sym (put_unnoted (ask_of_work w) put is)) (goes_nothing c.before);
    end = subst (λ b. GoesOnEnded b c.before c.after) same c.does;
  };
  rest = c.rest;
}

-- ---- a begin, whatever it is of

-- no other answer ends a checkpoint
pub answers_none : (a : Answer) → ((n : CkptAnswer) → a ≡ answer.Done n → ⊥) → ((t : Trouble) → a ≡ answer.Trouble t → ⊥) → IsOfCheckpoint a → ⊥
answers_none (answer.Done n) done troubled is = done n refl
answers_none (answer.Trouble t) done troubled is = troubled t refl
answers_none a done troubled is = absurd is

-- ---- a step that is noted

-- what a step does to the sessions, where notes are taken before it and behind it
step_moves : (who : Caller) (under to : Seen) (old noted called new : List Acting) (turn : Turn Answer) → noted ≡ old → Changes who.session (λ a b. StepsSession who under to a b (Ok turn)) noted called
    → new ≡ called → Changes who.session (λ a b. StepsSession who under to a b (Ok turn)) old new
step_moves who under to old noted called new turn first s last = record {
  before = s.before;
  after = s.after;
  there = ap (λ l. slice_get l who.session) (sym first) ∙ s.there;
  does = s.does;
  rest = last ∙ s.rest ∙ ap (λ l. slice_set l who.session s.after) first;
}

-- a step at whose put nothing looks is none, where its world is not blind
no_put_of : {P : Type 0} → (blind : Bool) → blind ≡ false → (blind ≡ true) ⊎ P → P
no_put_of blind sees (inl blinded) = absurd (let never : false ≡ true = sym sees ∙ blinded in cc)
no_put_of blind sees (inr none) = none

pub step_noted : (who : Caller) (wish : Wish) (before under to : Seen) (old noted called new : World) (turn : Turn Answer) (done : Bool) → (old.blind ≡ true) ⊎ HasPut who.session old.sessions None
    → NotesCall who.session old noted → SetsWish wish before under → Changes who.session (λ a b. StepsSession who under to a b (Ok turn)) noted.sessions called.sessions → called.audit ≡ noted.audit
    → called.blind ≡ noted.blind → called.notes ≡ noted.notes → done ≡ is_done turn → NotesEnd who.session done called new → StepsLooked who wish (span_of before to old new) turn
step_noted who wish before under to old noted called new turn done unlooked n sets s audit blind notes same e =
    let m : Changes who.session (λ a b. StepsSession who under to a b (Ok turn)) old.sessions new.sessions =
    step_moves who under to old.sessions noted.sessions called.sessions new.sessions turn n.sessions s e.sessions in
    let sees : new.blind ≡ old.blind = e.blind ∙ blind ∙ n.blind in
    record {
      from = before;
      under = under;
      to = to;
      look_before = looked_not before;
      wishes = sets;
      session = m;
      look_after = looked_not to;
      newest_call = newest_call who wish before before under to to who.session old.sessions new.sessions turn (looked_not before) sets m (looked_not to);
      saw = λ b. sym sees ∙ b;
      blinded = λ b. inl (sym sees ∙ b);
      audit = λ b x y first second. e.audit ∙ audit ∙ n.audit
          ∙ audited_none (newest x) (newest y) m.before.work old.audit (put_before who.session old.sessions None m.before (no_put_of old.blind (sym sees ∙ b) unlooked) m.there);
      notes = notes_step who.session old m.before.work called.notes new.notes noted turn done m.before n (sym notes) m.there refl same e.notes;
    }

-- where there was no memory for the note behind it
pub step_unnoted : (who : Caller) (wish : Wish) (before under to : Seen) (old noted called new : World) (turn : Turn Answer) (done : Bool) → NotesCall who.session old noted → SetsWish wish before under
    → Changes who.session (λ a b. StepsSession who under to a b (Ok turn)) noted.sessions called.sessions → called.blind ≡ noted.blind → done ≡ is_done turn → done ≡ true → new ≡ called
    → FallsShort who wish (span_of before to old new)
step_unnoted who wish before under to old noted called new turn done n sets s blind same was e = inr (record {
  from = before;
  under = under;
  to = to;
  turn = turn;
  look_before = looked_not before;
  wishes = sets;
  undone = inr (sym same ∙ was);
  session = step_moves who under to old.sessions noted.sessions called.sessions new.sessions turn n.sessions s (ap (λ (w : World). w.sessions) e);
  look_after = looked_not to;
  blind = ap (λ (w : World). w.blind) e ∙ blind ∙ n.blind;
})

-- whatever was noted, the cloud grows by the step
pub step_grows : (who : Caller) (wish : Wish) (before under to : Seen) (noted called : World) (turn : Turn Answer) → SetsWish wish before under
    → Changes who.session (λ a b. StepsSession who under to a b (Ok turn)) noted.sessions called.sessions → Grows who.event before to
step_grows who wish before under to noted called turn sets s =
    grows_between who wish before before under to to who.session noted.sessions called.sessions turn (looked_not before) sets s (looked_not to)

-- what holds anyway holds of an error
pub on_err_all : {T E P : Type 0} → (r : Result T E) → P → OnErr r P
on_err_all (Ok t) p = tt
on_err_all (Err e) p = p

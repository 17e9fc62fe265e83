-- A load whose steps were all calm stops for want of memory alone.
use Rattle.std.proofs.Common.{suc, ◌≡◌, ◌≢◌, ◌+◌, ◌<◌, ◌^◌, ◌==◌, ◌⊎◌, ℕ, List, [], ◌∷◌, ◌++◌, length, map, Some, Ok, Bool, true, false, if◌then◌else◌, refl, sym, ap, subst, ◌∙◌, append_assoc, inl, inr, arith, length-append}
use Rattle.std.specs.Prelude.{replicate}
use Rattle.std.proofs.lemmas.Bool.{eq-eqb}
use Rattle.client_work.specs.Session.{Acting, closed_session}
use Rattle.cloud_facts.specs.Words.{Trouble, CommitAnswer, CloudState, Seen}
use Rattle.cloud_trait.specs.State.{IsEmptyCloud}
use Rattle.db_base.specs.declared.trouble.CommitAnswer.TheVariants.{Committed, NotCommitted, InDoubt, CommittedOpen}
use Rattle.db_base.specs.declared.trouble.Counter.{Counter}
use Rattle.db_base.specs.declared.trouble.Counter.TheVariants as counter
use Rattle.db_base.specs.declared.trouble.Trouble.TheVariants as trouble
use Rattle.dump_text.specs.declared.dump.DumpedTree.{DumpedTree}
use Rattle.event_text.specs.declared.event.Event.{Event}
use Rattle.event_text.specs.declared.event.Event.TheVariants as event
use Rattle.load_plan.specs.Events.{load_events}
use Rattle.load_plan.proofs.EventLemmas.{Each, each_first, each_last, before_settling, load_split, load_each}
use Rattle.reply_text.specs.declared.reply.Reply.{Reply}
use Rattle.reply_text.specs.declared.reply.Reply.TheVariants as reply
use Rattle.replay_meaning.specs.Standing.{Line, Standing, Posture, session_of, standing, after_line, after_own}
use Rattle.schedule_run.proofs.Loads.Numbered.{AtMost, IsLoadEvent, own_work, line_at_most}
use Rattle.schedule_run.proofs.Loads.Unspent.{commit_spent, run_unspent}
use Rattle.session_facts.proofs.Machines.CommitRuns.Attempts.{no_attempt}
use Rattle.session_facts.proofs.Lines.Committed.{standing_line}
use Rattle.session_facts.proofs.Lines.Start.{closed_at}
use Rattle.session_facts.proofs.Rows.Late.{spends_late}
use Rattle.session_facts.specs.Lines.Facts.{session_at}
use Rattle.session_facts.specs.Rows.Late.{SpendsLate}
use Rattle.session_facts.specs.Sessions.Spent.{IsSpentToOpen, IsSpentToCommit, IsSpentToSettle, IsSpentInTree}
use Rattle.session_facts.specs.Sessions.Untroubled.{IsUntroubled, IsSpent}
use Rattle.world_core.specs.Calm.{StepIsCalm, RepliesWell, RunsWell, work_at}
use Rattle.world_core.specs.EachStep.{EachStep}
use Rattle.world_core.specs.Handled.{Handled}
use Rattle.world_core.specs.World.{World, all_sessions}
use Rattle.world_core.specs.Span.{span_of}
use Rattle.schedule_run.specs.Answered.{IsNew, WentOn, start, further, AreExplained, IsExplained}
use Rattle.schedule_run.specs.InPlay.{Play}
use Rattle.schedule_run.specs.Load.{goes_on, stop_of}
use Rattle.schedule_run.specs.LoadCalm.{AreCalm}
use Rattle.schedule_run.specs.declared.load.LoadStop.TheVariants.{Memory}
use Rattle.schedule_run.specs.Shell.{IsWhole, alone, with_run, AreWhole, no_events, more_events, WereRun}
use Rattle.schedule_run.proofs.BehindLemmas.{lines_left}
use Rattle.schedule_run.proofs.LoadFronts.{last_of}
use Rattle.schedule_run.proofs.LoadLogged.{fresh_numbered}
use Rattle.schedule_run.proofs.OnceLemmas.{went_adds}
use Rattle.schedule_run.proofs.SoundLemmas.{same_some}

-- ---- lists

never : {P : Type 0} {A : Type 0} (xs : List A) (x : A) (ys : List A) → [] ≡ xs ++ x ∷ ys → P
never xs x ys e =
    let long : 0 ≡ length xs + suc (length ys) = ap length e ∙ length-append xs (x ∷ ys) in
    absurd (omega (arith, long))

ends_same : {A : Type 0} (xs ys : List A) (x y : A) → xs ++ x ∷ [] ≡ ys ++ y ∷ [] → (xs ≡ ys) × (x ≡ y)
ends_same [] [] x y e = let same : x ≡ y = cc in (refl, same)
ends_same [] (b ∷ ys) x y e = let rest : [] ≡ ys ++ y ∷ [] = cc in never ys y [] rest
ends_same (a ∷ xs) [] x y e = let rest : [] ≡ xs ++ x ∷ [] = cc in never xs x [] rest
ends_same (a ∷ xs) (b ∷ ys) x y e =
    let first : a ≡ b = cc in
    let rest : xs ++ x ∷ [] ≡ ys ++ y ∷ [] = cc in
    let both = ends_same xs ys x y rest in
    (ap (λ zs. a ∷ zs) both.0 ∙ ap (λ c. c ∷ ys) first, both.1)

-- ---- events of session 1

abbrev IsOne : Event → Type 0
IsOne e = session_of e ≡ 1

abbrev Ones : List Event → Type 0
Ones events = Each IsOne events

load_one : (trees : List DumpedTree) → Ones (before_settling trees)
load_one trees = load_each IsOne (record { opens = refl; inserts = λ p. refl; commits = refl; folds = λ tree. refl; renews = refl; closes = refl }) trees

-- an event among these is of session 1, or it is the settling
abbrev IsOfLoad : Event → Type 0
IsOfLoad e = (session_of e ≡ 1) ⊎ (e ≡ event.Settle)

-- of those before the settling a first part, and the one behind it
each_upto : (P : Event → Type 0) (front earlier later : List Event) (e : Event) → front ++ event.Settle ∷ [] ≡ earlier ++ e ∷ later → Each P front
    → Each P earlier × (P e ⊎ (e ≡ event.Settle))
each_upto P [] [] later e at each = let same : e ≡ event.Settle = cc in (tt, inr same)
each_upto P (f ∷ front) [] later e at each = let same : f ≡ e = cc in (tt, inl (subst P same each.0))
each_upto P [] (x ∷ earlier) later e at each = let rest : [] ≡ earlier ++ e ∷ later = cc in never earlier e later rest
each_upto P (f ∷ front) (x ∷ earlier) later e at each =
    let same : f ≡ x = cc in
    let rest : front ++ event.Settle ∷ [] ≡ earlier ++ e ∷ later = cc in
    let behind = each_upto P front earlier later e rest each.1 in
    ((subst P same each.0, behind.0), behind.1)

-- ---- lines of such events

abbrev LinesOf : (Event → Type 0) → List Line → Type 0
LinesOf P [] = Unit {0}
LinesOf P (line ∷ lines) = P line.event × LinesOf P lines

abbrev LinesOne : List Line → Type 0
LinesOne lines = LinesOf IsOne lines

module _ (P : Event → Type 0) where
  lines_both : (xs ys : List Line) → LinesOf P xs → LinesOf P ys → LinesOf P (xs ++ ys)
  lines_both [] ys first second = second
  lines_both (x ∷ xs) ys first second = (first.0, lines_both xs ys first.1 second)

  lines_first : (xs ys : List Line) → LinesOf P (xs ++ ys) → LinesOf P xs
  lines_first [] ys each = tt
  lines_first (x ∷ xs) ys each = (each.0, lines_first xs ys each.1)

  lines_last : (xs : List Line) (y : Line) → LinesOf P (xs ++ y ∷ []) → P y.event
  lines_last [] y each = each.0
  lines_last (x ∷ xs) y each = lines_last xs y each.1

  module _ (run : P (event.Run 1)) where
    lines_of_it : (e : Event) (of_it : List Line) (r : Reply) → IsWhole e of_it r → P e → LinesOf P of_it
    lines_of_it e _ r (alone _ other) own = (own, tt)
    lines_of_it e _ r (with_run _) own = (own, (run, tt))

    lines_whole : (events : List Event) (lines : List Line) (replies : List Reply) → AreWhole events lines replies → Each P events → LinesOf P lines
    lines_whole _ _ _ no_events each = tt
    lines_whole _ _ _ (more_events events e lines of_it replies r whole it) each =
        lines_both lines of_it (lines_whole events lines replies whole (each_first P events (e ∷ []) each)) (lines_of_it e of_it r it (each_last P events e [] each))

-- the lines of the last event
record LastWhole (earlier : List Event) (e : Event) (r : Reply) (lines : List Line) : Type 0 where
  front : List Line
  of_it : List Line
  replies : List Reply
  at : lines ≡ front ++ of_it
  whole : AreWhole earlier front replies
  it : IsWhole e of_it r

last_whole : (events : List Event) (lines : List Line) (answers : List Reply) → AreWhole events lines answers → (earlier : List Event) (e : Event) (replies : List Reply) (r : Reply)
    → events ≡ earlier ++ e ∷ [] → answers ≡ replies ++ r ∷ [] → LastWhole earlier e r lines
last_whole _ _ _ no_events earlier e replies r at told = never earlier e [] at
last_whole _ _ _ (more_events events own lines of_it answers answer whole it) earlier e replies r at told =
    let events_same = ends_same events earlier own e at in
    let answers_same = ends_same answers replies answer r told in
    record {
      front = lines;
      of_it = of_it;
      replies = answers;
      at = refl;
      whole = subst (λ es. AreWhole es lines answers) events_same.0 whole;
      it = subst (λ (x : Event). IsWhole x of_it r) events_same.1 (subst (λ (q : Reply). IsWhole own of_it q) answers_same.1 it);
    }

-- ---- calm lines from a new world on

-- a line behind others is answered well
abbrev Well : List Line → Line → Seen → Type 0
Well lines line z = (u : CloudState) → z.state ≡ Some u → RepliesWell u line.event (standing lines (session_of line.event)).posture line.reply

-- these lines were handled, explain themselves, and were calm
record Behind (s : Seen) (first : World) (lines : List Line) (t : Seen) : Type 0 where
  world : World
  went : WentOn s first lines t world
  explained : AreExplained s first lines t world went
  calm : AreCalm s first lines t world went

module _ (s : Seen) (first : World) (x : CloudState) (fresh : IsNew true first) (told : s.state ≡ Some x) (empty : IsEmptyCloud x) where
  -- the state is told behind them
  left_told : (lines : List Line) (t : Seen) (world : World) → WentOn s first lines t world → (u : CloudState) × (t.state ≡ Some u)
  left_told lines t world went = let left = lines_left lines s t first world went fresh x told (inl empty) in (left.0, left.1)

  closed : (n : ℕ) → session_at first.sessions n ≡ closed_session
  closed n = ap (λ (l : List Acting). session_at l n) fresh.sessions ∙ closed_at all_sessions n

  rests_well : (u : CloudState) (a : Acting) → a ≡ closed_session → IsUntroubled u a.work
  rests_well u a is = subst (λ (b : Acting). IsUntroubled u b.work) (sym is) (record { trouble = λ k has. absurd (cc); left = refl })

  -- session 1 is untroubled behind lines of its own
  untroubled : (lines : List Line) (t : Seen) (world : World) → (went : WentOn s first lines t world) → AreExplained s first lines t world went → AreCalm s first lines t world went
      → LinesOne lines → (u : CloudState) → t.state ≡ Some u → IsUntroubled u (work_at world 1)
  untroubled _ t world start explained calm ones u seen = rests_well u (session_at first.sessions 1) (closed 1)
  untroubled _ t new (further lines line mid _ world _ went handled) explained calm ones u seen =
      let one : session_of line.event ≡ 1 = lines_last IsOne lines line ones in
      let before = left_told lines mid world went in
      let earlier = untroubled lines mid world went explained.0 calm.0 (lines_first IsOne lines (line ∷ []) ones) before.0 before.1 in
      let own = subst (λ n. IsUntroubled before.0 (work_at world n)) (sym one) earlier in
      subst (λ n. IsUntroubled u (work_at new n)) one (explained.1.calm calm.1 before.0 u before.1 seen own).0

  -- a line of session 1 behind them is answered well, and so is the settling
  answered_well : (lines : List Line) (line : Line) (t : Seen) (behind : Behind s first lines t) → LinesOne lines → IsOfLoad line.event → (z : Seen) (new : World)
      → (handled : Handled (length lines + 1) line.event (span_of t z behind.world new) (Ok line.reply)) → IsExplained lines line (span_of t z behind.world new) handled
      → EachStep StepIsCalm (length lines + 1) line.event (span_of t z behind.world new) (Ok line.reply) handled → (u : CloudState) → z.state ≡ Some u
      → RepliesWell u line.event (standing lines (session_of line.event)).posture line.reply
  answered_well lines line t behind ones own z new handled explained calm u seen = on own
    where
      before : (v : CloudState) × (t.state ≡ Some v)
      before = left_told lines t behind.world behind.went

      on : IsOfLoad line.event → RepliesWell u line.event (standing lines (session_of line.event)).posture line.reply
      on (inl one) =
          (explained.calm calm before.0 u before.1 seen
          (subst (λ n. IsUntroubled before.0 (work_at behind.world n)) (sym one)
          (untroubled lines t behind.world behind.went behind.explained behind.calm ones before.0 before.1))).1
      on (inr settles) =
          (explained.calm calm before.0 u before.1 seen
          (subst (λ (e : Event). IsUntroubled before.0 (work_at behind.world (session_of e))) (sym settles)
          (rests_well before.0 (session_at behind.world.sessions 0) (went_adds s first x told fresh lines t behind.world behind.went).rests))).1

  -- the lines before the last of these
  front_of : (all : List Line) (t : Seen) → Behind s first all t → (lines : List Line) (line : Line) → all ≡ lines ++ line ∷ [] → (mid : Seen) × Behind s first lines mid
  front_of all t behind lines line at = on all t behind.world behind.went behind.explained behind.calm at
    where
      on : (ls : List Line) (z : Seen) (world : World) → (went : WentOn s first ls z world) → AreExplained s first ls z world went → AreCalm s first ls z world went
          → ls ≡ lines ++ line ∷ [] → (mid : Seen) × Behind s first lines mid
      on _ z world start explained calm same = never lines line [] same
      on _ z new (further earlier last mid _ world _ went handled) explained calm same =
          (mid, subst (λ ls. Behind s first ls mid) (ends_same earlier lines last line same).0 (record { world = world; went = went; explained = explained.0; calm = calm.0 }))

  -- the last of these lines is answered well
  last_well : (all : List Line) (t : Seen) → Behind s first all t → (lines : List Line) (line : Line) → all ≡ lines ++ line ∷ [] → LinesOne lines → IsOfLoad line.event
      → (u : CloudState) → t.state ≡ Some u → RepliesWell u line.event (standing lines (session_of line.event)).posture line.reply
  last_well all t behind lines line at ones own = on all t behind.world behind.went behind.explained behind.calm at
    where
      on : (ls : List Line) (z : Seen) (world : World) → (went : WentOn s first ls z world) → AreExplained s first ls z world went → AreCalm s first ls z world went
          → ls ≡ lines ++ line ∷ [] → Well lines line z
      on _ z world start explained calm same = never lines line [] same
      on _ z new (further earlier last mid _ world _ went handled) explained calm same =
          let ends = ends_same earlier lines last line same in
          let so_far : Behind s first earlier mid = record { world = world; went = went; explained = explained.0; calm = calm.0 } in
          let ones_so : LinesOne earlier = subst LinesOne (sym ends.0) ones in
          let own_so : IsOfLoad last.event = subst (λ (l : Line). IsOfLoad l.event) (sym ends.1) own in
          subst (λ ls. Well ls line z) ends.0
          (subst (λ l. Well earlier l z) ends.1
          (λ u seen. answered_well earlier last mid so_far ones_so own_so z new handled explained.1 calm.1 u seen))

-- ---- the stop

-- no counter is spent that ends a load
record IsUnspent (u : CloudState) : Type 0 where
  opening : (what : Counter) → IsSpentToOpen u what → ⊥
  number : IsSpentToCommit u counter.Number → ⊥
  settling : (what : Counter) → IsSpentToSettle u what → ⊥

-- so it is where few puts and sends landed
unspent : (u : CloudState) → SpendsLate u → length u.trace < 2 ^ 27 → IsUnspent u
unspent u late few = record { opening = opening; number = λ is. let long = late.commit counter.Number is in omega (arith, long, few); settling = settling }
  where
    opening : (what : Counter) → IsSpentToOpen u what → ⊥
    opening counter.Epoch is = let long = late.opening counter.Epoch is in omega (arith, long, few)
    opening what is = is

    folding : (tree : ℕ) (what : Counter) → IsSpentInTree tree u what → ⊥
    folding tree counter.Version is = let long = late.settling counter.Version (inr (tree, is)) in omega (arith, long, few)
    folding tree counter.Pages is = let long = late.settling counter.Pages (inr (tree, is)) in omega (arith, long, few)
    folding tree what is = is

    settling : (what : Counter) → IsSpentToSettle u what → ⊥
    settling what (inl is) = opening what is
    settling what (inr is) = folding is.0 what is.1

-- no trouble tells a counter that is not spent
never_told : (Spent : CloudState → Counter → Type 0) (u : CloudState) → ((what : Counter) → Spent u what → ⊥) → (k : Trouble) → IsSpent Spent u k → ⊥
never_told Spent u none (trouble.Exhausted what) is = none what is
never_told Spent u none k is = is

-- a commit that does not stop for an attempt would stop for a number
never_number : (u : CloudState) → IsUnspent u → (k : Trouble) → k ≢ no_attempt → IsSpent IsSpentToCommit u k → ⊥
never_number u none (trouble.Exhausted counter.Number) other is = none.number is
never_number u none (trouble.Exhausted counter.Txn) other is = other refl
never_number u none (trouble.Exhausted what) other is = is
never_number u none k other is = is

-- a reply that no attempt is left
abbrev TellsNoAttempt : Reply → Type 0
TellsNoAttempt r = r ≡ reply.Commit (NotCommitted no_attempt)

-- a reply to an event alone, where it is a good one
alone_stop : (u : CloudState) → IsUnspent u → (e : Event) (posture : Posture) (r : Reply) → ((session : ℕ) → e ≡ event.Commit session → TellsNoAttempt r → ⊥) → goes_on e r ≡ false → RepliesWell u e posture r → stop_of e r ≡ Memory
alone_stop u none (event.Open session client) posture (reply.Opened epoch) other ends well = absurd (cc)
alone_stop u none (event.Open session client) posture (reply.Trouble k) other ends well = absurd (never_told IsSpentToOpen u none.opening k well)
alone_stop u none (event.Commit session) posture (reply.Commit (Committed txn)) other ends well = absurd (cc)
alone_stop u none (event.Commit session) posture (reply.Commit (NotCommitted k)) other ends well =
    absurd (never_number u none k (λ is. other session refl (ap (λ (t : Trouble). reply.Commit (NotCommitted t)) is)) well)
alone_stop u none (event.Commit session) posture (reply.Commit InDoubt) other ends well = absurd well
alone_stop u none (event.Commit session) posture (reply.Commit (CommittedOpen k)) other ends well = absurd well
alone_stop u none event.Settle posture (reply.Settled calls) other ends well = absurd (cc)
alone_stop u none event.Settle posture (reply.NotSettled k) other ends well = absurd (never_told IsSpentToSettle u none.settling k well)
alone_stop u none e posture r other ends well = refl

-- a reply to the run of what it began
run_stop : (u : CloudState) → IsUnspent u → (e : Event) (r : Reply) (before : Standing) → (TellsNoAttempt r → ⊥) → session_of e ≡ 1 → goes_on e r ≡ false → RunsWell u (after_own e reply.Begun before).posture r → stop_of e r ≡ Memory
run_stop u none (event.Open session client) (reply.Opened epoch) before other one ends well = absurd (cc)
run_stop u none (event.Open session client) (reply.Trouble k) before other one ends well = absurd (never_told IsSpentToOpen u none.opening k well)
run_stop u none (event.Commit session) (reply.Commit (Committed txn)) before other one ends well = absurd (cc)
run_stop u none (event.Commit session) (reply.Commit (NotCommitted k)) before other one ends well =
    absurd (never_number u none k (λ is. other (ap (λ (t : Trouble). reply.Commit (NotCommitted t)) is)) well)
run_stop u none (event.Commit session) (reply.Commit InDoubt) before other one ends well = absurd well
run_stop u none (event.Commit session) (reply.Commit (CommittedOpen k)) before other one ends well = absurd well
run_stop u none event.Settle r before other one ends well = absurd (omega (arith, one))
run_stop u none e r before other one ends well = refl

-- a commit of a load is of session 1
session_one : {e : Event} → IsOfLoad e → (session : ℕ) → e ≡ event.Commit session → session ≡ 1
session_one (inl one) session is = ap session_of (sym is) ∙ one
session_one (inr settles) session is = absurd (cc)

own_line : (lines : List Line) (e : Event) → session_of e ≡ 1 → standing (lines ++ record { event = e; reply = reply.Begun } ∷ []) 1 ≡ after_own e reply.Begun (standing lines 1)
own_line lines e one =
    standing_line lines (record { event = e; reply = reply.Begun }) 1
    ∙ ap (λ b. if b then after_own e reply.Begun (standing lines 1) else standing lines 1) (eq-eqb (session_of e) 1 one)

-- the attempts of session 1 are no more than the lines
at_most : (before : Seen) (old : World) (lines : List Line) (after : Seen) (new : World) → WentOn before old lines after new → LinesOf IsLoadEvent lines → AtMost 0 (own_work old)
    → AtMost (length lines) (own_work new)
at_most before old _ after new start kinds h = h
at_most before old _ after new (further lines line mid _ world _ went handled) kinds h =
    subst (λ n. AtMost n (own_work new)) (sym (length-append lines (line ∷ [])))
    (line_at_most (length lines + 1) (length lines) line.event mid after world new line.reply (lines_last IsLoadEvent lines line kinds) handled
    (at_most before old lines mid world went (lines_first IsLoadEvent lines (line ∷ []) kinds) h))

pub stops_for_memory : (trees : List DumpedTree) (earlier later : List Event) (e : Event) (replies : List Reply) (r : Reply) (mid now : Seen) (play : Play)
    → load_events trees ≡ earlier ++ e ∷ later → (run : WereRun (earlier ++ e ∷ []) (replies ++ r ∷ []) mid now play) → play.handled < 2 ^ 64 → goes_on e r ≡ false
    → (t : CloudState) → mid.state ≡ Some t → IsEmptyCloud t → (u : CloudState) → now.state ≡ Some u → length u.trace < 2 ^ 27
    → AreCalm mid run.played.first run.lines now play.world run.played.went → stop_of e r ≡ Memory
stops_for_memory trees earlier later e replies r mid now play at run within ends t told empty u seen few calm =
    on (last_whole (earlier ++ e ∷ []) run.lines (replies ++ r ∷ []) run.whole earlier e replies r refl refl)
  where
    own : Ones earlier × IsOfLoad e
    own = each_upto IsOne (before_settling trees) earlier later e (load_split trees ∙ at) (load_one trees)

    kinds : Each IsLoadEvent earlier
    kinds =
        (each_upto IsLoadEvent (before_settling trees) earlier later e (load_split trees ∙ at)
        (load_each IsLoadEvent (record { opens = refl; inserts = λ p. refl; commits = refl; folds = λ tree. refl; renews = refl; closes = refl }) trees)).0

    none : IsUnspent u
    none =
        let o = run.played.stands t told empty in
        let one : o.0 ≡ u = same_some o.0 u (sym o.1 ∙ seen) in
        unspent u (subst SpendsLate one (spends_late run.lines (session_at play.world.sessions) play.world.audit play.world.blind o.0 o.2.by_lines)) few

    all : Behind mid run.played.first run.lines now
    all = record { world = play.world; went = run.played.went; explained = run.played.explained t told empty; calm = calm }

    well : (ls : List Line) (z : Seen) → Behind mid run.played.first ls z → (lines : List Line) (line : Line) → ls ≡ lines ++ line ∷ [] → LinesOne lines → IsOfLoad line.event
        → (v : CloudState) → z.state ≡ Some v → RepliesWell v line.event (standing lines (session_of line.event)).posture line.reply
    well = last_well mid run.played.first t run.played.fresh told empty

    -- no commit was begun so often
    unspent_alone : (front : List Line) → LinesOf IsLoadEvent front → run.lines ≡ front ++ record { event = e; reply = r } ∷ [] → (session : ℕ) → e ≡ event.Commit session → TellsNoAttempt r → ⊥
    unspent_alone front kinds is session commits tells =
        let l = last_of mid run.played.first run.lines now play.world run.played.went front (record { event = e; reply = r }) is in
        let one : session ≡ 1 = session_one own.1 session commits in
        let few = at_most mid run.played.first front l.mid l.world l.went kinds (0, omega arith, fresh_numbered run.played.first run.played.fresh) in
        let handled = subst (λ (f : Event). Handled (length front + 1) f (span_of l.mid now l.world play.world) (Ok r)) commits l.handled in
        let many = commit_spent (NotCommitted no_attempt) refl (length front + 1) l.mid now l.world play.world r tells (length front) session one few handled in
        let count = run.played.count in
        let lines = ap length is in
        let longer = length-append front (record { event = e; reply = r } ∷ []) in
        omega (arith, many, count, lines, longer, within)

    unspent_run : (front : List Line) → run.lines ≡ front ++ record { event = event.Run 1; reply = r } ∷ [] → TellsNoAttempt r → ⊥
    unspent_run front is tells =
        let l = last_of mid run.played.first run.lines now play.world run.played.went front (record { event = event.Run 1; reply = r }) is in
        run_unspent (NotCommitted no_attempt) refl (length front + 1) l.mid now l.world play.world r tells 1 l.handled

    in_it : (front of_it : List Line) → LinesOf IsLoadEvent front → LinesOne front → run.lines ≡ front ++ of_it → IsWhole e of_it r → stop_of e r ≡ Memory
    in_it front _ kinds ones is (alone _ other) =
        alone_stop u none e (standing front (session_of e)).posture r (unspent_alone front kinds is) ends (well run.lines now all front (record { event = e; reply = r }) is ones own.1 u seen)
    in_it front _ kinds ones is (with_run _) = in_run own.1
      where
        began : Line
        began = record { event = e; reply = reply.Begun }

        parted : run.lines ≡ (front ++ began ∷ []) ++ record { event = event.Run 1; reply = r } ∷ []
        parted = is ∙ sym (append_assoc front (began ∷ []) (record { event = event.Run 1; reply = r } ∷ []))

        in_run : IsOfLoad e → stop_of e r ≡ Memory
        in_run (inl one) =
            run_stop u none e r (standing front 1) (unspent_run (front ++ began ∷ []) parted) one ends
            (subst (λ (p : Standing). RunsWell u p.posture r) (own_line front e one)
            (well run.lines now all (front ++ began ∷ []) (record { event = event.Run 1; reply = r }) parted (lines_both IsOne front (began ∷ []) ones (one, tt)) (inl refl) u seen))
        in_run (inr settles) =
            let so_far = front_of mid run.played.first t run.played.fresh told empty run.lines now all (front ++ began ∷ []) (record { event = event.Run 1; reply = r }) parted in
            let left = left_told mid run.played.first t run.played.fresh told empty (front ++ began ∷ []) so_far.0 so_far.1.world so_far.1.went in
            let answered = well (front ++ began ∷ []) so_far.0 so_far.1 front began refl ones (inr settles) left.0 left.1 in
            absurd (subst (λ (x : Event). RepliesWell left.0 x (standing front (session_of x)).posture reply.Begun) settles answered)

    on : LastWhole earlier e r run.lines → stop_of e r ≡ Memory
    on last = in_it last.front last.of_it (lines_whole IsLoadEvent refl earlier last.front last.replies last.whole kinds) (lines_whole IsOne refl earlier last.front last.replies last.whole own.0) last.at last.it

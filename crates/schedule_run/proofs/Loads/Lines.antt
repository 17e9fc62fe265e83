-- How the sessions stand along the lines of a load, by these and their replies alone.
use Rattle.std.proofs.Common.{◌≡◌, ◌≢◌, ◌≤◌, ◌<◌, ◌+◌, ◌⊎◌, inl, inr, ℕ, zero, suc, Option, Bool, true, false, List, [], ◌∷◌, ◌++◌, length, take, cond, refl, sym, ap, subst, ◌∙◌, arith, length-append, ne_eqb}
use Rattle.std.specs.Prelude.{slice_get, ◌==◌, Some}
use Rattle.std.proofs.lemmas.Bool.{cases_lt, cases_eq, eq-eqb}
use Rattle.std.proofs.lemmas.List.{take-append-le, take_all}
use Rattle.cloud_facts.specs.Book.Records.{StandsAt, IsIn}
use Rattle.cloud_facts.proofs.Book.Places.{in_front, get_front, get_within, get_cases, get_single}
use Rattle.cloud_facts.proofs.Numbers.Lists.{take_there}
use Rattle.db_base.specs.declared.trouble.CommitAnswer.TheVariants.{Committed}
use Rattle.db_base.specs.declared.change.Change.TheVariants.{Insert}
use Rattle.event_text.specs.declared.event.Event.{Event}
use Rattle.event_text.specs.declared.event.Event.TheVariants as event
use Rattle.replay_meaning.specs.Standing.{Line, Task, Posture, Closed, Idle, Working, Opening, Closing, Committing, Standing, unnamed, begins, steps, task_answered, idle, after_own, session_of, standing}
use Rattle.reply_text.specs.declared.reply.Reply.{Reply}
use Rattle.reply_text.specs.declared.reply.Reply.TheVariants as reply
use Rattle.session_facts.proofs.Lines.Committed.{standing_line}
use Rattle.session_facts.proofs.Lines.More.{line_of}
use Rattle.txn_buffer.specs.Noted.{Noted, noted_in}
use Rattle.cloud_facts.proofs.Chains.Names.{end_stands}

-- ---- what may be committed

-- the session is session 1, of client 1, and these are the changes of a transaction of the load
pub record IsOfPart (parts : List (List Noted)) (s : Standing) (session : ℕ) (changes : List Noted) : Type 0 where
  pub session_is : session ≡ 1
  pub client_is : s.client ≡ 1
  pub part : IsIn parts changes

-- so is every session that works on a commit, at each of the lines
abbrev pub CommitsParts : List (List Noted) → List Line → Type 0
CommitsParts parts lines =
    (n session : ℕ) (changes : List Noted) → (standing (take n lines) session).posture ≡ Working (Committing changes) → IsOfPart parts (standing (take n lines) session) session changes

-- one more transaction was begun by a commit that is in hand, and none yet by an opening
abbrev pub number_by : Event → Reply → ℕ → ℕ
number_by (event.Open session client) reply.Begun n = 0
number_by (event.Commit session) reply.Begun n = n + 1
number_by e r n = n

abbrev pub numbers_from : ℕ → List Line → ℕ
numbers_from n [] = n
numbers_from n (line ∷ lines) = numbers_from (number_by line.event line.reply n) lines

-- how many transactions were begun since the newest opening
abbrev pub numbers : List Line → ℕ
numbers lines = numbers_from 0 lines

numbers_from-push : (n : ℕ) (lines : List Line) (line : Line) → numbers_from n (lines ++ line ∷ []) ≡ number_by line.event line.reply (numbers_from n lines)
numbers_from-push n [] line = refl
numbers_from-push n (first ∷ lines) line = numbers_from-push (number_by first.event first.reply n) lines line

pub numbers-push : (lines : List Line) (line : Line) → numbers (lines ++ line ∷ []) ≡ number_by line.event line.reply (numbers lines)
numbers-push lines line = numbers_from-push 0 lines line

-- a line of a load is one of session 1, or the settling; an opening and a commit begin
abbrev pub LoadLine : Event → Reply → Type 0
LoadLine (event.Open session client) r = (session ≡ 1) × (r ≡ reply.Begun)
LoadLine (event.Commit session) r = (session ≡ 1) × (r ≡ reply.Begun)
LoadLine (event.Renew session) r = session ≡ 1
LoadLine (event.Close session) r = session ≡ 1
LoadLine (event.Tree session tree) r = session ≡ 1
LoadLine (event.Insert session tree key payload attr) r = session ≡ 1
LoadLine (event.Run session) r = session ≡ 1
LoadLine event.Settle r = Unit {0}
LoadLine e r = ⊥

abbrev pub AllLoad : List Line → Type 0
AllLoad lines = (k : ℕ) (line : Line) → slice_get lines k ≡ Some line → LoadLine line.event line.reply

all_load_more : (lines : List Line) (line : Line) → AllLoad lines → LoadLine line.event line.reply → AllLoad (lines ++ line ∷ [])
all_load_more lines line all one k l at = on (get_cases lines (line ∷ []) k l at)
  where
    on : (slice_get lines k ≡ Some l) ⊎ ((j : ℕ) × (k ≡ length lines + j) × (slice_get (line ∷ []) j ≡ Some l)) → LoadLine l.event l.reply
    on (inl before) = all k l before
    on (inr last) = subst (λ (x : Line). LoadLine x.event x.reply) (get_single line last.0 l last.2) one

pub all_load_front : (lines more : List Line) → AllLoad (lines ++ more) → AllLoad lines
all_load_front lines more all k line at = all k line (get_front lines more k line at)

pub all_load_last : (lines : List Line) (line : Line) → AllLoad (lines ++ line ∷ []) → LoadLine line.event line.reply
all_load_last lines line all = all (length lines) line (end_stands lines line)

pub all_load_taken : (n : ℕ) (lines : List Line) → AllLoad lines → AllLoad (take n lines)
all_load_taken n lines all k line at = all k line (take_there n lines k line at)

-- what is no begin begins no transaction
pub number_stays : (e : Event) (r : Reply) (n : ℕ) → (r ≡ reply.Begun → ⊥) → number_by e r n ≡ n
number_stays (event.Open session client) reply.Begun n never = absurd (never refl)
number_stays (event.Commit session) reply.Begun n never = absurd (never refl)
number_stays e r n never = refl

-- the transaction at a place was answered as committed, and is of the number of its place
pub record WasCommitted (lines : List Line) (index : ℕ) (changes : List Noted) : Type 0 where
  pub place : ℕ
  pub line : Line
  pub there : slice_get lines place ≡ Some line
  pub own : session_of line.event ≡ 1
  pub txn : ℕ
  pub answer : line.reply ≡ reply.Commit (Committed txn)
  pub works : (standing (take place lines) 1).posture ≡ Working (Committing changes)
  pub client : (standing (take place lines) 1).client ≡ 1
  pub number : numbers (take place lines) ≡ index + 1

-- session 1 of client 1
abbrev pub stood : Posture → List Noted → Standing
stood p buffer = record { posture = p; client = 1; buffer = buffer }

-- the lines up to the end of the last transaction: the client is idle there and has begun all of them, and no session is at a commit from there on
pub record EndsPart (parts : List (List Noted)) (lines : List Line) (last : ℕ) : Type 0 where
  pub within : last ≤ length lines
  pub past : (n session : ℕ) (changes : List Noted) → (standing (take n lines) session).posture ≡ Working (Committing changes) → n < last
  pub rests : 1 ≤ length parts → standing (take last lines) 1 ≡ stood Idle []
  pub count : numbers (take last lines) ≡ length parts

-- behind these lines session 1 stands so, no other one was named, and these transactions were committed, and no others begun
pub record IsLoading (parts : List (List Noted)) (lines : List Line) (own : Standing) : Type 0 where
  pub own_is : standing lines 1 ≡ own
  pub others : (session : ℕ) → session ≢ 1 → standing lines session ≡ unnamed
  pub commits : CommitsParts parts lines
  pub done : (place : ℕ) (changes : List Noted) → StandsAt parts place changes → WasCommitted lines place changes
  pub count : numbers lines ≡ length parts
  pub each : AllLoad lines
  pub last : ℕ
  pub ends : EndsPart parts lines last

-- a posture that is at no commit
abbrev pub IsAtNoCommit : Posture → Type 0
IsAtNoCommit p = (changes : List Noted) → p ≡ Working (Committing changes) → ⊥

-- ---- one line more

more_parts : (parts : List (List Noted)) (changes : List Noted) (lines : List Line) → CommitsParts parts lines → CommitsParts (parts ++ changes ∷ []) lines
more_parts parts changes lines h n session own works =
    let p = h n session own works in
    record { session_is = p.session_is; client_is = p.client_is; part = in_front parts (changes ∷ []) own p.part }

-- at the last line, and at all before it
commits_more : (parts : List (List Noted)) (lines : List Line) (line : Line) → CommitsParts parts lines
    → ((session : ℕ) (changes : List Noted) → (standing (lines ++ line ∷ []) session).posture ≡ Working (Committing changes)
    → IsOfPart parts (standing (lines ++ line ∷ []) session) session changes) → CommitsParts parts (lines ++ line ∷ [])
commits_more parts lines line before last n session changes = on (cases_lt (length lines) n)
  where
    At : List Line → Type 0
    At ls = (standing ls session).posture ≡ Working (Committing changes) → IsOfPart parts (standing ls session) session changes

    on : (length lines < n) ⊎ (n ≤ length lines) → At (take n (lines ++ line ∷ []))
    on (inl past) =
        let long : length (lines ++ line ∷ []) ≤ n = omega (arith, length-append lines (line ∷ [])) in
        subst At (sym (take_all n (lines ++ line ∷ []) long)) (last session changes)
    on (inr within) = subst At (sym (take-append-le n lines (line ∷ []) within)) (before n session changes)

-- a line behind which no session is at a commit
ends_more : (parts : List (List Noted)) (lines : List Line) (line : Line) (last : ℕ)
    → ((session : ℕ) (changes : List Noted) → (standing (lines ++ line ∷ []) session).posture ≡ Working (Committing changes) → ⊥) → EndsPart parts lines last
    → EndsPart parts (lines ++ line ∷ []) last
ends_more parts lines line last none h = record {
  within = let old = h.within in omega (arith, length-append lines (line ∷ []), old);
  past = past;
  rests = λ some. ap (λ ls. standing ls 1) front ∙ h.rests some;
  count = ap numbers front ∙ h.count;
}
  where
    front : take last (lines ++ line ∷ []) ≡ take last lines
    front = take-append-le last lines (line ∷ []) h.within

    past : (n session : ℕ) (changes : List Noted) → (standing (take n (lines ++ line ∷ [])) session).posture ≡ Working (Committing changes) → n < last
    past n session changes = on (cases_lt (length lines) n)
      where
        At : List Line → Type 0
        At ls = (standing ls session).posture ≡ Working (Committing changes) → n < last

        on : (length lines < n) ⊎ (n ≤ length lines) → At (take n (lines ++ line ∷ []))
        on (inl beyond) =
            let long : length (lines ++ line ∷ []) ≤ n = omega (arith, length-append lines (line ∷ [])) in
            subst At (sym (take_all n (lines ++ line ∷ []) long)) (λ works. absurd (none session changes works))
        on (inr within) = subst At (sym (take-append-le n lines (line ∷ []) within)) (h.past n session changes)

done_more : (lines : List Line) (line : Line) (index : ℕ) (changes : List Noted) → WasCommitted lines index changes → WasCommitted (lines ++ line ∷ []) index changes
done_more lines line index changes w =
    let within : w.place < length lines = get_within lines w.place w.line w.there in
    let same : take w.place (lines ++ line ∷ []) ≡ take w.place lines = take-append-le w.place lines (line ∷ []) (omega arith) in
    record {
      place = w.place;
      line = w.line;
      there = get_front lines (line ∷ []) w.place w.line w.there;
      own = w.own;
      txn = w.txn;
      answer = w.answer;
      works = ap (λ ls. (standing ls 1).posture) same ∙ w.works;
      client = ap (λ ls. (standing ls 1).client) same ∙ w.client;
      number = ap numbers same ∙ w.number;
    }

-- the standing of a session behind a line of its own
own_after : (lines : List Line) (e : Event) (r : Reply) (s : Standing) → session_of e ≡ 1 → standing lines 1 ≡ s → standing (lines ++ line_of e r ∷ []) 1 ≡ after_own e r s
own_after lines e r s own is =
    standing_line lines (line_of e r) 1
    ∙ ap (λ (b : Bool). cond b (after_own e r (standing lines 1)) (standing lines 1)) (eq-eqb (session_of e) 1 own)
    ∙ ap (after_own e r) is

other_after : (lines : List Line) (e : Event) (r : Reply) (session : ℕ) → session_of e ≢ session → standing (lines ++ line_of e r ∷ []) session ≡ standing lines session
other_after lines e r session other =
    standing_line lines (line_of e r) session
    ∙ ap (λ (b : Bool). cond b (after_own e r (standing lines session)) (standing lines session)) (ne_eqb (session_of e) session other)

-- no session that was never named is at a commit
unnamed_quiet : (s : Standing) (changes : List Noted) → s ≡ unnamed → s.posture ≡ Working (Committing changes) → ⊥
unnamed_quiet s changes is works = let never : Closed ≡ Working (Committing changes) = sym (ap (λ (x : Standing). x.posture) is) ∙ works in cc

-- a line of session 1 behind which it is at no commit
pub loading_more : (parts : List (List Noted)) (lines : List Line) (own next : Standing) (e : Event) (r : Reply) → session_of e ≡ 1 → after_own e r own ≡ next → IsAtNoCommit next.posture
    → ((n : ℕ) → number_by e r n ≡ n) → LoadLine e r → IsLoading parts lines own → IsLoading parts (lines ++ line_of e r ∷ []) next
loading_more parts lines own next e r mine after quiet same load h = record {
  own_is = now;
  others = others;
  commits = commits_more parts lines (line_of e r) h.commits last;
  done = λ place changes there. done_more lines (line_of e r) place changes (h.done place changes there);
  count = numbers-push lines (line_of e r) ∙ same (numbers lines) ∙ h.count;
  each = all_load_more lines (line_of e r) h.each load;
  last = h.last;
  ends = ends_more parts lines (line_of e r) h.last none h.ends;
}
  where
    now : standing (lines ++ line_of e r ∷ []) 1 ≡ next
    now = own_after lines e r own mine h.own_is ∙ after

    others : (session : ℕ) → session ≢ 1 → standing (lines ++ line_of e r ∷ []) session ≡ unnamed
    others session other = other_after lines e r session (λ same. other (sym same ∙ mine)) ∙ h.others session other

    none : (session : ℕ) (changes : List Noted) → (standing (lines ++ line_of e r ∷ []) session).posture ≡ Working (Committing changes) → ⊥
    none session changes works = on (cases_eq session 1)
      where
        on : (session ≡ 1) ⊎ (session ≢ 1) → ⊥
        on (inl is) = quiet changes (ap (λ (s : Standing). s.posture) (sym now) ∙ ap (λ k. (standing (lines ++ line_of e r ∷ []) k).posture) (sym is) ∙ works)
        on (inr other) = unnamed_quiet _ changes (others session other) works

    last : (session : ℕ) (changes : List Noted) → (standing (lines ++ line_of e r ∷ []) session).posture ≡ Working (Committing changes)
        → IsOfPart parts (standing (lines ++ line_of e r ∷ []) session) session changes
    last session changes works = absurd (none session changes works)

-- ---- the lines of a load

-- session 1 of client 1 has noted this, and is at no commit
pub record Loads (parts : List (List Noted)) (lines : List Line) (buffer : List Noted) : Type 0 where
  pub posture : Posture
  pub quiet : IsAtNoCommit posture
  pub is : IsLoading parts lines (stood posture buffer)

working_quiet : (task : Task) → ((changes : List Noted) → task ≡ Committing changes → ⊥) → IsAtNoCommit (Working task)
working_quiet task other changes e = other changes (cc)

idle_quiet : IsAtNoCommit Idle
idle_quiet changes e = cc

closed_quiet : IsAtNoCommit Closed
closed_quiet changes e = cc

-- before any line
pub nothing_loaded : IsLoading [] [] unnamed
nothing_loaded = record {
  own_is = refl;
  others = λ session other. refl;
  commits = λ n session changes works. absurd (unnamed_quiet _ changes (none n session) works);
  done = λ place changes there. absurd (cc);
  count = refl;
  each = λ k line at. absurd (cc);
  last = 0;
  ends = record {
    within = omega arith;
    past = λ n session changes works. absurd (unnamed_quiet _ changes (none n session) works);
    rests = λ some. absurd (omega (arith, some));
    count = refl;
  };
}
  where
    none : (n session : ℕ) → standing (take n []) session ≡ unnamed
    none zero session = refl
    none (suc n) session = refl

-- session 1 is opened for client 1
opened : IsLoading [] ([] ++ line_of (event.Open 1 1) reply.Begun ∷ []) (stood (Working Opening) [])
opened = record {
  own_is = refl;
  others = λ session other. other_after [] (event.Open 1 1) reply.Begun session (λ same. other (sym same));
  commits = commits_more [] [] (line_of (event.Open 1 1) reply.Begun) nothing_loaded.commits last;
  done = λ place changes there. absurd (cc);
  count = refl;
  each = all_load_more [] (line_of (event.Open 1 1) reply.Begun) nothing_loaded.each (refl, refl);
  last = nothing_loaded.last;
  ends = ends_more [] [] (line_of (event.Open 1 1) reply.Begun) nothing_loaded.last none nothing_loaded.ends;
}
  where
    none : (session : ℕ) (changes : List Noted) → (standing ([] ++ line_of (event.Open 1 1) reply.Begun ∷ []) session).posture ≡ Working (Committing changes) → ⊥
    none session changes works = on (cases_eq session 1)
      where
        on : (session ≡ 1) ⊎ (session ≢ 1) → ⊥
        on (inl is) = let never : Working Opening ≡ Working (Committing changes) = ap (λ k. (standing ([] ++ line_of (event.Open 1 1) reply.Begun ∷ []) k).posture) (sym is) ∙ works in absurd (cc)
        on (inr other) = absurd (unnamed_quiet _ changes (other_after [] (event.Open 1 1) reply.Begun session (λ same. other (sym same))) works)

    last : (session : ℕ) (changes : List Noted) → (standing ([] ++ line_of (event.Open 1 1) reply.Begun ∷ []) session).posture ≡ Working (Committing changes)
        → IsOfPart [] (standing ([] ++ line_of (event.Open 1 1) reply.Begun ∷ []) session) session changes
    last session changes works = absurd (none session changes works)

pub opening_loads : (epoch : ℕ) → Loads [] ((([] ++ line_of (event.Open 1 1) reply.Begun ∷ []) ++ line_of (event.Run 1) (reply.Opened epoch) ∷ [])) []
opening_loads epoch = record {
  posture = Idle;
  quiet = idle_quiet;
  is = loading_more [] ([] ++ line_of (event.Open 1 1) reply.Begun ∷ []) (stood (Working Opening) []) (stood Idle []) (event.Run 1) (reply.Opened epoch) refl refl idle_quiet (λ n. refl) refl opened;
}

-- an insert is noted
pub insert_loads : (parts : List (List Noted)) (lines : List Line) (buffer : List Noted) (tree : ℕ) (key payload : List ℕ) (attr : Option (List ℕ)) → Loads parts lines buffer
    → Loads parts (lines ++ line_of (event.Insert 1 tree key payload attr) reply.Noted ∷ []) (noted_in buffer tree (Insert key payload attr))
insert_loads parts lines buffer tree key payload attr h = record {
  posture = h.posture;
  quiet = h.quiet;
  is = loading_more parts lines (stood h.posture buffer) (stood h.posture (noted_in buffer tree (Insert key payload attr))) (event.Insert 1 tree key payload attr) reply.Noted refl refl h.quiet (λ n. refl) refl h.is;
}

-- ---- a transaction is committed

-- behind the line that begins it session 1 works on it
commit_begins : (parts : List (List Noted)) (lines : List Line) (buffer : List Noted) (p : Posture) → IsLoading parts lines (stood p buffer)
    → CommitsParts (parts ++ buffer ∷ []) (lines ++ line_of (event.Commit 1) reply.Begun ∷ [])
commit_begins parts lines buffer p h = commits_more (parts ++ buffer ∷ []) lines line (more_parts parts buffer lines h.commits) last
  where
    line : Line
    line = line_of (event.Commit 1) reply.Begun

    now : standing (lines ++ line ∷ []) 1 ≡ stood (Working (Committing buffer)) []
    now = own_after lines (event.Commit 1) reply.Begun (stood p buffer) refl h.own_is

    last : (session : ℕ) (changes : List Noted) → (standing (lines ++ line ∷ []) session).posture ≡ Working (Committing changes)
        → IsOfPart (parts ++ buffer ∷ []) (standing (lines ++ line ∷ []) session) session changes
    last session changes works = on (cases_eq session 1)
      where
        on : (session ≡ 1) ⊎ (session ≢ 1) → IsOfPart (parts ++ buffer ∷ []) (standing (lines ++ line ∷ []) session) session changes
        on (inl is) =
            let own : Working (Committing buffer) ≡ Working (Committing changes) =
            ap (λ (s : Standing). s.posture) (sym now) ∙ ap (λ k. (standing (lines ++ line ∷ []) k).posture) (sym is) ∙ works in
            let same : buffer ≡ changes = cc in
            record {
              session_is = is;
              client_is = ap (λ k. (standing (lines ++ line ∷ []) k).client) is ∙ ap (λ (s : Standing). s.client) now;
              part = (length parts, subst (λ xs. StandsAt (parts ++ buffer ∷ []) (length parts) xs) same (end_stands parts buffer));
            }
        on (inr other) =
            absurd (unnamed_quiet _ changes (other_after lines (event.Commit 1) reply.Begun session (λ e. other (sym e)) ∙ h.others session other) works)

-- and behind that of its run it was committed
pub commit_loads : (parts : List (List Noted)) (lines : List Line) (buffer : List Noted) (txn : ℕ) → Loads parts lines buffer
    → Loads (parts ++ buffer ∷ []) ((lines ++ line_of (event.Commit 1) reply.Begun ∷ []) ++ line_of (event.Run 1) (reply.Commit (Committed txn)) ∷ []) []
commit_loads parts lines buffer txn h = record { posture = Idle; quiet = idle_quiet; is = both }
  where
    first : Line
    first = line_of (event.Commit 1) reply.Begun

    second : Line
    second = line_of (event.Run 1) (reply.Commit (Committed txn))

    mid : List Line
    mid = lines ++ first ∷ []

    now : standing mid 1 ≡ stood (Working (Committing buffer)) []
    now = own_after lines (event.Commit 1) reply.Begun (stood h.posture buffer) refl h.is.own_is

    behind : standing (mid ++ second ∷ []) 1 ≡ stood Idle []
    behind = own_after mid (event.Run 1) (reply.Commit (Committed txn)) (stood (Working (Committing buffer)) []) refl now

    others_mid : (session : ℕ) → session ≢ 1 → standing mid session ≡ unnamed
    others_mid session other = other_after lines (event.Commit 1) reply.Begun session (λ e. other (sym e)) ∙ h.is.others session other

    others : (session : ℕ) → session ≢ 1 → standing (mid ++ second ∷ []) session ≡ unnamed
    others session other = other_after mid (event.Run 1) (reply.Commit (Committed txn)) session (λ e. other (sym e)) ∙ others_mid session other

    none : (session : ℕ) (changes : List Noted) → (standing (mid ++ second ∷ []) session).posture ≡ Working (Committing changes) → ⊥
    none session changes works = on (cases_eq session 1)
      where
        on : (session ≡ 1) ⊎ (session ≢ 1) → ⊥
        on (inl is) = idle_quiet changes (ap (λ (s : Standing). s.posture) (sym behind) ∙ ap (λ k. (standing (mid ++ second ∷ []) k).posture) (sym is) ∙ works)
        on (inr other) = unnamed_quiet _ changes (others session other) works

    last : (session : ℕ) (changes : List Noted) → (standing (mid ++ second ∷ []) session).posture ≡ Working (Committing changes)
        → IsOfPart (parts ++ buffer ∷ []) (standing (mid ++ second ∷ []) session) session changes
    last session changes works = absurd (none session changes works)

    begun : numbers mid ≡ length parts + 1
    begun = numbers-push lines first ∙ ap (λ n. n + 1) h.is.count

    own : WasCommitted (mid ++ second ∷ []) (length parts) buffer
    own =
        let all : take (length mid) (mid ++ second ∷ []) ≡ mid = take-append-le (length mid) mid (second ∷ []) (omega arith) ∙ take_all (length mid) mid (omega arith) in
        record {
          place = length mid;
          line = second;
          there = end_stands mid second;
          own = refl;
          txn = txn;
          answer = refl;
          works = ap (λ ls. (standing ls 1).posture) all ∙ ap (λ (s : Standing). s.posture) now;
          client = ap (λ ls. (standing ls 1).client) all ∙ ap (λ (s : Standing). s.client) now;
          number = ap numbers all ∙ begun;
        }

    done : (place : ℕ) (changes : List Noted) → StandsAt (parts ++ buffer ∷ []) place changes → WasCommitted (mid ++ second ∷ []) place changes
    done place changes there = on (get_cases parts (buffer ∷ []) place changes there)
      where
        on : (slice_get parts place ≡ Some changes) ⊎ ((j : ℕ) × (place ≡ length parts + j) × (slice_get (buffer ∷ []) j ≡ Some changes))
            → WasCommitted (mid ++ second ∷ []) place changes
        on (inl earlier) = done_more mid second place changes (done_more lines first place changes (h.is.done place changes earlier))
        on (inr last) =
            let first_one : last.0 < length (buffer ∷ []) = get_within (buffer ∷ []) last.0 changes last.2 in
            let at : length parts ≡ place = omega (arith, last.1, first_one) in
            subst (λ k. WasCommitted (mid ++ second ∷ []) k changes) at (subst (WasCommitted (mid ++ second ∷ []) (length parts)) (get_single buffer last.0 changes last.2) own)

    both : IsLoading (parts ++ buffer ∷ []) (mid ++ second ∷ []) (stood Idle [])
    both = record {
      own_is = behind;
      others = others;
      commits = commits_more (parts ++ buffer ∷ []) mid second (commit_begins parts lines buffer h.posture h.is) last;
      done = done;
      count = numbers-push mid second ∙ begun ∙ sym (length-append parts (buffer ∷ []));
      each = all_load_more mid second (all_load_more lines first h.is.each (refl, refl)) refl;
      last = length mid + 1;
      ends = record {
        within = omega (arith, length-append mid (second ∷ []));
        past = past;
        rests = λ some. ap (λ ls. standing ls 1) whole ∙ behind;
        count = ap numbers whole ∙ numbers-push mid second ∙ begun ∙ sym (length-append parts (buffer ∷ []));
      };
    }
      where
        whole : take (length mid + 1) (mid ++ second ∷ []) ≡ mid ++ second ∷ []
        whole = take_all (length mid + 1) (mid ++ second ∷ []) (omega (arith, length-append mid (second ∷ [])))

        past : (n session : ℕ) (changes : List Noted) → (standing (take n (mid ++ second ∷ [])) session).posture ≡ Working (Committing changes) → n < length mid + 1
        past n session changes = on (cases_lt (length mid) n)
          where
            At : List Line → Type 0
            At ls = (standing ls session).posture ≡ Working (Committing changes) → n < length mid + 1

            on : (length mid < n) ⊎ (n ≤ length mid) → At (take n (mid ++ second ∷ []))
            on (inl beyond) =
                let long : length (mid ++ second ∷ []) ≤ n = omega (arith, length-append mid (second ∷ [])) in
                subst At (sym (take_all n (mid ++ second ∷ []) long)) (λ works. absurd (none session changes works))
            on (inr within) = λ works. omega (arith, within)

-- ---- what is passed over

begins_not : (task : Task) (r : Reply) (s : Standing) → (r ≡ reply.Begun → ⊥) → begins task r s ≡ s
begins_not task reply.Begun s never = absurd (never refl)
begins_not task r s never = refl

-- an event that begins a task, without one
pub passes_alone : (parts : List (List Noted)) (lines : List Line) (buffer : List Noted) (e : Event) (task : Task) (r : Reply) → session_of e ≡ 1
    → ((q : Reply) (s : Standing) → after_own e q s ≡ begins task q s) → ((q : Reply) (n : ℕ) → number_by e q n ≡ n) → ((q : Reply) → LoadLine e q) → (r ≡ reply.Begun → ⊥) → Loads parts lines buffer → Loads parts (lines ++ line_of e r ∷ []) buffer
passes_alone parts lines buffer e task r own begin same load never h = record {
  posture = h.posture;
  quiet = h.quiet;
  is = loading_more parts lines (stood h.posture buffer) (stood h.posture buffer) e r own (begin r (stood h.posture buffer) ∙ begins_not task r (stood h.posture buffer) never) h.quiet (same r) (load r) h.is;
}

-- whatever its run answers, what was noted stays
run_idles : (task : Task) (buffer : List Noted) → ((q : Reply) (s : Standing) → task_answered task q s ≡ idle s) → (r : Reply)
    → (steps r (stood (Working task) buffer) ≡ stood (Working task) buffer) ⊎ (steps r (stood (Working task) buffer) ≡ stood Idle buffer)
run_idles task buffer idles reply.Called = inl refl
run_idles task buffer idles (reply.Refused rule) = inl refl
run_idles task buffer idles r = inr (idles r (stood (Working task) buffer))

abbrev pub with_run : List Line → Event → Reply → List Line
with_run lines e r = (lines ++ line_of e reply.Begun ∷ []) ++ line_of (event.Run 1) r ∷ []

pub passes_run : (parts : List (List Noted)) (lines : List Line) (buffer : List Noted) (e : Event) (task : Task) (r : Reply) → session_of e ≡ 1
    → ((q : Reply) (s : Standing) → after_own e q s ≡ begins task q s) → ((q : Reply) (n : ℕ) → number_by e q n ≡ n) → ((q : Reply) → LoadLine e q) → ((changes : List Noted) → task ≡ Committing changes → ⊥)
    → ((q : Reply) (s : Standing) → task_answered task q s ≡ idle s) → Loads parts lines buffer → Loads parts (with_run lines e r) buffer
passes_run parts lines buffer e task r own begin keeps load other idles h = on (run_idles task buffer idles r)
  where
    mid : List Line
    mid = lines ++ line_of e reply.Begun ∷ []

    begun : IsLoading parts mid (stood (Working task) buffer)
    begun =
        loading_more parts lines (stood h.posture buffer) (stood (Working task) buffer) e reply.Begun own (begin reply.Begun (stood h.posture buffer)) (working_quiet task other) (keeps reply.Begun) (load reply.Begun) h.is

    on : (steps r (stood (Working task) buffer) ≡ stood (Working task) buffer) ⊎ (steps r (stood (Working task) buffer) ≡ stood Idle buffer) → Loads parts (with_run lines e r) buffer
    on (inl same) = record {
      posture = Working task;
      quiet = working_quiet task other;
      is = loading_more parts mid (stood (Working task) buffer) (stood (Working task) buffer) (event.Run 1) r refl same (working_quiet task other) (λ n. refl) refl begun;
    }
    on (inr idle_then) = record {
      posture = Idle;
      quiet = idle_quiet;
      is = loading_more parts mid (stood (Working task) buffer) (stood Idle buffer) (event.Run 1) r refl idle_then idle_quiet (λ n. refl) refl begun;
    }

-- ---- the end

-- session 1 is closed, whatever that answers
run_closes : (buffer : List Noted) (r : Reply)
    → (steps r (stood (Working Closing) buffer) ≡ stood (Working Closing) buffer) ⊎ (steps r (stood (Working Closing) buffer) ≡ stood Closed [])
run_closes buffer reply.Called = inl refl
run_closes buffer (reply.Refused rule) = inl refl
run_closes buffer r = inr refl

pub closes_run : (parts : List (List Noted)) (lines : List Line) (buffer : List Noted) (r : Reply) → Loads parts lines buffer
    → (left : List Noted) × Loads parts (with_run lines (event.Close 1) r) left
closes_run parts lines buffer r h = on (run_closes buffer r)
  where
    mid : List Line
    mid = lines ++ line_of (event.Close 1) reply.Begun ∷ []

    quiet : IsAtNoCommit (Working Closing)
    quiet = working_quiet Closing (λ changes e. cc)

    begun : IsLoading parts mid (stood (Working Closing) buffer)
    begun = loading_more parts lines (stood h.posture buffer) (stood (Working Closing) buffer) (event.Close 1) reply.Begun refl refl quiet (λ n. refl) refl h.is

    on : (steps r (stood (Working Closing) buffer) ≡ stood (Working Closing) buffer) ⊎ (steps r (stood (Working Closing) buffer) ≡ stood Closed [])
        → (left : List Noted) × Loads parts (with_run lines (event.Close 1) r) left
    on (inl same) =
        (buffer, record { posture = Working Closing; quiet = quiet; is = loading_more parts mid (stood (Working Closing) buffer) (stood (Working Closing) buffer) (event.Run 1) r refl same quiet (λ n. refl) refl begun })
    on (inr closed) =
        ([], record { posture = Closed; quiet = closed_quiet; is = loading_more parts mid (stood (Working Closing) buffer) (stood Closed []) (event.Run 1) r refl closed closed_quiet (λ n. refl) refl begun })

-- a settling changes how no session stands
pub settles_loaded : (parts : List (List Noted)) (lines : List Line) (own : Standing) (r : Reply) → IsLoading parts lines own → IsLoading parts (lines ++ line_of event.Settle r ∷ []) own
settles_loaded parts lines own r h = record {
  own_is = same 1 ∙ h.own_is;
  others = λ session other. same session ∙ h.others session other;
  commits = commits_more parts lines line h.commits last;
  done = λ place changes there. done_more lines line place changes (h.done place changes there);
  count = numbers-push lines line ∙ h.count;
  each = all_load_more lines line h.each tt;
  last = h.last;
  ends = record {
    within = let old = h.ends.within in omega (arith, length-append lines (line ∷ []), old);
    past = past;
    rests = λ some. ap (λ ls. standing ls 1) front ∙ h.ends.rests some;
    count = ap numbers front ∙ h.ends.count;
  };
}
  where
    line : Line
    line = line_of event.Settle r

    either : (b : Bool) (s : Standing) → cond b s s ≡ s
    either true s = refl
    either false s = refl

    same : (session : ℕ) → standing (lines ++ line ∷ []) session ≡ standing lines session
    same session = standing_line lines line session ∙ either (0 == session) (standing lines session)

    front : take h.last (lines ++ line ∷ []) ≡ take h.last lines
    front = take-append-le h.last lines (line ∷ []) h.ends.within

    past : (n session : ℕ) (changes : List Noted) → (standing (take n (lines ++ line ∷ [])) session).posture ≡ Working (Committing changes) → n < h.last
    past n session changes = on (cases_lt (length lines) n)
      where
        Then : Standing → Type 0
        Then s = s.posture ≡ Working (Committing changes) → n < h.last

        whole : take n lines ≡ lines → Then (standing lines session)
        whole e = subst (λ ls. Then (standing ls session)) e (h.ends.past n session changes)

        on : (length lines < n) ⊎ (n ≤ length lines) → Then (standing (take n (lines ++ line ∷ [])) session)
        on (inl beyond) =
            let long : length (lines ++ line ∷ []) ≤ n = omega (arith, length-append lines (line ∷ [])) in
            subst (λ ls. Then (standing ls session)) (sym (take_all n (lines ++ line ∷ []) long)) (subst Then (sym (same session)) (whole (take_all n lines (omega arith))))
        on (inr within) = subst (λ ls. Then (standing ls session)) (sym (take-append-le n lines (line ∷ []) within)) (h.ends.past n session changes)

    At : ℕ → List Noted → Standing → Type 0
    At session changes s = s.posture ≡ Working (Committing changes) → IsOfPart parts s session changes

    last : (session : ℕ) (changes : List Noted) → At session changes (standing (lines ++ line ∷ []) session)
    last session changes =
        subst (At session changes) (sym (same session)) (subst (λ ls. At session changes (standing ls session)) (take_all (length lines) lines (omega arith)) (h.commits (length lines) session changes))

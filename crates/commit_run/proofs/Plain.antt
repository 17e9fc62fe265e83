-- A commit that needs no walk makes none, and three calls for each change and two.
use Rattle.std.proofs.Common.{◌≡◌, ◌+◌, ◌*◌, ℕ, Bool, true, false, List, [], ◌∷◌, ◌++◌, length, Option, Some, None, refl, ap, sym, subst, ◌∙◌, arith, length-append}
use Rattle.std.specs.Prelude.{if◌then◌else◌, ◌||◌}
use Rattle.std.specs.List.{AllByRecursion}
use Rattle.std.specs.Option.{option_map_or}
use Rattle.std.proofs.lemmas.Option.{slice_get_within}
use Rattle.db_base.specs.declared.trouble.CommitAnswer.TheVariants.{Committed}
use Rattle.cloud_trait.specs.declared.answer.Answer.TheVariants.{Done}
use Rattle.cloud_trait.specs.declared.turn.Turn.TheVariants.{Ended}
use Rattle.commit_writes.specs.Calls.{logged_calls, posted_calls, deleted_calls, put_of, opened_of, settled_of, all_logged, all_opened, all_posted, all_settled}
use Rattle.commit_writes.specs.Meaning.{IsCommitted, MeansTurn}
use Rattle.commit_writes.proofs.Within.{length_told}
use Rattle.commit_run.specs.Run.{next_at}
use Rattle.commit_run.specs.Meaning.{home_in}
use Rattle.commit_run.specs.Plain.{IsPlainChange, IsPlain, GoesPlainly}
use Rattle.commit_run.specs.Stepped.{course_of, MeansWrites}
use Rattle.commit_run.specs.Within.{IsNoGet}
use Rattle.commit_run.proofs.Words.{CommitAnswer, Pending, AtomicRec, Noted, Answer, Turn, Ask, Next, Goes, Ends, Stops, LeadsBy, Came, Deed, Home, Cache, Walk, page_without, pages_of, Writing, writing_ask, writing_next, Calls, told, routed_length, Hand, Writes, First, Change, Draft, Run, held, new_run, long_target, wrote, asks, ask_at, run_ready, run_next, Went, GetsNothing}
use Rattle.commit_run.proofs.Groups.{no_get}
use Rattle.commit_run.proofs.Outcomes as step
use Rattle.commit_run.proofs.Outcomes.{NextRun, Starts, starts}
use Rattle.commit_run.proofs.Trips.{IsGet, walks_get}

-- ---- it begins with what it writes

abbrev pub IsWrites : Hand → Type 0
IsWrites Writes = Unit {0}
IsWrites hand = ⊥

-- where it goes on, it writes
abbrev pub WritesNext : NextRun → Type 0
WritesNext (Goes n) = IsWrites n.0.hand
WritesNext (Ends n a) = Unit {0}
WritesNext (Stops n t) = Unit {0}

wrote_writes : (d : Draft) (c : Cache) (x : Next Writing CommitAnswer) → WritesNext (wrote d c x)
wrote_writes d c (Goes w) = tt
wrote_writes d c (Ends w a) = tt
wrote_writes d c (Stops w t) = tt

-- nothing pending, a change that is no update has its page
plain_page : (n : Noted) → IsPlainChange n → page_without [] [] n ≡ Some 1
plain_page n plain = ap (λ (b : Bool). if b || false then None else Some 1) plain

plain_pages : (changes : List Noted) → AllByRecursion IsPlainChange changes → length (pages_of [] [] changes) ≡ length changes
plain_pages [] all = refl
plain_pages (n ∷ changes) all =
    ap (λ (o : Option ℕ). length (option_map_or (λ page. page ∷ pages_of [] [] changes) o [])) (plain_page n all.0)
    ∙ (let more : length (pages_of [] [] changes) ≡ length changes = plain_pages changes all.1 in omega (arith, more))

start_writes : (home : Home) (changes : List Noted) (c : Cache) (x : NextRun) → IsPlain home changes → Starts home changes c x → WritesNext x
start_writes home changes c x plain (step.spent e) = tt
start_writes home changes c x plain (step.long to y left long begins) = absurd (never (sym (ap long_target plain.pending) ∙ long)) where
  never : None ≡ Some to → ⊥
  never e = absurd (cc (e))
start_writes home changes c x plain (step.few y left few (step.seeks n z is begins)) =
    absurd (omega (arith, plain_pages changes plain.each, ap (λ (ps : List Pending). length (pages_of ps [] changes)) plain.pending, slice_get_within changes (length (pages_of home.head.pending [] changes)) n is))
start_writes home changes c x plain (step.few y left few (step.full none e)) = tt
start_writes home changes c x plain (step.few y left few (step.writes w none fits e)) = tt

-- ---- and goes on so

step_writes : (d : Draft) (hand : Hand) (c : Cache) (a : Answer) (m : Run × Cache) → IsWrites hand → next_at hand d c a ≡ Goes m → IsWrites m.0.hand
step_writes d Writes c a m is goes = subst WritesNext goes (wrote_writes d c (writing_next d.writes a))
step_writes d (First w) c a m is goes = absurd is
step_writes d (Change w) c a m is goes = absurd is

pub asks_nothing : (d : Draft) (hand : Hand) → IsWrites hand → GetsNothing (ask_at hand d.writes)
asks_nothing d Writes is = no_get d.writes.stage d.writes
asks_nothing d (First w) is = absurd is
asks_nothing d (Change w) is = absurd is

plain_came : (home : Home) (changes : List Noted) (c : Cache) (start : Run × Cache) → IsPlain home changes → run_ready (new_run home changes, c) ≡ Goes start → (h : List Deed) (m : Run × Cache)
    → Came asks (LeadsBy run_next) start h m → IsWrites m.0.hand × AllByRecursion IsNoGet h
plain_came home changes c start plain goes [] m came =
    (subst (λ (n : Run × Cache). IsWrites n.0.hand) (sym came) (subst WritesNext goes (start_writes home changes c (run_ready (new_run home changes, c)) plain (starts home changes c))), tt)
plain_came home changes c start plain goes (x ∷ h) m (from, came, asked, made, leads, follows) =
    let before : IsWrites from.0.hand × AllByRecursion IsNoGet h = plain_came home changes c start plain goes h from came in
    (step_writes from.0.draft from.0.hand from.1 x.answer m before.0 leads, (subst GetsNothing (sym asked) (asks_nothing from.0.draft from.0.hand before.0), before.1))

pub plain_went : (home : Home) (changes : List Noted) (c : Cache) (h : List Deed) (m : Run × Cache) → IsPlain home changes → Went home changes c h m → IsWrites m.0.hand × AllByRecursion IsNoGet h
plain_went home changes c h m plain (start, goes, came) = plain_came home changes c start plain goes h m came

pub plain_walks : (home : Home) (changes : List Noted) (c : Cache) (h : List Deed) (first : Bool) (d : Draft) (w : Walk) (k : Cache) → IsPlain home changes
    → Went home changes c h (record { draft = d; hand = held first w }, k) → ⊥
plain_walks home changes c h true d w k plain went = (plain_went home changes c h (record { draft = d; hand = First w }, k) plain went).0
plain_walks home changes c h false d w k plain went = (plain_went home changes c h (record { draft = d; hand = Change w }, k) plain went).0

-- ---- how many calls a commit made that is committed

many_logged : (client : ℕ) (rs : List AtomicRec) (ids : List ℕ) → length ids ≡ length rs → length (logged_calls client rs ids) ≡ length rs
many_logged client [] ids e = refl
many_logged client (r ∷ rs) [] e = absurd (omega (arith, e))
many_logged client (r ∷ rs) (id ∷ ids) e = omega (arith, many_logged client rs ids (omega (arith, e)))

many_posted : (rs : List AtomicRec) (ids : List ℕ) → length ids ≡ length rs → length (posted_calls rs ids) ≡ length rs
many_posted [] ids e = refl
many_posted (r ∷ rs) [] e = absurd (omega (arith, e))
many_posted (r ∷ rs) (id ∷ ids) e = omega (arith, many_posted rs ids (omega (arith, e)))

many_deleted : (client : ℕ) (ids : List ℕ) (answers : List Answer) → length answers ≡ length ids → length (deleted_calls client ids answers) ≡ length ids
many_deleted client [] answers e = refl
many_deleted client (id ∷ ids) [] e = absurd (omega (arith, e))
many_deleted client (id ∷ ids) (a ∷ answers) e = omega (arith, many_deleted client ids answers (omega (arith, e)))

many_calls : (home : Home) (rs : List AtomicRec) (calls : Calls) → IsCommitted home rs calls → length calls ≡ 3 * length rs + 2
many_calls home rs calls done =
    ap length done.are
    ∙ omega (
      arith,
      done.logged,
      done.posted,
      done.deleted,
      many_logged home.client rs done.ids done.logged,
      many_posted rs done.posts done.posted,
      many_deleted home.client done.ids done.answers (omega (arith, done.deleted, done.logged)),
      length-append (all_settled home rs done.ids done.posts) (deleted_calls home.client done.ids done.answers),
      length-append (all_posted home rs done.ids rs done.posts) ((put_of home (settled_of home rs), Done) ∷ []),
      length-append (all_opened home rs done.ids) (posted_calls rs done.posts),
      length-append (all_logged home rs done.ids) ((put_of home (opened_of home rs), Done) ∷ []),
    )

-- gets that get nothing are none
none_got : (h : List Deed) → AllByRecursion IsGet (told h) → AllByRecursion IsNoGet h → length h ≡ 0
none_got [] gets none = refl
none_got (d ∷ h) gets none = absurd (never d.ask d.answer (last_get (told h) (d.ask, d.answer) gets) none.0) where
  never : (ask : Ask) (a : Answer) → IsGet (ask, a) → GetsNothing ask → ⊥
  never ask a (name, is) nothing = subst GetsNothing is nothing

  last_get : (cs : Calls) (call : Ask × Answer) → AllByRecursion IsGet (cs ++ call ∷ []) → IsGet call
  last_get [] call all = all.0
  last_get (x ∷ cs) call all = last_get cs call all.1

none_behind : (later first : List Deed) → AllByRecursion IsNoGet (later ++ first) → AllByRecursion IsNoGet first
none_behind [] first none = none
none_behind (x ∷ later) first none = none_behind later first none.1

pub goes_plainly : (home : Home) (changes : List Noted) (c : Cache) (h : List Deed) (d : Draft) (k : Cache) (call : Deed) (left : Home) (turn : Turn CommitAnswer) → IsPlain home changes
    → Went home changes c h (record { draft = d; hand = Writes }, k) → call.ask ≡ writing_ask d.writes → (so : MeansWrites (course_of home changes c h) call d.writes left turn) → GoesPlainly changes (call ∷ h) turn
goes_plainly home changes c h d k call left turn plain went asked so = record {
  none = (subst GetsNothing (sym asked) (no_get d.writes.stage d.writes), none);
  calls = λ x ended. all_calls x (subst (MeansTurn (home_in so.writing) d.writes.records (told (call ∷ so.writing.later)) left) ended so.means);
} where
  none : AllByRecursion IsNoGet h
  none = (plain_went home changes c h (record { draft = d; hand = Writes }, k) plain went).1

  first : length so.writing.first ≡ 0
  first =
      none_got so.writing.first (walks_get home changes c so.writing.routed.trips (told so.writing.first) so.writing.routed.walks)
      (none_behind so.writing.later so.writing.first (subst (AllByRecursion IsNoGet) so.writing.are none))

  records : length d.writes.records ≡ length changes
  records = ap length so.writing.routed.are ∙ routed_length (home_in so.writing) changes so.writing.routed.pages so.writing.routed.known

  all_calls : (x : ℕ) → MeansTurn (home_in so.writing) d.writes.records (told (call ∷ so.writing.later)) left (Ended (Committed x)) → length (call ∷ h) ≡ 3 * length changes + 2
  all_calls x means =
      omega (
        arith,
        first,
        records,
        ap length so.writing.are,
        length-append so.writing.later so.writing.first,
        length_told (call ∷ so.writing.later),
        many_calls (home_in so.writing) d.writes.records (told (call ∷ so.writing.later)) means.1,
      )

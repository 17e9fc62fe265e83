-- How many calls a commit has made at each stage of what it writes, which of them were puts, and which were deletions.
use Rattle.std.proofs.Common.{◌≡◌, ◌≤◌, ◌<◌, ◌+◌, ◌*◌, ℕ, List, [], ◌∷◌, ◌++◌, length, refl, ap, sym, subst, ◌∙◌, inl, inr, arith, length-append}
use Rattle.std.specs.Prelude.{take}
use Rattle.std.proofs.lemmas.List.{length-take-le}
use Rattle.std.proofs.lemmas.Option.{slice_get_within}
use Rattle.commit_writes.proofs.Words.{Ask, PutHeld, Deed, Answer, Done, Stage, Deleting, Finished, Logging, Opening, Sending, Settling, Waiting, AtomicRec, Home}
use Rattle.cloud_trait.specs.Ask.{PutsNothing}
use Rattle.commit_writes.specs.Writing.{Writing}
use Rattle.commit_writes.specs.Calls.{Calls, told, logged_calls, posted_calls, deleted_calls, put_of, opened_of, settled_of, all_logged, all_opened, all_posted, all_settled}
use Rattle.commit_writes.specs.Demands.{IsPut, NonePut, WasOpened, deletions}
use Rattle.commit_writes.specs.Within.{Went, WritesWithin}
use Rattle.commit_writes.proofs.Knows.{KnowsAt, KnowsDeleting, Knows}
use Rattle.commit_writes.proofs.Meaning.{went_knows}

-- ---- how many

pub length_told : (h : List Deed) → length (told h) ≡ length h
length_told [] = refl
length_told (d ∷ h) = omega (arith, length-append (told h) ((d.ask, d.answer) ∷ []), length_told h)

length_logged : (client : ℕ) (rs : List AtomicRec) (ids : List ℕ) → length (logged_calls client rs ids) ≤ length rs
length_logged client [] ids = omega arith
length_logged client (r ∷ rs) [] = omega arith
length_logged client (r ∷ rs) (id ∷ ids) = omega (arith, length_logged client rs ids)

length_posted : (rs : List AtomicRec) (ids : List ℕ) → length (posted_calls rs ids) ≤ length rs
length_posted [] ids = omega arith
length_posted (r ∷ rs) [] = omega arith
length_posted (r ∷ rs) (id ∷ ids) = omega (arith, length_posted rs ids)

length_deleted : (client : ℕ) (ids : List ℕ) (answers : List Answer) → length (deleted_calls client ids answers) ≤ length ids
length_deleted client [] answers = omega arith
length_deleted client (id ∷ ids) [] = omega arith
length_deleted client (id ∷ ids) (a ∷ answers) = omega (arith, length_deleted client ids answers)

length_opened : (h : Home) (rs : List AtomicRec) (ids : List ℕ) → length (all_opened h rs ids) ≤ length rs + 1
length_opened h rs ids = omega (arith, length_logged h.client rs ids, length-append (all_logged h rs ids) ((put_of h (opened_of h rs), Done) ∷ []))

length_sent : (h : Home) (rs : List AtomicRec) (ids : List ℕ) (sent : List AtomicRec) (posts : List ℕ) → length (all_posted h rs ids sent posts) ≤ length rs + 1 + length sent
length_sent h rs ids sent posts = omega (arith, length_opened h rs ids, length_posted sent posts, length-append (all_opened h rs ids) (posted_calls sent posts))

length_settled : (h : Home) (rs : List AtomicRec) (ids posts : List ℕ) → length (all_settled h rs ids posts) ≤ length rs + length rs + 2
length_settled h rs ids posts = omega (arith, length_sent h rs ids rs posts, length-append (all_posted h rs ids rs posts) ((put_of h (settled_of h rs), Done) ∷ []))

few_at : (stage : Stage) (h : Home) (cs : Calls) (w : Writing) → KnowsAt stage h cs w → length cs + 1 ≤ 3 * length w.records + 2
few_at Waiting h cs w k = absurd k
few_at Logging h cs w k =
    let within : w.place < length w.records = slice_get_within w.records w.place k.r k.here in
    subst (λ (l : Calls). length l + 1 ≤ 3 * length w.records + 2) (sym k.calls)
    (omega (arith, within, length_logged h.client (take w.place w.records) w.ids, length-take-le w.place w.records (omega (arith, within))))
few_at Opening h cs w k = subst (λ (l : Calls). length l + 1 ≤ 3 * length w.records + 2) (sym k.calls) (omega (arith, length_logged h.client w.records w.ids))
few_at Sending h cs w k =
    let within : w.place < length w.records = slice_get_within w.records w.place k.r k.here in
    subst (λ (l : Calls). length l + 1 ≤ 3 * length w.records + 2) (sym k.calls)
    (omega (arith, within, length_sent h w.records w.ids (take w.place w.records) k.posts, length-take-le w.place w.records (omega (arith, within))))
few_at Settling h cs w k = subst (λ (l : Calls). length l + 1 ≤ 3 * length w.records + 2) (sym k.calls) (omega (arith, length_sent h w.records w.ids w.records k.posts))
few_at Deleting h cs w k =
    let within : w.place < length w.ids = slice_get_within w.ids w.place k.id k.here in
    subst (λ (l : Calls). length l + 1 ≤ 3 * length w.records + 2) (sym k.calls)
    (omega (
      arith,
      within,
      k.logged,
      length_settled h w.records w.ids k.posts,
      length_deleted h.client (take w.place w.ids) k.answers,
      length-take-le w.place w.ids (omega (arith, within)),
      length-append (all_settled h w.records w.ids k.posts) (deleted_calls h.client (take w.place w.ids) k.answers),
    ))
few_at Finished h cs w k = absurd k

-- the next call is one of three for each record and of two more
pub went_within : (home : Home) (records : List AtomicRec) (h : List Deed) (w : Writing) → Went home records h w → WritesWithin records h
went_within home records h w went =
    let k : Knows home records (told h) w = went_knows home records h w went in
    subst (λ (rs : List AtomicRec). length h + 1 ≤ 3 * length rs + 2) k.0
    (subst (λ (n : ℕ). n + 1 ≤ 3 * length w.records + 2) (length_told h) (few_at w.stage home (told h) w k.1))

-- ---- puts

put_not : (ask : Ask) → IsPut ask → PutsNothing ask → ⊥
put_not (PutHeld name bytes one two) put none = none
put_not ask put none = put

-- a head was put, or none was
pub opened_put : (cs : Calls) → WasOpened cs → NonePut cs → ⊥
opened_put [] opened none = opened
opened_put (c ∷ cs) (inl here) none = put_not c.0 here.0 none.0
opened_put (c ∷ cs) (inr later) none = opened_put cs later none.1

pub none_logged : (client : ℕ) (rs : List AtomicRec) (ids : List ℕ) → NonePut (logged_calls client rs ids)
none_logged client [] ids = tt
none_logged client (r ∷ rs) [] = tt
none_logged client (r ∷ rs) (id ∷ ids) = (tt, none_logged client rs ids)

pub opened_more : (cs more : Calls) → WasOpened cs → WasOpened (cs ++ more)
opened_more [] more opened = absurd opened
opened_more (c ∷ cs) more (inl here) = inl here
opened_more (c ∷ cs) more (inr later) = inr (opened_more cs more later)

opened_last : (cs : Calls) (ask : Ask) → IsPut ask → WasOpened (cs ++ (ask, Done) ∷ [])
opened_last [] ask put = inl (put, refl)
opened_last (c ∷ cs) ask put = inr (opened_last cs ask put)

pub opened_all : (h : Home) (rs : List AtomicRec) (ids : List ℕ) → WasOpened (all_opened h rs ids)
opened_all h rs ids = opened_last (all_logged h rs ids) (put_of h (opened_of h rs)) tt

pub opened_posted : (h : Home) (rs : List AtomicRec) (ids : List ℕ) (sent : List AtomicRec) (posts : List ℕ) → WasOpened (all_posted h rs ids sent posts)
opened_posted h rs ids sent posts = opened_more (all_opened h rs ids) (posted_calls sent posts) (opened_all h rs ids)

pub opened_settled : (h : Home) (rs : List AtomicRec) (ids posts : List ℕ) → WasOpened (all_settled h rs ids posts)
opened_settled h rs ids posts = opened_more (all_posted h rs ids rs posts) ((put_of h (settled_of h rs), Done) ∷ []) (opened_posted h rs ids rs posts)

-- ---- deletions

pub deletions_append : (cs more : Calls) → deletions (cs ++ more) ≡ deletions cs + deletions more
deletions_append [] more = omega arith
deletions_append (c ∷ cs) more = omega (arith, deletions_append cs more)

deletions_logged : (client : ℕ) (rs : List AtomicRec) (ids : List ℕ) → deletions (logged_calls client rs ids) ≡ 0
deletions_logged client [] ids = refl
deletions_logged client (r ∷ rs) [] = refl
deletions_logged client (r ∷ rs) (id ∷ ids) = omega (arith, deletions_logged client rs ids)

deletions_posted : (rs : List AtomicRec) (ids : List ℕ) → deletions (posted_calls rs ids) ≡ 0
deletions_posted [] ids = refl
deletions_posted (r ∷ rs) [] = refl
deletions_posted (r ∷ rs) (id ∷ ids) = omega (arith, deletions_posted rs ids)

deletions_deleted : (client : ℕ) (ids : List ℕ) (answers : List Answer) → length answers ≡ length ids → deletions (deleted_calls client ids answers) ≡ length ids
deletions_deleted client [] answers same = refl
deletions_deleted client (id ∷ ids) [] same = omega (arith, same)
deletions_deleted client (id ∷ ids) (a ∷ answers) same = omega (arith, deletions_deleted client ids answers (omega (arith, same)))

deletions_settled : (h : Home) (rs : List AtomicRec) (ids posts : List ℕ) → deletions (all_settled h rs ids posts) ≡ 0
deletions_settled h rs ids posts =
    omega (
      arith,
      deletions_append (all_posted h rs ids rs posts) ((put_of h (settled_of h rs), Done) ∷ []),
      deletions_append (all_opened h rs ids) (posted_calls rs posts),
      deletions_append (all_logged h rs ids) ((put_of h (opened_of h rs), Done) ∷ []),
      deletions_logged h.client rs ids,
      deletions_posted rs posts,
    )

-- as many as messages before the next one
pub deleted_before : (h : Home) (cs : Calls) (w : Writing) → KnowsDeleting h cs w → deletions cs ≡ w.place
deleted_before h cs w k =
    let within : w.place < length w.ids = slice_get_within w.ids w.place k.id k.here in
    let front : length (take w.place w.ids) ≡ w.place = length-take-le w.place w.ids (omega (arith, within)) in
    ap deletions k.calls
    ∙ omega (
      arith,
      front,
      deletions_append (all_settled h w.records w.ids k.posts) (deleted_calls h.client (take w.place w.ids) k.answers),
      deletions_settled h w.records w.ids k.posts,
      deletions_deleted h.client (take w.place w.ids) k.answers (k.deleted ∙ sym front),
    )

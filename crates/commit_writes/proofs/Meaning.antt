-- What each step of a commit's writes makes of what is known.
use Rattle.std.proofs.Common.{◌≡◌, ◌≢◌, ◌≤◌, ◌<◌, ℕ, List, [], ◌∷◌, ◌++◌, length, Option, Some, None, refl, ap, sym, subst, ◌∙◌, inl, inr, arith, length-append}
use Rattle.std.specs.Prelude.{slice_get, take}
use Rattle.std.specs.List.{AllByRecursion}
use Rattle.std.proofs.lemmas.List.{append_assoc, append-nil, take_all, length-take-le}
use Rattle.std.proofs.lemmas.Option.{slice_get_within}
use Rattle.route_plan.proofs.Places.{past_none}
use Rattle.commit_writes.proofs.Words.{Ask, Delete, PutHeld, Came, Deed, Goes, LeadsBy, Took, trouble_of, Fits, Answer, Done, Failed, Turn, More, CommitAnswer, Trouble, AtomicRec, Home}
use Rattle.db_base.specs.declared.trouble.Trouble.TheVariants as trouble
use Rattle.db_base.specs.declared.names.ObjName.TheVariants as object
use Rattle.db_base.specs.declared.names.QueueName.TheVariants as queue
use Rattle.head_codec.specs.declared.head.Head.{Head}
use Rattle.head_codec.specs.Spelling.{head_bytes}
use Rattle.log_codec.specs.Atomic.{atomic_bytes}
use Rattle.log_codec.specs.Pu.{pu_bytes}
use Rattle.route_plan.specs.Record.{pu_record_of}
use Rattle.route_plan.specs.Heads.{settled_head}
use Rattle.route_plan.specs.Queue.{queue_name}
use Rattle.cloud_trait.specs.declared.answer.Answer.TheVariants.{Sent, Late}
use Rattle.cloud_trait.specs.declared.turn.Turn.TheVariants.{Ended, Stopped}
use Rattle.cloud_trait.specs.Ask.{Send}
use Rattle.txn_buffer.specs.Noted.{Noted}
use Rattle.recover_run.proofs.KeptRecords.{take_more}
use Rattle.commit_writes.specs.Writing.{Writing, waiting, with_head, before_of, restored, begun, writing_ask, writing_next, head_ask, log_ask, send_ask, delete_ask, not_committed, KeepsHome}
use Rattle.commit_writes.specs.Calls.{Calls, told, log_of, logged_calls, post_of, posted_calls, deleted_calls, put_of, opened_of, settled_of, all_logged, all_opened, all_posted, all_settled}
use Rattle.commit_writes.specs.Meaning.{WasTried, IsOpenAnswered, IsSettleAnswered, WhyOpen, MeansTurn, Meant}
use Rattle.commit_writes.specs.Within.{Went}
use Rattle.commit_writes.proofs.Outcomes as step
use Rattle.commit_writes.proofs.Outcomes.{Step, logged, Logs, Posts, Clears, Leaves, Comes, WasNotSent, begins, comes, was_not_sent, was_not_put, put_failed, was_tried}
use Rattle.commit_writes.proofs.Knows.{KnowsLogging, KnowsOpening, KnowsSending, KnowsSettling, KnowsAt, Knows, KnowsNext}

-- ---- lists of calls with one more

logged_push : (client : ℕ) (rs : List AtomicRec) (ids : List ℕ) (r : AtomicRec) (id : ℕ) → length ids ≡ length rs
    → logged_calls client (rs ++ r ∷ []) (ids ++ id ∷ []) ≡ logged_calls client rs ids ++ (log_of client r, Sent id) ∷ []
logged_push client [] [] r id same = refl
logged_push client [] (i ∷ ids) r id same = absurd (omega arith)
logged_push client (x ∷ rs) [] r id same = absurd (omega arith)
logged_push client (x ∷ rs) (i ∷ ids) r id same = ap (λ l. (log_of client x, Sent i) ∷ l) (logged_push client rs ids r id (omega arith))

posted_push : (rs : List AtomicRec) (ids : List ℕ) (r : AtomicRec) (id : ℕ) → length ids ≡ length rs
    → posted_calls (rs ++ r ∷ []) (ids ++ id ∷ []) ≡ posted_calls rs ids ++ (post_of r, Sent id) ∷ []
posted_push [] [] r id same = refl
posted_push [] (i ∷ ids) r id same = absurd (omega arith)
posted_push (x ∷ rs) [] r id same = absurd (omega arith)
posted_push (x ∷ rs) (i ∷ ids) r id same = ap (λ l. (post_of x, Sent i) ∷ l) (posted_push rs ids r id (omega arith))

deleted_push : (client : ℕ) (ids : List ℕ) (answers : List Answer) (id : ℕ) (a : Answer) → length answers ≡ length ids
    → deleted_calls client (ids ++ id ∷ []) (answers ++ a ∷ []) ≡ deleted_calls client ids answers ++ (Delete (queue.Atomic client) id, a) ∷ []
deleted_push client [] [] id a same = refl
deleted_push client [] (b ∷ answers) id a same = absurd (omega arith)
deleted_push client (i ∷ ids) [] id a same = absurd (omega arith)
deleted_push client (i ∷ ids) (b ∷ answers) id a same = ap (λ l. (Delete (queue.Atomic client) i, b) ∷ l) (deleted_push client ids answers id a (omega arith))

-- ---- the calls that are made, as what they are

log_asked : (h : Home) (w : Writing) (r : AtomicRec) → w.home ≡ h → w.out ≡ atomic_bytes r → log_ask w ≡ log_of h.client r
log_asked h w r home out = ap (λ (x : Home). Send (queue.Atomic x.client) w.out) home ∙ ap (λ b. Send (queue.Atomic h.client) b) out

-- a put of the home's head, whose bytes are those of a head
put_asked : (h : Home) (w : Writing) (head : Head) (of : Head) → w.home ≡ with_head h head → w.out ≡ head_bytes of → head_ask w ≡ put_of h of
put_asked h w head of home out =
    ap (λ (x : Home). PutHeld (object.Head x.client) w.out x.lease None) home ∙ ap (λ b. PutHeld (object.Head h.client) b h.lease None) out

pub post_asked : (w : Writing) (o : Option AtomicRec) (r : AtomicRec) → o ≡ Some r → w.out ≡ pu_bytes (pu_record_of r) → send_ask w o ≡ post_of r
post_asked w o r e out = ap (λ x. send_ask w x) e ∙ ap (λ b. Send (queue_name r.tree r.page) b) out

delete_asked : (h : Home) (w : Writing) (o : Option ℕ) (id : ℕ) (head : Head) → o ≡ Some id → w.home ≡ with_head h head → delete_ask w o ≡ Delete (queue.Atomic h.client) id
delete_asked h w o id head e home = ap (λ x. delete_ask w x) e ∙ ap (λ (x : Home). Delete (queue.Atomic x.client) id) home

-- one call more
one_more : {X : Type 0} (xs ys : List X) (a b : X) → xs ≡ ys → a ≡ b → xs ++ a ∷ [] ≡ ys ++ b ∷ []
one_more xs ys a b same this = ap (λ l. l ++ a ∷ []) same ∙ ap (λ x. ys ++ x ∷ []) this

-- ---- where records go to the ATOMIC queue

knows_logs : (h : Home) (cs : Calls) (w : Writing) (x : Step) → w.home ≡ h → length w.ids ≡ w.place → w.place ≤ length w.records → cs ≡ logged_calls h.client (take w.place w.records) w.ids
    → Logs w x → KnowsNext h w.records cs x
knows_logs h cs w x home logged within calls (step.logs r e) = (refl, record { r = r; here = e; out = refl; home = home; logged = logged; calls = calls })
knows_logs h cs w x home logged within calls (step.opens e) =
    let past : length w.records ≤ w.place = past_none w.records w.place e in (
      refl,
      record {
        out = ap (λ (x : Home). head_bytes (opened_of x w.records)) home;
        home = ap (λ (x : Home). with_head x (opened_of x w.records)) home;
        before = ap (λ (x : Home). before_of x.head) home;
        logged = omega (arith, logged, past, within);
        calls = calls ∙ ap (λ rs. logged_calls h.client rs w.ids) (take_all w.place w.records past);
      },
    )

log_called : (h : Home) (cs : Calls) (w : Writing) (a : Answer) (k : KnowsLogging h cs w)
    → cs ++ (log_ask w, a) ∷ [] ≡ logged_calls h.client (take w.place w.records) w.ids ++ (log_of h.client k.r, a) ∷ []
log_called h cs w a k =
    one_more cs (logged_calls h.client (take w.place w.records) w.ids) (log_ask w, a) (log_of h.client k.r, a) k.calls (ap (λ q. (q, a)) (log_asked h w k.r k.home k.out))

one_logged : (h : Home) (cs : Calls) (w : Writing) (id : ℕ) (x : Step) → KnowsLogging h cs w → Logs (logged w id) x → KnowsNext h w.records (cs ++ (log_ask w, Sent id) ∷ []) x
one_logged h cs w id x k next =
    let within : w.place < length w.records = slice_get_within w.records w.place k.r k.here in
    let front : length w.ids ≡ length (take w.place w.records) = k.logged ∙ sym (length-take-le w.place w.records (omega (arith, within))) in
    knows_logs h (cs ++ (log_ask w, Sent id) ∷ []) (logged w id) x k.home (omega (arith, length-append w.ids (id ∷ []), k.logged)) (omega (arith, within))
    (log_called h cs w (Sent id) k
    ∙ (sym (logged_push h.client (take w.place w.records) w.ids k.r id front)
    ∙ ap (λ rs. logged_calls h.client rs (w.ids ++ id ∷ [])) (sym (take_more w.records w.place k.r k.here))))
    next

log_failed : (h : Home) (cs : Calls) (w : Writing) (a : Answer) (t : Trouble) → KnowsLogging h cs w → WasNotSent a t → KnowsNext h w.records (cs ++ (log_ask w, a) ∷ []) (not_committed w t)
log_failed h cs w a t k step.failed = (inl (refl, record { sent = w.place; last = k.r; here = k.here; ids = w.ids; are = log_called h cs w Failed k }), k.home)

-- ---- the put of the head that commits

open_called : (h : Home) (cs : Calls) (w : Writing) (a : Answer) → KnowsOpening h cs w → cs ++ (head_ask w, a) ∷ [] ≡ all_logged h w.records w.ids ++ (put_of h (opened_of h w.records), a) ∷ []
open_called h cs w a k =
    one_more cs (all_logged h w.records w.ids) (head_ask w, a) (put_of h (opened_of h w.records), a) k.calls (ap (λ q. (q, a)) (put_asked h w (opened_of h w.records) (opened_of h w.records) k.home k.out))

open_answered : (h : Home) (cs : Calls) (w : Writing) (a : Answer) → KnowsOpening h cs w → IsOpenAnswered h w.records (cs ++ (head_ask w, a) ∷ []) a
open_answered h cs w a k = record { ids = w.ids; logged = k.logged; are = open_called h cs w a k }

-- ---- where records go to their pending update queues

-- so many are there
record KnowsPosted (h : Home) (cs : Calls) (w : Writing) (n : ℕ) : Type 0 where
  home : w.home ≡ with_head h (opened_of h w.records)
  logged : length w.ids ≡ length w.records
  posts : List ℕ
  posted : length posts ≡ n
  within : n ≤ length w.records
  calls : cs ≡ all_posted h w.records w.ids (take n w.records) posts

post_called : (h : Home) (cs : Calls) (w : Writing) (a : Answer) (k : KnowsSending h cs w)
    → cs ++ (send_ask w (slice_get w.records w.place), a) ∷ [] ≡ all_posted h w.records w.ids (take w.place w.records) k.posts ++ (post_of k.r, a) ∷ []
post_called h cs w a k =
    one_more cs (all_posted h w.records w.ids (take w.place w.records) k.posts) (send_ask w (slice_get w.records w.place), a) (post_of k.r, a) k.calls
    (ap (λ q. (q, a)) (post_asked w (slice_get w.records w.place) k.r k.here k.out))

knows_posted : (h : Home) (cs : Calls) (w : Writing) (a : Answer) (n : ℕ) → KnowsAt w.stage h cs w → Posts w a n → KnowsPosted h (cs ++ (writing_ask w, a) ∷ []) w n
knows_posted h cs v a n k (step.opened w) = record {
  home = k.home;
  logged = k.logged;
  posts = [];
  posted = refl;
  within = omega arith;
  calls = open_called h cs v Done k ∙ (sym (append-nil (all_opened h w.records w.ids)) ∙ ap (λ l. all_opened h w.records w.ids ++ l) (none_posted w.records));
} where
  none_posted : (rs : List AtomicRec) → [] ≡ posted_calls (take 0 rs) []
  none_posted [] = refl
  none_posted (r ∷ rs) = refl
knows_posted h cs v a n k (step.one_sent w id) =
    let within : w.place < length w.records = slice_get_within w.records w.place k.r k.here in
    let front : length k.posts ≡ length (take w.place w.records) = k.posted ∙ sym (length-take-le w.place w.records (omega (arith, within))) in
    record {
      home = k.home;
      logged = k.logged;
      posts = k.posts ++ id ∷ [];
      posted = omega (arith, length-append k.posts (id ∷ []), k.posted);
      within = omega (arith, within);
      calls = post_called h cs v (Sent id) k
          ∙ (append_assoc (all_opened h w.records w.ids) (posted_calls (take w.place w.records) k.posts) ((post_of k.r, Sent id) ∷ [])
          ∙ (ap (λ l. all_opened h w.records w.ids ++ l) (sym (posted_push (take w.place w.records) k.posts k.r id front))
          ∙ ap (λ rs. all_posted h w.records w.ids rs (k.posts ++ id ∷ [])) (sym (take_more w.records w.place k.r k.here))));
    }

pub fits_post : (w : Writing) (o : Option AtomicRec) (r : AtomicRec) (a : Answer) → o ≡ Some r → Fits (send_ask w o) a → Fits (Send (queue_name r.tree r.page) w.out) a
fits_post w o r a e fits = subst (λ x. Fits (send_ask w x) a) e fits

post_failed : (h : Home) (cs : Calls) (w : Writing) (a : Answer) (t : Trouble) → KnowsSending h cs w → WasNotSent a t
    → WhyOpen h w.records (cs ++ (send_ask w (slice_get w.records w.place), a) ∷ []) w.home t
post_failed h cs w a t k step.failed =
    inl (refl, record { sent = w.place; last = k.r; here = k.here; ids = w.ids; posts = k.posts; logged = k.logged; are = post_called h cs w Failed k }, k.home)

-- ---- the put of the head that settles

settle_called : (h : Home) (cs : Calls) (w : Writing) (a : Answer) (k : KnowsSettling h cs w)
    → cs ++ (head_ask w, a) ∷ [] ≡ all_posted h w.records w.ids w.records k.posts ++ (put_of h (settled_of h w.records), a) ∷ []
settle_called h cs w a k =
    one_more cs (all_posted h w.records w.ids w.records k.posts) (head_ask w, a) (put_of h (settled_of h w.records), a) k.calls (ap (λ q. (q, a)) (put_asked h w (settled_of h w.records) (settled_of h w.records) k.home k.out))

settle_answered : (h : Home) (cs : Calls) (w : Writing) (a : Answer) → KnowsSettling h cs w → IsSettleAnswered h w.records (cs ++ (head_ask w, a) ∷ []) a
settle_answered h cs w a k = record { ids = w.ids; posts = k.posts; logged = k.logged; posted = k.posted; are = settle_called h cs w a k }

-- the head stays open
knows_left : (h : Home) (cs : Calls) (w : Writing) (a : Answer) → KnowsAt w.stage h cs w → Fits (writing_ask w) a → Leaves w a → WhyOpen h w.records (cs ++ (writing_ask w, a) ∷ []) w.home (trouble_of a)
knows_left h cs v a k fits (step.not_sent w b failed) =
    post_failed h cs v a (trouble_of a) k (was_not_sent (queue_name k.r.tree k.r.page) w.out a (fits_post w (slice_get w.records w.place) k.r a k.here fits) failed)
knows_left h cs v a k fits (step.not_settled w b failed) =
    inr (a, was_not_put (object.Head w.home.client) w.out w.home.lease None a fits failed, settle_answered h cs v a k, k.home)

-- ---- where ATOMIC messages are deleted

-- the deletions of so many were tried
record KnowsCleared (h : Home) (cs : Calls) (w : Writing) (n : ℕ) : Type 0 where
  home : w.home ≡ with_head h (settled_of h w.records)
  logged : length w.ids ≡ length w.records
  posts : List ℕ
  posted : length posts ≡ length w.records
  answers : List Answer
  deleted : length answers ≡ n
  tried : AllByRecursion WasTried answers
  within : n ≤ length w.ids
  calls : cs ≡ all_settled h w.records w.ids posts ++ deleted_calls h.client (take n w.ids) answers

-- one message more is deleted, whatever that answered
tried_push : (answers : List Answer) (a : Answer) → AllByRecursion WasTried answers → WasTried a → AllByRecursion WasTried (answers ++ a ∷ [])
tried_push [] a all this = (this, tt)
tried_push (b ∷ answers) a all this = (all.0, tried_push answers a all.1 this)

fits_delete : (w : Writing) (o : Option ℕ) (id : ℕ) (a : Answer) → o ≡ Some id → Fits (delete_ask w o) a → Fits (Delete (queue.Atomic w.home.client) id) a
fits_delete w o id a e fits = subst (λ x. Fits (delete_ask w x) a) e fits

knows_cleared : (h : Home) (cs : Calls) (w : Writing) (a : Answer) (n : ℕ) → KnowsAt w.stage h cs w → Fits (writing_ask w) a → Clears w a n → KnowsCleared h (cs ++ (writing_ask w, a) ∷ []) w n
knows_cleared h cs v a n k fits (step.settled w) = record {
  home = k.home;
  logged = k.logged;
  posts = k.posts;
  posted = k.posted;
  answers = [];
  deleted = refl;
  tried = tt;
  within = omega arith;
  calls = settle_called h cs v Done k
      ∙ (sym (append-nil (all_settled h w.records w.ids k.posts))
      ∙ ap (λ l. all_settled h w.records w.ids k.posts ++ l) (none_deleted w.ids));
} where
  none_deleted : (ids : List ℕ) → [] ≡ deleted_calls h.client (take 0 ids) []
  none_deleted [] = refl
  none_deleted (id ∷ ids) = refl
knows_cleared h cs v a n k fits (step.one_tried w b found) =
    let within : w.place < length w.ids = slice_get_within w.ids w.place k.id k.here in
    let front : length k.answers ≡ length (take w.place w.ids) = k.deleted ∙ sym (length-take-le w.place w.ids (omega (arith, within))) in
    record {
      home = k.home;
      logged = k.logged;
      posts = k.posts;
      posted = k.posted;
      answers = k.answers ++ a ∷ [];
      deleted = omega (arith, length-append k.answers (a ∷ []), k.deleted);
      tried = tried_push k.answers a k.tried (was_tried (queue.Atomic w.home.client) k.id a (fits_delete w (slice_get w.ids w.place) k.id a k.here fits) found);
      within = omega (arith, within);
      calls = one_more cs (all_settled h w.records w.ids k.posts ++ deleted_calls h.client (take w.place w.ids) k.answers) (delete_ask w (slice_get w.ids w.place), a) (Delete (queue.Atomic h.client) k.id, a) k.calls
          (ap (λ q. (q, a)) (delete_asked h w (slice_get w.ids w.place) k.id (settled_of h w.records) k.here k.home))
          ∙ (append_assoc (all_settled h w.records w.ids k.posts) (deleted_calls h.client (take w.place w.ids) k.answers) ((Delete (queue.Atomic h.client) k.id, a) ∷ [])
          ∙ (ap (λ l. all_settled h w.records w.ids k.posts ++ l) (sym (deleted_push h.client (take w.place w.ids) k.answers k.id a front))
          ∙ ap (λ ids. all_settled h w.records w.ids k.posts ++ deleted_calls h.client ids (k.answers ++ a ∷ [])) (sym (take_more w.ids w.place k.id k.here))));
    }

-- ---- a step

comes_known : (h : Home) (cs : Calls) (w : Writing) (a : Answer) (x : Step) → KnowsAt w.stage h cs w → Fits (writing_ask w) a → Comes w a x → KnowsNext h w.records (cs ++ (writing_ask w, a) ∷ []) x
comes_known h cs v a x k fits (step.goes_on w id next first) = one_logged h cs v id next k first
comes_known h cs v a x k fits (step.not_logged w b failed) = log_failed h cs v a (trouble_of a) k (was_not_sent (queue.Atomic w.home.client) w.out a fits failed)
comes_known h cs v a x k fits (step.late w end now) = (
  inr (end, now, refl, open_answered h cs v (Late end now) k),
  ap (λ (y : Home). with_head y (restored y.head w.before)) k.home ∙ ap (λ b. with_head h (restored (opened_of h w.records) b)) k.before,
)
comes_known h cs v a x k fits (step.doubts w b failed) =
    (subst (IsOpenAnswered h w.records (cs ++ (head_ask v, a) ∷ [])) (put_failed (object.Head w.home.client) w.out w.home.lease None a fits failed) (open_answered h cs v a k), k.home)
comes_known h cs w a x k fits (step.sends n r posts e) =
    let m : KnowsPosted h (cs ++ (writing_ask w, a) ∷ []) w n = knows_posted h cs w a n k posts in
    (refl, record { r = r; here = e; out = refl; home = m.home; logged = m.logged; posts = m.posts; posted = m.posted; calls = m.calls })
comes_known h cs w a x k fits (step.settles n posts e) =
    let m : KnowsPosted h (cs ++ (writing_ask w, a) ∷ []) w n = knows_posted h cs w a n k posts in
    let past : length w.records ≤ n = past_none w.records n e in (
      refl,
      record {
        out = ap (λ (y : Home). head_bytes (settled_head y.head w.records)) m.home;
        home = ap (λ (y : Home). with_head y (settled_head y.head w.records)) m.home;
        logged = m.logged;
        posts = m.posts;
        posted = omega (arith, m.posted, past, m.within);
        calls = m.calls ∙ ap (λ rs. all_posted h w.records w.ids rs m.posts) (take_all n w.records past);
      },
    )
comes_known h cs w a x k fits (step.stays_open leaves) = knows_left h cs w a k fits leaves
comes_known h cs w a x k fits (step.deletes n id clears e) =
    let m : KnowsCleared h (cs ++ (writing_ask w, a) ∷ []) w n = knows_cleared h cs w a n k fits clears in
    (refl, record { id = id; here = e; home = m.home; logged = m.logged; posts = m.posts; posted = m.posted; answers = m.answers; deleted = m.deleted; tried = m.tried; calls = m.calls })
comes_known h cs w a x k fits (step.ends n clears e) =
    let m : KnowsCleared h (cs ++ (writing_ask w, a) ∷ []) w n = knows_cleared h cs w a n k fits clears in
    let past : length w.ids ≤ n = past_none w.ids n e in (
      ap (λ (y : Home). y.attempt) m.home,
      record {
        ids = w.ids;
        posts = m.posts;
        answers = m.answers;
        logged = m.logged;
        posted = m.posted;
        deleted = omega (arith, m.deleted, past, m.within, m.logged);
        tried = m.tried;
        are = m.calls ∙ ap (λ ids. all_settled h w.records w.ids m.posts ++ deleted_calls h.client ids m.answers) (take_all n w.ids past);
      },
      m.home,
    )
comes_known h cs w a x k fits (step.lacks v under) = refl
comes_known h cs w a x k fits (step.waits v b) = absurd k
comes_known h cs w a x k fits (step.rests v b) = absurd k

pub knows_next : (h : Home) (rs : List AtomicRec) (cs : Calls) (w : Writing) (a : Answer) → Knows h rs cs w → Fits (writing_ask w) a → KnowsNext h rs (cs ++ (writing_ask w, a) ∷ []) (writing_next w a)
knows_next h rs cs w a k fits =
    subst (λ (x : List AtomicRec). KnowsNext h x (cs ++ (writing_ask w, a) ∷ []) (writing_next w a)) k.0 (comes_known h cs w a (writing_next w a) k.1 fits (comes w a))

-- ---- over the whole run

none_logged : (client : ℕ) (rs : List AtomicRec) → [] ≡ logged_calls client (take 0 rs) []
none_logged client [] = refl
none_logged client (r ∷ rs) = refl

-- before its first call
knows_begun : (h : Home) (changes : List Noted) (rs : List AtomicRec) (start : Writing) → begun (waiting h changes) rs ≡ Goes start → Knows h rs [] start
knows_begun h changes rs start goes =
    subst (KnowsNext h rs []) goes
    (knows_logs h [] (record (waiting h changes) { records = rs; place = 0 }) (begun (waiting h changes) rs) refl refl (omega arith) (none_logged h.client rs) (begins (waiting h changes) rs))

knows_more : (h : Home) (rs : List AtomicRec) (cs : Calls) (from m : Writing) (ask : Ask) (a : Answer) → Knows h rs cs from → ask ≡ writing_ask from → Fits ask a
    → writing_next from a ≡ Goes m → Knows h rs (cs ++ (ask, a) ∷ []) m
knows_more h rs cs from m ask a k asked fits goes =
    subst (λ q. Knows h rs (cs ++ (q, a) ∷ []) m) (sym asked)
    (subst (KnowsNext h rs (cs ++ (writing_ask from, a) ∷ [])) goes (knows_next h rs cs from a k (subst (λ q. Fits q a) asked fits)))

pub came_knows : (h : Home) (changes : List Noted) (rs : List AtomicRec) (start : Writing) → begun (waiting h changes) rs ≡ Goes start → (ds : List Deed) (m : Writing)
    → Came writing_ask (LeadsBy writing_next) start ds m → Knows h rs (told ds) m
came_knows h changes rs start goes [] m came = subst (Knows h rs []) (sym came) (knows_begun h changes rs start goes)
came_knows h changes rs start goes (d ∷ ds) m (from, came, asked, made, leads, follows) =
    knows_more h rs (told ds) from m d.ask d.answer (came_knows h changes rs start goes ds from came) asked made.fits leads

-- the same of a commit that came here
pub went_knows : (home : Home) (records : List AtomicRec) (h : List Deed) (w : Writing) → Went home records h w → Knows home records (told h) w
went_knows home records h w (some, changes, start, begins, came) = came_knows home changes records start begins h w came

pub only_memory : (t : Trouble) → (t ≢ trouble.Memory → t ≡ trouble.Memory) → t ≡ trouble.Memory
only_memory trouble.Memory f = refl
only_memory t f = f (λ e. cc)

-- what a step of the code means by the whole run
step_means : (h : Home) (rs : List AtomicRec) (cs : Calls) (old new : Writing) (a : Answer) (turn : Turn CommitAnswer) → KnowsNext h rs cs (writing_next old a) → Took (LeadsBy writing_next) KeepsHome old a new turn
    → MeansTurn h rs cs new.home turn
step_means h rs cs old new a More k took = tt
step_means h rs cs old new a (Ended x) k took = subst (KnowsNext h rs cs) took k
step_means h rs cs old new a (Stopped t) k took = only_memory t (λ no. subst (KnowsNext h rs cs) (took.0 no) k)

pub came_means : (old new : Writing) (a : Answer) (turn : Turn CommitAnswer) → Fits (writing_ask old) a → Took (LeadsBy writing_next) KeepsHome old a new turn → Meant old a new turn
came_means old new a turn fits took h changes rs start ds goes came =
    step_means h rs (told ds ++ (writing_ask old, a) ∷ []) old new a turn (knows_next h rs (told ds) old a (came_knows h changes rs start goes ds old came) fits) took

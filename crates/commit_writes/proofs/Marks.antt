-- Where its calls are calm and nobody else acts, a commit leaves its ATOMIC messages marked as deleted.
use Rattle.std.proofs.Common.{◌≡◌, ◌≢◌, ◌≤◌, ◌+◌, ◌-◌, ℕ, zero, suc, Bool, true, false, cond, List, [], ◌∷◌, ◌++◌, length, Option, Some, refl, ap, sym, subst, ◌∙◌, arith}
use Rattle.std.specs.Prelude.{slice_get, take, ◌==◌}
use Rattle.std.specs.List.{AllByRecursion}
use Rattle.std.proofs.lemmas.Bool.{eqb-true}
use Rattle.std.proofs.lemmas.List.{append_assoc, take_all}
use Rattle.db_base.specs.declared.names.QueueName.{QueueName}
use Rattle.db_base.specs.declared.names.QueueName.TheVariants as queue
use Rattle.commit_writes.proofs.Words.{Ask, Delete, Came, Deed, Ends, Goes, LeadsBy, Stops, Fits, Answer, Done, Failed, Memory, Stage, Deleting, Finished, Logging, Opening, Sending, Settling, Waiting, Committed, AtomicRec, Home}
use Rattle.txn_buffer.specs.Noted.{Noted}
use Rattle.cloud_trait.specs.declared.state.Posted.{Posted}
use Rattle.cloud_trait.specs.State.{CloudState, called, mark_at, marked}
use Rattle.cloud_trait.specs.Names.{queue_cmp}
use Rattle.cloud_trait.specs.Machine.{IsMade}
use Rattle.cloud_trait.specs.Weather.{counted, Leaves, Weather}
use Rattle.cloud_trait.proofs.StateLemmas.{put_at_same}
use Rattle.cloud_trait.proofs.NameLemmas.{queue_cmp-total}
use Rattle.cloud_trait.specs.Calm.{GoesWell, IsCalm, AreCalm, ComesNext, AreAlone}
use Rattle.cloud_trait.proofs.CalmLemmas.{goes_well}
use Rattle.commit_writes.specs.Writing.{Writing, waiting, begun, writing_ask, writing_next, ask_at, delete_ask}
use Rattle.commit_writes.specs.Calls.{Calls, told, posted_calls, deleted_calls, put_of, opened_of, settled_of, all_logged, all_opened, all_posted, all_settled}
use Rattle.commit_writes.specs.Demands.{IsDeletion, deletions, Demands}
use Rattle.commit_writes.specs.Calm.{IsMarked, AreMarked}
use Rattle.commit_writes.specs.Within.{Went}
use Rattle.commit_writes.proofs.Outcomes as step
use Rattle.commit_writes.proofs.Outcomes.{Step, Logs, Comes, begins, comes}
use Rattle.commit_writes.proofs.Knows.{KnowsDeleting, KnowsAt, Knows}
use Rattle.recover_run.proofs.KeptRecords.{take_more}
use Rattle.commit_writes.proofs.Meaning.{post_asked, came_knows, went_knows}
use Rattle.commit_writes.proofs.Within.{deleted_before}

-- ---- marks

mark_sets : (ms : List Posted) (i : ℕ) (m : Posted) → slice_get (mark_at ms i) i ≡ Some m → m.deleted ≡ true
mark_sets [] i m e = absurd (cc (e))
mark_sets (x ∷ ms) zero m e = let same : ◌≡◌ {A = Posted} (record { who = x.who; bytes = x.bytes; deleted = true }) m = cc (e) in subst (λ (p : Posted). p.deleted ≡ true) same refl
mark_sets (x ∷ ms) (suc i) m e = mark_sets ms i m e

mark_keeps : (ms : List Posted) (i j : ℕ) → ((m : Posted) → slice_get ms j ≡ Some m → m.deleted ≡ true) → (m : Posted) → slice_get (mark_at ms i) j ≡ Some m → m.deleted ≡ true
mark_keeps [] i j h m e = h m e
mark_keeps (x ∷ ms) zero zero h m e = let same : ◌≡◌ {A = Posted} (record { who = x.who; bytes = x.bytes; deleted = true }) m = cc (e) in subst (λ (p : Posted). p.deleted ≡ true) same refl
mark_keeps (x ∷ ms) zero (suc j) h m e = h m e
mark_keeps (x ∷ ms) (suc i) zero h m e = h m e
mark_keeps (x ∷ ms) (suc i) (suc j) h m e = mark_keeps ms i j h m e

-- what is marked now
pub marked_sets : (ms : List Posted) (id : ℕ) → IsMarked (marked ms id) id
marked_sets ms id some = on (id == 0) refl where
  on : (b : Bool) → (id == 0) ≡ b → (m : Posted) → slice_get (cond b ms (mark_at ms (id - 1))) (id - 1) ≡ Some m → m.deleted ≡ true
  on true none m e = absurd (no (eqb-true id 0 none)) where
    no : id ≡ 0 → ⊥
    no z = omega (arith, z, some)
  on false other m e = mark_sets ms (id - 1) m e

-- .. and what was before
marked_keeps : (ms : List Posted) (id j : ℕ) → IsMarked ms j → IsMarked (marked ms id) j
marked_keeps ms id j h some = on (id == 0) where
  on : (b : Bool) → (m : Posted) → slice_get (cond b ms (mark_at ms (id - 1))) (j - 1) ≡ Some m → m.deleted ≡ true
  on true m e = h some m e
  on false m e = mark_keeps ms (id - 1) (j - 1) (h some) m e

all_marked : (ms : List Posted) (id : ℕ) (ids : List ℕ) → AllByRecursion (IsMarked ms) ids → AllByRecursion (IsMarked (marked ms id)) (ids ++ id ∷ [])
all_marked ms id [] all = (marked_sets ms id, tt)
all_marked ms id (j ∷ ids) all = (marked_keeps ms id j all.0, all_marked ms id ids all.1)

-- ---- a deletion that is done

done_only : (q : QueueName) (id : ℕ) (a : Answer) → Fits (Delete q id) a → GoesWell a → a ≢ Memory → a ≡ Done
done_only q id Done fits goes ample = refl
done_only q id Failed fits goes ample = absurd goes
done_only q id Memory fits goes ample = absurd (ample refl)
done_only q id a fits goes ample = absurd fits

the_state : (s t : CloudState) → ◌≡◌ {A = Option CloudState} (Some s) (Some t) → s ≡ t
the_state s t e = cc (e)

-- the message is marked in the state behind it
pub deletes : (x : Deed) (q : QueueName) (id : ℕ) (s t : CloudState) → IsMade x → x.ask ≡ Delete q id → x.answer ≡ Done → x.before.state ≡ Some s → x.after.state ≡ Some t → t.messages q ≡ marked (s.messages q) id
deletes x q id s t made asks answers told left =
    let l : Leaves x.who x.ask x.answer (counted x.before.counts s) x.after.counts x.after.state = made.state s told in
    let row : Weather x.who (Delete q id) Done (counted x.before.counts (called x.who l.after.now s)) (counted x.after.counts l.after) =
    subst (λ (a : Answer). Weather x.who (Delete q id) a (counted x.before.counts (called x.who l.after.now s)) (counted x.after.counts l.after)) answers
    (subst (λ (k : Ask). Weather x.who k x.answer (counted x.before.counts (called x.who l.after.now s)) (counted x.after.counts l.after)) asks l.row) in
    let same : l.after ≡ t = the_state l.after t (sym l.told ∙ left) in
    subst (λ (u : CloudState). u.messages q ≡ marked (s.messages q) id) same
    (ap (λ (u : CloudState). u.messages q) row.0 ∙ put_at_same queue_cmp queue_cmp-total s.messages q (marked (s.messages q) id))

-- ---- at each deletion, the messages before the next one are marked in the state that it comes upon

abbrev pub MarkedBefore : Writing → List Deed → Type 0
MarkedBefore w h = (x : Deed) (s : CloudState) → ComesNext h x → x.before.state ≡ Some s → AllByRecursion (IsMarked (s.messages (queue.Atomic w.home.client))) (take w.place w.ids)

abbrev pub MarkedAt : Stage → Writing → List Deed → Type 0
MarkedAt Waiting w h = Unit {0}
MarkedAt Logging w h = Unit {0}
MarkedAt Opening w h = Unit {0}
MarkedAt Sending w h = Unit {0}
MarkedAt Settling w h = Unit {0}
MarkedAt Deleting w h = MarkedBefore w h
MarkedAt Finished w h = Unit {0}

abbrev pub MarkedNext : List Deed → Step → Type 0
MarkedNext h (Goes m) = MarkedAt m.stage m h
MarkedNext h (Ends m a) = Unit {0}
MarkedNext h (Stops m t) = Unit {0}

none_marked : (P : ℕ → Type 0) (ids : List ℕ) → AllByRecursion P (take 0 ids)
none_marked P [] = tt
none_marked P (id ∷ ids) = tt

-- one message more
one_marked : (w : Writing) (h : List Deed) (x : Deed) (id : ℕ) (s : CloudState) → MarkedBefore w h → slice_get w.ids w.place ≡ Some id → x.ask ≡ Delete (queue.Atomic w.home.client) id → x.answer ≡ Done → IsMade x → IsCalm x
    → ComesNext h x → x.after.state ≡ Some s → AllByRecursion (IsMarked (s.messages (queue.Atomic w.home.client))) (take (w.place + 1) w.ids)
one_marked w h x id s before here asks answers made calm next left =
    subst (AllByRecursion (IsMarked (s.messages (queue.Atomic w.home.client)))) (sym (take_more w.ids w.place id here))
    (subst (λ (ms : List Posted). AllByRecursion (IsMarked ms) (take w.place w.ids ++ id ∷ [])) (sym (deletes x (queue.Atomic w.home.client) id calm.before s made asks answers calm.told left))
    (all_marked (calm.before.messages (queue.Atomic w.home.client)) id (take w.place w.ids) (before x calm.before next calm.told)))

-- the deletion in hand
pub asks_deletion : (h : Home) (cs : Calls) (w : Writing) (x : Deed) (k : KnowsDeleting h cs w) → x.ask ≡ delete_ask w (slice_get w.ids w.place) → x.ask ≡ Delete (queue.Atomic w.home.client) k.id
asks_deletion h cs w x k asked = asked ∙ ap (λ (o : Option ℕ). delete_ask w o) k.here

marks_next : (home : Home) (cs : Calls) (w : Writing) (x : Deed) (h : List Deed) (a : Answer) (y : Step) → KnowsAt w.stage home cs w → MarkedAt w.stage w h → x.ask ≡ writing_ask w → IsMade x → IsCalm x → ComesNext h x
    → x.answer ≡ a → Comes w a y → MarkedNext (x ∷ h) y
marks_next home cs v x h a y k at asked made calm next is (step.deletes n id (step.settled w) e) = λ z s follows told. none_marked (IsMarked (s.messages (queue.Atomic w.home.client))) w.ids
marks_next home cs v x h a y k at asked made calm next is (step.deletes n id (step.one_tried w b found) e) =
    let asks : x.ask ≡ Delete (queue.Atomic w.home.client) k.id = asks_deletion home cs v x k asked in
    let done : x.answer ≡ Done =
    done_only (queue.Atomic w.home.client) k.id x.answer (subst (λ (q : Ask). Fits q x.answer) asks made.fits) (goes_well x made calm) (λ memory. found (sym is ∙ memory)) in
    λ z s follows told. one_marked v h x k.id s at k.here asks done made calm next (sym follows ∙ told)
marks_next home cs v x h a y k at asked made calm next is (step.goes_on w id to (step.logs r e)) = tt
marks_next home cs v x h a y k at asked made calm next is (step.goes_on w id to (step.opens e)) = tt
marks_next home cs v x h a y k at asked made calm next is (step.sends n r posts e) = tt
marks_next home cs v x h a y k at asked made calm next is (step.settles n posts e) = tt
marks_next home cs v x h a y k at asked made calm next is (step.not_logged w b failed) = tt
marks_next home cs v x h a y k at asked made calm next is (step.late w end now) = tt
marks_next home cs v x h a y k at asked made calm next is (step.doubts w b failed) = tt
marks_next home cs v x h a y k at asked made calm next is (step.stays_open leaves) = tt
marks_next home cs v x h a y k at asked made calm next is (step.ends n clears e) = tt
marks_next home cs v x h a y k at asked made calm next is (step.lacks w under) = tt
marks_next home cs v x h a y k at asked made calm next is (step.waits w b) = tt
marks_next home cs v x h a y k at asked made calm next is (step.rests w b) = tt

marks_begun : (w : Writing) (y : Step) → Logs w y → MarkedNext [] y
marks_begun w y (step.logs r e) = tt
marks_begun w y (step.opens e) = tt

came_marks : (home : Home) (changes : List Noted) (rs : List AtomicRec) (start : Writing) → begun (waiting home changes) rs ≡ Goes start → (h : List Deed) (m : Writing)
    → Came writing_ask (LeadsBy writing_next) start h m → AreCalm h → AreAlone h → MarkedAt m.stage m h
came_marks home changes rs start goes [] m came calm alone =
    subst (λ (w : Writing). MarkedAt w.stage w []) (sym came)
    (subst (MarkedNext []) goes (marks_begun (record (waiting home changes) { records = rs; place = 0 }) (begun (waiting home changes) rs) (begins (waiting home changes) rs)))
came_marks home changes rs start goes (x ∷ h) m (from, came, asked, made, leads, follows) calm alone =
    subst (MarkedNext (x ∷ h)) leads
    (marks_next home (told h) from x h x.answer (writing_next from x.answer) (came_knows home changes rs start goes h from came).1 (came_marks home changes rs start goes h from came calm.1 alone.1) asked made
    calm.0 alone.0 refl (comes from x.answer))

-- ---- at the end

abbrev pub IsFront : Calls → Calls → Type 0
IsFront front cs = (later : Calls) × (cs ≡ front ++ later)

pub begins_more : (front cs more : Calls) → IsFront front cs → IsFront front (cs ++ more)
begins_more front cs more (later, are) = (later ++ more, ap (λ (l : Calls). l ++ more) are ∙ append_assoc front later more)

pub begins_settled : (h : Home) (rs : List AtomicRec) (ids posts : List ℕ) (more : Calls) → IsFront (all_logged h rs ids) (all_settled h rs ids posts ++ more)
begins_settled h rs ids posts more =
    begins_more (all_logged h rs ids) (all_settled h rs ids posts) more
    (begins_more (all_logged h rs ids) (all_posted h rs ids rs posts) ((put_of h (settled_of h rs), Done) ∷ [])
    (begins_more (all_logged h rs ids) (all_opened h rs ids) (posted_calls rs posts) ((put_of h (opened_of h rs), Done) ∷ [], refl)))

marked_end : (home : Home) (cs : Calls) (w : Writing) (x : Deed) (h : List Deed) (s : CloudState) → KnowsDeleting home cs w → MarkedBefore w h → x.ask ≡ delete_ask w (slice_get w.ids w.place) → IsMade x → IsCalm x
    → ComesNext h x → x.answer ≢ Memory → deletions cs + 1 ≡ length w.records → x.after.state ≡ Some s → AreMarked home w.records (cs ++ (delete_ask w (slice_get w.ids w.place), x.answer) ∷ []) s
marked_end home cs w x h s k before asked made calm next ample last left =
    let asks : x.ask ≡ Delete (queue.Atomic w.home.client) k.id = asks_deletion home cs w x k asked in
    let done : x.answer ≡ Done = done_only (queue.Atomic w.home.client) k.id x.answer (subst (λ (q : Ask). Fits q x.answer) asks made.fits) (goes_well x made calm) ample in
    let past : length w.ids ≤ w.place + 1 = omega (arith, last, k.logged, deleted_before home cs w k) in
    let whole : AllByRecursion (IsMarked (s.messages (queue.Atomic w.home.client))) w.ids =
    subst (AllByRecursion (IsMarked (s.messages (queue.Atomic w.home.client)))) (take_all (w.place + 1) w.ids past) (one_marked w h x k.id s before k.here asks done made calm next left) in
    let front : IsFront (all_logged home w.records w.ids) (cs ++ (delete_ask w (slice_get w.ids w.place), x.answer) ∷ []) =
    begins_more (all_logged home w.records w.ids) cs ((delete_ask w (slice_get w.ids w.place), x.answer) ∷ [])
    (subst (IsFront (all_logged home w.records w.ids)) (sym k.calls) (begins_settled home w.records w.ids k.posts (deleted_calls home.client (take w.place w.ids) k.answers))) in
    record {
      ids = w.ids;
      later = front.0;
      logged = k.logged;
      are = front.1;
      marked = subst (λ (c : ℕ). AllByRecursion (IsMarked (s.messages (queue.Atomic c))) w.ids) (ap (λ (y : Home). y.client) k.home) whole;
    }

marked_at : (stage : Stage) (home : Home) (cs : Calls) (w : Writing) (x : Deed) (h : List Deed) (s : CloudState) → KnowsAt stage home cs w → MarkedAt stage w h → x.ask ≡ ask_at stage w → IsMade x → IsCalm x
    → ComesNext h x → x.answer ≢ Memory → IsDeletion (ask_at stage w) → deletions cs + 1 ≡ length w.records → x.after.state ≡ Some s → AreMarked home w.records (cs ++ (ask_at stage w, x.answer) ∷ []) s
marked_at Waiting home cs w x h s k at asked made calm next ample deletion last left = absurd k
marked_at Logging home cs w x h s k at asked made calm next ample deletion last left = absurd deletion
marked_at Opening home cs w x h s k at asked made calm next ample deletion last left = absurd deletion
marked_at Sending home cs w x h s k at asked made calm next ample deletion last left = absurd (subst IsDeletion (post_asked w (slice_get w.records w.place) k.r k.here k.out) deletion)
marked_at Settling home cs w x h s k at asked made calm next ample deletion last left = absurd deletion
marked_at Deleting home cs w x h s k at asked made calm next ample deletion last left = marked_end home cs w x h s k at asked made calm next ample last left
marked_at Finished home cs w x h s k at asked made calm next ample deletion last left = absurd k

pub went_marked : (home : Home) (records : List AtomicRec) (h : List Deed) (w : Writing) (x : Deed) (y : ℕ) (s : CloudState) → Went home records h w → AreCalm (x ∷ h) → AreAlone (x ∷ h) → x.ask ≡ writing_ask w → IsMade x
    → x.answer ≢ Memory → Demands (length records) home.attempt (told h) (writing_ask w) x.answer (Committed y) → x.after.state ≡ Some s → AreMarked home records (told h ++ (writing_ask w, x.answer) ∷ []) s
went_marked home records h w x y s went calm alone asked made ample demands left =
    let k : Knows home records (told h) w = went_knows home records h w went in
    subst (λ (rs : List AtomicRec). AreMarked home rs (told h ++ (writing_ask w, x.answer) ∷ []) s) k.0
    (marked_at w.stage home (told h) w x h s k.1 (came_marks home went.1 records went.2 went.3 h w went.4 calm.1 alone.1) asked made calm.0 alone.0 ample demands.1
    (demands.2 ∙ sym (ap length k.0)) left)

-- Where no call of a commit raised the count of faults, each of its ATOMIC messages was marked by its own deletion.
use Rattle.std.proofs.Common.{◌≡◌, ◌≢◌, ◌≤◌, ◌+◌, ℕ, suc, List, [], ◌∷◌, ◌++◌, length, Some, refl, ap, sym, subst, ◌∙◌, arith}
use Rattle.std.specs.Prelude.{slice_get, take}
use Rattle.std.specs.List.{AllByRecursion}
use Rattle.std.proofs.lemmas.List.{take_all}
use Rattle.db_base.specs.declared.names.QueueName.TheVariants as queue
use Rattle.commit_writes.proofs.Words.{Ask, Delete, Came, Deed, Ends, Goes, LeadsBy, Stops, Fits, Answer, Done, Failed, Memory, Stage, Deleting, Finished, Logging, Opening, Sending, Settling, Waiting, Committed, AtomicRec, Home}
use Rattle.txn_buffer.specs.Noted.{Noted}
use Rattle.cloud_trait.specs.declared.state.Posted.{Posted}
use Rattle.cloud_trait.specs.Machine.{IsMade}
use Rattle.cloud_trait.specs.Weather.{Rose}
use Rattle.commit_writes.specs.Writing.{Writing, waiting, begun, writing_ask, writing_next, ask_at, delete_ask}
use Rattle.commit_writes.specs.Calls.{Calls, told, deleted_calls, all_logged}
use Rattle.commit_writes.specs.Demands.{IsDeletion, deletions, Demands}
use Rattle.commit_writes.specs.Calm.{IsMarked, RaisesNoFault, IsGone, AreGone}
use Rattle.commit_writes.specs.Within.{Went}
use Rattle.commit_writes.proofs.Outcomes as step
use Rattle.commit_writes.proofs.Outcomes.{Step, Logs, Comes, begins, comes}
use Rattle.commit_writes.proofs.Knows.{KnowsDeleting, KnowsAt, Knows}
use Rattle.recover_run.proofs.KeptRecords.{take_more}
use Rattle.commit_writes.proofs.Meaning.{post_asked, came_knows, went_knows}
use Rattle.commit_writes.proofs.Within.{deleted_before}
use Rattle.commit_writes.proofs.Marks.{marked_sets, deletes, asks_deletion, IsFront, begins_more, begins_settled}

-- ---- a deletion in which the count of faults did not rise

no_rise : (c d : ℕ) → d ≡ c → Rose c d → ⊥
no_rise c d same rose = omega (arith, same, rose)

done_alone : (x : Deed) (q : Ask) (client id : ℕ) (a : Answer) → q ≡ Delete (queue.Atomic client) id → x.answer ≡ a → Fits q a → IsMade x → RaisesNoFault x → a ≢ Memory → a ≡ Done
done_alone x q client id a asks answers fits made none ample = on a answers (subst (λ (k : Ask). Fits k a) asks fits) ample where
  on : (b : Answer) → x.answer ≡ b → Fits (Delete (queue.Atomic client) id) b → b ≢ Memory → b ≡ Done
  on Done e f m = refl
  on Failed e f m = absurd (no_rise x.before.counts.faults x.after.counts.faults none (made.failed e))
  on Memory e f m = absurd (m refl)
  on b e f m = absurd f

gone_now : (h : List Deed) (x : Deed) (client id : ℕ) → x.ask ≡ Delete (queue.Atomic client) id → x.answer ≡ Done → IsMade x → IsGone client (x ∷ h) id
gone_now h x client id asks answers made = record {
  place = 0;
  deletion = x;
  among = refl;
  asks = asks;
  done = answers;
  marks = λ s t told left.
      subst (λ (ms : List Posted). IsMarked ms id) (sym (deletes x (queue.Atomic client) id s t made asks answers told left)) (marked_sets (s.messages (queue.Atomic client)) id);
}

gone_still : (h : List Deed) (x : Deed) (client id : ℕ) → IsGone client h id → IsGone client (x ∷ h) id
gone_still h x client id g = record { place = suc g.place; deletion = g.deletion; among = g.among; asks = g.asks; done = g.done; marks = g.marks }

gone_more : (h : List Deed) (x : Deed) (client id : ℕ) (ids : List ℕ) → IsGone client (x ∷ h) id → AllByRecursion (IsGone client h) ids → AllByRecursion (IsGone client (x ∷ h)) (ids ++ id ∷ [])
gone_more h x client id [] now all = (now, tt)
gone_more h x client id (j ∷ ids) now all = (gone_still h x client j all.0, gone_more h x client id ids now all.1)

-- ---- at each deletion, the messages before the next one are gone

abbrev pub GoneBefore : Writing → List Deed → Type 0
GoneBefore w h = AllByRecursion (IsGone w.home.client h) (take w.place w.ids)

abbrev pub GoneAt : Stage → Writing → List Deed → Type 0
GoneAt Waiting w h = Unit {0}
GoneAt Logging w h = Unit {0}
GoneAt Opening w h = Unit {0}
GoneAt Sending w h = Unit {0}
GoneAt Settling w h = Unit {0}
GoneAt Deleting w h = GoneBefore w h
GoneAt Finished w h = Unit {0}

abbrev pub GoneNext : List Deed → Step → Type 0
GoneNext h (Goes m) = GoneAt m.stage m h
GoneNext h (Ends m a) = Unit {0}
GoneNext h (Stops m t) = Unit {0}

none_gone : (P : ℕ → Type 0) (ids : List ℕ) → AllByRecursion P (take 0 ids)
none_gone P [] = tt
none_gone P (id ∷ ids) = tt

-- one message more
one_gone : (w : Writing) (h : List Deed) (x : Deed) (id : ℕ) → GoneBefore w h → slice_get w.ids w.place ≡ Some id → IsGone w.home.client (x ∷ h) id
    → AllByRecursion (IsGone w.home.client (x ∷ h)) (take (w.place + 1) w.ids)
one_gone w h x id before here now =
    subst (AllByRecursion (IsGone w.home.client (x ∷ h))) (sym (take_more w.ids w.place id here)) (gone_more h x w.home.client id (take w.place w.ids) now before)

gone_next : (home : Home) (cs : Calls) (w : Writing) (x : Deed) (h : List Deed) (a : Answer) (y : Step) → KnowsAt w.stage home cs w → GoneAt w.stage w h → x.ask ≡ writing_ask w → IsMade x → RaisesNoFault x → x.answer ≡ a
    → Comes w a y → GoneNext (x ∷ h) y
gone_next home cs v x h a y k gone asked made none is (step.deletes n id (step.settled w) e) = none_gone (IsGone w.home.client (x ∷ h)) w.ids
gone_next home cs v x h a y k gone asked made none is (step.deletes n id (step.one_tried w b found) e) =
    let asks : x.ask ≡ Delete (queue.Atomic w.home.client) k.id = asks_deletion home cs v x k asked in
    let done : x.answer ≡ Done = done_alone x x.ask w.home.client k.id x.answer asks refl made.fits made none (λ memory. found (sym is ∙ memory)) in
    one_gone v h x k.id gone k.here (gone_now h x w.home.client k.id asks done made)
gone_next home cs v x h a y k gone asked made none is (step.goes_on w id next (step.logs r e)) = tt
gone_next home cs v x h a y k gone asked made none is (step.goes_on w id next (step.opens e)) = tt
gone_next home cs v x h a y k gone asked made none is (step.sends n r posts e) = tt
gone_next home cs v x h a y k gone asked made none is (step.settles n posts e) = tt
gone_next home cs v x h a y k gone asked made none is (step.not_logged w b failed) = tt
gone_next home cs v x h a y k gone asked made none is (step.late w end now) = tt
gone_next home cs v x h a y k gone asked made none is (step.doubts w b failed) = tt
gone_next home cs v x h a y k gone asked made none is (step.stays_open leaves) = tt
gone_next home cs v x h a y k gone asked made none is (step.ends n clears e) = tt
gone_next home cs v x h a y k gone asked made none is (step.lacks w under) = tt
gone_next home cs v x h a y k gone asked made none is (step.waits w b) = tt
gone_next home cs v x h a y k gone asked made none is (step.rests w b) = tt

gone_begun : (w : Writing) (y : Step) → Logs w y → GoneNext [] y
gone_begun w y (step.logs r e) = tt
gone_begun w y (step.opens e) = tt

came_gone : (home : Home) (changes : List Noted) (rs : List AtomicRec) (start : Writing) → begun (waiting home changes) rs ≡ Goes start → (h : List Deed) (m : Writing)
    → Came writing_ask (LeadsBy writing_next) start h m → AllByRecursion RaisesNoFault h → GoneAt m.stage m h
came_gone home changes rs start goes [] m came none =
    subst (λ (w : Writing). GoneAt w.stage w []) (sym came)
    (subst (GoneNext []) goes (gone_begun (record (waiting home changes) { records = rs; place = 0 }) (begun (waiting home changes) rs) (begins (waiting home changes) rs)))
came_gone home changes rs start goes (x ∷ h) m (from, came, asked, made, leads, follows) none =
    subst (GoneNext (x ∷ h)) leads
    (gone_next home (told h) from x h x.answer (writing_next from x.answer) (came_knows home changes rs start goes h from came).1 (came_gone home changes rs start goes h from came none.1) asked made none.0
    refl (comes from x.answer))

-- ---- at the end

gone_end : (home : Home) (w : Writing) (x : Deed) (h : List Deed) → KnowsDeleting home (told h) w → GoneBefore w h → x.ask ≡ delete_ask w (slice_get w.ids w.place) → IsMade x → RaisesNoFault x
    → x.answer ≢ Memory → deletions (told h) + 1 ≡ length w.records → AreGone home w.records (x ∷ h)
gone_end home w x h k before asked made none ample last =
    let asks : x.ask ≡ Delete (queue.Atomic w.home.client) k.id = asks_deletion home (told h) w x k asked in
    let done : x.answer ≡ Done = done_alone x x.ask w.home.client k.id x.answer asks refl made.fits made none ample in
    let past : length w.ids ≤ w.place + 1 = omega (arith, last, k.logged, deleted_before home (told h) w k) in
    let whole : AllByRecursion (IsGone w.home.client (x ∷ h)) w.ids =
    subst (AllByRecursion (IsGone w.home.client (x ∷ h))) (take_all (w.place + 1) w.ids past)
    (one_gone w h x k.id before k.here (gone_now h x w.home.client k.id asks done made)) in
    let front : IsFront (all_logged home w.records w.ids) (told h ++ (x.ask, x.answer) ∷ []) =
    begins_more (all_logged home w.records w.ids) (told h) ((x.ask, x.answer) ∷ [])
    (subst (IsFront (all_logged home w.records w.ids)) (sym k.calls) (begins_settled home w.records w.ids k.posts (deleted_calls home.client (take w.place w.ids) k.answers))) in
    record {
      ids = w.ids;
      later = front.0;
      logged = k.logged;
      are = front.1;
      gone = subst (λ (c : ℕ). AllByRecursion (IsGone c (x ∷ h)) w.ids) (ap (λ (y : Home). y.client) k.home) whole;
    }

gone_at : (stage : Stage) (home : Home) (w : Writing) (x : Deed) (h : List Deed) → KnowsAt stage home (told h) w → GoneAt stage w h → x.ask ≡ ask_at stage w → IsMade x → RaisesNoFault x
    → x.answer ≢ Memory → IsDeletion (ask_at stage w) → deletions (told h) + 1 ≡ length w.records → AreGone home w.records (x ∷ h)
gone_at Waiting home w x h k at asked made none ample deletion last = absurd k
gone_at Logging home w x h k at asked made none ample deletion last = absurd deletion
gone_at Opening home w x h k at asked made none ample deletion last = absurd deletion
gone_at Sending home w x h k at asked made none ample deletion last = absurd (subst IsDeletion (post_asked w (slice_get w.records w.place) k.r k.here k.out) deletion)
gone_at Settling home w x h k at asked made none ample deletion last = absurd deletion
gone_at Deleting home w x h k at asked made none ample deletion last = gone_end home w x h k at asked made none ample last
gone_at Finished home w x h k at asked made none ample deletion last = absurd k

pub went_gone : (home : Home) (records : List AtomicRec) (h : List Deed) (w : Writing) (x : Deed) (y : ℕ) → Went home records h w → AllByRecursion RaisesNoFault (x ∷ h) → x.ask ≡ writing_ask w → IsMade x
    → x.answer ≢ Memory → Demands (length records) home.attempt (told h) (writing_ask w) x.answer (Committed y) → AreGone home records (x ∷ h)
went_gone home records h w x y went none asked made ample demands =
    let k : Knows home records (told h) w = went_knows home records h w went in
    subst (λ (rs : List AtomicRec). AreGone home rs (x ∷ h)) k.0
    (gone_at w.stage home w x h k.1 (came_gone home went.1 records went.2 went.3 h w went.4 none.1) asked made none.0 ample demands.1 (demands.2 ∙ sym (ap length k.0)))

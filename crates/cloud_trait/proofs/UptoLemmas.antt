-- Later events change nothing of the state up to an event.
use Rattle.std.proofs.Common.{◌≡◌, ◌<◌, ◌≤◌, ◌-◌, ◌++◌, ℕ, zero, suc, List, [], ◌∷◌, Option, Some, None, refl, ap, sym, ◌∙◌, subst, inl, inr, arith, Bool, true, false, cond}
use Rattle.std.specs.Bool.{◌==◌}
use Rattle.std.specs.Prelude.{filter, nat_le, All}
use Rattle.std.proofs.lemmas.Bool.{le-leb}
use Rattle.std.proofs.lemmas.Bool.Decides.{leb_tells}
use Rattle.std.proofs.lemmas.List.{append-nil}
use Rattle.std.proofs.lemmas.List.Elements.{filter-append, All-push, All-cons, All-head, All-tail}
use Rattle.db_base.specs.declared.names.ObjName.{ObjName}
use Rattle.db_base.specs.declared.names.QueueName.{QueueName}
use Rattle.cloud_trait.specs.declared.state.Version.{Version}
use Rattle.cloud_trait.specs.declared.state.Posted.{Posted}
use Rattle.cloud_trait.specs.declared.state.Landing.{Landing}
use Rattle.cloud_trait.specs.Caller.{Caller}
use Rattle.cloud_trait.specs.Names.{object_cmp, queue_cmp}
use Rattle.cloud_trait.specs.State.{CloudState, stored, held_so, end_after, mark_at, marked}
use Rattle.cloud_trait.specs.Ask.{Ask, Get, GetHeld, PutHeld, ListHeld, RemoveHeld, Send, Receive, Delete, Take, Renew, Release, effect}
use Rattle.cloud_trait.specs.Upto.{AgreeUpto, IsUpto, upto, versions_upto, messages_upto, trace_upto, posts_of}
use Rattle.cloud_trait.proofs.NameLemmas.{object_cmp-equal, queue_cmp-equal}
use Rattle.cloud_trait.proofs.StateLemmas.{put_at_by}
use Rattle.cloud_trait.proofs.EffectLemmas.{moved_by, released_by}

-- a number above another is not at most it
later_event : (n m : ℕ) → n < m → nat_le m n ≡ false
later_event n m h = elim (leb_tells m n) [ inl w ↦ absurd (omega (arith, w.1)) | inr w ↦ w.0 ]

-- an item that does not pass adds nothing to a filter
filter-push_out : {X : Type 0} (p : X → Bool) (xs : List X) (x : X) → p x ≡ false → filter p (xs ++ x ∷ []) ≡ filter p xs
filter-push_out {X} p xs x e =
    filter-append p xs (x ∷ []) ∙ (let h : filter p (x ∷ []) ≡ [] = rw e in rw h (append-nil (filter p xs)))

-- a mark changes nothing of the posts up to an event
posts_upto-mark_at : (n : ℕ) (ms : List Posted) (i : ℕ) → posts_of (messages_upto n (mark_at ms i)) ≡ posts_of (messages_upto n ms)
posts_upto-mark_at n [] i = refl
posts_upto-mark_at n (m ∷ ms) zero = on (nat_le m.who.event n) where
  on : (c : Bool) → posts_of (cond c (record { who = m.who; bytes = m.bytes; deleted = true } ∷ messages_upto n ms) (messages_upto n ms)) ≡ posts_of (cond c (m ∷ messages_upto n ms) (messages_upto n ms))
  on true = refl
  on false = refl
posts_upto-mark_at n (m ∷ ms) (suc i) = on (nat_le m.who.event n) (posts_upto-mark_at n ms i) where
  on : (c : Bool) → posts_of (messages_upto n (mark_at ms i)) ≡ posts_of (messages_upto n ms) → posts_of (cond c (m ∷ messages_upto n (mark_at ms i)) (messages_upto n (mark_at ms i))) ≡ posts_of (cond c (m ∷ messages_upto n ms) (messages_upto n ms))
  on true e = ap (λ ps. (m.who, m.bytes) ∷ ps) e
  on false e = e

posts_upto-marked : (n : ℕ) (ms : List Posted) (id : ℕ) → posts_of (messages_upto n (marked ms id)) ≡ posts_of (messages_upto n ms)
posts_upto-marked n ms id = on (id == 0) where
  on : (c : Bool) → posts_of (messages_upto n (cond c ms (mark_at ms (id - 1)))) ≡ posts_of (messages_upto n ms)
  on true = refl
  on false = posts_upto-mark_at n ms (id - 1)

pub agree_itself : (n : ℕ) (s t : CloudState) → t.versions ≡ s.versions → t.messages ≡ s.messages → t.trace ≡ s.trace → AgreeUpto n s t
agree_itself n s t v m r = record {
  versions = λ name. ap (λ (f : ObjName → List Version). versions_upto n (f name)) v;
  messages = λ queue. ap (λ (f : QueueName → List Posted). posts_of (messages_upto n (f queue))) m;
  trace = ap (trace_upto n) r;
}

pub agree_trans : (n : ℕ) (s t u : CloudState) → AgreeUpto n s t → AgreeUpto n t u → AgreeUpto n s u
agree_trans n s t u a b = record {
  versions = λ name. b.versions name ∙ a.versions name;
  messages = λ queue. b.messages queue ∙ a.messages queue;
  trace = b.trace ∙ a.trace;
}

-- a version that lands at a later event changes nothing up to an event
stored_agree : (n : ℕ) (who : Caller) (name : ObjName) (bytes : Option (List ℕ)) (s : CloudState) → n < who.event → AgreeUpto n s (stored who name bytes s)
stored_agree n who name bytes s h = record {
  versions = put_at_by (λ q v. versions_upto n v ≡ versions_upto n (s.versions q)) object_cmp object_cmp-equal s.versions name _ (filter-push_out (λ (v : Version). nat_le v.who.event n) (s.versions name) _ (later_event n who.event h)) (λ q. refl);
  messages = λ queue. refl;
  trace = filter-push_out (λ (r : Landing). nat_le r.who.event n) s.trace _ (later_event n who.event h);
}

-- what lands at a later event changes nothing up to an event
pub effect_agree : (n : ℕ) (who : Caller) (ask : Ask) (s : CloudState) → n < who.event → AgreeUpto n s (effect who ask s)
effect_agree n who (Get name) s h = agree_itself n s s refl refl refl
effect_agree n who (GetHeld name l) s h = agree_itself n s s refl refl refl
effect_agree n who (PutHeld name bytes one two) s h = stored_agree n who name (Some bytes) s h
effect_agree n who (ListHeld tree l) s h = agree_itself n s s refl refl refl
effect_agree n who (RemoveHeld name l) s h = stored_agree n who name None s h
effect_agree n who (Send queue bytes) s h = record {
  versions = λ name. refl;
  messages = put_at_by (λ q v. posts_of (messages_upto n v) ≡ posts_of (messages_upto n (s.messages q))) queue_cmp queue_cmp-equal s.messages queue _ (ap posts_of (filter-push_out (λ (m : Posted). nat_le m.who.event n) (s.messages queue) _ (later_event n who.event h))) (λ q. refl);
  trace = filter-push_out (λ (r : Landing). nat_le r.who.event n) s.trace _ (later_event n who.event h);
}
effect_agree n who (Receive queue most) s h = agree_itself n s s refl refl refl
effect_agree n who (Delete queue id) s h = record {
  versions = λ name. refl;
  messages = put_at_by (λ q v. posts_of (messages_upto n v) ≡ posts_of (messages_upto n (s.messages q))) queue_cmp queue_cmp-equal s.messages queue _ (posts_upto-marked n (s.messages queue) id) (λ q. refl);
  trace = refl;
}
effect_agree n who (Take lock ticks) s h = agree_itself n s (effect who (Take lock ticks) s) refl refl refl
effect_agree n who (Renew l ticks) s h =
    moved_by (AgreeUpto n s) l (end_after s.now ticks) s (agree_itself n s (held_so l.lock (record { generation = l.generation; until = end_after s.now ticks }) s) refl refl refl) (agree_itself n s s refl refl refl)
effect_agree n who (Release l) s h =
    released_by (AgreeUpto n s) l s (agree_itself n s (held_so l.lock (record { generation = l.generation; until = s.now }) s) refl refl refl) (agree_itself n s s refl refl refl)

-- a mark keeps every message where it was sent
All-mark_at : (n : ℕ) (ms : List Posted) (i : ℕ) → All (λ (m : Posted). m.who.event ≤ n) ms → All (λ (m : Posted). m.who.event ≤ n) (mark_at ms i)
All-mark_at n [] i h = h
All-mark_at n (m ∷ ms) zero h =
    All-cons (λ (x : Posted). x.who.event ≤ n) (record { who = m.who; bytes = m.bytes; deleted = true }) ms (All-head (λ (x : Posted). x.who.event ≤ n) m ms h) (All-tail (λ (x : Posted). x.who.event ≤ n) m ms h)
All-mark_at n (m ∷ ms) (suc i) h =
    All-cons (λ (x : Posted). x.who.event ≤ n) m (mark_at ms i) (All-head (λ (x : Posted). x.who.event ≤ n) m ms h) (All-mark_at n ms i (All-tail (λ (x : Posted). x.who.event ≤ n) m ms h))

All-marked : (n : ℕ) (ms : List Posted) (id : ℕ) → All (λ (m : Posted). m.who.event ≤ n) ms → All (λ (m : Posted). m.who.event ≤ n) (marked ms id)
All-marked n ms id h = on (id == 0) where
  on : (c : Bool) → All (λ (m : Posted). m.who.event ≤ n) (cond c ms (mark_at ms (id - 1)))
  on true = h
  on false = All-mark_at n ms (id - 1) h

pub is_upto_same : (n : ℕ) (s t : CloudState) → t.versions ≡ s.versions → t.messages ≡ s.messages → t.trace ≡ s.trace → IsUpto n s → IsUpto n t
is_upto_same n s t v m r h = record {
  versions = λ name. (let P : (ObjName → List Version) → Type 0 = λ f. All (λ (x : Version). x.who.event ≤ n) (f name) in subst P (sym v) (h.versions name));
  messages = λ queue. (let P : (QueueName → List Posted) → Type 0 = λ f. All (λ (x : Posted). x.who.event ≤ n) (f queue) in subst P (sym m) (h.messages queue));
  trace = (let P : List Landing → Type 0 = λ f. All (λ (x : Landing). x.who.event ≤ n) f in subst P (sym r) h.trace);
}

-- a version that lands by an event leaves all up to that event
stored_upto : (n : ℕ) (who : Caller) (name : ObjName) (bytes : Option (List ℕ)) (s : CloudState) → who.event ≤ n → IsUpto n s → IsUpto n (stored who name bytes s)
stored_upto n who name bytes s h u = record {
  versions = put_at_by (λ q v. All (λ (x : Version). x.who.event ≤ n) v) object_cmp object_cmp-equal s.versions name _ (All-push (λ (x : Version). x.who.event ≤ n) (s.versions name) _ (u.versions name) h) u.versions;
  messages = u.messages;
  trace = All-push (λ (x : Landing). x.who.event ≤ n) s.trace _ u.trace h;
}

-- what lands by an event leaves all up to that event
pub effect_upto : (n : ℕ) (who : Caller) (ask : Ask) (s : CloudState) → who.event ≤ n → IsUpto n s → IsUpto n (effect who ask s)
effect_upto n who (Get name) s h u = u
effect_upto n who (GetHeld name l) s h u = u
effect_upto n who (PutHeld name bytes one two) s h u = stored_upto n who name (Some bytes) s h u
effect_upto n who (ListHeld tree l) s h u = u
effect_upto n who (RemoveHeld name l) s h u = stored_upto n who name None s h u
effect_upto n who (Send queue bytes) s h u = record {
  versions = u.versions;
  messages = put_at_by (λ q v. All (λ (x : Posted). x.who.event ≤ n) v) queue_cmp queue_cmp-equal s.messages queue _ (All-push (λ (x : Posted). x.who.event ≤ n) (s.messages queue) _ (u.messages queue) h) u.messages;
  trace = All-push (λ (x : Landing). x.who.event ≤ n) s.trace _ u.trace h;
}
effect_upto n who (Receive queue most) s h u = u
effect_upto n who (Delete queue id) s h u = record {
  versions = u.versions;
  messages = put_at_by (λ q v. All (λ (x : Posted). x.who.event ≤ n) v) queue_cmp queue_cmp-equal s.messages queue _ (All-marked n (s.messages queue) id (u.messages queue)) u.messages;
  trace = u.trace;
}
effect_upto n who (Take lock ticks) s h u = is_upto_same n s (effect who (Take lock ticks) s) refl refl refl u
effect_upto n who (Renew l ticks) s h u =
    moved_by (IsUpto n) l (end_after s.now ticks) s (is_upto_same n s (held_so l.lock (record { generation = l.generation; until = end_after s.now ticks }) s) refl refl refl u) u
effect_upto n who (Release l) s h u =
    released_by (IsUpto n) l s (is_upto_same n s (held_so l.lock (record { generation = l.generation; until = s.now }) s) refl refl refl u) u

-- of a state all of which is up to an event, nothing is left out
pub versions_upto-all : (n : ℕ) (vs : List Version) → All (λ (v : Version). v.who.event ≤ n) vs → versions_upto n vs ≡ vs
versions_upto-all n [] h = refl
versions_upto-all n (v ∷ vs) h =
    let here = le-leb v.who.event n (All-head (λ (x : Version). x.who.event ≤ n) v vs h) in
    rw here (ap (λ ys. v ∷ ys) (versions_upto-all n vs (All-tail (λ (x : Version). x.who.event ≤ n) v vs h)))

pub messages_upto-all : (n : ℕ) (ms : List Posted) → All (λ (m : Posted). m.who.event ≤ n) ms → messages_upto n ms ≡ ms
messages_upto-all n [] h = refl
messages_upto-all n (m ∷ ms) h =
    let here = le-leb m.who.event n (All-head (λ (x : Posted). x.who.event ≤ n) m ms h) in
    rw here (ap (λ ys. m ∷ ys) (messages_upto-all n ms (All-tail (λ (x : Posted). x.who.event ≤ n) m ms h)))

pub trace_upto-all : (n : ℕ) (rows : List Landing) → All (λ (r : Landing). r.who.event ≤ n) rows → trace_upto n rows ≡ rows
trace_upto-all n [] h = refl
trace_upto-all n (r ∷ rows) h =
    let here = le-leb r.who.event n (All-head (λ (x : Landing). x.who.event ≤ n) r rows h) in
    rw here (ap (λ ys. r ∷ ys) (trace_upto-all n rows (All-tail (λ (x : Landing). x.who.event ≤ n) r rows h)))

-- the versions, posts and trace up to an event of a later state are those of the state at that event
pub upto_versions : (n : ℕ) (s t : CloudState) → IsUpto n s → AgreeUpto n s t → (name : ObjName) → (upto t n).versions name ≡ s.versions name
upto_versions n s t u a name = a.versions name ∙ versions_upto-all n (s.versions name) (u.versions name)

pub upto_posts : (n : ℕ) (s t : CloudState) → IsUpto n s → AgreeUpto n s t → (queue : QueueName) → posts_of ((upto t n).messages queue) ≡ posts_of (s.messages queue)
upto_posts n s t u a queue = a.messages queue ∙ ap posts_of (messages_upto-all n (s.messages queue) (u.messages queue))

pub upto_trace : (n : ℕ) (s t : CloudState) → IsUpto n s → AgreeUpto n s t → (upto t n).trace ≡ s.trace
upto_trace n s t u a = a.trace ∙ trace_upto-all n s.trace u.trace

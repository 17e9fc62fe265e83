-- A cloud that began empty has a row for each version and each message, and cutting them by event agrees.
use Rattle.std.proofs.Common.{◌≡◌, ◌+◌, ◌-◌, ◌++◌, ℕ, zero, suc, List, [], ◌∷◌, length, Option, Some, None, refl, ap, sym, ◌∙◌, subst, arith, Bool, true, false, cond, Ordering}
use Rattle.std.specs.Bool.{◌==◌}
use Rattle.std.specs.Prelude.{filter}
use Rattle.std.specs.declared.cmp.Ordering.TheVariants.{Less, Equal, Greater}
use Rattle.std.specs.Ordering.{is_eq}
use Rattle.std.proofs.lemmas.List.{append-nil}
use Rattle.std.proofs.lemmas.List.Elements.{filter-append}
use Rattle.db_base.specs.declared.names.ObjName.{ObjName}
use Rattle.db_base.specs.declared.names.QueueName.{QueueName}
use Rattle.cloud_trait.specs.declared.answer.Answer.{Answer}
use Rattle.cloud_trait.specs.declared.state.Version.{Version}
use Rattle.cloud_trait.specs.declared.state.Posted.{Posted}
use Rattle.cloud_trait.specs.declared.state.Landing.{Landing}
use Rattle.cloud_trait.specs.declared.state.Site.TheVariants.{Object, Queue}
use Rattle.cloud_trait.specs.Caller.{Caller}
use Rattle.cloud_trait.specs.Names.{object_cmp, queue_cmp}
use Rattle.cloud_trait.specs.State.{CloudState, Counts, IsEmptyCloud, called, put_at, held_so, end_after, mark_at, marked}
use Rattle.cloud_trait.specs.Ask.{Ask, Get, GetHeld, PutHeld, ListHeld, RemoveHeld, Send, Receive, Delete, Take, Renew, Release, effect}
use Rattle.cloud_trait.specs.Weather.{counted, Leaves}
use Rattle.cloud_trait.specs.Traced.{is_object, is_queue, object_rows, queue_rows, version_rows, post_rows, IsTraced}
use Rattle.cloud_trait.proofs.NameLemmas.{object_cmp-equal, queue_cmp-equal}
use Rattle.cloud_trait.proofs.EffectLemmas.{moved_by, released_by}
use Rattle.cloud_trait.proofs.RowLemmas.{leaves_by}

-- ---- the rows of what landed

version_rows-push : (name : ObjName) (n : ℕ) (vs : List Version) (v : Version) (p : ℕ) → p ≡ n + length vs
    → version_rows name n (vs ++ v ∷ []) ≡ version_rows name n vs ++ record { who = v.who; site = Object name; position = p } ∷ []
version_rows-push name n [] v p e = ap (λ (k : ℕ). record { who = v.who; site = Object name; position = k } ∷ []) (let same : n ≡ p = omega arith in same)
version_rows-push name n (w ∷ vs) v p e = ap (λ (rows : List Landing). record { who = w.who; site = Object name; position = n } ∷ rows) (version_rows-push name (n + 1) vs v p (omega (arith, e)))

post_rows-push : (queue : QueueName) (n : ℕ) (ms : List Posted) (m : Posted) (p : ℕ) → p ≡ n + length ms
    → post_rows queue n (ms ++ m ∷ []) ≡ post_rows queue n ms ++ record { who = m.who; site = Queue queue; position = p } ∷ []
post_rows-push queue n [] m p e = ap (λ (k : ℕ). record { who = m.who; site = Queue queue; position = k } ∷ []) (let same : n ≡ p = omega arith in same)
post_rows-push queue n (w ∷ ms) m p e = ap (λ (rows : List Landing). record { who = w.who; site = Queue queue; position = n } ∷ rows) (post_rows-push queue (n + 1) ms m p (omega (arith, e)))

-- a mark moves no row
post_rows-mark_at : (queue : QueueName) (n : ℕ) (ms : List Posted) (i : ℕ) → post_rows queue n (mark_at ms i) ≡ post_rows queue n ms
post_rows-mark_at queue n [] i = refl
post_rows-mark_at queue n (m ∷ ms) zero = refl
post_rows-mark_at queue n (m ∷ ms) (suc i) = ap (λ (rows : List Landing). record { who = m.who; site = Queue queue; position = n } ∷ rows) (post_rows-mark_at queue (n + 1) ms i)

post_rows-marked : (queue : QueueName) (n : ℕ) (ms : List Posted) (id : ℕ) → post_rows queue n (marked ms id) ≡ post_rows queue n ms
post_rows-marked queue n ms id = on (id == 0) where
  on : (c : Bool) → post_rows queue n (cond c ms (mark_at ms (id - 1))) ≡ post_rows queue n ms
  on true = refl
  on false = post_rows-mark_at queue n ms (id - 1)

-- one row more at the end adds itself or nothing
filter-push : {X : Type 0} (p : X → Bool) (xs : List X) (x : X) → filter p (xs ++ x ∷ []) ≡ filter p xs ++ cond (p x) (x ∷ []) []
filter-push p xs x = filter-append p xs (x ∷ [])

-- ---- a put and a send keep the rows

put_traced : (trace : List Landing) (f : ObjName → List Version) (name q : ObjName) (v : Version) → object_rows q trace ≡ version_rows q 1 (f q)
    → object_rows q (trace ++ record { who = v.who; site = Object name; position = length (f name) + 1 } ∷ []) ≡ version_rows q 1 (put_at object_cmp f name (f name ++ v ∷ []) q)
put_traced trace f name q v h =
    filter-push (λ (r : Landing). is_object q r.site) trace row ∙ ap (λ (rows : List Landing). rows ++ cond (is_eq (object_cmp name q)) (row ∷ []) []) h ∙ on (object_cmp name q) refl
  where
    row : Landing
    row = record { who = v.who; site = Object name; position = length (f name) + 1 }

    other : version_rows q 1 (f q) ++ [] ≡ version_rows q 1 (f q)
    other = append-nil (version_rows q 1 (f q))

    here : name ≡ q → version_rows q 1 (f q) ++ row ∷ [] ≡ version_rows q 1 (f name ++ v ∷ [])
    here e =
        subst (λ (k : ObjName). version_rows k 1 (f k) ++ row ∷ [] ≡ version_rows k 1 (f name ++ v ∷ [])) e (sym (version_rows-push name 1 (f name) v (length (f name) + 1) (omega arith)))

    on : (o : Ordering) → object_cmp name q ≡ o → version_rows q 1 (f q) ++ cond (is_eq o) (row ∷ []) [] ≡ version_rows q 1 (cond (is_eq o) (f name ++ v ∷ []) (f q))
    on Less e = other
    on Equal e = here (object_cmp-equal name q e)
    on Greater e = other

send_traced : (trace : List Landing) (f : QueueName → List Posted) (queue q : QueueName) (m : Posted) → queue_rows q trace ≡ post_rows q 1 (f q)
    → queue_rows q (trace ++ record { who = m.who; site = Queue queue; position = length (f queue) + 1 } ∷ []) ≡ post_rows q 1 (put_at queue_cmp f queue (f queue ++ m ∷ []) q)
send_traced trace f queue q m h =
    filter-push (λ (r : Landing). is_queue q r.site) trace row ∙ ap (λ (rows : List Landing). rows ++ cond (is_eq (queue_cmp queue q)) (row ∷ []) []) h ∙ on (queue_cmp queue q) refl
  where
    row : Landing
    row = record { who = m.who; site = Queue queue; position = length (f queue) + 1 }

    other : post_rows q 1 (f q) ++ [] ≡ post_rows q 1 (f q)
    other = append-nil (post_rows q 1 (f q))

    here : queue ≡ q → post_rows q 1 (f q) ++ row ∷ [] ≡ post_rows q 1 (f queue ++ m ∷ [])
    here e =
        subst (λ (k : QueueName). post_rows k 1 (f k) ++ row ∷ [] ≡ post_rows k 1 (f queue ++ m ∷ [])) e (sym (post_rows-push queue 1 (f queue) m (length (f queue) + 1) (omega arith)))

    on : (o : Ordering) → queue_cmp queue q ≡ o → post_rows q 1 (f q) ++ cond (is_eq o) (row ∷ []) [] ≡ post_rows q 1 (cond (is_eq o) (f queue ++ m ∷ []) (f q))
    on Less e = other
    on Equal e = here (queue_cmp-equal queue q e)
    on Greater e = other

delete_traced : (rows : List Landing) (f : QueueName → List Posted) (queue q : QueueName) (id : ℕ) → rows ≡ post_rows q 1 (f q)
    → rows ≡ post_rows q 1 (put_at queue_cmp f queue (marked (f queue) id) q)
delete_traced rows f queue q id h = h ∙ on (queue_cmp queue q) refl where
  here : queue ≡ q → post_rows q 1 (f q) ≡ post_rows q 1 (marked (f queue) id)
  here e = subst (λ (k : QueueName). post_rows k 1 (f k) ≡ post_rows k 1 (marked (f queue) id)) e (sym (post_rows-marked queue 1 (f queue) id))

  on : (o : Ordering) → queue_cmp queue q ≡ o → post_rows q 1 (f q) ≡ post_rows q 1 (cond (is_eq o) (marked (f queue) id) (f q))
  on Less e = refl
  on Equal e = here (queue_cmp-equal queue q e)
  on Greater e = refl

-- a row of another kind of site adds nothing
other_rows : (p : Landing → Bool) (trace : List Landing) (r : Landing) (rows : List Landing) → p r ≡ false → filter p trace ≡ rows → filter p (trace ++ r ∷ []) ≡ rows
other_rows p trace r rows e h =
    filter-push p trace r ∙ (let none : cond (p r) (r ∷ []) [] ≡ [] = ap (λ (b : Bool). cond b (r ∷ []) []) e in ap (λ (xs : List Landing). filter p trace ++ xs) none) ∙ append-nil (filter p trace) ∙ h

locks_traced : (s t : CloudState) → t.versions ≡ s.versions → t.messages ≡ s.messages → t.trace ≡ s.trace → IsTraced s → IsTraced t
locks_traced s t v m r h = record {
  versions = λ name. ap (object_rows name) r ∙ h.versions name ∙ ap (λ (f : ObjName → List Version). version_rows name 1 (f name)) (sym v);
  messages = λ queue. ap (queue_rows queue) r ∙ h.messages queue ∙ ap (λ (f : QueueName → List Posted). post_rows queue 1 (f queue)) (sym m);
}

-- ---- each effect and each call

pub effect_traced : (who : Caller) (ask : Ask) (s : CloudState) → IsTraced s → IsTraced (effect who ask s)
effect_traced who (Get name) s h = h
effect_traced who (GetHeld name l) s h = h
effect_traced who (PutHeld name bytes one two) s h = record {
  versions = λ q. put_traced s.trace s.versions name q (record { who = who; bytes = Some bytes }) (h.versions q);
  messages = λ q. other_rows (λ (r : Landing). is_queue q r.site) s.trace _ _ refl (h.messages q);
}
effect_traced who (ListHeld tree l) s h = h
effect_traced who (RemoveHeld name l) s h = record {
  versions = λ q. put_traced s.trace s.versions name q (record { who = who; bytes = None }) (h.versions q);
  messages = λ q. other_rows (λ (r : Landing). is_queue q r.site) s.trace _ _ refl (h.messages q);
}
effect_traced who (Send queue bytes) s h = record {
  versions = λ q. other_rows (λ (r : Landing). is_object q r.site) s.trace _ _ refl (h.versions q);
  messages = λ q. send_traced s.trace s.messages queue q (record { who = who; bytes = bytes; deleted = false }) (h.messages q);
}
effect_traced who (Receive queue most) s h = h
effect_traced who (Delete queue id) s h = record {
  versions = h.versions;
  messages = λ q. delete_traced (queue_rows q s.trace) s.messages queue q id (h.messages q);
}
effect_traced who (Take lock ticks) s h = locks_traced s (effect who (Take lock ticks) s) refl refl refl h
effect_traced who (Renew l ticks) s h =
    moved_by IsTraced l (end_after s.now ticks) s (locks_traced s (held_so l.lock (record { generation = l.generation; until = end_after s.now ticks }) s) refl refl refl h) h
effect_traced who (Release l) s h =
    released_by IsTraced l s (locks_traced s (held_so l.lock (record { generation = l.generation; until = s.now }) s) refl refl refl h) h

pub leaves_traced : (who : Caller) (ask : Ask) (a : Answer) (c d : Counts) (s : CloudState) (new : Option CloudState) (l : Leaves who ask a (counted c s) d new) → IsTraced s → IsTraced l.after
leaves_traced who ask a c d s new l h =
    let begun : IsTraced (called who l.after.now s) = locks_traced s (called who l.after.now s) refl refl refl h in
    leaves_by IsTraced who ask a c d s new l begun (λ permits. effect_traced who ask (called who l.after.now s) begun)

pub empty_traced : (s : CloudState) → IsEmptyCloud s → IsTraced s
empty_traced s empty = record {
  versions = λ name. ap (object_rows name) empty.trace ∙ ap (version_rows name 1) (sym (empty.versions name));
  messages = λ queue. ap (queue_rows queue) empty.trace ∙ ap (post_rows queue 1) (sym (empty.messages queue));
}

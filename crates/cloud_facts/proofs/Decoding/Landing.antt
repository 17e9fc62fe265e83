-- Every call that lands leaves versions and messages of their kinds.
use Rattle.std.proofs.Common.{◌≡◌, ◌+◌, ◌-◌, ◌<◌, ℕ, List, [], ◌∷◌, ◌++◌, length, Some, None, refl, sym, ap, subst, ◌∙◌, ◌⊎◌, inl, inr, arith, false}
use Rattle.std.specs.Prelude.{slice_get}
use Rattle.std.proofs.lemmas.List.{length-append}
use Rattle.cloud_facts.specs.Words.{ObjName, QueueName, Version, Posted, CloudState, newest, Caller, Ask, Get, GetHeld, PutHeld, Send, Receive, Delete, Take, Renew, Release, StandsAt}
use Rattle.db_base.specs.declared.names.ObjName.TheVariants as object
use Rattle.cloud_trait.specs.Ask.{ListHeld, RemoveHeld, effect, PutsNothing, TouchesNoMessage}
use Rattle.cloud_trait.specs.Names.{object_cmp, queue_cmp}
use Rattle.cloud_trait.specs.State.{IsEmptyCloud, landed, removed, sent, deleted, marked}
use Rattle.cloud_trait.proofs.EffectLemmas.{effect_versions, effect_messages}
use Rattle.cloud_trait.proofs.NameLemmas.{object_cmp-equal, queue_cmp-equal}
use Rattle.cloud_trait.proofs.StateLemmas.{put_at_by}
use Rattle.cloud_facts.specs.Book.Telling.{is_gone}
use Rattle.cloud_facts.proofs.Book.Places.{get_cases, get_single, get_within, marked_bytes}
use Rattle.cloud_facts.specs.Decoding.Decodes.{Decodes, IsNext, Spells}
use Rattle.cloud_facts.specs.Decoding.Kinds.{HasNth, IsRemoval, IsLastRemoval, AreOfKind, AreApart, MomentsDiffer, MovesOn, IsMessageOf, AreMessagesOf}
use Rattle.cloud_facts.proofs.Decoding.Newest.{newest_last, last_there, has_nth}

-- ---- the empty cloud

nothing : {A : Type 0} (xs : List A) (place : ℕ) (x : A) → xs ≡ [] → StandsAt xs place x → ⊥
nothing [] place x e h = absurd (cc)
nothing (y ∷ xs) place x e h = absurd (cc)

empty_moments : (name : ObjName) (vs : List Version) → vs ≡ [] → MomentsDiffer name vs
empty_moments (object.Head client) vs e = λ place v w a b at. absurd (nothing vs place v e at)
empty_moments (object.Tree tree) vs e = tt
empty_moments (object.Page tree page) vs e = tt

pub empty_decodes : (s : CloudState) → IsEmptyCloud s → Decodes s
empty_decodes s e = record {
  versions = λ name place v h. absurd (nothing (s.versions name) place v (e.versions name) h);
  moments = λ name. empty_moments name (s.versions name) (e.versions name);
  messages = λ queue place m h. absurd (nothing (s.messages queue) place m (e.messages queue) h);
}

-- ---- a version more

more_of_kind : (name : ObjName) (vs : List Version) (w : Version) → AreOfKind name vs → is_gone vs ≡ false → HasNth name (length vs + 1) w
    → AreOfKind name (vs ++ w ∷ [])
more_of_kind name vs w are there is place v h = on (get_cases vs (w ∷ []) place v h)
  where
    on : (slice_get vs place ≡ Some v) ⊎ ((j : ℕ) × (place ≡ length vs + j) × (slice_get (w ∷ []) j ≡ Some v))
        → HasNth name (place + 1) v ⊎ IsLastRemoval name (vs ++ w ∷ []) place v
    on (inl k) = inl (has_nth name vs place v are there k)
    on (inr p) =
        let first = get_within (w ∷ []) p.0 v p.2 in
        let n : length vs + 1 ≡ place + 1 = omega (arith, p.1, first) in
        inl (subst (λ (x : Version). HasNth name (place + 1) x) (get_single w p.0 v p.2) (subst (λ (k : ℕ). HasNth name k w) n is))

-- a removal behind versions that have bytes
bare_of_kind : (name : ObjName) (vs : List Version) (w : Version) → AreOfKind name vs → is_gone vs ≡ false → IsRemoval name → w.bytes ≡ None → 0 < length vs
    → AreOfKind name (vs ++ w ∷ [])
bare_of_kind name vs w are there removal none some place v h = on (get_cases vs (w ∷ []) place v h)
  where
    on : (slice_get vs place ≡ Some v) ⊎ ((j : ℕ) × (place ≡ length vs + j) × (slice_get (w ∷ []) j ≡ Some v))
        → HasNth name (place + 1) v ⊎ IsLastRemoval name (vs ++ w ∷ []) place v
    on (inl k) = inl (has_nth name vs place v are there k)
    on (inr p) =
        let first = get_within (w ∷ []) p.0 v p.2 in
        let both = length-append vs (w ∷ []) in
        inr (record {
          removal = removal;
          none = ap (λ (x : Version). x.bytes) (sym (get_single w p.0 v p.2)) ∙ none;
          behind = omega (arith, p.1, some);
          last = omega (arith, p.1, first, both);
        })

-- a version of a head that is of another moment than the newest
more_moments : (client : ℕ) (vs : List Version) (w : Version) (bytes : List ℕ) → w.bytes ≡ Some bytes → MomentsDiffer (object.Head client) vs
    → MovesOn (object.Head client) vs bytes → MomentsDiffer (object.Head client) (vs ++ w ∷ [])
more_moments client vs w bytes has differ moves place u v a b h k is_a is_b = on (get_cases vs (w ∷ []) place u h) (get_cases vs (w ∷ []) (place + 1) v k)
  where
    on : (slice_get vs place ≡ Some u) ⊎ ((j : ℕ) × (place ≡ length vs + j) × (slice_get (w ∷ []) j ≡ Some u))
        → (slice_get vs (place + 1) ≡ Some v) ⊎ ((j : ℕ) × (place + 1 ≡ length vs + j) × (slice_get (w ∷ []) j ≡ Some v)) → AreApart a b
    on (inl p) (inl q) = differ place u v a b p q is_a is_b
    on (inr p) (inl q) = let less = get_within vs (place + 1) v q in absurd (omega (arith, p.1, less))
    on (inr p) (inr q) =
        let first = get_within (w ∷ []) q.0 v q.2 in
        absurd (omega (arith, p.1, q.1, first))
    on (inl p) (inr q) =
        let first = get_within (w ∷ []) q.0 v q.2 in
        let n : place ≡ length vs - 1 = omega (arith, q.1, first) in
        let both : Some bytes ≡ Some b = sym has ∙ ap (λ (x : Version). x.bytes) (get_single w q.0 v q.2) ∙ is_b in
        let one : bytes ≡ b = cc in
        subst (λ (x : List ℕ). AreApart a x) one (moves u a (subst (λ (k : ℕ). StandsAt vs k u) n p) is_a)

more_differ : (name : ObjName) (vs : List Version) (w : Version) (bytes : List ℕ) → w.bytes ≡ Some bytes → MomentsDiffer name vs → MovesOn name vs bytes
    → MomentsDiffer name (vs ++ w ∷ [])
more_differ (object.Head client) vs w bytes has differ moves = more_moments client vs w bytes has differ moves
more_differ (object.Tree tree) vs w bytes has differ moves = tt
more_differ (object.Page tree page) vs w bytes has differ moves = tt

-- a put lands
pub landed_decodes : (who : Caller) (name : ObjName) (bytes : List ℕ) (s : CloudState) → Decodes s → IsNext s name bytes → Decodes (landed who name bytes s)
landed_decodes who name bytes s d next = record {
  versions = put_at_by AreOfKind object_cmp object_cmp-equal s.versions name (s.versions name ++ record { who = who; bytes = Some bytes } ∷ [])
      (more_of_kind name (s.versions name) (record { who = who; bytes = Some bytes }) (d.versions name) next.there (bytes, refl, next.kind)) d.versions;
  moments = put_at_by MomentsDiffer object_cmp object_cmp-equal s.versions name (s.versions name ++ record { who = who; bytes = Some bytes } ∷ [])
      (more_differ name (s.versions name) (record { who = who; bytes = Some bytes }) bytes refl (d.moments name) next.moves) d.moments;
  messages = d.messages;
}

-- a page is removed
bare_differ : (name : ObjName) (vs : List Version) → IsRemoval name → MomentsDiffer name vs
bare_differ (object.Head client) vs removal = absurd removal
bare_differ (object.Tree tree) vs removal = absurd removal
bare_differ (object.Page tree page) vs removal = tt

pub removed_decodes : (who : Caller) (name : ObjName) (bytes : List ℕ) (s : CloudState) → Decodes s → IsRemoval name → newest s name ≡ Some bytes
    → Decodes (removed who name s)
removed_decodes who name bytes s d removal is = record {
  versions = put_at_by AreOfKind object_cmp object_cmp-equal s.versions name (s.versions name ++ record { who = who; bytes = None } ∷ [])
      (bare_of_kind name (s.versions name) (record { who = who; bytes = None }) (d.versions name) (last_there (s.versions name) last.0 bytes last.1 last.2) removal refl
      (let less = get_within (s.versions name) (length (s.versions name) - 1) last.0 last.1 in omega (arith, less))) d.versions;
  moments = put_at_by MomentsDiffer object_cmp object_cmp-equal s.versions name (s.versions name ++ record { who = who; bytes = None } ∷ [])
      (bare_differ name (s.versions name ++ record { who = who; bytes = None } ∷ []) removal) d.moments;
  messages = d.messages;
}
  where
    last : (v : Version) × StandsAt (s.versions name) (length (s.versions name) - 1) v × (v.bytes ≡ Some bytes)
    last = newest_last (s.versions name) bytes is

-- ---- messages

more_messages : (queue : QueueName) (ms : List Posted) (w : Posted) → AreMessagesOf queue ms → IsMessageOf queue w.bytes → AreMessagesOf queue (ms ++ w ∷ [])
more_messages queue ms w are is place m h = on (get_cases ms (w ∷ []) place m h)
  where
    on : (slice_get ms place ≡ Some m) ⊎ ((j : ℕ) × (place ≡ length ms + j) × (slice_get (w ∷ []) j ≡ Some m)) → IsMessageOf queue m.bytes
    on (inl k) = are place m k
    on (inr p) = subst (λ (x : Posted). IsMessageOf queue x.bytes) (get_single w p.0 m p.2) is

marked_messages : (queue : QueueName) (ms : List Posted) (id : ℕ) → AreMessagesOf queue ms → AreMessagesOf queue (marked ms id)
marked_messages queue ms id are place m h =
    let old = marked_bytes ms id place m h in
    subst (λ (b : List ℕ). IsMessageOf queue b) (sym old.2) (are place old.0 old.1)

-- a message is sent
pub sent_decodes : (who : Caller) (queue : QueueName) (bytes : List ℕ) (s : CloudState) → Decodes s → IsMessageOf queue bytes → Decodes (sent who queue bytes s)
sent_decodes who queue bytes s d is = record {
  versions = d.versions;
  moments = d.moments;
  messages = put_at_by AreMessagesOf queue_cmp queue_cmp-equal s.messages queue (s.messages queue ++ record { who = who; bytes = bytes; deleted = false } ∷ [])
      (more_messages queue (s.messages queue) (record { who = who; bytes = bytes; deleted = false }) (d.messages queue) is) d.messages;
}

-- a message is marked as deleted
pub deleted_decodes : (queue : QueueName) (id : ℕ) (s : CloudState) → Decodes s → Decodes (deleted queue id s)
deleted_decodes queue id s d = record {
  versions = d.versions;
  moments = d.moments;
  messages = put_at_by AreMessagesOf queue_cmp queue_cmp-equal s.messages queue (marked (s.messages queue) id)
      (marked_messages queue (s.messages queue) id (d.messages queue)) d.messages;
}

-- ---- the whole

-- versions and messages as they were decode as they did
pub same_decodes : (s t : CloudState) → t.versions ≡ s.versions → t.messages ≡ s.messages → Decodes s → Decodes t
same_decodes s t versions messages d = record {
  versions = λ name. subst (λ (vs : ObjName → List Version). AreOfKind name (vs name)) (sym versions) (d.versions name);
  moments = λ name. subst (λ (vs : ObjName → List Version). MomentsDiffer name (vs name)) (sym versions) (d.moments name);
  messages = λ queue. subst (λ (ms : QueueName → List Posted). AreMessagesOf queue (ms queue)) (sym messages) (d.messages queue);
}

quiet_decodes : (who : Caller) (ask : Ask) (s : CloudState) → PutsNothing ask → TouchesNoMessage ask → Decodes s → Decodes (effect who ask s)
quiet_decodes who ask s puts touches d = same_decodes s (effect who ask s) (effect_versions who ask s puts) (effect_messages who ask s touches) d

-- every call that lands leaves versions and messages of their kinds
pub effect_decodes : (who : Caller) (ask : Ask) (s : CloudState) → Decodes s → Spells s ask → Decodes (effect who ask s)
effect_decodes who (Get name) s d spells = d
effect_decodes who (GetHeld name l) s d spells = d
effect_decodes who (PutHeld name bytes one two) s d spells = landed_decodes who name bytes s d spells
effect_decodes who (ListHeld tree l) s d spells = d
effect_decodes who (RemoveHeld name l) s d spells = removed_decodes who name spells.1 s d spells.0 spells.2
effect_decodes who (Send queue bytes) s d spells = sent_decodes who queue bytes s d spells
effect_decodes who (Receive queue most) s d spells = d
effect_decodes who (Delete queue id) s d spells = deleted_decodes queue id s d
effect_decodes who (Take lock ticks) s d spells = quiet_decodes who (Take lock ticks) s tt tt d
effect_decodes who (Renew l ticks) s d spells = quiet_decodes who (Renew l ticks) s tt tt d
effect_decodes who (Release l) s d spells = quiet_decodes who (Release l) s tt tt d

-- The items of received messages.
use Rattle.std.proofs.Common.{◌≡◌, ◌+◌, ◌-◌, ◌==◌, ℕ, zero, suc, Bool, true, false, cond, List, [], ◌∷◌, ◌++◌, map, filter, Option, Some, None, Result, Ok, Err, refl, sym, ap, subst, ◌∙◌, arith}
use Rattle.std.specs.Prelude.{slice_get, All}
use Rattle.std.specs.List.{AllByRecursion}
use Rattle.std.specs.Option.{option_map}
use Rattle.std.proofs.lemmas.Bool.{leb-true}
use Rattle.std.proofs.lemmas.Option.{get_or_from_slice_get}
use Rattle.ckpt_parts.specs.Intakes.{item_with, with_first, items_of}
use Rattle.cloud_trait.specs.Delivery.{WasSent}
use Rattle.cloud_trait.specs.State.{message_at}
use Rattle.cloud_trait.specs.declared.message.Message.{Message}
use Rattle.cloud_facts.specs.Words.{IsClient, PuItem, Posted, Store, IsIn}
use Rattle.db_base.specs.Cursor.{number_of}
use Rattle.log_codec.specs.Pu.{pu_of}
use Rattle.log_codec.specs.declared.record.PuRec.{PuRec}
use Rattle.log_codec.proofs.PuLaws.{pu_of-some}
use Rattle.cloud_facts.specs.Numbers.Numbers.{Numbers}
use Rattle.route_plan.specs.Record.{pu_record_of}
use Rattle.run_cursor.specs.Covered.{is_covered, is_seen, new_ones, covered_ids}
use Rattle.cloud_facts.specs.Book.Messages.{IsMessage}
use Rattle.cloud_facts.specs.Book.Premises.{IsItemOf}
use Rattle.cloud_facts.proofs.Book.Places.{get_within}
use Rattle.session_facts.specs.Machines.Runs.Knows.{IsSentItem, IsCoveredBy}

-- ---- facts on each element

pub each_in : {X : Type 0} (P : X → Type 0) (xs : List X) → AllByRecursion P xs → (x : X) → IsIn xs x → P x
each_in P [] all x (place, there) = absurd (cc)
each_in P (y ∷ ys) all x (zero, there) = let same : y ≡ x = cc in subst P same all.0
each_in P (y ∷ ys) all x (suc place, there) = each_in P ys all.1 x (place, there)

pub all_in : {X : Type 0} (P : X → Type 0) (xs : List X) → All P xs → (x : X) → IsIn xs x → P x
all_in P xs all x (place, there) = subst P (get_or_from_slice_get xs place x x there) (all place x (get_within xs place x there))

-- ---- messages

-- a message that was sent stands at its place
sent_at : (posts : List Posted) (m : Message) → WasSent posts m → (place : ℕ) × (p : Posted) × (m.id ≡ place + 1) × (slice_get posts place ≡ Some p) × (p.bytes ≡ m.bytes)
sent_at posts m was = on m.id refl was
  where
    on : (id : ℕ) → m.id ≡ id → message_at posts id ≡ Some m.bytes → (place : ℕ) × (p : Posted) × (m.id ≡ place + 1) × (slice_get posts place ≡ Some p) × (p.bytes ≡ m.bytes)
    on zero e w = absurd (cc)
    on (suc place) e w = at (suc place == 0) (slice_get posts (suc place - 1)) refl w
      where
        at : (b : Bool) (o : Option Posted) → slice_get posts (suc place - 1) ≡ o → cond b None (option_map (λ (p : Posted). p.bytes) o) ≡ Some m.bytes
            → (place : ℕ) × (p : Posted) × (m.id ≡ place + 1) × (slice_get posts place ≡ Some p) × (p.bytes ≡ m.bytes)
        at true o h g = absurd (cc)
        at false None h g = absurd (cc)
        at false (Some p) h g = (suc place - 1, p, omega (arith, e), h, cc)

-- the items of messages are their records
pub items_sent : (posts : List Posted) (ms : List Message) (items : List PuItem) → AllByRecursion (WasSent posts) ms → items_of ms ≡ Ok items → AllByRecursion (IsSentItem posts) items
items_sent posts [] items was e = let same : [] ≡ items = cc in subst (AllByRecursion (IsSentItem posts)) same tt
items_sent posts (m ∷ ms) items was e = on (λ rest q. items_sent posts ms rest was.1 q) (pu_of m.bytes) (items_of ms) refl refl e
  where
    on : ((rest : List PuItem) → items_of ms ≡ Ok rest → AllByRecursion (IsSentItem posts) rest) → (o : Option PuRec) (g : Result (List PuItem) Message) → pu_of m.bytes ≡ o → items_of ms ≡ g
        → with_first m o g ≡ Ok items → AllByRecursion (IsSentItem posts) items
    on again None g p q h = absurd (cc)
    on again (Some rec) (Ok rest) p q h =
        let at = sent_at posts m was.0 in
        let is : item_with m.id rec ∷ rest ≡ items = cc in
        subst (AllByRecursion (IsSentItem posts)) is
        (record { place = at.0; message = at.1; id = at.2; there = at.3; reads = ap pu_of at.4 ∙ p }, again rest q)
    on again (Some rec) (Err bad) p q h = absurd (cc)

-- every message that was sent is a record
pub none_damaged : (st : Store) (tree page : ℕ) (ms : List Message) (bad : Message) → Numbers st → AllByRecursion (WasSent (st.tally.posts tree page)) ms → items_of ms ≡ Err bad → ⊥
none_damaged st tree page [] bad numbers was e = cc
none_damaged st tree page (m ∷ ms) bad numbers was e =
    on (λ q. none_damaged st tree page ms bad numbers was.1 q) (pu_of m.bytes) (items_of ms) refl refl e
  where
    none : pu_of m.bytes ≡ None → ⊥
    none q =
        let at = sent_at (st.tally.posts tree page) m was.0 in
        let r = numbers.sent tree page at.0 at.1 at.3 in
        let no : None ≡ Some (pu_record_of r.of) = sym q ∙ (ap pu_of (sym at.4) ∙ r.reads) in
        cc

    on : (items_of ms ≡ Err bad → ⊥) → (o : Option PuRec) (g : Result (List PuItem) Message) → pu_of m.bytes ≡ o → items_of ms ≡ g → with_first m o g ≡ Err bad → ⊥
    on again None g p q h = none p
    on again (Some rec) (Ok rest) p q h = cc
    on again (Some rec) (Err worse) p q h = again (q ∙ h)

-- such an item is a committed record
pub item_of : (st : Store) (tree page : ℕ) (x : PuItem) → Numbers st → IsSentItem (st.tally.posts tree page) x → IsItemOf st tree page x
item_of st tree page x numbers s =
    let r = numbers.sent tree page s.place s.message s.there in
    record {
      of = r.of;
      logged = r.logged;
      tree_is = r.tree_is;
      page_is = r.page_is;
      rec_is = one x.rec (pu_record_of r.of) (sym s.reads ∙ r.reads);
      sent = record { place = s.place; message = s.message; there = s.there; reads = s.reads };
    }
  where
    one : (a b : PuRec) → Some a ≡ Some b → a ≡ b
    one a b e = cc

pub item_client : (posts : List Posted) (x : PuItem) → IsSentItem posts x → IsClient x.rec.client
item_client posts x s = (pu_of-some s.message.bytes x.rec s.reads).0.client

-- and so is a message of a client
pub message_client : (posts : List Posted) (id : ℕ) (rec : PuRec) → IsMessage posts id rec → IsClient rec.client
message_client posts id rec m = (pu_of-some m.message.bytes rec m.reads).0.client

-- ---- the ids of covered items

pub new_in : (seen ns : List ℕ) (id : ℕ) → IsIn (new_ones seen ns) id → IsIn ns id
new_in seen [] id is = is
new_in seen (n ∷ ns) id is = on (is_seen seen n) (new_in seen ns id) (new_in (seen ++ n ∷ []) ns id) is
  where
    on : (b : Bool) → (IsIn (new_ones seen ns) id → IsIn ns id) → (IsIn (new_ones (seen ++ n ∷ []) ns) id → IsIn ns id)
        → IsIn (cond b (new_ones seen ns) (n ∷ new_ones (seen ++ n ∷ []) ns)) id → IsIn (n ∷ ns) id
    on true again further there = let r = again there in (suc r.0, r.1)
    on false again further (zero, there) = (zero, there)
    on false again further (suc place, there) = let r = further (place, there) in (suc r.0, r.1)

pub covered_in : (top : List (ℕ × ℕ)) (items : List PuItem) (id : ℕ) → IsIn (map (λ (x : PuItem). x.id) (filter (is_covered top) items)) id
    → (x : PuItem) × IsIn items x × (x.id ≡ id) × (is_covered top x ≡ true)
covered_in top [] id (place, there) = absurd (cc)
covered_in top (x ∷ items) id is = on (is_covered top x) refl (covered_in top items id) is
  where
    on : (b : Bool) → is_covered top x ≡ b
        → (IsIn (map (λ (y : PuItem). y.id) (filter (is_covered top) items)) id → (y : PuItem) × IsIn items y × (y.id ≡ id) × (is_covered top y ≡ true))
        → IsIn (map (λ (y : PuItem). y.id) (cond b (x ∷ filter (is_covered top) items) (filter (is_covered top) items))) id
        → (y : PuItem) × IsIn (x ∷ items) y × (y.id ≡ id) × (is_covered top y ≡ true)
    on true e again (zero, there) = let same : x.id ≡ id = cc in (x, (zero, refl), same, e)
    on true e again (suc place, there) = let r = again (place, there) in (r.0, (suc r.1.0, r.1.1), r.2, r.3)
    on false e again there = let r = again there in (r.0, (suc r.1.0, r.1.1), r.2, r.3)

pub ids_covered : (st : Store) (tree page : ℕ) (top : List (ℕ × ℕ)) (items : List PuItem) → AllByRecursion (IsSentItem (st.tally.posts tree page)) items → (id : ℕ)
    → IsIn (covered_ids top items) id → IsCoveredBy (number_of top) st tree page id
ids_covered st tree page top items sent id is =
    let r = covered_in top items id (new_in [] (map (λ (x : PuItem). x.id) (filter (is_covered top) items)) id is) in
    let s = each_in (IsSentItem (st.tally.posts tree page)) items sent r.0 r.1 in
    (r.0.rec, record { place = s.place; message = s.message; id_is = sym r.2 ∙ s.id; there = s.there; reads = s.reads }, leb-true r.0.rec.number (number_of top r.0.rec.client) r.3)

-- What was sent and what is committed stays so.
use Rattle.std.proofs.Common.{◌≡◌, ℕ, zero, suc, List, [], ◌∷◌, ◌++◌, Some, refl, sym, ap, subst, ◌∙◌, append_assoc}
use Rattle.std.specs.Prelude.{slice_get}
use Rattle.cloud_facts.specs.Words.{AtomicRec, PuItem, Posted, Caller, Store, IsIn}
use Rattle.cloud_trait.specs.Growth.{BeginsWith}
use Rattle.cloud_trait.specs.Upto.{posts_of}
use Rattle.cloud_facts.specs.Lefts.Left.{IsCopied}
use Rattle.log_codec.specs.Pu.{pu_of}
use Rattle.log_codec.specs.declared.record.PuRec.{PuRec}
use Rattle.cloud_facts.specs.Book.Growth.{Grows}
use Rattle.cloud_facts.specs.Book.Messages.{HasCopy, IsMessage}
use Rattle.cloud_facts.specs.Book.Premises.{IsItemOf}
use Rattle.cloud_facts.proofs.Book.Places.{get_front, get_map, in_front}

-- a list that goes on from one that goes on
pub begins_on : {X : Type 0} (xs ys zs : List X) → BeginsWith xs ys → BeginsWith ys zs → BeginsWith xs zs
begins_on xs ys zs (m, e) (n, f) = (m ++ n, f ∙ (ap (λ l. l ++ n) e ∙ append_assoc xs m n))

-- a message that was sent stands at its place still, with its bytes
mapped : (ms : List Posted) (place : ℕ) (b : Caller × List ℕ) → slice_get (posts_of ms) place ≡ Some b → (m : Posted) × (slice_get ms place ≡ Some m) × (m.bytes ≡ b.1)
mapped [] place b e = absurd (cc)
mapped (m ∷ ms) zero b e = let same : (m.who, m.bytes) ≡ b = cc in (m, refl, ap (λ (p : Caller × List ℕ). p.1) same)
mapped (m ∷ ms) (suc place) b e = mapped ms place b e

pub message_stays : (posts more : List Posted) → BeginsWith (posts_of posts) (posts_of more) → (place : ℕ) (m : Posted) → slice_get posts place ≡ Some m
    → (n : Posted) × (slice_get more place ≡ Some n) × (n.bytes ≡ m.bytes)
message_stays posts more (rest, e) place m there =
    mapped more place (m.who, m.bytes)
    (ap (λ l. slice_get l place) e ∙ get_front (posts_of posts) rest place (m.who, m.bytes) (get_map (λ (p : Posted). (p.who, p.bytes)) posts place m there))

pub copy_stays : (posts more : List Posted) (rec : PuRec) → BeginsWith (posts_of posts) (posts_of more) → HasCopy posts rec → HasCopy more rec
copy_stays posts more rec begins h =
    let n = message_stays posts more begins h.place h.message h.there in
    record { place = h.place; message = n.0; there = n.1; reads = ap pu_of n.2 ∙ h.reads }

pub copied_stays : (st su : Store) (r : AtomicRec) → Grows st su → IsCopied st.tally r → IsCopied su.tally r
copied_stays st su r grows h = copy_stays (st.tally.posts r.tree r.page) (su.tally.posts r.tree r.page) _ (grows.posts r.tree r.page) h

pub is_message_stays : (posts more : List Posted) (id : ℕ) (rec : PuRec) → BeginsWith (posts_of posts) (posts_of more) → IsMessage posts id rec → IsMessage more id rec
is_message_stays posts more id rec begins h =
    let n = message_stays posts more begins h.place h.message h.there in
    record { place = h.place; message = n.0; id_is = h.id_is; there = n.1; reads = ap pu_of n.2 ∙ h.reads }

pub log_stays : (st su : Store) (r : AtomicRec) → Grows st su → IsIn st.book.log r → IsIn su.book.log r
log_stays st su r grows is = subst (λ l. IsIn l r) (sym grows.log.1) (in_front st.book.log grows.log.0 r is)

pub item_stays : (st su : Store) (tree queue : ℕ) (x : PuItem) → Grows st su → IsItemOf st tree queue x → IsItemOf su tree queue x
item_stays st su tree queue x grows h = record {
  of = h.of;
  logged = log_stays st su h.of grows h.logged;
  tree_is = h.tree_is;
  page_is = h.page_is;
  rec_is = h.rec_is;
  sent = copy_stays (st.tally.posts tree queue) (su.tally.posts tree queue) x.rec (grows.posts tree queue) h.sent;
}

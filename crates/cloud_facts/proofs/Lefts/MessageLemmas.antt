-- Messages that are added and marked.
use Rattle.std.proofs.Common.{◌≡◌, ◌+◌, ◌⊎◌, inl, inr, ℕ, zero, suc, List, [], ◌∷◌, ◌++◌, length, Some, refl, sym, ap, ◌∙◌, arith}
use Rattle.std.proofs.lemmas.Bool.{cases_eq}
use Rattle.std.specs.Prelude.{slice_get}
use Rattle.cloud_trait.specs.State.{marked}
use Rattle.cloud_trait.specs.declared.state.Posted.{Posted}
use Rattle.log_codec.specs.Atomic.{atomic_of}
use Rattle.log_codec.specs.Pu.{pu_of}
use Rattle.log_codec.specs.declared.record.AtomicRec.{AtomicRec}
use Rattle.log_codec.specs.declared.record.PuRec.{PuRec}
use Rattle.cloud_facts.specs.Book.Messages.{HasCopy, Waits, WaitsLogged, IsMessage, IsLogMessage, IsDeleted}
use Rattle.cloud_facts.proofs.Book.Places.{get_front, get_cases, get_single, marked_other, marked_bytes, marked_front, marked_here}

-- ---- more messages

pub copy_more : (posts more : List Posted) (rec : PuRec) → HasCopy posts rec → HasCopy (posts ++ more) rec
copy_more posts more rec h = record { place = h.place; message = h.message; there = get_front posts more h.place h.message h.there; reads = h.reads }

pub waits_more : (posts more : List Posted) (rec : PuRec) → Waits posts rec → Waits (posts ++ more) rec
waits_more posts more rec h =
    record { place = h.place; message = h.message; there = get_front posts more h.place h.message h.there; reads = h.reads; unmarked = h.unmarked }

pub logged_more : (posts more : List Posted) (r : AtomicRec) → WaitsLogged posts r → WaitsLogged (posts ++ more) r
logged_more posts more r h =
    record { place = h.place; message = h.message; there = get_front posts more h.place h.message h.there; reads = h.reads; unmarked = h.unmarked }

-- an ATOMIC message of a queue with one more is one of before, or the new one
pub record IsLast (posts : List Posted) (post : Posted) (id : ℕ) (r : AtomicRec) : Type 0 where
  pub id_is : id ≡ length posts + 1
  pub reads : atomic_of post.bytes ≡ Some r

pub log_cases : (posts : List Posted) (post : Posted) (id : ℕ) (r : AtomicRec) → IsLogMessage (posts ++ post ∷ []) id r → IsLogMessage posts id r ⊎ IsLast posts post id r
log_cases posts post id r m = on (get_cases posts (post ∷ []) m.place m.message m.there)
  where
    last : (j : ℕ) → slice_get (post ∷ []) j ≡ Some m.message → j ≡ 0
    last zero e = refl
    last (suc j) e = absurd (cc)

    on : (slice_get posts m.place ≡ Some m.message) ⊎ ((j : ℕ) × (m.place ≡ length posts + j) × (slice_get (post ∷ []) j ≡ Some m.message)) → IsLogMessage posts id r ⊎ IsLast posts post id r
    on (inl h) = inl (record { place = m.place; message = m.message; id_is = m.id_is; there = h; reads = m.reads })
    on (inr p) = inr (record {
      id_is = let z : p.0 ≡ 0 = last p.0 p.2 in omega (arith, m.id_is, p.1, z);
      reads = ap (λ (q : Posted). atomic_of q.bytes) (get_single post p.0 m.message p.2) ∙ m.reads;
    })

-- ---- marks

pub copy_marked : (posts : List Posted) (id : ℕ) (rec : PuRec) → HasCopy posts rec → HasCopy (marked posts id) rec
copy_marked posts id rec h =
    let n = marked_front posts id h.place h.message h.there in
    record { place = h.place; message = n.0; there = n.1; reads = ap pu_of n.2 ∙ h.reads }

-- what waits still does, or is the one that is marked
pub waits_marked : (posts : List Posted) (id : ℕ) (rec : PuRec) → Waits posts rec → IsMessage posts id rec ⊎ Waits (marked posts id) rec
waits_marked posts id rec h = on (cases_eq id (h.place + 1))
  where
    on : (id ≡ h.place + 1) ⊎ (id ≡ h.place + 1 → ⊥) → IsMessage posts id rec ⊎ Waits (marked posts id) rec
    on (inl e) = inl (record { place = h.place; message = h.message; id_is = e; there = h.there; reads = h.reads })
    on (inr ne) = inr (record { place = h.place; message = h.message; there = marked_other posts id h.place h.message h.there ne; reads = h.reads; unmarked = h.unmarked })

pub logged_marked : (posts : List Posted) (id : ℕ) (r : AtomicRec) → WaitsLogged posts r → IsLogMessage posts id r ⊎ WaitsLogged (marked posts id) r
logged_marked posts id r h = on (cases_eq id (h.place + 1))
  where
    on : (id ≡ h.place + 1) ⊎ (id ≡ h.place + 1 → ⊥) → IsLogMessage posts id r ⊎ WaitsLogged (marked posts id) r
    on (inl e) = inl (record { place = h.place; message = h.message; id_is = e; there = h.there; reads = h.reads })
    on (inr ne) = inr (record { place = h.place; message = h.message; there = marked_other posts id h.place h.message h.there ne; reads = h.reads; unmarked = h.unmarked })

-- a mark adds no message
pub log_marked : (posts : List Posted) (marks id : ℕ) (r : AtomicRec) → IsLogMessage (marked posts marks) id r → IsLogMessage posts id r
log_marked posts marks id r m =
    let n = marked_bytes posts marks m.place m.message m.there in
    record { place = m.place; message = n.0; id_is = m.id_is; there = n.1; reads = sym (ap atomic_of n.2) ∙ m.reads }

-- ---- one message two ways

pub copy_of_waits : (posts : List Posted) (rec : PuRec) → Waits posts rec → HasCopy posts rec
copy_of_waits posts rec h = record { place = h.place; message = h.message; there = h.there; reads = h.reads }

pub copy_of_message : (posts : List Posted) (id : ℕ) (rec : PuRec) → IsMessage posts id rec → HasCopy posts rec
copy_of_message posts id rec h = record { place = h.place; message = h.message; there = h.there; reads = h.reads }

pub message_of_logged : (posts : List Posted) (r : AtomicRec) → WaitsLogged posts r → (id : ℕ) × IsLogMessage posts id r
message_of_logged posts r h = (h.place + 1, record { place = h.place; message = h.message; id_is = refl; there = h.there; reads = h.reads })

-- ---- a message stays

pub log_message_more : (posts more : List Posted) (id : ℕ) (r : AtomicRec) → IsLogMessage posts id r → IsLogMessage (posts ++ more) id r
log_message_more posts more id r h = record { place = h.place; message = h.message; id_is = h.id_is; there = get_front posts more h.place h.message h.there; reads = h.reads }

pub log_message_marked : (posts : List Posted) (marks id : ℕ) (r : AtomicRec) → IsLogMessage posts id r → IsLogMessage (marked posts marks) id r
log_message_marked posts marks id r h =
    let n = marked_front posts marks h.place h.message h.there in
    record { place = h.place; message = n.0; id_is = h.id_is; there = n.1; reads = ap atomic_of n.2 ∙ h.reads }

-- ---- a deleted message stays so

pub deleted_more : (posts more : List Posted) (id : ℕ) → IsDeleted posts id → IsDeleted (posts ++ more) id
deleted_more posts more id h =
    record { place = h.place; message = h.message; id_is = h.id_is; there = get_front posts more h.place h.message h.there; marked = h.marked }

pub deleted_marked : (posts : List Posted) (marks id : ℕ) → IsDeleted posts id → IsDeleted (marked posts marks) id
deleted_marked posts marks id h = on (cases_eq marks (h.place + 1))
  where
    on : (marks ≡ h.place + 1) ⊎ (marks ≡ h.place + 1 → ⊥) → IsDeleted (marked posts marks) id
    on (inl e) = let n = marked_here posts marks h.place h.message h.there e in record { place = h.place; message = n.0; id_is = h.id_is; there = n.1; marked = n.2 }
    on (inr ne) = record { place = h.place; message = h.message; id_is = h.id_is; there = marked_other posts marks h.place h.message h.there ne; marked = h.marked }

-- the one that is marked is deleted
pub marked_deleted : (posts : List Posted) (id : ℕ) (r : AtomicRec) → IsLogMessage posts id r → IsDeleted (marked posts id) id
marked_deleted posts id r m =
    let n = marked_here posts id m.place m.message m.there m.id_is in record { place = m.place; message = n.0; id_is = m.id_is; there = n.1; marked = n.2 }

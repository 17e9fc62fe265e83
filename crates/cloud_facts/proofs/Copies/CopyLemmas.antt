-- The copies of a record among messages that are added and marked.
use Rattle.std.proofs.Common.{◌≡◌, ◌+◌, ◌≤◌, ◌⊎◌, inl, inr, ℕ, zero, suc, List, [], ◌∷◌, ◌++◌, length, Option, Some, None, refl, sym, ap, ◌∙◌, arith}
use Rattle.std.proofs.lemmas.Bool.{cases_eq}
use Rattle.std.specs.Prelude.{slice_get}
use Rattle.cloud_trait.specs.State.{marked}
use Rattle.cloud_trait.specs.declared.state.Posted.{Posted}
use Rattle.cloud_facts.specs.Copies.Copies.{IsCopy, IsFirst, HasBefore}
use Rattle.log_codec.specs.Pu.{pu_of}
use Rattle.log_codec.specs.declared.record.PuRec.{PuRec}
use Rattle.cloud_facts.specs.Book.Messages.{HasCopy}
use Rattle.cloud_facts.proofs.Book.Places.{get_front, get_cases, get_single, get_within, marked_front, marked_bytes}

pub copy_at_number : (posts : List Posted) (client a b place : ℕ) → a ≡ b → IsCopy posts client a place → IsCopy posts client b place
copy_at_number posts client a b place e c =
    record { message = c.message; rec = c.rec; there = c.there; reads = c.reads; client_is = c.client_is; number_is = c.number_is ∙ e }

-- a record that was sent has a copy before the end
pub copy_of_sent : (posts : List Posted) (client number : ℕ) (rec : PuRec) → rec.client ≡ client → rec.number ≡ number → HasCopy posts rec
    → HasBefore posts client number (length posts)
copy_of_sent posts client number rec own e h = record {
  at = h.place;
  copy = record { message = h.message; rec = rec; there = h.there; reads = h.reads; client_is = own; number_is = e };
  before = get_within posts h.place h.message h.there;
}

-- ---- more messages

pub copy_front : (posts more : List Posted) (client number place : ℕ) → IsCopy posts client number place → IsCopy (posts ++ more) client number place
copy_front posts more client number place c = record {
  message = c.message;
  rec = c.rec;
  there = get_front posts more place c.message c.there;
  reads = c.reads;
  client_is = c.client_is;
  number_is = c.number_is;
}

pub before_front : (posts more : List Posted) (client number place : ℕ) → HasBefore posts client number place → HasBefore (posts ++ more) client number place
before_front posts more client number place h = record { at = h.at; copy = copy_front posts more client number h.at h.copy; before = h.before }

pub sent_more : (posts more : List Posted) (rec : PuRec) → HasCopy posts rec → HasCopy (posts ++ more) rec
sent_more posts more rec h = record { place = h.place; message = h.message; there = get_front posts more h.place h.message h.there; reads = h.reads }

-- what stands in a queue with one more stood before, or is the new one
pub record IsNew (posts : List Posted) (post : Posted) (place : ℕ) (message : Posted) : Type 0 where
  pub place_is : place ≡ length posts
  pub message_is : post ≡ message

pub new_cases : (posts : List Posted) (post : Posted) (place : ℕ) (message : Posted) → slice_get (posts ++ post ∷ []) place ≡ Some message
    → (slice_get posts place ≡ Some message) ⊎ IsNew posts post place message
new_cases posts post place message e = on (get_cases posts (post ∷ []) place message e)
  where
    last : (j : ℕ) → slice_get (post ∷ []) j ≡ Some message → j ≡ 0
    last zero e = refl
    last (suc j) e = absurd (cc)

    on : (slice_get posts place ≡ Some message) ⊎ ((j : ℕ) × (place ≡ length posts + j) × (slice_get (post ∷ []) j ≡ Some message))
        → (slice_get posts place ≡ Some message) ⊎ IsNew posts post place message
    on (inl h) = inl h
    on (inr p) = inr (record { place_is = let z : p.0 ≡ 0 = last p.0 p.2 in omega (arith, p.1, z); message_is = get_single post p.0 message p.2 })

-- ---- marks

pub copy_marked : (posts : List Posted) (id client number place : ℕ) → IsCopy posts client number place → IsCopy (marked posts id) client number place
copy_marked posts id client number place c =
    let n = marked_front posts id place c.message c.there in
    record { message = n.0; rec = c.rec; there = n.1; reads = ap pu_of n.2 ∙ c.reads; client_is = c.client_is; number_is = c.number_is }

pub before_marked : (posts : List Posted) (id client number place : ℕ) → HasBefore posts client number place → HasBefore (marked posts id) client number place
before_marked posts id client number place h = record { at = h.at; copy = copy_marked posts id client number h.at h.copy; before = h.before }

-- a mark adds none
pub copy_unmarked : (posts : List Posted) (id client number place : ℕ) → IsCopy (marked posts id) client number place → IsCopy posts client number place
copy_unmarked posts id client number place c =
    let n = marked_bytes posts id place c.message c.there in
    record { message = n.0; rec = c.rec; there = n.1; reads = sym (ap pu_of n.2) ∙ c.reads; client_is = c.client_is; number_is = c.number_is }

pub sent_marked : (posts : List Posted) (id : ℕ) (rec : PuRec) → HasCopy posts rec → HasCopy (marked posts id) rec
sent_marked posts id rec h =
    let n = marked_front posts id h.place h.message h.there in
    record { place = h.place; message = n.0; there = n.1; reads = ap pu_of n.2 ∙ h.reads }

pub sent_unmarked : (posts : List Posted) (id : ℕ) (rec : PuRec) → HasCopy (marked posts id) rec → HasCopy posts rec
sent_unmarked posts id rec h =
    let n = marked_bytes posts id h.place h.message h.there in
    record { place = h.place; message = n.0; there = n.1; reads = sym (ap pu_of n.2) ∙ h.reads }

-- ---- the first copy

-- a first copy up to a place
pub record HasFirst (posts : List Posted) (client number upto : ℕ) : Type 0 where
  pub place : ℕ
  pub first : IsFirst posts client number place
  pub within : place ≤ upto

copy_behind : (post : Posted) (posts : List Posted) (client number place : ℕ) → IsCopy (post ∷ posts) client number (suc place)
    → IsCopy posts client number place
copy_behind post posts client number place c =
    record { message = c.message; rec = c.rec; there = c.there; reads = c.reads; client_is = c.client_is; number_is = c.number_is }

copy_further : (post : Posted) (posts : List Posted) (client number place : ℕ) → IsCopy posts client number place
    → IsCopy (post ∷ posts) client number (suc place)
copy_further post posts client number place c =
    record { message = c.message; rec = c.rec; there = c.there; reads = c.reads; client_is = c.client_is; number_is = c.number_is }

-- the front message is a copy, or it is not
copy_or_not : (post : Posted) (posts : List Posted) (client number : ℕ) → IsCopy (post ∷ posts) client number 0 ⊎ (IsCopy (post ∷ posts) client number 0 → ⊥)
copy_or_not post posts client number = on (pu_of post.bytes) refl
  where
    is_front : (c : IsCopy (post ∷ posts) client number 0) → pu_of post.bytes ≡ Some c.rec
    is_front c =
        let h : slice_get (post ∷ posts) 0 ≡ Some c.message = c.there in
        let same : post ≡ c.message = cc in
        ap (λ (m : Posted). pu_of m.bytes) same ∙ c.reads

    same_rec : (a b : PuRec) → Some a ≡ Some b → a ≡ b
    same_rec a b e = cc

    none_some : (a : PuRec) → None ≡ Some a → ⊥
    none_some a e = cc

    is : (rec : PuRec) → pu_of post.bytes ≡ Some rec → (rec.client ≡ client) ⊎ (rec.client ≡ client → ⊥) → (rec.number ≡ number) ⊎ (rec.number ≡ number → ⊥)
        → IsCopy (post ∷ posts) client number 0 ⊎ (IsCopy (post ∷ posts) client number 0 → ⊥)
    is rec e (inl own) (inl number_is) = inl (record { message = post; rec = rec; there = refl; reads = e; client_is = own; number_is = number_is })
    is rec e (inl own) (inr ne) = inr (λ c. ne (ap (λ (p : PuRec). p.number) (same_rec rec c.rec (sym e ∙ is_front c)) ∙ c.number_is))
    is rec e (inr ne) either = inr (λ c. ne (ap (λ (p : PuRec). p.client) (same_rec rec c.rec (sym e ∙ is_front c)) ∙ c.client_is))

    on : (o : Option PuRec) → pu_of post.bytes ≡ o → IsCopy (post ∷ posts) client number 0 ⊎ (IsCopy (post ∷ posts) client number 0 → ⊥)
    on (Some rec) e = is rec e (cases_eq rec.client client) (cases_eq rec.number number)
    on None e = inr (λ c. none_some c.rec (sym e ∙ is_front c))

pub first_of : (posts : List Posted) (client number place : ℕ) → IsCopy posts client number place → HasFirst posts client number place
first_of [] client number place c = let h = c.there in absurd (cc)
first_of (post ∷ posts) client number place c = on place c (copy_or_not post posts client number) (λ k d. first_of posts client number k d)
  where
    on : (k : ℕ) → IsCopy (post ∷ posts) client number k → IsCopy (post ∷ posts) client number 0 ⊎ (IsCopy (post ∷ posts) client number 0 → ⊥)
        → ((i : ℕ) → IsCopy posts client number i → HasFirst posts client number i) → HasFirst (post ∷ posts) client number k
    on k d (inl front) again = record { place = 0; first = record { copy = front; earliest = λ i e. omega arith }; within = omega arith }
    on zero d (inr never) again = absurd (never d)
    on (suc k) d (inr never) again = later (again k (copy_behind post posts client number k d))
      where
        early : (f : HasFirst posts client number k) (i : ℕ) → IsCopy (post ∷ posts) client number i → suc f.place ≤ i
        early f zero e = absurd (never e)
        early f (suc i) e = let h = f.first.earliest i (copy_behind post posts client number i e) in omega (arith, h)

        later : HasFirst posts client number k → HasFirst (post ∷ posts) client number (suc k)
        later f = record {
          place = suc f.place;
          first = record { copy = copy_further post posts client number f.place f.first.copy; earliest = early f };
          within = let h = f.within in omega (arith, h);
        }

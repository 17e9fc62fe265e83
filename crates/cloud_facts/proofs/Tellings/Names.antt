-- A change at one name of a cloud, seen by the numbers in the name.
use Rattle.std.proofs.Common.{◌≡◌, ℕ, zero, suc, Bool, true, false, cond, ◌==◌, ◌&&◌, List, [], ◌∷◌, ◌++◌, map, refl, sym, ap, ◌∙◌, Ordering}
use Rattle.std.specs.declared.cmp.Ordering.TheVariants.{Less, Equal, Greater}
use Rattle.std.specs.Cmp.{IsTotalOrder}
use Rattle.std.specs.Ordering.{is_eq}
use Rattle.std.proofs.lemmas.Bool.{eqb-true, eqb-false, eq-eqb, and_parts, and_from}
use Rattle.std.proofs.lemmas.List.{map-append}
use Rattle.cloud_facts.specs.Words.{ObjName, QueueName, at}
use Rattle.db_base.specs.declared.names.ObjName.TheVariants as object
use Rattle.db_base.specs.declared.names.QueueName.TheVariants.{Atomic}
use Rattle.cloud_trait.specs.Names.{object_cmp, queue_cmp}
use Rattle.cloud_trait.specs.State.{put_at}
use Rattle.cloud_trait.proofs.NameLemmas.{object_cmp-total, object_cmp-equal, queue_cmp-total, queue_cmp-equal}
use Rattle.cloud_trait.proofs.StateLemmas.{put_at_same, put_at_other}
use Rattle.cloud_facts.specs.Book.Tally.{at2}
use Rattle.cloud_facts.specs.Book.Telling.{queue_of, last_or}
use Rattle.cloud_facts.proofs.Chains.Names.{last_added}

-- names that are not the same are apart
apart : {K : Type 0} (cmp : K → K → Ordering) → ((a b : K) → cmp a b ≡ Equal → a ≡ b) → (k q : K) → (k ≡ q → ⊥) → is_eq (cmp k q) ≡ false
apart {K} cmp equal k q ne = on (cmp k q) refl
  where
    on : (o : Ordering) → cmp k q ≡ o → is_eq o ≡ false
    on Less e = refl
    on Equal e = absurd (ne (equal k q e))
    on Greater e = refl

-- a change at a name of one number, and of two
put_one : {K V : Type 0} (cmp : K → K → Ordering) → IsTotalOrder cmp → ((a b : K) → cmp a b ≡ Equal → a ≡ b) → (name : ℕ → K)
    → ((a m : ℕ) → name a ≡ name m → m ≡ a)
    → (f : K → V) (a : ℕ) (v : V) (m : ℕ) → put_at cmp f (name a) v (name m) ≡ at a v (λ n. f (name n)) m
put_one {K} {V} cmp total equal name one f a v m = on (m == a) refl
  where
    on : (b : Bool) → (m == a) ≡ b → put_at cmp f (name a) v (name m) ≡ cond b v (f (name m))
    on true e = ap (λ n. put_at cmp f (name a) v (name n)) (eqb-true m a e) ∙ put_at_same cmp total f (name a) v
    on false e = put_at_other cmp f (name a) v (name m) (apart cmp equal (name a) (name m) (λ same. eqb-false m a e (one a m same)))

put_two : {K V : Type 0} (cmp : K → K → Ordering) → IsTotalOrder cmp → ((a b : K) → cmp a b ≡ Equal → a ≡ b) → (name : ℕ → ℕ → K)
    → ((a b m n : ℕ) → name a b ≡ name m n → (m ≡ a) × (n ≡ b))
    → (f : K → V) (a b : ℕ) (v : V) (m n : ℕ) → put_at cmp f (name a b) v (name m n) ≡ at2 a b v (λ x y. f (name x y)) m n
put_two {K} {V} cmp total equal name one f a b v m n = on ((m == a) && (n == b)) refl
  where
    on : (c : Bool) → ((m == a) && (n == b)) ≡ c → put_at cmp f (name a b) v (name m n) ≡ cond c v (f (name m n))
    on true e =
        let p = and_parts (m == a) (n == b) e in
        let x = eqb-true m a p.0 in
        let y = eqb-true n b p.1 in
        ap (λ k. put_at cmp f (name a b) v k) (λ i. name (x i) (y i)) ∙ put_at_same cmp total f (name a b) v
    on false e = put_at_other cmp f (name a b) v (name m n) (apart cmp equal (name a b) (name m n) differ)
      where
        differ : name a b ≡ name m n → ⊥
        differ same =
            let p = one a b m n same in
            let t : ((m == a) && (n == b)) ≡ true = and_from (m == a) (n == b) (eq-eqb m a p.0) (eq-eqb n b p.1) in
            let never : true ≡ false = sym t ∙ e in
            cc

one_head : (a m : ℕ) → object.Head a ≡ object.Head m → m ≡ a
one_head a m e = cc

one_tree : (a m : ℕ) → object.Tree a ≡ object.Tree m → m ≡ a
one_tree a m e = cc

one_page : (a b m n : ℕ) → object.Page a b ≡ object.Page m n → (m ≡ a) × (n ≡ b)
one_page a b m n e = let x : m ≡ a = cc in let y : n ≡ b = cc in (x, y)

one_atomic : (a m : ℕ) → Atomic a ≡ Atomic m → m ≡ a
one_atomic a m e = cc

one_queue : (a b m n : ℕ) → queue_of a b ≡ queue_of m n → (m ≡ a) × (n ≡ b)
one_queue a zero m zero e = let x : m ≡ a = cc in (x, refl)
one_queue a zero m (suc n) e = absurd (cc)
one_queue a (suc b) m zero e = absurd (cc)
one_queue a (suc b) m (suc n) e = let x : m ≡ a = cc in let y : suc n ≡ suc b = cc in (x, y)

pub put_head : {V : Type 0} (f : ObjName → V) (a : ℕ) (v : V) (m : ℕ)
    → put_at object_cmp f (object.Head a) v (object.Head m) ≡ at a v (λ n. f (object.Head n)) m
put_head f a v m = put_one object_cmp object_cmp-total object_cmp-equal object.Head one_head f a v m

pub put_tree : {V : Type 0} (f : ObjName → V) (a : ℕ) (v : V) (m : ℕ)
    → put_at object_cmp f (object.Tree a) v (object.Tree m) ≡ at a v (λ n. f (object.Tree n)) m
put_tree f a v m = put_one object_cmp object_cmp-total object_cmp-equal object.Tree one_tree f a v m

pub put_page : {V : Type 0} (f : ObjName → V) (a b : ℕ) (v : V) (m n : ℕ)
    → put_at object_cmp f (object.Page a b) v (object.Page m n) ≡ at2 a b v (λ x y. f (object.Page x y)) m n
put_page f a b v m n = put_two object_cmp object_cmp-total object_cmp-equal object.Page one_page f a b v m n

pub put_atomic : {V : Type 0} (f : QueueName → V) (a : ℕ) (v : V) (m : ℕ) → put_at queue_cmp f (Atomic a) v (Atomic m) ≡ at a v (λ n. f (Atomic n)) m
put_atomic f a v m = put_one queue_cmp queue_cmp-total queue_cmp-equal Atomic one_atomic f a v m

pub put_queue : {V : Type 0} (f : QueueName → V) (a b : ℕ) (v : V) (m n : ℕ)
    → put_at queue_cmp f (queue_of a b) v (queue_of m n) ≡ at2 a b v (λ x y. f (queue_of x y)) m n
put_queue f a b v m n = put_two queue_cmp queue_cmp-total queue_cmp-equal queue_of one_queue f a b v m n

-- ---- images

-- the image of a function with another value
pub at_image : {V W : Type 0} (g : V → W) (name : ℕ) (v : V) (w : W) (f : ℕ → V) (n : ℕ) → g v ≡ w → g (at name v f n) ≡ at name w (λ m. g (f m)) n
at_image {V} {W} g name v w f n e = on (n == name)
  where
    on : (b : Bool) → g (cond b v (f n)) ≡ cond b w (g (f n))
    on true = e
    on false = refl

pub at2_image : {V W : Type 0} (g : V → W) (a b : ℕ) (v : V) (w : W) (f : ℕ → ℕ → V) (m n : ℕ) → g v ≡ w
    → g (at2 a b v f m n) ≡ at2 a b w (λ x y. g (f x y)) m n
at2_image {V} {W} g a b v w f m n e = on ((m == a) && (n == b))
  where
    on : (c : Bool) → g (cond c v (f m n)) ≡ cond c w (g (f m n))
    on true = e
    on false = refl

-- the image of a list with one more
pub map_added : {V W : Type 0} (g : V → W) (vs : List V) (v : V) (w : W) → g v ≡ w → map g (vs ++ v ∷ []) ≡ map g vs ++ w ∷ []
map_added g vs v w e = map-append g vs (v ∷ []) ∙ ap (λ x. map g vs ++ x ∷ []) e

-- the last of the images, with one more
pub last_image : {V W : Type 0} (g : V → W) (none : W) (vs : List V) (v : V) (w : W) → g v ≡ w → last_or none (map g (vs ++ v ∷ [])) ≡ w
last_image g none vs v w e = ap (last_or none) (map_added g vs v w e) ∙ last_added none (map g vs) w

-- ---- what agrees with a function with another value

pub at2_agree : {V W : Type 0} (g : V → W) (a b : ℕ) (v : V) (f : ℕ → ℕ → V) (m n : ℕ) (w : W) → (m ≡ a → n ≡ b → w ≡ g v)
    → (((m ≡ a) × (n ≡ b) → ⊥) → w ≡ g (f m n))
    → w ≡ g (at2 a b v f m n)
at2_agree {V} {W} g a b v f m n w here there = on ((m == a) && (n == b)) refl
  where
    on : (c : Bool) → ((m == a) && (n == b)) ≡ c → w ≡ g (cond c v (f m n))
    on true e = let p = and_parts (m == a) (n == b) e in here (eqb-true m a p.0) (eqb-true n b p.1)
    on false e = there (λ p. never p.0 p.1)
      where
        never : m ≡ a → n ≡ b → ⊥
        never x y = let t : ((m == a) && (n == b)) ≡ true = and_from (m == a) (n == b) (eq-eqb m a x) (eq-eqb n b y) in let no : true ≡ false = sym t ∙ e in cc

-- where the second name is another, the function is as it was
pub at2_beside : {V : Type 0} (a b : ℕ) (v : V) (f : ℕ → ℕ → V) (m n : ℕ) → (n ≡ b → ⊥) → at2 a b v f m n ≡ f m n
at2_beside a b v f m n ne = sym (at2_agree (λ x. x) a b v f m n (f m n) (λ x y. absurd (ne y)) (λ no. refl))

pub at2_same : {V : Type 0} (a b : ℕ) (v : V) (f : ℕ → ℕ → V) (m n : ℕ) → m ≡ a → n ≡ b → at2 a b v f m n ≡ v
at2_same a b v f m n x y = sym (at2_agree (λ z. z) a b v f m n v (λ _ _. refl) (λ no. absurd (no (x, y))))

pub at2_other : {V : Type 0} (a b : ℕ) (v : V) (f : ℕ → ℕ → V) (m n : ℕ) → (m ≡ a → ⊥) → at2 a b v f m n ≡ f m n
at2_other a b v f m n ne = sym (at2_agree (λ x. x) a b v f m n (f m n) (λ x y. absurd (ne x)) (λ no. refl))

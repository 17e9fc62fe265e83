-- The objects and queues that are looked at are apart.
use Rattle.std.proofs.Common.{◌≡◌, ◌≤◌, ◌<◌, ◌+◌, ℕ, zero, suc, Bool, true, false, refl, sym, subst, ◌∙◌, arith}
use Rattle.std.specs.Prelude.{IsTrue, ◌==◌, nat_lt, nat_le}
use Rattle.std.proofs.lemmas.Bool.{leb-true, le-leb, ltb-true, lt-ltb, eqb-true, eq-eqb, and_parts, and_from}
use Rattle.std.specs.declared.cmp.Ordering.{Ordering}
use Rattle.std.specs.declared.cmp.Ordering.TheVariants.{Less, Equal, Greater}
use Rattle.std.specs.Ordering.{is_eq}
use Rattle.db_base.specs.declared.names.ObjName.{ObjName}
use Rattle.db_base.specs.declared.names.ObjName.TheVariants as object
use Rattle.db_base.specs.declared.names.QueueName.{QueueName}
use Rattle.db_base.specs.declared.names.QueueName.TheVariants.{Atomic, TreePu, PagePu}
use Rattle.cloud_trait.specs.Names.{object_cmp, queue_cmp}
use Rattle.cloud_trait.proofs.NameLemmas.{object_cmp-equal, queue_cmp-equal}
use Rattle.world_audit.specs.Counts.{queue_at}
use Rattle.dump_take.specs.Sight.{no_object, no_queue, one_object, one_queue, heads_to, root_of, roots_to, pages_to, queues_below, queues_of, queues_to}
use Rattle.dump_take.proofs.Sights.{Joins, pages_of}

equal_of : (o : Ordering) → is_eq o ≡ true → o ≡ Equal
equal_of Less h = absurd cc
equal_of Equal h = refl
equal_of Greater h = absurd cc

pub same_object : (a b : ObjName) → IsTrue (one_object a b) → a ≡ b
same_object a b h = object_cmp-equal a b (equal_of (object_cmp a b) h)

pub same_queue : (a b : QueueName) → IsTrue (one_queue a b) → a ≡ b
same_queue a b h = queue_cmp-equal a b (equal_of (queue_cmp a b) h)

-- no queue, and no object
pub no_queues : Joins no_queue no_queue no_queue
no_queues = record { left = λ k h. h; right = λ k h. h; apart = λ k h g. absurd (let e : false ≡ true = h in cc) }

pub queues_first : (q : QueueName → Bool) → Joins no_queue q q
queues_first q = record { left = λ k h. absurd (let e : false ≡ true = h in cc); right = λ k h. h; apart = λ k h g. (let e : false ≡ true = h in cc) }

pub queues_last : (q : QueueName → Bool) → Joins q no_queue q
queues_last q = record { left = λ k h. h; right = λ k h. absurd (let e : false ≡ true = h in cc); apart = λ k g h. (let e : false ≡ true = h in cc) }

pub objects_last : (o : ObjName → Bool) → Joins o no_object o
objects_last o = record { left = λ k h. h; right = λ k h. absurd (let e : false ≡ true = h in cc); apart = λ k g h. (let e : false ≡ true = h in cc) }

le_more : (c n : ℕ) → nat_le c n ≡ true → nat_le c (n + 1) ≡ true
le_more c n h = let le : c ≤ n = leb-true c n h in le-leb c (n + 1) (omega (arith, le))

le_itself : (c n : ℕ) → c ≡ n + 1 → nat_le c (n + 1) ≡ true
le_itself c n e = le-leb c (n + 1) (omega (arith, e))

le_apart : (c n : ℕ) → c ≡ n + 1 → nat_le c n ≡ true → ⊥
le_apart c n e h = let le : c ≤ n = leb-true c n h in omega (arith, e, le)

eq_is : (a b : ℕ) → (a == b) ≡ true → a ≡ b
eq_is a b h = eqb-true a b h

le_within : (c n m : ℕ) → n ≤ m → nat_le c n ≡ true → nat_le c m ≡ true
le_within c n m le h = let at : c ≤ n = leb-true c n h in le-leb c m (omega (arith, at, le))

lt_within : (c n m : ℕ) → n ≤ m → nat_lt c n ≡ true → nat_lt c m ≡ true
lt_within c n m le h = let at : c < n = ltb-true c n h in lt-ltb c m (omega (arith, at, le))

lt_itself : (n : ℕ) → nat_lt n n ≡ true → ⊥
lt_itself n h = let at : n < n = ltb-true n n h in omega (arith, at)

-- ---- heads, by client

module _ (n client : ℕ) (is : client ≡ n + 1) where
  heads_left : (k : ObjName) → IsTrue (heads_to n k) → IsTrue (heads_to (n + 1) k)
  heads_left (object.Head c) h = le_more c n h
  heads_left (object.Tree t) h = h
  heads_left (object.Page t p) h = h

  heads_right : (k : ObjName) → IsTrue (one_object (object.Head client) k) → IsTrue (heads_to (n + 1) k)
  heads_right k h = subst (λ (x : ObjName). IsTrue (heads_to (n + 1) x)) (same_object (object.Head client) k h) (le_itself client n is)

  heads_apart : (k : ObjName) → IsTrue (heads_to n k) → IsTrue (one_object (object.Head client) k) → ⊥
  heads_apart k g h = le_apart client n is (subst (λ (x : ObjName). IsTrue (heads_to n x)) (sym (same_object (object.Head client) k h)) g)

  pub heads_more : Joins (heads_to n) (one_object (object.Head client)) (heads_to (n + 1))
  heads_more = record { left = heads_left; right = heads_right; apart = heads_apart }

pub heads_within : (n m : ℕ) → n ≤ m → (k : ObjName) → IsTrue (heads_to n k) → IsTrue (heads_to m k)
heads_within n m le (object.Head c) h = le_within c n m le h
heads_within n m le (object.Tree t) h = h
heads_within n m le (object.Page t p) h = h

-- ---- the root of a tree, and its queues by page

pub root_is : (t : ℕ) (k : ObjName) → IsTrue (one_object (object.Tree t) k) → IsTrue (root_of t k)
root_is t k h = subst (λ (x : ObjName). IsTrue (root_of t x)) (same_object (object.Tree t) k h) (eq-eqb t t refl)

pub queue_in : (t n : ℕ) → IsTrue (queues_below t (n + 1) (queue_at t n))
queue_in t zero = and_from (t == t) true (eq-eqb t t refl) refl
queue_in t (suc n) = and_from (t == t) (nat_lt (suc n) (suc n + 1)) (eq-eqb t t refl) (lt-ltb (suc n) (suc n + 1) (omega arith))

pub queue_new : (t n : ℕ) → IsTrue (queues_below t n (queue_at t n)) → ⊥
queue_new t zero h = lt_itself 0 (and_parts (t == t) (nat_lt 0 0) h).1
queue_new t (suc n) h = lt_itself (suc n) (and_parts (t == t) (nat_lt (suc n) (suc n)) h).1

pub queues_within : (t n m : ℕ) → n ≤ m → (k : QueueName) → IsTrue (queues_below t n k) → IsTrue (queues_below t m k)
queues_within t n m le (Atomic c) h = h
queues_within t n m le (TreePu tree) h =
    let p = and_parts (tree == t) (nat_lt 0 n) h in and_from (tree == t) (nat_lt 0 m) p.0 (lt_within 0 n m le p.1)
queues_within t n m le (PagePu tree page) h =
    let p = and_parts (tree == t) (nat_lt page n) h in and_from (tree == t) (nat_lt page m) p.0 (lt_within page n m le p.1)

pub queues_more : (t n : ℕ) → Joins (queues_below t n) (one_queue (queue_at t n)) (queues_below t (n + 1))
queues_more t n = record {
  left = queues_within t n (n + 1) (omega arith);
  right = λ k h. subst (λ (x : QueueName). IsTrue (queues_below t (n + 1) x)) (same_queue (queue_at t n) k h) (queue_in t n);
  apart = λ k g h. queue_new t n (subst (λ (x : QueueName). IsTrue (queues_below t n x)) (sym (same_queue (queue_at t n) k h)) g);
}

pub queues_all : (t n : ℕ) (k : QueueName) → IsTrue (queues_below t n k) → IsTrue (queues_of t k)
queues_all t n (Atomic c) h = h
queues_all t n (TreePu tree) h = (and_parts (tree == t) (nat_lt 0 n) h).0
queues_all t n (PagePu tree page) h = (and_parts (tree == t) (nat_lt page n) h).0

-- ---- roots and queues, by tree

module _ (n tree : ℕ) (is : tree ≡ n + 1) where
  roots_left : (k : ObjName) → IsTrue (roots_to n k) → IsTrue (roots_to (n + 1) k)
  roots_left (object.Head c) h = h
  roots_left (object.Tree t) h = le_more t n h
  roots_left (object.Page t p) h = h

  roots_right : (k : ObjName) → IsTrue (root_of tree k) → IsTrue (roots_to (n + 1) k)
  roots_right (object.Head c) h = h
  roots_right (object.Tree t) h = le_itself t n (eq_is t tree h ∙ is)
  roots_right (object.Page t p) h = h

  roots_apart : (k : ObjName) → IsTrue (roots_to n k) → IsTrue (root_of tree k) → ⊥
  roots_apart (object.Head c) g h = let e : false ≡ true = h in cc
  roots_apart (object.Tree t) g h = le_apart t n (eq_is t tree h ∙ is) g
  roots_apart (object.Page t p) g h = let e : false ≡ true = h in cc

  pub roots_more : Joins (roots_to n) (root_of tree) (roots_to (n + 1))
  roots_more = record { left = roots_left; right = roots_right; apart = roots_apart }

  trees_left : (k : QueueName) → IsTrue (queues_to n k) → IsTrue (queues_to (n + 1) k)
  trees_left (Atomic c) h = h
  trees_left (TreePu t) h = le_more t n h
  trees_left (PagePu t p) h = le_more t n h

  trees_right : (k : QueueName) → IsTrue (queues_of tree k) → IsTrue (queues_to (n + 1) k)
  trees_right (Atomic c) h = h
  trees_right (TreePu t) h = le_itself t n (eq_is t tree h ∙ is)
  trees_right (PagePu t p) h = le_itself t n (eq_is t tree h ∙ is)

  trees_apart : (k : QueueName) → IsTrue (queues_to n k) → IsTrue (queues_of tree k) → ⊥
  trees_apart (Atomic c) g h = let e : false ≡ true = h in cc
  trees_apart (TreePu t) g h = le_apart t n (eq_is t tree h ∙ is) g
  trees_apart (PagePu t p) g h = le_apart t n (eq_is t tree h ∙ is) g

  pub trees_more : Joins (queues_to n) (queues_of tree) (queues_to (n + 1))
  trees_more = record { left = trees_left; right = trees_right; apart = trees_apart }

  pages_left : (k : ObjName) → IsTrue (pages_to n k) → IsTrue (pages_to (n + 1) k)
  pages_left (object.Head c) h = h
  pages_left (object.Tree t) h = h
  pages_left (object.Page t p) h = le_more t n h

  pages_right : (k : ObjName) → IsTrue (pages_of tree k) → IsTrue (pages_to (n + 1) k)
  pages_right (object.Head c) h = h
  pages_right (object.Tree t) h = h
  pages_right (object.Page t p) h = le_itself t n (eq_is t tree h ∙ is)

  pages_apart : (k : ObjName) → IsTrue (pages_to n k) → IsTrue (pages_of tree k) → ⊥
  pages_apart (object.Head c) g h = let e : false ≡ true = h in cc
  pages_apart (object.Tree t) g h = let e : false ≡ true = h in cc
  pages_apart (object.Page t p) g h = le_apart t n (eq_is t tree h ∙ is) g

  pub pages_more : Joins (pages_to n) (pages_of tree) (pages_to (n + 1))
  pages_more = record { left = pages_left; right = pages_right; apart = pages_apart }

pub roots_within : (n m : ℕ) → n ≤ m → (k : ObjName) → IsTrue (roots_to n k) → IsTrue (roots_to m k)
roots_within n m le (object.Head c) h = h
roots_within n m le (object.Tree t) h = le_within t n m le h
roots_within n m le (object.Page t p) h = h

pub trees_within : (n m : ℕ) → n ≤ m → (k : QueueName) → IsTrue (queues_to n k) → IsTrue (queues_to m k)
trees_within n m le (Atomic c) h = h
trees_within n m le (TreePu t) h = le_within t n m le h
trees_within n m le (PagePu t p) h = le_within t n m le h

pub pages_within : (n m : ℕ) → n ≤ m → (k : ObjName) → IsTrue (pages_to n k) → IsTrue (pages_to m k)
pages_within n m le (object.Head c) h = h
pages_within n m le (object.Tree t) h = h
pages_within n m le (object.Page t p) h = le_within t n m le h

-- ---- the parts of a taking

-- heads and roots
abbrev pub heads_and_roots : ObjName → Bool
heads_and_roots (object.Head client) = nat_le client 64
heads_and_roots (object.Tree tree) = nat_le tree 16
heads_and_roots (object.Page tree page) = false

-- and pages
abbrev pub all_objects : ObjName → Bool
all_objects (object.Head client) = nat_le client 64
all_objects (object.Tree tree) = nat_le tree 16
all_objects (object.Page tree page) = nat_le tree 16

heads_in : (k : ObjName) → IsTrue (heads_to 64 k) → IsTrue (heads_and_roots k)
heads_in (object.Head c) h = h
heads_in (object.Tree t) h = absurd (let e : false ≡ true = h in cc)
heads_in (object.Page t p) h = h

roots_in : (k : ObjName) → IsTrue (roots_to 16 k) → IsTrue (heads_and_roots k)
roots_in (object.Head c) h = absurd (let e : false ≡ true = h in cc)
roots_in (object.Tree t) h = h
roots_in (object.Page t p) h = h

heads_no_roots : (k : ObjName) → IsTrue (heads_to 64 k) → IsTrue (roots_to 16 k) → ⊥
heads_no_roots (object.Head c) g h = let e : false ≡ true = h in cc
heads_no_roots (object.Tree t) g h = let e : false ≡ true = g in cc
heads_no_roots (object.Page t p) g h = let e : false ≡ true = g in cc

pub heads_roots : Joins (heads_to 64) (roots_to 16) heads_and_roots
heads_roots = record { left = heads_in; right = roots_in; apart = heads_no_roots }

first_in : (k : ObjName) → IsTrue (heads_and_roots k) → IsTrue (all_objects k)
first_in (object.Head c) h = h
first_in (object.Tree t) h = h
first_in (object.Page t p) h = absurd (let e : false ≡ true = h in cc)

pages_in : (k : ObjName) → IsTrue (pages_to 16 k) → IsTrue (all_objects k)
pages_in (object.Head c) h = absurd (let e : false ≡ true = h in cc)
pages_in (object.Tree t) h = absurd (let e : false ≡ true = h in cc)
pages_in (object.Page t p) h = h

first_no_pages : (k : ObjName) → IsTrue (heads_and_roots k) → IsTrue (pages_to 16 k) → ⊥
first_no_pages (object.Head c) g h = let e : false ≡ true = h in cc
first_no_pages (object.Tree t) g h = let e : false ≡ true = h in cc
first_no_pages (object.Page t p) g h = let e : false ≡ true = g in cc

pub first_pages : Joins heads_and_roots (pages_to 16) all_objects
first_pages = record { left = first_in; right = pages_in; apart = first_no_pages }

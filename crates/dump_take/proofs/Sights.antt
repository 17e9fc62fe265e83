-- What looks show, one after another and together.
use Rattle.std.proofs.Common.{◌≡◌, ◌+◌, ℕ, zero, suc, List, [], ◌∷◌, length, Option, Some, None, Bool, true, false, refl, sym, ap, subst, ◌∙◌, inl, inr}
use Rattle.std.specs.Prelude.{IsTrue, if◌then◌else◌, ◌==◌}
use Rattle.std.specs.Ordering.{is_eq}
use Rattle.std.proofs.lemmas.Bool.{eq-eqb}
use Rattle.std.proofs.lemmas.Cmp.{tied_itself}
use Rattle.db_base.specs.declared.names.ObjName.{ObjName}
use Rattle.db_base.specs.declared.names.ObjName.TheVariants as object
use Rattle.db_base.specs.declared.names.QueueName.{QueueName}
use Rattle.db_base.specs.declared.wish.Wish.TheVariants.{Plain}
use Rattle.cloud_trait.specs.Bench.{IsShown}
use Rattle.cloud_trait.specs.Delivery.{unmarked, unmarked_from}
use Rattle.cloud_trait.specs.Seen.{Seen, Showing}
use Rattle.cloud_trait.specs.State.{CloudState, newest, newest_of, never_taken}
use Rattle.cloud_trait.specs.declared.state.Posted.{Posted}
use Rattle.cloud_trait.specs.declared.state.Version.{Version}
use Rattle.cloud_trait.proofs.NameLemmas.{object_cmp-total, queue_cmp-total}
use Rattle.world_audit.specs.Finding.{IsSeenBy, Shown}
use Rattle.world_audit.specs.Look.{Looked}
use Rattle.dump_take.specs.Sight.{Sees, AreShown, AreCounted, no_object, no_queue, one_object, one_queue}

-- ---- what looks show

-- what holds of each state
pub sees_always : (before : Seen) (o : ObjName → Bool) (q : QueueName → Bool) (Holds : CloudState → Type 0) → ((s : CloudState) → Holds s) → Sees before o q Holds
sees_always before o q Holds holds = record {
  versions = λ name. None;
  counts = λ queue. 0;
  told = λ s e. holds s;
  shown = λ s e c. holds s;
  looks = λ s v c. holds s;
}

-- what follows from what they show
pub sees_so : (before : Seen) (o : ObjName → Bool) (q : QueueName → Bool) (Holds Next : CloudState → Type 0) → ((s : CloudState) → Holds s → Next s) → Sees before o q Holds → Sees before o q Next
sees_so before o q Holds Next so h = record {
  versions = h.versions;
  counts = h.counts;
  told = λ s e. so s (h.told s e);
  shown = λ s e c. so s (h.shown s e c);
  looks = λ s v c. so s (h.looks s v c);
}

-- what later looks show
pub sees_behind : (before mid : Seen) (o : ObjName → Bool) (q : QueueName → Bool) (Holds : CloudState → Type 0) → Looked before mid → Sees mid o q Holds → Sees before o q Holds
sees_behind before mid o q Holds behind h = record {
  versions = h.versions;
  counts = h.counts;
  told = λ s e. h.told s (behind.stays s e);
  shown = λ s e c. h.shown s (e.0, behind.shown ∙ e.1, e.2) c;
  looks = h.looks;
}

-- what they show where more is looked at
pub sees_wider : (before : Seen) (o wide : ObjName → Bool) (q more : QueueName → Bool) (Holds : CloudState → Type 0)
    → ((name : ObjName) → IsTrue (o name) → IsTrue (wide name)) → ((queue : QueueName) → IsTrue (q queue) → IsTrue (more queue))
    → Sees before o q Holds → Sees before wide more Holds
sees_wider before o wide q more Holds os qs h = record {
  versions = h.versions;
  counts = h.counts;
  told = h.told;
  shown = λ s e c. h.shown s e (λ queue i. c queue (qs queue i));
  looks = λ s v c. h.looks s (λ name i. v name (os name i)) (λ queue i. c queue (qs queue i));
}

-- two sets apart, and one that has both
pub record Joins {K : Type 0} (a b both : K → Bool) : Type 0 where
  pub left : (k : K) → IsTrue (a k) → IsTrue (both k)
  pub right : (k : K) → IsTrue (b k) → IsTrue (both k)
  pub apart : (k : K) → IsTrue (a k) → IsTrue (b k) → ⊥

module _ {K V : Type 0} (first : K → Bool) (f g : K → V) where
  abbrev either : K → V
  either k = if first k then f k else g k

  either_first : (k : K) → IsTrue (first k) → either k ≡ f k
  either_first k e = rw e refl

  either_other : (k : K) → (IsTrue (first k) → ⊥) → either k ≡ g k
  either_other k other = on (first k) refl
    where
      on : (c : Bool) → first k ≡ c → (if c then f k else g k) ≡ g k
      on true e = absurd (other e)
      on false e = refl

-- looks at other objects and queues show more
pub sees_both : (before : Seen) (a b o : ObjName → Bool) (p q r : QueueName → Bool) (Holds More : CloudState → Type 0)
    → Joins a b o → Joins p q r → Sees before a p Holds → Sees before b q More → Sees before o r (λ s. Holds s × More s)
sees_both before a b o p q r Holds More os qs x y = record {
  versions = either a x.versions y.versions;
  counts = either p x.counts y.counts;
  told = λ s e. (x.told s e, y.told s e);
  shown = λ s e c. (x.shown s e (left_count s c), y.shown s e (right_count s c));
  looks = λ s v c. (x.looks s (left_shown s v) (left_count s c), y.looks s (right_shown s v) (right_count s c));
}
  where
    left_count : (s : CloudState) → AreCounted r (either p x.counts y.counts) s → AreCounted p x.counts s
    left_count s c queue i = c queue (qs.left queue i) ∙ either_first p x.counts y.counts queue i

    right_count : (s : CloudState) → AreCounted r (either p x.counts y.counts) s → AreCounted q y.counts s
    right_count s c queue i = c queue (qs.right queue i) ∙ either_other p x.counts y.counts queue (λ h. qs.apart queue h i)

    left_shown : (s : CloudState) → AreShown o (either a x.versions y.versions) s → AreShown a x.versions s
    left_shown s v name i = v name (os.left name i) ∙ either_first a x.versions y.versions name i

    right_shown : (s : CloudState) → AreShown o (either a x.versions y.versions) s → AreShown b y.versions s
    right_shown s v name i = v name (os.right name i) ∙ either_other a x.versions y.versions name (λ h. os.apart name h i)

-- ---- one look

object_itself : (name : ObjName) → IsTrue (one_object name name)
object_itself name = ap is_eq (tied_itself object_cmp-total name)

queue_itself : (queue : QueueName) → IsTrue (one_queue queue queue)
queue_itself queue = ap is_eq (tied_itself queue_cmp-total queue)

pub sees_object : (before : Seen) (name : ObjName) (bytes : Option (List ℕ)) → ((x : CloudState) → before.state ≡ Some x → bytes ≡ newest x name) → IsShown before name bytes
    → Sees before (one_object name) no_queue (λ s. bytes ≡ newest s name)
sees_object before name bytes told shown = record {
  versions = λ other. bytes;
  counts = λ queue. 0;
  told = told;
  shown = λ s e c. shown e.0 e.1 ∙ sym (e.2 name);
  looks = λ s v c. sym (v name (object_itself name));
}

pub sees_queue : (before : Seen) (queue : QueueName) (n : ℕ) → ((x : CloudState) → before.state ≡ Some x → n ≡ length (unmarked (x.messages queue)))
    → Sees before no_object (one_queue queue) (λ s. n ≡ length (unmarked (s.messages queue)))
sees_queue before queue n told = record {
  versions = λ name. None;
  counts = λ other. n;
  told = told;
  shown = λ s e c. sym (c queue (queue_itself queue));
  looks = λ s v c. sym (c queue (queue_itself queue));
}

-- and behind other looks
pub object_behind : (before mid : Seen) (name : ObjName) (bytes : Option (List ℕ)) → Looked before mid → ((x : CloudState) → mid.state ≡ Some x → bytes ≡ newest x name) → IsShown mid name bytes
    → Sees before (one_object name) no_queue (λ s. bytes ≡ newest s name)
object_behind before mid name bytes behind told shown =
    sees_behind before mid (one_object name) no_queue (λ s. bytes ≡ newest s name) behind (sees_object mid name bytes told shown)

pub queue_behind : (before mid : Seen) (queue other : QueueName) (Holds : QueueName → CloudState → Type 0) → Looked before mid → queue ≡ other
    → Sees mid no_object (one_queue queue) (Holds queue) → Sees before no_object (one_queue other) (Holds other)
queue_behind before mid queue other Holds behind is h =
    subst (λ (x : QueueName). Sees before no_object (one_queue x) (Holds x)) is (sees_behind before mid no_object (one_queue queue) (Holds queue) behind h)

-- the pages of a tree
abbrev pub pages_of : ℕ → ObjName → Bool
pages_of t (object.Head client) = false
pages_of t (object.Tree tree) = false
pages_of t (object.Page tree page) = tree == t

page_looks : (ℕ → Option (List ℕ)) → ObjName → Option (List ℕ)
page_looks looks (object.Head client) = None
page_looks looks (object.Tree tree) = None
page_looks looks (object.Page tree page) = looks page

pub sees_pages : (before : Seen) (tree : ℕ) (Holds : CloudState → Type 0) → Shown before (object.Page tree) Holds → Sees before (pages_of tree) no_queue Holds
unfolding page_looks
sees_pages before tree Holds h = record {
  versions = page_looks h.looks;
  counts = λ queue. 0;
  told = λ s e. h.told s (inl e);
  shown = λ s e c. h.told s (inr e);
  looks = λ s v c. h.shown s (λ page. v (object.Page tree page) (eq-eqb tree tree refl));
}

-- ---- a state that looks show

version_of : Option (List ℕ) → List Version
version_of None = []
version_of (Some bytes) = record { who = record { session = 0; event = 0 }; bytes = Some bytes } ∷ []

newest_is : (bytes : Option (List ℕ)) → newest_of (version_of bytes) ≡ bytes
unfolding version_of
newest_is None = refl
newest_is (Some bytes) = refl

posts : ℕ → List Posted
posts zero = []
posts (suc n) = record { who = record { session = 0; event = 0 }; bytes = []; deleted = false } ∷ posts n

posts_count : (n from : ℕ) → length (unmarked_from from (posts n)) ≡ n
unfolding posts
posts_count zero from = refl
posts_count (suc n) from = ap suc (posts_count n (from + 1))

-- a state with these newest versions, and with so many messages
abbrev with_looks : Showing → (QueueName → ℕ) → CloudState
with_looks shown counts = record {
  versions = λ name. version_of (shown name);
  messages = λ queue. posts (counts queue);
  locks = λ lock. never_taken;
  now = 0;
  waits = 0;
  trace = [];
  wish = Plain;
  last = None;
}

-- what looks show holds of some state: of the told one where one is told, and else of one whose newest versions are what the cloud tells that looks show
pub record Found (before : Seen) (Holds : CloudState → Type 0) : Type 0 where
  pub state : CloudState
  pub told : (s : CloudState) → before.state ≡ Some s → state ≡ s
  pub shown : (shown : Showing) → before.state ≡ None → before.shown ≡ Some shown → IsSeenBy shown state
  pub holds : Holds state

same : (p q : Showing) → (let o : Option Showing = Some p in o ≡ Some q) → p ≡ q
same p q e = cc

pub found : (before : Seen) (o : ObjName → Bool) (q : QueueName → Bool) (Holds : CloudState → Type 0) → Sees before o q Holds → Found before Holds
found before o q Holds h = on before.state refl
  where
    counted : (shown : Showing) → AreCounted q h.counts (with_looks shown h.counts)
    counted shown queue i = posts_count (h.counts queue) 1

    untold : before.state ≡ None → (p : Option Showing) → before.shown ≡ p → Found before Holds
    untold none (Some p) is =
        let s : CloudState = with_looks p h.counts in
        let seen : IsSeenBy p s = λ name. newest_is (p name) in
        record {
          state = s;
          told = λ x e. (let never : None ≡ Some x = sym none ∙ e in cc);
          shown = λ k n e. (let both : Some p ≡ Some k = sym is ∙ e in subst (λ (x : Showing). IsSeenBy x s) (same p k both) seen);
          holds = h.shown s (p, is, seen) (counted p);
        }
    untold none None is = let s : CloudState = with_looks h.versions h.counts in record {
      state = s;
      told = λ x e. (let never : None ≡ Some x = sym none ∙ e in cc);
      shown = λ k n e. (let never : None ≡ Some k = sym is ∙ e in cc);
      holds = h.looks s (λ name i. newest_is (h.versions name)) (counted h.versions);
    }

    on : (p : Option CloudState) → before.state ≡ p → Found before Holds
    on (Some s) is = record {
      state = s;
      told = λ x e. (let both : Some s ≡ Some x = sym is ∙ e in cc);
      shown = λ k n e. (let never : Some s ≡ None = sym is ∙ n in cc);
      holds = h.told s is;
    }
    on None is = untold is before.shown refl

-- Names are the same exactly where their order is Equal.
use Rattle.std.proofs.Common.{◌≡◌, ◌<◌, ℕ, refl, ap, subst, Ordering}
use Rattle.std.specs.declared.cmp.Ordering.TheVariants.{Less, Equal, Greater}
use Rattle.std.specs.Cmp.{IsTotalOrder}
use Rattle.std.specs.Ordering.{nat_cmp, ordering_then, MatchOrdering}
use Rattle.std.proofs.lemmas.Cmp.{ranked}
use Rattle.db_base.specs.declared.names.ObjName.{ObjName}
use Rattle.db_base.specs.declared.names.QueueName.{QueueName}
use Rattle.db_base.specs.declared.names.Lock.{Lock}
use Rattle.db_base.specs.declared.names.ObjName.TheVariants as object
use Rattle.db_base.specs.declared.names.QueueName.TheVariants as queue
use Rattle.db_base.specs.declared.names.Lock.TheVariants as lock
use Rattle.db_base.specs.contracts.names.ObjNameOrd.TheImpl.Laws as objects
use Rattle.db_base.specs.contracts.names.QueueNameOrd.TheImpl.Laws as queues
use Rattle.db_base.specs.contracts.names.LockOrd.TheImpl.Laws as locks
use Rattle.cloud_trait.specs.Names.{object_cmp, queue_cmp, lock_cmp}

pub nat_cmp-equal : (x y : ℕ) → nat_cmp x y ≡ Equal → x ≡ y
nat_cmp-equal x y e =
    let P : Ordering → Type 0 = λ o. MatchOrdering o (x < y) (x ≡ y) (y < x) in
    subst P e (ranked x y (nat_cmp x y) refl)

-- two parts are equal where both orders are
then-equal : (o p : Ordering) → ordering_then o p ≡ Equal → (o ≡ Equal) × (p ≡ Equal)
then-equal Less p e = absurd (cc)
then-equal Equal p e = (refl, e)
then-equal Greater p e = absurd (cc)

pub object_cmp-total : IsTotalOrder object_cmp
object_cmp-total = objects.total-law

pub queue_cmp-total : IsTotalOrder queue_cmp
queue_cmp-total = queues.total-law

pub lock_cmp-total : IsTotalOrder lock_cmp
lock_cmp-total = locks.total-law

pub object_cmp-equal : (a b : ObjName) → object_cmp a b ≡ Equal → a ≡ b
object_cmp-equal (object.Head c) (object.Head d) e = ap object.Head (nat_cmp-equal c d e)
object_cmp-equal (object.Head c) (object.Tree d) e = absurd (cc)
object_cmp-equal (object.Head c) (object.Page d q) e = absurd (cc)
object_cmp-equal (object.Tree c) (object.Head d) e = absurd (cc)
object_cmp-equal (object.Tree c) (object.Tree d) e = ap object.Tree (nat_cmp-equal c d e)
object_cmp-equal (object.Tree c) (object.Page d q) e = absurd (cc)
object_cmp-equal (object.Page c p) (object.Head d) e = absurd (cc)
object_cmp-equal (object.Page c p) (object.Tree d) e = absurd (cc)
object_cmp-equal (object.Page c p) (object.Page d q) e =
    let h = then-equal (nat_cmp c d) (nat_cmp p q) e in
    let f = nat_cmp-equal c d h.0 in
    let g = nat_cmp-equal p q h.1 in cc

pub queue_cmp-equal : (a b : QueueName) → queue_cmp a b ≡ Equal → a ≡ b
queue_cmp-equal (queue.Atomic c) (queue.Atomic d) e = ap queue.Atomic (nat_cmp-equal c d e)
queue_cmp-equal (queue.Atomic c) (queue.TreePu d) e = absurd (cc)
queue_cmp-equal (queue.Atomic c) (queue.PagePu d q) e = absurd (cc)
queue_cmp-equal (queue.TreePu c) (queue.Atomic d) e = absurd (cc)
queue_cmp-equal (queue.TreePu c) (queue.TreePu d) e = ap queue.TreePu (nat_cmp-equal c d e)
queue_cmp-equal (queue.TreePu c) (queue.PagePu d q) e = absurd (cc)
queue_cmp-equal (queue.PagePu c p) (queue.Atomic d) e = absurd (cc)
queue_cmp-equal (queue.PagePu c p) (queue.TreePu d) e = absurd (cc)
queue_cmp-equal (queue.PagePu c p) (queue.PagePu d q) e =
    let h = then-equal (nat_cmp c d) (nat_cmp p q) e in
    let f = nat_cmp-equal c d h.0 in
    let g = nat_cmp-equal p q h.1 in cc

pub lock_cmp-equal : (a b : Lock) → lock_cmp a b ≡ Equal → a ≡ b
lock_cmp-equal (lock.Client c) (lock.Client d) e = ap lock.Client (nat_cmp-equal c d e)
lock_cmp-equal (lock.Client c) (lock.Tree d) e = absurd (cc)
lock_cmp-equal (lock.Client c) (lock.Page d q) e = absurd (cc)
lock_cmp-equal (lock.Tree c) (lock.Client d) e = absurd (cc)
lock_cmp-equal (lock.Tree c) (lock.Tree d) e = ap lock.Tree (nat_cmp-equal c d e)
lock_cmp-equal (lock.Tree c) (lock.Page d q) e = absurd (cc)
lock_cmp-equal (lock.Page c p) (lock.Client d) e = absurd (cc)
lock_cmp-equal (lock.Page c p) (lock.Tree d) e = absurd (cc)
lock_cmp-equal (lock.Page c p) (lock.Page d q) e =
    let h = then-equal (nat_cmp c d) (nat_cmp p q) e in
    let f = nat_cmp-equal c d h.0 in
    let g = nat_cmp-equal p q h.1 in cc

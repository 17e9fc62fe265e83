-- When a record is under way, by its client's head.
use Rattle.std.proofs.Common.{◌≡◌, ◌<◌, inl, inr, ℕ, Bool, true, false, ◌&&◌, ◌==◌, sym, ap, ◌∙◌, arith}
use Rattle.std.proofs.lemmas.Bool.{and_parts, and_from, eq-eqb, eqb-true}
use Rattle.head_codec.specs.declared.head.Head.{Head}
use Rattle.head_codec.specs.declared.head.Phase.TheVariants.{Settled, Open}
use Rattle.log_codec.specs.declared.record.AtomicRec.{AtomicRec}
use Rattle.cloud_facts.specs.Numbers.Numbers.{IsUpto}
use Rattle.cloud_facts.specs.Book.Records.{is_open, is_of_head}

-- a head is open, and the record is of its epoch and transaction
abbrev pub is_way : Head → AtomicRec → Bool
is_way h r = is_open h.phase && is_of_head h r

-- a settled head has none under way
pub settled_way : (h : Head) (r : AtomicRec) → h.phase ≡ Settled → is_way h r ≡ true → ⊥
settled_way h r settled way =
    let e : is_open h.phase ≡ true = (and_parts (is_open h.phase) (is_of_head h r) way).0 in
    let f : is_open h.phase ≡ false = ap is_open settled in
    never (sym e ∙ f)
  where
    never : true ≡ false → ⊥
    never e = cc

-- an open head has those of its epoch and transaction
pub open_way : (h : Head) (r : AtomicRec) (count : ℕ) → h.phase ≡ Open count → r.epoch ≡ h.epoch → r.txn ≡ h.txn → is_way h r ≡ true
open_way h r count opens epoch txn =
    let e : is_open h.phase ≡ true = ap is_open opens in
    and_from (is_open h.phase) (is_of_head h r) e (and_from (r.epoch == h.epoch) (r.txn == h.txn) (eq-eqb r.epoch h.epoch epoch) (eq-eqb r.txn h.txn txn))

pub way_epoch : (h : Head) (r : AtomicRec) → is_way h r ≡ true → r.epoch ≡ h.epoch
way_epoch h r way = eqb-true r.epoch h.epoch (and_parts (r.epoch == h.epoch) (r.txn == h.txn) (and_parts (is_open h.phase) (is_of_head h r) way).1).0

pub way_txn : (h : Head) (r : AtomicRec) → is_way h r ≡ true → r.txn ≡ h.txn
way_txn h r way = eqb-true r.txn h.txn (and_parts (r.epoch == h.epoch) (r.txn == h.txn) (and_parts (is_open h.phase) (is_of_head h r) way).1).1

-- a record up to a head is not of a later transaction of its epoch
pub upto_earlier : (before head : Head) (r : AtomicRec) → IsUpto before r → head.epoch ≡ before.epoch → before.txn < head.txn → r.epoch ≡ head.epoch → r.txn ≡ head.txn → ⊥
upto_earlier before head r (inl e) same later epoch txn = omega (arith, e, same, epoch)
upto_earlier before head r (inr p) same later epoch txn = omega (arith, p.1, later, txn)

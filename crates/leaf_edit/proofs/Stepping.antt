-- One step of the merge.
use Rattle.std.proofs.Common.{◌≡◌, ℕ, ◌+◌, ◌<◌, true, List, [], ◌∷◌, ◌++◌, length, Option, Some, None, refl, sym, ap, subst, ◌∙◌, arith}
use Rattle.std.specs.Option.{IfSome, option_to_list}
use Rattle.std.specs.declared.cmp.Ordering.TheVariants.{Less, Equal, Greater}
use Rattle.std.specs.Ordering.{is_lt}
use Rattle.db_base.specs.Key.{IsKey}
use Rattle.db_base.specs.Change.{key_of, act}
use Rattle.db_base.specs.Value.{Value}
use Rattle.byte_format.specs.Order.{bytes_below, bytes_cmp}
use Rattle.leaf_view.specs.Leaf.{Entry}
use Rattle.log_codec.specs.declared.record.PuItem.{PuItem}
use Rattle.leaf_edit.specs.Edited.{with_value, edited_by}
use Rattle.leaf_edit.specs.Merging.{KeyBefore, entry_at, IsValue, IsSized, AreRecords, AreChanges, AllAbove, Folds, Steps}
use Rattle.leaf_edit.proofs.Ascends.{Ascend-first, equal_same, greater_below}
use Rattle.leaf_edit.proofs.Edits.{acts, passes}
use Rattle.leaf_edit.proofs.InOrder.{above-from}

pub tail-records : (e : Entry) (es : List Entry) → AreRecords (e ∷ es) → AreRecords es
tail-records e [] h = record { ascend = tt; sized = tt }
tail-records e (f ∷ es) h = record { ascend = (tt, h.ascend.1.1); sized = h.sized.1 }

-- a record below all changes comes next
pub step-record : (e : Entry) (es : List Entry) (xs : List PuItem) → AreRecords (e ∷ es) → AreChanges xs → AllAbove e.key xs
    → Steps (e ∷ es) xs (Some e) es xs
step-record e es xs records changes above = record {
  is = passes e es xs above;
  sized = h.sized.0;
  records = tail-records e es records;
  changes = changes;
  shorter = omega arith;
}
  where
    h : AreRecords (e ∷ es)
    h = records

-- the record at the key of the first change is folded
pub step-folded : (old : Option Value) (es : List Entry) (x : PuItem) (xs : List PuItem) (new : Option Value) (rest : List PuItem)
    → AreRecords es → KeyBefore (key_of x.rec.change) es → IsKey (key_of x.rec.change)
    → Folds (key_of x.rec.change) (act old x.rec.change) xs new rest
    → Steps (with_value (key_of x.rec.change) old es) (x ∷ xs) (entry_at (key_of x.rec.change) new) es rest
step-folded old es x xs new rest records before is_key h = record {
  is = ap (λ l. edited_by l xs) (acts key old es x.rec.change refl before) ∙ (h.is es before ∙ front new);
  sized = sized new h.value;
  records = records;
  changes = h.changes;
  shorter = shorter old;
}
  where
    key : List ℕ
    key = key_of x.rec.change

    front : (new : Option Value) → edited_by (with_value key new es) rest ≡ option_to_list (entry_at key new) ++ edited_by es rest
    front None = refl
    front (Some v) = passes (record { key = key; value = v }) es rest h.above

    sized : (new : Option Value) → IfSome new IsValue → IfSome (entry_at key new) IsSized
    sized None is = tt
    sized (Some v) is = record { key = is_key; value = is }

    shorter : (old : Option Value) → length es + length rest < length (with_value key old es) + length (x ∷ xs)
    shorter None = omega (arith, h.shorter)
    shorter (Some p) = omega (arith, h.shorter)

-- a record below the first change is below them all
pub above-first : (e : Entry) (x : PuItem) (xs : List PuItem) → AreChanges (x ∷ xs) → bytes_below e.key (key_of x.rec.change) ≡ true → AllAbove e.key (x ∷ xs)
above-first e x xs h below = (below, above-from e.key (key_of x.rec.change) xs below h.rise.0)

-- ---- where the first record stands against the first change

pub tail-of : (rs : List Entry) (e : Entry) (es : List Entry) → rs ≡ e ∷ es → AreRecords rs → AreRecords es
tail-of rs e es split h = tail-records e es (subst AreRecords split h)

pub before-equal : (rs : List Entry) (e : Entry) (es : List Entry) (k k' : List ℕ) → rs ≡ e ∷ es → AreRecords rs → k' ≡ k
    → Equal ≡ bytes_cmp e.key k' → KeyBefore k es
before-equal rs e es k k' split h same is =
    let h' : AreRecords (e ∷ es) = subst AreRecords split h in
    let K : List ℕ → Type 0 = λ k. KeyBefore k es in
    subst K (equal_same e.key k' (sym is) ∙ same) (Ascend-first e es h'.ascend.1)

pub before-greater : (rs : List Entry) (e : Entry) (es : List Entry) (k k' : List ℕ) → rs ≡ e ∷ es → k' ≡ k
    → Greater ≡ bytes_cmp e.key k' → KeyBefore k rs
before-greater rs e es k k' split same is =
    let P : List Entry → Type 0 = λ rs. KeyBefore k rs in
    let K : List ℕ → Type 0 = λ k. KeyBefore k (e ∷ es) in
    subst P (sym split) (subst K same (greater_below e.key k' (sym is)))

pub steps-less : (rs : List Entry) (e : Entry) (es : List Entry) (cs : List PuItem) (x : PuItem) (xs : List PuItem) (k' : List ℕ)
    → rs ≡ e ∷ es → AreRecords rs → cs ≡ x ∷ xs → AreChanges cs → k' ≡ key_of x.rec.change → Less ≡ bytes_cmp e.key k' → Steps rs cs (Some e) es cs
steps-less rs e es cs x xs k' split h splits changes same is =
    let K : List ℕ → Type 0 = λ k. bytes_below e.key k ≡ true in
    let below : bytes_below e.key (key_of x.rec.change) ≡ true = subst K same (ap is_lt (sym is)) in
    let A : List PuItem → Type 0 = λ cs. AllAbove e.key cs in
    let P : List Entry → Type 0 = λ rs. Steps rs cs (Some e) es cs in
    subst P (sym split) (step-record e es cs (subst AreRecords split h) changes (subst A (sym splits) (above-first e x xs (subst AreChanges splits changes) below)))

pub steps-equal : (rs : List Entry) (e : Entry) (es : List Entry) (cs cs' : List PuItem) (k k' : List ℕ) (known : Option Entry) (es' : List Entry) (xs' : List PuItem)
    → rs ≡ e ∷ es → cs ≡ cs' → k' ≡ k → Equal ≡ bytes_cmp e.key k'
    → Steps (with_value k (Some e.value) es) cs' known es' xs' → Steps rs cs known es' xs'
steps-equal rs e es cs cs' k k' known es' xs' split splits same is h =
    let same' : e.key ≡ k = equal_same e.key k' (sym is) ∙ same in
    let P : List Entry → Type 0 = λ rs. Steps rs cs known es' xs' in
    let C : List PuItem → Type 0 = λ cs. Steps (with_value k (Some e.value) es) cs known es' xs' in
    subst P (ap (λ k. record { key = k; value = e.value } ∷ es) (sym same') ∙ sym split) (subst C (sym splits) h)

-- What deletions of all that a delivering receive brought leave of a queue.
use Rattle.std.proofs.Common.{◌≡◌, ◌≢◌, ◌+◌, ◌≤◌, ◌⊎◌, inl, inr, ℕ, zero, suc, Bool, true, false, cond, not, List, [], ◌∷◌, ◌++◌, length, length-append, map, take, drop, Option, Some, None, Result, Ok, Err, refl, sym, ap, subst, ◌∙◌, arith}
use Rattle.std.specs.Prelude.{◌==◌, filter, IsPermutation}
use Rattle.std.specs.List.{AllByRecursion}
use Rattle.std.proofs.lemmas.Bool.{eq-eqb, ne_eqb, le-leb}
use Rattle.std.proofs.lemmas.List.{take-append-drop, length-map}
use Rattle.std.proofs.lemmas.List.Elements.{All-from_recursion, filter-append}
use Rattle.std.proofs.lemmas.List.Sorted.{All-permutation, IsPermutation-sym, length_permutation}
use Rattle.ckpt_parts.specs.Intakes.{ids_of, items_of, item_with, with_first}
use Rattle.cloud_facts.proofs.Book.Places.{get_map}
use Rattle.cloud_facts.proofs.Chains.Names.{in_single}
use Rattle.cloud_facts.proofs.Chains.Pieces.{none_in, in_first, in_rest, in_cases, in_both}
use Rattle.cloud_facts.proofs.Copies.Tops.{top_covers}
use Rattle.cloud_facts.specs.Words.{IsClient, PuItem, Posted, Store, IsIn}
use Rattle.cloud_facts.specs.Book.Records.{Apart}
use Rattle.cloud_facts.specs.Copies.Copies.{Copies, AreItems}
use Rattle.cloud_trait.specs.Delivery.{unmarked, unmarked_from, WasSent, IsDelivering}
use Rattle.cloud_trait.specs.State.{marked}
use Rattle.cloud_trait.specs.declared.message.Message.{Message}
use Rattle.db_base.specs.Cursor.{number_of}
use Rattle.log_codec.specs.Pu.{pu_of}
use Rattle.log_codec.specs.declared.record.PuRec.{PuRec}
use Rattle.recover_run.proofs.Marks.{others, marked_leaves}
use Rattle.run_cursor.specs.Covered.{is_covered, is_seen, new_ones, covered_ids}
use Rattle.run_cursor.specs.Run.{IsRun}
use Rattle.session_facts.proofs.Machines.Runs.Received.{each_in, all_in, items_sent, item_client, new_in, covered_in}
use Rattle.session_facts.proofs.Machines.Risings.Grounds.{in_dropped}
use Rattle.session_facts.proofs.Machines.Trees.Seen.{seen_in}
use Rattle.session_facts.specs.Machines.Runs.Knows.{IsSentItem}
use Rattle.cloud_facts.proofs.Orders.Filters.{nothing_in}
use Rattle.session_facts.proofs.Machines.Folds.Cuts.{each_by}

-- ---- lists

id_in : (ms : List Message) (m : Message) → IsIn ms m → IsIn (ids_of ms) m.id
id_in [] m is = absurd (none_in m is)
id_in (x ∷ ms) m is = on (id_in ms m) (in_cases x ms m is)
  where
    on : (IsIn ms m → IsIn (ids_of ms) m.id) → (x ≡ m) ⊎ IsIn ms m → IsIn (x.id ∷ ids_of ms) m.id
    on again (inl same) = subst (λ (y : Message). IsIn (x.id ∷ ids_of ms) y.id) same (in_first x.id (ids_of ms))
    on again (inr there) = in_rest x.id (ids_of ms) m.id (again there)

id_of : (ms : List Message) (id : ℕ) → IsIn (ids_of ms) id → (m : Message) × IsIn ms m × (m.id ≡ id)
id_of [] id is = absurd (none_in id is)
id_of (x ∷ ms) id is = on (id_of ms id) (in_cases x.id (ids_of ms) id is)
  where
    on : (IsIn (ids_of ms) id → (m : Message) × IsIn ms m × (m.id ≡ id)) → (x.id ≡ id) ⊎ IsIn (ids_of ms) id → (m : Message) × IsIn (x ∷ ms) m × (m.id ≡ id)
    on again (inl same) = (x, in_first x ms, same)
    on again (inr there) = let r = again there in (r.0, in_rest x ms r.0 r.1, r.2)

-- what is in a list is in another one that has the same, in an order
moved_in : (xs ys : List Message) → IsPermutation xs ys → (m : Message) → IsIn ys m → IsIn xs m
moved_in xs ys moves m there =
    all_in (IsIn xs) ys (All-permutation (IsIn xs) xs ys moves (All-from_recursion (IsIn xs) xs (each_by (IsIn xs) xs (λ x k. k)))) m there

-- a delivering receive brings the same messages
delivered_in : (posts : List Posted) (most : ℕ) (messages : List Message) → IsDelivering posts most messages → (m : Message) → IsIn messages m
    → IsIn (take most (unmarked posts)) m
delivered_in posts most messages is m there = moved_in (take most (unmarked posts)) messages is m there

in_delivered : (posts : List Posted) (most : ℕ) (messages : List Message) → IsDelivering posts most messages → (m : Message)
    → IsIn (take most (unmarked posts)) m → IsIn messages m
in_delivered posts most messages is m there =
    moved_in messages (take most (unmarked posts)) (IsPermutation-sym (take most (unmarked posts)) messages is) m there

-- ---- messages without some ids

abbrev pub left_by : List ℕ → List Message → List Message
left_by [] ms = ms
left_by (id ∷ ids) ms = others id (left_by ids ms)

others_in : (id : ℕ) (ms : List Message) (m : Message) → IsIn (others id ms) m → IsIn ms m × (m.id ≢ id)
others_in id [] m is = absurd (none_in m is)
others_in id (x ∷ ms) m is = on (x.id == id) refl (others_in id ms m) is
  where
    far : IsIn ms m × (m.id ≢ id) → IsIn (x ∷ ms) m × (m.id ≢ id)
    far r = (in_rest x ms m r.0, r.1)

    near : (x.id == id) ≡ false → (IsIn (others id ms) m → IsIn ms m × (m.id ≢ id)) → (x ≡ m) ⊎ IsIn (others id ms) m → IsIn (x ∷ ms) m × (m.id ≢ id)
    near e again (inl same) =
        (subst (IsIn (x ∷ ms)) same (in_first x ms), λ is_id. never (sym e ∙ eq-eqb x.id id (ap (λ (y : Message). y.id) same ∙ is_id)))
      where
        never : false ≡ true → ⊥
        never f = cc
    near e again (inr there) = far (again there)

    on : (b : Bool) → (x.id == id) ≡ b → (IsIn (others id ms) m → IsIn ms m × (m.id ≢ id)) → IsIn (cond (not b) (x ∷ others id ms) (others id ms)) m
        → IsIn (x ∷ ms) m × (m.id ≢ id)
    on true e again there = far (again there)
    on false e again there = near e again (in_cases x (others id ms) m there)

others_stay : (id : ℕ) (ms : List Message) → ((m : Message) → IsIn ms m → m.id ≢ id) → others id ms ≡ ms
others_stay id [] other = refl
others_stay id (x ∷ ms) other = on (x.id == id) (ne_eqb x.id id (other x (in_first x ms))) (others_stay id ms (λ m is. other m (in_rest x ms m is)))
  where
    on : (b : Bool) → b ≡ false → others id ms ≡ ms → cond (not b) (x ∷ others id ms) (others id ms) ≡ x ∷ ms
    on true e rest = absurd (cc (e))
    on false e rest = ap (λ (l : List Message). x ∷ l) rest

left_in : (ids : List ℕ) (ms : List Message) (m : Message) → IsIn (left_by ids ms) m → IsIn ms m × (IsIn ids m.id → ⊥)
left_in [] ms m is = (is, λ there. none_in m.id there)
left_in (id ∷ ids) ms m is =
    let one = others_in id (left_by ids ms) m is in
    let rest = left_in ids ms m one.0 in
    (rest.0, λ there. on one.1 rest.1 (in_cases id ids m.id there))
  where
    on : m.id ≢ id → (IsIn ids m.id → ⊥) → (id ≡ m.id) ⊎ IsIn ids m.id → ⊥
    on other rest (inl same) = other (sym same)
    on other rest (inr there) = rest there

left_stay : (ids : List ℕ) (ms : List Message) → ((m : Message) → IsIn ms m → IsIn ids m.id → ⊥) → left_by ids ms ≡ ms
left_stay [] ms none = refl
left_stay (id ∷ ids) ms none =
    ap (others id) (left_stay ids ms (λ m is there. none m is (in_rest id ids m.id there)))
    ∙ others_stay id ms (λ m is same. none m is (subst (λ (n : ℕ). IsIn (id ∷ ids) n) (sym same) (in_first id ids)))

left_both : (ids : List ℕ) (xs ys : List Message) → left_by ids (xs ++ ys) ≡ left_by ids xs ++ left_by ids ys
left_both [] xs ys = refl
left_both (id ∷ ids) xs ys =
    ap (others id) (left_both ids xs ys) ∙ filter-append (λ (m : Message). not (m.id == id)) (left_by ids xs) (left_by ids ys)

-- ---- deletions

-- a queue where messages of these ids are deleted
abbrev pub marked_over : List Posted → List ℕ → List Posted
marked_over posts [] = posts
marked_over posts (id ∷ ids) = marked (marked_over posts ids) id

pub waiting_over : (posts : List Posted) (ids : List ℕ) → unmarked (marked_over posts ids) ≡ left_by ids (unmarked posts)
waiting_over posts [] = refl
waiting_over posts (id ∷ ids) = marked_leaves (marked_over posts ids) id ∙ ap (others id) (waiting_over posts ids)

-- ---- ids ascend

ids_from : (n : ℕ) (posts : List Posted) (id : ℕ) → IsIn (ids_of (unmarked_from n posts)) id → n ≤ id
ids_from n [] id is = absurd (none_in id is)
ids_from n (m ∷ posts) id is = on m.deleted (ids_from (n + 1) posts id) is
  where
    near : (n ≡ id) ⊎ IsIn (ids_of (unmarked_from (n + 1) posts)) id → (IsIn (ids_of (unmarked_from (n + 1) posts)) id → n + 1 ≤ id) → n ≤ id
    near (inl same) again = omega (arith, same)
    near (inr there) again = let more = again there in omega (arith, more)

    on : (b : Bool) → (IsIn (ids_of (unmarked_from (n + 1) posts)) id → n + 1 ≤ id)
        → IsIn (ids_of (cond b (unmarked_from (n + 1) posts) (record { id = n; bytes = m.bytes } ∷ unmarked_from (n + 1) posts))) id → n ≤ id
    on true again there = let more = again there in omega (arith, more)
    on false again there = near (in_cases n (ids_of (unmarked_from (n + 1) posts)) id there) again

ids_apart : (n : ℕ) (posts : List Posted) → Apart (ids_of (unmarked_from n posts))
ids_apart n [] = tt
ids_apart n (m ∷ posts) = on m.deleted (ids_apart (n + 1) posts)
  where
    on : (b : Bool) → Apart (ids_of (unmarked_from (n + 1) posts))
        → Apart (ids_of (cond b (unmarked_from (n + 1) posts) (record { id = n; bytes = m.bytes } ∷ unmarked_from (n + 1) posts)))
    on true rest = rest
    on false rest = (λ id is same. let more = ids_from (n + 1) posts id is in absurd (omega (arith, more, same)), rest)

-- ids of the first so many are not those of the others
parts_apart : (k : ℕ) (ms : List Message) → Apart (ids_of ms) → (a b : Message) → IsIn (take k ms) a → IsIn (drop k ms) b → b.id ≢ a.id
parts_apart zero ms apart a b one other = absurd (none_in a one)
parts_apart (suc k) [] apart a b one other = absurd (none_in a one)
parts_apart (suc k) (x ∷ ms) apart a b one other = on (parts_apart k ms apart.1 a b) (in_cases x (take k ms) a one)
  where
    on : (IsIn (take k ms) a → IsIn (drop k ms) b → b.id ≢ a.id) → (x ≡ a) ⊎ IsIn (take k ms) a → b.id ≢ a.id
    on again (inl same) is = apart.0 b.id (id_in ms b (in_dropped k ms b other)) (is ∙ ap (λ (y : Message). y.id) (sym same))
    on again (inr there) is = again there other is

-- ---- what a delivering receive brought is deleted

module _ (posts : List Posted) (most : ℕ) (messages : List Message) (ids : List ℕ) (delivers : IsDelivering posts most messages)
    (all : (id : ℕ) → IsIn (ids_of messages) id → IsIn ids id) (only : (id : ℕ) → IsIn ids id → IsIn (ids_of messages) id) where
  gone : left_by ids (take most (unmarked posts)) ≡ []
  gone = nothing_in (left_by ids (take most (unmarked posts)))
      (λ m is. let l = left_in ids (take most (unmarked posts)) m is in l.1 (all m.id (id_in messages m (in_delivered posts most messages delivers m l.0))))

  stay : left_by ids (drop most (unmarked posts)) ≡ drop most (unmarked posts)
  stay = left_stay ids (drop most (unmarked posts))
      (λ m is there.
      let r = id_of messages m.id (only m.id there) in
      parts_apart most (unmarked posts) (ids_apart 1 posts) r.0 m (delivered_in posts most messages delivers r.0 r.1) is (sym r.2))

  -- the others are left
  pub left_others : left_by ids (unmarked posts) ≡ drop most (unmarked posts)
  left_others =
      ap (left_by ids) (sym (take-append-drop most (unmarked posts)))
      ∙ left_both ids (take most (unmarked posts)) (drop most (unmarked posts))
      ∙ ap (λ (l : List Message). l ++ left_by ids (drop most (unmarked posts))) gone ∙ stay

  pub left_count : length (left_by ids (unmarked posts)) + length (ids_of messages) ≡ length (unmarked posts)
  left_count =
      let left = ap length left_others in
      let brought = length_permutation (take most (unmarked posts)) messages delivers in
      let told = length-map messages (λ (m : Message). m.id) in
      let both = length-append (take most (unmarked posts)) (drop most (unmarked posts)) in
      let whole = ap length (take-append-drop most (unmarked posts)) in
      omega (arith, left, brought, told, both, whole)

  pub left_kept : (m : Message) → IsIn (left_by ids (unmarked posts)) m → IsIn (unmarked posts) m × (IsIn (ids_of messages) m.id → ⊥)
  left_kept m is = let l = left_in ids (unmarked posts) m is in (l.0, λ there. l.1 (all m.id there))

-- ---- what the run of a delivering receive covers

pub item_ids : (ms : List Message) (items : List PuItem) → items_of ms ≡ Ok items → map (λ (x : PuItem). x.id) items ≡ ids_of ms
item_ids [] items e = let same : [] ≡ items = cc (e) in subst (λ (l : List PuItem). map (λ (x : PuItem). x.id) l ≡ []) same refl
item_ids (m ∷ ms) items e = on (pu_of m.bytes) (items_of ms) (item_ids ms) e
  where
    on : (o : Option PuRec) (g : Result (List PuItem) Message) → ((rest : List PuItem) → g ≡ Ok rest → map (λ (x : PuItem). x.id) rest ≡ ids_of ms)
        → with_first m o g ≡ Ok items → map (λ (x : PuItem). x.id) items ≡ m.id ∷ ids_of ms
    on None g again h = absurd (cc (h))
    on (Some rec) (Ok rest) again h =
        let same : item_with m.id rec ∷ rest ≡ items = cc (h) in
        subst (λ (l : List PuItem). map (λ (x : PuItem). x.id) l ≡ m.id ∷ ids_of ms) same (ap (λ (l : List ℕ). m.id ∷ l) (again rest refl))
    on (Some rec) (Err bad) again h = absurd (cc (h))

are_items : (ms : List Message) (items : List PuItem) → items_of ms ≡ Ok items → AreItems ms items
are_items [] items e =
    let same : [] ≡ items = cc (e) in
    subst (AreItems []) same (record { of = λ x is. absurd (none_in x is); all = λ m rec is reads. absurd (none_in m is) })
are_items (m ∷ ms) items e = on (pu_of m.bytes) refl (items_of ms) (are_items ms) e
  where
    whole : (rec : PuRec) (rest : List PuItem) → pu_of m.bytes ≡ Some rec → AreItems ms rest → AreItems (m ∷ ms) (item_with m.id rec ∷ rest)
    whole rec rest reads r = record { of = λ x is. of x (in_cases (item_with m.id rec) rest x is); all = λ n other is e. all n other e (in_cases m ms n is) }
      where
        of : (x : PuItem) → (item_with m.id rec ≡ x) ⊎ IsIn rest x → (n : Message) × IsIn (m ∷ ms) n × (pu_of n.bytes ≡ Some x.rec)
        of x (inl same) = (m, in_first m ms, reads ∙ ap (λ (y : PuItem). Some y.rec) same)
        of x (inr there) = let n = r.of x there in (n.0, in_rest m ms n.0 n.1, n.2)

        all : (n : Message) (other : PuRec) → pu_of n.bytes ≡ Some other → (m ≡ n) ⊎ IsIn ms n → (x : PuItem) × IsIn (item_with m.id rec ∷ rest) x × (x.rec ≡ other)
        all n other e (inl same) =
            let one : Some rec ≡ Some other = sym reads ∙ ap (λ (y : Message). pu_of y.bytes) same ∙ e in
            (item_with m.id rec, in_first (item_with m.id rec) rest, cc (one))
        all n other e (inr there) = let x = r.all n other there e in (x.0, in_rest (item_with m.id rec) rest x.0 x.1, x.2)

    on : (o : Option PuRec) → pu_of m.bytes ≡ o → (g : Result (List PuItem) Message) → ((rest : List PuItem) → g ≡ Ok rest → AreItems ms rest)
        → with_first m o g ≡ Ok items → AreItems (m ∷ ms) items
    on None reads g again h = absurd (cc (h))
    on (Some rec) reads (Ok rest) again h =
        let same : item_with m.id rec ∷ rest ≡ items = cc (h) in
        subst (AreItems (m ∷ ms)) same (whole rec rest reads (again rest refl))
    on (Some rec) reads (Err bad) again h = absurd (cc (h))

-- each number is among those that were seen, or among the new ones
pub new_all : (seen ns : List ℕ) (n : ℕ) → IsIn ns n → IsIn seen n ⊎ IsIn (new_ones seen ns) n
new_all seen [] n is = absurd (none_in n is)
new_all seen (x ∷ ns) n is = on (is_seen seen x) refl (new_all seen ns n) (new_all (seen ++ x ∷ []) ns n) (in_cases x ns n is)
  where
    more : (x ≡ n) ⊎ IsIn ns n → (IsIn ns n → IsIn (seen ++ x ∷ []) n ⊎ IsIn (new_ones (seen ++ x ∷ []) ns) n)
        → IsIn seen n ⊎ IsIn (x ∷ new_ones (seen ++ x ∷ []) ns) n
    more (inl same) again = inr (subst (λ (k : ℕ). IsIn (x ∷ new_ones (seen ++ x ∷ []) ns) k) same (in_first x (new_ones (seen ++ x ∷ []) ns)))
    more (inr there) again = far (again there)
      where
        near : IsIn seen n ⊎ IsIn (x ∷ []) n → IsIn seen n ⊎ IsIn (x ∷ new_ones (seen ++ x ∷ []) ns) n
        near (inl old) = inl old
        near (inr own) =
            inr (subst (λ (k : ℕ). IsIn (x ∷ new_ones (seen ++ x ∷ []) ns) k) (in_single x n own) (in_first x (new_ones (seen ++ x ∷ []) ns)))

        far : IsIn (seen ++ x ∷ []) n ⊎ IsIn (new_ones (seen ++ x ∷ []) ns) n → IsIn seen n ⊎ IsIn (x ∷ new_ones (seen ++ x ∷ []) ns) n
        far (inl old) = near (in_both seen (x ∷ []) n old)
        far (inr new) = inr (in_rest x (new_ones (seen ++ x ∷ []) ns) n new)

    on : (b : Bool) → is_seen seen x ≡ b → (IsIn ns n → IsIn seen n ⊎ IsIn (new_ones seen ns) n)
        → (IsIn ns n → IsIn (seen ++ x ∷ []) n ⊎ IsIn (new_ones (seen ++ x ∷ []) ns) n)
        → (x ≡ n) ⊎ IsIn ns n → IsIn seen n ⊎ IsIn (cond b (new_ones seen ns) (x ∷ new_ones (seen ++ x ∷ []) ns)) n
    on true e again further (inl same) = inl (subst (IsIn seen) same (seen_in seen x e))
    on true e again further (inr there) = again there
    on false e again further at = more at further

passing : (top : List (ℕ × ℕ)) (items : List PuItem) → ((x : PuItem) → IsIn items x → is_covered top x ≡ true) → filter (is_covered top) items ≡ items
passing top [] all = refl
passing top (x ∷ items) all = on (is_covered top x) (all x (in_first x items)) (passing top items (λ y is. all y (in_rest x items y is)))
  where
    on : (b : Bool) → b ≡ true → filter (is_covered top) items ≡ items → cond b (x ∷ filter (is_covered top) items) (filter (is_covered top) items) ≡ x ∷ items
    on true e rest = ap (λ (l : List PuItem). x ∷ l) rest
    on false e rest = absurd (cc (e))

module _ (st : Store) (copies : Copies st) (tree page most : ℕ) (messages : List Message) (items run : List PuItem) (from top : List (ℕ × ℕ))
    (sent : AllByRecursion (WasSent (st.tally.posts tree page)) messages) (delivers : IsDelivering (st.tally.posts tree page) most messages)
    (reads : items_of messages ≡ Ok items) (is_run : IsRun from items run top)
    (behind : (client : ℕ) → IsClient client → st.tally.cursor tree page client ≤ number_of from client) where
  each_covered : (x : PuItem) → IsIn items x → is_covered top x ≡ true
  each_covered x is =
      let sent_item = each_in (IsSentItem (st.tally.posts tree page)) items (items_sent (st.tally.posts tree page) messages items sent reads) x is in
      let client = item_client (st.tally.posts tree page) x sent_item in
      le-leb x.rec.number (number_of top x.rec.client)
      (top_covers st copies tree page x.rec.client most client messages delivers items (are_items messages items reads) (number_of from x.rec.client)
      (number_of top x.rec.client) (behind x.rec.client client) (is_run.tops x.rec.client) x is refl)

  -- each message that was received is covered
  pub all_covered : (id : ℕ) → IsIn (ids_of messages) id → IsIn (covered_ids top items) id
  all_covered id is = on (new_all [] (map (λ (x : PuItem). x.id) (filter (is_covered top) items)) id there)
    where
      there : IsIn (map (λ (x : PuItem). x.id) (filter (is_covered top) items)) id
      there =
          subst (λ (l : List ℕ). IsIn l id) (sym (ap (map (λ (x : PuItem). x.id)) (passing top items each_covered) ∙ item_ids messages items reads)) is

      on : IsIn {A = ℕ} [] id ⊎ IsIn (covered_ids top items) id → IsIn (covered_ids top items) id
      on (inl none) = absurd (none_in id none)
      on (inr covered) = covered

-- and no other
pub covered_received : (messages : List Message) (items : List PuItem) (top : List (ℕ × ℕ)) → items_of messages ≡ Ok items → (id : ℕ)
    → IsIn (covered_ids top items) id → IsIn (ids_of messages) id
covered_received messages items top reads id is =
    let x = covered_in top items id (new_in [] (map (λ (x : PuItem). x.id) (filter (is_covered top) items)) id is) in
    subst (λ (l : List ℕ). IsIn l id) (item_ids messages items reads) (item_id items x.0 id x.1 x.2)
  where
    item_id : (xs : List PuItem) (x : PuItem) (n : ℕ) → IsIn xs x → x.id ≡ n → IsIn (map (λ (y : PuItem). y.id) xs) n
    item_id xs x n there same = (there.0, get_map (λ (y : PuItem). y.id) xs there.0 x there.1 ∙ ap (λ (k : ℕ). Some k) same)

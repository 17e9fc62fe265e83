-- What one note more says of each queue.
use Rattle.std.proofs.Common.{◌≡◌, ◌+◌, ◌<◌, ℕ, suc, Bool, true, false, if◌then◌else◌, cond, ◌||◌, List, [], ◌∷◌, ◌++◌, map, Option, Some, None, Result, Ok, Err, refl, sym, ap, subst, ◌∙◌, arith}
use Rattle.std.specs.List.{AllByRecursion, count_by, fold, list_any}
use Rattle.std.specs.List.Sorted.{IsStrictlySortedBy}
use Rattle.std.specs.declared.cmp.Ordering.{Ordering}
use Rattle.std.specs.declared.cmp.Ordering.TheVariants.{Less, Equal, Greater}
use Rattle.std.specs.Cmp.{IsTotalOrder, ranks}
use Rattle.std.specs.Map.{keys_of, lookup}
use Rattle.std.specs.Option.{unwrap_or}
use Rattle.std.specs.Prelude.{OnErr}
use Rattle.ckpt_policy.specs.contracts.place.PlaceOrd.TheImpl.Laws as places
use Rattle.std.specs.Ordering.{is_eq, match_ordering, nat_cmp, ordering_reverse, ordering_then, MatchOrdering}
use Rattle.std.proofs.lemmas.List.{append_assoc, append-nil}
use Rattle.std.specs.BTreeMap.{insert_entry, is_at}
use Rattle.std.specs.BTreeSet.{insert_key}
use Rattle.ckpt_policy.specs.declared.counts.Counts.{Counts}
use Rattle.ckpt_policy.specs.declared.note.Note.{Note}
use Rattle.ckpt_policy.specs.declared.note.Note.TheVariants.{Sent, Got, Kept}
use Rattle.ckpt_policy.specs.declared.place.Place.{Place}
use Rattle.ckpt_policy.specs.Counting.{after_note, no_counts, IsFull}
use Rattle.ckpt_policy.specs.Ledger.{Account, IsNewOrFull, MayRefuse, MayRefuseAt, StandsFor}
use Rattle.ckpt_policy.specs.Notes.{behind_last, counts_at, is_got, is_here, is_kept, is_sent, known, known_with, place_cmp, place_of, queue_of, with_place}

folded : (f : Note → Bool) (n : Note) (k : ℕ) (ns : List Note) → fold (λ a x. a + cond (f x) 1 0) k (ns ++ n ∷ []) ≡ fold (λ a x. a + cond (f x) 1 0) k ns + cond (f n) 1 0
folded f n k [] = refl
folded f n k (m ∷ ms) = folded f n (k + cond (f m) 1 0) ms

counted-new : (f : Note → Bool) (n : Note) → f n ≡ true → (ns : List Note) → count_by f (ns ++ n ∷ []) ≡ suc (count_by f ns)
counted-new f n h ns = folded f n 0 ns ∙ ap (λ b. count_by f ns + cond b 1 0) h ∙ omega arith

counted-old : (f : Note → Bool) (n : Note) → f n ≡ false → (ns : List Note) → count_by f (ns ++ n ∷ []) ≡ count_by f ns
counted-old f n h ns = folded f n 0 ns ∙ ap (λ b. count_by f ns + cond b 1 0) h ∙ omega arith

or-true : (a : Bool) → a || true ≡ true
or-true true = refl
or-true false = refl

any-new : (f : Note → Bool) (n : Note) → f n ≡ true → (ns : List Note) → list_any f (ns ++ n ∷ []) ≡ true
any-new f n h [] = ap (λ b. b || false) h
any-new f n h (m ∷ ms) = ap (λ b. f m || b) (any-new f n h ms) ∙ or-true (f m)

any-old : (f : Note → Bool) (n : Note) → f n ≡ false → (ns : List Note) → list_any f (ns ++ n ∷ []) ≡ list_any f ns
any-old f n h [] = ap (λ b. b || false) h
any-old f n h (m ∷ ms) = ap (λ b. f m || b) (any-old f n h ms)

behind-new : (f : Note → Bool) (n : Note) → f n ≡ true → (ns : List Note) → behind_last f (ns ++ n ∷ []) ≡ []
behind-new f n h [] = ap (λ b. if b then [] else n ∷ []) h
behind-new f n h (m ∷ ms) =
    ap (λ b. if b then behind_last f (ms ++ n ∷ []) else (if f m then ms ++ n ∷ [] else m ∷ ms ++ n ∷ [])) (any-new f n h ms) ∙ behind-new f n h ms

behind-old : (f : Note → Bool) (n : Note) → f n ≡ false → (ns : List Note) → behind_last f (ns ++ n ∷ []) ≡ behind_last f ns ++ n ∷ []
behind-old f n h [] = ap (λ b. if b then [] else n ∷ []) h
behind-old f n h (m ∷ ms) =
    ap (λ b. if b then behind_last f (ms ++ n ∷ []) else (if f m then ms ++ n ∷ [] else m ∷ ms ++ n ∷ [])) (any-old f n h ms)
    ∙ ap (λ l. if list_any f ms then l else (if f m then ms ++ n ∷ [] else m ∷ ms ++ n ∷ [])) (behind-old f n h ms)
    ∙ outside (list_any f ms) (f m)
  where
    outside : (a b : Bool) → (if a then behind_last f ms ++ n ∷ [] else (if b then ms ++ n ∷ [] else m ∷ ms ++ n ∷ []))
        ≡ (if a then behind_last f ms else (if b then ms else m ∷ ms)) ++ n ∷ []
    outside true b = refl
    outside false true = refl
    outside false false = refl

-- a queue that the note does not name
pub counts-other : (n : Note) (p : Place) → is_here p (place_of (queue_of n)) ≡ false → (ns : List Note) → counts_at (ns ++ n ∷ []) p ≡ counts_at ns p
counts-other n p h ns = on n h
  where
    alike : (n : Note) → is_kept p n ≡ false → is_sent p n ≡ false → is_got p n ≡ false → counts_at (ns ++ n ∷ []) p ≡ counts_at ns p
    alike n k s g =
        ap (λ c. record { kept = c; sent = count_by (is_sent p) (behind_last (is_kept p) (ns ++ n ∷ [])); got = count_by (is_got p) (behind_last (is_kept p) (ns ++ n ∷ [])) }) (counted-old (is_kept p) n k ns)
        ∙ ap (λ l. record { kept = count_by (is_kept p) ns; sent = count_by (is_sent p) l; got = count_by (is_got p) l }) (behind-old (is_kept p) n k ns)
        ∙ ap (λ c. record { kept = count_by (is_kept p) ns; sent = c; got = count_by (is_got p) (behind_last (is_kept p) ns ++ n ∷ []) }) (counted-old (is_sent p) n s (behind_last (is_kept p) ns))
        ∙ ap (λ c. record { kept = count_by (is_kept p) ns; sent = count_by (is_sent p) (behind_last (is_kept p) ns); got = c }) (counted-old (is_got p) n g (behind_last (is_kept p) ns))

    on : (n : Note) → is_here p (place_of (queue_of n)) ≡ false → counts_at (ns ++ n ∷ []) p ≡ counts_at ns p
    on (Sent q) h = alike (Sent q) refl h refl
    on (Got q) h = alike (Got q) refl refl h
    on (Kept q) h = alike (Kept q) h refl refl

-- the queue that it names
pub counts-named : (n : Note) (p : Place) → is_here p (place_of (queue_of n)) ≡ true → (ns : List Note) → counts_at (ns ++ n ∷ []) p ≡ after_note (counts_at ns p) n
counts-named n p h ns = on n h
  where
    on : (n : Note) → is_here p (place_of (queue_of n)) ≡ true → counts_at (ns ++ n ∷ []) p ≡ after_note (counts_at ns p) n
    on (Sent q) h =
        ap (λ c. record { kept = c; sent = count_by (is_sent p) (behind_last (is_kept p) (ns ++ Sent q ∷ [])); got = count_by (is_got p) (behind_last (is_kept p) (ns ++ Sent q ∷ [])) }) (counted-old (is_kept p) (Sent q) refl ns)
        ∙ ap (λ l. record { kept = count_by (is_kept p) ns; sent = count_by (is_sent p) l; got = count_by (is_got p) l }) (behind-old (is_kept p) (Sent q) refl ns)
        ∙ ap (λ c. record { kept = count_by (is_kept p) ns; sent = c; got = count_by (is_got p) (behind_last (is_kept p) ns ++ Sent q ∷ []) }) (counted-new (is_sent p) (Sent q) h (behind_last (is_kept p) ns))
        ∙ ap (λ c. record { kept = count_by (is_kept p) ns; sent = suc (count_by (is_sent p) (behind_last (is_kept p) ns)); got = c }) (counted-old (is_got p) (Sent q) refl (behind_last (is_kept p) ns))
    on (Got q) h =
        ap (λ c. record { kept = c; sent = count_by (is_sent p) (behind_last (is_kept p) (ns ++ Got q ∷ [])); got = count_by (is_got p) (behind_last (is_kept p) (ns ++ Got q ∷ [])) }) (counted-old (is_kept p) (Got q) refl ns)
        ∙ ap (λ l. record { kept = count_by (is_kept p) ns; sent = count_by (is_sent p) l; got = count_by (is_got p) l }) (behind-old (is_kept p) (Got q) refl ns)
        ∙ ap (λ c. record { kept = count_by (is_kept p) ns; sent = c; got = count_by (is_got p) (behind_last (is_kept p) ns ++ Got q ∷ []) }) (counted-old (is_sent p) (Got q) refl (behind_last (is_kept p) ns))
        ∙ ap (λ c. record { kept = count_by (is_kept p) ns; sent = count_by (is_sent p) (behind_last (is_kept p) ns); got = c }) (counted-new (is_got p) (Got q) h (behind_last (is_kept p) ns))
    on (Kept q) h =
        ap (λ c. record { kept = c; sent = count_by (is_sent p) (behind_last (is_kept p) (ns ++ Kept q ∷ [])); got = count_by (is_got p) (behind_last (is_kept p) (ns ++ Kept q ∷ [])) }) (counted-new (is_kept p) (Kept q) h ns)
        ∙ ap (λ l. record { kept = suc (count_by (is_kept p) ns); sent = count_by (is_sent p) l; got = count_by (is_got p) l }) (behind-new (is_kept p) (Kept q) h ns)

-- the places known behind one note more
pub known-more : (ps : List Place) (ns : List Note) (n : Note) → known_with ps (ns ++ n ∷ []) ≡ with_place (known_with ps ns) (place_of (queue_of n))
known-more ps [] n = refl
known-more ps (m ∷ ms) n = known-more (with_place ps (place_of (queue_of m))) ms n

nat-equal : (a b : ℕ) → nat_cmp a b ≡ Equal → a ≡ b
nat-equal a b e =
    let P : Ordering → Type 0 = λ o. MatchOrdering o (a < b) (a ≡ b) (b < a) in
    subst P e (ranks a b)

both-equal : (o p : Ordering) → ordering_then o p ≡ Equal → (o ≡ Equal) × (p ≡ Equal)
both-equal Less p e = absurd (cc)
both-equal Equal p e = (refl, e)
both-equal Greater p e = absurd (cc)

-- places that compare alike are one
pub one-place : (a b : Place) → place_cmp a b ≡ Equal → a ≡ b
one-place a b e =
    let both = both-equal (nat_cmp a.tree b.tree) (nat_cmp a.page b.page) e in
    ap (λ t. record { tree = t; page = a.page }) (nat-equal a.tree b.tree both.0) ∙ ap (λ p. record { tree = b.tree; page = p }) (nat-equal a.page b.page both.1)

place_total : IsTotalOrder place_cmp
place_total = places.total-law

same-place : (p : Place) → place_cmp p p ≡ Equal
same-place p = itself (place_cmp p p) refl
  where
    itself : (o : Ordering) → place_cmp p p ≡ o → place_cmp p p ≡ Equal
    itself Less e = absurd (let t : Less ≡ Greater = sym e ∙ place_total.antisymm p p ∙ ap ordering_reverse e in cc)
    itself Equal e = e
    itself Greater e = absurd (let t : Greater ≡ Less = sym e ∙ place_total.antisymm p p ∙ ap ordering_reverse e in cc)

is-equal : (o : Ordering) → is_eq o ≡ true → o ≡ Equal
is-equal Less h = absurd (cc)
is-equal Equal h = refl
is-equal Greater h = absurd (cc)

-- a list one note longer at a time
by-end : (P : List Note → Type 0) → P [] → ((ns : List Note) (n : Note) → P ns → P (ns ++ n ∷ [])) → (ns : List Note) → P ns
by-end P none more ns = go [] ns none
  where
    go : (done left : List Note) → P done → P (done ++ left)
    go done [] h = subst P (sym (append-nil done)) h
    go done (m ∷ ms) h = subst P (append_assoc done (m ∷ []) ms) (go (done ++ m ∷ []) ms (more done m h))

-- whether the place is among these
abbrev pub is_known : Place → List Place → Bool
is_known p ps = list_any (is_at (place_cmp p)) ps

-- a place that is put in is known
put-known : (p : Place) (ps : List Place) → is_known p (insert_key place_cmp ps p) ≡ true
put-known p [] = ap (λ b. b || false) (here p)
  where
    here : (p : Place) → is_at (place_cmp p) p ≡ true
    here p = ap is_eq (same-place p)
put-known p (q ∷ qs) = on (put-known p qs) (place_cmp p q) refl
  where
    P : Ordering → Type 0
    P o = is_known p (match_ordering o (p ∷ q ∷ qs) (q ∷ qs) (q ∷ insert_key place_cmp qs p)) ≡ true

    on : is_known p (insert_key place_cmp qs p) ≡ true → (o : Ordering) → place_cmp p q ≡ o → P (place_cmp p q)
    on deep Less e = subst P (sym e) (ap (λ b. b || is_known p (q ∷ qs)) (ap is_eq (same-place p)))
    on deep Equal e = subst P (sym e) (ap (λ b. b || is_known p qs) (ap is_eq e))
    on deep Greater e = subst P (sym e) (ap (λ b. is_at (place_cmp p) q || b) deep ∙ or-true (is_at (place_cmp p) q))

-- one that is known stays so
stays-known : (p q : Place) (ps : List Place) → is_known p ps ≡ true → is_known p (insert_key place_cmp ps q) ≡ true
stays-known p q [] h = absurd (cc)
stays-known p q (x ∷ xs) h = on (λ k. stays-known p q xs k) (place_cmp q x)
  where
    P : Ordering → Type 0
    P o = is_known p (match_ordering o (q ∷ x ∷ xs) (x ∷ xs) (x ∷ insert_key place_cmp xs q)) ≡ true

    Deep : Type 0
    Deep = is_known p xs ≡ true → is_known p (insert_key place_cmp xs q) ≡ true

    deeper : Deep → (b : Bool) → is_at (place_cmp p) x ≡ b → is_known p (x ∷ insert_key place_cmp xs q) ≡ true
    deeper deep true e = ap (λ b. b || is_known p (insert_key place_cmp xs q)) e
    deeper deep false e = ap (λ b. b || is_known p (insert_key place_cmp xs q)) e ∙ deep (sym (ap (λ b. b || is_known p xs) e) ∙ h)

    on : Deep → (o : Ordering) → P o
    on deep Less = ap (λ b. is_at (place_cmp p) q || b) h ∙ or-true (is_at (place_cmp p) q)
    on deep Equal = h
    on deep Greater = deeper deep (is_at (place_cmp p) x) refl

-- a queue that no note names has no counts
pub unknown : (ns : List Note) (p : Place) → is_known p (known ns) ≡ false → counts_at ns p ≡ no_counts
unknown ns p = by-end (λ ns. is_known p (known ns) ≡ false → counts_at ns p ≡ no_counts) (λ h. refl) more ns
  where
    more : (ns : List Note) (n : Note) → (is_known p (known ns) ≡ false → counts_at ns p ≡ no_counts) → is_known p (known (ns ++ n ∷ [])) ≡ false
        → counts_at (ns ++ n ∷ []) p ≡ no_counts
    more ns n before h = at (place_of (queue_of n)) refl
      where
        away : is_here p (place_of (queue_of n)) ≡ false → is_known p (known ns) ≡ false → counts_at (ns ++ n ∷ []) p ≡ no_counts
        away other unseen = counts-other n p other ns ∙ before unseen

        rest : (b : Bool) → is_known p (known ns) ≡ b → (q : Place) → is_known p (insert_key place_cmp (known ns) q) ≡ false → is_known p (known ns) ≡ false
        rest false e q h = e
        rest true e q h = absurd (let t = sym (stays-known p q (known ns) e) ∙ h in cc)

        apart : (b : Bool) (q : Place) → is_at (place_cmp p) q ≡ b → is_known p (insert_key place_cmp (known ns) q) ≡ false → is_at (place_cmp p) q ≡ false
        apart false q e h = e
        apart true q e h = absurd (
            let same : p ≡ q = one-place p q (is-equal (place_cmp p q) e) in
            let t = sym (subst (λ x. is_known x (insert_key place_cmp (known ns) q) ≡ true) (sym same) (put-known q (known ns))) ∙ h in cc)

        at : (o : Option Place) → place_of (queue_of n) ≡ o → counts_at (ns ++ n ∷ []) p ≡ no_counts
        at None e = away (ap (is_here p) e) (sym (ap (is_known p) (known-more [] ns n ∙ ap (with_place (known ns)) e)) ∙ h)
        at (Some q) e =
            let k : is_known p (insert_key place_cmp (known ns) q) ≡ false = sym (ap (is_known p) (known-more [] ns n ∙ ap (with_place (known ns)) e)) ∙ h in
            away (ap (is_here p) e ∙ apart (is_at (place_cmp p) q) q refl k) (rest (is_known p (known ns)) refl q k)

-- what a lookup finds of a place
pub looked : (h : Place → Counts) (p : Place) (ps : List Place)
    → unwrap_or (lookup (is_at (place_cmp p)) (map (λ q. (q, h q)) ps)) no_counts ≡ (if is_known p ps then h p else no_counts)
looked h p [] = refl
looked h p (q ∷ qs) = on (looked h p qs) (is_at (place_cmp p) q) refl
  where
    Finds : Bool → List Place → Type 0
    Finds b ps = unwrap_or (lookup (is_at (place_cmp p)) (map (λ q. (q, h q)) ps)) no_counts ≡ (if b then h p else no_counts)

    P : Bool → Type 0
    P b = unwrap_or (cond b (Some (h q)) (lookup (is_at (place_cmp p)) (map (λ q. (q, h q)) qs))) no_counts ≡ (if b || is_known p qs then h p else no_counts)

    on : Finds (is_known p qs) qs → (b : Bool) → is_at (place_cmp p) q ≡ b → P (is_at (place_cmp p) q)
    on deep true e = subst P (sym e) (ap h (sym (one-place p q (is-equal (place_cmp p q) e))))
    on deep false e = subst P (sym e) deep

-- counts by place, with new ones at one place
pub put : (f g : Place → Counts) (p : Place) → ((q : Place) → is_at (place_cmp p) q ≡ false → f q ≡ g q) → (ps : List Place) → IsStrictlySortedBy place_cmp ps
    → insert_entry place_cmp (map {B = Place × Counts} (λ q. (q, f q)) ps) p (g p) ≡ map {B = Place × Counts} (λ q. (q, g q)) (insert_key place_cmp ps p)
unfolding IsStrictlySortedBy
put f g p same [] s = refl
put f g p same (q ∷ qs) s = on (put f g p same qs s.1) (place_cmp p q) refl
  where
    P : Ordering → Type 0
    P o = match_ordering o ((p, g p) ∷ (q, f q) ∷ map {B = Place × Counts} (λ q. (q, f q)) qs) ((q, g p) ∷ map {B = Place × Counts} (λ q. (q, f q)) qs) ((q, f q) ∷ insert_entry place_cmp (map {B = Place × Counts} (λ q. (q, f q)) qs) p (g p))
        ≡ map {B = Place × Counts} (λ q. (q, g q)) (match_ordering o (p ∷ q ∷ qs) (q ∷ qs) (q ∷ insert_key place_cmp qs p))

    one : (o : Ordering) → place_cmp p q ≡ o → is_eq o ≡ false → f q ≡ g q
    one o e h = same q (ap is_eq e ∙ h)

    above : (xs : List Place) → AllByRecursion (λ x. place_cmp p x ≡ Less) xs → map {B = Place × Counts} (λ q. (q, f q)) xs ≡ map {B = Place × Counts} (λ q. (q, g q)) xs
    above [] h = refl
    above (x ∷ xs) h = ap (λ c. (x, c) ∷ map {B = Place × Counts} (λ q. (q, f q)) xs) (same x (ap is_eq h.0)) ∙ ap (λ l. (x, g x) ∷ l) (above xs h.1)

    behind : (xs : List Place) → AllByRecursion (λ x. place_cmp q x ≡ Less) xs → place_cmp p q ≡ Less → AllByRecursion (λ x. place_cmp p x ≡ Less) xs
    behind [] h e = tt
    behind (x ∷ xs) h e = (place_total.trans p q x e h.0, behind xs h.1 e)

    Deep : Type 0
    Deep = insert_entry place_cmp (map {B = Place × Counts} (λ q. (q, f q)) qs) p (g p) ≡ map {B = Place × Counts} (λ q. (q, g q)) (insert_key place_cmp qs p)

    on : Deep → (o : Ordering) → place_cmp p q ≡ o → P (place_cmp p q)
    on deep Less e = subst P (sym e) (
        ap (λ c. (p, g p) ∷ (q, c) ∷ map {B = Place × Counts} (λ q. (q, f q)) qs) (one Less e refl) ∙ ap (λ l. (p, g p) ∷ (q, g q) ∷ l) (above qs (behind qs s.0 e)))
    on deep Equal e = subst P (sym e) (
        let is : p ≡ q = one-place p q e in
        ap (λ x. (q, g x) ∷ map {B = Place × Counts} (λ q. (q, f q)) qs) is
        ∙ ap (λ l. (q, g q) ∷ l) (above qs (subst (λ x. AllByRecursion (λ y. place_cmp x y ≡ Less) qs) (sym is) s.0)))
    on deep Greater e = subst P (sym e) (
        ap (λ c. (q, c) ∷ insert_entry place_cmp (map {B = Place × Counts} (λ q. (q, f q)) qs) p (g p)) (one Greater e refl) ∙ ap (λ l. (q, g q) ∷ l) deep)

abbrev counted : List Note → List (Place × Counts)
counted ns = map (λ q. (q, counts_at ns q)) (known ns)

alike : (f g : Place → Counts) → ((q : Place) → f q ≡ g q) → (ps : List Place) → map {B = Place × Counts} (λ q. (q, f q)) ps ≡ map (λ q. (q, g q)) ps
alike f g h [] = refl
alike f g h (q ∷ qs) = ap (λ c. (q, c) ∷ map (λ q. (q, f q)) qs) (h q) ∙ ap (λ l. (q, g q) ∷ l) (alike f g h qs)

-- a note of a queue that is no pending update queue
pub stands-aside : (account : Account) (n : Note) → place_of (queue_of n) ≡ None → (ns : List Note) → StandsFor account ns → StandsFor account (ns ++ n ∷ [])
stands-aside account n e ns h =
    h ∙ alike (counts_at ns) (counts_at (ns ++ n ∷ [])) (λ q. sym (counts-other n q (ap (is_here q) e) ns)) (known ns)
    ∙ ap (map (λ q. (q, counts_at (ns ++ n ∷ []) q))) (sym (known-more [] ns n ∙ ap (with_place (known ns)) e))

-- a note of the queue at a place, whose counts are written behind those that were there
pub stands-on : (old new : Account) (n : Note) (p : Place) → place_of (queue_of n) ≡ Some p → IsStrictlySortedBy place_cmp (keys_of old.counts)
    → new.counts ≡ insert_entry place_cmp old.counts p (after_note (unwrap_or (lookup (is_at (place_cmp p)) old.counts) no_counts) n)
    → (ns : List Note) → StandsFor old ns → StandsFor new (ns ++ n ∷ [])
stands-on old new n p e sorted written ns h =
    written ∙ ap (λ es. insert_entry place_cmp es p (after_note (unwrap_or (lookup (is_at (place_cmp p)) es) no_counts) n)) h
    ∙ ap (λ c. insert_entry place_cmp (counted ns) p (after_note c n)) (looked (counts_at ns) p (known ns) ∙ found (is_known p (known ns)) refl)
    ∙ ap (insert_entry place_cmp (counted ns) p) (sym (counts-named n p (ap (is_here p) e ∙ ap is_eq (same-place p)) ns))
    ∙ put (counts_at ns) (counts_at (ns ++ n ∷ [])) p others (known ns) (subst (IsStrictlySortedBy place_cmp) (ap keys_of h ∙ firsts (known ns)) sorted)
    ∙ ap (map (λ q. (q, counts_at (ns ++ n ∷ []) q))) (sym (known-more [] ns n ∙ ap (with_place (known ns)) e))
  where
    found : (b : Bool) → is_known p (known ns) ≡ b → (if b then counts_at ns p else no_counts) ≡ counts_at ns p
    found true k = refl
    found false k = sym (unknown ns p k)

    firsts : (ps : List Place) → keys_of (map (λ q. (q, counts_at ns q)) ps) ≡ ps
    firsts [] = refl
    firsts (q ∷ qs) = ap (λ l. q ∷ l) (firsts qs)

    others : (q : Place) → is_at (place_cmp p) q ≡ false → counts_at ns q ≡ counts_at (ns ++ n ∷ []) q
    others q h = sym (counts-other n q (ap (is_here q) e ∙ turned (place_cmp q p) (place_cmp p q) (place_total.antisymm q p) h) ns)
      where
        turned : (o r : Ordering) → o ≡ ordering_reverse r → is_eq r ≡ false → is_eq o ≡ false
        turned o Less e h = ap is_eq e
        turned o Equal e h = absurd (cc)
        turned o Greater e h = ap is_eq e

-- ---- why a note is refused

-- its count is full: that of a queue that is known
pub full-refuses : (account : Account) (n : Note) (p : Place) → place_of (queue_of n) ≡ Some p
    → IsFull (unwrap_or (lookup (is_at (place_cmp p)) account.counts) no_counts) n → MayRefuse account n
full-refuses account n p e full = subst (MayRefuseAt account n) (sym e) (on (lookup (is_at (place_cmp p)) account.counts) full)
  where
    on : (o : Option Counts) → IsFull (unwrap_or o no_counts) n → IsNewOrFull o n
    on None full = tt
    on (Some c) full = full

-- its queue is new
pub new-refuses : (account : Account) (n : Note) (p : Place) → place_of (queue_of n) ≡ Some p → lookup (is_at (place_cmp p)) account.counts ≡ None → MayRefuse account n
new-refuses account n p e none = subst (MayRefuseAt account n) (sym e) (subst (λ (o : Option Counts). IsNewOrFull o n) (sym none) tt)

-- what holds holds on an Err
pub on-err : {A E P : Type 0} (r : Result A E) → P → OnErr r P
on-err (Ok x) p = tt
on-err (Err e) p = p

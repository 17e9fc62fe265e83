-- How the bytes of the table grow.
use Rattle.std.proofs.Common.{◌≡◌, ℕ, zero, suc, ◌+◌, ◌-◌, true, false, List, [], ◌∷◌, ◌++◌, refl, sym, ap, ◌∙◌, arith, append_assoc}
use Rattle.std.specs.Prelude.{filter}
use Rattle.std.proofs.lemmas.List.{append-nil}
use Rattle.leaf_view.specs.declared.done.Done.{Done}
use Rattle.log_codec.specs.declared.record.PuItem.{PuItem}
use Rattle.leaf_edit.specs.Raised.{own_entries, raised_number, raised, with_done}
use Rattle.leaf_edit.specs.Spelled.{done_bytes, dones_before, is_beside}

-- what stands behind entries stands behind their bytes
pub dones_before-rest : (ds : List Done) (rest : List ℕ) → dones_before ds rest ≡ dones_before ds [] ++ rest
dones_before-rest [] rest = refl
dones_before-rest (d ∷ ds) rest = ap (λ l. done_bytes d ++ l) (dones_before-rest ds rest) ∙ sym (append_assoc (done_bytes d) (dones_before ds []) rest)

pub dones_before-append : (xs ys : List Done) → dones_before (xs ++ ys) [] ≡ dones_before xs [] ++ dones_before ys []
dones_before-append [] ys = refl
dones_before-append (x ∷ xs) ys = ap (λ l. done_bytes x ++ l) (dones_before-append xs ys) ∙ sym (append_assoc (done_bytes x) (dones_before xs []) (dones_before ys []))

own-more : (queue client n : ℕ) (ds : List Done) → dones_before (with_done queue client n []) [] ++ dones_before ds [] ≡ dones_before (with_done queue client n ds) []
own-more queue client zero ds = refl
own-more queue client (suc n) ds = ap (λ l. l ++ dones_before ds []) (append-nil (done_bytes (record { queue = queue; client = client; number = suc n })))

pub own-step : (out new start : List ℕ) (queue : ℕ) (number : ℕ → ℕ) (left left' : ℕ) → left ≡ left' + 1
    → out ++ dones_before (own_entries queue number left) [] ≡ start
    → new ≡ out ++ dones_before (with_done queue (64 - left') (number (64 - left')) []) []
    → new ++ dones_before (own_entries queue number left') [] ≡ start
unfolding own_entries
own-step out new start queue number zero left' same before appended = absurd (omega arith)
own-step out new start queue number (suc left) left' same before appended = on left' (omega arith) before appended
  where
    on : (left' : ℕ) → left' ≡ left → out ++ dones_before (with_done queue (64 - left) (number (64 - left)) (own_entries queue number left)) [] ≡ start
        → new ≡ out ++ dones_before (with_done queue (64 - left') (number (64 - left')) []) []
        → new ++ dones_before (own_entries queue number left') [] ≡ start
    on left' e before appended = rw e (ap (λ l. l ++ dones_before (own_entries queue number left) []) (rw e at appended)
        ∙ (append_assoc out _ _ ∙ (ap (λ l. out ++ l) (own-more queue (64 - left) (number (64 - left)) (own_entries queue number left)) ∙ before)))

-- none of the queue's own entries is left
pub own-end : (queue : ℕ) (number : ℕ → ℕ) (left : ℕ) (out start : List ℕ) → left ≡ 0 → out ++ dones_before (own_entries queue number left) [] ≡ start → out ≡ start
unfolding own_entries
own-end queue number zero out start e h = sym (append-nil out) ∙ h
own-end queue number (suc left) out start e h = absurd (omega arith)

-- the three parts
pub raised-bytes : (ds : List Done) (queue : ℕ) (run : List PuItem) (out : List ℕ)
    → ((out ++ dones_before (filter (is_beside false queue) ds) []) ++ dones_before (own_entries queue (raised_number ds queue run) 64) [])
    ++ dones_before (filter (is_beside true queue) ds) [] ≡ out ++ dones_before (raised ds queue run) []
raised-bytes ds queue run out = on (filter (is_beside false queue) ds) (own_entries queue (raised_number ds queue run) 64) (filter (is_beside true queue) ds)
  where
    on : (a b c : List Done) → ((out ++ dones_before a []) ++ dones_before b []) ++ dones_before c [] ≡ out ++ dones_before (a ++ (b ++ c)) []
    on a b c = append_assoc (out ++ dones_before a []) (dones_before b []) (dones_before c [])
        ∙ (append_assoc out (dones_before a []) (dones_before b [] ++ dones_before c [])
        ∙ ap (λ l. out ++ l) (ap (λ l. dones_before a [] ++ l) (sym (dones_before-append b c)) ∙ sym (dones_before-append a (b ++ c))))

pub table-end : (ds l l' : List Done) (queue : ℕ) (run : List PuItem) (out a b c : List ℕ) → l ≡ ds → l' ≡ ds
    → a ≡ out ++ dones_before (filter (is_beside false queue) l) []
    → b ≡ a ++ dones_before (own_entries queue (raised_number ds queue run) 64) []
    → c ≡ b ++ dones_before (filter (is_beside true queue) l') []
    → c ≡ out ++ dones_before (raised ds queue run) []
table-end ds l l' queue run out a b c same same' first own last =
    last ∙ (ap (λ x. x ++ dones_before (filter (is_beside true queue) l') []) own
    ∙ (ap (λ x. (x ++ dones_before (own_entries queue (raised_number ds queue run) 64) []) ++ dones_before (filter (is_beside true queue) l') []) first
    ∙ (ap (λ l. ((out ++ dones_before (filter (is_beside false queue) l) []) ++ dones_before (own_entries queue (raised_number ds queue run) 64) [])
    ++ dones_before (filter (is_beside true queue) l') []) same
    ∙ (ap (λ l. ((out ++ dones_before (filter (is_beside false queue) ds) []) ++ dones_before (own_entries queue (raised_number ds queue run) 64) [])
    ++ dones_before (filter (is_beside true queue) l) []) same' ∙ raised-bytes ds queue run out))))

-- the next of the queue's own entries, at the client and number that were found for it
pub next-own : (queue : ℕ) (number : ℕ → ℕ) (left client n : ℕ) → client ≡ 64 - left → n ≡ number client
    → with_done queue client n [] ≡ with_done queue (64 - left) (number (64 - left)) []
next-own queue number left client n hc hn = ap (λ n. with_done queue client n []) hn ∙ ap (λ c. with_done queue c (number c) []) hc

pub own-step-at : (out new start : List ℕ) (queue : ℕ) (number : ℕ → ℕ) (left left' client n : ℕ) → left ≡ left' + 1 → client ≡ 64 - left' → n ≡ number client
    → out ++ dones_before (own_entries queue number left) [] ≡ start
    → new ≡ out ++ dones_before (with_done queue client n []) []
    → new ++ dones_before (own_entries queue number left') [] ≡ start
own-step-at out new start queue number left left' client n e hc hn before appended =
    own-step out new start queue number left left' e before (appended ∙ ap (λ ds. out ++ dones_before ds []) (next-own queue number left' client n hc hn))

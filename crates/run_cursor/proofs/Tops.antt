-- The loop over the items that raises the top at each client.
use Rattle.std.proofs.Common.{ℕ, ◌≡◌, ◌≢◌, ◌+◌, ◌<◌, ◌≤◌, Bool, true, false, cond, eqb, List, [], ◌∷◌, length, sym, refl, ap, ◌∙◌, arith, ⊎_elim, subst}
use Rattle.std.specs.Prelude.{◌==◌, ◌&&◌, ◌||◌}
use Rattle.std.proofs.lemmas.Grind.{common_steps}
use Rattle.std.proofs.lemmas.Bool.{and_parts, cases_eq, cases_lt, eqb-true, eq-eqb, ne_eqb}
use Rattle.db_base.specs.Cursor.{number_of, SetsNumber}
use Rattle.log_codec.specs.declared.record.PuItem.{PuItem}
use Rattle.run_cursor.specs.Run.{has_number, is_at, IsTop, Raises}
use Rattle.run_cursor.specs.Leading.{IsLed, IsNext, Follows, Passes}

-- the numbers from the cursor up to the top are among the items, and a next one is among those that are left
pub record IsTopOfPassed (cursor : List (ℕ × ℕ)) (items left : List PuItem) (top : List (ℕ × ℕ)) : Type 0 where
  pub upward : (c : ℕ) → number_of cursor c ≤ number_of top c
  pub each : (c n : ℕ) → number_of cursor c < n → n ≤ number_of top c → has_number items c n ≡ true
  pub next : (c : ℕ) → has_number items c (number_of top c + 1) ≡ true → has_number left c (number_of top c + 1) ≡ true

-- no item is passed at first
pub start : (cursor : List (ℕ × ℕ)) (items : List PuItem) (top : List (ℕ × ℕ)) → IsLed cursor items top → IsTopOfPassed cursor items items top
start cursor items top h = record { upward = h.upward; each = h.each; next = λ c yes_. yes_ }

-- an item of another client tells nothing of a client's numbers
has_number-other : (x : PuItem) (xs : List PuItem) (c n : ℕ) → c ≢ x.rec.client → has_number (x ∷ xs) c n ≡ has_number xs c n
has_number-other x xs c n h = grind (arith, common_steps)

-- the top is raised at the client of the next item
pub step : (cursor : List (ℕ × ℕ)) (items : List PuItem) (x : PuItem) (left : List PuItem) (old new : List (ℕ × ℕ))
    → IsTopOfPassed cursor items (x ∷ left) old → Raises old new items x.rec.client → IsTopOfPassed cursor items left new
step cursor items x left old new h r = record { upward = upward; each = each; next = next }
  where
    upward : (c : ℕ) → number_of cursor c ≤ number_of new c
    upward c = ⊎_elim (λ e. subst (λ c. number_of cursor c ≤ number_of new c) (sym e) (omega (arith, h.upward x.rec.client, r.raised.upward)))
        (λ e. omega (arith, h.upward c, r.others c e)) (cases_eq c x.rec.client)

    each_at : (n : ℕ) → number_of cursor x.rec.client < n → n ≤ number_of new x.rec.client → has_number items x.rec.client n ≡ true
    each_at n a b = ⊎_elim (λ low. r.raised.each n low b) (λ high. h.each x.rec.client n a high) (cases_lt (number_of old x.rec.client) n)

    each : (c n : ℕ) → number_of cursor c < n → n ≤ number_of new c → has_number items c n ≡ true
    each c = ⊎_elim (λ e. subst (λ c. (n : ℕ) → number_of cursor c < n → n ≤ number_of new c → has_number items c n ≡ true) (sym e) each_at)
        (λ e n a b. h.each c n a (omega (arith, r.others c e))) (cases_eq c x.rec.client)

    next : (c : ℕ) → has_number items c (number_of new c + 1) ≡ true → has_number left c (number_of new c + 1) ≡ true
    next c = ⊎_elim (λ e. subst (λ c. has_number items c (number_of new c + 1) ≡ true → has_number left c (number_of new c + 1) ≡ true) (sym e) (λ yes_. cc (r.raised.stops, yes_)))
        (λ e. rw (r.others c e) (λ yes_. sym (has_number-other x left c (number_of old c + 1) e) ∙ h.next c yes_)) (cases_eq c x.rec.client)

-- an item that is not the next one tells nothing of the next one
has_number-later : (x : PuItem) (xs : List PuItem) (c n : ℕ) → (c ≡ x.rec.client → x.rec.number ≢ n) → has_number (x ∷ xs) c n ≡ has_number xs c n
has_number-later x xs c n h = on (is_at c n x) refl
  where
    on : (b : Bool) → is_at c n x ≡ b → (b || has_number xs c n) ≡ has_number xs c n
    on true e = let p = and_parts (eqb x.rec.client c) (eqb x.rec.number n) e in absurd (h (sym (eqb-true x.rec.client c p.0)) (eqb-true x.rec.number n p.1))
    on false e = refl

stays : (cursor : List (ℕ × ℕ)) (items : List PuItem) (x : PuItem) (left : List PuItem) (top : List (ℕ × ℕ))
    → IsTopOfPassed cursor items (x ∷ left) top → (IsNext top x → ⊥) → IsTopOfPassed cursor items left top
stays cursor items x left top h apart = record {
  upward = h.upward;
  each = h.each;
  next = λ c yes_. sym (has_number-later x left c (number_of top c + 1) (λ e n. apart (n ∙ ap (λ c. number_of top c + 1) e))) ∙ h.next c yes_;
}

-- the next item is passed
pub pass_step : (cursor : List (ℕ × ℕ)) (items : List PuItem) (x : PuItem) (left : List PuItem) (old new : List (ℕ × ℕ))
    → IsTopOfPassed cursor items (x ∷ left) old → Passes old new items x → IsTopOfPassed cursor items left new
pass_step cursor items x left old new h p =
    ⊎_elim (λ (r : Raises old new items x.rec.client). step cursor items x left old new h r)
    (λ (s : (new ≡ old) × (IsNext old x → ⊥)). subst (λ top. IsTopOfPassed cursor items left top) (sym s.0) (stays cursor items x left old h s.1)) p

-- ---- items that follow one another as they were received

pub record IsFollowed (cursor : List (ℕ × ℕ)) (items left : List PuItem) (top : List (ℕ × ℕ)) : Type 0 where
  pub led : IsLed cursor items top
  pub among : (c n : ℕ) → has_number left c n ≡ true → has_number items c n ≡ true

pub follow_start : (cursor : List (ℕ × ℕ)) (items : List PuItem) → IsFollowed cursor items items cursor
follow_start cursor items = record {
  led = record { upward = λ c. omega arith; each = λ c n a b. absurd (omega arith) };
  among = λ c n yes_. yes_;
}

has_number-first : (x : PuItem) (xs : List PuItem) → has_number (x ∷ xs) x.rec.client x.rec.number ≡ true
has_number-first x xs = ap (λ b. b || has_number xs x.rec.client x.rec.number) (ap (λ b. b && (x.rec.number == x.rec.number)) (eq-eqb x.rec.client x.rec.client refl) ∙ eq-eqb x.rec.number x.rec.number refl)

has_number-more : (x : PuItem) (xs : List PuItem) (c n : ℕ) → has_number xs c n ≡ true → has_number (x ∷ xs) c n ≡ true
has_number-more x xs c n h = on (is_at c n x)
  where
    on : (b : Bool) → (b || has_number xs c n) ≡ true
    on true = refl
    on false = h

led_on : (cursor : List (ℕ × ℕ)) (items : List PuItem) (x : PuItem) (old new : List (ℕ × ℕ)) → IsLed cursor items old
    → has_number items x.rec.client x.rec.number ≡ true → IsNext old x → SetsNumber old new x.rec.client x.rec.number → IsLed cursor items new
led_on cursor items x old new h has is sets = record { upward = upward; each = each }
  where
    here : number_of new x.rec.client ≡ x.rec.number
    here = sets x.rec.client ∙ ap (λ b. cond b x.rec.number (number_of old x.rec.client)) (eq-eqb x.rec.client x.rec.client refl)

    elsewhere : (c : ℕ) → c ≢ x.rec.client → number_of new c ≡ number_of old c
    elsewhere c ne = sets c ∙ ap (λ b. cond b x.rec.number (number_of old c)) (ne_eqb c x.rec.client ne)

    upward : (c : ℕ) → number_of cursor c ≤ number_of new c
    upward c = ⊎_elim (λ e. subst (λ c. number_of cursor c ≤ number_of new c) (sym e) (omega (arith, h.upward x.rec.client, here, is)))
        (λ ne. omega (arith, h.upward c, elsewhere c ne)) (cases_eq c x.rec.client)

    at_last : (n : ℕ) → n ≡ x.rec.number → has_number items x.rec.client n ≡ true
    at_last n e = subst (λ n. has_number items x.rec.client n ≡ true) (sym e) has

    each_at : (n : ℕ) → number_of cursor x.rec.client < n → n ≤ number_of new x.rec.client → has_number items x.rec.client n ≡ true
    each_at n a b = ⊎_elim (λ low. at_last n (omega (arith, low, b, here, is))) (λ high. h.each x.rec.client n a high) (cases_lt (number_of old x.rec.client) n)

    each : (c n : ℕ) → number_of cursor c < n → n ≤ number_of new c → has_number items c n ≡ true
    each c = ⊎_elim (λ e. subst (λ c. (n : ℕ) → number_of cursor c < n → n ≤ number_of new c → has_number items c n ≡ true) (sym e) each_at)
        (λ ne n a b. h.each c n a (omega (arith, b, elsewhere c ne))) (cases_eq c x.rec.client)

pub follow_step : (cursor : List (ℕ × ℕ)) (items : List PuItem) (x : PuItem) (left : List PuItem) (old new : List (ℕ × ℕ))
    → IsFollowed cursor items (x ∷ left) old → Follows old new x → IsFollowed cursor items left new
follow_step cursor items x left old new h f = record {
  led = ⊎_elim (λ (s : IsNext old x × SetsNumber old new x.rec.client x.rec.number). led_on cursor items x old new h.led (h.among x.rec.client x.rec.number (has_number-first x left)) s.0 s.1)
      (λ (e : new ≡ old). subst (λ top. IsLed cursor items top) (sym e) h.led) f;
  among = λ c n yes_. h.among c n (has_number-more x left c n yes_);
}

-- what is not true is false
not_true : (b : Bool) → (b ≡ true → false ≡ true) → b ≡ false
not_true true h = sym (h refl)
not_true false h = refl

-- all items are passed
pub end : (cursor : List (ℕ × ℕ)) (items left : List PuItem) (top : List (ℕ × ℕ)) → length left ≡ 0
    → IsTopOfPassed cursor items left top → (c : ℕ) → IsTop (number_of cursor c) items c (number_of top c)
end cursor items [] top none h c = record { upward = h.upward c; each = h.each c; stops = not_true _ (h.next c) }
end cursor items (x ∷ left) top none h c = absurd (omega arith)

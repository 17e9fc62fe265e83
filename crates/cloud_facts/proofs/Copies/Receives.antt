-- What a receive finds: among the first so many messages that are not deleted, each client's numbers above the cursor are one run.
use Rattle.std.proofs.Common.{◌≡◌, ◌+◌, ◌<◌, ◌≤◌, ℕ, zero, suc, Bool, true, false, cond, List, [], ◌∷◌, take, Some, refl, sym, ap, ◌∙◌, arith}
use Rattle.std.specs.Prelude.{slice_get}
use Rattle.cloud_facts.specs.Words.{IsClient, Posted, Store}
use Rattle.cloud_trait.specs.Delivery.{unmarked, unmarked_from}
use Rattle.cloud_trait.specs.declared.message.Message.{Message}
use Rattle.cloud_facts.specs.Copies.Copies.{IsCopy, Copies, IsAmong}
use Rattle.cloud_facts.proofs.Copies.Runs.{Stays, run_stays}
use Rattle.log_codec.specs.Pu.{pu_of}
use Rattle.cloud_facts.proofs.Numbers.Lists.{take_there}

-- ---- the messages that are not deleted

-- bytes among messages up to a place
pub record HasBytes (ys : List Message) (bytes : List ℕ) (upto : ℕ) : Type 0 where
  pub at : ℕ
  pub message : Message
  pub there : slice_get ys at ≡ Some message
  pub bytes_is : message.bytes ≡ bytes
  pub within : at ≤ upto

-- where a message stands in its queue; those that are not deleted and stand there before it come before it
pub record IsLeft (ms : List Posted) (ys : List Message) (k : ℕ) (x : Message) : Type 0 where
  pub place : ℕ
  pub message : Posted
  pub there : slice_get ms place ≡ Some message
  pub bytes_is : message.bytes ≡ x.bytes
  pub earlier : (i : ℕ) (a : Posted) → i ≤ place → slice_get ms i ≡ Some a → a.deleted ≡ false → HasBytes ys a.bytes k

one_further : (y : Message) (ys : List Message) (bytes : List ℕ) (k : ℕ) → HasBytes ys bytes k → HasBytes (y ∷ ys) bytes (suc k)
one_further y ys bytes k h = record { at = suc h.at; message = h.message; there = h.there; bytes_is = h.bytes_is; within = let w = h.within in omega (arith, w) }

-- a deleted message in front
behind_deleted : (m : Posted) (ms : List Posted) (ys : List Message) (k : ℕ) (x : Message) → m.deleted ≡ true → IsLeft ms ys k x → IsLeft (m ∷ ms) ys k x
behind_deleted m ms ys k x gone u = record { place = suc u.place; message = u.message; there = u.there; bytes_is = u.bytes_is; earlier = early }
  where
    never : true ≡ false → ⊥
    never e = cc

    is_front : (a : Posted) → slice_get (m ∷ ms) 0 ≡ Some a → m ≡ a
    is_front a e = cc

    early : (i : ℕ) (a : Posted) → i ≤ suc u.place → slice_get (m ∷ ms) i ≡ Some a → a.deleted ≡ false → HasBytes ys a.bytes k
    early zero a low e is = absurd (never (sym gone ∙ (ap (λ (p : Posted). p.deleted) (is_front a e) ∙ is)))
    early (suc i) a low e is = u.earlier i a (omega (arith, low)) e is

-- the front message, which is not deleted
in_front : (m : Posted) (ms : List Posted) (y : Message) (ys : List Message) (x : Message) → y.bytes ≡ m.bytes → y ≡ x → IsLeft (m ∷ ms) (y ∷ ys) 0 x
in_front m ms y ys x same is = record { place = 0; message = m; there = refl; bytes_is = sym same ∙ ap (λ (p : Message). p.bytes) is; earlier = early }
  where
    is_front : (a : Posted) → slice_get (m ∷ ms) 0 ≡ Some a → m ≡ a
    is_front a e = cc

    early : (i : ℕ) (a : Posted) → i ≤ 0 → slice_get (m ∷ ms) i ≡ Some a → a.deleted ≡ false → HasBytes (y ∷ ys) a.bytes 0
    early zero a low e is = record { at = 0; message = y; there = refl; bytes_is = same ∙ ap (λ (p : Posted). p.bytes) (is_front a e); within = omega arith }
    early (suc i) a low e is = absurd (omega (arith, low))

-- a message behind one that is not deleted
behind_left : (m : Posted) (ms : List Posted) (y : Message) (ys : List Message) (k : ℕ) (x : Message) → y.bytes ≡ m.bytes → IsLeft ms ys k x
    → IsLeft (m ∷ ms) (y ∷ ys) (suc k) x
behind_left m ms y ys k x same u = record { place = suc u.place; message = u.message; there = u.there; bytes_is = u.bytes_is; earlier = early }
  where
    is_front : (a : Posted) → slice_get (m ∷ ms) 0 ≡ Some a → m ≡ a
    is_front a e = cc

    early : (i : ℕ) (a : Posted) → i ≤ suc u.place → slice_get (m ∷ ms) i ≡ Some a → a.deleted ≡ false → HasBytes (y ∷ ys) a.bytes (suc k)
    early zero a low e is = record { at = 0; message = y; there = refl; bytes_is = same ∙ ap (λ (p : Posted). p.bytes) (is_front a e); within = omega arith }
    early (suc i) a low e is = one_further y ys a.bytes k (u.earlier i a (omega (arith, low)) e is)

pub left_of : (ms : List Posted) (n k : ℕ) (x : Message) → slice_get (unmarked_from n ms) k ≡ Some x → IsLeft ms (unmarked_from n ms) k x
left_of [] n k x e = absurd (cc)
left_of (m ∷ ms) n k x e = on m.deleted refl k e (λ i f. left_of ms (n + 1) i x f)
  where
    on : (b : Bool) → m.deleted ≡ b → (k : ℕ)
        → slice_get (cond b (unmarked_from (n + 1) ms) (record { id = n; bytes = m.bytes } ∷ unmarked_from (n + 1) ms)) k ≡ Some x
        → ((i : ℕ) → slice_get (unmarked_from (n + 1) ms) i ≡ Some x → IsLeft ms (unmarked_from (n + 1) ms) i x)
        → IsLeft (m ∷ ms) (cond b (unmarked_from (n + 1) ms) (record { id = n; bytes = m.bytes } ∷ unmarked_from (n + 1) ms)) k x
    on true d k e again = behind_deleted m ms (unmarked_from (n + 1) ms) k x d (again k e)
    on false d zero e again =
        let y : Message = record { id = n; bytes = m.bytes } in
        let same : y ≡ x = cc in
        in_front m ms y (unmarked_from (n + 1) ms) x refl same
    on false d (suc k) e again = behind_left m ms (record { id = n; bytes = m.bytes }) (unmarked_from (n + 1) ms) k x refl (again k e)

-- ---- the first so many

take_within : {X : Type 0} (most : ℕ) (xs : List X) (k : ℕ) (x : X) → slice_get (take most xs) k ≡ Some x → k < most
take_within zero xs k x e = absurd (cc)
take_within (suc most) [] k x e = absurd (cc)
take_within (suc most) (y ∷ xs) zero x e = omega arith
take_within (suc most) (y ∷ xs) (suc k) x e = let h = take_within most xs k x e in omega (arith, h)

take_at : {X : Type 0} (most : ℕ) (xs : List X) (k : ℕ) (x : X) → k < most → slice_get xs k ≡ Some x → slice_get (take most xs) k ≡ Some x
take_at zero xs k x less e = absurd (omega (arith, less))
take_at (suc most) [] k x less e = absurd (cc)
take_at (suc most) (y ∷ xs) zero x less e = e
take_at (suc most) (y ∷ xs) (suc k) x less e = take_at most xs k x (omega (arith, less)) e

-- ---- what is received

-- of the first so many messages that are not deleted: where a client's number is among them, so is each behind the cursor up to it
pub received_is_run : (st : Store) → Copies st → (tree page client most : ℕ) → IsClient client → (number upto : ℕ)
    → st.tally.cursor tree page client < number → number ≤ upto
    → IsAmong (take most (unmarked (st.tally.posts tree page))) client upto → IsAmong (take most (unmarked (st.tally.posts tree page))) client number
received_is_run st h tree page client most is number upto above up among = found (run_stays st h tree page client is number upto left.place above up copy)
  where
    less : among.there.0 < most
    less = take_within most (unmarked (st.tally.posts tree page)) among.there.0 among.message among.there.1

    left : IsLeft (st.tally.posts tree page) (unmarked (st.tally.posts tree page)) among.there.0 among.message
    left = left_of (st.tally.posts tree page) 1 among.there.0 among.message
        (take_there most (unmarked (st.tally.posts tree page)) among.there.0 among.message among.there.1)

    copy : IsCopy (st.tally.posts tree page) client upto left.place
    copy = record {
      message = left.message;
      rec = among.rec;
      there = left.there;
      reads = ap pu_of left.bytes_is ∙ among.reads;
      client_is = among.client_is;
      number_is = among.number_is;
    }

    found : Stays (st.tally.posts tree page) client number left.place → IsAmong (take most (unmarked (st.tally.posts tree page))) client number
    found s =
        let c = s.first.copy in
        let b = left.earlier s.place c.message s.within c.there s.unmarked in
        record {
          message = b.message;
          rec = c.rec;
          there = (b.at, take_at most (unmarked (st.tally.posts tree page)) b.at b.message (let w = b.within in omega (arith, w, less)) b.there);
          reads = ap pu_of b.bytes_is ∙ c.reads;
          client_is = c.client_is;
          number_is = c.number_is;
        }

-- What settling rests on: above its cursor a queue has each client's numbers as one run, in order, each first copy not deleted.
use Rattle.std.proofs.Common.{◌≡◌, ◌+◌, ◌-◌, ◌<◌, ◌≤◌, ℕ, zero, suc, false, List, arith}
use Rattle.cloud_facts.specs.Words.{IsClient, Posted, Store}
use Rattle.cloud_facts.specs.Copies.Copies.{IsCopy, IsFirst, Copies}
use Rattle.cloud_facts.proofs.Copies.CopyLemmas.{copy_at_number, first_of}

-- a copy up to a place
pub record HasUpto (posts : List Posted) (client number place : ℕ) : Type 0 where
  pub at : ℕ
  pub copy : IsCopy posts client number at
  pub within : at ≤ place

-- a first copy up to a place that is not deleted
pub record Stays (posts : List Posted) (client number upto : ℕ) : Type 0 where
  pub place : ℕ
  pub first : IsFirst posts client number place
  pub within : place ≤ upto
  pub unmarked : first.copy.message.deleted ≡ false

module _ (st : Store) (h : Copies st) (tree page client : ℕ) where
  -- where a number was sent, so were all before it, none behind it
  down : (number more place : ℕ) → 1 ≤ number → IsCopy (st.tally.posts tree page) client (number + more) place
      → HasUpto (st.tally.posts tree page) client number place
  down number zero place some c =
      record { at = place; copy = copy_at_number (st.tally.posts tree page) client (number + 0) number place (omega arith) c; within = omega arith }
  down number (suc more) place some c =
      let b = h.in_turn tree page client (number + more) place (omega (arith, some))
      (copy_at_number (st.tally.posts tree page) client (number + suc more) ((number + more) + 1) place (omega arith) c) in
      let u = down number more b.at some b.copy in
      record { at = u.at; copy = u.copy; within = let x = u.within in let y = b.before in omega (arith, x, y) }

  pub sent_below : (number upto place : ℕ) → 1 ≤ number → number ≤ upto → IsCopy (st.tally.posts tree page) client upto place
      → HasUpto (st.tally.posts tree page) client number place
  sent_below number upto place some most c =
      down number (upto - number) place some (copy_at_number (st.tally.posts tree page) client upto (number + (upto - number)) place (omega (arith, most)) c)

  -- behind the cursor up to any number that was sent, each number has its first copy, which is not deleted and not behind that copy
  pub run_stays : IsClient client → (number upto place : ℕ) → st.tally.cursor tree page client < number → number ≤ upto
      → IsCopy (st.tally.posts tree page) client upto place → Stays (st.tally.posts tree page) client number place
  run_stays is number upto place above most c =
      let u = sent_below number upto place (omega (arith, above)) most c in
      let f = first_of (st.tally.posts tree page) client number u.at u.copy in
      record {
        place = f.place;
        first = f.first;
        within = let x = f.within in let y = u.within in omega (arith, x, y);
        unmarked = h.unmarked tree page client number f.place is above f.first;
      }

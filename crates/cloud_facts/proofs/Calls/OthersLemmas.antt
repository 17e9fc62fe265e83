-- What is known survives the calls of others.
use Rattle.std.proofs.Common.{◌≡◌, ◌≤◌, ◌⊎◌, inl, inr, ℕ, zero, List, Option, Some, refl, sym, subst, ◌∙◌, arith}
use Rattle.cloud_facts.specs.Words.{IsClient, Head, Claim, Store, IsIn}
use Rattle.cloud_facts.specs.Calls.Acting.{opened_client, of_option, IsPruned, KnowsHome, Aside}
use Rattle.cloud_facts.specs.Calls.Others.{Others}
use Rattle.db_base.specs.Change.{key_of}
use Rattle.head_codec.specs.declared.lists.Pending.{Pending}
use Rattle.cloud_facts.specs.Homes.Homes.{Part}
use Rattle.cloud_facts.specs.Book.Growth.{Grows}
use Rattle.cloud_facts.specs.Book.Premises.{IsAppliedEntry}
use Rattle.cloud_facts.specs.Book.Tally.{Tally}

pub in_option : (o : Option Claim) (l : Claim) → o ≡ Some l → IsIn (of_option o) l
in_option o l e = subst (λ (p : Option Claim). IsIn (of_option p) l) (sym e) (zero, refl)

-- ---- pruned heads

pub pruned_itself : (t : Tally) (client : ℕ) (head : Head) → IsPruned t client head head
pruned_itself t client head = record { epoch = refl; txn = refl; phase = refl; counters = refl; kept = λ p is. inl is; from = λ p is. is }

-- pruned again
pub pruned_again : (t : Tally) (client : ℕ) (whole pruned again : Head) → IsPruned t client whole pruned → IsPruned t client pruned again → IsPruned t client whole again
pruned_again t client whole pruned again a b = record {
  epoch = b.epoch ∙ a.epoch;
  txn = b.txn ∙ a.txn;
  phase = b.phase ∙ a.phase;
  counters = b.counters ∙ a.counters;
  kept = λ p is. on p (a.kept p is);
  from = λ p is. a.from p (b.from p is);
}
  where
    on : (p : Pending) → IsIn pruned.pending p ⊎ IsAppliedEntry t client p → IsIn again.pending p ⊎ IsAppliedEntry t client p
    on p (inl is) = b.kept p is
    on p (inr done) = inr done

-- what is applied stays applied
pub pruned_grows : (st su : Store) (client : ℕ) (whole pruned : Head) → IsClient client → Grows st su → IsPruned st.tally client whole pruned → IsPruned su.tally client whole pruned
pruned_grows st su client whole pruned is grows k = record {
  epoch = k.epoch;
  txn = k.txn;
  phase = k.phase;
  counters = k.counters;
  kept = λ p there. on p (k.kept p there);
  from = k.from;
}
  where
    on : (p : Pending) → IsIn pruned.pending p ⊎ IsAppliedEntry st.tally client p → IsIn pruned.pending p ⊎ IsAppliedEntry su.tally client p
    on p (inl there) = inl there
    on p (inr done) = inr (let rises = grows.done p.tree (key_of p.change) p.page client is in omega (arith, done, rises))

-- a head that is as it was, pruned so
pub pruned_stays : (st su : Store) (client : ℕ) (head : Head) → IsClient client → Grows st su → su.tally.head client ≡ st.tally.head client
    → IsPruned st.tally client (st.tally.head client) head → IsPruned su.tally client (su.tally.head client) head
pruned_stays st su client head is grows same k =
    subst (λ (h : Head). IsPruned su.tally client h head) (sym same) (pruned_grows st su client (st.tally.head client) head is grows k)

-- ---- homes

pub home_others : (st su : Store) (now later client : ℕ) (lease : Claim) (head : Head) (attempt : ℕ) (part : Part) (mine : List Claim) → now ≤ later → IsIn mine lease
    → Others mine later st su → KnowsHome st now (opened_client client lease head attempt) part → KnowsHome su later (opened_client client lease head attempt) part
home_others st su now later client lease head attempt part mine after here o k = record {
  is_client = k.is_client;
  lock_is = k.lock_is;
  within = k.within;
  settled = k.settled;
  newest = λ lasts. pruned_stays st su client head k.is_client o.passes.grows (o.head lease client here k.lock_is lasts) (k.newest (omega (arith, lasts, after)));
  home = k.home;
  part_is = k.part_is;
  client_is = k.client_is;
  lease_is = k.lease_is;
  epoch_is = k.epoch_is;
  begun = k.begun;
}

pub home_aside : (st u : Store) (now later client : ℕ) (lease : Claim) (head : Head) (attempt : ℕ) (before part : Part) (Knows : Store → ℕ → Type 0) → now ≤ later → Grows st u
    → KnowsHome st now (opened_client client lease head attempt) before → Aside st before Knows u later part → KnowsHome u later (opened_client client lease head attempt) part
home_aside st u now later client lease head attempt before part Knows after grows k a = record {
  is_client = k.is_client;
  lock_is = k.lock_is;
  within = k.within;
  settled = k.settled;
  newest = λ lasts. pruned_stays st u client head k.is_client grows (a.heads client) (k.newest (omega (arith, lasts, after)));
  home = k.home;
  part_is = a.part_is ∙ k.part_is;
  client_is = k.client_is;
  lease_is = k.lease_is;
  epoch_is = k.epoch_is;
  begun = k.begun;
}

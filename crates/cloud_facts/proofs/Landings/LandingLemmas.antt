-- Each call that lands keeps what holds of a store, and only adds to what is told.
use Rattle.std.proofs.Common.{◌≡◌, ◌<◌, ◌⊎◌, inl, inr, ℕ, true, false, List, [], Some, sym, ap, ◌∙◌, arith}
use Rattle.std.proofs.lemmas.Bool.{cases_order}
use Rattle.std.specs.Prelude.{slice_get}
use Rattle.cloud_facts.specs.Words.{IsTree, AtomicRec, Head, Tree, CloudState, Caller, Ask, Link, Store, IsIn}
use Rattle.cloud_facts.specs.Chains.Chain.{ChainHolds}
use Rattle.cloud_facts.proofs.Chains.Grown.{after_leaf_grows, after_inner_grows, after_page_grows, after_raise_grows}
use Rattle.cloud_facts.proofs.Chains.GoneLemmas as gone
use Rattle.cloud_facts.proofs.Chains.Laws as chain
use Rattle.cloud_facts.proofs.Chains.EmptyChains.{empty_chains}
use Rattle.cloud_facts.specs.Chains.Landing.{Raises}
use Rattle.cloud_facts.proofs.Copies.Heads as copy_heads
use Rattle.cloud_facts.proofs.Copies.Queues as copy_queues
use Rattle.cloud_facts.proofs.Copies.Stays as copies
use Rattle.cloud_trait.specs.State.{IsEmptyCloud}
use Rattle.cloud_facts.proofs.Book.Empty.{empty_store}
use Rattle.head_codec.specs.declared.head.Phase.{Phase}
use Rattle.head_codec.specs.declared.head.Phase.TheVariants.{Settled, Open}
use Rattle.cloud_facts.specs.Landings.Holding.{Holds}
use Rattle.cloud_facts.specs.Landings.Landing.{Landing, opens, settles, logs, posts, marks_log, marks_post, puts_leaf, puts_page, puts_inner, puts_root, raises_root, removes, stays, own_of, sent_by}
use Rattle.cloud_facts.proofs.Lefts.HeadLemmas as left_opens
use Rattle.cloud_facts.proofs.Lefts.SettlesLemmas as left_settles
use Rattle.cloud_facts.proofs.Lefts.QueueLemmas as left_queues
use Rattle.cloud_facts.proofs.Lefts.StaysLemmas as left
use Rattle.cloud_facts.proofs.Numbers.Kept as numbers
use Rattle.cloud_facts.proofs.Numbers.Known.{cursor_unlinked}
use Rattle.cloud_facts.proofs.Orders.Kept as order
use Rattle.cloud_facts.specs.Orders.Order.{IsLeft, UnappliedOfOneQueue}
use Rattle.cloud_facts.proofs.Pendings.OpensLemmas as pending_opens
use Rattle.cloud_facts.proofs.Pendings.SettlesLemmas as pending_settles
use Rattle.cloud_facts.proofs.Pendings.StaysLemmas as pending
use Rattle.cloud_facts.specs.Pendings.Pending.{Pends, AreOfKey}
use Rattle.cloud_facts.specs.Book.Growth.{Grows, IsLater, PhaseRises}
use Rattle.cloud_facts.specs.Book.Premises.{Opens, SettlesBehind}
use Rattle.cloud_facts.specs.Book.Records.{is_open, IsApplied}
use Rattle.cloud_facts.proofs.Book.GrowthLemmas.{grows_itself, head_grows, logged_grows, posted_grows, log_mark_grows, post_mark_grows, root_grows, removal_grows}

record_is : (r q : AtomicRec) → Some r ≡ Some q → r ≡ q
record_is r q e = cc

-- what is not applied of a client, tree and key is of one queue
pub one_queue : (st : Store) → Pends st → UnappliedOfOneQueue st
one_queue st pends = record { one = λ r q in_r in_q client tree key left_r left_q. on r q in_r in_q (record { client = client; tree = tree; key = key }) left_r left_q (cases_order in_r.0 in_q.0) }
  where
    turned : (r q : AtomicRec) → AreOfKey r q → AreOfKey q r
    turned r q k = record { client = sym k.client; tree = sym k.tree; key = sym k.key }

    page_of : (r q : AtomicRec) → IsLeft st.tally r → IsApplied st.tally r ⊎ (r.page ≡ q.page) → r.page ≡ q.page
    page_of r q left_r (inl applied) = absurd (omega (arith, applied, left_r))
    page_of r q left_r (inr same) = same

    on : (r q : AtomicRec) (in_r : IsIn st.book.log r) (in_q : IsIn st.book.log q) → AreOfKey r q → IsLeft st.tally r → IsLeft st.tally q
        → (in_r.0 ≡ in_q.0) ⊎ ((in_r.0 < in_q.0) ⊎ (in_q.0 < in_r.0)) → r.page ≡ q.page
    on r q in_r in_q key left_r left_q (inr (inl before)) = page_of r q left_r (pends.sticky in_r.0 in_q.0 r q in_r.1 in_q.1 before key)
    on r q in_r in_q key left_r left_q (inr (inr behind)) = sym (page_of q r left_q (pends.sticky in_q.0 in_r.0 q r in_q.1 in_r.1 behind (turned r q key)))
    on r q in_r in_q key left_r left_q (inl same) =
        let e : Some r ≡ Some q = sym in_r.1 ∙ (ap (λ k. slice_get st.book.log k) same ∙ in_q.1) in
        ap (λ (x : AtomicRec). x.page) (record_is r q e)

-- ---- heads rise

pub opens_later : (st : Store) (client : ℕ) (head : Head) (records : List AtomicRec) → Opens st client head records → IsLater (st.tally.head client) head
opens_later st client head records o = inr (sym o.epoch, inl o.later)

phase_rises : (before after : Phase) → is_open before ≡ true → after ≡ Settled → PhaseRises before after
phase_rises (Open n) Settled is e = tt
phase_rises (Open n) (Open m) is e = absurd (never m e)
  where
    never : (m : ℕ) → Open m ≡ Settled → ⊥
    never m e = cc
phase_rises Settled after is e = absurd (never is)
  where
    never : false ≡ true → ⊥
    never e = cc

pub settles_later : (before head : Head) → SettlesBehind before head → head.phase ≡ Settled → IsLater before head
settles_later before head (inl p) settled = inr (sym p.0, inr (sym p.1, phase_rises before.phase head.phase p.2 settled))
settles_later before head (inr e) settled = inl (omega (arith, e))

-- the level of a root that is raised has no page yet
none_above : (st : Store) (tree : ℕ) (t : Tree) (level : ℕ) (links : List Link) → IsTree tree → ChainHolds st → Raises st tree t level links → st.book.chain tree level ≡ []
none_above st tree t level links is holds lands = (holds tree is).levels.above level (omega (arith, lands.level_is))

-- ---- every call

pub landing_grows : (who : Caller) (st : Store) (ask : Ask) (su : Store) → Holds st → Landing who st ask su → Grows st su
landing_grows who st ask su h (opens client head records bytes one two e o) = head_grows st client head records (opens_later st client head records o)
landing_grows who st ask su h (settles client head bytes one two e o) = head_grows st client head [] (settles_later (st.tally.head client) head o.behind o.phase)
landing_grows who st ask su h (logs client bytes r o) = logged_grows st client _
landing_grows who st ask su h (posts tree page bytes r o) = posted_grows st tree page _
landing_grows who st ask su h (marks_log client id o) = log_mark_grows st client id
landing_grows who st ask su h (marks_post tree page id o) = post_mark_grows st tree page id
landing_grows who st ask su h (puts_leaf p bytes one two e takes lands there) = after_leaf_grows st p lands
landing_grows who st ask su h (puts_page tree page node bytes one two is e first lands) =
    after_page_grows st tree page node (own_of page node)
    (λ client is_client. let z = cursor_unlinked st h.numbers tree page client is_client first.page_is (λ link linked. first.unlinked 0 link linked) in omega (arith, z)) lands
landing_grows who st ask su h (puts_inner tree page node pieces bytes one two is e lands there) = after_inner_grows st tree page node pieces lands
landing_grows who st ask su h (puts_root tree t bytes one two is e covers lands) = root_grows st tree t covers (let more = lands.next in omega (arith, more))
landing_grows who st ask su h (raises_root tree t level links bytes one two is e covers lands there) = after_raise_grows st tree t level links is h.chains covers lands
landing_grows who st ask su h (removes tree page l is o) = removal_grows st tree page
landing_grows who st ask su h (stays asked puts touches) = grows_itself st

pub landing_keeps : (who : Caller) (st : Store) (ask : Ask) (su : Store) → Holds st → Landing who st ask su → Holds su
landing_keeps who st ask su h (opens client head records bytes one two e o) = record {
  numbers = numbers.after_open_keeps st client head records h.numbers o;
  order = order.after_open_keeps st client head records h.order h.numbers o;
  pends = pending_opens.opens_keeps st client head records o h.numbers h.pends;
  leaves = left_opens.opens_keeps st client head records o h.numbers h.leaves;
  copies = copy_heads.opens_keeps st client head records o h.numbers h.copies;
  chains = chain.after_head_keeps st client head records h.chains;
  gones = h.gones;
}
landing_keeps who st ask su h (settles client head bytes one two e o) = record {
  numbers = numbers.after_settle_keeps st client head h.numbers o;
  order = order.after_settle_keeps st client head h.order;
  pends = pending_settles.settles_keeps st client head o h.numbers h.pends;
  leaves = left_settles.settles_keeps st client head o h.leaves;
  copies = copy_heads.settles_keeps st client head o h.copies;
  chains = chain.after_head_keeps st client head [] h.chains;
  gones = h.gones;
}
landing_keeps who st ask su h (logs client bytes r o) = record {
  numbers = numbers.after_logged_keeps st client _ h.numbers;
  order = order.after_logged_keeps st client _ h.order;
  pends = pending.logged_keeps st client _ h.pends;
  leaves = left_queues.logged_keeps st client _ r o h.leaves;
  copies = copy_queues.logged_keeps st client _ h.copies;
  chains = chain.after_logged_keeps st client (sent_by who bytes) h.chains;
  gones = h.gones;
}
landing_keeps who st ask su h (posts tree page bytes r o) = record {
  numbers = numbers.after_posted_keeps st tree page _ r h.numbers o;
  order = order.after_posted_keeps st tree page _ h.order;
  pends = pending.posted_keeps st tree page _ h.pends;
  leaves = left_queues.posted_keeps st tree page _ h.leaves;
  copies = copy_queues.posted_keeps st tree page _ r o (λ q logged past. h.leaves.copied q logged (inr past)) h.numbers h.copies;
  chains = chain.after_posted_keeps st tree page (sent_by who bytes) h.chains;
  gones = h.gones;
}
landing_keeps who st ask su h (marks_log client id o) = record {
  numbers = numbers.after_log_mark_keeps st client id h.numbers;
  order = order.after_log_mark_keeps st client id h.order;
  pends = pending.log_mark_keeps st client id h.pends;
  leaves = left_queues.log_mark_keeps st client id o h.leaves;
  copies = copy_queues.log_mark_keeps st client id h.copies;
  chains = chain.after_log_mark_keeps st client id h.chains;
  gones = h.gones;
}
landing_keeps who st ask su h (marks_post tree page id o) = record {
  numbers = numbers.after_post_mark_keeps st tree page id h.numbers;
  order = order.after_post_mark_keeps st tree page id h.order;
  pends = pending.post_mark_keeps st tree page id h.pends;
  leaves = left_queues.post_mark_keeps st tree page id o h.numbers h.leaves;
  copies = copy_queues.post_mark_keeps st tree page id o h.copies;
  chains = chain.after_post_mark_keeps st tree page id h.chains;
  gones = h.gones;
}
landing_keeps who st ask su h (puts_leaf p bytes one two e takes lands there) = record {
  numbers = numbers.after_leaf_keeps st p h.numbers takes;
  order = order.after_leaf_keeps st p h.order h.numbers (one_queue st h.pends) takes;
  pends = pending.leaf_keeps st p takes h.numbers h.pends;
  leaves = left.leaf_keeps st p takes h.numbers h.leaves;
  copies = copies.leaf_keeps st p takes h.copies;
  chains = chain.after_leaf_keeps st p h.chains takes lands;
  gones = gone.leaf_keeps st p (landing_grows who st ask su h (puts_leaf p bytes one two e takes lands there)) there h.gones;
}
landing_keeps who st ask su h (puts_page tree page node bytes one two is e first lands) = record {
  numbers = numbers.after_page_keeps st tree page node (own_of page node) h.numbers first;
  order = order.after_page_keeps st tree page node (own_of page node) h.order;
  pends = pending.page_keeps st tree page node (own_of page node) h.pends;
  leaves = left.page_keeps st tree page node (own_of page node) h.leaves;
  copies = copies.page_keeps st tree page node (own_of page node) first h.numbers h.copies;
  chains = chain.after_page_keeps st tree page node (own_of page node) h.chains first lands;
  gones = gone.page_keeps st tree page node (own_of page node) (landing_grows who st ask su h (puts_page tree page node bytes one two is e first lands)) h.gones;
}
landing_keeps who st ask su h (puts_inner tree page node pieces bytes one two is e lands there) = record {
  numbers = numbers.after_inner_keeps st tree page node pieces h.numbers;
  order = order.after_inner_keeps st tree page node pieces h.order;
  pends = pending.inner_keeps st tree page node pieces h.pends;
  leaves = left.inner_keeps st tree page node pieces h.leaves;
  copies = copies.inner_keeps st tree page node pieces h.copies;
  chains = chain.after_inner_keeps st tree page node pieces h.chains lands;
  gones = gone.inner_keeps st tree page node pieces (landing_grows who st ask su h (puts_inner tree page node pieces bytes one two is e lands there)) there h.gones;
}
landing_keeps who st ask su h (puts_root tree t bytes one two is e covers lands) = record {
  numbers = numbers.after_root_keeps st tree t h.numbers covers;
  order = order.after_root_keeps st tree t h.order;
  pends = pending.root_keeps st tree t h.pends;
  leaves = left.root_keeps st tree t h.leaves;
  copies = copies.root_keeps st tree t covers h.copies;
  chains = chain.after_root_keeps st tree t h.chains covers lands;
  gones = h.gones;
}
landing_keeps who st ask su h (raises_root tree t level links bytes one two is e covers lands there) = record {
  numbers = numbers.after_raise_keeps st tree t level links h.numbers covers (none_above st tree t level links is h.chains lands);
  order = order.after_raise_keeps st tree t level links h.order;
  pends = pending.raise_keeps st tree t level links h.pends;
  leaves = left.raise_keeps st tree t level links h.leaves;
  copies = copies.raise_keeps st tree t level links covers h.copies;
  chains = chain.after_raise_keeps st tree t level links h.chains covers lands;
  gones = gone.raise_keeps st tree t level links (landing_grows who st ask su h (raises_root tree t level links bytes one two is e covers lands there)) there h.gones;
}
landing_keeps who st ask su h (removes tree page l is o) = record {
  numbers = numbers.after_removal_keeps st tree page h.numbers;
  order = order.after_removal_keeps st tree page h.order;
  pends = pending.removal_keeps st tree page h.pends;
  leaves = left.removal_keeps st tree page h.leaves;
  copies = copies.removal_keeps st tree page h.copies;
  chains = chain.after_removal_keeps st tree page h.chains;
  gones = gone.removal_keeps st tree page o h.gones;
}
landing_keeps who st ask su h (stays asked puts touches) = h

-- ---- the beginning

pub empty_holds : (s : CloudState) → IsEmptyCloud s → Holds (empty_store s)
empty_holds s empty = record {
  numbers = numbers.empty_numbers s empty;
  order = order.empty_order s empty;
  pends = pending.empty_pends s empty;
  leaves = left.empty_leaves s empty;
  copies = copies.empty_copies s empty;
  chains = empty_chains s empty;
  gones = gone.empty_gones s empty;
}

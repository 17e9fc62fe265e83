-- The leases of a page checkpoint: each call names the session's own, which guard what it puts.
use Rattle.std.proofs.Common.{◌≡◌, ◌⊎◌, inl, inr, ℕ, false, zero, suc, List, [], ◌∷◌, Some, None, refl, sym, ap, subst, ◌∙◌}
use Rattle.ckpt_parts.specs.Deleting.{next_id}
use Rattle.ckpt_parts.specs.Leasing.{claims_of, outstanding_after}
use Rattle.ckpt_parts.specs.declared.leases.Leases.{Leases}
use Rattle.cloud_facts.specs.Calls.Acting.{footing, exchange, actor, Setting, Handles}
use Rattle.cloud_facts.specs.Words.{IsTree, Entry, Answer, CloudState, Caller, Claim, Ask, GetHeld, PutHeld, Receive, Delete, Release, Goes, Ends, Stops, Book, Link, IsIn, nodes_of, store_of, IsCall, StandsUnder}
use Rattle.cloud_facts.specs.Calls.Pages.{IsLeafPage}
use Rattle.cloud_facts.proofs.Calls.Firsts.{chain_leaf}
use Rattle.cloud_facts.proofs.Calls.Guarding.{leaf_guard}
use Rattle.db_base.specs.declared.names.Lock.TheVariants as lock
use Rattle.db_base.specs.declared.names.ObjName.TheVariants as object
use Rattle.cloud_facts.specs.Leases.Guards.{guard}
use Rattle.cloud_facts.specs.Homes.Homes.{Parts}
use Rattle.page_ckpt.specs.Paging.{Paging, Step, ask_at, paging_ask, delete_next, take_home, take_right, home_name, right_name, own_queue, PagingLeads}
use Rattle.page_ckpt.proofs.Outcomes.{comes}
use Rattle.page_ckpt.specs.declared.stage.Stage.{Stage}
use Rattle.page_ckpt.specs.declared.stage.Stage.TheVariants.{TakingHome, GettingHome, Receiving, TakingRight, GettingRight, PuttingRight, ReleasingRight, PuttingHome, Deleting as DeletingNext, Releasing, Finished}
use Rattle.cloud_facts.specs.Book.Telling.{gone_of}
use Rattle.cloud_facts.proofs.Chains.GoneLemmas.{links_kept}
use Rattle.cloud_facts.proofs.Book.Places.{get_single, in_either, in_none}
use Rattle.session_facts.proofs.Machines.BesideHome.{AreLeft, hand, apart_from}
use Rattle.session_facts.specs.Machines.PageCheckpoints.Knows.{HoldsRight, KnowsPagingAt, KnowsPaging, leases_of_paging, leases_next}
use Rattle.session_facts.proofs.Machines.PageCheckpoints.Held.{left_by, on_left}
use Rattle.session_facts.proofs.Settling.Locks.{HoldsNext}

client_no_page : (client tree page : ℕ) → lock.Client client ≡ lock.Page tree page → ⊥
client_no_page client tree page e = cc

page_no_other : (tree page right : ℕ) → lock.Page tree right ≡ lock.Page tree page → right ≡ page
page_no_other tree page right e = cc

-- a step has no lease but those that it goes on with
within : (left : List Claim) (next : Step) → HoldsNext leases_of_paging left next → (x : Claim) → IsIn (leases_next next) x → IsIn left x
within left (Goes n) same x is = subst (λ (cs : List Claim). IsIn cs x) same is
within left (Ends n a) none x is = absurd (in_none [] x refl is)
within left (Stops n t) none x is = absurd (in_none [] x refl is)

module _ (who : Caller) (s t : CloudState) (book : Book) (order : List Entry) (cloud : StandsUnder book order s) (home : Claim) (client : ℕ)
    (home_lock : home.lock ≡ lock.Client client) (p : Paging) (reply : Answer) (of_tree : IsTree p.tree) (after : List Claim) where
  abbrev By : Ask → List Claim → Type 0
  By ask mine = AreLeft who s t home reply after ask mine → Handles (exchange who s t ask reply) (home ∷ mine) after

  -- at a stage, with these leases
  abbrev Hand : Stage → Leases → Type 0
  Hand stage held = By (ask_at stage (record p { stage = stage; held = held })) (claims_of held)

  no_home : (l : Claim) (page : ℕ) → l.lock ≡ lock.Page p.tree page → home.lock ≡ l.lock → ⊥
  no_home l page is e = client_no_page client p.tree page (sym home_lock ∙ (e ∙ is))

  -- a page of the leaf chain is guarded by its own lock
  own_guard : (link : Link) → IsIn (book.chain p.tree 0) link → (page : ℕ) → link.page ≡ page → lock.Page p.tree page ≡ guard s (object.Page p.tree page)
  own_guard link linked page is =
      sym (leaf_guard s p.tree page cloud.decodes (subst (λ (q : ℕ). gone_of s p.tree q ≡ false) is (links_kept (store_of book order s) cloud.holds.gones p.tree 0 link linked))
      (subst (IsLeafPage (nodes_of s p.tree)) is (chain_leaf book order s cloud p.tree of_tree link linked)))

  -- the lease of the other page is given back, and the page's stays
  gives_second : (right : ℕ) (has : HoldsRight p.tree p.page right p.held) → By (Release has.second) (has.second ∷ has.lease ∷ [])
  gives_second right has =
      hand who s t home reply after (Release has.second) (has.second ∷ has.lease ∷ []) (suc zero, refl) tt tt
      (apart_from who s t home reply after has.second (has.lease ∷ []) (no_home has.second right has.second_is) apart)
    where
      apart : (x : Claim) → IsIn (has.lease ∷ []) x → x.lock ≡ has.second.lock → ⊥
      apart x there e =
          let same : has.lease ≡ x = get_single has.lease there.0 x there.1 in
          has.elsewhere (page_no_other p.tree p.page right (sym has.second_is ∙ (sym e ∙ (sym (ap (λ (l : Claim). l.lock) same) ∙ has.lock_is))))

  hands_at : (now : ℕ) (stage : Stage) → KnowsPagingAt stage (store_of book order s) now p → Hand stage p.held
  hands_at now TakingHome k = hand who s t home reply after (take_home p) (leases_of_paging p) tt tt tt (λ x there. tt)
  hands_at now GettingHome (has, fresh) =
      subst (Hand GettingHome) (sym has.is) (hand who s t home reply after (GetHeld (home_name p) has.lease) (has.lease ∷ []) (suc zero, refl) tt tt (λ x there. tt))
  hands_at now Receiving k = hand who s t home reply after (Receive (own_queue p) 256) (leases_of_paging p) tt tt tt (λ x there. tt)
  hands_at now TakingRight k = hand who s t home reply after (take_right p) (leases_of_paging p) tt tt tt (λ x there. tt)
  hands_at now GettingRight (has, on) =
      subst (Hand GettingRight) (sym has.is)
      (hand who s t home reply after (GetHeld (right_name p) has.second) (has.second ∷ has.lease ∷ []) (suc zero, refl) tt tt (λ x there. tt))
  hands_at now PuttingRight (has, on, puts) =
      subst (Hand PuttingRight) (sym has.is)
      (hand who s t home reply after (PutHeld (right_name p) p.out has.lease (Some has.second)) (has.second ∷ has.lease ∷ []) ((suc (suc zero), refl), (suc zero, refl))
      (λ lasts. inr (has.second_is ∙ own_guard (record { low = p.at.low; page = p.at.page }) on.linked p.at.page refl)) tt (λ x there. tt))
  hands_at now ReleasingRight (has, on, leaves) = subst (Hand ReleasingRight) (sym has.is) (gives_second p.at.page has)
  hands_at now PuttingHome (has, puts) =
      subst (Hand PuttingHome) (sym has.is)
      (hand who s t home reply after (PutHeld (home_name p) p.out has.lease None) (has.lease ∷ []) ((suc zero, refl), tt)
      (λ lasts. inl (has.lock_is ∙ own_guard puts.runs.linked.link (puts.runs.linked.place, puts.runs.linked.linked) p.page puts.runs.linked.page_is)) tt (λ x there. tt))
  hands_at now DeletingNext (has, each, (id, rest, is)) =
      subst (λ (ids : List ℕ). By (delete_next (record p { stage = DeletingNext }) (next_id ids)) (leases_of_paging p)) (sym is)
      (hand who s t home reply after (Delete (own_queue p) id) (leases_of_paging p) tt tt tt (λ x there. tt))
  hands_at now Releasing (inl has) =
      subst (Hand Releasing) (sym has.is)
      (hand who s t home reply after (Release has.lease) (has.lease ∷ []) (suc zero, refl) tt tt
      (apart_from who s t home reply after has.lease [] (no_home has.lease p.page has.lock_is) (λ x there. absurd (in_none [] x refl there))))
  hands_at now Releasing (inr (right, has)) = subst (Hand Releasing) (sym has.is) (gives_second right has)
  hands_at now Finished never = absurd never

-- a call of a page checkpoint beside its home's lease, and where its answer leads
pub paging_handles : (who : Caller) (s t : CloudState) (book : Book) (order : List Entry) (parts : Parts) (leases : List Claim) (p : Paging) (reply : Answer)
    → Setting (footing book order s) t.now (actor parts who.session leases) → KnowsPaging (store_of book order s) s.now p → IsCall who (paging_ask p) reply s t → (home : Claim) (client : ℕ)
    → home.lock ≡ lock.Client client → (next : Step) → PagingLeads p reply next → Handles (exchange who s t (paging_ask p) reply) (home ∷ leases_of_paging p) (home ∷ leases_next next)
paging_handles who s t book order parts leases p reply setting k call home client home_lock next leads =
    hands_at who s t book order setting.cloud home client home_lock p reply k.tree (home ∷ leases_next next) s.now p.stage k.at (λ x there. on x (in_either (home ∷ []) (leases_next next) x there))
  where
    on : (x : Claim) → IsIn (home ∷ []) x ⊎ IsIn (leases_next next) x → (home ≡ x) ⊎ IsIn (outstanding_after (paging_ask p) reply (leases_of_paging p)) x
    on x (inl h) = inl (get_single home h.0 x h.1)
    on x (inr n) = inr (within (left_by p reply) next (on_left (store_of book order s) s.now (comes p reply next leads) k.at) x n)

-- and wherever it leads the home's lease is in hand
pub paging_home_handles : (who : Caller) (s t : CloudState) (book : Book) (order : List Entry) (parts : Parts) (leases : List Claim) (p : Paging) (reply : Answer)
    → Setting (footing book order s) t.now (actor parts who.session leases) → KnowsPaging (store_of book order s) s.now p → IsCall who (paging_ask p) reply s t → (home : Claim) (client : ℕ)
    → home.lock ≡ lock.Client client → Handles (exchange who s t (paging_ask p) reply) (home ∷ leases_of_paging p) (home ∷ [])
paging_home_handles who s t book order parts leases p reply setting k call home client home_lock =
    hands_at who s t book order setting.cloud home client home_lock p reply k.tree (home ∷ []) s.now p.stage k.at (λ x there. inl (get_single home there.0 x there.1))

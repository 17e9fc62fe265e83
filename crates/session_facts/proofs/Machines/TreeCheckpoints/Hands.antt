-- The leases of a checkpoint: each call names the session's own, which guard what it puts.
use Rattle.std.proofs.Common.{◌≡◌, ◌⊎◌, inl, inr, ℕ, zero, suc, List, [], ◌∷◌, Option, Some, None, Result, refl, sym, ap, subst, ◌∙◌}
use Rattle.std.specs.Prelude.{unwrap_or}
use Rattle.ckpt_parts.specs.Deleting.{next_id}
use Rattle.ckpt_parts.specs.Leasing.{newest_lease}
use Rattle.cloud_facts.specs.Calls.Acting.{footing, exchange, actor, Handles, Setting}
use Rattle.cloud_facts.specs.Words.{Trouble, Entry, Answer, CloudState, called, Caller, Claim, Ask, GetHeld, Next, Goes, Ends, Stops, Book, Store, IsIn, store_of, IsCall, StandsUnder}
use Rattle.cloud_trait.specs.declared.turn.CkptAnswer.{CkptAnswer}
use Rattle.db_base.specs.declared.names.Lock.TheVariants as lock
use Rattle.db_base.specs.declared.names.ObjName.TheVariants as object
use Rattle.cloud_facts.specs.Homes.Homes.{Parts}
use Rattle.tree_phases.specs.declared.folding.Folding.{Folding}
use Rattle.tree_phases.specs.Folding.{folding_ask}
use Rattle.cloud_facts.specs.Leases.Guards.{IsGuarded}
use Rattle.cloud_facts.specs.Leases.Leases.{KeptBy, Owns, RenewedTo}
use Rattle.split_plan.specs.declared.put_list.PagePut.{PagePut}
use Rattle.cloud_facts.proofs.Book.Places.{get_single, in_either, in_none}
use Rattle.tree_ckpt.specs.Making.{Making, making_ask, MakingLeads}
use Rattle.tree_ckpt.specs.Leases.{OfTree, HasIds}
use Rattle.tree_ckpt.proofs.Outcomes.{comes as taken_apart}
use Rattle.session_facts.proofs.Machines.BesideHome.{quiet_renews, quiet_keeps}
use Rattle.session_facts.proofs.Machines.BesideHome as beside
use Rattle.session_facts.specs.Machines.TreeCheckpoints.Knows.{OfPage, KnowsOnward, KnowsWork, KnowsMaking, leases_of_making, leases_next}
use Rattle.session_facts.proofs.Machines.TreeCheckpoints.Guards.{leaf_guarded}
use Rattle.session_facts.proofs.Machines.TreeCheckpoints.Held.{claims_next, within, leaf_quiet, up_quiet, delete_quiet, left_by, on_left}
use Rattle.session_facts.proofs.Machines.TreeCheckpoints.Others.{lock_of, making_later}
use Rattle.session_facts.proofs.Machines.Risings.Guards.{rising_guarded}
use Rattle.session_facts.specs.Machines.Trees.Leaves.{IsReading, KnowsLeaf}
use Rattle.tree_ckpt.specs.declared.work.Held.{Held}
use Rattle.tree_ckpt.specs.declared.work.Onward.{Onward}
use Rattle.tree_ckpt.specs.declared.work.Onward.TheVariants as onward
use Rattle.tree_ckpt.specs.declared.work.Work.{Work}
use Rattle.tree_ckpt.specs.declared.work.Work.TheVariants as work
use Rattle.tree_ckpt.specs.Moves.{Step, Leads}
use Rattle.tree_ckpt.specs.Work.{delete_ask, release_ask, work_ask, claims_in}
use Rattle.tree_phases.specs.declared.placing.Placing.{Placing}
use Rattle.tree_phases.specs.Placing.{put_in_hand, put_first, put_next}
use Rattle.tree_phases.specs.declared.rising.Rising.{Rising}
use Rattle.tree_phases.specs.Rising.{last_ask, rising_ask}

-- ---- locks apart

client_no_tree : (client tree : ℕ) → lock.Client client ≡ lock.Tree tree → ⊥
client_no_tree client tree e = cc

client_no_page : (client tree page : ℕ) → lock.Client client ≡ lock.Page tree page → ⊥
client_no_page client tree page e = cc

tree_no_page : (tree other page : ℕ) → lock.Tree tree ≡ lock.Page other page → ⊥
tree_no_page tree other page e = cc

-- ---- what a call names

-- what a put names is in hand, or what the call names where nothing is to be put
leaf_owns : (mine : List Claim) (session : ℕ) (p : Placing) (tree page : ℕ) (l leaf : Claim) → IsIn mine l → IsIn mine leaf
    → Owns (λ n. mine) session (unwrap_or (put_in_hand p tree l (Some leaf)) (GetHeld (object.Page tree page) leaf))
leaf_owns mine session p tree page l leaf one two = on p.reserved p.puts
  where
    on : (reserved : Option (List ℕ)) (puts : List PagePut)
        → Owns (λ n. mine) session (unwrap_or (put_first tree l (put_next tree l (Some leaf) puts) reserved) (GetHeld (object.Page tree page) leaf))
    on (Some bytes) puts = (one, tt)
    on None [] = two
    on None (y ∷ ys) = (one, two)

up_owns : (mine : List Claim) (session : ℕ) (p : Placing) (r : Rising) (l : Claim) (last : Option (List ℕ)) → IsIn mine l
    → Owns (λ n. mine) session (unwrap_or (put_in_hand p r.chart.tree l None) (last_ask r l last))
up_owns mine session p r l last one = on p.reserved p.puts last
  where
    on : (reserved : Option (List ℕ)) (puts : List PagePut) (final : Option (List ℕ))
        → Owns (λ n. mine) session (unwrap_or (put_first r.chart.tree l (put_next r.chart.tree l None puts) reserved) (last_ask r l final))
    on (Some bytes) puts final = (one, tt)
    on None [] (Some bytes) = (one, tt)
    on None [] None = one
    on None (y ∷ ys) final = (one, tt)

delete_owns : (mine : List Claim) (session tree : ℕ) (ids : List ℕ) → HasIds ids → Owns (λ n. mine) session (delete_ask tree (next_id ids))
delete_owns mine session tree [] never = absurd never
delete_owns mine session tree (id ∷ ids) has = tt

delete_guarded : (s : CloudState) (now tree : ℕ) (ids : List ℕ) → HasIds ids → IsGuarded s now (delete_ask tree (next_id ids))
delete_guarded s now tree [] never = absurd never
delete_guarded s now tree (id ∷ ids) has = tt

-- where a lease in hand comes from
pub record Led (tree : ℕ) (w : Work) (reply : Answer) (x : Claim) : Type 0 where
  pub next : Step
  pub leads : Leads tree w reply next
  pub there : IsIn (claims_next next) x

module _ (who : Caller) (s t : CloudState) (home : Claim) (client : ℕ) (home_lock : home.lock ≡ lock.Client client) (tree : ℕ) (reply : Answer) (after : List Claim) where
  -- the home's lease is in hand, and else those where the answer leads
  abbrev Comes : Work → Type 0
  Comes w = (x : Claim) → IsIn after x → (home ≡ x) ⊎ Led tree w reply x

  abbrev Hand : Work → Ask → Type 0
  Hand w ask = Handles (exchange who s t ask reply) (home ∷ claims_in w) after

  -- the locks of the home, of the tree and of a leaf are apart
  no_tree : (l : Claim) → OfTree tree l → home.lock ≡ l.lock → ⊥
  no_tree l is e = client_no_tree client tree (sym home_lock ∙ (e ∙ is))

  no_page : (l : Claim) → OfPage tree l → home.lock ≡ l.lock → ⊥
  no_page l is e = client_no_page client tree is.page (sym home_lock ∙ (e ∙ is.lock_is))

  alone : (h l : Claim) → OfTree tree h → OfPage tree l → (x : Claim) → IsIn (h ∷ []) x → x.lock ≡ l.lock → ⊥
  alone h l own of_page x there e =
      let same : h ≡ x = get_single h there.0 x there.1 in
      tree_no_page tree tree of_page.page (sym own ∙ (ap (λ (c : Claim). c.lock) same ∙ (e ∙ of_page.lock_is)))

  -- ---- where it stands

  module _ (book : Book) (order : List Entry) (stands : StandsUnder book order s) where
    abbrev st : Store
    st = store_of book order s

    -- a leaf that is to be read is got, and that needs no guard
    reading_guarded : (h : Held) (f : Folding) → IsReading st t.now h.lease f h.deletions.ids → IsGuarded s t.now (folding_ask f h.lease)
    reading_guarded h f k =
        subst (λ (p : Placing). IsGuarded s t.now (unwrap_or (put_in_hand p f.chart.tree h.lease (Some f.lease)) (GetHeld (object.Page f.chart.tree f.page) f.lease))) (sym k.placing_is) tt

    at_leaf_guarded : (h : Held) (f : Folding) → h.lease.lock ≡ lock.Tree f.chart.tree → KnowsLeaf st t.now h.lease f h.deletions.ids → IsGuarded s t.now (folding_ask f h.lease)
    at_leaf_guarded h f is (inl reading) = reading_guarded h f reading
    at_leaf_guarded h f is (inr putting) = leaf_guarded book order s stands t.now h.lease f h.deletions.ids is putting

    -- the home's lease stays in hand, and of those of the checkpoint what is outstanding
    hand : (w : Work) → KnowsWork st t.now tree w → Comes w → Owns (λ n. home ∷ claims_in w) who.session (work_ask tree w) → IsGuarded s t.now (work_ask tree w)
        → RenewedTo who (work_ask tree w) home (called who t.now s) t → ((x : Claim) → IsIn (home ∷ left_by tree w reply) x → KeptBy (work_ask tree w) x) → Hand w (work_ask tree w)
    hand w k comes owns guarded renews kept =
        beside.hand who s t home reply after (work_ask tree w) (claims_in w) owns guarded renews kept (λ x there. on x (comes x there))
      where
        on : (x : Claim) → (home ≡ x) ⊎ Led tree w reply x → (home ≡ x) ⊎ IsIn (left_by tree w reply) x
        on x (inl same) = inl same
        on x (inr led) = inr (within (left_by tree w reply) led.next (on_left st t.now tree k (taken_apart tree w reply led.next led.leads)) x led.there)

    onward_lock : (h : Held) (o : Onward) → KnowsOnward st t.now tree h o → OfTree tree h.lease
    onward_lock h (onward.Right c) k = k.0.lock_is
    onward_lock h (onward.Handled c) k = k.0.lock_is

    releases : (first second : Option Claim) (end : Result CkptAnswer Trouble) → KnowsWork st t.now tree (work.Releasing (record { first = first; second = second }) end)
        → Comes (work.Releasing (record { first = first; second = second }) end)
        → Hand (work.Releasing (record { first = first; second = second }) end) (release_ask tree (newest_lease (record { first = first; second = second })))
    releases (Some l) (Some leaf) end k comes =
        hand (work.Releasing (record { first = Some l; second = Some leaf }) end) k comes (suc zero, refl) tt tt
        (beside.apart_from who s t home reply after leaf (l ∷ []) (no_page leaf k.0.1) (alone l leaf k.0.0 k.0.1))
    releases (Some l) None end k comes =
        hand (work.Releasing (record { first = Some l; second = None }) end) k comes (suc zero, refl) tt tt
        (beside.apart_from who s t home reply after l [] (no_tree l k.0) (λ x there. absurd (in_none [] x refl there)))
    releases None second end k comes = absurd k.0

    pub work_hands : (w : Work) → KnowsWork st t.now tree w → Comes w → Hand w (work_ask tree w)
    work_hands work.TakingTree k comes = hand work.TakingTree k comes tt tt tt (λ x there. tt)
    work_hands (work.GettingTree l) k comes = hand (work.GettingTree l) k comes (suc zero, refl) tt tt (λ x there. tt)
    work_hands (work.Receiving l root) k comes = hand (work.Receiving l root) k comes tt tt tt (λ x there. tt)
    work_hands (work.Descending h d) k comes = hand (work.Descending h d) k comes (suc zero, refl) tt tt (λ x there. tt)
    work_hands (work.TakingPage h c) k comes = hand (work.TakingPage h c) k comes tt tt tt (λ x there. tt)
    work_hands (work.Folding h f) k comes =
        hand (work.Folding h f) k comes (leaf_owns (home ∷ f.lease ∷ h.lease ∷ []) who.session f.placing f.chart.tree f.page h.lease f.lease (suc (suc zero), refl) (suc zero, refl))
        (at_leaf_guarded h f (lock_of tree f.chart.tree h.lease k.0) k.1) (quiet_renews who (folding_ask f h.lease) home (called who t.now s) t (leaf_quiet f h.lease))
        (λ x there. quiet_keeps (folding_ask f h.lease) x (leaf_quiet f h.lease))
    work_hands (work.ReleasingPage h l o) k comes =
        hand (work.ReleasingPage h l o) k comes (suc zero, refl) tt tt (beside.apart_from who s t home reply after l (h.lease ∷ []) (no_page l k.0) (alone h.lease l (onward_lock h o k.1) k.0))
    work_hands (work.LeftPage h o) k comes = absurd k
    work_hands (work.Rising h r) k comes =
        hand (work.Rising h r) k comes (up_owns (home ∷ h.lease ∷ []) who.session r.placing r h.lease r.last (suc zero, refl))
        (rising_guarded book order s stands t.now h.lease r h.deletions.ids (lock_of tree r.chart.tree h.lease k.0) k.1)
        (quiet_renews who (rising_ask r h.lease) home (called who t.now s) t (up_quiet r h.lease)) (λ x there. quiet_keeps (rising_ask r h.lease) x (up_quiet r h.lease))
    work_hands (work.Deleting h applied) k comes =
        let ask : Ask = delete_ask tree (next_id h.deletions.ids) in
        hand (work.Deleting h applied) k comes (delete_owns (home ∷ h.lease ∷ []) who.session tree h.deletions.ids k.2) (delete_guarded s t.now tree h.deletions.ids k.2)
        (quiet_renews who ask home (called who t.now s) t (delete_quiet tree h.deletions.ids k.2)) (λ x there. quiet_keeps ask x (delete_quiet tree h.deletions.ids k.2))
    work_hands (work.Releasing held end) k comes = releases held.first held.second end k comes
    work_hands work.Finished k comes = absurd k

-- a call of a checkpoint beside its home's lease, and where its answer leads
pub making_handles : (who : Caller) (s t : CloudState) (book : Book) (order : List Entry) (parts : Parts) (leases : List Claim) (m : Making) (reply : Answer)
    → Setting (footing book order s) t.now (actor parts who.session leases) → KnowsMaking (store_of book order s) s.now m → IsCall who (making_ask m) reply s t → (home : Claim) (client : ℕ)
    → home.lock ≡ lock.Client client → (next : Next Making CkptAnswer) → MakingLeads m reply next
    → Handles (exchange who s t (making_ask m) reply) (home ∷ leases_of_making m) (home ∷ leases_next next)
making_handles who s t book order parts leases m reply setting k call home client home_lock next leads =
    work_hands who s t home client home_lock m.tree reply (home ∷ leases_next next) book order setting.cloud m.work (making_later (store_of book order s) s.now t.now m call.later k).work comes
  where
    led : (n : Next Making CkptAnswer) → MakingLeads m reply n → (x : Claim) → IsIn (leases_next n) x → Led m.tree m.work reply x
    led (Goes n) l x there = record { next = Goes n.work; leads = l.1; there = there }
    led (Ends n y) l x there = record { next = Ends n.work y; leads = l.1; there = there }
    led (Stops n trouble) l x there = record { next = Stops n.work trouble; leads = l.1; there = there }

    comes : (x : Claim) → IsIn (home ∷ leases_next next) x → (home ≡ x) ⊎ Led m.tree m.work reply x
    comes x there = on (in_either (home ∷ []) (leases_next next) x there)
      where
        on : IsIn (home ∷ []) x ⊎ IsIn (leases_next next) x → (home ≡ x) ⊎ Led m.tree m.work reply x
        on (inl h) = inl (get_single home h.0 x h.1)
        on (inr n) = inr (led next leads x n)

-- and wherever it leads the home's lease is in hand
pub making_home_handles : (who : Caller) (s t : CloudState) (book : Book) (order : List Entry) (parts : Parts) (leases : List Claim) (m : Making) (reply : Answer)
    → Setting (footing book order s) t.now (actor parts who.session leases) → KnowsMaking (store_of book order s) s.now m → IsCall who (making_ask m) reply s t → (home : Claim) (client : ℕ)
    → home.lock ≡ lock.Client client → Handles (exchange who s t (making_ask m) reply) (home ∷ leases_of_making m) (home ∷ [])
making_home_handles who s t book order parts leases m reply setting k call home client home_lock =
    work_hands who s t home client home_lock m.tree reply (home ∷ []) book order setting.cloud m.work (making_later (store_of book order s) s.now t.now m call.later k).work
    (λ x there. inl (get_single home there.0 x there.1))

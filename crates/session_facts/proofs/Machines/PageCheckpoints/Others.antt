-- What a page checkpoint knows survives the calls of others.
use Rattle.std.proofs.Common.{◌≡◌, ◌≤◌, inl, inr, ℕ, zero, List, Option, Some, None, refl, sym, ap, subst, ◌∙◌, arith}
use Rattle.ckpt_parts.specs.Leasing.{claims_of}
use Rattle.ckpt_parts.specs.declared.leases.Leases.{Leases}
use Rattle.cloud_facts.specs.Calls.Others.{Others}
use Rattle.cloud_facts.proofs.Calls.Guarding.{others_itself}
use Rattle.cloud_facts.specs.Words.{IsClient, PuItem, Leaf, Claim, Lasts, Link, Store, Node, Leafy, IsIn}
use Rattle.cloud_trait.specs.Growth.{BeginsWith}
use Rattle.db_base.specs.Change.{key_of}
use Rattle.db_base.specs.declared.names.Lock.TheVariants as lock
use Rattle.leaf_view.specs.Lookup.{empty_leaf}
use Rattle.page_ckpt.specs.Paging.{Paging}
use Rattle.page_ckpt.specs.declared.link.Link.{Link as Found}
use Rattle.page_ckpt.specs.declared.stage.Stage.{Stage}
use Rattle.page_ckpt.specs.declared.stage.Stage.TheVariants.{TakingHome, GettingHome, Receiving, TakingRight, GettingRight, PuttingRight, ReleasingRight, PuttingHome, Deleting as DeletingNext, Releasing, Finished}
use Rattle.run_cursor.specs.Run.{Taken}
use Rattle.session_facts.proofs.Machines.Runs.Marks.{run_stays, delete_stays}
use Rattle.cloud_facts.specs.Book.Growth.{Grows}
use Rattle.cloud_facts.specs.Book.Telling.{last_or}
use Rattle.session_facts.specs.Machines.PageCheckpoints.Knows.{leaf_put, right_of, work_of, HoldsPage, HoldsRight, HasRight, ComesOn, KnowsPagingAt, KnowsPaging, leases_of_paging}
use Rattle.session_facts.specs.Machines.PageCheckpoints.Rights.{page_work, IsLanded, IsNewestLeaf, ReadLeaf, HasRun, AreDone, IsUptoLink, RunLeads, ComesRight, PutsRight, LeavesRight}
use Rattle.session_facts.proofs.Machines.Walks.Caches.{in_grown}

-- ---- leases in hand

-- the page's lease is in hand
pub in_held : (tree page : ℕ) (held : Leases) (h : HoldsPage tree page held) → IsIn (claims_of held) h.lease
in_held tree page held h = subst (λ (l : Leases). IsIn (claims_of l) h.lease) (sym h.is) (zero, refl)

-- so are both
pub in_both : (tree page right : ℕ) (held : Leases) (h : HoldsRight tree page right held) → IsIn (claims_of held) h.lease × IsIn (claims_of held) h.second
in_both tree page right held h =
    subst (λ (l : Leases). IsIn (claims_of l) h.lease × IsIn (claims_of l) h.second) (sym h.is) ((1, refl), (zero, refl))

-- ---- what only grows

pub landed_stays : (nodes more : ℕ → List Node) (page : ℕ) (l : Leaf) → BeginsWith (nodes page) (more page) → IsLanded nodes page l → IsLanded more page l
landed_stays nodes more page l begins (inl empty) = inl empty
landed_stays nodes more page l begins (inr there) = inr (in_grown (nodes page) (more page) (Leafy l) begins there)

pub upto_stays : (links more : List Link) → ((link : Link) → IsIn links link → IsIn more link) → (low : List ℕ) (page : ℕ) → IsUptoLink links low page → IsUptoLink more low page
upto_stays links more stay low page k = record { link = k.link; linked = stay k.link k.linked; page_is = k.page_is; upto = k.upto }

pub leads_stays : (links more : List Link) → ((link : Link) → IsIn links link → IsIn more link) → (low : List ℕ) (bound : Option (List ℕ)) (run : List PuItem) (o : Option Found)
    → RunLeads links low bound run o → RunLeads more low bound run o
leads_stays links more stay low bound run (Some l) k = (stay (record { low = l.low; page = l.page }) k.0, k.1, k.2)
leads_stays links more stay low bound run None k = k

pub done_stays : (st su : Store) (tree queue : ℕ) (run : List PuItem) (from upto : Option (List ℕ)) → Grows st su → ((x : PuItem) → IsIn run x → IsClient x.rec.client)
    → AreDone st tree queue run from upto → AreDone su tree queue run from upto
done_stays st su tree queue run from upto grows clients k x there beyond below =
    let old = k x there beyond below in
    let rises = grows.done tree (key_of x.rec.change) queue x.rec.client (clients x there) in
    omega (arith, old, rises)

pub has_run_stays : (st su : Store) (tree page : ℕ) (home : Leaf) (run : Taken) (ids : List ℕ) → Grows st su → HasRun st tree page home run ids → HasRun su tree page home run ids
has_run_stays st su tree page home run ids grows k =
    let l = grows.links tree 0 k.linked.link (k.linked.place, k.linked.linked) in
    record {
      from = k.from;
      took = run_stays st su tree page k.from run ids grows k.took;
      linked = record { place = l.0; link = k.linked.link; linked = l.1; page_is = k.linked.page_is };
      low = k.low;
      keys = k.keys;
    }

-- ---- a leaf that was read, where its page is as it was while the lease lasts

pub read_stays : (st su : Store) (now later tree page : ℕ) (lease : Claim) (l : Leaf) → now ≤ later → Grows st su
    → (Lasts later lease → IsNewestLeaf (st.tally.nodes tree) page l → su.tally.nodes tree page ≡ st.tally.nodes tree page) → ReadLeaf st now tree page lease l
    → ReadLeaf su later tree page lease l
read_stays st su now later tree page lease l after grows same k = record {
  landed = landed_stays (st.tally.nodes tree) (su.tally.nodes tree) page l (grows.nodes tree page) k.landed;
  newest = λ lasts.
      let old = k.newest (omega (arith, lasts, after)) in
      let here = same lasts old in
      record { is = ap (λ (ns : List Node). last_or (Leafy empty_leaf) ns) here ∙ old.is; absent = λ none. old.absent (sym here ∙ none) };
}

pub comes_stays : (st su : Store) (now later tree page : ℕ) (lease : Claim) (home : Leaf) (run : Taken) (ids visited : List ℕ) (at : Found) → Grows st su → ReadLeaf su later tree page lease home
    → ComesRight st now (page_work tree page home run ids) lease visited at → ComesRight su later (page_work tree page home run ids) lease visited at
comes_stays st su now later tree page lease home run ids visited at grows read k = record {
  read = read;
  runs = has_run_stays st su tree page home run ids grows k.runs;
  linked = grows.links tree 0 (record { low = at.low; page = at.page }) k.linked;
  elsewhere = k.elsewhere;
  home_behind = upto_stays (st.book.chain tree 0) (su.book.chain tree 0) (grows.links tree 0) at.low page k.home_behind;
  behind = λ p is. upto_stays (st.book.chain tree 0) (su.book.chain tree 0) (grows.links tree 0) at.low p (k.behind p is);
  applied = done_stays st su tree page run.items home.high (Some at.low) grows k.runs.took.clients k.applied;
}

-- ---- the calls of others

module _ (st su : Store) (now later : ℕ) (p : Paging) (after : now ≤ later) (o : Others (leases_of_paging p) later st su) where
  grows : Grows st su
  grows = o.passes.grows

  stay : (link : Link) → IsIn (st.book.chain p.tree 0) link → IsIn (su.book.chain p.tree 0) link
  stay = grows.links p.tree 0

  reads : (page : ℕ) (lease : Claim) (l : Leaf) → IsIn (leases_of_paging p) lease → lease.lock ≡ lock.Page p.tree page → ReadLeaf st now p.tree page lease l
      → ReadLeaf su later p.tree page lease l
  reads page lease l held is k =
      read_stays st su now later p.tree page lease l after grows
      (λ lasts newest. o.leaf lease p.tree page held is lasts (record { leaf = l; is = newest.is; absent = newest.absent })) k

  comes : (lease : Claim) → IsIn (leases_of_paging p) lease → lease.lock ≡ lock.Page p.tree p.page → ComesOn st now p lease → ComesOn su later p lease
  comes lease held is k =
      comes_stays st su now later p.tree p.page lease p.home p.run p.deletions.ids p.visited p.at grows (reads p.page lease p.home held is k.read) k

  comes_on : (h : HasRight p) → ComesOn st now p h.lease → ComesOn su later p h.lease
  comes_on h k = comes h.lease (in_both p.tree p.page p.at.page p.held h).0 h.lock_is k

  right_stays : (h : HasRight p) → PutsRight st now (work_of p) h.second (right_of p) (leaf_put p)
      → PutsRight su later (work_of p) h.second (right_of p) (leaf_put p)
  right_stays h k = record {
    leaf = k.leaf;
    read = reads p.at.page h.second k.leaf (in_both p.tree p.page p.at.page p.held h).1 h.second_is k.read;
    low = k.low;
    leads = leads_stays (st.book.chain p.tree 0) (su.book.chain p.tree 0) stay p.at.low k.leaf.high p.run.items p.onward k.leads;
    puts = k.puts;
    applies = k.applies;
  }

  leaves_stays : ((x : PuItem) → IsIn p.run.items x → IsClient x.rec.client) → LeavesRight st (work_of p) (right_of p)
      → LeavesRight su (work_of p) (right_of p)
  leaves_stays clients k = record {
    upto = k.upto;
    leads = leads_stays (st.book.chain p.tree 0) (su.book.chain p.tree 0) stay p.at.low k.upto p.run.items p.onward k.leads;
    applied = done_stays st su p.tree p.page p.run.items p.home.high k.upto grows clients k.applied;
  }

  at_stays : (stage : Stage) → KnowsPagingAt stage st now p → KnowsPagingAt stage su later p
  at_stays TakingHome a = a
  at_stays GettingHome a = a
  at_stays Receiving a = record {
    has = a.has;
    fresh = a.fresh;
    read = reads p.page a.has.lease p.home (in_held p.tree p.page p.held a.has) a.has.lock_is a.read;
    covered = λ client is. let old = a.covered client is in let rises = grows.cursor p.tree p.page client is in omega (arith, old, rises);
  }
  at_stays TakingRight a = (a.0, comes a.0.lease (in_held p.tree p.page p.held a.0) a.0.lock_is a.1)
  at_stays GettingRight a = (a.0, comes_on a.0 a.1)
  at_stays PuttingRight a = (a.0, comes_on a.0 a.1, right_stays a.0 a.2)
  at_stays ReleasingRight a = (a.0, comes_on a.0 a.1, leaves_stays a.1.runs.took.clients a.2)
  at_stays PuttingHome a = (
    a.0,
    record {
      read = reads p.page a.0.lease p.home (in_held p.tree p.page p.held a.0) a.0.lock_is a.1.read;
      runs = has_run_stays st su p.tree p.page p.home p.run p.deletions.ids grows a.1.runs;
      rest = done_stays st su p.tree p.page p.run.items p.home.high None grows a.1.runs.took.clients a.1.rest;
      puts = a.1.puts;
      applies = a.1.applies;
    },
  )
  at_stays DeletingNext a = (a.0, delete_stays st su p.tree p.page p.deletions.ids grows a.1, a.2)
  at_stays Releasing a = a
  at_stays Finished never = never

pub paging_others : (st su : Store) (now later : ℕ) (p : Paging) → now ≤ later → Others (leases_of_paging p) later st su → KnowsPaging st now p → KnowsPaging su later p
paging_others st su now later p after o k = record { tree = k.tree; page = k.page; may = k.may; waits = k.waits; at = at_stays st su now later p after o p.stage k.at }

-- time goes on
pub paging_later : (st : Store) (now later : ℕ) (p : Paging) → now ≤ later → KnowsPaging st now p → KnowsPaging st later p
paging_later st now later p after k = paging_others st st now later p after (others_itself (leases_of_paging p) later st) k

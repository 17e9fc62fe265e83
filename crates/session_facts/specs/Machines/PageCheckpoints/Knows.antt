-- What a page checkpoint knows at each of its calls, in trees of any height.
use Rattle.std.specs.Prelude.{ℕ, ◌≡◌, ◌≢◌, ◌≤◌, ◌⊎◌, List, [], ◌∷◌, ◌++◌, map, Some, None}
use Rattle.ckpt_parts.specs.declared.leases.Leases.{Leases}
use Rattle.ckpt_parts.specs.Leasing.{no_leases, claims_of}
use Rattle.cloud_facts.specs.Words.{IsClient, IsTree, Trouble, Answer, Claim, Ask, PutHeld, Goes, Ends, Stops, Store}
use Rattle.db_base.specs.Ids.{IsPage}
use Rattle.db_base.specs.declared.names.Lock.TheVariants as lock
use Rattle.db_base.specs.declared.names.ObjName.TheVariants as object
use Rattle.db_base.specs.declared.trouble.Trouble.TheVariants as trouble
use Rattle.history.specs.Audited.{Audited, applied_entry}
use Rattle.leaf_view.specs.Lookup.{number_of as done_number}
use Rattle.page_ckpt.specs.Paging.{Paging, Step, PagingLeads}
use Rattle.page_ckpt.specs.declared.stage.Stage.{Stage}
use Rattle.page_ckpt.specs.declared.stage.Stage.TheVariants.{TakingHome, GettingHome, Receiving, TakingRight, GettingRight, PuttingRight, ReleasingRight, PuttingHome, Deleting as DeletingNext, Releasing, Finished}
use Rattle.session_facts.specs.Machines.Runs.Knows.{MayDelete}
use Rattle.session_facts.specs.Sessions.Spent.{IsOfPaging}
use Rattle.session_facts.specs.Machines.PageCheckpoints.Rights.{page_work, LeafPut, RightPage, PageWork, ReadLeaf, ComesRight, PutsRight, LeavesRight, PutsHome}

-- ---- leases

-- the page's lease is held, and no other
pub record HoldsPage (tree page : ℕ) (held : Leases) : Type 0 where
  pub lease : Claim
  pub is : held ≡ record { first = Some lease; second = None }
  pub lock_is : lease.lock ≡ lock.Page tree page

-- the page's lease is held, and then that of another page
pub record HoldsRight (tree page right : ℕ) (held : Leases) : Type 0 where
  pub lease : Claim
  pub second : Claim
  pub is : held ≡ record { first = Some lease; second = Some second }
  pub lock_is : lease.lock ≡ lock.Page tree page
  pub second_is : second.lock ≡ lock.Page tree right
  pub elsewhere : right ≢ page

abbrev pub HasPage : Paging → Type 0
HasPage p = HoldsPage p.tree p.page p.held

abbrev pub HasRight : Paging → Type 0
HasRight p = HoldsRight p.tree p.page p.at.page p.held

-- the one or the two are held
abbrev pub HasLeases : Paging → Type 0
HasLeases p = HoldsPage p.tree p.page p.held ⊎ ((right : ℕ) × HoldsRight p.tree p.page right p.held)

-- ---- why it stops

-- the page is the one that was named, and not page 1, which is a leaf in each tree
abbrev pub IsNamedOne : ℕ → ℕ → Type 0
IsNamedOne page named = (named ≡ page) × (page ≢ 1)

-- It stops for no fault of the tree: no message, page, fence or way is ever broken, and of pages the named one alone may be absent or no
-- leaf, unless it is page 1.
abbrev pub MayStopPage : ℕ → Trouble → Type 0
MayStopPage page trouble.Failed = Unit {0}
MayStopPage page (trouble.Late end now) = Unit {0}
MayStopPage page (trouble.Busy lock until) = Unit {0}
MayStopPage page (trouble.Absent named) = IsNamedOne page named
MayStopPage page (trouble.NotALeaf named) = IsNamedOne page named
MayStopPage page (trouble.Damaged place offset) = ⊥
MayStopPage page (trouble.BadFence named expected found) = ⊥
MayStopPage page (trouble.Loop named) = ⊥
MayStopPage page (trouble.Exhausted what) = IsOfPaging what
MayStopPage page (trouble.Waiting have need) = ⊥
MayStopPage page (trouble.Stale named least got) = ⊥
MayStopPage page trouble.Memory = Unit {0}

-- ---- by its stage

-- The page was read: its own numbers of its queue are at most the cursor, and no right page was come to.
pub record ReadHome (st : Store) (now : ℕ) (p : Paging) : Type 0 where
  pub has : HasPage p
  pub fresh : p.visited ≡ []
  pub read : ReadLeaf st now p.tree p.page has.lease p.home
  pub covered : (client : ℕ) → IsClient client → done_number p.home.done p.page client ≤ st.tally.cursor p.tree p.page client

-- the page, the right page at hand, and the leaf that is put
abbrev pub work_of : Paging → PageWork
work_of p = page_work p.tree p.page p.home p.run p.deletions.ids

abbrev pub right_of : Paging → RightPage
right_of p = record { at = p.at; onward = p.onward }

abbrev pub leaf_put : Paging → LeafPut
leaf_put p = record { applying = p.applying; out = p.out }

-- it is on its way to the right, under the lease of its page
abbrev pub ComesOn : Store → ℕ → Paging → Claim → Type 0
ComesOn st now p lease = ComesRight st now (work_of p) lease p.visited p.at

-- there is an id to be deleted
abbrev pub HasIds : Paging → Type 0
HasIds p = (id : ℕ) × (rest : List ℕ) × (p.deletions.ids ≡ id ∷ rest)

abbrev pub KnowsPagingAt : Stage → Store → ℕ → Paging → Type 0
KnowsPagingAt TakingHome st now p = (p.held ≡ no_leases) × (p.visited ≡ [])
KnowsPagingAt GettingHome st now p = HasPage p × (p.visited ≡ [])
KnowsPagingAt Receiving st now p = ReadHome st now p
KnowsPagingAt TakingRight st now p = (has : HasPage p) × ComesOn st now p has.lease
KnowsPagingAt GettingRight st now p = (has : HasRight p) × ComesOn st now p has.lease
KnowsPagingAt PuttingRight st now p =
    (has : HasRight p) × ComesOn st now p has.lease × PutsRight st now (work_of p) has.second (right_of p) (leaf_put p)
KnowsPagingAt ReleasingRight st now p = (has : HasRight p) × ComesOn st now p has.lease × LeavesRight st (work_of p) (right_of p)
KnowsPagingAt PuttingHome st now p = (has : HasPage p) × PutsHome st now (work_of p) has.lease (leaf_put p)
KnowsPagingAt DeletingNext st now p = HasPage p × MayDelete st p.tree p.page p.deletions.ids × HasIds p
KnowsPagingAt Releasing st now p = HasLeases p
KnowsPagingAt Finished st now p = ⊥

-- a trouble waits only while leases are given back
abbrev pub TroubleWaits : Paging → Type 0
TroubleWaits p = (p.stage ≡ Releasing) ⊎ (p.trouble ≡ None)

-- what it knows before a call
pub record KnowsPaging (st : Store) (now : ℕ) (p : Paging) : Type 0 where
  pub tree : IsTree p.tree
  pub page : IsPage p.page
  pub may : (t : Trouble) → p.trouble ≡ Some t → MayStopPage p.page t
  pub waits : TroubleWaits p
  pub at : KnowsPagingAt p.stage st now p

-- what the checkpoint of a page knows where an answer leads, and why it stops where it does
abbrev pub KnowsNext : Store → ℕ → ℕ → Step → Type 0
KnowsNext st now page (Goes p) = KnowsPaging st now p
KnowsNext st now page (Ends p a) = Unit {0}
KnowsNext st now page (Stops p t) = MayStopPage page t

-- what it knows after an answer, wherever that leads
abbrev pub KnowsAfter : Paging → Answer → Store → ℕ → Type 0
KnowsAfter p reply st now = (next : Step) → PagingLeads p reply next → KnowsNext st now p.page next

-- ---- its leases, and what its puts add to the audit

abbrev pub leases_of_paging : Paging → List Claim
leases_of_paging p = claims_of p.held

abbrev pub leases_next : Step → List Claim
leases_next (Goes p) = leases_of_paging p
leases_next (Ends p a) = []
leases_next (Stops p t) = []

abbrev pub paging_note : Paging → Ask → Audited → Audited
paging_note p (PutHeld (object.Page tree page) bytes one two) a = record a { order = a.order ++ map (applied_entry tree) p.applying }
paging_note p ask a = a

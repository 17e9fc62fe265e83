-- What a settling knows of a cloud at each of its calls.
use Rattle.std.specs.Prelude.{ℕ, ◌≡◌, List, [], ◌++◌, map, Some, None}
use Rattle.cloud_facts.specs.Words.{Trouble, Answer, Claim, Ask, PutHeld, Goes, Ends, Stops, Store, IsIn}
use Rattle.db_base.specs.declared.names.ObjName.TheVariants as object
use Rattle.db_base.specs.declared.trouble.Trouble.TheVariants as trouble
use Rattle.history.specs.Audited.{Audited, applied_entry}
use Rattle.cloud_facts.specs.Homes.Homes.{Part, Away}
use Rattle.session_facts.specs.Machines.Openings.Knows.{KnowsOpening, leases_of_recovery}
use Rattle.page_ckpt.specs.Paging.{Paging}
use Rattle.page_ckpt.specs.declared.stage.Stage.{Stage}
use Rattle.page_ckpt.specs.declared.stage.Stage.TheVariants.{TakingHome, GettingHome}
use Rattle.session_facts.specs.Machines.PageCheckpoints.Knows.{KnowsPaging, leases_of_paging}
use Rattle.session_facts.specs.Machines.PageCheckpoints.Rights.{IsLanded, IsUptoLink}
use Rattle.recover_run.specs.declared.stage.Aim.TheVariants as aim
use Rattle.recover_run.specs.Recovery.{Recovery}
use Rattle.settle_run.specs.declared.part.Part.{Part as AtWork}
use Rattle.settle_run.specs.declared.part.Part.TheVariants.{Client, Tree, Page}
use Rattle.settle_run.specs.Parts.{part_applying}
use Rattle.settle_run.specs.Settling.{Settling, Step, SettleLeads}
use Rattle.tree_ckpt.specs.Making.{Making}
use Rattle.session_facts.specs.Machines.TreeCheckpoints.Knows.{KnowsMaking, leases_of_making}

-- ---- by what is at work

-- the client is recovered: the session has its part from the read of the head on, and leaves it with the lease
pub record Recovers (st : Store) (now client : ℕ) (m : Recovery) (part : Part) : Type 0 where
  pub client_is : m.client ≡ client
  pub aim_is : m.aim ≡ aim.Settling
  pub knows : KnowsOpening st now m part

-- a checkpoint of the tree is at work, and the session has no client
pub record MakesTree (st : Store) (now tree : ℕ) (m : Making) (part : Part) : Type 0 where
  pub tree_is : m.tree ≡ tree
  pub knows : KnowsMaking st now m
  pub away : part ≡ Away

-- a checkpoint of the page is at work, and the session has no client
pub record MakesPage (st : Store) (now tree page : ℕ) (m : Paging) (part : Part) : Type 0 where
  pub tree_is : m.tree ≡ tree
  pub page_is : m.page ≡ page
  pub knows : KnowsPaging st now m
  pub away : part ≡ Away

abbrev pub KnowsAtWork : Store → ℕ → AtWork → Part → Type 0
KnowsAtWork st now (Client client m) part = Recovers st now client m part
KnowsAtWork st now (Tree tree m) part = MakesTree st now tree m part
KnowsAtWork st now (Page tree page m) part = MakesPage st now tree page m part

-- ---- the way to the right

-- the page was read
abbrev pub IsPast : Stage → Type 0
IsPast TakingHome = ⊥
IsPast GettingHome = ⊥
IsPast stage = Unit {0}

-- no page is absent, and none is no leaf
abbrev pub IsOfNoPage : Trouble → Type 0
IsOfNoPage (trouble.Absent page) = ⊥
IsOfNoPage (trouble.NotALeaf page) = ⊥
IsOfNoPage t = Unit {0}

-- what a checkpoint has of its page once it read it landed, and it stops for no page
pub record ReadsPage (st : Store) (tree page : ℕ) (m : Paging) : Type 0 where
  pub landed : m.trouble ≡ None → IsPast m.stage → IsLanded (st.tally.nodes tree) page m.home
  pub fair : (t : Trouble) → m.trouble ≡ Some t → IsOfNoPage t

-- the page is that of a link of the leaf chain, and no page whose own checkpoints began is further right
pub record ComesTo (st : Store) (tree page : ℕ) (visited : List ℕ) : Type 0 where
  pub low : List ℕ
  pub linked : IsIn (st.book.chain tree 0) (record { low = low; page = page })
  pub behind : (p : ℕ) → IsIn visited p → IsUptoLink (st.book.chain tree 0) low p

abbrev pub KnowsWay : Store → AtWork → List ℕ → Type 0
KnowsWay st (Client client m) visited = Unit {0}
KnowsWay st (Tree tree m) visited = Unit {0}
KnowsWay st (Page tree page m) visited = ComesTo st tree page visited × ReadsPage st tree page m

-- a settling knows what its part at work knows, and where it is on its way to the right
pub record KnowsSettling (st : Store) (now : ℕ) (s : Settling) (part : Part) : Type 0 where
  pub work : KnowsAtWork st now s.part part
  pub way : KnowsWay st s.part s.visited

-- ---- where an answer leads

-- a settling that is over has left every client
abbrev pub KnowsNext : Step → Store → ℕ → Part → Type 0
KnowsNext (Goes n) st now part = KnowsSettling st now n part
KnowsNext (Ends n x) st now part = part ≡ Away
KnowsNext (Stops n t) st now part = part ≡ Away

-- what is known after an answer, wherever that leads
abbrev pub KnowsAfter : Settling → Answer → Store → ℕ → Part → Type 0
KnowsAfter s reply st now part = (next : Step) → SettleLeads s reply next → KnowsNext next st now part

-- ---- its leases, and what its puts add to the audit

abbrev pub leases_at_work : AtWork → List Claim
leases_at_work (Client client m) = leases_of_recovery m
leases_at_work (Tree tree m) = leases_of_making m
leases_at_work (Page tree page m) = leases_of_paging m

abbrev pub leases_of_settling : Settling → List Claim
leases_of_settling s = leases_at_work s.part

abbrev pub leases_next : Step → List Claim
leases_next (Goes n) = leases_of_settling n
leases_next (Ends n x) = []
leases_next (Stops n t) = []

-- the put of a page applies the items of its checkpoint, and the put of a head commits nothing
abbrev pub note_at_work : AtWork → Ask → Audited → Audited
note_at_work w (PutHeld (object.Page tree page) bytes one two) a = record a { order = a.order ++ map (applied_entry tree) (part_applying w) }
note_at_work w ask a = a

abbrev pub settling_note : Settling → Ask → Audited → Audited
settling_note s ask a = note_at_work s.part ask a

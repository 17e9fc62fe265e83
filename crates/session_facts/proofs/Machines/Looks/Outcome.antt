-- Look-ups over a cloud: they begin, go on from walk to walk, and stop for no fault of the tree or of its index.
use Rattle.std.proofs.Common.{◌≡◌, ℕ, Bool, true, false, cond, List, [], ◌∷◌, Option, Some, None, sym, ap, subst, ◌∙◌, arith}
use Rattle.attr_index.specs.Look.{Query, Own, Look, look_ask, look_ready, look_next, bound_of, index_walk, set_out, new_look, walks, to_first, to_record, behind_leaf, with_keys, with_found, leaf_read, leaf_read_at, walked}
use Rattle.attr_index.specs.Prefix.{prefix_of}
use Rattle.attr_index.specs.declared.stage.Stage.{Stage}
use Rattle.attr_index.specs.declared.stage.Stage.TheVariants.{Index, Records}
use Rattle.byte_format.specs.Order.{below_bound}
use Rattle.cloud_facts.specs.Words.{IsTree, Trouble, Entry, Leaf, Answer, CloudState, Caller, Next, Goes, Ends, Stops, Book, Store, store_of, IsCall, StandsUnder}
use Rattle.cloud_facts.specs.Book.Growth.{Grows}
use Rattle.cloud_facts.specs.Chains.Chain.{ChainHolds}
use Rattle.db_base.specs.Ids.{index_of}
use Rattle.page_cache.specs.Cache.{Cache}
use Rattle.page_cache.specs.Held.{leaf_at}
use Rattle.session_facts.specs.Machines.Looks.Knows.{IsIndexed, KnowsLook, KnowsLooking, LookLeads}
use Rattle.session_facts.specs.Machines.Walks.Caches.{KnowsCache}
use Rattle.session_facts.specs.Machines.Walks.Knows.{MayStopWalk, WalkLeads}
use Rattle.session_facts.proofs.Machines.Walks.Outcome.{walk_begins, walk_goes, walk_grows}
use Rattle.tree_walk.specs.Walk.{Walk, new_walk, walk_next}

-- a tree with an index is a tree, and so is the index
indexed_tree : (tree : ℕ) → IsIndexed tree → IsTree tree
indexed_tree tree is = let few = is.most in record { some = is.some; most = omega (arith, few) }

index_tree : (tree : ℕ) → IsIndexed tree → IsTree (index_of tree)
index_tree tree is = let few = is.most in record { some = omega arith; most = omega (arith, few) }

module _ (st : Store) (h : ChainHolds st) where
  -- ---- where local work leads

  -- a walk on which a look-up sets out goes on to its first call; it stops for nothing that the cache keeps
  set_out_begins : (l : Look) (tree : ℕ) (key : List ℕ) (c : Cache) → IsIndexed l.query.tree → IsTree tree → KnowsCache st c
      → (m : Look × Cache) × (walks l (new_walk tree (Some key) false) c ≡ Goes m) × KnowsLooking st m.0 m.1
  set_out_begins l tree key c is of cache =
      let b = walk_begins st h tree (Some key) false c of cache in (
        (record l { walk = b.0.0 }, b.0.1),
        ap (set_out l) b.1,
        record { look = record { tree = is; walk = b.2.walk }; cache = b.2.cache },
      )

  -- a look-up that begins goes on to its first call, with all that it knows
  pub look_begins : (q : Query) (c : Cache) → IsIndexed q.tree → KnowsCache st c → (m : Look × Cache) × (look_ready q c ≡ Goes m) × KnowsLooking st m.0 m.1
  look_begins q c is cache = set_out_begins (new_look q) (index_of q.tree) (prefix_of q.attr) c is (index_tree q.tree is) cache

  module _ (May : Trouble → Type 0) where
    walks_lead : (l : Look) (tree : ℕ) (key : List ℕ) (c : Cache) → IsIndexed l.query.tree → IsTree tree → KnowsCache st c
        → LookLeads st May (walks l (new_walk tree (Some key) false) c)
    walks_lead l tree key c is of cache =
        let b = set_out_begins l tree key c is of cache in
        subst (LookLeads st May) (sym b.1) b.2

    -- to the next record, or to the end
    first_leads : (l : Look) (keys : List (List ℕ)) (c : Cache) → IsIndexed l.query.tree → KnowsCache st c → LookLeads st May (to_first l keys c)
    first_leads l [] c is cache = cache
    first_leads l (key ∷ keys) c is cache = walks_lead (record l { stage = Records; listed = keys }) l.query.tree key c is (indexed_tree l.query.tree is) cache

    -- to the next leaf of the index, or to the records
    behind_leads : (l : Look) (high : Option (List ℕ)) (c : Cache) → IsIndexed l.query.tree → KnowsCache st c → LookLeads st May (behind_leaf l high c)
    behind_leads l None c is cache = first_leads l l.listed c is cache
    behind_leads l (Some high) c is cache = on (below_bound high (bound_of l.query))
      where
        on : (b : Bool) → LookLeads st May (cond b (walks l (index_walk l.query high) c) (to_record l c))
        on true = walks_lead l (index_of l.query.tree) high c is (index_tree l.query.tree is) cache
        on false = first_leads l l.listed c is cache

    leaf_leads : (stage : Stage) (l : Look) (own : Own) (leaf : Leaf) (c : Cache) → IsIndexed l.query.tree → KnowsCache st c → LookLeads st May (leaf_read_at stage l own leaf c)
    leaf_leads Index l own leaf c is cache = behind_leads (with_keys l own leaf) leaf.high c is cache
    leaf_leads Records l own leaf c is cache = first_leads (with_found l own leaf) l.listed c is cache

    -- where a turn of its walk leads
    pub look_leads : (l : Look) (own : Own) (x : Next (Walk × Cache) ℕ) → IsIndexed l.query.tree → WalkLeads st May x → LookLeads st May (walked l own x)
    look_leads l own (Goes m) is k = record { look = record { tree = is; walk = k.walk }; cache = k.cache }
    look_leads l own (Ends m page) is k =
        subst (λ (o : Option Leaf). LookLeads st May (leaf_read (record l { walk = m.0 }) own o m.1)) (sym (ap (leaf_at m.1) k.1.in_hand ∙ k.1.kept))
        (leaf_leads l.stage (record l { walk = m.0 }) own k.1.leaf m.1 is k.0.cache)
    look_leads l own (Stops m t) is k = (k.0.cache, k.1)

-- ---- over a cloud

module _ (book : Book) (order : List Entry) (s : CloudState) (stands : StandsUnder book order s) where
  -- a step of a look-up
  pub look_goes : (who : Caller) (own : Own) (l : Look) (c : Cache) (a : Answer) (t : CloudState) → IsCall who (look_ask l) a s t → KnowsLooking (store_of book order s) l c
      → LookLeads (store_of book order s) MayStopWalk (look_next own (l, c) a)
  look_goes who own l c a t call k =
      look_leads (store_of book order s) stands.holds.chains MayStopWalk l own (walk_next (l.walk, c) a) k.look.tree
      (walk_goes book order s stands who l.walk c a t call (record { walk = k.look.walk; cache = k.cache }))

  -- over a cloud that started empty no look-up stops for a damaged object, a wrong fence or a loop: where it stops, a get was stale or failed, or memory
  -- ran out
  pub look_stops : (who : Caller) (own : Own) (l : Look) (c : Cache) (a : Answer) (t : CloudState) (m : Look × Cache) (trouble : Trouble) → IsCall who (look_ask l) a s t
      → KnowsLooking (store_of book order s) l c → look_next own (l, c) a ≡ Stops m trouble → MayStopWalk trouble
  look_stops who own l c a t m trouble call k e = (subst (LookLeads (store_of book order s) MayStopWalk) e (look_goes who own l c a t call k)).1

-- ---- as links and versions grow

pub look_grows : (st su : Store) → Grows st su → (l : Look) → KnowsLook st l → KnowsLook su l
look_grows st su grows l k = record { tree = k.tree; walk = walk_grows st su grows l.walk k.walk }

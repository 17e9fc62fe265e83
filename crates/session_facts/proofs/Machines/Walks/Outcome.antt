-- Walks over a cloud: they begin, go on and end at leaves that hold the key, and stop for no fault of the tree.
use Rattle.std.proofs.Common.{◌≡◌, ℕ, Bool, List, Option, Some, None, refl, sym, subst}
use Rattle.cloud_facts.specs.Chains.Chain.{ChainHolds}
use Rattle.cloud_facts.proofs.Meanings.Steps.{at_stays, passed_stays}
use Rattle.cloud_facts.specs.Words.{IsTree, Trouble, ObjName, Entry, Answer, CloudState, called, Caller, Get, Goes, Stops, got_of, Book, Store, store_of, IsCall, StandsUnder}
use Rattle.cloud_trait.specs.State.{Counts, version_at}
use Rattle.cloud_trait.specs.Weather.{counted, Weather}
use Rattle.cloud_trait.specs.declared.answer.Answer.TheVariants.{Got, Sent, Received, Listed, Done, Given, Held, Renewed, Late, Failed, Memory}
use Rattle.db_base.specs.declared.names.ObjName.TheVariants as object
use Rattle.cloud_facts.proofs.Decoding.Values.{version_decodes, read_node, read_root}
use Rattle.page_cache.specs.Cache.{Cache}
use Rattle.cloud_facts.specs.Book.Growth.{Grows}
use Rattle.cloud_facts.specs.Book.Premises.{IsLeafAtMost}
use Rattle.tree_walk.specs.Walk.{Spot, Walk, new_walk, sought, object_of, walk_ready, walk_next}
use Rattle.session_facts.specs.Machines.Walks.Caches.{KnowsCache}
use Rattle.session_facts.specs.Machines.Walks.Knows.{IsOnWay, WalkStandsAt, WasUsed, KnowsWalk, KnowsWalking, MayStopWalk, WalkLeads}
use Rattle.session_facts.proofs.Machines.Walks.Caches.{MayServe}
use Rattle.session_facts.proofs.Machines.Walks.Turns.{MayAnswer, walk_turns, walk_readies}

-- a walk that begins goes on to its first call, with all that it knows; it stops for nothing that the cache keeps
pub walk_begins : (st : Store) → ChainHolds st → (tree : ℕ) (key : Option (List ℕ)) (fresh : Bool) (c : Cache) → IsTree tree → KnowsCache st c
    → (m : Walk × Cache) × (walk_ready (new_walk tree key fresh, c) ≡ Goes m) × KnowsWalking st m.0 m.1
walk_begins st h tree key fresh c is cache =
    walk_readies st h (new_walk tree key fresh) c (record { walk = record { tree = is; stands = (refl, refl); used = tt }; cache = cache })

-- ---- over a cloud

module _ (book : Book) (order : List Entry) (s : CloudState) (stands : StandsUnder book order s) where
  served : (name : ObjName) (k : ℕ) (v : Option (List ℕ)) → v ≡ version_at (s.versions name) k → MayServe (store_of book order s) name v
  served name k None e = tt
  served (object.Head client) k (Some bytes) e = tt
  served (object.Tree tree) k (Some bytes) e =
      let root = version_decodes s (object.Tree tree) k bytes stands.decodes (sym e) in
      (root.0, root.1, read_root s tree k bytes root.0 (sym e) root.1)
  served (object.Page tree page) k (Some bytes) e =
      let node = version_decodes s (object.Page tree page) k bytes stands.decodes (sym e) in
      (node.0, node.1, read_node s tree page k bytes node.0 (sym e) node.1)

  answered : (who : Caller) (name : ObjName) (a : Answer) (t : CloudState) (before after : Counts) → Weather who (Get name) a (counted before (called who t.now s)) (counted after t)
      → MayAnswer (store_of book order s) name (got_of a)
  answered who name (Got v) t before after row = served name row.1.0 v row.1.1
  answered who name (Sent id) t before after row = absurd row
  answered who name (Received ms) t before after row = absurd row
  answered who name (Listed pages) t before after row = absurd row
  answered who name Done t before after row = absurd row
  answered who name (Given l) t before after row = absurd row
  answered who name (Held until) t before after row = absurd row
  answered who name (Renewed e) t before after row = absurd row
  answered who name (Late e n) t before after row = absurd row
  answered who name Failed t before after row = tt
  answered who name Memory t before after row = tt

  -- a get answers any landed version, or a fault
  pub call_answers : (who : Caller) (name : ObjName) (a : Answer) (t : CloudState) → IsCall who (Get name) a s t → MayAnswer (store_of book order s) name (got_of a)
  call_answers who name a t call = answered who name a t call.before call.after call.row

  -- a step of a walk
  pub walk_goes : (who : Caller) (w : Walk) (c : Cache) (a : Answer) (t : CloudState) → IsCall who (Get (object_of w)) a s t → KnowsWalking (store_of book order s) w c
      → WalkLeads (store_of book order s) MayStopWalk (walk_next (w, c) a)
  walk_goes who w c a t call k = walk_turns (store_of book order s) stands.holds.chains w c k a (call_answers who (object_of w) a t call)

  -- over a cloud that started empty no walk stops for a damaged object, a wrong fence or a loop: where it stops, a get was stale or failed, or
  -- memory ran out
  pub walk_stops : (who : Caller) (w : Walk) (c : Cache) (a : Answer) (t : CloudState) (m : Walk × Cache) (trouble : Trouble) → IsCall who (Get (object_of w)) a s t
      → KnowsWalking (store_of book order s) w c → walk_next (w, c) a ≡ Stops m trouble → MayStopWalk trouble
  walk_stops who w c a t m trouble call k e = (subst (WalkLeads (store_of book order s) MayStopWalk) e (walk_goes who w c a t call k)).1

-- ---- as links and versions grow

module _ (st su : Store) (grows : Grows st su) where
  way_grows : (tree : ℕ) (key : List ℕ) (nodes leaves : List ℕ) (s : Spot) → IsOnWay (st.book.chain tree) key nodes leaves s → IsOnWay (su.book.chain tree) key nodes leaves s
  way_grows tree key nodes leaves s k = record {
    at = at_stays (st.book.chain tree) (su.book.chain tree) (grows.links tree) s.level s.page s.low key k.at;
    nodes_behind = λ p there. passed_stays (st.book.chain tree) (su.book.chain tree) (grows.links tree) s.level s.low p (k.nodes_behind p there);
    leaves_behind = λ p there. passed_stays (st.book.chain tree) (su.book.chain tree) (grows.links tree) s.level s.low p (k.leaves_behind p there);
  }

  stands_grow : (tree : ℕ) (key : List ℕ) (nodes leaves : List ℕ) (o : Option Spot) → WalkStandsAt (st.book.chain tree) key nodes leaves o → WalkStandsAt (su.book.chain tree) key nodes leaves o
  stands_grow tree key nodes leaves None k = k
  stands_grow tree key nodes leaves (Some s) k = way_grows tree key nodes leaves s k

  pub at_most_grows : (tree page : ℕ) (key : List ℕ) → IsLeafAtMost st.book tree page key → IsLeafAtMost su.book tree page key
  at_most_grows tree page key k = record { link = k.link; linked = grows.links tree 0 k.link k.linked; page_is = k.page_is; low = k.low }

  used_grows : (tree : ℕ) (key : List ℕ) (o : Option ObjName) → WasUsed st.book tree key o → WasUsed su.book tree key o
  used_grows tree key None k = tt
  used_grows tree key (Some (object.Head client)) k = k
  used_grows tree key (Some (object.Tree t)) k = k
  used_grows tree key (Some (object.Page t page)) k = (k.0, at_most_grows tree page key k.1)

  pub walk_grows : (w : Walk) → KnowsWalk st w → KnowsWalk su w
  walk_grows w k = record {
    tree = k.tree;
    stands = stands_grow w.tree (sought w) w.nodes w.leaves w.spot k.stands;
    used = used_grows w.tree (sought w) w.used k.used;
  }

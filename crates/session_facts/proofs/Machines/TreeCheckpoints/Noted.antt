-- Each inner node that the calls of a checkpoint brought is kept on the way down.
use Rattle.std.proofs.Common.{◌≡◌, ◌⊎◌, inl, inr, ℕ, suc, List, [], ◌∷◌, ◌++◌, Option, Some, refl, ap, subst}
use Rattle.cloud_facts.specs.Words.{ObjName, Inner, Answer, Claim, Ask, GetHeld, Receive, Take, IsIn}
use Rattle.db_base.specs.declared.names.Lock.TheVariants as lock
use Rattle.db_base.specs.declared.names.ObjName.TheVariants as object
use Rattle.db_base.specs.declared.names.QueueName.TheVariants as queue
use Rattle.node_codec.specs.Inner.{inner_of}
use Rattle.tree_ckpt.proofs.Tours.{ToursAt}
use Rattle.tree_ckpt.proofs.Under.{on_ways}
use Rattle.tree_ckpt.proofs.Whole.{IsNoted}
use Rattle.tree_ckpt.specs.Causes.{Calls, WasGot}
use Rattle.tree_ckpt.specs.Meaning.{Opening, opening_calls}
use Rattle.tree_ckpt.specs.Working.{Place, looks_of}
use Rattle.tree_phases.specs.declared.chart.Chart.{Chart}
use Rattle.tree_phases.specs.declared.kept.KeptNode.{KeptNode}

-- ---- gets among calls

pub got_front : (name : ObjName) (v : Option (List ℕ)) (xs ys : Calls) → WasGot name v xs → WasGot name v (xs ++ ys)
got_front name v [] ys h = absurd h
got_front name v (x ∷ xs) ys (inl b) = inl b
got_front name v (x ∷ xs) ys (inr h) = inr (got_front name v xs ys h)

pub got_back : (name : ObjName) (v : Option (List ℕ)) (xs ys : Calls) → WasGot name v ys → WasGot name v (xs ++ ys)
got_back name v [] ys h = h
got_back name v (x ∷ xs) ys h = inr (got_back name v xs ys h)

pub got_either : (name : ObjName) (v : Option (List ℕ)) (xs ys : Calls) → WasGot name v (xs ++ ys) → WasGot name v xs ⊎ WasGot name v ys
got_either name v [] ys h = inr h
got_either name v (x ∷ xs) ys (inl b) = inl (inl b)
got_either name v (x ∷ xs) ys (inr h) = on (got_either name v xs ys h)
  where
    on : WasGot name v xs ⊎ WasGot name v ys → WasGot name v (x ∷ xs) ⊎ WasGot name v ys
    on (inl g) = inl (inr g)
    on (inr g) = inr g

-- the opening gets no page
opening_none : (tree page of : ℕ) (bytes : List ℕ) (lease : Claim) (o : Opening) → WasGot (object.Page tree page) (Some bytes) (opening_calls of lease o) → ⊥
opening_none tree page of bytes lease o (inl b) = let e : Receive (queue.TreePu of) 256 ≡ GetHeld (object.Page tree page) b.0 = ap (λ (c : Ask × Answer). c.0) b.1 in cc (e)
opening_none tree page of bytes lease o (inr (inl b)) =
    let e : GetHeld (object.Tree of) lease ≡ GetHeld (object.Page tree page) b.0 = ap (λ (c : Ask × Answer). c.0) b.1 in cc (e)
opening_none tree page of bytes lease o (inr (inr (inl b))) = let e : Take (lock.Tree of) 60 ≡ GetHeld (object.Page tree page) b.0 = ap (λ (c : Ask × Answer). c.0) b.1 in cc (e)
opening_none tree page of bytes lease o (inr (inr (inr none))) = none

-- ---- a chart keeps what was got

pub tours_noted : (lease : Claim) (c : Chart) (place : Place) (o : Opening) (work : Calls) (of page : ℕ) (bytes : List ℕ) (n : Inner) → ToursAt lease c place o work
    → inner_of bytes ≡ Some n → WasGot (object.Page c.tree page) (Some bytes) (work ++ opening_calls of lease o) → IsNoted page bytes c.nodes
tours_noted lease c place o work of page bytes n k spelt got = whole (got_either (object.Page c.tree page) (Some bytes) work (opening_calls of lease o) got)
  where
    before : WasGot (object.Page c.tree page) (Some bytes) k.before → IsNoted page bytes c.nodes
    before g =
        k.noted.0 page bytes
        (got_back (object.Page c.tree page) (Some bytes) k.looks (looks_of k.rests.visits)
        (on_ways c.tree lease c.run o.got page bytes n k.rests.visits k.rests.are spelt (subst (λ (cs : Calls). WasGot (object.Page c.tree page) (Some bytes) cs) k.rests.calls g)))

    parts : WasGot (object.Page c.tree page) (Some bytes) k.looks ⊎ WasGot (object.Page c.tree page) (Some bytes) k.before → IsNoted page bytes c.nodes
    parts (inl g) = k.noted.0 page bytes (got_front (object.Page c.tree page) (Some bytes) k.looks (looks_of k.rests.visits) g)
    parts (inr g) = before g

    whole : WasGot (object.Page c.tree page) (Some bytes) work ⊎ WasGot (object.Page c.tree page) (Some bytes) (opening_calls of lease o) → IsNoted page bytes c.nodes
    whole (inl g) = parts (got_either (object.Page c.tree page) (Some bytes) k.looks k.before (subst (λ (cs : Calls). WasGot (object.Page c.tree page) (Some bytes) cs) k.calls g))
    whole (inr g) = absurd (opening_none c.tree page of bytes lease o g)

-- ---- a node that is noted is kept

pub noted_kept : (page : ℕ) (bytes : List ℕ) (ks : List KeptNode) → IsNoted page bytes ks → (k : KeptNode) × IsIn ks k × (k.bytes ≡ bytes)
noted_kept page bytes [] h = absurd h
noted_kept page bytes (k ∷ ks) (inl same) = (k, (0, refl), same.1)
noted_kept page bytes (k ∷ ks) (inr h) = let rest = noted_kept page bytes ks h in (rest.0, (suc rest.1.0, rest.1.1), rest.2)

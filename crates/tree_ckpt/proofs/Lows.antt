-- The way down leads to no page whose low key is above the key.
use Rattle.std.proofs.Common.{◌≡◌, ℕ, Bool, true, false, cond, List, [], ◌∷◌, Option, Some, None, Result, refl, subst}
use Rattle.byte_format.specs.Order.{bytes_below}
use Rattle.node_codec.specs.Inner.{Inner}
use Rattle.node_codec.specs.Node.{Entry, child_of, later_of}
use Rattle.tree_phases.specs.Read.{tree_held}
use Rattle.tree_phases.specs.declared.fork.Fork.TheVariants.{Right, Down}
use Rattle.tree_phases.specs.Descent.{passed, arrive, with_node, descent_next}
use Rattle.tree_ckpt.specs.Moves.{entry_or}
use Rattle.tree_ckpt.specs.Way.{from_root}
use Rattle.tree_ckpt.proofs.Words.{Trouble, Answer, Next, Goes, Ends, Stops, got_of, Chart, Descent, Fork}
use Rattle.tree_ckpt.proofs.WayOutcomes.{ForkLeads, Arrives, Gets, arrives, gets}
use Rattle.tree_ckpt.proofs.WayOutcomes as way

-- a low key is not above a key
abbrev pub IsUpto : List ℕ → List ℕ → Type 0
IsUpto low key = bytes_below key low ≡ false

none_below : (key : List ℕ) → IsUpto [] key
none_below [] = refl
none_below (n ∷ ns) = refl

-- ---- entries

abbrev IfUpto : List ℕ → Option Entry → Type 0
IfUpto key None = Unit {0}
IfUpto key (Some e) = IsUpto e.0 key

later_upto : (key : List ℕ) (a b : Option Entry) → IfUpto key a → IfUpto key b → IfUpto key (later_of a b)
later_upto key a None h k = h
later_upto key a (Some e) h k = k

pub child_upto : (key : List ℕ) (es : List Entry) → IfUpto key (child_of key es)
child_upto key [] = tt
child_upto key (e ∷ es) = later_upto key (cond (bytes_below key e.0) None (Some e)) (child_of key es) (on (bytes_below key e.0) refl) (child_upto key es) where
  on : (b : Bool) → bytes_below key e.0 ≡ b → IfUpto key (cond b None (Some e))
  on true h = tt
  on false h = h

pub entry_upto : (key : List ℕ) (o : Option Entry) → IfUpto key o → IsUpto (entry_or o).0 key
entry_upto key (Some e) h = h
entry_upto key None h = none_below key

-- ---- the way

-- it has come to a page whose low key is not above the key
abbrev pub ComesUpto : Descent → Type 0
ComesUpto d = IsUpto d.low d.chart.key

abbrev pub WayUpto : {A : Type 0} → Next Descent A → Type 0
WayUpto (Goes d) = ComesUpto d
WayUpto (Ends d x) = ComesUpto d
WayUpto (Stops d t) = Unit {0}

pub passed_upto : (d : Descent) (n : Inner) (f : Fork) → ForkLeads d.chart.key n f → ComesUpto (passed d f)
passed_upto d n (Right low page) h = h.1
passed_upto d n (Down low page) h =
    subst (λ (e : Entry). IsUpto e.0 d.chart.key) h.1 (entry_upto d.chart.key (child_of d.chart.key n.entries) (child_upto d.chart.key n.entries))

way_upto : {d : Descent} {next : Next Descent (Unit {0})} → ComesUpto d → Arrives d next → WayUpto next
way_upto h (way.at_leaf d level) = h
way_upto h (way.at_node d fresh none) = h
way_upto h (way.further d k f p on) = way_upto (passed_upto d p.node f p.leads.leads) on
way_upto h w = tt

-- from the tree object
pub root_upto : (c : Chart) → ComesUpto (from_root c)
root_upto c = entry_upto c.key (child_of c.key (tree_held c.root).entries) (child_upto c.key (tree_held c.root).entries)

pub begun_upto : (c : Chart) → WayUpto (arrive (from_root c))
begun_upto c = way_upto (root_upto c) (arrives (from_root c))

gets_upto : {d : Descent} {g : Result (Option (List ℕ)) Trouble} {next : Next Descent (Unit {0})} → Gets d g next → WayUpto next
gets_upto {d = d} (way.goes_on bytes n f is leads on) = way_upto (passed_upto (with_node d bytes) n f leads.leads) on
gets_upto w = tt

pub descent_upto : (d : Descent) (a : Answer) → WayUpto (descent_next d a)
descent_upto d a = gets_upto (gets d (got_of a))

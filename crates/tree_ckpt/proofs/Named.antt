-- Each link that goes to a node that was got is named by what is put for it.
use Rattle.std.proofs.Common.{◌≡◌, ◌≤◌, ◌+◌, ◌⊎◌, ℕ, Bool, true, false, List, [], ◌∷◌, ◌++◌, Option, Some, refl, sym, ap, subst, ◌∙◌, inl, inr, arith}
use Rattle.std.specs.Prelude.{◌||◌}
use Rattle.std.specs.List.{AllByRecursion}
use Rattle.node_codec.specs.Inner.{Inner, inner_of}
use Rattle.node_codec.specs.Node.{Entry}
use Rattle.split_plan.specs.declared.entry_list.NewEntry.{NewEntry}
use Rattle.tree_phases.specs.declared.link.Link.{Link}
use Rattle.tree_phases.specs.Kept.{links_at}
use Rattle.tree_phases.specs.Read.{tree_held}
use Rattle.tree_phases.specs.Nodes.{goes_to, is_touched}
use Rattle.tree_ckpt.specs.Causes.{Calls}
use Rattle.tree_ckpt.specs.Working.{Climb, AreClimbs, IsPut, PutsNode, IsAmong, PutsEntry, HasClimbed, IsNamed, IsInRange, links_above, root_above}
use Rattle.tree_ckpt.proofs.Entries.{among_front, among_either, goes, node_names}

-- a node is touched where one of the links goes to it
pub known_touches : (n : Inner) (l : Link) (ls : List Link) → IsAmong l ls → IsInRange n l → is_touched n ls ≡ true
known_touches n l [] h k = absurd h
known_touches n l (x ∷ ls) (inl e) k = ap (λ (b : Bool). b || is_touched n ls) (ap (goes_to n) e ∙ goes n l k)
known_touches n l (x ∷ ls) (inr h) k = ap (λ (b : Bool). goes_to n x || b) (known_touches n l ls h k) ∙ or_true (goes_to n x) where
  or_true : (b : Bool) → (b || true) ≡ true
  or_true true = refl
  or_true false = refl

pub same_node : (bytes : List ℕ) (n m : Inner) → inner_of bytes ≡ Some n → inner_of bytes ≡ Some m → n ≡ m
same_node bytes n m e f = some_same n m (sym e ∙ f) where
  some_same : (a b : Inner) → Some a ≡ Some b → a ≡ b
  some_same a b g = cc (g)

-- links of one level
pub level_of : (level : ℕ) (l : Link) (es : List NewEntry) → IsAmong l (links_at level es) → l.level ≡ level
level_of level l [] h = absurd h
level_of level l (e ∷ es) (inl same) = sym (ap (λ (m : Link). m.level) same)
level_of level l (e ∷ es) (inr h) = level_of level l es h

-- a link of a lower level was known before
known_before : (level : ℕ) (l : Link) (ls : List Link) (es : List NewEntry) → l.level ≤ level → IsAmong l (ls ++ links_at (level + 1) es) → IsAmong l ls
known_before level l ls es up h = on (among_either l ls (links_at (level + 1) es) h) where
  on : IsAmong l ls ⊎ IsAmong l (links_at (level + 1) es) → IsAmong l ls
  on (inl g) = g
  on (inr g) = absurd (let higher : l.level ≡ level + 1 = level_of (level + 1) l es g in omega (arith, up, higher))

put_level : (tree : ℕ) (cs : Calls) (root : Option (List ℕ)) (links : List Link) (climbs : List Climb) (page : ℕ) (bytes : List ℕ) (n : Inner) (level : ℕ)
    → AreClimbs tree cs root links climbs → AllByRecursion (λ v. v.node.level ≤ level) climbs → IsPut page bytes climbs → inner_of bytes ≡ Some n → n.level ≤ level
put_level tree cs root links [] page bytes n level are all h e = absurd h
put_level tree cs root links (u ∷ us) page bytes n level are all (inr h) e = put_level tree cs root links us page bytes n level are.4 all.1 h e
put_level tree cs root links (u ∷ us) page bytes n level are all (inl h) e =
    let same : n ≡ are.1.0 = same_node bytes n are.1.0 e (ap inner_of (sym h.1) ∙ are.1.1) in
    let high : n.level ≡ u.node.level = ap (λ (m : Inner). m.level) same ∙ are.1.2 in
    omega (arith, high, all.0)

wider : (Has More : Entry → Type 0) (old : List Entry) (ls more : List Link) (l : Link) → ((e : Entry) → Has e → More e) → IsNamed Has old ls l → IsNamed More old (ls ++ more) l
wider Has More old ls more l step k = (k.0, step (l.low, k.0) k.1, on k.2) where
  on : IsAmong (l.low, k.0) old ⊎ IsAmong (record l { page = k.0 }) ls → IsAmong (l.low, k.0) old ⊎ IsAmong (record l { page = k.0 }) (ls ++ more)
  on (inl h) = inl h
  on (inr h) = inr (among_front (record l { page = k.0 }) ls more h)

pub climbs_name : (tree : ℕ) (cs : Calls) (root : Option (List ℕ)) (links : List Link) (climbs : List Climb) (page : ℕ) (bytes : List ℕ) (n : Inner) (l : Link)
    → AreClimbs tree cs root links climbs → IsPut page bytes climbs → inner_of bytes ≡ Some n → IsInRange n l → IsAmong l (links_above links climbs)
    → IsNamed (HasClimbed page l.level climbs) n.entries (links_above links climbs) l
climbs_name tree cs root links [] page bytes n l are h e range known = absurd h
climbs_name tree cs root links (u ∷ us) page bytes n l are (inr h) e range known =
    let low : n.level ≤ u.node.level = put_level tree cs root links us page bytes n u.node.level are.4 are.2 h e in
    let before : IsAmong l (links_above links us) = known_before u.node.level l (links_above links us) u.plan.entries (omega (arith, low, range.level)) known in
    wider (HasClimbed page l.level us) (HasClimbed page l.level (u ∷ us)) n.entries (links_above links us) (links_at (u.node.level + 1) u.plan.entries) l (λ x g. inr g)
    (climbs_name tree cs root links us page bytes n l are.4 h e range before)
climbs_name tree cs root links (u ∷ us) page bytes n l are (inl h) e range known =
    let own : inner_of u.node.bytes ≡ Some n = ap inner_of h.1 ∙ e in
    let read : are.1.0 ≡ n = same_node u.node.bytes are.1.0 n are.1.1 own in
    let high : n.level ≡ u.node.level = ap (λ (m : Inner). m.level) (sym read) ∙ are.1.2 in
    let before : IsAmong l (links_above links us) = known_before u.node.level l (links_above links us) u.plan.entries (omega (arith, high, range.level)) known in
    let put : PutsNode (tree_held (root_above root us)) u.node (links_above links us) u.plan = are.3 in
    let is : put.0 ≡ n = same_node u.node.bytes put.0 n put.1 own in
    let named : IsNamed (λ (x : Entry). PutsEntry put.0.level x u.plan.placing.puts) put.0.entries (links_above links us) l =
    node_names (tree_held (root_above root us)) u.node.page put.0 (links_above links us) u.plan.placing u.plan.entries l put.2
    (subst (λ (m : Inner). IsInRange m l) (sym is) range) before in
    wider (λ (x : Entry). PutsEntry n.level x u.plan.placing.puts) (HasClimbed page l.level (u ∷ us)) n.entries (links_above links us)
    (links_at (u.node.level + 1) u.plan.entries) l
    (λ x g. inl (h.0, subst (λ (m : ℕ). PutsEntry m x u.plan.placing.puts) (sym range.level) g))
    (subst (λ (m : Inner). IsNamed (λ (x : Entry). PutsEntry m.level x u.plan.placing.puts) m.entries (links_above links us) l) is named)

-- What a tree checkpoint knows of the tree was brought by its calls.
use Rattle.std.proofs.Common.{◌≡◌, ℕ, Bool, true, false, cond, List, [], ◌∷◌, ◌++◌, Some, refl, sym, subst, inl, inr}
use Rattle.std.specs.Prelude.{◌==◌, ◌||◌, find, take, drop}
use Rattle.std.proofs.lemmas.Bool.{eqb-true}
use Rattle.std.proofs.lemmas.List.{take-append-drop}
use Rattle.db_base.specs.declared.names.ObjName.TheVariants as object
use Rattle.leaf_view.specs.Leaf.{Leaf}
use Rattle.node_codec.specs.Inner.{Inner, inner_of}
use Rattle.node_codec.specs.Tree.{Tree}
use Rattle.run_cursor.specs.Covered.{is_seen}
use Rattle.tree_phases.specs.Kept.{place_of, with_kept}
use Rattle.tree_phases.specs.Read.{tree_held}
use Rattle.tree_phases.specs.Descent.{kept_at}
use Rattle.tree_ckpt.specs.Working.{HasLevel}
use Rattle.tree_ckpt.specs.Causes.{Calls, WasGot, WasRoot, WasNode, WasLeaf, WasRead, IsLink}
use Rattle.tree_ckpt.proofs.Words.{Answer, Ask, Chart, KeptNode, Descent}

-- ---- what is known

-- a node that was kept was got, and it is an inner node of its level
abbrev pub IsKeptNode : ℕ → KeptNode → Calls → Type 0
IsKeptNode tree k cs = WasGot (object.Page tree k.page) (Some k.bytes) cs × HasLevel k

abbrev pub AreKept : ℕ → List KeptNode → Calls → Type 0
AreKept tree [] cs = Unit {0}
AreKept tree (k ∷ ks) cs = IsKeptNode tree k cs × AreKept tree ks cs

-- what is known of the tree
pub record Charted (tree : ℕ) (c : Chart) (cs : Calls) : Type 0 where
  pub same : c.tree ≡ tree
  pub root : WasRoot tree (tree_held c.root) cs
  pub nodes : AreKept tree c.nodes cs

abbrev pub AreRead : ℕ → List ℕ → Calls → Type 0
AreRead tree [] cs = Unit {0}
AreRead tree (p ∷ ps) cs = WasRead tree p cs × AreRead tree ps cs

-- a link led to the page that it has come to, and the pages that it passed were read
pub record OnWay (tree level : ℕ) (low : List ℕ) (page : ℕ) (visited : List ℕ) (cs : Calls) : Type 0 where
  pub link : IsLink tree level low page cs
  pub seen : AreRead tree visited cs

-- ---- a call more

pub root_more : (tree : ℕ) (t : Tree) (c : Ask × Answer) (cs : Calls) → WasRoot tree t cs → WasRoot tree t (c ∷ cs)
root_more tree t c cs (inl h) = inl (h.0, h.1, inr h.2)
root_more tree t c cs (inr h) = inr (h.0, h.1, inr h.2)

node_more : (tree page : ℕ) (n : Inner) (c : Ask × Answer) (cs : Calls) → WasNode tree page n cs → WasNode tree page n (c ∷ cs)
node_more tree page n c cs h = (h.0, h.1, inr h.2)

leaf_more : (tree page : ℕ) (l : Leaf) (c : Ask × Answer) (cs : Calls) → WasLeaf tree page l cs → WasLeaf tree page l (c ∷ cs)
leaf_more tree page l c cs (inl h) = inl (h.0, h.1, inr h.2)
leaf_more tree page l c cs (inr h) = inr (h.0, h.1, inr h.2)

pub link_more : (tree level : ℕ) (low : List ℕ) (page : ℕ) (c : Ask × Answer) (cs : Calls) → IsLink tree level low page cs → IsLink tree level low page (c ∷ cs)
link_more tree level low page c cs (inl h) = inl (h.0, root_more tree h.0 c cs h.1, h.2, h.3)
link_more tree level low page c cs (inr (inl h)) = inr (inl (h.0, h.1, node_more tree h.0 h.1 c cs h.2, h.3))
link_more tree level low page c cs (inr (inr h)) = inr (inr (h.0, h.1, leaf_more tree h.0 h.1 c cs h.2, h.3, h.4))

pub kept_more : (tree : ℕ) (ks : List KeptNode) (c : Ask × Answer) (cs : Calls) → AreKept tree ks cs → AreKept tree ks (c ∷ cs)
kept_more tree [] c cs h = tt
kept_more tree (k ∷ ks) c cs h = ((inr h.0.0, h.0.1), kept_more tree ks c cs h.1)

read_more : (tree : ℕ) (ps : List ℕ) (c : Ask × Answer) (cs : Calls) → AreRead tree ps cs → AreRead tree ps (c ∷ cs)
read_more tree [] c cs h = tt
read_more tree (p ∷ ps) c cs h = ((h.0.0, inr h.0.1), read_more tree ps c cs h.1)

pub chart_more : (tree : ℕ) (m : Chart) (c : Ask × Answer) (cs : Calls) → Charted tree m cs → Charted tree m (c ∷ cs)
chart_more tree m c cs k = record { same = k.same; root = root_more tree (tree_held m.root) c cs k.root; nodes = kept_more tree m.nodes c cs k.nodes }

pub way_more : (tree level : ℕ) (low : List ℕ) (page : ℕ) (visited : List ℕ) (c : Ask × Answer) (cs : Calls) → OnWay tree level low page visited cs
    → OnWay tree level low page visited (c ∷ cs)
way_more tree level low page visited c cs k =
    record { link = link_more tree level low page c cs k.link; seen = read_more tree visited c cs k.seen }

-- ---- lists

pub read_behind : (tree : ℕ) (ps : List ℕ) (page : ℕ) (cs : Calls) → AreRead tree ps cs → WasRead tree page cs → AreRead tree (ps ++ page ∷ []) cs
read_behind tree [] page cs h r = (r, tt)
read_behind tree (p ∷ ps) page cs h r = (h.0, read_behind tree ps page cs h.1 r)

pub seen_read : (tree : ℕ) (ps : List ℕ) (page : ℕ) (cs : Calls) → AreRead tree ps cs → is_seen ps page ≡ true → WasRead tree page cs
seen_read tree [] page cs h e = absurd (cc (e))
seen_read tree (p ∷ ps) page cs h e = on (p == page) refl (seen_read tree ps page cs h.1) e where
  on : (b : Bool) → (p == page) ≡ b → (is_seen ps page ≡ true → WasRead tree page cs) → (b || is_seen ps page) ≡ true → WasRead tree page cs
  on true same rest f = subst (λ (q : ℕ). WasRead tree q cs) (eqb-true p page same) h.0
  on false same rest f = rest f

kept_apart : (tree : ℕ) (xs ys : List KeptNode) (cs : Calls) → AreKept tree (xs ++ ys) cs → AreKept tree xs cs × AreKept tree ys cs
kept_apart tree [] ys cs h = (tt, h)
kept_apart tree (x ∷ xs) ys cs h = let rest = kept_apart tree xs ys cs h.1 in ((h.0, rest.0), rest.1)

kept_both : (tree : ℕ) (xs ys : List KeptNode) (cs : Calls) → AreKept tree xs cs → AreKept tree ys cs → AreKept tree (xs ++ ys) cs
kept_both tree [] ys cs h k = k
kept_both tree (x ∷ xs) ys cs h k = (h.0, kept_both tree xs ys cs h.1 k)

pub kept_with : (tree : ℕ) (k : KeptNode) (ks : List KeptNode) (cs : Calls) → IsKeptNode tree k cs → AreKept tree ks cs → AreKept tree (with_kept k ks) cs
kept_with tree k ks cs new old =
    let front : List KeptNode = take (place_of k ks) ks in
    let back : List KeptNode = drop (place_of k ks) ks in
    let whole : front ++ back ≡ ks = take-append-drop (place_of k ks) ks in
    let parts : AreKept tree front cs × AreKept tree back cs = kept_apart tree front back cs (subst (λ (l : List KeptNode). AreKept tree l cs) (sym whole) old) in
    kept_both tree front (k ∷ back) cs parts.0 (new, parts.1)

pub kept_found : (tree page : ℕ) (ks : List KeptNode) (k : KeptNode) (cs : Calls) → AreKept tree ks cs → find (λ (n : KeptNode). n.page == page) ks ≡ Some k
    → IsKeptNode tree k cs × (k.page ≡ page)
kept_found tree page [] k cs h e = absurd (cc (e))
kept_found tree page (x ∷ xs) k cs h e = on (x.page == page) refl (kept_found tree page xs k cs h.1) e where
  on : (b : Bool) → (x.page == page) ≡ b → (find (λ (n : KeptNode). n.page == page) xs ≡ Some k → IsKeptNode tree k cs × (k.page ≡ page))
      → cond b (Some x) (find (λ (n : KeptNode). n.page == page) xs) ≡ Some k → IsKeptNode tree k cs × (k.page ≡ page)
  on true same rest f =
      let is : x ≡ k = cc (f) in
      subst (λ (n : KeptNode). IsKeptNode tree n cs × (n.page ≡ page)) is (h.0, eqb-true x.page page same)
  on false same rest f = rest f

-- a node that was got before, where the way has come
pub kept_node : (tree : ℕ) (cs : Calls) (d : Descent) (k : KeptNode) (n : Inner) → AreKept tree d.chart.nodes cs → kept_at d ≡ Some k → inner_of k.bytes ≡ Some n
    → WasNode tree d.page n cs
kept_node tree cs d k n kept at is =
    let found : IsKeptNode tree k cs × (k.page ≡ d.page) = kept_found tree d.page d.chart.nodes k cs kept at in
    (k.bytes, is, subst (λ (page : ℕ). WasGot (object.Page tree page) (Some k.bytes) cs) found.1 found.0.0)

-- The tree object as it is held and raised.
use Rattle.std.proofs.Common.{◌≡◌, ℕ, Bool, true, false, cond, eqb, List, [], ◌∷◌, Option, Some, Ok, Err, refl, sym, ap, ◌∙◌}
use Rattle.std.specs.Prelude.{◌+◌, nat_lt, unwrap_or}
use Rattle.node_codec.specs.Tree.{Tree, HasTreeSpelling, tree_bytes, empty_tree, with_child}
use Rattle.node_codec.specs.Node.{raised, with_entry}
use Rattle.node_codec.proofs.SpellingLaws.{tree_again}
use Rattle.tree_phases.specs.declared.link.Link.{Link}
use Rattle.tree_phases.specs.Read.{tree_held}
use Rattle.tree_phases.specs.Reserve.{version_spent}
use Rattle.tree_phases.specs.Root.{is_named, with_named, risen, risen_by, raised_root}

-- the tree object of its own spelling
pub held_spelled : (t : Tree) → HasTreeSpelling t → tree_held (Some (tree_bytes t)) ≡ t
held_spelled t h = ap (λ (o : Option Tree). unwrap_or o empty_tree) (tree_again t h)

cond_level : (b : Bool) (x y : Tree) → x.level ≡ y.level → (cond b x y).level ≡ y.level
cond_level true x y e = e
cond_level false x y e = refl

-- one more entry leaves the level
child_level : (low : List ℕ) (page : ℕ) (t : Tree) → (with_child low page t).level ≡ t.level
child_level low page t = cond_level (nat_lt page t.next) (record t { entries = with_entry low page t.entries }) t refl

named_level : (level : ℕ) (ls : List Link) (t : Tree) → (with_named level ls t).level ≡ t.level
named_level level [] t = refl
named_level level (l ∷ ls) t =
    named_level level ls (cond (is_named level l) (with_child l.low l.page t) t)
    ∙ cond_level (is_named level l) (with_child l.low l.page t) t (child_level l.low l.page t)

-- a tree object keeps its level while it is raised
pub raised_level : (t : Tree) (ls : List Link) (top : List (ℕ × ℕ)) (b : Tree) → raised_root t ls top ≡ Ok b → b.level ≡ t.level
raised_level t ls top b e = on (eqb t.version 18446744073709551615) e where
  on : (spent : Bool) → risen_by t.level ls top (cond spent (Err version_spent) (Ok (record t { version = t.version + 1 }))) ≡ Ok b → b.level ≡ t.level
  on true f = absurd (cc (f))
  on false f =
      let same : risen t.level ls top (record t { version = t.version + 1 }) ≡ b = cc (f) in
      sym (ap (λ (x : Tree). x.level) same) ∙ named_level t.level ls (record t { version = t.version + 1; cursor = raised t.cursor top })

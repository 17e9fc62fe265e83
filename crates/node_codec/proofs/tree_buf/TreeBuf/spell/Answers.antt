use Rattle.std.proofs.Common.{◌≡◌, ◌++◌, ◌∷◌, [], List, ℕ, refl, rules}
use Rattle.node_codec.proofs.TreeLemmas.{tree_written}
use Rattle.node_codec.proofs.tree_buf.TreeBuf.spell.Goals as goal

-- over plain lists, since the bytes of a number are long terms
joined : (none one two three four five six seven version next level cursor entries : List ℕ) → none ≡ [] → one ≡ none ++ 0x54 ∷ [] → two ≡ one ++ 1 ∷ [] → three ≡ two ++ version → four ≡ three ++ next → five ≡ four ++ level
    → six ≡ five ++ cursor → seven ≡ six ++ entries → seven ≡ (((((0x54 ∷ 1 ∷ []) ++ version) ++ next) ++ level) ++ cursor) ++ entries
joined none one two three four five six seven version next level cursor entries e0 e1 e2 e3 e4 e5 e6 e7 = rw (e7, e6, e5, e4, e3, e2, e1, e0) refl

pub returns : goal.returns
returns c =
    let b = c.self.inside in
    let out = joined _ _ _ _ _ _ _ _ _ _ _ _ _ c.requires c.in_ok-try_add_u8.ensures c.in_ok-try_add_u8-2.ensures c.in_ok-try_add_u64.ensures c.in_ok-try_add_u64-2.ensures c.in_ok-try_add_u8-3.ensures c.in_ok-try_add.ensures c.in_ok-try_add-2.ensures in
    rw (← c.self.view_is) (tree_written b.version b.next b.level b.cursor.items b.entries.items c.try_add-2.new.out.items (search rules) (search rules) c.self.invariant (rw (← c.as_slice-cursor.ensures.value, ← c.as_slice-entries.ensures.value) out))

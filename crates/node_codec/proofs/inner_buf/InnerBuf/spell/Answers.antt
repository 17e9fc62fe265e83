use Rattle.std.proofs.Common.{◌≡◌, ◌++◌, ◌∷◌, [], List, ℕ, refl, rules}
use Rattle.node_codec.proofs.InnerLemmas.{inner_written}
use Rattle.node_codec.proofs.inner_buf.InnerBuf.spell.Goals as goal

-- over plain lists, since the bytes of a number are long terms
joined : (none one two three four five six seven eight version level low right high entries : List ℕ) → none ≡ [] → one ≡ none ++ 0x49 ∷ [] → two ≡ one ++ 1 ∷ [] → three ≡ two ++ version → four ≡ three ++ level → five ≡ four ++ low
    → six ≡ five ++ right → seven ≡ six ++ high → eight ≡ seven ++ entries → eight ≡ ((((((0x49 ∷ 1 ∷ []) ++ version) ++ level) ++ low) ++ right) ++ high) ++ entries
joined none one two three four five six seven eight version level low right high entries e0 e1 e2 e3 e4 e5 e6 e7 e8 = rw (e8, e7, e6, e5, e4, e3, e2, e1, e0) refl

pub returns : goal.returns
returns c =
    let b = c.self.inside in
    let out = joined _ _ _ _ _ _ _ _ _ _ _ _ _ _ _ c.requires c.in_ok-try_add_u8.ensures c.in_ok-try_add_u8-2.ensures c.in_ok-try_add_u64.ensures c.in_ok-try_add_u8-3.ensures c.in_ok-try_add_text8.ensures c.in_ok-try_add_u64-2.ensures c.in_ok-push_high.ensures c.in_ok-try_add.ensures in
    rw (← c.self.view_is) (inner_written b.version b.level b.low b.right b.high b.entries.items c.try_add.new.out.items (search rules) c.self.invariant (rw (← c.as_slice-low.ensures, ← c.as_slice-entries.ensures.value) out))

-- What so many puts and sends bring a store to, each call that lands brings no further than one more.
use Rattle.std.proofs.Common.{◌≡◌, ◌+◌, ◌*◌, ◌≤◌, ◌⊎◌, inl, inr, ℕ, suc, Bool, true, false, cond, ◌==◌, List, [], ◌∷◌, ◌++◌, length, refl, sym, ap, subst, ◌∙◌, arith}
use Rattle.std.proofs.Math.Nat.{mul-suc, suc-mul}
use Rattle.std.proofs.lemmas.List.{length-append}
use Rattle.std.proofs.lemmas.Nat.{mul-le}
use Rattle.cloud_trait.proofs.EffectLemmas.{effect_trace}
use Rattle.cloud_facts.specs.Words.{IsTree, AtomicRec, Tree, CloudState, Caller, Ask, Get, GetHeld, PutHeld, Send, Receive, Delete, Take, Renew, Release, Store, IsIn}
use Rattle.cloud_trait.specs.Ask.{ListHeld, RemoveHeld, effect, PutsNothing, TouchesNoMessage}
use Rattle.node_codec.specs.Tree.{empty_tree}
use Rattle.cloud_facts.specs.Calls.Made.{IsMadeBy}
use Rattle.cloud_facts.specs.Chains.Landing.{MayReserve}
use Rattle.cloud_facts.specs.Chains.Links.{top_of}
use Rattle.cloud_facts.specs.Landings.Landing.{Landing, opens, settles, logs, posts, marks_log, marks_post, puts_leaf, puts_page, puts_inner, puts_root, raises_root, removes, stays}
use Rattle.cloud_facts.proofs.Book.Places.{in_either, get_single}
use Rattle.cloud_facts.proofs.Chains.Newest.{last_in}
use Rattle.cloud_facts.proofs.Decoding.Counting.{opened_few}

-- ---- squares

square_more : (n : ℕ) → suc n * suc n ≡ n * n + (2 * n + 1)
square_more n = let one = suc-mul n (suc n) in let other = mul-suc n n in omega (arith, one, other)

-- behind one put more there are so many more
square_next : (n : ℕ) → (n + 1) * (n + 1) ≡ n * n + (2 * n + 1)
square_next n = let same : n + 1 ≡ suc n = omega arith in ap (λ (m : ℕ). m * m) same ∙ square_more n

-- ---- later

pub made_later : (n m : ℕ) (st : Store) → n ≤ m → IsMadeBy n st → IsMadeBy m st
made_later n m st more made = record {
  log = let few = made.log in omega (arith, few, more);
  next = λ tree root is. let few = made.next tree root is in let squares = mul-le n n m m more more in omega (arith, few, squares);
}

-- the messages and links of a store are within so many
pub record HasFew (n : ℕ) (st : Store) : Type 0 where
  pub posts : (tree : ℕ) → length (st.tally.posts tree 0) ≤ n
  pub links : (tree : ℕ) → IsTree tree → (level : ℕ) → length (st.book.chain tree level) ≤ n + 1

-- so many pages are few
pub few_reserved : (n : ℕ) (st : Store) (tree pages : ℕ) → IsTree tree → IsMadeBy n st → HasFew n st → MayReserve st tree pages → pages ≤ 4 * n + 1
few_reserved n st tree pages of_tree made within (inl few) = let log = made.log in let posts = within.posts tree in omega (arith, few, log, posts)
few_reserved n st tree pages of_tree made within (inr (level, few)) = let links = within.links tree of_tree level in omega (arith, few, links)

module _ (n : ℕ) (st : Store) (made : IsMadeBy n st) where
  -- the tree object that stands
  top_next : (tree : ℕ) → (top_of (st.tally.roots tree)).next ≤ 2 + 4 * (n * n)
  top_next tree = on (st.tally.roots tree) refl
    where
      on : (rs : List Tree) → st.tally.roots tree ≡ rs → (top_of rs).next ≤ 2 + 4 * (n * n)
      on [] none = omega arith
      on (r ∷ rs) is = made.next tree (top_of (r ∷ rs)) (subst (λ (xs : List Tree). IsIn xs (top_of (r ∷ rs))) (sym is) (last_in empty_tree (r ∷ rs) never))
        where
          never : r ∷ rs ≡ [] → ⊥
          never e = cc

  -- a tree object lands with few pages more
  root_next : (tree pages next : ℕ) → pages ≤ 4 * n + 1 → next ≡ (top_of (st.tally.roots tree)).next + pages → next ≤ 2 + 4 * ((n + 1) * (n + 1))
  root_next tree pages next few is = let top = top_next tree in let square = square_next n in omega (arith, few, is, top, square)

  root_made : (tree : ℕ) (t : Tree) → t.next ≤ 2 + 4 * ((n + 1) * (n + 1)) → (other : ℕ) (root : Tree)
      → IsIn (cond (other == tree) (st.tally.roots tree ++ t ∷ []) (st.tally.roots other)) root → root.next ≤ 2 + 4 * ((n + 1) * (n + 1))
  root_made tree t few other root is = on (other == tree) is
    where
      old : (k : ℕ) → IsIn (st.tally.roots k) root → root.next ≤ 2 + 4 * ((n + 1) * (n + 1))
      old k is = let was = made.next k root is in let square = square_next n in omega (arith, was, square)

      new : IsIn (st.tally.roots tree) root ⊎ IsIn (t ∷ []) root → root.next ≤ 2 + 4 * ((n + 1) * (n + 1))
      new (inl is) = old tree is
      new (inr (place, is)) = subst (λ (x : Tree). x.next ≤ 2 + 4 * ((n + 1) * (n + 1))) (get_single t place root is) few

      on : (b : Bool) → IsIn (cond b (st.tally.roots tree ++ t ∷ []) (st.tally.roots other)) root → root.next ≤ 2 + 4 * ((n + 1) * (n + 1))
      on true is = new (in_either (st.tally.roots tree) (t ∷ []) root is)
      on false is = old other is

  log_made : (records : List AtomicRec) → length records ≤ 200 → length (st.book.log ++ records) ≤ 200 * (n + 1)
  log_made records few = let both = length-append st.book.log records in let log = made.log in omega (arith, both, log, few)

-- ---- each call

-- a put, a removal and a send leave a row
abbrev pub rows_behind : Ask → ℕ → ℕ
rows_behind (PutHeld name bytes one two) n = n + 1
rows_behind (RemoveHeld name l) n = n + 1
rows_behind (Send queue bytes) n = n + 1
rows_behind ask n = n

pub landing_made : (n : ℕ) (who : Caller) (st : Store) (ask : Ask) (su : Store) → IsMadeBy n st → HasFew n st → Landing who st ask su → IsMadeBy (rows_behind ask n) su
landing_made n who st ask su made within (opens client head records bytes one two e o) = record {
  log = log_made n st made records (opened_few st client head records bytes e o);
  next = (made_later n (n + 1) st (omega arith) made).next;
}
landing_made n who st ask su made within (settles client head bytes one two e o) = record {
  log = log_made n st made [] (omega arith);
  next = (made_later n (n + 1) st (omega arith) made).next;
}
landing_made n who st ask su made within (logs client bytes r o) = let m = made_later n (n + 1) st (omega arith) made in record { log = m.log; next = m.next }
landing_made n who st ask su made within (posts tree page bytes r o) = let m = made_later n (n + 1) st (omega arith) made in record { log = m.log; next = m.next }
landing_made n who st ask su made within (marks_log client id o) = record { log = made.log; next = made.next }
landing_made n who st ask su made within (marks_post tree page id o) = record { log = made.log; next = made.next }
landing_made n who st ask su made within (puts_leaf p bytes one two e takes lands there) = let m = made_later n (n + 1) st (omega arith) made in record { log = m.log; next = m.next }
landing_made n who st ask su made within (puts_page tree page node bytes one two is e first lands) =
    let m = made_later n (n + 1) st (omega arith) made in record { log = m.log; next = m.next }
landing_made n who st ask su made within (puts_inner tree page node pieces bytes one two is e lands there) =
    let m = made_later n (n + 1) st (omega arith) made in record { log = m.log; next = m.next }
landing_made n who st ask su made within (puts_root tree t bytes one two is e covers lands) = record {
  log = (made_later n (n + 1) st (omega arith) made).log;
  next = root_made n st made tree t (root_next n st made tree lands.pages t.next (few_reserved n st tree lands.pages is made within lands.few) lands.next);
}
landing_made n who st ask su made within (raises_root tree t level links bytes one two is e covers lands there) = record {
  log = (made_later n (n + 1) st (omega arith) made).log;
  next = root_made n st made tree t (let same = lands.next in root_next n st made tree 0 t.next (omega arith) (omega (arith, same)));
}
landing_made n who st ask su made within (removes tree page l is o) = let m = made_later n (n + 1) st (omega arith) made in record { log = m.log; next = m.next }
landing_made n who st ask su made within (stays asked puts touches) = on asked puts touches
  where
    on : (a : Ask) → PutsNothing a → TouchesNoMessage a → IsMadeBy (rows_behind a n) st
    on (PutHeld name bytes one two) puts touches = absurd puts
    on (RemoveHeld name l) puts touches = absurd puts
    on (Send queue bytes) puts touches = absurd touches
    on (Get name) puts touches = made
    on (GetHeld name l) puts touches = made
    on (ListHeld tree l) puts touches = made
    on (Receive queue most) puts touches = made
    on (Delete queue id) puts touches = made
    on (Take lock ticks) puts touches = made
    on (Renew l ticks) puts touches = made
    on (Release l) puts touches = made

-- as many rows there are
pub rows_many : (who : Caller) (ask : Ask) (s : CloudState) → length (effect who ask s).trace ≡ rows_behind ask (length s.trace)
rows_many who (PutHeld name bytes one two) s = length-append s.trace _
rows_many who (RemoveHeld name l) s = length-append s.trace _
rows_many who (Send queue bytes) s = length-append s.trace _
rows_many who (Get name) s = refl
rows_many who (GetHeld name l) s = refl
rows_many who (ListHeld tree l) s = refl
rows_many who (Receive queue most) s = refl
rows_many who (Delete queue id) s = refl
rows_many who (Take lock ticks) s = refl
rows_many who (Renew l ticks) s = ap length (effect_trace who (Renew l ticks) s tt)
rows_many who (Release l) s = ap length (effect_trace who (Release l) s tt)

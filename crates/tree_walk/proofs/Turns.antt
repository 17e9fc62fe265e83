-- Laws of a walk's local work.
use Rattle.std.proofs.Common.{◌≡◌, ◌≢◌, ℕ, suc, Bool, true, false, List, [], ◌∷◌, Option, Some, None, unwrap_or, refl, ap, sym, subst, ◌∙◌}
use Rattle.std.specs.Prelude.{if◌then◌else◌, IsSomeAnd}
use Rattle.byte_format.specs.Order.{bytes_below, bytes_same}
use Rattle.byte_format.proofs.OrderLemmas.{same_is}
use Rattle.tree_walk.proofs.Words.{Ends, Goes, Next, Stops, Turn, Ended, More, Stopped, ObjName, Trouble, Tree}
use Rattle.db_base.specs.declared.trouble.Trouble.TheVariants as trouble
use Rattle.node_codec.specs.Node.{Entry, child_of, later_of}
use Rattle.page_cache.specs.Cache.{Cache}
use Rattle.tree_walk.specs.Moves.{is_more, Moves, MovesBeside}
use Rattle.tree_walk.specs.Walk.{Spot, Walk, IsPromised, IsWalk, sought, spot_of, object_of, use_of, entry_for, down_to, root_read, read_kept, follow, onward, goes_through, left_by, beside}

-- ---- keys

-- the entry of a key is not above it
pub child_at_most : (key : List ℕ) (es : List Entry) (e : Entry) → child_of key es ≡ Some e → bytes_below key e.0 ≡ false
child_at_most key [] e h = absurd (cc (h))
child_at_most key (x ∷ xs) e h = rest (child_of key xs) (child_at_most key xs e) h where
  first : (b : Bool) → bytes_below key x.0 ≡ b → (if b then None else Some x) ≡ Some e → bytes_below key e.0 ≡ false
  first true same h = absurd (cc (h))
  first false same h = let is : x ≡ e = cc (h) in subst (λ (y : Entry). bytes_below key y.0 ≡ false) is same

  rest : (o : Option Entry) → (o ≡ Some e → bytes_below key e.0 ≡ false) → later_of (if bytes_below key x.0 then None else Some x) o ≡ Some e → bytes_below key e.0 ≡ false
  rest (Some y) below h = below h
  rest None below h = first (bytes_below key x.0) refl h

pub entry_is : (key : List ℕ) (es : List Entry) (e : Entry) → child_of key es ≡ Some e → entry_for key es ≡ e
entry_is key es e h = ap (λ (o : Option Entry). unwrap_or o ([], 1)) h

-- no key is below the empty one
pub below_empty : (key : List ℕ) → bytes_below key [] ≡ false
below_empty [] = refl
below_empty (b ∷ bs) = refl

promised_low : (key : List ℕ) (o : Option Spot) → IsPromised key o → bytes_below key (unwrap_or o (record { page = 1; level = 0; low = [] })).low ≡ false
promised_low key None h = below_empty key
promised_low key (Some s) h = h

-- a low key that is as promised is not above the key
pub fence_holds : (w : Walk) (low : List ℕ) → IsWalk w → bytes_same low (spot_of w).low ≡ true → bytes_below (sought w) low ≡ false
fence_holds w low ok same =
    let is : low ≡ (spot_of w).low = same_is low (spot_of w).low same in
    subst (λ (k : List ℕ). bytes_below (sought w) k ≡ false) (sym is) (promised_low (sought w) w.spot ok.promised)

-- ---- from the tree object

pub root_moves : (w used : Walk) (name : ObjName) (t : Tree) (level : ℕ) (key : List ℕ) (e : Entry) (new : Walk) (turn : Turn ℕ)
    → used ≡ record w { used = Some name } → name ≡ object_of w → level ≡ t.level → key ≡ sought w → child_of key t.entries ≡ Some e
    → Moves (down_to used level e) new turn → Moves (root_read w t) new turn
root_moves w used name t level key e new turn is named levelled keyed child h =
    let entry : e ≡ entry_for (sought w) t.entries = sym (entry_is key t.entries e child) ∙ ap (λ (k : List ℕ). entry_for k t.entries) keyed in
    let one : down_to used level e ≡ down_to (record w { used = Some name }) level e = ap (λ (v : Walk). down_to v level e) is in
    let two : down_to (record w { used = Some name }) level e ≡ down_to (use_of w) level e = ap (λ (n : ObjName). down_to (record w { used = Some n }) level e) named in
    let three : down_to (use_of w) level e ≡ down_to (use_of w) t.level e = ap (λ (l : ℕ). down_to (use_of w) l e) levelled in
    let four : down_to (use_of w) t.level e ≡ root_read w t = ap (λ (x : Entry). down_to (use_of w) t.level x) entry in
    let all : down_to used level e ≡ root_read w t = one ∙ (two ∙ (three ∙ four)) in
    subst (λ (n : Next Walk ℕ). Moves n new turn) all h

-- ---- through kept objects

-- one more of them
through_one : (c : Cache) (k : ℕ) (w : Walk) (n : Next Walk ℕ) → IsSomeAnd (read_kept w c) (λ m. m ≡ n)
    → goes_through c (suc k) w ≡ follow (goes_through c k) n
unfolding goes_through
through_one c k w n h = on (read_kept w c) h where
  on : (o : Option (Next Walk ℕ)) → IsSomeAnd o (λ m. m ≡ n) → onward (goes_through c k) w o ≡ follow (goes_through c k) n
  on None h = absurd h
  on (Some m) h = ap (follow (goes_through c k)) h

pub through_more : (c : Cache) (left k : ℕ) (w new : Walk) → left ≡ suc k → IsSomeAnd (read_kept w c) (λ m. m ≡ Goes new)
    → goes_through c k new ≡ goes_through c left w
through_more c left k w new e h = sym (ap (λ n. goes_through c n w) e ∙ through_one c k w (Goes new) h)

if_some : {X : Type 0} (P : Type 0) (Q : X → Type 0) (o : Option X) → P → IsSomeAnd o (λ m. P → Q m) → IsSomeAnd o Q
if_some P Q None p h = absurd h
if_some P Q (Some m) p h = h p

pub through_stopped : (c : Cache) (left k : ℕ) (w new : Walk) (t : Trouble) → left ≡ suc k
    → IsSomeAnd (read_kept w c) (λ m. t ≢ trouble.Memory → m ≡ Stops new t) → t ≢ trouble.Memory → goes_through c left w ≡ Stops new t
through_stopped c left k w new t e h other =
    ap (λ n. goes_through c n w) e ∙ through_one c k w (Stops new t) (if_some (t ≢ trouble.Memory) (λ m. m ≡ Stops new t) (read_kept w c) other h)

pub through_none : (c : Cache) (left k : ℕ) (w : Walk) → left ≡ suc k → read_kept w c ≡ None → goes_through c left w ≡ Goes w
unfolding goes_through
through_none c left k w e h = ap (λ n. goes_through c n w) e ∙ ap (onward (goes_through c k) w) h

pub through_end : (c : Cache) (left : ℕ) (w : Walk) → left ≡ 0 → goes_through c left w ≡ Goes w
unfolding goes_through
through_end c left w e = ap (λ n. goes_through c n w) e

-- ---- at the end of a turn

-- what was done beside the cache, which is left as the turn demands
pub beside_took : (x : Next Walk ℕ × Cache) (new : Walk) (mid end : Cache) (turn : Turn ℕ) → MovesBeside x new mid turn
    → end ≡ (if is_more turn then mid else left_by new mid) → Moves (beside x) (new, end) turn
beside_took x new mid end More h e = ap beside (ap (λ (n : Next Walk ℕ). (n, x.1)) h.0 ∙ ap (λ (c : Cache). (Goes new, c)) h.1) ∙ ap (λ (c : Cache). Goes (new, c)) (sym e)
beside_took x new mid end (Ended page) h e =
    ap beside (ap (λ (n : Next Walk ℕ). (n, x.1)) h.0 ∙ ap (λ (c : Cache). (Ends new page, c)) h.1) ∙ ap (λ (c : Cache). Ends (new, c) page) (sym e)
beside_took x new mid end (Stopped t) h e =
    λ other. ap beside (ap (λ (n : Next Walk ℕ). (n, x.1)) (h other).0 ∙ ap (λ (c : Cache). (Stops new t, c)) (h other).1) ∙ ap (λ (c : Cache). Stops (new, c) t) (sym e)

-- the same where the cache stayed as it was
pub moves_beside : (n : Next Walk ℕ) (new : Walk) (c : Cache) (turn : Turn ℕ) → Moves n new turn → MovesBeside (n, c) new c turn
moves_beside n new c More h = (h, refl)
moves_beside n new c (Ended page) h = (h, refl)
moves_beside n new c (Stopped t) h = λ other. (h other, refl)

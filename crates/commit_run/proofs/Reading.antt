-- What a commit's cache keeps was kept at its begin, or one of its calls got it; so what its walks used was read.
use Rattle.std.proofs.Common.{◌≡◌, ℕ, zero, suc, Bool, true, false, cond, List, [], ◌∷◌, ◌++◌, length, take, Option, Some, None, Result, Ok, Err, refl, sym, subst, inl, inr}
use Rattle.std.specs.Prelude.{slice_get, fold, if◌then◌else◌}
use Rattle.std.specs.List.{AllByRecursion}
use Rattle.std.specs.Map.{lookup, remove_entry}
use Rattle.db_base.specs.declared.names.ObjName.TheVariants as object
use Rattle.cloud_trait.specs.declared.answer.Answer.TheVariants as answer
use Rattle.page_cache.specs.Cache.{accepts, kept_at, dropped}
use Rattle.page_cache.specs.Held.{as_root}
use Rattle.page_cache.specs.Names.{same_name}
use Rattle.page_cache.proofs.CacheLemmas.{accept_first}
use Rattle.page_cache.proofs.NameLemmas.{same_name-is}
use Rattle.tree_walk.specs.Walk.{is_leaf, goes_on, got_read, accepted_by, passed, left_by, beside, rested}
use Rattle.commit_run.specs.Trips.{OfTree, OfLeaf, use_of_root, use_of_leaf, WasRead, IsRead}
use Rattle.commit_run.proofs.Words.{ObjName, Trouble, Leaf, Tree, Answer, Get, Next, Goes, Ends, Stops, Cache, as_leaf, Walk, object_of, walk_ask, walk_ready, walk_next, Calls, Use, used_in, left_by_turn, used_by_turn}
use Rattle.commit_run.proofs.Knows.{Kept, IsKeptRead, KeepsRead}
use Rattle.commit_run.proofs.Planning.{get_more, get_last, all_map}

-- ---- at the begin

all_there : (P : Kept → Type 0) (os : List Kept) → ((i : ℕ) (o : Kept) → slice_get os i ≡ Some o → P o) → AllByRecursion P os
all_there P [] f = tt
all_there P (o ∷ os) f = (f 0 o refl, all_there P os (λ i x e. f (suc i) x e))

pub begins_read : (c : Cache) → KeepsRead c [] c
begins_read c = all_there (IsKeptRead c []) c.objects (λ i o e. inl (i, e))

-- ---- one call more

read_more : (c : Cache) (calls more : Calls) (name : ObjName) (bytes : Option (List ℕ)) → WasRead c calls name bytes → WasRead c (calls ++ more) name bytes
read_more c calls more name bytes (inl kept) = inl kept
read_more c calls more name bytes (inr (place, got)) = inr (place, get_more calls more place (Get name, answer.Got bytes) got)

pub keeps_more : (c : Cache) (calls more : Calls) (k : Cache) → KeepsRead c calls k → KeepsRead c (calls ++ more) k
keeps_more c calls more k all = all_map (IsKeptRead c calls) (IsKeptRead c (calls ++ more)) (λ o h. read_more c calls more o.0 o.1 h) k.objects all

use_more : (c : Cache) (calls more : Calls) (u : Use) → IsRead c calls u → IsRead c (calls ++ more) u
use_more c calls more (OfTree tree root) (bytes, is, read) = (bytes, is, read_more c calls more (object.Tree tree) bytes read)
use_more c calls more (OfLeaf tree leaf) (page, bytes, is, read) = (page, bytes, is, read_more c calls more (object.Page tree page) bytes read)

pub uses_read_more : (c : Cache) (calls more : Calls) (uses : List Use) → AllByRecursion (IsRead c calls) uses → AllByRecursion (IsRead c (calls ++ more)) uses
uses_read_more c calls more uses all = all_map (IsRead c calls) (IsRead c (calls ++ more)) (use_more c calls more) uses all

-- ---- what is dropped, and what is accepted

all_left : (test : ObjName → Bool) (P : Kept → Type 0) (os : List Kept) → AllByRecursion P os → AllByRecursion P (remove_entry test os)
all_left test P [] all = tt
all_left test P (o ∷ os) all = on (test o.0) (all_left test P os all.1) where
  on : (b : Bool) → AllByRecursion P (remove_entry test os) → AllByRecursion P (cond b os (o ∷ remove_entry test os))
  on true rest = all.1
  on false rest = (all.0, rest)

all_front : (P : Kept → Type 0) (n : ℕ) (os : List Kept) → AllByRecursion P os → AllByRecursion P (take n os)
all_front P zero os all = none os where
  none : (xs : List Kept) → AllByRecursion P (take zero xs)
  none [] = tt
  none (x ∷ xs) = tt
all_front P (suc n) [] all = tt
all_front P (suc n) (o ∷ os) all = (all.0, all_front P n os all.1)

drops_read : (c : Cache) (calls : Calls) (names : List ObjName) (k : Cache) → KeepsRead c calls k → KeepsRead c calls (fold dropped k names)
drops_read c calls [] k all = all
drops_read c calls (name ∷ names) k all = drops_read c calls names (dropped k name) (all_left (same_name name) (IsKeptRead c calls) k.objects all)

left_read : (c : Cache) (calls : Calls) (w : Walk) (k : Cache) → KeepsRead c calls k → KeepsRead c calls (left_by w k)
left_read c calls w k all = on w.turned where
  on : (b : Bool) → KeepsRead c calls (if b then fold dropped k (passed w) else k)
  on true = drops_read c calls (passed w) k all
  on false = all

accepts_read : (c : Cache) (calls : Calls) (k : Cache) (name : ObjName) (leaf : Bool) (got : Option (List ℕ)) (version : ℕ) (d : Cache) → accepts k name leaf got ≡ Ok (version, d)
    → WasRead c calls name got → KeepsRead c calls k → KeepsRead c calls d
accepts_read c calls k name leaf got version d e read all =
    subst (λ (os : List Kept). AllByRecursion (IsKeptRead c calls) os) (sym (accept_first k name leaf got version d e))
    (all_front (IsKeptRead c calls) 64 ((name, got) ∷ remove_entry (same_name name) k.objects) (read, all_left (same_name name) (IsKeptRead c calls) k.objects all))

-- ---- where a turn leads

abbrev pub LeavesRead : Cache → Calls → Next (Walk × Cache) ℕ → Type 0
LeavesRead c calls turn = KeepsRead c calls (left_by_turn turn).1

beside_read : (c : Cache) (calls : Calls) (x : Next Walk ℕ) (k : Cache) → KeepsRead c calls k → LeavesRead c calls (beside (x, k))
beside_read c calls (Goes w) k all = all
beside_read c calls (Ends w page) k all = left_read c calls w k all
beside_read c calls (Stops w t) k all = left_read c calls w k all

pub ready_read : (c : Cache) (calls : Calls) (w : Walk) (k : Cache) → KeepsRead c calls k → LeavesRead c calls (walk_ready (w, k))
ready_read c calls w k all = beside_read c calls (goes_on k (rested w)) k all

pub next_read : (c : Cache) (calls : Calls) (w : Walk) (k : Cache) (a : Answer) → KeepsRead c calls k → LeavesRead c (calls ++ (walk_ask w, a) ∷ []) (walk_next (w, k) a)
next_read c calls w k (answer.Got got) all = on (accepts k (object_of w) (is_leaf w) got) refl where
  now : Calls
  now = calls ++ (walk_ask w, answer.Got got) ∷ []

  more : KeepsRead c now k
  more = keeps_more c calls ((walk_ask w, answer.Got got) ∷ []) k all

  on : (r : Result (ℕ × Cache) Trouble) → accepts k (object_of w) (is_leaf w) got ≡ r → LeavesRead c now (beside (accepted_by (rested w) k r))
  on (Err t) e = beside_read c now (Stops (rested w) t) k more
  on (Ok served) e =
      beside_read c now (got_read (rested w) served.1) served.1
      (accepts_read c now k (object_of w) (is_leaf w) got served.0 served.1 e (inr (length calls, get_last calls (walk_ask w, answer.Got got))) more)
next_read c calls w k a all = left_read c (calls ++ (walk_ask w, a) ∷ []) (rested w) k (keeps_more c calls ((walk_ask w, a) ∷ []) k all)

-- ---- what a turn used

looked : (P : Kept → Type 0) (name : ObjName) (got : Option (List ℕ)) (os : List Kept) → AllByRecursion P os → lookup (same_name name) os ≡ Some got → P (name, got)
looked P name got [] all e = absurd (cc)
looked P name got (o ∷ os) all e = on (looked P name got os all.1) (same_name name o.0) refl e where
  on : (lookup (same_name name) os ≡ Some got → P (name, got)) → (b : Bool) → same_name name o.0 ≡ b → cond b (Some o.1) (lookup (same_name name) os) ≡ Some got → P (name, got)
  on more true same e =
      let name_is : name ≡ o.0 = same_name-is name o.0 same in
      let got_is : o.1 ≡ got = cc in
      subst (λ (n : ObjName). P (n, got)) (sym name_is) (subst (λ (g : Option (List ℕ)). P (o.0, g)) got_is all.0)
  on more false same e = more e

root_read : (c : Cache) (calls : Calls) (k : Cache) (tree : ℕ) → KeepsRead c calls k → (o : Option (Option (List ℕ))) → kept_at k (object.Tree tree) ≡ o
    → AllByRecursion (IsRead c calls) (use_of_root tree (as_root o))
root_read c calls k tree all None e = tt
root_read c calls k tree all (Some bytes) e = on (as_root (Some bytes)) refl where
  on : (r : Option Tree) → as_root (Some bytes) ≡ r → AllByRecursion (IsRead c calls) (use_of_root tree r)
  on None is = tt
  on (Some root) is = ((bytes, is, looked (IsKeptRead c calls) (object.Tree tree) bytes k.objects all e), tt)

leaf_read : (c : Cache) (calls : Calls) (k : Cache) (tree page : ℕ) → KeepsRead c calls k → (o : Option (Option (List ℕ))) → kept_at k (object.Page tree page) ≡ o
    → AllByRecursion (IsRead c calls) (use_of_leaf tree (as_leaf o))
leaf_read c calls k tree page all None e = tt
leaf_read c calls k tree page all (Some bytes) e = on (as_leaf (Some bytes)) refl where
  on : (r : Option Leaf) → as_leaf (Some bytes) ≡ r → AllByRecursion (IsRead c calls) (use_of_leaf tree r)
  on None is = tt
  on (Some leaf) is = ((page, bytes, is, looked (IsKeptRead c calls) (object.Page tree page) bytes k.objects all e), tt)

used_read : (c : Cache) (calls : Calls) (k : Cache) → KeepsRead c calls k → (used : Option ObjName) → AllByRecursion (IsRead c calls) (used_in k used)
used_read c calls k all None = tt
used_read c calls k all (Some (object.Head client)) = tt
used_read c calls k all (Some (object.Tree tree)) = root_read c calls k tree all (kept_at k (object.Tree tree)) refl
used_read c calls k all (Some (object.Page tree page)) = leaf_read c calls k tree page all (kept_at k (object.Page tree page)) refl

pub turn_read : (c : Cache) (calls : Calls) (turn : Next (Walk × Cache) ℕ) → LeavesRead c calls turn → AllByRecursion (IsRead c calls) (used_by_turn turn)
turn_read c calls turn all = used_read c calls (left_by_turn turn).1 all (left_by_turn turn).0.used

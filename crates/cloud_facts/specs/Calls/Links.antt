-- Which calls may join links to a tree, or remove its pages: those of a session whose lease of the tree lasts.
use Rattle.std.specs.Prelude.{ℕ, ◌≡◌, ◌⊎◌, List, []}
use Rattle.cloud_facts.specs.Words.{Caller, Claim, Lasts, Ask, Store, IsIn}
use Rattle.db_base.specs.declared.names.Lock.TheVariants as lock
use Rattle.cloud_facts.specs.Landings.Landing.{Landing, opens, settles, logs, posts, marks_log, marks_post, puts_leaf, puts_page, puts_inner, puts_root, raises_root, removes, stays}

-- a lease of the tree that lasts is among these
pub record HasTreeLease (mine : List Claim) (now tree : ℕ) : Type 0 where
  pub lease : Claim
  pub held : IsIn mine lease
  pub lock_is : lease.lock ≡ lock.Tree tree
  pub lasts : Lasts now lease

-- the levels of a tree are as they were
abbrev pub SameLinks : Store → Store → ℕ → Type 0
SameLinks st su tree = (level : ℕ) → su.book.chain tree level ≡ st.book.chain tree level

-- each tree's are, but for those of which a lease that lasts is among these
abbrev pub LinksBy : List Claim → ℕ → Store → Store → Type 0
LinksBy mine now st su = (tree : ℕ) → SameLinks st su tree ⊎ HasTreeLease mine now tree

-- the pages of a tree that were removed are as they were
abbrev pub SameGone : Store → Store → ℕ → Type 0
SameGone st su tree = (page : ℕ) → su.tally.gone tree page ≡ st.tally.gone tree page

-- each tree's are, but for those of which a lease that lasts is among these
abbrev pub GoneBy : List Claim → ℕ → Store → Store → Type 0
GoneBy mine now st su = (tree : ℕ) → SameGone st su tree ⊎ HasTreeLease mine now tree

-- leases in hand at a moment
pub record InHandAt : Type 0 where
  pub mine : List Claim
  pub now : ℕ

abbrev pub in_hand_at : List Claim → ℕ → InHandAt
in_hand_at mine now = record { mine = mine; now = now }

-- what a call owes for that: the leases that it has where it joins links, or removes a page
abbrev pub OwesLease : InHandAt → (who : Caller) (st : Store) (ask : Ask) (su : Store) → Landing who st ask su → Type 0
OwesLease held who st ask su (opens client head records bytes one two e o) = Unit {0}
OwesLease held who st ask su (settles client head bytes one two e o) = Unit {0}
OwesLease held who st ask su (logs client bytes r o) = Unit {0}
OwesLease held who st ask su (posts tree page bytes r o) = Unit {0}
OwesLease held who st ask su (marks_log client id o) = Unit {0}
OwesLease held who st ask su (marks_post tree page id o) = Unit {0}
OwesLease held who st ask su (puts_leaf p bytes one two e takes lands there) = (p.pieces ≡ []) ⊎ HasTreeLease held.mine held.now p.tree
OwesLease held who st ask su (puts_page tree page node bytes one two is e first lands) = Unit {0}
OwesLease held who st ask su (puts_inner tree page node pieces bytes one two is e lands there) = HasTreeLease held.mine held.now tree
OwesLease held who st ask su (puts_root tree t bytes one two is e covers lands) = Unit {0}
OwesLease held who st ask su (raises_root tree t level links bytes one two is e covers lands there) = HasTreeLease held.mine held.now tree
OwesLease held who st ask su (removes tree page l is o) = HasTreeLease held.mine held.now tree
OwesLease held who st ask su (stays asked puts touches) = Unit {0}

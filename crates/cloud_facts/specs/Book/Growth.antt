-- What every session may rely on of what the others do: what is told only grows.
use Rattle.std.specs.Prelude.{ℕ, ◌≡◌, ◌≢◌, ◌<◌, ◌≤◌, ◌⊎◌, true, List, []}
use Rattle.cloud_trait.specs.Growth.{BeginsWith}
use Rattle.cloud_trait.specs.Upto.{posts_of}
use Rattle.cloud_facts.specs.Words.{IsClient, Head, Link, Store, IsIn}
use Rattle.head_codec.specs.declared.head.Phase.{Phase}
use Rattle.head_codec.specs.declared.head.Phase.TheVariants.{Settled, Open}
use Rattle.cloud_facts.specs.Chains.Links.{top_of}

-- within a transaction an open head comes before a settled one
abbrev pub PhaseRises : Phase → Phase → Type 0
PhaseRises (Open n) Settled = Unit {0}
PhaseRises (Open n) (Open m) = ⊥
PhaseRises Settled phase = ⊥

-- a head is later than another: by its epoch, its transaction, or its phase
abbrev pub IsLater : Head → Head → Type 0
IsLater before head =
    (before.epoch < head.epoch)
    ⊎ ((before.epoch ≡ head.epoch) × ((before.txn < head.txn) ⊎ ((before.txn ≡ head.txn) × PhaseRises before.phase head.phase)))

pub record Grows (st su : Store) : Type 0 where
  pub log : BeginsWith st.book.log su.book.log
  pub order : BeginsWith st.order su.order
  pub links : (tree level : ℕ) (link : Link) → IsIn (st.book.chain tree level) link → IsIn (su.book.chain tree level) link
  pub heads : (client : ℕ) → (su.tally.head client ≡ st.tally.head client) ⊎ IsLater (st.tally.head client) (su.tally.head client)
  -- messages are added and marked, and never changed
  pub logged : (client : ℕ) → BeginsWith (posts_of (st.tally.logged client)) (posts_of (su.tally.logged client))
  pub posts : (tree page : ℕ) → BeginsWith (posts_of (st.tally.posts tree page)) (posts_of (su.tally.posts tree page))
  -- what is done never falls
  pub done : (tree : ℕ) (key : List ℕ) (page client : ℕ) → IsClient client → st.tally.done tree key page client ≤ su.tally.done tree key page client
  pub cursor : (tree page client : ℕ) → IsClient client → st.tally.cursor tree page client ≤ su.tally.cursor tree page client
  -- versions are appended
  pub nodes : (tree page : ℕ) → BeginsWith (st.tally.nodes tree page) (su.tally.nodes tree page)
  pub roots : (tree : ℕ) → BeginsWith (st.tally.roots tree) (su.tally.roots tree)
  -- what was removed stays so
  pub gone : (tree page : ℕ) → st.tally.gone tree page ≡ true → su.tally.gone tree page ≡ true
  -- the next free page of a tree never falls
  pub next : (tree : ℕ) → (top_of (st.tally.roots tree)).next ≤ (top_of (su.tally.roots tree)).next
  -- a page in no chain that has a version stays as it is
  pub unlinked : (tree page : ℕ) → st.tally.nodes tree page ≢ [] → ((level : ℕ) (link : Link) → IsIn (su.book.chain tree level) link → link.page ≢ page)
      → su.tally.nodes tree page ≡ st.tally.nodes tree page

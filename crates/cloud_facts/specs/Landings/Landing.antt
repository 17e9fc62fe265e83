-- What a session owes for its call: which effect the call has where it lands, and what that effect rests on.
use Rattle.std.specs.Prelude.{ℕ, ◌≡◌, false, List, [], Option, Some}
use Rattle.db_base.specs.Ids.{IsTree}
use Rattle.db_base.specs.declared.names.ObjName.TheVariants as object
use Rattle.db_base.specs.declared.names.QueueName.TheVariants.{Atomic}
use Rattle.cloud_trait.specs.declared.state.Posted.{Posted}
use Rattle.cloud_trait.specs.Ask.{Ask, PutHeld, RemoveHeld, Send, Delete, PutsNothing, TouchesNoMessage}
use Rattle.cloud_trait.specs.Caller.{Caller}
use Rattle.cloud_trait.specs.Claim.{Claim}
use Rattle.cloud_facts.specs.Chains.Landing.{LandsLeaf, LandsInner, LandsNew, LandsRoot, Raises}
use Rattle.head_codec.specs.declared.head.Head.{Head}
use Rattle.head_codec.specs.Spelling.{head_of}
use Rattle.leaf_view.specs.Leaf.{IsLeaf}
use Rattle.leaf_view.specs.Lookup.{number_of}
use Rattle.log_codec.specs.declared.record.AtomicRec.{AtomicRec}
use Rattle.node_codec.specs.Inner.{Inner, IsInner}
use Rattle.node_codec.specs.Tree.{Tree, IsTree as SpellsTree}
use Rattle.cloud_facts.specs.Book.Book.{Link}
use Rattle.cloud_facts.specs.Book.Effects.{Taking, after_head, after_logged, after_posted, after_log_mark, after_post_mark, after_leaf, after_page, after_inner, after_root, after_raise, after_removal}
use Rattle.cloud_facts.specs.Book.Premises.{Opens, Settles, Logs, Posts, MarksPost, MarksLog, Takes, LandsFirst, CoversApplied, Removes, AreThere}
use Rattle.cloud_facts.specs.Book.Tally.{Node, Leafy, Branch, Store}
use Rattle.cloud_facts.specs.Book.Telling.{queue_of}

-- the message that a send leaves
abbrev pub sent_by : Caller → List ℕ → Posted
sent_by who bytes = record { who = who; bytes = bytes; deleted = false }

-- bytes spell a version of a page
abbrev pub Spells : List ℕ → Node → Type 0
Spells bytes (Leafy l) = IsLeaf bytes l
Spells bytes (Branch n) = IsInner bytes n

-- the numbers that a page has of its own queue: a leaf's entries, and none of an inner node's
abbrev pub own_of : ℕ → Node → ℕ → ℕ
own_of page (Leafy l) client = number_of l.done page client
own_of page (Branch n) client = 0

-- the store after a session's call where it lands, and what is known before it
pub data Landing (who : Caller) (st : Store) : Ask → Store → Type 0 where
  opens : (client : ℕ) (head : Head) (records : List AtomicRec) (bytes : List ℕ) (one : Claim) (two : Option Claim) → head_of bytes ≡ Some head
      → Opens st client head records → Landing who st (PutHeld (object.Head client) bytes one two) (after_head client head records st)
  settles : (client : ℕ) (head : Head) (bytes : List ℕ) (one : Claim) (two : Option Claim) → head_of bytes ≡ Some head → Settles st client head
      → Landing who st (PutHeld (object.Head client) bytes one two) (after_head client head [] st)
  logs : (client : ℕ) (bytes : List ℕ) (r : AtomicRec) → Logs st client (sent_by who bytes) r
      → Landing who st (Send (Atomic client) bytes) (after_logged client (sent_by who bytes) st)
  posts : (tree page : ℕ) (bytes : List ℕ) (r : AtomicRec) → Posts st tree page (sent_by who bytes) r
      → Landing who st (Send (queue_of tree page) bytes) (after_posted tree page (sent_by who bytes) st)
  marks_log : (client id : ℕ) → MarksLog st client id → Landing who st (Delete (Atomic client) id) (after_log_mark client id st)
  marks_post : (tree page id : ℕ) → MarksPost st tree page id → Landing who st (Delete (queue_of tree page) id) (after_post_mark tree page id st)
  puts_leaf : (p : Taking) (bytes : List ℕ) (one : Claim) (two : Option Claim) → IsLeaf bytes p.leaf → Takes st p → LandsLeaf st p → AreThere st p.tree p.pieces
      → Landing who st (PutHeld (object.Page p.tree p.page) bytes one two) (after_leaf p st)
  puts_page : (tree page : ℕ) (node : Node) (bytes : List ℕ) (one : Claim) (two : Option Claim) → IsTree tree → Spells bytes node
      → LandsFirst st tree page (own_of page node) → LandsNew st tree page node
      → Landing who st (PutHeld (object.Page tree page) bytes one two) (after_page tree page node (own_of page node) st)
  puts_inner : (tree page : ℕ) (node : Inner) (pieces : List Link) (bytes : List ℕ) (one : Claim) (two : Option Claim) → IsTree tree → IsInner bytes node
      → LandsInner st tree page node pieces → AreThere st tree pieces → Landing who st (PutHeld (object.Page tree page) bytes one two) (after_inner tree page node pieces st)
  puts_root : (tree : ℕ) (t : Tree) (bytes : List ℕ) (one : Claim) (two : Option Claim) → IsTree tree → SpellsTree bytes t → CoversApplied st tree t
      → LandsRoot st tree t → Landing who st (PutHeld (object.Tree tree) bytes one two) (after_root tree t st)
  raises_root : (tree : ℕ) (t : Tree) (level : ℕ) (links : List Link) (bytes : List ℕ) (one : Claim) (two : Option Claim) → IsTree tree → SpellsTree bytes t
      → CoversApplied st tree t → Raises st tree t level links → AreThere st tree links
      → Landing who st (PutHeld (object.Tree tree) bytes one two) (after_raise tree t level links st)
  removes : (tree page : ℕ) (l : Claim) → IsTree tree → Removes st tree page → Landing who st (RemoveHeld (object.Page tree page) l) (after_removal tree page st)
  stays : (ask : Ask) → PutsNothing ask → TouchesNoMessage ask → Landing who st ask st

-- Every call that lands keeps what holds of a cloud.
use Rattle.std.proofs.Common.{◌≡◌, false, ℕ, List, [], length, map, Option, Some, None, refl, sym, ap, subst, ◌∙◌, Bool, arith}
use Rattle.cloud_facts.specs.Words.{IsTree, Entry, Inner, CloudState, newest, Caller, Ask, Get, GetHeld, PutHeld, Send, Receive, Delete, Take, Renew, Release, Book, Link, Store, Node, Leafy, Branch, nodes_of, roots_of, store_of, StandsUnder}
use Rattle.db_base.specs.declared.names.ObjName.TheVariants as object
use Rattle.db_base.specs.declared.names.QueueName.TheVariants.{TreePu}
use Rattle.cloud_trait.proofs.TracedLemmas.{effect_traced, empty_traced}
use Rattle.cloud_trait.specs.Ask.{ListHeld, RemoveHeld, effect, PutsNothing, TouchesNoMessage}
use Rattle.cloud_trait.specs.State.{IsEmptyCloud, landed as put}
use Rattle.cloud_trait.specs.declared.state.Landing.{Landing as Row}
use Rattle.cloud_facts.specs.Chains.Chain.{ChainHolds}
use Rattle.cloud_facts.specs.Chains.Gones.{Gones}
use Rattle.cloud_facts.proofs.Chains.GoneLemmas.{links_kept, absent_kept}
use Rattle.cloud_facts.specs.Chains.Landing.{LandsLeaf, LandsInner}
use Rattle.cloud_facts.proofs.Calls.Pages.{none_landed}
use Rattle.cloud_facts.specs.Calls.Made.{IsMadeBy}
use Rattle.cloud_facts.specs.Calls.Standing.{IsTaken, Follows}
use Rattle.cloud_facts.proofs.Book.Places.{in_none}
use Rattle.cloud_facts.proofs.Calls.Making.{HasFew, landing_made, rows_many}
use Rattle.cloud_facts.proofs.Calls.Rows.{links_within, messages_within, same_traced}
use Rattle.cloud_facts.specs.Decoding.Decodes.{Decodes, IsNext, Spells}
use Rattle.cloud_facts.specs.Decoding.Kinds.{IsNode}
use Rattle.cloud_facts.proofs.Decoding.Counting.{newest_counts, opens_counts, settles_counts}
use Rattle.cloud_facts.proofs.Decoding.Landing.{empty_decodes, effect_decodes, same_decodes}
use Rattle.cloud_facts.proofs.Decoding.Values.{head_next, inner_next, root_next, atomic_message, pu_message}
use Rattle.cloud_facts.specs.Landings.Holding.{Holds}
use Rattle.cloud_facts.specs.Landings.Landing.{Landing, opens, settles, logs, posts, marks_log, marks_post, puts_leaf, puts_page, puts_inner, puts_root, raises_root, removes, stays}
use Rattle.cloud_facts.specs.Landings.Landing.{Spells as SpellsNode}
use Rattle.cloud_facts.proofs.Landings.LandingLemmas.{landing_keeps, empty_holds, opens_later, settles_later}
use Rattle.leaf_view.specs.Leaf.{IsLeaf}
use Rattle.cloud_facts.specs.Book.Book.{empty_book}
use Rattle.cloud_facts.specs.Book.Effects.{Taking, after_leaf, after_page}
use Rattle.cloud_facts.specs.Book.Premises.{Takes, LandsFirst, Removes}
use Rattle.cloud_facts.specs.Landings.Landing.{own_of}
use Rattle.cloud_facts.specs.Book.Telling.{root_in, gone_of, tally_of}
use Rattle.cloud_facts.specs.Tellings.Told.{Tells}
use Rattle.cloud_facts.proofs.Tellings.Asks.{quiet_tells, told_by}
use Rattle.cloud_facts.proofs.Tellings.Easy.{head_told, logged_told, posted_told, log_mark_told, post_mark_told, removal_told, same_told}
use Rattle.cloud_facts.proofs.Tellings.Laws.{taken_tells, taken_next, inner_tells, page_tells, raise_tells}
use Rattle.cloud_facts.proofs.Tellings.Nodes.{root_told}
use Rattle.cloud_facts.proofs.Tellings.Ready.{first_next}

-- ---- pages that were not removed

leaf_there : (st : Store) → Gones st → (p : Taking) → LandsLeaf st p → st.tally.gone p.tree p.page ≡ false
leaf_there st h p lands =
    subst (λ (q : ℕ). st.tally.gone p.tree q ≡ false) lands.lands.page_is (links_kept st h p.tree 0 lands.lands.link (lands.lands.place, lands.lands.linked))

inner_there : (st : Store) → Gones st → (tree page : ℕ) (n : Inner) (pieces : List Link) → LandsInner st tree page n pieces → st.tally.gone tree page ≡ false
inner_there st h tree page n pieces lands =
    subst (λ (q : ℕ). st.tally.gone tree q ≡ false) lands.page_is (links_kept st h tree n.level lands.link (lands.place, lands.linked))

-- ---- what is told after a call

leaf_told : (who : Caller) (book : Book) (order : List Entry) (s : CloudState) (p : Taking) (bytes : List ℕ) → ChainHolds (store_of book order s)
    → Decodes s → gone_of s p.tree p.page ≡ false → IsLeaf bytes p.leaf
    → Takes (store_of book order s) p → IsTaken (store_of book order s) p
    → Tells (put who (object.Page p.tree p.page) bytes s) (after_leaf p (store_of book order s))
leaf_told who book order s p bytes h d there e takes taken =
    subst (λ (x : Taking). Tells (put who (object.Page p.tree p.page) bytes s) (after_leaf x (store_of book order s))) (sym taken.is)
    (taken_tells book order s p.tree takes.is_tree h d who p.page p.queue p.run taken.sizes taken.free bytes taken.lands
    (subst (λ (x : Taking). IsLeaf bytes x.leaf) taken.is e) there)

page_told : (who : Caller) (book : Book) (order : List Entry) (s : CloudState) (tree page : ℕ) (node : Node) (bytes : List ℕ) → IsTree tree
    → ChainHolds (store_of book order s) → Decodes s → gone_of s tree page ≡ false
    → SpellsNode bytes node → LandsFirst (store_of book order s) tree page (own_of page node)
    → Tells (put who (object.Page tree page) bytes s) (after_page tree page node (own_of page node) (store_of book order s))
page_told who book order s tree page (Leafy l) bytes is h d there e first = page_tells book order s tree is h d who page bytes (Leafy l) e there first
page_told who book order s tree page (Branch n) bytes is h d there e first = page_tells book order s tree is h d who page bytes (Branch n) e there first

pub landing_tells : (who : Caller) (book : Book) (order : List Entry) (s : CloudState) (ask : Ask) (su : Store) → ChainHolds (store_of book order s) → Gones (store_of book order s)
    → Decodes s → (l : Landing who (store_of book order s) ask su) → Follows who (store_of book order s) ask su l → Tells (effect who ask s) su
landing_tells who book order s ask su h g d (opens client head records bytes one two e o) f = head_told who client bytes head records book order s e
landing_tells who book order s ask su h g d (settles client head bytes one two e o) f = head_told who client bytes head [] book order s e
landing_tells who book order s ask su h g d (logs client bytes r o) f = logged_told who client bytes book order s
landing_tells who book order s ask su h g d (posts tree page bytes r o) f = posted_told who tree page bytes book order s
landing_tells who book order s ask su h g d (marks_log client id o) f = log_mark_told client id book order s
landing_tells who book order s ask su h g d (marks_post tree page id o) f = post_mark_told tree page id book order s
landing_tells who book order s ask su h g d (puts_leaf p bytes one two e takes lands there) f =
    leaf_told who book order s p bytes h d (leaf_there (store_of book order s) g p lands) e takes f
landing_tells who book order s ask su h g d (puts_page tree page node bytes one two is e first lands) f =
    page_told who book order s tree page node bytes is h d (absent_kept (store_of book order s) g tree page lands.absent) e first
landing_tells who book order s ask su h g d (puts_inner tree page node pieces bytes one two is e lands there) f =
    inner_tells book order s tree is h d who page bytes node pieces e (inner_there (store_of book order s) g tree page node pieces lands) lands
landing_tells who book order s ask su h g d (puts_root tree t bytes one two is e covers lands) f = root_told who tree bytes t book order s e
landing_tells who book order s ask su h g d (raises_root tree t level links bytes one two is e covers lands there) f =
    raise_tells book order s tree is h d who bytes t level links e lands
landing_tells who book order s ask su h g d (removes tree page l is o) f = removal_told who tree page s book order
landing_tells who book order s ask su h g d (stays asked puts touches) f = quiet_tells who asked book order s puts touches

-- ---- what the bytes of a call spell

leaf_next : (book : Book) (order : List Entry) (s : CloudState) (who : Caller) (p : Taking) (bytes : List ℕ) → ChainHolds (store_of book order s)
    → Decodes s → gone_of s p.tree p.page ≡ false → IsLeaf bytes p.leaf
    → Takes (store_of book order s) p → IsTaken (store_of book order s) p → IsNext s (object.Page p.tree p.page) bytes
leaf_next book order s who p bytes h d there e takes taken =
    taken_next book order s p.tree takes.is_tree h d who p.page p.queue p.run taken.sizes taken.free bytes taken.lands
    (subst (λ (x : Taking). IsLeaf bytes x.leaf) taken.is e) there

node_is : (bytes : List ℕ) (node : Node) → SpellsNode bytes node → IsNode bytes node
node_is bytes (Leafy l) e = e
node_is bytes (Branch n) e = e

quiet_spells : (s : CloudState) (ask : Ask) → PutsNothing ask → TouchesNoMessage ask → Spells s ask
quiet_spells s (Get name) puts touches = tt
quiet_spells s (GetHeld name l) puts touches = tt
quiet_spells s (PutHeld name bytes one two) puts touches = absurd puts
quiet_spells s (ListHeld tree l) puts touches = tt
quiet_spells s (RemoveHeld name l) puts touches = absurd puts
quiet_spells s (Send queue bytes) puts touches = absurd touches
quiet_spells s (Receive queue most) puts touches = tt
quiet_spells s (Delete queue id) puts touches = tt
quiet_spells s (Take lock ticks) puts touches = tt
quiet_spells s (Renew l ticks) puts touches = tt
quiet_spells s (Release l) puts touches = tt

-- a page that is removed has bytes
removal_spells : (st : Store) (s : CloudState) (tree page : ℕ) → st.tally.nodes ≡ nodes_of s → st.tally.gone ≡ gone_of s → Decodes s → Removes st tree page
    → (bytes : List ℕ) × (newest s (object.Page tree page) ≡ Some bytes)
removal_spells st s tree page nodes gone d o = on (newest s (object.Page tree page)) refl
  where
    on : (v : Option (List ℕ)) → newest s (object.Page tree page) ≡ v → (bytes : List ℕ) × (newest s (object.Page tree page) ≡ Some bytes)
    on None e =
        absurd (o.landed (ap (λ (f : ℕ → ℕ → List Node). f tree page) nodes
        ∙ none_landed s tree page d (ap (λ (f : ℕ → ℕ → Bool). f tree page) (sym gone) ∙ o.there) e))
    on (Some bytes) e = (bytes, e)

pub landing_spells : (who : Caller) (book : Book) (order : List Entry) (s : CloudState) (ask : Ask) (su : Store) → ChainHolds (store_of book order s)
    → Gones (store_of book order s) → Decodes s
    → (l : Landing who (store_of book order s) ask su) → Follows who (store_of book order s) ask su l → Spells s ask
landing_spells who book order s ask su h g d (opens client head records bytes one two e o) f =
    head_next s client bytes head d e (opens_later (store_of book order s) client head records o)
    (opens_counts (store_of book order s) client head records bytes (length (s.versions (object.Head client))) e o (newest_counts s client d))
landing_spells who book order s ask su h g d (settles client head bytes one two e o) f =
    head_next s client bytes head d e (settles_later ((store_of book order s).tally.head client) head o.behind o.phase)
    (settles_counts (store_of book order s) client head (length (s.versions (object.Head client))) o (newest_counts s client d))
landing_spells who book order s ask su h g d (logs client bytes r o) f = atomic_message client bytes r o.reads o.client_is
landing_spells who book order s ask su h g d (posts tree page bytes r o) f = pu_message tree page bytes _ o.reads
landing_spells who book order s ask su h g d (marks_log client id o) f = tt
landing_spells who book order s ask su h g d (marks_post tree page id o) f = tt
landing_spells who book order s ask su h g d (puts_leaf p bytes one two e takes lands there) f =
    leaf_next book order s who p bytes h d (leaf_there (store_of book order s) g p lands) e takes f
landing_spells who book order s ask su h g d (puts_page tree page node bytes one two is e first lands) f =
    first_next book order s tree is h d page bytes node lands.absent (node_is bytes node e) f
landing_spells who book order s ask su h g d (puts_inner tree page node pieces bytes one two is e lands there) f =
    inner_next s tree page bytes node d (inner_there (store_of book order s) g tree page node pieces lands) e f
landing_spells who book order s ask su h g d (puts_root tree t bytes one two is e covers lands) f = root_next s tree bytes t d e f
landing_spells who book order s ask su h g d (raises_root tree t level links bytes one two is e covers lands there) f = root_next s tree bytes t d e f
landing_spells who book order s ask su h g d (removes tree page l is o) f =
    let some = removal_spells (store_of book order s) s tree page refl refl d o in (tt, some.0, some.1)
landing_spells who book order s ask su h g d (stays asked puts touches) f = quiet_spells s asked puts touches

-- ---- the whole

-- its messages and links are within the rows
pub within_rows : (book : Book) (order : List Entry) (s : CloudState) → StandsUnder book order s → HasFew (length s.trace) (store_of book order s)
within_rows book order s stands = record {
  posts = λ tree. messages_within s stands.traced (TreePu tree);
  links = λ tree is. links_within s stands.traced tree (book.chain tree) _ _ (stands.holds.chains tree is);
}

-- after a call that lands the cloud stands under the book that the call leaves
pub effect_stands : (who : Caller) (book : Book) (order : List Entry) (s : CloudState) (ask : Ask) (su : Store) → StandsUnder book order s
    → (l : Landing who (store_of book order s) ask su) → Follows who (store_of book order s) ask su l → StandsUnder su.book su.order (effect who ask s)
effect_stands who book order s ask su stands l f = record {
  holds =
      told_by Holds (effect who ask s) su (landing_tells who book order s ask su stands.holds.chains stands.holds.gones stands.decodes l f)
      (landing_keeps who (store_of book order s) ask su stands.holds l);
  decodes = effect_decodes who ask s stands.decodes (landing_spells who book order s ask su stands.holds.chains stands.holds.gones stands.decodes l f);
  traced = effect_traced who ask s stands.traced;
  made = told_by (IsMadeBy (length (effect who ask s).trace)) (effect who ask s) su (landing_tells who book order s ask su stands.holds.chains stands.holds.gones stands.decodes l f)
      (subst (λ (n : ℕ). IsMadeBy n su) (sym (rows_many who ask s))
      (landing_made (length s.trace) who (store_of book order s) ask su stands.made (within_rows book order s stands) l));
}

-- what is told of a cloud is of its versions and messages alone
pub same_store : (book : Book) (order : List Entry) (s t : CloudState) → t.versions ≡ s.versions → t.messages ≡ s.messages → store_of book order t ≡ store_of book order s
same_store book order s t versions messages =
    let told : tally_of book t ≡ tally_of book s = same_told book s t versions messages in
    λ i. record { tally = told i; book = book; order = order }

pub same_stands : (book : Book) (order : List Entry) (s t : CloudState) → t.versions ≡ s.versions → t.messages ≡ s.messages → t.trace ≡ s.trace → StandsUnder book order s
    → StandsUnder book order t
same_stands book order s t versions messages trace stands = record {
  holds = subst Holds (sym (same_store book order s t versions messages)) stands.holds;
  decodes = same_decodes s t versions messages stands.decodes;
  traced = same_traced s t versions messages trace stands.traced;
  made = subst (IsMadeBy (length t.trace)) (sym (same_store book order s t versions messages))
      (subst (λ (rows : List Row). IsMadeBy (length rows) (store_of book order s)) (sym trace) stands.made);
}

-- an empty cloud stands under the empty book
pub empty_stands : (s : CloudState) → IsEmptyCloud s → StandsUnder empty_book [] s
empty_stands s empty = record { holds = empty_holds s empty; decodes = empty_decodes s empty; traced = empty_traced s empty; made = none_made }
  where
    none_made : IsMadeBy (length s.trace) (store_of empty_book [] s)
    none_made = record {
      log = omega arith;
      next = λ tree root is. absurd (in_none (roots_of s tree) root (ap (map root_in) (empty.versions (object.Tree tree))) is);
    }

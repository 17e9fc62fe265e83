-- A look-up in whose call no get was stale came to the newest leaf, and where nothing is left to apply, its client sees there what is stored.
use Rattle.std.proofs.Common.{◌≡◌, ◌∙◌, ◌≤◌, ℕ, zero, suc, Bool, true, false, cond, List, [], ◌∷◌, Option, Some, None, Ok, ap, refl, sym, subst, arith, filter, length, min}
use Rattle.std.specs.Prelude.{◌==◌, not, nat_lt, slice_get}
use Rattle.std.proofs.lemmas.Bool.{and_parts, eqb-true, ltb-true, not-true}
use Rattle.std.proofs.lemmas.Option.{same_Some}
use Rattle.std.proofs.lemmas.Slice.Eq.{bytes_eq-Decides}
use Rattle.std.specs.Str.{bytes_eq}
use Rattle.attr_index.proofs.Meaning.{Holds, looked_holds}
use Rattle.attr_index.specs.Meaning.{Visit, Looked, leaf_of, leaf_by, tree_at}
use Rattle.attr_index.specs.Look.{Own, Look, look_ask}
use Rattle.byte_format.specs.Order.{bytes_below, below_bound}
use Rattle.client_work.specs.Shows.{look_deed}
use Rattle.client_work.specs.declared.work.Work.{Work}
use Rattle.client_work.specs.declared.work.Work.TheVariants.{Looking}
use Rattle.cloud_facts.proofs.Calls.Calls.{call_of}
use Rattle.cloud_facts.proofs.Lefts.StaysLemmas.{all_applied}
use Rattle.cloud_facts.proofs.Meanings.Finding.{finds}
use Rattle.cloud_facts.proofs.Meanings.Pages.{leaf_at}
use Rattle.cloud_facts.proofs.Meanings.Reports.{leaves_in, store_reads, all_leaves, finds_contents}
use Rattle.cloud_facts.proofs.Meanings.Walking.{IsBefore, ends_at}
use Rattle.cloud_facts.specs.Words.{IsTree, ObjName, QueueName, Entry, AtomicRec, Leaf, Answer, Version, Posted, CloudState, newest, Caller, Seen, Ask, Get, Next, Goes, Ends, Stops, Deed, Link, Store, IsIn, nodes_of, roots_of, store_of}
use Rattle.cloud_facts.specs.Book.Records.{key_in}
use Rattle.cloud_facts.specs.Book.Telling.{newest_leaf, gone_of, page_from}
use Rattle.cloud_facts.specs.Chains.Gones.{AreKept}
use Rattle.cloud_facts.proofs.Chains.GoneLemmas.{links_kept}
use Rattle.cloud_facts.specs.Chains.Chain.{IsChained}
use Rattle.cloud_facts.specs.Chains.Links.{low_after}
use Rattle.cloud_facts.specs.Decoding.Decodes.{Decodes}
use Rattle.cloud_facts.specs.Homes.Homes.{Part}
use Rattle.cloud_facts.specs.Lefts.Left.{NothingLeft}
use Rattle.cloud_facts.specs.Meanings.Contents.{IsRead}
use Rattle.cloud_trait.specs.Delivery.{unmarked}
use Rattle.cloud_trait.specs.declared.answer.Answer.TheVariants.{Got}
use Rattle.cloud_trait.specs.Machine.{IsMade}
use Rattle.cloud_trait.specs.State.{newest_of, greatest}
use Rattle.cloud_trait.specs.Weather.{counted, Makes, Leaves}
use Rattle.db_base.specs.Change.{key_of}
use Rattle.db_base.specs.declared.names.ObjName.TheVariants as object
use Rattle.head_codec.specs.declared.lists.Pending.{Pending}
use Rattle.history.specs.Audited.{Audited}
use Rattle.history.specs.Fold.{of_tree}
use Rattle.leaf_view.specs.Fits.{Ascend}
use Rattle.leaf_view.specs.Lookup.{holds, value_of, number_of}
use Rattle.page_cache.proofs.ReadingLemmas.{is_leaf_in}
use Rattle.page_cache.specs.Cache.{Cache}
use Rattle.page_cache.specs.Held.{as_leaf, leaf_at as kept_leaf}
use Rattle.recover_run.specs.declared.home.Home.{Home}
use Rattle.replay_meaning.specs.Chain.{IsReadAs, Walked, records_of}
use Rattle.replay_meaning.specs.Committed.{committed}
use Rattle.replay_meaning.specs.Index.{Finds}
use Rattle.replay_meaning.specs.Right.{stored_below, value_at}
use Rattle.replay_meaning.specs.Standing.{Line}
use Rattle.report_types.specs.declared.stored.Stored.{Stored}
use Rattle.route_plan.specs.Queue.{is_pending_of}
use Rattle.route_plan.specs.Seen.{is_lacked_by, after_pending, seen}
use Rattle.session_facts.proofs.Reports.Left.{nothing_left}
use Rattle.session_facts.proofs.Machines.Walks.Outcome.{walk_goes}
use Rattle.session_facts.specs.Lines.Facts.{CloudHolds}
use Rattle.session_facts.specs.Index.NewestLeaves.{IsAllApplied, HasApplied, IsNewestAt, AreContents}
use Rattle.session_facts.specs.Sessions.Knows.{Sessions, IsHome, KnowsWork, KnowsKept}
use Rattle.session_facts.specs.Machines.Walks.Knows.{IsAtSeenLeaf, MayStopWalk, WalkLeads}
use Rattle.tree_walk.proofs.Served.{IsServedBy, get_row, steady, end_served}
use Rattle.tree_walk.proofs.Stays.{WalksBeside, next_walks}
use Rattle.tree_walk.specs.Walk.{Walk, object_of, walk_next}
use Rattle.world_audit.specs.Counts.{open_at, heads_upto, queue_at, messages_below, IsNextPage}

-- ---- what is seen in a leaf

module _ (entries : List Entry) (t : CloudState) (tree : ℕ) (home : Home) (leaf : Leaf) (is : IsNewestAt entries t tree home leaf)
    (all : IsAllApplied entries t tree) (key : List ℕ) (held : holds leaf key ≡ true) where
  abbrev is_lacked : Pending → Bool
  is_lacked p = is_lacked_by leaf home.client tree key p

  -- the leaf lacks no pending entry of a key of its range
  not_lacked : (p : Pending) → IsIn home.head.pending p → is_lacked p ≡ true → ⊥
  not_lacked p there lacked =
      let both = and_parts (is_pending_of tree key p) (nat_lt (number_of leaf.done p.page home.client) p.number) lacked in
      let of_key = and_parts (p.tree == tree) (bytes_eq (key_of p.change) key) both.0 in
      let same : key_of p.change ≡ key = (bytes_eq-Decides (key_of p.change) key).0 of_key.1 in
      let here : holds leaf (key_of p.change) ≡ true = ap (holds leaf) same ∙ held in
      let applied : p.number ≤ number_of leaf.done p.page home.client = is.applied all p there (eqb-true p.tree tree of_key.0) here in
      let above = ltb-true (number_of leaf.done p.page home.client) p.number both.1 in
      absurd (omega (arith, applied, above))

  none_lacked : (ps : List Pending) → ((p : Pending) → IsIn ps p → IsIn home.head.pending p) → filter is_lacked ps ≡ []
  none_lacked [] within = refl
  none_lacked (p ∷ ps) within = on (is_lacked p) refl (none_lacked ps (λ q there. within q (suc there.0, there.1)))
    where
      on : (b : Bool) → is_lacked p ≡ b → filter is_lacked ps ≡ [] → cond b (p ∷ filter is_lacked ps) (filter is_lacked ps) ≡ []
      on false e rest = rest
      on true e rest = absurd (not_lacked p (within p (zero, refl)) e)

  -- the client sees there what the leaf has
  pub newest_seen : seen leaf tree key home.client home.head [] ≡ value_of key leaf.records
  newest_seen = ap (after_pending (value_of key leaf.records)) (none_lacked home.head.pending (λ p there. there))

  -- and so what the index finds
  pub newest_finds : Finds t tree key (seen leaf tree key home.client home.head [])
  newest_finds = subst (Finds t tree key) (sym newest_seen) (is.finds key held)

-- ---- two states

heads_same : (s t : CloudState) → t.versions ≡ s.versions → (tree : ℕ) (entries : List Entry) (n : ℕ)
    → heads_upto t tree entries n ≡ heads_upto s tree entries n
unfolding heads_upto
heads_same s t same tree entries zero = refl
heads_same s t same tree entries (suc n) =
    let before = heads_same s t same tree entries n in
    let own : open_at t (suc n) tree entries ≡ open_at s (suc n) tree entries =
    ap (λ (f : ObjName → List Version). open_at (record s { versions = f }) (suc n) tree entries) same in
    omega (arith, before, own)

below_same : (s t : CloudState) → t.messages ≡ s.messages → (tree n : ℕ) → messages_below t tree n ≡ messages_below s tree n
unfolding messages_below
below_same s t same tree zero = refl
below_same s t same tree (suc n) =
    let before = below_same s t same tree n in
    let own : length (unmarked (t.messages (queue_at tree n))) ≡ length (unmarked (s.messages (queue_at tree n))) =
    ap (λ (f : QueueName → List Posted). length (unmarked (f (queue_at tree n)))) same in
    omega (arith, before, own)

-- all stays applied where versions and messages are the same
pub applied_same : (entries : List Entry) (s t : CloudState) → t.versions ≡ s.versions → t.messages ≡ s.messages → (tree : ℕ) → IsAllApplied entries s tree
    → IsAllApplied entries t tree
applied_same entries s t versions messages tree all = record {
  heads = heads_same s t versions tree (of_tree tree entries) 64 ∙ all.heads;
  messages = record {
    next = all.messages.next;
    is_next = subst (λ (f : ObjName → List Version). IsNextPage (newest_of (f (object.Tree tree))) all.messages.next) (sym versions) all.messages.is_next;
    sum = all.messages.sum ∙ ap (λ (n : ℕ). min n greatest) (sym (below_same s t messages tree all.messages.next));
  };
}

-- ---- the leaf for a key

module _ (s : CloudState) (tree : ℕ) (chain : ℕ → List Link) (done : List ℕ → ℕ → ℕ → ℕ) (cursor : ℕ → ℕ)
    (h : IsChained chain (nodes_of s tree) (roots_of s tree) done cursor) (kept : AreKept chain (gone_of s tree)) (d : Decodes s) where
  abbrev leaf : ℕ → Leaf
  leaf page = newest_leaf (nodes_of s) tree page

  before_next : (key : List ℕ) (high : Option (List ℕ)) (next : Option Link) → high ≡ low_after next → below_bound key high ≡ true → IsBefore key next
  before_next key high None e below = tt
  before_next key high (Some next) e below = subst (λ (o : Option (List ℕ)). below_bound key o ≡ true) e below

  -- the newest leaf of a page of the leaf chain is the one for each key that it holds
  held_by : (link : Link) → IsIn (chain 0) link → (key : List ℕ) → holds (leaf link.page) key ≡ true → page_from 1 key (chain 0) ≡ link.page
  held_by link linked key held =
      let at = leaf_at s tree chain done cursor h kept d linked.0 link linked.1 in
      let range = and_parts (not (bytes_below key (leaf link.page).low)) (below_bound key (leaf link.page).high) held in
      let from : bytes_below key link.low ≡ false = ap (bytes_below key) (sym at.low) ∙ not-true (bytes_below key (leaf link.page).low) range.0 in
      ends_at key 1 None (chain 0) (h.levels.ascends 0) linked.0 link linked.1 from
      (before_next key (leaf link.page).high (slice_get (chain 0) (suc linked.0)) at.ends.high range.1)

-- what is read as a leaf
read_leaf : (tree page : ℕ) (bytes : Option (List ℕ)) (l : Leaf) → IsReadAs tree page bytes (Ok l) → as_leaf (Some bytes) ≡ Some l
read_leaf tree page None l is = ap (λ (x : Leaf). Some x) (sym is.1)
read_leaf tree page (Some bytes) l is = is_leaf_in bytes l is

-- ---- a state that lines left

module _ (n : ℕ) (lines : List Line) (sessions : Sessions) (audit : Audited) (blind : Bool) (s : CloudState)
    (h : CloudHolds n lines sessions audit blind s) where
  abbrev st : Store
  st = store_of h.book h.order s

  chained : (tree : ℕ) → IsTree tree
      → IsChained (st.book.chain tree) (nodes_of s tree) (roots_of s tree) (st.tally.done tree) (st.tally.cursor tree 0)
  chained tree is = h.stand.cloud.holds.chains tree is

  kept_links : (tree : ℕ) → AreKept (st.book.chain tree) (gone_of s tree)
  kept_links tree = links_kept st h.stand.cloud.holds.gones tree

  -- ---- the contents of a tree

  read_all : (tree : ℕ) → IsTree tree → IsRead s tree (leaves_in st tree) (st.tally.value tree)
  read_all tree is = store_reads s st tree refl h.stand.cloud.holds.chains h.stand.cloud.holds.gones is h.stand.cloud.decodes

  -- the records of all leaves are the contents
  pub contents_are : (tree : ℕ) → IsTree tree → (records : List Stored) → Walked s tree 0 records → AreContents s tree records
  contents_are tree is records walked =
      let read : IsRead s tree walked.leaves (st.tally.value tree) =
      all_leaves s tree (leaves_in st tree) walked.leaves (st.tally.value tree) (read_all tree is) walked.lead in
      record {
        ascending = subst (λ (rs : List Stored). Ascend stored_below None rs) (sym walked.are) read.ascending;
        found = λ key. subst (λ (rs : List Stored). Finds s tree key (value_at key rs)) (sym walked.are)
            (finds_contents s tree walked.leaves (st.tally.value tree) read key);
      }

  -- there are such
  pub has_contents : (tree : ℕ) → IsTree tree → (records : List Stored) × Walked s tree 0 records
  has_contents tree is = (records_of (leaves_in st tree), record { leaves = leaves_in st tree; lead = (read_all tree is).chain; are = refl })

  -- ---- the newest leaf of a page

  pub all_left : (tree : ℕ) → IsTree tree → IsAllApplied (committed lines s) s tree → NothingLeft st tree
  all_left tree is all =
      nothing_left h.book h.order s tree h.stand.cloud.holds.chains h.stand.cloud.holds.numbers
      (subst (λ (es : List Entry). heads_upto s tree (of_tree tree es) 64 ≡ 0) (sym h.cloud.committed) all.heads) all.messages

  module _ (tree : ℕ) (is : IsTree tree) (link : Link) (linked : IsIn (st.book.chain tree 0) link) where
    abbrev here : Leaf
    here = newest_leaf (nodes_of s) tree link.page

    at_key : (key : List ℕ) → holds here key ≡ true → newest_leaf (nodes_of s) tree (page_from 1 key (st.book.chain tree 0)) ≡ here
    at_key key held =
        ap (newest_leaf (nodes_of s) tree)
        (held_by s tree (st.book.chain tree) (st.tally.done tree) (st.tally.cursor tree 0) (chained tree is) (kept_links tree) h.stand.cloud.decodes link linked key held)

    found_in : (key : List ℕ) → holds here key ≡ true → Finds s tree key (value_of key here.records)
    found_in key held =
        subst (λ (l : Leaf). Finds s tree key (value_of key l.records)) (at_key key held)
        (finds s tree (st.book.chain tree) (st.tally.done tree) (st.tally.cursor tree 0) (chained tree is) (kept_links tree) h.stand.cloud.decodes key)

    applied_in : NothingLeft st tree → (r : AtomicRec) → IsIn h.book.log r → r.tree ≡ tree → holds here (key_in r) ≡ true
        → r.number ≤ number_of here.done r.page r.client
    applied_in nothing r logged own held =
        subst (λ (l : Leaf). r.number ≤ number_of l.done r.page r.client) (at_key (key_in r) held)
        (subst (λ (k : ℕ). r.number ≤ number_of (newest_leaf (nodes_of s) k (page_from 1 (key_in r) (st.book.chain k 0))).done r.page r.client) own
        (all_applied st tree h.stand.cloud.holds.leaves nothing r logged own))

    newest_at : (home : Home) (part : Part) → IsHome st s.now home part → IsNewestAt (committed lines s) s tree home here
    newest_at home part known = record { finds = found_in; applied = λ all p there own held. applied (all_left tree is all) p there own held }
      where
        applied : NothingLeft st tree → (p : Pending) → IsIn home.head.pending p → p.tree ≡ tree → holds here (key_of p.change) ≡ true
            → HasApplied here home.client p
        applied nothing p there own held =
            let of = known.of_records p there in
            subst (HasApplied here home.client) (sym of.2)
            (subst (λ (client : ℕ). of.0.number ≤ number_of here.done of.0.page client) of.1.client_is
            (applied_in nothing of.0 of.1.logged (ap (λ (q : Pending). q.tree) (sym of.2) ∙ own)
            (ap (λ (q : Pending). holds here (key_of q.change)) (sym of.2) ∙ held)))

    -- and its bytes are read as it
    newest_read : as_leaf (Some (newest s (object.Page tree link.page))) ≡ Some here
    newest_read =
        let at =
        leaf_at s tree (st.book.chain tree) (st.tally.done tree) (st.tally.cursor tree 0) (chained tree is) (kept_links tree) h.stand.cloud.decodes linked.0 link linked.1 in
        read_leaf tree link.page (newest s (object.Page tree link.page)) here at.newest

  -- ---- a call of a look-up

  module _ (who : Caller) (before after : Seen) (told : before.state ≡ Some s) (home : Home) (m : Look)
      (at : (sessions who.session).work ≡ Looking home m) (own : Own) (calls : List Deed) (visits : List Visit)
      (looked : Looked m.query own calls visits (m, (sessions who.session).cache)) (answer : Answer)
      (made : IsMade (look_deed who m answer before after)) (fresh : after.counts.stale ≡ before.counts.stale) where
    abbrev cache : Cache
    cache = (sessions who.session).cache

    abbrev tree : ℕ
    tree = tree_at m.query m.stage

    holding : Holds m.query own visits m
    holding = looked_holds m.query own calls visits (m, cache) looked

    knows : KnowsWork st s.now cache (Looking home m) (h.stand.parts who.session)
    knows = subst (λ (w : Work). KnowsWork st s.now cache w (h.stand.parts who.session)) at (h.stand.each who.session).work

    kept : KnowsKept st cache (Looking home m)
    kept = subst (KnowsKept st cache) at (h.stand.each who.session).kept

    left : Leaves who (look_ask m) answer (counted before.counts s) after.counts after.state
    left = made.state s told

    leads : WalkLeads st MayStopWalk (walk_next (m.walk, cache) answer)
    leads =
        walk_goes h.book h.order s h.stand.cloud who m.walk cache answer left.after
        (call_of who (look_ask m) answer before after s left.after made told left.told) (record { walk = knows.1.walk; cache = kept })

    -- what its get answered is the newest version of the page
    got_newest : (n : Walk × Cache) (page : ℕ) → (served : IsServedBy m.walk answer n page)
        → served.bytes ≡ newest s (object.Page n.0.tree page)
    got_newest n page served =
        let get : Makes who (Get (object.Page n.0.tree page)) (Got served.bytes) before after =
        subst (λ (ask : Ask). Makes who ask (Got served.bytes) before after) served.asked
        (subst (λ (a : Answer). Makes who (look_ask m) a before after) served.answered made) in
        steady served.bytes (newest s (object.Page n.0.tree page)) before.counts.stale after.counts.stale
        (get_row who (object.Page n.0.tree page) served.bytes before after get s told).1 fresh

    -- a walk that ends by it ends at a newest leaf
    pub looked_newest : (leaf : Leaf) → leaf_by (m, cache) (look_deed who m answer before after) ≡ Some leaf
        → IsNewestAt (committed lines s) s tree home leaf
    looked_newest leaf by =
        on (walk_next (m.walk, cache) answer) refl by leads (next_walks tree m.walk.key (m.walk, cache) answer (holding.tree, refl))
      where
        IsNewest : ℕ → Leaf → Type 0
        IsNewest of l = IsNewestAt (committed lines s) s of home l

        ended : (n : Walk × Cache) (page : ℕ) → (served : IsServedBy m.walk answer n page) → kept_leaf n.1 (object_of n.0) ≡ Some leaf
            → IsTree n.0.tree → IsAtSeenLeaf st n.0 n.1 page → n.0.tree ≡ tree → IsNewest tree leaf
        ended n page served is of_tree seen same =
            let link : Link = record { low = seen.leaf.low; page = page } in
            let newest_leaf_is = newest_read n.0.tree of_tree link seen.linked in
            let served_is = sym is ∙ served.kept ∙ sym served.spelled ∙ ap (λ (b : Option (List ℕ)). as_leaf (Some b)) (got_newest n page served) in
            let got : leaf ≡ newest_leaf (nodes_of s) n.0.tree page = same_Some leaf (newest_leaf (nodes_of s) n.0.tree page) (served_is ∙ newest_leaf_is) in
            subst (λ (k : ℕ). IsNewest k leaf) same
            (subst (IsNewest n.0.tree) (sym got) (newest_at n.0.tree of_tree link seen.linked home (h.stand.parts who.session) knows.0))

        on : (x : Next (Walk × Cache) ℕ) → walk_next (m.walk, cache) answer ≡ x → leaf_of x ≡ Some leaf → WalkLeads st MayStopWalk x
            → WalksBeside tree m.walk.key x → IsNewest tree leaf
        on (Goes n) is none leads to = absurd (cc (none))
        on (Stops n trouble) is none leads to = absurd (cc (none))
        on (Ends n page) is some leads to =
            ended n page (end_served (m.walk, cache) n answer page holding.walk is) some leads.0.walk.tree leads.1 to.0

-- Each call of a checkpoint brings what nests with the nodes that were got before it.
use Rattle.std.proofs.Common.{◌≡◌, ◌+◌, ◌<◌, ◌⊎◌, inl, inr, ℕ, suc, List, [], ◌∷◌, ◌++◌, length, map, Option, Some, None, sym, ap, subst, ◌∙◌, arith}
use Rattle.std.specs.Prelude.{unwrap_or}
use Rattle.std.specs.List.{AllByRecursion}
use Rattle.std.proofs.lemmas.List.{length-reverse}
use Rattle.byte_format.proofs.Wholes.{whole_only}
use Rattle.cloud_facts.proofs.Calls.Heads.{held_seen}
use Rattle.cloud_facts.proofs.Calls.Pages.{none_landed}
use Rattle.cloud_facts.proofs.Chains.Newest.{newest_is, last_in}
use Rattle.cloud_facts.proofs.Chains.GoneLemmas.{links_kept}
use Rattle.cloud_facts.proofs.Decoding.Values.{newest_page_decodes}
use Rattle.cloud_facts.specs.Words.{IsTree, ObjName, Entry, Leaf, Inner, Answer, CloudState, newest, Caller, Claim, Lasts, Ask, GetHeld, Take, got_of, Book, Link, Store, Node, Leafy, Branch, IsIn, nodes_of, roots_of, store_of, IsCall, StandsUnder}
use Rattle.cloud_facts.specs.Book.Tally.{low_of, high_of}
use Rattle.cloud_facts.specs.Book.Telling.{leaf_in, newest_root}
use Rattle.cloud_facts.specs.Chains.Chain.{IsChained}
use Rattle.cloud_facts.specs.Chains.Links.{newest_node, IsOfLevel}
use Rattle.cloud_facts.specs.Decoding.Kinds.{IsNode}
use Rattle.cloud_trait.specs.declared.answer.Answer.TheVariants as call
use Rattle.ckpt_parts.specs.Deleting.{next_id}
use Rattle.ckpt_parts.specs.Leasing.{newest_lease}
use Rattle.db_base.specs.declared.names.Lock.TheVariants as lock
use Rattle.db_base.specs.declared.names.ObjName.TheVariants as object
use Rattle.tree_phases.specs.declared.folding.Folding.{Folding as Leafing}
use Rattle.tree_phases.specs.Folding.{folding_ask}
use Rattle.leaf_view.proofs.Exact.{leaf_exact}
use Rattle.leaf_view.specs.Fits.{IsWellFormed, IsEntryIn}
use Rattle.leaf_view.specs.Leaf.{Entry as Rec, leaf}
use Rattle.leaf_view.specs.Lookup.{empty_leaf}
use Rattle.node_codec.proofs.SpellingLaws.{inner_only}
use Rattle.node_codec.specs.Inner.{inner_of}
use Rattle.session_facts.proofs.Machines.TreeCheckpoints.Nesting.{nests}
use Rattle.session_facts.proofs.Machines.TreeCheckpoints.Noted.{tours_noted, noted_kept}
use Rattle.session_facts.proofs.Machines.Folds.Plans.{newest_formed}
use Rattle.session_facts.specs.Machines.TreeCheckpoints.Knows.{IsUnder, KnowsWork}
use Rattle.session_facts.specs.Machines.TreeCheckpoints.Nesting.{Nests, BringsNode, BringsLeaf, AreShort, NestsOver}
use Rattle.session_facts.specs.Machines.Trees.Charts.{KnowsNode, KnowsNodes}
use Rattle.session_facts.specs.Machines.Trees.Leaves.{IsGetting, IsReading, IsPutting, KnowsLeaf}
use Rattle.split_plan.specs.declared.put_list.PagePut.{PagePut}
use Rattle.split_plan.specs.Plan.{put_of, on_pages, leaf_bytes}
use Rattle.tree_ckpt.proofs.Meaning.{Amid, DoneAt}
use Rattle.tree_ckpt.proofs.Lows.{ComesUpto}
use Rattle.tree_ckpt.proofs.Sound.{leaf_no_node}
use Rattle.tree_ckpt.proofs.Tours.{ToursAt, AtLeaf, BeginsLeaf}
use Rattle.tree_ckpt.proofs.Turns.{place_of}
use Rattle.tree_ckpt.proofs.Whole.{IsNoted}
use Rattle.tree_ckpt.specs.Causes.{Calls, Brings, WasGot, WasNode}
use Rattle.tree_ckpt.specs.Meaning.{Opening, opening_calls}
use Rattle.tree_ckpt.specs.Working.{HoldsLeaf, leaf_place}
use Rattle.tree_phases.specs.declared.descent.Descent.{Descent}
use Rattle.tree_phases.specs.Descent.{descent_ask}
use Rattle.tree_ckpt.specs.declared.work.Held.{Held}
use Rattle.tree_ckpt.specs.declared.work.Work.{Work}
use Rattle.tree_ckpt.specs.declared.work.Work.TheVariants as work
use Rattle.tree_ckpt.specs.Work.{work_ask, delete_ask, release_ask}
use Rattle.tree_phases.specs.declared.kept.KeptNode.{KeptNode}
use Rattle.tree_phases.specs.declared.placing.Placing.{Placing}
use Rattle.tree_phases.specs.Placing.{put_next, put_first, put_in_hand}
use Rattle.tree_phases.specs.declared.rising.Rising.{Rising}
use Rattle.tree_phases.specs.Rising.{last_ask, rising_ask}

-- a call that is no get of a page brings none
abbrev GetsNone : ℕ → Ask → Type 0
GetsNone tree ask = (page : ℕ) (l : Claim) → ask ≡ GetHeld (object.Page tree page) l → ⊥

brings_none : (tree : ℕ) (ask : Ask) (a : Answer) (cs : Calls) → GetsNone tree ask → NestsOver tree (ask, a) cs
brings_none tree ask a cs none = record {
  keys = λ l b. absurd (none b.0 b.2.0 (ap (λ (c : Ask × Answer). c.0) b.2.1));
  leaf = λ l b page n was level. absurd (none b.0 b.2.0 (ap (λ (c : Ask × Answer). c.0) b.2.1));
  below = λ n b page m was level. absurd (none b.0 b.2.0 (ap (λ (c : Ask × Answer). c.0) b.2.1));
  above = λ n b page m was level. absurd (none b.0 b.2.0 (ap (λ (c : Ask × Answer). c.0) b.2.1));
}

module _ (book : Book) (order : List Entry) (s : CloudState) (stands : StandsUnder book order s) (tree : ℕ) (of_tree : IsTree tree) where
  abbrev st : Store
  st = store_of book order s

  chained : IsChained (book.chain tree) (nodes_of s tree) (roots_of s tree) (st.tally.done tree) (st.tally.cursor tree 0)
  chained = stands.holds.chains tree of_tree

  -- ---- nodes that were got before

  -- an inner node is a version of a link's page, and the newest while the tree's lease lasts
  pub record Found (now : ℕ) (lease : Claim) (a : Inner) : Type 0 where
    pub link : Link
    pub linked : IsIn (book.chain tree a.level) link
    pub landed : IsIn (nodes_of s tree link.page) (Branch a)
    pub newest : Lasts now lease → newest_node (nodes_of s tree) link.page ≡ Branch a

  found_of : (now : ℕ) (lease : Claim) (k : KeptNode) (a : Inner) → KnowsNode st now lease tree k → inner_of k.bytes ≡ Some a → Found now lease a
  found_of now lease k a known spelt = subst (Found now lease) same (record {
    link = record { low = k.low; page = k.page };
    linked = subst (λ (level : ℕ). IsIn (book.chain tree level) (record { low = k.low; page = k.page })) (sym level) known.linked;
    landed = known.landed;
    newest = known.newest;
  })
    where
      same : known.inner ≡ a
      same = let both : Some known.inner ≡ Some a = sym (inner_only k.bytes known.inner known.spells) ∙ spelt in cc (both)

      level : known.inner.level ≡ k.level
      level = (chained.versions k.level (record { low = k.low; page = k.page }) (Branch known.inner) known.linked known.landed).level_is.0

  pub noted_found : (now : ℕ) (lease : Claim) (ks : List KeptNode) (page : ℕ) (bytes : List ℕ) (a : Inner) → KnowsNodes st now lease tree ks → inner_of bytes ≡ Some a
      → IsNoted page bytes ks → Found now lease a
  noted_found now lease ks page bytes a known spelt noted =
      let k = noted_kept page bytes ks noted in
      found_of now lease k.0 a (known k.0 k.1) (subst (λ (bs : List ℕ). inner_of bs ≡ Some a) (sym k.2) spelt)

  -- the newest version of a link's page nests with a version of one of the level above
  between : (level : ℕ) (x y : Link) (node : Node) (a : Inner) → IsIn (book.chain tree level) x → newest_node (nodes_of s tree) x.page ≡ node → IsIn (book.chain tree a.level) y
      → IsIn (nodes_of s tree y.page) (Branch a) → a.level ≡ level + 1 → Nests a.high (low_of node) (high_of node)
  between level x y node a xin is yin landed above =
      let up : a.level ≡ suc level = omega (arith, above) in
      subst (λ (n : Node). Nests a.high (low_of n) (high_of n)) is
      (nests (book.chain tree) (nodes_of s tree) (roots_of s tree) (st.tally.done tree) (st.tally.cursor tree 0) chained level x y (Branch a) xin
      (subst (λ (l : ℕ). IsIn (book.chain tree l) y) up yin) landed)

  -- ---- the page that a call gets

  module _ (level page : ℕ) (low : List ℕ) (linked : IsIn (book.chain tree level) (record { low = low; page = page })) where
    abbrev link : Link
    link = record { low = low; page = page }

    abbrev node : Node
    node = newest_node (nodes_of s tree) page

    newest_level : IsOfLevel level node
    newest_level = (newest_is (book.chain tree) (nodes_of s tree) (newest_root (roots_of s) tree).level chained.levels chained.versions chained.newest level link linked).level_is

    -- it is the newest
    inner_brought : (bytes : List ℕ) (n : Inner) → newest s (object.Page tree page) ≡ Some bytes → inner_of bytes ≡ Some n → node ≡ Branch n
    inner_brought bytes n is spelt = on node (newest_page_decodes s tree page bytes stands.decodes is)
      where
        on : (x : Node) → IsNode bytes x → x ≡ Branch n
        on (Leafy l) spells = absurd (leaf_no_node bytes l n (whole_only leaf leaf_exact bytes l spells) spelt)
        on (Branch m) spells = let both : Some m ≡ Some n = sym (inner_only bytes m spells) ∙ spelt in ap Branch (cc (both))

    leaf_brought : (got : Option (List ℕ)) (l : Leaf) → newest s (object.Page tree page) ≡ got → HoldsLeaf page l got → node ≡ Leafy l
    leaf_brought (Some bytes) l is holds = on node (newest_page_decodes s tree page bytes stands.decodes is)
      where
        on : (x : Node) → IsNode bytes x → x ≡ Leafy l
        on (Leafy m) spells = let both = sym (whole_only leaf leaf_exact bytes m spells) ∙ holds in ap Leafy (cc (both))
        on (Branch m) spells = absurd (leaf_no_node bytes l m holds (inner_only bytes m spells))
    leaf_brought None l is holds =
        ap (λ (ns : List Node). newest_node (λ p. ns) page) (none_landed s tree page stands.decodes (links_kept st stands.holds.gones tree level link linked) is) ∙ ap Leafy (sym holds.1)

    keys_short : (l : Leaf) → IsWellFormed l → AreShort l.records
    keys_short l formed = each l.records formed.records
      where
        each : (es : List Rec) → AllByRecursion (IsEntryIn l.low l.high) es → AreShort es
        each [] h = tt
        each (e ∷ es) h = (h.0.key.short, each es h.1)

    module _ (lease own : Claim) (now : ℕ) (a : Answer) (cs : Calls) (all : (p : ℕ) (n : Inner) → WasNode tree p n cs → Found now lease n)
        (seen : (v : Option (List ℕ)) → a ≡ call.Got v → newest s (object.Page tree page) ≡ v) (lasts : 0 < level → (v : Option (List ℕ)) → a ≡ call.Got v → Lasts now lease) where
      abbrev this : Ask × Answer
      this = (GetHeld (object.Page tree page) own, a)

      page_is : (p : ℕ) (got : Option (List ℕ)) → Brings (object.Page tree p) got this → page ≡ p
      page_is p got b = let e : GetHeld (object.Page tree page) own ≡ GetHeld (object.Page tree p) b.0 = ap (λ (c : Ask × Answer). c.0) b.1 in cc (e)

      answer_is : (p : ℕ) (got : Option (List ℕ)) → Brings (object.Page tree p) got this → a ≡ call.Got got
      answer_is p got b = ap (λ (c : Ask × Answer). c.1) b.1

      leaf_is : (l : Leaf) → BringsLeaf tree l this → node ≡ Leafy l
      leaf_is l b =
          leaf_brought b.1 l (seen b.1 (answer_is b.0 b.1 b.2))
          (subst (λ (p : ℕ). HoldsLeaf p l b.1) (sym (page_is b.0 b.1 b.2)) b.3)

      node_is : (n : Inner) → BringsNode tree n this → node ≡ Branch n
      node_is n b = inner_brought b.1 n (seen (Some b.1) (answer_is b.0 (Some b.1) b.2)) b.3

      level_of : (n : Inner) → node ≡ Branch n → (n.level ≡ level) × (0 < level)
      level_of n e = subst (IsOfLevel level) e newest_level

      leaf_level : (l : Leaf) → node ≡ Leafy l → level ≡ 0
      leaf_level l e = subst (IsOfLevel level) e newest_level

      pub got_nests : NestsOver tree this cs
      got_nests = record {
        keys = λ l b. keys_short l (subst IsWellFormed (ap leaf_in (leaf_is l b)) (newest_formed book order s tree page stands).0);
        leaf = λ l b p n was one.
            let f = all p n was in
            let is = leaf_is l b in
            let zero : level ≡ 0 = leaf_level l is in
            between level link f.link (Leafy l) n linked is f.linked f.landed (omega (arith, one, zero));
        below = λ n b p m was up.
            let f = all p m was in
            let is = node_is n b in
            let own : n.level ≡ level = (level_of n is).0 in
            between level link f.link (Branch n) m linked is f.linked f.landed (omega (arith, up, own));
        above = λ n b p m was up.
            let f = all p m was in
            let is = node_is n b in
            let lv = level_of n is in
            between m.level f.link link (Branch m) n f.linked (f.newest (lasts lv.1 (Some b.1) (answer_is b.0 (Some b.1) b.2)))
            (subst (λ (x : ℕ). IsIn (book.chain tree x) link) (sym lv.0) linked) (here n is lv.1) up;
      }
        where
          here : (n : Inner) → node ≡ Branch n → 0 < level → IsIn (nodes_of s tree page) (Branch n)
          here n is up = subst (λ (x : Node). IsIn (nodes_of s tree page) x) is (last_in (Leafy empty_leaf) (nodes_of s tree page) (λ none. absurd (never none)))
            where
              never : nodes_of s tree page ≡ [] → ⊥
              never none = let zero : level ≡ 0 = (chained.newest.absent level link linked none).0 in omega (arith, up, zero)

-- ---- a call of a checkpoint

puts_none : (tree : ℕ) (p : Placing) (of : ℕ) (l : Claim) (two : Option Claim) (other : Ask) → GetsNone tree other ⊎ (0 < length p.puts)
    → GetsNone tree (unwrap_or (put_in_hand p of l two) other)
puts_none tree p of l two other h = on p.reserved p.puts h
  where
    on : (reserved : Option (List ℕ)) (puts : List PagePut) → GetsNone tree other ⊎ (0 < length puts)
        → (page : ℕ) (c : Claim) → unwrap_or (put_first of l (put_next of l two puts) reserved) other ≡ GetHeld (object.Page tree page) c → ⊥
    on (Some bytes) puts k page c e = cc (e)
    on None (x ∷ xs) k page c e = cc (e)
    on None [] (inl none) page c e = none page c e
    on None [] (inr some) page c e = omega (arith, some)

last_none : (tree : ℕ) (r : Rising) (l : Claim) (last : Option (List ℕ)) → GetsNone tree (last_ask r l last)
last_none tree r l (Some bytes) page c e = cc (e)
last_none tree r l None page c e = cc (e)

delete_none : (tree : ℕ) (id : Option ℕ) → GetsNone tree (delete_ask tree id)
delete_none tree (Some id) page c e = cc (e)
delete_none tree None page c e = cc (e)

release_none : (tree : ℕ) (l : Option Claim) → GetsNone tree (release_ask tree l)
release_none tree (Some l) page c e = cc (e)
release_none tree None page c e = cc (e)

module _ (book : Book) (order : List Entry) (s t : CloudState) (stands : StandsUnder book order s) (who : Caller) (a : Answer) (tree : ℕ) (cs : Calls) where
  -- a held get that was answered found its lease lasting, and saw the newest version
  still : (name : ObjName) (l : Claim) (v : Option (List ℕ)) → IsCall who (GetHeld name l) a s t → a ≡ call.Got v → Lasts s.now l
  still name l v c e =
      let d = subst (λ (b : Answer). IsCall who (GetHeld name l) b s t) e c in
      let lasts : t.now < l.end = d.row.1 in
      let later = d.later in
      omega (arith, lasts, later)

  saw : (name : ObjName) (l : Claim) (v : Option (List ℕ)) → IsCall who (GetHeld name l) a s t → a ≡ call.Got v → newest s name ≡ v
  saw name l v c e = sym (held_seen who name l a s t c v (ap got_of e))

  descending : (h : Held) (d : Descent) → IsUnder tree h.lease d.chart.tree → IsGetting (store_of book order s) s.now h.lease d h.deletions.ids
      → Amid tree h d.chart.run (λ o w. ToursAt h.lease d.chart (place_of d) o w × ComesUpto d) cs → IsCall who (descent_ask d h.lease) a s t → NestsOver tree (descent_ask d h.lease, a) cs
  descending h d under k amid c =
      subst (λ (tr : ℕ). NestsOver tr (descent_ask d h.lease, a) cs) under.tree_is
      (got_nests book order s stands d.chart.tree k.rest.chart.tree d.level d.page d.low k.way.at.linked h.lease h.lease s.now a cs all
      (λ v e. saw (object.Page d.chart.tree d.page) h.lease v c e) (λ up v e. still (object.Page d.chart.tree d.page) h.lease v c e))
    where
      all : (p : ℕ) (n : Inner) → WasNode d.chart.tree p n cs → Found book order s stands d.chart.tree k.rest.chart.tree s.now h.lease n
      all p n was =
          noted_found book order s stands d.chart.tree k.rest.chart.tree s.now h.lease d.chart.nodes p was.0 n k.rest.chart.nodes was.1
          (tours_noted h.lease d.chart (place_of d) amid.opening amid.work tree p was.0 n amid.is.0 was.1
          (subst (λ (xs : Calls). WasGot (object.Page d.chart.tree p) (Some was.0) xs) amid.calls was.2))

  reading : (h : Held) (f : Leafing) → IsUnder tree h.lease f.chart.tree → IsReading (store_of book order s) s.now h.lease f h.deletions.ids → (o : Opening) (work : Calls)
      → BeginsLeaf h.lease f o work → cs ≡ work ++ opening_calls tree h.lease o → IsCall who (folding_ask f h.lease) a s t → NestsOver tree (folding_ask f h.lease, a) cs
  reading h f under k o work begins calls c =
      subst (λ (tr : ℕ). NestsOver tr (folding_ask f h.lease, a) cs) under.tree_is
      (subst (λ (ask : Ask). NestsOver f.chart.tree (ask, a) cs) (sym asks)
      (got_nests book order s stands f.chart.tree k.at.chart.tree 0 f.page f.low k.at.way.at.linked h.lease f.lease s.now a cs all
      (λ v e. saw (object.Page f.chart.tree f.page) f.lease v got e) (λ up v e. absurd (omega (arith, up)))))
    where
      asks : folding_ask f h.lease ≡ GetHeld (object.Page f.chart.tree f.page) f.lease
      asks = ap (λ (p : Placing). unwrap_or (put_in_hand p f.chart.tree h.lease (Some f.lease)) (GetHeld (object.Page f.chart.tree f.page) f.lease)) begins.empty

      got : IsCall who (GetHeld (object.Page f.chart.tree f.page) f.lease) a s t
      got = subst (λ (ask : Ask). IsCall who ask a s t) asks c

      behind : (p : ℕ) (bytes : List ℕ)
          → WasGot (object.Page f.chart.tree p) (Some bytes) ((Take (lock.Page f.chart.tree f.page) 30, call.Given f.lease) ∷ begins.before ++ opening_calls tree h.lease o)
          → WasGot (object.Page f.chart.tree p) (Some bytes) (begins.before ++ opening_calls tree h.lease o)
      behind p bytes (inl b) =
          absurd (let e : Take (lock.Page f.chart.tree f.page) 30 ≡ GetHeld (object.Page f.chart.tree p) b.0 = ap (λ (x : Ask × Answer). x.0) b.1 in cc (e))
      behind p bytes (inr g) = g

      all : (p : ℕ) (n : Inner) → WasNode f.chart.tree p n cs → Found book order s stands f.chart.tree k.at.chart.tree s.now h.lease n
      all p n was =
          noted_found book order s stands f.chart.tree k.at.chart.tree s.now h.lease f.chart.nodes p was.0 n k.at.chart.nodes was.1
          (tours_noted h.lease f.chart (leaf_place f.low f.page) o begins.before tree p was.0 n begins.tours was.1
          (behind p was.0 (subst (λ (xs : Calls). WasGot (object.Page f.chart.tree p) (Some was.0) (xs ++ opening_calls tree h.lease o)) begins.calls
          (subst (λ (xs : Calls). WasGot (object.Page f.chart.tree p) (Some was.0) xs) calls was.2))))

  folding : (h : Held) (f : Leafing) → IsUnder tree h.lease f.chart.tree → KnowsLeaf (store_of book order s) s.now h.lease f h.deletions.ids
      → Amid tree h f.chart.run (λ o w. AtLeaf h.lease f o w) cs → IsCall who (folding_ask f h.lease) a s t → NestsOver tree (folding_ask f h.lease, a) cs
  folding h f under k amid c = on k amid.is
    where
      putting : 0 < length f.placing.puts → NestsOver tree (folding_ask f h.lease, a) cs
      putting some =
          brings_none tree (folding_ask f h.lease) a cs
          (puts_none tree f.placing f.chart.tree h.lease (Some f.lease) (GetHeld (object.Page f.chart.tree f.page) f.lease) (inr some))

      some_put : IsPutting (store_of book order s) s.now h.lease f h.deletions.ids → 0 < length f.placing.puts
      some_put p =
          let place = p.puts.placing in
          let pages = map (put_of leaf_bytes) (on_pages f.page p.puts.first (place.front ∷ place.middle)) in
          let many : length f.placing.puts ≡ length pages = ap length place.puts_are ∙ length-reverse pages in
          omega (arith, many)

      on : KnowsLeaf (store_of book order s) s.now h.lease f h.deletions.ids → AtLeaf h.lease f amid.opening amid.work → NestsOver tree (folding_ask f h.lease, a) cs
      on (inl r) (inl begins) = reading h f under r amid.opening amid.work begins amid.calls c
      on (inl r) (inr puts) = putting puts.some
      on (inr p) at = putting (some_put p)

  pub step_nests : (w : Work) → KnowsWork (store_of book order s) s.now tree w → DoneAt tree w cs → IsCall who (work_ask tree w) a s t → NestsOver tree (work_ask tree w, a) cs
  step_nests work.TakingTree k d c = brings_none tree _ a cs (λ page l e. cc (e))
  step_nests (work.GettingTree l) k d c = brings_none tree _ a cs (λ page l e. cc (e))
  step_nests (work.Receiving l root) k d c = brings_none tree _ a cs (λ page l e. cc (e))
  step_nests (work.Descending h x) k d c = descending h x k.0 k.1 d c
  step_nests (work.TakingPage h x) k d c = brings_none tree _ a cs (λ page l e. cc (e))
  step_nests (work.Folding h f) k d c = folding h f k.0 k.1 d c
  step_nests (work.ReleasingPage h l o) k d c = brings_none tree _ a cs (λ page l e. cc (e))
  step_nests (work.LeftPage h o) k d c = absurd k
  step_nests (work.Rising h r) k d c =
      brings_none tree (rising_ask r h.lease) a cs (puts_none tree r.placing r.chart.tree h.lease None (last_ask r h.lease r.last) (inl (last_none tree r h.lease r.last)))
  step_nests (work.Deleting h applied) k d c = brings_none tree _ a cs (delete_none tree (next_id h.deletions.ids))
  step_nests (work.Releasing held end) k d c = brings_none tree _ a cs (release_none tree (newest_lease held))
  step_nests work.Finished k d c = absurd k

-- Why a walk stops: a get failed or was stale. The newest version of a page that a link led to is there, and no older than any that was served.
use Rattle.std.proofs.Common.{◌≡◌, ◌≤◌, ◌<◌, ◌==◌, ◌⊎◌, inl, inr, ℕ, Bool, true, false, List, [], length, map, Option, Some, None, unwrap_or, refl, sym, ap, subst, ◌∙◌, arith}
use Rattle.std.specs.Map.{lookup}
use Rattle.std.proofs.lemmas.Bool.{eq-eqb}
use Rattle.cloud_facts.specs.Words.{Trouble, Entry, Answer, Version, CloudState, called, newest, Caller, Seen, Claim, Next, Goes, Ends, Stops, Book, Link, Store, Node, IsIn, nodes_of, store_of, IsCall, StandsUnder}
use Rattle.cloud_facts.specs.Decoding.Kinds.{IsNth}
use Rattle.cloud_facts.proofs.Book.Places.{get_within}
use Rattle.cloud_facts.proofs.Calls.Calls.{call_of}
use Rattle.cloud_facts.proofs.Decoding.Newest.{no_version}
use Rattle.cloud_facts.proofs.Chains.GoneLemmas.{links_kept}
use Rattle.cloud_facts.proofs.Decoding.Values.{newest_decodes}
use Rattle.cloud_trait.specs.declared.answer.Answer.TheVariants.{Got}
use Rattle.cloud_trait.specs.Weather.{counted, Rose, Weather, Makes}
use Rattle.db_base.specs.declared.names.ObjName.TheVariants as object
use Rattle.db_base.specs.declared.trouble.Counter.{Counter}
use Rattle.page_cache.specs.Cache.{Cache, served_at}
use Rattle.page_cache.specs.Names.{same_name}
use Rattle.page_cache.specs.Refused.{IsDamaged}
use Rattle.cloud_facts.specs.Book.Tally.{version_of}
use Rattle.cloud_facts.specs.Book.Telling.{node_in, with_bytes, gone_of}
use Rattle.session_facts.specs.Sessions.Explains.{IsShown}
use Rattle.session_facts.specs.Machines.Walks.Caches.{KnowsCache}
use Rattle.session_facts.specs.Machines.Walks.Knows.{KnowsWalk, KnowsWalking, MayStopWalk, WalkLeads}
use Rattle.session_facts.proofs.Machines.Runs.Leaves.{node_numbered}
use Rattle.session_facts.proofs.Sessions.Shows.{row_of}
use Rattle.session_facts.proofs.Machines.Walks.Caches.{leaf_version_is, served_known}
use Rattle.session_facts.proofs.Machines.Walks.Outcome.{walk_goes}
use Rattle.tree_walk.specs.Causes.{IsOld, IsVersionOf, FailsSo, Shows}
use Rattle.tree_walk.specs.Walk.{Spot, Walk, object_at, object_of, is_leaf, is_leaf_at, walk_ask, walk_next}
use Rattle.tree_walk.proofs.Causes.{StopsBeside, next_stops}

no_length : (vs : List Version) → vs ≡ [] → length vs ≡ 0
no_length vs e = ap length e

module _ (book : Book) (order : List Entry) (s : CloudState) (stands : StandsUnder book order s) where
  abbrev pub st : Store
  st = store_of book order s

  abbrev landed_of : ℕ → ℕ → List Version
  landed_of tree page = s.versions (object.Page tree page)

  -- ---- versions

  -- a page without newest bytes that was not removed has none
  no_versions : (tree page : ℕ) → gone_of s tree page ≡ false → newest s (object.Page tree page) ≡ None → landed_of tree page ≡ []
  no_versions tree page there e = no_version (object.Page tree page) (landed_of tree page) (stands.decodes.versions (object.Page tree page)) there e

  -- a node that landed has at most the number of the newest version of its page
  node_within : (tree page : ℕ) (node : Node) → IsIn (nodes_of s tree page) node → version_of node ≤ length (landed_of tree page)
  node_within tree page node is =
      let n = node_numbered tree page (landed_of tree page) node (stands.decodes.versions (object.Page tree page)) is in
      let number = n.3 in
      let within = get_within (landed_of tree page) n.0 n.1 n.2 in
      omega (arith, number, within)

  -- and so has the greatest version that was served of a page
  served_within : (c : Cache) → KnowsCache st c → (tree page : ℕ) → served_at c (object.Page tree page) ≤ length (landed_of tree page)
  served_within c k tree page = on (lookup (same_name (object.Page tree page)) c.versions) refl
    where
      on : (o : Option ℕ) → lookup (same_name (object.Page tree page)) c.versions ≡ o → unwrap_or o 0 ≤ length (landed_of tree page)
      on None e = omega arith
      on (Some version) e =
          let served = served_known st c (object.Page tree page) version k e in
          let within = node_within tree page served.0 served.1 in
          let number = served.2 in
          omega (arith, within, number)

  -- the newest version of a page that was not removed has the number of versions that landed
  newest_number : (tree page found : ℕ) (got : Option (List ℕ)) → gone_of s tree page ≡ false → got ≡ newest s (object.Page tree page) → IsVersionOf (object.Page tree page) true got found
      → found ≡ length (landed_of tree page)
  newest_number tree page found None there new version = version ∙ sym (no_length (landed_of tree page) (no_versions tree page there (sym new)))
  newest_number tree page found (Some bytes) there new version =
      let k : IsNth (object.Page tree page) (length (landed_of tree page)) bytes = newest_decodes s (object.Page tree page) bytes stands.decodes (sym new) in
      sym (leaf_version_is bytes k.0 found k.1 version) ∙ k.2

  -- ---- the page in hand

  module _ (w : Walk) (c : Cache) (cache : KnowsCache st c) (got : Option (List ℕ)) (t : Trouble) where
    module _ (sp : Spot) (k : KnowsWalk st (record w { spot = Some sp })) (new : got ≡ newest s (object.Page w.tree sp.page))
        (old : IsOld c (object.Page w.tree sp.page) (sp.level == 0) got t) where
      abbrev landed : List Version
      landed = landed_of w.tree sp.page

      within : served_at c (object.Page w.tree sp.page) ≤ length landed
      within = served_within c cache w.tree sp.page

      -- a page that a link led to was not removed
      kept : gone_of s w.tree sp.page ≡ false
      kept = links_kept st stands.holds.gones w.tree sp.level (record { low = sp.low; page = sp.page }) k.stands.at.linked

      -- it is absent at first alone, and it is page 1
      not_absent : got ≡ None → ⊥
      not_absent none =
          let empty : landed ≡ [] = no_versions w.tree sp.page kept (sym new ∙ none) in
          let link : Link = record { low = sp.low; page = sp.page } in
          let first = (stands.holds.chains w.tree k.tree).newest.absent sp.level link k.stands.at.linked (ap (λ (vs : List Version). map node_in (with_bytes vs)) empty) in
          let same : sp.page ≡ old.page = cc (old.of) in
          let some = old.missed (eq-eqb sp.level 0 first.0) (sym same ∙ first.1) none in
          let none_there = no_length landed empty in
          let upto = within in
          omega (arith, some, none_there, upto)

      not_older : (sp.level == 0) ≡ true → old.found < served_at c (object.Page w.tree sp.page) → ⊥
      not_older leaf less =
          let number = newest_number w.tree sp.page old.found got kept new (subst (λ (b : Bool). IsVersionOf (object.Page w.tree sp.page) b got old.found) leaf old.version) in
          let upto = within in
          omega (arith, less, number, upto)

      page_fresh : ⊥
      page_fresh = on old.older
        where
          on : (got ≡ None) ⊎ (((sp.level == 0) ≡ true) × (old.found < served_at c (object.Page w.tree sp.page))) → ⊥
          on (inl none) = not_absent none
          on (inr (leaf, less)) = not_older leaf less

    -- the newest version of the object in hand is not too old
    fresh : KnowsWalk st w → got ≡ newest s (object_of w) → IsOld c (object_of w) (is_leaf w) got t → ⊥
    fresh k new old = on w.spot k new old
      where
        on : (o : Option Spot) → KnowsWalk st (record w { spot = o }) → got ≡ newest s (object_at w.tree o) → IsOld c (object_at w.tree o) (is_leaf_at o) got t → ⊥
        on None k new old = absurd (cc (old.of))
        on (Some sp) k new old = page_fresh sp k new old

  -- ---- the get

  module _ (who : Caller) (before after : Seen) (t : CloudState) (told : before.state ≡ Some s) (told_after : after.state ≡ Some t) (held : List Claim) (Spent : CloudState → Counter → Type 0)
      (w : Walk) (c : Cache) (k : KnowsWalking st w c) (a : Answer) (made : Makes who (walk_ask w) a before after) where
    -- a trouble is shown by the get
    abbrev pub Shown : Trouble → Type 0
    Shown trouble = IsShown (walk_ask w) held Spent (before.counts, s) (after.counts, t) trouble

    by_row : (got : Option (List ℕ)) (trouble : Trouble) → Weather who (walk_ask w) (Got got) (counted before.counts (called who t.now s)) (counted after.counts t)
        → IsOld c (object_of w) (is_leaf w) got trouble → Rose before.counts.stale after.counts.stale
    by_row got trouble (same, version, inl new) old = absurd (fresh w c k.cache got trouble k.walk new old)
    by_row got trouble (same, version, inr rose) old = rose

    stale_rose : (got : Option (List ℕ)) (trouble : Trouble) → a ≡ Got got → IsOld c (object_of w) (is_leaf w) got trouble → Rose before.counts.stale after.counts.stale
    stale_rose got trouble e old =
        by_row got trouble
        (subst (λ (x : Answer). Weather who (walk_ask w) x (counted before.counts (called who t.now s)) (counted after.counts t)) e
        (row_of who before after s t told told_after held Spent (walk_ask w) a made)) old

    -- what fails, and what is refused
    pub failed_shown : (trouble : Trouble) → FailsSo a trouble → Shown trouble
    failed_shown trouble fails = subst Shown (sym fails.0) (made.failed fails.1)

    pub refused_shown : (got : Option (List ℕ)) (trouble : Trouble) → a ≡ Got got
        → IsOld c (object_of w) (is_leaf w) got trouble ⊎ IsDamaged (object_of w) (is_leaf w) got trouble → Shown trouble
    refused_shown got trouble e (inl old) = subst Shown (sym old.is) (stale_rose got trouble e old)
    refused_shown got trouble e (inr damaged) = subst Shown (sym damaged.is) tt

    shown_by : (v : Walk) (trouble : Trouble) → Shows (w, c) a v trouble → Shown trouble
    shown_by v trouble (inl (inl fails)) = failed_shown trouble fails
    shown_by v trouble (inl (inr (got, e, refused))) = refused_shown got trouble e refused
    shown_by v trouble (inr (d, brings, inl (sp, at, led, inl level))) = subst Shown (sym level.is) tt
    shown_by v trouble (inr (d, brings, inl (sp, at, led, inr fence))) = subst Shown (sym fence.is) tt
    shown_by v trouble (inr (d, brings, inr loop)) = subst Shown (sym loop.is) tt

    called_so : IsCall who (walk_ask w) a s t
    called_so = call_of who (walk_ask w) a before after s t made told told_after

    -- a walk stops for nothing that its get does not show
    pub walk_shown : WalkLeads st Shown (walk_next (w, c) a)
    walk_shown = on (walk_next (w, c) a) (walk_goes book order s stands who w c a t called_so k) (next_stops w c a made.fits)
      where
        on : (x : Next (Walk × Cache) ℕ) → WalkLeads st MayStopWalk x → StopsBeside (w, c) a x → WalkLeads st Shown x
        on (Goes m) leads stops = leads
        on (Ends m page) leads stops = leads
        on (Stops m trouble) leads (inl memory) = (leads.0, subst Shown (sym memory) tt)
        on (Stops m trouble) leads (inr shows) = (leads.0, shown_by m.0 trouble shows)

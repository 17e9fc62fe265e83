-- What each call of a sweep leaves of the cloud that it began over: all but pages that nothing reached.
use Rattle.std.proofs.Common.{◌≡◌, ◌≢◌, ◌⊎◌, inl, inr, ℕ, Bool, true, false, List, [], ◌∷◌, ◌++◌, Option, Some, None, Ok, refl, sym, ap, subst, ◌∙◌, arith}
use Rattle.cloud_facts.specs.Words.{IsTree, ObjName, QueueName, Entry, Answer, Version, Posted, CloudState, called, newest, Caller, Claim, Lasts, Ask, GetHeld, Release, done_of, Book, Store, nodes_of, roots_of, store_of, IsCall, StandsUnder}
use Rattle.cloud_facts.specs.Book.Premises.{Removes}
use Rattle.cloud_facts.specs.Book.Telling.{gone_of}
use Rattle.cloud_facts.specs.Chains.Chain.{IsUnlinked}
use Rattle.cloud_facts.specs.Chains.Links.{first_link}
use Rattle.cloud_facts.specs.Homes.Homes.{Part}
use Rattle.cloud_facts.proofs.Calls.Pages.{none_landed, some_landed}
use Rattle.cloud_facts.proofs.Decoding.Newest.{newest_last, last_there}
use Rattle.cloud_trait.proofs.NameLemmas.{object_cmp-equal}
use Rattle.cloud_trait.proofs.RowLemmas.{row_versions, row_messages}
use Rattle.cloud_trait.proofs.StateLemmas.{put_at_by, newest_of-push}
use Rattle.cloud_trait.specs.Ask.{ListHeld, RemoveHeld, Lands, PutsNothing, TouchesNoMessage}
use Rattle.cloud_trait.specs.Names.{object_cmp}
use Rattle.cloud_trait.specs.State.{newest_of, removed as removed_from, put_at}
use Rattle.db_base.specs.declared.names.ObjName.TheVariants as object
use Rattle.orphan_sweep.proofs.Outcomes.{leased}
use Rattle.orphan_sweep.specs.declared.stage.Stage.{Stage}
use Rattle.orphan_sweep.specs.declared.stage.Stage.TheVariants.{TakingTree, GettingTree, Reading, Listing, Removing, Releasing, Finished}
use Rattle.orphan_sweep.specs.Sweeping.{Sweeping, take_tree, next_orphan, remove_next, is_among, ask_at, sweep_ask}
use Rattle.session_facts.specs.Machines.Sweeps.Places.{IsOfLink}
use Rattle.session_facts.specs.Machines.Sweeps.Reached.{HasBytes, RootNames, PageNames, IsReached, first_page, from_root, from_page}
use Rattle.session_facts.specs.Machines.Sweeps.Remains.{WasRemoved, PageRemains, Remains, AreJustReached}
use Rattle.session_facts.specs.Machines.Sweeps.Knows.{IsCleared, KnowsAt, KnowsSweep}
use Rattle.session_facts.proofs.Machines.Sweeps.Clears.{all_swept}
use Rattle.session_facts.proofs.Machines.Sweeps.Onward.{first_leaf}
use Rattle.session_facts.proofs.Machines.Sweeps.Places.{among_in, in_among}
use Rattle.session_facts.proofs.Machines.Sweeps.Reached.{reached_links, links_reached, reached_bytes}
use Rattle.session_facts.proofs.Machines.Sweeps.Outcome.{removal_cases}
use Rattle.session_facts.proofs.Machines.Sweeps.Others.{sweep_later}

-- ---- bytes

-- newest bytes go by the versions
newest_same : (s t : CloudState) (name : ObjName) → t.versions name ≡ s.versions name → newest t name ≡ newest s name
newest_same s t name e = ap newest_of e

pub same_bytes : (s t : CloudState) (tree page : ℕ) → t.versions (object.Page tree page) ≡ s.versions (object.Page tree page) → HasBytes s tree page → HasBytes t tree page
same_bytes s t tree page e has = (has.0, newest_same s t (object.Page tree page) e ∙ has.1)

never_removed : (s t : CloudState) (tree page : ℕ) → WasRemoved s t tree page → HasBytes t tree page → ⊥
never_removed s t tree page w has =
    let bare : newest t (object.Page tree page) ≡ None = ap newest_of w.added ∙ (newest_of-push (s.versions (object.Page tree page)) w.last ∙ w.bare) in
    let no : None ≡ Some has.0 = sym bare ∙ has.1 in
    absurd (cc (no))

-- ---- what is reached stays so

module _ (s t : CloudState) (tree : ℕ) (r : Remains s t tree) where
  -- a page with bytes is as it was
  same_versions : (page : ℕ) → HasBytes t tree page → t.versions (object.Page tree page) ≡ s.versions (object.Page tree page)
  same_versions page has = on (r.pages page)
    where
      on : PageRemains s t tree page → t.versions (object.Page tree page) ≡ s.versions (object.Page tree page)
      on (inl e) = e
      on (inr w) = absurd (never_removed s t tree page w has)

  bytes_before : (page : ℕ) → HasBytes t tree page → HasBytes s tree page
  bytes_before page has = same_bytes t s tree page (sym (same_versions page has)) has

  -- so is one that was reached
  reached_same : (page : ℕ) → IsReached s tree page → t.versions (object.Page tree page) ≡ s.versions (object.Page tree page)
  reached_same page reached = on (r.pages page)
    where
      on : PageRemains s t tree page → t.versions (object.Page tree page) ≡ s.versions (object.Page tree page)
      on (inl e) = e
      on (inr w) = absurd (w.unreached reached)

  reached_has : (page : ℕ) → IsReached s tree page → HasBytes t tree page
  reached_has page reached = same_bytes s t tree page (reached_same page reached) (reached_bytes s tree page reached)

  root_names : (u v : CloudState) (page : ℕ) → v.versions (object.Tree tree) ≡ u.versions (object.Tree tree) → RootNames u tree page → RootNames v tree page
  root_names u v page e n = record { bytes = n.bytes; newest_is = newest_same u v (object.Tree tree) e ∙ n.newest_is; root = n.root; spells = n.spells; names = n.names }

  page_names : (u v : CloudState) (from page : ℕ) → v.versions (object.Page tree from) ≡ u.versions (object.Page tree from) → PageNames u tree from page → PageNames v tree from page
  page_names u v from page e n =
      record { bytes = n.bytes; newest_is = newest_same u v (object.Page tree from) e ∙ n.newest_is; node = n.node; spells = n.spells; names = n.names }

  reached_on : (page : ℕ) → IsReached s tree page → IsReached t tree page
  reached_on _ (first_page has) = first_page (reached_has 1 (first_page has))
  reached_on _ (from_root page names has) = from_root page (root_names s t page (r.roots tree) names) (reached_has page (from_root page names has))
  reached_on _ (from_page from page reached names has) =
      from_page from page (reached_on from reached) (page_names s t from page (reached_same from reached) names) (reached_has page (from_page from page reached names has))

  reached_back : (page : ℕ) → IsReached t tree page → IsReached s tree page
  reached_back _ (first_page has) = first_page (bytes_before 1 has)
  reached_back _ (from_root page names has) = from_root page (root_names t s page (sym (r.roots tree)) names) (bytes_before page has)
  reached_back _ (from_page from page reached names has) =
      from_page from page (reached_back from reached) (page_names t s from page (sym (same_versions from (reached_bytes t tree from reached))) names) (bytes_before page has)

-- ---- a cloud with the same versions and messages

pub itself_remains : (s : CloudState) (tree : ℕ) → Remains s s tree
itself_remains s tree =
    record { heads = λ client. refl; roots = λ of. refl; others = λ of page other. refl; pages = λ page. inl refl; messages = λ queue. refl }

pub same_remains : (s t u : CloudState) (tree : ℕ) → u.versions ≡ t.versions → u.messages ≡ t.messages → Remains s t tree → Remains s u tree
same_remains s t u tree e f r = record {
  heads = λ client. at (object.Head client) ∙ r.heads client;
  roots = λ of. at (object.Tree of) ∙ r.roots of;
  others = λ of page other. at (object.Page of page) ∙ r.others of page other;
  pages = λ page. on page (r.pages page);
  messages = λ queue. ap (λ (ms : QueueName → List Posted). ms queue) f ∙ r.messages queue;
}
  where
    at : (name : ObjName) → u.versions name ≡ t.versions name
    at name = ap (λ (vs : ObjName → List Version). vs name) e

    on : (page : ℕ) → PageRemains s t tree page → PageRemains s u tree page
    on page (inl same) = inl (at (object.Page tree page) ∙ same)
    on page (inr w) = inr (record { last = w.last; bare = w.bare; added = at (object.Page tree page) ∙ w.added; had = w.had; unreached = w.unreached })

pub same_just : (s t u : CloudState) (tree : ℕ) → u.versions ≡ t.versions → AreJustReached s t tree → AreJustReached s u tree
same_just s t u tree e j = record {
  only = λ page has. j.only page (same_bytes u t tree page (sym (at page)) has);
  all = λ page reached. same_bytes t u tree page (at page) (j.all page reached);
}
  where
    at : (page : ℕ) → u.versions (object.Page tree page) ≡ t.versions (object.Page tree page)
    at page = ap (λ (vs : ObjName → List Version). vs (object.Page tree page)) e

-- ---- a page is removed

-- the versions of a page of the tree, by those that it had
abbrev PageAs : CloudState → ℕ → ℕ → List Version → Type 0
PageAs s tree page vs =
    (vs ≡ s.versions (object.Page tree page))
    ⊎ ((v : Version) × (v.bytes ≡ None) × (vs ≡ s.versions (object.Page tree page) ++ v ∷ []) × HasBytes s tree page × (IsReached s tree page → ⊥))

abbrev NameAs : CloudState → ℕ → ObjName → List Version → Type 0
NameAs s tree (object.Head client) vs = vs ≡ s.versions (object.Head client)
NameAs s tree (object.Tree of) vs = vs ≡ s.versions (object.Tree of)
NameAs s tree (object.Page of page) vs = (of ≢ tree → vs ≡ s.versions (object.Page of page)) × (of ≡ tree → PageAs s of page vs)

page_as : (s t : CloudState) (tree page : ℕ) → PageRemains s t tree page → PageAs s tree page (t.versions (object.Page tree page))
page_as s t tree page (inl e) = inl e
page_as s t tree page (inr w) = inr (w.last, w.bare, w.added, w.had, w.unreached)

name_as : (s t : CloudState) (tree : ℕ) → Remains s t tree → (name : ObjName) → NameAs s tree name (t.versions name)
name_as s t tree r (object.Head client) = r.heads client
name_as s t tree r (object.Tree of) = r.roots of
name_as s t tree r (object.Page of page) = (
  λ other. r.others of page other,
  λ same. subst (λ (k : ℕ). PageAs s k page (t.versions (object.Page k page))) (sym same) (page_as s t tree page (r.pages page)),
)

remains_by : (s t : CloudState) (tree : ℕ) → ((name : ObjName) → NameAs s tree name (t.versions name)) → ((queue : QueueName) → t.messages queue ≡ s.messages queue) → Remains s t tree
remains_by s t tree each messages = record {
  heads = λ client. each (object.Head client);
  roots = λ of. each (object.Tree of);
  others = λ of page other. (each (object.Page of page)).0 other;
  pages = λ page. on page ((each (object.Page tree page)).1 refl);
  messages = messages;
}
  where
    on : (page : ℕ) → PageAs s tree page (t.versions (object.Page tree page)) → PageRemains s t tree page
    on page (inl e) = inl e
    on page (inr w) = inr (record { last = w.0; bare = w.1; added = w.2; had = w.3; unreached = w.4 })

removal_remains : (s t : CloudState) (tree page : ℕ) (who : Caller) → Remains s t tree → HasBytes t tree page → (IsReached s tree page → ⊥)
    → Remains s (removed_from who (object.Page tree page) t) tree
removal_remains s t tree page who r has out = remains_by s (removed_from who (object.Page tree page) t) tree each r.messages
  where
    bare : Version
    bare = record { who = who; bytes = None }

    more : List Version
    more = t.versions (object.Page tree page) ++ bare ∷ []

    here : NameAs s tree (object.Page tree page) more
    here = (
      λ other. absurd (other refl),
      λ same. inr (bare, refl, ap (λ (vs : List Version). vs ++ bare ∷ []) (same_versions s t tree r page has), bytes_before s t tree r page has, out),
    )

    each : (name : ObjName) → NameAs s tree name (put_at object_cmp t.versions (object.Page tree page) more name)
    each name = put_at_by (NameAs s tree) object_cmp object_cmp-equal t.versions (object.Page tree page) more here (name_as s t tree r) name

-- ---- a call

module _ (start : CloudState) (who : Caller) (s t : CloudState) (book : Book) (order : List Entry) (stands : StandsUnder book order s) (m : Sweeping) (reply : Answer)
    (of_tree : IsTree m.tree) (r : Remains start s m.tree) where
  abbrev st : Store
  st = store_of book order s

  -- one that puts and sends nothing
  quiet : (ask : Ask) → PutsNothing ask → TouchesNoMessage ask → IsCall who ask reply s t → Remains start t m.tree
  quiet ask puts touches c =
      same_remains start s t m.tree (row_versions who ask reply c.before c.after (called who t.now s) t c.row puts)
      (row_messages who ask reply c.before c.after (called who t.now s) t c.row touches) r

  -- a page that can be removed has bytes, and nothing reached it
  removes_bytes : (page : ℕ) → Removes st m.tree page → HasBytes s m.tree page
  removes_bytes page k = on (newest s (object.Page m.tree page)) refl
    where
      on : (o : Option (List ℕ)) → newest s (object.Page m.tree page) ≡ o → HasBytes s m.tree page
      on (Some bytes) e = (bytes, e)
      on None e = absurd (k.landed (none_landed s m.tree page stands.decodes k.there e))

  removes_unreached : (page : ℕ) → Removes st m.tree page → IsReached start m.tree page → ⊥
  removes_unreached page k reached =
      let o = reached_links book order s stands m.tree of_tree page (reached_on start s m.tree r page reached) in
      k.unlinked o.level o.link o.linked o.page_is

  removes_one : (page : ℕ) (l : Claim) → (Lasts t.now l → Removes st m.tree page) → IsCall who (RemoveHeld (object.Page m.tree page) l) reply s t → Remains start t m.tree
  removes_one page l known call = on (removal_cases who (object.Page m.tree page) l reply s t call)
    where
      from : CloudState
      from = called who t.now s

      still : Remains start from m.tree
      still = same_remains start s from m.tree refl refl r

      on : ((t ≡ from) × (done_of reply ≡ Ok tt → ⊥)) ⊎ Lands who (RemoveHeld (object.Page m.tree page) l) from t → Remains start t m.tree
      on (inl (e, never)) = subst (λ (u : CloudState). Remains start u m.tree) (sym e) still
      on (inr (e, lasts)) =
          let k = known lasts in
          subst (λ (u : CloudState). Remains start u m.tree) (sym e)
          (removal_remains start from m.tree page who still (same_bytes s from m.tree page refl (removes_bytes page k)) (removes_unreached page k))

  remains_at : (stage : Stage) (held : Option Claim) → KnowsAt stage st t.now (leased m stage held) → IsCall who (ask_at stage (leased m stage held)) reply s t → Remains start t m.tree
  remains_at TakingTree held k call = quiet (take_tree (leased m TakingTree held)) tt tt call
  remains_at GettingTree (Some l) k call = quiet (GetHeld (object.Tree m.tree) l) tt tt call
  remains_at GettingTree None k call = absurd k.0
  remains_at Reading (Some l) k call = quiet (GetHeld (object.Page m.tree m.at.page) l) tt tt call
  remains_at Reading None k call = absurd k
  remains_at Listing (Some l) k call = quiet (ListHeld m.tree l) tt tt call
  remains_at Listing None k call = absurd k
  remains_at Removing (Some l) k call =
      let page : ℕ = k.1.0 in
      let next : next_orphan m ≡ Some page = k.1.1 in
      removes_one page l (λ lasts. (k.0.1 lasts).left m.removed page (omega arith) next)
      (subst (λ (o : Option ℕ). IsCall who (remove_next (leased m Removing (Some l)) l o) reply s t) next call)
  remains_at Removing None k call = absurd k.0
  remains_at Releasing (Some l) k call = quiet (Release l) tt tt call
  remains_at Releasing None k call = absurd k
  remains_at Finished held k call = absurd k

  pub call_remains : (part : Part) → KnowsSweep st s.now m part → IsCall who (sweep_ask m) reply s t → Remains start t m.tree
  call_remains part knows call = remains_at m.stage m.held (sweep_later st s.now t.now m part call.later knows).at call

-- ---- once all orphans are removed

module _ (start : CloudState) (t : CloudState) (book : Book) (order : List Entry) (stands : StandsUnder book order t) (m : Sweeping) (of_tree : IsTree m.tree)
    (r : Remains start t m.tree) (k : IsCleared (store_of book order t) m) where
  abbrev now : Store
  now = store_of book order t

  -- a page that was not come to is in no chain
  apart_unlinked : (page : ℕ) → is_among m.visited page ≡ false → IsUnlinked (book.chain m.tree) page
  apart_unlinked page apart level link linked e =
      let no : true ≡ false = sym (in_among m.visited link.page (k.0.all.pages level link linked)) ∙ (ap (is_among m.visited) e ∙ apart) in
      absurd (cc (no))

  page_one : IsUnlinked (book.chain m.tree) 1 → ⊥
  page_one out =
      out 0 first_link
      (first_leaf (book.chain m.tree) (nodes_of t m.tree) (roots_of t m.tree) (now.tally.done m.tree) (now.tally.cursor m.tree 0) (stands.holds.chains m.tree of_tree)) refl

  -- one with bytes is a link's
  bytes_linked : (page : ℕ) → HasBytes t m.tree page → IsOfLink (book.chain m.tree) page
  bytes_linked page has = on (is_among m.visited page) refl
    where
      landed : nodes_of t m.tree page ≢ []
      landed none = let no : None ≡ Some has.0 = sym (some_landed t m.tree page none) ∙ has.1 in absurd (cc (no))

      there : gone_of t m.tree page ≡ false
      there =
          let last = newest_last (t.versions (object.Page m.tree page)) has.0 has.1 in
          last_there (t.versions (object.Page m.tree page)) last.0 has.0 last.1 last.2

      on : (b : Bool) → is_among m.visited page ≡ b → IsOfLink (book.chain m.tree) page
      on true e = k.0.all.only page (among_in m.visited page e)
      on false e =
          let out = apart_unlinked page e in
          absurd (all_swept now m.tree m.visited m.orphans m.removed k.0 k.1 page (λ first. page_one (subst (IsUnlinked (book.chain m.tree)) first out))
          (record { unlinked = out; landed = landed; there = there }))

  pub just_reached : AreJustReached start t m.tree
  just_reached = record {
    only = λ page has. (
      bytes_before start t m.tree r page has,
      reached_back start t m.tree r page (links_reached book order t stands m.tree of_tree page (bytes_linked page has) has),
    );
    all = λ page reached. reached_has start t m.tree r page reached;
  }

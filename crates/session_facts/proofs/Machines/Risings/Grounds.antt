-- What the way up stands on: the newest root has a spelling, links that go up are of pages that an entry may name, and so are the numbers of a run.
use Rattle.std.proofs.Common.{◌≡◌, ◌<◌, ◌≤◌, ◌-◌, ◌+◌, ◌⊎◌, inl, inr, ℕ, zero, suc, List, [], ◌∷◌, length, map, drop, take, Some, refl, sym, ap, subst, ◌∙◌, arith, take-append-drop}
use Rattle.std.specs.Prelude.{slice_get}
use Rattle.std.proofs.lemmas.Bool.{cases_lt}
use Rattle.byte_format.specs.Format.{greatest}
use Rattle.cloud_facts.specs.Chains.Chain.{IsChained}
use Rattle.cloud_facts.specs.Chains.Links.{top_of}
use Rattle.cloud_facts.proofs.Chains.Pieces.{none_stands}
use Rattle.cloud_facts.specs.Words.{IsClient, IsTree, Entry, Version, CloudState, Book, Store, IsIn, nodes_of, roots_of, store_of, StandsUnder}
use Rattle.db_base.specs.Cursor.{number_of}
use Rattle.db_base.specs.declared.names.ObjName.TheVariants as object
use Rattle.cloud_facts.proofs.Decoding.Newest.{IsLast, last_cases, last_map, has_nth, never_gone}
use Rattle.cloud_facts.proofs.Decoding.Reading.{root_reads}
use Rattle.log_codec.proofs.PuLaws.{pu_of-some}
use Rattle.node_codec.specs.Tree.{HasTreeSpelling, empty_tree}
use Rattle.run_cursor.specs.Run.{Taken}
use Rattle.session_facts.specs.Machines.Runs.Knows.{TookRun}
use Rattle.session_facts.proofs.Machines.Runs.Taken.{run_has, run_in}
use Rattle.cloud_facts.specs.Book.Premises.{IsItemOf}
use Rattle.cloud_facts.specs.Book.Telling.{last_or, root_in}
use Rattle.cloud_facts.proofs.Book.Places.{in_behind}
use Rattle.tree_phases.specs.declared.kept.KeptNode.{KeptNode}
use Rattle.tree_phases.specs.declared.link.Link.{Link as Found}
use Rattle.session_facts.specs.Machines.Trees.Charts.{AreFound}
use Rattle.session_facts.specs.Machines.Risings.Knows.{AreApart}
use Rattle.session_facts.proofs.Machines.Risings.Spells.{ArePages, root_sound, root_next}

-- ---- the rest of a list

pub in_dropped : {X : Type 0} (n : ℕ) (xs : List X) (x : X) → IsIn (drop n xs) x → IsIn xs x
in_dropped n xs x there = subst (λ l. IsIn l x) (take-append-drop n xs) (in_behind (take n xs) (drop n xs) x there)

none_dropped : {X : Type 0} (n : ℕ) → drop {A = X} n [] ≡ []
none_dropped zero = refl
none_dropped (suc n) = refl

-- behind a place of the rest
pub dropped_behind : {X : Type 0} (i j : ℕ) (xs : List X) → drop (i + j + 1) xs ≡ drop (suc j) (drop i xs)
dropped_behind zero j xs = let n : zero + j + 1 ≡ suc j = omega arith in ap (λ (m : ℕ). drop m xs) n
dropped_behind {X} (suc i) j [] = none_dropped {X = X} (suc i + j + 1)
dropped_behind (suc i) j (x ∷ xs) = let n : suc i + j + 1 ≡ suc (i + j + 1) = omega arith in ap (λ (m : ℕ). drop m (x ∷ xs)) n ∙ dropped_behind i j xs

pub get_dropped : {X : Type 0} (i j : ℕ) (xs : List X) (x : X) → slice_get xs (i + j) ≡ Some x → slice_get (drop i xs) j ≡ Some x
get_dropped zero j xs x e = let n : j ≡ zero + j = omega arith in ap (slice_get xs) n ∙ e
get_dropped (suc i) j [] x e = absurd (none_stands (suc i + j) x e)
get_dropped (suc i) j (y ∷ xs) x e = let n : suc (i + j) ≡ suc i + j = omega arith in get_dropped i j xs x (ap (slice_get (y ∷ xs)) n ∙ e)

-- a node and those behind it are of pages that differ
pub apart_from : (ks : List KeptNode) (j : ℕ) (k : KeptNode) → slice_get ks j ≡ Some k → AreApart ks → AreApart (k ∷ drop (suc j) ks)
apart_from [] j k e a = absurd (none_stands j k e)
apart_from (x ∷ ks) zero k e a = let same : x ≡ k = cc in subst (λ (y : KeptNode). AreApart (y ∷ ks)) same a
apart_from (x ∷ ks) (suc j) k e a = apart_from ks j k e a.1

-- ---- the newest root

module _ (book : Book) (order : List Entry) (s : CloudState) (stands : StandsUnder book order s) (tree : ℕ) (of_tree : IsTree tree) where
  abbrev st : Store
  st = store_of book order s

  abbrev vs : List Version
  vs = s.versions (object.Tree tree)

  pub top_spelled : (top_of (roots_of s tree) ≡ empty_tree) ⊎ HasTreeSpelling (top_of (roots_of s tree))
  top_spelled = on (last_cases vs)
    where
      on : (vs ≡ []) ⊎ ((v : Version) × IsLast vs v) → (top_of (roots_of s tree) ≡ empty_tree) ⊎ HasTreeSpelling (top_of (roots_of s tree))
      on (inl e) = inl (ap (λ (xs : List Version). last_or empty_tree (map root_in xs)) e)
      on (inr p) =
          let all = stands.decodes.versions (object.Tree tree) in
          let k = has_nth (object.Tree tree) vs (length vs - 1) p.0 all (never_gone (object.Tree tree) vs (λ no. no) all) p.1 in
          inr (subst HasTreeSpelling (sym (last_map root_in empty_tree vs p.0 p.1 ∙ root_reads p.0 k.0 k.2.0 k.1 k.2.1)) k.2.1.fits)

  pub top_most : (top_of (roots_of s tree)).next ≤ greatest
  top_most = (root_next (top_of (roots_of s tree)) (root_sound (top_of (roots_of s tree)) top_spelled)).1

  chained : IsChained (book.chain tree) (nodes_of s tree) (roots_of s tree) (st.tally.done tree) (st.tally.cursor tree 0)
  chained = stands.holds.chains tree of_tree

  -- the pages of links
  pub link_page : (level : ℕ) (low : List ℕ) (page : ℕ) → IsIn (book.chain tree level) (record { low = low; page = page }) → (1 ≤ page) × (page < (top_of (roots_of s tree)).next) × (page ≤ greatest)
  link_page level low page there =
      let p = chained.pages.linked level (record { low = low; page = page }) there in
      let less = p.1 in
      let most = top_most in
      (p.0, less, omega (arith, less, most))

  pub found_pages : (ls : List Found) → AreFound (book.chain tree) ls → ArePages ls
  found_pages ls found l there = let p = link_page (l.level - 1) l.low l.page (found l there).linked in (p.0, p.2)

  -- the numbers of a run
  pub top_numbers : (cursor : List (ℕ × ℕ)) (run : Taken) (ids : List ℕ) → ((client : ℕ) → IsClient client → number_of cursor client ≤ greatest) → TookRun st tree 0 cursor run ids
      → (client : ℕ) → IsClient client → number_of run.top client ≤ greatest
  top_numbers cursor run ids small took client is = on (cases_lt (number_of cursor client) (number_of run.top client))
    where
      on : (number_of cursor client < number_of run.top client) ⊎ (number_of run.top client ≤ number_of cursor client) → number_of run.top client ≤ greatest
      on (inr le) = let c = small client is in omega (arith, c, le)
      on (inl above) =
          let x = run_has cursor took.received run.items run.top took.is_run client (number_of run.top client) above (omega arith) in
          let i : IsItemOf st tree 0 x.0 = took.items x.0 (run_in cursor took.received run.items run.top took.is_run x.0 x.1) in
          let n = (pu_of-some i.sent.message.bytes x.0.rec i.sent.reads).0.number.fits in
          let e = x.3 in
          omega (arith, n, e)

-- What the put of a checkpoint's last root rests on: its cursor goes on by the run, whose records are all applied.
use Rattle.std.proofs.Common.{◌≡◌, ◌<◌, ◌≤◌, ◌⊎◌, inl, inr, max, ℕ, List, sym, ap, subst, ◌∙◌, arith}
use Rattle.std.proofs.lemmas.Bool.{cases_lt}
use Rattle.db_base.specs.Change.{key_of}
use Rattle.db_base.specs.Cursor.{number_of}
use Rattle.cloud_facts.specs.Words.{IsClient, AtomicRec, PuItem, Tree, Store, IsIn}
use Rattle.node_codec.proofs.SpellingLaws.{number_of-raised}
use Rattle.node_codec.specs.Node.{raised}
use Rattle.cloud_facts.specs.Numbers.Numbers.{Numbers}
use Rattle.cloud_facts.proofs.Numbers.Known.{record_is}
use Rattle.cloud_facts.proofs.Numbers.Runs.{item_client, item_number, item_key, item_within}
use Rattle.run_cursor.specs.Run.{IsRun}
use Rattle.session_facts.proofs.Machines.Runs.Taken.{run_in, run_has}
use Rattle.cloud_facts.specs.Book.Premises.{IsItemOf, CoversApplied}
use Rattle.cloud_facts.specs.Book.Records.{key_in, count_of, IsApplied}

pub raised_number : (cursor top : List (ℕ × ℕ)) (client : ℕ) → IsClient client → number_of (raised cursor top) client ≡ max (number_of cursor client) (number_of top client)
raised_number cursor top client is = number_of-raised cursor top client is.some is.most

module _ (st : Store) (tree : ℕ) (numbers : Numbers st) (cursor top : List (ℕ × ℕ)) (received run : List PuItem) (is_run : IsRun cursor received run top)
    (cursor_is : (client : ℕ) → number_of cursor client ≡ st.tally.cursor tree 0 client)
    (items : (x : PuItem) → IsIn received x → IsItemOf st tree 0 x)
    (applied : (x : PuItem) → IsIn run x → x.rec.number ≤ st.tally.done tree (key_of x.rec.change) 0 x.rec.client) where
  -- a number of the top is that of a record
  top_within : (client : ℕ) → IsClient client → number_of top client ≤ count_of tree 0 client st.book.log
  top_within client is = on (cases_lt (number_of cursor client) (number_of top client))
    where
      on : (number_of cursor client < number_of top client) ⊎ (number_of top client ≤ number_of cursor client) → number_of top client ≤ count_of tree 0 client st.book.log
      on (inr le) = let same = cursor_is client in let within = numbers.cursor_within tree 0 client is in omega (arith, le, same, within)
      on (inl above) =
          let r = run_has cursor received run top is_run client (number_of top client) above (omega arith) in
          let i = items r.0 (run_in cursor received run top is_run r.0 r.1) in
          subst (λ n. n ≤ count_of tree 0 client st.book.log) r.3
          (subst (λ c. r.0.rec.number ≤ count_of tree 0 c st.book.log) r.2 (item_within st tree 0 numbers.in_order r.0 i))

  -- a record of the run is applied
  run_applied : (r : AtomicRec) → IsIn st.book.log r → r.tree ≡ tree → r.page ≡ 0 → number_of cursor r.client < r.number → r.number ≤ number_of top r.client → IsApplied st.tally r
  run_applied r logged tree_is page_is above upto =
      let x = run_has cursor received run top is_run r.client r.number above upto in
      let i = items x.0 (run_in cursor received run top is_run x.0 x.1) in
      let same : i.of ≡ r =
      record_is st numbers i.of r i.logged logged (i.tree_is ∙ sym tree_is) (i.page_is ∙ sym page_is) (item_client st tree 0 x.0 i ∙ x.2) (item_number st tree 0 x.0 i ∙ x.3) in
      subst (IsApplied st.tally) same (of_item x.0 i (applied x.0 x.1))
    where
      of_item : (x : PuItem) (i : IsItemOf st tree 0 x) → x.rec.number ≤ st.tally.done tree (key_of x.rec.change) 0 x.rec.client → IsApplied st.tally i.of
      of_item x i le =
          subst (λ n. n ≤ st.tally.done i.of.tree (key_in i.of) i.of.page i.of.client) (sym (item_number st tree 0 x i))
          (subst (λ t. x.rec.number ≤ st.tally.done t (key_in i.of) i.of.page i.of.client) (sym i.tree_is)
          (subst (λ p. x.rec.number ≤ st.tally.done tree (key_in i.of) p i.of.client) (sym i.page_is)
          (subst (λ k. x.rec.number ≤ st.tally.done tree k 0 i.of.client) (sym (item_key st tree 0 x i))
          (subst (λ c. x.rec.number ≤ st.tally.done tree (key_of x.rec.change) 0 c) (sym (item_client st tree 0 x i)) le))))

  -- the root that is put last covers applied records alone
  pub covers : (root : Tree) → root.cursor ≡ raised cursor top → CoversApplied st tree root
  covers root same = record {
    rises = λ client is. let e = at client is in let c = cursor_is client in omega (arith, e, c);
    within = λ client is.
        let e = at client is in let c = cursor_is client in let old = numbers.cursor_within tree 0 client is in let new = top_within client is in omega (arith, e, c, old, new);
    applied = λ r logged tree_is page_is le. on r logged tree_is page_is le (cases_lt (number_of cursor r.client) r.number);
  }
    where
      at : (client : ℕ) → IsClient client → number_of root.cursor client ≡ max (number_of cursor client) (number_of top client)
      at client is = ap (λ (c : List (ℕ × ℕ)). number_of c client) same ∙ raised_number cursor top client is

      on : (r : AtomicRec) → IsIn st.book.log r → r.tree ≡ tree → r.page ≡ 0 → r.number ≤ number_of root.cursor r.client
          → (number_of cursor r.client < r.number) ⊎ (r.number ≤ number_of cursor r.client) → IsApplied st.tally r
      on r logged tree_is page_is le (inl above) =
          let e = at r.client (numbers.placed r logged).client in
          run_applied r logged tree_is page_is above (omega (arith, above, le, e))
      on r logged tree_is page_is le (inr below) =
          let c = cursor_is r.client in
          let under : r.number ≤ st.tally.cursor tree 0 r.client = omega (arith, below, c) in
          numbers.covered r logged
          (subst (λ t. r.number ≤ st.tally.cursor t r.page r.client) (sym tree_is) (subst (λ p. r.number ≤ st.tally.cursor tree p r.client) (sym page_is) under))

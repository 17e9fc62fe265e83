-- What a held get of a tree object and a receive of its queue bring.
use Rattle.std.proofs.Common.{◌≡◌, ◌⊎◌, inl, inr, ℕ, false, List, [], ◌∷◌, Option, Some, None, Ok, refl, sym, ap, subst, arith}
use Rattle.std.specs.Prelude.{All, unwrap_or}
use Rattle.std.specs.List.{AllByRecursion}
use Rattle.std.proofs.lemmas.List.Elements.{recursion_from_All}
use Rattle.cloud_facts.specs.Chains.Links.{top_of}
use Rattle.ckpt_parts.specs.Intakes.{has_items}
use Rattle.cloud_facts.specs.Words.{Entry, PuItem, Tree, Answer, CloudState, newest, Caller, Claim, Receive, received_of, Book, Store, IsIn, roots_of, store_of, IsCall, StandsUnder}
use Rattle.cloud_trait.specs.declared.answer.Answer.TheVariants.{Received}
use Rattle.cloud_trait.specs.declared.message.Message.{Message}
use Rattle.cloud_trait.specs.Delivery.{WasSent}
use Rattle.db_base.specs.Cursor.{number_of}
use Rattle.db_base.specs.declared.names.ObjName.TheVariants as object
use Rattle.db_base.specs.declared.names.QueueName.TheVariants as queue
use Rattle.cloud_facts.proofs.Decoding.Values.{newest_root_decodes}
use Rattle.node_codec.proofs.SpellingLaws.{tree_only}
use Rattle.node_codec.specs.Tree.{HasTreeSpelling, empty_tree, IsTree as SpellsTree}
use Rattle.cloud_facts.specs.Numbers.Numbers.{Numbers}
use Rattle.run_cursor.specs.Covered.{covered_ids}
use Rattle.run_cursor.specs.Run.{Taken, IsRun}
use Rattle.session_facts.specs.Machines.Runs.Knows.{IsSentItem, TookRun, MayDelete}
use Rattle.session_facts.proofs.Machines.Runs.Marks.{covered_more}
use Rattle.session_facts.proofs.Machines.Runs.Received.{each_in, item_of, item_client, ids_covered}
use Rattle.session_facts.proofs.Machines.Runs.Taken.{run_in, empty_top}
use Rattle.cloud_facts.specs.Book.Telling.{newest_root}
use Rattle.session_facts.specs.Machines.Trees.Charts.{KnowsRoot}
use Rattle.cloud_facts.proofs.Calls.Pages.{no_root}
use Rattle.session_facts.proofs.Machines.Trees.Reserves.{newest_root_of}
use Rattle.tree_phases.specs.Read.{tree_held}

-- ---- the tree object

module _ (book : Book) (order : List Entry) (s : CloudState) (stands : StandsUnder book order s) (now : ℕ) (lease : Claim) (tree : ℕ) where
  abbrev st : Store
  st = store_of book order s

  abbrev top : Tree
  top = top_of (roots_of s tree)

  -- the newest root is known
  top_known : (top ≡ empty_tree) ⊎ HasTreeSpelling top → KnowsRoot st now lease tree top
  top_known spelled = record { landed = newest_root_of (roots_of s tree); spelled = spelled; newest = λ lasts. refl; covered = λ client is. omega arith }

  -- and it is what a held get brings
  pub root_read : (v : Option (List ℕ)) → v ≡ newest s (object.Tree tree) → KnowsRoot st now lease tree (tree_held v)
  root_read None e = let none = no_root s tree stands.decodes (sym e) in subst (KnowsRoot st now lease tree) none (top_known (inl none))
  root_read (Some bytes) e = subst (KnowsRoot st now lease tree) (sym held) (top_known (inr spells.fits))
    where
      spells : SpellsTree bytes (newest_root (roots_of s) tree)
      spells = newest_root_decodes s tree bytes stands.decodes (sym e)

      held : tree_held (Some bytes) ≡ top
      held = ap (λ (o : Option Tree). unwrap_or o empty_tree) (tree_only bytes (newest_root (roots_of s) tree) spells)

-- ---- the messages

pub received_sent : (who : Caller) (tree : ℕ) (reply : Answer) (s t : CloudState) (ms : List Message) → IsCall who (Receive (queue.TreePu tree) 256) reply s t → received_of reply ≡ Ok ms
    → AllByRecursion (WasSent (s.messages (queue.TreePu tree))) ms
received_sent who tree (Received ns) s t ms call got =
    let same : ns ≡ ms = cc in
    recursion_from_All (WasSent (s.messages (queue.TreePu tree))) ms (subst (All (WasSent (s.messages (queue.TreePu tree)))) same call.row.1)
received_sent who tree reply s t ms call got = absurd (cc)

no_items : (items : List PuItem) → has_items items ≡ false → items ≡ []
no_items [] e = refl
no_items (x ∷ items) e = absurd (cc)

module _ (st : Store) (now : ℕ) (lease : Claim) (tree : ℕ) (root : Tree) (known : KnowsRoot st now lease tree root) (numbers : Numbers st) (items : List PuItem) (run : Taken)
    (is_run : IsRun root.cursor items run.items run.top) (sent : AllByRecursion (IsSentItem (st.tally.posts tree 0)) items) where
  sent_in : (x : PuItem) → IsIn items x → IsSentItem (st.tally.posts tree 0) x
  sent_in = each_in (IsSentItem (st.tally.posts tree 0)) items sent

  pub run_taken : TookRun st tree 0 root.cursor run (covered_ids run.top items)
  run_taken = record {
    received = items;
    is_run = is_run;
    behind = known.covered;
    clients = λ x is. item_client (st.tally.posts tree 0) x (sent_in x (run_in root.cursor items run.items run.top is_run x is));
    items = λ x is. item_of st tree 0 x numbers (sent_in x is);
    covers = ids_covered st tree 0 run.top items sent;
  }

  -- where the run is empty the cursor covers what is to be deleted
  pub none_covered : has_items run.items ≡ false → MayDelete st tree 0 (covered_ids run.top items)
  none_covered none id is =
      covered_more st tree 0 id (number_of run.top) (st.tally.cursor tree 0)
      (λ client is_client.
      let below = empty_top root.cursor items run.top run.items is_run (no_items run.items none) client in
      let cursor = known.covered client is_client in
      omega (arith, below, cursor)) (ids_covered st tree 0 run.top items sent id is)

-- What is known of the run that was received, of its next key, and on the way down for that key.
use Rattle.std.proofs.Common.{◌≡◌, ℕ, true, false, List, [], Option, Some, Result, Ok, Err, refl, sym, ap, subst}
use Rattle.std.specs.List.{AllByRecursion}
use Rattle.byte_format.specs.Order.{bytes_below}
use Rattle.ckpt_parts.specs.declared.intake.Intake.{Intake}
use Rattle.ckpt_parts.specs.Intakes.{items_of, has_items, TakesIn, TakesItems}
use Rattle.cloud_facts.specs.Words.{IsTree, Trouble, Entry as Change, PuItem, Tree, Answer, CloudState, Caller, Claim, Next, got_of, Book, Store, store_of, IsCall, StandsUnder}
use Rattle.cloud_facts.proofs.Calls.Heads.{held_seen}
use Rattle.cloud_facts.proofs.Chains.Pieces.{none_in}
use Rattle.cloud_trait.specs.declared.answer.Answer.TheVariants.{Received}
use Rattle.cloud_trait.specs.declared.message.Message.{Message}
use Rattle.cloud_trait.specs.Delivery.{WasSent}
use Rattle.db_base.specs.Change.{key_of}
use Rattle.db_base.specs.declared.names.ObjName.TheVariants as object
use Rattle.db_base.specs.declared.names.QueueName.TheVariants as queue
use Rattle.leaf_edit.proofs.InOrder.{Rises-sorted}
use Rattle.node_codec.proofs.NodeLemmas.{not_below_empty}
use Rattle.node_codec.specs.Node.{Entry, child_of}
use Rattle.session_facts.specs.Machines.Folds.Knows.{KnowsRun, IsLeast}
use Rattle.session_facts.specs.Machines.Runs.Knows.{TookRun, MayDelete}
use Rattle.session_facts.specs.Machines.TreeCheckpoints.Knows.{IsUnder, MayStopTree, KnowsWork}
use Rattle.session_facts.specs.Machines.Trees.Charts.{KnowsRoot}
use Rattle.session_facts.specs.Machines.Trees.Leaves.{KnowsRest}
use Rattle.session_facts.specs.Machines.Trees.Ways.{KnowsWay, WayLeads}
use Rattle.session_facts.proofs.Machines.Runs.Received.{items_sent, none_damaged}
use Rattle.session_facts.proofs.Machines.TreeCheckpoints.Keys.{least_is}
use Rattle.session_facts.proofs.Machines.TreeCheckpoints.Reads.{received_sent, run_taken, none_covered}
use Rattle.session_facts.proofs.Machines.TreeCheckpoints.Stops.{StopsWell, descent_may, tree_refusals}
use Rattle.session_facts.proofs.Machines.Refusals.{got_may}
use Rattle.session_facts.proofs.Machines.Trees.Strides.{arrives}
use Rattle.session_facts.proofs.Machines.Trees.Ways.{way_begins, got_leads}
use Rattle.tree_ckpt.proofs.WayOutcomes.{gets}
use Rattle.session_facts.proofs.Machines.Trees.WayCharts.{LeadsApart, KnowsDescent, arrive_apart, descent_apart, descent_known}
use Rattle.tree_ckpt.specs.declared.work.Held.{Held}
use Rattle.tree_ckpt.specs.declared.work.Work.{Work}
use Rattle.tree_ckpt.specs.declared.work.Work.TheVariants as work
use Rattle.tree_ckpt.specs.Moves.{entry_or}
use Rattle.tree_ckpt.specs.Way.{from_root}
use Rattle.tree_ckpt.specs.Work.{work_ask}
use Rattle.tree_ckpt.proofs.Outcomes.{Seeks, Descends}
use Rattle.tree_ckpt.proofs.Outcomes as step
use Rattle.tree_phases.specs.declared.chart.Chart.{Chart}
use Rattle.tree_phases.specs.declared.descent.Descent.{Descent}
use Rattle.tree_phases.specs.Descent.{begun, arrive}
use Rattle.tree_phases.specs.Read.{tree_held}

none_below : (key : List ℕ) → bytes_below key [] ≡ true → ⊥
none_below key below = let empty : bytes_below key [] ≡ false = not_below_empty key in cc (below, empty)

module _ (who : Caller) (s t : CloudState) (book : Book) (order : List Change) (stands : StandsUnder book order s) (tree : ℕ) (of_tree : IsTree tree) where
  abbrev st : Store
  st = store_of book order s

  -- ---- the messages

  -- the run was taken behind the tree object's cursor, and where it is empty the cursor covers what is to be deleted
  abbrev Takes : Tree → Result Intake Trouble → Type 0
  Takes root (Ok i) = TookRun st tree 0 root.cursor i.run i.deletions.ids × (has_items i.run.items ≡ false → MayDelete st tree 0 i.deletions.ids)
  Takes root (Err t) = ⊥

  takes : (l : Claim) (root : Tree) → KnowsRoot st t.now l tree root → (ms : List Message) → AllByRecursion (WasSent (st.tally.posts tree 0)) ms → (read : Result (List PuItem) Message)
      → items_of ms ≡ read → (taken : Result Intake Trouble) → TakesItems (queue.TreePu tree) root.cursor read taken → Takes root taken
  takes l root known ms sent (Err m) e taken p = absurd (none_damaged st tree 0 ms m stands.holds.numbers sent e)
  takes l root known ms sent (Ok items) e taken p =
      let posted = items_sent (st.tally.posts tree 0) ms items sent e in
      subst (Takes root) (sym p.2) (
        run_taken st t.now l tree root known stands.holds.numbers items p.0 p.1 posted,
        none_covered st t.now l tree root known stands.holds.numbers items p.0 p.1 posted,
      )

  pub received : (l : Claim) (root : Option (List ℕ)) (ms : List Message) (taken : Result Intake Trouble) → KnowsWork st t.now tree (work.Receiving l root)
      → IsCall who (work_ask tree (work.Receiving l root)) (Received ms) s t → TakesIn (queue.TreePu tree) (tree_held root).cursor ms taken → Takes (tree_held root) taken
  received l root ms taken k call p = takes l (tree_held root) k.1 ms (received_sent who tree (Received ms) s t ms call refl) (items_of ms) refl taken p

  -- ---- a key

  abbrev Sought : Held → Chart → Type 0
  Sought h c = IsUnder tree h.lease c.tree × KnowsRest st t.now h.lease c h.deletions.ids

  pub sought : {w : Work} {a : Answer} {h : Held} {c : Chart} → KnowsWork st t.now tree w → IsCall who (work_ask tree w) a s t → Seeks tree w a h c → Sought h c
  sought k call (step.with_run l root ms i takes some) = (
    record { lock_is = k.0; tree_is = refl },
    record {
      chart = record { tree = of_tree; root = k.1; nodes = λ n there. absurd (none_in n there); links = λ f there. absurd (none_in f there) };
      run = record { took = (received l root ms (Ok i) k call takes).0; done = λ x there below. absurd (none_below (key_of x.rec.change) below) };
      apart = tt;
    },
  )
  sought k call (step.from_leaf h l c a) = k.1
  sought k call (step.alone h c a) = absurd k

  -- ---- down

  pub record IsDown (h : Held) (next : Next Descent (Unit {0})) : Type 0 where
    pub chart : Chart
    pub under : IsUnder tree h.lease chart.tree
    pub apart : LeadsApart chart next
    pub may : StopsWell next
    pub known : KnowsDescent st t.now h.lease h.deletions.ids next

  is_down : {next : Next Descent (Unit {0})} (h : Held) (c : Chart) (May : Trouble → Type 0) → ((t : Trouble) → May t → MayStopTree t) → IsUnder tree h.lease c.tree
      → KnowsRun st c h.deletions.ids → IsLeast c → LeadsApart c next → WayLeads st t.now h.lease May next → IsDown h next
  is_down {next = next} h c May may under run least apart led = record {
    chart = c;
    under = under;
    apart = apart;
    may = descent_may st t.now h.lease May may next led;
    known = descent_known st t.now h.lease h.deletions.ids c May next led apart run least;
  }

  -- from the tree object
  begins_down : (h : Held) (c : Chart) → IsUnder tree h.lease c.tree → KnowsRest st t.now h.lease c h.deletions.ids → IsLeast c → IsDown h (arrive (from_root c))
  begins_down h c under k least =
      is_down h c (λ t. ⊥) (λ t never. absurd never) under k.run least (arrive_apart (from_root c) k.apart)
      (arrives st t.now h.lease stands.holds.chains (λ t. ⊥) (from_root c)
      (subst (λ (e : Entry). KnowsWay st t.now h.lease (begun c e.0 e.1)) (sym (ap entry_or way.1)) way.2))
    where
      way : (e : Entry) × (child_of c.key (tree_held c.root).entries ≡ Some e) × KnowsWay st t.now h.lease (begun c e.0 e.1)
      way = way_begins st t.now h.lease c (stands.holds.chains c.tree k.chart.tree) k.chart

  pub down : {w : Work} {a : Answer} {h : Held} {next : Next Descent (Unit {0})} → KnowsWork st t.now tree w → IsCall who (work_ask tree w) a s t → Descends tree w a h next → IsDown h next
  down {h = h} k call (step.begins {c = c} key from e) =
      let is : Sought h c = sought k call from in
      let rest = is.1 in
      begins_down h (record c { key = key }) is.0
      (record {
        chart = record { tree = rest.chart.tree; root = rest.chart.root; nodes = rest.chart.nodes; links = rest.chart.links };
        run = record { took = rest.run.took; done = rest.run.done };
        apart = rest.apart;
      }) (least_is c.from key c.run.items (Rises-sorted c.run.items rest.run.took.is_run.sorted) e)
  down k call (step.goes_on h d a) =
      let rest = k.1.rest in
      is_down h d.chart (λ trouble. got_of a ≡ Err trouble) (got_may tree_refusals a) k.0 rest.run k.1.least (descent_apart d a rest.apart k.1.fresh)
      (got_leads book order s stands t.now h.lease d (record { chart = rest.chart; way = k.1.way }) k.1.above
      (λ v. held_seen who (object.Page d.chart.tree d.page) h.lease a s t call v) (gets d (got_of a)))

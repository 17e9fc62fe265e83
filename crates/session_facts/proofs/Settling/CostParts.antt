-- Each part of a settling whose calls go well makes no more calls than its client or its queue needs, and empties it.
use Rattle.std.proofs.Common.{◌≡◌, ◌≢◌, ◌+◌, ◌*◌, ◌<◌, ◌≤◌, ◌⊎◌, inl, inr, ℕ, zero, suc, Bool, true, false, List, [], ◌∷◌, ◌++◌, length, map, None, refl, sym, ap, subst, ◌∙◌, arith}
use Rattle.std.specs.Prelude.{◌==◌, ◌||◌}
use Rattle.std.proofs.lemmas.Bool.{cases_eq, eq-eqb}
use Rattle.cloud_trait.specs.Calm.{IsCalm, AreCalm}
use Rattle.cloud_trait.specs.Plenty.{HadMemory}
use Rattle.cloud_facts.proofs.Book.Places.{in_front}
use Rattle.cloud_facts.specs.Words.{IsClient, IsTree, QueueName, Version, Posted, CloudState, Goes, Ends, Stops, Deed, Leafy, IsIn}
use Rattle.cloud_facts.specs.Book.Tally.{right_of}
use Rattle.cloud_facts.specs.Book.Telling.{head_in, root_in, node_in, with_bytes, last_or}
use Rattle.cloud_trait.specs.Delivery.{unmarked}
use Rattle.cloud_trait.specs.State.{Counts}
use Rattle.cloud_trait.specs.declared.answer.Answer.TheVariants.{Memory}
use Rattle.db_base.specs.declared.names.QueueName.TheVariants as queue
use Rattle.head_codec.specs.Head.{empty_head}
use Rattle.leaf_view.specs.Lookup.{page_at, empty_leaf}
use Rattle.node_codec.specs.Tree.{empty_tree}
use Rattle.page_ckpt.specs.Paging.{Paging}
use Rattle.recover_run.specs.Gathering.{count_of}
use Rattle.recover_run.specs.Ids.{has_id, new_ids}
use Rattle.recover_run.specs.Recovery.{Recovery}
use Rattle.session_facts.proofs.Settling.Along.{Each, Handed, Hands, behind_part}
use Rattle.session_facts.proofs.Settling.Costs.{frontier, Need, no_need, needs, nothing, Spent, takes, moves, tree_over, all_within, Recovering, trees_begin}
use Rattle.session_facts.proofs.Settling.Frames.{stock_of, IsPending, ClientKeeps, QueueKeeps, ran_keeps}
use Rattle.session_facts.proofs.Settling.LeftParts.{IsDelivered, IsOfTree, works_tree, page_zero, left_hands}
use Rattle.session_facts.proofs.Settling.Lefts.{LeftAt, Left, NothingWaits, again_left, left_again}
use Rattle.session_facts.proofs.Settling.Queues.{none_told, some_told}
use Rattle.session_facts.proofs.Settling.Stories.{calm_delivered, part_known}
use Rattle.session_facts.proofs.Settling.Distinct.{few_of}
use Rattle.session_facts.proofs.Settling.Sums.{sum_next, sum_over_more, some_received, none_received}
use Rattle.session_facts.specs.Machines.TreeCheckpoints.Few.{next_page}
use Rattle.session_facts.specs.Settling.Bound.{sum_upto, sum_over, newest_head, client_calls, queue_calls, tree_calls, LeadAlong, AreLeafPages, SettlesWithin}
use Rattle.session_facts.specs.Settling.Runs.{AreDelivered, waiting, right_at, Drains, TreeRun, PageRun, RecoveryRun, TreesRun, PagesRun, RecoveriesRun}
use Rattle.session_facts.specs.Settling.Story.{Moment, store_at, IsAtWork, PartRan}
use Rattle.session_facts.specs.Machines.Settlings.Knows.{KnowsAtWork}
use Rattle.settle_run.specs.Parts.{part_again, part_of_tree, part_of_page, part_received}
use Rattle.settle_run.specs.Settling.{Settling, Step, begins, to_page, is_visited, passed}
use Rattle.settle_run.proofs.Outcomes.{Passes, passes}
use Rattle.settle_run.proofs.Outcomes as step
use Rattle.settle_run.specs.declared.part.Part.{Part}
use Rattle.settle_run.specs.declared.part.Part.TheVariants.{Client, Tree, Page}
use Rattle.settle_run.specs.declared.settled.Settled.{Settled as Answered}
use Rattle.tree_ckpt.specs.Making.{Making}

-- ---- the calls

-- a call is calm, and found memory
abbrev pub GoesCalmly : Deed → Type 0
GoesCalmly d = IsCalm d × (d.answer ≢ Memory)

each_calm : (h : List Deed) → Each GoesCalmly h → AreCalm h
each_calm [] each = tt
each_calm (d ∷ h) each = (each.0.0, each_calm h each.1)

each_memory : (h : List Deed) → Each GoesCalmly h → HadMemory h
each_memory [] each = tt
each_memory (d ∷ h) each = (each.0.1, each_memory h each.1)

-- ---- where a part begins

-- the queues of the trees from one on; the same without the tree's own; and the same without those of pages that were come to
abbrev RestFrom : ℕ → QueueName → Type 0
RestFrom t (queue.Atomic client) = ⊥
RestFrom t (queue.TreePu tree) = t ≤ tree
RestFrom t (queue.PagePu tree page) = t ≤ tree

abbrev RestTree : ℕ → QueueName → Type 0
RestTree t (queue.Atomic client) = ⊥
RestTree t (queue.TreePu tree) = t < tree
RestTree t (queue.PagePu tree page) = t ≤ tree

abbrev RestPages : ℕ → List ℕ → QueueName → Type 0
RestPages t visited (queue.Atomic client) = ⊥
RestPages t visited (queue.TreePu tree) = t < tree
RestPages t visited (queue.PagePu tree page) = (t ≤ tree) × (tree ≡ t → IsIn visited page → ⊥)

abbrev own_tree : ℕ → Need
own_tree t messages pages = queue_calls (messages (queue.TreePu t)) (pages t)

abbrev own_pages : ℕ → List ℕ → Need
own_pages t visited messages pages = tree_calls messages (pages t) t visited

-- the ATOMIC queues of the clients below a number are empty
abbrev pub LogsRest : ℕ → CloudState → Type 0
LogsRest upto s = (k : ℕ) → IsClient k → k < upto → waiting s (queue.Atomic k) ≡ []

abbrev CostAt : CloudState → Part → List ℕ → ℕ → Moment → Type 0
CostAt begin (Client client r) visited calls m = LogsRest client m.state × Recovering begin client calls m.state
CostAt begin (Tree tree r) visited calls m =
    LogsRest 65 m.state × Spent begin (frontier tree (needs (length (waiting m.state (queue.TreePu tree))) tree) (own_tree tree) (RestTree tree)) calls m.state
CostAt begin (Page tree page r) visited calls m =
    LogsRest 65 m.state
    × Spent begin (frontier tree (needs (length (waiting m.state (queue.PagePu tree page))) tree) (own_pages tree visited) (RestPages tree visited)) calls m.state

abbrev pub Cost : CloudState → Settling → Moment → Type 0
Cost begin s m = CostAt begin s.part s.visited s.calls m

-- at the end
abbrev pub CostsFew : CloudState → Settling → Answered → Moment → Type 0
CostsFew begin s x m = LogsRest 65 m.state × SettlesWithin begin m.state x.calls

again_cost : (begin : CloudState) (w : Part) (visited : List ℕ) (calls : ℕ) (m : Moment) → CostAt begin w visited calls m → CostAt begin (part_again w) visited calls m
again_cost begin (Client client r) visited calls m k = k
again_cost begin (Tree tree r) visited calls m k = k
again_cost begin (Page tree page r) visited calls m k = k

cost_begun : (begin : CloudState) (w : Part) (visited : List ℕ) (calls : ℕ) (m : Moment) → CostAt begin (part_again w) visited calls m → CostAt begin w visited calls m
cost_begun begin (Client client r) visited calls m k = k
cost_begun begin (Tree tree r) visited calls m k = k
cost_begun begin (Page tree page r) visited calls m k = k

-- ---- lists and numbers

in_any : (ids : List ℕ) (id : ℕ) → IsIn ids id → has_id ids id ≡ true
in_any [] id (place, e) = absurd (cc (e))
in_any (x ∷ ids) id (zero, e) = let same : x ≡ id = cc (e) in ap (λ (b : Bool). b || has_id ids id) (eq-eqb x id same)
in_any (x ∷ ids) id (suc place, e) = on (x == id) (in_any ids id (place, e))
  where
    on : (b : Bool) → has_id ids id ≡ true → (b || has_id ids id) ≡ true
    on true h = refl
    on false h = h

not_any : (ids : List ℕ) (id : ℕ) → has_id ids id ≡ false → IsIn ids id → ⊥
not_any ids id e is = let yes : has_id ids id ≡ true = in_any ids id is in absurd (cc (e, yes))

zero_sum : (x : ℕ) → x ≡ 0 + x
zero_sum x = omega arith

sum_zero : (a b : ℕ) → a + (b + 0) ≡ a + b
sum_zero a b = omega arith

sum_both : (a b c d : ℕ) → b ≡ c + d → a + b ≡ a + c + d
sum_both a b c d e = omega (arith, e)

no_more : (run needed : ℕ) → run ≤ needed → run + 0 ≤ needed
no_more run needed few = omega (arith, few)

-- what a part leaves to be called is no more than what was before it
in_all : (all calls run left needed : ℕ) → all ≡ calls + run → run + left ≤ needed → all + left ≤ calls + needed
in_all all calls run left needed made few = omega (arith, made, few)

-- ---- the clients of a part

abbrev IsOfClient : Part → Type 0
IsOfClient (Client client m) = IsClient client
IsOfClient (Tree tree m) = Unit {0}
IsOfClient (Page tree page m) = Unit {0}

client_again : (w : Part) → IsOfClient (part_again w) → IsOfClient w
client_again (Client client m) is = is
client_again (Tree tree m) is = is
client_again (Page tree page m) is = is

again_client : (m : Moment) (w : Part) → IsAtWork m w → IsOfClient (part_again w)
again_client m w works = on w (part_known m w works)
  where
    on : (v : Part) → KnowsAtWork (store_at m) m.state.now v (m.stand.parts 0) → IsOfClient (part_again v)
    on (Client client r) k = subst IsClient k.client_is k.knows.client
    on (Tree tree r) k = tt
    on (Page tree page r) k = tt

-- ---- what a checkpoint leaves

module _ (own : Bool) (tree : ℕ) (q : QueueName) (first last : Moment)
    (keeps : QueueKeeps own tree q (stock_of first.state) (stock_of last.state)) where
  logs_stay : ((k : ℕ) → q ≡ queue.Atomic k → ⊥) → LogsRest 65 first.state → LogsRest 65 last.state
  logs_stay other rest k is less = ap unmarked (keeps.queues (queue.Atomic k) (other k)) ∙ rest k is less

  waiting_stays : (x : QueueName) → (q ≡ x → ⊥) → waiting last.state x ≡ waiting first.state x
  waiting_stays x other = ap unmarked (keeps.queues x other)

  next_stays : (k : ℕ) → (own ≡ true → tree ≡ k → ⊥) → next_page first.state k ≤ next_page last.state k
  next_stays k other =
      let same : next_page last.state k ≡ next_page first.state k = ap (λ (vs : List Version). (last_or empty_tree (map root_in vs)).next) (keeps.roots k other) in
      omega (arith, same)

  rights_stay : (k : ℕ) → k < tree → right_at first.state k ≡ right_at last.state k
  rights_stay k less = λ i p. right p i
    where
      right : (p : ℕ) → right_at first.state k p ≡ right_at last.state k p
      right p = ap (λ (vs : List Version). right_of (last_or (Leafy empty_leaf) (map node_in (with_bytes vs)))) (sym (keeps.pages k p (λ e. omega (arith, less, e))))

-- ---- each part

module _ (begin : CloudState) (trees : TreesRun) (pages : PagesRun) (clients : RecoveriesRun) (h : List Deed) (first last : Moment) (calm : AreCalm h) (memory : HadMemory h) where
  abbrev HandsOn : Step → Type 0
  HandsOn next = Handed (Cost begin) (CostsFew begin) next last

  delivered : AreDelivered h
  delivered = calm_delivered h calm

  -- ---- a client

  module _ (s : Settling) (calls : ℕ) (made : s.calls ≡ calls + length h) (client : ℕ) (r : Recovery) (is_client : IsClient client)
      (cost : LogsRest client first.state × Recovering begin client calls first.state) (ran : PartRan (Client client r) h first last) where
    recovered : RecoveryRun client h first last
    recovered = clients client r h first last ran

    client_keeps : ClientKeeps client (stock_of first.state) (stock_of last.state)
    client_keeps = ran_keeps (Client client r) h first last ran

    client_logs : LogsRest (client + 1) last.state
    client_logs k is less = by (cases_eq client k)
      where
        by : (client ≡ k) ⊎ (client ≢ k) → waiting last.state (queue.Atomic k) ≡ []
        by (inl e) = subst (λ (n : ℕ). waiting last.state (queue.Atomic n) ≡ []) e (recovered.empties calm memory)
        by (inr other) = ap unmarked (client_keeps.logs k (λ e. absurd (other e))) ∙ cost.0 k is (omega (arith, less, other))

    one_client : length h ≤ 8 + client_calls begin client
    one_client =
        let run : length h ≤ 8 + (4 * length (waiting first.state (queue.Atomic client)) + count_of (newest_head first.state client).phase) = recovered.few calm memory in
        let messages : length (waiting first.state (queue.Atomic client)) ≡ length (waiting begin (queue.Atomic client)) =
        ap (λ (ms : List Posted). length (unmarked ms)) (cost.1.logs client (omega arith)) in
        let records : count_of (newest_head first.state client).phase ≡ count_of (newest_head begin client).phase =
        ap (λ (vs : List Version). count_of (last_or empty_head (map head_in vs)).phase) (cost.1.heads client (omega arith)) in
        omega (arith, run, messages, records)

    recovering : Recovering begin (client + 1) s.calls last.state
    recovering = record {
      few = few;
      heads = λ k from. client_keeps.heads k (λ e. omega (arith, from, e)) ∙ cost.1.heads k (omega (arith, from));
      logs = λ k from. client_keeps.logs k (λ e. omega (arith, from, e)) ∙ cost.1.logs k (omega (arith, from));
      sends = λ q pending. let one = client_keeps.sends q pending in let two = cost.1.sends q pending in omega (arith, one, two);
      longer = λ q. let one = client_keeps.longer q in let two = cost.1.longer q in omega (arith, one, two);
    }
      where
        few : (n : ℕ) → client + 1 ≡ n + 1 → s.calls ≤ sum_upto (λ k. 8 + client_calls begin k) n
        few zero e = let some = is_client.some in absurd (omega (arith, e, some))
        few (suc n) e =
            let same : client ≡ suc n = omega (arith, e) in
            let was : calls ≤ sum_upto (λ k. 8 + client_calls begin k) n = cost.1.few n (omega (arith, same)) in
            let run : length h ≤ 8 + client_calls begin (suc n) = subst (λ (k : ℕ). length h ≤ 8 + client_calls begin k) same one_client in
            close s.calls calls (length h) (sum_upto (λ k. 8 + client_calls begin k) n) (8 + client_calls begin (suc n)) (sum_upto (λ k. 8 + client_calls begin k) (suc n))
            made was run (sum_next (λ k. 8 + client_calls begin k) n)
          where
            close : (all calls run a b c : ℕ) → all ≡ calls + run → calls ≤ a → run ≤ b → c ≡ a + b → all ≤ c
            close all calls run a b c made was few e = omega (arith, made, was, few, e)

    to_trees : 64 ≤ client → HandsOn (begins s (part_of_tree 1))
    to_trees far =
        let most = is_client.most in (
          λ k is less. let bound = is.most in client_logs k is (omega (arith, far, bound)),
          takes begin 1 no_need (own_tree 1) IsPending (RestTree 1) s.calls last.state (queue.TreePu 1) tt tt
              (λ messages pages. zero_sum (queue_calls (messages (queue.TreePu 1)) (pages 1))) pending
              (trees_begin begin last.state (client + 1) s.calls (omega (arith, far, most)) recovering),
        )
      where
        pending : (x : QueueName) → RestTree 1 x → IsPending x
        pending (queue.Atomic k) is = is
        pending (queue.TreePu t) is = tt
        pending (queue.PagePu t p) is = tt

  -- ---- the queue of a tree

  module _ (s : Settling) (calls : ℕ) (made : s.calls ≡ calls + length h) (tree : ℕ) (r : Making) (left : LeftAt (Tree tree r) s.known s.visited first)
      (cost : CostAt begin (Tree tree r) s.visited calls first) (ran : PartRan (Tree tree r) h first last) where
    tree_run : TreeRun tree r h first last
    tree_run = trees tree r h first last ran

    tree_drains : Drains (queue.TreePu tree) r.received first.state last.state
    tree_drains = tree_run.drains delivered

    tree_keeps : QueueKeeps true tree (queue.TreePu tree) (stock_of first.state) (stock_of last.state)
    tree_keeps = ran_keeps (Tree tree r) h first last ran

    tree_logs : LogsRest 65 last.state
    tree_logs = logs_stay true tree (queue.TreePu tree) first last tree_keeps (λ k e. cc (e)) cost.0

    tree_moves : (less : (ℕ → ℕ) → ℕ)
        → ((pages : ℕ → ℕ) → next_page last.state tree ≤ pages tree + 1 → length h + less pages ≤ needs (length (waiting first.state (queue.TreePu tree))) tree pages)
        → Spent begin (frontier tree less (own_tree tree) (RestTree tree)) s.calls last.state
    tree_moves less step =
        moves begin tree (needs (length (waiting first.state (queue.TreePu tree))) tree) less (own_tree tree) (RestTree tree) calls s.calls first.state last.state
        (λ q rest. waiting_stays true tree (queue.TreePu tree) first last tree_keeps q (λ e. itself (subst (RestTree tree) (sym e) rest)))
        tree_keeps.counts nexts (rights_stay true tree (queue.TreePu tree) first last tree_keeps)
        (λ pages fits. in_all s.calls calls (length h) (less pages) (needs (length (waiting first.state (queue.TreePu tree))) tree pages) made (step pages fits)) cost.1
      where
        itself : tree < tree → ⊥
        itself less = omega (arith, less)

        nexts : (k : ℕ) → next_page first.state k ≤ next_page last.state k
        nexts k = by (cases_eq tree k)
          where
            by : (tree ≡ k) ⊎ (tree ≢ k) → next_page first.state k ≤ next_page last.state k
            by (inl e) = subst (λ (n : ℕ). next_page first.state n ≤ next_page last.state n) e tree_run.grows
            by (inr other) = next_stays true tree (queue.TreePu tree) first last tree_keeps k (λ own e. absurd (other e))

    tree_again : (id : ℕ) (ids : List ℕ) → new_ids s.known r.received ≡ id ∷ ids → HandsOn (Goes (record s { part = part_of_tree tree; known = s.known ++ id ∷ ids }))
    tree_again id ids e =
        let some : 1 ≤ length r.received = some_told (queue.TreePu tree) s.known r.received first.state last.state left.1.1 tree_drains id ids e in (
          tree_logs,
          tree_moves (needs (length (waiting last.state (queue.TreePu tree))) tree)
              (λ pages fits.
              some_received (length h) (length r.received) (length (waiting last.state (queue.TreePu tree))) (length (waiting first.state (queue.TreePu tree))) (pages tree)
              (few_of (length h) (pages tree) r.received (tree_run.few calm memory (pages tree) fits)) some tree_drains.count),
        )

    to_pages : new_ids s.known r.received ≡ [] → HandsOn (to_page (record s { visited = [] }) tree 1)
    to_pages e =
        let none : length r.received ≡ 0 = ap length (none_told (queue.TreePu tree) s.known r.received first.state last.state left.1.1 tree_drains e) in (
          tree_logs,
          takes begin tree (own_tree tree) (own_pages tree (1 ∷ [])) (RestTree tree) (RestPages tree (1 ∷ [])) s.calls last.state (queue.PagePu tree 1) tt (omega arith)
              (λ messages pages. sum_zero (queue_calls (messages (queue.TreePu tree)) (pages tree)) (queue_calls (messages (queue.PagePu tree 1)) (pages tree))) first_page
              (tree_moves nothing
              (λ pages fits. no_more (length h) (queue_calls (length (waiting first.state (queue.TreePu tree))) (pages tree))
              (none_received (length h) (length r.received) (length (waiting first.state (queue.TreePu tree))) (pages tree) (few_of (length h) (pages tree) r.received (tree_run.few calm memory (pages tree) fits)) none))),
        )
      where
        first_page : (x : QueueName) → RestPages tree (1 ∷ []) x → RestTree tree x
        first_page (queue.Atomic k) is = is
        first_page (queue.TreePu t) is = is
        first_page (queue.PagePu t p) is = is.0

  -- ---- the queue of a page

  module _ (s : Settling) (calls : ℕ) (made : s.calls ≡ calls + length h) (tree page : ℕ) (r : Paging) (is_tree : IsTree tree) (left : LeftAt (Page tree page r) s.known s.visited first)
      (cost : CostAt begin (Page tree page r) s.visited calls first) (ran : PartRan (Page tree page r) h first last) where
    page_run : PageRun tree page r h first last
    page_run = pages tree page r h first last ran

    page_drains : Drains (queue.PagePu tree page) r.received first.state last.state
    page_drains = page_run.drains delivered

    page_keeps : QueueKeeps false tree (queue.PagePu tree page) (stock_of first.state) (stock_of last.state)
    page_keeps = ran_keeps (Page tree page r) h first last ran

    page_logs : LogsRest 65 last.state
    page_logs = logs_stay false tree (queue.PagePu tree page) first last page_keeps (λ k e. cc (e)) cost.0

    page_moves : (less : (ℕ → ℕ) → ℕ)
        → ((counts : ℕ → ℕ) → next_page last.state tree ≤ counts tree + 1 → length h + less counts ≤ needs (length (waiting first.state (queue.PagePu tree page))) tree counts)
        → Spent begin (frontier tree less (own_pages tree s.visited) (RestPages tree s.visited)) s.calls last.state
    page_moves less step =
        moves begin tree (needs (length (waiting first.state (queue.PagePu tree page))) tree) less (own_pages tree s.visited) (RestPages tree s.visited) calls s.calls
        first.state last.state
        (λ q rest. waiting_stays false tree (queue.PagePu tree page) first last page_keeps q (λ e. itself (subst (RestPages tree s.visited) (sym e) rest)))
        page_keeps.counts (λ k. next_stays false tree (queue.PagePu tree page) first last page_keeps k (λ own e. cc (own)))
        (rights_stay false tree (queue.PagePu tree page) first last page_keeps)
        (λ counts fits. in_all s.calls calls (length h) (less counts) (needs (length (waiting first.state (queue.PagePu tree page))) tree counts) made (step counts fits)) cost.1
      where
        itself : (tree ≤ tree) × (tree ≡ tree → IsIn s.visited page → ⊥) → ⊥
        itself rest = rest.1 refl left.1.1.1.here

    -- behind a checkpoint that received nothing new
    page_spent : new_ids s.known r.received ≡ [] → Spent begin (frontier tree nothing (own_pages tree s.visited) (RestPages tree s.visited)) s.calls last.state
    page_spent e =
        let none : length r.received ≡ 0 = ap length (none_told (queue.PagePu tree page) s.known r.received first.state last.state left.1.1.0 page_drains e) in
        page_moves nothing
        (λ counts fits. no_more (length h) (queue_calls (length (waiting first.state (queue.PagePu tree page))) (counts tree))
        (none_received (length h) (length r.received) (length (waiting first.state (queue.PagePu tree page))) (counts tree) (few_of (length h) (counts tree) r.received (page_run.few calm memory (counts tree) fits)) none))

    -- the tree is over
    leaf_pages : page_at r.home.right ≡ None → AreLeafPages last.state tree s.visited
    leaf_pages e =
        subst (LeadAlong (right_at last.state tree) 1 s.visited) (page_run.right ∙ page_zero r.home.right e)
        (subst (λ (right : ℕ → ℕ). LeadAlong right 1 s.visited (right page)) (λ i p. (sym (page_run.rights p)) i) left.1.1.1.leads)

    next_tree : new_ids s.known r.received ≡ [] → page_at r.home.right ≡ None → Spent begin (frontier (tree + 1) nothing no_need (RestFrom (tree + 1))) s.calls last.state
    next_tree none e = tree_over begin tree s.visited (RestPages tree s.visited) (RestFrom (tree + 1)) s.calls last.state is_tree later (leaf_pages e) (page_spent none)
      where
        later : (x : QueueName) → RestFrom (tree + 1) x → RestPages tree s.visited x
        later (queue.Atomic k) is = is
        later (queue.TreePu t) is = omega (arith, is)
        later (queue.PagePu t p) is = (omega (arith, is), λ e there. absurd (omega (arith, is, e)))

    to_tree : new_ids s.known r.received ≡ [] → page_at r.home.right ≡ None → HandsOn (begins (record s { visited = [] }) (part_of_tree (tree + 1)))
    to_tree none e = (
      page_logs,
      takes begin (tree + 1) no_need (own_tree (tree + 1)) (RestFrom (tree + 1)) (RestTree (tree + 1)) s.calls last.state (queue.TreePu (tree + 1)) tt (omega arith)
          (λ messages counts. zero_sum (queue_calls (messages (queue.TreePu (tree + 1))) (counts (tree + 1)))) without_own (next_tree none e),
    )
      where
        without_own : (x : QueueName) → RestTree (tree + 1) x → RestFrom (tree + 1) x
        without_own (queue.Atomic k) is = is
        without_own (queue.TreePu t) is = omega (arith, is)
        without_own (queue.PagePu t p) is = is

    at_end : new_ids s.known r.received ≡ [] → page_at r.home.right ≡ None → 16 ≤ tree → LogsRest 65 last.state × SettlesWithin begin last.state s.calls
    at_end none e far =
        let most = is_tree.most in
        (page_logs, all_within begin last.state (RestFrom (tree + 1)) (tree + 1) s.calls (omega (arith, far)) (omega (arith, most)) (next_tree none e))

    to_right : new_ids s.known r.received ≡ [] → (q : ℕ) → is_visited s q ≡ false → HandsOn (to_page s tree q)
    to_right none q new = (
      page_logs,
      takes begin tree (own_pages tree s.visited) (own_pages tree (s.visited ++ q ∷ [])) (RestPages tree s.visited) (RestPages tree (s.visited ++ q ∷ [])) s.calls last.state
          (queue.PagePu tree q) tt (omega arith, λ e there. not_any s.visited q new there)
          (λ messages counts.
          sum_both (queue_calls (messages (queue.TreePu tree)) (counts tree)) (sum_over (λ p. queue_calls (messages (queue.PagePu tree p)) (counts tree)) (s.visited ++ q ∷ []))
          (sum_over (λ p. queue_calls (messages (queue.PagePu tree p)) (counts tree)) s.visited) (queue_calls (messages (queue.PagePu tree q)) (counts tree))
          (sum_over_more (λ p. queue_calls (messages (queue.PagePu tree p)) (counts tree)) s.visited q)) fewer (page_spent none),
    )
      where
        fewer : (x : QueueName) → RestPages tree (s.visited ++ q ∷ []) x → RestPages tree s.visited x
        fewer (queue.Atomic k) is = is
        fewer (queue.TreePu t) is = is
        fewer (queue.PagePu t p) is = (is.0, λ e there. is.1 e (in_front s.visited (q ∷ []) p there))

    page_again : (id : ℕ) (ids : List ℕ) → new_ids s.known r.received ≡ id ∷ ids → HandsOn (Goes (record s { part = part_of_page tree page; known = s.known ++ id ∷ ids }))
    page_again id ids e =
        let some : 1 ≤ length r.received = some_told (queue.PagePu tree page) s.known r.received first.state last.state left.1.1.0 page_drains id ids e in (
          page_logs,
          page_moves (needs (length (waiting last.state (queue.PagePu tree page))) tree)
              (λ counts fits.
              some_received (length h) (length r.received) (length (waiting last.state (queue.PagePu tree page))) (length (waiting first.state (queue.PagePu tree page))) (counts tree)
              (few_of (length h) (counts tree) r.received (page_run.few calm memory (counts tree) fits)) some page_drains.count),
        )

  -- ---- behind a part

  cost_again : (s : Settling) (calls : ℕ) (w : Part) → s.calls ≡ calls + length h → IsOfTree w → LeftAt w s.known s.visited first → CostAt begin w s.visited calls first → PartRan w h first last
      → (id : ℕ) (ids : List ℕ) → new_ids s.known (part_received w) ≡ id ∷ ids → HandsOn (Goes (record s { part = part_again w; known = s.known ++ id ∷ ids }))
  cost_again s calls (Client client r) made is left cost ran id ids e = absurd (cc (e))
  cost_again s calls (Tree tree r) made is left cost ran id ids e = tree_again s calls made tree r left cost ran id ids e
  cost_again s calls (Page tree page r) made is left cost ran id ids e = page_again s calls made tree page r is left cost ran id ids e

  cost_on : {m : Settling} {next : Step} (calls : ℕ) → Passes m next → m.calls ≡ calls + length h → IsOfTree m.part → IsOfClient m.part → LeftAt m.part m.known m.visited first
      → CostAt begin m.part m.visited calls first → PartRan m.part h first last → HandsOn next
  cost_on calls (step.again s id ids news) made is own left cost ran = cost_again s calls s.part made is left cost ran id ids news
  cost_on calls (step.next_client s client r less) made is own left cost ran =
      (client_logs s calls made client r own cost ran, recovering s calls made client r own cost ran)
  cost_on calls (step.first_tree s client r most) made is own left cost ran = to_trees s calls made client r own cost ran most
  cost_on calls (step.first_page s tree r none) made is own left cost ran = to_pages s calls made tree r left cost ran none
  cost_on calls (step.right_page s tree page r right none link new) made is own left cost ran = to_right s calls made tree page r is left cost ran none right new
  cost_on calls (step.round s tree page r right none link seen) made is own left cost ran = tt
  cost_on calls (step.next_tree s tree page r none end less) made is own left cost ran = to_tree s calls made tree page r is left cost ran none end
  cost_on calls (step.all_done s tree page r none end most) made is own left cost ran = at_end s calls made tree page r is left cost ran none end most

-- ---- both

-- what is left, and how many calls were made
abbrev pub LeftAndCost : CloudState → Settling → Moment → Type 0
LeftAndCost begin s m = Left s m × Cost begin s m

abbrev pub SettledWell : CloudState → Settling → Answered → Moment → Type 0
SettledWell begin s x m = NothingWaits s x m × CostsFew begin s x m

hands_both : (begin : CloudState) (next : Step) (m : Moment) → Handed Left NothingWaits next m → Handed (Cost begin) (CostsFew begin) next m
    → Handed (LeftAndCost begin) (SettledWell begin) next m
hands_both begin (Goes n) m left cost = (left, cost)
hands_both begin (Ends n x) m left cost = (left, cost)
hands_both begin (Stops n t) m left cost = tt

each_steady : (h : List Deed) → Each GoesCalmly h → Each IsDelivered h
each_steady [] each = tt
each_steady (d ∷ h) each = (ap (λ (c : Counts). c.withheld) each.0.0.counts, each_steady h each.1)

pub cost_hands : (begin : CloudState) → TreesRun → PagesRun → RecoveriesRun → Hands (LeftAndCost begin) (SettledWell begin) GoesCalmly
cost_hands begin trees pages clients s w h first last holds place ran each works =
    hands_both begin (passed (behind_part s w h)) last
    (left_hands trees pages clients s w h first last holds.0 place ran (each_steady h each) works)
    (cost_on begin trees pages clients h first last (each_calm h each) (each_memory h each) s.calls (passes (behind_part s w h)) refl (works_tree first s.part w place works)
    (client_again w (subst IsOfClient (sym place) (again_client first s.part works)))
    (left_again w s.known s.visited first (subst (λ (x : Part). LeftAt x s.known s.visited first) (sym place) (again_left s.part s.known s.visited first holds.0)))
    (cost_begun begin w s.visited s.calls first (subst (λ (x : Part). CostAt begin x s.visited s.calls first) (sym place) (again_cost begin s.part s.visited s.calls first holds.1))) ran)

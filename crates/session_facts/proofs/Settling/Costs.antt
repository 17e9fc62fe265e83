-- How many calls a settling made so far, by the messages that its queues had.
use Rattle.std.proofs.Common.{◌≡◌, ◌≢◌, ◌+◌, ◌-◌, ◌*◌, ◌<◌, ◌≤◌, ◌⊎◌, inl, inr, ℕ, zero, suc, List, [], length, refl, sym, ap, subst, ◌∙◌, arith}
use Rattle.std.proofs.lemmas.Bool.{cases_eq}
use Rattle.cloud_facts.proofs.Book.Names.{at_same, at_other}
use Rattle.cloud_facts.specs.Words.{IsTree, QueueName, CloudState, at}
use Rattle.db_base.specs.declared.names.ObjName.TheVariants as object
use Rattle.db_base.specs.declared.names.QueueName.TheVariants as queue
use Rattle.session_facts.proofs.Settling.Frames.{IsPending}
use Rattle.session_facts.proofs.Settling.LeafPages.{one_way, same_most}
use Rattle.session_facts.proofs.Settling.Sums.{sum_same, sum_next, sum_eights}
use Rattle.session_facts.specs.Settling.Bound.{sum_upto, client_calls, to_settle, queue_calls, tree_calls, LeadAlong, AreLeafPages, AreAllLeafPages, most_calls, SettlesWithin}
use Rattle.session_facts.specs.Machines.TreeCheckpoints.Few.{next_page}
use Rattle.session_facts.specs.Settling.Runs.{waiting, right_at}

-- ---- what is counted

-- all that was sent to a queue since the begin waits, beside what waited there
abbrev pub Sends : CloudState → CloudState → QueueName → Type 0
Sends begin s q = length (waiting s q) + length (begin.messages q) ≡ length (waiting begin q) + length (s.messages q)

-- so many messages are to be settled of each queue, and no tree has more pages than this
pub record Fits (begin : CloudState) (messages : QueueName → ℕ) (pages : ℕ → ℕ) (s : CloudState) : Type 0 where
  pub settles : (q : QueueName) → IsPending q → messages q + length (begin.messages q) ≡ length (waiting begin q) + length (s.messages q)
  pub within : (t : ℕ) → next_page s t ≤ pages t + 1

-- calls of the clients, and of the trees below one
abbrev pub all_clients : CloudState → ℕ
all_clients begin = sum_upto (λ k. 8 + client_calls begin k) 64

abbrev pub trees_calls : (QueueName → ℕ) → (ℕ → ℕ) → (ℕ → List ℕ) → ℕ → ℕ
trees_calls messages pages leaves n = sum_upto (λ k. tree_calls messages (pages k) k (leaves k)) n

-- what may be needed, by the messages of each queue and the pages of each tree
abbrev pub Need : Type 0
Need = (QueueName → ℕ) → (ℕ → ℕ) → ℕ

abbrev pub no_need : Need
no_need messages pages = 0

-- a queue of a tree with so many messages
abbrev pub needs : ℕ → ℕ → (ℕ → ℕ) → ℕ
needs waited t pages = queue_calls waited (pages t)

abbrev pub nothing : (ℕ → ℕ) → ℕ
nothing pages = 0

-- how far it has come: the tree at work, what its queue at work still needs, what was begun of the tree, and the queues of which nothing was
-- received
pub record Frontier : Type 1 where
  pub tree : ℕ
  pub extra : (ℕ → ℕ) → ℕ
  pub own : Need
  pub rest : QueueName → Type 0

abbrev pub frontier : ℕ → ((ℕ → ℕ) → ℕ) → Need → (QueueName → Type 0) → Frontier
frontier tree extra own rest = record { tree = tree; extra = extra; own = own; rest = rest }

-- So many calls were made: with what the queue at work still needs they are no more than what the clients, the trees below this one and what
-- was begun of this tree need.
pub record Spent (begin : CloudState) (at : Frontier) (calls : ℕ) (s : CloudState) : Type 0 where
  pub leaves : ℕ → List ℕ
  pub are : (k : ℕ) → IsTree k → k < at.tree → AreLeafPages s k (leaves k)
  pub sends : (q : QueueName) → at.rest q → Sends begin s q
  pub longer : (q : QueueName) → length (begin.messages q) ≤ length (s.messages q)
  pub few : (n : ℕ) → at.tree ≡ n + 1 → (messages : QueueName → ℕ) (pages : ℕ → ℕ) → Fits begin messages pages s
      → calls + at.extra pages ≤ all_clients begin + (trees_calls messages pages leaves n + at.own messages pages)

-- ---- a checkpoint

-- a queue of the rest begins
pub takes : (begin : CloudState) (t : ℕ) (own more : Need) (rest fewer : QueueName → Type 0) (calls : ℕ) (s : CloudState) (q : QueueName) → IsPending q → rest q
    → ((messages : QueueName → ℕ) (pages : ℕ → ℕ) → more messages pages ≡ own messages pages + queue_calls (messages q) (pages t)) → ((x : QueueName) → fewer x → rest x)
    → Spent begin (frontier t nothing own rest) calls s → Spent begin (frontier t (needs (length (waiting s q)) t) more fewer) calls s
takes begin t own more rest fewer calls s q pending is needs_more within spent = record {
  leaves = spent.leaves;
  are = spent.are;
  sends = λ x r. spent.sends x (within x r);
  longer = spent.longer;
  few = λ n e messages pages fits.
      let same : length (waiting s q) ≡ messages q =
      let one = fits.settles q pending in let two = spent.sends q is in omega (arith, one, two) in
      close calls (queue_calls (length (waiting s q)) (pages t)) (queue_calls (messages q) (pages t)) (own messages pages) (more messages pages) (all_clients begin)
      (trees_calls messages pages spent.leaves n) (ap (λ (u : ℕ). queue_calls u (pages t)) same) (needs_more messages pages) (spent.few n e messages pages fits);
}
  where
    close : (calls a b own more clients trees : ℕ) → a ≡ b → more ≡ own + b → calls + 0 ≤ clients + (trees + own) → calls + a ≤ clients + (trees + more)
    close calls a b own more clients trees same sum few = omega (arith, same, sum, few)

-- a checkpoint leaves the rest of the queues and the leaves of the trees before as they were
pub moves : (begin : CloudState) (t : ℕ) (extra less : (ℕ → ℕ) → ℕ) (own : Need) (rest : QueueName → Type 0) (calls more : ℕ) (first last : CloudState)
    → ((q : QueueName) → rest q → waiting last q ≡ waiting first q) → ((q : QueueName) → length (last.messages q) ≡ length (first.messages q))
    → ((k : ℕ) → next_page first k ≤ next_page last k) → ((k : ℕ) → k < t → right_at first k ≡ right_at last k)
    → ((pages : ℕ → ℕ) → next_page last t ≤ pages t + 1 → more + less pages ≤ calls + extra pages)
    → Spent begin (frontier t extra own rest) calls first → Spent begin (frontier t less own rest) more last
moves begin t extra less own rest calls more first last same counts nexts rights step spent = record {
  leaves = spent.leaves;
  are = λ k is below. let h = spent.are k is below in
      subst (λ (right : ℕ → ℕ). LeadAlong right 1 (spent.leaves k) 0) (rights k below) h;
  sends = λ q r.
      let one : length (waiting last q) ≡ length (waiting first q) = ap length (same q r) in
      let two = counts q in
      let was = spent.sends q r in
      omega (arith, one, two, was);
  longer = λ q. let was = spent.longer q in let two = counts q in omega (arith, was, two);
  few = λ n e messages pages fits.
      let was = spent.few n e messages pages
      (record {
        settles = λ q pending. let now = fits.settles q pending in let two = counts q in omega (arith, now, two);
        within = λ k. let now = fits.within k in let grew = nexts k in omega (arith, now, grew);
      }) in
      let more_is = step pages (fits.within t) in
      close more calls (less pages) (extra pages) (all_clients begin) (trees_calls messages pages spent.leaves n + own messages pages) more_is was;
}
  where
    close : (more calls a b clients x : ℕ) → more + a ≤ calls + b → calls + b ≤ clients + x → more + a ≤ clients + x
    close more calls a b clients x one two = omega (arith, one, two)

-- ---- a tree that is over

module _ (begin : CloudState) (t : ℕ) (visited : List ℕ) (rest fewer : QueueName → Type 0) (calls : ℕ) (s : CloudState) (is_tree : IsTree t)
    (within : (x : QueueName) → fewer x → rest x) (are : AreLeafPages s t visited)
    (spent : Spent begin (frontier t nothing (λ messages pages. tree_calls messages (pages t) t visited) rest) calls s) where
  abbrev leaves : ℕ → List ℕ
  leaves = at t visited spent.leaves

  tree_few : (n : ℕ) → t + 1 ≡ n + 1 → (messages : QueueName → ℕ) (pages : ℕ → ℕ) → Fits begin messages pages s
      → calls + 0 ≤ all_clients begin + (trees_calls messages pages leaves n + 0)
  tree_few zero e messages pages fits = let some = is_tree.some in absurd (omega (arith, e, some))
  tree_few (suc n) e messages pages fits =
      let same : t ≡ suc n = omega (arith, e) in
      let one : t ≡ n + 1 = omega (arith, e) in
      let was = spent.few n one messages pages fits in
      let last : tree_calls messages (pages (suc n)) (suc n) (leaves (suc n)) ≡ tree_calls messages (pages t) t visited =
      ap (λ (k : ℕ). tree_calls messages (pages k) k (leaves k)) (sym same) ∙ ap (tree_calls messages (pages t) t) (at_same t visited spent.leaves t refl) in
      let others : trees_calls messages pages leaves n ≡ trees_calls messages pages spent.leaves n =
      sum_same (λ k. tree_calls messages (pages k) k (leaves k)) (λ k. tree_calls messages (pages k) k (spent.leaves k)) n
      (λ k some most. ap (tree_calls messages (pages k) k) (at_other t visited spent.leaves k (λ f. absurd (omega (arith, f, same, most))))) in
      let sum = sum_next (λ k. tree_calls messages (pages k) k (leaves k)) n in
      close calls (all_clients begin) (trees_calls messages pages spent.leaves n) (tree_calls messages (pages t) t visited) (trees_calls messages pages leaves n)
      (tree_calls messages (pages (suc n)) (suc n) (leaves (suc n))) (trees_calls messages pages leaves (suc n)) was last others sum
    where
      close : (calls clients a b c d e : ℕ) → calls + 0 ≤ clients + (a + b) → d ≡ b → c ≡ a → e ≡ c + d → calls + 0 ≤ clients + (e + 0)
      close calls clients a b c d e was last others sum = omega (arith, was, last, others, sum)

  pub tree_over : Spent begin (frontier (t + 1) nothing no_need fewer) calls s
  tree_over = record {
    leaves = leaves;
    are = λ k is below. at_tree k is below (cases_eq k t);
    sends = λ q r. spent.sends q (within q r);
    longer = spent.longer;
    few = tree_few;
  }
    where
      at_tree : (k : ℕ) → IsTree k → k < t + 1 → (k ≡ t) ⊎ (k ≢ t) → AreLeafPages s k (leaves k)
      at_tree k is below (inl e) = subst (λ (j : ℕ). AreLeafPages s j (leaves j)) (sym e) (subst (AreLeafPages s t) (sym (at_same t visited spent.leaves t refl)) are)
      at_tree k is below (inr ne) = subst (AreLeafPages s k) (sym (at_other t visited spent.leaves k ne)) (spent.are k is (omega (arith, below, ne)))

-- ---- the end

pub all_within : (begin s : CloudState) (rest : QueueName → Type 0) (t calls : ℕ) → 17 ≤ t → t ≤ 17 → Spent begin (frontier t nothing no_need rest) calls s → SettlesWithin begin s calls
all_within begin s rest t calls low high spent = record {
  leaves = spent.leaves;
  are = are;
  only = only;
  within = λ others is. subst (λ (n : ℕ). calls ≤ n) (same_most begin s spent.leaves others (λ k tree. sym (only others is k tree))) few;
}
  where
    are : AreAllLeafPages s spent.leaves
    are k is = let most = is.most in spent.are k is (omega (arith, most, low))

    only : (others : ℕ → List ℕ) → AreAllLeafPages s others → (k : ℕ) → IsTree k → others k ≡ spent.leaves k
    only others is k tree = one_way (right_at s k) 1 (others k) (spent.leaves k) (is k tree) (are k tree)

    close : (calls all clients trees : ℕ) → calls + 0 ≤ all + (trees + 0) → all ≡ 64 * 8 + clients → calls ≤ 64 * 8 + clients + trees
    close calls all clients trees was e = omega (arith, was, e)

    few : calls ≤ most_calls begin s spent.leaves
    few =
        let was = spent.few 16 (omega (arith, low, high)) (to_settle begin s) (λ k. next_page s k - 1)
        (record {
          settles = λ q pending. let longer = spent.longer q in omega (arith, longer);
          within = λ k. omega arith;
        }) in
        let clients = sum_eights (client_calls begin) 64 in
        close calls (all_clients begin) (sum_upto (client_calls begin) 64)
        (sum_upto (λ k. tree_calls (to_settle begin s) (next_page s k - 1) k (spent.leaves k)) 16) was clients

-- ---- clients

-- so many calls were made when the recovery of a client begins: the clients from it on are as at the begin, and no message was received from
-- any pending update queue
pub record Recovering (begin : CloudState) (client calls : ℕ) (s : CloudState) : Type 0 where
  pub few : (n : ℕ) → client ≡ n + 1 → calls ≤ sum_upto (λ k. 8 + client_calls begin k) n
  pub heads : (k : ℕ) → client ≤ k → s.versions (object.Head k) ≡ begin.versions (object.Head k)
  pub logs : (k : ℕ) → client ≤ k → s.messages (queue.Atomic k) ≡ begin.messages (queue.Atomic k)
  pub sends : (q : QueueName) → IsPending q → Sends begin s q
  pub longer : (q : QueueName) → length (begin.messages q) ≤ length (s.messages q)

-- behind the last client the first tree begins
pub trees_begin : (begin s : CloudState) (client calls : ℕ) → client ≡ 65 → Recovering begin client calls s → Spent begin (frontier 1 nothing no_need IsPending) calls s
trees_begin begin s client calls e spent = record {
  leaves = λ k. [];
  are = λ k is below. let some = is.some in absurd (omega (arith, below, some));
  sends = spent.sends;
  longer = spent.longer;
  few = λ n one messages pages fits.
      let was = spent.few 64 (omega (arith, e)) in
      close calls (all_clients begin) (trees_calls messages pages (λ k. []) n) was;
}
  where
    close : (calls all x : ℕ) → calls ≤ all → calls + 0 ≤ all + (x + 0)
    close calls all x was = omega (arith, was)

-- The parts of a settling that came to its end recovered every client and emptied every tree.
use Rattle.std.proofs.Common.{◌≡◌, ◌≢◌, ◌<◌, ◌+◌, ◌⊎◌, inl, inr, ℕ, zero, suc, List, [], ◌∷◌, ◌++◌, Some, None, refl, sym, ap, subst, ◌∙◌, true, arith}
use Rattle.std.specs.List.{AllByRecursion}
use Rattle.std.proofs.lemmas.Bool.{cases_eq}
use Rattle.leaf_view.specs.Lookup.{page_at}
use Rattle.db_base.specs.Ids.{IsClient, IsTree}
use Rattle.settle_run.proofs.Words.{Ends, Goes, Stops, Part, Client, Page, Tree, Settled}
use Rattle.page_ckpt.specs.Paging.{Paging}
use Rattle.recover_run.proofs.KeptRecords.{all_new}
use Rattle.recover_run.proofs.Sweeping.{all_has, none_new, each_has}
use Rattle.recover_run.specs.Ids.{has_id, new_ids}
use Rattle.recover_run.specs.Recovery.{Recovery}
use Rattle.settle_run.specs.Meaning.{Run, behind, Ran, RanTo, Received, Empties, EmptiesPages, EmptiesTree, IsWhole}
use Rattle.settle_run.specs.Parts.{part_of_tree, part_of_page, part_again, part_received}
use Rattle.settle_run.specs.Settling.{Settling, Step, passed}
use Rattle.tree_ckpt.specs.Making.{Making}
use Rattle.recover_run.proofs.Sifting.{all_ids}
use Rattle.settle_run.proofs.Outcomes.{Passes, again, next_client, first_tree, first_page, right_page, round, next_tree, all_done, passes_by}

-- ---- lists

all_both : (P : ℕ → Type 0) (xs ys : List ℕ) → AllByRecursion P xs → AllByRecursion P ys → AllByRecursion P (xs ++ ys)
all_both P [] ys one other = other
all_both P (x ∷ xs) ys one other = (one.0, all_both P xs ys one.1 other)

page_zero : (n : ℕ) → page_at n ≡ None → n ≡ 0
page_zero zero e = refl
page_zero (suc n) e = absurd (cc (e))

page_some : (n q : ℕ) → page_at n ≡ Some q → n ≡ q
page_some zero q e = absurd (cc (e))
page_some (suc n) q e = cc (e)

-- ---- with one run more

received_more : (r : Run) (rs : List Run) (queue : Part) (id : ℕ) → Received rs queue id → Received (r ∷ rs) queue id
received_more r rs queue id was = (was.0, (inr was.1.0, was.1.1))

pages_more : (r : Run) (rs : List Run) (tree from : ℕ) (pages : List ℕ) (to : ℕ) → EmptiesPages rs tree from pages to → EmptiesPages (r ∷ rs) tree from pages to
pages_more r rs tree from [] to e = e
pages_more r rs tree from (page ∷ pages) to all = (all.0, (all.1.0, (inr all.1.1.0, pages_more r rs tree all.1.0.home.right pages to all.1.1.1)))

-- and one page more
page_more : (rs : List Run) (tree from : ℕ) (pages : List ℕ) (to : ℕ) (m : Paging) → EmptiesPages rs tree from pages to → Empties rs (Page tree to m)
    → EmptiesPages rs tree from (pages ++ to ∷ []) m.home.right
page_more rs tree from [] to m e own = (sym e, (m, (own, refl)))
page_more rs tree from (page ∷ pages) to m all own = (all.0, (all.1.0, (all.1.1.0, page_more rs tree all.1.0.home.right pages to m all.1.1.1 own)))

tree_more : (r : Run) (rs : List Run) (tree : ℕ) → EmptiesTree rs tree → EmptiesTree (r ∷ rs) tree
tree_more r rs tree e = record { making = e.making; own = inr e.own; pages = e.pages; all = pages_more r rs tree 1 e.pages 0 e.all }

-- ---- where a part begins

-- the clients below a number were recovered, and the trees below a number emptied
abbrev ClientsBelow : List Run → ℕ → Type 0
ClientsBelow runs upto = (client : ℕ) → IsClient client → client < upto → (m : Recovery) × RanTo runs (Client client m)

abbrev TreesBelow : List Run → ℕ → Type 0
TreesBelow runs upto = (tree : ℕ) → IsTree tree → tree < upto → EmptiesTree runs tree

-- what is known of a queue was received from it
abbrev KnowsReceived : List Run → Part → List ℕ → Type 0
KnowsReceived runs queue known = AllByRecursion (Received runs queue) known

abbrev OwnEmptied : List Run → ℕ → Type 0
OwnEmptied runs tree = (m : Making) × Empties runs (Tree tree m)

abbrev At : List Run → Part → List ℕ → Type 0
At runs (Client client m) known = ClientsBelow runs client
At runs (Tree tree m) known = ClientsBelow runs 65 × (TreesBelow runs tree × KnowsReceived runs (part_of_tree tree) known)
At runs (Page tree page m) known =
    ClientsBelow runs 65
    × (TreesBelow runs tree × (OwnEmptied runs tree × (((pages : List ℕ) × EmptiesPages runs tree 1 pages page) × KnowsReceived runs (part_of_page tree page) known)))

again_at : (runs : List Run) (p : Part) (known : List ℕ) → At runs (part_again p) known → At runs p known
again_at runs (Client client m) known at = at
again_at runs (Tree tree m) known at = at
again_at runs (Page tree page m) known at = at

-- behind a part
abbrev After : List Run → Step → Type 0
After runs (Goes s) = At runs s.part s.known
After runs (Ends s x) = IsWhole runs
After runs (Stops s t) = Unit {0}

module _ (r : Run) (rs : List Run) where
  clients_more : (upto : ℕ) → ClientsBelow rs upto → ClientsBelow (r ∷ rs) upto
  clients_more upto below client is less = let was = below client is less in (was.0, inr was.1)

  trees_more : (upto : ℕ) → TreesBelow rs upto → TreesBelow (r ∷ rs) upto
  trees_more upto below tree is less = tree_more r rs tree (below tree is less)

  knows_more : (queue : Part) (known : List ℕ) → KnowsReceived rs queue known → KnowsReceived (r ∷ rs) queue known
  knows_more queue known all = all_ids (Received rs queue) (Received (r ∷ rs) queue) (received_more r rs queue) known all

  -- the ids of this run were received
  own_received : (p : Part) → r.part ≡ p → AllByRecursion (Received (r ∷ rs) (part_again p)) (part_received p)
  own_received p e =
      all_ids (λ id. has_id (part_received p) id ≡ true) (Received (r ∷ rs) (part_again p)) (λ id has. (p, (inl e, (refl, has)))) (part_received p) (each_has (part_received p))

  -- it received nothing new
  own_empties : (p : Part) (known : List ℕ) → r.part ≡ p → KnowsReceived rs (part_again p) known → new_ids known (part_received p) ≡ [] → Empties (r ∷ rs) p
  own_empties p known e knows none =
      inl (
        e,
        all_ids (λ id. has_id known id ≡ true) (Received rs (part_again p)) (λ id has. all_has (Received rs (part_again p)) known id knows has) (part_received p)
            (none_new known (part_received p) none),
      )

  -- the same once more
  at_again : (p : Part) (known ids : List ℕ) → r.part ≡ p → new_ids known (part_received p) ≡ ids → At rs p known → At (r ∷ rs) (part_again p) (known ++ ids)
  at_again p known ids e news at = on p e news at
    where
      more : (q : Part) → r.part ≡ q → new_ids known (part_received q) ≡ ids → KnowsReceived rs (part_again q) known → KnowsReceived (r ∷ rs) (part_again q) (known ++ ids)
      more q f n knows =
          all_both (Received (r ∷ rs) (part_again q)) known ids (knows_more (part_again q) known knows)
          (subst (AllByRecursion (Received (r ∷ rs) (part_again q))) n (all_new (Received (r ∷ rs) (part_again q)) known (part_received q) (own_received q f)))

      on : (q : Part) → r.part ≡ q → new_ids known (part_received q) ≡ ids → At rs q known → At (r ∷ rs) (part_again q) (known ++ ids)
      on (Client client m) f n below = clients_more client below
      on (Tree tree m) f n at = (clients_more 65 at.0, (trees_more tree at.1.0, more (Tree tree m) f n at.1.1))
      on (Page tree page m) f n at = (
        clients_more 65 at.0,
        (
          trees_more tree at.1.0,
          (
            (at.1.1.0.0, inr at.1.1.0.1),
            ((at.1.1.1.0.0, pages_more r rs tree 1 at.1.1.1.0.0 page at.1.1.1.0.1), more (Page tree page m) f n at.1.1.1.1),
          ),
        ),
      )

  -- one client more was recovered
  clients_on : (client : ℕ) (m : Recovery) → r.part ≡ Client client m → ClientsBelow rs client → ClientsBelow (r ∷ rs) (client + 1)
  clients_on client m e below k is less = by (cases_eq k client)
    where
      by : (k ≡ client) ⊎ (k ≢ client) → (x : Recovery) × RanTo (r ∷ rs) (Client k x)
      by (inl same) = (m, inl (e ∙ ap (λ (n : ℕ). Client n m) (sym same)))
      by (inr other) = clients_more client below k is (omega (arith, less, other))

  -- the queue of one page more was emptied
  pages_on : (tree page : ℕ) (m : Paging) (known : List ℕ) → r.part ≡ Page tree page m → new_ids known m.received ≡ [] → At rs (Page tree page m) known
      → (pages : List ℕ) × EmptiesPages (r ∷ rs) tree 1 pages m.home.right
  pages_on tree page m known e none (clients, (below, (own, ((pages, to), knows)))) =
      (pages ++ page ∷ [], page_more (r ∷ rs) tree 1 pages page m (pages_more r rs tree 1 pages page to) (own_empties (Page tree page m) known e knows none))

  -- with the last page of a tree one tree more was
  trees_on : (tree page : ℕ) (m : Paging) (known : List ℕ) → r.part ≡ Page tree page m → new_ids known m.received ≡ [] → page_at m.home.right ≡ None
      → At rs (Page tree page m) known → TreesBelow (r ∷ rs) (tree + 1)
  trees_on tree page m known e none last at t is less = by (cases_eq t tree)
    where
      emptied : EmptiesTree (r ∷ rs) tree
      emptied =
          let on = pages_on tree page m known e none at in
          record { making = at.1.1.0.0; own = inr at.1.1.0.1; pages = on.0; all = subst (EmptiesPages (r ∷ rs) tree 1 on.0) (page_zero m.home.right last) on.1 }

      by : (t ≡ tree) ⊎ (t ≢ tree) → EmptiesTree (r ∷ rs) t
      by (inl same) = subst (EmptiesTree (r ∷ rs)) (sym same) emptied
      by (inr other) = trees_more tree at.1.0 t is (omega (arith, less, other))

  behind_part : (s : Settling) (next : Step) → Passes s next → r.part ≡ s.part → At rs s.part s.known → After (r ∷ rs) next
  behind_part _ _ (again s id ids news) e at = at_again s.part s.known (id ∷ ids) e news at
  behind_part _ _ (next_client s client m less) e below = clients_on client m e below
  behind_part _ _ (first_tree s client m far) e below = (
    λ k is less. let most = is.most in clients_on client m e below k is (omega (arith, most, far)),
    (λ t is less. let some = is.some in absurd (omega (arith, some, less)), tt),
  )
  behind_part _ _ (first_page s tree m none) e (clients, (below, knows)) =
      (clients_more 65 clients, (trees_more tree below, ((m, own_empties (Tree tree m) s.known e knows none), (([], refl), tt))))
  behind_part _ _ (right_page s tree page m right none link new) e at =
      let on = pages_on tree page m s.known e none at in
      let to = subst (EmptiesPages (r ∷ rs) tree 1 on.0) (page_some m.home.right right link) on.1 in
      (clients_more 65 at.0, (trees_more tree at.1.0, ((at.1.1.0.0, inr at.1.1.0.1), ((on.0, to), tt))))
  behind_part _ _ (round s tree page m right none link seen) e at = tt
  behind_part _ _ (next_tree s tree page m none last less) e at = (clients_more 65 at.0, (trees_on tree page m s.known e none last at, tt))
  behind_part _ _ (all_done s tree page m none last far) e at = record {
    clients = λ k is. let most = is.most in clients_more 65 at.0 k is (omega (arith, most));
    trees = λ t is. let most = is.most in trees_on tree page m s.known e none last at t is (omega (arith, most, far));
  }

-- ---- all parts

pub part_behind : (r : Run) (rs : List Run) (from : Settling) (next : Step) → At rs from.part from.known → part_again r.part ≡ from.part → passed (behind from r) ≡ next → After (r ∷ rs) next
part_behind r rs from next at place passes =
    behind_part r rs (behind from r) next (passes_by (behind from r) next passes) refl
    (again_at rs r.part from.known (subst (λ (p : Part). At rs p from.known) (sym place) at))

pub ran_at : (rs : List Run) (s : Settling) → Ran rs s → At rs s.part s.known
ran_at [] s e = subst (λ (x : Settling). At [] x.part x.known) (sym e) (λ k is less. let some = is.some in absurd (omega (arith, some, less)))
ran_at (r ∷ rs) s ran = part_behind r rs ran.0 (Goes s) (ran_at rs ran.0 ran.1) ran.3 ran.4

pub ran_whole : (r : Run) (rs : List Run) (from left : Settling) (x : Settled) → Ran rs from → part_again r.part ≡ from.part → passed (behind from r) ≡ Ends left x → IsWhole (r ∷ rs)
ran_whole r rs from left x ran place passes = part_behind r rs from (Ends left x) (ran_at rs from ran) place passes

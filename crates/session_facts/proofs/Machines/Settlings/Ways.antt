-- What a settling knows of its way to the right is known behind each of its steps, and no step leads to a page twice.
use Rattle.std.proofs.Common.{◌≡◌, ◌∙◌, ℕ, suc, false, List, Option, Some, Result, Ok, Err, refl, sym, ap, subst, arith}
use Rattle.ckpt_parts.specs.Leaves.{HoldsLinked}
use Rattle.ckpt_parts.specs.declared.leases.Leases.{Leases}
use Rattle.cloud_facts.specs.Words.{IsTree, Trouble, Entry, Leaf, Answer, CloudState, newest, Caller, Claim, Ask, GetHeld, Next, Goes, Ends, Stops, got_of, Book, Link, Store, nodes_of, roots_of, store_of, IsCall}
use Rattle.cloud_facts.specs.Book.Telling.{newest_leaf, newest_root}
use Rattle.cloud_facts.specs.Calls.Acting.{footing, actor, Setting}
use Rattle.cloud_facts.proofs.Calls.Heads.{held_seen}
use Rattle.cloud_facts.specs.Chains.Chain.{IsChained}
use Rattle.cloud_facts.specs.Homes.Homes.{Parts}
use Rattle.cloud_trait.specs.declared.turn.CkptAnswer.{CkptAnswer}
use Rattle.db_base.specs.declared.trouble.Trouble.TheVariants as trouble
use Rattle.leaf_view.specs.Lookup.{page_at}
use Rattle.page_ckpt.specs.Paging.{Paging, Step as PageStep, ask_at, paging_ask, under, home_name, right_name, HoldsNamed, PagingLeads}
use Rattle.page_ckpt.specs.declared.stage.Stage.{Stage}
use Rattle.page_ckpt.specs.declared.stage.Stage.TheVariants.{GettingHome, GettingRight}
use Rattle.recover_run.specs.Recovery.{Step as RecoveryStep}
use Rattle.session_facts.specs.Machines.PageCheckpoints.Knows.{HasPage, HasRight, MayStopPage, ComesOn, KnowsPagingAt, KnowsPaging}
use Rattle.session_facts.specs.Machines.PageCheckpoints.Rights.{IsLanded}
use Rattle.session_facts.proofs.Machines.PageCheckpoints.Fences.{newest_landed}
use Rattle.session_facts.proofs.Machines.PageCheckpoints.Reads.{IsNamed, IsLinkedLeaf, named_is, named_leaf, linked_is}
use Rattle.session_facts.proofs.Machines.PageCheckpoints.Nexts.{page_refusals}
use Rattle.session_facts.proofs.Machines.Refusals.{got_may, received_may, done_may, given_may}
use Rattle.session_facts.proofs.Machines.Settlings.PageSteps.{HasRead, Lacks, step_has}
use Rattle.session_facts.proofs.Machines.Settlings.PageSteps as lacks
use Rattle.session_facts.proofs.Machines.Settlings.Rights.{reads_nothing, first_comes, right_comes, right_unvisited}
use Rattle.session_facts.specs.Machines.Settlings.Knows.{IsOfNoPage, ReadsPage, ComesTo, KnowsAtWork, KnowsWay}
use Rattle.settle_run.specs.declared.part.Part.{Part as AtWork}
use Rattle.settle_run.specs.declared.part.Part.TheVariants.{Client, Tree, Page}
use Rattle.settle_run.specs.Parts.{part_again, part_ask, recovers, makes, pages, PartLeads}
use Rattle.settle_run.specs.Settling.{Settling, Step, is_visited, counted, with_part, moved}
use Rattle.settle_run.proofs.Outcomes.{Passes, passes_by, Comes, comes}
use Rattle.settle_run.proofs.Outcomes as step
use Rattle.tree_ckpt.specs.Making.{Making}

-- ---- a step of a page's checkpoint

-- what stops the checkpoint of any page is of no page
fair_of : (t : Trouble) → ((page : ℕ) → MayStopPage page t) → IsOfNoPage t
fair_of (trouble.Absent named) may = absurd (never named (may (suc named)).0)
  where
    never : (n : ℕ) → n ≡ suc n → ⊥
    never n e = absurd (omega (arith, e))
fair_of (trouble.NotALeaf named) may = absurd (never named (may (suc named)).0)
  where
    never : (n : ℕ) → n ≡ suc n → ⊥
    never n e = absurd (omega (arith, e))
fair_of t may = tt

module _ (who : Caller) (s t : CloudState) (book : Book) (order : List Entry) (parts : Parts) (leases : List Claim) (p : Paging) (reply : Answer)
    (setting : Setting (footing book order s) t.now (actor parts who.session leases)) (k : KnowsPaging (store_of book order s) s.now p) (call : IsCall who (paging_ask p) reply s t)
    (visited : List ℕ) (comes : ComesTo (store_of book order s) p.tree p.page visited) (reads : ReadsPage (store_of book order s) p.tree p.page p) where
  abbrev L : Leaf → Type 0
  L l = IsLanded (nodes_of s p.tree) p.page l

  abbrev link : Link
  link = record { low = comes.low; page = p.page }

  -- what is known of a leaf that was read, or of why none was
  abbrev IsRead : Result Leaf Trouble → Type 0
  IsRead (Ok l) = L l
  IsRead (Err t) = IsOfNoPage t

  call_at : (ask : Ask) → paging_ask p ≡ ask → IsCall who ask reply s t
  call_at ask is = subst (λ (q : Ask). IsCall who q reply s t) is call

  asks : (stage : Stage) → p.stage ≡ stage → paging_ask p ≡ ask_at stage p
  asks stage e = ap (λ (g : Stage). ask_at g p) e

  -- the page that a link names is a leaf
  named : (e : p.stage ≡ GettingHome) (has : HasPage p) (got : Option (List ℕ)) (found : Result Leaf Trouble) → got_of reply ≡ Ok got → HoldsNamed p.tree p.page got found
      → IsRead found
  named e has got found is holds =
      on found (newest_leaf (nodes_of s) p.tree p.page) (named_leaf book order s setting.cloud p.tree k.tree link comes.linked got found newest_is holds)
      (named_is book order s setting.cloud p.tree k.tree p.page got found newest_is holds)
    where
      get : paging_ask p ≡ GetHeld (home_name p) has.lease
      get = asks GettingHome e ∙ ap (λ (l : Leases). under p l.first (λ c. GetHeld (home_name p) c)) has.is

      newest_is : newest s (home_name p) ≡ got
      newest_is = sym (held_seen who (home_name p) has.lease reply s t (call_at (GetHeld (home_name p) has.lease) get) got is)

      on : (g : Result Leaf Trouble) (l : Leaf) → g ≡ Ok l → IsNamed (nodes_of s p.tree) p.page g → IsRead g
      on (Ok m) l leaf newest = newest_landed (nodes_of s p.tree) p.page m newest
      on (Err x) l leaf newest = absurd (cc)

  -- and so is a right page
  right_named : (e : p.stage ≡ GettingRight) (has : HasRight p) (comes_on : ComesOn (store_of book order s) s.now p has.lease) (got : Option (List ℕ)) (found : Result Leaf Trouble)
      → got_of reply ≡ Ok got → HoldsLinked p.tree p.at.page p.at.low got found → (x : Trouble) → found ≡ Err x → IsOfNoPage x
  right_named e has comes_on got found is holds x fails = never leaf.leaf x (sym leaf.is ∙ fails)
    where
      never : (l : Leaf) (x : Trouble) → (let read : Result Leaf Trouble = Ok l in let failed : Result Leaf Trouble = Err x in read ≡ failed) → IsOfNoPage x
      never l x e = absurd (cc)

      get : paging_ask p ≡ GetHeld (right_name p) has.second
      get = asks GettingRight e ∙ ap (λ (l : Leases). under p l.second (λ c. GetHeld (right_name p) c)) has.is

      leaf : IsLinkedLeaf (nodes_of s p.tree) p.at.page p.at.low found
      leaf = linked_is book order s setting.cloud p.tree k.tree (record { low = p.at.low; page = p.at.page }) comes_on.linked got found
          (sym (held_seen who (right_name p) has.second reply s t (call_at (GetHeld (right_name p) has.second) get) got is)) holds

  known_at : (stage : Stage) → p.stage ≡ stage → KnowsPagingAt stage (store_of book order s) s.now p
  known_at stage e = subst (λ (g : Stage). KnowsPagingAt g (store_of book order s) s.now p) e k.at

  home_at : p.stage ≡ GettingHome → HasPage p
  home_at e = (known_at GettingHome e).0

  right_at : p.stage ≡ GettingRight → (has : HasRight p) × ComesOn (store_of book order s) s.now p has.lease
  right_at e = known_at GettingRight e

  no_leaf : (x : Trouble) → Lacks p reply x → IsOfNoPage x
  no_leaf x (lacks.no_bytes e) = fair_of x (λ page. got_may (page_refusals page) reply x e)
  no_leaf x (lacks.no_messages e) = fair_of x (λ page. received_may (page_refusals page) reply x e)
  no_leaf x (lacks.no_lease taken e) = fair_of x (λ page. given_may (page_refusals page) (λ k until. tt) taken reply x e)
  no_leaf x (lacks.not_done e) = fair_of x (λ page. done_may (page_refusals page) reply x e)
  no_leaf x (lacks.no_home got e is holds) = named e (home_at e) got (Err x) (ap got_of is) holds
  no_leaf x (lacks.no_right got e is holds) = right_named e (right_at e).0 (right_at e).1 got (Err x) (ap got_of is) holds x refl
  no_leaf x (lacks.other fair) = fair

  pub page_has : (next : PageStep) → PagingLeads p reply next → HasRead L next
  page_has next leads =
      step_has L p reply next reads.landed reads.fair (λ got home e is holds. named e (home_at e) got (Ok home) (ap got_of is) holds) no_leaf leads

-- ---- a step of the part at work

-- a part that is over: a page's checkpoint has what it read of the page
abbrev pub EndsWithPage : Store → AtWork → List ℕ → Type 0
EndsWithPage st (Client client m) visited = Unit {0}
EndsWithPage st (Tree tree m) visited = IsTree tree
EndsWithPage st (Page tree page m) visited = IsTree tree × ComesTo st tree page visited × IsLanded (st.tally.nodes tree) page m.home

-- a checkpoint of a page stops for no page
abbrev pub StopsFor : AtWork → Trouble → Type 0
StopsFor (Client client m) t = Unit {0}
StopsFor (Tree tree m) t = Unit {0}
StopsFor (Page tree page m) t = IsOfNoPage t

abbrev pub PartWay : Store → List ℕ → Next AtWork ℕ → Type 0
PartWay st visited (Goes w) = KnowsWay st w visited
PartWay st visited (Ends w left) = EndsWithPage st w visited
PartWay st visited (Stops w t) = StopsFor w t

-- what comes next is on the way
abbrev pub WayIn : Store → Step → Type 0
WayIn st (Goes n) = KnowsWay st n.part n.visited
WayIn st (Ends n x) = Unit {0}
WayIn st (Stops n q) = Unit {0}

module _ (who : Caller) (s t : CloudState) (book : Book) (order : List Entry) (parts : Parts) (leases : List Claim) (reply : Answer) (visited : List ℕ)
    (setting : Setting (footing book order s) t.now (actor parts who.session leases)) where
  abbrev st : Store
  st = store_of book order s

  pub part_way : (w : AtWork) → KnowsAtWork st s.now w (parts who.session) → KnowsWay st w visited → IsCall who (part_ask w) reply s t → (x : Next AtWork ℕ) → PartLeads w reply x
      → PartWay st visited x
  part_way (Client client m) k way call x (step, leads, to) = subst (PartWay st visited) (sym to) (on step)
    where
      on : (step : RecoveryStep) → PartWay st visited (recovers client step)
      on (Goes n) = tt
      on (Ends n a) = tt
      on (Stops n q) = tt
  part_way (Tree tree m) k way call x (step, leads, to) = subst (PartWay st visited) (sym to) (on step)
    where
      on : (step : Next Making CkptAnswer) → PartWay st visited (makes tree step)
      on (Goes n) = tt
      on (Ends n a) = subst IsTree k.tree_is k.knows.tree
      on (Stops n q) = tt
  part_way (Page tree page m) k way call x (step, leads, to) = subst (PartWay st visited) (sym to) (on step read)
    where
      Read : ℕ → ℕ → Type 0
      Read tree page = HasRead (λ l. IsLanded (nodes_of s tree) page l) step

      read : Read tree page
      read =
          subst (λ (n : ℕ). Read tree n) k.page_is (subst (λ (n : ℕ). Read n m.page) k.tree_is
          (page_has who s t book order parts leases m reply setting k.knows call visited
          (subst (λ (n : ℕ). ComesTo st m.tree n visited) (sym k.page_is) (subst (λ (n : ℕ). ComesTo st n page visited) (sym k.tree_is) way.0))
          (subst (λ (n : ℕ). ReadsPage st m.tree n m) (sym k.page_is) (subst (λ (n : ℕ). ReadsPage st n page m) (sym k.tree_is) way.1)) step leads))

      on : (step : PageStep) → HasRead (λ l. IsLanded (nodes_of s tree) page l) step → PartWay st visited (pages tree page step)
      on (Goes n) r = (way.0, record { landed = r.0; fair = r.1 })
      on (Ends n a) r = (subst IsTree k.tree_is k.knows.tree, way.0, r)
      on (Stops n q) r = r

  -- ---- a step of the settling

  module _ (tree : ℕ) (is : IsTree tree) where
    chained : IsChained (book.chain tree) (nodes_of s tree) (roots_of s tree) (st.tally.done tree) (st.tally.cursor tree 0)
    chained = setting.cloud.holds.chains tree is

    abbrev height : ℕ
    height = (newest_root (roots_of s) tree).level

    -- the right page is none whose own checkpoints began
    pub unvisited : (m : Settling) (page : ℕ) (home : Leaf) → ComesTo st tree page m.visited → IsLanded (st.tally.nodes tree) page home → (right : ℕ) → page_at home.right ≡ Some right
        → is_visited m right ≡ false
    unvisited m page home comes landed right named = right_unvisited st tree height chained.levels chained.versions page home m.visited comes landed right named m refl

  again_way : (w : AtWork) (visited : List ℕ) → EndsWithPage st w visited → KnowsWay st (part_again w) visited
  again_way (Client client r) visited ends = tt
  again_way (Tree tree r) visited ends = tt
  again_way (Page tree page r) visited ends = (ends.1, reads_nothing st tree page)

  passes_way : {m : Settling} {next : Step} → Passes m next → EndsWithPage st m.part m.visited → WayIn st next
  passes_way (step.again m id ids news) ends = again_way m.part m.visited ends
  passes_way (step.first_page m tree r none) ends = let c = chained tree ends in (first_comes st tree (height tree ends) c.levels c.versions, reads_nothing st tree 1)
  passes_way (step.right_page m tree page r right none link new) ends =
      let c = chained tree ends.0 in
      (right_comes st tree (height tree ends.0) c.levels c.versions page r.home m.visited ends.1 ends.2 right link, reads_nothing st tree right)
  passes_way p ends = tt

  way_by : {m : Settling} {x : Next AtWork ℕ} {next : Step} → Comes m x next → PartWay st m.visited x → WayIn st next
  way_by (step.goes w) way = way
  way_by {m = m} (step.ends w next e) way = passes_way (passes_by (counted (with_part m w)) next e) way
  way_by c way = tt

  pub moved_way : (m : Settling) (x : Next AtWork ℕ) → m.visited ≡ visited → PartWay st visited x → WayIn st (moved m x)
  moved_way m x same way = way_by (comes m x) (subst (λ (v : List ℕ). PartWay st v x) (sym same) way)

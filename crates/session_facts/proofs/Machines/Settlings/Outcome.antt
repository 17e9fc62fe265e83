-- What a call of a settling leaves, whatever it was answered and whether it landed or not.
use Rattle.std.proofs.Common.{◌≡◌, ℕ, List, Option, None, refl, sym, ap, subst, ◌∙◌}
use Rattle.std.proofs.lemmas.List.{append-nil}
use Rattle.cloud_facts.specs.Calls.Acting.{footing, actor, Setting, Outcome, Aside}
use Rattle.cloud_facts.specs.Words.{IsClient, IsTree, Entry, Answer, CloudState, Caller, Ask, Get, GetHeld, PutHeld, Send, Receive, Delete, Take, Renew, Release, Next, Goes, Ends, Stops, Book, Store, store_of, IsCall}
use Rattle.cloud_facts.proofs.Calls.Outcomes.{weaker}
use Rattle.cloud_trait.specs.declared.turn.CkptAnswer.{CkptAnswer}
use Rattle.cloud_trait.specs.Ask.{ListHeld, RemoveHeld}
use Rattle.cloud_trait.specs.Weather.{Fits}
use Rattle.db_base.specs.Ids.{IsPage}
use Rattle.db_base.specs.declared.names.ObjName.TheVariants as object
use Rattle.history.specs.Audited.{Audited}
use Rattle.cloud_facts.specs.Homes.Homes.{Part, Parts, Away}
use Rattle.session_facts.specs.Machines.Openings.Knows.{leases_of_recovery, KnowsEnd, KnowsNext as KnowsOpened}
use Rattle.session_facts.proofs.Machines.Openings.Outcome.{opening_outcome}
use Rattle.page_ckpt.specs.Paging.{Paging, Step as PageStep, paging_ask}
use Rattle.session_facts.specs.Machines.PageCheckpoints.Knows.{KnowsAfter as KnowsPaged, KnowsNext as KnowsPagingNext, leases_of_paging, paging_note}
use Rattle.session_facts.proofs.Machines.PageCheckpoints.Outcome.{paging_outcome}
use Rattle.recover_run.specs.declared.home.Home.{Home}
use Rattle.recover_run.specs.declared.stage.Aim.TheVariants as aim
use Rattle.recover_run.specs.Recovery.{Recovery, Step as RecoveryStep, recovery_ask, recovery_next, home_of}
use Rattle.settle_run.specs.declared.part.Part.{Part as AtWork}
use Rattle.settle_run.specs.declared.part.Part.TheVariants.{Client, Tree, Page}
use Rattle.settle_run.specs.Parts.{part_ask, IsSoundPart, recovers, makes, pages}
use Rattle.settle_run.specs.Settling.{Settling, Step, settle_ask, moved}
use Rattle.session_facts.specs.Machines.Settlings.Knows.{KnowsAtWork, KnowsSettling, KnowsNext, KnowsAfter, leases_at_work, leases_of_settling, note_at_work, settling_note}
use Rattle.session_facts.proofs.Machines.PageCheckpoints.Stays.{StaysAtPage, paging_stays}
use Rattle.session_facts.proofs.Machines.Settlings.Nexts.{WorksNext, KnowsMoved, KnowsBehind, moved_knows}
use Rattle.session_facts.proofs.Machines.Settlings.Rights.{way_stays}
use Rattle.session_facts.proofs.Machines.Settlings.Ways.{WayIn, part_way, moved_way}
use Rattle.session_facts.proofs.Machines.Settlings.Recoveries.{KeepsClient, recovery_keeps}
use Rattle.session_facts.proofs.Machines.Settlings.Others.{at_work_later}
use Rattle.cloud_facts.specs.Book.Growth.{Grows}
use Rattle.tree_ckpt.specs.Making.{Making, MakingLeads, making_ask}
use Rattle.session_facts.specs.Machines.TreeCheckpoints.Knows.{KnowsMakingNext, KnowsAfter as KnowsMade, leases_of_making, making_note}
use Rattle.session_facts.proofs.Machines.TreeCheckpoints.Outcome.{making_outcome}

-- ---- what the audit takes

recovery_noted : (ask : Ask) (client : ℕ) (m : Recovery) (a : Audited) → a ≡ note_at_work (Client client m) ask a
recovery_noted (PutHeld (object.Page tree page) bytes one two) client m a = ap (λ es. record a { order = es }) (sym (append-nil a.order))
recovery_noted (PutHeld (object.Head other) bytes one two) client m a = refl
recovery_noted (PutHeld (object.Tree tree) bytes one two) client m a = refl
recovery_noted (Get name) client m a = refl
recovery_noted (GetHeld name l) client m a = refl
recovery_noted (ListHeld tree l) client m a = refl
recovery_noted (RemoveHeld name l) client m a = refl
recovery_noted (Send queue bytes) client m a = refl
recovery_noted (Receive queue most) client m a = refl
recovery_noted (Delete queue id) client m a = refl
recovery_noted (Take lock ticks) client m a = refl
recovery_noted (Renew l ticks) client m a = refl
recovery_noted (Release l) client m a = refl

making_noted : (ask : Ask) (tree : ℕ) (m : Making) (a : Audited) → making_note m ask a ≡ note_at_work (Tree tree m) ask a
making_noted (PutHeld (object.Page tree page) bytes one two) other m a = refl
making_noted (PutHeld (object.Head client) bytes one two) other m a = refl
making_noted (PutHeld (object.Tree tree) bytes one two) other m a = refl
making_noted (Get name) tree m a = refl
making_noted (GetHeld name l) tree m a = refl
making_noted (ListHeld of l) tree m a = refl
making_noted (RemoveHeld name l) tree m a = refl
making_noted (Send queue bytes) tree m a = refl
making_noted (Receive queue most) tree m a = refl
making_noted (Delete queue id) tree m a = refl
making_noted (Take lock ticks) tree m a = refl
making_noted (Renew l ticks) tree m a = refl
making_noted (Release l) tree m a = refl

paging_noted : (ask : Ask) (tree page : ℕ) (m : Paging) (a : Audited) → paging_note m ask a ≡ note_at_work (Page tree page m) ask a
paging_noted (PutHeld (object.Page tree page) bytes one two) of_tree of_page m a = refl
paging_noted (PutHeld (object.Head client) bytes one two) of_tree of_page m a = refl
paging_noted (PutHeld (object.Tree tree) bytes one two) of_tree of_page m a = refl
paging_noted (Get name) tree page m a = refl
paging_noted (GetHeld name l) tree page m a = refl
paging_noted (ListHeld of l) tree page m a = refl
paging_noted (RemoveHeld name l) tree page m a = refl
paging_noted (Send queue bytes) tree page m a = refl
paging_noted (Receive queue most) tree page m a = refl
paging_noted (Delete queue id) tree page m a = refl
paging_noted (Take lock ticks) tree page m a = refl
paging_noted (Renew l ticks) tree page m a = refl
paging_noted (Release l) tree page m a = refl

-- ---- what is known behind a step of the machine at work

none_open : (o : Option Home) (st : Store) (now : ℕ) (part : Part) → o ≡ None → KnowsEnd o st now part → part ≡ Away
none_open o st now part none k = subst (λ q. KnowsEnd q st now part) none k

-- wherever the answer led the machine, it led the part there
module _ (st : Store) (now : ℕ) (part : Part) where
  recovery_moves : (client : ℕ) (m : Recovery) (reply : Answer) → IsClient client → m.client ≡ client → m.aim ≡ aim.Settling → KnowsOpened (recovery_next m reply) st now part
      → KnowsBehind (Client client m) reply st now part
  recovery_moves client m reply is client_is aim_is k n (step, leads, to) =
      subst (λ q. KnowsMoved q st now part) (sym to) (on step (subst (λ q. KnowsOpened q st now part) leads k) (subst (KeepsClient m) leads (recovery_keeps m reply)))
    where
      on : (step : RecoveryStep) → KnowsOpened step st now part → KeepsClient m step → KnowsMoved (recovers client step) st now part
      on (Goes q) k keeps = record { client_is = keeps.0 ∙ client_is; aim_is = keeps.1 ∙ aim_is; knows = k }
      on (Ends q a) k keeps = (is, none_open (home_of q) st now part (keeps aim_is) k)
      on (Stops q t) k keeps = k

  making_moves : (u : Store) (before : Part) (tree : ℕ) (m : Making) (reply : Answer) → before ≡ Away → IsTree tree → m.tree ≡ tree → Aside u before (KnowsMade m reply) st now part
      → KnowsBehind (Tree tree m) reply st now part
  making_moves u before tree m reply away is tree_is a n (step, leads, to) = subst (λ q. KnowsMoved q st now part) (sym to) (on step leads (a.knows step leads))
    where
      on : (step : Next Making CkptAnswer) → MakingLeads m reply step → KnowsMakingNext st now step → KnowsMoved (makes tree step) st now part
      on (Goes q) leads k = record { tree_is = leads.0.0 ∙ tree_is; knows = k; away = a.part_is ∙ away }
      on (Ends q x) leads k = (is, a.part_is ∙ away)
      on (Stops q t) leads k = a.part_is ∙ away

  paging_moves : (u : Store) (before : Part) (tree page : ℕ) (m : Paging) (reply : Answer) → before ≡ Away → IsTree tree → IsPage page → m.tree ≡ tree → m.page ≡ page
      → Aside u before (KnowsPaged m reply) st now part → KnowsBehind (Page tree page m) reply st now part
  paging_moves u before tree page m reply away of_tree of_page tree_is page_is a n (step, leads, to) =
      subst (λ q. KnowsMoved q st now part) (sym to) (on step (paging_stays m reply step leads) (a.knows step leads))
    where
      on : (step : PageStep) → StaysAtPage m step → KnowsPagingNext st now m.page step → KnowsMoved (pages tree page step) st now part
      on (Goes q) keeps k = record { tree_is = keeps.0 ∙ tree_is; page_is = keeps.1 ∙ page_is; knows = k; away = a.part_is ∙ away }
      on (Ends q x) keeps k = ((of_tree, of_page), a.part_is ∙ away)
      on (Stops q t) keeps k = a.part_is ∙ away

-- ---- the whole

module _ (who : Caller) (s t : CloudState) (book : Book) (order : List Entry) (parts : Parts) (reply : Answer) where
  abbrev Leaves : AtWork → (Audited → Audited) → Type 0
  Leaves w note = Outcome (footing book order s) t (actor parts who.session (leases_at_work w)) (part_ask w) note (KnowsBehind w reply)

  work_outcome : (w : AtWork) → Setting (footing book order s) t.now (actor parts who.session (leases_at_work w)) → KnowsAtWork (store_of book order s) s.now w (parts who.session) → IsSoundPart w
      → IsCall who (part_ask w) reply s t → Fits (part_ask w) reply → Leaves w (note_at_work w (part_ask w))
  work_outcome (Client client m) setting k sound call fits =
      let later = at_work_later (store_of book order s) s.now t.now (Client client m) (parts who.session) call.later k in
      subst (Leaves (Client client m)) (λ i a. recovery_noted (recovery_ask m) client m a i)
      (weaker who book order s t parts (leases_of_recovery m) (recovery_ask m) (λ a. a) (KnowsOpened (recovery_next m reply)) (KnowsBehind (Client client m) reply)
      (λ st now part o. recovery_moves st now part client m reply (subst IsClient k.client_is k.knows.client) k.client_is k.aim_is o)
      (opening_outcome who book order s t parts m (parts who.session) reply setting refl later.knows sound call fits))
  work_outcome (Tree tree m) setting k sound call fits =
      subst (Leaves (Tree tree m)) (λ i a. making_noted (making_ask m) tree m a i)
      (weaker who book order s t parts (leases_of_making m) (making_ask m) (making_note m (making_ask m)) (Aside (store_of book order s) (parts who.session) (KnowsMade m reply))
      (KnowsBehind (Tree tree m) reply)
      (λ st now part a. making_moves st now part (store_of book order s) (parts who.session) tree m reply k.away (subst IsTree k.tree_is k.knows.tree) k.tree_is a)
      (making_outcome who s t book order parts (leases_of_making m) m reply setting (λ x is. is) k.knows call))
  work_outcome (Page tree page m) setting k sound call fits =
      subst (Leaves (Page tree page m)) (λ i a. paging_noted (paging_ask m) tree page m a i)
      (weaker who book order s t parts (leases_of_paging m) (paging_ask m) (paging_note m (paging_ask m)) (Aside (store_of book order s) (parts who.session) (KnowsPaged m reply))
      (KnowsBehind (Page tree page m) reply)
      (λ st now part a. paging_moves st now part (store_of book order s) (parts who.session) tree page m reply k.away (subst IsTree k.tree_is k.knows.tree) (subst IsPage k.page_is k.knows.page) k.tree_is k.page_is a)
      (paging_outcome who s t book order parts (leases_of_paging m) m reply setting k.knows call))

-- what is at work next, on its way to the right
with_way : (st su : Store) (now : ℕ) (part : Part) (next : Step) → Grows st su → WorksNext next su now part → WayIn st next → KnowsNext next su now part
with_way st su now part (Goes n) grows works way = record { work = works; way = way_stays st su n.part n.visited grows way }
with_way st su now part (Ends n x) grows works way = works
with_way st su now part (Stops n q) grows works way = works

-- a call of a settling
pub settling_outcome : (who : Caller) (s t : CloudState) (book : Book) (order : List Entry) (parts : Parts) (m : Settling) (reply : Answer)
    → Setting (footing book order s) t.now (actor parts who.session (leases_of_settling m)) → KnowsSettling (store_of book order s) s.now m (parts who.session) → IsSoundPart m.part
    → IsCall who (settle_ask m) reply s t → Fits (settle_ask m) reply
    → Outcome (footing book order s) t (actor parts who.session (leases_of_settling m)) (settle_ask m) (settling_note m (settle_ask m)) (KnowsAfter m reply)
settling_outcome who s t book order parts m reply setting k sound call fits = record {
  book_after = o.book_after;
  order_after = o.order_after;
  cloud = o.cloud;
  passes = o.passes;
  joins = o.joins;
  links = o.links;
  gone = o.gone;
  part = o.part;
  homes = o.homes;
  knows = λ next leads.
      subst (λ q. KnowsNext q (store_of o.book_after o.order_after t) t.now o.part) (sym leads.2)
      (with_way (store_of book order s) (store_of o.book_after o.order_after t) t.now o.part (moved m leads.0) o.passes.grows
      (moved_knows m leads.0 (store_of o.book_after o.order_after t) t.now o.part (o.knows leads.0 leads.1))
      (moved_way who s t book order parts (leases_of_settling m) reply m.visited setting m leads.0 refl
      (part_way who s t book order parts (leases_of_settling m) reply m.visited setting m.part k.work k.way call leads.0 leads.1)));
  noted = o.noted;
}
  where
    o : Outcome (footing book order s) t (actor parts who.session (leases_at_work m.part)) (part_ask m.part) (note_at_work m.part (part_ask m.part)) (KnowsBehind m.part reply)
    o = work_outcome who s t book order parts reply m.part setting k.work sound call fits

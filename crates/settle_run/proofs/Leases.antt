-- What the part at work holds, and that it gives it back.
use Rattle.std.proofs.Common.{◌≡◌, ◌≢◌, ℕ, List, [], ◌∷◌, ◌++◌, None, refl, sym, subst, ap, ◌∙◌}
use Rattle.db_base.specs.declared.trouble.Trouble.TheVariants as trouble
use Rattle.settle_run.proofs.Words.{Deed, Ends, Goes, LeadsBy, Next, Stops, Took, Answer, Failed, CkptAnswer, Turn, Ended, More, Stopped, RecoverAnswer, Part, Client, Page, Tree, Settled}
use Rattle.cloud_trait.specs.declared.answer.Answer.TheVariants.{Given}
use Rattle.cloud_trait.specs.Ask.{Ask, Get, GetHeld, PutHeld, ListHeld, RemoveHeld, Send, Receive, Delete, Take, Renew, Release}
use Rattle.cloud_trait.specs.Claim.{Claim}
use Rattle.cloud_trait.specs.Machine.{IsMade}
use Rattle.cloud_trait.specs.Weather.{Fits}
use Rattle.recover_run.specs.declared.stage.Aim.TheVariants as aim
use Rattle.recover_run.specs.declared.stage.RecoverAnswer.TheVariants.{Opened, Nothing}
use Rattle.recover_run.specs.Recovery.{Recovery, recovery_next}
use Rattle.recover_run.specs.Leases.{outstanding as recovery_outstanding, outstanding_after as recovery_after}
use Rattle.ckpt_parts.specs.Leasing.{outstanding, outstanding_after}
use Rattle.recover_run.proofs.Leases.{stands_leases as recovery_leases, stands_names as recovery_names, stands_gives as recovery_gives, took_returns as recovery_returns}
use Rattle.page_ckpt.specs.Paging.{Paging, paging_ask, PagingLeads}
use Rattle.page_ckpt.specs.Leases.{Stands as PageStands}
use Rattle.page_ckpt.proofs.Leases.{came_stands as page_stands, stands_names as page_names, stands_gives as page_gives, stands_returns as page_returns}
use Rattle.tree_ckpt.specs.Making.{Making, making_ask, MakingLeads}
use Rattle.tree_ckpt.specs.Leases.{Stands as TreeStands}
use Rattle.tree_ckpt.proofs.Leases.{came_stands as tree_stands, stands_names as tree_names, stands_gives as tree_gives, stands_returns as tree_returns}
use Rattle.settle_run.specs.Parts.{part_ask, recovers, makes, pages, PartLeads, KeepsPart, PartWent}
use Rattle.settle_run.specs.Settling.{Settling, Step, ended_by, counted, with_part, after_turn, settle_ask, moved, SettleLeads, KeepsSettling, SamePart}
use Rattle.settle_run.specs.Leases.{PartHolds, Holds, IsFree, GivesBack, AreReturned}
use Rattle.settle_run.specs.Meaning.{Went, Run, Ran, deeds_of}
use Rattle.settle_run.proofs.Outcomes.{Comes, goes, stops, leaves, ends, came_after}
use Rattle.settle_run.proofs.Meaning.{BeginsPart, begins_passed, Stands, went_stands}

part_holds : (p : Part) (h : List Deed) → PartWent h p → PartHolds p h
part_holds (Client client m) h went = (recovery_leases client aim.Settling None h m went, recovery_names client aim.Settling None h m went)
part_holds (Tree tree m) h went =
    let st : TreeStands m h = tree_stands tree h m went in
    (st.held, tree_names m h st)
part_holds (Page tree page m) h went =
    let st : PageStands m h = page_stands tree page h m went in
    (st.held, page_names m h st)

pub went_holds : (h : List Deed) (s : Settling) → Went h s → Holds h s
went_holds h s w =
    let st : Stands h s = went_stands h s w in
    record { own = st.own; rest = deeds_of st.runs; all = st.all; went = st.went; holds = part_holds s.part st.own st.went }

-- ---- an end of the part

abbrev Frees : Next Part ℕ → Type 0
Frees (Goes q) = Unit {0}
Frees (Ends q left) = IsFree q
Frees (Stops q t) = t ≢ trouble.Memory → IsFree q

part_frees : (p : Part) (own : List Deed) (a : Answer) (next : Next Part ℕ) → PartWent own p → Fits (part_ask p) a → PartLeads p a next → Frees next
part_frees (Client client m) own a next went fits leads = subst Frees (sym leads.2) (on leads.0 leads.1) where
  on : (n : Next Recovery RecoverAnswer) → LeadsBy recovery_next m a n → Frees (recovers client n)
  on (Goes n) l = tt
  on (Ends n (Opened epoch)) l = recovery_gives client aim.Settling None own m n a (Ended (Opened epoch)) went fits l
  on (Ends n Nothing) l = recovery_gives client aim.Settling None own m n a (Ended Nothing) went fits l
  on (Stops n t) l = λ k. recovery_gives client aim.Settling None own m n a (Stopped t) went fits (λ other. l, λ e. absurd (k e)) k
part_frees (Tree tree m) own a next went fits leads = subst Frees (sym leads.2) (on leads.0 leads.1) where
  on : (n : Next Making CkptAnswer) → MakingLeads m a n → Frees (makes tree n)
  on (Goes n) l = tt
  on (Ends n x) l = tree_gives m n own a (Ended x) (tree_stands tree own m went) fits l
  on (Stops n t) l = λ k. tree_gives m n own a (Stopped t) (tree_stands tree own m went) fits (λ other. l, λ e. absurd (k e)) k
part_frees (Page tree page m) own a next went fits leads = subst Frees (sym leads.2) (on leads.0 leads.1) where
  on : (n : Next Paging CkptAnswer) → PagingLeads m a n → Frees (pages tree page n)
  on (Goes n) l = tt
  on (Ends n x) l = page_gives m n own a (Ended x) (page_stands tree page own m went) fits l
  on (Stops n t) l = λ k. page_gives m n own a (Stopped t) (page_stands tree page own m went) fits (λ other. l, λ e. absurd (k e)) k

-- ---- an end of the settling

-- what is free where a step ends or stops
abbrev Freed : Step → Type 0
Freed (Goes n) = Unit {0}
Freed (Ends n x) = IsFree n.part
Freed (Stops n t) = t ≢ trouble.Memory → IsFree n.part

freed_passed : (s : Settling) (next : Step) → IsFree s.part → BeginsPart s next → Freed next
freed_passed s (Goes n) free begun = tt
freed_passed s (Ends n x) free (same, calls) = subst (λ (k : Settling). IsFree k.part) (sym same) free
freed_passed s (Stops n t) free same = λ k. subst (λ (k : Settling). IsFree k.part) (sym same) free

freed : (s : Settling) (x : Next Part ℕ) (next : Step) → Comes s x next → Frees x → Freed next
freed s _ _ (goes p) free = tt
freed s _ _ (stops p t) free = free
freed s _ _ (leaves p left some) free = λ k. free
freed s _ _ (ends p next is) free = freed_passed (counted (with_part s p)) next free (begins_passed (counted (with_part s p)) next is)

freed_after : (s : Settling) (p : Part) (own : List Deed) (a : Answer) (turn : Turn ℕ) (next : Step) → PartWent own s.part → Fits (part_ask s.part) a
    → Took PartLeads KeepsPart s.part a p turn → after_turn (with_part s p) turn ≡ next → Freed next
freed_after s p own a More next went fits took e = freed s (Goes p) next (came_after s p More next e) tt
freed_after s p own a (Ended left) next went fits took e =
    freed s (Ends p left) next (came_after s p (Ended left) next e) (part_frees s.part own a (Ends p left) went fits took)
freed_after s p own a (Stopped t) next went fits took e =
    freed s (Stops p t) next (came_after s p (Stopped t) next e) (λ k. part_frees s.part own a (Stops p t) went fits (took.0 k) k)

pub took_gives : (s n : Settling) (p : Part) (own : List Deed) (a : Answer) (turn : Turn ℕ) (result : Turn Settled) → PartWent own s.part
    → Fits (part_ask s.part) a → Took PartLeads KeepsPart s.part a p turn
    → Took (λ m x next. after_turn m turn ≡ next) SamePart (with_part s p) Failed n result → GivesBack n result
took_gives s n p own a turn More went fits took follow = tt
took_gives s n p own a turn (Ended x) went fits took follow = freed_after s p own a turn (Ends n x) went fits took follow
took_gives s n p own a turn (Stopped t) went fits took follow = λ k. freed_after s p own a turn (Stops n t) went fits took (follow.0 k) k

-- ---- .. by its calls

-- both ways to say what calls leave are one
same_after : (q : Ask) (a : Answer) (cs : List Claim) → recovery_after q a cs ≡ outstanding_after q a cs
same_after (Take lock ticks) (Given l) cs = refl
same_after (Take lock ticks) a cs = refl
same_after (Release l) a [] = refl
same_after (Release l) a (c ∷ cs) = refl
same_after (Get name) a cs = refl
same_after (GetHeld name l) a cs = refl
same_after (PutHeld name bytes one two) a cs = refl
same_after (ListHeld tree l) a cs = refl
same_after (RemoveHeld name l) a cs = refl
same_after (Send queue bytes) a cs = refl
same_after (Receive queue most) a cs = refl
same_after (Delete queue id) a cs = refl
same_after (Renew l ticks) a cs = refl

same_left : (h : List Deed) → recovery_outstanding None h ≡ outstanding h
same_left [] = refl
same_left (d ∷ h) = same_after d.ask d.answer (recovery_outstanding None h) ∙ ap (λ (cs : List Claim). outstanding_after d.ask d.answer cs) (same_left h)

-- what calls leave where a step ends or stops
abbrev Returned : List Deed → Next Part ℕ → Type 0
Returned h (Goes q) = Unit {0}
Returned h (Ends q left) = outstanding h ≡ []
Returned h (Stops q t) = t ≢ trouble.Memory → outstanding h ≡ []

asked_left : (d : Deed) (h : List Deed) (q : Ask) → d.ask ≡ q → outstanding (d ∷ h) ≡ outstanding_after q d.answer (outstanding h)
asked_left d h q e = ap (λ (p : Ask). outstanding_after p d.answer (outstanding h)) e

part_returns : (p : Part) (own : List Deed) (d : Deed) (next : Next Part ℕ) → PartWent own p → d.ask ≡ part_ask p → Fits (part_ask p) d.answer → PartLeads p d.answer next
    → Returned (d ∷ own) next
part_returns (Client client m) own d next went asks fits leads = subst (Returned (d ∷ own)) (sym leads.2) (on leads.0 leads.1) where
  on : (n : Next Recovery RecoverAnswer) → LeadsBy recovery_next m d.answer n → Returned (d ∷ own) (recovers client n)
  on (Goes n) l = tt
  on (Ends n (Opened epoch)) l = sym (same_left (d ∷ own)) ∙ recovery_returns client aim.Settling None own d m n (Ended (Opened epoch)) went asks fits l
  on (Ends n Nothing) l = sym (same_left (d ∷ own)) ∙ recovery_returns client aim.Settling None own d m n (Ended Nothing) went asks fits l
  on (Stops n t) l = λ k.
      sym (same_left (d ∷ own)) ∙ recovery_returns client aim.Settling None own d m n (Stopped t) went asks fits (λ other. l, λ e. absurd (k e)) k
part_returns (Tree tree m) own d next went asks fits leads = subst (Returned (d ∷ own)) (sym leads.2) (on leads.0 leads.1) where
  on : (n : Next Making CkptAnswer) → MakingLeads m d.answer n → Returned (d ∷ own) (makes tree n)
  on (Goes n) l = tt
  on (Ends n x) l = asked_left d own (making_ask m) asks ∙ tree_returns m n own d.answer (Ended x) (tree_stands tree own m went) fits l
  on (Stops n t) l = λ k.
      asked_left d own (making_ask m) asks ∙ tree_returns m n own d.answer (Stopped t) (tree_stands tree own m went) fits (λ other. l, λ e. absurd (k e)) k
part_returns (Page tree page m) own d next went asks fits leads = subst (Returned (d ∷ own)) (sym leads.2) (on leads.0 leads.1) where
  on : (n : Next Paging CkptAnswer) → PagingLeads m d.answer n → Returned (d ∷ own) (pages tree page n)
  on (Goes n) l = tt
  on (Ends n x) l = asked_left d own (paging_ask m) asks ∙ page_returns m n own d.answer (Ended x) (page_stands tree page own m went) fits l
  on (Stops n t) l = λ k.
      asked_left d own (paging_ask m) asks ∙ page_returns m n own d.answer (Stopped t) (page_stands tree page own m went) fits (λ other. l, λ e. absurd (k e)) k

-- calls behind some that left nothing leave what they leave by themselves
left_behind : (own rest : List Deed) → outstanding rest ≡ [] → outstanding (own ++ rest) ≡ outstanding own
left_behind [] rest none = none
left_behind (d ∷ own) rest none = ap (λ (cs : List Claim). outstanding_after d.ask d.answer cs) (left_behind own rest none)

runs_returned : (runs : List Run) (s : Settling) → Ran runs s → outstanding (deeds_of runs) ≡ []
runs_returned [] s ran = refl
runs_returned (r ∷ runs) s (from, ran, is, place, passes) =
    let fits : Fits (part_ask is.before) is.last.answer = subst (λ (q : Ask). Fits q is.last.answer) is.asked is.made.fits in
    let own : outstanding (is.last ∷ is.earlier) ≡ [] = part_returns is.before is.earlier is.last (Ends r.part 0) is.went is.asked fits is.ended in
    left_behind r.deeds (deeds_of runs) (runs_returned runs from ran) ∙ (ap outstanding is.deeds ∙ own)

abbrev NextReturned : List Deed → Step → Type 0
NextReturned h (Goes n) = Unit {0}
NextReturned h (Ends n x) = outstanding h ≡ []
NextReturned h (Stops n t) = t ≢ trouble.Memory → outstanding h ≡ []

so_returned : (h : List Deed) (next : Step) → outstanding h ≡ [] → NextReturned h next
so_returned h (Goes n) none = tt
so_returned h (Ends n x) none = none
so_returned h (Stops n t) none = λ k. none

next_returned : (h : List Deed) (d : Deed) (s : Settling) (next : Next Part ℕ) → Stands h s → d.ask ≡ settle_ask s → IsMade d → PartLeads s.part d.answer next
    → NextReturned (d ∷ h) (moved s next)
next_returned h d s next st asks made leads = on next (part_returns s.part st.own d next st.went asks (subst (λ (q : Ask). Fits q d.answer) asks made.fits) leads) where
  whole : outstanding (d ∷ st.own) ≡ [] → outstanding (d ∷ h) ≡ []
  whole none =
      ap (λ (g : List Deed). outstanding (d ∷ g)) st.all
      ∙ (left_behind (d ∷ st.own) (deeds_of st.runs) (runs_returned st.runs st.from st.ran) ∙ none)

  on : (x : Next Part ℕ) → Returned (d ∷ st.own) x → NextReturned (d ∷ h) (moved s x)
  on (Goes p) none = tt
  on (Ends p left) none = so_returned (d ∷ h) (ended_by (counted (with_part s p)) left) (whole none)
  on (Stops p t) none = λ k. whole (none k)

pub took_returns : (h : List Deed) (d : Deed) (s n : Settling) (turn : Turn Settled) → Stands h s → d.ask ≡ settle_ask s → IsMade d
    → Took SettleLeads KeepsSettling s d.answer n turn → AreReturned (d ∷ h) turn
took_returns h d s n More st asks made took = tt
took_returns h d s n (Ended x) st asks made took = subst (NextReturned (d ∷ h)) (sym took.2) (next_returned h d s took.0 st asks made took.1)
took_returns h d s n (Stopped t) st asks made took = λ k.
    let leads = took.0 k in
    subst (NextReturned (d ∷ h)) (sym leads.2) (next_returned h d s leads.0 st asks made leads.1) k

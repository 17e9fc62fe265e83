-- The parts that ran, and the calls of the part at work, along the calls of a settling.
use Rattle.std.proofs.Common.{◌≡◌, ◌+◌, ℕ, List, [], ◌∷◌, ◌++◌, length, refl, sym, subst, ap, ◌∙◌, arith, length-append}
use Rattle.settle_run.proofs.Words.{Deed, Ends, Goes, LeadsBy, Next, Stops, Took, CkptAnswer, Turn, Ended, More, Stopped, RecoverAnswer, Part, Client, Page, Tree, Settled}
use Rattle.cloud_trait.specs.Machine.{IsMade, Follows}
use Rattle.recover_run.specs.Recovery.{Recovery, recovery_next}
use Rattle.page_ckpt.specs.Paging.{Paging, PagingLeads}
use Rattle.tree_ckpt.specs.Making.{Making, MakingLeads}
use Rattle.settle_run.specs.Parts.{part_ask, part_again, recovers, makes, pages, PartLeads, PartWent}
use Rattle.settle_run.specs.Settling.{Settling, Step, new_settling, settle_ask, passed, counted, with_part, SettleLeads, KeepsSettling}
use Rattle.settle_run.specs.Meaning.{Went, Run, IsRun, behind, Ran, deeds_of, IsSettled, MeansTurn}
use Rattle.settle_run.proofs.End.{part_stays}
use Rattle.settle_run.proofs.Outcomes.{Passes, again, next_client, first_tree, first_page, right_page, round, next_tree, all_done, passes_by, Comes, goes, stops, leaves, ends, came_by}
use Rattle.settle_run.proofs.Wholes.{ran_whole}

-- ---- what comes next

-- what comes next has made no call, and passing on makes none; before an end or a stop the settling stays as it is
abbrev pub BeginsPart : Settling → Step → Type 0
BeginsPart s (Goes n) = PartWent [] n.part × (part_again n.part ≡ n.part) × (n.calls ≡ s.calls)
BeginsPart s (Ends n x) = (n ≡ s) × (x.calls ≡ s.calls)
BeginsPart s (Stops n t) = n ≡ s

begins_again : (s : Settling) (ids : List ℕ) (p : Part) → BeginsPart s (Goes (record s { part = part_again p; known = s.known ++ ids }))
begins_again s ids (Client client m) = (refl, refl, refl)
begins_again s ids (Tree tree m) = (refl, refl, refl)
begins_again s ids (Page tree page m) = (refl, refl, refl)

begins_by : (s : Settling) (next : Step) → Passes s next → BeginsPart s next
begins_by _ _ (again s id ids news) = begins_again s (id ∷ ids) s.part
begins_by _ _ (next_client s client m less) = (refl, refl, refl)
begins_by _ _ (first_tree s client m most) = (refl, refl, refl)
begins_by _ _ (first_page s tree m none) = (refl, refl, refl)
begins_by _ _ (right_page s tree page m right none link new) = (refl, refl, refl)
begins_by _ _ (round s tree page m right none link seen) = refl
begins_by _ _ (next_tree s tree page m none last less) = (refl, refl, refl)
begins_by _ _ (all_done s tree page m none last most) = (refl, refl)

pub begins_passed : (s : Settling) (next : Step) → passed s ≡ next → BeginsPart s next
begins_passed s next e = begins_by s next (passes_by s next e)

-- ---- the calls of a part

follows_own : (own rest : List Deed) (d : Deed) → Follows (own ++ rest) d → Follows own d
follows_own [] rest d f = tt
follows_own (x ∷ own) rest d f = f

-- a part that goes on made one call more, where a step leads on
abbrev Longer : List Deed → Deed → Next Part ℕ → Type 0
Longer own d (Goes q) = PartWent (d ∷ own) q
Longer own d (Ends q left) = Unit {0}
Longer own d (Stops q t) = Unit {0}

part_more : (p : Part) (own : List Deed) (d : Deed) (next : Next Part ℕ) → PartWent own p → d.ask ≡ part_ask p → IsMade d → Follows own d
    → PartLeads p d.answer next → Longer own d next
part_more (Client client m) own d next went ask made follows leads = subst (Longer own d) (sym leads.2) (on leads.0 leads.1) where
  on : (n : Next Recovery RecoverAnswer) → LeadsBy recovery_next m d.answer n → Longer own d (recovers client n)
  on (Goes n) l = (m, went, ask, made, l, follows)
  on (Ends n x) l = tt
  on (Stops n t) l = tt
part_more (Tree tree m) own d next went ask made follows leads = subst (Longer own d) (sym leads.2) (on leads.0 leads.1) where
  on : (n : Next Making CkptAnswer) → MakingLeads m d.answer n → Longer own d (makes tree n)
  on (Goes n) l = (m, went, ask, made, l, follows)
  on (Ends n x) l = tt
  on (Stops n t) l = tt
part_more (Page tree page m) own d next went ask made follows leads = subst (Longer own d) (sym leads.2) (on leads.0 leads.1) where
  on : (n : Next Paging CkptAnswer) → PagingLeads m d.answer n → Longer own d (pages tree page n)
  on (Goes n) l = (m, went, ask, made, l, follows)
  on (Ends n x) l = tt
  on (Stops n t) l = tt

-- ---- the whole

-- a settling behind its calls: the parts that ran, where it stood then, and the calls of the part at work since
pub record Stands (h : List Deed) (s : Settling) : Type 0 where
  pub runs : List Run
  pub from : Settling
  pub ran : Ran runs from
  pub own : List Deed
  pub went : PartWent own s.part
  pub place : part_again s.part ≡ from.part
  pub now : s ≡ record from { part = s.part; calls = from.calls + length own }
  pub all : h ≡ own ++ deeds_of runs
  pub counts : from.calls ≡ length (deeds_of runs)

stands_new : Stands [] new_settling
stands_new = record { runs = []; from = new_settling; ran = refl; own = []; went = refl; place = refl; now = refl; all = refl; counts = refl }

-- what a step leads to behind one more call
abbrev Grown : List Deed → Deed → Step → Type 0
Grown h d (Goes n) = Follows h d → Stands (d ∷ h) n
Grown h d (Ends n x) = IsSettled (d ∷ h) n x
Grown h d (Stops n t) = Unit {0}

module _ (h : List Deed) (d : Deed) (s : Settling) (st : Stands h s) (asked : d.ask ≡ settle_ask s) (made : IsMade d) where
  one_more : length st.own + 1 ≡ length (d ∷ st.own)
  one_more = omega arith

  -- the settling with its part behind the call
  now_with : (p : Part) → counted (with_part s p) ≡ record st.from { part = p; calls = st.from.calls + length (d ∷ st.own) }
  now_with p =
      let sum : st.from.calls + length st.own + 1 ≡ st.from.calls + length (d ∷ st.own) = omega (arith, one_more) in
      ap (λ (m : Settling). counted (with_part m p)) st.now ∙ ap (λ (c : ℕ). record st.from { part = p; calls = c }) sum

  own_follows : Follows h d → Follows st.own d
  own_follows follows = follows_own st.own (deeds_of st.runs) d (subst (λ (g : List Deed). Follows g d) st.all follows)

  all_with : d ∷ h ≡ (d ∷ st.own) ++ deeds_of st.runs
  all_with = ap (λ (g : List Deed). d ∷ g) st.all

  goes_stands : (p : Part) → Follows h d → PartLeads s.part d.answer (Goes p) → Stands (d ∷ h) (counted (with_part s p))
  goes_stands p follows leads = record {
    runs = st.runs;
    from = st.from;
    ran = st.ran;
    own = d ∷ st.own;
    went = part_more s.part st.own d (Goes p) st.went asked made (own_follows follows) leads;
    place = part_stays s.part d.answer (Goes p) leads ∙ st.place;
    now = now_with p;
    all = all_with;
    counts = st.counts;
  }

  -- the part that ended
  abbrev run_of : Part → Run
  run_of p = record { part = p; deeds = d ∷ st.own }

  run_is : (p : Part) → PartLeads s.part d.answer (Ends p 0) → IsRun (run_of p)
  run_is p leads = record { last = d; earlier = st.own; before = s.part; deeds = refl; went = st.went; asked = asked; made = made; ended = leads }

  passes_with : (p : Part) (next : Step) → passed (counted (with_part s p)) ≡ next → passed (behind st.from (run_of p)) ≡ next
  passes_with p next e = sym (ap passed (now_with p)) ∙ e

  -- as many calls as were counted
  counts_with : (calls : ℕ) → calls ≡ s.calls + 1 → calls ≡ length ((d ∷ st.own) ++ deeds_of st.runs)
  counts_with calls e =
      let both : length ((d ∷ st.own) ++ deeds_of st.runs) ≡ length (d ∷ st.own) + length (deeds_of st.runs) = length-append (d ∷ st.own) (deeds_of st.runs) in
      let then : s.calls ≡ st.from.calls + length st.own = ap (λ (m : Settling). m.calls) st.now in
      let before : st.from.calls ≡ length (deeds_of st.runs) = st.counts in
      omega (arith, both, then, before, e, one_more)

  ends_grown : (p : Part) (next : Step) → PartLeads s.part d.answer (Ends p 0) → passed (counted (with_part s p)) ≡ next → Grown h d next
  ends_grown p (Goes n) leads e = λ follows.
      let begun = begins_passed (counted (with_part s p)) (Goes n) e in
      let none : n.calls ≡ n.calls + 0 = omega arith in
      record {
        runs = run_of p ∷ st.runs;
        from = n;
        ran = (st.from, st.ran, run_is p leads, part_stays s.part d.answer (Ends p 0) leads ∙ st.place, passes_with p (Goes n) e);
        own = [];
        went = begun.0;
        place = begun.1;
        now = ap (λ (c : ℕ). record n { calls = c }) none;
        all = all_with;
        counts = counts_with n.calls begun.2;
      }
  ends_grown p (Ends n x) leads e =
      let place : part_again p ≡ st.from.part = part_stays s.part d.answer (Ends p 0) leads ∙ st.place in
      record {
        runs = st.runs;
        from = st.from;
        ran = st.ran;
        last = run_of p;
        ends = run_is p leads;
        place = place;
        passes = passes_with p (Ends n x) e;
        whole = ran_whole (run_of p) st.runs st.from n x st.ran place (passes_with p (Ends n x) e);
        all = all_with;
        counts = counts_with x.calls (begins_passed (counted (with_part s p)) (Ends n x) e).1 ∙ sym (ap length all_with);
      }
  ends_grown p (Stops n t) leads e = tt

  grown : (x : Next Part ℕ) (next : Step) → Comes s x next → PartLeads s.part d.answer x → Grown h d next
  grown _ _ (goes p) leads = λ follows. goes_stands p follows leads
  grown _ _ (stops p t) leads = tt
  grown _ _ (leaves p left some) leads = tt
  grown _ _ (ends p next is) leads = ends_grown p next leads is

  pub grown_by : (next : Step) → SettleLeads s d.answer next → Grown h d next
  grown_by next (x, leads, is) = grown x next (came_by s x next is) leads

pub went_stands : (h : List Deed) (s : Settling) → Went h s → Stands h s
went_stands [] s e = subst (Stands []) (sym e) stands_new
went_stands (d ∷ h) s w = grown_by h d w.0 (went_stands h w.0 w.1) w.2 w.3 (Goes s) w.4 w.5

-- the newest calls are those of the part at work
pub own_calls : (h : List Deed) (s : Settling) → Went h s → (own : List Deed) × PartWent own s.part
own_calls h s w = let st = went_stands h s w in (st.own, st.went)

-- what an answer says of all calls
pub took_means : (h : List Deed) (d : Deed) (s n : Settling) (turn : Turn Settled) → Stands h s → d.ask ≡ settle_ask s → IsMade d
    → Took SettleLeads KeepsSettling s d.answer n turn → MeansTurn (d ∷ h) n turn
took_means h d s n More st asked made took = tt
took_means h d s n (Ended x) st asked made took = grown_by h d s st asked made (Ends n x) took
took_means h d s n (Stopped t) st asked made took = tt

-- The right pages that a page checkpoint comes to: no page twice, each before a take of its lock; and it ends when its leases are given back.
use Rattle.std.proofs.Common.{◌≡◌, ◌≢◌, ◌⊎◌, inl, inr, ℕ, Bool, true, false, List, [], ◌∷◌, ◌++◌, Option, None, refl, sym, ap, subst}
use Rattle.std.specs.Prelude.{◌||◌, ◌==◌}
use Rattle.std.specs.List.{list_any}
use Rattle.std.proofs.lemmas.Bool.{eq-eqb}
use Rattle.cloud_facts.proofs.Copies.Tops.{any_of}
use Rattle.cloud_facts.specs.Words.{Trouble, Answer, Goes, Ends, Stops, Deed, IsIn}
use Rattle.cloud_facts.specs.Book.Records.{Apart}
use Rattle.cloud_trait.specs.Machine.{Came}
use Rattle.page_ckpt.specs.declared.link.Link.{Link}
use Rattle.page_ckpt.specs.declared.stage.Stage.TheVariants.{TakingRight, Releasing}
use Rattle.page_ckpt.specs.Paging.{Paging, Step, new_paging, paging_ask, PagingLeads}
use Rattle.page_ckpt.proofs.Outcomes.{Onward, Clears, Fails, Comes, comes}
use Rattle.page_ckpt.proofs.Outcomes as step
use Rattle.session_facts.proofs.Settling.Trees.Lists.{apart_more}

-- one page more, which was not among them
pub record OneMore (old new : List ℕ) : Type 0 where
  pub page : ℕ
  pub is : new ≡ old ++ page ∷ []
  pub fresh : list_any (λ (q : ℕ). q == page) old ≡ false

-- a step comes to one right page more, or to none; and where it ends, the leases were given back and no trouble waited
abbrev pub Visits : Paging → Step → Type 0
Visits p (Goes n) = (n.visited ≡ p.visited) ⊎ ((n.stage ≡ TakingRight) × OneMore p.visited n.visited)
Visits p (Ends n x) = (p.stage ≡ Releasing) × (p.trouble ≡ None) × (n.received ≡ p.received)
Visits p (Stops n t) = Unit {0}

or_second : (a b : Bool) → (a || b) ≡ false → b ≡ false
or_second true b e = absurd (cc (e))
or_second false b e = e

onward_same : {p q : Paging} {a : Answer} {o : Option Link} → Onward p a q o → q.visited ≡ p.visited
onward_same (step.with_run p first second ms i read some) = refl
onward_same (step.from_right p first second a) = refl

clears_same : {p q : Paging} {a : Answer} → Clears p a q → q.visited ≡ p.visited
clears_same (step.no_run p first second ms i read none) = refl
clears_same (step.home_put p first second) = refl
clears_same (step.one_tried p first second a) = refl

fails_same : {p q : Paging} {a : Answer} {t : Trouble} → Fails p a q t → q.visited ≡ p.visited
fails_same (step.round link on seen) = onward_same on
fails_same (step.home_spent on spent) = onward_same on
fails_same f = refl

visits : {p : Paging} {a : Answer} {next : Step} → Comes p a next → Visits p next
visits (step.stops q t f) = inl (fails_same f)
visits (step.turns q link on new) =
    inr (
      refl,
      record {
        page = link.page;
        is = ap (λ (vs : List ℕ). vs ++ link.page ∷ []) (onward_same on);
        fresh =
            subst (λ (vs : List ℕ). list_any (λ (x : ℕ). x == link.page) vs ≡ false) (onward_same on)
            (or_second (link.page == q.page) (list_any (λ (x : ℕ). x == link.page) q.visited) new);
      },
    )
visits (step.puts_home q out on fresh is) = inl (onward_same on)
visits (step.deletes q id c some) = inl (clears_same c)
visits (step.rests q c none) = inl (clears_same c)
visits (step.ends p first second a last none) = (refl, none, refl)
visits (step.refused p first second a t e) = tt
visits (step.stopped p first second a t last kept) = tt
visits (step.nothing p first second a) = tt
visits c = inl refl

pub step_visits : (p : Paging) (a : Answer) (next : Step) → PagingLeads p a next → Visits p next
step_visits p a next leads = visits (comes p a next leads)

-- ---- no page twice

more_apart : (old new : List ℕ) → Apart old → OneMore old new → Apart new
more_apart old new apart more = subst Apart (sym more.is) (apart_more old more.page apart other)
  where
    never : (b : Bool) → b ≡ true → b ≡ false → ⊥
    never b e f = absurd (cc (e, f))

    other : (y : ℕ) → IsIn old y → y ≢ more.page
    other y there same =
        never (list_any (λ (q : ℕ). q == more.page) old) (any_of (λ (q : ℕ). q == more.page) old there.0 y there.1 (eq-eqb y more.page same)) more.fresh

pub came_apart : (tree page : ℕ) (h : List Deed) (p : Paging) → Came paging_ask PagingLeads (new_paging tree page) h p → Apart p.visited
came_apart tree page [] p came = subst (λ (q : Paging). Apart q.visited) (sym came) tt
came_apart tree page (d ∷ h) p came = on (step_visits came.0 d.answer (Goes p) came.4) (came_apart tree page h came.0 came.1)
  where
    on : Visits came.0 (Goes p) → Apart came.0.visited → Apart p.visited
    on (inl same) apart = subst Apart (sym same) apart
    on (inr more) apart = more_apart came.0.visited p.visited apart more.1

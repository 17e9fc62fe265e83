-- A page checkpoint stays with its tree and its page.
use Rattle.std.proofs.Common.{◌≡◌, Option, refl}
use Rattle.cloud_facts.specs.Words.{Trouble, Answer, Goes, Ends, Stops}
use Rattle.page_ckpt.specs.declared.link.Link.{Link}
use Rattle.page_ckpt.specs.Paging.{Paging, Step, PagingLeads}
use Rattle.page_ckpt.proofs.Outcomes.{Onward, Clears, Fails, Comes, comes}
use Rattle.page_ckpt.proofs.Outcomes as step

abbrev IsOfPage : Paging → Paging → Type 0
IsOfPage p q = (q.tree ≡ p.tree) × (q.page ≡ p.page)

-- where a step goes on, it is at the page of the checkpoint
abbrev pub StaysAtPage : Paging → Step → Type 0
StaysAtPage p (Goes n) = IsOfPage p n
StaysAtPage p (Ends n x) = Unit {0}
StaysAtPage p (Stops n t) = Unit {0}

onward_of : {p q : Paging} {a : Answer} {o : Option Link} → Onward p a q o → IsOfPage p q
onward_of (step.with_run p first second ms i read some) = (refl, refl)
onward_of (step.from_right p first second a) = (refl, refl)

clears_of : {p q : Paging} {a : Answer} → Clears p a q → IsOfPage p q
clears_of (step.no_run p first second ms i read none) = (refl, refl)
clears_of (step.home_put p first second) = (refl, refl)
clears_of (step.one_tried p first second a) = (refl, refl)

fails_of : {p q : Paging} {a : Answer} {t : Trouble} → Fails p a q t → IsOfPage p q
fails_of (step.round link on seen) = onward_of on
fails_of (step.home_spent on spent) = onward_of on
fails_of f = (refl, refl)

stays : {p : Paging} {a : Answer} {next : Step} → Comes p a next → StaysAtPage p next
stays (step.stops q t f) = fails_of f
stays (step.turns q link on new) = onward_of on
stays (step.puts_home q out on fresh is) = onward_of on
stays (step.deletes q id c some) = clears_of c
stays (step.rests q c none) = clears_of c
stays (step.refused p first second a t e) = tt
stays (step.ends p first second a last none) = tt
stays (step.stopped p first second a t last kept) = tt
stays (step.nothing p first second a) = tt
stays c = (refl, refl)

pub paging_stays : (p : Paging) (a : Answer) (next : Step) → PagingLeads p a next → StaysAtPage p next
paging_stays p a next leads = stays (comes p a next leads)

-- a checkpoint that goes on is one of the same page
pub same_page : (p new : Paging) (a : Answer) → PagingLeads p a (Goes new) → (new.tree ≡ p.tree) × (new.page ≡ p.page)
same_page p new a leads = paging_stays p a (Goes new) leads

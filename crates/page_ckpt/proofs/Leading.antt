-- Laws of where a step leads.
use Rattle.std.proofs.Common.{◌≡◌, ℕ, List, Option, Result, Ok, Err, refl, subst, ap, ◌∙◌}
use Rattle.db_base.specs.declared.trouble.Trouble.{Trouble}
use Rattle.leaf_view.specs.Leaf.{Leaf}
use Rattle.cloud_trait.specs.declared.answer.Answer.{Answer}
use Rattle.cloud_trait.specs.declared.turn.CkptAnswer.{CkptAnswer}
use Rattle.cloud_trait.specs.declared.turn.Turn.{Turn}
use Rattle.cloud_trait.specs.declared.turn.Turn.TheVariants.{More, Ended, Stopped}
use Rattle.cloud_trait.specs.Machine.{Goes, Ends, Stops, Took}
use Rattle.ckpt_parts.specs.Leaves.{HoldsLinked}
use Rattle.page_ckpt.specs.declared.stage.Stage.TheVariants.{Receiving}
use Rattle.page_ckpt.specs.Paging.{Paging, leaf_or_empty, found_home, stopping, HoldsNamed, HomeGot, RightGot, RightRead, Absorbs, PagingLeads, SameLeases, KeepsLeases, handed}

-- the page that a get brought is kept
pub home_took : (p : Paging) (got : Option (List ℕ)) (home : Option Leaf) → HoldsNamed p.tree p.page got (found_home (Ok home))
    → HomeGot p (Ok got) (Goes (record p { stage = Receiving; home = leaf_or_empty home }))
home_took p got home h = (Ok (leaf_or_empty home), h, refl)

-- a step from the leaf of a right page, or from what is wrong with it, is one from the get that brought it
pub right_took : (p n : Paging) (a : Answer) (turn : Turn CkptAnswer) (got : Option (List ℕ)) (found : Result Leaf Trouble)
    → HoldsLinked p.tree p.at.page p.at.low got found
    → Took (λ q x next. RightRead q found next) SameLeases p a n turn → Took (λ q x next. RightGot q (Ok got) next) SameLeases p a n turn
right_took p n a More got found holds h = (found, holds, h)
right_took p n a (Ended x) got found holds h = (found, holds, h)
right_took p n a (Stopped t) got found holds h = (λ k. (found, holds, h.0 k), h.1)

right_stops : (p n : Paging) (a : Answer) (turn : Turn CkptAnswer) (t : Trouble)
    → Took (λ q x next. next ≡ stopping q t) SameLeases p a n turn → Took (λ q x next. RightRead q (Err t) next) SameLeases p a n turn
right_stops p n a More t h = h
right_stops p n a (Ended x) t h = h
right_stops p n a (Stopped u) t h = h

pub right_stopped : (p n : Paging) (a : Answer) (turn : Turn CkptAnswer) (got : Option (List ℕ)) (t : Trouble)
    → HoldsLinked p.tree p.at.page p.at.low got (Err t)
    → Took (λ q x next. next ≡ stopping q t) SameLeases p a n turn → Took (λ q x next. RightGot q (Ok got) next) SameLeases p a n turn
right_stopped p n a turn got t holds h = right_took p n a turn got (Err t) holds (right_stops p n a turn t h)

-- a step of the machine without the lease that is given back is one of the machine with it
pub took_handed : (old mid new : Paging) (a : Answer) (turn : Turn CkptAnswer) → mid ≡ handed old
    → Took Absorbs SameLeases mid a new turn → Took PagingLeads KeepsLeases old a new turn
took_handed old mid new a More e h = subst (λ (m : Paging). Absorbs m a (Goes new)) e h
took_handed old mid new a (Ended x) e h = subst (λ (m : Paging). Absorbs m a (Ends new x)) e h
took_handed old mid new a (Stopped t) e h =
    (λ k. subst (λ (m : Paging). Absorbs m a (Stops new t)) e (h.0 k), λ k. h.1 k ∙ ap (λ (m : Paging). m.held) e)

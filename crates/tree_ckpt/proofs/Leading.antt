-- A step of the code is one of the machine.
use Rattle.std.proofs.Common.{◌≡◌, ℕ, refl, sym, subst, ap, ◌∙◌}
use Rattle.tree_ckpt.specs.declared.work.Work.TheVariants.{Finished}
use Rattle.tree_ckpt.specs.Work.{claims_in, handed}
use Rattle.tree_ckpt.specs.Moves.{Absorbs, MovesTo}
use Rattle.tree_ckpt.specs.Making.{Making, with_received, with_work, handed_over, AbsorbsBy, WentBy, SameLeases, MakingLeads, KeepsLeases}
use Rattle.tree_ckpt.proofs.Words.{Answer, CkptAnswer, Turn, More, Ended, Stopped, Goes, Ends, Stops, Took, Work}

-- where the work goes, the checkpoint goes
pub went_by : (old mid new : Making) (a : Answer) (tree : ℕ) (w v : Work) (turn : Turn CkptAnswer) → tree ≡ old.tree → w ≡ old.work → mid ≡ with_work old Finished
    → new ≡ with_work mid v → MovesTo (Absorbs tree w a) (claims_in w) v turn → WentBy old a new turn
went_by old mid new a tree w v turn t e left kept moved =
    let made : new ≡ with_work old v = kept ∙ ap (λ (m : Making). with_work m v) left in
    let stands : v ≡ new.work = sym (ap (λ (m : Making). m.work) made) in
    let by_tree : MovesTo (Absorbs old.tree w a) (claims_in w) v turn = subst (λ (n : ℕ). MovesTo (Absorbs n w a) (claims_in w) v turn) t moved in
    let by_work : MovesTo (Absorbs old.tree old.work a) (claims_in old.work) v turn = subst (λ (x : Work). MovesTo (Absorbs old.tree x a) (claims_in x) v turn) e by_tree in
    (made ∙ ap (with_work old) stands, subst (λ (x : Work). MovesTo (Absorbs old.tree old.work a) (claims_in old.work) x turn) stands by_work)

took_plain : (m : Making) (a : Answer) (w : Work) (turn : Turn CkptAnswer) → MovesTo (Absorbs m.tree m.work a) (claims_in m.work) w turn
    → Took AbsorbsBy SameLeases m a (with_work (with_received m a) w) turn
took_plain m a w More h = ((refl, refl), h)
took_plain m a w (Ended x) h = ((refl, refl), h)
took_plain m a w (Stopped t) h = (λ k. ((refl, refl), h.0 k), h.1)

-- after the ids were noted
pub took_noted : (old noted new : Making) (a : Answer) (turn : Turn CkptAnswer) → noted ≡ with_received old a → WentBy noted a new turn
    → Took AbsorbsBy SameLeases old a new turn
took_noted old noted new a turn e went =
    let all : WentBy (with_received old a) a new turn = subst (λ (m : Making). WentBy m a new turn) e went in
    subst (λ (n : Making). Took AbsorbsBy SameLeases old a n turn) (sym all.0) (took_plain old a new.work turn all.1)

-- a step of the machine without the lease that is given back is one of the machine with it
pub took_handed : (old mid new : Making) (a : Answer) (turn : Turn CkptAnswer) → mid ≡ handed_over old → Took AbsorbsBy SameLeases mid a new turn
    → Took MakingLeads KeepsLeases old a new turn
took_handed old mid new a More e h = subst (λ (m : Making). AbsorbsBy m a (Goes new)) e h
took_handed old mid new a (Ended x) e h = subst (λ (m : Making). AbsorbsBy m a (Ends new x)) e h
took_handed old mid new a (Stopped t) e h =
    (λ k. subst (λ (m : Making). AbsorbsBy m a (Stops new t)) e (h.0 k), λ k. h.1 k ∙ ap (λ (m : Making). claims_in m.work) e)

-- a call of the work in hand is one of the checkpoint
pub called_left : (old mid new : Making) (v : Work) → mid ≡ with_work old Finished → new ≡ with_work mid v → (w : Work) → w ≡ old.work → v ≡ handed w → new ≡ handed_over old
called_left old mid new v left kept w e f =
    kept ∙ ap (λ (m : Making). with_work m v) left ∙ ap (with_work old) (f ∙ ap handed e)

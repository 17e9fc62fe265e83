-- A page checkpoint stops for a trouble exactly where an answer shows it.
use Rattle.std.specs.Prelude.{ℕ, ◌≡◌, ◌≢◌, List, [], ◌∷◌, Option, Some, Ok, ◌⊎◌}
use Rattle.db_base.specs.declared.names.ObjName.TheVariants as object
use Rattle.db_base.specs.declared.trouble.Trouble.{Trouble}
use Rattle.db_base.specs.declared.trouble.Trouble.TheVariants as trouble
use Rattle.cloud_trait.specs.declared.answer.Answer.TheVariants as call
use Rattle.cloud_trait.specs.declared.turn.CkptAnswer.{CkptAnswer}
use Rattle.cloud_trait.specs.declared.turn.Turn.{Turn}
use Rattle.cloud_trait.specs.declared.turn.Turn.TheVariants.{More, Ended, Stopped}
use Rattle.leaf_view.specs.Leaf.{Leaf}
use Rattle.cloud_trait.specs.Ask.{GetHeld}
use Rattle.cloud_trait.specs.Claim.{Claim}
use Rattle.ckpt_parts.specs.Leaves.{HoldsLinked}
use Rattle.page_ckpt.specs.declared.stage.Stage.TheVariants.{Receiving, ReleasingRight}
use Rattle.page_ckpt.specs.Links.{TakesLink}
use Rattle.page_ckpt.specs.Paging.{Paging, HoldsNamed}
use Rattle.page_ckpt.specs.Meaning.{Calls}

-- ---- what the calls brought

-- a held get of the page of the tree brought this; None where it is absent
abbrev pub WasGot : ℕ → ℕ → Option (List ℕ) → Calls → Type 0
WasGot tree page got [] = ⊥
WasGot tree page got (c ∷ cs) = ((l : Claim) × (c ≡ (GetHeld (object.Page tree page) l, call.Got got))) ⊎ WasGot tree page got cs

-- the page as it was read is what a held get of it brought
abbrev pub HomeWasGot : Paging → Calls → Type 0
HomeWasGot p cs = (got : Option (List ℕ)) × WasGot p.tree p.page got cs × HoldsNamed p.tree p.page got (Ok p.home)

-- the link that leads on from the right page in hand is that of the leaf which a held get of it brought
abbrev pub OnwardWasGot : Paging → Calls → Type 0
OnwardWasGot p cs =
    (got : Option (List ℕ)) × ((l : Leaf) × WasGot p.tree p.at.page got cs × HoldsLinked p.tree p.at.page p.at.low got (Ok l)
    × TakesLink l p.run.items p.onward)

-- so they are where a link may lead on
abbrev pub WasBrought : Paging → Calls → Type 0
WasBrought p cs = (p.stage ≡ Receiving → HomeWasGot p cs) × (p.stage ≡ ReleasingRight → HomeWasGot p cs × OnwardWasGot p cs)

-- ---- a step

-- the trouble is kept while leases are given back, and then it is answered, unless memory ran out
abbrev pub Owes : Paging → Turn CkptAnswer → Trouble → Type 0
Owes n More t = n.trouble ≡ Some t
Owes n (Ended answer) t = ⊥
Owes n (Stopped u) t = u ≢ trouble.Memory → u ≡ t

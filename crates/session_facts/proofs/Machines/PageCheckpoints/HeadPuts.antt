-- A page checkpoint puts no head.
use Rattle.std.proofs.Common.{◌≡◌, ℕ, Bool, true, false, List, Option, Some, None, refl, sym, ap, ◌∙◌}
use Rattle.ckpt_parts.specs.Deleting.{next_id}
use Rattle.ckpt_parts.specs.Leasing.{newest_lease}
use Rattle.cloud_facts.specs.Words.{ObjName, Claim, Ask, GetHeld, PutHeld, Release}
use Rattle.db_base.specs.declared.names.ObjName.TheVariants as object
use Rattle.page_ckpt.specs.Paging.{Paging, ask_at, paging_ask, under, delete_next, home_name, right_name}
use Rattle.page_ckpt.specs.declared.stage.Stage.{Stage}
use Rattle.page_ckpt.specs.declared.stage.Stage.TheVariants.{TakingHome, GettingHome, Receiving, TakingRight, GettingRight, PuttingRight, ReleasingRight, PuttingHome, Deleting as DeletingNext, Releasing, Finished}

abbrev is_head : ObjName → Bool
is_head (object.Head client) = true
is_head (object.Tree tree) = false
is_head (object.Page tree page) = false

abbrev puts_head : Ask → Bool
puts_head (PutHeld name bytes one two) = is_head name
puts_head ask = false

under_none : (p : Paging) (o : Option Claim) (make : Claim → Ask) → ((l : Claim) → puts_head (make l) ≡ false) → puts_head (under p o make) ≡ false
under_none p (Some l) make none = none l
under_none p None make none = refl

delete_none : (p : Paging) (o : Option ℕ) → puts_head (delete_next p o) ≡ false
delete_none p (Some id) = refl
delete_none p None = refl

asks_none : (p : Paging) (stage : Stage) → puts_head (ask_at stage p) ≡ false
asks_none p TakingHome = refl
asks_none p GettingHome = under_none p p.held.first (λ l. GetHeld (home_name p) l) (λ l. refl)
asks_none p Receiving = refl
asks_none p TakingRight = refl
asks_none p GettingRight = under_none p p.held.second (λ l. GetHeld (right_name p) l) (λ l. refl)
asks_none p PuttingRight =
    under_none p p.held.first (λ l. under p p.held.second (λ r. PutHeld (right_name p) p.out l (Some r)))
    (λ l. under_none p p.held.second (λ r. PutHeld (right_name p) p.out l (Some r)) (λ r. refl))
asks_none p ReleasingRight = under_none p p.held.second Release (λ l. refl)
asks_none p PuttingHome = under_none p p.held.first (λ l. PutHeld (home_name p) p.out l None) (λ l. refl)
asks_none p DeletingNext = delete_none p (next_id p.deletions.ids)
asks_none p Releasing = under_none p (newest_lease p.held) Release (λ l. refl)
asks_none p Finished = refl

pub paging_puts_none : (p : Paging) (client : ℕ) (bytes : List ℕ) (one : Claim) (two : Option Claim) → paging_ask p ≡ PutHeld (object.Head client) bytes one two → ⊥
paging_puts_none p client bytes one two e = never (sym (ap puts_head e) ∙ asks_none p p.stage)
  where
    never : true ≡ false → ⊥
    never q = cc

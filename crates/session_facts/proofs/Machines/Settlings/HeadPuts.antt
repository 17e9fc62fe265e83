-- The puts of heads that a settling has in hand.
use Rattle.std.proofs.Common.{◌≡◌, ℕ, Bool, true, false, List, [], ◌∷◌, Option, Some, None, refl, sym, ap, subst, ◌∙◌}
use Rattle.std.specs.Prelude.{unwrap_or}
use Rattle.ckpt_parts.specs.Deleting.{next_id}
use Rattle.ckpt_parts.specs.Leasing.{newest_lease}
use Rattle.cloud_facts.specs.Words.{ObjName, Claim, Ask, GetHeld, PutHeld, Store}
use Rattle.db_base.specs.declared.names.ObjName.TheVariants as object
use Rattle.cloud_facts.specs.Homes.Homes.{Part}
use Rattle.session_facts.proofs.Machines.Openings.HeadPuts.{opening_puts}
use Rattle.session_facts.proofs.Machines.PageCheckpoints.HeadPuts.{paging_puts_none}
use Rattle.settle_run.specs.declared.part.Part.{Part as AtWork}
use Rattle.settle_run.specs.declared.part.Part.TheVariants.{Client, Tree, Page}
use Rattle.settle_run.specs.Parts.{part_ask, IsSoundPart}
use Rattle.settle_run.specs.Settling.{Settling, settle_ask}
use Rattle.session_facts.specs.Machines.Settlings.HeadPuts.{IsAtClient, PutsHead}
use Rattle.session_facts.specs.Machines.Settlings.Knows.{KnowsAtWork, KnowsSettling}
use Rattle.split_plan.specs.declared.put_list.PagePut.{PagePut}
use Rattle.tree_ckpt.specs.Making.{Making, making_ask}
use Rattle.tree_ckpt.specs.declared.work.Work.{Work}
use Rattle.tree_ckpt.specs.declared.work.Work.TheVariants.{TakingTree, GettingTree, Receiving, Descending, TakingPage, Folding, ReleasingPage, LeftPage, Rising, Deleting, Releasing, Finished}
use Rattle.tree_ckpt.specs.Work.{delete_ask, release_ask, work_ask}
use Rattle.tree_phases.specs.declared.placing.Placing.{Placing}
use Rattle.tree_phases.specs.Placing.{put_first, put_next, put_in_hand}
use Rattle.tree_phases.specs.declared.rising.Rising.{Rising as Up}
use Rattle.tree_phases.specs.Rising.{last_ask}

-- ---- a tree checkpoint puts no head

abbrev is_head : ObjName → Bool
is_head (object.Head client) = true
is_head (object.Tree tree) = false
is_head (object.Page tree page) = false

abbrev puts_head : Ask → Bool
puts_head (PutHeld name bytes one two) = is_head name
puts_head ask = false

delete_none : (tree : ℕ) (id : Option ℕ) → puts_head (delete_ask tree id) ≡ false
delete_none tree (Some id) = refl
delete_none tree None = refl

release_none : (tree : ℕ) (l : Option Claim) → puts_head (release_ask tree l) ≡ false
release_none tree (Some l) = refl
release_none tree None = refl

-- what is to be put are the tree object and pages
placing_none : (p : Placing) (tree : ℕ) (l : Claim) (second : Option Claim) (last : Ask) → puts_head last ≡ false → puts_head (unwrap_or (put_in_hand p tree l second) last) ≡ false
placing_none p tree l second last none = on p.reserved p.puts
  where
    on : (reserved : Option (List ℕ)) (puts : List PagePut) → puts_head (unwrap_or (put_first tree l (put_next tree l second puts) reserved) last) ≡ false
    on (Some bytes) puts = refl
    on None (x ∷ puts) = refl
    on None [] = none

last_none : (r : Up) (l : Claim) (bytes : Option (List ℕ)) → puts_head (last_ask r l bytes) ≡ false
last_none r l (Some bytes) = refl
last_none r l None = refl

work_none : (tree : ℕ) (w : Work) → puts_head (work_ask tree w) ≡ false
work_none tree TakingTree = refl
work_none tree (GettingTree l) = refl
work_none tree (Receiving l root) = refl
work_none tree (Descending h d) = refl
work_none tree (TakingPage h c) = refl
work_none tree (Folding h f) = placing_none f.placing f.chart.tree h.lease (Some f.lease) (GetHeld (object.Page f.chart.tree f.page) f.lease) refl
work_none tree (ReleasingPage h l o) = refl
work_none tree (LeftPage h o) = refl
work_none tree (Rising h r) = placing_none r.placing r.chart.tree h.lease None (last_ask r h.lease r.last) (last_none r h.lease r.last)
work_none tree (Deleting h applied) = delete_none tree (next_id h.deletions.ids)
work_none tree (Releasing held end) = release_none tree (newest_lease held)
work_none tree Finished = refl

pub making_puts_none : (m : Making) (client : ℕ) (bytes : List ℕ) (one : Claim) (two : Option Claim) → making_ask m ≡ PutHeld (object.Head client) bytes one two → ⊥
making_puts_none m client bytes one two e = never (sym (ap puts_head e) ∙ work_none m.tree m.work)
  where
    never : true ≡ false → ⊥
    never q = cc

-- ---- the whole

-- a put of a head in hand is that of a recovery, and of a head that is settled
pub settling_puts : (st : Store) (now : ℕ) (s : Settling) (part : Part) (client : ℕ) (bytes : List ℕ) (one : Claim) (two : Option Claim) → KnowsSettling st now s part → IsSoundPart s.part
    → settle_ask s ≡ PutHeld (object.Head client) bytes one two → PutsHead s client bytes
settling_puts st now s part client bytes one two k sound e = on s.part refl k.work sound e
  where
    on : (w : AtWork) → s.part ≡ w → KnowsAtWork st now w part → IsSoundPart w → part_ask w ≡ PutHeld (object.Head client) bytes one two → PutsHead s client bytes
    on (Client other m) is k sound e =
        let p = opening_puts st now m part client bytes one two k.knows sound e in
        record { head = p.head; spells = p.spells; client_is = subst (λ w. IsAtClient w client) (sym is) (sym k.client_is ∙ p.client_is); settled = p.settled }
    on (Tree tree m) is k sound e = absurd (making_puts_none m client bytes one two e)
    on (Page tree page m) is k sound e = absurd (paging_puts_none m client bytes one two e)

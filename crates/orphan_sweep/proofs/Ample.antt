-- A step of a sweep keeps no want of memory, and it wants none once the pages are listed.
use Rattle.std.proofs.Common.{◌≡◌, ◌≢◌, ℕ, Bool, true, false, cond, List, Option, Some, None, Result, Ok, Err, refl, sym, subst, ◌∙◌, arith}
use Rattle.std.specs.Prelude.{◌==◌}
use Rattle.db_base.specs.declared.trouble.Trouble.TheVariants as trouble
use Rattle.byte_format.specs.Order.{bytes_same}
use Rattle.byte_format.specs.Whole.{whole, offset}
use Rattle.leaf_view.specs.Leaf.{Leaf, leaf}
use Rattle.leaf_view.specs.Lookup.{empty_leaf}
use Rattle.node_codec.specs.Inner.{Inner, inner_of, inner_format}
use Rattle.node_codec.specs.Tree.{tree_of}
use Rattle.cloud_trait.specs.declared.answer.Answer.TheVariants as call
use Rattle.tree_phases.specs.Read.{damaged, leaf_or, inner_or}
use Rattle.orphan_sweep.specs.Ample.{IsAmple, IsRefusal, HasList, WantsMemory}
use Rattle.orphan_sweep.specs.Leases.{HoldsAt}
use Rattle.orphan_sweep.specs.Pages.{root_or, root_held, leaf_paths, inner_paths, leaf_held, inner_held, leaf_at, inner_at, paths_of}
use Rattle.orphan_sweep.specs.Sweeping.{Sweeping, Step, handed, sweep_next, KeepsLease}
use Rattle.orphan_sweep.proofs.Lists.{within}
use Rattle.orphan_sweep.proofs.Outcomes.{Clears, Fails, Comes, came_by}
use Rattle.orphan_sweep.proofs.Outcomes as step
use Rattle.orphan_sweep.proofs.Words.{Trouble, Answer, Turn, More, Ended, Stopped, Goes, Ends, Stops, LeadsBy, Took, got_of, listed_of, done_of, Tree, Paths, Spot, Stage, Removing, Releasing, Swept}

-- ---- what is read is never want of memory

abbrev Reads : {A : Type 0} → Result A Trouble → Type 0
Reads (Ok x) = Unit {0}
Reads (Err t) = t ≢ trouble.Memory

err_reads : {A : Type 0} (r : Result A Trouble) → Reads r → (t : Trouble) → r ≡ Err t → t ≡ trouble.Memory → ⊥
err_reads {A = A} r reads t e same = subst (λ (x : Result A Trouble). Reads x) e reads same

root_reads : (tree : ℕ) (got : Option (List ℕ)) → Reads (root_held tree got)
root_reads tree None = tt
root_reads tree (Some bytes) = on (tree_of bytes) where
  on : (o : Option Tree) → Reads (root_or tree bytes o)
  on (Some root) = tt
  on None = λ e. cc (e)

fence_reads : (s : Spot) (low : List ℕ) (paths : Paths) (b : Bool) → Reads (cond b (Ok paths) (Err (trouble.BadFence s.page s.low low)))
fence_reads s low paths true = tt
fence_reads s low paths false = λ e. cc (e)

leaf_reads : (s : Spot) (r : Result Leaf Trouble) → Reads r → Reads (leaf_at s r)
leaf_reads s (Ok l) reads = fence_reads s l.low (leaf_paths l) (bytes_same s.low l.low)
leaf_reads s (Err t) reads = reads

held_leaf_reads : (tree page : ℕ) (got : Option (List ℕ)) → Reads (leaf_held tree page got)
held_leaf_reads tree page None = on (page == 1) where
  on : (b : Bool) → Reads {A = Leaf} (cond b (Ok empty_leaf) (Err (trouble.Absent page)))
  on true = tt
  on false = λ e. cc (e)
held_leaf_reads tree page (Some bytes) = on (whole leaf bytes) where
  on : (r : Result Leaf ℕ) → Reads (leaf_or tree page (offset leaf bytes) r)
  on (Ok l) = tt
  on (Err left) = λ e. cc (e)

level_reads : (tree : ℕ) (s : Spot) (n : Inner) (b : Bool)
    → Reads (cond b (cond (bytes_same s.low n.low) (Ok (inner_paths n)) (Err (trouble.BadFence s.page s.low n.low))) (Err (damaged tree s.page 10)))
level_reads tree s n true = fence_reads s n.low (inner_paths n) (bytes_same s.low n.low)
level_reads tree s n false = λ e. cc (e)

inner_reads : (tree : ℕ) (s : Spot) (r : Result Inner Trouble) → Reads r → Reads (inner_at tree s r)
inner_reads tree s (Ok n) reads = level_reads tree s n (n.level == s.level)
inner_reads tree s (Err t) reads = reads

held_inner_reads : (tree page : ℕ) (got : Option (List ℕ)) → Reads (inner_held tree page got)
held_inner_reads tree page None = on (page == 1) where
  on : (b : Bool) → Reads {A = Inner} (Err (cond b (damaged tree page 0) (trouble.Absent page)))
  on true = λ e. cc (e)
  on false = λ e. cc (e)
held_inner_reads tree page (Some bytes) = on (inner_of bytes) where
  on : (o : Option Inner) → Reads (inner_or tree page (offset inner_format bytes) o)
  on (Some n) = tt
  on None = λ e. cc (e)

page_reads : (tree : ℕ) (s : Spot) (got : Option (List ℕ)) → Reads (paths_of tree s got)
page_reads tree s got = on (s.level == 0) where
  on : (b : Bool) → Reads (cond b (leaf_at s (leaf_held tree s.page got)) (inner_at tree s (inner_held tree s.page got)))
  on true = leaf_reads s (leaf_held tree s.page got) (held_leaf_reads tree s.page got)
  on false = inner_reads tree s (inner_held tree s.page got) (held_inner_reads tree s.page got)

-- ---- no answer but want of memory is told as that

got_other : (a : Answer) → a ≢ call.Memory → got_of a ≡ Err trouble.Memory → ⊥
got_other call.Memory other e = other refl
got_other (call.Late end now) other e = cc (e)
got_other (call.Got v) other e = cc (e)
got_other a other e = cc (e)

listed_other : (a : Answer) → a ≢ call.Memory → listed_of a ≡ Err trouble.Memory → ⊥
listed_other call.Memory other e = other refl
listed_other (call.Late end now) other e = cc (e)
listed_other (call.Listed pages) other e = cc (e)
listed_other a other e = cc (e)

done_other : (a : Answer) → a ≢ call.Memory → done_of a ≡ Err trouble.Memory → ⊥
done_other call.Memory other e = other refl
done_other (call.Late end now) other e = cc (e)
done_other call.Done other e = cc (e)
done_other a other e = cc (e)

fails_other : {s : Sweeping} {a : Answer} {t : Trouble} → a ≢ call.Memory → Fails s a t → t ≡ trouble.Memory → ⊥
fails_other other (step.no_root s held a t e) same = got_other a other (subst (λ (u : Trouble). got_of a ≡ Err u) same e)
fails_other other (step.no_page s held a t e) same = got_other a other (subst (λ (u : Trouble). got_of a ≡ Err u) same e)
fails_other other (step.no_list s held a t e) same = listed_other a other (subst (λ (u : Trouble). listed_of a ≡ Err u) same e)
fails_other other (step.not_removed s held a t e) same = done_other a other (subst (λ (u : Trouble). done_of a ≡ Err u) same e)
fails_other other (step.bad_root s held got t e) same = err_reads (root_held s.tree got) (root_reads s.tree got) t e same
fails_other other (step.bad_page s held got t e) same = err_reads (paths_of s.tree s.at got) (page_reads s.tree s.at got) t e same
fails_other other (step.round spot on seen) same = cc (same)

-- ---- a step

clears_trouble : {s q : Sweeping} {a : Answer} → Clears s a q → q.trouble ≡ s.trouble
clears_trouble (step.listed s held pages) = refl
clears_trouble (step.removed s held) = refl

abbrev KeepsNone : Sweeping → Step → Type 0
KeepsNone s (Goes n) = n.trouble ≡ Some trouble.Memory → s.trouble ≡ Some trouble.Memory
KeepsNone s (Ends n x) = Unit {0}
KeepsNone s (Stops n t) = Unit {0}

keeps_none : {s : Sweeping} {a : Answer} {next : Step} → a ≢ call.Memory → Comes s a next → KeepsNone s next
keeps_none other (step.takes s held l) = λ k. k
keeps_none other (step.refused s held a t e) = tt
keeps_none other (step.stops t fails) = λ k. absurd (fails_other other fails (let same : t ≡ trouble.Memory = cc (k) in same))
keeps_none other (step.reads_on spot on new) = λ k. k
keeps_none other (step.has_read on) = λ k. k
keeps_none other (step.removes q page c e) = λ k. sym (clears_trouble c) ∙ k
keeps_none other (step.rests q c e) = λ k. sym (clears_trouble c) ∙ k
keeps_none other (step.ends s held a e) = tt
keeps_none other (step.stopped s held a t e) = tt
keeps_none other (step.nothing s held a) = tt

wants_kept : (stage : Stage) (s : Sweeping) → HoldsAt stage s s.held → HasList stage → WantsMemory stage (handed s) → s.trouble ≡ Some trouble.Memory
wants_kept Removing s own has wants = absurd (let left = within s.orphans s.removed own.1 in omega (arith, left, wants))
wants_kept Releasing s own has wants = wants
wants_kept stage s own has wants = absurd has

-- .. whether the lease that is given back has left the machine or not
pub handed_refused : (old mid : Sweeping) (a : Answer) (turn : Turn Swept) → mid ≡ handed old
    → (IsRefusal a → turn ≡ Stopped trouble.Memory → mid.trouble ≡ Some trouble.Memory)
    → IsRefusal a → turn ≡ Stopped trouble.Memory → old.trouble ≡ Some trouble.Memory
handed_refused old mid a turn left h =
    subst (λ (m : Sweeping). IsRefusal a → turn ≡ Stopped trouble.Memory → m.trouble ≡ Some trouble.Memory) left h

pub handed_wants : (old mid : Sweeping) (a : Answer) (turn : Turn Swept) → mid ≡ handed old
    → (a ≢ call.Memory → turn ≡ Stopped trouble.Memory → WantsMemory mid.stage mid)
    → a ≢ call.Memory → turn ≡ Stopped trouble.Memory → WantsMemory old.stage (handed old)
handed_wants old mid a turn left h =
    subst (λ (m : Sweeping). a ≢ call.Memory → turn ≡ Stopped trouble.Memory → WantsMemory m.stage m) left h

pub took_ample : (s n : Sweeping) (a : Answer) (turn : Turn Swept) → HoldsAt s.stage s s.held → Took (LeadsBy sweep_next) KeepsLease s a n turn
    → (IsRefusal a → turn ≡ Stopped trouble.Memory → s.trouble ≡ Some trouble.Memory)
    → (a ≢ call.Memory → turn ≡ Stopped trouble.Memory → WantsMemory s.stage (handed s)) → IsAmple a s n turn
took_ample s n a turn own took refused wants = record {
  refused = refused;
  listed = λ has other is. wants_kept s.stage s own has (wants other is);
  kept = λ other more. on turn took more other;
}
  where
    on : (t : Turn Swept) → Took (LeadsBy sweep_next) KeepsLease s a n t → t ≡ More → a ≢ call.Memory
        → n.trouble ≡ Some trouble.Memory → s.trouble ≡ Some trouble.Memory
    on More leads e other = keeps_none other (came_by s a (Goes n) leads)
    on (Ended x) leads e other = absurd (cc (e))
    on (Stopped t) leads e other = absurd (cc (e))

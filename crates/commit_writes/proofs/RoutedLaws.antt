-- The records of a commit's changes: how many, that they have spellings, and whether their numbers fit.
use Rattle.std.proofs.Common.{◌≡◌, ◌<◌, ◌≤◌, ◌^◌, ℕ, List, length, true, false, arith}
use Rattle.std.specs.Prelude.{nat_le}
use Rattle.std.specs.List.{AllByRecursion, Any}
use Rattle.std.proofs.lemmas.Bool.Decides.{nat_tests}
use Rattle.std.proofs.lemmas.List.Elements.{All-weaker}
use Rattle.std.proofs.lemmas.List.Folds.{list_any_none, list_any-from_Any}
use Rattle.head_codec.specs.Spelling.{HasSpelling}
use Rattle.log_codec.specs.Atomic.{HasPlace}
use Rattle.log_codec.specs.declared.record.AtomicRec.{AtomicRec}
use Rattle.txn_buffer.specs.Noted.{Noted}
use Rattle.route_plan.specs.Route.{AllFit, PassesGreatest}
use Rattle.route_plan.proofs.CommitLaws.{HasPlace-routed, length-routed}
use Rattle.recover_run.specs.declared.home.Home.{Home}
use Rattle.commit_writes.specs.Writing.{routed_of, passes}

-- there is a record for each change
pub routed_length : (home : Home) (changes : List Noted) (leaves : List ℕ) → length leaves ≡ length changes → length (routed_of home changes leaves) ≡ length changes
routed_length home changes leaves same = length-routed home.client home.head.epoch home.attempt home.head changes leaves same

pub routed_placed : (home : Home) (changes : List Noted) (leaves : List ℕ) → HasSpelling home.head → 1 ≤ home.attempt → length changes ≤ 200 → AllByRecursion HasPlace (routed_of home changes leaves)
routed_placed home changes leaves is attempt few = HasPlace-routed home.client home.head.epoch home.attempt home.head changes leaves is.epoch attempt few

pub routed_few : (home : Home) (changes : List Noted) (leaves : List ℕ) → length leaves ≡ length changes → length changes ≤ 200 → length (routed_of home changes leaves) ≤ 200
routed_few home changes leaves same few = omega (arith, routed_length home changes leaves same)

pub routed_some : (home : Home) (changes : List Noted) (leaves : List ℕ) → length leaves ≡ length changes → 1 ≤ length changes → 1 ≤ length (routed_of home changes leaves)
routed_some home changes leaves same some = omega (arith, routed_length home changes leaves same)

fits_one : (r : AtomicRec) → r.number < 2 ^ 64 → nat_le (2 ^ 64) r.number ≡ false
fits_one r fits = grind (arith, nat_tests)

-- no number passes the greatest one where every one is a u64, and one does where one is none
pub fits_passes : (records : List AtomicRec) → AllFit records → passes records ≡ false
fits_passes records all = list_any_none (λ (r : AtomicRec). nat_le (2 ^ 64) r.number) records (All-weaker (λ (r : AtomicRec). r.number < 2 ^ 64) (λ (r : AtomicRec). nat_le (2 ^ 64) r.number ≡ false) fits_one records all)

any_weaker : {X : Type 0} (P Q : X → Type 0) → ((x : X) → P x → Q x) → (xs : List X) → Any P xs → Any Q xs
any_weaker P Q f xs any = (any.0, any.1, any.2, any.3, f any.1 any.4)

full_one : (r : AtomicRec) → 2 ^ 64 ≤ r.number → nat_le (2 ^ 64) r.number ≡ true
full_one r full = grind (arith, nat_tests)

pub full_passes : (records : List AtomicRec) → PassesGreatest records → passes records ≡ true
full_passes records any = list_any-from_Any (λ (r : AtomicRec). nat_le (2 ^ 64) r.number) records (any_weaker (λ (r : AtomicRec). 2 ^ 64 ≤ r.number) (λ (r : AtomicRec). nat_le (2 ^ 64) r.number ≡ true) full_one records any)

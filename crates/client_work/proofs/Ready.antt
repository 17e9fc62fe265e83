-- A commit is made ready or ended at once: memory alone stops it.
use Rattle.std.proofs.Common.{◌≡◌, List, ap, subst, ◌∙◌}
use Rattle.page_cache.specs.Cache.{Cache}
use Rattle.db_base.specs.declared.trouble.Trouble.{Trouble}
use Rattle.db_base.specs.declared.trouble.Trouble.TheVariants as trouble
use Rattle.db_base.specs.declared.trouble.CommitAnswer.{CommitAnswer}
use Rattle.txn_buffer.specs.Noted.{Noted}
use Rattle.cloud_trait.specs.declared.turn.Turn.{Turn}
use Rattle.cloud_trait.specs.declared.turn.Turn.TheVariants.{Stopped}
use Rattle.recover_run.specs.declared.home.Home.{Home}
use Rattle.commit_run.specs.Meaning.{MeansReady}
use Rattle.commit_run.specs.Run.{Run, new_run, run_ready, home_of, Keeps, Led}

-- memory alone stops it, and then its lease is the home's
pub memory_stops : (home : Home) (changes : List Noted) (start m : Run) (c : Cache) (turn : Turn CommitAnswer) (t : Trouble) → start ≡ new_run home changes
    → ((h : Home) (cs : List Noted) → start ≡ new_run h cs → MeansReady h cs c (home_of m) turn) → Keeps (home_of start) (home_of m) → turn ≡ Stopped t
    → (t ≡ trouble.Memory) × ((home_of m).lease ≡ home.lease)
memory_stops home changes start m c turn t from means keeps is = (
  subst (MeansReady home changes c (home_of m)) is (means home changes from),
  ap (λ (h : Home). h.lease) keeps ∙ ap (λ (r : Run). (home_of r).lease) from,
)

-- made ready, it went so from its home and its changes
pub ready_by : (home : Home) (changes : List Noted) (start m : Run) (c d : Cache) (turn came : Turn CommitAnswer) → start ≡ new_run home changes
    → Led (run_ready (start, c)) (m, d) turn → turn ≡ came → Led (run_ready (new_run home changes, c)) (m, d) came
ready_by home changes start m c d turn came from led is =
    subst (Led (run_ready (new_run home changes, c)) (m, d)) is (subst (λ (r : Run). Led (run_ready (r, c)) (m, d) turn) from led)

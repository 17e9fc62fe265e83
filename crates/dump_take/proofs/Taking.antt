-- A taking by its parts.
use Rattle.std.proofs.Common.{◌≡◌, Ok, Err, Result, sym, subst, inl, inr, arith}
use Rattle.db_base.specs.declared.trouble.Trouble.{Trouble}
use Rattle.cloud_trait.specs.Seen.{Seen}
use Rattle.cloud_trait.specs.State.{CloudState}
use Rattle.dump_text.specs.declared.dump.Dump.{Dump}
use Rattle.world_audit.specs.Stop.{SlipOr}
use Rattle.dump_take.specs.declared.stop.DumpStop.{DumpStop}
use Rattle.dump_take.specs.declared.stop.DumpStop.TheVariants as stop
use Rattle.dump_take.specs.Quiet.{AllHeadsRest, TreesRest, IsQuiet}
use Rattle.dump_take.specs.Sight.{Sees, heads_to, roots_to, pages_to, queues_to, no_queue}
use Rattle.dump_take.specs.Taken.{IsTaken, Takes, FirstDamage, RootIsDamaged, ChainIsDamaged}
use Rattle.dump_take.specs.Parts.{HeadsFound, TreesFound, ContentsFound}
use Rattle.dump_take.proofs.Sights.{sees_both, found}
use Rattle.dump_take.proofs.Sets.{queues_first, queues_last, heads_roots, first_pages, heads_and_roots, all_objects}

heads_taken : (e : DumpStop) (s : CloudState) → HeadsFound (Err e) s → IsTaken s (Err e)
heads_taken (stop.NotQuiet name) s h = inl h
heads_taken (stop.Trouble trouble) s (inl failed) = inl failed
heads_taken (stop.Trouble trouble) s (inr (inl memory)) = inr (inl memory)
heads_taken (stop.Trouble trouble) s (inr (inr damaged)) = inr (inr (inl damaged))

trees_taken : (e : DumpStop) (s : CloudState) → AllHeadsRest s × TreesFound (Err e) s → IsTaken s (Err e)
trees_taken (stop.NotQuiet name) s h = inr h
trees_taken (stop.Trouble trouble) s h = on h.1
  where
    on : SlipOr (RootIsDamaged s trouble) trouble → SlipOr (FirstDamage s trouble) trouble
    on (inl failed) = inl failed
    on (inr (inl memory)) = inr (inl memory)
    on (inr (inr damaged)) = inr (inr (inr (inl (h.0, damaged))))

quiet : (s : CloudState) → AllHeadsRest s → TreesRest s 17 → IsQuiet s
quiet s heads trees = record { heads = heads; trees = λ tree is. trees tree is (omega (arith, is.most)) }

contents_taken : (trouble : Trouble) (s : CloudState) → (AllHeadsRest s × TreesRest s 17) × ContentsFound (Err trouble) s → IsTaken s (Err (stop.Trouble trouble))
contents_taken trouble s h = on h.1
  where
    on : SlipOr (ChainIsDamaged s trouble) trouble → SlipOr (FirstDamage s trouble) trouble
    on (inl failed) = inl failed
    on (inr (inl memory)) = inr (inl memory)
    on (inr (inr damaged)) = inr (inr (inr (inr (quiet s h.0.0 h.0.1, damaged))))

module _ (before : Seen) (result : Result Dump DumpStop) where
  pub takes : (e : DumpStop) → result ≡ Err e → Sees before (heads_to 64) no_queue (HeadsFound (Err e)) → Takes before result
  takes e is heads =
      let f = found before (heads_to 64) no_queue (HeadsFound (Err e)) heads in
      record { looks = f.state; told = f.told; shown = f.shown; taken = subst (IsTaken f.state) (sym is) (heads_taken e f.state f.holds) }

  module _ (heads : Sees before (heads_to 64) no_queue AllHeadsRest) where
    both : (Holds : CloudState → Type 0) → Sees before (roots_to 16) (queues_to 16) Holds → Sees before heads_and_roots (queues_to 16) (λ s. AllHeadsRest s × Holds s)
    both Holds trees = sees_both before (heads_to 64) (roots_to 16) heads_and_roots no_queue (queues_to 16) (queues_to 16) AllHeadsRest Holds heads_roots (queues_first (queues_to 16)) heads trees

    pub takes_trees : (e : DumpStop) → result ≡ Err e → Sees before (roots_to 16) (queues_to 16) (TreesFound (Err e)) → Takes before result
    takes_trees e is trees =
        let f = found before heads_and_roots (queues_to 16) (λ s. AllHeadsRest s × TreesFound (Err e) s) (both (TreesFound (Err e)) trees) in
        record { looks = f.state; told = f.told; shown = f.shown; taken = subst (IsTaken f.state) (sym is) (trees_taken e f.state f.holds) }

    module _ (trees : Sees before (roots_to 16) (queues_to 16) (λ s. TreesRest s 17)) where
      all : (Holds : CloudState → Type 0) → Sees before (pages_to 16) no_queue Holds → Sees before all_objects (queues_to 16) (λ s. (AllHeadsRest s × TreesRest s 17) × Holds s)
      all Holds leaves = sees_both before heads_and_roots (pages_to 16) all_objects (queues_to 16) no_queue (queues_to 16) (λ s. AllHeadsRest s × TreesRest s 17) Holds
          first_pages (queues_last (queues_to 16)) (both (λ s. TreesRest s 17) trees) leaves

      pub takes_contents : (trouble : Trouble) → result ≡ Err (stop.Trouble trouble) → Sees before (pages_to 16) no_queue (ContentsFound (Err trouble)) → Takes before result
      takes_contents trouble is leaves =
          let f = found before all_objects (queues_to 16) (λ s. (AllHeadsRest s × TreesRest s 17) × ContentsFound (Err trouble) s) (all (ContentsFound (Err trouble)) leaves) in
          record { looks = f.state; told = f.told; shown = f.shown; taken = subst (IsTaken f.state) (sym is) (contents_taken trouble f.state f.holds) }

      pub takes_all : (dump : Dump) → result ≡ Ok dump → Sees before (pages_to 16) no_queue (ContentsFound (Ok dump.trees)) → Takes before result
      takes_all dump is leaves =
          let f = found before all_objects (queues_to 16) (λ s. (AllHeadsRest s × TreesRest s 17) × ContentsFound (Ok dump.trees) s) (all (ContentsFound (Ok dump.trees)) leaves) in
          record { looks = f.state; told = f.told; shown = f.shown; taken = subst (IsTaken f.state) (sym is) (quiet f.state f.holds.0.0 f.holds.0.1, f.holds.1) }

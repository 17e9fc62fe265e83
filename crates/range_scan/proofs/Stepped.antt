-- One step of a scan, read off where its answer leads.
use Rattle.std.proofs.Common.{ℕ, Option, ap}
use Rattle.range_scan.proofs.Words.{Get, Caller, Steps, Seen, Turn, occasion_of}
use Rattle.page_cache.specs.Cache.{Cache}
use Rattle.tree_walk.specs.Walk.{ServesOn}
use Rattle.tree_walk.specs.Walk.{Spot}
use Rattle.tree_walk.proofs.Meaning.{walked_led}
use Rattle.range_scan.specs.Scan.{Scan, scan_object_at, scan_machine}
use Rattle.range_scan.specs.Causes.{deed_of}
use Rattle.range_scan.specs.Meaning.{IsWalked, deeds_of}
use Rattle.range_scan.specs.Stepped.{Stepped}
use Rattle.range_scan.proofs.Causes.{next_causes, next_calm}
use Rattle.range_scan.proofs.Demands.{next_exact}
use Rattle.range_scan.proofs.Meaning.{next_means, scanned_led}
use Rattle.range_scan.proofs.Walked.{scanned_walked}
use Rattle.range_scan.proofs.Within.{scanned_within}

pub next_stepped : (who : Caller) (before after : Seen) (m n : Scan × Cache) (turn : Turn ℕ) → Steps scan_machine (occasion_of who before after) m n turn → ServesOn m.1 n.1
    → Stepped who before after m n turn
next_stepped who before after m n turn steps on = record {
  answer = steps.answer;
  made = steps.made;
  took = steps.took;
  served = on;
  meant = λ r h came.
      let causes = next_causes r h who before after m n steps.answer turn came steps.made steps.took in
      record {
        within = scanned_within r h m came;
        means = next_means r h who before after m n steps.answer turn came steps.made steps.took;
        led = scanned_led r h m came;
        walked = λ none.
            let walked : IsWalked h m = scanned_walked r h m came none in
            (walked, walked_led walked.start walked.begun (deeds_of h) (m.0.walk, m.1) (deed_of who m steps.answer before after) walked.walked (ap (λ (o : Option Spot). Get (scan_object_at m.0 o)) none));
        causes = causes;
        exact = next_exact r h m n steps.answer turn came steps.took;
        calm = next_calm who before after m n steps.answer turn steps.made causes;
      };
}

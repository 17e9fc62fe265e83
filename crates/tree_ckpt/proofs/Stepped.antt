-- A step of a tree checkpoint, by the one answer of its call.
use Rattle.std.proofs.Common.{◌≡◌}
use Rattle.db_base.specs.declared.trouble.Trouble.TheVariants as trouble
use Rattle.cloud_trait.specs.declared.answer.Answer.TheVariants as call
use Rattle.cloud_trait.specs.Caller.{Caller}
use Rattle.cloud_trait.specs.Seen.{Seen}
use Rattle.cloud_trait.specs.Weather.{Makes}
use Rattle.cloud_trait.proofs.CalmLemmas.{goes_well}
use Rattle.tree_ckpt.specs.Making.{Making, making_ask, MakingLeads, KeepsLeases}
use Rattle.tree_ckpt.specs.Leases.{Stands}
use Rattle.tree_ckpt.specs.Meaning.{MeansDone}
use Rattle.tree_ckpt.specs.Stepped.{Tells, Stepped}
use Rattle.tree_ckpt.proofs.Words.{Answer, CkptAnswer, Turn, Stopped, Took, calls_of}
use Rattle.tree_ckpt.proofs.Causes.{KnowsAt, went_brought, took_tells}
use Rattle.tree_ckpt.proofs.Meaning.{went_done, took_done}
use Rattle.tree_ckpt.proofs.Dues.{due_brought, cut_last_but_one}
use Rattle.tree_ckpt.proofs.Spared.{due_few}
use Rattle.tree_ckpt.proofs.Demands.{took_owes}
use Rattle.tree_ckpt.proofs.Failures.{told_fails}
use Rattle.tree_ckpt.proofs.Leases.{went_stands, stands_returns}
use Rattle.tree_ckpt.proofs.Calm.{took_well}

pub stepped_by : (who : Caller) (before after : Seen) (old new : Making) (turn : Turn CkptAnswer) (a : Answer) → Makes who (making_ask old) a before after
    → Took MakingLeads KeepsLeases old a new turn → (a ≡ call.Memory → turn ≡ Stopped trouble.Memory) → Stepped who before after old new turn
stepped_by who before after old new turn a made took memory = record {
  did = record { answer = a; made = made; took = took };
  memory = memory;
  means = λ h went.
      let stands : Stands old h = went_stands old h went in
      let knows : KnowsAt old.tree old.work (calls_of h) = went_brought old h went in
      let tells : Tells old h a new turn = took_tells old new h a turn knows made.fits took in
      let done : MeansDone (making_ask old) old h turn = took_done old new h a turn went knows (went_done old h went) took in
      record {
        tells = tells;
        owes = λ t k. took_owes old new h a turn t stands knows made.fits took k;
        fails = λ k. told_fails old new h a turn tells k;
        brought = λ due is. due_brought old h a knows due is;
        few = λ due is. due_few old h a went (went_done old h went) due is;
        cut_short = λ is. cut_last_but_one old h a knows is;
        done = done;
        returned = stands_returns old new h a turn stands made.fits took;
        well = λ calm had. took_well old new h a turn went calm.1 had (goes_well _ made calm.0) tells done;
      };
}

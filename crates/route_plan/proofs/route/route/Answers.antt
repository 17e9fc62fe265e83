use Rattle.std.proofs.Common.{sym, ◌∙◌, subst, List, inl, inr, ⊎_elim}
use Rattle.std.proofs.lemmas.Result.{err_from_is_err_and}
use Rattle.log_codec.specs.declared.record.AtomicRec.{AtomicRec}
use Rattle.route_plan.specs.Route.{AllFit}
use Rattle.route_plan.proofs.Routes.{goes, ends, passes, fewer, newest-number}
use Rattle.route_plan.proofs.route.route.Goals as goal

pub returns-in_err-next-clause-err : goal.returns-in_err-next-clause-err
returns-in_err-next-clause-err c =
    let p = err_from_is_err_and c.from_residual-in_err-next.result c.from_residual-in_err-next.ensures.1 in
    rw (p.1, p.2) (⊎_elim (λ e. inl e) (λ h. inr (
      h.0,
      passes _ _ _ _ _ _ _ _ _ _ _ _ _ c.requires c.loop-noted.invariant.so_far c.len.ensures.is
          (c.len-in-loop-noted.ensures ∙ c.loop-noted.records.ok.0) (c.len-in-Some.ensures ∙ c.loop-noted.records.ok.0)
          c.as_slice.ensures.value (sym c.in-Some.ensures) c.index-leaves-len.is h.1,
    )) c.in_err-next.ensures.err)

pub loop-noted-smaller : goal.loop-noted-smaller
loop-noted-smaller c = fewer _ _ _ _ _ _ (c.len-in-loop-noted.ensures ∙ c.loop-noted.records.ok.0) (sym c.in-Some.ensures) c.in_ok-push.ensures.ok

pub loop-noted-preserved : goal.loop-noted-preserved
loop-noted-preserved c = record {
  so_far = goes _ _ _ _ _ _ _ _ _ _ _ _ _ _ _ c.requires c.loop-noted.invariant.so_far (c.len-in-loop-noted.ensures ∙ c.loop-noted.records.ok.0) (c.len-in-Some.ensures ∙ c.loop-noted.records.ok.0)
      c.as_slice.ensures.value (sym c.in-Some.ensures) c.index-leaves-len.is c.in_ok-next.ensures.ok c.in_ok-next.ensures.fits c.in_ok-push.ensures.ok;
  newest = newest-number c.args.head.now _ _ _ _ _ _ _ _ _ _ _ _ _ c.in_ok-next.ensures.ok c.as_slice.ensures.value c.in_ok-push.ensures.ok
      c.newest_of.ensures.tree c.newest_of.ensures.page c.newest_of.ensures.number;
}

pub returns-clause-ok : goal.returns-clause-ok
returns-clause-ok c = ends _ _ _ _ _ _ _ _ _ c.loop-noted.invariant.so_far (c.len-in-loop-noted.ensures ∙ c.loop-noted.records.ok.0) (sym c.in_default.ensures) c.len.ensures.is

pub returns-clause-fits : goal.returns-clause-fits
returns-clause-fits c = let P : List AtomicRec → Type 0 = λ l. AllFit l in
    subst P (ends _ _ _ _ _ _ _ _ _ c.loop-noted.invariant.so_far (c.len-in-loop-noted.ensures ∙ c.loop-noted.records.ok.0) (sym c.in_default.ensures) c.len.ensures.is) c.loop-noted.invariant.so_far.fits

use Rattle.std.proofs.Common.{◌≡◌, ◌≢◌, ◌∙◌, sym, subst, ap, Err, length, List, ℕ}
use Rattle.db_base.specs.Ids.{IsTree}
use Rattle.folder_names.specs.Names.{place_bytes}
use Rattle.folder_names.specs.declared.fault.NameFault.TheVariants.{NotOurs}
use Rattle.folder_names.proofs.Spelled.{no_place, one_place, place_are}
use Rattle.folder_names.proofs.queues.updates_in.Goals as goal

pub returns-in-Some-clause-none : goal.returns-in-Some-clause-none
returns-in-Some-clause-none c = λ err tree page is h e.
    let there = sym c.as_slice.ensures ∙ c.place.ensures.some c.in-Some.tree c.in-Some.page c.in-Some.is in
    let fits = c.place.ensures.fits c.in-Some.tree c.in-Some.page c.in-Some.is in
    let same = one_place c.args.word.now c.in-Ok.bytes tree page c.in-Some.tree c.in-Some.page c.in-Ok.ensures.bytes is h fits c.in-Ok.ensures.ok e there in
    c.numbered.ensures.none err (subst IsTree (sym same.0) is)

pub returns-in-Ok-clause-none : goal.returns-in-Ok-clause-none
returns-in-Ok-clause-none c = λ _ tree page is h e.
    no_place c.args.word.now c.in-Ok.bytes tree page c.in-Ok.ensures.bytes is c.in-Ok.ensures.ok e (subst (λ (bytes : List ℕ). length bytes ≢ 9) c.as_slice.ensures (c.place.ensures.none c.in-None.is))

pub returns-clause-none : goal.returns-clause-none
returns-clause-none c = λ is tree page t h e.
    let f : c.in-Err.fault ≡ NotOurs = cc in c.in-Err.ensures.none (ap Err f) (place_bytes tree page) (place_are tree page t) e

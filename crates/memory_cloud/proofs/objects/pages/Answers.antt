use Rattle.std.proofs.Common.{rules, ◌≡◌, ◌∙◌, ◌∷◌, ◌++◌, [], sym, append-nil, append_assoc}
use Rattle.std.proofs.lemmas.List.Elements.{All-append}
use Rattle.db_base.specs.Ids.{IsPage}
use Rattle.memory_cloud.specs.Pages.{page_at, pages_of}
use Rattle.memory_cloud.proofs.PagesLemmas.{walked_listed}
use Rattle.memory_cloud.proofs.objects.pages.Goals as goal

pub loop-name-preserved : goal.loop-name-preserved
loop-name-preserved c =
    let e : c.loop-name.name-iterator ≡ (c.in-Some.name.now, c.in-Some.versions.now) ∷ c.next.new.self = search rules in
    let v : c.as_slice.result.now ≡ c.in-Some.versions.now.items = c.as_slice.ensures.value in
    let p : c.push_page.new.pages.items ≡ c.loop-name.pages.items ++ page_at c.args.tree c.in-Some.name.now c.as_slice.result.now = c.in_ok-push_page.ensures.added in
    record {
      walked = rw (p, v) (append_assoc c.loop-name.pages.items (page_at c.args.tree c.in-Some.name.now c.in-Some.versions.now.items) (pages_of c.args.tree c.next.new.self) ∙ (rw e at c.loop-name.invariant.walked));
      pages = rw p (All-append IsPage c.loop-name.pages.items (page_at c.args.tree c.in-Some.name.now c.as_slice.result.now) c.loop-name.invariant.pages c.in_ok-push_page.ensures.pages);
    }

pub returns : goal.returns
returns c =
    let e : c.loop-name.name-iterator ≡ [] = search rules in
    walked_listed c.args.objects.now c.args.tree c.loop-name.pages.items c.iter-name-items.ensures.ordered (sym (append-nil c.loop-name.pages.items) ∙ (rw e at c.loop-name.invariant.walked)) c.loop-name.invariant.pages

-- The checkpoint of a page that ran whole in a settling marks just what it received, and its page's right page is the one that it read.
use Rattle.std.proofs.Common.{◌≡◌, ℕ, List, sym, ap, subst, ◌∙◌}
use Rattle.cloud_facts.specs.Words.{IsTree, Ended, Deed, nodes_of}
use Rattle.cloud_facts.specs.Book.Tally.{right_of}
use Rattle.db_base.specs.Ids.{IsPage}
use Rattle.db_base.specs.declared.names.QueueName.TheVariants as queue
use Rattle.page_ckpt.proofs.Meaning.{went_knows, knows_done}
use Rattle.page_ckpt.specs.Meaning.{IsDone}
use Rattle.page_ckpt.specs.Paging.{Paging, paging_ask}
use Rattle.page_ckpt.specs.Leases.{Went}
use Rattle.session_facts.proofs.Machines.PageCheckpoints.Explains.{paging_ends}
use Rattle.session_facts.proofs.Settling.Pages.Stories.{EndsFrom, ends_from, turn_page, turn_rights, turn_between, story_trail, story_rights, page_went}
use Rattle.session_facts.specs.Machines.PageCheckpoints.Rights.{IsNewestLeaf}
use Rattle.session_facts.specs.Settling.Runs.{AreDelivered, Drains, right_at}
use Rattle.session_facts.specs.Settling.Story.{Moment, store_at, IsTurn, PartStory, PartRan}
use Rattle.session_facts.specs.Machines.Settlings.Knows.{MakesPage}
use Rattle.settle_run.specs.declared.part.Part.{Part}
use Rattle.settle_run.specs.declared.part.Part.TheVariants.{Page}
use Rattle.session_facts.proofs.Settling.Pages.Emptied.{home_newest, page_drained}
use Rattle.session_facts.proofs.Settling.Trails.{IsBetween, Trail}

module _ (tree page : ℕ) (m : Paging) (h : List Deed) (first last : Moment) (ran : PartRan (Page tree page m) h first last) where
  pub ending : EndsFrom tree page ran.from ran.end.answer m
  ending = ends_from tree page m ran.from ran.end.answer ran.ends

  abbrev pub was : Paging
  was = ending.was

  pub story : PartStory first ran.earlier (Page tree page was) ran.before
  story = subst (λ (w : Part). PartStory first ran.earlier w ran.before) ending.is ran.story

  pub turn : IsTurn ran.end (Page tree page was) ran.before last
  turn = subst (λ (w : Part). IsTurn ran.end w ran.before last) ending.is ran.turn

  pub known : MakesPage (store_at ran.before) ran.before.state.now tree page was (ran.before.stand.parts 0)
  known = turn_page ran.end tree page was ran.before last turn

  pub tree_is : m.tree ≡ tree
  tree_is = (paging_ends was m ran.end.answer ending.answer ending.leads).0 ∙ known.tree_is

  pub page_is : m.page ≡ page
  page_is = (paging_ends was m ran.end.answer ending.answer ending.leads).1 ∙ known.page_is

  pub of_tree : IsTree m.tree
  of_tree = subst IsTree (sym (paging_ends was m ran.end.answer ending.answer ending.leads).0) known.knows.tree

  pub of_page : IsPage m.page
  of_page = subst IsPage (sym (paging_ends was m ran.end.answer ending.answer ending.leads).1) known.knows.page

  pub went : Went ran.earlier was
  went = page_went first ran.earlier tree page was ran.before known.tree_is known.page_is story

  trail : Trail ran.earlier first.state ran.before.state
  trail = story_trail first ran.earlier (Page tree page was) ran.before story

  between : IsBetween ran.end ran.before.state last.state
  between = turn_between ran.end (Page tree page was) ran.before last turn

  pub done : IsDone (paging_ask was) m ran.earlier ending.answer
  done = knows_done was m ran.earlier ran.end.answer (Ended ending.answer) (went_knows was ran.earlier went) ending.leads

  -- by what such a checkpoint leaves, whosever it is
  leaf_read : IsNewestLeaf (nodes_of first.state m.tree) m.page m.home
  leaf_read =
      home_newest first was m ran.earlier ran.end ending.answer ran.before.state last.state went trail between turn.asked ending.leads ending.left of_tree of_page

  pub same_rights : (p : ℕ) → right_at last.state tree p ≡ right_at first.state tree p
  same_rights p = turn_rights ran.end tree page was ran.before last turn tree p ∙ story_rights first ran.earlier tree page was ran.before story tree p

  pub right_read : right_at last.state tree page ≡ m.home.right
  right_read =
      same_rights page
      ∙ (ap (λ (k : ℕ). right_at first.state k page) (sym tree_is) ∙ (ap (λ (n : ℕ). right_at first.state m.tree n) (sym page_is) ∙ ap right_of leaf_read.is))

  pub page_drains : AreDelivered h → Drains (queue.PagePu tree page) m.received first.state last.state
  page_drains well =
      subst (λ (k : ℕ). Drains (queue.PagePu k page) m.received first.state last.state) tree_is
      (subst (λ (n : ℕ). Drains (queue.PagePu m.tree n) m.received first.state last.state) page_is
      (page_drained first was m ran.earlier ran.end ending.answer ran.before.state last.state went trail between turn.asked ending.leads ending.left of_tree of_page
      (subst AreDelivered ran.is well)))

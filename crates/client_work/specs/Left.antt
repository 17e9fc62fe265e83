-- What one machine leaves in hand.
use Rattle.attr_index.specs.Look.{Look}
use Rattle.commit_run.specs.Run.{Run}
use Rattle.page_ckpt.specs.Paging.{Paging as Page}
use Rattle.recover_run.specs.declared.home.Home.{Home}
use Rattle.recover_run.specs.Recovery.{Recovery}
use Rattle.tree_ckpt.specs.Making.{Making}
use Rattle.tree_walk.specs.Walk.{Walk}
use Rattle.client_work.specs.declared.left.Left.{Left}
use Rattle.client_work.specs.declared.left.Left.TheVariants.{Goes, Rests}
use Rattle.client_work.specs.declared.left.Rest.{Rest}
use Rattle.client_work.specs.declared.left.Rest.TheVariants as rest
use Rattle.client_work.specs.declared.listing.Listing.{Listing}
use Rattle.client_work.specs.declared.work.Work.{Work}
use Rattle.client_work.specs.declared.work.Work.TheVariants.{Closed, Idle, Opening, Committing, Reading, Scanning, Looking, Paging, Folding, Broken}

-- what is in hand where nothing is at work
abbrev pub at_rest : Rest → Work
at_rest rest.Closed = Closed
at_rest (rest.Idle home) = Idle home
at_rest (rest.Broken lease) = Broken lease

-- what is in hand behind an opening, a commit, a read and so on

abbrev pub behind_opening : Left Recovery → Work
behind_opening (Goes m) = Opening m
behind_opening (Rests r) = at_rest r

abbrev pub behind_commit : Left Run → Work
behind_commit (Goes m) = Committing m
behind_commit (Rests r) = at_rest r

abbrev pub behind_read : Left (Home × Walk) → Work
behind_read (Goes (home, m)) = Reading home m
behind_read (Rests r) = at_rest r

abbrev pub behind_scan : Left (Home × Listing) → Work
behind_scan (Goes (home, m)) = Scanning home m
behind_scan (Rests r) = at_rest r

abbrev pub behind_look : Left (Home × Look) → Work
behind_look (Goes (home, m)) = Looking home m
behind_look (Rests r) = at_rest r

abbrev pub behind_page : Left (Home × Page) → Work
behind_page (Goes (home, m)) = Paging home m
behind_page (Rests r) = at_rest r

abbrev pub behind_tree : Left (Home × Making) → Work
behind_tree (Goes (home, m)) = Folding home m
behind_tree (Rests r) = at_rest r

-- What the cache of a session keeps landed, and does so still behind any call.
use Rattle.std.proofs.Common.{ℕ, List}
use Rattle.client_work.specs.Session.{shown_behind}
use Rattle.client_work.specs.declared.work.Work.{Work}
use Rattle.client_work.specs.declared.work.Work.TheVariants.{Closed, Idle, Opening, Committing, Reading, Scanning, Looking, Folding, Paging, Closing, Renewing, Settling, Sweeping, Broken}
use Rattle.cloud_facts.specs.Calls.Acting.{footing, actor, Outcome}
use Rattle.cloud_facts.specs.Words.{Entry, CloudState, Caller, Claim, Ask, Book, Store, store_of}
use Rattle.history.specs.Audited.{Audited}
use Rattle.cloud_facts.specs.Homes.Homes.{Part, Parts}
use Rattle.page_cache.specs.Cache.{Cache}
use Rattle.session_facts.specs.Sessions.Knows.{KnowsWork, KnowsKept}
use Rattle.cloud_facts.specs.Book.Growth.{Grows}
use Rattle.session_facts.specs.Machines.Walks.Caches.{KnowsCache}
use Rattle.session_facts.proofs.Machines.Walks.Caches.{empty_knows, cache_grows}

pub kept_from : (st : Store) (c : Cache) (work : Work) → KnowsCache st c → KnowsKept st c work
kept_from st c (Broken l) k = tt
kept_from st c Closed k = k
kept_from st c (Idle home) k = k
kept_from st c (Opening r) k = k
kept_from st c (Committing r) k = k
kept_from st c (Reading home w) k = k
kept_from st c (Scanning home m) k = k
kept_from st c (Looking home m) k = k
kept_from st c (Folding home m) k = k
kept_from st c (Paging home p) k = k
kept_from st c (Closing l) k = k
kept_from st c (Renewing home) k = k
kept_from st c (Settling m) k = k
kept_from st c (Sweeping m) k = k

pub kept_grows : (st su : Store) (c : Cache) (work : Work) → Grows st su → KnowsKept st c work → KnowsKept su c work
kept_grows st su c (Broken l) grows k = k
kept_grows st su c Closed grows k = cache_grows st su grows c k
kept_grows st su c (Idle home) grows k = cache_grows st su grows c k
kept_grows st su c (Opening r) grows k = cache_grows st su grows c k
kept_grows st su c (Committing r) grows k = cache_grows st su grows c k
kept_grows st su c (Reading home w) grows k = cache_grows st su grows c k
kept_grows st su c (Scanning home m) grows k = cache_grows st su grows c k
kept_grows st su c (Looking home m) grows k = cache_grows st su grows c k
kept_grows st su c (Folding home m) grows k = cache_grows st su grows c k
kept_grows st su c (Paging home p) grows k = cache_grows st su grows c k
kept_grows st su c (Closing l) grows k = cache_grows st su grows c k
kept_grows st su c (Renewing home) grows k = cache_grows st su grows c k
kept_grows st su c (Settling m) grows k = cache_grows st su grows c k
kept_grows st su c (Sweeping m) grows k = cache_grows st su grows c k

-- what a session knows of its work and its cache
abbrev pub KnowsBoth : Cache → Work → Store → ℕ → Part → Type 0
KnowsBoth c work st now part = KnowsWork st now c work part × KnowsKept st c work

-- a closed session keeps nothing
pub both_shown : (c : Cache) (work : Work) (st : Store) (now : ℕ) (part : Part) → KnowsBoth c work st now part → KnowsBoth (shown_behind work c) work st now part
both_shown c Closed st now part k = (k.0, empty_knows st)
both_shown c (Idle home) st now part k = k
both_shown c (Opening r) st now part k = k
both_shown c (Committing r) st now part k = k
both_shown c (Reading home w) st now part k = k
both_shown c (Scanning home m) st now part k = k
both_shown c (Looking home m) st now part k = k
both_shown c (Folding home m) st now part k = k
both_shown c (Paging home p) st now part k = k
both_shown c (Closing l) st now part k = k
both_shown c (Renewing home) st now part k = k
both_shown c (Settling m) st now part k = k
both_shown c (Sweeping m) st now part k = k
both_shown c (Broken l) st now part k = k

-- a call that leaves the cache alone
pub with_cache : (who : Caller) (book : Book) (order : List Entry) (s t : CloudState) (parts : Parts) (mine : List Claim) (ask : Ask) (note : Audited → Audited) (c : Cache) (work : Work)
    → KnowsCache (store_of book order s) c → Outcome (footing book order s) t (actor parts who.session mine) ask note (λ st now part. KnowsWork st now c work part)
    → Outcome (footing book order s) t (actor parts who.session mine) ask note (KnowsBoth c work)
with_cache who book order s t parts mine ask note c work kept o = record {
  book_after = o.book_after;
  order_after = o.order_after;
  cloud = o.cloud;
  passes = o.passes;
  joins = o.joins;
  links = o.links;
  gone = o.gone;
  part = o.part;
  homes = o.homes;
  knows =
      let su = store_of o.book_after o.order_after t in
      (o.knows, kept_from su c work (cache_grows (store_of book order s) su o.passes.grows c kept));
  noted = o.noted;
}

-- Why a look-up stops: a get of its walk failed or was stale.
use Rattle.std.proofs.Common.{◌≡◌, List, Some}
use Rattle.attr_index.specs.Look.{Own, Look, look_ask, look_next}
use Rattle.cloud_facts.specs.Words.{Entry, Answer, CloudState, Caller, Seen, Claim, Book, store_of, StandsUnder}
use Rattle.cloud_trait.specs.Weather.{Makes}
use Rattle.db_base.specs.declared.trouble.Counter.{Counter}
use Rattle.page_cache.specs.Cache.{Cache}
use Rattle.session_facts.specs.Machines.Looks.Knows.{KnowsLooking, LookLeads}
use Rattle.session_facts.specs.Sessions.Explains.{IsShown}
use Rattle.session_facts.proofs.Machines.Looks.Outcome.{look_leads}
use Rattle.session_facts.proofs.Machines.Walks.Explains.{walk_shown}
use Rattle.tree_walk.specs.Walk.{walk_next}

-- a look-up stops for nothing that its get does not show
pub look_shown : (book : Book) (order : List Entry) (s : CloudState) → StandsUnder book order s → (who : Caller) (before after : Seen) (t : CloudState) → before.state ≡ Some s
    → after.state ≡ Some t → (held : List Claim) (Spent : CloudState → Counter → Type 0) (own : Own) (l : Look) (c : Cache) → KnowsLooking (store_of book order s) l c
    → (a : Answer) → Makes who (look_ask l) a before after
    → LookLeads (store_of book order s) (λ trouble. IsShown (look_ask l) held Spent (before.counts, s) (after.counts, t) trouble) (look_next own (l, c) a)
look_shown book order s stands who before after t told told_after held Spent own l c k a made =
    look_leads (store_of book order s) stands.holds.chains (λ trouble. IsShown (look_ask l) held Spent (before.counts, s) (after.counts, t) trouble) l own (walk_next (l.walk, c) a) k.look.tree
    (walk_shown book order s stands who before after t told told_after held Spent l.walk c (record { walk = k.look.walk; cache = k.cache }) a made)

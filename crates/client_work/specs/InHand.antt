-- What an open client has in hand.
use Rattle.recover_run.specs.declared.home.Home.{Home}
use Rattle.page_cache.specs.Cache.{Cache}

-- what a step of an open client has in hand: its home, the machine at work, and the cache
pub record InHand (Machine : Type 0) : Type 0 where
  pub home : Home
  pub machine : Machine
  pub cache : Cache

abbrev pub in_hand : {Machine : Type 0} → Home → Machine → Cache → InHand Machine
in_hand home machine cache = record { home = home; machine = machine; cache = cache }

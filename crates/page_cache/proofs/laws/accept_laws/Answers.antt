use Rattle.page_cache.proofs.CacheLemmas.{accept_first, accept_kept, accept_others, accept_rises, accept_serves, accept_version, accept_absent}
use Rattle.page_cache.proofs.laws.accept_laws.Goals as goal

pub returns : goal.returns
returns c = record {
  first = λ a. accept_first a.before a.name a.as_leaf a.got a.version a.after a.is;
  kept = λ a. accept_kept a.before a.name a.as_leaf a.got a.version a.after a.is;
  others = λ a. accept_others a.before a.name a.as_leaf a.got a.version a.after a.is;
  rises = λ a. accept_rises a.before a.name a.as_leaf a.got a.version a.after a.is;
  serves = accept_serves;
  version = accept_version;
  absent = accept_absent;
}

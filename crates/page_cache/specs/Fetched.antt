-- What a fetch is: one get, whose answer is accepted.
use Rattle.std.specs.Prelude.{◌≡◌, ℕ, Bool, List, Option, Result}
use Rattle.db_base.specs.declared.names.ObjName.{ObjName}
use Rattle.db_base.specs.declared.trouble.Trouble.{Trouble}
use Rattle.cloud_trait.specs.declared.answer.Answer.{Answer}
use Rattle.cloud_trait.specs.Ask.{Get}
use Rattle.cloud_trait.specs.Caller.{Caller}
use Rattle.cloud_trait.specs.Machine.{Occasion}
use Rattle.cloud_trait.specs.Seen.{Seen}
use Rattle.cloud_trait.specs.Views.{got_of}
use Rattle.cloud_trait.specs.Weather.{Makes}
use Rattle.page_cache.specs.Cache.{Cache, Did, accepts_got}

-- one get, and the value that it brought
pub record Gets (who : Caller) (name : ObjName) (before after : Seen) (got : Result (Option (List ℕ)) Trouble) : Type 0 where
  pub answer : Answer
  pub made : Makes who (Get name) answer before after
  pub is : got ≡ got_of answer

-- one get, whose answer is accepted
pub record Fetched (name : ObjName) (as_leaf : Bool) (on : Occasion) (old new : Cache) (result : Result ℕ Trouble) : Type 0 where
  pub answer : Answer
  pub made : Makes on.who (Get name) answer on.before on.after
  pub did : Did (accepts_got old name as_leaf (got_of answer)) old new result

-- No failed deletion or release brings a tree checkpoint a trouble.
use Rattle.std.proofs.Common.{◌≡◌, ◌≢◌, Some, None, List, sym, subst, inl, inr, ◌∙◌}
use Rattle.db_base.specs.declared.trouble.Trouble.TheVariants as trouble
use Rattle.tree_ckpt.specs.Making.{Making, making_ask}
use Rattle.tree_ckpt.specs.Causes.{kept_trouble}
use Rattle.tree_ckpt.specs.Demands.{Matters, Demands}
use Rattle.tree_ckpt.specs.Stepped.{IsCaused, Tells, ComesToFail}
use Rattle.tree_ckpt.proofs.Words.{Trouble, Answer, CkptAnswer, Turn, More, Ended, Stopped, Deed}

-- a failed call is demanded by a call that matters alone
failed_matters : (m : Making) (a : Answer) → Demands m.tree m.work a trouble.Failed → Matters (making_ask m)
failed_matters m a (inl refuses) = refuses.1
failed_matters m a (inr (inl k)) = absurd k
failed_matters m a (inr (inr (inl k))) = absurd k
failed_matters m a (inr (inr (inr (inl (h, (d, is, k)))))) = absurd k
failed_matters m a (inr (inr (inr (inr (inl (h, (f, is, nothing, k))))))) = absurd k
failed_matters m a (inr (inr (inr (inr (inr (inl (d, begins, (e, ns, comes, k)))))))) = absurd k
failed_matters m a (inr (inr (inr (inr (inr (inr k)))))) = absurd k

not_memory : trouble.Failed ≢ trouble.Memory
not_memory e = absurd (cc (e))

caused_matters : (m : Making) (h : List Deed) (a : Answer) → kept_trouble m.work ≡ None → IsCaused m h a trouble.Failed → Matters (making_ask m)
caused_matters m h a none (inl kept) = never (sym none ∙ kept) where
  never : {X : Type 0} → None ≡ Some trouble.Failed → X
  never e = absurd (cc (e))
caused_matters m h a none (inr shown) = failed_matters m a (shown.0 not_memory)

pub told_fails : (old new : Making) (h : List Deed) (a : Answer) (turn : Turn CkptAnswer) → Tells old h a new turn → ComesToFail old new turn → Matters (making_ask old)
told_fails old new h a More tells f = caused_matters old h a f.0 (tells trouble.Failed f.1)
told_fails old new h a (Ended x) tells f = absurd f
told_fails old new h a (Stopped t) tells f =
    caused_matters old h a f.0 (subst (IsCaused old h a) f.1 (tells (subst (λ (u : Trouble). u ≢ trouble.Memory) (sym f.1) not_memory)))

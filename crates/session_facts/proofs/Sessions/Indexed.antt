-- An operation of a tree that is to have an index begins as any other of an open client, or nothing changes.
use Rattle.std.proofs.Common.{◌≡◌, ◌≤◌, ◌⊎◌, inl, inr, ℕ, Result, Ok, Err}
use Rattle.client_work.specs.Session.{Acting, BeginsIndexed, BeginsWith}
use Rattle.client_work.specs.declared.answer.Begun.{Begun}
use Rattle.db_base.specs.declared.refusal.Refused.{Refused}
use Rattle.recover_run.specs.declared.home.Home.{Home}

pub indexed_or : (tree : ℕ) (Does : Home → Acting → Begun → Type 0) (old new : Acting) (result : Result Begun Refused) → BeginsIndexed tree Does old new result
    → (new ≡ old) ⊎ ((tree ≤ 8) × BeginsWith Does old new result)
indexed_or tree Does old new (Ok begun) begins = inr begins
indexed_or tree Does old new (Err e) (inl (bad, above, same)) = inl same
indexed_or tree Does old new (Err e) (inr begins) = inr begins

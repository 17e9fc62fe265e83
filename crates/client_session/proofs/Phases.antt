-- What follows from how a session stands.
use Rattle.std.proofs.Common.{◌≡◌, List, Ok, refl, subst}
use Rattle.page_cache.specs.Cache.{Cache}
use Rattle.txn_buffer.specs.Noted.{Noted}
use Rattle.client_work.specs.declared.answer.Begun.{Begun}
use Rattle.client_work.specs.declared.op.Op.{Op}
use Rattle.client_work.specs.declared.op.Op.TheVariants as op
use Rattle.client_work.specs.declared.shown.Shown.{Shown}
use Rattle.client_work.specs.declared.shown.Shown.TheVariants.{Nothing}
use Rattle.client_work.specs.declared.work.Work.{Work}
use Rattle.client_work.specs.declared.work.Work.TheVariants.{Closed, Idle, Opening, Committing, Reading, Scanning, Looking, Paging, Folding, Closing, Renewing, Settling, Sweeping, Broken}
use Rattle.client_work.specs.Phase.{kept_in, noted_in, phase_of}
use Rattle.client_work.specs.Session.{Acting, Begins, noted_behind, shown_behind, acting_of}

-- the changes go where a close is at work, and nowhere else
pub noted_by : (w : Work) (buffer : List Noted) → noted_in (phase_of w) buffer ≡ noted_behind w buffer
noted_by Closed buffer = refl
noted_by (Idle home) buffer = refl
noted_by (Opening m) buffer = refl
noted_by (Committing m) buffer = refl
noted_by (Reading home m) buffer = refl
noted_by (Scanning home m) buffer = refl
noted_by (Looking home m) buffer = refl
noted_by (Paging home m) buffer = refl
noted_by (Folding home m) buffer = refl
noted_by (Closing lease) buffer = refl
noted_by (Renewing home) buffer = refl
noted_by (Settling m) buffer = refl
noted_by (Sweeping m) buffer = refl
noted_by (Broken lease) buffer = refl

-- the cache goes where no client is open, and nowhere else
pub kept_by : (w : Work) (c : Cache) → kept_in (phase_of w) c ≡ shown_behind w c
kept_by Closed c = refl
kept_by (Idle home) c = refl
kept_by (Opening m) c = refl
kept_by (Committing m) c = refl
kept_by (Reading home m) c = refl
kept_by (Scanning home m) c = refl
kept_by (Looking home m) c = refl
kept_by (Paging home m) c = refl
kept_by (Folding home m) c = refl
kept_by (Closing lease) c = refl
kept_by (Renewing home) c = refl
kept_by (Settling m) c = refl
kept_by (Sweeping m) c = refl
kept_by (Broken lease) c = refl

-- what was shown before does not count for what begins
begun_at : (o : Op) (old new : Acting) (b : Begun) → Begins o (acting_of old.buffer old.work old.cache Nothing) new (Ok b) → Begins o old new (Ok b)
begun_at (op.Open client) old new b is = is
begun_at op.Close old new b is = is
begun_at op.Renew old new b is = is
begun_at op.Commit old new b is = is
begun_at (op.Read tree key) old new b is = is
begun_at (op.Scan tree from to) old new b is = is
begun_at (op.Lookup tree attr) old new b is = is
begun_at (op.Page tree page) old new b is = is
begun_at (op.Tree tree) old new b is = is

pub begun : (o : Op) (old new : Acting) (buffer : List Noted) (was work : Work) (c : Cache) (earlier : Shown) (b : Begun)
    → (let s : Acting = record { buffer = buffer; work = work; cache = c; shown = earlier } in s ≡ old) → was ≡ work
    → Begins o (acting_of buffer was c Nothing) new (Ok b) → Begins o old new (Ok b)
begun o old new buffer was work c earlier b is_old is_work begins =
    let s : Acting = record { buffer = buffer; work = work; cache = c; shown = earlier } in
    subst (λ (z : Acting). Begins o z new (Ok b)) is_old
    (begun_at o s new b (subst (λ (w : Work). Begins o (acting_of buffer w c Nothing) new (Ok b)) is_work begins))

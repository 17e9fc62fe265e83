-- How a session stands, whatever is at work.
use Rattle.std.specs.Prelude.{ℕ, Bool, true, false, nat_lt, if◌then◌else◌, List, [], Option, Some, None}
use Rattle.db_base.specs.Limits.{last_indexed}
use Rattle.db_base.specs.declared.refusal.Refusal.{Refusal}
use Rattle.db_base.specs.declared.refusal.Refusal.TheVariants as rule
use Rattle.page_cache.specs.Cache.{Cache, empty_cache}
use Rattle.txn_buffer.specs.Noted.{Noted}
use Rattle.client_work.specs.declared.op.Op.{Op}
use Rattle.client_work.specs.declared.op.Op.TheVariants as op
use Rattle.client_work.specs.declared.phase.Phase.{Phase}
use Rattle.client_work.specs.declared.phase.Phase.TheVariants as phase
use Rattle.client_work.specs.declared.work.Work.{Work}
use Rattle.client_work.specs.declared.work.Work.TheVariants.{Closed, Idle, Opening, Committing, Reading, Scanning, Looking, Paging, Folding, Closing, Renewing, Settling, Sweeping, Broken}
use Rattle.client_work.specs.Session.{opening_rule_of, rule_of}

abbrev pub phase_of : Work → Phase
phase_of Closed = phase.Closed
phase_of (Idle home) = phase.Idle
phase_of (Opening m) = phase.Working
phase_of (Committing m) = phase.Working
phase_of (Reading home m) = phase.Working
phase_of (Scanning home m) = phase.Working
phase_of (Looking home m) = phase.Working
phase_of (Paging home m) = phase.Working
phase_of (Folding home m) = phase.Working
phase_of (Closing lease) = phase.Closing
phase_of (Renewing home) = phase.Working
phase_of (Settling m) = phase.Working
phase_of (Sweeping m) = phase.Working
phase_of (Broken lease) = phase.Broken

-- the rule that refuses an operation of an open client, where one does
abbrev pub rule_in : Phase → Option Refusal
rule_in phase.Closed = Some rule.NotOpen
rule_in phase.Idle = None
rule_in phase.Working = Some rule.AtWork
rule_in phase.Closing = Some rule.AtWork
rule_in phase.Broken = Some rule.Broken

-- the rule that refuses an opening, where one does
abbrev pub opening_rule_in : Phase → Option Refusal
opening_rule_in phase.Closed = None
opening_rule_in phase.Idle = Some rule.AlreadyOpen
opening_rule_in phase.Working = Some rule.AtWork
opening_rule_in phase.Closing = Some rule.AtWork
opening_rule_in phase.Broken = None

abbrev pub works_in : Phase → Bool
works_in phase.Closed = false
works_in phase.Idle = false
works_in phase.Working = true
works_in phase.Closing = true
works_in phase.Broken = false

-- a close drops what was noted
abbrev pub noted_in : Phase → List Noted → List Noted
noted_in phase.Closing buffer = []
noted_in phase buffer = buffer

-- a closed session keeps nothing of the cloud
abbrev pub kept_in : Phase → Cache → Cache
kept_in phase.Closed c = empty_cache
kept_in phase c = c

-- a tree above 8 has no index; of another one the phase decides
abbrev pub index_bar : ℕ → Option Refusal → Option Refusal
index_bar tree by = if nat_lt last_indexed tree then Some rule.BadNumber else by

-- the rule that bars an operation from beginning, where one does

abbrev pub bar_in : Op → Phase → Option Refusal
bar_in (op.Open client) p = opening_rule_in p
bar_in op.Close p = rule_in p
bar_in op.Renew p = rule_in p
bar_in op.Commit p = rule_in p
bar_in (op.Read tree key) p = rule_in p
bar_in (op.Scan tree from to) p = rule_in p
bar_in (op.Lookup tree attr) p = index_bar tree (rule_in p)
bar_in (op.Page tree page) p = rule_in p
bar_in (op.Tree tree) p = rule_in p

abbrev pub bar_of : Op → Work → Option Refusal
bar_of (op.Open client) work = opening_rule_of work
bar_of op.Close work = rule_of work
bar_of op.Renew work = rule_of work
bar_of op.Commit work = rule_of work
bar_of (op.Read tree key) work = rule_of work
bar_of (op.Scan tree from to) work = rule_of work
bar_of (op.Lookup tree attr) work = index_bar tree (rule_of work)
bar_of (op.Page tree page) work = rule_of work
bar_of (op.Tree tree) work = rule_of work

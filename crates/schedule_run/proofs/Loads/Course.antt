-- A load goes through its events: its transactions are its parts, and each was committed.
use Rattle.std.proofs.Common.{◌≡◌, ◌≤◌, ℕ, suc, List, [], ◌∷◌, ◌++◌, length, map, refl, sym, ap, subst, append_assoc, cond, Bool, true, false, arith}
use Rattle.std.specs.Prelude.{◌==◌}
use Rattle.std.proofs.lemmas.List.{append-nil}
use Rattle.db_base.specs.declared.change.Change.TheVariants.{Insert}
use Rattle.db_base.specs.declared.trouble.CommitAnswer.TheVariants.{Committed}
use Rattle.event_text.specs.declared.event.Event.{Event}
use Rattle.event_text.specs.declared.event.Event.TheVariants as event
use Rattle.load_plan.specs.Events.{Placed, insert_of, checkpoints_from, checkpoints_of, part_events, later_events, commit_events}
use Rattle.replay_meaning.specs.Standing.{Line, Standing, Renewing, Folding, Closing, standing}
use Rattle.reply_text.specs.declared.reply.Reply.{Reply}
use Rattle.reply_text.specs.declared.reply.Reply.TheVariants as reply
use Rattle.txn_buffer.specs.Noted.{Noted, AreDistinct}
use Rattle.schedule_run.proofs.Loads.Buffers.{noted_all, noted_all_last}
use Rattle.schedule_run.proofs.Loads.Lines.{Loads, IsLoading, stood, with_run, opening_loads, insert_loads, commit_loads, passes_alone, passes_run, closes_run, settles_loaded}
use Rattle.schedule_run.proofs.Loads.AtOnce.{IsFair}

-- ---- the course of a load

-- by such a last reply a load goes on behind an event
abbrev pub IsGood : Event → Reply → Type 0
IsGood (event.Open session client) r = (epoch : ℕ) × (r ≡ reply.Opened epoch)
IsGood (event.Insert session tree key payload attr) r = r ≡ reply.Noted
IsGood (event.Commit session) r = (txn : ℕ) × (r ≡ reply.Commit (Committed txn))
IsGood event.Settle r = (calls : ℕ) × (r ≡ reply.Settled calls)
IsGood e r = Unit {0}

-- these events were run, one behind another, from these lines on to those, and the load went on behind each
pub data Goes : List Event → List Line → List Line → Type 0 where
  goes_none : (lines : List Line) → Goes [] lines lines
  goes_alone : (e : Event) (events : List Event) (r : Reply) (lines after : List Line) → (r ≡ reply.Begun → ⊥) → IsGood e r → IsFair e (standing lines 1).buffer r
      → Goes events (lines ++ record { event = e; reply = r } ∷ []) after → Goes (e ∷ events) lines after
  goes_run : (e : Event) (events : List Event) (r : Reply) (lines after : List Line) → IsGood e r → IsFair e (standing lines 1).buffer reply.Begun
      → Goes events (with_run lines e r) after → Goes (e ∷ events) lines after

-- ---- the parts

-- the change by which a record is loaded
abbrev pub noted_of : Placed → Noted
noted_of p = record { tree = p.tree; change = Insert p.stored.key p.stored.payload p.stored.attr }

abbrev pub changes_of : List Placed → List Noted
changes_of part = map noted_of part

-- a load went on to these lines, with these transactions, and goes on so
record WentOn (parts : List (List Noted)) (buffer : List Noted) (events : List Event) (after : List Line) : Type 0 where
  mid : List Line
  loads : Loads parts mid buffer
  goes : Goes events mid after

-- the inserts of a part
inserts_go : (part : List Placed) (events : List Event) (parts : List (List Noted)) (buffer : List Noted) (lines after : List Line) → Goes (map insert_of part ++ events) lines after
    → Loads parts lines buffer → WentOn parts (noted_all buffer (changes_of part)) events after
inserts_go [] events parts buffer lines after go h = record { mid = lines; loads = h; goes = go }
inserts_go (p ∷ part) events parts buffer lines after (goes_alone _ _ r _ _ never good fair go) h =
    inserts_go part events parts _ (lines ++ record { event = insert_of p; reply = reply.Noted } ∷ []) after
    (subst (λ q. Goes (map insert_of part ++ events) (lines ++ record { event = insert_of p; reply = q } ∷ []) after) good go)
    (insert_loads parts lines buffer p.tree p.stored.key p.stored.payload p.stored.attr h)
inserts_go (p ∷ part) events parts buffer lines after (goes_run _ _ r _ _ good fair go) h = absurd (fair refl)

-- the commit
commit_goes : (events : List Event) (parts : List (List Noted)) (buffer : List Noted) (lines after : List Line) → Goes (event.Commit 1 ∷ events) lines after → 1 ≤ length buffer
    → Loads parts lines buffer → WentOn (parts ++ buffer ∷ []) [] events after
commit_goes events parts buffer lines after (goes_alone _ _ r _ _ never good fair go) some h =
    let noted : length (standing lines 1).buffer ≡ length buffer = ap (λ (s : Standing). length s.buffer) h.is.own_is in
    absurd (fair refl (omega arith) good.0 good.1)
commit_goes events parts buffer lines after (goes_run _ _ r _ _ good fair go) some h = record {
  mid = with_run lines (event.Commit 1) (reply.Commit (Committed good.0));
  loads = commit_loads parts lines buffer good.0 h;
  goes = subst (λ q. Goes events (with_run lines (event.Commit 1) q) after) good.1 go;
}

-- a renewal
renew_goes : (events : List Event) (parts : List (List Noted)) (buffer : List Noted) (lines after : List Line) → Goes (event.Renew 1 ∷ events) lines after → Loads parts lines buffer
    → WentOn parts buffer events after
renew_goes events parts buffer lines after (goes_alone _ _ r _ _ never good fair go) h =
    record { mid = _; loads = passes_alone parts lines buffer (event.Renew 1) Renewing r refl (λ q s. refl) (λ q n. refl) (λ q. refl) never h; goes = go }
renew_goes events parts buffer lines after (goes_run _ _ r _ _ good fair go) h =
    record { mid = _; loads = passes_run parts lines buffer (event.Renew 1) Renewing r refl (λ q s. refl) (λ q n. refl) (λ q. refl) (λ changes e. cc) (λ q s. refl) h; goes = go }

-- a checkpoint
checkpoint_goes : (tree : ℕ) (events : List Event) (parts : List (List Noted)) (buffer : List Noted) (lines after : List Line) → Goes (event.Tree 1 tree ∷ events) lines after
    → Loads parts lines buffer → WentOn parts buffer events after
checkpoint_goes tree events parts buffer lines after (goes_alone _ _ r _ _ never good fair go) h =
    record { mid = _; loads = passes_alone parts lines buffer (event.Tree 1 tree) (Folding tree) r refl (λ q s. refl) (λ q n. refl) (λ q. refl) never h; goes = go }
checkpoint_goes tree events parts buffer lines after (goes_run _ _ r _ _ good fair go) h =
    record { mid = _; loads = passes_run parts lines buffer (event.Tree 1 tree) (Folding tree) r refl (λ q s. refl) (λ q n. refl) (λ q. refl) (λ changes e. cc) (λ q s. refl) h; goes = go }

-- the checkpoints of a part
checkpoints_go : (last : ℕ) (part : List Placed) (events : List Event) (parts : List (List Noted)) (buffer : List Noted) (lines after : List Line)
    → Goes (checkpoints_from last part ++ events) lines after → Loads parts lines buffer → WentOn parts buffer events after
checkpoints_go last [] events parts buffer lines after go h = record { mid = lines; loads = h; goes = go }
checkpoints_go last (p ∷ part) events parts buffer lines after go h =
    on (λ mid next k. checkpoints_go p.tree part events parts buffer mid after next k) (p.tree == last) go
  where
    on : ((mid : List Line) → Goes (checkpoints_from p.tree part ++ events) mid after → Loads parts mid buffer → WentOn parts buffer events after)
        → (b : Bool) → Goes ((cond b [] (event.Tree 1 p.tree ∷ []) ++ checkpoints_from p.tree part) ++ events) lines after → WentOn parts buffer events after
    on further true go = further lines go h
    on further false go =
        let one = checkpoint_goes p.tree (checkpoints_from p.tree part ++ events) parts buffer lines after go h in
        further one.mid one.goes one.loads

-- a part may be one transaction: it has a record, and each tree and key once
pub record IsPart (part : List Placed) : Type 0 where
  pub some : 1 ≤ length part
  pub distinct : AreDistinct (changes_of part)

length_changes : (part : List Placed) → length (changes_of part) ≡ length part
length_changes [] = refl
length_changes (p ∷ part) = ap suc (length_changes part)

part_goes : (part : List Placed) (events : List Event) (parts : List (List Noted)) (lines after : List Line) → IsPart part → Goes (part_events part ++ events) lines after
    → Loads parts lines [] → WentOn (parts ++ changes_of part ∷ []) [] events after
part_goes part events parts lines after is go h =
    checkpoints_go 0 part events (parts ++ changes_of part ∷ []) [] committed.mid after committed.goes committed.loads
  where
    whole : Goes (map insert_of part ++ event.Commit 1 ∷ (checkpoints_of part ++ events)) lines after
    whole = subst (λ es. Goes es lines after) (append_assoc (map insert_of part) (event.Commit 1 ∷ checkpoints_of part) events) go

    noted : WentOn parts (noted_all [] (changes_of part)) (event.Commit 1 ∷ (checkpoints_of part ++ events)) after
    noted = inserts_go part (event.Commit 1 ∷ (checkpoints_of part ++ events)) parts [] lines after whole h

    committed : WentOn (parts ++ changes_of part ∷ []) [] (checkpoints_of part ++ events) after
    committed =
        let same : length (changes_of part) ≡ length part = length_changes part in
        let some : 1 ≤ length part = is.some in
        commit_goes (checkpoints_of part ++ events) parts (changes_of part) noted.mid after noted.goes (omega arith)
        (subst (λ b. Loads parts noted.mid b) (noted_all_last [] (changes_of part) is.distinct) noted.loads)

-- all of these may be
abbrev pub AreAllParts : List (List Placed) → Type 0
AreAllParts [] = Unit {0}
AreAllParts (part ∷ later) = IsPart part × AreAllParts later

abbrev pub all_changes : List (List Placed) → List (List Noted)
all_changes parts = map changes_of parts

later_go : (later : List (List Placed)) (events : List Event) (parts : List (List Noted)) (lines after : List Line) → AreAllParts later → Goes (later_events later ++ events) lines after
    → Loads parts lines [] → WentOn (parts ++ all_changes later) [] events after
later_go [] events parts lines after are go h = subst (λ ps. WentOn ps [] events after) (sym (append-nil parts)) (record { mid = lines; loads = h; goes = go })
later_go (part ∷ later) events parts lines after are go h =
    subst (λ ps. WentOn ps [] events after) (append_assoc parts (changes_of part ∷ []) (all_changes later))
    (later_go later events (parts ++ changes_of part ∷ []) one.mid after are.1 one.goes one.loads)
  where
    renewed : WentOn parts [] ((part_events part ++ later_events later) ++ events) after
    renewed = renew_goes ((part_events part ++ later_events later) ++ events) parts [] lines after go h

    one : WentOn (parts ++ changes_of part ∷ []) [] (later_events later ++ events) after
    one =
        part_goes part (later_events later ++ events) parts renewed.mid after are.0
        (subst (λ es. Goes es renewed.mid after) (append_assoc (part_events part) (later_events later) events) renewed.goes) renewed.loads

parts_go : (all : List (List Placed)) (events : List Event) (lines after : List Line) → AreAllParts all → Goes (commit_events all ++ events) lines after → Loads [] lines []
    → WentOn (all_changes all) [] events after
parts_go [] events lines after are go h = record { mid = lines; loads = h; goes = go }
parts_go (part ∷ later) events lines after are go h =
    let one = part_goes part (later_events later ++ events) [] lines after are.0
    (subst (λ es. Goes es lines after) (append_assoc (part_events part) (later_events later) events) go) h in
    later_go later events (changes_of part ∷ []) one.mid after are.1 one.goes one.loads

-- ---- the whole

-- the events of a load of these parts
abbrev pub events_of_parts : List (List Placed) → List Event
events_of_parts all = event.Open 1 1 ∷ (commit_events all ++ event.Close 1 ∷ event.Settle ∷ [])

-- a load is through: its transactions are its parts, and the last line is the settling's
pub record IsThrough (all : List (List Placed)) (after : List Line) : Type 0 where
  pub own : Standing
  pub loading : IsLoading (all_changes all) after own
  pub before : List Line
  pub calls : ℕ
  pub last : after ≡ before ++ record { event = event.Settle; reply = reply.Settled calls } ∷ []

opens_so : (events : List Event) (after : List Line) → Goes (event.Open 1 1 ∷ events) [] after → WentOn [] [] events after
opens_so events after (goes_alone _ _ r _ _ never good fair go) = absurd (fair good.0 good.1)
opens_so events after (goes_run _ _ r _ _ good fair go) = record {
  mid = with_run [] (event.Open 1 1) (reply.Opened good.0);
  loads = opening_loads good.0;
  goes = subst (λ q. Goes events (with_run [] (event.Open 1 1) q) after) good.1 go;
}

-- a load that has noted something is closed
record Closes (parts : List (List Noted)) (events : List Event) (after : List Line) : Type 0 where
  left : List Noted
  went : WentOn parts left events after

closes_so : (parts : List (List Noted)) (buffer : List Noted) (events : List Event) (lines after : List Line) → Goes (event.Close 1 ∷ events) lines after → Loads parts lines buffer
    → Closes parts events after
closes_so parts buffer events lines after (goes_alone _ _ r _ _ never good fair go) h = record {
  left = buffer;
  went = record { mid = _; loads = passes_alone parts lines buffer (event.Close 1) Closing r refl (λ q s. refl) (λ q n. refl) (λ q. refl) never h; goes = go };
}
closes_so parts buffer events lines after (goes_run _ _ r _ _ good fair go) h =
    let c = closes_run parts lines buffer r h in
    record { left = c.0; went = record { mid = _; loads = c.1; goes = go } }

settles_so : (all : List (List Placed)) (buffer : List Noted) (lines after : List Line) → Goes (event.Settle ∷ []) lines after → Loads (all_changes all) lines buffer → IsThrough all after
settles_so all buffer lines after (goes_alone _ _ r _ _ never good fair (goes_none _)) h = record {
  own = stood h.posture buffer;
  loading = settles_loaded (all_changes all) lines (stood h.posture buffer) r h.is;
  before = lines;
  calls = good.0;
  last = ap (λ q. lines ++ record { event = event.Settle; reply = q } ∷ []) good.1;
}
settles_so all buffer lines after (goes_run _ _ r _ _ good fair go) h = absurd (fair refl)

pub load_goes : (all : List (List Placed)) (after : List Line) → AreAllParts all → Goes (events_of_parts all) [] after → IsThrough all after
load_goes all after are go =
    let opened = opens_so (commit_events all ++ event.Close 1 ∷ event.Settle ∷ []) after go in
    let loaded = parts_go all (event.Close 1 ∷ event.Settle ∷ []) opened.mid after are opened.goes opened.loads in
    let closed = closes_so (all_changes all) [] (event.Settle ∷ []) loaded.mid after loaded.goes loaded.loads in
    settles_so all closed.left closed.went.mid after closed.went.goes closed.went.loads

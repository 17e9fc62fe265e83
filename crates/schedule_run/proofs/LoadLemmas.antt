-- The events of a load, one behind another.
use Rattle.std.proofs.Common.{suc, zero, ◌≡◌, ◌<◌, ◌+◌, ◌-◌, ◌/◌, ℕ, List, [], ◌∷◌, ◌++◌, map, take, drop, length, OnOk, Result, Ok, Err, Bool, true, false, if◌then◌else◌, refl, sym, ap, subst, ◌∙◌, append_assoc, arith, length-append}
use Rattle.std.proofs.lemmas.Bool.{eq-eqb}
use Rattle.cloud_trait.specs.Seen.{Seen}
use Rattle.dump_text.specs.declared.dump.DumpedTree.{DumpedTree}
use Rattle.event_text.specs.declared.event.Event.{Event}
use Rattle.event_text.specs.declared.event.Event.TheVariants as event
use Rattle.load_plan.specs.Events.{Placed, records_of, parts, parts_of, transactions, insert_of, checkpoint_at, checkpoints_from, checkpoints_of, part_events, later_events, commit_events, load_events}
use Rattle.reply_text.specs.declared.reply.Reply.{Reply}
use Rattle.reply_text.specs.declared.reply.Reply.TheVariants as reply
use Rattle.schedule_run.specs.Answered.{IsNoReport}
use Rattle.schedule_run.specs.InPlay.{Play}
use Rattle.schedule_run.specs.Load.{goes_on, GoOn, stop_of, RanEach, ran_none, ran_more, WentThrough, StopsAt, stops_behind, stops_at, stops_before, GoesThrough, IsAmong, IsPassedOver, Runs, answer_of, calls_of, Settles, WentThroughAll, Loads}
use Rattle.schedule_run.specs.Play.{IsRun, StopsRun}
use Rattle.schedule_run.specs.declared.load.LoadStop.{LoadStop}
use Rattle.schedule_run.specs.declared.load.LoadStop.TheVariants.{Settling, Memory}
use Rattle.schedule_run.specs.declared.load.Loaded.{Loaded}

-- ---- events behind events

append_none : {A : Type 0} → (xs : List A) → xs ++ [] ≡ xs
append_none [] = refl
append_none (x ∷ xs) = ap (λ ys. x ∷ ys) (append_none xs)

one_ran : (e : Event) (r : Reply) (s t : Seen) (old new : Play) → IsNoReport e → IsRun e r s t old new → RanEach s old (e ∷ []) (r ∷ []) t new
one_ran e r s t old new none run = ran_more [] e [] r s t old new ran_none none run

ran_both : (s t : Seen) (old mid : Play) (xs : List Event) (rs : List Reply) → RanEach s old xs rs t mid → (ys : List Event) (qs : List Reply) (z : Seen) (new : Play)
    → RanEach t mid ys qs z new → RanEach s old (xs ++ ys) (rs ++ qs) z new
ran_both s t old mid xs rs first _ _ _ _ ran_none =
    subst (λ es. RanEach s old es (rs ++ []) t mid) (sym (append_none xs)) (subst (λ qs. RanEach s old xs qs t mid) (sym (append_none rs)) first)
ran_both s t old mid xs rs first _ _ z new (ran_more ys e qs q y _ play _ ran none run) =
    subst (λ es. RanEach s old es (rs ++ (qs ++ q ∷ [])) z new) (append_assoc xs ys (e ∷ []))
    (subst (λ ps. RanEach s old ((xs ++ ys) ++ e ∷ []) ps z new) (append_assoc rs qs (q ∷ []))
    (ran_more (xs ++ ys) e (rs ++ qs) q y z play new (ran_both s t old mid xs rs first ys qs y play ran) none run))

go_both : (xs ys : List Event) (rs qs : List Reply) → GoOn xs rs → GoOn ys qs → GoOn (xs ++ ys) (rs ++ qs)
go_both [] ys [] qs first second = second
go_both [] ys (r ∷ rs) qs first second = absurd first
go_both (x ∷ xs) ys [] qs first second = absurd first
go_both (x ∷ xs) ys (r ∷ rs) qs first second = (first.0, go_both xs ys rs qs first.1 second)

pub went_none : (s : Seen) (play : Play) → WentThrough [] s s play play
went_none s play = record { replies = []; ran = ran_none; well = tt }

pub went_both : (xs ys : List Event) (s t z : Seen) (old mid new : Play) → WentThrough xs s t old mid → WentThrough ys t z mid new → WentThrough (xs ++ ys) s z old new
went_both xs ys s t z old mid new first second = record {
  replies = first.replies ++ second.replies;
  ran = ran_both s t old mid xs first.replies first.ran ys second.replies z new second.ran;
  well = go_both xs ys first.replies second.replies first.well second.well;
}

-- the load stopped among later events, and among earlier ones
pub stops_later : (xs ys : List Event) (stop : LoadStop) (s t z : Seen) (old mid : Play) → WentThrough xs s t old mid → StopsAt ys stop t z mid → StopsAt (xs ++ ys) stop s z old
stops_later xs ys stop s t z old mid first (stops_behind earlier later e r y play new at went none run ends is) =
    stops_behind (xs ++ earlier) later e r y play new (ap (λ es. xs ++ es) at ∙ sym (append_assoc xs earlier (e ∷ later)))
    (went_both xs earlier s t y old mid play first went) none run ends is
stops_later xs ys stop s t z old mid first (stops_at earlier later e y play new at went none stops is) =
    stops_at (xs ++ earlier) later e y play new (ap (λ es. xs ++ es) at ∙ sym (append_assoc xs earlier (e ∷ later)))
    (went_both xs earlier s t y old mid play first went) none stops is
stops_later xs ys stop s t z old mid first (stops_before earlier later play at went is) =
    stops_before (xs ++ earlier) later play (ap (λ es. xs ++ es) at ∙ sym (append_assoc xs earlier later)) (went_both xs earlier s t z old mid play first went) is

pub stops_sooner : (xs ys : List Event) (stop : LoadStop) (s t : Seen) (old : Play) → StopsAt xs stop s t old → StopsAt (xs ++ ys) stop s t old
stops_sooner xs ys stop s t old (stops_behind earlier later e r y play new at went none run ends is) =
    stops_behind earlier (later ++ ys) e r y play new (ap (λ es. es ++ ys) at ∙ append_assoc earlier (e ∷ later) ys) went none run ends is
stops_sooner xs ys stop s t old (stops_at earlier later e y play new at went none stops is) =
    stops_at earlier (later ++ ys) e y play new (ap (λ es. es ++ ys) at ∙ append_assoc earlier (e ∷ later) ys) went none stops is
stops_sooner xs ys stop s t old (stops_before earlier later play at went is) =
    stops_before earlier (later ++ ys) play (ap (λ es. es ++ ys) at ∙ append_assoc earlier later ys) went is

pub goes_later : (xs ys : List Event) (result : Result (Unit {0}) LoadStop) (s t z : Seen) (old mid new : Play) → WentThrough xs s t old mid → GoesThrough ys result t z mid new
    → GoesThrough (xs ++ ys) result s z old new
goes_later xs ys (Ok done) s t z old mid new first second = went_both xs ys s t z old mid new first second
goes_later xs ys (Err stop) s t z old mid new first second = stops_later xs ys stop s t z old mid first second

-- ---- one event

pub goes_by : (e : Event) (r : Reply) (s t : Seen) (old new : Play) → IsNoReport e → IsRun e r s t old new → GoesThrough (e ∷ []) (answer_of e r) s t old new
goes_by e r s t old new none run = on (goes_on e r) refl
  where
    on : (b : Bool) → goes_on e r ≡ b → GoesThrough (e ∷ []) (if b then Ok tt else Err (stop_of e r)) s t old new
    on true goes = record { replies = r ∷ []; ran = one_ran e r s t old new none run; well = (goes, tt) }
    on false goes = stops_behind [] [] e r s old new refl (went_none s old) none run goes refl

pub passes : (e : Event) (r : Reply) (s t : Seen) (old new : Play) → IsPassedOver e → IsRun e r s t old new → WentThrough (e ∷ []) s t old new
passes e r s t old new passed run = record { replies = r ∷ []; ran = one_ran e r s t old new passed.unasked run; well = (passed.goes r, tt) }

pub out_at : (e : Event) (stop : LoadStop) (s t : Seen) (old new : Play) → IsNoReport e → Runs e (Err stop) s t old new → StopsAt (e ∷ []) stop s t old
out_at e stop s t old new none runs = stops_at [] [] e s old new refl (went_none s old) none runs.0 runs.1

pub out_before : (events : List Event) (stop : LoadStop) (s : Seen) (old : Play) → stop ≡ Memory → StopsAt events stop s s old
out_before events stop s old is = stops_before [] events old refl (went_none s old) is

-- what is run asks for no report
pub no_opening : IsNoReport (event.Open 1 1)
no_opening tree asked = absurd (cc)

pub no_insert : (p : Placed) → IsNoReport (insert_of p)
no_insert p tree asked = absurd (cc)

pub no_commit : IsNoReport (event.Commit 1)
no_commit tree asked = absurd (cc)

pub no_settling : IsNoReport event.Settle
no_settling tree asked = absurd (cc)

pub passed_renewal : IsPassedOver (event.Renew 1)
passed_renewal = record { goes = λ r. refl; unasked = λ tree asked. absurd (cc) }

pub passed_closing : IsPassedOver (event.Close 1)
passed_closing = record { goes = λ r. refl; unasked = λ tree asked. absurd (cc) }

pub settles_by : (r : Reply) (s t : Seen) (old new : Play) → IsRun event.Settle r s t old new → Settles (calls_of r) s t old new
settles_by (reply.Settled calls) s t old new run = run
settles_by (reply.NotSettled why) s t old new run =
    stops_behind [] [] event.Settle (reply.NotSettled why) s old new refl (went_none s old) (λ tree asked. absurd (cc)) run refl refl
settles_by r s t old new run = stops_behind [] [] event.Settle r s old new refl (went_none s old) (λ tree asked. absurd (cc)) run refl refl

-- ---- events of a list

pub among_start : (events : List Event) (s : Seen) (play : Play) → IsAmong events events s s play play
among_start events s play = record { done = []; at = refl; went = went_none s play }

pub among_more : (events xs left : List Event) (s t z : Seen) (old mid new : Play) → IsAmong events (xs ++ left) s t old mid → WentThrough xs t z mid new → IsAmong events left s z old new
among_more events xs left s t z old mid new among went = record {
  done = among.done ++ xs;
  at = among.at ∙ sym (append_assoc among.done xs left);
  went = went_both among.done xs s t z old mid new among.went went;
}

pub among_stop : (events xs left : List Event) (stop : LoadStop) (s t z : Seen) (old mid : Play) → IsAmong events (xs ++ left) s t old mid → StopsAt xs stop t z mid → StopsAt events stop s z old
among_stop events xs left stop s t z old mid among stops =
    subst (λ es. StopsAt es stop s z old) (sym among.at)
    (stops_later among.done (xs ++ left) stop s t z old mid among.went (stops_sooner xs left stop t z mid stops))

pub among_all : (events : List Event) (s t : Seen) (old new : Play) → IsAmong events [] s t old new → WentThrough events s t old new
among_all events s t old new among = subst (λ es. WentThrough es s t old new) (sym (among.at ∙ append_none among.done)) among.went

-- ---- the lists of a load

-- so many are left where one is taken
left_more : (n count : ℕ) → n < count → count - n ≡ suc (count - (n + 1))
left_more n count less = omega (arith, less)

none_taken : (count : ℕ) → count ≡ count - 0
none_taken count = omega arith

left_none : (n count : ℕ) → n ≡ count → count - n ≡ 0
left_none n count over = omega (arith, over)

take_next : (n : ℕ) (p : Placed) (left rest : List Placed) → n < 200 → left ≡ p ∷ rest → take (200 - n) left ≡ p ∷ take (200 - (n + 1)) rest
take_next n p left rest less is = ap (λ ps. take (200 - n) ps) is ∙ ap (λ k. take k (p ∷ rest)) (left_more n 200 less)

pub drop_next : (n : ℕ) (p : Placed) (left rest : List Placed) → n < 200 → left ≡ p ∷ rest → drop (200 - n) left ≡ drop (200 - (n + 1)) rest
drop_next n p left rest less is = ap (λ ps. drop (200 - n) ps) is ∙ ap (λ k. drop k (p ∷ rest)) (left_more n 200 less)

take_none : (k : ℕ) → take {A = Placed} k [] ≡ []
take_none zero = refl
take_none (suc k) = refl

drop_none : (k : ℕ) → drop {A = Placed} k [] ≡ []
drop_none zero = refl
drop_none (suc k) = refl

-- the inserts of the records that are left, and the checkpoints behind a last tree
abbrev pub inserts_left : ℕ → List Placed → List Event
inserts_left n left = map insert_of (take (200 - n) left)

abbrev pub checkpoints_left : ℕ → ℕ → List Placed → List Event
checkpoints_left n last left = checkpoints_from last (take (200 - n) left)

abbrev pub parts_left : ℕ → ℕ → List Placed → List Event
parts_left n count left = later_events (parts (count - n) left)

pub insert_next : (n : ℕ) (p : Placed) (left rest : List Placed) → n < 200 → left ≡ p ∷ rest → inserts_left n left ≡ (insert_of p ∷ []) ++ inserts_left (n + 1) rest
insert_next n p left rest less is = ap (λ ps. map insert_of ps) (take_next n p left rest less is)

pub checkpoint_next : (n last : ℕ) (p : Placed) (left rest : List Placed) → n < 200 → left ≡ p ∷ rest
    → checkpoints_left n last left ≡ checkpoint_at last p.tree ++ checkpoints_left (n + 1) p.tree rest
checkpoint_next n last p left rest less is = ap (λ ps. checkpoints_from last ps) (take_next n p left rest less is)

pub part_next : (n count : ℕ) (left : List Placed) → n < count
    → parts_left n count left ≡ (event.Renew 1 ∷ part_events (take 200 left)) ++ parts_left (n + 1) count (drop 200 left)
part_next n count left less = ap (λ k. later_events (parts k left)) (left_more n count less)

pub inserts_end : (n : ℕ) (left : List Placed) → n ≡ 200 → inserts_left n left ≡ []
inserts_end n left over = ap (λ k. map insert_of (take k left)) (left_none n 200 over)

pub drop_end : (n : ℕ) (left : List Placed) → n ≡ 200 → drop (200 - n) left ≡ left
drop_end n left over = ap (λ k. drop k left) (left_none n 200 over)

pub checkpoints_end : (n last : ℕ) (left : List Placed) → n ≡ 200 → checkpoints_left n last left ≡ []
checkpoints_end n last left over = ap (λ k. checkpoints_from last (take k left)) (left_none n 200 over)

pub parts_start : (count : ℕ) (left : List Placed) → later_events (parts count left) ≡ parts_left 0 count left
parts_start count left = ap (λ k. later_events (parts k left)) (none_taken count)

pub parts_end : (n count : ℕ) (left : List Placed) → n ≡ count → parts_left n count left ≡ []
parts_end n count left over = ap (λ k. later_events (parts k left)) (left_none n count over)

pub inserts_out : (n : ℕ) (left : List Placed) → left ≡ [] → inserts_left n left ≡ []
inserts_out n left is = ap (λ ps. map insert_of (take (200 - n) ps)) is ∙ ap (λ ps. map insert_of ps) (take_none (200 - n))

pub drop_out : (n : ℕ) (left : List Placed) → left ≡ [] → drop (200 - n) left ≡ []
drop_out n left is = ap (λ ps. drop (200 - n) ps) is ∙ drop_none (200 - n)

pub checkpoints_out : (n last : ℕ) (left : List Placed) → left ≡ [] → checkpoints_left n last left ≡ []
checkpoints_out n last left is = ap (λ ps. checkpoints_from last (take (200 - n) ps)) is ∙ ap (λ ps. checkpoints_from last ps) (take_none (200 - n))

-- where these events are left, whatever they are called
pub among_same : (events left other : List Event) (s t : Seen) (old new : Play) → left ≡ other → IsAmong events left s t old new → IsAmong events other s t old new
among_same events left other s t old new same among = subst (λ es. IsAmong events es s t old new) same among

-- a checkpoint of the last tree is none
pub skips_last : (last tree : ℕ) (s : Seen) (play : Play) → tree ≡ last → WentThrough (checkpoint_at last tree) s s play play
skips_last last tree s play same =
    subst (λ b. WentThrough (if b then [] else (event.Tree 1 tree ∷ [])) s s play play) (sym (eq-eqb tree last same)) (went_none s play)

nonzero : (n : ℕ) → (n ≡ 0 → ⊥) → 0 < n
nonzero zero some = absurd (some refl)
nonzero (suc n) some = omega arith

-- so many are made
made_of : (trees : List DumpedTree) (records sum made : ℕ) → records ≡ length (records_of trees) → sum ≡ records + 199 → made ≡ sum / 200
    → made ≡ transactions (length (records_of trees))
made_of trees records sum made counted added divided = divided ∙ ap (λ n. n / 200) (added ∙ ap (λ n. n + 199) counted)

-- no transaction is made of no record
pub none_made : (trees : List DumpedTree) (records sum made : ℕ) → records ≡ length (records_of trees) → sum ≡ records + 199 → made ≡ sum / 200 → made ≡ 0
    → commit_events (parts_of trees) ≡ []
none_made trees records sum made counted added divided none =
    ap (λ n. commit_events (parts n (records_of trees))) (sym (made_of trees records sum made counted added divided) ∙ none)

pub some_made : (trees : List DumpedTree) (records sum made : ℕ) → records ≡ length (records_of trees) → sum ≡ records + 199 → made ≡ sum / 200 → (made ≡ 0 → ⊥)
    → commit_events (parts_of trees) ≡ part_events (take 200 (records_of trees)) ++ later_events (parts (made - 1) (drop 200 (records_of trees)))
some_made trees records sum made counted added divided some =
    let one : made ≡ suc (made - 1) = omega (arith, nonzero made some) in
    ap (λ n. commit_events (parts n (records_of trees))) (sym (made_of trees records sum made counted added divided) ∙ one)

-- ---- a whole load

-- the settling behind all other events
pub went_all : (trees : List DumpedTree) (loaded : Loaded) (s t z : Seen) (old mid new : Play)
    → WentThrough (event.Open 1 1 ∷ (commit_events (parts_of trees) ++ event.Close 1 ∷ [])) s t old mid → IsRun event.Settle (reply.Settled loaded.calls) t z mid new
    → loaded.records ≡ length (records_of trees) → WentThroughAll trees loaded s z old new
went_all trees loaded s t z old mid new went run records = record {
  replies = went.replies;
  ran = subst (λ es. RanEach s old es (went.replies ++ reply.Settled loaded.calls ∷ []) z new) whole
      (ran_more (event.Open 1 1 ∷ (commit_events (parts_of trees) ++ event.Close 1 ∷ [])) event.Settle went.replies (reply.Settled loaded.calls) t z mid new went.ran
      (λ tree asked. absurd (cc)) run);
  well = subst (λ es. GoOn es (went.replies ++ reply.Settled loaded.calls ∷ [])) whole
      (go_both (event.Open 1 1 ∷ (commit_events (parts_of trees) ++ event.Close 1 ∷ [])) (event.Settle ∷ []) went.replies (reply.Settled loaded.calls ∷ []) went.well (refl, tt));
  records = records;
}
  where
    whole : (event.Open 1 1 ∷ (commit_events (parts_of trees) ++ event.Close 1 ∷ [])) ++ event.Settle ∷ [] ≡ load_events trees
    whole = ap (λ es. event.Open 1 1 ∷ es) (append_assoc (commit_events (parts_of trees)) (event.Close 1 ∷ []) (event.Settle ∷ []))

-- an answer that brings something with it where it is well
pub brings : (r : Result (Unit {0}) LoadStop) (P : Type 0) → P → OnOk r P
brings (Ok done) P p = p
brings (Err stop) P p = tt

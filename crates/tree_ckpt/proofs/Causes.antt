-- Why a tree checkpoint stops.
use Rattle.std.proofs.Common.{◌≡◌, ◌≢◌, ℕ, Bool, true, false, cond, List, [], ◌∷◌, Option, Some, None, Result, Ok, Err, refl, sym, ap, subst, ◌∙◌, inl, inr, ◌⊎◌, arith}
use Rattle.std.specs.Prelude.{◌==◌, ◌||◌, ◌&&◌, not, is_some, find, unwrap_or}
use Rattle.db_base.specs.Change.{key_of}
use Rattle.db_base.specs.declared.names.Lock.TheVariants as lock
use Rattle.db_base.specs.declared.names.ObjName.TheVariants as object
use Rattle.db_base.specs.declared.names.Place.TheVariants as place
use Rattle.db_base.specs.declared.names.QueueName.TheVariants as queue
use Rattle.db_base.specs.declared.trouble.Trouble.TheVariants as trouble
use Rattle.db_base.specs.declared.trouble.Counter.TheVariants as counter
use Rattle.node_codec.specs.Inner.{Inner}
use Rattle.node_codec.proofs.NodeLemmas.{not_below_empty}
use Rattle.log_codec.specs.Pu.{pu_offset}
use Rattle.cloud_trait.specs.declared.answer.Answer.TheVariants as call
use Rattle.cloud_trait.proofs.ViewLemmas.{got_of-ok, done_of-ok}
use Rattle.cloud_trait.specs.Ask.{Take, GetHeld, PutHeld, Receive, Release}
use Rattle.ckpt_parts.specs.Intakes.{has_items, items_of, message_damage, TakesItems}
use Rattle.ckpt_parts.specs.Leasing.{without_newest}
use Rattle.run_cursor.specs.Covered.{is_seen}
use Rattle.tree_phases.specs.Placing.{put_in_hand, has_nothing}
use Rattle.tree_phases.specs.Read.{tree_held}
use Rattle.tree_phases.specs.Descent.{with_node}
use Rattle.tree_phases.specs.declared.folding.Left.TheVariants.{Right, Handled}
use Rattle.tree_phases.specs.Folding.{folding_ask, folding_next}
use Rattle.tree_phases.specs.Rising as rise
use Rattle.tree_ckpt.specs.declared.work.Onward.TheVariants as onward
use Rattle.tree_ckpt.specs.declared.work.Work.TheVariants as work
use Rattle.tree_ckpt.specs.Work.{work_ask, take_tree}
use Rattle.tree_ckpt.specs.Moves.{Step, leaf_of, root_entry, down_from, key_from, next_key, onward_from, chart_of, Leads}
use Rattle.tree_ckpt.specs.Making.{Making, new_making, making_ask, MakingLeads, KeepsLeases}
use Rattle.tree_ckpt.specs.Leases.{Went}
use Rattle.tree_ckpt.specs.Causes.{Calls, Brings, WasPut, WasRoot, Shows, BreaksMessage, ticks_of, kept_trouble}
use Rattle.tree_ckpt.specs.Way.{WasKept, behind, ComesOver, BreaksAt, BreaksFrom, from_root}
use Rattle.tree_ckpt.specs.Due.{Due, LeafDue, NodeDue, RootDue, IsUp, IsDue, Spends}
use Rattle.tree_ckpt.specs.Demands.{Refuses, BreaksLeaf, Demands}
use Rattle.tree_ckpt.specs.Stepped.{Tells}
use Rattle.tree_ckpt.proofs.Words.{Trouble, Lock, ObjName, PuItem, Answer, Message, CkptAnswer, Turn, More, Ended, Stopped, Claim, Next, Goes, Ends, Stops, Took, Deed, Came, calls_of, given_of, got_of, received_of, done_of, Fits, Ask, PagePut, Leases, Chart, KeptNode, Placing, Descent, Folding, Left, Rising, Coming, Held, Onward, Work}
use Rattle.tree_ckpt.proofs.Outcomes.{Seeks, Descends, Ascends, Fails, Comes, comes}
use Rattle.tree_ckpt.proofs.Outcomes as step
use Rattle.tree_ckpt.proofs.Brought.{Charted, OnWay, root_more, chart_more, way_more}
use Rattle.tree_ckpt.proofs.Folds.{not_empty}
use Rattle.tree_ckpt.proofs.Plots.{KnowsLeaf, LeafSpends, LeafTells, PlacedTells, HasPut, reads_tell, lands_tell}
use Rattle.tree_ckpt.proofs.LeafOutcomes.{Reads}
use Rattle.tree_ckpt.proofs.LeafOutcomes as leaf
use Rattle.tree_ckpt.proofs.RiseOutcomes.{IsRising}
use Rattle.tree_ckpt.proofs.RiseOutcomes as climb
use Rattle.tree_ckpt.proofs.Rises.{KnowsSpent, UpSpends, RiseTells, PutStops, PutTells, rise_tells, rise_put_tells}
use Rattle.tree_ckpt.proofs.Spent.{IsSpentFor}
use Rattle.tree_ckpt.proofs.Ways.{KnowsWay, WayTells, NodeBreaks, GotTells, down_tells, gets_tell}
use Rattle.tree_ckpt.proofs.WayOutcomes.{Gets, gets}
use Rattle.tree_ckpt.proofs.WayOutcomes as way

-- ---- what is known where it stands

-- on the way to a leaf
pub record KnowsComing (tree : ℕ) (c : Coming) (cs : Calls) : Type 0 where
  pub chart : Charted tree c.chart cs
  pub way : OnWay tree 0 c.low c.page c.visited cs

abbrev pub KnowsOnward : ℕ → Onward → Calls → Type 0
KnowsOnward tree (onward.Right c) cs = KnowsComing tree c cs
KnowsOnward tree (onward.Handled c) cs = Charted tree c cs

abbrev pub KnowsAt : ℕ → Work → Calls → Type 0
KnowsAt tree work.TakingTree cs = Unit {0}
KnowsAt tree (work.GettingTree l) cs = Unit {0}
KnowsAt tree (work.Receiving l root) cs = WasRoot tree (tree_held root) cs
KnowsAt tree (work.Descending h d) cs = KnowsWay tree d cs
KnowsAt tree (work.TakingPage h c) cs = KnowsComing tree c cs
KnowsAt tree (work.Folding h f) cs = KnowsLeaf tree f cs
KnowsAt tree (work.ReleasingPage h l o) cs = KnowsOnward tree o cs
KnowsAt tree (work.LeftPage h o) cs = ⊥
KnowsAt tree (work.Rising h r) cs = Charted tree r.chart cs × IsRising r × KnowsSpent tree r cs
KnowsAt tree (work.Deleting h applied) cs = Unit {0}
KnowsAt tree (work.Releasing held end) cs = Unit {0}
KnowsAt tree work.Finished cs = ⊥

-- what the work at a leaf tells of its call
abbrev LeafTold : ℕ → Calls → Ask → Answer → Folding → Next Folding Left → Type 0
LeafTold tree cs ask a f (Goes g) = KnowsLeaf tree g cs
LeafTold tree cs ask a f (Ends g (Right low page)) = Charted tree g.chart cs × OnWay tree 0 low page g.visited cs
LeafTold tree cs ask a f (Ends g Handled) = Charted tree g.chart cs
LeafTold tree cs ask a f (Stops g t) =
    Shows tree cs ask a t × (t ≢ trouble.Memory → Refuses ask a t ⊎ ((has_nothing f.placing ≡ true) × (BreaksLeaf tree f a t ⊎ LeafSpends f a t)))

leaf_tells_told : (tree : ℕ) (cs : Calls) (ask : Ask) (a : Answer) (f : Folding) → has_nothing f.placing ≡ true → (next : Next Folding Left) → LeafTells tree cs ask a f next
    → LeafTold tree cs ask a f next
leaf_tells_told tree cs ask a f nothing (Goes g) k = k
leaf_tells_told tree cs ask a f nothing (Ends g (Right low page)) k = k
leaf_tells_told tree cs ask a f nothing (Ends g Handled) k = k
leaf_tells_told tree cs ask a f nothing (Stops g t) k = (k.0, λ other. inr (nothing, k.1))

placed_told : (tree : ℕ) (cs : Calls) (ask : Ask) (a : Answer) (f : Folding) (next : Next Folding Left) → PlacedTells tree cs ask a next → LeafTold tree cs ask a f next
placed_told tree cs ask a f (Goes g) k = k
placed_told tree cs ask a f (Ends g (Right low page)) k = absurd k
placed_told tree cs ask a f (Ends g Handled) k = k
placed_told tree cs ask a f (Stops g t) k = absurd k

-- what the way up tells of its call
abbrev RiseTold : ℕ → Calls → Ask → Answer → Rising → Next Rising (Unit {0}) → Type 0
RiseTold tree cs ask a r (Goes n) = Charted tree n.chart cs × IsRising n × KnowsSpent tree n cs
RiseTold tree cs ask a r (Ends n x) = Unit {0}
RiseTold tree cs ask a r (Stops n t) =
    Shows tree cs ask a t
    × (t ≢ trouble.Memory
    → Refuses ask a t
    ⊎ ((a ≡ call.Done) × PutStops tree cs ask a r t))

risen_told : (tree : ℕ) (cs : Calls) (ask : Ask) (a : Answer) (r : Rising) → a ≡ call.Done → (next : Next Rising (Unit {0})) → PutTells tree cs ask a r next → RiseTold tree cs ask a r next
risen_told tree cs ask a r done (Goes n) k = k
risen_told tree cs ask a r done (Ends n x) k = k
risen_told tree cs ask a r done (Stops n t) k = (k.0, λ other. inr (done, k.1))

-- a way over nodes that were got before is not stopped where none was
no_kept : (d : Descent) (n : Inner) → d.chart.nodes ≡ [] → WasKept d n → ⊥
no_kept d n none kept = never (sym (ap (find (λ (k : KeptNode). k.page == d.page)) none) ∙ kept.1) where
  never : None ≡ Some kept.0 → ⊥
  never e = absurd (cc (e))

no_break : (tree : ℕ) (d : Descent) (t : Trouble) → d.chart.nodes ≡ [] → d.visited ≡ [] → BreaksAt tree d t → ⊥
no_break tree d (trouble.Damaged where_it_is at) none first b = no_kept d b.1.0 none b.1.1
no_break tree d (trouble.BadFence page expected found) none first b = no_kept d b.1.0 none b.1.1
no_break tree d (trouble.Loop page) none first b = never (sym (ap (λ (ps : List ℕ). is_seen ps d.page) first) ∙ b.1) where
  never : false ≡ true → ⊥
  never e = absurd (cc (e))
no_break tree d t none first b = b

no_way : (d e : Descent) (ns : List Inner) → d.chart.nodes ≡ [] → ComesOver ns d e → e ≡ d
no_way d e [] none comes = comes
no_way d e (n ∷ ns) none comes =
    let same : comes.0 ≡ d = no_way d comes.0 ns none comes.1 in
    absurd (no_kept comes.0 n (ap (λ (f : Descent). f.chart.nodes) same ∙ none) comes.2.1)

never_breaks : (tree : ℕ) (d : Descent) (t : Trouble) → d.chart.nodes ≡ [] → d.visited ≡ [] → BreaksFrom tree d t → ⊥
never_breaks tree d t none first b = no_break tree d t none first (subst (λ (e : Descent). BreaksAt tree e t) (no_way d b.0 b.1 none b.2) b.3)

-- the first key of a run is its first one
first_key : (items : List PuItem) → has_items items ≡ true → (key : List ℕ) × (key_from [] items ≡ Some key)
first_key [] e = absurd (cc (e))
first_key (x ∷ xs) e =
    (key_of x.rec.change, ap (λ (b : Bool). cond b (key_from [] xs) (Some (key_of x.rec.change))) (not_below_empty (key_of x.rec.change)))

-- what is due has something spent
spends : (w : Work) (a : Answer) (due : Due) (t : Trouble) → IsDue w a due → IsSpentFor due t → Spends w a t
spends w a due (trouble.Exhausted counter.Version) is h = inl (due, is, h)
spends w a due (trouble.Exhausted counter.Pages) is h = (due, is, h)
spends w a due (trouble.Exhausted what) is h = absurd h
spends w a due t is h = absurd h

up_spends : (w : Work) (a : Answer) (up : Rising) (t : Trouble) → IsUp w a up → UpSpends up t → Spends w a t
up_spends w a up t is (inl (k, n, next, reads, h)) =
    spends w a (NodeDue (tree_held up.chart.root) n up.chart.links) t
    (record { up = up; is_up = is; kept = k; next = next; reads = reads; root_is = refl; links_are = refl }) h
up_spends w a up t is (inr (none, h)) =
    spends w a (RootDue (tree_held up.chart.root) up.chart.links up.chart.run.top) t
    (record { up = up; is_up = is; none = none; root_is = refl; links_are = refl; top_is = refl }) h

-- ---- the newest call

abbrev now : Ask → Answer → Calls → Calls
now ask a cs = (ask, a) ∷ cs

-- a call that brought nothing shows and demands its trouble
abbrev IsMissed : ℕ → Calls → Ask → Answer → Trouble → Type 0
IsMissed tree cs ask a t = (t ≢ trouble.Memory → Refuses ask a t) × Shows tree cs ask a t

err_is : {A : Type 0} (t u : Trouble) → ◌≡◌ {A = Result A Trouble} (Err t) (Err u) → t ≡ u
err_is t u e = cc (e)

no_memory : {X : Type 0} → trouble.Memory ≢ trouble.Memory → X
no_memory other = absurd (other refl)

take_missed : (tree : ℕ) (cs : Calls) (mine : Lock) (a : Answer) (t : Trouble) → Fits (Take mine (ticks_of mine)) a → given_of mine a ≡ Err t
    → IsMissed tree cs (Take mine (ticks_of mine)) a t
take_missed tree cs mine call.Failed t fits e = subst (IsMissed tree cs (Take mine (ticks_of mine)) call.Failed) (err_is trouble.Failed t e) (λ other. (refl, tt), refl)
take_missed tree cs mine call.Memory t fits e = subst (IsMissed tree cs (Take mine (ticks_of mine)) call.Memory) (err_is trouble.Memory t e) (no_memory, tt)
take_missed tree cs mine (call.Held until) t fits e =
    subst (IsMissed tree cs (Take mine (ticks_of mine)) (call.Held until)) (err_is (trouble.Busy mine until) t e) (λ other. (refl, refl), (refl, refl))
take_missed tree cs mine (call.Given l) t fits e = absurd (cc (e))
take_missed tree cs mine a t fits e = absurd fits

get_missed : (tree : ℕ) (cs : Calls) (name : ObjName) (l : Claim) (a : Answer) (t : Trouble) → Fits (GetHeld name l) a → got_of a ≡ Err t → IsMissed tree cs (GetHeld name l) a t
get_missed tree cs name l call.Failed t fits e = subst (IsMissed tree cs (GetHeld name l) call.Failed) (err_is trouble.Failed t e) (λ other. (refl, tt), refl)
get_missed tree cs name l call.Memory t fits e = subst (IsMissed tree cs (GetHeld name l) call.Memory) (err_is trouble.Memory t e) (no_memory, tt)
get_missed tree cs name l (call.Late end now) t fits e =
    subst (IsMissed tree cs (GetHeld name l) (call.Late end now)) (err_is (trouble.Late end now) t e) (λ other. refl, refl)
get_missed tree cs name l (call.Got v) t fits e = absurd (cc (e))
get_missed tree cs name l a t fits e = absurd fits

abbrev receive : ℕ → Ask
receive tree = Receive (queue.TreePu tree) 256

receive_missed : (tree : ℕ) (cs : Calls) (a : Answer) (t : Trouble) → Fits (receive tree) a → received_of a ≡ Err t → IsMissed tree cs (receive tree) a t
receive_missed tree cs call.Failed t fits e = subst (IsMissed tree cs (receive tree) call.Failed) (err_is trouble.Failed t e) (λ other. (refl, tt), refl)
receive_missed tree cs call.Memory t fits e = subst (IsMissed tree cs (receive tree) call.Memory) (err_is trouble.Memory t e) (no_memory, tt)
receive_missed tree cs (call.Received ms) t fits e = absurd (cc (e))
receive_missed tree cs a t fits e = absurd fits

-- the first message that is no record is shown and demanded
message_shown : (tree : ℕ) (cs : Calls) (l : Claim) (root : Option (List ℕ)) (cursor : List (ℕ × ℕ)) (ms : List Message) (read : Result (List PuItem) Message) (t : Trouble)
    → items_of ms ≡ read → TakesItems (queue.TreePu tree) cursor read (Err t)
    → Shows tree cs (receive tree) (call.Received ms) t × Demands tree (work.Receiving l root) (call.Received ms) t
message_shown tree cs l root cursor ms (Ok items) t e h = absurd (cc (h.2))
message_shown tree cs l root cursor ms (Err m) t e h =
    let same : t ≡ message_damage (queue.TreePu tree) m = cc (h) in
    let breaks : BreaksMessage tree (call.Received ms) (place.Message (queue.TreePu tree) m.id) (pu_offset m.bytes) = (ms, (m, refl, e, refl, refl)) in
    subst (λ (u : Trouble). Shows tree cs (receive tree) (call.Received ms) u × Demands tree (work.Receiving l root) (call.Received ms) u) (sym same)
    (inr breaks, inr (inr (inl ((l, (root, refl)), breaks))))

-- a held get of a page of the tree brings what it answers
page_brings : (tree other page : ℕ) (l : Claim) (got : Option (List ℕ)) (a : Answer) → other ≡ tree → a ≡ call.Got got
    → Brings (object.Page tree page) got (GetHeld (object.Page other page) l, a)
page_brings tree other page l got a e brought =
    (l, ap (λ (t : ℕ). (GetHeld (object.Page t page) l, a)) e ∙ ap (λ (x : Answer). (GetHeld (object.Page tree page) l, x)) brought)

way_later : (tree : ℕ) (d : Descent) (c : Ask × Answer) (cs : Calls) → KnowsWay tree d cs → KnowsWay tree d (c ∷ cs)
way_later tree d c cs k = record { chart = chart_more tree d.chart c cs k.chart; way = way_more tree d.level d.low d.page d.visited c cs k.way; upto = k.upto }

abbrev node_ask : Held → Descent → Ask
node_ask h d = GetHeld (object.Page d.chart.tree d.page) h.lease

abbrev take_page : Coming → Ask
take_page c = Take (lock.Page c.chart.tree c.page) 30

-- ---- a put

put_missed : (tree : ℕ) (cs : Calls) (name : ObjName) (bytes : List ℕ) (one : Claim) (two : Option Claim) (a : Answer) (t : Trouble) → Fits (PutHeld name bytes one two) a
    → done_of a ≡ Err t → IsMissed tree cs (PutHeld name bytes one two) a t
put_missed tree cs name bytes one two call.Failed t fits e =
    subst (IsMissed tree cs (PutHeld name bytes one two) call.Failed) (err_is trouble.Failed t e) (λ other. (refl, tt), refl)
put_missed tree cs name bytes one two call.Memory t fits e = subst (IsMissed tree cs (PutHeld name bytes one two) call.Memory) (err_is trouble.Memory t e) (no_memory, tt)
put_missed tree cs name bytes one two (call.Late end now) t fits e =
    subst (IsMissed tree cs (PutHeld name bytes one two) (call.Late end now)) (err_is (trouble.Late end now) t e) (λ other. refl, refl)
put_missed tree cs name bytes one two call.Done t fits e = absurd (cc (e))
put_missed tree cs name bytes one two a t fits e = absurd fits

-- a put of the tree object
pub root_put : (tree other : ℕ) (cs : Calls) (bytes : List ℕ) (l : Claim) (a : Answer) → other ≡ tree → a ≡ call.Done
    → WasPut (object.Tree tree) bytes (now (PutHeld (object.Tree other) bytes l None) a cs)
root_put tree other cs bytes l a e done =
    inl (l, ap (λ (t : ℕ). (PutHeld (object.Tree t) bytes l None, a)) e ∙ ap (λ (x : Answer). (PutHeld (object.Tree tree) bytes l None, x)) done)

-- a call that puts: where it is done, the tree object stands by which it reserved
record Puts (tree : ℕ) (cs : Calls) (ask : Ask) (a : Answer) (reserved : Option (List ℕ)) : Type 0 where
  missed : (t : Trouble) → done_of a ≡ Err t → IsMissed tree (now ask a cs) ask a t
  done : a ≡ call.Done → HasPut tree (now ask a cs) ask a reserved

is_put : (tree : ℕ) (cs : Calls) (name : ObjName) (bytes : List ℕ) (one : Claim) (two : Option Claim) (a : Answer) (reserved : Option (List ℕ))
    → (a ≡ call.Done → HasPut tree (now (PutHeld name bytes one two) a cs) (PutHeld name bytes one two) a reserved) → Fits (PutHeld name bytes one two) a
    → Puts tree cs (PutHeld name bytes one two) a reserved
is_put tree cs name bytes one two a reserved put fits = record { missed = λ t e. put_missed tree (now (PutHeld name bytes one two) a cs) name bytes one two a t fits e; done = put }

-- what is to be put is put first
hand_puts : (tree other : ℕ) (cs : Calls) (l : Claim) (two : Option Claim) (last : Ask) (p : Placing) (a : Answer) → other ≡ tree
    → (has_nothing p ≡ true → Fits last a → Puts tree cs last a None) → Fits (unwrap_or (put_in_hand p other l two) last) a
    → Puts tree cs (unwrap_or (put_in_hand p other l two) last) a p.reserved
hand_puts tree other cs l two last p a same behind fits = on p.reserved p.puts behind fits where
  on : (reserved : Option (List ℕ)) (puts : List PagePut) → (has_nothing (record { reserved = reserved; puts = puts }) ≡ true → Fits last a → Puts tree cs last a None)
      → Fits (unwrap_or (put_in_hand (record { reserved = reserved; puts = puts }) other l two) last) a
      → Puts tree cs (unwrap_or (put_in_hand (record { reserved = reserved; puts = puts }) other l two) last) a reserved
  on (Some bytes) puts behind fits = is_put tree cs (object.Tree other) bytes l None a (Some bytes) (root_put tree other cs bytes l a same) fits
  on None (x ∷ xs) behind fits = is_put tree cs (object.Page other x.page) x.bytes l two a None (λ done. tt) fits
  on None [] behind fits = behind refl fits

-- ---- a leaf

leaf_later : (tree : ℕ) (f : Folding) (c : Ask × Answer) (cs : Calls) → KnowsLeaf tree f cs → KnowsLeaf tree f (c ∷ cs)
leaf_later tree f c cs k = record { chart = chart_more tree f.chart c cs k.chart; way = way_more tree 0 f.low f.page f.visited c cs k.way }

abbrev leaf_get : Folding → Ask
leaf_get f = GetHeld (object.Page f.chart.tree f.page) f.lease

-- where nothing is to be put the leaf is got
pub got_next : (f : Folding) (l : Claim) → has_nothing f.placing ≡ true → folding_ask f l ≡ leaf_get f
got_next f l e = on f.placing.reserved f.placing.puts e where
  on : (reserved : Option (List ℕ)) (puts : List PagePut) → has_nothing (record { reserved = reserved; puts = puts }) ≡ true
      → folding_ask (record f { placing = record { reserved = reserved; puts = puts } }) l ≡ leaf_get f
  on (Some bytes) puts e = absurd (cc (e))
  on None [] e = refl
  on None (x ∷ xs) e = absurd (let never : false ≡ true = sym (not_empty (x ∷ xs) (omega arith)) ∙ e in cc (never))

reads_told : {next : Next Folding Left} (tree : ℕ) (cs : Calls) (f : Folding) (a : Answer) (g : Result (Option (List ℕ)) Trouble) → has_nothing f.placing ≡ true → KnowsLeaf tree f cs
    → Fits (leaf_get f) a → got_of a ≡ g → Reads f g next → LeafTold tree (now (leaf_get f) a cs) (leaf_get f) a f next
reads_told {next = next} tree cs f a (Ok got) nothing k fits e r =
    let brought : a ≡ call.Got got = got_of-ok a got e in
    let new = page_brings tree f.chart.tree f.page f.lease got a k.chart.same brought in
    leaf_tells_told tree (now (leaf_get f) a cs) (leaf_get f) a f nothing next
    (reads_tell tree (now (leaf_get f) a cs) (leaf_get f) a got (leaf_later tree f _ cs k) (inl new) new brought r)
reads_told tree cs f a (Err t) nothing k fits e (leaf.refused u) =
    let m = get_missed tree (now (leaf_get f) a cs) (object.Page f.chart.tree f.page) f.lease a u fits e in (m.1, λ other. inl (m.0 other))

put_told : {next : Next Folding Left} (tree : ℕ) (cs : Calls) (ask : Ask) (f : Folding) (a : Answer) (done : Result (Unit {0}) Trouble) → KnowsLeaf tree f cs
    → Puts tree cs ask a f.placing.reserved → done_of a ≡ done → leaf.Lands f done next → LeafTold tree (now ask a cs) ask a f next
put_told {next = next} tree cs ask f a (Ok x) k put e l =
    placed_told tree (now ask a cs) ask a f next (lands_tell tree (now ask a cs) ask a (leaf_later tree f _ cs k) (put.done (done_of-ok a e)) l)
put_told tree cs ask f a (Err t) k put e (leaf.not_put u) = let m = put.missed u e in (m.1, λ other. inl (m.0 other))

leaf_told : {tree : ℕ} {f : Folding} {a : Answer} {next : Next Folding Left} (cs : Calls) (l : Claim) → KnowsLeaf tree f cs → Fits (folding_ask f l) a → leaf.Works f a next
    → LeafTold tree (now (folding_ask f l) a cs) (folding_ask f l) a f next
leaf_told {tree = tree} {f = f} {a = a} {next = next} cs l k fits (leaf.gets nothing r) =
    let asked = got_next f l nothing in
    subst (λ (ask : Ask). LeafTold tree (now ask a cs) ask a f next) (sym asked) (reads_told tree cs f a (got_of a) nothing k (subst (λ (ask : Ask). Fits ask a) asked fits) refl r)
leaf_told {tree = tree} {f = f} {a = a} cs l k fits (leaf.puts some w) =
    let put = hand_puts tree f.chart.tree cs l (Some f.lease) (leaf_get f) f.placing a k.chart.same (λ nothing. absurd (cc (some, nothing))) fits in
    put_told tree cs (folding_ask f l) f a (done_of a) k put refl w

-- ---- the way up

spent_more : (tree : ℕ) (r : Rising) (c : Ask × Answer) (cs : Calls) → KnowsSpent tree r cs → KnowsSpent tree r (c ∷ cs)
spent_more tree r c cs k = λ e. ((k e).0, root_more tree (k e).0 c cs (k e).1, (k e).2)

rising_puts : (tree : ℕ) (cs : Calls) (l : Claim) (r : Rising) (a : Answer) → r.chart.tree ≡ tree → IsRising r → Fits (rise.rising_ask r l) a
    → Puts tree cs (rise.rising_ask r l) a r.placing.reserved
rising_puts tree cs l r a same some fits = hand_puts tree r.chart.tree cs l None (rise.last_ask r l r.last) r.placing a same (behind r.last refl) fits where
  behind : (last : Option (List ℕ)) → r.last ≡ last → has_nothing r.placing ≡ true → Fits (rise.last_ask r l last) a → Puts tree cs (rise.last_ask r l last) a None
  behind (Some bytes) e nothing fits = is_put tree cs (object.Tree r.chart.tree) bytes l None a None (λ done. tt) fits
  behind None e nothing fits =
      absurd (let never : false ≡ true = sym (ap (λ (b : Bool). not b || (is_some r.last && not r.is_spent)) nothing
      ∙ ap (λ (o : Option (List ℕ)). is_some o && not r.is_spent) e) ∙ some in cc (never))

rise_told : {next : Next Rising (Unit {0})} (tree : ℕ) (cs : Calls) (ask : Ask) (r : Rising) (a : Answer) (done : Result (Unit {0}) Trouble) → Charted tree r.chart cs → KnowsSpent tree r cs
    → Puts tree cs ask a r.placing.reserved → done_of a ≡ done → climb.Lands r done next → RiseTold tree (now ask a cs) ask a r next
rise_told {next = next} tree cs ask r a (Ok x) k spent put e l =
    let is : a ≡ call.Done = done_of-ok a e in
    risen_told tree (now ask a cs) ask a r is next
    (rise_put_tells tree (now ask a cs) ask a (chart_more tree r.chart _ cs k) (spent_more tree r _ cs spent) (put.done is) l)
rise_told tree cs ask r a (Err t) k spent put e (climb.not_put u) = let m = put.missed u e in (m.1, λ other. inl (m.0 other))

onward_later : (tree : ℕ) (o : Onward) (c : Ask × Answer) (cs : Calls) → KnowsOnward tree o cs → KnowsOnward tree o (c ∷ cs)
onward_later tree (onward.Right m) c cs k = record { chart = chart_more tree m.chart c cs k.chart; way = way_more tree 0 m.low m.page m.visited c cs k.way }
onward_later tree (onward.Handled m) c cs k = chart_more tree m c cs k

-- ---- local work

-- the answer demands the trouble, and the calls show it
abbrev IsTold : ℕ → Work → Calls → Answer → Trouble → Type 0
IsTold tree w cs a t = (t ≢ trouble.Memory → Demands tree w a t) × Shows tree (now (work_ask tree w) a cs) (work_ask tree w) a t

-- what a way down tells
abbrev DescentTold : ℕ → Work → Calls → Answer → Next Descent (Unit {0}) → Type 0
DescentTold tree w cs a (Goes d) = KnowsWay tree d (now (work_ask tree w) a cs)
DescentTold tree w cs a (Ends d x) = KnowsComing tree (leaf_of d) (now (work_ask tree w) a cs)
DescentTold tree w cs a (Stops d t) = IsTold tree w cs a t

-- what the way up tells
abbrev AscentTold : ℕ → Work → Calls → Answer → Next Rising (Unit {0}) → Type 0
AscentTold tree w cs a (Goes r) = Charted tree r.chart (now (work_ask tree w) a cs) × IsRising r × KnowsSpent tree r (now (work_ask tree w) a cs)
AscentTold tree w cs a (Ends r x) = Unit {0}
AscentTold tree w cs a (Stops r t) = IsTold tree w cs a t

way_told : (tree : ℕ) (w : Work) (cs : Calls) (a : Answer) (start : Descent) (next : Next Descent (Unit {0}))
    → ((t : Trouble) → BreaksFrom tree start t → Demands tree w a t)
    → WayTells tree (now (work_ask tree w) a cs) (work_ask tree w) a start next → DescentTold tree w cs a next
way_told tree w cs a start (Goes d) breaks k = k
way_told tree w cs a start (Ends d x) breaks k =
    record { chart = k.0.chart; way = subst (λ (level : ℕ). OnWay tree level d.low d.page d.visited (now (work_ask tree w) a cs)) k.1 k.0.way }
way_told tree w cs a start (Stops d t) breaks k = (λ other. breaks t k.1, k.0)

node_told : (tree : ℕ) (cs : Calls) (a : Answer) (h : Held) (d : Descent) (next : Next Descent (Unit {0}))
    → GotTells tree (now (node_ask h d) a cs) (node_ask h d) a d next → DescentTold tree (work.Descending h d) cs a next
node_told tree cs a h d (Goes e) k = k
node_told tree cs a h d (Ends e x) k =
    record { chart = k.0.chart; way = subst (λ (level : ℕ). OnWay tree level e.low e.page e.visited (now (node_ask h d) a cs)) k.1 k.0.way }
node_told tree cs a h d (Stops e t) k = (λ other. on k.1, k.0) where
  on : NodeBreaks tree (now (node_ask h d) a cs) (node_ask h d) a d t → Demands tree (work.Descending h d) a t
  on (inl breaks) = inr (inr (inr (inl (h, (d, refl, breaks)))))
  on (inr (bytes, n, brought, reads, promised, from)) =
      inr (inr (inr (inr (inr (inl (
        behind (with_node d bytes) n,
        inl (record { held = h; from = d; bytes = bytes; node = n; stands = refl; brought = brought; reads = reads; promised = promised; leads = refl }),
        from,
      ))))))

descent_told : {next : Next Descent (Unit {0})} (tree : ℕ) (cs : Calls) (h : Held) (d : Descent) (a : Answer) (g : Result (Option (List ℕ)) Trouble) → KnowsWay tree d cs
    → Fits (node_ask h d) a → got_of a ≡ g → Gets d g next → DescentTold tree (work.Descending h d) cs a next
descent_told {next = next} tree cs h d a (Ok got) k fits e gets =
    let new : Brings (object.Page tree d.page) got (node_ask h d, a) = page_brings tree d.chart.tree d.page h.lease got a k.chart.same (got_of-ok a got e) in
    node_told tree cs a h d next (gets_tell tree (now (node_ask h d) a cs) (node_ask h d) a (way_later tree d _ cs k) (inl new) new gets)
descent_told tree cs h d a (Err u) k fits e (way.refused t) =
    let m = get_missed tree (now (node_ask h d) a cs) (object.Page d.chart.tree d.page) h.lease a t fits e in (λ other. inl (m.0 other), m.1)

-- the chart whose next key is sought
seeks_knows : {tree : ℕ} {w : Work} {a : Answer} {h : Held} {c : Chart} (cs : Calls) → KnowsAt tree w cs → Seeks tree w a h c → Charted tree c (now (work_ask tree w) a cs)
seeks_knows {tree = tree} cs k (step.with_run l root ms i takes some) =
    record { same = refl; root = root_more tree (tree_held root) (receive tree, call.Received ms) cs k; nodes = tt }
seeks_knows {tree = tree} cs k (step.from_leaf h l c a) = chart_more tree c (Release l, a) cs k
seeks_knows cs k (step.alone h c a) = absurd k

key_known : (tree : ℕ) (c : Chart) (key : List ℕ) (cs : Calls) → Charted tree c cs → Charted tree (record c { key = key }) cs
key_known tree c key cs k = record { same = k.same; root = k.root; nodes = k.nodes }

-- for the first key no node was got that could stop the way
seeks_breaks : {tree : ℕ} {w : Work} {a : Answer} {h : Held} {c : Chart} (cs : Calls) (key : List ℕ) → KnowsAt tree w cs → Seeks tree w a h c → next_key c ≡ Some key → (t : Trouble)
    → BreaksFrom tree (from_root (record c { key = key })) t → Demands tree w a t
seeks_breaks {tree = tree} cs key k (step.with_run l root ms i takes some) e t breaks =
    absurd (never_breaks tree (from_root (record (chart_of tree root i.run) { key = key })) t refl refl breaks)
seeks_breaks cs key k (step.from_leaf h l c a) e t breaks =
    inr (inr (inr (inr (inr (inl (
      from_root (record c { key = key }),
      inr (record { held = h; lease = l; chart = c; key = key; stands = refl; next = e; leads = refl }),
      breaks,
    ))))))
seeks_breaks cs key k (step.alone h c a) e t breaks = absurd k

descends_told : {tree : ℕ} {w : Work} {a : Answer} {h : Held} {next : Next Descent (Unit {0})} (cs : Calls) → KnowsAt tree w cs → Fits (work_ask tree w) a
    → Descends tree w a h next → DescentTold tree w cs a next
descends_told {tree = tree} {w = w} {a = a} cs k fits (step.begins {c = c} key s e) =
    let keyed : Chart = record c { key = key } in
    way_told tree w cs a (from_root keyed) (down_from keyed (root_entry keyed)) (seeks_breaks cs key k s e)
    (down_tells tree (now (work_ask tree w) a cs) (work_ask tree w) a keyed (key_known tree c key (now (work_ask tree w) a cs) (seeks_knows cs k s)))
descends_told {tree = tree} cs k fits (step.goes_on h d a) = descent_told tree cs h d a (got_of a) k fits refl (gets d (got_of a))

-- the way up begins behind the last leaf, as a run has a first key
seeks_up : {tree : ℕ} {w : Work} {a : Answer} {h : Held} {c : Chart} (cs : Calls) → KnowsAt tree w cs → Seeks tree w a h c → next_key c ≡ None → IsUp w a (rise.begun c)
seeks_up cs k (step.with_run l root ms i takes some) none = never (sym (first_key i.run.items some).1 ∙ none) where
  never : {X : Type 0} → ◌≡◌ {A = Option (List ℕ)} (Some (first_key i.run.items some).0) None → X
  never e = absurd (cc (e))
seeks_up cs k (step.from_leaf h l c a) none = inl (record { held = h; lease = l; chart = c; stands = refl; none = none; is = refl })
seeks_up cs k (step.alone h c a) none = absurd k

begun_told : (tree : ℕ) (w : Work) (cs : Calls) (a : Answer) (up : Rising) (next : Next Rising (Unit {0})) → IsUp w a up
    → RiseTells tree (now (work_ask tree w) a cs) (work_ask tree w) a up next → AscentTold tree w cs a next
begun_told tree w cs a up (Goes r) is k = k
begun_told tree w cs a up (Ends r x) is k = tt
begun_told tree w cs a up (Stops r t) is k = (λ other. inr (inr (inr (inr (inr (inr (up_spends w a up t is k.1)))))), k.0)

put_told_up : (tree : ℕ) (cs : Calls) (h : Held) (r : Rising) (a : Answer) (next : Next Rising (Unit {0}))
    → RiseTold tree (now (rise.rising_ask r h.lease) a cs) (rise.rising_ask r h.lease) a r next → AscentTold tree (work.Rising h r) cs a next
put_told_up tree cs h r a (Goes n) k = k
put_told_up tree cs h r a (Ends n x) k = tt
put_told_up tree cs h r a (Stops n t) k = (λ other. on (k.1 other), k.0) where
  on : Refuses (rise.rising_ask r h.lease) a t
      ⊎ ((a ≡ call.Done) × PutStops tree (now (rise.rising_ask r h.lease) a cs) (rise.rising_ask r h.lease) a r t)
      → Demands tree (work.Rising h r) a t
  on (inl refuses) = inl refuses
  on (inr (done, (some, nothing, inl (between, spent)))) =
      inr (inr (inr (inr (inr (inr (up_spends (work.Rising h r) a (rise.landed r) t
      (inr (record { held = h; from = r; stands = refl; put = done; some = some; nothing = nothing; between = between; is = refl })) spent))))))
  on (inr (done, (some, nothing, inr (behind, spent, is)))) =
      inr (inr (inr (inr (inr (inr (subst (Spends (work.Rising h r) a) (sym is)
      (inr (record { held = h; from = r; stands = refl; put = done; some = some; nothing = nothing; behind = behind; spent = spent }))))))))

ascends_told : {tree : ℕ} {w : Work} {a : Answer} {h : Held} {next : Next Rising (Unit {0})} (cs : Calls) → KnowsAt tree w cs → Fits (work_ask tree w) a
    → Ascends tree w a h next → AscentTold tree w cs a next
ascends_told {tree = tree} {w = w} {a = a} cs k fits (step.begins_up {c = c} s none) =
    begun_told tree w cs a (rise.begun c) (rise.rise (rise.begun c)) (seeks_up cs k s none)
    (rise_tells tree (now (work_ask tree w) a cs) (work_ask tree w) a (rise.begun c) (seeks_knows cs k s) (λ e. absurd (cc (e))))
ascends_told {tree = tree} cs k fits (step.goes_up h r a) =
    put_told_up tree cs h r a (rise.rising_next r a)
    (rise_told tree cs (rise.rising_ask r h.lease) r a (done_of a) k.0 k.2 (rising_puts tree cs h.lease r a k.0.same k.1 fits) refl (climb.lands r (done_of a)))

-- what the work at a leaf demands
leaf_demands : (tree : ℕ) (h : Held) (f : Folding) (a : Answer) (t : Trouble)
    → Refuses (folding_ask f h.lease) a t ⊎ ((has_nothing f.placing ≡ true) × (BreaksLeaf tree f a t ⊎ LeafSpends f a t)) → Demands tree (work.Folding h f) a t
leaf_demands tree h f a t (inl refuses) = inl refuses
leaf_demands tree h f a t (inr (nothing, inl breaks)) = inr (inr (inr (inr (inl (h, (f, refl, nothing, breaks))))))
leaf_demands tree h f a t (inr (nothing, inr s)) =
    inr (inr (inr (inr (inr (inr (spends (work.Folding h f) a (LeafDue (tree_held f.chart.root) s.l f.chart.run.items) t
    (record { held = h; from = f; stands = refl; nothing = nothing; gets = s.gets; promised = s.promised; stays = s.stays; lacks = s.lacks; root_is = refl; run_is = refl }) s.spent))))))

folds_told : (tree : ℕ) (cs : Calls) (h : Held) (f : Folding) (a : Answer) (next : Next Folding Left) → KnowsLeaf tree f cs → Fits (folding_ask f h.lease) a → folding_next f a ≡ next
    → LeafTold tree (now (folding_ask f h.lease) a cs) (folding_ask f h.lease) a f next
folds_told tree cs h f a next k fits e = subst (LeafTold tree (now (folding_ask f h.lease) a cs) (folding_ask f h.lease) a f) e (leaf_told cs h.lease k fits (leaf.works f a))

leaves_known : (tree : ℕ) (cs : Calls) (ask : Ask) (a : Answer) (f g : Folding) (out : Left) → LeafTold tree cs ask a f (Ends g out) → KnowsOnward tree (onward_from g out) cs
leaves_known tree cs ask a f g (Right low page) k = record { chart = k.0; way = k.1 }
leaves_known tree cs ask a f g Handled k = k

fails_told : {tree : ℕ} {w : Work} {a : Answer} {held : Leases} {t : Trouble} (cs : Calls) → KnowsAt tree w cs → Fits (work_ask tree w) a → Fails tree w a held t → IsTold tree w cs a t
fails_told {tree = tree} cs k fits (step.no_tree l a t e) =
    let m = get_missed tree (now (GetHeld (object.Tree tree) l) a cs) (object.Tree tree) l a t fits e in (λ other. inl (m.0 other), m.1)
fails_told {tree = tree} cs k fits (step.bad_tree l bytes none) =
    (λ other. inr (inl (refl, (l, refl, (bytes, refl, none, refl)))), inl (object.Tree tree, refl, (refl, (bytes, (l, refl), none, refl))))
fails_told {tree = tree} cs k fits (step.no_messages l root a t e) =
    let m = receive_missed tree (now (receive tree) a cs) a t fits e in (λ other. inl (m.0 other), m.1)
fails_told {tree = tree} cs k fits (step.bad_message l root ms t takes) =
    let shown = message_shown tree (now (receive tree) (call.Received ms) cs) l root (tree_held root).cursor ms (items_of ms) t refl takes in (λ other. shown.1, shown.0)
fails_told {tree = tree} cs k fits (step.no_lease h c a t e) =
    let m = take_missed tree (now (take_page c) a cs) (lock.Page c.chart.tree c.page) a t fits e in (λ other. inl (m.0 other), m.1)
fails_told cs k fits (step.no_way d t way) = descends_told cs k fits way
fails_told cs k fits (step.no_ascent r t up) = ascends_told cs k fits up
fails_told {tree = tree} cs k fits (step.no_leaf h f g a t e) =
    let told : LeafTold tree (now (folding_ask f h.lease) a cs) (folding_ask f h.lease) a f (Stops g t) = folds_told tree cs h f a (Stops g t) k fits e in
    (λ other. leaf_demands tree h f a t (told.1 other), told.0)

-- ---- a step

-- a trouble was kept before, or it is told
abbrev IsKeptOrTold : ℕ → Work → Calls → Answer → Trouble → Type 0
IsKeptOrTold tree w cs a t = (kept_trouble w ≡ Some t) ⊎ IsTold tree w cs a t

-- where a step goes on it is known where it stands, and a trouble that is kept is told; so is one with which it stops
abbrev NextTells : ℕ → Work → Calls → Answer → Step → Type 0
NextTells tree w cs a (Goes n) = KnowsAt tree n (now (work_ask tree w) a cs) × ((t : Trouble) → kept_trouble n ≡ Some t → IsKeptOrTold tree w cs a t)
NextTells tree w cs a (Ends n x) = kept_trouble w ≡ None
NextTells tree w cs a (Stops n t) = t ≢ trouble.Memory → IsKeptOrTold tree w cs a t

some_is : (t u : Trouble) → Some t ≡ Some u → t ≡ u
some_is t u e = cc (e)

same_kept : (held other : Leases) (end : Result CkptAnswer Trouble) → kept_trouble (work.Releasing held end) ≡ kept_trouble (work.Releasing other end)
same_kept held other (Ok x) = refl
same_kept held other (Err t) = refl

tells : {tree : ℕ} {w : Work} {a : Answer} {next : Step} (cs : Calls) → KnowsAt tree w cs → Fits (work_ask tree w) a → Comes tree w a next → NextTells tree w cs a next
tells cs k fits (step.takes_tree l) = (tt, λ t f. absurd (cc (f)))
tells {tree = tree} cs k fits (step.refused a t e) =
    λ memory. let m = take_missed tree (now (take_tree tree) a cs) (lock.Tree tree) a t fits e in inr (λ other. inl (m.0 other), m.1)
tells cs k fits (step.reads_tree l got is) = (inl (got, refl, inl (l, refl)), λ t f. absurd (cc (f)))
tells {tree = tree} {w = w} {a = a} cs k fits (step.stops held t f) = (tt, λ u e. inr (subst (IsTold tree w cs a) (some_is t u e) (fails_told cs k fits f)))
tells cs k fits (step.descends h d way) = (descends_told cs k fits way, λ t f. absurd (cc (f)))
tells cs k fits (step.arrives h d x way) = (descends_told cs k fits way, λ t f. absurd (cc (f)))
tells {tree = tree} cs k fits (step.takes_page h c l) =
    (record { chart = chart_more tree c.chart _ cs k.chart; way = way_more tree 0 c.low c.page c.visited _ cs k.way }, λ t f. absurd (cc (f)))
tells {tree = tree} cs k fits (step.folds h f g a e) = (folds_told tree cs h f a (Goes g) k fits e, λ t f. absurd (cc (f)))
tells {tree = tree} cs k fits (step.leaves h f g out a e) =
    (leaves_known tree (now (folding_ask f h.lease) a cs) (folding_ask f h.lease) a f g out (folds_told tree cs h f a (Ends g out) k fits e), λ t f. absurd (cc (f)))
tells {tree = tree} cs k fits (step.turns h l c a) = (onward_later tree (onward.Right c) (Release l, a) cs k, λ t f. absurd (cc (f)))
tells cs k fits (step.ascends h r up) = (ascends_told cs k fits up, λ t f. absurd (cc (f)))
tells cs k fits (step.deletes h applied id c e) = (tt, λ t f. absurd (cc (f)))
tells cs k fits (step.rests h applied c e) = (tt, λ t f. absurd (cc (f)))
tells cs k fits (step.gives_back held l end a e) = (tt, λ t f. inl (same_kept held (without_newest held) end ∙ f))
tells cs k fits (step.ends held x a e) = refl
tells cs k fits (step.stopped held t a e) = λ memory. inl refl
tells cs k fits c = absurd k

step_tells : (m : Making) (cs : Calls) (a : Answer) (next : Step) → KnowsAt m.tree m.work cs → Fits (making_ask m) a → Leads m.tree m.work a next → NextTells m.tree m.work cs a next
step_tells m cs a next k fits leads = tells cs k fits (comes m.tree m.work a next leads)

-- ---- histories

pub came_brought : (tree : ℕ) (h : List Deed) (m : Making) → Came making_ask MakingLeads (new_making tree) h m → KnowsAt m.tree m.work (calls_of h)
came_brought tree [] m came = subst (λ (n : Making). KnowsAt n.tree n.work []) (sym came) tt
came_brought tree (d ∷ h) m came =
    let from : Making = came.0 in
    let before : KnowsAt from.tree from.work (calls_of h) = came_brought tree h from came.1 in
    let fits : Fits (making_ask from) d.answer = subst (λ (ask : Ask). Fits ask d.answer) came.2 came.3.fits in
    let after : NextTells from.tree from.work (calls_of h) d.answer (Goes m.work) =
    step_tells from (calls_of h) d.answer (Goes m.work) before fits came.4.1 in
    let asked : KnowsAt from.tree m.work (calls_of (d ∷ h)) =
    subst (λ (ask : Ask). KnowsAt from.tree m.work ((ask, d.answer) ∷ calls_of h)) (sym came.2) after.0 in
    subst (λ (t : ℕ). KnowsAt t m.work (calls_of (d ∷ h))) (sym came.4.0.0) asked

pub went_brought : (m : Making) (h : List Deed) → Went h m → KnowsAt m.tree m.work (calls_of h)
went_brought m h came = came_brought m.tree h m came

pub took_tells : (old new : Making) (h : List Deed) (a : Answer) (turn : Turn CkptAnswer) → KnowsAt old.tree old.work (calls_of h) → Fits (making_ask old) a
    → Took MakingLeads KeepsLeases old a new turn → Tells old h a new turn
took_tells old new h a More k fits took = (step_tells old (calls_of h) a (Goes new.work) k fits took.1).1
took_tells old new h a (Ended x) k fits took = step_tells old (calls_of h) a (Ends new.work x) k fits took.1
took_tells old new h a (Stopped t) k fits took = λ memory. step_tells old (calls_of h) a (Stops new.work t) k fits (took.0 memory).1 memory

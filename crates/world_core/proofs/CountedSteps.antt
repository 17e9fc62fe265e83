-- How many calls each session counts behind a begin, a step, some steps within a line, and a session's work.
use Rattle.std.proofs.Common.{◌≡◌, ◌≢◌, ◌+◌, ◌≤◌, ◌⊎◌, inl, inr, ℕ, List, [], length, Option, Some, Result, Ok, Err, refl, sym, ap, subst, ◌∙◌, arith}
use Rattle.std.proofs.lemmas.Bool.{cases_eq}
use Rattle.client_work.specs.Session.{Acting, Follows, Begins, BeginsWith, HasInHand, CommitsNoted, CommitsOf, StepsSession, stopped_work, paging_begun_by, folding_begun_by, acting_of}
use Rattle.client_work.specs.declared.answer.Answer.{Answer}
use Rattle.client_work.specs.declared.answer.Answer.TheVariants as answer
use Rattle.client_work.specs.declared.answer.Begun.{Begun}
use Rattle.client_work.specs.declared.answer.Begun.TheVariants.{Working, Answered}
use Rattle.client_work.specs.declared.listing.Listing.{Listing}
use Rattle.client_work.specs.declared.op.Op.{Op}
use Rattle.client_work.specs.declared.op.Op.TheVariants as op
use Rattle.client_work.specs.declared.shown.Shown.{Shown}
use Rattle.client_work.specs.declared.work.Work.{Work}
use Rattle.client_work.specs.declared.work.Work.TheVariants.{Idle, Broken, Committing, Reading, Scanning, Looking, Closing, Renewing}
use Rattle.cloud_facts.proofs.Book.Names.{at_same, at_other}
use Rattle.cloud_facts.specs.Words.{Trouble, QueueName, Entry, Turn, More, Ended, Stopped, CloudState, Caller, Seen, Book, at}
use Rattle.cloud_trait.proofs.EffectLemmas.{grown_itself}
use Rattle.db_base.specs.declared.refusal.Refusal.{Refusal}
use Rattle.db_base.specs.declared.refusal.Refused.{Refused}
use Rattle.db_base.specs.declared.refusal.Refused.TheVariants as refused
use Rattle.db_base.specs.declared.trouble.Trouble.TheVariants as trouble
use Rattle.db_base.specs.declared.wish.Wish.{Wish}
use Rattle.db_base.specs.declared.wish.Wish.TheVariants.{Plain}
use Rattle.page_cache.specs.Cache.{Cache}
use Rattle.recover_run.specs.declared.home.Home.{Home}
use Rattle.replay_meaning.specs.Standing.{Line}
use Rattle.reply_text.specs.declared.reply.Reply.{Reply}
use Rattle.reply_text.specs.declared.reply.Reply.TheVariants as reply
use Rattle.session_facts.proofs.Sessions.CheckpointCalls.{IsOther, begun_counts, page_begun, counts_beside, other_counts, session_few, session_names, more_counts, end_counts}
use Rattle.session_facts.proofs.Lines.Outcome.{CallLeaves, CallLeavesUpto, wish_holds}
use Rattle.session_facts.proofs.Rows.CallKinds.{IsWorkersRow}
use Rattle.session_facts.specs.Lines.Counted.{counted, calls_told, CountsWork, CountsAll, FewFor}
use Rattle.session_facts.specs.Lines.Facts.{session_at, CloudHolds}
use Rattle.session_facts.specs.Machines.TreeCheckpoints.Few.{next_page}
use Rattle.session_facts.specs.Sessions.Knows.{Sessions, SessionsStand}
use Rattle.session_facts.specs.Machines.TreeCheckpoints.Named.{NamesPieces}
use Rattle.txn_buffer.specs.Noted.{Noted}
use Rattle.world_core.proofs.Workers.{IsInside, HoldsWithin, IsIdle, IsBetween, holds_begun, holds_went, holds_works, within_begun, within_went, within_works, worker, worker_call, worker_own}
use Rattle.world_core.proofs.StandsLemmas.{IsUnderWay, changed_at, changed_was, went_on, call, steps_own, refused_is}
use Rattle.world_core.specs.Bounded.{steps_of}
use Rattle.world_core.specs.Handled.{StepsLooked, Went, start, further, BeginsCheckpoint, Checkpoints, Works, checkpoint_more, checkpoint_of, no_checkpoint, gone_through}
use Rattle.world_core.specs.Named.{StepNames}
use Rattle.world_core.specs.Replying.{declined, RepliesBegun}
use Rattle.world_core.specs.Sessions.{Changes}
use Rattle.world_core.specs.World.{World}
use Rattle.world_core.specs.declared.world.WorldFault.{WorldFault}
use Rattle.world_core.specs.Span.{span_of}
use Rattle.std.proofs.lemmas.Option.{same_Some}

pub no_more : (n : ℕ) → n ≤ n
no_more n = omega arith

-- ---- counts that agree

pub counts_like : (c d : ℕ → ℕ) (s : CloudState) (f g : Sessions) → ((n : ℕ) → d n ≡ c n) → ((n : ℕ) → g n ≡ f n) → CountsAll c s f → CountsAll d s g
counts_like c d s f g same sessions all n =
    subst (λ (k : ℕ). CountsWork k s (g n).work) (sym (same n)) (subst (λ (a : Acting). CountsWork (c n) s a.work) (sym (sessions n)) (all n))

own_again : (k : ℕ) (c : ℕ → ℕ) (n : ℕ) → at k (c k) c n ≡ c n
own_again k c n = on (cases_eq n k)
  where
    on : (n ≡ k) ⊎ (n ≢ k) → at k (c k) c n ≡ c n
    on (inl e) = at_same k (c k) c n e ∙ ap c (sym e)
    on (inr ne) = at_other k (c k) c n ne

pub own_twice : (k a b : ℕ) (c : ℕ → ℕ) (n : ℕ) → at k b (at k a c) n ≡ at k b c n
own_twice k a b c n = on (cases_eq n k)
  where
    on : (n ≡ k) ⊎ (n ≢ k) → at k b (at k a c) n ≡ at k b c n
    on (inl e) = at_same k b (at k a c) n e ∙ sym (at_same k b c n e)
    on (inr ne) = at_other k b (at k a c) n ne ∙ at_other k a c n ne ∙ sym (at_other k b c n ne)

-- ---- a begin

other_by : (calls : ℕ) (s : CloudState) (w v : Work) → w ≡ v → IsOther v → CountsWork calls s w
other_by calls s w v e is = other_counts calls s w (subst IsOther (sym e) is)

stopped_counts : (calls : ℕ) (s : CloudState) (w : Work) (t : Trouble) (home : Home) → w ≡ stopped_work t home → CountsWork calls s w
stopped_counts calls s w trouble.Memory home e = other_by calls s w (Broken home.lease) e tt
stopped_counts calls s w t home e = other_by calls s w (stopped_work t home) e (on t)
  where
    on : (k : Trouble) → IsOther (stopped_work k home)
    on trouble.Memory = tt
    on k = tt

abbrev pub IsOkOf : Reply → Result Reply WorldFault → Type 0
IsOkOf r result = (let own : Result Reply WorldFault = Ok r in own ≡ result)

module _ (r : Reply) (calls : ℕ) (s : CloudState) (a b : Acting) where
  abbrev Left : Type 0
  Left = CountsWork (counted r calls) s b.work

  pub refused_counts : (rule : Refusal) → IsOkOf r (declined (refused.Rule rule)) → b ≡ a → CountsWork calls s a.work → Left
  refused_counts rule e same k =
      subst (λ (q : Reply). CountsWork (counted q calls) s b.work) (sym (refused_is r rule e)) (subst (λ (x : Acting). CountsWork calls s x.work) (sym same) k)

  -- what an open client begins that is no checkpoint
  hand_counts : (own : Home → Work) (begun : Result Begun Refused) → ((home : Home) → IsOther (own home)) → BeginsWith (λ home. HasInHand a (own home)) a b begun
      → RepliesBegun begun b (Ok r) → CountsWork calls s a.work → Left
  hand_counts own (Ok begun) is begins e k = other_by (counted r calls) s b.work (own begins.0) (ap (λ (x : Acting). x.work) begins.2.1) (is begins.0)
  hand_counts own (Err (refused.Rule rule)) is begins e k = refused_counts rule e begins.1 k
  hand_counts own (Err refused.Memory) is begins e k = absurd begins

  -- a checkpoint has made no call
  first_counts : (own : Home → Work) → ((home : Home) → CountsWork 0 s (own home)) → (begun : Result Begun Refused) → BeginsWith (λ home. HasInHand a (own home)) a b begun
      → RepliesBegun begun b (Ok r) → CountsWork calls s a.work → Left
  first_counts own first (Ok begun) begins e k =
      let answered : RepliesBegun (Ok Working) b (Ok r) = subst (λ x. RepliesBegun (Ok x) b (Ok r)) begins.2.0 e in
      let is : r ≡ reply.Begun = cc (answered) in
      subst (λ (q : Reply). CountsWork (counted q calls) s b.work) (sym is)
      (subst (λ (x : Acting). CountsWork 0 s x.work) (sym begins.2.1) (first begins.0))
  first_counts own first (Err (refused.Rule rule)) begins e k = refused_counts rule e begins.1 k
  first_counts own first (Err refused.Memory) begins e k = absurd begins

  open_counts : (client : ℕ) (begun : Result Begun Refused) → Begins (op.Open client) a b begun → RepliesBegun begun b (Ok r) → CountsWork calls s a.work → Left
  open_counts client (Ok Working) begins e k = other_by (counted r calls) s b.work _ (ap (λ (x : Acting). x.work) begins.1) tt
  open_counts client (Ok (Answered x)) begins e k = absurd begins
  open_counts client (Err (refused.Rule rule)) begins e k = refused_counts rule e begins.1 k
  open_counts client (Err refused.Memory) begins e k = absurd begins

  commits_counts : (home : Home) (buffer : List Noted) (c d : Cache) (begun : Begun) → CommitsOf home buffer c d b.work begun → Left
  commits_counts home buffer c d Working commits = other_by (counted r calls) s b.work (Committing commits.0) commits.2 tt
  commits_counts home buffer c d (Answered (answer.Commit x)) commits = other_by (counted r calls) s b.work (Idle _) commits.2 tt
  commits_counts home buffer c d (Answered (answer.Trouble t)) commits = other_by (counted r calls) s b.work (Broken home.lease) commits.1 tt
  commits_counts home buffer c d (Answered x) commits = absurd commits

  commit_counts : (begun : Result Begun Refused) → Begins op.Commit a b begun → RepliesBegun begun b (Ok r) → CountsWork calls s a.work → Left
  commit_counts (Ok begun) begins e k = on begins.2.1
    where
      on : CommitsNoted begins.0 a.buffer a.cache b.cache b.work begun → Left
      on (inl nothing) = other_by (counted r calls) s b.work (Idle begins.0) nothing.work_is tt
      on (inr some) = commits_counts begins.0 a.buffer a.cache b.cache begun some.1
  commit_counts (Err (refused.Rule rule)) begins e k = refused_counts rule e begins.1 k
  commit_counts (Err refused.Memory) begins e k = absurd begins

  read_counts : (tree : ℕ) (key : List ℕ) (begun : Result Begun Refused) → Begins (op.Read tree key) a b begun → RepliesBegun begun b (Ok r) → CountsWork calls s a.work → Left
  read_counts tree key (Ok Working) begins e k = other_by (counted r calls) s b.work (Reading begins.0 begins.2.1.0) begins.2.1.2 tt
  read_counts tree key (Ok (Answered answer.Value)) begins e k = other_by (counted r calls) s b.work (Idle begins.0) begins.2.1.3 tt
  read_counts tree key (Ok (Answered (answer.Trouble t))) begins e k = stopped_counts (counted r calls) s b.work t begins.0 begins.2.1.2
  read_counts tree key (Ok (Answered x)) begins e k = absurd begins.2.1
  read_counts tree key (Err (refused.Rule rule)) begins e k = refused_counts rule e begins.1 k
  read_counts tree key (Err refused.Memory) begins e k = absurd begins

  follows_counts : (home : Home) (buffer : List Noted) (m : Listing) (c : Cache) (moved : Turn ℕ) (shown : Shown) (turn : Turn Answer)
      → Follows home m moved (acting_of buffer b.work c shown) turn → Left
  follows_counts home buffer m c More shown turn f = other_by (counted r calls) s b.work (Scanning home m) f.0 tt
  follows_counts home buffer m c (Ended page) shown More f = other_by (counted r calls) s b.work (Scanning home _) f.3 tt
  follows_counts home buffer m c (Ended page) shown (Ended answer.Scan) f = other_by (counted r calls) s b.work (Idle home) f.3 tt
  follows_counts home buffer m c (Ended page) shown (Ended (answer.Trouble t)) f = other_by (counted r calls) s b.work (Broken home.lease) f.1 tt
  follows_counts home buffer m c (Ended page) shown turn f = absurd f
  follows_counts home buffer m c (Stopped t) shown turn f = stopped_counts (counted r calls) s b.work t home f.0

  scan_counts : (tree : ℕ) (from to : Option (List ℕ)) (begun : Result Begun Refused) → Begins (op.Scan tree from to) a b begun → RepliesBegun begun b (Ok r) → CountsWork calls s a.work
      → Left
  scan_counts tree from to (Ok begun) begins e k = let f = begins.2.1 in follows_counts begins.0 a.buffer (record { scan = f.scan; pairs = [] }) b.cache f.moved b.shown f.turn f.follows
  scan_counts tree from to (Err (refused.Rule rule)) begins e k = refused_counts rule e begins.1 k
  scan_counts tree from to (Err refused.Memory) begins e k = absurd begins

  look_counts : (tree : ℕ) (attr : List ℕ) (begun : Result Begun Refused) → Begins (op.Lookup tree attr) a b begun → RepliesBegun begun b (Ok r) → CountsWork calls s a.work → Left
  look_counts tree attr (Ok Working) (few, (home, idle, does)) e k = other_by (counted r calls) s b.work (Looking home does.1.0) does.1.2 tt
  look_counts tree attr (Ok (Answered (answer.Trouble t))) (few, (home, idle, does)) e k = stopped_counts (counted r calls) s b.work t home does.1.1
  look_counts tree attr (Ok (Answered x)) (few, (home, idle, does)) e k = absurd does.1
  look_counts tree attr (Err (refused.Rule rule)) (inl (bad, above, same)) e k = refused_counts rule e same k
  look_counts tree attr (Err (refused.Rule rule)) (inr (few, (why, same))) e k = refused_counts rule e same k
  look_counts tree attr (Err refused.Memory) (inl (bad, above, same)) e k = absurd (cc (bad))
  look_counts tree attr (Err refused.Memory) (inr (few, never)) e k = absurd never

  pub begin_counts : (o : Op) (begun : Result Begun Refused) → Begins o a b begun → RepliesBegun begun b (Ok r) → CountsWork calls s a.work → Left
  begin_counts (op.Open client) begun begins e k = open_counts client begun begins e k
  begin_counts op.Close begun begins e k = hand_counts (λ home. Closing home.lease) begun (λ home. tt) begins e k
  begin_counts op.Renew begun begins e k = hand_counts (λ home. Renewing home) begun (λ home. tt) begins e k
  begin_counts op.Commit begun begins e k = commit_counts begun begins e k
  begin_counts (op.Read tree key) begun begins e k = read_counts tree key begun begins e k
  begin_counts (op.Scan tree from to) begun begins e k = scan_counts tree from to begun begins e k
  begin_counts (op.Lookup tree attr) begun begins e k = look_counts tree attr begun begins e k
  begin_counts (op.Page tree page) begun begins e k = first_counts (paging_begun_by tree page) (λ home. page_begun s home tree page) begun begins e k
  begin_counts (op.Tree tree) begun begins e k = first_counts (folding_begun_by tree) (λ home. begun_counts s home tree) begun begins e k

  -- a change that is noted, and changes that are dropped
  pub kept_counts : (buffer : List Noted) → ((n : ℕ) → counted r n ≡ n) → b ≡ record a { buffer = buffer } → CountsWork calls s a.work → Left
  kept_counts buffer still same k =
      subst (λ (n : ℕ). CountsWork n s b.work) (sym (still calls)) (subst (λ (x : Acting). CountsWork calls s x.work) (sym same) k)

-- ---- one step

module _ (who : Caller) (wish : Wish) (before after : Seen) (old new : World) (turn : Turn Answer) (p : StepsLooked who wish (span_of before after old new) turn) (x : CloudState)
    (told : before.state ≡ Some x) (book : Book) (order : List Entry) (stand : SessionsStand book order (record x { wish = wish }) (session_at old.sessions))
    (own : StepsSession who p.under p.to (session_at old.sessions who.session) p.session.after (Ok turn)) (y : CloudState) (left : p.to.state ≡ Some y)
    (calls : ℕ → ℕ) (all : CountsAll calls x (session_at old.sessions)) (last : CloudState) (seen : after.state ≡ Some last) where
  abbrev wished : CloudState
  wished = record x { wish = wish }

  told_wished : p.under.state ≡ Some wished
  told_wished = p.wishes.set x (p.look_before.stays x told)

  under_wish : CountsAll calls wished (session_at old.sessions)
  under_wish n = counts_beside (calls n) x wished (session_at old.sessions n).work
      (record { next = λ tree. no_more (next_page x tree); grown = grown_itself x wished refl refl refl refl }) (all n)

  last_is : y ≡ last
  last_is = same_Some y last (sym (p.look_after.stays y left) ∙ seen)

  pub step_few : FewFor (calls who.session + 1) last p.session.before.work
  step_few =
      subst (λ (a : Acting). FewFor (calls who.session + 1) last a.work) (changed_was who.session _ old.sessions new.sessions p.session)
      (subst (λ (z : CloudState). FewFor (calls who.session + 1) z (session_at old.sessions who.session).work) last_is
      (session_few who p.under p.to wished y book order (session_at old.sessions) told_wished left stand calls p.session.after turn under_wish own))

  pub step_names : StepNames who wish (span_of before after old new) turn p
  step_names s told_at home m done works ends =
      subst (λ (z : CloudState). NamesPieces z m done) (same_Some wished s (sym told_wished ∙ told_at))
      (session_names who p.under p.to wished y book order (session_at old.sessions) told_wished left stand calls p.session.after turn under_wish own home m done
      (ap (λ (a : Acting). a.work) (changed_was who.session _ old.sessions new.sessions p.session) ∙ works) ends)

  left_by : (c : ℕ → ℕ) → CountsAll c y (at who.session p.session.after (session_at old.sessions)) → CountsAll c last (session_at new.sessions)
  left_by c k =
      subst (λ (z : CloudState). CountsAll c z (session_at new.sessions)) last_is
      (counts_like c c y (at who.session p.session.after (session_at old.sessions)) (session_at new.sessions) (λ n. refl)
      (changed_at who.session _ old.sessions new.sessions p.session) k)

  pub step_more : (next : Book) (order_next : List Entry) → SessionsStand next order_next y (at who.session p.session.after (session_at old.sessions)) → turn ≡ More
      → CountsAll (at who.session (calls who.session + 1) calls) last (session_at new.sessions)
  step_more next order_next stand_next more =
      left_by (at who.session (calls who.session + 1) calls)
      (more_counts who p.under p.to wished y book order (session_at old.sessions) told_wished left stand calls under_wish p.session.after next order_next stand_next
      (subst (λ (u : Turn Answer). StepsSession who p.under p.to (session_at old.sessions who.session) p.session.after (Ok u)) more own))

  pub step_end : (a : Answer) (mine : ℕ) → turn ≡ Ended a → CountsAll (at who.session mine calls) last (session_at new.sessions)
  step_end a mine ends =
      left_by (at who.session mine calls)
      (end_counts who p.under p.to wished y book order (session_at old.sessions) told_wished left stand calls under_wish p.session.after a mine
      (subst (λ (u : Turn Answer). StepsSession who p.under p.to (session_at old.sessions who.session) p.session.after (Ok u)) ends own))

-- ---- steps within a line

module _ (lines : List Line) (who : Caller) (number : who.event ≡ length lines + 1) (calls : ℕ → ℕ) where
  -- so many calls of the session itself
  abbrev Own : ℕ → CloudState → World → Type 0
  Own own s world = CountsAll (at who.session own calls) s (session_at world.sessions)

  module _ (wish : Wish) (before after : Seen) (old new : World) (turn : Turn Answer) (way : IsUnderWay lines old before) (p : StepsLooked who wish (span_of before after old new) turn)
      (mine : ℕ) (all : Own mine way.after old) (last : CloudState) (seen : after.state ≡ Some last) where
    held : CloudHolds (length lines + 1) lines (session_at old.sessions) old.audit old.blind (record way.after { wish = wish })
    held = wish_holds (length lines + 1) lines (session_at old.sessions) old.audit old.blind way.after wish way.goes.holds

    leaves : CallLeaves lines p.to (at who.session p.session.after (session_at old.sessions)) new.audit new.blind
    leaves = call lines who wish before after old new turn number way p

    steps : StepsSession who p.under p.to (session_at old.sessions who.session) p.session.after (Ok turn)
    steps = steps_own lines who wish before after old new turn number way p

    mine_is : at who.session mine calls who.session ≡ mine
    mine_is = at_same who.session mine calls who.session refl

    pub few_of : FewFor (mine + 1) last p.session.before.work
    few_of =
        subst (λ (n : ℕ). FewFor (n + 1) last p.session.before.work) mine_is
        (step_few who wish before after old new turn p way.after way.told held.book held.order held.stand steps leaves.state leaves.told (at who.session mine calls) all last seen)

    pub names_to : StepNames who wish (span_of before after old new) turn p
    names_to =
        step_names who wish before after old new turn p way.after way.told held.book held.order held.stand steps leaves.state leaves.told (at who.session mine calls) all last seen

    pub more_of : turn ≡ More → Own (mine + 1) last new
    more_of more =
        counts_like (at who.session (at who.session mine calls who.session + 1) (at who.session mine calls)) (at who.session (mine + 1) calls) last
        (session_at new.sessions) (session_at new.sessions)
        (λ n. sym (own_twice who.session mine (mine + 1) calls n) ∙ ap (λ (k : ℕ). at who.session (k + 1) (at who.session mine calls) n) (sym mine_is)) (λ n. refl)
        (step_more who wish before after old new turn p way.after way.told held.book held.order held.stand steps leaves.state leaves.told (at who.session mine calls) all last seen
        leaves.holds.book leaves.holds.order leaves.holds.stand more)

    pub end_of : (a : Answer) (k : ℕ) → turn ≡ Ended a → Own k last new
    end_of a k ends =
        counts_like (at who.session k (at who.session mine calls)) (at who.session k calls) last (session_at new.sessions) (session_at new.sessions)
        (λ n. sym (own_twice who.session mine k calls n)) (λ n. refl)
        (step_end who wish before after old new turn p way.after way.told held.book held.order held.stand steps leaves.state leaves.told (at who.session mine calls) all last seen a k ends)

  -- what is left of a call that was made is told
  pub names_of : (wish : Wish) (before after : Seen) (old new : World) (turn : Turn Answer) (way : IsUnderWay lines old before) (p : StepsLooked who wish (span_of before after old new) turn)
      (mine : ℕ) → Own mine way.after old → StepNames who wish (span_of before after old new) turn p
  names_of wish before after old new turn way p mine all =
      let c = call lines who wish before after old new turn number way p in
      names_to wish before after old new turn way p mine all c.state (p.look_after.stays c.state c.told)

  -- behind some steps
  pub went_counts : (before : Seen) (old : World) (after : Seen) (new : World) → (way : IsUnderWay lines old before) → CountsAll calls way.after (session_at old.sessions)
      → (went : Went who before old after new) (s : CloudState) → after.state ≡ Some s → Own (calls who.session + steps_of went) s new
  went_counts before old after new way all start s seen =
      subst (λ (z : CloudState). Own (calls who.session + 0) z old) (same_Some way.after s (sym way.told ∙ seen))
      (counts_like calls (at who.session (calls who.session + 0) calls) way.after (session_at old.sessions) (session_at old.sessions)
      (λ n. ap (λ (k : ℕ). at who.session k calls n) none_more ∙ own_again who.session calls n) (λ n. refl) all)
    where
      none_more : calls who.session + 0 ≡ calls who.session
      none_more = omega arith
  went_counts before old after new way all (further mid _ world _ went step) s seen =
      let gone = went_on lines who before old mid world number way went in
      let was = went_counts before old mid world way all went gone.after gone.told in
      let one = more_of Plain mid after world new More gone step (calls who.session + steps_of went) was s seen refl in
      let sum : (calls who.session + steps_of went) + 1 ≡ calls who.session + (steps_of went + 1) = omega arith in
      subst (λ (k : ℕ). Own k s new) sum one

-- behind these lines, with as many calls of a session as they tell
pub begins_own : (lines : List Line) (k : ℕ) (old : World) (t : CloudState) → CountsAll (calls_told lines) t (session_at old.sessions)
    → CountsAll (at k (calls_told lines k) (calls_told lines)) t (session_at old.sessions)
begins_own lines k old t all =
    counts_like (calls_told lines) (at k (calls_told lines k) (calls_told lines)) t (session_at old.sessions) (session_at old.sessions)
    (own_again k (calls_told lines)) (λ m. refl) all

-- ---- a session's work

-- a checkpoint that begins has made no call, and the others as many as before
pub begun_none : (calls : ℕ → ℕ) (k mine : ℕ) (home : Home) (queue : QueueName) (s : CloudState) (old begun : World) → IsIdle home (session_at old.sessions k).work
    → BeginsCheckpoint k queue old begun → CountsAll (at k mine calls) s (session_at old.sessions) → CountsAll (at k 0 calls) s (session_at begun.sessions)
begun_none calls k mine home queue s old begun idle b all m =
    subst (λ (a : Acting). CountsWork (at k 0 calls m) s a.work) (sym (changed_at k _ old.sessions begun.sessions c m)) (on (cases_eq m k))
  where
    c : Changes k (λ a b. Begins (checkpoint_of queue) a b (Ok Working)) old.sessions begun.sessions
    c = b.session

    mine_is : CountsWork 0 s c.after.work
    mine_is =
        begin_counts reply.Begun 0 s c.before c.after (checkpoint_of queue) (Ok Working) c.does refl
        (subst (λ (w : Work). CountsWork 0 s w) (sym (ap (λ (a : Acting). a.work) (sym (changed_was k _ old.sessions begun.sessions c)) ∙ idle)) tt)

    on : (m ≡ k) ⊎ (m ≢ k) → CountsWork (at k 0 calls m) s (at k c.after (session_at old.sessions) m).work
    on (inl same) =
        subst (λ (j : ℕ). CountsWork j s (at k c.after (session_at old.sessions) m).work) (sym (at_same k 0 calls m same))
        (subst (λ (a : Acting). CountsWork 0 s a.work) (sym (at_same k c.after (session_at old.sessions) m same)) mine_is)
    on (inr other) =
        subst (λ (j : ℕ). CountsWork j s (at k c.after (session_at old.sessions) m).work) (at_other k mine calls m other ∙ sym (at_other k 0 calls m other))
        (subst (λ (a : Acting). CountsWork (at k mine calls m) s a.work) (sym (at_other k c.after (session_at old.sessions) m other)) (all m))

module _ (n k : ℕ) (lines : List Line) (home : Home) (row : IsWorkersRow lines (worker k n)) (first : Sessions) (calls : ℕ → ℕ) where
  -- so many calls of the session at work
  abbrev Mine : ℕ → CloudState → World → Type 0
  Mine mine s world = CountsAll (at k mine calls) s (session_at world.sessions)

  module _ (before after : Seen) (old new : World) (turn : Turn Answer) (w : IsInside k home first old) (h : HoldsWithin n lines old before)
      (p : StepsLooked (worker k n) Plain (span_of before after old new) turn) (mine : ℕ) (all : Mine mine h.state old) (last : CloudState) (seen : after.state ≡ Some last) where
    held_in : CloudHolds n lines (session_at old.sessions) old.audit old.blind (record h.state { wish = Plain })
    held_in = wish_holds n lines (session_at old.sessions) old.audit old.blind h.state Plain h.holds

    left_in : CallLeavesUpto n lines p.to (at k p.session.after (session_at old.sessions)) new.audit new.blind
    left_in = worker_call n k lines home row first before after old new turn w h p

    steps_in : StepsSession (worker k n) p.under p.to (session_at old.sessions k) p.session.after (Ok turn)
    steps_in = worker_own n k lines home row first before after old new turn w h p

    own_mine : at k mine calls k ≡ mine
    own_mine = at_same k mine calls k refl

    pub worker_few : FewFor (mine + 1) last p.session.before.work
    worker_few =
        subst (λ (j : ℕ). FewFor (j + 1) last p.session.before.work) own_mine
        (step_few (worker k n) Plain before after old new turn p h.state h.told held_in.book held_in.order held_in.stand steps_in left_in.state left_in.told (at k mine calls) all last seen)

    pub worker_names : StepNames (worker k n) Plain (span_of before after old new) turn p
    worker_names =
        step_names (worker k n) Plain before after old new turn p h.state h.told held_in.book held_in.order held_in.stand steps_in left_in.state left_in.told (at k mine calls) all last seen

    pub worker_more : turn ≡ More → Mine (mine + 1) last new
    worker_more more =
        counts_like (at k (at k mine calls k + 1) (at k mine calls)) (at k (mine + 1) calls) last (session_at new.sessions) (session_at new.sessions)
        (λ m. sym (own_twice k mine (mine + 1) calls m) ∙ ap (λ (j : ℕ). at k (j + 1) (at k mine calls) m) (sym own_mine)) (λ m. refl)
        (step_more (worker k n) Plain before after old new turn p h.state h.told held_in.book held_in.order held_in.stand steps_in left_in.state left_in.told (at k mine calls) all last seen
        left_in.holds.book left_in.holds.order left_in.holds.stand more)

    pub worker_end : (a : Answer) (j : ℕ) → turn ≡ Ended a → Mine j last new
    worker_end a j ends =
        counts_like (at k j (at k mine calls)) (at k j calls) last (session_at new.sessions) (session_at new.sessions)
        (λ m. sym (own_twice k mine j calls m)) (λ m. refl)
        (step_end (worker k n) Plain before after old new turn p h.state h.told held_in.book held_in.order held_in.stand steps_in left_in.state left_in.told (at k mine calls) all last seen a j ends)

  -- behind some steps_in of a checkpoint
  pub worker_went : (before : Seen) (old : World) (after : Seen) (new : World) → IsInside k home first old → (h : HoldsWithin n lines old before) → Mine 0 h.state old
      → (went : Went (worker k n) before old after new) (s : CloudState) → after.state ≡ Some s → Mine (steps_of went) s new
  worker_went before old after new w h all start s seen = subst (λ (z : CloudState). Mine 0 z old) (same_Some h.state s (sym h.told ∙ seen)) all
  worker_went before old after new w h all (further mid _ world _ went step) s seen =
      let gone = holds_went n k lines home row first before old mid world w h went in
      worker_more mid after world new More (within_went (worker k n) home first before old mid world w went) gone step (steps_of went)
      (worker_went before old mid world w h all went gone.state gone.told) s seen refl

  -- behind one that begins
  pub made_none : (queue : QueueName) (before after : Seen) (old new : World) (a : Answer) → IsBetween k home first old → (h : HoldsWithin n lines old before) (mine : ℕ) → Mine mine h.state old
      → Checkpoints (worker k n) queue (span_of before after old new) a → (s : CloudState) → after.state ≡ Some s → Mine 0 s new
  made_none queue before after old new a w h mine all c s seen =
      let begun = within_begun k home first queue old c.begun w c.begins in
      let held_in = holds_begun n lines k queue before old c.begun h c.begins in
      let none = subst (λ (z : CloudState). Mine 0 z c.begun) (same_Some h.state held_in.state (sym h.told ∙ held_in.told)) (begun_none calls k mine home queue h.state old c.begun w.works c.begins all) in
      let gone = holds_went n k lines home row first before c.begun c.comes.mid c.comes.world begun held_in c.comes.went in
      worker_end c.comes.mid after c.comes.world new (Ended a) (within_went (worker k n) home first before c.begun c.comes.mid c.comes.world begun c.comes.went) gone c.comes.steps
      (steps_of c.comes.went)
      (worker_went before c.begun c.comes.mid c.comes.world begun held_in none c.comes.went gone.state gone.told) s seen a 0 refl

  pub works_none : (before : Seen) (old : World) (queues : List QueueName) (done passed : ℕ) (after : Seen) (new : World) → IsBetween k home first old → (h : HoldsWithin n lines old before)
      → (mine : ℕ) → Mine mine h.state old → Works (worker k n) before old (gone_through queues done passed) after new → (s : CloudState) → after.state ≡ Some s → (own : ℕ) × Mine own s new
  works_none before old queues done passed after new w h mine all no_checkpoint s seen = (mine, subst (λ (z : CloudState). Mine mine z old) (same_Some h.state s (sym h.told ∙ seen)) all)
  works_none before old queues done passed after new w h mine all (checkpoint_more others kept left mid world queue a _ _ works makes passes) s seen =
      let gone = holds_works n k lines home row first before old others kept left mid world w h works in
      let was = works_none before old others kept left mid world w h mine all works gone.state gone.told in
      (0, made_none queue mid after world new a (within_works (worker k n) home first before old others kept left mid world w works) gone was.0 was.1 makes s seen)

-- One more step of a world.
use Rattle.std.proofs.Common.{◌≡◌, ◌≢◌, ◌<◌, ℕ, refl, List, length, Option, Some, None, Result, Ok, sym, ap, subst, ◌∙◌, ◌⊎◌, inl, inr, Bool, true}
use Rattle.std.specs.Prelude.{slice_get, slice_set, unwrap_or, is_some}
use Rattle.std.specs.Option.{option_map}
use Rattle.std.proofs.lemmas.List.{get_or-set_same, length-set}
use Rattle.std.proofs.lemmas.Option.{slice_get_within, slice_get-get_or}
use Rattle.cloud_facts.specs.Words.{ObjName, Turn, More, Ended, Stopped, Caller, Seen, Ask}
use Rattle.page_cache.specs.Cache.{Cache}
use Rattle.recover_run.specs.declared.home.Home.{Home}
use Rattle.txn_buffer.specs.Noted.{Noted}
use Rattle.db_base.specs.declared.wish.Wish.{Wish}
use Rattle.client_work.specs.declared.work.Work.{Work}
use Rattle.client_work.specs.declared.work.Work.TheVariants.{Closed, Idle, Opening, Committing, Reading, Scanning, Looking, Paging, Folding, Closing, Renewing, Settling, Sweeping, Broken}
use Rattle.client_work.specs.declared.listing.Listing.{Listing}
use Rattle.client_work.specs.declared.shown.Shown.{Shown}
use Rattle.client_work.specs.Session.{Acting, closed_session, Follows, StepsAt, ask_of_work, calls_left, acting_of}
use Rattle.client_work.proofs.End.{session_less}
use Rattle.world_core.specs.World.{World}
use Rattle.world_core.specs.Put.{Put, put_of}
use Rattle.history.specs.Audited.{Audited}
use Rattle.db_base.specs.declared.wish.Wish.TheVariants.{Plain}
use Rattle.client_work.specs.declared.answer.Answer.{Answer}
use Rattle.world_core.specs.Sessions.{Changes, IsAtWork, HasPut}
use Rattle.world_core.specs.Put.{noted_put}
use Rattle.world_core.specs.declared.world.WorldFault.{WorldFault}
use Rattle.world_core.specs.Handled.{StepsLooked, Went, further}
use Rattle.world_core.specs.Span.{span_of}

-- the session of a number that has one is no other
pub same_session : (sessions : List Acting) (place : ℕ) (a b : Acting) → slice_get sessions place ≡ Some a → slice_get sessions place ≡ Some b → a ≡ b
same_session sessions place a b e f = let g : Some a ≡ Some b = sym e ∙ f in cc

pub put_before : (number : ℕ) (sessions : List Acting) (put : Option Put) (a : Acting) → HasPut number sessions put → slice_get sessions number ≡ Some a → put_of a.work ≡ put
put_before number sessions put a has there = ap (λ (z : Acting). put_of z.work) (same_session sessions number a has.session there has.there) ∙ has.put_is

-- a session with a call in hand is at work
pub at_work : {X : Type 0} (ask : X → Ask) (call : Option X) (number : ℕ) (sessions : List Acting) (a : Acting) (is : Bool) → slice_get sessions number ≡ Some a
    → option_map ask call ≡ ask_of_work a.work → is ≡ is_some call → is ≡ true → IsAtWork number sessions
at_work ask None number sessions a is there hand some works = absurd (cc (some, works))
at_work ask (Some x) number sessions a is there hand some works = record { session = a; there = there; ask = ask x; hand = sym hand }

-- what is in hand of the session of a number
abbrev pub in_hand : List Acting → ℕ → Work
in_hand sessions number = (unwrap_or (slice_get sessions number) closed_session).work

set_there : (sessions : List Acting) (place : ℕ) (before after : Acting) → slice_get sessions place ≡ Some before → slice_get (slice_set sessions place after) place ≡ Some after
set_there sessions place before after there =
    let within : place < length sessions = slice_get_within sessions place before there in
    let more : place < length (slice_set sessions place after) = subst (λ n. place < n) (sym (length-set sessions place after)) within in
    slice_get-get_or (slice_set sessions place after) place after more ∙ ap Some (get_or-set_same sessions place after after within)

pub after_there : (number : ℕ) (Does : Acting → Acting → Type 0) (old new : List Acting) → (c : Changes number Does old new) → slice_get new number ≡ Some c.after
after_there number Does old new c = ap (λ l. slice_get l number) c.rest ∙ set_there old number c.before c.after c.there

-- a scan that goes on has a call in hand
follows_asks : (home : Home) (buffer : List Noted) (m : Listing) (c : Cache) (moved : Turn ℕ) (new : Work) (shown : Shown) → Follows home m moved (acting_of buffer new c shown) More
    → (ask : Ask) × (ask_of_work new ≡ Some ask)
follows_asks home buffer m c More new shown f = (_, ap ask_of_work f.0)
follows_asks home buffer m c (Ended page) new shown f = (_, ap ask_of_work f.3)
follows_asks home buffer m c (Stopped t) new shown f = absurd (cc (f.2))

-- a step that goes on leaves a call in hand
more_asks : (who : Caller) (before after : Seen) (w new : Work) → StepsAt who before after w new More → (ask : Ask) × (ask_of_work new ≡ Some ask)
more_asks who before after (Opening m) new p = (_, ap ask_of_work p.1.2)
more_asks who before after (Committing m) new p = (_, ap ask_of_work p.3.2)
more_asks who before after (Reading home m) new p = (_, ap ask_of_work p.2)
more_asks who before after (Scanning home m) new (buffer, c, d, shown, p) = follows_asks home buffer (record { scan = p.scan; pairs = m.pairs }) d p.moved new shown p.follows
more_asks who before after (Looking home m) new (buffer, c, d, shown, p) = (_, ap ask_of_work p.2)
more_asks who before after (Paging home m) new p = (_, ap ask_of_work p.2)
more_asks who before after (Folding home f) new p = (_, ap ask_of_work p.2)
more_asks who before after (Closing lease) new p = absurd p
more_asks who before after (Renewing home) new p = absurd p
more_asks who before after (Settling m) new p = (_, ap ask_of_work p.1.2)
more_asks who before after (Sweeping m) new p = (_, ap ask_of_work p.2)
more_asks who before after Closed new p = absurd p
more_asks who before after (Idle home) new p = absurd p
more_asks who before after (Broken lease) new p = absurd p

pub works_on : (who : Caller) (wish : Wish) (before after : Seen) (old new : World) → StepsLooked who wish (span_of before after old new) More → IsAtWork who.session new.sessions
works_on who wish before after old new p =
    let asks = more_asks who p.under p.to p.session.before.work p.session.after.work p.session.does.work in
    record { session = p.session.after; there = after_there who.session _ old.sessions new.sessions p.session; ask = asks.0; hand = asks.1 }

-- and fewer calls than before
pub goes_less : (who : Caller) (wish : Wish) (before after : Seen) (old new : World) → StepsLooked who wish (span_of before after old new) More
    → calls_left (in_hand new.sessions who.session) < calls_left (in_hand old.sessions who.session)
goes_less who wish before after old new p =
    let less = session_less who p.under p.to p.session.before p.session.after p.session.does in
    let was : in_hand old.sessions who.session ≡ p.session.before.work = ap (λ o. (unwrap_or o closed_session).work) p.session.there in
    let is : in_hand new.sessions who.session ≡ p.session.after.work =
    ap (λ o. (unwrap_or o closed_session).work) (after_there who.session _ old.sessions new.sessions p.session) in
    subst (λ w. calls_left (in_hand new.sessions who.session) < calls_left w) (sym was)
    (subst (λ w. calls_left w < calls_left p.session.before.work) (sym is) less)

-- ---- the last of some steps

pub went_further : (who : Caller) (before mid after : Seen) (old world new : World) (turn : Turn Answer) → turn ≡ More → Went who before old mid world
    → StepsLooked who Plain (span_of mid after world new) turn → Went who before old after new
went_further who before mid after old world new turn is went step =
    further mid after world new went (subst (λ t. StepsLooked who Plain (span_of mid after world new) t) is step)

pub works_further : (who : Caller) (before after : Seen) (old new : World) (turn : Turn Answer) → turn ≡ More → StepsLooked who Plain (span_of before after old new) turn
    → IsAtWork who.session new.sessions
works_further who before after old new turn is step = works_on who Plain before after old new (subst (λ t. StepsLooked who Plain (span_of before after old new) t) is step)

pub less_further : (who : Caller) (before after : Seen) (old new : World) (turn : Turn Answer) → turn ≡ More → StepsLooked who Plain (span_of before after old new) turn
    → calls_left (in_hand new.sessions who.session) < calls_left (in_hand old.sessions who.session)
less_further who before after old new turn is step = goes_less who Plain before after old new (subst (λ t. StepsLooked who Plain (span_of before after old new) t) is step)

-- ---- what a step that is a put leaves of the audit

-- what was noted is what the session that then stepped had in hand
pub noted_of : (other number : ℕ) (sessions : List Acting) (a b : Acting) (name : ObjName) (old new : Audited) → other ≡ number → slice_get sessions other ≡ Some a
    → slice_get sessions number ≡ Some b → new ≡ noted_put name a.work old → new ≡ noted_put name b.work old
noted_of other number sessions a b name old new same e f noted =
    let there : slice_get sessions number ≡ Some a = subst (λ n. slice_get sessions n ≡ Some a) same e in
    noted ∙ ap (λ (z : Acting). noted_put name z.work old) (same_session sessions number a b there f)

-- a world that is blind was so, or a look of this step failed
pub blinds : (blind : Bool) (before after : Option Bool) (last : Result (Option Bool) WorldFault) (P Q : Type 0) → last ≡ Ok after
    → (before ≡ None → P) → (last ≡ Ok None → before ≢ None → Q) → (blind ≡ true) ⊎ ((before ≡ None) ⊎ (after ≡ None)) → (blind ≡ true) ⊎ (P ⊎ Q)
blinds blind before after last P Q e p q (inl was) = inl was
blinds blind before after last P Q e p q (inr (inl none)) = inr (inl (p none))
blinds blind None after last P Q e p q (inr (inr none)) = inr (inl (p refl))
blinds blind (Some was) after last P Q e p q (inr (inr none)) = inr (inr (q (e ∙ ap Ok none) (λ f. cc)))

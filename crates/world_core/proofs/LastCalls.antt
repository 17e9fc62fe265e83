-- What a step that ends an operation leaves says of its one call what the operation's answer says.
use Rattle.std.proofs.Common.{◌≡◌, ◌⊎◌, ℕ, List, ◌∷◌, Option, Ok, refl, sym, ap, subst, ◌∙◌, inl, inr}
use Rattle.attr_index.specs.Look.{Look, Query}
use Rattle.client_work.specs.Causes.{CausesAt, ScanAnswers, deed_by}
use Rattle.client_work.specs.Session.{Acting, StepsAt, ShowsAt, Follows, ShowsList, in_hand, items_of, noted_behind, opened_work, value_of}
use Rattle.client_work.specs.Shows.{ShowsValue, ShowsRecords, ShowsFound, own_of}
use Rattle.client_work.specs.declared.answer.Answer.{Answer}
use Rattle.client_work.specs.declared.answer.Answer.TheVariants as answer
use Rattle.client_work.specs.declared.listing.Listing.{Listing}
use Rattle.client_work.specs.declared.work.Work.{Work}
use Rattle.client_work.specs.declared.work.Work.TheVariants as work
use Rattle.cloud_facts.specs.Words.{Answer as Heard, Turn, More, Ended, Stopped, Caller, Seen, Claim, Renew, Ends, Goes, Stops, Deed, calls_of}
use Rattle.cloud_trait.specs.Claim.{extended}
use Rattle.cloud_trait.specs.Views.{renewed_of}
use Rattle.cloud_trait.specs.Weather.{leased, Makes, RenewsLease}
use Rattle.cloud_trait.specs.declared.answer.Answer.TheVariants as call
use Rattle.cloud_trait.specs.declared.turn.CkptAnswer.{CkptAnswer}
use Rattle.db_base.specs.Limits.{client_ticks}
use Rattle.db_base.specs.declared.pair.Pair.{Pair}
use Rattle.db_base.specs.declared.trouble.Trouble.TheVariants as trouble
use Rattle.db_base.specs.declared.wish.Wish.{Wish}
use Rattle.page_cache.specs.Cache.{Cache}
use Rattle.page_ckpt.proofs.Outcomes.{Comes, comes}
use Rattle.page_ckpt.proofs.Outcomes as step
use Rattle.page_ckpt.specs.Meaning.{IsDone as IsPageDone}
use Rattle.page_ckpt.specs.Paging.{Paging, Step, paging_ask}
use Rattle.range_scan.specs.Meaning.{Range, range_of}
use Rattle.range_scan.specs.Scan.{scan_ask}
use Rattle.attr_index.specs.Look.{look_ask}
use Rattle.recover_run.proofs.Meaning.{came_means}
use Rattle.recover_run.specs.Meaning.{IsOpened, head_behind}
use Rattle.recover_run.specs.Recovery.{Recovery, recovery_ask, home_of}
use Rattle.recover_run.specs.declared.home.Home.{Home}
use Rattle.recover_run.specs.declared.stage.Aim.TheVariants as aim
use Rattle.recover_run.specs.declared.stage.RecoverAnswer.TheVariants.{Opened}
use Rattle.session_facts.specs.Lines.Facts.{session_at}
use Rattle.tree_ckpt.specs.Making.{Making, making_ask}
use Rattle.tree_ckpt.specs.Meaning.{IsDone as IsTreeDone}
use Rattle.tree_walk.specs.Walk.{Walk, walk_ask}
use Rattle.world_core.specs.Handled.{StepsLooked}
use Rattle.world_core.specs.Span.{span_of}
use Rattle.world_core.specs.Tells.{Opens, Renews, Reads, Scans, Finds, Pages, Folds}
use Rattle.world_core.specs.World.{World}
use Rattle.world_core.proofs.AllCalls.{stepped_is, call_by}

-- ---- which machine answers so

-- a scan answers with its records or with a trouble
abbrev IsNoScan : Answer → Type 0
IsNoScan answer.Scan = ⊥
IsNoScan (answer.Trouble t) = ⊥
IsNoScan a = Unit {0}

scan_not : (moved : Turn ℕ) (a : Answer) → ScanAnswers moved (Ended a) → IsNoScan a → ⊥
scan_not More a e none = absurd (cc (e))
scan_not (Ended page) a (inl e) none = absurd (cc (e))
scan_not (Ended page) a (inr (inl e)) none = let is : a ≡ answer.Scan = cc (e) in subst IsNoScan is none
scan_not (Ended page) a (inr (inr e)) none = let is : a ≡ answer.Trouble trouble.Memory = cc (e) in subst IsNoScan is none
scan_not (Stopped t) a e none = let is : a ≡ answer.Trouble t = cc (e) in subst IsNoScan is none

-- an opening, by its calls up to this one
record OpensBy (who : Caller) (under to : Seen) (w left : Work) (epoch : ℕ) : Type 0 where
  recovery : Recovery
  was : w ≡ work.Opening recovery
  heard : Heard
  made : Makes who (recovery_ask recovery) heard under to
  client : ℕ
  own : recovery.client ≡ client
  former : Option Claim
  earlier : List Deed
  new : Recovery
  opened : IsOpened client aim.Opening former ((recovery_ask recovery, heard) ∷ calls_of earlier) new epoch
  left_is : left ≡ opened_work (home_of new)

module _ (who : Caller) (under to : Seen) (left : Work) (c d : Cache) where
  opens_at : (w : Work) (epoch : ℕ) → StepsAt who under to w left (Ended (answer.Opened epoch)) → CausesAt who under to (w, c) (left, d) (Ended (answer.Opened epoch))
      → OpensBy who under to w left epoch
  opens_at (work.Opening m) epoch p q =
      let s = p.1 in
      record {
        recovery = m;
        was = refl;
        heard = s.1.answer;
        made = s.1.made;
        client = q.1.client;
        own = q.1.means.own;
        former = q.1.former;
        earlier = q.1.earlier;
        new = s.0;
        opened = came_means m s.0 s.1.answer (Ended (Opened epoch)) s.1.took q.1.client aim.Opening q.1.former q.1.earlier q.1.went;
        left_is = s.2;
      }
  opens_at (work.Committing m) epoch p q = absurd q
  opens_at (work.Reading home m) epoch p q = absurd q
  opens_at (work.Scanning home m) epoch p q = absurd (scan_not q.1 (answer.Opened epoch) q.3 tt)
  opens_at (work.Looking home m) epoch p q = absurd q
  opens_at (work.Paging home m) epoch p q = absurd q
  opens_at (work.Folding home m) epoch p q = absurd q
  opens_at (work.Closing lease) epoch p q = absurd p
  opens_at (work.Renewing home) epoch p q = absurd p
  opens_at (work.Settling m) epoch p q = absurd q
  opens_at (work.Sweeping m) epoch p q = absurd q
  opens_at work.Closed epoch p q = absurd q
  opens_at (work.Idle home) epoch p q = absurd q
  opens_at (work.Broken lease) epoch p q = absurd q

-- a renewal, by its one call
pub record RenewsBy (who : Caller) (under to : Seen) (w left : Work) (end : ℕ) : Type 0 where
  pub home : Home
  pub was : w ≡ work.Renewing home
  pub made : Makes who (Renew home.lease client_ticks) (call.Renewed end) under to
  pub new : Home
  pub lease : new.lease ≡ extended home.lease end
  pub left_is : left ≡ work.Idle new

heard_renewed : (a : Heard) (end : ℕ) → renewed_of a ≡ Ok end → a ≡ call.Renewed end
heard_renewed (call.Renewed e) end is = cc (is)
heard_renewed a end is = absurd (cc (is))

module _ (who : Caller) (under to : Seen) (left : Work) (c d : Cache) where
  pub renews_at : (w : Work) (end : ℕ) → StepsAt who under to w left (Ended (answer.Renewed end)) → CausesAt who under to (w, c) (left, d) (Ended (answer.Renewed end))
      → RenewsBy who under to w left end
  renews_at (work.Renewing home) end p q =
      let is : p.1.answer ≡ call.Renewed end = heard_renewed p.1.answer end p.1.took in
      record {
        home = home;
        was = refl;
        made = subst (λ (a : Heard). Makes who (Renew home.lease client_ticks) a under to) is p.1.made;
        new = p.0;
        lease = subst (λ (a : Heard). RenewsLease who client_ticks a (leased home.lease under) (leased p.0.lease to)) is p.1.lease;
        left_is = p.2;
      }
  renews_at (work.Opening m) end p q = absurd q
  renews_at (work.Committing m) end p q = absurd q
  renews_at (work.Reading home m) end p q = absurd q
  renews_at (work.Scanning home m) end p q = absurd (scan_not q.1 (answer.Renewed end) q.3 tt)
  renews_at (work.Looking home m) end p q = absurd q
  renews_at (work.Paging home m) end p q = absurd q
  renews_at (work.Folding home m) end p q = absurd q
  renews_at (work.Closing lease) end p q = absurd p
  renews_at (work.Settling m) end p q = absurd q
  renews_at (work.Sweeping m) end p q = absurd q
  renews_at work.Closed end p q = absurd q
  renews_at (work.Idle home) end p q = absurd q
  renews_at (work.Broken lease) end p q = absurd q

-- a checkpoint that is done is of the page at which it began
abbrev EndsAtPage : Paging → Step → Type 0
EndsAtPage p (Goes n) = Unit {0}
EndsAtPage p (Ends n x) = (n.tree ≡ p.tree) × (n.page ≡ p.page)
EndsAtPage p (Stops n t) = Unit {0}

ends_at_page : {p : Paging} {a : Heard} {next : Step} → Comes p a next → EndsAtPage p next
ends_at_page (step.ends p first second a last none) = (refl, refl)
ends_at_page (step.refused p first second a t e) = tt
ends_at_page (step.stopped p first second a t last kept) = tt
ends_at_page (step.nothing p first second a) = tt
ends_at_page c = tt

-- a checkpoint, by its calls up to this one
record PagesBy (who : Caller) (under to : Seen) (w : Work) (done : CkptAnswer) : Type 0 where
  home : Home
  old : Paging
  was : w ≡ work.Paging home old
  heard : Heard
  made : Makes who (paging_ask old) heard under to
  new : Paging
  same : (new.tree ≡ old.tree) × (new.page ≡ old.page)
  earlier : List Deed
  is_done : IsPageDone (paging_ask old) new earlier done

record FoldsBy (who : Caller) (under to : Seen) (w : Work) (done : CkptAnswer) : Type 0 where
  home : Home
  making : Making
  was : w ≡ work.Folding home making
  heard : Heard
  made : Makes who (making_ask making) heard under to
  earlier : List Deed
  is_done : IsTreeDone (making_ask making) making.tree making.received earlier done

module _ (who : Caller) (under to : Seen) (left : Work) (c d : Cache) where
  done_at : (w : Work) (done : CkptAnswer) → StepsAt who under to w left (Ended (answer.Done done)) → CausesAt who under to (w, c) (left, d) (Ended (answer.Done done))
      → PagesBy who under to w done ⊎ FoldsBy who under to w done
  done_at (work.Paging home m) done p q =
      let did = q.1.stepped.did in
      inl (record {
        home = home;
        old = m;
        was = refl;
        heard = did.answer;
        made = did.made;
        new = q.0;
        same = ends_at_page (comes m did.answer (Ends q.0 done) did.took);
        earlier = q.1.earlier;
        is_done = q.1.means.done;
      })
  done_at (work.Folding home m) done p q =
      let did = q.1.stepped.did in
      inr (record { home = home; making = m; was = refl; heard = did.answer; made = did.made; earlier = q.1.earlier; is_done = q.1.means.done })
  done_at (work.Opening m) done p q = absurd q
  done_at (work.Committing m) done p q = absurd q
  done_at (work.Reading home m) done p q = absurd q
  done_at (work.Scanning home m) done p q = absurd (scan_not q.1 (answer.Done done) q.3 tt)
  done_at (work.Looking home m) done p q = absurd q
  done_at (work.Closing lease) done p q = absurd p
  done_at (work.Renewing home) done p q = absurd p
  done_at (work.Settling m) done p q = absurd q
  done_at (work.Sweeping m) done p q = absurd q
  done_at work.Closed done p q = absurd q
  done_at (work.Idle home) done p q = absurd q
  done_at (work.Broken lease) done p q = absurd q

-- ---- what the session has in hand behind a read, a scan and a look-up

module _ (who : Caller) (under to : Seen) (left : Acting) (c : Cache) (home : Home) where
  read_opens : (w : Work) (m : Walk) → w ≡ work.Reading home m → ShowsAt who under to (w, c) left (Ended answer.Value) → left.work ≡ work.Idle home
  read_opens w m is p = (subst (λ (v : Work). ShowsAt who under to (v, c) left (Ended answer.Value)) is p).4

  listed_opens : (m : Listing) (moved : Turn ℕ) → Follows home m moved left (Ended answer.Scan) → left.work ≡ work.Idle home
  listed_opens m More e = absurd (cc (e.2))
  listed_opens m (Ended page) e = e.3
  listed_opens m (Stopped t) e = absurd (cc (e.2))

  scan_opens : (w : Work) (m : Listing) → w ≡ work.Scanning home m → ShowsAt who under to (w, c) left (Ended answer.Scan) → left.work ≡ work.Idle home
  scan_opens w m is p = let s = subst (λ (v : Work). ShowsAt who under to (v, c) left (Ended answer.Scan)) is p in listed_opens _ s.moved s.follows

  look_opens : (w : Work) (m : Look) → w ≡ work.Looking home m → ShowsAt who under to (w, c) left (Ended answer.Scan) → left.work ≡ work.Idle home
  look_opens w m is p = (subst (λ (v : Work). ShowsAt who under to (v, c) left (Ended answer.Scan)) is p).2

-- ---- the last step of a line

module _ (who : Caller) (wish : Wish) (before mid after : Seen) (old world new : World) where
  -- one that opened a client
  pub opens_by : (epoch : ℕ) (p : StepsLooked who wish (span_of mid after world new) (Ended (answer.Opened epoch))) (P : ℕ → Type 0)
      → ((m : Recovery) → p.session.before.work ≡ work.Opening m → P m.client) → (x : Opens who epoch (span_of before after old new)) × P x.home.client
  opens_by epoch p P so =
      let o = opens_at who p.under p.to p.session.after.work p.session.before.cache p.session.does.causes.0 p.session.before.work epoch p.session.does.work p.session.does.causes.1 in (
        record {
          last = deed_by who (recovery_ask o.recovery) o.heard p.under p.to;
          is_last = (mid, call_by who wish mid after world new (Ended (answer.Opened epoch)) p (recovery_ask o.recovery) o.heard o.made);
          former = o.former;
          earlier = o.earlier;
          left = o.new;
          home = record { client = o.client; lease = o.opened.reading.lease; head = head_behind o.opened.reading.head o.opened.kept; attempt = 0 };
          opened = o.opened;
          is_open = ap (λ (a : Acting). a.work) (stepped_is who wish mid after world new (Ended (answer.Opened epoch)) p) ∙ (o.left_is ∙ ap opened_work o.opened.home);
          epoch_is = sym o.opened.epoch_is;
        },
        subst P o.own (so o.recovery o.was),
      )

  -- one that renewed its lease
  pub renews_by : (end : ℕ) → StepsLooked who wish (span_of mid after world new) (Ended (answer.Renewed end)) → Renews who end (span_of before after old new)
  renews_by end p =
      let r = renews_at who p.under p.to p.session.after.work p.session.before.cache p.session.does.causes.0 p.session.before.work end p.session.does.work p.session.does.causes.1 in
      record {
        last = deed_by who (Renew r.home.lease client_ticks) (call.Renewed end) p.under p.to;
        is_last = (mid, call_by who wish mid after world new (Ended (answer.Renewed end)) p (Renew r.home.lease client_ticks) (call.Renewed end) r.made);
        lease = r.home.lease;
        asked = refl;
        answered = refl;
        home = r.new;
        is_open = ap (λ (a : Acting). a.work) (stepped_is who wish mid after world new (Ended (answer.Renewed end)) p) ∙ r.left_is;
        kept = r.lease;
      }

  -- one that read a value
  pub reads_by : (p : StepsLooked who wish (span_of mid after world new) (Ended answer.Value)) (P : Walk → ℕ → Type 0)
      → ((home : Home) (w : Walk) → p.session.before.work ≡ work.Reading home w → P w home.client)
      → (x : Reads who (value_of p.session.after) (span_of before after old new)) × P x.walk x.home.client
  reads_by p P so =
      let read = p.session.does.whole in
      let is = stepped_is who wish mid after world new (Ended answer.Value) p in
      let shows : ShowsValue who p.under p.to (own_of read.0 (session_at new.sessions who.session).buffer) read.1 (value_of p.session.after) =
      subst (λ (a : Acting). ShowsValue who p.under p.to (own_of read.0 a.buffer) read.1 (value_of p.session.after)) (sym is) read.3 in (
        record {
          before = p.under;
          after = p.to;
          walk = read.1;
          home = read.0;
          shows = shows;
          is_last = (mid, call_by who wish mid after world new (Ended answer.Value) p (walk_ask read.1) shows.answer shows.made);
          is_open = ap (λ (a : Acting). a.work) is
              ∙ read_opens who p.under p.to (record p.session.after { cache = p.session.does.shown.0 }) p.session.before.cache read.0 p.session.before.work read.1 read.2 p.session.does.shown.1;
        },
        so read.0 read.1 read.2,
      )

  -- one that ended a scan or a look-up
  module _ (p : StepsLooked who wish (span_of mid after world new) (Ended answer.Scan)) where
    is : session_at new.sessions who.session ≡ p.session.after
    is = stepped_is who wish mid after world new (Ended answer.Scan) p

    abbrev pairs : List Pair
    pairs = items_of p.session.after

    same_buffer : (w : Work) → p.session.before.work ≡ w → noted_behind w p.session.before.buffer ≡ p.session.before.buffer → p.session.before.buffer ≡ (session_at new.sessions who.session).buffer
    same_buffer w was keeps =
        sym keeps ∙ (ap (λ (v : Work). noted_behind v p.session.before.buffer) (sym was) ∙ (sym p.session.does.buffer ∙ ap (λ (a : Acting). a.buffer) (sym is)))

    pub scans_by : (P : Range → ℕ → Type 0) (Q : Query → ℕ → Type 0)
        → ((home : Home) (m : Listing) → p.session.before.work ≡ work.Scanning home m → P (range_of m.scan) home.client)
        → ((home : Home) (m : Look) → p.session.before.work ≡ work.Looking home m → Q m.query home.client)
        → ((x : Scans who pairs (span_of before after old new)) × P (range_of x.listing.scan) x.home.client)
        ⊎ ((x : Finds who pairs (span_of before after old new)) × Q x.look.query x.home.client)
    scans_by P Q so found = on p.session.does.whole
      where
        on : ShowsList who p.under p.to p.session.before p.session.after
            → ((x : Scans who pairs (span_of before after old new)) × P (range_of x.listing.scan) x.home.client)
            ⊎ ((x : Finds who pairs (span_of before after old new)) × Q x.look.query x.home.client)
        on (inl (home, m, was, shows)) =
            let seen_so = subst (λ buffer. ShowsRecords who p.under p.to buffer (in_hand home m p.session.before.cache) pairs) (same_buffer (work.Scanning home m) was refl) shows in
            inl (
              record {
                before = p.under;
                after = p.to;
                from = p.session.before;
                listing = m;
                home = home;
                shows = seen_so;
                is_last = (mid, call_by who wish mid after world new (Ended answer.Scan) p (scan_ask m.scan) seen_so.answer seen_so.made);
                is_open = ap (λ (a : Acting). a.work) is
                    ∙ scan_opens who p.under p.to (record p.session.after { cache = p.session.does.shown.0 }) p.session.before.cache home p.session.before.work m was p.session.does.shown.1;
              },
              so home m was,
            )
        on (inr (home, m, was, shows)) =
            let seen_so = subst (λ buffer. ShowsFound who p.under p.to buffer (in_hand home m p.session.before.cache) pairs) (same_buffer (work.Looking home m) was refl) shows in
            inr (
              record {
                before = p.under;
                after = p.to;
                from = p.session.before;
                look = m;
                home = home;
                shows = seen_so;
                is_last = (mid, call_by who wish mid after world new (Ended answer.Scan) p (look_ask m) seen_so.answer seen_so.made);
                is_open = ap (λ (a : Acting). a.work) is
                    ∙ look_opens who p.under p.to (record p.session.after { cache = p.session.does.shown.0 }) p.session.before.cache home p.session.before.work m was p.session.does.shown.1;
              },
              found home m was,
            )

  -- one that ended a checkpoint
  pub done_by : (done : CkptAnswer) (p : StepsLooked who wish (span_of mid after world new) (Ended (answer.Done done))) (P : ℕ → ℕ → Type 0) (Q : ℕ → Type 0)
      → ((home : Home) (m : Paging) → p.session.before.work ≡ work.Paging home m → P m.tree m.page)
      → ((home : Home) (m : Making) → p.session.before.work ≡ work.Folding home m → Q m.tree)
      → ((x : Pages who done (span_of before after old new)) × P x.paging.tree x.paging.page) ⊎ ((x : Folds who done (span_of before after old new)) × Q x.making.tree)
  done_by done p P Q paged folded =
      on (done_at who p.under p.to p.session.after.work p.session.before.cache p.session.does.causes.0 p.session.before.work done p.session.does.work p.session.does.causes.1)
    where
      on : PagesBy who p.under p.to p.session.before.work done ⊎ FoldsBy who p.under p.to p.session.before.work done
          → ((x : Pages who done (span_of before after old new)) × P x.paging.tree x.paging.page) ⊎ ((x : Folds who done (span_of before after old new)) × Q x.making.tree)
      on (inl x) =
          inl (
            record {
              last = deed_by who (paging_ask x.old) x.heard p.under p.to;
              is_last = (mid, call_by who wish mid after world new (Ended (answer.Done done)) p (paging_ask x.old) x.heard x.made);
              paging = x.new;
              earlier = x.earlier;
              is_done = x.is_done;
            },
            subst (λ tree. P tree x.new.page) (sym x.same.0) (subst (P x.old.tree) (sym x.same.1) (paged x.home x.old x.was)),
          )
      on (inr x) =
          inr (
            record {
              last = deed_by who (making_ask x.making) x.heard p.under p.to;
              is_last = (mid, call_by who wish mid after world new (Ended (answer.Done done)) p (making_ask x.making) x.heard x.made);
              making = x.making;
              earlier = x.earlier;
              is_done = x.is_done;
            },
            folded x.home x.making x.was,
          )

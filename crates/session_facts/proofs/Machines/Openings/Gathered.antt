-- What an opening knows of the records that it gathers and sends on, behind the local work of a step.
use Rattle.std.proofs.Common.{◌≡◌, ◌+◌, ◌<◌, ◌≤◌, ◌⊎◌, inl, inr, ℕ, true, false, List, [], ◌∷◌, length, take, Some, None, Ok, refl, sym, ap, subst, ◌∙◌, arith}
use Rattle.std.specs.Prelude.{slice_get}
use Rattle.std.specs.List.{AllByRecursion}
use Rattle.std.proofs.lemmas.Bool.{cases_lt}
use Rattle.std.proofs.lemmas.List.{take_all}
use Rattle.cloud_facts.specs.Calls.Others.{WasSentOn}
use Rattle.cloud_facts.specs.Words.{Answer, Ask, Store, StandsAt}
use Rattle.cloud_trait.specs.Delivery.{WasSent}
use Rattle.cloud_trait.specs.declared.answer.Answer.TheVariants.{Received}
use Rattle.cloud_trait.specs.declared.message.Message.{Message}
use Rattle.cloud_facts.specs.Homes.Homes.{Part}
use Rattle.cloud_facts.specs.Lefts.Left.{IsCopied, AreLogged}
use Rattle.session_facts.specs.Machines.Openings.Knows.{IsWanted, IsMessageThat, KnowsGathering, KnowsSifted, KnowsSending}
use Rattle.session_facts.proofs.Machines.Openings.Kept.{kept_with_all}
use Rattle.session_facts.proofs.Machines.Openings.Messages.{IsSent, items_sent, sent_wanted, that_ids}
use Rattle.session_facts.proofs.Machines.Openings.Sifted.{received_sifted, stale_none}
use Rattle.recover_run.specs.declared.items.AtomicItem.{AtomicItem}
use Rattle.recover_run.specs.Calls.{HoldsItem, Brought}
use Rattle.recover_run.specs.Gathering.{is_counted, is_lost, kept_with, lost_ids, lost_now}
use Rattle.recover_run.specs.Ids.{rest_of}
use Rattle.recover_run.specs.Items.{items_of}
use Rattle.recover_run.specs.Meaning.{head_behind}
use Rattle.recover_run.specs.Recovery.{Recovery, receive_next, with_pending}
use Rattle.recover_run.proofs.KeptRecords.{all_so, all_new, all_held, kept_rising, take_more, pending_more, pending_none}
use Rattle.recover_run.proofs.Knows.{IsRising}
use Rattle.recover_run.proofs.Outcomes.{gathered}
use Rattle.route_plan.proofs.Places.{past_none}

-- the ids behind the first
pub rest_all : (P : ℕ → Type 0) (ids : List ℕ) → AllByRecursion P ids → AllByRecursion P (rest_of ids)
rest_all P [] all = tt
rest_all P (id ∷ ids) all = all.1

-- the items of a receive, as brought by one call
items_rising : (r : Recovery) (ms : List Message) (items : List AtomicItem) → items_of ms ≡ Ok items → IsRising 1 r.gathered.kept → IsRising 1 (kept_with r.wanted r.gathered.kept items)
items_rising r ms items e up =
    let call : Ask × Answer = (receive_next r, Received ms) in
    kept_rising r.wanted (call ∷ []) r.gathered.kept items up
    (all_so (λ (x : AtomicItem). HoldsItem x ms) (λ (x : AtomicItem). Brought x (call ∷ [])) (λ x h. inl (ms, refl, h)) items (all_held ms items e))

-- these of the lost records that were received are to be deleted; where the newest receive brought nothing new there are none
pub record KnowsLosing (u : Store) (part : Part) (r : Recovery) (ids : List ℕ) : Type 0 where
  pub gathers : KnowsGathering u r part
  pub sifted : KnowsSifted u r ids
  pub lost : AllByRecursion (IsMessageThat u r.client (is_lost r.wanted)) ids
  pub stale : r.gathered.fresh ≡ false → ids ≡ []

module _ (u : Store) (part : Part) where
  -- behind a receive
  pub received_known : (r : Recovery) → AreLogged u r.client → KnowsGathering u r part → KnowsSifted u r [] → (ms : List Message) (items : List AtomicItem)
      → AllByRecursion (WasSent (u.tally.logged r.client)) ms → items_of ms ≡ Ok items → KnowsLosing u part (gathered r items) (lost_now r.wanted r.gathered items)
  received_known r logged k sifted ms items was e = record {
    gathers = record {
      read = record {
        held = k.read.held;
        before = k.read.before;
        part_is = k.read.part_is;
        wanted_is = k.read.wanted_is;
        committed = k.read.committed;
        kept_are = kept_with_all (IsWanted u r.client r.wanted) r.wanted r.gathered.kept items k.read.kept_are counted;
        rising = items_rising r ms items e k.read.rising;
      };
      head_is = k.head_is;
    };
    sifted = received_sifted u r.client r.wanted r.gathered items sent sifted;
    lost = all_new (IsMessageThat u r.client (is_lost r.wanted)) r.gathered.lost (lost_ids r.wanted items) (that_ids u r.client (is_lost r.wanted) items sent);
    stale = stale_none u r.client r.wanted r.gathered items sent sifted;
  }
    where
      sent : AllByRecursion (IsSent (u.tally.logged r.client)) items
      sent = items_sent (u.tally.logged r.client) ms items was e

      counted : AllByRecursion (λ (x : AtomicItem). is_counted r.wanted x.rec ≡ true → IsWanted u r.client r.wanted x) items
      counted =
          all_so (IsSent (u.tally.logged r.client)) (λ (x : AtomicItem). is_counted r.wanted x.rec ≡ true → IsWanted u r.client r.wanted x)
          (λ x m. sent_wanted u r.client r.wanted x logged k.read.committed m) items sent

  -- where all records are kept
  pub whole_known : (r : Recovery) → KnowsGathering u r part → length r.gathered.kept ≡ r.wanted.count → KnowsSending u r part 0
  whole_known r k whole = record {
    read = k.read;
    whole = whole;
    head_is = k.head_is ∙ pending_none k.read.before;
    was_sent = λ place x less there. absurd (omega (arith, less));
  }

  -- behind a send
  pub sent_known : (r : Recovery) (x : AtomicItem) → slice_get r.gathered.kept r.sent ≡ Some x → KnowsSending u r part r.sent → WasSentOn u.tally x.rec × IsCopied u.tally x.rec
      → KnowsSending u (with_pending r (Some x)) part (r.sent + 1)
  sent_known r x there k done = record {
    read = k.read;
    whole = k.whole;
    head_is = head;
    was_sent = λ place y less at_place. more place y less at_place (cases_lt place r.sent);
  }
    where
      head : (with_pending r (Some x)).head ≡ head_behind k.read.before (take (r.sent + 1) r.gathered.kept)
      head =
          ap (λ h. (with_pending (record r { head = h }) (Some x)).head) k.head_is
          ∙ (pending_more k.read.before (take r.sent r.gathered.kept) x ∙ ap (head_behind k.read.before) (sym (take_more r.gathered.kept r.sent x there)))

      more : (place : ℕ) (y : AtomicItem) → place < r.sent + 1 → StandsAt r.gathered.kept place y → (place < r.sent) ⊎ (r.sent ≤ place) → WasSentOn u.tally y.rec × IsCopied u.tally y.rec
      more place y less at_place (inl before) = k.was_sent place y before at_place
      more place y less at_place (inr last) =
          let here : place ≡ r.sent = omega (arith, less, last) in
          let same : x ≡ y = item_is x y (sym there ∙ (ap (slice_get r.gathered.kept) (sym here) ∙ at_place)) in
          subst (λ (z : AtomicItem). WasSentOn u.tally z.rec × IsCopied u.tally z.rec) same done
        where
          item_is : (v w : AtomicItem) → Some v ≡ Some w → v ≡ w
          item_is v w f = cc

  -- and where all were sent
  pub all_known : (r : Recovery) (n : ℕ) → slice_get r.gathered.kept n ≡ None → KnowsSending u r part n → KnowsSending u r part (length r.gathered.kept)
  all_known r n e k = record {
    read = k.read;
    whole = k.whole;
    head_is = k.head_is ∙ ap (head_behind k.read.before) (take_all n r.gathered.kept past ∙ sym (take_all (length r.gathered.kept) r.gathered.kept (omega arith)));
    was_sent = λ place x less there. k.was_sent place x (omega (arith, less, past)) there;
  }
    where
      past : length r.gathered.kept ≤ n
      past = past_none r.gathered.kept n e

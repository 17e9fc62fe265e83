-- A settling takes a step by that of the part at work.
use Rattle.std.proofs.Common.{◌≡◌, ℕ, refl, sym, subst, ◌∙◌}
use Rattle.settle_run.proofs.Words.{Ends, Goes, LeadsBy, Stops, Took, Answer, Failed, CkptAnswer, Turn, Ended, More, Stopped, Trouble, RecoverAnswer, Part, Client, Page, Tree, Settled}
use Rattle.cloud_trait.specs.Caller.{Caller}
use Rattle.cloud_trait.specs.Seen.{Seen}
use Rattle.recover_run.specs.Recovery.{Recovery, recovery_next, KeepsLeases as KeepsRecovery}
use Rattle.page_ckpt.specs.Paging.{Paging, PagingLeads, KeepsLeases as KeepsPaging}
use Rattle.tree_ckpt.specs.Making.{Making, MakingLeads, KeepsLeases as KeepsMaking}
use Rattle.recover_run.specs.Stepped.{Stepped as RecoveryStepped}
use Rattle.page_ckpt.specs.Stepped.{Stepped as PagingStepped}
use Rattle.tree_ckpt.specs.Stepped.{Stepped as MakingStepped}
use Rattle.settle_run.specs.Parts.{recovered_turn, left_turn, PartLeads, KeepsPart}
use Rattle.settle_run.specs.Stepped.{PartSteps}
use Rattle.settle_run.specs.Settling.{Settling, Step, counted, with_part, after_turn, SettleLeads, SamePart, KeepsSettling}

-- ---- a part

recovery_took : (client : ℕ) (m n : Recovery) (a : Answer) (turn : Turn RecoverAnswer) → Took (LeadsBy recovery_next) KeepsRecovery m a n turn
    → Took PartLeads KeepsPart (Client client m) a (Client client n) (recovered_turn turn)
recovery_took client m n a More h = (Goes n, h, refl)
recovery_took client m n a (Ended x) h = (Ends n x, h, refl)
recovery_took client m n a (Stopped t) h = (λ k. (Stops n t, h.0 k, refl), λ k. (refl, h.1 k))

making_took : (tree : ℕ) (m n : Making) (a : Answer) (turn : Turn CkptAnswer) → Took MakingLeads KeepsMaking m a n turn
    → Took PartLeads KeepsPart (Tree tree m) a (Tree tree n) (left_turn turn)
making_took tree m n a More h = (Goes n, h, refl)
making_took tree m n a (Ended x) h = (Ends n x, h, refl)
making_took tree m n a (Stopped t) h = (λ k. (Stops n t, h.0 k, refl), λ k. (refl, h.1 k))

paging_took : (tree page : ℕ) (m n : Paging) (a : Answer) (turn : Turn CkptAnswer) → Took PagingLeads KeepsPaging m a n turn
    → Took PartLeads KeepsPart (Page tree page m) a (Page tree page n) (left_turn turn)
paging_took tree page m n a More h = (Goes n, h, refl)
paging_took tree page m n a (Ended x) h = (Ends n x, h, refl)
paging_took tree page m n a (Stopped t) h = (λ k. (Stops n t, h.0 k, refl), λ k. (refl, refl, h.1 k))

pub recovery_steps : (client : ℕ) (who : Caller) (before after : Seen) (m n : Recovery) (turn : Turn RecoverAnswer) (p : Part) (left : Turn ℕ)
    → p ≡ Client client m → left ≡ recovered_turn turn → RecoveryStepped who before after m n turn → PartSteps who before after p (Client client n) left
recovery_steps client who before after m n turn p left e f s =
    subst (λ (q : Part). PartSteps who before after q (Client client n) left) (sym e)
    (record {
      did = record {
        answer = s.did.answer;
        made = s.did.made;
        took =
            subst (λ (l : Turn ℕ). Took PartLeads KeepsPart (Client client m) s.did.answer (Client client n) l) (sym f)
            (recovery_took client m n s.did.answer turn s.did.took);
      };
      stepped = (refl, (turn, f, (s, refl)));
    })

pub making_steps : (tree : ℕ) (who : Caller) (before after : Seen) (m n : Making) (turn : Turn CkptAnswer) (p : Part) (left : Turn ℕ)
    → p ≡ Tree tree m → left ≡ left_turn turn → MakingStepped who before after m n turn → PartSteps who before after p (Tree tree n) left
making_steps tree who before after m n turn p left e f s =
    subst (λ (q : Part). PartSteps who before after q (Tree tree n) left) (sym e)
    (record {
      did = record {
        answer = s.did.answer;
        made = s.did.made;
        took =
            subst (λ (l : Turn ℕ). Took PartLeads KeepsPart (Tree tree m) s.did.answer (Tree tree n) l) (sym f)
            (making_took tree m n s.did.answer turn s.did.took);
      };
      stepped = (refl, (turn, f, (s, refl)));
    })

pub paging_steps : (tree page : ℕ) (who : Caller) (before after : Seen) (m n : Paging) (turn : Turn CkptAnswer) (p : Part) (left : Turn ℕ)
    → p ≡ Page tree page m → left ≡ left_turn turn → PagingStepped who before after m n turn → PartSteps who before after p (Page tree page n) left
paging_steps tree page who before after m n turn p left e f s =
    subst (λ (q : Part). PartSteps who before after q (Page tree page n) left) (sym e)
    (record {
      did = record {
        answer = s.did.answer;
        made = s.did.made;
        took =
            subst (λ (l : Turn ℕ). Took PartLeads KeepsPart (Page tree page m) s.did.answer (Page tree page n) l) (sym f)
            (paging_took tree page m n s.did.answer turn s.did.took);
      };
      stepped = (refl, refl, (turn, f, (s, refl)));
    })

-- ---- the settling

kept : (s new : Settling) (p : Part) (a : Answer) (turn : Turn ℕ) → Took PartLeads KeepsPart s.part a p turn → new.part ≡ p → KeepsSettling s a new
kept s new p a turn h e = (turn, subst (λ (q : Part). Took PartLeads KeepsPart s.part a q turn) (sym e) h)

same_trouble : (s new : Settling) (t u : Trouble) → ◌≡◌ {A = Step} (Stops s u) (Stops new t) → t ≡ u
same_trouble s new t u e = cc (e)

-- where the part stands behind its step and the settling goes on by it, the settling took a step
pub followed : (s new : Settling) (p : Part) (a : Answer) (turn : Turn ℕ) (result : Turn Settled) → Took PartLeads KeepsPart s.part a p turn
    → Took (λ m x n. after_turn m turn ≡ n) SamePart (with_part s p) Failed new result → Took SettleLeads KeepsSettling s a new result
followed s new p a More More h e = (Goes p, h, sym e)
followed s new p a (Ended left) More h e = (Ends p left, h, sym e)
followed s new p a (Stopped t) More h e = absurd (cc (e))
followed s new p a More (Ended x) h e = absurd (cc (e))
followed s new p a (Ended left) (Ended x) h e = (Ends p left, h, sym e)
followed s new p a (Stopped t) (Ended x) h e = absurd (cc (e))
followed s new p a More (Stopped t) h e = (λ k. let never = e.0 k in absurd (cc (never)), λ k. kept s new p a More h (e.1 k))
followed s new p a (Ended left) (Stopped t) h e = (λ k. (Ends p left, h, sym (e.0 k)), λ k. kept s new p a (Ended left) h (e.1 k))
followed s new p a (Stopped u) (Stopped t) h e =
    (λ k. (Stops p u, h.0 (λ z. k (same_trouble (counted (with_part s p)) new t u (e.0 k) ∙ z)), sym (e.0 k)), λ k. kept s new p a (Stopped u) h (e.1 k))

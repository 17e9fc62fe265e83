-- What a keeper has called wherever it stands.
use Rattle.std.proofs.Common.{ℕ, ◌≡◌, List, [], ◌∷◌, Some, None, refl, ap, sym, subst, ◌∙◌}
use Rattle.db_base.specs.declared.names.ObjName.{ObjName}
use Rattle.db_base.specs.declared.names.Lock.{Lock}
use Rattle.db_base.specs.declared.trouble.Trouble.{Trouble}
use Rattle.cloud_trait.specs.declared.answer.Answer.{Answer}
use Rattle.cloud_trait.specs.declared.answer.Answer.TheVariants.{Done, Given, Renewed}
use Rattle.cloud_trait.specs.declared.call.CallKind.TheVariants as kind
use Rattle.cloud_trait.specs.declared.turn.Turn.{Turn}
use Rattle.cloud_trait.specs.declared.turn.Turn.TheVariants.{More, Ended, Stopped}
use Rattle.cloud_trait.specs.Ask.{Ask, PutHeld, Take, Renew, Release}
use Rattle.cloud_trait.specs.Claim.{Claim, extended}
use Rattle.cloud_trait.specs.Machine.{Goes, Ends, LeadsBy, Took, Came, Deed, calls_of}
use Rattle.cloud_trait.specs.Views.{trouble_of}
use Rattle.cloud_tests.specs.Keeping.{Keeping, new_keeping, keeping_ask, keeping_next, handed, absorbed, kept_calls, SameLease, KeepsLease, HasKept, fresh}

-- the step from the keeper that the call left is the step from the keeper before the call
pub took_handed : (old mid : Keeping) (a : Answer) (new : Keeping) (turn : Turn ℕ) → mid ≡ handed old a → Took (LeadsBy absorbed) SameLease mid a new turn → Took (LeadsBy keeping_next) KeepsLease old a new turn
took_handed old mid a new More e h = sym (ap (λ k. absorbed k a) e) ∙ h
took_handed old mid a new (Ended x) e h = sym (ap (λ k. absorbed k a) e) ∙ h
took_handed old mid a new (Stopped t) e h = (λ b. sym (ap (λ k. absorbed k a) e) ∙ h.0 b, λ b. h.1 b ∙ ap (λ (k : Keeping). k.lease) e)

-- the keeper after a take, after a put, after a renewal, and after a put that did not come to be
abbrev putting : Keeping → Claim → Keeping
putting k l = record k { kind = kind.PutHeld; lease = Some l }

abbrev renewing : Keeping → Claim → Keeping
renewing k l = record k { kind = kind.Renew; lease = Some l }

abbrev releasing : Keeping → Claim → ℕ → Keeping
releasing k l end = record k { kind = kind.Release; lease = Some (extended l end); until = end }

abbrev stopping : Keeping → Trouble → Keeping
stopping k t = record k { kind = kind.Release; trouble = Some t }

-- where a keeper stands after its calls
data Knows (k : Keeping) (calls : List (Ask × Answer)) (m : Keeping) : Type 0 where
  AtTake : m ≡ k → calls ≡ [] → Knows k calls m
  AtPut : (l : Claim) → m ≡ putting k l → calls ≡ (Take k.lock 30, Given l) ∷ [] → Knows k calls m
  AtRenewal : (l : Claim) → m ≡ renewing k l → calls ≡ (PutHeld k.object k.bytes l None, Done) ∷ (Take k.lock 30, Given l) ∷ [] → Knows k calls m
  AtRelease : (l : Claim) (end : ℕ) → m ≡ releasing k l end → calls ≡ kept_calls k l end → Knows k calls m
  AtStop : (from : Keeping) (t : Trouble) → m ≡ stopping from t → Knows k calls m

after_take : (o : ObjName) (k : Lock) (b : List ℕ) (calls : List (Ask × Answer)) (a : Answer) (n : Keeping) → calls ≡ [] → keeping_next (new_keeping o k b) a ≡ Goes n → Knows (new_keeping o k b) ((Take k 30, a) ∷ calls) n
after_take o k b calls (Given l) n e h = AtPut l (cc) (ap (λ c. (Take k 30, Given l) ∷ c) e)
after_take o k b calls a n e h = absurd (cc)

after_put : (o : ObjName) (k : Lock) (b : List ℕ) (l : Claim) (calls : List (Ask × Answer)) (a : Answer) (n : Keeping) → calls ≡ (Take k 30, Given l) ∷ [] → keeping_next (putting (new_keeping o k b) l) a ≡ Goes n → Knows (new_keeping o k b) ((PutHeld o b l None, a) ∷ calls) n
after_put o k b l calls Done n e h = AtRenewal l (cc) (ap (λ c. (PutHeld o b l None, Done) ∷ c) e)
after_put o k b l calls a n e h = AtStop (putting (new_keeping o k b) l) (trouble_of a) (cc)

after_renewal : (o : ObjName) (k : Lock) (b : List ℕ) (l : Claim) (calls : List (Ask × Answer)) (a : Answer) (n : Keeping) → calls ≡ (PutHeld o b l None, Done) ∷ (Take k 30, Given l) ∷ [] → keeping_next (renewing (new_keeping o k b) l) a ≡ Goes n → Knows (new_keeping o k b) ((Renew l 60, a) ∷ calls) n
after_renewal o k b l calls (Renewed end) n e h = AtRelease l end (cc) (ap (λ c. (Renew l 60, Renewed end) ∷ c) e)
after_renewal o k b l calls a n e h = absurd (cc)

after_release : (o : ObjName) (k : Lock) (b : List ℕ) (l : Claim) (end : ℕ) (a : Answer) (n : Keeping) → keeping_next (releasing (new_keeping o k b) l end) a ≡ Goes n → ⊥
after_release o k b l end Done n h = cc
after_release o k b l end a n h = cc

after_failure : (from : Keeping) (t : Trouble) (a : Answer) (n : Keeping) → keeping_next (stopping from t) a ≡ Goes n → ⊥
after_failure from t a n h = cc

knows_more : (o : ObjName) (k : Lock) (b : List ℕ) (calls : List (Ask × Answer)) (m : Keeping) (a : Answer) (n : Keeping) → Knows (new_keeping o k b) calls m → keeping_next m a ≡ Goes n → Knows (new_keeping o k b) ((keeping_ask m, a) ∷ calls) n
knows_more o k b calls m a n (AtTake e c) h =
    let P : Keeping → Type 0 = λ y. keeping_next y a ≡ Goes n → Knows (new_keeping o k b) ((keeping_ask y, a) ∷ calls) n in
    subst P (sym e) (after_take o k b calls a n c) h
knows_more o k b calls m a n (AtPut l e c) h =
    let P : Keeping → Type 0 = λ y. keeping_next y a ≡ Goes n → Knows (new_keeping o k b) ((keeping_ask y, a) ∷ calls) n in
    subst P (sym e) (after_put o k b l calls a n c) h
knows_more o k b calls m a n (AtRenewal l e c) h =
    let P : Keeping → Type 0 = λ y. keeping_next y a ≡ Goes n → Knows (new_keeping o k b) ((keeping_ask y, a) ∷ calls) n in
    subst P (sym e) (after_renewal o k b l calls a n c) h
knows_more o k b calls m a n (AtRelease l end e c) h =
    absurd (after_release o k b l end a n (ap (λ y. keeping_next y a) (sym e) ∙ h))
knows_more o k b calls m a n (AtStop from t e) h =
    absurd (after_failure from t a n (ap (λ y. keeping_next y a) (sym e) ∙ h))

came_knows : (o : ObjName) (k : Lock) (b : List ℕ) (h : List Deed) (m : Keeping) → Came keeping_ask (LeadsBy keeping_next) (new_keeping o k b) h m → Knows (new_keeping o k b) (calls_of h) m
came_knows o k b [] m e = AtTake e refl
came_knows o k b (d ∷ h) m c =
    let P : Ask → Type 0 = λ ask. Knows (new_keeping o k b) ((ask, d.answer) ∷ calls_of h) m in
    subst P (sym c.2) (knows_more o k b (calls_of h) c.0 d.answer m (came_knows o k b h c.0 c.1) c.4)

-- only the release of a keeper that had no trouble ends it
no_end_take : (o : ObjName) (k : Lock) (b : List ℕ) (a : Answer) (n : Keeping) (x : ℕ) → keeping_next (new_keeping o k b) a ≡ Ends n x → ⊥
no_end_take o k b (Given l) n x h = cc
no_end_take o k b a n x h = cc

no_end_put : (o : ObjName) (k : Lock) (b : List ℕ) (l : Claim) (a : Answer) (n : Keeping) (x : ℕ) → keeping_next (putting (new_keeping o k b) l) a ≡ Ends n x → ⊥
no_end_put o k b l Done n x h = cc
no_end_put o k b l a n x h = cc

no_end_renewal : (o : ObjName) (k : Lock) (b : List ℕ) (l : Claim) (a : Answer) (n : Keeping) (x : ℕ) → keeping_next (renewing (new_keeping o k b) l) a ≡ Ends n x → ⊥
no_end_renewal o k b l (Renewed end) n x h = cc
no_end_renewal o k b l a n x h = cc

no_end_failure : (from : Keeping) (t : Trouble) (a : Answer) (n : Keeping) (x : ℕ) → keeping_next (stopping from t) a ≡ Ends n x → ⊥
no_end_failure from t a n x h = cc

end_release : (o : ObjName) (k : Lock) (b : List ℕ) (l : Claim) (end : ℕ) (a : Answer) (n : Keeping) (x : ℕ) → keeping_next (releasing (new_keeping o k b) l end) a ≡ Ends n x → end ≡ x
end_release o k b l end Done n x h = cc
end_release o k b l end a n x h = absurd (cc)

knows_end : (o : ObjName) (k : Lock) (b : List ℕ) (h : List Deed) (m : Keeping) (a : Answer) (n : Keeping) (x : ℕ) → Knows (new_keeping o k b) (calls_of h) m → keeping_next m a ≡ Ends n x → HasKept m h x
knows_end o k b h m a n x (AtTake e c) f = absurd (no_end_take o k b a n x (ap (λ y. keeping_next y a) (sym e) ∙ f))
knows_end o k b h m a n x (AtPut l e c) f = absurd (no_end_put o k b l a n x (ap (λ y. keeping_next y a) (sym e) ∙ f))
knows_end o k b h m a n x (AtRenewal l e c) f = absurd (no_end_renewal o k b l a n x (ap (λ y. keeping_next y a) (sym e) ∙ f))
knows_end o k b h m a n x (AtStop from t e) f = absurd (no_end_failure from t a n x (ap (λ y. keeping_next y a) (sym e) ∙ f))
knows_end o k b h m a n x (AtRelease l end e c) f =
    let same : end ≡ x = end_release o k b l end a n x (ap (λ y. keeping_next y a) (sym e) ∙ f) in
    let P : Keeping → Type 0 = λ y. HasKept y h x in
    subst P (sym e) (record {
      lease = l;
      calls = c ∙ ap (kept_calls (new_keeping o k b) l) same;
      last = ap (λ (y : ℕ). Release (extended l y)) same;
    })

-- a keeper that ends has taken, put, renewed and given back, each once and in this order
pub ended_kept : (k : Keeping) (a : Answer) (n : Keeping) (turn : Turn ℕ) → Took (LeadsBy keeping_next) KeepsLease k a n turn → (h : List Deed) (x : ℕ) → turn ≡ Ended x → Came keeping_ask (LeadsBy keeping_next) (fresh k) h k → HasKept k h x
ended_kept k a n turn took h x e came =
    let P : Turn ℕ → Type 0 = Took (LeadsBy keeping_next) KeepsLease k a n in
    knows_end k.object k.lock k.bytes h k a n x (came_knows k.object k.lock k.bytes h k came) (subst P e took)

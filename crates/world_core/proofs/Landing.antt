-- The audit after a put is what `audited` says: what the put commits or applies joins it where the put was seen to land.
use Rattle.std.proofs.Common.{◌≡◌, ℕ, refl, sym, ap, ◌∙◌, subst, List, length, ◌++◌, take}
use Rattle.std.specs.Prelude.{Bool, false, not, ◌&&◌, if◌then◌else◌, Option, Some, None}
use Rattle.std.proofs.Math.Seq.{take-append_seam, take-length}
use Rattle.cloud_facts.specs.Words.{ObjName, Entry, Head, Claim, Ask, PutHeld}
use Rattle.db_base.specs.declared.names.ObjName.TheVariants as object
use Rattle.txn_buffer.specs.Noted.{Noted}
use Rattle.client_work.specs.declared.work.Work.{Work}
use Rattle.client_work.specs.Session.{ask_of_work, opens_of, committing_of}
use Rattle.history.specs.Audited.{Audited}
use Rattle.world_audit.specs.declared.mark.Mark.{Mark}
use Rattle.cloud_facts.specs.Calls.Looks.{Newest, has_landed}
use Rattle.session_facts.specs.Sessions.Audited.{noted_head, noted_in_hand, noted_by, audited}
use Rattle.world_core.specs.Put.{Put, Look, is_blind, SeesNewest, put_of_hand, put_of, is_newest, noted_put, back_at, kept_of}

-- ---- by the put in hand

landed_as : (before after : Newest) (ask : Option Ask) (put : Put) → put_of_hand ask ≡ Some put
    → has_landed before after ask ≡ (not (is_newest before put) && is_newest after put)
landed_as before after (Some (PutHeld name bytes one two)) put e =
    let same : record { name = name; bytes = bytes } ≡ put = cc in
    let P : Put → Type 0 = λ p. has_landed before after (Some (PutHeld name bytes one two)) ≡ (not (is_newest before p) && is_newest after p) in
    subst P same refl
landed_as before after (Some ask) put e = cc
landed_as before after None put e = cc

landed_none : (before after : Newest) (ask : Option Ask) → put_of_hand ask ≡ None → has_landed before after ask ≡ false
landed_none before after (Some (PutHeld name bytes one two)) e = cc
landed_none before after (Some ask) e = refl
landed_none before after None e = refl

noted_name : (w : Work) (name : ObjName) (bytes : List ℕ) (one : Claim) (two : Option Claim) (a : Audited)
    → noted_in_hand w (Some (PutHeld name bytes one two)) a ≡ noted_put name w a
noted_name w (object.Head client) bytes one two a = refl
noted_name w (object.Page tree page) bytes one two a = refl
noted_name w (object.Tree tree) bytes one two a = refl

noted_as : (w : Work) (ask : Option Ask) (put : Put) (a : Audited) → put_of_hand ask ≡ Some put → noted_in_hand w ask a ≡ noted_put put.name w a
noted_as w (Some (PutHeld name bytes one two)) put a e =
    let same : record { name = name; bytes = bytes } ≡ put = cc in
    noted_name w name bytes one two a ∙ ap (λ (p : Put). noted_put p.name w a) same
noted_as w (Some ask) put a e = cc
noted_as w None put a e = cc

-- ---- what was noted is taken back

back_list : {A : Type 0} (n : ℕ) (xs ys : List A) → n ≡ length xs → take n (xs ++ ys) ≡ xs
back_list n xs ys e = ap (λ (k : ℕ). take k (xs ++ ys)) e ∙ take-append_seam xs ys

back_none : {A : Type 0} (n : ℕ) (xs : List A) → n ≡ length xs → take n xs ≡ xs
back_none n xs e = ap (λ (k : ℕ). take k xs) e ∙ take-length xs

both : (committed order : List Entry) (a : Audited) → committed ≡ a.committed → order ≡ a.order → record { committed = committed; order = order } ≡ a
both committed order a c o =
    let first : List Entry → Audited = λ x. record { committed = x; order = order } in
    let second : List Entry → Audited = λ x. record { committed = a.committed; order = x } in
    ap first c ∙ ap second o

back_head : (client : ℕ) (head : Option Head) (changes : Option (List Noted)) (a : Audited) (mark : Mark)
    → mark.committed ≡ length a.committed → mark.order ≡ length a.order → back_at mark (noted_head client head changes a) ≡ a
back_head client (Some head) (Some changes) a mark c o = both _ _ a (back_list mark.committed a.committed _ c) (back_none mark.order a.order o)
back_head client (Some head) None a mark c o = both _ _ a (back_none mark.committed a.committed c) (back_none mark.order a.order o)
back_head client None changes a mark c o = both _ _ a (back_none mark.committed a.committed c) (back_none mark.order a.order o)

back_noted : (name : ObjName) (w : Work) (a : Audited) (mark : Mark)
    → mark.committed ≡ length a.committed → mark.order ≡ length a.order → back_at mark (noted_put name w a) ≡ a
back_noted (object.Head client) w a mark c o = back_head client (opens_of w) (committing_of w) a mark c o
back_noted (object.Page tree page) w a mark c o = both _ _ a (back_none mark.committed a.committed c) (back_list mark.order a.order _ o)
back_noted (object.Tree tree) w a mark c o = both _ _ a (back_none mark.committed a.committed c) (back_none mark.order a.order o)

-- ---- the audit after a step

-- a step that is no put adds nothing
pub audited_none : (before after : Newest) (w : Work) (a : Audited) → put_of w ≡ None → a ≡ audited before after w a
audited_none before after w a e = sym (ap (λ (b : Bool). if b then noted_by w a else a) (landed_none before after (ask_of_work w) e))

pub audited_put : (before after : Newest) (w : Work) (a b n : Audited) (mark : Mark) (put : Put) (was is : Look)
    → put_of w ≡ Some put → is_blind was ≡ false → is_blind is ≡ false → SeesNewest before put was → SeesNewest after put is
    → mark.committed ≡ length a.committed → mark.order ≡ length a.order
    → b ≡ noted_put put.name w a → n ≡ kept_of was is mark b → n ≡ audited before after w a
audited_put before after w a b n mark put (Some was) (Some is) hand sees_was sees_is was_is is_is c o noted kept =
    let seen : (not was && is) ≡ (not (is_newest before put) && is_newest after put) =
    ap (λ (x : Bool). not x && is) was_is ∙ ap (λ (x : Bool). not (is_newest before put) && x) is_is in
    let lands : (not was && is) ≡ has_landed before after (ask_of_work w) = seen ∙ sym (landed_as before after (ask_of_work w) put hand) in
    let adds : b ≡ noted_by w a = noted ∙ sym (noted_as w (ask_of_work w) put a hand) in
    let back : back_at mark b ≡ a = ap (λ (x : Audited). back_at mark x) noted ∙ back_noted put.name w a mark c o in
    kept
    ∙ ap (λ (x : Bool). if x then b else back_at mark b) lands
    ∙ ap (λ (x : Audited). if has_landed before after (ask_of_work w) then x else back_at mark b) adds
    ∙ ap (λ (x : Audited). if has_landed before after (ask_of_work w) then noted_by w a else x) back
audited_put before after w a b n mark put None is hand sees_was sees_is was_is is_is c o noted kept = absurd (cc)
audited_put before after w a b n mark put (Some was) None hand sees_was sees_is was_is is_is c o noted kept = absurd (cc)

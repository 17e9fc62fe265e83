-- Lines on words: what is read is spelled so, and each spelling is read.
use Rattle.std.proofs.Common.{◌≡◌, ◌≢◌, ℕ, ◌^◌, ◌<◌, Bool, true, false, cond, ◌&&◌, List, [], ◌∷◌, ◌++◌, length, map, Option, Some, None, Result, Ok, Err, refl, sym, ap, ◌∙◌, ◌⊎◌, inl, inr, nat_le, IfOk, Bor, lit<}
use Rattle.std.specs.Prelude.{codes, option_map, MatchOption, IfSome}
use Rattle.std.specs.Fmt.{decimal}
use Rattle.std.specs.List.{find}
use Rattle.std.specs.Str.{bytes_eq}
use Rattle.std.proofs.lemmas.Bool.{and_parts, leb-true, le-leb}
use Rattle.std.proofs.lemmas.List.{append_cancel_right}
use Rattle.std.proofs.lemmas.Option.{same_Some, cond_some}
use Rattle.std.proofs.lemmas.Slice.Eq.{bytes_eq-Decides}
use Rattle.db_base.specs.Wish.{ArePositions}
use Rattle.db_base.specs.declared.wish.Wish.{Wish}
use Rattle.db_base.specs.declared.wish.Wish.TheVariants.{Plain, Fail, Lost, Hide, Old, Give}
use Rattle.words.specs.declared.fault.TextFault.{TextFault}
use Rattle.words.specs.declared.fault.TextFault.TheVariants.{NotInGrammar, Memory}
use Rattle.words.specs.Word.{hexadecimal, AreBytes, AreNumbers, Reads, IsReadTo}
use Rattle.words.specs.Line.{parts_of, text_of, word_at, number_at, bytes_at, end_at, last_words, last_of, numbers_of, one_of, two_of, place_of, record_of, sum_of}
use Rattle.words.proofs.Shapes.{bind_some, number_at-takes, number_at-again, bytes_at-takes, bytes_at-again, end_at-takes, end_at-again, last_of-takes, last_of-again, numbers_of-takes, numbers_of-again, one_of-takes, one_of-again, two_of-takes, two_of-again, place_of-takes, place_of-again, record_of-takes, record_of-again, sum_of-takes, sum_of-again}
use Rattle.words.proofs.Splitting.{all_lack, lacks, lacks-decimal, lacks-hexadecimal, parts_of-text_of, text_of-parts_of}
use Rattle.ckpt_policy.specs.declared.role.Role.{Role}
use Rattle.ckpt_policy.specs.declared.role.Role.TheVariants.{Writer, Reader, Watchdog, Owner}
use Rattle.event_text.specs.declared.event.Event.{Event}
use Rattle.event_text.specs.declared.event.Event.TheVariants as event
use Rattle.event_text.specs.declared.keyword.Keyword.{Keyword}
use Rattle.event_text.specs.declared.keyword.Keyword.TheVariants.{Open, Close, Renew, Insert, Put, Update, Delete, Add, Commit, Abort, Read, Scan, Lookup, Page, Tree, Policy, Work, Step, Run, Crash, Wait, Report, Sweep, Settle}
use Rattle.event_text.specs.Keyword.{keyword_of, keyword_text, keywords, is_shell}
use Rattle.event_text.specs.RoleWord.{role_of, role_text, roles}
use Rattle.event_text.specs.Event.{wish_words, crash_words, event_words, line_of, IsWish, IsInRange, IsEvent, IsShellLine}
use Rattle.event_text.specs.Reading.{alone, positions_of, wish_by, wish_of, done_of, insert_of, put_of, policy_of, event_by, session_event, event_behind, event_of_words, shell_event_of_words}

-- ---- steps

-- what stands behind a word
behind : (word : List ℕ) {a b : List (List ℕ)} → a ≡ b → word ∷ a ≡ word ∷ b
behind word e = ap (λ (words : List (List ℕ)). word ∷ words) e

-- the value that a function was applied to
mapped : {A B : Type 0} (f : A → B) (o : Option A) (y : B) → option_map f o ≡ Some y → (x : A) × (o ≡ Some x) × (f x ≡ y)
mapped f (Some x) y e = (x, refl, same_Some (f x) y e)
mapped f None y e = absurd cc

-- which way a choice went
chosen : {A : Type 0} (b : Bool) (x y z : A) → cond b x y ≡ z → ((b ≡ true) × (x ≡ z)) ⊎ ((b ≡ false) × (y ≡ z))
chosen true x y z e = inl (refl, e)
chosen false x y z e = inr (refl, e)

alone-takes : {A : Type 0} (x y : A) (words : List (List ℕ)) → alone x words ≡ Some y → (x ≡ y) × (words ≡ [])
unfolding alone
alone-takes x y words e =
    let z = bind_some (end_at words) _ y e in
    (same_Some x y z.2, end_at-takes words z.0 z.1)

alone-again : {A : Type 0} (x : A) → alone x [] ≡ Some x
unfolding alone
alone-again x = rw end_at-again refl

-- ---- keywords

find-takes : (word : List ℕ) (keyword : Keyword) (among : List Keyword) → find (λ k. bytes_eq (keyword_text k) word) among ≡ Some keyword → word ≡ keyword_text keyword
find-takes word keyword [] e = absurd cc
find-takes word keyword (k ∷ among) e =
    elim (chosen (bytes_eq (keyword_text k) word) (Some k) (find (λ k. bytes_eq (keyword_text k) word) among) (Some keyword) e) [
      | inl here ↦ sym ((bytes_eq-Decides (keyword_text k) word).0 here.0) ∙ ap keyword_text (same_Some k keyword here.1)
      | inr there ↦ find-takes word keyword among there.1
    ]

-- a keyword that is read is spelled so
keyword_of-takes : (word : List ℕ) (keyword : Keyword) → keyword_of word ≡ Some keyword → word ≡ keyword_text keyword
keyword_of-takes word keyword e = find-takes word keyword keywords e

-- each keyword's spelling is read
keyword_of-again : (keyword : Keyword) → keyword_of (keyword_text keyword) ≡ Some keyword
keyword_of-again Open = refl
keyword_of-again Close = refl
keyword_of-again Renew = refl
keyword_of-again Insert = refl
keyword_of-again Put = refl
keyword_of-again Update = refl
keyword_of-again Delete = refl
keyword_of-again Add = refl
keyword_of-again Commit = refl
keyword_of-again Abort = refl
keyword_of-again Read = refl
keyword_of-again Scan = refl
keyword_of-again Lookup = refl
keyword_of-again Page = refl
keyword_of-again Tree = refl
keyword_of-again Policy = refl
keyword_of-again Work = refl
keyword_of-again Step = refl
keyword_of-again Run = refl
keyword_of-again Crash = refl
keyword_of-again Wait = refl
keyword_of-again Report = refl
keyword_of-again Sweep = refl
keyword_of-again Settle = refl

-- ---- wishes

positions_of-takes : (words : List (List ℕ)) (positions : List ℕ) → positions_of words ≡ Some positions → ArePositions positions × AreNumbers positions × (words ≡ map decimal positions)
unfolding positions_of
positions_of-takes words positions e =
    let n = bind_some (numbers_of words) _ positions e in
    let numbers = numbers_of-takes words n.0 n.1 in
    let taken = cond_some (nat_le 1 (length n.0) && nat_le (length n.0) 256) n.0 positions n.2 in
    let range = and_parts (nat_le 1 (length n.0)) (nat_le (length n.0) 256) taken.0 in
    rw (← taken.1) (record { some = leb-true _ _ range.0; most = leb-true _ _ range.1 }, numbers.0, numbers.1)

positions_of-again : (positions : List ℕ) → ArePositions positions → AreNumbers positions → positions_of (map decimal positions) ≡ Some positions
unfolding positions_of
positions_of-again positions range numbers =
    let low : nat_le 1 (length positions) ≡ true = le-leb _ _ range.some in
    let high : nat_le (length positions) 256 ≡ true = le-leb _ _ range.most in
    rw (numbers_of-again positions numbers, low, high) refl

-- a spelled word
spelled : (word text : List ℕ) → bytes_eq word text ≡ true → word ≡ text
spelled word text e = (bytes_eq-Decides word text).0 e

wish_by-takes : (kind : List ℕ) (words : List (List ℕ)) (wish : Wish) → wish_by kind words ≡ Some wish → IsWish wish × (kind ∷ words ≡ wish_words wish)
unfolding wish_by
wish_by-takes kind words wish e =
    elim (chosen (bytes_eq kind (codes "plain")) _ _ _ e) [
      | inl h ↦ simple Plain kind words wish (ap (λ (w : List ℕ). w ∷ []) (spelled kind _ h.0)) h.1 tt
      | inr e1 ↦ elim (chosen (bytes_eq kind (codes "fail")) _ _ _ e1.1) [
        | inl h ↦ simple Fail kind words wish (ap (λ (w : List ℕ). w ∷ []) (spelled kind _ h.0)) h.1 tt
        | inr e2 ↦ elim (chosen (bytes_eq kind (codes "lost")) _ _ _ e2.1) [
          | inl h ↦ simple Lost kind words wish (ap (λ (w : List ℕ). w ∷ []) (spelled kind _ h.0)) h.1 tt
          | inr e3 ↦ elim (chosen (bytes_eq kind (codes "hide")) _ _ _ e3.1) [
            | inl h ↦ simple Hide kind words wish (ap (λ (w : List ℕ). w ∷ []) (spelled kind _ h.0)) h.1 tt
            | inr e4 ↦ elim (chosen (bytes_eq kind (codes "old")) _ _ _ e4.1) [
              | inl h ↦ old kind words wish (spelled kind _ h.0) h.1
              | inr e5 ↦ elim (chosen (bytes_eq kind (codes "give")) _ _ _ e5.1) [
                | inl h ↦ give kind words wish (spelled kind _ h.0) h.1
                | inr e6 ↦ absurd (none wish e6.1)
              ]
            ]
          ]
        ]
      ]
    ]
  where
    simple : (w : Wish) (kind : List ℕ) (words : List (List ℕ)) (wish : Wish) → kind ∷ [] ≡ wish_words w → alone w words ≡ Some wish → IsWish w → IsWish wish × (kind ∷ words ≡ wish_words wish)
    simple w kind words wish k e fits =
        let a = alone-takes w wish words e in
        rw (← a.0) (fits, behind kind a.1 ∙ k)

    old : (kind : List ℕ) (words : List (List ℕ)) (wish : Wish) → kind ≡ codes "old" → option_map Old (one_of words) ≡ Some wish → IsWish wish × (kind ∷ words ≡ wish_words wish)
    old kind words wish k e =
        let m = mapped Old (one_of words) wish e in
        let one = one_of-takes words m.0 m.1 in
        rw (← m.2) (one.0, ap (λ (w : List ℕ). w ∷ words) k ∙ behind _ one.1)

    give : (kind : List ℕ) (words : List (List ℕ)) (wish : Wish) → kind ≡ codes "give" → option_map Give (positions_of words) ≡ Some wish → IsWish wish × (kind ∷ words ≡ wish_words wish)
    give kind words wish k e =
        let m = mapped Give (positions_of words) wish e in
        let list = positions_of-takes words m.0 m.1 in
        rw (← m.2) ((list.0, list.1), ap (λ (w : List ℕ). w ∷ words) k ∙ behind _ list.2)

    none : (wish : Wish) → None ≡ Some wish → ⊥
    none wish e = absurd cc

wish_of-takes : (words : List (List ℕ)) (wish : Wish) → wish_of words ≡ Some wish → IsWish wish × (words ≡ wish_words wish)
unfolding wish_of word_at
wish_of-takes [] wish e = absurd cc
wish_of-takes (kind ∷ words) wish e = wish_by-takes kind words wish e

wish_of-again : (wish : Wish) → IsWish wish → wish_of (wish_words wish) ≡ Some wish
unfolding wish_of word_at wish_by
wish_of-again Plain h = alone-again Plain
wish_of-again Fail h = alone-again Fail
wish_of-again Lost h = alone-again Lost
wish_of-again Hide h = alone-again Hide
wish_of-again (Old version) h = rw (one_of-again version h) refl
wish_of-again (Give positions) h = rw (positions_of-again positions h.0 h.1) refl

done_of-takes : (words : List (List ℕ)) (done : Bool) → done_of words ≡ Some done → words ≡ crash_words done
unfolding done_of
done_of-takes [] done e = let same : false ≡ done = same_Some false done e in rw (← same) refl
done_of-takes (word ∷ words) done e =
    elim (chosen (bytes_eq word (codes "done")) (alone true words) None (Some done) e) [
      | inl h ↦
          let a = alone-takes true done words h.1 in
          rw (← a.0) (ap (λ (w : List ℕ). w ∷ words) (spelled word _ h.0) ∙ behind _ a.1)
      | inr h ↦ absurd (none done h.1)
    ]
  where
    none : (done : Bool) → None ≡ Some done → ⊥
    none done e = absurd cc

done_of-again : (done : Bool) → done_of (crash_words done) ≡ Some done
unfolding done_of
done_of-again true = alone-again true
done_of-again false = refl

insert_of-takes : (words : List (List ℕ)) (x : ℕ × List ℕ × List ℕ × Option (List ℕ)) → insert_of words ≡ Some x → (x.0 < 2 ^ 64) × AreBytes x.1 × AreBytes x.2 × IfSome x.3 AreBytes × (words ≡ decimal x.0 ∷ hexadecimal x.1 ∷ hexadecimal x.2 ∷ last_words x.3)
unfolding insert_of
insert_of-takes words x e =
    let t = bind_some (number_at words) _ x e in
    let k = bind_some (bytes_at t.0.1) _ x t.2 in
    let p = bind_some (bytes_at k.0.1) _ x k.2 in
    let a = bind_some (last_of p.0.1) _ x p.2 in
    let tree = number_at-takes words t.0 t.1 in
    let key = bytes_at-takes t.0.1 k.0 k.1 in
    let payload = bytes_at-takes k.0.1 p.0 p.1 in
    let attr = last_of-takes p.0.1 a.0 a.1 in
    let same : (t.0.0, k.0.0, p.0.0, a.0) ≡ x = same_Some (t.0.0, k.0.0, p.0.0, a.0) x a.2 in
    rw (← same) (tree.0, key.0, payload.0, attr.0, tree.1 ∙ behind _ (key.1 ∙ behind _ (payload.1 ∙ behind _ attr.1)))

insert_of-again : (tree : ℕ) (key payload : List ℕ) (attr : Option (List ℕ)) → tree < 2 ^ 64 → AreBytes key → AreBytes payload → IfSome attr AreBytes → insert_of (decimal tree ∷ hexadecimal key ∷ hexadecimal payload ∷ last_words attr) ≡ Some (tree, key, payload, attr)
unfolding insert_of
insert_of-again tree key payload attr t k p a =
    rw (number_at-again tree (hexadecimal key ∷ hexadecimal payload ∷ last_words attr) t, bytes_at-again key (hexadecimal payload ∷ last_words attr) k, bytes_at-again payload (last_words attr) p, last_of-again attr a) refl

put_of-takes : (words : List (List ℕ)) (x : ℕ × List ℕ × List ℕ × List ℕ) → put_of words ≡ Some x → (x.0 < 2 ^ 64) × AreBytes x.1 × AreBytes x.2 × AreBytes x.3 × (words ≡ decimal x.0 ∷ hexadecimal x.1 ∷ hexadecimal x.2 ∷ hexadecimal x.3 ∷ [])
unfolding put_of
put_of-takes words x e =
    let t = bind_some (number_at words) _ x e in
    let k = bind_some (bytes_at t.0.1) _ x t.2 in
    let p = bind_some (bytes_at k.0.1) _ x k.2 in
    let a = bind_some (bytes_at p.0.1) _ x p.2 in
    let z = bind_some (end_at a.0.1) _ x a.2 in
    let tree = number_at-takes words t.0 t.1 in
    let key = bytes_at-takes t.0.1 k.0 k.1 in
    let payload = bytes_at-takes k.0.1 p.0 p.1 in
    let attr = bytes_at-takes p.0.1 a.0 a.1 in
    let same : (t.0.0, k.0.0, p.0.0, a.0.0) ≡ x = same_Some (t.0.0, k.0.0, p.0.0, a.0.0) x z.2 in
    rw (← same) (tree.0, key.0, payload.0, attr.0, tree.1 ∙ behind _ (key.1 ∙ behind _ (payload.1 ∙ behind _ (attr.1 ∙ behind _ (end_at-takes a.0.1 z.0 z.1)))))

put_of-again : (tree : ℕ) (key payload attr : List ℕ) → tree < 2 ^ 64 → AreBytes key → AreBytes payload → AreBytes attr → put_of (decimal tree ∷ hexadecimal key ∷ hexadecimal payload ∷ hexadecimal attr ∷ []) ≡ Some (tree, key, payload, attr)
unfolding put_of
put_of-again tree key payload attr t k p a =
    rw (number_at-again tree (hexadecimal key ∷ hexadecimal payload ∷ hexadecimal attr ∷ []) t, bytes_at-again key (hexadecimal payload ∷ hexadecimal attr ∷ []) k, bytes_at-again payload (hexadecimal attr ∷ []) p, bytes_at-again attr [] a, end_at-again) refl

-- ---- roles

role_found : (word : List ℕ) (role : Role) (among : List Role) → find (λ r. bytes_eq (role_text r) word) among ≡ Some role → word ≡ role_text role
role_found word role [] e = absurd cc
role_found word role (r ∷ among) e =
    elim (chosen (bytes_eq (role_text r) word) (Some r) (find (λ r. bytes_eq (role_text r) word) among) (Some role) e) [
      | inl here ↦ sym ((bytes_eq-Decides (role_text r) word).0 here.0) ∙ ap role_text (same_Some r role here.1)
      | inr there ↦ role_found word role among there.1
    ]

role_of-again : (role : Role) → role_of (role_text role) ≡ Some role
role_of-again Writer = refl
role_of-again Reader = refl
role_of-again Watchdog = refl
role_of-again Owner = refl

policy_of-takes : (words : List (List ℕ)) (x : Role × ℕ) → policy_of words ≡ Some x → (x.1 < 2 ^ 64) × (words ≡ role_text x.0 ∷ decimal x.1 ∷ [])
unfolding policy_of word_at
policy_of-takes [] x e = absurd cc
policy_of-takes (word ∷ words) x e =
    let r = bind_some (role_of word) _ x e in
    let n = bind_some (one_of words) _ x r.2 in
    let role = role_found word r.0 roles r.1 in
    let number = one_of-takes words n.0 n.1 in
    let same : (r.0, n.0) ≡ x = same_Some (r.0, n.0) x n.2 in
    rw (← same) (number.0, ap (λ (w : List ℕ). w ∷ words) role ∙ behind _ number.1)

policy_of-again : (role : Role) (k : ℕ) → k < 2 ^ 64 → policy_of (role_text role ∷ decimal k ∷ []) ≡ Some (role, k)
unfolding policy_of word_at
policy_of-again role k small = rw (role_of-again role, one_of-again k small) refl

-- ---- lines

nothing : {A : Type 0} (x : A) → None ≡ Some x → ⊥
nothing x e = absurd cc

event_by-takes : (keyword : Keyword) (session : ℕ) (words : List (List ℕ)) (e : Event) → session < 2 ^ 64 → event_by keyword session words ≡ Some e → IsInRange e × (keyword_text keyword ∷ decimal session ∷ words ≡ event_words e)
unfolding event_by
event_by-takes Open session words e small h =
    let m = mapped (event.Open session) (one_of words) e h in
    let x = one_of-takes words m.0 m.1 in
    rw (← m.2) ((small, x.0), behind _ (behind _ x.1))
event_by-takes Close session words e small h =
    let a = alone-takes (event.Close session) e words h in
    rw (← a.0) (small, behind _ (behind _ a.1))
event_by-takes Renew session words e small h =
    let a = alone-takes (event.Renew session) e words h in
    rw (← a.0) (small, behind _ (behind _ a.1))
event_by-takes Insert session words e small h =
    let m = mapped (λ (x : ℕ × List ℕ × List ℕ × Option (List ℕ)). event.Insert session x.0 x.1 x.2 x.3) (insert_of words) e h in
    let x = insert_of-takes words m.0 m.1 in
    rw (← m.2) ((small, x.0, x.1, x.2, x.3), behind _ (behind _ x.4))
event_by-takes Put session words e small h =
    let m = mapped (λ (x : ℕ × List ℕ × List ℕ × List ℕ). event.Put session x.0 x.1 x.2 x.3) (put_of words) e h in
    let x = put_of-takes words m.0 m.1 in
    rw (← m.2) ((small, x.0, x.1, x.2, x.3), behind _ (behind _ x.4))
event_by-takes Update session words e small h =
    let m = mapped (λ (x : ℕ × List ℕ × List ℕ). event.Update session x.0 x.1 x.2) (record_of words) e h in
    let x = record_of-takes words m.0 m.1 in
    rw (← m.2) ((small, x.0, x.1, x.2), behind _ (behind _ x.3))
event_by-takes Delete session words e small h =
    let m = mapped (λ (x : ℕ × List ℕ). event.Delete session x.0 x.1) (place_of words) e h in
    let x = place_of-takes words m.0 m.1 in
    rw (← m.2) ((small, x.0, x.1), behind _ (behind _ x.2))
event_by-takes Add session words e small h =
    let m = mapped (λ (x : ℕ × List ℕ × ℕ). event.Add session x.0 x.1 x.2) (sum_of words) e h in
    let x = sum_of-takes words m.0 m.1 in
    rw (← m.2) ((small, x.0, x.1, x.2), behind _ (behind _ x.3))
event_by-takes Commit session words e small h =
    let a = alone-takes (event.Commit session) e words h in
    rw (← a.0) (small, behind _ (behind _ a.1))
event_by-takes Abort session words e small h =
    let a = alone-takes (event.Abort session) e words h in
    rw (← a.0) (small, behind _ (behind _ a.1))
event_by-takes Read session words e small h =
    let m = mapped (λ (x : ℕ × List ℕ). event.Read session x.0 x.1) (place_of words) e h in
    let x = place_of-takes words m.0 m.1 in
    rw (← m.2) ((small, x.0, x.1), behind _ (behind _ x.2))
event_by-takes Scan session words e small h =
    let m = mapped (λ (x : ℕ × List ℕ × List ℕ). event.Scan session x.0 x.1 x.2) (record_of words) e h in
    let x = record_of-takes words m.0 m.1 in
    rw (← m.2) ((small, x.0, x.1, x.2), behind _ (behind _ x.3))
event_by-takes Lookup session words e small h =
    let m = mapped (λ (x : ℕ × List ℕ). event.Lookup session x.0 x.1) (place_of words) e h in
    let x = place_of-takes words m.0 m.1 in
    rw (← m.2) ((small, x.0, x.1), behind _ (behind _ x.2))
event_by-takes Page session words e small h =
    let m = mapped (λ (x : ℕ × ℕ). event.Page session x.0 x.1) (two_of words) e h in
    let x = two_of-takes words m.0 m.1 in
    rw (← m.2) ((small, x.0, x.1), behind _ (behind _ x.2))
event_by-takes Tree session words e small h =
    let m = mapped (event.Tree session) (one_of words) e h in
    let x = one_of-takes words m.0 m.1 in
    rw (← m.2) ((small, x.0), behind _ (behind _ x.1))
event_by-takes Policy session words e small h =
    let m = mapped (λ (x : Role × ℕ). event.Policy session x.0 x.1) (policy_of words) e h in
    let x = policy_of-takes words m.0 m.1 in
    rw (← m.2) ((small, x.0), behind _ (behind _ x.1))
event_by-takes Work session words e small h =
    let a = alone-takes (event.Work session) e words h in
    rw (← a.0) (small, behind _ (behind _ a.1))
event_by-takes Step session words e small h =
    let m = mapped (event.Step session) (wish_of words) e h in
    let x = wish_of-takes words m.0 m.1 in
    rw (← m.2) ((small, x.0), behind _ (behind _ x.1))
event_by-takes Run session words e small h =
    let a = alone-takes (event.Run session) e words h in
    rw (← a.0) (small, behind _ (behind _ a.1))
event_by-takes Crash session words e small h =
    let m = mapped (event.Crash session) (done_of words) e h in
    rw (← m.2) (small, behind _ (behind _ (done_of-takes words m.0 m.1)))
event_by-takes Wait session words e small h = absurd (nothing e h)
event_by-takes Report session words e small h = absurd (nothing e h)
event_by-takes Sweep session words e small h = absurd (nothing e h)
event_by-takes Settle session words e small h = absurd (nothing e h)

session_event-takes : (keyword : Keyword) (words : List (List ℕ)) (e : Event) → session_event keyword words ≡ Some e → IsInRange e × (keyword_text keyword ∷ words ≡ event_words e)
unfolding session_event
session_event-takes keyword words e h =
    let n = bind_some (number_at words) _ e h in
    let session = number_at-takes words n.0 n.1 in
    let rest = event_by-takes keyword n.0.0 n.0.1 e session.0 n.2 in
    (rest.0, behind _ session.1 ∙ rest.1)

event_behind-takes : (keyword : Keyword) (words : List (List ℕ)) (e : Event) → event_behind keyword words ≡ Some e → IsInRange e × (keyword_text keyword ∷ words ≡ event_words e)
unfolding event_behind
event_behind-takes Wait words e h =
    let m = mapped event.Wait (one_of words) e h in
    let x = one_of-takes words m.0 m.1 in
    rw (← m.2) (x.0, behind _ x.1)
event_behind-takes Report words e h =
    let m = mapped event.Report (one_of words) e h in
    let x = one_of-takes words m.0 m.1 in
    rw (← m.2) (x.0, behind _ x.1)
event_behind-takes Sweep words e h =
    let m = mapped event.Sweep (one_of words) e h in
    let x = one_of-takes words m.0 m.1 in
    rw (← m.2) (x.0, behind _ x.1)
event_behind-takes Settle words e h =
    let a = alone-takes event.Settle e words h in
    rw (← a.0) (tt, behind _ a.1)
event_behind-takes Open words e h = session_event-takes Open words e h
event_behind-takes Close words e h = session_event-takes Close words e h
event_behind-takes Renew words e h = session_event-takes Renew words e h
event_behind-takes Insert words e h = session_event-takes Insert words e h
event_behind-takes Put words e h = session_event-takes Put words e h
event_behind-takes Update words e h = session_event-takes Update words e h
event_behind-takes Delete words e h = session_event-takes Delete words e h
event_behind-takes Add words e h = session_event-takes Add words e h
event_behind-takes Commit words e h = session_event-takes Commit words e h
event_behind-takes Abort words e h = session_event-takes Abort words e h
event_behind-takes Read words e h = session_event-takes Read words e h
event_behind-takes Scan words e h = session_event-takes Scan words e h
event_behind-takes Lookup words e h = session_event-takes Lookup words e h
event_behind-takes Page words e h = session_event-takes Page words e h
event_behind-takes Tree words e h = session_event-takes Tree words e h
event_behind-takes Policy words e h = session_event-takes Policy words e h
event_behind-takes Work words e h = session_event-takes Work words e h
event_behind-takes Step words e h = session_event-takes Step words e h
event_behind-takes Run words e h = session_event-takes Run words e h
event_behind-takes Crash words e h = session_event-takes Crash words e h

-- the words of an event are spelled so
pub event_of_words-takes : (words : List (List ℕ)) (e : Event) → event_of_words words ≡ Some e → IsInRange e × (words ≡ event_words e)
unfolding event_of_words word_at
event_of_words-takes [] e h = absurd (nothing e h)
event_of_words-takes (word ∷ words) e h =
    let k = bind_some (keyword_of word) _ e h in
    let rest = event_behind-takes k.0 words e k.2 in
    (rest.0, ap (λ (w : List ℕ). w ∷ words) (keyword_of-takes word k.0 k.1) ∙ rest.1)

-- the words of each event are read
pub event_of_words-again : (e : Event) → IsInRange e → event_of_words (event_words e) ≡ Some e
unfolding event_of_words word_at event_behind session_event event_by
event_of_words-again (event.Open session client) h = rw (number_at-again session (decimal client ∷ []) h.0, one_of-again client h.1) refl
event_of_words-again (event.Close session) h = rw (number_at-again session [] h, alone-again (event.Close session)) refl
event_of_words-again (event.Renew session) h = rw (number_at-again session [] h, alone-again (event.Renew session)) refl
event_of_words-again (event.Insert session tree key payload attr) h = rw (number_at-again session (decimal tree ∷ hexadecimal key ∷ hexadecimal payload ∷ last_words attr) h.0, insert_of-again tree key payload attr h.1 h.2 h.3 h.4) refl
event_of_words-again (event.Put session tree key payload attr) h = rw (number_at-again session (decimal tree ∷ hexadecimal key ∷ hexadecimal payload ∷ hexadecimal attr ∷ []) h.0, put_of-again tree key payload attr h.1 h.2 h.3 h.4) refl
event_of_words-again (event.Update session tree key payload) h = rw (number_at-again session (decimal tree ∷ hexadecimal key ∷ hexadecimal payload ∷ []) h.0, record_of-again tree key payload h.1 h.2 h.3) refl
event_of_words-again (event.Delete session tree key) h = rw (number_at-again session (decimal tree ∷ hexadecimal key ∷ []) h.0, place_of-again tree key h.1 h.2) refl
event_of_words-again (event.Add session tree key amount) h = rw (number_at-again session (decimal tree ∷ hexadecimal key ∷ decimal amount ∷ []) h.0, sum_of-again tree key amount h.1 h.2 h.3) refl
event_of_words-again (event.Commit session) h = rw (number_at-again session [] h, alone-again (event.Commit session)) refl
event_of_words-again (event.Abort session) h = rw (number_at-again session [] h, alone-again (event.Abort session)) refl
event_of_words-again (event.Read session tree key) h = rw (number_at-again session (decimal tree ∷ hexadecimal key ∷ []) h.0, place_of-again tree key h.1 h.2) refl
event_of_words-again (event.Scan session tree from to) h = rw (number_at-again session (decimal tree ∷ hexadecimal from ∷ hexadecimal to ∷ []) h.0, record_of-again tree from to h.1 h.2 h.3) refl
event_of_words-again (event.Lookup session tree attr) h = rw (number_at-again session (decimal tree ∷ hexadecimal attr ∷ []) h.0, place_of-again tree attr h.1 h.2) refl
event_of_words-again (event.Page session tree page) h = rw (number_at-again session (decimal tree ∷ decimal page ∷ []) h.0, two_of-again tree page h.1 h.2) refl
event_of_words-again (event.Tree session tree) h = rw (number_at-again session (decimal tree ∷ []) h.0, one_of-again tree h.1) refl
event_of_words-again (event.Policy session role k) h = rw (number_at-again session (role_text role ∷ decimal k ∷ []) h.0, policy_of-again role k h.1) refl
event_of_words-again (event.Work session) h = rw (number_at-again session [] h, alone-again (event.Work session)) refl
event_of_words-again (event.Step session wish) h = rw (number_at-again session (wish_words wish) h.0, wish_of-again wish h.1) refl
event_of_words-again (event.Run session) h = rw (number_at-again session [] h, alone-again (event.Run session)) refl
event_of_words-again (event.Crash session done) h = rw (number_at-again session (crash_words done) h, done_of-again done) refl
event_of_words-again (event.Wait ticks) h = rw (one_of-again ticks h) refl
event_of_words-again (event.Report tree) h = rw (one_of-again tree h) refl
event_of_words-again (event.Sweep tree) h = rw (one_of-again tree h) refl
event_of_words-again event.Settle h = alone-again event.Settle

-- ---- spaces

lacks_number : (n : ℕ) → n < 2 ^ 64 → lacks 32 (decimal n) ≡ true
lacks_number n small = lacks-decimal 32 n small refl

lacks_bytes : (bytes : List ℕ) → AreBytes bytes → lacks 32 (hexadecimal bytes) ≡ true
lacks_bytes bytes h = lacks-hexadecimal 32 bytes h refl

lacks_numbers : (numbers : List ℕ) → AreNumbers numbers → all_lack 32 (map decimal numbers) ≡ true
lacks_numbers [] h = refl
lacks_numbers (n ∷ numbers) h = rw (lacks_number n h.0, lacks_numbers numbers h.1) refl

wish_lacks : (wish : Wish) → IsWish wish → all_lack 32 (wish_words wish) ≡ true
wish_lacks Plain h = refl
wish_lacks Fail h = refl
wish_lacks Lost h = refl
wish_lacks Hide h = refl
wish_lacks (Old version) h = rw (lacks_number version h) refl
wish_lacks (Give positions) h = lacks_numbers positions h.1

role_lacks : (role : Role) → lacks 32 (role_text role) ≡ true
role_lacks Writer = refl
role_lacks Reader = refl
role_lacks Watchdog = refl
role_lacks Owner = refl

crash_lacks : (done : Bool) → all_lack 32 (crash_words done) ≡ true
crash_lacks true = refl
crash_lacks false = refl

last_lacks : (last : Option (List ℕ)) → IfSome last AreBytes → all_lack 32 (last_words last) ≡ true
last_lacks None h = refl
last_lacks (Some bytes) h = rw (lacks_bytes bytes h) refl

-- no word of an event has a space
event_lacks : (e : Event) → IsInRange e → all_lack 32 (event_words e) ≡ true
event_lacks (event.Open session client) h = rw (lacks_number session h.0, lacks_number client h.1) refl
event_lacks (event.Close session) h = rw (lacks_number session h) refl
event_lacks (event.Renew session) h = rw (lacks_number session h) refl
event_lacks (event.Insert session tree key payload attr) h = rw (lacks_number session h.0, lacks_number tree h.1, lacks_bytes key h.2, lacks_bytes payload h.3, last_lacks attr h.4) refl
event_lacks (event.Put session tree key payload attr) h = rw (lacks_number session h.0, lacks_number tree h.1, lacks_bytes key h.2, lacks_bytes payload h.3, lacks_bytes attr h.4) refl
event_lacks (event.Update session tree key payload) h = rw (lacks_number session h.0, lacks_number tree h.1, lacks_bytes key h.2, lacks_bytes payload h.3) refl
event_lacks (event.Delete session tree key) h = rw (lacks_number session h.0, lacks_number tree h.1, lacks_bytes key h.2) refl
event_lacks (event.Add session tree key amount) h = rw (lacks_number session h.0, lacks_number tree h.1, lacks_bytes key h.2, lacks_number amount h.3) refl
event_lacks (event.Commit session) h = rw (lacks_number session h) refl
event_lacks (event.Abort session) h = rw (lacks_number session h) refl
event_lacks (event.Read session tree key) h = rw (lacks_number session h.0, lacks_number tree h.1, lacks_bytes key h.2) refl
event_lacks (event.Scan session tree from to) h = rw (lacks_number session h.0, lacks_number tree h.1, lacks_bytes from h.2, lacks_bytes to h.3) refl
event_lacks (event.Lookup session tree attr) h = rw (lacks_number session h.0, lacks_number tree h.1, lacks_bytes attr h.2) refl
event_lacks (event.Page session tree page) h = rw (lacks_number session h.0, lacks_number tree h.1, lacks_number page h.2) refl
event_lacks (event.Tree session tree) h = rw (lacks_number session h.0, lacks_number tree h.1) refl
event_lacks (event.Policy session role k) h = rw (lacks_number session h.0, role_lacks role, lacks_number k h.1) refl
event_lacks (event.Work session) h = rw (lacks_number session h) refl
event_lacks (event.Step session wish) h = rw (lacks_number session h.0, wish_lacks wish h.1) refl
event_lacks (event.Run session) h = rw (lacks_number session h) refl
event_lacks (event.Crash session done) h = rw (lacks_number session h, crash_lacks done) refl
event_lacks (event.Wait ticks) h = rw (lacks_number ticks h) refl
event_lacks (event.Report tree) h = rw (lacks_number tree h) refl
event_lacks (event.Sweep tree) h = rw (lacks_number tree h) refl
event_lacks event.Settle h = refl

-- words that are read, and have no space, are the parts of their text
parts_again : (words : List (List ℕ)) (e : Event) → event_of_words words ≡ Some e → all_lack 32 words ≡ true → parts_of 32 (text_of 32 words) ≡ words
unfolding event_of_words word_at
parts_again [] e h lack = absurd (nothing e h)
parts_again (word ∷ words) e h lack = parts_of-text_of 32 word words lack

-- what a text before a line feed is
pub some_part : (line : List ℕ) (r : Option (Bor (List ℕ))) → MatchOption r ((front : List ℕ) → line ≢ front ++ 10 ∷ []) (λ x. line ≡ x.now ++ 10 ∷ []) → IfSome r (λ text. line ≡ text.now ++ 10 ∷ [])
some_part line (Some x) h = h
some_part line None h = tt

-- ---- whole lines

-- what is read is spelled so
pub read_found : (line text : List ℕ) (r : Result Event TextFault) → line ≡ text ++ 10 ∷ [] → Reads r (event_of_words (parts_of 32 text)) → IfOk r (IsEvent line)
read_found line text (Ok e) at h =
    let taken = event_of_words-takes (parts_of 32 text) e h in
    record { in_range = taken.0; is = at ∙ ap (λ (t : List ℕ). t ++ 10 ∷ []) (sym (text_of-parts_of 32 text) ∙ ap (text_of 32) taken.1) }
read_found line text (Err NotInGrammar) at h = tt
read_found line text (Err Memory) at h = tt

-- what is read of words that are read
pub read_to : (r : Result Event TextFault) (o : Option Event) (e : Event) → Reads r o → o ≡ Some e → IsReadTo r e
read_to (Ok x) o e h at = inl (ap (λ (v : Event). Ok v) (same_Some x e (sym h ∙ at)))
read_to (Err NotInGrammar) o e h at = absurd (nothing e (sym h ∙ at))
read_to (Err Memory) o e h at = inr refl

-- what is spelled so is read
pub read_only : (line text : List ℕ) (r : Result Event TextFault) → line ≡ text ++ 10 ∷ [] → Reads r (event_of_words (parts_of 32 text)) → (e : Event) → IsEvent line e → IsReadTo r e
read_only line text r at h e spelled =
    let again = event_of_words-again e spelled.in_range in
    let text_is : text ≡ text_of 32 (event_words e) = append_cancel_right text (text_of 32 (event_words e)) (10 ∷ []) (sym at ∙ spelled.is) in
    let words : parts_of 32 text ≡ event_words e = ap (parts_of 32) text_is ∙ parts_again (event_words e) e again (event_lacks e spelled.in_range) in
    read_to r (event_of_words (parts_of 32 text)) e h (ap event_of_words words ∙ again)

-- ---- a shell's lines

one_small : 1 < 2 ^ 64
one_small = lit< tt

-- behind a shell's keyword a session is read
shell_behind : (keyword : Keyword) → is_shell keyword ≡ true → (rest : List (List ℕ)) → event_behind keyword (decimal 1 ∷ rest) ≡ event_by keyword 1 rest
unfolding event_behind session_event
shell_behind Insert h rest = rw (number_at-again 1 rest one_small) refl
shell_behind Update h rest = rw (number_at-again 1 rest one_small) refl
shell_behind Delete h rest = rw (number_at-again 1 rest one_small) refl
shell_behind Add h rest = rw (number_at-again 1 rest one_small) refl
shell_behind Commit h rest = rw (number_at-again 1 rest one_small) refl
shell_behind Abort h rest = rw (number_at-again 1 rest one_small) refl
shell_behind Read h rest = rw (number_at-again 1 rest one_small) refl
shell_behind Scan h rest = rw (number_at-again 1 rest one_small) refl
shell_behind Page h rest = rw (number_at-again 1 rest one_small) refl
shell_behind Tree h rest = rw (number_at-again 1 rest one_small) refl
shell_behind Renew h rest = rw (number_at-again 1 rest one_small) refl
shell_behind Open h rest = absurd cc
shell_behind Close h rest = absurd cc
shell_behind Step h rest = absurd cc
shell_behind Run h rest = absurd cc
shell_behind Crash h rest = absurd cc
shell_behind Wait h rest = absurd cc
shell_behind Report h rest = absurd cc
shell_behind Sweep h rest = absurd cc
shell_behind Settle h rest = absurd cc
shell_behind Put h rest = absurd cc
shell_behind Lookup h rest = absurd cc
shell_behind Policy h rest = absurd cc
shell_behind Work h rest = absurd cc

-- the event of a line that begins with a keyword
event_of_keyword : (keyword : Keyword) (words : List (List ℕ)) → event_of_words (keyword_text keyword ∷ words) ≡ event_behind keyword words
unfolding event_of_words word_at
event_of_keyword keyword words = rw (keyword_of-again keyword) refl

-- the words of a shell's line are read
shell_again : (keyword : Keyword) (rest : List (List ℕ)) → is_shell keyword ≡ true → shell_event_of_words (keyword_text keyword ∷ rest) ≡ event_by keyword 1 rest
unfolding shell_event_of_words word_at
shell_again keyword rest shell = rw (keyword_of-again keyword, shell) refl

-- what is read of a shell's words
shell_takes : (line : List ℕ) (words : List (List ℕ)) (e : Event) → line ≡ line_of words → shell_event_of_words words ≡ Some e → IsShellLine line e
unfolding shell_event_of_words word_at
shell_takes line [] e at h = absurd (nothing e h)
shell_takes line (word ∷ words) e at h =
    let k = bind_some (keyword_of word) _ e h in
    let taken = chosen (is_shell k.0) (event_by k.0 1 words) None (Some e) k.2 in
    let first = keyword_of-takes word k.0 k.1 in
    elim taken [
      | inl here ↦
          let by = event_by-takes k.0 1 words e one_small here.1 in
          record {
            keyword = k.0;
            rest = words;
            in_range = by.0;
            shell = here.0;
            words = sym by.1;
            is = at ∙ ap (λ (w : List ℕ). line_of (w ∷ words)) first;
          }
      | inr there ↦ absurd (nothing e there.1)
    ]

pub shell_found : (line text : List ℕ) (r : Result Event TextFault) → line ≡ text ++ 10 ∷ [] → Reads r (shell_event_of_words (parts_of 32 text)) → IfOk r (IsShellLine line)
shell_found line text (Ok e) at h =
    shell_takes line (parts_of 32 text) e (at ∙ ap (λ (t : List ℕ). t ++ 10 ∷ []) (sym (text_of-parts_of 32 text))) h
shell_found line text (Err NotInGrammar) at h = tt
shell_found line text (Err Memory) at h = tt

pub shell_only : (line text : List ℕ) (r : Result Event TextFault) → line ≡ text ++ 10 ∷ [] → Reads r (shell_event_of_words (parts_of 32 text)) → (e : Event) → IsShellLine line e → IsReadTo r e
shell_only line text r at h e spelled =
    let k = spelled.keyword in
    let rest = spelled.rest in
    let read : event_by k 1 rest ≡ Some e = sym (shell_behind k spelled.shell rest) ∙ sym (event_of_keyword k (decimal 1 ∷ rest)) ∙ ap event_of_words (sym spelled.words) ∙ event_of_words-again e spelled.in_range in
    let lack : all_lack 32 (keyword_text k ∷ decimal 1 ∷ rest) ≡ true = ap (all_lack 32) (sym spelled.words) ∙ event_lacks e spelled.in_range in
    let front = and_parts (lacks 32 (keyword_text k)) (all_lack 32 (decimal 1 ∷ rest)) lack in
    let back = and_parts (lacks 32 (decimal 1)) (all_lack 32 rest) front.1 in
    let whole : all_lack 32 (keyword_text k ∷ rest) ≡ true = rw (front.0, back.1) refl in
    let text_is : text ≡ text_of 32 (keyword_text k ∷ rest) = append_cancel_right text (text_of 32 (keyword_text k ∷ rest)) (10 ∷ []) (sym at ∙ spelled.is) in
    let words : parts_of 32 text ≡ keyword_text k ∷ rest = ap (parts_of 32) text_is ∙ parts_of-text_of 32 (keyword_text k) rest whole in
    read_to r (shell_event_of_words (parts_of 32 text)) e h (ap shell_event_of_words words ∙ shell_again k rest spelled.shell ∙ read)

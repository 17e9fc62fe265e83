-- A page checkpoint stops for what an answer shows.
use Rattle.std.proofs.Common.{◌≡◌, ◌≢◌, ℕ, Bool, true, false, cond, List, [], ◌∷◌, Option, Some, None, Result, Ok, Err, refl, sym, ap, subst, inl, inr, ◌∙◌}
use Rattle.std.specs.Prelude.{◌==◌}
use Rattle.std.proofs.lemmas.Bool.{eqb-true}
use Rattle.db_base.specs.declared.names.ObjName.TheVariants as object
use Rattle.db_base.specs.declared.names.Place.{Place}
use Rattle.db_base.specs.declared.names.Place.TheVariants as place
use Rattle.db_base.specs.declared.trouble.Trouble.TheVariants as trouble
use Rattle.db_base.specs.declared.trouble.Counter.TheVariants as counter
use Rattle.byte_format.specs.Order.{bytes_same}
use Rattle.byte_format.specs.Whole.{offset}
use Rattle.byte_format.proofs.Wholes.{one_value}
use Rattle.leaf_view.specs.Leaf.{Leaf, leaf}
use Rattle.leaf_view.specs.Lookup.{empty_leaf}
use Rattle.leaf_view.proofs.Exact.{leaf_exact}
use Rattle.leaf_edit.specs.Lacked.{lacked}
use Rattle.node_codec.specs.Inner.{Inner, IsInner}
use Rattle.run_cursor.specs.Run.{Taken}
use Rattle.cloud_trait.specs.declared.answer.Answer.TheVariants as call
use Rattle.cloud_trait.specs.Ask.{Ask, Delete, Take, Release}
use Rattle.cloud_trait.specs.Views.{trouble_of, given_of, got_of, received_of, done_of}
use Rattle.ckpt_parts.specs.Deleting.{next_id}
use Rattle.ckpt_parts.specs.Intakes.{items_of, message_damage, has_items, TakesItems}
use Rattle.ckpt_parts.specs.Leaves.{absent_leaf, page_damage, IsNoLeaf, HoldsLeaf, HoldsLinked, bad_fence, fenced}
use Rattle.ckpt_parts.specs.Leasing.{newest_lease}
use Rattle.page_ckpt.specs.declared.stage.Stage.TheVariants.{GettingHome, Receiving, GettingRight, ReleasingRight, PuttingHome, Deleting as DeletingNext, Releasing}
use Rattle.page_ckpt.specs.Paging.{Paging, Step, paging_ask, own_queue, under, stopping, delete_next, HoldsNamed, link_of, is_visited, PagingLeads, KeepsLeases}
use Rattle.page_ckpt.specs.Leases.{HoldsFirst, HasIds, Stands}
use Rattle.page_ckpt.specs.Causes.{Matters, Reads, LeadsOn, Shows, IsShown, greatest_number}
use Rattle.page_ckpt.specs.Demands.{Owes}
use Rattle.page_ckpt.proofs.Words.{Trouble, PuItem, Answer, Message, CkptAnswer, Turn, More, Ended, Stopped, Claim, Goes, Ends, Stops, Took, Deed, Fits, Intake, Link, Stage}
use Rattle.page_ckpt.proofs.Outcomes.{leased, IsLast, AreRead, Onward, Clears, Fails, Comes, comes}
use Rattle.page_ckpt.proofs.Outcomes as step
use Rattle.page_ckpt.proofs.Links.{one_link}
use Rattle.page_ckpt.proofs.Causes.{HoldsNeeded, err_is, some_is, onward_visited, onward_home}
use Rattle.page_ckpt.proofs.Calm.{IsQuiet}

-- ---- steps

-- the trouble is kept or answered
abbrev NextOwes : Step → Trouble → Type 0
NextOwes (Goes n) t = n.trouble ≡ Some t
NextOwes (Ends n x) t = ⊥
NextOwes (Stops n u) t = u ≡ t

-- the state that a step leaves
abbrev after_of : Step → Paging
after_of (Goes n) = n
after_of (Ends n x) = n
after_of (Stops n u) = n

-- a link leads on and deletions come next at these stages alone
abbrev Works : Stage → Type 0
Works Receiving = Unit {0}
Works ReleasingRight = Unit {0}
Works PuttingHome = Unit {0}
Works DeletingNext = Unit {0}
Works stage = ⊥

onward_works : {p q : Paging} {a : Answer} {o : Option Link} → Onward p a q o → Works p.stage
onward_works (step.with_run p first second ms i read some) = tt
onward_works (step.from_right p first second a) = tt

clears_works : {p q : Paging} {a : Answer} → Clears p a q → Works p.stage
clears_works (step.no_run p first second ms i read none) = tt
clears_works (step.home_put p first second) = tt
clears_works (step.one_tried p first second a) = tt

-- ---- calls that were refused

abbrev IsRefusal : Answer → Type 0
IsRefusal call.Failed = Unit {0}
IsRefusal (call.Late end now) = Unit {0}
IsRefusal (call.Held until) = Unit {0}
IsRefusal a = ⊥

-- the refusal of a call that matters is kept or answered
abbrev Heeds : Ask → Answer → Step → Type 0
Heeds (Delete queue id) a next = Unit {0}
Heeds (Release l) a next = Unit {0}
Heeds (Take mine ticks) a next = (t : Trouble) → given_of mine a ≡ Err t → NextOwes next t
Heeds ask a next = NextOwes next (trouble_of a)

got_refused : (a : Answer) (t : Trouble) → got_of a ≡ Err t → Some t ≡ Some (trouble_of a)
got_refused (call.Got v) t e = absurd (cc (e))
got_refused a t e = cc (e)

received_refused : (a : Answer) (t : Trouble) → received_of a ≡ Err t → Some t ≡ Some (trouble_of a)
received_refused (call.Received ms) t e = absurd (cc (e))
received_refused a t e = cc (e)

done_refused : (a : Answer) (t : Trouble) → done_of a ≡ Err t → Some t ≡ Some (trouble_of a)
done_refused call.Done t e = absurd (cc (e))
done_refused a t e = cc (e)

onward_heeds : {p q : Paging} {a : Answer} {o : Option Link} (next : Step) → HoldsNeeded p → IsRefusal a → Onward p a q o → Heeds (paging_ask p) a next
onward_heeds next own bad (step.with_run p first second ms i read some) = absurd bad
onward_heeds next own bad (step.from_right p (Some l) (Some r) a) = tt
onward_heeds next own bad on = absurd own

deletes_heeds : (p : Paging) (ids : List ℕ) (a : Answer) (next : Step) → HasIds ids → Heeds (delete_next p (next_id ids)) a next
deletes_heeds p [] a next has = absurd has
deletes_heeds p (id ∷ ids) a next has = tt

clears_heeds : {p q : Paging} {a : Answer} (next : Step) → HoldsNeeded p → IsRefusal a → Clears p a q → Heeds (paging_ask p) a next
clears_heeds {p = from} next own bad (step.one_tried p first second a) = deletes_heeds from p.deletions.ids a next own.1
clears_heeds next own bad c = absurd bad

fails_heeds : {p q : Paging} {a : Answer} {t : Trouble} → HoldsNeeded p → IsRefusal a → Fails p a q t → Heeds (paging_ask p) a (stopping q t)
fails_heeds own bad (step.no_home p (Some l) None a t e) = got_refused a t e
fails_heeds own bad (step.no_messages p first second a t e) = received_refused a t e
fails_heeds own bad (step.no_lease p first second a t e) = λ u f. ap Some (err_is t u (sym e ∙ f))
fails_heeds own bad (step.no_right p (Some l) (Some r) a t e) = got_refused a t e
fails_heeds own bad (step.right_not_put p (Some l) (Some r) a t e) = done_refused a t e
fails_heeds own bad (step.home_not_put p (Some l) None a t e) = done_refused a t e
fails_heeds own bad (step.round link on seen) = onward_heeds _ own bad on
fails_heeds own bad (step.home_spent on spent) = onward_heeds _ own bad on
fails_heeds own bad (step.bad_home p first second got t holds) = absurd bad
fails_heeds own bad (step.bad_message p first second ms t read) = absurd bad
fails_heeds own bad (step.bad_right p first second got t holds) = absurd bad
fails_heeds own bad (step.right_spent p first second got l holds some spent) = absurd bad
fails_heeds own bad f = absurd own

last_heeds : (p : Paging) (first second : Option Claim) (a : Answer) (next : Step) → IsLast first second → HoldsFirst first
    → Heeds (under p (newest_lease (record { first = first; second = second })) Release) a next
last_heeds p (Some l) None a next last own = tt
last_heeds p (Some l) (Some r) a next last own = absurd last
last_heeds p None second a next last own = absurd own

heeds : {p : Paging} {a : Answer} {next : Step} → HoldsNeeded p → IsRefusal a → Comes p a next → Heeds (paging_ask p) a next
heeds own bad (step.refused p first second a t e) = λ u f. err_is t u (sym e ∙ f)
heeds own bad (step.stops q t f) = fails_heeds own bad f
heeds own bad (step.turns q link on new) = onward_heeds _ own bad on
heeds own bad (step.puts_home q out on fresh is) = onward_heeds _ own bad on
heeds own bad (step.deletes q id c some) = clears_heeds _ own bad c
heeds own bad (step.rests q c none) = clears_heeds _ own bad c
heeds own bad (step.gives_back p l r a) = tt
heeds {p = from} own bad (step.ends p first second a last none) = last_heeds from first second a _ last own
heeds {p = from} own bad (step.stopped p first second a t last kept) = last_heeds from first second a _ last own
heeds own bad (step.nothing p first second a) = absurd own
heeds own bad c = absurd bad

failed_owes : (ask : Ask) (next : Step) → Matters ask → Heeds ask call.Failed next → NextOwes next trouble.Failed
failed_owes (Delete queue id) next matters h = absurd matters
failed_owes (Release l) next matters h = absurd matters
failed_owes (Take mine ticks) next matters h = h trouble.Failed refl
failed_owes ask next matters h = h

late_owes : (ask : Ask) (end now : ℕ) (next : Step) → Fits ask (call.Late end now) → Heeds ask (call.Late end now) next → NextOwes next (trouble.Late end now)
late_owes (Delete queue id) end now next fits h = absurd fits
late_owes (Release l) end now next fits h = absurd fits
late_owes (Take mine ticks) end now next fits h = absurd fits
late_owes ask end now next fits h = h

-- ---- pages

-- a leaf is kept, and what is wrong with a page is kept as a trouble
abbrev KeepsLeaf : Result Leaf Trouble → Step → Type 0
KeepsLeaf (Ok l) next = Unit {0}
KeepsLeaf (Err t) next = NextOwes next t

home_fails : {p q : Paging} {got : Option (List ℕ)} {t : Trouble} → p.stage ≡ GettingHome → Fails p (call.Got got) q t
    → (found : Result Leaf Trouble) × HoldsNamed p.tree p.page got found × KeepsLeaf found (stopping q t)
home_fails at (step.no_home p first second a t e) = absurd (cc (e))
home_fails at (step.bad_home p first second got t holds) = (Err t, holds, refl)
home_fails at (step.round link on seen) = absurd (subst Works at (onward_works on))
home_fails at (step.home_spent on spent) = absurd (subst Works at (onward_works on))
home_fails at f = absurd (cc (at))

home_got : {p : Paging} {got : Option (List ℕ)} {next : Step} → p.stage ≡ GettingHome → Comes p (call.Got got) next
    → (found : Result Leaf Trouble) × HoldsNamed p.tree p.page got found × KeepsLeaf found next
home_got at (step.reads_home p first second got home holds) = (Ok home, holds, tt)
home_got at (step.stops q t f) = home_fails at f
home_got at (step.turns q link on new) = absurd (subst Works at (onward_works on))
home_got at (step.puts_home q out on fresh is) = absurd (subst Works at (onward_works on))
home_got at (step.deletes q id c some) = absurd (subst Works at (clears_works c))
home_got at (step.rests q c none) = absurd (subst Works at (clears_works c))
home_got at c = absurd (cc (at))

home_owes : (p : Paging) (a : Answer) (next : Step) (got : Option (List ℕ)) (t : Trouble) → p.stage ≡ GettingHome → a ≡ call.Got got → Comes p a next
    → ((found : Result Leaf Trouble) → HoldsNamed p.tree p.page got found → found ≡ Err t) → NextOwes next t
home_owes p a next got t at e c wrong =
    let h = home_got at (subst (λ (x : Answer). Comes p x next) e c) in subst (λ (found : Result Leaf Trouble). KeepsLeaf found next) (wrong h.0 h.1) h.2

-- .. and that a leaf which lacks something has the greatest version
abbrev KeepsRight : Paging → Result Leaf Trouble → Step → Type 0
KeepsRight p (Ok l) next = has_items (lacked l p.page p.run.items) ≡ true → l.version ≡ greatest_number → NextOwes next (trouble.Exhausted counter.Version)
KeepsRight p (Err t) next = NextOwes next t

right_fails : {p q : Paging} {got : Option (List ℕ)} {t : Trouble} → p.stage ≡ GettingRight → Fails p (call.Got got) q t
    → (found : Result Leaf Trouble) × HoldsLinked p.tree p.at.page p.at.low got found × KeepsRight p found (stopping q t)
right_fails at (step.no_right p first second a t e) = absurd (cc (e))
right_fails at (step.bad_right p first second got t holds) = (Err t, holds, refl)
right_fails at (step.right_spent p first second got l holds some spent) = (Ok l, holds, λ has old. refl)
right_fails at (step.round link on seen) = absurd (subst Works at (onward_works on))
right_fails at (step.home_spent on spent) = absurd (subst Works at (onward_works on))
right_fails at f = absurd (cc (at))

right_got : {p : Paging} {got : Option (List ℕ)} {next : Step} → p.stage ≡ GettingRight → Comes p (call.Got got) next
    → (found : Result Leaf Trouble) × HoldsLinked p.tree p.at.page p.at.low got found × KeepsRight p found next
right_got at (step.puts_right p first second got l out holds some fresh is) = (Ok l, holds, λ has old. absurd (fresh old))
right_got at (step.leaves_right p first second got l holds none) = (Ok l, holds, λ has old. absurd (cc (none, has)))
right_got at (step.stops q t f) = right_fails at f
right_got at (step.turns q link on new) = absurd (subst Works at (onward_works on))
right_got at (step.puts_home q out on fresh is) = absurd (subst Works at (onward_works on))
right_got at (step.deletes q id c some) = absurd (subst Works at (clears_works c))
right_got at (step.rests q c none) = absurd (subst Works at (clears_works c))
right_got at c = absurd (cc (at))

right_owes : (p : Paging) (a : Answer) (next : Step) (got : Option (List ℕ)) (t : Trouble) → p.stage ≡ GettingRight → a ≡ call.Got got → Comes p a next
    → ((found : Result Leaf Trouble) → HoldsLinked p.tree p.at.page p.at.low got found → found ≡ Err t) → NextOwes next t
right_owes p a next got t at e c wrong =
    let h = right_got at (subst (λ (x : Answer). Comes p x next) e c) in subst (λ (found : Result Leaf Trouble). KeepsRight p found next) (wrong h.0 h.1) h.2

owes_same : (t u : Trouble) (next : Step) → t ≡ u → NextOwes next t → NextOwes next u
owes_same t u next e h = subst (NextOwes next) e h

absent_is : (page : ℕ) → page ≢ 1 → absent_leaf page ≡ Err (trouble.Absent page)
absent_is page other = on (page == 1) refl where
  on : (b : Bool) → (page == 1) ≡ b → ◌≡◌ {A = Result Leaf Trouble} (cond b (Ok empty_leaf) (Err (trouble.Absent page))) (Err (trouble.Absent page))
  on true is = absurd (other (eqb-true page 1 is))
  on false is = refl

fenced_wrong : (page : ℕ) (low : List ℕ) (plain found : Result Leaf Trouble) (t : Trouble) → plain ≡ Err t → found ≡ fenced page low plain → found ≡ Err t
fenced_wrong page low plain found t is e = e ∙ ap (fenced page low) is

absent_owes : (p : Paging) (a : Answer) (next : Step) (page : ℕ) → Reads p page → page ≢ 1 → a ≡ call.Got None → Comes p a next
    → NextOwes next (trouble.Absent page)
absent_owes p a next page (inl r) other e leads =
    home_owes p a next None (trouble.Absent page) r.0 e leads
    (λ found holds. holds ∙ (ap absent_leaf (sym r.1) ∙ absent_is page other))
absent_owes p a next page (inr r) other e leads =
    right_owes p a next None (trouble.Absent page) r.0 e leads
    (λ found holds. fenced_wrong p.at.page p.at.low holds.0 found (trouble.Absent page) (holds.1 ∙ (ap absent_leaf (sym r.1) ∙ absent_is page other)) holds.2)

inner_wrong : (tree page : ℕ) (bytes : List ℕ) (n : Inner) (found : Result Leaf Trouble) → IsInner bytes n → HoldsNamed tree page (Some bytes) found
    → found ≡ Err (trouble.NotALeaf page)
inner_wrong tree page bytes n found is (inl h) = h.2
inner_wrong tree page bytes n found is (inr h) = absurd (h.0 n is)

broken_home : (tree page : ℕ) (bytes : List ℕ) (found : Result Leaf Trouble) → IsNoLeaf bytes → ((n : Inner) → IsInner bytes n → ⊥)
    → HoldsNamed tree page (Some bytes) found → found ≡ Err (page_damage tree page (offset leaf bytes))
broken_home tree page bytes found none inner (inl h) = absurd (inner h.0 h.1)
broken_home tree page bytes found none inner (inr (x, inl h)) = absurd (none h.0 h.1)
broken_home tree page bytes found none inner (inr (x, inr h)) = h.1

broken_leaf : (tree page : ℕ) (bytes : List ℕ) (plain : Result Leaf Trouble) → IsNoLeaf bytes → HoldsLeaf tree page (Some bytes) plain
    → plain ≡ Err (page_damage tree page (offset leaf bytes))
broken_leaf tree page bytes plain none (inl h) = absurd (none h.0 h.1)
broken_leaf tree page bytes plain none (inr h) = h.1

damage_same : (tree page mine at first : ℕ) (where_it_is : Place) → page ≡ mine → where_it_is ≡ place.Object (object.Page tree page) → at ≡ first
    → page_damage tree mine first ≡ trouble.Damaged where_it_is at
damage_same tree page mine at first where_it_is same here there =
    ap (λ (x : ℕ). page_damage tree x first) (sym same) ∙ (ap (λ (x : Place). trouble.Damaged x first) (sym here) ∙ ap (trouble.Damaged where_it_is) (sym there))

page_owes : (p : Paging) (a : Answer) (next : Step) (page at : ℕ) (where_it_is : Place) (bytes : List ℕ) → Reads p page
    → where_it_is ≡ place.Object (object.Page p.tree page) → a ≡ call.Got (Some bytes) → IsNoLeaf bytes → at ≡ offset leaf bytes
    → (p.stage ≡ GettingHome → (n : Inner) → IsInner bytes n → ⊥) → Comes p a next → NextOwes next (trouble.Damaged where_it_is at)
page_owes p a next page at where_it_is bytes (inl r) here e none there inner leads =
    owes_same (page_damage p.tree p.page (offset leaf bytes)) (trouble.Damaged where_it_is at) next
    (damage_same p.tree page p.page at (offset leaf bytes) where_it_is r.1 here there)
    (home_owes p a next (Some bytes) (page_damage p.tree p.page (offset leaf bytes)) r.0 e leads
    (λ found holds. broken_home p.tree p.page bytes found none (inner r.0) holds))
page_owes p a next page at where_it_is bytes (inr r) here e none there inner leads =
    owes_same (page_damage p.tree p.at.page (offset leaf bytes)) (trouble.Damaged where_it_is at) next
    (damage_same p.tree page p.at.page at (offset leaf bytes) where_it_is r.1 here there)
    (right_owes p a next (Some bytes) (page_damage p.tree p.at.page (offset leaf bytes)) r.0 e leads
    (λ found holds. fenced_wrong p.at.page p.at.low holds.0 found (page_damage p.tree p.at.page (offset leaf bytes))
    (broken_leaf p.tree p.at.page bytes holds.0 none holds.1) holds.2))

-- what a get brought is one leaf
one_leaf : (tree page : ℕ) (got : Option (List ℕ)) (l : Leaf) (plain : Result Leaf Trouble) → HoldsLeaf tree page got (Ok l) → HoldsLeaf tree page got plain
    → plain ≡ Ok l
one_leaf tree page None l plain one other = other ∙ sym one
one_leaf tree page (Some bytes) l plain (inl one) (inl other) =
    other.2 ∙ (ap Ok (one_value leaf leaf_exact bytes other.0 one.0 other.1 one.1) ∙ sym one.2)
one_leaf tree page (Some bytes) l plain (inl one) (inr other) = absurd (other.0 one.0 one.1)
one_leaf tree page (Some bytes) l plain (inr one) other = absurd (cc (one.1))

-- .. also behind a link
fence_gives : (page : ℕ) (low : List ℕ) (l : Leaf) (b : Bool) (m : Leaf) → ◌≡◌ {A = Result Leaf Trouble} (Ok l) (cond b (Ok m) (Err (bad_fence page low m))) → b ≡ true
fence_gives page low l true m e = refl
fence_gives page low l false m e = absurd (cc (e))

linked_plain : (page : ℕ) (low : List ℕ) (l : Leaf) (plain : Result Leaf Trouble) → Ok l ≡ fenced page low plain → plain ≡ Ok l
linked_plain page low l (Ok m) e =
    sym (e ∙ ap (λ (b : Bool). cond b (Ok m) (Err (bad_fence page low m))) (fence_gives page low l (bytes_same low m.low) m e))
linked_plain page low l (Err t) e = absurd (cc (e))

one_linked : (tree page : ℕ) (low : List ℕ) (got : Option (List ℕ)) (l : Leaf) (found : Result Leaf Trouble) → HoldsLinked tree page low got (Ok l)
    → HoldsLinked tree page low got found → found ≡ Ok l
one_linked tree page low got l found one other =
    let plain : one.0 ≡ Ok l = linked_plain page low l one.0 one.2 in
    let same : other.0 ≡ Ok l = one_leaf tree page got l other.0 (subst (HoldsLeaf tree page got) plain one.1) other.1 in
    other.2 ∙ (ap (fenced page low) (same ∙ sym plain) ∙ sym one.2)

fence_wrong : (page : ℕ) (low found : List ℕ) (l : Leaf) → bytes_same low l.low ≡ false → fenced page low (Ok l) ≡ Err (bad_fence page low l)
fence_wrong page low found l is = ap (λ (b : Bool). cond b (Ok l) (Err (bad_fence page low l))) is

fence_same : (mine page : ℕ) (low expected : List ℕ) (l : Leaf) (found : List ℕ) → page ≡ mine → expected ≡ low → found ≡ l.low
    → bad_fence mine low l ≡ trouble.BadFence page expected found
fence_same mine page low expected l found one two three =
    ap (λ (x : ℕ). trouble.BadFence x low l.low) (sym one)
    ∙ (ap (λ (x : List ℕ). trouble.BadFence page x l.low) (sym two) ∙ ap (trouble.BadFence page expected) (sym three))

fence_owes : (p : Paging) (a : Answer) (next : Step) (page : ℕ) (expected found : List ℕ) (got : Option (List ℕ)) (l : Leaf) → p.stage ≡ GettingRight
    → page ≡ p.at.page → expected ≡ p.at.low → bytes_same expected found ≡ false → a ≡ call.Got got → HoldsLeaf p.tree page got (Ok l) → found ≡ l.low
    → Comes p a next → NextOwes next (trouble.BadFence page expected found)
fence_owes p a next page expected found got l at here low other e holds is leads =
    let mine : HoldsLeaf p.tree p.at.page got (Ok l) = subst (λ (x : ℕ). HoldsLeaf p.tree x got (Ok l)) here holds in
    let differ : bytes_same p.at.low l.low ≡ false = ap (bytes_same p.at.low) (sym is) ∙ (ap (λ (x : List ℕ). bytes_same x found) (sym low) ∙ other) in
    owes_same (bad_fence p.at.page p.at.low l) (trouble.BadFence page expected found) next (fence_same p.at.page page p.at.low expected l found here low is)
    (right_owes p a next got (bad_fence p.at.page p.at.low l) at e leads (λ some k. k.2 ∙ (ap (fenced p.at.page p.at.low) (one_leaf p.tree p.at.page got l k.0 mine k.1)
    ∙ fence_wrong p.at.page p.at.low found l differ)))

-- ---- messages

never_read : {p : Paging} {ms : List Message} {i : Intake} (m : Message) → items_of ms ≡ Err m → AreRead p ms (Ok i) → ⊥
never_read {p = p} {i = i} m bad read =
    wrong (subst (λ (found : Result (List PuItem) Message). TakesItems (own_queue p) read.cursor found (Ok i)) bad read.takes) where
      wrong : ◌≡◌ {A = Result Intake Trouble} (Ok i) (Err (message_damage (own_queue p) m)) → ⊥
      wrong e = absurd (cc (e))

onward_read : {p q : Paging} {ms : List Message} {o : Option Link} (m : Message) → p.stage ≡ Receiving → items_of ms ≡ Err m → Onward p (call.Received ms) q o → ⊥
onward_read m at bad (step.with_run p first second ms i read some) = never_read m bad read
onward_read m at bad (step.from_right p first second a) = absurd (cc (at))

clears_read : {p q : Paging} {ms : List Message} (m : Message) → p.stage ≡ Receiving → items_of ms ≡ Err m → Clears p (call.Received ms) q → ⊥
clears_read m at bad (step.no_run p first second ms i read none) = never_read m bad read
clears_read m at bad c = absurd (cc (at))

message_fails : {p q : Paging} {ms : List Message} {t : Trouble} (m : Message) → p.stage ≡ Receiving → items_of ms ≡ Err m → Fails p (call.Received ms) q t
    → Some t ≡ Some (message_damage (own_queue p) m)
message_fails m at bad (step.no_messages p first second a t e) = absurd (cc (e))
message_fails m at bad (step.bad_message p first second ms t read) =
    ap Some (err_is t (message_damage (own_queue p) m) (subst (λ (found : Result (List PuItem) Message). TakesItems (own_queue p) read.cursor found (Err t)) bad read.takes))
message_fails m at bad (step.round link on seen) = absurd (onward_read m at bad on)
message_fails m at bad (step.home_spent on spent) = absurd (onward_read m at bad on)
message_fails m at bad f = absurd (cc (at))

message_owes : {p : Paging} {ms : List Message} {next : Step} (m : Message) → p.stage ≡ Receiving → items_of ms ≡ Err m → Comes p (call.Received ms) next
    → NextOwes next (message_damage (own_queue p) m)
message_owes m at bad (step.stops q t f) = message_fails m at bad f
message_owes m at bad (step.turns q link on new) = absurd (onward_read m at bad on)
message_owes m at bad (step.puts_home q out on fresh is) = absurd (onward_read m at bad on)
message_owes m at bad (step.deletes q id c some) = absurd (clears_read m at bad c)
message_owes m at bad (step.rests q c none) = absurd (clears_read m at bad c)
message_owes m at bad c = absurd (cc (at))

-- ---- on to the next page

-- what stands in the way: the link leads to a page that was come to, or no link leads on from a page of the greatest version
abbrev Blocks : Paging → Option Link → Trouble → Type 0
Blocks p (Some link) (trouble.Loop page) = (page ≡ link.page) × (is_visited p link.page ≡ true)
Blocks p None (trouble.Exhausted what) = (what ≡ counter.Version) × (p.home.version ≡ greatest_number)
Blocks p o t = ⊥

is_round : (p : Paging) (link : Link) (t : Trouble) → Blocks p (Some link) t → (Some (trouble.Loop link.page) ≡ Some t) × (is_visited p link.page ≡ true)
is_round p link (trouble.Loop page) b = (ap (λ (x : ℕ). Some (trouble.Loop x)) (sym b.0), b.1)
is_round p link t b = absurd b

is_spent : (p : Paging) (t : Trouble) → Blocks p None t → (Some (trouble.Exhausted counter.Version) ≡ Some t) × (p.home.version ≡ greatest_number)
is_spent p (trouble.Exhausted what) b = (ap (λ (x : _). Some (trouble.Exhausted x)) (sym b.0), b.1)
is_spent p t b = absurd b

-- one link leads on
one_way : {p q : Paging} {a : Answer} {o : Option Link} (n : Paging) (other : Option Link) → n.run ≡ q.run → Onward p a q o → LeadsOn p a n other → other ≡ o
one_way n other kept (step.with_run p first second ms i read some) (inl k) =
    one_link p.home n.run.items other k.2 ∙ ap (λ (run : Taken). link_of p.home run.items) kept
one_way n other kept (step.with_run p first second ms i read some) (inr k) = absurd (cc (k.0))
one_way n other kept (step.from_right p first second a) (inl k) = absurd (cc (k.0))
one_way n other kept (step.from_right p first second a) (inr k) = k.1

-- no link leads on once deletions come
clears_leads : {p q : Paging} {a : Answer} (n : Paging) (o : Option Link) → n.run ≡ q.run → Clears p a q → LeadsOn p a n o → ⊥
clears_leads n o kept (step.no_run p first second ms i read none) (inl k) = absurd (cc (none, ap (λ (run : Taken). has_items run.items) (sym kept) ∙ k.1.1.3))
clears_leads n o kept (step.no_run p first second ms i read none) (inr k) = absurd (cc (k.0))
clears_leads n o kept c (inl k) = absurd (cc (k.0))
clears_leads n o kept c (inr k) = absurd (cc (k.0))

never_taken : {p : Paging} {ms : List Message} {t : Trouble} (items : List PuItem) → items_of ms ≡ Ok items → AreRead p ms (Err t) → ⊥
never_taken {p = p} {t = t} items good read =
    let taken = subst (λ (found : Result (List PuItem) Message). TakesItems (own_queue p) read.cursor found (Err t)) good read.takes in absurd (cc (taken.2))

way_fails : {p q : Paging} {a : Answer} {t : Trouble} (o : Option Link) (u : Trouble) → Blocks p o u → LeadsOn p a q o → Fails p a q t → Some t ≡ Some u
way_fails {p = p} {q = q} o u b leads (step.round link on seen) = (is_round p link u (subst (λ (x : Option Link). Blocks p x u) (one_way q o refl on leads) b)).0
way_fails {p = p} {q = q} o u b leads (step.home_spent on spent) = (is_spent p u (subst (λ (x : Option Link). Blocks p x u) (one_way q o refl on leads) b)).0
way_fails o u b (inl k) (step.no_messages p first second a t e) = absurd (cc (e, ap received_of k.1.1.1))
way_fails o u b (inl k) (step.bad_message p first second ms t read) =
    absurd (never_taken k.1.1.0 (subst (λ (xs : List Message). items_of xs ≡ Ok k.1.1.0) (same k.1.1.1) k.1.1.2) read) where
      same : call.Received ms ≡ call.Received k.1.0 → k.1.0 ≡ ms
      same e = cc (e)
way_fails o u b (inl k) f = absurd (cc (k.0))
way_fails o u b (inr k) f = absurd (cc (k.0))

way_owes : {p : Paging} {a : Answer} {next : Step} (o : Option Link) (t : Trouble) → Blocks p o t → LeadsOn p a (after_of next) o → Comes p a next → NextOwes next t
way_owes o t b leads (step.stops q u f) = way_fails o t b leads f
way_owes {p = p} o t b leads (step.turns q link on new) =
    let seen = (is_round p link t (subst (λ (x : Option Link). Blocks p x t) (one_way q o refl on leads) b)).1 in
    absurd (cc (sym seen ∙ onward_visited on link.page, new))
way_owes {p = p} o t b leads (step.puts_home q out on fresh is) =
    let old = (is_spent p t (subst (λ (x : Option Link). Blocks p x t) (one_way q o refl on leads) b)).1 in
    absurd (fresh (ap (λ (l : Leaf). l.version) (sym (onward_home on)) ∙ old))
way_owes o t b leads (step.deletes q id c some) = absurd (clears_leads q o refl c leads)
way_owes o t b leads (step.rests q c none) = absurd (clears_leads q o refl c leads)
way_owes o t b (inl k) c = absurd (cc (k.0))
way_owes o t b (inr k) c = absurd (cc (k.0))

spent_owes : (p : Paging) (got : Option (List ℕ)) (l : Leaf) (next : Step) → p.stage ≡ GettingRight → HoldsLinked p.tree p.at.page p.at.low got (Ok l)
    → has_items (lacked l p.page p.run.items) ≡ true → l.version ≡ greatest_number → Comes p (call.Got got) next → NextOwes next (trouble.Exhausted counter.Version)
spent_owes p got l next at holds has old c =
    let h = right_got at c in
    subst (λ (found : Result Leaf Trouble). KeepsRight p found next) (one_linked p.tree p.at.page p.at.low got l h.0 holds h.1) h.2 has old

-- ---- all

shown_owes : (p : Paging) (a : Answer) (next : Step) (t : Trouble) → HoldsNeeded p → Fits (paging_ask p) a → Comes p a next → t ≢ trouble.Memory
    → Shows p a (after_of next) t → NextOwes next t
shown_owes p a next trouble.Failed own fits c other k = failed_owes (paging_ask p) next k.1 (heeds own tt (subst (λ (x : Answer). Comes p x next) k.0 c))
shown_owes p a next (trouble.Late end now) own fits c other k =
    late_owes (paging_ask p) end now next (subst (Fits (paging_ask p)) k fits) (heeds own tt (subst (λ (x : Answer). Comes p x next) k c))
shown_owes p a next (trouble.Busy lk until) own fits c other k =
    subst (λ (ask : Ask). Heeds ask (call.Held until) next) k.0 (heeds own tt (subst (λ (x : Answer). Comes p x next) k.1 c)) (trouble.Busy lk until) refl
shown_owes p a next (trouble.Absent page) own fits c other k = absent_owes p a next page k.0 k.1 k.2 c
shown_owes p a next (trouble.NotALeaf page) own fits c other (same, stage, (bytes, (i, e, is))) =
    owes_same (trouble.NotALeaf p.page) (trouble.NotALeaf page) next (ap trouble.NotALeaf (sym same))
    (home_owes p a next (Some bytes) (trouble.NotALeaf p.page) stage e c (λ found holds. inner_wrong p.tree p.page bytes i found is holds))
shown_owes p a next (trouble.Damaged where_it_is at) own fits c other (inl (page, here, (reads, (bytes, e, none, there, inner)))) =
    page_owes p a next page at where_it_is bytes reads here e none there inner c
shown_owes p a next (trouble.Damaged where_it_is at) own fits c other (inr (stage, (ms, (m, e, read, here, there)))) =
    owes_same (message_damage (own_queue p) m) (trouble.Damaged where_it_is at) next
    (sym (ap (λ (x : Place). trouble.Damaged x at) here ∙ ap (trouble.Damaged (place.Message (own_queue p) m.id)) there))
    (message_owes m stage read (subst (λ (x : Answer). Comes p x next) e c))
shown_owes p a next (trouble.BadFence page expected found) own fits c other (stage, here, low, differ, (got, (l, e, holds, is))) =
    fence_owes p a next page expected found got l stage here low differ e holds is c
shown_owes p a next (trouble.Loop page) own fits c other (seen, (link, on, same)) =
    way_owes (Some link) (trouble.Loop page) (same, subst (λ (x : ℕ). is_visited p x ≡ true) same seen) on c
shown_owes p a next (trouble.Exhausted what) own fits c other (same, inl (on, old)) = way_owes None (trouble.Exhausted what) (same, old) on c
shown_owes p a next (trouble.Exhausted what) own fits c other (same, inr (at, (got, (l, e, holds, has, old)))) =
    owes_same (trouble.Exhausted counter.Version) (trouble.Exhausted what) next (ap trouble.Exhausted (sym same))
    (spent_owes p got l next at holds has old (subst (λ (x : Answer). Comes p x next) e c))
shown_owes p a next (trouble.Waiting have need) own fits c other k = absurd k
shown_owes p a next (trouble.Stale page least got) own fits c other k = absurd k
shown_owes p a next trouble.Memory own fits c other k = absurd (other refl)

-- a trouble that was kept stays until it is answered
fails_rests : {p q : Paging} {a : Answer} {t : Trouble} → p.stage ≡ Releasing → Fails p a q t → ⊥
fails_rests at (step.round link on seen) = subst Works at (onward_works on)
fails_rests at (step.home_spent on spent) = subst Works at (onward_works on)
fails_rests at f = absurd (cc (at))

kept_owes : {p : Paging} {a : Answer} {next : Step} (t : Trouble) → p.stage ≡ Releasing → p.trouble ≡ Some t → Comes p a next → NextOwes next t
kept_owes t at kept (step.gives_back p l r a) = kept
kept_owes t at kept (step.ends p first second a last none) = absurd (cc (none, kept))
kept_owes t at kept (step.stopped p first second a u last e) = some_is u t (sym e ∙ kept)
kept_owes t at kept (step.stops q u f) = absurd (fails_rests at f)
kept_owes t at kept (step.turns q link on new) = absurd (subst Works at (onward_works on))
kept_owes t at kept (step.puts_home q out on fresh is) = absurd (subst Works at (onward_works on))
kept_owes t at kept (step.deletes q id c some) = absurd (subst Works at (clears_works c))
kept_owes t at kept (step.rests q c none) = absurd (subst Works at (clears_works c))
kept_owes t at kept c = absurd (cc (at))

step_owes : (p : Paging) (h : List Deed) (a : Answer) (next : Step) (t : Trouble) → Stands p h → IsQuiet p → Fits (paging_ask p) a → PagingLeads p a next
    → t ≢ trouble.Memory → IsShown p a (after_of next) t → NextOwes next t
step_owes p h a next t s (inl stage) fits leads other (inl kept) = kept_owes t stage kept (comes p a next leads)
step_owes p h a next t s (inr none) fits leads other (inl kept) = absurd (cc (none, kept))
step_owes p h a next t s quiet fits leads other (inr shows) = shown_owes p a next t s.own fits (comes p a next leads) other shows

pub took_owes : (old new : Paging) (h : List Deed) (a : Answer) (turn : Turn CkptAnswer) (t : Trouble) → Stands old h → IsQuiet old → Fits (paging_ask old) a
    → Took PagingLeads KeepsLeases old a new turn → t ≢ trouble.Memory → IsShown old a new t → Owes new turn t
took_owes old new h a More t s quiet fits took other shown = step_owes old h a (Goes new) t s quiet fits took other shown
took_owes old new h a (Ended x) t s quiet fits took other shown = step_owes old h a (Ends new x) t s quiet fits took other shown
took_owes old new h a (Stopped u) t s quiet fits took other shown = λ memory. step_owes old h a (Stops new u) t s quiet fits (took.0 memory) other shown

-- Identifiers and names: what is read is spelled so, and each spelling is read.
use Rattle.std.proofs.Common.{◌≡◌, ℕ, ◌^◌, ◌<◌, Bool, true, false, ◌&&◌, cond, nat_le, List, [], ◌∷◌, Option, Some, None, refl, sym, ap, ◌∙◌, inl, inr, arith}
use Rattle.std.specs.Prelude.{codes, option_map}
use Rattle.std.specs.Fmt.{decimal}
use Rattle.std.specs.Str.{bytes_eq}
use Rattle.std.proofs.lemmas.Bool.{and_parts, leb-true, leb-false, le-leb}
use Rattle.std.proofs.lemmas.Option.{same_Some, cond_some}
use Rattle.db_base.specs.Ids.{IsClient, IsTree, IsPage}
use Rattle.db_base.specs.declared.names.Lock.{Lock}
use Rattle.db_base.specs.declared.names.Lock.TheVariants as lock
use Rattle.db_base.specs.declared.names.ObjName.{ObjName}
use Rattle.db_base.specs.declared.names.ObjName.TheVariants as object
use Rattle.db_base.specs.declared.names.QueueName.{QueueName}
use Rattle.db_base.specs.declared.names.QueueName.TheVariants.{Atomic, TreePu, PagePu}
use Rattle.db_base.specs.declared.names.Place.{Place}
use Rattle.db_base.specs.declared.names.Place.TheVariants.{Object, Message}
use Rattle.words.specs.Word.{number_of}
use Rattle.words.specs.Line.{parts_of, text_of, word_at, end_at, one_of, two_of}
use Rattle.words.proofs.Numerals.{number_of-takes, number_of-decimal}
use Rattle.words.proofs.Shapes.{bind_some, one_of-takes, one_of-again, two_of-takes, two_of-again, end_at-takes, end_at-again}
use Rattle.words.proofs.Splitting.{lacks, lacks-decimal, lacks-text_of, parts_of-text_of, text_of-parts_of}
use Rattle.reply_text.specs.Name.{lock_word, object_word, queue_word, place_word}
use Rattle.reply_reading.specs.Naming.{client_of, tree_of, page_of, client_alone, tree_alone, page_alone, page_of_tree, lock_by, lock_of, object_by, object_of, queue_at, pu_alone, queue_by, queue_of, place_behind, place_of}
use Rattle.reply_text.specs.Grammar.{IsPageNumber, IsLock, IsObject, IsQueue, IsPlace}
use Rattle.reply_reading.proofs.Steps.{behind, before, mapped, chosen, nothing, spelled, word_at-takes}
use Rattle.reply_reading.proofs.Visible.{visible, visible_number, visible-text_of}

-- ---- identifiers

pub small_client : (n : ℕ) → IsClient n → n < 2 ^ 64
small_client n h = omega (arith, h.most)

pub small_tree : (n : ℕ) → IsTree n → n < 2 ^ 64
small_tree n h = omega (arith, h.most)

pub client_of-takes : (n m : ℕ) → client_of n ≡ Some m → (n ≡ m) × IsClient m
unfolding client_of
client_of-takes n m e =
    let taken = cond_some (nat_le 1 n && nat_le n 64) n m e in
    let parts = and_parts (nat_le 1 n) (nat_le n 64) taken.0 in
    let is : IsClient n = record { some = leb-true _ _ parts.0; most = leb-true _ _ parts.1 } in
    (taken.1, rw taken.1 at is)

pub client_of-again : (n : ℕ) → IsClient n → client_of n ≡ Some n
unfolding client_of
client_of-again n h =
    let low : nat_le 1 n ≡ true = le-leb _ _ h.some in
    let high : nat_le n 64 ≡ true = le-leb _ _ h.most in
    rw (low, high) refl

tree_of-takes : (n m : ℕ) → tree_of n ≡ Some m → (n ≡ m) × IsTree m
unfolding tree_of
tree_of-takes n m e =
    let taken = cond_some (nat_le 1 n && nat_le n 16) n m e in
    let parts = and_parts (nat_le 1 n) (nat_le n 16) taken.0 in
    let is : IsTree n = record { some = leb-true _ _ parts.0; most = leb-true _ _ parts.1 } in
    (taken.1, rw taken.1 at is)

tree_of-again : (n : ℕ) → IsTree n → tree_of n ≡ Some n
unfolding tree_of
tree_of-again n h =
    let low : nat_le 1 n ≡ true = le-leb _ _ h.some in
    let high : nat_le n 16 ≡ true = le-leb _ _ h.most in
    rw (low, high) refl

pub page_of-takes : (n m : ℕ) → page_of n ≡ Some m → (n ≡ m) × IsPage m
unfolding page_of
page_of-takes n m e =
    let taken = cond_some (nat_le 1 n) n m e in
    let is : IsPage n = leb-true _ _ taken.0 in
    (taken.1, rw taken.1 at is)

pub page_of-again : (n : ℕ) → IsPage n → page_of n ≡ Some n
unfolding page_of
page_of-again n h =
    let low : nat_le 1 n ≡ true = le-leb _ _ h in
    rw low refl

client_alone-takes : (words : List (List ℕ)) (x : ℕ) → client_alone words ≡ Some x → IsClient x × (words ≡ decimal x ∷ [])
unfolding client_alone
client_alone-takes words x e =
    let a = bind_some (one_of words) _ x e in
    let one = one_of-takes words a.0 a.1 in
    let c = client_of-takes a.0 x a.2 in
    (c.1, one.1 ∙ ap (λ (n : ℕ). decimal n ∷ []) c.0)

client_alone-again : (n : ℕ) → IsClient n → client_alone (decimal n ∷ []) ≡ Some n
unfolding client_alone
client_alone-again n h = rw (one_of-again n (small_client n h)) (client_of-again n h)

pub tree_alone-takes : (words : List (List ℕ)) (x : ℕ) → tree_alone words ≡ Some x → IsTree x × (words ≡ decimal x ∷ [])
unfolding tree_alone
tree_alone-takes words x e =
    let a = bind_some (one_of words) _ x e in
    let one = one_of-takes words a.0 a.1 in
    let c = tree_of-takes a.0 x a.2 in
    (c.1, one.1 ∙ ap (λ (n : ℕ). decimal n ∷ []) c.0)

pub tree_alone-again : (n : ℕ) → IsTree n → tree_alone (decimal n ∷ []) ≡ Some n
unfolding tree_alone
tree_alone-again n h = rw (one_of-again n (small_tree n h)) (tree_of-again n h)

pub page_alone-takes : (words : List (List ℕ)) (x : ℕ) → page_alone words ≡ Some x → IsPageNumber x × (words ≡ decimal x ∷ [])
unfolding page_alone
page_alone-takes words x e =
    let a = bind_some (one_of words) _ x e in
    let one = one_of-takes words a.0 a.1 in
    let c = page_of-takes a.0 x a.2 in
    let small : a.0 < 2 ^ 64 = one.0 in
    ((c.1, rw c.0 at small), one.1 ∙ ap (λ (n : ℕ). decimal n ∷ []) c.0)

pub page_alone-again : (n : ℕ) → IsPageNumber n → page_alone (decimal n ∷ []) ≡ Some n
unfolding page_alone
page_alone-again n h = rw (one_of-again n h.1) (page_of-again n h.0)

page_of_tree-takes : (words : List (List ℕ)) (x : ℕ × ℕ) → page_of_tree words ≡ Some x → IsTree x.0 × IsPageNumber x.1 × (words ≡ decimal x.0 ∷ decimal x.1 ∷ [])
unfolding page_of_tree
page_of_tree-takes words x e =
    let a = bind_some (two_of words) _ x e in
    let b = bind_some (tree_of a.0.0) _ x a.2 in
    let d = bind_some (page_of a.0.1) _ x b.2 in
    let two = two_of-takes words a.0 a.1 in
    let tree = tree_of-takes a.0.0 b.0 b.1 in
    let page = page_of-takes a.0.1 d.0 d.1 in
    let small : a.0.1 < 2 ^ 64 = two.1 in
    let same : (b.0, d.0) ≡ x = same_Some (b.0, d.0) x d.2 in
    rw (← same) (tree.1, (page.1, rw page.0 at small), two.2 ∙ ap (λ (n : ℕ). decimal n ∷ decimal a.0.1 ∷ []) tree.0 ∙ ap (λ (n : ℕ). decimal b.0 ∷ decimal n ∷ []) page.0)

page_of_tree-again : (tree page : ℕ) → IsTree tree → IsPageNumber page → page_of_tree (decimal tree ∷ decimal page ∷ []) ≡ Some (tree, page)
unfolding page_of_tree
page_of_tree-again tree page t p = rw (two_of-again tree page (small_tree tree t) p.1, tree_of-again tree t, page_of-again page p.0) refl

-- ---- locks

abbrev pub lock_parts : Lock → List (List ℕ)
lock_parts (lock.Client client) = codes "client" ∷ decimal client ∷ []
lock_parts (lock.Tree tree) = codes "tree" ∷ decimal tree ∷ []
lock_parts (lock.Page tree page) = codes "page" ∷ decimal tree ∷ decimal page ∷ []

lock_parts-text : (l : Lock) → text_of 58 (lock_parts l) ≡ lock_word l
lock_parts-text (lock.Client client) = refl
lock_parts-text (lock.Tree tree) = refl
lock_parts-text (lock.Page tree page) = refl

lock_by-takes : (kind : List ℕ) (parts : List (List ℕ)) (l : Lock) → lock_by kind parts ≡ Some l → IsLock l × (kind ∷ parts ≡ lock_parts l)
unfolding lock_by
lock_by-takes kind parts l e =
    elim (chosen (bytes_eq kind (codes "client")) _ _ _ e) [
      | inl h ↦ client kind parts l (spelled kind _ h.0) h.1
      | inr e1 ↦ elim (chosen (bytes_eq kind (codes "tree")) _ _ _ e1.1) [
        | inl h ↦ tree kind parts l (spelled kind _ h.0) h.1
        | inr e2 ↦ elim (chosen (bytes_eq kind (codes "page")) _ _ _ e2.1) [
          | inl h ↦ page kind parts l (spelled kind _ h.0) h.1
          | inr e3 ↦ absurd (nothing l e3.1)
        ]
      ]
    ]
  where
    client : (kind : List ℕ) (parts : List (List ℕ)) (l : Lock) → kind ≡ codes "client" → option_map lock.Client (client_alone parts) ≡ Some l → IsLock l × (kind ∷ parts ≡ lock_parts l)
    client kind parts l k e =
        let m = mapped lock.Client (client_alone parts) l e in
        let x = client_alone-takes parts m.0 m.1 in
        rw (← m.2) (x.0, before parts k ∙ behind _ x.1)

    tree : (kind : List ℕ) (parts : List (List ℕ)) (l : Lock) → kind ≡ codes "tree" → option_map lock.Tree (tree_alone parts) ≡ Some l → IsLock l × (kind ∷ parts ≡ lock_parts l)
    tree kind parts l k e =
        let m = mapped lock.Tree (tree_alone parts) l e in
        let x = tree_alone-takes parts m.0 m.1 in
        rw (← m.2) (x.0, before parts k ∙ behind _ x.1)

    page : (kind : List ℕ) (parts : List (List ℕ)) (l : Lock) → kind ≡ codes "page" → option_map (λ x. lock.Page x.0 x.1) (page_of_tree parts) ≡ Some l → IsLock l × (kind ∷ parts ≡ lock_parts l)
    page kind parts l k e =
        let m = mapped (λ (x : ℕ × ℕ). lock.Page x.0 x.1) (page_of_tree parts) l e in
        let x = page_of_tree-takes parts m.0 m.1 in
        rw (← m.2) ((x.0, x.1), before parts k ∙ behind _ x.2)

-- a lock that is read is spelled so
pub lock_of-takes : (word : List ℕ) (l : Lock) → lock_of word ≡ Some l → IsLock l × (word ≡ lock_word l)
unfolding lock_of
lock_of-takes word l e =
    let k = bind_some (word_at (parts_of 58 word)) _ l e in
    let by = lock_by-takes k.0.0 k.0.1 l k.2 in
    (by.0, sym (text_of-parts_of 58 word) ∙ ap (text_of 58) (word_at-takes (parts_of 58 word) k.0 k.1 ∙ by.1) ∙ lock_parts-text l)

lock_of-parts : (word kind : List ℕ) (parts : List (List ℕ)) → parts_of 58 word ≡ kind ∷ parts → lock_of word ≡ lock_by kind parts
unfolding lock_of word_at
lock_of-parts word kind parts e = rw e refl

-- a number and a colon
colon_number : (n : ℕ) → n < 2 ^ 64 → lacks 58 (decimal n) ≡ true
colon_number n small = lacks-decimal 58 n small refl

-- the parts of a kind and a number
one_again : (kind : List ℕ) (n : ℕ) → lacks 58 kind ≡ true → n < 2 ^ 64 → parts_of 58 (text_of 58 (kind ∷ decimal n ∷ [])) ≡ kind ∷ decimal n ∷ []
one_again kind n k small = parts_of-text_of 58 kind (decimal n ∷ []) (rw (k, colon_number n small) refl)

-- the parts of a kind and two numbers
two_again : (kind : List ℕ) (m n : ℕ) → lacks 58 kind ≡ true → m < 2 ^ 64 → n < 2 ^ 64 → parts_of 58 (text_of 58 (kind ∷ decimal m ∷ decimal n ∷ [])) ≡ kind ∷ decimal m ∷ decimal n ∷ []
two_again kind m n k p q = parts_of-text_of 58 kind (decimal m ∷ decimal n ∷ []) (rw (k, colon_number m p, colon_number n q) refl)

-- each lock's spelling is read
pub lock_of-again : (l : Lock) → IsLock l → lock_of (lock_word l) ≡ Some l
unfolding lock_by
lock_of-again (lock.Client client) h = lock_of-parts _ _ _ (one_again (codes "client") client refl (small_client client h)) ∙ rw (client_alone-again client h) refl
lock_of-again (lock.Tree tree) h = lock_of-parts _ _ _ (one_again (codes "tree") tree refl (small_tree tree h)) ∙ rw (tree_alone-again tree h) refl
lock_of-again (lock.Page tree page) h = lock_of-parts _ _ _ (two_again (codes "page") tree page refl (small_tree tree h.0) h.1.1) ∙ rw (page_of_tree-again tree page h.0 h.1) refl

-- ---- objects

abbrev pub object_parts : ObjName → List (List ℕ)
object_parts (object.Head client) = codes "head" ∷ decimal client ∷ []
object_parts (object.Tree tree) = codes "tree" ∷ decimal tree ∷ []
object_parts (object.Page tree page) = codes "page" ∷ decimal tree ∷ decimal page ∷ []

object_parts-text : (name : ObjName) → text_of 58 (object_parts name) ≡ object_word name
object_parts-text (object.Head client) = refl
object_parts-text (object.Tree tree) = refl
object_parts-text (object.Page tree page) = refl

object_by-takes : (kind : List ℕ) (parts : List (List ℕ)) (name : ObjName) → object_by kind parts ≡ Some name → IsObject name × (kind ∷ parts ≡ object_parts name)
unfolding object_by
object_by-takes kind parts name e =
    elim (chosen (bytes_eq kind (codes "head")) _ _ _ e) [
      | inl h ↦ head kind parts name (spelled kind _ h.0) h.1
      | inr e1 ↦ elim (chosen (bytes_eq kind (codes "tree")) _ _ _ e1.1) [
        | inl h ↦ tree kind parts name (spelled kind _ h.0) h.1
        | inr e2 ↦ elim (chosen (bytes_eq kind (codes "page")) _ _ _ e2.1) [
          | inl h ↦ page kind parts name (spelled kind _ h.0) h.1
          | inr e3 ↦ absurd (nothing name e3.1)
        ]
      ]
    ]
  where
    head : (kind : List ℕ) (parts : List (List ℕ)) (name : ObjName) → kind ≡ codes "head" → option_map object.Head (client_alone parts) ≡ Some name → IsObject name × (kind ∷ parts ≡ object_parts name)
    head kind parts name k e =
        let m = mapped object.Head (client_alone parts) name e in
        let x = client_alone-takes parts m.0 m.1 in
        rw (← m.2) (x.0, before parts k ∙ behind _ x.1)

    tree : (kind : List ℕ) (parts : List (List ℕ)) (name : ObjName) → kind ≡ codes "tree" → option_map object.Tree (tree_alone parts) ≡ Some name → IsObject name × (kind ∷ parts ≡ object_parts name)
    tree kind parts name k e =
        let m = mapped object.Tree (tree_alone parts) name e in
        let x = tree_alone-takes parts m.0 m.1 in
        rw (← m.2) (x.0, before parts k ∙ behind _ x.1)

    page : (kind : List ℕ) (parts : List (List ℕ)) (name : ObjName) → kind ≡ codes "page" → option_map (λ x. object.Page x.0 x.1) (page_of_tree parts) ≡ Some name → IsObject name × (kind ∷ parts ≡ object_parts name)
    page kind parts name k e =
        let m = mapped (λ (x : ℕ × ℕ). object.Page x.0 x.1) (page_of_tree parts) name e in
        let x = page_of_tree-takes parts m.0 m.1 in
        rw (← m.2) ((x.0, x.1), before parts k ∙ behind _ x.2)

object_of-takes : (word : List ℕ) (name : ObjName) → object_of word ≡ Some name → IsObject name × (word ≡ object_word name)
unfolding object_of
object_of-takes word name e =
    let k = bind_some (word_at (parts_of 58 word)) _ name e in
    let by = object_by-takes k.0.0 k.0.1 name k.2 in
    (by.0, sym (text_of-parts_of 58 word) ∙ ap (text_of 58) (word_at-takes (parts_of 58 word) k.0 k.1 ∙ by.1) ∙ object_parts-text name)

object_of-parts : (word kind : List ℕ) (parts : List (List ℕ)) → parts_of 58 word ≡ kind ∷ parts → object_of word ≡ object_by kind parts
unfolding object_of word_at
object_of-parts word kind parts e = rw e refl

object_of-again : (name : ObjName) → IsObject name → object_of (object_word name) ≡ Some name
unfolding object_by
object_of-again (object.Head client) h = object_of-parts _ _ _ (one_again (codes "head") client refl (small_client client h)) ∙ rw (client_alone-again client h) refl
object_of-again (object.Tree tree) h = object_of-parts _ _ _ (one_again (codes "tree") tree refl (small_tree tree h)) ∙ rw (tree_alone-again tree h) refl
object_of-again (object.Page tree page) h = object_of-parts _ _ _ (two_again (codes "page") tree page refl (small_tree tree h.0) h.1.1) ∙ rw (page_of_tree-again tree page h.0 h.1) refl

-- ---- queues

abbrev pub queue_parts : QueueName → List (List ℕ)
queue_parts (Atomic client) = codes "atomic" ∷ decimal client ∷ []
queue_parts (TreePu tree) = codes "pu" ∷ decimal tree ∷ decimal 0 ∷ []
queue_parts (PagePu tree page) = codes "pu" ∷ decimal tree ∷ decimal page ∷ []

queue_parts-text : (queue : QueueName) → text_of 58 (queue_parts queue) ≡ queue_word queue
queue_parts-text (Atomic client) = refl
queue_parts-text (TreePu tree) = refl
queue_parts-text (PagePu tree page) = refl

-- the queue of a page's number, which is 0 for the tree's own
queue_at-is : (tree n : ℕ) → IsTree tree → n < 2 ^ 64 → IsQueue (queue_at tree (page_of n)) × (codes "pu" ∷ decimal tree ∷ decimal n ∷ [] ≡ queue_parts (queue_at tree (page_of n)))
unfolding page_of
queue_at-is tree n t small = on (nat_le 1 n) refl
  where
    on : (some : Bool) → nat_le 1 n ≡ some → IsQueue (queue_at tree (cond some (Some n) None)) × (codes "pu" ∷ decimal tree ∷ decimal n ∷ [] ≡ queue_parts (queue_at tree (cond some (Some n) None)))
    on true e = ((t, (leb-true _ _ e, small)), refl)
    on false e = let below : n < 1 = leb-false _ _ e in let zero : n ≡ 0 = omega arith in (t, ap (λ (k : ℕ). codes "pu" ∷ decimal tree ∷ decimal k ∷ []) zero)

pu_alone-takes : (words : List (List ℕ)) (queue : QueueName) → pu_alone words ≡ Some queue → IsQueue queue × (codes "pu" ∷ words ≡ queue_parts queue)
unfolding pu_alone
pu_alone-takes words queue e =
    let a = bind_some (two_of words) _ queue e in
    let b = bind_some (tree_of a.0.0) _ queue a.2 in
    let two = two_of-takes words a.0 a.1 in
    let tree = tree_of-takes a.0.0 b.0 b.1 in
    let is = queue_at-is b.0 a.0.1 tree.1 two.1 in
    let same : queue_at b.0 (page_of a.0.1) ≡ queue = same_Some (queue_at b.0 (page_of a.0.1)) queue b.2 in
    rw (← same) (is.0, behind _ two.2 ∙ ap (λ (n : ℕ). codes "pu" ∷ decimal n ∷ decimal a.0.1 ∷ []) tree.0 ∙ is.1)

queue_by-takes : (kind : List ℕ) (parts : List (List ℕ)) (queue : QueueName) → queue_by kind parts ≡ Some queue → IsQueue queue × (kind ∷ parts ≡ queue_parts queue)
unfolding queue_by
queue_by-takes kind parts queue e =
    elim (chosen (bytes_eq kind (codes "atomic")) _ _ _ e) [
      | inl h ↦ atomic kind parts queue (spelled kind _ h.0) h.1
      | inr e1 ↦ elim (chosen (bytes_eq kind (codes "pu")) _ _ _ e1.1) [
        | inl h ↦ let p = pu_alone-takes parts queue h.1 in (p.0, before parts (spelled kind _ h.0) ∙ p.1)
        | inr e2 ↦ absurd (nothing queue e2.1)
      ]
    ]
  where
    atomic : (kind : List ℕ) (parts : List (List ℕ)) (queue : QueueName) → kind ≡ codes "atomic" → option_map Atomic (client_alone parts) ≡ Some queue → IsQueue queue × (kind ∷ parts ≡ queue_parts queue)
    atomic kind parts queue k e =
        let m = mapped Atomic (client_alone parts) queue e in
        let x = client_alone-takes parts m.0 m.1 in
        rw (← m.2) (x.0, before parts k ∙ behind _ x.1)

queue_of-takes : (word : List ℕ) (queue : QueueName) → queue_of word ≡ Some queue → IsQueue queue × (word ≡ queue_word queue)
unfolding queue_of
queue_of-takes word queue e =
    let k = bind_some (word_at (parts_of 58 word)) _ queue e in
    let by = queue_by-takes k.0.0 k.0.1 queue k.2 in
    (by.0, sym (text_of-parts_of 58 word) ∙ ap (text_of 58) (word_at-takes (parts_of 58 word) k.0 k.1 ∙ by.1) ∙ queue_parts-text queue)

queue_of-parts : (word kind : List ℕ) (parts : List (List ℕ)) → parts_of 58 word ≡ kind ∷ parts → queue_of word ≡ queue_by kind parts
unfolding queue_of word_at
queue_of-parts word kind parts e = rw e refl

pu_alone-again : (tree n : ℕ) → IsTree tree → n < 2 ^ 64 → pu_alone (decimal tree ∷ decimal n ∷ []) ≡ Some (queue_at tree (page_of n))
unfolding pu_alone
pu_alone-again tree n t small = rw (two_of-again tree n (small_tree tree t) small, tree_of-again tree t) refl

page_of-zero : page_of 0 ≡ None
unfolding page_of
page_of-zero = refl

queue_of-again : (queue : QueueName) → IsQueue queue → queue_of (queue_word queue) ≡ Some queue
unfolding queue_by
queue_of-again (Atomic client) h = queue_of-parts _ _ _ (one_again (codes "atomic") client refl (small_client client h)) ∙ rw (client_alone-again client h) refl
queue_of-again (TreePu tree) h =
    let zero : 0 < 2 ^ 64 = omega arith in
    queue_of-parts _ _ _ (two_again (codes "pu") tree 0 refl (small_tree tree h) zero) ∙ pu_alone-again tree 0 h zero ∙ ap (λ (o : Option ℕ). Some (queue_at tree o)) page_of-zero
queue_of-again (PagePu tree page) h =
    queue_of-parts _ _ _ (two_again (codes "pu") tree page refl (small_tree tree h.0) h.1.1) ∙ pu_alone-again tree page h.0 h.1.1 ∙ ap (λ (o : Option ℕ). Some (queue_at tree o)) (page_of-again page h.1.0)

-- ---- places

place_behind-takes : (name : List ℕ) (left : List (List ℕ)) (p : Place) → place_behind name left ≡ Some p → IsPlace p × (text_of 35 (name ∷ left) ≡ place_word p)
unfolding place_behind
place_behind-takes name [] p e =
    let m = mapped Object (object_of name) p e in
    let x = object_of-takes name m.0 m.1 in
    rw (← m.2) (x.0, x.1)
place_behind-takes name (id ∷ left) p e =
    let a = bind_some (queue_of name) _ p e in
    let b = bind_some (number_of id) _ p a.2 in
    let z = bind_some (end_at left) _ p b.2 in
    let queue = queue_of-takes name a.0 a.1 in
    let number = number_of-takes id b.0 b.1 in
    let end = end_at-takes left z.0 z.1 in
    let same : Message a.0 b.0 ≡ p = same_Some (Message a.0 b.0) p z.2 in
    rw (← same) ((queue.0, number.0), ap (text_of 35) (before (id ∷ left) queue.1 ∙ behind _ (before left number.1 ∙ behind _ end)))

pub place_of-takes : (word : List ℕ) (p : Place) → place_of word ≡ Some p → IsPlace p × (word ≡ place_word p)
unfolding place_of
place_of-takes word p e =
    let k = bind_some (word_at (parts_of 35 word)) _ p e in
    let by = place_behind-takes k.0.0 k.0.1 p k.2 in
    (by.0, sym (text_of-parts_of 35 word) ∙ ap (text_of 35) (word_at-takes (parts_of 35 word) k.0 k.1) ∙ by.1)

place_of-parts : (word name : List ℕ) (left : List (List ℕ)) → parts_of 35 word ≡ name ∷ left → place_of word ≡ place_behind name left
unfolding place_of word_at
place_of-parts word name left e = rw e refl

-- a number has no number sign
sign_number : (n : ℕ) → n < 2 ^ 64 → lacks 35 (decimal n) ≡ true
sign_number n small = lacks-decimal 35 n small refl

object_lacks : (name : ObjName) → IsObject name → lacks 35 (object_word name) ≡ true
object_lacks (object.Head client) h = lacks-text_of 35 58 (codes "head" ∷ decimal client ∷ []) refl (rw (sign_number client (small_client client h)) refl)
object_lacks (object.Tree tree) h = lacks-text_of 35 58 (codes "tree" ∷ decimal tree ∷ []) refl (rw (sign_number tree (small_tree tree h)) refl)
object_lacks (object.Page tree page) h = lacks-text_of 35 58 (codes "page" ∷ decimal tree ∷ decimal page ∷ []) refl (rw (sign_number tree (small_tree tree h.0), sign_number page h.1.1) refl)

queue_lacks : (queue : QueueName) → IsQueue queue → lacks 35 (queue_word queue) ≡ true
queue_lacks (Atomic client) h = lacks-text_of 35 58 (codes "atomic" ∷ decimal client ∷ []) refl (rw (sign_number client (small_client client h)) refl)
queue_lacks (TreePu tree) h =
    let zero : 0 < 2 ^ 64 = omega arith in
    lacks-text_of 35 58 (codes "pu" ∷ decimal tree ∷ decimal 0 ∷ []) refl (rw (sign_number tree (small_tree tree h), sign_number 0 zero) refl)
queue_lacks (PagePu tree page) h = lacks-text_of 35 58 (codes "pu" ∷ decimal tree ∷ decimal page ∷ []) refl (rw (sign_number tree (small_tree tree h.0), sign_number page h.1.1) refl)

pub place_of-again : (p : Place) → IsPlace p → place_of (place_word p) ≡ Some p
unfolding place_behind
place_of-again (Object name) h =
    place_of-parts (object_word name) (object_word name) [] (parts_of-text_of 35 (object_word name) [] (rw (object_lacks name h) refl)) ∙ rw (object_of-again name h) refl
place_of-again (Message queue id) h =
    place_of-parts (text_of 35 (queue_word queue ∷ decimal id ∷ [])) (queue_word queue) (decimal id ∷ []) (parts_of-text_of 35 (queue_word queue) (decimal id ∷ []) (rw (queue_lacks queue h.0, sign_number id h.1) refl))
    ∙ rw (queue_of-again queue h.0, number_of-decimal id h.1, end_at-again) refl

-- ---- names hold no space and no line feed

pub visible_lock : (l : Lock) → IsLock l → visible (lock_word l) ≡ true
visible_lock (lock.Client client) h = visible-text_of 58 (codes "client" ∷ decimal client ∷ []) refl (rw (visible_number client (small_client client h)) refl)
visible_lock (lock.Tree tree) h = visible-text_of 58 (codes "tree" ∷ decimal tree ∷ []) refl (rw (visible_number tree (small_tree tree h)) refl)
visible_lock (lock.Page tree page) h = visible-text_of 58 (codes "page" ∷ decimal tree ∷ decimal page ∷ []) refl (rw (visible_number tree (small_tree tree h.0), visible_number page h.1.1) refl)

visible_object : (name : ObjName) → IsObject name → visible (object_word name) ≡ true
visible_object (object.Head client) h = visible-text_of 58 (codes "head" ∷ decimal client ∷ []) refl (rw (visible_number client (small_client client h)) refl)
visible_object (object.Tree tree) h = visible-text_of 58 (codes "tree" ∷ decimal tree ∷ []) refl (rw (visible_number tree (small_tree tree h)) refl)
visible_object (object.Page tree page) h = visible-text_of 58 (codes "page" ∷ decimal tree ∷ decimal page ∷ []) refl (rw (visible_number tree (small_tree tree h.0), visible_number page h.1.1) refl)

visible_queue : (queue : QueueName) → IsQueue queue → visible (queue_word queue) ≡ true
visible_queue (Atomic client) h = visible-text_of 58 (codes "atomic" ∷ decimal client ∷ []) refl (rw (visible_number client (small_client client h)) refl)
visible_queue (TreePu tree) h =
    let zero : 0 < 2 ^ 64 = omega arith in
    visible-text_of 58 (codes "pu" ∷ decimal tree ∷ decimal 0 ∷ []) refl (rw (visible_number tree (small_tree tree h), visible_number 0 zero) refl)
visible_queue (PagePu tree page) h = visible-text_of 58 (codes "pu" ∷ decimal tree ∷ decimal page ∷ []) refl (rw (visible_number tree (small_tree tree h.0), visible_number page h.1.1) refl)

pub visible_place : (p : Place) → IsPlace p → visible (place_word p) ≡ true
visible_place (Object name) h = visible_object name h
visible_place (Message queue id) h = visible-text_of 35 (queue_word queue ∷ decimal id ∷ []) refl (rw (visible_queue queue h.0, visible_number id h.1) refl)

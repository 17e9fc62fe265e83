-- What a way down comes to, whatever branches led there: it goes on over nodes that were got before, to a node that is to be got or to a leaf.
use Rattle.std.proofs.Common.{◌≡◌, ◌≢◌, ◌<◌, ◌≤◌, ℕ, zero, suc, Bool, true, false, cond, List, length, Option, Some, None, Result, Ok, Err, refl, sym, ap, ◌∙◌, arith}
use Rattle.std.specs.Prelude.{◌==◌, ◌&&◌, not}
use Rattle.std.proofs.lemmas.Bool.{eqb-true, eqb-false, eq-eqb, ne_eqb}
use Rattle.byte_format.specs.Order.{below_bound, bytes_below, bytes_same}
use Rattle.byte_format.specs.Whole.{offset}
use Rattle.db_base.specs.declared.trouble.Trouble.TheVariants as trouble
use Rattle.node_codec.specs.Inner.{Inner, inner_of, inner_format}
use Rattle.node_codec.specs.Node.{Entry, child_of, page_at}
use Rattle.run_cursor.specs.Covered.{is_seen}
use Rattle.tree_phases.specs.Read.{damaged, inner_or}
use Rattle.tree_phases.specs.declared.descent.Reach.{Reach}
use Rattle.tree_phases.specs.declared.descent.Reach.TheVariants.{Leaf}
use Rattle.tree_phases.specs.declared.fork.Fork.TheVariants.{Right, Down}
use Rattle.tree_phases.specs.Fork.{bad_fence, down_to, down_from, fork_at, forked_on}
use Rattle.tree_phases.specs.Descent.{forked, forked_by, fork_of, passed, go_on, stride_at, kept_at, stride, follow, walk, arrived, arrive, with_node, got_node, descent_got}
use Rattle.tree_ckpt.specs.Moves.{entry_or}
use Rattle.tree_ckpt.specs.Causes.{GoesRight}
use Rattle.tree_ckpt.specs.Way.{IsFresh, IsPromised}
use Rattle.tree_ckpt.proofs.Words.{Trouble, Next, Goes, Ends, Stops, KeptNode, Descent, Fork}
use Rattle.tree_ckpt.proofs.Fences.{HasSides}
use Rattle.tree_ckpt.proofs.Sound.{no_page, node_sound}
use Rattle.tree_ckpt.proofs.Passed.{unseen, unseen_most, unseen_less}

-- ---- a node

-- for a key: to the right of its high key, or down to the entry of the key
abbrev pub ForkLeads : List ℕ → Inner → Fork → Type 0
ForkLeads key n (Right low page) = GoesRight n.high (page_at n.right) low page × (bytes_below key low ≡ false)
ForkLeads key n (Down low page) = (below_bound key n.high ≡ true) × (entry_or (child_of key n.entries) ≡ (low, page))

-- a node is what the link to it promised, and leads on
pub record Leads (d : Descent) (n : Inner) (f : Fork) : Type 0 where
  pub promised : IsPromised d n
  pub upto : bytes_below d.chart.key n.low ≡ false
  pub forked : f ≡ forked_on d.chart.key n
  pub leads : ForkLeads d.chart.key n f

-- the bytes of a node
pub data Reads (d : Descent) (bytes : List ℕ) : Result Fork Trouble → Type 0 where
  no_node : inner_of bytes ≡ None → Reads d bytes (Err (damaged d.chart.tree d.page (offset inner_format bytes)))
  other_level : (n : Inner) → inner_of bytes ≡ Some n → n.level ≢ d.level → Reads d bytes (Err (damaged d.chart.tree d.page 10))
  other_low : (n : Inner) → inner_of bytes ≡ Some n → n.level ≡ d.level → bytes_same n.low d.low ≡ false → Reads d bytes (Err (bad_fence d.page d.low n.low))
  too_high : (n : Inner) → inner_of bytes ≡ Some n → IsPromised d n → bytes_below d.chart.key n.low ≡ true → Reads d bytes (Err (bad_fence d.page d.low n.low))
  leads : (n : Inner) (f : Fork) → inner_of bytes ≡ Some n → Leads d n f → Reads d bytes (Ok f)

-- ---- the way

-- at an inner node to which the way did not come before, which was got before and leads on
pub record Passes (d : Descent) (k : KeptNode) (f : Fork) : Type 0 where
  pub fresh : IsFresh d
  pub kept : kept_at d ≡ Some k
  pub forks : fork_of d k.bytes ≡ Ok f
  pub node : Inner
  pub reads : inner_of k.bytes ≡ Some node
  pub leads : Leads d node f

pub data Arrives : Descent → Next Descent (Unit {0}) → Type 0 where
  at_leaf : (d : Descent) → d.level ≡ 0 → Arrives d (Ends d tt)
  at_node : (d : Descent) → IsFresh d → kept_at d ≡ None → Arrives d (Goes d)
  round : (d : Descent) → d.level ≢ 0 → is_seen d.visited d.page ≡ true → Arrives d (Stops d (trouble.Loop d.page))
  breaks : (d : Descent) (k : KeptNode) (t : Trouble) → IsFresh d → kept_at d ≡ Some k → fork_of d k.bytes ≡ Err t → Reads d k.bytes (Err t)
      → Arrives d (Stops d t)
  further : {next : Next Descent (Unit {0})} (d : Descent) (k : KeptNode) (f : Fork) → Passes d k f → Arrives (passed d f) next → Arrives d next

-- behind the held get of a node
pub data Gets (d : Descent) : Result (Option (List ℕ)) Trouble → Next Descent (Unit {0}) → Type 0 where
  goes_on : {next : Next Descent (Unit {0})} (bytes : List ℕ) (n : Inner) (f : Fork) → inner_of bytes ≡ Some n → Leads d n f → Arrives (passed (with_node d bytes) f) next
      → Gets d (Ok (Some bytes)) next
  wrong : (bytes : List ℕ) (t : Trouble) → Reads d bytes (Err t) → Gets d (Ok (Some bytes)) (Stops d t)
  no_root : d.page ≡ 1 → Gets d (Ok None) (Stops d (damaged d.chart.tree d.page 0))
  absent : d.page ≢ 1 → Gets d (Ok None) (Stops d (trouble.Absent d.page))
  refused : (t : Trouble) → Gets d (Err t) (Stops d t)

-- ---- taken apart

down_leads : (key : List ℕ) (n : Inner) → below_bound key n.high ≡ true → (o : Option Entry) → child_of key n.entries ≡ o → ForkLeads key n (down_to o)
down_leads key n under (Some e) is = (under, ap entry_or is)
down_leads key n under None is = (under, ap entry_or is)

fork_leads : (key : List ℕ) (n : Inner) → HasSides n.right n.high → (high : Option (List ℕ)) → n.high ≡ high → (right : Option ℕ) → page_at n.right ≡ right
    → ForkLeads key n (fork_at key (down_from key n) high right)
fork_leads key n sides None h right r = down_leads key n (ap (below_bound key) h) (child_of key n.entries) refl
fork_leads key n sides (Some high) h None r = absurd (let none : None ≡ Some high = sym (sides (no_page n.right r)) ∙ h in cc (none))
fork_leads key n sides (Some high) h (Some right) r = on (bytes_below key high) refl where
  on : (b : Bool) → bytes_below key high ≡ b → ForkLeads key n (cond b (down_from key n) (Right high right))
  on true e = down_leads key n (ap (below_bound key) h ∙ e) (child_of key n.entries) refl
  on false e = ((h, r), e)

pub node_leads : (key bytes : List ℕ) (n : Inner) → inner_of bytes ≡ Some n → ForkLeads key n (forked_on key n)
node_leads key bytes n is = fork_leads key n (node_sound bytes n is).sides n.high refl (page_at n.right) refl

forks : (d : Descent) (bytes : List ℕ) (n : Inner) → inner_of bytes ≡ Some n → Reads d bytes (forked d n)
forks d bytes n is = on (n.level == d.level) refl where
  fenced : n.level ≡ d.level → (same : Bool) → bytes_same n.low d.low ≡ same → (below : Bool) → bytes_below d.chart.key n.low ≡ below
      → Reads d bytes (cond (same && not below) (Ok (forked_on d.chart.key n)) (Err (bad_fence d.page d.low n.low)))
  fenced level true same false upto =
      leads n (forked_on d.chart.key n) is (record { promised = (level, same); upto = upto; forked = refl; leads = node_leads d.chart.key bytes n is })
  fenced level true same true below = too_high n is (level, same) below
  fenced level false other below upto = other_low n is level other

  on : (b : Bool) → (n.level == d.level) ≡ b
      → Reads d bytes (cond b (cond (bytes_same n.low d.low && not (bytes_below d.chart.key n.low)) (Ok (forked_on d.chart.key n)) (Err (bad_fence d.page d.low n.low)))
      (Err (damaged d.chart.tree d.page 10)))
  on true e = fenced (eqb-true n.level d.level e) (bytes_same n.low d.low) refl (bytes_below d.chart.key n.low) refl
  on false e = other_level n is (eqb-false n.level d.level e)

pub reads : (d : Descent) (bytes : List ℕ) → Reads d bytes (fork_of d bytes)
reads d bytes = on (inner_of bytes) refl where
  on : (o : Option Inner) → inner_of bytes ≡ o → Reads d bytes (forked_by d (inner_or d.chart.tree d.page (offset inner_format bytes) o))
  on (Some n) e = forks d bytes n e
  on None e = no_node e

-- fewer of the nodes that were got are before the way behind each of them
abbrev ahead : Descent → ℕ
ahead d = unseen d.visited d.chart.nodes

fewer_ahead : (d : Descent) (k : KeptNode) (f : Fork) → Passes d k f → ahead (passed d f) < ahead d
fewer_ahead d k (Right low page) p = unseen_less d.visited d.page d.chart.nodes k p.kept p.fresh.1
fewer_ahead d k (Down low page) p = unseen_less d.visited d.page d.chart.nodes k p.kept p.fresh.1

follows : (d : Descent) (next : Descent → Next Descent Reach) → ((k : KeptNode) (f : Fork) → Passes d k f → Arrives (passed d f) (arrived (next (passed d f))))
    → Arrives d (arrived (follow next (stride d)))
follows d next each = on (d.level == 0) refl where
  over : (k : KeptNode) {r : Result Fork Trouble} → IsFresh d → kept_at d ≡ Some k → fork_of d k.bytes ≡ r → Reads d k.bytes r → Arrives d (arrived (follow next (go_on d r)))
  over k fresh at e (leads n f is on) =
      let p : Passes d k f = record { fresh = fresh; kept = at; forks = e; node = n; reads = is; leads = on } in further d k f p (each k f p)
  over k fresh at e c = breaks d k _ fresh at e c

  kept : IsFresh d → (o : Option KeptNode) → kept_at d ≡ o → Arrives d (arrived (follow next (stride_at d o)))
  kept fresh (Some k) at = over k fresh at refl (reads d k.bytes)
  kept fresh None at = at_node d fresh at

  inner : d.level ≢ 0 → (b : Bool) → is_seen d.visited d.page ≡ b → Arrives d (arrived (follow next (cond b (Stops d (trouble.Loop d.page)) (stride_at d (kept_at d)))))
  inner above true e = round d above e
  inner above false e = kept (above, e) (kept_at d) refl

  on : (b : Bool) → (d.level == 0) ≡ b → Arrives d (arrived (follow next (cond b (Ends d Leaf) (cond (is_seen d.visited d.page) (Stops d (trouble.Loop d.page)) (stride_at d (kept_at d))))))
  on true e = at_leaf d (eqb-true d.level 0 e)
  on false e = inner (eqb-false d.level 0 e) (is_seen d.visited d.page) refl

-- it never comes further than the nodes that were got reach
walks : (n : ℕ) (d : Descent) → ahead d ≤ n → Arrives d (arrived (walk n d))
unfolding walk
walks zero d most = follows d (λ (e : Descent). Stops e (trouble.Loop e.page)) (λ k f p. let fewer = fewer_ahead d k f p in absurd (omega (arith, fewer, most)))
walks (suc n) d most = follows d (walk n) (λ k f p. let fewer = fewer_ahead d k f p in walks n (passed d f) (omega (arith, fewer, most)))

pub arrives : (d : Descent) → Arrives d (arrive d)
arrives d = walks (length d.chart.nodes) d (unseen_most d.visited d.chart.nodes)

gets_node : (d : Descent) (bytes : List ℕ) {r : Result Fork Trouble} → Reads d bytes r → Gets d (Ok (Some bytes)) (got_node d bytes r)
gets_node d bytes (leads n f is on) = goes_on bytes n f is on (arrives (passed (with_node d bytes) f))
gets_node d bytes c = wrong bytes _ c

pub gets : (d : Descent) (g : Result (Option (List ℕ)) Trouble) → Gets d g (descent_got d g)
gets d (Ok (Some bytes)) = gets_node d bytes (reads d bytes)
gets d (Ok None) = on (d.page == 1) refl where
  on : (b : Bool) → (d.page == 1) ≡ b → Gets d (Ok None) (Stops d (cond b (damaged d.chart.tree d.page 0) (trouble.Absent d.page)))
  on true e = no_root (eqb-true d.page 1 e)
  on false e = absent (eqb-false d.page 1 e)
gets d (Err t) = refused t

-- ---- .. and back: where the bytes of a node lead, by what they come to

-- of a node: whether its level is the one, whether its low key is, and whether the key lies below it
abbrev fork_by : Descent → Inner → Bool → Bool → Bool → Result Fork Trouble
fork_by d n level same below =
    cond level (cond (same && not below) (Ok (forked_on d.chart.key n)) (Err (bad_fence d.page d.low n.low))) (Err (damaged d.chart.tree d.page 10))

-- where the bytes lead that spell a node, or none
spells : (d : Descent) (bytes : List ℕ) (o : Option Inner) → inner_of bytes ≡ o → fork_of d bytes ≡ forked_by d (inner_or d.chart.tree d.page (offset inner_format bytes) o)
spells d bytes o e = ap (λ (x : Option Inner). forked_by d (inner_or d.chart.tree d.page (offset inner_format bytes) x)) e

of_level : (d : Descent) (n : Inner) → n.level ≡ d.level → forked d n ≡ fork_by d n true (bytes_same n.low d.low) (bytes_below d.chart.key n.low)
of_level d n level = ap (λ (b : Bool). fork_by d n b (bytes_same n.low d.low) (bytes_below d.chart.key n.low)) (eq-eqb n.level d.level level)

promises : (d : Descent) (n : Inner) (below : Bool) → IsPromised d n → bytes_below d.chart.key n.low ≡ below → forked d n ≡ fork_by d n true true below
promises d n below is e =
    of_level d n is.0 ∙ (ap (λ (b : Bool). fork_by d n true b (bytes_below d.chart.key n.low)) is.1 ∙ ap (fork_by d n true true) e)

pub reads_fork : {d : Descent} {bytes : List ℕ} {r : Result Fork Trouble} → Reads d bytes r → fork_of d bytes ≡ r
reads_fork {d = d} {bytes = bytes} (no_node none) = spells d bytes None none
reads_fork {d = d} {bytes = bytes} (other_level n is other) =
    spells d bytes (Some n) is ∙ ap (λ (b : Bool). fork_by d n b (bytes_same n.low d.low) (bytes_below d.chart.key n.low)) (ne_eqb n.level d.level other)
reads_fork {d = d} {bytes = bytes} (other_low n is level other) =
    spells d bytes (Some n) is ∙ (of_level d n level ∙ ap (λ (b : Bool). fork_by d n true b (bytes_below d.chart.key n.low)) other)
reads_fork {d = d} {bytes = bytes} (too_high n is promised below) = spells d bytes (Some n) is ∙ promises d n true promised below
reads_fork {d = d} {bytes = bytes} (leads n f is on) = spells d bytes (Some n) is ∙ (promises d n false on.promised on.upto ∙ ap Ok (sym on.forked))

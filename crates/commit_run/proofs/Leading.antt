-- Where turns of a walk and of the writes lead a commit.
use Rattle.std.proofs.Common.{◌≡◌, ℕ, Bool, true, false, refl, ap, sym, subst, ◌∙◌}
use Rattle.db_base.specs.declared.trouble.Trouble.TheVariants as trouble
use Rattle.cloud_trait.specs.declared.turn.Turn.TheVariants.{Ended}
use Rattle.tree_walk.specs.Moves.{Moves}
use Rattle.tree_walk.specs.Walk.{KeepsServed}
use Rattle.commit_writes.specs.Writing.{with_head}
use Rattle.commit_writes.specs.Writing.{KeepsHome as KeepsWritten}
use Rattle.commit_run.specs.Run.{Keeps}
use Rattle.commit_run.proofs.Words.{CommitAnswer, Answer, Turn, More, Stopped, Next, LeadsBy, Took, Home, Cache, Walk, walk_next, Writing, writing_next, Writes, First, Change, Draft, Run, run_next, held, written, wrote, by_turn, walk_turned, Led, KeepsHome, home_of}

-- a turn of a walk, and then the commit's own work
pub by_turn_led : (on : Walk → Cache → Turn ℕ → Next (Run × Cache) CommitAnswer) (x : Next (Walk × Cache) ℕ) (w : Walk) (c : Cache) (turn : Turn ℕ) (n : Run × Cache) (result : Turn CommitAnswer)
    → Moves x (w, c) turn → (turn ≡ Stopped trouble.Memory → result ≡ Stopped trouble.Memory) → Led (on w c turn) n result → Led (by_turn on x) n result
by_turn_led on x w c More n result moves memory led = let P : Next (Walk × Cache) ℕ → Type 0 = λ y. Led (by_turn on y) n result in subst P (sym moves) led
by_turn_led on x w c (Ended page) n result moves memory led = let P : Next (Walk × Cache) ℕ → Type 0 = λ y. Led (by_turn on y) n result in subst P (sym moves) led
by_turn_led on x w c (Stopped trouble.Memory) n result moves memory led =
    let P : Turn CommitAnswer → Type 0 = λ r. Led (by_turn on x) n r in subst P (sym (memory refl)) (λ no. absurd (no refl))
by_turn_led on x w c (Stopped t) n result moves memory led =
    let P : Next (Walk × Cache) ℕ → Type 0 = λ y. Led (by_turn on y) n result in subst P (sym (moves (λ e. cc))) led

pub took_moves : (m : Walk × Cache) (a : Answer) (n : Walk × Cache) (turn : Turn ℕ) → Took (LeadsBy walk_next) KeepsServed m a n turn → Moves (walk_next m a) n turn
took_moves m a n More h = h
took_moves m a n (Ended page) h = h
took_moves m a n (Stopped t) h = h.0

-- ---- the home

-- a home that is as it was but for its head
pub keeps_head : (h n : Home) → n ≡ with_head h n.head → Keeps h n
keeps_head h n e = e ∙ ap (λ a. record h { head = n.head; attempt = a }) (sym (ap (λ (x : Home). x.attempt) e))

-- ---- steps

led_took : (m : Run × Cache) (a : Answer) (n : Run × Cache) (turn : Turn CommitAnswer) → Led (run_next m a) n turn → Keeps (home_of m.0) (home_of n.0)
    → Took (LeadsBy run_next) KeepsHome m a n turn
led_took m a n More led kept = led
led_took m a n (Ended x) led kept = led
led_took m a n (Stopped t) led kept = (led, λ memory. kept)

-- a step of the walk in hand is one of the commit, by the same answer
pub walk_leads : (first : Bool) (d : Draft) (from : Walk) (c : Cache) (a : Answer) (w : Walk) (e : Cache) (turn : Turn ℕ) (n : Run × Cache) (result : Turn CommitAnswer)
    → Took (LeadsBy walk_next) KeepsServed (from, c) a (w, e) turn
    → (turn ≡ Stopped trouble.Memory → result ≡ Stopped trouble.Memory) → Led (walk_turned first d w e turn) n result → Keeps d.writes.home (home_of n.0)
    → Took (LeadsBy run_next) KeepsHome (record { draft = d; hand = held first from }, c) a n result
walk_leads true d from c a w e turn n result took memory led kept =
    led_took (record { draft = d; hand = First from }, c) a n result
    (by_turn_led (walk_turned true d) (walk_next (from, c) a) w e turn n result (took_moves (from, c) a (w, e) turn took) memory led) kept
walk_leads false d from c a w e turn n result took memory led kept =
    led_took (record { draft = d; hand = Change from }, c) a n result
    (by_turn_led (walk_turned false d) (walk_next (from, c) a) w e turn n result (took_moves (from, c) a (w, e) turn took) memory led) kept

pub wrote_took : (d : Draft) (c : Cache) (a : Answer) (w : Writing) (turn : Turn CommitAnswer) → Took (LeadsBy writing_next) KeepsWritten d.writes a w turn
    → Took (LeadsBy run_next) KeepsHome (record { draft = d; hand = Writes }, c) a (written d w, c) turn
wrote_took d c a w More took = ap (wrote d c) took
wrote_took d c a w (Ended x) took = ap (wrote d c) took
wrote_took d c a w (Stopped t) took = (λ other. ap (wrote d c) (took.0 other), λ memory. keeps_head d.writes.home w.home (took.1 memory))

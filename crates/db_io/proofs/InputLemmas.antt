-- The reading of a whole input, read by read.
use Rattle.std.proofs.Common.{◌≡◌, ℕ, ◌+◌, ◌-◌, ◌<◌, ◌≤◌, List, [], ◌∷◌, ◌++◌, length, Ok, Err, refl, sym, ap, ◌∙◌, append_assoc, length-append, append-nil, arith}
use Rattle.db_io.specs.Content.{Told, Takes, Gives, Counts}
use Rattle.db_io.specs.declared.fault.IoFault.{IoFault}
use Rattle.db_io.specs.declared.fault.IoFault.TheVariants as io
use Rattle.db_io.specs.Input.{WasRead, input_fault}
use Rattle.db_io.specs.declared.input.InputFault.TheVariants.{ReadFault, TooLong, Memory}

-- an input of at most so many bytes is being read: these bytes came from the source, and no read failed
pub record IsReading (limit : ℕ) (before after : Told) (bytes : List ℕ) : Type 0 where
  pub taken : Takes before after bytes
  pub faults : after.faults ≡ before.faults
  pub most : length bytes ≤ limit + 1

-- at first nothing is read
pub begins : (limit : ℕ) (source : Told) → IsReading limit source source []
begins limit source = record { taken = λ all e. (all, e, refl); faults = refl; most = omega arith }

-- bytes that were taken one after the other are taken together
takes_both : (a b c : Told) (one two : List ℕ) → Takes a b one → Takes b c two → Takes a c (one ++ two)
takes_both a b c one two first second = λ all e.
    let f = first all e in
    let s = second f.0 f.1 in
    (s.0, s.1, f.2 ∙ ap (λ (l : List ℕ). one ++ l) s.2 ∙ sym (append_assoc one two s.0))

-- bytes were taken, and then the content stayed
takes_still : (a b c : Told) (bytes : List ℕ) → Takes a b bytes → c.content ≡ b.content → Takes a c bytes
takes_still a b c bytes taken same = λ all e. let t = taken all e in (t.0, same ∙ t.1, t.2)

-- a read goes on
pub goes_on : (limit : ℕ) (a b c : Told) (count : ℕ) (bytes more : List ℕ) → IsReading limit a b bytes
    → Gives bytes more b c (limit + 1 - length bytes) count → c.faults ≡ b.faults → IsReading limit a c more
goes_on limit a b c count bytes more reading gives same = record {
  taken = rw gives.appended (takes_both a b c bytes gives.bytes reading.taken gives.taken);
  faults = same ∙ reading.faults;
  most = rw gives.appended (omega (arith, length-append bytes gives.bytes, gives.counted, gives.within, reading.most));
}

-- a list of no length is empty
is_empty : (xs : List ℕ) → length xs ≡ 0 → xs ≡ []
is_empty [] e = refl
is_empty (x ∷ xs) e = cc

-- a read of nothing ends the input
pub ends : (limit : ℕ) (a b c : Told) (bytes more : List ℕ) → IsReading limit a b bytes → length bytes ≤ limit
    → Gives bytes more b c (limit + 1 - length bytes) 0 → c.faults ≡ b.faults → WasRead limit a c (Ok more)
ends limit a b c bytes more reading short gives same =
    let none : gives.bytes ≡ [] = is_empty gives.bytes (sym gives.counted) in
    let is : more ≡ bytes = gives.appended ∙ ap (λ (l : List ℕ). bytes ++ l) none ∙ append-nil bytes in
    record {
      bytes = more;
      taken = (goes_on limit a b c 0 bytes more reading gives same).taken;
      tells = (
        refl,
        rw is short,
        λ all e.
            let f = reading.taken all e in
            f.2 ∙ ap (λ (l : List ℕ). bytes ++ l) (gives.end refl (omega arith) f.0 f.1) ∙ append-nil bytes ∙ sym is,
        same ∙ reading.faults,
      );
    }

-- so does a read that failed
pub fails : (limit : ℕ) (a b c : Told) (bytes : List ℕ) → IsReading limit a b bytes → length bytes ≤ limit
    → c.content ≡ b.content → b.faults < c.faults → WasRead limit a c (Err ReadFault)
fails limit a b c bytes reading short same rose = record {
  bytes = bytes;
  taken = takes_still a b c bytes reading.taken same;
  tells = (short, rw (← reading.faults) rose);
}

-- and want of memory
pub wants : (limit : ℕ) (a b c : Told) (bytes : List ℕ) → IsReading limit a b bytes → length bytes ≤ limit
    → c.content ≡ b.content → c.faults ≡ b.faults → WasRead limit a c (Err Memory)
wants limit a b c bytes reading short same faults = record {
  bytes = bytes;
  taken = takes_still a b c bytes reading.taken same;
  tells = (short, faults ∙ reading.faults);
}

-- each fault of a read ends the input by its own
pub stops : (limit : ℕ) (a b c : Told) (bytes : List ℕ) (fault : IoFault) → IsReading limit a b bytes → length bytes ≤ limit
    → c.content ≡ b.content → Counts {A = ℕ} (Err fault) b.faults c.faults → WasRead limit a c (Err (input_fault fault))
stops limit a b c bytes io.Failed reading short same counts = fails limit a b c bytes reading short same counts
stops limit a b c bytes io.Memory reading short same counts = wants limit a b c bytes reading short same counts

-- and too many bytes end it
pub is_too_long : (limit : ℕ) (a b : Told) (bytes : List ℕ) → IsReading limit a b bytes → limit < length bytes → WasRead limit a b (Err TooLong)
is_too_long limit a b bytes reading long = record { bytes = bytes; taken = reading.taken; tells = (long, reading.faults) }

use Rattle.std.proofs.Common.{rules, ◌≡◌, List, ℕ, None, sym, subst, ◌∙◌}
use Rattle.std.specs.Option.{option_copied}
use Rattle.db_base.specs.Entry.{IsEntry}
use Rattle.attr_index.proofs.Prefixes.{key_of_entry, key_of_none}
use Rattle.attr_index.proofs.prefix.record_key.Goals as goal

pub returns-in_err-of-clause-key : goal.returns-in_err-of-clause-key
returns-in_err-of-clause-key c =
    let none : option_copied c.from_residual.result ≡ None = search rules in
    none ∙ sym (key_of_none c.args.bytes.now c.args.attr.now c.as_slice-attr.ensures.is_attr (λ key entry. c.in_err-of.ensures.parts c.args.attr.now key entry))

pub returns-then-eq-clause-key : goal.returns-then-eq-clause-key
returns-then-eq-clause-key c =
    let same : c.in_ok-of.of.now ≡ c.args.attr.now = search rules in
    sym (key_of_entry c.args.bytes.now c.args.attr.now c.in_ok-of.key.now (subst (λ (a : List ℕ). IsEntry c.args.bytes.now a c.in_ok-of.key.now) same c.in_ok-of.ensures.entry))

pub returns-else-eq-clause-key : goal.returns-else-eq-clause-key
returns-else-eq-clause-key c =
    let other : c.in_ok-of.of.now ≡ c.args.attr.now → ⊥ = search rules in
    sym (key_of_none c.args.bytes.now c.args.attr.now c.as_slice-attr.ensures.is_attr (λ key entry. other (c.in_ok-of.ensures.parts c.args.attr.now key entry).0))

use Rattle.std.proofs.Common.{◌∙◌, inl, inr, sym, ap, arith, Some}
use Rattle.clone_outside.specs.declared.mark.Mark.TheVariants.{InProgress}
use Rattle.clone_outside.proofs.MarkLemmas.{begun_named, number_back}
use Rattle.clone_outside.proofs.mark.Mark.begun_in.Goals as goal

pub returns-then-number_at-eq0 : goal.returns-then-number_at-eq0
returns-then-number_at-eq0 c = λ mark is spelled kind.
    elim (begun_named mark c.args.bytes.now is spelled kind) [
      | inl e ↦ ap (λ s. Some (InProgress s)) (number_back c.args.bytes.now _ e.0 _ e.1 e.3 c.number_at-session.ensures) ∙ ap (λ m. Some m) (sym e.4)
      | inr e ↦ absurd (let lsn = number_back c.args.bytes.now _ e.0.lsn _ (let low = e.0.within in omega (arith, low)) e.3 c.number_at.ensures in let zero = c.if-number_at-eq0.true in omega (arith, lsn, e.2, zero))
    ]

pub returns-in_err-end : goal.returns-in_err-end
returns-in_err-end c = λ mark is spelled kind.
    elim (begun_named mark c.args.bytes.now is spelled kind) [
      | inl e ↦ absurd (let lsn = number_back c.args.bytes.now _ 0 _ (omega arith) e.2 c.number_at.ensures in let other = c.if-number_at-eq0.false in omega (arith, lsn, other))
      | inr e ↦ absurd (let f = sym c.in_err-end.was ∙ c.named_in.ensures 1 e.0 e.1 e.4 in cc)
    ]

pub returns : goal.returns
returns c = λ mark is spelled kind.
    elim (begun_named mark c.args.bytes.now is spelled kind) [
      | inl e ↦ absurd (let lsn = number_back c.args.bytes.now _ 0 _ (omega arith) e.2 c.number_at.ensures in let other = c.if-number_at-eq0.false in omega (arith, lsn, other))
      | inr e ↦ let f = sym c.in_ok-end.was ∙ c.named_in.ensures 1 e.0 e.1 e.4 in cc (e.5)
    ]

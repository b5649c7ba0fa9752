use Rattle.std.proofs.Common.{◌≡◌, arith, sym, ap, ◌∙◌, inl, inr}
use Rattle.std.proofs.lemmas.Bool.{cases_lt}
use Rattle.clone_page.specs.Dictionary.{entry_space}
use Rattle.clone_recover.proofs.dictionary.names.Goals as goal

pub loop-entry_number-preserved : goal.loop-entry_number-preserved
loop-entry_number-preserved c = λ k lt named. elim (cases_lt k c.loop-entry_number.entry_number) [
  | inl before ↦ c.loop-entry_number.invariant k before named
  | inr now ↦
      let e : k ≡ c.loop-entry_number.entry_number = omega (arith, lt, now) in
      c.if-table_at-table.false (c.table_at.ensures ∙ ap (λ n. entry_space n c.args.system.now) (sym e) ∙ named)
]

pub returns-clause-no : goal.returns-clause-no
returns-clause-no c = λ _ lists. c.loop-entry_number.invariant lists.entry_number (omega (arith, lists.within)) lists.named

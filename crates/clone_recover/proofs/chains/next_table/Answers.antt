use Rattle.std.proofs.Common.{◌≡◌, ◌+◌, ◌∙◌, ℕ, Some, arith, ap, sym, subst}
use Rattle.std.specs.Prelude.{min}
use Rattle.clone_page.specs.Dictionary.{entry_count}
use Rattle.clone_space.specs.declared.entry.TableEntry.{TableEntry}
use Rattle.clone_recover.proofs.TableLemmas.{IsNextBelow, next_more, next_same, next_all}
use Rattle.clone_recover.proofs.chains.next_table.Goals as goal
use Rattle.clone_recover.proofs.chains.next_table.Goals.{then-table-above, else-table-above}

pub loop-entry_number-preserved : goal.loop-entry_number-preserved
loop-entry_number-preserved c =
    let table : ℕ = c.entry_at-table.result.table in
    let is = ap (λ (e : TableEntry). e.table) c.entry_at-table.ensures in
    elim c.if-table-above.branch [
      | then-table-above w ↦
          subst (IsNextBelow c.args.system.now c.args.above (c.loop-entry_number.entry_number + 1)) (sym (w.next-is ∙ ap Some (w.min.ensures ∙ ap (λ (k : ℕ). min k table) w.unwrap_or.ensures)))
          (next_more c.args.system.now c.args.above c.loop-entry_number.entry_number table c.loop-entry_number.next is w.if-table-above.true c.loop-entry_number.invariant)
      | else-table-above w ↦
          subst (IsNextBelow c.args.system.now c.args.above (c.loop-entry_number.entry_number + 1)) (sym w.next-is) (next_same c.args.system.now c.args.above c.loop-entry_number.entry_number table c.loop-entry_number.next is w.if-table-above.false c.loop-entry_number.invariant)
    ]

pub returns : goal.returns
returns c =
    let all : c.loop-entry_number.entry_number ≡ entry_count = omega arith in
    next_all c.args.system.now c.args.above c.loop-entry_number.entry_number c.loop-entry_number.next all c.loop-entry_number.invariant

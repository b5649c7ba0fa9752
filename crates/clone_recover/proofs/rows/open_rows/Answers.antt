use Rattle.std.proofs.Common.{◌≡◌, ◌∙◌, ap, sym, subst, Some, Err}
use Rattle.std.specs.declared.option.Option.{Option}
use Rattle.std.specs.declared.result.Result.{Result}
use Rattle.clone_outside.specs.Disk.{ForTold}
use Rattle.clone_outside.specs.declared.mark.Mark.{Mark}
use Rattle.clone_outside.proofs.DiskCallLemmas.{weaker}
use Rattle.clone_recover.specs.Restores.{IsMarkOf}
use Rattle.clone_recover.specs.declared.refusal.RecoverRefusal.{RecoverRefusal}
use Rattle.clone_recover.specs.declared.refusal.RecoverRefusal.TheVariants.{Incomplete, DiskFault}
use Rattle.clone_recover.proofs.RowListLemmas.{lists_rows, unrecovered}
use Rattle.clone_recover.proofs.rows.open_rows.Goals as goal

no_fault : {T : Type 0} → ◌≡◌ {A = Result T RecoverRefusal} (Err Incomplete) (Err DiskFault) → ⊥
no_fault is = absurd (let e = is in cc)

pub returns-in_default-mark : goal.returns-in_default-mark
returns-in_default-mark g c = record {
  rows = tt;
  ascending = tt;
  cause = unrecovered (g.R.PageDisk.state c.args.disk.now).told c.in_ok-mark.field-0 (λ end is. c.in_default-mark.not-Recovered end (let e = sym c.in-Some.is ∙ is in cc)) c.in_ok-mark.ensures.mark;
  reads = weaker c.in_ok-mark.ensures.reads (λ is. absurd (no_fault is));
}

pub returns-clause-rows : goal.returns-clause-rows
returns-clause-rows g c =
    let told = (g.R.PageDisk.state c.args.disk.now).told in
    lists_rows told (g.R.PageDisk.state c.mark_of.new.disk).told c.in-Recovered.field-0 c.new-tables.result c.add_tables.new.tables c.in_ok-rows.field-0.items c.in_ok-mark.ensures.reads.told
    (subst (λ (o : Option Mark). ForTold told (λ m. IsMarkOf m o)) (c.in-Some.is ∙ ap Some c.in-Recovered.is) c.in_ok-mark.ensures.mark) c.in_ok-add_tables.ensures.added c.new-tables.ensures c.in_ok-rows.ensures

pub returns-clause-ascending : goal.returns-clause-ascending
returns-clause-ascending g c = (c.add_tables.new.tables, c.in_ok-rows.ensures)

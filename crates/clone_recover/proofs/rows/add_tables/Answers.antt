use Rattle.std.proofs.Common.{◌≡◌, ◌<◌, ◌≤◌, ◌+◌, ◌⊎◌, ℕ, refl, sym, subst, arith, inl, inr}
use Rattle.std.specs.Prelude.{unwrap_or}
use Rattle.clone_model.specs.History.{Rows}
use Rattle.clone_page.specs.Dictionary.{entry_count}
use Rattle.clone_overlay.specs.Images.{redo_space}
use Rattle.clone_outside.specs.DiskCalls.{Reads}
use Rattle.clone_outside.proofs.DiskCallLemmas.{reads_then}
use Rattle.clone_recover.proofs.RowListLemmas.{AddsEntries, entries_go_on, entries_pass, entries_end, none_listed}
use Rattle.clone_recover.proofs.rows.add_tables.Goals as goal
use Rattle.clone_recover.proofs.rows.add_tables.Goals.{then-table-ne0+then-table-lt-REDO_SPACE+in_ok-add_table, else-table-ne0, else-table-ne0-via-then-table-ne0+else-table-lt-REDO_SPACE, else-table-ne0-via-else-table-ne0}

pub returns-then-unwrap_or-eq0-clause-added : goal.returns-then-unwrap_or-eq0-clause-added
returns-then-unwrap_or-eq0-clause-added g c =
    let none : unwrap_or c.in_ok-pages.field-0 0 ≡ 0 = omega (arith, c.unwrap_or.ensures, c.if-unwrap_or-eq0.true) in
    none_listed (g.R.PageDisk.state c.args.disk.now).told c.in_ok-pages.field-0 c.args.tables.now none c.in_ok-pages.ensures.count

pub loop-entry_number-preserved : goal.loop-entry_number-preserved
loop-entry_number-preserved g c =
    let first = (g.R.PageDisk.state c.args.disk.now).told in
    let system = c.read_page.new.into in
    let entry_number : ℕ = c.loop-entry_number.entry_number in
    let table : ℕ = c.table_at-table.result in
    let rows : Rows = c.args.tables.now in
    elim c.if-table-ne0.branch [
      | then-table-ne0+then-table-lt-REDO_SPACE+in_ok-add_table w ↦
          record {
            added = subst (λ (t : Rows). AddsEntries first (entry_number + 1) system rows t) (sym w.tables-is)
                (entries_go_on first (g.R.PageDisk.state c.loop-entry_number.disk).told entry_number table system rows c.loop-entry_number.tables w.add_table.new.tables c.loop-entry_number.invariant.reads.told c.table_at-table.ensures w.if-table-ne0.true w.in_ok-add_table.ensures.added c.loop-entry_number.invariant.added);
            reads = subst (λ d. Reads ⊥ (g.R.PageDisk.state c.args.disk.now) (g.R.PageDisk.state d)) (sym w.disk-is) (reads_then c.loop-entry_number.invariant.reads w.in_ok-add_table.ensures.reads);
          }
      | else-table-ne0 w ↦
          let none : (table ≡ 0) ⊎ (redo_space ≤ table) = elim w.else-table-ne0.branch [
            | else-table-ne0-via-then-table-ne0+else-table-lt-REDO_SPACE v ↦ inr (omega (arith, v.if-table-lt-REDO_SPACE.false))
            | else-table-ne0-via-else-table-ne0 v ↦ inl (omega (arith, v.if-table-ne0.false))
          ] in
          record {
            added = subst (λ (t : Rows). AddsEntries first (entry_number + 1) system rows t) (sym w.tables-is) (entries_pass first entry_number table system rows c.loop-entry_number.tables c.table_at-table.ensures none c.loop-entry_number.invariant.added);
            reads = subst (λ d. Reads ⊥ (g.R.PageDisk.state c.args.disk.now) (g.R.PageDisk.state d)) (sym w.disk-is) c.loop-entry_number.invariant.reads;
          }
    ]

pub returns-clause-added : goal.returns-clause-added
returns-clause-added g c =
    let first = (g.R.PageDisk.state c.args.disk.now).told in
    let all : c.loop-entry_number.entry_number ≡ entry_count = omega (arith, c.loop-entry_number-test.false, c.loop-entry_number.auto.entry_number-end) in
    let some : 0 < unwrap_or c.in_ok-pages.field-0 0 = omega (arith, c.unwrap_or.ensures, c.if-unwrap_or-eq0.false) in
    entries_end first first (g.R.PageDisk.state c.pages.new.self).told c.loop-entry_number.entry_number c.read_page.new.into c.in_ok-pages.field-0 c.args.tables.now c.loop-entry_number.tables refl c.in_ok-pages.ensures.asks.told all some c.in_ok-pages.ensures.count
    c.in_ok-read_page.ensures.quiet c.loop-entry_number.invariant.added

use Rattle.std.proofs.Common.{◌∙◌, ap, sym}
use Rattle.clone_base.proofs.OrderedMaps.{get_listed, inserted}
use Rattle.clone_model.proofs.RowMaps.{row_cmp_total, row_cmp_exact}
use Rattle.clone_pool.specs.declared.frame.PageName.{PageName}
use Rattle.clone_flush.specs.Flights.{Flights, Writes, write_of}
use Rattle.clone_flush.specs.Calls.{with_write}
use Rattle.clone_flush.proofs.flusher.Flusher.keep.Goals as goal

pub returns-clause-ok : goal.returns-clause-ok
returns-clause-ok c =
    let page : PageName = record { space = c.args.space; number = c.args.number } in
    let old = c.self.view_is ∙ c.in_ok-write.ensures.same in
    let write = c.in_ok-write.ensures.ok in (
      c.in_ok-before.ensures.old ∙ sym (get_listed row_cmp_total c.self.inside.writes (c.args.space, c.args.number)) ∙ ap (λ (f : Flights). write_of f page) old,
      ap (λ (w : Writes). record { writes = w; checkpoint = c.self.inside.checkpoint; files = c.self.inside.files }) (inserted row_cmp_total row_cmp_exact c.self.inside.writes c.insert.new.self (c.args.space, c.args.number) c.in_ok-write.write c.in_ok-before.ensures.updates)
          ∙ (λ i. with_write page (write i) (old i)),
    )

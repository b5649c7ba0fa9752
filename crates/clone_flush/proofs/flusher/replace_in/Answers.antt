use Rattle.std.proofs.Common.{◌∙◌, ap, sym, subst, is_some, IsSome}
use Rattle.clone_base.proofs.OrderedMaps.{get_listed, inserted}
use Rattle.clone_model.proofs.RowMaps.{row_cmp_total, row_cmp_exact}
use Rattle.clone_flush.proofs.flusher.replace_in.Goals as goal

pub returns-in_default : goal.returns-in_default
returns-in_default c = λ known.
    let none = c.in_default.ensures.value ∙ sym (get_listed row_cmp_total c.args.writes.now (c.args.space, c.args.number)) in
    absurd (let e = subst IsSome (sym none) known in cc)

pub returns-in-Some : goal.returns-in-Some
returns-in-Some c = λ known.
    inserted row_cmp_total row_cmp_exact c.args.writes.now (c.get_mut.follows.lender c.args.write) (c.args.space, c.args.number) c.args.write ((c.get_mut.follows.holds c.args.write).3 (ap is_some (sym c.in-Some.ensures.value)))

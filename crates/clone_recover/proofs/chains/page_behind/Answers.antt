use Rattle.std.proofs.Common.{◌∙◌, sym, ap, Err}
use Rattle.std.specs.Prelude.{option_copied}
use Rattle.clone_recover.proofs.Faults.{fetch_known}
use Rattle.clone_recover.proofs.LookLemmas.{nowhere_behind, sees_behind, sees_misplaced}
use Rattle.clone_recover.proofs.OverlayReadLemmas.{fetch_fails}
use Rattle.clone_recover.proofs.chains.page_behind.Goals as goal

pub returns-in_default-clause-behind : goal.returns-in_default-clause-behind
returns-in_default-clause-behind g c = nowhere_behind (g.R.PageDisk.state c.args.disk.now).told c.args.overlay.now c.args.space c.args.number (sym c.sheet_of.ensures ∙ ap option_copied c.in_default.is)

pub returns-in-Ok-clause-behind : goal.returns-in-Ok-clause-behind
returns-in-Ok-clause-behind g c =
    sees_behind (g.R.PageDisk.state c.args.disk.now).told c.args.overlay.now c.args.space c.args.number c.in-Some.sheet.now c.in-Ok.next (sym c.sheet_of.ensures ∙ ap option_copied c.in-Some.is) c.in-Ok.ensures.sees

pub returns-in-Err-clause-cause : goal.returns-in-Err-clause-cause
returns-in-Err-clause-cause g c =
    let told = (g.R.PageDisk.state c.args.disk.now).told in
    fetch_fails told c.args.overlay.now c.args.space c.args.number c.in-Err.cause c.not_fetched.result c.not_fetched.ensures
    (λ same. sees_misplaced told c.args.overlay.now c.args.space c.args.number c.in-Some.sheet.now (sym c.sheet_of.ensures ∙ ap option_copied c.in-Some.is) (c.in-Err.ensures.header (ap (λ r. Err r) same)))

pub returns-in-Err-clause-known : goal.returns-in-Err-clause-known
returns-in-Err-clause-known g c = λ is.
    fetch_known c.args.space c.args.number c.in-Err.cause c.not_fetched.result c.not_fetched.ensures (cc)

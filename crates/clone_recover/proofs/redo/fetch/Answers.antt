use Rattle.std.proofs.Common.{ap, Err}
use Rattle.clone_recover.proofs.Faults.{fetch_known}
use Rattle.clone_recover.proofs.OverlayReadLemmas.{fetch_fails}
use Rattle.clone_recover.proofs.redo.fetch.Goals as goal

pub returns-in-Err-clause-cause : goal.returns-in-Err-clause-cause
returns-in-Err-clause-cause g c =
    fetch_fails (g.R.PageDisk.state c.args.disk.now).told c.args.overlay.now c.args.space c.args.number c.in-Err.cause c.not_fetched.result c.not_fetched.ensures (λ same. c.in-Err.ensures.header (ap (λ r. Err r) same))

pub returns-in-Err-clause-known : goal.returns-in-Err-clause-known
returns-in-Err-clause-known g c = λ is.
    fetch_known c.args.space c.args.number c.in-Err.cause c.not_fetched.result c.not_fetched.ensures (cc)

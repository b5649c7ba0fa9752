use Rattle.clone_trx.proofs.Common.{sym, subst, PageName, IsPool, Buffered, Has}
use Rattle.clone_trx.proofs.HoldLemmas.{pinned_has, still_has}
use Rattle.clone_trx.proofs.hold.hold.Goals as goal

pub returns-in-Ok-clause-has : goal.returns-in-Ok-clause-has
returns-in-Ok-clause-has g c =
    let name : PageName = record { space = c.args.space; number = c.args.number } in
    subst (λ (v : Buffered). Has name c.in-Ok.at v.pool.frames) (sym c.pin.ensures.pinned)
    (pinned_has c.fetch-fetched.new.self.pool name c.in-Ok.at (subst (λ (v : Buffered). IsPool v.pool) c.pin.ensures.pinned c.laws-in-Ok.ensures.pool) c.in-Ok.ensures.held)

pub returns-in-Ok-clause-stay : goal.returns-in-Ok-clause-stay
returns-in-Ok-clause-stay g c =
    still_has c.args.buffer.now c.fetch-fetched.new.self c.pin.new.self c.in-Ok.at c.in-Ok.ensures.kept c.in-Ok.ensures.held.within c.pin.ensures.pinned c.laws-2.ensures.pool c.laws-in-Ok.ensures.pool

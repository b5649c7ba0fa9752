use Rattle.clone_trx.proofs.Common.{◌∙◌, ap, Commit, opened_of}
use Rattle.clone_trx.proofs.LastChangeLemmas.{popped, popped_none}
use Rattle.clone_trx.proofs.active.Active.pop.Goals as goal

pub returns-in_err-get_mut : goal.returns-in_err-get_mut
returns-in_err-get_mut c =
    popped_none c.self.inside.commits c.args.self.now (opened_of c.get_mut.follows.lender-at-none.entries) c.args.trx c.from_residual.result c.self.view_is c.in_err-get_mut.ensures.value
    (ap (λ m. opened_of m.entries) c.get_mut.follows.holds-at-none ∙ c.self.view_is) c.from_residual.ensures

pub returns : goal.returns
returns c =
    let w : Commit = record { writer = c.in_ok-get_mut.field-0.now.writer; index = c.in_ok-get_mut.field-0.now.index; changes = c.pop.new.self } in
    popped c.self.inside.commits (c.get_mut.follows.lender w) c.args.self.now c.args.trx c.in_ok-get_mut.field-0.now c.pop.new.self c.pop.result c.self.view_is c.in_ok-get_mut.ensures.value (c.get_mut.follows.holds w).3
    c.pop.ensures.rest c.pop.ensures.last

use Rattle.clone_trx.proofs.Common.{◌∙◌, sym, subst, IsSome, Option, Commit}
use Rattle.std.proofs.lemmas.Result.{on_ok_weaker, on_err_weaker}
use Rattle.clone_trx.proofs.LastChangeLemmas.{get_opened, pushed, rewritten}
use Rattle.clone_trx.proofs.active.Active.push.Goals as goal

pub unreachable-requires : goal.unreachable-requires
unreachable-requires c =
    let none = get_opened c.self.inside.commits c.args.self.now c.args.trx c.self.view_is ∙ sym c.in-None.ensures.value in
    let some = subst (λ (o : Option Commit). IsSome o) none c.requires in
    cc

pub returns-clause-ok : goal.returns-clause-ok
returns-clause-ok c =
    let w : Commit = record { writer = c.in-Some.commit.now.writer; index = c.in-Some.commit.now.index; changes = c.push.new.self } in
    on_ok_weaker c.push.result
    (pushed c.self.inside.commits (c.get_mut.follows.lender w) c.args.self.now c.args.trx c.in-Some.commit.now c.push.new.self c.args.change c.self.view_is c.in-Some.ensures.value (c.get_mut.follows.holds w).3)
    c.push.ensures.ok

pub returns-clause-err : goal.returns-clause-err
returns-clause-err c =
    let w : Commit = record { writer = c.in-Some.commit.now.writer; index = c.in-Some.commit.now.index; changes = c.push.new.self } in
    on_err_weaker c.push.result
    (rewritten c.self.inside.commits (c.get_mut.follows.lender w) c.args.self.now c.args.trx c.in-Some.commit.now c.push.new.self c.self.view_is c.in-Some.ensures.value (c.get_mut.follows.holds w).3)
    c.push.ensures.err

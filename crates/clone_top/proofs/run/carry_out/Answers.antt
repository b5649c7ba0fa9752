use Rattle.std.proofs.Common.{arith, ◌≤◌, length, take, ◌^◌, ◌-◌}
use Rattle.std.proofs.lemmas.List.{length-take}
use Rattle.clone_top.proofs.RunLemmas.{begun, one_more, stopped, at_end, on_err}
use Rattle.clone_top.proofs.run.carry_out.Goals as goal

pub loop-line-init : goal.loop-line-init
loop-line-init g c = (begun c.args.lines.now _ _, omega arith)

pub carry_one-requires : goal.carry_one-requires
carry_one-requires g c =
    let few : length (take c.loop-line.line-index c.args.lines.now) ≤ 2 ^ 63 - 1 = omega (arith, length-take c.loop-line.line-index c.args.lines.now) in
    c.run_laws.ensures.within _ _ _ _ _ _ _ c.requires.2 c.loop-line.invariant.0.run few

pub returns-in_err-carry_one-clause-err : goal.returns-in_err-carry_one-clause-err
returns-in_err-carry_one-clause-err g c = on_err _ (stopped _ _ _ _ _ _ _ _ _ c.line-item.is c.loop-line-test.true c.loop-line.invariant.0 c.in_err-carry_one.ensures.err)

pub loop-line-preserved : goal.loop-line-preserved
loop-line-preserved g c =
    (one_more _ _ _ _ _ _ _ _ _ c.line-item.is c.loop-line-test.true c.loop-line.invariant.0 c.in_ok-carry_one.ensures.ok, omega (arith, c.loop-line.invariant.1, c.in_ok-carry_one.ensures.cause.later))

pub returns-clause-ok : goal.returns-clause-ok
returns-clause-ok g c =
    let le : length c.args.lines.now ≤ c.loop-line.line-index = omega arith in
    at_end _ _ _ _ _ _ le c.loop-line.invariant.0

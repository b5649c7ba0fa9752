use Rattle.std.proofs.Common.{ap, subst}
use Rattle.clone_turn.specs.Worked.{Worked}
use Rattle.clone_copying.specs.Calls.{FetcherModel, IsStep}
use Rattle.clone_copying.proofs.fetcher.Fetcher.step.Goals as goal

pub returns-clause-step : goal.returns-clause-step
returns-clause-step g c =
    subst (λ (v : FetcherModel _). Worked (IsStep (record { core = v.core; task = v.task; link = c.args.link; floor = v.floor; received = c.args.received; sent = c.args.sent }) c.step-stepped.result) v.seat c.step-stepped.new.self)
    c.self.view_is c.step-stepped.ensures

pub returns-clause-same : goal.returns-clause-same
returns-clause-same g c = ap (λ (v : FetcherModel _). record v { seat = c.step-stepped.new.self; core = c.step-stepped.result.core }) c.self.view_is

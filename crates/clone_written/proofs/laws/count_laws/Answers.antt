use Rattle.std.proofs.Common.{arith}
use Rattle.clone_written.proofs.FrontLemmas.{counted}
use Rattle.clone_written.proofs.laws.count_laws.Goals as goal

pub returns-clause-fronts : goal.returns-clause-fronts
returns-clause-fronts c = λ load d number has below.
    let front = has.fronts number below in
    omega (arith, front.1, counted load d number front.0 front.2)

pub returns-clause-whole : goal.returns-clause-whole
returns-clause-whole c = λ load d number has below. counted load d number load.transactions (has.whole number below)

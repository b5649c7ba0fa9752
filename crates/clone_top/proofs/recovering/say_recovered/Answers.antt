use Rattle.clone_top.proofs.RecoveringLemmas.{comes_refused, comes_shown, visits}
use Rattle.clone_top.proofs.recovering.say_recovered.Goals as goal

pub returns-in-Ok-clause-comes : goal.returns-in-Ok-clause-comes
returns-in-Ok-clause-comes g c = comes_shown _ _ _ _ _ _ _ _ c.as_str.ensures.value c.in-Ok.ensures.says c.say.ensures

pub returns-in-Err-clause-comes : goal.returns-in-Err-clause-comes
returns-in-Err-clause-comes g c =
    let all = c.recover_clone.ensures in
    comes_refused _ c.recover_clone.result c.in-Err.refusal _ _ _ _ _ c.in-Err.is record { cause = all.cause; works = all.works; incomplete = all.incomplete; damaged = all.damaged } c.say_no_clone.ensures

pub returns-in-Ok-clause-visits : goal.returns-in-Ok-clause-visits
returns-in-Ok-clause-visits g c = visits _ _ _ c.recover_clone.ensures.works

pub returns-in-Err-clause-visits : goal.returns-in-Err-clause-visits
returns-in-Err-clause-visits g c = visits _ _ _ c.recover_clone.ensures.works

use Rattle.std.proofs.Common.{refl, sym, subst}
use Rattle.clone_top.specs.UnderLoad.{SaysComplete, completed, failed}
use Rattle.clone_top.specs.declared.status.Status.TheVariants.{Done}
use Rattle.clone_top.proofs.LoadLemmas.{unrecovered}
use Rattle.clone_top.proofs.RecoveringLemmas.{visits}
use Rattle.clone_top.proofs.concluding.conclude.Goals as goal

pub returns-in-Some-default : goal.returns-in-Some-default
returns-in-Some-default g c = λ source. failed c.in-Some-default.failure c.in-Some-default.is-0 refl c.say_failure.ensures refl

pub returns-in-Ok : goal.returns-in-Ok
returns-in-Ok g c = λ source.
    let told = SaysComplete c.args.run c.in-None-Some.cloned c.args.commits.now.commits (g.R.PageDisk.state c.args.recipient.now).told (g.R.PageDisk.state c.output.new.disk).told in
    completed c.in-None-Some.cloned c.in-None-Some.is-0 c.in-None-Some.is-1 Done c.as_str.result.now (subst told (sym c.as_str.ensures.value) c.in-Ok.ensures.says) (c.write_texts.ensures source) (visits _ _ _ c.output.ensures.works)

pub returns-in-Err : goal.returns-in-Err
returns-in-Err g c = λ source.
    unrecovered c.args.run c.args.outcome c.args.commits.now.commits c.in-None-Some.cloned _ _ _ _ _ c.in-None-Some.is-0 c.in-None-Some.is-1 refl c.output.result c.in-Err.refusal c.in-Err.is record { cause = c.output.ensures.cause; works = c.output.ensures.works; incomplete = c.output.ensures.incomplete; damaged = c.output.ensures.damaged } c.say_no_clone.ensures

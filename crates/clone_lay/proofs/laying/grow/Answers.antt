use Rattle.std.proofs.Common.{◌∙◌, inl, sym}
use Rattle.std.proofs.lemmas.Result.{on_ok_weaker}
use Rattle.clone_outside.proofs.FaultLemmas.{failed}
use Rattle.clone_lay.proofs.SizeLemmas.{either_created, either_extended, roomy_created, roomy_extended}
use Rattle.clone_outside.proofs.ScopeLemmas.{create_only, extend_only, same_but_order}
use Rattle.clone_outside.proofs.StopLemmas.{keeps_change}
use Rattle.clone_lay.proofs.laying.grow.Goals as goal

pub returns-in-Some-clause-ok : goal.returns-in-Some-clause-ok
returns-in-Some-clause-ok g c =
    on_ok_weaker c.extend.result
    (roomy_extended c.args.sizes.now c.args.space c.args.pages (g.R.PageDisk.state c.args.disk.now).told (g.R.PageDisk.state c.extend.new.self).told c.in-Some.field-0 c.requires (sym c.get.ensures ∙ c.in-Some.is))
    c.extend.ensures.takes.done

pub returns-in-Some-clause-partial : goal.returns-in-Some-clause-partial
returns-in-Some-clause-partial g c =
    failed c.extend.result
    (λ is. either_extended c.args.sizes.now c.args.space c.args.pages (g.R.PageDisk.state c.args.disk.now).told (g.R.PageDisk.state c.extend.new.self).told c.in-Some.field-0 c.requires (sym c.get.ensures ∙ c.in-Some.is) (c.extend.ensures.takes.failed is))
    (λ is. inl (c.extend.ensures.takes.memory is))

pub returns-in-None-clause-ok : goal.returns-in-None-clause-ok
returns-in-None-clause-ok g c =
    on_ok_weaker c.create.result
    (roomy_created c.args.sizes.now c.args.space c.args.pages (g.R.PageDisk.state c.args.disk.now).told (g.R.PageDisk.state c.create.new.self).told c.requires (sym c.get.ensures ∙ c.in-None.is))
    c.create.ensures.takes.done

pub returns-in-None-clause-partial : goal.returns-in-None-clause-partial
returns-in-None-clause-partial g c =
    failed c.create.result
    (λ is. either_created c.args.sizes.now c.args.space c.args.pages (g.R.PageDisk.state c.args.disk.now).told (g.R.PageDisk.state c.create.new.self).told c.requires (sym c.get.ensures ∙ c.in-None.is) (c.create.ensures.takes.failed is))
    (λ is. inl (c.create.ensures.takes.memory is))

pub returns-in-Some-clause-stops : goal.returns-in-Some-clause-stops
returns-in-Some-clause-stops g c = keeps_change _ (same_but_order c.args.space) _ _ _ c.extend.ensures.takes.stops (extend_only c.args.space c.args.pages)

pub returns-in-None-clause-stops : goal.returns-in-None-clause-stops
returns-in-None-clause-stops g c = keeps_change _ (same_but_order c.args.space) _ _ _ c.create.ensures.takes.stops (create_only c.args.space c.args.pages)

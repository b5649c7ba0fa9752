use Rattle.std.proofs.Common.{◌∙◌, sym}
use Rattle.std.proofs.lemmas.Result.{on_ok_weaker}
use Rattle.clone_outside.proofs.DiskCallLemmas.{takes_work}
use Rattle.clone_recover.proofs.DiskStepLemmas.{made_anew, made_longer}
use Rattle.clone_recover.proofs.writing.give_pages.Goals as goal

pub returns-then-kept-eq0-clause-given : goal.returns-then-kept-eq0-clause-given
returns-then-kept-eq0-clause-given g c =
    on_ok_weaker c.create.result
    (made_anew (g.R.PageDisk.state c.args.disk.now).told (g.R.PageDisk.state c.create.new.self).told c.args.space c.count.result c.args.sheet.now c.count.ensures (sym c.kept.ensures.value ∙ c.if-kept-eq0.true)) c.create.ensures.takes.done

pub returns-else-kept-eq0-clause-given : goal.returns-else-kept-eq0-clause-given
returns-else-kept-eq0-clause-given g c =
    on_ok_weaker c.extend.result
    (made_longer (g.R.PageDisk.state c.args.disk.now).told (g.R.PageDisk.state c.extend.new.self).told c.args.space c.count-else-kept-eq0.result c.args.sheet.now c.count-else-kept-eq0.ensures (λ none. c.if-kept-eq0.false (c.kept.ensures.value ∙ none))) c.extend.ensures.takes.done

pub returns-then-kept-eq0-clause-works : goal.returns-then-kept-eq0-clause-works
returns-then-kept-eq0-clause-works g c = takes_work c.create.result c.create.ensures.takes

pub returns-else-kept-eq0-clause-works : goal.returns-else-kept-eq0-clause-works
returns-else-kept-eq0-clause-works g c = takes_work c.extend.result c.extend.ensures.takes

use Rattle.std.proofs.Common.{◌+◌, ℕ, List, OnOk, arith, subst, ◌∙◌}
use Rattle.clone_base.specs.declared.limits.TheConstants.{REDO_SPACE}
use Rattle.clone_outside.specs.Disk.{Steps, with_page, whole}
use Rattle.clone_lay.proofs.RedoLemmas.{full_page, last_page}
use Rattle.clone_outside.specs.Disk.{IsSameBut}
use Rattle.clone_outside.specs.Scopes.{OnlyPage}
use Rattle.clone_outside.proofs.StopLemmas.{keeps_weaker}
use Rattle.clone_lay.proofs.laying.write_redo_page.Goals as goal

pub returns-in-Some-clause-ok : goal.returns-in-Some-clause-ok
returns-in-Some-clause-ok g c =
    subst (λ (page : List ℕ). OnOk c.write_page.result (Steps (g.R.PageDisk.state c.args.disk.now).told (g.R.PageDisk.state c.write_page.new.disk).told (λ m. with_page m REDO_SPACE (c.args.first + c.args.number) (λ _. whole page))))
    (full_page c.args.bytes.now c.args.number c.in-Some.page.now c.in-Some.ensures.cases.enough c.in-Some.ensures.cases.same)
    c.write_page.ensures.written

pub returns-in-None-clause-ok : goal.returns-in-None-clause-ok
returns-in-None-clause-ok g c =
    subst (λ (page : List ℕ). OnOk c.write_page-in-None.result (Steps (g.R.PageDisk.state c.args.disk.now).told (g.R.PageDisk.state c.write_page-in-None.new.disk).told (λ m. with_page m REDO_SPACE (c.args.first + c.args.number) (λ _. whole page))))
    (c.fill.ensures ∙ last_page c.args.bytes.now c.args.number (omega (arith, c.in-None.ensures.cases)))
    c.write_page-in-None.ensures.written

pub returns-in-Some-clause-stops : goal.returns-in-Some-clause-stops
returns-in-Some-clause-stops g c = keeps_weaker (OnlyPage REDO_SPACE (c.args.first + c.args.number)) (IsSameBut REDO_SPACE) _ _ c.write_page.ensures.stops (λ d m only. only.within)

pub returns-in-None-clause-stops : goal.returns-in-None-clause-stops
returns-in-None-clause-stops g c = keeps_weaker (OnlyPage REDO_SPACE (c.args.first + c.args.number)) (IsSameBut REDO_SPACE) _ _ c.write_page-in-None.ensures.stops (λ d m only. only.within)

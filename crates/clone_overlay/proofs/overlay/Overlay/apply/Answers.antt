use Rattle.std.proofs.Common.{sym, subst}
use Rattle.std.proofs.lemmas.Result.{on_ok_weaker}
use Rattle.clone_mtr.specs.References.{record_of}
use Rattle.clone_overlay.specs.Covers.{Overlay, covers_of}
use Rattle.clone_overlay.specs.Shown.{Shows, IsReadyFor}
use Rattle.clone_overlay.proofs.RecordLemmas.{applied_change, applied_extend, applied_create, applied_drop}
use Rattle.clone_overlay.proofs.overlay.Overlay.apply.Goals as goal

pub returns-in-Init-clause-ok : goal.returns-in-Init-clause-ok
returns-in-Init-clause-ok c = λ base image shows.
    applied_change base image (covers_of c.self.inside.sheets.entries) _ c.args.lsn c.in-Init.space c.in-Init.page c.args.entry.now c.in-Init.is c.change_in.ensures
    (subst (λ (o : Overlay). IsReadyFor o (record_of c.args.entry.now)) (sym c.self.view_is) c.requires) (subst (Shows base image) (sym c.self.view_is) shows)

pub returns-in-Extend-clause-ok : goal.returns-in-Extend-clause-ok
returns-in-Extend-clause-ok c = λ base image shows.
    applied_extend base image (covers_of c.self.inside.sheets.entries) _ c.args.lsn c.in-Extend.space c.in-Extend.pages c.args.entry.now c.in-Extend.is c.extend_in.ensures (subst (Shows base image) (sym c.self.view_is) shows)

pub returns-in-Create-clause-ok : goal.returns-in-Create-clause-ok
returns-in-Create-clause-ok c =
    on_ok_weaker c.create_in.result
    (λ made base image shows. applied_create base image (covers_of c.self.inside.sheets.entries) _ c.args.lsn c.in-Create.space c.in-Create.pages c.args.entry.now c.in-Create.is made (subst (Shows base image) (sym c.self.view_is) shows))
    c.create_in.ensures.ok

pub returns-in-Drop-clause-ok : goal.returns-in-Drop-clause-ok
returns-in-Drop-clause-ok c = λ base image shows.
    applied_drop base image (covers_of c.self.inside.sheets.entries) _ c.args.lsn c.in-Drop.space c.args.entry.now c.in-Drop.is c.remove_in.ensures (subst (Shows base image) (sym c.self.view_is) shows)

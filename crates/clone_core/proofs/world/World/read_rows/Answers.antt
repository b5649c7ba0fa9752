use Rattle.std.proofs.Common.{refl, ap, ◌∙◌, Ok, Err}
use Rattle.clone_recover.specs.declared.refusal.RecoverRefusal.{RecoverRefusal}
use Rattle.clone_recover.specs.declared.refusal.RecoverRefusal.TheVariants.{Damaged}
use Rattle.clone_core.proofs.RowsLemmas.{begun_recovered, none_recovered, reads, read_by, read_holds}
use Rattle.clone_core.proofs.world.World.read_rows.Goals as goal

pub invariant_of-self : goal.invariant_of-self
invariant_of-self g c =
    let e = c.recovered_rows-read.ensures in
    let noted = begun_recovered _ c.in-Begun.copying c.note_recovered.new.self c.in-Begun.is c.note_recovered.ensures in
    read_holds c.holds_laws.ensures.again _ _ _ _ _ (g.R.PageDisk.state c.recovered_rows-read.new.disk) _ _ c.recovered_rows-read.result (Ok c.in-Ok.field-0) c.self.view_is noted c.in-Ok.is c.requires.ended c.self.invariant (read_by _ _ _ e.rows e.ascending e.cause e.works e.incomplete e.damaged)

pub invariant_of-self-in_default : goal.invariant_of-self-in_default
invariant_of-self-in_default g c =
    let e = c.recovered_rows-read.ensures in
    read_holds c.holds_laws.ensures.again _ _ _ _ _ (g.R.PageDisk.state c.recovered_rows-read.new.disk) _ _ c.recovered_rows-read.result (Ok c.in-Ok.field-0) c.self.view_is (none_recovered _ c.in_default.not-Begun) c.in-Ok.is c.requires.ended c.self.invariant (read_by _ _ _ e.rows e.ascending e.cause e.works e.incomplete e.damaged)

pub returns-in-Begun : goal.returns-in-Begun
returns-in-Begun g c =
    let e = c.recovered_rows-read.ensures in
    let noted = begun_recovered _ c.in-Begun.copying c.note_recovered.new.self c.in-Begun.is c.note_recovered.ensures in
    reads _ _ _ _ _ _ c.holds_laws.ensures.listed _ _ c.recovered_rows-read.result (Ok c.in-Ok.field-0) c.self.view_is noted c.in-Ok.is c.requires.ended c.self.invariant (read_by _ _ _ e.rows e.ascending e.cause e.works e.incomplete e.damaged)

pub returns-in_default : goal.returns-in_default
returns-in_default g c =
    let e = c.recovered_rows-read.ensures in
    reads _ _ _ _ _ _ c.holds_laws.ensures.listed _ _ c.recovered_rows-read.result (Ok c.in-Ok.field-0) c.self.view_is (none_recovered _ c.in_default.not-Begun) c.in-Ok.is c.requires.ended c.self.invariant (read_by _ _ _ e.rows e.ascending e.cause e.works e.incomplete e.damaged)

pub returns-in-Err-Damaged : goal.returns-in-Err-Damaged
returns-in-Err-Damaged g c =
    let e = c.recovered_rows-read.ensures in
    let came = Damaged c.in-Err-Damaged.field-0-0 c.in-Err-Damaged.field-0-1 c.in-Err-Damaged.field-0-2 in
    reads _ _ _ _ _ _ c.holds_laws.ensures.listed _ _ c.recovered_rows-read.result (Err came) c.self.view_is refl (c.in-Err-Damaged.is ∙ ap (λ (r : RecoverRefusal). Err r) (rw c.in-Err-Damaged.is at c.in-Err-Damaged.field-0-is)) c.requires.ended c.self.invariant (read_by _ _ _ e.rows e.ascending e.cause e.works e.incomplete e.damaged)

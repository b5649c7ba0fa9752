use Rattle.clone_run.specs.Tables.{SetsUp}
use Rattle.std.proofs.Common.{refl, subst, sym}
use Rattle.clone_plain.specs.declared.call.EngineCall.TheVariants as call
use Rattle.clone_run.proofs.TableLemmas.{set_more, set_none, set_one}
use Rattle.clone_run.proofs.tables.make_room.Goals.{in-Some-oldest_dirty+in_default-flush_page, in_default-oldest_dirty}
use Rattle.clone_run.proofs.tables.make_room.Goals as goal

pub returns-clause-sets_up : goal.returns-clause-sets_up
returns-clause-sets_up g c =
    set_more _ _ _
    (elim c.match-oldest_dirty.branch [
      | in-Some-oldest_dirty+in_default-flush_page w ↦ subst (λ d. SetsUp c.args.donor.now d) (sym w.donor-is) w.flush_page.ensures.sets_up
      | in_default-oldest_dirty w ↦ subst (λ d. SetsUp c.args.donor.now d) (sym w.donor-is) (set_none c.args.donor.now)
    ])
    (set_one _ _ call.Checkpoint _ refl c.checkpoint-lsn.ensures.acts)

use Rattle.std.proofs.Common.{[], subst, ap}
use Rattle.clone_snapshot.specs.StageLists.{StageList}
use Rattle.clone_snapshot.specs.Snaps.{Snap, list_of}
use Rattle.clone_snapshot.specs.Resets.{IsReset}
use Rattle.clone_snapshot.proofs.ResetLemmas.{marked}
use Rattle.clone_snapshot.proofs.snapshot.Snapshot.reset_to.Goals as goal

pub returns-clause-reset : goal.returns-clause-reset
returns-clause-reset c =
    let old = c.self.inside.chunks in
    let new = c.reset_to.new.self in
    subst (λ (l : StageList). IsReset l c.args.bitmap.now [] new.states new.kept) (ap (λ (s : Snap). s.list) c.self.view_is)
    (marked (list_of c.self.inside.list) c.args.bitmap.now old.states new.states new.kept c.self.invariant.count c.reset_to.ensures.states c.reset_to.ensures.kept)

use Rattle.std.proofs.Common.{◌≡◌, ◌∙◌, sym, ap}
use Rattle.clone_chunk.specs.declared.plan.StagePlan.TheVariants.{RedoCopy}
use Rattle.clone_snapshot.specs.StageLists.{chunk_count}
use Rattle.clone_session.specs.Cloning.{Session}
use Rattle.clone_session.proofs.PlanLemmas.{plan_redo}
use Rattle.clone_session.proofs.cloning.Cloning.plan.Goals as goal

pub returns-in-RedoCopy : goal.returns-in-RedoCopy
returns-in-RedoCopy c =
    let chunks : c.count-chunks.result ≡ chunk_count c.args.session.now.snap.list = c.count-chunks.ensures.count ∙ ap (λ (s : Session). chunk_count s.snap.list) c.session.view_is in
    let range = c.archived_range-checkpoint.ensures in
    let position = c.position-position.ensures in
    (λ i. RedoCopy (chunks i) (range i).0 (range i).1 (position i))
    ∙ plan_redo c.args.self.now c.args.session.now c.laws.ensures c.requires.stands (sym c.stage.ensures ∙ c.in-RedoCopy.is)

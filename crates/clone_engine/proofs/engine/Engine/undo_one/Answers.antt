use Rattle.std.proofs.Common.{refl, arith}
use Rattle.clone_plain.specs.declared.call.EngineAnswer.TheVariants as answers
use Rattle.clone_plain.specs.declared.call.EngineCall.TheVariants as call
use Rattle.clone_plain.specs.Effects.{Undoes}
use Rattle.clone_plain.specs.declared.refusal.Undone.{Undone}
use Rattle.clone_engine.specs.Over.{over}
use Rattle.clone_engine.proofs.WayLemmas.{undo_leaves}
use Rattle.clone_engine.proofs.GoingLemmas.{of_few, acts, after}
use Rattle.clone_engine.proofs.engine.Engine.undo_one.Goals as goal

pub returns-clause-acts : goal.returns-clause-acts
returns-clause-acts g c =
    let a = c.args in
    let b = c.undo_one-undone in
    let is = b.ensures in
    let d = over a.self.now (g.D.PageDisk.state a.disk.now) in
    let l = g.D.PageDisk.state b.new.disk in
    let leaves = undo_leaves d.engine.donor b.new.self d.engine.buffer b.new.buffer a.trx b.result c.laws.ensures.safe is.answer in
    acts d b.new.self b.new.buffer l (λ (x : Undone). answers.UndoOne x) (call.UndoOne a.trx) b.result (λ (x : Undone). Undoes d.engine.donor a.trx x b.new.self) 1 (λ answer steps. record { steps = steps; cloning = refl }) (λ answer taken. refl) (λ x does. record { does = does; sees = tt; fresh = tt }) (λ _. refl) c.requires.donor c.laws-3.ensures.buffer leaves
    (of_few 1 d.engine (after d b.new.self b.new.buffer l) (omega arith) leaves.grows.log) is.kept is.answer is.reads is.reads.told is.stands

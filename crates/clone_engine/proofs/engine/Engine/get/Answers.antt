use Rattle.std.proofs.Common.{ℕ, List, Option, IsTrue, refl, arith}
use Rattle.clone_plain.specs.declared.call.EngineAnswer.TheVariants as answers
use Rattle.clone_plain.specs.declared.call.EngineCall.TheVariants as call
use Rattle.clone_plain.specs.Effects.{Gets}
use Rattle.clone_engine.specs.Over.{over}
use Rattle.clone_engine.proofs.WayLemmas.{get_leaves}
use Rattle.clone_engine.proofs.GoingLemmas.{of_few, acts, after}
use Rattle.clone_engine.proofs.engine.Engine.get.Goals as goal

pub returns-clause-acts : goal.returns-clause-acts
returns-clause-acts g c =
    let a = c.args in
    let b = c.get-value in
    let is = b.ensures in
    let d = over a.self.now (g.D.PageDisk.state a.disk.now) in
    let l = g.D.PageDisk.state b.new.disk in
    let leaves = get_leaves d.engine.donor a.trx a.table a.key d.engine.buffer b.new.buffer b.result (λ (value : Option (List ℕ)). IsTrue b.new.buffer.right → Gets d.engine.donor a.trx a.table a.key value) is.answer in
    acts d d.engine.donor b.new.buffer l (λ (value : Option (List ℕ)). answers.Get value) (call.Get a.trx a.table a.key) b.result (λ (value : Option (List ℕ)). IsTrue b.new.buffer.right → Gets d.engine.donor a.trx a.table a.key value) 0 (λ answer steps. record { steps = steps; cloning = refl }) (λ answer taken. refl) (λ value does. record { does = refl; sees = does; fresh = tt }) (λ _. refl) c.requires.donor c.laws-3.ensures.buffer leaves
    (of_few 0 d.engine (after d d.engine.donor b.new.buffer l) (omega arith) leaves.grows.log) is.kept is.answer is.reads is.reads.told is.stands

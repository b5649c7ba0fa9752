use Rattle.std.proofs.Common.{length, refl}
use Rattle.clone_plain.specs.declared.call.EngineAnswer.TheVariants as answers
use Rattle.clone_plain.specs.declared.call.EngineCall.TheVariants as call
use Rattle.clone_plain.specs.Effects.{Changes, put_of}
use Rattle.clone_engine.specs.Over.{over}
use Rattle.clone_engine.proofs.WayLemmas.{change_leaves}
use Rattle.clone_engine.proofs.GoingLemmas.{of_two, acts, after}
use Rattle.clone_engine.proofs.engine.Engine.put.Goals as goal

pub returns : goal.returns
returns g c =
    let a = c.args in
    let b = c.put-changed in
    let is = b.ensures in
    let d = over a.self.now (g.D.PageDisk.state a.disk.now) in
    let l = g.D.PageDisk.state b.new.disk in
    let change = put_of a.table a.key a.value.now in
    let leaves = change_leaves d.engine.donor b.new.self d.engine.buffer b.new.buffer a.trx (length a.value.now) change b.result c.laws.ensures.safe is.answer in
    record {
      acts = acts d b.new.self b.new.buffer l (λ (x : Unit {0}). answers.Put) (call.Put a.trx a.table a.key a.value.now) b.result (λ (x : Unit {0}). Changes d.engine.donor a.trx change b.new.self) 2 (λ answer steps. record { steps = steps; cloning = refl }) (λ answer taken. refl) (λ x does. record { does = does; sees = tt; fresh = tt }) (λ _. refl) c.requires.donor c.laws-3.ensures.buffer leaves
          (of_two d.engine (after d b.new.self b.new.buffer l) leaves.grows.log is.between) is.kept is.answer is.reads is.reads.told is.stands;
    }

use Rattle.clone_plain.specs.declared.call.EngineAnswer.TheVariants as answers
use Rattle.clone_engine.specs.Over.{over}
use Rattle.clone_engine.specs.Steps.{answer_of}
use Rattle.clone_engine.proofs.MakingLemmas.{create_acts}
use Rattle.clone_engine.proofs.engine.Engine.create.Goals as goal

pub returns : goal.returns
returns g c =
    let a = c.args in
    let b = c.make_table in
    let d = over a.self.now (g.D.PageDisk.state a.disk.now) in
    let t = over b.new.self (g.D.PageDisk.state b.new.disk) in
    record {
      acts = create_acts d t.engine a.table a.buckets (answer_of (λ (x : Unit {0}). answers.Create) b.result) t.cloning b.ensures.same c.requires.donor b.ensures.makes b.ensures.keeps;
    }

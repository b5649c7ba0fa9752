use Rattle.std.proofs.Common.{◌∙◌, sym, subst}
use Rattle.std.proofs.lemmas.Bool.{true≢false}
use Rattle.clone_flush.specs.Flights.{Flights}
use Rattle.clone_plain.specs.declared.call.EngineAnswer.TheVariants as answers
use Rattle.clone_plain.specs.declared.call.EngineCall.TheVariants as call
use Rattle.clone_engine.specs.Growth.{Makes}
use Rattle.clone_engine.specs.Over.{over}
use Rattle.clone_engine.specs.Steps.{answer_of}
use Rattle.clone_engine.proofs.TableLemmas.{Dropping, drops}
use Rattle.clone_engine.proofs.EngineLemmas.{engine}
use Rattle.clone_engine.proofs.engine.Engine.give_up_table.Goals as goal

pub returns-clause-makes : goal.returns-clause-makes
returns-clause-makes g c =
    let a = c.args in
    let b = c.drop_table-dropped in
    let is = b.ensures in
    let s = (over a.self.now (g.D.PageDisk.state a.disk.now)).engine in
    let l = g.D.PageDisk.state b.new.disk in
    let dropping : Dropping s.donor b.new.self s.buffer b.new.buffer s.flights s.disk l a.table b.result = record { free = c.in_ok-check_drop.ensures; quiet = λ has. true≢false (sym (c.write_under_way.ensures.1 has) ∙ c.if-write_under_way.false); way = is.way; donor = is.donor; keeps = is.kept; file = is.gone; removed = is.removed; same = is.same; stays = is.stays; stands = is.stands } in
    subst (λ (f : Flights). Makes (call.Drop a.table) s (engine b.new.self b.new.buffer f l) (answer_of (λ (x : Unit {0}). answers.Drop) b.result)) (sym c.forget_dropped.ensures)
    (drops s.donor b.new.self s.buffer b.new.buffer s.flights s.disk l a.table b.result c.requires.donor.engine c.laws.ensures.safe dropping c.laws-3.ensures.buffer is.counts)

use Rattle.std.proofs.Common.{◌∙◌, sym, ap, subst, arith}
use Rattle.std.specs.FinMap as finite
use Rattle.clone_flush.specs.Calls.{with_file}
use Rattle.clone_flush.specs.Flights.{Flights}
use Rattle.clone_plain.specs.declared.call.EngineAnswer.TheVariants as answers
use Rattle.clone_plain.specs.declared.call.EngineCall.TheVariants as call
use Rattle.clone_engine.specs.Growth.{KeepsPages, Makes}
use Rattle.clone_engine.specs.Over.{over}
use Rattle.clone_engine.specs.Steps.{answer_of, left_unmade}
use Rattle.clone_engine.proofs.EngineLemmas.{engine}
use Rattle.clone_engine.proofs.MakingLemmas.{creates, creates_keep, left_flown, unknown_is}
use Rattle.clone_engine.proofs.engine.Engine.make_table.Goals as goal

pub returns-clause-makes : goal.returns-clause-makes
returns-clause-makes g c =
    let a = c.args in
    let b = c.create-made in
    let is = b.ensures in
    let s = (over a.self.now (g.D.PageDisk.state a.disk.now)).engine in
    let l = g.D.PageDisk.state b.new.disk in
    let unknown = unknown_is c.file.result (finite.get s.flights.files a.table) (c.file.ensures ∙ ap (finite.get s.flights.files) c.get-space.ensures.value) (sym c.is_some.ensures ∙ c.if-is_some.false) in
    let made = c.in_ok-file_made.ensures.ok ∙ (λ i. with_file (c.get-space.ensures.value i) (c.get.ensures.value i) s.flights) in
    let left = c.forget_unmade.ensures ∙ (λ i. left_unmade b.result (c.get-space.ensures.value i) (made i)) ∙ left_flown s.flights a.table a.buckets b.result unknown in
    subst (λ (f : Flights). Makes (call.Create a.table a.buckets) s (engine b.new.self b.new.buffer f l) (answer_of (λ (x : Unit {0}). answers.Create) b.result)) (sym left)
    (creates s.donor b.new.self s.buffer b.new.buffer s.flights s.disk l a.table a.buckets c.requires.donor.engine c.laws-2.ensures.buffer c.laws-3.ensures.buffer (c.get-space.ensures.low, c.get-space.ensures.high, omega (arith, c.get.ensures.low), omega (arith, c.get.ensures.high)) unknown is.kept
    b.result is.answer is.stands (record { made_is = is.made; left = is.left; same = is.same }) is.counts)

pub returns-clause-keeps : goal.returns-clause-keeps
returns-clause-keeps g c =
    let a = c.args in
    let b = c.create-made in
    let is = b.ensures in
    let s = (over a.self.now (g.D.PageDisk.state a.disk.now)).engine in
    let l = g.D.PageDisk.state b.new.disk in
    let unknown = unknown_is c.file.result (finite.get s.flights.files a.table) (c.file.ensures ∙ ap (finite.get s.flights.files) c.get-space.ensures.value) (sym c.is_some.ensures ∙ c.if-is_some.false) in
    let made = c.in_ok-file_made.ensures.ok ∙ (λ i. with_file (c.get-space.ensures.value i) (c.get.ensures.value i) s.flights) in
    let left = c.forget_unmade.ensures ∙ (λ i. left_unmade b.result (c.get-space.ensures.value i) (made i)) ∙ left_flown s.flights a.table a.buckets b.result unknown in
    subst (λ (f : Flights). KeepsPages s (engine b.new.self b.new.buffer f l)) (sym left)
    (creates_keep s.donor b.new.self s.buffer b.new.buffer s.flights s.disk l a.table a.buckets c.requires.donor.engine c.laws-2.ensures.buffer c.laws-3.ensures.buffer (c.get-space.ensures.low, c.get-space.ensures.high, omega (arith, c.get.ensures.low), omega (arith, c.get.ensures.high)) unknown is.kept
    b.result is.answer is.stands (record { made_is = is.made; left = is.left; same = is.same }))

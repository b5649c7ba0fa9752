use Rattle.std.proofs.Common.{◌≡◌, ◌∙◌, length, nat_eq, refl, sym}
use Rattle.clone_marks.specs.Blocks.{all_finished}
use Rattle.clone_marks.proofs.MarkLemmas.{finished_all_taken, all_taken_finished}
use Rattle.clone_marks.proofs.marks.Marks.all_finished.Goals as goal

pub returns-clause-blocks : goal.returns-clause-blocks
returns-clause-blocks c =
    let marks = c.self.inside.chunks.items in
    let long : c.len.result ≡ length marks = c.len.ensures ∙ c.self.inside.chunks.ok.0 in
    let same : nat_eq c.self.inside.finished c.len.result ≡ all_finished marks = rw (c.self.invariant.count, long) refl in
    rw (← c.self.view_is) ((λ all. finished_all_taken marks (sym same ∙ all)), λ all. same ∙ all_taken_finished marks c.self.invariant.chunks all)

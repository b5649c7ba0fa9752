use Rattle.std.proofs.Common.{◌≡◌, ◌∙◌, length, sym, ap}
use Rattle.clone_marks.specs.Forgetting.{forgotten}
use Rattle.clone_marks.proofs.ForgetLemmas.{forgotten_marks, length-forgotten, written_over}
use Rattle.clone_marks.proofs.marks.Marks.forget.Goals as goal

pub invariant_of-self : goal.invariant_of-self
invariant_of-self c =
    let marks = c.self.inside.chunks.items in
    let new = c.forget.new.chunks in
    let left : new ≡ forgotten c.args.kept marks = c.forget.ensures ∙ ap (forgotten c.args.kept) c.deref_mut.ensures.value in
    let same : length new ≡ length marks = ap length left ∙ length-forgotten c.args.kept marks in
    rw (written_over c.self.inside.chunks.len marks new same (sym c.self.inside.chunks.ok.0), left) (forgotten_marks c.args.kept c.self.inside.finished marks c.self.invariant)

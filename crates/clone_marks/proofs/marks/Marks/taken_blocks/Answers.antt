use Rattle.std.proofs.Common.{◌≡◌, ◌∙◌, ℕ, take, ap}
use Rattle.clone_chunk.specs.declared.partials.TheConstants.{MOST_PARTIAL}
use Rattle.clone_marks.specs.Blocks.{is_finished_at, partials_of}
use Rattle.clone_marks.proofs.PartialLemmas.{first_unset}
use Rattle.clone_marks.proofs.marks.Marks.taken_blocks.Goals as goal

pub new-requires : goal.new-requires
new-requires c =
    let marks = c.self.inside.chunks.items in
    let listed : c.in_ok-partials.partials ≡ take MOST_PARTIAL (partials_of marks) = c.in_ok-partials.ensures ∙ ap (λ xs. take MOST_PARTIAL (partials_of xs)) c.deref-2.ensures.value in
    let bits = λ (i : ℕ). c.in_ok-finished.ensures.bits i ∙ ap (λ xs. is_finished_at xs i) c.deref.ensures.value in
    rw listed (first_unset MOST_PARTIAL marks c.in_ok-finished.finished.bytes bits)

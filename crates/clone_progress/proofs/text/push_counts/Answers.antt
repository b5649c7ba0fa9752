use Rattle.std.proofs.lemmas.List.{append_assoc}
use Rattle.clone_progress.proofs.text.push_counts.Goals as goal

pub returns : goal.returns
returns c = simp append_assoc c.in_ok-writeln.ensures.bytes

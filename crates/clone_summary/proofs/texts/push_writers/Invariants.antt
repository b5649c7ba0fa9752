use Rattle.std.proofs.Common.{◌≡◌, ℕ, ◌++◌, drop}
use Rattle.std.specs.String.{string_bytes}
use Rattle.std.specs.List.{enumerate_from, flat_map}
use Rattle.clone_model.specs.Texts.{ended}
use Rattle.clone_summary.specs.Summary.{counted_text, writer_text}
use Rattle.clone_summary.proofs.texts.push_writers.Given as goal

abbrev pub invariant-loop-writer : goal.invariant-loop-writer
invariant-loop-writer l =
    string_bytes l.text ++ flat_map (λ (counted : ℕ × ℕ). ended (writer_text counted.0 counted.1)) (drop l.writer-counter (enumerate_from 0 l.counts)) ≡ string_bytes l.fn.text ++ counted_text l.counts

use Rattle.std.proofs.Common.{◌≡◌, ◌<◌, ◌≤◌, ◌+◌, ℕ, ◌++◌, ◌∙◌, ap, length, get_or, sym, arith}
use Rattle.std.specs.List.{enumerate_from, flat_map}
use Rattle.std.specs.String.{string_bytes}
use Rattle.std.proofs.lemmas.List.{append_assoc, append-nil, drop_all}
use Rattle.std.proofs.lemmas.List.FromFn.{get_or-enumerate_from, length-enumerate_from}
use Rattle.clone_model.specs.Texts.{ended}
use Rattle.clone_model.proofs.TextLemmas.{wrote_item}
use Rattle.clone_summary.specs.Summary.{writer_text}
use Rattle.clone_summary.proofs.texts.push_writers.Goals as goal

pub loop-writer-preserved : goal.loop-writer-preserved
loop-writer-preserved c =
    let counts = c.args.counts.now in
    let i = c.loop-writer.writer-counter in
    let before = string_bytes c.loop-writer.text in
    let line = λ (counted : ℕ × ℕ). ended (writer_text counted.0 counted.1) in
    let within : i < length (enumerate_from 0 counts) = rw length-enumerate_from c.loop-writer-test.true in
    let first : 0 + i ≡ i = omega arith in
    let at = get_or-enumerate_from 0 counts i (0, 0) c.loop-writer-test.true ∙ ap (λ k. (k, get_or counts i 0)) first in
    let one : string_bytes c.writeln.new.self ≡ before ++ line (i, get_or counts i 0) = simp append_assoc c.in_ok-writeln.ensures.bytes in
    wrote_item line before _ _ (enumerate_from 0 counts) i (0, 0) within c.loop-writer.invariant (one ∙ ap (λ p. before ++ line p) (sym at))

pub returns : goal.returns
returns c =
    let counts = c.args.counts.now in
    let i = c.loop-writer.writer-counter in
    let line = λ (counted : ℕ × ℕ). ended (writer_text counted.0 counted.1) in
    let past : length (enumerate_from 0 counts) ≤ i = rw length-enumerate_from c.loop-writer-test.false in
    sym (append-nil (string_bytes c.loop-writer.text)) ∙ ap (λ l. string_bytes c.loop-writer.text ++ flat_map line l) (sym (drop_all i (enumerate_from 0 counts) past)) ∙ c.loop-writer.invariant

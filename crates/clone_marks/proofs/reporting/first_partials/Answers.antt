use Rattle.std.proofs.Common.{◌≤◌, ◌∙◌, length, sym, arith}
use Rattle.std.proofs.lemmas.Bool.{both_ways}
use Rattle.clone_chunk.specs.declared.partials.TheConstants.{MOST_PARTIAL}
use Rattle.clone_marks.specs.declared.chunk_marks.ChunkMarks.{ChunkMarks}
use Rattle.clone_marks.proofs.PartialLemmas.{seen_partial, seen_other, seen_full, seen_room, seen_above}
use Rattle.clone_marks.proofs.reporting.first_partials.Goals as goal
use Rattle.clone_marks.proofs.reporting.first_partials.Goals.{then-is_partial+then-not-is_full+in_ok-push, else-is_partial, else-is_partial-via-then-is_partial+else-not-is_full, else-is_partial-via-else-is_partial}

pub push-requires-clause-room : goal.push-requires-clause-room
push-requires-clause-room c =
    seen_room MOST_PARTIAL c.args.chunks.now c.loop-number.number c.loop-number.partials c.loop-number.invariant (λ full. both_ways c.is_full.result c.if-not-is_full.true (c.is_full.ensures.1 full))

pub push-requires-clause-above : goal.push-requires-clause-above
push-requires-clause-above c =
    let within : c.loop-number.number ≤ length c.args.chunks.now = omega arith in
    seen_above MOST_PARTIAL c.args.chunks.now c.loop-number.number c.loop-number.partials within c.loop-number.invariant

pub loop-number-preserved : goal.loop-number-preserved
loop-number-preserved c =
    let marks = c.args.chunks.now in
    let i = c.loop-number.number in
    let none : ChunkMarks = record { blocks = 0; taken = 0 } in
    let old = c.loop-number.partials in
    let within = c.loop-number-test.true in
    let known = c.loop-number.invariant in
    elim c.if-is_partial.branch [
      | then-is_partial+then-not-is_full+in_ok-push w ↦
          let room = seen_room MOST_PARTIAL marks i old known (λ full. both_ways w.is_full.result w.if-not-is_full.true (w.is_full.ensures.1 full)) in
          w.partials-is ∙ w.in_ok-push.ensures.ok ∙ seen_partial MOST_PARTIAL marks i none old within known (sym c.is_partial.ensures ∙ w.if-is_partial.true) room
      | else-is_partial w ↦ elim w.else-is_partial.branch [
        | else-is_partial-via-then-is_partial+else-not-is_full v ↦ w.partials-is ∙ seen_full MOST_PARTIAL marks i none old within known (v.is_full.ensures.0 v.if-not-is_full.false)
        | else-is_partial-via-else-is_partial v ↦ w.partials-is ∙ seen_other MOST_PARTIAL marks i none old within known (sym c.is_partial.ensures ∙ v.if-is_partial.false)
      ]
    ]

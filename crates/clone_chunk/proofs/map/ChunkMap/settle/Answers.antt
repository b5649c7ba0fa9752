use Rattle.std.proofs.Common.{◌≡◌, ◌<◌, ◌∙◌, true, false, Some, length, sym, ap, arith}
use Rattle.std.specs.List.{slice_get}
use Rattle.std.proofs.lemmas.List.{length-set}
use Rattle.std.proofs.lemmas.Option.{slice_get-get_or}
use Rattle.clone_chunk.specs.Chunks.{Chunks}
use Rattle.clone_chunk.specs.declared.chunk.Chunk.{Chunk}
use Rattle.clone_chunk.proofs.Claims.{after_settle, unfinished_is}
use Rattle.clone_chunk.proofs.map.ChunkMap.settle.Goals as goal
use Rattle.clone_chunk.proofs.map.ChunkMap.settle.Goals.{in-Finished, in_default}

pub invariant_of-self : goal.invariant_of-self
invariant_of-self c =
    elim c.match-matches.branch [
      | in-Finished w ↦ absurd (let wrong : true ≡ false = sym w.matches-is ∙ c.if-matches.false in cc)
      | in_default w ↦
          let old : Chunk = c.index.result.now in
          let room = c.self.invariant.1 in
          let states = ap (λ (m : Chunks). length m.states) c.self.view_is in
          let within : c.args.chunk < length c.self.inside.states.items = omega (arith, states, c.requires) in
          let there : slice_get c.self.inside.states.items c.args.chunk ≡ Some old = slice_get-get_or c.self.inside.states.items c.args.chunk old within ∙ ap (λ x. Some x) (sym c.index.ensures) in
          let settled = after_settle c.self.inside.states.items c.self.inside.searched c.self.inside.left c.args.chunk old c.self.invariant.0 there (unfinished_is old w.in_default.not-Finished) in
          rw w.self-inside-is (settled.1, record { masks = rw length-set room.masks; for_states = room.for_states; for_masks = room.for_masks })
    ]

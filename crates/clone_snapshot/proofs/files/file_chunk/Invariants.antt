use Rattle.std.proofs.Common.{◌≡◌, drop}
use Rattle.std.specs.List.{slice_get}
use Rattle.clone_snapshot.specs.StageLists.{Files, chunks_of}
use Rattle.clone_snapshot.proofs.files.file_chunk.Given as goal

abbrev pub invariant-loop-space : goal.invariant-loop-space
invariant-loop-space l =
    slice_get (chunks_of (Files (drop l.space-index l.spaces))) l.ahead ≡ slice_get (chunks_of (Files l.spaces)) l.chunk

use Rattle.std.proofs.Common.{List, ◌≤◌, length, subst}
use Rattle.std.specs.List.{All}
use Rattle.clone_chunk.specs.declared.bitmap.TheConstants.{MOST_CHUNKS}
use Rattle.clone_marks.specs.declared.chunk_marks.ChunkMarks.{ChunkMarks}
use Rattle.clone_marks.specs.Blocks.{IsChunk}
use Rattle.clone_marks.proofs.marks.Marks.laws.Goals as goal

pub returns-clause-chunks : goal.returns-clause-chunks
returns-clause-chunks c = subst (λ (marks : List ChunkMarks). All IsChunk marks) c.self.view_is c.self.invariant.chunks

pub returns-clause-few : goal.returns-clause-few
returns-clause-few c = subst (λ (marks : List ChunkMarks). length marks ≤ MOST_CHUNKS) c.self.view_is c.self.invariant.few

use Rattle.std.proofs.Common.{◌≤◌, ◌∙◌, sym, arith}
use Rattle.std.proofs.lemmas.Bool.{le-ltb}
use Rattle.clone_marks.proofs.ChunkLemmas.{past_has}
use Rattle.clone_marks.proofs.chunk_marks.ChunkMarks.has.Goals as goal

pub returns-else-block-self : goal.returns-else-block-self
returns-else-block-self c =
    let past : c.args.self.blocks ≤ c.args.block = omega arith in
    le-ltb c.args.block c.args.self.blocks past ∙ sym (past_has c.args.self c.args.block c.requires.within past)

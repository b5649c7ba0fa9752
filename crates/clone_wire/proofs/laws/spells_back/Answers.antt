use Rattle.std.proofs.Common.{refl}
use Rattle.clone_wire.specs.Spelling.{side_of}
use Rattle.clone_wire.proofs.Decoding.{spells_back, only_spelling}
use Rattle.clone_wire.proofs.laws.spells_back.Goals as goal

pub returns-clause-read : goal.returns-clause-read
returns-clause-read c = λ frame is. spells_back (side_of frame) frame is refl

pub returns-clause-only : goal.returns-clause-only
returns-clause-only c = only_spelling

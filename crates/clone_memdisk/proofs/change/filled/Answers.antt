use Rattle.std.proofs.Common.{ap, sym}
use Rattle.clone_memdisk.specs.Changes.{entry_of, filled}
use Rattle.clone_memdisk.specs.declared.change.Change.{Change}
use Rattle.clone_memdisk.proofs.change.filled.Goals as goal

pub returns-in-Half : goal.returns-in-Half
returns-in-Half c = ap (λ (x : Change). filled (entry_of x)) (sym c.in-Half.is)

pub returns-in-Rest : goal.returns-in-Rest
returns-in-Rest c = ap (λ (x : Change). filled (entry_of x)) (sym c.in-Rest.is)

use Rattle.clone_outside.specs.Disk.{half_written, rest_written}
use Rattle.clone_outside.specs.Stops.{WriteHalf, WriteRest}
use Rattle.clone_increment.specs.Noting.{IsNoted}
use Rattle.clone_increment.specs.Tracked.{no_changes, with_written}
use Rattle.clone_increment.proofs.NotingLemmas.{page_noted, page_stays, writes_told}
use Rattle.clone_increment.proofs.laws.write_laws.Goals as goal

pub returns-clause-half : goal.returns-clause-half
returns-clause-half c = λ old new space number from result is.
    writes_told (IsNoted (with_written no_changes (space, number))) (WriteHalf space number) space number (half_written from) (page_stays space number) (page_noted space number) old new result is

pub returns-clause-rest : goal.returns-clause-rest
returns-clause-rest c = λ old new space number from result is.
    writes_told (IsNoted (with_written no_changes (space, number))) (WriteRest space number) space number (rest_written from) (page_stays space number) (page_noted space number) old new result is

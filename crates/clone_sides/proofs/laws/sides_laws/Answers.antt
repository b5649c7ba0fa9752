use Rattle.clone_sides.proofs.MoreLemmas.{gone_on}
use Rattle.clone_sides.proofs.NumberLemmas.{position_told, stop_stands}
use Rattle.clone_sides.proofs.StopLemmas.{first_stops}
use Rattle.clone_sides.proofs.WalkLemmas.{moment}
use Rattle.clone_sides.proofs.laws.sides_laws.Goals as goal

pub returns-clause-moment : goal.returns-clause-moment
returns-clause-moment c = moment

pub returns-clause-stops : goal.returns-clause-stops
returns-clause-stops c = first_stops

pub returns-clause-gone_on : goal.returns-clause-gone_on
returns-clause-gone_on c = gone_on

pub returns-clause-numbers : goal.returns-clause-numbers
returns-clause-numbers c number d trace items checkpoint lsn position none unstopped run = position_told number d trace none unstopped run items checkpoint lsn position

pub returns-clause-stands : goal.returns-clause-stands
returns-clause-stands c = stop_stands

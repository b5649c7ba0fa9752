use Rattle.clone_plain.proofs.HolderLemmas.{holder_holds, holder_least, no_holder}
use Rattle.clone_plain.proofs.laws.holder_laws.Goals as goal

pub returns-clause-held : goal.returns-clause-held
returns-clause-held c = holder_holds

pub returns-clause-least : goal.returns-clause-least
returns-clause-least c = holder_least

pub returns-clause-none : goal.returns-clause-none
returns-clause-none c = no_holder

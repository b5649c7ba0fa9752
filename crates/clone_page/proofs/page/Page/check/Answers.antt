use Rattle.clone_page.proofs.Choices.{first_holds, second_decides}
use Rattle.clone_page.proofs.page.Page.check.Goals as goal

pub returns-then-is_zero : goal.returns-then-is_zero
returns-then-is_zero c = first_holds c.is_zero.ensures c.if-is_zero.true

pub returns-else-is_zero : goal.returns-else-is_zero
returns-else-is_zero c = second_decides c.is_zero.ensures c.if-is_zero.false c.is_well_formed.ensures

use Rattle.clone_contents.proofs.RowLemmas.{row_contained, row_in_image}
use Rattle.clone_contents.proofs.laws.rows_law.Goals as goal

pub returns-clause-contained : goal.returns-clause-contained
returns-clause-contained c = λ image row formed is. row_contained image formed row is

pub returns-clause-shown : goal.returns-clause-shown
returns-clause-shown c = λ image row formed is. row_in_image image formed row is

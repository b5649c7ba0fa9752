use Rattle.std.proofs.Common.{Some, None}
use Rattle.clone_script.proofs.FieldTexts.{with_value}
use Rattle.clone_script.proofs.fields.read_row_with_value.Goals as goal

pub returns-in_default-2 : goal.returns-in_default-2
returns-in_default-2 c =
    let row = c.in-Some in
    with_value _ _ c.in-Some.row None row.ensures.some.0 row.ensures.some.1 row.ensures.only tt (rw c.in_default-2.is at c.in_ok-value.ensures.only)

pub returns : goal.returns
returns c =
    let row = c.in-Some in
    with_value _ _ c.in-Some.row (Some c.in-Some-2.value) row.ensures.some.0 row.ensures.some.1 row.ensures.only (rw c.in-Some-2.is at c.in_ok-value.ensures.some) (rw c.in-Some-2.is at c.in_ok-value.ensures.only)

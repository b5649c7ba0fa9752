use Rattle.clone_page.proofs.Choices.{refused, refuses}
use Rattle.clone_page.proofs.page.Page.is_well_formed.Goals as goal
use Rattle.clone_page.proofs.page.Page.is_well_formed.Goals.{else-has_constants-via-then-has_constants+else-stands_at, else-has_constants-via-else-has_constants}

pub returns-then-is_used : goal.returns-then-is_used
returns-then-is_used c =
    let constants = c.has_constants.ensures.0 c.if-has_constants.true in
    let place = c.stands_at.ensures.0 c.if-stands_at.true in
    let kind = c.is_used.ensures.0 c.if-is_used.true in (
      λ t. record {
        front = constants.0;
        back = constants.1;
        place = place.0;
        owner = place.1;
        kind_low = kind.0;
        kind_high = kind.1;
        end = c.ends_with_lsn.ensures.0 t;
      },
      λ w. c.ends_with_lsn.ensures.1 w.end,
    )

pub returns-else-is_used : goal.returns-else-is_used
returns-else-is_used c = refuses c.is_used.ensures c.if-is_used.false (λ w. (w.kind_low, w.kind_high))

pub returns-else-has_constants : goal.returns-else-has_constants
returns-else-has_constants c =
    elim c.else-has_constants.branch [
      | else-has_constants-via-then-has_constants+else-stands_at w ↦ refused w.stands_at.ensures w.if-stands_at.false (λ p. (p.place, p.owner))
      | else-has_constants-via-else-has_constants w ↦ refused c.has_constants.ensures w.if-has_constants.false (λ p. (p.front, p.back))
    ]

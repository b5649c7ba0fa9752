use Rattle.clone_trx.proofs.Common.{◌≡◌, ◌&&◌, Bool, false, None, refl, ap, sym, subst, is_some, not, and_from, FindsWanted}
use Rattle.clone_trx.proofs.walk.room_on.Goals as goal
use Rattle.clone_trx.proofs.walk.room_on.Goals.{else-course-via-then-course+else-is_none, else-course-via-else-course}

pub returns-then-is_none : goal.returns-then-is_none
returns-then-is_none c =
    let wanted = and_from c.args.course.for_room (not (is_some c.args.kept)) c.if-course.true (ap not c.if-is_none.ensures) in
    subst (λ (b : Bool). FindsWanted b c.args.page.now c.free_slot.result) (sym wanted) c.free_slot.ensures

pub returns-else-course : goal.returns-else-course
returns-else-course c =
    let unwanted : (c.args.course.for_room && not (is_some c.args.kept)) ≡ false = elim c.else-course.branch [
      | else-course-via-then-course+else-is_none w ↦ (λ i. w.if-course.true i && not (w.if-is_none.ensures i))
      | else-course-via-else-course w ↦ ap (λ (b : Bool). b && not (is_some c.args.kept)) w.if-course.false
    ] in
    subst (λ (b : Bool). FindsWanted b c.args.page.now None) (sym unwanted) refl

use Rattle.std.proofs.Common.{ap}
use Rattle.clone_script.specs.Given.{with_line}
use Rattle.clone_script.specs.Script.{line}
use Rattle.clone_script.proofs.Texts.{Takes-size}
use Rattle.clone_script.proofs.draft.Draft.take.Goals as goal

pub returns-in-Some : goal.returns-in-Some
returns-in-Some c = Takes-size _ _ _ c.in-Some.head _ (λ p. cc (c.if-is_passed.ensures.1 p)) (rw c.in-Some.is at c.parse_head.ensures) c.take_size.ensures

pub returns : goal.returns
returns c =
    let is = rw c.in-Some-2.is at c.in_ok-line.ensures in
    line c.in-Some-2.line (record { same = is.some.1; ranges = is.some.0 }) (rw c.in_ok-push.ensures.items (ap (λ given. with_line given c.in-Some-2.line) c.self.view_is))

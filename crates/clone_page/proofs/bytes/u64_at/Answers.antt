use Rattle.std.proofs.Common.{arith, ◌∙◌, ◌-◌, ◌+◌, ◌≤◌}
use Rattle.clone_page.proofs.NumberLemmas.{field_of_slice}
use Rattle.clone_page.proofs.bytes.u64_at.Goals as goal

pub returns : goal.returns
returns c =
    let le : 8 ≤ (c.args.at + 8) - c.args.at = omega arith in
    c.read_u64.ensures ∙ field_of_slice c.args.at 8 ((c.args.at + 8) - c.args.at) c.args.bytes.now le

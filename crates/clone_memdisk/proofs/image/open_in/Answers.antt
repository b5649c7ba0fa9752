use Rattle.std.proofs.Common.{ap, ◌∙◌}
use Rattle.clone_outside.specs.Disk.{edited}
use Rattle.clone_memdisk.specs.Stored.{interrupted}
use Rattle.clone_memdisk.specs.Listed.{spaces_of}
use Rattle.clone_memdisk.proofs.Spaces.{changed_space, absent_space}
use Rattle.clone_memdisk.proofs.image.open_in.Goals as goal

pub returns-in-Some : goal.returns-in-Some
returns-in-Some c =
    let new = c.open.new.self in
    changed_space c.args.spaces.now (c.get_mut.follows.lender new) c.args.space c.in-Some.pages.now new (edited c.args.page interrupted) c.in-Some.ensures.value (c.get_mut.follows.holds new).3 c.open.ensures

pub returns-in_default : goal.returns-in_default
returns-in_default c =
    ap (λ m. spaces_of m.entries) c.get_mut.follows.holds-at-none ∙ absent_space c.args.spaces.now c.args.space (edited c.args.page interrupted) c.in_default.ensures.value

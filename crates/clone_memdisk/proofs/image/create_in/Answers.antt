use Rattle.std.proofs.Common.{ap, ◌∙◌}
use Rattle.std.specs.FinMap as finite
use Rattle.clone_memdisk.specs.Listed.{spaces_of}
use Rattle.clone_memdisk.proofs.Spaces.{inserted_space}
use Rattle.clone_memdisk.proofs.image.create_in.Goals as goal

pub returns-clause-ok : goal.returns-clause-ok
returns-clause-ok c =
    inserted_space c.args.spaces.now c.insert.new.self c.args.space _ c.in_ok-insert.ensures.updates ∙ ap (finite.insert (spaces_of c.args.spaces.now.entries) c.args.space) c.in_ok-zero.ensures

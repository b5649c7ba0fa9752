use Rattle.clone_memdisk.proofs.Spaces.{removed_space}
use Rattle.clone_memdisk.proofs.image.remove_in.Goals as goal

pub returns : goal.returns
returns c = removed_space c.args.spaces.now c.remove.new.self c.args.space c.remove.ensures.updates

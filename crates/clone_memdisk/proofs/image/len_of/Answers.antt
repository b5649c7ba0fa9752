use Rattle.std.proofs.Common.{◌∙◌, sym}
use Rattle.std.specs.Cmp.{nat_cmp_total}
use Rattle.clone_base.proofs.OrderedMaps.{len_listed}
use Rattle.clone_memdisk.proofs.image.len_of.Goals as goal

pub returns-clause-len : goal.returns-clause-len
returns-clause-len c = c.len.ensures.len ∙ sym (len_listed nat_cmp_total c.args.spaces.now c.len.ensures.ordered)

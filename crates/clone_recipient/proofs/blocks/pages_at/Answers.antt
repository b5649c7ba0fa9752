use Rattle.std.proofs.Common.{◌∙◌}
use Rattle.clone_recipient.proofs.SizeLemmas.{pages_size}
use Rattle.clone_recipient.proofs.blocks.pages_at.Goals as goal

pub returns : goal.returns
returns c = c.size_in.ensures ∙ pages_size c.args.pages c.args.chunk c.args.block

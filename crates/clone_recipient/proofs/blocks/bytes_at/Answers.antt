use Rattle.std.proofs.Common.{◌∙◌}
use Rattle.clone_recipient.proofs.SizeLemmas.{redo_size}
use Rattle.clone_recipient.proofs.blocks.bytes_at.Goals as goal

pub returns : goal.returns
returns c = c.size_in.ensures ∙ redo_size c.args.checkpoint c.args.lsn c.args.chunk c.args.block

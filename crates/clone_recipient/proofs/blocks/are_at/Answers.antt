use Rattle.std.proofs.Common.{sym}
use Rattle.clone_recipient.proofs.ExpectLemmas.{at_long}
use Rattle.clone_recipient.proofs.blocks.are_at.Goals as goal

pub returns-then-places-pages : goal.returns-then-places-pages
returns-then-places-pages c = sym (at_long c.args.places.now c.args.pages.now c.if-places-pages.true)

use Rattle.std.proofs.Common.{◌∙◌, sym}
use Rattle.clone_recipient.proofs.ExpectLemmas.{few_chunks}
use Rattle.clone_recipient.proofs.plans.fits.Goals as goal

pub chunks_of-requires : goal.chunks_of-requires
chunks_of-requires c =
    (few_chunks c.spaces-spaces.result.now (sym c.are_spaces.ensures ∙ c.if-are_spaces.true) c.spaces-spaces.ensures.few).1

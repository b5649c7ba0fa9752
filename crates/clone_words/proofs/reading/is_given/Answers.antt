use Rattle.std.proofs.Common.{◌∙◌}
use Rattle.clap.specs.Matches.{found_of}
use Rattle.clap.specs.Walk.{rows_of}
use Rattle.clap.proofs.WalkLemmas.{one_text-rows}
use Rattle.clone_words.proofs.Values.{flag_read}
use Rattle.clone_words.proofs.reading.is_given.Goals as goal

pub returns : goal.returns
returns c =
    let f = found_of c.args.options.now in
    rw c.unwrap_or.ensures (flag_read _ c.args.name.now (rows_of f) c.get_one.result
    (λ none. c.get_one.ensures.none (one_text-rows f c.args.name.now ∙ none))
    (λ text is. c.get_one.ensures.value text (one_text-rows f c.args.name.now ∙ is)))

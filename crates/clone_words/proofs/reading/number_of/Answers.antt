use Rattle.std.proofs.Common.{◌≡◌, ◌∙◌, sym}
use Rattle.std.specs.Str.Parse.{ParsesUnsigned, ExplainsUnsignedError, HasUnsignedDigitsIfOk}
use Rattle.clap.specs.Matches.{found_of}
use Rattle.clap.specs.Walk.{rows_of}
use Rattle.clap.proofs.WalkLemmas.{one_text-rows}
use Rattle.clone_words.specs.Commands.{number}
use Rattle.clone_words.proofs.Values.{number_read, number_some}
use Rattle.clone_words.proofs.reading.number_of.Goals as goal

pub unreachable-requires : goal.unreachable-requires
unreachable-requires c =
    let read : c.get_one.result ≡ number c.args.name.now (rows_of (found_of c.args.options.now)) = number_read (λ bs r. ParsesUnsigned 64 10 bs r × ExplainsUnsignedError 10 bs r × HasUnsignedDigitsIfOk bs r)
    c.args.name.now (rows_of (found_of c.args.options.now)) c.get_one.result (λ u x g. g.0)
    (λ text is. c.get_one.ensures.value text (one_text-rows (found_of c.args.options.now) c.args.name.now ∙ is)) c.requires.found in
    number_some c.args.name.now (rows_of (found_of c.args.options.now)) c.requires.found (sym read ∙ c.in-None.is)

pub returns : goal.returns
returns c =
    let read : c.get_one.result ≡ number c.args.name.now (rows_of (found_of c.args.options.now)) = number_read (λ bs r. ParsesUnsigned 64 10 bs r × ExplainsUnsignedError 10 bs r × HasUnsignedDigitsIfOk bs r)
    c.args.name.now (rows_of (found_of c.args.options.now)) c.get_one.result (λ u x g. g.0)
    (λ text is. c.get_one.ensures.value text (one_text-rows (found_of c.args.options.now) c.args.name.now ∙ is)) c.requires.found in
    sym c.in-Some.is ∙ read

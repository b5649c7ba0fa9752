use Rattle.std.proofs.Common.{◌∙◌, sym, ap, option_map}
use Rattle.std.specs.Borrow.{Bor}
use Rattle.clap.specs.Matches.{found_of}
use Rattle.clap.specs.Walk.{Text}
use Rattle.clap.proofs.WalkLemmas.{first_value-rows}
use Rattle.clone_words.proofs.reading.required_text.Goals as goal

pub unreachable-requires : goal.unreachable-requires
unreachable-requires c =
    let got = sym (ap (option_map (λ (s : Bor Text). s.now)) c.in-None.is) ∙ (c.get_str.ensures ∙ (first_value-rows (found_of c.args.options.now) c.args.name.now ∙ c.requires.found.1)) in
    cc

pub returns : goal.returns
returns c =
    sym (ap (option_map (λ (s : Bor Text). s.now)) c.in-Some.is) ∙ (c.get_str.ensures ∙ first_value-rows (found_of c.args.options.now) c.args.name.now)

use Rattle.std.proofs.Common.{◌≡◌, []}
use Rattle.clap.specs.Faults.{fault_of}
use Rattle.clap.specs.Matches.{found_of}
use Rattle.clap.specs.Simple.{app_of, subcommand_of, subcommand_rows_of}
use Rattle.clap.specs.Walk.{rows_of}
use Rattle.clone_words.specs.Commands.{texts}
use Rattle.clone_words.specs.Options.{program}
use Rattle.clone_words.proofs.Entered.{line_fails, line_of, matches_are, subcommand_is, subcommand_some, usage_refused}
use Rattle.clone_words.proofs.reading.parse.Goals as goal

pub command_of-requires : goal.command_of-requires
command_of-requires c =
    let words = texts c.args.words.now in
    let line : fault_of program words ≡ [] = line_of (app_of c.in_ok-program.field-0) words c.in_ok-program.ensures c.in_ok-matches.ensures.kinds in
    let matches : subcommand_rows_of c.in_ok-matches.matches ≡ subcommand_of program words =
    matches_are (app_of c.in_ok-program.field-0) words c.in_ok-matches.matches c.in_ok-program.ensures c.in_ok-matches.ensures.matches in
    record {
      found = (subcommand_is words c.in_ok-matches.matches c.in-Some.name.now (rows_of (found_of c.in-Some.options.now)) matches line
          c.in-Some.ensures.name c.in-Some.ensures.rows).1;
    }

pub unreachable-requires : goal.unreachable-requires
unreachable-requires c =
    let words = texts c.args.words.now in
    let line : fault_of program words ≡ [] = line_of (app_of c.in_ok-program.field-0) words c.in_ok-program.ensures c.in_ok-matches.ensures.kinds in
    let matches : subcommand_rows_of c.in_ok-matches.matches ≡ subcommand_of program words =
    matches_are (app_of c.in_ok-program.field-0) words c.in_ok-matches.matches c.in_ok-program.ensures c.in_ok-matches.ensures.matches in
    subcommand_some words c.in_ok-matches.matches matches line c.in-None.ensures.name

pub returns-in_err-matches-clause-usage : goal.returns-in_err-matches-clause-usage
returns-in_err-matches-clause-usage c = λ usage line.
    usage_refused c.from_residual-in_err-matches.result c.in_err-matches.field-0.0 c.from_residual-in_err-matches.ensures.1
    (line_fails (app_of c.in_ok-program.field-0) (texts c.args.words.now) c.in_err-matches.field-0.0 c.in_ok-program.ensures c.in_err-matches.ensures.kinds line) usage

pub returns-clause-line : goal.returns-clause-line
returns-clause-line c =
    line_of (app_of c.in_ok-program.field-0) (texts c.args.words.now) c.in_ok-program.ensures c.in_ok-matches.ensures.kinds

pub returns-clause-command : goal.returns-clause-command
returns-clause-command c =
    let words = texts c.args.words.now in
    let line : fault_of program words ≡ [] = line_of (app_of c.in_ok-program.field-0) words c.in_ok-program.ensures c.in_ok-matches.ensures.kinds in
    let matches : subcommand_rows_of c.in_ok-matches.matches ≡ subcommand_of program words =
    matches_are (app_of c.in_ok-program.field-0) words c.in_ok-matches.matches c.in_ok-program.ensures c.in_ok-matches.ensures.matches in
    let is = subcommand_is words c.in_ok-matches.matches c.in-Some.name.now (rows_of (found_of c.in-Some.options.now)) matches line
    c.in-Some.ensures.name c.in-Some.ensures.rows in
    ((c.in-Some.name.now, rows_of (found_of c.in-Some.options.now)), is.0, c.command_of.ensures.command)

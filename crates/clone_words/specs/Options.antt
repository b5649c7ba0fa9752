-- The commands and their options, as a parse sees them.
use Rattle.std.specs.Prelude.{ℕ, List, [], ◌∷◌, Some, true, codes}
use Rattle.clap.specs.Words.{App, Rule, Shape, Text, new_rule}
use Rattle.clap.specs.Simple.{new_shape, with_subcommand}
use Rattle.clap.specs.declared.builder.action.ArgAction.TheVariants.{Set, SetTrue}
use Rattle.clap.specs.declared.builder.value_parser.ValueParser.TheVariants.{Unsigned}
use Rattle.clone_base.specs.declared.limits.TheConstants.{MOST_LOSSES, MOST_TASKS, TABLE_LIMIT}
use Rattle.clone_model.specs.declared.config.TheConstants.{LEAST_POOL, MOST_POOL}
use Rattle.clone_model.specs.declared.config.TheConstants.{LEAST_RING, MOST_RING}
use Rattle.clone_model.specs.declared.line.TheConstants.{MOST_BUCKETS}
use Rattle.clone_words.specs.declared.options.TheConstants.{MOST_WRITERS, MOST_TRANSACTIONS}
use Rattle.clone_words.specs.declared.options.TheConstants.{MOST_CUTS}

-- `--name N`, where N is from `least` to `most`
abbrev pub number : Text → ℕ → ℕ → Rule
number name least most = record (new_rule name) {
  long = Some name;
  action = Some Set;
  parser = Some (Unsigned least most);
}

-- `--name`
abbrev pub flag : Text → Rule
flag name = record (new_rule name) { long = Some name; action = Some SetTrue }

-- `--name TEXT`
abbrev pub text : Text → Rule
text name = record (new_rule name) { long = Some name; action = Some Set }

-- the option has to be given
abbrev pub required : Rule → Rule
required rule = record rule { required = true }

-- the value where the option is not given
abbrev pub or : Text → Rule → Rule
or usual rule = record rule { defaults = usual ∷ [] }

abbrev pub run_options : List Rule
run_options =
    required (number (codes "seed") 0 18446744073709551615)
    ∷ or (codes "4") (number (codes "writers") 1 MOST_WRITERS)
    ∷ or (codes "100") (number (codes "transactions") 0 MOST_TRANSACTIONS)
    ∷ or (codes "4") (number (codes "tables") 1 TABLE_LIMIT)
    ∷ or (codes "64") (number (codes "buckets") 1 MOST_BUCKETS)
    ∷ or (codes "4") (number (codes "tasks") 1 MOST_TASKS)
    ∷ or (codes "16") (number (codes "limit") 0 MOST_LOSSES)
    ∷ or (codes "256") (number (codes "pool") LEAST_POOL MOST_POOL)
    ∷ or (codes "1048576") (number (codes "ring") LEAST_RING MOST_RING)
    ∷ or (codes "0") (number (codes "cuts") 0 MOST_CUTS)
    ∷ flag (codes "report")
    ∷ text (codes "dir")
    ∷ flag (codes "tcp")
    ∷ flag (codes "compress")
    ∷ []

-- a subcommand with its options
abbrev pub subcommand : Text → List Rule → Shape
subcommand name options = record (new_shape name) { rules = options }

abbrev pub run : Shape
run = subcommand (codes "run") run_options

abbrev pub directory_options : List Rule
directory_options = required (text (codes "dir")) ∷ []

abbrev pub of_directory : Text → Shape
of_directory name = subcommand name directory_options

-- One of four subcommands has to be named. The words are those behind the program's name, and
-- none of them asks for help or for a version.
abbrev pub alone : Shape
alone = record (new_shape (codes "clone")) {
  no_binary_name = true;
  disable_help_flag = true;
  disable_help_subcommand = true;
  disable_version_flag = true;
  subcommand_required = true;
}

abbrev pub program : App
program =
    with_subcommand (with_subcommand (with_subcommand (with_subcommand
    (record { top = alone; subs = [] })
    (new_shape (codes "steps")))
    run)
    (of_directory (codes "recover")))
    (of_directory (codes "dump"))

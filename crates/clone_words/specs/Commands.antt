-- Which words are a command line, and which command it is.
use Rattle.std.specs.Prelude.{◌≡◌, ◌≤◌, ◌↔◌, ◌⊎◌, ◌||◌, ℕ, List, [], ◌∷◌, Some, None, false, not}
use Rattle.std.specs.Prelude.{String, string_bytes, map}
use Rattle.std.specs.declared.alloc.Global.{Global}
use Rattle.std.specs.Prelude.{IsTrue, codes, option_map, true, ⊤}
use Rattle.std.specs.declared.option.Option.{Option}
use Rattle.std.specs.Str.Parse.{digits_value, without_leading_plus}
use Rattle.clap.specs.Walk.{is_empty}
use Rattle.clap.specs.Facts.{parser_of_value}
use Rattle.clap.specs.Words.{Accepts, IsUnsignedIn}
use Rattle.clap.specs.Words.{Row, Rule, Text, fault_of, first_of, one_of, subcommand_of}
use Rattle.clone_base.specs.declared.limits.TheConstants.{MOST_LOSSES, MOST_TASKS, TABLE_LIMIT}
use Rattle.clone_model.specs.declared.config.TheConstants.{LEAST_POOL, MOST_POOL}
use Rattle.clone_model.specs.declared.config.TheConstants.{LEAST_RING, MOST_RING}
use Rattle.clone_model.specs.declared.line.TheConstants.{MOST_BUCKETS}
use Rattle.clone_words.specs.Options.{program, run_options, directory_options}
use Rattle.clone_words.specs.declared.options.TheConstants.{MOST_WRITERS, MOST_TRANSACTIONS}
use Rattle.clone_words.specs.declared.options.TheConstants.{MOST_CUTS}
use Rattle.clone_words.specs.declared.command.Command.{Command}
use Rattle.clone_words.specs.declared.command.Command.TheVariants as command
use Rattle.clone_words.specs.declared.command.Place.{Place}
use Rattle.clone_words.specs.declared.command.Run.{Run}

-- the words of the program's arguments as texts
abbrev pub texts : List (String Global) → List Text
texts = map string_bytes

-- a parse of the words finds no fault
abbrev pub IsCommandLine : List Text → Type 0
IsCommandLine words = fault_of program words ≡ []

-- the number that is given for an option, or its usual one
abbrev pub number : Text → List Row → Option ℕ
number name rows =
    option_map (λ text. digits_value 10 (without_leading_plus text)) (one_of name rows)

-- the option without a value is given
abbrev pub IsGiven : Text → List Row → Type 0
IsGiven name rows = one_of name rows ≡ Some (codes "true")

-- the options of `run` are what was found of them
pub record IsRun (rows : List Row) (run : Run) : Type 0 where
  pub seed : Some run.seed ≡ number (codes "seed") rows
  pub writers : Some run.writers ≡ number (codes "writers") rows
  pub transactions : Some run.transactions ≡ number (codes "transactions") rows
  pub tables : Some run.tables ≡ number (codes "tables") rows
  pub buckets : Some run.buckets ≡ number (codes "buckets") rows
  pub tasks : Some run.tasks ≡ number (codes "tasks") rows
  pub limit : Some run.limit ≡ number (codes "limit") rows
  pub pool : Some run.pool ≡ number (codes "pool") rows
  pub ring : Some run.ring ≡ number (codes "ring") rows
  pub cuts : Some run.cuts ≡ number (codes "cuts") rows
  pub report : IsTrue run.report ↔ IsGiven (codes "report") rows
  pub dir : option_map (λ dir. dir.now) run.dir ≡ first_of (codes "dir") rows
  pub tcp : IsTrue run.tcp ↔ IsGiven (codes "tcp") rows
  pub compress : IsTrue run.compress ↔ IsGiven (codes "compress") rows

-- the subcommand of this name, with what was found of its options, is the command
abbrev pub Asks : Text × List Row → Command → Type 0
Asks found command.Steps = found.0 ≡ codes "steps"
Asks found (command.Run run) = (found.0 ≡ codes "run") × IsRun found.1 run
Asks found (command.Recover recover) =
    (found.0 ≡ codes "recover") × (Some recover.dir.now ≡ first_of (codes "dir") found.1)
Asks found (command.Dump dump) =
    (found.0 ≡ codes "dump") × (Some dump.dir.now ≡ first_of (codes "dir") found.1)

-- what a command line asks for
abbrev pub IsAskedBy : List Text → Command → Type 0
IsAskedBy words asked =
    (found : Text × List Row) × (subcommand_of program words ≡ Some found) × Asks found asked

-- each number is in its range
pub record IsInRange (run : Run) : Type 0 where
  pub writers : (1 ≤ run.writers) × (run.writers ≤ MOST_WRITERS)
  pub transactions : run.transactions ≤ MOST_TRANSACTIONS
  pub tables : (1 ≤ run.tables) × (run.tables ≤ TABLE_LIMIT)
  pub buckets : (1 ≤ run.buckets) × (run.buckets ≤ MOST_BUCKETS)
  pub tasks : (1 ≤ run.tasks) × (run.tasks ≤ MOST_TASKS)
  pub limit : run.limit ≤ MOST_LOSSES
  pub pool : (LEAST_POOL ≤ run.pool) × (run.pool ≤ MOST_POOL)
  pub ring : (LEAST_RING ≤ run.ring) × (run.ring ≤ MOST_RING)
  pub cuts : run.cuts ≤ MOST_CUTS

abbrev pub IsRunInRange : Command → Type 0
IsRunInRange (command.Run run) = IsInRange run
IsRunInRange other = ⊤

-- where a command finds its disks and connections
abbrev pub place_of : Command → Place
place_of command.Steps = record { dir = None; tcp = false }
place_of (command.Run run) = record { dir = run.dir; tcp = run.tcp }
place_of (command.Recover recover) = record { dir = Some recover.dir; tcp = false }
place_of (command.Dump dump) = record { dir = Some dump.dir; tcp = false }

-- ---- what is known of the options of a command line

-- a value was found for the option, and it passes
abbrev pub IsFound : List Row → Rule → Type 0
IsFound rows option = (text : Text) × (one_of option.id rows ≡ Some text)
    × Accepts option.ignore_case (parser_of_value option.parser) text

-- so it is for each option that is required or has a usual value
unfoldable pub AreFound : List Rule → List Row → Type 0
AreFound [] rows = ⊤
AreFound (option ∷ options) rows =
    ((option.required || not (is_empty option.defaults)) ≡ true → IsFound rows option)
    × AreFound options rows

-- it is one of the four subcommands, and its options are found
abbrev pub IsSubcommand : Text × List Row → Type 0
IsSubcommand found = (found.0 ≡ codes "steps")
    ⊎ (((found.0 ≡ codes "run") × AreFound run_options found.1)
    ⊎ (((found.0 ≡ codes "recover") × AreFound directory_options found.1)
    ⊎ ((found.0 ≡ codes "dump") × AreFound directory_options found.1)))

-- the text of the option is a number
pub record IsReadable (name : Text) (rows : List Row) : Type 0 where
  pub least : ℕ
  pub most : ℕ
  pub text : Text
  pub found : one_of name rows ≡ Some text
  pub passes : IsUnsignedIn least most text

-- the option has a text
abbrev pub IsReadableText : Text → List Row → Type 0
IsReadableText name rows = (text : Text) × (first_of name rows ≡ Some text)

-- A place is that of the command, and no place where the words are no command line.
abbrev pub IsPlace : List Text → Place → Type 0
IsPlace words place =
    ((asked : Command) × IsAskedBy words asked × IsCommandLine words × (place ≡ place_of asked))
    ⊎ ((IsCommandLine words → ⊥) × (place ≡ record { dir = None; tcp = false }))

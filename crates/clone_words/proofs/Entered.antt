-- A command line names one of the four subcommands, and its options are found.
use Rattle.std.proofs.Common.{◌≡◌, ◌∙◌, ◌&&◌, Bool, true, false, not, refl, sym, ap, subst, inl, inr, List, [], Option, Some, None, is_some, codes, Result, Ok, Err, IsErrAnd, IsErrOf}
use Rattle.std.specs.Prelude.{find, option_map}
use Rattle.std.specs.List.{AllByRecursion, list_any}
use Rattle.std.specs.Option.{option_map_or}
use Rattle.std.specs.Str.{bytes_eq}
use Rattle.clap.specs.Simple.{App, HasMatchesOf, Shape, built, built_leaf, entered, inherited, label_of, is_simple, marked_built, names_of, rows_at, subcommand_of, subcommand_rows_of, with_leaf_noted}
use Rattle.clap.specs.Kinds.{HasKind, IsAmong, check_kinds}
use Rattle.clap.specs.Matches.{subcommand_name_of}
use Rattle.clap.specs.Values.{kind_of}
use Rattle.clap.specs.declared.error.Error.{Error}
use Rattle.clap.specs.declared.error.kind.ErrorKind.TheVariants.{OutOfMemory}
use Rattle.clap.specs.declared.parser.matches.ArgMatches.{ArgMatches}
use Rattle.clap.specs.declared.parser.matches.ArgMatches.TheViews.{out-ArgMatches}
use Rattle.clap.specs.Facts.{explicit_source}
use Rattle.clap.specs.Takes.{is_given}
use Rattle.clap.specs.Faults.{check_fault, entered_fault, fault_of, is_simple_and_free, level_fault}
use Rattle.clap.specs.Walk.{Row, Text, answers_to, nothing_held, finished, stop_after, rows_after, walk}
use Rattle.clone_words.specs.Refusals.{IsRefusalOf}
use Rattle.clone_words.specs.declared.reading.WordsRefusal.{WordsRefusal}
use Rattle.clone_words.specs.declared.reading.WordsRefusal.TheVariants.{Usage, NoMemory}
use Rattle.clone_words.specs.Options.{directory_options, of_directory, program, run, run_options}
use Rattle.clone_words.specs.Commands.{AreFound, IsSubcommand}
use Rattle.clone_words.proofs.Rows.{or_else_nil, some_is}
use Rattle.clone_words.proofs.Walks.{AreOwn, found_own}
use Rattle.clone_words.proofs.Found.{options_found}
use Rattle.clone_words.proofs.Values.{differ}

-- a subcommand as a parse has it
abbrev as_built : Shape → Shape
as_built s = built_leaf (inherited (with_leaf_noted (marked_built program.top)) s)

-- where no fault is found behind its name, what is found of the subcommand is one of the four
abbrev Enters : Shape → Type 0
Enters s = (words : List Text) → level_fault s [] nothing_held words false [] ≡ [] → IsSubcommand (rows_at s words)

own_run : AreOwn (as_built run).rules
own_run = record {
  own = (
    record { own = refl; set = refl; some = refl; plain = refl },
    (
      record { own = refl; set = refl; some = refl; plain = refl },
      (
        record { own = refl; set = refl; some = refl; plain = refl },
        (
          record { own = refl; set = refl; some = refl; plain = refl },
          (
            record { own = refl; set = refl; some = refl; plain = refl },
            (
              record { own = refl; set = refl; some = refl; plain = refl },
              (
                record { own = refl; set = refl; some = refl; plain = refl },
                (
                  record { own = refl; set = refl; some = refl; plain = refl },
                  (
                    record { own = refl; set = refl; some = refl; plain = refl },
                    (
                      record { own = refl; set = refl; some = refl; plain = refl },
                      (
                        record { own = refl; set = refl; some = refl; plain = refl },
                        (
                          record { own = refl; set = refl; some = refl; plain = refl },
                          (
                            record { own = refl; set = refl; some = refl; plain = refl },
                            (record { own = refl; set = refl; some = refl; plain = refl }, tt),
                          ),
                        ),
                      ),
                    ),
                  ),
                ),
              ),
            ),
          ),
        ),
      ),
    ),
  );
  no_index = λ i. refl;
  no_short = λ x. refl;
}

own_directory : (name : Text) → AreOwn (as_built (of_directory name)).rules
own_directory name = record { own = (record { own = refl; set = refl; some = refl; plain = refl }, tt); no_index = λ i. refl; no_short = λ x. refl }

run_found : (rows : List Row) → AreFound (as_built run).rules rows → AreFound run_options rows
unfolding AreFound
run_found rows f = (f.0, (f.1.0, (f.1.1.0, (f.1.1.1.0, (f.1.1.1.1.0, (f.1.1.1.1.1.0, (f.1.1.1.1.1.1.0, (f.1.1.1.1.1.1.1.0, (f.1.1.1.1.1.1.1.1.0, (f.1.1.1.1.1.1.1.1.1.0, (λ w. cc, (λ w. cc, (λ w. cc, (λ w. cc, tt))))))))))))))

each_enters : AllByRecursion Enters (built program).subs
unfolding AreFound
each_enters = (
  λ words e. inl refl,
  (
    λ words e. inr (inl (refl, run_found (rows_after (as_built run).rules [] words) (options_found (as_built run) words own_run refl e))),
    (
      λ words e. inr (inr (inl (refl, options_found (as_built (of_directory (codes "recover"))) words (own_directory (codes "recover")) refl e))),
      (λ words e. inr (inr (inr (refl, options_found (as_built (of_directory (codes "dump"))) words (own_directory (codes "dump")) refl e))), tt),
    ),
  ),
)

never : (wants_help wants_argument : Bool) → check_kinds wants_help true wants_argument ≡ [] → ⊥
never true wants_argument e = cc
never false wants_argument e = cc

-- a command that wants a subcommand has one
subcommand_there : (s : Shape) (rows : List Row) (has : Bool) → s.subcommand_required ≡ true → check_fault s rows has ≡ [] → has ≡ true
subcommand_there s rows true required e = refl
subcommand_there s rows false required e = absurd (never
    (s.arg_required_else_help && not (list_any (λ r. explicit_source r.source) rows))
    (not (s.subcommand_negates_reqs && false) && list_any (λ a. a.required && not (is_given a.id rows)) s.rules)
    (rw required at e))

stop_enters : (stop : Option (Text × List Text)) → entered_fault (built program) stop ≡ [] → is_some (entered (built program) stop) ≡ true
    → (found : Text × List Row) × (entered (built program) stop ≡ Some found) × IsSubcommand found
stop_enters None e has = cc
stop_enters (Some p) e has = go (find (λ s. answers_to p.0 (label_of s)) (built program).subs) refl e has
  where
    go : (o : Option Shape) → find (λ s. answers_to p.0 (label_of s)) (built program).subs ≡ o
        → option_map_or (λ s. level_fault s [] nothing_held p.1 false []) o [] ≡ []
        → is_some (option_map (λ s. rows_at s p.1) o) ≡ true
        → (found : Text × List Row) × (option_map (λ s. rows_at s p.1) o ≡ Some found) × IsSubcommand found
    go None is e has = cc
    go (Some s) is e has = (rows_at s p.1, refl, found_own Enters (λ s. answers_to p.0 (label_of s)) (built program).subs s each_enters is p.1 e)

-- what is found of the words of a command line
pub command_line_enters : (words : List Text) → fault_of program words ≡ []
    → (found : Text × List Row) × (subcommand_of program words ≡ Some found) × IsSubcommand found
command_line_enters words e =
    let stop = stop_after (built program).top.rules (names_of (built program)) words in
    let walked = or_else_nil _ _ e in
    let below = or_else_nil (entered_fault (built program) stop) _ walked.1 in
    let settles = or_else_nil _ _ below.1 in
    let defaults = or_else_nil _ _ settles.1 in
    stop_enters stop below.0 (subcommand_there (built program).top (finished (built program).top.rules (walk (built program).top.rules (names_of (built program)) nothing_held words).held) (is_some (entered (built program) stop)) refl defaults.1)

-- ---- by its name

other_name : (name a b : Text) → bytes_eq a b ≡ false → name ≡ a → name ≡ b → ⊥
other_name name a b e is_a is_b = differ a b e (sym is_a ∙ is_b)

pub run_options_found : (found : Text × List Row) → IsSubcommand found → found.0 ≡ codes "run" → AreFound run_options found.1
run_options_found found (inl steps) is = absurd (other_name _ (codes "steps") (codes "run") refl steps is)
run_options_found found (inr (inl f)) is = f.1
run_options_found found (inr (inr (inl f))) is = absurd (other_name _ (codes "recover") (codes "run") refl f.0 is)
run_options_found found (inr (inr (inr f))) is = absurd (other_name _ (codes "dump") (codes "run") refl f.0 is)

pub recover_options_found : (found : Text × List Row) → IsSubcommand found → found.0 ≡ codes "recover" → AreFound directory_options found.1
recover_options_found found (inl steps) is = absurd (other_name _ (codes "steps") (codes "recover") refl steps is)
recover_options_found found (inr (inl f)) is = absurd (other_name _ (codes "run") (codes "recover") refl f.0 is)
recover_options_found found (inr (inr (inl f))) is = f.1
recover_options_found found (inr (inr (inr f))) is = absurd (other_name _ (codes "dump") (codes "recover") refl f.0 is)

pub dump_options_found : (found : Text × List Row) → IsSubcommand found → found.0 ≡ codes "dump" → AreFound directory_options found.1
dump_options_found found (inl steps) is = absurd (other_name _ (codes "steps") (codes "dump") refl steps is)
dump_options_found found (inr (inl f)) is = absurd (other_name _ (codes "run") (codes "dump") refl f.0 is)
dump_options_found found (inr (inr (inl f))) is = absurd (other_name _ (codes "recover") (codes "dump") refl f.0 is)
dump_options_found found (inr (inr (inr f))) is = f.1

pub only_steps : (found : Text × List Row) → IsSubcommand found → (found.0 ≡ codes "run" → ⊥) → (found.0 ≡ codes "recover" → ⊥)
    → (found.0 ≡ codes "dump" → ⊥) → found.0 ≡ codes "steps"
only_steps found (inl steps) not_run not_recover not_dump = steps
only_steps found (inr (inl f)) not_run not_recover not_dump = absurd (not_run f.0)
only_steps found (inr (inr (inl f))) not_run not_recover not_dump = absurd (not_recover f.0)
only_steps found (inr (inr (inr f))) not_run not_recover not_dump = absurd (not_dump f.0)

-- ---- from the matches of a parse

is_free : is_simple_and_free program ≡ true
is_free = refl

pub line_of : (app : App) (words : List Text) → app ≡ program → (is_simple_and_free app ≡ true → fault_of app words ≡ [])
    → fault_of program words ≡ []
line_of app words is kinds = subst (λ a. fault_of a words ≡ []) is (kinds (ap is_simple_and_free is ∙ is_free))

pub matches_are : (app : App) (words : List Text) (m : ArgMatches) → app ≡ program → HasMatchesOf app words m
    → subcommand_rows_of m ≡ subcommand_of program words
matches_are app words m is has = (has (ap is_simple is ∙ refl)).1 ∙ ap (λ a. subcommand_of a words) is

name_in_rows : {X : Type 0} (o : Option X) (name : X → Text) (rows : X → List Row)
    → option_map (λ x. name x) o ≡ option_map (λ (p : Text × List Row). p.0) (option_map (λ x. (name x, rows x)) o)
name_in_rows None name rows = refl
name_in_rows (Some x) name rows = refl

name_of : (m : ArgMatches) (found : Text × List Row) → subcommand_rows_of m ≡ Some found → subcommand_name_of m ≡ Some found.0
name_of m found e = name_in_rows (out-ArgMatches m).subcommand _ _ ∙ ap (option_map (λ (p : Text × List Row). p.0)) e

-- the name and the options that a parse gives are those of the command line
pub subcommand_is : (words : List Text) (m : ArgMatches) (name : Text) (rows : List Row)
    → subcommand_rows_of m ≡ subcommand_of program words → fault_of program words ≡ []
    → Some name ≡ subcommand_name_of m → Some rows ≡ option_map (λ (p : Text × List Row). p.1) (subcommand_rows_of m)
    → (subcommand_of program words ≡ Some (name, rows)) × IsSubcommand (name, rows)
subcommand_is words m name rows matches line named given =
    let enters = command_line_enters words line in
    let found = matches ∙ enters.1 in
    let same_name : name ≡ enters.0.0 = some_is _ _ (named ∙ name_of m enters.0 found) in
    let same_rows : rows ≡ enters.0.1 = some_is _ _ (given ∙ ap (option_map (λ (p : Text × List Row). p.1)) found) in
    rw (same_name, same_rows) (enters.1, enters.2)

-- a parse of a command line gives a subcommand
pub subcommand_some : (words : List Text) (m : ArgMatches) → subcommand_rows_of m ≡ subcommand_of program words
    → fault_of program words ≡ [] → None ≡ subcommand_name_of m → ⊥
subcommand_some words m matches line none =
    let enters = command_line_enters words line in
    let bad : None ≡ Some enters.0.0 = none ∙ name_of m enters.0 (matches ∙ enters.1) in
    cc

-- an error of a parse of a command line is out of memory
pub line_fails : (app : App) (words : List Text) (e : Error) → app ≡ program
    → (is_simple_and_free app ≡ true → HasKind (fault_of app words) e) → fault_of program words ≡ [] → kind_of e ≡ OutOfMemory
line_fails app words e is kinds line = go (subst (λ a. HasKind (fault_of a words) e) is (kinds (ap is_simple_and_free is ∙ is_free)))
  where
    go : HasKind (fault_of program words) e → kind_of e ≡ OutOfMemory
    go (inl memory) = memory
    go (inr among) = absurd (subst (IsAmong (kind_of e)) line among)

-- it is not refused as a usage
pub usage_refused : {T : Type 0} (r : Result T WordsRefusal) (e : Error) → IsErrAnd r (IsRefusalOf e) → kind_of e ≡ OutOfMemory
    → IsErrOf r Usage → ⊥
usage_refused (Ok x) e refusal memory usage = absurd refusal
usage_refused (Err Usage) e refusal memory usage = absurd (refusal memory)
usage_refused (Err NoMemory) e refusal memory usage = cc

use Rattle.std.proofs.Common.{◌∙◌, refl, codes}
use Rattle.clap.specs.Matches.{found_of}
use Rattle.clap.specs.Walk.{rows_of}
use Rattle.clap.proofs.WalkLemmas.{first_value-rows}
use Rattle.clone_base.specs.declared.limits.TheConstants.{MOST_LOSSES, MOST_TASKS, TABLE_LIMIT}
use Rattle.clone_model.specs.declared.config.TheConstants.{LEAST_POOL, MOST_POOL, LEAST_RING, MOST_RING}
use Rattle.clone_model.specs.declared.line.TheConstants.{MOST_BUCKETS}
use Rattle.clone_words.specs.declared.options.TheConstants.{MOST_WRITERS, MOST_TRANSACTIONS, MOST_CUTS}
use Rattle.clone_words.specs.Commands.{AreFound}
use Rattle.clone_words.proofs.Values.{in_range, readable}
use Rattle.clone_words.proofs.reading.run_of.Goals as goal

pub number_of-requires : goal.number_of-requires
unfolding AreFound
number_of-requires c = record { found = readable (codes "seed") 0 18446744073709551615 (rows_of (found_of c.args.options.now)) (c.requires.found.0 refl) }

pub number_of-requires-2 : goal.number_of-requires-2
unfolding AreFound
number_of-requires-2 c = record { found = readable (codes "writers") 1 MOST_WRITERS (rows_of (found_of c.args.options.now)) (c.requires.found.1.0 refl) }

pub number_of-requires-3 : goal.number_of-requires-3
unfolding AreFound
number_of-requires-3 c = record { found = readable (codes "transactions") 0 MOST_TRANSACTIONS (rows_of (found_of c.args.options.now)) (c.requires.found.1.1.0 refl) }

pub number_of-requires-4 : goal.number_of-requires-4
unfolding AreFound
number_of-requires-4 c = record { found = readable (codes "tables") 1 TABLE_LIMIT (rows_of (found_of c.args.options.now)) (c.requires.found.1.1.1.0 refl) }

pub number_of-requires-5 : goal.number_of-requires-5
unfolding AreFound
number_of-requires-5 c = record { found = readable (codes "buckets") 1 MOST_BUCKETS (rows_of (found_of c.args.options.now)) (c.requires.found.1.1.1.1.0 refl) }

pub number_of-requires-6 : goal.number_of-requires-6
unfolding AreFound
number_of-requires-6 c = record { found = readable (codes "tasks") 1 MOST_TASKS (rows_of (found_of c.args.options.now)) (c.requires.found.1.1.1.1.1.0 refl) }

pub number_of-requires-7 : goal.number_of-requires-7
unfolding AreFound
number_of-requires-7 c = record { found = readable (codes "limit") 0 MOST_LOSSES (rows_of (found_of c.args.options.now)) (c.requires.found.1.1.1.1.1.1.0 refl) }

pub number_of-requires-8 : goal.number_of-requires-8
unfolding AreFound
number_of-requires-8 c = record { found = readable (codes "pool") LEAST_POOL MOST_POOL (rows_of (found_of c.args.options.now)) (c.requires.found.1.1.1.1.1.1.1.0 refl) }

pub number_of-requires-9 : goal.number_of-requires-9
unfolding AreFound
number_of-requires-9 c = record { found = readable (codes "ring") LEAST_RING MOST_RING (rows_of (found_of c.args.options.now)) (c.requires.found.1.1.1.1.1.1.1.1.0 refl) }

pub number_of-requires-10 : goal.number_of-requires-10
unfolding AreFound
number_of-requires-10 c = record { found = readable (codes "cuts") 0 MOST_CUTS (rows_of (found_of c.args.options.now)) (c.requires.found.1.1.1.1.1.1.1.1.1.0 refl) }

pub returns-clause-options : goal.returns-clause-options
unfolding AreFound
returns-clause-options c = record {
  seed = c.number_of.ensures;
  writers = c.number_of-2.ensures;
  transactions = c.number_of-3.ensures;
  tables = c.number_of-4.ensures;
  buckets = c.number_of-5.ensures;
  tasks = c.number_of-6.ensures;
  limit = c.number_of-7.ensures;
  pool = c.number_of-8.ensures;
  ring = c.number_of-9.ensures;
  cuts = c.number_of-10.ensures;
  report = c.is_given.ensures;
  dir = c.get_str.ensures ∙ first_value-rows (found_of c.args.options.now) (codes "dir");
  tcp = c.is_given-2.ensures;
  compress = c.is_given-3.ensures;
}

pub returns-clause-ranges : goal.returns-clause-ranges
unfolding AreFound
returns-clause-ranges c = record {
  writers = in_range (codes "writers") 1 MOST_WRITERS _ (rows_of (found_of c.args.options.now)) (c.requires.found.1.0 refl) c.number_of-2.ensures;
  transactions = (in_range (codes "transactions") 0 MOST_TRANSACTIONS _ (rows_of (found_of c.args.options.now)) (c.requires.found.1.1.0 refl) c.number_of-3.ensures).1;
  tables = in_range (codes "tables") 1 TABLE_LIMIT _ (rows_of (found_of c.args.options.now)) (c.requires.found.1.1.1.0 refl) c.number_of-4.ensures;
  buckets = in_range (codes "buckets") 1 MOST_BUCKETS _ (rows_of (found_of c.args.options.now)) (c.requires.found.1.1.1.1.0 refl) c.number_of-5.ensures;
  tasks = in_range (codes "tasks") 1 MOST_TASKS _ (rows_of (found_of c.args.options.now)) (c.requires.found.1.1.1.1.1.0 refl) c.number_of-6.ensures;
  limit = (in_range (codes "limit") 0 MOST_LOSSES _ (rows_of (found_of c.args.options.now)) (c.requires.found.1.1.1.1.1.1.0 refl) c.number_of-7.ensures).1;
  pool = in_range (codes "pool") LEAST_POOL MOST_POOL _ (rows_of (found_of c.args.options.now)) (c.requires.found.1.1.1.1.1.1.1.0 refl) c.number_of-8.ensures;
  ring = in_range (codes "ring") LEAST_RING MOST_RING _ (rows_of (found_of c.args.options.now)) (c.requires.found.1.1.1.1.1.1.1.1.0 refl) c.number_of-9.ensures;
  cuts = (in_range (codes "cuts") 0 MOST_CUTS _ (rows_of (found_of c.args.options.now)) (c.requires.found.1.1.1.1.1.1.1.1.1.0 refl) c.number_of-10.ensures).1;
}

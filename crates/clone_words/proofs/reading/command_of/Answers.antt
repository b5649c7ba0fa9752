use Rattle.clap.specs.Matches.{found_of}
use Rattle.clap.specs.Walk.{rows_of}
use Rattle.clone_words.proofs.Entered.{dump_options_found, recover_options_found, run_options_found}
use Rattle.clone_words.proofs.Values.{directory_text}
use Rattle.clone_words.proofs.reading.command_of.Goals as goal

pub run_of-requires : goal.run_of-requires
run_of-requires c = record {
  found = run_options_found (c.args.name.now, rows_of (found_of c.args.options.now)) c.requires.found c.in-run.is;
}

pub required_text-requires : goal.required_text-requires
required_text-requires c = record {
  found = directory_text _ (recover_options_found (c.args.name.now, rows_of (found_of c.args.options.now)) c.requires.found c.in-recover.is);
}

pub required_text-requires-in-dump : goal.required_text-requires-in-dump
required_text-requires-in-dump c = record {
  found = directory_text _ (dump_options_found (c.args.name.now, rows_of (found_of c.args.options.now)) c.requires.found c.in-dump.is);
}

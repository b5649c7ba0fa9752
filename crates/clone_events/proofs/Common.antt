-- The words that the lemmas of this crate share.
pub use Rattle.std.proofs.lemmas.List.{take-append-le}
pub use Rattle.std.proofs.lemmas.Option.{same_Some, slice_get-get_or}
pub use Rattle.std.specs.Cmp.{nat_cmp_total}
pub use Rattle.std.specs.FinMap.{nat_cmp-IsAntisymmetric, get-empty, FinMap, get, get-insert}
pub use Rattle.std.specs.List.{cons_option, range_with_len, AllByRecursion}
pub use Rattle.std.specs.Ordering.{eq_by_cmp}
pub use Rattle.clone_base.proofs.MapEntries.{get-set_same}
pub use Rattle.clone_model.specs.History.{Drops, Rows, fold, history_of}
pub use Rattle.clone_model.specs.declared.change.Commit.{Commit}
pub use Rattle.clone_script.specs.declared.lines.Line.{Line}
pub use Rattle.clone_plain.specs.Calls.{PlainStep, AfterRefusal, Does}
pub use Rattle.clone_plain.specs.declared.call.EngineAnswer.{EngineAnswer}
pub use Rattle.clone_plain.specs.declared.call.EngineCall.{EngineCall}
pub use Rattle.clone_plain.specs.Donor.{Donor, no_donor}
pub use Rattle.clone_plain.specs.Effects.{begun, with_change, Changes, Undoes, put_of}
pub use Rattle.clone_events.specs.Events.{Event, made, looked, acts, stops, ends, Change, showed, ordered, opened_follower, ShowsChange, ShowsChanges, ShowsIn, changed_by, changed_in, changed_all, ComesToStop, Events, PlainEvent, Happens, Shows, clone_after, counted, said}
pub use Rattle.clone_events.specs.Headline.{committed_at, AreCommits, MakesDrops, AreDrops, IsSet, AreSets, ShowsStop, all_events}
pub use Rattle.clone_events.specs.Runs.{MakesSet, Runs, not_begun, not_changed, set, MakesClean, all_clean, not_flushed, flushed, Starts, Finishes, Advances, GoesOn, IsBy, AreOfTasks, AreOfDonor, IsRound, AreRounds, no_round, next_round, MakesClone, HidesRows, IsExchange, loses, comes, MakesFollow, asks_nothing, hides, asks, first_asks, LineStep, Makes, MakesOne, output}
pub use Rattle.clone_events.specs.World.{World, Stop, Clone, Progress, absent, copying, over, opened, index_in, IsWithin, before_stop}
pub use Rattle.clone_plain.specs.declared.refusal.Cause.{Cause}

-- The words that the lemmas of this crate share.
pub use Rattle.clone_contents.proofs.Common.{drop-nil, cases_eq, cases_lt, length-replicate, same_Some, slice_get-get_or, AllByRecursion, big_bytes, length-bytes_high_first, part, kind_of, slot_at, Undo, Bucket, Record, Write, bound_key, row_slot, slots, Finds, unused, FindsFree, slot_in, row_in, present, records_of_change, records_of_taking_back, records_of_begin, records_of_end, made_first, entry_record, count_record, row_record, UndoEntry, IsEntry, entry_bytes, record_page, header_page, record_offset, UndoSlot, all_pages-is, Image, page_of, after_records, all_pages, undo_slot_of, Contents, contents_of, set_at, told_value, with_undo, undone, with_slot, HasPage, HasContents, IsFormed, commit_records, opening_records, position_record, is_unused, telling, committed, opened, MayChange, changed, MayTakeBack, taken_back}
pub use Rattle.clone_plain.proofs.Common.{length_push, none-some, nat_cmp_total, nat_cmp-IsAntisymmetric, get-empty, range_with_len, get-set_same, get-set_other, get-removed_same, cases_row, slice_get-pushed_last, get-removed_other, row_cmp_total, row_cmp_exact, after_changes, Rows, after_change, fold, Change, Commit, TRANSACTION_LIMIT, CHANGE_LIMIT, Donor, changes_of, no_donor, TakesBack, Changes, with_change, Commits, begun, Leaves, Releases, value_of, committed_rows, Opened, IsLocked, changes_by}
pub use Rattle.std.proofs.Math.Seq.{take-append_seam}
pub use Rattle.std.proofs.lemmas.List.{nil_from_length, get_or-replicate, get_or-set_other, get_or-set_same, get_or_past, length-set, set_past}
pub use Rattle.std.proofs.lemmas.Map.Lookups.{exact_unsigned}
pub use Rattle.std.proofs.lemmas.Option.{slice_get_past}
pub use Rattle.std.specs.FinMap.{len-empty, same_map, len-insert, len-remove}
pub use Rattle.std.specs.List.{list_any, IsDistinct}
pub use Rattle.std.specs.Option.{option_or, option_map_or}
pub use Rattle.clone_base.proofs.OrderedMaps.{get_listed, inserted, removed, inserted_same, len_listed, len-again, len-without, get-remove_some, len-below, removed_again}
pub use Rattle.clone_model.specs.Keys.{row_cmp}
pub use Rattle.clone_mtr.specs.Spelling.{spelling, longest, record_spelling}
pub use Rattle.clone_undo.specs.Entries.{IsBefore, entry_of}
pub use Rattle.clone_undo.specs.Places.{capacity, count_offset}
pub use Rattle.clone_undo.specs.Slots.{entry_on}
pub use Rattle.clone_image.specs.Image.{MakesNoPage, EditsPages}
pub use Rattle.clone_image.specs.Recovered.{recovered, system_pages}
pub use Rattle.clone_image.specs.Replay.{first_lsn, end_of, replayed}
pub use Rattle.clone_image.specs.Rows.{HasRows}
pub use Rattle.clone_contents.proofs.ChangeLemmas.{undo_is, undo_there, change_is, page_there}
pub use Rattle.clone_contents.proofs.SameContents.{set_at-other, set_at-same, slot-same, cases_slot, slot-other}
pub use Rattle.clone_contents.specs.Records.{system_size}
pub use Rattle.clone_plain.proofs.LockLemmas.{taken_locked, committed_locked, begun_locked, left_locked, changed_locked}
pub use Rattle.clone_plain.proofs.ValueLemmas.{changes_of_active, own-set, others-set, others-removed, taken_value, own_value, SameOthers, after_changes_same, committed_other, committed_value, begun_value, left_value, after_changes-append, value_is, changed_value, changed_value_other, taken_value_other}
pub use Rattle.clone_plain.specs.Causes.{change_cause, no_trx, whether, row_locked, least_unused, no_table, too_long, undo_full, locked_by, get_cause, begin_cause, create_cause, drop_cause, holds_in, least_holder}
pub use Rattle.clone_base.specs.declared.limits.TheConstants.{TABLE_LIMIT, VALUE_LIMIT}
pub use Rattle.clone_plain.specs.Donor.{Locks, history}
pub use Rattle.clone_plain.specs.Effects.{created, Gets, Begins, Undoes, dropped}
pub use Rattle.clone_plain.specs.declared.refusal.Cause.{Cause}
pub use Rattle.clone_plain.specs.declared.refusal.Cause.TheVariants.{NoSuchTable, SpaceFull, NoSuchTrx, RowLocked, ValueTooLong, UndoFull, DiskFault, TableExists, TableInUse, TooManyTables, TooManyTransactions}
pub use Rattle.clone_trx.specs.Locked.{holders_of, without, Lists, list_at, AreListed}
pub use Rattle.clone_trx.specs.Kept.{IsSafe, AreTables, Keeps, AreLoose, Has, IsHeld, IsNowhere, IsRowSlot, IsSpot, IsTargetFor, IsLast, IsLastRecord, HasNoFresh, IsFullAt, IsInRange, KeptBetween, TellsPages}
pub use Rattle.clone_trx.specs.Opened.{donor_of, front_of, TakesLast, Pops, opened_of}
pub use Rattle.clone_trx.specs.RowSlots.{page_number, told, state_of_row, held_value}
pub use Rattle.clone_trx.specs.Sound.{IsKept, StandsFor, IsSound, TellsChanges, TellsChange, IsUndoSlot, HoldsRows, Slots, Nexts, OnChain, HoldsTables, HoldsChains, HasChain, IsBound, HoldsUndo, HasSize, begins, goes_on}
pub use Rattle.clone_buffer.proofs.FrameLemmas.{holder_name, no_name}
pub use Rattle.clone_buffer.proofs.ImageLemmas.{past_count, still_there}
pub use Rattle.clone_buffer.specs.Buffered.{Buffered, IsBuffer, Shown, Shows, image_of}
pub use Rattle.clone_buffer.specs.Dropping.{AreUnpinned, DropsSpace, freed, given_up, is_page_below, without_pages}
pub use Rattle.clone_buffer.specs.Keeping.{IsKeptPage, Stands}
pub use Rattle.clone_buffer.specs.OnePage.{Beside, Copies, after_create, at_rest, bytes_in, engine_with, flight_of, flush_in, frame_of, has_space, is_open, no_copies, oldest_in, standing_in}
pub use Rattle.clone_buffer.specs.Writing.{Creates, HasFrame, HasMade, IsOnPage, Lengthens, any_names, changed_at, named_frame, with_made, written}
pub use Rattle.clone_contents.proofs.FindLemmas.{free_found, key_found, next_on, slot_on}
pub use Rattle.clone_contents.specs.Contents.{named}
pub use Rattle.clone_contents.specs.Spaces.{MayDrop, MayGrow, grown}
pub use Rattle.clone_image.proofs.Images.{get-put_other, get-put_same, page_of-elsewhere, page_of-made}
pub use Rattle.clone_image.specs.Redone.{Standing, no_space, redone}
pub use Rattle.clone_model.specs.declared.line.TheConstants.{HIGHEST_TABLE, MOST_BUCKETS, MOST_PAGES}
pub use Rattle.clone_mtr.specs.declared.record.Record.TheVariants.{Create, Extend, Init}
pub use Rattle.clone_outside.proofs.DiskCallLemmas.{reads_last, reads_none, reads_then, weaker}
pub use Rattle.clone_outside.specs.Disk.{DiskImage, ForTold, IsBeforeOrAfter, Steps, blank, with_created, with_removed}
pub use Rattle.clone_outside.specs.DiskCalls.{Reads}
pub use Rattle.clone_page.specs.Slots.{row_slot_count}
pub use Rattle.clone_page.specs.declared.kind.PageKind.TheVariants.{Overflow, System}
pub use Rattle.clone_plain.proofs.DropLemmas.{dropped_free, dropped_locked, dropped_value, dropped_value_other}
pub use Rattle.clone_plain.specs.declared.refusal.EngineRefusal.{EngineRefusal}
pub use Rattle.clone_plain.specs.declared.refusal.EngineRefusal.TheVariants.{Because, NoMemory}
pub use Rattle.clone_pool.proofs.NameLemmas.{is_own_name, name_at}
pub use Rattle.clone_pool.proofs.PoolLemmas.{holder_is}
pub use Rattle.clone_pool.specs.Frames.{claim_of, counts_as_open, discarded, emptied, filled, frame_at, freshened, holder, is_dirty, is_free, is_fresh, is_loading, left_in, loader, loading_in, loading_of, may_go, name_in, name_of, next_use, no_frame, pinned, touched, unpinned}
pub use Rattle.clone_pool.specs.Index.{Names, frame_number_of, is_name_of}
pub use Rattle.clone_pool.specs.Pool.{Fetches, Frames, Freshens, HasVictim, IsHolder, IsPool, IsVictim, KeepsInUse, TakesFrame, used, with_frame}
pub use Rattle.clone_pool.specs.declared.frame.Content.{Content}
pub use Rattle.clone_pool.specs.declared.frame.Content.TheVariants.{Fresh, Held, Loading, Unused}
pub use Rattle.clone_pool.specs.declared.frame.Frame.{Frame}
pub use Rattle.clone_pool.specs.declared.frame.PageName.{PageName}
pub use Rattle.clone_pool.specs.declared.pool.FetchRefusal.{FetchRefusal}
pub use Rattle.clone_row.specs.Chains.{IsChain, behind}
pub use Rattle.clone_space.proofs.EntryLemmas.{length-dictionary}
pub use Rattle.clone_space.specs.Entries.{dictionary, entry_in, free}
pub use Rattle.clone_space.specs.Records.{free_record, link_record, records_of_create, records_of_drop, records_of_growth, size_record}
pub use Rattle.clone_space.specs.declared.entry.TableEntry.{TableEntry}
pub use Rattle.clone_trx.specs.Calls.{before_change, begin_way, change_at, change_way, commit_way, create_way, drop_at, drop_way, get_way, grown_way, is_new, last_change, longer_at, longer_way, number_of_entry, number_of_free_entry, pages_told, row_page, row_walk, slot_way, system_page, tells_before, tells_of, told_way, undo_last, undo_way}
pub use Rattle.clone_trx.specs.Holding.{ArePinned, Call, Comes, HasCome, IsRefused, freshens_on, lengthens_on, reads_on, released, starts, times, walks_on}
pub use Rattle.clone_trx.specs.Placing.{change_call}
pub use Rattle.clone_trx.specs.Walking.{Follows, IsKeptHeld, MayGoOn}
pub use Rattle.clone_trx.specs.Ways.{Answers, Carries, Drops, FindsRoom, FindsWanted, Goes, HasRoom, Holds, IsFull, Lacks, Makes, Misses, MissesBy, PinsAtMost, StaysCreating, StaysStanding, Takes, Walks, WalksAll, Way, Writes, WritesWithout, arrives, cause_of, chain_page, drops, ends, finds, freshens, held, keeps, lengthens, let_go, let_go_kept, makes, misses, onward, page_in, passes, reads, returns, stops, walks, writes}
pub use Rattle.clone_trx.specs.declared.walk.Course.{Course}
pub use Rattle.clone_trx.specs.declared.walk.Spot.{Spot}
pub use Rattle.clone_undo.specs.Changes.{after}
pub use Rattle.std.proofs.Common.{BTreeMap, Bool, Bor, Contains, Err, Global, IfErr, IfOk, IfSome, IsErrAnd, IsErrOf, IsOk, IsSome, IsTrue, List, MatchOption, None, Ok, OnErr, OnOk, Option, Result, Some, Vec, [], add-one, ap, append-nil, append_assoc, arith, cond, drop, drop-cons, eqb-true, false, find, get_or, if◌then◌else◌, inl, inr, is_err, is_none, is_some, length, length-append, map, min, mod-lt, nat_cmp, nat_le, nat_lt, not, option_and_then, option_copied, option_map, option_to_list, refl, replicate, rules, set, slice_get, slice_set, subst, suc, sym, take, take_at, true, unwrap_or, zero, ℕ, ◌%◌, ◌&&◌, ◌++◌, ◌+◌, ◌-◌, ◌<◌, ◌==◌, ◌^◌, ◌||◌, ◌↔◌, ◌∙◌, ◌∷◌, ◌≡◌, ◌≢◌, ◌≤◌, ◌⊎◌}
pub use Rattle.std.proofs.lemmas.Bool.{and_from, and_parts, cond-false, cond-true, cond_both, eq-eqb, eqb-false, false_from_ne_true, false≢true, le-leb, leb-true, lt-leb, lt-ltb, ltb-true, true≢false}

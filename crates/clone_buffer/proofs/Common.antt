-- The words that the lemmas of this crate share.
pub use Rattle.clone_buffer.specs.Buffered.{IsBuffer, Buffered, Shows, Shown}
pub use Rattle.clone_buffer.specs.Keeping.{IsKept, IsKeptPage}
pub use Rattle.clone_buffer.specs.OnePage.{has_space, frame_in, Beside, Copies, flight_of, disk_standing, is_open, engine_with, frame_of}
pub use Rattle.clone_buffer.specs.Writing.{IsOnPage, Creates, written, any_names, after_records, MakesSpace, Writes, HasFrame}
pub use Rattle.clone_image.proofs.Images.{page_of-made, page_of-elsewhere, page_of-edited_same, page_of-past}
pub use Rattle.clone_image.proofs.RedoLemmas.{replayed_is_redone}
pub use Rattle.clone_image.specs.Image.{EditsPages, Image}
pub use Rattle.clone_image.specs.Redone.{stands, past_end, redone, Standing, no_space}
pub use Rattle.clone_image.specs.Replay.{first_lsn, IsSpelled, replayed}
pub use Rattle.clone_law.proofs.AppendLemmas.{suits_unnamed}
pub use Rattle.clone_law.proofs.EventLemmas.{kept as rule_kept}
pub use Rattle.clone_law.specs.Machine.{Copy, PageEngine, HasSpace, PageWorld}
pub use Rattle.clone_law.specs.Rule.{CopyRule, Rule}
pub use Rattle.clone_law.specs.Since.{ends, Suits}
pub use Rattle.clone_law.specs.Touches.{passes, names, resets, touches, passes_by, edits}
pub use Rattle.clone_mtr.specs.Effects.{effect}
pub use Rattle.clone_mtr.specs.Spelling.{spelling, log_of}
pub use Rattle.clone_mtr.specs.declared.record.Record.{Record}
pub use Rattle.clone_mtr.specs.declared.record.Record.TheVariants.{Create, Init}
pub use Rattle.clone_outside.specs.Disk.{GivesQuiet, DiskImage, ForTold}
pub use Rattle.clone_page.specs.Header.{zero_page}
pub use Rattle.clone_pool.proofs.NameLemmas.{is_own_name, named}
pub use Rattle.clone_pool.proofs.PoolLemmas.{within}
pub use Rattle.clone_pool.specs.Frames.{is_fresh, next_use, freshened, frame_at, touched, is_begun, holder, no_frame, HoldsPage, noted, name_in, name_of, claim_in, claim_of, claimant, loader, loading_of, is_free}
pub use Rattle.clone_pool.specs.Index.{is_name_of}
pub use Rattle.clone_pool.specs.Pool.{IsPool, with_frame, IsVictim, IsFrameFor, KeepsOthers, used, Frames}
pub use Rattle.clone_pool.specs.declared.frame.Content.{Content}
pub use Rattle.clone_pool.specs.declared.frame.Content.TheVariants.{Unused, Fresh, Loading}
pub use Rattle.clone_pool.specs.declared.frame.Flush.{Flush}
pub use Rattle.clone_pool.specs.declared.frame.Frame.{Frame}
pub use Rattle.clone_pool.specs.declared.frame.PageName.{PageName}
pub use Rattle.clone_pool.specs.declared.pool.FetchRefusal.{FetchRefusal}
pub use Rattle.clone_ring.specs.Window.{free_in, Window}
pub use Rattle.clone_ring.specs.declared.log_full.LogFull.{LogFull}
pub use Rattle.clone_buffer.specs.ShadowState.{State}
pub use Rattle.std.proofs.lemmas.Bool.{and_parts, cases_eq, cases_lt, eqb-true, true≢false, false≢true}
pub use Rattle.std.proofs.lemmas.List.{get_or-set_same, length-replicate, length-append, get_or-set_other, get_or-replicate}
pub use Rattle.std.specs.FinMap.{get-empty}
pub use Rattle.std.specs.List.{AllByRecursion}
pub use Rattle.std.specs.Ordering.{nat_cmp}

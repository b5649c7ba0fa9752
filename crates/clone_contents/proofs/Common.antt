-- The words that the lemmas of this crate share.
pub use Rattle.std.proofs.Math.Seq.{drop-nil}
pub use Rattle.std.proofs.lemmas.Bool.{cases_eq, cases_lt}
pub use Rattle.std.proofs.lemmas.List.{drop-replicate, take-replicate, get_or-replicate, length-replicate}
pub use Rattle.std.proofs.lemmas.Option.{same_Some, slice_get-get_or, slice_get_within}
pub use Rattle.std.specs.List.{AllByRecursion}
pub use Rattle.byteorder.specs.Endian.{big_bytes}
pub use Rattle.byteorder.specs.Numbers.{length-bytes_high_first}
pub use Rattle.clone_page.proofs.Parts.{length-initialised, field-part, length-put_allowed, field-put_at_same, field-put_at_other, length-with_lsn, kind_of-put_allowed, kind_of-with_lsn, kind_of-initialised, part-zeros, length-put_at, kind_of-put_body, slot-put_same, slot-put_other, field-put_front}
pub use Rattle.clone_page.specs.Bytes.{field, put_at, part}
pub use Rattle.clone_page.specs.Dictionary.{position_at, entry_space, Lists}
pub use Rattle.clone_page.specs.Header.{kind_of, IsAllowed, zero_page, initialised, header, trailer, with_lsn}
pub use Rattle.clone_page.specs.Slots.{slot, slot_at}
pub use Rattle.clone_page.specs.declared.kind.PageKind.TheVariants.{Undo, Bucket, Overflow, System}
pub use Rattle.clone_mtr.specs.Effects.{effect}
pub use Rattle.clone_mtr.specs.declared.record.Record.{Record}
pub use Rattle.clone_mtr.specs.declared.record.Record.TheVariants.{Init, Write, Extend, Create, Drop}
pub use Rattle.clone_space.proofs.EntryLemmas.{length-dictionary, entry_in-dictionary, dictionary-entry, dictionary-size, dictionary-before, dictionary-initialised}
pub use Rattle.clone_space.specs.declared.entry.TableEntry.{TableEntry}
pub use Rattle.clone_space.specs.Entries.{dictionary, entry_in, free, entry_at_offset, pages_at, IsEntry as IsTableEntry}
pub use Rattle.clone_space.specs.Records.{entry_bytes as table_bytes, entry_record as table_record, size_record, link_record, records_of_create, records_of_growth, records_of_drop}
pub use Rattle.clone_row.proofs.ChainLemmas.{behind-same, behind-made}
pub use Rattle.clone_row.proofs.Rows.{header-WritesSlot, length-image, slots-zero, slot_in-past, slot_in-slots, slot_of-unused, slots-WritesSlot, slots-initialised, slots-set, slot_of-image, row_in-slot_of, length-slots}
pub use Rattle.clone_row.specs.Chains.{behind}
pub use Rattle.clone_row.specs.Slots.{slots, slot_in, unused, Slot, row_slot, bound_key, slot_of, image, Finds, FindsFree, present, absent, damaged, row_in}
pub use Rattle.clone_undo.proofs.Headers.{slot-tells, slot-free, not_in_use, field-stamped}
pub use Rattle.clone_undo.specs.Changes.{after, AreWhole, after_row, slot_before, records_of_change, row_record, pages_after_record, records_of_end, made_first, count_record, entry_record, pages_after_edit, records_of_taking_back, records_of_begin}
pub use Rattle.clone_undo.specs.Entries.{UndoEntry, IsEntry, entry_bytes}
pub use Rattle.clone_undo.specs.Places.{header_page, record_page, record_offset, header_offset}
pub use Rattle.clone_undo.specs.Slots.{UndoSlot, undo_slot, active_of, is_in_use, entries, writer_of, index_of, count_of}
pub use Rattle.clone_image.proofs.Images.{page_of-edited_same, page_of-edited_other, get-put_same, get-put_other, page_of-elsewhere, page_of-made}
pub use Rattle.clone_image.proofs.Pages.{all_pages-is, page_count-edited, records_counts, records_pages}
pub use Rattle.clone_image.specs.Image.{Image, all_pages, page_of, after_records, EditsPages, page_count, AreWholePages, with_edit, edited}
pub use Rattle.clone_image.specs.Recovered.{undo_slot_of}
pub use Rattle.clone_image.specs.Rows.{HoldsSlots}
pub use Rattle.clone_contents.specs.Contents.{contents_of, Contents, named, set_at, told_value, with_slot, with_undo, HasPage, undone}
pub use Rattle.clone_contents.specs.Formed.{IsFormed, HasContents, IsOrUnused, IsRowsOrUnused}
pub use Rattle.clone_contents.specs.Records.{commit_records, position_record, opening_records}
pub use Rattle.clone_contents.specs.Steps.{is_unused, telling, MayChange, changed, committed, MayCreate, created, opened, MayUndo, MayTakeBack, taken_back, begun, ended}

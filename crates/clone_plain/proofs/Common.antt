-- The words that the lemmas of this crate share.
pub use Rattle.std.proofs.lemmas.Bool.{cases_eq}
pub use Rattle.std.proofs.lemmas.List.{length_push}
pub use Rattle.std.proofs.lemmas.Option.{none-some, same_Some, slice_get_within}
pub use Rattle.std.specs.Cmp.{nat_cmp_total}
pub use Rattle.std.specs.FinMap.{nat_cmp-IsAntisymmetric, get-empty}
pub use Rattle.std.specs.List.{range_with_len, AllByRecursion}
pub use Rattle.std.specs.Ordering.{eq_by_cmp}
pub use Rattle.clone_base.proofs.MapEntries.{get-set_same, get-set_other, cases_held, get-removed_same, cases_row, cases_pushed, slice_get-pushed_front, ties, apart, get-removed_other, slice_get-pushed_last}
pub use Rattle.clone_model.proofs.RowMaps.{row_cmp_total, row_cmp_exact, get-set_or_remove}
pub use Rattle.clone_model.specs.History.{Drops, Rows, fold, after_change, after_changes}
pub use Rattle.clone_model.specs.declared.change.Change.{Change}
pub use Rattle.clone_model.specs.declared.change.Commit.{Commit}
pub use Rattle.clone_base.specs.declared.limits.TheConstants.{TRANSACTION_LIMIT, CHANGE_LIMIT}
pub use Rattle.clone_plain.specs.Donor.{Donor, changes_of, no_donor}
pub use Rattle.clone_plain.specs.Effects.{begun, with_change, Changes, TakesBack, Leaves, Commits, Releases}
pub use Rattle.clone_plain.specs.Locked.{IsLocked, Opened, AreFew, changes_by, committed_rows, value_of}

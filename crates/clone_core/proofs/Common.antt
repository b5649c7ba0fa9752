-- The words that the lemmas of this crate share.
pub use Rattle.std.proofs.lemmas.Map.Lookups.{exact_unsigned}
pub use Rattle.std.specs.FinMap.{same_map, get-insert}
pub use Rattle.std.specs.Cmp.{nat_cmp_total, eq_by_cmp_equiv}
pub use Rattle.std.specs.Ordering.{eq_by_cmp}
pub use Rattle.clone_base.proofs.OrderedMaps.{get_listed, inserted}
pub use Rattle.clone_base.proofs.MapEntries.{is_equal, get-set_same}

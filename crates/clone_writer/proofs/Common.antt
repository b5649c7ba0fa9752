-- The words that the lemmas of this crate share.
pub use Rattle.std.proofs.lemmas.Bool.{cases_eq, eq-eqb, eqb-true, ne_eqb}
pub use Rattle.std.proofs.lemmas.Option.{same_Some}
pub use Rattle.std.specs.FinMap.{nat_cmp-IsAntisymmetric}
pub use Rattle.std.specs.Cmp.{nat_cmp_total}
pub use Rattle.clone_base.proofs.MapEntries.{get-set_same, get-set_other, get-removed_same, get-removed_other}
pub use Rattle.clone_model.specs.declared.change.Change.{Change}
pub use Rattle.clone_model.specs.declared.change.Commit.{Commit}
pub use Rattle.clone_plain.specs.Donor.{Donor}
pub use Rattle.clone_plain.specs.Effects.{Begins, Changes, Commits, Leaves, TakesBack, with_change}
pub use Rattle.clone_plain.specs.Locked.{Opened}
pub use Rattle.clone_plain.specs.declared.call.EngineAnswer.{EngineAnswer}
pub use Rattle.clone_plain.specs.declared.call.EngineCall.{EngineCall}
pub use Rattle.clone_plain.specs.declared.refusal.EngineRefusal.{EngineRefusal}
pub use Rattle.clone_plain.specs.declared.refusal.Undone.TheVariants.{Left, Ended}
pub use Rattle.clone_writer.specs.Writing.{of_writer, trx_of, Leads, IsOpen, IsAt, Agree, AreOf, BeginsFor, IsOthers, Spares}
pub use Rattle.clone_writer.specs.declared.writer.Place.{Place}
pub use Rattle.clone_writer.specs.declared.writer.Place.TheVariants.{Before, Within, Undoing}

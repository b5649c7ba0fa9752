-- A seat and a cell may go to another thread, and a cell is shared.
use mathlib.Core.List.{[], ◌∷◌}
use denote.RattleType.{RattleType}
use denote.Param.Send.{IsSend, IsSync, struct_send, recorded_send, view_send}
use denote.Struct.Declared.{shape}
use denote.Struct.Tuple.{Tuple, tuple_field, tuple_type}
use Rattle.std.specs.contracts.snapshot.Snapshot as Snap
use Rattle.std.specs.contracts.option.Option as Opt
use Rattle.std.proofs.option.Option.TheSendSync.{the_send as option_send}
use Rattle.atomic_table.proofs.shared.Seat.TheSendSync.{the_send as table_send}
use Rattle.clone_turn.specs.declared.machine.Machine.{Ghosts}
use Rattle.clone_turn.specs.contracts.raw.RawSeat as RawSeat
use Rattle.clone_turn.specs.contracts.cell.Seat as Seat
use Rattle.clone_turn.specs.contracts.cell.Seat.TheInside as Inside
use Rattle.clone_turn.specs.contracts.raw.RawCell as RawCell
use Rattle.clone_turn.specs.contracts.cell.TurnCell as Cell
use Rattle.clone_turn.specs.contracts.cell.TurnCell.TheInside as CellInside
use denote.Param.Send.{struct_sync, recorded_sync, view_sync}
use Rattle.atomic_table.proofs.owned.Table.TheSendSync.{the_field_send as whole_table_send, the_field_sync as table_sync}
use Rattle.clone_turn.specs.contracts.view.View as View
use Rattle.clone_turn.specs.contracts.rule.Turns as Turns
use Rattle.clone_turn.specs.contracts.rule.TurnsTableRuleHeldOfViewOfSnapshotState.TheImpl as Rule
use Rattle.std.below.std_heap.proofs.GlobalAllocator.TheSendSync.{the_frees}
use Rattle.std.proofs.alloc.Global.TheSendSync.{the_send as global_send, the_sync as global_sync}

snapshot_send : (Y : RattleType) → IsSend (Snap.the_row Y)
snapshot_send Y = record { owned = λ d vs. ((λ vss. (tt, ((λ uss. (tt, tt)), tt))), tt); leaving = λ k f vs. tt }

pair_send : (R T : RattleType) → IsSend R → IsSend T → IsSend (Tuple (R ∷ T ∷ []))
pair_send R T r t = recorded_send (tuple_field (R ∷ T ∷ [])).row _ _ (tuple_type (R ∷ T ∷ [])).to_one (struct_send (shape (tuple_type (R ∷ T ∷ []))) (r, (t, tt)))

module _ (M S C A K : RattleType) (s : IsSend S) where
  held_send : IsSend (Opt.the_row (Tuple (S ∷ Opt.the_row (Tuple (Snap.the_row C ∷ Snap.the_row A ∷ [])) ∷ [])))
  held_send = option_send _ (pair_send _ _ s (option_send _ (pair_send _ _ (snapshot_send C) (snapshot_send A))))

  raw_send : IsSend (RawSeat.the_field M S C A K).row
  raw_send = struct_send (shape (RawSeat.the_type M S C A K)) (table_send _ _ held_send, tt)

  module _ (g : Ghosts M.Denot S.Denot C.Denot A.Denot K.Denot) where
    inside_send : IsSend (Inside.the_row M S C A K g)
    inside_send = recorded_send (Inside.the_field M S C A K g).row _ _ (Inside.the_type M S C A K g).to_one (struct_send (shape (Inside.the_type M S C A K g)) (raw_send, tt))

    pub seat_send : IsSend (Seat.the_row M S C A K g)
    seat_send = view_send _ _ _ _ _ inside_send

module _ (M S C A K : RattleType) (g : Ghosts M.Denot S.Denot C.Denot A.Denot K.Denot) (s : IsSend S) where
  raw_sync : IsSync (RawCell.the_field M S C A K g).row
  raw_sync = struct_sync (shape (RawCell.the_type M S C A K g)) (table_sync _ (View.the_row S C A) (Snap.the_row S) (Turns.the_row M) _ (Rule.ghosts M S C A K g Rule.no_dict Rule.no_dict) _ (held_send M S C A K s) global_send global_sync the_frees, tt)

  cell_inside_sync : IsSync (CellInside.the_row M S C A K g)
  cell_inside_sync = recorded_sync (CellInside.the_field M S C A K g).row _ _ (CellInside.the_type M S C A K g).to_one (struct_sync (shape (CellInside.the_type M S C A K g)) (raw_sync, tt))

  pub cell_sync : IsSync (Cell.the_row M S C A K g)
  cell_sync = view_sync _ _ _ _ _ cell_inside_sync

  raw_cell_send : IsSend (RawCell.the_field M S C A K g).row
  raw_cell_send = struct_send (shape (RawCell.the_type M S C A K g)) (whole_table_send _ (View.the_row S C A) (Snap.the_row S) (Turns.the_row M) _ (Rule.ghosts M S C A K g Rule.no_dict Rule.no_dict) _ (held_send M S C A K s) global_send the_frees, tt)

  cell_inside_send : IsSend (CellInside.the_row M S C A K g)
  cell_inside_send = recorded_send (CellInside.the_field M S C A K g).row _ _ (CellInside.the_type M S C A K g).to_one (struct_send (shape (CellInside.the_type M S C A K g)) (raw_cell_send, tt))

  pub cell_send : IsSend (Cell.the_row M S C A K g)
  cell_send = view_send _ _ _ _ _ cell_inside_send

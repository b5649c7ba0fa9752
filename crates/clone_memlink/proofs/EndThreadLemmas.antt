-- An end in memory may go to another thread, with its runtime.
use denote.RattleType.{RattleType}
use denote.Builtin.{bool, u64, unit}
use denote.Param.Send.{IsSend, IsSync, struct_send, struct_sync, recorded_send, recorded_sync, view_send, sendable}
use denote.Struct.Declared.{shape}
use Rattle.std.specs.contracts.alloc.Global as Global
use Rattle.std.below.std_alloc.specs.contracts.arc.Arc as Arc
use Rattle.std.specs.contracts.impls.GlobalAllocator.TheImpl as Heap
use Rattle.std.below.std_alloc.proofs.arc.Arc.TheSendSync.{the_send as arc_send}
use Rattle.std.proofs.alloc.Global.TheSendSync.{the_send as global_send, the_sync as global_sync}
use Rattle.std.below.std_heap.proofs.GlobalAllocator.TheSendSync.{the_frees}
use Rattle.clone_turn.specs.contracts.cell.Seat as Seat
use Rattle.clone_turn.specs.contracts.cell.TurnCell as Cell
use Rattle.clone_turn.proofs.SeatThreadLemmas.{seat_send, cell_send, cell_sync}
use Rattle.clone_memlink.proofs.bell.Bell.TheSendSync.{the_field_send as bell_send, the_field_sync as bell_sync}
use Rattle.clone_memlink.proofs.connection.Connection.TheSendSync.{the_send as connection_send}
use Rattle.clone_outside.proofs.link.Side.TheSendSync.{the_field_send as side_send}
use Rattle.clone_memlink.specs.contracts.connection.Connection as Connection
use Rattle.clone_memlink.specs.contracts.connection.LinkCall as LinkCall
use Rattle.clone_memlink.specs.contracts.connection.LinkAnswer as LinkAnswer
use Rattle.clone_memlink.specs.contracts.connection.LinkMachine as Machine
use Rattle.clone_memlink.specs.contracts.connection.LinkMachineMachine.TheImpl.{ghosts}
use Rattle.clone_memlink.specs.contracts.mem_end.Line as Line
use Rattle.clone_memlink.specs.contracts.mem_end.MemEnd as End
use Rattle.clone_memlink.specs.contracts.mem_end.MemEnd.TheInside as Inside

cell_goes : IsSend (Cell.the_row Machine.the_row Connection.the_row LinkCall.the_row LinkAnswer.the_row unit ghosts)
cell_goes = cell_send Machine.the_row Connection.the_row LinkCall.the_row LinkAnswer.the_row unit ghosts connection_send

cell_shared : IsSync (Cell.the_row Machine.the_row Connection.the_row LinkCall.the_row LinkAnswer.the_row unit ghosts)
cell_shared = cell_sync Machine.the_row Connection.the_row LinkCall.the_row LinkAnswer.the_row unit ghosts connection_send

line_send : IsSend Line.the_row
line_send = recorded_send Line.the_field.row _ _ Line.the_type.to_one (struct_send (shape Line.the_type) (cell_goes, (bell_send, tt)))

line_sync : IsSync Line.the_row
line_sync = recorded_sync Line.the_field.row _ _ Line.the_type.to_one (struct_sync (shape Line.the_type) (cell_shared, (bell_sync, tt)))

shared_line : IsSend (Arc.the_row Line.the_row Global.the_row Heap.ghosts)
shared_line = arc_send Line.the_row Global.the_row Heap.ghosts line_send global_send line_sync global_sync the_frees

seat_goes : IsSend (Seat.the_row Machine.the_row Connection.the_row LinkCall.the_row LinkAnswer.the_row unit ghosts)
seat_goes = seat_send Machine.the_row Connection.the_row LinkCall.the_row LinkAnswer.the_row unit connection_send ghosts

module _ (R : RattleType) (r : IsSend R) where
  inside_send : IsSend (Inside.the_row R)
  inside_send =
      let bit : IsSend bool = search sendable in
      let count : IsSend u64 = search sendable in
      recorded_send (Inside.the_field R).row _ _ (Inside.the_type R).to_one (struct_send (shape (Inside.the_type R)) (r, (shared_line, (seat_goes, (side_send, (bit, (count, tt)))))))

  pub end_send : IsSend (End.the_row R)
  end_send = view_send _ _ _ _ _ inside_send

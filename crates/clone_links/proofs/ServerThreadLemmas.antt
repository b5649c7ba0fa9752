-- A server may go to another thread, with its seat, its gate and its runtime.
use denote.RattleType.{RattleType}
use denote.Builtin.{u8, unit}
use denote.Param.Send.{IsSend, IsSync, struct_send, recorded_send, view_send, sendable}
use denote.Struct.Declared.{shape}
use Rattle.std.specs.contracts.alloc.Global as Global
use Rattle.std.below.std_alloc.specs.contracts.arc.Arc as Arc
use Rattle.std.specs.contracts.impls.GlobalAllocator.TheImpl as Heap
use Rattle.std.below.std_alloc.proofs.arc.Arc.TheSendSync.{the_send as arc_send}
use Rattle.std.proofs.alloc.Global.TheSendSync.{the_send as global_send, the_sync as global_sync}
use Rattle.std.below.std_heap.proofs.GlobalAllocator.TheSendSync.{the_frees}
use Rattle.clone_outside.specs.declared.disk.PageDisk.{Ghosts}
use Rattle.clone_turn.specs.contracts.cell.Seat as Seat
use Rattle.clone_turn.specs.contracts.cell.TurnCell as Cell
use Rattle.clone_turn.proofs.SeatThreadLemmas.{seat_send, cell_send, cell_sync}
use Rattle.clone_machine.specs.contracts.calls.JobAnswer as JobAnswer
use Rattle.clone_machine.specs.contracts.calls.JobCall as JobCall
use Rattle.clone_machine.specs.contracts.machine.DonorMachine as Machine
use Rattle.clone_machine.specs.contracts.machine.DonorMachineMachine.TheImpl as Impl
use Rattle.clone_machine.specs.contracts.shared.SharedDonor as SharedDonor
use Rattle.clone_machine.proofs.shared.SharedDonor.TheSendSync.{the_send as donor_send}
use Rattle.clone_links.specs.contracts.server.Server as Server
use Rattle.clone_links.specs.contracts.server.Server.TheInside as Inside

module _ (D G H : RattleType) (d : Ghosts D.Denot) (disk : IsSend D) (gate : IsSend G) (gate_shared : IsSync G) (runtime : IsSend H) where
  donor_goes : IsSend (SharedDonor.the_row D d)
  donor_goes = donor_send D d disk

  seat_goes : IsSend (Seat.the_row (Machine.the_row D) (SharedDonor.the_row D d) JobCall.the_row JobAnswer.the_row unit (Impl.ghosts D d Impl.no_dict Impl.no_dict))
  seat_goes = seat_send (Machine.the_row D) (SharedDonor.the_row D d) JobCall.the_row JobAnswer.the_row unit donor_goes (Impl.ghosts D d Impl.no_dict Impl.no_dict)

  cell_goes : IsSend (Cell.the_row (Machine.the_row D) (SharedDonor.the_row D d) JobCall.the_row JobAnswer.the_row unit (Impl.ghosts D d Impl.no_dict Impl.no_dict))
  cell_goes = cell_send (Machine.the_row D) (SharedDonor.the_row D d) JobCall.the_row JobAnswer.the_row unit (Impl.ghosts D d Impl.no_dict Impl.no_dict) donor_goes

  cell_shared : IsSync (Cell.the_row (Machine.the_row D) (SharedDonor.the_row D d) JobCall.the_row JobAnswer.the_row unit (Impl.ghosts D d Impl.no_dict Impl.no_dict))
  cell_shared = cell_sync (Machine.the_row D) (SharedDonor.the_row D d) JobCall.the_row JobAnswer.the_row unit (Impl.ghosts D d Impl.no_dict Impl.no_dict) donor_goes

  shared_cell : IsSend (Arc.the_row (Cell.the_row (Machine.the_row D) (SharedDonor.the_row D d) JobCall.the_row JobAnswer.the_row unit (Impl.ghosts D d Impl.no_dict Impl.no_dict)) Global.the_row Heap.ghosts)
  shared_cell = arc_send _ Global.the_row Heap.ghosts cell_goes global_send cell_shared global_sync the_frees

  shared_gate : IsSend (Arc.the_row G Global.the_row Heap.ghosts)
  shared_gate = arc_send G Global.the_row Heap.ghosts gate global_send gate_shared global_sync the_frees

  inside_send : IsSend (Inside.the_row D G H d)
  inside_send =
      let byte : IsSend u8 = search sendable in
      recorded_send (Inside.the_field D G H d).row _ _ (Inside.the_type D G H d).to_one
      (struct_send (shape (Inside.the_type D G H d)) (runtime, (shared_cell, (seat_goes, (byte, (shared_gate, tt))))))

  pub server_send : IsSend (Server.the_row D G H d)
  server_send = view_send _ _ _ _ _ inside_send

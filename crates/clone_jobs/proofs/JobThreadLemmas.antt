-- A job may go to another thread, with its seat, its gate and its runtime, and so may its end.
use mathlib.Core.List.{[], ◌∷◌}
use mir.Syntax.{Sym}
use denote.RattleType.{RattleType}
use denote.Builtin.{u32, u64, unit}
use denote.Param.Send.{IsSend, IsSync, struct_send, recorded_send, sendable}
use denote.Struct.Declared.{shape}
use denote.Struct.Tuple.{TupleAt, field_at, type_at}
use Rattle.std.specs.contracts.alloc.Global as Global
use Rattle.std.below.std_alloc.specs.contracts.arc.Arc as Arc
use Rattle.std.specs.contracts.impls.GlobalAllocator.TheImpl as Heap
use Rattle.std.below.std_alloc.proofs.arc.Arc.TheSendSync.{the_send as arc_send}
use Rattle.std.proofs.alloc.Global.TheSendSync.{the_send as global_send, the_sync as global_sync, the_field_send as alloc_send}
use Rattle.std.below.std_heap.proofs.GlobalAllocator.TheSendSync.{the_frees}
use Rattle.clone_turn.specs.contracts.cell.Seat as Seat
use Rattle.clone_turn.specs.contracts.cell.TurnCell as Cell
use Rattle.clone_turn.proofs.SeatThreadLemmas.{seat_send, cell_send, cell_sync}
use Rattle.clone_outside.specs.declared.disk.PageDisk.{Ghosts}
use Rattle.clone_machine.specs.contracts.calls.JobAnswer as JobAnswer
use Rattle.clone_machine.specs.contracts.calls.JobCall as JobCall
use Rattle.clone_machine.specs.contracts.machine.DonorMachine as Machine
use Rattle.clone_machine.specs.contracts.machine.DonorMachineMachine.TheImpl as Impl
use Rattle.clone_machine.specs.contracts.shared.SharedDonor as SharedDonor
use Rattle.clone_machine.proofs.shared.SharedDonor.TheSendSync.{the_send as donor_send}
use Rattle.clone_jobs.specs.contracts.job_end.JobEnd as End
use Rattle.clone_jobs.specs.contracts.upkeep.UpkeepJob as Upkeeping
use Rattle.clone_jobs.specs.contracts.writing.WriterJob as Writing
use Rattle.clone_jobs.proofs.ending.Ending.TheSendSync.{the_field_send as ending_send}
use Rattle.clone_jobs.proofs.upkeep.Upkeep.TheSendSync.{the_field_send as upkeep_send}

-- what a closure has captured, where it is one thing
pub one_send : (ν : Sym) (P : RattleType) → IsSend P → IsSend (TupleAt ν (P ∷ []))
one_send ν P p =
    recorded_send (field_at ν (P ∷ [])).row _ _ (type_at ν (P ∷ [])).to_one
    (struct_send (shape (type_at ν (P ∷ []))) (p, tt))

module _ (D : RattleType) (d : Ghosts D.Denot) (disk : IsSend D) where
  donor_goes : IsSend (SharedDonor.the_row D d)
  donor_goes = donor_send D d disk

  seat_goes : IsSend (Seat.the_row (Machine.the_row D) (SharedDonor.the_row D d) JobCall.the_row JobAnswer.the_row unit (Impl.ghosts D d Impl.no_dict Impl.no_dict))
  seat_goes = seat_send (Machine.the_row D) (SharedDonor.the_row D d) JobCall.the_row JobAnswer.the_row unit donor_goes (Impl.ghosts D d Impl.no_dict Impl.no_dict)

  cell_goes : IsSend (Cell.the_row (Machine.the_row D) (SharedDonor.the_row D d) JobCall.the_row JobAnswer.the_row unit (Impl.ghosts D d Impl.no_dict Impl.no_dict))
  cell_goes = cell_send (Machine.the_row D) (SharedDonor.the_row D d) JobCall.the_row JobAnswer.the_row unit (Impl.ghosts D d Impl.no_dict Impl.no_dict) donor_goes

  cell_shared : IsSync (Cell.the_row (Machine.the_row D) (SharedDonor.the_row D d) JobCall.the_row JobAnswer.the_row unit (Impl.ghosts D d Impl.no_dict Impl.no_dict))
  cell_shared = cell_sync (Machine.the_row D) (SharedDonor.the_row D d) JobCall.the_row JobAnswer.the_row unit (Impl.ghosts D d Impl.no_dict Impl.no_dict) donor_goes

  pub end_send : IsSend (End.the_row D d)
  end_send = recorded_send (End.the_field D d).row _ _ (End.the_type D d).to_one (struct_send (shape (End.the_type D d)) (seat_goes, (ending_send, tt)))

  module _ (G H : RattleType) (gate : IsSend G) (gate_shared : IsSync G) (runtime : IsSend H) where
    shared_cell : IsSend (Arc.the_row (Cell.the_row (Machine.the_row D) (SharedDonor.the_row D d) JobCall.the_row JobAnswer.the_row unit (Impl.ghosts D d Impl.no_dict Impl.no_dict)) Global.the_row Heap.ghosts)
    shared_cell = arc_send _ Global.the_row Heap.ghosts cell_goes global_send cell_shared global_sync the_frees

    shared_gate : IsSend (Arc.the_row G Global.the_row Heap.ghosts)
    shared_gate = arc_send G Global.the_row Heap.ghosts gate global_send gate_shared global_sync the_frees

    pub upkeep_job_send : IsSend (Upkeeping.the_row D G H d)
    upkeep_job_send =
        recorded_send (Upkeeping.the_field D G H d).row _ _ (Upkeeping.the_type D G H d).to_one
        (struct_send (shape (Upkeeping.the_type D G H d)) (shared_cell, (seat_goes, (upkeep_send, (shared_gate, (runtime, tt))))))

    pub writer_job_send : IsSend (Writing.the_row D G H d)
    writer_job_send =
        let long : IsSend u64 = search sendable in
        let short : IsSend u32 = search sendable in
        recorded_send (Writing.the_field D G H d).row _ _ (Writing.the_type D G H d).to_one
        (struct_send (shape (Writing.the_type D G H d)) (shared_cell, (seat_goes, (long, (short, (short, (long, (shared_gate, (alloc_send, (runtime, tt))))))))))

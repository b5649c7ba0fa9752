-- What calls a machine may go to another thread, and so may a task that fetches.
use denote.RattleType.{RattleType}
use denote.Builtin.{u8, u32, u64, unit}
use denote.Param.Send.{IsSend, IsSync, struct_send, recorded_send, view_send, fixed_send, sendable}
use denote.Struct.Declared.{shape}
use Rattle.std.specs.contracts.alloc.Global as Global
use Rattle.std.below.std_alloc.specs.contracts.arc.Arc as Arc
use Rattle.std.specs.contracts.impls.GlobalAllocator.TheImpl as Heap
use Rattle.std.proofs.option.Option.TheSendSync.{the_field_send as option_send}
use Rattle.std.below.std_alloc.proofs.arc.Arc.TheSendSync.{the_send as arc_send}
use Rattle.std.proofs.alloc.Global.TheSendSync.{the_send as global_send, the_sync as global_sync, the_field_send as alloc_send}
use Rattle.std.below.std_heap.proofs.GlobalAllocator.TheSendSync.{the_frees}
use Rattle.clone_outside.specs.declared.disk.PageDisk.{Ghosts as Disk}
use Rattle.clone_turn.specs.declared.machine.Machine.{Ghosts}
use Rattle.clone_turn.specs.contracts.cell.TurnCell as Cell
use Rattle.clone_turn.proofs.SeatThreadLemmas.{cell_send, cell_sync, seat_send}
use Rattle.clone_fetch.specs.contracts.fetch_core.FetchCore as Core
use Rattle.clone_fetch.specs.contracts.fetch_core.FetchCore.TheInside as CoreInside
use Rattle.clone_fetching.specs.contracts.machine.RecipientAnswer as RecipientAnswer
use Rattle.clone_fetching.specs.contracts.machine.RecipientCall as RecipientCall
use Rattle.clone_fetching.specs.contracts.machine.RecipientMachine as Machine
use Rattle.clone_fetching.specs.contracts.machine.RecipientMachineMachine.TheImpl as Impl
use Rattle.clone_fetching.specs.contracts.recipient.Recipient as Recipient
use Rattle.clone_fetching.proofs.recipient.Recipient.TheSendSync.{the_send as recipient_send}
use Rattle.clone_copying.specs.contracts.caller.Caller as Caller
use Rattle.clone_copying.specs.contracts.caller.Caller.TheInside as Inside
use Rattle.clone_copying.specs.contracts.fetcher.Fetcher as Fetcher
use Rattle.clone_copying.specs.contracts.fetcher.Fetcher.TheInside as FetcherInside
use Rattle.clone_copying.specs.contracts.pause.Pause as Pause

module _ (M H S C A K : RattleType) (g : Ghosts M.Denot S.Denot C.Denot A.Denot K.Denot) (h : IsSend H) (s : IsSend S) where
  shared_cell : IsSend (Arc.the_row (Cell.the_row M S C A K g) Global.the_row Heap.ghosts)
  shared_cell = arc_send (Cell.the_row M S C A K g) Global.the_row Heap.ghosts (cell_send M S C A K g s) global_send (cell_sync M S C A K g s) global_sync the_frees

  inside_send : IsSend (Inside.the_row M H S C A K g)
  inside_send =
      recorded_send (Inside.the_field M H S C A K g).row _ _ (Inside.the_type M H S C A K g).to_one
      (struct_send (shape (Inside.the_type M H S C A K g)) (h, (shared_cell, (seat_send M S C A K s g, tt))))

  pub caller_send : IsSend (Caller.the_row M H S C A K g)
  caller_send = view_send _ _ _ _ _ inside_send

core_send : IsSend Core.the_row
core_send =
    let one : IsSend u32 = search sendable in
    fixed_send _ _ _ _ Core.the_view (λ a. Unit {0}) (recorded_send CoreInside.the_field.row _ _ CoreInside.the_type.to_one (struct_send (shape CoreInside.the_type) (option_send u32 one, tt)))

pause_send : IsSend (Pause.the_field).row
pause_send = let long : IsSend u64 = search sendable in struct_send (shape Pause.the_type) (long, tt)

module _ (R G H : RattleType) (r : Disk R.Denot) (disk : IsSend R) (gate : IsSend G) (gate_shared : IsSync G) (runtime : IsSend H) where
  shared_gate : IsSend (Arc.the_row G Global.the_row Heap.ghosts)
  shared_gate = arc_send G Global.the_row Heap.ghosts gate global_send gate_shared global_sync the_frees

  recipient_caller_send : IsSend (Caller.the_row (Machine.the_row R) H (Recipient.the_row R r) RecipientCall.the_row RecipientAnswer.the_row unit (Impl.ghosts R r Impl.no_dict Impl.no_dict))
  recipient_caller_send = caller_send (Machine.the_row R) H (Recipient.the_row R r) RecipientCall.the_row RecipientAnswer.the_row unit (Impl.ghosts R r Impl.no_dict Impl.no_dict) runtime (recipient_send R r disk)

  fetcher_inside_send : IsSend (FetcherInside.the_row R G H r)
  fetcher_inside_send =
      let byte : IsSend u8 = search sendable in
      let long : IsSend u64 = search sendable in
      recorded_send (FetcherInside.the_field R G H r).row _ _ (FetcherInside.the_type R G H r).to_one
      (struct_send (shape (FetcherInside.the_type R G H r)) (runtime, (alloc_send, (recipient_caller_send, (shared_gate, (byte, (core_send, (long, (pause_send, tt)))))))))

  pub fetcher_send : IsSend (Fetcher.the_row R G H r)
  fetcher_send = view_send _ _ _ _ _ fetcher_inside_send

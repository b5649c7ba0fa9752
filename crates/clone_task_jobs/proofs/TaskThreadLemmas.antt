-- The jobs of a task may go to other threads, and so may their ends.
use denote.RattleType.{RattleType}
use denote.Builtin.{u8, unit}
use denote.Param.Send.{IsSend, IsSync, struct_send, recorded_send, sendable}
use denote.Struct.Declared.{shape}
use Rattle.std.proofs.alloc.Global.TheSendSync.{the_field_send as alloc_send}
use Rattle.clone_outside.specs.declared.disk.PageDisk.{Ghosts as Disk}
use Rattle.clone_outside.specs.declared.link.Link.{Ghosts as Link}
use Rattle.clone_outside.specs.declared.link.Net.{Ghosts as Net}
use Rattle.clone_turn.specs.contracts.cell.Seat as Seat
use Rattle.clone_turn.proofs.SeatThreadLemmas.{seat_send}
use Rattle.clone_desk.specs.contracts.desk.Desk as Desk
use Rattle.clone_desk.specs.contracts.machine.DeskAnswer as DeskAnswer
use Rattle.clone_desk.specs.contracts.machine.DeskCall as DeskCall
use Rattle.clone_desk.specs.contracts.machine.DeskMachine as DeskMachine
use Rattle.clone_desk.specs.contracts.machine.DeskMachineMachine.TheImpl as DeskImpl
use Rattle.clone_desk.proofs.DeskThreadLemmas.{desk_send}
use Rattle.clone_fetching.specs.contracts.machine.RecipientAnswer as RecipientAnswer
use Rattle.clone_fetching.specs.contracts.machine.RecipientCall as RecipientCall
use Rattle.clone_fetching.specs.contracts.machine.RecipientMachine as RecipientMachine
use Rattle.clone_fetching.specs.contracts.machine.RecipientMachineMachine.TheImpl as RecipientImpl
use Rattle.clone_fetching.specs.contracts.recipient.Recipient as Recipient
use Rattle.clone_fetching.proofs.recipient.Recipient.TheSendSync.{the_send as recipient_send}
use Rattle.clone_machine.specs.contracts.calls.JobAnswer as JobAnswer
use Rattle.clone_machine.specs.contracts.calls.JobCall as JobCall
use Rattle.clone_machine.specs.contracts.machine.DonorMachine as DonorMachine
use Rattle.clone_machine.specs.contracts.machine.DonorMachineMachine.TheImpl as DonorImpl
use Rattle.clone_machine.specs.contracts.shared.SharedDonor as SharedDonor
use Rattle.clone_machine.proofs.shared.SharedDonor.TheSendSync.{the_send as donor_send}
use Rattle.clone_copying.specs.contracts.caller.Caller as Caller
use Rattle.clone_copying.proofs.ThreadLemmas.{caller_send, fetcher_send}
use Rattle.clone_copying.proofs.fetch_end.FetchEnd.TheSendSync.{the_field_send as how_send}
use Rattle.clone_jobs.proofs.ending.Ending.TheSendSync.{the_field_send as ending_send}
use Rattle.clone_links.proofs.ServerThreadLemmas.{server_send}
use Rattle.clone_task_jobs.specs.contracts.fetching.FetchJob as Fetching
use Rattle.clone_task_jobs.specs.contracts.fetching.FetchJobEnd as Fetched
use Rattle.clone_task_jobs.specs.contracts.serving.ServeJob as Serving
use Rattle.clone_task_jobs.specs.contracts.serving.ServeJobEnd as Served

-- a seat at the donor, and what calls it
module _ (D : RattleType) (d : Disk D.Denot) (disk : IsSend D) where
  donor_seat_send : IsSend (Seat.the_row (DonorMachine.the_row D) (SharedDonor.the_row D d) JobCall.the_row JobAnswer.the_row unit (DonorImpl.ghosts D d DonorImpl.no_dict DonorImpl.no_dict))
  donor_seat_send = seat_send (DonorMachine.the_row D) (SharedDonor.the_row D d) JobCall.the_row JobAnswer.the_row unit (donor_send D d disk) (DonorImpl.ghosts D d DonorImpl.no_dict DonorImpl.no_dict)

  donor_caller_send : (H : RattleType) → IsSend H → IsSend (Caller.the_row (DonorMachine.the_row D) H (SharedDonor.the_row D d) JobCall.the_row JobAnswer.the_row unit (DonorImpl.ghosts D d DonorImpl.no_dict DonorImpl.no_dict))
  donor_caller_send H runtime = caller_send (DonorMachine.the_row D) H (SharedDonor.the_row D d) JobCall.the_row JobAnswer.the_row unit (DonorImpl.ghosts D d DonorImpl.no_dict DonorImpl.no_dict) runtime (donor_send D d disk)

-- a seat at the recipient
module _ (R : RattleType) (r : Disk R.Denot) (disk : IsSend R) where
  recipient_seat_send : IsSend (Seat.the_row (RecipientMachine.the_row R) (Recipient.the_row R r) RecipientCall.the_row RecipientAnswer.the_row unit (RecipientImpl.ghosts R r RecipientImpl.no_dict RecipientImpl.no_dict))
  recipient_seat_send = seat_send (RecipientMachine.the_row R) (Recipient.the_row R r) RecipientCall.the_row RecipientAnswer.the_row unit (recipient_send R r disk) (RecipientImpl.ghosts R r RecipientImpl.no_dict RecipientImpl.no_dict)

-- a seat at the desk, and what calls it
module _ (N L X : RattleType) (net : Net N.Denot L.Denot X.Denot) (link : Link L.Denot X.Denot) (goes : IsSend N) (end : IsSend L) where
  desk_seat_send : IsSend (Seat.the_row (DeskMachine.the_row N) (Desk.the_row N L X net link) (DeskCall.the_row L) (DeskAnswer.the_row L) unit (DeskImpl.ghosts N L X net DeskImpl.no_dict link DeskImpl.no_dict DeskImpl.no_dict DeskImpl.no_dict))
  desk_seat_send = seat_send (DeskMachine.the_row N) (Desk.the_row N L X net link) (DeskCall.the_row L) (DeskAnswer.the_row L) unit (desk_send N L X net link goes end) (DeskImpl.ghosts N L X net DeskImpl.no_dict link DeskImpl.no_dict DeskImpl.no_dict DeskImpl.no_dict)

  desk_caller_send : (H : RattleType) → IsSend H → IsSend (Caller.the_row (DeskMachine.the_row N) H (Desk.the_row N L X net link) (DeskCall.the_row L) (DeskAnswer.the_row L) unit (DeskImpl.ghosts N L X net DeskImpl.no_dict link DeskImpl.no_dict DeskImpl.no_dict DeskImpl.no_dict))
  desk_caller_send H runtime = caller_send (DeskMachine.the_row N) H (Desk.the_row N L X net link) (DeskCall.the_row L) (DeskAnswer.the_row L) unit (DeskImpl.ghosts N L X net DeskImpl.no_dict link DeskImpl.no_dict DeskImpl.no_dict DeskImpl.no_dict) runtime (desk_send N L X net link goes end)

module _ (D N L X : RattleType) (d : Disk D.Denot) (net : Net N.Denot L.Denot X.Denot) (link : Link L.Denot X.Denot) (disk : IsSend D) (goes : IsSend N) (end : IsSend L) where
  pub serve_end_send : IsSend (Served.the_row D N L X d net link)
  serve_end_send =
      recorded_send (Served.the_field D N L X d net link).row _ _ (Served.the_type D N L X d net link).to_one
      (struct_send (shape (Served.the_type D N L X d net link)) (donor_seat_send D d disk, (desk_seat_send N L X net link goes end, (ending_send, tt))))

  module _ (R : RattleType) (r : Disk R.Denot) (copy : IsSend R) where
    pub fetch_end_send : IsSend (Fetched.the_row D R N L X d r net link)
    fetch_end_send =
        recorded_send (Fetched.the_field D R N L X d r net link).row _ _ (Fetched.the_type D R N L X d r net link).to_one
        (struct_send (shape (Fetched.the_type D R N L X d r net link)) (recipient_seat_send R r copy, (desk_seat_send N L X net link goes end, (donor_seat_send D d disk, (how_send, tt)))))

  module _ (G H : RattleType) (gate : IsSend G) (gate_shared : IsSync G) (runtime : IsSend H) where
    pub serve_job_send : IsSend (Serving.the_row D N G H L X d net link)
    serve_job_send =
        let byte : IsSend u8 = search sendable in
        recorded_send (Serving.the_field D N G H L X d net link).row _ _ (Serving.the_type D N G H L X d net link).to_one
        (struct_send (shape (Serving.the_type D N G H L X d net link)) (server_send D G H d disk gate gate_shared runtime, (desk_caller_send N L X net link goes end H runtime, (byte, (alloc_send, (runtime, tt))))))

    module _ (R : RattleType) (r : Disk R.Denot) (copy : IsSend R) where
      pub fetch_job_send : IsSend (Fetching.the_row D R N G H L X d r net link)
      fetch_job_send =
          recorded_send (Fetching.the_field D R N G H L X d r net link).row _ _ (Fetching.the_type D R N G H L X d r net link).to_one
          (struct_send (shape (Fetching.the_type D R N G H L X d r net link)) (fetcher_send R G H r copy gate gate_shared runtime, (desk_caller_send N L X net link goes end H runtime, (donor_caller_send D d disk H runtime, tt))))

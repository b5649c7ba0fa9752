-- A desk may go to another thread, with its net and its ends.
use denote.RattleType.{RattleType}
use denote.Builtin.{u8}
use denote.Param.Send.{IsSend, struct_send, recorded_send, view_send, sendable}
use denote.Struct.Declared.{shape}
use Rattle.std.specs.contracts.alloc.Global as Global
use Rattle.std.specs.contracts.impls.GlobalAllocator.TheImpl as Heap
use Rattle.std.specs.contracts.snapshot.Snapshot as Snap
use Rattle.std.specs.contracts.vec.Vec as Vec
use Rattle.std.below.std_alloc.proofs.vec.Vec.TheSendSync.{the_send as vec_send}
use Rattle.std.below.std_heap.proofs.GlobalAllocator.TheSendSync.{the_frees}
use Rattle.std.proofs.alloc.Global.TheSendSync.{the_send as global_send}
use Rattle.std.proofs.option.Option.TheSendSync.{the_field_send as option_send}
use Rattle.clone_outside.specs.declared.link.Link.{Ghosts as Link}
use Rattle.clone_outside.specs.declared.link.Net.{Ghosts as Net}
use Rattle.clone_desk.specs.contracts.desk.Desk as Desk
use Rattle.clone_desk.specs.contracts.desk.Desk.TheInside as Inside
use Rattle.clone_desk.specs.contracts.record.Record as Record
use Rattle.clone_desk.proofs.record.DonorEnd.TheSendSync.{the_field_send as donor_end_send}

module _ (L : RattleType) (end : IsSend L) where
  snapshot_send : IsSend (Snap.the_row L)
  snapshot_send = record { owned = λ d vs. ((λ vss. (tt, ((λ uss. (tt, tt)), tt))), tt); leaving = λ k f vs. tt }

  record_send : IsSend (Record.the_row L)
  record_send =
      let byte : IsSend u8 = search sendable in
      recorded_send (Record.the_field L).row _ _ (Record.the_type L).to_one
      (struct_send (shape (Record.the_type L)) (byte, (snapshot_send, (donor_end_send L end, (option_send L end, tt)))))

  records_send : IsSend (Vec.the_row (Record.the_row L) Global.the_row Heap.ghosts)
  records_send = vec_send (Record.the_row L) Global.the_row Heap.ghosts record_send global_send the_frees

module _ (N L X : RattleType) (g : Net N.Denot L.Denot X.Denot) (h : Link L.Denot X.Denot) (net : IsSend N) (end : IsSend L) where
  inside_send : IsSend (Inside.the_row N L X g h)
  inside_send = recorded_send (Inside.the_field N L X g h).row _ _ (Inside.the_type N L X g h).to_one (struct_send (shape (Inside.the_type N L X g h)) (net, (records_send L end, tt)))

  pub desk_send : IsSend (Desk.the_row N L X g h)
  desk_send = view_send _ _ _ _ _ inside_send

-- A net in memory may go to another thread, with its runtime.
use denote.RattleType.{RattleType}
use denote.Builtin.{u32, u64, usize, unit}
use denote.Param.Send.{IsSend, struct_send, recorded_send, view_send, sendable}
use denote.Struct.Declared.{shape}
use Rattle.std.specs.contracts.alloc.Global as Global
use Rattle.std.specs.contracts.impls.GlobalAllocator.TheImpl as Heap
use Rattle.std.specs.contracts.snapshot.Snapshot as Snap
use Rattle.std.specs.contracts.vec.Vec as Vec
use Rattle.std.below.std_alloc.proofs.vec.Vec.TheSendSync.{the_send as vec_send}
use Rattle.std.below.std_collections.proofs.btree_map.BTreeMap.TheSendSync.{the_send as map_send}
use Rattle.std.below.std_heap.proofs.GlobalAllocator.TheSendSync.{the_frees}
use Rattle.std.proofs.alloc.Global.TheSendSync.{the_send as global_send, the_field_send as alloc_send}
use Rattle.std.specs.contracts.prelude.UsizeOrd.TheImpl as SizeOrd
use Rattle.std.specs.contracts.prelude.UsizePartialEq.TheImpl as SizeEq
use Rattle.std.specs.contracts.prelude.UsizePartialOrd.TheImpl as SizePartialOrd
use Rattle.clone_turn.specs.contracts.cell.TurnCell as Cell
use Rattle.clone_memlink.specs.contracts.connection.Connection as Connection
use Rattle.clone_memlink.specs.contracts.connection.LinkCall as LinkCall
use Rattle.clone_memlink.specs.contracts.connection.LinkAnswer as LinkAnswer
use Rattle.clone_memlink.specs.contracts.connection.LinkMachine as Machine
use Rattle.clone_memlink.specs.contracts.connection.LinkMachineMachine.TheImpl.{ghosts}
use Rattle.clone_memlink.specs.contracts.cut.Cut as Cut
use Rattle.clone_memlink.specs.contracts.mem_net.MemNet as Net
use Rattle.clone_memlink.specs.contracts.mem_net.MemNet.TheInside as Inside

cut_send : IsSend Cut.the_row
cut_send =
    let long : IsSend u64 = search sendable in
    recorded_send Cut.the_field.row _ _ Cut.the_type.to_one (struct_send (shape Cut.the_type) (long, (long, tt)))

snapshot_send : (Y : RattleType) → IsSend (Snap.the_row Y)
snapshot_send Y = record { owned = λ d vs. ((λ vss. (tt, ((λ uss. (tt, tt)), tt))), tt); leaving = λ k f vs. tt }

many_send : (Y : RattleType) → IsSend (Vec.the_row (Snap.the_row Y) Global.the_row Heap.ghosts)
many_send Y = vec_send (Snap.the_row Y) Global.the_row Heap.ghosts (snapshot_send Y) global_send the_frees

module _ (R : RattleType) (r : IsSend R) where
  inside_send : IsSend (Inside.the_row R)
  inside_send =
      let short : IsSend u32 = search sendable in
      let long : IsSend u64 = search sendable in
      let size : IsSend usize = search sendable in
      recorded_send (Inside.the_field R).row _ _ (Inside.the_type R).to_one (struct_send (shape (Inside.the_type R)) (r, (alloc_send, (many_send (Cell.the_row Machine.the_row Connection.the_row LinkCall.the_row LinkAnswer.the_row unit ghosts), (size, (short, (map_send usize Cut.the_row Global.the_row SizeOrd.ghosts SizeEq.ghosts SizePartialOrd.ghosts Heap.ghosts size cut_send global_send the_frees, (long, tt))))))))

  pub net_send : IsSend (Net.the_row R)
  net_send = view_send _ _ _ _ _ inside_send

use denote.Builtin.{bool}
use denote.Exit as Exit
use denote.Param.Send.{IsSend, sendable, param_send, arg_send, shr_send}
use Rattle.std.specs.contracts.alloc.AllocError as AllocError
use Rattle.std.proofs.alloc.Global.TheSendSync.{the_sync as global_sync}
use Rattle.std.proofs.result.Result.TheSendSync.{the_send as result_send}
use Rattle.clone_turn.proofs.TupleThreadLemmas.{two_send}
use Rattle.clone_memlink.proofs.EndThreadLemmas.{end_send}
use Rattle.clone_tests_links.proofs.links.send_until_closed.Goals as goal

pub join-one-requires-send-A : goal.join-one-requires-send-A
join-one-requires-send-A g c κs within =
    let bit : IsSend bool = search sendable in
    let refused : IsSend AllocError.the_row = search sendable in
    param_send _ _ (arg_send _ Exit.no _ (result_send _ _ bit refused))

pub join-one-requires-send-F : goal.join-one-requires-send-F
join-one-requires-send-F g c κs within =
    param_send _ _ (arg_send _ Exit.no _ (two_send _ _ _ (shr_send _ _ _ global_sync) (end_send _ (param_send _ _ c.type_bounds.send-R))))

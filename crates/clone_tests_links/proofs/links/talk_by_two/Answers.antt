use denote.Exit as Exit
use denote.Param.Send.{IsSend, sendable, param_send, param_sync, arg_send, shr_send}
use Rattle.std.specs.contracts.alloc.AllocError as AllocError
use Rattle.std.proofs.alloc.Global.TheSendSync.{the_sync as global_sync}
use Rattle.std.proofs.result.Result.TheSendSync.{the_send as result_send}
use Rattle.clone_turn.proofs.TupleThreadLemmas.{three_send}
use Rattle.clone_memlink.proofs.EndThreadLemmas.{end_send}
use Rattle.clone_tests_links.proofs.links.Heard.TheSendSync.{the_send as heard_send}
use Rattle.clone_tests_links.proofs.links.talk_by_two.Goals as goal

pub join-one-requires-send-A : goal.join-one-requires-send-A
join-one-requires-send-A g c κs within =
    let refused : IsSend AllocError.the_row = search sendable in
    param_send _ _ (arg_send _ Exit.no _ (result_send _ _ heard_send refused))

pub join-one-requires-send-F : goal.join-one-requires-send-F
join-one-requires-send-F g c κs within =
    param_send _ _ (arg_send _ Exit.no _ (three_send _ _ _ _ (shr_send _ _ _ (param_sync _ _ c.type_bounds.sync-R)) (shr_send _ _ _ global_sync) (end_send _ (param_send _ _ c.type_bounds.send-R))))

use Rattle.std.proofs.Common.{rules, ◌≡◌}
use denote.Param.Send.{IsSend, IsSync, sendable, param_send, param_sync, arg_send, shr_send}
use denote.Builtin.{u64}
use denote.Exit as Exit
use Rattle.std.proofs.result.Result.TheSendSync.{the_send as result_send}
use Rattle.std.specs.contracts.vec.Vec as Vec
use Rattle.std.specs.contracts.alloc.Global as Global
use Rattle.std.specs.contracts.alloc.AllocError as AllocError
use Rattle.std.specs.contracts.impls.GlobalAllocator.TheImpl as Heap
use Rattle.std.proofs.vec.Vec.TheSendSync.{the_send as vec_send}
use Rattle.std.proofs.alloc.Global.TheSendSync.{the_send as global_send, the_sync as global_sync}
use Rattle.std.below.std_heap.proofs.GlobalAllocator.TheSendSync.{the_frees}
use Rattle.clone_turn.specs.Seats.{first_seat}
use Rattle.clone_turn.specs.Adding.{HasMade, answers_of}
use Rattle.clone_turn.proofs.AdderLemmas.{summed, answered}
use Rattle.clone_turn.proofs.AdderThreadLemmas.{number_send, adder_seat, adder_cell}
use Rattle.clone_turn.proofs.TupleThreadLemmas.{two_send, five_send}
use Rattle.clone_turn.proofs.adder.add_by_two.Goals as goal

pub join-one-requires-send-A : goal.join-one-requires-send-A
join-one-requires-send-A g c κs within =
    let answers : IsSend (Vec.the_row u64 Global.the_row Heap.ghosts) = vec_send u64 Global.the_row Heap.ghosts number_send global_send the_frees in
    let refused : IsSend AllocError.the_row = search sendable in
    param_send _ _ (arg_send _ Exit.no _ (result_send _ _ (two_send _ _ _ adder_seat answers) refused))

pub join-one-requires-send-F : goal.join-one-requires-send-F
join-one-requires-send-F g c κs within =
    let plain : IsSync u64 = search sendable in
    param_send _ _ (arg_send _ Exit.no _ (five_send _ _ _ _ _ _ (shr_send _ _ _ (param_sync _ _ c.type_bounds.sync-R)) (shr_send _ _ _ global_sync) (shr_send _ _ _ adder_cell) adder_seat (shr_send _ _ _ plain)))

pub returns-clause-sum : goal.returns-clause-sum
returns-clause-sum g c =
    let seat = c.split-other.new.seat in
    let other = c.split-other.result in
    let a : HasMade c.args.n seat c.in_ok-one.one = search rules in
    let b : HasMade c.args.n other c.in_ok-two.two = search rules in
    let zero : c.in-Ok.pair.0.first ≡ 0 = search rules in
    let new : c.in-Ok.pair.1 ≡ first_seat c.in-Ok.pair.0 = search rules in
    summed c.args.n _ c.in-Ok.pair.0 c.in-Ok.pair.1 seat other c.in_ok-one.one c.in_ok-two.two _ c.requires zero new c.split-other.ensures.left c.split-other.ensures.right a b c.join.ensures.joined c.join.ensures.calls c.close-sum.ensures.run

pub returns-clause-answers : goal.returns-clause-answers
returns-clause-answers g c =
    let seat = c.split-other.new.seat in
    let other = c.split-other.result in
    let a : HasMade c.args.n seat c.in_ok-one.one = search rules in
    let b : HasMade c.args.n other c.in_ok-two.two = search rules in
    let zero : c.in-Ok.pair.0.first ≡ 0 = search rules in
    let new : c.in-Ok.pair.1 ≡ first_seat c.in-Ok.pair.0 = search rules in
    let one : c.in_ok-one.first.items ≡ answers_of c.in_ok-one.one = search rules in
    let two : c.in_ok-two.second.items ≡ answers_of c.in_ok-two.two = search rules in
    rw (one, two) (answered c.args.n _ c.in-Ok.pair.0 c.in-Ok.pair.1 seat other c.in_ok-one.one c.in_ok-two.two _ c.requires zero new c.split-other.ensures.left c.split-other.ensures.right a b c.join.ensures.joined c.join.ensures.calls c.close-sum.ensures.run)

use Rattle.std.proofs.Common.{◌∙◌, sym}
use Rattle.clone_pool.specs.Frames.{no_frame, claim_of}
use Rattle.clone_pool.specs.Orders.{use_rank, age_rank}
use Rattle.clone_pool.proofs.PoolLemmas.{map_all}
use Rattle.clone_pool.proofs.orders.Orders.new.Goals as goal

pub returns : goal.returns
returns c =
    let n = c.args.count in
    let names = c.in_ok-new.ensures ∙ sym (map_all claim_of n no_frame) in
    let going = c.in_ok-new-2.ensures ∙ sym (map_all use_rank n no_frame) in
    let dirty = c.in_ok-new-3.ensures ∙ sym (map_all age_rank n no_frame) in
    λ i. record { names = names i; going = going i; dirty = dirty i }

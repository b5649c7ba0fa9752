use Rattle.clone_buffer.proofs.FlushLemmas.{begin_keeps, open_keeps, land_keeps, rest_lands, fail_keeps, checkpoint_keeps}
use Rattle.clone_buffer.proofs.LengthenLemmas.{fault_keeps, lengthen_keeps}
use Rattle.clone_buffer.proofs.buffer.flush_laws.Goals as goal

pub returns : goal.returns
returns c = record { begins = begin_keeps; opens = open_keeps; lands = land_keeps; rest = rest_lands; fails = fail_keeps; fault = fault_keeps; lengthens = lengthen_keeps; checkpoint = checkpoint_keeps }

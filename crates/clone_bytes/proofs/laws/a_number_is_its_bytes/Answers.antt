use Rattle.clone_bytes.proofs.Numbers.{big_bytes-big_number}
use Rattle.clone_bytes.proofs.laws.a_number_is_its_bytes.Goals as goal

pub returns : goal.returns
returns c = big_bytes-big_number

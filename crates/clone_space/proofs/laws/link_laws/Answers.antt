use Rattle.std.proofs.Common.{arith, inl}
use Rattle.byteorder.specs.Endian.{big_bytes}
use Rattle.clone_space.proofs.WriteLemmas.{keeps, next-written}
use Rattle.clone_space.proofs.laws.link_laws.Goals as goal

pub returns-clause-next : goal.returns-clause-next
returns-clause-next c = λ lsn table number next page small long. next-written lsn next page small long

pub returns-clause-page : goal.returns-clause-page
returns-clause-page c = λ lsn table number next page long. keeps lsn 12 (big_bytes 4 next) page (omega arith, inl (omega arith, omega arith)) long

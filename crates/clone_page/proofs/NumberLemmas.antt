-- A number reads only its own bytes.
use Rattle.std.proofs.Common.{◌≡◌, ◌≤◌, ℕ, List, take, drop, arith}
use Rattle.byteorder.specs.Endian.{big_number}
use Rattle.byteorder.specs.Numbers.{big_from-take}
use Rattle.clone_page.specs.Bytes.{field}

pub field_of_slice : (at n m : ℕ) (bytes : List ℕ) → n ≤ m → big_number n (take m (drop at bytes)) ≡ field at n bytes
field_of_slice at n m bytes le = big_from-take 0 n m (drop at bytes) (omega (arith, le))

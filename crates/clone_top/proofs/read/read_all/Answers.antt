use Rattle.std.proofs.Common.{◌≡◌, ◌≤◌, ◌+◌, ◌++◌, ℕ, List, length, take, vec_len, None, Some, refl, sym, ap, ◌∙◌, append_assoc, arith}
use Rattle.std.specs.declared.option.Option.{Option}
use Rattle.std.proofs.lemmas.List.{length-append, length-take}
use Rattle.std.proofs.lemmas.Grind.{common_steps}
use Rattle.clone_outside.specs.Bytes.{prepended}
use Rattle.clone_top.specs.Stops.{TookAtMost}
use Rattle.clone_top.proofs.read.read_all.Goals as goal

prepended_twice : (a b : List ℕ) (left : Option (List ℕ)) → prepended a (prepended b left) ≡ prepended (a ++ b) left
prepended_twice a b None = refl
prepended_twice a b (Some xs) = ap Some (sym (append_assoc a b xs))

-- what was taken in two pieces
took_both : (count : ℕ) (a b : List ℕ) (old between new : Option (List ℕ)) → old ≡ prepended a between → between ≡ prepended b new → length a + length b ≤ count → TookAtMost count old new
took_both count a b old between new first second few = record {
  bytes = a ++ b;
  taken = first ∙ ap (prepended a) second ∙ prepended_twice a b new;
  few = omega (arith, few, length-append a b);
}

pub returns-in_err-extend_from_slice-clause-most : goal.returns-in_err-extend_from_slice-clause-most
returns-in_err-extend_from_slice-clause-most g c =
    let given : List ℕ = take c.in_ok-count.count c.read.new.into in
    let short : length given ≤ c.in_ok-count.count = omega (arith, length-take c.in_ok-count.count c.read.new.into) in
    let fits : length c.read.new.into ≤ c.min-most.result = grind (arith, common_steps, c.read.auto.into) in
    let room : vec_len c.loop-piece.script + length given ≤ 1048577 = omega (arith, short, c.in_ok-count.ensures.bound, fits, c.min-most.ensures, c.len-in-loop-piece.ensures, c.loop-piece.invariant.few) in
    took_both 1048577 c.loop-piece.script.items given _ _ _ c.loop-piece.invariant.given c.in_ok-count.ensures.bytes (omega (arith, room, c.loop-piece.script.ok.0))

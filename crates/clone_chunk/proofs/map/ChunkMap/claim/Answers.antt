use Rattle.std.proofs.Common.{◌≡◌, ◌+◌, drop, None, Some, true, false, length, refl, sym, ap, ◌∙◌}
use Rattle.std.specs.List.{position}
use Rattle.std.proofs.lemmas.List.{take_rest, length-set}
use Rattle.clone_chunk.specs.Chunks.{is_free}
use Rattle.clone_chunk.proofs.Claims.{found_least, found_none, all_taken, one_free, after_claim, after_search}
use Rattle.clone_chunk.proofs.map.ChunkMap.claim.Goals as goal

pub invariant_of-self : goal.invariant_of-self
invariant_of-self c =
    let states = c.self.inside.states.items in
    let none : position is_free (drop c.self.inside.searched states) ≡ None = sym (rw (c.in_default.is, c.deref.ensures.value, take_rest) at c.first_free.ensures) in
    let count : c.len-self-inside.result ≡ length states = c.len-self-inside.ensures ∙ sym c.deref.ensures.len ∙ ap length c.deref.ensures.value in
    (rw count (after_search states c.self.inside.searched c.self.inside.left c.self.invariant.0 none), c.self.invariant.1)

pub returns-in_default-clause-none : goal.returns-in_default-clause-none
returns-in_default-clause-none c =
    let states = c.self.inside.states.items in
    let none : position is_free (drop c.self.inside.searched states) ≡ None = sym (rw (c.in_default.is, c.deref.ensures.value, take_rest) at c.first_free.ensures) in
    let shown : states ≡ c.args.self.now.states = ap (λ map. map.states) c.self.view_is in
    rw (← shown) ((λ e. all_taken states (found_none states c.self.inside.searched c.self.inside.left c.self.invariant.0 none)), λ all. refl)

pub invariant_of-self-2 : goal.invariant_of-self-2
invariant_of-self-2 c =
    let states = c.self.inside.states.items in
    let room = c.self.invariant.1 in
    let some : position is_free (drop c.self.inside.searched states) ≡ Some c.in-Some.ahead = sym (rw (c.in-Some.is, c.deref.ensures.value, take_rest) at c.first_free.ensures) in
    let least = found_least states c.self.inside.searched c.in-Some.ahead c.self.inside.left c.self.invariant.0 some in (
      after_claim states c.self.inside.searched c.self.inside.left (c.self.inside.searched + c.in-Some.ahead) c.args.task c.self.invariant.0 least,
      record { masks = rw length-set room.masks; for_states = room.for_states; for_masks = room.for_masks },
    )

pub returns-clause-none : goal.returns-clause-none
returns-clause-none c =
    let states = c.self.inside.states.items in
    let some : position is_free (drop c.self.inside.searched states) ≡ Some c.in-Some.ahead = sym (rw (c.in-Some.is, c.deref.ensures.value, take_rest) at c.first_free.ensures) in
    let least = found_least states c.self.inside.searched c.in-Some.ahead c.self.inside.left c.self.invariant.0 some in
    let shown : states ≡ c.args.self.now.states = ap (λ map. map.states) c.self.view_is in
    rw (← shown) ((λ e. absurd (let wrong : true ≡ false = e in cc)), λ all. absurd (one_free states (c.self.inside.searched + c.in-Some.ahead) least all))

pub returns-clause-least : goal.returns-clause-least
returns-clause-least c =
    let states = c.self.inside.states.items in
    let some : position is_free (drop c.self.inside.searched states) ≡ Some c.in-Some.ahead = sym (rw (c.in-Some.is, c.deref.ensures.value, take_rest) at c.first_free.ensures) in
    let shown : states ≡ c.args.self.now.states = ap (λ map. map.states) c.self.view_is in
    rw (← shown) (found_least states c.self.inside.searched c.in-Some.ahead c.self.inside.left c.self.invariant.0 some)

use Rattle.std.proofs.Common.{◌≡◌, ◌+◌, ◌∙◌, ap, sym, subst, true, IsSome}
use Rattle.std.specs.FinMap as finite
use Rattle.clone_pool.specs.declared.frame.PageName.{PageName}
use Rattle.clone_flush.specs.Flights.{Files, Flights, HasFiles, StandsFlown}
use Rattle.clone_flush.specs.Calls.{with_file}
use Rattle.clone_flush.proofs.BeginLemmas.{stands_reached}
use Rattle.clone_flush.proofs.FileLemmas.{files_reached, known_is}
use Rattle.clone_flush.proofs.flusher.Flusher.reach.Goals as goal

-- the files, one of which is as long as that now
raised : (c : goal.After-raise) → c.raise.new.self ≡ finite.insert c.args.self.now.files c.args.space (c.args.number + 1)
raised c =
    let page : PageName = record { space = c.args.space; number = c.args.number } in
    let known = known_is page c.args.self.now (sym c.ends_short.ensures ∙ c.if-ends_short.true) in
    c.raise.ensures (subst (λ (f : Flights). IsSome (finite.get f.files c.args.space)) (sym c.self.view_is) known) ∙ ap (λ (f : Flights). finite.insert f.files c.args.space (c.args.number + 1)) c.self.view_is

pub returns-then-ends_short-clause-files : goal.returns-then-ends_short-clause-files
returns-then-ends_short-clause-files c =
    λ m had there. subst (λ (files : Files). HasFiles files m) (sym (raised c)) (files_reached c.args.self.now.files m had c.args.space c.args.number there)

pub returns-then-ends_short-clause-stands : goal.returns-then-ends_short-clause-stands
returns-then-ends_short-clause-stands c =
    let page : PageName = record { space = c.args.space; number = c.args.number } in
    let f : Flights = c.args.self.now in
    let is : with_file c.args.space (c.args.number + 1) f ≡ record f { files = c.raise.new.self } = λ i. record f { files = sym (raised c) i } in
    λ buffer copies told st. subst (λ (x : Flights). StandsFlown buffer x copies told) (is ∙ ap (λ (x : Flights). record x { files = c.raise.new.self }) (sym c.self.view_is)) (stands_reached true page f buffer copies told st)

use Rattle.std.proofs.Common.{◌∙◌, ap, sym, subst, IsSome, refl}
use Rattle.clone_pool.specs.declared.frame.PageName.{PageName}
use Rattle.clone_flush.specs.Flights.{Flights, Writes, write_of}
use Rattle.clone_flush.specs.Calls.{with_write, without_write}
use Rattle.clone_flush.specs.declared.flusher.PageWrite.{PageWrite}
use Rattle.clone_flush.proofs.FlightLemmas.{set_here}
use Rattle.clone_flush.proofs.BeginLemmas.{gone_again, back_again}
use Rattle.clone_flush.proofs.flusher.Flusher.put_back.Goals as goal

pub returns-in-None : goal.returns-in-None
returns-in-None c =
    let page : PageName = record { space = c.args.space; number = c.args.number } in
    λ w f none is. c.forget.ensures ∙ ap (without_write page) is ∙ gone_again page w f (sym c.in-None.is ∙ none)

pub returns-in-Some : goal.returns-in-Some
returns-in-Some c =
    let page : PageName = record { space = c.args.space; number = c.args.number } in
    let v : PageWrite = c.in-Some.write in
    λ w f before is.
    let there = ap (λ (g : Flights). write_of g page) (c.self.view_is ∙ is) ∙ set_here f page w in
    ap (λ (x : Writes). record { writes = x; checkpoint = c.self.inside.checkpoint; files = c.self.inside.files }) (c.replace_in.ensures (subst IsSome (sym there) refl))
    ∙ ap (with_write page v) (c.self.view_is ∙ is) ∙ back_again page w v f (sym c.in-Some.is ∙ before)

use Rattle.std.proofs.Common.{◌∙◌, Ok, ap, subst, sym}
use Rattle.clone_turn.specs.Worked.{Worked}
use Rattle.clone_fetching.specs.declared.machine.RecipientAnswer.TheVariants as answer
use Rattle.clone_fetching.specs.declared.machine.RecipientCall.TheVariants as call
use Rattle.clone_copying.specs.Calling.{IsOne}
use Rattle.clone_copying.specs.Calls.{FetcherModel, Works}
use Rattle.clone_copying.specs.Turning.{Because, IsAsked}
use Rattle.clone_copying.specs.Watching.{WasHalted}
use Rattle.clone_copying.specs.declared.fetch_end.FetchEnd.TheVariants as ending
use Rattle.clone_copying.specs.declared.turn.Turn.TheVariants as turn
use Rattle.clone_copying.proofs.CallLemmas.{told_one}
use Rattle.clone_copying.proofs.TurnLemmas.{because_looked, rests}
use Rattle.clone_copying.proofs.fetcher.Fetcher.rest.Goals as goal

pub returns-in-Ok-Some-clause-rests : goal.returns-in-Ok-Some-clause-rests
returns-in-Ok-Some-clause-rests g c =
    let inside = c.self.inside in
    let asked = subst (λ (v : FetcherModel _). Worked (IsOne call.Ended (answer.Ended c.ended-told.result)) v.seat c.ended-told.new.self) c.self.view_is c.ended-told.ensures in
    rests (WasHalted g.M.Watched.asks_halted g.M.Watched.is_halted c.args.watch.now) c.args.self.now (record { seat = c.ended-told.new.self; task = inside.task; core = inside.core; floor = inside.floor })
    (ap (λ (v : FetcherModel _). v.task) c.self.view_is) c.ended-told.result (turn.Ended (ending.Ended c.in-Ok-Some.how)) asked
    (λ made one. told_one c.in-Ok-Some.how made (subst (λ t. IsOne call.Ended (answer.Ended t) made) (c.in-Ok-Some.is ∙ ap Ok c.in-Ok-Some.field-0-is) one))

pub returns-in-Ok-None-clause-rests : goal.returns-in-Ok-None-clause-rests
returns-in-Ok-None-clause-rests g c =
    let inside = c.self.inside in
    let H = WasHalted g.M.Watched.asks_halted g.M.Watched.is_halted c.look_on.new.watch in
    let asked = subst (λ (v : FetcherModel _). Worked (IsOne call.Ended (answer.Ended c.ended-told.result)) v.seat c.ended-told.new.self) c.self.view_is c.ended-told.ensures in
    subst (λ (z : FetcherModel _). Works (λ made. IsAsked made × Because H c.look_on.result made) c.args.self.now z) (sym c.look_on.ensures.same)
    (rests H c.args.self.now (record { seat = c.ended-told.new.self; task = inside.task; core = inside.core; floor = inside.floor })
    (ap (λ (v : FetcherModel _). v.task) c.self.view_is) c.ended-told.result c.look_on.result asked (λ made one. because_looked H c.look_on.result made c.look_on.ensures.halts))

pub returns-in-Err-clause-rests : goal.returns-in-Err-clause-rests
returns-in-Err-clause-rests g c =
    let inside = c.self.inside in
    let asked = subst (λ (v : FetcherModel _). Worked (IsOne call.Ended (answer.Ended c.ended-told.result)) v.seat c.ended-told.new.self) c.self.view_is c.ended-told.ensures in
    rests (WasHalted g.M.Watched.asks_halted g.M.Watched.is_halted c.args.watch.now) c.args.self.now (record { seat = c.ended-told.new.self; task = inside.task; core = inside.core; floor = inside.floor })
    (ap (λ (v : FetcherModel _). v.task) c.self.view_is) c.ended-told.result (turn.Ended ending.NoMemory) asked (λ made one. tt)

-- The calls that carry out the commands of a connection are those of a clone, and none of the engine.
use Rattle.std.proofs.Common.{◌≡◌, List, [], ◌∷◌, Option, None, Some, IfSome, ℕ, sym, subst}
use Rattle.std.specs.Prelude.{⊤}
use Rattle.std.specs.List.{AllByRecursion}
use Rattle.clone_turn.proofs.EachLemmas.{each_append}
use Rattle.clone_session.specs.declared.caller.Caller.{Caller}
use Rattle.clone_wire.specs.declared.frame.Frame.{Frame}
use Rattle.clone_wire.specs.declared.frame.Frame.TheVariants as frame
use Rattle.clone_calls.specs.declared.call.DonorCall.{DonorCall}
use Rattle.clone_calls.specs.declared.call.DonorCall.TheVariants as call
use Rattle.clone_serve.specs.Commands.{command_of}
use Rattle.clone_serve.specs.Following.{call_in}
use Rattle.clone_serve.specs.Runs.{Event, Makes, Runs, asks, commands, exchanges_of, serves, exchange_of}
use Rattle.clone_serve.specs.Serving.{doing_after}
use Rattle.clone_serve.specs.Telling.{Exchange}
use Rattle.clone_serve.specs.declared.after.After.{After}
use Rattle.clone_serve.specs.declared.commands.Command.{Command}
use Rattle.clone_serve.specs.declared.doing.Doing.{Doing}
use Rattle.clone_serve.specs.declared.doing.Doing.TheVariants as doing
use Rattle.clone_serve.specs.declared.doing.Execution.{Execution}
use Rattle.clone_serve.specs.declared.doing.Work.{Work}
use Rattle.clone_serve.specs.declared.doing.Work.TheVariants as work
use Rattle.clone_links.specs.Serving.{AsksNext, Carries, IsUntold}
use Rattle.clone_links.specs.declared.end.ServeEnd.{ServeEnd}

-- a call of a clone
abbrev pub IsOfClone : DonorCall → Type 0
IsOfClone (call.Engine asked) = ⊥
IsOfClone other = ⊤

abbrev pub AreOfClone : List Exchange → Type 0
AreOfClone exchanges = AllByRecursion (λ (x : Exchange). IsOfClone x.0) exchanges

-- what a command asks for
of_command : (bound : Option Caller) (f : Frame) → IfSome (command_of bound f) (λ (c : Command). IsOfClone c.call)
of_command None (frame.Init attempt version size compressed tasks) = tt
of_command None (frame.Attach attempt task) = tt
of_command None (frame.Reinit attempt stage finished) = tt
of_command None (frame.Reinit2 attempt stage taken) = tt
of_command None other = tt
of_command (Some caller) (frame.Execute stage) = tt
of_command (Some caller) (frame.Ack stage floor) = tt
of_command (Some caller) frame.Exit = tt
of_command (Some caller) other = tt

command_is : (bound : Option Caller) (f : Frame) (c : Command) → command_of bound f ≡ Some c → IsOfClone c.call
command_is bound f c is = subst (λ o. IfSome o (λ (k : Command). IsOfClone k.call)) is (of_command bound f)

-- what is asked within an EXECUTE
of_work : (run : Execution) (w : Work) → IsOfClone (call_in run w)
of_work run work.Claim = tt
of_work run (work.Weigh chunk) = tt
of_work run (work.Read place again) = tt
of_work run (work.Archive place limit) = tt

of_asking : (d : Doing) → IfSome (asks d) IsOfClone
of_asking (doing.Serving run w) = of_work run w
of_asking other = tt

-- a run of the donor's side
of_event : (d : Doing) (event : Event) (next : After) → Makes d event next → IsOfClone (exchange_of event).0
of_event d (commands command exchange) next makes = command_is makes.bound command _ makes.call
of_event d (serves exchange) next makes = subst (λ o. IfSome o IsOfClone) makes.call (of_asking d)

of_run : (d : Doing) (events : List Event) (sent : List Frame) (t : Doing) → Runs d events sent t → AreOfClone (exchanges_of events)
of_run d [] sent t run = tt
of_run d (event ∷ events) sent t (next, rest, makes, told, more) = (of_event d event next makes, of_run (doing_after next) events rest t more)

-- what is asked next
of_next : (d : Doing) (left : List ℕ) (asked : DonorCall) → AsksNext d left asked → IsOfClone asked
of_next doing.New left asked (rest, t, begins) = command_is None begins.command _ begins.asks
of_next (doing.Ready caller) left asked (rest, t, begins) = command_is (Some caller) begins.command _ begins.asks
of_next (doing.Serving run w) left asked (rest, t, (is, same, stays)) = let one : asked ≡ call_in run w = cc in subst IsOfClone (sym one) (of_work run w)
of_next other left asked (rest, t, (is, same, stays)) = absurd cc

of_untold : (d : Doing) (left : List ℕ) (exchanges : List Exchange) → IsUntold d left exchanges → AreOfClone exchanges
of_untold d left [] untold = tt
of_untold d left (exchange ∷ []) untold = (of_next d left exchange.0 untold, tt)
of_untold d left (exchange ∷ other ∷ more) untold = absurd untold

pub carried_of_clone : (end : ServeEnd) (exchanges : List Exchange) (received sent : List ℕ) → Carries end exchanges received sent → AreOfClone exchanges
carried_of_clone end exchanges received sent is =
    subst AreOfClone (sym is.calls)
    (each_append (λ (x : Exchange). IsOfClone x.0) is.told is.untold (subst AreOfClone (sym is.served.calls) (of_run doing.New is.served.events is.served.frames is.doing is.served.run)) (of_untold is.doing is.left is.untold is.last))

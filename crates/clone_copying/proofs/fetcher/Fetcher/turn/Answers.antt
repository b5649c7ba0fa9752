use Rattle.std.proofs.Common.{◌≡◌, ◌∙◌, [], IsOk, refl, subst, sym}
use Rattle.clone_turn.specs.Worked.{Worked}
use Rattle.clone_turn.proofs.WorkedLemmas.{worked_none}
use Rattle.clone_copying.specs.Watching.{AreLooks, HasLooked, WasHalted}
use Rattle.clone_copying.specs.declared.fetch_end.FetchEnd.TheVariants as ending
use Rattle.clone_copying.specs.declared.turn.Turn.TheVariants as turn
use Rattle.clone_copying.proofs.PassingLemmas.{goes_none}
use Rattle.clone_copying.proofs.TurnLemmas.{because_looked, end_stops, over_stops, passed_in, turn_over, turn_rests, turn_then, turned_as}
use Rattle.clone_copying.proofs.WatchLemmas.{looked_later}
use Rattle.clone_copying.proofs.fetcher.Fetcher.turn.Goals as goal
use Rattle.clone_copying.proofs.fetcher.Fetcher.turn.Goals.{in-Lost, in-NoMemory, in-Idle, in-Ended, in-Took, in-Took-2}

pub returns-in_default-clause-is_turn : goal.returns-in_default-clause-is_turn
returns-in_default-clause-is_turn g c =
    turn_over g.L.Link (HasLooked g.M.Watched.asks_position g.M.Watched.position_of c.args.watch.now) (WasHalted g.M.Watched.asks_halted g.M.Watched.is_halted c.args.watch.now)
    c.args.self.now c.act.new.self c.args.talk.now c.act.new.talk (turn.Ended ending.NoMemory) (IsOk c.act.result) c.requires.looked c.act.ensures.acts (λ on. absurd (end_stops ending.NoMemory on)) (λ made. tt)

pub wait-requires-clause-open : goal.wait-requires-clause-open
wait-requires-clause-open g c = λ κs outlive.
    (passed_in g.L.Link c.args.self.now.task (λ n. n ≡ c.args.self.now.floor) c.args.self.now.core c.act.new.self.core [] c.args.talk.now c.act.new.talk.end _ c.args.self.now c.act.new.self c.act.ensures.acts).2.opened
    ∙ c.requires.open

pub wait-requires-clause-looked : goal.wait-requires-clause-looked
wait-requires-clause-looked g c = λ κs outlive.
    subst (HasLooked g.M.Watched.asks_position g.M.Watched.position_of c.args.watch.now) (sym c.act.ensures.floor) c.requires.looked

pub rest-requires-clause-looked : goal.rest-requires-clause-looked
rest-requires-clause-looked g c = λ κs outlive.
    subst (HasLooked g.M.Watched.asks_position g.M.Watched.position_of c.args.watch.now) (sym c.act.ensures.floor) c.requires.looked

pub look_on-requires-clause-looked : goal.look_on-requires-clause-looked
look_on-requires-clause-looked g c = λ κs outlive.
    subst (HasLooked g.M.Watched.asks_position g.M.Watched.position_of c.args.watch.now) (sym c.act.ensures.floor) c.requires.looked

pub returns-clause-is_turn : goal.returns-clause-is_turn
returns-clause-is_turn g c =
    let m = g.M.Watched in
    let v = c.args.self.now in
    let w = c.act.new.self in
    let a = c.args.talk.now in
    let b = c.act.new.talk in
    let first = c.args.watch.now in
    let is = c.match-answer in
    let ok = subst (λ r. IsOk r) (sym c.in-Ok.is) refl in
    elim is.branch [
      | in-Lost x ↦ turned_as g.L.Link m.asks_halted m.asks_position m.is_halted m.position_of v a w is.self b is.talk first is.watch turn.Over is.result x.self-is x.talk-is x.watch-is x.result-is
          (turn_over g.L.Link (HasLooked m.asks_position m.position_of first) (WasHalted m.asks_halted m.is_halted first) v w a b turn.Over (IsOk c.act.result) c.requires.looked c.act.ensures.acts (λ on. absurd (over_stops on)) (λ made. tt))
      | in-NoMemory x ↦ turned_as g.L.Link m.asks_halted m.asks_position m.is_halted m.position_of v a w is.self b is.talk first is.watch (turn.Ended ending.NoMemory) is.result x.self-is x.talk-is x.watch-is x.result-is
          (turn_over g.L.Link (HasLooked m.asks_position m.position_of first) (WasHalted m.asks_halted m.is_halted first) v w a b (turn.Ended ending.NoMemory) (IsOk c.act.result) c.requires.looked c.act.ensures.acts
          (λ on. absurd (end_stops ending.NoMemory on)) (λ made. tt))
      | in-Idle x ↦ turned_as g.L.Link m.asks_halted m.asks_position m.is_halted m.position_of v a x.wait.new.self is.self x.wait.new.talk is.talk x.wait.new.watch is.watch x.wait.result is.result x.self-is x.talk-is x.watch-is x.result-is
          (turn_then g.L.Link (HasLooked m.asks_position m.position_of x.wait.new.watch) (WasHalted m.asks_halted m.is_halted x.wait.new.watch) v w a b x.wait.result (IsOk c.act.result)
          (looked_later m.asks_halted m.asks_position m.is_halted m.position_of first x.wait.new.watch x.wait.ensures.looks v.floor c.requires.looked) c.act.ensures.acts x.wait.new.self x.wait.new.talk ok x.wait.ensures.is_turn)
      | in-Ended x ↦ turned_as g.L.Link m.asks_halted m.asks_position m.is_halted m.position_of v a x.rest.new.self is.self b is.talk x.rest.new.watch is.watch x.rest.result is.result x.self-is x.talk-is x.watch-is x.result-is
          (turn_then g.L.Link (HasLooked m.asks_position m.position_of x.rest.new.watch) (WasHalted m.asks_halted m.is_halted x.rest.new.watch) v w a b x.rest.result (IsOk c.act.result)
          (looked_later m.asks_halted m.asks_position m.is_halted m.position_of first x.rest.new.watch x.rest.ensures.looks v.floor c.requires.looked) c.act.ensures.acts x.rest.new.self b ok
          (turn_rests g.L.Link (HasLooked m.asks_position m.position_of x.rest.new.watch) (WasHalted m.asks_halted m.is_halted x.rest.new.watch) w x.rest.new.self b b x.rest.result (goes_none g.L.Link b) x.rest.ensures.core x.rest.ensures.rests))
      | in-Took x ↦ turned_as g.L.Link m.asks_halted m.asks_position m.is_halted m.position_of v a (record w { floor = x.look_on.new.self.floor }) is.self b is.talk x.look_on.new.watch is.watch x.look_on.result is.result
          (x.self-is ∙ x.look_on.ensures.same) x.talk-is x.watch-is x.result-is
          (turn_over g.L.Link (HasLooked m.asks_position m.position_of x.look_on.new.watch) (WasHalted m.asks_halted m.is_halted x.look_on.new.watch) v w a b x.look_on.result (IsOk c.act.result)
          (looked_later m.asks_halted m.asks_position m.is_halted m.position_of first x.look_on.new.watch x.look_on.ensures.looks v.floor c.requires.looked) c.act.ensures.acts (λ on. ok)
          (λ made. because_looked (WasHalted m.asks_halted m.is_halted x.look_on.new.watch) x.look_on.result made x.look_on.ensures.halts))
      | in-Took-2 x ↦ turned_as g.L.Link m.asks_halted m.asks_position m.is_halted m.position_of v a w is.self b is.talk first is.watch turn.GoesOn is.result (x.self-is ∙ x.self.view_is) x.talk-is x.watch-is x.result-is
          (turn_over g.L.Link (HasLooked m.asks_position m.position_of first) (WasHalted m.asks_halted m.is_halted first) v w a b turn.GoesOn (IsOk c.act.result) c.requires.looked c.act.ensures.acts (λ on. ok) (λ made. tt))
    ]

pub returns-clause-looks : goal.returns-clause-looks
returns-clause-looks g c =
    let m = g.M.Watched in
    let first = c.args.watch.now in
    let is = c.match-answer in
    elim is.branch [
      | in-Lost x ↦ subst (λ s. Worked (AreLooks m.asks_halted m.asks_position) first s) (sym x.watch-is) (worked_none (AreLooks m.asks_halted m.asks_position) first tt)
      | in-NoMemory x ↦ subst (λ s. Worked (AreLooks m.asks_halted m.asks_position) first s) (sym x.watch-is) (worked_none (AreLooks m.asks_halted m.asks_position) first tt)
      | in-Idle x ↦ subst (λ s. Worked (AreLooks m.asks_halted m.asks_position) first s) (sym x.watch-is) x.wait.ensures.looks
      | in-Ended x ↦ subst (λ s. Worked (AreLooks m.asks_halted m.asks_position) first s) (sym x.watch-is) x.rest.ensures.looks
      | in-Took x ↦ subst (λ s. Worked (AreLooks m.asks_halted m.asks_position) first s) (sym x.watch-is) x.look_on.ensures.looks
      | in-Took-2 x ↦ subst (λ s. Worked (AreLooks m.asks_halted m.asks_position) first s) (sym x.watch-is) (worked_none (AreLooks m.asks_halted m.asks_position) first tt)
    ]

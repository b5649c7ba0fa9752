use Rattle.std.proofs.Common.{◌≡◌, ◌++◌, List, ℕ, ap, refl, subst, sym}
use Rattle.clone_tasks.specs.declared.rule.Link.TheVariants.{Absent}
use Rattle.clone_fetching.specs.declared.recipient.TaskStep.{TaskStep}
use Rattle.clone_copying.specs.Calls.{FetcherModel, Works, put}
use Rattle.clone_copying.specs.Turning.{Waits}
use Rattle.clone_copying.specs.Watching.{HasLooked, WasHalted}
use Rattle.clone_copying.specs.declared.fetch_end.FetchEnd.TheVariants as ending
use Rattle.clone_copying.specs.declared.turn.Turn.TheVariants as turn
use Rattle.clone_copying.proofs.TurnLemmas.{waited, waits_on, waits_over}
use Rattle.clone_copying.proofs.WatchLemmas.{looked_later}
use Rattle.clone_copying.proofs.fetcher.Fetcher.wait_apart.Goals as goal

pub returns-in-Sent-clause-waits : goal.returns-in-Sent-clause-waits
returns-in-Sent-clause-waits g c =
    let v = c.args.self.now in
    let w = c.step-stepped.new.self in
    let s = c.step-stepped.result in
    let asked : TaskStep = record { core = v.core; task = v.task; link = Absent; floor = v.floor; received = c.new-2.result; sent = c.replace-put_out.result } in
    let Q = HasLooked g.M.Watched.asks_position g.M.Watched.position_of c.args.watch.now in
    let H = WasHalted g.M.Watched.asks_halted g.M.Watched.is_halted c.args.watch.now in
    waits_over (λ n. n ≡ v.floor) Q (λ n is. subst Q (sym is) c.requires.looked) H v w c.args.sent.now.items s.sent.items turn.Over
    (subst (λ (xs : List ℕ). Works (λ made. Waits v.task (λ n. n ≡ v.floor) v.core made w.core × (s.sent.items ≡ xs ++ put made)) v w) (ap (λ xs. xs.items) c.replace-put_out.ensures.value)
    (waited H v w (ap (λ (x : FetcherModel _). x.task) c.step-stepped.ensures.same) asked s c.step-stepped.ensures.step refl c.new-2.ensures.items refl refl (ap (λ (x : FetcherModel _). x.core) c.step-stepped.ensures.same)))
    (λ made. tt)

pub returns-in-NoMemory-clause-waits : goal.returns-in-NoMemory-clause-waits
returns-in-NoMemory-clause-waits g c =
    let v = c.args.self.now in
    let w = c.step-stepped.new.self in
    let s = c.step-stepped.result in
    let asked : TaskStep = record { core = v.core; task = v.task; link = Absent; floor = v.floor; received = c.new-2.result; sent = c.replace-put_out.result } in
    let Q = HasLooked g.M.Watched.asks_position g.M.Watched.position_of c.args.watch.now in
    let H = WasHalted g.M.Watched.asks_halted g.M.Watched.is_halted c.args.watch.now in
    waits_over (λ n. n ≡ v.floor) Q (λ n is. subst Q (sym is) c.requires.looked) H v w c.args.sent.now.items s.sent.items (turn.Ended ending.NoMemory)
    (subst (λ (xs : List ℕ). Works (λ made. Waits v.task (λ n. n ≡ v.floor) v.core made w.core × (s.sent.items ≡ xs ++ put made)) v w) (ap (λ xs. xs.items) c.replace-put_out.ensures.value)
    (waited H v w (ap (λ (x : FetcherModel _). x.task) c.step-stepped.ensures.same) asked s c.step-stepped.ensures.step refl c.new-2.ensures.items refl refl (ap (λ (x : FetcherModel _). x.core) c.step-stepped.ensures.same)))
    (λ made. tt)

pub rest-requires-clause-looked : goal.rest-requires-clause-looked
rest-requires-clause-looked g c = λ κs outlive.
    subst (HasLooked g.M.Watched.asks_position g.M.Watched.position_of c.args.watch.now) (sym (ap (λ (x : FetcherModel _). x.floor) c.step-stepped.ensures.same)) c.requires.looked

pub returns-clause-waits : goal.returns-clause-waits
returns-clause-waits g c =
    let m = g.M.Watched in
    let v = c.args.self.now in
    let w = c.step-stepped.new.self in
    let s = c.step-stepped.result in
    let asked : TaskStep = record { core = v.core; task = v.task; link = Absent; floor = v.floor; received = c.new-2.result; sent = c.replace-put_out.result } in
    let Q = HasLooked m.asks_position m.position_of c.rest.new.watch in
    let H = WasHalted m.asks_halted m.is_halted c.rest.new.watch in
    waits_on (λ n. n ≡ v.floor) Q
    (λ n is. subst Q (sym is) (looked_later m.asks_halted m.asks_position m.is_halted m.position_of c.args.watch.now c.rest.new.watch c.rest.ensures.looks v.floor c.requires.looked))
    H v w c.args.sent.now.items s.sent.items c.rest.result c.rest.new.self c.rest.ensures.core
    (subst (λ (xs : List ℕ). Works (λ made. Waits v.task (λ n. n ≡ v.floor) v.core made w.core × (s.sent.items ≡ xs ++ put made)) v w) (ap (λ xs. xs.items) c.replace-put_out.ensures.value)
    (waited H v w (ap (λ (x : FetcherModel _). x.task) c.step-stepped.ensures.same) asked s c.step-stepped.ensures.step refl c.new-2.ensures.items refl refl (ap (λ (x : FetcherModel _). x.core) c.step-stepped.ensures.same)))
    c.rest.ensures.rests

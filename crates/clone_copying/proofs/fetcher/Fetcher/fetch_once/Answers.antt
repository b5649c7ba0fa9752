use Rattle.std.proofs.Common.{◌≡◌, ◌∙◌, [], ◌∷◌, Ok, Err, Some, None, ap, subst, sym}
use Rattle.clone_outside.specs.Link.{IsUnused}
use Rattle.clone_turn.specs.Worked.{Worked}
use Rattle.clone_desk.specs.declared.machine.DeskAnswer.TheVariants as answer
use Rattle.clone_desk.specs.declared.machine.DeskCall.TheVariants as call
use Rattle.clone_copying.specs.Calling.{IsOne}
use Rattle.clone_copying.specs.Calls.{FetcherModel, put}
use Rattle.clone_copying.specs.Connecting.{WasRefused}
use Rattle.clone_copying.specs.Fetching.{HasCause}
use Rattle.clone_copying.specs.Turning.{Waits}
use Rattle.clone_copying.specs.Watching.{HasLooked, WasHalted}
use Rattle.clone_copying.specs.declared.fetch_end.FetchEnd.{FetchEnd}
use Rattle.clone_copying.proofs.OnceLemmas.{desk_none, desk_once, desk_refused, ends_before, ends_refused, fetched_once, never_none, refused_cause}
use Rattle.clone_copying.proofs.TurnLemmas.{passed_in, works_as}
use Rattle.clone_copying.proofs.WatchLemmas.{looked_later, looks_more}
use Rattle.clone_copying.proofs.fetcher.Fetcher.fetch_once.Goals as goal

pub returns-in-Err-clause-fetches : goal.returns-in-Err-clause-fetches
returns-in-Err-clause-fetches g c =
    let w = g.M.Watched in
    let P = HasLooked w.asks_position w.position_of c.open.new.watch in
    let H = WasHalted w.asks_halted w.is_halted c.open.new.watch in
    let u = c.args.self.now in
    ([], desk_none u.task _ c.args.desk.now, ends_before g.N.End.Link (WasRefused u.task c.args.desk.now) H u c.open.new.self P c.in-Err.end (λ made. Unit {0}) c.in-Err.ensures.opens)

pub returns-in-Err-connect-clause-fetches : goal.returns-in-Err-connect-clause-fetches
returns-in-Err-connect-clause-fetches g c =
    let w = g.M.Watched in
    let P = HasLooked w.asks_position w.position_of c.open.new.watch in
    let H = WasHalted w.asks_halted w.is_halted c.open.new.watch in
    let u = c.args.self.now in
    let cause = c.in-Err-connect.cause in
    let task_is : c.self.inside.task ≡ u.task = ap (λ (v : FetcherModel _). v.task) c.self.view_is ∙ c.in-Ok.ensures.opens.0 in
    let pair = subst (λ t. Worked (IsOne (call.Pair t) (answer.Paired (Err cause))) c.args.desk.now c.connect.new.self) task_is
    (subst (λ r. Worked (IsOne (call.Pair c.self.inside.task) (answer.Paired r)) c.args.desk.now c.connect.new.self) c.in-Err-connect.is c.connect.ensures.pairs) in
    let F = WasRefused u.task c.connect.new.self in (
      [],
      desk_refused u.task (Some c.refused.result ≡ None) cause c.args.desk.now c.connect.new.self (never_none c.refused.result) pair,
      ends_refused g.N.End.Link F H u c.open.new.self P c.refused.result (λ made. put made ≡ c.in-Ok.first.items)
          (works_as _ (λ made. Waits u.task P u.core made c.open.new.self.core × (put made ≡ c.in-Ok.first.items)) u c.open.new.self c.in-Ok.ensures.opens (λ made is. (is.0, is.1)))
          (λ made. subst (λ (why : FetchEnd). HasCause F H why made) (sym c.refused.ensures) (refused_cause H u.task cause c.args.desk.now c.connect.new.self made pair)),
    )

pub converse-ended-requires-clause-open : goal.converse-ended-requires-clause-open
converse-ended-requires-clause-open g c = λ κs outlive. ap g.N.End.Link.is_open c.new-talk.ensures.end ∙ c.in-Ok-connect.ensures.new.opened

pub give_back-requires-clause-fits : goal.give_back-requires-clause-fits
give_back-requires-clause-fits g c = λ κs outlive.
    let made_is = c.new-talk.ensures.end in
    let passes = (passed_in g.N.End.Link c.open.new.self.task _ c.open.new.self.core c.converse-ended.new.self.core c.deref.result.now c.new-talk.result c.converse-ended.new.talk.end _ c.open.new.self c.converse-ended.new.self c.converse-ended.ensures.acts).2 in
    c.in-Ok-connect.ensures.welcome c.close.result (c.close.ensures.name ∙ (passes.name ∙ ap g.N.End.Link.name made_is))
    (c.close.ensures.side ∙ (passes.side ∙ (ap g.N.End.Link.side made_is ∙ c.in-Ok-connect.ensures.new.is.side_is)))

pub returns-clause-fetches : goal.returns-clause-fetches
returns-clause-fetches g c =
    let m = g.M.Watched in
    let link = g.N.End.Link in
    let P = HasLooked m.asks_position m.position_of c.open.new.watch in
    let Q = HasLooked m.asks_position m.position_of c.converse-ended.new.watch in
    let H = WasHalted m.asks_halted m.is_halted c.converse-ended.new.watch in
    let u = c.args.self.now in
    let v = c.open.new.self in
    let w = c.converse-ended.new.self in
    let place = c.in-Ok-connect.made.0 in
    let talk = c.new-talk.result in
    let made_is = c.new-talk.ensures.end in
    let new = c.in-Ok-connect.ensures.new in
    let task_is : c.self.inside.task ≡ u.task = ap (λ (x : FetcherModel _). x.task) c.self.view_is ∙ c.in-Ok.ensures.opens.0 in
    let result_is : c.connect.result ≡ Ok (place, talk.end) = c.in-Ok-connect.is ∙ ap (λ e. Ok (place, e)) (sym made_is) in
    let pair = subst (λ t. Worked (IsOne (call.Pair t) (answer.Paired (Ok (place, talk.end)))) c.args.desk.now c.connect.new.self) task_is
    (subst (λ r. Worked (IsOne (call.Pair c.self.inside.task) (answer.Paired r)) c.args.desk.now c.connect.new.self) result_is c.connect.ensures.pairs) in
    let opened = works_as _ _ u v c.in-Ok.ensures.opens (λ made is. (is.0, is.1 ∙ sym c.deref.ensures.value)) in (
      (talk.end, c.close.result) ∷ [],
      desk_once u.task (c.converse-ended.result ≡ None) place talk.end c.close.result c.args.desk.now c.connect.new.self c.give_back.new.self pair c.give_back.ensures,
      fetched_once link (WasRefused u.task c.give_back.new.self) H u v w P Q
          (looked_later m.asks_halted m.asks_position m.is_halted m.position_of c.open.new.watch c.converse-ended.new.watch c.converse-ended.ensures.looks)
          talk c.converse-ended.new.talk.end c.close.result c.deref.result.now c.new-talk.ensures.left c.new-talk.ensures.lost
          (subst (λ e. IsUnused (link.sent e)) (sym made_is) new.sent) (subst (λ e. IsUnused (link.received e)) (sym made_is) new.received) c.close.ensures H (λ h. h)
          c.converse-ended.result opened c.converse-ended.ensures.acts,
    )

pub returns-clause-looks : goal.returns-clause-looks
returns-clause-looks g c =
    let m = g.M.Watched in
    looks_more m.asks_halted m.asks_position m.is_halted m.position_of c.args.watch.now c.open.new.watch c.converse-ended.new.watch c.open.ensures.looks c.converse-ended.ensures.looks

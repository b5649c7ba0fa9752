-- A donor's steps keep the rule: of those that change a seat that asks for blocks.
use Rattle.std.proofs.Common.{◌≡◌, ◌≢◌, ◌<◌, ℕ, Bool, true, false, List, [], ◌∷◌, refl, sym, ap, subst, inl, inr}
use Rattle.clone_rounds.specs.World.{Command, Execute, Answer, Stage, Block, End, Awaited, Nothing, ForFirst, ForEnd, ForStage, Core, New, Ready, Serving, Over, Free, Seat, Sides, World, with_seat, IsServing}
use Rattle.clone_rounds.specs.Idle.{Serves, FindsLoss}
use Rattle.clone_rounds.specs.Awaiting.{Has, rest_of, IsAnswered, MayJoin, IsNext, AreBlocks, IsServed, serving, served, lost, Talks, IsDue, TalkOf, IsAwaited, unsent, unread, missed, IsLevel, SeatRule, Rule}
use Rattle.clone_rounds.specs.Steps.{sends, after_call, starting, end_sent, closing, Reads, IsServingAt}
use Rattle.clone_rounds.proofs.Blocks.{blocks_endless, blocks_more, brings_sends, end_sends}
use Rattle.clone_rounds.proofs.Talks.{idle_rest, Unread, asked_of, InService, serving_of}
use Rattle.clone_rounds.proofs.Covers.{covers_seat}
use Rattle.clone_rounds.proofs.Fitting.{level_of}
use Rattle.clone_rounds.proofs.TaskSteps.{keep}

-- ---- AN EXECUTE IS CARRIED OUT

pub keep_starts : (w : World) (k : ℕ) → Rule w → Reads w k (Execute w.sides.at) Ready → Rule (with_seat w k (starting (w.seats k) w.sides.at))
keep_starts w k r c = keep w k (starting (w.seats k) w.sides.at) r (record {
  may = own.may;
  absent = λ e. cc (e, c.linked.connected);
  talk = λ e. rw (t.2.0, t.1) (serving [] (ap (λ x. Serving x []) t.2.2) tt refl);
  unheard = λ zero_is h. cc ((level_of w r k c.linked.connected t.2.0).0, h);
  unmet = λ zero_is h. cc;
  covered = λ l. covers_seat (w.sides.size w.sides.stage) w.sides.taken w.sides.owner k (w.seats k) (starting (w.seats k) w.sides.at) (own.covered l) awaited (λ b has. absurd has);
  ended = own.ended;
})
  where
    own : SeatRule w.sides k (w.seats k)
    own = r.seats k

    t : Unread w.sides (w.seats k) (Execute w.sides.at) []
    t = asked_of w.sides k (w.seats k) (Execute w.sides.at) [] ((r.seats k).talk c.linked.connected) c.front

    awaited : (b : ℕ) → IsAwaited (w.seats k) b → IsAwaited (starting (w.seats k) w.sides.at) b
    awaited b (unsent e has) = absurd (subst (λ x. Has b (rest_of x)) c.core has)
    awaited b (unread e h) = unread e h
    awaited b (missed e cut h) = missed e cut h

-- ---- ITS END IS SENT: no block is free

end_served : (stage : ℕ) (Due : ℕ → Type 0) (cut : Bool) (answers : List Answer) (x : ℕ) → x ≡ stage → AreBlocks stage Due false answers → IsServed stage Due (sends cut answers (End x)) cut (after_call cut Ready)
end_served stage Due true answers x e blocks = lost refl (λ h. h) blocks
end_served stage Due false answers x e blocks = served (inl refl) (blocks_more stage Due true answers (End x ∷ []) (λ b h g. g) blocks (refl, e, refl))

after_rest : (cut : Bool) (b : ℕ) → Has b (rest_of (after_call cut Ready)) → ⊥
after_rest true b h = h
after_rest false b h = h

pub keep_finishes : (w : World) (k : ℕ) → Rule w → IsServingAt w k w.sides.at [] → ((b : ℕ) → b < w.sides.size w.sides.at → w.sides.owner b ≢ Free) → Rule (with_seat w k (end_sent (w.seats k) w.sides.at))
keep_finishes w k r c none = keep w k (end_sent (w.seats k) w.sides.at) r (record {
  may = own.may;
  absent = λ e. cc (e, c.linked.connected);
  talk = λ e. rw (t.commands, t.awaits) (end_served w.sides.stage (IsDue w.sides k) (w.seats k).cut (w.seats k).answers w.sides.at t.same t.blocks);
  unheard = λ zero_is h. cc (level.0, h);
  unmet = λ zero_is h. cc (t.commands, h);
  covered = λ l. covers_seat (w.sides.size w.sides.stage) w.sides.taken w.sides.owner k (w.seats k) (end_sent (w.seats k) w.sides.at) (own.covered l) awaited (λ b has. absurd (after_rest (w.seats k).cut b has));
  ended = λ l h b small. none b (subst (λ x. b < w.sides.size x) (sym l.1) small);
})
  where
    own : SeatRule w.sides k (w.seats k)
    own = r.seats k

    t : InService w.sides k (w.seats k) w.sides.at []
    t = serving_of w.sides k (w.seats k) w.sides.at [] ((r.seats k).talk c.linked.connected) c.core

    level : IsLevel w.sides
    level = level_of w r k c.linked.connected t.awaits

    awaited : (b : ℕ) → IsAwaited (w.seats k) b → IsAwaited (end_sent (w.seats k) w.sides.at) b
    awaited b (unsent e has) = absurd (subst (λ x. Has b (rest_of x)) c.core has)
    awaited b (unread e h) = unread e (brings_sends b (w.seats k).cut (w.seats k).answers (End w.sides.at) h)
    awaited b (missed e cut h) = missed e cut (λ g. h (end_sends (w.seats k).cut (w.seats k).answers (End w.sides.at) (inr cut) g))

-- ---- A DISK FAULT

serving_in : (core : Core) → IsServing core → (stage : ℕ) × (rest : List ℕ) × (core ≡ Serving stage rest)
serving_in New h = absurd h
serving_in Ready h = absurd h
serving_in (Serving stage rest) h = (stage, rest, refl)
serving_in Over h = absurd h

pub keep_fails : (w : World) (k : ℕ) → Rule w → Serves w k → Rule (with_seat w k (closing (w.seats k)))
keep_fails w k r c = keep w k (closing (w.seats k)) r (record {
  may = own.may;
  absent = λ e. cc (e, c.linked.connected);
  talk = λ e. rw (t.awaits) (lost refl (λ h. h) t.blocks);
  unheard = λ zero_is h. cc ((level_of w r k c.linked.connected t.awaits).0, h);
  unmet = λ zero_is h. cc;
  covered = λ l. covers_seat (w.sides.size w.sides.stage) w.sides.taken w.sides.owner k (w.seats k) (closing (w.seats k)) (own.covered l) (λ b h. missed t.awaits refl (blocks_endless w.sides.stage (IsDue w.sides k) (w.seats k).answers t.blocks)) (λ b has. absurd has);
  ended = own.ended;
})
  where
    own : SeatRule w.sides k (w.seats k)
    own = r.seats k

    in_service : (stage : ℕ) × (rest : List ℕ) × ((w.seats k).core ≡ Serving stage rest)
    in_service = serving_in (w.seats k).core c.serving

    t : InService w.sides k (w.seats k) in_service.0 in_service.1
    t = serving_of w.sides k (w.seats k) in_service.0 in_service.1 ((r.seats k).talk c.linked.connected) in_service.2

-- ---- THE DONOR FINDS A LOSS

answered_over : (Fits : ℕ → Type 0) (answers : List Answer) (cut : Bool) (core : Core) → cut ≡ true → IsAnswered Fits answers cut core → IsAnswered Fits answers cut Over
answered_over Fits [] cut core e t = (t.0, λ h. h)
answered_over Fits (Stage s ∷ more) cut core e t = (t.0, t.1, inr (e, refl))
answered_over Fits (Block s b ∷ more) cut core e t = t
answered_over Fits (End s ∷ more) cut core e t = t

served_over : (stage : ℕ) (Due : ℕ → Type 0) (answers : List Answer) (cut : Bool) (core : Core) → cut ≡ true → (IsServing core → ⊥) → IsServed stage Due answers cut core → IsServed stage Due answers cut Over
served_over stage Due answers cut core e idle (serving rest is distinct blocks) = absurd (idle (subst IsServing (sym is) tt))
served_over stage Due answers cut core e idle (served waits blocks) = served (inr (e, refl)) blocks
served_over stage Due answers cut core e idle (lost c i blocks) = lost c (λ h. h) blocks

over_talk : (a : Sides) (k : ℕ) (s : Seat) → s.commands ≡ [] → s.cut ≡ true → (IsServing s.core → ⊥) → TalkOf a k s → TalkOf a k (record s { core = Over })
over_talk a k s none cut idle = go s.commands s.awaits none
  where
    go : (commands : List Command) (awaits : Awaited) → commands ≡ [] → Talks a.stage a.at k (IsDue a k) commands awaits s.answers s.cut s.core → Talks a.stage a.at k (IsDue a k) commands awaits s.answers s.cut Over
    go [] Nothing e t = (t.0, inr (cut, refl))
    go [] ForFirst e t = answered_over (MayJoin a.at k) s.answers s.cut s.core cut t
    go [] ForEnd e t = served_over a.stage (IsDue a k) s.answers s.cut s.core cut idle t
    go [] ForStage e t = answered_over (IsNext a.stage a.at) s.answers s.cut s.core cut t
    go (x ∷ more) awaits e t = cc

pub keep_finds_loss : (w : World) (k : ℕ) → Rule w → FindsLoss w k → Rule (with_seat w k (record (w.seats k) { core = Over }))
keep_finds_loss w k r c = keep w k (record (w.seats k) { core = Over }) r (record {
  may = own.may;
  absent = λ e. cc (e, c.linked.connected);
  talk = λ e. over_talk w.sides k (w.seats k) c.none c.cut c.idle (own.talk c.linked.connected);
  unheard = own.unheard;
  unmet = own.unmet;
  covered = λ l. covers_seat (w.sides.size w.sides.stage) w.sides.taken w.sides.owner k (w.seats k) (record (w.seats k) { core = Over }) (own.covered l) awaited (λ b has. absurd has);
  ended = own.ended;
})
  where
    own : SeatRule w.sides k (w.seats k)
    own = r.seats k

    awaited : (b : ℕ) → IsAwaited (w.seats k) b → IsAwaited (record (w.seats k) { core = Over }) b
    awaited b (unsent e has) = absurd (idle_rest (w.seats k).core b c.idle has)
    awaited b (unread e h) = unread e h
    awaited b (missed e cut h) = missed e cut h

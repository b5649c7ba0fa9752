-- A donor's steps keep the rule: of those that answer by a STAGE.
use Rattle.std.proofs.Common.{◌≡◌, ◌≢◌, ◌<◌, ℕ, suc, Bool, true, false, List, [], refl, sym, ap, subst, ◌∙◌, arith, inl, inr, ◌⊎◌}
use Rattle.clone_rounds.specs.World.{First, Acknowledge, Answer, Stage, ForEnd, New, Ready, Owner, Free, Sides, World, with_seat}
use Rattle.clone_rounds.specs.Awaiting.{HasEnd, IsAnswered, MayJoin, IsNext, TalkOf, Belongs, IsTaken, IsAt, SeatRule, Rule}
use Rattle.clone_rounds.specs.Steps.{sends, answering, kept_of, meeting, agreeing, Reads}
use Rattle.clone_rounds.proofs.Puts.{put_all}
use Rattle.clone_rounds.proofs.Blocks.{none_end, end_sends}
use Rattle.clone_rounds.proofs.Talks.{Unread, asked_of, talks_any}
use Rattle.clone_rounds.proofs.Covers.{covers_none, covers_unowned}
use Rattle.clone_rounds.proofs.Fitting.{present_of}
use Rattle.clone_rounds.proofs.TaskSteps.{keep, fresh_rule}

-- a STAGE is sent on a connection on which nothing lies unread
answers_stage : (Fits : ℕ → Type 0) (cut : Bool) (answers : List Answer) (x : ℕ) → answers ≡ [] → Fits x → IsAnswered Fits (sends cut answers (Stage x)) cut Ready
answers_stage Fits true answers x none f = rw none (refl, λ h. h)
answers_stage Fits false answers x none f = rw none (f, refl, inl refl)

stage_endless : (cut : Bool) (answers : List Answer) (x : ℕ) → answers ≡ [] → HasEnd (sends cut answers (Stage x)) → ⊥
stage_endless cut answers x none h = none_end answers none (end_sends cut answers (Stage x) (inl (λ g. g)) h)

-- ---- ATTACH, and a repeated acknowledgement

keep_answering : (w : World) (k x : ℕ) → Rule w → (w.seats k).connected ≡ true → w.sides.met ≡ true → (w.seats k).answers ≡ [] → (w.seats k).awaits ≢ ForEnd → TalkOf w.sides k (answering (w.seats k) x) → Rule (with_seat w k (answering (w.seats k) x))
keep_answering w k x r c met none never talk = keep w k (answering (w.seats k) x) r (record {
  may = own.may;
  absent = λ e. cc (e, c);
  talk = λ e. talk;
  unheard = λ zero_is h. cc (met, h);
  unmet = λ zero_is h. cc;
  covered = λ l. covers_none (w.sides.size w.sides.stage) w.sides.taken w.sides.owner k (w.seats k) (answering (w.seats k) x) (own.covered l) never (λ b has. has);
  ended = λ l h. own.ended l (at h);
})
  where
    own : SeatRule w.sides k (w.seats k)
    own = r.seats k

    at : ((w.seats k).ended ≡ true) ⊎ HasEnd (sends (w.seats k).cut (w.seats k).answers (Stage x)) → ((w.seats k).ended ≡ true) ⊎ HasEnd (w.seats k).answers
    at (inl h) = inl h
    at (inr h) = absurd (stage_endless (w.seats k).cut (w.seats k).answers x none h)

pub keep_welcomes : (w : World) (k : ℕ) → Rule w → k ≢ 0 → Reads w k First New → w.sides.met ≡ true → Rule (with_seat w k (answering (w.seats k) w.sides.at))
keep_welcomes w k r other c met = keep_answering w k w.sides.at r c.linked.connected met t.1 (λ e. cc (e, t.2.0)) (rw (t.2.0) (answers_stage (MayJoin w.sides.at k) (w.seats k).cut (w.seats k).answers w.sides.at t.1 (λ zero_is. refl)))
  where
    t : Unread w.sides (w.seats k) First []
    t = asked_of w.sides k (w.seats k) First [] ((r.seats k).talk c.linked.connected) c.front

pub keep_repeats : (w : World) (stage : ℕ) → Rule w → Reads w 0 (Acknowledge stage) Ready → suc stage ≡ w.sides.at → Rule (with_seat w 0 (answering (w.seats 0) w.sides.at))
keep_repeats w stage r c same = keep_answering w 0 w.sides.at r c.linked.connected (present_of w r 0 c.linked.connected (λ e. cc (e, t.2.0))).0 t.1 (λ e. cc (e, t.2.0)) (rw (t.2.0) (answers_stage (IsNext w.sides.stage w.sides.at) (w.seats 0).cut (w.seats 0).answers w.sides.at t.1 (sym same ∙ ap suc t.2.2, sym same ∙ ap suc t.2.2)))
  where
    t : Unread w.sides (w.seats 0) (Acknowledge stage) []
    t = asked_of w.sides 0 (w.seats 0) (Acknowledge stage) [] ((r.seats 0).talk c.linked.connected) c.front

-- ---- INIT AND REINIT

-- the blocks with which a donor takes up an incarnation in a stage
record Renewed (a : Sides) (stage : ℕ) (o : ℕ → Owner) : Type 0 where
  session : 0 < stage
  at : IsAt stage a.stage a.acknowledged
  unowned : (b k : ℕ) → Belongs k (o b) → ⊥
  here : stage ≡ a.stage → (b : ℕ) → IsTaken (o b) (a.taken b)
  next : stage ≡ suc a.stage → (b : ℕ) → o b ≡ Free

keep_meeting : (w : World) (stage : ℕ) (o : ℕ → Owner) → Rule w → Reads w 0 First New → w.sides.met ≡ false → Renewed w.sides stage o → Rule (meeting w stage o)
keep_meeting w stage o r c apart n = record {
  sides = record { tasks = r.sides.tasks; stage = r.sides.stage; acknowledged = r.sides.acknowledged; opening = r.sides.opening; at = n.at; apart = λ h. cc; session = λ h. n.session; joined = r.sides.joined; blocks = λ l b small. n.here l.1 b; next = λ h same. n.next same };
  seats = put_all (SeatRule (record w.sides { met = true; at = stage; owner = o })) w.seats 0 (answering (w.seats 0) stage) others own;
}
  where
    old : SeatRule w.sides 0 (w.seats 0)
    old = r.seats 0

    t : Unread w.sides (w.seats 0) First []
    t = asked_of w.sides 0 (w.seats 0) First [] ((r.seats 0).talk c.linked.connected) c.front

    others : (j : ℕ) → j ≢ 0 → SeatRule (record w.sides { met = true; at = stage; owner = o }) j (w.seats j)
    others j other = subst (SeatRule (record w.sides { met = true; at = stage; owner = o }) j) (sym ((r.seats j).absent ((r.seats j).may.follows other (r.sides.apart apart).0))) (fresh_rule (record w.sides { met = true; at = stage; owner = o }) j (λ zero_is. absurd (other zero_is)) (λ l b. n.unowned b j))

    ended : ((w.seats 0).ended ≡ true) ⊎ HasEnd (sends (w.seats 0).cut (w.seats 0).answers (Stage stage)) → ⊥
    ended (inl h) = cc (h, (old.unmet refl c.front).1)
    ended (inr h) = stage_endless (w.seats 0).cut (w.seats 0).answers stage t.1 h

    own : SeatRule (record w.sides { met = true; at = stage; owner = o }) 0 (answering (w.seats 0) stage)
    own = record {
      may = record { task = old.may.task; meets = λ zero_is h. c.linked.connected; joins = λ zero_is j d. t.2.0; follows = λ other. absurd (other refl); endless = λ h e. cc (e, t.2.0); acknowledges = λ e. cc (e, t.2.0); done = λ zero_is h. absurd (below w.sides.stage h (r.sides.apart apart).1) };
      absent = λ e. cc (e, c.linked.connected);
      talk = λ e. rw (t.2.0) (answers_stage (MayJoin stage 0) (w.seats 0).cut (w.seats 0).answers stage t.1 (λ zero_is. refl));
      unheard = λ zero_is h. cc;
      unmet = λ zero_is h. cc;
      covered = λ l. covers_unowned (w.sides.size w.sides.stage) w.sides.taken o 0 (answering (w.seats 0) stage) (λ b. n.unowned b 0) (λ b has. has);
      ended = λ l h. absurd (ended h);
    }
      where
        below : (m : ℕ) → m ≡ 4 → m < 4 → ⊥
        below m e h = omega arith

kept_unowned : (t : Bool) (k : ℕ) → Belongs k (kept_of t) → ⊥
kept_unowned true k h = h
kept_unowned false k h = h

kept_taken : (t : Bool) → IsTaken (kept_of t) t
kept_taken true = refl
kept_taken false = refl

pub keep_meets_here : (w : World) → Rule w → Reads w 0 First New → w.sides.met ≡ false → w.sides.at ≡ w.sides.stage → 0 < w.sides.at → Rule (meeting w w.sides.at (λ b. kept_of (w.sides.taken b)))
keep_meets_here w r c apart level session = keep_meeting w w.sides.at (λ b. kept_of (w.sides.taken b)) r c apart (record { session = session; at = inl level; unowned = λ b. kept_unowned (w.sides.taken b); here = λ same b. kept_taken (w.sides.taken b); next = λ ahead. absurd (omega (arith, ahead, level)) })

-- where the donor has no session this is stage 0, for which INIT counts as its acknowledgement
pub keep_meets_next : (w : World) → Rule w → Reads w 0 First New → w.sides.met ≡ false → (w.sides.at ≡ suc w.sides.stage) ⊎ ((w.sides.at ≡ 0) × (w.sides.stage ≡ 0)) → Rule (meeting w (suc w.sides.stage) (λ b. Free))
keep_meets_next w r c apart h = keep_meeting w (suc w.sides.stage) (λ b. Free) r c apart (record { session = omega arith; at = inr (refl, acknowledged h r.sides.at); unowned = λ b k g. g; here = λ same. absurd (omega (arith, same)); next = λ same b. refl })
  where
    acknowledged : (w.sides.at ≡ suc w.sides.stage) ⊎ ((w.sides.at ≡ 0) × (w.sides.stage ≡ 0)) → IsAt w.sides.at w.sides.stage w.sides.acknowledged → w.sides.acknowledged ≡ true
    acknowledged (inr none) g = r.sides.opening none.1
    acknowledged (inl ahead) (inl level) = absurd (omega (arith, ahead, level))
    acknowledged (inl ahead) (inr g) = g.1

-- ---- THE FIRST ACKNOWLEDGEMENT OF A STAGE

pub keep_agreeing : (w : World) → Rule w → Reads w 0 (Acknowledge w.sides.at) Ready → Rule (agreeing w)
keep_agreeing w r c = record {
  sides = record { tasks = r.sides.tasks; stage = r.sides.stage; acknowledged = r.sides.acknowledged; opening = r.sides.opening; at = inr (ap suc level, acknowledged); apart = r.sides.apart; session = λ h. omega arith; joined = r.sides.joined; blocks = λ l. absurd (never l.1); next = λ h n b. refl };
  seats = put_all (SeatRule (record w.sides { at = suc w.sides.at; owner = λ b. Free })) w.seats 0 (answering (w.seats 0) (suc w.sides.at)) others own;
}
  where
    old : SeatRule w.sides 0 (w.seats 0)
    old = r.seats 0

    t : Unread w.sides (w.seats 0) (Acknowledge w.sides.at) []
    t = asked_of w.sides 0 (w.seats 0) (Acknowledge w.sides.at) [] ((r.seats 0).talk c.linked.connected) c.front

    level : w.sides.at ≡ w.sides.stage
    level = t.2.2

    acknowledged : w.sides.acknowledged ≡ true
    acknowledged = ((r.seats 0).may.acknowledges t.2.0).1

    never : suc w.sides.at ≡ w.sides.stage → ⊥
    never h = omega (arith, h, level)

    others : (j : ℕ) → j ≢ 0 → SeatRule (record w.sides { at = suc w.sides.at; owner = λ b. Free }) j (w.seats j)
    others j other = let own : SeatRule w.sides j (w.seats j) = r.seats j in record {
      may = record { task = own.may.task; meets = λ zero_is. absurd (other zero_is); joins = λ zero_is. absurd (other zero_is); follows = own.may.follows; endless = own.may.endless; acknowledges = own.may.acknowledges; done = λ zero_is. absurd (other zero_is) };
      absent = own.absent;
      talk = λ e. talks_any w.sides (record w.sides { at = suc w.sides.at; owner = λ b. Free }) j (w.seats j) (own.may.endless acknowledged) (λ h. other (own.may.acknowledges h).0) (inl (λ x h zero_is. absurd (other zero_is))) (own.talk e);
      unheard = λ zero_is. absurd (other zero_is);
      unmet = λ zero_is. absurd (other zero_is);
      covered = λ l. absurd (never l.1);
      ended = λ l. absurd (never l.1);
    }

    own : SeatRule (record w.sides { at = suc w.sides.at; owner = λ b. Free }) 0 (answering (w.seats 0) (suc w.sides.at))
    own = record {
      may = old.may;
      absent = λ e. cc (e, c.linked.connected);
      talk = λ e. rw (t.2.0) (answers_stage (IsNext w.sides.stage (suc w.sides.at)) (w.seats 0).cut (w.seats 0).answers (suc w.sides.at) t.1 (ap suc level, ap suc level));
      unheard = λ zero_is h. cc ((present_of w r 0 c.linked.connected (λ e. cc (e, t.2.0))).0, h);
      unmet = λ zero_is h. cc;
      covered = λ l. absurd (never l.1);
      ended = λ l. absurd (never l.1);
    }

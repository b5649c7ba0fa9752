-- A task's steps keep the rule: of those that change what the recipient knows.
use Rattle.std.proofs.Common.{◌≡◌, ◌≢◌, ◌<◌, ◌≤◌, ℕ, suc, Bool, true, false, List, [], ◌∷◌, refl, sym, ap, subst, ◌∙◌, arith, inl, inr, ◌⊎◌}
use Rattle.std.proofs.lemmas.Bool.{cases_Bool}
use Rattle.clone_rounds.specs.World.{Acknowledge, Answer, Stage, Block, ForFirst, ForEnd, ForStage, Ready, Owner, Free, Sent, Seat, World, put}
use Rattle.clone_rounds.specs.Idle.{TakesPart, Loses, Acknowledges}
use Rattle.clone_rounds.specs.Awaiting.{Has, Brings, HasEnd, rest_of, Waits, AreBlocks, IsServed, serving, served, lost, IsDue, TalkOf, IsAwaited, unsent, unread, missed, Belongs, IsLevel, IsTaken, IsAt, SeatRule, Rule}
use Rattle.clone_rounds.specs.Steps.{asking, acknowledging, takes_stage, joining, advanced, unended, advancing, taking, Hears, Forgets, losing}
use Rattle.clone_rounds.proofs.Puts.{put_all, put_cases, put_true, put_false}
use Rattle.clone_rounds.proofs.Blocks.{none_ended, none_end, blocks_due}
use Rattle.clone_rounds.proofs.Talks.{waits_idle, idle_rest, ready_rest, IsQuiet, quiet_of, Heard, heard_of, idle_of, endless_of, talks_due, talks_any, unread_of}
use Rattle.clone_rounds.proofs.Covers.{covers, covers_none, covers_unowned}
use Rattle.clone_rounds.proofs.TaskSteps.{fresh_rule, sends_cut, sends_one, sent_first, ended_before}

-- ---- AN ACKNOWLEDGEMENT IS SENT

pub keep_acknowledges : (w : World) → Rule w → Acknowledges w → Rule (acknowledging w)
keep_acknowledges w r c = record {
  sides = record { tasks = r.sides.tasks; stage = r.sides.stage; acknowledged = λ a. c.all; opening = λ e. refl; at = at r.sides.at; apart = r.sides.apart; session = r.sides.session; joined = r.sides.joined; blocks = r.sides.blocks; next = r.sides.next };
  seats = put_all (SeatRule (record w.sides { acknowledged = true })) w.seats 0 (asking s ForStage (Acknowledge w.sides.stage)) others own;
}
  where
    s : Seat
    s = w.seats 0

    old : SeatRule w.sides 0 (w.seats 0)
    old = r.seats 0

    at : IsAt w.sides.at w.sides.stage w.sides.acknowledged → IsAt w.sides.at w.sides.stage true
    at (inl e) = inl e
    at (inr e) = inr (e.0, refl)

    others : (j : ℕ) → j ≢ 0 → SeatRule (record w.sides { acknowledged = true }) j (w.seats j)
    others j other = let own : SeatRule w.sides j (w.seats j) = r.seats j in record { may = record { task = own.may.task; meets = own.may.meets; joins = own.may.joins; follows = own.may.follows; endless = λ a. c.nobody j; acknowledges = λ e. absurd (other (own.may.acknowledges e).0); done = own.may.done }; absent = own.absent; talk = own.talk; unheard = own.unheard; unmet = own.unmet; covered = own.covered; ended = own.ended }

    q : IsQuiet (w.seats 0)
    q = quiet_of w.sides 0 (w.seats 0) ((r.seats 0).talk c.linked.connected) c.awaits

    talk : ((w.seats 0).cut ≡ true) ⊎ ((w.seats 0).cut ≡ false) → TalkOf (record w.sides { acknowledged = true }) 0 (asking (w.seats 0) ForStage (Acknowledge w.sides.stage))
    talk (inl cut) = rw (sends_cut (w.seats 0).cut (w.seats 0).commands (Acknowledge w.sides.stage) cut ∙ q.0, q.1) (cut, waits_idle Ready (w.seats 0).core (w.seats 0).cut (λ h. h) q.2)
    talk (inr up) = rw (sends_one (w.seats 0).cut (w.seats 0).commands (Acknowledge w.sides.stage) up q.0) (refl, q.1, (refl, q.2, refl))

    own : SeatRule (record w.sides { acknowledged = true }) 0 (asking (w.seats 0) ForStage (Acknowledge w.sides.stage))
    own = record {
      may = record { task = old.may.task; meets = old.may.meets; joins = λ zero_is j d. cc (old.may.joins zero_is j d, c.awaits); follows = λ other. absurd (other refl); endless = λ a e. cc; acknowledges = λ e. (refl, refl, c.stage); done = λ zero_is e. absurd (omega arith) };
      absent = λ e. cc (e, c.linked.connected);
      talk = λ e. talk (cases_Bool (w.seats 0).cut);
      unheard = old.unheard;
      unmet = λ zero_is h. cc (sent_first s.cut s.commands (Acknowledge w.sides.stage) q.0 h);
      covered = λ l. covers_none (w.sides.size w.sides.stage) w.sides.taken w.sides.owner 0 s (asking s ForStage (Acknowledge w.sides.stage)) (old.covered l) (c.nobody 0) (λ b. ready_rest s.core s.cut b q.2);
      ended = λ l h. absurd (none_ended s.answers (none_end s.answers q.1) h);
    }

-- ---- TASK 0 TAKES A STAGE

-- where a frame lies unread for task 0 the donor has the present incarnation
pub met_of : (w : World) → Rule w → (x : Answer) (more : List Answer) → (w.seats 0).answers ≡ x ∷ more → w.sides.met ≡ true
met_of w r x more e = at (cases_Bool w.sides.met)
  where
    at : (w.sides.met ≡ true) ⊎ (w.sides.met ≡ false) → w.sides.met ≡ true
    at (inl h) = h
    at (inr h) = cc (e, (r.seats 0).unheard refl h)

pub keep_joins : (w : World) (stage : ℕ) (more : List Answer) → Rule w → Hears w 0 ForFirst (Stage stage) more → 0 < w.sides.stage → Rule (joining w more)
keep_joins w stage more r c begun = record {
  sides = record { tasks = r.sides.tasks; stage = r.sides.stage; acknowledged = r.sides.acknowledged; opening = r.sides.opening; at = r.sides.at; apart = λ h. cc (met, h); session = r.sides.session; joined = λ h. begun; blocks = r.sides.blocks; next = r.sides.next };
  seats = put_all (SeatRule (record w.sides { joined = true })) w.seats 0 (takes_stage (w.seats 0) more) others own;
}
  where
    old : SeatRule w.sides 0 (w.seats 0)
    old = r.seats 0

    met : w.sides.met ≡ true
    met = met_of w r (Stage stage) more c.front

    others : (j : ℕ) → j ≢ 0 → SeatRule (record w.sides { joined = true }) j (w.seats j)
    others j other = let own : SeatRule w.sides j (w.seats j) = r.seats j in record { may = record { task = own.may.task; meets = λ zero_is. absurd (other zero_is); joins = λ zero_is. absurd (other zero_is); follows = λ z h. cc; endless = own.may.endless; acknowledges = own.may.acknowledges; done = λ zero_is. absurd (other zero_is) }; absent = own.absent; talk = own.talk; unheard = λ zero_is. absurd (other zero_is); unmet = λ zero_is. absurd (other zero_is); covered = own.covered; ended = own.ended }

    t : Heard w.sides 0 (w.seats 0) ForFirst (Stage stage ∷ more)
    t = heard_of w.sides 0 (w.seats 0) ForFirst (Stage stage) more ((r.seats 0).talk c.linked.connected) c.awaited c.front

    own : SeatRule (record w.sides { joined = true }) 0 (takes_stage (w.seats 0) more)
    own = record {
      may = record { task = old.may.task; meets = old.may.meets; joins = λ zero_is j d. cc; follows = λ other. absurd (other refl); endless = λ a e. cc; acknowledges = λ e. cc; done = λ zero_is h. refl };
      absent = λ e. cc (e, c.linked.connected);
      talk = λ e. rw (t.0) (t.1.1, t.1.2);
      unheard = λ zero_is h. cc (met, h);
      unmet = λ zero_is h. cc (t.0, h);
      covered = λ l. covers_none (w.sides.size w.sides.stage) w.sides.taken w.sides.owner 0 (w.seats 0) (takes_stage (w.seats 0) more) (old.covered l) (λ e. cc (e, c.awaited)) (λ b. ready_rest (w.seats 0).core (w.seats 0).cut b t.1.2);
      ended = λ l h. old.ended l (ended_before (w.seats 0) (Stage stage) more c.front (λ g. g) h);
    }

-- ---- THE RECIPIENT MOVES TO THE DONOR'S STAGE

free_owns : (o : Owner) (k : ℕ) → o ≡ Free → Belongs k o → ⊥
free_owns o k e h = subst (Belongs k) e h

-- a task that takes a STAGE by which the recipient moves
pub record Moving (w : World) (more : List Answer) : Type 0 where
  pub connected : (w.seats 0).connected ≡ true
  pub met : w.sides.met ≡ true
  pub commands : (w.seats 0).commands ≡ []
  pub last : more ≡ []
  pub waits : Waits Ready (w.seats 0).cut (w.seats 0).core
  pub ahead : w.sides.at ≡ suc w.sides.stage
  pub acknowledged : w.sides.acknowledged ≡ true
  pub small : w.sides.stage < 4

pub keep_advancing : (w : World) (more : List Answer) → Rule w → Moving w more → Rule (advancing w more)
keep_advancing w more r m = record {
  sides = record { tasks = r.sides.tasks; stage = omega (arith, m.small); acknowledged = λ h. cc; opening = λ h. absurd (omega (arith, h)); at = inl m.ahead; apart = λ h. cc (m.met, h); session = r.sides.session; joined = λ h. omega arith; blocks = λ l b small. subst (λ o. IsTaken o false) (sym (free b)) refl; next = λ h n. absurd (omega (arith, n, m.ahead)) };
  seats = put_all (SeatRule (advanced w.sides)) (λ j. unended (w.seats j)) 0 (unended (takes_stage (w.seats 0) more)) others own;
}
  where
    free : (b : ℕ) → w.sides.owner b ≡ Free
    free = r.sides.next m.met m.ahead

    others : (j : ℕ) → j ≢ 0 → SeatRule (advanced w.sides) j (unended (w.seats j))
    others j other = let own : SeatRule w.sides j (w.seats j) = r.seats j in record {
      may = record { task = own.may.task; meets = λ zero_is. absurd (other zero_is); joins = λ zero_is. absurd (other zero_is); follows = λ z h. cc; endless = λ a. own.may.endless m.acknowledged; acknowledges = λ h. absurd (other (own.may.acknowledges h).0); done = λ zero_is. absurd (other zero_is) };
      absent = λ e. ap unended (own.absent e);
      talk = λ e. talks_any w.sides (advanced w.sides) j (w.seats j) (own.may.endless m.acknowledged) (λ h. other (own.may.acknowledges h).0) (inl (λ x h. h)) (own.talk e);
      unheard = λ zero_is. absurd (other zero_is);
      unmet = λ zero_is. absurd (other zero_is);
      covered = λ l. covers_unowned (w.sides.size (suc w.sides.stage)) (λ b. false) w.sides.owner j (unended (w.seats j)) (λ b. free_owns (w.sides.owner b) j (free b)) (λ b. rest j (cases_Bool (w.seats j).connected) b);
      ended = λ l h. absurd (none_ended (w.seats j).answers (endless j (cases_Bool (w.seats j).connected)) h);
    }
      where
        rest : (i : ℕ) → ((w.seats i).connected ≡ true) ⊎ ((w.seats i).connected ≡ false) → (b : ℕ) → Has b (rest_of (w.seats i).core) → ⊥
        rest i (inl c) b h = idle_rest (w.seats i).core b (idle_of w.sides i (w.seats i) ((r.seats i).talk c) ((r.seats i).may.endless m.acknowledged)) h
        rest i (inr apart) b h = subst (λ s. Has b (rest_of s.core)) ((r.seats i).absent apart) h

        endless : (i : ℕ) → ((w.seats i).connected ≡ true) ⊎ ((w.seats i).connected ≡ false) → HasEnd (w.seats i).answers → ⊥
        endless i (inl c) h = endless_of w.sides i (w.seats i) ((r.seats i).talk c) ((r.seats i).may.endless m.acknowledged) h
        endless i (inr apart) h = subst (λ s. HasEnd s.answers) ((r.seats i).absent apart) h

    own : SeatRule (advanced w.sides) 0 (unended (takes_stage (w.seats 0) more))
    own = record {
      may = record { task = (r.seats 0).may.task; meets = (r.seats 0).may.meets; joins = λ zero_is j d. cc; follows = λ other. absurd (other refl); endless = λ a e. cc; acknowledges = λ e. cc; done = λ zero_is h. refl };
      absent = λ e. cc (e, m.connected);
      talk = λ e. rw (m.commands) (m.last, m.waits);
      unheard = λ zero_is h. cc (m.met, h);
      unmet = λ zero_is h. cc (m.commands, h);
      covered = λ l. covers_unowned (w.sides.size (suc w.sides.stage)) (λ b. false) w.sides.owner 0 (unended (takes_stage (w.seats 0) more)) (λ b. free_owns (w.sides.owner b) 0 (free b)) (λ b. ready_rest (w.seats 0).core (w.seats 0).cut b m.waits);
      ended = λ l h. absurd (none_ended more (none_end more m.last) h);
    }

pub keep_opens : (w : World) (more : List Answer) → Rule w → Hears w 0 ForFirst (Stage 1) more → w.sides.stage ≡ 0 → Rule (advancing w more)
keep_opens w more r c begun = keep_advancing w more r (record { connected = c.linked.connected; met = met; commands = t.0; last = t.1.1; waits = t.1.2; ahead = at r.sides.at; acknowledged = r.sides.opening begun; small = omega (arith, begun) })
  where
    met : w.sides.met ≡ true
    met = met_of w r (Stage 1) more c.front

    t : Heard w.sides 0 (w.seats 0) ForFirst (Stage 1 ∷ more)
    t = heard_of w.sides 0 (w.seats 0) ForFirst (Stage 1) more ((r.seats 0).talk c.linked.connected) c.awaited c.front

    at : IsAt w.sides.at w.sides.stage w.sides.acknowledged → w.sides.at ≡ suc w.sides.stage
    at (inl level) = let one : 1 ≡ w.sides.at = t.1.0 refl in omega (arith, one, begun, level)
    at (inr ahead) = ahead.0

pub keep_advances : (w : World) (more : List Answer) → Rule w → Hears w 0 ForStage (Stage (suc w.sides.stage)) more → Rule (advancing w more)
keep_advances w more r c = keep_advancing w more r (record { connected = c.linked.connected; met = met_of w r (Stage (suc w.sides.stage)) more c.front; commands = t.0; last = t.1.1; waits = t.1.2; ahead = t.1.0.1; acknowledged = ((r.seats 0).may.acknowledges c.awaited).1; small = ((r.seats 0).may.acknowledges c.awaited).2 })
  where
    t : Heard w.sides 0 (w.seats 0) ForStage (Stage (suc w.sides.stage) ∷ more)
    t = heard_of w.sides 0 (w.seats 0) ForStage (Stage (suc w.sides.stage)) more ((r.seats 0).talk c.linked.connected) c.awaited c.front

-- ---- A BLOCK IS TAKEN

pub keep_taking : (w : World) (k b : ℕ) (more : List Answer) → Rule w → Hears w k ForEnd (Block w.sides.stage b) more → Rule (taking w k b more)
keep_taking w k b more r c = record {
  sides = record { tasks = r.sides.tasks; stage = r.sides.stage; acknowledged = λ a d small. put_true w.sides.taken b d (r.sides.acknowledged a d small); opening = r.sides.opening; at = r.sides.at; apart = r.sides.apart; session = r.sides.session; joined = r.sides.joined; blocks = blocks; next = r.sides.next };
  seats = put_all (SeatRule (record w.sides { taken = put w.sides.taken b true })) w.seats k (record (w.seats k) { answers = more }) others own;
}
  where
    old : SeatRule w.sides k (w.seats k)
    old = r.seats k

    Now : ℕ → ℕ → Type 0
    Now = IsDue (record w.sides { taken = put w.sides.taken b true })

    t : Heard w.sides k (w.seats k) ForEnd (Block w.sides.stage b ∷ more)
    t = heard_of w.sides k (w.seats k) ForEnd (Block w.sides.stage b) more ((r.seats k).talk c.linked.connected) c.awaited c.front

    due : IsDue w.sides k b
    due = (unread_of w.sides.stage (IsDue w.sides k) (Block w.sides.stage b ∷ more) (w.seats k).cut (w.seats k).core t.1).1.1

    -- a block that isn't this one is as it was
    still : (j d : ℕ) → d ≢ b → IsDue w.sides j d → IsDue (record w.sides { taken = put w.sides.taken b true }) j d
    still j d other h = (h.0, h.1, put_false w.sides.taken b d h.2 other)

    blocks : IsLevel w.sides → (d : ℕ) → d < w.sides.size w.sides.stage → IsTaken (w.sides.owner d) (put w.sides.taken b true d)
    blocks l d small = at (put_cases w.sides.taken b true d)
      where
        at : ((d ≡ b) × (put w.sides.taken b true d ≡ true)) ⊎ ((d ≢ b) × (put w.sides.taken b true d ≡ w.sides.taken d)) → IsTaken (w.sides.owner d) (put w.sides.taken b true d)
        at (inl h) = subst (λ o. IsTaken o (put w.sides.taken b true d)) (sym (ap w.sides.owner h.0 ∙ due.1)) tt
        at (inr h) = subst (IsTaken (w.sides.owner d)) (sym h.1) (r.sides.blocks l d small)

    others : (j : ℕ) → j ≢ k → SeatRule (record w.sides { taken = put w.sides.taken b true }) j (w.seats j)
    others j other = let own : SeatRule w.sides j (w.seats j) = r.seats j in record {
      may = own.may;
      absent = own.absent;
      talk = λ e. talks_due w.sides.stage w.sides.at j (IsDue w.sides j) (IsDue (record w.sides { taken = put w.sides.taken b true }) j) (w.seats j) (λ d g h. still j d (λ same. other (sent_same j k (sym h.1 ∙ ap w.sides.owner same ∙ due.1))) h) (own.talk e);
      unheard = own.unheard;
      unmet = own.unmet;
      covered = λ l. covers (w.sides.size w.sides.stage) w.sides.taken (put w.sides.taken b true) w.sides.owner w.sides.owner j (w.seats j) (w.seats j) (own.covered l) (λ d small o. inl o) (λ d h. put_true w.sides.taken b d h) (λ d h. inr h) (own.covered l).rest;
      ended = own.ended;
    }
      where
        sent_same : (i l : ℕ) → Sent i ≡ Sent l → i ≡ l
        sent_same i l e = cc

    left : (ended : Bool) → AreBlocks w.sides.stage (IsDue w.sides k) ended (Block w.sides.stage b ∷ more) → AreBlocks w.sides.stage (IsDue (record w.sides { taken = put w.sides.taken b true }) k) ended more
    left ended h = blocks_due w.sides.stage (IsDue w.sides k) (IsDue (record w.sides { taken = put w.sides.taken b true }) k) ended more (λ d g x. still k d (λ same. h.2 (subst (λ y. Brings y more) same g)) x) h.3

    talk : IsServed w.sides.stage (IsDue w.sides k) (Block w.sides.stage b ∷ more) (w.seats k).cut (w.seats k).core → IsServed w.sides.stage (IsDue (record w.sides { taken = put w.sides.taken b true }) k) more (w.seats k).cut (w.seats k).core
    talk (serving rest is distinct blocks) = serving rest is distinct (left false blocks)
    talk (served waits blocks) = served waits (left true blocks)
    talk (lost cut idle blocks) = lost cut idle (left false blocks)

    awaited : (d : ℕ) → IsAwaited (w.seats k) d → (put w.sides.taken b true d ≡ true) ⊎ IsAwaited (record (w.seats k) { answers = more }) d
    awaited d (unsent e has) = inr (unsent e has)
    awaited d (unread e h) = at (put_cases w.sides.taken b true d) (subst (Brings d) c.front h)
      where
        at : ((d ≡ b) × (put w.sides.taken b true d ≡ true)) ⊎ ((d ≢ b) × (put w.sides.taken b true d ≡ w.sides.taken d)) → (d ≡ b) ⊎ Brings d more → (put w.sides.taken b true d ≡ true) ⊎ IsAwaited (record (w.seats k) { answers = more }) d
        at (inl x) y = inl x.1
        at (inr x) (inl y) = absurd (x.0 y)
        at (inr x) (inr y) = inr (unread e y)
    awaited d (missed e cut h) = inr (missed e cut (λ g. h (subst HasEnd (sym c.front) g)))

    own : SeatRule (record w.sides { taken = put w.sides.taken b true }) k (record (w.seats k) { answers = more })
    own = record {
      may = old.may;
      absent = λ e. cc (e, c.linked.connected);
      talk = λ e. rw (t.0, c.awaited) (talk t.1);
      unheard = λ zero_is h. cc (old.unheard zero_is h, c.front);
      unmet = old.unmet;
      covered = λ l. covers (w.sides.size w.sides.stage) w.sides.taken (put w.sides.taken b true) w.sides.owner w.sides.owner k (w.seats k) (record (w.seats k) { answers = more }) (old.covered l) (λ d small o. inl o) (λ d h. put_true w.sides.taken b d h) awaited (old.covered l).rest;
      ended = λ l h. old.ended l (ended_before (w.seats k) (Block w.sides.stage b) more c.front (λ g. g) h);
    }

-- ---- A LOSS

pub keep_losing : (w : World) (k : ℕ) (taken : ℕ → Bool) (late : ℕ) → Rule w → Loses w k → Forgets w.sides taken → Rule (losing w taken late)
keep_losing w k taken late r c f = record {
  sides = record { tasks = r.sides.tasks; stage = r.sides.stage; acknowledged = λ a. f.whole (r.sides.acknowledged a); opening = r.sides.opening; at = r.sides.at; apart = λ h. (refl, small c.part); session = λ h. cc; joined = λ h. cc; blocks = λ l. cc (l.0); next = λ h. cc };
  seats = λ j. fresh_rule (record w.sides { taken = taken; joined = false; met = false }) j (λ zero_is. refl) (λ l. cc (l.0));
}
  where
    done : (k ≡ 0) → w.sides.stage ≡ 4 → ⊥
    done zero_is e = c.awaits ((r.seats k).may.done zero_is e)

    small : TakesPart w k → w.sides.stage < 4
    small (inl h) = h
    small (inr zero_is) = below w.sides.stage r.sides.stage (done zero_is)
      where
        below : (n : ℕ) → n ≤ 4 → (n ≡ 4 → ⊥) → n < 4
        below n h never = omega (arith, never)

-- A task's steps keep the rule: of those that change its seat alone.
use Rattle.std.proofs.Common.{◌≡◌, ◌≢◌, ◌++◌, ℕ, Bool, true, false, cond, List, [], ◌∷◌, refl, sym, ap, subst, ◌∙◌, arith, inl, inr, ◌⊎◌}
use Rattle.std.proofs.lemmas.Bool.{cases_Bool}
use Rattle.clone_rounds.specs.World.{Command, First, Execute, Answer, Stage, End, ForFirst, ForEnd, Ready, Seat, fresh, Sides, World, with_seat}
use Rattle.clone_rounds.specs.Idle.{Connects, Executes}
use Rattle.clone_rounds.specs.Awaiting.{Brings, HasEnd, Waits, IsServed, serving, served, lost, IsDue, TalkOf, Belongs, IsLevel, IsAwaited, unsent, unread, missed, SeatRule, Rule}
use Rattle.clone_rounds.specs.Steps.{sends, connecting, asking, takes_stage, takes_end, Hears}
use Rattle.clone_rounds.proofs.Puts.{put_all}
use Rattle.clone_rounds.proofs.Blocks.{none_end, none_ended}
use Rattle.clone_rounds.proofs.Talks.{waits_idle, ready_rest, IsQuiet, quiet_of, Heard, heard_of}
use Rattle.clone_rounds.proofs.Covers.{covers_none, covers_seat, covers_unowned}

-- A SEAT THAT CHANGED and meets the rule of a seat
pub keep : (w : World) (k : ℕ) (s : Seat) → Rule w → SeatRule w.sides k s → Rule (with_seat w k s)
keep w k s r own = record { sides = r.sides; seats = put_all (SeatRule w.sides) w.seats k s (λ j other. r.seats j) own }

-- A SEAT WITHOUT A CONNECTION, of task 0 before the donor has the incarnation, or of another one
pub fresh_rule : (a : Sides) (k : ℕ) → (k ≡ 0 → a.met ≡ false) → (IsLevel a → (b : ℕ) → Belongs k (a.owner b) → ⊥) → SeatRule a k fresh
fresh_rule a k apart none = record {
  may = record { task = λ e. cc; meets = λ zero_is h. cc (apart zero_is, h); joins = λ zero_is h d. cc; follows = λ other h. refl; endless = λ h e. cc; acknowledges = λ e. cc; done = λ zero_is h. refl };
  absent = λ e. refl;
  talk = λ e. cc;
  unheard = λ zero_is h. refl;
  unmet = λ zero_is h. cc;
  covered = λ l. covers_unowned (a.size a.stage) a.taken a.owner k fresh (none l) (λ b has. has);
  ended = λ l h. absurd (none_ended [] (λ g. g) h);
}

-- ---- what is sent

pub sends_open : {A : Type 0} (cut : Bool) (queue : List A) (x : A) → cut ≡ false → sends cut queue x ≡ queue ++ x ∷ []
sends_open cut queue x e = ap (λ b. cond b queue (queue ++ x ∷ [])) e

pub sends_cut : {A : Type 0} (cut : Bool) (queue : List A) (x : A) → cut ≡ true → sends cut queue x ≡ queue
sends_cut cut queue x e = ap (λ b. cond b queue (queue ++ x ∷ [])) e

pub sends_one : {A : Type 0} (cut : Bool) (queue : List A) (x : A) → cut ≡ false → queue ≡ [] → sends cut queue x ≡ x ∷ []
sends_one cut queue x e none = sends_open cut queue x e ∙ ap (λ q. q ++ x ∷ []) none

-- of a queue that was empty: the one that was sent, or nothing
pub sent_first : (cut : Bool) (queue : List Command) (c : Command) → queue ≡ [] → sends cut queue c ≡ First ∷ [] → c ≡ First
sent_first true queue c none h = cc (none, h)
sent_first false queue c none h = cc (sends_one false queue c refl none, h)

-- ---- A TASK CONNECTS

pub keep_connects : (w : World) (k : ℕ) → Rule w → Connects w k → Rule (with_seat w k connecting)
keep_connects w k r c = keep w k connecting r (record {
  may = record { task = λ e. c.task; meets = λ zero_is m. refl; joins = λ zero_is a b. refl; follows = λ other joined. absurd (follows other joined c.first); endless = λ a e. cc; acknowledges = λ e. cc; done = λ zero_is e. absurd (omega arith) };
  absent = λ e. cc;
  talk = λ e. (refl, refl, (refl, inl refl));
  unheard = λ zero_is m. refl;
  unmet = λ zero_is h. (unmet zero_is (cases_Bool w.sides.met), refl);
  covered = λ l. covers_none (w.sides.size w.sides.stage) w.sides.taken w.sides.owner k (w.seats k) connecting (own.covered l) (λ e. cc (e, ap (λ s. s.awaits) (own.absent c.absent))) (λ b has. has);
  ended = λ l e. absurd (none_ended [] (λ h. h) e);
})
  where
    own : SeatRule w.sides k (w.seats k)
    own = r.seats k

    unmet : k ≡ 0 → (w.sides.met ≡ true) ⊎ (w.sides.met ≡ false) → w.sides.met ≡ false
    unmet zero_is (inl holds) = cc (own.may.meets zero_is holds, c.absent)
    unmet zero_is (inr apart) = apart

    follows : k ≢ 0 → w.sides.joined ≡ false → (k ≡ 0) ⊎ (w.sides.joined ≡ true) → ⊥
    follows other joined (inl zero_is) = other zero_is
    follows other joined (inr holds) = cc (holds, joined)

-- ---- EXECUTE IS SENT

-- a question was put: on a connection that is cut it is lost
pub keep_executes : (w : World) (k : ℕ) → Rule w → Executes w k → Rule (with_seat w k (asking (w.seats k) ForEnd (Execute w.sides.stage)))
keep_executes w k r c = keep w k (asking s ForEnd (Execute w.sides.stage)) r (record {
  may = record { task = own.may.task; meets = own.may.meets; joins = λ zero_is j d. cc (own.may.joins zero_is j d, c.awaits); follows = own.may.follows; endless = λ a e. c.left (r.sides.acknowledged a); acknowledges = λ e. cc; done = λ zero_is e. absurd (omega arith) };
  absent = λ e. cc (e, c.linked.connected);
  talk = λ e. talk (cases_Bool s.cut);
  unheard = own.unheard;
  unmet = λ zero_is h. cc (sent_first s.cut s.commands (Execute w.sides.stage) q.0 h);
  covered = λ l. covers_none (w.sides.size w.sides.stage) w.sides.taken w.sides.owner k s (asking s ForEnd (Execute w.sides.stage)) (own.covered l) (λ e. cc (e, c.awaits)) (λ b. ready_rest s.core s.cut b q.2);
  ended = λ l h. absurd (none_ended s.answers (none_end s.answers q.1) h);
})
  where
    s : Seat
    s = w.seats k

    own : SeatRule w.sides k (w.seats k)
    own = r.seats k

    q : IsQuiet (w.seats k)
    q = quiet_of w.sides k (w.seats k) ((r.seats k).talk c.linked.connected) c.awaits

    talk : ((w.seats k).cut ≡ true) ⊎ ((w.seats k).cut ≡ false) → TalkOf w.sides k (asking (w.seats k) ForEnd (Execute w.sides.stage))
    talk (inl cut) = rw (sends_cut (w.seats k).cut (w.seats k).commands (Execute w.sides.stage) cut ∙ q.0, q.1) (lost cut (waits_idle Ready (w.seats k).core (w.seats k).cut (λ h. h) q.2) refl)
    talk (inr up) = rw (sends_one (w.seats k).cut (w.seats k).commands (Execute w.sides.stage) up q.0) (refl, q.1, (refl, q.2, refl))

-- ---- A STAGE THAT ANSWERS ATTACH IS TAKEN

-- an END that lies unread now lay there before
pub ended_before : (s : Seat) (x : Answer) (more : List Answer) → s.answers ≡ x ∷ more → (HasEnd more → HasEnd (x ∷ more)) → (s.ended ≡ true) ⊎ HasEnd more → (s.ended ≡ true) ⊎ HasEnd s.answers
ended_before s x more e f (inl h) = inl h
ended_before s x more e f (inr h) = inr (subst HasEnd (sym e) (f h))

pub keep_attaches : (w : World) (k stage : ℕ) (more : List Answer) → Rule w → k ≢ 0 → Hears w k ForFirst (Stage stage) more → Rule (with_seat w k (takes_stage (w.seats k) more))
keep_attaches w k stage more r other c = keep w k (takes_stage (w.seats k) more) r (record {
  may = record { task = own.may.task; meets = λ zero_is. absurd (other zero_is); joins = λ zero_is. absurd (other zero_is); follows = own.may.follows; endless = λ a e. cc; acknowledges = λ e. cc; done = λ zero_is. absurd (other zero_is) };
  absent = λ e. cc (e, c.linked.connected);
  talk = λ e. rw (t.0) (t.1.1, t.1.2);
  unheard = λ zero_is. absurd (other zero_is);
  unmet = λ zero_is. absurd (other zero_is);
  covered = λ l. covers_none (w.sides.size w.sides.stage) w.sides.taken w.sides.owner k (w.seats k) (takes_stage (w.seats k) more) (own.covered l) (λ e. cc (e, c.awaited)) (λ b. ready_rest (w.seats k).core (w.seats k).cut b t.1.2);
  ended = λ l h. own.ended l (ended_before (w.seats k) (Stage stage) more c.front (λ g. g) h);
})
  where
    own : SeatRule w.sides k (w.seats k)
    own = r.seats k

    t : Heard w.sides k (w.seats k) ForFirst (Stage stage ∷ more)
    t = heard_of w.sides k (w.seats k) ForFirst (Stage stage) more ((r.seats k).talk c.linked.connected) c.awaited c.front

-- ---- AN END IS TAKEN: each block of the task was taken

pub keep_ends : (w : World) (k : ℕ) (more : List Answer) → Rule w → Hears w k ForEnd (End w.sides.stage) more → Rule (with_seat w k (takes_end (w.seats k) more))
keep_ends w k more r c = keep w k (takes_end (w.seats k) more) r (record {
  may = record { task = own.may.task; meets = own.may.meets; joins = λ zero_is j d. cc (own.may.joins zero_is j d, c.awaited); follows = own.may.follows; endless = λ a e. cc; acknowledges = λ e. cc; done = λ zero_is h. refl };
  absent = λ e. cc (e, c.linked.connected);
  talk = λ e. rw (t.0) (t.1, t.2);
  unheard = λ zero_is m. cc (own.unheard zero_is m, c.front);
  unmet = λ zero_is h. cc (t.0, h);
  covered = λ l. covers_seat (w.sides.size w.sides.stage) w.sides.taken w.sides.owner k (w.seats k) (takes_end (w.seats k) more) (own.covered l) none (λ b has. absurd (ready_rest (w.seats k).core (w.seats k).cut b t.2 has));
  ended = λ l h. own.ended l (inr (subst HasEnd (sym c.front) tt));
})
  where
    own : SeatRule w.sides k (w.seats k)
    own = r.seats k

    served_to : IsServed w.sides.stage (IsDue w.sides k) (End w.sides.stage ∷ more) (w.seats k).cut (w.seats k).core → (more ≡ []) × Waits Ready (w.seats k).cut (w.seats k).core
    served_to (serving rest is distinct blocks) = cc (blocks.0)
    served_to (served waits blocks) = (blocks.2, waits)
    served_to (lost cut idle blocks) = cc (blocks.0)

    t : ((w.seats k).commands ≡ []) × (more ≡ []) × Waits Ready (w.seats k).cut (w.seats k).core
    t = let h : ((w.seats k).commands ≡ []) × IsServed w.sides.stage (IsDue w.sides k) (End w.sides.stage ∷ more) (w.seats k).cut (w.seats k).core = heard_of w.sides k (w.seats k) ForEnd (End w.sides.stage) more ((r.seats k).talk c.linked.connected) c.awaited c.front in (h.0, (served_to h.1).0, (served_to h.1).1)

    none : (b : ℕ) → IsAwaited (w.seats k) b → IsAwaited (takes_end (w.seats k) more) b
    none b (unsent e has) = absurd (ready_rest (w.seats k).core (w.seats k).cut b t.2 has)
    none b (unread e h) = absurd (subst (Brings b) t.1 (subst (Brings b) c.front h))
    none b (missed e cut h) = absurd (h (subst HasEnd (sym c.front) tt))

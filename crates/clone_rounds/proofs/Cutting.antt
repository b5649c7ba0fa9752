-- A cut keeps the rule.
use Rattle.std.proofs.Common.{◌≡◌, ◌++◌, ℕ, Bool, true, false, List, [], ◌∷◌, refl, sym, ap, subst, ◌∙◌, inl, inr, ◌⊎◌}
use Rattle.clone_rounds.specs.World.{Command, First, Execute, Acknowledge, Answer, Stage, Block, End, Awaited, Nothing, ForFirst, ForEnd, ForStage, Core, New, Ready, Seat, Sides, World, IsLinked, with_seat}
use Rattle.clone_rounds.specs.Awaiting.{Brings, HasEnd, Waits, IsAsked, IsAnswered, MayJoin, IsNext, AreBlocks, IsServed, serving, served, lost, Awaits, Talks, IsDue, TalkOf, IsAwaited, unsent, unread, missed, SeatRule, Rule}
use Rattle.clone_rounds.specs.Steps.{cut_to}
use Rattle.clone_rounds.proofs.Blocks.{end_or, end_front, blocks_front, blocks_endless, front_none, front_one, append_none}
use Rattle.clone_rounds.proofs.Talks.{waits_idle, asked_idle}
use Rattle.clone_rounds.proofs.Covers.{covers_seat}
use Rattle.clone_rounds.proofs.TaskSteps.{keep}

waits_cut : (waiting : Core) (cut : Bool) (core : Core) → Waits waiting cut core → Waits waiting true core
waits_cut waiting cut core (inl e) = inl e
waits_cut waiting cut core (inr e) = inr (refl, e.1)

asked_cut : (stage : ℕ) (c : Command) (awaits : Awaited) (cut : Bool) (core : Core) → IsAsked stage c awaits cut core → IsAsked stage c awaits true core
asked_cut stage First awaits cut core t = (t.0, waits_cut New cut core t.1)
asked_cut stage (Execute s) awaits cut core t = (t.0, waits_cut Ready cut core t.1, t.2)
asked_cut stage (Acknowledge s) awaits cut core t = (t.0, waits_cut Ready cut core t.1, t.2)

-- a command that was lost leaves a task that awaits what won't come
asked_lost : (a : Sides) (k : ℕ) (c : Command) (awaits : Awaited) (cut : Bool) (core : Core) → IsAsked a.stage c awaits cut core → Awaits a.stage a.at k (IsDue a k) awaits [] true core
asked_lost a k First awaits cut core t = rw (t.0) (refl, asked_idle a.stage First awaits cut core t)
asked_lost a k (Execute s) awaits cut core t = rw (t.0) (lost refl (asked_idle a.stage (Execute s) awaits cut core t) refl)
asked_lost a k (Acknowledge s) awaits cut core t = rw (t.0) (refl, asked_idle a.stage (Acknowledge s) awaits cut core t)

-- where answers are lost of which these are left
answered_cut : (Fits : ℕ → Type 0) (answers left gone : List Answer) (cut : Bool) (core : Core) → answers ≡ left ++ gone → IsAnswered Fits answers cut core → IsAnswered Fits left true core
answered_cut Fits [] left gone cut core e t = rw (front_none left gone e) (refl, t.1)
answered_cut Fits (Stage s ∷ more) left gone cut core e t = at (front_one (Stage s) left gone (sym (ap (λ x. Stage s ∷ x) t.1) ∙ e))
  where
    at : (left ≡ []) ⊎ (left ≡ Stage s ∷ []) → IsAnswered Fits left true core
    at (inl h) = rw h (refl, waits_idle Ready core cut (λ g. g) t.2)
    at (inr h) = rw h (t.0, refl, waits_cut Ready cut core t.2)
answered_cut Fits (Block s b ∷ more) left gone cut core e t = absurd t
answered_cut Fits (End s ∷ more) left gone cut core e t = absurd t

-- blocks of which a front is left
front_of : (stage : ℕ) (Due : ℕ → Type 0) (ended : Bool) (answers left gone : List Answer) → answers ≡ left ++ gone → AreBlocks stage Due ended answers → (AreBlocks stage Due ended left × (gone ≡ [])) ⊎ AreBlocks stage Due false left
front_of stage Due ended answers left gone e h = blocks_front stage Due ended left gone (subst (AreBlocks stage Due ended) e h)

endless_front : (stage : ℕ) (Due : ℕ → Type 0) (answers left gone : List Answer) → answers ≡ left ++ gone → AreBlocks stage Due false answers → AreBlocks stage Due false left
endless_front stage Due answers left gone e h = at (front_of stage Due false answers left gone e h)
  where
    at : (AreBlocks stage Due false left × (gone ≡ [])) ⊎ AreBlocks stage Due false left → AreBlocks stage Due false left
    at (inl g) = g.0
    at (inr g) = g

served_cut : (stage : ℕ) (Due : ℕ → Type 0) (answers left gone : List Answer) (cut : Bool) (core : Core) → answers ≡ left ++ gone → IsServed stage Due answers cut core → IsServed stage Due left true core
served_cut stage Due answers left gone cut core e (serving rest is distinct blocks) = serving rest is distinct (endless_front stage Due answers left gone e blocks)
served_cut stage Due answers left gone cut core e (served waits blocks) = at (front_of stage Due true answers left gone e blocks)
  where
    at : (AreBlocks stage Due true left × (gone ≡ [])) ⊎ AreBlocks stage Due false left → IsServed stage Due left true core
    at (inl h) = served (waits_cut Ready cut core waits) h.0
    at (inr h) = lost refl (waits_idle Ready core cut (λ g. g) waits) h
served_cut stage Due answers left gone cut core e (lost c idle blocks) = lost refl idle (endless_front stage Due answers left gone e blocks)

cut_talk : (a : Sides) (k : ℕ) (s : Seat) (commands gone : List Command) (left lost_answers : List Answer) → s.commands ≡ commands ++ gone → s.answers ≡ left ++ lost_answers → TalkOf a k s → TalkOf a k (cut_to s commands left)
cut_talk a k s commands gone left lost_answers e f = go s.commands s.awaits e
  where
    go : (old : List Command) (awaits : Awaited) → old ≡ commands ++ gone → Talks a.stage a.at k (IsDue a k) old awaits s.answers s.cut s.core → Talks a.stage a.at k (IsDue a k) commands awaits left true s.core
    go [] Nothing g t = rw (front_none commands gone g) (front_none left lost_answers (sym t.0 ∙ f), waits_cut Ready s.cut s.core t.1)
    go [] ForFirst g t = rw (front_none commands gone g) (answered_cut (MayJoin a.at k) s.answers left lost_answers s.cut s.core f t)
    go [] ForEnd g t = rw (front_none commands gone g) (served_cut a.stage (IsDue a k) s.answers left lost_answers s.cut s.core f t)
    go [] ForStage g t = rw (front_none commands gone g) (answered_cut (IsNext a.stage a.at) s.answers left lost_answers s.cut s.core f t)
    go (c ∷ more) awaits g t = at (front_one c commands gone (sym (ap (λ x. c ∷ x) t.0) ∙ g))
      where
        none : left ≡ []
        none = front_none left lost_answers (sym t.1 ∙ f)

        at : (commands ≡ []) ⊎ (commands ≡ c ∷ []) → Talks a.stage a.at k (IsDue a k) commands awaits left true s.core
        at (inl h) = rw (h, none) (asked_lost a k c awaits s.cut s.core t.2)
        at (inr h) = rw (h, none) (refl, refl, asked_cut a.stage c awaits s.cut s.core t.2)

-- where an END is left nothing was lost before it
whole : (a : Sides) (k : ℕ) (s : Seat) (left gone : List Answer) → s.answers ≡ left ++ gone → s.awaits ≡ ForEnd → HasEnd left → TalkOf a k s → left ≡ s.answers
whole a k s left gone f e h t = at s.commands (subst (λ x. Talks a.stage a.at k (IsDue a k) s.commands x s.answers s.cut s.core) e t)
  where
    there : HasEnd s.answers
    there = subst HasEnd (sym f) (end_front left gone h)

    all : (AreBlocks a.stage (IsDue a k) true left × (gone ≡ [])) ⊎ AreBlocks a.stage (IsDue a k) false left → left ≡ s.answers
    all (inl g) = sym (append_none left) ∙ ap (λ x. left ++ x) (sym g.1) ∙ sym f
    all (inr g) = absurd (blocks_endless a.stage (IsDue a k) left g h)

    service : IsServed a.stage (IsDue a k) s.answers s.cut s.core → left ≡ s.answers
    service (serving rest is distinct blocks) = absurd (blocks_endless a.stage (IsDue a k) s.answers blocks there)
    service (served waits blocks) = all (front_of a.stage (IsDue a k) true s.answers left gone f blocks)
    service (lost c idle blocks) = absurd (blocks_endless a.stage (IsDue a k) s.answers blocks there)

    at : (commands : List Command) → Talks a.stage a.at k (IsDue a k) commands ForEnd s.answers s.cut s.core → left ≡ s.answers
    at [] g = service g
    at (c ∷ more) g = absurd (subst HasEnd g.1 there)

-- a front that is one command was the whole
single : (a : Sides) (k : ℕ) (s : Seat) (x : Command) (commands gone : List Command) → s.commands ≡ commands ++ gone → commands ≡ x ∷ [] → TalkOf a k s → s.commands ≡ x ∷ []
single a k s x commands gone e f = go s.commands e
  where
    go : (old : List Command) → old ≡ commands ++ gone → Talks a.stage a.at k (IsDue a k) old s.awaits s.answers s.cut s.core → old ≡ x ∷ []
    go [] g t = cc (front_none commands gone g, f)
    go (c ∷ more) g t = at (front_one c commands gone (sym (ap (λ y. c ∷ y) t.0) ∙ g))
      where
        at : (commands ≡ []) ⊎ (commands ≡ c ∷ []) → c ∷ more ≡ x ∷ []
        at (inl h) = cc (h, f)
        at (inr h) = ap (λ y. c ∷ y) t.0 ∙ sym h ∙ f

pub keep_cuts : (w : World) (k : ℕ) (commands : List Command) (left : List Answer) (gone : List Command) (lost_answers : List Answer) → Rule w → IsLinked w k → (w.seats k).commands ≡ commands ++ gone → (w.seats k).answers ≡ left ++ lost_answers → Rule (with_seat w k (cut_to (w.seats k) commands left))
keep_cuts w k commands left gone lost_answers r c e f = keep w k (cut_to (w.seats k) commands left) r (record {
  may = own.may;
  absent = λ h. cc (h, c.connected);
  talk = λ h. cut_talk w.sides k (w.seats k) commands gone left lost_answers e f t;
  unheard = λ zero_is h. front_none left lost_answers (sym (own.unheard zero_is h) ∙ f);
  unmet = λ zero_is h. own.unmet zero_is (single w.sides k (w.seats k) First commands gone e h t);
  covered = λ l. covers_seat (w.sides.size w.sides.stage) w.sides.taken w.sides.owner k (w.seats k) (cut_to (w.seats k) commands left) (own.covered l) awaited (λ b has. has);
  ended = λ l h. own.ended l (ending h);
})
  where
    own : SeatRule w.sides k (w.seats k)
    own = r.seats k

    t : TalkOf w.sides k (w.seats k)
    t = (r.seats k).talk c.connected

    ending : ((w.seats k).ended ≡ true) ⊎ HasEnd left → ((w.seats k).ended ≡ true) ⊎ HasEnd (w.seats k).answers
    ending (inl h) = inl h
    ending (inr h) = inr (subst HasEnd (sym f) (end_front left lost_answers h))

    awaited : (b : ℕ) → IsAwaited (w.seats k) b → IsAwaited (cut_to (w.seats k) commands left) b
    awaited b (unsent g has) = unsent g has
    awaited b (unread g h) = at (end_or left)
      where
        at : HasEnd left ⊎ (HasEnd left → ⊥) → IsAwaited (cut_to (w.seats k) commands left) b
        at (inl ends) = unread g (subst (Brings b) (sym (whole w.sides k (w.seats k) left lost_answers f g ends t)) h)
        at (inr endless) = missed g refl endless
    awaited b (missed g cut h) = missed g refl (λ ends. h (subst HasEnd (sym f) (end_front left lost_answers ends)))

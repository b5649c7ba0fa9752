-- What a conversation is, by what lies unread and by what the donor's side does.
use Rattle.std.proofs.Common.{◌≡◌, ◌≢◌, ℕ, Bool, true, false, List, [], ◌∷◌, refl, sym, subst, inl, inr, ◌⊎◌}
use Rattle.clone_rounds.specs.World.{Command, First, Execute, Acknowledge, Answer, Stage, Block, End, Awaited, Nothing, ForFirst, ForEnd, ForStage, Core, New, Ready, Serving, Over, Seat, Sides, IsServing}
use Rattle.clone_rounds.specs.Awaiting.{Brings, HasEnd, AreDistinct, rest_of, Has, Waits, IsAsked, IsAnswered, MayJoin, IsNext, AreBlocks, IsServed, serving, served, lost, Awaits, Talks, IsDue, TalkOf}
use Rattle.clone_rounds.proofs.Blocks.{none_end, blocks_due}

-- ---- where the donor's side awaits a command nothing is served

pub waits_idle : (waiting core : Core) (cut : Bool) → (IsServing waiting → ⊥) → Waits waiting cut core → IsServing core → ⊥
waits_idle waiting core cut never (inl e) h = never (subst IsServing e h)
waits_idle waiting core cut never (inr e) h = subst IsServing e.1 h

pub idle_rest : (core : Core) (b : ℕ) → (IsServing core → ⊥) → Has b (rest_of core) → ⊥
idle_rest New b never h = h
idle_rest Ready b never h = h
idle_rest (Serving stage rest) b never h = never tt
idle_rest Over b never h = h

pub ready_rest : (core : Core) (cut : Bool) (b : ℕ) → Waits Ready cut core → Has b (rest_of core) → ⊥
ready_rest core cut b w = idle_rest core b (waits_idle Ready core cut (λ h. h) w)

pub asked_idle : (stage : ℕ) (c : Command) (awaits : Awaited) (cut : Bool) (core : Core) → IsAsked stage c awaits cut core → IsServing core → ⊥
asked_idle stage First awaits cut core t = waits_idle New core cut (λ h. h) t.1
asked_idle stage (Execute s) awaits cut core t = waits_idle Ready core cut (λ h. h) t.1
asked_idle stage (Acknowledge s) awaits cut core t = waits_idle Ready core cut (λ h. h) t.1

answered_idle : (Fits : ℕ → Type 0) (answers : List Answer) (cut : Bool) (core : Core) → IsAnswered Fits answers cut core → IsServing core → ⊥
answered_idle Fits [] cut core t h = t.1 h
answered_idle Fits (Stage s ∷ more) cut core t h = waits_idle Ready core cut (λ g. g) t.2 h
answered_idle Fits (Block s b ∷ more) cut core t h = t
answered_idle Fits (End s ∷ more) cut core t h = t

answered_endless : (Fits : ℕ → Type 0) (answers : List Answer) (cut : Bool) (core : Core) → IsAnswered Fits answers cut core → HasEnd answers → ⊥
answered_endless Fits [] cut core t h = h
answered_endless Fits (Stage s ∷ more) cut core t h = none_end more t.1 h
answered_endless Fits (Block s b ∷ more) cut core t h = t
answered_endless Fits (End s ∷ more) cut core t h = t

answered_as : (Fits Now : ℕ → Type 0) (answers : List Answer) (cut : Bool) (core : Core) → ((s : ℕ) → Fits s → Now s) → IsAnswered Fits answers cut core → IsAnswered Now answers cut core
answered_as Fits Now [] cut core f t = t
answered_as Fits Now (Stage s ∷ more) cut core f t = (f s t.0, t.1, t.2)
answered_as Fits Now (Block s b ∷ more) cut core f t = t
answered_as Fits Now (End s ∷ more) cut core f t = t

-- ---- AN UNREAD COMMAND

abbrev pub Unread : Sides → Seat → Command → List Command → Type 0
Unread a s c more = (more ≡ []) × (s.answers ≡ []) × IsAsked a.stage c s.awaits s.cut s.core

pub asked_of : (a : Sides) (k : ℕ) (s : Seat) (c : Command) (more : List Command) → TalkOf a k s → s.commands ≡ c ∷ more → Unread a s c more
asked_of a k s c more t e = subst (λ x. Talks a.stage a.at k (IsDue a k) x s.awaits s.answers s.cut s.core) e t

-- ---- AN UNREAD ANSWER

abbrev pub Heard : Sides → ℕ → Seat → Awaited → List Answer → Type 0
Heard a k s awaits answers = (s.commands ≡ []) × Awaits a.stage a.at k (IsDue a k) awaits answers s.cut s.core

pub heard_of : (a : Sides) (k : ℕ) (s : Seat) (awaits : Awaited) (x : Answer) (more : List Answer) → TalkOf a k s → s.awaits ≡ awaits → s.answers ≡ x ∷ more → Heard a k s awaits (x ∷ more)
heard_of a k s awaits x more t e f = at s.commands (subst (λ y. Talks a.stage a.at k (IsDue a k) s.commands awaits y s.cut s.core) f (subst (λ y. Talks a.stage a.at k (IsDue a k) s.commands y s.answers s.cut s.core) e t))
  where
    at : (commands : List Command) → Talks a.stage a.at k (IsDue a k) commands awaits (x ∷ more) s.cut s.core → (commands ≡ []) × Awaits a.stage a.at k (IsDue a k) awaits (x ∷ more) s.cut s.core
    at [] h = (refl, h)
    at (c ∷ cs) h = cc (h.1)

-- ---- NOTHING IS AWAITED

abbrev pub IsQuiet : Seat → Type 0
IsQuiet s = (s.commands ≡ []) × (s.answers ≡ []) × Waits Ready s.cut s.core

pub quiet_of : (a : Sides) (k : ℕ) (s : Seat) → TalkOf a k s → s.awaits ≡ Nothing → IsQuiet s
quiet_of a k s t e = at s.commands (subst (λ y. Talks a.stage a.at k (IsDue a k) s.commands y s.answers s.cut s.core) e t)
  where
    at : (commands : List Command) → Talks a.stage a.at k (IsDue a k) commands Nothing s.answers s.cut s.core → (commands ≡ []) × (s.answers ≡ []) × Waits Ready s.cut s.core
    at [] h = (refl, h.0, h.1)
    at (First ∷ more) h = cc (h.2.0)
    at (Execute x ∷ more) h = cc (h.2.0)
    at (Acknowledge x ∷ more) h = cc (h.2.0)

-- ---- AN EXECUTE IS SERVED

pub record InService (a : Sides) (k : ℕ) (s : Seat) (stage : ℕ) (rest : List ℕ) : Type 0 where
  pub awaits : s.awaits ≡ ForEnd
  pub commands : s.commands ≡ []
  pub same : stage ≡ a.stage
  pub distinct : AreDistinct rest
  pub blocks : AreBlocks a.stage (IsDue a k) false s.answers

pub serving_of : (a : Sides) (k : ℕ) (s : Seat) (stage : ℕ) (rest : List ℕ) → TalkOf a k s → s.core ≡ Serving stage rest → InService a k s stage rest
serving_of a k s stage rest t e = at s.commands s.awaits refl refl t
  where
    busy : IsServing s.core
    busy = subst IsServing (sym e) tt

    in_service : s.commands ≡ [] → s.awaits ≡ ForEnd → IsServed a.stage (IsDue a k) s.answers s.cut s.core → InService a k s stage rest
    in_service c f (serving left is distinct blocks) = let same : left ≡ rest = cc in record { awaits = f; commands = c; same = cc; distinct = subst AreDistinct same distinct; blocks = blocks }
    in_service c f (served w blocks) = absurd (waits_idle Ready s.core s.cut (λ h. h) w busy)
    in_service c f (lost cut idle blocks) = absurd (idle busy)

    at : (commands : List Command) (awaits : Awaited) → s.commands ≡ commands → s.awaits ≡ awaits → Talks a.stage a.at k (IsDue a k) commands awaits s.answers s.cut s.core → InService a k s stage rest
    at [] Nothing c f h = absurd (waits_idle Ready s.core s.cut (λ g. g) h.1 busy)
    at [] ForFirst c f h = absurd (answered_idle (MayJoin a.at k) s.answers s.cut s.core h busy)
    at [] ForEnd c f h = in_service c f h
    at [] ForStage c f h = absurd (answered_idle (IsNext a.stage a.at) s.answers s.cut s.core h busy)
    at (x ∷ more) awaits c f h = absurd (asked_idle a.stage x awaits s.cut s.core h.2 busy)

-- ---- NO END IS AWAITED

pub idle_of : (a : Sides) (k : ℕ) (s : Seat) → TalkOf a k s → s.awaits ≢ ForEnd → IsServing s.core → ⊥
idle_of a k s t never = at s.core refl
  where
    at : (core : Core) → s.core ≡ core → IsServing core → ⊥
    at New e h = h
    at Ready e h = h
    at (Serving stage rest) e h = never (serving_of a k s stage rest t e).awaits
    at Over e h = h

pub endless_of : (a : Sides) (k : ℕ) (s : Seat) → TalkOf a k s → s.awaits ≢ ForEnd → HasEnd s.answers → ⊥
endless_of a k s t never h = at s.commands s.awaits refl t
  where
    at : (commands : List Command) (awaits : Awaited) → s.awaits ≡ awaits → Talks a.stage a.at k (IsDue a k) commands awaits s.answers s.cut s.core → ⊥
    at [] Nothing f g = none_end s.answers g.0 h
    at [] ForFirst f g = answered_endless (MayJoin a.at k) s.answers s.cut s.core g h
    at [] ForEnd f g = never f
    at [] ForStage f g = answered_endless (IsNext a.stage a.at) s.answers s.cut s.core g h
    at (x ∷ more) awaits f g = none_end s.answers g.1 h

-- ---- THE SAME CONVERSATION once the sides have changed

served_due : (stage : ℕ) (Due Now : ℕ → Type 0) (answers : List Answer) (cut : Bool) (core : Core) → ((b : ℕ) → Brings b answers → Due b → Now b) → IsServed stage Due answers cut core → IsServed stage Now answers cut core
served_due stage Due Now answers cut core f (serving rest is distinct blocks) = serving rest is distinct (blocks_due stage Due Now false answers f blocks)
served_due stage Due Now answers cut core f (served w blocks) = served w (blocks_due stage Due Now true answers f blocks)
served_due stage Due Now answers cut core f (lost c idle blocks) = lost c idle (blocks_due stage Due Now false answers f blocks)

pub talks_due : (stage at k : ℕ) (Due Now : ℕ → Type 0) (s : Seat) → ((b : ℕ) → Brings b s.answers → Due b → Now b) → Talks stage at k Due s.commands s.awaits s.answers s.cut s.core → Talks stage at k Now s.commands s.awaits s.answers s.cut s.core
talks_due stage at k Due Now s f = go s.commands s.awaits
  where
    go : (commands : List Command) (awaits : Awaited) → Talks stage at k Due commands awaits s.answers s.cut s.core → Talks stage at k Now commands awaits s.answers s.cut s.core
    go [] Nothing t = t
    go [] ForFirst t = t
    go [] ForEnd t = served_due stage Due Now s.answers s.cut s.core f t
    go [] ForStage t = t
    go (c ∷ more) awaits t = t

-- where neither an END nor the next stage is awaited the stages don't count, but for a STAGE that lies
-- unread for task 0
pub talks_any : (a b : Sides) (k : ℕ) (s : Seat) → s.awaits ≢ ForEnd → s.awaits ≢ ForStage → ((x : ℕ) → MayJoin a.at k x → MayJoin b.at k x) ⊎ (s.answers ≡ []) → TalkOf a k s → TalkOf b k s
talks_any a b k s never_end never_stage f = go s.commands s.awaits never_end never_stage
  where
    joined : ((x : ℕ) → MayJoin a.at k x → MayJoin b.at k x) ⊎ (s.answers ≡ []) → IsAnswered (MayJoin a.at k) s.answers s.cut s.core → IsAnswered (MayJoin b.at k) s.answers s.cut s.core
    joined (inl g) t = answered_as (MayJoin a.at k) (MayJoin b.at k) s.answers s.cut s.core g t
    joined (inr none) t = rw none (rw none at t)

    go : (commands : List Command) (awaits : Awaited) → awaits ≢ ForEnd → awaits ≢ ForStage → Talks a.stage a.at k (IsDue a k) commands awaits s.answers s.cut s.core → Talks b.stage b.at k (IsDue b k) commands awaits s.answers s.cut s.core
    go [] Nothing p q t = t
    go [] ForFirst p q t = joined f t
    go [] ForEnd p q t = absurd (p refl)
    go [] ForStage p q t = absurd (q refl)
    go (First ∷ more) awaits p q t = t
    go (Execute x ∷ more) awaits p q t = absurd (p t.2.0)
    go (Acknowledge x ∷ more) awaits p q t = absurd (q t.2.0)

-- blocks lie unread where an END is awaited
pub unread_of : (stage : ℕ) (Due : ℕ → Type 0) (answers : List Answer) (cut : Bool) (core : Core) → IsServed stage Due answers cut core → (ended : Bool) × AreBlocks stage Due ended answers
unread_of stage Due answers cut core (serving rest is distinct blocks) = (false, blocks)
unread_of stage Due answers cut core (served w blocks) = (true, blocks)
unread_of stage Due answers cut core (lost c idle blocks) = (false, blocks)

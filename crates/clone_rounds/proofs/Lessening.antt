-- Each step leaves less to do.
use Rattle.std.proofs.Common.{◌≡◌, ◌<◌, ◌≤◌, ◌+◌, ◌-◌, ◌++◌, ℕ, suc, Bool, true, false, cond, List, [], ◌∷◌, length, refl, sym, ap, subst, arith, inl, inr, ◌⊎◌}
use Rattle.clone_rounds.specs.World.{Command, First, Execute, Acknowledge, Nothing, ForEnd, ForStage, Core, New, Ready, Serving, Over, Owner, Claimed, Sent, Seat, Sides, World, put, IsLinked, IsServing, IsLive}
use Rattle.clone_rounds.specs.Steps.{TaskStep, connects, executes, acknowledges, joins, opens, advances, attaches, takes_block, ends, loses, DonorStep, meets_here, meets_next, welcomes, starts, agrees, repeats, claims, reads, finishes, fails, finds_loss, refuses, changes, moves, connecting, asking, takes_stage, takes_end, answering, starting, after_call, claimed, block_sent, end_sent, closing, AreFree, Reads}
use Rattle.clone_rounds.specs.Measure.{IsLess, sum_below, awaited_left, task_left, untaken, recipient_left, core_left, block_left, unsent, donor_left, left}
use Rattle.clone_rounds.proofs.Puts.{put_all}
use Rattle.clone_rounds.proofs.Sums.{sum_less, put_most, put_less, put_equal, less_front, less_back, less_then, all_lists}

less_right : (c a b : ℕ) → a < b → c + a < c + b
less_right c a b h = omega arith

less_left : (a b c d : ℕ) → a < b → c ≤ d → a + c < b + d
less_left a b c d h g = omega arith

-- ---- what a task has left, by where it is

absent_left : (s : Seat) → s.connected ≡ false → task_left s ≡ 5
absent_left s e = ap (λ c. cond c (awaited_left s.awaits s.ended) 5) e

present_left : (s : Seat) → s.connected ≡ true → task_left s ≡ awaited_left s.awaits s.ended
present_left s e = ap (λ c. cond c (awaited_left s.awaits s.ended) 5) e

-- a connected task that awaits something else then
asks_less : (old new : Seat) → old.connected ≡ true → new.connected ≡ true → awaited_left new.awaits new.ended < awaited_left old.awaits old.ended → task_left new < task_left old
asks_less old new c d h = rw (present_left old c, present_left new d) h

took_left : (ended : Bool) → awaited_left Nothing ended < 4
took_left true = omega arith
took_left false = omega arith

asked_left : (ended : Bool) → 0 < awaited_left Nothing ended
asked_left true = omega arith
asked_left false = omega arith

-- ---- A TASK'S STEP

-- one task has less left
tasks_less : (w : World) (k : ℕ) (s : Seat) → IsLinked w k → s.connected ≡ true → awaited_left s.awaits s.ended < awaited_left (w.seats k).awaits (w.seats k).ended → untaken w.sides + sum_below (λ j. task_left (put w.seats k s j)) w.sides.tasks < untaken w.sides + sum_below (λ j. task_left (w.seats j)) w.sides.tasks
tasks_less w k s c d h = less_right (untaken w.sides) (sum_below (λ j. task_left (put w.seats k s j)) w.sides.tasks) (sum_below (λ j. task_left (w.seats j)) w.sides.tasks) (put_less task_left w.seats k s w.sides.tasks (asks_less (w.seats k) s c.connected d h) c.task)

pub task_lessens : (w u : World) → TaskStep w u → IsLess (recipient_left u) (recipient_left w)
task_lessens w u (connects k c) = inr (refl, inr (refl, inl (less_right (untaken w.sides) (sum_below (λ j. task_left (put w.seats k connecting j)) w.sides.tasks) (sum_below (λ j. task_left (w.seats j)) w.sides.tasks) (put_less task_left w.seats k connecting w.sides.tasks (rw (absent_left (w.seats k) c.absent) (omega arith)) c.task))))
task_lessens w u (executes k c) = inr (refl, inr (refl, inl (tasks_less w k (asking (w.seats k) ForEnd (Execute w.sides.stage)) c.linked c.linked.connected (rw (c.awaits, c.ended) (omega arith)))))
task_lessens w u (acknowledges c) = inr (refl, inr (refl, inl (tasks_less w 0 (asking (w.seats 0) ForStage (Acknowledge w.sides.stage)) c.linked c.linked.connected (rw (c.awaits) (asked_left (w.seats 0).ended)))))
task_lessens w u (joins stage more c begun fits) = inr (refl, inr (refl, inl (tasks_less w 0 (takes_stage (w.seats 0) more) c.linked c.linked.connected (rw (c.awaited) (took_left (w.seats 0).ended)))))
task_lessens w u (opens more c begun) = inr (refl, inl (omega (arith, begun)))
task_lessens w u (advances more c small) = inr (refl, inl (omega (arith, small)))
task_lessens w u (attaches k stage more other c) = inr (refl, inr (refl, inl (tasks_less w k (takes_stage (w.seats k) more) c.linked c.linked.connected (rw (c.awaited) (took_left (w.seats k).ended)))))
task_lessens w u (takes_block k b more c small left) = inr (refl, inr (refl, inl (less_left (sum_below (λ i. cond (put w.sides.taken b true i) 0 1) (w.sides.size w.sides.stage)) (untaken w.sides) (sum_below (λ j. task_left (put w.seats k (record (w.seats k) { answers = more }) j)) w.sides.tasks) (sum_below (λ j. task_left (w.seats j)) w.sides.tasks) (put_less (λ t. cond t 0 1) w.sides.taken b true (w.sides.size w.sides.stage) (rw left (omega arith)) small) (put_most task_left w.seats k (record (w.seats k) { answers = more }) w.sides.tasks (omega arith)))))
task_lessens w u (ends k more c) = inr (refl, inr (refl, inl (tasks_less w k (takes_end (w.seats k) more) c.linked c.linked.connected (rw (c.awaited) (omega arith)))))
task_lessens w u (loses k c outlasts taken late f) = inl (omega (arith, outlasts))

-- ---- A DONOR'S STEP

-- a command was carried out
carried : (w : World) (k : ℕ) (s : Seat) (c : Command) (core : Core) → Reads w k c core → s.commands ≡ [] → sum_below (λ j. length (put w.seats k s j).commands) w.sides.tasks < sum_below (λ j. length (w.seats j).commands) w.sides.tasks
carried w k s c core h none = put_less (λ x. length x.commands) w.seats k s w.sides.tasks (rw (none, h.front) (omega arith)) h.linked.task

-- no command was, and less is left of the stage
works : (w : World) (k : ℕ) (s : Seat) → length s.commands ≤ length (w.seats k).commands → core_left s.core < core_left (w.seats k).core → IsLinked w k → IsLess (sum_below (λ j. length (put w.seats k s j).commands) w.sides.tasks ∷ (unsent w.sides + sum_below (λ j. core_left (put w.seats k s j).core) w.sides.tasks) ∷ []) (sum_below (λ j. length (w.seats j).commands) w.sides.tasks ∷ (unsent w.sides + sum_below (λ j. core_left (w.seats j).core) w.sides.tasks) ∷ [])
works w k s few less c = less_then (put_most (λ x. length x.commands) w.seats k s w.sides.tasks few) (inl (less_right (unsent w.sides) (sum_below (λ j. core_left (put w.seats k s j).core) w.sides.tasks) (sum_below (λ j. core_left (w.seats j).core) w.sides.tasks) (put_less (λ x. core_left x.core) w.seats k s w.sides.tasks less c.task)))

-- a block has less left, and the donor's side of its task no more
sends_less : (w : World) (k : ℕ) (s : Seat) (owner : ℕ → Owner) → length s.commands ≤ length (w.seats k).commands → core_left s.core ≤ core_left (w.seats k).core → sum_below (λ b. block_left (owner b)) (w.sides.size w.sides.at) < unsent w.sides → IsLess (sum_below (λ j. length (put w.seats k s j).commands) w.sides.tasks ∷ (sum_below (λ b. block_left (owner b)) (w.sides.size w.sides.at) + sum_below (λ j. core_left (put w.seats k s j).core) w.sides.tasks) ∷ []) (sum_below (λ j. length (w.seats j).commands) w.sides.tasks ∷ (unsent w.sides + sum_below (λ j. core_left (w.seats j).core) w.sides.tasks) ∷ [])
sends_less w k s owner few most less = less_then (put_most (λ x. length x.commands) w.seats k s w.sides.tasks few) (inl (less_left (sum_below (λ b. block_left (owner b)) (w.sides.size w.sides.at)) (unsent w.sides) (sum_below (λ j. core_left (put w.seats k s j).core) w.sides.tasks) (sum_below (λ j. core_left (w.seats j).core) w.sides.tasks) less (put_most (λ x. core_left x.core) w.seats k s w.sides.tasks most)))

claimed_most : (a : Sides) (k : ℕ) (bs : List ℕ) → AreFree a bs → (i : ℕ) → block_left (claimed a.owner k bs i) ≤ block_left (a.owner i)
claimed_most a k [] f i = omega arith
claimed_most a k (b ∷ bs) f i = put_all (λ j o. block_left o ≤ block_left (a.owner j)) (claimed a.owner k bs) b (Claimed k) (λ j other. claimed_most a k bs f.3 j) (rw (f.1) (omega arith)) i

claimed_less : (a : Sides) (k b : ℕ) (bs : List ℕ) → AreFree a (b ∷ bs) → sum_below (λ i. block_left (claimed a.owner k (b ∷ bs) i)) (a.size a.at) < unsent a
claimed_less a k b bs f = sum_less (λ i. block_left (claimed a.owner k (b ∷ bs) i)) (λ i. block_left (a.owner i)) (a.size a.at) b (claimed_most a k (b ∷ bs) f) (put_all (λ j o. j ≡ b → block_left o < block_left (a.owner j)) (claimed a.owner k bs) b (Claimed k) (λ j other e. absurd (other e)) (λ e. rw (f.1) (omega arith)) b refl) f.0

after_left : (cut : Bool) (core : Core) → core_left (after_call cut core) ≤ core_left core
after_left true core = omega arith
after_left false core = omega arith

serving_left : (core : Core) → IsServing core → core_left core ≡ 2
serving_left New h = absurd h
serving_left Ready h = absurd h
serving_left (Serving stage rest) h = refl
serving_left Over h = absurd h

live_left : (core : Core) → IsLive core → 0 < core_left core
live_left New h = omega arith
live_left Ready h = omega arith
live_left (Serving stage rest) h = omega arith
live_left Over h = absurd h

ready_left : (cut : Bool) → core_left (after_call cut Ready) < 2
ready_left true = omega arith
ready_left false = omega arith

pub donor_lessens : (w u : World) → DonorStep w u → IsLess (donor_left u) (donor_left w)
donor_lessens w u (meets_here c apart level session) = inr (refl, inl (carried w 0 (answering (w.seats 0) w.sides.at) First New c refl))
donor_lessens w u (meets_next c apart h) = inr (refl, inl (carried w 0 (answering (w.seats 0) (suc w.sides.stage)) First New c refl))
donor_lessens w u (welcomes k other c met) = inr (refl, inl (carried w k (answering (w.seats k) w.sides.at) First New c refl))
donor_lessens w u (starts k c) = inr (refl, inl (carried w k (starting (w.seats k) w.sides.at) (Execute w.sides.at) Ready c refl))
donor_lessens w u (agrees c none) = inr (refl, inl (carried w 0 (answering (w.seats 0) (suc w.sides.at)) (Acknowledge w.sides.at) Ready c refl))
donor_lessens w u (repeats stage c same) = inr (refl, inl (carried w 0 (answering (w.seats 0) w.sides.at) (Acknowledge stage) Ready c refl))
donor_lessens w u (claims k b bs c free) = inr (refl, sends_less w k (record (w.seats k) { core = Serving w.sides.at (b ∷ bs) }) (claimed w.sides.owner k (b ∷ bs)) (omega arith) (rw (c.core) (omega arith)) (claimed_less w.sides k b bs free))
donor_lessens w u (reads k b rest c small mine) = inr (refl, sends_less w k (block_sent (w.seats k) w.sides.at b rest) (put w.sides.owner b (Sent k)) (omega arith) (rw (c.core) (after_left (w.seats k).cut (Serving w.sides.at rest))) (put_less block_left w.sides.owner b (Sent k) (w.sides.size w.sides.at) (rw mine (omega arith)) small))
donor_lessens w u (finishes k c none) = inr (refl, works w k (end_sent (w.seats k) w.sides.at) (omega arith) (rw (c.core) (ready_left (w.seats k).cut)) c.linked)
donor_lessens w u (fails k c) = inr (refl, works w k (closing (w.seats k)) (omega arith) (rw (serving_left (w.seats k).core c.serving) (omega arith)) c.linked)
donor_lessens w u (finds_loss k c) = inr (refl, works w k (record (w.seats k) { core = Over }) (omega arith) (live_left (w.seats k).core c.live) c.linked)
donor_lessens w u (refuses late less) = inl less
donor_lessens w u (changes late owner less apart) = inl less
donor_lessens w u (moves late owner less apart a level) = inl less

-- it leaves the recipient's part
seat_same : (w : World) (k : ℕ) (s : Seat) → task_left s ≡ task_left (w.seats k) → (w.limit - w.losses) ∷ (4 - w.sides.stage) ∷ (untaken w.sides + sum_below (λ j. task_left (put w.seats k s j)) w.sides.tasks) ∷ [] ≡ recipient_left w
seat_same w k s e = ap (λ n. (w.limit - w.losses) ∷ (4 - w.sides.stage) ∷ (untaken w.sides + n) ∷ []) (put_equal task_left w.seats k s w.sides.tasks e)

pub donor_keeps : (w u : World) → DonorStep w u → recipient_left u ≡ recipient_left w
donor_keeps w u (meets_here c apart level session) = seat_same w 0 (answering (w.seats 0) w.sides.at) refl
donor_keeps w u (meets_next c apart h) = seat_same w 0 (answering (w.seats 0) (suc w.sides.stage)) refl
donor_keeps w u (welcomes k other c met) = seat_same w k (answering (w.seats k) w.sides.at) refl
donor_keeps w u (starts k c) = seat_same w k (starting (w.seats k) w.sides.at) refl
donor_keeps w u (agrees c none) = seat_same w 0 (answering (w.seats 0) (suc w.sides.at)) refl
donor_keeps w u (repeats stage c same) = seat_same w 0 (answering (w.seats 0) w.sides.at) refl
donor_keeps w u (claims k b bs c free) = seat_same w k (record (w.seats k) { core = Serving w.sides.at (b ∷ bs) }) refl
donor_keeps w u (reads k b rest c small mine) = seat_same w k (block_sent (w.seats k) w.sides.at b rest) refl
donor_keeps w u (finishes k c none) = seat_same w k (end_sent (w.seats k) w.sides.at) refl
donor_keeps w u (fails k c) = seat_same w k (closing (w.seats k)) refl
donor_keeps w u (finds_loss k c) = seat_same w k (record (w.seats k) { core = Over }) refl
donor_keeps w u (refuses late less) = refl
donor_keeps w u (changes late owner less apart) = refl
donor_keeps w u (moves late owner less apart a level) = refl

pub each_lessens : (w u : World) → TaskStep w u ⊎ DonorStep w u → IsLess (left u) (left w)
each_lessens w u (inl step) = less_front (recipient_left u) (recipient_left w) (donor_left u) (donor_left w) (task_lessens w u step)
each_lessens w u (inr step) = subst (λ xs. IsLess (xs ++ donor_left u) (left w)) (sym (donor_keeps w u step)) (less_back (recipient_left w) (donor_left u) (donor_left w) (donor_lessens w u step))

-- what holds of a state wherever it holds of each with less left holds of all
pub all_end : (P : World → Type 0) → ((w : World) → ((u : World) → IsLess (left u) (left w) → P u) → P w) → (w : World) → P w
all_end P step w = all_lists 6 (λ xs. (v : World) → left v ≡ xs → P v) (λ ys e again v f. step v (λ u less. again (left u) refl (subst (IsLess (left u)) f less) u refl)) (left w) refl w refl

-- so no run goes on for ever
pub no_endless : (run : ℕ → World) → ((n : ℕ) → TaskStep (run n) (run (suc n)) ⊎ DonorStep (run n) (run (suc n))) → ⊥
no_endless run steps = all_end (λ w. (n : ℕ) → run n ≡ w → ⊥) (λ w before n e. before (run (suc n)) (subst (λ v. IsLess (left (run (suc n))) (left v)) e (each_lessens (run n) (run (suc n)) (steps n))) (suc n) refl) (run 0) 0 refl

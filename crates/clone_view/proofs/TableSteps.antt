-- What a table becomes is the recipient that a step leaves in the rounds.
use Rattle.std.proofs.Common.{◌≡◌, ◌≢◌, ◌<◌, ℕ, zero, suc, Bool, true, false, List, [], ◌∷◌, get_or, set, map, replicate, length, refl, sym, ap, subst, ◌∙◌, arith, inl, inr, ◌⊎◌}
use Rattle.std.specs.Prelude.{slice_index, ◌==◌, ◌&&◌, ◌||◌}
use Rattle.std.specs.List.{All}
use Rattle.std.proofs.lemmas.Bool.{eq-eqb, ne_eqb, or_right, and_left, and_right}
use Rattle.std.proofs.lemmas.List.{get_or-set_same, get_or-set_other}
use Rattle.clone_base.specs.declared.limits.TheConstants.{MOST_TASKS}
use Rattle.clone_chunk.specs.declared.copy_stage.CopyStage.{CopyStage}
use Rattle.clone_marks.specs.declared.chunk_marks.ChunkMarks.{ChunkMarks}
use Rattle.clone_marks.specs.Blocks.{IsChunk, blocks_of, is_taken, AreAllTaken}
use Rattle.clone_marks.specs.Forgetting.{forgotten}
use Rattle.clone_marks.proofs.ForgetLemmas.{forgotten_blocks, forgotten_are}
use Rattle.clone_tasks.specs.declared.rule.Rule.TheVariants as rule
use Rattle.clone_tasks.specs.declared.standing.Phase.{Phase}
use Rattle.clone_tasks.specs.declared.standing.Standing.{Standing}
use Rattle.clone_tasks.specs.declared.standing.Standing.TheVariants.{Apart, Joining, Ready, Fetching, Served, Acknowledging}
use Rattle.clone_tasks.specs.Losing.{kept_in, after_loss}
use Rattle.clone_tasks.specs.Moves.{joined_by, begins, served, HasTaken}
use Rattle.clone_tasks.specs.Sending.{after_sending}
use Rattle.clone_tasks.specs.Tables.{Table, standing_of, with_standing, renewed}
use Rattle.clone_rounds.specs.World.{Execute, Answer, Acknowledge, ForEnd, ForStage, Seat, fresh, World, put, with_seat, AllTaken}
use Rattle.clone_rounds.specs.Steps.{connecting, asking, acknowledging, takes_stage, takes_end, joining, unended, advancing, taking, losing, Forgets}
use Rattle.clone_rounds.proofs.Puts.{put_all, put_same, put_other}
use Rattle.clone_view.specs.Rows.{places, place_of, taken_at}
use Rattle.clone_view.specs.Tables.{phase_number, IsStanding, IsTable}
use Rattle.clone_view.proofs.Rows.{row_taken, taken_row, row_none, TakesOne, row_takes, row_fewer, whole_kept}

-- ---- one task stands otherwise

standings_put : (standings : List Standing) (seats : ℕ → Seat) (k : ℕ) (s : Standing) (x : Seat) → ((j : ℕ) → IsStanding (get_or standings j Apart) (seats j)) → k < length standings → IsStanding s x → (j : ℕ) → IsStanding (get_or (set standings k s) j Apart) (put seats k x j)
standings_put standings seats k s x are within is = put_all (λ j y. IsStanding (get_or (set standings k s) j Apart) y) seats k x (λ j other. subst (λ z. IsStanding z (seats j)) (sym (get_or-set_other standings k j s Apart other)) (are j)) (subst (λ z. IsStanding z x) (sym (get_or-set_same standings k s Apart within)) is)

-- what else the table says stays
stands : (t : Table) (w : World) (k : ℕ) (s : Standing) (x : Seat) → IsTable t w → k < length t.standings → IsStanding s x → IsTable (with_standing t k s) (with_seat w k x)
stands t w k s x v within is = record { some = v.some; tasks = v.tasks; limit = v.limit; losses = v.losses; stage = v.stage; joined = v.joined; chunks = v.chunks; size = v.size; taken = v.taken; seats = standings_put t.standings w.seats k s x v.seats within is }

seat_of : (t : Table) (w : World) (k : ℕ) (s : Standing) → IsTable t w → standing_of t k ≡ s → IsStanding s (w.seats k)
seat_of t w k s v e = subst (λ x. IsStanding x (w.seats k)) e (v.seats k)

-- ---- a command is sent

pub table_connects : (t : Table) (w : World) (k floor : ℕ) → IsTable t w → k < length t.standings → IsTable (after_sending rule.Connect t k floor) (with_seat w k connecting)
table_connects t w k floor v within = stands t w k Joining connecting v within (record { connected = refl; awaits = refl; ended = refl })

pub table_executes : (t : Table) (w : World) (k floor : ℕ) (stage : CopyStage) → IsTable t w → k < length t.standings → (w.seats k).connected ≡ true → IsTable (after_sending (rule.Execute stage) t k floor) (with_seat w k (asking (w.seats k) ForEnd (Execute w.sides.stage)))
table_executes t w k floor stage v within c = stands t w k Fetching (asking (w.seats k) ForEnd (Execute w.sides.stage)) v within (record { connected = c; awaits = refl; ended = refl })

pub table_acknowledges : (t : Table) (w : World) (floor : ℕ) (stage : CopyStage) → IsTable t w → 0 < length t.standings → (w.seats 0).connected ≡ true → IsTable (after_sending (rule.Acknowledge stage) t 0 floor) (acknowledging w)
table_acknowledges t w floor stage v within c = record { some = v.some; tasks = v.tasks; limit = v.limit; losses = v.losses; stage = v.stage; joined = v.joined; chunks = v.chunks; size = v.size; taken = v.taken; seats = standings_put t.standings w.seats 0 Acknowledging (asking (w.seats 0) ForStage (Acknowledge w.sides.stage)) v.seats within (record { connected = c; awaits = refl; ended = refl }) }

-- ---- a STAGE, or an END

took_stage : (t : Table) (w : World) (k : ℕ) (more : List Answer) → IsTable t w → standing_of t k ≡ Joining → IsStanding Ready (takes_stage (w.seats k) more)
took_stage t w k more v e = record { connected = (seat_of t w k Joining v e).connected; awaits = refl; ended = (seat_of t w k Joining v e).ended }

pub table_joins : (t : Table) (w : World) (more : List Answer) → IsTable t w → 0 < length t.standings → standing_of t 0 ≡ Joining → IsTable (joined_by t 0) (joining w more)
table_joins t w more v within e = record { some = v.some; tasks = v.tasks; limit = v.limit; losses = v.losses; stage = v.stage; joined = sym (or_right t.joined (0 == 0) refl); chunks = v.chunks; size = v.size; taken = v.taken; seats = standings_put t.standings w.seats 0 Ready (takes_stage (w.seats 0) more) v.seats within (took_stage t w 0 more v e) }

pub table_attaches : (t : Table) (w : World) (k : ℕ) (more : List Answer) → IsTable t w → k < length t.standings → k ≢ 0 → standing_of t k ≡ Joining → IsTable (joined_by t k) (with_seat w k (takes_stage (w.seats k) more))
table_attaches t w k more v within other e = record { some = v.some; tasks = v.tasks; limit = v.limit; losses = v.losses; stage = v.stage; joined = v.joined ∙ same; chunks = v.chunks; size = v.size; taken = v.taken; seats = standings_put t.standings w.seats k Ready (takes_stage (w.seats k) more) v.seats within (took_stage t w k more v e) }
  where
    plain : (b : Bool) → b ≡ (b || false)
    plain true = refl
    plain false = refl

    same : t.joined ≡ (t.joined || (k == 0))
    same = rw (ne_eqb k 0 other) (plain t.joined)

pub table_ends : (t : Table) (w : World) (k : ℕ) (more : List Answer) → IsTable t w → k < length t.standings → (w.seats k).connected ≡ true → IsTable (served t k) (with_seat w k (takes_end (w.seats k) more))
table_ends t w k more v within c = stands t w k Served (takes_end (w.seats k) more) v within (record { connected = c; awaits = refl; ended = refl })

-- ---- the next stage

renewed_at : (standings : List Standing) (j : ℕ) → get_or (map renewed standings) j Apart ≡ renewed (get_or standings j Apart)
renewed_at [] j = refl
renewed_at (s ∷ standings) zero = refl
renewed_at (s ∷ standings) (suc j) = renewed_at standings j

renewed_is : (s : Standing) (x : Seat) → IsStanding s x → IsStanding (renewed s) (unended x)
renewed_is Apart x is = record { connected = is.connected; awaits = is.awaits; ended = refl }
renewed_is Joining x is = record { connected = is.connected; awaits = is.awaits; ended = refl }
renewed_is Ready x is = record { connected = is.connected; awaits = is.awaits; ended = refl }
renewed_is Fetching x is = record { connected = is.connected; awaits = is.awaits; ended = refl }
renewed_is Served x is = record { connected = is.connected; awaits = is.awaits; ended = refl }
renewed_is Acknowledging x is = record { connected = is.connected; awaits = is.awaits; ended = refl }

pub table_advances : (t : Table) (w : World) (phase : Phase) (marks : List ChunkMarks) (more : List Answer) → IsTable t w → 0 < length t.standings → (w.seats 0).connected ≡ true → phase_number phase ≡ suc (phase_number t.phase) → All IsChunk marks → w.sides.size (suc w.sides.stage) ≡ places (blocks_of marks) → ((chunk block : ℕ) → is_taken marks chunk block ≡ false) → IsTable (begins phase marks t) (advancing w more)
table_advances t w phase marks more v within c next are size none = record { some = v.some; tasks = v.tasks; limit = v.limit; losses = v.losses; stage = ap suc v.stage ∙ sym next; joined = refl; chunks = are; size = size; taken = λ b small. sym (row_none marks none b (subst (λ n. b < n) size small)); seats = seats }
  where
    ready : IsStanding Ready (unended (takes_stage (w.seats 0) more))
    ready = record { connected = c; awaits = refl; ended = refl }

    seats : (j : ℕ) → IsStanding (get_or (map renewed (set t.standings 0 Ready)) j Apart) (put (λ i. unended (w.seats i)) 0 (unended (takes_stage (w.seats 0) more)) j)
    seats = put_all (λ j y. IsStanding (get_or (map renewed (set t.standings 0 Ready)) j Apart) y) (λ i. unended (w.seats i)) 0 (unended (takes_stage (w.seats 0) more)) (λ j other. rw (renewed_at (set t.standings 0 Ready) j, get_or-set_other t.standings 0 j Ready Apart other) (renewed_is (get_or t.standings j Apart) (w.seats j) (v.seats j))) (rw (renewed_at (set t.standings 0 Ready) 0, get_or-set_same t.standings 0 Ready Apart within) ready)

-- ---- a block

takes_one : (t new : Table) (chunk block : ℕ) → HasTaken t chunk block new → block < slice_index (blocks_of t.marks) chunk → TakesOne t.marks new.marks chunk block
takes_one t new chunk block h there = record { blocks = h.blocks; there = there; taken = h.taken chunk block ∙ or_right (is_taken t.marks chunk block) ((chunk == chunk) && (block == block)) (rw (eq-eqb chunk chunk refl, eq-eqb block block refl) refl); others = λ c b other. h.taken c b ∙ same c b (away c b other) }
  where
    away : (c b : ℕ) → (c ≢ chunk) ⊎ (b ≢ block) → ((c == chunk) && (b == block)) ≡ false
    away c b (inl other) = and_left (c == chunk) (b == block) (ne_eqb c chunk other)
    away c b (inr other) = and_right (c == chunk) (b == block) (ne_eqb b block other)

    plain : (b : Bool) → (b || false) ≡ b
    plain true = refl
    plain false = refl

    same : (c b : ℕ) → ((c == chunk) && (b == block)) ≡ false → (is_taken t.marks c b || ((c == chunk) && (b == block))) ≡ is_taken t.marks c b
    same c b e = rw e (plain (is_taken t.marks c b))

pub table_takes : (t new : Table) (w : World) (k chunk block : ℕ) (more : List Answer) → IsTable t w → HasTaken t chunk block new → block < slice_index (blocks_of t.marks) chunk → All IsChunk new.marks → IsTable new (taking w k (place_of (blocks_of t.marks) chunk block) more)
table_takes t new w k chunk block more v h there are = subst (λ x. IsTable x (taking w k (place_of (blocks_of t.marks) chunk block) more)) (sym h.else_same) (record { some = v.some; tasks = v.tasks; limit = v.limit; losses = v.losses; stage = v.stage; joined = v.joined; chunks = are; size = v.size ∙ ap places (sym h.blocks); taken = taken; seats = put_all (λ j y. IsStanding (standing_of t j) y) w.seats k (record (w.seats k) { answers = more }) (λ j other. v.seats j) (record { connected = (v.seats k).connected; awaits = (v.seats k).awaits; ended = (v.seats k).ended }) })
  where
    place : ℕ
    place = place_of (blocks_of t.marks) chunk block

    taken : (d : ℕ) → d < w.sides.size w.sides.stage → put w.sides.taken (place_of (blocks_of t.marks) chunk block) true d ≡ taken_at new.marks d
    taken d small = put_all (λ i y. i < w.sides.size w.sides.stage → put (taken_at t.marks) (place_of (blocks_of t.marks) chunk block) true i ≡ taken_at new.marks i → y ≡ taken_at new.marks i) w.sides.taken (place_of (blocks_of t.marks) chunk block) true (λ i other less e. v.taken i less ∙ sym (put_other (taken_at t.marks) (place_of (blocks_of t.marks) chunk block) true i other) ∙ e) (λ less e. sym (put_same (taken_at t.marks) (place_of (blocks_of t.marks) chunk block) true) ∙ e) d small (sym (row_takes t.marks new.marks chunk block (takes_one t new chunk block h there) d (subst (λ n. d < n) v.size small)))

-- ---- a loss

apart_at : (n j : ℕ) → get_or (replicate n Apart) j Apart ≡ Apart
apart_at zero j = refl
apart_at (suc n) zero = refl
apart_at (suc n) (suc j) = apart_at n j

pub table_loses : (t : Table) (w : World) (late : ℕ) → IsTable t w → IsTable (after_loss t) (losing w (taken_at (forgotten (kept_in t.version) t.marks)) late)
table_loses t w late v = record { some = v.some; tasks = v.tasks; limit = v.limit; losses = omega (arith, v.losses); stage = v.stage; joined = refl; chunks = forgotten_are (kept_in t.version) t.marks v.chunks; size = v.size ∙ ap places (sym (forgotten_blocks (kept_in t.version) t.marks)); taken = λ b small. refl; seats = λ j. subst (λ s. IsStanding s fresh) (sym (apart_at MOST_TASKS j)) (record { connected = refl; awaits = refl; ended = refl }) }

pub table_forgets : (t : Table) (w : World) → IsTable t w → Forgets w.sides (taken_at (forgotten (kept_in t.version) t.marks))
table_forgets t w v = record { fewer = λ b small h. v.taken b small ∙ row_fewer (kept_in t.version) t.marks b (within b small) h; whole = whole }
  where
    within : (b : ℕ) → b < w.sides.size w.sides.stage → b < places (blocks_of t.marks)
    within b small = subst (λ n. b < n) v.size small

    all : AllTaken w.sides → AreAllTaken t.marks
    all h = taken_row t.marks (λ d less. let there : d < w.sides.size w.sides.stage = subst (λ n. d < n) (sym v.size) less in sym (v.taken d there) ∙ h d there)

    whole : AllTaken w.sides → (b : ℕ) → b < w.sides.size w.sides.stage → taken_at (forgotten (kept_in t.version) t.marks) b ≡ true
    whole h b small = rw (whole_kept (kept_in t.version) t.marks v.chunks (all h)) (row_taken t.marks (all h) b (within b small))

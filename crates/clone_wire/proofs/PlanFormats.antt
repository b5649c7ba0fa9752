-- The plan of a stage and the cause of a refusal are formats.
use Rattle.std.proofs.Common.{◌≡◌, ℕ, zero, suc, ◌+◌, ◌^◌, ◌≤◌, ◌==◌, Bool, true, false, cond, List, [], ◌∷◌, ◌++◌, length, refl, sym, ap, subst, ◌∙◌, arith}
use Rattle.std.specs.Prelude.{nat_le, not}
use Rattle.std.specs.List.{flat_map}
use Rattle.std.proofs.lemmas.Bool.{ne_eqb}
use Rattle.byteorder.specs.Endian.{big_bytes}
use Rattle.clone_bytes.specs.Formats.{IsFormat}
use Rattle.clone_bytes.proofs.Formats.{followed_laws, made_laws, list_laws}
use Rattle.clone_chunk.specs.declared.plan.StagePlan.{StagePlan}
use Rattle.clone_chunk.specs.declared.plan.StagePlan.TheVariants as plan
use Rattle.clone_chunk.specs.declared.cause.CloneCause.{CloneCause}
use Rattle.clone_chunk.specs.declared.cause.CloneCause.TheVariants.{Busy, VersionMismatch, PageSizeMismatch, CompressionRefused, TasksOutOfRange, NoSuchSession, Stale, StageMismatch, ChunksLeft, FloorAhead, NotClaimed, ArchiveBehind}
use Rattle.clone_chunk.specs.declared.spaces.SpaceSize.{SpaceSize}
use Rattle.clone_wire.specs.Choices.{between, any_if}
use Rattle.clone_wire.specs.Frames.{IsOneOf}
use Rattle.clone_wire.specs.Ranges.{HasWidth, AllAre, IsSpace, IsPlan}
use Rattle.clone_chunk.specs.Causes.{cause_number, cause_first, cause_second, cause_numbered}
use Rattle.clone_wire.specs.Spelling.{space_bytes, cause_bytes, plan_bytes}
use Rattle.clone_chunk.specs.Plans.{spaces_of}
use Rattle.clone_wire.specs.Reading.{refusals, planned, plan_fields, stage_plan, value_count, cause}
use Rattle.clone_wire.proofs.FieldFormats.{IsChoice, number_in_laws, range_choice, any_choice, in_range, same_number, space_laws}

abbrev most8 : ℕ
most8 = 0xFFFFFFFFFFFFFFFF

-- a field without a value is 0
no_value : (most x : ℕ) → IsOneOf (any_if false most) x → 0 ≡ x
no_value most x one = omega (arith, one.high)

has_width : (has : Bool) (width most x : ℕ) → most + 1 ≡ 256 ^ width → IsOneOf (any_if has most) x → HasWidth width x
has_width true width most x whole one = omega (arith, one.high)
has_width false width most x whole one = omega (arith, one.high)

-- a number of so many bytes is one of those where the frame has a value there
has_one : (width most x : ℕ) → most + 1 ≡ 256 ^ width → HasWidth width x → IsOneOf (any_if true most) x
has_one width most x whole below = in_range 0 most x (omega arith) (omega arith)

-- and 0 is, whether or not
none_one : (has : Bool) (most : ℕ) → IsOneOf (any_if has most) 0
none_one true most = in_range 0 most 0 (omega arith) (omega arith)
none_one false most = in_range 0 0 0 (omega arith) (omega arith)

-- the first two stages may list spaces
early_one : (b : Bool) (stage : ℕ) → 1 ≤ stage → stage ≤ 2 → IsOneOf (between 1 (cond b 4 2)) stage
early_one true stage some early = in_range 1 4 stage (omega arith) (omega arith)
early_one false stage some early = in_range 1 2 stage (omega arith) (omega arith)

stage_choice : (b : Bool) → IsChoice 1 (between 1 (cond b 4 2))
stage_choice true = range_choice 1 1 4 (omega arith) (omega arith)
stage_choice false = range_choice 1 1 2 (omega arith) (omega arith)

-- ---- stages

abbrev stage_text : ℕ → ℕ → ℕ → ℕ → ℕ → List SpaceSize → List ℕ
stage_text stage chunks checkpoint lsn position spaces =
    big_bytes 1 stage ++ big_bytes 4 chunks ++ big_bytes 8 checkpoint ++ big_bytes 8 lsn ++ big_bytes 8 position ++ big_bytes 2 (length spaces) ++ flat_map space_bytes spaces

-- the fields of a stage are those of its plan
planned_is : (stage chunks checkpoint lsn position : ℕ) (spaces : List SpaceSize) → AllAre IsSpace spaces → length spaces ≤ 63
    → IsOneOf (between 1 (cond (length spaces == 0) 4 2)) stage → IsOneOf (any_if (not (stage == 4)) 0xFFFFFFFF) chunks → IsOneOf (any_if (nat_le 3 stage) most8) checkpoint → IsOneOf (any_if (nat_le 3 stage) most8) lsn
    → IsOneOf (any_if (nat_le 2 stage) most8) position
    → (stage_text stage chunks checkpoint lsn position spaces ≡ plan_bytes (planned stage chunks checkpoint lsn position spaces)) × IsPlan (planned stage chunks checkpoint lsn position spaces)
unfolding plan_bytes
planned_is zero chunks checkpoint lsn position spaces are few one c p l q = absurd (omega (arith, one.low))
planned_is (suc zero) chunks checkpoint lsn position spaces are few one c p l q =
    (rw (← no_value most8 checkpoint p, ← no_value most8 lsn l, ← no_value most8 position q) refl, (has_width true 4 0xFFFFFFFF chunks (omega arith) c, are, few))
planned_is (suc (suc zero)) chunks checkpoint lsn position spaces are few one c p l q =
    (rw (← no_value most8 checkpoint p, ← no_value most8 lsn l) refl, (has_width true 4 0xFFFFFFFF chunks (omega arith) c, has_width true 8 most8 position (omega arith) q, are, few))
planned_is (suc (suc (suc zero))) chunks checkpoint lsn position [] are few one c p l q =
    (refl, (has_width true 4 0xFFFFFFFF chunks (omega arith) c, has_width true 8 most8 checkpoint (omega arith) p, has_width true 8 most8 lsn (omega arith) l, has_width true 8 most8 position (omega arith) q))
planned_is (suc (suc (suc (suc zero)))) chunks checkpoint lsn position [] are few one c p l q =
    (rw (← no_value 0xFFFFFFFF chunks c) refl, (has_width true 8 most8 checkpoint (omega arith) p, has_width true 8 most8 lsn (omega arith) l, has_width true 8 most8 position (omega arith) q))
planned_is (suc (suc (suc (suc (suc n))))) chunks checkpoint lsn position [] are few one c p l q = absurd (omega (arith, one.high))
planned_is (suc (suc (suc n))) chunks checkpoint lsn position (x ∷ spaces) are few one c p l q = absurd (let some : (suc (length spaces) == 0) ≡ false = ne_eqb (suc (length spaces)) 0 (λ e. omega arith) in let high : suc (suc (suc n)) ≤ 2 = rw some at one.high in omega arith)

-- what was read of a stage is a plan, spelled so
pub plan_is : (n : ℕ) (x : ℕ × (ℕ × (ℕ × (ℕ × (ℕ × (ℕ × List SpaceSize)))))) → n ≤ 63 → IsOneOf (between 1 (cond (n == 0) 4 2)) x.0 × (plan_fields n x.0).Has x.1
    → (stage_text x.0 x.1.0 x.1.1.0 x.1.1.1.0 x.1.1.1.1.0 x.1.1.1.1.1.1 ≡ plan_bytes (planned x.0 x.1.0 x.1.1.0 x.1.1.1.0 x.1.1.1.1.0 x.1.1.1.1.1.1)) × IsPlan (planned x.0 x.1.0 x.1.1.0 x.1.1.1.0 x.1.1.1.1.0 x.1.1.1.1.1.1)
plan_is n x few has =
    let xs = has.1.1.1.1.1.1 in
    planned_is x.0 x.1.0 x.1.1.0 x.1.1.1.0 x.1.1.1.1.0 x.1.1.1.1.1.1 xs.1 (omega (arith, xs.0)) (subst (λ m. IsOneOf (between 1 (cond (m == 0) 4 2)) x.0) (sym xs.0) has.0) has.1.0 has.1.1.0 has.1.1.1.0 has.1.1.1.1.0

pub plan_laws : (n p : ℕ) → n ≤ 63 → 17 ≤ p → IsFormat refusals p (stage_plan n)
plan_laws n p few there =
    made_laws plan_bytes _ (followed_laws (number_in_laws 17 1 p (between 1 (cond (n == 0) 4 2)) (stage_choice (n == 0)) there)
    (λ stage s. followed_laws (number_in_laws 18 4 _ _ (any_choice 4 (not (stage == 4)) 0xFFFFFFFF (omega arith)) (omega arith)) (λ chunks c. followed_laws (number_in_laws 22 8 _ _ (any_choice 8 (nat_le 3 stage) most8 (omega arith)) (omega arith))
    (λ checkpoint k. followed_laws (number_in_laws 30 8 _ _ (any_choice 8 (nat_le 3 stage) most8 (omega arith)) (omega arith)) (λ lsn l. followed_laws (number_in_laws 38 8 _ _ (any_choice 8 (nat_le 2 stage) most8 (omega arith)) (omega arith))
    (λ position q. followed_laws (number_in_laws 46 2 _ _ (range_choice 2 n n (omega arith) (omega arith)) (omega arith)) (λ count k. list_laws (λ p. space_laws) n _)))))))
    (λ x has. sym (plan_is n x few has).0 ∙ counts n x has)
  where
    counts : (n : ℕ) (x : ℕ × (ℕ × (ℕ × (ℕ × (ℕ × (ℕ × List SpaceSize)))))) → IsOneOf (between 1 (cond (n == 0) 4 2)) x.0 × (plan_fields n x.0).Has x.1
        → stage_text x.0 x.1.0 x.1.1.0 x.1.1.1.0 x.1.1.1.1.0 x.1.1.1.1.1.1 ≡ big_bytes 1 x.0 ++ (plan_fields n x.0).text x.1
    counts n x has = let same : length x.1.1.1.1.1.1 ≡ x.1.1.1.1.1.0 = has.1.1.1.1.1.1.0 ∙ sym (same_number n x.1.1.1.1.1.0 has.1.1.1.1.1.0) in rw same refl

pub only_one : (n : ℕ) → IsOneOf (between n n) n
only_one n = in_range n n n (omega arith) (omega arith)

-- each plan has a stage
pub has_plan : (p : StagePlan) → IsPlan p → (stage_plan (length (spaces_of p))).Has p
has_plan (plan.FileCopy chunks spaces) is =
    ((1, (chunks, (0, (0, (0, (length spaces, spaces)))))), (early_one (length spaces == 0) 1 (omega arith) (omega arith), (has_one 4 0xFFFFFFFF chunks (omega arith) is.0, (none_one false most8, (none_one false most8, (none_one false most8, (only_one (length spaces), (refl, is.1))))))), refl)
has_plan (plan.PageCopy chunks position spaces) is =
    ((2, (chunks, (0, (0, (position, (length spaces, spaces)))))), (early_one (length spaces == 0) 2 (omega arith) (omega arith), (has_one 4 0xFFFFFFFF chunks (omega arith) is.0, (none_one false most8, (none_one false most8, (has_one 8 most8 position (omega arith) is.1, (only_one (length spaces), (refl, is.2))))))), refl)
has_plan (plan.RedoCopy chunks checkpoint lsn position) is =
    ((3, (chunks, (checkpoint, (lsn, (position, (0, [])))))), (in_range 1 4 3 (omega arith) (omega arith), (has_one 4 0xFFFFFFFF chunks (omega arith) is.0, (has_one 8 most8 checkpoint (omega arith) is.1, (has_one 8 most8 lsn (omega arith) is.2, (has_one 8 most8 position (omega arith) is.3, (only_one 0, (refl, tt))))))), refl)
has_plan (plan.Done checkpoint lsn position) is =
    ((4, (0, (checkpoint, (lsn, (position, (0, [])))))), (in_range 1 4 4 (omega arith) (omega arith), (none_one false 0xFFFFFFFF, (has_one 8 most8 checkpoint (omega arith) is.0, (has_one 8 most8 lsn (omega arith) is.1, (has_one 8 most8 position (omega arith) is.2, (only_one 0, (refl, tt))))))), refl)

-- ---- causes

abbrev AreFields : ℕ → ℕ → ℕ → Type 0
AreFields n x y = (cause_number (cause_numbered n x y) ≡ n) × (cause_first (cause_numbered n x y) ≡ x) × (cause_second (cause_numbered n x y) ≡ y)

cause_is : (number first second : ℕ) → IsOneOf (between 1 12) number → IsOneOf (any_if (nat_le 1 (value_count number)) most8) first → IsOneOf (any_if (nat_le 2 (value_count number)) most8) second → AreFields number first second
cause_is zero first second one some more = absurd (omega (arith, one.low))
cause_is (suc zero) first second one some more = (refl, refl, no_value most8 second more)
cause_is (suc (suc zero)) first second one some more = (refl, refl, no_value most8 second more)
cause_is (suc (suc (suc zero))) first second one some more = (refl, refl, no_value most8 second more)
cause_is (suc (suc (suc (suc zero)))) first second one some more = (refl, no_value most8 first some, no_value most8 second more)
cause_is (suc (suc (suc (suc (suc zero))))) first second one some more = (refl, refl, no_value most8 second more)
cause_is (suc (suc (suc (suc (suc (suc zero)))))) first second one some more = (refl, no_value most8 first some, no_value most8 second more)
cause_is (suc (suc (suc (suc (suc (suc (suc zero))))))) first second one some more = (refl, refl, no_value most8 second more)
cause_is (suc (suc (suc (suc (suc (suc (suc (suc zero)))))))) first second one some more = (refl, refl, refl)
cause_is (suc (suc (suc (suc (suc (suc (suc (suc (suc zero))))))))) first second one some more = (refl, refl, no_value most8 second more)
cause_is (suc (suc (suc (suc (suc (suc (suc (suc (suc (suc zero)))))))))) first second one some more = (refl, refl, refl)
cause_is (suc (suc (suc (suc (suc (suc (suc (suc (suc (suc (suc zero))))))))))) first second one some more = (refl, no_value most8 first some, no_value most8 second more)
cause_is (suc (suc (suc (suc (suc (suc (suc (suc (suc (suc (suc (suc zero)))))))))))) first second one some more = (refl, refl, refl)
cause_is (suc (suc (suc (suc (suc (suc (suc (suc (suc (suc (suc (suc (suc n))))))))))))) first second one some more = absurd (omega (arith, one.high))

abbrev CauseFields : ℕ × (ℕ × ℕ) → Type 0
CauseFields x = IsOneOf (between 1 12) x.0 × (IsOneOf (any_if (nat_le 1 (value_count x.0)) most8) x.1.0 × IsOneOf (any_if (nat_le 2 (value_count x.0)) most8) x.1.1)

pub cause_laws : {p : ℕ} → 5 ≤ p → IsFormat refusals p cause
cause_laws there =
    made_laws cause_bytes _ (followed_laws (number_in_laws 5 1 _ (between 1 12) (range_choice 1 1 12 (omega arith) (omega arith)) there)
    (λ number n. followed_laws (number_in_laws 6 8 _ _ (any_choice 8 (nat_le 1 (value_count number)) most8 (omega arith)) (omega arith)) (λ first f. number_in_laws 14 8 _ _ (any_choice 8 (nat_le 2 (value_count number)) most8 (omega arith)) (omega arith))))
    (λ x has. (let are = cause_is x.0 x.1.0 x.1.1 has.0 has.1.0 has.1.1 in ap (λ k. big_bytes 1 k ++ big_bytes 8 (cause_first (cause_numbered x.0 x.1.0 x.1.1)) ++ big_bytes 8 (cause_second (cause_numbered x.0 x.1.0 x.1.1))) are.0 ∙ rw (are.1, are.2) refl))

-- the values of a cause that was read have eight bytes each
pub cause_fits : (x : ℕ × (ℕ × ℕ)) → CauseFields x → HasWidth 8 (cause_first (cause_numbered x.0 x.1.0 x.1.1)) × HasWidth 8 (cause_second (cause_numbered x.0 x.1.0 x.1.1))
cause_fits x has =
    let are = cause_is x.0 x.1.0 x.1.1 has.0 has.1.0 has.1.1 in
    (rw are.1 (has_width (nat_le 1 (value_count x.0)) 8 most8 x.1.0 (omega arith) has.1.0), rw are.2 (has_width (nat_le 2 (value_count x.0)) 8 most8 x.1.1 (omega arith) has.1.1))

value : (x : ℕ) → HasWidth 8 x → IsOneOf (any_if true most8) x
value x below = has_one 8 most8 x (omega arith) below

abbrev none : IsOneOf (any_if false most8) 0
none = none_one false most8

-- each cause has a number
pub has_cause : (r : CloneCause) → HasWidth 8 (cause_first r) × HasWidth 8 (cause_second r) → cause.Has r
has_cause (Busy session) is = ((1, (session, 0)), (in_range 1 12 1 (omega arith) (omega arith), (value session is.0, none)), refl)
has_cause (VersionMismatch theirs) is = ((2, (theirs, 0)), (in_range 1 12 2 (omega arith) (omega arith), (value theirs is.0, none)), refl)
has_cause (PageSizeMismatch theirs) is = ((3, (theirs, 0)), (in_range 1 12 3 (omega arith) (omega arith), (value theirs is.0, none)), refl)
has_cause CompressionRefused is = ((4, (0, 0)), (in_range 1 12 4 (omega arith) (omega arith), (none, none)), refl)
has_cause (TasksOutOfRange tasks) is = ((5, (tasks, 0)), (in_range 1 12 5 (omega arith) (omega arith), (value tasks is.0, none)), refl)
has_cause NoSuchSession is = ((6, (0, 0)), (in_range 1 12 6 (omega arith) (omega arith), (none, none)), refl)
has_cause (Stale incarnation) is = ((7, (incarnation, 0)), (in_range 1 12 7 (omega arith) (omega arith), (value incarnation is.0, none)), refl)
has_cause (StageMismatch donor recipient) is = ((8, (donor, recipient)), (in_range 1 12 8 (omega arith) (omega arith), (value donor is.0, value recipient is.1)), refl)
has_cause (ChunksLeft count) is = ((9, (count, 0)), (in_range 1 12 9 (omega arith) (omega arith), (value count is.0, none)), refl)
has_cause (FloorAhead floor position) is = ((10, (floor, position)), (in_range 1 12 10 (omega arith) (omega arith), (value floor is.0, value position is.1)), refl)
has_cause NotClaimed is = ((11, (0, 0)), (in_range 1 12 11 (omega arith) (omega arith), (none, none)), refl)
has_cause (ArchiveBehind archived until) is = ((12, (archived, until)), (in_range 1 12 12 (omega arith) (omega arith), (value archived is.0, value until is.1)), refl)

-- How many dirty pages wait for a flush, and that one whole flush leaves one fewer.
use Rattle.std.proofs.Common.{◌≡◌, ◌<◌, ◌≤◌, ◌+◌, ◌&&◌, ℕ, List, [], ◌∷◌, length, Bool, true, false, cond, not, refl, sym, ap, ◌∙◌, subst, arith, Some}
use Rattle.std.specs.Prelude.{slice_set}
use Rattle.std.specs.List.{sum_by}
use Rattle.std.proofs.Math.Seq.{map-set_same}
use Rattle.std.proofs.lemmas.List.{get_or-set_same}
use Rattle.std.proofs.lemmas.List.Sums.{sum_by-cons, sum_by-set}
use Rattle.std.proofs.lemmas.Option.{same_Some}
use Rattle.clone_pool.specs.declared.frame.Frame.{Frame}
use Rattle.clone_pool.specs.declared.frame.PageName.{PageName}
use Rattle.clone_pool.specs.Frames.{no_frame, frame_at, name_of, holder, is_dirty, is_begun, is_waiting, begun, landed}
use Rattle.clone_pool.specs.Index.{frame_number_of}

-- a frame counts where its page waits
abbrev waits : Frame → ℕ
waits f = cond (is_waiting f) 1 0

abbrev pub waiting : List Frame → ℕ
waiting frames = sum_by waits frames

one_at_most : (b : Bool) → cond b 1 0 ≤ 1
one_at_most true = omega arith
one_at_most false = omega arith

-- each frame counts once
pub waiting-le : (frames : List Frame) → waiting frames ≤ length frames
waiting-le [] = omega arith
waiting-le (f ∷ frames) =
    let counts : waiting (f ∷ frames) ≡ cond (is_waiting f) 1 0 + waiting frames = sum_by-cons waits f frames in
    omega (arith, counts, one_at_most (is_waiting f), waiting-le frames)

-- dirty, and no flush of it has begun
pub waits_for : (f : Frame) → is_dirty f ≡ true → is_begun f.flush ≡ false → is_waiting f ≡ true
waits_for f dirty idle = ap (λ b. b && not (is_begun f.flush)) dirty ∙ ap not idle

never : (b : Bool) → (b && false) ≡ false
never true = refl
never false = refl

-- the frame with this number has become another one
abbrev begun_at : ℕ → List Frame → List Frame
begun_at at frames = slice_set frames at (begun (frame_at frames at))

abbrev landed_at : ℕ → List Frame → List Frame
landed_at at frames = slice_set frames at (landed (frame_at frames at))

-- one fewer waits once a flush has begun
begun_waits : (frames : List Frame) (at : ℕ) → at < length frames → is_waiting (frame_at frames at) ≡ true → waiting (begun_at at frames) + 1 ≡ waiting frames
begun_waits frames at low is =
    let f = frame_at frames at in
    let total : waiting (begun_at at frames) + waits f ≡ waiting frames + waits (begun f) = sum_by-set waits frames at (begun f) no_frame low in
    let was : waits f ≡ 1 = ap (λ b. cond b 1 0) is in
    let now : waits (begun f) ≡ 0 = ap (λ b. cond b 1 0) (never (is_dirty f)) in
    omega (arith, total, was, now)

-- it stays so as the flush lands, where no change has come in between
landed_waits : (frames : List Frame) (at : ℕ) (f : Frame) → at < length frames → frame_at frames at ≡ begun f → waiting (landed_at at frames) ≡ waiting frames
landed_waits frames at f low is =
    let total : waiting (landed_at at frames) + waits (frame_at frames at) ≡ waiting frames + waits (landed (frame_at frames at)) = sum_by-set waits frames at (landed (frame_at frames at)) no_frame low in
    let was : waits (frame_at frames at) ≡ 0 = ap waits is ∙ ap (λ b. cond b 1 0) (never (is_dirty f)) in
    let now : waits (landed (frame_at frames at)) ≡ 0 = ap (λ (g : Frame). waits (landed g)) is in
    omega (arith, total, was, now)

-- the page has its frame where it had it
same_holder : (frames : List Frame) (at : ℕ) (page : PageName) → holder (begun_at at frames) page ≡ holder frames page
same_holder frames at page = ap (frame_number_of page) (map-set_same name_of frames at (begun (frame_at frames at)) no_frame refl)

-- A WHOLE FLUSH: it begins and lands in the frame of its page.
flushed_waits : (frames : List Frame) (at to : ℕ) (page : PageName) → at < length frames → holder frames page ≡ Some at → is_waiting (frame_at frames at) ≡ true → holder (begun_at at frames) page ≡ Some to → to < length (begun_at at frames)
    → waiting (landed_at to (begun_at at frames)) + 1 ≡ waiting frames
flushed_waits frames at to page low here is there within =
    let same : to ≡ at = same_Some to at (sym there ∙ same_holder frames at page ∙ here) in
    let f = frame_at frames at in
    let becomes : frame_at (begun_at at frames) at ≡ begun f = get_or-set_same frames at (begun f) no_frame low in
    let at_to : frame_at (begun_at at frames) to ≡ begun f = ap (frame_at (begun_at at frames)) same ∙ becomes in
    omega (arith, begun_waits frames at low is, landed_waits (begun_at at frames) to f within at_to)

-- the same over the frames of five states
pub one_fewer : (a b c d e : List Frame) (at to : ℕ) (page : PageName) → b ≡ a → c ≡ begun_at at b → d ≡ c → e ≡ landed_at to d → at < length b → holder b page ≡ Some at → is_waiting (frame_at b at) ≡ true → to < length d → holder d page ≡ Some to → waiting e + 1 ≡ waiting a
one_fewer a b c d e at to page looks begins halves lands low here is within there =
    let same : d ≡ begun_at at b = halves ∙ begins in
    let P : List Frame → Type 0 = λ fs. to < length fs in
    let flushes = flushed_waits b at to page low here is (ap (λ fs. holder fs page) (sym same) ∙ there) (subst P same within) in
    ap (λ fs. waiting fs + 1) (lands ∙ ap (landed_at to) same) ∙ flushes ∙ ap waiting looks

-- A call comes on along its way while it holds pages, and lets them go at its end.
use Rattle.clone_trx.proofs.Common.{◌≡◌, ◌≢◌, ◌<◌, ◌≤◌, ◌+◌, ◌-◌, inl, inr, ℕ, List, [], ◌∷◌, length, refl, sym, ap, subst, ◌∙◌, arith, Option, None, IfErr, IfOk, IsTrue, IsErrAnd, Result, Ok, Err, MOST_PAGES, Frame, PageName, frame_at, Buffered, image_of, written, EngineRefusal, Because, NoMemory, Cause, Donor, IsKept, Keeps, Record, Course, Spot, ArePinned, Call, Comes, HasCome, IsRefused, freshens_on, lengthens_on, reads_on, released, starts, times, walks_on, KeptBetween, Way, reads, walks, stops, writes, freshens, lengthens, makes, drops, ends, Answers, Carries, Goes, HasRoom, Holds, MissesBy, Takes, WalksAll, Writes, held, let_go, page_in}
use Rattle.clone_trx.proofs.BetweenLemmas.{between_none, between_still, between_written}
use Rattle.clone_trx.proofs.FramePinLemmas.{pins, records_pins}
use Rattle.clone_trx.proofs.HeldPageLemmas.{pin_at, pin_here, held_log, held_pins, held_right, released_pins, taken_pins}
use Rattle.clone_trx.proofs.PinLemmas.{writes_pins}
use Rattle.clone_trx.proofs.SpotLemmas.{all_stays}
use Rattle.clone_trx.proofs.WalkLemmas.{missed_pins, missed_stays, pin_of, spot_in, walk_missed, walk_pins}
use Rattle.clone_trx.proofs.WalkStepLemmas.{on_err, pin_low, same_err}
use Rattle.clone_trx.proofs.WayLemmas.{answers, goes_on, still_kept}

-- PINS.

-- no frame is held more often than pages are
pub times_low : (frames : List ℕ) (other : ℕ) → times frames other ≤ length frames
times_low [] other = omega arith
times_low (at ∷ frames) other = let low = times_low frames other in let one = pin_low at other in omega (arith, low, one)

-- the last page that was held is pinned
pub first_pinned : (at : ℕ) (more : List ℕ) (frames : List Frame) → ArePinned (at ∷ more) frames → 0 < (frame_at frames at).pins
first_pinned at more frames pinned =
    let is : pins frames at ≡ times more at + pin_at at at = pinned at in omega (arith, is, pin_here at)

-- without it the others are
pub let_go_pinned : (at : ℕ) (more : List ℕ) (old new : Buffered) → ArePinned (at ∷ more) old.pool.frames → new ≡ let_go at old → ArePinned more new.pool.frames
let_go_pinned at more old new pinned is other =
    let was : pins old.pool.frames other ≡ times more other + pin_at at other = pinned other in
    omega (arith, was, released_pins at old new is (first_pinned at more old.pool.frames pinned) other)

-- so they are where a page wasn't brought
pub missed_pinned : (page : PageName) (refusal : EngineRefusal) (frames : List ℕ) (old new : Buffered) → MissesBy page refusal old new → ArePinned frames old.pool.frames → ArePinned frames new.pool.frames
missed_pinned page refusal frames old new m pinned other = missed_pins page refusal old new m other ∙ pinned other

-- and where a mini-transaction was written, or wasn't
pub writes_pinned : {X : Type 0} (records : List Record) (frames : List ℕ) (old new : Buffered) (result : Result X EngineRefusal) → Writes records old new result → ArePinned frames old.pool.frames → ArePinned frames new.pool.frames
writes_pinned records frames old new result w pinned other = (writes_pins records old new result w).at other ∙ pinned other

-- WHAT IS LET GO leaves the log.
released_same : (frames : List ℕ) (b : Buffered) → ((released frames b).log ≡ b.log) × ((released frames b).right ≡ b.right)
released_same [] b = (refl, refl)
released_same (at ∷ frames) b = released_same frames (let_go at b)

module _ (d : Donor) (frames : List ℕ) (b new : Buffered) (is : new ≡ released frames b) where
  log : new.log ≡ b.log
  log = ap (λ (v : Buffered). v.log) is ∙ (released_same frames b).0

  pub released_before : IsTrue new.right → IsTrue b.right
  released_before = subst IsTrue (ap (λ (v : Buffered). v.right) is ∙ (released_same frames b).1)

  pub released_kept : (IsTrue b.right → IsKept d (image_of b)) → IsTrue new.right → IsKept d (image_of new)
  released_kept = still_kept d b new log released_before

  pub released_between : (first : Buffered) → KeptBetween d first b → KeptBetween d first new
  released_between first = between_still d first b new log released_before

-- ONCE THE REST OF A WAY IS GONE, so is the whole.
module _ (first : Buffered) (way : Way) where
  pub gone : {X : Type 0} (f : List ℕ) (l : Way) (b last : Buffered) (result : Result X EngineRefusal) → Comes first way f l b → Goes l b last result → Goes way first (released f last) result
  gone f l b last result starts goes = goes
  gone f l b last result (reads_on frames page rest at old new comes holds) goes =
      gone frames (reads page rest) old (let_go at last) result comes (goes_on page rest at old new last (let_go at last) result holds goes refl)
  gone f l b last result (walks_on course rest spot old new comes walked) goes =
      gone [] (walks course rest) old (let_go spot.at last) result comes (inr (spot, new, last, walked, goes, refl))
  gone f l b last result (freshens_on frames page rest at old new comes takes) goes =
      gone frames (freshens page rest) old (let_go at last) result comes (inr (at, new, last, takes, goes, refl))
  gone f l b last result (lengthens_on frames records rest old comes room) goes = gone frames (lengthens records rest) old last result comes (inr (room, goes))

-- A CALL STARTS where no frame is pinned.
pub starts_at : (call : Call) (frames : List ℕ) → frames ≡ [] → Keeps call.donor call.first → HasCome call frames call.way call.first
starts_at call frames none keeps =
    subst (λ (f : List ℕ). HasCome call f call.way call.first) (sym none) (record { comes = starts; pins = keeps.loose; kept = keeps.kept; between = between_none call.donor call.first })

-- what is known of the image stays where the log does
module _ (call : Call) (old new : Buffered) (log : new.log ≡ old.log) (before : IsTrue new.right → IsTrue old.right) where
  kept_on : (IsTrue old.right → IsKept call.donor (image_of old)) → IsTrue new.right → IsKept call.donor (image_of new)
  kept_on = still_kept call.donor old new log before

  between_on : KeptBetween call.donor call.first old → KeptBetween call.donor call.first new
  between_on = between_still call.donor call.first old new log before

module _ (call : Call) (frames : List ℕ) (old new : Buffered) where
  -- It holds a page more.
  pub comes_on : (page : PageName) (rest : List ℕ → Way) (at : ℕ) (more : List ℕ) → more ≡ at ∷ frames → Holds page at old new → HasCome call frames (reads page rest) old → HasCome call more (rest (page_in at new)) new
  comes_on page rest at more is holds come =
      let log = held_log page at old new holds in
      let before : IsTrue new.right → IsTrue old.right = λ right. (held_right page at old new holds right).0 in
      subst (λ (f : List ℕ). HasCome call f (rest (page_in at new)) new) (sym is)
      (record {
        comes = reads_on frames page rest at old new come.comes holds;
        pins = λ other. held_pins page at old new holds other ∙ ap (λ (n : ℕ). n + pin_at at other) (come.pins other);
        kept = kept_on call old new log before come.kept;
        between = between_on call old new log before come.between;
      })

  -- It holds a new page more.
  pub comes_new : (page : PageName) (rest : Way) (at : ℕ) (more : List ℕ) → more ≡ at ∷ frames → Takes page at old new → HasCome call frames (freshens page rest) old → HasCome call more rest new
  comes_new page rest at more is takes come =
      let log : new.log ≡ old.log = ap (λ (v : Buffered). v.log) takes.same in
      let before : IsTrue new.right → IsTrue old.right = subst (λ (v : Buffered). IsTrue v.right) takes.same in
      subst (λ (f : List ℕ). HasCome call f rest new) (sym is)
      (record {
        comes = freshens_on frames page rest at old new come.comes takes;
        pins = λ other. taken_pins page at old new takes other ∙ ap (λ (n : ℕ). n + pin_at at other) (come.pins other);
        kept = kept_on call old new log before come.kept;
        between = between_on call old new log before come.between;
      })

  -- It has written the mini-transaction that makes a space longer.
  pub comes_longer : (records : List Record) (rest : Way) → HasRoom records old → new ≡ written records old → (IsTrue new.right → IsKept call.donor (image_of new)) → HasCome call frames (lengthens records rest) old → HasCome call frames rest new
  comes_longer records rest room is kept come = record {
    comes = subst (Comes call.first call.way frames rest) (sym is) (lengthens_on frames records rest old come.comes room);
    pins = λ other. ap (λ (v : Buffered). pins v.pool.frames other) is ∙ (records_pins records _ _ old.pool).at other ∙ come.pins other;
    kept = kept;
    between = between_written call.donor call.first old new records is come.kept;
  }

  -- The rest of its way is refused, and what it holds is let go.
  pub refused_here : (left : Way) (mid : Buffered) (refusal : EngineRefusal) (cause : Cause) → refusal ≡ Because cause → Goes {X = Unit {0}} left old mid (Err (Because cause)) → mid.log ≡ old.log → (IsTrue mid.right → IsTrue old.right) → new ≡ released frames mid
      → ((e : Donor) → (IsTrue mid.right → IsKept e (image_of mid)) → Keeps e new) → HasCome call frames left old → IsRefused call new refusal
  refused_here left mid refusal cause because goes log before is keeps come = record {
    cause = cause;
    because = because;
    goes = subst (λ (v : Buffered). Goes {X = Unit {0}} call.way call.first v (Err (Because cause))) (sym is) (gone call.first call.way frames left old mid (Err (Because cause)) come.comes goes);
    keeps = keeps call.donor (kept_on call old mid log before come.kept);
    between = released_between call.donor frames mid new is call.first (between_on call old mid log before come.between);
  }

-- a page isn't brought
pub refused_on : (call : Call) (frames : List ℕ) (old mid new : Buffered) (page : PageName) (rest : List ℕ → Way) (refusal : EngineRefusal) → MissesBy page refusal old mid → new ≡ released frames mid → ((e : Donor) → (IsTrue mid.right → IsKept e (image_of mid)) → Keeps e new)
    → HasCome call frames (reads page rest) old → IsRefused call new refusal
refused_on call frames old mid new page rest refusal m is keeps come =
    let s = missed_stays page refusal old mid m in
    refused_here call frames old new (reads page rest) mid refusal m.0 m.1 (inl (m.0, refl, m.2)) s.log s.before is keeps come

-- It walks, and holds the page that the walk comes to.
module _ (call : Call) (old new : Buffered) (course : Course) (rest : ℕ → Option ℕ → List ℕ → Way) (come : HasCome call [] (walks course rest) old) where
  walked_pins : (result : Result Spot EngineRefusal) → WalksAll course old new result → (other : ℕ) → pins new.pool.frames other ≡ 0 + pin_of (spot_in result) other
  walked_pins result walked other =
      walk_pins course (MOST_PAGES - 1) course.first None old new result walked (λ n. 0) (λ n. let none : pins old.pool.frames n ≡ 0 = come.pins n in omega (arith, none)) other

  pub walks_to : (spot : Spot) (more : List ℕ) → more ≡ spot.at ∷ [] → WalksAll course old new (Ok spot) → HasCome call more (rest spot.page spot.slot (page_in spot.at new)) new
  walks_to spot more is walked =
      let s = all_stays course old new (Ok spot) walked in
      subst (λ (f : List ℕ). HasCome call f (rest spot.page spot.slot (page_in spot.at new)) new) (sym is)
      (record { comes = walks_on course rest spot old new come.comes walked; pins = walked_pins (Ok spot) walked; kept = kept_on call old new s.log s.before come.kept; between = between_on call old new s.log s.before come.between })

  pub refused_walk : (refusal : EngineRefusal) → WalksAll course old new (Err refusal) → IsRefused call new refusal
  refused_walk refusal walked =
      let s = all_stays course old new (Err refusal) walked in
      let m = walk_missed course (MOST_PAGES - 1) course.first None old new (Err refusal) walked in
      let because : refusal ≡ Because m.3.0 = m.3.1 in
      record {
        cause = m.3.0;
        because = because;
        goes = gone call.first call.way [] (walks course rest) old new (Err (Because m.3.0)) come.comes (inl (m.3.0, refl, subst (λ (r : EngineRefusal). WalksAll course old new (Err r)) because walked));
        keeps = record { loose = walked_pins (Err refusal) walked; kept = kept_on call old new s.log s.before come.kept };
        between = between_on call old new s.log s.before come.between;
      }

-- A REFUSAL is one of any call.
goes_as : (X Y : Type 0) (w : Way) (old new : Buffered) (cause : Cause) → Goes {X = X} w old new (Err (Because cause)) → Goes {X = Y} w old new (Err (Because cause))
goes_as X Y (reads page rest) old new cause (inl m) = inl (m.0, same_err m.1, m.2)
goes_as X Y (reads page rest) old new cause (inr x) = inr (x.0, x.1, x.2, x.3, goes_as X Y (rest (page_in x.0 x.1)) (held x.0 x.1) x.2 cause x.4, x.5)
goes_as X Y (walks course rest) old new cause (inl m) = inl (m.0, same_err m.1, m.2)
goes_as X Y (walks course rest) old new cause (inr x) = inr (x.0, x.1, x.2, x.3, goes_as X Y (rest x.0.page x.0.slot (page_in x.0.at x.1)) x.1 x.2 cause x.4, x.5)
goes_as X Y (freshens page rest) old new cause (inl m) = inl (m.0, same_err m.1, m.2, m.3)
goes_as X Y (freshens page rest) old new cause (inr x) = inr (x.0, x.1, x.2, x.3, goes_as X Y rest x.1 x.2 cause x.4, x.5)
goes_as X Y (lengthens records rest) old new cause (inl m) = inl (m.0, same_err m.1, m.2, m.3)
goes_as X Y (lengthens records rest) old new cause (inr x) = inr (x.0, goes_as X Y rest (written records old) new cause x.1)
goes_as X Y (stops stop) old new cause x = (same_err x.0, x.1)
goes_as X Y (writes records) old new cause x = x
goes_as X Y (makes records) old new cause (inl x) = inl x
goes_as X Y (makes records) old new cause (inr x) = inr (x.0, same_err x.1, x.2)
goes_as X Y (drops space pages records) old new cause x = x
goes_as X Y ends old new cause x = absurd (let e = x.0 in cc)

module _ {X : Type 0} {call : Call} {new : Buffered} {refusal : EngineRefusal} (result : Result X EngineRefusal) (is : IsErrAnd result (λ e. e ≡ refusal)) (refused : IsRefused call new refusal) where
  pub refused_goes : Goes call.way call.first new result
  refused_goes = on_err (λ (r : Result X EngineRefusal). Goes call.way call.first new r) result refusal is
      (subst (λ (r : EngineRefusal). Goes {X = X} call.way call.first new (Err r)) (sym refused.because) (goes_as (Unit {0}) X call.way call.first new refused.cause refused.goes))

  pub refused_answers : (cause : Option Cause) (Does : X → Type 0) → cause ≡ None → Answers cause call.way call.donor call.donor call.first new result Does
  refused_answers cause Does none =
      answers cause call.way call.donor call.donor call.first new result Does none refused_goes (on_err (λ (r : Result X EngineRefusal). Carries call.donor call.donor r Does) result refusal is refl)

  pub refused_memory : result ≢ Err NoMemory
  refused_memory = on_err (λ (r : Result X EngineRefusal). r ≢ Err NoMemory) result refusal is (λ e. let b = refused.because in absurd (cc))

-- A CALL ENDS once the rest of its way is gone, and what it held is let go.
module _ {X : Type 0} {call : Call} {frames : List ℕ} {left : Way} {b : Buffered} (last : Buffered) {final : Buffered} (come : HasCome call frames left b) (result : Result X EngineRefusal) (goes : Goes left b last result) (is : final ≡ released frames last) where
  pub ends_so : Goes call.way call.first final result
  ends_so = subst (λ (v : Buffered). Goes call.way call.first v result) (sym is) (gone call.first call.way frames left b last result come.comes goes)

  pub answers_so : (cause : Option Cause) (after : Donor) (Does : X → Type 0) → cause ≡ None → Carries call.donor after result Does → Answers cause call.way call.donor after call.first final result Does
  answers_so cause after Does none does = answers cause call.way call.donor after call.first final result Does none ends_so does

-- an answer of which less is said
pub if_ok : {X E : Type 0} {P Q : X → Type 0} (r : Result X E) → ((x : X) → P x → Q x) → IfOk r P → IfOk r Q
if_ok (Ok x) to is = to x is
if_ok (Err e) to is = tt

pub if_err : {X E : Type 0} {P Q : E → Type 0} (r : Result X E) → ((e : E) → P e → Q e) → IfErr r P → IfErr r Q
if_err (Ok x) to is = tt
if_err (Err e) to is = to e is

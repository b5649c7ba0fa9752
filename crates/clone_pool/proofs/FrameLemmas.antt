-- Each edit keeps what holds of a frame.
use Rattle.std.proofs.Common.{◌≡◌, ◌<◌, ◌≤◌, ◌-◌, ◌⊎◌, inl, inr, ◌==◌, ◌&&◌, ℕ, Bool, true, false, List, not, Option, Some, None, is_some, unwrap_or, refl, sym, ap, ◌∙◌, arith}
use Rattle.std.proofs.lemmas.Bool.{false≢true, and_parts, and_from, and_cases, eqb-false, eq-eqb, not_from_false, cond_both}
use Rattle.clone_pool.specs.declared.frame.Frame.{Frame}
use Rattle.clone_pool.specs.declared.frame.Content.{Content}
use Rattle.clone_pool.specs.declared.frame.Content.TheVariants.{Unused, Fresh, Held, Loading}
use Rattle.clone_pool.specs.declared.frame.Flush.{Flush}
use Rattle.clone_pool.specs.declared.frame.Flush.TheVariants.{Idle, Begun, Failed}
use Rattle.clone_pool.specs.declared.frame.PageName.{PageName}
use Rattle.clone_pool.specs.declared.tournament.TheConstants.{NO_NUMBER}
use Rattle.clone_mtr.specs.declared.record.Record.{Record}
use Rattle.clone_pool.specs.Frames.{no_frame, name_of, name_in, claim_of, claim_in, HoldsPage, is_dirty, is_free, is_loading, left_in, may_go, aside_for, is_begun, is_waiting, IsInFlight, is_fresh, made, noted, later_in, touched, emptied, filled, freshened, pinned, unpinned, changed, begun, landed, failed, discarded}
use Rattle.clone_pool.specs.Pool.{IsFrame}
use Rattle.clone_pool.proofs.ClaimLemmas.{left_holds_none}

no_page : (f : Frame) → HoldsPage f → name_of f ≡ None → ⊥
no_page f holds none = false≢true (sym (ap (λ (o : Option PageName). is_some o) none) ∙ holds)

pub unused_frame : (uses : ℕ) → IsFrame uses no_frame
unused_frame uses = record { unused = λ none. (refl, refl); used = λ name is. absurd (cc); fresh = λ is. absurd (false≢true is); clean = λ is. refl; use_is = omega arith; oldest_is = omega arith; later_is = omega arith }

module _ (uses : ℕ) (f : Frame) (i : IsFrame uses f) where
  -- more uses change nothing
  pub more_uses : (more : ℕ) → uses ≤ more → IsFrame more f
  more_uses more le = record { unused = i.unused; used = i.used; fresh = i.fresh; clean = i.clean; use_is = omega (arith, i.use_is); oldest_is = i.oldest_is; later_is = i.later_is }

  pub touched_frame : (number : ℕ) → 0 < number → HoldsPage f → IsFrame number (touched number f)
  touched_frame number some holds = record { unused = λ none. absurd (no_page f holds none); used = λ name is. some; fresh = i.fresh; clean = i.clean; use_is = omega arith; oldest_is = i.oldest_is; later_is = i.later_is }

  pub pinned_frame : HoldsPage f → IsFrame uses (pinned f)
  pinned_frame holds = record { unused = λ none. absurd (no_page f holds none); used = i.used; fresh = λ is. (omega arith, (i.fresh is).1); clean = i.clean; use_is = i.use_is; oldest_is = i.oldest_is; later_is = i.later_is }

  pub unpinned_frame : HoldsPage f → 0 < f.pins → IsFrame uses (unpinned f)
  unpinned_frame holds some = cond_both (is_fresh f.content && (f.pins == 1)) (record f { content = Unused; pins = 0; last_use = 0 }) (record f { pins = f.pins - 1 }) (IsFrame uses) last fewer
    where
      last : (is_fresh f.content && (f.pins == 1)) ≡ true → IsFrame uses (record f { content = Unused; pins = 0; last_use = 0 })
      last is =
          let clean = (i.fresh (and_parts (is_fresh f.content) (f.pins == 1) is).0).1 in
          record { unused = λ none. (not_from_false (is_dirty f) clean, refl); used = λ name is. absurd (cc); fresh = λ is. absurd (false≢true is); clean = i.clean; use_is = omega arith; oldest_is = i.oldest_is; later_is = i.later_is }

      fewer : (is_fresh f.content && (f.pins == 1)) ≡ false → IsFrame uses (record f { pins = f.pins - 1 })
      fewer is = record { unused = λ none. absurd (no_page f holds none); used = i.used; fresh = λ fresh. (more fresh (and_cases (is_fresh f.content) (f.pins == 1) is), (i.fresh fresh).1); clean = i.clean; use_is = i.use_is; oldest_is = i.oldest_is; later_is = i.later_is }
        where
          more : is_fresh f.content ≡ true → (is_fresh f.content ≡ false) ⊎ ((f.pins == 1) ≡ false) → 0 < f.pins - 1
          more fresh (inl not_fresh) = absurd (false≢true (sym not_fresh ∙ fresh))
          more fresh (inr not_one) = omega (arith, some, eqb-false f.pins 1 not_one)

  pub freshened_frame : (name : PageName) (number : ℕ) → 0 < number → is_free f ≡ true → IsFrame number (freshened name number f)
  freshened_frame name number some free = record { unused = λ none. absurd (cc); used = λ name is. some; fresh = λ is. (omega arith, free_is_clean); clean = i.clean; use_is = omega arith; oldest_is = i.oldest_is; later_is = i.later_is }
    where
      free_is_clean : is_dirty f ≡ false
      free_is_clean = clean_of (is_dirty f) (and_parts (f.pins == 0) (not (is_dirty f)) free).1
        where
          clean_of : (t : Bool) → not t ≡ true → t ≡ false
          clean_of true is = absurd (false≢true is)
          clean_of false is = refl

  pub filled_frame : (name : PageName) (bytes : List ℕ) (number : ℕ) → 0 < number → IsFrame number (filled name bytes number f)
  filled_frame name bytes number some = record { unused = λ none. absurd (cc); used = λ name is. some; fresh = λ is. absurd (false≢true is); clean = i.clean; use_is = omega arith; oldest_is = i.oldest_is; later_is = i.later_is }

  pub emptied_frame : (bytes : List ℕ) → is_free f ≡ true → IsFrame uses (emptied bytes f)
  emptied_frame bytes free = record { unused = λ none. (free, refl); used = λ name is. let none = left_holds_none f.content in absurd (cc); fresh = λ is. absurd (not_fresh f.content is); clean = i.clean; use_is = omega arith; oldest_is = i.oldest_is; later_is = i.later_is }
    where
      not_fresh : (c : Content) → is_fresh (left_in c) ≡ true → ⊥
      not_fresh Unused is = false≢true is
      not_fresh (Fresh name) is = false≢true is
      not_fresh (Held name) is = false≢true is
      not_fresh (Loading name) is = false≢true is

  pub aside_frame : (name : PageName) → is_free f ≡ true → IsFrame uses (aside_for name f)
  aside_frame name free = record { unused = λ none. (free, refl); used = λ page is. absurd (cc); fresh = λ is. absurd (false≢true is); clean = i.clean; use_is = omega arith; oldest_is = i.oldest_is; later_is = i.later_is }

  pub discarded_frame : f.pins ≡ 0 → IsFrame uses (discarded f)
  discarded_frame free = record { unused = λ none. (and_from (f.pins == 0) true (eq-eqb f.pins 0 free) refl, refl); used = λ name is. absurd (cc); fresh = λ is. absurd (false≢true is); clean = λ is. refl; use_is = omega arith; oldest_is = omega arith; later_is = omega arith }

  -- a flush of a dirty page
  dirty_frame : (flush : Flush) → HoldsPage f → is_dirty f ≡ true → unwrap_or (later_in flush) 0 < NO_NUMBER → IsFrame uses (record f { flush = flush })
  dirty_frame flush holds dirty small = record { unused = λ none. absurd (no_page f holds none); used = i.used; fresh = i.fresh; clean = λ clean. absurd (false≢true (sym clean ∙ dirty)); use_is = i.use_is; oldest_is = i.oldest_is; later_is = small }

  pub begun_frame : HoldsPage f → is_waiting f ≡ true → IsFrame uses (begun f)
  begun_frame holds waits = dirty_frame (Begun None) holds (and_parts (is_dirty f) (not (is_begun f.flush)) waits).0 (omega arith)

  -- a page in flight is dirty
  flight_is_dirty : IsInFlight f → is_dirty f ≡ true
  flight_is_dirty flight = by (is_dirty f) refl
    where
      by : (t : Bool) → is_dirty f ≡ t → t ≡ true
      by true e = refl
      by false e = let idle : is_begun f.flush ≡ false = ap is_begun (i.clean e) in absurd (false≢true (sym idle ∙ flight))

  pub failed_frame : HoldsPage f → IsInFlight f → IsFrame uses (failed f)
  failed_frame holds flight = dirty_frame Failed holds (flight_is_dirty flight) (omega arith)

  -- no new page is in flight
  flight_is_made : IsInFlight f → is_fresh f.content ≡ true → ⊥
  flight_is_made flight fresh = false≢true (sym (i.fresh fresh).1 ∙ flight_is_dirty flight)

  pub landed_frame : HoldsPage f → IsInFlight f → IsFrame uses (landed f)
  landed_frame holds flight = record { unused = λ none. absurd (no_page f holds none); used = i.used; fresh = λ fresh. absurd (flight_is_made flight fresh); clean = λ is. refl; use_is = i.use_is; oldest_is = i.later_is; later_is = omega arith }

  pub changed_frame : (entry : Record) (start end : ℕ) → start < NO_NUMBER → HoldsPage f → IsFrame uses (changed entry start end f)
  changed_frame entry start end small holds = record { unused = λ none. absurd (no_page f holds (unmade f.content none)); used = λ name is. i.used name (made_name f.content name is); fresh = λ is. absurd (not_fresh f.content is); clean = λ is. absurd (false≢true (sym is)); use_is = i.use_is; oldest_is = dated f.oldest i.oldest_is; later_is = later f.flush i.later_is }
    where
      unmade : (c : Content) → name_in (made c) ≡ None → name_in c ≡ None
      unmade Unused is = is
      unmade (Fresh name) is = absurd (cc)
      unmade (Held name) is = is
      unmade (Loading name) is = refl

      made_name : (c : Content) (name : PageName) → name_in (made c) ≡ Some name → name_in c ≡ Some name
      made_name Unused name is = is
      made_name (Fresh n) name is = is
      made_name (Held n) name is = is
      made_name (Loading n) name is = is

      not_fresh : (c : Content) → is_fresh (made c) ≡ true → ⊥
      not_fresh Unused is = false≢true is
      not_fresh (Fresh n) is = false≢true is
      not_fresh (Held n) is = false≢true is
      not_fresh (Loading n) is = false≢true is

      dated : (o : Option ℕ) → unwrap_or o 0 < NO_NUMBER → unwrap_or o start < NO_NUMBER
      dated None low = small
      dated (Some x) low = low

      later : (flush : Flush) → unwrap_or (later_in flush) 0 < NO_NUMBER → unwrap_or (later_in (noted start flush)) 0 < NO_NUMBER
      later Idle low = low
      later (Begun o) low = dated o low
      later Failed low = low

-- the frame claims the page that it claimed, or none
abbrev pub KeepsOrLosesPage : Frame → Frame → Type 0
KeepsOrLosesPage old new = (claim_of new ≡ claim_of old) ⊎ (claim_of new ≡ None)

pub unpinned_page : (f : Frame) → KeepsOrLosesPage f (unpinned f)
unpinned_page f = cond_both (is_fresh f.content && (f.pins == 1)) (record f { content = Unused; pins = 0; last_use = 0 }) (record f { pins = f.pins - 1 }) (KeepsOrLosesPage f) (λ is. inr refl) (λ is. inl refl)

-- a change keeps the claim
pub changed_claim : (entry : Record) (start end : ℕ) (f : Frame) → claim_of (changed entry start end f) ≡ claim_of f
changed_claim entry start end f = by f.content
  where
    by : (c : Content) → claim_in (made c) ≡ claim_in c
    by Unused = refl
    by (Fresh name) = refl
    by (Held name) = refl
    by (Loading name) = refl

-- a frame that may go is neither pinned nor dirty, and isn't set aside
pub going_parts : (f : Frame) → may_go f ≡ true → (is_free f ≡ true) × (is_loading f.content ≡ false)
going_parts f may = let parts = and_parts (is_free f) (not (is_loading f.content)) may in (parts.0, no (is_loading f.content) parts.1)
  where
    no : (b : Bool) → not b ≡ true → b ≡ false
    no true is = absurd (false≢true is)
    no false is = refl

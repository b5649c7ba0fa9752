-- The frames of a pool once those that have a page of a space were given up.
use Rattle.std.proofs.Common.{◌≡◌, ◌≢◌, ◌<◌, ◌≤◌, ◌+◌, ◌==◌, ◌&&◌, ◌⊎◌, inl, inr, ℕ, nat_lt, Bool, true, false, not, List, map, set, refl, sym, ap, subst, ◌∙◌, arith, Option, Some, None, if◌then◌else◌}
use Rattle.clone_buffer.proofs.Common.{and_parts, cases_eq, cases_lt, eqb-true, get_or-set_same, get_or-set_other, Image, Frame, PageName, no_frame, frame_at, name_of, claim_of, holder, claimant, Frames, IsPool, with_frame, Shown, frame_in, frame_of}
use Rattle.std.proofs.lemmas.Bool.{lt-ltb, le-ltb, eq-eqb}
use Rattle.std.proofs.lemmas.List.{ext_get_or, length-map, length-set}
use Rattle.std.proofs.Math.ListN.{get_or-map}
use Rattle.clone_pool.specs.Frames.{discarded, is_dirty, is_loading}
use Rattle.clone_pool.proofs.ClaimLemmas.{held_claims, claims_held, claims_loading, loading_holds_none, claims_once}
use Rattle.clone_pool.proofs.PoolLemmas.{claims_apart, claimant_is}
use Rattle.clone_buffer.specs.Dropping.{is_page_below, freed, given_up}
use Rattle.clone_buffer.proofs.FrameLemmas.{holder_name, no_name, some_one, none_some, counted}
use Rattle.clone_buffer.proofs.AroundLemmas.{other_space}

module _ (space pages : ℕ) where
  -- a frame that claims a page still is as before, and the page isn't one of those
  still_freed : (f : Frame) (page : PageName) → claim_of (freed space pages f) ≡ Some page → (freed space pages f ≡ f) × (is_page_below space pages (Some page) ≡ false)
  still_freed f page = by (is_page_below space pages (claim_of f)) refl
    where
      by : (t : Bool) → is_page_below space pages (claim_of f) ≡ t → claim_of (if t then discarded f else f) ≡ Some page → ((if t then discarded f else f) ≡ f) × (is_page_below space pages (Some page) ≡ false)
      by true is name = absurd (no_name page name)
      by false is name = (refl, subst (λ (o : Option PageName). is_page_below space pages o ≡ false) name is)

  pub stays_freed : (f : Frame) (page : PageName) → claim_of f ≡ Some page → is_page_below space pages (Some page) ≡ false → freed space pages f ≡ f
  stays_freed f page name miss = ap (λ (t : Bool). if t then discarded f else f) (ap (is_page_below space pages) name ∙ miss)

  -- frames that show their pages do so still
  pub shown_freed : (image : Image) (f : Frame) → Shown image f.content f.page → Shown image (freed space pages f).content (freed space pages f).page
  shown_freed image f shown = by (is_page_below space pages (claim_of f))
    where
      by : (t : Bool) → Shown image (if t then discarded f else f).content (if t then discarded f else f).page
      by true = tt
      by false = shown

  elsewhere_below : (page : PageName) → page.space ≢ space → is_page_below space pages (Some page) ≡ false
  elsewhere_below page other = ap (λ (t : Bool). t && nat_lt page.number pages) (other_space page.space space (λ same. other (sym same)))

pub freed_at : (space pages : ℕ) (w : Frames) (at : ℕ) → frame_at (given_up space pages w).frames at ≡ freed space pages (frame_at w.frames at)
freed_at space pages w at = get_or-map (freed space pages) w.frames at no_frame

pub left_at : (space pages : ℕ) (w : Frames) (at : ℕ) (page : PageName) → claim_of (frame_at (given_up space pages w).frames at) ≡ Some page → frame_at (given_up space pages w).frames at ≡ frame_at w.frames at
left_at space pages w at page name = freed_at space pages w at ∙ (still_freed space pages (frame_at w.frames at) page (sym (ap claim_of (freed_at space pages w at)) ∙ name)).0

module _ (space pages : ℕ) (w : Frames) (p : IsPool w) (q : IsPool (given_up space pages w)) where
  abbrev left : Frames
  left = given_up space pages w

  stays_at : (at : ℕ) (page : PageName) → page.space ≢ space → name_of (frame_at w.frames at) ≡ Some page → frame_at left.frames at ≡ frame_at w.frames at
  stays_at at page other name = freed_at space pages w at ∙ stays_freed space pages (frame_at w.frames at) page (held_claims (frame_at w.frames at).content page name) (elsewhere_below space pages page other)

  -- a page of another space has its frame still
  pub holder_left : (page : PageName) → page.space ≢ space → holder left.frames page ≡ holder w.frames page
  holder_left page other = by (holder w.frames page) refl (holder left.frames page) refl
    where
      by : (o : Option ℕ) → holder w.frames page ≡ o → (n : Option ℕ) → holder left.frames page ≡ n → holder left.frames page ≡ holder w.frames page
      by (Some at) is n js =
          let name = (holder_name w.frames page at is).1 in
          q.once page at (ap name_of (stays_at at page other name) ∙ name) ∙ sym is
      by None is None js = js ∙ sym is
      by None is (Some at) js =
          let name = (holder_name left.frames page at js).1 in
          absurd (none_some (holder w.frames page) at is (p.once page at (sym (ap name_of (left_at space pages w at page (held_claims (frame_at left.frames at).content page name))) ∙ name)))

  pub frame_left : (s n : ℕ) → s ≢ space → frame_of left.frames s n ≡ frame_of w.frames s n
  frame_left s n other = ap (frame_in left.frames) (holder_left page other) ∙ by (holder w.frames page) refl
    where
      page : PageName
      page = record { space = s; number = n }

      by : (o : Option ℕ) → holder w.frames page ≡ o → frame_in left.frames o ≡ frame_in w.frames o
      by None is = refl
      by (Some at) is = ap counted (stays_at at page other (holder_name w.frames page at is).1)

-- One page more.

lt_next : (a n : ℕ) → a ≢ n → nat_lt a (n + 1) ≡ nat_lt a n
lt_next a n other = by (cases_lt a n)
  where
    by : (a < n) ⊎ (n ≤ a) → nat_lt a (n + 1) ≡ nat_lt a n
    by (inl low) = lt-ltb a (n + 1) (omega (arith, low)) ∙ sym (lt-ltb a n low)
    by (inr high) = le-ltb a (n + 1) (omega (arith, high, other)) ∙ sym (le-ltb a n high)

module _ (space n : ℕ) where
  abbrev page : PageName
  page = record { space = space; number = n }

  below_next : (o : Option PageName) → (o ≡ Some page → ⊥) → is_page_below space (n + 1) o ≡ is_page_below space n o
  below_next None other = refl
  below_next (Some name) other = by (cases_eq name.space space)
    where
      by : (name.space ≡ space) ⊎ (name.space ≢ space) → is_page_below space (n + 1) (Some name) ≡ is_page_below space n (Some name)
      by (inl same) = ap (λ (t : Bool). (name.space == space) && t) (lt_next name.number n (λ number. other (λ i. Some (record { space = same i; number = number i }))))
      by (inr apart) = elsewhere_below space (n + 1) name apart ∙ sym (elsewhere_below space n name apart)

  freed_next : (f : Frame) → (claim_of f ≡ Some page → ⊥) → freed space (n + 1) f ≡ freed space n f
  freed_next f other = ap (λ (t : Bool). if t then discarded f else f) (below_next (claim_of f) other)

  -- the frame of the page goes
  freed_this : (f : Frame) → claim_of f ≡ Some page → freed space (n + 1) f ≡ discarded f
  freed_this f name =
      let own : is_page_below space (n + 1) (Some page) ≡ true = ap (λ (t : Bool). t && nat_lt n (n + 1)) (eq-eqb space space refl) ∙ lt-ltb n (n + 1) (omega arith) in
      ap (λ (t : Bool). if t then discarded f else f) (ap (is_page_below space (n + 1)) name ∙ own)

  -- it wasn't given up before
  not_below : is_page_below space n (Some page) ≡ false
  not_below = ap (λ (t : Bool). t && nat_lt n n) (eq-eqb space space refl) ∙ le-ltb n n (omega arith)

  module _ (w : Frames) (q : IsPool (given_up space n w)) where
    abbrev so_far : Frames
    so_far = given_up space n w

    has_page : (at : ℕ) → claim_of (frame_at w.frames at) ≡ Some page → claimant so_far.frames page ≡ Some at
    has_page at name = claims_once so_far.frames (claims_apart so_far q) page at (ap claim_of (freed_at space n w at ∙ stays_freed space n (frame_at w.frames at) page name not_below) ∙ name)

    pub given_none : claimant so_far.frames page ≡ None → given_up space (n + 1) w ≡ so_far
    given_none none =
        let same = ext_get_or no_frame (map (freed space (n + 1)) w.frames) (map (freed space n) w.frames) (length-map w.frames (freed space (n + 1)) ∙ sym (length-map w.frames (freed space n)))
        (λ at _. freed_at space (n + 1) w at ∙ freed_next (frame_at w.frames at) (λ name. none_some (claimant so_far.frames page) at none (has_page at name)) ∙ sym (freed_at space n w at)) in
        λ i. record w { frames = same i }

    pub given_one : (at : ℕ) → claimant so_far.frames page ≡ Some at → given_up space (n + 1) w ≡ with_frame at discarded so_far
    given_one at held = λ i. record w { frames = same i }
      where
        new : List Frame
        new = set so_far.frames at (discarded (frame_at so_far.frames at))

        this : frame_at so_far.frames at ≡ frame_at w.frames at
        this = left_at space n w at page (claimant_is so_far page at held).claim

        each : (b : ℕ) → (b ≡ at) ⊎ (b ≢ at) → freed space (n + 1) (frame_at w.frames b) ≡ frame_at new b
        each b (inl same) =
            subst (λ (x : ℕ). freed space (n + 1) (frame_at w.frames x) ≡ frame_at new x) (sym same)
            (freed_this (frame_at w.frames at) (sym (ap claim_of this) ∙ (claimant_is so_far page at held).claim) ∙ sym (get_or-set_same so_far.frames at (discarded (frame_at so_far.frames at)) no_frame (claimant_is so_far page at held).within ∙ ap discarded this))
        each b (inr apart) =
            freed_next (frame_at w.frames b) (λ name. apart (some_one (claimant so_far.frames page) b at (has_page b name) held)) ∙ sym (get_or-set_other so_far.frames at b (discarded (frame_at so_far.frames at)) no_frame apart ∙ freed_at space n w b)

        same : map (freed space (n + 1)) w.frames ≡ new
        same =
            ext_get_or no_frame (map (freed space (n + 1)) w.frames) new (length-map w.frames (freed space (n + 1)) ∙ sym (length-set so_far.frames at (discarded (frame_at so_far.frames at)) ∙ length-map w.frames (freed space n)))
            (λ b _. freed_at space (n + 1) w b ∙ each b (cases_eq b at))

-- a frame that is set aside isn't pinned, so one that claims a page isn't if it isn't where it holds the page
pub claimed_free : (w : Frames) → IsPool w → (page : PageName) (at : ℕ) → claim_of (frame_at w.frames at) ≡ Some page → (name_of (frame_at w.frames at) ≡ Some page → (frame_at w.frames at).pins ≡ 0) → (frame_at w.frames at).pins ≡ 0
claimed_free w p page at claim held = by (is_loading (frame_at w.frames at).content) refl
  where
    f : Frame
    f = frame_at w.frames at

    by : (t : Bool) → is_loading f.content ≡ t → f.pins ≡ 0
    by false is = held (claims_held f.content page claim is)
    by true is = eqb-true f.pins 0 (and_parts (f.pins == 0) (not (is_dirty f)) ((p.frame at).unused (loading_holds_none f.content page (claims_loading f.content page claim is))).0).0

-- nothing is given up at first
pub given_nothing : (space : ℕ) (w : Frames) → given_up space 0 w ≡ w
given_nothing space w = λ i. record w { frames = same i }
  where
    nowhere : (o : Option PageName) → is_page_below space 0 o ≡ false
    nowhere None = refl
    nowhere (Some name) = by (name.space == space)
      where
        by : (t : Bool) → (t && nat_lt name.number 0) ≡ false
        by true = le-ltb name.number 0 (omega arith)
        by false = refl

    same : map (freed space 0) w.frames ≡ w.frames
    same = ext_get_or no_frame (map (freed space 0) w.frames) w.frames (length-map w.frames (freed space 0)) (λ at _. freed_at space 0 w at ∙ ap (λ (t : Bool). if t then discarded (frame_at w.frames at) else frame_at w.frames at) (nowhere (claim_of (frame_at w.frames at))))

-- What the frames that claim a page say of those that hold one or are set aside for one.
use Rattle.std.proofs.Common.{◌≡◌, ◌<◌, ℕ, Bool, true, false, List, length, map, Option, Some, None, refl, sym, subst, ◌∙◌, arith}
use Rattle.std.proofs.lemmas.Bool.{false≢true, true≢false}
use Rattle.std.proofs.lemmas.List.{length-map}
use Rattle.std.proofs.Math.ListN.{get_or-map}
use Rattle.clone_pool.specs.declared.frame.Frame.{Frame}
use Rattle.clone_pool.specs.declared.frame.Content.{Content}
use Rattle.clone_pool.specs.declared.frame.Content.TheVariants.{Unused, Fresh, Held, Loading}
use Rattle.clone_pool.specs.declared.frame.PageName.{PageName}
use Rattle.clone_pool.specs.Frames.{no_frame, frame_at, name_in, name_of, loading_in, loading_of, claim_in, claim_of, holder, loader, claimant, is_loading, left_in}
use Rattle.clone_pool.proofs.NameLemmas.{name_at, AreOnce, found_at, found_name}

-- a frame that holds a page claims it, and so does one that is set aside for it
pub held_claims : (c : Content) (page : PageName) → name_in c ≡ Some page → claim_in c ≡ Some page
held_claims Unused page is = is
held_claims (Fresh name) page is = is
held_claims (Held name) page is = is
held_claims (Loading name) page is = absurd (cc)

pub loading_claims : (c : Content) (page : PageName) → loading_in c ≡ Some page → claim_in c ≡ Some page
loading_claims Unused page is = is
loading_claims (Fresh name) page is = absurd (cc)
loading_claims (Held name) page is = absurd (cc)
loading_claims (Loading name) page is = is

-- a frame that claims a page is set aside for it, or else it holds it
pub claims_held : (c : Content) (page : PageName) → claim_in c ≡ Some page → is_loading c ≡ false → name_in c ≡ Some page
claims_held Unused page is not_loading = is
claims_held (Fresh name) page is not_loading = is
claims_held (Held name) page is not_loading = is
claims_held (Loading name) page is not_loading = absurd (true≢false not_loading)

pub claims_loading : (c : Content) (page : PageName) → claim_in c ≡ Some page → is_loading c ≡ true → loading_in c ≡ Some page
claims_loading Unused page is loading = absurd (false≢true loading)
claims_loading (Fresh name) page is loading = absurd (false≢true loading)
claims_loading (Held name) page is loading = absurd (false≢true loading)
claims_loading (Loading name) page is loading = is

-- a frame that is set aside holds no page
pub loading_holds_none : (c : Content) (page : PageName) → loading_in c ≡ Some page → name_in c ≡ None
loading_holds_none Unused page is = refl
loading_holds_none (Fresh name) page is = absurd (cc)
loading_holds_none (Held name) page is = absurd (cc)
loading_holds_none (Loading name) page is = refl

-- so does one into which a read failed
pub left_holds_none : (c : Content) → name_in (left_in c) ≡ None
left_holds_none Unused = refl
left_holds_none (Fresh name) = refl
left_holds_none (Held name) = refl
left_holds_none (Loading name) = refl

pub left_loading : (c : Content) (page : PageName) → loading_in c ≡ Some page → left_in c ≡ c
left_loading Unused page is = absurd (cc)
left_loading (Fresh name) page is = absurd (cc)
left_loading (Held name) page is = absurd (cc)
left_loading (Loading name) page is = refl

pub left_claims_none : (c : Content) → is_loading c ≡ false → claim_in (left_in c) ≡ None
left_claims_none Unused is = refl
left_claims_none (Fresh name) is = refl
left_claims_none (Held name) is = refl
left_claims_none (Loading name) is = absurd (true≢false is)

no_name : (page : PageName) → None ≡ Some page → ⊥
no_name page is = cc

pub none_some : (o : Option ℕ) (at : ℕ) → o ≡ None → o ≡ Some at → ⊥
none_some o at x y = cc

-- what isn't found is none
pub none_found : (o : Option ℕ) → ((at : ℕ) → o ≡ Some at → ⊥) → o ≡ None
none_found None other = refl
none_found (Some at) other = absurd (other at refl)

abbrev content_at : List Frame → ℕ → Content
content_at frames at = (frame_at frames at).content

-- a frame that is found holds the page, or is set aside for it, or claims it
pub holder_name : (frames : List Frame) (page : PageName) (at : ℕ) → holder frames page ≡ Some at → name_of (frame_at frames at) ≡ Some page
holder_name frames page at is = sym (get_or-map name_of frames at no_frame) ∙ (found_name page (map name_of frames) at is).1

pub loader_name : (frames : List Frame) (page : PageName) (at : ℕ) → loader frames page ≡ Some at → loading_of (frame_at frames at) ≡ Some page
loader_name frames page at is = sym (get_or-map loading_of frames at no_frame) ∙ (found_name page (map loading_of frames) at is).1

pub claimant_name : (frames : List Frame) (page : PageName) (at : ℕ) → claimant frames page ≡ Some at → claim_of (frame_at frames at) ≡ Some page
claimant_name frames page at is = sym (get_or-map claim_of frames at no_frame) ∙ (found_name page (map claim_of frames) at is).1

-- a loader is one of the frames
pub loader_at : (frames : List Frame) (page : PageName) (at : ℕ) → loader frames page ≡ Some at → (at < length frames) × (loading_of (frame_at frames at) ≡ Some page)
loader_at frames page at is = (omega (arith, (found_name page (map loading_of frames) at is).0, length-map frames loading_of), loader_name frames page at is)

-- NO TWO FRAMES CLAIM ONE PAGE
module _ (frames : List Frame) (once : AreOnce (map claim_of frames)) where
  same_frame : (page : PageName) (i j : ℕ) → claim_of (frame_at frames i) ≡ Some page → claim_of (frame_at frames j) ≡ Some page → i ≡ j
  same_frame page i j is js = once page i j (get_or-map claim_of frames i no_frame ∙ is) (get_or-map claim_of frames j no_frame ∙ js)

  pub claims_once : (page : PageName) (at : ℕ) → claim_of (frame_at frames at) ≡ Some page → claimant frames page ≡ Some at
  claims_once page at is = found_at (map claim_of frames) once page at (get_or-map claim_of frames at no_frame ∙ is)

  names_once : AreOnce (map name_of frames)
  names_once page i j is js = same_frame page i j (held_claims (content_at frames i) page (sym (get_or-map name_of frames i no_frame) ∙ is)) (held_claims (content_at frames j) page (sym (get_or-map name_of frames j no_frame) ∙ js))

  loadings_once : AreOnce (map loading_of frames)
  loadings_once page i j is js = same_frame page i j (loading_claims (content_at frames i) page (sym (get_or-map loading_of frames i no_frame) ∙ is)) (loading_claims (content_at frames j) page (sym (get_or-map loading_of frames j no_frame) ∙ js))

  pub holds_once : (page : PageName) (at : ℕ) → name_of (frame_at frames at) ≡ Some page → holder frames page ≡ Some at
  holds_once page at is = found_at (map name_of frames) names_once page at (get_or-map name_of frames at no_frame ∙ is)

  pub loads_once : (page : PageName) (at : ℕ) → loading_of (frame_at frames at) ≡ Some page → (holder frames page ≡ None) × (loader frames page ≡ Some at)
  loads_once page at is = (none_found (holder frames page) clash, found_at (map loading_of frames) loadings_once page at (get_or-map loading_of frames at no_frame ∙ is))
    where
      clash : (k : ℕ) → holder frames page ≡ Some k → ⊥
      clash k found =
          let name = holder_name frames page k found in
          let same = same_frame page k at (held_claims (content_at frames k) page name) (loading_claims (content_at frames at) page is) in
          let none = loading_holds_none (content_at frames at) page is in
          no_name page (sym none ∙ subst (λ (z : ℕ). name_of (frame_at frames z) ≡ Some page) same name)

  -- a page that no frame claims has no holder and no loader
  pub unclaimed : (page : PageName) → claimant frames page ≡ None → (holder frames page ≡ None) × (loader frames page ≡ None)
  unclaimed page none = (
    none_found (holder frames page) (λ k found. clash k (held_claims (content_at frames k) page (holder_name frames page k found))),
    none_found (loader frames page) (λ k found. clash k (loading_claims (content_at frames k) page (loader_name frames page k found))),
  )
    where
      clash : (k : ℕ) → claim_of (frame_at frames k) ≡ Some page → ⊥
      clash k is = none_some (claimant frames page) k none (claims_once page k is)

  -- a page that a frame claims is held there, or the frame is set aside for it
  pub held_at : (page : PageName) (at : ℕ) → claimant frames page ≡ Some at → is_loading (content_at frames at) ≡ false → (holder frames page ≡ Some at) × (loader frames page ≡ None)
  held_at page at is not_loading = (here, none_found (loader frames page) clash)
    where
      here : holder frames page ≡ Some at
      here = holds_once page at (claims_held (content_at frames at) page (claimant_name frames page at is) not_loading)

      clash : (k : ℕ) → loader frames page ≡ Some k → ⊥
      clash k found = none_some (holder frames page) at (loads_once page k (loader_name frames page k found)).0 here

  pub loading_at : (page : PageName) (at : ℕ) → claimant frames page ≡ Some at → is_loading (content_at frames at) ≡ true → (holder frames page ≡ None) × (loader frames page ≡ Some at)
  loading_at page at is loading = loads_once page at (claims_loading (content_at frames at) page (claimant_name frames page at is) loading)

-- a page without holder and loader is claimed by no frame
pub no_claimant : (frames : List Frame) (page : PageName) → holder frames page ≡ None → loader frames page ≡ None → AreOnce (map claim_of frames) → claimant frames page ≡ None
no_claimant frames page no_holder no_loader once = none_found (claimant frames page) (λ at is. by at is (is_loading (content_at frames at)) refl)
  where
    by : (at : ℕ) → claimant frames page ≡ Some at → (b : Bool) → is_loading (content_at frames at) ≡ b → ⊥
    by at is false e = none_some (holder frames page) at no_holder (held_at frames once page at is e).0
    by at is true e = none_some (loader frames page) at no_loader (loading_at frames once page at is e).1

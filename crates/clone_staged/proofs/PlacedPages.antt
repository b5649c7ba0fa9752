-- Pages that may stand at their place.
use Rattle.std.proofs.Common.{◌≡◌, ℕ, List, sym, subst, Some, inl}
use Rattle.clone_mtr.specs.declared.record.Record.{Record}
use Rattle.clone_image.specs.Redone.{Standing, no_space, past_end, stands}
use Rattle.clone_contents.specs.Placed.{IsPlaced, WasPlaced}
use Rattle.clone_law.specs.Since.{Since, AllFit}
use Rattle.clone_law.specs.Starts.{Gives}
use Rattle.clone_law.specs.Touches.{Lax}
use Rattle.clone_law.proofs.RedoLemmas.{since_redone}
use Rattle.clone_overlay.specs.Shown.{IsPage}
use Rattle.clone_overlay.proofs.OverlayImageLemmas.{page_standing}

pub page_placed : (s n : ℕ) (v : Standing) (page : List ℕ) → page_standing v ≡ Some page → IsPlaced s n v → IsPage s n page
page_placed s n no_space page is placed = absurd (cc)
page_placed s n past_end page is placed = absurd (cc)
page_placed s n (stands bytes) page is placed = subst (IsPage s n) (let same : bytes ≡ page = cc in same) placed

-- nothing or a zero page where there is none
placed_lax : (s n : ℕ) (u v : Standing) → Lax u v → IsPlaced s n v → IsPlaced s n u
placed_lax s n no_space v lax placed = tt
placed_lax s n past_end v lax placed = tt
placed_lax s n (stands page) no_space lax placed = inl lax
placed_lax s n (stands page) past_end lax placed = inl lax
placed_lax s n (stands page) (stands other) lax placed = subst (IsPlaced s n) (sym lax) placed

-- A page as it was at a moment that isn't before the base is one from which redo may start.
pub may_start : (s n base : ℕ) (u : Standing) (log : List (List Record)) → AllFit s n log → WasPlaced s n log → Since s n base u log → Gives s n base log u × IsPlaced s n u
may_start s n base u log fits was since = (λ front rest split moment. since_redone s n base u log front rest fits since split moment, placed_lax s n u _ since.was (was since.before since.behind since.split))

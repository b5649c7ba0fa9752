-- What the calls keep of a pool.
use Rattle.std.proofs.Common.{◌≡◌, ◌≢◌, ◌<◌, ◌≤◌, ◌^◌, ◌⊎◌, inl, inr, ℕ, zero, suc, ◌==◌, Bool, true, false, not, Option, MatchOption, ◌∷◌, List, length, set, map, refl, sym, ap, subst, ◌∙◌, arith, Some, None, replicate}
use Rattle.std.proofs.Math.Seq.{map-set_same}
use Rattle.std.proofs.lemmas.Bool.{and_parts, eqb-true, cases_eq, cases_lt, false≢true}
use Rattle.std.proofs.lemmas.List.{length-set, length-map, get_or-set_same, get_or-set_other, get_or_past, get_or-replicate, length-replicate, map-set}
use Rattle.std.proofs.Math.ListN.{get_or-map}
use Rattle.clone_pool.specs.declared.frame.Frame.{Frame}
use Rattle.clone_pool.specs.declared.frame.PageName.{PageName}
use Rattle.clone_pool.specs.declared.orders.Orders.{Orders}
use Rattle.clone_pool.specs.declared.tournament.TheConstants.{NO_NUMBER}
use Rattle.clone_pool.specs.Frames.{no_frame, frame_at, name_of, loading_of, claim_of, claim_in, left_in, emptied, is_dirty, HoldsPage, ClaimsPage, holder, loader, claimant, is_free, is_loading}
use Rattle.clone_pool.specs.Orders.{orders_of, refreshed, used_again, use_rank, age_rank}
use Rattle.clone_pool.specs.Pool.{Frames, IsPool, IsKept, IsFrame, IsFrameFor, IsVictim, IsHolder, IsClaimant}
use Rattle.clone_pool.proofs.NameLemmas.{name_at, AreOnce, found_at, found_name, once_set}
use Rattle.clone_pool.proofs.ClaimLemmas.{none_some, loader_at, loading_claims, claims_held, claims_loading, loading_holds_none, left_loading, left_claims_none, no_claimant, unclaimed, held_at, loading_at, loader_name, claimant_name, holds_once, loads_once}
use Rattle.clone_pool.proofs.FrameLemmas.{KeepsOrLosesPage, more_uses, unused_frame, going_parts}

-- a frame that holds a page or claims one is one of the frames
pub within : (frames : List Frame) (at : ℕ) → HoldsPage (frame_at frames at) → at < length frames
within frames at holds = by (cases_lt at (length frames))
  where
    by : (at < length frames) ⊎ (length frames ≤ at) → at < length frames
    by (inl low) = low
    by (inr past) = absurd (false≢true (subst HoldsPage (get_or_past frames at no_frame past) holds))

pub claims_within : (frames : List Frame) (at : ℕ) → ClaimsPage (frame_at frames at) → at < length frames
claims_within frames at claims = by (cases_lt at (length frames))
  where
    by : (at < length frames) ⊎ (length frames ≤ at) → at < length frames
    by (inl low) = low
    by (inr past) = absurd (false≢true (subst ClaimsPage (get_or_past frames at no_frame past) claims))

name_is : (frames : List Frame) (at : ℕ) → name_at (map name_of frames) at ≡ name_of (frame_at frames at)
name_is frames at = get_or-map name_of frames at no_frame

some_one : (o : Option ℕ) (a b : ℕ) → o ≡ Some a → o ≡ Some b → a ≡ b
some_one o a b x y = cc

-- no two frames claim one page
pub claims_apart : (v : Frames) → IsPool v → AreOnce (map claim_of v.frames)
claims_apart v p page i j is js = by (is_loading (frame_at v.frames i).content) (is_loading (frame_at v.frames j).content) refl refl
  where
    first : claim_of (frame_at v.frames i) ≡ Some page
    first = sym (get_or-map claim_of v.frames i no_frame) ∙ is

    second : claim_of (frame_at v.frames j) ≡ Some page
    second = sym (get_or-map claim_of v.frames j no_frame) ∙ js

    held : (k : ℕ) → claim_of (frame_at v.frames k) ≡ Some page → is_loading (frame_at v.frames k).content ≡ false → holder v.frames page ≡ Some k
    held k claim apart = p.once page k (claims_held (frame_at v.frames k).content page claim apart)

    loads : (k : ℕ) → claim_of (frame_at v.frames k) ≡ Some page → is_loading (frame_at v.frames k).content ≡ true → (holder v.frames page ≡ None) × (loader v.frames page ≡ Some k)
    loads k claim loading = p.loads page k (claims_loading (frame_at v.frames k).content page claim loading)

    by : (a b : Bool) → is_loading (frame_at v.frames i).content ≡ a → is_loading (frame_at v.frames j).content ≡ b → i ≡ j
    by false false a b = some_one (holder v.frames page) i j (held i first a) (held j second b)
    by false true a b = absurd (none_some (holder v.frames page) i (loads j second b).0 (held i first a))
    by true false a b = absurd (none_some (holder v.frames page) j (loads i first a).0 (held j second b))
    by true true a b = some_one (loader v.frames page) i j (loads i first a).1 (loads j second b).1

-- what is found holds the page
pub holder_is : (v : Frames) → IsPool v → (page : PageName) (at : ℕ) → holder v.frames page ≡ Some at → IsHolder page v.frames at
holder_is v p page at is =
    let found = found_name page (map name_of v.frames) at is in
    record { within = omega (arith, found.0, length-map v.frames name_of); name = sym (name_is v.frames at) ∙ found.1; holder = is }

-- and so does a frame that claims it
pub claimant_is : (v : Frames) (page : PageName) (at : ℕ) → claimant v.frames page ≡ Some at → IsClaimant page v.frames at
claimant_is v page at is =
    let found = found_name page (map claim_of v.frames) at is in
    record { within = omega (arith, found.0, length-map v.frames claim_of); claim = claimant_name v.frames page at is; claimant = is }

-- a page that no frame claims, one that is held, and one that is loaded
pub claim_none : (v : Frames) → IsPool v → (page : PageName) → claimant v.frames page ≡ None → (holder v.frames page ≡ None) × (loader v.frames page ≡ None)
claim_none v p page none = unclaimed v.frames (claims_apart v p) page none

pub claim_held : (v : Frames) → IsPool v → (page : PageName) (at : ℕ) → claimant v.frames page ≡ Some at → is_loading (frame_at v.frames at).content ≡ false → (holder v.frames page ≡ Some at) × (loader v.frames page ≡ None)
claim_held v p page at is held = held_at v.frames (claims_apart v p) page at is held

pub claim_loading : (v : Frames) → IsPool v → (page : PageName) (at : ℕ) → claimant v.frames page ≡ Some at → is_loading (frame_at v.frames at).content ≡ true → (holder v.frames page ≡ None) × (loader v.frames page ≡ Some at)
claim_loading v p page at is loading = loading_at v.frames (claims_apart v p) page at is loading

-- the frame for a page that has none: its loader, or one that makes way
pub own_frame : (v : Frames) → IsPool v → (page : PageName) (at : ℕ) → loader v.frames page ≡ Some at → IsFrameFor page v.frames at
own_frame v p page at is =
    let found = loader_at v.frames page at is in
    record {
      within = found.0;
      free = ((p.frame at).unused (loading_holds_none (frame_at v.frames at).content page found.1)).0;
      which = subst (λ (o : Option ℕ). MatchOption o (IsVictim v.frames at) (λ own. at ≡ own)) (sym is) refl;
    }

pub victim_frame : (v : Frames) (page : PageName) (at : ℕ) → loader v.frames page ≡ None → IsVictim v.frames at → IsFrameFor page v.frames at
victim_frame v page at none victim = record {
  within = victim.within;
  free = (going_parts (frame_at v.frames at) victim.free).0;
  which = subst (λ (o : Option ℕ). MatchOption o (IsVictim v.frames at) (λ own. at ≡ own)) (sym none) victim;
}

module _ (v : Frames) (p : IsPool v) (at : ℕ) (low : at < length v.frames) (uses : ℕ) (more : v.uses ≤ uses) (few : uses < NO_NUMBER) (f : Frame) (fine : IsFrame uses f) where
  pool_of : AreOnce (map claim_of (set v.frames at f)) → IsPool (record { frames = set v.frames at f; uses = uses; missed = v.missed })
  pool_of once = record {
    count = omega (arith, p.count, length-set v.frames at f);
    uses = few;
    frame = λ b. by b (cases_eq b at);
    once = holds_once (set v.frames at f) once;
    loads = loads_once (set v.frames at f) once;
  }
    where
      by : (b : ℕ) → (b ≡ at) ⊎ (b ≢ at) → IsFrame uses (frame_at (set v.frames at f) b)
      by b (inl e) = subst (λ (z : ℕ). IsFrame uses (frame_at (set v.frames at f) z)) (sym e) (subst (IsFrame uses) (sym (get_or-set_same v.frames at f no_frame low)) fine)
      by b (inr other) = subst (IsFrame uses) (sym (get_or-set_other v.frames at b f no_frame other)) (more_uses v.uses (frame_at v.frames b) (p.frame b) uses more)

  -- the frame claims the page that it claimed
  pub same_page : claim_of f ≡ claim_of (frame_at v.frames at) → IsPool (record { frames = set v.frames at f; uses = uses; missed = v.missed })
  same_page same = pool_of (subst AreOnce (sym (map-set_same claim_of v.frames at f no_frame same)) (claims_apart v p))

  -- the frame claims a page that had none, or no page
  pub new_page : ((page : PageName) → claim_of f ≡ Some page → claimant v.frames page ≡ None) → IsPool (record { frames = set v.frames at f; uses = uses; missed = v.missed })
  new_page new = pool_of (subst AreOnce (sym (map-set claim_of v.frames at f)) (once_set (map claim_of v.frames) at (claim_of f) (omega (arith, length-map v.frames claim_of)) (claims_apart v p) new))

-- they are refreshed with a frame
pub orders_set : (frames : List Frame) (orders orders' : Orders) (at : ℕ) (f : Frame) (read : List Frame) → at < length frames → orders ≡ orders_of frames → read ≡ set frames at f → orders' ≡ refreshed at (frame_at read at) orders → orders' ≡ orders_of (set frames at f)
orders_set frames orders orders' at f read low was is new =
    let here : frame_at read at ≡ f = ap (λ (fs : List Frame). frame_at fs at) is ∙ get_or-set_same frames at f no_frame low in
    let parts : orders_of (set frames at f) ≡ refreshed at f (orders_of frames) = λ i. record { names = map-set claim_of frames at f i; going = map-set use_rank frames at f i; dirty = map-set age_rank frames at f i } in
    new ∙ ap (λ (x : Frame). refreshed at x orders) here ∙ ap (refreshed at f) was ∙ sym parts

-- the orders of frames of which one claims the page and the oldest change that it had
same_orders : (frames : List Frame) (at : ℕ) (f : Frame) → claim_of f ≡ claim_of (frame_at frames at) → age_rank f ≡ age_rank (frame_at frames at) → orders_of (set frames at f) ≡ record (orders_of frames) { going = map use_rank (set frames at f) }
same_orders frames at f name age = λ i. record { names = map-set_same claim_of frames at f no_frame name i; going = map use_rank (set frames at f); dirty = map-set_same age_rank frames at f no_frame age i }

-- they are refreshed with its use alone
pub orders_used : (frames : List Frame) (orders orders' : Orders) (at : ℕ) (f : Frame) (read : List Frame) → at < length frames → orders ≡ orders_of frames → claim_of f ≡ claim_of (frame_at frames at) → age_rank f ≡ age_rank (frame_at frames at) → read ≡ set frames at f → orders' ≡ used_again at (frame_at read at) orders → orders' ≡ orders_of (set frames at f)
orders_used frames orders orders' at f read low was name age is new =
    let here : frame_at read at ≡ f = ap (λ (fs : List Frame). frame_at fs at) is ∙ get_or-set_same frames at f no_frame low in
    new ∙ ap (λ (x : Frame). used_again at x orders) here ∙ ap (used_again at f) was
    ∙ ap (λ ranks. record (orders_of frames) { going = ranks }) (sym (map-set use_rank frames at f)) ∙ sym (same_orders frames at f name age)

-- and not at all where its use is the same too
pub orders_kept : (frames : List Frame) (orders : Orders) (at : ℕ) (f : Frame) → orders ≡ orders_of frames → claim_of f ≡ claim_of (frame_at frames at) → use_rank f ≡ use_rank (frame_at frames at) → age_rank f ≡ age_rank (frame_at frames at) → orders ≡ orders_of (set frames at f)
orders_kept frames orders at f was name rank age = was ∙ ap (λ ranks. record (orders_of frames) { going = ranks }) (sym (map-set_same use_rank frames at f no_frame rank)) ∙ sym (same_orders frames at f name age)

-- a frame is used or pinned, and claims the page and the oldest change that it had
pub used_frame : (v : Frames) (orders orders' : Orders) (k : IsKept v orders) (at uses : ℕ) (f : Frame) (read : List Frame) → at < length v.frames → v.uses ≤ uses → uses < NO_NUMBER → IsFrame uses f → claim_of f ≡ claim_of (frame_at v.frames at) → age_rank f ≡ age_rank (frame_at v.frames at)
    → read ≡ set v.frames at f → orders' ≡ used_again at (frame_at read at) orders → IsKept (record { frames = set v.frames at f; uses = uses; missed = v.missed }) orders'
used_frame v orders orders' k at uses f read low more few fine name age is new = record {
  pool = same_page v k.pool at low uses more few f fine name;
  orders_is = orders_used v.frames orders orders' at f read low k.orders_is name age is new;
}

-- a frame is edited, and nothing of it is ranked anew
pub unranked_frame : (v : Frames) (orders : Orders) (k : IsKept v orders) (at : ℕ) (f : Frame) → at < length v.frames → IsFrame v.uses f → claim_of f ≡ claim_of (frame_at v.frames at) → use_rank f ≡ use_rank (frame_at v.frames at) → age_rank f ≡ age_rank (frame_at v.frames at) → IsKept (record { frames = set v.frames at f; uses = v.uses; missed = v.missed }) orders
unranked_frame v orders k at f low fine name rank age = record {
  pool = same_page v k.pool at low v.uses (omega arith) k.pool.uses f fine name;
  orders_is = orders_kept v.frames orders at f k.orders_is name rank age;
}

-- a frame is edited, and claims the page that it claimed
pub edited : (v : Frames) (orders orders' : Orders) (k : IsKept v orders) (at uses : ℕ) (f : Frame) (read : List Frame) → at < length v.frames → v.uses ≤ uses → uses < NO_NUMBER → IsFrame uses f → claim_of f ≡ claim_of (frame_at v.frames at)
    → read ≡ set v.frames at f → orders' ≡ refreshed at (frame_at read at) orders → IsKept (record { frames = set v.frames at f; uses = uses; missed = v.missed }) orders'
edited v orders orders' k at uses f read low more few fine same is new = record {
  pool = same_page v k.pool at low uses more few f fine same;
  orders_is = orders_set v.frames orders orders' at f read low k.orders_is is new;
}

-- a frame is edited, and claims a page that had none, or no page
pub replaced : (v : Frames) (orders orders' : Orders) (k : IsKept v orders) (at uses : ℕ) (f : Frame) (read : List Frame) → at < length v.frames → v.uses ≤ uses → uses < NO_NUMBER → IsFrame uses f → ((page : PageName) → claim_of f ≡ Some page → claimant v.frames page ≡ None)
    → read ≡ set v.frames at f → orders' ≡ refreshed at (frame_at read at) orders → IsKept (record { frames = set v.frames at f; uses = uses; missed = v.missed }) orders'
replaced v orders orders' k at uses f read low more few fine free is new = record {
  pool = new_page v k.pool at low uses more few f fine free;
  orders_is = orders_set v.frames orders orders' at f read low k.orders_is is new;
}

-- a frame is edited, and claims the page that it claimed, or none
pub shrunk : (v : Frames) (orders orders' : Orders) (k : IsKept v orders) (at : ℕ) (f : Frame) (read : List Frame) → at < length v.frames → IsFrame v.uses f → KeepsOrLosesPage (frame_at v.frames at) f
    → read ≡ set v.frames at f → orders' ≡ refreshed at (frame_at read at) orders → IsKept (record { frames = set v.frames at f; uses = v.uses; missed = v.missed }) orders'
shrunk v orders orders' k at f read low fine (inl same) is new = edited v orders orders' k at v.uses f read low (omega arith) k.pool.uses fine same is new
shrunk v orders orders' k at f read low fine (inr none) is new = replaced v orders orders' k at v.uses f read low (omega arith) k.pool.uses fine (λ page some. let no : None ≡ Some page = sym none ∙ some in absurd (cc)) is new

-- the page of a frame is one that no frame claimed
pub other_page : (v : Frames) (f : Frame) (name : PageName) → claim_of f ≡ Some name → claimant v.frames name ≡ None → (page : PageName) → claim_of f ≡ Some page → claimant v.frames page ≡ None
other_page v f name is new page also = let same : name ≡ page = cc in subst (λ (n : PageName). claimant v.frames n ≡ None) same new

-- the frame for a page that has none claims the page
pub received : (v : Frames) (orders orders' : Orders) (k : IsKept v orders) (page : PageName) (at uses : ℕ) (f : Frame) (read : List Frame) → IsFrameFor page v.frames at → holder v.frames page ≡ None → claim_of f ≡ Some page → v.uses ≤ uses → uses < NO_NUMBER → IsFrame uses f
    → read ≡ set v.frames at f → orders' ≡ refreshed at (frame_at read at) orders → IsKept (record { frames = set v.frames at f; uses = uses; missed = v.missed }) orders'
received v orders orders' k page at uses f read for new claim more few fine is refreshed = by (loader v.frames page) refl for.which
  where
    low : at < length v.frames
    low = for.within

    by : (o : Option ℕ) → loader v.frames page ≡ o → MatchOption o (IsVictim v.frames at) (λ own. at ≡ own) → IsKept (record { frames = set v.frames at f; uses = uses; missed = v.missed }) orders'
    by None e victim = replaced v orders orders' k at uses f read low more few fine (other_page v f page claim (no_claimant v.frames page new e (claims_apart v k.pool))) is refreshed
    by (Some own) e same = edited v orders orders' k at uses f read low more few fine (claim ∙ sym (loading_claims (frame_at v.frames at).content page (loader_name v.frames page at (e ∙ ap Some (sym same))))) is refreshed

-- or it has no page after a fault
pub left_empty : (v : Frames) (orders orders' : Orders) (k : IsKept v orders) (page : PageName) (at : ℕ) (bytes : List ℕ) (f : Frame) (read : List Frame) → IsFrameFor page v.frames at → f ≡ emptied bytes (frame_at v.frames at) → IsFrame v.uses f
    → read ≡ set v.frames at f → orders' ≡ refreshed at (frame_at read at) orders → IsKept (record { frames = set v.frames at f; uses = v.uses; missed = v.missed }) orders'
left_empty v orders orders' k page at bytes f read for empty fine is refreshed = by (loader v.frames page) refl for.which
  where
    content : f.content ≡ left_in (frame_at v.frames at).content
    content = ap (λ (g : Frame). g.content) empty

    by : (o : Option ℕ) → loader v.frames page ≡ o → MatchOption o (IsVictim v.frames at) (λ own. at ≡ own) → IsKept (record { frames = set v.frames at f; uses = v.uses; missed = v.missed }) orders'
    by None e victim = shrunk v orders orders' k at f read victim.within fine (inr (ap claim_in content ∙ left_claims_none (frame_at v.frames at).content (going_parts (frame_at v.frames at) victim.free).1)) is refreshed
    by (Some own) e same = shrunk v orders orders' k at f read for.within fine (inl (ap claim_in (content ∙ left_loading (frame_at v.frames at).content page (loader_name v.frames page at (e ∙ ap Some (sym same)))))) is refreshed

-- a loader isn't pinned
pub loader_loose : (v : Frames) → IsPool v → (page : PageName) (at : ℕ) → loader v.frames page ≡ Some at → (frame_at v.frames at).pins ≡ 0
loader_loose v p page at is = eqb-true (frame_at v.frames at).pins 0 (and_parts ((frame_at v.frames at).pins == 0) (not (is_dirty (frame_at v.frames at))) (own_frame v p page at is).free).0

-- whatever page was missed last
pub missed_kept : (v : Frames) (orders : Orders) → IsKept v orders → (missed : Option PageName) → IsKept (record { frames = v.frames; uses = v.uses; missed = missed }) orders
missed_kept v orders k missed = record { pool = record { count = k.pool.count; uses = k.pool.uses; frame = k.pool.frame; once = k.pool.once; loads = k.pool.loads }; orders_is = k.orders_is }

-- a frame that has the page is its holder
holds_at : (v : Frames) → IsPool v → (page : PageName) (at : ℕ) → at < length v.frames → name_of (frame_at v.frames at) ≡ Some page → IsHolder page v.frames at
holds_at v p page at low is = record { within = low; name = is; holder = p.once page at is }

-- so it is once its frame was edited, or taken for the page
pub set_holder : (old : List Frame) (new : Frames) (f : Frame) (page : PageName) (at : ℕ) → at < length old → new.frames ≡ set old at f → name_of f ≡ Some page → IsPool new → IsHolder page new.frames at
set_holder old new f page at low is name p =
    holds_at new p page at (omega (arith, low, ap length is, length-set old at f)) (ap (λ (fs : List Frame). name_of (frame_at fs at)) is ∙ ap name_of (get_or-set_same old at f no_frame low) ∙ name)

-- frames without pages
pub map_all : {Y : Type 0} (f : Frame → Y) (n : ℕ) (x : Frame) → map f (replicate n x) ≡ replicate n (f x)
map_all f zero x = refl
map_all f (suc n) x = ap (λ ys. f x ∷ ys) (map_all f n x)

all_unused : (n at : ℕ) → frame_at (replicate n no_frame) at ≡ no_frame
all_unused n at = by (cases_lt at n)
  where
    by : (at < n) ⊎ (n ≤ at) → frame_at (replicate n no_frame) at ≡ no_frame
    by (inl low) = get_or-replicate n at no_frame no_frame low
    by (inr past) = get_or_past (replicate n no_frame) at no_frame (omega (arith, length-replicate n no_frame))

-- a pool that was made
pub made : (n : ℕ) → n < 2 ^ 32 → IsKept (record { frames = replicate n no_frame; uses = 0; missed = None }) (orders_of (replicate n no_frame))
made n small = record {
  pool = record {
    count = omega (arith, length-replicate n no_frame);
    uses = omega arith;
    frame = λ at. subst (IsFrame 0) (sym (all_unused n at)) (unused_frame 0);
    once = λ page at is. let none : name_of (frame_at (replicate n no_frame) at) ≡ None = ap name_of (all_unused n at) in let no : None ≡ Some page = sym none ∙ is in absurd (cc);
    loads = λ page at is. let none : loading_of (frame_at (replicate n no_frame) at) ≡ None = ap loading_of (all_unused n at) in let no : None ≡ Some page = sym none ∙ is in absurd (cc);
  };
  orders_is = refl;
}

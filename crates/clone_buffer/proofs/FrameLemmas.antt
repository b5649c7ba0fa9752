-- The frame of each page, once one frame has changed.
use Rattle.std.proofs.Common.{◌≡◌, ◌<◌, ◌⊎◌, inl, inr, ℕ, Bool, true, false, List, length, map, set, refl, sym, ap, subst, ◌∙◌, arith, Option, Some, None, IsSome, is_some, if◌then◌else◌}
use Rattle.clone_buffer.proofs.Common.{false≢true, true≢false, get_or-set_same, get_or-set_other, Frame, PageName, is_name_of, no_frame, frame_at, name_of, is_fresh, holder, Frames, IsPool, KeepsOthers, named, is_own_name, frame_in}
use Rattle.std.proofs.lemmas.List.{get_or-map, length-map}
use Rattle.clone_pool.specs.Pool.{IsFrame}
use Rattle.clone_pool.proofs.NameLemmas.{found_name}
use Rattle.clone_buffer.specs.OnePage.{oldest_in, flush_in}

-- the frame that is found has the page
pub holder_name : (frames : List Frame) (page : PageName) (at : ℕ) → holder frames page ≡ Some at
    → (at < length frames) × (name_of (frame_at frames at) ≡ Some page)
holder_name frames page at is =
    let found = found_name page (map name_of frames) at is in
    let low : at < length frames = omega (arith, found.0, length-map frames name_of) in
    (low, sym (get_or-map name_of frames at no_frame None low) ∙ found.1)

-- a name is this page's, or it isn't
pub is_named : (page : PageName) (name : Option PageName) → (name ≡ Some page) ⊎ (name ≡ Some page → ⊥)
is_named page name = by (is_name_of page name) refl
  where
    by : (b : Bool) → is_name_of page name ≡ b → (name ≡ Some page) ⊎ (name ≡ Some page → ⊥)
    by true is = inl (named page name is)
    by false is = inr (λ same. absurd (true≢false (sym (is_own_name page) ∙ sym (ap (is_name_of page) same) ∙ is)))

pub some_name : (a b : PageName) → Some a ≡ Some b → a ≡ b
some_name a b is = cc

pub no_name : (page : PageName) → None ≡ Some page → ⊥
no_name page is = cc

pub some_one : (o : Option ℕ) (a b : ℕ) → o ≡ Some a → o ≡ Some b → a ≡ b
some_one o a b x y = cc

pub none_some : (o : Option ℕ) (a : ℕ) → o ≡ None → o ≡ Some a → ⊥
none_some o a x y = cc

pub some_of : {X : Type 0} (o : Option X) → IsSome o → (x : X) × (o ≡ Some x)
some_of None there = absurd (false≢true there)
some_of (Some x) there = (x, refl)

-- what a frame gives of the page that it has
abbrev pub counted : Frame → Option Frame
counted f = if is_fresh f.content then None else Some f

-- without a change a page isn't dirty
pub clean_fresh : (o : Option ℕ) → is_some o ≡ false → o ≡ None
clean_fresh None is = refl
clean_fresh (Some x) is = absurd (true≢false is)

-- what it gives tells how the page stands to the disk, since a new page is clean
pub counted_state : (uses : ℕ) (f : Frame) → IsFrame uses f → (oldest_in (counted f) ≡ f.oldest) × (flush_in (counted f) ≡ f.flush)
counted_state uses f is = by (is_fresh f.content) refl
  where
    by : (t : Bool) → is_fresh f.content ≡ t → (oldest_in (if t then None else Some f) ≡ f.oldest) × (flush_in (if t then None else Some f) ≡ f.flush)
    by true new = let clean = (is.fresh new).1 in (sym (clean_fresh f.oldest clean), sym (is.clean clean))
    by false old = (refl, refl)

-- a frame that has its page
pub frame_in-old : (frames : List Frame) (at : ℕ) → is_fresh (frame_at frames at).content ≡ false → frame_in frames (Some at) ≡ Some (frame_at frames at)
frame_in-old frames at old = ap (λ (b : Bool). if b then None else Some (frame_at frames at)) old

-- a frame that has a new one
pub frame_in-new : (frames : List Frame) (at : ℕ) → is_fresh (frame_at frames at).content ≡ true → frame_in frames (Some at) ≡ None
frame_in-new frames at new = ap (λ (b : Bool). if b then None else Some (frame_at frames at)) new

-- the frames, where one of them has become this one
pub record Becomes (old new : List Frame) (at : ℕ) (f : Frame) : Type 0 where
  pub this : frame_at new at ≡ f
  pub others : KeepsOthers at old new

pub set_becomes : (old new : List Frame) (at : ℕ) (f : Frame) → at < length old → new ≡ set old at f → Becomes old new at f
set_becomes old new at f low is = record {
  this = ap (λ fs. frame_at fs at) is ∙ get_or-set_same old at f no_frame low;
  others = λ other apart. ap (λ fs. frame_at fs other) is ∙ get_or-set_other old at other f no_frame apart;
}

-- a page that the frame had and has no more is without a frame
goes : (old new : Frames) (at : ℕ) → IsPool old → KeepsOthers at old.frames new.frames → (page : PageName)
    → name_of (frame_at old.frames at) ≡ Some page → (name_of (frame_at new.frames at) ≡ Some page → ⊥) → holder new.frames page ≡ None
goes old new at p others page had has = by (holder new.frames page) refl
  where
    by : (n : Option ℕ) → holder new.frames page ≡ n → n ≡ None
    by None js = refl
    by (Some b) js =
        let name = (holder_name new.frames page b js).1 in
        let apart : b ≡ at → ⊥ = λ same. has (subst (λ (x : ℕ). name_of (frame_at new.frames x) ≡ Some page) same name) in
        absurd (apart (some_one (holder old.frames page) b at (p.once page b (sym (ap name_of (others b apart)) ∙ name)) (p.once page at had)))

-- One frame has changed.
module _ (old new : Frames) (at : ℕ) (p : IsPool old) (q : IsPool new) (f : Frame) (to : Becomes old.frames new.frames at f) where
  abbrev was : Frame
  was = frame_at old.frames at

  frame_in-same : (b : ℕ) → frame_at new.frames b ≡ frame_at old.frames b → frame_in new.frames (Some b) ≡ frame_in old.frames (Some b)
  frame_in-same b same = ap counted same

  -- a page that it neither had nor has keeps its frame
  stays : (page : PageName) → (name_of was ≡ Some page → ⊥) → (name_of f ≡ Some page → ⊥) → frame_in new.frames (holder new.frames page) ≡ frame_in old.frames (holder old.frames page)
  stays page had has = by (holder old.frames page) refl (holder new.frames page) refl
    where
      by : (o : Option ℕ) → holder old.frames page ≡ o → (n : Option ℕ) → holder new.frames page ≡ n → frame_in new.frames (holder new.frames page) ≡ frame_in old.frames (holder old.frames page)
      by (Some b) is n js =
          let name = (holder_name old.frames page b is).1 in
          let apart : b ≡ at → ⊥ = λ same. had (subst (λ (x : ℕ). name_of (frame_at old.frames x) ≡ Some page) same name) in
          let same : frame_at new.frames b ≡ frame_at old.frames b = to.others b apart in
          ap (frame_in new.frames) (q.once page b (ap name_of same ∙ name)) ∙ frame_in-same b same ∙ sym (ap (frame_in old.frames) is)
      by None is None js = ap (frame_in new.frames) js ∙ sym (ap (frame_in old.frames) is)
      by None is (Some b) js =
          let name = (holder_name new.frames page b js).1 in
          let apart : b ≡ at → ⊥ = λ same. has (sym (ap name_of to.this) ∙ subst (λ (x : ℕ). name_of (frame_at new.frames x) ≡ Some page) same name) in
          absurd (none_some (holder old.frames page) b is (p.once page b (sym (ap name_of (to.others b apart)) ∙ name)))

  -- What holds of the frame of a page is handed on, if it is where the frame that changed has the page still, where it has given it up, where it has got it, and where the page is another frame's or none's.
  pub moved : (P Q : Option Frame → Type 0) (page : PageName)
      → (name_of was ≡ Some page → name_of f ≡ Some page → P (counted was) → Q (counted f))
      → (name_of was ≡ Some page → (name_of f ≡ Some page → ⊥) → P (counted was) → Q None)
      → ((name_of was ≡ Some page → ⊥) → name_of f ≡ Some page → P None → Q (counted f))
      → ((name_of was ≡ Some page → ⊥) → (o : Option Frame) → P o → Q o)
      → P (frame_in old.frames (holder old.frames page)) → Q (frame_in new.frames (holder new.frames page))
  moved P Q page both gone come other k = by (is_named page (name_of was)) (is_named page (name_of f))
    where
      had : name_of was ≡ Some page → P (counted was)
      had is = subst P (ap (frame_in old.frames) (p.once page at is)) k

      has : name_of f ≡ Some page → Q (counted f) → Q (frame_in new.frames (holder new.frames page))
      has is here = subst Q (sym (ap (frame_in new.frames) (q.once page at (ap name_of to.this ∙ is)) ∙ ap counted to.this)) here

      by : (name_of was ≡ Some page) ⊎ (name_of was ≡ Some page → ⊥) → (name_of f ≡ Some page) ⊎ (name_of f ≡ Some page → ⊥) → Q (frame_in new.frames (holder new.frames page))
      by (inl a) (inl b) = has b (both a b (had a))
      by (inl a) (inr b) = subst Q (sym (ap (frame_in new.frames) (goes old new at p to.others page a (λ c. b (sym (ap name_of to.this) ∙ c))))) (gone a b (had a))
      by (inr a) (inl b) = has b (come a b (subst P (ap (frame_in old.frames) (goes new old at q (λ other apart. sym (to.others other apart)) page (ap name_of to.this ∙ b) a)) k))
      by (inr a) (inr b) = subst Q (sym (stays page a b)) (other a _ k)

  -- and where the frame has the page that it had
  pub held_on : (P Q : Option Frame → Type 0) (page : PageName) → name_of f ≡ name_of was → (name_of was ≡ Some page → P (counted was) → Q (counted f))
      → ((name_of was ≡ Some page → ⊥) → (o : Option Frame) → P o → Q o)
      → P (frame_in old.frames (holder old.frames page)) → Q (frame_in new.frames (holder new.frames page))
  held_on P Q page same here other k = moved P Q page (λ a b k. here a k) (λ a b k. absurd (b (same ∙ a))) (λ a b k. absurd (a (sym same ∙ b))) other k

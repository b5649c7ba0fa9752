-- The pins of frames: what a fetch and a record leave, and what a pin more or less is.
use Rattle.std.proofs.lemmas.Bool.{cases_eq, cases_lt, eqb-true}
use Rattle.clone_mtr.specs.declared.record.Record.{Record}
use Rattle.clone_pool.specs.declared.pool.FetchRefusal.TheVariants as fetch
use Rattle.clone_pool.specs.Frames.{changed}
use Rattle.clone_pool.specs.Pool.{Misses}
use Rattle.clone_buffer.proofs.GivenLemmas.{freed_at}
use Rattle.clone_buffer.specs.Writing.{after_records}
use Rattle.clone_trx.proofs.Common.{◌≡◌, ◌≢◌, ◌<◌, ◌≤◌, ◌+◌, ◌-◌, ◌&&◌, ◌==◌, ◌⊎◌, inl, inr, ℕ, List, [], ◌∷◌, length, set, refl, sym, ap, subst, ◌∙◌, arith, Option, Some, None, Ok, Err, Result, MatchOption, and_parts, cond_both, get_or-set_same, get_or-set_other, get_or_past, length-set, set_past, Frame, PageName, FetchRefusal, Unused, no_frame, frame_at, is_fresh, holder, claim_of, discarded, filled, emptied, touched, unpinned, next_use, Frames, Fetches, used, holder_name, freed, given_up, is_page_below, changed_at, named_frame}

abbrev pub pins : List Frame → ℕ → ℕ
pins frames at = (frame_at frames at).pins

pub record SamePins (old new : List Frame) : Type 0 where
  pub at : (other : ℕ) → pins new other ≡ pins old other

-- a frame that has become one with as many pins
pub set_pins : (frames : List Frame) (at : ℕ) (f : Frame) → f.pins ≡ pins frames at → SamePins frames (set frames at f)
set_pins frames at f same = record { at = λ other. by other (cases_eq other at) }
  where
    here : (at < length frames) ⊎ (length frames ≤ at) → pins (set frames at f) at ≡ pins frames at
    here (inl low) = ap (λ (g : Frame). g.pins) (get_or-set_same frames at f no_frame low) ∙ same
    here (inr past) = ap (λ (fs : List Frame). pins fs at) (set_past frames at f past)

    by : (other : ℕ) → (other ≡ at) ⊎ (other ≢ at) → pins (set frames at f) other ≡ pins frames other
    by other (inl is) = subst (λ (x : ℕ). pins (set frames at f) x ≡ pins frames x) (sym is) (here (cases_lt at (length frames)))
    by other (inr apart) = ap (λ (g : Frame). g.pins) (get_or-set_other frames at other f no_frame apart)

pub trans : {a b c : List Frame} → SamePins a b → SamePins b c → SamePins a c
trans one two = record { at = λ other. two.at other ∙ one.at other }

pub same : {a b : List Frame} → b ≡ a → SamePins a b
same is = record { at = λ other. ap (λ (fs : List Frame). pins fs other) is }

-- a fetch pins nothing
pub fetch_pins : (page : PageName) (old new : Frames) (result : Result ℕ FetchRefusal) → Fetches page old new result → SamePins old.frames new.frames
fetch_pins page old new result fetched = by (holder old.frames page) refl fetched
  where
    miss : (r : Result ℕ FetchRefusal) → Misses page old new r → SamePins old.frames new.frames
    miss (Ok at) m = trans (set_pins old.frames at (filled page m.1.bytes (next_use old.uses) (frame_at old.frames at)) refl) (same m.1.frames)
    miss (Err (fetch.PoolFull frames)) m = same (ap (λ (v : Frames). v.frames) m.2)
    miss (Err fetch.DiskFault) m = trans (set_pins old.frames m.0 (emptied m.1.1.bytes (frame_at old.frames m.0)) refl) (same m.1.1.frames)

    by : (o : Option ℕ) → holder old.frames page ≡ o → MatchOption o (Misses page old new result) (λ at. (result ≡ Ok at) × (new ≡ used at old)) → SamePins old.frames new.frames
    by None is m = miss result m
    by (Some at) is hit =
        trans (set_pins old.frames at (touched (next_use old.uses) (frame_at old.frames at)) refl) (same (ap (λ (v : Frames). v.frames) hit.1))

-- nor does a record
pub records_pins : (rs : List Record) (start end : ℕ) (v : Frames) → SamePins v.frames (after_records rs start end v).frames
records_pins [] start end v = record { at = λ other. refl }
records_pins (r ∷ rs) start end v = trans (one (named_frame v.frames r)) (records_pins rs start end (changed_at (named_frame v.frames r) r start end v))
  where
    one : (o : Option ℕ) → SamePins v.frames (changed_at o r start end v).frames
    one None = record { at = λ other. refl }
    one (Some b) = set_pins v.frames b (changed r start end (frame_at v.frames b)) refl

-- a frame that a fetch answers is one of the frames
pub fetch_within : (page : PageName) (old new : Frames) (at : ℕ) → Fetches page old new (Ok at) → at < length new.frames
fetch_within page old new at fetched = by (holder old.frames page) refl fetched
  where
    by : (o : Option ℕ) → holder old.frames page ≡ o → MatchOption o (Misses page old new (Ok at)) (λ b. (◌≡◌ {A = Result ℕ FetchRefusal} (Ok at) (Ok b)) × (new ≡ used b old)) → at < length new.frames
    by None is m = let low = m.0.within in omega (arith, low, ap length m.1.frames, length-set old.frames at (filled page m.1.bytes (next_use old.uses) (frame_at old.frames at)))
    by (Some b) is hit =
        let here : at ≡ b = let e = hit.0 in cc in
        let low = (holder_name old.frames page b is).0 in
        omega (arith, low, here, ap (λ (v : Frames). length v.frames) hit.1, length-set old.frames b (touched (next_use old.uses) (frame_at old.frames b)))

-- a pin that is taken away again
pub let_go_pins : (g : Frame) (n : ℕ) → g.pins ≡ n + 1 → (unpinned g).pins ≡ n
let_go_pins g n more = cond_both (is_fresh g.content && (g.pins == 1)) (record g { content = Unused; pins = 0; last_use = 0 }) (record g { pins = g.pins - 1 }) (λ (f : Frame). f.pins ≡ n) (λ is. let one = eqb-true g.pins 1 (and_parts (is_fresh g.content) (g.pins == 1) is).1 in omega (arith, one, more)) (λ is. omega (arith, more))

-- a frame with a pin is one of the frames
pub pinned_within : (frames : List Frame) (at n : ℕ) → pins frames at ≡ n + 1 → at < length frames
pinned_within frames at n more = by (cases_lt at (length frames))
  where
    by : (at < length frames) ⊎ (length frames ≤ at) → at < length frames
    by (inl low) = low
    by (inr past) = absurd (let none = ap (λ (f : Frame). f.pins) (get_or_past frames at no_frame past) in omega (arith, none, more))

-- frames that are given up keep their pins
pub given_pins : (space pages : ℕ) (v : Frames) → SamePins v.frames (given_up space pages v).frames
given_pins space pages v = record { at = λ other. ap (λ (f : Frame). f.pins) (freed_at space pages v other) ∙ by (frame_at v.frames other) }
  where
    by : (f : Frame) → (freed space pages f).pins ≡ f.pins
    by f = cond_both (is_page_below space pages (claim_of f)) (discarded f) f (λ (g : Frame). g.pins ≡ f.pins) (λ is. refl) (λ is. refl)

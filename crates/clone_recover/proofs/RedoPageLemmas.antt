-- Pages of the redo come to hand.
use Rattle.std.proofs.Common.{◌≡◌, ◌<◌, ◌+◌, ◌*◌, ℕ, zero, suc, List, [], ◌∷◌, ◌++◌, length, take, drop, get_or, min, refl, sym, ap, subst, ◌∙◌, arith, Some, None, inl, inr}
use Rattle.std.specs.Prelude.{option_map, option_and_then, unwrap_or, slice_get, IfSome, false}
use Rattle.std.specs.declared.option.Option.{Option}
use Rattle.std.specs.FinMap as finite
use Rattle.std.proofs.lemmas.Bool.{cases_lt}
use Rattle.std.proofs.lemmas.List.{length-map, length-drop, length-take-le, append-nil}
use Rattle.std.proofs.lemmas.Option.{slice_get-get_or}
use Rattle.clone_outside.specs.Disk.{DiskImage, ForTold, GivesQuiet, page_count, zero_page}
use Rattle.clone_outside.specs.declared.disk.Held.{Held}
use Rattle.clone_overlay.specs.Images.{redo_space, bytes_of, IsQuiet}
use Rattle.clone_recover.specs.Reading.{redo_pages, redo_of, IsAtHand, ReadsOn, KeepsOn, Loads}
use Rattle.clone_recover.specs.declared.log.Log.{Log}
use Rattle.clone_recover.proofs.JoinedPageLemmas.{take_front, drop_front}

at_bytes : (hs : List Held) (n : ℕ) → n < length hs → get_or (bytes_of hs) n [] ≡ (get_or hs n zero_page).bytes
at_bytes [] n lt = absurd (omega (arith, lt))
at_bytes (h ∷ hs) zero lt = refl
at_bytes (h ∷ hs) (suc n) lt = at_bytes hs n (omega (arith, lt))

-- what is read of a quiet page of the redo
page_read : (m : DiskImage) (n : ℕ) (bytes : List ℕ) → IsQuiet m → GivesQuiet m redo_space n bytes → n < length (redo_pages m) → bytes ≡ get_or (redo_pages m) n []
page_read m n bytes quiet gives lt = at (finite.get m.spaces redo_space) (quiet redo_space n) gives lt
  where
    given : (o : Option Held) (h : Held) → o ≡ Some h → IfSome o (λ held. held.writing ≡ false) → IfSome o (λ held. held.writing ≡ false → bytes ≡ held.bytes) → bytes ≡ h.bytes
    given o h is still is_so =
        subst (λ x. IfSome x (λ held. held.writing ≡ false → bytes ≡ held.bytes)) is is_so (subst (λ x. IfSome x (λ held. held.writing ≡ false)) is still)

    at : (o : Option (List Held)) → IfSome (option_and_then (λ ps. slice_get ps n) o) (λ held. held.writing ≡ false) → IfSome (option_and_then (λ ps. slice_get ps n) o) (λ held. held.writing ≡ false → bytes ≡ held.bytes)
        → n < length (bytes_of (unwrap_or o [])) → bytes ≡ get_or (bytes_of (unwrap_or o [])) n []
    at None still is_so lt = absurd (omega (arith, lt))
    at (Some hs) still is_so lt =
        let low : n < length hs = omega (arith, lt, length-map hs (λ (h : Held). h.bytes)) in
        given (slice_get hs n) (get_or hs n zero_page) (slice_get-get_or hs n zero_page low) still is_so ∙ sym (at_bytes hs n low)

-- how many pages the redo's space has
pub page_total : (m : DiskImage) (o : Option ℕ) → o ≡ page_count m redo_space → unwrap_or o 0 ≡ length (redo_pages m)
page_total m o is = ap (λ x. unwrap_or x 0) is ∙ at (finite.get m.spaces redo_space)
  where
    at : (x : Option (List Held)) → unwrap_or (option_map length x) 0 ≡ length (bytes_of (unwrap_or x []))
    at None = refl
    at (Some hs) = sym (length-map hs (λ (h : Held). h.bytes))

-- the page that is at hand first, and those before it
pub record IsFront (m : DiskImage) (log : Log) : Type 0 where
  pub available : log.available ≡ min log.total (4096 * length (redo_pages m))
  pub front : 4096 * log.first < log.available → take 4096 log.window ≡ get_or (redo_pages m) log.first []
  pub long : (p : ℕ) → p < log.first + 1 → 4096 * p < log.available → length (get_or (redo_pages m) p []) ≡ 4096

-- the numbers of a log stay
pub record SameNumbers (old new : Log) : Type 0 where
  pub first : new.first ≡ old.first
  pub at : new.at ≡ old.at
  pub total : new.total ≡ old.total
  pub available : new.available ≡ old.available

front_kept : (old new bytes : List ℕ) → length old ≡ 8192 → new ≡ take 4096 old ++ (bytes ++ drop 8192 old) → take 4096 new ≡ take 4096 old
front_kept old new bytes long is =
    ap (take 4096) is ∙ take_front (take 4096 old) (bytes ++ drop 8192 old) 4096 (sym (length-take-le 4096 old (omega (arith, long))))

nothing : (xs : List ℕ) → length xs ≡ 0 → xs ≡ []
nothing [] e = refl
nothing (x ∷ xs) e = absurd (omega arith)

back_put : (old new bytes : List ℕ) → length old ≡ 8192 → new ≡ take 4096 old ++ (bytes ++ drop 8192 old) → drop 4096 new ≡ bytes
back_put old new bytes long is =
    ap (drop 4096) is ∙ drop_front (take 4096 old) (bytes ++ drop 8192 old) 4096 (sym (length-take-le 4096 old (omega (arith, long))))
    ∙ ap (λ xs. bytes ++ xs) (nothing (drop 8192 old) (omega (arith, length-drop 8192 old, long))) ∙ append-nil bytes

front_put : (old new bytes : List ℕ) → length bytes ≡ 4096 → new ≡ take 0 old ++ (bytes ++ drop 4096 old) → take 4096 new ≡ bytes
front_put old new bytes long is = ap (take 4096) is ∙ take_front bytes (drop 4096 old) 4096 (sym long)

-- the page behind it comes to hand
pub back_loaded : (m : DiskImage) (old new : Log) → IsQuiet m → length old.window ≡ 8192 → IsFront m old → SameNumbers old new → Loads (Some m) (old.first + 1) 4096 old new → IsAtHand m new
back_loaded m old new quiet long f same loads = record {
  available = same.available ∙ f.available ∙ ap (λ t. min t (4096 * length (redo_pages m))) (sym same.total);
  front = λ lt. kept ∙ f.front (omega (arith, lt, same.first, same.available)) ∙ ap (λ n. get_or (redo_pages m) n []) (sym same.first);
  back = λ lt.
      let some : 4096 * (old.first + 1) < old.available = omega (arith, lt, same.first, same.available) in
      let puts = loads.puts some in
      back_put old.window new.window puts.bytes long puts.is
      ∙ page_read m (old.first + 1) puts.bytes quiet puts.given (omega (arith, some, f.available))
      ∙ ap (λ n. get_or (redo_pages m) (n + 1) []) (sym same.first);
  long = λ p lt low. elim (cases_lt p (old.first + 1)) [
    | inl before ↦ f.long p before (omega (arith, low, same.available))
    | inr now ↦
        let is : old.first + 1 ≡ p = omega (arith, now, lt, same.first) in
        let some : 4096 * (old.first + 1) < old.available = omega (arith, low, same.available, is) in
        let puts = loads.puts some in
        ap (λ n. length (get_or (redo_pages m) n [])) (sym is) ∙ ap length (sym (page_read m (old.first + 1) puts.bytes quiet puts.given (omega (arith, some, f.available)))) ∙ puts.long
  ];
}
  where
    kept : take 4096 new.window ≡ take 4096 old.window
    kept = elim (cases_lt (4096 * (old.first + 1)) old.available) [
      | inl some ↦ front_kept old.window new.window (loads.puts some).bytes long (loads.puts some).is
      | inr past ↦ ap (take 4096) (loads.past past)
    ]

-- the first page comes to hand
front_loaded : (m : DiskImage) (old new : Log) → IsQuiet m → old.first ≡ 0 → old.available ≡ min old.total (4096 * length (redo_pages m)) → SameNumbers old new → Loads (Some m) 0 0 old new → IsFront m new
front_loaded m old new quiet none available same loads = record {
  available = same.available ∙ available ∙ ap (λ t. min t (4096 * length (redo_pages m))) (sym same.total);
  front = λ lt.
      let some : 4096 * 0 < old.available = omega (arith, lt, same.first, same.available, none) in
      let puts = loads.puts some in
      front_put old.window new.window puts.bytes puts.long puts.is ∙ page_read m 0 puts.bytes quiet puts.given (omega (arith, some, available))
      ∙ ap (λ n. get_or (redo_pages m) n []) (sym (same.first ∙ none));
  long = λ p lt low.
      let is : 0 ≡ p = omega (arith, lt, same.first, none) in
      let some : 4096 * 0 < old.available = omega (arith, low, same.available, is) in
      let puts = loads.puts some in
      ap (λ n. length (get_or (redo_pages m) n [])) (sym is) ∙ ap length (sym (page_read m 0 puts.bytes quiet puts.given (omega (arith, some, available)))) ∙ puts.long;
}

-- a log of which nothing was read
pub opened : (told one two : Option DiskImage) (first middle last : Log) (pages : Option ℕ) → one ≡ told → two ≡ told → ForTold told (λ m. pages ≡ page_count m redo_space) → first.first ≡ 0 → first.at ≡ 0
    → first.available ≡ min first.total (4096 * unwrap_or pages 0) → length middle.window ≡ 8192 → SameNumbers first middle → SameNumbers middle last → Loads one 0 0 first middle → Loads two 1 4096 middle last → ReadsOn told [] last
opened None one two first middle last pages a b counted none at available long same again front back = tt
opened (Some m) one two first middle last pages a b counted none at available long same again front back = λ quiet.
    let total = page_total m pages counted in
    let here = front_loaded m first middle quiet none (available ∙ ap (λ n. min first.total (4096 * n)) total) same (subst (λ t. Loads t 0 0 first middle) a front) in
    let zero_at : middle.first ≡ 0 = same.first ∙ none in
    let back_here : Loads (Some m) (middle.first + 1) 4096 middle last = subst (λ (n : ℕ). Loads (Some m) n 4096 middle last) (omega (arith, zero_at)) (subst (λ t. Loads t 1 4096 middle last) b back) in
    record {
      hand = back_loaded m middle last quiet long here again back_here;
      each = tt;
      tables = tt;
      text = ap (redo_of m) (again.at ∙ same.at ∙ at);
      long = sym (again.at ∙ same.at ∙ at);
    }

-- the second page at hand is the first, and the one behind it comes to hand
pub turned : (told now : Option DiskImage) (old middle new : Log) → now ≡ told → length middle.window ≡ 8192 → middle.first ≡ old.first + 1 → middle.at ≡ old.at → middle.total ≡ old.total → middle.available ≡ old.available
    → take 4096 middle.window ≡ drop 4096 old.window → SameNumbers middle new → Loads now (middle.first + 1) 4096 middle new → KeepsOn told old new
turned None now old middle new is long first at total available front same loads = tt
turned (Some m) now old middle new is long first at total available front same loads = λ quiet done r. record {
  hand = back_loaded m middle new quiet long (record {
    available = available ∙ r.hand.available ∙ ap (λ t. min t (4096 * length (redo_pages m))) (sym total);
    front = λ lt. front ∙ r.hand.back (omega (arith, lt, first, available)) ∙ ap (λ n. get_or (redo_pages m) n []) (sym first);
    long = λ p lt low. r.hand.long p (omega (arith, lt, first)) (omega (arith, low, available));
  }) same (subst (λ t. Loads t (middle.first + 1) 4096 middle new) is loads);
  each = r.each;
  tables = r.tables;
  text = ap (redo_of m) (same.at ∙ at) ∙ r.text;
  long = r.long ∙ sym (same.at ∙ at);
}

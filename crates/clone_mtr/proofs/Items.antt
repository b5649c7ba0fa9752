-- An item is a format.
use Rattle.std.proofs.Common.{◌≡◌, ℕ, zero, suc, ◌+◌, max, min, ◌^◌, ◌<◌, ◌≤◌, ◌⊎◌, ◌==◌, Bool, true, false, cond, ltb, List, [], ◌∷◌, length, None, Some, Result, Ok, Err, refl, sym, ap, subst, ◌∙◌, arith, inl, inr}
use Rattle.std.specs.Prelude.{nat_le, ◌&&◌}
use Rattle.std.specs.declared.option.Option.{Option}
use Rattle.std.proofs.lemmas.Bool.{eqb-true, ltb-false, le-ltb}
use Rattle.std.proofs.lemmas.Bool.Decides.{nat_tests}
use Rattle.std.proofs.lemmas.List.{length-append}
use Rattle.byteorder.specs.Endian.{big_bytes}
use Rattle.clone_bytes.specs.Fields.{IsBytes}
use Rattle.clone_bytes.specs.Formats.{Format, number, IsFormat}
use Rattle.clone_bytes.proofs.Fields.{IsJudge, number_laws, run_laws, code_laws, two_laws}
use Rattle.clone_bytes.proofs.Answers.{either_way, same_err, not_both}
use Rattle.clone_bytes.proofs.Formats.{nothing_laws, led_laws, followed_laws, made_laws, choose_laws, worded, which}
use Rattle.clone_page.specs.declared.kind.PageKind.{PageKind}
use Rattle.clone_page.specs.declared.kind.PageKind.TheVariants.{System, Undo, Bucket, Overflow}
use Rattle.clone_page.specs.Kinds.{kind_number}
use Rattle.clone_page.specs.Header.{IsAllowed}
use Rattle.clone_mtr.specs.Patches.{AreBytes, Patched}
use Rattle.clone_mtr.specs.Records.{IsRecord}
use Rattle.clone_mtr.specs.Spelling.{record_spelling}
use Rattle.clone_mtr.specs.declared.record.Record.{Record}
use Rattle.clone_mtr.specs.declared.record.Record.TheVariants.{Init, Write, Extend, Create, Drop}
use Rattle.clone_mtr.specs.declared.fields.Sought.{Sought}
use Rattle.clone_mtr.specs.declared.fields.Sought.TheVariants.{Kind, Offset, Length}
use Rattle.clone_mtr.specs.declared.refusal.DecodeRefusal.{DecodeRefusal}
use Rattle.clone_mtr.specs.declared.refusal.DecodeRefusal.TheVariants.{Short, BadKind, OutOfPage, TooLong}
use Rattle.clone_mtr.specs.Reading.{refusals, allows, begins, fits, IsSought, judge_of, sought, kind_numbered, kind, patch_text, patched, patch, item_code, item_text, room, code_judge, fields, item, item_at}
use Rattle.clone_mtr.specs.Reading as Reading

-- ---- judges

allows_tells : (offset long : ℕ) → allows offset long ≡ true → IsAllowed offset long
allows_tells offset long e = grind (arith, nat_tests)

allows_again : (offset long : ℕ) → IsAllowed offset long → allows offset long ≡ true
allows_again offset long allowed = grind (arith, nat_tests)

-- fewer bytes, but some
allowed_fewer : (offset m n : ℕ) → IsAllowed offset n → 1 ≤ m → m ≤ n → IsAllowed offset m
allowed_fewer offset m n allowed some fewer = grind arith

-- a test of two numbers that lets pass where one between them is wanted
test_laws : (at : ℕ) (Wanted : ℕ → Type 0) (b : ℕ → ℕ → Bool) (d : DecodeRefusal) → (x : ℕ) × Wanted x → ((x : ℕ) → Wanted x → x < 256 ^ 2) → ((x low high : ℕ) → Wanted x → low ≤ x → x ≤ high → b low high ≡ true)
    → ((low high : ℕ) → low ≤ high → b low high ≡ true → (x : ℕ) × Wanted x × (low ≤ x) × (x ≤ high)) → (d ≡ Short → ⊥) → refusals.place d ≤ at → IsJudge refusals at 2 Wanted (λ low high. cond (b low high) (Ok tt) (Err d))
test_laws at Wanted b d some within lets finds other there = record {
  some = some;
  within = within;
  lets = λ x low high wanted p q. rw (lets x low high wanted p q) refl;
  finds = λ low high p e. elim (either_way (b low high) (Ok tt) (Err d) (Ok tt) e) [ inl h ↦ finds low high p h.0 | inr h ↦ absurd (not_both refl (sym h.1)) ];
  refuses = λ low high e f. elim (either_way (b low high) (Ok tt) (Err d) (Err e) f) [
    | inl h ↦ absurd (not_both refl h.1)
    | inr h ↦ (let same : d ≡ e = same_err refl h.1 in subst (λ e. (e ≡ Short → ⊥) × (refusals.place e ≤ at)) same (other, there))
  ];
}

kind_judge : (at p : ℕ) → at ≤ p → IsJudge refusals p 2 (IsSought at Kind) (judge_of at Kind)
kind_judge at p there =
    test_laws p (IsSought at Kind) (λ low high. nat_le low 4 && nat_le 1 high) (BadKind at) (1, (omega arith, omega arith)) (λ x wanted. omega (arith, wanted.1))
    (λ x low high wanted p q. (let w0 = wanted.0 in let w1 = wanted.1 in grind (arith, nat_tests))) (λ low high p e. (let both : (low ≤ 4) × (1 ≤ high) = grind (arith, nat_tests) in (max low 1, (omega (arith, both.0), omega arith), omega arith, omega (arith, both.1)))) (λ d. cc) there

offset_judge : (at p : ℕ) → at ≤ p → IsJudge refusals p 2 (IsSought at Offset) (judge_of at Offset)
offset_judge at p there =
    test_laws p (IsSought at Offset) begins (OutOfPage at) (38, (omega arith, inr (omega arith, omega arith))) (λ x wanted. grind arith)
    (λ x low high wanted p q. grind (arith, nat_tests)) found (λ d. cc) there
  where
    found : (low high : ℕ) → low ≤ high → begins low high ≡ true → (x : ℕ) × IsAllowed x 1 × (low ≤ x) × (x ≤ high)
    found low high p e =
        let which : ((8 ≤ high) × (low < 16)) ⊎ ((38 ≤ high) × (low < 4088)) = grind (arith, nat_tests) in
        elim which [
          | inl h ↦ (max low 8, (omega arith, inl (omega arith, omega (arith, h.1))), omega arith, omega (arith, h.0))
          | inr h ↦ (max low 38, (omega arith, inr (omega arith, omega (arith, h.1))), omega arith, omega (arith, h.0))
        ]

fits_tells : (at offset long : ℕ) → fits at offset long ≡ Ok tt → IsSought at (Length offset) long
fits_tells at offset long e =
    elim (either_way (allows offset long) (cond (ltb 1023 (at + (4 + long))) (Err TooLong) (Ok tt)) (Err (OutOfPage at)) (Ok tt) e) [
      | inr h ↦ absurd (not_both refl (sym h.1))
      | inl h ↦ elim (either_way (ltb 1023 (at + (4 + long))) (Err TooLong) (Ok tt) (Ok tt) h.1) [ inl g ↦ absurd (not_both refl (sym g.1)) | inr g ↦ (allows_tells offset long h.0, ltb-false _ _ g.0) ]
    ]

fits_again : (at offset long : ℕ) → IsSought at (Length offset) long → fits at offset long ≡ Ok tt
fits_again at offset long is = let within : ltb 1023 (at + (4 + long)) ≡ false = le-ltb _ _ is.1 in rw (allows_again offset long is.0, within) refl

fits_refuses : (at offset long : ℕ) (e : DecodeRefusal) → fits at offset long ≡ Err e → (e ≡ OutOfPage at) ⊎ (e ≡ TooLong)
fits_refuses at offset long e f =
    elim (either_way (allows offset long) (cond (ltb 1023 (at + (4 + long))) (Err TooLong) (Ok tt)) (Err (OutOfPage at)) (Err e) f) [
      | inr h ↦ inl (same_err h.1 refl)
      | inl h ↦ elim (either_way (ltb 1023 (at + (4 + long))) (Err TooLong) (Ok tt) (Err e) h.1) [ inl g ↦ inr (same_err g.1 refl) | inr g ↦ absurd (not_both refl g.1) ]
    ]

length_judge : (at p offset : ℕ) → at ≤ p → IsAllowed offset 1 → at + 5 ≤ 1023 → IsJudge refusals p 2 (IsSought at (Length offset)) (judge_of at (Length offset))
length_judge at p offset there allowed short = record {
  some = (1, (allowed, omega arith));
  within = λ x wanted. omega (arith, wanted.1);
  lets = λ x low high wanted p q. (let some = wanted.0.0 in fits_again at offset (max low (min 1 high)) (allowed_fewer offset (max low (min 1 high)) x wanted.0 (omega arith) (omega arith), omega (arith, wanted.1)));
  finds = λ low high p e. (let told = fits_tells at offset (max low (min 1 high)) e in (max low (min 1 high), told, omega arith, omega arith));
  refuses = λ low high e f. elim (fits_refuses at offset (max low (min 1 high)) e f) [
    | inl h ↦ subst (λ e. (e ≡ Short → ⊥) × (refusals.place e ≤ p)) (sym h) ((λ d. cc), omega arith)
    | inr h ↦ subst (λ e. (e ≡ Short → ⊥) × (refusals.place e ≤ p)) (sym h) ((λ d. cc), omega arith)
  ];
}

-- a number that was let pass is sought
pub is_sought : (at n : ℕ) (what : Sought) → judge_of at what n n ≡ Ok tt → IsSought at what n
is_sought at n Kind e = let x = (kind_judge at at (omega arith)).finds n n (omega arith) e in let same : x.0 ≡ n = omega (arith, x.2, x.3) in subst (IsSought at Kind) same x.1
is_sought at n Offset e = let x = (offset_judge at at (omega arith)).finds n n (omega arith) e in let same : x.0 ≡ n = omega (arith, x.2, x.3) in subst (IsSought at Offset) same x.1
is_sought at n (Length offset) e = let told = fits_tells at offset (max n (min 1 n)) e in let same : max n (min 1 n) ≡ n = omega arith in subst (IsSought at (Length offset)) same told

-- ---- fields

room_tells : (at least : ℕ) → room at least ≡ Ok tt → at + least ≤ 1023
room_tells at least e = elim (either_way (ltb 1023 (at + least)) (Err TooLong) (Ok tt) (Ok tt) e) [ inl h ↦ absurd (not_both refl (sym h.1)) | inr h ↦ ltb-false _ _ h.0 ]

numbered_kind : (n : ℕ) → (1 ≤ n) × (n ≤ 4) → kind_number (kind_numbered n) ≡ n
numbered_kind zero is = absurd (omega (arith, is.0))
numbered_kind (suc zero) is = refl
numbered_kind (suc (suc zero)) is = refl
numbered_kind (suc (suc (suc zero))) is = refl
numbered_kind (suc (suc (suc (suc zero)))) is = refl
numbered_kind (suc (suc (suc (suc (suc n))))) is = absurd (omega (arith, is.1))

kind_laws : (at p : ℕ) → at ≤ p → IsFormat refusals p (kind at)
kind_laws at p there = made_laws (λ k. big_bytes 2 (kind_number k)) kind_numbered (two_laws (kind_judge at p there)) (λ n is. ap (big_bytes 2) (numbered_kind n is))

patch_laws : (at p : ℕ) → at ≤ p → at + 5 ≤ 1023 → IsFormat refusals p (patch at)
patch_laws at p there short =
    made_laws patch_text patched (followed_laws (two_laws (offset_judge at p there)) (λ offset allowed. followed_laws (two_laws (length_judge at _ offset (omega arith) allowed short)) (λ long is. run_laws _ long)))
    (λ x has. (let long = has.1.1.0 in rw long refl))

-- ---- items

word : {p : ℕ} → IsFormat refusals p (number Short 4)
word {p} = number_laws p 4

fields_laws : (at n : ℕ) → code_judge at n ≡ Ok tt → IsFormat refusals (at + 1) (fields at n)
fields_laws at n admitted =
    choose_laws (n == 1) (λ e. made_laws _ _ (followed_laws word (λ space s. followed_laws word (λ page p. kind_laws (at + 9) _ (omega arith)))) (λ x has. refl))
    (λ not1. choose_laws (n == 2) (λ e. made_laws _ _ (followed_laws word (λ space s. followed_laws word (λ page p. patch_laws (at + 9) _ (omega arith) (omega (arith, room_tells at 14 (subst (λ n. code_judge at n ≡ Ok tt) (eqb-true n 2 e) admitted)))))) (λ x has. refl))
    (λ not2. choose_laws (n == 3) (λ e. made_laws _ _ (followed_laws word (λ space s. word)) (λ x has. refl))
    (λ not3. choose_laws (n == 4) (λ e. made_laws _ _ (followed_laws word (λ space s. word)) (λ x has. refl))
    (λ not4. choose_laws (n == 5) (λ e. made_laws _ _ word (λ x has. refl)) (λ not5. nothing_laws None)))))

-- a refusal that isn't `Short` and names no byte after this one
abbrev IsCause : ℕ → DecodeRefusal → Type 0
IsCause at e = (e ≡ Short → ⊥) × (refusals.place e ≤ at)

bad_kind : (at : ℕ) → IsCause at (BadKind at)
bad_kind at = ((λ d. cc), omega arith)

room_refuses : (at least : ℕ) (e : DecodeRefusal) → room at least ≡ Err e → IsCause at e
room_refuses at least e f = elim (either_way (ltb 1023 (at + least)) (Err TooLong) (Ok tt) (Err e) f) [ inl h ↦ subst (IsCause at) (same_err refl h.1) ((λ d. cc), omega arith) | inr h ↦ absurd (not_both refl h.1) ]

either_refuses : (at : ℕ) (e : DecodeRefusal) (b : Bool) (x y : Result (Unit {0}) DecodeRefusal) → (x ≡ Err e → IsCause at e) → (y ≡ Err e → IsCause at e) → cond b x y ≡ Err e → IsCause at e
either_refuses at e true x y p q f = p f
either_refuses at e false x y p q f = q f

code_refuses : (at n : ℕ) (e : DecodeRefusal) → code_judge at n ≡ Err e → IsCause at e
code_refuses at n e =
    either_refuses at e (n == 1) _ _ (room_refuses at 11 e) (either_refuses at e (n == 2) _ _ (room_refuses at 14 e) (either_refuses at e (n == 3) _ _ (room_refuses at 9 e) (either_refuses at e (n == 4) _ _ (room_refuses at 9 e)
    (either_refuses at e (n == 5) _ _ (room_refuses at 5 e) (either_refuses at e (n == 6) _ _ (λ f. absurd (not_both refl f)) (λ f. subst (IsCause at) (same_err refl f) (bad_kind at)))))))

-- what follows a code is an item with this code
keyed : (at n : ℕ) (x : Option Record) → (n < 256) × (code_judge at n ≡ Ok tt) → (fields at n).Has x → item_code x ≡ n
keyed at n x admitted has =
    elim (which (n == 1) _ _ x has) [
      | inl p ↦ ap item_code (sym p.1.2) ∙ sym (eqb-true n 1 p.0)
      | inr a ↦ elim (which (n == 2) _ _ x a.1) [
        | inl p ↦ ap item_code (sym p.1.2) ∙ sym (eqb-true n 2 p.0)
        | inr b ↦ elim (which (n == 3) _ _ x b.1) [
          | inl p ↦ ap item_code (sym p.1.2) ∙ sym (eqb-true n 3 p.0)
          | inr c ↦ elim (which (n == 4) _ _ x c.1) [
            | inl p ↦ ap item_code (sym p.1.2) ∙ sym (eqb-true n 4 p.0)
            | inr d ↦ elim (which (n == 5) _ _ x d.1) [
              | inl p ↦ ap item_code (sym p.1.2) ∙ sym (eqb-true n 5 p.0)
              | inr f ↦ elim (either_way (n == 6) (Ok tt) (Err (BadKind at)) (Ok tt) (rw (a.0, b.0, c.0, d.0, f.0) at admitted.1)) [ inl p ↦ ap item_code (sym f.1) ∙ sym (eqb-true n 6 p.0) | inr p ↦ absurd (not_both refl (sym p.1)) ]
            ]
          ]
        ]
      ]
    ]

-- the end mark, or a record in its ranges that leaves room for one
abbrev pub IsItem : ℕ → Option Record → Type 0
IsItem at (Some r) = IsRecord r × (at + length (record_spelling r) ≤ 1023)
IsItem at None = Unit {0}

bytes_all : (xs : List ℕ) → IsBytes xs → AreBytes xs
bytes_all [] fits = tt
bytes_all (x ∷ xs) fits = (fits 0, bytes_all xs (λ i. fits (suc i)))

all_bytes : (xs : List ℕ) → AreBytes xs → IsBytes xs
all_bytes [] all i = omega arith
all_bytes (x ∷ xs) all zero = all.0
all_bytes (x ∷ xs) all (suc i) = all_bytes xs all.1 i

let_pass : (at least : ℕ) → at + least ≤ 1023 → room at least ≡ Ok tt
let_pass at least short = let within : ltb 1023 (at + least) ≡ false = le-ltb _ _ short in rw within refl

is_patch : (at : ℕ) (p : Patched) → IsAllowed p.offset (length p.bytes) → AreBytes p.bytes → at + (4 + length p.bytes) ≤ 1023 → (patch at).Has p
is_patch at p allowed are short = ((p.offset, (length p.bytes, p.bytes)), (allowed_fewer p.offset 1 (length p.bytes) allowed (omega arith) allowed.0, ((allowed, short), (refl, all_bytes p.bytes are))), refl)

is_item : (at : ℕ) (x : Option Record) → IsItem at x → (item at).Has x
is_item at (Some (Init space page kind)) is = ((omega arith, let_pass at 11 is.1), ((space, (page, kind)), (is.0.0, (is.0.1, is_kind kind)), refl))
  where
    is_kind : (k : PageKind) → (Reading.kind (at + 9)).Has k
    is_kind System = (1, (omega arith, omega arith), refl)
    is_kind Undo = (2, (omega arith, omega arith), refl)
    is_kind Bucket = (3, (omega arith, omega arith), refl)
    is_kind Overflow = (4, (omega arith, omega arith), refl)
is_item at (Some (Write space page patch)) is =
    let whole = length-append (big_bytes 2 (length patch.bytes)) patch.bytes in
    let some = is.0.2.0 in
    ((omega arith, let_pass at 14 (omega (arith, is.1))), ((space, (page, patch)), (is.0.0, (is.0.1, is_patch (at + 9) patch is.0.2 is.0.3 (omega (arith, is.1)))), refl))
is_item at (Some (Extend space pages)) is = ((omega arith, let_pass at 9 is.1), ((space, pages), (is.0.0, is.0.1), refl))
is_item at (Some (Create space pages)) is = ((omega arith, let_pass at 9 is.1), ((space, pages), (is.0.0, is.0.1), refl))
is_item at (Some (Drop space)) is = ((omega arith, let_pass at 5 is.1), (space, is.0, refl))
is_item at None is = ((omega arith, refl), refl)

patch_is : (at : ℕ) (p : Patched) → (patch at).Has p → IsAllowed p.offset (length p.bytes) × AreBytes p.bytes × (at + (4 + length p.bytes) ≤ 1023)
patch_is at p has =
    let x = has.0 in
    let long : length x.1.1 ≡ x.1.0 = has.1.1.1.0 in
    subst (λ (p : Patched). IsAllowed p.offset (length p.bytes) × AreBytes p.bytes × (at + (4 + length p.bytes) ≤ 1023)) has.2 (rw long has.1.1.0.0, bytes_all x.1.1 has.1.1.1.1, omega (arith, has.1.1.0.1))

item_is : (at : ℕ) (x : Option Record) → (item at).Has x → IsItem at x × (item_text x ≡ (item at).text x)
item_is at (Some (Init space page kind)) has =
    let x = has.1.0 in
    let s : x.0 ≡ space = (let e = has.1.2 in cc) in
    let p : x.1.0 ≡ page = (let e = has.1.2 in cc) in
    (((omega (arith, has.1.1.0), omega (arith, has.1.1.1.0)), room_tells at 11 has.0.1), refl)
item_is at (Some (Write space page patch)) has =
    let x = has.1.0 in
    let s : x.0 ≡ space = (let e = has.1.2 in cc) in
    let p : x.1.0 ≡ page = (let e = has.1.2 in cc) in
    let q : x.1.1 ≡ patch = (let e = has.1.2 in cc) in
    let is = patch_is (at + 9) patch (subst (Reading.patch (at + 9)).Has q has.1.1.1.1) in
    let whole = length-append (big_bytes 2 (length patch.bytes)) patch.bytes in
    (((omega (arith, has.1.1.0), omega (arith, has.1.1.1.0), is.0, is.1), omega (arith, is.2)), refl)
item_is at (Some (Extend space pages)) has =
    let x = has.1.0 in
    let s : x.0 ≡ space = (let e = has.1.2 in cc) in
    let p : x.1 ≡ pages = (let e = has.1.2 in cc) in
    (((omega (arith, has.1.1.0), omega (arith, has.1.1.1)), room_tells at 9 has.0.1), refl)
item_is at (Some (Create space pages)) has =
    let x = has.1.0 in
    let s : x.0 ≡ space = (let e = has.1.2 in cc) in
    let p : x.1 ≡ pages = (let e = has.1.2 in cc) in
    (((omega (arith, has.1.1.0), omega (arith, has.1.1.1)), room_tells at 9 has.0.1), refl)
item_is at (Some (Drop space)) has =
    let s : has.1.0 ≡ space = (let e = has.1.2 in cc) in
    ((omega (arith, has.1.1), room_tells at 5 has.0.1), refl)
item_is at None has = (tt, refl)

-- the same item, in the words of its spelling
abbrev pub spelled_item : ℕ → Format DecodeRefusal (Option Record)
spelled_item at = record { Has = IsItem at; text = item_text; read = item_at at }

pub item_laws : (at : ℕ) → IsFormat refusals at (spelled_item at)
unfolding item_at
item_laws at =
    worded (item at) (spelled_item at) (led_laws item_code (code_laws (record { some = (6, (omega arith, refl)); refuses = code_refuses at })) (λ n admitted. fields_laws at n admitted.1) (keyed at)) (λ bytes. refl) (item_is at) (is_item at)

-- A mini-transaction is a format, so no spelling of one begins another.
use Rattle.std.proofs.Common.{◌≡◌, ℕ, zero, suc, ◌+◌, ◌<◌, ◌≤◌, List, [], ◌∷◌, ◌++◌, length, None, Some, Result, Ok, Err, refl, sym, ap, subst, ◌∙◌, append_assoc, arith, inl, inr}
use Rattle.std.specs.List.{flat_map, AllByRecursion}
use Rattle.std.specs.declared.option.Option.{Option}
use Rattle.std.proofs.lemmas.List.{length-append}
use Rattle.clone_bytes.specs.Fields.{IsBytes}
use Rattle.clone_bytes.specs.Formats.{Format, ◌>>=◌, nothing, followed, seen, Begun, IsFormat}
use Rattle.clone_bytes.proofs.Answers.{same_ok, same_err, bind, bind_ok, bind_err}
use Rattle.clone_bytes.proofs.Formats.{nothing_laws, followed_laws, seen_laws}
use Rattle.clone_bytes.proofs.FirstBytes.{unique}
use Rattle.clone_mtr.specs.Records.{IsRecord, IsMtr}
use Rattle.clone_mtr.specs.Spelling.{record_spelling, spelling, Spells}
use Rattle.clone_mtr.specs.declared.record.Record.{Record}
use Rattle.clone_mtr.specs.declared.record.Record.TheVariants.{Init, Write, Extend, Create, Drop}
use Rattle.clone_mtr.specs.declared.refusal.DecodeRefusal.{DecodeRefusal}
use Rattle.clone_mtr.specs.declared.refusal.DecodeRefusal.TheVariants.{Short, BadKind}
use Rattle.clone_mtr.specs.Reading.{refusals, item_text}
use Rattle.clone_mtr.proofs.Items.{IsItem, spelled_item, item_laws}

-- the records without an end mark
abbrev pub text_of : List Record → List ℕ
text_of rs = flat_map record_spelling rs

pub spelling_is : (rs : List Record) → spelling rs ≡ text_of rs ++ 6 ∷ []
spelling_is [] = refl
spelling_is (r ∷ rs) = ap (λ t. record_spelling r ++ t) (spelling_is rs) ∙ sym (append_assoc (record_spelling r) (text_of rs) (6 ∷ []))

-- there is an end mark
pub spelling_some : (rs : List Record) → 1 ≤ length (spelling rs)
spelling_some rs = rw (spelling_is rs, length-append) (omega arith)

pub record_some : (r : Record) → 1 ≤ length (record_spelling r)
record_some (Init space page kind) = omega arith
record_some (Write space page patch) = omega arith
record_some (Extend space pages) = omega arith
record_some (Create space pages) = omega arith
record_some (Drop space) = omega arith

-- ---- records from an offset on, up to the end mark

-- records that fit from this offset on
abbrev pub AreFrom : ℕ → List Record → Type 0
AreFrom at rs = AllByRecursion IsRecord rs × (at + length (spelling rs) ≤ 1024)

abbrev joined : Option Record × List Record → List Record
joined (None, rs) = []
joined (Some r, rs) = r ∷ rs

abbrev after : (ℕ → Format DecodeRefusal (List Record)) → ℕ → Option Record → Format DecodeRefusal (List Record)
after more at None = nothing []
after more at (Some r) = more (at + length (record_spelling r))

-- at most so many items, the first at this offset
abbrev pub records : ℕ → ℕ → Format DecodeRefusal (List Record)
records zero at = nothing []
records (suc n) at = seen (AreFrom at) spelling joined (followed (spelled_item at) (after (records n) at))

pair_is : (n at : ℕ) (p : Option Record × List Record) → at ≤ 1023 → 1024 ≤ at + suc n → (followed (spelled_item at) (after (records n) at)).Has p → AreFrom at (joined p) × (spelling (joined p) ≡ (followed (spelled_item at) (after (records n) at)).text p)
pair_is n at (None, rs) here far has = ((tt, omega arith), subst (λ (rs : List Record). spelling [] ≡ (followed (spelled_item at) (after (records n) at)).text (None, rs)) has.1 refl)
pair_is zero at (Some r, rs) here far has = absurd (let some = record_some r in let short = has.0.1 in omega arith)
pair_is (suc n) at (Some r, rs) here far has = (((has.0.0, has.1.0), omega (arith, has.1.1, length-append (record_spelling r) (spelling rs))), refl)

pair_of : (n at : ℕ) (rs : List Record) → at ≤ 1023 → 1024 ≤ at + suc n → AreFrom at rs → (p : Option Record × List Record) × (followed (spelled_item at) (after (records n) at)).Has p × (joined p ≡ rs)
pair_of n at [] here far are = ((None, []), (tt, refl), refl)
pair_of zero at (r ∷ rs) here far are = absurd (omega (arith, are.1, length-append (record_spelling r) (spelling rs), spelling_some rs, record_some r))
pair_of (suc n) at (r ∷ rs) here far are =
    let long = length-append (record_spelling r) (spelling rs) in
    ((Some r, rs), ((are.0.0, omega (arith, are.1, spelling_some rs)), (are.0.1, omega (arith, are.1))), refl)

after_laws : (n at : ℕ) → at ≤ 1023 → 1024 ≤ at + suc n → ((p : ℕ) → p ≤ 1023 → 1024 ≤ p + n → IsFormat refusals p (records n p)) → (x : Option Record) → IsItem at x → IsFormat refusals (at + length (item_text x)) (after (records n) at x)
after_laws n at here far more None is = nothing_laws []
after_laws n at here far more (Some r) is = more (at + length (record_spelling r)) is.1 (omega (arith, record_some r))

pub records_laws : (n at : ℕ) → at ≤ 1023 → 1024 ≤ at + n → IsFormat refusals at (records n at)
records_laws zero at here far = absurd (omega arith)
records_laws (suc n) at here far =
    seen_laws (AreFrom at) spelling joined (followed_laws (item_laws at) (after_laws n at here far (records_laws n))) (λ p has. pair_is n at p here far has) (λ rs are. pair_of n at rs here far are)

-- ---- mini-transactions

-- what was read, unless it is the end mark alone
abbrev pub some_of : List Record × List ℕ → Result (List Record × List ℕ) DecodeRefusal
some_of ([], rest) = Err (BadKind 0)
some_of (r ∷ rs, rest) = Ok (r ∷ rs, rest)

abbrev pub mtr : Format DecodeRefusal (List Record)
mtr = record {
  Has = λ rs. IsMtr rs × (length (spelling rs) ≤ 1024);
  text = spelling;
  read = λ bytes. (records 1024 0).read bytes >>= some_of;
}

all_laws : IsFormat refusals 0 (records 1024 0)
all_laws = records_laws 1024 0 (omega arith) (omega arith)

some_is : (rs : List Record) (rest : List ℕ) → 1 ≤ length rs → some_of (rs, rest) ≡ Ok (rs, rest)
some_is [] rest some = absurd (omega arith)
some_is (r ∷ rs) rest some = refl

some_tells : (x y : List Record × List ℕ) → some_of x ≡ Ok y → (x ≡ y) × (1 ≤ length y.0)
some_tells ([], rest) y e = absurd cc
some_tells (r ∷ rs, rest) y e = (same_ok refl e, subst (λ (z : List Record × List ℕ). 1 ≤ length z.0) (same_ok refl e) (omega arith))

some_fails : (x : List Record × List ℕ) (e : DecodeRefusal) → some_of x ≡ Err e → (x.0 ≡ []) × (BadKind 0 ≡ e)
some_fails ([], rest) e h = (refl, same_err refl h)
some_fails (r ∷ rs, rest) e h = absurd cc

-- a mini-transaction is more than an end mark
begun_some : (b : ℕ) (t : List ℕ) → Begun (records 1024 0) (b ∷ t) → Begun mtr (b ∷ t)
begun_some b t x = by x.value x.has x.parts
  where
    by : (rs : List Record) → AreFrom 0 rs → (b ∷ t) ++ x.more ≡ spelling rs → Begun mtr (b ∷ t)
    by [] has parts = absurd (omega (arith, x.some, ap length parts, length-append t x.more))
    by (r ∷ rs) has parts = record { value = r ∷ rs; more = x.more; has = ((omega arith, has.0), omega (arith, has.1)); some = x.some; parts = parts }

opens : (bytes : List ℕ) → IsBytes bytes → mtr.read bytes ≡ Err Short → Begun mtr bytes
opens [] fit e = record { value = Drop 0 ∷ []; more = spelling (Drop 0 ∷ []); has = ((omega arith, (omega arith, tt)), omega arith); some = omega arith; parts = refl }
opens (b ∷ t) fit e =
    elim (bind_err ((records 1024 0).read (b ∷ t)) some_of Short e) [
      | inl short ↦ begun_some b t (all_laws.opens (b ∷ t) fit short)
      | inr a ↦ absurd (let wrong = (some_fails a.0 Short a.2).1 in cc)
    ]

-- an end mark alone, whatever follows, is refused
pub end_alone : (rest : List ℕ) → mtr.read (6 ∷ rest) ≡ Err (BadKind 0)
end_alone rest = bind some_of (all_laws.back [] rest (tt, omega arith))

pub mtr_laws : IsFormat refusals 0 mtr
mtr_laws = record {
  one = (Drop 0 ∷ [], ((omega arith, (omega arith, tt)), omega arith));
  fit = λ rs has. all_laws.fit rs (has.0.1, omega (arith, has.1));
  back = λ rs rest has. bind some_of (all_laws.back rs rest (has.0.1, omega (arith, has.1))) ∙ some_is rs rest has.0.0;
  from = λ bytes rs rest fit e. (let a = bind_ok ((records 1024 0).read bytes) some_of (rs, rest) e in
      let s = some_tells a.0 (rs, rest) a.2 in
      let p = all_laws.from bytes rs rest fit (a.1 ∙ ap (λ x. Ok x) s.0) in
      (((s.1, p.0.0), omega (arith, p.0.1)), p.1));
  opens = opens;
  stays = λ bytes more e fit other h. elim (bind_err ((records 1024 0).read bytes) some_of e h) [
    | inl failed ↦ (let p = all_laws.stays bytes more e fit other failed in (bind some_of p.0, p.1))
    | inr a ↦
        let s = some_fails a.0 e a.2 in
        let p = all_laws.from bytes a.0.0 a.0.1 fit a.1 in
        let text : bytes ≡ 6 ∷ a.0.1 = p.1 ∙ ap (λ rs. spelling rs ++ a.0.1) s.0 in
        (ap (λ t. mtr.read (t ++ more)) text ∙ end_alone (a.0.1 ++ more) ∙ ap (λ d. Err d) s.1, subst (λ d. refusals.place d < 0 + length bytes) s.1 (omega (arith, ap length text)))
  ];
}

pub has_of : (bytes : List ℕ) (rs : List Record) → Spells bytes rs → mtr.Has rs
has_of bytes rs spells = (spells.mtr, rw (← spells.text) spells.short)

-- no spelling of a mini-transaction begins another
pub one_spelling : (a b x y : List ℕ) (m n : List Record) → Spells a m → Spells b n → a ++ x ≡ b ++ y → (a ≡ b) × (m ≡ n)
one_spelling a b x y m n p q e =
    let same = unique mtr_laws m n x y (has_of a m p) (has_of b n q) (ap (λ t. t ++ x) (sym p.text) ∙ e ∙ ap (λ t. t ++ y) q.text) in
    (p.text ∙ ap spelling same.0 ∙ sym q.text, same.0)

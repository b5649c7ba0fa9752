-- Records whose spellings stand one behind the other are read one after another.
use Rattle.std.proofs.Common.{◌≡◌, ℕ, zero, suc, ◌≤◌, List, [], ◌∷◌, length, None, Some, Ok, Err, refl, sym, ap, subst, ◌∙◌, arith}
use Rattle.std.specs.Prelude.{option_map}
use Rattle.std.specs.declared.option.Option.{Option}
use Rattle.std.specs.List.{AllByRecursion}
use Rattle.std.proofs.lemmas.List.{length-append}
use Rattle.clone_bytes.proofs.Answers.{same_ok}
use Rattle.clone_mtr.specs.Answers.{IsNext}
use Rattle.clone_mtr.specs.Records.{IsRecord}
use Rattle.clone_mtr.specs.Spelling.{record_spelling}
use Rattle.clone_mtr.specs.Reading.{item_at}
use Rattle.clone_mtr.specs.References.{record_of}
use Rattle.clone_mtr.specs.Left.{and_behind, first_records, records_of, AreRecords}
use Rattle.clone_mtr.specs.declared.record.Record.{Record}
use Rattle.clone_mtr.specs.declared.reference.RecordRef.{RecordRef}
use Rattle.clone_mtr.specs.declared.refusal.DecodeRefusal.TheVariants.{Short}
use Rattle.clone_mtr.proofs.Items.{item_laws}
use Rattle.clone_mtr.proofs.Spellings.{text_of, record_some}

nothing_read : item_at 0 [] ≡ Err Short
unfolding item_at
nothing_read = refl

first_read : (r : Record) (rs : List Record) → IsRecord r → length (text_of (r ∷ rs)) ≤ 1023 → item_at 0 (text_of (r ∷ rs)) ≡ Ok (Some r, text_of rs)
first_read r rs is short = (item_laws 0).back (Some r) (text_of rs) (is, omega (arith, length-append (record_spelling r) (text_of rs)))

first_back : (n : ℕ) (rs : List Record) → AllByRecursion IsRecord rs → length (text_of rs) ≤ 1023 → length (text_of rs) ≤ n → first_records n (text_of rs) ≡ rs
first_back zero [] each short some = refl
first_back (suc n) [] each short some = ap (and_behind (first_records n)) nothing_read
first_back zero (r ∷ rs) each short some = absurd (omega (arith, record_some r, length-append (record_spelling r) (text_of rs)))
first_back (suc n) (r ∷ rs) each short some =
    let long = length-append (record_spelling r) (text_of rs) in
    ap (and_behind (first_records n)) (first_read r rs each.0 short) ∙ ap (λ rest. r ∷ rest) (first_back n rs each.1 (omega arith) (omega (arith, record_some r)))

-- what is spelled is read
pub records_back : (rs : List Record) → AllByRecursion IsRecord rs → length (text_of rs) ≤ 1023 → records_of (text_of rs) ≡ rs
records_back rs each short = first_back (length (text_of rs)) rs each short (omega arith)

pub are_records : (rs : List Record) → AllByRecursion IsRecord rs → length (text_of rs) ≤ 1023 → AreRecords (text_of rs)
are_records rs each short = let back = records_back rs each short in record {
  each = rw back each;
  text = ap text_of (sym back);
  short = omega (arith, short);
}

-- the record that is read first of these bytes, and those behind it
pub record Begins (left : List ℕ) : Type 0 where
  pub first : Record
  pub behind : List Record
  pub are : records_of left ≡ first ∷ behind
  pub read : item_at 0 left ≡ Ok (Some first, text_of behind)
  pub back : records_of (text_of behind) ≡ behind
  pub behind_are : AreRecords (text_of behind)

pub begins : (left : List ℕ) → AreRecords left → 1 ≤ length left → Begins left
begins left is some = by (records_of left) refl is.each is.text
  where
    by : (rs : List Record) → records_of left ≡ rs → AllByRecursion IsRecord rs → left ≡ text_of rs → Begins left
    by [] are each text = absurd (omega (arith, ap length text))
    by (r ∷ rs) are each text =
        let short : length (text_of (r ∷ rs)) ≤ 1023 = omega (arith, is.short, ap length text) in
        let less : length (text_of rs) ≤ 1023 = omega (arith, length-append (record_spelling r) (text_of rs)) in
        record {
          first = r;
          behind = rs;
          are = are;
          read = ap (item_at 0) text ∙ first_read r rs each.0 short;
          back = records_back rs each.1 less;
          behind_are = are_records rs each.1 less;
        }

-- what is left behind the record that was read
pub left_are : (left rest : List ℕ) (x : Option Record) → Begins left → item_at 0 left ≡ Ok (x, rest) → AreRecords rest
left_are left rest x b read = subst AreRecords (ap (λ p. p.1) (same_ok b.read read)) b.behind_are

pub is_next : (left rest : List ℕ) (x : Option RecordRef) → Begins left → item_at 0 left ≡ Ok (option_map record_of x, rest) → IsNext (records_of left) (records_of rest) x
is_next left rest None b read = absurd (let same = ap (λ p. p.0) (same_ok b.read read) in cc)
is_next left rest (Some entry) b read =
    let same = same_ok b.read read in
    let first : b.first ≡ record_of entry = (let some = ap (λ p. p.0) same in cc) in
    let behind : records_of rest ≡ b.behind = ap records_of (sym (ap (λ p. p.1) same)) ∙ b.back in
    rw (← first, behind) b.are

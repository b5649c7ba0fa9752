-- Reading item after item, as the decoder does.
use Rattle.std.proofs.Common.{◌≡◌, ℕ, zero, suc, ◌+◌, ◌-◌, ◌<◌, ◌≤◌, List, [], ◌∷◌, ◌++◌, length, take, drop, None, Some, Ok, Err, refl, sym, ap, subst, ◌∙◌, append_assoc, arith, inl, inr}
use Rattle.std.specs.List.{AllByRecursion}
use Rattle.std.proofs.lemmas.List.{append-nil, length-append, take_at}
use Rattle.clone_base.proofs.Lists.{All-push}
use Rattle.clone_bytes.specs.Fields.{IsBytes}
use Rattle.clone_bytes.specs.Formats.{Begun}
use Rattle.clone_bytes.proofs.Numbers.{IsBytes-back, IsBytes-take}
use Rattle.clone_bytes.proofs.Answers.{bind}
use Rattle.clone_bytes.proofs.FirstBytes.{Decides, none_yet, none_ever, first_byte}
use Rattle.clone_mtr.specs.Records.{IsRecord}
use Rattle.clone_mtr.specs.Spelling.{record_spelling, spelling, Spells}
use Rattle.clone_mtr.specs.Answers.{BeginsNone, IsLost, IsFront, Stops, Decodes}
use Rattle.clone_mtr.specs.declared.record.Record.{Record}
use Rattle.clone_mtr.specs.declared.refusal.DecodeRefusal.{DecodeRefusal}
use Rattle.clone_mtr.specs.declared.refusal.DecodeRefusal.TheVariants.{Short, BadKind, OutOfPage, TooLong}
use Rattle.clone_mtr.specs.Reading.{refusals, item_at}
use Rattle.clone_mtr.proofs.Items.{item_laws}
use Rattle.clone_mtr.proofs.Spellings.{text_of, spelling_is, record_some, records, some_of, mtr, mtr_laws, has_of, end_alone}

pub decides : Decides refusals
decides Short = inl refl
decides (BadKind at) = inr (λ h. cc)
decides (OutOfPage at) = inr (λ h. cc)
decides TooLong = inr (λ h. cc)

-- the bytes are these records and then a rest
pub record Splits (bytes : List ℕ) (rs : List Record) (rest : List ℕ) : Type 0 where
  pub parts : bytes ≡ text_of rs ++ rest
  pub below : length (text_of rs) ≤ 1023
  pub each : AllByRecursion IsRecord rs
  pub fits : IsBytes bytes

-- nothing was read yet
pub Splits-none : (bytes : List ℕ) → IsBytes bytes → Splits bytes [] bytes
Splits-none bytes fits = record { parts = refl; below = omega arith; each = tt; fits = fits }

-- how far the reading has come
pub offset_is : (bytes rest : List ℕ) (rs : List Record) → Splits bytes rs rest → length bytes - length rest ≡ length (text_of rs)
offset_is bytes rest rs so_far = let whole = ap length so_far.parts ∙ length-append (text_of rs) rest in omega arith

text-push : (rs : List Record) (r : Record) → text_of (rs ++ r ∷ []) ≡ text_of rs ++ record_spelling r
text-push [] r = append-nil (record_spelling r)
text-push (s ∷ rs) r = ap (λ t. record_spelling s ++ t) (text-push rs r) ∙ sym (append_assoc (record_spelling s) (text_of rs) (record_spelling r))

rest_fits : (bytes rest : List ℕ) (rs : List Record) → Splits bytes rs rest → IsBytes rest
rest_fits bytes rest rs so_far = IsBytes-back (text_of rs) rest (subst IsBytes so_far.parts so_far.fits)

-- one more record
pub next_more : (bytes rest left : List ℕ) (rs : List Record) (r : Record) (at : ℕ) → at ≡ length (text_of rs) → Splits bytes rs rest → item_at at rest ≡ Ok (Some r, left) → Splits bytes (rs ++ r ∷ []) left × (length left < length rest)
next_more bytes rest left rs r at here so_far found =
    let taken = (item_laws at).from rest (Some r) left (rest_fits bytes rest rs so_far) found in
    let longer = ap length (text-push rs r) ∙ length-append (text_of rs) (record_spelling r) in (
      record {
        below = omega (arith, taken.0.1);
        parts = so_far.parts ∙ ap (λ t. text_of rs ++ t) taken.1 ∙ sym (append_assoc (text_of rs) (record_spelling r) left) ∙ ap (λ t. t ++ left) (sym (text-push rs r));
        each = All-push IsRecord rs r so_far.each taken.0.0;
        fits = so_far.fits;
      },
      omega (arith, record_some r, ap length taken.1, length-append (record_spelling r) left),
    )

-- where the end mark is read the front is a spelling
pub ended : (bytes rest left : List ℕ) (rs : List Record) (at : ℕ) → at ≡ length (text_of rs) → Splits bytes rs rest → item_at at rest ≡ Ok (None, left) → 1 ≤ length rs → Spells (take (at + 1) bytes) rs × (at + 1 ≤ length bytes)
ended bytes rest left rs at here so_far end some =
    let mark = ((item_laws at).from rest None left (rest_fits bytes rest rs so_far) end).1 in
    let parts : bytes ≡ spelling rs ++ left = so_far.parts ∙ ap (λ t. text_of rs ++ t) mark ∙ sym (append_assoc (text_of rs) (6 ∷ []) left) ∙ ap (λ t. t ++ left) (sym (spelling_is rs)) in
    let long : length (spelling rs) ≡ at + 1 = ap length (spelling_is rs) ∙ length-append (text_of rs) (6 ∷ []) ∙ omega arith in
    let whole = ap length parts ∙ length-append (spelling rs) left in
    let text : take (at + 1) bytes ≡ spelling rs = ap (take (at + 1)) parts ∙ take_at (spelling rs) left (at + 1) long in
    (record { mtr = (some, so_far.each); text = text; short = rw text (omega (arith, so_far.below)) }, omega arith)

-- ---- refusals

-- where an item is refused, so are the records with it
refused_past : (rs : List Record) (n at : ℕ) (rest : List ℕ) (e : DecodeRefusal) → AllByRecursion IsRecord rs → at + length (text_of rs) ≤ 1023 → 1024 ≤ at + n → item_at (at + length (text_of rs)) rest ≡ Err e
    → (records n at).read (text_of rs ++ rest) ≡ Err e
refused_past rs zero at rest e each below far failed = absurd (omega arith)
refused_past [] (suc n) at rest e each below far failed =
    let here : at + 0 ≡ at = omega arith in
    let item : item_at at rest ≡ Err e = ap (λ k. item_at k rest) (sym here) ∙ failed in
    rw item refl
refused_past (r ∷ rs) (suc n) at rest e each below far failed =
    let long = length-append (record_spelling r) (text_of rs) in
    let some = record_some r in
    let item : item_at at (record_spelling r ++ (text_of rs ++ rest)) ≡ Ok (Some r, text_of rs ++ rest) = (item_laws at).back (Some r) (text_of rs ++ rest) (each.0, omega arith) in
    let there : at + length (text_of (r ∷ rs)) ≡ (at + length (record_spelling r)) + length (text_of rs) = omega arith in
    let more = refused_past rs n (at + length (record_spelling r)) rest e each.1 (omega arith) (omega arith) (ap (λ k. item_at k rest) (sym there) ∙ failed) in
    ap (records (suc n) at).read (append_assoc (record_spelling r) (text_of rs) rest) ∙ rw (item, more) refl

pub refused_by : (rs : List Record) (rest : List ℕ) (e : DecodeRefusal) → AllByRecursion IsRecord rs → length (text_of rs) ≤ 1023 → item_at (length (text_of rs)) rest ≡ Err e → mtr.read (text_of rs ++ rest) ≡ Err e
refused_by rs rest e each below failed =
    let there : 0 + length (text_of rs) ≡ length (text_of rs) = omega arith in
    bind some_of (refused_past rs 1024 0 rest e each (omega arith) (omega arith) (ap (λ k. item_at k rest) there ∙ failed))

begins_none : (bytes : List ℕ) (e : DecodeRefusal) → mtr.read bytes ≡ Err e → BeginsNone bytes
begins_none bytes e failed front rest rs split spells = none_yet mtr_laws bytes rest e rs failed (has_of front rs spells) (split ∙ ap (λ t. t ++ rest) spells.text)

lost : (bytes : List ℕ) (e : DecodeRefusal) → IsBytes bytes → (e ≡ Short → ⊥) → mtr.read bytes ≡ Err e → IsLost bytes
lost bytes e fit other failed more front rest rs split spells = none_ever mtr_laws bytes more rest e rs fit other failed (has_of front rs spells) (split ∙ ap (λ t. t ++ rest) spells.text)

front_of : (bytes : List ℕ) → Begun mtr bytes → IsFront bytes
front_of bytes x = (x.more, (x.value, (x.some, record { mtr = x.has.0; text = x.parts; short = rw x.parts x.has.1 })))

stops : (bytes rest : List ℕ) (rs : List Record) (e : DecodeRefusal) → (e ≡ Short → ⊥) → Splits bytes rs rest → item_at (length (text_of rs)) rest ≡ Err e → mtr.read bytes ≡ Err e → Stops bytes e
stops bytes rest rs e other so_far failed all =
    let turn = first_byte mtr_laws decides bytes e so_far.fits other all in
    record {
      records = rs;
      rest = rest;
      each = so_far.each;
      parts = so_far.parts;
      below = omega (arith, so_far.below);
      refused = failed;
      offset = turn.count;
      within = turn.within;
      before = front_of (take turn.count bytes) turn.before;
      with_it = lost (take (turn.count + 1) bytes) e (IsBytes-take (turn.count + 1) bytes so_far.fits) other turn.refused;
    }

-- the answer where an item is refused
pub refuses : (bytes rest : List ℕ) (rs : List Record) (at : ℕ) (e : DecodeRefusal) → at ≡ length (text_of rs) → Splits bytes rs rest → item_at at rest ≡ Err e → Decodes bytes (Err e)
refuses bytes rest rs at e here so_far failed = by e (subst (λ n. item_at n rest ≡ Err e) here failed)
  where
    all : (e : DecodeRefusal) → item_at (length (text_of rs)) rest ≡ Err e → mtr.read bytes ≡ Err e
    all e failed = ap mtr.read so_far.parts ∙ refused_by rs rest e so_far.each so_far.below failed

    never : (e : DecodeRefusal) → (e ≡ Short → ⊥) → item_at (length (text_of rs)) rest ≡ Err e → BeginsNone bytes × IsLost bytes × Stops bytes e
    never e other failed = (begins_none bytes e (all e failed), lost bytes e so_far.fits other (all e failed), stops bytes rest rs e other so_far failed (all e failed))

    by : (e : DecodeRefusal) → item_at (length (text_of rs)) rest ≡ Err e → Decodes bytes (Err e)
    by Short failed = (begins_none bytes Short (all Short failed), front_of bytes (mtr_laws.opens bytes so_far.fits (all Short failed)))
    by (BadKind k) failed = (let p = never (BadKind k) (λ h. cc) failed in (p.0, p.1, inl p.2))
    by (OutOfPage k) failed = never (OutOfPage k) (λ h. cc) failed
    by TooLong failed = never TooLong (λ h. cc) failed

-- where nothing was read the end mark stands first
pub ends_first : (bytes rest left : List ℕ) (rs : List Record) → Splits bytes rs rest → length (text_of rs) ≡ 0 → item_at 0 rest ≡ Ok (None, left) → Decodes bytes (Err (BadKind 0))
ends_first bytes rest left (r ∷ rs) so_far none e = absurd (omega (arith, record_some r, length-append (record_spelling r) (text_of rs)))
ends_first bytes rest left [] so_far none e =
    let mark : bytes ≡ 6 ∷ left = so_far.parts ∙ ((item_laws 0).from rest None left (rest_fits bytes rest [] so_far) e).1 in
    let failed : mtr.read bytes ≡ Err (BadKind 0) = ap mtr.read mark ∙ end_alone left in
    (begins_none bytes (BadKind 0) failed, lost bytes (BadKind 0) so_far.fits (λ h. cc) failed, inr (refl, mark ∙ ap (λ t. 6 ∷ drop 1 t) (sym mark)))

-- the bytes before the end mark
pub front_is : (bytes rest : List ℕ) (rs : List Record) (at : ℕ) → at ≡ length (text_of rs) → Splits bytes rs rest → take at bytes ≡ text_of rs
front_is bytes rest rs at here so_far = ap (take at) so_far.parts ∙ take_at (text_of rs) rest at (sym here)

-- a text is of one record at least
pub some_read : (rs : List Record) → 1 ≤ length (text_of rs) → 1 ≤ length rs
some_read [] some = absurd (omega arith)
some_read (r ∷ rs) some = omega arith

-- A row and the value behind it.
use Rattle.std.proofs.Common.{◌≡◌, ℕ, List, [], ◌∷◌, ◌++◌, Option, Some, None, IfSome, option_map, sym, ap, ◌∙◌, append_assoc}
use Rattle.clone_model.specs.Texts.{value_text}
use Rattle.clone_model.specs.Ranges.{IsScriptValue}
use Rattle.clone_script.specs.Fields.{IsRowField, IsRowWithValue, row_text, row_with_value_text}
use Rattle.clone_script.specs.declared.fields.RowField.{RowField}
use Rattle.clone_script.specs.Reading.{Parses}

-- a value stands behind the row
value-parts : (read : RowField × List ℕ) → row_with_value_text read ≡ row_text read.0 ++ 32 ∷ value_text read.1
value-parts read = append_assoc (row_text read.0) (32 ∷ []) (value_text read.1)

-- what was read of the text behind the blank makes the whole
pub with_value : (text rest : List ℕ) (row : RowField) (read : Option (List ℕ)) → IsRowField row → text ≡ row_text row ++ 32 ∷ rest
    → ((r : RowField) (others : List ℕ) → IsRowField r → text ≡ row_text r ++ 32 ∷ others → (row ≡ r) × (rest ≡ others))
    → IfSome read (λ v. IsScriptValue v × (rest ≡ value_text v)) → ((v : List ℕ) → IsScriptValue v → rest ≡ value_text v → read ≡ Some v)
    → Parses IsRowWithValue row_with_value_text text (option_map (λ v. (row, v)) read)
with_value text rest row (Some value) is e front some only = record {
  some = ((is, some.0), e ∙ ap (λ t. row_text row ++ 32 ∷ t) some.1 ∙ sym (value-parts (row, value)));
  only = λ x in_range same.
      let p = front x.0 (value_text x.1) in_range.0 (same ∙ value-parts x) in
      let v = only x.1 in_range.1 p.1 in
      ap (λ q. option_map (λ v. (q, v)) (Some value)) p.0 ∙ ap (λ o. option_map (λ v. (x.0, v)) o) v;
}
with_value text rest row None is e front some only = record {
  some = tt;
  only = λ x in_range same.
      let p = front x.0 (value_text x.1) in_range.0 (same ∙ value-parts x) in
      ap (λ o. option_map (λ v. (x.0, v)) o) (only x.1 in_range.1 p.1);
}

-- Lines by their words and their fields.
use Rattle.std.proofs.Common.{◌≡◌, ℕ, List, [], ◌∷◌, ◌++◌, Option, Some, None, option_map, drop, refl, sym, ap, ◌∙◌, arith}
use Rattle.std.specs.Prelude.{codes}
use Rattle.clone_script.specs.Lines.{line_text, IsInRange}
use Rattle.clone_script.specs.declared.lines.Line.{Line}
use Rattle.clone_script.specs.declared.lines.Line.TheVariants.{Drop, Put, Delete, Get, Serve, Set, Start, Status}
use Rattle.clone_script.specs.Fields.{IsRowField, IsRowWithValue, row_text, row_with_value_text}
use Rattle.clone_script.specs.declared.fields.RowField.{RowField}
use Rattle.clone_script.specs.Reading.{Parses, ParsesLine}

-- the first byte of a text
abbrev pub first_of : List ℕ → ℕ
first_of [] = 0
first_of (b ∷ text) = b

-- What is read of the fields makes the line, where each line with this front is one of such fields.
pub made_line : {X : Type 0} (InRange : X → Type 0) (text_of : X → List ℕ) (make : X → Line) (front fields : List ℕ)
    → ((x : X) → InRange x → IsInRange (make x)) → ((x : X) → line_text (make x) ≡ front ++ text_of x)
    → ((l : Line) → IsInRange l → front ++ fields ≡ line_text l → (x : X) × InRange x × (fields ≡ text_of x) × (l ≡ make x))
    → (read : Option X) → Parses InRange text_of fields read → ParsesLine (front ++ fields) (option_map make read)
made_line InRange text_of make front fields there text back (Some x) h = record {
  some = (there x h.some.0, ap (λ t. front ++ t) h.some.1 ∙ sym (text x));
  only = λ l r e. let b = back l r e in ap (λ o. option_map make o) (h.only b.0 b.1 b.2) ∙ ap Some (sym b.3);
}
made_line InRange text_of make front fields there text back None h = record {
  some = tt;
  only = λ l r e. let b = back l r e in ap (λ o. option_map make o) (h.only b.0 b.1 b.2) ∙ ap Some (sym b.3);
}

fields-put : (fields : List ℕ) (l : Line) → IsInRange l → codes "put " ++ fields ≡ line_text l → (x : RowField × List ℕ) × IsRowWithValue x × (fields ≡ row_with_value_text x) × (l ≡ Put x.0.number x.0.table x.0.key x.1)
fields-put fields (Put trx table key value) r e = ((record { number = trx; table = table; key = key }, value), ((r.0, r.1, r.2), r.3), ap (drop 4) e, refl)
fields-put fields l r e = absurd (omega (arith, ap first_of e))

pub Parses-put : (fields : List ℕ) (read : Option (RowField × List ℕ)) → Parses IsRowWithValue row_with_value_text fields read → ParsesLine (codes "put " ++ fields) (option_map (λ x. Put x.0.number x.0.table x.0.key x.1) read)
Parses-put fields read h = made_line IsRowWithValue row_with_value_text (λ x. Put x.0.number x.0.table x.0.key x.1) (codes "put ") fields (λ x is. (is.0.0, is.0.1, is.0.2, is.1)) (λ x. refl) (fields-put fields) read h

fields-set : (fields : List ℕ) (l : Line) → IsInRange l → codes "set " ++ fields ≡ line_text l → (x : RowField × List ℕ) × IsRowWithValue x × (fields ≡ row_with_value_text x) × (l ≡ Set x.0.number x.0.table x.0.key x.1)
fields-set fields (Set writer table key value) r e = ((record { number = writer; table = table; key = key }, value), ((r.0, r.1, r.2), r.3), ap (drop 4) e, refl)
fields-set fields Start r e = absurd (omega (arith, ap (λ t. first_of (drop 1 t)) e))
fields-set fields Status r e = absurd (omega (arith, ap (λ t. first_of (drop 1 t)) e))
fields-set fields (Serve connection) r e = absurd (omega (arith, ap (λ t. first_of (drop 2 t)) e))
fields-set fields l r e = absurd (omega (arith, ap first_of e))

pub Parses-set : (fields : List ℕ) (read : Option (RowField × List ℕ)) → Parses IsRowWithValue row_with_value_text fields read → ParsesLine (codes "set " ++ fields) (option_map (λ x. Set x.0.number x.0.table x.0.key x.1) read)
Parses-set fields read h = made_line IsRowWithValue row_with_value_text (λ x. Set x.0.number x.0.table x.0.key x.1) (codes "set ") fields (λ x is. (is.0.0, is.0.1, is.0.2, is.1)) (λ x. refl) (fields-set fields) read h

fields-del : (fields : List ℕ) (l : Line) → IsInRange l → codes "del " ++ fields ≡ line_text l → (x : RowField) × IsRowField x × (fields ≡ row_text x) × (l ≡ Delete x.number x.table x.key)
fields-del fields (Delete trx table key) r e = (record { number = trx; table = table; key = key }, r, ap (drop 4) e, refl)
fields-del fields (Drop table) r e = absurd (omega (arith, ap (λ t. first_of (drop 1 t)) e))
fields-del fields l r e = absurd (omega (arith, ap first_of e))

pub Parses-del : (fields : List ℕ) (read : Option (RowField)) → Parses IsRowField row_text fields read → ParsesLine (codes "del " ++ fields) (option_map (λ x. Delete x.number x.table x.key) read)
Parses-del fields read h = made_line IsRowField row_text (λ x. Delete x.number x.table x.key) (codes "del ") fields (λ x is. is) (λ x. refl) (fields-del fields) read h

fields-get : (fields : List ℕ) (l : Line) → IsInRange l → codes "get " ++ fields ≡ line_text l → (x : RowField) × IsRowField x × (fields ≡ row_text x) × (l ≡ Get x.number x.table x.key)
fields-get fields (Get trx table key) r e = (record { number = trx; table = table; key = key }, r, ap (drop 4) e, refl)
fields-get fields l r e = absurd (omega (arith, ap first_of e))

pub Parses-get : (fields : List ℕ) (read : Option (RowField)) → Parses IsRowField row_text fields read → ParsesLine (codes "get " ++ fields) (option_map (λ x. Get x.number x.table x.key) read)
Parses-get fields read h = made_line IsRowField row_text (λ x. Get x.number x.table x.key) (codes "get ") fields (λ x is. is) (λ x. refl) (fields-get fields) read h

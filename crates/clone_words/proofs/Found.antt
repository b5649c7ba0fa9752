-- Where a parse finds no fault, each option that is required or has a usual value is found.
use Rattle.std.proofs.Common.{◌≡◌, ◌∙◌, ◌<◌, ◌&&◌, ◌||◌, Bool, cond, true, false, not, refl, sym, ap, subst, arith, List, [], ◌∷◌, length, ne_eqb, Option, Some, None}
use Rattle.std.specs.Prelude.{find, fold}
use Rattle.std.specs.List.{AllByRecursion, list_any}
use Rattle.std.specs.Str.{bytes_eq}
use Rattle.std.proofs.lemmas.Slice.Eq.{bytes_eq-Decides}
use Rattle.clap.specs.Facts.{parser_of_value}
use Rattle.clap.specs.Values.{Accepts}
use Rattle.clap.specs.ValueTests.{accepts}
use Rattle.clap.specs.Kinds.{check_kinds, request_kinds, value_kinds, values_kinds}
use Rattle.clap.specs.Simple.{Shape}
use Rattle.clap.specs.Takes.{is_given}
use Rattle.clap.specs.Faults.{default_fault, defaults_fault, given_default_fault, level_fault, values_fault}
use Rattle.clap.specs.Walk.{Row, Rule, Text, action_of, default_rows, has_row, is_empty, nothing_held, reading_by, rows_after, walk, walk_from, with_default, with_values}
use Rattle.clap.specs.declared.builder.value_parser.Reading.{Reading}
use Rattle.clap.specs.declared.builder.value_parser.Reading.TheVariants as reading
use Rattle.clap.specs.declared.builder.value_parser.ValueParser.{ValueParser}
use Rattle.clap.specs.declared.parser.matches.ValueSource.{ValueSource}
use Rattle.clap.specs.declared.parser.matches.ValueSource.TheVariants.{DefaultValue}
use Rattle.clap.proofs.ValueTestLemmas.{accepts-Accepts}
use Rattle.clone_words.specs.Commands.{AreFound, IsFound}
use Rattle.clone_words.proofs.Rows.{AllGood, IsGood, IsOwn, or_else_nil, some_is, with_values_good}
use Rattle.clone_words.proofs.Walks.{AreOwn, settled_good, walk_good}

-- ---- usual values

not_empty : (v : Text) (vs : List Text) → is_empty (v ∷ vs) ≡ false
not_empty v vs = ne_eqb _ _ (λ (e : length (v ∷ vs) ≡ 0). omega (arith, e))

with_default_good : (c : List Rule) (rows : List Row) (a : Rule) → IsOwn c a → default_fault rows a ≡ [] → AllGood c rows
    → AllGood c (with_default rows a)
with_default_good c rows a own e good = go (has_row a.id rows) refl
  where
    values : (vs : List Text) → cond (is_empty vs) [] (given_default_fault a vs) ≡ [] → AllGood c (default_rows a.id (reading_by a) vs rows)
    values [] u = good
    values (v ∷ vs) u = with_values_good c a DefaultValue (v ∷ vs) rows own (or_else_nil (request_kinds (action_of a)) (values_fault a (v ∷ vs)) (rw (not_empty v vs) at u)).1 (omega arith) good

    go : (b : Bool) → has_row a.id rows ≡ b → AllGood c (with_default rows a)
    go true t = rw t good
    go false t = rw t (values a.defaults (rw t at e))

defaults_good : (c xs : List Rule) (rows : List Row) → AllByRecursion (IsOwn c) xs → defaults_fault rows xs ≡ [] → AllGood c rows
    → AllGood c (fold with_default rows xs)
unfolding defaults_fault
defaults_good c [] rows own e good = good
defaults_good c (a ∷ xs) rows own e good =
    let both = or_else_nil _ _ e in
    defaults_good c xs (with_default rows a) own.1 both.1 (with_default_good c rows a own.0 both.0 good)

-- ---- which rows there are

either : (a b : Bool) → (a || b) ≡ true → (a ≡ false → b ≡ true)
either true b e f = cc
either false b e f = e

row_kept : (id other : Text) (how : Reading) (s : ValueSource) (values : List Text) (rows : List Row) → has_row id rows ≡ true
    → has_row id (with_values other how s values rows) ≡ true
row_kept id other how s values [] e = cc
row_kept id other how s values (r ∷ rs) e =
    go (bytes_eq r.id other) refl (bytes_eq r.id id) refl (row_kept id other how s values rs)
  where
    go : (b : Bool) → bytes_eq r.id other ≡ b → (d : Bool) → bytes_eq r.id id ≡ d
        → (has_row id rs ≡ true → has_row id (with_values other how s values rs) ≡ true)
        → has_row id (with_values other how s values (r ∷ rs)) ≡ true
    go true t d u rest = rw t e
    go false t true u rest = rw (t, u) refl
    go false t false u rest = rw (t, u) (rest (rw u at e))

row_new : (id : Text) (how : Reading) (s : ValueSource) (values : List Text) (rows : List Row)
    → has_row id (with_values id how s values rows) ≡ true
row_new id how s values [] = rw ((bytes_eq-Decides id id).1 refl) refl
row_new id how s values (r ∷ rs) = go (bytes_eq r.id id) refl (row_new id how s values rs)
  where
    go : (b : Bool) → bytes_eq r.id id ≡ b → has_row id (with_values id how s values rs) ≡ true
        → has_row id (with_values id how s values (r ∷ rs)) ≡ true
    go true t rest = rw (t, t) refl
    go false t rest = rw (t, t) rest

default_kept : (id : Text) (rows : List Row) (a : Rule) → has_row id rows ≡ true → has_row id (with_default rows a) ≡ true
default_kept id rows a e = go (has_row a.id rows) refl
  where
    values : (vs : List Text) → has_row id (default_rows a.id (reading_by a) vs rows) ≡ true
    values [] = e
    values (v ∷ vs) = row_kept id a.id _ _ _ rows e

    go : (b : Bool) → has_row a.id rows ≡ b → has_row id (with_default rows a) ≡ true
    go true t = rw t e
    go false t = rw t (values a.defaults)

default_new : (rows : List Row) (a : Rule) → not (is_empty a.defaults) ≡ true → has_row a.id (with_default rows a) ≡ true
default_new rows a some = go (has_row a.id rows) refl
  where
    values : (vs : List Text) → not (is_empty vs) ≡ true → has_row a.id (default_rows a.id (reading_by a) vs rows) ≡ true
    values [] u = cc
    values (v ∷ vs) u = row_new a.id _ _ _ rows

    go : (b : Bool) → has_row a.id rows ≡ b → has_row a.id (with_default rows a) ≡ true
    go true t = rw t t
    go false t = rw t (values a.defaults some)

defaults_kept : (id : Text) (xs : List Rule) (rows : List Row) → has_row id rows ≡ true → has_row id (fold with_default rows xs) ≡ true
defaults_kept id [] rows e = e
defaults_kept id (a ∷ xs) rows e = defaults_kept id xs (with_default rows a) (default_kept id rows a e)

defaults_new : (xs : List Rule) (rows : List Row)
    → AllByRecursion (λ a. not (is_empty a.defaults) ≡ true → has_row a.id (fold with_default rows xs) ≡ true) xs
defaults_new [] rows = tt
defaults_new (a ∷ xs) rows =
    (λ some. defaults_kept a.id xs (with_default rows a) (default_new rows a some), defaults_new xs (with_default rows a))

-- ---- what is found

any_found : (id : Text) (rows : List Row) → has_row id rows ≡ true → (r : Row) × (find (λ r. bytes_eq r.id id) rows ≡ Some r)
any_found id [] e = cc
any_found id (r ∷ rs) e = go (bytes_eq r.id id) refl (any_found id rs)
  where
    go : (b : Bool) → bytes_eq r.id id ≡ b → (has_row id rs ≡ true → (x : Row) × (find (λ r. bytes_eq r.id id) rs ≡ Some x))
        → (x : Row) × (find (λ r. bytes_eq r.id id) (r ∷ rs) ≡ Some x)
    go true t rest = (r, rw t refl)
    go false t rest = let found = rest (rw t at e) in (found.0, rw t found.1)

given_found : (id : Text) (rows : List Row) → is_given id rows ≡ true → (r : Row) × (find (λ r. bytes_eq r.id id) rows ≡ Some r)
given_found id rows e = go (find (λ r. bytes_eq r.id id) rows) refl
  where
    go : (o : Option Row) → find (λ r. bytes_eq r.id id) rows ≡ o → (r : Row) × (find (λ r. bytes_eq r.id id) rows ≡ Some r)
    go None t = let bad : false ≡ true = rw t at e in cc
    go (Some r) t = (r, t)

found_good : (c : List Rule) (id : Text) (rows : List Row) (r : Row) → AllGood c rows → find (λ r. bytes_eq r.id id) rows ≡ Some r
    → IsGood c r × (r.id ≡ id)
found_good c id [] r good e = cc
found_good c id (x ∷ xs) r good e = go (bytes_eq x.id id) refl (found_good c id xs r good.1)
  where
    go : (b : Bool) → bytes_eq x.id id ≡ b → (find (λ r. bytes_eq r.id id) xs ≡ Some r → IsGood c r × (r.id ≡ id))
        → IsGood c r × (r.id ≡ id)
    go true t rest = subst (λ y. IsGood c y × (y.id ≡ id)) (some_is x r (rw t at e)) (good.0, (bytes_eq-Decides x.id id).0 t)
    go false t rest = rest (rw t at e)

first_passes : (ignore_case : Bool) (p : ValueParser) (v : Text) → value_kinds ignore_case p v ≡ [] → Accepts ignore_case p v
first_passes ignore_case p v e = go (accepts ignore_case p v) refl
  where
    go : (b : Bool) → accepts ignore_case p v ≡ b → Accepts ignore_case p v
    go true t = accepts-Accepts ignore_case p v t
    go false t = let bad = rw t at e in cc

row_found : (c : List Rule) (rows : List Row) (a : Rule) → IsOwn c a → AllGood c rows
    → (r : Row) × (find (λ r. bytes_eq r.id a.id) rows ≡ Some r) → IsFound rows a
row_found c rows a own good found =
    let is = found_good c a.id rows found.0 good found.1 in
    let same : is.0.a ≡ a = some_is _ _ (sym is.0.own ∙ (ap (λ id. find (λ x. bytes_eq x.id id) c) is.1 ∙ own.own)) in
    let plain : found.0.reading ≡ reading.AsWritten = is.0.reading ∙ (ap reading_by same ∙ own.plain) in
    go found.0.values refl is.0.some (rw same at is.0.pass) plain
  where
    go : (vs : List Text) → found.0.values ≡ vs → 0 < length found.0.values
        → values_kinds a.ignore_case (parser_of_value a.parser) found.0.values ≡ []
        → found.0.reading ≡ reading.AsWritten → IsFound rows a
    go [] is some pass plain = let bad : 0 < 0 = rw is at some in absurd (omega arith)
    go (v ∷ vs) is some pass plain =
        (v, rw (found.1, is, plain) refl, first_passes _ _ v (or_else_nil _ _ (rw is at pass)).0)

check_none : (a b c : Bool) → check_kinds a b c ≡ [] → c ≡ false
check_none true b c e = cc
check_none false true c e = cc
check_none false false true e = cc
check_none false false false e = refl

neither : (a b : Bool) → (a || b) ≡ false → (a ≡ false) × (b ≡ false)
neither true b e = cc
neither false b e = (refl, e)

was_given : (b : Bool) (rows : List Row) (a : Rule) → (a.required && not (is_given a.id rows)) ≡ false → a.required ≡ true → is_given a.id rows ≡ b → is_given a.id rows ≡ true
was_given true rows a e required t = t
was_given false rows a e required t = let bad : true ≡ false = rw (required, t) at e in cc

each_found : (c xs : List Rule) (rows : List Row) → AllByRecursion (IsOwn c) xs → AllGood c rows
    → AllByRecursion (λ a. not (is_empty a.defaults) ≡ true → has_row a.id rows ≡ true) xs
    → list_any (λ a. a.required && not (is_given a.id rows)) xs ≡ false
    → AreFound xs rows
unfolding AreFound
each_found c [] rows own good usual required = tt
each_found c (a ∷ xs) rows own good usual required =
    let both = neither _ _ required in
    (λ wanted. go a.required refl wanted both.0, each_found c xs rows own.1 good usual.1 both.1)
  where
    go : (b : Bool) → a.required ≡ b → (a.required || not (is_empty a.defaults)) ≡ true
        → (a.required && not (is_given a.id rows)) ≡ false → IsFound rows a
    go true t wanted e = row_found c rows a own.0 good (given_found a.id rows (was_given (is_given a.id rows) rows a e t refl))
    go false t wanted e = row_found c rows a own.0 good (any_found a.id rows (usual.0 (either _ _ wanted t)))

-- the options of a subcommand that was entered
pub options_found : (s : Shape) (words : List Text) → AreOwn s.rules → s.subcommand_negates_reqs ≡ false
    → level_fault s [] nothing_held words false [] ≡ [] → AreFound s.rules (rows_after s.rules [] words)
options_found s words options negates e =
    let walked = or_else_nil _ _ e in
    let settles = or_else_nil _ _ walked.1 in
    let defaults = or_else_nil _ _ settles.1 in
    let good = settled_good s.rules s.args_override_self (walk s.rules [] nothing_held words).held options settles.0 (walk_good s [] options words (walk_from nothing_held) walked.0 tt) in
    let required = check_none _ _ _ (rw negates at defaults.1) in
    each_found s.rules s.rules _ options.own (defaults_good s.rules s.rules _ options.own defaults.0 good) (defaults_new s.rules _) required

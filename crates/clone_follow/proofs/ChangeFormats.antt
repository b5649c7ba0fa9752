-- Changes one after the other, which fill so many bytes, are a format.
use Rattle.std.proofs.Common.{◌≡◌, ℕ, zero, suc, ◌+◌, ◌-◌, ◌≤◌, ◌==◌, Bool, true, false, cond, List, [], ◌∷◌, ◌++◌, length, None, Some, Result, Ok, Err, refl, sym, ap, subst, ◌∙◌, arith, inl, inr}
use Rattle.std.specs.declared.option.Option.{Option}
use Rattle.std.specs.List.{flat_map, AllByRecursion}
use Rattle.std.proofs.lemmas.Bool.{cases_Bool, eqb-true}
use Rattle.std.proofs.lemmas.List.{length-append, nil_from_length}
use Rattle.byteorder.specs.Endian.{big_bytes}
use Rattle.clone_bytes.specs.Fields.{IsBytes}
use Rattle.clone_bytes.specs.Formats.{Format, ◌>>=◌, followed, seen, nothing, IsFormat}
use Rattle.clone_bytes.proofs.Fields.{run_laws}
use Rattle.clone_bytes.proofs.Formats.{nothing_laws, followed_laws, seen_laws, made_laws, worded}
use Rattle.clone_model.specs.declared.change.Change.{Change}
use Rattle.clone_follow.specs.declared.fault.Fault.{Fault}
use Rattle.clone_follow.specs.Choices.{IsOneOf, MayFill, between, only, counts, sizes, sizes_of, kinds}
use Rattle.clone_follow.specs.Ranges.{IsValue, IsChange}
use Rattle.clone_follow.specs.Spelling.{size_of, value_bytes, change_bytes}
use Rattle.clone_follow.specs.Reading.{refusals, valued, value_in, IsNext, change_in, AreFilling, changes_in, counted}
use Rattle.clone_follow.proofs.FieldFormats.{IsChoice, words, number_in_laws, range_choice, in_range, only_one, same_number}

-- ---- how long changes are

pub change_long : (change : Change) → length (change_bytes change) ≡ 14 + size_of change.value
change_long change = by change.value
  where
    by : (value : Option (List ℕ)) → length (big_bytes 4 change.table ++ big_bytes 8 change.key ++ value_bytes value) ≡ 14 + size_of value
    by None = omega arith
    by (Some bytes) = omega arith

size_most : (value : Option (List ℕ)) → IsValue value → size_of value ≤ 64
size_most None is = omega arith
size_most (Some bytes) is = is.1

pub changes_fill : (changes : List Change) → AllByRecursion IsChange changes → MayFill (length changes) (length (flat_map change_bytes changes))
changes_fill [] are = record { low = omega arith; high = omega arith }
changes_fill (change ∷ changes) are =
    let rest = changes_fill changes are.1 in
    let long = length-append (change_bytes change) (flat_map change_bytes changes) in
    let own = change_long change in
    let most = size_most change.value are.0.value in
    record { low = omega (arith, rest.low); high = omega (arith, rest.high) }

-- ---- the value of a change

pub sizes_choice : (more long : ℕ) → MayFill (more + 1) long → IsChoice 1 (sizes more long)
sizes_choice more long fill = range_choice 1 _ _ (omega (arith, fill.low, fill.high)) (omega arith)

pub kinds_choice : (more long : ℕ) → IsChoice 1 (kinds more long)
kinds_choice more long = by ((sizes more long).least == 0)
  where
    by : (b : Bool) → IsChoice 1 (between (cond b 0 1) 1)
    by true = range_choice 1 0 1 (omega arith) (omega arith)
    by false = range_choice 1 1 1 (omega arith) (omega arith)

pub sizes_of_choice : (kind more long : ℕ) → MayFill (more + 1) long → IsChoice 1 (sizes_of kind more long)
sizes_of_choice kind more long fill = by (kind == 0)
  where
    by : (b : Bool) → IsChoice 1 (cond b (only 0) (sizes more long))
    by true = range_choice 1 0 0 (omega arith) (omega arith)
    by false = sizes_choice more long fill

abbrev Read : ℕ → ℕ → ℕ → ℕ → List ℕ → Type 0
Read more long kind size bytes = IsOneOf (kinds more long) kind × (IsOneOf (sizes_of kind more long) size × ((length bytes ≡ size) × IsBytes bytes))

value_text : (more long kind size : ℕ) (bytes : List ℕ) → Read more long kind size bytes → value_bytes (valued kind bytes) ≡ big_bytes 1 kind ++ (big_bytes 1 size ++ bytes)
value_text more long zero size bytes has =
    let none : size ≡ 0 = same_number 0 size has.1.0 in
    let empty : bytes ≡ [] = nil_from_length bytes (has.1.1.0 ∙ none) in
    rw (none, empty) refl
value_text more long (suc zero) size bytes has = rw has.1.1.0 refl
value_text more long (suc (suc kind)) size bytes has = absurd (omega (arith, has.0.high))

value_laws : (at more long p : ℕ) → at ≤ p → MayFill (more + 1) long → IsFormat refusals p (value_in at more long)
value_laws at more long p there fill =
    made_laws value_bytes _ (followed_laws (number_in_laws at 1 p (kinds more long) (kinds_choice more long) there) (λ kind k.
    followed_laws (number_in_laws (at + 1) 1 _ (sizes_of kind more long) (sizes_of_choice kind more long fill) (omega arith)) (λ size s. run_laws _ size)))
    (λ x has. value_text more long x.0 x.1.0 x.1.1 has)

-- no value, where the others may fill the rest
least_none : (more long : ℕ) → IsOneOf (kinds more long) 0 → (sizes more long).least ≡ 0
least_none more long one = by (sizes more long).least one.low
  where
    by : (least : ℕ) → cond (least == 0) 0 1 ≤ 0 → least ≡ 0
    by least low = elim (cases_Bool (least == 0)) [
      | inl none ↦ eqb-true least 0 none
      | inr some ↦ absurd (let above : 1 ≤ 0 = rw some at low in omega arith)
    ]

pub read_size : (more long kind size : ℕ) (bytes : List ℕ) → IsOneOf (kinds more long) kind → IsOneOf (sizes_of kind more long) size → length bytes ≡ size → IsOneOf (sizes more long) (size_of (valued kind bytes))
read_size more long zero size bytes one has count = (let none = least_none more long one in in_range _ _ 0 (omega arith) (omega arith))
read_size more long (suc zero) size bytes one has count = subst (IsOneOf (sizes more long)) (sym count) has
read_size more long (suc (suc kind)) size bytes one has count = absurd (omega (arith, one.high))

-- a value has at most 64 bytes, whatever its kind
pub size_within : (more long kind size : ℕ) → IsOneOf (sizes_of kind more long) size → size ≤ 64
size_within more long kind size one = by (kind == 0) one
  where
    by : (b : Bool) → IsOneOf (cond b (only 0) (sizes more long)) size → size ≤ 64
    by true is = omega (arith, is.high)
    by false is = omega (arith, is.high)

is_value : (kind : ℕ) (bytes : List ℕ) → length bytes ≤ 64 → IsBytes bytes → IsValue (valued kind bytes)
is_value kind bytes few fit = by (kind == 0)
  where
    by : (b : Bool) → IsValue (cond b None (Some bytes))
    by true = tt
    by false = (fit, few)

read_value : (more long kind size : ℕ) (bytes : List ℕ) → Read more long kind size bytes → IsValue (valued kind bytes) × IsOneOf (sizes more long) (size_of (valued kind bytes))
read_value more long kind size bytes has =
    (is_value kind bytes (omega (arith, has.1.1.0, size_within more long kind size has.1.0)) has.1.1.1, read_size more long kind size bytes has.0 has.1.0 has.1.1.0)

value_sound : (at more long : ℕ) (value : Option (List ℕ)) → (value_in at more long).Has value → IsValue value × IsOneOf (sizes more long) (size_of value)
value_sound at more long value has =
    subst (λ v. IsValue v × IsOneOf (sizes more long) (size_of v)) has.2 (read_value more long has.0.0 has.0.1.0 has.0.1.1 has.1)

value_onto : (at more long : ℕ) (value : Option (List ℕ)) → IsValue value → IsOneOf (sizes more long) (size_of value) → (value_in at more long).Has value
value_onto at more long None is one =
    let least : (sizes more long).least ≡ 0 = omega (arith, one.low) in
    let kind : IsOneOf (kinds more long) 0 = rw least (in_range 0 1 0 (omega arith) (omega arith)) in
    ((0, (0, [])), (kind, (only_one 0, (refl, λ i. omega arith))), refl)
value_onto at more long (Some bytes) is one =
    let kind : IsOneOf (kinds more long) 1 = by ((sizes more long).least == 0) in
    ((1, (length bytes, bytes)), (kind, (one, (refl, is.0))), refl)
  where
    by : (b : Bool) → IsOneOf (between (cond b 0 1) 1) 1
    by true = in_range 0 1 1 (omega arith) (omega arith)
    by false = in_range 1 1 1 (omega arith) (omega arith)

-- ---- a change

change_laws : (at p more long : ℕ) → at ≤ p → MayFill (more + 1) long → IsFormat refusals p (change_in at more long)
change_laws at p more long there fill =
    seen_laws _ _ _ (followed_laws (words 4) (λ table t. followed_laws (words 8) (λ key k. value_laws (at + 12) more long _ (omega arith) fill)))
    (λ x has. (let v = value_sound (at + 12) more long x.1.1 has.1.1 in ((record { table = has.0; key = has.1.0; value = v.0 }, v.1), refl)))
    (λ change is. ((change.table, (change.key, change.value)), (is.0.table, (is.0.key, value_onto (at + 12) more long change.value is.0.value is.1)), refl))

-- the rest is filled by the others
pub rest_fill : (more long : ℕ) (change : Change) → MayFill (more + 1) long → IsOneOf (sizes more long) (size_of change.value) → (length (change_bytes change) ≤ long) × MayFill more (long - length (change_bytes change))
rest_fill more long change fill one =
    let own = change_long change in
    let low = one.low in
    let high = one.high in
    (omega (arith, fill.low), record { low = omega (arith, fill.low); high = omega (arith, fill.high) })

-- ---- changes one after the other

abbrev Rest : Type 0
Rest = Change → List ℕ → Result (List Change × List ℕ) Fault

abbrev listing : Result (Change × List ℕ) Fault → Rest → Result (List Change × List ℕ) Fault
listing r s = r >>= λ first. s first.0 first.1 >>= λ more. Ok (first.0 ∷ more.0, more.1)

abbrev joined : Result (Change × List ℕ) Fault → Rest → Result ((Change × List Change) × List ℕ) Fault
joined r s = r >>= λ x. s x.0 x.1 >>= λ y. Ok ((x.0, y.0), y.1)

abbrev consed : Result ((Change × List Change) × List ℕ) Fault → Result (List Change × List ℕ) Fault
consed r = r >>= λ z. Ok (z.0.0 ∷ z.0.1, z.1)

in_turn : (r : Result (Change × List ℕ) Fault) (s : Rest) → listing r s ≡ consed (joined r s)
in_turn (Err e) s = refl
in_turn (Ok x) s = rest x (s x.0 x.1)
  where
    rest : (x : Change × List ℕ) (r : Result (List Change × List ℕ) Fault) → listing (Ok x) (λ first left. r) ≡ consed (joined (Ok x) (λ first left. r))
    rest x (Ok y) = refl
    rest x (Err e) = refl

abbrev after : ℕ → ℕ → ℕ → Change → Format Fault (List Change)
after at n long x = changes_in (at + length (change_bytes x)) n (long - length (change_bytes x))

filled : (n long : ℕ) (x : Change) (xs : List Change) → MayFill (n + 1) long → IsNext n long x → AreFilling n (long - length (change_bytes x)) xs → AreFilling (suc n) long (x ∷ xs)
filled n long x xs fill is rest =
    let own = rest_fill n long x fill is.1 in
    record {
      count = ap suc rest.count;
      fill = length-append (change_bytes x) (flat_map change_bytes xs) ∙ omega (arith, rest.fill, own.0);
      are = (is.0, rest.are);
    }

taken_apart : (n long : ℕ) (xs : List Change) → AreFilling (suc n) long xs → (x : Change × List Change) × (IsNext n long x.0 × AreFilling n (long - length (change_bytes x.0)) x.1) × (x.0 ∷ x.1 ≡ xs)
taken_apart n long [] has = absurd (omega (arith, has.count))
taken_apart n long (x ∷ xs) has =
    let count : length xs ≡ n = omega (arith, has.count) in
    let parts = length-append (change_bytes x) (flat_map change_bytes xs) in
    let rest = changes_fill xs has.are.1 in
    let own = change_long x in
    let most = size_most x.value has.are.0.value in
    let whole = has.fill in
    ((x, xs), ((has.are.0, in_range _ _ (size_of x.value) (omega (arith, rest.high)) (omega (arith, rest.low))), record { count = count; fill = omega arith; are = has.are.1 }), refl)

pub changes_laws : (n at p long : ℕ) → at ≤ p → MayFill n long → IsFormat refusals p (changes_in at n long)
changes_laws zero at p long there fill =
    let none : List Change = [] in
    let empty : long ≡ 0 = omega (arith, fill.high) in
    worded (nothing none) (changes_in at 0 long) (nothing_laws none) (λ bytes. refl)
    (λ xs e. subst (λ (ys : List Change). AreFilling 0 long ys × (flat_map change_bytes ys ≡ [])) e (record { count = refl; fill = sym empty; are = tt }, refl)) (λ xs has. sym (nil_from_length xs has.count))
changes_laws (suc n) at p long there fill =
    let more : MayFill (n + 1) long = record { low = omega (arith, fill.low); high = omega (arith, fill.high) } in
    let parts = followed (change_in at n long) (after at n long) in
    let whole : Format Fault (List Change) = seen (AreFilling (suc n) long) (flat_map change_bytes) (λ x. x.0 ∷ x.1) parts in
    worded whole (changes_in at (suc n) long)
    (seen_laws _ _ _ (followed_laws (change_laws at p n long there more) (λ x is. (let rest = rest_fill n long x more is.1 in changes_laws n (at + length (change_bytes x)) _ (long - length (change_bytes x)) (omega arith) rest.1)))
    (λ x has. (filled n long x.0 x.1 more has.0 has.1, refl)) (taken_apart n long))
    (λ bytes. in_turn ((change_in at n long).read bytes) (λ x. (after at n long x).read)) (λ xs has. (has, refl)) (λ xs has. has)

-- ---- their number, and they

pub count_fills : (long count : ℕ) → IsOneOf (counts long) count → MayFill count long
count_fills long count one = let low = one.low in let high = one.high in record { low = omega arith; high = omega arith }

pub counted_laws : (long p : ℕ) → IsChoice 2 (counts long) → 25 ≤ p → IsFormat refusals p (counted long)
counted_laws long p choice there =
    followed_laws (number_in_laws 25 2 p (counts long) choice there) (λ n one. changes_laws n 27 _ long (omega arith) (count_fills long n one))

-- What a walk keeps of the rows: each has a value, and its values pass.
use Rattle.std.proofs.Common.{◌≡◌, ◌∙◌, ◌<◌, ◌++◌, ◌||◌, Bool, cond, true, false, not, refl, sym, ap, arith, List, [], ◌∷◌, length, Some, None}
use Rattle.std.specs.Prelude.{nat_lt}
use Rattle.std.specs.List.{AllByRecursion}
use Rattle.std.specs.Str.{bytes_eq}
use Rattle.std.proofs.lemmas.Slice.Eq.{bytes_eq-Decides}
use Rattle.std.proofs.lemmas.List.{length-append}
use Rattle.clap.specs.Facts.{unwrap_or_range}
use Rattle.clap.specs.Kinds.{Kinds, or_else, range_kinds, values_kinds, value_kinds}
use Rattle.clap.specs.Faults.{action_fault, use_fault, values_fault}
use Rattle.clap.specs.Walk.{Row, Rule, Text, action_of, arg_by_id, at_row, is_empty, more_values, most_values, reading_by, used, used_as, values_or_missing, with_values, without}
use Rattle.clap.specs.declared.builder.action.ArgAction.{ArgAction}
use Rattle.clap.specs.declared.builder.action.ArgAction.TheVariants as action
use Rattle.clap.specs.declared.builder.value_parser.Reading.TheVariants as reading
use Rattle.clap.specs.declared.parser.matches.ValueSource.{ValueSource}

pub or_else_nil : (a b : Kinds) → or_else a b ≡ [] → (a ≡ []) × (b ≡ [])
or_else_nil [] b e = (refl, e)
or_else_nil (k ∷ ks) b e = cc

abbrev pub is_set : ArgAction → Bool
is_set action.Set = true
is_set action.SetTrue = true
is_set _ = false

-- an option of the command: it is found by its id, a use of it has a value, and none is read otherwise than it is written
pub record IsOwn (c : List Rule) (a : Rule) : Type 0 where
  pub own : arg_by_id c a.id ≡ Some a
  pub set : is_set (action_of a) ≡ true
  pub some : (nat_lt 0 (unwrap_or_range a.range).start_inclusive || not (is_empty a.missing)) ≡ true
  pub plain : reading_by a ≡ reading.AsWritten

-- what was found for an option: it has a value, and each passes
pub record IsGood (c : List Rule) (r : Row) : Type 0 where
  pub a : Rule
  pub own : arg_by_id c r.id ≡ Some a
  pub pass : values_fault a r.values ≡ []
  pub some : 0 < length r.values
  pub reading : r.reading ≡ reading_by a

abbrev pub AllGood : List Rule → List Row → Type 0
AllGood c rows = AllByRecursion (IsGood c) rows

pub good_append : (c : List Rule) (xs ys : List Row) → AllGood c xs → AllGood c ys → AllGood c (xs ++ ys)
good_append c [] ys gx gy = gy
good_append c (x ∷ xs) ys gx gy = (gx.0, good_append c xs ys gx.1 gy)

values_append : (ic : Bool) (p : _) (xs ys : List Text) → values_kinds ic p xs ≡ [] → values_kinds ic p ys ≡ [] → values_kinds ic p (xs ++ ys) ≡ []
values_append ic p [] ys ex ey = ey
values_append ic p (x ∷ xs) ys ex ey =
    let both = or_else_nil (value_kinds ic p x) (values_kinds ic p xs) ex in
    rw (both.0) (values_append ic p xs ys both.1 ey)

pub at_row_good : (c : List Rule) (id : Text) (change : Row → List Row) (missing rows : List Row)
    → ((r : Row) → r.id ≡ id → IsGood c r → AllGood c (change r)) → AllGood c missing → AllGood c rows
    → AllGood c (at_row id change missing rows)
at_row_good c id change missing [] changed new good = new
at_row_good c id change missing (r ∷ rs) changed new good =
    go (bytes_eq r.id id) refl (at_row_good c id change missing rs changed new good.1)
  where
    go : (b : Bool) → bytes_eq r.id id ≡ b → AllGood c (at_row id change missing rs)
        → AllGood c (cond b (change r ++ rs) (r ∷ at_row id change missing rs))
    go true e rest = good_append c (change r) rs (changed r ((bytes_eq-Decides r.id id).0 e) good.0) good.1
    go false e rest = (good.0, rest)

pub some_is : {X : Type 0} (x y : X) → Some x ≡ Some y → x ≡ y
some_is x y e = cc

pub with_values_good : (c : List Rule) (a : Rule) (s : ValueSource) (values : List Text) (rows : List Row)
    → IsOwn c a → values_fault a values ≡ [] → 0 < length values → AllGood c rows
    → AllGood c (with_values a.id (reading_by a) s values rows)
with_values_good c a s values rows own pass some good =
    at_row_good c a.id (more_values s values) _ rows more (new, tt) good
  where
    new : IsGood c (record { id = a.id; values = values; count = None; source = Some s; reading = reading_by a })
    new = record { a = a; own = own.own; pass = pass; some = some; reading = refl }

    more : (r : Row) → r.id ≡ a.id → IsGood c r → AllGood c (more_values s values r)
    more r same g =
        let is : g.a ≡ a = some_is _ _ (sym g.own ∙ (ap (arg_by_id c) same ∙ own.own)) in (
          record {
            a = g.a;
            own = g.own;
            pass = values_append _ _ r.values values g.pass (rw is pass);
            some = rw (length-append r.values values) (omega (arith, g.some));
            reading = g.reading;
          },
          tt,
        )

pub without_good : (c : List Rule) (id : Text) (rows : List Row) → AllGood c rows → AllGood c (without id rows)
without_good c id rows good = at_row_good c id (λ _. []) [] rows (λ r e g. tt) tt good

used_some : (a : Rule) (values : List Text)
    → (nat_lt 0 (unwrap_or_range a.range).start_inclusive || not (is_empty a.missing)) ≡ true
    → range_kinds (unwrap_or_range a.range).start_inclusive (most_values a) (length values) ≡ []
    → 0 < length (values_or_missing a values)
used_some a (v ∷ vs) some e = omega arith
used_some a [] some e = go (nat_lt 0 (unwrap_or_range a.range).start_inclusive) refl
  where
    go : (b : Bool) → nat_lt 0 (unwrap_or_range a.range).start_inclusive ≡ b → 0 < length a.missing
    go true t = let bad = rw t at e in cc
    go false t = let left = rw t at some in grind arith

used_as_good : (c : List Rule) (a : Rule) (x : ArgAction) (again : Bool) (values : List Text) (rows : List Row)
    → IsOwn c a → is_set x ≡ true → action_fault x again a values rows ≡ [] → 0 < length values → AllGood c rows
    → AllGood c (used_as x a.id (reading_by a) values rows)
used_as_good c a action.Set again values rows own set e some good =
    with_values_good c a _ values _ own (or_else_nil _ _ e).1 some (without_good c a.id rows good)
used_as_good c a action.SetTrue again values rows own set e some good =
    with_values_good c a _ values _ own (or_else_nil _ _ e).1 some (without_good c a.id rows good)
used_as_good c a action.SetFalse again values rows own set e some good = cc
used_as_good c a action.Append again values rows own set e some good = cc
used_as_good c a action.Count again values rows own set e some good = cc
used_as_good c a action.Help again values rows own set e some good = cc
used_as_good c a action.HelpShort again values rows own set e some good = cc
used_as_good c a action.HelpLong again values rows own set e some good = cc
used_as_good c a action.Version again values rows own set e some good = cc

-- a use without fault keeps the rows good
pub used_good : (c : List Rule) (a : Rule) (again : Bool) (values : List Text) (rows : List Row)
    → IsOwn c a → use_fault again a values rows ≡ [] → AllGood c rows → AllGood c (used a values rows)
used_good c a again values rows own e good =
    let both = or_else_nil _ _ e in
    used_as_good c a (action_of a) again (values_or_missing a values) rows own own.set both.1 (used_some a values own.some both.0) good

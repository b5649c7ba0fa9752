-- A walk over words, without fault, keeps the rows good.
use Rattle.std.proofs.Common.{◌≡◌, ℕ, Bool, true, false, zero, suc, refl, sym, subst, List, [], ◌∷◌, length, Option, Some, None}
use Rattle.std.specs.Prelude.{find, slice_get, fold}
use Rattle.std.specs.List.{AllByRecursion}
use Rattle.std.specs.Option.{option_map_or}
use Rattle.std.specs.Str.{bytes_eq, chars}
use Rattle.clap.specs.Lexer.{long_of, short_of}
use Rattle.clap.specs.Simple.{Shape}
use Rattle.clap.specs.Faults.{flag_word_fault, long_fault, other_fault, react_fault, settle_fault, turn_fault, use_fault, walk_fault, word_fault}
use Rattle.clap.specs.Walk.{Held, Names, Outcome, Rule, Step, Text, Waiting, Walk}
use Rattle.clap.specs.Walk.{after_flag, after_step, arg_by_id, arg_by_index, arg_by_long, arg_by_short, bundle, bundle_met, bundle_step, done, idle, long_met, long_or_other, next, option, option_word, plain, plain_word, positional, reacted, refused, settled, settled_rows, short_or_plain, subcommand, subcommand_met, subcommand_or_other, takes_values, trailing, used_by_id, value, waits, walked, walked_from, word_met}
use Rattle.clone_words.proofs.Rows.{AllGood, IsOwn, or_else_nil, some_is, used_good}

-- The options of a command: each is its own, and none is positional or has a short name.
pub record AreOwn (c : List Rule) : Type 0 where
  pub own : AllByRecursion (IsOwn c) c
  pub no_index : (i : ℕ) → arg_by_index c i ≡ None
  pub no_short : (x : ℕ) → arg_by_short c x ≡ None

pub found_own : {X : Type 0} (P : X → Type 0) (p : X → Bool) (xs : List X) (a : X) → AllByRecursion P xs → find p xs ≡ Some a → P a
found_own P p [] a all e = cc
found_own P p (x ∷ xs) a all e = go (p x) refl (found_own P p xs a all.1)
  where
    go : (b : Bool) → p x ≡ b → (find p xs ≡ Some a → P a) → P a
    go true t rest = subst P (some_is x a (rw t at e)) all.0
    go false t rest = rest (rw t at e)

pub settled_good : (c : List Rule) (again : Bool) (h : Held) → AreOwn c → settle_fault c again h ≡ [] → AllGood c h.rows
    → AllGood c (settled c h).rows
settled_good c again h options e good = go h.pending e
  where
    use_of : (p : Text × List Text) (o : Option Rule) → arg_by_id c p.0 ≡ o → option_map_or (λ a. use_fault again a p.1 h.rows) o [] ≡ []
        → AllGood c (used_by_id o p.1 h.rows)
    use_of p None is u = good
    use_of p (Some a) is u = used_good c a again p.1 h.rows (found_own (IsOwn c) _ c a options.own is) u good

    go : (o : Option (Text × List Text)) → option_map_or (λ p. option_map_or (λ a. use_fault again a p.1 h.rows) (arg_by_id c p.0) []) o [] ≡ []
        → AllGood c (settled_rows c o h.rows)
    go None u = good
    go (Some p) u = use_of p (arg_by_id c p.0) refl u

reacted_good : (c : List Rule) (again : Bool) (a : Rule) (values : List Text) (h : Held) → AreOwn c → IsOwn c a
    → react_fault c again a values h ≡ [] → AllGood c h.rows → AllGood c (reacted c a values h).rows
reacted_good c again a values h options own e good =
    let both = or_else_nil _ _ e in
    used_good c a again values _ own both.1 (settled_good c again h options both.0 good)

long_good : (c : List Rule) (again : Bool) (o : Option Rule) (v : Option Text) (h : Held) → AreOwn c
    → ((a : Rule) → o ≡ Some a → IsOwn c a)
    → long_fault c again o v h ≡ [] → AllGood c h.rows → AllGood c (long_met c o v h).0.rows
long_good c again None v h options own e good = good
long_good c again (Some a) v h options own e good = go (takes_values a) refl v e
  where
    go : (b : Bool) → takes_values a ≡ b → (v : Option Text) → long_fault c again (Some a) v h ≡ []
        → AllGood c (long_met c (Some a) v h).0.rows
    go true t (Some v) u = rw t (reacted_good c again a (v ∷ []) h options (own a refl) (rw t at u) good)
    go true t None u = rw t (settled_good c again h options (rw t at u) good)
    go false t (Some v) u = rw t good
    go false t None u = rw t (reacted_good c again a [] h options (own a refl) (rw t at u) good)

option_word_good : (c : List Rule) (o : Option Rule) (id word : Text) (h : Held) → AllGood c h.rows → AllGood c (option_word o id word h).0.rows
option_word_good c None id word h good = good
option_word_good c (Some a) id word h good = good

plain_word_good : (c : List Rule) (waiting : Waiting) (word : Text) (h : Held) → AllGood c h.rows → AllGood c (plain_word c waiting word h).0.rows
plain_word_good c idle word h good = good
plain_word_good c (option id) word h good = option_word_good c (arg_by_id c id) id word h good
plain_word_good c positional word h good = good

after_flag_good : (c : List Rule) (waiting : Waiting) (word : Text) (h : Held) (o : Outcome) → AllGood c h.rows → AllGood c (after_flag c waiting word h o).0.rows
after_flag_good c waiting word h done good = good
after_flag_good c waiting word h (waits id) good = good
after_flag_good c waiting word h plain good = plain_word_good c waiting word h good
after_flag_good c waiting word h refused good = plain_word_good c waiting word h good

-- without short names a bundle changes no row
bundle_rows : (c : List Rule) → AreOwn c → (k : ℕ) (flags : Text) (skip : ℕ) (o : Outcome) (h : Held)
    → (bundle_met c k flags skip o h).0.rows ≡ h.rows
unfolding bundle_met
bundle_rows c options zero flags skip o h = refl
bundle_rows c options (suc k) flags skip o h = go (slice_get (chars flags) 0) skip (bundle_rows c options k)
  where
    go : (x : Option ℕ) (skip : ℕ) → ((flags : Text) (skip : ℕ) (o : Outcome) (h : Held) → (bundle_met c k flags skip o h).0.rows ≡ h.rows)
        → (bundle_step c x flags skip o h (bundle_met c k)).0.rows ≡ h.rows
    go None skip rest = refl
    go (Some x) zero rest = rw (options.no_short x) refl
    go (Some x) (suc skip) rest = rest _ skip o h

short_good : (c : List Rule) → AreOwn c → (waiting : Waiting) (word : Text) (o : Option Text) (h : Held) → AllGood c h.rows
    → AllGood c (short_or_plain c waiting word o h).0.rows
short_good c options waiting word None h good = plain_word_good c waiting word h good
short_good c options waiting word (Some flags) h good =
    after_flag_good c waiting word (bundle c flags h).0 (bundle c flags h).1
    (subst (AllGood c) (sym (bundle_rows c options (length flags) flags h.skip plain (record h { skip = 0 }))) good)

flag_good : (c : List Rule) (again : Bool) → AreOwn c → (waiting : Waiting) (word : Text) (o : Option (Text × Option Text)) (h : Held)
    → flag_word_fault c again o word h ≡ [] → AllGood c h.rows → AllGood c (long_or_other c waiting word o h).0.rows
flag_good c again options waiting word None h e good = short_good c options waiting word (short_of word) h good
flag_good c again options waiting word (Some p) h e good =
    after_flag_good c waiting word _ _
    (long_good c again (arg_by_long c p.0) p.1 h options (λ a is. found_own (IsOwn c) _ c a options.own is) e good)

word_good : (s : Shape) (names : Names) → AreOwn s.rules → (is_trailing : Bool) (waiting : Waiting) (position : ℕ) (word : Text) (h : Held)
    → word_fault s names is_trailing waiting word h ≡ [] → AllGood s.rules h.rows
    → AllGood s.rules (word_met s.rules names is_trailing waiting position word h).0.rows
word_good s names options true waiting position word h e good = good
word_good s names options false waiting position word h e good = go (subcommand_met names waiting word) e
  where
    dashes : (b : Bool) → bytes_eq word (45 ∷ 45 ∷ []) ≡ b → other_fault s None word h ≡ []
        → AllGood s.rules (subcommand_or_other s.rules None waiting position word h).0.rows
    dashes true t u = rw t good
    dashes false t u = rw t (flag_good s.rules s.args_override_self options waiting word (long_of word) h (rw t at u) good)

    go : (o : Option Text) → other_fault s o word h ≡ [] → AllGood s.rules (subcommand_or_other s.rules o waiting position word h).0.rows
    go (Some name) u = good
    go None u = dashes (bytes_eq word (45 ∷ 45 ∷ [])) refl u

after_step_good : (c : List Rule) → AreOwn c → (word : Text) (w : Walk) (h : Held) (step : Step) → AllGood c h.rows
    → AllGood c (after_step c word w h step).held.rows
after_step_good c options word w h (next waiting) good = good
after_step_good c options word w h (trailing position) good = good
after_step_good c options word w h (subcommand name) good = good
after_step_good c options word w h value good = rw (options.no_index w.position) good

turn_good : (s : Shape) (names : Names) → AreOwn s.rules → (w : Walk) (word : Text) → turn_fault s names w word ≡ []
    → AllGood s.rules w.held.rows → AllGood s.rules (walked s.rules names w word).held.rows
unfolding walked
turn_good s names options w word e good = go w.stopped refl
  where
    go : (o : _) → w.stopped ≡ o → AllGood s.rules (walked_from s.rules names o w word).held.rows
    go (Some p) is = good
    go None is =
        let both = or_else_nil _ _ (rw is at e) in
        after_step_good s.rules options word w _ _
        (word_good s names options w.is_trailing w.waiting w.position word w.held both.0 good)

pub walk_good : (s : Shape) (names : Names) → AreOwn s.rules → (words : List Text) (w : Walk) → walk_fault s names w words ≡ []
    → AllGood s.rules w.held.rows → AllGood s.rules (fold (walked s.rules names) w words).held.rows
unfolding walk_fault
walk_good s names options [] w e good = good
walk_good s names options (word ∷ words) w e good =
    let both = or_else_nil _ _ e in
    walk_good s names options words (walked s.rules names w word) both.1 (turn_good s names options w word both.0 good)

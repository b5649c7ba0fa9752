-- Bytes that go out of a buffer, and bytes that come into it.
use Rattle.std.proofs.Common.{◌≡◌, ◌++◌, ◌+◌, ◌-◌, ◌≤◌, List, ℕ, length, take, drop, sym, ap, subst, ◌∙◌, Some, None, append_assoc}
use Rattle.std.specs.Prelude.{Result, Ok, Err, OnOk, is_ok, if◌then◌else◌}
use Rattle.std.proofs.Math.Seq.{take-add}
use Rattle.std.proofs.lemmas.List.{take_rest, take-append-drop, drop-append-le}
use Rattle.std.specs.declared.option.Option.{Option}
use Rattle.std.specs.Io.KnownBytes.{Appends, Keeps, append_known}

-- what went out of those that waited, and the rest, are all
pub gone_out : (a b : Option (List ℕ)) (n : ℕ) (w : List ℕ) → Appends a b (take n w) → Keeps (append_known a w) (append_known b (drop n w))
gone_out None b n w h = tt
gone_out (Some xs) None n w h = h
gone_out (Some xs) (Some ys) n w h =
    ap (λ zs. zs ++ drop n w) h ∙ append_assoc xs (take n w) (drop n w) ∙ ap (λ zs. xs ++ zs) (take-append-drop n w)

-- bytes that come behind those that wait from a place on
pub come_in : (a : Option (List ℕ)) (start : ℕ) (xs bytes : List ℕ) → start ≤ length xs → Appends (append_known a (drop start xs)) (append_known a (drop start (xs ++ bytes))) bytes
come_in None start xs bytes le = tt
come_in (Some us) start xs bytes le =
    ap (λ zs. us ++ zs) (drop-append-le start xs bytes le) ∙ sym (append_assoc us (drop start xs) bytes)

-- the same where there was memory for them
pub taken_in : {E : Type 0} (r : Result (Unit {0}) E) (a : Option (List ℕ)) (start : ℕ) (xs ys bytes : List ℕ) → ys ≡ (if is_ok r then xs ++ bytes else xs) → start ≤ length xs → OnOk r (Appends (append_known a (drop start xs)) (append_known a (drop start ys)) bytes)
taken_in (Ok x) a start xs ys bytes is le =
    subst (λ (zs : List ℕ). Appends (append_known a (drop start xs)) (append_known a (drop start zs)) bytes) (sym is) (come_in a start xs bytes le)
taken_in (Err e) a start xs ys bytes is le = tt

-- a step that keeps the bytes, and then one that adds some
pub kept_then : (a b c : Option (List ℕ)) (bytes : List ℕ) → Keeps a b → Appends b c bytes → Appends a c bytes
kept_then None b c bytes k h = tt
kept_then (Some xs) None c bytes k h = absurd k
kept_then (Some xs) (Some ys) None bytes k h = h
kept_then (Some xs) (Some ys) (Some zs) bytes k h = h ∙ ap (λ us. us ++ bytes) k

-- bytes that are added, and then a step that keeps them
pub then_kept : (a b c : Option (List ℕ)) (bytes : List ℕ) → Appends a b bytes → Keeps b c → Appends a c bytes
then_kept None b c bytes h k = tt
then_kept (Some xs) None c bytes h k = absurd h
then_kept (Some xs) (Some ys) None bytes h k = k
then_kept (Some xs) (Some ys) (Some zs) bytes h k = k ∙ h

-- a second piece behind the first
pub one_more : (a b c : Option (List ℕ)) (n m : ℕ) (xs : List ℕ) → Appends a b (take n xs) → Appends b c (take m (take (length xs - n) (drop n xs))) → Appends a c (take (n + m) xs)
one_more None b c n m xs h k = tt
one_more (Some us) None c n m xs h k = absurd h
one_more (Some us) (Some vs) None n m xs h k = k
one_more (Some us) (Some vs) (Some ws) n m xs h k =
    k ∙ ap (λ zs. vs ++ take m zs) (take_rest xs n) ∙ ap (λ zs. zs ++ take m (drop n xs)) h ∙ append_assoc us (take n xs) (take m (drop n xs)) ∙ ap (λ zs. us ++ zs) (sym (take-add n m xs))

-- The rows of a map, as a list, make the map again.
use Rattle.std.proofs.Common.{◌≡◌, ℕ, Bool, true, false, cond, ◌&&◌, T, List, [], ◌∷◌, map, None, Some, refl, sym, ap, ◌∙◌}
use Rattle.std.specs.declared.option.Option.{Option}
use Rattle.std.specs.declared.cmp.Ordering.{Ordering}
use Rattle.std.specs.declared.cmp.Ordering.TheVariants.{Less, Equal, Greater}
use Rattle.std.specs.FinMap as finite
use Rattle.std.specs.FinMap.{find, is_sorted, same_map, get-empty, get-insert, get-entries, entries_sorted}
use Rattle.std.specs.FinMap.Entries.{below_all}
use Rattle.std.specs.Ordering.{is_lt, is_eq, eq_by_cmp}
use Rattle.clone_base.proofs.MapEntries.{is_equal}
use Rattle.clone_model.specs.Keys.{row_cmp}
use Rattle.clone_model.specs.History.{Rows, Row, rows_in}
use Rattle.clone_model.proofs.RowMaps.{row_cmp_total, row_cmp_exact}
use Rattle.clone_follow.specs.Following.{with_rows}

abbrev Entries : Type 0
Entries = List ((ℕ × ℕ) × List ℕ)

abbrev listed : Entries → List Row
listed es = map (λ entry. (entry.0.0, entry.0.1, entry.1)) es

-- the first of two that there is
abbrev either : Option (List ℕ) → Option (List ℕ) → Option (List ℕ)
either None o = o
either (Some v) o = Some v

either_none : (o : Option (List ℕ)) → either o None ≡ o
either_none None = refl
either_none (Some v) = refl

halves : (a b : Bool) → T (a && b) → T a × T b
halves true b h = (tt, h)
halves false b h = absurd h

apart : (o : Ordering) (rest : Bool) → T (is_lt o && rest) → (is_eq o ≡ false) × T rest
apart Less rest h = (refl, h)
apart Equal rest h = absurd h
apart Greater rest h = absurd h

-- a key below all others isn't among them
missing : (k : ℕ × ℕ) (es : Entries) → T (below_all row_cmp k es) → find row_cmp k es ≡ None
missing k [] h = refl
missing k (e ∷ es) h = let p = apart (row_cmp k e.0) (below_all row_cmp k es) h in ap (λ b. cond b (Some e.1) (find row_cmp k es)) p.0 ∙ missing k es p.1

get_listed : (es : Entries) (rows : Rows) (q : ℕ × ℕ) → T (is_sorted row_cmp es) → finite.get (with_rows rows (listed es)) q ≡ either (find row_cmp q es) (finite.get rows q)
get_listed [] rows q sorted = refl
get_listed (e ∷ es) rows q sorted =
    let h = halves (below_all row_cmp e.0 es) (is_sorted row_cmp es) sorted in
    get_listed es (finite.insert rows e.0 e.1) q h.1 ∙ ap (either (find row_cmp q es)) (get-insert row_cmp_total rows e.0 e.1 q) ∙ by h.0 (eq_by_cmp row_cmp q e.0) refl
  where
    by : T (below_all row_cmp e.0 es) → (b : Bool) → eq_by_cmp row_cmp q e.0 ≡ b → either (find row_cmp q es) (cond b (Some e.1) (finite.get rows q)) ≡ either (cond b (Some e.1) (find row_cmp q es)) (finite.get rows q)
    by below true tie = ap (λ o. either o (Some e.1)) (ap (λ k. find row_cmp k es) (row_cmp_exact q e.0 (is_equal _ tie)) ∙ missing e.0 es below)
    by below false tie = refl

pub opens_again : (rows : Rows) → with_rows finite.empty (rows_in rows) ≡ rows
opens_again rows =
    same_map row_cmp_total row_cmp_exact _ _ (λ q. get_listed (finite.entries rows) finite.empty q (entries_sorted rows) ∙ ap (either (find row_cmp q (finite.entries rows))) (get-empty row_cmp q)
    ∙ either_none (find row_cmp q (finite.entries rows)) ∙ sym (get-entries rows q))

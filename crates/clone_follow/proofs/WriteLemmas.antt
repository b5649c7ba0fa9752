-- Changes are written one after the other, as a loop does.
use Rattle.std.proofs.Common.{◌≡◌, ℕ, ◌+◌, ◌<◌, List, [], ◌∷◌, ◌++◌, length, get_or, take, sym, ap, subst, ◌∙◌, append_assoc, append-nil}
use Rattle.std.specs.List.{flat_map, AllByRecursion}
use Rattle.std.proofs.lemmas.Grind.{flat_map-append}
use Rattle.clone_model.proofs.RowMaps.{to_item}
use Rattle.clone_model.proofs.Cuts.{recursion-append}
use Rattle.clone_model.specs.declared.change.Change.{Change}
use Rattle.clone_follow.specs.Ranges.{IsChange}
use Rattle.clone_follow.specs.Spelling.{change_bytes}

pub bytes_with : (changes : List Change) (i : ℕ) (x : Change) → i < length changes → x ≡ get_or changes i x → flat_map change_bytes (take (i + 1) changes) ≡ flat_map change_bytes (take i changes) ++ change_bytes x
bytes_with changes i x less is =
    ap (flat_map change_bytes) (to_item changes i x less is) ∙ flat_map-append change_bytes (take i changes) (x ∷ []) ∙ ap (λ t. flat_map change_bytes (take i changes) ++ t) (append-nil (change_bytes x))

pub wrote_change : (first old new : List ℕ) (changes : List Change) (i : ℕ) (x : Change) → i < length changes → x ≡ get_or changes i x → old ≡ first ++ flat_map change_bytes (take i changes) → new ≡ old ++ change_bytes x
    → new ≡ first ++ flat_map change_bytes (take (i + 1) changes)
wrote_change first old new changes i x less is so_far wrote =
    wrote ∙ ap (λ t. t ++ change_bytes x) so_far ∙ append_assoc first (flat_map change_bytes (take i changes)) (change_bytes x) ∙ ap (λ t. first ++ t) (sym (bytes_with changes i x less is))

pub are_with : (changes : List Change) (i : ℕ) (x : Change) → i < length changes → x ≡ get_or changes i x → AllByRecursion IsChange (take i changes) → IsChange x → AllByRecursion IsChange (take (i + 1) changes)
are_with changes i x less is are one = subst (AllByRecursion IsChange) (sym (to_item changes i x less is)) (recursion-append IsChange (take i changes) (x ∷ []) are (one, tt))

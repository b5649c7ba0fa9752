-- The pieces lie one after the other.
use Rattle.std.proofs.Common.{◌≡◌, ℕ, List, ◌∷◌, ◌++◌, length, replicate, refl, ap, ◌∙◌}
use Rattle.byteorder.specs.Endian.{big_bytes}
use Rattle.clone_undo.specs.Entries.{UndoEntry}
use Rattle.clone_page.proofs.PieceLemmas.{padded}
use Rattle.clone_undo.proofs.BytePieceLemmas.{pair, told}
use Rattle.clone_undo.proofs.record.UndoRecord.slot_before.Goals as goal

pub returns : goal.returns
returns c =
    let e : UndoEntry = c.args.self.now in
    let b1 : List ℕ = e.state ∷ length e.value ∷ replicate 78 0 in
    let front : List ℕ = e.state ∷ length e.value ∷ (replicate 6 0 ++ big_bytes 8 e.key) in
    let h1 : c.put.new.bytes ≡ b1 = told 0 _ _ (replicate 80 0) c.put.ensures (pair c.state.ensures (ap length c.value-value.ensures.value)) refl in
    let h2 : c.put-2.new.bytes ≡ front ++ replicate 64 0 = told 8 _ _ b1 c.put-2.ensures (c.to_be_bytes.ensures ∙ ap (λ (w : UndoEntry). big_bytes 8 w.key) c.self.view_is) h1 in
    told 16 _ _ (front ++ replicate 64 0) c.put-3.ensures c.value-value.ensures.value h2 ∙ padded 16 64 front e.value refl

-- The pieces lie one after the other.
use Rattle.std.proofs.Common.{◌≡◌, ℕ, List, ◌∷◌, ◌++◌, length, replicate, refl, ap, ◌∙◌}
use Rattle.byteorder.specs.Endian.{big_bytes}
use Rattle.clone_undo.specs.Entries.{UndoEntry}
use Rattle.clone_page.proofs.PieceLemmas.{padded}
use Rattle.clone_undo.proofs.BytePieceLemmas.{pair, told}
use Rattle.clone_undo.proofs.record.UndoRecord.image.Goals as goal

pub returns-clause-bytes : goal.returns-clause-bytes
returns-clause-bytes c =
    let e : UndoEntry = c.args.self.now in
    let b1 : List ℕ = big_bytes 4 e.table ++ replicate 92 0 in
    let b2 : List ℕ = big_bytes 4 e.table ++ (big_bytes 4 e.page ++ replicate 88 0) in
    let b3 : List ℕ = big_bytes 4 e.table ++ (big_bytes 4 e.page ++ (big_bytes 2 e.slot ++ replicate 86 0)) in
    let b4 : List ℕ = big_bytes 4 e.table ++ (big_bytes 4 e.page ++ (big_bytes 2 e.slot ++ (e.state ∷ length e.value ∷ replicate 84 0))) in
    let front : List ℕ = big_bytes 4 e.table ++ (big_bytes 4 e.page ++ (big_bytes 2 e.slot ++ (e.state ∷ length e.value ∷ (replicate 4 0 ++ big_bytes 8 e.key)))) in
    let h1 : c.put.new.bytes ≡ b1 = told 0 _ _ (replicate 96 0) c.put.ensures (c.to_be_bytes.ensures ∙ ap (λ (w : UndoEntry). big_bytes 4 w.table) c.self.view_is) refl in
    let h2 : c.put-2.new.bytes ≡ b2 = told 4 _ _ b1 c.put-2.ensures (c.to_be_bytes-2.ensures ∙ ap (λ (w : UndoEntry). big_bytes 4 w.page) c.self.view_is) h1 in
    let h3 : c.put-3.new.bytes ≡ b3 = told 8 _ _ b2 c.put-3.ensures (c.to_be_bytes-3.ensures ∙ ap (λ (w : UndoEntry). big_bytes 2 w.slot) c.self.view_is) h2 in
    let h4 : c.put-4.new.bytes ≡ b4 = told 10 _ _ b3 c.put-4.ensures (pair c.state.ensures (ap length c.value-value.ensures.value)) h3 in
    let h5 : c.put-5.new.bytes ≡ front ++ replicate 72 0 = told 16 _ _ b4 c.put-5.ensures (c.to_be_bytes-4.ensures ∙ ap (λ (w : UndoEntry). big_bytes 8 w.key) c.self.view_is) h4 in
    told 24 _ _ (front ++ replicate 72 0) c.put-6.ensures c.value-value.ensures.value h5 ∙ padded 24 72 front e.value refl

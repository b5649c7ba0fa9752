use Rattle.std.proofs.Common.{◌≡◌, ◌<◌, ◌/◌, ap, ◌∙◌, get_or}
use Rattle.std.proofs.lemmas.List.{get_or_default}
use Rattle.clone_chunk.proofs.BitmapLemmas.{set_bit, other_bits, there, stays}
use Rattle.clone_chunk.proofs.bitmap.Bitmap.set.Goals as goal

pub invariant_of-self : goal.invariant_of-self
invariant_of-self c =
    let bytes = c.self.inside.bytes.items in
    let less : c.args.chunk < c.self.inside.count = rw (← ap (λ map. map.count) c.self.view_is) at c.requires in
    let within = there c.self.inside.count bytes c.args.chunk c.self.invariant less in
    let byte : c.index_mut.result.now ≡ get_or bytes (c.args.chunk / 8) 0 = c.index_mut.ensures.value ∙ get_or_default bytes (c.args.chunk / 8) _ 0 within in
    rw byte (stays c.self.inside.count bytes c.args.chunk c.self.invariant less)

pub returns-clause-set : goal.returns-clause-set
returns-clause-set c =
    let bytes = c.self.inside.bytes.items in
    let less : c.args.chunk < c.self.inside.count = rw (← ap (λ map. map.count) c.self.view_is) at c.requires in
    let within = there c.self.inside.count bytes c.args.chunk c.self.invariant less in
    let byte : c.index_mut.result.now ≡ get_or bytes (c.args.chunk / 8) 0 = c.index_mut.ensures.value ∙ get_or_default bytes (c.args.chunk / 8) _ 0 within in
    rw byte (set_bit bytes c.args.chunk within)

pub returns-clause-others : goal.returns-clause-others
returns-clause-others c i other =
    let bytes = c.self.inside.bytes.items in
    let less : c.args.chunk < c.self.inside.count = rw (← ap (λ map. map.count) c.self.view_is) at c.requires in
    let within = there c.self.inside.count bytes c.args.chunk c.self.invariant less in
    let byte : c.index_mut.result.now ≡ get_or bytes (c.args.chunk / 8) 0 = c.index_mut.ensures.value ∙ get_or_default bytes (c.args.chunk / 8) _ 0 within in
    rw (byte, ← ap (λ map. map.bytes) c.self.view_is) (other_bits bytes c.args.chunk i within other)

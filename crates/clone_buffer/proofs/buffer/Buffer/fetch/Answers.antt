use Rattle.std.proofs.Common.{◌<◌, ◌^◌, ℕ, Result, sym, subst, arith, IsTrue, IsSome}
use Rattle.clone_buffer.proofs.Common.{replayed, ends, Buffered}
use Rattle.clone_image.specs.Image.{page_of}
use Rattle.clone_buffer.specs.Keeping.{Stands}
use Rattle.clone_pool.specs.declared.frame.PageName.{PageName}
use Rattle.clone_pool.specs.declared.pool.FetchRefusal.{FetchRefusal}
use Rattle.clone_pool.specs.Pool.{Fetches}
use Rattle.clone_buffer.proofs.AsideLemmas.{buffer_refused}
use Rattle.clone_buffer.proofs.FetchLemmas.{stands_fetched, stands_refused}
use Rattle.clone_buffer.proofs.buffer.Buffer.fetch.Goals as goal

pub invariant_of-self : goal.invariant_of-self
invariant_of-self g c =
    let i = c.self.inside in
    let v : Buffered = record { log = i.shadow.state.log; right = i.shadow.state.right; ring = i.ring; pool = i.pool } in
    let page : PageName = record { space = c.args.space; number = c.args.number } in
    buffer_refused v c.fetch-fetched.new.self page c.in_err-at.field-0.0 c.self.invariant (subst (λ (r : Result ℕ FetchRefusal). Fetches page i.pool c.fetch-fetched.new.self r) c.in_err-at.was c.fetch-fetched.ensures.answer)

pub returns-in_err-at-clause-stands : goal.returns-in_err-at-clause-stands
returns-in_err-at-clause-stands g c =
    let i = c.self.inside in
    let v : Buffered = record { log = i.shadow.state.log; right = i.shadow.state.right; ring = i.ring; pool = i.pool } in
    let small : ends v.log < 2 ^ 64 = omega (arith, c.self.invariant.below) in
    λ beside st. stands_refused v beside (g.D.PageDisk.state c.args.disk.now).told (g.D.PageDisk.state c.fetch-fetched.new.disk).told c.fetch-fetched.new.self c.fetch-fetched.result c.args.space c.args.number c.in_err-at.field-0.0 c.laws.ensures c.laws-2.ensures
    c.fetch-fetched.ensures.answer small c.in_err-at.was c.fetch-fetched.ensures.reads.told (subst (λ (s : Buffered). Stands s beside (g.D.PageDisk.state c.args.disk.now).told) (sym c.self.view_is) st)

pub returns-clause-stands : goal.returns-clause-stands
returns-clause-stands g c =
    let i = c.self.inside in
    let v : Buffered = record { log = i.shadow.state.log; right = i.shadow.state.right; ring = i.ring; pool = i.pool } in
    let small : ends v.log < 2 ^ 64 = omega (arith, c.self.invariant.below) in
    λ beside st. stands_fetched v beside (g.D.PageDisk.state c.args.disk.now).told (g.D.PageDisk.state c.fetch-fetched.new.disk).told c.fetch-fetched.new.self c.fetch-fetched.result c.args.space c.args.number c.in_ok-at.at c.frame.result.now c.then-self-inside.result.state c.laws.ensures c.laws-2.ensures
    c.fetch-fetched.ensures.answer small (subst (λ (s : Buffered). IsTrue s.right → IsSome (page_of (replayed s.log) c.args.space c.args.number)) (sym c.self.view_is) c.requires.there) c.self.invariant.shows c.in_ok-at.was c.fetch-fetched.ensures.reads.told c.in_ok-at.ensures.read c.frame.ensures c.then-self-inside.ensures
    (subst (λ (s : Buffered). Stands s beside (g.D.PageDisk.state c.args.disk.now).told) (sym c.self.view_is) st)

use Rattle.clone_trx.proofs.Common.{◌≡◌, ℕ, true, [], Option, None, length, sym, subst, arith, refl, Ok, IfErr, ap, Buffered, image_of, PageName, change_at, HasCome, IsRefused, Has, IsSpot, change_call, Way, page_in, walks, Change, Donor, Keeps, page_number}
use Rattle.clone_trx.proofs.CauseLemmas.{may_change}
use Rattle.clone_trx.proofs.HoldingLemmas.{if_err, if_ok, starts_at}
use Rattle.clone_trx.proofs.SpotLemmas.{chain_there, of_row, spot_is}
use Rattle.clone_trx.proofs.WalkStepLemmas.{on_err}
use Rattle.clone_trx.proofs.transactions.Transactions.find_target.Goals as goal
use Rattle.clone_trx.proofs.transactions.Transactions.find_target.Goals.{In_ok-spot}

pub walk-requires-clause-table : goal.walk-requires-clause-table
walk-requires-clause-table g c =
    let change = c.args.change.now in
    let may = may_change c.args.self.now c.args.trx change.table change.key c.requires.cause.0 c.laws.ensures.safe.locked c.requires.cause.1 in
    (c.laws.ensures.safe.tables.ranges change.table may.buckets may.was_table).0

pub walk-requires-clause-chain : goal.walk-requires-clause-chain
walk-requires-clause-chain g c = λ right.
    let d = c.args.self.now in
    let change = c.args.change.now in
    let may = may_change d c.args.trx change.table change.key c.requires.cause.0 c.laws.ensures.safe.locked c.requires.cause.1 in
    chain_there d change.table change.key may.buckets c.args.bucket may.was_table c.requires.bucket (image_of c.args.buffer.now) (c.requires.kept.kept right)

-- the walk starts at the row's bucket
start : (d : Donor) (trx first : ℕ) (change : Change) (old : Buffered) → first ≡ page_number d change.table change.key → Keeps d old → HasCome (change_call d trx change old) [] (walks (record { table = change.table; first = first; key = change.key; for_room = true }) (change_at d trx change)) old
start d trx first change old is keeps =
    subst (λ (n : ℕ). HasCome (change_call d trx change old) [] (walks (record { table = change.table; first = n; key = change.key; for_room = true }) (change_at d trx change)) old) (sym is) (starts_at (change_call d trx change old) [] refl keeps)

pub returns-in_err-spot-clause-refused : goal.returns-in_err-spot-clause-refused
returns-in_err-spot-clause-refused g c =
    let d = c.args.self.now in
    let change = c.args.change.now in
    let call = change_call d c.args.trx change c.args.buffer.now in
    on_err (λ r. IfErr r (λ e. IsRefused call c.walk.new.buffer e)) c.from_residual.result c.in_err-spot.field-0.0 c.from_residual.ensures.1
    (c.in_err-spot.ensures.refused call (change_at d c.args.trx change) (start d c.args.trx c.args.bucket change c.args.buffer.now c.requires.bucket c.requires.kept))

-- it comes to a spot
come : (g : _) (c : In_ok-spot g) (slot : Option ℕ) → c.in_ok-spot.spot.slot ≡ slot → HasCome (change_call c.args.self.now c.args.trx c.args.change.now c.args.buffer.now) c.walk.new.self
    (change_at c.args.self.now c.args.trx c.args.change.now c.in_ok-spot.spot.page slot (page_in c.in_ok-spot.spot.at c.walk.new.buffer)) c.walk.new.buffer
come g c slot is =
    let d = c.args.self.now in
    let change = c.args.change.now in
    let spot = c.in_ok-spot.spot in
    subst (λ (o : Option ℕ). HasCome (change_call d c.args.trx change c.args.buffer.now) c.walk.new.self (change_at d c.args.trx change spot.page o (page_in spot.at c.walk.new.buffer)) c.walk.new.buffer) is
    (c.in_ok-spot.ensures.comes (change_call d c.args.trx change c.args.buffer.now) (change_at d c.args.trx change) (start d c.args.trx c.args.bucket change c.args.buffer.now c.requires.bucket c.requires.kept))

spot : (g : _) (c : In_ok-spot g) → IsSpot c.args.self.now c.args.change.now.table c.args.change.now.key c.walk.new.buffer c.in_ok-spot.spot
spot g c =
    let d = c.args.self.now in
    let change = c.args.change.now in
    let may = may_change d c.args.trx change.table change.key c.requires.cause.0 c.laws.ensures.safe.locked c.requires.cause.1 in
    let walked = of_row d change.table change.key may.buckets c.args.bucket may.was_table c.requires.bucket true c.args.buffer.now c.walk.new.buffer (Ok c.in_ok-spot.spot) c.in_ok-spot.ensures.walked in
    spot_is d change.table change.key may.buckets c.args.bucket may.was_table c.requires.bucket c.args.buffer.now c.walk.new.buffer c.in_ok-spot.spot c.laws.ensures.safe walked c.requires.kept.kept c.in_ok-spot.ensures.has

pub target_at-requires-clause-spot : goal.target_at-requires-clause-spot
target_at-requires-clause-spot g c = spot g (goal.at.target_at-requires-clause-spot g c).In_ok-spot

pub target_at-requires-clause-kept : goal.target_at-requires-clause-kept
target_at-requires-clause-kept g c = (come g (goal.at.target_at-requires-clause-kept g c).In_ok-spot c.in_ok-spot.spot.slot refl).kept

pub returns-in-Some-clause-placed : goal.returns-in-Some-clause-placed
returns-in-Some-clause-placed g c =
    let new : Buffered = c.walk.new.buffer in
    let at : ℕ = c.in_ok-spot.spot.at in
    let e = c.target_at.ensures in
    record {
      comes = subst (λ (w : Way). HasCome (change_call c.args.self.now c.args.trx c.args.change.now c.args.buffer.now) c.walk.new.self w new) (sym e.way) (come g (goal.at.returns-in-Some-clause-placed g c).In_ok-spot c.in_ok-spot.spot.slot refl);
      few = omega (arith, ap length c.in_ok-spot.ensures.frames);
      target = e.target;
      row = (at, subst (λ (p : PageName). Has p at new.pool.frames) (sym e.row) c.in_ok-spot.ensures.has);
    }

-- the chain is full
pub grow-requires-clause-spot : goal.grow-requires-clause-spot
grow-requires-clause-spot g c = spot g (goal.at.grow-requires-clause-spot g c).In_ok-spot

pub grow-requires-clause-comes : goal.grow-requires-clause-comes
grow-requires-clause-comes g c = (c.args.buffer.now, come g (goal.at.grow-requires-clause-comes g c).In_ok-spot None c.in-None.is)

pub returns-in-None-clause-placed : goal.returns-in-None-clause-placed
returns-in-None-clause-placed g c = if_ok c.grow.result (λ target p. p c.args.buffer.now (come g (goal.at.returns-in-None-clause-placed g c).In_ok-spot None c.in-None.is)) c.grow.ensures.placed

pub returns-in-None-clause-refused : goal.returns-in-None-clause-refused
returns-in-None-clause-refused g c = if_err c.grow.result (λ refusal p. p c.args.buffer.now (come g (goal.at.returns-in-None-clause-refused g c).In_ok-spot None c.in-None.is)) c.grow.ensures.refused

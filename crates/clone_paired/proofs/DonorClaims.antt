-- A donor's end of a task's connection claims a chunk, of which the first block is to be read then.
use Rattle.std.proofs.Common.{ℕ, ◌≡◌, ◌≢◌, ◌∙◌, ◌⊎◌, ◌<◌, ◌+◌, List, [], ◌∷◌, Bool, true, false, if◌then◌else◌, Some, length, refl, sym, ap, subst, inl, inr, arith}
use Rattle.std.specs.Prelude.{slice_get, slice_index, not, ◌&&◌}
use Rattle.std.proofs.lemmas.Bool.{both_ways, cases_eq}
use Rattle.clone_chunk.specs.Chunks.{is_kept}
use Rattle.clone_chunk.specs.declared.chunk.Chunk.TheVariants as chunk
use Rattle.clone_snapshot.specs.StageLists.{block_count}
use Rattle.clone_marks.specs.Counts.{block_counts}
use Rattle.clone_marks.proofs.RunLemmas.{counts_at}
use Rattle.clone_session.specs.Cloning.{Session}
use Rattle.clone_session.specs.CloneCauses.{donor_stage}
use Rattle.clone_serve.specs.Following.{next_block, work_at}
use Rattle.clone_serve.specs.Serving.{is_over}
use Rattle.clone_serve.specs.declared.doing.Doing.{Doing}
use Rattle.clone_serve.specs.declared.doing.Doing.TheVariants as doing
use Rattle.clone_serve.specs.declared.doing.Execution.{Execution}
use Rattle.clone_serve.specs.declared.doing.Work.TheVariants.{Claim}
use Rattle.clone_recipient.specs.Receptions.{Reception}
use Rattle.clone_network.specs.Connections.{Connection, is_open}
use Rattle.clone_network.specs.Networks.{Network, with_connection}
use Rattle.clone_rounds.specs.Awaiting.{Has}
use Rattle.clone_rounds.specs.Steps.{claimed, claiming}
use Rattle.clone_rounds.specs.World.{Claimed as ClaimedBy, Owner, Serving as ServingCore, World}
use Rattle.clone_rounds.proofs.Claiming.{claimed_in, claimed_out}
use Rattle.clone_rounds.proofs.Moving.{kept}
use Rattle.clone_view.specs.Donors.{core_of}
use Rattle.clone_view.specs.Rows.{left_from, place_of}
use Rattle.clone_view.specs.Views.{IsAt, Line, line_doing}
use Rattle.clone_view.proofs.Going.{next_unkept, work_begins}
use Rattle.clone_view.proofs.Sends.{IsLeft, claim_step, claim_view, has_from, in_from, place_from, place_same}
use Rattle.clone_paired.specs.Lines.{IsLineOf, connection_of}
use Rattle.clone_paired.specs.Paired.{IsTalking}
use Rattle.clone_paired.specs.Seen.{AreUnsent, IsUnsent}
use Rattle.clone_paired.specs.Sessions.{HasComeTo}
use Rattle.clone_paired.proofs.DonorClaimsChunk.{HasMore, by_chunk, come_now, has_more, line_now, session_now, state_here, state_others, with_state}
use Rattle.clone_paired.proofs.DonorReads.{lost_live, unfound}
use Rattle.clone_paired.proofs.DonorServes.{GoesOn, IsIn, at_here, caller_is, goes_talks, is_in}
use Rattle.clone_paired.proofs.DonorTurns.{Sees, first, sees, x}
use Rattle.clone_paired.proofs.Linked.{Linked}

-- a list that has something
record IsSome (xs : List ℕ) : Type 0 where
  head : ℕ
  tail : List ℕ
  is : xs ≡ head ∷ tail

some_by : (xs : List ℕ) (b : ℕ) → Has b xs → IsSome xs
some_by [] b has = absurd has
some_by (y ∷ ys) b has = record { head = y; tail = ys; is = refl }

module _ (s : Session) (r : Reception) (n : Network) (tasks : length n.seats ≡ r.table.count) (talks : IsTalking (Some s) r n) (k number : ℕ) (has : connection_of n k ≡ Some number) where
  abbrev here : Linked (Some s) r n talks.lines talks.known (first (Some s) r n tasks talks k number has).rounds k
  here = x (Some s) r n tasks talks k number has

  module _ (live : is_open here.at ≡ true) (run : Execution) (serving : here.at.doing ≡ doing.Serving run Claim) (i : ℕ) (free : slice_get s.snap.chunks i ≡ Some chunk.Free) where
    abbrev pub now : Session
    now = with_state i (chunk.Claimed k) s

    abbrev mask : ℕ
    mask = slice_index s.snap.kept i

    -- the first of its blocks that isn't kept is read next
    abbrev pub next : Doing
    next = doing.Serving run (work_at i mask 0)

    abbrev pub claimed_on : Connection
    claimed_on = record here.at { doing = next }

    abbrev after : Line
    after = line_doing here.l next

    more : HasMore s i
    more = has_more s i chunk.Free talks.own.chunks free (λ is. cc (is))

    unkept : is_kept mask (next_block mask 0) ≡ false
    unkept = next_unkept mask 0 more.few (omega arith)

    abbrev blocks : List ℕ
    blocks = left_from (place_of (block_counts s.snap.list) i 0) mask 0 (block_count s.snap.list i)

    first_there : Has (place_of (block_counts s.snap.list) i 0 + next_block mask 0) blocks
    first_there = in_from (place_of (block_counts s.snap.list) i 0) mask 0 (block_count s.snap.list i) (next_block mask 0) (omega arith) (omega (arith, more.first)) unkept

    rest : IsSome blocks
    rest = some_by blocks (place_of (block_counts s.snap.list) i 0 + next_block mask 0) first_there

    abbrev Seen : (ℕ → List ℕ) → World → Type 0
    Seen counts w = Sees (Some s) r n tasks talks k number has counts w

    facts : (counts : ℕ → List ℕ) (w : World) → Seen counts w → IsIn s r n tasks talks k number has live run Claim serving w []
    facts counts w see = is_in s r n tasks talks k number has live run Claim serving counts w [] see refl

    pub known_facts : IsIn s r n tasks talks k number has live run Claim serving (first (Some s) r n tasks talks k number has).rounds []
    known_facts = facts talks.known (first (Some s) r n tasks talks k number has).rounds (sees (Some s) r n tasks talks k number has talks.known (first (Some s) r n tasks talks k number has))

    live_new : is_open claimed_on ≡ true
    live_new = ap (λ (b : Bool). not b && true) (unfound here.at.found_lost (is_over here.at.doing) live)

    of_new : IsLineOf (Some now) r k claimed_on after
    of_new = record {
      held = here.of.held;
      cut = here.of.cut ∙ lost_live here.at live ∙ sym (lost_live claimed_on live_new);
      doing = sym (ap (λ (b : Bool). if b then next else doing.Over) live_new);
      binds = caller_is (Some s) r n tasks talks k number has live run Claim serving;
      live = λ is. here.of.live live;
      over = λ is. absurd (both_ways (is_open claimed_on) is live_new);
      answers = here.of.answers;
      asked = here.of.asked;
      given = (line_now s i k (chunk.Claimed k) chunk.Free free tt r k here.at here.l here.of).given;
    }

    come_own : HasComeTo now k next
    come_own = record { kept = refl; block = more.first; unkept = unkept; claimed = state_here s i k (chunk.Claimed k) chunk.Free free tt }

    within : (c d : ℕ) → d < block_count s.snap.list c → d < slice_index (block_counts s.snap.list) c
    within c d less = subst (λ (z : ℕ). d < z) (sym (counts_at s.snap.list c)) less

    -- a place that was claimed now is of this chunk
    of_chunk : (c d : ℕ) → d < block_count s.snap.list c → Has (place_of (block_counts s.snap.list) c d) (rest.head ∷ rest.tail) → c ≡ i
    of_chunk c d small g =
        let l : IsLeft (place_of (block_counts s.snap.list) i 0) mask 0 (block_count s.snap.list i) (place_of (block_counts s.snap.list) c d) = has_from (place_of (block_counts s.snap.list) i 0) mask 0 (block_count s.snap.list i) (place_of (block_counts s.snap.list) c d) (subst (Has (place_of (block_counts s.snap.list) c d)) (sym rest.is) g) in
        let high : l.block < 0 + block_count s.snap.list i = l.high in
        (place_same (block_counts s.snap.list) c d i l.block (within c d small) (within i l.block (omega (arith, high))) (l.place ∙ sym (place_from (block_counts s.snap.list) i l.block))).0

    module _ (owner : ℕ → Owner) (old : AreUnsent (Some s) owner) where
      abbrev owner_now : ℕ → Owner
      owner_now = claimed owner k (rest.head ∷ rest.tail)

      unsent_here : (task : ℕ) → slice_get now.snap.chunks i ≡ Some (chunk.Claimed task) → IsUnsent now owner_now i task
      unsent_here task is =
          let own : slice_get now.snap.chunks i ≡ Some (chunk.Claimed k) = state_here s i k (chunk.Claimed k) chunk.Free free tt in
          let same : k ≡ task = cc (is, own) in
          let place : place_of (block_counts s.snap.list) i (next_block mask 0) ≡ place_of (block_counts s.snap.list) i 0 + next_block mask 0 = place_from (block_counts s.snap.list) i (next_block mask 0) in
          record {
            block = next_block mask 0;
            there = more.first;
            unkept = unkept;
            claimed = ap owner_now place ∙ claimed_in owner k (rest.head ∷ rest.tail) (place_of (block_counts s.snap.list) i 0 + next_block mask 0) (subst (Has (place_of (block_counts s.snap.list) i 0 + next_block mask 0)) rest.is first_there) ∙ ap ClaimedBy same;
          }

      unsent_by : (c task : ℕ) → slice_get now.snap.chunks c ≡ Some (chunk.Claimed task) → (c ≡ i) ⊎ (c ≢ i) → IsUnsent now owner_now c task
      unsent_by c task is (inl one) = subst (λ (z : ℕ). IsUnsent now owner_now z task) (sym one) (unsent_here task (sym (ap (slice_get now.snap.chunks) one) ∙ is))
      unsent_by c task is (inr other) =
          let u : IsUnsent s owner c task = old c task (sym (state_others s i k (chunk.Claimed k) chunk.Free free tt c other) ∙ is) in
          record { block = u.block; there = u.there; unkept = u.unkept; claimed = claimed_out owner k (rest.head ∷ rest.tail) (place_of (block_counts s.snap.list) c u.block) (λ g. other (of_chunk c u.block u.there g)) ∙ u.claimed }

      unsent_now : AreUnsent (Some now) owner_now
      unsent_now c task is = unsent_by c task is (cases_eq c i)

    goes : GoesOn s r n tasks talks k number has now refl claimed_on after
    goes counts old here_counts =
        let w = old.rounds in
        let see : Seen counts w = sees (Some s) r n tasks talks k number has counts old in
        let f = facts counts w see in
        let at : IsAt counts r.table s talks.lines w k here.l (doing.Serving run Claim) here.l.commands = at_here s r n tasks talks k number has live run Claim serving counts w old.view see in
        let core : core_of now.snap.list next ≡ Some (ServingCore (donor_stage s) (rest.head ∷ rest.tail)) = work_begins s.snap.list run i mask more.few ∙ (λ j. Some (ServingCore (f.stage j) (rest.is j))) in
        record {
          next = claiming w k w.sides.at (rest.head ∷ rest.tail);
          rule = kept w (claiming w k w.sides.at (rest.head ∷ rest.tail)) old.rule (inr (inl (claim_step counts r.table s now talks.lines w k here.l run here.l.commands at f.stage i free (by_chunk s i k (chunk.Claimed k) chunk.Free free tt) refl (state_here s i k (chunk.Claimed k) chunk.Free free tt) rest.head rest.tail rest.is)));
          view = claim_view counts r.table s now talks.lines w k here.l run here.l.commands at f.stage i free (by_chunk s i k (chunk.Claimed k) chunk.Free free tt) refl (state_here s i k (chunk.Claimed k) chunk.Free free tt) rest.head rest.tail rest.is next core;
          sizes = refl;
          acknowledged = refl;
          unsent = unsent_now w.sides.owner old.unsent;
        }

    -- THE CHUNK WAS CLAIMED.
    pub claimed_talks : IsTalking (Some now) r (with_connection number claimed_on n)
    claimed_talks = goes_talks s r n tasks talks k number has now refl claimed_on after goes (session_now s i k (chunk.Claimed k) chunk.Free free tt r talks.own) (line_now s i k (chunk.Claimed k) chunk.Free free tt r) (come_now s i k (chunk.Claimed k) chunk.Free free tt) of_new come_own

-- A donor's end of a task's connection sends the block that it has read.
use Rattle.std.proofs.Common.{ℕ, ◌≡◌, ◌≢◌, ◌∙◌, ◌⊎◌, ◌↔◌, ◌<◌, ◌≤◌, ◌+◌, ◌-◌, List, [], Bool, true, false, if◌then◌else◌, min, Option, Some, length, refl, sym, ap, subst, inl, inr, arith}
use Rattle.std.specs.Prelude.{slice_get, slice_index, IsTrue, not, ◌||◌}
use Rattle.std.proofs.lemmas.Bool.{both_ways, cases_eq, cases_lt}
use Rattle.std.proofs.lemmas.List.{append-nil}
use Rattle.clone_chunk.specs.Chunks.{is_kept}
use Rattle.clone_chunk.specs.Stages.{copy_number}
use Rattle.clone_chunk.specs.declared.chunk.Chunk.{Chunk}
use Rattle.clone_chunk.specs.declared.chunk.Chunk.TheVariants as chunk
use Rattle.clone_snapshot.specs.StageLists.{block_count}
use Rattle.clone_snapshot.specs.Resets.{IsLast}
use Rattle.clone_marks.specs.Counts.{block_counts}
use Rattle.clone_marks.proofs.RunLemmas.{counts_at}
use Rattle.clone_session.specs.Cloning.{Session}
use Rattle.clone_session.specs.CloneCauses.{donor_stage}
use Rattle.clone_wire.specs.declared.frame.Frame.{Frame}
use Rattle.clone_wire.specs.declared.frame.Side.TheVariants.{Answer as ofDonor}
use Rattle.clone_stream.specs.Streams.{IsFrameOf}
use Rattle.clone_serve.specs.Following.{next_block, work_after}
use Rattle.clone_serve.specs.declared.doing.Doing.{Doing}
use Rattle.clone_serve.specs.declared.doing.Doing.TheVariants as doing
use Rattle.clone_serve.specs.declared.doing.Execution.{Execution}
use Rattle.clone_serve.specs.declared.doing.Place.{Place}
use Rattle.clone_serve.specs.declared.doing.Work.{Work}
use Rattle.clone_serve.specs.declared.doing.Work.TheVariants.{Read}
use Rattle.clone_recipient.specs.Receptions.{Reception}
use Rattle.clone_network.specs.Connections.{Connection, is_open}
use Rattle.clone_network.specs.Networks.{Network, with_connection}
use Rattle.clone_rounds.specs.Awaiting.{Has, Rule}
use Rattle.clone_rounds.specs.Steps.{cut_to, sending}
use Rattle.clone_rounds.specs.World.{Block, Claimed as ClaimedBy, Owner, Sent, Serving as ServingCore, World, put, with_seat}
use Rattle.clone_rounds.proofs.Moving.{kept}
use Rattle.clone_rounds.proofs.Cutting.{keep_cuts}
use Rattle.clone_rounds.proofs.Puts.{put_other, put_same}
use Rattle.clone_view.specs.Donors.{core_of, rest_at}
use Rattle.clone_view.specs.Frames.{answer_of}
use Rattle.clone_view.specs.Rows.{left_from, place_of}
use Rattle.clone_view.specs.Views.{IsAt, IsSeat, IsView, Line, line_served}
use Rattle.clone_view.proofs.Going.{next_is, next_unkept, work_ends, work_goes_on}
use Rattle.clone_view.proofs.Sends.{block_step, block_view, in_from, place_from, place_same}
use Rattle.clone_paired.specs.Lines.{Binds, IsLineOf, caller_of, connection_of}
use Rattle.clone_paired.specs.Paired.{IsTalking}
use Rattle.clone_paired.specs.Seen.{AreUnsent, IsUnsent}
use Rattle.clone_paired.specs.Sessions.{HasComeTo, IsPlaceOf}
use Rattle.clone_paired.specs.Speaking.{IsGiven}
use Rattle.clone_paired.specs.Unread.{Holds}
use Rattle.clone_paired.proofs.Changing.{view_seat}
use Rattle.clone_paired.proofs.DonorClaimsChunk.{HasMore, by_chunk, come_now, given_now, has_more, line_now, session_now, state_here, state_others, with_state}
use Rattle.clone_paired.proofs.DonorSendsLine.{at_cut, of_served, served_on}
use Rattle.clone_paired.proofs.DonorServes.{GoesOn, IsIn, at_here, caller_is, doing_is, goes_talks, is_in}
use Rattle.clone_paired.proofs.DonorTurns.{Sees, come_same, first, sees, x}
use Rattle.clone_paired.proofs.Linked.{Linked}
use Rattle.clone_paired.proofs.Transports.{all_as}

-- a line that has changed twice
put_twice : {A : Type 0} (f : ℕ → A) (k : ℕ) (x y : A) (j : ℕ) → put (put f k x) k y j ≡ put f k y j
put_twice f k x y j = by (cases_eq j k)
  where
    by : (j ≡ k) ⊎ (j ≢ k) → put (put f k x) k y j ≡ put f k y j
    by (inl e) = ap (put (put f k x) k y) e ∙ put_same (put f k x) k y ∙ sym (put_same f k y) ∙ sym (ap (put f k y) e)
    by (inr other) = put_other (put f k x) k y j other ∙ put_other f k x j other ∙ sym (put_other f k y j other)

or_true : (b : Bool) → (b || true) ≡ true
or_true true = refl
or_true false = refl

-- what the chunk is then, by whether the block was its last
abbrev pub state_after : ℕ → Bool → Chunk
state_after k last = if last then chunk.Finished else chunk.Claimed k

state_cases : (k : ℕ) (last : Bool) (state : Option Chunk) → state ≡ Some (state_after k last) → (state ≡ Some (chunk.Claimed k)) ⊎ (state ≡ Some chunk.Finished)
state_cases k true state is = inr is
state_cases k false state is = inl is

module _ (s : Session) (r : Reception) (n : Network) (tasks : length n.seats ≡ r.table.count) (talks : IsTalking (Some s) r n) (k number : ℕ) (has : connection_of n k ≡ Some number) where
  abbrev here : Linked (Some s) r n talks.lines talks.known (first (Some s) r n tasks talks k number has).rounds k
  here = x (Some s) r n tasks talks k number has

  module _ (live : is_open here.at ≡ true) (run : Execution) (place : Place) (again : Bool) (serving : here.at.doing ≡ doing.Serving run (Read place again)) where
    abbrev what : Work
    what = Read place again

    -- the place is one of the chunk that the task has claimed
    pub here_place : IsPlaceOf s k place
    here_place = subst (HasComeTo s k) (doing_is (Some s) r n tasks talks k number has live run what serving) (come_same (Some s) r n tasks talks k number has)

    abbrev Seen : (ℕ → List ℕ) → World → Type 0
    Seen counts w = Sees (Some s) r n tasks talks k number has counts w

    facts : (counts : ℕ → List ℕ) (w : World) → Seen counts w → IsIn s r n tasks talks k number has live run what serving w (rest_at s.snap.list place)
    facts counts w see = is_in s r n tasks talks k number has live run what serving counts w (rest_at s.snap.list place) see refl

    pub known_facts : IsIn s r n tasks talks k number has live run what serving (first (Some s) r n tasks talks k number has).rounds (rest_at s.snap.list place)
    known_facts = facts talks.known (first (Some s) r n tasks talks k number has).rounds (sees (Some s) r n tasks talks k number has talks.known (first (Some s) r n tasks talks k number has))

    module _ (last : Bool) (is_last : IsTrue last ↔ IsLast s.snap.list s.snap.kept place.chunk place.block) where
      abbrev pub now : Session
      now = with_state place.chunk (state_after k last) s

      abbrev pub next : Doing
      next = doing.Serving run (work_after place last)

      state_now : slice_get now.snap.chunks place.chunk ≡ Some (state_after k last)
      state_now = state_here s place.chunk k (state_after k last) (chunk.Claimed k) here_place.claimed refl

      more : HasMore s place.chunk
      more = has_more s place.chunk (chunk.Claimed k) talks.own.chunks here_place.claimed (λ is. cc (is))

      few : place.kept < 255
      few = subst (λ (z : ℕ). z < 255) (sym here_place.kept) more.few

      -- ---- what is left of the chunk

      abbrev row : ℕ
      row = place_of (block_counts s.snap.list) place.chunk 0

      abbrev left : List ℕ
      left = left_from row place.kept (place.block + 1) (block_count s.snap.list place.chunk - place.block - 1)

      later_kept : last ≡ true → (b : ℕ) → place.block < b → b < block_count s.snap.list place.chunk → is_kept place.kept b ≡ true
      later_kept is b above below = ap (λ (z : ℕ). is_kept z b) here_place.kept ∙ (is_last.0 is).later b above below

      core_by : (b : Bool) → last ≡ b → core_of now.snap.list (doing.Serving run (work_after place b)) ≡ Some (ServingCore (copy_number run.stage) left)
      core_by true is = work_ends s.snap.list run place (later_kept is)
      core_by false is = work_goes_on s.snap.list run place few here_place.block more.short

      -- one is left where it wasn't the last
      abbrev later : ℕ
      later = next_block place.kept (min (place.block + 1) 255)

      record IsLater : Type 0 where
        low : place.block + 1 ≤ later
        high : later < block_count s.snap.list place.chunk
        unkept : is_kept place.kept later ≡ false

      later_there : last ≡ false → IsLater
      later_there is = by (cases_lt later (block_count s.snap.list place.chunk))
        where
          from : min (place.block + 1) 255 ≡ place.block + 1
          from = omega (arith, here_place.block, more.short)

          later_is : later ≡ next_block place.kept (place.block + 1)
          later_is = ap (next_block place.kept) from

          passed : (place.block + 1 ≤ next_block place.kept (place.block + 1)) × ((b : ℕ) → place.block + 1 ≤ b → b < next_block place.kept (place.block + 1) → is_kept place.kept b ≡ true)
          passed = next_is place.kept (place.block + 1) few

          by : (later < block_count s.snap.list place.chunk) ⊎ (block_count s.snap.list place.chunk ≤ later) → IsLater
          by (inl less) = record {
            low = subst (λ (z : ℕ). place.block + 1 ≤ z) (sym later_is) passed.0;
            high = less;
            unkept = ap (is_kept place.kept) later_is ∙ next_unkept place.kept (place.block + 1) few (omega (arith, passed.0, later_is, less, more.short));
          }
          by (inr past) = absurd (both_ways last is (is_last.1 (record {
            there = here_place.block;
            later = λ b above below. sym (ap (λ (z : ℕ). is_kept z b) here_place.kept) ∙ passed.1 b (omega (arith, above)) (omega (arith, below, past, later_is));
          })))

      come_by : (b : Bool) → last ≡ b → HasComeTo (with_state place.chunk (state_after k b) s) k (doing.Serving run (work_after place b))
      come_by true is = tt
      come_by false is = record { kept = here_place.kept; block = (later_there is).high; unkept = (later_there is).unkept; claimed = state_here s place.chunk k (chunk.Claimed k) (chunk.Claimed k) here_place.claimed refl }

      -- ---- whose the blocks are

      within : (c d : ℕ) → d < block_count s.snap.list c → d < slice_index (block_counts s.snap.list) c
      within c d less = subst (λ (z : ℕ). d < z) (sym (counts_at s.snap.list c)) less

      module _ (w : World) (f : IsIn s r n tasks talks k number has live run what serving w (rest_at s.snap.list place)) (old : AreUnsent (Some s) w.sides.owner) where
        abbrev owner_now : ℕ → Owner
        owner_now = put w.sides.owner (row + place.block) (Sent k)

        -- a block of another place stays
        stays : (c d : ℕ) → d < block_count s.snap.list c → ((c ≡ place.chunk) → (d ≡ place.block) → ⊥) → owner_now (place_of (block_counts s.snap.list) c d) ≡ w.sides.owner (place_of (block_counts s.snap.list) c d)
        stays c d small apart = put_other w.sides.owner (row + place.block) (Sent k) (place_of (block_counts s.snap.list) c d) (λ same.
            let one : (c ≡ place.chunk) × (d ≡ place.block) = place_same (block_counts s.snap.list) c d place.chunk place.block (within c d small) (within place.chunk place.block here_place.block) (same ∙ sym (place_from (block_counts s.snap.list) place.chunk place.block)) in
            apart one.0 one.1)

        unsent_here : (b : Bool) → last ≡ b → (task : ℕ) → slice_get now.snap.chunks place.chunk ≡ Some (chunk.Claimed task) → IsUnsent now owner_now place.chunk task
        unsent_here true is task claims = absurd (let own : slice_get now.snap.chunks place.chunk ≡ Some chunk.Finished = state_now ∙ ap (λ (b : Bool). Some (state_after k b)) is in cc (claims, own))
        unsent_here false is task claims =
            let own : slice_get now.snap.chunks place.chunk ≡ Some (chunk.Claimed k) = state_now ∙ ap (λ (b : Bool). Some (state_after k b)) is in
            let same : k ≡ task = cc (claims, own) in
            let l = later_there is in
            let high : later < block_count s.snap.list place.chunk = l.high in
            let low : place.block + 1 ≤ later = l.low in
            let at : place_of (block_counts s.snap.list) place.chunk later ≡ row + later = place_from (block_counts s.snap.list) place.chunk later in
            let in_rest : Has (row + later) (rest_at s.snap.list place) = in_from row place.kept place.block (block_count s.snap.list place.chunk - place.block) later (omega (arith, low)) (omega (arith, high)) l.unkept in
            record {
              block = later;
              there = high;
              unkept = sym (ap (λ (z : ℕ). is_kept z later) here_place.kept) ∙ l.unkept;
              claimed = stays place.chunk later high (λ one two. omega (arith, two, low)) ∙ ap w.sides.owner at ∙ (f.claims.each (row + later) in_rest).1 ∙ ap ClaimedBy same;
            }

        unsent_by : (c task : ℕ) → slice_get now.snap.chunks c ≡ Some (chunk.Claimed task) → (c ≡ place.chunk) ⊎ (c ≢ place.chunk) → IsUnsent now owner_now c task
        unsent_by c task is (inl one) = subst (λ (z : ℕ). IsUnsent now owner_now z task) (sym one) (unsent_here last refl task (sym (ap (slice_get now.snap.chunks) one) ∙ is))
        unsent_by c task is (inr other) =
            let u : IsUnsent s w.sides.owner c task = old c task (sym (state_others s place.chunk k (state_after k last) (chunk.Claimed k) here_place.claimed refl c other) ∙ is) in
            record { block = u.block; there = u.there; unkept = u.unkept; claimed = stays c u.block u.there (λ one two. other one) ∙ u.claimed }

        unsent_now : AreUnsent (Some now) owner_now
        unsent_now c task is = unsent_by c task is (cases_eq c place.chunk)

      -- ---- it is sent

      module _ (told : Frame) (of_told : IsFrameOf ofDonor told) (given : IsGiven (Some s) r told) (says : (counts : ℕ → List ℕ) → counts (donor_stage s) ≡ block_counts s.snap.list → answer_of counts told ≡ Some (Block (donor_stage s) (place_of (block_counts s.snap.list) place.chunk place.block))) where
        pub stays_given : (f : Frame) → IsGiven (Some s) r f → IsGiven (Some now) r f
        stays_given f is = given_now s place.chunk k (state_after k last) (chunk.Claimed k) here_place.claimed refl r f is

        pub binds : Binds (caller_of r.table k) next
        binds = caller_is (Some s) r n tasks talks k number has live run what serving

        abbrev pub block_on : Connection
        block_on = served_on s now r n tasks talks k number has live known_facts.idle told of_told next refl binds (stays_given told given) stays_given

        abbrev after : Line
        after = line_served here.l next told

        goes : GoesOn s r n tasks talks k number has now refl block_on after
        goes counts old counted =
            let w = old.rounds in
            let see : Seen counts w = sees (Some s) r n tasks talks k number has counts old in
            let f = facts counts w see in
            let at : IsAt counts r.table s talks.lines w k here.l (doing.Serving run what) here.l.commands = at_here s r n tasks talks k number has live run what serving counts w old.view see in
            let core : core_of now.snap.list next ≡ Some (ServingCore (donor_stage s) left) = core_by last refl ∙ ap (λ (z : ℕ). Some (ServingCore z left)) f.stage in
            let by = by_chunk s place.chunk k (state_after k last) (chunk.Claimed k) here_place.claimed refl in
            record {
              next = sending w k w.sides.at (row + place.block) left;
              rule = kept w (sending w k w.sides.at (row + place.block) left) old.rule (inr (inl (block_step counts r.table s now talks.lines w k here.l run place again here.l.commands at old.rule f.stage here_place.unkept here_place.kept here_place.block here_place.claimed by refl (state_cases k last (slice_get now.snap.chunks place.chunk) state_now))));
              view = block_view counts r.table s now talks.lines w k here.l run place again here.l.commands at old.rule f.stage here_place.unkept here_place.kept here_place.block here_place.claimed by refl (state_cases k last (slice_get now.snap.chunks place.chunk) state_now) next told core (says counts counted);
              sizes = refl;
              acknowledged = refl;
              unsent = unsent_now w f old.unsent;
            }

        -- THE BLOCK WAS SENT.
        pub sent_talks : IsTalking (Some now) r (with_connection number block_on n)
        sent_talks = goes_talks s r n tasks talks k number has now refl block_on after goes (session_now s place.chunk k (state_after k last) (chunk.Claimed k) here_place.claimed refl r talks.own) (line_now s place.chunk k (state_after k last) (chunk.Claimed k) here_place.claimed refl r) (come_now s place.chunk k (state_after k last) (chunk.Claimed k) here_place.claimed refl) (of_served s now r n tasks talks k number has live known_facts.idle told of_told next refl binds (stays_given told given) stays_given) (at_cut here.l.cut (HasComeTo now k) next tt (come_by last refl))

      -- ---- it is lost, since there was no memory for its frame

      module _ (told : Frame) (says : (counts : ℕ → List ℕ) → counts (donor_stage s) ≡ block_counts s.snap.list → answer_of counts told ≡ Some (Block (donor_stage s) (place_of (block_counts s.snap.list) place.chunk place.block))) (new : Connection) (held : new.held ≡ here.at.held) (cut : new.cut ≡ here.at.cut) (to_task : new.to_task ≡ here.at.to_task) (shut : is_open new ≡ false) where
        abbrev line_cut : Line
        line_cut = record here.l { cut = true }

        abbrev line_lost : Line
        line_lost = record here.l { cut = true; doing = doing.Over }

        of_lost : IsLineOf (Some now) r k new line_lost
        of_lost = record {
          held = held ∙ here.of.held;
          cut = sym (ap (λ (b : Bool). new.cut || not b) shut ∙ or_true new.cut);
          doing = sym (ap (λ (b : Bool). if b then new.doing else doing.Over) shut);
          binds = tt;
          live = λ is. absurd (both_ways (is_open new) shut is);
          over = λ is. known_facts.idle;
          answers = subst (λ (c : Bool). Holds ofDonor c here.l.answers new.to_task) (sym cut) (subst (Holds ofDonor here.at.cut here.l.answers) (sym to_task) here.of.answers);
          asked = here.of.asked;
          given = all_as (given_now s place.chunk k (state_after k last) (chunk.Claimed k) here_place.claimed refl r) here.l.answers here.of.given;
        }

        goes_lost : GoesOn s r n tasks talks k number has now refl new line_lost
        goes_lost counts old counted =
            let w = old.rounds in
            let see : Seen counts w = sees (Some s) r n tasks talks k number has counts old in
            let f = facts counts w see in
            let seat = cut_to (w.seats k) (w.seats k).commands (w.seats k).answers in
            let w1 : World = with_seat w k seat in
            let standing = old.view.table.seats k in
            let view1 : IsView counts r.table (Some s) (put talks.lines k (Some line_cut)) w1 = view_seat counts r (Some s) talks.lines w k line_cut seat old.view (record { connected = standing.connected; awaits = standing.awaits; ended = standing.ended }) (record { connected = see.line.connected; cut = refl; commands = see.line.commands; answers = see.line.answers; core = see.line.core }) in
            let rule1 : Rule w1 = keep_cuts w k (w.seats k).commands (w.seats k).answers [] [] old.rule see.linked (sym (append-nil (w.seats k).commands)) (sym (append-nil (w.seats k).answers)) in
            let at : IsAt counts r.table s (put talks.lines k (Some line_cut)) w1 k line_cut (doing.Serving run what) here.l.commands = record { view = view1; task = subst (λ (c : ℕ). k < c) old.view.table.tasks see.linked.task; line = put_same talks.lines k (Some line_cut); doing = doing_is (Some s) r n tasks talks k number has live run what serving; commands = refl } in
            let core : core_of now.snap.list next ≡ Some (ServingCore (donor_stage s) left) = core_by last refl ∙ ap (λ (z : ℕ). Some (ServingCore z left)) f.stage in
            let by = by_chunk s place.chunk k (state_after k last) (chunk.Claimed k) here_place.claimed refl in
            let view2 = block_view counts r.table s now (put talks.lines k (Some line_cut)) w1 k line_cut run place again here.l.commands at rule1 f.stage here_place.unkept here_place.kept here_place.block here_place.claimed by refl (state_cases k last (slice_get now.snap.chunks place.chunk) state_now) next told core (says counts counted) in
            record {
              next = sending w1 k w1.sides.at (row + place.block) left;
              rule = kept w1 (sending w1 k w1.sides.at (row + place.block) left) rule1 (inr (inl (block_step counts r.table s now (put talks.lines k (Some line_cut)) w1 k line_cut run place again here.l.commands at rule1 f.stage here_place.unkept here_place.kept here_place.block here_place.claimed by refl (state_cases k last (slice_get now.snap.chunks place.chunk) state_now))));
              view = record { table = view2.table; donor = view2.donor; seats = λ j. subst (λ (l : Option Line). IsSeat counts now.snap.list l ((sending w1 k w1.sides.at (row + place.block) left).seats j)) (put_twice talks.lines k (Some line_cut) (Some line_lost) j) (view2.seats j) };
              sizes = refl;
              acknowledged = refl;
              unsent = unsent_now w f old.unsent;
            }

        -- THE BLOCK WAS LOST.
        pub lost_talks : IsTalking (Some now) r (with_connection number new n)
        lost_talks = goes_talks s r n tasks talks k number has now refl new line_lost goes_lost (session_now s place.chunk k (state_after k last) (chunk.Claimed k) here_place.claimed refl r talks.own) (line_now s place.chunk k (state_after k last) (chunk.Claimed k) here_place.claimed refl r) (come_now s place.chunk k (state_after k last) (chunk.Claimed k) here_place.claimed refl) of_lost tt

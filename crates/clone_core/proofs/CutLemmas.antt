-- A CONNECTION IS CUT, or bytes come on it that the donor didn't send, in a world.
use Rattle.std.proofs.Common.{◌≡◌, ◌∙◌, ◌&&◌, ◌++◌, [], ℕ, List, Bool, true, false, if◌then◌else◌, refl, sym, ap, subst, Option, Some, None, codes, append-nil}
use Rattle.std.specs.Prelude.{◌||◌, is_none, slice_get}
use Rattle.clone_tasks.specs.Tables.{is_running}
use Rattle.std.specs.Option.{option_map_or, option_or}
use Rattle.std.specs.FinMap as finite
use Rattle.std.specs.Ordering.{nat_cmp}
use Rattle.clone_plain.specs.Answers.{Text}
use Rattle.clone_script.specs.declared.lines.Line.{Line}
use Rattle.clone_script.specs.declared.lines.Line.TheVariants as lines
use Rattle.clone_session.specs.declared.info.Stop as session
use Rattle.clone_tasks.specs.declared.end.CloneEnd as tasks
use Rattle.clone_network.specs.Connections.{Connection, cut_at}
use Rattle.clone_network.specs.Networks.{Network, fed, is_connected, on_connected, with_connection}
use Rattle.clone_sides.specs.Moment.{own_stop}
use Rattle.clone_joined.specs.Joined.{IsJoined}
use Rattle.clone_joined.proofs.JoinedLemmas.{joined_cuts}
use Rattle.clone_events.specs.World.{IsHonest}
use Rattle.clone_talk.proofs.TaskTalks.{cuts_talk}
use Rattle.clone_events.specs.Events.{Change, EndsFairly, TellsEnd, acts, idle}
use Rattle.clone_core.specs.declared.world.Copying.{Copying}
use Rattle.clone_core.specs.declared.world.Course.{Course}
use Rattle.clone_core.specs.declared.world.Course.TheVariants as course_as
use Rattle.clone_core.specs.declared.world.TheConstants.{SESSION}
use Rattle.clone_core.specs.System.{System}
use Rattle.clone_core.specs.Acting.{ActsCut, ActsFeed, ActsStep, OnCopying, disturbing, donor_changes, stop_changes, with_copying, with_donor}
use Rattle.clone_core.specs.CloneEvents.{Acts, Changes}
use Rattle.clone_core.specs.Copied.{GoOnTalking, GoesOn, Holds, KnowsItsSizes, SaysInProgress, floor_of, progress_by, progress_of, world_of}
use Rattle.clone_core.specs.Ending.{is_over}
use Rattle.clone_core.specs.Lines.{State, Happens}
use Rattle.clone_core.specs.Parts.{OnTerms}
use Rattle.clone_core.proofs.DonorLemmas as donors
use Rattle.clone_core.proofs.DonorLemmas.{disturbed_by}
use Rattle.clone_core.proofs.PartLemmas.{connected_on}
use Rattle.clone_core.proofs.ServeLemmas.{same_lends, same_stops}
use Rattle.clone_core.proofs.StrangerLemmas.{not_over, undisturbed, was_honest}

-- ---- the donor stays

kept_stop : (stop own : Option session.Stop) → (stop ≡ None → own ≡ None) → option_or stop own ≡ stop
kept_stop None own none = none refl
kept_stop (Some at) own none = refl

no_stop : (stop own : Option session.Stop) → (stop ≡ None → own ≡ None) → stop_changes stop own ≡ []
no_stop None own none = ap (stop_changes None) (none refl)
no_stop (Some at) own none = refl

-- what is connected to nobody stays
not_connected : (connection : ℕ) (change : Connection → Connection) (n : Network) → is_connected n.connections connection ≡ false → on_connected connection change n ≡ n
not_connected connection change n is = by (slice_get n.connections connection) is
  where
    held : (b : Bool) (at : Connection) → b ≡ false → (if b then with_connection connection (change at) n else n) ≡ n
    held b at none = ap (λ (x : Bool). if x then with_connection connection (change at) n else n) none

    by : (o : Option Connection) → option_map_or (λ at. at.held) o false ≡ false → option_map_or (λ at. if at.held then with_connection connection (change at) n else n) o n ≡ n
    by None none = refl
    by (Some at) none = held at.held at none

-- another network, and somebody may have acted
module _ (s : System) (begun : finite.FinMap nat_cmp ℕ) (disturbed doubted shown : Bool) (c : Copying) (at : s.course ≡ course_as.Begun c) (n : Network) (acted : Bool) (holds : Holds (world_of s begun disturbed doubted shown)) (on : OnTerms s.terms (course_as.Begun (record { reception = c.reception; network = n })))
    (keeps : acted ≡ false → GoesOn s (course_as.Begun c) → GoesOn s (course_as.Begun (record { reception = c.reception; network = n }))) (talk : acted ≡ false → GoOnTalking s (course_as.Begun c) → GoOnTalking s (course_as.Begun (record { reception = c.reception; network = n }))) where
  abbrev w : Course
  w = course_as.Begun (record { reception = c.reception; network = n })

  abbrev next : System
  next = with_copying c.reception n s

  abbrev flag : Bool
  flag = disturbed_by acted (progress_of s.course) disturbed

  abbrev new : State
  new = world_of next begun flag doubted shown

  abbrev moved : System
  moved = record (with_donor s.donor s) { course = w }

  unmoved : (s.stop ≡ None → own_stop SESSION s.donor.cloning.stop ≡ None)
  unmoved = holds.unstopped

  moved_is : moved ≡ next
  moved_is = ap (λ (o : Option session.Stop). record next { stop = o }) (kept_stop s.stop (own_stop SESSION s.donor.cloning.stop) unmoved)

  goes : IsHonest (world_of moved begun flag doubted shown).clone → GoesOn moved w
  goes honest runs =
      let first : acted ≡ false = undisturbed acted (progress_of s.course) disturbed (ap (λ (x : Course). is_over (progress_of x)) at ∙ not_over c.reception.table.ended runs) honest in
      let on = keeps first (subst (GoesOn s) at (holds.goes_on (was_honest acted (progress_of s.course) disturbed honest))) runs in
      subst (λ (o : Option session.Stop). IsJoined SESSION o s.donor c.reception s.recipient.told n) (sym (kept_stop s.stop (own_stop SESSION s.donor.cloning.stop) unmoved)) on

  talks : (world_of moved begun flag doubted shown).tells ≡ true → IsHonest (world_of moved begun flag doubted shown).clone → GoOnTalking moved w
  talks told honest runs =
      let first : acted ≡ false = undisturbed acted (progress_of s.course) disturbed (ap (λ (x : Course). is_over (progress_of x)) at ∙ not_over c.reception.table.ended runs) honest in
      talk first (subst (GoOnTalking s) at (holds.talks told (was_honest acted (progress_of s.course) disturbed honest))) runs

  changed : Changes (disturbing acted ++ donor_changes s s.donor) (world_of s begun disturbed doubted shown) (world_of moved begun flag doubted shown)
  changed = donors.changed s begun disturbed doubted shown s.donor w acted false s.alone refl (ap progress_of (sym at)) (ap floor_of (sym at)) (same_lends s.donor s.donor refl) (same_stops s.donor s.donor refl) holds goes

  none_more : disturbing acted ++ donor_changes s s.donor ≡ disturbing acted
  none_more = ap (λ (l : List Change). disturbing acted ++ l) (no_stop s.stop (own_stop SESSION s.donor.cloning.stop) unmoved) ∙ append-nil (disturbing acted)

  changed_so : Changes (disturbing acted) (world_of s begun disturbed doubted shown) new
  changed_so = subst (λ (l : List Change). Changes l (world_of s begun disturbed doubted shown) new) none_more
      (subst (λ (x : System). Changes (disturbing acted ++ donor_changes s s.donor) (world_of s begun disturbed doubted shown) (world_of x begun flag doubted shown)) moved_is changed)

  tells_no_end : (b : Bool) (text : Text) → TellsEnd (disturbing b) text
  tells_no_end true text = tt
  tells_no_end false text = tt

  ends_fair : (b : Bool) → EndsFairly (world_of s begun disturbed doubted shown).clone (disturbing b)
  ends_fair true = tt
  ends_fair false = tt

  pub happens_by : (line : Line) (text : Text) → ActsStep line s next (disturbing acted) text → Happens (world_of s begun disturbed doubted shown) (acts line (disturbing acted) text) new
  happens_by line text step = record {
    step = step;
    begun = refl;
    clone = record { now = changed_so.now; shows = (changed_so.shows, tells_no_end acted text, λ told. ends_fair acted); is = changed_so.clone };
    tells = changed_so.tells;
    tasks = refl;
    sees = λ told. tt;
  }

  pub holds_next : Holds new
  holds_next = subst (λ (x : System). Holds (world_of x begun flag doubted shown)) moved_is
      (donors.holds_next s begun disturbed doubted shown s.donor w acted false s.alone refl (ap progress_of (sym at)) (ap floor_of (sym at)) (same_lends s.donor s.donor refl) (same_stops s.donor s.donor refl) holds goes on
      (subst (KnowsItsSizes s) at holds.sizes) (subst (λ (x : Course). SaysInProgress x s.recipient.told) at holds.marked) talks)

-- ---- a cut

module _ (s : System) (begun : finite.FinMap nat_cmp ℕ) (disturbed doubted shown : Bool) (c : Copying) (at : s.course ≡ course_as.Begun c) (connection to_donor to_task : ℕ) (holds : Holds (world_of s begun disturbed doubted shown)) where
  abbrev cut : Network
  cut = on_connected connection (cut_at to_donor to_task) c.network

  cut_on : OnTerms s.terms (course_as.Begun (record { reception = c.reception; network = cut }))
  cut_on = connected_on s.terms c.reception connection (cut_at to_donor to_task) c.network (λ x is. is) (subst (OnTerms s.terms) at holds.parts)

  cut_keeps : false ≡ false → GoesOn s (course_as.Begun c) → GoesOn s (course_as.Begun (record { reception = c.reception; network = cut }))
  cut_keeps none on = λ runs. joined_cuts SESSION c.reception s.recipient.told s.stop s.donor c.network connection to_donor to_task (on runs)

  cut_talks : false ≡ false → GoOnTalking s (course_as.Begun c) → GoOnTalking s (course_as.Begun (record { reception = c.reception; network = cut }))
  cut_talks none on = λ runs. cuts_talk s.alone s.donor c.reception c.network connection to_donor to_task (on runs)

  pub cut_happens : Happens (world_of s begun disturbed doubted shown) (acts (lines.Cut connection to_donor to_task) [] (if is_connected c.network.connections connection then codes "cut" else idle)) (world_of (with_copying c.reception cut s) begun disturbed doubted shown)
  cut_happens = happens_by s begun disturbed doubted shown c at cut false holds cut_on cut_keeps cut_talks (lines.Cut connection to_donor to_task) _
      (subst (λ (x : Course). OnCopying (ActsCut connection to_donor to_task) x s (with_copying c.reception cut s) [] (if is_connected c.network.connections connection then codes "cut" else idle)) (sym at) (record { is = refl; none = refl; answers = refl }))

  pub cut_holds : Holds (world_of (with_copying c.reception cut s) begun disturbed doubted shown)
  cut_holds = holds_next s begun disturbed doubted shown c at cut false holds cut_on cut_keeps cut_talks

  -- as the network's call answers it
  module _ (n : Network) (cuts : n ≡ cut) where
    pub cut_made : (r : State) → world_of s begun disturbed doubted shown ≡ r → (b : Bool) → b ≡ is_connected c.network.connections connection → Acts (lines.Cut connection to_donor to_task) r (if b then codes "cut" else codes "idle") (world_of (with_copying c.reception n s) begun disturbed doubted shown)
    cut_made r is b connected = (
      [],
      subst (λ (x : State). Happens x (acts (lines.Cut connection to_donor to_task) [] (if b then codes "cut" else codes "idle")) (world_of (with_copying c.reception n s) begun disturbed doubted shown)) is
          (subst (λ (x : Bool). Happens (world_of s begun disturbed doubted shown) (acts (lines.Cut connection to_donor to_task) [] (if x then codes "cut" else codes "idle")) (world_of (with_copying c.reception n s) begun disturbed doubted shown)) (sym connected)
          (subst (λ (x : Network). Happens (world_of s begun disturbed doubted shown) (acts (lines.Cut connection to_donor to_task) [] (if is_connected c.network.connections connection then codes "cut" else codes "idle")) (world_of (with_copying c.reception x s) begun disturbed doubted shown)) (sym cuts) cut_happens)),
    )

    pub cut_kept : Holds (world_of (with_copying c.reception n s) begun disturbed doubted shown)
    cut_kept = subst (λ (x : Network). Holds (world_of (with_copying c.reception x s) begun disturbed doubted shown)) (sym cuts) cut_holds

-- ---- bytes that come

module _ (s : System) (begun : finite.FinMap nat_cmp ℕ) (disturbed doubted shown : Bool) (c : Copying) (at : s.course ≡ course_as.Begun c) (connection : ℕ) (bytes : List ℕ) (holds : Holds (world_of s begun disturbed doubted shown)) where
  abbrev there : Bool
  there = is_connected c.network.connections connection

  abbrev more : Network
  more = on_connected connection (fed bytes) c.network

  abbrev after : Bool
  after = disturbed_by there (progress_of s.course) disturbed

  feed_on : OnTerms s.terms (course_as.Begun (record { reception = c.reception; network = more }))
  feed_on = connected_on s.terms c.reception connection (fed bytes) c.network (λ x is. is) (subst (OnTerms s.terms) at holds.parts)

  feed_keeps : there ≡ false → GoesOn s (course_as.Begun c) → GoesOn s (course_as.Begun (record { reception = c.reception; network = more }))
  feed_keeps none on = subst (λ (n : Network). GoesOn s (course_as.Begun (record { reception = c.reception; network = n }))) (sym (not_connected connection (fed bytes) c.network none)) on

  feed_talks : there ≡ false → GoOnTalking s (course_as.Begun c) → GoOnTalking s (course_as.Begun (record { reception = c.reception; network = more }))
  feed_talks none on = subst (λ (n : Network). GoOnTalking s (course_as.Begun (record { reception = c.reception; network = n }))) (sym (not_connected connection (fed bytes) c.network none)) on

  pub feed_happens : Happens (world_of s begun disturbed doubted shown) (acts (lines.Feed connection bytes) (disturbing there) (if there then codes "noted" else idle)) (world_of (with_copying c.reception more s) begun after doubted shown)
  feed_happens = happens_by s begun disturbed doubted shown c at more there holds feed_on feed_keeps feed_talks (lines.Feed connection bytes) _
      (subst (λ (x : Course). OnCopying (ActsFeed connection bytes) x s (with_copying c.reception more s) (disturbing there) (if there then codes "noted" else idle)) (sym at) (record { is = refl; changed = refl; answers = refl }))

  pub feed_holds : Holds (world_of (with_copying c.reception more s) begun after doubted shown)
  feed_holds = holds_next s begun disturbed doubted shown c at more there holds feed_on feed_keeps feed_talks

  module _ (n : Network) (feeds : n ≡ more) where
    pub feed_made : (r : State) → world_of s begun disturbed doubted shown ≡ r → (b : Bool) → b ≡ there → Acts (lines.Feed connection bytes) r (if b then codes "noted" else codes "idle") (world_of (with_copying c.reception n s) begun (disturbed_by b (progress_of s.course) disturbed) doubted shown)
    feed_made r is b connected = (
      disturbing b,
      subst (λ (x : State). Happens x (acts (lines.Feed connection bytes) (disturbing b) (if b then codes "noted" else codes "idle")) (world_of (with_copying c.reception n s) begun (disturbed_by b (progress_of s.course) disturbed) doubted shown)) is
          (subst (λ (x : Bool). Happens (world_of s begun disturbed doubted shown) (acts (lines.Feed connection bytes) (disturbing x) (if x then codes "noted" else codes "idle")) (world_of (with_copying c.reception n s) begun (disturbed_by x (progress_of s.course) disturbed) doubted shown)) (sym connected)
          (subst (λ (x : Network). Happens (world_of s begun disturbed doubted shown) (acts (lines.Feed connection bytes) (disturbing there) (if there then codes "noted" else codes "idle")) (world_of (with_copying c.reception x s) begun after doubted shown)) (sym feeds) feed_happens)),
    )

    pub feed_kept : (b : Bool) → b ≡ there → Holds (world_of (with_copying c.reception n s) begun (disturbed_by b (progress_of s.course) disturbed) doubted shown)
    feed_kept b connected = subst (λ (x : Bool). Holds (world_of (with_copying c.reception n s) begun (disturbed_by x (progress_of s.course) disturbed) doubted shown)) (sym connected)
        (subst (λ (x : Network). Holds (world_of (with_copying c.reception x s) begun after doubted shown)) (sym feeds) feed_holds)

    -- as the flag is set
    module _ (b : Bool) (connected : b ≡ there) (flag : Bool) (set : flag ≡ (disturbed || (b && is_running c.reception.table))) where
      flag_is : flag ≡ disturbed_by b (progress_of s.course) disturbed
      flag_is = set ∙ by c.reception.table.ended refl b disturbed ∙ ap (λ (x : Course). disturbed_by b (progress_of x) disturbed) (sym at)
        where
          by : (e : Option tasks.CloneEnd) → c.reception.table.ended ≡ e → (x d : Bool) → (d || (x && is_none c.reception.table.ended)) ≡ disturbed_by x (progress_by c.reception.table.ended) d
          by e is x d = subst (λ (o : Option tasks.CloneEnd). (d || (x && is_none o)) ≡ disturbed_by x (progress_by o) d) (sym is) (cases e x d)
            where
              cases : (o : Option tasks.CloneEnd) → (x d : Bool) → (d || (x && is_none o)) ≡ disturbed_by x (progress_by o) d
              cases None true true = refl
              cases None true false = refl
              cases None false true = refl
              cases None false false = refl
              cases (Some how) true true = refl
              cases (Some how) true false = refl
              cases (Some how) false true = refl
              cases (Some how) false false = refl

      pub feed_flagged : (r : State) → world_of s begun disturbed doubted shown ≡ r → Acts (lines.Feed connection bytes) r (if b then codes "noted" else codes "idle") (world_of (with_copying c.reception n s) begun flag doubted shown)
      feed_flagged r is = subst (λ (x : Bool). Acts (lines.Feed connection bytes) r (if b then codes "noted" else codes "idle") (world_of (with_copying c.reception n s) begun x doubted shown)) (sym flag_is) (feed_made r is b connected)

      pub feed_holds_flagged : Holds (world_of (with_copying c.reception n s) begun flag doubted shown)
      feed_holds_flagged = subst (λ (x : Bool). Holds (world_of (with_copying c.reception n s) begun x doubted shown)) (sym flag_is) (feed_kept b connected)

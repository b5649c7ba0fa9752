-- What comes of a run of a script, by how far it came.
use Rattle.std.proofs.Common.{◌≡◌, ◌≤◌, ℕ, List, ◌++◌, ◌&&◌, Bool, true, false, is_some, length, take, refl, sym, ap, ◌∙◌, subst, Option, None, Some, MatchOption, codes, arith, filter_map, ◌⊎◌, inl, inr}
use Rattle.std.proofs.lemmas.List.{take_all}
use Rattle.std.specs.Fmt.{decimal}
use Rattle.clone_outside.specs.Causes.{Rose}
use Rattle.clone_outside.specs.Disk.{DiskImage, ForTold}
use Rattle.clone_outside.specs.DiskCalls.{DiskState}
use Rattle.clone_outside.specs.declared.link.Link.{Ghosts as Link}
use Rattle.clone_outside.specs.declared.link.Net.{Ghosts as Net}
use Rattle.clone_model.specs.History.{fold}
use Rattle.clone_model.specs.Texts.{ended}
use Rattle.clone_model.specs.declared.config.Config.{Config}
use Rattle.clone_script.specs.declared.lines.Line.{Line}
use Rattle.clone_script.specs.declared.terms.Terms.{Terms}
use Rattle.clone_plain.specs.Answers.{Text}
use Rattle.clone_plain.specs.Donor.{Donor, no_donor}
use Rattle.clone_events.specs.BreaksOff as plain_off
use Rattle.clone_events.specs.Events.{Event, IsComplete, PlainEvent, recipient_fault}
use Rattle.clone_events.specs.Headline.{AreCommits, AreDrops, AreSets, FollowsStop, ShowsFollowers, ShowsStop, all_events, donor_order, recipient_order}
use Rattle.clone_events.specs.Runs as plain_runs
use Rattle.clone_events.specs.World.{World, Stop, Progress, absent, copying, over, Clone, HasEnded, IsSure, before_stop, no_clone, opened}
use Rattle.clone_events.proofs.RunLemmas.{Events-tells}
use Rattle.clone_engine.proofs.ToldLemmas.{for_told}
use Rattle.clone_engine.specs.Disks.{Visits}
use Rattle.clone_core.specs.Steps.{SystemStep}
use Rattle.clone_core.specs.System.{donor_of}
use Rattle.clone_core.specs.Lines.{State, BreaksOff, IsNew, Runs, plain_of}
use Rattle.clone_core.specs.Copied.{HoldsEnded, HoldsStop, KeepsClone}
use Rattle.clone_core.specs.Ending.{ending_of}
use Rattle.clone_core.specs.declared.world.Ending.TheVariants as ending
use Rattle.clone_top.specs.declared.reading.Unread.{Unread}
use Rattle.clone_top.specs.declared.reading.Unread.TheVariants as unread
use Rattle.clone_top.specs.declared.run.Unready.{Unready}
use Rattle.clone_top.specs.declared.run.Unready.TheVariants as unready
use Rattle.clone_top.specs.declared.status.Status.{Status}
use Rattle.clone_top.specs.declared.status.Status.TheVariants.{Done, Memory, Usage, BadLine, SourceFault, SinkFault, DonorFault, RecipientFault, RestartsSpent, Garbled, Refused, NotEmpty, CrewFault, Incomplete, Damaged, CompressionRefused, TooLong}
use Rattle.clone_words.specs.Commands.{IsCommandLine}
use Rattle.clone_words.specs.declared.command.Command.{Command}
use Rattle.clone_words.specs.declared.reading.WordsRefusal.{WordsRefusal}
use Rattle.clone_words.specs.declared.reading.WordsRefusal.TheVariants as words
use Rattle.clone_top.specs.Carrying.{AnsweredAll, Finished, Leaves, behind, within, Stopped, in_lines, in_binlog}
use Rattle.clone_top.specs.Causes.{EndsBy, Hinders, IsAlone, OpensAtMost, said, silent}
use Rattle.clone_top.specs.Ended.{EndsLines}
use Rattle.clone_top.specs.Ends.{AreEmpty, Disks, End, Ends, IsRead, Means, Streams, disks, tell}
use Rattle.clone_top.specs.Headline.{HasClone, HasCompleted, HasCloneAt, Headline, IsWhole, LeavesPlain, Run, Writes, WritesAll, WritesSome}
use Rattle.clone_top.specs.Headline as headline
use Rattle.clone_top.specs.Looking.{IsUnread, IsUnready}
use Rattle.clone_top.specs.Main.{IsUntouched, Outcome, OutcomeOf, StepsOutcome, no_command, no_memory}
use Rattle.clone_top.specs.Saying.{Says, SaysNoCommand, SaysUnread, SaysUnready}
use Rattle.clone_top.specs.Status.{number_of}
use Rattle.clone_top.specs.Completeness.{EndsWell, IsFavoured}
use Rattle.clone_events.proofs.CompleteLemmas.{IsAtStop}
use Rattle.clone_top.proofs.EndLemmas.{ends_at_stop, left_at_stop}
use Rattle.clone_top.proofs.FairLemmas.{run_fair}
use Rattle.clone_top.proofs.FavouredLemmas.{ends_otherwise, unhindered}

-- ---- no line was begun

-- why is said
hindered : (due status : Status) (text : Text) (old new : Streams) (given : Disks) (back : Ends) → Hinders due old new given back.disks text → IsAlone old new back → Says due status old.out new.out (ended text) → StepsOutcome status old new given back
hindered due status text old new given back why alone says = record { run = None; headline = tt; causes = (said due text why says, alone); well = λ f. absurd (unhindered due text old new given back.disks why f.script f.empty f.none) }

unsaid : (status : Status) (old new : Streams) (given : Disks) (back : Ends) → OpensAtMost given back.disks → IsAlone old new back → status ≡ Memory → new.out.told ≡ old.out.told → StepsOutcome status old new given back
unsaid status old new given back disks alone is same = record { run = None; headline = tt; causes = (silent is same disks, alone); well = λ f. inr is }

-- disks of which nothing was asked
untouched : (given back : Disks) → back ≡ given → OpensAtMost given back
untouched given back same = subst (OpensAtMost given) (sym same) (record {
  donor = record { later = omega arith; orders = refl; tells = refl };
  recipient = record { told = refl; later = omega arith; orders = refl };
})

-- the disks that come back where no donor was opened
pub same_disks : (donor donor_back recipient recipient_back : DiskState) → donor_back ≡ donor → recipient_back ≡ recipient → disks donor_back recipient_back ≡ disks donor recipient
same_disks donor donor_back recipient recipient_back same_donor same_recipient = ap (λ (d : DiskState). disks d recipient_back) same_donor ∙ ap (λ (d : DiskState). disks donor d) same_recipient

-- no command was read
pub no_command_read : {N L X R : Type 0} (net : Net N L X) (link : Link L X) (state : R → DiskState) (means left : Means N) (spoken : List Text) (old new : Streams) (given : Disks) (back : Ends) (refusal : WordsRefusal) (status : Status)
    → left ≡ means → back.status ≡ number_of status → (refusal ≡ words.Usage → IsCommandLine spoken → ⊥) → IsUntouched old new given back → SaysNoCommand refusal status old.out new.out → Outcome net link state spoken old new given back means left
no_command_read net link state means left spoken old new given back words.Usage status same number none untouched says = no_command (none refl) status number (record { untouched = untouched; says = says }) same
no_command_read net link state means left spoken old new given back words.NoMemory status same number none untouched says = no_memory (number ∙ ap number_of says.0) untouched says.1 same

-- no script was read
not_read : (old new : Streams) (given : Disks) (back : Ends) (why : Unread) (status : Status) → IsUnread old.source new.source why → back.disks ≡ given → IsAlone old new back → SaysUnread why status old.out new.out → StepsOutcome status old new given back
not_read old new given back unread.SourceFault status is same alone says = hindered SourceFault status (codes "source fault") old new given back (is, same, refl) alone says
not_read old new given back unread.TooLong status is same alone says = hindered TooLong status (codes "script too long") old new given back (is.0, is.1, same, refl) alone says
not_read old new given back (unread.BadLine line) status is same alone says = hindered BadLine status (codes "bad line " ++ decimal line) old new given back (is.0, line, is.1, is.2, same, refl) alone says
not_read old new given back unread.Memory status is same alone says = unsaid status old new given back (untouched given back.disks same) alone says.0 says.1

pub left_unread : (old new : Streams) (given : Disks) (back : Ends) (why : Unread) (due status : Status) → status ≡ due → IsUnread old.source new.source why → back.disks ≡ given → IsAlone old new back → SaysUnread why due old.out new.out → StepsOutcome status old new given back
left_unread old new given back why due status is unread same alone says =
    let P : Status → Type 0 = λ s. StepsOutcome s old new given back in
    subst P (sym is) (not_read old new given back why due unread same alone says)

-- its lines weren't begun
not_begun : (config : Config) (terms : Terms) (lines : List Line) (old new : Streams) (given : Disks) (back : Ends) (why : Unready) (status : Status) → IsRead old.source new.source config terms lines → IsUnready given back.disks why → IsAlone old new back → SaysUnready why status old.out new.out → StepsOutcome status old new given back
not_begun config terms lines old new given back unready.DonorFault status read is alone says = hindered DonorFault status (codes "donor disk fault") old new given back ((config, terms, lines, read), is, refl) alone says
not_begun config terms lines old new given back unready.RecipientFault status read is alone says = hindered RecipientFault status recipient_fault old new given back ((config, terms, lines, read), is.0, is.1, refl) alone says
not_begun config terms lines old new given back unready.NotEmpty status read is alone says = hindered NotEmpty status (codes "not empty") old new given back ((config, terms, lines, read), is.0, is.1, refl) alone says
not_begun config terms lines old new given back unready.Memory status read is alone says = unsaid status old new given back is alone says.0 says.1

pub left_unbegun : (config : Config) (terms : Terms) (lines : List Line) (old new : Streams) (given between : Disks) (back : Ends) (why : Unready) (due status : Status) → status ≡ due → back.disks ≡ between → IsRead old.source new.source config terms lines → IsUnready given between why → IsAlone old new back → SaysUnready why due old.out new.out
    → StepsOutcome status old new given back
left_unbegun config terms lines old new given between back why due status is same read unready alone says =
    let P : Disks → Type 0 = λ d. IsUnready given d why in
    let Q : Status → Type 0 = λ s. StepsOutcome s old new given back in
    subst Q (sym is) (not_begun config terms lines old new given back why due read (subst P (sym same) unready) alone says)

-- what comes of the command that was asked for
pub of_command : {N L X R : Type 0} (net : Net N L X) (link : Link L X) (state : R → DiskState) (means left : Means N) (asked known : Command) (status : Status) (old new : Streams) (given : Disks) (back : Ends)
    → asked ≡ known → OutcomeOf net link state known status old new given back means left → OutcomeOf net link state asked status old new given back means left
of_command net link state means left asked known status old new given back is = subst (λ (x : Command). OutcomeOf net link state x status old new given back means left) (sym is)

-- ---- the recipient's disk

has_clone_at : (d : Donor) (stop : Option Stop) (m : DiskImage) (position : ℕ) → MatchOption stop ⊥ (λ (s : Stop). position ≡ s.position) → MatchOption stop ⊥ (λ (s : Stop). HoldsStop d s m) → MatchOption stop ⊥ (HasCloneAt d m position)
has_clone_at d None m position at holds = holds
has_clone_at d (Some s) m position at holds =
    let has : HasClone m (fold (before_stop s d)) s.position = record { marked = holds.marked; recovers = holds.recovers } in
    record { after = sym at; has = subst (HasClone m (fold (before_stop s d))) (sym at) has }

completed : (d : Donor) (tells : Bool) (clone : Clone) (m : DiskImage) → IsAtStop clone → IsSure tells clone → HoldsEnded d clone m → HasCompleted d clone m
completed d tells clone m at sure is = record {
  whole = λ position ended. has_clone_at d clone.stop m position (at position ended sure.honest) (is.whole (subst IsComplete (sym ended) tt));
  shown = λ _ _ shown. is.shown shown;
}

told_any : (told : Option DiskImage) (P : DiskImage → Type 0) → ((m : DiskImage) → P m) → ForTold told P
told_any None P to = tt
told_any (Some m) P to = to m

uncompleted : (d : Donor) (clone : Clone) (told : Option DiskImage) → (HasEnded clone.progress → ⊥) → ForTold told (HasCompleted d clone)
uncompleted d clone told goes_on = told_any told (HasCompleted d clone) (λ m. record {
  whole = λ position is. absurd (goes_on (subst HasEnded (sym is) tt));
  shown = λ position is _. absurd (goes_on (subst HasEnded (sym is) tt));
})

keeps_completed : (d : Donor) (tells : Bool) (clone : Clone) (told : Option DiskImage) → KeepsClone d tells clone told → IsAtStop clone → IsSure tells clone → ForTold told (HasCompleted d clone)
keeps_completed d tells clone told keeps at sure = by clone.progress refl
  where
    by : (p : Progress) → clone.progress ≡ p → ForTold told (HasCompleted d clone)
    by (over how) is = for_told (HoldsEnded d clone) (HasCompleted d clone) told (λ m. completed d tells clone m at sure) (keeps.holds (subst HasEnded (sym is) tt) sure)
    by absent is = uncompleted d clone told (λ ended. subst HasEnded is ended)
    by copying is = uncompleted d clone told (λ ended. subst HasEnded is ended)

-- ---- the lines

-- a world was begun over the disks
pub record Began (config : Config) (terms : Terms) (given : Disks) (first : State) : Type 0 where
  pub new : IsNew config terms first
  pub empty : AreEmpty given
  pub donor : Visits given.donor first.donor.donor.engine.disk
  pub recipient : Visits given.recipient first.donor.recipient

-- the disks were given back by a world
pub record GivesBack (back : Ends) (left : State) : Type 0 where
  pub donor : back.disks.donor ≡ left.donor.donor.engine.disk
  pub recipient : back.disks.recipient ≡ left.donor.recipient
  pub drops : back.drops ≡ (donor_of left.donor).drops
  pub stop : back.stop ≡ left.clone.stop
  pub clone : KeepsClone (donor_of left.donor) left.tells left.clone left.donor.recipient.told

abbrev PlainRuns : World Donor → List Line → List (List Event) → World Donor → Type 0
PlainRuns s lines events t = plain_runs.Runs (λ d. d) PlainEvent s lines events t

-- what holds of each run from a world
pub record LawsFrom (first : State) : Type 0 where
  pub plain : (lines : List Line) (events : List (List Event)) (t : State) → Runs first lines events t → PlainRuns (plain_of first) lines events (plain_of t)
  pub breaks : (s : State) (line : Line) (t : State) → BreaksOff s line t → plain_off.BreaksOff (λ d. d) PlainEvent (plain_of s) line (plain_of t)
  pub donor_orders : (lines : List Line) (events : List (List Event)) (t : State) → Runs first lines events t → t.donor.donor.engine.disk.orders ≡ first.donor.donor.engine.disk.orders ++ filter_map donor_order lines
  pub recipient_orders : (lines : List Line) (events : List (List Event)) (t : State) → Runs first lines events t → t.donor.recipient.orders ≡ first.donor.recipient.orders ++ filter_map recipient_order lines
  pub tells : (lines : List Line) (events : List (List Event)) (t : State) → Runs first lines events t → t.tells ≡ first.tells
  pub recipient_fault : (lines : List Line) (events : List (List Event)) (t : State) → Runs first lines events t → ending_of t.clone ≡ ending.RecipientFault → Rose first.donor.recipient.failures t.donor.recipient.failures

-- and of each run of the plain donor
pub record PlainLaws : Type 0 where
  pub commits : (lines : List Line) (events : List (List Event)) (t : World Donor) (tasks : ℕ) (tells : Bool) → PlainRuns (opened no_donor tasks tells) lines events t → AreCommits (all_events events) t.donor.binlog
  pub drops : (lines : List Line) (events : List (List Event)) (t : World Donor) (tasks : ℕ) (tells : Bool) → PlainRuns (opened no_donor tasks tells) lines events t → AreDrops 0 (all_events events) t.donor.drops
  pub sets : (lines : List Line) (events : List (List Event)) (t : World Donor) (tasks : ℕ) (tells : Bool) → PlainRuns (opened no_donor tasks tells) lines events t → AreSets lines events t.donor.binlog
  pub stop : (lines : List Line) (events : List (List Event)) (t : World Donor) (tasks : ℕ) (tells : Bool) → PlainRuns (opened no_donor tasks tells) lines events t → ShowsStop t.donor tells no_clone (all_events events)
  pub followers : (lines : List Line) (events : List (List Event)) (t : World Donor) (tasks : ℕ) (tells : Bool) → PlainRuns (opened no_donor tasks tells) lines events t → ShowsFollowers t.donor tells no_clone (all_events events)
  pub follows : (lines : List Line) (events : List (List Event)) (t : World Donor) (tasks : ℕ) (tells : Bool) → PlainRuns (opened no_donor tasks tells) lines events t → FollowsStop t.donor tells t.clone

-- a count that rose since a disk was asked rose since before
rose_before : (old asked final : ℕ) → old ≤ asked → Rose asked final → Rose old final
rose_before old asked final later rose = omega (arith, later, rose)

module _ (old new : Streams) (given : Disks) (back : Ends) (config : Config) (terms : Terms) (lines : List Line) (first left : State)
    (read : IsRead old.source new.source config terms lines) (began : Began config terms given first) (laws : LawsFrom first) (plains : PlainLaws) (gives : GivesBack back left) where
  -- both disks tell what they hold, or not, as before
  tells_first : first.tells ≡ tell given
  tells_first = began.new.tells ∙ ap (λ x. x && is_some first.donor.recipient.told) began.donor.tells ∙ ap (λ x. is_some given.donor.told && x) began.recipient.tells

  begins : plain_of first ≡ opened no_donor terms.tasks (tell given)
  begins = λ i. record { donor = began.new.donor.donor i; begun = began.new.begun i; clone = began.new.clone i; tells = tells_first i; tasks = began.new.tasks i }

  -- how far the lines came
  abbrev run_of : ℕ → List (List Event) → State → Run
  run_of count events final = record { config = config; terms = terms; lines = lines; count = count; events = events; final = plain_of final; left = plain_of left }

  module _ (count : ℕ) (events : List (List Event)) (final : State) (run : Runs first (take count lines) events final) (leaves : Leaves lines count final left) where
    happened : PlainRuns (opened no_donor terms.tasks (tell given)) (take count lines) events (plain_of final)
    happened = subst (λ (w : World Donor). PlainRuns w (take count lines) events (plain_of final)) begins (laws.plain (take count lines) events final run)

    tells_left : Leaves lines count final left → left.tells ≡ final.tells
    tells_left (behind is) = ap (λ (w : State). w.tells) is
    tells_left (within line at off) = off.tells ∙ Events-tells donor_of SystemStep final off.front off.then off.happened

    keeps : KeepsClone (donor_of left.donor) (tell given) left.clone back.disks.recipient.told
    keeps =
        let P : Bool → Type 0 = λ b. KeepsClone (donor_of left.donor) b left.clone left.donor.recipient.told in
        let Q : Option DiskImage → Type 0 = KeepsClone (donor_of left.donor) (tell given) left.clone in
        subst Q (sym (ap (λ (d : DiskState). d.told) gives.recipient)) (subst P (tells_left leaves ∙ laws.tells (take count lines) events final run ∙ tells_first) gives.clone)

    leaves_plain : Leaves lines count final left → LeavesPlain (run_of count events final)
    leaves_plain (behind is) = headline.behind (ap plain_of is)
    leaves_plain (within line at off) = headline.within line at (laws.breaks final line left off)

    at_stop : IsAtStop left.clone
    at_stop = left_at_stop (run_of count events final) (leaves_plain leaves) (ends_at_stop terms.tasks (tell given) (take count lines) events (plain_of final) happened)

    came : (status : Status) → Writes status (run_of count events final) old new → EndsBy status (run_of count events final) old new → (IsFavoured (Some (run_of count events final)) old new given back → EndsWell status) → StepsOutcome status old new given back
    came status writes ended well = record {
      run = Some (run_of count events final);
      headline = record {
        read = read;
        empty = began.empty;
        happened = happened;
        writes = writes;
        commits = plains.commits (take count lines) events (plain_of final) terms.tasks (tell given) happened;
        sets = plains.sets (take count lines) events (plain_of final) terms.tasks (tell given) happened;
        dropped = plains.drops (take count lines) events (plain_of final) terms.tasks (tell given) happened;
        shows = plains.stop (take count lines) events (plain_of final) terms.tasks (tell given) happened;
        followers = plains.followers (take count lines) events (plain_of final) terms.tasks (tell given) happened;
        follows = plains.follows (take count lines) events (plain_of final) terms.tasks (tell given) happened;
        drops = gives.drops;
        stop = gives.stop;
        disk = keeps_completed (donor_of left.donor) (tell given) left.clone back.disks.recipient.told keeps at_stop;
      };
      causes = record {
        first = first;
        final = final;
        left = left;
        opened = began.new;
        donor = began.donor;
        recipient = began.recipient;
        happened = run;
        leaves = leaves;
        plain = refl;
        plain_left = refl;
        keeps = keeps;
        donor_back = gives.donor;
        recipient_back = gives.recipient;
        donor_orders = laws.donor_orders (take count lines) events final run ∙ ap (λ orders. orders ++ filter_map donor_order (take count lines)) began.donor.orders;
        recipient_orders = laws.recipient_orders (take count lines) events final run ∙ ap (λ orders. orders ++ filter_map recipient_order (take count lines)) began.recipient.orders;
        recipient_fault = λ is. rose_before given.recipient.failures first.donor.recipient.failures final.donor.recipient.failures began.recipient.later (laws.recipient_fault (take count lines) events final run is);
        ended = ended;
      };
      well = well;
    }

    -- where all is favourable, its clone didn't end by losses, garbled bytes or a refusal
    fair : IsFavoured (Some (run_of count events final)) old new given back → (ending_of final.clone ≡ ending.RestartsSpent) ⊎ (ending_of final.clone ≡ ending.Garbled) ⊎ (ending_of final.clone ≡ ending.Refused) → ⊥
    fair f = ends_otherwise final.clone f.clone (run_fair terms.tasks (tell given) (take count lines) events (plain_of final) (λ i. is_some (f.empty.donor i) && is_some (f.empty.recipient i)) happened)

  all_lines : take (length lines) lines ≡ lines
  all_lines = take_all (length lines) lines (omega arith)

  whole : (events : List (List Event)) → IsWhole (run_of (length lines) events left)
  whole events = record { all = all_lines; left = refl }

  whole_run : (is : AnsweredAll lines first left old.out.told new.out.told) → Runs first (take (length lines) lines) is.events left
  whole_run is = let P : List Line → Type 0 = λ ls. Runs first ls is.events left in subst P (sym all_lines) is.run

  -- the recipient's disk never failed
  never_failed : (events : List (List Event)) → Runs first (take (length lines) lines) events left → ending_of left.clone ≡ ending.RecipientFault → IsFavoured (Some (run_of (length lines) events left)) old new given back → ⊥
  never_failed events run is f =
      f.none.recipient
      (subst (λ (d : DiskState). Rose given.recipient.failures d.failures) (sym gives.recipient) (rose_before given.recipient.failures first.donor.recipient.failures left.donor.recipient.failures began.recipient.later (laws.recipient_fault (take (length lines) lines) events left run is)))

  -- the lines were carried out, to the end
  finished : (status : Status) → (is : Finished lines first left old.out.told new.out.told old.binlog.told new.binlog.told) → (WritesAll (run_of (length lines) is.answered.events left) old new → Writes status (run_of (length lines) is.answered.events left) old new)
      → EndsBy status (run_of (length lines) is.answered.events left) old new → (IsFavoured (Some (run_of (length lines) is.answered.events left)) old new given back → EndsWell status) → StepsOutcome status old new given back
  finished status is so ended well = came (length lines) is.answered.events left (whole_run is.answered) (behind refl) status (so (record { whole = whole is.answered.events; out = is.answered.out; binlog = is.binlog })) ended well

  fair_finished : (is : Finished lines first left old.out.told new.out.told old.binlog.told new.binlog.told) → IsFavoured (Some (run_of (length lines) is.answered.events left)) old new given back → (ending_of left.clone ≡ ending.RestartsSpent) ⊎ (ending_of left.clone ≡ ending.Garbled) ⊎ (ending_of left.clone ≡ ending.Refused) → ⊥
  fair_finished is = fair (length lines) is.answered.events left (whole_run is.answered) (behind refl)

  -- or up to a stop
  stopped : (status : Status) → Stopped lines first left old.out.told new.out.told old.binlog.told new.binlog.told → ((run : Run) → WritesSome run old new → Writes status run old new) → ((run : Run) → EndsBy status run old new) → ((run : Option Run) → IsFavoured run old new given back → EndsWell status) → StepsOutcome status old new given back
  stopped status (in_lines is same) so ended well =
      came is.count is.events is.final is.run is.leaves status (so _ (headline.in_lines (leaves_plain is.count is.events is.final is.run is.leaves is.leaves) is.out same)) (ended _) (well _)
  stopped status (in_binlog is some) so ended well =
      came (length lines) is.events left (whole_run is) (behind refl) status (so _ (headline.in_binlog (whole is.events) is.out some)) (ended _) (well _)

  -- no sink failed
  sinks : (Rose old.out.faults new.out.faults) ⊎ (Rose old.binlog.faults new.binlog.faults) → (run : Option Run) → IsFavoured run old new given back → ⊥
  sinks (inl rose) run f = f.none.out rose
  sinks (inr rose) run f = f.none.binlog rose

  pub ran : (status : Status) → EndsLines lines first left old.out new.out old.binlog new.binlog status → StepsOutcome status old new given back
  ran Done is = finished Done is.0 (λ w. w) is.1 (λ f. inl refl)
  ran RecipientFault is = finished RecipientFault is.0 (λ w. w) is.1 (λ f. absurd (never_failed is.0.answered.events (whole_run is.0.answered) is.1 f))
  ran RestartsSpent is = finished RestartsSpent is.0 (λ w. w) is.1 (λ f. absurd (fair_finished is.0 f (inl is.1)))
  ran Garbled is = finished Garbled is.0 (λ w. w) is.1 (λ f. absurd (fair_finished is.0 f (inr (inl is.1))))
  ran Refused is = finished Refused is.0 (λ w. w) is.1 (λ f. absurd (fair_finished is.0 f (inr (inr is.1))))
  ran Memory is = stopped Memory is (λ run w. w) (λ run. tt) (λ run f. inr refl)
  ran SinkFault is = stopped SinkFault is.1 (λ run w. w) (λ run. is.0) (λ run f. absurd (sinks is.0 run f))
  ran Usage is = absurd is
  ran BadLine is = absurd is
  ran SourceFault is = absurd is
  ran DonorFault is = absurd is
  ran NotEmpty is = absurd is
  ran Incomplete is = absurd is
  ran Damaged is = absurd is
  ran CompressionRefused is = absurd is
  ran TooLong is = absurd is
  ran CrewFault is = absurd is

-- the lines were carried out as they were lent
pub lent : (lines passed : List Line) (first left : State) (out out_new binlog binlog_new : End) (status : Status) → passed ≡ lines → EndsLines passed first left out out_new binlog binlog_new status → EndsLines lines first left out out_new binlog binlog_new status
lent lines passed first left out out_new binlog binlog_new status same is =
    let P : List Line → Type 0 = λ ls. EndsLines ls first left out out_new binlog binlog_new status in subst P same is

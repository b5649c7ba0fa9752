use Rattle.std.proofs.Common.{◌≡◌, ◌∙◌, ◌≤◌, ◌-◌, Some, ap, arith, map, refl, subst, sym}
use Rattle.std.specs.List.{AllByRecursion, Contains}
use Rattle.std.specs.Option.{unwrap_or}
use Rattle.clone_turn.specs.Parts.{IsMadeOf}
use Rattle.clone_turn.specs.Runs.{end_of}
use Rattle.clone_turn.proofs.EachLemmas.{each_part}
use Rattle.clone_hub.proofs.ShuffleLemmas.{made_of}
use Rattle.clone_desk.specs.Settling.{IsSettled}
use Rattle.clone_fetching.specs.Recipients.{IsToldOf, RecipientModel, RecipientSteps}
use Rattle.clone_fetching.specs.declared.clone_ended.CloneEnded.TheVariants.{Complete}
use Rattle.clone_machine.specs.Running.{trace_of}
use Rattle.clone_machine.specs.Watching.{position_of}
use Rattle.clone_machine.specs.declared.calls.JobCall.TheVariants as call
use Rattle.clone_reading.specs.Reading.{is_exit, is_init, puts_in, reading}
use Rattle.clone_taking.specs.Taking.{IsStepOf, has_ended}
use Rattle.clone_matched.specs.Parts.{asked_of}
use Rattle.clone_matched.specs.Telling.{TellsEnds}
use Rattle.clone_held.specs.Held.{HasBegun, IsHeldAt}
use Rattle.clone_joined.specs.Runs.{IsFresh}
use Rattle.clone_sides.specs.Moment.{own_stop}
use Rattle.clone_run.specs.Done.{served_from}
use Rattle.clone_loaded.proofs.CollectLemmas.{Known, collected}
use Rattle.clone_loaded.proofs.ComposedLemmas.{composed}
use Rattle.clone_loaded.proofs.KeptLemmas.{kept_run}
use Rattle.clone_loaded.proofs.NumberLemmas.{all_fetched, all_served}
use Rattle.clone_loaded.proofs.PartLemmas.{made_too}
use Rattle.clone_loaded.proofs.PhaseLemmas.{opened_once}
use Rattle.clone_loaded.proofs.StepLemmas.{each_step}
use Rattle.clone_loaded.proofs.TaskLemmas.{AreMatched, Fetch, Serve, all_use, apart_in, as_fetch, as_serve, asked_same, desk_parts, fetch_there, serve_there}
use Rattle.clone_loaded.proofs.TraceLemmas.{acknowledged, are_told}
use Rattle.clone_loaded.proofs.laws.loaded_laws.Goals as goal

pub returns : goal.returns
returns g c = λ session version load o d disk given s t cl small is_load fresh begin ran settled tells told.
    let link = g.N.End.Link in
    let state = g.R.PageDisk.state in
    let rd = ran.donor.run in
    let rr = ran.recipient.run in
    let rk = ran.desk.run in
    let known : Known _ link state session = record {
      serving = λ task why made asked served is. c.serving_laws.ensures session task why made asked served is;
      writer = λ end w v made is. c.aside_laws.ensures.writer session end w v made is;
      upkeep = λ work end made is. c.aside_laws.ensures.upkeep session work end made is;
      watch = λ f seat desk_old desk_new watch_old watch_new end watched does makes. c.aside_laws.ensures.watch session f seat desk_old desk_new watch_old watch_new end watched does makes;
      halt = λ made is. c.aside_laws.ensures.halt session made is;
      taking = λ watch task core left ends asked stepped connects fetches steps. c.taking_laws.ensures state call.Look position_of watch task core left ends asked stepped connects fetches steps;
      alone = λ watch task core left ends stepped other fetches steps. c.others_laws.ensures state call.Look position_of watch task core left ends stepped other fetches steps;
    } in
    let made_d : IsMadeOf ran.parts.donor rd = made_of ran.parts.donor rd ran.donor.made in
    let made_r : IsMadeOf ran.parts.recipient rr = made_of ran.parts.recipient rr ran.recipient.made in
    let made_k : IsMadeOf ran.parts.desk rk = made_of ran.parts.desk rk ran.desk.made in
    let steps = each_part (IsStepOf state) ran.parts.recipient rr made_r (each_step (RecipientSteps state) s.recipient rr ran.recipient.legal) in
    let col = collected _ link state session known load (served_from load 0) ran.parts o ran.jobs steps in
    let ss = col.serves_of in
    let fs = col.fetches_of in
    let parts = desk_parts _ link state session ss fs in
    let desk_made : IsMadeOf (map asked_of parts) rk = subst (λ xs. IsMadeOf xs rk) (sym (asked_same _ link state session ss fs)) (made_too ran.parts.desk _ rk col.desk made_k) in
    let records = ap (λ m. m.records) ran.desk.end in
    let all_settled = subst (AllByRecursion (IsSettled link)) records settled in
    let all_tell = subst (AllByRecursion (TellsEnds link)) records tells in
    let apart = apart_in _ link state session (load.tasks - 0) ss fs (col.served ∙ all_served load) (col.fetched ∙ all_fetched load) in
    let matched : (sp : Serve _ link state session) (fp : Fetch _ link state session) → Contains ss sp → Contains fs fp → sp.task ≡ fp.task → AreMatched _ link state session sp fp = λ sp fp in_s in_f same.
    c.matched_laws.ensures s.desk rk parts begin.none ran.desk.legal desk_made (all_use _ link state session ss fs) apart all_settled all_tell (as_serve _ link state session sp) (as_fetch _ link state session fp)
    (serve_there _ link state session ss fs sp in_s) (fetch_there _ link state session ss fs fp in_f) refl refl same sp.does.ends fp.does.ends sp.does.each fp.does.each in
    let last = kept_run (RecipientSteps state) puts_in is_init is_exit has_ended (c.keeping_laws.ensures state) s.recipient rr ran.recipient.legal in
    let some : 1 ≤ load.tasks - 0 = omega (arith, is_load.some) in
    let all = composed _ link state session (served_from load 0) ran.parts col (load.tasks - 0) rd rr rk some (all_served load) (all_fetched load) made_d made_r made_k matched (c.desk_run_laws.ensures.runs s.desk rk begin.none ran.desk.legal) last c.spelled_laws.ensures.other
    (λ first others are not_both is_first served fetched. c.clone_laws.ensures.once (reading session) first others rd rr rk are not_both is_first served fetched) in
    let heard = are_told session s.donor rd _ ran.donor.legal all.told c.run_laws.ensures.has c.told_laws.ensures.tells in
    let told_end : IsToldOf (end_of s.recipient rr).reception.table (Some (Complete cl.lsn cl.position cl.floor)) = subst (λ (m : RecipientModel _). IsToldOf m.reception.table (Some (Complete cl.lsn cl.position cl.floor))) ran.recipient.end told in
    let floors = acknowledged session cl.floor rd (λ e there caller n ans call_is answer_is.
    let a = all.asked e caller n ans there call_is answer_is in
    let kept = c.floor_laws.ensures state s.recipient rr n a.0 ran.recipient.legal a.1 in
    sym (told_end.floor ∙ ap (λ f. unwrap_or f 0) kept)) in
    let fresh_then : IsFresh session s.donor.donor = record {
      donor = c.set_up_laws.ensures.donor d s.donor.donor begin.tables fresh.donor;
      taken = c.set_up_laws.ensures.taken d s.donor.donor begin.tables fresh.taken;
      session = c.set_up_laws.ensures.session d s.donor.donor begin.tables fresh.session;
      stop = ap (own_stop session) (c.set_up_laws.ensures.stop d s.donor.donor begin.tables) ∙ fresh.stop;
    } in
    let begun : HasBegun state session s.recipient = record {
      count = load.tasks;
      limit = load.limit;
      version = version;
      reception = begin.begun;
      goes_on = begin.stands;
      before = disk.told;
      empty = begin.empty;
      in_progress = begin.in_progress;
    } in
    subst (λ (m : RecipientModel _). IsHeldAt session s.donor.donor (trace_of rd) cl.lsn cl.position cl.floor (state m.disk).told) (sym ran.recipient.end)
    (c.held_laws.ensures state session cl.lsn cl.position cl.floor s.donor.donor (trace_of rd) s.recipient rr small fresh_then (c.run_laws.ensures.runs s.donor rd ran.donor.legal) (opened_once session rd all.once) floors begun ran.recipient.legal heard told_end)

use Rattle.std.proofs.Common.{◌≡◌, ◌≤◌, List, ℕ, length, take, sym, subst, arith, rules, Err}
use Rattle.std.specs.List.{AllByRecursion}
use Rattle.clone_mtr.specs.Answers.{Decodes}
use Rattle.clone_mtr.specs.Spelling.{Spells}
use Rattle.clone_mtr.specs.declared.record.Record.{Record}
use Rattle.clone_recover.specs.Reading.{IsOfTable, rest_of, total_of}
use Rattle.clone_recover.specs.declared.log.Log.{Log}
use Rattle.clone_recover.proofs.RedoFrontLemmas.{in_order, rest_long, no_log, no_tables, is_no_redo, not_decoded}
use Rattle.clone_recover.proofs.log.Log.next.Goals as goal

pub returns-in-Ok-clause-cause : goal.returns-in-Ok-clause-cause
returns-in-Ok-clause-cause c = λ m done r.
    let log : Log = c.args.self.now in
    let long : length log.window ≡ 8192 = search rules in
    let spelled = subst (λ (xs : List ℕ). Spells (take c.in-Ok.field-0-1 xs) c.in-Ok.mtr) c.rest.ensures.value c.in-Ok.ensures.0 in
    is_no_redo c.foreign.result m (total_of log) c.foreign.ensures
    (no_tables m done log c.in-Ok.field-0-1 c.in-Ok.mtr (in_order log long) c.requires.some r spelled
    (λ all. c.names_foreign.ensures.yes c.if-names_foreign.true (subst (λ (rs : List Record). AllByRecursion IsOfTable rs) (sym c.again.ensures) all)))

pub returns-in-Ok-2-clause-next : goal.returns-in-Ok-2-clause-next
returns-in-Ok-2-clause-next c = record {
  spelled = subst (λ (xs : List ℕ). Spells (take c.in-Ok.field-0-1 xs) c.in-Ok.mtr) c.rest.ensures.value c.in-Ok.ensures.0;
  within = subst (λ (xs : List ℕ). c.in-Ok.field-0-1 ≤ length xs) c.rest.ensures.value c.in-Ok.ensures.1;
  tables = subst (λ (rs : List Record). AllByRecursion IsOfTable rs) c.again.ensures (c.names_foreign.ensures.no c.if-names_foreign.false);
}

pub returns-in-Ok-2-clause-most : goal.returns-in-Ok-2-clause-most
returns-in-Ok-2-clause-most c =
    let log : Log = c.args.self.now in
    let long : length log.window ≡ 8192 = search rules in
    let within = subst (λ (xs : List ℕ). c.in-Ok.field-0-1 ≤ length xs) c.rest.ensures.value c.in-Ok.ensures.1 in
    omega (arith, within, rest_long log (in_order log long), log.begun, log.within, log.most)

pub returns-in-Err-clause-cause : goal.returns-in-Err-clause-cause
returns-in-Err-clause-cause c = λ m done r.
    let log : Log = c.args.self.now in
    let long : length log.window ≡ 8192 = search rules in
    not_decoded c.in-Err.refusal c.broken.result m (total_of log) (rest_of log) (subst (λ (xs : List ℕ). Decodes xs (Err c.in-Err.refusal)) c.rest.ensures.value c.in-Err.ensures) c.broken.ensures
    (λ none has. no_log m done log (in_order log long) c.requires.near c.requires.some r none has)

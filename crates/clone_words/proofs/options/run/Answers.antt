use Rattle.std.proofs.Common.{◌∙◌, ap, sym, subst}
use Rattle.std.proofs.lemmas.Result.{IfOk-weaker}
use Rattle.clap.specs.Simple.{App}
use Rattle.clone_words.specs.Options.{run_options}
use Rattle.clone_words.proofs.Building.{AreOptions, is_required, is_usual, local_in_turn, options_in_turn, with_options}
use Rattle.clone_words.proofs.options.run.Goals as goal

are_run_options : (c : goal.After-args-2) → AreOptions c.in_ok-options.options.items run_options
are_run_options c = subst (λ items. AreOptions items run_options) (sym c.in_ok-options.ensures.items) (
  is_required c.number.result c.required.result _ c.required.ensures (record { rule = c.number.ensures.rule; local = c.number.ensures.local }),
  (
    is_usual c.number-2.result c.default_value.result _ _ c.default_value.ensures (record { rule = c.number-2.ensures.rule; local = c.number-2.ensures.local }),
    (
      is_usual c.number-3.result c.default_value-2.result _ _ c.default_value-2.ensures (record { rule = c.number-3.ensures.rule; local = c.number-3.ensures.local }),
      (
        is_usual c.number-4.result c.default_value-3.result _ _ c.default_value-3.ensures (record { rule = c.number-4.ensures.rule; local = c.number-4.ensures.local }),
        (
          is_usual c.number-5.result c.default_value-4.result _ _ c.default_value-4.ensures (record { rule = rw c.from.ensures at c.number-5.ensures.rule; local = c.number-5.ensures.local }),
          (
            is_usual c.number-6.result c.default_value-5.result _ _ c.default_value-5.ensures (record { rule = c.number-6.ensures.rule; local = c.number-6.ensures.local }),
            (
              is_usual c.number-7.result c.default_value-6.result _ _ c.default_value-6.ensures (record { rule = c.number-7.ensures.rule; local = c.number-7.ensures.local }),
              (
                is_usual c.number-8.result c.default_value-7.result _ _ c.default_value-7.ensures (record { rule = rw (c.from-2.ensures, c.from-3.ensures) at c.number-8.ensures.rule; local = c.number-8.ensures.local }),
                (
                  is_usual c.number-9.result c.default_value-8.result _ _ c.default_value-8.ensures (record { rule = c.number-9.ensures.rule; local = c.number-9.ensures.local }),
                  (
                    is_usual c.number-10.result c.default_value-9.result _ _ c.default_value-9.ensures (record { rule = c.number-10.ensures.rule; local = c.number-10.ensures.local }),
                    (
                      record { rule = c.flag.ensures.rule; local = c.flag.ensures.local },
                      (
                        record { rule = c.text.ensures.rule; local = c.text.ensures.local },
                        (
                          record { rule = c.flag-2.ensures.rule; local = c.flag-2.ensures.local },
                          (record { rule = c.flag-3.ensures.rule; local = c.flag-3.ensures.local }, tt),
                        ),
                      ),
                    ),
                  ),
                ),
              ),
            ),
          ),
        ),
      ),
    ),
  ),
)

pub returns-clause-app : goal.returns-clause-app
returns-clause-app c =
    IfOk-weaker c.args-2.result _ _ (λ r h. options_in_turn _ _ _ r (are_run_options c) h
    ∙ ap (λ (app : App). with_options app.top run_options) c.new.ensures.app) c.args-2.ensures

pub returns-clause-local : goal.returns-clause-local
returns-clause-local c =
    IfOk-weaker c.args-2.result _ _ (λ r h. local_in_turn _ _ _ r (are_run_options c) h c.new.ensures.local) c.args-2.ensures

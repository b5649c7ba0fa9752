use Rattle.std.proofs.Common.{◌≡◌, ◌∙◌, ap, ap₂, true, []}
use Rattle.std.proofs.lemmas.Result.{IfOk-weaker}
use Rattle.clap.specs.Simple.{App, app_of, app_of_fields, on_top, with_subcommand}
use Rattle.clone_words.specs.Options.{alone}
use Rattle.clone_words.proofs.options.program.Goals as goal

pub returns : goal.returns
returns c =
    let bare : app_of c.subcommand_required.result ≡ record { top = alone; subs = [] } =
    ap app_of_fields c.subcommand_required.ensures
    ∙ (ap (on_top (λ s. record s { subcommand_required = true })) (ap app_of_fields c.disable_version_flag.ensures)
    ∙ (ap (on_top (λ s. record s { disable_version_flag = true; subcommand_required = true })) (ap app_of_fields c.disable_help_subcommand.ensures)
    ∙ (ap (on_top (λ s. record s { disable_help_subcommand = true; disable_version_flag = true; subcommand_required = true })) (ap app_of_fields c.disable_help_flag.ensures)
    ∙ (ap (on_top (λ s. record s { disable_help_flag = true; disable_help_subcommand = true; disable_version_flag = true; subcommand_required = true })) (ap app_of_fields c.no_binary_name.ensures)
    ∙ ap (on_top (λ s. record s { no_binary_name = true; disable_help_flag = true; disable_help_subcommand = true; disable_version_flag = true; subcommand_required = true })) c.new.ensures.app)))) in
    let one = c.in_ok-subcommand.ensures.shape c.new-2.ensures.local ∙ ap₂ with_subcommand bare (ap (λ (a : App). a.top) c.new-2.ensures.app) in
    let two = c.in_ok-subcommand-2.ensures.shape c.in_ok-run.ensures.local ∙ ap₂ with_subcommand one c.in_ok-run.ensures.app in
    let three = c.in_ok-subcommand-3.ensures.shape c.in_ok-of_directory.ensures.local ∙ ap₂ with_subcommand two c.in_ok-of_directory.ensures.app in
    IfOk-weaker c.subcommand-4.result _ _ (λ r h. h.shape c.in_ok-of_directory-2.ensures.local ∙ ap₂ with_subcommand three c.in_ok-of_directory-2.ensures.app) c.subcommand-4.ensures

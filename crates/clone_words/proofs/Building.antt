-- What building a command of its options makes.
use Rattle.std.proofs.Common.{◌≡◌, ◌∙◌, ◌++◌, true, false, refl, sym, ap, List, [], ◌∷◌}
use Rattle.std.specs.Borrow.{Bor}
use Rattle.std.proofs.lemmas.List.{append-nil, append_assoc}
use Rattle.clap.specs.Built.{AddsArg, AddsInTurn}
use Rattle.clap.specs.Walk.{Rule, Text, rule_of}
use Rattle.clap.specs.Simple.{App, Shape, shape_of}
use Rattle.clap.specs.declared.builder.arg.Arg.{Arg}
use Rattle.clap.specs.declared.builder.command.Command.{Command}
use Rattle.clap.specs.declared.builder.texts.Texts.TheVariants.{One}
use Rattle.clone_words.specs.Local.{IsLocal}
use Rattle.clone_words.specs.Options.{or, required}

-- the argument is this option, for its own command alone
pub record IsOption (a : Arg) (option : Rule) : Type 0 where
  pub rule : rule_of a ≡ option
  pub local : a.global ≡ false

abbrev pub AreOptions : List Arg → List Rule → Type 0
AreOptions [] [] = Unit {0}
AreOptions (a ∷ args) (option ∷ options) = IsOption a option × AreOptions args options
AreOptions _ _ = ⊥

pub is_required : (before after : Arg) (option : Rule) → after ≡ record before { required = true }
    → IsOption before option → IsOption after (required option)
is_required before after option step is = record {
  rule = ap rule_of step ∙ ap required is.rule;
  local = ap (λ a. a.global) step ∙ is.local;
}

pub is_usual : (before after : Arg) (text : Bor Text) (option : Rule) → after ≡ record before { default_vals = One text }
    → IsOption before option → IsOption after (or text.now option)
is_usual before after text option step is = record {
  rule = ap rule_of step ∙ ap (or text.now) is.rule;
  local = ap (λ a. a.global) step ∙ is.local;
}

abbrev pub with_options : Shape → List Rule → Shape
with_options s options = record s { rules = s.rules ++ options }

-- options that are added in turn are those of the command, behind those that it had
pub options_in_turn : (args : List Arg) (options : List Rule) (old new : Command) → AreOptions args options
    → AddsInTurn AddsArg old args new → shape_of new ≡ with_options (shape_of old) options
options_in_turn [] [] old new are adds =
    ap shape_of (sym adds) ∙ ap (λ rules. record (shape_of old) { rules = rules }) (sym (append-nil (shape_of old).rules))
options_in_turn [] (option ∷ options) old new are adds = absurd are
options_in_turn (a ∷ args) [] old new are adds = absurd are
options_in_turn (a ∷ args) (option ∷ options) old new are adds =
    options_in_turn args options adds.0 new are.1 adds.2
    ∙ (ap (λ (app : App). with_options app.top options) (adds.1.shape are.0.local)
    ∙ (ap (λ rule. with_options (with_options (shape_of old) (rule ∷ [])) options) are.0.rule
    ∙ ap (λ rules. record (shape_of old) { rules = rules }) (append_assoc (shape_of old).rules (option ∷ []) options)))

pub local_in_turn : (args : List Arg) (options : List Rule) (old new : Command) → AreOptions args options
    → AddsInTurn AddsArg old args new → IsLocal old → IsLocal new
local_in_turn [] [] old new are adds is = rw (sym adds) is
local_in_turn [] (option ∷ options) old new are adds is = absurd are
local_in_turn (a ∷ args) [] old new are adds is = absurd are
local_in_turn (a ∷ args) (option ∷ options) old new are adds is =
    local_in_turn args options adds.0 new are.1 adds.2 (rw (adds.1.globals, is, are.0.local) refl)

-- Which texts give something.
use Rattle.std.proofs.Common.{◌≡◌, ℕ, ◌+◌, ◌*◌, List, [], ◌∷◌, Some, Bool, true, false, drop, sym, ap, ◌∙◌, subst, arith}
use Rattle.clone_script.specs.Lines.{line_text}
use Rattle.clone_script.specs.declared.lines.Line.{Line}
use Rattle.clone_script.specs.declared.lines.Line.TheVariants.{Put, Rows, Task}
use Rattle.clone_script.specs.Given.{Given}
use Rattle.clone_script.specs.Script.{IsPassed, IsHeadInRange, head_text, GivesSize, Gives, passed, size, line}
use Rattle.clone_script.specs.Reading.{Parses, Takes, TakesSize}
use Rattle.clone_script.proofs.LineTexts.{first_of}
use Rattle.clone_script.specs.declared.head.HeadLine.{HeadLine}
use Rattle.clone_script.specs.declared.head.HeadLine.TheVariants.{Limit, Pool, Ring, Tasks, Version}

-- the first two bytes of a text, in one number
abbrev front_of : List ℕ → ℕ
front_of [] = 0
front_of (b ∷ []) = b
front_of (b ∷ c ∷ text) = 256 * b + c

-- no head line has the text of a line
other_text : (h : HeadLine) (l : Line) → head_text h ≡ line_text l → ⊥
other_text (Pool frames) (Put trx table key value) e = omega (arith, ap front_of e)
other_text (Pool frames) l e = omega (arith, ap front_of e)
other_text (Ring bytes) Rows e = omega (arith, ap front_of e)
other_text (Ring bytes) l e = omega (arith, ap front_of e)
other_text (Version version) Rows e = omega (arith, ap front_of e)
other_text (Version version) l e = omega (arith, ap front_of e)
other_text (Tasks tasks) (Task task) e = omega (arith, ap (λ t. first_of (drop 4 t)) e)
other_text (Tasks tasks) l e = omega (arith, ap front_of e)
other_text (Limit losses) Rows e = omega (arith, ap front_of e)
other_text (Limit losses) l e = omega (arith, ap front_of e)

refused : (before next : Given) (text : List ℕ) (h : HeadLine) → (IsPassed text → ⊥) → Parses IsHeadInRange head_text text (Some h) → ((after : Given) → GivesSize before h after → ⊥) → Gives before text next → ⊥
refused before next text h p r none (passed q e) = p q
refused before next text h p r none (size k is g) =
    let same : k ≡ h = cc (r.only k is.range is.same) in
    none next (subst (λ k. GivesSize before k next) same g)
refused before next text h p r none (line l is e) = other_text h l (sym r.some.1 ∙ is.same)

-- a text that is a head line's gives what the head line gives
pub Takes-size : (before after : Given) (text : List ℕ) (h : HeadLine) (taken : Bool) → (IsPassed text → ⊥) → Parses IsHeadInRange head_text text (Some h) → TakesSize before h after taken → Takes before text after taken
Takes-size before after text h true p r t = size h (record { same = r.some.1; range = r.some.0 }) t
Takes-size before after text h false p r t = λ next g. refused before next text h p r t g

-- The calls that a server makes, one after the other.
use Rattle.std.proofs.Common.{◌∙◌, Bool, List, [], ◌∷◌, ◌++◌, refl, sym, ap, ap₂, subst}
use Rattle.std.proofs.lemmas.Grind.{flat_map-append}
use Rattle.std.proofs.lemmas.List.{append-nil}
use Rattle.clone_turn.proofs.EachLemmas.{each_append}
use Rattle.clone_turn.proofs.WorkedLemmas.{worked_more, worked_none}
use Rattle.clone_calls.specs.Answering.{IsAnswerTo}
use Rattle.clone_calls.specs.declared.answer.DonorAnswer.{DonorAnswer}
use Rattle.clone_calls.specs.declared.call.DonorCall.{DonorCall}
use Rattle.clone_serve.specs.Stepping.{GivesAll}
use Rattle.clone_serve.specs.Telling.{Exchange}
use Rattle.clone_machine.specs.Running.{JobEntry}
use Rattle.clone_machine.specs.declared.calls.JobAnswer.{JobAnswer}
use Rattle.clone_machine.specs.declared.calls.JobAnswer.TheVariants as job_answer
use Rattle.clone_machine.specs.declared.calls.JobCall.{JobCall}
use Rattle.clone_machine.specs.declared.calls.JobCall.TheVariants as job
use Rattle.clone_links.specs.Calling.{AreAnswered, AreCalls, CallsBy, Gives, IsOfServe, IsOneCall, Server, Works, exchange_by}

abbrev exchange_in : JobEntry → List Exchange
exchange_in e = exchange_by e.call e.answer

abbrev IsOwn : JobEntry → Type 0
IsOwn e = IsOfServe e.call

abbrev IsFit : Exchange → Type 0
IsFit x = IsAnswerTo x.0 x.1

pub calls_none : AreCalls [] []
calls_none = record { own = tt; are = refl; answered = tt }

pub calls_more : (xs ys : List Exchange) (made more : List JobEntry) → AreCalls xs made → AreCalls ys more → AreCalls (xs ++ ys) (made ++ more)
calls_more xs ys made more a b = record {
  own = each_append IsOwn made more a.own b.own;
  are = flat_map-append exchange_in made more ∙ ap₂ (λ (us vs : List Exchange). us ++ vs) a.are b.are;
  answered = each_append IsFit xs ys a.answered b.answered;
}

-- ---- one call

pub one_call : (asked : JobCall) (given : JobAnswer) (made : List JobEntry) → IsOneCall asked given made → IsOfServe asked → AreAnswered (exchange_by asked given) → AreCalls (exchange_by asked given) made
one_call asked given made one own answered =
    subst (AreCalls (exchange_by asked given)) (sym one.1)
    (record {
      own = (subst IsOfServe (sym one.2) own, tt);
      are = append-nil (exchange_in one.0) ∙ (ap (λ (c : JobCall). exchange_by c one.0.answer) one.2 ∙ ap (λ (a : JobAnswer). exchange_by asked a) one.3);
      answered = answered;
    })

-- one of the donor
pub exchange_made : (asked : DonorCall) (given : DonorAnswer) (made : List JobEntry) → IsOneCall (job.Donor asked) (job_answer.Donor given) made → IsAnswerTo asked given → AreCalls ((asked, given) ∷ []) made
exchange_made asked given made one fits = one_call (job.Donor asked) (job_answer.Donor given) made one tt (fits, tt)

-- one that asks whether the run is to end
pub halted_made : (halted : Bool) (made : List JobEntry) → IsOneCall job.Halted (job_answer.Halted halted) made → AreCalls [] made
halted_made halted made one = one_call job.Halted (job_answer.Halted halted) made one tt tt

-- ---- some calls, one after the other

pub works_none : (P : List JobEntry → Type 0) (s : Server) → P [] → Works P s s
works_none P s p = (refl, worked_none P s.seat p)

pub works_more : (P Q R : List JobEntry → Type 0) (s t u : Server) → Works P s t → Works Q t u → ((xs ys : List JobEntry) → P xs → Q ys → R (xs ++ ys)) → Works R s u
works_more P Q R s t u a b both = (b.0 ∙ a.0, worked_more P Q R s.seat t.seat u.seat a.1 b.1 both)

pub works_as : (P Q : List JobEntry → Type 0) (s t : Server) → Works P s t → ((made : List JobEntry) → P made → Q made) → Works Q s t
works_as P Q s t a then = (a.0, (a.1.0, a.1.1, then a.1.0 a.1.2))

-- calls that were answered one after the other
pub all_given : (s t : Server) (exchanges : List Exchange) → GivesAll Gives s exchanges t → CallsBy exchanges s t
all_given s t [] given = subst (λ (u : Server). CallsBy [] s u) (sym given) (works_none (AreCalls []) s calls_none)
all_given s t (x ∷ xs) given =
    works_more (AreCalls (x ∷ [])) (AreCalls xs) (AreCalls (x ∷ xs)) s given.0 t given.1 (all_given given.0 t xs given.2) (λ made more a b. calls_more (x ∷ []) xs made more a b)

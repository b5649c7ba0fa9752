-- Turns of the loop, one after the other, and the last one.
use Rattle.std.proofs.Common.{◌≡◌, ◌∙◌, ◌+◌, ℕ, List, [], ◌++◌, Some, None, refl, sym, ap, subst, arith, take, length, append_assoc}
use Rattle.std.proofs.lemmas.List.{append-nil, take_all}
use Rattle.std.proofs.Math.Seq.{take-append-add}
use Rattle.std.specs.declared.option.Option.{Option}
use Rattle.clone_outside.specs.Bytes.{TakesSome, appended}
use Rattle.clone_serve.specs.Runs.{Served}
use Rattle.clone_serve.specs.Stepping.{IsCarriedOut, IsStep}
use Rattle.clone_serve.specs.Telling.{Exchange}
use Rattle.clone_serve.specs.declared.doing.Doing.{Doing}
use Rattle.clone_serve.specs.declared.doing.Doing.TheVariants.{New}
use Rattle.clone_serve.specs.declared.turn.ServeAnswer.{ServeAnswer}
use Rattle.clone_serve.proofs.ServedLemmas as served
use Rattle.clone_machine.specs.Running.{JobEntry}
use Rattle.clone_links.specs.Calling.{AreCalls}
use Rattle.clone_links.specs.Ending.{IsCause, IsCauseIn, IsOfLink}
use Rattle.clone_links.specs.Serving.{Carries, IsServed}
use Rattle.clone_links.specs.Turning.{IsLast, IsTurn}
use Rattle.clone_links.specs.declared.end.ServeEnd.{ServeEnd}
use Rattle.clone_links.proofs.CallLemmas.{calls_more, calls_none}
use Rattle.clone_links.proofs.CarryLemmas.{all_told, step_behind, step_ends}
use Rattle.clone_links.proofs.CauseLemmas.{IsByBytes, cause_later, link_cause, link_cause_in}

-- ---- bytes that are told

abbrev pub Told : Type 0
Told = Option (List ℕ)

appended_none : (o : Told) → o ≡ appended o []
appended_none None = refl
appended_none (Some xs) = ap (λ (l : List ℕ). Some l) (sym (append-nil xs))

appended_more : (o : Told) (xs ys : List ℕ) → appended (appended o xs) ys ≡ appended o (xs ++ ys)
appended_more None xs ys = refl
appended_more (Some zs) xs ys = ap (λ (l : List ℕ). Some l) (append_assoc zs xs ys)

appended_then : (a b c : Told) (xs ys : List ℕ) → b ≡ appended a xs → c ≡ appended b ys → c ≡ appended a (xs ++ ys)
appended_then a b c xs ys one two = two ∙ ap (λ (o : Told). appended o ys) one ∙ appended_more a xs ys

some_of_all : (a b : Told) (xs : List ℕ) → b ≡ appended a xs → TakesSome a b xs
some_of_all a b xs all = (length xs, all ∙ ap (λ (l : List ℕ). appended a l) (sym (take_all (length xs) xs (omega arith))))

some_then : (a b c : Told) (xs ys : List ℕ) → b ≡ appended a xs → TakesSome b c ys → TakesSome a c (xs ++ ys)
some_then a b c xs ys one two = (
  length xs + two.0,
  two.1 ∙ ap (λ (o : Told). appended o (take two.0 ys)) one ∙ appended_more a xs (take two.0 ys) ∙ ap (λ (l : List ℕ). appended a l) (sym (take-append-add xs ys two.0)),
)

-- ---- turns

pub no_turn : (d : Doing) (left : List ℕ) (r s : Told) → IsTurn d d left left r r s s []
no_turn d left r s = record {
  exchanges = [];
  came = [];
  put = [];
  calls = calls_none;
  goes = λ before received sent was.
      subst (λ (xs : List Exchange). Served d xs (received ++ []) left (sent ++ [])) (sym (append-nil before))
      (subst (λ (l : List ℕ). Served d before l left (sent ++ [])) (sym (append-nil received)) (subst (λ (l : List ℕ). Served d before received left l) (sym (append-nil sent)) was));
  received = appended_none r;
  sent = appended_none s;
}

pub turn_then : (d e f : Doing) (l m n : List ℕ) (r0 r1 r2 s0 s1 s2 : Told) (made more : List JobEntry) → IsTurn d e l m r0 r1 s0 s1 made → IsTurn e f m n r1 r2 s1 s2 more → IsTurn d f l n r0 r2 s0 s2 (made ++ more)
turn_then d e f l m n r0 r1 r2 s0 s1 s2 made more a b = record {
  exchanges = a.exchanges ++ b.exchanges;
  came = a.came ++ b.came;
  put = a.put ++ b.put;
  calls = calls_more a.exchanges b.exchanges made more a.calls b.calls;
  goes = λ before received sent was.
      subst (λ (xs : List Exchange). Served f xs (received ++ (a.came ++ b.came)) n (sent ++ (a.put ++ b.put))) (append_assoc before a.exchanges b.exchanges)
      (subst (λ (x : List ℕ). Served f ((before ++ a.exchanges) ++ b.exchanges) x n (sent ++ (a.put ++ b.put))) (append_assoc received a.came b.came)
      (subst (λ (x : List ℕ). Served f ((before ++ a.exchanges) ++ b.exchanges) ((received ++ a.came) ++ b.came) n x) (append_assoc sent a.put b.put)
      (b.goes (before ++ a.exchanges) (received ++ a.came) (sent ++ a.put) (a.goes before received sent was))));
  received = appended_then r0 r1 r2 a.came b.came a.received b.received;
  sent = appended_then s0 s1 s2 a.put b.put a.sent b.sent;
}

pub last_then : (end : ServeEnd) (d e : Doing) (l m : List ℕ) (r0 r1 r2 s0 s1 s2 : Told) (made more : List JobEntry) → IsTurn d e l m r0 r1 s0 s1 made → IsLast end e m r1 r2 s1 s2 more → IsLast end d l r0 r2 s0 s2 (made ++ more)
last_then end d e l m r0 r1 r2 s0 s1 s2 made more a b = record {
  exchanges = a.exchanges ++ b.exchanges;
  came = a.came ++ b.came;
  put = a.put ++ b.put;
  calls = calls_more a.exchanges b.exchanges made more a.calls b.calls;
  ends = λ before received sent was.
      subst (λ (xs : List Exchange). Carries end xs (received ++ (a.came ++ b.came)) (sent ++ (a.put ++ b.put))) (append_assoc before a.exchanges b.exchanges)
      (subst (λ (x : List ℕ). Carries end ((before ++ a.exchanges) ++ b.exchanges) x (sent ++ (a.put ++ b.put))) (append_assoc received a.came b.came)
      (subst (λ (x : List ℕ). Carries end ((before ++ a.exchanges) ++ b.exchanges) ((received ++ a.came) ++ b.came) x) (append_assoc sent a.put b.put)
      (b.ends (before ++ a.exchanges) (received ++ a.came) (sent ++ a.put) (a.goes before received sent was))));
  cause = cause_later end a.exchanges b.exchanges made more b.cause;
  received = appended_then r0 r1 r2 a.came b.came a.received b.received;
  sent = some_then s0 s1 s2 a.put b.put a.sent b.sent;
}

-- turns after which none comes
pub last_of : (end : ServeEnd) (d t : Doing) (left rest : List ℕ) (r0 r1 s0 s1 : Told) (made : List JobEntry) (a : IsTurn d t left rest r0 r1 s0 s1 made) → IsCause end a.exchanges made → IsCauseIn end t rest → IsLast end d left r0 r1 s0 s1 made
last_of end d t left rest r0 r1 s0 s1 made a cause within = record {
  exchanges = a.exchanges;
  came = a.came;
  put = a.put;
  calls = a.calls;
  ends = λ before received sent was. all_told end t (before ++ a.exchanges) (received ++ a.came) rest (sent ++ a.put) (a.goes before received sent was) within;
  cause = cause;
  received = a.received;
  sent = some_of_all s0 s1 a.put a.sent;
}

-- a call that isn't one of the donor
pub aside_turn : (d : Doing) (left : List ℕ) (r s : Told) (made : List JobEntry) → AreCalls [] made → IsTurn d d left left r r s s made
unfolding no_turn
aside_turn d left r s made calls = let none = no_turn d left r s in record {
  exchanges = [];
  came = [];
  put = [];
  calls = calls;
  goes = none.goes;
  received = none.received;
  sent = none.sent;
}

-- bytes come
pub comes_turn : (d : Doing) (left came rest : List ℕ) (r q s : Told) → q ≡ appended r came → rest ≡ left ++ came → IsTurn d d left rest r q s s []
comes_turn d left came rest r q s new is = record {
  exchanges = [];
  came = came;
  put = [];
  calls = calls_none;
  goes = λ before received sent was.
      subst (λ (xs : List Exchange). Served d xs (received ++ came) rest (sent ++ [])) (sym (append-nil before))
      (subst (λ (l : List ℕ). Served d before (received ++ came) rest l) (sym (append-nil sent))
      (subst (λ (l : List ℕ). Served d before (received ++ came) l sent) (sym is) (served.comes d before received left sent came was)));
  received = new;
  sent = appended_none s;
}

-- or the connection is lost, or there is no memory for them
pub comes_last : (end : ServeEnd) (d : Doing) (left came : List ℕ) (r q s : Told) → IsOfLink end → q ≡ appended r came → IsLast end d left r q s s []
comes_last end d left came r q s of new =
    let turn = comes_turn d left came (left ++ came) r q s new refl in
    last_of end d d left (left ++ came) r q s s [] turn (link_cause end turn.exchanges [] of) (link_cause_in end d (left ++ came) of)

-- ---- a step, whose frames are sent

module _ (d t : Doing) (left rest bytes : List ℕ) (r s q : Told) (says : ServeAnswer) (exchanges : List Exchange) (step : IsStep exchanges d left rest [] bytes t says) where
  pub step_turn : (made : List JobEntry) → AreCalls exchanges made → IsCarriedOut says → q ≡ appended s bytes → IsTurn d t left rest r r s q made
  step_turn made calls carried all = record {
    exchanges = exchanges;
    came = [];
    put = bytes;
    calls = calls;
    goes = λ before received sent was.
        subst (λ (l : List ℕ). Served t (before ++ exchanges) l rest (sent ++ bytes)) (sym (append-nil received))
        (served.step_serves before exchanges d t received left rest sent (sent ++ bytes) says was (step_behind sent exchanges d left rest bytes t says step) carried);
    received = appended_none r;
    sent = all;
  }

  pub step_last : (end : ServeEnd) (made : List JobEntry) → AreCalls exchanges made → IsCause end exchanges made → IsByBytes end exchanges d left → TakesSome s q bytes → IsLast end d left r r s q made
  step_last end made calls cause within some = record {
    exchanges = exchanges;
    came = [];
    put = bytes;
    calls = calls;
    ends = λ before received sent was.
        subst (λ (l : List ℕ). Carries end (before ++ exchanges) l (sent ++ bytes)) (sym (append-nil received))
        (step_ends end says t (sent ++ bytes) exchanges before d received left rest sent within was (step_behind sent exchanges d left rest bytes t says step));
    cause = cause;
    received = appended_none r;
    sent = some;
  }

-- ---- a whole connection

pub is_served : (end : ServeEnd) (r0 r1 s0 s1 : Told) (made : List JobEntry) → IsLast end New [] r0 r1 s0 s1 made → IsServed end r0 r1 s0 s1 made
is_served end r0 r1 s0 s1 made a = record {
  exchanges = a.exchanges;
  received = a.came;
  sent = a.put;
  calls = a.calls;
  carries = a.ends [] [] [] served.new;
  cause = a.cause;
  came = a.received;
  put = a.sent;
}

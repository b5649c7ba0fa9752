-- A tuple goes to a thread where each part of it does: what two calls answer, and what a closure has captured.
use mathlib.Core.List.{[], ◌∷◌}
use mir.Syntax.{Sym}
use denote.RattleType.{RattleType}
use denote.Param.Send.{IsSend, struct_send, recorded_send}
use denote.Struct.Declared.{shape}
use denote.Struct.Tuple.{TupleAt, field_at, type_at}

pub two_send : (ν : Sym) (P Q : RattleType) → IsSend P → IsSend Q → IsSend (TupleAt ν (P ∷ Q ∷ []))
two_send ν P Q p q =
    recorded_send (field_at ν (P ∷ Q ∷ [])).row _ _ (type_at ν (P ∷ Q ∷ [])).to_one
    (struct_send (shape (type_at ν (P ∷ Q ∷ []))) (p, (q, tt)))

pub three_send : (ν : Sym) (P Q R : RattleType) → IsSend P → IsSend Q → IsSend R → IsSend (TupleAt ν (P ∷ Q ∷ R ∷ []))
three_send ν P Q R p q r =
    recorded_send (field_at ν (P ∷ Q ∷ R ∷ [])).row _ _ (type_at ν (P ∷ Q ∷ R ∷ [])).to_one
    (struct_send (shape (type_at ν (P ∷ Q ∷ R ∷ []))) (p, (q, (r, tt))))

pub four_send : (ν : Sym) (P Q R T : RattleType) → IsSend P → IsSend Q → IsSend R → IsSend T → IsSend (TupleAt ν (P ∷ Q ∷ R ∷ T ∷ []))
four_send ν P Q R T p q r t =
    recorded_send (field_at ν (P ∷ Q ∷ R ∷ T ∷ [])).row _ _ (type_at ν (P ∷ Q ∷ R ∷ T ∷ [])).to_one
    (struct_send (shape (type_at ν (P ∷ Q ∷ R ∷ T ∷ []))) (p, (q, (r, (t, tt)))))

pub five_send : (ν : Sym) (P Q R T U : RattleType) → IsSend P → IsSend Q → IsSend R → IsSend T → IsSend U → IsSend (TupleAt ν (P ∷ Q ∷ R ∷ T ∷ U ∷ []))
five_send ν P Q R T U p q r t u =
    recorded_send (field_at ν (P ∷ Q ∷ R ∷ T ∷ U ∷ [])).row _ _ (type_at ν (P ∷ Q ∷ R ∷ T ∷ U ∷ [])).to_one
    (struct_send (shape (type_at ν (P ∷ Q ∷ R ∷ T ∷ U ∷ []))) (p, (q, (r, (t, (u, tt))))))

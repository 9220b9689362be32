-- What holds where a call refuses its arguments.
use Rattle.std.specs.Prelude.{Result, Ok, Err}
use Rattle.rwsp_model.specs.declared.fail.Fail.{Fail}
use Rattle.rwsp_model.specs.declared.fail.Fail.TheVariants.{Refused, Memory}

-- P of the refusal, where there is one
abbrev pub IfRefused : {T R : Type 0} → Result T (Fail R) → (R → Type 0) → Type 0
IfRefused (Ok x) P = Unit {0}
IfRefused (Err Memory) P = Unit {0}
IfRefused (Err (Refused why)) P = P why

-- P of the answer or Q of the refusal. Where there is no memory, nothing is said
abbrev pub MatchAnswer : {T R : Type 0} → Result T (Fail R) → (T → Type 0) → (R → Type 0) → Type 0
MatchAnswer (Ok x) P Q = P x
MatchAnswer (Err Memory) P Q = Unit {0}
MatchAnswer (Err (Refused why)) P Q = Q why

-- What a reader's call returns and leaves, against what reading gives.
use Rattle.std.specs.Prelude.{◌≡◌, Result, Ok, Err}
use Rattle.rwsp_model.specs.declared.fail.Fail.{Fail}
use Rattle.rwsp_model.specs.declared.fail.Fail.TheVariants.{Refused, Memory}
use Rattle.rwsp_file.specs.Reading.{Unread}
use Rattle.rwsp_file.specs.declared.misfit.Misfit.{Misfit}

-- what was returned and what is left are what reading gives. At a refusal nothing is said of what is left
abbrev pub ReadsTokens : {X : Type 0} → Result (X × Unread) Misfit → Result X Misfit → Unread → Type 0
ReadsTokens reading (Ok x) left = reading ≡ Ok (x, left)
ReadsTokens reading (Err why) left = reading ≡ Err why

-- the same of a value that is seen by view, where memory may run out
abbrev pub ReadsUnless : {X Y : Type 0} → (X → Y) → Result (Y × Unread) Misfit → Result X (Fail Misfit)
    → Unread → Type 0
ReadsUnless view reading (Ok x) left = reading ≡ Ok (view x, left)
ReadsUnless view reading (Err Memory) left = Unit {0}
ReadsUnless view reading (Err (Refused why)) left = reading ≡ Err why

-- the same of a value that is seen by view, where nothing is left to tell of
abbrev pub GivesUnless : {X Y : Type 0} → (X → Y) → Result Y Misfit → Result X (Fail Misfit) → Type 0
GivesUnless view reading (Ok x) = reading ≡ Ok (view x)
GivesUnless view reading (Err Memory) = Unit {0}
GivesUnless view reading (Err (Refused why)) = reading ≡ Err why

-- The refusal of a text by its first failure.
use Rattle.std.specs.Prelude.{ℕ}
use Rattle.rwsp_file.specs.declared.refusal.FileRefusal.{FileRefusal}
use Rattle.rwsp_file.specs.declared.refusal.FileRefusal.TheVariants.{Ends, Number, Range, Row, Name, Unknown, Extra}
use Rattle.rwsp_file.specs.declared.misfit.Fault.{Fault}
use Rattle.rwsp_file.specs.declared.misfit.Fault.TheVariants.{NoNumber, Beyond, TooManyDays, WordCount, LongName, OffName, TakenName, NoSymbol, NotEnd}
use Rattle.rwsp_file.specs.declared.misfit.Misfit.{Misfit}
use Rattle.rwsp_file.specs.declared.misfit.Misfit.TheVariants.{TextEnds, BadWord}

-- the refusal of a word on the line
abbrev pub refusal_on : ℕ → Fault → FileRefusal
refusal_on line NoNumber = Number line
refusal_on line (Beyond limit) = Range line limit.number
refusal_on line (TooManyDays weeks days) = Range line 3
refusal_on line (WordCount words) = Row line
refusal_on line LongName = Name line
refusal_on line OffName = Name line
refusal_on line (TakenName shift) = Name line
refusal_on line NoSymbol = Unknown line
refusal_on line NotEnd = Extra line

-- the refusal that a failure is: its kind, and its line
abbrev pub refusal_of : Misfit → FileRefusal
refusal_of (TextEnds awaited line) = Ends line
refusal_of (BadWord awaited word fault) = refusal_on word.line fault

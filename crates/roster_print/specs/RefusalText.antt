-- The text of a refusal.
use Rattle.std.specs.Prelude.{ℕ, List, ◌++◌, codes}
use Rattle.std.specs.Fmt.{decimal}
use Rattle.roster_print.specs.declared.refusal.RosterRefusal.{RosterRefusal}
use Rattle.roster_print.specs.declared.refusal.RosterRefusal.TheVariants.{Unknown, Width, Weeks}

abbrev pub roster_refusal_text : RosterRefusal → List ℕ
roster_refusal_text (Unknown number) = codes "roster refused: unknown line " ++ decimal number
roster_refusal_text (Width number) = codes "roster refused: width line " ++ decimal number
roster_refusal_text (Weeks count) = codes "roster refused: weeks " ++ decimal count

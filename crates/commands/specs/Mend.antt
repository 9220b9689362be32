-- What `mend` answers.
use Rattle.std.specs.Prelude.{◌≡◌, ℕ, Bool, List, [], ◌∷◌}
use Rattle.rwsp_terms.specs.Instance.{Instance}
use Rattle.ways_out.specs.declared.answer.WaysOut.{WaysOut}
use Rattle.ways_out.specs.Answers.{AreWaysOut}
use Rattle.ways_out.specs.declared.answer.WaysOut.TheVariants.{NoNeed, Undecided, Changes}
use Rattle.plain_words.specs.Statements.{plain, told_lines}
use Rattle.plain_words.specs.Told.{ways_statements}
use Rattle.plain_words.specs.declared.pieces.TheConstants.{MEND_SPENT, NO_CHANGE_NEEDED}
use Rattle.commands.specs.Told.{said_behind}

-- what is said of the ways out of the problem, by plans within the budget, which count blocks or not
abbrev pub IsMendAnswer : Instance → ℕ → Bool → WaysOut → Type 0
IsMendAnswer P budget counts ways = AreWaysOut P (record { budget = budget; counts = counts }) ways

-- what is told of an answer
abbrev pub IsMendTold : Instance → WaysOut → List ℕ → Type 0
IsMendTold P (NoNeed s) text = text ≡ told_lines P (plain NO_CHANGE_NEEDED.now ∷ [])
IsMendTold P (Undecided g) text = text ≡ told_lines P (said_behind P MEND_SPENT.now g)
IsMendTold P (Changes outcomes) text = text ≡ told_lines P (ways_statements P outcomes.items)

-- What `rest` answers.
use Rattle.std.specs.Prelude.{◌≡◌, ℕ, List, [], ◌++◌, codes, ◌∷◌}
use Rattle.std.specs.Fmt.{decimal}
use Rattle.rwsp_terms.specs.Instance.{Instance}
use Rattle.rwsp_terms.specs.Roster.{MeetsAll}
use Rattle.rwsp_terms.specs.declared.data.Symbol.{Symbol}
use Rattle.rwsp_model.specs.Sequences.{pair_count, triple_count}
use Rattle.rwsp_file.specs.Spelling.{SpellsProblem}
use Rattle.rwsp_file.specs.Text.{problem_text}
use Rattle.made_problems.specs.Rested.{HasRest}
use Rattle.made_problems.specs.RestAnswers.{IsRestOf}
use Rattle.made_problems.specs.declared.rested.LeastRest.{LeastRest}
use Rattle.made_problems.specs.declared.rested.LeastRest.TheVariants.{Rested, Pairs, Triples}
use Rattle.plain_words.specs.Statements.{Statement, Says, told_lines}
use Rattle.plain_words.specs.declared.pieces.TheConstants.{REST_FORBIDS, TOO_MANY_PAIRS, TOO_MANY_TRIPLES}
use Rattle.plain_words.specs.declared.part.Part.TheVariants as Part
use Rattle.commands.specs.Lines.{line}

abbrev pub rest_text : LeastRest → List ℕ
rest_text (Rested Q) = problem_text Q
rest_text (Pairs n) = line (codes "rest refused: pairs " ++ decimal n)
rest_text (Triples n) = line (codes "rest refused: triples " ++ decimal n)

-- each roster of an instance has the rest between the shifts of another
abbrev pub RestInEach : Instance → ℕ → Instance → Type 0
RestInEach P minutes Q = (s : List Symbol) → MeetsAll Q s → HasRest P minutes s

-- the text of a problem with a least rest spells it, and each roster of it has the rest
abbrev pub IsPromised : Instance → ℕ → LeastRest → Type 0
IsPromised P minutes (Rested Q) = SpellsProblem (problem_text Q) Q × RestInEach P minutes Q
IsPromised P minutes answer = Unit {0}

-- what an answer says
abbrev pub IsRestAnswer : Instance → ℕ → LeastRest → Type 0
IsRestAnswer P minutes answer = IsRestOf P minutes answer × IsPromised P minutes answer

-- how many sequences are forbidden, or would be
abbrev pub rest_statement : LeastRest → Statement
rest_statement (Rested Q) = Says REST_FORBIDS.now (Part.Pairs (pair_count Q) ∷ Part.Triples (triple_count Q) ∷ [])
rest_statement (Pairs n) = Says TOO_MANY_PAIRS.now (Part.Number n ∷ [])
rest_statement (Triples n) = Says TOO_MANY_TRIPLES.now (Part.Number n ∷ [])

-- what is told of an answer
abbrev pub IsRestTold : Instance → LeastRest → List ℕ → Type 0
IsRestTold P answer text = text ≡ told_lines P (rest_statement answer ∷ [])

abbrev pub rest_status : LeastRest → ℕ
rest_status (Rested Q) = 0
rest_status why = 3

-- What is told behind the program's name.
use Rattle.std.specs.Prelude.{ℕ, ◌==◌, Bool, true, List, [], ◌∷◌, ◌++◌, if◌then◌else◌}
use Rattle.rwsp_terms.specs.Instance.{Instance}
use Rattle.refutation_terms.specs.Log.{Log}
use Rattle.plain_words.specs.Statements.{Statement, plain}
use Rattle.plain_words.specs.LogTold.{end_statement, rosters_of, log_statements}
use Rattle.plain_words.specs.declared.pieces.TheConstants.{NONE_HERE, TOLD}

-- the name where a line begins
abbrev pub name_where : Bool → List ℕ
name_where begins = if begins then TOLD.now else []

-- the bytes, with the name before each line; the first byte begins a line, or goes on with one
unfoldable pub behind_from : (begins : Bool) → List ℕ → List ℕ
behind_from begins [] = []
behind_from begins (b ∷ bytes) = name_where begins ++ b ∷ behind_from (b == 10) bytes

-- the lines of a text, each behind the program's name
abbrev pub behind_rwsp : List ℕ → List ℕ
behind_rwsp text = behind_from true text

-- that there is no roster, and how the search ended
abbrev pub refuted_statements : Log → List Statement
refuted_statements g = plain NONE_HERE.now ∷ end_statement g.lines ∷ []

-- a sentence, and then what is said of a log as one about the rosters of its goal or with its cells
abbrev pub said_behind : Instance → (sentence : List ℕ) → Log → List Statement
said_behind P sentence g = plain sentence ∷ log_statements P (rosters_of g) g

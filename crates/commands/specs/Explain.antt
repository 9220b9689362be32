-- What `explain` answers.
use Rattle.std.specs.Prelude.{◌≡◌, ℕ, List, Some}
use Rattle.rwsp_terms.specs.Instance.{Instance}
use Rattle.rwsp_file.specs.RefusalWords.{refusal_words}
use Rattle.rwsp_file.specs.LongNumbers.{long_numbers}
use Rattle.plain_words.specs.Sentences.{problem_words}
use Rattle.commands.specs.declared.explain.Answer.{Answer}
use Rattle.commands.specs.declared.explain.Answer.TheVariants.{Refused, Said}

-- the words say why the bytes of a problem's file spell no problem
abbrev pub IsRefusalOf : List ℕ → Answer → Type 0
IsRefusalOf file (Refused text) = refusal_words file ≡ Some text
IsRefusalOf file words = ⊥

-- what is said of an instance, which the bytes of a file spell
abbrev pub problem_explanation : Instance → List ℕ → Answer
problem_explanation P file = Said (problem_words P (long_numbers file))

abbrev pub explain_text : Answer → List ℕ
explain_text (Refused text) = text
explain_text (Said text) = text

abbrev pub explain_status : Answer → ℕ
explain_status (Refused text) = 3
explain_status (Said text) = 0

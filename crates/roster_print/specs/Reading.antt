-- The words at the tokens of a text, and what they say.
use Rattle.std.specs.Prelude.{◌≡◌, ℕ, ◌++◌, List, Option, Some, map, slice_range}
use Rattle.std.specs.List.{flat_map}
use Rattle.rwsp_text.specs.Lexemes.{lines_of, words_of_line}
use Rattle.rwsp_text.specs.declared.scan.Token.{Token}

-- the words of tokens
abbrev pub words_at : List ℕ → List Token → List (List ℕ)
words_at text tokens = map (λ t. slice_range text t.start t.end) tokens

-- the words of a text, on whichever line
abbrev pub words_in : List ℕ → List (List ℕ)
words_in text = flat_map words_of_line (lines_of text)

-- the new list is the old one and then what the words say
abbrev pub AppendsSaid : {A : Type 0} → (List ℕ → Option A) → List (List ℕ) → List A → List A → Type 0
AppendsSaid said words old new = map Some new ≡ map Some old ++ map said words

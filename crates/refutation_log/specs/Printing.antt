-- Parts of the text of a log.
use Rattle.std.specs.Prelude.{ℕ, ◌<◌, List, [], ◌∷◌, ◌++◌, map, Bool, Option, Some, None, codes}
use Rattle.std.specs.List.{AllByRecursion, flat_map}
use Rattle.std.specs.Fmt.{decimal}
use Rattle.rwsp_terms.specs.declared.data.Weight.{Weight}
use Rattle.rwsp_terms.specs.Instance.{Instance, cells, IsSymbol}
use Rattle.refutation_terms.specs.declared.cells.GivenCell.{GivenCell}
use Rattle.refutation_terms.specs.declared.lines.Line.{Line}
use Rattle.refutation_terms.specs.Log.{LineFits}
use Rattle.refutation_terms.specs.LogText.{place_words, named_weight}
use Rattle.rwsp_text.specs.Fields.{numbers, weight_fields}

-- a blank in front of each word
abbrev pub spaced : List (List ℕ) → List ℕ
spaced words = flat_map (λ word. 32 ∷ word) words

-- a given cell is one of the problem's
abbrev pub IsCellOf : Instance → GivenCell → Type 0
IsCellOf P c = (c.p < cells P) × IsSymbol P c.x

-- each line of a log with this goal or none, which may count or not, fits the problem
abbrev pub EachFits : Instance → Option ℕ → Bool → List Line → Type 0
EachFits P goal counts lines = AllByRecursion (LineFits P goal counts) lines

-- the fields of weights
abbrev pub weight_words : Instance → List Weight → List (List ℕ)
weight_words P y = flat_map weight_fields (map (named_weight P) y)

-- the fields with which the line begins that weighs words, in a log with this goal or none
abbrev pub light_head : Instance → Option ℕ → (p turns reward : ℕ) → List (List ℕ)
light_head P None p turns reward = codes "bound" ∷ place_words P p ++ (decimal turns ∷ [])
light_head P (Some goal) p turns reward = codes "free" ∷ decimal turns ∷ decimal reward ∷ []

-- and with which it ends: its rules and its weights
abbrev pub weighed_words : Instance → List ℕ → List Weight → List (List ℕ)
weighed_words P R y = codes "rules" ∷ numbers R ++ (codes "weights" ∷ weight_words P y)

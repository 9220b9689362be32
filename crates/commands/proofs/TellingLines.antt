-- What is told, put together.
use Rattle.std.proofs.Common.{◌≡◌, ℕ, List, [], ◌++◌, ap, ◌∙◌}
use Rattle.rwsp_terms.specs.Instance.{Instance}
use Rattle.plain_words.specs.Statements.{Statement, told_line, told_lines}
use Rattle.plain_words.proofs.Joined.{behind}

-- statements behind others, where nothing was told before
pub two_told : (P : Instance) (first then : List Statement) (old mid new : List ℕ) → old ≡ [] → mid ≡ old ++ told_lines P first → new ≡ mid ++ told_lines P then → new ≡ told_lines P (first ++ then)
two_told P first then old mid new none a b = behind (told_line P) first then old mid new a b ∙ ap (λ t. t ++ told_lines P (first ++ then)) none

-- The texts of sentences.
use Rattle.std.specs.Prelude.{ℕ, List}

-- a fixed piece, which is its text; closed, so that a proof takes it as a whole
unfoldable pub fixed : List ℕ → List ℕ
fixed text = text

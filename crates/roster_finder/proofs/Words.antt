-- Lists of words.
use Rattle.std.proofs.Common.{ℕ, suc, List, take, drop}
use Rattle.std.specs.Prelude.{All}
use Rattle.std.specs.List.{remove}
use Rattle.std.proofs.lemmas.List.Elements.{All-append, All-take, All-drop}
use Rattle.roster_finder.specs.declared.heavy_word.HeavyWord.{HeavyWord}
use Rattle.roster_finder.specs.declared.setting.Setting.{Setting}
use Rattle.roster_finder.specs.Words.{IsWordOf}

-- without one of them, they are words as before
pub removed_words : (setting : Setting) (xs : List HeavyWord) (k : ℕ) → All (IsWordOf setting) xs → All (IsWordOf setting) (remove xs k)
removed_words setting xs k all =
    All-append (IsWordOf setting) (take k xs) (drop (suc k) xs)
    (All-take (IsWordOf setting) k xs all)
    (All-drop (IsWordOf setting) (suc k) xs all)

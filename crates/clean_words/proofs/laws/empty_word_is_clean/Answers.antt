use Rattle.clean_words.proofs.Watching.{empty_clean}
use Rattle.clean_words.proofs.laws.empty_word_is_clean.Goals as goal

pub returns : goal.returns
returns c = empty_clean

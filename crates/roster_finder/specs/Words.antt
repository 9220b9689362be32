-- Words by their steps.
use Rattle.roster_finder.specs.declared.heavy_word.HeavyWord.{HeavyWord}
use Rattle.roster_finder.specs.declared.setting.Setting.{Setting}
use Rattle.roster_finder.specs.ByStep.{IsByStep}

-- it says for each step of the setting on each weekday how often it takes it
abbrev pub IsWordOf : Setting → HeavyWord → Type 0
IsWordOf setting word = IsByStep setting word.uses

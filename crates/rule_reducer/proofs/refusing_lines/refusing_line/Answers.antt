use Rattle.rule_reducer.proofs.refusing_lines.refusing_line.Goals as goal

pub judge_of-judge-requires : goal.judge_of-judge-requires
judge_of-judge-requires c = c.requires.passes.grounded.fits

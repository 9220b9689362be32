use Rattle.std.proofs.Common.{rules}
use Rattle.clean_words.proofs.search.step.Goals as goal

pub returns-then-demand_greatest-weeks-clause-value : goal.returns-then-demand_greatest-weeks-clause-value
returns-then-demand_greatest-weeks-clause-value c = search rules

pub returns-then-demand_greatest-weeks-clause-above : goal.returns-then-demand_greatest-weeks-clause-above
returns-then-demand_greatest-weeks-clause-above c = search rules

pub returns-then-demand_greatest-weeks-clause-below : goal.returns-then-demand_greatest-weeks-clause-below
returns-then-demand_greatest-weeks-clause-below c = search rules

pub returns-then-weeks-demand_least-clause-value : goal.returns-then-weeks-demand_least-clause-value
returns-then-weeks-demand_least-clause-value c = search rules

pub returns-then-weeks-demand_least-clause-above : goal.returns-then-weeks-demand_least-clause-above
returns-then-weeks-demand_least-clause-above c = search rules

pub returns-then-weeks-demand_least-clause-below : goal.returns-then-weeks-demand_least-clause-below
returns-then-weeks-demand_least-clause-below c = search rules

pub returns-else-weeks-demand_least-clause-value : goal.returns-else-weeks-demand_least-clause-value
returns-else-weeks-demand_least-clause-value c = search rules

pub returns-else-weeks-demand_least-clause-above : goal.returns-else-weeks-demand_least-clause-above
returns-else-weeks-demand_least-clause-above c = search rules

pub returns-else-weeks-demand_least-clause-below : goal.returns-else-weeks-demand_least-clause-below
returns-else-weeks-demand_least-clause-below c = search rules

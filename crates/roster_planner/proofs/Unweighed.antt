-- Leaves of windows and days are plain, and they and those of two turns weigh no words.
use Rattle.rwsp_terms.specs.Instance.{Instance}
use Rattle.refutation_terms.specs.declared.lines.Line.{Line}
use Rattle.refutation_terms.specs.declared.lines.Line.TheVariants.{Closing}
use Rattle.refutation_terms.specs.declared.lines.Leaf.TheVariants.{Window, Day, Words}
use Rattle.refutation_terms.specs.declared.lines.WordClaim.TheVariants.{Dead}
use Rattle.domain_store.specs.Looks.{IsUnweighed}
use Rattle.refutation_log.specs.Planned.{IsPlain}
use Rattle.propagators.specs.Windows.{IsWindowLeaf}
use Rattle.propagators.specs.Days.{IsDayLeaf}
use Rattle.domain_store.specs.Cycles.{IsCycleLeaf}

pub window_plain : (P : Instance) (line : Line) → IsWindowLeaf P line → IsPlain line
window_plain P (Closing (Window number p len)) h = tt
window_plain P line h = absurd h

pub day_plain : (P : Instance) (line : Line) → IsDayLeaf P line → IsPlain line
day_plain P (Closing (Day j x over)) h = tt
day_plain P line h = absurd h

pub plain_unweighed : (line : Line) → IsPlain line → IsUnweighed line
plain_unweighed (Closing (Window number p len)) h = tt
plain_unweighed (Closing (Day j x over)) h = tt
plain_unweighed line h = absurd h

pub cycle_unweighed : (P : Instance) (line : Line) → IsCycleLeaf P line → IsUnweighed line
cycle_unweighed P (Closing (Words p R (Dead len))) h = tt
cycle_unweighed P line h = absurd h

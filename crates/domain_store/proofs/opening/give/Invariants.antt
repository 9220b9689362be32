use Rattle.std.proofs.Common.{take}
use Rattle.refutation_terms.specs.declared.lines.Opening.TheVariants.{Given}
use Rattle.refutation_terms.specs.Word.{AreSame}
use Rattle.refutation_terms.specs.Tree.{opening}
use Rattle.domain_store.specs.Store.{has_domain, BelongsTo}
use Rattle.domain_store.proofs.opening.give.Given as goal

abbrev pub invariant-loop-cell : goal.invariant-loop-cell
invariant-loop-cell l = record {
  belongs : BelongsTo l.problem l.domains;
  has : AreSame l.problem (has_domain l.domains) (opening l.problem (Given (take l.cell-index l.given)));
}

use Rattle.refutation_terms.proofs.LineTables.{spelled_lines_fit, fitting_lines_are_spelled}
use Rattle.refutation_terms.proofs.laws.lines_have_one_spelling.Goals as goal

pub returns : goal.returns
returns c = record { fit = spelled_lines_fit; spelled = fitting_lines_are_spelled }

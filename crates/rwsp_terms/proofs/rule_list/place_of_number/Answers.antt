use Rattle.std.proofs.lemmas.List.Sorted.{searched}
use Rattle.rwsp_terms.proofs.Ascending.{rising}
use Rattle.rwsp_terms.proofs.rule_list.place_of_number.Goals as goal

pub returns : goal.returns
returns c = searched _ _ _ c.binary_search.ensures.position (rising _ c.requires)

-- What callers see of a search for weights.
use Rattle.rwsp_terms.specs.Instance.{Instance}

-- its problem
pub record Searcher : Type 0 where
  pub problem : Instance

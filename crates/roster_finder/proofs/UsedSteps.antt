-- Sorted steps are the same steps.
use Rattle.std.proofs.Common.{List, All}
use Rattle.std.specs.List.Sorted.{IsPermutation}
use Rattle.std.proofs.lemmas.List.Sorted.{All-permutation}
use Rattle.roster_finder.specs.declared.used.Used.{Used}

pub still_all : (P : Used → Type 0) (xs ys : List Used) → IsPermutation xs ys → All P xs → All P ys
still_all P xs ys permuted all = All-permutation P xs ys permuted all

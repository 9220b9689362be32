use Rattle.std.proofs.Common.{◌≡◌, ◌++◌, ◌∷◌, take}
use Rattle.std.specs.List.{flat_map}
use Rattle.rwsp_terms.specs.Instance.{name_of}
use Rattle.roster_print.proofs.names.put_after_blanks.Given as goal

abbrev pub invariant-loop-symbol : goal.invariant-loop-symbol
invariant-loop-symbol l = l.out.items ≡ l.fn.out.items ++ flat_map (λ x. 32 ∷ name_of l.problem x) (take l.symbol-index l.symbols)

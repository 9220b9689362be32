use Rattle.std.proofs.Common.{[], ◌∷◌, length, ap, length-append, arith}
use Rattle.refutation_checker.proofs.tried_words.clean_with.Goals as goal

pub is_clean-requires-clause-few : goal.is_clean-requires-clause-few
is_clean-requires-clause-few c = omega
    (arith, c.args.tries.starts, c.prove_limits.ensures.few_cells, c.requires.word.0, ap length c.deref.ensures.value, ap length c.in_ok-push.ensures.items, length-append c.in_ok-symbols.symbols.items (c.args.x ∷ []), ap length c.in_ok-symbols.ensures.items, ap length c.symbols.ensures)

-- The bit of the symbol is looked at, where there is one.
use Rattle.std.proofs.Common.{ap, ◌∙◌}
use Rattle.domain_store.specs.Sets.{has_symbol}
use Rattle.domain_store.proofs.BitLemmas.{has_bit, has_past}
use Rattle.domain_store.proofs.symbol_set.SymbolSet.has.Goals as goal

pub returns-then-from-lt-MOST_SYMBOLS : goal.returns-then-from-lt-MOST_SYMBOLS
returns-then-from-lt-MOST_SYMBOLS c =
    let few = rw c.from.ensures at c.if-from-lt-MOST_SYMBOLS.true in
    has_bit c.self.inside.bits c.args.x few ∙ ap (λ set. has_symbol set c.args.x) c.self.view_is

pub returns-else-from-lt-MOST_SYMBOLS : goal.returns-else-from-lt-MOST_SYMBOLS
returns-else-from-lt-MOST_SYMBOLS c =
    has_past c.self.inside.bits c.args.x c.from.result c.from.ensures c.if-from-lt-MOST_SYMBOLS.false
    ∙ ap (λ set. has_symbol set c.args.x) c.self.view_is

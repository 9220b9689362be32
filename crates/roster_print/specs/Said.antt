-- What a word of a roster, or of given cells, says of its cell.
use Rattle.std.specs.Prelude.{ℕ, List, [], ◌∷◌, Option, Some, None, Bool, ◌&&◌, cond}
use Rattle.std.specs.Option.{option_map}
use Rattle.std.specs.Str.{bytes_eq}
use Rattle.rwsp_terms.specs.Instance.{Instance, symbol_of, off_symbol}
use Rattle.rwsp_terms.specs.declared.data.Symbol.{Symbol}

-- the word `?`
abbrev pub open_word : List ℕ
open_word = 63 ∷ []

-- what a word says of its cell: a name its symbol, and `?` that it is open, where a cell may be
abbrev pub said_of : Instance → Bool → List ℕ → Option (Option Symbol)
said_of P lets_open word = cond (lets_open && bytes_eq word open_word) (Some None) (option_map Some (symbol_of P word))

-- the symbol of a cell, where it isn't open
abbrev pub or_off : Option Symbol → Symbol
or_off None = off_symbol
or_off (Some x) = x

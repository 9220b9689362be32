-- What is said of words over domains rests on their positions alone.
use Rattle.std.proofs.Common.{ℕ, zero, suc, ◌<◌, List}
use Rattle.rwsp_terms.specs.declared.data.Symbol.{Symbol}
use Rattle.rwsp_terms.specs.declared.data.Weight.{Weight}
use Rattle.rwsp_terms.specs.Instance.{Instance, cells}
use Rattle.refutation_terms.specs.Word.{Domains, AreSame, weight}
use Rattle.refutation_terms.specs.Sharp.{IsSearched, HoldsAtTop, NoWordHas}
use Rattle.refutation_terms.proofs.SameDomains.{turned_round, same_over, same_least}

-- the search has the same rounds
pub same_searched : (P : Instance) (D E : Domains) (R : List ℕ) (k : ℕ) (y : List Weight) → 0 < cells P → AreSame P D E → IsSearched P D R k y → IsSearched P E R k y
same_searched P D E R zero y some same h = h
same_searched P D E R (suc k) y some same h = (
  h.0,
  same_searched P D E R k h.0 some same h.1,
  record {
    word = h.2.word;
    is_heaviest = same_least P D E 0 (cells P) R (weight P h.0 0) h.2.word some same h.2.is_heaviest;
    stepped = h.2.stepped;
  },
)

-- the same bounds hold
pub same_at_top : (P : Instance) (D E : Domains) (R : List ℕ) (y : List Weight) → 0 < cells P → AreSame P D E → HoldsAtTop P D R y → HoldsAtTop P E R y
same_at_top P D E R y some same h = λ u long over clean. h u long (same_over P E D 0 u some (turned_round P D E same) over) clean

-- the same symbols are in no word
pub same_nowhere : (P : Instance) (D E : Domains) (R : List ℕ) (p : ℕ) (x : Symbol) → 0 < cells P → AreSame P D E → NoWordHas P D R p x → NoWordHas P E R p x
same_nowhere P D E R p x some same h = λ u long over clean at. h u long (same_over P E D 0 u some (turned_round P D E same) over) clean at

-- Other forbidden sequences keep a problem's limits.
use Rattle.std.proofs.Common.{◌≡◌, List, sym, subst}
use Rattle.std.specs.Prelude.{All}
use Rattle.rwsp_terms.specs.declared.data.Sequence.{Sequence}
use Rattle.rwsp_terms.specs.Instance.{Instance}
use Rattle.rwsp_model.specs.Sequences.{IsSequenceOf, AreListed}
use Rattle.rwsp_model.specs.Validity.{IsValid, KeepsLimits}
use Rattle.rwsp_model.proofs.Limits.{keeps_valid}

pub other_sequences_keep : (P : Instance) (qs : List Sequence) → KeepsLimits P → All (IsSequenceOf P) qs → AreListed qs → KeepsLimits (record P { sequences = qs })
other_sequences_keep P qs k known listed = record {
  rows = k.rows;
  long_rows = k.long_rows;
  sequences = known;
  some_days = k.some_days;
  few_days = k.few_days;
  some_weeks = k.some_weeks;
  few_weeks = k.few_weeks;
  few_cells = k.few_cells;
  some_shifts = k.some_shifts;
  few_shifts = k.few_shifts;
  demand = k.demand;
  times = k.times;
  blocks = k.blocks;
  off = k.off;
  work = k.work;
  listed = listed;
  names = k.names;
  distinct = k.distinct;
}

-- so they keep a copy of the problem valid
pub other_sequences_valid : (P Q : Instance) (qs : List Sequence) → Q ≡ P → KeepsLimits P → All (IsSequenceOf P) qs → AreListed qs → IsValid (record Q { sequences = qs })
other_sequences_valid P Q qs same k known listed =
    subst (λ (R : Instance). IsValid (record R { sequences = qs })) (sym same) (keeps_valid (record P { sequences = qs }) (other_sequences_keep P qs k known listed))

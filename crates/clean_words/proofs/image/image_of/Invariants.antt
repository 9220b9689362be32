use Rattle.std.proofs.Common.{◌≡◌, ℕ, ◌<◌, length, get_or, None, slice_index}
use Rattle.std.specs.Option.{option_map}
use Rattle.rwsp_terms.specs.declared.limits.TheConstants.{MOST_SYMBOLS}
use Rattle.clean_words.proofs.image.image_of.Given as goal

abbrev pub invariant-loop-number : goal.invariant-loop-number
invariant-loop-number l = record {
  long : length l.image ≡ MOST_SYMBOLS;
  moves : (k : ℕ) → k < l.number → get_or l.image k None ≡ option_map (slice_index l.classes) (get_or l.row k None);
}

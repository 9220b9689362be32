use Rattle.std.proofs.Common.{◌≡◌, ◌+◌, ◌-◌, ◌≤◌, ◌++◌, length, drop}
use Rattle.std.specs.Prelude.{map}
use Rattle.rwsp_text.specs.Lexemes.{lexemes, lexemes_from}
use Rattle.rwsp_text.specs.Places.{lexeme_at, AreWithin}
use Rattle.rwsp_text.proofs.scan.tokens.Given as goal

abbrev pub invariant-loop-at : goal.invariant-loop-at
invariant-loop-at l = record {
  within : l.at ≤ length l.bytes;
  lines : l.line ≤ l.at + 1;
  lexemes : map (lexeme_at l.bytes) l.all.items ++ lexemes_from l.line (drop l.at l.bytes) ≡ lexemes l.bytes;
  ranges : AreWithin l.bytes l.all.items;
}

abbrev pub decreases-loop-at : goal.decreases-loop-at
decreases-loop-at l = length l.bytes - l.at

use Rattle.std.proofs.Common.{◌≡◌, ◌<◌, ◌^◌, take}
use Rattle.rwsp_text.specs.Numbers.{value_of}
use Rattle.rwsp_text.proofs.digits.value.Given as goal

abbrev pub invariant-loop-b : goal.invariant-loop-b
invariant-loop-b l = record {
  value : l.n ≡ value_of (take l.b-index l.bytes);
  small : l.n < 10 ^ l.b-index;
}

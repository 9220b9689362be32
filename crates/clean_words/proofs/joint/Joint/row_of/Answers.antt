use Rattle.std.proofs.Common.{◌∙◌, refl, arith}
use Rattle.std.proofs.lemmas.List.{length-set}
use Rattle.clean_words.proofs.Growing.{extends_none, extends_on, row_none, row_more}
use Rattle.clean_words.proofs.joint.Joint.row_of.Goals as goal

pub loop-number-init : goal.loop-number-init
loop-number-init c = record {
  grows = extends_none c.args.self.now.pairs.items c.args.self.now.pairs.items refl;
  moves = refl;
  long = refl;
  row = row_none c.args.first.now c.args.second.now c.args.self.now.pairs.items c.args.pair 9;
}

pub loop-number-preserved : goal.loop-number-preserved
loop-number-preserved c =
    let i = c.loop-number.invariant in
    let e = c.in_ok-row.ensures in
    record {
      grows = extends_on c.args.self.now.pairs.items c.loop-number.self.pairs.items c.move_by.new.self.pairs.items i.grows e.grows;
      moves = e.moves ∙ i.moves;
      long = length-set c.loop-number.row c.loop-number.number c.in_ok-row.field-0 ∙ i.long;
      row = row_more c.args.first.now c.args.second.now c.loop-number.self.pairs.items c.move_by.new.self.pairs.items c.args.pair c.loop-number.number c.loop-number.row c.in_ok-row.field-0 (omega (arith, i.long, c.requires.symbols)) e.grows e.judges i.row;
    }

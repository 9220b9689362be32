use Rattle.rwsp_text.specs.declared.scan.Token.{Token}
use Rattle.rwsp_file.proofs.Taken.{mapped_more, mapped_all}
use Rattle.rwsp_file.proofs.cursor.lines_of.Goals as goal

pub loop-i-preserved : goal.loop-i-preserved
loop-i-preserved c = mapped_more (λ (t : Token). t.line) c.args.tokens.now c.loop-i.i _ _ _ c.loop-i-test.true c.loop-i.invariant c.in_ok-push.ensures.items

pub returns : goal.returns
returns c = mapped_all (λ (t : Token). t.line) c.args.tokens.now c.loop-i.i _ c.loop-i-test.false c.loop-i.invariant

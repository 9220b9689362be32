use Rattle.rwsp_file.specs.RefusalWords.{byte_text}
use Rattle.rwsp_file.proofs.Taken.{taken_more, taken_all}
use Rattle.rwsp_file.proofs.refusal_words.put_word.Goals as goal

pub loop-i-preserved : goal.loop-i-preserved
loop-i-preserved c = taken_more byte_text c.args.word.now c.loop-i.i _ c.args.out.now.items _ _ c.loop-i-test.true c.loop-i.invariant c.in_ok-put_byte.ensures

pub returns : goal.returns
returns c = taken_all byte_text c.args.word.now c.loop-i.i c.args.out.now.items _ c.loop-i-test.false c.loop-i.invariant

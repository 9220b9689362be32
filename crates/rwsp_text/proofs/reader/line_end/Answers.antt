use Rattle.std.proofs.Common.{length, get_or, arith}
use Rattle.std.proofs.lemmas.Bool.{eq-eqb, eqb-true}
use Rattle.rwsp_text.proofs.NextLines.{line_found, line_last}
use Rattle.rwsp_text.proofs.reader.line_end.Goals as goal

pub returns-in-Some-clause-line : goal.returns-in-Some-clause-line
returns-in-Some-clause-line c =
    let bytes = c.args.bytes.now in
    let found = rw c.in-Some.is at c.memchr.ensures in
    line_found bytes c.in-Some.i found.0.high
    (λ k less e. found.0.before k (omega arith) less (eq-eqb (get_or bytes k 0) 10 e))
    (eqb-true (get_or bytes c.in-Some.i 0) 10 found.1)

pub returns-in-None-clause-line : goal.returns-in-None-clause-line
returns-in-None-clause-line c =
    let bytes = c.args.bytes.now in
    let none = rw c.in-None.is at c.memchr.ensures in
    line_last bytes (length bytes) c.requires (omega arith)
    (λ k less e. none k (omega arith) less (eq-eqb (get_or bytes k 0) 10 e))

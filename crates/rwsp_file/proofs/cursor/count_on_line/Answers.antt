use Rattle.std.proofs.Common.{◌∙◌, ap, length, ◌==◌}
use Rattle.std.specs.Prelude.{unwrap_or}
use Rattle.rwsp_text.specs.declared.scan.Token.{Token}
use Rattle.rwsp_file.proofs.Lines.{place_of_failing}
use Rattle.rwsp_file.proofs.cursor.count_on_line.Goals as goal

pub returns-clause-count : goal.returns-clause-count
returns-clause-count c =
    c.unwrap_or.ensures ∙ ap (λ o. unwrap_or o (length c.args.tokens.now)) c.place_past_line.ensures
    ∙ place_of_failing (λ (t : Token). t.line == c.args.line) c.args.tokens.now

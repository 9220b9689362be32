use Rattle.std.proofs.Common.{rules}
use Rattle.command_line.specs.Commands.{forms}
use Rattle.command_line.proofs.OneForm.{NamesNone, none_named}
use Rattle.command_line.proofs.forms.form_of.Goals as goal

pub returns-in_default-clause-form : goal.returns-in_default-clause-form
returns-in_default-clause-form c =
    let other : NamesNone forms c.args.word.now = search rules in
    none_named forms c.args.word.now c.args.words.now other

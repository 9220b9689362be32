use Rattle.std.proofs.Common.{◌≡◌, ◌++◌, length, ap, sym, ◌∙◌, append_assoc}
use Rattle.std.specs.Prelude.{codes}
use Rattle.std.specs.Fmt.{decimal}
use Rattle.std.proofs.lemmas.Result.{IfOk-weaker}
use Rattle.roster_print.specs.RosterText.{roster_text}
use Rattle.commands.specs.Trial.{found_line}
use Rattle.commands.proofs.trial.texts.put_found_line.Goals as goal

pub returns-in_ok-text-in-Roster : goal.returns-in_ok-text-in-Roster
returns-in_ok-text-in-Roster c =
    let P = c.args.problem.now in
    let out = c.args.out.now.items in
    let label = codes "answer roster bytes " in
    let text : c.deref.result.now ≡ roster_text P c.in-Roster.roster.cells = c.deref.ensures.value ∙ c.in_ok-text-in-Roster.ensures in
    let named = ap (λ t. out ++ t ++ decimal (length c.deref.result.now)) c.as_slice.ensures in
    let line = ap (λ found. out ++ found_line P found) (sym c.in-Roster.is) in
    IfOk-weaker c.put_bytes.result _ _ (λ _ e. e ∙ named ∙ append_assoc out label (decimal (length c.deref.result.now)) ∙ ap (λ t. out ++ (label ++ decimal (length t))) text ∙ line) c.put_bytes.ensures

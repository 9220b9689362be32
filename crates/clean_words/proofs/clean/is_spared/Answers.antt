use Rattle.clean_words.proofs.clean.is_spared.Goals as goal

pub returns-in-Some : goal.returns-in-Some
returns-in-Some c =
    let watches = c.in-Some.ensures.1 c.args.p c.args.word.now in
    let goes = c.goes_along.ensures in
    (λ h. watches.1 (goes.0 h), λ h. goes.1 (watches.0 h))

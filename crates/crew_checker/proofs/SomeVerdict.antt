-- No staff text is without a verdict.
use Rattle.std.proofs.Common.{◌≡◌, ℕ, zero, suc, ◌+◌, ◌<◌, ◌≤◌, List, [], ◌∷◌, ◌++◌, length, take, drop, refl, sym, ◌∙◌, subst, arith, inl, inr, Option, Some, None, take-append-drop, length-drop}
use Rattle.std.specs.Prelude.{Result, Ok, Err, MatchOption}
use Rattle.std.proofs.lemmas.Bool.{cases_lt}
use Rattle.rwsp_terms.specs.declared.limits.TheConstants.{LONGEST_FILE}
use Rattle.rwsp_terms.specs.declared.data.Symbol.{Symbol}
use Rattle.rwsp_terms.specs.Instance.{Instance}
use Rattle.roster_print.specs.RosterText.{SpellsRoster}
use Rattle.roster_print.specs.Refusal.{refusal_of_roster}
use Rattle.roster_print.specs.declared.refusal.RosterRefusal.{RosterRefusal}
use Rattle.roster_print.proofs.Spelling.{refusals_decide, spelled_is_roster}
use Rattle.refutation_terms.specs.declared.lines.LogKind.TheVariants.{WithoutGoal}
use Rattle.refutation_terms.specs.declared.lines.LogRefusal.{LogRefusal}
use Rattle.refutation_terms.specs.Log.{Log}
use Rattle.refutation_terms.specs.Verdict.{IsVerdict}
use Rattle.refutation_checker.proofs.Deciding.{least_number}
use Rattle.refutation_checker.proofs.SomeVerdict.{first_line, some_verdict}
use Rattle.crew_size.specs.Sizes.{with_weeks}
use Rattle.crew_size.specs.Texts.{refuted_line, roster_line, none_line}
use Rattle.crew_size.specs.Sections.{HasHeadingAt, AreUpToHeading}
use Rattle.crew_size.specs.Verdict.{IsStaffVerdict}
use Rattle.crew_size.specs.Places.{Place, IsPlace, IsAt, IsNextOf, IsLastOf, MayFollow, heading_line, first_size}
use Rattle.crew_size.specs.declared.heading.Heading.{Heading}
use Rattle.crew_size.specs.declared.heading.Heading.TheVariants as Headings
use Rattle.crew_size.specs.declared.verdict.Staffed.{Staffed}
use Rattle.crew_size.specs.declared.verdict.Staffed.TheVariants.{Least, NoneTo}
use Rattle.crew_size.specs.declared.verdict.StaffRefusal.{StaffRefusal}
use Rattle.crew_size.specs.declared.verdict.StaffRefusal.TheVariants as Refusals
use Rattle.crew_size.proofs.Cuts.{cut_at_heading, cut_at_end}
use Rattle.crew_size.proofs.Fronts.{feeds}
use Rattle.crew_size.proofs.Verdicts.{at_start, at_heading, ends_here, no_heading_here, log_passed, log_refused, long_roster, roster_refused, roster_broken, roster_right, goes_on, none_right}
use Rattle.crew_checker.specs.Laws.{StaffTextsHaveAVerdict}
use Rattle.crew_checker.proofs.SomeBroken.{some_broken}

abbrev HasNoVerdict : Instance → List ℕ → Type 0
HasNoVerdict P text = (verdict : Result Staffed StaffRefusal) → IsStaffVerdict P text verdict → ⊥

-- the log of a section

some_cut : (bytes : List ℕ) → ((n : ℕ) → AreUpToHeading (take n bytes) (drop n bytes) → ⊥) → ⊥
some_cut bytes goes =
    goes (length bytes) (cut_at_end bytes (length bytes) refl (λ i inside at.
    least_number (λ k. (k < length bytes) × HasHeadingAt bytes k)
    (λ k least. goes k (cut_at_heading bytes k least.0.0
    (λ j less h. (let le : k ≤ j = least.1 j ((let in_it = least.0.0 in omega (arith, less, in_it)), h) in omega (arith, less, le))) least.0.1))
    i (inside, at)))

section_on : (P : Instance) (text : List ℕ) (sizes : Option (ℕ × ℕ)) (line m : ℕ) (bytes : List ℕ) → HasNoVerdict P text → ((place : Place) → length place.rest ≤ length bytes → IsPlace P text place → ⊥) → IsNextOf P sizes m → IsAt P text sizes line (refuted_line m) bytes → (k : ℕ) → AreUpToHeading (take k bytes) (drop k bytes) → (verdict : Result Log LogRefusal) → IsVerdict (with_weeks P m) WithoutGoal (take k bytes) verdict → ⊥
section_on P text sizes line m bytes none further next at k cut (Ok g) passes =
    further (record { sizes = Some (first_size sizes m, m + 1); rest = drop k bytes; line = line + (1 + feeds (take k bytes)) })
    (omega (arith, length-drop k bytes))
    (log_passed P text sizes line m bytes (take k bytes) (drop k bytes) (record { sizes = Some (first_size sizes m, m + 1); rest = drop k bytes; line = line + (1 + feeds (take k bytes)) }) g passes next (sym (take-append-drop k bytes)) cut refl refl refl at)
section_on P text sizes line m bytes none further next at k cut (Err why) refused =
    none (Err (Refusals.Log m why)) (log_refused P text sizes line m bytes (take k bytes) (drop k bytes) why refused next (sym (take-append-drop k bytes)) cut at)

-- the roster at the end

roster_by : (P : Instance) (text : List ℕ) (sizes : Option (ℕ × ℕ)) (line m : ℕ) (bytes : List ℕ) → 0 < P.days → HasNoVerdict P text → IsNextOf P sizes m → IsAt P text sizes line (roster_line m) bytes → length bytes ≤ LONGEST_FILE → (o : Option RosterRefusal) → refusal_of_roster (with_weeks P m) bytes ≡ o
    → MatchOption o ((s : List Symbol) × SpellsRoster (with_weeks P m) bytes s) (λ why. (s : List Symbol) → SpellsRoster (with_weeks P m) bytes s → ⊥) → ⊥
roster_by P text sizes line m bytes days none next at short (Some why) e spelled = none (Err (Refusals.Roster m why)) (roster_refused P text sizes line m bytes why short next e at)
roster_by P text sizes line m bytes days none next at short None e spelled =
    some_broken (with_weeks P m) spelled.0 days (spelled_is_roster (with_weeks P m) bytes spelled.0 spelled.1)
    (λ b first. none (Err (Refusals.Breaks m b)) (roster_broken P text sizes line m bytes spelled.0 b short next spelled.1 first at))
    (λ met. none (Ok (Least (first_size sizes m) m)) (roster_right P text sizes line m bytes spelled.0 short next spelled.1 met at))

roster_on : (P : Instance) (text : List ℕ) (sizes : Option (ℕ × ℕ)) (line m : ℕ) (bytes : List ℕ) → 0 < P.days → HasNoVerdict P text → IsNextOf P sizes m → IsAt P text sizes line (roster_line m) bytes → ⊥
roster_on P text sizes line m bytes days none next at =
    elim (cases_lt LONGEST_FILE (length bytes)) [
      | inl long ↦ none (Err (Refusals.Form line)) (inr (inr (long_roster P text sizes line m bytes long next at)))
      | inr short ↦ roster_by P text sizes line m bytes days none next at short (refusal_of_roster (with_weeks P m) bytes) refl (refusals_decide (with_weeks P m) bytes)
    ]

-- the end without a roster

none_on : (P : Instance) (text : List ℕ) (sizes : Option (ℕ × ℕ)) (line last : ℕ) (bytes : List ℕ) → HasNoVerdict P text → IsLastOf sizes last → IsAt P text sizes line (none_line last) bytes → ⊥
none_on P text sizes line last [] none is at = none (Ok (NoneTo (first_size sizes last) last)) (none_right P text sizes line last [] refl is at)
none_on P text sizes line last (b ∷ bytes) none is at = none (Err (Refusals.Form (line + 1))) (inr (inl (goes_on P text sizes line last (b ∷ bytes) (λ e. cc) is at)))

heading_on : (P : Instance) (text : List ℕ) (sizes : Option (ℕ × ℕ)) (line : ℕ) (bytes : List ℕ) → 0 < P.days → HasNoVerdict P text → ((place : Place) → length place.rest ≤ length bytes → IsPlace P text place → ⊥) → (h : Heading) → MayFollow P sizes h → IsAt P text sizes line (heading_line h) bytes → ⊥
heading_on P text sizes line bytes days none further (Headings.Refuted m) may at =
    some_cut bytes (λ k cut. some_verdict (with_weeks P m) WithoutGoal (take k bytes) tt (section_on P text sizes line m bytes none further may at k cut))
heading_on P text sizes line bytes days none further (Headings.Found m) may at = roster_on P text sizes line m bytes days none may at
heading_on P text sizes line bytes days none further (Headings.NoneTo last) may at = none_on P text sizes line last bytes none may at

-- a text that has been read up to a heading's place
text_on : (P : Instance) (text : List ℕ) → 0 < P.days → HasNoVerdict P text → (n : ℕ) (place : Place) → length place.rest < n → IsPlace P text place → (rest : List ℕ) → place.rest ≡ rest → ⊥
text_on P text days none zero place few h rest e = omega (arith, few)
text_on P text days none (suc n) place few h [] e = none (Err Refusals.Ends) (ends_here P text place h e)
text_on P text days none (suc n) place few h (b ∷ rest) e =
    let next = first_line b rest in
    let cut : place.rest ≡ next.line ++ next.rest = e ∙ next.whole in
    let less : length next.rest < length place.rest = subst (λ (bytes : List ℕ). length next.rest < length bytes) (sym e) next.shorter in
    none (Err (Refusals.Form place.line))
    (inl (no_heading_here P text place next.line next.rest h cut next.is_line
    (λ head number may same.
    heading_on P text place.sizes place.line next.rest days none
    (λ later fewer k. text_on P text days none n later (omega (arith, fewer, less, few)) k later.rest refl)
    head may (subst (λ line. IsAt P text place.sizes place.line line next.rest) same (at_heading P text place next.line next.rest h cut)))))

pub some_staff_verdict : StaffTextsHaveAVerdict
some_staff_verdict P text limits none =
    let days : 0 < P.days = omega (arith, limits.some_days) in
    text_on P text days none (length text + 1) (record { sizes = None; rest = text; line = 1 }) (omega arith)
    (at_start P text (record { sizes = None; rest = text; line = 1 }) refl refl refl) text refl

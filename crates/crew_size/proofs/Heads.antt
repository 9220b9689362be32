-- What is at a heading's place has one verdict at most.
use Rattle.std.proofs.Common.{◌≡◌, ◌≢◌, ℕ, ◌+◌, ◌<◌, ◌≤◌, List, [], ◌++◌, length, Option, Some, None, ap, sym, ◌∙◌, subst, arith, inl, inr, length-append}
use Rattle.std.specs.Prelude.{◌⊎◌, Result, Ok, Err, MatchOption}
use Rattle.rwsp_terms.specs.declared.limits.TheConstants.{LONGEST_FILE}
use Rattle.rwsp_terms.specs.declared.data.Symbol.{Symbol}
use Rattle.rwsp_terms.specs.Instance.{Instance}
use Rattle.rwsp_terms.specs.Roster.{MeetsAll}
use Rattle.rwsp_model.specs.Validity.{KeepsLimits}
use Rattle.roster_print.specs.RosterText.{SpellsRoster}
use Rattle.roster_print.specs.Refusal.{refusal_of_roster}
use Rattle.roster_print.specs.declared.refusal.RosterRefusal.{RosterRefusal}
use Rattle.roster_print.proofs.Spelling.{one_roster, refusals_decide}
use Rattle.roster_checker.specs.FirstBroken.{IsFirstBroken}
use Rattle.roster_checker.specs.declared.broken.Broken.{Broken}
use Rattle.roster_checker.proofs.FirstBroken.{first_broken-same, first_broken-not_met}
use Rattle.refutation_terms.specs.declared.lines.LogRefusal.{LogRefusal}
use Rattle.refutation_terms.specs.Log.{Log}
use Rattle.rwsp_text.specs.Lines.{IsNextLine}
use Rattle.rwsp_text.proofs.LineLaws.{next_same, line_some}
use Rattle.refutation_terms.specs.Verdict.{IsVerdict}
use Rattle.refutation_terms.proofs.Unique.{verdict_unique}
use Rattle.refutation_log.proofs.LineTexts.{is_writable}
use Rattle.refutation_log.proofs.OneText.{has_names}
use Rattle.refutation_terms.specs.declared.lines.LogKind.TheVariants.{WithoutGoal}
use Rattle.crew_size.specs.Sizes.{with_weeks, IsSize}
use Rattle.crew_size.specs.Sections.{AreUpToHeading}
use Rattle.crew_size.specs.Places.{MayFollow, IsNextOf, IsHeadingNumber, heading_line, first_size}
use Rattle.crew_size.specs.declared.heading.Heading.{Heading}
use Rattle.crew_size.specs.declared.heading.Heading.TheVariants.{Refuted, Found, NoneTo}
use Rattle.crew_size.specs.declared.verdict.Staffed.{Staffed}
use Rattle.crew_size.specs.declared.verdict.Staffed.TheVariants as Sizes
use Rattle.crew_size.specs.declared.verdict.StaffRefusal.{StaffRefusal}
use Rattle.crew_size.specs.declared.verdict.StaffRefusal.TheVariants as Refusals
use Rattle.crew_size.proofs.Cuts.{cut_once}
use Rattle.crew_size.proofs.Decided.{sized_keeps}
use Rattle.crew_size.proofs.Headings.{headings_once}

-- a verdict, or none where a section passes
abbrev pub Outcome : Type 0
Outcome = Option (Result Staffed StaffRefusal)

abbrev pub refused : StaffRefusal → Outcome
refused why = Some (Err why)

-- what the verdict on the log of a section says of the text
abbrev pub of_log : ℕ → Result Log LogRefusal → Outcome
of_log m (Ok g) = None
of_log m (Err why) = refused (Refusals.Log m why)

pub record OfLog (P : Instance) (m : ℕ) (bytes : List ℕ) (o : Outcome) : Type 0 where
  pub log : List ℕ
  pub rest : List ℕ
  pub whole : bytes ≡ log ++ rest
  pub cut : AreUpToHeading log rest
  pub verdict : Result Log LogRefusal
  pub said : IsVerdict (with_weeks P m) WithoutGoal log verdict
  pub outcome : o ≡ of_log m verdict

-- a roster breaks a rule, or it breaks none
abbrev pub OfCells : Instance → (first m : ℕ) → List Symbol → Outcome → Type 0
OfCells P first m s o =
    ((b : Broken) × IsFirstBroken (with_weeks P m) s b × (o ≡ refused (Refusals.Breaks m b)))
    ⊎ (MeetsAll (with_weeks P m) s × (o ≡ Some (Ok (Sizes.Least first m))))

-- the bytes of a roster that aren't too long
abbrev pub OfShort : Instance → (first m : ℕ) → List ℕ → Outcome → Type 0
OfShort P first m bytes o =
    ((why : RosterRefusal) × (refusal_of_roster (with_weeks P m) bytes ≡ Some why) × (o ≡ refused (Refusals.Roster m why)))
    ⊎ ((s : List Symbol) × SpellsRoster (with_weeks P m) bytes s × OfCells P first m s o)

abbrev pub OfRoster : Instance → (first m n : ℕ) → List ℕ → Outcome → Type 0
OfRoster P first m n bytes o =
    ((LONGEST_FILE < length bytes) × (o ≡ refused (Refusals.Form n)))
    ⊎ ((length bytes ≤ LONGEST_FILE) × OfShort P first m bytes o)

abbrev pub OfEnd : (first last n : ℕ) → List ℕ → Outcome → Type 0
OfEnd first last n bytes o =
    ((bytes ≡ []) × (o ≡ Some (Ok (Sizes.NoneTo first last))))
    ⊎ ((bytes ≢ []) × (o ≡ refused (Refusals.Form (n + 1))))

-- what follows a heading on line n behind sections of these sizes
abbrev pub OfHeading : Instance → Option (ℕ × ℕ) → ℕ → Heading → List ℕ → Outcome → Type 0
OfHeading P sizes n (Refuted m) bytes o = OfLog P m bytes o
OfHeading P sizes n (Found m) bytes o = OfRoster P (first_size sizes m) m n bytes o
OfHeading P sizes n (NoneTo last) bytes o = OfEnd (first_size sizes last) last n bytes o

-- line n behind sections of these sizes, and what follows it
abbrev pub OfLine : Instance → Option (ℕ × ℕ) → ℕ → (line more : List ℕ) → Outcome → Type 0
OfLine P sizes n line more o =
    (((h : Heading) → IsHeadingNumber h → MayFollow P sizes h → line ≢ heading_line h) × (o ≡ refused (Refusals.Form n)))
    ⊎ ((h : Heading) × (line ≡ heading_line h) × IsHeadingNumber h × MayFollow P sizes h × OfHeading P sizes n h more o)

-- what is left of a text behind sections of these sizes, from line n on
abbrev pub OfRest : Instance → Option (ℕ × ℕ) → ℕ → List ℕ → Outcome → Type 0
OfRest P sizes n rest o =
    ((rest ≡ []) × (o ≡ refused Refusals.Ends))
    ⊎ ((line : List ℕ) × (more : List ℕ) × (rest ≡ line ++ more) × IsNextLine line more × OfLine P sizes n line more o)

-- a line that is one heading, which may not be there, is no other that may
pub no_other : (P : Instance) (sizes : Option (ℕ × ℕ)) (line : List ℕ) (h : Heading) → IsHeadingNumber h → line ≡ heading_line h → (MayFollow P sizes h → ⊥) → (k : Heading) → IsHeadingNumber k → MayFollow P sizes k → line ≢ heading_line k
no_other P sizes line h w e never k v may f =
    let same : h ≡ k = (headings_once h k [] [] w v (ap (λ l. l ++ []) (sym e ∙ f))).0 in
    never (subst (MayFollow P sizes) (sym same) may)

-- one outcome for each heading

log_once : (P : Instance) (m : ℕ) (bytes : List ℕ) (o p : Outcome) → KeepsLimits (with_weeks P m) → OfLog P m bytes o → OfLog P m bytes p → o ≡ p
log_once P m bytes o p limits h k =
    let same = cut_once h.log k.log h.rest k.rest h.cut k.cut (sym h.whole ∙ k.whole) in
    let said : IsVerdict (with_weeks P m) WithoutGoal h.log k.verdict = subst (λ l. IsVerdict (with_weeks P m) WithoutGoal l k.verdict) (sym same.0) k.said in
    h.outcome ∙ ap (of_log m) (verdict_unique (with_weeks P m) WithoutGoal h.log h.verdict k.verdict (is_writable (with_weeks P m) limits) (has_names (with_weeks P m) limits) h.said said) ∙ sym k.outcome

cells_once : (P : Instance) (first m : ℕ) (s : List Symbol) (o p : Outcome) → OfCells P first m s o → OfCells P first m s p → o ≡ p
cells_once P first m s o p (inl (b, breaks, e)) (inl (c, breaks', f)) =
    e ∙ ap (λ (x : Broken). refused (Refusals.Breaks m x)) (first_broken-same (with_weeks P m) s b c breaks breaks') ∙ sym f
cells_once P first m s o p (inl (b, breaks, e)) (inr (meets, f)) = absurd (first_broken-not_met (with_weeks P m) s b breaks meets)
cells_once P first m s o p (inr (meets, e)) (inl (b, breaks, f)) = absurd (first_broken-not_met (with_weeks P m) s b breaks meets)
cells_once P first m s o p (inr (meets, e)) (inr (meets', f)) = e ∙ sym f

-- a text that is refused as a roster spells none
spells_none : (P : Instance) (bytes : List ℕ) (why : RosterRefusal) (s : List Symbol) → refusal_of_roster P bytes ≡ Some why → SpellsRoster P bytes s → ⊥
spells_none P bytes why s e spelled =
    let none : (t : List Symbol) → SpellsRoster P bytes t → ⊥ =
    subst (λ (o : Option RosterRefusal). MatchOption o ((t : List Symbol) × SpellsRoster P bytes t) (λ why. (t : List Symbol) → SpellsRoster P bytes t → ⊥)) e (refusals_decide P bytes) in
    none s spelled

some_once : (a b : RosterRefusal) → Some a ≡ Some b → a ≡ b
some_once a b e = cc

short_once : (P : Instance) (first m : ℕ) (bytes : List ℕ) (o p : Outcome) → OfShort P first m bytes o → OfShort P first m bytes p → o ≡ p
short_once P first m bytes o p (inl (why, r, e)) (inl (other, q, f)) =
    e ∙ ap (λ (w : RosterRefusal). refused (Refusals.Roster m w)) (some_once why other (sym r ∙ q)) ∙ sym f
short_once P first m bytes o p (inl (why, r, e)) (inr (s, spelled, of)) = absurd (spells_none (with_weeks P m) bytes why s r spelled)
short_once P first m bytes o p (inr (s, spelled, of)) (inl (why, r, e)) = absurd (spells_none (with_weeks P m) bytes why s r spelled)
short_once P first m bytes o p (inr (s, spelled, of)) (inr (t, spelled', of')) =
    cells_once P first m s o p of (subst (λ (r : List Symbol). OfCells P first m r p) (one_roster (with_weeks P m) bytes t s spelled' spelled) of')

roster_once : (P : Instance) (first m n : ℕ) (bytes : List ℕ) (o p : Outcome) → OfRoster P first m n bytes o → OfRoster P first m n bytes p → o ≡ p
roster_once P first m n bytes o p (inl (long, e)) (inl (long', f)) = e ∙ sym f
roster_once P first m n bytes o p (inl (long, e)) (inr (short, f)) = absurd (omega (arith, long, short))
roster_once P first m n bytes o p (inr (short, f)) (inl (long, e)) = absurd (omega (arith, long, short))
roster_once P first m n bytes o p (inr (short, e)) (inr (short', f)) = short_once P first m bytes o p e f

end_once : (first last n : ℕ) (bytes : List ℕ) (o p : Outcome) → OfEnd first last n bytes o → OfEnd first last n bytes p → o ≡ p
end_once first last n bytes o p (inl (none, e)) (inl (none', f)) = e ∙ sym f
end_once first last n bytes o p (inl (none, e)) (inr (more, f)) = absurd (more none)
end_once first last n bytes o p (inr (more, f)) (inl (none, e)) = absurd (more none)
end_once first last n bytes o p (inr (more, e)) (inr (more', f)) = e ∙ sym f

size_of_next : (P : Instance) (sizes : Option (ℕ × ℕ)) (m : ℕ) → IsNextOf P sizes m → IsSize P m
size_of_next P None m h = h
size_of_next P (Some sizes) m h = h.0

heading_once : (P : Instance) (sizes : Option (ℕ × ℕ)) (n : ℕ) (h : Heading) (bytes : List ℕ) (o p : Outcome) → KeepsLimits P → MayFollow P sizes h → OfHeading P sizes n h bytes o → OfHeading P sizes n h bytes p → o ≡ p
heading_once P sizes n (Refuted m) bytes o p limits may a b = log_once P m bytes o p (sized_keeps P m limits (size_of_next P sizes m may)) a b
heading_once P sizes n (Found m) bytes o p limits may a b = roster_once P (first_size sizes m) m n bytes o p a b
heading_once P sizes n (NoneTo m) bytes o p limits may a b = end_once (first_size sizes m) m n bytes o p a b

-- one outcome for what is left of a text

line_once : (P : Instance) (sizes : Option (ℕ × ℕ)) (n : ℕ) (line more : List ℕ) (o p : Outcome) → KeepsLimits P → OfLine P sizes n line more o → OfLine P sizes n line more p → o ≡ p
line_once P sizes n line more o p limits (inl (other, e)) (inl (other', f)) = e ∙ sym f
line_once P sizes n line more o p limits (inl (other, e)) (inr (h, is, w, may, of)) = absurd (other h w may is)
line_once P sizes n line more o p limits (inr (h, is, w, may, of)) (inl (other, e)) = absurd (other h w may is)
line_once P sizes n line more o p limits (inr (h, is, w, may, of)) (inr (k, is', v, may', of')) =
    let same : k ≡ h = (headings_once k h more more v w (ap (λ l. l ++ more) (sym is' ∙ is))).0 in
    heading_once P sizes n h more o p limits may of (subst (λ (i : Heading). OfHeading P sizes n i more p) same of')

line_there : (rest line more : List ℕ) → rest ≡ [] → rest ≡ line ++ more → IsNextLine line more → ⊥
line_there rest line more none whole next = omega (arith, ap length none, ap length whole, length-append line more, line_some line more next)

pub rest_once : (P : Instance) (sizes : Option (ℕ × ℕ)) (n : ℕ) (rest : List ℕ) (o p : Outcome) → KeepsLimits P → OfRest P sizes n rest o → OfRest P sizes n rest p → o ≡ p
rest_once P sizes n rest o p limits (inl (none, e)) (inl (none', f)) = e ∙ sym f
rest_once P sizes n rest o p limits (inl (none, e)) (inr (line, more, whole, next, of)) = absurd (line_there rest line more none whole next)
rest_once P sizes n rest o p limits (inr (line, more, whole, next, of)) (inl (none, e)) = absurd (line_there rest line more none whole next)
rest_once P sizes n rest o p limits (inr (line, more, whole, next, of)) (inr (line', more', whole', next', of')) =
    let same = next_same line' line more' more next' next (sym whole' ∙ whole) in
    line_once P sizes n line more o p limits of (subst (λ (l : List ℕ). OfLine P sizes n l more p) same.0 (subst (λ (m : List ℕ). OfLine P sizes n line' m p) same.1 of'))

-- The bytes of a roster have one calendar.
use Rattle.std.proofs.Common.{refl, ◌≡◌, ℕ, ◌<◌, ◌≤◌, List, arith, ap, sym, ◌∙◌, subst}
use Rattle.rwsp_terms.specs.Instance.{Instance}
use Rattle.rwsp_terms.specs.declared.data.Symbol.{Symbol}
use Rattle.rwsp_model.specs.Validity.{KeepsLimits}
use Rattle.roster_print.proofs.Spelling.{one_roster}
use Rattle.crew_calendar.specs.Calendar.{Date}
use Rattle.crew_calendar.proofs.OneText.{one_table, one_duties}
use Rattle.crew_calendar.proofs.Sheets.{one_sheet}
use Rattle.command_line.specs.declared.command.CrewLayout.{CrewLayout}
use Rattle.command_line.specs.declared.command.CrewLayout.TheVariants.{Table, Duties, Csv}
use Rattle.commands.specs.Verify.{SpellsRight}
use Rattle.commands.specs.Crew.{IsCalendarFor, IsCalendarOf, HasEmployee, IsCrewAnswer}
use Rattle.commands.specs.declared.crew.Answer.{Answer}
use Rattle.commands.specs.declared.crew.Answer.TheVariants.{Shown, NoEmployee, Fails}
use Rattle.commands.proofs.Rosters.{one_fault, right_or_fault}
use Rattle.crew_calendar.specs.OnDate.{IsOn}
use Rattle.crew_calendar.specs.Events.{HasNoDuty}
use Rattle.crew_calendar.proofs.OneDate.{one_on}
use Rattle.crew_calendar.proofs.OneEvents.{one_events, duty_or_none}
use Rattle.commands.specs.Ics.{SpellsRightWith, HasEvents, IsIcsAnswer}
use Rattle.commands.specs.On.{IsOnAnswer}
use Rattle.commands.specs.declared.ics.Answer.{Answer as Ics}
use Rattle.commands.specs.declared.ics.Answer.TheVariants as Icss
use Rattle.commands.specs.declared.on.Answer.{Answer as On}
use Rattle.commands.specs.declared.on.Answer.TheVariants as Ons

same_calendar : (layout : CrewLayout) (P : Instance) (s : List Symbol) (date : Date) (days : ℕ) (text other : List ℕ) → KeepsLimits P → IsCalendarFor layout P s date days text → IsCalendarFor layout P s date days other → text ≡ other
same_calendar Table P s date days text other limits h k = one_table P s date days text other h k
same_calendar (Duties e) P s date days text other limits h k = one_duties P s date days e text other limits h k
same_calendar Csv P s date days text other limits h k = one_sheet P s date days text other h k

one_calendar : (layout : CrewLayout) (P : Instance) (bytes : List ℕ) (date : Date) (days : ℕ) (text other : List ℕ) → KeepsLimits P → IsCalendarOf layout P bytes date days text → IsCalendarOf layout P bytes date days other → text ≡ other
one_calendar layout P bytes date days text other limits h k =
    let same : k.0 ≡ h.0 = one_roster P bytes k.0 h.0 k.1 h.1 in
    same_calendar layout P h.0 date days text other limits h.3 (subst (λ (s : List Symbol). IsCalendarFor layout P s date days other) same k.3)

employee_there : (P : Instance) (layout : CrewLayout) (e : ℕ) → HasEmployee P layout → layout ≡ Duties e → P.weeks < e → ⊥
employee_there P layout e here is past =
    let there : e ≤ P.weeks = subst (HasEmployee P) is here in
    omega (arith, there, past)

right : (layout : CrewLayout) (P : Instance) (bytes : List ℕ) (date : Date) (days : ℕ) (text : List ℕ) → IsCalendarOf layout P bytes date days text → SpellsRight P bytes
right layout P bytes date days text h = (h.0, h.1, h.2)

shown_alike : (text other : List ℕ) (d e : Date) → text ≡ other → d ≡ e → Shown text d ≡ Shown other e
shown_alike text other d e f g = cc

pub one_crew : (P : Instance) (bytes : List ℕ) (date : Date) (days : ℕ) (layout : CrewLayout) (a b : Answer) → KeepsLimits P → IsCrewAnswer P bytes date days layout a → IsCrewAnswer P bytes date days layout b → a ≡ b
one_crew P bytes date days layout (Shown text d) (Shown other e) limits h k =
    shown_alike text other d e (one_calendar layout P bytes date days text other limits h.2 k.2) (h.0 ∙ sym k.0)
one_crew P bytes date days layout (Shown text d) (NoEmployee e) limits h k = absurd (employee_there P layout e h.1 k.1 k.2)
one_crew P bytes date days layout (Shown text d) (Fails fault) limits h k = absurd (right_or_fault P bytes fault (right layout P bytes date days text h.2) k)
one_crew P bytes date days layout (NoEmployee e) (Shown text d) limits h k = absurd (employee_there P layout e k.1 h.1 h.2)
one_crew P bytes date days layout (NoEmployee e) (NoEmployee f) limits h k =
    let both : Duties e ≡ Duties f = sym h.1 ∙ k.1 in
    let same : e ≡ f = cc in
    ap NoEmployee same
one_crew P bytes date days layout (NoEmployee e) (Fails fault) limits h k = absurd (right_or_fault P bytes fault h.0 k)
one_crew P bytes date days layout (Fails fault) (Shown text d) limits h k = absurd (right_or_fault P bytes fault (right layout P bytes date days text k.2) h)
one_crew P bytes date days layout (Fails fault) (NoEmployee e) limits h k = absurd (right_or_fault P bytes fault k.0 h)
one_crew P bytes date days layout (Fails fault) (Fails other) limits h k = ap Fails (one_fault P bytes fault other h k)

-- what holds of the rosters that the same bytes spell
same_roster : (P : Instance) (bytes : List ℕ) (Q R : List Symbol → Type 0) → SpellsRightWith P bytes Q → SpellsRightWith P bytes R → (s : List Symbol) × Q s × R s
same_roster P bytes Q R h k =
    let same : k.0 ≡ h.0 = one_roster P bytes k.0 h.0 k.1 h.1 in
    (h.0, h.3, subst R same k.3)

right_with : (P : Instance) (bytes : List ℕ) (Q : List Symbol → Type 0) → SpellsRightWith P bytes Q → SpellsRight P bytes
right_with P bytes Q h = (h.0, h.1, h.2)

same_events : (P : Instance) (bytes : List ℕ) (date : Date) (days e : ℕ) (text other : List ℕ) → KeepsLimits P → SpellsRightWith P bytes (HasEvents P date days e text) → SpellsRightWith P bytes (HasEvents P date days e other) → text ≡ other
same_events P bytes date days e text other limits h k =
    let both = same_roster P bytes (HasEvents P date days e text) (HasEvents P date days e other) h k in
    one_events P both.0 date days e text other limits both.1.1 both.2.1

duty_and_none : (P : Instance) (bytes : List ℕ) (date : Date) (days e : ℕ) (text : List ℕ) → SpellsRightWith P bytes (HasEvents P date days e text) → SpellsRightWith P bytes (λ s. HasNoDuty P s days e) → ⊥
duty_and_none P bytes date days e text h k =
    let both = same_roster P bytes (HasEvents P date days e text) (λ s. HasNoDuty P s days e) h k in
    duty_or_none P both.0 days e both.1.0 both.2

events_alike : (text other : List ℕ) (c d : Date) → text ≡ other → c ≡ d → Icss.Shown text c ≡ Icss.Shown other d
events_alike text other c d e f = cc

pub one_ics : (P : Instance) (bytes : List ℕ) (date : Date) (days e : ℕ) (a b : Ics) → KeepsLimits P → IsIcsAnswer P bytes date days e a → IsIcsAnswer P bytes date days e b → a ≡ b
one_ics P bytes date days e (Icss.Shown text c) (Icss.Shown other d) limits h k =
    events_alike text other c d (same_events P bytes date days e text other limits h.2 k.2) (h.0 ∙ sym k.0)
one_ics P bytes date days e (Icss.Shown text d) Icss.NoDuty limits h k = absurd (duty_and_none P bytes date days e text h.2 k.1)
one_ics P bytes date days e (Icss.Shown text d) (Icss.NoEmployee n) limits h k = absurd (omega (arith, h.1, k.2))
one_ics P bytes date days e (Icss.Shown text d) (Icss.Fails fault) limits h k = absurd (right_or_fault P bytes fault (right_with P bytes (HasEvents P date days e text) h.2) k)
one_ics P bytes date days e Icss.NoDuty (Icss.Shown text d) limits h k = absurd (duty_and_none P bytes date days e text k.2 h.1)
one_ics P bytes date days e Icss.NoDuty Icss.NoDuty limits h k = refl
one_ics P bytes date days e Icss.NoDuty (Icss.NoEmployee n) limits h k = absurd (omega (arith, h.0, k.2))
one_ics P bytes date days e Icss.NoDuty (Icss.Fails fault) limits h k = absurd (right_or_fault P bytes fault (right_with P bytes (λ s. HasNoDuty P s days e) h.1) k)
one_ics P bytes date days e (Icss.NoEmployee n) (Icss.Shown text d) limits h k = absurd (omega (arith, k.1, h.2))
one_ics P bytes date days e (Icss.NoEmployee n) Icss.NoDuty limits h k = absurd (omega (arith, k.0, h.2))
one_ics P bytes date days e (Icss.NoEmployee n) (Icss.NoEmployee m) limits h k = ap Icss.NoEmployee (h.1 ∙ sym k.1)
one_ics P bytes date days e (Icss.NoEmployee n) (Icss.Fails fault) limits h k = absurd (right_or_fault P bytes fault h.0 k)
one_ics P bytes date days e (Icss.Fails fault) (Icss.Shown text d) limits h k = absurd (right_or_fault P bytes fault (right_with P bytes (HasEvents P date days e text) k.2) h)
one_ics P bytes date days e (Icss.Fails fault) Icss.NoDuty limits h k = absurd (right_or_fault P bytes fault (right_with P bytes (λ s. HasNoDuty P s days e) k.1) h)
one_ics P bytes date days e (Icss.Fails fault) (Icss.NoEmployee n) limits h k = absurd (right_or_fault P bytes fault k.0 h)
one_ics P bytes date days e (Icss.Fails fault) (Icss.Fails other) limits h k = ap Icss.Fails (one_fault P bytes fault other h k)

same_on : (P : Instance) (bytes : List ℕ) (start date : Date) (text other : List ℕ) → SpellsRightWith P bytes (λ s. IsOn P s start date text) → SpellsRightWith P bytes (λ s. IsOn P s start date other) → text ≡ other
same_on P bytes start date text other h k =
    let both = same_roster P bytes (λ s. IsOn P s start date text) (λ s. IsOn P s start date other) h k in
    one_on P both.0 start date text other both.1 both.2

pub one_on_date : (P : Instance) (bytes : List ℕ) (start date : Date) (a b : On) → IsOnAnswer P bytes start date a → IsOnAnswer P bytes start date b → a ≡ b
one_on_date P bytes start date (Ons.Shown text) (Ons.Shown other) h k = ap Ons.Shown (same_on P bytes start date text other h k)
one_on_date P bytes start date (Ons.Shown text) (Ons.Fails fault) h k = absurd (right_or_fault P bytes fault (right_with P bytes (λ s. IsOn P s start date text) h) k)
one_on_date P bytes start date (Ons.Fails fault) (Ons.Shown text) h k = absurd (right_or_fault P bytes fault (right_with P bytes (λ s. IsOn P s start date text) k) h)
one_on_date P bytes start date (Ons.Fails fault) (Ons.Fails other) h k = ap Ons.Fails (one_fault P bytes fault other h k)

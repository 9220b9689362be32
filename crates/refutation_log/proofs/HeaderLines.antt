-- Why a text is refused at its header.
use Rattle.std.proofs.Common.{◌≡◌, ℕ, List, ◌++◌, refl, ap, sym, ◌∙◌, subst, append_assoc, append-nil, Bool, true, false, Option, Some, None}
use Rattle.rwsp_text.specs.Lines.{IsNextLine}
use Rattle.rwsp_terms.specs.Instance.{Instance, name_of}
use Rattle.refutation_terms.specs.declared.lines.Version.{Version}
use Rattle.refutation_terms.specs.declared.lines.Version.TheVariants.{Version1, Version2, Version3, Free1, Free2, Fill1}
use Rattle.refutation_terms.specs.declared.lines.LogKind.{LogKind}
use Rattle.refutation_terms.specs.declared.lines.Opening.{Opening}
use Rattle.refutation_terms.specs.declared.lines.Opening.TheVariants.{Full, Turned, Given}
use Rattle.refutation_terms.specs.declared.lines.Turn.{Turn}
use Rattle.refutation_terms.specs.declared.lines.LogRefusal.{LogRefusal}
use Rattle.refutation_terms.specs.declared.lines.LogRefusal.TheVariants as Refusals
use Rattle.refutation_terms.specs.Ranges.{AreRules}
use Rattle.refutation_terms.specs.Log.{OpeningFits, GoalFits, CountsFit}
use Rattle.refutation_terms.specs.LogText.{version_of, version_text, rules_text, turn_text, third_text}
use Rattle.refutation_terms.specs.Verdict.{kind_of, kind_by, Front, Start, Versioned, BeforeTurn, BeforeGoal, BeforeCells, front_text, HasNoCause, IsWhole, VersionCause, RulesCause, GoalCause, CellsCause, TurnsTo}
use Rattle.refutation_terms.proofs.LineTables.{symbol_of-name}
use Rattle.refutation_terms.proofs.Fronts.{of_its_kind}
use Rattle.refutation_log.specs.Refusals.{SpellsVersion, SpellsOpening}
use Rattle.refutation_log.specs.ReadLog.{IsRead, ReadCause, HasLogsOf}
use Rattle.refutation_log.specs.Headers.{GoalIsInRange, BeginsWithHeader, IsHeaderRefused, StopsFor, version_counts, OpeningReadCause, StopsAtThird, HasOpening, IsThird}

-- a text that stops behind a front is refused, by reading and as the verdict is
stops : (P : Instance) (kind : LogKind) (front : Front) (text left : List ℕ) (why : LogRefusal) → IsRead P kind front → HasNoCause P kind front → (IsWhole front → ⊥) → text ≡ front_text P front ++ left → StopsFor (ReadCause P kind front) left why → IsHeaderRefused P kind text why
stops P kind front text left Refusals.Ends read none partial whole e =
    let all = whole ∙ ap (λ t. front_text P front ++ t) e ∙ append-nil (front_text P front) in
    (record { front = front; no_cause = read; whole = all; not_whole = partial }, record { front = front; no_cause = none; whole = all; not_whole = partial })
stops P kind front text left why read none partial whole s =
    let all = whole ∙ ap (λ t. front_text P front ++ t) s.2 ∙ sym (append_assoc (front_text P front) s.0 s.1) in (
      record { front = front; line = s.0; rest = s.1; no_cause = read; whole = all; is_line = s.3; cause = s.4 },
      record { front = front; line = s.0; rest = s.1; no_cause = none; whole = all; is_line = s.3; cause = s.4.0 },
    )

-- for one cause or for another
stops_along : (A B : List ℕ → LogRefusal → Type 0) → ((line : List ℕ) (why : LogRefusal) → A line why → B line why) → (left : List ℕ) (why : LogRefusal) → StopsFor A left why → StopsFor B left why
stops_along A B f left Refusals.Ends e = e
stops_along A B f left why s = (s.0, s.1, s.2, s.3, f s.0 why s.4)

-- line 1

pub version_unread : (kind : LogKind) (old line rest : List ℕ) → old ≡ line ++ rest → IsNextLine line rest → SpellsVersion kind line None → StopsFor (VersionCause kind) old (Refusals.Form 1)
version_unread kind old line rest e next h = (line, rest, e, next, (refl, h))

first_read : (P : Instance) (kind : LogKind) (line : List ℕ) (why : LogRefusal) → VersionCause kind line why → ReadCause P kind Start line why
first_read P kind line (Refusals.Form i) c = (c, tt)
first_read P kind line why c = absurd c

pub first_stops : (P : Instance) (kind : LogKind) (text left : List ℕ) (why : LogRefusal) → text ≡ left → StopsFor (VersionCause kind) left why → IsHeaderRefused P kind text why
first_stops P kind text left why e s = stops P kind Start text left why (tt, tt) (tt, tt) (λ h. h) e (stops_along (VersionCause kind) (ReadCause P kind Start) (first_read P kind) left why s)

-- line 2

rules_read : (P : Instance) (kind : LogKind) (v : Version) (line : List ℕ) (why : LogRefusal) → RulesCause P line why → ReadCause P kind (Versioned v) line why
rules_read P kind v line (Refusals.Form i) c = (c, tt)
rules_read P kind v line why c = absurd c

pub rules_stop : (P : Instance) (kind : LogKind) (v : Version) (text left : List ℕ) (why : LogRefusal) → kind_of v ≡ kind → text ≡ version_text v ++ left → StopsFor (RulesCause P) left why → IsHeaderRefused P kind text why
rules_stop P kind v text left why of e s =
    stops P kind (Versioned v) text left why (of, tt) (of, tt) (λ h. h) e (stops_along (RulesCause P) (ReadCause P kind (Versioned v)) (rules_read P kind v) left why s)

-- line 3

opening_read : (P : Instance) (kind : LogKind) (counts : Bool) (R line : List ℕ) (why : LogRefusal) → OpeningReadCause P counts line why → ReadCause P kind (BeforeTurn counts R) line why
opening_read P kind counts R line (Refusals.Form i) c = (c, tt)
opening_read P kind counts R line (Refusals.Name i) c = (c, tt)
opening_read P kind counts R line why c = absurd c

goal_read : (P : Instance) (kind : LogKind) (counts : Bool) (R line : List ℕ) (why : LogRefusal) → GoalCause P line why → ReadCause P kind (BeforeGoal counts R) line why
goal_read P kind counts R line (Refusals.Form i) c = (c, tt)
goal_read P kind counts R line why c = absurd c

cells_read : (P : Instance) (kind : LogKind) (R line : List ℕ) (why : LogRefusal) → CellsCause P line why → ReadCause P kind (BeforeCells R) line why
cells_read P kind R line (Refusals.Form i) c = (c, tt)
cells_read P kind R line (Refusals.Name i) c = (c, tt)
cells_read P kind R line why c = absurd c

-- the text in front of line 3
two_lines : (first R text one two : List ℕ) → text ≡ first ++ one → one ≡ rules_text R ++ two → text ≡ (first ++ rules_text R) ++ two
two_lines first R text one two e f = e ∙ ap (λ t. first ++ t) f ∙ sym (append_assoc first (rules_text R) two)

pub third_stops : (P : Instance) (kind : LogKind) (v : Version) (R text one two : List ℕ) (why : LogRefusal) → kind_of v ≡ kind → text ≡ version_text v ++ one → AreRules P R → one ≡ rules_text R ++ two → StopsAtThird P v two why → IsHeaderRefused P kind text why
third_stops P kind v R text one two why of e are f s = at v of (two_lines (version_text v) R text one two e f) s
  where
    behind : (F : Front) (C : List ℕ → LogRefusal → Type 0) → IsRead P kind F → HasNoCause P kind F → (IsWhole F → ⊥) → ((line : List ℕ) (why : LogRefusal) → C line why → ReadCause P kind F line why) → text ≡ front_text P F ++ two → StopsFor C two why → IsHeaderRefused P kind text why
    behind F C read none part along e s = stops P kind F text two why read none part e (stops_along C (ReadCause P kind F) along two why s)

    at : (v : Version) → kind_of v ≡ kind → text ≡ (version_text v ++ rules_text R) ++ two → StopsAtThird P v two why → IsHeaderRefused P kind text why
    at Version1 of e s = absurd s
    at Version2 of e s = behind (BeforeTurn false R) (OpeningReadCause P false) (of, are) (of, are) (λ h. h) (opening_read P kind false R) e s
    at Version3 of e s = behind (BeforeTurn true R) (OpeningReadCause P true) (of, are) (of, are) (λ h. h) (opening_read P kind true R) e s
    at Free1 of e s = behind (BeforeGoal false R) (GoalCause P) (of, are) (of, are) (λ h. h) (goal_read P kind false R) e s
    at Free2 of e s = behind (BeforeGoal true R) (GoalCause P) (of, are) (of, are) (λ h. h) (goal_read P kind true R) e s
    at Fill1 of e s = behind (BeforeCells R) (CellsCause P) (of, are) (of, are) (λ h. h) (cells_read P kind R) e s

turn_spelled : (P : Instance) (bytes old rest : List ℕ) (t : Turn) → old ≡ bytes ++ rest → TurnsTo P bytes t.day t.x → OpeningFits P (Turned t) × (old ≡ turn_text (name_of P t.x) t.day ++ rest)
turn_spelled P bytes old rest t e h =
    let n = symbol_of-name P h.0 t.x h.2 in
    ((h.1.1, n.0), e ∙ ap (λ b. b ++ rest) (h.1.2 ∙ ap (λ name. turn_text name t.day) (sym n.1)))

pub opening_spelled : (P : Instance) (counts : Bool) (bytes old rest : List ℕ) (o : Opening) → old ≡ bytes ++ rest → SpellsOpening P counts bytes o → HasOpening P counts o old rest
opening_spelled P true bytes old rest Full e h = record { of_version = refl; fits = tt; whole = e ∙ ap (λ b. b ++ rest) h }
opening_spelled P false bytes old rest Full e h = absurd h
opening_spelled P false bytes old rest (Turned t) e h =
    let s = turn_spelled P bytes old rest t e h in record { of_version = refl; fits = s.0; whole = s.1 }
opening_spelled P true bytes old rest (Turned t) e h =
    let s = turn_spelled P bytes old rest t e h in record { of_version = refl; fits = s.0; whole = s.1 }
opening_spelled P false bytes old rest (Given given) e h = absurd h
opening_spelled P true bytes old rest (Given given) e h = absurd h

-- the whole header

-- its version tells that it may count where it gives cells
counts_fit : (v : Version) (o : Opening) (goal : Option ℕ) → version_of o goal (version_counts v) ≡ v → CountsFit o (version_counts v)
counts_fit v Full goal e = tt
counts_fit v (Turned t) goal e = tt
counts_fit v (Given given) goal e = sym (ap version_counts e)

pub header_read : (P : Instance) (kind : LogKind) (v : Version) (R : List ℕ) (o : Opening) (goal : Option ℕ) (text one two three rest : List ℕ) → kind_of v ≡ kind → text ≡ version_text v ++ one → AreRules P R → one ≡ rules_text R ++ two → IsThird P v o goal two three → rest ≡ three → BeginsWithHeader P kind text R o goal (version_counts v) rest
header_read P kind v R o goal text one two three rest of e are f third h =
    let counts = version_counts v in
    let third_line = third_text P o goal counts in
    let front = version_text v ++ rules_text R in
    record {
      of_kind = sym (of_its_kind o goal counts) ∙ ap kind_of third.of_version ∙ of;
      rules = are;
      fits = third.fits;
      in_range = third.in_range;
      may_count = counts_fit v o goal third.of_version;
      whole =
          two_lines (version_text v) R text one two e f ∙ ap (λ z. front ++ z) (third.whole ∙ ap (λ z. third_line ++ z) (sym h))
          ∙ sym (append_assoc front third_line rest) ∙ ap (λ w. (version_text w ++ rules_text R ++ third_line) ++ rest) (sym third.of_version);
    }

-- where the problem has logs of the kind, the goal of a header fits
pub goal_fits : (P : Instance) (kind : LogKind) (o : Opening) (goal : Option ℕ) → HasLogsOf P kind → kind_by o goal ≡ kind → GoalIsInRange P o goal → GoalFits P o goal
goal_fits P kind o None has of h = tt
goal_fits P kind o (Some goal) has of h =
    let plain : kind_by Full (Some goal) ≡ kind = subst (λ q. kind_by q (Some goal) ≡ kind) h.0 of in
    (h.0, subst (HasLogsOf P) (sym plain) has, h.1)

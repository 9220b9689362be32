-- What is answered at a heading's place.
use Rattle.std.proofs.Common.{◌≡◌, ◌≢◌, ℕ, ◌+◌, ◌^◌, ◌<◌, ◌≤◌, List, [], ◌∷◌, ◌++◌, length, get_or, Option, Some, None, refl, ap, sym, ◌∙◌, subst, arith, inl, inr, length-append}
use Rattle.std.proofs.lemmas.List.{append-nil, append_assoc}
use Rattle.std.proofs.lemmas.Option.{slice_get-get_or}
use Rattle.rwsp_terms.specs.declared.limits.TheConstants.{LONGEST_FILE}
use Rattle.rwsp_terms.specs.declared.data.Symbol.{Symbol}
use Rattle.rwsp_terms.specs.Instance.{Instance}
use Rattle.rwsp_terms.specs.Roster.{MeetsAll}
use Rattle.roster_print.specs.RosterText.{SpellsRoster}
use Rattle.roster_print.specs.Refusal.{refusal_of_roster}
use Rattle.roster_print.specs.declared.refusal.RosterRefusal.{RosterRefusal}
use Rattle.roster_checker.specs.FirstBroken.{IsFirstBroken}
use Rattle.roster_checker.specs.declared.broken.Broken.{Broken}
use Rattle.refutation_terms.specs.declared.lines.LogRefusal.{LogRefusal}
use Rattle.refutation_terms.specs.Log.{Log}
use Rattle.rwsp_text.specs.Lines.{IsNextLine}
use Rattle.refutation_terms.specs.Verdict.{IsRefused, IsAccepted}
use Rattle.refutation_terms.specs.declared.lines.LogKind.TheVariants.{WithoutGoal}
use Rattle.crew_size.specs.Sizes.{with_weeks}
use Rattle.crew_size.specs.Texts.{refuted_line, roster_line, none_line, sections_text}
use Rattle.crew_size.specs.Sections.{ArePassing, StandsBehindLogs, AreUpToHeading, IsNextSize, IsLastSize, IsHeading, line_behind}
use Rattle.crew_size.specs.Verdict.{EndsWithRoster, EndsWithRight, EndsWithNone, HasNoHeadingAt, GoesOnAt, HasLongRosterAt, HasRefusedLog, HasRefusedRoster, HasBrokenRoster, EndsTooEarly}
use Rattle.crew_size.specs.Places.{Place, IsPlace, IsAt, AreSizes, IsNextOf, IsLastOf, MayFollow, IsHeadingNumber, heading_line, first_size}
use Rattle.crew_size.specs.declared.heading.Heading.{Heading}
use Rattle.crew_size.specs.declared.heading.Heading.TheVariants.{Refuted, Found, NoneTo}
use Rattle.crew_size.proofs.Fronts.{feeds, feeds_append, feeds_of_heading, size_is_short, none_passing, one_more_stands, line_behind_one_more, sizes_one_more, next_of, is_next, last_of, is_last, size_behind}

-- the start of a text

pub at_start : (P : Instance) (text : List ℕ) (place : Place) → place.sizes ≡ None → place.rest ≡ text → place.line ≡ 1 → IsPlace P text place
at_start P text place a b c = record {
  low = 0;
  logs = [];
  stands = record { passing = none_passing P 0; whole = sym b; place = tt };
  sizes = a;
  line = c;
}

-- the same with an equal rest
along : (P : Instance) (text : List ℕ) (low : ℕ) (logs : List Log) (rest other : List ℕ) → rest ≡ other → StandsBehindLogs P text low logs rest → StandsBehindLogs P text low logs other
along P text low logs rest other e h = subst (StandsBehindLogs P text low logs) e h

-- what is behind a line is shorter
pub shorter_behind : (whole line more : List ℕ) → line ≢ [] → whole ≡ line ++ more → length more < length whole
shorter_behind whole [] more some e = absurd (some refl)
shorter_behind whole (b ∷ line) more some e = omega (arith, ap length e, length-append line more)

pub ends_here : (P : Instance) (text : List ℕ) (place : Place) → IsPlace P text place → place.rest ≡ [] → EndsTooEarly P text
ends_here P text place h e = record {
  low = h.low;
  logs = h.logs;
  stands = along P text h.low h.logs place.rest [] e h.stands;
}

pub at_heading : (P : Instance) (text : List ℕ) (place : Place) (line bytes : List ℕ) → IsPlace P text place → place.rest ≡ line ++ bytes → IsAt P text place.sizes place.line line bytes
at_heading P text place line bytes h e = record {
  low = h.low;
  logs = h.logs;
  stands = along P text h.low h.logs place.rest (line ++ bytes) e h.stands;
  known = h.sizes;
  number = h.line;
}

-- a line that is no heading that may be there

pub last_is_written : (P : Instance) (low : ℕ) (logs : List Log) (last : ℕ) → ArePassing P low logs → IsLastSize low logs last → (1 ≤ last) × (last < 10 ^ 9)
last_is_written P low [] last are h = absurd (omega (arith, h.0))
last_is_written P low (g ∷ logs) last are h =
    let i : ℕ = length logs in
    let within : i < length (g ∷ logs) = omega arith in
    let size = are.sizes i (get_or (g ∷ logs) i g) (slice_get-get_or (g ∷ logs) i g within) in
    let same : last ≡ low + i = omega (arith, h.1) in
    (omega (arith, same, size.some), omega (arith, same, size.few))

no_heading_by : (P : Instance) (low : ℕ) (logs : List Log) (sizes : Option (ℕ × ℕ)) (line : List ℕ) → ArePassing P low logs → AreSizes low logs sizes → ((h : Heading) → IsHeadingNumber h → MayFollow P sizes h → line ≢ heading_line h) → IsHeading P low logs line → ⊥
no_heading_by P low logs sizes line are e none (inl (m, next, inl same)) =
    let size = size_behind P low logs m next in
    none (Refuted m) (size.some, size_is_short P m size) (is_next P low logs sizes m e next) same
no_heading_by P low logs sizes line are e none (inl (m, next, inr same)) =
    let size = size_behind P low logs m next in
    none (Found m) (size.some, size_is_short P m size) (is_next P low logs sizes m e next) same
no_heading_by P low logs sizes line are e none (inr (last, is, same)) =
    none (NoneTo last) (last_is_written P low logs last are is) (is_last low logs sizes last e is) same

pub no_heading_here : (P : Instance) (text : List ℕ) (place : Place) (line more : List ℕ) → IsPlace P text place → place.rest ≡ line ++ more → IsNextLine line more → ((h : Heading) → IsHeadingNumber h → MayFollow P place.sizes h → line ≢ heading_line h) → HasNoHeadingAt P text place.line
no_heading_here P text place line more h e next none = record {
  low = h.low;
  logs = h.logs;
  line = line;
  rest = more;
  stands = along P text h.low h.logs place.rest (line ++ more) e h.stands;
  is_line = next;
  no_heading = no_heading_by P h.low h.logs place.sizes line h.stands.passing h.sizes none;
  number = h.line;
}

-- the first size is known from the next one, where there is no section too
record IsSettled (P : Instance) (text : List ℕ) (low : ℕ) (logs : List Log) (m first : ℕ) (rest : List ℕ) : Type 0 where
  stands : StandsBehindLogs P text first logs rest
  size : m ≡ first + length logs
  next : IsNextSize P first logs m
  same : sections_text P low logs ≡ sections_text P first logs

settled : (P : Instance) (text : List ℕ) (sizes : Option (ℕ × ℕ)) (m low : ℕ) (logs : List Log) (rest : List ℕ) → AreSizes low logs sizes → IsNextOf P sizes m → StandsBehindLogs P text low logs rest → IsSettled P text low logs m (first_size sizes m) rest
settled P text sizes m low [] rest are next stands =
    subst (λ (s : Option (ℕ × ℕ)). IsSettled P text low [] m (first_size s m) rest) (sym are)
    (record {
      stands = record { passing = none_passing P m; whole = stands.whole; place = tt };
      size = omega arith;
      next = next_of P low [] sizes m are next;
      same = refl;
    })
settled P text sizes m low (h ∷ logs) rest are next stands =
    let is : IsNextSize P low (h ∷ logs) m = next_of P low (h ∷ logs) sizes m are next in
    subst (λ (s : Option (ℕ × ℕ)). IsSettled P text low (h ∷ logs) m (first_size s m) rest) (sym are) (record { stands = stands; size = is.1; next = is; same = refl })

-- the log of a section

pub log_passed : (P : Instance) (text : List ℕ) (sizes : Option (ℕ × ℕ)) (line m : ℕ) (bytes log rest : List ℕ) (place : Place) (g : Log) → IsAccepted (with_weeks P m) WithoutGoal log g → IsNextOf P sizes m → bytes ≡ log ++ rest → AreUpToHeading log rest → place.sizes ≡ Some (first_size sizes m, m + 1) → place.rest ≡ rest → place.line ≡ line + (1 + feeds log) → IsAt P text sizes line (refuted_line m) bytes → IsPlace P text place
log_passed P text sizes line m bytes log rest place g accepted next e cut a b c at =
    let first : ℕ = first_size sizes m in
    let settle = settled P text sizes m at.low at.logs (refuted_line m ++ bytes) at.known next at.stands in
    let size = size_behind P first at.logs m settle.next in
    let whole = settle.stands.whole ∙ ap (λ t. sections_text P first at.logs ++ (refuted_line m ++ t)) e in
    record {
      low = first;
      logs = at.logs ++ g ∷ [];
      stands = subst (StandsBehindLogs P text first (at.logs ++ g ∷ [])) (sym b) (one_more_stands P text first m at.logs g log rest settle.stands.passing settle.size size accepted.is_text accepted.of_kind accepted.passes whole cut);
      sizes = subst (AreSizes first (at.logs ++ g ∷ [])) (sym a) (sizes_one_more first m at.logs g settle.size);
      line =
          c ∙ ap (λ n. n + (1 + feeds log)) (at.number ∙ ap line_behind settle.same)
          ∙ sym (line_behind_one_more P first m at.logs g log settle.size size accepted.is_text);
    }

pub log_refused : (P : Instance) (text : List ℕ) (sizes : Option (ℕ × ℕ)) (line m : ℕ) (bytes log rest : List ℕ) (why : LogRefusal) → IsRefused (with_weeks P m) WithoutGoal log why → IsNextOf P sizes m → bytes ≡ log ++ rest → AreUpToHeading log rest → IsAt P text sizes line (refuted_line m) bytes → HasRefusedLog P text m why
log_refused P text sizes line m bytes log rest why refused next e cut at = record {
  low = at.low;
  logs = at.logs;
  bytes = log;
  rest = rest;
  stands = along P text at.low at.logs (refuted_line m ++ bytes) (refuted_line m ++ log ++ rest) (ap (λ t. refuted_line m ++ t) e ∙ sym (append_assoc (refuted_line m) log rest)) at.stands;
  next = next_of P at.low at.logs sizes m at.known next;
  log = cut;
  refused = refused;
}

-- the roster at the end

pub long_roster : (P : Instance) (text : List ℕ) (sizes : Option (ℕ × ℕ)) (line m : ℕ) (bytes : List ℕ) → LONGEST_FILE < length bytes → IsNextOf P sizes m → IsAt P text sizes line (roster_line m) bytes → HasLongRosterAt P text line
long_roster P text sizes line m bytes long next at = record {
  low = at.low;
  logs = at.logs;
  m = m;
  bytes = bytes;
  stands = at.stands;
  next = next_of P at.low at.logs sizes m at.known next;
  long = long;
  number = at.number;
}

ends_with : (P : Instance) (text : List ℕ) (sizes : Option (ℕ × ℕ)) (line m : ℕ) (bytes : List ℕ) → length bytes ≤ LONGEST_FILE → IsNextOf P sizes m → (at : IsAt P text sizes line (roster_line m) bytes) → EndsWithRoster P text at.low at.logs m bytes
ends_with P text sizes line m bytes short next at = record {
  stands = at.stands;
  next = next_of P at.low at.logs sizes m at.known next;
  short = short;
}

pub roster_refused : (P : Instance) (text : List ℕ) (sizes : Option (ℕ × ℕ)) (line m : ℕ) (bytes : List ℕ) (why : RosterRefusal) → length bytes ≤ LONGEST_FILE → IsNextOf P sizes m → refusal_of_roster (with_weeks P m) bytes ≡ Some why → IsAt P text sizes line (roster_line m) bytes → HasRefusedRoster P text m why
roster_refused P text sizes line m bytes why short next refused at = record {
  low = at.low;
  logs = at.logs;
  bytes = bytes;
  ends = ends_with P text sizes line m bytes short next at;
  refused = refused;
}

pub roster_broken : (P : Instance) (text : List ℕ) (sizes : Option (ℕ × ℕ)) (line m : ℕ) (bytes : List ℕ) (cells : List Symbol) (broken : Broken) → length bytes ≤ LONGEST_FILE → IsNextOf P sizes m → SpellsRoster (with_weeks P m) bytes cells → IsFirstBroken (with_weeks P m) cells broken → IsAt P text sizes line (roster_line m) bytes → HasBrokenRoster P text m broken
roster_broken P text sizes line m bytes cells broken short next spelled breaks at = record {
  low = at.low;
  logs = at.logs;
  bytes = bytes;
  cells = cells;
  ends = ends_with P text sizes line m bytes short next at;
  spelled = spelled;
  breaks = breaks;
}

pub roster_right : (P : Instance) (text : List ℕ) (sizes : Option (ℕ × ℕ)) (line m : ℕ) (bytes : List ℕ) (cells : List Symbol) → length bytes ≤ LONGEST_FILE → IsNextOf P sizes m → SpellsRoster (with_weeks P m) bytes cells → MeetsAll (with_weeks P m) cells → IsAt P text sizes line (roster_line m) bytes → EndsWithRight P text (first_size sizes m) m
roster_right P text sizes line m bytes cells short next spelled meets at =
    let settle = settled P text sizes m at.low at.logs (roster_line m ++ bytes) at.known next at.stands in
    record {
      logs = at.logs;
      bytes = bytes;
      size = settle.size;
      ends = record { stands = settle.stands; next = settle.next; short = short };
      right = (cells, spelled, meets);
    }

-- an end without a roster

pub goes_on : (P : Instance) (text : List ℕ) (sizes : Option (ℕ × ℕ)) (line last : ℕ) (bytes : List ℕ) → bytes ≢ [] → IsLastOf sizes last → IsAt P text sizes line (none_line last) bytes → GoesOnAt P text (line + 1)
goes_on P text sizes line last bytes more is at =
    let last_is = last_of at.low at.logs sizes last at.known is in
    let written = last_is_written P at.low at.logs last at.stands.passing last_is in
    let one : feeds (none_line last) ≡ 1 = feeds_of_heading (NoneTo last) written in
    let all = feeds_append (sections_text P at.low at.logs) (none_line last) in
    let number : line ≡ feeds (sections_text P at.low at.logs) + 1 = at.number in
    record {
      low = at.low;
      logs = at.logs;
      last = last;
      rest = bytes;
      last_size = last_is;
      stands = at.stands;
      more = more;
      number = omega (arith, one, all, number);
    }

none_by : (P : Instance) (text : List ℕ) (sizes : Option (ℕ × ℕ)) (last : ℕ) (low : ℕ) (logs : List Log) → IsLastSize low logs last → StandsBehindLogs P text low logs (none_line last) → AreSizes low logs sizes → EndsWithNone P text (first_size sizes last) last
none_by P text sizes last low [] is stands are = absurd (omega (arith, is.0))
none_by P text sizes last low (h ∷ logs) is stands are =
    subst (λ (s : Option (ℕ × ℕ)). EndsWithNone P text (first_size s last) last) (sym are)
    (record { logs = h ∷ logs; last_size = is; stands = stands })

pub none_right : (P : Instance) (text : List ℕ) (sizes : Option (ℕ × ℕ)) (line last : ℕ) (bytes : List ℕ) → bytes ≡ [] → IsLastOf sizes last → IsAt P text sizes line (none_line last) bytes → EndsWithNone P text (first_size sizes last) last
none_right P text sizes line last bytes none is at =
    none_by P text sizes last at.low at.logs (last_of at.low at.logs sizes last at.known is)
    (along P text at.low at.logs (none_line last ++ bytes) (none_line last) (ap (λ t. none_line last ++ t) none ∙ append-nil (none_line last)) at.stands) at.known

-- A staff text has one verdict at most.
use Rattle.std.proofs.Common.{◌≡◌, ℕ, suc, ◌+◌, ◌^◌, ◌<◌, ◌≤◌, List, [], ◌∷◌, ◌++◌, length, Option, Some, None, refl, ap, sym, ◌∙◌, subst, arith, inl, inr}
use Rattle.std.specs.Prelude.{◌⊎◌, codes, Result, Ok, Err}
use Rattle.std.specs.Fmt.{decimal}
use Rattle.std.proofs.lemmas.List.{append-nil, append_assoc}
use Rattle.rwsp_terms.specs.Instance.{Instance}
use Rattle.rwsp_model.specs.Validity.{KeepsLimits}
use Rattle.refutation_terms.specs.Log.{Log, Passes}
use Rattle.refutation_terms.specs.LogText.{log_text}
use Rattle.refutation_terms.specs.declared.lines.LogKind.TheVariants.{WithoutGoal}
use Rattle.refutation_terms.specs.Verdict.{kind_of_log}
use Rattle.crew_size.specs.Sizes.{with_weeks, IsSize}
use Rattle.crew_size.specs.Texts.{refuted_line, roster_line, none_line, section_text, sections_text}
use Rattle.crew_size.specs.Sections.{BeginsAsHeading, AreUpToHeading, ArePassing, StandsBehindLogs, IsHeadingsPlace, IsNextSize, IsLastSize, IsHeading, line_behind}
use Rattle.crew_size.specs.Verdict.{IsStaffVerdict}
use Rattle.crew_size.specs.Places.{AreSizes, IsNextOf, MayFollow, IsHeadingNumber, heading_number, heading_line, first_size}
use Rattle.crew_size.specs.Laws.{StaffTextsHaveOneVerdict}
use Rattle.crew_size.specs.declared.heading.Heading.{Heading}
use Rattle.crew_size.specs.declared.heading.Heading.TheVariants.{Refuted, Found, NoneTo}
use Rattle.crew_size.specs.declared.verdict.Staffed.{Staffed}
use Rattle.crew_size.specs.declared.verdict.Staffed.TheVariants as Sizes
use Rattle.crew_size.specs.declared.verdict.StaffRefusal.{StaffRefusal}
use Rattle.crew_size.specs.declared.verdict.StaffRefusal.TheVariants as Refusals
use Rattle.crew_size.proofs.Cuts.{cut_once}
use Rattle.crew_size.proofs.Fronts.{feeds, feeds_append, feeds_of_heading, size_is_short, next_of, is_next, last_of, is_last, size_behind}
use Rattle.crew_size.proofs.Verdicts.{last_is_written}
use Rattle.crew_size.proofs.Decided.{sized_keeps}
use Rattle.crew_size.proofs.LogCuts.{logs_are_cut_whole}
use Rattle.crew_size.proofs.Heads.{Outcome, refused, OfLog, OfRoster, OfEnd, OfHeading, OfRest, rest_once}
use Rattle.crew_size.proofs.Headings.{heading_is_line, headings_once}

-- the sizes of sections
abbrev sizes_of : ℕ → List Log → Option (ℕ × ℕ)
sizes_of low [] = None
sizes_of low (g ∷ logs) = Some (low, low + length (g ∷ logs))

are_sizes : (low : ℕ) (logs : List Log) → AreSizes low logs (sizes_of low logs)
are_sizes low [] = refl
are_sizes low (g ∷ logs) = refl

abbrev line_of : Instance → ℕ → List Log → ℕ
line_of P low logs = line_behind (sections_text P low logs)

-- behind these sections of a text this is said of what is left
record IsSaid (P : Instance) (text : List ℕ) (o : Outcome) : Type 0 where
  low : ℕ
  logs : List Log
  rest : List ℕ
  stands : StandsBehindLogs P text low logs rest
  said : OfRest P (sizes_of low logs) (line_of P low logs) rest o

stands_as : (P : Instance) (low : ℕ) (logs : List Log) (h : Heading) (line : List ℕ) → MayFollow P (sizes_of low logs) h → line ≡ heading_line h → IsHeading P low logs line
stands_as P low logs (Refuted m) line may e = inl (m, next_of P low logs (sizes_of low logs) m (are_sizes low logs) may, inl e)
stands_as P low logs (Found m) line may e = inl (m, next_of P low logs (sizes_of low logs) m (are_sizes low logs) may, inr e)
stands_as P low logs (NoneTo m) line may e = inr (m, last_of low logs (sizes_of low logs) m (are_sizes low logs) may, e)

next_is : (P : Instance) (low : ℕ) (logs : List Log) (m : ℕ) → IsNextSize P low logs m → IsNextOf P (sizes_of low logs) m
next_is P low logs m next = is_next P low logs (sizes_of low logs) m (are_sizes low logs) next

written_next : (P : Instance) (low : ℕ) (logs : List Log) (m : ℕ) → IsNextSize P low logs m → (1 ≤ m) × (m < 10 ^ 9)
written_next P low logs m next = let size = size_behind P low logs m next in (size.some, size_is_short P m size)

first_of_least : (P : Instance) (low m : ℕ) (logs : List Log) → m ≡ low + length logs → low ≡ first_size (sizes_of low logs) m
first_of_least P low m [] e = omega (arith, e)
first_of_least P low m (g ∷ logs) e = refl

first_of_none : (low last : ℕ) (logs : List Log) → IsLastSize low logs last → low ≡ first_size (sizes_of low logs) last
first_of_none low last [] h = absurd (omega (arith, h.0))
first_of_none low last (g ∷ logs) h = refl

-- what is said of a heading is said of the text
heading_said : (P : Instance) (text : List ℕ) (low : ℕ) (logs : List Log) (h : Heading) (rest bytes : List ℕ) (o : Outcome) → StandsBehindLogs P text low logs rest → rest ≡ heading_line h ++ bytes → IsHeadingNumber h → MayFollow P (sizes_of low logs) h → OfHeading P (sizes_of low logs) (line_of P low logs) h bytes o → IsSaid P text o
heading_said P text low logs h rest bytes o stands e w may of = record {
  low = low;
  logs = logs;
  rest = rest;
  stands = stands;
  said = inr (heading_line h, bytes, e, heading_is_line h bytes w, inr (h, refl, w, may, of));
}

found_said : (P : Instance) (text : List ℕ) (low : ℕ) (logs : List Log) (m : ℕ) (bytes : List ℕ) (o : Outcome) → StandsBehindLogs P text low logs (roster_line m ++ bytes) → IsNextSize P low logs m → OfRoster P (first_size (sizes_of low logs) m) m (line_of P low logs) bytes o → IsSaid P text o
found_said P text low logs m bytes o stands next of =
    heading_said P text low logs (Found m) (roster_line m ++ bytes) bytes o stands refl (written_next P low logs m next) (next_is P low logs m next) of

none_said : (P : Instance) (text : List ℕ) (low : ℕ) (logs : List Log) (last : ℕ) (rest bytes : List ℕ) (o : Outcome) → StandsBehindLogs P text low logs rest → rest ≡ none_line last ++ bytes → IsLastSize low logs last → OfEnd (first_size (sizes_of low logs) last) last (line_of P low logs) bytes o → IsSaid P text o
none_said P text low logs last rest bytes o stands e is of =
    heading_said P text low logs (NoneTo last) rest bytes o stands e (last_is_written P low logs last stands.passing is) (is_last low logs (sizes_of low logs) last (are_sizes low logs) is) of

accepted_said : (P : Instance) (text : List ℕ) (staffed : Staffed) → IsStaffVerdict P text (Ok staffed) → IsSaid P text (Some (Ok staffed))
accepted_said P text (Sizes.Least low m) h =
    found_said P text low h.logs m h.bytes (Some (Ok (Sizes.Least low m))) h.ends.stands h.ends.next
    (inr (h.ends.short, inr (h.right.0, h.right.1, inr (h.right.2, ap (λ (n : ℕ). Some (Ok (Sizes.Least n m))) (first_of_least P low m h.logs h.size)))))
accepted_said P text (Sizes.NoneTo low last) h =
    none_said P text low h.logs last (none_line last) [] (Some (Ok (Sizes.NoneTo low last))) h.stands (sym (append-nil (none_line last))) h.last_size
    (inl (refl, ap (λ (n : ℕ). Some (Ok (Sizes.NoneTo n last))) (first_of_none low last h.logs h.last_size)))

refused_said : (P : Instance) (text : List ℕ) (why : StaffRefusal) → IsStaffVerdict P text (Err why) → IsSaid P text (refused why)
refused_said P text (Refusals.Form n) (inl h) = record {
  low = h.low;
  logs = h.logs;
  rest = h.line ++ h.rest;
  stands = h.stands;
  said = inr (h.line, h.rest, refl, h.is_line, inl (λ k w may e. h.no_heading (stands_as P h.low h.logs k h.line may e), ap (λ (i : ℕ). refused (Refusals.Form i)) h.number));
}
refused_said P text (Refusals.Form n) (inr (inl h)) =
    let one = feeds_of_heading (NoneTo h.last) (last_is_written P h.low h.logs h.last h.stands.passing h.last_size) in
    let all = feeds_append (sections_text P h.low h.logs) (none_line h.last) in
    let number : n ≡ line_of P h.low h.logs + 1 = omega (arith, one, all, h.number) in
    none_said P text h.low h.logs h.last (none_line h.last ++ h.rest) h.rest (refused (Refusals.Form n)) h.stands refl h.last_size (inr (h.more, ap (λ (i : ℕ). refused (Refusals.Form i)) number))
refused_said P text (Refusals.Form n) (inr (inr h)) =
    found_said P text h.low h.logs h.m h.bytes (refused (Refusals.Form n)) h.stands h.next (inl (h.long, ap (λ (i : ℕ). refused (Refusals.Form i)) h.number))
refused_said P text (Refusals.Log m why) h =
    heading_said P text h.low h.logs (Refuted m) (refuted_line m ++ h.bytes ++ h.rest) (h.bytes ++ h.rest) (refused (Refusals.Log m why)) h.stands (append_assoc (refuted_line m) h.bytes h.rest) (written_next P h.low h.logs m h.next) (next_is P h.low h.logs m h.next)
    (record { log = h.bytes; rest = h.rest; whole = refl; cut = h.log; verdict = Err why; said = h.refused; outcome = refl })
refused_said P text (Refusals.Roster m why) h =
    found_said P text h.low h.logs m h.bytes (refused (Refusals.Roster m why)) h.ends.stands h.ends.next (inr (h.ends.short, inl (why, h.refused, refl)))
refused_said P text (Refusals.Breaks m broken) h =
    found_said P text h.low h.logs m h.bytes (refused (Refusals.Breaks m broken)) h.ends.stands h.ends.next (inr (h.ends.short, inr (h.cells, h.spelled, inl (broken, h.breaks, refl))))
refused_said P text Refusals.Ends h = record { low = h.low; logs = h.logs; rest = []; stands = h.stands; said = inl (refl, refl) }

-- the text goes on with a section of size m behind sections of these sizes
record Follows (P : Instance) (sizes : Option (ℕ × ℕ)) (m : ℕ) (log : Log) (text behind : List ℕ) : Type 0 where
  next : IsNextOf P sizes m
  size : IsSize P m
  plain : kind_of_log log ≡ WithoutGoal
  passes : Passes (with_weeks P m) log
  whole : text ≡ refuted_line m ++ (log_text (with_weeks P m) log ++ behind)
  place : (behind ≡ []) ⊎ BeginsAsHeading behind

log_cut : (P : Instance) (m : ℕ) (g : Log) (rest : List ℕ) → KeepsLimits P → IsSize P m → Passes (with_weeks P m) g → (rest ≡ []) ⊎ BeginsAsHeading rest → AreUpToHeading (log_text (with_weeks P m) g) rest
log_cut P m g rest limits size passes place = logs_are_cut_whole (with_weeks P m) g rest (sized_keeps P m limits size) passes.grounded.fits place

-- where one follows nothing else is said
follows_said : (P : Instance) (sizes : Option (ℕ × ℕ)) (m n : ℕ) (log : Log) (text behind : List ℕ) → KeepsLimits P → Follows P sizes m log text behind → OfRest P sizes n text None
follows_said P sizes m n log text behind limits f =
    let bytes : List ℕ = log_text (with_weeks P m) log in
    let w : IsHeadingNumber (Refuted m) = (f.size.some, size_is_short P m f.size) in
    let of : OfLog P m (bytes ++ behind) None = record { log = bytes; rest = behind; whole = refl; cut = log_cut P m log behind limits f.size f.passes f.place; verdict = Ok log; said = record { of_kind = f.plain; is_text = refl; passes = f.passes }; outcome = refl } in
    inr (refuted_line m, bytes ++ behind, f.whole, heading_is_line (Refuted m) (bytes ++ behind) w, inr (Refuted m, refl, w, f.next, of))

tail_passing : (P : Instance) (low : ℕ) (g : Log) (logs : List Log) → ArePassing P low (g ∷ logs) → ArePassing P (low + 1) logs
tail_passing P low g logs are = record {
  sizes = λ k h at. let same : low + suc k ≡ low + 1 + k = omega arith in subst (IsSize P) same (are.sizes (suc k) h at);
  plain = λ k h at. are.plain (suc k) h at;
  passes = λ k h at. let same : low + suc k ≡ low + 1 + k = omega arith in subst (λ n. Passes (with_weeks P n) h) same (are.passes (suc k) h at);
}

tail_place : (g : Log) (logs : List Log) (rest : List ℕ) → IsHeadingsPlace (g ∷ logs) rest → IsHeadingsPlace logs rest
tail_place g [] rest h = tt
tail_place g (h ∷ logs) rest place = place

-- what is behind the first section begins as a heading does
rest_place : (P : Instance) (m : ℕ) (g : Log) (logs : List Log) (rest : List ℕ) → IsHeadingsPlace (g ∷ logs) rest → (sections_text P m logs ++ rest ≡ []) ⊎ BeginsAsHeading (sections_text P m logs ++ rest)
rest_place P m g [] rest h = h
rest_place P m g (h ∷ logs) rest place =
    inr (inl ((((decimal m ++ (codes " none" ++ 10 ∷ [])) ++ log_text (with_weeks P m) h) ++ sections_text P (m + 1) logs) ++ rest, refl))

first_log : (P : Instance) (low : ℕ) (g : Log) (logs : List Log) → ArePassing P low (g ∷ logs) → IsSize P low × Passes (with_weeks P low) g
first_log P low g logs are =
    let same : low + 0 ≡ low = omega arith in
    (subst (IsSize P) same (are.sizes 0 g refl), subst (λ n. Passes (with_weeks P n) g) same (are.passes 0 g refl))

first_section : (P : Instance) (m : ℕ) (g : Log) (logs : List Log) (rest : List ℕ) → sections_text P m (g ∷ logs) ++ rest ≡ refuted_line m ++ (log_text (with_weeks P m) g ++ (sections_text P (m + 1) logs ++ rest))
first_section P m g logs rest =
    append_assoc (section_text P m g) (sections_text P (m + 1) logs) rest
    ∙ append_assoc (refuted_line m) (log_text (with_weeks P m) g) (sections_text P (m + 1) logs ++ rest)

follows_first : (P : Instance) (sizes : Option (ℕ × ℕ)) (m : ℕ) (g : Log) (logs : List Log) (rest text : List ℕ) → IsNextOf P sizes m → ArePassing P m (g ∷ logs) → IsHeadingsPlace (g ∷ logs) rest → text ≡ sections_text P m (g ∷ logs) ++ rest → Follows P sizes m g text (sections_text P (m + 1) logs ++ rest)
follows_first P sizes m g logs rest text next are place e =
    let first = first_log P m g logs are in
    record { next = next; size = first.0; plain = are.plain 0 g refl; passes = first.1; whole = e ∙ first_section P m g logs rest; place = rest_place P (m + 1) g logs rest place }

-- from line n on, behind sections of these sizes, the text has sections of these logs, and then this verdict
abbrev Says : Instance → Option (ℕ × ℕ) → ℕ → List ℕ → List Log → Result Staffed StaffRefusal → Type 0
Says P sizes n text [] v = OfRest P sizes n text (Some v)
Says P sizes n text (g ∷ logs) v =
    (m : ℕ) × (behind : List ℕ) × Follows P sizes m g text behind
    × Says P (Some (first_size sizes m, m + 1)) (n + (1 + feeds (log_text (with_weeks P m) g))) behind logs v

some_or_none : (v : Result Staffed StaffRefusal) → Some v ≡ None → ⊥
some_or_none v e = cc

some_once : (v w : Result Staffed StaffRefusal) → Some v ≡ Some w → v ≡ w
some_once v w e = cc

says_once : (P : Instance) (sizes : Option (ℕ × ℕ)) (n : ℕ) (text : List ℕ) (logs others : List Log) (v w : Result Staffed StaffRefusal) → KeepsLimits P → Says P sizes n text logs v → Says P sizes n text others w → v ≡ w
says_once P sizes n text [] [] v w limits a b = some_once v w (rest_once P sizes n text (Some v) (Some w) limits a b)
says_once P sizes n text [] (h ∷ others) v w limits a b = absurd (some_or_none v (rest_once P sizes n text (Some v) None limits a (follows_said P sizes b.0 n h text b.1 limits b.2)))
says_once P sizes n text (g ∷ logs) [] v w limits a b = absurd (some_or_none w (rest_once P sizes n text (Some w) None limits b (follows_said P sizes a.0 n g text a.1 limits a.2)))
says_once P sizes n text (g ∷ logs) (h ∷ others) v w limits (m, rest, f, more) (k, other, f', more') =
    let log : List ℕ = log_text (with_weeks P m) g in
    let log' : List ℕ = log_text (with_weeks P k) h in
    let one = headings_once (Refuted m) (Refuted k) (log ++ rest) (log' ++ other) (f.size.some, size_is_short P m f.size) (f'.size.some, size_is_short P k f'.size) (sym f.whole ∙ f'.whole) in
    let same : m ≡ k = ap heading_number one.0 in
    let cut = cut_once log log' rest other (log_cut P m g rest limits f.size f.passes f.place) (log_cut P k h other limits f'.size f'.passes f'.place) one.1 in
    says_once P (Some (first_size sizes m, m + 1)) (n + (1 + feeds log)) rest logs others v w limits more
    (subst (λ (i : ℕ). Says P (Some (first_size sizes i, i + 1)) (n + (1 + feeds log)) rest others w) (sym same)
    (subst (λ (t : List ℕ). Says P (Some (first_size sizes k, k + 1)) (n + (1 + feeds t)) rest others w) (sym cut.0)
    (subst (λ (t : List ℕ). Says P (Some (first_size sizes k, k + 1)) (n + (1 + feeds log')) t others w) (sym cut.1) more')))

-- a verdict is what a text says

feeds_of_section : (P : Instance) (m : ℕ) (g : Log) (logs : List Log) → IsSize P m → feeds (sections_text P m (g ∷ logs)) ≡ 1 + feeds (log_text (with_weeks P m) g) + feeds (sections_text P (m + 1) logs)
feeds_of_section P m g logs size =
    let line = feeds_of_heading (Refuted m) (size.some, size_is_short P m size) in
    omega (arith, line, feeds_append (section_text P m g) (sections_text P (m + 1) logs), feeds_append (refuted_line m) (log_text (with_weeks P m) g))

said_at : (P : Instance) (sizes other : ℕ × ℕ) (n k : ℕ) (text rest : List ℕ) (v : Result Staffed StaffRefusal) → sizes.0 ≡ other.0 → sizes.1 ≡ other.1 → n ≡ k → text ≡ rest → OfRest P (Some sizes) n text (Some v) → OfRest P (Some other) k rest (Some v)
said_at P (a, b) other n k text rest v e f g h said =
    subst (λ (i : ℕ). OfRest P (Some (i, other.1)) k rest (Some v)) e
    (subst (λ (i : ℕ). OfRest P (Some (a, i)) k rest (Some v)) f
    (subst (λ i. OfRest P (Some (a, b)) i rest (Some v)) g (subst (λ (t : List ℕ). OfRest P (Some (a, b)) n t (Some v)) h said)))

says_more : (P : Instance) (first m n : ℕ) (text : List ℕ) (logs : List Log) (rest : List ℕ) (v : Result Staffed StaffRefusal) → ArePassing P m logs → IsHeadingsPlace logs rest → text ≡ sections_text P m logs ++ rest → OfRest P (Some (first, m + length logs)) (n + feeds (sections_text P m logs)) rest (Some v) → Says P (Some (first, m)) n text logs v
says_more P first m n text [] rest v are place e said = said_at P (first, m + 0) (first, m) (n + 0) n rest text v refl (omega arith) (omega arith) (sym e) said
says_more P first m n text (g ∷ logs) rest v are place e said =
    let behind : List ℕ = sections_text P (m + 1) logs ++ rest in
    let log : List ℕ = log_text (with_weeks P m) g in
    let size = (first_log P m g logs are).0 in
    let lines = feeds_of_section P m g logs size in (
      m,
      behind,
      follows_first P (Some (first, m)) m g logs rest text (size, refl) are place e,
      says_more P first (m + 1) (n + (1 + feeds log)) behind logs rest v (tail_passing P m g logs are) (tail_place g logs rest place) refl
          (said_at P (first, m + length (g ∷ logs)) (first, m + 1 + length logs) (n + feeds (sections_text P m (g ∷ logs))) (n + (1 + feeds log) + feeds (sections_text P (m + 1) logs)) rest rest v refl (omega arith) (omega (arith, lines)) refl said),
    )

says : (P : Instance) (text : List ℕ) (low : ℕ) (logs : List Log) (rest : List ℕ) (v : Result Staffed StaffRefusal) → StandsBehindLogs P text low logs rest → OfRest P (sizes_of low logs) (line_of P low logs) rest (Some v) → Says P None 1 text logs v
says P text low [] rest v stands said = subst (λ (t : List ℕ). OfRest P None 1 t (Some v)) (sym stands.whole) said
says P text low (g ∷ logs) rest v stands said =
    let behind : List ℕ = sections_text P (low + 1) logs ++ rest in
    let log : List ℕ = log_text (with_weeks P low) g in
    let size = (first_log P low g logs stands.passing).0 in
    let lines = feeds_of_section P low g logs size in (
      low,
      behind,
      follows_first P None low g logs rest text size stands.passing stands.place stands.whole,
      says_more P low (low + 1) (1 + (1 + feeds log)) behind logs rest v (tail_passing P low g logs stands.passing) (tail_place g logs rest stands.place) refl
          (said_at P (low, low + length (g ∷ logs)) (low, low + 1 + length logs) (line_of P low (g ∷ logs)) (1 + (1 + feeds log) + feeds (sections_text P (low + 1) logs)) rest rest v refl (omega arith) (omega (arith, lines)) refl said),
    )

is_said : (P : Instance) (text : List ℕ) (v : Result Staffed StaffRefusal) → IsStaffVerdict P text v → IsSaid P text (Some v)
is_said P text (Ok staffed) h = accepted_said P text staffed h
is_said P text (Err why) h = refused_said P text why h

pub one_verdict : StaffTextsHaveOneVerdict
one_verdict P text v w limits h k =
    let a = is_said P text v h in
    let b = is_said P text w k in
    says_once P None 1 text a.logs b.logs v w limits (says P text a.low a.logs a.rest v a.stands a.said) (says P text b.low b.logs b.rest w b.stands b.said)

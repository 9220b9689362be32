-- Where the text of a run that ends with a roster goes on behind a section.
use Rattle.std.proofs.Common.{◌≡◌, ◌≢◌, ℕ, ◌+◌, List, [], ◌∷◌, ◌++◌, length, Option, Some, None, inl, inr, refl, ap, sym, subst, ◌∙◌, arith, append_assoc}
use Rattle.std.specs.Prelude.{◌⊎◌, codes, Result, Ok, Err, IfOk, MatchOption}
use Rattle.std.specs.Fmt.{decimal}
use Rattle.rwsp_terms.specs.declared.data.Symbol.{Symbol}
use Rattle.rwsp_terms.specs.Instance.{Instance}
use Rattle.rwsp_text.specs.Lines.{IsNextLine}
use Rattle.rwsp_text.proofs.LineLaws.{next_same}
use Rattle.rwsp_model.specs.Validity.{KeepsLimits}
use Rattle.roster_print.specs.RosterText.{SpellsRoster}
use Rattle.roster_print.proofs.Spelling.{one_roster}
use Rattle.refutation_terms.specs.declared.lines.LogKind.{LogKind}
use Rattle.refutation_terms.specs.declared.lines.LogKind.TheVariants.{WithoutGoal}
use Rattle.refutation_terms.specs.declared.lines.LogRefusal.{LogRefusal}
use Rattle.refutation_terms.specs.Log.{Log}
use Rattle.refutation_terms.specs.LogText.{log_text}
use Rattle.refutation_terms.specs.Verdict.{kind_of_log}
use Rattle.refutation_log.specs.ReadLog.{IsUnread}
use Rattle.refutation_log.proofs.OneCause.{texts_read}
use Rattle.crew_size.specs.Sizes.{with_weeks, IsSize}
use Rattle.crew_size.specs.Texts.{refuted_line, roster_line, section_text, sections_text}
use Rattle.crew_size.specs.Sections.{BeginsAsHeading, AreUpToHeading}
use Rattle.crew_size.specs.Places.{IsNextOf, MayFollow, IsHeadingNumber, heading_line, heading_number}
use Rattle.crew_size.specs.declared.heading.Heading.{Heading}
use Rattle.crew_size.specs.declared.heading.Heading.TheVariants.{Refuted, Found}
use Rattle.crew_size.proofs.Cuts.{cut_once}
use Rattle.crew_size.proofs.Decided.{sized_keeps}
use Rattle.crew_size.proofs.Fronts.{size_is_short}
use Rattle.crew_size.proofs.Headings.{headings_once, heading_is_line}
use Rattle.crew_size.proofs.LogCuts.{logs_are_cut_whole}
use Rattle.crew_checker.specs.Least.{IsReadLog, AreReadLogs, SpellsFor, EndsWithLeast, HasLeast, BeginsWithLog, BeginsWithSection, IsLeastEnd}

-- the first size behind sections of these sizes
abbrev pub IsFirst : Option (ℕ × ℕ) → ℕ → Type 0
IsFirst None low = Unit {0}
IsFirst (Some sizes) low = low ≡ sizes.1

-- behind sections of these sizes the bytes are the rest of such a text
abbrev pub GoesOn : Instance → Option (ℕ × ℕ) → List ℕ → ℕ → List Symbol → Type 0
GoesOn P sizes bytes n s = (low : ℕ) × IsFirst sizes low × EndsWithLeast P low bytes n s

first_of_next : (P : Instance) (sizes : Option (ℕ × ℕ)) (m : ℕ) → IsNextOf P sizes m → IsFirst sizes m
first_of_next P None m next = tt
first_of_next P (Some sizes) m next = next.1

next_of_first : (P : Instance) (sizes : Option (ℕ × ℕ)) (m : ℕ) → IsFirst sizes m → IsSize P m → IsNextOf P sizes m
next_of_first P None m first size = size
next_of_first P (Some sizes) m first size = (size, first)

section_first : (P : Instance) (m : ℕ) (g : Log) (logs : List Log) (rest : List ℕ) → sections_text P m (g ∷ logs) ++ rest ≡ refuted_line m ++ (log_text (with_weeks P m) g ++ (sections_text P (m + 1) logs ++ rest))
section_first P m g logs rest =
    append_assoc (section_text P m g) (sections_text P (m + 1) logs) rest
    ∙ append_assoc (refuted_line m) (log_text (with_weeks P m) g) (sections_text P (m + 1) logs ++ rest)

-- what follows a section begins as a heading does
goes_on_as_heading : (P : Instance) (m n : ℕ) (logs : List Log) (bytes : List ℕ) → BeginsAsHeading (sections_text P m logs ++ (roster_line n ++ bytes))
goes_on_as_heading P m n [] bytes = inl ((decimal n ++ (codes " roster" ++ 10 ∷ [])) ++ bytes, refl)
goes_on_as_heading P m n (g ∷ logs) bytes =
    inl ((((decimal m ++ (codes " none" ++ 10 ∷ [])) ++ log_text (with_weeks P m) g) ++ sections_text P (m + 1) logs) ++ (roster_line n ++ bytes), refl)

log_cut : (P : Instance) (m : ℕ) (g : Log) (rest : List ℕ) → KeepsLimits P → IsReadLog P m g → (rest ≡ []) ⊎ BeginsAsHeading rest → AreUpToHeading (log_text (with_weeks P m) g) rest
log_cut P m g rest limits read place = logs_are_cut_whole (with_weeks P m) g rest (sized_keeps P m limits read.size) read.fits place

-- behind a section the text goes on as it did in front of it
pub section_passed : (P : Instance) (sizes : Option (ℕ × ℕ)) (bytes : List ℕ) (m : ℕ) (rest : List ℕ) (n : ℕ) (s : List Symbol) → KeepsLimits P → BeginsWithSection P sizes bytes m rest → GoesOn P sizes bytes n s → GoesOn P (Some (m, m + 1)) rest n s
section_passed P sizes bytes m rest n s limits section (low, first, e) = by e.logs e.read e.size e.whole
  where
    by : (logs : List Log) → AreReadLogs P low logs → n ≡ low + length logs → bytes ≡ sections_text P low logs ++ (roster_line n ++ e.bytes) → GoesOn P (Some (m, m + 1)) rest n s
    by [] read size whole =
        let once = headings_once (Refuted m) (Found n) section.behind e.bytes (section.log.read.size.some, size_is_short P m section.log.read.size) (e.roster.size.some, size_is_short P n e.roster.size) (sym section.heading ∙ whole) in
        let same = once.0 in
        absurd (cc)
    by (g ∷ logs) read size whole =
        let others = sections_text P (low + 1) logs ++ (roster_line n ++ e.bytes) in
        let log = log_text (with_weeks P low) g in
        let once = headings_once (Refuted m) (Refuted low) section.behind (log ++ others) (section.log.read.size.some, size_is_short P m section.log.read.size) (read.0.size.some, size_is_short P low read.0.size) (sym section.heading ∙ whole ∙ section_first P low g logs (roster_line n ++ e.bytes)) in
        let cut = cut_once (log_text (with_weeks P m) section.log.log) log rest others section.log.cut (log_cut P low g others limits read.0 (inr (goes_on_as_heading P (low + 1) n logs e.bytes))) (sym section.log.whole ∙ once.1) in
        let number : m ≡ low = ap heading_number once.0 in
        let next : low + 1 ≡ m + 1 = omega (arith, number) in
        (low + 1, next, record { logs = logs; read = read.1; size = omega (arith, size); bytes = e.bytes; roster = e.roster; whole = cut.1 })

-- and where it goes on behind a section it did so in front of it
pub section_back : (P : Instance) (sizes : Option (ℕ × ℕ)) (bytes : List ℕ) (m : ℕ) (rest : List ℕ) (n : ℕ) (s : List Symbol) → BeginsWithSection P sizes bytes m rest → GoesOn P (Some (m, m + 1)) rest n s → GoesOn P sizes bytes n s
section_back P sizes bytes m rest n s section (low, first, more) =
    let e : EndsWithLeast P (m + 1) rest n s = subst (λ (k : ℕ). EndsWithLeast P k rest n s) first more in
    let log = section.log.log in (
      m,
      first_of_next P sizes m section.next,
      record {
        logs = log ∷ e.logs;
        read = (section.log.read, e.read);
        size = omega (arith, e.size);
        bytes = e.bytes;
        roster = e.roster;
        whole =
            section.heading ∙ ap (λ t. refuted_line m ++ t) (section.log.whole ∙ ap (λ t. log_text (with_weeks P m) log ++ t) e.whole)
            ∙ sym (section_first P m log e.logs (roster_line n ++ e.bytes));
      },
    )

-- an end is all that is left
pub end_goes_on : (P : Instance) (sizes : Option (ℕ × ℕ)) (bytes : List ℕ) (n : ℕ) (s : List Symbol) → IsLeastEnd P sizes bytes n s → GoesOn P sizes bytes n s
end_goes_on P sizes bytes n s end = (
  n,
  first_of_next P sizes n end.next,
  record { logs = []; read = tt; size = omega arith; bytes = end.behind; roster = end.roster; whole = end.heading },
)

-- what goes on begins with a section or is an end
pub nothing_goes_on : (P : Instance) (sizes : Option (ℕ × ℕ)) (bytes : List ℕ) → KeepsLimits P → ((m : ℕ) (rest : List ℕ) → BeginsWithSection P sizes bytes m rest → ⊥) → ((n : ℕ) (s : List Symbol) → IsLeastEnd P sizes bytes n s → ⊥) → (n : ℕ) (s : List Symbol) → GoesOn P sizes bytes n s → ⊥
nothing_goes_on P sizes bytes limits sections ends n s (low, first, e) = by e.logs e.read e.size e.whole
  where
    by : (logs : List Log) → AreReadLogs P low logs → n ≡ low + length logs → bytes ≡ sections_text P low logs ++ (roster_line n ++ e.bytes) → ⊥
    by [] read size whole =
        let same : low ≡ n = omega (arith, size) in
        ends n s (record { next = next_of_first P sizes n (subst (IsFirst sizes) same first) e.roster.size; behind = e.bytes; heading = whole; roster = e.roster })
    by (g ∷ logs) read size whole =
        let others = sections_text P (low + 1) logs ++ (roster_line n ++ e.bytes) in
        sections low others (record {
          next = next_of_first P sizes low first read.0.size;
          behind = log_text (with_weeks P low) g ++ others;
          heading = whole ∙ section_first P low g logs (roster_line n ++ e.bytes);
          log = record { log = g; read = read.0; whole = refl; cut = log_cut P low g others limits read.0 (inr (goes_on_as_heading P (low + 1) n logs e.bytes)) };
        })

-- Headings.

-- where no heading may stand there is no section and no end
pub no_section : (P : Instance) (sizes : Option (ℕ × ℕ)) (bytes : List ℕ) → ((h : Heading) (rest : List ℕ) → IsHeadingNumber h → MayFollow P sizes h → bytes ≢ heading_line h ++ rest) → (m : ℕ) (rest : List ℕ) → BeginsWithSection P sizes bytes m rest → ⊥
no_section P sizes bytes none m rest section =
    let size = section.log.read.size in
    none (Refuted m) section.behind (size.some, size_is_short P m size) section.next section.heading

pub no_end : (P : Instance) (sizes : Option (ℕ × ℕ)) (bytes : List ℕ) → ((h : Heading) (rest : List ℕ) → IsHeadingNumber h → MayFollow P sizes h → bytes ≢ heading_line h ++ rest) → (n : ℕ) (s : List Symbol) → IsLeastEnd P sizes bytes n s → ⊥
no_end P sizes bytes none n s end =
    let size = end.roster.size in
    none (Found n) end.behind (size.some, size_is_short P n size) end.next end.heading

-- the heading of a section, and of an end
pub section_heading : (P : Instance) (sizes : Option (ℕ × ℕ)) (bytes : List ℕ) (m : ℕ) (rest : List ℕ) (h : Heading) (behind : List ℕ) → IsHeadingNumber h → bytes ≡ heading_line h ++ behind → (section : BeginsWithSection P sizes bytes m rest) → (Refuted m ≡ h) × (section.behind ≡ behind)
section_heading P sizes bytes m rest h behind written here section =
    let size = section.log.read.size in
    headings_once (Refuted m) h section.behind behind (size.some, size_is_short P m size) written (sym section.heading ∙ here)

pub end_heading : (P : Instance) (sizes : Option (ℕ × ℕ)) (bytes : List ℕ) (n : ℕ) (s : List Symbol) (h : Heading) (behind : List ℕ) → IsHeadingNumber h → bytes ≡ heading_line h ++ behind → (end : IsLeastEnd P sizes bytes n s) → (Found n ≡ h) × (end.behind ≡ behind)
end_heading P sizes bytes n s h behind written here end =
    let size = end.roster.size in
    headings_once (Found n) h end.behind behind (size.some, size_is_short P n size) written (sym end.heading ∙ here)

pub no_log_no_section : (P : Instance) (sizes : Option (ℕ × ℕ)) (bytes : List ℕ) (k : ℕ) (behind : List ℕ) → IsHeadingNumber (Refuted k) → bytes ≡ heading_line (Refuted k) ++ behind → ((rest : List ℕ) → BeginsWithLog P k behind rest → ⊥) → (m : ℕ) (rest : List ℕ) → BeginsWithSection P sizes bytes m rest → ⊥
no_log_no_section P sizes bytes k behind written here none m rest section =
    let once = section_heading P sizes bytes m rest (Refuted k) behind written here section in
    let number : m ≡ k = ap heading_number once.0 in
    none rest (subst (λ (n : ℕ). BeginsWithLog P n behind rest) number (subst (λ (b : List ℕ). BeginsWithLog P m b rest) once.1 section.log))

pub no_roster_no_end : (P : Instance) (sizes : Option (ℕ × ℕ)) (bytes : List ℕ) (k : ℕ) (behind : List ℕ) → IsHeadingNumber (Found k) → bytes ≡ heading_line (Found k) ++ behind → ((s : List Symbol) → SpellsFor P k behind s → ⊥) → (n : ℕ) (s : List Symbol) → IsLeastEnd P sizes bytes n s → ⊥
no_roster_no_end P sizes bytes k behind written here none n s end =
    let once = end_heading P sizes bytes n s (Found k) behind written here end in
    let number : n ≡ k = ap heading_number once.0 in
    none s (subst (λ (m : ℕ). SpellsFor P m behind s) number (subst (λ (b : List ℕ). SpellsFor P n b s) once.1 end.roster))

-- Logs.

pub no_log : (P sized : Instance) (m : ℕ) (bytes log rest : List ℕ) (why : LogRefusal) → KeepsLimits P → sized ≡ with_weeks P m → bytes ≡ log ++ rest → AreUpToHeading log rest → IsUnread sized WithoutGoal log why → (other : List ℕ) → BeginsWithLog P m bytes other → ⊥
no_log P sized m bytes log rest why limits is whole cut unread other begins =
    let Q = with_weeks P m in
    let g = begins.log in
    let once = cut_once log (log_text Q g) rest other cut begins.cut (sym whole ∙ begins.whole) in
    let there : IsUnread Q WithoutGoal log why = subst (λ (R : Instance). IsUnread R WithoutGoal log why) is unread in
    let text : IsUnread Q (kind_of_log g) (log_text Q g) why = subst (λ (k : LogKind). IsUnread Q k (log_text Q g) why) (sym begins.read.plain) (subst (λ t. IsUnread Q WithoutGoal t why) once.0 there) in
    texts_read Q g why (sized_keeps P m limits begins.read.size) begins.read.fits begins.read.tree text

-- a line that is no heading which may stand there
pub no_heading_here : (P : Instance) (sizes : Option (ℕ × ℕ)) (bytes line rest : List ℕ) → bytes ≡ line ++ rest → IsNextLine line rest → ((h : Heading) → IsHeadingNumber h → MayFollow P sizes h → line ≢ heading_line h) → (h : Heading) (other : List ℕ) → IsHeadingNumber h → MayFollow P sizes h → bytes ≢ heading_line h ++ other
no_heading_here P sizes bytes line rest whole next none h other written may is =
    none h written may (next_same line (heading_line h) rest other next (heading_is_line h other written) (sym whole ∙ is)).0

-- a heading, which may stand where the bytes begin with it
abbrev pub IsHere : Instance → Option (ℕ × ℕ) → (bytes : List ℕ) (h : Heading) (behind : List ℕ) → Type 0
IsHere P sizes bytes h behind = IsHeadingNumber h × MayFollow P sizes h × (bytes ≡ heading_line h ++ behind)

pub other_section : (P : Instance) (sizes : Option (ℕ × ℕ)) (bytes : List ℕ) (h : Heading) (behind : List ℕ) → IsHere P sizes bytes h behind → ((k : ℕ) → h ≡ Refuted k → ⊥) → (m : ℕ) (rest : List ℕ) → BeginsWithSection P sizes bytes m rest → ⊥
other_section P sizes bytes h behind here other m rest section = other m (sym (section_heading P sizes bytes m rest h behind here.0 here.2 section).0)

pub other_end : (P : Instance) (sizes : Option (ℕ × ℕ)) (bytes : List ℕ) (h : Heading) (behind : List ℕ) → IsHere P sizes bytes h behind → ((k : ℕ) → h ≡ Found k → ⊥) → (n : ℕ) (s : List Symbol) → IsLeastEnd P sizes bytes n s → ⊥
other_end P sizes bytes h behind here other n s end = other n (sym (end_heading P sizes bytes n s h behind here.0 here.2 end).0)

-- what is found is also found as something else
pub found_as : {X E : Type 0} (r : Result (Option X) E) (A B : Type 0) (C D : X → Type 0) → (A → B) → ((x : X) → C x → D x) → IfOk r (λ f. MatchOption f A C) → IfOk r (λ f. MatchOption f B D)
found_as (Ok None) A B C D none some h = none h
found_as (Ok (Some x)) A B C D none some h = some x h
found_as (Err e) A B C D none some h = h

-- Such a text ends with one roster.

least_from : (P : Instance) (low k : ℕ) (bytes : List ℕ) (n m : ℕ) (s t : List Symbol) → KeepsLimits P → (logs others : List Log) → AreReadLogs P low logs → AreReadLogs P k others → (a b : List ℕ) → SpellsFor P n a s → SpellsFor P m b t → bytes ≡ sections_text P low logs ++ (roster_line n ++ a) → bytes ≡ sections_text P k others ++ (roster_line m ++ b) → (n ≡ m) × (a ≡ b)
least_from P low k bytes n m s t limits [] [] read also a b is are whole again =
    let once = headings_once (Found n) (Found m) a b (is.size.some, size_is_short P n is.size) (are.size.some, size_is_short P m are.size) (sym whole ∙ again) in
    (ap heading_number once.0, once.1)
least_from P low k bytes n m s t limits [] (h ∷ others) read also a b is are whole again =
    let once = headings_once (Found n) (Refuted k) a (log_text (with_weeks P k) h ++ (sections_text P (k + 1) others ++ (roster_line m ++ b))) (is.size.some, size_is_short P n is.size) (also.0.size.some, size_is_short P k also.0.size) (sym whole ∙ again ∙ section_first P k h others (roster_line m ++ b)) in
    let same = once.0 in absurd (cc)
least_from P low k bytes n m s t limits (g ∷ logs) [] read also a b is are whole again =
    let once = headings_once (Refuted low) (Found m) (log_text (with_weeks P low) g ++ (sections_text P (low + 1) logs ++ (roster_line n ++ a))) b (read.0.size.some, size_is_short P low read.0.size) (are.size.some, size_is_short P m are.size) (sym (section_first P low g logs (roster_line n ++ a)) ∙ sym whole ∙ again) in
    let same = once.0 in absurd (cc)
least_from P low k bytes n m s t limits (g ∷ logs) (h ∷ others) read also a b is are whole again =
    let here = sections_text P (low + 1) logs ++ (roster_line n ++ a) in
    let there = sections_text P (k + 1) others ++ (roster_line m ++ b) in
    let once = headings_once (Refuted low) (Refuted k) (log_text (with_weeks P low) g ++ here) (log_text (with_weeks P k) h ++ there) (read.0.size.some, size_is_short P low read.0.size) (also.0.size.some, size_is_short P k also.0.size) (sym (section_first P low g logs (roster_line n ++ a)) ∙ sym whole ∙ again ∙ section_first P k h others (roster_line m ++ b)) in
    let cut = cut_once (log_text (with_weeks P low) g) (log_text (with_weeks P k) h) here there (log_cut P low g here limits read.0 (inr (goes_on_as_heading P (low + 1) n logs a))) (log_cut P k h there limits also.0 (inr (goes_on_as_heading P (k + 1) m others b))) once.1 in
    least_from P (low + 1) (k + 1) here n m s t limits logs others read.1 also.1 a b is are refl cut.1

pub one_least : (P : Instance) (text : List ℕ) (n m : ℕ) (s t : List Symbol) → KeepsLimits P → HasLeast P text n s → HasLeast P text m t → (n ≡ m) × (s ≡ t)
one_least P text n m s t limits (low, e) (k, f) =
    let ends = least_from P low k text n m s t limits e.logs f.logs e.read f.read e.bytes f.bytes e.roster f.roster e.whole f.whole in
    let spelled : SpellsRoster (with_weeks P n) e.bytes t = subst (λ (k : ℕ). SpellsRoster (with_weeks P k) e.bytes t) (sym ends.0) (subst (λ (b : List ℕ). SpellsRoster (with_weeks P m) b t) (sym ends.1) f.roster.spelled) in
    (ends.0, one_roster (with_weeks P n) e.bytes s t e.roster.spelled spelled)

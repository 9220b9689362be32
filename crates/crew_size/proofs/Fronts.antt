-- Behind one section more.
use Rattle.std.proofs.Common.{◌≡◌, ◌≢◌, ℕ, zero, suc, ◌+◌, ◌^◌, ◌<◌, List, [], ◌∷◌, ◌++◌, length, take, get_or, cond, Option, Some, refl, ap, sym, ◌∙◌, subst, arith, inl, inr, ⊎_elim, length-append}
use Rattle.std.specs.Prelude.{◌⊎◌, slice_get, count_by, ◌==◌}
use Rattle.std.specs.List.{join_with_byte}
use Rattle.std.proofs.lemmas.Bool.{ne_eqb}
use Rattle.std.proofs.lemmas.List.{append-nil, append_assoc, take_more, length-take-le}
use Rattle.std.proofs.lemmas.List.Elements.{All-head, All-tail}
use Rattle.std.proofs.lemmas.List.Sums.{sum_by-append}
use Rattle.rwsp_text.specs.Lines.{HasNoFeed}
use Rattle.rwsp_text.proofs.LineLaws.{join_no_feed}
use Rattle.rwsp_terms.specs.Instance.{Instance}
use Rattle.refutation_terms.specs.Log.{Log, Passes}
use Rattle.refutation_terms.specs.LogText.{log_text}
use Rattle.refutation_terms.specs.declared.lines.LogKind.TheVariants.{WithoutGoal}
use Rattle.refutation_terms.specs.Verdict.{kind_of_log}
use Rattle.crew_size.specs.Sizes.{with_weeks, IsSize}
use Rattle.crew_size.specs.Texts.{refuted_line, section_text, sections_text}
use Rattle.crew_size.specs.Sections.{ArePassing, StandsBehindLogs, IsHeadingsPlace, BeginsAsHeading, AreUpToHeading, IsNextSize, IsLastSize, line_behind}
use Rattle.crew_size.specs.Places.{AreSizes, IsNextOf, IsLastOf, IsHeadingNumber, heading_line}
use Rattle.crew_size.specs.declared.heading.Heading.{Heading}
use Rattle.crew_size.specs.declared.heading.Heading.TheVariants.{Refuted}
use Rattle.crew_size.proofs.Cuts.{rest_of_cut}
use Rattle.crew_size.proofs.Headings.{heading_fields, heading_written, heading_words}

-- a list with one more at its end
pub pushed_at : {X : Type 0} (xs : List X) (x y : X) (k : ℕ) → slice_get (xs ++ x ∷ []) k ≡ Some y → (slice_get xs k ≡ Some y) ⊎ ((k ≡ length xs) × (x ≡ y))
pushed_at [] x y zero e = inr (refl, let same : x ≡ y = cc in same)
pushed_at [] x y (suc k) e = absurd (cc)
pushed_at (z ∷ xs) x y zero e = inl e
pushed_at {X} (z ∷ xs) x y (suc k) e =
    ⊎_elim (λ (a : slice_get xs k ≡ Some y). inl a)
    (λ (b : (k ≡ length xs) × (x ≡ y)). inr (ap (λ n. suc n) b.0, b.1))
    (pushed_at xs x y k e)

pub sections_push : (P : Instance) (m : ℕ) (logs : List Log) (g : Log) → sections_text P m (logs ++ g ∷ []) ≡ sections_text P m logs ++ section_text P (m + length logs) g
sections_push P m [] g =
    let same : m ≡ m + 0 = omega arith in
    append-nil (section_text P m g) ∙ ap (λ k. section_text P k g) same
sections_push P m (h ∷ logs) g =
    let same : m + 1 + length logs ≡ m + length (h ∷ logs) = omega arith in
    ap (λ t. section_text P m h ++ t) (sections_push P (m + 1) logs g)
    ∙ sym (append_assoc (section_text P m h) (sections_text P (m + 1) logs) (section_text P (m + 1 + length logs) g))
    ∙ ap (λ k. (section_text P m h ++ sections_text P (m + 1) logs) ++ section_text P k g) same

passing_push : (P : Instance) (low m : ℕ) (logs : List Log) (g : Log) → ArePassing P low logs → m ≡ low + length logs → IsSize P m → kind_of_log g ≡ WithoutGoal → Passes (with_weeks P m) g → ArePassing P low (logs ++ g ∷ [])
passing_push P low m logs g are e size plain passes = record {
  sizes = λ k h at.
      ⊎_elim (λ (a : slice_get logs k ≡ Some h). are.sizes k h a)
      (λ (b : (k ≡ length logs) × (g ≡ h)). subst (IsSize P) (e ∙ ap (λ n. low + n) (sym b.0)) size)
      (pushed_at logs g h k at);
  plain = λ k h at.
      ⊎_elim (λ (a : slice_get logs k ≡ Some h). are.plain k h a)
      (λ (b : (k ≡ length logs) × (g ≡ h)). subst (λ (l : Log). kind_of_log l ≡ WithoutGoal) b.1 plain)
      (pushed_at logs g h k at);
  passes = λ k h at.
      ⊎_elim (λ (a : slice_get logs k ≡ Some h). are.passes k h a)
      (λ (b : (k ≡ length logs) × (g ≡ h)). subst (λ n. Passes (with_weeks P n) h) (e ∙ ap (λ n. low + n) (sym b.0)) (subst (Passes (with_weeks P m)) b.1 passes))
      (pushed_at logs g h k at);
}

pub none_passing : (P : Instance) (low : ℕ) → ArePassing P low []
none_passing P low = record {
  sizes = λ k h at. absurd (cc);
  plain = λ k h at. absurd (cc);
  passes = λ k h at. absurd (cc);
}

-- the number of LF

abbrev pub feeds : List ℕ → ℕ
feeds bytes = count_by (λ b. b == 10) bytes

pub feeds_append : (xs ys : List ℕ) → feeds (xs ++ ys) ≡ feeds xs + feeds ys
feeds_append xs ys = sum_by-append (λ b. cond (b == 10) 1 0) xs ys

no_feeds : (bytes : List ℕ) → HasNoFeed bytes → feeds bytes ≡ 0
no_feeds [] h = refl
no_feeds (b ∷ bytes) h =
    let rest = no_feeds bytes (All-tail (λ b. b ≢ 10) b bytes h) in
    let first : feeds (b ∷ []) ≡ 0 = ap (λ t. 0 + cond t 1 0) (ne_eqb b 10 (All-head (λ b. b ≢ 10) b bytes h)) in
    omega (arith, rest, first, feeds_append (b ∷ []) bytes)

pub feeds_of_heading : (h : Heading) → IsHeadingNumber h → feeds (heading_line h) ≡ 1
feeds_of_heading h w =
    let body : List ℕ = join_with_byte 32 (heading_fields h) in
    let none = no_feeds body (join_no_feed (heading_fields h) (heading_words h w).1) in
    omega (arith, none, ap feeds (heading_written h), feeds_append body (10 ∷ []))

pub size_is_short : (P : Instance) (m : ℕ) → IsSize P m → m < 10 ^ 9
size_is_short P m size = omega (arith, size.few)

-- the place behind a section

place_behind : (logs : List Log) (g : Log) (rest : List ℕ) → (rest ≡ []) ⊎ BeginsAsHeading rest → IsHeadingsPlace (logs ++ g ∷ []) rest
place_behind [] g rest h = h
place_behind (l ∷ logs) g rest h = h

pub one_more_stands : (P : Instance) (text : List ℕ) (low m : ℕ) (logs : List Log) (g : Log) (log rest : List ℕ) → ArePassing P low logs → m ≡ low + length logs → IsSize P m → log ≡ log_text (with_weeks P m) g → kind_of_log g ≡ WithoutGoal → Passes (with_weeks P m) g → text ≡ sections_text P low logs ++ (refuted_line m ++ (log ++ rest)) → AreUpToHeading log rest → StandsBehindLogs P text low (logs ++ g ∷ []) rest
one_more_stands P text low m logs g log rest are e size spelled plain passes whole cut =
    let front = sections_text P low logs in
    let section : refuted_line m ++ log ≡ section_text P (low + length logs) g = ap (λ t. refuted_line m ++ t) spelled ∙ ap (λ k. section_text P k g) e in
    record {
      passing = passing_push P low m logs g are e size plain passes;
      whole =
          whole ∙ ap (λ t. front ++ t) (sym (append_assoc (refuted_line m) log rest)) ∙ sym (append_assoc front (refuted_line m ++ log) rest)
          ∙ ap (λ t. (front ++ t) ++ rest) section ∙ ap (λ t. t ++ rest) (sym (sections_push P low logs g));
      place = place_behind logs g rest (rest_of_cut log rest cut.cut);
    }

pub line_behind_one_more : (P : Instance) (low m : ℕ) (logs : List Log) (g : Log) (log : List ℕ) → m ≡ low + length logs → IsSize P m → log ≡ log_text (with_weeks P m) g → line_behind (sections_text P low (logs ++ g ∷ [])) ≡ line_behind (sections_text P low logs) + (1 + feeds log)
line_behind_one_more P low m logs g log e size spelled =
    let section : section_text P (low + length logs) g ≡ refuted_line m ++ log = sym (ap (λ t. refuted_line m ++ t) spelled ∙ ap (λ k. section_text P k g) e) in
    let all : feeds (sections_text P low (logs ++ g ∷ [])) ≡ feeds (sections_text P low logs ++ (refuted_line m ++ log)) = ap feeds (sections_push P low logs g ∙ ap (λ t. sections_text P low logs ++ t) section) in
    let front = feeds_append (sections_text P low logs) (refuted_line m ++ log) in
    let behind = feeds_append (refuted_line m) log in
    let line : feeds (refuted_line m) ≡ 1 = feeds_of_heading (Refuted m) (size.some, size_is_short P m size) in
    omega (arith, all, front, behind, line)

abbrev pair : ℕ → ℕ → ℕ × ℕ
pair a b = (a, b)

pub sizes_one_more : (low m : ℕ) (logs : List Log) (g : Log) → m ≡ low + length logs → AreSizes low (logs ++ g ∷ []) (Some (low, m + 1))
sizes_one_more low m [] g e = let same : m + 1 ≡ low + length (g ∷ []) = omega (arith, e) in ap (λ (n : ℕ). Some (pair low n)) same
sizes_one_more low m (h ∷ logs) g e =
    let long : length (logs ++ g ∷ []) ≡ length logs + 1 = length-append logs (g ∷ []) in
    let same : m + 1 ≡ low + length (h ∷ (logs ++ g ∷ [])) = omega (arith, e, long) in ap (λ (n : ℕ). Some (pair low n)) same

-- sizes of sections, and those that may come next

pub next_of : (P : Instance) (low : ℕ) (logs : List Log) (sizes : Option (ℕ × ℕ)) (m : ℕ) → AreSizes low logs sizes → IsNextOf P sizes m → IsNextSize P low logs m
next_of P low [] sizes m e h = subst (λ (s : Option (ℕ × ℕ)). IsNextOf P s m) e h
next_of P low (g ∷ logs) sizes m e h = subst (λ (s : Option (ℕ × ℕ)). IsNextOf P s m) e h

pub is_next : (P : Instance) (low : ℕ) (logs : List Log) (sizes : Option (ℕ × ℕ)) (m : ℕ) → AreSizes low logs sizes → IsNextSize P low logs m → IsNextOf P sizes m
is_next P low [] sizes m e h = subst (λ (s : Option (ℕ × ℕ)). IsNextOf P s m) (sym e) h
is_next P low (g ∷ logs) sizes m e h = subst (λ (s : Option (ℕ × ℕ)). IsNextOf P s m) (sym e) h

pub last_of : (low : ℕ) (logs : List Log) (sizes : Option (ℕ × ℕ)) (last : ℕ) → AreSizes low logs sizes → IsLastOf sizes last → IsLastSize low logs last
last_of low [] sizes last e h = absurd (subst (λ (s : Option (ℕ × ℕ)). IsLastOf s last) e h)
last_of low (g ∷ logs) sizes last e h = (omega arith, subst (λ (s : Option (ℕ × ℕ)). IsLastOf s last) e h)

pub is_last : (low : ℕ) (logs : List Log) (sizes : Option (ℕ × ℕ)) (last : ℕ) → AreSizes low logs sizes → IsLastSize low logs last → IsLastOf sizes last
is_last low [] sizes last e h = absurd (omega (arith, h.0))
is_last low (g ∷ logs) sizes last e h = subst (λ (s : Option (ℕ × ℕ)). IsLastOf s last) (sym e) h.1

-- the size is that behind the sections, or there is none
pub size_behind : (P : Instance) (low : ℕ) (logs : List Log) (m : ℕ) → IsNextSize P low logs m → IsSize P m
size_behind P low [] m h = h
size_behind P low (g ∷ logs) m h = h.0

-- the sections of the first logs and of one more
pub sections_more : (P : Instance) (low : ℕ) (logs : List Log) (i weeks : ℕ) (g : Log) (out new : List ℕ) → i < length logs → get_or logs i g ≡ g → weeks ≡ low + i → out ≡ sections_text P low (take i logs) → new ≡ out ++ section_text P weeks g → new ≡ sections_text P low (take (i + 1) logs)
sections_more P low logs i weeks g out new less same size e f =
    let long : length (take i logs) ≡ i = length-take-le i logs (omega (arith, less)) in
    let here : weeks ≡ low + length (take i logs) = omega (arith, size, long) in
    let more : take i logs ++ g ∷ [] ≡ take (i + 1) logs = ap (λ (x : Log). take i logs ++ x ∷ []) (sym same) ∙ sym (take_more logs i g less) in
    f ∙ ap (λ o. o ++ section_text P weeks g) e ∙ ap (λ k. sections_text P low (take i logs) ++ section_text P k g) here
    ∙ sym (sections_push P low (take i logs) g) ∙ ap (sections_text P low) more

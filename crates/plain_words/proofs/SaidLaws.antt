-- What is said of a refutation names its rules and its leaves that count.
use Rattle.std.proofs.Common.{◌≡◌, ℕ, zero, suc, ◌+◌, ◌==◌, List, [], ◌∷◌, ◌++◌, map, refl, ap, ◌∙◌, subst, arith, Option, Some, None, Bool, true, false}
use Rattle.std.specs.Prelude.{Contains, slice_get, ◌||◌, if◌then◌else◌}
use Rattle.std.specs.List.{flat_map, list_any, range_with_len}
use Rattle.std.proofs.lemmas.Bool.{and_parts}
use Rattle.rwsp_terms.specs.declared.data.Symbol.{Symbol}
use Rattle.rwsp_terms.specs.Instance.{Instance, shift_count, symbol_numbered}
use Rattle.refutation_terms.specs.declared.lines.Turn.{Turn}
use Rattle.refutation_terms.specs.declared.lines.Line.{Line}
use Rattle.refutation_terms.specs.declared.lines.Line.TheVariants.{Closing}
use Rattle.refutation_terms.specs.declared.lines.Leaf.TheVariants.{Blocks}
use Rattle.refutation_terms.specs.declared.lines.Opening.{Opening}
use Rattle.refutation_terms.specs.declared.lines.Opening.TheVariants.{Full, Turned, Given}
use Rattle.plain_words.specs.declared.reason.Rosters.{Rosters}
use Rattle.plain_words.specs.declared.pieces.TheConstants.{COUNTING}
use Rattle.plain_words.specs.Counting.{is_misfit}
use Rattle.plain_words.specs.Statements.{Statement, Named, OnlyTurn, Counted, said_if}
use Rattle.plain_words.specs.LogTold.{lone_turn, day_number, rule_statement, counts_blocks, is_counted, counted_at, counted_statements, begin_statement}
use Rattle.plain_words.specs.Laws.{rule_in, NamedRulesAreSaid, CountedAreLeavesOf}
use Rattle.plain_words.proofs.Misfits.{misfits_are_leaves}
use Rattle.plain_words.proofs.Sentences.{in_piece, said_there}

-- rules

rule_by : (b : Bool) (t : Turn) (k : ℕ) → rule_in (if b then OnlyTurn k t else Named k) ≡ k ∷ []
rule_by true t k = refl
rule_by false t k = refl

rule_of_statement : (P : Instance) (lone : Option Turn) (k : ℕ) → rule_in (rule_statement P lone k) ≡ k ∷ []
rule_of_statement P None k = refl
rule_of_statement P (Some t) k = rule_by (k == day_number P t.day) t k

no_rule : (b : Bool) (x : Symbol) (rest : List Statement) → flat_map rule_in rest ≡ [] → flat_map rule_in (said_if b (Counted COUNTING.now x) ++ rest) ≡ []
no_rule true x rest none = none
no_rule false x rest none = none

no_rules : (P : Instance) (lines : List Line) (a n : ℕ) → flat_map rule_in (flat_map (counted_at P lines) (range_with_len a n)) ≡ []
no_rules P lines a zero = refl
no_rules P lines a (suc n) = no_rule (is_counted P lines (symbol_numbered a)) (symbol_numbered a) (flat_map (counted_at P lines) (range_with_len (a + 1) n)) (no_rules P lines (a + 1) n)

pub named_rules : (f : ℕ → Statement) → ((k : ℕ) → rule_in (f k) ≡ k ∷ []) → (R : List ℕ) (rest : List Statement) → flat_map rule_in rest ≡ [] → flat_map rule_in (map f R ++ rest) ≡ R
named_rules f names [] rest none = none
named_rules f names (k ∷ R) rest none =
    ap (λ (l : List ℕ). l ++ flat_map rule_in (map f R ++ rest)) (names k) ∙ ap (λ (l : List ℕ). k ∷ l) (named_rules f names R rest none)

pub begin_rule : (o : Opening) (w : Rosters) (R : List ℕ) → rule_in (begin_statement o w R) ≡ []
begin_rule (Given given) w R = refl
begin_rule Full w R = refl
begin_rule (Turned t) w R = refl

pub named_rules_are_said : NamedRulesAreSaid
named_rules_are_said P w g =
    let lone = lone_turn P g.opening g.lines in
    let counted = counted_statements P g.lines in
    ap (λ (l : List ℕ). l ++ flat_map rule_in (map (rule_statement P lone) g.named ++ counted)) (begin_rule g.opening w g.named)
    ∙ named_rules (rule_statement P lone) (rule_of_statement P lone) g.named counted (no_rules P g.lines 0 (shift_count P + 1))

-- leaves that count

-- no statement of a rule says what is counted
abbrev Uncounted : Statement → Type 0
Uncounted s = (x : Symbol) → s ≡ Counted COUNTING.now x → ⊥

uncounted_by : (b : Bool) (t : Turn) (k : ℕ) → Uncounted (if b then OnlyTurn k t else Named k)
uncounted_by true t k x e = absurd (cc)
uncounted_by false t k x e = absurd (cc)

rule_uncounted : (P : Instance) (lone : Option Turn) (k : ℕ) → Uncounted (rule_statement P lone k)
rule_uncounted P None k x e = absurd (cc)
rule_uncounted P (Some t) k x e = uncounted_by (k == day_number P t.day) t k x e

begin_uncounted : (o : Opening) (w : Rosters) (R : List ℕ) → Uncounted (begin_statement o w R)
begin_uncounted (Given given) w R x e = absurd (cc)
begin_uncounted Full w R x e = absurd (cc)
begin_uncounted (Turned t) w R x e = absurd (cc)

-- it is behind the rules
behind_one : (s : Statement) (rest : List Statement) (x : Symbol) → Uncounted s → Contains (s ∷ rest) (Counted COUNTING.now x) → Contains rest (Counted COUNTING.now x)
behind_one s rest x other (zero, less, is) = absurd (other x is)
behind_one s rest x other (suc k, less, is) = (k, omega (arith, less), is)

behind_rules : (P : Instance) (lone : Option Turn) (R : List ℕ) (rest : List Statement) (x : Symbol) → Contains (map (rule_statement P lone) R ++ rest) (Counted COUNTING.now x) → Contains rest (Counted COUNTING.now x)
behind_rules P lone [] rest x h = h
behind_rules P lone (k ∷ R) rest x h =
    behind_rules P lone R rest x (behind_one (rule_statement P lone k) (map (rule_statement P lone) R ++ rest) x (rule_uncounted P lone k) h)

same_counted : (x y : Symbol) → Counted COUNTING.now x ≡ Counted COUNTING.now y → x ≡ y
same_counted x y e = cc

counted_in : (P : Instance) (lines : List Line) (a n : ℕ) (x : Symbol) → Contains (flat_map (counted_at P lines) (range_with_len a n)) (Counted COUNTING.now x) → is_counted P lines x ≡ true
counted_in P lines a n x h =
    let found = in_piece (counted_at P lines) a n (Counted COUNTING.now x) h in
    let y = symbol_numbered (a + found.place) in
    let said = said_there (is_counted P lines y) (Counted COUNTING.now y) (Counted COUNTING.now x) found.there in
    subst (λ z. is_counted P lines z ≡ true) (same_counted y x said.1) said.0

-- a line counts the blocks of the symbol
abbrev Counts : List Line → Symbol → Type 0
Counts lines x = (k : ℕ) × (slice_get lines k ≡ Some (Closing (Blocks x)))

same_number : (x y : Symbol) → (y.number == x.number) ≡ true → y ≡ x
same_number x y e = grind arith

counts_here : (x : Symbol) (line : Line) → counts_blocks x line ≡ true → line ≡ Closing (Blocks x)
counts_here x (Closing (Blocks y)) e = ap (λ (z : Symbol). Closing (Blocks z)) (same_number x y e)
counts_here x line e = absurd (cc)

counts_by : (x : Symbol) (line : Line) (lines : List Line) (b : Bool) → counts_blocks x line ≡ b → (list_any (counts_blocks x) lines ≡ true → Counts lines x) → (b || list_any (counts_blocks x) lines) ≡ true → Counts (line ∷ lines) x
counts_by x line lines true is rest e = (0, ap (λ (l : Line). Some l) (counts_here x line is))
counts_by x line lines false is rest e = let r = rest e in (suc r.0, r.1)

some_counts : (x : Symbol) (lines : List Line) → list_any (counts_blocks x) lines ≡ true → Counts lines x
some_counts x [] e = absurd (cc)
some_counts x (line ∷ lines) e = counts_by x line lines (counts_blocks x line) refl (some_counts x lines) e

pub counted_are_leaves_of : CountedAreLeavesOf
counted_are_leaves_of P w g x known there =
    let lone = lone_turn P g.opening g.lines in
    let counted = counted_statements P g.lines in
    let behind = behind_one (begin_statement g.opening w g.named) (map (rule_statement P lone) g.named ++ counted) x (begin_uncounted g.opening w g.named) there in
    let c = counted_in P g.lines 0 (shift_count P + 1) x (behind_rules P lone g.named counted x behind) in
    let b = and_parts (list_any (counts_blocks x) g.lines) (is_misfit P x) c in
    (some_counts x g.lines b.0, (misfits_are_leaves P x).0 b.1)

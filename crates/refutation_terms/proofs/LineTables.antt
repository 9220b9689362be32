-- The lines of a log's text are those of its tables, and each line of a problem is spelled by one.
use Rattle.std.proofs.Common.{◌≡◌, ℕ, zero, suc, ◌+◌, ◌*◌, ◌/◌, ◌^◌, ◌<◌, ◌≤◌, List, [], ◌∷◌, ◌++◌, length, refl, ap, sym, ◌∙◌, subst, arith, inl, inr, Bool, true, false, Option, Some, None, map}
use Rattle.std.specs.Prelude.{codes, All, AllPairs, IfSome}
use Rattle.std.specs.List.{flat_map, AllByRecursion}
use Rattle.std.specs.Fmt.{decimal}
use Rattle.std.proofs.lemmas.List.{append-nil}
use Rattle.std.proofs.lemmas.Fmt.{decimal_digit}
use Rattle.std.proofs.Math.Nat.{le-div_iff_mul-le, div-le_self}
use Rattle.rwsp_text.specs.Fields.{Words, IsName, NamedWeight, Values, AreInRange, spell, numbers, weight_fields}
use Rattle.rwsp_text.specs.Kinds.{Kind, IsOfKind, IsLine, AreReadable, IsReadable}
use Rattle.rwsp_text.specs.Lines.{AreWords}
use Rattle.rwsp_text.proofs.KindLaws.{word_blankless, no_words, lines_are_words, lines_say_one}
use Rattle.rwsp_terms.specs.declared.limits.TheConstants.{GREATEST_REWARD, LONGEST_WORD}
use Rattle.rwsp_terms.specs.Instance.{Instance, cells, IsDay, IsSymbol, symbol_of, name_of}
use Rattle.rwsp_terms.specs.Rules.{rules}
use Rattle.refutation_terms.specs.declared.lines.Version.{Version}
use Rattle.refutation_terms.specs.declared.lines.Version.TheVariants.{Version1, Version2, Version3, Free1, Free2, Fill1}
use Rattle.refutation_terms.specs.Ranges.{IsLength, AreRules, AreWeightsOf}
use Rattle.refutation_terms.specs.LogText.{RawLine, RawSplit, RawWindow, RawDay, RawDead, RawBound, RawFew, RawFree, RawBlocks, RawUnfinished, place_words, raw_fields, IsInRange, most_turns, split_kind, window_kind, day_kind, dead_kind, bound_kind, open_kind, few_kind, free_kind, blocks_kind, last_kinds, own_kinds, line_kinds, version_kinds, rules_kinds, turn_kinds, goal_kinds, named_weight, raw, line_text, WeightIsInRange, with_weight, weights_of, line_of, WeightsAscend}
use Rattle.refutation_terms.specs.TextLaws.{IsWritable, HasNames, SpelledLinesFit, FittingLinesAreSpelled}
use Rattle.std.specs.Option.{option_map}
use Rattle.rwsp_terms.specs.declared.data.Symbol.{Symbol}
use Rattle.rwsp_terms.specs.declared.data.Weight.{Weight}
use Rattle.rwsp_terms.specs.Weights.{ComesBefore, IsWeight}
use Rattle.rwsp_terms.proofs.SymbolNames.{symbol_found}
use Rattle.rwsp_terms.proofs.Elements.{all_from, all_to}
use Rattle.refutation_terms.specs.declared.lines.Line.{Line}
use Rattle.refutation_terms.specs.declared.lines.Line.TheVariants.{Split, Unfinished, Closing}
use Rattle.refutation_terms.specs.declared.lines.Leaf.TheVariants as Leaves
use Rattle.refutation_terms.specs.declared.lines.WordClaim.TheVariants.{Dead, Light}
use Rattle.refutation_terms.specs.Log.{LineFits}
use Rattle.rwsp_text.proofs.Numerals.{mapped}

word_fits : LONGEST_WORD < 10 ^ 19
word_fits = omega arith

few_turns : (P : Instance) → most_turns P < 10 ^ 19
few_turns P = let le = div-le_self LONGEST_WORD (cells P) in omega (arith, le, word_fits)

-- the tables can be read

abbrev AreAllReadable : Instance → Type 0
AreAllReadable P =
    AreReadable (split_kind P).fields × AreReadable (window_kind P).fields × AreReadable (day_kind P).fields × AreReadable (dead_kind P).fields
    × AreReadable (bound_kind P).fields × AreReadable (free_kind P).fields

fields_readable : (P : Instance) → IsWritable P → AreAllReadable P
fields_readable P w =
    let days : P.days < 10 ^ 19 = omega (arith, w.0) in
    let weeks : P.weeks < 10 ^ 19 = omega (arith, w.1) in
    let many : length (rules P) < 10 ^ 19 = omega (arith, w.2) in
    let word : LONGEST_WORD < 10 ^ 19 = word_fits in
    let reward : GREATEST_REWARD < 10 ^ 19 = omega arith in (
      ((weeks, days), tt),
      (many, ((weeks, days), (word, tt))),
      (days, ((refl, refl, refl), tt)),
      ((weeks, days), (word, (refl, ((many, tt), tt)))),
      ((weeks, days), (few_turns P, (refl, ((many, refl), (refl, ((days, (omega arith, omega arith), tt), tt)))))),
      (few_turns P, (reward, (refl, ((many, refl), (refl, ((days, (omega arith, omega arith), tt), tt)))))),
    )

pub lines_readable : (P : Instance) (goal : Option ℕ) (counts : Bool) → IsWritable P → IsReadable (line_kinds P goal counts)
lines_readable P None false w =
    let r = fields_readable P w in
    ((r.0, refl, (refl, (refl, (refl, (refl, (refl, tt)))))), ((r.1, refl, (refl, (refl, (refl, (refl, tt))))), ((r.2, refl, (refl, (refl, (refl, tt)))), ((r.3, refl, (refl, (refl, tt))), ((r.4, refl, (refl, tt)), ((tt, refl, tt), tt))))))
lines_readable P None true w =
    let r = fields_readable P w in
    ((r.0, refl, (refl, (refl, (refl, (refl, (refl, (refl, tt))))))), ((r.1, refl, (refl, (refl, (refl, (refl, (refl, tt)))))), ((r.2, refl, (refl, (refl, (refl, (refl, tt))))), ((r.3, refl, (refl, (refl, (refl, tt)))), ((r.4, refl, (refl, (refl, tt))), ((tt, refl, (refl, tt)), ((tt, refl, tt), tt)))))))
lines_readable P (Some goal) false w =
    let r = fields_readable P w in
    ((r.0, refl, (refl, (refl, (refl, (refl, (refl, (refl, tt))))))), ((r.1, refl, (refl, (refl, (refl, (refl, (refl, tt)))))), ((r.2, refl, (refl, (refl, (refl, (refl, tt))))), ((r.3, refl, (refl, (refl, (refl, tt)))), ((tt, refl, (refl, (refl, tt))), ((r.5, refl, (refl, tt)), ((tt, refl, tt), tt)))))))
lines_readable P (Some goal) true w =
    let r = fields_readable P w in
    ((r.0, refl, (refl, (refl, (refl, (refl, (refl, (refl, (refl, tt)))))))), ((r.1, refl, (refl, (refl, (refl, (refl, (refl, (refl, tt))))))), ((r.2, refl, (refl, (refl, (refl, (refl, (refl, tt)))))), ((r.3, refl, (refl, (refl, (refl, (refl, tt))))), ((tt, refl, (refl, (refl, (refl, tt)))), ((r.5, refl, (refl, (refl, tt))), ((tt, refl, (refl, tt)), ((tt, refl, tt), tt))))))))

pub goal_readable : (P : Instance) → IsWritable P → IsReadable (goal_kinds P)
goal_readable P w = (((omega (arith, w.1), tt), refl, tt), tt)

pub version_readable : IsReadable version_kinds
version_readable = (((omega arith, tt), refl, (refl, (refl, tt))), (((omega arith, tt), refl, (refl, tt)), (((omega arith, tt), refl, tt), tt)))

pub rules_readable : (P : Instance) → IsWritable P → IsReadable (rules_kinds P)
rules_readable P w = ((((omega (arith, w.2), tt), tt), refl, tt), tt)

pub turn_readable : (P : Instance) → IsWritable P → IsReadable (turn_kinds P)
turn_readable P w = (((omega (arith, w.0), tt), refl, tt), tt)

-- a written line is of the table

some_turns : (n m : ℕ) → 0 < n * m → 1 ≤ n
some_turns zero m h = absurd (omega (arith, h))
some_turns (suc n) m h = omega arith

pub some_cells : (n m : ℕ) → 0 < n * m → 0 < m
some_cells n zero h = let e : n * zero ≡ 0 = omega arith in absurd (omega (arith, h, e))
some_cells n (suc m) h = omega arith

-- as many turns as there may be make a word of the right length, and the other way round

turns_fit : (P : Instance) (turns : ℕ) → IsLength (turns * cells P) → (1 ≤ turns) × (turns ≤ most_turns P)
turns_fit P turns h = (some_turns turns (cells P) h.0, (le-div_iff_mul-le {k = cells P} {x = turns} {y = LONGEST_WORD} (some_cells turns (cells P) h.0)).1 h.1)

no_turns_of_none : (c turns : ℕ) → 1 ≤ turns → turns ≤ LONGEST_WORD / c → 0 < c
no_turns_of_none zero turns some few = let none : LONGEST_WORD / zero ≡ 0 = refl in absurd (omega (arith, some, few, none))
no_turns_of_none (suc c) turns some few = omega arith

full_turns : (n m : ℕ) → 1 ≤ n → 0 < m → 0 < n * m
full_turns n m a b = grind (arith, a, b)

turns_long : (P : Instance) (turns : ℕ) → (1 ≤ turns) × (turns ≤ most_turns P) → IsLength (turns * cells P)
turns_long P turns h =
    let some : 0 < cells P = no_turns_of_none (cells P) turns h.0 h.1 in
    (full_turns turns (cells P) h.0 some, (le-div_iff_mul-le {k = cells P} {x = turns} {y = LONGEST_WORD} some).0 h.1)

-- the words of weights and of rules, which end a line
weights_end : (R : List ℕ) (y : List NamedWeight) → numbers R ++ (codes "weights" ∷ flat_map weight_fields y) ≡ numbers R ++ (codes "weights" ∷ (flat_map weight_fields y ++ []))
weights_end R y = ap (λ us. numbers R ++ (codes "weights" ∷ us)) (sym (append-nil (flat_map weight_fields y)))

rules_end : (R : List ℕ) → numbers R ≡ numbers R ++ []
rules_end R = sym (append-nil (numbers R))

last_line : (counts : Bool) → IsLine (last_kinds counts) (codes "open" ∷ []) RawUnfinished
last_line false = inl (refl, record { values = tt; keeps = tt; spelled = refl; made = refl })
last_line true = inr (inl (refl, record { values = tt; keeps = tt; spelled = refl; made = refl }))

blocks_line : (name : List ℕ) → IsName name → IsLine (last_kinds true) (codes "blocks" ∷ name ∷ []) (RawBlocks name)
blocks_line name h = inl (refl, record { values = (name, tt); keeps = (h, tt); spelled = refl; made = refl })

-- a line of the last kinds is one of those of logs with a goal or without
own_last : (P : Instance) (goal : Option ℕ) (counts : Bool) (ws : Words) (raw : RawLine) → IsLine (last_kinds counts) ws raw → IsLine (own_kinds P goal counts) ws raw
own_last P None counts ws raw l = inr l
own_last P (Some goal) counts ws raw l = inr (inr l)

own_line : (P : Instance) (goal : Option ℕ) (counts : Bool) (ws : Words) (raw : RawLine) → IsLine (own_kinds P goal counts) ws raw → IsLine (line_kinds P goal counts) ws raw
own_line P goal counts ws raw l = inr (inr (inr (inr l)))

pub raw_line : (P : Instance) (goal : Option ℕ) (counts : Bool) (raw : RawLine) → IsInRange P goal counts raw → IsLine (line_kinds P goal counts) (raw_fields P raw) raw
raw_line P goal counts (RawSplit p name) h = inl (refl, record { values = (p, (name, tt)); keeps = (h.0, (h.1, tt)); spelled = refl; made = refl })
raw_line P goal counts (RawWindow rule p len) h = inr (inl (refl, record { values = (rule, (p, (len, tt))); keeps = ((h.0, h.1), (h.2, (h.3, tt))); spelled = refl; made = refl }))
raw_line P goal counts (RawDay day name over) h = inr (inr (inl (refl, record { values = (day, (name, (over, tt))); keeps = (h.0, (h.1, tt)); spelled = refl; made = refl })))
raw_line P goal counts (RawDead p len R) h =
    inr (inr (inr (inl (refl, record { values = (p, (len, (R, tt))); keeps = (h.0, (h.1, (h.2, tt))); spelled = ap (λ us. place_words P p ++ (decimal len ∷ codes "rules" ∷ us)) (rules_end R); made = refl }))))
raw_line P None counts (RawBound p turns R y) h =
    own_line P None counts (raw_fields P (RawBound p turns R y)) (RawBound p turns R y) (inl (
      refl,
      record {
        values = (p, (turns, (R, (y, tt))));
        keeps = (h.0, (turns_fit P turns h.1, (h.2, (h.3, tt))));
        spelled = ap (λ us. place_words P p ++ (decimal turns ∷ codes "rules" ∷ us)) (weights_end R y);
        made = refl;
      },
    ))
raw_line P (Some goal) counts (RawBound p turns R y) h = absurd h
raw_line P None counts RawFew h = absurd h
raw_line P (Some goal) counts RawFew h = own_line P (Some goal) counts (raw_fields P RawFew) RawFew (inl (refl, record { values = tt; keeps = tt; spelled = refl; made = refl }))
raw_line P None counts (RawFree turns reward R y) h = absurd h
raw_line P (Some goal) counts (RawFree turns reward R y) h =
    own_line P (Some goal) counts (raw_fields P (RawFree turns reward R y)) (RawFree turns reward R y) (inr (inl (
      refl,
      record {
        values = (turns, (reward, (R, (y, tt))));
        keeps = (turns_fit P turns h.0, ((omega arith, h.1), (h.2, (h.3, tt))));
        spelled = ap (λ us. decimal turns ∷ decimal reward ∷ codes "rules" ∷ us) (weights_end R y);
        made = refl;
      },
    )))
raw_line P goal false (RawBlocks name) h = absurd h
raw_line P goal true (RawBlocks name) h =
    own_line P goal true (raw_fields P (RawBlocks name)) (RawBlocks name) (own_last P goal true (raw_fields P (RawBlocks name)) (RawBlocks name) (blocks_line name h))
raw_line P goal counts RawUnfinished h =
    own_line P goal counts (raw_fields P RawUnfinished) RawUnfinished (own_last P goal counts (raw_fields P RawUnfinished) RawUnfinished (last_line counts))

abbrev Found : Instance → Option ℕ → Bool → Words → RawLine → Type 0
Found P goal counts ws raw = (ws ≡ raw_fields P raw) × IsInRange P goal counts raw

-- a line of a kind is a written line, where each line with values in their ranges is one
found_by : (P : Instance) (goal : Option ℕ) (counts : Bool) (kind : Kind RawLine) (w : List ℕ) (ws : Words) (raw : RawLine) → ((v : Values kind.fields) → AreInRange kind.fields v → Found P goal counts (kind.word ∷ spell kind.fields v) (kind.make v)) → IsOfKind kind (w ∷ ws) raw → Found P goal counts (w ∷ ws) raw
found_by P goal counts kind w ws raw fine l =
    let s = l.1 in
    let f = fine s.values s.keeps in
    subst (Found P goal counts (w ∷ ws)) s.made (ap (λ z. z ∷ ws) l.0 ∙ ap (λ us. kind.word ∷ us) s.spelled ∙ f.0, f.1)

last_found : (P : Instance) (goal : Option ℕ) (counts : Bool) (w : List ℕ) (ws : Words) (raw : RawLine) → IsLine (last_kinds counts) (w ∷ ws) raw → Found P goal counts (w ∷ ws) raw
last_found P goal false w ws raw (inl l) = found_by P goal false open_kind w ws raw (λ v k. (refl, tt)) l
last_found P goal false w ws raw (inr l) = absurd l
last_found P goal true w ws raw (inl l) = found_by P goal true blocks_kind w ws raw (λ v k. (refl, k.0)) l
last_found P goal true w ws raw (inr (inl l)) = found_by P goal true open_kind w ws raw (λ v k. (refl, tt)) l
last_found P goal true w ws raw (inr (inr l)) = absurd l

own_found : (P : Instance) (goal : Option ℕ) (counts : Bool) (w : List ℕ) (ws : Words) (raw : RawLine) → IsLine (own_kinds P goal counts) (w ∷ ws) raw → Found P goal counts (w ∷ ws) raw
own_found P None counts w ws raw (inl l) =
    found_by P None counts (bound_kind P) w ws raw
    (λ v k. (
      ap (λ us. codes "bound" ∷ place_words P v.0 ++ (decimal v.1.0 ∷ codes "rules" ∷ us)) (sym (weights_end v.1.1.0 v.1.1.1.0)),
      (k.0, turns_long P v.1.0 k.1.0, k.1.1.0, k.1.1.1.0),
    ))
    l
own_found P None counts w ws raw (inr l) = last_found P None counts w ws raw l
own_found P (Some goal) counts w ws raw (inl l) = found_by P (Some goal) counts few_kind w ws raw (λ v k. (refl, tt)) l
own_found P (Some goal) counts w ws raw (inr (inl l)) =
    found_by P (Some goal) counts (free_kind P) w ws raw
    (λ v k. (
      ap (λ us. codes "free" ∷ decimal v.0 ∷ decimal v.1.0 ∷ codes "rules" ∷ us) (sym (weights_end v.1.1.0 v.1.1.1.0)),
      (turns_long P v.0 k.0, k.1.0.1, k.1.1.0, k.1.1.1.0),
    ))
    l
own_found P (Some goal) counts w ws raw (inr (inr l)) = last_found P (Some goal) counts w ws raw l

-- and a line of the table is a written line
pub raw_found : (P : Instance) (goal : Option ℕ) (counts : Bool) (ws : Words) (raw : RawLine) → IsLine (line_kinds P goal counts) ws raw → (ws ≡ raw_fields P raw) × IsInRange P goal counts raw
raw_found P goal counts [] raw l = absurd (no_words (line_kinds P goal counts) raw l)
raw_found P goal counts (w ∷ ws) raw (inl l) = found_by P goal counts (split_kind P) w ws raw (λ v k. (refl, (k.0, k.1.0))) l
raw_found P goal counts (w ∷ ws) raw (inr (inl l)) = found_by P goal counts (window_kind P) w ws raw (λ v k. (refl, (k.0.0, k.0.1, k.1.0, k.1.1.0))) l
raw_found P goal counts (w ∷ ws) raw (inr (inr (inl l))) = found_by P goal counts (day_kind P) w ws raw (λ v k. (refl, (k.0, k.1.0))) l
raw_found P goal counts (w ∷ ws) raw (inr (inr (inr (inl l)))) =
    found_by P goal counts (dead_kind P) w ws raw (λ v k. (ap (λ us. codes "dead" ∷ place_words P v.0 ++ (decimal v.1.0 ∷ codes "rules" ∷ us)) (sym (rules_end v.1.1.0)), (k.0, k.1.0, k.1.1.0))) l
raw_found P goal counts (w ∷ ws) raw (inr (inr (inr (inr l)))) = own_found P goal counts w ws raw l

-- the lines of a header

abbrev pub version_fields : Version → Words
version_fields Version1 = codes "rwsp-log" ∷ codes "1" ∷ []
version_fields Version2 = codes "rwsp-log" ∷ codes "2" ∷ []
version_fields Version3 = codes "rwsp-log" ∷ codes "3" ∷ []
version_fields Free1 = codes "rwsp-free" ∷ codes "1" ∷ []
version_fields Free2 = codes "rwsp-free" ∷ codes "2" ∷ []
version_fields Fill1 = codes "rwsp-fill" ∷ codes "1" ∷ []

abbrev pub rules_fields : List ℕ → Words
rules_fields R = codes "rules" ∷ numbers R

abbrev pub turn_fields : List ℕ → ℕ → Words
turn_fields name day = codes "turn" ∷ name ∷ decimal day ∷ []

one_digit : (d : ℕ) → d < 10 → ((48 + d) ∷ []) ∷ [] ≡ decimal d ∷ []
one_digit d h = ap (λ w. w ∷ []) (sym (decimal_digit d h))

pub version_line : (v : Version) → IsLine version_kinds (version_fields v) v
version_line Version1 = inl (refl, record { values = (1, tt); keeps = ((omega arith, omega arith), tt); spelled = one_digit 1 (omega arith); made = refl })
version_line Version2 = inl (refl, record { values = (2, tt); keeps = ((omega arith, omega arith), tt); spelled = one_digit 2 (omega arith); made = refl })
version_line Version3 = inl (refl, record { values = (3, tt); keeps = ((omega arith, omega arith), tt); spelled = one_digit 3 (omega arith); made = refl })
version_line Free1 = inr (inl (refl, record { values = (1, tt); keeps = ((omega arith, omega arith), tt); spelled = one_digit 1 (omega arith); made = refl }))
version_line Free2 = inr (inl (refl, record { values = (2, tt); keeps = ((omega arith, omega arith), tt); spelled = one_digit 2 (omega arith); made = refl }))
version_line Fill1 = inr (inr (inl (refl, record { values = (1, tt); keeps = ((omega arith, omega arith), tt); spelled = one_digit 1 (omega arith); made = refl })))

pub rules_line : (P : Instance) (R : List ℕ) → AreRules P R → IsLine (rules_kinds P) (rules_fields R) R
rules_line P R h = inl (refl, record { values = (R, tt); keeps = (h, tt); spelled = sym (append-nil (numbers R)); made = refl })

pub turn_line : (P : Instance) (name : List ℕ) (day : ℕ) → IsName name → IsDay P day → IsLine (turn_kinds P) (turn_fields name day) (name, day)
turn_line P name day n d = inl (refl, record { values = (name, (day, tt)); keeps = (n, (d, tt)); spelled = refl; made = refl })

pub rules_found : (P : Instance) (ws : Words) (R : List ℕ) → IsLine (rules_kinds P) ws R → (ws ≡ rules_fields R) × AreRules P R
rules_found P [] R l = absurd (no_words (rules_kinds P) R l)
rules_found P (w ∷ ws) R (inl l) =
    let s = l.1 in
    subst (λ Q. (w ∷ ws ≡ rules_fields Q) × AreRules P Q) s.made (ap (λ z. z ∷ ws) l.0 ∙ ap (λ us. codes "rules" ∷ us) (s.spelled ∙ append-nil (numbers s.values.0)), s.keeps.0)
rules_found P (w ∷ ws) R (inr l) = absurd l

pub turn_found : (P : Instance) (ws : Words) (name : List ℕ) (day : ℕ) → IsLine (turn_kinds P) ws (name, day) → (ws ≡ turn_fields name day) × IsName name × IsDay P day
turn_found P [] name day l = absurd (no_words (turn_kinds P) (name, day) l)
turn_found P (w ∷ ws) name day (inl l) =
    let s = l.1 in
    subst (λ (t : List ℕ × ℕ). (w ∷ ws ≡ turn_fields t.0 t.1) × IsName t.0 × IsDay P t.1) s.made (ap (λ z. z ∷ ws) l.0 ∙ ap (λ us. codes "turn" ∷ us) s.spelled, s.keeps.0, s.keeps.1.0)
turn_found P (w ∷ ws) name day (inr l) = absurd l

-- each line has words, and says one thing

pub version_words : (v : Version) → AreWords (version_fields v)
version_words v = lines_are_words version_kinds (version_fields v) v version_readable (version_line v)

pub rules_words : (P : Instance) (R : List ℕ) → IsWritable P → AreRules P R → AreWords (rules_fields R)
rules_words P R w h = lines_are_words (rules_kinds P) (rules_fields R) R (rules_readable P w) (rules_line P R h)

pub turn_words : (P : Instance) (name : List ℕ) (day : ℕ) → IsWritable P → IsName name → IsDay P day → AreWords (turn_fields name day)
turn_words P name day w n d = lines_are_words (turn_kinds P) (turn_fields name day) (name, day) (turn_readable P w) (turn_line P name day n d)

-- the line of a log that counts and has no turn
abbrev pub no_turn_fields : Words
no_turn_fields = codes "turn" ∷ []

pub no_turn_words : AreWords no_turn_fields
no_turn_words = (omega arith, (word_blankless (codes "turn") refl, tt))

pub raw_words : (P : Instance) (goal : Option ℕ) (counts : Bool) (raw : RawLine) → IsWritable P → IsInRange P goal counts raw → AreWords (raw_fields P raw)
raw_words P goal counts raw w h = lines_are_words (line_kinds P goal counts) (raw_fields P raw) raw (lines_readable P goal counts w) (raw_line P goal counts raw h)

abbrev pub goal_fields : ℕ → Words
goal_fields goal = codes "goal" ∷ decimal goal ∷ []

pub goal_line : (P : Instance) (goal : ℕ) → goal ≤ P.weeks + 1 → IsLine (goal_kinds P) (goal_fields goal) goal
goal_line P goal h = inl (refl, record { values = (goal, tt); keeps = ((omega arith, h), tt); spelled = refl; made = refl })

pub goal_words : (P : Instance) (goal : ℕ) → IsWritable P → goal ≤ P.weeks + 1 → AreWords (goal_fields goal)
goal_words P goal w h = lines_are_words (goal_kinds P) (goal_fields goal) goal (goal_readable P w) (goal_line P goal h)

pub goal_same : (P : Instance) (a b : ℕ) → IsWritable P → a ≤ P.weeks + 1 → b ≤ P.weeks + 1 → goal_fields a ≡ goal_fields b → a ≡ b
goal_same P a b w h k e = lines_say_one (goal_kinds P) (goal_fields a) a b (goal_readable P w) (goal_line P a h) (subst (λ ws. IsLine (goal_kinds P) ws b) (sym e) (goal_line P b k))

pub version_same : (a b : Version) → version_fields a ≡ version_fields b → a ≡ b
version_same a b e = lines_say_one version_kinds (version_fields a) a b version_readable (version_line a) (subst (λ ws. IsLine version_kinds ws b) (sym e) (version_line b))

pub rules_same : (P : Instance) (R Q : List ℕ) → IsWritable P → AreRules P R → AreRules P Q → rules_fields R ≡ rules_fields Q → R ≡ Q
rules_same P R Q w h k e = lines_say_one (rules_kinds P) (rules_fields R) R Q (rules_readable P w) (rules_line P R h) (subst (λ ws. IsLine (rules_kinds P) ws Q) (sym e) (rules_line P Q k))

pub turn_same : (P : Instance) (name name' : List ℕ) (day day' : ℕ) → IsWritable P → IsName name × IsDay P day → IsName name' × IsDay P day' → turn_fields name day ≡ turn_fields name' day' → (name ≡ name') × (day ≡ day')
turn_same P name name' day day' w h k e =
    let both : (name, day) ≡ (name', day') =
    lines_say_one (turn_kinds P) (turn_fields name day) (name, day) (name', day') (turn_readable P w) (turn_line P name day h.0 h.1) (subst (λ ws. IsLine (turn_kinds P) ws (name', day')) (sym e) (turn_line P name' day' k.0 k.1)) in
    (ap (λ (t : List ℕ × ℕ). t.0) both, ap (λ (t : List ℕ × ℕ). t.1) both)

pub raw_same : (P : Instance) (goal : Option ℕ) (counts : Bool) (a b : RawLine) → IsWritable P → IsInRange P goal counts a → IsInRange P goal counts b → raw_fields P a ≡ raw_fields P b → a ≡ b
raw_same P goal counts a b w h k e =
    lines_say_one (line_kinds P goal counts) (raw_fields P a) a b (lines_readable P goal counts w) (raw_line P goal counts a h) (subst (λ ws. IsLine (line_kinds P goal counts) ws b) (sym e) (raw_line P goal counts b k))

-- Lines and their texts.

pub symbol_of-name : (P : Instance) (name : List ℕ) (x : Symbol) → symbol_of P name ≡ Some x → IsSymbol P x × (name_of P x ≡ name)
symbol_of-name P name x h = let f = symbol_found P name x h in (f.0, sym f.1)

-- a weight and further ones that were read
with_read : (e : NamedWeight) (o : Option Symbol) (rest : Option (List Weight)) (ys : List Weight) → with_weight e o rest ≡ Some ys → (x : Symbol) × (zs : List Weight) × (o ≡ Some x) × (rest ≡ Some zs) × (record { day = e.day; symbol = x; value = e.value } ∷ zs ≡ ys)
with_read e None rest ys h = absurd (cc)
with_read e (Some x) None ys h = absurd (cc)
with_read e (Some x) (Some zs) ys h = (x, zs, refl, refl, let same : record { day = e.day; symbol = x; value = e.value } ∷ zs ≡ ys = cc in same)

abbrev IsOf : Instance → Weight → Type 0
IsOf P e = IsDay P e.day × IsSymbol P e.symbol

record AreRead (P : Instance) (y : List NamedWeight) (ys : List Weight) : Type 0 where
  same : map (named_weight P) ys ≡ y
  small : AllByRecursion IsWeight ys
  of : AllByRecursion (IsOf P) ys

weights_read : (P : Instance) (y : List NamedWeight) (ys : List Weight) → AllByRecursion (WeightIsInRange P) y → weights_of P y ≡ Some ys → AreRead P y ys
weights_read P [] ys h e = let none : [] ≡ ys = cc in subst (AreRead P []) none (record { same = refl; small = tt; of = tt })
weights_read P (e ∷ y) ys h is =
    let w = with_read e (symbol_of P e.name) (weights_of P y) ys is in
    let rest = weights_read P y w.1 h.1 w.3 in
    let named = symbol_of-name P e.name w.0 w.2 in
    let same_first : named_weight P (record { day = e.day; symbol = w.0; value = e.value }) ≡ e = ap (λ n. record { day = e.day; name = n; value = e.value }) named.1 in
    subst (AreRead P (e ∷ y)) w.4 (record {
      same = ap (λ f. f ∷ map (named_weight P) w.1) same_first ∙ ap (λ fs. e ∷ fs) rest.same;
      small = (h.0.2, rest.small);
      of = ((h.0.0, named.0), rest.of);
    })

weights_fit : (P : Instance) (y : List NamedWeight) (ys : List Weight) → All (WeightIsInRange P) y → AllPairs ComesBefore ys → weights_of P y ≡ Some ys → AreWeightsOf P ys × (y ≡ map (named_weight P) ys)
weights_fit P y ys h up e =
    let read = weights_read P y ys (all_to (WeightIsInRange P) y h) e in
    ((record { ascends = up; small = all_from IsWeight ys read.small }, all_from (IsOf P) ys read.of), sym read.same)

-- the line that a written line is
abbrev FitsAs : Instance → Option ℕ → Bool → RawLine → Line → Type 0
FitsAs P goal counts written line = LineFits P goal counts line × (written ≡ raw P goal line)

fits_as : (P : Instance) (goal : Option ℕ) (counts : Bool) (written : RawLine) (line : Line) → IsInRange P goal counts written → IfSome (line_of P written) WeightsAscend → line_of P written ≡ Some line → FitsAs P goal counts written line
fits_as P goal counts (RawSplit p name) line h a e =
    let m = mapped (λ x. Split p x) (symbol_of P name) line e in
    let named = symbol_of-name P name m.0 m.1 in
    subst (FitsAs P goal counts (RawSplit p name)) m.2 ((h.0, named.0), ap (RawSplit p) (sym named.1))
fits_as P goal counts (RawWindow rule p len) line h a e =
    let same : Closing (Leaves.Window rule p len) ≡ line = cc in
    subst (FitsAs P goal counts (RawWindow rule p len)) same (h, refl)
fits_as P goal counts (RawDay day name over) line h a e =
    let m = mapped (λ x. Closing (Leaves.Day day x over)) (symbol_of P name) line e in
    let named = symbol_of-name P name m.0 m.1 in
    subst (FitsAs P goal counts (RawDay day name over)) m.2 ((h.0, named.0), ap (λ n. RawDay day n over) (sym named.1))
fits_as P goal counts (RawDead p len R) line h a e =
    let same : Closing (Leaves.Words p R (Dead len)) ≡ line = cc in
    subst (FitsAs P goal counts (RawDead p len R)) same (h, refl)
fits_as P goal false (RawBlocks name) line h a e = absurd h
fits_as P goal true (RawBlocks name) line h a e =
    let m = mapped (λ x. Closing (Leaves.Blocks x)) (symbol_of P name) line e in
    let named = symbol_of-name P name m.0 m.1 in
    subst (FitsAs P goal true (RawBlocks name)) m.2 ((refl, named.0), ap RawBlocks (sym named.1))
fits_as P goal counts RawUnfinished line h a e =
    let same : Unfinished ≡ line = cc in
    subst (FitsAs P goal counts RawUnfinished) same (tt, refl)
fits_as P None counts (RawBound p turns R y) line h a e =
    let m = mapped (λ ys. Closing (Leaves.Words p R (Light turns 0 ys))) (weights_of P y) line e in
    let read = weights_fit P y m.0 h.3 (subst (λ o. IfSome (option_map (λ ys. Closing (Leaves.Words p R (Light turns 0 ys))) o) WeightsAscend) m.1 a) m.1 in
    subst (FitsAs P None counts (RawBound p turns R y)) m.2 ((h.0, h.1, h.2, read.0, refl), ap (RawBound p turns R) read.1)
fits_as P None counts RawFew line h a e = absurd h
fits_as P None counts (RawFree turns reward R y) line h a e = absurd h
fits_as P (Some goal) counts RawFew line h a e =
    let same : Closing Leaves.Few ≡ line = cc in
    subst (FitsAs P (Some goal) counts RawFew) same (tt, refl)
fits_as P (Some goal) counts (RawFree turns reward R y) line h a e =
    let m = mapped (λ ys. Closing (Leaves.Words 0 R (Light turns reward ys))) (weights_of P y) line e in
    let read = weights_fit P y m.0 h.3 (subst (λ o. IfSome (option_map (λ ys. Closing (Leaves.Words 0 R (Light turns reward ys))) o) WeightsAscend) m.1 a) m.1 in
    subst (FitsAs P (Some goal) counts (RawFree turns reward R y)) m.2 ((some_cells turns (cells P) h.0.0, h.0, h.2, read.0, (refl, h.1)), ap (RawFree turns reward R) read.1)
fits_as P (Some goal) counts (RawBound p turns R y) line h a e = absurd h

pub spelled_lines_fit : SpelledLinesFit
spelled_lines_fit P goal counts bytes line spells =
    let f = fits_as P goal counts spells.0 line spells.1.in_range spells.1.ascends spells.2 in
    (f.0, spells.1.spelled ∙ ap (line_text P) f.1)

-- weights of the problem are read from their names
weights_back : (P : Instance) (ys : List Weight) → HasNames P → AllByRecursion IsWeight ys → AllByRecursion (IsOf P) ys → AllByRecursion (WeightIsInRange P) (map (named_weight P) ys) × (weights_of P (map (named_weight P) ys) ≡ Some ys)
weights_back P [] names small of = (tt, refl)
weights_back P (e ∷ ys) names small of =
    let rest = weights_back P ys names small.1 of.1 in
    let name = names e.symbol of.0.1 in (
      ((of.0.0, name.0, small.0), rest.0),
      ap (λ o. with_weight (named_weight P e) o (weights_of P (map (named_weight P) ys))) name.1 ∙ ap (with_weight (named_weight P e) (Some e.symbol)) rest.1,
    )

weights_named : (P : Instance) (ys : List Weight) → HasNames P → AreWeightsOf P ys → All (WeightIsInRange P) (map (named_weight P) ys) × (weights_of P (map (named_weight P) ys) ≡ Some ys)
weights_named P ys names h =
    let back = weights_back P ys names (all_to IsWeight ys h.0.small) (all_to (IsOf P) ys h.1) in
    (all_from (WeightIsInRange P) (map (named_weight P) ys) back.0, back.1)

pub spelled_raw : (P : Instance) (goal : Option ℕ) (counts : Bool) (line : Line) → HasNames P → LineFits P goal counts line → IsInRange P goal counts (raw P goal line) × (line_of P (raw P goal line) ≡ Some line) × WeightsAscend line
spelled_raw P goal counts (Split p x) names h = let name = names x h.1 in ((h.0, name.0), ap (option_map (λ z. Split p z)) name.1, tt)
spelled_raw P goal counts (Closing (Leaves.Window rule p len)) names h = (h, refl, tt)
spelled_raw P goal counts (Closing (Leaves.Day day x over)) names h = let name = names x h.1 in ((h.0, name.0), ap (option_map (λ z. Closing (Leaves.Day day z over))) name.1, tt)
spelled_raw P goal counts (Closing (Leaves.Words p R (Dead len))) names h = (h, refl, tt)
spelled_raw P goal false (Closing (Leaves.Blocks x)) names h = let clash : false ≡ true = h.0 in absurd (cc)
spelled_raw P goal true (Closing (Leaves.Blocks x)) names h = let name = names x h.1 in (name.0, ap (option_map (λ z. Closing (Leaves.Blocks z))) name.1, tt)
spelled_raw P goal counts Unfinished names h = (tt, refl, tt)
spelled_raw P None counts (Closing (Leaves.Words p R (Light turns reward y))) names h =
    let back = weights_named P y names h.3 in (
      (h.0, h.1, h.2, back.0),
      ap (option_map (λ ys. Closing (Leaves.Words p R (Light turns 0 ys)))) back.1 ∙ ap (λ r. Some (Closing (Leaves.Words p R (Light turns r y)))) (sym h.4),
      h.3.0.ascends,
    )
spelled_raw P (Some goal) counts (Closing (Leaves.Words p R (Light turns reward y))) names h =
    let back = weights_named P y names h.3 in (
      (h.1, h.4.1, h.2, back.0),
      ap (option_map (λ ys. Closing (Leaves.Words 0 R (Light turns reward ys)))) back.1 ∙ ap (λ q. Some (Closing (Leaves.Words q R (Light turns reward y)))) (sym h.4.0),
      h.3.0.ascends,
    )
spelled_raw P None counts (Closing Leaves.Few) names h = absurd h
spelled_raw P (Some goal) counts (Closing Leaves.Few) names h = (tt, refl, tt)

pub fitting_lines_are_spelled : FittingLinesAreSpelled
fitting_lines_are_spelled P goal counts line names h =
    let s = spelled_raw P goal counts line names h in
    (raw P goal line, record { spelled = refl; in_range = s.0; ascends = subst (λ o. IfSome o WeightsAscend) (sym s.1) s.2 }, s.1)

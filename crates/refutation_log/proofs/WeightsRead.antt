-- Reading weights one after another.
use Rattle.std.proofs.Common.{◌≡◌, ◌≢◌, ℕ, ◌<◌, List, [], ◌∷◌, ◌++◌, length, get_or, refl, ap, sym, ◌∙◌, subst, arith, Option, Some, None, Bool, true, false, length-append}
use Rattle.std.specs.Prelude.{ℤ, AllPairs}
use Rattle.std.specs.Option.{option_map}
use Rattle.std.proofs.lemmas.List.{append-nil, get_or_append_left}
use Rattle.rwsp_terms.specs.declared.data.Symbol.{Symbol}
use Rattle.rwsp_terms.specs.declared.data.Weight.{Weight}
use Rattle.rwsp_terms.specs.Instance.{Instance, symbol_of}
use Rattle.rwsp_terms.specs.Weights.{ComesBefore}
use Rattle.refutation_terms.specs.LogText.{with_weight, weights_of}
use Rattle.rwsp_text.specs.Fields.{NamedWeight, ◌>>=◌, number_in, value_in, is_name, number_at, name_at, value_at, weight_in, weight_from, weight_of_words}
use Rattle.rwsp_terms.specs.declared.limits.TheConstants.{GREATEST_WEIGHT}
use Rattle.refutation_log.specs.declared.gather.Gathered.{Gathered}
use Rattle.refutation_log.specs.declared.gather.Gathered.TheVariants.{Rising, Falling, Unknown}
use Rattle.refutation_log.specs.Reading.{named_weight_at, all_weights_at}
use Rattle.refutation_log.specs.Gathering.{Gives, GivesAll, IsAdded, entry_of}
use Rattle.rwsp_text.proofs.Words.{same_pairs}
use Rattle.refutation_log.proofs.CellsRead.{same_bound, both_behind}

abbrev Left : Type 0
Left = NamedWeight × List (List ℕ)

abbrev left_with : List (List ℕ) → NamedWeight → Left
left_with ws e = (e, ws)

by_three : (P : Instance) (o : Option ℕ) (b : Bool) (u : Option ℤ) (d n v : List ℕ) (ws : List (List ℕ)) → number_in 1 P.days d ≡ o → is_name n ≡ b → value_in GREATEST_WEIGHT v ≡ u → named_weight_at P (d ∷ n ∷ v ∷ ws) ≡ option_map (left_with ws) (weight_from o n b u)
unfolding weight_in number_at name_at value_at
by_three P None b u d n v ws e f g = rw e refl
by_three P (Some j) false u d n v ws e f g = rw (e, f) refl
by_three P (Some j) true None d n v ws e f g = rw (e, f, g) refl
by_three P (Some j) true (Some z) d n v ws e f g = rw (e, f, g) refl

pub weight_is : (P : Instance) (d n v : List ℕ) (ws : List (List ℕ)) → named_weight_at P (d ∷ n ∷ v ∷ ws) ≡ option_map (left_with ws) (weight_of_words P.days GREATEST_WEIGHT d n v)
weight_is P d n v ws = by_three P (number_in 1 P.days d) (is_name n) (value_in GREATEST_WEIGHT v) d n v ws refl refl refl

by_one : (P : Instance) (o : Option ℕ) (d : List ℕ) → number_in 1 P.days d ≡ o → named_weight_at P (d ∷ []) ≡ None
unfolding weight_in number_at name_at value_at
by_one P None d e = rw e refl
by_one P (Some j) d e = rw e refl

by_two : (P : Instance) (o : Option ℕ) (b : Bool) (d n : List ℕ) → number_in 1 P.days d ≡ o → is_name n ≡ b → named_weight_at P (d ∷ n ∷ []) ≡ None
unfolding weight_in number_at name_at value_at
by_two P None b d n e f = rw e refl
by_two P (Some j) false d n e f = rw (e, f) refl
by_two P (Some j) true d n e f = rw (e, f) refl

by_none : (P : Instance) → named_weight_at P [] ≡ None
unfolding weight_in number_at
by_none P = refl

-- what reading a weight gives: its fields, and the rest
abbrev TakesWeight : Instance → List (List ℕ) → NamedWeight → List (List ℕ) → Type 0
TakesWeight P ws e rest = (d : List ℕ) × (n : List ℕ) × (v : List ℕ) × (ws ≡ d ∷ n ∷ v ∷ rest) × (weight_of_words P.days GREATEST_WEIGHT d n v ≡ Some e)

taken_by : (P : Instance) (d n v : List ℕ) (ws : List (List ℕ)) (o : Option NamedWeight) (e : NamedWeight) (rest : List (List ℕ)) → weight_of_words P.days GREATEST_WEIGHT d n v ≡ o → option_map (left_with ws) o ≡ Some (e, rest) → TakesWeight P (d ∷ n ∷ v ∷ ws) e rest
taken_by P d n v ws None e rest t h = absurd (cc)
taken_by P d n v ws (Some a) e rest t h =
    let same : a ≡ e = (same_pairs a e ws rest h).0 in
    let left : ws ≡ rest = (same_pairs a e ws rest h).1 in
    (d, n, v, ap (λ us. d ∷ n ∷ v ∷ us) left, t ∙ ap (λ z. Some z) same)

pub weight_taken : (P : Instance) (ws : List (List ℕ)) (e : NamedWeight) (rest : List (List ℕ)) → named_weight_at P ws ≡ Some (e, rest) → TakesWeight P ws e rest
weight_taken P [] e rest h = let no = by_none P in absurd (cc)
weight_taken P (d ∷ []) e rest h = let no = by_one P (number_in 1 P.days d) d refl in absurd (cc)
weight_taken P (d ∷ n ∷ []) e rest h = let no = by_two P (number_in 1 P.days d) (is_name n) d n refl refl in absurd (cc)
weight_taken P (d ∷ n ∷ v ∷ ws) e rest h = taken_by P d n v ws (weight_of_words P.days GREATEST_WEIGHT d n v) e rest refl (sym (weight_is P d n v ws) ∙ h)

missed_by : (P : Instance) (d n v : List ℕ) (ws : List (List ℕ)) (o : Option NamedWeight) → weight_of_words P.days GREATEST_WEIGHT d n v ≡ o → option_map (left_with ws) o ≡ None → all_weights_at P (d ∷ n ∷ v ∷ ws) ≡ None
missed_by P d n v ws None t h = ap (λ o. o >>= (λ e. all_weights_at P ws >>= (λ y. Some (e ∷ y)))) t
missed_by P d n v ws (Some a) t h = absurd (cc)

pub weight_missed : (P : Instance) (ws : List (List ℕ)) → ws ≢ [] → named_weight_at P ws ≡ None → all_weights_at P ws ≡ None
weight_missed P [] some h = absurd (some refl)
weight_missed P (d ∷ []) some h = refl
weight_missed P (d ∷ n ∷ []) some h = refl
weight_missed P (d ∷ n ∷ v ∷ ws) some h = missed_by P d n v ws (weight_of_words P.days GREATEST_WEIGHT d n v) refl (sym (weight_is P d n v ws) ∙ h)

pub weight_shortens : (P : Instance) (ws : List (List ℕ)) (e : NamedWeight) (rest : List (List ℕ)) → named_weight_at P ws ≡ Some (e, rest) → length rest < length ws
weight_shortens P ws e rest h = let t = weight_taken P ws e rest h in omega (arith, ap length t.3)

-- weights with symbols for their names

pub inverted : (a : NamedWeight) (o : Option Symbol) (p : Option (List Weight)) (z : List Weight) → with_weight a o p ≡ Some z → (x : Symbol) × (y : List Weight) × (o ≡ Some x) × (p ≡ Some y) × (z ≡ entry_of a.day x a.value ∷ y)
inverted a None p z h = absurd (cc)
inverted a (Some x) None z h = absurd (cc)
inverted a (Some x) (Some y) z h = (x, y, refl, refl, let e : entry_of a.day x a.value ∷ y ≡ z = cc in sym e)

pub known_behind : (P : Instance) (y : List NamedWeight) (e : NamedWeight) (z : List Weight) (x : Symbol) → weights_of P y ≡ Some z → symbol_of P e.name ≡ Some x → weights_of P (y ++ e ∷ []) ≡ Some (z ++ entry_of e.day x e.value ∷ [])
known_behind P [] e z x h s =
    let none : [] ≡ z = cc in
    ap (λ o. with_weight e o (Some [])) s ∙ ap (λ w. Some (w ++ entry_of e.day x e.value ∷ [])) none
known_behind P (a ∷ y) e z x h s =
    let i = inverted a (symbol_of P a.name) (weights_of P y) z h in
    ap (λ o. with_weight a o (weights_of P (y ++ e ∷ []))) i.2
    ∙ ap (λ p. with_weight a (Some i.0) p) (known_behind P y e i.1 x i.3 s)
    ∙ ap (λ w. Some (w ++ entry_of e.day x e.value ∷ [])) (sym i.4)

no_rest : (a : NamedWeight) (o : Option Symbol) → with_weight a o None ≡ None
no_rest a None = refl
no_rest a (Some x) = refl

pub unknown_last : (P : Instance) (y : List NamedWeight) (e : NamedWeight) → symbol_of P e.name ≡ None → weights_of P (y ++ e ∷ []) ≡ None
unknown_last P [] e s = ap (λ o. with_weight e o (Some [])) s
unknown_last P (a ∷ y) e s = ap (λ p. with_weight a (symbol_of P a.name) p) (unknown_last P y e s) ∙ no_rest a (symbol_of P a.name)

unknown_by : (P : Instance) (a : NamedWeight) (y : List NamedWeight) (e : NamedWeight) (o : Option Symbol) (p : Option (List Weight)) → symbol_of P a.name ≡ o → weights_of P y ≡ p → (weights_of P y ≡ None → weights_of P (y ++ e ∷ []) ≡ None) → with_weight a o p ≡ None → weights_of P (a ∷ (y ++ e ∷ [])) ≡ None
unknown_by P a y e None p s t rest h = ap (λ o. with_weight a o (weights_of P (y ++ e ∷ []))) s
unknown_by P a y e (Some x) None s t rest h = ap (λ q. with_weight a (symbol_of P a.name) q) (rest t) ∙ no_rest a (symbol_of P a.name)
unknown_by P a y e (Some x) (Some z) s t rest h = absurd (cc)

pub unknown_front : (P : Instance) (y : List NamedWeight) (e : NamedWeight) → weights_of P y ≡ None → weights_of P (y ++ e ∷ []) ≡ None
unknown_front P [] e h = absurd (cc)
unknown_front P (a ∷ y) e h = unknown_by P a y e (symbol_of P a.name) (weights_of P y) refl refl (unknown_front P y e) h

front_pairs : (z : List Weight) (w : Weight) → AllPairs ComesBefore (z ++ w ∷ []) → AllPairs ComesBefore z
front_pairs z w h = λ i j d lt less.
    subst (λ a. ComesBefore a (get_or z j d)) (get_or_append_left z (w ∷ []) d i (omega (arith, lt, less)))
    (subst (λ b. ComesBefore (get_or (z ++ w ∷ []) i d) b) (get_or_append_left z (w ∷ []) d j less)
    (h i j d lt (omega (arith, less, length-append z (w ∷ [])))))

gives_more_by : (P : Instance) (y : List NamedWeight) (e : NamedWeight) (s : Gathered) (o : Option Symbol) (new : Gathered) → Gives P y s → symbol_of P e.name ≡ o → IsAdded s o e.day e.value new → Gives P (y ++ e ∷ []) new
gives_more_by P y e s None new g t h = subst (Gives P (y ++ e ∷ [])) (sym h) (unknown_last P y e t)
gives_more_by P y e Unknown (Some x) new g t h = subst (Gives P (y ++ e ∷ [])) (sym h) (unknown_front P y e g)
gives_more_by P y e Falling (Some x) new g t h =
    subst (Gives P (y ++ e ∷ [])) (sym h) (g.0 ++ entry_of e.day x e.value ∷ [], known_behind P y e g.0 x g.1 t, λ pairs. g.2 (front_pairs g.0 (entry_of e.day x e.value) pairs))
gives_more_by P y e (Rising z) (Some x) (Rising w) g t h = (known_behind P y e z x g.0 t ∙ ap (λ u. Some u) (sym h.0), h.1)
gives_more_by P y e (Rising z) (Some x) Falling g t h = (z ++ entry_of e.day x e.value ∷ [], known_behind P y e z x g.0 t, h)
gives_more_by P y e (Rising z) (Some x) Unknown g t h = absurd h

pub gives_more : (P : Instance) (y : List NamedWeight) (e : NamedWeight) (s new : Gathered) → Gives P y s → IsAdded s (symbol_of P e.name) e.day e.value new → Gives P (y ++ e ∷ []) new
gives_more P y e s new g h = gives_more_by P y e s (symbol_of P e.name) new g refl h

-- what has been read, and what is left
abbrev pub SoFar : Instance → List (List ℕ) → List (List ℕ) → Gathered → Type 0
SoFar P first ws s = (done : List NamedWeight) × Gives P done s × (all_weights_at P first ≡ (all_weights_at P ws >>= (λ y. Some (done ++ y))))

pub so_far_none : (P : Instance) (first : List (List ℕ)) → SoFar P first first (Rising [])
so_far_none P first = ([], (refl, λ i j d lt less. absurd (omega (arith, less))), sym (same_bound (all_weights_at P first)))

one_more : (P : Instance) (ws : List (List ℕ)) (e : NamedWeight) (rest : List (List ℕ)) → TakesWeight P ws e rest → all_weights_at P ws ≡ (all_weights_at P rest >>= (λ y. Some (e ∷ y)))
one_more P ws e rest t =
    ap (all_weights_at P) t.3 ∙ ap (λ o. o >>= (λ a. all_weights_at P rest >>= (λ y. Some (a ∷ y)))) t.4

pub so_far_more : (P : Instance) (first ws rest : List (List ℕ)) (e : NamedWeight) (s new : Gathered) → SoFar P first ws s → named_weight_at P ws ≡ Some (e, rest) → IsAdded s (symbol_of P e.name) e.day e.value new → SoFar P first rest new
so_far_more P first ws rest e s new h t added = (
  h.0 ++ e ∷ [],
  gives_more P h.0 e s new h.1 added,
  h.2 ∙ ap (λ o. o >>= (λ y. Some (h.0 ++ y))) (one_more P ws e rest (weight_taken P ws e rest t)) ∙ both_behind h.0 e (all_weights_at P rest),
)

pub so_far_all : (P : Instance) (first ws : List (List ℕ)) (s : Gathered) → SoFar P first ws s → ws ≡ [] → GivesAll P (all_weights_at P first) (Some s)
so_far_all P first ws s h e =
    let all : all_weights_at P first ≡ Some h.0 = h.2 ∙ ap (λ us. all_weights_at P us >>= (λ y. Some (h.0 ++ y))) e ∙ ap (λ y. Some y) (append-nil h.0) in
    subst (λ o. GivesAll P o (Some s)) (sym all) h.1

pub so_far_missed : (P : Instance) (first ws : List (List ℕ)) (s : Gathered) → SoFar P first ws s → ws ≢ [] → named_weight_at P ws ≡ None → GivesAll P (all_weights_at P first) None
so_far_missed P first ws s h some t =
    let none : all_weights_at P first ≡ None = h.2 ∙ ap (λ o. o >>= (λ y. Some (h.0 ++ y))) (weight_missed P ws some t) in
    subst (λ o. GivesAll P o None) (sym none) tt

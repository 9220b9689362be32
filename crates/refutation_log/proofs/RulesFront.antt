-- Reading ascending numbers from the front.
use Rattle.std.proofs.Common.{◌≡◌, ℕ, ◌+◌, ◌<◌, List, [], ◌∷◌, ◌++◌, length, refl, ap, sym, ◌∙◌, arith, Option, Some, None, append_assoc}
use Rattle.std.specs.Option.{option_map}
use Rattle.std.proofs.lemmas.List.{append-nil}
use Rattle.rwsp_text.specs.Fields.{number_in, number_at, front_onto, rules_front}
use Rattle.rwsp_text.proofs.Words.{same_pairs}

front_by : (high : ℕ) (w : List ℕ) (ws : List (List ℕ)) (o : Option ℕ) (n : ℕ) (rest : List (List ℕ)) → option_map {U = ℕ × List (List ℕ)} (λ m. (m, ws)) o ≡ Some (n, rest) → front_onto o (λ m. rules_front high m ws) (w ∷ ws) ≡ (n ∷ (rules_front high n rest).0, (rules_front high n rest).1)
front_by high w ws None n rest e = absurd (cc)
front_by high w ws (Some m) n rest e =
    let same : m ≡ n = (same_pairs m n ws rest e).0 in
    let left : ws ≡ rest = (same_pairs m n ws rest e).1 in
    ap (λ k. (k ∷ (rules_front high k ws).0, (rules_front high k ws).1)) same ∙ ap (λ us. (n ∷ (rules_front high n us).0, (rules_front high n us).1)) left

pub front_step : (high last n : ℕ) (ws rest : List (List ℕ)) → number_at (last + 1) high ws ≡ Some (n, rest) → rules_front high last ws ≡ (n ∷ (rules_front high n rest).0, (rules_front high n rest).1)
unfolding number_at
front_step high last n [] rest e = absurd (cc)
front_step high last n (w ∷ ws) rest e = front_by high w ws (number_in (last + 1) high w) n rest e

stop_by : (high : ℕ) (w : List ℕ) (ws : List (List ℕ)) (o : Option ℕ) → option_map {U = ℕ × List (List ℕ)} (λ m. (m, ws)) o ≡ None → front_onto o (λ m. rules_front high m ws) (w ∷ ws) ≡ ([], w ∷ ws)
stop_by high w ws None e = refl
stop_by high w ws (Some m) e = absurd (cc)

pub front_stop : (high last : ℕ) (ws : List (List ℕ)) → number_at (last + 1) high ws ≡ None → rules_front high last ws ≡ ([], ws)
unfolding number_at
front_stop high last [] e = refl
front_stop high last (w ∷ ws) e = stop_by high w ws (number_in (last + 1) high w) e

-- what has been read, and what reading on gives
abbrev pub ReadsOn : ℕ → List (List ℕ) → List ℕ → ℕ → List (List ℕ) → Type 0
ReadsOn high first done last ws = rules_front high 0 first ≡ (done ++ (rules_front high last ws).0, (rules_front high last ws).1)

pub reads_on : (high last n : ℕ) (first ws rest : List (List ℕ)) (done more : List ℕ) → ReadsOn high first done last ws → number_at (last + 1) high ws ≡ Some (n, rest) → more ≡ done ++ n ∷ [] → ReadsOn high first more n rest
reads_on high last n first ws rest done more h e f =
    h ∙ ap (λ r. (done ++ r.0, r.1)) (front_step high last n ws rest e)
    ∙ ap (λ t. (t, (rules_front high n rest).1)) (sym (append_assoc done (n ∷ []) (rules_front high n rest).0) ∙ ap (λ t. t ++ (rules_front high n rest).0) (sym f))

pub reads_done : (high last : ℕ) (first ws : List (List ℕ)) (done : List ℕ) → ReadsOn high first done last ws → number_at (last + 1) high ws ≡ None → rules_front high 0 first ≡ (done, ws)
reads_done high last first ws done h e =
    h ∙ ap (λ r. (done ++ r.0, r.1)) (front_stop high last ws e) ∙ ap (λ t. (t, ws)) (append-nil done)

len_by : (ws : List (List ℕ)) (o : Option ℕ) (n : ℕ) (rest : List (List ℕ)) → option_map {U = ℕ × List (List ℕ)} (λ m. (m, ws)) o ≡ Some (n, rest) → ws ≡ rest
len_by ws None n rest e = absurd (cc)
len_by ws (Some m) n rest e = (same_pairs m n ws rest e).1

pub number_shortens : (low high n : ℕ) (ws rest : List (List ℕ)) → number_at low high ws ≡ Some (n, rest) → length rest < length ws
unfolding number_at
number_shortens low high n [] rest e = absurd (cc)
number_shortens low high n (w ∷ ws) rest e = let same = len_by ws (number_in low high w) n rest e in omega (arith, ap length same)

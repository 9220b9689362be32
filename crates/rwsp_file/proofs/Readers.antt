-- Results of reading: what is right is given, and what is given is right.
use Rattle.std.proofs.Common.{◌≡◌, ℕ, zero, suc, ◌<◌, List, [], ◌∷◌, ◌++◌, length, get_or, take, arith, append_assoc, append-nil, Bool, true, false, Option, Some, None, Result, Ok, Err, refl, ap, sym, ◌∙◌, subst, inl, inr, ◌⊎◌}
use Rattle.std.specs.Prelude.{if◌then◌else◌}
use Rattle.rwsp_text.specs.Lexemes.{Lexeme}
use Rattle.rwsp_file.specs.Spelling.{FileField, Spell}
use Rattle.rwsp_file.specs.Reading.{Unread, ◌>>=◌, or_refuse, next_of, next_at}
use Rattle.rwsp_file.specs.declared.misfit.Misfit.{Misfit}
use Rattle.rwsp_file.specs.declared.misfit.Place.{Place}

pub bind_ok : {A B : Type 0} (r : Result A Misfit) (f : A → Result B Misfit) (y : B) → (r >>= f) ≡ Ok y → (x : A) × (r ≡ Ok x) × (f x ≡ Ok y)
bind_ok (Ok x) f y e = (x, refl, e)
bind_ok (Err why) f y e = absurd (cc)

pub then_ok : {A B : Type 0} (r : Result A Misfit) (f : A → Result B Misfit) (x : A) (y : B) → r ≡ Ok x → f x ≡ Ok y → (r >>= f) ≡ Ok y
then_ok r f x y e h = ap (λ s. s >>= f) e ∙ h

abbrev pub given : {A : Type 0} → A → Result A Misfit
given x = Ok x

pub ok_same : {A : Type 0} (x y : A) → given x ≡ Ok y → x ≡ y
ok_same x y e = cc

-- a failure, in place of a value
abbrev pub failed : {X : Type 0} → Misfit → Result X Misfit
failed why = Err why

pub err_same : {X : Type 0} (a b : Misfit) → failed {X = X} a ≡ Err b → a ≡ b
err_same a b e = cc

pub bind_err : {A B : Type 0} (r : Result A Misfit) (f : A → Result B Misfit) (why : Misfit) → (r >>= f) ≡ Err why → (r ≡ Err why) ⊎ ((x : A) × (r ≡ Ok x) × (f x ≡ Err why))
bind_err {A} {B} (Ok x) f why e = inr (x, refl, e)
bind_err {A} {B} (Err a) f why e = inl (ap failed (err_same {X = B} a why e))

pub bind_assoc : {A B C : Type 0} (r : Result A Misfit) (f : A → Result B Misfit) (g : B → Result C Misfit) → ((r >>= f) >>= g) ≡ (r >>= (λ x. f x >>= g))
bind_assoc (Ok x) f g = refl
bind_assoc (Err e) f g = refl

pub bind_same : {A B : Type 0} (r : Result A Misfit) (f g : A → Result B Misfit) → ((x : A) → f x ≡ g x) → (r >>= f) ≡ (r >>= g)
bind_same (Ok x) f g h = h x
bind_same (Err e) f g h = refl

-- a result that is one value or none: what is given is right, and what is right is given
pub record Gives {X : Type 0} (Right : X → Type 0) (r : Result X Misfit) : Type 0 where
  pub found : (x : X) → r ≡ Ok x → Right x
  pub only : (x : X) → Right x → r ≡ Ok x

pub gives_like : {X : Type 0} {Q R : X → Type 0} {r : Result X Misfit} → ((x : X) → Q x → R x) → ((x : X) → R x → Q x) → Gives Q r → Gives R r
gives_like to from g = record { found = λ x e. to x (g.found x e); only = λ x h. g.only x (from x h) }

pub gives_value : {X : Type 0} (x : X) → Gives (λ y. y ≡ x) (Ok x)
gives_value x = record { found = λ y e. sym (ok_same x y e); only = λ y e. ap given (sym e) }

pub gives_some : {X : Type 0} (o : Option X) (why : Misfit) → Gives (λ x. o ≡ Some x) (or_refuse o why)
gives_some None why = record { found = λ x e. absurd (cc); only = λ x e. absurd (cc) }
gives_some (Some y) why = record { found = λ x e. ap Some (ok_same y x e); only = λ x e. ap (λ o. or_refuse o why) e }

pub gives_tested : {X : Type 0} (b : Bool) (x : X) (why : Misfit) → Gives (λ y. (b ≡ true) × (y ≡ x)) (if b then Ok x else Err why)
gives_tested true x why = record { found = λ y e. (refl, sym (ok_same x y e)); only = λ y h. ap given (sym h.1) }
gives_tested false x why = record { found = λ y e. absurd (cc); only = λ y h. let no : false ≡ true = h.0 in absurd (cc) }

-- one thing, which is a part of the whole, and then the rest in sight of it
pub then_gives : {X Y : Type 0} {Q : X → Type 0} {r : Result X Misfit} {R : X → Y → Type 0} {rest : X → Result Y Misfit} (part : Y → X) → Gives Q r → ((x : X) → Q x → Gives (R x) (rest x)) → ((x : X) (y : Y) → R x y → part y ≡ x) →
    Gives (λ y. Q (part y) × R (part y) y) (r >>= rest)
then_gives {Q = Q} {r = r} {R = R} {rest = rest} part one more same = record {
  found = λ y e.
      let a = bind_ok r rest y e in
      let q : Q a.0 = one.found a.0 a.1 in
      let c : R a.0 y = (more a.0 q).found y a.2 in
      subst (λ x. Q x × R x y) (sym (same a.0 y c)) (q, c);
  only = λ y h. then_ok r rest (part y) y (one.only (part y) h.0) ((more (part y) h.0).only y h.1);
}

lexemes_in : Result (Lexeme × Unread) Misfit → List Lexeme
lexemes_in (Ok x) = x.0 ∷ x.1.lexemes
lexemes_in (Err why) = []

next_of_found : (awaited : Place) (end : ℕ) (ls : List Lexeme) (v : Unread) (w : Lexeme) → next_of awaited end ls ≡ Ok (w, v) → ls ≡ w ∷ v.lexemes
unfolding lexemes_in
next_of_found awaited end [] v w e = absurd (cc)
next_of_found awaited end (x ∷ xs) v w e = ap lexemes_in e

-- the next lexeme, both ways
pub next_found : (awaited : Place) (u v : Unread) (w : Lexeme) → next_at awaited u ≡ Ok (w, v) → u.lexemes ≡ w ∷ v.lexemes
unfolding next_at
next_found awaited u v w e = next_of_found awaited u.end u.lexemes v w e

pub next_only : (awaited : Place) (u : Unread) (w : Lexeme) (ws : List Lexeme) → u.lexemes ≡ w ∷ ws → next_at awaited u ≡ Ok (w, record { lexemes = ws; end = u.end })
unfolding next_at
next_only awaited u w ws e = ap (next_of awaited u.end) e

-- nothing is spelled by no lexemes but no fields
pub no_lexemes : (f : FileField) (fs : List FileField) → Spell (f ∷ fs) [] → ⊥
no_lexemes f fs h = h

abbrev pub one_word : {X : Type 0} → Place → (Lexeme → Result X Misfit) → Unread → Result (X × Unread) Misfit
one_word awaited give u = next_at awaited u >>= (λ w. give w.0 >>= (λ x. Ok (x, w.1)))

-- many readings of one kind
abbrev pub AllAfter : {X : Type 0} → (List X → X → Type 0) → List X → List X → Type 0
AllAfter V all [] = Unit {0}
AllAfter V all (x ∷ xs) = V all x × AllAfter V (all ++ x ∷ []) xs

pub after_at : {X : Type 0} (V : List X → X → Type 0) (all xs : List X) → AllAfter V all xs → (i : ℕ) (d : X) → i < length xs → V (all ++ take i xs) (get_or xs i d)
after_at V all [] h i d less = absurd (omega (arith, less))
after_at V all (x ∷ xs) h zero d less = subst (λ es. V es x) (sym (append-nil all)) h.0
after_at V all (x ∷ xs) h (suc n) d less = subst (λ es. V es (get_or xs n d)) (append_assoc all (x ∷ []) (take n xs)) (after_at V (all ++ x ∷ []) xs h.1 n d (omega (arith, less)))

pub after_from : {X : Type 0} (V : List X → X → Type 0) (all xs : List X) → ((i : ℕ) (d : X) → i < length xs → V (all ++ take i xs) (get_or xs i d)) → AllAfter V all xs
after_from V all [] h = tt
after_from V all (x ∷ xs) h = (
  subst (λ es. V es x) (append-nil all) (h 0 x (omega arith)),
  after_from V (all ++ x ∷ []) xs (λ i d less. subst (λ es. V es (get_or xs i d)) (sym (append_assoc all (x ∷ []) (take i xs))) (h (suc i) d (omega (arith, less)))),
)

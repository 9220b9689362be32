-- The lexemes of a text that begins with the end of a line, a space, a word or a comment.
use Rattle.std.proofs.Common.{◌≡◌, ℕ, suc, arith, take, append-nil, ◌+◌, List, [], ◌∷◌, ◌++◌, map, true, false, refl, ap, sym, ◌∙◌, subst, cond, Bool, eqb-true}
use Rattle.std.specs.Prelude.{filter, take_while, not, ◌==◌, slice_index, ◌||◌}
use Rattle.std.specs.List.{flat_map, enumerate_from, slice_split, onto_first, AllByRecursion, prefix_len}
use Rattle.rwsp_text.specs.Lexemes.{Lexeme, words_of_line, lines_of, is_space, has_some}
use Rattle.rwsp_text.proofs.Steps.{AtLineEnd, AtSpace, AtWord, IsWordByte, Ends, IsNoLineEnd, EndsLine, AtComment}

pub at_line_end : AtLineEnd
at_line_end n bs = refl

abbrev line_lexemes : ℕ → List (List ℕ) → List Lexeme
line_lexemes n ls = flat_map (λ l. map (λ word. record { text = word; line = l.0 }) (words_of_line l.1)) (enumerate_from n ls)

-- a line that begins with a space has the lexemes of the rest
pub space_line : (b : ℕ) (l : List ℕ) → is_space b ≡ true → words_of_line (b ∷ l) ≡ words_of_line l
space_line b l h = ap (λ k. take_while (λ word. not (slice_index word 0 == 35)) (filter has_some (cond k ([] ∷ slice_split is_space l) (onto_first b (slice_split is_space l))))) h

onto_space : (n b : ℕ) (ls : List (List ℕ)) → is_space b ≡ true → line_lexemes n (onto_first b ls) ≡ line_lexemes n ls
onto_space n b [] h = ap (λ ws. map (λ word. record { text = word; line = n }) ws ++ line_lexemes (n + 1) []) (space_line b [] h)
onto_space n b (l ∷ ls) h = ap (λ ws. map (λ word. record { text = word; line = n }) ws ++ line_lexemes (n + 1) ls) (space_line b l h)

no_end : (b : ℕ) → is_space b ≡ true → (b == 10) ≡ true → ⊥
no_end b h e =
    let ten : b ≡ 10 = eqb-true b 10 e in
    let both : is_space 10 ≡ true = subst (λ k. is_space k ≡ true) ten h in
    cc

by_test : (n b : ℕ) (bs : List ℕ) → is_space b ≡ true → (k : Bool) → (b == 10) ≡ k → line_lexemes n (cond k ([] ∷ lines_of bs) (onto_first b (lines_of bs))) ≡ line_lexemes n (lines_of bs)
by_test n b bs h true e = absurd (no_end b h e)
by_test n b bs h false e = onto_space n b (lines_of bs) h

pub at_space : AtSpace
at_space n b bs h = by_test n b bs h (b == 10) refl

-- a word byte goes onto the first part
onto_word : (b : ℕ) (l : List ℕ) → is_space b ≡ false → slice_split is_space (b ∷ l) ≡ onto_first b (slice_split is_space l)
onto_word b l h = ap (λ k. cond k ([] ∷ slice_split is_space l) (onto_first b (slice_split is_space l))) h

onto_line : (b : ℕ) (bs : List ℕ) → (b == 10) ≡ false → lines_of (b ∷ bs) ≡ onto_first b (lines_of bs)
onto_line b bs h = ap (λ k. cond k ([] ∷ lines_of bs) (onto_first b (lines_of bs))) h

onto_cut : (b : ℕ) (parts : List (List ℕ)) (first : List ℕ) (rest : List (List ℕ)) → parts ≡ first ∷ rest → onto_first b parts ≡ (b ∷ first) ∷ rest
onto_cut b parts first rest e = ap (onto_first b) e

-- a whole word in front of a text goes onto its first line
lines_word : (t bs first : List ℕ) (rest : List (List ℕ)) → AllByRecursion IsWordByte t → lines_of bs ≡ first ∷ rest → lines_of (t ++ bs) ≡ (t ++ first) ∷ rest
lines_word [] bs first rest h e = e
lines_word (b ∷ t) bs first rest h e = onto_line b (t ++ bs) h.0.1 ∙ onto_cut b (lines_of (t ++ bs)) (t ++ first) rest (lines_word t bs first rest h.1 e)

parts_word : (t bs first : List ℕ) (rest : List (List ℕ)) → AllByRecursion IsWordByte t → slice_split is_space bs ≡ first ∷ rest → slice_split is_space (t ++ bs) ≡ (t ++ first) ∷ rest
parts_word [] bs first rest h e = e
parts_word (b ∷ t) bs first rest h e = onto_word b (t ++ bs) h.0.0 ∙ onto_cut b (slice_split is_space (t ++ bs)) (t ++ first) rest (parts_word t bs first rest h.1 e)

-- there is always a first part
abbrev Cut : (ℕ → Bool) → List ℕ → Type 0
Cut p bs = (first : List ℕ) × (rest : List (List ℕ)) × (slice_split p bs ≡ first ∷ rest)

cut_by : (p : ℕ → Bool) (b : ℕ) (bs : List ℕ) → Cut p bs → (k : Bool) → p b ≡ k → Cut p (b ∷ bs)
cut_by p b bs c true e = ([], slice_split p bs, ap (λ k. cond k ([] ∷ slice_split p bs) (onto_first b (slice_split p bs))) e)
cut_by p b bs c false e = (b ∷ c.0, c.1, ap (λ k. cond k ([] ∷ slice_split p bs) (onto_first b (slice_split p bs))) e ∙ onto_cut b (slice_split p bs) c.0 c.1 c.2)

cut : (p : ℕ → Bool) (bs : List ℕ) → Cut p bs
cut p [] = ([], [], refl)
cut p (b ∷ bs) = cut_by p b bs (cut p bs) (p b) refl

-- the rest behind a word: its first line is empty or begins with a space
abbrev Behind : List ℕ → Type 0
Behind bs = (first : List ℕ) × (rest : List (List ℕ)) × (parts : List (List ℕ)) × (lines_of bs ≡ first ∷ rest) × (slice_split is_space first ≡ [] ∷ parts)

space_or : (b c : Bool) → (b || c) ≡ true → c ≡ false → b ≡ true
space_or true c h e = refl
space_or false c h e = absurd (let both : true ≡ false = sym h ∙ e in cc)

behind_by : (b : ℕ) (bs : List ℕ) → (is_space b || (b == 10)) ≡ true → (k : Bool) → (b == 10) ≡ k → Behind (b ∷ bs)
behind_by b bs h true e = ([], lines_of bs, [], ap (λ k. cond k ([] ∷ lines_of bs) (onto_first b (lines_of bs))) e, refl)
behind_by b bs h false e =
    let c = cut (λ b. b == 10) bs in
    let space : is_space b ≡ true = space_or (is_space b) (b == 10) h e in
    (b ∷ c.0, c.1, slice_split is_space c.0, onto_line b bs e ∙ onto_cut b (lines_of bs) c.0 c.1 c.2, ap (λ k. cond k ([] ∷ slice_split is_space c.0) (onto_first b (slice_split is_space c.0))) space)

behind : (bs : List ℕ) → Ends bs → Behind bs
behind [] e = ([], [], [], refl, refl)
behind (b ∷ bs) e = behind_by b bs e (b == 10) refl

abbrev is_no_comment : List ℕ → Bool
is_no_comment word = not (slice_index word 0 == 35)

keep_word : (w : List ℕ) (xs : List (List ℕ)) → (slice_index w 0 == 35) ≡ false → take_while is_no_comment (w ∷ xs) ≡ w ∷ take_while is_no_comment xs
keep_word w xs h =
    let k = prefix_len is_no_comment xs in
    let one_more : 1 + k ≡ suc k = omega arith in
    ap (λ v. take (cond (not v) (1 + k) 0) (w ∷ xs)) h ∙ ap (λ m. take m (w ∷ xs)) one_more

pub line_word : (b : ℕ) (t first : List ℕ) (parts : List (List ℕ)) → (b == 35) ≡ false → AllByRecursion IsWordByte (b ∷ t) → slice_split is_space first ≡ [] ∷ parts → words_of_line ((b ∷ t) ++ first) ≡ (b ∷ t) ∷ words_of_line first
line_word b t first parts h all e =
    let long = parts_word (b ∷ t) first [] parts all e in
    let same : (b ∷ t) ++ [] ≡ b ∷ t = append-nil (b ∷ t) in
    ap (λ ps. take_while is_no_comment (filter has_some ps)) (long ∙ ap (λ w. w ∷ parts) same)
    ∙ keep_word (b ∷ t) (filter has_some parts) h
    ∙ ap (λ ps. (b ∷ t) ∷ take_while is_no_comment (filter has_some ps)) (sym e)

pub at_word : AtWord
at_word n b t bs h all ends =
    let c = behind bs ends in
    let long = lines_word (b ∷ t) bs c.0 c.1 all c.3 in
    ap (line_lexemes n) long
    ∙ ap (λ ws. map (λ word. record { text = word; line = n }) ws ++ line_lexemes (n + 1) c.1) (line_word b t c.0 c.2 h all c.4)
    ∙ ap (λ ls. record { text = b ∷ t; line = n } ∷ line_lexemes n ls) (sym c.3)

lines_no_end : (t bs first : List ℕ) (rest : List (List ℕ)) → AllByRecursion IsNoLineEnd t → lines_of bs ≡ first ∷ rest → lines_of (t ++ bs) ≡ (t ++ first) ∷ rest
lines_no_end [] bs first rest h e = e
lines_no_end (b ∷ t) bs first rest h e = onto_line b (t ++ bs) h.0 ∙ onto_cut b (lines_of (t ++ bs)) (t ++ first) rest (lines_no_end t bs first rest h.1 e)

comment_line : (t : List ℕ) → words_of_line (35 ∷ t) ≡ []
comment_line t = let c = cut is_space t in ap (λ ps. take_while is_no_comment (filter has_some (onto_first 35 ps))) c.2

-- what follows a comment begins with an empty line
abbrev Empty : List ℕ → Type 0
Empty bs = (rest : List (List ℕ)) × (lines_of bs ≡ [] ∷ rest)

empty_line : (bs : List ℕ) → EndsLine bs → Empty bs
empty_line [] e = ([], refl)
empty_line (b ∷ bs) e = (lines_of bs, ap (λ c. lines_of (c ∷ bs)) e)

pub at_comment : AtComment
at_comment n t bs h ends =
    let c = empty_line bs ends in
    let all : AllByRecursion IsNoLineEnd (35 ∷ t) = (refl, h) in
    ap (line_lexemes n) (lines_no_end (35 ∷ t) bs [] c.0 all c.1)
    ∙ ap (λ ws. map (λ word. record { text = word; line = n }) ws ++ line_lexemes (n + 1) c.0) (comment_line (t ++ []))
    ∙ ap (line_lexemes n) (sym c.1)

-- Texts in which no cell is left open.
use Rattle.std.proofs.Common.{◌≡◌, ℕ, ◌+◌, ◌<◌, ◌≤◌, List, [], ◌∷◌, ◌++◌, length, get_or, drop, Option, Some, None, false, cond, ◌||◌, refl, ap, sym, ◌∙◌, append_assoc, append-nil}
use Rattle.std.specs.Prelude.{map, is_none, ◌==◌}
use Rattle.std.specs.List.{list_any, flat_map}
use Rattle.std.specs.Option.{option_map, option_or}
use Rattle.std.proofs.lemmas.List.{drop_all, drop_more}
use Rattle.rwsp_terms.specs.Instance.{Instance, symbol_of}
use Rattle.rwsp_terms.specs.declared.data.Symbol.{Symbol}
use Rattle.roster_print.specs.Said.{said_of, or_off}
use Rattle.roster_print.specs.RosterText.{weeks_of, SpellsWeeks, SpellsRoster}
use Rattle.roster_print.specs.Refusal.{numbered_weeks, week_refusal, first_refusal, count_refusal, refusal_of_weeks, refusal_of_roster}
use Rattle.roster_print.specs.declared.refusal.RosterRefusal.TheVariants.{Unknown, Width}

-- the symbols one by one

pub one_more : (said : List (Option Symbol)) (i : ℕ) (d : Option Symbol) (x : Symbol) (symbols new : List Symbol) → i < length said → symbols ++ map or_off (drop i said) ≡ map or_off said → x ≡ or_off (get_or said i d) → new ≡ symbols ++ x ∷ [] → new ++ map or_off (drop (i + 1) said) ≡ map or_off said
one_more said i d x symbols new h inv e pushed =
    let rest = map or_off (drop (i + 1) said) in
    ap (λ s. s ++ rest) pushed
    ∙ append_assoc symbols (x ∷ []) rest
    ∙ ap (λ y. symbols ++ y ∷ rest) e
    ∙ ap (λ s. symbols ++ map or_off s) (sym (drop_more said i d h))
    ∙ inv

pub all_symbols : (said : List (Option Symbol)) (i : ℕ) (symbols : List Symbol) → length said ≤ i → symbols ++ map or_off (drop i said) ≡ map or_off said → symbols ≡ map or_off said
all_symbols said i symbols h inv = sym (append-nil symbols) ∙ ap (λ s. symbols ++ map or_off s) (sym (drop_all i said h)) ∙ inv

-- a word says its symbol, or nothing

said_symbol : (found : Option Symbol) (o : Option Symbol) → option_map Some found ≡ Some o → found ≡ Some (or_off o)
said_symbol None o e = absurd (cc)
said_symbol (Some x) None e = absurd (cc)
said_symbol (Some x) (Some y) e = cc

closed_names : (P : Instance) (words : List (List ℕ)) (said : List (Option Symbol)) → map (said_of P false) words ≡ map Some said → map (symbol_of P) words ≡ map Some (map or_off said)
closed_names P [] [] e = refl
closed_names P [] (o ∷ said) e = absurd (cc)
closed_names P (word ∷ words) [] e = absurd (cc)
closed_names P (word ∷ words) (o ∷ said) e =
    let first : said_of P false word ≡ Some o = cc in
    let one : symbol_of P word ≡ Some (or_off o) = said_symbol (symbol_of P word) o first in
    let rest : map (symbol_of P) words ≡ map Some (map or_off said) = closed_names P words said (cc) in
    ap (λ x. x ∷ map (symbol_of P) words) one ∙ ap (λ xs. Some (or_off o) ∷ xs) rest

pub closed_spells : (P : Instance) (bytes : List ℕ) (said : List (Option Symbol)) (s : List Symbol) → s ≡ map or_off said → SpellsWeeks P (said_of P false) bytes said → SpellsRoster P bytes s
closed_spells P bytes said s is a = record {
  weeks = a.weeks;
  days = a.days;
  names = closed_names P (flat_map (λ week. week) (weeks_of bytes)) said a.names ∙ ap (map Some) (sym is);
}

-- so the refusals are the same

same_none : (o : Option Symbol) → is_none (option_map Some o) ≡ is_none o
same_none None = refl
same_none (Some x) = refl

same_unknown : (P : Instance) (words : List (List ℕ)) → list_any (λ word. is_none (said_of P false word)) words ≡ list_any (λ word. is_none (symbol_of P word)) words
same_unknown P [] = refl
same_unknown P (word ∷ words) =
    ap (λ b. b || list_any (λ w. is_none (said_of P false w)) words) (same_none (symbol_of P word))
    ∙ ap (λ b. is_none (symbol_of P word) || b) (same_unknown P words)

same_week : (P : Instance) (week : ℕ × List (List ℕ)) → week_refusal P (said_of P false) week ≡ week_refusal P (symbol_of P) week
same_week P week = ap (λ b. cond b (Some (Unknown week.0)) (cond (length week.1 == P.days) None (Some (Width week.0)))) (same_unknown P week.1)

same_first : (P : Instance) (weeks : List (ℕ × List (List ℕ))) → first_refusal P (said_of P false) weeks ≡ first_refusal P (symbol_of P) weeks
same_first P [] = refl
same_first P (week ∷ weeks) =
    ap (λ o. option_or o (first_refusal P (said_of P false) weeks)) (same_week P week)
    ∙ ap (option_or (week_refusal P (symbol_of P) week)) (same_first P weeks)

pub closed_refusal : (P : Instance) (bytes : List ℕ) → refusal_of_weeks P (said_of P false) bytes ≡ refusal_of_roster P bytes
closed_refusal P bytes = ap (λ o. option_or o (count_refusal P (length (weeks_of bytes)))) (same_first P (numbered_weeks bytes))

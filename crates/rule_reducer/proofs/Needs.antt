-- Descents: what they drop, and that what the last one leaves is needed.
use Rattle.std.proofs.Common.{◌≡◌, ℕ, zero, suc, ◌-◌, ◌<◌, ◌≤◌, List, [], ◌∷◌, length, get_or, reverse, ap, sym, ◌∙◌, subst, arith, ◌⊎◌, inl, inr, ⊎_elim}
use Rattle.std.specs.Prelude.{All, Contains}
use Rattle.std.proofs.lemmas.List.{get_or-reverse, length-reverse}
use Rattle.std.proofs.lemmas.List.Elements.{All-head, All-tail, Contains-get_or}
use Rattle.rwsp_terms.specs.Instance.{Instance}
use Rattle.rwsp_terms.proofs.Ascending.{Contains-cons}
use Rattle.refutation_terms.specs.Log.{Log, Passes}
use Rattle.refutation_terms.specs.Strip.{strip, StripsTo, DescendsTo, ReducesIn, IsReduced, NeedsEachRule}
use Rattle.rule_reducer.proofs.Kept.{not_longer, shorter}

strips_no_longer : (P : Instance) (list : List ℕ) (g h : Log) → StripsTo P list g h → length h.named ≤ length g.named
strips_no_longer P [] g h s = let l = ap (λ (x : Log). length x.named) s in omega (arith, l)
strips_no_longer P (n ∷ rest) g h (inl q) =
    let more = strips_no_longer P rest (strip P n g) h q.1 in
    let less = not_longer n g.named in
    omega (arith, more, less)
strips_no_longer P (n ∷ rest) g h (inr q) = strips_no_longer P rest g h q.1

-- nothing was dropped, or fewer rules are named
unchanged_or_less : (P : Instance) (list : List ℕ) (g h : Log) → All (Contains g.named) list → StripsTo P list g h → (h ≡ g) ⊎ (length h.named < length g.named)
unchanged_or_less P [] g h all s = inl (sym s)
unchanged_or_less P (n ∷ rest) g h all (inl q) =
    let more = strips_no_longer P rest (strip P n g) h q.1 in
    let less = shorter n g.named (All-head (Contains g.named) n rest all) in
    inr (omega (arith, more, less))
unchanged_or_less P (n ∷ rest) g h all (inr q) = unchanged_or_less P rest g h (All-tail (Contains g.named) n rest all) q.1

-- where nothing is dropped, the log passes without none of the rules
none_to_drop : (P : Instance) (list : List ℕ) (g : Log) → All (Contains g.named) list → StripsTo P list g g → (n : ℕ) → Contains list n → Passes P (strip P n g) → ⊥
none_to_drop P [] g all s n c passes = omega (arith, c.1)
none_to_drop P (m ∷ rest) g all (inl q) n c passes =
    let more = strips_no_longer P rest (strip P m g) g q.1 in
    let less = shorter m g.named (All-head (Contains g.named) m rest all) in
    omega (arith, more, less)
none_to_drop P (m ∷ rest) g all (inr q) n c passes =
    ⊎_elim
    (λ (later : Contains rest n). none_to_drop P rest g (All-tail (Contains g.named) m rest all) q.1 n later passes)
    (λ (e : n ≡ m). q.0 (subst (λ k. Passes P (strip P k g)) e passes))
    (Contains-cons m rest n c)

-- the rules of a descent are those that are named
reversed_within : (R : List ℕ) → All (Contains R) (reverse R)
reversed_within R k d less =
    let long : length (reverse R) ≡ length R = length-reverse R in
    let lt : k < length R = omega arith in
    subst (Contains R) (sym (get_or-reverse R k d lt)) (Contains-get_or R (length R - 1 - k) d (omega arith))

reversed_holds : (R : List ℕ) (n : ℕ) → Contains R n → Contains (reverse R) n
reversed_holds R n c =
    let long : length (reverse R) ≡ length R = length-reverse R in
    let k = length R - 1 - c.0 in
    let lt : k < length R = omega (arith, c.1) in
    let e : length R - 1 - k ≡ c.0 = omega (arith, c.1) in
    (k, omega arith, get_or-reverse R k n lt ∙ ap (λ i. get_or R i n) e ∙ c.2)

pub descent_drops : (P : Instance) (g h : Log) → DescendsTo P g h → (h ≡ g) ⊎ (length h.named < length g.named)
descent_drops P g h s = unchanged_or_less P (reverse g.named) g h (reversed_within g.named) s

last_needs : (P : Instance) (g : Log) → DescendsTo P g g → NeedsEachRule P g
last_needs P g s = λ n c passes. none_to_drop P (reverse g.named) g (reversed_within g.named) s n (reversed_holds g.named n c) passes

steps_need : (P : Instance) (n : ℕ) (g h : Log) → ReducesIn P n g h → NeedsEachRule P h
steps_need P zero g h r = subst (NeedsEachRule P) r.1 (last_needs P g r.0)
steps_need P (suc n) g h r = steps_need P n r.0 h r.3

pub needs_each : (P : Instance) (g h : Log) → IsReduced P g h → NeedsEachRule P h
needs_each P g h r = steps_need P r.0 g h r.1

-- The loops of descents.
use Rattle.std.proofs.Common.{◌≡◌, ◌≢◌, ℕ, suc, ◌+◌, ◌-◌, ◌<◌, List, [], ◌∷◌, ◌++◌, length, get_or, drop, reverse, ap, sym, ◌∙◌, subst, arith, inl, inr, ⊎_elim}
use Rattle.std.proofs.Math.Seq.{drop-cons}
use Rattle.std.proofs.lemmas.List.{drop_all}
use Rattle.std.proofs.lemmas.Grind.{reverse_onto}
use Rattle.std.proofs.lemmas.Option.{get_or_from_slice_get}
use Rattle.std.specs.Prelude.{slice_get, Some}
use Rattle.rwsp_terms.specs.Instance.{Instance}
use Rattle.refutation_terms.specs.Log.{Log, Passes}
use Rattle.refutation_terms.specs.Strip.{strip, StripsTo, DescendsTo, IsReduced}
use Rattle.rule_reducer.proofs.Needs.{descent_drops}

-- the log after `done` steps of a descent
pub record DescentSoFar (P : Instance) (g h : Log) (done : ℕ) : Type 0 where
  pub passes : Passes P h
  pub strips : StripsTo P (reverse (drop (length g.named - done) g.named)) g h

strips_on : (P : Instance) (list : List ℕ) (n : ℕ) (g h next : Log) → StripsTo P list g h → StripsTo P (n ∷ []) h next → StripsTo P (list ++ n ∷ []) g next
strips_on P [] n g h next s t = subst (λ (x : Log). StripsTo P (n ∷ []) x next) (sym s) t
strips_on P (m ∷ rest) n g h next (inl q) t = inl (q.0, strips_on P rest n (strip P m g) h next q.1 t)
strips_on P (m ∷ rest) n g h next (inr q) t = inr (q.0, strips_on P rest n g h next q.1 t)

still_passes : (P : Instance) (n : ℕ) (h next : Log) → Passes P h → StripsTo P (n ∷ []) h next → Passes P next
still_passes P n h next passes (inl d) = subst (Passes P) d.1 d.0
still_passes P n h next passes (inr d) = subst (Passes P) d.1 passes

pub descent_begins : (P : Instance) (g h : Log) → h ≡ g → Passes P g → DescentSoFar P g h 0
descent_begins P g h e passes = record {
  passes = subst (Passes P) (sym e) passes;
  strips = subst (λ l. StripsTo P (reverse l) g h) (sym (drop_all (length g.named - 0) g.named (omega arith))) (sym e);
}

-- the rules from place k on, backwards
one_more : (R : List ℕ) (k n : ℕ) → k < length R → get_or R k 0 ≡ n → reverse (drop k R) ≡ reverse (drop (suc k) R) ++ n ∷ []
one_more R k n less e =
    ap reverse (drop-cons R k 0 less ∙ ap (λ m. m ∷ drop (suc k) R) e) ∙ reverse_onto (drop (suc k) R) n []

pub descent_goes_on : (P : Instance) (g h next : Log) (done n : ℕ) → DescentSoFar P g h done → done < length g.named → slice_get g.named (length g.named - 1 - done) ≡ Some n → StripsTo P (n ∷ []) h next → DescentSoFar P g next (done + 1)
descent_goes_on P g h next done n so less at d =
    let k = length g.named - (done + 1) in
    let place : length g.named - 1 - done ≡ k = omega arith in
    let behind : length g.named - done ≡ suc k = omega (arith, less) in
    let here : get_or g.named k 0 ≡ n = get_or_from_slice_get g.named k n 0 (subst (λ i. slice_get g.named i ≡ Some n) place at) in
    let list = one_more g.named k n (omega (arith, less)) here in
    record {
      passes = still_passes P n h next so.passes d;
      strips = subst (λ l. StripsTo P l g next) (sym list)
          (strips_on P (reverse (drop (suc k) g.named)) n g h next (subst (λ i. StripsTo P (reverse (drop i g.named)) g h) behind so.strips) d);
    }

-- descents from the log on reduce what they began with
pub record ReducesSoFar (P : Instance) (g h : Log) : Type 0 where
  pub passes : Passes P h
  pub reduces : (end : Log) → IsReduced P h end → IsReduced P g end

pub reducing_goes_on : (P : Instance) (g h next : Log) → ReducesSoFar P g h → DescendsTo P h next → Passes P next → length next.named ≢ length h.named → ReducesSoFar P g next
reducing_goes_on P g h next so s passes ne = record {
  passes = passes;
  reduces = λ end r. so.reduces end (suc r.0, (next, s, (λ e. ne (ap (λ (x : Log). length x.named) e)), r.1));
}

pub reducing_ends : (P : Instance) (g h next : Log) → ReducesSoFar P g h → DescendsTo P h next → length next.named ≡ length h.named → IsReduced P g next
reducing_ends P g h next so s same =
    ⊎_elim
    (λ (e : next ≡ h). so.reduces next (0, (subst (DescendsTo P h) e s, sym e)))
    (λ (l : length next.named < length h.named). absurd (omega (arith, l, same)))
    (descent_drops P h next s)

pub reducing_shortens : (P : Instance) (h next : Log) → DescendsTo P h next → length next.named ≢ length h.named → length next.named < length h.named
reducing_shortens P h next s ne =
    ⊎_elim
    (λ (e : next ≡ h). absurd (ne (ap (λ (x : Log). length x.named) e)))
    (λ (l : length next.named < length h.named). l)
    (descent_drops P h next s)

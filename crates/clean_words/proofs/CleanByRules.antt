-- A word is clean for a list exactly where no rule of the list breaks it.
use Rattle.std.proofs.Common.{◌≡◌, ℕ, ◌+◌, ◌<◌, List, ◌∷◌, length, Some, None, Bool, true, false, cond, refl, ap, ◌∙◌}
use Rattle.std.specs.Prelude.{slice_get}
use Rattle.std.proofs.lemmas.Option.{same_Some, slice_get-get_or, slice_get_within, get_or_from_slice_get}
use Rattle.rwsp_terms.specs.declared.data.Symbol.{Symbol}
use Rattle.rwsp_terms.specs.Instance.{Instance}
use Rattle.refutation_terms.specs.Word.{Clean}
use Rattle.clean_words.specs.declared.monitor.Monitor.{Monitor}
use Rattle.clean_words.specs.Monitors.{stops_of, to_of, next_of, run, Spares}

-- none of the first rules does
abbrev pub SpareTo : Instance → List ℕ → ℕ → List Symbol → ℕ → Type 0
SpareTo P R p w place = (i k : ℕ) → i < place → slice_get R i ≡ Some k → Spares P k p w

pub spared : (P : Instance) (R : List ℕ) (p : ℕ) (w : List Symbol) (i k : ℕ) → slice_get R i ≡ Some k → Clean P R p w → Spares P k p w
spared P R p w i k here clean r is = clean r (k, (i, slice_get_within R i k here, get_or_from_slice_get R i k k here), is)

pub clean_by : (P : Instance) (R : List ℕ) (p : ℕ) (w : List Symbol) → SpareTo P R p w (length R) → Clean P R p w
clean_by P R p w spare r (k, (i, within, here), is) = spare i k within (slice_get-get_or R i k within ∙ ap Some here) r is

-- the monitor goes along a word symbol by symbol

pub run_on : (m : Monitor) (p s t : ℕ) (x : Symbol) (u : List Symbol) → next_of m p s x ≡ Some t → run m p s (x ∷ u) ≡ run m (p + 1) t u
run_on m p s t x u = by_stop (stops_of m s x)
  where
    by_stop : (b : Bool) → cond b None (Some (to_of m p s x)) ≡ Some t → cond b None (run m (p + 1) (to_of m p s x) u) ≡ run m (p + 1) t u
    by_stop true e = absurd (cc)
    by_stop false e = ap (λ k. run m (p + 1) k u) (same_Some (to_of m p s x) t e)

pub run_off : (m : Monitor) (p s : ℕ) (x : Symbol) (u : List Symbol) → next_of m p s x ≡ None → run m p s (x ∷ u) ≡ None
run_off m p s x u = by_stop (stops_of m s x)
  where
    by_stop : (b : Bool) → cond b None (Some (to_of m p s x)) ≡ None → cond b None (run m (p + 1) (to_of m p s x) u) ≡ None
    by_stop true e = refl
    by_stop false e = absurd (cc)

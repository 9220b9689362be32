-- One step of reading many things.
use Rattle.std.proofs.Common.{◌≡◌, ℕ, length, length-append, suc, ◌+◌, ◌-◌, ◌<◌, ◌≤◌, sym, List, [], ◌∷◌, ◌++◌, Result, Ok, Err, ap, ◌∙◌, arith, refl, subst}
use Rattle.rwsp_file.specs.Reading.{Unread, many, each, ◌>>=◌}
use Rattle.std.specs.Result.{MatchResult, IsErrAnd}
use Rattle.rwsp_file.specs.Reads.{ReadsTokens, ReadsUnless}
use Rattle.rwsp_model.specs.declared.fail.Fail.{Fail}
use Rattle.rwsp_model.specs.declared.fail.Fail.TheVariants.{Refused, Memory}
use Rattle.rwsp_file.specs.declared.misfit.Misfit.{Misfit}

pub many_suc : {X : Type 0} (read : List X → Unread → Result (X × Unread) Misfit) (n : ℕ) (all : List X) (u : Unread) → many read (suc n) all u ≡ (read all u >>= (λ x. many read n (all ++ x.0 ∷ []) x.1))
unfolding many
many_suc read n all u = refl

-- where one more is wanted and read, the others are read behind it
pub many_ok : {X : Type 0} (read : List X → Unread → Result (X × Unread) Misfit) (n i : ℕ) (all : List X) (u : Unread) (x : X) (v : Unread) → i < n → read all u ≡ Ok (x, v) → many read (n - i) all u ≡ many read (n - (i + 1)) (all ++ x ∷ []) v
many_ok read n i all u x v lt h =
    let one_less : n - i ≡ suc (n - (i + 1)) = omega (arith, lt) in
    ap (λ k. many read k all u) one_less ∙ many_suc read (n - (i + 1)) all u ∙ ap (λ r. r >>= (λ y. many read (n - (i + 1)) (all ++ y.0 ∷ []) y.1)) h

-- where one more is wanted and fails, it all fails
pub many_err : {X : Type 0} (read : List X → Unread → Result (X × Unread) Misfit) (n i : ℕ) (all : List X) (u : Unread) (why : Misfit) → i < n → read all u ≡ Err why → many read (n - i) all u ≡ Err why
many_err read n i all u why lt h =
    let one_less : n - i ≡ suc (n - (i + 1)) = omega (arith, lt) in
    ap (λ k. many read k all u) one_less ∙ many_suc read (n - (i + 1)) all u ∙ ap (λ r. r >>= (λ y. many read (n - (i + 1)) (all ++ y.0 ∷ []) y.1)) h

pub many_zero : {X : Type 0} (read : List X → Unread → Result (X × Unread) Misfit) (all : List X) (u : Unread) → many read 0 all u ≡ Ok (all, u)
unfolding many
many_zero read all u = refl

-- where no more are wanted, these are all
pub many_done : {X : Type 0} (read : List X → Unread → Result (X × Unread) Misfit) (n : ℕ) (all : List X) (u : Unread) → many read (n - n) all u ≡ Ok (all, u)
many_done read n all u =
    let none : n - n ≡ 0 = omega arith in
    ap (λ k. many read k all u) none ∙ many_zero read all u

-- where none is read yet, all are wanted
pub many_start : {X : Type 0} (read : List X → Unread → Result (X × Unread) Misfit) (n : ℕ) (all : List X) (u : Unread) → all ≡ [] → many read (n - 0) all u ≡ many read n [] u
many_start read n all u none =
    let whole : n - 0 ≡ n = omega arith in
    ap (λ k. many read k all u) whole ∙ ap (λ xs. many read n xs u) none

-- a loop that has read some fails where the next one fails
pub loop_err : {X : Type 0} (read : List X → Unread → Result (X × Unread) Misfit) (n i : ℕ) (all : List X) (u start : Unread) (why : Misfit) → many read (n - i) all u ≡ many read n [] start → i < n → read all u ≡ Err why → many read n [] start ≡ Err why
loop_err read n i all u start why e lt h = sym e ∙ many_err read n i all u why lt h

-- a loop that has read them all is done
pub loop_done : {X : Type 0} (read : List X → Unread → Result (X × Unread) Misfit) (n i : ℕ) (all : List X) (u start : Unread) → many read (n - i) all u ≡ many read n [] start → i ≤ n → n ≤ i → many read n [] start ≡ Ok (all, u)
loop_done read n i all u start e le ge =
    let same : i ≡ n = omega arith in
    sym e ∙ ap (λ k. many read (n - k) all u) same ∙ many_done read n all u

-- the same where the next one may also lack memory
pub loop_fails : {X Y Z : Type 0} (view : Z → X) (views : Y → List X) (read : List X → Unread → Result (X × Unread) Misfit) (n i : ℕ) (all : List X) (u start left after : Unread) (why : Fail Misfit) → many read (n - i) all u ≡ many read n [] start → i < n → ReadsUnless {X = Z} {Y = X} view (read all u) (Err why) left → ReadsUnless {X = Y} {Y = List X} views (many read n [] start) (Err why) after
loop_fails view views read n i all u start left after Memory e lt h = tt
loop_fails view views read n i all u start left after (Refused why) e lt h = loop_err read n i all u start why e lt h

abbrev ok_or : {X : Type 0} → X → Result X (Fail Misfit) → X
ok_or d (Ok x) = x
ok_or d (Err why) = d

-- what was read, where a refusal would have become a failure
pub read_ok : {X : Type 0} (reading : Result (X × Unread) Misfit) (r : Result X Misfit) (failed : Result X (Fail Misfit)) (x : X) (left : Unread) (Q : Misfit → Fail Misfit → Type 0) →
    failed ≡ Ok x → MatchResult r (λ y. failed ≡ Ok y) (λ e. IsErrAnd failed (Q e)) → ReadsTokens reading r left → reading ≡ Ok (x, left)
read_ok reading (Ok y) failed x left Q e m h = h ∙ ap (λ z. Ok (z, left)) (ap (ok_or x) (sym m ∙ e))
read_ok reading (Err why) (Ok z) x left Q e m h = absurd m
read_ok reading (Err why) (Err z) x left Q e m h = absurd (subst (λ r. IsErrAnd r (λ w. Unit {0})) e tt)

abbrev err_or : {X : Type 0} → Fail Misfit → Result X (Fail Misfit) → Fail Misfit
err_or d (Ok x) = d
err_or d (Err why) = why

-- what was refused, where a refusal becomes a failure
pub read_fails : {X : Type 0} (reading : Result (X × Unread) Misfit) (r : Result X Misfit) (failed : Result X (Fail Misfit)) (why : Fail Misfit) (left : Unread) →
    failed ≡ Err why → MatchResult r (λ y. failed ≡ Ok y) (λ e. IsErrAnd failed (λ w. w ≡ Refused e)) → ReadsTokens reading r left → ReadsUnless {X = X} {Y = X} (λ x. x) reading (Err why) left
read_fails {X} reading (Ok y) failed why left e m h = absurd (subst (λ (a : Result X (Fail Misfit)). IsErrAnd a (λ w. Unit {0})) (sym e ∙ m) tt)
read_fails reading (Err x) (Ok z) why left e m h = absurd m
read_fails {X} reading (Err x) (Err z) why left e m h = subst (λ w. ReadsUnless {X = X} {Y = X} (λ x. x) reading (Err w) left) (sym m ∙ ap (err_or z) e) h

-- a failure that is passed on
pub passed_on : {Y : Type 0} (r : Result Y (Fail Misfit)) (why : Fail Misfit) → IsErrAnd r (λ w. w ≡ why) → r ≡ Err why
passed_on (Ok y) why h = absurd h
passed_on (Err w) why h = ap Err h

-- the reading of the next one, whose number is one more than how many there are

pub each_reads : {X : Type 0} (read : ℕ → Unread → Result (X × Unread) Misfit) (k : ℕ) (all : List X) (u : Unread) (r : Result (X × Unread) Misfit) → length all ≡ k → read (k + 1) u ≡ r → each read all u ≡ r
each_reads read k all u r long h = ap (λ n. read (n + 1) u) long ∙ h

pub each_fails : {X Z : Type 0} (view : Z → X) (read : ℕ → Unread → Result (X × Unread) Misfit) (k : ℕ) (all : List X) (u left : Unread) (r : Result Z (Fail Misfit)) → length all ≡ k → ReadsUnless {X = Z} {Y = X} view (read (k + 1) u) r left → ReadsUnless {X = Z} {Y = X} view (each read all u) r left
each_fails {X} {Z} view read k all u left r long h = subst (λ n. ReadsUnless {X = Z} {Y = X} view (read (n + 1) u) r left) (sym long) h

-- a loop has read as many as it has gone round

abbrev pub HasRead : {X : Type 0} → (ℕ → Unread → Result (X × Unread) Misfit) → (n i : ℕ) → List X → (left start : Unread) → Type 0
HasRead read n i all u start = (many (each read) (n - i) all u ≡ many (each read) n [] start) × (length all ≡ i)

pub read_none : {X : Type 0} (read : ℕ → Unread → Result (X × Unread) Misfit) (n : ℕ) (all : List X) (u : Unread) → all ≡ [] → HasRead read n 0 all u u
read_none read n all u none = (many_start (each read) n all u none, ap length none)

pub read_more : {X : Type 0} (read : ℕ → Unread → Result (X × Unread) Misfit) (n i : ℕ) (all new : List X) (x : X) (u v start : Unread) → HasRead read n i all u start → i < n → read (i + 1) u ≡ Ok (x, v) → new ≡ all ++ x ∷ [] → HasRead read n (i + 1) new v start
read_more read n i all new x u v start h lt e step = (
  ap (λ xs. many (each read) (n - (i + 1)) xs v) step ∙ sym (many_ok (each read) n i all u x v lt (each_reads read i all u (Ok (x, v)) h.1 e)) ∙ h.0,
  omega (arith, ap length step, length-append all (x ∷ []), h.1),
)

pub read_stops : {X Y Z : Type 0} (view : Z → X) (views : Y → List X) (read : ℕ → Unread → Result (X × Unread) Misfit) (n i : ℕ) (all : List X) (u start left after : Unread) (why : Fail Misfit) → HasRead read n i all u start → i < n → ReadsUnless {X = Z} {Y = X} view (read (i + 1) u) (Err why) left →
    ReadsUnless {X = Y} {Y = List X} views (many (each read) n [] start) (Err why) after
read_stops view views read n i all u start left after why h lt fails = loop_fails view views (each read) n i all u start left after why h.0 lt (each_fails view read i all u left (Err why) h.1 fails)

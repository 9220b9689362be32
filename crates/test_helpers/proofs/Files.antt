-- Files in memory, place by place.
use Rattle.std.proofs.Common.{◌≡◌, ℕ, zero, suc, List, [], ◌∷◌, ◌++◌, ◌+◌, ◌-◌, ◌<◌, ◌≤◌, Option, Some, None, true, cond, drop, take, length, subst, ap, sym, ◌∙◌, arith, slice_get, length-drop}
use Rattle.std.proofs.lemmas.List.{drop-drop, drop_all, take_all}
use Rattle.std.specs.Prelude.{Vec, String, IfSome, min}
use Rattle.std.specs.String.{string_bytes}
use Rattle.std.specs.Str.{bytes_eq}
use Rattle.std.specs.declared.alloc.Global.{Global}
use Rattle.rwsp_io.specs.Told.{Bytes}
use Rattle.std.specs.Io.KnownBytes.{Consumes, IsAtEnd}
use Rattle.test_helpers.specs.Files.{Files, file_of, bytes_from}

-- the file at a place, where its name is the one that is looked for
pub file_at : (files : Files) (name : List ℕ) (i : ℕ) (file : String Global × Vec ℕ Global) → slice_get files i ≡ Some file → bytes_eq (string_bytes file.0) name ≡ true → file_of (drop i files) name ≡ Bytes file.1.items
file_at [] name i file e h = absurd (cc)
file_at (f ∷ files) name zero file e h =
    let same : f ≡ file = cc in
    let here : bytes_eq (string_bytes f.0) name ≡ true = subst (λ (g : String Global × Vec ℕ Global). bytes_eq (string_bytes g.0) name ≡ true) (sym same) h in
    ap (λ b. cond b (Bytes f.1.items) (file_of files name)) here ∙ ap (λ (g : String Global × Vec ℕ Global). Bytes g.1.items) same
file_at (f ∷ files) name (suc i) file e h = file_at files name i file e h

-- bytes that were taken from a file
pub took : (file : Option (String Global × Vec ℕ Global)) (from count : ℕ) (rest piece : List ℕ) → IfSome (bytes_from file from) (λ bytes. rest ≡ bytes) → rest ≡ take count piece ++ drop count rest → (count ≡ 0 → 0 < length piece → rest ≡ []) → Consumes (bytes_from file from) (bytes_from file (from + count)) (take count piece) × (count ≡ 0 → 0 < length piece → IsAtEnd (bytes_from file (from + count)))
took None from count rest piece is h end = (tt, λ _ _. tt)
took (Some file) from count rest piece is h end =
    let later : drop count rest ≡ drop (from + count) file.1.items = ap (drop count) is ∙ drop-drop count from file.1.items in (
      sym is ∙ h ∙ ap (λ w. take count piece ++ w) later,
      λ none room. sym later ∙ ap (drop count) (end none room) ∙ drop_all count [] (omega arith),
    )

-- what a number says of some bytes it says of the bytes that they equal
pub counted : (known : Option (List ℕ)) (rest : List ℕ) (n room step : ℕ) → IfSome known (λ bytes. rest ≡ bytes) → n ≡ min (min (length rest) room) step → IfSome known (λ bytes. n ≡ min (min (length bytes) room) step)
counted None rest n room step is h = tt
counted (Some bytes) rest n room step is h = h ∙ ap (λ w. min (min (length w) room) step) is

-- the bytes from a place on, where it is within the file, and where it is past its end
pub rest_there : (files : Files) (place from : ℕ) (file : String Global × Vec ℕ Global) (bytes : List ℕ) → slice_get files place ≡ Some file → bytes ≡ file.1.items → IfSome (bytes_from (slice_get files place) from) (λ rest. take (length bytes - from) (drop from bytes) ≡ rest)
rest_there files place from file bytes there is =
    subst (λ f. IfSome (bytes_from f from) (λ rest. take (length bytes - from) (drop from bytes) ≡ rest)) (sym there)
    (take_all (length bytes - from) (drop from bytes) (omega (arith, length-drop from bytes)) ∙ ap (drop from) is)

pub rest_past : (files : Files) (place from : ℕ) (file : String Global × Vec ℕ Global) → slice_get files place ≡ Some file → length file.1.items ≤ from → IfSome (bytes_from (slice_get files place) from) (λ rest. [] ≡ rest)
rest_past files place from file there past =
    subst (λ f. IfSome (bytes_from f from) (λ rest. [] ≡ rest)) (sym there) (sym (drop_all from file.1.items past))

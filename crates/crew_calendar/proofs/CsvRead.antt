-- Records are read back from how they are written.
use Rattle.std.proofs.Common.{◌≡◌, ℕ, ◌==◌, List, [], ◌∷◌, ◌++◌, Bool, true, false, cond, Option, Some, None, refl, ap, sym, ◌∙◌, append_assoc}
use Rattle.std.specs.Prelude.{◌||◌}
use Rattle.std.specs.List.{flat_map, list_any}
use Rattle.std.proofs.lemmas.Bool.{eqb-true}
use Rattle.std.proofs.lemmas.List.{append-nil}
use Rattle.rwsp_text.specs.Fields.{◌>>=◌}
use Rattle.crew_calendar.specs.Csv.{Record, is_mark, doubled, field_text, next_text, record_text, records_text, Comma, Quote, Return, Feed, Other, kind_of, Place, Start, Plain, Quoted, Behind, Ending, Reading, with_kind, read_on, done_in, HasField, HaveFields, RecordsAreReadBack}

abbrev at : Place → List Record → Record → List ℕ → Reading
at place records fields bytes = record { place = place; records = records; fields = fields; bytes = bytes }

read-nil : (r : Reading) → read_on r [] ≡ Some r
unfolding read_on
read-nil r = refl

read-byte : (r : Reading) (b : ℕ) (bytes : List ℕ) → read_on r (b ∷ bytes) ≡ with_kind r.place (kind_of b) b r >>= (λ s. read_on s bytes)
unfolding read_on
read-byte r b bytes = refl

-- one byte, where it may stand there
one_read : (r s : Reading) (b : ℕ) (bytes : List ℕ) → with_kind r.place (kind_of b) b r ≡ Some s → read_on r (b ∷ bytes) ≡ read_on s bytes
one_read r s b bytes is = read-byte r b bytes ∙ ap (λ o. o >>= (λ s. read_on s bytes)) is

-- what is read behind bytes that were read
then_read : (r s : Reading) (bytes rest : List ℕ) → read_on r bytes ≡ Some s → read_on r (bytes ++ rest) ≡ read_on s rest
then_read r s [] rest h =
    let same : Some r ≡ Some s = sym (read-nil r) ∙ h in
    let is : r ≡ s = cc in
    ap (λ r. read_on r rest) is
then_read r s (b ∷ bytes) rest h = by (with_kind r.place (kind_of b) b r) refl (λ t more. then_read t s bytes rest more)
  where
    by : (next : Option Reading) → with_kind r.place (kind_of b) b r ≡ next → ((t : Reading) → read_on t bytes ≡ Some s → read_on t (bytes ++ rest) ≡ read_on s rest) → read_on r (b ∷ bytes ++ rest) ≡ read_on s rest
    by None none later =
        let fails : None ≡ Some s = sym (read-byte r b bytes ∙ ap (λ o. o >>= (λ t. read_on t bytes)) none) ∙ h in
        absurd (cc)
    by (Some t) is later = one_read r t b (bytes ++ rest) is ∙ later t (sym (one_read r t b bytes is) ∙ h)

-- Bytes of a field.

other_by : (w x y z : Bool) → (w || x || y || z) ≡ false → cond w Comma (cond x Quote (cond y Return (cond z Feed Other))) ≡ Other
other_by true x y z h = absurd (cc)
other_by false true y z h = absurd (cc)
other_by false false true z h = absurd (cc)
other_by false false false true h = absurd (cc)
other_by false false false false h = refl

other : (b : ℕ) → is_mark b ≡ false → kind_of b ≡ Other
other b h = other_by (b == 44) (b == 34) (b == 13) (b == 10) h

-- no other byte than a quote ends what is within quotes
within_by : (w x y z : Bool) (b : ℕ) (r : Reading) → x ≡ false → with_kind Quoted (cond w Comma (cond x Quote (cond y Return (cond z Feed Other)))) b r ≡ Some (at Quoted r.records r.fields (r.bytes ++ b ∷ []))
within_by w true y z b r h = absurd (cc)
within_by true false y z b r h = refl
within_by false false true z b r h = refl
within_by false false false true b r h = refl
within_by false false false false b r h = refl

-- no byte of these is a mark
head_plain : (x y : Bool) → (x || y) ≡ false → x ≡ false
head_plain true y h = absurd (cc)
head_plain false y h = refl

tail_plain : (x y : Bool) → (x || y) ≡ false → y ≡ false
tail_plain true y h = absurd (cc)
tail_plain false y h = h

plain_read : (text : List ℕ) (records : List Record) (fields : Record) (bytes : List ℕ) → list_any is_mark text ≡ false → read_on (at Plain records fields bytes) text ≡ Some (at Plain records fields (bytes ++ text))
plain_read [] records fields bytes h = read-nil (at Plain records fields bytes) ∙ ap (λ l. Some (at Plain records fields l)) (sym (append-nil bytes))
plain_read (b ∷ text) records fields bytes h =
    let r = at Plain records fields bytes in
    one_read r (at Plain records fields (bytes ++ b ∷ [])) b text (ap (λ k. with_kind Plain k b r) (other b (head_plain (is_mark b) (list_any is_mark text) h)))
    ∙ plain_read text records fields (bytes ++ b ∷ []) (tail_plain (is_mark b) (list_any is_mark text) h)
    ∙ ap (λ l. Some (at Plain records fields l)) (append_assoc bytes (b ∷ []) text)

doubled_read : (b : ℕ) (records : List Record) (fields : Record) (bytes rest : List ℕ) (quote : Bool) → (b == 34) ≡ quote → read_on (at Quoted records fields bytes) (cond quote (34 ∷ 34 ∷ []) (b ∷ []) ++ rest) ≡ read_on (at Quoted records fields (bytes ++ b ∷ [])) rest
doubled_read b records fields bytes rest true is =
    let same : b ≡ 34 = eqb-true b 34 is in
    one_read (at Quoted records fields bytes) (at Behind records fields bytes) 34 (34 ∷ rest) refl
    ∙ one_read (at Behind records fields bytes) (at Quoted records fields (bytes ++ 34 ∷ [])) 34 rest refl
    ∙ ap (λ c. read_on (at Quoted records fields (bytes ++ c ∷ [])) rest) (sym same)
doubled_read b records fields bytes rest false is =
    one_read (at Quoted records fields bytes) (at Quoted records fields (bytes ++ b ∷ [])) b rest
    (within_by (b == 44) (b == 34) (b == 13) (b == 10) b (at Quoted records fields bytes) is)

quoted_read : (text : List ℕ) (records : List Record) (fields : Record) (bytes : List ℕ) → read_on (at Quoted records fields bytes) (flat_map doubled text ++ 34 ∷ []) ≡ Some (at Behind records fields (bytes ++ text))
quoted_read [] records fields bytes =
    one_read (at Quoted records fields bytes) (at Behind records fields bytes) 34 [] refl
    ∙ read-nil (at Behind records fields bytes)
    ∙ ap (λ l. Some (at Behind records fields l)) (sym (append-nil bytes))
quoted_read (b ∷ text) records fields bytes =
    ap (read_on (at Quoted records fields bytes)) (append_assoc (doubled b) (flat_map doubled text) (34 ∷ []))
    ∙ doubled_read b records fields bytes (flat_map doubled text ++ 34 ∷ []) (b == 34) refl
    ∙ quoted_read text records fields (bytes ++ b ∷ [])
    ∙ ap (λ l. Some (at Behind records fields l)) (append_assoc bytes (b ∷ []) text)

-- Fields.

-- a field may end here
abbrev MayEnd : Place → Type 0
MayEnd Start = Unit {0}
MayEnd Plain = Unit {0}
MayEnd Quoted = ⊥
MayEnd Behind = Unit {0}
MayEnd Ending = ⊥

-- where a field is read
abbrev IsRead : List Record → Record → (text bytes : List ℕ) → Type 0
IsRead records fields text bytes = (place : Place) × MayEnd place × (read_on (at Start records fields []) bytes ≡ Some (at place records fields text))

plain_field : (text : List ℕ) (records : List Record) (fields : Record) → list_any is_mark text ≡ false → IsRead records fields text text
plain_field [] records fields h = (Start, tt, read-nil (at Start records fields []))
plain_field (b ∷ text) records fields h =
    let r = at Start records fields [] in
    let first = one_read r (at Plain records fields (b ∷ [])) b text (ap (λ k. with_kind Start k b r) (other b (head_plain (is_mark b) (list_any is_mark text) h))) in
    (Plain, tt, first ∙ plain_read text records fields (b ∷ []) (tail_plain (is_mark b) (list_any is_mark text) h))

field_by : (text : List ℕ) (records : List Record) (fields : Record) (mark : Bool) → list_any is_mark text ≡ mark → IsRead records fields text (cond mark (34 ∷ flat_map doubled text ++ 34 ∷ []) text)
field_by text records fields true is =
    (Behind, tt, one_read (at Start records fields []) (at Quoted records fields []) 34 (flat_map doubled text ++ 34 ∷ []) refl ∙ quoted_read text records fields [])
field_by text records fields false is = plain_field text records fields is

field_read : (text : List ℕ) (records : List Record) (fields : Record) → IsRead records fields text (field_text text)
field_read text records fields = field_by text records fields (list_any is_mark text) refl

comma_read : (place : Place) (records : List Record) (fields : Record) (text rest : List ℕ) → MayEnd place → read_on (at place records fields text) (44 ∷ rest) ≡ read_on (at Start records (fields ++ text ∷ []) []) rest
comma_read Start records fields text rest may = one_read (at Start records fields text) (at Start records (fields ++ text ∷ []) []) 44 rest refl
comma_read Plain records fields text rest may = one_read (at Plain records fields text) (at Start records (fields ++ text ∷ []) []) 44 rest refl
comma_read Quoted records fields text rest may = absurd may
comma_read Behind records fields text rest may = one_read (at Behind records fields text) (at Start records (fields ++ text ∷ []) []) 44 rest refl
comma_read Ending records fields text rest may = absurd may

return_read : (place : Place) (records : List Record) (fields : Record) (text rest : List ℕ) → MayEnd place → read_on (at place records fields text) (13 ∷ rest) ≡ read_on (at Ending records fields text) rest
return_read Start records fields text rest may = one_read (at Start records fields text) (at Ending records fields text) 13 rest refl
return_read Plain records fields text rest may = one_read (at Plain records fields text) (at Ending records fields text) 13 rest refl
return_read Quoted records fields text rest may = absurd may
return_read Behind records fields text rest may = one_read (at Behind records fields text) (at Ending records fields text) 13 rest refl
return_read Ending records fields text rest may = absurd may

end_read : (place : Place) (records : List Record) (fields : Record) (text rest : List ℕ) → MayEnd place → read_on (at place records fields text) (13 ∷ 10 ∷ rest) ≡ read_on (at Start (records ++ (fields ++ text ∷ []) ∷ []) [] []) rest
end_read place records fields text rest may =
    return_read place records fields text (10 ∷ rest) may
    ∙ one_read (at Ending records fields text) (at Start (records ++ (fields ++ text ∷ []) ∷ []) [] []) 10 rest refl

-- Records.

-- the rest of a record, behind its field that was read
others_read : (others : Record) (place : Place) (records : List Record) (fields : Record) (text rest : List ℕ) → MayEnd place → read_on (at place records fields text) (flat_map next_text others ++ 13 ∷ 10 ∷ rest) ≡ read_on (at Start (records ++ (fields ++ text ∷ others) ∷ []) [] []) rest
others_read [] place records fields text rest may = end_read place records fields text rest may
others_read (next ∷ others) place records fields text rest may =
    let behind = flat_map next_text others ++ 13 ∷ 10 ∷ rest in
    let found = field_read next records (fields ++ text ∷ []) in
    ap (read_on (at place records fields text)) (append_assoc (next_text next) (flat_map next_text others) (13 ∷ 10 ∷ rest))
    ∙ comma_read place records fields text (field_text next ++ behind) may
    ∙ then_read (at Start records (fields ++ text ∷ []) []) (at found.0 records (fields ++ text ∷ []) next) (field_text next) behind found.2
    ∙ others_read others found.0 records (fields ++ text ∷ []) next rest found.1
    ∙ ap (λ l. read_on (at Start (records ++ l ∷ []) [] []) rest) (append_assoc fields (text ∷ []) (next ∷ others))

record_read : (fields : Record) (records : List Record) (rest : List ℕ) → HasField fields → read_on (at Start records [] []) (record_text fields ++ rest) ≡ read_on (at Start (records ++ fields ∷ []) [] []) rest
record_read [] records rest has = absurd has
record_read (first ∷ others) records rest has =
    let found = field_read first records [] in
    let behind = flat_map next_text others in
    ap (read_on (at Start records [] []))
    (append_assoc (field_text first ++ behind) (13 ∷ 10 ∷ []) rest ∙ append_assoc (field_text first) behind (13 ∷ 10 ∷ rest))
    ∙ then_read (at Start records [] []) (at found.0 records [] first) (field_text first) (behind ++ 13 ∷ 10 ∷ rest) found.2
    ∙ others_read others found.0 records [] first rest found.1

records_read : (more records : List Record) → HaveFields more → read_on (at Start records [] []) (records_text more) ≡ Some (at Start (records ++ more) [] [])
records_read [] records have = read-nil (at Start records [] []) ∙ ap (λ l. Some (at Start l [] [])) (sym (append-nil records))
records_read (fields ∷ more) records have =
    record_read fields records (records_text more) have.0
    ∙ records_read more (records ++ fields ∷ []) have.1
    ∙ ap (λ l. Some (at Start l [] [])) (append_assoc records (fields ∷ []) more)

pub records_again : RecordsAreReadBack
records_again records have = ap (λ o. o >>= (λ r. done_in r.place r.fields r.records)) (records_read records [] have)

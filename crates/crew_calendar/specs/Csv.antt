-- Records of a spreadsheet (RFC 4180): how they are written, and how they are read.
use Rattle.std.specs.Prelude.{◌≡◌, ℕ, ◌==◌, List, [], ◌∷◌, ◌++◌, ◌||◌, Bool, Option, Some, None, if◌then◌else◌}
use Rattle.std.specs.List.{flat_map, list_any}
use Rattle.rwsp_text.specs.Fields.{◌>>=◌}

-- a record: its fields, each a text
abbrev pub Record : Type 0
Record = List (List ℕ)

-- Writing.

-- a comma, a quote, CR or LF
abbrev pub is_mark : ℕ → Bool
is_mark b = b == 44 || b == 34 || b == 13 || b == 10

-- a quote within quotes is written twice
abbrev pub doubled : ℕ → List ℕ
doubled b = if b == 34 then 34 ∷ 34 ∷ [] else b ∷ []

-- a field, in quotes where it has a comma, a quote, CR or LF
abbrev pub field_text : List ℕ → List ℕ
field_text text = if list_any is_mark text then 34 ∷ flat_map doubled text ++ 34 ∷ [] else text

-- a field behind a comma
abbrev pub next_text : List ℕ → List ℕ
next_text text = 44 ∷ field_text text

-- the fields of a record, with a comma between each two
abbrev pub fields_text : Record → List ℕ
fields_text [] = []
fields_text (first ∷ others) = field_text first ++ flat_map next_text others

-- a record, with CR LF at its end
abbrev pub record_text : Record → List ℕ
record_text fields = fields_text fields ++ 13 ∷ 10 ∷ []

abbrev pub records_text : List Record → List ℕ
records_text records = flat_map record_text records

-- Reading, byte by byte.

-- what a byte is
pub data Kind : Type 0 where
  Comma : Kind
  Quote : Kind
  Return : Kind
  Feed : Kind
  Other : Kind

abbrev pub kind_of : ℕ → Kind
kind_of b =
    if b == 44 then Comma
    else (if b == 34 then Quote
    else (if b == 13 then Return
    else (if b == 10 then Feed else Other)))

-- where the next byte stands: at the start of a field, in a field without quotes, within quotes, behind a quote that ends
-- a field or stands before another one, or behind the CR that ends a record
pub data Place : Type 0 where
  Start : Place
  Plain : Place
  Quoted : Place
  Behind : Place
  Ending : Place

-- what was read: whole records, the whole fields of the next one, and the bytes of its next field
pub record Reading : Type 0 where
  pub place : Place
  pub records : List Record
  pub fields : Record
  pub bytes : List ℕ

-- at another place
abbrev pub to : Place → Reading → Reading
to place r = record { place = place; records = r.records; fields = r.fields; bytes = r.bytes }

-- with one more byte of the field
abbrev pub with_byte : Place → ℕ → Reading → Reading
with_byte place b r = record { place = place; records = r.records; fields = r.fields; bytes = r.bytes ++ b ∷ [] }

-- with the field
abbrev pub with_field : Reading → Reading
with_field r = record { place = Start; records = r.records; fields = r.fields ++ r.bytes ∷ []; bytes = [] }

-- with the record, whose last field this was
abbrev pub with_record : Reading → Reading
with_record r =
    record { place = Start; records = r.records ++ (r.fields ++ r.bytes ∷ []) ∷ []; fields = []; bytes = [] }

-- with a byte of this kind at the place, where one may stand there
abbrev pub with_kind : Place → Kind → ℕ → Reading → Option Reading
with_kind Start Comma b r = Some (with_field r)
with_kind Start Quote b r = Some (to Quoted r)
with_kind Start Return b r = Some (to Ending r)
with_kind Start Feed b r = None
with_kind Start Other b r = Some (with_byte Plain b r)
with_kind Plain Comma b r = Some (with_field r)
with_kind Plain Return b r = Some (to Ending r)
with_kind Plain Other b r = Some (with_byte Plain b r)
with_kind Plain kind b r = None
with_kind Quoted Quote b r = Some (to Behind r)
with_kind Quoted kind b r = Some (with_byte Quoted b r)
with_kind Behind Comma b r = Some (with_field r)
with_kind Behind Quote b r = Some (with_byte Quoted b r)
with_kind Behind Return b r = Some (to Ending r)
with_kind Behind kind b r = None
with_kind Ending Feed b r = Some (with_record r)
with_kind Ending kind b r = None

-- with these bytes
unfoldable pub read_on : Reading → List ℕ → Option Reading
read_on r [] = Some r
read_on r (b ∷ bytes) = with_kind r.place (kind_of b) b r >>= (λ s. read_on s bytes)

-- the records, where none is open at the end
abbrev pub done_in : Place → (fields : Record) → List Record → Option (List Record)
done_in Start [] records = Some records
done_in place fields records = None

-- the records that a text has
abbrev pub records_in : List ℕ → Option (List Record)
records_in text =
    read_on (record { place = Start; records = []; fields = []; bytes = [] }) text >>= (λ r. done_in r.place r.fields r.records)

-- a record has a field
abbrev pub HasField : Record → Type 0
HasField [] = ⊥
HasField (field ∷ fields) = Unit {0}

abbrev pub HaveFields : List Record → Type 0
HaveFields [] = Unit {0}
HaveFields (fields ∷ records) = HasField fields × HaveFields records

-- records are read back from how they are written
abbrev pub RecordsAreReadBack : Type 0
RecordsAreReadBack = (records : List Record) → HaveFields records → records_in (records_text records) ≡ Some records

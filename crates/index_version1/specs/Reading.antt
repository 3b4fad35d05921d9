-- Reading an index file of version 1 from the left, with the first refusal and its place. Heads, payloads and the end are
-- judged as in the later version. This project's.
use Rattle.std.specs.Prelude.{ℕ, zero, suc, ◌+◌, ◌*◌, ◌==◌, ◌||◌, ◌&&◌, not, Bool, List, [], ◌∷◌, length, Option, Some, None, Result, Ok, nat_eq, nat_lt, nat_le, slice_range}
use Rattle.std.specs.List.{starts_with}
use Rattle.std.specs.Str.{is_utf8}
use Rattle.index_model.specs.Index.{IndexData}
use Rattle.index_layout.specs.declared.refusal.OpenWhy.TheVariants.{Magic, Length, Names, TermOrder, Heads, Totals, Limit}
use Rattle.index_layout.specs.declared.refusal.OpenRefusal.{OpenRefusal}
use Rattle.index_layout.specs.Bytes.{u16_in, u32_in, u64_in}
use Rattle.index_layout.specs.Layout.{old_magic}
use Rattle.index_layout.specs.Refusals.{◌>>=◌, Check, check, judged}
use Rattle.index_layout.specs.Reading.{Front, NamesRead, TermsRead, is_name_text, rises_behind, read_heads, after_terms}
use Rattle.index_layout.specs.View.{FileView}
use Rattle.jass_base.specs.declared.limits.TheConstants.{GREATEST_IMPACT, LONGEST_FILE, LONGEST_OLD_NAME, MOST_DOCUMENTS, MOST_POSTINGS, MOST_TERMS}

-- the first 40 bytes: magic, length, documents, terms, postings, greatest impact, zero
unfoldable pub front1_checks : List ℕ → List Check
front1_checks bytes =
    check (nat_lt LONGEST_FILE (length bytes)) LONGEST_FILE Limit
    ∷ check (not (starts_with nat_eq bytes old_magic)) 0 Magic
    ∷ check (nat_lt (length bytes) 40 || not (u64_in bytes 8 == length bytes)) 8 Length
    ∷ check (nat_lt MOST_DOCUMENTS (u32_in bytes 16)) 16 Limit
    ∷ check (nat_lt MOST_TERMS (u32_in bytes 20)) 20 Limit
    ∷ check (nat_lt MOST_POSTINGS (u64_in bytes 24)) 24 Limit
    ∷ check (not (u32_in bytes 36 == 0)) 36 Totals
    ∷ []

unfoldable pub read_front1 : List ℕ → Result Front OpenRefusal
read_front1 bytes = judged (front1_checks bytes) (record { docs = u32_in bytes 16; terms = u32_in bytes 20 })

-- the place of an offset by its number, and the offset
abbrev pub offset_place : ℕ → ℕ
offset_place i = 40 + 4 * i

unfoldable pub offset_in : List ℕ → ℕ → ℕ
offset_in bytes i = u32_in bytes (offset_place i)

-- an offset and the next one that don't bound 1 to 65,535 bytes
abbrev pub bounds_no_name : ℕ → ℕ → Bool
bounds_no_name from to = nat_le to from || nat_lt (from + LONGEST_OLD_NAME) to

-- so many offsets behind the one with a number
abbrev pub offset_checks : List ℕ → ℕ → ℕ → List Check
offset_checks bytes zero i = []
offset_checks bytes (suc k) i =
    check (bounds_no_name (offset_in bytes i) (offset_in bytes (i + 1))) (offset_place (i + 1)) Names
    ∷ offset_checks bytes k (i + 1)

-- where the names begin, behind one offset more than there are documents
abbrev pub names_place : ℕ → ℕ
names_place d = offset_place (d + 1)

-- the name with a number; names begin at a place
unfoldable pub name1_in : List ℕ → ℕ → ℕ → List ℕ
name1_in bytes place i = slice_range bytes (place + offset_in bytes i) (place + offset_in bytes (i + 1))

-- so many names from a number on
abbrev pub text_checks : List ℕ → ℕ → ℕ → ℕ → List Check
text_checks bytes place zero i = []
text_checks bytes place (suc k) i =
    check (not (is_name_text (name1_in bytes place i))) (place + offset_in bytes i) Names
    ∷ text_checks bytes place k (i + 1)

abbrev pub names_from : List ℕ → ℕ → ℕ → ℕ → List (List ℕ)
names_from bytes place zero i = []
names_from bytes place (suc k) i = name1_in bytes place i ∷ names_from bytes place k (i + 1)

-- the offsets of d names
unfoldable pub read_offsets : List ℕ → ℕ → Result ℕ OpenRefusal
read_offsets bytes d =
    judged (check (nat_lt (length bytes) (names_place d)) 40 Length
    ∷ check (not (offset_in bytes 0 == 0)) 40 Names
    ∷ offset_checks bytes d 0) (names_place d)

-- the names behind them
unfoldable pub read_texts : List ℕ → ℕ → ℕ → Result NamesRead OpenRefusal
read_texts bytes d place =
    judged (check (nat_lt (length bytes) (place + offset_in bytes d)) place Length ∷ text_checks bytes place d 0)
    (record { names = names_from bytes place d 0; end = place + offset_in bytes d })

abbrev pub read_names1 : List ℕ → ℕ → Result NamesRead OpenRefusal
read_names1 bytes d = read_offsets bytes d >>= read_texts bytes d

-- the place of a term's number of segments
abbrev pub segments1_place : List ℕ → ℕ → ℕ
segments1_place bytes at = at + 2 + u16_in bytes at

-- the term at a place
unfoldable pub term1_in : List ℕ → ℕ → List ℕ
term1_in bytes at = slice_range bytes (at + 2) (segments1_place bytes at)

unfoldable pub term1_checks : List ℕ → Option (List ℕ) → ℕ → List Check
term1_checks bytes before at =
    check (nat_lt (length bytes) (at + 2)) at Length
    ∷ check (nat_lt (length bytes) (segments1_place bytes at + 4)) at Length
    ∷ check (not (is_utf8 (term1_in bytes at) && rises_behind before (term1_in bytes at))) at TermOrder
    ∷ check (u32_in bytes (segments1_place bytes at) == 0) (segments1_place bytes at) Heads
    ∷ []

-- the place of a term's heads, and how many there are
unfoldable pub term1_end : List ℕ → Option (List ℕ) → ℕ → Result ℕ OpenRefusal
term1_end bytes before at = judged (term1_checks bytes before at) (segments1_place bytes at + 4)

unfoldable pub heads1_in : List ℕ → ℕ → ℕ
heads1_in bytes at = u32_in bytes (segments1_place bytes at)

-- so many terms with their heads, from a place on
abbrev pub read_terms1 : List ℕ → ℕ → ℕ → Option (List ℕ) → ℕ → Result TermsRead OpenRefusal
read_terms1 bytes d zero before at = Ok (record { terms = []; end = at })
read_terms1 bytes d (suc k) before at =
    term1_end bytes before at >>= λ place.
    (read_heads bytes d (heads1_in bytes at) (GREATEST_IMPACT + 1) place >>= λ here.
    (read_terms1 bytes d k (Some (term1_in bytes at)) here.end >>= λ later.
    Ok (record {
      terms = record { term = term1_in bytes at; heads = here.heads } ∷ later.terms;
      end = later.end;
    })))

-- behind the names, the front
abbrev pub after_names1 : List ℕ → Front → NamesRead → Result FileView OpenRefusal
after_names1 bytes front x = read_terms1 bytes front.docs front.terms None x.end >>= after_terms bytes front x.names

abbrev pub after_front1 : List ℕ → Front → Result FileView OpenRefusal
after_front1 bytes front = read_names1 bytes front.docs >>= after_names1 bytes front

-- the view that bytes stand for, or the first refusal
unfoldable pub read_file1 : List ℕ → Result FileView OpenRefusal
read_file1 bytes = read_front1 bytes >>= after_front1 bytes

-- the index of a view
abbrev pub index_in : FileView → Result IndexData OpenRefusal
index_in v = Ok v.index

-- the index that bytes stand for, or the first refusal
unfoldable pub read_index1 : List ℕ → Result IndexData OpenRefusal
read_index1 bytes = read_file1 bytes >>= index_in

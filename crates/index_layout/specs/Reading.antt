-- Reading an index file from the left, with the first refusal and its place. This project's.
use Rattle.std.specs.Prelude.{ℕ, zero, suc, ◌+◌, ◌==◌, ◌||◌, ◌&&◌, not, Bool, true, List, [], ◌∷◌, ◌++◌, length, map, take, Option, Some, None, Result, Ok, Err, nat_lt, nat_le, slice_index, slice_range}
use Rattle.std.specs.Option.{unwrap_or, is_none}
use Rattle.std.specs.List.{list_all, list_any, starts_with}
use Rattle.std.specs.Prelude.{nat_eq}
use Rattle.std.specs.Ordering.{is_lt, nat_cmp}
use Rattle.std.specs.Cmp.Lexicographic.{slice_cmp}
use Rattle.std.specs.Str.{is_utf8}
use Rattle.jass_base.specs.declared.payload_fault.PayloadFault.{PayloadFault}
use Rattle.segment_codecs.specs.Codecs.{codec_of, read_payload}
use Rattle.segment_codecs.specs.declared.codec.Codec.{Codec}
use Rattle.segment_codecs.specs.declared.codec.Codec.TheVariants as codecs
use Rattle.index_model.specs.Index.{SegmentData, TermData}
use Rattle.index_layout.specs.declared.refusal.OpenWhy.TheVariants.{Old, Magic, Length, Names, TermOrder, Heads, Payload, DocTwice, Totals, Limit}
use Rattle.index_layout.specs.declared.refusal.OpenRefusal.{OpenRefusal}
use Rattle.index_layout.specs.Bytes.{u16_in, u32_in, u64_in}
use Rattle.index_layout.specs.Heads.{HeadData, TermHeads, head_postings, greatest_impact}
use Rattle.index_layout.specs.Layout.{magic, old_magic, shared_with}
use Rattle.index_layout.specs.Refusals.{◌>>=◌, Check, check, judged, refuse}
use Rattle.index_layout.specs.View.{FileView}
use Rattle.jass_base.specs.declared.limits.TheConstants.{GREATEST_IMPACT, LONGEST_FILE, LONGEST_NAME, LONGEST_TERM, MOST_DOCUMENTS, MOST_POSTINGS, MOST_TERMS}

-- the numbers of documents and terms
pub record Front : Type 0 where
  pub docs : ℕ
  pub terms : ℕ

-- the first 40 bytes: magic, length, documents, terms, postings, greatest impact, zero
unfoldable pub front_checks : List ℕ → List Check
front_checks bytes =
    check (nat_lt LONGEST_FILE (length bytes)) LONGEST_FILE Limit
    ∷ check (starts_with nat_eq bytes old_magic) 0 Old
    ∷ check (not (starts_with nat_eq bytes magic)) 0 Magic
    ∷ check (nat_lt (length bytes) 40 || not (u64_in bytes 8 == length bytes)) 8 Length
    ∷ check (nat_lt MOST_DOCUMENTS (u32_in bytes 16)) 16 Limit
    ∷ check (nat_lt MOST_TERMS (u32_in bytes 20)) 20 Limit
    ∷ check (nat_lt MOST_POSTINGS (u64_in bytes 24)) 24 Limit
    ∷ check (not (u32_in bytes 36 == 0)) 36 Totals
    ∷ []

unfoldable pub read_front : List ℕ → Result Front OpenRefusal
read_front bytes = judged (front_checks bytes) (record { docs = u32_in bytes 16; terms = u32_in bytes 20 })

-- the name whose length stands at a place
unfoldable pub name_in : List ℕ → ℕ → List ℕ
name_in bytes at = slice_range bytes (at + 4) (at + 4 + u32_in bytes at)

-- whether bytes are text without a blank or a control character
abbrev pub is_name_text : List ℕ → Bool
is_name_text name = is_utf8 name && list_all (λ b. nat_lt 32 b && not (b == 127)) name

unfoldable pub name_checks : List ℕ → ℕ → List Check
name_checks bytes at =
    check (nat_lt (length bytes) (at + 4)) at Length
    ∷ check (u32_in bytes at == 0 || nat_lt LONGEST_NAME (u32_in bytes at)) at Names
    ∷ check (nat_lt (length bytes) (at + 4 + u32_in bytes at)) at Length
    ∷ check (not (is_name_text (name_in bytes at))) at Names
    ∷ []

-- the place behind the name at a place
unfoldable pub name_end : List ℕ → ℕ → Result ℕ OpenRefusal
name_end bytes at = judged (name_checks bytes at) (at + 4 + u32_in bytes at)

pub record NamesRead : Type 0 where
  pub names : List (List ℕ)
  pub end : ℕ

-- so many names from a place on
abbrev pub read_names : List ℕ → ℕ → ℕ → Result NamesRead OpenRefusal
read_names bytes zero at = Ok (record { names = []; end = at })
read_names bytes (suc k) at =
    name_end bytes at >>= λ next.
    (read_names bytes k next >>= λ later.
    Ok (record { names = name_in bytes at ∷ later.names; end = later.end }))

-- the head at a place
unfoldable pub head_in : List ℕ → ℕ → HeadData
head_in bytes at = record {
  impact = u16_in bytes at;
  count = u32_in bytes (at + 2);
  codec = unwrap_or (codec_of (slice_index bytes (at + 6))) codecs.Varbyte;
  size = u32_in bytes (at + 7);
}

-- the impact is below the one before; the count is at most the number of documents d; the codec is known
unfoldable pub head_checks : List ℕ → ℕ → ℕ → ℕ → List Check
head_checks bytes d above at =
    check (nat_lt (length bytes) (at + 11)) at Length
    ∷ check (u16_in bytes at == 0 || nat_le above (u16_in bytes at)) at Heads
    ∷ check (u32_in bytes (at + 2) == 0 || nat_lt d (u32_in bytes (at + 2))) at Heads
    ∷ check (is_none (codec_of (slice_index bytes (at + 6)))) at Heads
    ∷ []

-- the place behind the head at a place
unfoldable pub head_end : List ℕ → ℕ → ℕ → ℕ → Result ℕ OpenRefusal
head_end bytes d above at = judged (head_checks bytes d above at) (at + 11)

pub record HeadsRead : Type 0 where
  pub heads : List HeadData
  pub end : ℕ

-- so many heads from a place on, with impacts that fall from below a number
abbrev pub read_heads : List ℕ → ℕ → ℕ → ℕ → ℕ → Result HeadsRead OpenRefusal
read_heads bytes d zero above at = Ok (record { heads = []; end = at })
read_heads bytes d (suc k) above at =
    head_end bytes d above at >>= λ next.
    (read_heads bytes d k (u16_in bytes at) next >>= λ later.
    Ok (record { heads = head_in bytes at ∷ later.heads; end = later.end }))

-- the place of a term's number of segments
abbrev pub segments_place : List ℕ → ℕ → ℕ
segments_place bytes at = at + 4 + u16_in bytes (at + 2)

-- the bytes of the term before, none before the first
abbrev pub before_bytes : Option (List ℕ) → List ℕ
before_bytes before = unwrap_or before []

-- the term at a place, behind the one before
unfoldable pub term_in : List ℕ → Option (List ℕ) → ℕ → List ℕ
term_in bytes before at =
    take (u16_in bytes at) (before_bytes before) ++ slice_range bytes (at + 4) (segments_place bytes at)

-- whether a term is above the one before
abbrev pub rises_behind : Option (List ℕ) → List ℕ → Bool
rises_behind None term = true
rises_behind (Some before) term = is_lt (slice_cmp nat_cmp before term)

-- whether a term may stand behind the one before, where so many bytes are said to be shared
abbrev pub is_next_term : Option (List ℕ) → ℕ → List ℕ → Bool
is_next_term before shared term =
    shared_with (before_bytes before) term == shared
    && nat_le (length term) LONGEST_TERM && is_utf8 term && rises_behind before term

unfoldable pub term_checks : List ℕ → Option (List ℕ) → ℕ → List Check
term_checks bytes before at =
    check (nat_lt (length bytes) (at + 4)) at Length
    ∷ check (nat_lt (length bytes) (segments_place bytes at + 4)) at Length
    ∷ check (not (is_next_term before (u16_in bytes at) (term_in bytes before at))) at TermOrder
    ∷ check (u32_in bytes (segments_place bytes at) == 0) (segments_place bytes at) Heads
    ∷ []

-- the place of a term's heads
unfoldable pub term_end : List ℕ → Option (List ℕ) → ℕ → Result ℕ OpenRefusal
term_end bytes before at = judged (term_checks bytes before at) (segments_place bytes at + 4)

-- how many heads a term has
unfoldable pub heads_in : List ℕ → ℕ → ℕ
heads_in bytes at = u32_in bytes (segments_place bytes at)

pub record TermsRead : Type 0 where
  pub terms : List TermHeads
  pub end : ℕ

-- so many terms with their heads, from a place on
abbrev pub read_terms : List ℕ → ℕ → ℕ → Option (List ℕ) → ℕ → Result TermsRead OpenRefusal
read_terms bytes d zero before at = Ok (record { terms = []; end = at })
read_terms bytes d (suc k) before at =
    term_end bytes before at >>= λ place.
    (read_heads bytes d (heads_in bytes at) (GREATEST_IMPACT + 1) place >>= λ here.
    (read_terms bytes d k (Some (term_in bytes before at)) here.end >>= λ later.
    Ok (record {
      terms = record { term = term_in bytes before at; heads = here.heads } ∷ later.terms;
      end = later.end;
    })))

-- what a segment's payload at a place is read as
unfoldable pub read_segment : List ℕ → ℕ → HeadData → ℕ → Result (List ℕ) PayloadFault
read_segment bytes d head at = read_payload head.codec d head.count (slice_range bytes at (at + head.size))

abbrev pub docs_or_none : Result (List ℕ) PayloadFault → List ℕ
docs_or_none (Ok docs) = docs
docs_or_none (Err fault) = []

-- the documents of the segment
unfoldable pub docs_in : List ℕ → ℕ → HeadData → ℕ → List ℕ
docs_in bytes d head at = docs_or_none (read_segment bytes d head at)

-- a fault of a payload is refused at its place
abbrev pub payload_placed : {A : Type 0} → ℕ → Result A PayloadFault → Result A OpenRefusal
payload_placed at (Ok x) = Ok x
payload_placed at (Err fault) = refuse at (Payload fault)

-- whether a document is one of some, and whether one of some is
abbrev pub is_among : List ℕ → ℕ → Bool
is_among docs doc = list_any (nat_eq doc) docs

abbrev pub shares_one : List ℕ → List ℕ → Bool
shares_one earlier docs = list_any (is_among earlier) docs

-- the place behind a segment's payload; the segments before it in the term have the earlier documents
unfoldable pub payload_end : List ℕ → ℕ → List ℕ → HeadData → ℕ → Result ℕ OpenRefusal
payload_end bytes d earlier head at =
    judged (check (nat_lt (length bytes) (at + head.size)) at Length ∷ []) (read_segment bytes d head at)
    >>= payload_placed at
    >>= λ docs. judged (check (shares_one earlier docs) at DocTwice ∷ []) (at + head.size)

pub record SegmentsRead : Type 0 where
  pub segments : List SegmentData
  pub end : ℕ

-- the segments with these heads, and their payloads from a place on
abbrev pub read_segments : List ℕ → ℕ → List ℕ → List HeadData → ℕ → Result SegmentsRead OpenRefusal
read_segments bytes d earlier [] at = Ok (record { segments = []; end = at })
read_segments bytes d earlier (head ∷ heads) at =
    payload_end bytes d earlier head at >>= λ next.
    (read_segments bytes d (earlier ++ docs_in bytes d head at) heads next >>= λ later.
    Ok (record {
      segments = record { impact = head.impact; docs = docs_in bytes d head at } ∷ later.segments;
      end = later.end;
    }))

pub record IndexRead : Type 0 where
  pub terms : List TermData
  pub end : ℕ

-- the terms with these heads, and their payloads from a place on
abbrev pub read_payloads : List ℕ → ℕ → List TermHeads → ℕ → Result IndexRead OpenRefusal
read_payloads bytes d [] at = Ok (record { terms = []; end = at })
read_payloads bytes d (t ∷ terms) at =
    read_segments bytes d [] t.heads at >>= λ here.
    (read_payloads bytes d terms here.end >>= λ later.
    Ok (record { terms = record { term = t.term; segments = here.segments } ∷ later.terms; end = later.end }))

-- the codecs that the heads name
abbrev pub head_codecs : List TermHeads → List (List Codec)
head_codecs terms = map (λ (t : TermHeads). map (λ (h : HeadData). h.codec) t.heads) terms

-- nothing follows the last payload, and the totals are those of the heads
unfoldable pub end_checks : List ℕ → List TermHeads → ℕ → List Check
end_checks bytes terms end =
    check (nat_lt end (length bytes)) end Length
    ∷ check (not (u64_in bytes 24 == head_postings terms)) 24 Totals
    ∷ check (not (u32_in bytes 32 == greatest_impact terms)) 32 Totals
    ∷ []

-- behind the payloads, the terms, the names, the front
abbrev pub after_payloads : List ℕ → List (List ℕ) → List TermHeads → IndexRead → Result FileView OpenRefusal
after_payloads bytes names terms x =
    judged (end_checks bytes terms x.end)
    (record { index = record { names = names; terms = x.terms }; codecs = head_codecs terms })

abbrev pub after_terms : List ℕ → Front → List (List ℕ) → TermsRead → Result FileView OpenRefusal
after_terms bytes front names x = read_payloads bytes front.docs x.terms x.end >>= after_payloads bytes names x.terms

abbrev pub after_names : List ℕ → Front → NamesRead → Result FileView OpenRefusal
after_names bytes front x = read_terms bytes front.docs front.terms None x.end >>= after_terms bytes front x.names

abbrev pub after_front : List ℕ → Front → Result FileView OpenRefusal
after_front bytes front = read_names bytes front.docs 40 >>= after_names bytes front

-- the view that bytes stand for, or the first refusal
unfoldable pub read_index : List ℕ → Result FileView OpenRefusal
read_index bytes = read_front bytes >>= after_front bytes

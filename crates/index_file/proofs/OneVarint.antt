-- A payload of one varint.
use Rattle.std.proofs.Common.{◌≡◌, ◌<◌, ◌+◌, ◌-◌, ◌^◌, ℕ, List, [], ◌∷◌, ◌++◌, length, drop, Result, Ok, ap, sym, subst, ◌∙◌, refl, arith, slice_range, IsOk}
use Rattle.std.proofs.lemmas.List.{append-nil, take-append-drop}
use Rattle.index_file.proofs.Below.{AreDocs, GapSpelling, gap_in, short_varint, PayloadFault, payload_of, Varbyte}

abbrev pub Found : Type 0
Found = (gap : ℕ) (rest : List ℕ) → gap < 2 ^ 28 → gap_in (short_varint gap ++ rest) ≡ Ok (record { gap = gap; size = length (short_varint gap) })

-- its document is the varint
pub record OneGap (bytes : List ℕ) (d place : ℕ) (docs : List ℕ) : Type 0 where
  pub doc : ℕ
  pub only : docs ≡ doc ∷ []
  pub below : doc < d
  pub read : gap_in (drop place bytes) ≡ Ok (record { gap = doc; size = length (short_varint doc) })

pub one_there : (found : Found) (bytes : List ℕ) (d place size : ℕ) (docs : List ℕ) → AreDocs d docs → length docs ≡ 1 → slice_range bytes place (place + size) ≡ payload_of Varbyte d docs → OneGap bytes d place docs
one_there found bytes d place size [] are one spelled = absurd (omega (arith, one))
one_there found bytes d place size (doc ∷ []) are one spelled =
    let below : doc < d = are.below 0 0 (omega arith) in
    let limit = are.limit in
    let whole : doc - 0 ≡ doc = omega arith in
    let part : slice_range bytes place (place + size) ≡ short_varint doc = spelled ∙ append-nil (short_varint (doc - 0)) ∙ ap short_varint whole in
    let rest = drop (place + size - place) (drop place bytes) in
    record {
      doc = doc;
      only = refl;
      below = below;
      read = ap gap_in (sym (take-append-drop (place + size - place) (drop place bytes)) ∙ ap (λ some. some ++ rest) part) ∙ found doc rest (omega (arith, below, limit));
    }
one_there found bytes d place size (doc ∷ next ∷ docs) are one spelled = absurd (omega (arith, one))

pub gap_is : (bytes : List ℕ) (place one two size other : ℕ) → gap_in (drop place bytes) ≡ Ok (record { gap = one; size = size }) → gap_in (drop place bytes) ≡ Ok (record { gap = two; size = other }) → one ≡ two
gap_is bytes place one two size other first second = same (record { gap = one; size = size }) (record { gap = two; size = other }) (sym first ∙ second)
  where
    same : (x y : GapSpelling) → (let r : Result GapSpelling PayloadFault = Ok x in r) ≡ Ok y → x.gap ≡ y.gap
    same x y is = cc

pub gap_there : (read : Result GapSpelling PayloadFault) (x : GapSpelling) → read ≡ Ok x → IsOk read
gap_there read x is = subst IsOk (sym is) refl

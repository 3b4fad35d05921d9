-- The parts of an index file where they stand in some bytes: names, heads and payloads.
use Rattle.std.specs.Prelude.{ℕ, ◌≡◌, ◌+◌, ◌-◌, ◌*◌, ◌^◌, ◌≤◌, min, List, length, map, slice_range}
use Rattle.std.specs.List.{range_with_len}
use Rattle.jass_base.specs.Gaps.{AreDocs}
use Rattle.segment_codecs.specs.Codecs.{payload_of}
use Rattle.index_layout.specs.Bytes.{u32_in}
use Rattle.index_layout.specs.Heads.{HeadData}
use Rattle.index_layout.specs.Reading.{docs_in, head_in}
use Rattle.index_layout.specs.declared.refusal.OpenFault.{OpenFault}
use Rattle.index_layout.specs.declared.refusal.OpenFault.TheVariants as faults
use Rattle.index_file.specs.declared.segment_head.SegmentHead.{SegmentHead}

-- the name whose length stands at a place lies in the bytes
abbrev pub IsNamePlace : List ℕ → ℕ → Type 0
IsNamePlace bytes at = at + 4 + u32_in bytes at ≤ length bytes

-- a head that was read
abbrev pub told : SegmentHead → HeadData
told h = record { impact = h.impact; count = h.count; codec = h.codec; size = h.size }

-- a head of a segment has a document or more, and at most d
abbrev pub IsCounted : ℕ → HeadData → Type 0
IsCounted d h = (1 ≤ h.count) × (h.count ≤ d)

-- so many heads that stand one after the other, 11 bytes each, from a place on
abbrev pub heads_from : List ℕ → ℕ → ℕ → List HeadData
heads_from bytes k at = map (λ s. head_in bytes (at + 11 * s)) (range_with_len 0 k)

-- the payload of a head at a place lies in the bytes, and spells its documents
pub record IsPayloadAt (bytes : List ℕ) (d : ℕ) (h : HeadData) (at : ℕ) : Type 0 where
  pub within : at + h.size ≤ length bytes
  pub docs : AreDocs d (docs_in bytes d h at)
  pub count : length (docs_in bytes d h at) ≡ h.count
  pub spelled : slice_range bytes at (at + h.size) ≡ payload_of h.codec d (docs_in bytes d h at)

-- a fault of bytes that begin at a place of a file, as it stands in the file; no place is above 2^64 - 1
abbrev pub moved_fault : ℕ → OpenFault → OpenFault
moved_fault by (faults.Refused refusal) =
    faults.Refused (record { at = min (refusal.at + by) (2 ^ 64 - 1); why = refusal.why })
moved_fault by faults.ReadFault = faults.ReadFault
moved_fault by faults.NoMemory = faults.NoMemory

-- The first bytes of a file, and why they are not made.
use Rattle.std.specs.Prelude.{ℕ, ◌≡◌, ◌<◌, ◌≤◌, List, ◌++◌}
use Rattle.jass_base.specs.declared.answer.Totals.{Totals}
use Rattle.index_layout.specs.Bytes.{u32_bytes, u64_bytes}
use Rattle.index_layout.specs.Layout.{magic}
use Rattle.index_write.specs.declared.fault.SaveFault.{SaveFault}
use Rattle.index_write.specs.declared.fault.SaveFault.TheVariants as saving
use Rattle.jass_base.specs.declared.limits.TheConstants.{LONGEST_FILE}

-- the first 40 bytes of a file of so many bytes with these totals
abbrev pub first_bytes : ℕ → Totals → List ℕ
first_bytes size totals =
    magic ++ (u64_bytes size ++ (u32_bytes totals.docs ++ (u32_bytes totals.terms
    ++ (u64_bytes totals.postings ++ (u32_bytes totals.greatest ++ u32_bytes 0)))))

-- a fault of a file of so many bytes whose first ones are made in memory: it has more than 2^32, or memory was refused
abbrev pub Unspelled : ℕ → SaveFault → Type 0
Unspelled size (saving.TooLarge n) = (size ≡ n) × (LONGEST_FILE < n)
Unspelled size saving.WriteFault = ⊥
Unspelled size saving.NoMemory = size ≤ LONGEST_FILE

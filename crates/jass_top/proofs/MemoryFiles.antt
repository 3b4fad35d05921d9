-- The text of an index in memory, read again.
use Rattle.std.proofs.Common.{◌≡◌, ◌≤◌, ◌^◌, ℕ, List, length, Ok, Err, refl, sym, ap, ◌∙◌}
use Rattle.jass_top.proofs.Below.{IndexData, IsIndex, OpenFault, read_index, Fails, FileView, IsFileView, chosen_view, file_bytes, index_postings}
use Rattle.index_layout.specs.declared.refusal.OpenFault.TheVariants as faults
use Rattle.index_layout.specs.View.{index_text}
use Rattle.jass_top.specs.Private.HeldIndexes.{IsTextOf}

module _ (texts : (index : IndexData) → IsIndex index → index_postings index ≤ 2 ^ 29 → length (index_text index) ≤ 2 ^ 32 → IsFileView (chosen_view index))
    (found : (v : FileView) → IsFileView v → read_index (file_bytes v) ≡ Ok v)
    (bytes : List ℕ) (index : IndexData) (text : IsTextOf bytes index) where
  read_text : read_index bytes ≡ Ok (chosen_view index)
  unfolding index_text
  read_text = ap read_index text.spelled ∙ found (chosen_view index) (texts index text.is text.postings text.fits)

  pub view_is : (file : FileView) → read_index bytes ≡ Ok file → file ≡ chosen_view index
  view_is file reads = (let both : Ok file ≡ Ok (chosen_view index) = sym reads ∙ read_text in cc)

  pub never_fails : (fault : OpenFault) → Fails fault (read_index bytes) → fault ≡ faults.NoMemory
  never_fails (faults.Refused refusal) fails = (let both : Err refusal ≡ Ok (chosen_view index) = sym fails ∙ read_text in cc)
  never_fails faults.ReadFault fails = absurd fails
  never_fails faults.NoMemory fails = refl

-- What an import is judged to be, and what stands after it.
use Rattle.shared_lemmas.proofs.Common.{◌≡◌, ◌≤◌, ◌<◌, ◌^◌, ◌⊎◌, ℕ, List, length, Option, Some, None, Ok, Err, refl, sym, ap, ◌∙◌, inl, inr, IsSomeAnd, get}
use Rattle.jass_top.proofs.Below.{CollectionData, Files, OnContent, IsMissing, Rose, CiffRefusal, read_ciff, number_of, Rule, Bits, IndexData, index_text, collection_index, Begins, IsMade}
use Rattle.jass_top.specs.declared.stop.Place.TheVariants.{Byte}
use Rattle.jass_top.specs.IndexJudging.{fitting}
use Rattle.jass_top.specs.Judging.{Judged, Accepted, Missing, Refuses, Shows, behind, judge_ciff, judged_ciff, judged_content}
use Rattle.jass_top.specs.ImportMeaning.{import_meaning}
use Rattle.jass_top.specs.MakingMeaning.{judge_made, made_output}
use Rattle.jass_top.specs.Endings.{Over}
use Rattle.jass_top.specs.Standing.{FilePart, Keeps}
use Rattle.jass_top.specs.Worlds.{Outer}
use Rattle.jass_top.proofs.JudgedFiles.{fits, too_large}
use Rattle.jass_top.proofs.Stopping.{uncounted}

module _ (ciff : List ℕ) (rule : Rule) (bits : Bits) where
  abbrev pub judge_import : Option Files → Judged IndexData
  judge_import told = judge_made ciff (judge_ciff ciff) (collection_index rule bits) told

  judged : (told : Option Files) (P : List ℕ → Type 0) (other : Judged IndexData) → OnContent told ciff P
      → ((content : List ℕ) → P content → behind (judged_ciff ciff (read_ciff content)) (λ c. fitting ciff (collection_index rule bits c)) ≡ other) → Shows (judge_import told) other
  unfolding judge_ciff
  judged None P other is then = inl refl
  judged (Some files) P other is then = at (get files ciff) is
    where
      at : (o : Option (List ℕ)) → IsSomeAnd o P → Shows (behind (judged_content ciff o) (λ c. fitting ciff (collection_index rule bits c))) other
      at None is = absurd is
      at (Some content) is = inr (then content is)

  pub accepted : (told : Option Files) (made : IndexData) → IsMade told ciff rule bits made → length (index_text made) ≤ 2 ^ 32 → Shows (judge_import told) (Accepted made)
  accepted told made is few = judged told (λ content. (c : CollectionData) × (read_ciff content ≡ Ok c) × (made ≡ collection_index rule bits c)) (Accepted made) is (λ content (c, read, same).
      ap (λ r. behind (judged_ciff ciff r) (λ c. fitting ciff (collection_index rule bits c))) read ∙ ap (fitting ciff) (sym same) ∙ fits ciff made few)

  pub larger : (told : Option Files) (made : IndexData) (n : ℕ) → IsMade told ciff rule bits made → n ≡ length (index_text made) → 2 ^ 32 < n → Shows (judge_import told) (Refuses ciff 49 (Byte n))
  larger told made n is size large = judged told (λ content. (c : CollectionData) × (read_ciff content ≡ Ok c) × (made ≡ collection_index rule bits c)) (Refuses ciff 49 (Byte n)) is (λ content (c, read, same).
      ap (λ r. behind (judged_ciff ciff r) (λ c. fitting ciff (collection_index rule bits c))) read ∙ ap (fitting ciff) (sym same) ∙ too_large ciff made n (sym size) large)

  pub refused : (told : Option Files) (e : CiffRefusal) → OnContent told ciff (λ content. read_ciff content ≡ Err e) → Shows (judge_import told) (Refuses ciff (number_of e.why) (Byte e.at))
  refused told e is = judged told (λ content. read_ciff content ≡ Err e) (Refuses ciff (number_of e.why) (Byte e.at)) is (λ content read.
      ap (λ r. behind (judged_ciff ciff r) (λ c. fitting ciff (collection_index rule bits c))) read)

  pub unread : (told : Option Files) (before after : ℕ) → Rose before after ⊎ IsMissing told ciff → Rose before after ⊎ (judge_import told ≡ Missing ciff)
  unfolding judge_ciff
  unread told before after (inl rose) = inl rose
  unread None before after (inr is) = absurd is
  unread (Some files) before after (inr is) = inr (ap (λ o. behind (judged_content ciff o) (λ c. fitting ciff (collection_index rule bits c))) is)

module _ (ciff : List ℕ) (rule : Rule) (bits : Bits) (index : List ℕ) (before after : Outer) where
  -- an import that stopped left nothing, or a part of the index
  pub stands : after.written ≡ before.written → after.left ≡ before.left → after.steps ≡ before.steps → (after.told ≡ before.told) ⊎ ((made : IndexData) × IsMade before.told ciff rule bits made × Begins before.told after.told index made)
      → Keeps before after ⊎ Over (import_meaning ciff index rule bits) (λ made. FilePart index (made_output made)) before after
  stands written left steps (inl same) = inl (record { told = same; written = written; left = left; steps = steps })
  stands written left steps (inr (made, is, inl same)) = inl (record { told = same; written = written; left = left; steps = steps })
  stands written left steps (inr (made, is, inr (few, part))) = inr (record {
    inputs = made;
    accepted = accepted ciff rule bits before.told made is few;
    stands = record { content = inr part; written = written; steps = uncounted before after 0 steps };
  })

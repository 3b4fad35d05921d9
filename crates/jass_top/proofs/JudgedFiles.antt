-- What an index file is judged to be, from what opening it gave, and what is judged behind other inputs.
use Rattle.shared_lemmas.proofs.Common.{◌≡◌, ◌≢◌, ◌≤◌, ◌<◌, ◌^◌, ℕ, List, length, take, Option, Some, None, Result, Ok, Err, true, false, nat_le, refl, sym, ap, subst, ◌∙◌, ◌⊎◌, inl, inr, arith, IsSomeAnd, get, nat_tests, take_all}
use Rattle.jass_top.proofs.Below.{Files, OnContent, IsMissing, Rose, Sets, IndexData, OpenRefusal, read_index, FileView, index_text, read_index1}
use Rattle.index_layout.specs.Refusals.{number_of}
use Rattle.jass_top.specs.IndexJudging.{IsFirstRefusal, judged_file, judged_index, judged_old, judge_index, judge_old, fitting}
use Rattle.jass_top.specs.Standing.{LeavesFront}
use Rattle.jass_top.specs.declared.stop.Place.{Place}
use Rattle.jass_top.specs.declared.stop.Place.TheVariants.{Byte}
use Rattle.jass_top.specs.Judging.{Accepted, Missing, Refuses, Untold, Shows}

pub shown_file : (told : Option Files) (name : List ℕ) (result : Result FileView OpenRefusal) → OnContent told name (λ content. read_index content ≡ result) → Shows (judge_index name told) (judged_file name result)
unfolding judge_index
shown_file None name result there = inl refl
shown_file (Some files) name result there = at (get files name) there
  where
    at : (o : Option (List ℕ)) → IsSomeAnd o (λ content. read_index content ≡ result) → Shows (judged_index name o) (judged_file name result)
    at None there = absurd there
    at (Some content) there = inr (ap (judged_file name) there)

pub unread_index : (told : Option Files) (name : List ℕ) (before after : ℕ) → Rose before after ⊎ IsMissing told name → Rose before after ⊎ (judge_index name told ≡ Missing name)
unfolding judge_index
unread_index told name before after (inl rose) = inl rose
unread_index None name before after (inr is) = absurd is
unread_index (Some files) name before after (inr is) = inr (ap (judged_index name) is)

pub shown_old : (told : Option Files) (name row : List ℕ) (result : Result IndexData OpenRefusal) → ((bytes : List ℕ) → read_index1 (take 4294967297 bytes) ≡ read_index1 bytes)
    → OnContent told name (λ content. row ≡ take 4294967297 content) → read_index1 row ≡ result → Shows (judge_old name told) (judged_file name result)
unfolding judge_old
shown_old None name row result front there is = inl refl
shown_old (Some files) name row result front there is = at (get files name) there
  where
    at : (o : Option (List ℕ)) → IsSomeAnd o (λ content. row ≡ take 4294967297 content) → Shows (judged_old name o) (judged_file name result)
    at None there = absurd there
    at (Some content) there = inr (ap (judged_file name) (sym (front content) ∙ ap read_index1 (sym there) ∙ is))

pub unread_old : (told : Option Files) (name : List ℕ) (before after : ℕ) → Rose before after ⊎ IsMissing told name → Rose before after ⊎ (judge_old name told ≡ Missing name)
unfolding judge_old
unread_old told name before after (inl rose) = inl rose
unread_old None name before after (inr is) = absurd is
unread_old (Some files) name before after (inr is) = inr (ap (judged_old name) is)

-- ---- an index that becomes a file

pub fits : (name : List ℕ) (index : IndexData) → length (index_text index) ≤ 2 ^ 32 → fitting name index ≡ Accepted index
unfolding fitting
fits name index few = (let is : nat_le (length (index_text index)) (2 ^ 32) ≡ true = grind (arith, nat_tests, few) in rw is refl)

pub too_large : (name : List ℕ) (index : IndexData) (n : ℕ) → length (index_text index) ≡ n → 2 ^ 32 < n → fitting name index ≡ Refuses name 49 (Byte n)
unfolding fitting
too_large name index n size large = let is : nat_le n (2 ^ 32) ≡ false = grind (arith, nat_tests, large) in rw (size, is) refl

-- a whole content is a front of itself
pub whole_front : (old new : Option Files) (name text : List ℕ) → Sets old new name text → LeavesFront (Some name) old new text
whole_front old new name text is = inr (length text, subst (λ (content : List ℕ). Sets old new name content) (sym (take_all (length text) text (omega arith))) is)

-- ---- what is accepted stands for its content

found : {A : Type 0} (name : List ℕ) (result : Result A OpenRefusal) (x : A) → judged_file name result ≡ Accepted x → result ≡ Ok x
found name (Ok w) x is = let same : w ≡ x = cc in ap Ok same
found name (Err e) x is = cc

result_told : {A : Type 0} (name : List ℕ) (result : Result A OpenRefusal) → judged_file name result ≢ Untold
result_told name (Ok c) is = cc
result_told name (Err e) is = cc

pub index_found : (name : List ℕ) (files : Files) (v : FileView) → judge_index name (Some files) ≡ Accepted v → (content : List ℕ) × (get files name ≡ Some content) × (read_index content ≡ Ok v)
unfolding judge_index
index_found name files v is = at (get files name) refl is
  where
    at : (o : Option (List ℕ)) → get files name ≡ o → judged_index name o ≡ Accepted v → (content : List ℕ) × (get files name ≡ Some content) × (read_index content ≡ Ok v)
    at None there is = cc
    at (Some content) there is = (content, there, found name (read_index content) v is)

pub old_found : (name : List ℕ) (files : Files) (index : IndexData) → judge_old name (Some files) ≡ Accepted index → (content : List ℕ) × (get files name ≡ Some content) × (read_index1 content ≡ Ok index)
unfolding judge_old
old_found name files index is = at (get files name) refl is
  where
    at : (o : Option (List ℕ)) → get files name ≡ o → judged_old name o ≡ Accepted index → (content : List ℕ) × (get files name ≡ Some content) × (read_index1 content ≡ Ok index)
    at None there is = cc
    at (Some content) there is = (content, there, found name (read_index1 content) index is)

pub index_only : (name : List ℕ) (files : Files) (content : List ℕ) (v : FileView) → get files name ≡ Some content → read_index content ≡ Ok v → judge_index name (Some files) ≡ Accepted v
unfolding judge_index
index_only name files content v there is = ap (judged_index name) there ∙ ap (judged_file name) is

pub old_only : (name : List ℕ) (files : Files) (content : List ℕ) (index : IndexData) → get files name ≡ Some content → read_index1 content ≡ Ok index → judge_old name (Some files) ≡ Accepted index
unfolding judge_old
old_only name files content index there is = ap (judged_old name) there ∙ ap (judged_file name) is

pub index_told : (name : List ℕ) (files : Files) → judge_index name (Some files) ≢ Untold
unfolding judge_index
index_told name files is = at (get files name) is
  where
    at : (o : Option (List ℕ)) → judged_index name o ≢ Untold
    at None is = cc
    at (Some content) is = result_told name (read_index content) is

pub old_told : (name : List ℕ) (files : Files) → judge_old name (Some files) ≢ Untold
unfolding judge_old
old_told name files is = at (get files name) is
  where
    at : (o : Option (List ℕ)) → judged_old name o ≢ Untold
    at None is = cc
    at (Some content) is = result_told name (read_index1 content) is

-- ---- what isn't accepted is missing, or has a first refusal

never_missing : {A : Type 0} (name other : List ℕ) (result : Result A OpenRefusal) → judged_file name result ≢ Missing other
never_missing name other (Ok c) is = cc
never_missing name other (Err e) is = cc

first_refusal : {A : Type 0} (name other : List ℕ) (number : ℕ) (place : Place) (result : Result A OpenRefusal) → judged_file name result ≡ Refuses other number place → (other ≡ name) × IsFirstRefusal result number place
first_refusal name other number place (Ok c) is = cc
first_refusal name other number place (Err e) is =
    let same : other ≡ name = cc in
    let numbered : number ≡ number_of e.why = cc in
    let placed : place ≡ Byte e.at = cc in
    (same, record { refusal = e; first = refl; numbered = numbered; placed = placed })

pub index_missed : (name other : List ℕ) (files : Files) → judge_index name (Some files) ≡ Missing other → (other ≡ name) × (get files name ≡ None)
unfolding judge_index
index_missed name other files is = at (get files name) is
  where
    at : (o : Option (List ℕ)) → judged_index name o ≡ Missing other → (other ≡ name) × (o ≡ None)
    at None is = let same : other ≡ name = cc in (same, refl)
    at (Some content) is = absurd (never_missing name other (read_index content) is)

pub index_refused : (name other : List ℕ) (files : Files) (number : ℕ) (place : Place) → judge_index name (Some files) ≡ Refuses other number place
    → (other ≡ name) × (content : List ℕ) × (get files name ≡ Some content) × IsFirstRefusal (read_index content) number place
unfolding judge_index
index_refused name other files number place is = at (get files name) is
  where
    at : (o : Option (List ℕ)) → judged_index name o ≡ Refuses other number place → (other ≡ name) × (content : List ℕ) × (o ≡ Some content) × IsFirstRefusal (read_index content) number place
    at None is = cc
    at (Some content) is = let (same, first) = first_refusal name other number place (read_index content) is in (same, content, refl, first)

pub old_missed : (name other : List ℕ) (files : Files) → judge_old name (Some files) ≡ Missing other → (other ≡ name) × (get files name ≡ None)
unfolding judge_old
old_missed name other files is = at (get files name) is
  where
    at : (o : Option (List ℕ)) → judged_old name o ≡ Missing other → (other ≡ name) × (o ≡ None)
    at None is = let same : other ≡ name = cc in (same, refl)
    at (Some content) is = absurd (never_missing name other (read_index1 content) is)

pub old_refused : (name other : List ℕ) (files : Files) (number : ℕ) (place : Place) → judge_old name (Some files) ≡ Refuses other number place
    → (other ≡ name) × (content : List ℕ) × (get files name ≡ Some content) × IsFirstRefusal (read_index1 content) number place
unfolding judge_old
old_refused name other files number place is = at (get files name) is
  where
    at : (o : Option (List ℕ)) → judged_old name o ≡ Refuses other number place → (other ≡ name) × (content : List ℕ) × (o ≡ Some content) × IsFirstRefusal (read_index1 content) number place
    at None is = cc
    at (Some content) is = let (same, first) = first_refusal name other number place (read_index1 content) is in (same, content, refl, first)

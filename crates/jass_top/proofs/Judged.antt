-- What a file is judged to be, from what reading it gave.
use Rattle.shared_lemmas.proofs.Common.{◌≡◌, ◌≢◌, ℕ, List, take, Option, Some, None, Result, Ok, Err, refl, sym, ap, ◌∙◌, ◌⊎◌, inl, inr, IsSomeAnd, get}
use Rattle.jass_top.proofs.Below.{CollectionData, IsCiff, Files, OnContent, IsMissing, Rose, CiffRefusal, read_ciff, number_of}
use Rattle.jass_top.specs.declared.stop.Place.{Place}
use Rattle.jass_top.specs.declared.stop.Place.TheVariants.{Byte}
use Rattle.jass_top.specs.Judging.{Accepted, Missing, Refuses, Untold, IsRefused, Shows, judged_ciff, judged_content, judged_there, judge_ciff, judge_content}
use Rattle.jass_top.specs.Private.Inputs.{AcceptsSuch}

pub shown : (told : Option Files) (name row : List ℕ) (result : Result CollectionData CiffRefusal) → ((bytes : List ℕ) → read_ciff (take 4294967312 bytes) ≡ read_ciff bytes)
    → OnContent told name (λ content. row ≡ take 4294967312 content) → read_ciff row ≡ result → Shows (judge_ciff name told) (judged_ciff name result)
unfolding judge_ciff
shown None name row result front there is = inl refl
shown (Some files) name row result front there is = at (get files name) there
  where
    at : (o : Option (List ℕ)) → IsSomeAnd o (λ content. row ≡ take 4294967312 content) → Shows (judged_content name o) (judged_ciff name result)
    at None there = absurd there
    at (Some content) there = inr (ap (judged_ciff name) (sym (front content) ∙ ap read_ciff (sym there) ∙ is))

pub missing : (told : Option Files) (name : List ℕ) → IsMissing told name → judge_ciff name told ≡ Missing name
unfolding judge_ciff
missing None name is = absurd is
missing (Some files) name is = ap (judged_content name) is

pub unread_file : (told : Option Files) (name : List ℕ) (before after : ℕ) → Rose before after ⊎ IsMissing told name → Rose before after ⊎ (judge_ciff name told ≡ Missing name)
unread_file told name before after (inl rose) = inl rose
unread_file told name before after (inr is) = inr (missing told name is)

-- ---- what is accepted stands for its collection

pub found : ((bytes : List ℕ) (c : CollectionData) → read_ciff bytes ≡ Ok c → IsCiff bytes c)
    → (name : List ℕ) (files : Files) (c : CollectionData) → judge_ciff name (Some files) ≡ Accepted c → (content : List ℕ) × (get files name ≡ Some content) × IsCiff content c
unfolding judge_ciff
found law name files c is = at (get files name) refl is
  where
    read : (content : List ℕ) (result : Result CollectionData CiffRefusal) → read_ciff content ≡ result → judged_ciff name result ≡ Accepted c → read_ciff content ≡ Ok c
    read content (Ok d) gives is = let same : d ≡ c = cc in gives ∙ ap Ok same
    read content (Err e) gives is = cc

    at : (o : Option (List ℕ)) → get files name ≡ o → judged_content name o ≡ Accepted c → (content : List ℕ) × (get files name ≡ Some content) × IsCiff content c
    at None there is = cc
    at (Some content) there is = (content, there, law content c (read content (read_ciff content) refl is))

pub only : ((bytes : List ℕ) (c : CollectionData) → IsCiff bytes c → read_ciff bytes ≡ Ok c)
    → (name : List ℕ) (files : Files) (content : List ℕ) (c : CollectionData) → get files name ≡ Some content → IsCiff content c → judge_ciff name (Some files) ≡ Accepted c
unfolding judge_ciff
only law name files content c there is = ap (judged_content name) there ∙ ap (judged_ciff name) (law content c is)

-- ---- what is told is judged

pub told : (name : List ℕ) (files : Files) → judge_ciff name (Some files) ≢ Untold
unfolding judge_ciff
told name files is = at (get files name) is
  where
    read : (result : Result CollectionData CiffRefusal) → judged_ciff name result ≢ Untold
    read (Ok c) is = cc
    read (Err e) is = cc

    at : (o : Option (List ℕ)) → judged_content name o ≢ Untold
    at None is = cc
    at (Some content) is = read (read_ciff content) is

pub missed : (name other : List ℕ) (files : Files) → judge_ciff name (Some files) ≡ Missing other → (other ≡ name) × (get files name ≡ None)
unfolding judge_ciff
missed name other files is = at (get files name) is
  where
    read : {B : Type 0} (result : Result CollectionData CiffRefusal) → judged_ciff name result ≡ Missing other → B
    read (Ok c) is = cc
    read (Err e) is = cc

    at : (o : Option (List ℕ)) → judged_content name o ≡ Missing other → (other ≡ name) × (o ≡ None)
    at None is = let same : other ≡ name = cc in (same, refl)
    at (Some content) is = read (read_ciff content) is

pub refused : (name other : List ℕ) (files : Files) (number : ℕ) (place : Place) → judge_ciff name (Some files) ≡ Refuses other number place
    → (other ≡ name) × (content : List ℕ) × (get files name ≡ Some content) × IsRefused content number place
unfolding judge_ciff
refused name other files number place is = at (get files name) is
  where
    read : (content : List ℕ) (result : Result CollectionData CiffRefusal) → read_ciff content ≡ result → judged_ciff name result ≡ Refuses other number place → (other ≡ name) × IsRefused content number place
    read content (Ok c) gives is = cc
    read content (Err e) gives is =
        let same : other ≡ name = cc in
        let numbered : number ≡ number_of e.why = cc in
        let placed : place ≡ Byte e.at = cc in
        (same, record { refusal = e; first = gives; numbered = numbered; placed = placed })

    at : (o : Option (List ℕ)) → judged_content name o ≡ Refuses other number place → (other ≡ name) × (content : List ℕ) × (o ≡ Some content) × IsRefused content number place
    at None is = cc
    at (Some content) is = let (same, refusal) = read content (read_ciff content) refl is in (same, content, refl, refusal)

-- ---- the content alone

pub content_such : (told : Option Files) (name : List ℕ) (P : List ℕ → Type 0) → OnContent told name P → AcceptsSuch (judge_content name told) P
unfolding judge_content
content_such None name P there = inl refl
content_such (Some files) name P there = inr (at (get files name) there)
  where
    at : (o : Option (List ℕ)) → IsSomeAnd o P → (content : List ℕ) × (judged_there name o ≡ Accepted content) × P content
    at None there = absurd there
    at (Some content) there = (content, refl, there)

pub unread_content : (told : Option Files) (name : List ℕ) (before after : ℕ) → Rose before after ⊎ IsMissing told name → Rose before after ⊎ (judge_content name told ≡ Missing name)
unfolding judge_content
unread_content told name before after (inl rose) = inl rose
unread_content None name before after (inr is) = absurd is
unread_content (Some files) name before after (inr is) = inr (ap (judged_there name) is)

pub content_found : (name : List ℕ) (files : Files) (content : List ℕ) → judge_content name (Some files) ≡ Accepted content → get files name ≡ Some content
unfolding judge_content
content_found name files content is = at (get files name) is
  where
    at : (o : Option (List ℕ)) → judged_there name o ≡ Accepted content → o ≡ Some content
    at None is = cc
    at (Some other) is = let same : other ≡ content = cc in ap Some same

pub content_only : (name : List ℕ) (files : Files) (content : List ℕ) → get files name ≡ Some content → judge_content name (Some files) ≡ Accepted content
unfolding judge_content
content_only name files content there = ap (judged_there name) there

pub content_told : (name : List ℕ) (files : Files) → judge_content name (Some files) ≢ Untold
unfolding judge_content
content_told name files is = at (get files name) is
  where
    at : (o : Option (List ℕ)) → judged_there name o ≢ Untold
    at None is = cc
    at (Some content) is = cc

pub content_missed : (name other : List ℕ) (files : Files) → judge_content name (Some files) ≡ Missing other → (other ≡ name) × (get files name ≡ None)
unfolding judge_content
content_missed name other files is = at (get files name) is
  where
    at : (o : Option (List ℕ)) → judged_there name o ≡ Missing other → (other ≡ name) × (o ≡ None)
    at None is = let same : other ≡ name = cc in (same, refl)
    at (Some content) is = cc

pub content_unrefused : (name other : List ℕ) (files : Files) (number : ℕ) (place : Place) → judge_content name (Some files) ≢ Refuses other number place
unfolding judge_content
content_unrefused name other files number place is = at (get files name) is
  where
    at : (o : Option (List ℕ)) → judged_there name o ≢ Refuses other number place
    at None is = cc
    at (Some content) is = cc

-- What the run lines of an answer share.
use Rattle.std.specs.Prelude.{ℕ, ◌≡◌, ◌+◌, ◌≤◌, List, ◌++◌, codes, decimal, length, map, []}
use Rattle.std.specs.List.{slice_index_or}
use Rattle.jass_base.specs.declared.answer.Hit.{Hit}
use Rattle.trec_run.specs.declared.frame.Frame.{Frame}
use Rattle.trec_run.specs.declared.line.Shared.{Shared}

-- the tag with what is behind it
abbrev pub whole_tag : Shared → List ℕ
whole_tag shared = shared.tag.now ++ (shared.point.now ++ shared.part.now)

-- what stands before the name
abbrev pub front_of : List ℕ → List ℕ
front_of id = id ++ codes " Q0 "

-- what stands behind the score
abbrev pub tail_of : List ℕ → List ℕ
tail_of tag = codes " " ++ (tag ++ codes "\n")

-- both have at most 64 bytes, the second with a score
pub record AreShort (shared : Shared) : Type 0 where
  pub front : length shared.id.now ≤ 60
  pub tail : length shared.tag.now + length shared.point.now + length shared.part.now ≤ 51

-- the frame of the lines with this id and this tag
pub record IsFrame (frame : Frame) (id tag : List ℕ) : Type 0 where
  pub front : frame.front ≡ front_of id
  pub tail : frame.tail ≡ tail_of tag
  pub short : length frame.tail ≤ 53
  pub ending : frame.ending ≡ codes " " ++ (decimal frame.score ++ frame.tail)

-- the names of some hits
abbrev pub names_of : List (List ℕ) → List Hit → List (List ℕ)
names_of names hits = map (λ hit. slice_index_or names hit.doc []) hits

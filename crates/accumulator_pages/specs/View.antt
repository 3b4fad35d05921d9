-- What contracts see of a session's pages.
use Rattle.std.specs.Prelude.{ℕ, List}

-- the chain that the pages stand in, how many documents they are of, the table with an entry for each page, for how many
-- entries it has room, and how many pages have a frame
pub record PagesView : Type 0 where
  pub chain : ℕ
  pub docs : ℕ
  pub table : List ℕ
  pub room : ℕ
  pub frames : ℕ

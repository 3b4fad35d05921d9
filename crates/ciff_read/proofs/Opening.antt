-- A walk that was opened.
use Rattle.shared_lemmas.proofs.Common.{◌≡◌, ℕ, ◌%◌, List, [], false, Some, None, Result, Ok, refl, ap, ◌∙◌, nat_eq, bit_at-zero}
use Rattle.jass_base.specs.CiffViews.{header_data}
use Rattle.ciff_read.specs.declared.file_head.FileHead.{FileHead}
use Rattle.ciff_read.specs.declared.refusal.CiffRefusal.{CiffRefusal}
use Rattle.whole_files.specs.declared.window.Window.{Window}
use Rattle.ciff_read.specs.Marks.{is_marked}
use Rattle.ciff_read.specs.Pieces.{KeptList, FileHeader, header_of_file, begun, after}
use Rattle.ciff_read.specs.Private.Reached.{file_header}
use Rattle.ciff_read.specs.Refusals.{◌>>=◌}
use Rattle.ciff_read.specs.Walk.{WalkView, Stands}
use Rattle.whole_files.specs.Windows.{Shows}

-- what a walk is that has given nothing
abbrev pub new_walk : List ℕ → FileHead → ℕ → List KeptList → List ℕ → Window → WalkView
new_walk name head at kept marks w = record {
  name = name;
  header = Some (header_data head.header);
  lists = head.lists;
  docs = head.docs;
  at = at;
  kept = kept;
  marks = marks;
  given = 0;
  ended = false;
  answered = None;
  start = w.start;
  bytes = w.bytes.items;
}

pub opened : (content name : List ℕ) (head : FileHead) (at : ℕ) (kept : List KeptList) (marks : List ℕ) (w : Window) → kept ≡ [] → marks ≡ [] → header_of_file content ≡ Ok (file_header (head, at)) → Shows content w
    → Stands content (new_walk name head at kept marks w)
opened content name head at kept marks w none unmarked is shows = record {
  progress = begun (file_header (head, at));
  reached = record { count = 0; reached = ap (λ (r : Result FileHeader CiffRefusal). r >>= λ h. after 0 content (begun h)) is };
  keeps = record {
    header = refl;
    lists = refl;
    docs = refl;
    at = refl;
    kept = none;
    given = refl;
    marks = λ n. ap (λ (words : List ℕ). is_marked words n) unmarked ∙ ap (λ b. nat_eq b 1) (bit_at-zero (n % 64));
  };
  over = record { shows = shows; ends = λ is. absurd cc };
}

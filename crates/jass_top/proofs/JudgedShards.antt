-- What the parts of a collection and the queries over them are judged to be, from what opening them gave.
use Rattle.shared_lemmas.proofs.Common.{◌≡◌, ◌≢◌, ◌≤◌, ◌<◌, ◌+◌, ℕ, zero, suc, List, [], ◌∷◌, ◌++◌, length, take, drop, true, false, nat_lt, Option, Some, None, refl, sym, ap, subst, ◌∙◌, inl, inr, arith, nat_tests, get_or, string_bytes, Err, String}
use Rattle.std.specs.List.{slice_index_or, sum_by}
use Rattle.std.specs.declared.alloc.Global.{Global}
use Rattle.std.proofs.lemmas.List.{drop_more, get_or-map, length-map, take-append-drop, take_more}
use Rattle.std.proofs.lemmas.List.Sums.{sum_by-cons}
use Rattle.jass_top.proofs.Below.{texts_of, FileView, Files, Mode, IndexData, QueryData}
use Rattle.jass_base.specs.declared.limits.TheConstants.{MOST_DOCUMENTS, MOST_POSTINGS}
use Rattle.index_layout.specs.View.{index_postings}
use Rattle.index_model.specs.Unions.{union_of}
use Rattle.shard_search.specs.Sums.{Fits, IsPassedAt, file_docs, file_postings, indexes_of}
use Rattle.shard_search.specs.declared.stop.ShardStop.{ShardStop}
use Rattle.shard_search.specs.declared.stop.ShardStop.TheVariants.{Documents, Postings}
use Rattle.jass_words.specs.Words.{texts}
use Rattle.jass_top.specs.declared.stop.Place.TheVariants.{Byte}
use Rattle.jass_top.specs.declared.stop.Stop.{Stop}
use Rattle.jass_top.specs.declared.stop.Stop.TheVariants as stops
use Rattle.jass_top.specs.Causes.{IsOneOf}
use Rattle.jass_top.specs.IndexJudging.{judge_held, judge_index}
use Rattle.jass_top.specs.Judging.{Accepted, Judged, Missing, Refuses, Shows, Untold, behind, judge_content}
use Rattle.jass_top.specs.QueryJudging.{judge_queries, without_lines}
use Rattle.jass_top.specs.SearchMeaning.{SearchInputs}
use Rattle.jass_top.specs.ShardsMeaning.{document_count, judge_parts, judge_shards, passing, refused_where, united}
use Rattle.jass_top.specs.Private.Causes.{Unheld, Unread}
use Rattle.jass_top.specs.Private.Inputs.{AcceptsSuch, HasInput}
use Rattle.jass_top.proofs.Behind.{behind_both, shown_then, unread_before, unread_behind, unread_first}
use Rattle.jass_top.proofs.JudgedFiles.{index_told}
use Rattle.jass_words.specs.declared.until.Until.TheVariants as untils
use Rattle.jass_top.proofs.JudgedQueries.{queries_had, queries_unheld}

-- ---- the parts

abbrev joined : List IndexData → List IndexData → Judged (List IndexData)
joined parts more = Accepted (parts ++ more)

-- some parts and others behind them
pub parts_split : (names more : List (List ℕ)) (told : Option Files) → judge_parts (names ++ more) told ≡ behind (judge_parts names told) (λ parts. behind (judge_parts more told) (joined parts))
parts_split [] more told = same (judge_parts more told)
  where
    same : (judged : Judged (List IndexData)) → judged ≡ behind judged (joined [])
    same (Accepted parts) = refl
    same (Missing name) = refl
    same (Refuses name number at) = refl
    same Untold = refl
parts_split (name ∷ names) more told =
    ap (λ (j : Judged (List IndexData)). behind (judge_held name told) (λ part. behind j (λ parts. Accepted (part ∷ parts)))) (parts_split names more told)
    ∙ (λ i. behind (judge_held name told) (λ part. inner part i))
    ∙ sym (behind_both (judge_held name told) (λ part. behind (judge_parts names told) (λ parts. Accepted (part ∷ parts))) (λ parts. behind (judge_parts more told) (joined parts)))
  where
    inner : (part : IndexData) → behind (behind (judge_parts names told) (λ parts. behind (judge_parts more told) (joined parts))) (λ parts. Accepted (part ∷ parts))
        ≡ behind (behind (judge_parts names told) (λ parts. Accepted (part ∷ parts))) (λ parts. behind (judge_parts more told) (joined parts))
    inner part = behind_both (judge_parts names told) (λ parts. behind (judge_parts more told) (joined parts)) (λ parts. Accepted (part ∷ parts))
        ∙ (λ i. behind (judge_parts names told) (λ parts. behind_both (judge_parts more told) (joined parts) (λ all. Accepted (part ∷ all)) i))
        ∙ sym (behind_both (judge_parts names told) (λ parts. Accepted (part ∷ parts)) (λ parts. behind (judge_parts more told) (joined parts)))

-- where they are untold, nothing is told
front_untold : (name : List ℕ) (names : List (List ℕ)) (files : Files) → (judge_parts names (Some files) ≢ Untold) → (judged : Judged FileView) → judge_index name (Some files) ≡ judged
    → behind (behind judged (λ file. Accepted file.index)) (λ part. behind (judge_parts names (Some files)) (λ parts. Accepted (part ∷ parts))) ≢ Untold
front_untold name names files told Untold same is = index_told name files same
front_untold name names files told (Missing other) same is = cc
front_untold name names files told (Refuses other number place) same is = cc
front_untold name names files told (Accepted file) same is = rest (judge_parts names (Some files)) told is
  where
    rest : (judged : Judged (List IndexData)) → judged ≢ Untold → behind judged (λ parts. Accepted (file.index ∷ parts)) ≢ Untold
    rest Untold told is = told refl
    rest (Accepted parts) told is = cc
    rest (Missing other) told is = cc
    rest (Refuses other number place) told is = cc

parts_told : (names : List (List ℕ)) (files : Files) → judge_parts names (Some files) ≢ Untold
parts_told [] files is = cc
parts_told (name ∷ names) files is = front_untold name names files (parts_told names files) (judge_index name (Some files)) refl is

pub parts_untold : (names : List (List ℕ)) (told : Option Files) → judge_parts names told ≡ Untold → told ≡ None
parts_untold names None is = refl
parts_untold names (Some files) is = absurd (parts_told names files is)

-- and where nothing is told, they are untold
none_told : (name : List ℕ) (names : List (List ℕ)) → judge_parts (name ∷ names) None ≡ Untold
unfolding judge_index
none_told name names = refl

held_shown : (name : List ℕ) (told : Option Files) (file : FileView) → Shows (judge_index name told) (Accepted file) → Shows (judge_held name told) (Accepted file.index)
held_shown name told file shows = shown_then (judge_index name told) file (λ f. Accepted f.index) (Accepted file.index) shows (inr refl)

-- one part more
pub part_had : (names : List (List ℕ)) (name : List ℕ) (told : Option Files) (files : List FileView) (file : FileView) → HasInput (judge_parts names told) (λ parts. parts ≡ indexes_of files) → Shows (judge_index name told) (Accepted file)
    → HasInput (judge_parts (names ++ name ∷ []) told) (λ parts. parts ≡ indexes_of (files ++ file ∷ []))
part_had names name told files file had shows =
    let all : List IndexData = had.input ++ file.index ∷ [] in
    record {
      input = all;
      accepted = subst (λ (j : Judged (List IndexData)). Shows j (Accepted all)) (sym (parts_split names (name ∷ []) told))
          (shown_then (judge_parts names told) had.input (λ parts. behind (judge_parts (name ∷ []) told) (joined parts)) (Accepted all) had.accepted
          (shown_then (judge_parts (name ∷ []) told) (file.index ∷ []) (joined had.input) (Accepted all)
          (shown_then (judge_held name told) file.index (λ part. behind (judge_parts [] told) (λ parts. Accepted (part ∷ parts))) (Accepted (file.index ∷ [])) (held_shown name told file shows) (inr refl)) (inr refl)));
      holds = ap (λ (parts : List IndexData). parts ++ file.index ∷ []) had.holds ∙ sym (indexes_more files);
    }
  where
    indexes_more : (fs : List FileView) → indexes_of (fs ++ file ∷ []) ≡ indexes_of fs ++ file.index ∷ []
    indexes_more [] = refl
    indexes_more (f ∷ fs) = ap (λ (parts : List IndexData). f.index ∷ parts) (indexes_more fs)

-- a part wasn't had
pub part_unread : (names : List (List ℕ)) (name : List ℕ) (more : List (List ℕ)) (told : Option Files) (P : List IndexData → Type 0) (before mid after : ℕ) (stop : Stop) → HasInput (judge_parts names told) P → before ≤ mid
    → Unread (name ∷ []) (judge_index name told) mid after stop → Unread (names ++ name ∷ more) (judge_parts (names ++ name ∷ more) told) before after stop
part_unread names name more told P before mid after stop had later why =
    subst (λ (j : Judged (List IndexData)). Unread (names ++ name ∷ more) j before after stop) (sym (parts_split names (name ∷ more) told))
    (unread_behind names (name ∷ more) (judge_parts names told) had.input next before mid after stop had.accepted untold later
    (subst (λ (j : Judged (List IndexData)). Unread (name ∷ more) j mid after stop) (sym in_turn)
    (unread_first name more (judge_index name told) turn mid after stop why)))
  where
    next : List IndexData → Judged (List IndexData)
    next parts = behind (judge_parts (name ∷ more) told) (joined parts)

    untold : judge_parts names told ≡ Untold → next had.input ≡ Untold
    untold is = ap (λ (t : Option Files). behind (judge_parts (name ∷ more) t) (joined had.input)) (parts_untold names told is)
        ∙ ap (λ (j : Judged (List IndexData)). behind j (joined had.input)) (none_told name more)

    each : IndexData → Judged (List IndexData)
    each part = behind (judge_parts more told) (λ parts. Accepted (part ∷ parts))

    turn : FileView → Judged (List IndexData)
    turn file = behind (each file.index) (joined had.input)

    in_turn : next had.input ≡ behind (judge_index name told) turn
    in_turn = behind_both (judge_held name told) each (joined had.input)
        ∙ behind_both (judge_index name told) (λ file. Accepted file.index) (λ part. behind (each part) (joined had.input))

-- ---- their sums

module _ (size : FileView → ℕ) (of : IndexData → ℕ) (same : (file : FileView) → size file ≡ of file.index) (limit : ℕ) where
  stays_within : (before : ℕ) (files : List FileView) (names : List (List ℕ)) → before + sum_by size files ≤ limit → passing of limit before names (indexes_of files) ≡ None
  stays_within before [] names few = refl
  stays_within before (file ∷ files) [] few = refl
  stays_within before (file ∷ files) (name ∷ names) few =
      let sums : sum_by size (file ∷ files) ≡ size file + sum_by size files = sum_by-cons size file files in
      let one : size file ≡ of file.index = same file in
      let within : before + of file.index ≤ limit = omega (arith, few, one, sums) in
      let no : nat_lt limit (before + of file.index) ≡ false = grind (arith, nat_tests, within) in
      let rest : before + of file.index + sum_by size files ≤ limit = omega (arith, few, one, sums) in
      let none : passing of limit (before + of file.index) names (indexes_of files) ≡ None = stays_within (before + of file.index) files names rest in
      rw no none

  pub few_enough : (files : List FileView) (names : List (List ℕ)) → sum_by size files ≤ limit → passing of limit 0 names (indexes_of files) ≡ None
  few_enough files names few = stays_within 0 files names (omega (arith, few))

  passes_at : (before : ℕ) (files : List FileView) (names : List (List ℕ)) (part : ℕ) → length files ≡ length names → part < length files → before + sum_by size (take part files) ≤ limit → limit < before + sum_by size (take (suc part) files)
      → passing of limit before names (indexes_of files) ≡ Some (slice_index_or names part [], before + sum_by size (take (suc part) files))
  passes_at before [] names part each there few passes = absurd (omega (arith, there))
  passes_at before (file ∷ files) [] part each there few passes = absurd (omega (arith, each))
  passes_at before (file ∷ files) (name ∷ names) zero each there few passes =
      let one : size file ≡ of file.index = same file in
      let first : sum_by size (file ∷ []) ≡ size file + sum_by size [] = sum_by-cons size file [] in
      let over : limit < before + of file.index = omega (arith, passes, one, first) in
      let yes : nat_lt limit (before + of file.index) ≡ true = grind (arith, nat_tests, over) in
      let sum : before + of file.index ≡ before + sum_by size (file ∷ []) = omega (arith, one, first) in
      rw yes (ap (λ (n : ℕ). Some (name, n)) sum)
  passes_at before (file ∷ files) (name ∷ names) (suc part) each there few passes =
      let one : size file ≡ of file.index = same file in
      let front : sum_by size (file ∷ take part files) ≡ size file + sum_by size (take part files) = sum_by-cons size file (take part files) in
      let more : sum_by size (file ∷ take (suc part) files) ≡ size file + sum_by size (take (suc part) files) = sum_by-cons size file (take (suc part) files) in
      let within : before + of file.index ≤ limit = omega (arith, few, one, front) in
      let no : nat_lt limit (before + of file.index) ≡ false = grind (arith, nat_tests, within) in
      let sum : before + of file.index + sum_by size (take (suc part) files) ≡ before + sum_by size (file ∷ take (suc part) files) = omega (arith, one, more) in
      let each_more : length files ≡ length names = omega (arith, each) in
      let there_more : part < length files = omega (arith, there) in
      let few_more : before + of file.index + sum_by size (take part files) ≤ limit = omega (arith, few, one, front) in
      let passes_more : limit < before + of file.index + sum_by size (take (suc part) files) = omega (arith, passes, sum) in
      let rest : passing of limit (before + of file.index) names (indexes_of files) ≡ Some (slice_index_or names part [], before + of file.index + sum_by size (take (suc part) files)) =
      passes_at (before + of file.index) files names part each_more there_more few_more passes_more in
      rw no (rest ∙ ap (λ (n : ℕ). Some (slice_index_or names part [], n)) sum)

  pub passed : (files : List FileView) (names : List (List ℕ)) (part sum : ℕ) → length files ≡ length names → IsPassedAt size files limit part sum → passing of limit 0 names (indexes_of files) ≡ Some (slice_index_or names part [], sum)
  passed files names part sum each is =
      let after : part + 1 ≡ suc part = omega arith in
      let sums : sum ≡ sum_by size (take (suc part) files) = is.sums ∙ ap (λ (n : ℕ). sum_by size (take n files)) after in
      let all : 0 + sum_by size (take (suc part) files) ≡ sum = omega (arith, sums) in
      passes_at 0 files names part each is.there (omega (arith, is.before)) (omega (arith, is.passes, sums)) ∙ ap (λ (n : ℕ). Some (slice_index_or names part [], n)) all

pub unites : (files : List FileView) (names : List (List ℕ)) → sum_by file_docs files ≤ MOST_DOCUMENTS → sum_by file_postings files ≤ MOST_POSTINGS → united names (indexes_of files) ≡ Accepted (union_of (indexes_of files))
unfolding united
unites files names docs postings = (λ i. refused_where 57 (few_enough file_docs document_count (λ file. refl) MOST_DOCUMENTS files names docs i)
    (refused_where 58 (few_enough file_postings index_postings (λ file. refl) MOST_POSTINGS files names postings i) (Accepted (union_of (indexes_of files)))))

pub many_documents : (files : List FileView) (names : List (List ℕ)) (part sum : ℕ) → length files ≡ length names → IsPassedAt file_docs files MOST_DOCUMENTS part sum → united names (indexes_of files) ≡ Refuses (slice_index_or names part []) 57 (Byte sum)
unfolding united
many_documents files names part sum each is =
    ap (λ (found : Option (List ℕ × ℕ)). refused_where 57 found (refused_where 58 (passing index_postings MOST_POSTINGS 0 names (indexes_of files)) (Accepted (union_of (indexes_of files)))))
    (passed file_docs document_count (λ file. refl) MOST_DOCUMENTS files names part sum each is)

pub many_postings : (files : List FileView) (names : List (List ℕ)) (part sum : ℕ) → length files ≡ length names → sum_by file_docs files ≤ MOST_DOCUMENTS → IsPassedAt file_postings files MOST_POSTINGS part sum → united names (indexes_of files) ≡ Refuses (slice_index_or names part []) 58 (Byte sum)
unfolding united
many_postings files names part sum each few is =
    λ i. refused_where 57 (few_enough file_docs document_count (λ file. refl) MOST_DOCUMENTS files names few i)
    (refused_where 58 (passed file_postings index_postings (λ file. refl) MOST_POSTINGS files names part sum each is i) (Accepted (union_of (indexes_of files))))

-- the name at a place is one of them
pub one_of_names : (names : List (List ℕ)) (part : ℕ) → part < length names → IsOneOf names (slice_index_or names part [])
one_of_names [] part there = absurd (omega (arith, there))
one_of_names (name ∷ names) zero there = inl refl
one_of_names (name ∷ names) (suc part) there = inr (one_of_names names part (omega (arith, there)))

module _ (names : List (String Global)) (part : ℕ) (item : String Global) (text : List ℕ) (is : item ≡ get_or names part item) (value : text ≡ string_bytes item) where
  -- the text of the name at a place
  text_at : part < length names → text ≡ slice_index_or (texts names) part []
  text_at there = value ∙ ap string_bytes is ∙ sym (get_or-map string_bytes names part item [] there)

  there_too : part < length names → part < length (texts names)
  there_too there = omega (arith, there, length-map names string_bytes)

  -- one part more, by its name
  pub parts_more : (told now : Option Files) (files : List FileView) (file : FileView) → part < length names → now ≡ told → HasInput (judge_parts (take part (texts names)) told) (λ parts. parts ≡ indexes_of files) → Shows (judge_index text now) (Accepted file)
      → HasInput (judge_parts (take (part + 1) (texts names)) told) (λ parts. parts ≡ indexes_of (files ++ file ∷ []))
  parts_more told now files file there stays had shows =
      let more : take (part + 1) (texts names) ≡ take part (texts names) ++ text ∷ [] = take_more (texts names) part [] (there_too there) ∙ ap (λ (t : List ℕ). take part (texts names) ++ t ∷ []) (sym (text_at there)) in
      subst (λ (ns : List (List ℕ)). HasInput (judge_parts ns told) (λ parts. parts ≡ indexes_of (files ++ file ∷ []))) (sym more)
      (part_had (take part (texts names)) text told files file had (subst (λ (t : Option Files). Shows (judge_index text t) (Accepted file)) stays shows))

  -- a part wasn't had, by its name
  pub parts_stopped : (told now : Option Files) (P : List IndexData → Type 0) (before mid after : ℕ) (stop : Stop) → part < length names → now ≡ told → HasInput (judge_parts (take part (texts names)) told) P → before ≤ mid
      → Unread (text ∷ []) (judge_index text now) mid after stop → Unread (texts names) (judge_parts (texts names) told) before after stop
  parts_stopped told now P before mid after stop there stays had later why =
      let split : take part (texts names) ++ text ∷ drop (part + 1) (texts names) ≡ texts names =
      ap (λ (t : List ℕ). take part (texts names) ++ t ∷ drop (part + 1) (texts names)) (text_at there)
      ∙ ap (λ (rest : List (List ℕ)). take part (texts names) ++ rest) (sym (drop_more (texts names) part [] (there_too there))) ∙ take-append-drop part (texts names) in
      subst (λ (ns : List (List ℕ)). Unread ns (judge_parts ns told) before after stop) split
      (part_unread (take part (texts names)) text (drop (part + 1) (texts names)) told P before mid after stop had later (subst (λ (t : Option Files). Unread (text ∷ []) (judge_index text t) mid after stop) stays why))

  -- the part with which the parts are too large, by its name
  pub documents_unheld : (T : Type 0) (files : List FileView) (sum : ℕ) (why : ShardStop) → length files ≡ length names → why ≡ Documents part sum → Fits {T = T} files (Err why)
      → IsOneOf (texts names) text × Shows (united (texts names) (indexes_of files)) (Refuses text 57 (Byte sum))
  documents_unheld T files sum why each same fits =
      let passed_there : IsPassedAt file_docs files MOST_DOCUMENTS part sum = subst (λ (w : ShardStop). Fits {T = T} files (Err w)) same fits in
      let there : part < length names = omega (arith, each, passed_there.there) in
      let each_text : length files ≡ length (texts names) = omega (arith, each, length-map names string_bytes) in (
        subst (IsOneOf (texts names)) (sym (text_at there)) (one_of_names (texts names) part (there_too there)),
        inr (many_documents files (texts names) part sum each_text passed_there ∙ ap (λ (t : List ℕ). Refuses t 57 (Byte sum)) (sym (text_at there))),
      )

  pub postings_unheld : (T : Type 0) (files : List FileView) (sum : ℕ) (why : ShardStop) → length files ≡ length names → why ≡ Postings part sum → Fits {T = T} files (Err why)
      → IsOneOf (texts names) text × Shows (united (texts names) (indexes_of files)) (Refuses text 58 (Byte sum))
  postings_unheld T files sum why each same fits =
      let both : (sum_by file_docs files ≤ MOST_DOCUMENTS) × IsPassedAt file_postings files MOST_POSTINGS part sum = subst (λ (w : ShardStop). Fits {T = T} files (Err w)) same fits in
      let there : part < length names = omega (arith, each, both.1.there) in
      let each_text : length files ≡ length (texts names) = omega (arith, each, length-map names string_bytes) in (
        subst (IsOneOf (texts names)) (sym (text_at there)) (one_of_names (texts names) part (there_too there)),
        inr (many_postings files (texts names) part sum each_text both.0 both.1 ∙ ap (λ (t : List ℕ). Refuses t 58 (Byte sum)) (sym (text_at there))),
      )

-- the union of told parts is told
pub united_told : (names : List (List ℕ)) (parts : List IndexData) → united names parts ≢ Untold
unfolding united
united_told names parts is = at (passing document_count MOST_DOCUMENTS 0 names parts) (passing index_postings MOST_POSTINGS 0 names parts) is
  where
    at : (docs postings : Option (List ℕ × ℕ)) → refused_where 57 docs (refused_where 58 postings (Accepted (union_of parts))) ≢ Untold
    at (Some (name, sum)) postings is = cc
    at None (Some (name, sum)) is = cc
    at None None is = cc

-- ---- the inputs in one

module _ (names : List (List ℕ)) (queries : List ℕ) (mode : Mode) (told : Option Files) where
  abbrev asked_over : IndexData → List ℕ → Judged SearchInputs
  asked_over union content = behind (judge_queries queries mode (texts_of union.terms) content) (λ asked. Accepted (record { index = union; queries = asked }))

  abbrev over_content : List IndexData → List ℕ → Judged SearchInputs
  over_content parts content = behind (united names parts) (λ union. asked_over union content)

  abbrev over_parts : List IndexData → Judged SearchInputs
  over_parts parts = behind (judge_content queries told) (over_content parts)

  -- the parts weren't had
  pub parts_unread : (before after : ℕ) (stop : Stop) → Unread names (judge_parts names told) before after stop → Unread (names ++ queries ∷ []) (judge_shards names queries mode told) before after stop
  parts_unread before after stop why = unread_before names (queries ∷ []) (judge_parts names told) over_parts before after stop why

  abbrev HadParts : List IndexData → Type 0
  HadParts parts = HasInput (judge_parts names told) (λ these. these ≡ parts)

  shown_parts : (parts : List IndexData) → HadParts parts → Shows (judge_parts names told) (Accepted parts)
  shown_parts parts had = subst (λ (these : List IndexData). Shows (judge_parts names told) (Accepted these)) had.holds had.accepted

  untold_parts : (parts : List IndexData) → judge_parts names told ≡ Untold → over_parts parts ≡ Untold
  unfolding judge_content
  untold_parts parts is = ap (λ (t : Option Files). behind (judge_content queries t) (over_content parts)) (parts_untold names told is)

  -- the content wasn't
  pub content_unread : (parts : List IndexData) (before mid after : ℕ) (stop : Stop) → HadParts parts → before ≤ mid → Unread (queries ∷ []) (judge_content queries told) mid after stop
      → Unread (names ++ queries ∷ []) (judge_shards names queries mode told) before after stop
  content_unread parts before mid after stop had later why =
      unread_behind names (queries ∷ []) (judge_parts names told) parts over_parts before mid after stop (shown_parts parts had) (untold_parts parts) later
      (unread_first queries [] (judge_content queries told) (over_content parts) mid after stop why)

  -- the parts aren't one
  refused_parts : (parts : List IndexData) (P : List ℕ → Type 0) (other : Judged SearchInputs) → AcceptsSuch (judge_content queries told) P → ((content : List ℕ) → over_content parts content ≡ other) → Shows (over_parts parts) other
  refused_parts parts P other (inl untold) same = inl (ap (λ (j : Judged (List ℕ)). behind j (over_content parts)) untold)
  refused_parts parts P other (inr (content, there, holds)) same = inr (ap (λ (j : Judged (List ℕ)). behind j (over_content parts)) there ∙ same content)

  pub union_unheld : (parts : List IndexData) (P : List ℕ → Type 0) (before after : ℕ) (stop : Stop) → HadParts parts → AcceptsSuch (judge_content queries told) P → Unheld names (united names parts) stop
      → Unread (names ++ queries ∷ []) (judge_shards names queries mode told) before after stop
  union_unheld parts P before after stops.NoMemory had read why = tt
  union_unheld parts P before after (stops.Refused name number at) had read (one, shows) =
      (one_before names (queries ∷ []) name.now one, shown_then (judge_parts names told) parts over_parts (Refuses name.now number at) (shown_parts parts had) (refuses shows))
    where
      one_before : (ns more : List (List ℕ)) (n : List ℕ) → IsOneOf ns n → IsOneOf (ns ++ more) n
      one_before [] more n one = absurd one
      one_before (first ∷ ns) more n (inl is) = inl is
      one_before (first ∷ ns) more n (inr one) = inr (one_before ns more n one)

      refuses : Shows (united names parts) (Refuses name.now number at) → Shows (over_parts parts) (Refuses name.now number at)
      refuses (inl untold) = absurd (united_told names parts untold)
      refuses (inr is) = refused_parts parts P (Refuses name.now number at) read (λ content. ap (λ (j : Judged IndexData). behind j (λ union. asked_over union content)) is)
  union_unheld parts P before after (stops.ReadFault name) had read why = absurd why
  union_unheld parts P before after (stops.WriteFault name) had read why = absurd why
  union_unheld parts P before after stops.InputLimit had read why = absurd why

  -- the queries aren't
  in_one : (parts : List IndexData) (union : IndexData) → united names parts ≡ Accepted union → over_parts parts ≡ behind (behind (judge_content queries told) (judge_queries queries mode (texts_of union.terms))) (λ asked. Accepted (record { index = union; queries = asked }))
  in_one parts union is = (λ i. behind (judge_content queries told) (λ content. behind (is i) (λ u. asked_over u content)))
      ∙ sym (behind_both (judge_content queries told) (judge_queries queries mode (texts_of union.terms)) (λ asked. Accepted (record { index = union; queries = asked })))

  pub asked_unheld : (parts : List IndexData) (union : IndexData) (bytes : List ℕ) (before mid after : ℕ) (stop : Stop) → HadParts parts → before ≤ mid → united names parts ≡ Accepted union → AcceptsSuch (judge_content queries told) (λ content. bytes ≡ take 268435457 content)
      → Unheld (queries ∷ []) (judge_queries queries mode (texts_of union.terms) bytes) stop → Unread (names ++ queries ∷ []) (judge_shards names queries mode told) before after stop
  asked_unheld parts union bytes before mid after stop had later is read why =
      unread_behind names (queries ∷ []) (judge_parts names told) parts over_parts before mid after stop (shown_parts parts had) (untold_parts parts) later
      (subst (λ (j : Judged SearchInputs). Unread (queries ∷ []) j mid after stop) (sym (in_one parts union is))
      (unread_first queries [] (behind (judge_content queries told) (judge_queries queries mode (texts_of union.terms))) (λ asked. Accepted (record { index = union; queries = asked })) mid after stop
      (queries_unheld told queries bytes mode untils.Budget (texts_of union.terms) mid after stop read why)))

  -- all were had
  pub shards_had : (parts : List IndexData) (union : IndexData) (bytes : List ℕ) (asked : List QueryData) → HadParts parts → united names parts ≡ Accepted union → AcceptsSuch (judge_content queries told) (λ content. bytes ≡ take 268435457 content)
      → HasInput (judge_queries queries mode (texts_of union.terms) bytes) (λ lined. without_lines lined ≡ asked)
      → HasInput (judge_shards names queries mode told) (λ inputs. (inputs.index ≡ union) × (without_lines inputs.queries ≡ asked))
  shards_had parts union bytes asked had is read held =
      let over : HasInput (behind (judge_content queries told) (judge_queries queries mode (texts_of union.terms))) (λ lined. without_lines lined ≡ asked) = queries_had told queries bytes mode untils.Budget (texts_of union.terms) (λ lined. without_lines lined ≡ asked) read held in
      let inputs : SearchInputs = record { index = union; queries = over.input } in
      record {
        input = inputs;
        accepted = shown_then (judge_parts names told) parts over_parts (Accepted inputs) (shown_parts parts had)
            (subst (λ (j : Judged SearchInputs). Shows j (Accepted inputs)) (sym (in_one parts union is))
            (shown_then (behind (judge_content queries told) (judge_queries queries mode (texts_of union.terms))) over.input (λ lined. Accepted (record { index = union; queries = lined })) (Accepted inputs) over.accepted (inr refl)));
        holds = (refl, over.holds);
      }

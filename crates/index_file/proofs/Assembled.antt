-- A file that is put together of its outline, its front and its payloads.
use Rattle.shared_lemmas.proofs.Common.{◌≡◌, ◌<◌, ◌≤◌, ◌+◌, ℕ, List, ◌++◌, length, map, All, None, Ok, ap, sym, subst, ◌∙◌, refl, arith, length-map, drop_all, append-nil, All-drop}
use Rattle.index_layout.proofs.FileLaws.{Numbered, Only}
use Rattle.index_layout.proofs.Numbers.{Fit, byte_at}
use Rattle.index_layout.proofs.PayloadLaws.{PayloadsAre, payloads_only}
use Rattle.index_layout.proofs.Sums.{all_counted}
use Rattle.index_layout.proofs.TermLaws.{TermsAre, terms_only}
use Rattle.index_layout.specs.Reading.{end_checks, head_codecs, name_in, read_index, read_payloads}
use Rattle.index_layout.specs.Layout.{terms_payloads}
use Rattle.index_layout.specs.View.{FileView, IsFileView, index_postings, view_payloads}
use Rattle.index_file.proofs.Below.{u32_in, u64_in, TermHeads, TermData, OpenFault, Fails, after_payloads, judged, head_postings}
use Rattle.index_file.specs.declared.outline.Outline.{Outline}
use Rattle.index_file.specs.Parts.{moved_fault}
use Rattle.index_file.specs.Private.Opened.{Stands, view_of}
use Rattle.index_file.specs.Private.Outlines.{AreParts, EndsBefore, after_outline}
use Rattle.index_file.specs.Private.Payloads.{IsPlaced, row_terms}
use Rattle.index_file.specs.Private.Tables.{heads_between, row_at, row_heads}
use Rattle.index_file.proofs.FileParts.{ends_back, names_same, outline_reads}
use Rattle.index_file.proofs.Pieces.{piece_u32, piece_u64}
use Rattle.index_file.proofs.Reading.{ends_told, fails_as, fails_on, payloads_there}
use Rattle.index_file.proofs.Shifted.{fails_from_place, read_from_place, shifted, whole_length}
use Rattle.index_file.proofs.Wholes.{count_is, greatest_are}

abbrev pub its_heads : Outline → List TermHeads
its_heads o = row_heads o.terms.heads o.terms.text o.terms.rows

abbrev its_terms : List ℕ → Outline → List ℕ → List TermData
its_terms payloads o groups = row_terms payloads (length o.places) o.terms.heads o.terms.text groups o.terms.rows

-- the view by the names where they stand in all bytes
abbrev pub whole_view : List ℕ → Outline → List ℕ → List ℕ → FileView
whole_view bytes o groups payloads = record {
  index = record { names = map (name_in bytes) o.places; terms = its_terms payloads o groups };
  codecs = head_codecs (its_heads o);
}

-- the payloads are read as those of the outline, with these groups
abbrev pub ReadsPayloads : List ℕ → Outline → List ℕ → ℕ → Type 0
ReadsPayloads payloads o groups end = read_payloads payloads (length o.places) (its_heads o) 0 ≡ Ok (record { terms = its_terms payloads o groups; end = end })

-- the ends are those that the outline tells
abbrev pub PassesEnds : List ℕ → Outline → List ℕ → List ℕ → ℕ → Type 0
PassesEnds bytes o groups payloads end = judged (end_checks bytes (its_heads o) end) (whole_view bytes o groups payloads) ≡ Ok (whole_view bytes o groups payloads)

-- the payloads of each term are placed
abbrev pub ArePlaced : List ℕ → Outline → List ℕ → Type 0
ArePlaced payloads o groups = (t : ℕ) → t + 1 < length o.terms.rows
    → IsPlaced payloads (length o.places) groups (row_at o.terms.rows t) (heads_between o.terms.heads (row_at o.terms.rows t) (row_at o.terms.rows (t + 1)))

module _ (bytes : List ℕ) (o : Outline) (front payloads : List ℕ) (place : ℕ) (parts : AreParts bytes o front payloads place) where
  place_within : place ≤ length bytes
  place_within = parts.outline.within

  pub sizes : length bytes ≡ place + length payloads
  sizes = whole_length bytes payloads place parts.payloads_are place_within

  pub postings_told : u64_in bytes 24 ≡ u64_in front 24
  postings_told = sym (piece_u64 bytes front 0 24 parts.front_is (let long = parts.outline.long in omega (arith, long)))

  pub greatest_told : u32_in bytes 32 ≡ u32_in front 32
  greatest_told = sym (piece_u32 bytes front 0 32 parts.front_is (let long = parts.outline.long in omega (arith, long)))

  ends : All (EndsBefore front (length front)) o.places
  ends = ends_back bytes front parts.front_is o.places parts.outline.before

  -- payloads that are refused
  pub payloads_refused : (fault : OpenFault) → Fails fault (read_payloads payloads (length o.places) (its_heads o) 0) → Fails (moved_fault place fault) (after_outline bytes o place)
  payloads_refused fault fails =
      fails_on (moved_fault place fault) (read_payloads bytes (length o.places) (its_heads o) place) (after_payloads bytes (map (name_in bytes) o.places) (its_heads o))
      (fails_from_place bytes payloads place parts.payloads_are place_within (length o.places) (its_heads o) fault (let fits = parts.fits in omega (arith, sizes, fits)) fails)

  module _ (groups : List ℕ) (end : ℕ) (read : ReadsPayloads payloads o groups end) where
    w : FileView
    w = whole_view bytes o groups payloads

    behind : read_payloads bytes (length o.places) (its_heads o) place ≡ Ok (record { terms = its_terms payloads o groups; end = place + end })
    behind = read_from_place bytes payloads place parts.payloads_are place_within (length o.places) (its_heads o) ∙ ap (shifted place) read

    pub up_to_ends : after_outline bytes o place ≡ judged (end_checks bytes (its_heads o) (place + end)) (whole_view bytes o groups payloads)
    up_to_ends = payloads_there bytes (length o.places) (map (name_in bytes) o.places) (its_heads o) place (record { terms = its_terms payloads o groups; end = place + end }) behind

    -- ends that are refused
    pub ends_refused : (fault : OpenFault) → Fails fault (judged (end_checks bytes (its_heads o) (place + end)) (whole_view bytes o groups payloads)) → Fails fault (after_outline bytes o place)
    ends_refused fault fails = fails_as fault (after_outline bytes o place) (judged (end_checks bytes (its_heads o) (place + end)) (whole_view bytes o groups payloads)) up_to_ends fails

    -- ends that are passed
    module _ (passed : PassesEnds bytes o groups payloads (place + end)) where
      pub is_read : read_index bytes ≡ Ok (whole_view bytes o groups payloads)
      is_read = outline_reads bytes o (length front) place parts.outline ∙ up_to_ends ∙ passed

      pub same_view : view_of front o.places o.terms groups payloads ≡ whole_view bytes o groups payloads
      unfolding view_of
      same_view = ap (λ names. (let v : FileView = record { index = record { names = names; terms = its_terms payloads o groups }; codecs = head_codecs (its_heads o) } in v))
          (sym (names_same bytes front parts.front_is o.places ends))

      module _ (only : Only) (numbered : Numbered) where
        fit : Fit payloads
        fit = byte_at payloads (subst (All (λ byte. byte < 256)) (sym parts.payloads_are) (All-drop (λ byte. byte < 256) place bytes parts.small))

        terms_are : TermsAre bytes (length o.places) None (length front) o.count (record { terms = its_heads o; end = place })
        terms_are = terms_only numbered bytes (length o.places) o.count None (length front) (record { terms = its_heads o; end = place }) (byte_at bytes parts.small)
            (let rises = parts.outline.rises in omega (arith, rises, place_within)) parts.outline.terms_are

        spelled : PayloadsAre payloads (length o.places) None (its_heads o) 0 (record { terms = its_terms payloads o groups; end = end })
        spelled = payloads_only only payloads (length o.places) None (its_heads o) 0 (record { terms = its_terms payloads o groups; end = end }) fit parts.few terms_are.rise (omega arith) read

        pub payloads_spelled : payloads ≡ view_payloads (whole_view bytes o groups payloads)
        unfolding view_payloads
        payloads_spelled =
            let told = ends_told bytes (its_heads o) (place + end) (whole_view bytes o groups payloads) passed in
            let whole : length payloads ≤ end = (let e = told.whole in omega (arith, e, sizes)) in
            let codecs = head_codecs (its_heads o) in
            let names = length-map o.places (name_in bytes) in
            spelled.stand
            ∙ ap (λ rest. terms_payloads (length o.places) (its_terms payloads o groups) codecs ++ rest) (drop_all end payloads whole)
            ∙ append-nil (terms_payloads (length o.places) (its_terms payloads o groups) codecs)
            ∙ ap (λ n. terms_payloads n (its_terms payloads o groups) codecs) (sym names)

        postings_are : head_postings (its_heads o) ≡ index_postings (whole_view bytes o groups payloads).index
        postings_are = ap head_postings (sym spelled.same) ∙ all_counted (length o.places) (its_terms payloads o groups) (head_codecs (its_heads o)) spelled.have

        pub stands : IsFileView (whole_view bytes o groups payloads) → ArePlaced payloads o groups → Stands front o.places o.terms groups payloads (view_of front o.places o.terms groups payloads)
        stands view placed =
            let told = ends_told bytes (its_heads o) (place + end) (whole_view bytes o groups payloads) passed in
            let names = length-map o.places (name_in bytes) in
            let there : Stands front o.places o.terms groups payloads (whole_view bytes o groups payloads) = record {
              view = view;
              payloads_are = payloads_spelled;
              names = names_same bytes front parts.front_is o.places ends;
              within = ends;
              terms_are = ap (λ n. row_terms payloads n o.terms.heads o.terms.text groups o.terms.rows) (sym names);
              count = count_is payloads (length o.places) o.terms.heads o.terms.text groups o.terms.rows parts.outline.rows;
              rows = parts.outline.rows;
              codecs = refl;
              placed = λ t inside. subst (λ n. IsPlaced payloads n groups (row_at o.terms.rows t) (heads_between o.terms.heads (row_at o.terms.rows t) (row_at o.terms.rows (t + 1)))) (sym names) (placed t inside);
              long = parts.outline.long;
              postings = sym postings_told ∙ told.postings ∙ postings_are;
              greatest = sym greatest_told ∙ told.greatest ∙ greatest_are payloads (length o.places) o.terms.heads o.terms.text groups o.terms.rows;
            } in
            subst (Stands front o.places o.terms groups payloads) (sym same_view) there

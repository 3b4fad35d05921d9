-- A Collection keeps the limits of the format where its file does.
use Rattle.shared_lemmas.proofs.Common.{◌≡◌, ◌≢◌, ℕ, ◌<◌, List, [], ◌∷◌, length, map, get_or, refl, sym, ap, subst, ◌∙◌, arith, All, AllPairs, IsUtf8-from_is_utf8, length-map, get_or-map, All-map, IsDistinct-from_AllPairs, bytes_eq-Decides}
use Rattle.ciff_write.proofs.Below.{PostingsList, DocRecord, Collection, DifferInTerm, ListData, FitsList, FitsDoc, list_data, doc_data, collection_data, list_fits}
use Rattle.ciff_write.specs.Keeping.{KeepsLimits, IsWithinFile}

doc_fits : (d : DocRecord) → FitsDoc (doc_data d)
doc_fits d = record { text = IsUtf8-from_is_utf8 d.name d.name_is_text; name = d.name_fits; length = d.length_in_range }

terms_of : (lists : List PostingsList) → map (λ (l : ListData). l.term) (map list_data lists) ≡ map (λ (l : PostingsList). l.term) lists
terms_of [] = refl
terms_of (l ∷ ls) = ap (λ (ts : List (List ℕ)). l.term ∷ ts) (terms_of ls)

terms_apart : (lists : List PostingsList) → AllPairs DifferInTerm lists → AllPairs (λ (s t : List ℕ). s ≢ t) (map (λ (l : PostingsList). l.term) lists)
terms_apart [] apart i j d less inside = absurd (omega (arith, inside))
terms_apart (l ∷ ls) apart i j d less inside =
    let lists : List PostingsList = l ∷ ls in
    let within : j < length lists = omega (arith, inside, length-map lists (λ (x : PostingsList). x.term)) in
    λ same. apart i j l less within (sym (get_or-map (λ (x : PostingsList). x.term) lists i l d (omega (arith, less, within))) ∙ same ∙ get_or-map (λ (x : PostingsList). x.term) lists j l d within)

pub keeps_limits : (c : Collection) → IsWithinFile c → KeepsLimits (collection_data c)
keeps_limits c within =
    let lists : length (map list_data c.lists) ≡ length c.lists = length-map c.lists list_data in
    let docs : length (map doc_data c.docs) ≡ length c.docs = length-map c.docs doc_data in
    record {
      header = record {
        version = c.header.version_in_range;
        total_lists = c.header.lists_in_range;
        total_docs = c.header.docs_in_range;
        total_terms = c.header.terms_in_range;
        description = IsUtf8-from_is_utf8 c.header.description c.header.description_is_text;
        few_lists = omega (arith, lists, c.few_lists);
        few_docs = omega (arith, docs, c.few_docs);
      };
      average = within.average;
      lists = subst (λ (n : ℕ). All (FitsList n) (map list_data c.lists)) (sym docs)
          (All-map (FitsList (length c.docs)) list_data c.lists (λ k d inside. list_fits (length c.docs) (get_or c.lists k d) (c.docs_below k d inside)));
      docs = All-map FitsDoc doc_data c.docs (λ k d inside. doc_fits (get_or c.docs k d));
      terms_differ = IsDistinct-from_AllPairs bytes_eq-Decides (map (λ (l : ListData). l.term) (map list_data c.lists)) (subst (AllPairs (λ (s t : List ℕ). s ≢ t)) (sym (terms_of c.lists)) (terms_apart c.lists c.terms_differ));
      few_postings = within.few_postings;
      short = within.short;
    }

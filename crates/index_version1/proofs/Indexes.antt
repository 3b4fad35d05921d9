-- The index of a file.
use Rattle.shared_lemmas.proofs.Common.{◌≡◌, ℕ, ◌<◌, ◌≤◌, ◌^◌, List, length, map, get_or, All, Ok, ap, sym, subst, ◌∙◌, refl, AllPairs, length-map}
use Rattle.index_version1.proofs.Below.{IsName, IsText, TermSegments, IndexData, IsSegment, IsTerm, IsIndex, RisesTo, segment_data, term_data, FileView, OpenFault, ◌>>=◌, Fails, bind_ok}
use Rattle.jass_base.specs.Terms as memory
use Rattle.index_layout.specs.declared.refusal.OpenFault.TheVariants as faults
use Rattle.shared_lemmas.proofs.Lists.{All-unmap}
use Rattle.index_version1.specs.Files.{IsFile1View, IsIndexFile1, file1_bytes}
use Rattle.index_version1.specs.Reading.{index_in, read_file1, read_index1}
use Rattle.index_version1.proofs.Filling.{pairs_unmap}
use Rattle.shared_lemmas.proofs.Results.{ok_same}

pub index_found : ((v : FileView) → IsFile1View v → read_file1 (file1_bytes v) ≡ Ok v) → (index : IndexData) (bytes : List ℕ) → IsIndexFile1 bytes index → read_index1 bytes ≡ Ok index
unfolding read_index1
index_found found index bytes is =
    ap (λ r. r >>= index_in) (ap read_file1 is.spelled ∙ found (record { index = index; codecs = is.codecs }) is.view)

abbrev OnlyRead : Type 0
OnlyRead = (v : FileView) (bytes : List ℕ) → All (λ byte. byte < 256) bytes → read_file1 bytes ≡ Ok v → (bytes ≡ file1_bytes v) × IsFile1View v

pub index_only : OnlyRead → (index : IndexData) (bytes : List ℕ) → All (λ byte. byte < 256) bytes → read_index1 bytes ≡ Ok index → IsIndexFile1 bytes index
unfolding read_index1
index_only only index bytes fits read =
    let a = bind_ok (read_file1 bytes) index_in index read in
    let law = only a.0 bytes fits a.1 in
    subst (IsIndexFile1 bytes) (ok_same a.0.index index a.2) (record { codecs = a.0.codecs; view = law.1; spelled = law.0 })

-- what an index in memory keeps, from what its data keeps
pub record InMemory (names : List (List ℕ)) (terms : List TermSegments) : Type 0 where
  pub few_names : length names ≤ 2 ^ 26
  pub names_fit : All IsName names
  pub names_are_text : All IsText names
  pub few_terms : length terms ≤ 2 ^ 24
  pub rising : AllPairs memory.RisesTo terms
  pub docs_below : All (memory.HasTermBelow (length names)) terms

pub in_memory : (names : List (List ℕ)) (terms : List TermSegments) → IsIndex (record { names = names; terms = map term_data terms }) → InMemory names terms
in_memory names terms is =
    let d = length names in
    let each : All (λ (t : TermSegments). IsTerm d (term_data t)) terms = All-unmap (IsTerm d) term_data terms is.terms in
    record {
      few_names = is.few_names;
      names_fit = is.names;
      names_are_text = is.names_are_text;
      few_terms = subst (λ n. n ≤ 2 ^ 24) (length-map terms term_data) is.few_terms;
      rising = pairs_unmap RisesTo term_data terms is.rising;
      docs_below = λ i t inside. λ j s within. (All-unmap (IsSegment d) segment_data (get_or terms i t).segments (each i t inside).segments j s within).docs.below;
    }

pub fails_found : (bytes : List ℕ) (index : IndexData) (e : OpenFault) → Fails e (read_index1 bytes) → read_index1 bytes ≡ Ok index → e ≡ faults.NoMemory
fails_found bytes index (faults.Refused refusal) fails read = let e = sym fails ∙ read in absurd cc
fails_found bytes index faults.ReadFault fails read = absurd fails
fails_found bytes index faults.NoMemory fails read = refl

-- What a map of names and contents tells, by name, and after a change.
use Rattle.shared_lemmas.proofs.Common.{◌≡◌, ℕ, List, [], ◌∷◌, ◌++◌, Option, Some, None, String, Vec, map, cond, Bool, true, false, is_some, refl, sym, ap, ◌∙◌, BTreeMap, UpdatesBy, IsUnchanged, IsEmpty, get_by_text, is_at, lookup, option_map, nat_cmp, is_eq, eq_by_cmp, string_bytes, string_cmp}
use Rattle.shared_lemmas.proofs.Common.{slice_cmp, empty, from_entries, get, insert, get-insert, get-from_entries, same_map, slice_cmp-IsAntisymmetric, nat_cmp-IsAntisymmetric, Global, btree_map_updates_text, is_eq-slice_cmp, nat_list_cmp_total, eq_by_cmp_equiv}
use Rattle.std.proofs.Common.{unwrap_or}
use Rattle.std.specs.Str.{bytes_eq}
use Rattle.std.specs.FinMap.{find}
use Rattle.shared_lemmas.proofs.Texts.{equal_texts}
use Rattle.jass_base.specs.FilesOf.{files_of, named}
use Rattle.jass_base.specs.Outside.{Files, content_or_empty}

-- the look-up among the entries told is the look-up in the map
find-named : (bs : List ℕ) (es : List (String Global × Vec ℕ Global)) → find (slice_cmp nat_cmp) bs (map named es) ≡ option_map (λ v. v.items) (lookup (is_at (λ k. slice_cmp nat_cmp bs (string_bytes k))) es)
find-named bs [] = refl
find-named bs (e ∷ es) =
    elim (is_eq (slice_cmp nat_cmp bs (string_bytes e.0)))
    as (λ b. cond b (Some e.1.items) (find (slice_cmp nat_cmp) bs (map named es)) ≡ option_map (λ v. v.items) (cond b (Some e.1) (lookup (is_at (λ k. slice_cmp nat_cmp bs (string_bytes k))) es)))
    [ true ↦ refl | false ↦ find-named bs es ]

pub get-files_of : (m : BTreeMap (String Global) (Vec ℕ Global)) (bs : List ℕ) → get (files_of m) bs ≡ option_map (λ v. v.items) (get_by_text m bs)
unfolding files_of
get-files_of m bs = get-from_entries nat_list_cmp_total (map named m.entries) bs ∙ find-named bs m.entries

-- contents that answer alike are equal
pub same_files : (m n : Files) → ((q : List ℕ) → get m q ≡ get n q) → m ≡ n
same_files m n alike = same_map nat_list_cmp_total (slice_cmp-IsAntisymmetric nat_cmp-IsAntisymmetric) m n alike

-- the old value, or the new one at the name that was set
chosen : (b : Bool) (v : Vec ℕ Global) (content : List ℕ) → v.items ≡ content → (o : Option (Vec ℕ Global)) (p : Option (List ℕ)) → option_map (λ w. w.items) o ≡ p → option_map (λ w. w.items) (cond b (Some v) o) ≡ cond b (Some content) p
chosen true v content is o p same = ap Some is
chosen false v content is o p same = same

-- whether a name is the one that was set, read in either order
same_test : (bs q : List ℕ) → bytes_eq bs q ≡ eq_by_cmp (slice_cmp nat_cmp) q bs
same_test bs q = sym (is_eq-slice_cmp bs q) ∙ (eq_by_cmp_equiv nat_list_cmp_total).symm bs q

-- a name that is given a content, and no other change
pub files_of-set : (m n : BTreeMap (String Global) (Vec ℕ Global)) (bs content : List ℕ) (v : Vec ℕ Global) → v.items ≡ content → UpdatesBy string_cmp (λ k. slice_cmp nat_cmp bs (string_bytes k)) m n (Some v) → files_of n ≡ insert (files_of m) bs content
files_of-set m n bs content v is updates =
    same_files (files_of n) (insert (files_of m) bs content) (λ q.
    get-files_of n q
    ∙ ap (option_map (λ w. w.items)) (btree_map_updates_text bs m n (Some v) updates q)
    ∙ chosen (bytes_eq bs q) v content is (get_by_text m q) (get (files_of m) q) (sym (get-files_of m q))
    ∙ ap (λ b. cond b (Some content) (get (files_of m) q)) (same_test bs q)
    ∙ sym (get-insert nat_list_cmp_total (files_of m) bs content q))

-- no change
pub files_of-same : (m n : BTreeMap (String Global) (Vec ℕ Global)) → IsUnchanged m n → files_of n ≡ files_of m
unfolding files_of
files_of-same m n same = ap (λ es. from_entries (map named es)) same

-- the content of a name that is there
pub content_there : (m : BTreeMap (String Global) (Vec ℕ Global)) (bs : List ℕ) (had : Vec ℕ Global) → get_by_text m bs ≡ Some had → content_or_empty (files_of m) bs ≡ had.items
content_there m bs had was = ap (λ o. unwrap_or o []) (get-files_of m bs ∙ ap (option_map (λ w. w.items)) was)

-- the content of a name that is missing
pub content_missing : (m : BTreeMap (String Global) (Vec ℕ Global)) (bs : List ℕ) → is_some (get_by_text m bs) ≡ false → content_or_empty (files_of m) bs ≡ []
content_missing m bs was = ap (λ o. unwrap_or o []) (get-files_of m bs ∙ ap (option_map (λ w. w.items)) (absent (get_by_text m bs) was))
  where
    absent : (o : Option (Vec ℕ Global)) → is_some o ≡ false → o ≡ None
    absent None is = refl
    absent (Some v) is = cc

-- to give a name the content that it has changes nothing
insert_same : (m : Files) (bs content : List ℕ) → get m bs ≡ Some content → insert m bs content ≡ m
insert_same m bs content had =
    same_files (insert m bs content) m (λ q.
    get-insert nat_list_cmp_total m bs content q
    ∙ kept (eq_by_cmp (slice_cmp nat_cmp) q bs) q refl)
  where
    kept : (b : Bool) (q : List ℕ) → eq_by_cmp (slice_cmp nat_cmp) q bs ≡ b → cond b (Some content) (get m q) ≡ get m q
    kept true q is = sym had ∙ ap (get m) (sym (equal_texts q bs is))
    kept false q is = refl

-- a content that grows by bytes
pub files_of-grown : (m n : BTreeMap (String Global) (Vec ℕ Global)) (bs bytes : List ℕ) (had v : Vec ℕ Global) → get_by_text m bs ≡ Some had
    → v.items ≡ had.items ++ bytes → UpdatesBy string_cmp (λ k. slice_cmp nat_cmp bs (string_bytes k)) m n (Some v) → files_of n ≡ insert (files_of m) bs (content_or_empty (files_of m) bs ++ bytes)
files_of-grown m n bs bytes had v was is updates = files_of-set m n bs _ v (is ∙ ap (λ (xs : List ℕ). xs ++ bytes) (sym (content_there m bs had was))) updates

-- a content that stays
pub files_of-kept : (m n : BTreeMap (String Global) (Vec ℕ Global)) (bs : List ℕ) (had v : Vec ℕ Global) → get_by_text m bs ≡ Some had → v.items ≡ had.items → UpdatesBy string_cmp (λ k. slice_cmp nat_cmp bs (string_bytes k)) m n (Some v) → files_of n ≡ files_of m
files_of-kept m n bs had v was is updates =
    files_of-set m n bs had.items v is updates ∙ insert_same (files_of m) bs had.items (get-files_of m bs ∙ ap (option_map (λ w. w.items)) was)

-- a map without entries
pub files_of-empty : (m : BTreeMap (String Global) (Vec ℕ Global)) → IsEmpty m → files_of m ≡ empty
unfolding files_of
files_of-empty m none = ap (λ es. from_entries (map named es)) none

-- A file that is made empty and then written.
use Rattle.shared_lemmas.proofs.Common.{◌≡◌, ℕ, List, [], ◌++◌, take, Option, Some, None, Bool, true, false, inl, inr, cond, refl, sym, ap, ◌∙◌, ◌⊎◌, nat_cmp, eq_by_cmp, slice_cmp, Appends, get, insert, get-insert, nat_list_cmp_total}
use Rattle.jass_top.proofs.Below.{Files, Sets, content_there, others_told, AppendsPrefix, same_files, get_set, set_twice}
use Rattle.shared_lemmas.proofs.Texts.{equal_texts}
use Rattle.jass_top.specs.Standing.{LeavesFront}

-- contents that agree beside a name, and at the name have the text
agreed : (m n : Files) (name text : List ℕ) → get n name ≡ Some text → insert n name [] ≡ insert m name [] → n ≡ insert m name text
agreed m n name text there others = same_files n (insert m name text) (λ q. at q (eq_by_cmp (slice_cmp nat_cmp) q name) refl)
  where
    at : (q : List ℕ) (b : Bool) → eq_by_cmp (slice_cmp nat_cmp) q name ≡ b → get n q ≡ get (insert m name text) q
    at q true is = ap (get n) (equal_texts q name is) ∙ there ∙ sym (get_set m name text) ∙ ap (get (insert m name text)) (sym (equal_texts q name is))
    at q false is =
        let left : get (insert n name []) q ≡ get n q = get-insert nat_list_cmp_total n name [] q ∙ ap (λ b. cond b (Some []) (get n q)) is in
        let right : get (insert m name []) q ≡ get m q = get-insert nat_list_cmp_total m name [] q ∙ ap (λ b. cond b (Some []) (get m q)) is in
        let made : get (insert m name text) q ≡ get m q = get-insert nat_list_cmp_total m name text q ∙ ap (λ b. cond b (Some text) (get m q)) is in
        sym left ∙ ap (λ f. get f q) others ∙ right ∙ sym made

pub written : (old mid new : Option Files) (name text : List ℕ) → Sets old mid name [] → Appends (content_there mid name) (content_there new name) text → others_told new name ≡ others_told mid name → Sets old new name text
written None None None name text set put others = refl
written None None (Some n) name text set put others = cc
written None (Some m) new name text set put others = cc
written (Some f) None new name text set put others = absurd set
written (Some f) (Some m) None name text set put others = cc
written (Some f) (Some m) (Some n) name text set put others =
    let rest : insert n name [] ≡ insert m name [] = cc in
    let empty : get m name ≡ Some [] = ap (λ (k : Files). get k name) set ∙ get_set f name [] in
    let content : get n name ≡ Some text = there (get m name) (get n name) empty put in
    agreed f n name text content (rest ∙ ap (λ (k : Files). insert k name []) set ∙ set_twice f name [] [])
  where
    there : (o p : Option (List ℕ)) → o ≡ Some [] → Appends o p text → p ≡ Some text
    there None p is put = cc
    there (Some c) None is put = absurd put
    there (Some c) (Some d) is put = let empty : c ≡ [] = cc in ap Some (put ∙ ap (λ (xs : List ℕ). xs ++ text) empty)

pub made : (old new : Option Files) (name text : List ℕ) → (new ≡ old) ⊎ Sets old new name [] → LeavesFront (Some name) old new text
made old new name text (inl same) = inl same
made old new name text (inr set) = inr (0, set)

pub written_part : (old mid new : Option Files) (name text : List ℕ) → Sets old mid name [] → AppendsPrefix (content_there mid name) (content_there new name) text → others_told new name ≡ others_told mid name
    → LeavesFront (Some name) old new text
written_part old mid new name text set put others = inr (put.0, written old mid new name (take put.0 text) set put.1 others)

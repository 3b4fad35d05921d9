-- A name of a cabinet seen as a sink.
use Rattle.shared_lemmas.proofs.Common.{◌≡◌, ℕ, List, [], ◌++◌, take, Option, Some, None, Result, Ok, Err, inl, inr, cond, Bool, true, false, refl, sym, ap, subst, ◌∙◌, nat_cmp, is_eq, eq_by_cmp, slice_cmp, Appends, get, insert, get-insert, nat_list_cmp_total, tied_itself}
use Rattle.std.proofs.Common.{unwrap_or}
use Rattle.jass_base.specs.Outside.{Files, content_or_empty, content_there, others_told, Appended, Extends, Puts}
use Rattle.jass_base.proofs.FilesOf.{same_files}
use Rattle.jass_base.proofs.Writing.{Appends-none}

-- a name that was set has its content
pub get_set : (files : Files) (name content : List ℕ) → get (insert files name content) name ≡ Some content
get_set files name content = get-insert nat_list_cmp_total files name content name ∙ ap (λ b. cond b (Some content) (get files name)) (ap is_eq (tied_itself nat_list_cmp_total name))

-- a name that is set twice has its last content
pub set_twice : (files : Files) (name first last : List ℕ) → insert (insert files name first) name last ≡ insert files name last
set_twice files name first last = same_files (insert (insert files name first) name last) (insert files name last) (λ q.
    get-insert nat_list_cmp_total (insert files name first) name last q
    ∙ again (eq_by_cmp (slice_cmp nat_cmp) q name) q refl
    ∙ sym (get-insert nat_list_cmp_total files name last q))
  where
    again : (b : Bool) (q : List ℕ) → eq_by_cmp (slice_cmp nat_cmp) q name ≡ b → cond b (Some last) (get (insert files name first) q) ≡ cond b (Some last) (get files q)
    again true q is = refl
    again false q is = get-insert nat_list_cmp_total files name first q ∙ ap (λ b. cond b (Some first) (get files q)) is

-- what is appended to a name that is there is put into the sink; of a missing one nothing is said
extended_at : (o : Option (List ℕ)) (old new : Files) (name bytes : List ℕ) → get old name ≡ o → new ≡ insert old name (content_or_empty old name ++ bytes) → Appends o (get new name) bytes
extended_at None old new name bytes there is = tt
extended_at (Some xs) old new name bytes there is =
    let got : Some (xs ++ bytes) ≡ get new name = sym (ap (λ (m : Files). get m name) is ∙ get_set old name (content_or_empty old name ++ bytes) ∙ ap (λ o. Some (unwrap_or o [] ++ bytes)) there) in
    subst (λ o. Appends (Some xs) o bytes) got refl

extended : (old new : Option Files) (name bytes : List ℕ) → Extends old new name bytes → Appends (content_there old name) (content_there new name) bytes
extended None new name bytes is = tt
extended (Some old) None name bytes is = absurd is
extended (Some old) (Some new) name bytes is = extended_at (get old name) old new name bytes refl is

pub puts : {T E : Type 0} (old new : Option Files) (name bytes : List ℕ) (result : Result T E) → Appended old new name bytes result → Puts (content_there old name) (content_there new name) bytes result
puts old new name bytes (Ok x) is = extended old new name bytes is
puts old new name bytes (Err e) (inl same) = (0, rw same (Appends-none (content_there old name)))
puts old new name bytes (Err e) (inr (n, is)) = (n, extended old new name (take n bytes) is)

-- and the other names stay
kept : (old new : Option Files) (name bytes : List ℕ) → Extends old new name bytes → others_told new name ≡ others_told old name
kept None new name bytes is = ap (λ files. others_told files name) is
kept (Some old) None name bytes is = absurd is
kept (Some old) (Some new) name bytes is = ap (λ files. Some (insert files name [])) is ∙ ap Some (set_twice old name (content_or_empty old name ++ bytes) [])

pub rest_stays : {T E : Type 0} (old new : Option Files) (name bytes : List ℕ) (result : Result T E) → Appended old new name bytes result → others_told new name ≡ others_told old name
rest_stays old new name bytes (Ok x) is = kept old new name bytes is
rest_stays old new name bytes (Err e) (inl same) = ap (λ files. others_told files name) same
rest_stays old new name bytes (Err e) (inr (n, is)) = kept old new name (take n bytes) is

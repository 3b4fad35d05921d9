-- Terms with their heads are read as they are written.
use Rattle.shared_lemmas.proofs.Common.{◌≡◌, ℕ, suc, zero, ◌+◌, ◌-◌, ◌<◌, ◌≤◌, ◌^◌, ◌==◌, ◌&&◌, not, true, false, nat_lt, List, [], ◌∷◌, ◌++◌, length, take, drop, Option, Some, Result, Ok, ap, sym, subst, ◌∙◌, refl, arith, slice_range, is_utf8, take-append_seam, length-append, length-drop}
use Rattle.shared_lemmas.proofs.Common.{take-append-drop, drop-drop, length-take-le, sum_by-append, nat_tests, and_parts, not-false}
use borrow.Author.Tests.{ltb-false}
use Rattle.std.proofs.lemmas.List.{append_assoc}
use Rattle.index_version1.proofs.Below.{Codec, codec_number, codec_of, u32_in, u16_bytes, u32_bytes, HeadData, TermHeads, all_heads, payloads_size, heads_bytes, OpenRefusal, ◌>>=◌, HeadsRead, TermsRead, rises_behind, read_heads, bind_ok, judged_ok, judged_all, behind, reaches, parts_stand, Fit}
use Rattle.index_version1.proofs.Below.{u16_found, u32_found, u16_only, u32_only, HeadsAre, heads_found, heads_only, IsTermText, TermsRise, heads_size}
use Rattle.index_layout.specs.Bytes.{u16_in}
use Rattle.index_version1.specs.Layout.{term1_bytes, terms1_bytes}
use Rattle.index_version1.specs.Reading.{segments1_place, term1_in, term1_checks, term1_end, heads1_in, read_terms1}
use Rattle.shared_lemmas.proofs.Results.{ok_same}

record Term1There (bytes : List ℕ) (before : Option (List ℕ)) (at : ℕ) (term : List ℕ) (n : ℕ) : Type 0 where
  pub end : term1_end bytes before at ≡ Ok (at + 2 + length term + 4)
  pub is : term1_in bytes at ≡ term
  pub heads : heads1_in bytes at ≡ n

term1_found : (bytes : List ℕ) (before : Option (List ℕ)) (at : ℕ) (term : List ℕ) (n : ℕ) (rest : List ℕ) → IsTermText before term → 1 ≤ n → n < 2 ^ 32 → at ≤ length bytes
    → drop at bytes ≡ u16_bytes (length term) ++ (term ++ (u32_bytes n ++ rest)) → Term1There bytes before at term n
unfolding term1_in term1_end term1_checks heads1_in
term1_found bytes before at term n rest is some small from stands =
    let tail = u32_bytes n ++ rest in
    let size : u16_in bytes at ≡ length term = u16_found bytes at (length term) (term ++ tail) (omega (arith, is.fits)) stands in
    let body : drop (at + 2) bytes ≡ term ++ tail = behind bytes at (u16_bytes (length term)) (term ++ tail) stands in
    let place : segments1_place bytes at ≡ at + 2 + length term = ap (λ n. at + 2 + n) size in
    let behind_it : drop (at + 2 + length term) bytes ≡ tail = behind bytes (at + 2) term tail body in
    let heads : u32_in bytes (segments1_place bytes at) ≡ n = ap (u32_in bytes) place ∙ u32_found bytes (at + 2 + length term) n rest small behind_it in
    let part : slice_range bytes (at + 2) (segments1_place bytes at) ≡ term = ap (slice_range bytes (at + 2)) place ∙ (let e : at + 2 + length term - (at + 2) ≡ length term = omega arith in ap (λ k. take k (drop (at + 2) bytes)) e) ∙ ap (take (length term)) body ∙ take-append_seam term tail in
    let front_in : at + 2 ≤ length bytes = reaches bytes at (u16_bytes (length term)) (term ++ tail) stands from in
    let whole_in : at + 2 + length term ≤ length bytes = reaches bytes (at + 2) term tail body front_in in
    let all_in : at + 2 + length term + 4 ≤ length bytes = reaches bytes (at + 2 + length term) (u32_bytes n) rest behind_it whole_in in
    let good : (is_utf8 term && rises_behind before term) ≡ true = rw (is.text, is.rises) refl in
    let x : nat_lt (length bytes) (at + 2) ≡ false = grind (arith) in
    let y : nat_lt (length bytes) (segments1_place bytes at + 4) ≡ false = rw place (grind (arith)) in
    let z : not (is_utf8 (slice_range bytes (at + 2) (segments1_place bytes at)) && rises_behind before (slice_range bytes (at + 2) (segments1_place bytes at))) ≡ false = rw part (ap not good) in
    let w : (u32_in bytes (segments1_place bytes at) == 0) ≡ false = rw heads (grind (arith, nat_tests, some)) in
    record {
      end = judged_all (term1_checks bytes before at) (segments1_place bytes at + 4) (x, (y, (z, (w, tt)))) ∙ ap (λ k. (let r : Result ℕ OpenRefusal = Ok k in r)) (omega (arith, place));
      is = part;
      heads = heads;
    }

record Term1Read (bytes : List ℕ) (before : Option (List ℕ)) (at next : ℕ) : Type 0 where
  pub is : IsTermText before (term1_in bytes at)
  pub some : 1 ≤ heads1_in bytes at
  pub stands : drop at bytes ≡ u16_bytes (length (term1_in bytes at)) ++ (term1_in bytes at ++ (u32_bytes (heads1_in bytes at) ++ drop next bytes))
  pub within : next ≤ length bytes

u16_small : (bytes : List ℕ) (at : ℕ) → Fit bytes → u16_in bytes at ≤ 65535
unfolding u16_in
u16_small bytes at fits = let a = fits at in let b = fits (at + 1) in omega (arith, a, b)

term1_only : (bytes : List ℕ) (before : Option (List ℕ)) (at next : ℕ) → Fit bytes → term1_end bytes before at ≡ Ok next → Term1Read bytes before at next
unfolding term1_in term1_end term1_checks heads1_in
term1_only bytes before at next fits read =
    let size = u16_in bytes at in
    let place = at + 2 + size in
    let term = slice_range bytes (at + 2) place in
    let x = judged_ok (term1_checks bytes before at) (place + 4) next read in
    let good = x.0 in
    let is_end = x.1 in
    let end : place + 4 ≤ length bytes = ltb-false (length bytes) (place + 4) good.1.0 in
    let t = and_parts (is_utf8 term) (rises_behind before term) (not-false (is_utf8 term && rises_behind before term) good.1.1.0) in
    let exact : place - (at + 2) ≡ size = omega arith in
    let long : length term ≡ size = ap (λ k. length (take k (drop (at + 2) bytes))) exact ∙ length-take-le size (drop (at + 2) bytes) (let l = length-drop (at + 2) bytes in omega (arith, l, end)) in
    let text : drop (at + 2) bytes ≡ term ++ drop place bytes = sym (take-append-drop size (drop (at + 2) bytes)) ∙ ap (λ xs. xs ++ drop size (drop (at + 2) bytes)) (ap (λ k. take k (drop (at + 2) bytes)) (sym exact)) ∙ ap (λ xs. term ++ xs) (drop-drop size (at + 2) bytes) in
    let last : drop place bytes ≡ u32_bytes (u32_in bytes place) ++ drop next bytes = u32_only bytes place fits end ∙ ap (λ n. u32_bytes (u32_in bytes place) ++ drop n bytes) is_end in
    let first = u16_only bytes at fits (omega (arith, end)) in
    let small = u16_small bytes at fits in
    record {
      is = record { fits = omega (arith, long, small); text = t.0; rises = t.1 };
      some = grind (arith, nat_tests, good.1.1.1.0);
      stands = first ∙ ap (λ n. u16_bytes n ++ drop (at + 2) bytes) (sym long) ∙ ap (λ xs. u16_bytes (length term) ++ xs) (text ∙ ap (λ xs. term ++ xs) last);
      within = omega (arith, is_end, end);
    }

-- the bytes of a term in parts
term1_is : (t : TermHeads) (more : List ℕ) → term1_bytes t ++ more ≡ u16_bytes (length t.term) ++ (t.term ++ (u32_bytes (length t.heads) ++ (heads_bytes t.heads ++ more)))
unfolding term1_bytes
term1_is t more =
    let n = u32_bytes (length t.heads) in
    ap (λ xs. u16_bytes (length t.term) ++ xs) (append_assoc t.term (n ++ heads_bytes t.heads) more)

term1_size : (t : TermHeads) → length (term1_bytes t) ≡ 6 + length t.term + length (heads_bytes t.heads)
unfolding term1_bytes
term1_size t =
    let a = length-append t.term (u32_bytes (length t.heads) ++ heads_bytes t.heads) in
    omega (arith, a)

ok_terms : (terms : List TermHeads) (m n : ℕ) → m ≡ n → (let r : Result TermsRead OpenRefusal = Ok (record { terms = terms; end = m }) in r) ≡ Ok (record { terms = terms; end = n })
ok_terms terms m n same = ap (λ k. (let r : Result TermsRead OpenRefusal = Ok (record { terms = terms; end = k }) in r)) same

pub terms1_found : (bytes : List ℕ) (d : ℕ) (before : Option (List ℕ)) (at : ℕ) (terms : List TermHeads) (rest : List ℕ) → TermsRise d before terms → d ≤ 2 ^ 26 → payloads_size terms < 2 ^ 32 → length bytes ≤ 2 ^ 32 → at ≤ length bytes
    → drop at bytes ≡ terms1_bytes terms ++ rest
    → read_terms1 bytes d (length terms) before at ≡ Ok (record { terms = terms; end = at + length (terms1_bytes terms) })
terms1_found bytes d before at [] rest are limit small short from stands = ok_terms [] at (at + 0) (omega arith)
terms1_found bytes d before at (t ∷ terms) rest are limit small short from stands =
    let n = length t.heads in
    let heads = heads_bytes t.heads in
    let later_terms = terms1_bytes terms in
    let more = later_terms ++ rest in
    let place = at + 2 + length t.term + 4 in
    let here : drop at bytes ≡ u16_bytes (length t.term) ++ (t.term ++ (u32_bytes n ++ (heads ++ more))) = stands ∙ append_assoc (term1_bytes t) later_terms rest ∙ term1_is t more in
    let body : drop (at + 2) bytes ≡ t.term ++ (u32_bytes n ++ (heads ++ more)) = behind bytes at (u16_bytes (length t.term)) (t.term ++ (u32_bytes n ++ (heads ++ more))) here in
    let in_body : at + 2 ≤ length bytes = reaches bytes at (u16_bytes (length t.term)) (t.term ++ (u32_bytes n ++ (heads ++ more))) here from in
    let number : drop (at + 2 + length t.term) bytes ≡ u32_bytes n ++ (heads ++ more) = behind bytes (at + 2) t.term (u32_bytes n ++ (heads ++ more)) body in
    let in_number = reaches bytes (at + 2) t.term (u32_bytes n ++ (heads ++ more)) body in_body in
    let at_heads : drop place bytes ≡ heads ++ more = behind bytes (at + 2 + length t.term) (u32_bytes n) (heads ++ more) number in
    let in_heads : place ≤ length bytes = reaches bytes (at + 2 + length t.term) (u32_bytes n) (heads ++ more) number in_number in
    let heads_end = reaches bytes place heads more at_heads in_heads in
    let size = heads_size t.heads in
    let sizes = sum_by-append (λ (h : HeadData). h.size) t.heads (all_heads terms) in
    let one = term1_found bytes before at t.term n (heads ++ more) are.0 are.1 (omega (arith, heads_end, size, short)) from here in
    let two = heads_found bytes d 65536 place t.heads more are.2 (omega arith) limit (omega (arith, sizes, small)) in_heads at_heads in
    let later = terms1_found bytes d (Some t.term) (place + length heads) terms rest are.3 limit (omega (arith, sizes, small)) short heads_end (behind bytes place heads more at_heads) in
    let long = length-append (term1_bytes t) later_terms in
    let longer = term1_size t in
    rw (one.end, one.heads, two, one.is, later) (ok_terms (t ∷ terms) (place + length heads + length later_terms) (at + length (terms1_bytes (t ∷ terms))) (omega (arith, long, longer)))

pub record Terms1Are (bytes : List ℕ) (d : ℕ) (before : Option (List ℕ)) (at k : ℕ) (x : TermsRead) : Type 0 where
  pub rise : TermsRise d before x.terms
  pub count : length x.terms ≡ k
  pub stand : drop at bytes ≡ terms1_bytes x.terms ++ drop x.end bytes
  pub within : x.end ≤ length bytes

entry_stands : (bytes : List ℕ) (at place end m : ℕ) (t : TermHeads) → drop at bytes ≡ u16_bytes (length t.term) ++ (t.term ++ (u32_bytes m ++ drop place bytes)) → m ≡ length t.heads → drop place bytes ≡ heads_bytes t.heads ++ drop end bytes
    → drop at bytes ≡ term1_bytes t ++ drop end bytes
entry_stands bytes at place end m t first same later =
    first ∙ ap (λ k. u16_bytes (length t.term) ++ (t.term ++ (u32_bytes k ++ drop place bytes))) same
    ∙ ap (λ xs. u16_bytes (length t.term) ++ (t.term ++ (u32_bytes (length t.heads) ++ xs))) later ∙ sym (term1_is t (drop end bytes))

terms1_next : (bytes : List ℕ) (d k : ℕ) (before : Option (List ℕ)) (at place : ℕ) (here : HeadsRead) (later x : TermsRead) → Term1Read bytes before at place → HeadsAre bytes d 65536 place (heads1_in bytes at) here → Terms1Are bytes d (Some (term1_in bytes at)) here.end k later
    → (let r : Result TermsRead OpenRefusal = Ok (record { terms = record { term = term1_in bytes at; heads = here.heads } ∷ later.terms; end = later.end }) in r) ≡ Ok x → Terms1Are bytes d before at (suc k) x
terms1_next bytes d k before at place here later x one heads_are terms_are same =
    let t : TermHeads = record { term = term1_in bytes at; heads = here.heads } in
    subst (Terms1Are bytes d before at (suc k)) (ok_same (record { terms = t ∷ later.terms; end = later.end }) x same) (record {
      rise = (one.is, subst (λ m. 1 ≤ m) (sym heads_are.count) one.some, heads_are.fall, terms_are.rise);
      count = ap suc terms_are.count;
      stand = parts_stand bytes at here.end later.end (term1_bytes t) (terms1_bytes later.terms)
          (entry_stands bytes at place here.end (heads1_in bytes at) t one.stands (sym heads_are.count) heads_are.stand) terms_are.stand;
      within = terms_are.within;
    })

module _ (numbered : (codec : Codec) (number : ℕ) → codec_of number ≡ Some codec → codec_number codec ≡ number) where
  pub terms1_only : (bytes : List ℕ) (d k : ℕ) (before : Option (List ℕ)) (at : ℕ) (x : TermsRead) → Fit bytes → at ≤ length bytes → read_terms1 bytes d k before at ≡ Ok x → Terms1Are bytes d before at k x
  terms1_only bytes d zero before at x fits from read = subst (Terms1Are bytes d before at 0) (ok_same (record { terms = []; end = at }) x read) (record { rise = tt; count = refl; stand = refl; within = from })
  terms1_only bytes d (suc k) before at x fits from read =
      let a = bind_ok (term1_end bytes before at) (λ place.
      (read_heads bytes d (heads1_in bytes at) 65536 place >>= λ here.
      (read_terms1 bytes d k (Some (term1_in bytes at)) here.end >>= λ later.
      Ok (record { terms = record { term = term1_in bytes at; heads = here.heads } ∷ later.terms; end = later.end })))) x read in
      let one = term1_only bytes before at a.0 fits a.1 in
      let b = bind_ok (read_heads bytes d (heads1_in bytes at) 65536 a.0) (λ here.
      (read_terms1 bytes d k (Some (term1_in bytes at)) here.end >>= λ later.
      Ok (record { terms = record { term = term1_in bytes at; heads = here.heads } ∷ later.terms; end = later.end }))) x a.2 in
      let here = heads_only numbered bytes d 65536 (heads1_in bytes at) a.0 b.0 fits one.within b.1 in
      let e = bind_ok (read_terms1 bytes d k (Some (term1_in bytes at)) b.0.end) (λ later.
      Ok (record { terms = record { term = term1_in bytes at; heads = b.0.heads } ∷ later.terms; end = later.end })) x b.2 in
      let later = terms1_only bytes d k (Some (term1_in bytes at)) b.0.end e.0 fits here.within e.1 in
      terms1_next bytes d k before at a.0 b.0 e.0 x one here later e.2

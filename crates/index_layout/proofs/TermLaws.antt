-- Terms with their heads are read as they are written.
use Rattle.shared_lemmas.proofs.Common.{◌≡◌, ℕ, suc, zero, ◌+◌, ◌*◌, ◌-◌, ◌<◌, ◌≤◌, ◌^◌, ◌==◌, ◌&&◌, not, Bool, true, false, nat_lt, nat_le, nat_eq, List, [], ◌∷◌, ◌++◌, length, take, drop, Option, Some, Result, Ok, ap, sym, subst, ◌∙◌, refl, arith, ⊤, slice_range, is_utf8, take-append_seam}
use Rattle.shared_lemmas.proofs.Common.{drop-append_seam, length-append, length-drop, take-append-drop, drop-drop, length-take-le, sum_by-append, common_prefix_len-le, nat_tests, and_parts, not-false}
use borrow.Author.Tests.{ltb-false}
use Rattle.std.proofs.lemmas.List.{append_assoc}
use Rattle.segment_codecs.specs.declared.codec.Codec.{Codec}
use Rattle.segment_codecs.specs.Codecs.{codec_number, codec_of}
use Rattle.jass_base.specs.Limits.{IsText}
use Rattle.index_layout.specs.Bytes.{u16_in, u32_in, u16_bytes, u32_bytes}
use Rattle.index_layout.specs.Heads.{HeadData, TermHeads, all_heads, payloads_size}
use Rattle.index_layout.specs.Layout.{shared_with, rest_behind, term_bytes, head_bytes, heads_bytes, terms_bytes}
use Rattle.index_layout.specs.declared.refusal.OpenRefusal.{OpenRefusal}
use Rattle.index_layout.specs.Refusals.{◌>>=◌}
use Rattle.index_layout.specs.Reading.{HeadsRead, TermsRead, before_bytes, rises_behind, is_next_term, segments_place, term_in, term_checks, term_end, heads_in, read_heads, read_terms}
use Rattle.index_layout.proofs.Judging.{bind_ok, judged_ok, judged_all, behind, reaches, parts_stand}
use Rattle.index_layout.proofs.Numbers.{Fit, u16_found, u32_found, u16_only, u32_only}
use Rattle.index_layout.proofs.HeadLaws.{HeadsAre, HeadsFall, head_size, heads_found, heads_only}
use Rattle.shared_lemmas.proofs.Results.{ok_same}

one_more : (y n : ℕ) (xs ys : List ℕ) → take n xs ≡ take n ys → take (1 + n) (y ∷ xs) ≡ take (1 + n) (y ∷ ys)
one_more y n xs ys same = let e : suc n ≡ 1 + n = omega arith in subst (λ m. take m (y ∷ xs) ≡ take m (y ∷ ys)) e (ap (λ zs. y ∷ zs) same)

-- what two texts share is a front of both
pub shared_front : (before term : List ℕ) → take (shared_with before term) before ≡ take (shared_with before term) term
shared_front [] term = refl
shared_front (x ∷ before) [] = refl
shared_front (x ∷ before) (y ∷ term) = by_first (nat_eq x y) refl (shared_front before term)
  where
    by_first : (b : Bool) → b ≡ nat_eq x y → take (shared_with before term) before ≡ take (shared_with before term) term → take (shared_with (x ∷ before) (y ∷ term)) (x ∷ before) ≡ take (shared_with (x ∷ before) (y ∷ term)) (y ∷ term)
    by_first true is front = let same : x ≡ y = grind (arith, nat_tests, is) in rw (← is) (rw same (one_more y (shared_with before term) before term front))
    by_first false is front = rw (← is) refl

-- a term that may stand behind one
pub record IsTermText (before : Option (List ℕ)) (term : List ℕ) : Type 0 where
  pub fits : length term ≤ 65535
  pub text : IsText term
  pub rises : rises_behind before term ≡ true

-- terms that rise, each with heads whose impacts fall
abbrev pub TermsRise : ℕ → Option (List ℕ) → List TermHeads → Type 0
TermsRise d before [] = ⊤
TermsRise d before (t ∷ terms) = IsTermText before t.term × (1 ≤ length t.heads) × HeadsFall d 65536 t.heads × TermsRise d (Some t.term) terms

pub record TermThere (bytes : List ℕ) (before : Option (List ℕ)) (at : ℕ) (term : List ℕ) (n : ℕ) : Type 0 where
  pub end : term_end bytes before at ≡ Ok (at + length (term_bytes (before_bytes before) term) + 4)
  pub is : term_in bytes before at ≡ term
  pub heads : heads_in bytes at ≡ n

term_found : (bytes : List ℕ) (before : Option (List ℕ)) (at : ℕ) (term : List ℕ) (n : ℕ) (rest : List ℕ) → IsTermText before term → 1 ≤ n → n < 2 ^ 32 → at ≤ length bytes
    → drop at bytes ≡ term_bytes (before_bytes before) term ++ (u32_bytes n ++ rest) → TermThere bytes before at term n
unfolding term_bytes term_in term_end term_checks heads_in
term_found bytes before at term n rest is some small from stands =
    let b = before_bytes before in
    let sh = shared_with b term in
    let r = rest_behind b term in
    let fits = is.fits in
    let prefix = common_prefix_len-le nat_eq b term in
    let in_term : sh ≤ length term = prefix.1 in
    let long : length r ≡ length term - sh = length-drop sh term in
    let tail = u32_bytes n ++ rest in
    let shared : u16_in bytes at ≡ sh = u16_found bytes at sh (u16_bytes (length r) ++ (r ++ tail)) (omega (arith, fits, in_term)) stands in
    let two : drop (at + 2) bytes ≡ u16_bytes (length r) ++ (r ++ tail) = behind bytes at (u16_bytes sh) (u16_bytes (length r) ++ (r ++ tail)) stands in
    let size : u16_in bytes (at + 2) ≡ length r = u16_found bytes (at + 2) (length r) (r ++ tail) (omega (arith, fits, long)) two in
    let body : drop (at + 4) bytes ≡ r ++ tail = ap (λ n. drop n bytes) (omega arith) ∙ behind bytes (at + 2) (u16_bytes (length r)) (r ++ tail) two in
    let place : segments_place bytes at ≡ at + 4 + length r = ap (λ n. at + 4 + n) size in
    let behind_it : drop (at + 4 + length r) bytes ≡ tail = behind bytes (at + 4) r tail body in
    let heads : u32_in bytes (segments_place bytes at) ≡ n = ap (u32_in bytes) place ∙ u32_found bytes (at + 4 + length r) n rest small behind_it in
    let part : slice_range bytes (at + 4) (segments_place bytes at) ≡ r = ap (slice_range bytes (at + 4)) place ∙ (let e : at + 4 + length r - (at + 4) ≡ length r = omega arith in ap (λ k. take k (drop (at + 4) bytes)) e) ∙ ap (take (length r)) body ∙ take-append_seam r tail in
    let front_in : at + 4 ≤ length bytes = (let e = reaches bytes at (u16_bytes sh ++ u16_bytes (length r)) (r ++ tail) stands from in e) in
    let whole_in : at + 4 + length r ≤ length bytes = reaches bytes (at + 4) r tail body front_in in
    let all_in : at + 4 + length r + 4 ≤ length bytes = reaches bytes (at + 4 + length r) (u32_bytes n) rest behind_it whole_in in
    let there : take (u16_in bytes at) b ++ slice_range bytes (at + 4) (segments_place bytes at) ≡ term = rw (shared, part) (ap (λ xs. xs ++ r) (shared_front b term) ∙ take-append-drop sh term) in
    let next : is_next_term before sh term ≡ true = (let e : (sh == sh) ≡ true = grind (arith, nat_tests) in let f : nat_le (length term) 65535 ≡ true = grind (arith, nat_tests, fits) in rw (e, f, is.text, is.rises) refl) in
    let x : nat_lt (length bytes) (at + 4) ≡ false = grind (arith) in
    let y : nat_lt (length bytes) (segments_place bytes at + 4) ≡ false = rw place (grind (arith)) in
    let z : not (is_next_term before (u16_in bytes at) (take (u16_in bytes at) b ++ slice_range bytes (at + 4) (segments_place bytes at))) ≡ false = rw there (rw shared (ap not next)) in
    let w : (u32_in bytes (segments_place bytes at) == 0) ≡ false = rw heads (grind (arith, nat_tests, some)) in
    record {
      end = judged_all (term_checks bytes before at) (segments_place bytes at + 4) (x, (y, (z, (w, tt)))) ∙ ap (λ k. (let r : Result ℕ OpenRefusal = Ok k in r)) (omega (arith, place));
      is = there;
      heads = heads;
    }

pub record TermRead (bytes : List ℕ) (before : Option (List ℕ)) (at next : ℕ) : Type 0 where
  pub is : IsTermText before (term_in bytes before at)
  pub some : 1 ≤ heads_in bytes at
  pub stands : drop at bytes ≡ term_bytes (before_bytes before) (term_in bytes before at) ++ (u32_bytes (heads_in bytes at) ++ drop next bytes)
  pub within : next ≤ length bytes

term_only : (bytes : List ℕ) (before : Option (List ℕ)) (at next : ℕ) → Fit bytes → term_end bytes before at ≡ Ok next → TermRead bytes before at next
unfolding term_bytes term_in term_end term_checks heads_in
term_only bytes before at next fits read =
    let b = before_bytes before in
    let sh = u16_in bytes at in
    let size = u16_in bytes (at + 2) in
    let place = at + 4 + size in
    let r = slice_range bytes (at + 4) place in
    let term = take sh b ++ r in
    let x = judged_ok (term_checks bytes before at) (place + 4) next read in
    let good = x.0 in
    let is_end = x.1 in
    let end : place + 4 ≤ length bytes = ltb-false (length bytes) (place + 4) good.1.0 in
    let t = and_parts (shared_with b term == sh && nat_le (length term) 65535 && is_utf8 term) (rises_behind before term) (not-false (is_next_term before sh term) good.1.1.0) in
    let u = and_parts (shared_with b term == sh && nat_le (length term) 65535) (is_utf8 term) t.0 in
    let v = and_parts (shared_with b term == sh) (nat_le (length term) 65535) u.0 in
    let same : shared_with b term ≡ sh = grind (arith, nat_tests, v.0) in
    let prefix = common_prefix_len-le nat_eq b term in
    let front : length (take sh b) ≡ sh = length-take-le sh b (subst (λ n. n ≤ length b) same prefix.0) in
    let rest : rest_behind b term ≡ r = ap (λ n. drop n term) (same ∙ sym front) ∙ drop-append_seam (take sh b) r in
    let exact : place - (at + 4) ≡ size = omega arith in
    let long : length r ≡ size = ap (λ k. length (take k (drop (at + 4) bytes))) exact ∙ length-take-le size (drop (at + 4) bytes) (let l = length-drop (at + 4) bytes in omega (arith, l, end)) in
    let text : drop (at + 4) bytes ≡ r ++ drop place bytes = sym (take-append-drop size (drop (at + 4) bytes)) ∙ ap (λ xs. xs ++ drop size (drop (at + 4) bytes)) (ap (λ k. take k (drop (at + 4) bytes)) (sym exact)) ∙ ap (λ xs. r ++ xs) (drop-drop size (at + 4) bytes) in
    let last : drop place bytes ≡ u32_bytes (u32_in bytes place) ++ drop next bytes = u32_only bytes place fits end ∙ ap (λ n. u32_bytes (u32_in bytes place) ++ drop n bytes) is_end in
    let first = u16_only bytes at fits (omega (arith, end)) in
    let second : drop (at + 2) bytes ≡ u16_bytes size ++ drop (at + 4) bytes = u16_only bytes (at + 2) fits (omega (arith, end)) ∙ ap (λ n. u16_bytes size ++ drop n bytes) (omega arith) in
    let spelled : drop at bytes ≡ u16_bytes sh ++ (u16_bytes size ++ (r ++ (u32_bytes (u32_in bytes place) ++ drop next bytes))) = first ∙ ap (λ xs. u16_bytes sh ++ xs) (second ∙ ap (λ xs. u16_bytes size ++ xs) (text ∙ ap (λ xs. r ++ xs) last)) in
    record {
      is = record { fits = grind (arith, nat_tests, v.1); text = u.1; rises = t.1 };
      some = grind (arith, nat_tests, good.1.1.1.0);
      stands = spelled
          ∙ ap (λ n. u16_bytes n ++ (u16_bytes size ++ (r ++ (u32_bytes (u32_in bytes place) ++ drop next bytes)))) (sym same)
          ∙ ap (λ n. u16_bytes (shared_with b term) ++ (u16_bytes n ++ (r ++ (u32_bytes (u32_in bytes place) ++ drop next bytes)))) (sym long ∙ ap length (sym rest))
          ∙ ap (λ xs. u16_bytes (shared_with b term) ++ (u16_bytes (length (rest_behind b term)) ++ (xs ++ (u32_bytes (u32_in bytes place) ++ drop next bytes)))) (sym rest);
      within = omega (arith, is_end, end);
    }

pub heads_size : (heads : List HeadData) → length (heads_bytes heads) ≡ 11 * length heads
heads_size [] = refl
heads_size (h ∷ heads) = let e = length-append (head_bytes h) (heads_bytes heads) in let f = heads_size heads in let g = head_size h in omega (arith, e, f, g)

pub terms_found : (bytes : List ℕ) (d : ℕ) (before : Option (List ℕ)) (at : ℕ) (terms : List TermHeads) (rest : List ℕ) → TermsRise d before terms → d ≤ 2 ^ 26 → payloads_size terms < 2 ^ 32 → length bytes ≤ 2 ^ 32 → at ≤ length bytes
    → drop at bytes ≡ terms_bytes (before_bytes before) terms ++ rest
    → read_terms bytes d (length terms) before at ≡ Ok (record { terms = terms; end = at + length (terms_bytes (before_bytes before) terms) })
terms_found bytes d before at [] rest are limit small short from stands = ap (λ n. (let r : Result TermsRead OpenRefusal = Ok (record { terms = []; end = n }) in r)) (omega arith)
terms_found bytes d before at (t ∷ terms) rest are limit small short from stands =
    let front = term_bytes (before_bytes before) t.term in
    let n = length t.heads in
    let heads = heads_bytes t.heads in
    let later_terms = terms_bytes t.term terms in
    let more = later_terms ++ rest in
    let here : drop at bytes ≡ front ++ (u32_bytes n ++ (heads ++ more)) = stands ∙ append_assoc (front ++ (u32_bytes n ++ heads)) later_terms rest ∙ append_assoc front (u32_bytes n ++ heads) more in
    let place = at + length front in
    let number : drop place bytes ≡ u32_bytes n ++ (heads ++ more) = behind bytes at front (u32_bytes n ++ (heads ++ more)) here in
    let place_in = reaches bytes at front (u32_bytes n ++ (heads ++ more)) here from in
    let at_heads : drop (place + 4) bytes ≡ heads ++ more = behind bytes place (u32_bytes n) (heads ++ more) number in
    let heads_in_bytes : place + 4 ≤ length bytes = reaches bytes place (u32_bytes n) (heads ++ more) number place_in in
    let heads_end = reaches bytes (place + 4) heads more at_heads heads_in_bytes in
    let size = heads_size t.heads in
    let sizes = sum_by-append (λ (h : HeadData). h.size) t.heads (all_heads terms) in
    let one = term_found bytes before at t.term n (heads ++ more) are.0 are.1 (omega (arith, heads_end, size, short)) from here in
    let two = heads_found bytes d 65536 (place + 4) t.heads more are.2 (omega arith) limit (omega (arith, sizes, small)) heads_in_bytes at_heads in
    let later = terms_found bytes d (Some t.term) (place + 4 + length heads) terms rest are.3 limit (omega (arith, sizes, small)) short heads_end (behind bytes (place + 4) heads more at_heads) in
    let long = length-append (front ++ (u32_bytes n ++ heads)) later_terms in
    let longer = length-append front (u32_bytes n ++ heads) in
    rw (one.end, one.heads, two, one.is, later) (ap (λ k. (let r : Result TermsRead OpenRefusal = Ok (record { terms = t ∷ terms; end = k }) in r)) (omega (arith, long, longer)))

heads_stand : (bytes : List ℕ) (at place end m n : ℕ) (front heads : List ℕ) → drop at bytes ≡ front ++ (u32_bytes m ++ drop place bytes) → m ≡ n → drop place bytes ≡ heads ++ drop end bytes → drop at bytes ≡ (front ++ (u32_bytes n ++ heads)) ++ drop end bytes
heads_stand bytes at place end m n front heads first same later =
    first ∙ ap (λ k. front ++ (u32_bytes k ++ drop place bytes)) same ∙ ap (λ xs. front ++ (u32_bytes n ++ xs)) later ∙ sym (append_assoc front (u32_bytes n ++ heads) (drop end bytes))

pub record TermsAre (bytes : List ℕ) (d : ℕ) (before : Option (List ℕ)) (at k : ℕ) (x : TermsRead) : Type 0 where
  pub rise : TermsRise d before x.terms
  pub count : length x.terms ≡ k
  pub stand : drop at bytes ≡ terms_bytes (before_bytes before) x.terms ++ drop x.end bytes
  pub within : x.end ≤ length bytes

terms_next : (bytes : List ℕ) (d k : ℕ) (before : Option (List ℕ)) (at place : ℕ) (here : HeadsRead) (later x : TermsRead) → TermRead bytes before at place → HeadsAre bytes d 65536 place (heads_in bytes at) here → TermsAre bytes d (Some (term_in bytes before at)) here.end k later
    → (let r : Result TermsRead OpenRefusal = Ok (record { terms = record { term = term_in bytes before at; heads = here.heads } ∷ later.terms; end = later.end }) in r) ≡ Ok x → TermsAre bytes d before at (suc k) x
terms_next bytes d k before at place here later x one heads_are terms_are same =
    let term = term_in bytes before at in
    let front = term_bytes (before_bytes before) term in
    let t : TermHeads = record { term = term; heads = here.heads } in
    let heads = heads_bytes here.heads in
    let n = length here.heads in
    subst (TermsAre bytes d before at (suc k)) (ok_same (record { terms = t ∷ later.terms; end = later.end }) x same) (record {
      rise = (one.is, subst (λ m. 1 ≤ m) (sym heads_are.count) one.some, heads_are.fall, terms_are.rise);
      count = ap suc terms_are.count;
      stand = parts_stand bytes at here.end later.end (front ++ (u32_bytes n ++ heads)) (terms_bytes term later.terms)
          (heads_stand bytes at place here.end (heads_in bytes at) n front heads one.stands (sym heads_are.count) heads_are.stand) terms_are.stand;
      within = terms_are.within;
    })

module _ (numbered : (codec : Codec) (number : ℕ) → codec_of number ≡ Some codec → codec_number codec ≡ number) where
  pub terms_only : (bytes : List ℕ) (d k : ℕ) (before : Option (List ℕ)) (at : ℕ) (x : TermsRead) → Fit bytes → at ≤ length bytes → read_terms bytes d k before at ≡ Ok x → TermsAre bytes d before at k x
  terms_only bytes d zero before at x fits from read = subst (TermsAre bytes d before at 0) (ok_same (record { terms = []; end = at }) x read) (record { rise = tt; count = refl; stand = refl; within = from })
  terms_only bytes d (suc k) before at x fits from read =
      let a = bind_ok (term_end bytes before at) (λ place.
      (read_heads bytes d (heads_in bytes at) 65536 place >>= λ here.
      (read_terms bytes d k (Some (term_in bytes before at)) here.end >>= λ later.
      Ok (record { terms = record { term = term_in bytes before at; heads = here.heads } ∷ later.terms; end = later.end })))) x read in
      let one = term_only bytes before at a.0 fits a.1 in
      let b = bind_ok (read_heads bytes d (heads_in bytes at) 65536 a.0) (λ here.
      (read_terms bytes d k (Some (term_in bytes before at)) here.end >>= λ later.
      Ok (record { terms = record { term = term_in bytes before at; heads = here.heads } ∷ later.terms; end = later.end }))) x a.2 in
      let here = heads_only numbered bytes d 65536 (heads_in bytes at) a.0 b.0 fits one.within b.1 in
      let e = bind_ok (read_terms bytes d k (Some (term_in bytes before at)) b.0.end) (λ later.
      Ok (record { terms = record { term = term_in bytes before at; heads = b.0.heads } ∷ later.terms; end = later.end })) x b.2 in
      let later = terms_only bytes d k (Some (term_in bytes before at)) b.0.end e.0 fits here.within e.1 in
      terms_next bytes d k before at a.0 b.0 e.0 x one here later e.2

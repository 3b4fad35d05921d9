-- What is read of a part of some bytes is read of all of them.
use Rattle.shared_lemmas.proofs.Common.{◌≡◌, ℕ, zero, suc, ◌+◌, ◌≤◌, ◌==◌, ◌||◌, not, false, nat_lt, nat_le, List, [], ◌∷◌, ◌++◌, length, take, slice_range, Option, Some, Result, Ok, ap, ap₂, sym, ◌∙◌, arith, nat_tests, is_none}
use Rattle.whole_files.specs.Windows.{AreFrom}
use Rattle.jass_base.specs.declared.limits.TheConstants.{LONGEST_NAME}
use Rattle.segment_codecs.specs.Codecs.{codec_of}
use Rattle.index_layout.specs.Bytes.{u16_in, u32_in}
use Rattle.index_layout.specs.Reading.{before_bytes, head_checks, head_end, head_in, heads_in, is_name_text, is_next_term, name_checks, name_end, name_in, segments_place, term_checks, term_end, term_in}
use Rattle.index_layout.proofs.Judging.{bind_ok, judged_all, judged_ok}
use Rattle.shared_lemmas.proofs.Results.{ok_same}
use Rattle.index_file.proofs.Below.{HeadsRead, NamesRead, OpenRefusal, TermsRead, ◌>>=◌, read_heads, read_names, read_terms}
use Rattle.index_file.proofs.Pieces.{head_moved, piece_range, piece_u16, piece_u32, same_head}

-- a name that was read of the part
record NameOn (content part : List ℕ) (at i next : ℕ) : Type 0 where
  end : name_end content (at + i) ≡ Ok (at + next)
  name : name_in content (at + i) ≡ name_in part i

record HeadOn (content part : List ℕ) (d above at i next : ℕ) : Type 0 where
  end : head_end content d above (at + i) ≡ Ok (at + next)
  impact : u16_in content (at + i) ≡ u16_in part i
  head : head_in content (at + i) ≡ head_in part i

record TermOn (content part : List ℕ) (before : Option (List ℕ)) (at i next : ℕ) : Type 0 where
  end : term_end content before (at + i) ≡ Ok (at + next)
  term : term_in content before (at + i) ≡ term_in part before i
  heads : heads_in content (at + i) ≡ heads_in part i

module _ (content part : List ℕ) (at : ℕ) (from : AreFrom content at part) (within : at + length part ≤ length content) where
  name_on : (i next : ℕ) → name_end part i ≡ Ok next → NameOn content part at i next
  unfolding name_end name_checks name_in
  name_on i next is =
      let told = judged_ok (name_checks part i) (i + 4 + u32_in part i) next is in
      let a = told.0.0 in
      let c = told.0.1.1.0 in
      let long : i + 4 ≤ length part = grind (arith, nat_tests, a) in
      let whole : i + 4 + u32_in part i ≤ length part = grind (arith, nat_tests, c) in
      let size : u32_in content (at + i) ≡ u32_in part i = sym (piece_u32 content part at i from long) in
      let start : at + (i + 4) ≡ at + i + 4 = omega arith in
      let stop : at + (i + 4 + u32_in part i) ≡ at + i + 4 + u32_in part i = omega arith in
      let order : i + 4 ≤ i + 4 + u32_in part i = omega arith in
      let same : slice_range content (at + i + 4) (at + i + 4 + u32_in part i) ≡ slice_range part (i + 4) (i + 4 + u32_in part i)
      = sym (piece_range content part at (i + 4) (i + 4 + u32_in part i) from order whole ∙ ap₂ (slice_range content) start stop) in
      let name : slice_range content (at + i + 4) (at + i + 4 + u32_in content (at + i)) ≡ slice_range part (i + 4) (i + 4 + u32_in part i)
      = ap (λ n. slice_range content (at + i + 4) (at + i + 4 + n)) size ∙ same in
      let one : nat_lt (length content) (at + i + 4) ≡ false = grind (arith, long, within) in
      let two : nat_lt (length content) (at + i + 4 + u32_in content (at + i)) ≡ false = grind (arith, whole, within, size) in
      let last : at + i + 4 + u32_in content (at + i) ≡ at + next = (let e = told.1 in omega (arith, size, e)) in
      record {
        end = judged_all (name_checks content (at + i)) (at + i + 4 + u32_in content (at + i))
            (one, (ap (λ n. n == 0 || nat_lt LONGEST_NAME n) size ∙ told.0.1.0, (two, (ap (λ xs. not (is_name_text xs)) name ∙ told.0.1.1.1.0, tt))))
            ∙ ap (λ n. (let r : Result ℕ OpenRefusal = Ok n in r)) last;
        name = name;
      }

  pub names_on : (k i : ℕ) (x : NamesRead) → read_names part k i ≡ Ok x → read_names content k (at + i) ≡ Ok (record { names = x.names; end = at + x.end })
  names_on zero i x is = ap (λ (x : NamesRead). (let r : Result NamesRead OpenRefusal = Ok (record { names = x.names; end = at + x.end }) in r)) (ok_same (record { names = []; end = i }) x is)
  names_on (suc k) i x is =
      let a = bind_ok (name_end part i) (λ next. (read_names part k next >>= λ later. Ok (record { names = name_in part i ∷ later.names; end = later.end }))) x is in
      let one = name_on i a.0 a.1 in
      let b = bind_ok (read_names part k a.0) (λ later. Ok (record { names = name_in part i ∷ later.names; end = later.end })) x a.2 in
      let later = names_on k a.0 b.0 b.1 in
      rw (one.end, one.name, later)
      (ap (λ (x : NamesRead). (let r : Result NamesRead OpenRefusal = Ok (record { names = x.names; end = at + x.end }) in r)) (ok_same (record { names = name_in part i ∷ b.0.names; end = b.0.end }) x b.2))

  head_on : (d above i next : ℕ) → head_end part d above i ≡ Ok next → HeadOn content part d above at i next
  unfolding head_end head_checks
  head_on d above i next is =
      let told = judged_ok (head_checks part d above i) (i + 11) next is in
      let a = told.0.0 in
      let long : i + 11 ≤ length part = grind (arith, nat_tests, a) in
      let same = same_head content part at i from long in
      let one : nat_lt (length content) (at + i + 11) ≡ false = grind (arith, long, within) in
      let last : at + i + 11 ≡ at + next = (let e = told.1 in omega (arith, e)) in
      record {
        end = judged_all (head_checks content d above (at + i)) (at + i + 11)
            (one, (ap (λ n. n == 0 || nat_le above n) (sym same.impact) ∙ told.0.1.0, (ap (λ n. n == 0 || nat_lt d n) (sym same.count) ∙ told.0.1.1.0, (ap (λ n. is_none (codec_of n)) (sym same.codec) ∙ told.0.1.1.1.0, tt))))
            ∙ ap (λ n. (let r : Result ℕ OpenRefusal = Ok n in r)) last;
        impact = sym same.impact;
        head = sym (head_moved content part at i from long);
      }

  heads_on : (d k above i : ℕ) (x : HeadsRead) → read_heads part d k above i ≡ Ok x → read_heads content d k above (at + i) ≡ Ok (record { heads = x.heads; end = at + x.end })
  heads_on d zero above i x is = ap (λ (x : HeadsRead). (let r : Result HeadsRead OpenRefusal = Ok (record { heads = x.heads; end = at + x.end }) in r)) (ok_same (record { heads = []; end = i }) x is)
  heads_on d (suc k) above i x is =
      let a = bind_ok (head_end part d above i) (λ next. (read_heads part d k (u16_in part i) next >>= λ later. Ok (record { heads = head_in part i ∷ later.heads; end = later.end }))) x is in
      let one = head_on d above i a.0 a.1 in
      let b = bind_ok (read_heads part d k (u16_in part i) a.0) (λ later. Ok (record { heads = head_in part i ∷ later.heads; end = later.end })) x a.2 in
      let later = heads_on d k (u16_in part i) a.0 b.0 b.1 in
      rw (one.end, one.impact, one.head, later)
      (ap (λ (x : HeadsRead). (let r : Result HeadsRead OpenRefusal = Ok (record { heads = x.heads; end = at + x.end }) in r)) (ok_same (record { heads = head_in part i ∷ b.0.heads; end = b.0.end }) x b.2))

  term_on : (before : Option (List ℕ)) (i next : ℕ) → term_end part before i ≡ Ok next → TermOn content part before at i next
  unfolding term_end term_checks term_in heads_in
  term_on before i next is =
      let told = judged_ok (term_checks part before i) (segments_place part i + 4) next is in
      let a = told.0.0 in
      let c = told.0.1.0 in
      let long : i + 4 ≤ length part = grind (arith, nat_tests, a) in
      let whole : segments_place part i + 4 ≤ length part = grind (arith, nat_tests, c) in
      let shared : u16_in content (at + i) ≡ u16_in part i = sym (piece_u16 content part at i from (omega (arith, long))) in
      let two : at + (i + 2) ≡ at + i + 2 = omega arith in
      let size : u16_in content (at + i + 2) ≡ u16_in part (i + 2) = sym (piece_u16 content part at (i + 2) from (omega (arith, long)) ∙ ap (u16_in content) two) in
      let place : segments_place content (at + i) ≡ at + segments_place part i = omega (arith, size) in
      let start : at + (i + 4) ≡ at + i + 4 = omega arith in
      let order : i + 4 ≤ segments_place part i = omega arith in
      let rest : slice_range content (at + i + 4) (segments_place content (at + i)) ≡ slice_range part (i + 4) (segments_place part i)
      = sym (piece_range content part at (i + 4) (segments_place part i) from order (omega (arith, whole)) ∙ ap₂ (slice_range content) start (sym place)) in
      let term : take (u16_in content (at + i)) (before_bytes before) ++ slice_range content (at + i + 4) (segments_place content (at + i)) ≡ take (u16_in part i) (before_bytes before) ++ slice_range part (i + 4) (segments_place part i)
      = ap₂ (λ n (xs : List ℕ). take n (before_bytes before) ++ xs) shared rest in
      let heads : u32_in content (segments_place content (at + i)) ≡ u32_in part (segments_place part i) = ap (u32_in content) place ∙ sym (piece_u32 content part at (segments_place part i) from whole) in
      let one : nat_lt (length content) (at + i + 4) ≡ false = grind (arith, long, within) in
      let three : nat_lt (length content) (segments_place content (at + i) + 4) ≡ false = grind (arith, whole, within, place) in
      let last : segments_place content (at + i) + 4 ≡ at + next = (let e = told.1 in omega (arith, place, e)) in
      record {
        end = judged_all (term_checks content before (at + i)) (segments_place content (at + i) + 4)
            (one, (three, (ap₂ (λ n (xs : List ℕ). not (is_next_term before n xs)) shared term ∙ told.0.1.1.0, (ap (λ n. n == 0) heads ∙ told.0.1.1.1.0, tt))))
            ∙ ap (λ n. (let r : Result ℕ OpenRefusal = Ok n in r)) last;
        term = term;
        heads = heads;
      }

  pub terms_on : (d k : ℕ) (before : Option (List ℕ)) (i : ℕ) (x : TermsRead) → read_terms part d k before i ≡ Ok x → read_terms content d k before (at + i) ≡ Ok (record { terms = x.terms; end = at + x.end })
  terms_on d zero before i x is = ap (λ (x : TermsRead). (let r : Result TermsRead OpenRefusal = Ok (record { terms = x.terms; end = at + x.end }) in r)) (ok_same (record { terms = []; end = i }) x is)
  terms_on d (suc k) before i x is =
      let t = term_in part before i in
      let a = bind_ok (term_end part before i) (λ place. (read_heads part d (heads_in part i) 65536 place >>= λ here. (read_terms part d k (Some t) here.end >>= λ later.
      Ok (record { terms = record { term = t; heads = here.heads } ∷ later.terms; end = later.end })))) x is in
      let one = term_on before i a.0 a.1 in
      let b = bind_ok (read_heads part d (heads_in part i) 65536 a.0) (λ here. (read_terms part d k (Some t) here.end >>= λ later.
      Ok (record { terms = record { term = t; heads = here.heads } ∷ later.terms; end = later.end }))) x a.2 in
      let here : HeadsRead = b.0 in
      let heads = heads_on d (heads_in part i) 65536 a.0 here b.1 in
      let e = bind_ok (read_terms part d k (Some t) here.end) (λ (later : TermsRead). (let r : Result TermsRead OpenRefusal = Ok (record { terms = record { term = t; heads = here.heads } ∷ later.terms; end = later.end }) in r)) x b.2 in
      let later = terms_on d k (Some t) here.end e.0 e.1 in
      rw (one.end, one.term, one.heads, heads, later)
      (ap (λ (x : TermsRead). (let r : Result TermsRead OpenRefusal = Ok (record { terms = x.terms; end = at + x.end }) in r)) (ok_same (record { terms = record { term = t; heads = here.heads } ∷ e.0.terms; end = e.0.end }) x e.2))

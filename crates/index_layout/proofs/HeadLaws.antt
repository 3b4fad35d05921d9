-- Heads are read as they are written.
use Rattle.shared_lemmas.proofs.Common.{◌≡◌, ℕ, suc, zero, ◌+◌, ◌<◌, ◌≤◌, ◌^◌, ◌==◌, ◌||◌, false, nat_lt, nat_le, List, [], ◌∷◌, ◌++◌, length, drop, Option, Some, None, Result, Ok, ap, sym, subst, ◌∙◌, refl, arith, slice_index, ⊤, is_none, sum_by, length-append, get_or-drop, sum_by-cons, nat_tests}
use Rattle.shared_lemmas.proofs.Common.{or_parts}
use Rattle.std.specs.Prelude.{unwrap_or}
use borrow.Author.Tests.{ltb-false}
use Rattle.std.proofs.lemmas.List.{append_assoc}
use Rattle.segment_codecs.specs.declared.codec.Codec.{Codec}
use Rattle.segment_codecs.specs.declared.codec.Codec.TheVariants.{Varbyte, Packed, Bitmap, Simple8}
use Rattle.segment_codecs.specs.Codecs.{codec_number, codec_of}
use Rattle.index_layout.specs.Bytes.{u16_in, u32_in, u16_bytes, u32_bytes}
use Rattle.index_layout.specs.Heads.{HeadData}
use Rattle.index_layout.specs.Layout.{head_bytes, heads_bytes}
use Rattle.index_layout.specs.declared.refusal.OpenRefusal.{OpenRefusal}
use Rattle.index_layout.specs.Refusals.{◌>>=◌}
use Rattle.index_layout.specs.Reading.{HeadsRead, head_in, head_checks, head_end, read_heads}
use Rattle.index_layout.proofs.Judging.{bind_ok, judged_ok, judged_all, behind, reaches, parts_stand}
use Rattle.index_layout.proofs.Numbers.{Fit, u16_found, u32_found, u16_only, u32_only, cell}
use Rattle.shared_lemmas.proofs.Results.{ok_same}

-- a head whose numbers are in range, with an impact below a number
pub record IsHead (d above : ℕ) (h : HeadData) : Type 0 where
  pub some : 1 ≤ h.impact
  pub falls : h.impact < above
  pub postings : 1 ≤ h.count
  pub few : h.count ≤ d

-- heads whose impacts fall from below a number
abbrev pub HeadsFall : ℕ → ℕ → List HeadData → Type 0
HeadsFall d above [] = ⊤
HeadsFall d above (h ∷ heads) = IsHead d above h × HeadsFall d h.impact heads

pub head_size : (h : HeadData) → length (head_bytes h) ≡ 11
unfolding head_bytes
head_size h = refl

known : (codec : Codec) → codec_of (codec_number codec) ≡ Some codec
known Varbyte = refl
known Packed = refl
known Bitmap = refl
known Simple8 = refl

pub record HeadThere (bytes : List ℕ) (d above at : ℕ) (h : HeadData) : Type 0 where
  pub end : head_end bytes d above at ≡ Ok (at + 11)
  pub is : head_in bytes at ≡ h
  pub impact : u16_in bytes at ≡ h.impact

pub head_found : (bytes : List ℕ) (d above at : ℕ) (h : HeadData) (rest : List ℕ) → IsHead d above h → above ≤ 65536 → d ≤ 2 ^ 26 → h.size < 2 ^ 32 → at ≤ length bytes → drop at bytes ≡ head_bytes h ++ rest → HeadThere bytes d above at h
unfolding head_bytes head_in head_end head_checks
head_found bytes d above at h rest is below limit small from stands =
    let number = codec_number h.codec in
    let impact : u16_in bytes at ≡ h.impact = u16_found bytes at h.impact (u32_bytes h.count ++ (number ∷ (u32_bytes h.size ++ rest))) (let f = is.falls in omega (arith, f, below)) stands in
    let two : drop (at + 2) bytes ≡ u32_bytes h.count ++ (number ∷ (u32_bytes h.size ++ rest)) = behind bytes at (u16_bytes h.impact) (u32_bytes h.count ++ (number ∷ (u32_bytes h.size ++ rest))) stands in
    let count : u32_in bytes (at + 2) ≡ h.count = u32_found bytes (at + 2) h.count (number ∷ (u32_bytes h.size ++ rest)) (let f = is.few in omega (arith, f, limit)) two in
    let six : drop (at + 6) bytes ≡ number ∷ (u32_bytes h.size ++ rest) = ap (λ n. drop n bytes) (omega arith) ∙ behind bytes (at + 2) (u32_bytes h.count) (number ∷ (u32_bytes h.size ++ rest)) two in
    let seven : drop (at + 7) bytes ≡ u32_bytes h.size ++ rest = ap (λ n. drop n bytes) (omega arith) ∙ behind bytes (at + 6) (number ∷ []) (u32_bytes h.size ++ rest) six in
    let size : u32_in bytes (at + 7) ≡ h.size = u32_found bytes (at + 7) h.size rest small seven in
    let codec : slice_index bytes (at + 6) ≡ number = ap (slice_index bytes) (omega arith) ∙ sym (get_or-drop (at + 6) bytes 0 0) ∙ ap (λ (b : List ℕ). slice_index b 0) six in
    let there : codec_of (slice_index bytes (at + 6)) ≡ Some h.codec = ap codec_of codec ∙ known h.codec in
    let end : at + 11 ≤ length bytes = reaches bytes at (head_bytes h) rest stands from in
    let a : nat_lt (length bytes) (at + 11) ≡ false = grind (arith) in
    let b : (u16_in bytes at == 0 || nat_le above (u16_in bytes at)) ≡ false = rw impact (grind (arith, nat_tests, is.some, is.falls)) in
    let e : (u32_in bytes (at + 2) == 0 || nat_lt d (u32_in bytes (at + 2))) ≡ false = rw count (grind (arith, nat_tests, is.postings, is.few)) in
    let f : is_none (codec_of (slice_index bytes (at + 6))) ≡ false = ap is_none there in
    record {
      end = judged_all (head_checks bytes d above at) (at + 11) (a, (b, (e, (f, tt))));
      is = rw (impact, count, size, there) refl;
      impact = impact;
    }

pub heads_found : (bytes : List ℕ) (d above at : ℕ) (heads : List HeadData) (rest : List ℕ) → HeadsFall d above heads → above ≤ 65536 → d ≤ 2 ^ 26 → sum_by (λ (h : HeadData). h.size) heads < 2 ^ 32 → at ≤ length bytes → drop at bytes ≡ heads_bytes heads ++ rest
    → read_heads bytes d (length heads) above at ≡ Ok (record { heads = heads; end = at + length (heads_bytes heads) })
heads_found bytes d above at [] rest are below limit small from stands = ap (λ n. (let r : Result HeadsRead OpenRefusal = Ok (record { heads = []; end = n }) in r)) (omega arith)
heads_found bytes d above at (h ∷ heads) rest are below limit small from stands =
    let more = heads_bytes heads ++ rest in
    let here : drop at bytes ≡ head_bytes h ++ more = stands ∙ append_assoc (head_bytes h) (heads_bytes heads) rest in
    let sizes = sum_by-cons (λ (h : HeadData). h.size) h heads in
    let one = head_found bytes d above at h more are.0 below limit (omega (arith, sizes, small)) from here in
    let size = head_size h in
    let behind_it : drop (at + 11) bytes ≡ more = subst (λ n. drop (at + n) bytes ≡ more) size (behind bytes at (head_bytes h) more here) in
    let falls = are.0.falls in
    let later = heads_found bytes d h.impact (at + 11) heads rest are.1 (omega (arith, falls, below)) limit (omega (arith, sizes, small)) (let e = reaches bytes at (head_bytes h) more here from in omega (arith, e, size)) behind_it in
    let long = length-append (head_bytes h) (heads_bytes heads) in
    rw (one.end, one.impact, later, one.is) (ap (λ n. (let r : Result HeadsRead OpenRefusal = Ok (record { heads = h ∷ heads; end = n }) in r)) (omega (arith, long, size)))

-- a number of 8 bits that names a codec
named : (o : Option Codec) → is_none o ≡ false → o ≡ Some (unwrap_or o Varbyte)
named None is = absurd cc
named (Some codec) is = refl

pub head_impact : (bytes : List ℕ) (at : ℕ) → (head_in bytes at).impact ≡ u16_in bytes at
unfolding head_in
head_impact bytes at = refl

pub record HeadRead (bytes : List ℕ) (d above at next : ℕ) : Type 0 where
  pub is : IsHead d above (head_in bytes at)
  pub stands : drop at bytes ≡ head_bytes (head_in bytes at) ++ drop next bytes
  pub within : next ≤ length bytes

pub record HeadsAre (bytes : List ℕ) (d above at k : ℕ) (x : HeadsRead) : Type 0 where
  pub fall : HeadsFall d above x.heads
  pub count : length x.heads ≡ k
  pub stand : drop at bytes ≡ heads_bytes x.heads ++ drop x.end bytes
  pub within : x.end ≤ length bytes

module _ (numbered : (codec : Codec) (number : ℕ) → codec_of number ≡ Some codec → codec_number codec ≡ number) where
  head_only : (bytes : List ℕ) (d above at next : ℕ) → Fit bytes → head_end bytes d above at ≡ Ok next → HeadRead bytes d above at next
  unfolding head_bytes head_in head_end head_checks
  head_only bytes d above at next fits read =
      let impact = u16_in bytes at in
      let count = u32_in bytes (at + 2) in
      let byte = slice_index bytes (at + 6) in
      let codec = unwrap_or (codec_of byte) Varbyte in
      let x = judged_ok (head_checks bytes d above at) (at + 11) next read in
      let good = x.0 in
      let is_end = x.1 in
      let end : at + 11 ≤ length bytes = ltb-false (length bytes) (at + 11) good.0 in
      let t = or_parts (impact == 0) (nat_le above impact) good.1.0 in
      let u = or_parts (count == 0) (nat_lt d count) good.1.1.0 in
      let number : byte ≡ codec_number codec = sym (numbered codec byte (named (codec_of byte) good.1.1.1.0)) in
      let first = u16_only bytes at fits (omega (arith, end)) in
      let second : drop (at + 2) bytes ≡ u32_bytes count ++ drop (at + 6) bytes = u32_only bytes (at + 2) fits (omega (arith, end)) ∙ ap (λ n. u32_bytes count ++ drop n bytes) (omega arith) in
      let third : drop (at + 6) bytes ≡ codec_number codec ∷ drop (at + 7) bytes = cell bytes (at + 6) (at + 7) (omega arith) (omega (arith, end)) ∙ ap (λ n. n ∷ drop (at + 7) bytes) number in
      let last : drop (at + 7) bytes ≡ u32_bytes (u32_in bytes (at + 7)) ++ drop next bytes = u32_only bytes (at + 7) fits (omega (arith, end)) ∙ ap (λ n. u32_bytes (u32_in bytes (at + 7)) ++ drop n bytes) (omega (arith, is_end)) in
      record {
        is = record { some = grind (arith, nat_tests, t.0); falls = grind (arith, nat_tests, t.1); postings = grind (arith, nat_tests, u.0); few = grind (arith, nat_tests, u.1) };
        stands = first ∙ ap (λ xs. u16_bytes impact ++ xs) (second ∙ ap (λ xs. u32_bytes count ++ xs) (third ∙ ap (λ xs. codec_number codec ∷ xs) last));
        within = omega (arith, is_end, end);
      }

  pub heads_only : (bytes : List ℕ) (d above k at : ℕ) (x : HeadsRead) → Fit bytes → at ≤ length bytes → read_heads bytes d k above at ≡ Ok x → HeadsAre bytes d above at k x
  heads_only bytes d above zero at x fits from read = subst (HeadsAre bytes d above at 0) (ok_same (record { heads = []; end = at }) x read) (record { fall = tt; count = refl; stand = refl; within = from })
  heads_only bytes d above (suc k) at x fits from read =
      let h = head_in bytes at in
      let a = bind_ok (head_end bytes d above at) (λ next. (read_heads bytes d k (u16_in bytes at) next >>= λ later. Ok (record { heads = head_in bytes at ∷ later.heads; end = later.end }))) x read in
      let one = head_only bytes d above at a.0 fits a.1 in
      let b = bind_ok (read_heads bytes d k (u16_in bytes at) a.0) (λ later. Ok (record { heads = head_in bytes at ∷ later.heads; end = later.end })) x a.2 in
      let later = heads_only bytes d (u16_in bytes at) k a.0 b.0 fits one.within b.1 in
      subst (HeadsAre bytes d above at (suc k)) (ok_same (record { heads = h ∷ b.0.heads; end = b.0.end }) x b.2) (record {
        fall = (one.is, subst (λ n. HeadsFall d n b.0.heads) (sym (head_impact bytes at)) later.fall);
        count = ap suc later.count;
        stand = parts_stand bytes at a.0 b.0.end (head_bytes h) (heads_bytes b.0.heads) one.stands later.stand;
        within = later.within;
      })

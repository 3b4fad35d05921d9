-- A message that is read through a window.
use Rattle.shared_lemmas.proofs.Common.{◌≡◌, ℕ, zero, suc, ◌+◌, ◌-◌, ◌*◌, ◌%◌, ◌^◌, ◌<◌, ◌≤◌, Bool, true, false, cond, List, [], ◌∷◌, ◌++◌, length, take, drop, Result, Ok, Err, refl, sym, ap, subst, ◌∙◌, arith, inl, inr, ◌⊎◌, nat_lt, slice_range, drop-drop, take-append-drop, drop_all}
use Rattle.shared_lemmas.proofs.Common.{drop-append-le, take-append-le}
use Rattle.std.proofs.Common.{length-drop}
use Rattle.ciff_read.proofs.Below.{WireWhy, Cut, LongVarint, ◌>>=◌, varint_within}
use Rattle.wire_fields.specs.Reading.{varint_at}
use Rattle.ciff_read.specs.declared.refusal.CiffWhy.TheVariants as why
use Rattle.ciff_read.specs.Reading.{Message, message_at}
use Rattle.whole_files.specs.Windows.{AreFrom}
use Rattle.ciff_read.proofs.Messages.{message_there, message_cut}

-- what is read of more bytes: the same, where it was read or enough bytes were there
abbrev Grows : Type 0 → List ℕ → Result (ℕ × List ℕ) WireWhy → Result (ℕ × List ℕ) WireWhy → Type 0
Grows enough t (Ok x) r = r ≡ Ok (x.0, x.1 ++ t)
Grows enough t (Err why) r = enough → r ≡ Err why

abbrev Enough : ℕ → List ℕ → List ℕ → Type 0
Enough k s t = (k ≤ length s) ⊎ (t ≡ [])

pick : (enough : Type 0) (t : List ℕ) (test : Bool) (x y u v : Result (ℕ × List ℕ) WireWhy) → Grows enough t x u → Grows enough t y v → Grows enough t (cond test x y) (cond test u v)
pick enough t true x y u v first second = first
pick enough t false x y u v first second = second

then_grows : (few more : Type 0) (t : List ℕ) (b : ℕ) (r q : Result (ℕ × List ℕ) WireWhy) → (more → few) → Grows few t r q → Grows more t (r >>= λ x. Ok (b + 128 * x.0, x.1)) (q >>= λ x. Ok (b + 128 * x.0, x.1))
then_grows few more t b (Ok x) q less is = ap (λ (p : Result (ℕ × List ℕ) WireWhy). p >>= λ x. Ok (b + 128 * x.0, x.1)) is
then_grows few more t b (Err why) q less is = λ enough. ap (λ (p : Result (ℕ × List ℕ) WireWhy). p >>= λ x. Ok (b + 128 * x.0, x.1)) (is (less enough))

fewer : (k b : ℕ) (s t : List ℕ) → Enough (suc k) (b ∷ s) t → Enough k s t
fewer k b s t (inl enough) = inl (omega (arith, enough))
fewer k b s t (inr none) = inr none

cut_short : (k : ℕ) (t : List ℕ) → Enough (suc k) [] t → varint_within (suc k) t ≡ Err Cut
cut_short k t (inl enough) = absurd (omega (arith, enough))
cut_short k t (inr none) = ap (varint_within (suc k)) none

grows : (k : ℕ) (s t : List ℕ) → Grows (Enough k s t) t (varint_within k s) (varint_within k (s ++ t))
grows zero s t = λ enough. refl
grows (suc k) [] t = cut_short k t
grows (suc zero) (b ∷ s) t = pick (Enough 1 (b ∷ s) t) t (nat_lt b 2) (Ok (b, s)) (Err LongVarint) (Ok (b, s ++ t)) (Err LongVarint) refl (λ enough. refl)
grows (suc (suc k)) (b ∷ s) t =
    pick (Enough (suc (suc k)) (b ∷ s) t) t (nat_lt b 128) (Ok (b, s)) (varint_within (suc k) s >>= λ x. Ok (b % 128 + 128 * x.0, x.1)) (Ok (b, s ++ t)) (varint_within (suc k) (s ++ t) >>= λ x. Ok (b % 128 + 128 * x.0, x.1))
    refl (then_grows (Enough (suc k) s t) (Enough (suc (suc k)) (b ∷ s) t) t (b % 128) (varint_within (suc k) s) (varint_within (suc k) (s ++ t)) (fewer (suc k) b s t) (grows (suc k) s t))

varint_more : (s t rest : List ℕ) (n : ℕ) → varint_at s ≡ Ok (n, rest) → varint_at (s ++ t) ≡ Ok (n, rest ++ t)
unfolding varint_at
varint_more s t rest n is = subst (λ (r : Result (ℕ × List ℕ) WireWhy). Grows (Enough 10 s t) t r (varint_within 10 (s ++ t))) is (grows 10 s t)

varint_bad : (s t : List ℕ) (why : WireWhy) → Enough 10 s t → varint_at s ≡ Err why → varint_at (s ++ t) ≡ Err why
unfolding varint_at
varint_bad s t why enough is = subst (λ (r : Result (ℕ × List ℕ) WireWhy). Grows (Enough 10 s t) t r (varint_within 10 (s ++ t))) is (grows 10 s t) enough

module _ (content bytes : List ℕ) (start : ℕ) (is : AreFrom content start bytes) where
  -- the bytes of a content from a place on are those that are held, and those behind them
  split_at : (k : ℕ) → k ≤ length bytes → drop (start + k) content ≡ drop k bytes ++ drop (start + length bytes) content
  split_at k inside =
      let whole : drop start content ≡ bytes ++ drop (start + length bytes) content =
      sym (take-append-drop (length bytes) (drop start content)) ∙ ap (λ (s : List ℕ). s ++ drop (length bytes) (drop start content)) (sym is.front) ∙ ap (λ (s : List ℕ). bytes ++ s) (drop-drop (length bytes) start content) in
      sym (drop-drop k start content) ∙ ap (drop k) whole ∙ drop-append-le k bytes (drop (start + length bytes) content) inside

  module _ (at : ℕ) (not_before : start ≤ at) (not_behind : at ≤ start + length bytes) where
    here : drop at content ≡ drop (at - start) bytes ++ drop (start + length bytes) content
    here =
        let place : at ≡ start + (at - start) = omega arith in
        ap (λ n. drop n content) place ∙ split_at (at - start) (omega (arith, not_before, not_behind))

    -- a length that is read among the bytes that are held
    pub size_there : (f n : ℕ) → varint_at (drop (at - start) bytes) ≡ Ok (n, drop f bytes) → at - start < f → f ≤ length bytes
        → (varint_at (drop at content) ≡ Ok (n, drop (start + f) content)) × (start + f ≤ length content)
    size_there f n read before within = (
      ap varint_at here ∙ varint_more (drop (at - start) bytes) (drop (start + length bytes) content) (drop f bytes) n read ∙ ap (λ (s : List ℕ). Ok (n, s)) (sym (split_at f within)),
      omega (arith, before, within, is.within, length-drop start content),
    )

    -- a fault that is met among them, where enough are held
    pub size_bad : (fault : WireWhy) → (at + 10 ≤ start + length bytes) ⊎ (length content ≤ start + length bytes) → varint_at (drop (at - start) bytes) ≡ Err fault → varint_at (drop at content) ≡ Err fault
    size_bad fault enough read = ap varint_at here ∙ varint_bad (drop (at - start) bytes) (drop (start + length bytes) content) fault (held enough) read
      where
        held : (at + 10 ≤ start + length bytes) ⊎ (length content ≤ start + length bytes) → Enough 10 (drop (at - start) bytes) (drop (start + length bytes) content)
        held (inl all) = inl (omega (arith, all, not_before, length-drop (at - start) bytes))
        held (inr end) = inr (drop_all (start + length bytes) content end)

    module _ (from size : ℕ) (read : varint_at (drop at content) ≡ Ok (size, drop from content)) (before : at < from) (within : from ≤ length content) (fits : from + size ≤ 2 ^ 32) where
      slice_held : (f : ℕ) → f + size ≤ length bytes → slice_range content (start + f) (start + f + size) ≡ slice_range bytes f (f + size)
      slice_held f inside =
          let far : start + f + size - (start + f) ≡ size = omega arith in
          let near : f + size - f ≡ size = omega arith in
          ap (λ k. take k (drop (start + f) content)) far ∙ ap (take size) (split_at f (omega (arith, inside)))
          ∙ take-append-le size (drop f bytes) (drop (start + length bytes) content) (omega (arith, inside, length-drop f bytes)) ∙ ap (λ k. take k (drop f bytes)) (sym near)

      same : (f e n : ℕ) (b c : List ℕ) → from ≡ f → b ≡ c → e ≡ n → (let m : Message = record { from = from; body = b; rest = drop e content } in m) ≡ record { from = f; body = c; rest = drop n content }
      same f e n b c a is_body is_end i = record { from = a i; body = is_body i; rest = drop (is_end i) content }

      -- a message that is held
      pub message_held : (count first end : ℕ) → count ≡ from - at + size → count ≤ length bytes - (at - start) → first ≡ at - start + (from - at) → end ≡ at - start + count
          → (message_at at (drop at content) ≡ Ok (record { from = start + first; body = slice_range bytes first end; rest = drop (start + end) content })) × (start + end ≤ length content)
      message_held count first end counted long first_is end_is =
          let place : from ≡ start + first = omega (arith, first_is, before, not_before) in
          let last : end ≡ first + size = omega (arith, end_is, first_is, counted, before) in
          let inside : first + size ≤ length bytes = omega (arith, last, end_is, long, not_before, not_behind) in
          let whole : size ≤ length content - from = omega (arith, place, inside, is.within, within, length-drop start content) in
          let bytes_are : slice_range content from (from + size) ≡ slice_range bytes first end
          = ap (λ n. slice_range content n (n + size)) place ∙ slice_held first inside ∙ ap (slice_range bytes first) (sym last) in (
            message_there content at from size read before within fits whole
                ∙ ap (λ (m : Message). Ok m) (same (start + first) (from + size) (start + end) (slice_range content from (from + size)) (slice_range bytes first end) place bytes_are (omega (arith, place, last))),
            omega (arith, place, last, whole, within),
          )

      -- a message that is longer than the file
      pub message_short : (count : ℕ) → count ≡ from - at + size → length bytes - (at - start) < count → (at + count ≤ start + length bytes) ⊎ (length content ≤ start + length bytes)
          → message_at at (drop at content) ≡ Err (record { at = at; why = why.Cut })
      message_short count counted short (inl all) = absurd (omega (arith, all, short, not_before, not_behind))
      message_short count counted short (inr end) = message_cut content at from size read before within fits (omega (arith, counted, short, end, before, not_before, not_behind))

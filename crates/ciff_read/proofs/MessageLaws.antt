-- What is read as a message is one, and each message is read.
use Rattle.shared_lemmas.proofs.Common.{◌≡◌, ℕ, ◌+◌, ◌-◌, ◌^◌, ◌≤◌, Bool, true, false, cond, List, ◌++◌, length, take, drop, Result, Ok, Err, refl, sym, ap, subst, ◌∙◌, append_assoc, arith, nat_lt, le-ltb, ltb-false, length-take, length-append, take-append-drop, take_at, drop_at}
use Rattle.ciff_read.proofs.Below.{IsVarint, IsSized, varint_at}
use Rattle.ciff_read.specs.declared.refusal.CiffWhy.{CiffWhy}
use Rattle.ciff_read.specs.declared.refusal.CiffWhy.TheVariants.{Cut, Limit}
use Rattle.ciff_read.specs.declared.refusal.CiffRefusal.{CiffRefusal}
use Rattle.ciff_read.specs.Reading.{Message, message_end, message_at, body_at}
use Rattle.ciff_read.specs.Refusals.{◌>>=◌, placed, field_placed}
use Rattle.ciff_read.proofs.WireLaws.{WireLaws, bound, unplaced, field_unplaced}

body_passed : (a b : Bool) (x m : Message) → (let r : Result Message CiffWhy = cond a (Err Limit) (cond b (Err Cut) (Ok x)) in r) ≡ Ok m → (a ≡ false) × (b ≡ false) × (x ≡ m)
body_passed true b x m is = absurd cc
body_passed false true x m is = absurd cc
body_passed false false x m is = (refl, refl, cc)

pub record MessageFound (at : ℕ) (s : List ℕ) (m : Message) : Type 0 where
  pub first : List ℕ
  pub parts : s ≡ first ++ m.rest
  pub sized : IsSized first m.body
  pub ends : message_end m ≡ at + length first
  pub short : message_end m ≤ 2 ^ 32

module _ (laws : WireLaws) where
  pub message_found : (at : ℕ) (s : List ℕ) (m : Message) → message_at at s ≡ Ok m → MessageFound at s m
  unfolding message_at
  message_found at s m is =
      let x = bound (field_placed at (varint_at s)) (λ x. placed at (body_at at (at + (length s - length x.1)) x.0 x.1)) m is in
      let n = x.0.0 in
      let rest = x.0.1 in
      let from = at + (length s - length rest) in
      let made : Message = record { from = from; body = take n rest; rest = drop n rest } in
      let t = body_passed (nat_lt (2 ^ 32) (from + n)) (nat_lt (length rest) n) made m (unplaced at (body_at at from n rest) m x.2) in
      let size = laws.varint_found s rest n (field_unplaced at (varint_at s) x.0 x.1) in
      let fits : from + n ≤ 2 ^ 32 = ltb-false _ _ t.0 in
      let long : n ≤ length rest = ltb-false _ _ t.1 in
      let body : length (take n rest) ≡ n = omega (arith, length-take n rest) in
      let whole = ap (λ (t : List ℕ). length t) size.1 in
      let parts : s ≡ (size.0 ++ take n rest) ++ drop n rest = size.1 ∙ ap (λ (r : List ℕ). size.0 ++ r) (sym (take-append-drop n rest)) ∙ sym (append_assoc size.0 (take n rest) (drop n rest)) in
      subst (MessageFound at s) t.2 (record {
        first = size.0 ++ take n rest;
        parts = parts;
        sized = record { size = size.0; parts = refl; sized = subst (IsVarint size.0) (sym body) size.2 };
        ends = omega (arith, whole, length-append size.0 rest, length-append size.0 (take n rest));
        short = omega (arith, body, fits);
      })

  pub message_only : (at : ℕ) (first body rest : List ℕ) (is : IsSized first body) → at + length first ≤ 2 ^ 32 → message_at at (first ++ rest) ≡ Ok (record { from = at + length is.size; body = body; rest = rest })
  unfolding message_at
  message_only at first body rest is short =
      let parts : first ++ rest ≡ is.size ++ (body ++ rest) = ap (λ (t : List ℕ). t ++ rest) is.parts ∙ append_assoc is.size body rest in
      let read : varint_at (first ++ rest) ≡ Ok (length body, body ++ rest) = ap varint_at parts ∙ laws.varint_only is.size (body ++ rest) (length body) is.sized in
      let whole = ap (λ (t : List ℕ). length t) is.parts in
      let size = length-append is.size body in
      let from : at + (length (first ++ rest) - length (body ++ rest)) ≡ at + length is.size = omega (arith, whole, size, length-append first rest, length-append body rest) in
      let fits : nat_lt (2 ^ 32) (at + length is.size + length body) ≡ false = le-ltb _ _ (omega (arith, whole, size)) in
      let long : nat_lt (length (body ++ rest)) (length body) ≡ false = le-ltb _ _ (omega (arith, length-append body rest)) in
      ap (λ (r : Result (ℕ × List ℕ) CiffRefusal). r >>= λ x. placed at (body_at at (at + (length (first ++ rest) - length x.1)) x.0 x.1)) (ap (field_placed at) read)
      ∙ ap (λ n. placed at (body_at at n (length body) (body ++ rest))) from
      ∙ rw (fits, long, take_at body rest (length body) refl, drop_at body rest (length body) refl) refl

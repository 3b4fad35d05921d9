-- Lines that are passed, and bytes that wait to be.
use Rattle.shared_lemmas.proofs.Common.{◌≡◌, ◌≢◌, ℕ, ◌+◌, ◌<◌, ◌≤◌, Bool, true, false, List, [], ◌∷◌, ◌++◌, length, take, drop, refl, ap, sym, subst, ◌∙◌, append_assoc, append-nil, inl, inr, arith, length-append, nat_tests, All-append, All-nil, All, Option, ◌||◌, nat_le, ◌⊎◌, if◌then◌else◌}
use Rattle.shared_lemmas.proofs.Common.{strip_carriage_return}
use Rattle.text_lines.specs.Lines.{lines_of}
use Rattle.feed_lines.specs.Waiting.{Waiting, EndsFirst, Takes, TakesNothing, kept, nothing_yet}
use Rattle.feed_lines.specs.Lines.{ended_lines, Passed, Holds, IsFirstLine, PassesLine}
use Rattle.feed_lines.proofs.Ending.{none_ended, one_ended}

pub passed_none : Passed [] [] []
passed_none = record { lines = λ more. refl; ended = λ more. refl }

pub passed_more : (taken : List ℕ) (passed : List (List ℕ)) (pending piece : List ℕ) → Passed taken passed pending → Passed (taken ++ piece) passed (pending ++ piece)
passed_more taken passed pending piece p = record {
  lines = λ more. ap lines_of (append_assoc taken piece more) ∙ p.lines (piece ++ more) ∙ ap (λ text. passed ++ lines_of text) (sym (append_assoc pending piece more));
  ended = λ more. ap ended_lines (append_assoc taken piece more) ∙ p.ended (piece ++ more) ∙ ap (λ text. passed ++ ended_lines text) (sym (append_assoc pending piece more));
}

pub passed_line : ((line rest : List ℕ) → All (λ b. b ≢ 10) line → lines_of (line ++ 10 ∷ rest) ≡ strip_carriage_return line ∷ lines_of rest)
    → (taken : List ℕ) (passed : List (List ℕ)) (pending line rest : List ℕ) → Passed taken passed pending → IsFirstLine pending line rest
    → Passed taken (passed ++ strip_carriage_return line ∷ []) rest
passed_line law taken passed pending line rest p first = record {
  lines = λ more. p.lines more ∙ ap (λ text. passed ++ lines_of text) (split more) ∙ ap (λ lines. passed ++ lines) (law line (rest ++ more) first.free)
      ∙ sym (append_assoc passed (strip_carriage_return line ∷ []) (lines_of (rest ++ more)));
  ended = λ more. p.ended more ∙ ap (λ text. passed ++ ended_lines text) (split more) ∙ ap (λ lines. passed ++ lines) (one_ended line (rest ++ more) first.free)
      ∙ sym (append_assoc passed (strip_carriage_return line ∷ []) (ended_lines (rest ++ more)));
}
  where
    split : (more : List ℕ) → pending ++ more ≡ line ++ 10 ∷ (rest ++ more)
    split more = ap (λ text. text ++ more) first.parts ∙ append_assoc line (10 ∷ rest) more

pub passed_whole : (taken : List ℕ) (passed : List (List ℕ)) (pending : List ℕ) → Passed taken passed pending → All (λ b. b ≢ 10) pending → ended_lines taken ≡ passed
passed_whole taken passed pending p free =
    ap ended_lines (sym (append-nil taken)) ∙ p.ended [] ∙ ap (λ text. passed ++ ended_lines text) (append-nil pending)
    ∙ ap (λ lines. passed ++ lines) (none_ended pending free) ∙ append-nil passed

pub passed_all : (taken : List ℕ) (passed : List (List ℕ)) (pending : List ℕ) → Passed taken passed pending → lines_of taken ≡ passed ++ lines_of pending
passed_all taken passed pending p = ap lines_of (sym (append-nil taken)) ∙ p.lines [] ∙ ap (λ text. passed ++ lines_of text) (append-nil pending)

-- ---- waiting

pub holds_none : (limit : ℕ) → Holds (nothing_yet limit) []
holds_none limit = record { lost = []; parts = refl; free = All-nil (λ b. b ≢ 10); whole = λ is. refl; many = λ is. cc }

enough : (n : ℕ) → nat_le 1048578 n ≡ true → 1048578 ≤ n
enough n is = grind (arith, nat_tests)

pub holds_kept : (w : Waiting) (pending : List ℕ) → Holds w pending → All (λ b. b ≢ 10) w.bytes → Holds (kept w) pending
holds_kept w pending h free = here w.long refl (nat_le 1048578 (length w.bytes)) refl
  where
    all_lost : (w.long ≡ true) ⊎ (nat_le 1048578 (length w.bytes) ≡ true) → Holds (record { bytes = []; long = true; left = w.left }) pending
    all_lost why = record {
      lost = pending;
      parts = sym (append-nil pending);
      free = subst (All (λ b. b ≢ 10)) (sym h.parts) (All-append (λ b. b ≢ 10) h.lost w.bytes h.free free);
      whole = λ is. cc;
      many = λ is. elim why [ inl long ↦ omega (arith, h.many long, ap length h.parts, length-append h.lost w.bytes) | inr full ↦ omega (arith, enough (length w.bytes) full, ap length h.parts, length-append h.lost w.bytes) ];
    }

    here : (long : Bool) → w.long ≡ long → (full : Bool) → nat_le 1048578 (length w.bytes) ≡ full → Holds (if long || full then record { bytes = []; long = true; left = w.left } else w) pending
    here true is full fills = all_lost (inl is)
    here false is true fills = all_lost (inr fills)
    here false is false fills = h

-- the same bytes and the same front, and more behind them
holds_more : (w new : Waiting) (pending piece : List ℕ) → Holds w pending → new.bytes ≡ w.bytes ++ piece → new.long ≡ w.long → Holds new (pending ++ piece)
holds_more w new pending piece h bytes long = record {
  lost = h.lost;
  parts = ap (λ text. text ++ piece) h.parts ∙ append_assoc h.lost w.bytes piece ∙ ap (λ text. h.lost ++ text) (sym bytes);
  free = h.free;
  whole = λ is. h.whole (sym long ∙ is);
  many = λ is. h.many (sym long ∙ is);
}

pub holds_taken : (before after : Option (List ℕ)) (old new : Waiting) (pending : List ℕ) (t : Takes before after old new) → Holds old pending → All (λ b. b ≢ 10) old.bytes → Holds new (pending ++ t.taken)
holds_taken before after old new pending t h free = holds_more (kept old) new pending t.taken (holds_kept old pending h free) t.bytes t.long

pub holds_still : (before after : Option (List ℕ)) (old new : Waiting) (pending : List ℕ) → TakesNothing before after old new → Holds old pending → All (λ b. b ≢ 10) old.bytes → Holds new pending
holds_still before after old new pending t h free = elim t.bytes [ inl same ↦ subst (λ (w : Waiting). Holds w pending) (sym same) h | inr less ↦ subst (λ (w : Waiting). Holds w pending) (sym less) (holds_kept old pending h free) ]

pub holds_rest : (w : Waiting) (pending : List ℕ) (end : ℕ) → Holds w pending → EndsFirst w.bytes end → PassesLine w pending end
holds_rest w pending end h first = record {
  line = h.lost ++ take end w.bytes;
  first = record {
    parts = h.parts ∙ ap (λ text. h.lost ++ text) first.parts ∙ sym (append_assoc h.lost (take end w.bytes) (10 ∷ drop (end + 1) w.bytes));
    free = All-append (λ b. b ≢ 10) h.lost (take end w.bytes) h.free first.free;
  };
  holds = record { lost = []; parts = refl; free = All-nil (λ b. b ≢ 10); whole = λ is. refl; many = λ is. cc };
  whole = λ is. ap (λ text. text ++ take end w.bytes) (h.whole is);
  many = λ is. omega (arith, h.many is, length-append h.lost (take end w.bytes));
}

pub holds_free : (w : Waiting) (pending : List ℕ) → Holds w pending → All (λ b. b ≢ 10) w.bytes → All (λ b. b ≢ 10) pending
holds_free w pending h free = subst (All (λ b. b ≢ 10)) (sym h.parts) (All-append (λ b. b ≢ 10) h.lost w.bytes h.free free)

pub holds_all : (w : Waiting) (pending : List ℕ) → Holds w pending → w.long ≡ false → pending ≡ w.bytes
holds_all w pending h is = h.parts ∙ ap (λ text. text ++ w.bytes) (h.whole is)

pub holds_many : (w : Waiting) (pending : List ℕ) → Holds w pending → w.long ≡ true → 1048577 < length pending
holds_many w pending h is = omega (arith, h.many is, ap length h.parts, length-append h.lost w.bytes)

-- The line behind the last LF of an input.
use Rattle.shared_lemmas.proofs.Common.{◌≡◌, ◌≢◌, ℕ, ◌+◌, ◌<◌, Bool, true, false, List, [], ◌∷◌, ◌++◌, length, Option, Result, Ok, Err, refl, sym, ap, subst, ◌∙◌, append-nil, inl, inr, arith, All, IfErr, ◌⊎◌, ◌&&◌, not, nat_eq, strip_carriage_return, nat_tests}
use Rattle.jass_top.proofs.Below.{Appends-none, Rest, Wrote, WriteFault, IndexData, lines_of, Holds, Passed, Waiting, Went, is_end, read_desk_line, desk_after, desk_reply, desk_steps, DeskState, desk_postings, desk_replies, steps_from, Gathers}
use Rattle.jass_top.specs.declared.serve_stop.ServeStop.{ServeStop}
use Rattle.jass_top.specs.declared.serve_stop.ServeStop.TheVariants as stops
use Rattle.jass_top.specs.Private.Serving.{AnswersLast, IsWhole, IsFrontAt, Leads, given_line, text_from}
use Rattle.jass_top.specs.Private.Sides.{Side}
use Rattle.jass_top.proofs.Sides.{side_ok, side_err, side_none}
use Rattle.jass_top.proofs.Serving.{Loses, given_as, replies_ended, replies_given, replies_none, side_flushed, side_unflushed, steps_ended, steps_given, steps_none}

one_reply : (index : IndexData) (state : DeskState) (actual line : List ℕ) → read_desk_line actual ≡ read_desk_line line → text_from index state (actual ∷ []) ≡ desk_reply index state line
one_reply index state actual line same = at (is_end line) refl
  where
    at : (b : Bool) → is_end line ≡ b → text_from index state (actual ∷ []) ≡ desk_reply index state line
    at true is = replies_ended index state actual line [] same is
    at false is = replies_given index state actual line [] same is ∙ ap (λ (t : List ℕ). desk_reply index state line ++ t) (replies_none index (desk_after index state line)) ∙ append-nil (desk_reply index state line)

one_step : (index : IndexData) (state : DeskState) (actual line : List ℕ) → read_desk_line actual ≡ read_desk_line line → steps_from index state (actual ∷ []) ≡ desk_steps index state line
one_step index state actual line same = at (is_end line) refl
  where
    at : (b : Bool) → is_end line ≡ b → steps_from index state (actual ∷ []) ≡ desk_steps index state line
    at true is = steps_ended index state actual line [] same is
    at false is = (let sum = steps_given index state actual line [] same is in let none = steps_none index (desk_after index state line) in omega (arith, sum, none))

module _ (whole : (w : Waiting) (pending : List ℕ) → Holds w pending → w.long ≡ false → pending ≡ w.bytes)
    (long : (w : Waiting) (pending : List ℕ) → Holds w pending → w.long ≡ true → 1048577 < length pending)
    (all : (taken : List ℕ) (passed : List (List ℕ)) (pending : List ℕ) → Passed taken passed pending → lines_of taken ≡ passed ++ lines_of pending) where
  -- nothing waits
  pub none_left : (no_lines : lines_of [] ≡ []) (index : IndexData) (w : Waiting) (state : DeskState) → w.bytes ≡ [] → w.long ≡ false → Leads index w state [] 0 (IsWhole index)
  none_left no_lines index w state empty short frames taken said scored s =
      let is : lines_of taken ≡ s.passed ++ [] = all taken s.passed s.pending s.here ∙ ap (λ (p : List ℕ). s.passed ++ lines_of p) (whole w s.pending s.holds short ∙ empty) ∙ ap (λ (ls : List (List ℕ)). s.passed ++ ls) no_lines in
      record {
        replies = ap (desk_replies index frames) is ∙ s.replies [] ∙ ap (λ (t : List ℕ). said ++ t) (replies_none index state);
        steps = (let sum = ap (desk_postings index frames) is ∙ s.steps [] in let none = steps_none index state in omega (arith, sum, none));
      }

  -- a line waits
  pub last_whole : (loses : Loses) (free : (w : Waiting) (pending : List ℕ) → Holds w pending → All (λ b. b ≢ 10) w.bytes → All (λ b. b ≢ 10) pending)
      (last : (line : List ℕ) → All (λ b. b ≢ 10) line → line ≢ [] → lines_of line ≡ strip_carriage_return line ∷ [])
      (index : IndexData) (w : Waiting) (state : DeskState) (line : List ℕ) → All (λ b. b ≢ 10) w.bytes → (0 < length w.bytes) ⊎ (w.long ≡ true) → line ≡ given_line w w.bytes
      → Leads index w state (desk_reply index state line) (desk_steps index state line) (IsWhole index)
  last_whole loses free last index w state line clean some given frames taken said scored s =
      let same = given_as loses w w.bytes s.pending (whole w s.pending s.holds) (long w s.pending s.holds) ∙ ap read_desk_line (sym given) in
      let is : lines_of taken ≡ s.passed ++ strip_carriage_return s.pending ∷ [] = all taken s.passed s.pending s.here ∙ ap (λ (ls : List (List ℕ)). s.passed ++ ls) (last s.pending (free w s.pending s.holds clean) there) in
      record {
        replies = ap (desk_replies index frames) is ∙ s.replies (strip_carriage_return s.pending ∷ []) ∙ ap (λ (t : List ℕ). said ++ t) (one_reply index state (strip_carriage_return s.pending) line same);
        steps = (let sum = ap (desk_postings index frames) is ∙ s.steps (strip_carriage_return s.pending ∷ []) in let one = one_step index state (strip_carriage_return s.pending) line same in omega (arith, sum, one));
      }
    where
      there : s.pending ≢ []
      there none = at w.long refl
        where
          at : (b : Bool) → w.long ≡ b → ⊥
          at true is = omega (arith, long w s.pending s.holds is, ap length none)
          at false is = elim some [ inl have ↦ omega (arith, have, ap length (whole w s.pending s.holds is), ap length none) | inr is_long ↦ (let bad : false ≡ true = sym is ∙ is_long in cc) ]

whole_front : (index : IndexData) (frames : ℕ) (taken said : List ℕ) (scored : ℕ) → IsWhole index frames taken said scored → IsFrontAt index frames taken said scored []
whole_front index frames taken said scored is = record {
  others = [];
  replies = ap (λ (t : List ℕ). desk_replies index frames (lines_of t)) (append-nil taken) ∙ is.replies ∙ sym (append-nil said);
  steps = (let sum = ap (λ (t : List ℕ). desk_postings index frames (lines_of t)) (append-nil taken) ∙ is.steps in omega (arith, sum));
}

module _ {S : Type 0} {written : S → Option (List ℕ)} {faults : S → ℕ} {rest : S → Rest} where
  pub last_none : {T : Type 0} (out : S) (steps : ℕ) (index : IndexData) (w : Waiting) (state : DeskState) (t : T) → Leads index w state [] 0 (IsWhole index) → AnswersLast written faults rest out out steps steps index w state (Ok t)
  last_none out steps index w state t whole = record { text = []; scored = 0; side = side_none out [] t; same = λ is. refl; counted = omega arith; goes = whole }

  pub last_sent : {T : Type 0} (old mid new : S) (before between reply : List ℕ) (steps later n : ℕ) (index : IndexData) (w : Waiting) (state : DeskState) (went : Went) (result : Result T ServeStop) → before ≡ []
      → Gathers {E = WriteFault} written faults rest old mid before between reply (Ok went) → Wrote written faults rest mid new between result → IfErr result (λ e. e ≡ stops.WriteFault)
      → later ≡ steps + n → Leads index w state reply n (IsWhole index) → AnswersLast written faults rest old new steps later index w state result
  last_sent old mid new before between reply steps later n index w state went (Ok x) empty gathers sent stop counted whole = record {
    text = reply;
    scored = n;
    side = subst (λ (b : List ℕ). Side written faults rest stops.WriteFault old new b [] reply (Ok x)) empty (side_flushed x (side_ok {t = went} gathers) sent);
    same = λ is. cc;
    counted = counted;
    goes = whole;
  }
  last_sent {T} old mid new before between reply steps later n index w state went (Err stops.WriteFault) empty gathers sent stop counted whole = record {
    text = reply;
    scored = n;
    side = subst (λ (b : List ℕ). Side {T = T} written faults rest stops.WriteFault old new b [] reply (Err stops.WriteFault)) empty (side_unflushed stops.WriteFault (side_ok {t = went} gathers) sent);
    same = λ is. cc;
    counted = counted;
    goes = λ frames taken said scored s. whole_front index frames taken (said ++ reply) (scored + n) (whole frames taken said scored s);
  }
  last_sent old mid new before between reply steps later n index w state went (Err stops.NoMemory) empty gathers sent stop counted whole = cc
  last_sent old mid new before between reply steps later n index w state went (Err stops.ReadFault) empty gathers sent stop counted whole = cc
  last_sent old mid new before between reply steps later n index w state went (Err stops.Limit) empty gathers sent stop counted whole = cc

  pub last_unsent : {T : Type 0} (old new : S) (before between reply : List ℕ) (steps later n : ℕ) (index : IndexData) (w : Waiting) (state : DeskState) (fault : WriteFault) → before ≡ []
      → Gathers {T = Went} written faults rest old new before between reply (Err fault) → later ≡ steps + n → Leads index w state reply n (IsWhole index)
      → AnswersLast {T = T} written faults rest old new steps later index w state (Err stops.WriteFault)
  last_unsent {T} old new before between reply steps later n index w state fault empty gathers counted whole = record {
    text = reply;
    scored = n;
    side = subst (λ (b : List ℕ). Side {T = T} written faults rest stops.WriteFault old new b [] reply (Err stops.WriteFault)) empty (side_err gathers);
    same = λ is. cc;
    counted = counted;
    goes = λ frames taken said scored s. whole_front index frames taken (said ++ reply) (scored + n) (whole frames taken said scored s);
  }

  pub last_wanting : {T : Type 0} (old out : S) (steps later : ℕ) (index : IndexData) (w : Waiting) (state : DeskState) → out ≡ old → later ≡ steps → AnswersLast {T = T} written faults rest old out steps later index w state (Err stops.NoMemory)
  last_wanting {T} old out steps later index w state is none = record {
    text = [];
    scored = 0;
    side = subst (λ (o : S). Side {T = T} written faults rest stops.WriteFault old o [] [] [] (Err stops.NoMemory)) (sym is)
        (record { bytes = (0, Appends-none (written old)); later = omega arith; failed = λ is. cc; rest_stays = refl });
    same = λ wants. is;
    counted = omega (arith, none);
    goes = (refl, refl);
  }

-- what waits, by the test of it
none : (n : ℕ) (b : Bool) → (nat_eq n 0 && b) ≡ true → n ≡ 0
none n b is = grind (arith, nat_tests)

pub nothing_there : (bytes : List ℕ) (long : Bool) → (nat_eq (length bytes) 0 && not long) ≡ true → (bytes ≡ []) × (long ≡ false)
nothing_there [] false is = (refl, refl)
nothing_there [] true is = cc
nothing_there (b ∷ bytes) long is = absurd (omega (arith, none (length (b ∷ bytes)) (not long) is))

pub something_there : (bytes : List ℕ) (long : Bool) → (nat_eq (length bytes) 0 && not long) ≡ false → (0 < length bytes) ⊎ (long ≡ true)
something_there [] false is = cc
something_there [] true is = inr refl
something_there (b ∷ bytes) long is = inl (omega arith)

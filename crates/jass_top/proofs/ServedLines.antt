-- All lines of an input, from how each piece of it went.
use Rattle.shared_lemmas.proofs.Common.{◌≡◌, ◌≢◌, ℕ, ◌+◌, ◌-◌, ◌<◌, Bool, true, false, List, [], ◌++◌, ◌≤◌, length, take, drop, Option, Some, None, Result, Ok, Err, refl, sym, ap, subst, ◌∙◌, append-nil, append_assoc, take-append-drop, inl, inr, arith, All, if◌then◌else◌, All-nil, Appends, Consumes, IsAtEnd, Consumes-trans, Consumes-kept}
use Rattle.shared_lemmas.proofs.Common.{Consumes-nil, length-append, take-append-add, take-append_seam}
use Rattle.jass_top.proofs.Below.{Rest, Appends-then, Rose-earlier, WriteFault, IndexData, lines_of, Holds, Passed, ended_lines, ReadFault, Filled, Fills, Takes, TakesNothing, Waiting, is_too_long, nothing_yet, Went, DeskState, new_state, steps_from, MOST_TAKEN}
use Rattle.session_desk.specs.declared.went.Went.TheVariants as wents
use Rattle.session_desk.specs.Turns.{desk_postings, desk_replies}
use Rattle.jass_top.specs.declared.serve_stop.ServeStop.{ServeStop}
use Rattle.jass_top.specs.declared.serve_stop.ServeStop.TheVariants as stops
use Rattle.feed_lines.specs.declared.room.TheConstants.{ROOM}
use Rattle.jass_top.specs.Private.ServeRuns.{Served}
use Rattle.jass_top.specs.ServeMeaning.{has_end}
use Rattle.jass_top.specs.Standing.{IsInput}
use Rattle.jass_top.specs.Worlds.{Outer}
use Rattle.jass_top.specs.Private.Serving.{AnswersLines, AnswersLast, Finished, IsFront, IsFrontAt, IsWhole, Leads, Moves, Standing, text_from}
use Rattle.jass_top.specs.Private.Sides.{Side}
use Rattle.jass_top.proofs.Sides.{side_none, side_then}
use Rattle.jass_top.proofs.Serving.{answers_as, replies_none, steps_none}

-- at the beginning nothing was said
at_first : (index : IndexData) (frames : ℕ) (rest : List (List ℕ)) → desk_replies index frames rest ≡ text_from index (new_state frames) rest
unfolding desk_replies text_from
at_first index frames rest = refl

steps_first : (index : IndexData) (frames : ℕ) (rest : List (List ℕ)) → desk_postings index frames rest ≡ steps_from index (new_state frames) rest
unfolding desk_postings
steps_first index frames rest = refl

-- what follows what was taken
abbrev rest_of : Option (List ℕ) → List ℕ
rest_of None = []
rest_of (Some bytes) = bytes

had : (before left : Option (List ℕ)) (taken : List ℕ) → Consumes before left taken → IsInput before (taken ++ rest_of left)
had None left taken consumed = tt
had (Some xs) None taken consumed = absurd consumed
had (Some xs) (Some ys) taken consumed = sym consumed

had_all : (before left : Option (List ℕ)) (taken : List ℕ) → Consumes before left taken → IsAtEnd left → IsInput before taken
had_all None left taken consumed end = tt
had_all (Some xs) None taken consumed end = absurd consumed
had_all (Some xs) (Some ys) taken consumed end = sym (append-nil taken) ∙ ap (λ (t : List ℕ). taken ++ t) (sym end) ∙ sym consumed

-- the bytes that were taken before the last read, and by it: what is said is what is replied to the lines that ended before it
pub record IsPiece (index : IndexData) (frames : ℕ) (taken said : List ℕ) : Type 0 where
  pub earlier : List ℕ
  pub last : List ℕ
  pub parts : taken ≡ earlier ++ last
  pub one_read : length last ≤ ROOM
  pub answered : desk_replies index frames (ended_lines earlier) ≡ said

-- what a command meets beside the output, the feed and the steps
abbrev meets : {S : Type 0} → (S → Option (List ℕ)) → (S → ℕ) → (S → Rest) → Outer → S → Option (List ℕ) → ℕ → ℕ → Outer
meets written faults rest beside out left feed_faults steps =
    record beside { written = written out; out_faults = faults out; out_rest = rest out; left = left; feed_faults = feed_faults; steps = steps }

-- how the lines were served, whatever else there is
abbrev pub ServedBeside : {S : Type 0} → (S → Option (List ℕ)) → (S → ℕ) → (S → Rest) → S → S → IndexData → ℕ → Option (List ℕ) → Option (List ℕ) → ℕ → ℕ → Result (Unit {0}) ServeStop → Type 0
ServedBeside written faults rest old out index frames before left steps later result =
    (beside : Outer) (first last : ℕ) → Served index frames (meets written faults rest beside old before first steps) (meets written faults rest beside out left last later) result

-- how far lines are served after some pieces of the input
pub record Serving {S : Type 0} (written : S → Option (List ℕ)) (faults : S → ℕ) (rest : S → Rest) (old out : S) (index : IndexData) (frames : ℕ) (before left : Option (List ℕ)) (steps later : ℕ) (w : Waiting) (state : DeskState) : Type 0 where
  pub taken : List ℕ
  pub said : List ℕ
  pub scored : ℕ
  pub stands : Standing index frames taken said scored w state
  pub side : Side {T = Unit {0}} {E = ServeStop} written faults rest stops.WriteFault old out [] [] said (Ok tt)
  pub counted : later ≡ steps + scored
  pub consumed : Consumes before left taken

-- the same right behind a read
pub record ServingPiece {S : Type 0} (written : S → Option (List ℕ)) (faults : S → ℕ) (rest : S → Rest) (old out : S) (index : IndexData) (frames : ℕ) (before left : Option (List ℕ)) (steps later : ℕ) (w : Waiting) (state : DeskState) : Type 0 where
  pub serving : Serving written faults rest old out index frames before left steps later w state
  pub piece : IsPiece index frames serving.taken serving.said

module _ {S : Type 0} {written : S → Option (List ℕ)} {faults : S → ℕ} {rest : S → Rest} where
  -- a side of other results
  recast : {T : Type 0} {old new : S} {before after text : List ℕ} (went : T) → Side {E = WriteFault} written faults rest (record {}) old new before after text (Ok went) → Side {T = Unit {0}} {E = ServeStop} written faults rest stops.WriteFault old new before after text (Ok tt)
  recast went done = record { bytes = done.bytes; later = done.later; failed = tt; rest_stays = done.rest_stays }

  recast_err : {T : Type 0} {old new : S} {before after text : List ℕ} (fault : WriteFault)
      → Side {T = T} {E = WriteFault} written faults rest (record {}) old new before after text (Err fault)
      → Side {T = Unit {0}} {E = ServeStop} written faults rest stops.WriteFault old new before after text (Err stops.WriteFault)
  recast_err fault done = record { bytes = done.bytes; later = done.later; failed = λ is. done.failed refl; rest_stays = done.rest_stays }

  exactly : {T E : Type 0} {mine : E} (old new : S) (text : List ℕ) (t : T) → Side written faults rest mine old new [] [] text (Ok t) → Appends (written old) (written new) text
  exactly old new text t side = subst (λ (sent : List ℕ). Appends (written old) (written new) sent) (sym (append-nil side.bytes.0) ∙ side.bytes.2) side.bytes.1

  pub serving_none : (none : Passed [] [] []) (holds : Holds (nothing_yet MOST_TAKEN) []) (out : S) (index : IndexData) (frames : ℕ) (before : Option (List ℕ)) (steps : ℕ) (w : Waiting) (state : DeskState) → w ≡ nothing_yet MOST_TAKEN → state ≡ new_state frames
      → Serving written faults rest out out index frames before before steps steps w state
  serving_none none holds out index frames before steps w state is new = record {
    taken = [];
    said = [];
    scored = 0;
    stands = subst (λ (v : Waiting). Standing index frames [] [] 0 v state) (sym is) (subst (λ (s : DeskState). Standing index frames [] [] 0 (nothing_yet MOST_TAKEN) s) (sym new) (record {
      passed = [];
      pending = [];
      here = none;
      holds = holds;
      counted = omega arith;
      endless = refl;
      replies = λ more. at_first index frames more;
      steps = λ more. (let sum = steps_first index frames more in omega (arith, sum));
    }));
    side = side_none out [] tt;
    counted = omega arith;
    consumed = Consumes-nil before;
  }

  pub first_piece : (none : Passed [] [] []) (holds : Holds (nothing_yet MOST_TAKEN) []) (out : S) (index : IndexData) (frames : ℕ) (before : Option (List ℕ)) (steps : ℕ) (w : Waiting) (state : DeskState) → w ≡ nothing_yet MOST_TAKEN → state ≡ new_state frames
      → (passed_whole : (taken : List ℕ) (passed : List (List ℕ)) (pending : List ℕ) → Passed taken passed pending → All (λ b. b ≢ 10) pending → ended_lines taken ≡ passed)
      → ServingPiece written faults rest out out index frames before before steps steps w state
  unfolding serving_none
  first_piece none holds out index frames before steps w state is new passed_whole = record {
    serving = serving_none none holds out index frames before steps w state is new;
    piece = record {
      earlier = [];
      last = [];
      parts = refl;
      one_read = omega arith;
      answered = ap (desk_replies index frames) (passed_whole [] [] [] none (All-nil (λ b. b ≢ 10))) ∙ at_first index frames [] ∙ replies_none index (new_state frames);
    };
  }

  pub serving_on : {old mid out : S} {index same : IndexData} {frames : ℕ} {before left : Option (List ℕ)} {steps more later : ℕ} {w u : Waiting} {state last : DeskState} → same ≡ index
      → Serving written faults rest old mid index frames before left steps more w state → AnswersLines written faults rest mid out [] [] more later same w u state last (Ok wents.On)
      → Serving written faults rest old out index frames before left steps later u last
  serving_on {old} {mid} {out} {index} {same} {frames} {before} {left} {steps} {more} {later} {w} {u} {state} {last} is s a =
      let moves = subst (λ (f : IndexData). Moves f w u state last a.text a.scored) is a.goes in
      record {
        taken = s.taken;
        said = s.said ++ a.text;
        scored = s.scored + a.scored;
        stands = moves frames s.taken s.said s.scored s.stands;
        side = side_then s.said a.text s.side (recast wents.On a.side);
        counted = omega (arith, s.counted, a.counted);
        consumed = s.consumed;
      }

  pub serving_left : {old mid out : S} {index same : IndexData} {frames : ℕ} {before left : Option (List ℕ)} {steps more later : ℕ} {w u : Waiting} {state last : DeskState} → same ≡ index
      → Serving written faults rest old mid index frames before left steps more w state → AnswersLines written faults rest mid out [] [] more later same w u state last (Ok wents.On) → u.left ≡ w.left
  serving_left {old} {mid} {out} {index} {same} {frames} {before} {left} {steps} {more} {later} {w} {u} {state} {last} is s a =
      let moves = subst (λ (f : IndexData). Moves f w u state last a.text a.scored) is a.goes in
      omega (arith, s.stands.counted, (moves frames s.taken s.said s.scored s.stands).counted)

  pub serving_taken : (passed_more : (taken : List ℕ) (passed : List (List ℕ)) (pending piece : List ℕ) → Passed taken passed pending → Passed (taken ++ piece) passed (pending ++ piece))
      (holds_more : (before after : Option (List ℕ)) (old new : Waiting) (pending : List ℕ) (takes : Takes before after old new) → Holds old pending → All (λ b. b ≢ 10) old.bytes → Holds new (pending ++ takes.taken))
      {old out : S} {index : IndexData} {frames : ℕ} {before left after : Option (List ℕ)} {steps later : ℕ} {w u : Waiting} {state : DeskState}
      → Serving written faults rest old out index frames before left steps later w state → (takes : Takes left after w u) → All (λ b. b ≢ 10) w.bytes
      → Serving written faults rest old out index frames before after steps later u state
  serving_taken passed_more holds_more {old} {out} {index} {frames} {before} {left} {after} {steps} {later} {w} {u} {state} s takes free = record {
    taken = s.taken ++ takes.taken;
    said = s.said;
    scored = s.scored;
    stands = record {
      passed = s.stands.passed;
      pending = s.stands.pending ++ takes.taken;
      here = passed_more s.taken s.stands.passed s.stands.pending takes.taken s.stands.here;
      holds = holds_more left after w u s.stands.pending takes s.stands.holds free;
      counted = omega (arith, s.stands.counted, takes.counted, length-append s.taken takes.taken);
      endless = s.stands.endless;
      replies = s.stands.replies;
      steps = s.stands.steps;
    };
    side = s.side;
    counted = s.counted;
    consumed = Consumes-trans before left after s.taken takes.taken s.consumed takes.consumed;
  }

module _ {S : Type 0} {written : S → Option (List ℕ)} {faults : S → ℕ} {rest : S → Rest} where
  -- with an empty buffer, and by what was told
  pub emptied : {old out : S} {b : List ℕ} {steps later : ℕ} {index : IndexData} {w u : Waiting} {state last : DeskState} {result : Result Went WriteFault} → b ≡ []
      → AnswersLines written faults rest old out b [] steps later index w u state last result → AnswersLines written faults rest old out [] [] steps later index w u state last result
  emptied {old} {out} {b} {steps} {later} {index} {w} {u} {state} {last} {result} empty a =
      subst (λ (bytes : List ℕ). AnswersLines written faults rest old out bytes [] steps later index w u state last result) empty a

  pub answered : {old out : S} {b : List ℕ} {steps later : ℕ} {index : IndexData} {w u : Waiting} {state last : DeskState} {told went : Went} → b ≡ [] → told ≡ went
      → AnswersLines written faults rest old out b [] steps later index w u state last (Ok told) → AnswersLines written faults rest old out [] [] steps later index w u state last (Ok went)
  answered empty is a = answers_as is (emptied empty a)

pub told_as : {r : Result Went WriteFault} {told went : Went} → r ≡ Ok told → told ≡ went → r ≡ Ok went
told_as is same = cc

pub filled : (before after : Option (List ℕ)) (w u : Waiting) {f g : Filled} → f ≡ g → Fills {E = ReadFault} before after w u (Ok f) → Fills {E = ReadFault} before after w u (Ok g)
filled before after w u is fills = subst (λ (h : Filled). Fills {E = ReadFault} before after w u (Ok h)) is fills

-- four texts in a row
regrouped : (one two three four : List ℕ) → (one ++ (two ++ three)) ++ four ≡ (one ++ two) ++ (three ++ four)
regrouped one two three four = ap (λ (t : List ℕ). t ++ four) (sym (append_assoc one two three)) ∙ append_assoc (one ++ two) three four

-- what is said for the lines that were passed
first_replies : (index : IndexData) (frames : ℕ) (taken said : List ℕ) (scored : ℕ) (w : Waiting) (state : DeskState) → (s : Standing index frames taken said scored w state) → desk_replies index frames s.passed ≡ said
first_replies index frames taken said scored w state s = ap (desk_replies index frames) (sym (append-nil s.passed)) ∙ s.replies [] ∙ ap (λ (t : List ℕ). said ++ t) (replies_none index state) ∙ append-nil said

first_steps : (index : IndexData) (frames : ℕ) (taken said : List ℕ) (scored : ℕ) (w : Waiting) (state : DeskState) → (s : Standing index frames taken said scored w state) → desk_postings index frames s.passed ≡ scored
first_steps index frames taken said scored w state s = (let sum = ap (desk_postings index frames) (sym (append-nil s.passed)) ∙ s.steps [] in let none = steps_none index state in omega (arith, sum, none))

-- nothing was taken
pub still_left : {before after : Option (List ℕ)} {w u : Waiting} → TakesNothing before after w u → u.left ≡ w.left
still_left {w = w} t = elim t.bytes [ inl same ↦ ap (λ (v : Waiting). v.left) same | inr less ↦ ap (λ (v : Waiting). v.left) less ∙ of_kept (is_too_long w) ]
  where
    of_kept : (b : Bool) → (let v : Waiting = if b then record { bytes = []; long = true; left = w.left } else w in v).left ≡ w.left
    of_kept true = refl
    of_kept false = refl

pub still_free : {before after : Option (List ℕ)} {w u : Waiting} → TakesNothing before after w u → All (λ b. b ≢ 10) w.bytes → All (λ b. b ≢ 10) u.bytes
still_free {w = w} t free = elim t.bytes [ inl same ↦ subst (λ (v : Waiting). All (λ b. b ≢ 10) v.bytes) (sym same) free | inr less ↦ subst (λ (v : Waiting). All (λ b. b ≢ 10) v.bytes) (sym less) (of_kept (is_too_long w)) ]
  where
    of_kept : (b : Bool) → All (λ b. b ≢ 10) (let v : Waiting = if b then record { bytes = []; long = true; left = w.left } else w in v).bytes
    of_kept true = All-nil (λ b. b ≢ 10)
    of_kept false = free

module _ {S : Type 0} {written : S → Option (List ℕ)} {faults : S → ℕ} {rest : S → Rest} where
  pub served_end : {old mid out : S} {index same : IndexData} {frames : ℕ} {before left : Option (List ℕ)} {steps more later : ℕ} {w u : Waiting} {state last : DeskState} → same ≡ index
      → Serving written faults rest old mid index frames before left steps more w state → AnswersLines written faults rest mid out [] [] more later same w u state last (Ok wents.End)
      → ServedBeside written faults rest old out index frames before left steps later (Ok tt)
  served_end {old} {mid} {out} {index} {same} {frames} {before} {left} {steps} {more} {later} {w} {u} {state} {last} is s a = λ beside one other.
      let leads = subst (λ (f : IndexData). Leads f w state a.text a.scored (Finished f)) is a.goes in
      let f = leads frames s.taken s.said s.scored s.stands in
      let side = side_then s.said a.text s.side (recast wents.End a.side) in
      let behind = rest_of left in
      let k = MOST_TAKEN - length s.taken in
      let size : length s.taken + k ≡ MOST_TAKEN = omega (arith, f.size) in
      let scored = f.steps behind in
      record {
        serves = record {
          input = s.taken ++ behind;
          output = record { content = []; text = desk_replies index frames (lines_of (s.taken ++ behind)); steps = desk_postings index frames (lines_of (s.taken ++ behind)) };
          had = had before left s.taken s.consumed;
          exact = record {
            answered = inr (ap (λ (n : ℕ). has_end (ended_lines (take n (s.taken ++ behind)))) (sym size) ∙ ap (λ (t : List ℕ). has_end (ended_lines t)) (take-append-add s.taken behind k) ∙ f.ended (take k behind));
            content = refl;
            text = refl;
            steps = refl;
          };
          left = record {
            content = refl;
            text = subst (λ (t : List ℕ). Appends (written old) (written out) t) (sym (f.replies behind)) (exactly old out (s.said ++ a.text) tt side);
            steps = omega (arith, s.counted, a.counted, scored);
          };
        };
        taken = (s.taken, s.consumed, f.size);
        never_less = side.later;
        failed = tt;
        rest_stays = side.rest_stays;
      }

  served_first : {old out : S} {index : IndexData} {frames : ℕ} {before left : Option (List ℕ)} {steps later : ℕ} {w : Waiting} {state : DeskState}
      → Serving written faults rest old out index frames before left steps later w state → ServedBeside written faults rest old out index frames before left steps later (Err stops.NoMemory)
  served_first {old} {out} {index} {frames} {before} {left} {steps} {later} {w} {state} s = λ beside one other.
      let scored = first_steps index frames s.taken s.said s.scored w state s.stands in
      record {
        serves = record {
          input = s.taken ++ rest_of left;
          had = had before left s.taken s.consumed;
          first = s.stands.passed;
          others = lines_of (s.stands.pending ++ rest_of left);
          lines = s.stands.here.lines (rest_of left);
          replies = record {
            told = refl;
            text = subst (λ (t : List ℕ). Appends (written old) (written out) t) (sym (first_replies index frames s.taken s.said s.scored w state s.stands)) (exactly old out s.said tt s.side);
            scored = omega (arith, s.counted, scored);
          };
        };
        taken = (s.taken, s.consumed, omega (arith, s.stands.counted));
        never_less = s.side.later;
        failed = λ is. cc;
        rest_stays = s.side.rest_stays;
      }

  pub served_memory : {old mid out : S} {index same : IndexData} {frames : ℕ} {before left : Option (List ℕ)} {steps more later : ℕ} {w u : Waiting} {state last : DeskState} → same ≡ index
      → Serving written faults rest old mid index frames before left steps more w state → AnswersLines written faults rest mid out [] [] more later same w u state last (Ok wents.NoMemory)
      → ServedBeside written faults rest old out index frames before left steps later (Err stops.NoMemory)
  served_memory {old} {mid} {out} {index} {same} {frames} {before} {left} {steps} {more} {later} {w} {u} {state} {last} is s a =
      served_first (serving_on {last = last} is s
      (record { text = a.text; scored = a.scored; side = record { bytes = a.side.bytes; later = a.side.later; failed = tt; rest_stays = a.side.rest_stays }; counted = a.counted; goes = a.goes }))

  -- a part of the replies to the lines that waited was written
  part_sent : (old mid out : S) (index : IndexData) (frames : ℕ) (before left : Option (List ℕ)) (steps more later : ℕ) (w : Waiting) (state : DeskState) (text : List ℕ) (scored : ℕ) → (s : Serving written faults rest old mid index frames before left steps more w state) → IsPiece index frames s.taken s.said
      → (side : Side {T = Unit {0}} {E = ServeStop} written faults rest stops.WriteFault mid out [] [] text (Err stops.WriteFault)) → later ≡ more + scored → IsFrontAt index frames s.taken (s.said ++ text) (s.scored + scored) []
      → ServedBeside written faults rest old out index frames before left steps later (Err stops.WriteFault)
  part_sent old mid out index frames before left steps more later w state text scored s p side counted front = λ beside one other.
      let sent : List ℕ = s.said ++ take side.bytes.0 text in
      let lines : List (List ℕ) = lines_of (p.earlier ++ p.last) in
      let at_last : lines_of (s.taken ++ []) ≡ lines = ap lines_of (append-nil s.taken ∙ p.parts) in
      let replied : desk_replies index frames lines ≡ sent ++ (drop side.bytes.0 text ++ front.others) =
      ap (desk_replies index frames) (sym at_last) ∙ front.replies ∙ ap (λ (t : List ℕ). (s.said ++ t) ++ front.others) (sym (take-append-drop side.bytes.0 text)) ∙ regrouped s.said (take side.bytes.0 text) (drop side.bytes.0 text) front.others in
      let sum : desk_postings index frames (lines_of (s.taken ++ [])) ≡ desk_postings index frames lines = ap (desk_postings index frames) at_last in
      record {
        serves = record {
          earlier = p.earlier;
          last = p.last;
          one_read = p.one_read;
          consumed = subst (λ (t : List ℕ). Consumes before left t) p.parts s.consumed;
          told = refl;
          sent = sent;
          text = Appends-then (written old) (written mid) (written out) s.said (take side.bytes.0 text) (exactly old mid s.said tt s.side) side.bytes.1;
          whole = (take side.bytes.0 text, ap (λ (t : List ℕ). t ++ take side.bytes.0 text) (sym p.answered));
          part = (length sent, sym (take-append_seam sent (drop side.bytes.0 text ++ front.others)) ∙ ap (take (length sent)) (sym replied));
          steps = record { never_less = omega (arith, s.counted, counted); at_most = omega (arith, s.counted, counted, front.steps, sum) };
        };
        taken = (s.taken, s.consumed, omega (arith, s.stands.counted));
        never_less = omega (arith, s.side.later, side.later);
        failed = λ is. Rose-earlier (faults old) (faults mid) (faults out) s.side.later (side.failed is);
        rest_stays = side.rest_stays ∙ s.side.rest_stays;
      }

  pub served_cut : {old mid out : S} {index same : IndexData} {frames : ℕ} {before left : Option (List ℕ)} {steps more later : ℕ} {w u : Waiting} {state last : DeskState} {fault : WriteFault} → same ≡ index
      → ServingPiece written faults rest old mid index frames before left steps more w state → AnswersLines written faults rest mid out [] [] more later same w u state last (Err fault)
      → ServedBeside written faults rest old out index frames before left steps later (Err stops.WriteFault)
  served_cut {old} {mid} {out} {index} {same} {frames} {before} {left} {steps} {more} {later} {w} {u} {state} {last} {fault} is piece a =
      let s = piece.serving in
      let leads = subst (λ (f : IndexData). Leads f w state a.text a.scored (IsFront f)) is a.goes in
      part_sent old mid out index frames before left steps more later w state a.text a.scored s piece.piece (recast_err fault a.side) a.counted (leads frames s.taken s.said s.scored s.stands [])

  pub serving_still : (holds_still : (before after : Option (List ℕ)) (old new : Waiting) (pending : List ℕ) → TakesNothing before after old new → Holds old pending → All (λ b. b ≢ 10) old.bytes → Holds new pending)
      {old out : S} {index : IndexData} {frames : ℕ} {before left after : Option (List ℕ)} {steps later : ℕ} {w u : Waiting} {state : DeskState}
      → Serving written faults rest old out index frames before left steps later w state → TakesNothing left after w u → All (λ b. b ≢ 10) w.bytes
      → Serving written faults rest old out index frames before after steps later u state
  serving_still holds_still {old} {out} {index} {frames} {before} {left} {after} {steps} {later} {w} {u} {state} s nothing free = record {
    taken = s.taken;
    said = s.said;
    scored = s.scored;
    stands = record {
      passed = s.stands.passed;
      pending = s.stands.pending;
      here = s.stands.here;
      holds = holds_still left after w u s.stands.pending nothing s.stands.holds free;
      counted = omega (arith, s.stands.counted, still_left nothing);
      endless = s.stands.endless;
      replies = s.stands.replies;
      steps = s.stands.steps;
    };
    side = s.side;
    counted = s.counted;
    consumed = Consumes-kept before left after s.taken s.consumed nothing.stays;
  }

  module _ (all_free : (w : Waiting) (pending : List ℕ) → Holds w pending → All (λ b. b ≢ 10) w.bytes → All (λ b. b ≢ 10) pending)
      (passed_whole : (taken : List ℕ) (passed : List (List ℕ)) (pending : List ℕ) → Passed taken passed pending → All (λ b. b ≢ 10) pending → ended_lines taken ≡ passed) where
    pub served_fault : {old out : S} {index : IndexData} {frames : ℕ} {before left : Option (List ℕ)} {steps later : ℕ} {w : Waiting} {state : DeskState}
        → Serving written faults rest old out index frames before left steps later w state → All (λ b. b ≢ 10) w.bytes
        → ServedBeside written faults rest old out index frames before left steps later (Err stops.ReadFault)
    served_fault {old} {out} {index} {frames} {before} {left} {steps} {later} {w} {state} s free = λ beside one other.
        let lines = passed_whole s.taken s.stands.passed s.stands.pending s.stands.here (all_free w s.stands.pending s.stands.holds free) in
        let scored = ap (desk_postings index frames) lines ∙ first_steps index frames s.taken s.said s.scored w state s.stands in
        record {
          serves = record {
            taken = s.taken;
            consumed = s.consumed;
            replies = record {
              told = refl;
              text = subst (λ (t : List ℕ). Appends (written old) (written out) t) (sym (ap (desk_replies index frames) lines ∙ first_replies index frames s.taken s.said s.scored w state s.stands)) (exactly old out s.said tt s.side);
              scored = omega (arith, s.counted, scored);
            };
          };
          taken = (s.taken, s.consumed, omega (arith, s.stands.counted));
          never_less = s.side.later;
          failed = λ is. cc;
          rest_stays = s.side.rest_stays;
        }

    -- all that waited is answered before the next read
    pub all_answered : {old out : S} {index : IndexData} {frames : ℕ} {before left : Option (List ℕ)} {steps later : ℕ} {w : Waiting} {state : DeskState}
        → (s : Serving written faults rest old out index frames before left steps later w state) → All (λ b. b ≢ 10) w.bytes → desk_replies index frames (ended_lines s.taken) ≡ s.said
    all_answered {index = index} {frames = frames} {w = w} {state = state} s free =
        ap (desk_replies index frames) (passed_whole s.taken s.stands.passed s.stands.pending s.stands.here (all_free w s.stands.pending s.stands.holds free)) ∙ first_replies index frames s.taken s.said s.scored w state s.stands

    -- nothing was read since
    pub piece_still : {old out : S} {index : IndexData} {frames : ℕ} {before left : Option (List ℕ)} {steps later : ℕ} {w : Waiting} {state : DeskState}
        → Serving written faults rest old out index frames before left steps later w state → All (λ b. b ≢ 10) w.bytes → ServingPiece written faults rest old out index frames before left steps later w state
    piece_still s free = record {
      serving = s;
      piece = record { earlier = s.taken; last = []; parts = sym (append-nil s.taken); one_read = omega arith; answered = all_answered s free };
    }

    -- a piece was read
    pub piece_taken : (passed_more : (taken : List ℕ) (passed : List (List ℕ)) (pending piece : List ℕ) → Passed taken passed pending → Passed (taken ++ piece) passed (pending ++ piece))
        (holds_more : (before after : Option (List ℕ)) (old new : Waiting) (pending : List ℕ) (takes : Takes before after old new) → Holds old pending → All (λ b. b ≢ 10) old.bytes → Holds new (pending ++ takes.taken))
        {old out : S} {index : IndexData} {frames : ℕ} {before left after : Option (List ℕ)} {steps later : ℕ} {w u : Waiting} {state : DeskState}
        → Serving written faults rest old out index frames before left steps later w state → (takes : Takes left after w u) → All (λ b. b ≢ 10) w.bytes
        → ServingPiece written faults rest old out index frames before after steps later u state
    unfolding serving_taken
    piece_taken passed_more holds_more s takes free = record {
      serving = serving_taken passed_more holds_more s takes free;
      piece = record { earlier = s.taken; last = takes.taken; parts = refl; one_read = takes.most; answered = all_answered s free };
    }

    pub served_limit : {old out : S} {index : IndexData} {frames : ℕ} {before left : Option (List ℕ)} {steps later : ℕ} {w : Waiting} {state : DeskState}
        → Serving written faults rest old out index frames before left steps later w state → All (λ b. b ≢ 10) w.bytes → w.left ≡ 0
        → ServedBeside written faults rest old out index frames before left steps later (Err stops.Limit)
    served_limit {old} {out} {index} {frames} {before} {left} {steps} {later} {w} {state} s free none = λ beside one other.
        let size : length s.taken ≡ MOST_TAKEN = omega (arith, s.stands.counted, none) in
        let front : take MOST_TAKEN (s.taken ++ rest_of left) ≡ s.taken = ap (λ (n : ℕ). take n (s.taken ++ rest_of left)) (sym size) ∙ take-append_seam s.taken (rest_of left) in
        let lines = ap ended_lines front ∙ passed_whole s.taken s.stands.passed s.stands.pending s.stands.here (all_free w s.stands.pending s.stands.holds free) in
        let scored = ap (desk_postings index frames) lines ∙ first_steps index frames s.taken s.said s.scored w state s.stands in
        record {
          serves = record {
            input = s.taken ++ rest_of left;
            had = had before left s.taken s.consumed;
            consumed = subst (λ (t : List ℕ). Consumes before left t) (sym front) s.consumed;
            long = omega (arith, size, length-append s.taken (rest_of left));
            endless = ap has_end lines ∙ s.stands.endless;
            replies = record {
              told = refl;
              text = subst (λ (t : List ℕ). Appends (written old) (written out) t) (sym (ap (desk_replies index frames) lines ∙ first_replies index frames s.taken s.said s.scored w state s.stands)) (exactly old out s.said tt s.side);
              scored = omega (arith, s.counted, scored);
            };
          };
          taken = (s.taken, s.consumed, omega (arith, size));
          never_less = s.side.later;
          failed = λ is. cc;
          rest_stays = s.side.rest_stays;
        }

  pub served_last : {old mid out : S} {index same : IndexData} {frames : ℕ} {before left : Option (List ℕ)} {steps more later : ℕ} {w : Waiting} {state : DeskState} (result : Result (Unit {0}) ServeStop) → same ≡ index
      → ServingPiece written faults rest old mid index frames before left steps more w state → IsAtEnd left → 0 < w.left → AnswersLast written faults rest mid out more later same w state result
      → ServedBeside written faults rest old out index frames before left steps later result
  served_last {old} {mid} {out} {index} {same} {frames} {before} {left} {steps} {more} {later} {w} {state} (Ok x) is p end some a = λ beside one other.
      let s = p.serving in
      let leads = subst (λ (f : IndexData). Leads f w state a.text a.scored (IsWhole f)) is a.goes in
      let whole = leads frames s.taken s.said s.scored s.stands in let side = side_then s.said a.text s.side a.side in
      record {
        serves = record {
          input = s.taken;
          output = record { content = []; text = desk_replies index frames (lines_of s.taken); steps = desk_postings index frames (lines_of s.taken) };
          had = had_all before left s.taken s.consumed end;
          exact = record { answered = inl (omega (arith, s.stands.counted, some)); content = refl; text = refl; steps = refl };
          left = record {
            content = refl;
            text = subst (λ (t : List ℕ). Appends (written old) (written out) t) (sym whole.replies) (exactly old out (s.said ++ a.text) x side);
            steps = omega (arith, s.counted, a.counted, whole.steps);
          };
        };
        taken = (s.taken, s.consumed, omega (arith, s.stands.counted));
        never_less = side.later;
        failed = tt;
        rest_stays = side.rest_stays;
      }
  served_last {old} {mid} {out} {index} {same} {frames} {before} {left} {steps} {more} {later} {w} {state} (Err stops.NoMemory) is p end some a =
      let s = p.serving in
      served_first (subst (λ (o : S). Serving written faults rest old o index frames before left steps later w state) (sym (a.same refl))
      (record { taken = s.taken; said = s.said; scored = s.scored; stands = s.stands; side = s.side; counted = omega (arith, s.counted, a.counted, a.goes.1); consumed = s.consumed }))
  served_last {old} {mid} {out} {index} {same} {frames} {before} {left} {steps} {more} {later} {w} {state} (Err stops.WriteFault) is p end some a =
      let s = p.serving in
      let leads = subst (λ (f : IndexData). Leads f w state a.text a.scored (λ frames taken said scored. IsFrontAt f frames taken said scored [])) is a.goes in
      part_sent old mid out index frames before left steps more later w state a.text a.scored s p.piece a.side a.counted (leads frames s.taken s.said s.scored s.stands)
  served_last {old} {mid} {out} {index} {same} {frames} {before} {left} {steps} {more} {later} {w} {state} (Err stops.ReadFault) is p end some a = absurd a.goes
  served_last {old} {mid} {out} {index} {same} {frames} {before} {left} {steps} {more} {later} {w} {state} (Err stops.Limit) is p end some a = absurd a.goes

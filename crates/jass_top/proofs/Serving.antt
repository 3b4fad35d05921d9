-- Lines of an input that are served one by one.
use Rattle.shared_lemmas.proofs.Common.{◌≡◌, ℕ, ◌+◌, ◌<◌, ◌≤◌, Bool, true, false, List, [], ◌∷◌, ◌++◌, length, take, drop, Option, Some, None, Result, Ok, Err, refl, sym, ap, subst, ◌∙◌, append_assoc, append-nil, arith, ◌||◌, not, nat_lt, ◌↔◌, IsTrue, if◌then◌else◌, Appends, concat}
use Rattle.shared_lemmas.proofs.Common.{strip_carriage_return, nat_tests, IsUtf8-nil, is_utf8-from_IsUtf8, is_utf8}
use Rattle.jass_top.proofs.Below.{blank_runs, Went, text_where, may_take_memory, Gathers, IndexData, lines_of, Holds, IsFirstLine, Passed, PassesLine, ended_lines, EndsFirst, Waiting, passed_to, DeskCommand, Open, command_in, is_end_command, after_of, reply_to, steps_of, DeskState}
use Rattle.jass_top.proofs.Below.{desk_postings, desk_replies, Rest, Wrote, WriteFault}
use Rattle.session_desk.specs.Endings.{may_want_memory}
use Rattle.session_desk.specs.declared.went.Went.TheVariants as wents
use Rattle.session_desk.specs.Lines.{is_end, read_desk_line}
use Rattle.session_desk.specs.Replies.{desk_after, desk_reply, desk_steps}
use Rattle.session_desk.specs.Turns.{replies_from, steps_from}
use Rattle.jass_top.specs.ServeMeaning.{has_end}
use Rattle.jass_top.specs.Private.Serving.{AnswersLines, Finished, Goes, IsFront, Leads, Moves, Standing, given_line, text_from}
use Rattle.jass_top.proofs.Sides.{side_none, side_same, side_then}
use Rattle.jass_top.specs.Private.Sides.{Side}

-- ---- the replies to lines, one by one

replies_more : (index : IndexData) (state : DeskState) (line : List ℕ) (lines : List (List ℕ)) → is_end line ≡ false
    → text_from index state (line ∷ lines) ≡ desk_reply index state line ++ text_from index (desk_after index state line) lines
unfolding text_from replies_from
replies_more index state line lines is = ap (λ (b : Bool). desk_reply index state line ++ concat (if b then [] else replies_from index (desk_after index state line) lines)) is

replies_last : (index : IndexData) (state : DeskState) (line : List ℕ) (lines : List (List ℕ)) → is_end line ≡ true → text_from index state (line ∷ lines) ≡ desk_reply index state line
unfolding text_from replies_from
replies_last index state line lines is = ap (λ (b : Bool). desk_reply index state line ++ concat (if b then [] else replies_from index (desk_after index state line) lines)) is ∙ append-nil (desk_reply index state line)

pub replies_none : (index : IndexData) (state : DeskState) → text_from index state [] ≡ []
unfolding text_from replies_from
replies_none index state = refl

steps_more : (index : IndexData) (state : DeskState) (line : List ℕ) (lines : List (List ℕ)) → is_end line ≡ false
    → steps_from index state (line ∷ lines) ≡ desk_steps index state line + steps_from index (desk_after index state line) lines
unfolding steps_from
steps_more index state line lines is = ap (λ (b : Bool). desk_steps index state line + (if b then 0 else steps_from index (desk_after index state line) lines)) is

steps_last : (index : IndexData) (state : DeskState) (line : List ℕ) (lines : List (List ℕ)) → is_end line ≡ true → steps_from index state (line ∷ lines) ≡ desk_steps index state line + 0
unfolding steps_from
steps_last index state line lines is = ap (λ (b : Bool). desk_steps index state line + (if b then 0 else steps_from index (desk_after index state line) lines)) is

pub steps_none : (index : IndexData) (state : DeskState) → steps_from index state [] ≡ 0
unfolding steps_from
steps_none index state = refl

-- a desk reads the line and no more
same_reply : (index : IndexData) (state : DeskState) (line other : List ℕ) → read_desk_line line ≡ read_desk_line other → desk_reply index state line ≡ desk_reply index state other
unfolding desk_reply
same_reply index state line other is = ap (reply_to index state) is

same_after : (index : IndexData) (state : DeskState) (line other : List ℕ) → read_desk_line line ≡ read_desk_line other → desk_after index state line ≡ desk_after index state other
unfolding desk_after
same_after index state line other is = ap (after_of index state) is

same_steps : (index : IndexData) (state : DeskState) (line other : List ℕ) → read_desk_line line ≡ read_desk_line other → desk_steps index state line ≡ desk_steps index state other
unfolding desk_steps
same_steps index state line other is = ap (steps_of index state) is

same_end : (line other : List ℕ) → read_desk_line line ≡ read_desk_line other → is_end line ≡ is_end other
unfolding is_end
same_end line other is = ap is_end_command is

-- a line that is too long is read as one without bytes
no_command : read_desk_line [] ≡ None
unfolding read_desk_line
no_command = ap (λ (b : Bool). if not b then None else command_in (blank_runs [])) (is_utf8-from_IsUtf8 [] IsUtf8-nil)

cut_off : (line : List ℕ) → nat_lt 1048576 (length line) ≡ true → read_desk_line line ≡ None
unfolding read_desk_line
cut_off line is = ap (λ (b : Bool). if b then None else (if not (is_utf8 line) then None else command_in (blank_runs line))) is

too_long : (line : List ℕ) → 1048576 < length line → read_desk_line line ≡ read_desk_line []
too_long line many = cut_off line (longer (length line) many) ∙ sym no_command
  where
    longer : (n : ℕ) → 1048576 < n → nat_lt 1048576 n ≡ true
    longer n many = grind (arith, nat_tests)

-- the laws of lines, in the words of this file
abbrev pub Loses : Type 0
Loses = (line : List ℕ) → length line ≤ length (strip_carriage_return line) + 1

abbrev pub PassesFirst : Type 0
PassesFirst = (w : Waiting) (pending : List ℕ) (end : ℕ) → Holds w pending → EndsFirst w.bytes end → PassesLine w pending end

abbrev pub PassedLine : Type 0
PassedLine = (taken : List ℕ) (passed : List (List ℕ)) (pending line rest : List ℕ) → Passed taken passed pending → IsFirstLine pending line rest → Passed taken (passed ++ strip_carriage_return line ∷ []) rest

pub given_as : (loses : Loses) (w : Waiting) (front line : List ℕ) → (w.long ≡ false → line ≡ front) → (w.long ≡ true → 1048577 < length line) → read_desk_line (strip_carriage_return line) ≡ read_desk_line (given_line w front)
given_as loses w front line whole many = at w.long refl
  where
    at : (b : Bool) → w.long ≡ b → read_desk_line (strip_carriage_return line) ≡ read_desk_line (if b then [] else strip_carriage_return front)
    at true is = too_long (strip_carriage_return line) (omega (arith, many is, loses line))
    at false is = ap (λ (l : List ℕ). read_desk_line (strip_carriage_return l)) (whole is)

-- ---- leading on

pub stays : (index : IndexData) (w : Waiting) (state : DeskState) → Moves index w w state state [] 0
stays index w state frames taken said scored s =
    subst (λ (t : List ℕ). Standing index frames taken t (scored + 0) w state) (sym (append-nil said)) (let none : scored ≡ scored + 0 = omega arith in subst (λ (n : ℕ). Standing index frames taken said n w state) none s)

pub then_leads : (P : ℕ → List ℕ → List ℕ → ℕ → Type 0) (index : IndexData) (w new : Waiting) (state after : DeskState) (first second : List ℕ) (n m : ℕ) → Moves index w new state after first n → Leads index new after second m P
    → Leads index w state (first ++ second) (n + m) P
then_leads P index w new state after first second n m moves leads frames taken said scored s =
    subst (λ (t : List ℕ). P frames taken t (scored + (n + m))) (append_assoc said first second)
    (let sum : scored + n + m ≡ scored + (n + m) = omega arith in subst (λ (k : ℕ). P frames taken ((said ++ first) ++ second) k) sum (leads frames taken (said ++ first) (scored + n) (moves frames taken said scored s)))

-- ---- one line

pub replies_given : (index : IndexData) (state : DeskState) (actual line : List ℕ) (rest : List (List ℕ)) → read_desk_line actual ≡ read_desk_line line → is_end line ≡ false
    → text_from index state (actual ∷ rest) ≡ desk_reply index state line ++ text_from index (desk_after index state line) rest
replies_given index state actual line rest same on = replies_more index state actual rest (same_end actual line same ∙ on)
    ∙ ap (λ (t : List ℕ). t ++ text_from index (desk_after index state actual) rest) (same_reply index state actual line same)
    ∙ ap (λ (s : DeskState). desk_reply index state line ++ text_from index s rest) (same_after index state actual line same)

pub steps_given : (index : IndexData) (state : DeskState) (actual line : List ℕ) (rest : List (List ℕ)) → read_desk_line actual ≡ read_desk_line line → is_end line ≡ false
    → steps_from index state (actual ∷ rest) ≡ desk_steps index state line + steps_from index (desk_after index state line) rest
steps_given index state actual line rest same on = steps_more index state actual rest (same_end actual line same ∙ on)
    ∙ ap (λ (n : ℕ). n + steps_from index (desk_after index state actual) rest) (same_steps index state actual line same)
    ∙ ap (λ (s : DeskState). desk_steps index state line + steps_from index s rest) (same_after index state actual line same)

pub replies_ended : (index : IndexData) (state : DeskState) (actual line : List ℕ) (rest : List (List ℕ)) → read_desk_line actual ≡ read_desk_line line → is_end line ≡ true → text_from index state (actual ∷ rest) ≡ desk_reply index state line
replies_ended index state actual line rest same last = replies_last index state actual rest (same_end actual line same ∙ last) ∙ same_reply index state actual line same

pub steps_ended : (index : IndexData) (state : DeskState) (actual line : List ℕ) (rest : List (List ℕ)) → read_desk_line actual ≡ read_desk_line line → is_end line ≡ true → steps_from index state (actual ∷ rest) ≡ desk_steps index state line
steps_ended index state actual line rest same last =
    let sum = steps_last index state actual rest (same_end actual line same ∙ last) in
    let is = same_steps index state actual line same in
    omega (arith, sum, is)

still_endless : (lines : List (List ℕ)) (line : List ℕ) → has_end lines ≡ false → is_end line ≡ false → has_end (lines ++ line ∷ []) ≡ false
still_endless [] line none other = ap (λ (b : Bool). b || false) other
still_endless (x ∷ lines) line none other = at (is_end x) refl (λ rest. still_endless lines line rest other)
  where
    at : (b : Bool) → is_end x ≡ b → (has_end lines ≡ false → has_end (lines ++ line ∷ []) ≡ false) → (is_end x || has_end (lines ++ line ∷ [])) ≡ false
    at true is on = (let bad : true ≡ false = sym (ap (λ (b : Bool). b || has_end lines) is) ∙ none in cc)
    at false is on = ap (λ (b : Bool). b || has_end (lines ++ line ∷ [])) is ∙ on (sym (ap (λ (b : Bool). b || has_end lines) is) ∙ none)

end_there : (lines : List (List ℕ)) (line : List ℕ) (more : List (List ℕ)) → is_end line ≡ true → has_end (lines ++ line ∷ more) ≡ true
end_there [] line more is = ap (λ (b : Bool). b || has_end more) is
end_there (x ∷ lines) line more is = at (is_end x) refl (end_there lines line more is)
  where
    at : (b : Bool) → is_end x ≡ b → has_end (lines ++ line ∷ more) ≡ true → (is_end x || has_end (lines ++ line ∷ more)) ≡ true
    at true e later = ap (λ (b : Bool). b || has_end (lines ++ line ∷ more)) e
    at false e later = ap (λ (b : Bool). b || has_end (lines ++ line ∷ more)) e ∙ later

-- what stands is the front of what is said in the end
pub standing_front : (index : IndexData) (frames : ℕ) (w : Waiting) (state : DeskState) (taken said : List ℕ) (scored : ℕ) → Standing index frames taken said scored w state → IsFront index frames taken said scored
standing_front index frames w state taken said scored s more = record {
  others = text_from index state (lines_of (s.pending ++ more));
  replies = ap (desk_replies index frames) (s.here.lines more) ∙ s.replies (lines_of (s.pending ++ more));
  steps = (let sum = ap (desk_postings index frames) (s.here.lines more) ∙ s.steps (lines_of (s.pending ++ more)) in omega (arith, sum));
}

finished_front : (index : IndexData) (frames : ℕ) (taken said : List ℕ) (scored : ℕ) → Finished index frames taken said scored → IsFront index frames taken said scored
finished_front index frames taken said scored f more = record {
  others = [];
  replies = f.replies more ∙ sym (append-nil said);
  steps = (let sum = f.steps more in omega (arith, sum));
}

module _ (loses : Loses) (passes : PassesFirst) (passed_line : PassedLine) where
  -- the line as it stands, and as it is given to the desk
  same_line : (w : Waiting) (pending line : List ℕ) (end : ℕ) → (p : PassesLine w pending end) → line ≡ given_line w (take end w.bytes) → read_desk_line (strip_carriage_return p.line) ≡ read_desk_line line
  same_line w pending line end p is = given_as loses w (take end w.bytes) p.line p.whole p.many ∙ ap read_desk_line (sym is)

  pub line_moves : (index : IndexData) (w : Waiting) (state : DeskState) (end : ℕ) (line : List ℕ) → EndsFirst w.bytes end → line ≡ given_line w (take end w.bytes) → is_end line ≡ false
      → Moves index w (passed_to end w) state (desk_after index state line) (desk_reply index state line) (desk_steps index state line)
  line_moves index w state end line first is on frames taken said scored s =
      let p = passes w s.pending end s.holds first in let actual = strip_carriage_return p.line in
      let same = same_line w s.pending line end p is in
      record {
        passed = s.passed ++ actual ∷ [];
        pending = drop (end + 1) w.bytes;
        here = passed_line taken s.passed s.pending p.line (drop (end + 1) w.bytes) s.here p.first;
        holds = p.holds;
        counted = s.counted;
        endless = still_endless s.passed actual s.endless (same_end actual line same ∙ on);
        replies = λ rest. ap (desk_replies index frames) (append_assoc s.passed (actual ∷ []) rest) ∙ s.replies (actual ∷ rest) ∙ ap (λ (t : List ℕ). said ++ t) (replies_given index state actual line rest same on)
            ∙ sym (append_assoc said (desk_reply index state line) (text_from index (desk_after index state line) rest));
        steps = λ rest. (let one = ap (desk_postings index frames) (append_assoc s.passed (actual ∷ []) rest) ∙ s.steps (actual ∷ rest) in
            let two = steps_given index state actual line rest same on in omega (arith, one, two));
      }

  pub line_finishes : (index : IndexData) (w : Waiting) (state : DeskState) (end : ℕ) (line : List ℕ) → EndsFirst w.bytes end → line ≡ given_line w (take end w.bytes) → is_end line ≡ true
      → Leads index w state (desk_reply index state line) (desk_steps index state line) (Finished index)
  line_finishes index w state end line first is last frames taken said scored s =
      let p = passes w s.pending end s.holds first in let actual = strip_carriage_return p.line in
      let same = same_line w s.pending line end p is in
      let after = passed_line taken s.passed s.pending p.line (drop (end + 1) w.bytes) s.here p.first in
      let lines = λ (more : List ℕ). after.lines more ∙ append_assoc s.passed (actual ∷ []) (lines_of (drop (end + 1) w.bytes ++ more)) in
      record {
        size = omega (arith, s.counted);
        ended = λ more. ap has_end (after.ended more ∙ append_assoc s.passed (actual ∷ []) (ended_lines (drop (end + 1) w.bytes ++ more))) ∙ end_there s.passed actual (ended_lines (drop (end + 1) w.bytes ++ more)) (same_end actual line same ∙ last);
        replies = λ more. ap (desk_replies index frames) (lines more) ∙ s.replies (actual ∷ lines_of (drop (end + 1) w.bytes ++ more))
            ∙ ap (λ (t : List ℕ). said ++ t) (replies_ended index state actual line (lines_of (drop (end + 1) w.bytes ++ more)) same last);
        steps = λ more. (let one = ap (desk_postings index frames) (lines more) ∙ s.steps (actual ∷ lines_of (drop (end + 1) w.bytes ++ more)) in
            let two = steps_ended index state actual line (lines_of (drop (end + 1) w.bytes ++ more)) same last in omega (arith, one, two));
      }

  pub line_cuts : (index : IndexData) (w : Waiting) (state : DeskState) (end : ℕ) (line : List ℕ) → EndsFirst w.bytes end → line ≡ given_line w (take end w.bytes)
      → Leads index w state (desk_reply index state line) (desk_steps index state line) (IsFront index)
  line_cuts index w state end line first is frames taken said scored s = at (is_end line) refl
    where
      at : (b : Bool) → is_end line ≡ b → IsFront index frames taken (said ++ desk_reply index state line) (scored + desk_steps index state line)
      at true last = finished_front index frames taken (said ++ desk_reply index state line) (scored + desk_steps index state line) (line_finishes index w state end line first is last frames taken said scored s)
      at false on = standing_front index frames (passed_to end w) (desk_after index state line) taken (said ++ desk_reply index state line) (scored + desk_steps index state line) (line_moves index w state end line first is on frames taken said scored s)

-- ---- how a line went

pub goes_on : (went : Went) (b : Bool) → went ≡ wents.On → (went ≡ wents.End ↔ IsTrue b) → b ≡ false
goes_on went true is if_end = (let bad : wents.On ≡ wents.End = sym is ∙ if_end.1 refl in cc)
goes_on went false is if_end = refl

pub goes_last : (went : Went) (b : Bool) → went ≡ wents.End → (went ≡ wents.End ↔ IsTrue b) → b ≡ true
goes_last went true is if_end = refl
goes_last went false is if_end = (let bad : IsTrue false = if_end.0 is in cc)

-- a line that takes memory scores nothing
pub opening_steps : (index : IndexData) (state : DeskState) (line : List ℕ) → IsTrue (may_want_memory state line) → desk_steps index state line ≡ 0
unfolding may_want_memory desk_steps
opening_steps index state line wants = at (read_desk_line line) wants
  where
    at : (c : Option DeskCommand) → IsTrue (may_take_memory state c) → steps_of index state c ≡ 0
    at None wants = cc
    at (Some (Open name k words)) wants = refl
    at (Some other) wants = cc

-- ---- several lines

goes_then : {E : Type 0} (result : Result Went E) (index : IndexData) (w mid new : Waiting) (state between after : DeskState) (first second : List ℕ) (n m : ℕ) → Moves index w mid state between first n
    → Goes index mid new between after second m result → Goes index w new state after (first ++ second) (n + m) result
goes_then (Ok wents.On) index w mid new state between after first second n m moves goes = then_leads (λ frames taken said scored. Standing index frames taken said scored new after) index w mid state between first second n m moves goes
goes_then (Ok wents.NoMemory) index w mid new state between after first second n m moves goes = then_leads (λ frames taken said scored. Standing index frames taken said scored new after) index w mid state between first second n m moves goes
goes_then (Ok wents.End) index w mid new state between after first second n m moves goes = then_leads (Finished index) index w mid state between first second n m moves goes
goes_then (Err fault) index w mid new state between after first second n m moves goes = then_leads (IsFront index) index w mid state between first second n m moves goes

module _ {S : Type 0} {written : S → Option (List ℕ)} {faults : S → ℕ} {rest : S → Rest} where
  pub answers_none : (out : S) (before : List ℕ) (steps : ℕ) (index : IndexData) (w : Waiting) (state : DeskState) → AnswersLines written faults rest out out before before steps steps index w w state state (Ok wents.On)
  answers_none out before steps index w state = record { text = []; scored = 0; side = side_none out before wents.On; counted = omega arith; goes = stays index w state }

  pub answers_as : {old out : S} {before after : List ℕ} {steps later : ℕ} {index : IndexData} {w u : Waiting} {state last : DeskState} {told went : Went} → told ≡ went
      → AnswersLines written faults rest old out before after steps later index w u state last (Ok told) → AnswersLines written faults rest old out before after steps later index w u state last (Ok went)
  answers_as {old} {out} {before} {after} {steps} {later} {index} {w} {u} {state} {last} is a =
      subst (λ (went : Went). AnswersLines written faults rest old out before after steps later index w u state last (Ok went)) is a

  pub told_reply : {old new : S} {before after : List ℕ} {told went : Went} (reply : List ℕ) → told ≡ went
      → Gathers {E = WriteFault} written faults rest old new before after (text_where {E = WriteFault} (Ok told) reply) (Ok told)
      → Gathers {E = WriteFault} written faults rest old new before after (text_where {E = WriteFault} (Ok went) reply) (Ok went)
  told_reply {old} {new} {before} {after} reply is gathers =
      subst (λ (went : Went). Gathers {E = WriteFault} written faults rest old new before after (text_where {E = WriteFault} (Ok went) reply) (Ok went)) is gathers

  pub answers_then : {old mid new : S} {before between after : List ℕ} {steps more later : ℕ} {index same : IndexData} {w v u : Waiting} {state left last : DeskState} {result : Result Went WriteFault} → same ≡ index
      → AnswersLines written faults rest old mid before between steps more index w v state left (Ok wents.On) → AnswersLines written faults rest mid new between after more later same v u left last result
      → AnswersLines written faults rest old new before after steps later index w u state last result
  answers_then {index = index} {w = w} {v} {u} {state} {left} {last} {result} is one two = record {
    text = one.text ++ two.text;
    scored = one.scored + two.scored;
    side = side_then one.text two.text one.side two.side;
    counted = omega (arith, one.counted, two.counted);
    goes = goes_then result index w v u state left last one.text two.text one.scored two.scored one.goes (subst (λ (f : IndexData). Goes f v u left last two.text two.scored result) is two.goes);
  }

-- ---- what was gathered is flushed

module _ {S E : Type 0} {written : S → Option (List ℕ)} {faults : S → ℕ} {rest : S → Rest} {mine : E} where
  pub side_flushed : {T U V F : Type 0} {old mid new : S} {before between text : List ℕ} {u : U} {v : V} (t : T) → Side written faults rest mine old mid before between text (Ok u) → Wrote {E = F} written faults rest mid new between (Ok v) → Side written faults rest mine old new before [] text (Ok t)
  side_flushed {old = old} {mid} {new} {before} {between} {text} t done last = side_same (append-nil text) (side_then text [] done (record {
    bytes = (between, last.bytes, refl);
    later = last.cause.later;
    failed = tt;
    rest_stays = last.rest_stays;
  }))

  pub side_unflushed : {T U V F : Type 0} {old mid new : S} {before between text : List ℕ} {u : U} {f : F} (e : E)
      → Side written faults rest mine old mid before between text (Ok u) → Wrote {T = V} written faults rest mid new between (Err f)
      → Side {T = T} written faults rest mine old new before [] text (Err e)
  side_unflushed {old = old} {mid} {new} {before} {between} {text} e done last = side_same (append-nil text) (side_then text [] done (record {
    bytes = (last.bytes.0, subst (λ (t : List ℕ). Appends (written mid) (written new) (take last.bytes.0 t)) (sym (append-nil between)) last.bytes.1);
    later = last.cause.later;
    failed = (λ is. last.cause.failed);
    rest_stays = last.rest_stays;
  }))

goes_cut : {E : Type 0} (went : Went) (fault : E) (index : IndexData) (w new : Waiting) (state after : DeskState) (text : List ℕ) (n : ℕ) → Goes {E = E} index w new state after text n (Ok went) → Goes index w new state after text n (Err fault)
goes_cut wents.On fault index w new state after text n moves frames taken said scored s = standing_front index frames new after taken (said ++ text) (scored + n) (moves frames taken said scored s)
goes_cut wents.NoMemory fault index w new state after text n moves frames taken said scored s = standing_front index frames new after taken (said ++ text) (scored + n) (moves frames taken said scored s)
goes_cut wents.End fault index w new state after text n leads frames taken said scored s = finished_front index frames taken (said ++ text) (scored + n) (leads frames taken said scored s)

module _ {S : Type 0} {written : S → Option (List ℕ)} {faults : S → ℕ} {rest : S → Rest} where
  pub answers_flushed : {U F : Type 0} (old mid new : S) (before between : List ℕ) (steps later : ℕ) (index : IndexData) (w u : Waiting) (state last : DeskState) (went : Went) {v : U}
      → AnswersLines written faults rest old mid before between steps later index w u state last (Ok went) → Wrote {E = F} written faults rest mid new between (Ok v)
      → AnswersLines written faults rest old new before [] steps later index w u state last (Ok went)
  answers_flushed old mid new before between steps later index w u state last went one flushed = record { text = one.text; scored = one.scored; side = side_flushed went one.side flushed; counted = one.counted; goes = one.goes }

  pub answers_unflushed : {U F : Type 0} (old mid new : S) (before between : List ℕ) (steps later : ℕ) (index : IndexData) (w u : Waiting) (state last : DeskState) (went : Went) {f : F} (fault : WriteFault)
      → AnswersLines written faults rest old mid before between steps later index w u state last (Ok went) → Wrote {T = U} written faults rest mid new between (Err f)
      → AnswersLines written faults rest old new before [] steps later index w u state last (Err fault)
  answers_unflushed old mid new before between steps later index w u state last went fault one flushed = record {
    text = one.text;
    scored = one.scored;
    side = side_unflushed fault one.side flushed;
    counted = one.counted;
    goes = goes_cut went fault index w u state last one.text one.scored one.goes;
  }

  -- after a failure it doesn't matter what is left in the buffer
  pub answers_failed : (old new : S) (before after : List ℕ) (steps later : ℕ) (index : IndexData) (w u : Waiting) (state last : DeskState) (fault : WriteFault) → AnswersLines written faults rest old new before after steps later index w u state last (Err fault)
      → AnswersLines written faults rest old new before [] steps later index w u state last (Err fault)
  answers_failed old new before after steps later index w u state last fault one = record {
    text = one.text;
    scored = one.scored;
    side = record { bytes = one.side.bytes; later = one.side.later; failed = one.side.failed; rest_stays = one.side.rest_stays };
    counted = one.counted;
    goes = one.goes;
  }

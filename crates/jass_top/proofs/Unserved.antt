-- How `serve` ran, from how lines were served, or where none was.
use Rattle.shared_lemmas.proofs.Common.{◌≡◌, ◌∙◌, ℕ, List, [], ◌∷◌, true, false, Option, Result, Ok, Err, inr, refl, sym, ap, subst, arith, Consumes, Consumes-nil}
use Rattle.jass_top.proofs.Below.{Files, FileView, IndexData, ended_lines}
use Rattle.jass_top.specs.Endings.{Does, Over}
use Rattle.jass_top.specs.Private.Causes.{Came, Runs, Unread}
use Rattle.jass_top.specs.IndexJudging.{judge_held, judge_index}
use Rattle.jass_top.specs.Judging.{Accepted, Shows}
use Rattle.jass_top.specs.Private.ServeRuns.{Served}
use Rattle.jass_top.specs.ServeMeaning.{Replies, ServesFirst, ServesFront, ServesPart, ServesTaken, lines_taken, serve_meaning}
use Rattle.jass_top.specs.Standing.{Keeps, TakesFront}
use Rattle.jass_top.specs.Worlds.{Outer}
use Rattle.jass_top.specs.declared.serve_stop.ServeStop.{ServeStop}
use Rattle.jass_top.specs.declared.serve_stop.ServeStop.TheVariants as stops
use Rattle.jass_top.specs.declared.stop.Stop.{Stop}
use Rattle.jass_top.proofs.Behind.{shown_then, unread_first}
use Rattle.jass_top.proofs.Stopping.{stopped_unread}

-- nothing was taken
takes_none : (before after : Option (List ℕ)) → after ≡ before → TakesFront before after
takes_none before after same = ([], subst (λ (left : Option (List ℕ)). Consumes before left []) (sym same) (Consumes-nil before), omega arith)

-- files and the output and the feed were taken
pub ran : (index : List ℕ) (frames : ℕ) (before after : Outer) (result : Result (Unit {0}) Stop) → after.out_rest ≡ before.out_rest → TakesFront before.left after.left → Came (serve_meaning index frames) before after result
    → Runs (serve_meaning index frames) before after result
ran index frames before after result rest taken came = record {
  came = came;
  untouched = record {
    no_files = λ none file. (let bad : index ∷ [] ≡ [] = none in cc);
    no_output = λ none. (let bad : true ≡ false = none in cc);
    no_feed = λ none. (let bad : true ≡ false = none in cc);
    rest = rest;
  };
  taken = λ feeds. taken;
}

-- the index wasn't had, or there was no memory before any line
pub runs_unserved : (index : List ℕ) (frames : ℕ) (before after : Outer) (stop : Stop) → Unread (index ∷ []) (judge_index index before.told) before.read_faults after.read_faults stop
    → Keeps before after → after.out_rest ≡ before.out_rest → Runs (serve_meaning index frames) before after (Err stop)
runs_unserved index frames before after stop unread keeps rest =
    ran index frames before after (Err stop) rest (takes_none before.left after.left keeps.left) (stopped_unread (serve_meaning index frames) before after stop refl keeps
    (unread_first index [] (judge_index index before.told) (λ v. Accepted v.index) before.read_faults after.read_faults stop unread))

-- the index of a file that was opened
pub held_shown : (name : List ℕ) (told : Option Files) (file : FileView) → Shows (judge_index name told) (Accepted file) → Shows (judge_held name told) (Accepted file.index)
held_shown name told file shows = shown_then (judge_index name told) file (λ v. Accepted v.index) (Accepted file.index) shows (inr refl)

-- a file was opened, and the lines were served over its index
module _ (index : List ℕ) (frames : ℕ) (before after : Outer) (told : Option Files) (read write : ℕ) (same : told ≡ before.told) (held : IndexData) (accepted : Shows (judge_held index before.told) (Accepted held)) where
  abbrev pub opened : Outer
  opened = record before { told = told; read_faults = read; write_faults = write }

  replies : (lines : List (List ℕ)) → Replies held frames lines opened after → Replies held frames lines before after
  replies lines is = record { told = is.told ∙ same; text = is.text; scored = is.scored }

  pub did_all : {T : Type 0} {t : T} → Served held frames opened after (Ok t) → Does (serve_meaning index frames) before after
  did_all served = record {
    inputs = held;
    input = served.serves.input;
    output = served.serves.output;
    accepted = accepted;
    had = λ feeds. served.serves.had;
    exact = served.serves.exact;
    left = record { content = served.serves.left.content ∙ same; text = served.serves.left.text; steps = served.serves.left.steps };
  }

  pub did_first : {T : Type 0} → Served {T = T} held frames opened after (Err stops.NoMemory) → Over (serve_meaning index frames) (ServesFirst frames) before after
  did_first served = (let is = served.serves in record {
    inputs = held;
    accepted = accepted;
    stands = record { input = is.input; had = is.had; first = is.first; others = is.others; lines = is.lines; replies = replies is.first is.replies };
  })

  pub did_taken : {T : Type 0} → Served {T = T} held frames opened after (Err stops.ReadFault) → Over (serve_meaning index frames) (ServesTaken frames) before after
  did_taken served = (let is = served.serves in record {
    inputs = held;
    accepted = accepted;
    stands = record { taken = is.taken; consumed = is.consumed; replies = replies (ended_lines is.taken) is.replies };
  })

  pub did_part : {T : Type 0} → Served {T = T} held frames opened after (Err stops.WriteFault) → Over (serve_meaning index frames) (ServesPart frames) before after
  did_part served = (let is = served.serves in record {
    inputs = held;
    accepted = accepted;
    stands = record {
      earlier = is.earlier;
      last = is.last;
      one_read = is.one_read;
      consumed = is.consumed;
      told = is.told ∙ same;
      sent = is.sent;
      text = is.text;
      whole = is.whole;
      part = is.part;
      steps = record { never_less = is.steps.never_less; at_most = is.steps.at_most };
    };
  })

  pub did_front : {T : Type 0} → Served {T = T} held frames opened after (Err stops.Limit) → Over (serve_meaning index frames) (ServesFront frames) before after
  did_front served = (let is = served.serves in record {
    inputs = held;
    accepted = accepted;
    stands = record { input = is.input; had = is.had; consumed = is.consumed; long = is.long; endless = is.endless; replies = replies (lines_taken is.input) is.replies };
  })

-- the desk is over that index, and has so many frames
pub served_as : {T : Type 0} {held other : IndexData} {frames some : ℕ} {x y : Outer} {result : Result T ServeStop} → other ≡ held → some ≡ frames → Served other some x y result → Served held frames x y result
served_as {held = held} {some = some} {x} {y} {result} is many served =
    subst (λ (n : ℕ). Served held n x y result) many (subst (λ (v : IndexData). Served v some x y result) is served)

pub stopped_as : {T : Type 0} {held : IndexData} {frames : ℕ} {x y : Outer} {result : Result T ServeStop} {one other : ServeStop} → result ≡ Err one → one ≡ other → Served held frames x y result → Served {T = T} held frames x y (Err other)
stopped_as {T} {held} {frames} {x} {y} is same served = subst (λ (r : Result T ServeStop). Served held frames x y r) (is ∙ ap Err same) served

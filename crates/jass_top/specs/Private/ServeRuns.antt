-- How lines are served, and why serving stops.
use Rattle.std.specs.Prelude.{ℕ, ◌≡◌, ◌≤◌, List, None, Result, Ok, Err, IfErr}
use Rattle.jass_base.specs.Outside.{Rose}
use Rattle.index_model.specs.Index.{IndexData}
use Rattle.jass_top.specs.Meanings.{Output}
use Rattle.jass_top.specs.Standing.{IsInput, Leaves, TakesFront}
use Rattle.jass_top.specs.ServeMeaning.{IsServeOutput, ServesFirst, ServesTaken, ServesPart, ServesFront}
use Rattle.jass_top.specs.Worlds.{Outer}
use Rattle.jass_top.specs.declared.serve_stop.ServeStop.{ServeStop}
use Rattle.jass_top.specs.declared.serve_stop.ServeStop.TheVariants as stops

-- all lines were answered
pub record ServesAll (frames : ℕ) (index : IndexData) (before after : Outer) : Type 0 where
  pub input : List ℕ
  pub output : Output
  pub had : IsInput before.left input
  pub exact : IsServeOutput frames index input output
  pub left : Leaves None before after output

-- how the lines of an input were served
abbrev pub Serves : {T : Type 0} → ℕ → IndexData → Outer → Outer → Result T ServeStop → Type 0
Serves frames index before after (Ok x) = ServesAll frames index before after
Serves frames index before after (Err stops.NoMemory) = ServesFirst frames index before after
Serves frames index before after (Err stops.ReadFault) = ServesTaken frames index before after
Serves frames index before after (Err stops.WriteFault) = ServesPart frames index before after
Serves frames index before after (Err stops.Limit) = ServesFront frames index before after

-- how they were served on an output
pub record Served {T : Type 0} (index : IndexData) (frames : ℕ) (before after : Outer) (result : Result T ServeStop) : Type 0 where
  pub serves : Serves frames index before after result
  pub taken : TakesFront before.left after.left
  pub never_less : before.out_faults ≤ after.out_faults
  pub failed : IfErr result (λ e. e ≡ stops.WriteFault → Rose before.out_faults after.out_faults)
  pub rest_stays : after.out_rest ≡ before.out_rest

-- How a run of any command ends, from how the command ran.
use Rattle.std.proofs.Common.{◌≡◌, List, ℕ, Ok, Err, inl, inr, subst}
use Rattle.jass_top.specs.declared.stop.Stop.{Stop}
use Rattle.jass_top.specs.declared.stop.Stop.TheVariants as stops
use Rattle.jass_top.specs.declared.status.Status.TheVariants as status
use Rattle.jass_top.specs.Meanings.{Meaning}
use Rattle.jass_top.specs.Private.Causes.{Runs}
use Rattle.jass_top.specs.Endings.{Noted, Ends}
use Rattle.jass_top.specs.Private.Stops.{status_of, stop_text}
use Rattle.jass_top.specs.Stops.{read_fault_text}
use Rattle.jass_top.specs.Worlds.{World}

pub ends_done : (m : Meaning) (before after : World) → Runs m before.outer after.outer (Ok tt) → after.noted ≡ before.noted → after.note_faults ≡ before.note_faults → after.note_rest ≡ before.note_rest → Ends m before after status.Done
ends_done m before after runs quiet note_faults note_rest = record {
  done = λ is. record { does = runs.came; quiet = quiet; note_faults = note_faults };
  memory = λ is. cc;
  refused = λ is. cc;
  read = λ is. cc;
  write = λ is. cc;
  limit = λ is. cc;
  words = λ is. cc;
  untouched = runs.untouched;
  taken = runs.taken;
  note_rest = note_rest;
}

pub ends_stopped : (m : Meaning) (before after : World) (stop : Stop) → Runs m before.outer after.outer (Err stop) → Noted before after (stop_text stop) → after.note_rest ≡ before.note_rest → Ends m before after (status_of stop)
ends_stopped m before after stops.NoMemory runs noted note_rest = record {
  done = λ is. cc;
  memory = λ is. record { noted = noted; stands = runs.came };
  refused = λ is. cc;
  read = λ is. cc;
  write = λ is. cc;
  limit = λ is. cc;
  words = λ is. cc;
  untouched = runs.untouched;
  taken = runs.taken;
  note_rest = note_rest;
}
ends_stopped m before after (stops.Refused name number at) runs noted note_rest = record {
  done = λ is. cc;
  memory = λ is. cc;
  refused = λ is. record { name = name.now; number = number; at = at; input = runs.came.0; first = runs.came.1; noted = noted; kept = runs.came.2 };
  read = λ is. cc;
  write = λ is. cc;
  limit = λ is. cc;
  words = λ is. cc;
  untouched = runs.untouched;
  taken = runs.taken;
  note_rest = note_rest;
}
ends_stopped m before after (stops.ReadFault name) runs noted note_rest = record {
  done = λ is. cc;
  memory = λ is. cc;
  refused = λ is. cc;
  read = λ is. elim runs.came [
    | inl file ↦ inl (record { name = name.now; input = file.input; cause = file.cause; noted = noted; stands = file.stands })
    | inr feed ↦ inr (record { feeds = feed.feeds; cause = feed.cause; noted = subst (λ (n : List ℕ). Noted before after (read_fault_text n)) feed.named noted; stands = feed.stands })
  ];
  write = λ is. cc;
  limit = λ is. cc;
  words = λ is. cc;
  untouched = runs.untouched;
  taken = runs.taken;
  note_rest = note_rest;
}
ends_stopped m before after (stops.WriteFault name) runs noted note_rest = record {
  done = λ is. cc;
  memory = λ is. cc;
  refused = λ is. cc;
  read = λ is. cc;
  write = λ is. record { name = name.now; cause = runs.came.0; noted = noted; stands = runs.came.1 };
  limit = λ is. cc;
  words = λ is. cc;
  untouched = runs.untouched;
  taken = runs.taken;
  note_rest = note_rest;
}
ends_stopped m before after stops.InputLimit runs noted note_rest = record {
  done = λ is. cc;
  memory = λ is. cc;
  refused = λ is. cc;
  read = λ is. cc;
  write = λ is. cc;
  limit = λ is. record { noted = noted; stands = runs.came };
  words = λ is. cc;
  untouched = runs.untouched;
  taken = runs.taken;
  note_rest = note_rest;
}

-- A file that was created and then written through a sink.
use Rattle.std.proofs.Common.{◌≤◌, ℕ, List, [], Option, Result, Ok, Err, arith}
use Rattle.jass_top.proofs.Below.{Files, Sets, Rose-earlier}
use Rattle.jass_top.specs.Private.RunFiles.{WroteFile, WroteBehind}
use Rattle.jass_top.proofs.MadeFiles.{written, written_part}

pub wrote_file : {S T E : Type 0} {told : S → Option Files} {faults : S → ℕ} {mine : E} (old mid new : S) (name text : List ℕ) (result : Result T E) → Sets (told old) (told mid) name [] → faults old ≤ faults mid
    → WroteBehind told faults mine mid new name text result → WroteFile told faults mine old new name text result
wrote_file {told = told} old mid new name text (Ok x) made first done =
    record { content = written (told old) (told mid) (told new) name text made done.put done.others; later = omega (arith, first, done.later); failed = tt }
wrote_file {told = told} {faults} old mid new name text (Err e) made first done =
    record { content = written_part (told old) (told mid) (told new) name text made done.put done.others; later = omega (arith, first, done.later); failed = (λ is. Rose-earlier (faults old) (faults mid) (faults new) first (done.failed is)) }

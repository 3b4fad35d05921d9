-- A file whose messages are read through a window.
use Rattle.std.proofs.Common.{◌≡◌, ℕ, ◌+◌, ◌-◌, ◌^◌, ◌<◌, ◌≤◌, List, length, drop, Result, Ok, Err, refl, sym, ap, subst, arith}
use Rattle.ciff_read.proofs.Below.{WireWhy, ReadsVarint, varint_at}
use Rattle.ciff_read.specs.declared.refusal.CiffWhy.TheVariants.{Cut, Limit}
use Rattle.ciff_read.specs.declared.refusal.CiffRefusal.{CiffRefusal}
use Rattle.ciff_read.specs.declared.refusal.CiffFault.{CiffFault}
use Rattle.ciff_read.specs.declared.refusal.CiffFault.TheVariants as faults
use Rattle.whole_files.specs.declared.window.Window.{Window}
use Rattle.ciff_read.specs.Reaching.{FailsReading}
use Rattle.ciff_read.specs.Plain.{IsPlain}
use Rattle.ciff_read.specs.Private.Reaching.{ReadsSize, HoldsMessage}
use Rattle.ciff_read.specs.Reading.{message_at}
use Rattle.ciff_read.specs.Refusals.{Fails, why_of}
use Rattle.ciff_read.specs.Walk.{IsOutside}
use Rattle.whole_files.specs.Windows.{Shows, IsAt, Reaches}
use Rattle.ciff_read.proofs.HeldMessages.{size_there, size_bad, message_held, message_short}
use Rattle.ciff_read.proofs.Messages.{message_bad, message_over}

pub reading_fails : {A : Type 0} (answer : CiffFault) (read : Result A CiffRefusal) → Fails answer read → FailsReading answer read
reading_fails (faults.Refused refusal) read fails = fails
reading_fails faults.ReadFault read fails = tt
reading_fails faults.NoMemory read fails = tt

-- a fault of the world is in place of any reading, and says no change
pub outside_fails : {A : Type 0} (fault : CiffFault) (read : Result A CiffRefusal) → IsOutside fault → FailsReading fault read
outside_fails (faults.Refused refusal) read outside = absurd outside
outside_fails faults.ReadFault read outside = tt
outside_fails faults.NoMemory read outside = tt

pub outside_plain : (fault : CiffFault) → IsOutside fault → IsPlain fault
outside_plain (faults.Refused refusal) outside = absurd outside
outside_plain faults.ReadFault outside = tt
outside_plain faults.NoMemory outside = tt

pub reading_refuses : {A : Type 0} (answer : CiffFault) (refusal : CiffRefusal) (read : Result A CiffRefusal) → answer ≡ faults.Refused refusal → read ≡ Err refusal → FailsReading answer read
reading_refuses answer refusal read says is = subst (λ (e : CiffFault). FailsReading e read) (sym says) is

-- the length of a message
pub size_ok : (content : List ℕ) (w : Window) (at : ℕ) (x : ℕ × ℕ) (bytes : List ℕ) → Shows content w → IsAt at w → bytes ≡ w.bytes.items → ReadsVarint bytes (at - w.start) (Ok x) → ReadsSize content at (Ok (x.0, w.start + x.1))
size_ok content w at x bytes shows place same read =
    let there : varint_at (drop (at - w.start) w.bytes.items) ≡ Ok (x.0, drop x.1 w.bytes.items) = subst (λ (s : List ℕ). varint_at (drop (at - w.start) s) ≡ Ok (x.0, drop x.1 s)) same read.0 in
    size_there content w.bytes.items w.start shows at place.not_before place.not_behind x.1 x.0 there read.1 (omega (arith, read.2, ap length same))

pub size_not : (content : List ℕ) (w : Window) (at : ℕ) (why : WireWhy) (bytes : List ℕ) (answer : CiffFault) → Shows content w → Reaches content w at 10 → IsAt at w → bytes ≡ w.bytes.items
    → varint_at (drop (at - w.start) bytes) ≡ Err why → answer ≡ faults.Refused (record { at = at; why = why_of why }) → FailsReading answer (message_at at (drop at content))
size_not content w at why bytes answer shows reached place same read says =
    let bad : varint_at (drop (at - w.start) w.bytes.items) ≡ Err why = subst (λ (s : List ℕ). varint_at (drop (at - w.start) s) ≡ Err why) same read in
    reading_fails answer (message_at at (drop at content))
    (message_bad at (drop at content) (record { at = at; why = why }) answer (size_bad content w.bytes.items w.start shows at place.not_before place.not_behind why reached bad) refl says)

module _ (content : List ℕ) (at : ℕ) (x : ℕ × ℕ) (read : ReadsSize content at (Ok x)) (before : at < x.1) where
  pub message_past : (answer : CiffFault) → 2 ^ 32 < x.1 + x.0 → answer ≡ faults.Refused (record { at = at; why = Limit }) → FailsReading answer (message_at at (drop at content))
  message_past answer over says = reading_refuses answer _ (message_at at (drop at content)) says (message_over content at x.1 x.0 read.0 before read.1 over)

  module _ (w : Window) (shows : Shows content w) (place : IsAt at w) (fits : x.1 + x.0 ≤ 2 ^ 32) (count : ℕ) (counted : count ≡ x.1 - at + x.0) where
    pub message_not : (answer : CiffFault) → Reaches content w at count → length w.bytes.items - (at - w.start) < count → answer ≡ faults.Refused (record { at = at; why = Cut }) → FailsReading answer (message_at at (drop at content))
    message_not answer reached short says =
        reading_refuses answer _ (message_at at (drop at content)) says (message_short content w.bytes.items w.start shows at place.not_before place.not_behind x.1 x.0 read.0 before read.1 fits count counted short reached)

    pub message_ok : (from end : ℕ) → count ≤ length w.bytes.items - (at - w.start) → from ≡ at - w.start + (x.1 - at) → end ≡ at - w.start + count → HoldsMessage content at w from end
    message_ok from end long from_is end_is =
        message_held content w.bytes.items w.start shows at place.not_before place.not_behind x.1 x.0 read.0 before read.1 fits count from end counted long from_is end_is

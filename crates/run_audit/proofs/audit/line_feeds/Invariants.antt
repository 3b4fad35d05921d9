use Rattle.std.proofs.Common.{◌≡◌, ◌≤◌, take}
use Rattle.run_audit.specs.Verdicts.{line_feeds}
use Rattle.run_audit.proofs.audit.line_feeds.Given as goal

abbrev pub invariant-loop-byte : goal.invariant-loop-byte
invariant-loop-byte l = record { counted : l.count ≡ line_feeds (take l.byte-index l.text); few : l.count ≤ l.byte-index }

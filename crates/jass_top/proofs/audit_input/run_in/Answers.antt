use Rattle.shared_lemmas.proofs.Common.{◌≡◌, ℕ, List, Ok, Err, Result, ◌⊎◌, inl, inr, refl, sym, ap, ◌∙◌}
use Rattle.trec_run.specs.declared.run_line.RunLine.{RunLine}
use Rattle.trec_run.specs.declared.run_line.RunWhy.{RunWhy}
use Rattle.trec_run.specs.declared.run_line.RunFault.{RunFault}
use Rattle.trec_run.specs.declared.run_line.RunFault.TheVariants as faults
use Rattle.trec_run.specs.Runs.{run_of}
use Rattle.jass_top.proofs.JudgedAudit.{run_read, run_refused}
use Rattle.jass_top.proofs.audit_input.run_in.Goals as goal

read_so : (text : List ℕ) (result : Result (List RunLine) RunFault) (lines : List RunLine) → (result ≡ run_of text) ⊎ (result ≡ Err faults.NoMemory) → result ≡ Ok lines → run_of text ≡ Ok lines
read_so text result lines (inl is) here = sym is ∙ here
read_so text result lines (inr is) here = cc

refused_so : (text : List ℕ) (result : Result (List RunLine) RunFault) (line : ℕ) (why : RunWhy) → (result ≡ run_of text) ⊎ (result ≡ Err faults.NoMemory) → result ≡ Err (faults.Refused line why) → run_of text ≡ Err (faults.Refused line why)
refused_so text result line why (inl is) here = sym is ∙ here
refused_so text result line why (inr is) here = cc

pub returns-in-Ok-clause-accepted : goal.returns-in-Ok-clause-accepted
returns-in-Ok-clause-accepted c = run_read c.args.name.now c.args.text.now c.in-Ok.run' (read_so c.args.text.now c.read_run.result c.in-Ok.run' c.read_run.ensures c.in-Ok.is)

pub returns-in-Err-Refused-clause-unheld : goal.returns-in-Err-Refused-clause-unheld
returns-in-Err-Refused-clause-unheld c = (
  inl refl,
  run_refused c.args.name.now c.args.text.now c.in-Err-Refused.line c.number.result c.in-Err-Refused.why
      (refused_so c.args.text.now c.read_run.result c.in-Err-Refused.line c.in-Err-Refused.why c.read_run.ensures (c.in-Err-Refused.is ∙ ap Err c.in-Err-Refused.field-0-is)) c.number.ensures,
)

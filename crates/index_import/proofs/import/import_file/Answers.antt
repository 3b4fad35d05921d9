-- Why there is no outline is why there is no index.
use Rattle.index_import.proofs.import.import_file.Goals as goal

pub returns-in-Err-clause-imported : goal.returns-in-Err-clause-imported
returns-in-Err-clause-imported g c = c.in-Err.ensures.failed c.args.index.now c.args.rule c.args.bits

use Rattle.index_layout.specs.View.{file_bytes}
use Rattle.jass_top.proofs.JudgedFiles.{index_found, old_found, index_only, old_only, index_told, old_told, index_missed, old_missed, index_refused, old_refused}
use Rattle.jass_top.proofs.laws.index_files_are_judged.Goals as goal

pub returns-clause-found : goal.returns-clause-found
returns-clause-found c = λ name files v is.
    let (content, there, read) = index_found name files v is in
    (content, there, λ bytes. c.files_are_read.ensures.only v content bytes read)

pub returns-clause-only : goal.returns-clause-only
returns-clause-only c = λ name files v there is. index_only name files (file_bytes v) v there (c.files_are_read.ensures.found v is)

pub returns-clause-found_old : goal.returns-clause-found_old
returns-clause-found_old c = λ name files index is.
    let (content, there, read) = old_found name files index is in
    (content, there, λ bytes. c.indexes_are_read.ensures.only index content bytes read)

pub returns-clause-only_old : goal.returns-clause-only_old
returns-clause-only_old c = λ name files content index there is. old_only name files content index there (c.indexes_are_read.ensures.found index content is)

pub returns-clause-told : goal.returns-clause-told
returns-clause-told c = index_told

pub returns-clause-told_old : goal.returns-clause-told_old
returns-clause-told_old c = old_told

pub returns-clause-missing : goal.returns-clause-missing
returns-clause-missing c = index_missed

pub returns-clause-missing_old : goal.returns-clause-missing_old
returns-clause-missing_old c = old_missed

pub returns-clause-refused : goal.returns-clause-refused
returns-clause-refused c = index_refused

pub returns-clause-refused_old : goal.returns-clause-refused_old
returns-clause-refused_old c = old_refused

-- What each command means.
use Rattle.jass_top.specs.AuditMeaning.{audit_meaning}
use Rattle.jass_top.specs.CheckMeaning.{check_meaning}
use Rattle.jass_words.specs.Words.{CommandData, Once, Rewrite, Import, Check, Export, Migrate, Search, Shards, Exhaust, Audit, Serve, Trial, Help, Version}
use Rattle.jass_top.specs.ExhaustMeaning.{exhaust_meaning}
use Rattle.jass_top.specs.ExportMeaning.{export_meaning}
use Rattle.jass_top.specs.HelpMeaning.{help_meaning}
use Rattle.jass_top.specs.ImportMeaning.{import_meaning}
use Rattle.jass_top.specs.Meanings.{Meaning}
use Rattle.jass_top.specs.MigrateMeaning.{migrate_meaning}
use Rattle.jass_top.specs.OnceMeaning.{once_meaning}
use Rattle.jass_top.specs.RewriteMeaning.{rewrite_meaning}
use Rattle.jass_top.specs.SearchMeaning.{search_meaning, search_until, search_within}
use Rattle.jass_top.specs.ServeMeaning.{serve_meaning}
use Rattle.jass_top.specs.ShardsMeaning.{shards_meaning}
use Rattle.jass_top.specs.TrialMeaning.{trial_meaning}
use Rattle.jass_top.specs.VersionMeaning.{version_meaning}

abbrev pub meaning_of : CommandData → Meaning
meaning_of (Once ciff k budget terms) = once_meaning ciff (record { k = k; budget = budget; words = terms })
meaning_of (Rewrite from to) = rewrite_meaning from to
meaning_of (Import ciff index rule bits) = import_meaning ciff index rule bits
meaning_of (Check index) = check_meaning index
meaning_of (Export index ciff) = export_meaning index ciff
meaning_of (Migrate from to) = migrate_meaning from to
meaning_of (Search index queries run k limits tag mode until) =
    search_meaning index queries run (search_until until k limits tag) mode
meaning_of (Shards indexes queries run k limits tag mode) =
    shards_meaning indexes queries run (search_within k limits tag) mode
meaning_of (Exhaust index queries run k tag mode) = exhaust_meaning index queries run k tag mode
meaning_of (Audit index queries run reports k limits tag mode) =
    audit_meaning index queries run reports (record { k = k; budgets = limits; tag = tag }) mode
meaning_of (Serve index frames) = serve_meaning index frames
meaning_of (Trial seed docs terms queries) = trial_meaning seed docs terms queries
meaning_of Help = help_meaning
meaning_of Version = version_meaning

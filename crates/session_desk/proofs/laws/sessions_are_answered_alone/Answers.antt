-- Two desks are each like one without other sessions.
use Rattle.std.proofs.Common.{◌∙◌, Some, ap, sym}
use Rattle.session_desk.specs.Alone.{alone}
use Rattle.session_desk.specs.Turns.{replies_from}
use Rattle.session_desk.specs.Replies.{desk_after}
use Rattle.session_desk.proofs.Isolation.{has_name, told_alone}
use Rattle.session_desk.proofs.Opened.{found_opened, opened_alike}
use Rattle.session_desk.proofs.laws.sessions_are_answered_alone.Goals as goal

pub returns-clause-alone : goal.returns-clause-alone
returns-clause-alone c index name state session lines frames found = told_alone index name frames state session lines (has_name name state session found) found

pub returns-clause-same : goal.returns-clause-same
returns-clause-same c index name first second session lines others a b same =
    told_alone index name 0 first session lines (has_name name first session a) a ∙ ap (replies_from index (alone 0 session)) same ∙ sym (told_alone index name 0 second session others (has_name name second session b) b)

pub returns-clause-opened : goal.returns-clause-opened
returns-clause-opened c index first second line other name k words more session twin lines others reads also mentions a b same =
    let found = found_opened index first line name k words session reads a in
    let alike = opened_alike index first second name k words more session twin mentions a b in
    let again = found_opened index second other name k more twin also b ∙ ap (λ e. Some e) (sym alike) in
    told_alone index name 0 (desk_after index first line) session lines (has_name name (desk_after index first line) session found) found
    ∙ ap (replies_from index (alone 0 session)) same
    ∙ sym (told_alone index name 0 (desk_after index second other) session others (has_name name (desk_after index second other) session again) again)

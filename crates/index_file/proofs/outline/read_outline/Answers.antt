use Rattle.std.proofs.Common.{refl, ◌∙◌, ◌≡◌, map, None, Err, rules}
use Rattle.index_file.proofs.Below.{Front, NamesRead, name_in, read_front, read_names, read_terms, after_front, after_names, after_terms}
use Rattle.index_layout.specs.Reading.{read_index}
use Rattle.index_file.proofs.FileParts.{outline_at, outline_reads}
use Rattle.index_file.proofs.Reading.{fails_on, fails_as, fails_stopped, front_not, front_there, names_there}
use Rattle.index_file.proofs.outline.read_outline.Goals as goal

pub returns-in_err-front-clause-refused : goal.returns-in_err-front-clause-refused
returns-in_err-front-clause-refused c =
    let out : c.from_residual.result ≡ Err c.in_err-front.field-0.0 = search rules in
    rw out (front_not c.args.bytes.now c.in_err-front.field-0.0 (fails_stopped c.in_err-front.field-0.0 (read_front c.args.bytes.now) c.in_err-front.ensures.unread (c.in_err-front.ensures.exact refl)))

pub returns-in_err-places-clause-refused : goal.returns-in_err-places-clause-refused
returns-in_err-places-clause-refused c =
    let bytes = c.args.bytes.now in
    let front : Front = record { docs = c.in_ok-front.front.docs; terms = c.in_ok-front.front.terms } in
    let out : c.from_residual-in_err-places.result ≡ Err c.in_err-places.field-0.0 = search rules in
    rw out (fails_as c.in_err-places.field-0.0 (read_index bytes) (after_front bytes front) (front_there bytes front (c.in_ok-front.ensures.exact refl).0)
    (fails_on c.in_err-places.field-0.0 (read_names bytes front.docs 40) (after_names bytes front) c.in_err-places.ensures.exact))

pub returns-in_err-terms-clause-refused : goal.returns-in_err-terms-clause-refused
returns-in_err-terms-clause-refused c =
    let bytes = c.args.bytes.now in
    let front : Front = record { docs = c.in_ok-front.front.docs; terms = c.in_ok-front.front.terms } in
    let x : NamesRead = record { names = map (name_in bytes) c.in_ok-places.places; end = c.in_ok-places.names_end } in
    let out : c.from_residual-in_err-terms.result ≡ Err c.in_err-terms.field-0.0 = search rules in
    rw out (fails_as c.in_err-terms.field-0.0 (read_index bytes) (after_names bytes front x) (front_there bytes front (c.in_ok-front.ensures.exact refl).0 ∙ names_there bytes front x c.in_ok-places.ensures.exact)
    (fails_on c.in_err-terms.field-0.0 (read_terms bytes front.docs front.terms None x.end) (after_terms bytes front x.names) c.in_err-terms.ensures.exact))

pub returns-clause-outline : goal.returns-clause-outline
returns-clause-outline c =
    outline_at c.args.bytes.now (record { places = c.in_ok-places.places; terms = c.in_ok-terms.terms; count = c.in_ok-front.front.terms; sums = c.in_ok-terms.sums }) c.in_ok-front.front.docs
    c.in_ok-places.names_end c.in_ok-terms.terms_end c.in_ok-places.ensures.count (c.in_ok-front.ensures.exact refl).0 c.in_ok-places.ensures.exact c.in_ok-terms.ensures.exact
    c.in_ok-places.ensures.before c.in_ok-terms.ensures.rows c.in_ok-terms.ensures.count c.in_ok-terms.ensures.counted c.in_ok-terms.ensures.sums
    c.in_ok-places.ensures.start c.in_ok-terms.ensures.end.0 c.in_ok-terms.ensures.end.1

pub returns-clause-read : goal.returns-clause-read
returns-clause-read c = outline_reads c.args.bytes.now _ c.in_ok-places.names_end c.in_ok-terms.terms_end (returns-clause-outline c)

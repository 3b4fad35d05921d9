-- The tally of all mentions is the query's.
use Rattle.shared_lemmas.proofs.Common.{◌≡◌, ◌<◌, ◌≤◌, ap, sym, subst, length, arith, All, AllPairs}
use Rattle.jass_base.specs.declared.query_term.QueryTerm.{QueryTerm}
use Rattle.query_reader.specs.Mentions.{term_number}
use Rattle.query_reader.specs.Texts.{mentions_of}
use Rattle.query_reader.specs.Queries.{query_data}
use Rattle.query_reader.specs.Private.Lines.{LineFails}
use Rattle.query_reader.specs.Private.Tally.{TallyData, all_counted_in}
use Rattle.query_reader.proofs.Facts.{named-some, named-differ, named-below}
use Rattle.query_reader.proofs.Factors.{all-count}
use Rattle.query_reader.proofs.Limits.{within-limits}
use Rattle.query_reader.proofs.Tallying.{counted-fails, line-handed-on, query-made, row-is, from-start}
use Rattle.query_reader.proofs.query.read_query.Goals as goal

pub returns-in_err-count_mentions-clause-query : goal.returns-in_err-count_mentions-clause-query
returns-in_err-count_mentions-clause-query g c =
    let terms = g.X.Lexicon.terms c.args.index.now in let mentions = mentions_of c.args.mode c.args.text.now in
    let fault = c.in_err-count_mentions.field-0.0 in
    line-handed-on query_data _ fault c.from_residual.result c.from_residual.ensures.1
    (counted-fails terms c.args.id.now mentions fault (subst (λ t. LineFails fault (all_counted_in terms t mentions)) c.new-tally.ensures c.in_err-count_mentions.ensures))

pub invariant_of-result : goal.invariant_of-result
invariant_of-result g c =
    let terms = g.X.Lexicon.terms c.args.index.now in let mentions = mentions_of c.args.mode c.args.text.now in
    let tally : TallyData = record { named = c.tally.inside.named.items; unknown = c.tally.inside.unknown } in
    let counted = from-start terms mentions c.new-tally.result c.count_mentions.new.tally tally c.in_ok-count_mentions.ensures c.new-tally.ensures c.tally.view_is in
    let row = row-is terms mentions tally c.from_vec.result counted c.from_vec.ensures in
    record {
      few = omega (arith, ap length c.from_vec.ensures, (within-limits c.tally.inside.named.items c.tally.invariant).0);
      named = subst (All (λ (n : QueryTerm). 1 ≤ n.times)) (sym row) (named-some (term_number terms) mentions (all-count c.args.mode c.args.text.now));
      differ = subst (AllPairs (λ (m n : QueryTerm). m.term ≡ n.term → ⊥)) (sym row) (named-differ (term_number terms) mentions);
    }

pub returns-clause-query : goal.returns-clause-query
returns-clause-query g c =
    let terms = g.X.Lexicon.terms c.args.index.now in let mentions = mentions_of c.args.mode c.args.text.now in
    let tally : TallyData = record { named = c.tally.inside.named.items; unknown = c.tally.inside.unknown } in
    let counted = from-start terms mentions c.new-tally.result c.count_mentions.new.tally tally c.in_ok-count_mentions.ensures c.new-tally.ensures c.tally.view_is in
    query-made terms c.args.id.now mentions tally c.in-Ok.id c.from_vec.result counted c.in-Ok.ensures.bytes c.from_vec.ensures

pub returns-clause-known : goal.returns-clause-known
returns-clause-known g c =
    let terms = g.X.Lexicon.terms c.args.index.now in let mentions = mentions_of c.args.mode c.args.text.now in
    let tally : TallyData = record { named = c.tally.inside.named.items; unknown = c.tally.inside.unknown } in
    let counted = from-start terms mentions c.new-tally.result c.count_mentions.new.tally tally c.in_ok-count_mentions.ensures c.new-tally.ensures c.tally.view_is in
    subst (All (λ (n : QueryTerm). n.term < length terms)) (sym (row-is terms mentions tally c.from_vec.result counted c.from_vec.ensures)) (named-below terms mentions)

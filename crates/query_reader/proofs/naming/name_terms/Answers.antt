-- Each turn tallies one word more.
use Rattle.shared_lemmas.proofs.Common.{take, ap, sym, subst, ◌∙◌, arith, length-take-le, position, bytes_eq, Some, None, Err}
use Rattle.query_reader.specs.Private.Tally.{TalliesIn}
use Rattle.query_reader.proofs.Words.{named-more, named-same, unknown-more, named-fit, said-few, said-some, said-differ, said-known, so-far-within, never-refused}
use Rattle.query_reader.proofs.naming.name_terms.Goals as goal
use Rattle.query_reader.proofs.naming.name_terms.Goals.{in-Some+in-Ok, in-None}

pub count_known-requires : goal.count_known-requires
count_known-requires g c =
    so-far-within (g.X.Lexicon.terms c.args.index.now) c.args.words.now c.loop-word.word-index c.loop-word.named.items (omega (arith, c.loop-word-test.true)) c.requires c.loop-word.invariant.named

pub unreachable-requires : goal.unreachable-requires
unreachable-requires g c =
    let terms = g.X.Lexicon.terms c.args.index.now in
    let found = ap (λ bytes. position (λ t. bytes_eq t bytes) terms) (sym c.as_str.ensures.value ∙ sym c.as_bytes.ensures.value) ∙ sym c.find.ensures.number in
    let refused = subst (λ f. TalliesIn c.loop-word.named.items c.in-Some.number 1 c.count_known.new.named.items (Err f)) c.in-Err-Refused.field-0-is c.in-Err-Refused.ensures in
    never-refused terms c.args.words.now c.loop-word.word-index c.word-item.result c.loop-word.named.items c.in-Some.number c.in-Err-Refused.field-0-0 c.loop-word-test.true c.word-item.is c.requires (found ∙ c.in-Some.is) c.loop-word.invariant.named refused.1

pub loop-word-preserved : goal.loop-word-preserved
loop-word-preserved g c =
    let terms = g.X.Lexicon.terms c.args.index.now in let i = c.loop-word.word-index in let words = c.args.words.now in
    let word = c.word-item.result in
    let found = ap (λ bytes. position (λ t. bytes_eq t bytes) terms) (sym c.as_str.ensures.value ∙ sym c.as_bytes.ensures.value) ∙ sym c.find.ensures.number in
    elim c.match-find.branch [
      | in-Some+in-Ok w ↦
          let counted = unknown-more terms words i word (Some w.in-Some.number) c.loop-word-test.true c.word-item.is (found ∙ w.in-Some.is) in
          record {
            named = named-more terms words i word c.loop-word.named.items c.match-find.named.items w.in-Some.number c.loop-word-test.true c.word-item.is (found ∙ w.in-Some.is) c.loop-word.invariant.named (ap (λ v. v.items) w.named-is ∙ w.in-Ok.ensures.0);
            unknown = omega (arith, counted, w.unknown-is, c.loop-word.invariant.unknown);
          }
      | in-None w ↦
          let counted = unknown-more terms words i word None c.loop-word-test.true c.word-item.is (found ∙ w.in-None.is) in
          record {
            named = ap (λ v. v.items) w.named-is ∙ named-same terms words i word c.loop-word.named.items c.loop-word-test.true c.word-item.is (found ∙ w.in-None.is) c.loop-word.invariant.named;
            unknown = omega (arith, counted, w.unknown-is, c.loop-word.invariant.unknown);
          }
    ]

pub invariant_of-result : goal.invariant_of-result
invariant_of-result g c =
    let terms = g.X.Lexicon.terms c.args.index.now in let words = take c.loop-word.word-index c.args.words.now in
    let is = c.from_vec.ensures ∙ c.loop-word.invariant.named in
    record {
      few = omega (arith, said-few terms words c.from_vec.result is, length-take-le c.loop-word.word-index c.args.words.now (omega arith), c.requires);
      named = said-some terms words c.from_vec.result is;
      differ = said-differ terms words c.from_vec.result is;
    }

pub returns-clause-times : goal.returns-clause-times
returns-clause-times g c =
    let terms = g.X.Lexicon.terms c.args.index.now in let i = c.loop-word.word-index in let words = c.args.words.now in
    let fit = named-fit terms (take i words) c.from_vec.result (c.from_vec.ensures ∙ c.loop-word.invariant.named) in
    λ k d inside. omega (arith, fit k d inside, length-take-le i words (omega arith))

pub returns-clause-known : goal.returns-clause-known
returns-clause-known g c = said-known (g.X.Lexicon.terms c.args.index.now) (take c.loop-word.word-index c.args.words.now) c.from_vec.result (c.from_vec.ensures ∙ c.loop-word.invariant.named)

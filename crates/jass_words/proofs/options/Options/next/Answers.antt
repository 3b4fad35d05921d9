use Rattle.shared_lemmas.proofs.Common.{◌≡◌, true, false, sym, ap, subst, ◌∙◌, Contains}
use Rattle.jass_words.specs.declared.keys.Key.{Key}
use Rattle.jass_words.specs.Private.Reading.{is_found, option_data}
use Rattle.jass_words.proofs.Settings.{none_more, never_more}
use Rattle.jass_words.proofs.options.Options.next.Goals.{else-is_among-via-then-is_among+else-not-has, else-is_among-via-else-is_among}
use Rattle.jass_words.proofs.options.Options.next.Goals as goal

pub returns-in_default-clause-none : goal.returns-in_default-clause-none
returns-in_default-clause-none c = λ none words rest options seen are. none_more c.args.allowed.now words c.args.word.now rest options (c.read_option.ensures.none c.in_default.is) are

pub returns-then-not-has-clause-allows : goal.returns-then-not-has-clause-allows
returns-then-not-has-clause-allows c = subst (λ (k : Key). Contains c.args.allowed.now k) c.key-key.ensures (c.is_among.ensures.0 c.if-is_among.true)

pub returns-then-not-has-clause-new : goal.returns-then-not-has-clause-new
returns-then-not-has-clause-new c = ap (is_found c.args.self.now) (sym c.key-key.ensures) ∙ sym c.has.ensures ∙ c.if-not-has.true

pub returns-else-is_among-clause-none : goal.returns-else-is_among-clause-none
returns-else-is_among-clause-none c = λ none words rest options seen are.
    never_more c.args.allowed.now words c.args.word.now rest options c.args.self.now (option_data c.in-Some.option) seen c.in-Some.ensures.some
    (λ allows. elim c.else-is_among.branch [
      | else-is_among-via-then-is_among+else-not-has w ↦ ap (is_found c.args.self.now) (sym c.key-key.ensures) ∙ sym w.has.ensures ∙ w.if-not-has.false
      | else-is_among-via-else-is_among w ↦ absurd (let there = c.is_among.ensures.1 (subst (λ (k : Key). Contains c.args.allowed.now k) (sym c.key-key.ensures) allows) in let both : true ≡ false = sym there ∙ w.if-is_among.false in cc)
    ])
    are

use Rattle.shared_lemmas.proofs.Common.{◌≡◌, ℕ, List, subst, ◌∙◌, IfOk, string_bytes}
use Rattle.jass.proofs.SoFar.{as_it_stands, no_text}
use Rattle.jass.proofs.words.word_of.Goals as goal

pub returns-in-Ok : goal.returns-in-Ok
returns-in-Ok c =
    subst (λ (text : List ℕ). IfOk c.from_str.result (λ word. string_bytes word ≡ text)) (c.in-Ok.ensures.cases.0 ∙ as_it_stands c.args.bytes.now c.requires c.in-Ok.ensures.cases.1) c.from_str.ensures.ok

pub returns-in-Err : goal.returns-in-Err
returns-in-Err c = subst (λ (text : List ℕ). IfOk c.no_word.result (λ word. string_bytes word ≡ text)) (no_text c.args.bytes.now c.in-Err.ensures.cases.0) c.no_word.ensures

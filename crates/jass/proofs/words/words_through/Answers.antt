use Rattle.shared_lemmas.proofs.Common.{◌≡◌, suc, ◌+◌, List, length, Option, Some, String, sym, subst, ◌∙◌, arith, option_map, string_bytes}
use Rattle.std.proofs.Common.{Global}
use Rattle.jass_words.specs.Words.{texts}
use Rattle.jass.specs.Private.Words.{GivesWord}
use Rattle.jass.proofs.SoFar.{SoFar, one_more}
use Rattle.jass.proofs.words.words_through.Goals as goal

pub words-preserved : goal.words-preserved
words-preserved g c =
    let told = g.A.Arguments.told c.args.arguments.now in
    let place : c.len-place.result + 1 ≡ suc (length c.words.words.items) = omega (arith, c.len-place.ensures) in
    let here : GivesWord told (c.len-place.result + 1) (Some (string_bytes c.in-Some.word))
    = subst (λ (word : Option (String Global)). GivesWord told (c.len-place.result + 1) (option_map string_bytes word)) c.in-Some.is c.in_ok-word.ensures in
    record {
      so_far = subst (λ (words : List (String Global)). SoFar told (texts words)) (sym c.in_ok-push.ensures.items)
          (one_more told c.words.words.items c.in-Some.word (c.len-place.result + 1) place c.words.invariant.so_far here);
      room = c.word_at.auto.buffer ∙ c.words.invariant.room;
    }

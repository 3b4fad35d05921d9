use Rattle.std.proofs.Common.{◌+◌, ◌*◌, ◌++◌, ◌∷◌, [], ◌∙◌, ap, sym, arith, append_assoc}
use Rattle.index_layout.specs.Heads.{HeadData}
use Rattle.index_layout.specs.Reading.{head_in}
use Rattle.index_file.specs.Parts.{heads_from, told}
use Rattle.index_file.specs.Private.HeadWords.{all_told, heads_of_words}
use Rattle.index_file.proofs.HeadsFrom.{heads_more}
use Rattle.index_file.proofs.HeadWords.{IsNext, aside_next, heads_push, own_next, words_push}
use Rattle.index_file.proofs.head_table.append_words.Goals.{in-Some, in-None+in_ok-word-in-None}
use Rattle.index_file.proofs.head_table.append_words.Goals as goal

pub heads-preserved : goal.heads-preserved
heads-preserved c =
    let bytes = c.args.bytes.now in
    let from = c.args.from in
    let i = c.heads.i in
    let aside = c.heads.aside in
    let later = c.match-packed.aside in
    let words = c.heads.words.items in
    let newer = c.push_reserved.new.self.items in
    let word = c.match-packed.word in
    let head = c.head_of-head.result in
    let h = head_in bytes (from + 11 * i) in
    let before = heads_of_words (all_told c.args.aside.now) c.args.words.now.items in
    let next : IsNext aside later word (told head) = elim c.match-packed.branch [
      | in-Some w ↦ own_next aside later word w.in-Some.word (told head) w.aside-is w.word-is w.in-Some.ensures.small w.in-Some.ensures.word
      | in-None+in_ok-word-in-None w ↦ aside_next aside later word head (w.aside-is ∙ w.in_ok-word-in-None.ensures.ok) (w.word-is ∙ w.in_ok-word-in-None.ensures.word)
    ] in
    record {
      heads = heads_push aside later words newer word (told head) c.heads.invariant.words c.push_reserved.ensures.items next
          ∙ ap (λ (h : HeadData). heads_of_words (all_told aside) words ++ h ∷ []) c.head_of-head.ensures
          ∙ ap (λ heads. heads ++ h ∷ []) c.heads.invariant.heads
          ∙ append_assoc before (heads_from bytes i from) (h ∷ [])
          ∙ ap (λ more. before ++ more) (sym (heads_more bytes i from));
      words = words_push aside later words newer word (told head) c.heads.invariant.words c.push_reserved.ensures.items next;
      room = omega (arith, c.push_reserved.ensures.len, c.push_reserved.ensures.capacity, c.heads.invariant.room);
    }

use Rattle.shared_lemmas.proofs.Common.{◌≡◌, ◌+◌, ◌-◌, ◌*◌, ◌/◌, ◌%◌, ◌<◌, ◌≤◌, ℕ, length, get_or, take, drop, refl, sym, ap, ◌∙◌, arith, get_or-drop, get_or-take, length-take, length-drop}
use Rattle.ciff_read.proofs.ShortEntries.{posting_at}
use Rattle.ciff_read.proofs.UsualWords.{Front, at_most_two, usual}
use Rattle.ciff_read.proofs.usual.usual_posting.Goals as goal

pub returns : goal.returns
returns c =
    let bytes = take c.args.end c.args.bytes.now in
    let at = c.args.at in
    let word = c.word_at-word.result in
    let more = word / 256 % 4 in
    let s = drop at bytes in
    let is = c.if-word-more.false in
    let few : more ≤ 2 = at_most_two word more (omega arith) is in
    let within : at + more + 6 ≤ c.args.end = omega (arith, c.if-next-end.false) in
    let inside : at + more + 6 ≤ length bytes = omega (arith, within, few, c.requires, length-take c.args.end c.args.bytes.now) in
    let byte : (i : ℕ) → i < more + 6 → get_or s i 0 ≡ get_or c.args.bytes.now (at + i) 0 = λ i below. get_or-drop at bytes i 0 ∙ get_or-take c.args.end c.args.bytes.now (at + i) 0 (omega (arith, within, below)) in
    let front : Front s word (more + 6) = λ i below. byte i below ∙ c.word_at-word.ensures i (omega (arith, below, few)) in
    let place : at + more + 5 ≡ at + (more + 5) = omega arith in
    let tf_is : c.from-tf.result ≡ get_or s (more + 5) 0 = c.from-tf.ensures ∙ ap (λ n. get_or c.args.bytes.now n 0) place ∙ sym (byte (more + 5) (omega arith)) in
    let there = usual s word more _ c.from-tf.result few is (omega (arith, inside, length-drop at bytes)) front refl tf_is in
    record {
      posting = posting_at bytes at _ c.from-tf.result (more + 6) (at + more + 6) (omega (arith, inside)) (omega arith) (omega arith) there.0;
      usual = record {
        some_gap = omega (arith, c.if-docid-eq0.false);
        small_gap = there.1;
        some_tf = omega (arith, c.if-tf-eq0.false);
        small_tf = there.2;
      };
      long = omega arith;
    }

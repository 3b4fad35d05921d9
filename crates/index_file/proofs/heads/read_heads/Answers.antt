use Rattle.shared_lemmas.proofs.Common.{◌≡◌, ◌+◌, ◌-◌, suc, List, [], ◌∷◌, ◌++◌, append_assoc, All, subst, ap, refl, sym, ◌∙◌, arith, max, All-push}
use Rattle.index_layout.specs.Reading.{head_in}
use Rattle.index_file.proofs.Below.{HeadData, read_heads, with_heads, heads_on}
use Rattle.index_file.proofs.HeadsFrom.{heads_more}
use Rattle.index_file.specs.Parts.{IsCounted, heads_from}
use Rattle.index_file.specs.declared.sums.Sums.{Sums}
use Rattle.index_file.specs.Sums.{AreSums}
use Rattle.index_file.proofs.TermRows.{sums_push}
use Rattle.index_file.proofs.heads.read_heads.Goals as goal

pub heads-preserved : goal.heads-preserved
heads-preserved c =
    let bytes = c.args.bytes.now in
    let d = c.args.docs in
    let at = c.heads.at in
    let h = head_in bytes at in
    let left = c.args.count - (c.heads.counter + 1) in
    let more : c.args.count - c.heads.counter ≡ suc left = omega arith in
    let front = heads_from bytes c.heads.counter c.args.from in
    let pushed : heads_from bytes (c.heads.counter + 1) c.args.from ≡ front ++ h ∷ [] =
    heads_more bytes c.heads.counter c.args.from ∙ ap (λ n. front ++ head_in bytes n ∷ []) (sym c.heads.invariant.place) in
    let postings = c.from.ensures ∙ c.in_ok-impact.ensures.count in
    let sums : Sums = record { postings = c.heads.total.postings + c.from.result; greatest = c.max.result } in
    record {
      read = heads_on bytes d (read_heads bytes d c.args.count 65536 c.args.from) front (c.args.count - c.heads.counter) left c.heads.above at (at + 11) h c.heads.invariant.read more c.in_ok-impact.ensures.exact refl
          ∙ ap (λ (front : List HeadData). with_heads front (read_heads bytes d left h.impact (at + 11))) (sym pushed)
          ∙ ap (λ n. with_heads (heads_from bytes (c.heads.counter + 1) c.args.from) (read_heads bytes d left n (at + 11))) (sym (c.from-above.ensures ∙ c.in_ok-impact.ensures.impact));
      counted = subst (All (IsCounted d)) (sym pushed) (All-push (IsCounted d) front h c.heads.invariant.counted c.in_ok-impact.ensures.counted);
      sums = λ heads are. subst (AreSums sums) (append_assoc heads front (h ∷ []) ∙ ap (λ xs. heads ++ xs) (sym pushed))
          (sums_push c.heads.total sums (heads ++ front) h (c.heads.invariant.sums heads are) (ap (λ n. c.heads.total.postings + n) postings) (c.max.ensures ∙ ap (max c.heads.total.greatest) c.in_ok-impact.ensures.impact));
      small = (let few = c.in_ok-impact.ensures.counted.1 in omega (arith, few, postings, c.heads.invariant.small, c.requires.docs));
      place = omega (arith, c.heads.invariant.place);
      at = c.in_ok-impact.ensures.within;
    }

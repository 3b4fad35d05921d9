use Rattle.shared_lemmas.proofs.Common.{ℕ, Bool, ◌++◌, ◌-◌, ◌*◌, ◌/◌, ◌%◌, ◌^◌, ◌<◌, set, sym, ap, List, subst, arith, ◌≡◌, ◌∙◌, length, replicate, ◌||◌, nat_eq, bit_or, get_or_default_zero}
use Rattle.ciff_read.specs.Marks.{is_marked}
use Rattle.ciff_read.proofs.Marks.{marked_behind, marked_with}
use Rattle.ciff_read.proofs.Tables.{reaches_more}
use Rattle.ciff_read.proofs.doc_set.DocSet.insert.Goals as goal

pub reaching-preserved : goal.reaching-preserved
reaching-preserved c = record {
  same = subst (λ (t : List ℕ). t ≡ c.args.self.now.words.items ++ replicate (length t - length c.args.self.now.words.items) 0) (sym c.in_ok-push.ensures.items) (reaches_more 0 _ _ c.reaching.invariant.same c.reaching.invariant.longer);
  longer = omega (arith, c.in_ok-push.ensures.len, c.reaching.invariant.longer);
}

pub returns : goal.returns
returns c =
    let place = c.args.doc / 64 in
    let longer = c.reaching.self.words.items in
    let inside : place < length longer = omega (arith, c.len.ensures, c.reaching-test.false) in
    λ n. ap (λ w. is_marked (set longer place (bit_or w (1 * 2 ^ (c.args.doc % 64) % 2 ^ 64))) n) (c.index_mut.ensures.value ∙ get_or_default_zero longer place c.index_mut.result.now inside)
    ∙ marked_with longer c.args.doc n inside
    ∙ ap (λ (t : Bool). nat_eq n c.args.doc || t) (ap (λ (ws : List ℕ). is_marked ws n) c.reaching.invariant.same ∙ marked_behind _ _ n)

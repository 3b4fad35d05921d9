use Rattle.std.proofs.Common.{◌≡◌, ℕ, ◌*◌, ◌+◌, ◌/◌, ◌%◌, List, get_or, set, Option, None, IsSome, sym, ap, ◌∙◌, subst, arith}
use Rattle.frame_pool.specs.Pool.{ChainEntry}
use Rattle.accumulator_pages.specs.Pages.{HasTouched, own_view, pages_scores}
use Rattle.accumulator_pages.proofs.Adding.{place, wrote}
use Rattle.accumulator_pages.proofs.Standing.{length-values, table_kept, used_now}
use Rattle.accumulator_pages.proofs.pages.Pages.add.Goals as goal

pub returns-clause-stands : goal.returns-clause-stands
returns-clause-stands c =
    let scores : List ℕ = pages_scores c.args.self.now c.args.pool.now in let chain : ℕ = c.frame_of-frame.new.self.chain in
    let size = length-values (λ x. x.scores) c.args.self.now.docs (own_view c.args.self.now c.args.pool.now) in
    let before : c.score_in.result ≡ get_or scores c.args.doc 0 = c.score_in.ensures ∙ ap (λ (s : List ℕ). get_or s c.args.doc 0) c.frame_of-frame.ensures.scores in
    let written = wrote scores (pages_scores c.frame_of-frame.new.self c.frame_of-frame.new.pool) (pages_scores c.frame_of-frame.new.self c.set_score.new.self)
    (256 * (c.args.doc / 256) + c.args.doc % 256) c.args.doc (c.score_in.result + c.args.w) c.frame_of-frame.ensures.scores (place c.args.doc)
    (c.set_score.ensures.scores chain (c.args.doc / 256) c.frame_of-frame.new.self.docs c.frame_of-frame.ensures.has) in
    let raised = written ∙ ap (λ (v : ℕ). set scores c.args.doc (v + c.args.w)) before in
    let fields = c.frame_of-frame.ensures.fields in let keeps = c.set_score.ensures.keeps chain in
    record {
      in_use = subst (λ (es : List (Option ChainEntry)). IsSome (get_or es chain None)) (sym c.set_score.ensures.chains) c.frame_of-frame.ensures.own;
      here = record {
        fields = record {
          table = table_kept c.frame_of-frame.new.self.table c.frame_of-frame.new.self.docs _ _ keeps fields.table;
          frames = fields.frames ∙ sym keeps.count;
        };
        used = λ page inside entry. subst (λ (s : List ℕ). HasTouched s page) (sym raised)
            (used_now c.args.self.now.table c.frame_of-frame.new.self.table scores c.args.doc c.args.w
            (omega (arith, fields.table.covers, c.requires.stands.here.fields.table.covers, c.frame_of-frame.ensures.same.docs)) c.frame_of-frame.ensures.entries
            (omega (arith, c.requires.inside, size)) c.requires.weight c.requires.stands.here.used page inside entry);
      };
    }

use Rattle.shared_lemmas.proofs.Common.{◌≡◌, ℕ, List, length, replicate, rules, sym, ap, ◌∙◌, div_ceil}
use Rattle.frame_pool.specs.ChainView.{ChainView, HeldFrame, chain_view, view_scores}
use Rattle.accumulator_pages.proofs.Standing.{no_values, new_stands, new_unused}
use Rattle.accumulator_pages.proofs.pages.Pages.new.Goals as goal

pub returns-in-Ok-clause-stands : goal.returns-in-Ok-clause-stands
returns-in-Ok-clause-stands c =
    let view : ChainView = chain_view c.args.pool.now c.args.chain in
    let made : c.in-Ok.table.items ≡ replicate (div_ceil c.args.docs 256) 4294967295 =
    c.in-Ok.ensures.items_if_clones_equal (λ y h. search rules) ∙ ap (λ (n : ℕ). replicate n 4294967295) c.div_ceil.ensures in
    record {
      in_use = c.requires.own;
      here = record {
        fields = record {
          table = new_stands c.in-Ok.table.items c.args.docs view c.requires.empty made;
          frames = sym (ap (λ (hs : List HeldFrame). length hs) c.requires.empty);
        };
        used = new_unused c.in-Ok.table.items (view_scores c.args.docs view) (div_ceil c.args.docs 256) made;
      };
    }

pub returns-in-Ok-clause-scores : goal.returns-in-Ok-clause-scores
returns-in-Ok-clause-scores c = no_values (λ x. x.scores) c.args.docs (chain_view c.args.pool.now c.args.chain) c.requires.empty

pub returns-in-Ok-clause-places : goal.returns-in-Ok-clause-places
returns-in-Ok-clause-places c = no_values (λ x. x.places) c.args.docs (chain_view c.args.pool.now c.args.chain) c.requires.empty

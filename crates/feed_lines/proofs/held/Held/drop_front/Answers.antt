use Rattle.std.proofs.Common.{◌≤◌, ◌∙◌, sym, ap, drop, length, subst, List, ℕ}
use Rattle.feed_lines.proofs.Holding.{without_front}
use Rattle.feed_lines.proofs.held.Held.drop_front.Goals as goal

pub returns : goal.returns
returns c =
    without_front c.self.inside.bytes.items c.self.inside.from c.self.inside.to c.args.count (subst (λ (xs : List ℕ). c.args.count ≤ length xs) (sym c.self.view_is) c.requires)
    ∙ ap (drop c.args.count) c.self.view_is

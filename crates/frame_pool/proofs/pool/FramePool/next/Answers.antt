use Rattle.std.proofs.Common.{◌≡◌, ℕ, Some, None, cond, eqb, sym, ap, ◌∙◌}
use Rattle.frame_pool.proofs.Pages.{of_page}
use Rattle.frame_pool.specs.Links.{link_of}
use Rattle.frame_pool.proofs.Views.{taken_range}
use Rattle.std.proofs.lemmas.Bool.{ne_eqb, eq-eqb}
use Rattle.frame_pool.proofs.Readings.{next-frame}
use Rattle.frame_pool.proofs.pool.FramePool.next.Goals as goal

pub next-next-requires : goal.next-next-requires
next-next-requires c = taken_range _ _ _ _ _ c.self.invariant c.self.view_is c.args.frame.number c.requires

pub returns-then-next : goal.returns-then-next
returns-then-next c =
    let next : ℕ = c.next-next.result in
    let link : link_of c.self.inside.frames c.args.frame.number ≡ next = sym c.next-next.ensures in
    record {
      next = λ chain page has. sym (next-frame _ _ _ _ _ c.self.invariant c.self.view_is chain c.args.frame.number (of_page c.args.self.now chain page c.args.frame.number has).0
          ∙ ap (λ (n : ℕ). cond (eqb n 4294967295) None (Some n)) link ∙ ap (λ b. cond b None (Some next)) (eq-eqb next 4294967295 c.if-next.true));
    }

pub returns-else-next : goal.returns-else-next
returns-else-next c =
    let next : ℕ = c.next-next.result in
    let link : link_of c.self.inside.frames c.args.frame.number ≡ next = sym c.next-next.ensures in
    record {
      next = λ chain page has. sym (next-frame _ _ _ _ _ c.self.invariant c.self.view_is chain c.args.frame.number (of_page c.args.self.now chain page c.args.frame.number has).0
          ∙ ap (λ (n : ℕ). cond (eqb n 4294967295) None (Some n)) link ∙ ap (λ b. cond b None (Some next)) (ne_eqb next 4294967295 c.if-next.false));
    }

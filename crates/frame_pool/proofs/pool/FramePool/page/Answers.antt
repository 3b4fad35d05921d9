use Rattle.std.proofs.Common.{◌≡◌, sym, ap, ◌∙◌}
use Rattle.frame_pool.specs.Pool.{FrameContent, content_of}
use Rattle.frame_pool.proofs.Pages.{of_page}
use Rattle.frame_pool.proofs.Views.{content_seen, taken_range}
use Rattle.frame_pool.proofs.pool.FramePool.page.Goals as goal

pub page-requires : goal.page-requires
page-requires c = taken_range _ _ _ _ _ c.self.invariant c.self.view_is c.args.frame.number c.requires

pub returns : goal.returns
returns c =
    let page : c.page.result ≡ (content_of c.args.self.now c.args.frame.number).page =
    c.page.ensures ∙ sym (ap (λ (x : FrameContent). x.page) (content_seen _ _ c.args.self.now c.self.view_is c.args.frame.number)) in
    record { page = λ chain page' has. page ∙ (of_page c.args.self.now chain page' c.args.frame.number has).1; content = page }

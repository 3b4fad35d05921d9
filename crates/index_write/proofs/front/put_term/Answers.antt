use Rattle.std.proofs.Common.{◌++◌, ◌-◌, ◌∙◌, ap, length, take, drop}
use Rattle.std.proofs.lemmas.List.{take_rest}
use Rattle.std.proofs.lemmas.Result.{on_ok_weaker}
use Rattle.index_write.proofs.Joining.{both_put, term_joined}
use Rattle.index_write.proofs.front.put_term.Goals as goal

pub returns : goal.returns
returns c =
    let term = c.args.term.now in
    let k = c.shared_len-shared.result in
    let rest = take (length term - k) (drop k term) in
    on_ok_weaker c.extend-2.result (λ last.
    both_put c.args.out.now c.two_numbers-head.result rest c.extend.new.self c.extend-2.new.self c.in_ok-extend.ensures.ok last
    ∙ ap (λ xs. c.args.out.now ++ xs) (term_joined c.args.before.now term c.two_numbers-head.result rest k c.shared_len-shared.ensures.shared c.two_numbers-head.ensures (take_rest term k)))
    c.extend-2.ensures.ok

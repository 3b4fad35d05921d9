use Rattle.std.proofs.Common.{◌-◌, length, take, drop}
use Rattle.std.proofs.lemmas.List.{take_rest}
use Rattle.index_write.proofs.Joining.{term_joined}
use Rattle.index_write.proofs.Sending.{adds_same}
use Rattle.index_write.proofs.pieced_front.put_term.Goals as goal

pub returns : goal.returns
returns g c =
    let term = c.args.term.now in
    let k = c.shared_len-shared.result in
    adds_same g.C.Cabinet c.args.file.now
    (term_joined c.args.before.now term c.two_numbers-head.result (take (length term - k) (drop k term)) k c.shared_len-shared.ensures.shared c.two_numbers-head.ensures (take_rest term k)) c.put_text.ensures

use Rattle.std.proofs.Common.{subst, ◌≡◌, Err, rules}
use Rattle.jass_top.proofs.Below.{codec_use, CodecUse, Wrote}
use Rattle.jass_top.specs.TrialMeaning.{codecs_text, size_text}
use Rattle.jass_top.proofs.Wholes.{cut, both}
use Rattle.jass_top.proofs.trial_lines.put_use.Goals as goal

pub returns-in_err-put_size : goal.returns-in_err-put_size
returns-in_err-put_size g c =
    let out : c.from_residual.result ≡ Err c.in_err-put_size.field-0.0 = search rules in
    rw out (cut g.O.Sink.written g.O.Sink.faults g.O.Sink.rest c.args.out.now c.put_size.new.out (size_text c.args.index.now.index) (codecs_text (codec_use c.args.index.now.codecs)) c.in_err-put_size.field-0.0 c.in_err-put_size.field-0.0 c.in_err-put_size.ensures)

pub returns : goal.returns
returns g c =
    both g.O.Sink.written g.O.Sink.faults g.O.Sink.rest c.args.out.now c.put_size.new.out c.put_codecs.new.out (size_text c.args.index.now.index) (codecs_text (codec_use c.args.index.now.codecs)) _ c.put_codecs.result c.in_ok-put_size.ensures
    (subst (λ (uses : CodecUse). Wrote g.O.Sink.written g.O.Sink.faults g.O.Sink.rest c.put_size.new.out c.put_codecs.new.out (codecs_text uses) c.put_codecs.result) c.codecs.ensures c.put_codecs.ensures)

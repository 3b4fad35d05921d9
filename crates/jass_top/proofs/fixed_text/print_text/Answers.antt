use Rattle.std.proofs.Common.{◌≡◌, [], refl, subst, inl, inr, arith, rules}
use Rattle.shared_lemmas.proofs.Common.{Appends}
use Rattle.jass_top.proofs.Below.{AppendsPrefix}
use Rattle.jass_top.specs.TextMeaning.{text_output}
use Rattle.jass_top.proofs.Stopping.{ran_on_output, uncounted}
use Rattle.jass_top.proofs.fixed_text.print_text.Goals as goal

pub returns-in-Ok : goal.returns-in-Ok
returns-in-Ok g c = λ beside. ran_on_output refl refl refl refl refl refl refl c.in-Ok.ensures.stays (record {
  inputs = tt;
  input = [];
  output = text_output c.args.text.now;
  accepted = inr refl;
  had = λ feeds. cc;
  exact = refl;
  left = record { content = refl; text = (let is : c.as_bytes.result.now ≡ c.args.text.now = search rules in subst (Appends (g.O.Sink.written c.args.out.now) (g.O.Sink.written c.put.new.self)) is c.in-Ok.ensures.bytes); steps = omega arith };
})

pub returns-in-Err : goal.returns-in-Err
returns-in-Err g c = λ beside. ran_on_output refl refl refl refl refl refl refl c.in-Err.ensures.stays (
  inl (refl, refl, c.in-Err.ensures.cause.failed),
  record { inputs = tt; accepted = inr refl; stands = record { told = refl; text = (let is : c.as_bytes.result.now ≡ c.args.text.now = search rules in subst (AppendsPrefix (g.O.Sink.written c.args.out.now) (g.O.Sink.written c.put.new.self)) is c.in-Err.ensures.bytes); steps = uncounted _ _ 0 refl } },
)

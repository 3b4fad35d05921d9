use Rattle.std.proofs.Common.{◌/◌, ◌^◌}
use Rattle.codec_simple8.proofs.Fours.{masked_fits, four_fields}
use Rattle.codec_simple8.proofs.rows.fields4.Goals as goal

pub overflow_cast-low : goal.overflow_cast-low
overflow_cast-low c =
    let x = c.requires.pair.0 in
    rw c.requires.pair.1 (record { fits = masked_fits x c.args.width c.requires.width }, (record { fits = masked_fits (x / 2 ^ c.args.width) c.args.width c.requires.width }, tt))

pub overflow_cast-high : goal.overflow_cast-high
overflow_cast-high c =
    let x = c.requires.pair.0 in
    rw c.requires.pair.1 (
      record { fits = masked_fits (x / 2 ^ c.from.result) c.args.width c.requires.width },
      (record { fits = masked_fits (x / 2 ^ c.args.width / 2 ^ c.from.result) c.args.width c.requires.width }, tt),
    )

pub returns : goal.returns
returns c = λ x is. rw is (four_fields x c.args.width c.from.result c.requires.width c.from.ensures)
